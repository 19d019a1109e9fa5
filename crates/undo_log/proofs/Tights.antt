-- What leads back from a tight change is tight.
use Rattle.std.proofs.Common.{◌≡◌, ◌≢◌, ℕ, zero, suc, ◌<◌, List, [], ◌∷◌, length, get_or, map, Option, Bool, true, false, cond, ◌==◌, refl, ap, sym, ◌∙◌, subst, arith, eq-eqb, ne_eqb}
use Rattle.std.proofs.Math.ListN.{get_or-map, length-map}
use Rattle.algebra.specs.Members.{◌∈◌, here, there}
use Rattle.algebra.proofs.Members.{IsAt, at_of_member, member_at}
use Rattle.map_nodes.specs.declared.entry.Entry.{Entry}
use Rattle.map_model.specs.Tree.{Whole, at}
use Rattle.map_model.specs.Edits.{Apart, Changes, swap, with_entries}
use Rattle.map_model.specs.History.{Tight}
use Rattle.tree_node.specs.Held.{numbers_of}

id_of : Entry → ℕ
id_of e = e.id

-- The number at a place, among the entries and among their numbers.
number_at : (es : List Entry) (i : ℕ) (e : Entry) → get_or (numbers_of es) i e.id ≡ (get_or es i e).id
number_at es i e = get_or-map (λ (x : Entry). x.id) es i e

pub same_number : (es fs : List Entry) → numbers_of es ≡ numbers_of fs → (i : ℕ) (e : Entry) → (get_or es i e).id ≡ (get_or fs i e).id
same_number es fs same i e = sym (number_at es i e) ∙ ap (λ l. get_or l i e.id) same ∙ number_at fs i e

pub same_count : (es fs : List Entry) → numbers_of es ≡ numbers_of fs → length es ≡ length fs
same_count es fs same = sym (length-map es (λ (x : Entry). x.id)) ∙ ap length same ∙ length-map fs (λ (x : Entry). x.id)

-- Numbers that stand once stand once, whatever the nodes are.
pub apart_again : (es fs : List Entry) → numbers_of es ≡ numbers_of fs → Apart fs → Apart es
apart_again es fs same apart i j e f lt within eq =
    apart i j e f lt (let n : length es ≡ length fs = same_count es fs same in omega arith)
    (sym (same_number es fs same i e) ∙ eq ∙ same_number es fs same j f)

-- Another entry has each number.
pub entry_of : (es fs : List Entry) → numbers_of es ≡ numbers_of fs → (e : Entry) → e ∈ es → (f : Entry) × (f ∈ fs) × (f.id ≡ e.id)
entry_of es fs same e i =
    let place = at_of_member es e e i in
    let within : place.index < length fs = let n : length es ≡ length fs = same_count es fs same in let w = place.within in omega arith in
    (get_or fs place.index e, member_at fs place.index e within, sym (same_number es fs same place.index e) ∙ ap (λ (x : Entry). x.id) place.is)

apart_tail : (x : Entry) (es : List Entry) → Apart (x ∷ es) → Apart es
apart_tail x es apart i j e f lt within = apart (suc i) (suc j) e f (omega arith) (omega arith)

apart_head : (x : Entry) (es : List Entry) → Apart (x ∷ es) → (e : Entry) → e ∈ es → e.id ≢ x.id
apart_head x es apart e i eq =
    let place = at_of_member es e e i in let w = place.within in
    apart 0 (suc place.index) e e (omega arith) (omega arith) (sym eq ∙ ap (λ (y : Entry). y.id) (sym place.is))

-- The map after a change has its nodes.
pub at_entry : (m : Whole) (es : List Entry) → Apart es → (e : Entry) → e ∈ es → at (with_entries es m) e.id ≡ e.node
at_entry m [] apart e i = elim i [ ]
at_entry m (x ∷ es) apart e here = ap (λ b. cond b e.node (at (with_entries es m) e.id)) (eq-eqb e.id e.id refl)
at_entry m (x ∷ es) apart e (there i) =
    ap (λ b. cond b x.node (at (with_entries es m) e.id)) (ne_eqb e.id x.id (apart_head x es apart e i))
    ∙ at_entry m es (apart_tail x es apart) e i

pub tight_back : (m : Whole) (c d : Changes) → Tight m c → numbers_of d.entries ≡ numbers_of c.entries → swap (swap m c) d ≡ m → Tight (swap m c) d
tight_back m c d tight same back =
    let apart = apart_again d.entries c.entries same tight.apart in
    record {
      apart = apart;
      differs = λ e i stays.
          let other = entry_of d.entries c.entries same e i in
          tight.differs other.0 other.1
          (ap (at m) other.2 ∙ sym (ap (λ x. at x e.id) back) ∙ at_entry (swap m c) d.entries apart e i
          ∙ sym stays ∙ sym (ap (at (swap m c)) other.2) ∙ at_entry m c.entries tight.apart other.0 other.1);
    }
