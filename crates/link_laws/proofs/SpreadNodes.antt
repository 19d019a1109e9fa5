-- A spread of which no fault is told leaves each node right.
use Rattle.std.proofs.Common.{◌≡◌, ◌≢◌, ℕ, List, true, false, not, ◌==◌, ◌&&◌, refl, ap, sym, ◌∙◌, subst, arith, Option, Some, None, option_map}
use Rattle.std.specs.Prelude.{unwrap_or, is_some}
use Rattle.std.proofs.lemmas.Bool.{and_from, ne_eqb, eq-eqb}
use Rattle.algebra.specs.Members.{◌∈◌}
use Rattle.uv_lock.specs.declared.texture.Format.{Format}
use Rattle.uv_lock.specs.declared.texture.Format.TheVariants.{Standard}
use Rattle.map_model.specs.Motions.{stay, between, is_signed_permutation}
use Rattle.map_model.specs.Tree.{Whole, Node, World, Layer, Group, Entity, Brush, world, group, at, up, content, link_at, set_at, other_members, all_numbers, is_one_number, format_of, format_of_node}
use Rattle.map_model.specs.Edits.{renumber}
use Rattle.map_model.specs.Shape.{Shape, NodeOk, EachNode}
use Rattle.map_model.specs.Below.{Below, IsRight}
use Rattle.map_model.specs.Links.{leads, image, old_node, old_number, put_content, put_contents, spread_fault, member_fault, image_fault_at}
use Rattle.map_laws.proofs.Lists.{by_eq, tally-member}
use Rattle.map_laws.proofs.Beneath.{Beneath, itself, under}
use Rattle.map_laws.proofs.Forest.{not_none}
use Rattle.map_laws.proofs.Skeleton.{kind_at, planted}
use Rattle.map_laws.proofs.Slots.{by_bool}
use Rattle.map_laws.proofs.Replacing.{tally-numbers_in}
use Rattle.map_laws.proofs.Renewing.{linked_is}
use Rattle.map_laws.proofs.MovedFaces.{mapped}
use Rattle.map_laws.proofs.MovedNodes.{CanBeMoved}
use Rattle.link_laws.specs.Images.{OldOk}
use Rattle.link_laws.proofs.Pairs.{none_or_some}
use Rattle.link_laws.proofs.Putting.{Pair, with_lists, D, O, D_out, at_new, at_gone, at_h, at_other}
use Rattle.link_laws.proofs.Members.{stays}
use Rattle.link_laws.proofs.Spreading.{Field, Source, pair_of, content_p, node_p, one_step}
use Rattle.link_laws.proofs.Keeping.{by_steps}
use Rattle.link_laws.proofs.Ones.{Linked, field, source, root, cm, no_if, no_first, fault_of}
use Rattle.link_laws.proofs.Filtering.{member_filter}
use Rattle.link_laws.proofs.SpreadOne.{other_is, set_linked}
use Rattle.link_laws.proofs.Permutations.{leads_signed}
use Rattle.link_laws.proofs.ImageNodes.{image_ok, renumber_ok, can_be_moved}

lists_ok : (f : Format) (bs os : List ℕ) (x : Node) → NodeOk f x → NodeOk f (with_lists bs os x)
lists_ok f bs os (World own props brushes others) h = h
lists_ok f bs os (Layer name frozen props brushes others) h = h
lists_ok f bs os (Group parent mark name link props brushes others) h = h
lists_ok f bs os (Entity parent mark props protected brushes) h = h
lists_ok f bs os (Brush parent mark faces) h = h

-- A linked group of the set of another is one of its other members.
pub is_other : (m : Whole) (g h : ℕ) → Shape m → Linked m h → set_at m g ≡ set_at m h → h ≢ g → h ∈ other_members m g
is_other m g h shape linked same ne = none_or_some (link_at m h)
    (λ e. absurd (clash (sym (ap is_some e) ∙ sym (linked_is m h) ∙ linked)))
    (λ l e.
    let low = (cm m shape).below h (root m shape h linked) in
    let own : set_at m h ≡ Some l.set = ap (option_map (λ l. l.set)) e in
    member_filter (λ h. not (h == g) && is_one_number (set_at m h) (set_at m g)) h (all_numbers m)
    (tally-member h (all_numbers m) (omega (arith, tally-numbers_in 0 m.next h (omega arith) (omega (arith, low)))))
    (and_from (not (h == g)) _ (ap not (ne_eqb h g ne)) ((λ i. is_one_number (own i) ((same ∙ own) i)) ∙ eq-eqb l.set l.set refl)))
  where
    clash : false ≡ true → ⊥
    clash e = cc

-- What each step of the spread keeps.
pub record Kept (m : Whole) (g : ℕ) (k : Whole) : Type 0 where
  pub each : (q : ℕ) (x : Node) → at k q ≡ Some x → NodeOk (format_of m) x
  pub same : content k g ≡ content m g
  pub nodes : (q : ℕ) → q ∈ content m g → at k q ≡ at m q
  pub links : (p : ℕ) → Linked m p → link_at k p ≡ link_at m p
  pub world : at k 0 ≡ at m 0

module _ (b : Below) (m : Whole) (g : ℕ) (right : IsRight b) (shape : Shape m) (linked : Linked m g) (none : spread_fault b m g ≡ None) where
  module _ (k : Whole) (h : ℕ) (F : Field (Linked m) k) (S : Source k g) (i : Linked m h) (t : set_at m g ≡ set_at m h) (ne : g ≢ h) (c : Kept m g k) where
    P : Pair k g h
    P = pair_of (Linked m) k F g h linked i ne S

    leads_same : leads k g h ≡ leads m g h
    leads_same = λ z. between (unwrap_or (option_map (λ l. l.motion) (c.links g linked z)) stay) (unwrap_or (option_map (λ l. l.motion) (c.links h i z)) stay)

    old_right : (q : ℕ) → OldOk (format_of m) (old_node k h q)
    old_right q = by (old_number k h q)
      where
        slot : (x : ℕ) (o : Option Node) → at k x ≡ o → OldOk (format_of m) o
        slot x None e = tt
        slot x (Some y) e = c.each x y e

        by : (o : Option ℕ) → OldOk (format_of m) (elim o as (λ o. Option Node) [ None ↦ None | Some k2 ↦ at k k2 ])
        by None = tt
        by (Some x) = slot x (at k x) refl

    moves : (q : ℕ) (y : Node) → q ∈ content k g → at k q ≡ Some y → CanBeMoved b true (leads k g h) y
    moves q y j e =
        let in_m : q ∈ content m g = subst (λ l. q ∈ l) c.same j in
        let f = no_first (member_fault b m g) (other_members m g) none h (is_other m g h shape i t (λ s. ne (sym s))) in
        let n = no_if _ _ _ f in
        subst (λ r. CanBeMoved b true r y) (sym leads_same)
        (can_be_moved b h q (leads m g h) y (fault_of b m h q (leads m g h) y (sym (c.nodes q in_m) ∙ e) (no_first (image_fault_at b m h (leads m g h)) (content m g) n.1 q in_m)))

    new_right : (f : ℕ → ℕ) (q : ℕ) (x : Node) → q ∈ content k g → option_map (λ x. renumber f (image (leads k g h) x (old_node k h q))) (at k q) ≡ Some x → NodeOk (format_of m) x
    new_right f q x j e =
        let w = mapped (λ x. renumber f (image (leads k g h) x (old_node k h q))) (at k q) x e in
        subst (NodeOk (format_of m)) w.2 (renumber_ok (format_of m) f (image (leads k g h) w.0 (old_node k h q))
        (image_ok b (leads k g h) (format_of m) w.0 (old_node k h q) right (ap (λ r. is_signed_permutation r.matrix) leads_same ∙ leads_signed m shape.each_node g h) (c.each q w.0 w.1) (old_right q) (moves q w.0 j w.1)))

    each_next : (q : ℕ) (x : Node) → at (put_content g h k) q ≡ Some x → NodeOk (format_of m) x
    each_next q x e = by_bool (D k g h P q)
        (λ d. let w = D_out k g h P q d in new_right _ w.0 x w.1 (sym (at_new k g h P w.0 w.1) ∙ ap (at (put_content g h k)) w.2 ∙ e))
        (λ d. by_bool (O k g h P q)
        (λ o. absurd (no_slot (sym (at_gone k g h P q d o) ∙ e)))
        (λ o. by_eq q h
        (λ s. let w = mapped _ (at k h) x (sym (at_h k g h P) ∙ ap (at (put_content g h k)) (sym s) ∙ e) in subst (NodeOk (format_of m)) w.2 (lists_ok (format_of m) _ _ w.0 (c.each h w.0 w.1)))
        (λ far. c.each q x (sym (at_other k g h P q d o far) ∙ e))))
      where
        no_slot : ◌≡◌ {A = Option Node} None (Some x) → ⊥
        no_slot e = cc

    not_world : {q : ℕ} → Beneath (up k) h q → q ≡ 0 → ⊥
    not_world itself s = differ (sym (F.groups h i) ∙ ap (kind_at k) s ∙ (planted F.placed).world_stands)
      where
        differ : Some group ≡ Some world → ⊥
        differ e = cc
    not_world (under q p e w) s = not_none e (ap (up k) s ∙ (planted F.placed).top)

    pub kept_next : Kept m g (put_content g h k)
    kept_next = record {
      each = each_next;
      same = content_p (Linked m) k F g h linked i ne S g linked ne ∙ c.same;
      nodes = λ q j. node_p (Linked m) k F g h linked i ne S g q linked ne (subst (λ l. q ∈ l) (sym c.same) j) ∙ c.nodes q j;
      links = λ p x. (one_step (Linked m) k F g h linked i ne S).links p x ∙ c.links p x;
      world = stays k g h P 0 itself (λ w. not_world w refl) ∙ c.world;
    }

  linked_h : (h : ℕ) → h ∈ other_members m g → Linked m h
  linked_h h i = let o = other_is m g h i in set_linked m h o.set o.own

  kept_all : Kept m g (put_contents g (other_members m g) m)
  kept_all = by_steps (Linked m) (λ h. set_at m g ≡ set_at m h) g (Kept m g) (λ k h F S i t ne c. kept_next k h F S i t ne c) (other_members m g) m (field m shape) (source m shape g linked) linked linked_h
      (λ h i. let o = other_is m g h i in o.same ∙ sym o.own) (λ i. (other_is m g g i).apart refl)
      (record { each = shape.each_node; same = refl; nodes = λ q i. refl; links = λ p x. refl; world = refl })

  pub each_spread : EachNode (put_contents g (other_members m g) m)
  each_spread q x e = subst (λ f. NodeOk f x) (sym (ap (λ o. unwrap_or (option_map format_of_node o) Standard) kept_all.world)) (kept_all.each q x e)
