-- Blocks as brushes, the first with too many faces refused.
use Rattle.std.proofs.Common.{◌≡◌, ℕ, zero, suc, ◌<◌, List, [], ◌∷◌, ◌++◌, length, take, drop, get_or, add-one, ap, subst, sym, ◌∙◌, arith}
use Rattle.std.proofs.lemmas.List.{take_all, length_push}
use Rattle.algebra.specs.Members.{here, there, Every}
use Rattle.algebra.proofs.Members.{each_of_more, each_of_none}
use Rattle.solid_brush.specs.declared.side.Side.{Side}
use Rattle.solid_brush.specs.declared.meet_fault.MeetFault.{MeetFault}
use Rattle.solid_brush.specs.declared.meet_fault.MeetFault.TheVariants.{TooManyFaces as Overfull, Memory as NoMemory}
use Rattle.solid_brush.specs.Sides.{IsSolid}
use Rattle.solid_brush.specs.Blocks.{IsTrimmedTo, IsOverfull}
use Rattle.csg_ops.specs.Faults.{overfull, later_overfull, IsOneOverfull, intersect_fault_of, subtract_fault_of}
use Rattle.csg_ops.specs.Cuts.{all_sides, IsNoIntersectionFor, HasPieces, IsNoDifferenceFor}
use Rattle.csg_ops.proofs.Halving.{few_of_solid}

passed : (solids : List (List Side)) (block : List Side) (later : List (List Side)) (why : MeetFault) → Every IsSolid solids → IsOverfull block why → IsOneOverfull (solids ++ block ∷ later) why
passed solids block later NoMemory each h = tt
passed [] block later (Overfull n) each h = overfull h.0 h.1
passed (solid ∷ solids) block later (Overfull n) each h = later_overfull (few_of_solid (each solid here)) (passed solids block later (Overfull n) (λ s m. each s (there m)) h)

-- ---- the blocks so far
next_block : {A : Type 0} (xs : List A) (k : ℕ) (x : A) → k < length xs → x ≡ get_or xs k x → take k xs ++ x ∷ [] ≡ take (suc k) xs
next_block [] k x l e = absurd (omega arith)
next_block (y ∷ xs) zero x l e = ap (λ z. z ∷ []) e
next_block (y ∷ xs) (suc k) x l e = ap (λ z. y ∷ z) (next_block xs k x (omega arith) e)

later_blocks : {A : Type 0} (xs : List A) (k : ℕ) (x : A) → k < length xs → x ≡ get_or xs k x → take k xs ++ x ∷ drop (suc k) xs ≡ xs
later_blocks [] k x l e = absurd (omega arith)
later_blocks (y ∷ xs) zero x l e = ap (λ z. z ∷ xs) e
later_blocks (y ∷ xs) (suc k) x l e = ap (λ z. y ∷ z) (later_blocks xs k x (omega arith) e)

each_pushed : {A : Type 0} (P : A → Type 0) (xs : List A) (x : A) → Every P xs → P x → Every P (xs ++ x ∷ [])
each_pushed P [] x each p = each_of_more P x [] p (each_of_none P)
each_pushed P (y ∷ xs) x each p = each_of_more P y (xs ++ x ∷ []) (each y here) (each_pushed P xs x (λ z m. each z (there m)) p)

-- The first blocks are brushes.
pub record AreFirst (blocks : List (List Side)) (n : ℕ) (solids : List (List Side)) : Type 0 where
  pub same : solids ≡ take n blocks
  pub solid : Every IsSolid solids

pub none_first : (blocks solids : List (List Side)) → solids ≡ [] → AreFirst blocks 0 solids
none_first blocks solids q = record { same = q; solid = subst (Every IsSolid) (sym q) (each_of_none IsSolid) }

pub one_first : (blocks yielded solids after : List (List Side)) (block solid : List Side) → AreFirst blocks (length yielded) solids → length yielded < length blocks → block ≡ get_or blocks (length yielded) block →
    solid ≡ block → IsSolid solid → after ≡ solids ++ solid ∷ [] → AreFirst blocks (length (yielded ++ block ∷ [])) after
one_first blocks yielded solids after block solid f l e q i p = subst (λ n. AreFirst blocks n after) (sym (length_push yielded block)) (record {
  same = p ∙ ap (λ s. solids ++ s ∷ []) q ∙ ap (λ s. s ++ block ∷ []) f.same ∙ next_block blocks (length yielded) block l e ∙ ap (λ n. take n blocks) (sym (add-one (length yielded)));
  solid = subst (Every IsSolid) (sym p) (each_pushed IsSolid solids solid f.solid i);
})

pub all_first : (blocks solids : List (List Side)) (n : ℕ) → AreFirst blocks n solids → n ≡ length blocks → solids ≡ blocks
all_first blocks solids n f q = f.same ∙ take_all n blocks (omega arith)

-- The blocks before one with too many faces are brushes.
pub one_overfull : (blocks solids : List (List Side)) (n : ℕ) (block : List Side) (why : MeetFault) → AreFirst blocks n solids → n < length blocks → block ≡ get_or blocks n block → IsOverfull block why → IsOneOverfull blocks why
one_overfull blocks solids n block why f l e h =
    subst (λ list. IsOneOverfull list why) (ap (λ s. s ++ block ∷ drop (suc n) blocks) f.same ∙ later_blocks blocks n block l e) (passed solids block (drop (suc n) blocks) why f.solid h)

pub intersection_overfull : (solids : List (List Side)) {block : List Side} → IsTrimmedTo (all_sides solids) block → (why : MeetFault) → IsOverfull block why → IsNoIntersectionFor solids (intersect_fault_of why)
intersection_overfull solids {block} t (Overfull n) h = record { kept = block; trimmed = t; count = h.0; above = h.1 }
intersection_overfull solids t NoMemory h = tt

pub piece_overfull : (a b : List Side) {pieces : List (List Side)} → HasPieces a b pieces → (why : MeetFault) → IsOneOverfull pieces why → IsNoDifferenceFor a b (subtract_fault_of why)
piece_overfull a b {pieces} p (Overfull n) h = record { pieces = pieces; have = p; first = h }
piece_overfull a b p NoMemory h = tt
