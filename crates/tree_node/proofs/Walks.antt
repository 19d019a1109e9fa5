-- A walk through a tree by a stack, whose last item is the next one.
use Rattle.std.proofs.Common.{◌≡◌, ℕ, zero, suc, ◌+◌, ◌-◌, ◌<◌, ◌≤◌, List, [], ◌∷◌, ◌++◌, length, get_or, drop, flat_map, refl, ap, ap₂, sym, ◌∙◌, arith, append_assoc, length-append, drop-cons, add-one}
use Rattle.std.proofs.lemmas.List.{append-nil}
use Rattle.map_model.specs.Tree.{Whole, children, preorder, preorder_by}
use Rattle.tree_node.specs.declared.preorder.Waiting.{Waiting}
use Rattle.tree_node.specs.Walk.{stacked}

-- what is still to be listed
abbrev pub listed : Whole → List Waiting → List ℕ
listed m [] = []
listed m (w ∷ ws) = listed m ws ++ preorder_by w.levels m w.id

listed_top : (m : Whole) (ws : List Waiting) (w : Waiting) → listed m (ws ++ w ∷ []) ≡ preorder_by w.levels m w.id ++ listed m ws
listed_top m [] w = sym (append-nil (preorder_by w.levels m w.id))
listed_top m (x ∷ ws) w = ap (λ l. l ++ preorder_by x.levels m x.id) (listed_top m ws w) ∙ append_assoc (preorder_by w.levels m w.id) (listed m ws) (preorder_by x.levels m x.id)

listed_children : (m : Whole) (ws : List Waiting) (k : ℕ) (ns : List ℕ) → listed m (ws ++ stacked k ns) ≡ flat_map (preorder_by k m) ns ++ listed m ws
listed_children m ws k [] = ap (listed m) (append-nil ws)
listed_children m ws k (n ∷ ns) =
    let w : Waiting = record { id = n; levels = k } in
    ap (listed m) (sym (append_assoc ws (stacked k ns) (w ∷ []))) ∙ listed_top m (ws ++ stacked k ns) w
    ∙ ap (λ l. preorder_by k m n ++ l) (listed_children m ws k ns) ∙ sym (append_assoc (preorder_by k m n) (flat_map (preorder_by k m) ns) (listed m ws))

-- what is found, and then what is still to be listed, is all that is asked for
pub record Walking (m : Whole) (n : ℕ) (found : List ℕ) (waiting : List Waiting) : Type 0 where
  pub all : found ++ listed m waiting ≡ preorder m n

pub walk_starts : (m : Whole) (n : ℕ) (waiting : List Waiting) → waiting ≡ record { id = n; levels = m.next } ∷ [] → Walking m n [] waiting
walk_starts m n waiting e = record { all = ap (listed m) e }

one_level : (k : ℕ) → 0 < k → k ≡ suc (k - 1)
one_level k h = omega arith

pub one_level_more : (k : ℕ) → 0 < k → k ≡ (k - 1) + 1
one_level_more k h = omega arith

no_level : (k : ℕ) → k ≤ 0 → k ≡ 0
no_level k h = omega arith

pub walk_past : (m : Whole) (n : ℕ) (found : List ℕ) (waiting ws : List Waiting) (top : Waiting) → top.levels ≤ 0 → waiting ≡ ws ++ top ∷ [] → Walking m n found waiting → Walking m n found ws
walk_past m n found waiting ws top z e w = record {
  all = ap (λ l. found ++ l) (sym (ap (listed m) e ∙ listed_top m ws top ∙ ap (λ k. preorder_by k m top.id ++ listed m ws) (no_level top.levels z))) ∙ w.all;
}

pub walk_on : (m : Whole) (n : ℕ) (found : List ℕ) (waiting ws more : List Waiting) (top : Waiting) → 0 < top.levels → waiting ≡ ws ++ top ∷ [] → more ≡ ws ++ stacked (top.levels - 1) (children m top.id)
    → Walking m n found waiting → Walking m n (found ++ top.id ∷ []) more
walk_on m n found waiting ws more top lt e f w = record {
  all = append_assoc found (top.id ∷ []) (listed m more)
      ∙ ap (λ l. found ++ top.id ∷ l) (ap (listed m) f ∙ listed_children m ws (top.levels - 1) (children m top.id))
      ∙ ap (λ l. found ++ l) (sym (ap (listed m) e ∙ listed_top m ws top ∙ ap (λ k. preorder_by k m top.id ++ listed m ws) (one_level top.levels lt)))
      ∙ w.all;
}

pub walk_ends : (m : Whole) (n : ℕ) (found : List ℕ) (waiting : List Waiting) → waiting ≡ [] → Walking m n found waiting → found ≡ preorder m n
walk_ends m n found waiting e w = sym (append-nil found) ∙ ap (λ l. found ++ listed m l) (sym e) ∙ w.all

-- how many turns are left: one for each number that is listed, and one for each that is too deep
abbrev pub turns_by : ℕ → Whole → ℕ → List ℕ
turns_by zero m n = n ∷ []
turns_by (suc k) m n = n ∷ flat_map (turns_by k m) (children m n)

abbrev pub turns : Whole → List Waiting → List ℕ
turns m [] = []
turns m (w ∷ ws) = turns_by w.levels m w.id ++ turns m ws

abbrev pub weight : Whole → List Waiting → ℕ
weight m ws = length (turns m ws)

weight_more : (m : Whole) (xs ys : List Waiting) → weight m (xs ++ ys) ≡ weight m xs + weight m ys
weight_more m [] ys = omega arith
weight_more m (x ∷ xs) ys =
    omega (arith, length-append (turns_by x.levels m x.id) (turns m (xs ++ ys)), length-append (turns_by x.levels m x.id) (turns m xs), weight_more m xs ys)

weight_children : (m : Whole) (k : ℕ) (ns : List ℕ) → weight m (stacked k ns) ≡ length (flat_map (turns_by k m) ns)
weight_children m k [] = refl
weight_children m k (n ∷ ns) =
    let w : List Waiting = record { id = n; levels = k } ∷ [] in
    omega (arith, weight_more m (stacked k ns) w, length-append (turns_by k m n) [], length-append (turns_by k m n) (flat_map (turns_by k m) ns), weight_children m k ns)

pub lighter_past : (m : Whole) (waiting ws : List Waiting) (top : Waiting) → top.levels ≤ 0 → waiting ≡ ws ++ top ∷ [] → weight m ws < weight m waiting
lighter_past m waiting ws top z e =
    omega (arith, ap (weight m) e, weight_more m ws (top ∷ []), length-append (turns_by top.levels m top.id) [], ap (λ k. length (turns_by k m top.id)) (no_level top.levels z))

pub lighter_on : (m : Whole) (waiting ws more : List Waiting) (top : Waiting) → 0 < top.levels → waiting ≡ ws ++ top ∷ [] → more ≡ ws ++ stacked (top.levels - 1) (children m top.id) → weight m more < weight m waiting
lighter_on m waiting ws more top lt e f =
    let k = top.levels - 1 in
    omega (
      arith,
      ap (weight m) e,
      ap (weight m) f,
      weight_more m ws (top ∷ []),
      weight_more m ws (stacked k (children m top.id)),
      weight_children m k (children m top.id),
      length-append (turns_by top.levels m top.id) [],
      ap (λ j. length (turns_by j m top.id)) (one_level top.levels lt),
    )

-- numbers on the stack, the last first
pub stacked_more : (levels : ℕ) (ids : List ℕ) (k x : ℕ) → k < length ids → x ≡ get_or ids k x → stacked levels (drop k ids) ≡ stacked levels (drop (k + 1) ids) ++ record { id = x; levels = levels } ∷ []
stacked_more levels ids k x lt e =
    ap (stacked levels) (drop-cons ids k x lt) ∙ ap₂ (λ n j. stacked levels (drop j ids) ++ record { id = n; levels = levels } ∷ []) (sym e) (sym (add-one k))

pub stacked_append : (levels : ℕ) (xs ys : List ℕ) → stacked levels (xs ++ ys) ≡ stacked levels ys ++ stacked levels xs
stacked_append levels [] ys = sym (append-nil (stacked levels ys))
stacked_append levels (x ∷ xs) ys =
    let w : List Waiting = record { id = x; levels = levels } ∷ [] in
    ap (λ l. l ++ w) (stacked_append levels xs ys) ∙ append_assoc (stacked levels ys) (stacked levels xs) w
