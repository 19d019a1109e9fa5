-- The sides of brushes, one after another.
use Rattle.std.proofs.Common.{◌≡◌, ℕ, ◌+◌, ◌<◌, ◌≤◌, List, [], ◌∷◌, ◌++◌, length, take, get_or, ap, sym, ◌∙◌, append_assoc}
use Rattle.std.proofs.lemmas.List.{append-nil, take_all, take_more}
use Rattle.solid_brush.specs.declared.side.Side.{Side}
use Rattle.csg_ops.specs.Cuts.{all_sides}

all_and_last : (solids : List (List Side)) (s : List Side) → all_sides (solids ++ s ∷ []) ≡ all_sides solids ++ s
all_and_last [] s = append-nil s
all_and_last (x ∷ solids) s = ap (λ l. x ++ l) (all_and_last solids s) ∙ sym (append_assoc x (all_sides solids) s)

pub one_more_joined : (solids : List (List Side)) (i : ℕ) (s all new : List Side) → i < length solids → s ≡ get_or solids i s → all ≡ all_sides (take i solids) → new ≡ all ++ s → new ≡ all_sides (take (i + 1) solids)
one_more_joined solids i s all new lt is so_far more =
    more ∙ (λ k. so_far k ++ is k) ∙ sym (all_and_last (take i solids) (get_or solids i s)) ∙ ap all_sides (sym (take_more solids i s lt))
