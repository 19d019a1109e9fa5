-- Brushes that get other faces, one after another.
use Rattle.std.proofs.Common.{◌≡◌, ℕ, suc, ◌+◌, ◌<◌, ◌≤◌, List, [], ◌∷◌, length, drop, get_or, refl, ap, sym, ◌∙◌, drop-cons, add-one}
use Rattle.std.proofs.lemmas.List.{drop_all}
use Rattle.map_model.specs.Tree.{Whole}
use Rattle.map_model.specs.Edits.{each_in_turn}
use Rattle.vertex_plans.specs.declared.putting.NewBody.{NewBody}
use Rattle.vertex_plans.specs.Putting.{put_body}

pub put_one : (list : List NewBody) (k : ℕ) (start now new : Whole) (one : NewBody) → k < length list → one ≡ get_or list k one → each_in_turn put_body (drop k list) now ≡ each_in_turn put_body list start → new ≡ put_body one now →
    each_in_turn put_body (drop (k + 1) list) new ≡ each_in_turn put_body list start
put_one list k start now new one lt is so_far e =
    (λ i. each_in_turn put_body (drop (add-one k i) list) (e i))
    ∙ sym (ap (λ l. each_in_turn put_body l now) (drop-cons list k one lt ∙ ap (λ x. x ∷ drop (suc k) list) (sym is)))
    ∙ so_far

pub put_all : (list : List NewBody) (k : ℕ) (start now : Whole) → length list ≤ k → each_in_turn put_body (drop k list) now ≡ each_in_turn put_body list start → now ≡ each_in_turn put_body list start
put_all list k start now le e = sym (ap (λ l. each_in_turn put_body l now) (drop_all k list le)) ∙ e
