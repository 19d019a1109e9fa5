-- The nodes of a map, one after another.
use Rattle.std.proofs.Common.{◌≡◌, ℕ, ◌+◌, suc, ◌<◌, ◌≤◌, List, ◌∷◌, length, drop, get_or, ap, sym, ◌∙◌, arith, drop-cons, add-one}
use Rattle.std.proofs.lemmas.List.{drop_all}
use Rattle.map_model.specs.Tree.{Whole, at}
use Rattle.map_model.specs.Below.{Below, IsRight}
use Rattle.obj_export.specs.declared.obj.Obj.{Obj}
use Rattle.obj_export.specs.Text.{with_node, with_nodes}
use Rattle.obj_export.specs.Adding.{AddsNode, AddsNodes}
use Rattle.obj_export.specs.Counted.{IsCounted}

-- The first i nodes are added: with those that are left it is the whole text.
pub record Added (m : Whole) (ns : List ℕ) (start o : Obj) (i : ℕ) : Type 0 where
  pub counted : IsCounted o
  pub rest : (b : Below) → IsRight b → with_nodes b m (drop i ns) o ≡ with_nodes b m ns start

pub one_node_more : (m : Whole) (ns : List ℕ) (start old new : Obj) (i n : ℕ) → i < length ns → n ≡ get_or ns i n → Added m ns start old i →
    AddsNode m n old new → IsCounted new → Added m ns start new (i + 1)
one_node_more m ns start old new i n lt is a adds counted = record {
  counted = counted;
  rest = λ b right.
      ap (λ k. with_nodes b m (drop k ns) new) (add-one i)
      ∙ ap (λ o. with_nodes b m (drop (suc i) ns) o) (adds b right)
      ∙ ap (λ k. with_nodes b m (drop (suc i) ns) (with_node b (at m k) old)) is
      ∙ sym (ap (λ l. with_nodes b m l old) (drop-cons ns i n lt))
      ∙ a.rest b right;
}

pub all_added : (m : Whole) (ns : List ℕ) (start o : Obj) (i : ℕ) → length ns ≤ i → Added m ns start o i → AddsNodes m ns start o
all_added m ns start o i le a b right = sym (ap (λ l. with_nodes b m l o) (drop_all i ns le)) ∙ a.rest b right
