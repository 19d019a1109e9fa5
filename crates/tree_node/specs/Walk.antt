-- The stack of a walk through a tree: the last item is the next one to be listed.
use Rattle.std.specs.Prelude.{ℕ, List, [], ◌∷◌, ◌++◌}
use Rattle.tree_node.specs.declared.preorder.Waiting.{Waiting}

-- Numbers on the stack, the first on top.
abbrev pub stacked : ℕ → List ℕ → List Waiting
stacked levels [] = []
stacked levels (n ∷ ns) = stacked levels ns ++ record { id = n; levels = levels } ∷ []
