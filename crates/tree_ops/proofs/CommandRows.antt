-- The rows of a command, from those of the numbers that it names.
use Rattle.std.proofs.Common.{◌≡◌, ℕ, true, false, not, ◌&&◌, ◌||◌, refl, ap, sym}
use Rattle.std.specs.List.{list_any}
use Rattle.map_model.specs.Tree.{Whole, lies_beneath}
use Rattle.map_model.specs.Commands.{Command, Into, Freeze, Thaw, Show, Uv, Touching}
use Rattle.map_model.specs.Replies.{NestedIds, LockedLayer}
use Rattle.map_model.specs.Rows.{refuse, at_each, named, taken, nested_ids, locked_layer, passes_frozen_by, is_in_frozen}
use Rattle.tree_ops.specs.TreeCommands.{is_tree_command}
use Rattle.tree_ops.specs.Passing.{is_place_beneath_it, place_of}

pub nested_is : (m : Whole) (c : Command) → at_each (taken c) (λ n. refuse (list_any (lies_beneath m n) (taken c) || is_place_beneath_it m (place_of c) n) (NestedIds n)) ≡ nested_ids m c
nested_is m (Into place ns) = refl
nested_is m c = refl

asks_frozen : (c : Command) → is_tree_command c ≡ true → ((n : ℕ) → c ≡ Freeze n → ⊥) → ((n : ℕ) → c ≡ Thaw n → ⊥) → passes_frozen_by c ≡ false
asks_frozen (Freeze n) t freeze thaw = absurd (freeze n refl)
asks_frozen (Thaw n) t freeze thaw = absurd (thaw n refl)
asks_frozen (Show n) t freeze thaw = absurd (cc)
asks_frozen (Uv n face point) t freeze thaw = absurd (cc)
asks_frozen (Touching n) t freeze thaw = absurd (cc)
asks_frozen c t freeze thaw = refl

pub locked_is : (m : Whole) (c : Command) → is_tree_command c ≡ true → ((n : ℕ) → c ≡ Freeze n → ⊥) → ((n : ℕ) → c ≡ Thaw n → ⊥) →
    at_each (named c) (λ n. refuse (is_in_frozen m n) (LockedLayer n)) ≡ locked_layer m c
locked_is m c t freeze thaw = sym (ap (λ b. at_each (named c) (λ n. refuse (not b && is_in_frozen m n) (LockedLayer n))) (asks_frozen c t freeze thaw))
