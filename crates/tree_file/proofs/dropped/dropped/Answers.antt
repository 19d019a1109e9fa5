use Rattle.std.proofs.Common.{ℕ, ◌<◌, length, sym, subst}
use Rattle.algebra.specs.Members.{◌∈◌}
use Rattle.tree_file.specs.Passes.{Tells}
use Rattle.tree_file.proofs.Raised.{dropped_flags}
use Rattle.tree_file.proofs.dropped.dropped.Goals as goal

pub flags_of-requires : goal.flags_of-requires
flags_of-requires c = record { within = subst (λ l. (p : ℕ) → p ∈ l → p < length c.args.items.now) (sym c.deref.ensures.value) c.in_ok-goes.ensures.within }

pub returns : goal.returns
returns c =
    dropped_flags c.args.items.now c.requires.places c.in_ok-goes.goes.items c.in_ok-drops.drops.items c.in_ok-goes.ensures.kept
    (subst (λ l. Tells (length c.args.items.now) l c.in_ok-drops.drops.items) c.deref.ensures.value c.in_ok-drops.ensures)
