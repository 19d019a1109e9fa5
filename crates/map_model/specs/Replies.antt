-- What lines are answered: refusals in their one order, replies, and what each is written as.
pub use Rattle.cmd_text.specs.declared.reply.Refusal.{Refusal}
pub use Rattle.cmd_text.specs.declared.reply.Refusal.TheVariants.{LineTooLong, UnknownCommand, Arguments, NoNode, Repeated, WrongKind, NestedIds, LockedLayer, TwoMembers, ReservedKey, NoKey, NotLinked, NestedLink, LockNeedsValve, Rotation, FlatPlane, PlaneMisses, Apart, NotBox, Thick, NoVertex, FractionalVertex, TooManyPoints, PointRange, NoVolume, TooManyFaces, OutOfWorld, LockOffset, Origin, ShiftRange, EmptyLink, Full, LinkPoint, LinkWorld, LinkLock, LinkOrigin, LinkShift, NothingToUndo, NothingToRedo, NoRay}
pub use Rattle.cmd_text.specs.declared.reply.Reply.{Reply}
pub use Rattle.cmd_text.specs.declared.reply.Reply.TheVariants.{Ok as Done, Made, Uv as Coordinates, Hit, NoHit, No, Memory}
unfoldable pub use Rattle.cmd_text.specs.Replies.{reply_line}
use Rattle.std.specs.Prelude.{◌≡◌}
use Rattle.fixed_num.specs.declared.fraction.Frac.{Frac}
use Rattle.map_nodes.specs.Fractions.{Fraction, fraction_of, lowest}
use Rattle.map_nodes.proofs.Fractions.{den_is_positive, is_in_lowest_terms}

-- A fraction as replies keep it: in lowest terms, with a denominator of at least 1. A denominator of 0, which no fraction of a reply has, counts as 1.
abbrev pub kept : Fraction → Frac
kept t = record {
  num = (lowest t.num t.den).num;
  den = (lowest t.num t.den).den;
  positive = den_is_positive t.num t.den;
  reduced = is_in_lowest_terms t.num t.den;
}

-- What is kept of a fraction that is kept is that fraction.
abbrev pub KeptLaw : Type 0
KeptLaw = (f : Frac) → kept (fraction_of f) ≡ f
