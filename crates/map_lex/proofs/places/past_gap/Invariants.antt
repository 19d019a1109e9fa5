use Rattle.std.proofs.Common.{◌≡◌, false, length}
use Rattle.map_lex.specs.Bytes.{begins_blank}
use Rattle.map_lex.specs.TokenList.{tokens_left}
use Rattle.map_lex.proofs.places.past_gap.Given as goal

abbrev pub invariant-loop-place : goal.invariant-loop-place
invariant-loop-place l = record {
  left : tokens_left l.place.line l.place.rest.now ≡ tokens_left l.fn.start.line l.fn.start.rest.now;
  no_blank : begins_blank l.place.rest.now ≡ false;
}

abbrev pub decreases-loop-place : goal.decreases-loop-place
decreases-loop-place l = length l.place.rest.now
