use Rattle.std.proofs.Common.{◌≡◌, ◌≤◌, ◌<◌, pos, to_z, of_z, unsigned_abs, arith, rules, sym, ap, ◌∙◌, refl}
use Rattle.std.specs.Int.{w128}
use Rattle.std.specs.Prelude.{int_div, int_rem}
use Rattle.std.proofs.lemmas.Int.{to_z-of_z, rem_is}
use mir.Val.{SFits}
use Rattle.fixed_num.proofs.Quotients.{none_with_remainder, none_past_limit, whole_quotient}
use Rattle.fixed_num.proofs.quotient.exact_quotient.Goals.{then-n-d-ne0-via-then-n-d-ne0, then-n-d-ne0-via-else-n-d-ne0+then-unsigned_abs}
use Rattle.fixed_num.proofs.quotient.exact_quotient.Goals as goal

pub returns-then-n-d-ne0-clause-none : goal.returns-then-n-d-ne0-clause-none
returns-then-n-d-ne0-clause-none c =
    let n : to_z w128 (of_z w128 c.args.n) ≡ c.args.n = to_z-of_z w128 c.args.n c.ranges.n in
    let d : to_z w128 (of_z w128 c.args.d) ≡ c.args.d = to_z-of_z w128 c.args.d c.ranges.d in
    let limit : to_z w128 (of_z w128 c.args.limit) ≡ c.args.limit = to_z-of_z w128 c.args.limit c.ranges.limit in
    let fits : SFits w128 c.in_ok-quotient.quotient = search rules in
    let quotient : to_z w128 (of_z w128 c.in_ok-quotient.quotient) ≡ int_div c.args.n c.args.d =
    to_z-of_z w128 c.in_ok-quotient.quotient fits ∙ rw (n, d) at (c.in_ok-quotient.ensures.1) in
    elim c.then-n-d-ne0.branch [
      | then-n-d-ne0-via-then-n-d-ne0 w ↦ (λ k h. none_with_remainder c.args.n c.args.d c.args.limit k (λ zero. w.if-n-d-ne0.true (rw (n, d, zero) refl)) h)
      | then-n-d-ne0-via-else-n-d-ne0+then-unsigned_abs w ↦ (λ k h. none_past_limit c.args.n c.args.d c.args.limit k c.requires.nonzero
          (let past : unsigned_abs (to_z w128 (of_z w128 c.args.limit)) ≤ unsigned_abs (to_z w128 (of_z w128 c.in_ok-quotient.quotient)) = omega arith in rw (limit, quotient) at past) h)
    ]

pub returns-clause-some : goal.returns-clause-some
returns-clause-some c =
    let n : to_z w128 (of_z w128 c.args.n) ≡ c.args.n = to_z-of_z w128 c.args.n c.ranges.n in
    let d : to_z w128 (of_z w128 c.args.d) ≡ c.args.d = to_z-of_z w128 c.args.d c.ranges.d in
    let limit : to_z w128 (of_z w128 c.args.limit) ≡ c.args.limit = to_z-of_z w128 c.args.limit c.ranges.limit in
    let fits : SFits w128 c.in_ok-quotient.quotient = search rules in
    let quotient : to_z w128 (of_z w128 c.in_ok-quotient.quotient) ≡ int_div c.args.n c.args.d =
    to_z-of_z w128 c.in_ok-quotient.quotient fits ∙ rw (n, d) at (c.in_ok-quotient.ensures.1) in
    let rest : int_rem c.args.n c.args.d ≡ pos 0 = sym (rem_is w128 c.args.n c.args.d c.ranges.n c.ranges.d) ∙ ap (to_z w128) c.if-n-d-ne0.false in
    let within : unsigned_abs (to_z w128 (of_z w128 c.in_ok-quotient.quotient)) < unsigned_abs (to_z w128 (of_z w128 c.args.limit)) = omega arith in
    (rw quotient (whole_quotient c.args.n c.args.d rest), rw limit at within)
