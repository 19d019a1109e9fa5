use Rattle.std.proofs.Common.{sym, ◌∙◌}
use Rattle.std.proofs.lemmas.Bool.Decides.{Decides-eqb, Decides-int_eq, Decides-like}
use Rattle.std.proofs.lemmas.Slice.Eq.{slice_eq-Decides}
use Rattle.orient48.proofs.Same.{decides_motion}
use Rattle.orient48.proofs.motion.Motion.is_same.Goals as goal

pub returns : goal.returns
returns c =
    let a = c.self.inside in
    let b = c.other.inside in
    let d = decides_motion a.orient b.orient a.shift b.shift _ c.eq.result c.number.ensures.below c.number-2.ensures.below c.self.invariant c.other.invariant
    (let j = c.number.ensures.number in let k = c.number-2.ensures.number in
    Decides-like _ (λ e. sym j ∙ e ∙ k) (λ e. j ∙ e ∙ sym k) (Decides-eqb c.number.result c.number-2.result))
    (slice_eq-Decides Decides-int_eq a.shift b.shift c.eq.result c.eq.ensures) in
    (λ h. sym c.self.view_is ∙ d.0 h ∙ c.other.view_is, λ e. d.1 (c.self.view_is ∙ e ∙ sym c.other.view_is))
