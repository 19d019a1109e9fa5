use Rattle.std.proofs.Common.{◌≡◌, ◌≢◌, ◌∙◌, ◌∷◌, [], Some, get_or, sym, ap, arith}
use Rattle.std.proofs.lemmas.Int.{ints}
use Rattle.uv_lock.specs.Coordinates.{quarters_of}
use Rattle.uv_lock.proofs.Quarters.{found, standard_are, third}
use Rattle.uv_lock.proofs.standard.standard_axes.Goals.{in-0, in-1, in-2, in_default}
use Rattle.uv_lock.proofs.standard.standard_axes.Goals as goal

pub returns : goal.returns
returns c =
    let f = found c.args.rotation c.in_ok-quarters.quarters c.in_ok-quarters.ensures in
    let x = c.unit_axes.result in
    elim c.match-quarters.branch [
      | in-0 w ↦ let k : quarters_of c.args.rotation ≡ 0 = omega (arith, ints, f.is) in
          ap Some w.result-is ∙ sym (standard_are c.args.plane.now c.args.rotation 0 x f.quarter k c.unit_axes.ensures)
      | in-1 w ↦ let k : quarters_of c.args.rotation ≡ 1 = omega (arith, ints, f.is) in
          ap Some w.result-is ∙ (λ i. Some (w.opposite.ensures i ∷ get_or x 0 [] ∷ [])) ∙ sym (standard_are c.args.plane.now c.args.rotation 1 x f.quarter k c.unit_axes.ensures)
      | in-2 w ↦ let k : quarters_of c.args.rotation ≡ 2 = omega (arith, ints, f.is) in
          ap Some w.result-is ∙ (λ i. Some (w.opposite-in-2.ensures i ∷ w.opposite-in-2-2.ensures i ∷ [])) ∙ sym (standard_are c.args.plane.now c.args.rotation 2 x f.quarter k c.unit_axes.ensures)
      | in_default w ↦ let q = quarters_of c.args.rotation in
          let a : q ≢ 0 = λ e. absurd (omega (arith, ints, f.is, e)) in
          let b : q ≢ 1 = λ e. absurd (omega (arith, ints, f.is, e)) in
          let d : q ≢ 2 = λ e. absurd (omega (arith, ints, f.is, e)) in
          ap Some w.result-is ∙ (λ i. Some (get_or x 1 [] ∷ w.opposite-in_default.ensures i ∷ [])) ∙ ap Some (sym (third q x a b d))
          ∙ sym (standard_are c.args.plane.now c.args.rotation q x f.quarter (let e : q ≡ q = omega arith in e) c.unit_axes.ensures)
    ]
