use Rattle.std.proofs.Common.{◌≡◌, ap, ◌∙◌}
use Rattle.std.specs.Int.{w128}
use Rattle.algebra.specs.Space.{HalfSpace, cross, dot, det}
use Rattle.exact_geom.specs.Limits.{cross_limit, normal_limit}
use Rattle.exact_geom.specs.Machine.{vector64, half_space64}
use Rattle.exact_geom.specs.Sides.{sign_of}
use Rattle.exact_geom.proofs.Exactly.{call}
use Rattle.exact_geom.proofs.Sizes.{IsWithin_at, IsWithin-cross, size-dot}
use Rattle.exact_geom.proofs.sign.det_sign.Goals as goal

det_at : {f g h f' g' h' : HalfSpace} → f ≡ f' → g ≡ g' → h ≡ h' → dot f.normal (cross g.normal h.normal) ≡ det f'.normal g'.normal h'.normal
unfolding det
det_at {f} {g} {h} {f'} {g'} {h'} i j k = ap (λ t. dot t.normal (cross g.normal h.normal)) i ∙ ap (λ t. dot f'.normal (cross t.normal h.normal)) j ∙ ap (λ t. dot f'.normal (cross g'.normal t.normal)) k

pub wide_dot-requires-clause-other_size : goal.wide_dot-requires-clause-other_size
wide_dot-requires-clause-other_size c =
    IsWithin_at c.cross.ensures (IsWithin-cross (vector64 c.half_space64-2.result.normal) (vector64 c.half_space64-3.result.normal) normal_limit normal_limit c.half_space64-2.ensures.size.normal c.half_space64-3.ensures.size.normal)

pub returns : goal.returns
returns c =
    let f = half_space64 c.half_space64.result in
    let g = half_space64 c.half_space64-2.result in
    let h = half_space64 c.half_space64-3.result in
    let s = IsWithin-cross g.normal h.normal normal_limit normal_limit c.half_space64-2.ensures.size.normal c.half_space64-3.ensures.size.normal in
    let e = call w128 c.wide_dot.result (dot f.normal (cross g.normal h.normal)) (c.wide_dot.ensures ∙ ap (λ v. dot f.normal v) c.cross.ensures) (size-dot f.normal (cross g.normal h.normal) normal_limit cross_limit c.half_space64.ensures.size.normal s) tt in
    c.of.ensures ∙ ap sign_of (e.is ∙ det_at c.half_space64.ensures.half_space c.half_space64-2.ensures.half_space c.half_space64-3.ensures.half_space)
