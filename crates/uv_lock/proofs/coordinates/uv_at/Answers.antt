use Rattle.std.proofs.Common.{◌≡◌, ◌∙◌, ◌∷◌, [], ◌<◌, Some, length, lit<, rules, subst, sym, w32}
use Rattle.algebra.specs.Space.{whole_point}
use Rattle.algebra.proofs.Identities.{vector_by}
use Rattle.exact_geom.specs.Planes.{vector}
use Rattle.exact_geom.proofs.Exactly.{var}
use Rattle.exact_geom.proofs.PlaneLaws.{in_range}
use Rattle.uv_lock.specs.Carry.{axis_at}
use Rattle.uv_lock.specs.Coordinates.{coordinate_along}
use Rattle.uv_lock.proofs.Places.{by_fields}
use Rattle.uv_lock.proofs.Sums.{read_at}
use Rattle.uv_lock.proofs.coordinates.uv_at.Goals as goal

pub returns : goal.returns
returns c =
    let f = c.args.f.now in let t = c.in_ok-tex.tex in let p = c.args.at in
    let offs : length t.off ≡ 2 = search rules in
    let scales : length t.scale ≡ 2 = search rules in
    let o0 = read_at t.off 0 c.index-tex-0.result (subst (λ n. 0 < n) (sym offs) (lit< tt)) c.index-tex-0.is in
    let s0 = read_at t.scale 0 c.index-tex-0-2.result (subst (λ n. 0 < n) (sym scales) (lit< tt)) c.index-tex-0-2.is in
    let o1 = read_at t.off 1 c.index-tex-1.result (subst (λ n. 1 < n) (sym offs) (lit< tt)) c.index-tex-1.is in
    let s1 = read_at t.scale 1 c.index-tex-1-2.result (subst (λ n. 1 < n) (sym scales) (lit< tt)) c.index-tex-1-2.is in
    let s = in_range p c.requires in
    let at = vector_by (var w32 p.x s.x tt).is (var w32 p.y s.y tt).is (var w32 p.z s.z tt).is in
    let u = c.coordinate.ensures ∙ (λ i. coordinate_along (o0 i) (s0 i) (axis_at t.axis 0) (whole_point (at i))) in
    let v = c.coordinate-2.ensures ∙ (λ i. coordinate_along (o1 i) (s1 i) (axis_at t.axis 1) (whole_point (at i))) in
    (λ i. Some (u i ∷ v i ∷ [])) ∙ sym (by_fields f.plane f.tex t (whole_point (vector p)) (sym c.in_ok-tex.ensures))
