use Rattle.std.proofs.Common.{◌≡◌, get_or, refl, ◌∙◌, sym, subst, below_more, arith}
use Rattle.std.proofs.lemmas.List.{get_or_default}
use Rattle.algebra.specs.Members.{◌∈◌}
use Rattle.algebra.specs.Space.{Homogeneous}
use Rattle.algebra.proofs.Members.{member_at, at_of_member}
use Rattle.hull_search.proofs.Reading.{refuted, failed}
use Rattle.hull_merge.specs.Gathered.{whole_of}
use Rattle.vertex_edit.proofs.picks.is_vertex.Goals as goal

pub loop-vertex-init : goal.loop-vertex-init
loop-vertex-init c = λ j l. absurd (omega arith)

pub loop-vertex-preserved : goal.loop-vertex-preserved
loop-vertex-preserved c = let V = c.args.vertices.now in let k = c.loop-vertex.vertex-index in
    below_more (λ j. (d : Homogeneous) → ¬ (get_or V j d ≡ whole_of c.args.p.now)) k c.loop-vertex.invariant
    (λ d h. refuted c.is_at.ensures c.if-is_at.false (c.vertex-item.is ∙ get_or_default V k c.vertex-item.result d c.loop-vertex-test.true ∙ h))

pub returns-then-is_at : goal.returns-then-is_at
returns-then-is_at c = let V = c.args.vertices.now in
    (λ t. subst (λ x. x ∈ V) (sym c.vertex-item.is ∙ c.is_at.ensures.0 c.if-is_at.true) (member_at V c.loop-vertex.vertex-index c.vertex-item.result c.loop-vertex-test.true), λ m. refl)

pub returns : goal.returns
returns c = failed (λ m. let r = at_of_member c.args.vertices.now (whole_of c.args.p.now) (whole_of c.args.p.now) m in
    c.loop-vertex.invariant r.index (let w = r.within in let f = c.loop-vertex-test.false in omega arith) (whole_of c.args.p.now) r.is)
