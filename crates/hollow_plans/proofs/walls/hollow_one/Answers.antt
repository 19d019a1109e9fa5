use Rattle.std.proofs.Common.{◌≡◌, true, Ok, Err, w32, subst, sym}
use Rattle.std.proofs.lemmas.Int.{to_z-of_z}
use Rattle.map_model.specs.Tree.{whole}
use Rattle.map_model.specs.Brushes.{is_box}
use Rattle.map_model.specs.Meant.{ProperFaces}
use Rattle.hollow_plans.specs.Walls.{AreWalls}
use Rattle.hollow_plans.proofs.BoxWalls.{proper_at}
use Rattle.hollow_plans.proofs.HollowedLists.{one_is, one_stops}
use Rattle.hollow_plans.proofs.walls.hollow_one.Goals as goal

pub walls-requires-clause-boxed : goal.walls-requires-clause-boxed
walls-requires-clause-boxed c = subst (λ l. is_box l ≡ true) (sym c.body_at.ensures) c.requires.boxed

pub walls-requires-clause-proper : goal.walls-requires-clause-proper
walls-requires-clause-proper c = subst ProperFaces (sym c.body_at.ensures) (proper_at (whole c.args.map.now) c.args.id c.is_map.ensures c.requires.brush)

pub returns-in_err-walls : goal.returns-in_err-walls
returns-in_err-walls c =
    one_stops (whole c.args.map.now) c.args.thickness c.args.id c.body_at.result.now c.in_err-walls.field-0.0 c.from_residual.result c.body_at.ensures c.from_residual.ensures.1
    (subst (λ t. AreWalls t c.args.id c.body_at.result.now (Err c.in_err-walls.field-0.0)) (to_z-of_z w32 c.args.thickness c.ranges.thickness) c.in_err-walls.ensures)

pub returns : goal.returns
returns c =
    one_is (whole c.args.map.now) c.args.thickness c.args.id c.body_at.result.now c.in_ok-walls.walls c.body_at.ensures
    (subst (λ t. AreWalls t c.args.id c.body_at.result.now (Ok c.in_ok-walls.walls)) (to_z-of_z w32 c.args.thickness c.ranges.thickness) c.in_ok-walls.ensures)
