-- Brushes that get other faces, in the map.
use Rattle.map_model.specs.Tree.{Whole, with_faces}
use Rattle.map_model.specs.Edits.{renew}
use Rattle.vertex_plans.specs.declared.putting.NewBody.{NewBody}

abbrev pub put_body : NewBody → Whole → Whole
put_body new m = renew new.id (with_faces new.body) m
