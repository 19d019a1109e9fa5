use Rattle.exact_geom.proofs.uncounted.side.Given as goal

abbrev pub ghosts-side_once : goal.ghosts-side_once
ghosts-side_once a = record { name = a.blank.name; parts = a.blank.parts }
