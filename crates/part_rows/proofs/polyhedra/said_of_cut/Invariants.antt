use Rattle.part_rows.proofs.polyhedra.said_of_cut.Given as goal

abbrev pub ghosts-cut_once : goal.ghosts-cut_once
ghosts-cut_once a = record { name = a.blank.name; parts = a.blank.parts }
