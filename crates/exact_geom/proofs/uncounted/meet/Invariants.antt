use Rattle.exact_geom.proofs.uncounted.meet.Given as goal

abbrev pub ghosts-meet_once : goal.ghosts-meet_once
ghosts-meet_once a = record { name = a.blank.name; parts = a.blank.parts }
