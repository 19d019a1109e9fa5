-- The rows of a command that isn't refused, one by one.
use Rattle.std.proofs.Common.{◌≡◌, List, [], ◌∷◌, Option, None}
use Rattle.algebra.specs.Members.{◌∈◌, here, there}
use Rattle.map_model.specs.Tree.{Whole}
use Rattle.map_model.specs.Below.{Below}
use Rattle.map_model.specs.Commands.{Command, Settings}
use Rattle.map_model.specs.Replies.{Refusal}
use Rattle.map_model.specs.Rows.{rows, first, reserved_key, flat_plane, plane_misses, apart, not_box, thick, no_vertex, fractional_vertex, too_many_points, point_range, no_volume, too_many_faces, out_of_world, lock_offset}
use Rattle.map_laws.proofs.Refused.{first_none}

-- Of the rows these tell what commands make of nodes.
pub record RowsPass (b : Below) (s : Settings) (m : Whole) (c : Command) : Type 0 where
  pub key : reserved_key c ≡ None
  pub points : point_range s m c ≡ None
  pub volume : no_volume b m c ≡ None
  pub world : out_of_world b s m c ≡ None
  pub offsets : lock_offset s m c ≡ None
  pub plane : flat_plane c ≡ None
  pub sides : plane_misses b s m c ≡ None
  pub meets : apart b m c ≡ None
  pub box : not_box m c ≡ None
  pub thin : thick b m c ≡ None
  pub picks : no_vertex b m c ≡ None
  pub whole : fractional_vertex b m c ≡ None
  pub few_points : too_many_points b m c ≡ None
  pub few_faces : too_many_faces b s m c ≡ None

row_none : (rs : List (Option Refusal)) (r : Option Refusal) → first rs ≡ None → r ∈ rs → r ≡ None
row_none [] r e i = elim i [ ]
row_none (x ∷ xs) r e here = (first_none x xs e).0
row_none (x ∷ xs) r e (there i) = row_none xs r (first_none x xs e).1 i

-- Behind six rows.
six : {r t u v w x y : Option Refusal} {rs : List (Option Refusal)} → r ∈ rs → r ∈ (t ∷ u ∷ v ∷ w ∷ x ∷ y ∷ rs)
six i = there (there (there (there (there (there i)))))

pub rows_pass : (b : Below) (s : Settings) (m : Whole) (c : Command) → first (rows b s m c) ≡ None → RowsPass b s m c
rows_pass b s m c e = record {
  key = row_none (rows b s m c) (reserved_key c) e (six here);
  points = row_none (rows b s m c) (point_range s m c) e (six (six (six (there here))));
  volume = row_none (rows b s m c) (no_volume b m c) e (six (six (six (there (there here)))));
  world = row_none (rows b s m c) (out_of_world b s m c) e (six (six (six (there (there (there (there here)))))));
  offsets = row_none (rows b s m c) (lock_offset s m c) e (six (six (six (there (there (there (there (there here))))))));
  plane = row_none (rows b s m c) (flat_plane c) e (six (there (there (there (there (there here))))));
  sides = row_none (rows b s m c) (plane_misses b s m c) e (six (six here));
  meets = row_none (rows b s m c) (apart b m c) e (six (six (there here)));
  box = row_none (rows b s m c) (not_box m c) e (six (six (there (there here))));
  thin = row_none (rows b s m c) (thick b m c) e (six (six (there (there (there here)))));
  picks = row_none (rows b s m c) (no_vertex b m c) e (six (six (there (there (there (there here))))));
  whole = row_none (rows b s m c) (fractional_vertex b m c) e (six (six (there (there (there (there (there here)))))));
  few_points = row_none (rows b s m c) (too_many_points b m c) e (six (six (six here)));
  few_faces = row_none (rows b s m c) (too_many_faces b s m c) e (six (six (six (there (there (there here))))));
}
