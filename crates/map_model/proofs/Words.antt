-- Words in which worked rows are written.
use Rattle.std.specs.Prelude.{ℕ, List, [], ◌∷◌, Option, Result, Ok, Err, ℤ, map, flat_map, ◌++◌}
use Rattle.algebra.specs.Space.{Vector, dot, cross, scale, plus, minus, det, side, through, whole_point, meet, way}
use Rattle.vertex_laws.specs.HalfEdge.{turn}
use Rattle.exact_geom.specs.declared.point.Point.{Point}
use Rattle.exact_geom.specs.Planes.{ThreePoints}
use Rattle.uv_lock.specs.BaseAxes.{base_axes_of}
use Rattle.uv_lock.specs.declared.texture.Format.{Format}
use Rattle.std.specs.Fmt.{digits}
use Rattle.fixed_num.specs.Count.{is_number_word, count_of}
use Rattle.fixed_num.specs.Scan.{scan, scan_unsigned, scan_power, written_power, short_number}
use Rattle.cmd_text.specs.Lines.{line_text}
use Rattle.cmd_text.specs.Pieces.{words_left, cut_of}
use Rattle.cmd_text.specs.Reading.{verb_of, is_silent, words_read, line_read}
use Rattle.cmd_text.specs.Replies.{reply_line}
use Rattle.cmd_text.specs.Spelling.{number_of, number_within, signed_of, whole_within, plain_number_within, grid_of, axis_of, part_of, switch_of, is_name, is_dash, count_below, wide_of}
use Rattle.cmd_text.specs.Table.{fits, group_of, misfit_of}
use Rattle.map_model.specs.Tree.{Whole, Node, Link, whole, at, all_numbers}
use Rattle.map_model.specs.Motions.{Matrix}
use Rattle.map_model.specs.Faces.{Face, Surface, StandardFields, ValveFields}
use Rattle.map_model.specs.Computed.{by_vertices}
use Rattle.map_model.specs.Commands.{Command}
use Rattle.map_text.specs.declared.document.MapDoc.{MapDoc}
use Rattle.map_text.specs.declared.document.RawEntity.{RawEntity}
use Rattle.map_text.specs.declared.document.RawBrush.{RawBrush}
use Rattle.map_model.specs.Saved.{saved}
use Rattle.map_model.specs.Machine.{State, obey, open_at, current, answer_text}

-- What a row computes is laid open.
pub data Open : Type 0 where
  opened : Open

unfoldable pub all_words : Open
unfolding dot cross scale plus minus det side through whole_point meet way turn digits base_axes_of is_number_word count_of scan scan_unsigned scan_power written_power short_number words_left cut_of verb_of is_silent words_read line_read number_of number_within signed_of whole_within plain_number_within grid_of axis_of part_of switch_of is_name is_dash count_below wide_of fits group_of misfit_of line_text reply_line
all_words = opened

abbrev pub pt : ℤ → ℤ → ℤ → Point
pt x y z = record { x = x; y = y; z = z }

abbrev pub three : Point → Point → Point → ThreePoints
three a b c = record { p0 = a; p1 = b; p2 = c }

abbrev pub surface_at : ℤ → ℤ → ℤ → Surface
surface_at contents flags value = record { contents = contents; flags = flags; value = value }

abbrev pub standard_face : ThreePoints → List ℕ → List ℤ → ℤ → List ℤ → Option Surface → Face
standard_face plane material off rotation scale surface =
    record { plane = plane; material = material; tex = StandardFields (record { off = off; rotation = rotation; scale = scale; surface = surface }) }

abbrev pub valve_face : ThreePoints → List ℕ → List (List ℤ) → List ℤ → ℤ → List ℤ → Option Surface → Face
valve_face plane material axis off rotation scale surface =
    record { plane = plane; material = material; tex = ValveFields (record { axis = axis; off = off; rotation = rotation; scale = scale; surface = surface }) }

abbrev pub rows_at : Vector → Vector → Vector → Matrix
rows_at x y z = record { x = x; y = y; z = z }

abbrev pub link_to : ℕ → Matrix → Vector → Link
link_to set matrix shift = record { set = set; motion = record { matrix = matrix; shift = shift } }

abbrev pub held_as : List (Option Node) → ℕ → Whole
held_as slots next = whole (record { slots = slots; next = next })

-- Lines, each with its line feed.
abbrev pub lines : List (List ℕ) → List ℕ
lines ls = flat_map (λ l. l ++ 10 ∷ []) ls

-- The texts of the answers to the commands, one after another, and the last state.
abbrev pub session : State → List Command → List (List ℕ) × State
session s [] = ([], s)
session s (c ∷ cs) = let r = obey by_vertices s c in let rest = session r.state cs in (answer_text r.answer ∷ rest.0, rest.1)

-- The answers, and what stands at each number of the last map, with the next number.
abbrev pub tried : Whole → List Command → List (List ℕ) × List (Option Node) × ℕ
tried m cs =
    let s = session (open_at m) cs in
    let last = current s.1 in
    (s.0, map (at last) (all_numbers last), last.next)

-- The document that the last map is saved as.
abbrev pub saved_after : Whole → List Command → MapDoc
saved_after m cs = saved (current (session (open_at m) cs).1)

-- A document as entities.
abbrev pub raw : List (List ℕ × List ℕ) → List RawBrush → RawEntity
raw props brushes = record { props = props; brushes = brushes }

abbrev pub doc : Format → List RawEntity → MapDoc
doc format entities = record { format = format; entities = entities }

-- What stands at each number of a map, and the next number.
abbrev pub listed : Whole → List (Option Node) × ℕ
listed m = (map (at m) (all_numbers m), m.next)
