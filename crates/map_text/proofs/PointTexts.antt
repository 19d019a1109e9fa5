-- Points that are read.
use Rattle.std.proofs.Common.{◌&&◌, true, [], ◌∷◌, Result, ℤ, ◌∙◌}
use Rattle.exact_geom.specs.declared.point.Point.{Point}
use Rattle.map_text.specs.declared.document.Reason.{Reason}
use Rattle.map_text.specs.declared.read_fault.What.TheVariants.{Point as APoint}
use Rattle.map_text.specs.Grammar.{bracket}
use Rattle.map_text.specs.Meaning.{whole_of, point_of}
use Rattle.map_text.specs.Refusals.{a_number, mark, rest_of_point}
use Rattle.map_text.specs.Reading.{ReaderState, Passes, IsRead}
use Rattle.map_text.specs.Judged.{coordinate_reason, point_reason, point_from, points_from}
use Rattle.map_text.specs.Parts.{coordinate_part, point_part, points_part, points_places}
use Rattle.map_text.proofs.Passing.{next_part}
use Rattle.map_text.proofs.Judging.{three_judged}

pub point_read : {s0 s1 s2 s3 s4 : ReaderState} {x y z : Result ℤ Reason} → IsRead coordinate_part (a_number ∷ []) [] s0 s1 x → IsRead coordinate_part (a_number ∷ []) [] s1 s2 y
    → IsRead coordinate_part (a_number ∷ []) [] s2 s3 z → Passes s3 s4 (mark 41 APoint ∷ []) [] (bracket 41 ∷ []) [] → IsRead point_part rest_of_point [] s0 s4 (point_from x y z)
point_read hx hy hz close = record {
  text = record { x = hx.text; y = hy.text; z = hz.text };
  fit = (λ i. hx.fit i && (hy.fit i && (hz.fit i && true)));
  passes = next_part hx.passes (next_part hy.passes (next_part hz.passes close));
  meaning = (λ i. point_from (hx.meaning i) (hy.meaning i) (hz.meaning i))
      ∙ three_judged (coordinate_reason hx.text) (coordinate_reason hy.text) (coordinate_reason hz.text) (whole_of hx.text) (whole_of hy.text) (whole_of hz.text)
      (λ x y z. let p : Point = record { x = x; y = y; z = z } in p);
}

pub points_read : {s0 s1 s2 s3 s4 s5 : ReaderState} {a b c : Result Point Reason} → IsRead point_part rest_of_point [] s0 s1 a → Passes s1 s2 (mark 40 APoint ∷ []) [] (bracket 40 ∷ []) []
    → IsRead point_part rest_of_point [] s2 s3 b → Passes s3 s4 (mark 40 APoint ∷ []) [] (bracket 40 ∷ []) [] → IsRead point_part rest_of_point [] s4 s5 c
    → IsRead points_part points_places [] s0 s5 (points_from a b c)
points_read ha open_b hb open_c hc = record {
  text = (ha.text, hb.text, hc.text);
  fit = (λ i. ha.fit i && (hb.fit i && hc.fit i));
  passes = next_part ha.passes (next_part open_b (next_part hb.passes (next_part open_c hc.passes)));
  meaning = (λ i. points_from (ha.meaning i) (hb.meaning i) (hc.meaning i))
      ∙ three_judged (point_reason ha.text) (point_reason hb.text) (point_reason hc.text) (point_of ha.text) (point_of hb.text) (point_of hc.text) (λ a b c. a ∷ b ∷ c ∷ []);
}
