-- subtract: the pieces of each brush without another stand in its place, and the other goes.
use Rattle.std.proofs.Common.{◌≡◌, ℕ, List, ◌∷◌, refl, ap, ◌∙◌, arith, Some, None, option_map}
use Rattle.algebra.specs.Members.{◌∈◌, here, there}
use Rattle.uv_lock.specs.declared.texture.Format.{Format}
use Rattle.map_model.specs.Faces.{Face}
use Rattle.map_model.specs.Tree.{Whole, brush, kind_of, faces_at, format_of}
use Rattle.map_model.specs.Edits.{each_in_turn, replace_by, delete}
use Rattle.map_model.specs.Shape.{Shape, FacesOk}
use Rattle.map_model.specs.Below.{Below, IsRight}
use Rattle.map_model.specs.Brushes.{pieces}
use Rattle.map_model.specs.Commands.{Settings, Subtract}
use Rattle.map_model.specs.Rows.{rows, first, at_each, too_many}
use Rattle.map_model.specs.Own.{own}
use Rattle.map_laws.specs.Unlinked.{Unlinked}
use Rattle.map_laws.proofs.Lists.{tally-head, tally-no_member, member-tally}
use Rattle.map_laws.proofs.InTurn.{by_member}
use Rattle.map_laws.proofs.Skeleton.{kind_at}
use Rattle.map_laws.proofs.Refused.{each_none, nodes_fit}
use Rattle.map_laws.proofs.RowsPass.{rows_pass}
use Rattle.map_laws.proofs.Holding.{parent_said}
use Rattle.map_laws.proofs.TrimmedFaces.{brush_encloses}
use Rattle.map_laws.proofs.PieceFaces.{pieces_ok}
use Rattle.map_laws.proofs.MovedMaps.{less}
use Rattle.map_laws.proofs.FairMaps.{Fair, fair_of}
use Rattle.map_laws.proofs.Remaking.{Step, Ready, in_turn, then_step, live_below, remade_outcome}
use Rattle.map_laws.proofs.RemakingSteps.{replace_step, delete_step}
use Rattle.map_laws.proofs.BrushRows.{named_brushes, brush_faces, each_few}
use Rattle.map_laws.proofs.Unlinking.{Outcome}

-- Brushes in the place of a brush, whatever faces it has.
abbrev pub AreBrushes : Format → List (List Face) → Type 0
AreBrushes f results = (faces : List Face) → faces ∈ results → FacesOk f faces

pub put_in_place : (f : Format) (results : ℕ → List (List Face)) (k : Whole) (n : ℕ) → Fair f k → Ready (λ fs. Unit {0}) k n → AreBrushes f (results n) → Step f n k (replace_by n (results n) k)
put_in_place f results k n fair r ok = let p = parent_said k n brush r.is refl in replace_step f n k p.0 (results n) fair p.1 r.is ok

pub goes : (f : Format) (k : Whole) (n : ℕ) → Fair f k → kind_at k n ≡ Some brush → Step f n k (delete n k)
goes f k n fair is = let p = parent_said k n brush is refl in delete_step f n k p.0 fair p.1 is

pub subtracts : (b : Below) (s : Settings) (m : Whole) (by : ℕ) (ns : List ℕ) → IsRight b → Shape m → Unlinked m → first (rows b s m (Subtract by ns)) ≡ None → Outcome m (Subtract by ns) (own b s m (Subtract by ns))
subtracts b s m by ns right shape u e =
    let c = Subtract by ns in
    let f = format_of m in
    let fit = nodes_fit b s m c e in
    let brushes = named_brushes b s m c (λ n. refl) e in
    let fair = fair_of m shape u in
    let results = λ (n : ℕ). pieces b (faces_at m n) (faces_at m by) in
    let once = λ (x : ℕ). by_member x (by ∷ ns) (λ i. fit.once x i) (λ none. omega (arith, tally-no_member x (by ∷ ns) none)) in
    let ok = λ (n : ℕ) (i : n ∈ ns).
    pieces_ok b f (faces_at m n) (faces_at m by) right (brush_encloses f (faces_at m n) (brush_faces m n shape (brushes n (there i)))) (brush_faces m by shape (brushes by here)).each
    (each_few n (results n) (each_none ns (λ n. at_each (results n) (too_many n)) (rows_pass b s m c e).few_faces n i)) in
    let r = in_turn f (λ n. replace_by n (results n)) (λ fs. Unit {0}) (λ n. AreBrushes f (results n)) (put_in_place f results) ns m fair (λ n i. record { is = brushes n (there i); faces = tt }) ok
    (λ x. omega (arith, once x, less x by ns)) in
    remade_outcome m c (own b s m c) shape u
    (then_step r (goes f (each_in_turn (λ n. replace_by n (results n)) ns m) by r.fair
    (ap (option_map kind_of) (r.same by (λ i. omega (arith, once by, tally-head by ns, member-tally by ns i)) (brushes by here)) ∙ brushes by here))
    (live_below m by brush fair.bound (brushes by here)))
    brushes
