-- The slots of one item, pushed one after another.
use Rattle.std.proofs.Common.{◌≡◌, ℕ, ◌+◌, ◌<◌, Result, Ok, Err, OnOk, Option, Some, None, List, [], ◌∷◌, ◌++◌, length, get_or, map, take, ap, sym, ◌∙◌, append-nil}
use Rattle.std.proofs.lemmas.List.{take_more, map-append}
use Rattle.std.proofs.lemmas.Grind.{flat_map-append}
use Rattle.map_text.specs.declared.document.Reason.{Reason}
use Rattle.map_model.specs.Faces.{Face}
use Rattle.map_model.specs.Tree.{Node, Brush}
use Rattle.file_laws.specs.Build.{kept_brush}
use Rattle.tree_file.specs.Passes.{bodies_of}

pub on_ok : {A E : Type 0} (result : Result A E) (P Q : Type 0) → (P → Q) → OnOk result P → OnOk result Q
on_ok (Ok x) P Q f p = f p
on_ok (Err e) P Q f p = p

-- the brushes of a map among those of a file, as slots beneath a number
abbrev pub placed_brushes : ℕ → List (Result (List Face) Reason) → List (Option Node)
placed_brushes parent brushes = map (λ faces. Some (Brush parent None faces)) (bodies_of brushes)

brushes_more : (parent : ℕ) (brushes : List (Result (List Face) Reason)) (k : ℕ) (brush : Result (List Face) Reason) → k < length brushes → brush ≡ get_or brushes k brush →
    placed_brushes parent (take (k + 1) brushes) ≡ placed_brushes parent (take k brushes) ++ map (λ faces. Some (Brush parent None faces)) (kept_brush brush)
brushes_more parent brushes k brush lt is =
    ap (placed_brushes parent) (take_more brushes k brush lt)
    ∙ ap (map (λ faces. Some (Brush parent None faces))) (flat_map-append kept_brush (take k brushes) (get_or brushes k brush ∷ []))
    ∙ map-append (λ faces. Some (Brush parent None faces)) (bodies_of (take k brushes)) (kept_brush (get_or brushes k brush) ++ [])
    ∙ ap (λ l. placed_brushes parent (take k brushes) ++ map (λ faces. Some (Brush parent None faces)) l) (append-nil (kept_brush (get_or brushes k brush)) ∙ ap kept_brush (sym is))

-- one more that is a brush of a map
pub brush_more : (parent : ℕ) (brushes : List (Result (List Face) Reason)) (k : ℕ) (brush : Result (List Face) Reason) (faces : List Face) → k < length brushes → brush ≡ get_or brushes k brush → brush ≡ Ok faces →
    placed_brushes parent (take (k + 1) brushes) ≡ placed_brushes parent (take k brushes) ++ Some (Brush parent None faces) ∷ []
brush_more parent brushes k brush faces lt is ok =
    brushes_more parent brushes k brush lt is ∙ ap (λ b. placed_brushes parent (take k brushes) ++ map (λ f. Some (Brush parent None f)) (kept_brush b)) ok
