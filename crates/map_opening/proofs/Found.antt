-- How bytes open whose document is read.
use Rattle.std.proofs.Common.{◌≡◌, ℕ, false, true≢false, List, Result, Ok, Err, sym, subst}
use Rattle.std.specs.Result.{MatchResult, IfOk, OnOk, is_ok}
use Rattle.map_text.specs.declared.document.MapDoc.{MapDoc}
use Rattle.map_text.specs.Reads.{Reads}
use Rattle.map_report.specs.declared.note.Note.{Note}
use Rattle.map_model.specs.Tree.{Whole}
use Rattle.tree_file.specs.Promises.{Builds, has_links}
use Rattle.map_opening.specs.Opening.{Tree, Opens}

pub builds : (bytes : List ℕ) (doc : MapDoc) (m : Whole) (notes : List Note) → Reads bytes doc → has_links doc ≡ false → Builds doc m notes → Opens bytes (Tree m notes)
builds bytes doc m notes reads plain built b right = record { doc = doc; reads = reads; holds = (plain, built b right) }

pub tree_opens : {X E F : Type 0} (r : Result X E) (s : Result X F) (map : X → Whole) (notes : X → List Note) (Q : E → Type 0) → MatchResult r (λ x. s ≡ Ok x) Q → is_ok s ≡ is_ok r →
    (bytes : List ℕ) (doc : MapDoc) → Reads bytes doc → OnOk r (has_links doc ≡ false) → IfOk r (λ x. Builds doc (map x) (notes x)) → IfOk s (λ x. Opens bytes (Tree (map x) (notes x)))
tree_opens {X} {E} {F} (Ok x) s map notes Q same kind bytes doc reads plain built =
    subst (λ (t : Result X F). IfOk t (λ y. Opens bytes (Tree (map y) (notes y)))) (sym same) (builds bytes doc (map x) (notes x) reads plain built)
tree_opens (Err e) (Ok x) map notes Q same kind bytes doc reads plain built = absurd (true≢false kind)
tree_opens (Err e) (Err f) map notes Q same kind bytes doc reads plain built = tt
