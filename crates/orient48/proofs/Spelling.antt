-- The text of a motion, as it is written.
use Rattle.std.proofs.Common.{◌≡◌, ℕ, List, [], ◌∷◌, ◌++◌, ap, ◌∙◌, ℤ}
use Rattle.std.specs.Prelude.{codes}
use Rattle.std.specs.Fmt.{signed_decimal}
use Rattle.algebra.specs.Space.{Vector}
use Rattle.orient48.specs.Motions.{Motion}
use Rattle.orient48.specs.MotionTexts.{motion_text}
use Rattle.orient48.specs.Reading.{spaced, row_text}
use Rattle.orient48.proofs.Reading.{app_assoc}

spaced_before : (n : ℤ) (rest : List ℕ) → spaced n ++ rest ≡ signed_decimal n ++ (32 ∷ rest)
spaced_before n rest = app_assoc (signed_decimal n) (32 ∷ []) rest

row_before : (v : Vector) (s : ℤ) (rest : List ℕ) →
    row_text v s ++ rest ≡ signed_decimal v.x ++ (32 ∷ (signed_decimal v.y ++ (32 ∷ (signed_decimal v.z ++ (32 ∷ (signed_decimal s ++ (32 ∷ rest)))))))
row_before v s rest =
    app_assoc (spaced v.x) (spaced v.y ++ (spaced v.z ++ spaced s)) rest ∙ spaced_before v.x _
    ∙ ap (λ t. signed_decimal v.x ++ (32 ∷ t)) (app_assoc (spaced v.y) (spaced v.z ++ spaced s) rest ∙ spaced_before v.y _
    ∙ ap (λ t. signed_decimal v.y ++ (32 ∷ t)) (app_assoc (spaced v.z) (spaced s) rest ∙ spaced_before v.z _
    ∙ ap (λ t. signed_decimal v.z ++ (32 ∷ t)) (spaced_before s rest)))

-- the three rows and the last one
pub rows_written : (m : Motion) (a b c d e : List ℕ) → a ≡ [] → b ≡ a ++ row_text m.matrix.x m.shift.x → c ≡ b ++ row_text m.matrix.y m.shift.y → d ≡ c ++ row_text m.matrix.z m.shift.z →
    e ≡ d ++ codes "0 0 0 1" → e ≡ motion_text m
rows_written m a b c d e h i j k l =
    let x = row_text m.matrix.x m.shift.x in
    let y = row_text m.matrix.y m.shift.y in
    let z = row_text m.matrix.z m.shift.z in
    let end = codes "0 0 0 1" in
    l ∙ ap (λ t. t ++ end) (k ∙ ap (λ t. t ++ z) (j ∙ ap (λ t. t ++ y) (i ∙ ap (λ t. t ++ x) h)))
    ∙ app_assoc (x ++ y) z end ∙ app_assoc x y (z ++ end)
    ∙ row_before m.matrix.x m.shift.x (y ++ (z ++ end))
    ∙ ap (λ t. signed_decimal m.matrix.x.x ++ (32 ∷ (signed_decimal m.matrix.x.y ++ (32 ∷ (signed_decimal m.matrix.x.z ++ (32 ∷ (signed_decimal m.shift.x ++ (32 ∷ t))))))))
    (row_before m.matrix.y m.shift.y (z ++ end)
    ∙ ap (λ t. signed_decimal m.matrix.y.x ++ (32 ∷ (signed_decimal m.matrix.y.y ++ (32 ∷ (signed_decimal m.matrix.y.z ++ (32 ∷ (signed_decimal m.shift.y ++ (32 ∷ t))))))))
    (row_before m.matrix.z m.shift.z end))

-- four numbers
pub row_written : (x y z s : ℤ) (a b c d e : List ℕ) → b ≡ a ++ spaced x → c ≡ b ++ spaced y → d ≡ c ++ spaced z → e ≡ d ++ spaced s →
    e ≡ a ++ (spaced x ++ (spaced y ++ (spaced z ++ spaced s)))
row_written x y z s a b c d e i j k l =
    l ∙ ap (λ t. t ++ spaced s) (k ∙ ap (λ t. t ++ spaced z) (j ∙ ap (λ t. t ++ spaced y) i))
    ∙ app_assoc ((a ++ spaced x) ++ spaced y) (spaced z) (spaced s) ∙ app_assoc (a ++ spaced x) (spaced y) (spaced z ++ spaced s)
    ∙ app_assoc a (spaced x) (spaced y ++ (spaced z ++ spaced s))
