-- A loop that changes the elements of a list one by one.
use Rattle.std.proofs.Common.{◌≡◌, ℕ, zero, suc, ◌+◌, ◌<◌, List, [], ◌∷◌, ◌++◌, map, take, drop, get_or, length, refl, ap, ◌∙◌, arith}
use Rattle.std.proofs.Math.ListN.{set}

-- the place that is reached is changed next
changed_next : {A : Type 0} (f : A → A) (old now : List A) (i : ℕ) (d : A) → i < length old → now ≡ map f (take i old) ++ drop i old →
    (get_or now i d ≡ get_or old i d) × (set now i (f (get_or old i d)) ≡ map f (take (suc i) old) ++ drop (suc i) old)
changed_next f [] now i d h e = absurd (omega (arith, h))
changed_next f (x ∷ old) now zero d h e = (ap (λ l. get_or l 0 d) e, ap (λ l. set l 0 (f x)) e)
changed_next f (x ∷ old) now (suc i) d h e =
    let rest = changed_next f old (map f (take i old) ++ drop i old) i d (omega (arith, h)) refl in
    (ap (λ l. get_or l (suc i) d) e ∙ rest.0, ap (λ l. set l (suc i) (f (get_or old i d))) e ∙ ap (λ l. f x ∷ l) rest.1)

pub changed_more : {A : Type 0} (f : A → A) (old now : List A) (i : ℕ) (d y : A) → i < length old → now ≡ map f (take i old) ++ drop i old →
    y ≡ f (get_or now i d) → set now i y ≡ map f (take (i + 1) old) ++ drop (i + 1) old
changed_more f old now i d y h e k =
    let n = changed_next f old now i d h e in
    ap (set now i) (k ∙ ap f n.0) ∙ n.1 ∙ ap (λ j. map f (take j old) ++ drop j old) (let one : suc i ≡ i + 1 = omega arith in one)
