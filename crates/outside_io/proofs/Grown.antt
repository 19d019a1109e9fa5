-- Laws of what has grown and of counts that rose.
use Rattle.std.proofs.Common.{◌≡◌, ℕ, ◌+◌, ◌-◌, ◌≤◌, List, [], ◌++◌, length, take, drop, Option, Some, None, ap, sym, subst, ◌∙◌, append_assoc, append-nil, arith, rules, inl, inr, take_all, length-drop, drop-drop}
use Rattle.outside_io.specs.Moved.{Grew, Rose}

-- What has grown twice has grown by both.
pub Grew-then : {A : Type 0} (a b c : Option (List A)) (x y : List A) → Grew a b x → Grew b c y → Grew a c (x ++ y)
Grew-then None b c x y p q = tt
Grew-then {A} (Some s) b c x y p q =
    let r : Grew (Some (s ++ x)) c y = subst (λ o. Grew o c y) p q in
    r ∙ ap Some (append_assoc s x y)

-- What stands has grown by nothing.
pub Grew-none : {A : Type 0} (a : Option (List A)) → Grew a a []
Grew-none None = tt
Grew-none (Some s) = ap Some (sym (append-nil s))

-- What is the same has grown by nothing.
pub Grew-same : {A : Type 0} (a b : Option (List A)) → b ≡ a → Grew a b []
Grew-same a b e = subst (λ o. Grew a o []) (sym e) (Grew-none a)

-- The rest of a slice that is the rest of a list.
pub rest_after : (xs r : List ℕ) (n k : ℕ) → r ≡ drop n xs → take (length r - k) (drop k r) ≡ drop (n + k) xs
rest_after xs r n k e = take_all (length r - k) (drop k r) (omega (arith, length-drop k r)) ∙ ap (drop k) e ∙ drop-drop k n xs

-- A count that rose, and then didn't fall, rose over both.
pub Rose-then : (a b c : ℕ) → a ≤ b → Rose a b → b ≤ c → Rose a c
Rose-then a b c h (inl r) k = inl (omega arith)
Rose-then a b c h (inr e) k = first_of (search rules, omega arith)

-- A count that didn't fall, and then rose, rose over both.
pub Rose-after : (a b c : ℕ) → a ≤ b → Rose b c → Rose a c
Rose-after a b c h (inl r) = inl (omega arith)
Rose-after a b c h (inr e) = inr e
