-- Parts of a brush and the first of the reasons against them.
use Rattle.std.proofs.Common.{◌≡◌, Bool, true, false, ◌||◌, Option, None, Some, Result, Ok, refl, ap, ◌∙◌}
use Rattle.map_text.specs.declared.document.Reason.{Reason}
use Rattle.map_text.specs.Judged.{first_of, judge, both, and_then, reason_if, or_else}

pub both_judged : {A B : Type 0} (r s : Option Reason) (a : A) (b : B) → both (judge r a) (judge s b) ≡ judge (first_of r s) (a, b)
both_judged None None a b = refl
both_judged None (Some s) a b = refl
both_judged (Some r) None a b = refl
both_judged (Some r) (Some s) a b = refl

pub then_judged : {A B : Type 0} (r : Option Reason) (a : A) (f : A → B) → and_then (judge r a) (λ x. Ok (f x)) ≡ judge r (f a)
then_judged None a f = refl
then_judged (Some r) a f = refl

-- three parts
pub three_judged : {A B : Type 0} (q r s : Option Reason) (a b c : A) (f : A → A → A → B)
    → and_then (both (both (judge q a) (judge r b)) (judge s c)) (λ x. Ok (f x.0.0 x.0.1 x.1)) ≡ judge (first_of (first_of q r) s) (f a b c)
three_judged q r s a b c f =
    ap (λ x. and_then (both x (judge s c)) (λ x. Ok (f x.0.0 x.0.1 x.1))) (both_judged q r a b)
    ∙ ap (λ x. and_then x (λ x. Ok (f x.0.0 x.0.1 x.1))) (both_judged (first_of q r) s (a, b) c)
    ∙ then_judged (first_of (first_of q r) s) ((a, b), c) (λ x. f x.0.0 x.0.1 x.1)

-- a part, and what follows it, with one reason against both
pub large_then : {A B : Type 0} (r : Reason) (p q : Bool) (a : A) (b : B) (next : A → Result B Reason) → next a ≡ judge (reason_if q r) b
    → and_then (judge (reason_if p r) a) next ≡ judge (reason_if (p || q) r) b
large_then r true q a b next e = refl
large_then r false q a b next e = e

pub large_last : {A B : Type 0} (r : Reason) (p : Bool) (a : A) (f : A → B) → and_then (judge (reason_if p r) a) (λ x. Ok (f x)) ≡ judge (reason_if p r) (f a)
large_last r p a f = then_judged (reason_if p r) a f

-- a part, and what follows it, with a reason against each
pub then_else : {A B : Type 0} (r s : Option Reason) (a : A) (b : B) (next : A → Result B Reason) → next a ≡ judge s b → and_then (judge r a) next ≡ judge (or_else r s) b
then_else None s a b next e = e
then_else (Some r) s a b next e = refl
