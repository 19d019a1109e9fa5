-- How many numbers a spread draws is told by the map before it.
use Rattle.std.proofs.Common.{◌≡◌, ◌≢◌, ℕ, zero, suc, ◌+◌, ◌-◌, ◌≤◌, List, [], ◌∷◌, map, filter, length, Bool, false, cond, refl, ap, sym, ◌∙◌, subst, arith}
use Rattle.std.specs.Prelude.{is_none, sum}
use Rattle.std.specs.List.{fold}
use Rattle.algebra.specs.Members.{◌∈◌, here, there}
use Rattle.map_model.specs.Tree.{Whole, at, content, numbers_from}
use Rattle.map_model.specs.Links.{new_images, old_number, put_content, put_contents}
use Rattle.link_laws.proofs.Pairs.{Once}
use Rattle.link_laws.proofs.Spreading.{Field, Source, number_same, content_p, node_p, field_next, source_next}

filter_same : (t u : ℕ → Bool) (xs : List ℕ) → ((x : ℕ) → x ∈ xs → t x ≡ u x) → filter t xs ≡ filter u xs
filter_same t u [] e = refl
filter_same t u (x ∷ xs) e = (λ i. cond (e x here i) (x ∷ filter t xs) (filter t xs)) ∙ ap (λ l. cond (u x) (x ∷ l) l) (filter_same t u xs (λ y i. e y (there i)))

pub map_same : (f g : ℕ → ℕ) (xs : List ℕ) → ((x : ℕ) → x ∈ xs → f x ≡ g x) → map f xs ≡ map g xs
map_same f g [] e = refl
map_same f g (x ∷ xs) e = (λ i. e x here i ∷ map f xs) ∙ ap (λ l. g x ∷ l) (map_same f g xs (λ y i. e y (there i)))

-- New images are as many where both contents are the same.
pub images_same : (m k : Whole) (g p : ℕ) → content k g ≡ content m g → ((q : ℕ) → q ∈ content m g → at k q ≡ at m q) → content k p ≡ content m p → ((q : ℕ) → q ∈ content m p → at k q ≡ at m q) →
    new_images k g p ≡ new_images m g p
images_same m k g p cg ng cp np =
    ap (λ l. length (filter (λ n. is_none (old_number k p n)) l)) cg
    ∙ ap length (filter_same (λ n. is_none (old_number k p n)) (λ n. is_none (old_number m p n)) (content m g) (λ n i. ap is_none (number_same m k p n cp np (ng n i))))

zero_first : (d : ℕ) → 0 + d ≡ d
zero_first d = omega arith

add_up : (a b c d : ℕ) → c ≡ d → a + b + c ≡ a + (b + d)
add_up a b c d e = omega (arith, e)

fold_from : (xs : List ℕ) (a : ℕ) → fold ◌+◌ a xs ≡ a + fold ◌+◌ 0 xs
fold_from [] a = omega arith
fold_from (x ∷ xs) a = fold_from xs (a + x) ∙ moved a x (fold ◌+◌ 0 xs) (fold ◌+◌ (0 + x) xs) (fold_from xs (0 + x))
  where
    moved : (a x s t : ℕ) → t ≡ 0 + x + s → a + x + s ≡ a + t
    moved a x s t e = omega (arith, e)

pub sum_first : (f : ℕ → ℕ) (x : ℕ) (xs : List ℕ) → sum (map f (x ∷ xs)) ≡ f x + sum (map f xs)
sum_first f x xs = fold_from (map f xs) (0 + f x) ∙ ap (λ n. n + sum (map f xs)) (zero_first (f x))

-- The numbers of one spread.
pub contents_next : (G : ℕ → Type 0) (g : ℕ) (hs : List ℕ) (m : Whole) → Field G m → Source m g → G g → ((p : ℕ) → p ∈ hs → G p) → Once hs → (g ∈ hs → ⊥) →
    (put_contents g hs m).next ≡ m.next + sum (map (new_images m g) hs)
contents_next G g [] m F S i all o out = omega arith
contents_next G g (h ∷ hs) m F S i all o out =
    let ne : g ≢ h = λ e. out (first g e) in
    let j = all h here in
    contents_next G g hs (put_content g h m) (field_next G m F g h i j ne S) (source_next G m F g h i j ne S) i (λ p x. all p (there x)) o.1 (λ x. out (there x))
    ∙ add_up m.next (new_images m g h) (sum (map (new_images (put_content g h m) g) hs)) (sum (map (new_images m g) hs)) (ap sum (map_same (new_images (put_content g h m) g) (new_images m g) hs (λ p x. same ne p x)))
    ∙ ap (λ n. m.next + n) (sym (sum_first (new_images m g) h hs))
  where
    first : (p : ℕ) → p ≡ h → p ∈ (h ∷ hs)
    first p e = rw e here

    same : (ne : g ≢ h) (p : ℕ) → p ∈ hs → new_images (put_content g h m) g p ≡ new_images m g p
    same ne p x =
        let far : p ≢ h = λ e. o.0 (subst (λ z. z ∈ hs) e x) in
        let j = all h here in
        images_same m (put_content g h m) g p (content_p G m F g h i j ne S g i ne) (λ q y. node_p G m F g h i j ne S g q i ne y)
        (content_p G m F g h i j ne S p (all p (there x)) far) (λ q y. node_p G m F g h i j ne S p q (all p (there x)) far y)

-- Numbers of which none more passes.
none_pass : (t : ℕ → Bool) (s d : ℕ) → ((q : ℕ) → s ≤ q → t q ≡ false) → filter t (numbers_from s d) ≡ []
none_pass t s zero h = refl
none_pass t s (suc d) h =
    (λ i. cond (h s (omega arith) i) (s ∷ filter t (numbers_from (s + 1) d)) (filter t (numbers_from (s + 1) d))) ∙ none_pass t (s + 1) d (λ q l. h q (omega (arith, l)))

suc_first : (a d : ℕ) → suc a + d ≡ suc (a + d)
suc_first a d = omega arith

more_numbers : (t : ℕ → Bool) (s a d : ℕ) → ((q : ℕ) → s + a ≤ q → t q ≡ false) → filter t (numbers_from s (a + d)) ≡ filter t (numbers_from s a)
more_numbers t s zero d h = ap (λ n. filter t (numbers_from s n)) (zero_first d) ∙ none_pass t s d (λ q l. h q (omega (arith, l)))
more_numbers t s (suc a) d h = ap (λ n. filter t (numbers_from s n)) (suc_first a d) ∙ ap (λ l. cond (t s) (s ∷ l) l) (more_numbers t (s + 1) a d (λ q l. h q (omega (arith, l))))

pub numbers_pass : (t : ℕ → Bool) (a c : ℕ) → a ≤ c → ((q : ℕ) → a ≤ q → t q ≡ false) → filter t (numbers_from 0 c) ≡ filter t (numbers_from 0 a)
numbers_pass t a c le h = ap (λ n. filter t (numbers_from 0 n)) (split le) ∙ more_numbers t 0 a (c - a) (λ q l. h q (omega (arith, l)))
  where
    split : a ≤ c → c ≡ a + (c - a)
    split le = omega (arith, le)
