-- The properties that stay, and readings, one after another.
use Rattle.std.proofs.Common.{◌≡◌, inl, inr, ℕ, zero, suc, ◌+◌, ◌<◌, ◌≤◌, Bool, true, false, cond, not, ◌&&◌, nat_lt, nat_le, List, [], ◌∷◌, ◌++◌, map, length, get_or, take, drop, drop-cons, add-one, filter, Some, None, refl, ap, sym, ◌∙◌, subst, arith, bytes_eq, if◌then◌else◌}
use Rattle.std.specs.List.{list_all}
use Rattle.std.proofs.lemmas.Bool.{cases_Bool, and_parts, and_from, not-true, false_from_ne_true, both_ways, lt-ltb, le-leb}
use Rattle.std.proofs.lemmas.List.{take_more, length-take-le}
use Rattle.std.proofs.lemmas.Slice.Eq.{bytes_eq-Decides}
use Rattle.algebra.specs.Members.{◌∈◌, here, there}
use Rattle.uv_lock.specs.declared.texture.Format.{Format}
use Rattle.map_text.specs.declared.document.RawEntity.{RawEntity}
use Rattle.map_text.specs.Meaning.{put_property, value_of_key}
use Rattle.map_text.specs.Spelled.{keys_are_distinct}
use Rattle.map_model.specs.Tree.{Kind, Props}
use Rattle.file_laws.specs.Leaves.{Leaves}
use Rattle.file_laws.specs.Readings.{stays, kept_props, reading, readings_from}
use Rattle.std.specs.Str.{all_ascii_digits}
use Rattle.std.specs.Str.Parse.{digits_value}
use Rattle.cmd_text.specs.Spelling.{number_of}
use Rattle.file_laws.specs.Numbers.{read_id}
use Rattle.tree_file.proofs.Lists.{filter_in, filter_out}

pub in_list : {A : Type 0} (xs : List A) (i : ℕ) (x : A) → i < length xs → x ≡ get_or xs i x → x ∈ xs
in_list [] i x lt is = absurd (omega arith)
in_list {A} (y ∷ xs) zero x lt is = subst (λ (z : A). z ∈ (y ∷ xs)) (sym is) here
in_list (y ∷ xs) (suc i) x lt is = there (in_list xs i x (omega arith) is)

same_texts : (a b : List ℕ) → bytes_eq a b ≡ false → bytes_eq b a ≡ false
same_texts a b h = false_from_ne_true (bytes_eq b a) (λ e. both_ways (bytes_eq a b) h ((bytes_eq-Decides a b).1 (sym ((bytes_eq-Decides b a).0 e))))

all_at : {A : Type 0} (p : A → Bool) (xs : List A) → list_all p xs ≡ true → (x : A) → x ∈ xs → p x ≡ true
all_at p [] h x i = elim i [ ]
all_at p (y ∷ xs) h x here = (and_parts (p y) (list_all p xs) h).0
all_at p (y ∷ xs) h x (there i) = all_at p xs (and_parts (p y) (list_all p xs) h).1 x i

apart_before : (ps : Props) → keys_are_distinct ps ≡ true → (i : ℕ) (q : List ℕ × List ℕ) → i < length ps → q ≡ get_or ps i q → list_all (λ p. not (bytes_eq p.0 q.0)) (take i ps) ≡ true
apart_before ps d zero q lt is = refl
apart_before [] d (suc i) q lt is = absurd (omega arith)
apart_before (p ∷ ps) d (suc i) q lt is =
    let r = and_parts (list_all (λ x. not (bytes_eq x.0 p.0)) ps) (keys_are_distinct ps) d in
    let later = not-true (bytes_eq q.0 p.0) (all_at (λ x. not (bytes_eq x.0 p.0)) ps r.0 q (in_list ps i q (omega arith) is)) in
    and_from (not (bytes_eq p.0 q.0)) (list_all (λ x. not (bytes_eq x.0 q.0)) (take i ps)) (ap not (same_texts q.0 p.0 later)) (apart_before ps r.1 i q (omega arith) is)

all_filtered : {A : Type 0} (p t : A → Bool) (xs : List A) → list_all p xs ≡ true → list_all p (filter t xs) ≡ true
all_filtered p t [] h = refl
all_filtered p t (x ∷ xs) h =
    let r = and_parts (p x) (list_all p xs) h in
    elim (cases_Bool (t x)) [
      | inl e ↦ rw e (and_from (p x) (list_all p (filter t xs)) r.0 (all_filtered p t xs r.1))
      | inr e ↦ rw e (all_filtered p t xs r.1)
    ]

put_new : (key value : List ℕ) (ps : Props) → list_all (λ p. not (bytes_eq p.0 key)) ps ≡ true → put_property key value ps ≡ ps ++ (key, value) ∷ []
put_new key value [] h = refl
put_new key value (p ∷ ps) h =
    let r = and_parts (not (bytes_eq p.0 key)) (list_all (λ q. not (bytes_eq q.0 key)) ps) h in
    ap (λ b. if b then (key, value) ∷ ps else p ∷ put_property key value ps) (not-true (bytes_eq p.0 key) r.0) ∙ ap (λ l. p ∷ l) (put_new key value ps r.1)

-- one property more that stays, or that doesn't
kept_one : (k : Kind) (ps : Props) (i : ℕ) (key value : List ℕ) → keys_are_distinct ps ≡ true → i < length ps → (key, value) ≡ get_or ps i (key, value) → stays k (key, value) ≡ true →
    put_property key value (kept_props k (take i ps)) ≡ kept_props k (take (i + 1) ps)
kept_one k ps i key value d lt is h =
    put_new key value (filter (stays k) (take i ps)) (all_filtered (λ p. not (bytes_eq p.0 key)) (stays k) (take i ps) (apart_before ps d i (key, value) lt is))
    ∙ sym (filter_in (stays k) ps i (key, value) lt is h)

left_one : (k : Kind) (ps : Props) (i : ℕ) (key value : List ℕ) → i < length ps → (key, value) ≡ get_or ps i (key, value) → stays k (key, value) ≡ false →
    kept_props k (take i ps) ≡ kept_props k (take (i + 1) ps)
left_one k ps i key value lt is h = sym (filter_out (stays k) ps i (key, value) lt is h)

pub kept_more : (k : Kind) (ps : Props) (i : ℕ) (key value : List ℕ) → keys_are_distinct ps ≡ true → i < length ps → (key, value) ≡ get_or ps i (key, value) →
    cond (stays k (key, value)) (put_property key value (kept_props k (take i ps))) (kept_props k (take i ps)) ≡ kept_props k (take (i + 1) ps)
kept_more k ps i key value d lt is = elim (cases_Bool (stays k (key, value))) [
  | inl e ↦ ap (λ b. cond b (put_property key value (kept_props k (take i ps))) (kept_props k (take i ps))) e ∙ kept_one k ps i key value d lt is e
  | inr e ↦ ap (λ b. cond b (put_property key value (kept_props k (take i ps))) (kept_props k (take i ps))) e ∙ left_one k ps i key value lt is e
]

-- one item more of a list that is changed item by item
pub map_more : {A B : Type 0} (f : A → B) (xs : List A) (i : ℕ) (x : A) → i < length xs → x ≡ get_or xs i x → map f (take (i + 1) xs) ≡ map f (take i xs) ++ f x ∷ []
map_more f xs i x lt is = ap (map f) (take_more xs i x lt) ∙ Rattle.std.proofs.lemmas.List.map-append f (take i xs) (get_or xs i x ∷ []) ∙ ap (λ y. map f (take i xs) ++ f y ∷ []) (sym is)

read_append : (w : Leaves) (f : Format) (k : ℕ) (xs : List RawEntity) (x : RawEntity) → readings_from w f k (xs ++ x ∷ []) ≡ readings_from w f k xs ++ reading w f (k + length xs) x ∷ []
read_append w f k [] x = λ i. reading w f ((let e : k ≡ k + 0 = omega arith in e) i) x ∷ []
read_append w f k (y ∷ xs) x = ap (λ l. reading w f k y ∷ l)
    (read_append w f (suc k) xs x ∙ ap (λ n. readings_from w f (suc k) xs ++ reading w f n x ∷ []) (let e : suc k + length xs ≡ k + suc (length xs) = omega arith in e))

pub read_more : (w : Leaves) (f : Format) (xs : List RawEntity) (i : ℕ) (x : RawEntity) → i < length xs → x ≡ get_or xs i x →
    readings_from w f 0 (take (i + 1) xs) ≡ readings_from w f 0 (take i xs) ++ reading w f i x ∷ []
read_more w f xs i x lt is =
    ap (readings_from w f 0) (take_more xs i x lt) ∙ read_append w f 0 (take i xs) (get_or xs i x)
    ∙ (λ j. readings_from w f 0 (take i xs) ++ reading w f ((Rattle.std.proofs.Common.zero-add (length (take i xs)) ∙ length-take-le i xs (let v : i ≤ length xs = omega arith in v)) j) (sym is j) ∷ [])

-- ---- the value of a key

value_left : (key : List ℕ) (ps : Props) (i : ℕ) (p : List ℕ × List ℕ) → i < length ps → p ≡ get_or ps i p →
    value_of_key key (drop i ps) ≡ (if bytes_eq p.0 key then Some p.1 else value_of_key key (drop (i + 1) ps))
value_left key ps i p lt is =
    ap (value_of_key key) (drop-cons ps i p lt)
    ∙ ap (λ q. if bytes_eq q.0 key then Some q.1 else value_of_key key (drop (suc i) ps)) (sym is)
    ∙ ap (λ k. if bytes_eq p.0 key then Some p.1 else value_of_key key (drop k ps)) (sym (add-one i))

pub value_here : (key : List ℕ) (ps : Props) (i : ℕ) (p : List ℕ × List ℕ) → i < length ps → p ≡ get_or ps i p → bytes_eq p.0 key ≡ true →
    value_of_key key ps ≡ value_of_key key (drop i ps) → Some p.1 ≡ value_of_key key ps
value_here key ps i p lt is h left =
    sym (left ∙ value_left key ps i p lt is ∙ ap (λ b. if b then Some p.1 else value_of_key key (drop (i + 1) ps)) h)

pub value_later : (key : List ℕ) (ps : Props) (i : ℕ) (p : List ℕ × List ℕ) → i < length ps → p ≡ get_or ps i p → bytes_eq p.0 key ≡ false →
    value_of_key key ps ≡ value_of_key key (drop i ps) → value_of_key key ps ≡ value_of_key key (drop (i + 1) ps)
value_later key ps i p lt is h left = left ∙ value_left key ps i p lt is ∙ ap (λ b. if b then Some p.1 else value_of_key key (drop (i + 1) ps)) h

pub same_default : {A : Type 0} (xs : List A) (i : ℕ) (a b : A) → i < length xs → get_or xs i a ≡ get_or xs i b
same_default [] i a b lt = absurd (omega arith)
same_default (x ∷ xs) zero a b lt = refl
same_default (x ∷ xs) (suc i) a b lt = same_default xs i a b (omega arith)

-- ---- ids

tested : (short digits some : Bool) (n v : ℕ) → Some n ≡ cond (short && digits) (Some v) None → some ≡ nat_lt 0 v → nat_lt 0 n ≡ true → Some n ≡ cond (short && (digits && some)) (Some v) None
tested true true some n v e s h =
    e ∙ ap (λ b. cond b (Some v) None) (sym (s ∙ ap (nat_lt 0) (sym (let f : n ≡ v = cc in f)) ∙ h))
tested true false some n v e s h = absurd (cc e)
tested false digits some n v e s h = absurd (cc e)

short_same : (x : ℕ) → nat_le 1 x ≡ nat_lt 0 x
short_same zero = refl
short_same (suc x) = le-leb 1 (suc x) (omega arith) ∙ sym (lt-ltb 0 (suc x) (omega arith))

-- the test of an id, by that of a number
id_is : (text : List ℕ) → cond ((nat_le 1 (length text) && nat_le (length text) 9) && (all_ascii_digits text && nat_lt 0 (digits_value 10 text))) (Some (digits_value 10 text)) None ≡ read_id text
id_is text = ap (λ b. cond ((b && nat_le (length text) 9) && (all_ascii_digits text && nat_lt 0 (digits_value 10 text))) (Some (digits_value 10 text)) None) (short_same (length text))

pub id_some : (text : List ℕ) (n : ℕ) → Some n ≡ number_of text → (n ≡ 0 → ⊥) → Some n ≡ read_id text
unfolding number_of
id_some text n e some =
    tested (nat_le 1 (length text) && nat_le (length text) 9) (all_ascii_digits text) (nat_lt 0 (digits_value 10 text)) n (digits_value 10 text) e refl (lt-ltb 0 n (omega arith)) ∙ id_is text

untested : (short digits some : Bool) (v : ℕ) → Some 0 ≡ cond (short && digits) (Some v) None → some ≡ nat_lt 0 v → None ≡ cond (short && (digits && some)) (Some v) None
untested true true some v e s = ap (λ b. cond b (Some v) None) (sym (s ∙ ap (nat_lt 0) (sym (let f : 0 ≡ v = cc in f))))
untested true false some v e s = refl
untested false digits some v e s = refl

pub id_zero : (text : List ℕ) → Some 0 ≡ number_of text → None ≡ read_id text
unfolding number_of
id_zero text e = untested (nat_le 1 (length text) && nat_le (length text) 9) (all_ascii_digits text) (nat_lt 0 (digits_value 10 text)) (digits_value 10 text) e refl ∙ id_is text

unread : (short digits some : Bool) (v : ℕ) → None ≡ cond (short && digits) (Some v) None → None ≡ cond (short && (digits && some)) (Some v) None
unread true true some v e = absurd (cc e)
unread true false some v e = refl
unread false digits some v e = refl

pub id_none : (text : List ℕ) → None ≡ number_of text → None ≡ read_id text
unfolding number_of
id_none text e = unread (nat_le 1 (length text) && nat_le (length text) 9) (all_ascii_digits text) (nat_lt 0 (digits_value 10 text)) (digits_value 10 text) e ∙ id_is text
