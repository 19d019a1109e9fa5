-- The candidates of a saved map are its linked groups, and its sets are the map's.
use Rattle.std.proofs.Common.{◌≡◌, ℕ, zero, suc, ◌^◌, ◌<◌, Bool, true, false, not, ◌==◌, List, [], ◌∷◌, ◌++◌, map, length, get_or, refl, ap, sym, ◌∙◌, subst, arith, ◌⊎◌, inl, inr, is_some, is_none, option_map, unwrap_or, bytes_eq}
use Rattle.std.specs.Prelude.{filter, flat_map, filter_map, Option, Some, None}
use Rattle.std.specs.List.{cons_option}
use Rattle.std.specs.Fmt.{decimal}
use Rattle.std.proofs.lemmas.Bool.{cases_Bool, cases_eq, eq-eqb, ne_eqb, both_ways, cond-true, and_left, and_right, false_from_ne_true}
use Rattle.std.proofs.lemmas.List.{get_or-map}
use Rattle.std.proofs.lemmas.Slice.Eq.{bytes_eq-Decides}
use Rattle.std.proofs.lemmas.Fmt.{decimal_injective}
use Rattle.algebra.specs.Members.{◌∈◌, here, there}
use Rattle.algebra.proofs.Members.{member_at}
use Rattle.map_model.specs.Tree.{Whole, Node, World, Layer, Group, Entity, Brush, group, at, is_kind, has_kind, is_linked, link_of, link_at, set_at, preorder, is_one_number}
use Rattle.map_model.specs.Shape.{Shape}
use Rattle.map_model.specs.Links.{motion_at}
use Rattle.map_model.specs.Motions.{stay}
use Rattle.map_model.specs.Brushes.{first_of_each}
use Rattle.file_laws.specs.Numbers.{place_in}
use Rattle.file_laws.specs.Saved.{file_order, set_id_of}
use Rattle.file_laws.specs.Build.{number_of, places_above}
use Rattle.file_laws.specs.Linked.{Candidate, candidate_from, candidate, has_no_motion, lies_beneath, is_nested, set_texts, members_of, sets_of}
use Rattle.file_laws.specs.Renumbered.{sets_in_order, members_in_order}
use Rattle.file_laws.proofs.Lists.{Distinct, map_agree, map_of_map, flat_map_of_map, flat_map_agree, filter_all, filter_none, filter_agrees, filter_map_is, in_filter, of_filter, in_map, of_map, none_of, one_place, head_or_tail}
use Rattle.file_laws.proofs.Preorder.{Under, top_of, one_of_some}
use Rattle.file_laws.proofs.Order.{Order}
use Rattle.file_laws.proofs.Good.{parent_at, good, good_item, in_order, distinct_file, HasParent, parent_in_file}
use Rattle.file_laws.proofs.Placed.{place_of_world, place_of_get}
use Rattle.file_laws.proofs.Drawn.{number_is}
use Rattle.file_laws.proofs.Overs.{no_link_above}

-- ---- lists

pub flat_map_some : {A B : Type 0} (h : A → List B) (c : A → B) (p : A → Bool) (xs : List A) →
    ((x : A) → x ∈ xs → p x ≡ true → h x ≡ c x ∷ []) → ((x : A) → x ∈ xs → p x ≡ false → h x ≡ []) → flat_map h xs ≡ map c (filter p xs)
flat_map_some h c p [] passes none = refl
flat_map_some h c p (x ∷ xs) passes none =
    let ih = flat_map_some h c p xs (λ y i. passes y (there i)) (λ y i. none y (there i)) in
    elim (cases_Bool (p x)) [
      | inl e ↦ rw e (λ j. passes x here e j ++ ih j)
      | inr e ↦ rw e (λ j. none x here e j ++ ih j)
    ]

pub filter_map_some : {A B : Type 0} (h : A → Option B) (c : A → B) (p : A → Bool) (xs : List A) →
    ((x : A) → x ∈ xs → p x ≡ true → h x ≡ Some (c x)) → ((x : A) → x ∈ xs → p x ≡ false → h x ≡ None) → filter_map h xs ≡ map c (filter p xs)
filter_map_some h c p [] passes none = refl
filter_map_some h c p (x ∷ xs) passes none =
    let ih = filter_map_some h c p xs (λ y i. passes y (there i)) (λ y i. none y (there i)) in
    elim (cases_Bool (p x)) [
      | inl e ↦ rw e (λ j. cons_option (passes x here e j) (ih j))
      | inr e ↦ rw e (λ j. cons_option (none x here e j) (ih j))
    ]

pub in_firsts : (x : ℕ) (xs : List ℕ) → x ∈ xs → x ∈ first_of_each (λ a b. a == b) xs
in_firsts x [] i = elim i [ ]
in_firsts x (y ∷ ys) i = elim (cases_eq y x) [
  | inl e ↦ subst (λ (k : ℕ). k ∈ (y ∷ filter (λ z. not (y == z)) (first_of_each (λ a b. a == b) ys))) e here
  | inr d ↦ elim (head_or_tail x y ys i) [
    | inl e ↦ absurd (d (sym e))
    | inr j ↦ there (in_filter (λ z. not (y == z)) (first_of_each (λ a b. a == b) ys) x (in_firsts x ys j) (ap not (ne_eqb y x d)))
  ]
]

pub of_firsts : (x : ℕ) (xs : List ℕ) → x ∈ first_of_each (λ a b. a == b) xs → x ∈ xs
of_firsts x [] i = elim i [ ]
of_firsts x (y ∷ ys) i = elim (head_or_tail x y (filter (λ z. not (y == z)) (first_of_each (λ a b. a == b) ys)) i) [
  | inl e ↦ subst (λ (k : ℕ). k ∈ (y ∷ ys)) (sym e) here
  | inr j ↦ there (of_firsts x ys (of_filter (λ z. not (y == z)) (first_of_each (λ a b. a == b) ys) x j).0)
]

firsts_of_map : (t : ℕ → List ℕ) (xs : List ℕ) → ((a b : ℕ) → a ∈ xs → b ∈ xs → bytes_eq (t a) (t b) ≡ (a == b)) →
    first_of_each bytes_eq (map t xs) ≡ map t (first_of_each (λ a b. a == b) xs)
firsts_of_map t [] h = refl
firsts_of_map t (x ∷ xs) h =
    ap (λ l. t x ∷ filter (λ y. not (bytes_eq (t x) y)) l) (firsts_of_map t xs (λ a b i j. h a b (there i) (there j)))
    ∙ ap (λ l. t x ∷ l) (filter_map_is (λ y. not (bytes_eq (t x) y)) t (first_of_each (λ a b. a == b) xs)
    ∙ ap (map t) (filter_agrees (λ z. not (bytes_eq (t x) (t z))) (λ z. not (x == z)) (first_of_each (λ a b. a == b) xs)
    (λ z i. ap not (h x z here (there (of_firsts z xs i))))))

filter_of_filter : {A : Type 0} (p q : A → Bool) (xs : List A) → ((x : A) → x ∈ xs → q x ≡ true → p x ≡ true) → filter q (filter p xs) ≡ filter q xs
filter_of_filter p q [] h = refl
filter_of_filter p q (x ∷ xs) h =
    let ih = filter_of_filter p q xs (λ y i. h y (there i)) in
    elim (cases_Bool (q x)) [
      | inl e ↦ rw (h x here e, e) (ap (λ l. x ∷ l) ih)
      | inr e ↦ elim (cases_Bool (p x)) [
        | inl f ↦ rw (f, e) ih
        | inr f ↦ rw (f, e) ih
      ]
    ]

-- ---- linked nodes

pub record LinkAt (m : Whole) (n : ℕ) : Type 0 where
  pub set_is : set_at m n ≡ Some (unwrap_or (set_at m n) 0)
  pub motion_is : option_map (λ l. l.motion) (link_at m n) ≡ Some (motion_at m n)
  pub is_group : is_kind m group n ≡ true

link_of_node : (o : Option Node) → unwrap_or (option_map (λ x. is_some (link_of x)) o) false ≡ true →
    (option_map (λ l. l.set) (unwrap_or (option_map link_of o) None) ≡ Some (unwrap_or (option_map (λ l. l.set) (unwrap_or (option_map link_of o) None)) 0))
    × (option_map (λ l. l.motion) (unwrap_or (option_map link_of o) None) ≡ Some (unwrap_or (option_map (λ l. l.motion) (unwrap_or (option_map link_of o) None)) stay))
    × (unwrap_or (option_map (has_kind group) o) false ≡ true)
link_of_node None h = absurd (cc h)
link_of_node (Some (World format ps b c)) h = absurd (cc h)
link_of_node (Some (Layer name frozen ps b c)) h = absurd (cc h)
link_of_node (Some (Group q mark name None ps b c)) h = absurd (cc h)
link_of_node (Some (Group q mark name (Some l) ps b c)) h = (refl, refl, refl)
link_of_node (Some (Entity q mark ps ks b)) h = absurd (cc h)
link_of_node (Some (Brush q mark fs)) h = absurd (cc h)

no_link_of_node : (o : Option Node) → unwrap_or (option_map (λ x. is_some (link_of x)) o) false ≡ false → unwrap_or (option_map link_of o) None ≡ None
no_link_of_node None h = refl
no_link_of_node (Some x) h = by_value (link_of x) h
  where
    by_value : {A : Type 0} (v : Option A) → is_some v ≡ false → v ≡ None
    by_value None h = refl
    by_value (Some z) h = absurd (cc h)

pub linked_at : (m : Whole) (n : ℕ) → is_linked m n ≡ true → LinkAt m n
linked_at m n h = let r = link_of_node (at m n) h in record { set_is = r.0; motion_is = r.1; is_group = r.2 }

pub no_link_at : (m : Whole) (n : ℕ) → is_linked m n ≡ false → link_at m n ≡ None
no_link_at m n h = no_link_of_node (at m n) h

pub linked_by_set : (m : Whole) (n s : ℕ) → set_at m n ≡ Some s → is_linked m n ≡ true
linked_by_set m n s e = elim (cases_Bool (is_linked m n)) [
  | inl h ↦ h
  | inr h ↦ absurd (none_is_not_some (sym (ap (option_map (λ l. l.set)) (no_link_at m n h)) ∙ e))
]
  where
    none_is_not_some : {a : ℕ} → None ≡ Some a → ⊥
    none_is_not_some e = cc

abbrev pub set_of : Whole → ℕ → ℕ
set_of m n = unwrap_or (set_at m n) 0

abbrev pub set_text : Whole → ℕ → List ℕ
set_text m s = decimal (set_id_of m s)

abbrev pub good_candidate : Whole → ℕ → Candidate
good_candidate m n = record { place = place_in (file_order m) n; number = place_in (preorder m 0) n; set = set_text m (set_of m n); motion = motion_at m n }

abbrev pub linked_groups : Whole → List ℕ
linked_groups m = filter (is_linked m) (file_order m)

module _ (m : Whole) (shape : Shape m) (o : Order m (preorder m 0)) where
  -- ---- candidates

  one_candidate : (n : ℕ) → n ∈ file_order m → is_linked m n ≡ true → candidate (map (good_item m) (file_order m)) (good_item m n) ≡ good_candidate m n ∷ []
  one_candidate n i h =
      let l = linked_at m n h in
      (λ j. candidate_from (place_in (file_order m) n) (number_is m shape.standing o n i j) (option_map (set_text m) (l.set_is j)) (l.motion_is j))

  no_candidate : (n : ℕ) → n ∈ file_order m → is_linked m n ≡ false → candidate (map (good_item m) (file_order m)) (good_item m n) ≡ []
  no_candidate n i h =
      ap (λ l. candidate_from (place_in (file_order m) n) (number_of (map (good_item m) (file_order m)) (place_in (file_order m) n)) (option_map (set_text m) (option_map (λ k. k.set) l)) (option_map (λ k. k.motion) l))
      (no_link_at m n h)

  pub candidates_are : flat_map (candidate (map (good_item m) (file_order m))) (map (good_item m) (file_order m)) ≡ map (good_candidate m) (linked_groups m)
  candidates_are =
      flat_map_of_map (candidate (map (good_item m) (file_order m))) (good_item m) (file_order m)
      ∙ flat_map_some (λ n. candidate (map (good_item m) (file_order m)) (good_item m n)) (good_candidate m) (is_linked m) (file_order m) one_candidate no_candidate

  has_motion : (n : ℕ) → n ∈ file_order m → has_no_motion (good_item m n) ≡ false
  has_motion n i = elim (cases_Bool (is_linked m n)) [
    | inl h ↦ and_right (is_some (good m n).set) (is_none (good m n).motion)
        (ap is_none (linked_at m n h).motion_is)
    | inr h ↦ and_left (is_some (good m n).set) (is_none (good m n).motion)
        (ap (λ l. is_some (option_map (set_text m) (option_map (λ k. k.set) l))) (no_link_at m n h))
  ]

  pub no_motion_notes : filter has_no_motion (map (good_item m) (file_order m)) ≡ []
  no_motion_notes = filter_map_is has_no_motion (good_item m) (file_order m)
      ∙ ap (map (good_item m)) (filter_none (λ n. has_no_motion (good_item m n)) (file_order m) has_motion)

  -- ---- nesting

  -- What is above a place is the place of a node above.
  record PlaceAbove (x n : ℕ) : Type 0 where
    node : ℕ
    in_file : node ∈ file_order m
    place_is : x ≡ place_in (file_order m) node
    steps : ℕ
    under : Under m node (suc steps) n

  place_above : (k e x n : ℕ) → n ∈ file_order m → place_in (file_order m) n ≡ e →
      x ∈ places_above (map (λ q. place_in (file_order m) (parent_at m q)) (file_order m)) k e → PlaceAbove x n
  place_above zero e x n i f j = elim j [ ]
  place_above (suc k) zero x n i f j = elim j [ ]
  place_above (suc k) (suc e) x n i f j =
      elim (parent_in_file m shape.standing o n i) [
        | inl z ↦ absurd (let g : suc e ≡ 0 = sym f ∙ ap (place_in (file_order m)) z ∙ place_of_world m shape.standing o in omega arith)
        | inr p ↦ at_parent p (head_or_tail x (get_or ps (suc e) 0) (places_above ps k (get_or ps (suc e) 0)) j) (λ y. place_above k (get_or ps (suc e) 0) x y)
      ]
    where
      ps : List ℕ
      ps = map (λ q. place_in (file_order m) (parent_at m q)) (file_order m)

      at_parent : (p : HasParent m shape.standing o n) → (x ≡ get_or ps (suc e) 0) ⊎ (x ∈ places_above ps k (get_or ps (suc e) 0)) →
          ((y : ℕ) → y ∈ file_order m → place_in (file_order m) y ≡ get_or ps (suc e) 0 → x ∈ places_above ps k (get_or ps (suc e) 0) → PlaceAbove x y) → PlaceAbove x n
      at_parent p c ih =
          let w : suc e < length (file_order m) = subst (λ (q : ℕ). q < length (file_order m)) f (Rattle.file_laws.proofs.Lists.place_within n (file_order m) i) in
          let same : get_or (file_order m) (suc e) 0 ≡ n =
          one_place (get_or (file_order m) (suc e) 0) n (file_order m) (member_at (file_order m) (suc e) 0 w) i
          (place_of_get (file_order m) (suc e) (distinct_file m shape.standing o) w ∙ sym f) in
          let got : get_or ps (suc e) 0 ≡ place_in (file_order m) p.parent =
          get_or-map (λ q. place_in (file_order m) (parent_at m q)) (file_order m) (suc e) 0 0 w
          ∙ ap (λ q. place_in (file_order m) (parent_at m q)) same
          ∙ ap (λ u. place_in (file_order m) (unwrap_or u 0)) p.up_is in
          elim c [
            | inl d ↦ record { node = p.parent; in_file = p.in_file; place_is = d ∙ got; steps = 0; under = (p.parent, p.up_is, refl) }
            | inr t ↦
                let r = ih p.parent p.in_file (sym got) t in
                record { node = r.node; in_file = r.in_file; place_is = r.place_is; steps = suc r.steps; under = (p.parent, p.up_is, r.under) }
          ]

  not_beneath : (g d : ℕ) → g ∈ file_order m → is_linked m g ≡ true → d ∈ file_order m → is_linked m d ≡ true →
      lies_beneath (map (λ q. place_in (file_order m) (parent_at m q)) (file_order m)) (good_candidate m g) (good_candidate m d) ≡ false
  not_beneath g d i h j k =
      none_of (λ x. x == place_in (file_order m) d) (places_above (map (λ q. place_in (file_order m) (parent_at m q)) (file_order m)) (length (map (λ q. place_in (file_order m) (parent_at m q)) (file_order m))) (place_in (file_order m) g))
      (λ x t. ne_eqb x (place_in (file_order m) d) (λ e. at_place x e
      (place_above (length (map (λ q. place_in (file_order m) (parent_at m q)) (file_order m))) (place_in (file_order m) g) x g i refl t)))
    where
      at_place : (x : ℕ) → x ≡ place_in (file_order m) d → PlaceAbove x g → ⊥
      at_place x e r =
          let same : r.node ≡ d = one_place r.node d (file_order m) r.in_file j (sym r.place_is ∙ e) in
          no_link_above m shape.standing shape.numbers o shape.marks d r.steps g k h (in_order m shape.standing o g i).0
          (subst (λ (q : ℕ). Under m q (suc r.steps) g) same r.under)

  pub not_nested : (g : ℕ) → g ∈ linked_groups m →
      is_nested (map (λ q. place_in (file_order m) (parent_at m q)) (file_order m)) (map (good_candidate m) (linked_groups m)) (good_candidate m g) ≡ false
  not_nested g i =
      none_of (lies_beneath (map (λ q. place_in (file_order m) (parent_at m q)) (file_order m)) (good_candidate m g)) (map (good_candidate m) (linked_groups m))
      (λ c j. at_candidate c (of_map (good_candidate m) (linked_groups m) c j))
    where
      at_candidate : (c : Candidate) → (d : ℕ) × (d ∈ linked_groups m) × (c ≡ good_candidate m d) →
          lies_beneath (map (λ q. place_in (file_order m) (parent_at m q)) (file_order m)) (good_candidate m g) c ≡ false
      at_candidate c r =
          let a = of_filter (is_linked m) (file_order m) g i in
          let b = of_filter (is_linked m) (file_order m) r.0 r.1 in
          ap (lies_beneath (map (λ q. place_in (file_order m) (parent_at m q)) (file_order m)) (good_candidate m g)) r.2
          ∙ not_beneath g r.0 a.0 a.1 b.0 b.1

  -- ---- sets

  pub sets_of_groups : filter_map (set_at m) (file_order m) ≡ map (set_of m) (linked_groups m)
  sets_of_groups = filter_map_some (set_at m) (set_of m) (is_linked m) (file_order m)
      (λ n i h. (linked_at m n h).set_is) (λ n i h. ap (option_map (λ l. l.set)) (no_link_at m n h))

  pub texts_apart : ((s : ℕ) → set_id_of m s < 2 ^ 64) → (a b : ℕ) → a ∈ map (set_of m) (linked_groups m) → b ∈ map (set_of m) (linked_groups m) →
      bytes_eq (set_text m a) (set_text m b) ≡ (a == b)
  texts_apart small a b i j = elim (cases_eq a b) [
    | inl e ↦ (bytes_eq-Decides (set_text m a) (set_text m b)).1 (ap (set_text m) e) ∙ sym (eq-eqb a b e)
    | inr d ↦ false_from_ne_true (bytes_eq (set_text m a) (set_text m b)) (λ t. d (same ((bytes_eq-Decides (set_text m a) (set_text m b)).0 t))) ∙ sym (ne_eqb a b d)
  ]
    where
      same : set_text m a ≡ set_text m b → a ≡ b
      same e =
          let f : set_id_of m a ≡ set_id_of m b = decimal_injective (set_id_of m a) (set_id_of m b) (small a) (small b) e in
          one_place a b (sets_in_order m)
          (in_firsts a (filter_map (set_at m) (file_order m)) (subst (λ (l : List ℕ). a ∈ l) (sym sets_of_groups) i))
          (in_firsts b (filter_map (set_at m) (file_order m)) (subst (λ (l : List ℕ). b ∈ l) (sym sets_of_groups) j))
          (Rattle.file_laws.proofs.Preorder.same_pred f)

  texts_are : ((s : ℕ) → set_id_of m s < 2 ^ 64) → set_texts (map (good_candidate m) (linked_groups m)) ≡ map (set_text m) (sets_in_order m)
  texts_are small =
      ap (first_of_each bytes_eq) (map_of_map (λ c. c.set) (good_candidate m) (linked_groups m) ∙ sym (map_of_map (set_text m) (set_of m) (linked_groups m)))
      ∙ firsts_of_map (set_text m) (map (set_of m) (linked_groups m)) (texts_apart small)
      ∙ ap (λ l. map (set_text m) (first_of_each (λ a b. a == b) l)) (sym sets_of_groups)

  members_are : ((s : ℕ) → set_id_of m s < 2 ^ 64) → (s : ℕ) → s ∈ sets_in_order m →
      members_of (map (good_candidate m) (linked_groups m)) (set_text m s) ≡ map (good_candidate m) (members_in_order m s)
  members_are small s i =
      filter_map_is (λ c. bytes_eq c.set (set_text m s)) (good_candidate m) (linked_groups m)
      ∙ ap (map (good_candidate m))
      (filter_agrees (λ g. bytes_eq (set_text m (set_of m g)) (set_text m s)) (λ g. is_one_number (set_at m g) (Some s)) (linked_groups m) in_set
      ∙ filter_of_filter (is_linked m) (λ g. is_one_number (set_at m g) (Some s)) (file_order m) linked_in_set)
    where
      in_groups : s ∈ map (set_of m) (linked_groups m)
      in_groups = subst (λ (l : List ℕ). s ∈ l) sets_of_groups (of_firsts s (filter_map (set_at m) (file_order m)) i)

      in_set : (g : ℕ) → g ∈ linked_groups m → bytes_eq (set_text m (set_of m g)) (set_text m s) ≡ is_one_number (set_at m g) (Some s)
      in_set g j =
          texts_apart small (set_of m g) s (in_map (set_of m) (linked_groups m) g j) in_groups
          ∙ sym (ap (λ q. is_one_number q (Some s)) (linked_at m g (of_filter (is_linked m) (file_order m) g j).1).set_is)

      linked_in_set : (g : ℕ) → g ∈ file_order m → is_one_number (set_at m g) (Some s) ≡ true → is_linked m g ≡ true
      linked_in_set g j h = elim (cases_Bool (is_linked m g)) [
        | inl k ↦ k
        | inr k ↦ absurd (both_ways (is_one_number (set_at m g) (Some s)) (ap (λ l. is_one_number (option_map (λ q. q.set) l) (Some s)) (no_link_at m g k)) h)
      ]

  pub sets_are : ((s : ℕ) → set_id_of m s < 2 ^ 64) →
      sets_of (map (good_candidate m) (linked_groups m)) ≡ map (λ s. map (good_candidate m) (members_in_order m s)) (sets_in_order m)
  sets_are small =
      ap (map (members_of (map (good_candidate m) (linked_groups m)))) (texts_are small)
      ∙ map_of_map (members_of (map (good_candidate m) (linked_groups m))) (set_text m) (sets_in_order m)
      ∙ map_agree (λ s. members_of (map (good_candidate m) (linked_groups m)) (set_text m s)) (λ s. map (good_candidate m) (members_in_order m s)) (sets_in_order m) (members_are small)
