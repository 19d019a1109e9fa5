-- The image of a right node is right, where no fault is told of it.
use Rattle.std.proofs.Common.{◌≡◌, ℕ, List, [], ◌∷◌, ◌++◌, filter, filter_map, Bool, true, false, cond, not, ◌&&◌, ◌||◌, refl, ap, sym, ◌∙◌, Option, Some, None, option_map}
use Rattle.std.specs.Prelude.{ℤ, option_and_then, codes, is_some, is_none}
use Rattle.std.specs.Option.{option_map_or}
use Rattle.std.specs.List.{list_all, cons_option}
use Rattle.std.specs.Str.{bytes_eq}
use Rattle.std.proofs.lemmas.Bool.{and_parts, and_from, true≢false}
use Rattle.std.proofs.lemmas.Slice.Eq.{bytes_eq-Decides}
use Rattle.exact_geom.specs.Planes.{first_out_of_range}
use Rattle.uv_lock.specs.declared.texture.Format.{Format}
use Rattle.map_lex.specs.OneToken.{is_value_text, is_key_text}
use Rattle.map_text.specs.Spelled.{keys_are_distinct}
use Rattle.map_model.specs.Faces.{Face, Tex, StandardFields, ValveFields}
use Rattle.map_model.specs.Motions.{Motion, is_signed_permutation, moved_plane}
use Rattle.map_model.specs.Carry.{carry, carried_tex, turned_axes, lost_offset, lost_offset_at, locked_offset}
use Rattle.map_model.specs.Brushes.{first_place, first_beyond}
use Rattle.map_model.specs.Tree.{Node, World, Layer, Group, Entity, Brush, Props, entity, props_of}
use Rattle.map_model.specs.Edits.{renumber}
use Rattle.map_model.specs.Shape.{PropsOk, NodeOk, is_plain_type, taken_keys}
use Rattle.map_model.specs.Props.{value_at, has_key, is_text_among}
use Rattle.map_model.specs.Origins.{moved_props}
use Rattle.map_model.specs.Below.{Below, IsRight}
use Rattle.map_model.specs.Links.{image, image_props, kept_value, is_protected, image_fault}
use Rattle.map_laws.proofs.Slots.{by_bool}
use Rattle.map_laws.proofs.MovedFaces.{CanBeCarried}
use Rattle.map_laws.proofs.MovedNodes.{CanBeMoved, node_moved}
use Rattle.map_laws.proofs.MovingCommands.{no_place, none_by}
use Rattle.link_laws.specs.Images.{OldOk}
use Rattle.link_laws.proofs.Values.{image_free, image_protected_value}
use Rattle.link_laws.proofs.Ones.{no_if, no_at}

-- What is told of faces. -------------------------------------------------------------------------------------------------------------

-- A texture that is carried with lock loses no offset.
no_loss : (r : Motion) (t : Tex) → is_none (carried_tex true r t) ≡ false → lost_offset r t ≡ None
no_loss r (StandardFields t) e = refl
no_loss r (ValveFields t) e = by (locked_offset r t 0) (locked_offset r t 1) e
  where
    by : (o p : Option ℤ) → is_none (option_and_then (λ u. option_map (λ v. ValveFields (record t { axis = turned_axes r t.axis; off = u ∷ v ∷ [] })) p) o) ≡ false →
        cond (is_some o) (cond (is_some p) None (Some (lost_offset_at r t 1))) (Some (lost_offset_at r t 0)) ≡ None
    by None p e = absurd (cc)
    by (Some u) None e = absurd (cc)
    by (Some u) (Some v) e = refl

carries : (r : Motion) (f : Face) → not (is_none (first_out_of_range (moved_plane r f.plane))) ≡ false → is_none (carry true r f) ≡ false → CanBeCarried true r f
carries r f range whole = record {
  range = none_by (first_out_of_range (moved_plane r f.plane)) range;
  offsets = λ lock. no_loss r f.tex (by (carried_tex true r f.tex) whole);
}
  where
    by : (o : Option Tex) → is_none (option_map (λ tex. record f { plane = moved_plane r f.plane; tex = tex }) o) ≡ false → is_none o ≡ false
    by None e = e
    by (Some t) e = refl

pub can_be_moved : (b : Below) (h q : ℕ) (r : Motion) (x : Node) → image_fault b h r q x ≡ None → CanBeMoved b true r x
can_be_moved b h q r (World format props brushes others) e = tt
can_be_moved b h q r (Layer name frozen props brushes others) e = tt
can_be_moved b h q r (Group parent mark name link props brushes others) e = tt
can_be_moved b h q r (Entity parent mark props protected brushes) e = tt
can_be_moved b h q r (Brush parent mark faces) e =
    let s = no_at _ (first_beyond (moved_plane r) faces) _ e in
    let u = no_if _ _ _ s.1 in
    let v = no_at _ (first_place (λ f. is_none (carry true r f)) 0 faces) None u.1 in (
      (λ f i. carries r f (no_place (λ f. not (is_none (first_out_of_range (moved_plane r f.plane)))) 0 faces s.0 f i) (no_place (λ f. is_none (carry true r f)) 0 faces v.0 f i)),
      u.0,
    )

-- Properties of the image of an entity. ------------------------------------------------------------------------------------------------

abbrev Pair : Type 0
Pair = List ℕ × List ℕ

-- A test of all pairs of one list or two.
all_append : (t : Pair → Bool) (xs ys : Props) → list_all t xs ≡ true → list_all t ys ≡ true → list_all t (xs ++ ys) ≡ true
all_append t [] ys e f = f
all_append t (x ∷ xs) ys e f = let k = and_parts (t x) (list_all t xs) e in and_from (t x) (list_all t (xs ++ ys)) k.0 (all_append t xs ys k.1 f)

all_by : (t u : Pair → Bool) → ((p : Pair) → t p ≡ true → u p ≡ true) → (ps : Props) → list_all t ps ≡ true → list_all u ps ≡ true
all_by t u h [] e = refl
all_by t u h (p ∷ ps) e = let k = and_parts (t p) (list_all t ps) e in and_from (u p) (list_all u ps) (h p k.0) (all_by t u h ps k.1)

all_filter : (t f : Pair → Bool) (ps : Props) → list_all t ps ≡ true → list_all t (filter f ps) ≡ true
all_filter t f [] e = refl
all_filter t f (p ∷ ps) e =
    let k = and_parts (t p) (list_all t ps) e in
    elim (f p) as (λ b. list_all t (cond b (p ∷ filter f ps) (filter f ps)) ≡ true) [
      | true ↦ and_from (t p) (list_all t (filter f ps)) k.0 (all_filter t f ps k.1)
      | false ↦ all_filter t f ps k.1
    ]

distinct_filter : (f : Pair → Bool) (ps : Props) → keys_are_distinct ps ≡ true → keys_are_distinct (filter f ps) ≡ true
distinct_filter f [] e = refl
distinct_filter f (p ∷ ps) e =
    let k = and_parts (list_all (λ q. not (bytes_eq q.0 p.0)) ps) (keys_are_distinct ps) e in
    elim (f p) as (λ b. keys_are_distinct (cond b (p ∷ filter f ps) (filter f ps)) ≡ true) [
      | true ↦ and_from (list_all (λ q. not (bytes_eq q.0 p.0)) (filter f ps)) (keys_are_distinct (filter f ps)) (all_filter (λ q. not (bytes_eq q.0 p.0)) f ps k.0) (distinct_filter f ps k.1)
      | false ↦ distinct_filter f ps k.1
    ]

distinct_append : (xs ys : Props) → keys_are_distinct xs ≡ true → keys_are_distinct ys ≡ true → list_all (λ x. list_all (λ q. not (bytes_eq q.0 x.0)) ys) xs ≡ true → keys_are_distinct (xs ++ ys) ≡ true
distinct_append [] ys e f h = f
distinct_append (x ∷ xs) ys e f h =
    let k = and_parts (list_all (λ q. not (bytes_eq q.0 x.0)) xs) (keys_are_distinct xs) e in
    let l = and_parts (list_all (λ q. not (bytes_eq q.0 x.0)) ys) (list_all (λ x. list_all (λ q. not (bytes_eq q.0 x.0)) ys) xs) h in
    and_from (list_all (λ q. not (bytes_eq q.0 x.0)) (xs ++ ys)) (keys_are_distinct (xs ++ ys)) (all_append (λ q. not (bytes_eq q.0 x.0)) xs ys k.0 l.0) (distinct_append xs ys k.1 f l.1)

moved_keys : (r : Motion) (t : List ℕ → Bool) (ps : Props) → list_all (λ p. t p.0) (moved_props r ps) ≡ list_all (λ p. t p.0) ps
moved_keys r t [] = refl
moved_keys r t (p ∷ ps) = ap (λ b. t p.0 && b) (moved_keys r t ps)

text_is : (a b : List ℕ) → bytes_eq a b ≡ true → a ≡ b
text_is a b e = (bytes_eq-Decides a b).0 e

-- Each key of a list is there.
has_own : (ps : Props) → list_all (λ q. has_key q.0 ps) ps ≡ true
has_own [] = refl
has_own (p ∷ ps) =
    and_from (has_key p.0 (p ∷ ps)) (list_all (λ q. has_key q.0 (p ∷ ps)) ps)
    (ap (λ b. is_some (cond b (Some p.1) (value_at p.0 ps))) ((bytes_eq-Decides p.0 p.0).1 refl))
    (all_by (λ q. has_key q.0 ps) (λ q. has_key q.0 (p ∷ ps)) (λ q e. more q.0 e) ps (has_own ps))
  where
    more : (k : List ℕ) → has_key k ps ≡ true → has_key k (p ∷ ps) ≡ true
    more k e = elim (bytes_eq p.0 k) as (λ b. is_some (cond b (Some p.1) (value_at k ps)) ≡ true) [ true ↦ refl | false ↦ e ]

-- A value that a key has is one of the list.
value_passes : (t : List ℕ → Bool) (k v : List ℕ) (ps : Props) → list_all (λ p. t p.1) ps ≡ true → value_at k ps ≡ Some v → t v ≡ true
value_passes t k v [] e f = absurd (cc)
value_passes t k v (p ∷ ps) e f = let s = and_parts (t p.1) (list_all (λ p. t p.1) ps) e in by (bytes_eq p.0 k) f s.0 (value_passes t k v ps s.1)
  where
    by : (b : Bool) → cond b (Some p.1) (value_at k ps) ≡ Some v → t p.1 ≡ true → (value_at k ps ≡ Some v → t v ≡ true) → t v ≡ true
    by true f s rest = ap t (some_is f) ∙ s
      where
        some_is : Some p.1 ≡ Some v → v ≡ p.1
        some_is e = cc
    by false f s rest = rest f

module _ (r : Motion) (a b : Node) where
  abbrev late : Pair → Bool
  late p = is_protected a b p.0 && not (has_key p.0 (props_of a))

  -- What is kept of a pair passes a test of its key, and its value is its own or that of b.
  one_kept : (t : Pair → Bool) (p : Pair) (rest : Props) → t p ≡ true → ((v : List ℕ) → value_at p.0 (props_of b) ≡ Some v → t (p.0, v) ≡ true) → list_all t rest ≡ true →
      list_all t (cons_option (kept_value r a b p) rest) ≡ true
  one_kept t p rest own other e = by (is_protected a b p.0) (value_at p.0 (props_of b)) refl
    where
      by : (c : Bool) (o : Option (List ℕ)) → value_at p.0 (props_of b) ≡ o → list_all t (cons_option (cond c (option_map (λ v. (p.0, v)) o) (Some p)) rest) ≡ true
      by false o f = and_from (t p) (list_all t rest) own e
      by true None f = e
      by true (Some v) f = and_from (t (p.0, v)) (list_all t rest) (other v f) e

  kept_keys : (t : List ℕ → Bool) (ps : Props) → list_all (λ p. t p.0) ps ≡ true → list_all (λ p. t p.0) (filter_map (kept_value r a b) ps) ≡ true
  kept_keys t [] e = refl
  kept_keys t (p ∷ ps) e =
      let k = and_parts (t p.0) (list_all (λ p. t p.0) ps) e in
      one_kept (λ p. t p.0) p (filter_map (kept_value r a b) ps) k.0 (λ v f. k.0) (kept_keys t ps k.1)

  kept_values : (t : List ℕ → Bool) (ps : Props) → list_all (λ p. t p.1) ps ≡ true → list_all (λ p. t p.1) (props_of b) ≡ true → list_all (λ p. t p.1) (filter_map (kept_value r a b) ps) ≡ true
  kept_values t [] e f = refl
  kept_values t (p ∷ ps) e f =
      let k = and_parts (t p.1) (list_all (λ p. t p.1) ps) e in
      one_kept (λ p. t p.1) p (filter_map (kept_value r a b) ps) k.0 (λ v g. value_passes t p.0 v (props_of b) f g) (kept_values t ps k.1 f)

  kept_distinct : (ps : Props) → keys_are_distinct ps ≡ true → keys_are_distinct (filter_map (kept_value r a b) ps) ≡ true
  kept_distinct [] e = refl
  kept_distinct (p ∷ ps) e =
      let k = and_parts (list_all (λ q. not (bytes_eq q.0 p.0)) ps) (keys_are_distinct ps) e in
      by (is_protected a b p.0) (value_at p.0 (props_of b)) (kept_keys (λ key. not (bytes_eq key p.0)) ps k.0) (kept_distinct ps k.1)
    where
      rest : Props
      rest = filter_map (kept_value r a b) ps

      by : (c : Bool) (o : Option (List ℕ)) → list_all (λ q. not (bytes_eq q.0 p.0)) (filter_map (kept_value r a b) ps) ≡ true → keys_are_distinct (filter_map (kept_value r a b) ps) ≡ true →
          keys_are_distinct (cons_option (cond c (option_map (λ v. (p.0, v)) o) (Some p)) (filter_map (kept_value r a b) ps)) ≡ true
      by false o f g = and_from (list_all (λ q. not (bytes_eq q.0 p.0)) (filter_map (kept_value r a b) ps)) (keys_are_distinct (filter_map (kept_value r a b) ps)) f g
      by true None f g = g
      by true (Some v) f g = and_from (list_all (λ q. not (bytes_eq q.0 p.0)) (filter_map (kept_value r a b) ps)) (keys_are_distinct (filter_map (kept_value r a b) ps)) f g

  -- A key of a is none of those that b alone has.
  late_other : (k : List ℕ) (ps : Props) → has_key k (props_of a) ≡ true → list_all (λ q. not (bytes_eq q.0 k)) (filter (λ p. is_protected a b p.0 && not (has_key p.0 (props_of a))) ps) ≡ true
  late_other k [] h = refl
  late_other k (p ∷ ps) h = by (is_protected a b p.0 && not (has_key p.0 (props_of a))) refl (late_other k ps h)
    where
      by : (c : Bool) → (is_protected a b p.0 && not (has_key p.0 (props_of a))) ≡ c → list_all (λ q. not (bytes_eq q.0 k)) (filter (λ p. is_protected a b p.0 && not (has_key p.0 (props_of a))) ps) ≡ true →
          list_all (λ q. not (bytes_eq q.0 k)) (cond c (p ∷ filter (λ p. is_protected a b p.0 && not (has_key p.0 (props_of a))) ps) (filter (λ p. is_protected a b p.0 && not (has_key p.0 (props_of a))) ps)) ≡ true
      by false f rest = rest
      by true f rest = and_from (not (bytes_eq p.0 k)) _ (differs (and_parts (is_protected a b p.0) (not (has_key p.0 (props_of a))) f).1) rest
        where
          differs : not (has_key p.0 (props_of a)) ≡ true → not (bytes_eq p.0 k) ≡ true
          differs g = by_bool (bytes_eq p.0 k)
              (λ e. absurd (true≢false (sym g ∙ ap not (ap (λ key. has_key key (props_of a)) (text_is p.0 k e) ∙ h))))
              (λ e. ap not e)

  pub image_props_ok : PropsOk entity (moved_props r (props_of a)) → PropsOk entity (props_of b) → PropsOk entity (image_props r a (Some b))
  image_props_ok m o = record {
    distinct = distinct_append (filter_map (kept_value r a b) (moved_props r (props_of a))) (filter late (props_of b)) (kept_distinct (moved_props r (props_of a)) m.distinct) (distinct_filter late (props_of b) o.distinct)
        (kept_keys (λ k. list_all (λ q. not (bytes_eq q.0 k)) (filter late (props_of b))) (moved_props r (props_of a))
        (moved_keys r (λ k. list_all (λ q. not (bytes_eq q.0 k)) (filter late (props_of b))) (props_of a)
        ∙ all_by (λ q. has_key q.0 (props_of a)) (λ p. list_all (λ q. not (bytes_eq q.0 p.0)) (filter late (props_of b))) (λ p h. late_other p.0 (props_of b) h) (props_of a) (has_own (props_of a))));
    keys = all_append (λ p. is_key_text p.0) (filter_map (kept_value r a b) (moved_props r (props_of a))) (filter late (props_of b)) (kept_keys is_key_text (moved_props r (props_of a)) m.keys) (all_filter (λ p. is_key_text p.0) late (props_of b) o.keys);
    values = all_append (λ p. is_value_text p.1) (filter_map (kept_value r a b) (moved_props r (props_of a))) (filter late (props_of b)) (kept_values is_value_text (moved_props r (props_of a)) m.values o.values)
        (all_filter (λ p. is_value_text p.1) late (props_of b) o.values);
    free = all_append (λ p. not (is_text_among p.0 (taken_keys entity))) (filter_map (kept_value r a b) (moved_props r (props_of a))) (filter late (props_of b))
        (kept_keys (λ k. not (is_text_among k (taken_keys entity))) (moved_props r (props_of a)) m.free) (all_filter (λ p. not (is_text_among p.0 (taken_keys entity))) late (props_of b) o.free);
  }

  pub image_type_ok : is_plain_type (moved_props r (props_of a)) ≡ true → is_plain_type (props_of b) ≡ true → is_plain_type (image_props r a (Some b)) ≡ true
  image_type_ok m o = by_bool (is_protected a b (codes "_tb_type"))
      (λ e. ap plain (image_protected_value r a b (codes "_tb_type") refl e) ∙ o)
      (λ e. ap plain (image_free r a b (codes "_tb_type") e) ∙ m)
    where
      plain : Option (List ℕ) → Bool
      plain o = option_map_or (λ v. not (bytes_eq v (codes "_tb_layer") || bytes_eq v (codes "_tb_group"))) o true

-- Nodes. ---------------------------------------------------------------------------------------------------------------------------------

pub image_ok : (b : Below) (r : Motion) (format : Format) (x : Node) (old : Option Node) → IsRight b → is_signed_permutation r.matrix ≡ true → NodeOk format x → OldOk format old → CanBeMoved b true r x →
    NodeOk format (image r x old)
image_ok b r format (World own props brushes others) old right p h o can = h
image_ok b r format (Layer name frozen props brushes others) old right p h o can = h
image_ok b r format (Group parent mark name link props brushes others) old right p h o can = h
image_ok b r format (Brush parent mark faces) old right p h o can = node_moved b true r format (Brush parent mark faces) right p h can
image_ok b r format (Entity parent mark props protected brushes) old right p h o can = by old o
  where
    moved : NodeOk format (Entity parent mark (moved_props r props) protected brushes)
    moved = node_moved b true r format (Entity parent mark props protected brushes) right p h can

    by : (old : Option Node) → OldOk format old → NodeOk format (image r (Entity parent mark props protected brushes) old)
    by None o = moved
    by (Some (World own2 props2 brushes2 others2)) o = moved
    by (Some (Layer name2 frozen2 props2 brushes2 others2)) o = moved
    by (Some (Group parent2 mark2 name2 link2 props2 brushes2 others2)) o = moved
    by (Some (Entity parent2 mark2 props2 protected2 brushes2)) o =
        let x = Entity parent mark props protected brushes in let y = Entity parent2 mark2 props2 protected2 brushes2 in
        (image_props_ok r x y moved.0 o.0, image_type_ok r x y moved.1 o.1, o.2)
    by (Some (Brush parent2 mark2 faces2)) o = moved

pub renumber_ok : (f : Format) (n : ℕ → ℕ) (x : Node) → NodeOk f x → NodeOk f (renumber n x)
renumber_ok f n (World own props brushes others) h = h
renumber_ok f n (Layer name frozen props brushes others) h = h
renumber_ok f n (Group parent mark name link props brushes others) h = h
renumber_ok f n (Entity parent mark props protected brushes) h = h
renumber_ok f n (Brush parent mark faces) h = h
