-- Nodes that a motion moves in a map in which no group is linked: each stays right.
use Rattle.std.proofs.Common.{◌≡◌, ℕ, List, [], ◌∷◌, map, Bool, true, false, cond, not, ◌&&◌, ◌||◌, refl, ap, sym, ◌∙◌, subst, Option, Some, None, option_map}
use Rattle.std.specs.Prelude.{codes, nat_lt, unsigned_abs, unwrap_or, is_some, option_and_then}
use Rattle.std.specs.Option.{option_map_or}
use Rattle.std.specs.List.{list_all}
use Rattle.std.specs.Str.{bytes_eq}
use Rattle.std.proofs.lemmas.Bool.{and_parts, and_from, ltb-true}
use Rattle.std.proofs.lemmas.Slice.Eq.{bytes_eq-Decides}
use Rattle.algebra.specs.Members.{◌∈◌}
use Rattle.algebra.specs.Space.{Vector}
use Rattle.exact_geom.specs.Planes.{half_space, parts}
use Rattle.uv_lock.specs.declared.texture.Format.{Format}
use Rattle.map_lex.specs.OneToken.{is_value_text, is_key_text}
use Rattle.map_text.specs.Spelled.{keys_are_distinct}
use Rattle.map_model.specs.Faces.{Face, degree_unit}
use Rattle.map_model.specs.Motions.{Motion, is_signed_permutation, moved_plane}
use Rattle.map_model.specs.Tree.{Whole, Node, World, Layer, Group, Entity, Brush, Props, Kind, entity, at, kind_of, parent_of, brushes_of, others_of, link_of, mark_of, is_linked, format_of_node}
use Rattle.map_model.specs.Edits.{set, renew}
use Rattle.map_model.specs.Shape.{PropsOk, NodeOk, is_below_million, is_plain_type, taken_keys}
use Rattle.map_model.specs.Props.{value_at, is_text_among, origin}
use Rattle.map_model.specs.Origins.{in_range, read_origin, moved_counts, written_origin, moved_origin, moved_value, moved_props}
use Rattle.map_model.specs.Below.{Below, IsRight}
use Rattle.map_model.specs.Own.{moved_node}
use Rattle.map_laws.specs.Placed.{KeepsAll}
use Rattle.map_laws.proofs.Slots.{by_bool}
use Rattle.map_laws.proofs.Texts.{written_value}
use Rattle.map_laws.proofs.MovedFaces.{mapped, then_some, carried_or_same, CanBeCarried, brush_carried}

-- Origins. --------------------------------------------------------------------------------------------------------------------------

kept_in_range : (w v : Vector) → in_range w ≡ Some v → is_value_text (written_origin v) ≡ true
kept_in_range w v e = by (list_all (is_below_million degree_unit) (parts w)) refl e
  where
    some_is : Some w ≡ Some v → w ≡ v
    some_is e = cc

    by : (b : Bool) → list_all (is_below_million degree_unit) (parts w) ≡ b → cond b (Some w) None ≡ Some v → is_value_text (written_origin v) ≡ true
    by false f e = absurd (cc)
    by true f e =
        let p = and_parts (nat_lt (unsigned_abs w.x) 1000000000000) _ f in
        let q = and_parts (nat_lt (unsigned_abs w.y) 1000000000000) _ p.1 in
        let r = and_parts (nat_lt (unsigned_abs w.z) 1000000000000) _ q.1 in
        subst (λ x. is_value_text (written_origin x) ≡ true) (some_is e)
        (written_value w (ltb-true (unsigned_abs w.x) 1000000000000 p.0) (ltb-true (unsigned_abs w.y) 1000000000000 q.0) (ltb-true (unsigned_abs w.z) 1000000000000 r.0))

moved_text : (r : Motion) (old new : List ℕ) → moved_origin r old ≡ Some new → is_value_text new ≡ true
moved_text r old new e =
    let v = mapped written_origin (option_and_then (λ v. in_range (moved_counts r v)) (read_origin old)) new e in
    let w = then_some (λ v. in_range (moved_counts r v)) (read_origin old) v.0 v.1 in
    subst (λ t. is_value_text t ≡ true) v.2 (kept_in_range (moved_counts r w.0) v.0 w.2)

value_moved : (r : Motion) (p : List ℕ × List ℕ) → is_value_text p.1 ≡ true → is_value_text (moved_value r p) ≡ true
value_moved r p h = by (bytes_eq p.0 origin) (moved_origin r p.1) refl
  where
    by : (b : Bool) (o : Option (List ℕ)) → moved_origin r p.1 ≡ o → is_value_text (cond b (elim o [ None ↦ p.1 | Some text ↦ text ]) p.1) ≡ true
    by false o e = h
    by true None e = h
    by true (Some text) e = moved_text r p.1 text e

-- Properties. -----------------------------------------------------------------------------------------------------------------------

-- A test of keys alone.
keys_kept : (r : Motion) (test : List ℕ → Bool) (ps : Props) → list_all (λ p. test p.0) (moved_props r ps) ≡ list_all (λ p. test p.0) ps
keys_kept r test [] = refl
keys_kept r test (p ∷ ps) = ap (λ b. test p.0 && b) (keys_kept r test ps)

distinct_kept : (r : Motion) (ps : Props) → keys_are_distinct (moved_props r ps) ≡ keys_are_distinct ps
distinct_kept r [] = refl
distinct_kept r (p ∷ ps) = λ i. keys_kept r (λ key. not (bytes_eq key p.0)) ps i && distinct_kept r ps i

values_kept : (r : Motion) (ps : Props) → list_all (λ p. is_value_text p.1) ps ≡ true → list_all (λ p. is_value_text p.1) (moved_props r ps) ≡ true
values_kept r [] e = refl
values_kept r (p ∷ ps) e =
    let k = and_parts (is_value_text p.1) (list_all (λ p. is_value_text p.1) ps) e in
    and_from (is_value_text (moved_value r p)) (list_all (λ p. is_value_text p.1) (moved_props r ps)) (value_moved r p k.0) (values_kept r ps k.1)

other_value : (r : Motion) (key : List ℕ) (ps : Props) → bytes_eq key origin ≡ false → value_at key (moved_props r ps) ≡ value_at key ps
other_value r key [] ne = refl
other_value r key (p ∷ ps) ne = by_bool (bytes_eq p.0 key)
    (λ e. (λ i. cond (e i) (Some (moved_value r p)) (value_at key (moved_props r ps)))
    ∙ ap (λ b. Some (cond b (elim (moved_origin r p.1) [ None ↦ p.1 | Some text ↦ text ]) p.1)) (ap (λ k. bytes_eq k origin) ((bytes_eq-Decides p.0 key).0 e) ∙ ne)
    ∙ sym (λ i. cond (e i) (Some p.1) (value_at key ps)))
    (λ e. (λ i. cond (e i) (Some (moved_value r p)) (value_at key (moved_props r ps))) ∙ other_value r key ps ne ∙ sym (λ i. cond (e i) (Some p.1) (value_at key ps)))

props_moved : (r : Motion) (k : Kind) (ps : Props) → PropsOk k ps → PropsOk k (moved_props r ps)
props_moved r k ps h = record {
  distinct = distinct_kept r ps ∙ h.distinct;
  keys = keys_kept r is_key_text ps ∙ h.keys;
  values = values_kept r ps h.values;
  free = keys_kept r (λ key. not (is_text_among key (taken_keys k))) ps ∙ h.free;
}

type_moved : (r : Motion) (ps : Props) → is_plain_type ps ≡ true → is_plain_type (moved_props r ps) ≡ true
type_moved r ps h =
    ap (λ o. option_map_or (λ v. not (bytes_eq v (codes "_tb_layer") || bytes_eq v (codes "_tb_group"))) o true) (other_value r (codes "_tb_type") ps refl) ∙ h

-- Nodes. ----------------------------------------------------------------------------------------------------------------------------

-- The moved node, but for a link.
abbrev pub moved_unlinked : Bool → Motion → Node → Node
moved_unlinked lock r (World format props brushes others) = World format props brushes others
moved_unlinked lock r (Layer name frozen props brushes others) = Layer name frozen props brushes others
moved_unlinked lock r (Group parent mark name link props brushes others) = Group parent mark name link props brushes others
moved_unlinked lock r (Entity parent mark props protected brushes) = Entity parent mark (moved_props r props) protected brushes
moved_unlinked lock r (Brush parent mark faces) = Brush parent mark (map (carried_or_same lock r) faces)

pub keeps_moved : (lock : Bool) (r : Motion) → KeepsAll (moved_unlinked lock r)
keeps_moved lock r = record {
  place = record {
    kind = λ x. elim x as (λ x. kind_of (moved_unlinked lock r x) ≡ kind_of x) [ World a b c d ↦ refl | _ ↦ refl ];
    parent = λ x. elim x as (λ x. parent_of (moved_unlinked lock r x) ≡ parent_of x) [ World a b c d ↦ refl | _ ↦ refl ];
    brushes = λ x. elim x as (λ x. brushes_of (moved_unlinked lock r x) ≡ brushes_of x) [ World a b c d ↦ refl | _ ↦ refl ];
    others = λ x. elim x as (λ x. others_of (moved_unlinked lock r x) ≡ others_of x) [ World a b c d ↦ refl | _ ↦ refl ];
  };
  link = λ x. elim x as (λ x. link_of (moved_unlinked lock r x) ≡ link_of x) [ World a b c d ↦ refl | _ ↦ refl ];
  mark = λ x. elim x as (λ x. mark_of (moved_unlinked lock r x) ≡ mark_of x) [ World a b c d ↦ refl | _ ↦ refl ];
  format = λ x. elim x as (λ x. format_of_node (moved_unlinked lock r x) ≡ format_of_node x) [ World a b c d ↦ refl | _ ↦ refl ];
}

same_node : (lock : Bool) (r : Motion) (x : Node) → is_some (link_of x) ≡ false → moved_node lock r x ≡ moved_unlinked lock r x
same_node lock r (World a b c d) e = refl
same_node lock r (Layer a b c d g) e = refl
same_node lock r (Group a b c None g h i) e = refl
same_node lock r (Group a b c (Some l) g h i) e = absurd (cc)
same_node lock r (Entity a b c d g) e = refl
same_node lock r (Brush a b c) e = refl

pub renew_unlinked : (lock : Bool) (r : Motion) (m : Whole) (n : ℕ) → is_linked m n ≡ false → renew n (moved_node lock r) m ≡ renew n (moved_unlinked lock r) m
renew_unlinked lock r m n e = ap (set m n) (slot (at m n) e)
  where
    slot : (o : Option Node) → unwrap_or (option_map (λ x. is_some (link_of x)) o) false ≡ false → option_map (moved_node lock r) o ≡ option_map (moved_unlinked lock r) o
    slot None e = refl
    slot (Some x) e = ap Some (same_node lock r x e)

-- What is asked of a node, so that it can be moved: of a brush that its faces can be carried, and that it stays in the world.
abbrev pub CanBeMoved : Below → Bool → Motion → Node → Type 0
CanBeMoved b lock r (World format props brushes others) = Unit {0}
CanBeMoved b lock r (Layer name frozen props brushes others) = Unit {0}
CanBeMoved b lock r (Group parent mark name link props brushes others) = Unit {0}
CanBeMoved b lock r (Entity parent mark props protected brushes) = Unit {0}
CanBeMoved b lock r (Brush parent mark faces) =
    ((f : Face) → f ∈ faces → CanBeCarried lock r f) × (b.leaves_world (map (λ f. half_space (moved_plane r f.plane)) faces) ≡ false)

pub node_moved : (b : Below) (lock : Bool) (r : Motion) (format : Format) (x : Node) → IsRight b → is_signed_permutation r.matrix ≡ true → NodeOk format x → CanBeMoved b lock r x → NodeOk format (moved_unlinked lock r x)
node_moved b lock r format (World a c d e) right p h can = h
node_moved b lock r format (Layer a c d e g) right p h can = h
node_moved b lock r format (Group a c d e g i j) right p h can = h
node_moved b lock r format (Entity a c ps d e) right p h can = (props_moved r entity ps h.0, type_moved r ps h.1, h.2)
node_moved b lock r format (Brush a c faces) right p h can = brush_carried b lock r format faces right p h can.0 can.1
