-- Link sets: when members are one content, images, and spreading.
use Rattle.std.specs.Prelude.{◌≡◌, ◌≢◌, ℕ, ◌+◌, Bool, true, false, cond, not, ◌&&◌, ◌||◌, ◌==◌, IsTrue, List, [], ◌∷◌, ◌++◌, length, map, filter, filter_map, Option, None, Some, is_none, option_map, unwrap_or, Result, Ok, Err}
use Rattle.std.specs.List.{list_all}
use Rattle.std.specs.Str.{bytes_eq}
use Rattle.algebra.specs.Members.{◌∈◌}
use Rattle.algebra.specs.Space.{Vector}
use Rattle.std.specs.Ordering.{int_eq}
use Rattle.exact_geom.specs.Planes.{half_space}
use Rattle.map_model.specs.Faces.{Face, same_tex, same_list}
use Rattle.map_model.specs.Motions.{Motion, stay, between, is_short, moved_plane}
use Rattle.map_model.specs.Tree.{Whole, Node, World, Layer, Group, Entity, Brush, Props, entity, at, mark_of, props_of, protected_of, brushes_of, others_of, faces_of, kind_of, same_kind, has_kind, with_brushes, with_others, mark_at, link_at, set_at, brushes_at, others_at, content, other_members, marked_in, is_one_number}
use Rattle.map_model.specs.Edits.{set, renew, forget, renumber, renumbered}
use Rattle.map_model.specs.Props.{value_at, has_key, is_text_among, origin}
use Rattle.map_model.specs.Carry.{carry}
use Rattle.map_model.specs.Origins.{read_origin, moved_counts, moved_props, is_origin_stuck}
use Rattle.map_model.specs.Below.{Below}
use Rattle.map_model.specs.Brushes.{is_same_half_space, first_place, first_beyond}
use Rattle.map_model.specs.Replies.{Refusal, LinkPoint, LinkWorld, LinkLock, LinkOrigin, LinkShift}

-- One content: five conditions, each by what a motion r makes of the nodes of one content and what stands in the other. -----------------

abbrev pub same_mark : Option ℕ → Option ℕ → Bool
same_mark None None = true
same_mark None (Some b) = false
same_mark (Some a) None = false
same_mark (Some a) (Some b) = a == b

-- Two lists of text, and two properties.
abbrev pub same_props : Props → Props → Bool
same_props = same_list (λ p q. bytes_eq p.0 q.0 && bytes_eq p.1 q.1)

abbrev pub same_text : Option (List ℕ) → Option (List ℕ) → Bool
same_text None None = true
same_text None (Some b) = false
same_text (Some a) None = false
same_text (Some a) (Some b) = bytes_eq a b

-- As many brushes and as many others.
abbrev pub same_counts_of_children : Node → Node → Bool
same_counts_of_children a b = length (brushes_of a) == length (brushes_of b) && length (others_of a) == length (others_of b)

-- Nodes at one place have one kind, and as many children; where marks count, one mark.
abbrev pub same_place : Bool → Node → Node → Bool
same_place marks a b =
    same_kind (kind_of a) (kind_of b) && (same_counts_of_children a b && (not marks || same_mark (mark_of a) (mark_of b)))

-- The face b is where r carries a with lock.
abbrev pub is_image_face : Motion → Face → Face → Bool
is_image_face r a b =
    elim (carry true r a) [
      | None ↦ false
      | Some c ↦ is_same_half_space (half_space c.plane) (half_space b.plane) && (bytes_eq c.material b.material && same_tex c.tex b.tex)
    ]

abbrev pub are_image_faces : Motion → Node → Node → Bool
are_image_faces r a b = same_list (is_image_face r) (faces_of a) (faces_of b)

-- Inner groups have one name and the same further properties, in one order.
abbrev pub same_group : Node → Node → Bool
same_group (Group p k name l props bs os) (Group p2 k2 name2 l2 props2 bs2 os2) = bytes_eq name name2 && same_props props props2
same_group a b = true

-- No entity has an origin, or both can be read and the second is where r moves the first.
abbrev pub same_vector : Vector → Vector → Bool
same_vector v w = int_eq v.x w.x && (int_eq v.y w.y && int_eq v.z w.z)

abbrev pub is_image_place : Motion → Option Vector → Option Vector → Bool
is_image_place r None b = false
is_image_place r (Some v) None = false
is_image_place r (Some v) (Some w) = same_vector (moved_counts r v) w

abbrev pub is_image_origin : Motion → Option (List ℕ) → Option (List ℕ) → Bool
is_image_origin r None None = true
is_image_origin r None (Some b) = false
is_image_origin r (Some a) None = false
is_image_origin r (Some a) (Some b) = is_image_place r (read_origin a) (read_origin b)

-- A key is protected at one of the two.
abbrev pub is_protected : Node → Node → List ℕ → Bool
is_protected a b key = is_text_among key (protected_of a) || is_text_among key (protected_of b)

-- The other keys that neither protects have the same values.
abbrev pub same_values : Node → Node → Bool
same_values a b =
    list_all (λ p. bytes_eq p.0 origin || (is_protected a b p.0 || same_text (value_at p.0 (props_of a)) (value_at p.0 (props_of b))))
    (props_of a ++ props_of b)

-- The conditions on two nodes at one place, the first by whether marks count.
abbrev pub place_agrees : Bool → Node → Node → Bool
place_agrees marks a b = same_place marks a b

abbrev pub origin_agrees : Motion → Node → Node → Bool
origin_agrees r a b = not (has_kind entity a) || is_image_origin r (value_at origin (props_of a)) (value_at origin (props_of b))

abbrev pub values_agree : Node → Node → Bool
values_agree a b = not (has_kind entity a) || same_values a b

-- A test of the nodes of two contents, place by place.
abbrev pub at_both : Whole → (Node → Node → Bool) → ℕ → ℕ → Bool
at_both m test n k =
    elim (at m n) [ None ↦ false | Some a ↦ elim (at m k) [ None ↦ false | Some b ↦ test a b ] ]

abbrev pub content_agrees : Whole → (Node → Node → Bool) → ℕ → ℕ → Bool
content_agrees m test g h = same_list (at_both m test) (content m g) (content m h)

-- The groups g and h hold one content, where r leads from g to h.
pub record IsOneContent (m : Whole) (marks : Bool) (r : Motion) (g h : ℕ) : Type 0 where
  pub tops : IsTrue (at_both m same_counts_of_children g h)
  pub places : IsTrue (content_agrees m (same_place marks) g h)
  pub faces : IsTrue (content_agrees m (are_image_faces r) g h)
  pub groups : IsTrue (content_agrees m same_group g h)
  pub origins : IsTrue (content_agrees m (origin_agrees r) g h)
  pub values : IsTrue (content_agrees m values_agree g h)

-- The same as one test.
abbrev pub is_one_content : Whole → Bool → Motion → ℕ → ℕ → Bool
is_one_content m marks r g h =
    at_both m same_counts_of_children g h
    && content_agrees m (λ a b. same_place marks a b && (are_image_faces r a b && (same_group a b && (origin_agrees r a b && values_agree a b)))) g h

-- The motion of a linked group.
abbrev pub motion_at : Whole → ℕ → Motion
motion_at m g = unwrap_or (option_map (λ l. l.motion) (link_at m g)) stay

-- From the content of g to that of h. It has no bound.
abbrev pub leads : Whole → ℕ → ℕ → Motion
leads m g h = between (motion_at m g) (motion_at m h)

abbrev pub One : Whole → ℕ → ℕ → Type 0
One m g h = IsOneContent m true (leads m g h) g h

-- Each two members of each set are one content.
abbrev pub AllOne : Whole → Type 0
AllOne m = (s g h : ℕ) → set_at m g ≡ Some s → set_at m h ≡ Some s → g ≢ h → One m g h

-- Images. --------------------------------------------------------------------------------------------------------------------------------

-- The properties of the image of the entity a where b stood: first the keys of a, and then the protected keys that b alone has.
abbrev pub kept_value : Motion → Node → Node → (List ℕ × List ℕ) → Option (List ℕ × List ℕ)
kept_value r a b p = cond (is_protected a b p.0) (option_map (λ v. (p.0, v)) (value_at p.0 (props_of b))) (Some p)

abbrev pub image_props : Motion → Node → Option Node → Props
image_props r a None = moved_props r (props_of a)
image_props r a (Some b) =
    filter_map (kept_value r a b) (moved_props r (props_of a))
    ++ filter (λ p. is_protected a b p.0 && not (has_key p.0 (props_of a))) (props_of b)

-- An old entity keeps its list of protected keys, and a new one has that of a.
abbrev pub image_protected : Node → Option Node → List (List ℕ)
image_protected a None = protected_of a
image_protected a (Some b) = protected_of b

-- What stood where an entity's image goes counts where it is an entity too.
abbrev pub old_entity : Option Node → Option Node
old_entity None = None
old_entity (Some (World format props brushes others)) = None
old_entity (Some (Layer name frozen props brushes others)) = None
old_entity (Some (Group parent mark name link props brushes others)) = None
old_entity (Some (Entity parent mark props protected brushes)) = Some (Entity parent mark props protected brushes)
old_entity (Some (Brush parent mark faces)) = None

-- The image of the node a where b stood, before its numbers are changed.
abbrev pub image : Motion → Node → Option Node → Node
image r (World format props brushes others) b = World format props brushes others
image r (Layer name frozen props brushes others) b = Layer name frozen props brushes others
image r (Group parent mark name link props brushes others) b = Group parent mark name link props brushes others
image r (Entity parent mark props protected brushes) b =
    let a = Entity parent mark props protected brushes in
    Entity parent mark (image_props r a (old_entity b)) (image_protected a (old_entity b)) brushes
image r (Brush parent mark faces) b = Brush parent mark (map (λ f. unwrap_or (carry true r f) f) faces)

-- Why the node n has no image in the member h.
abbrev pub fault_at : (ℕ → Refusal) → Option ℕ → Option Refusal → Option Refusal
fault_at refusal None next = next
fault_at refusal (Some k) next = Some (refusal k)

abbrev pub fault_if : Bool → Refusal → Option Refusal → Option Refusal
fault_if false refusal next = next
fault_if true refusal next = Some refusal

abbrev pub image_fault : Below → ℕ → Motion → ℕ → Node → Option Refusal
image_fault b h r n (World format props brushes others) = None
image_fault b h r n (Layer name frozen props brushes others) = None
image_fault b h r n (Group parent mark name link props brushes others) = None
image_fault b h r n (Entity parent mark props protected brushes) = fault_if (is_origin_stuck r props) (LinkOrigin h n) None
image_fault b h r n (Brush parent mark faces) =
    fault_at (LinkPoint h n) (first_beyond (moved_plane r) faces)
    (fault_if (b.leaves_world (map (λ f. half_space (moved_plane r f.plane)) faces)) (LinkWorld h n)
    (fault_at (LinkLock h n) (first_place (λ f. is_none (carry true r f)) 0 faces) None))

-- The first fault of the nodes, in their order.
abbrev pub first_fault : List (Option Refusal) → Option Refusal
first_fault [] = None
first_fault (None ∷ faults) = first_fault faults
first_fault (Some r ∷ faults) = Some r

abbrev pub image_fault_at : Below → Whole → ℕ → Motion → ℕ → Option Refusal
image_fault_at b m h r n = elim (at m n) [ None ↦ None | Some x ↦ image_fault b h r n x ]

abbrev pub member_fault : Below → Whole → ℕ → ℕ → Option Refusal
member_fault b m g h =
    let r = leads m g h in
    fault_if (not (is_short r.shift)) (LinkShift h) (first_fault (map (image_fault_at b m h r) (content m g)))

abbrev pub spread_fault : Below → Whole → ℕ → Option Refusal
spread_fault b m g = first_fault (map (member_fault b m g) (other_members m g))

-- Spreading. -----------------------------------------------------------------------------------------------------------------------------

-- The old node with the mark of n in the member h.
abbrev pub old_number : Whole → ℕ → ℕ → Option ℕ
old_number m h n = marked_in m h (mark_at m n)

abbrev pub old_node : Whole → ℕ → ℕ → Option Node
old_node m h n = elim (old_number m h n) [ None ↦ None | Some k ↦ at m k ]

-- The numbers of the images of ns in h: that of the old node with the mark, or else the next one.
abbrev pub image_numbers : Whole → ℕ → (next : ℕ) → List ℕ → List (ℕ × ℕ)
image_numbers m h next [] = []
image_numbers m h next (n ∷ ns) =
    elim (old_number m h n) [ None ↦ (n, next) ∷ image_numbers m h (next + 1) ns | Some k ↦ (n, k) ∷ image_numbers m h next ns ]

-- How many numbers the images in h draw.
abbrev pub new_images : Whole → ℕ → ℕ → ℕ
new_images m g h = length (filter (λ n. is_none (old_number m h n)) (content m g))

-- The nodes of the images put in at their numbers.
abbrev pub put_images : (ℕ → Option Node) → List (ℕ × ℕ) → Whole → Whole
put_images image_of [] m = m
put_images image_of (p ∷ pairs) m = put_images image_of pairs (set m p.1 (image_of p.0))

-- The member h gets the image of the content of g.
abbrev pub put_content : ℕ → ℕ → Whole → Whole
put_content g h m =
    let r = leads m g h in
    let ns = content m g in
    let pairs = image_numbers m h m.next ns in
    let number = renumbered ((g, h) ∷ pairs) in
    let image_of : ℕ → Option Node = λ n. option_map (λ x. renumber number (image r x (old_node m h n))) (at m n) in
    let cleared = forget (content m h) m in
    let filled = put_images image_of pairs cleared in
    let listed = renew h (λ x. with_others (map number (others_at m g)) (with_brushes (map number (brushes_at m g)) x)) filled in
    record listed { next = m.next + new_images m g h }

-- Each other member, by rising number, gets the image.
abbrev pub put_contents : ℕ → List ℕ → Whole → Whole
put_contents g [] m = m
put_contents g (h ∷ hs) m = put_contents g hs (put_content g h m)

abbrev pub spread : Below → ℕ → Whole → Result Whole Refusal
spread b g m = elim (spread_fault b m g) [ None ↦ Ok (put_contents g (other_members m g) m) | Some r ↦ Err r ]

-- The edited groups, one after another.
abbrev pub spread_all : Below → List ℕ → Whole → Result Whole Refusal
spread_all b [] m = Ok m
spread_all b (g ∷ gs) m = elim (spread b g m) [ Ok k ↦ spread_all b gs k | Err r ↦ Err r ]

-- What spreading needs of the other members. -----------------------------------------------------------------------------------------

-- Nodes with one mark have the same values at the keys that neither protects.
abbrev pub AgreeInValues : Whole → ℕ → ℕ → Type 0
AgreeInValues m h k = (n o : ℕ) → n ∈ content m h → o ∈ content m k → IsTrue (is_one_number (mark_at m n) (mark_at m o)) → IsTrue (at_both m values_agree n o)

-- Each two other members of the group's set do.
abbrev pub OthersAgree : Whole → ℕ → Type 0
OthersAgree m g = (h k : ℕ) → h ∈ other_members m g → k ∈ other_members m g → h ≢ k → AgreeInValues m h k
