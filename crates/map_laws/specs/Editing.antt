-- What the edits keep, one or two together as commands use them.
use Rattle.std.specs.Prelude.{◌≡◌, ◌≢◌, ◌+◌, ◌≤◌, ℕ, IsTrue, List, [], ◌∷◌, Some}
use Rattle.algebra.specs.Members.{◌∈◌}
use Rattle.map_model.specs.Faces.{Face}
use Rattle.map_model.specs.Tree.{Whole, Node, brush, at, up, above, preorder, kind_of, parent_of, brushes_of, others_of, with_parent, is_kind, format_of}
use Rattle.map_model.specs.Edits.{renew, take_out, put_in, put_last, delete, replace_by, put_after, copy_last}
use Rattle.map_model.specs.Shape.{Shape, FacesOk, NodeOk}
use Rattle.map_model.specs.Commands.{Command}
use Rattle.map_model.specs.Rows.{is_movable}
use Rattle.map_model.specs.Apply.{prune}
use Rattle.map_laws.specs.Placed.{Sound, IsNode, can_hold, KeepsPlace, KeepsAll, NewOk}

-- A new node without children, at the end of p.
abbrev pub PutLastLaw : Type 0
PutLastLaw = (m : Whole) (p : ℕ) (x y : Node) → Sound m → at m p ≡ Some y → IsTrue (can_hold (kind_of y) (kind_of x)) → parent_of (with_parent p x) ≡ Some p →
    brushes_of x ≡ [] → others_of x ≡ [] → NewOk (format_of m) x → m.next + 1 ≤ 65536 → Sound (put_last p x m)

-- A node goes with all beneath it to the end of p, which is not beneath it.
abbrev pub MoveLaw : Type 0
MoveLaw = (m : Whole) (p n : ℕ) (x y : Node) → Sound m → at m p ≡ Some y → at m n ≡ Some x → IsTrue (can_hold (kind_of y) (kind_of x)) → IsTrue (is_movable (kind_of x)) →
    ¬ (n ∈ (p ∷ above m p)) → Sound (put_in p n (take_out n m))

-- A node goes with all beneath it.
abbrev pub DeleteLaw : Type 0
DeleteLaw = (m : Whole) (n : ℕ) → Sound m → n ≢ 0 → IsNode m n → Sound (delete n m)

-- New brushes stand in a brush's place, or one directly after it.
abbrev pub ReplaceLaw : Type 0
ReplaceLaw = (m : Whole) (a p : ℕ) (results : List (List Face)) → Sound m → up m a ≡ Some p → IsTrue (is_kind m brush a) → ((faces : List Face) → faces ∈ results → FacesOk (format_of m) faces) →
    (replace_by a results m).next ≤ 65536 → Sound (replace_by a results m)

abbrev pub PutAfterLaw : Type 0
PutAfterLaw = (m : Whole) (a p : ℕ) (faces : List Face) → Sound m → up m a ≡ Some p → IsTrue (is_kind m brush a) → FacesOk (format_of m) faces →
    (put_after a faces m).next ≤ 65536 → Sound (put_after a faces m)

-- A copy of a node with all beneath it, each changed by f, at the end of p.
abbrev pub CopyLaw : Type 0
CopyLaw = (m : Whole) (p n : ℕ) (f : Node → Node) (x y : Node) → Sound m → at m p ≡ Some y → at m n ≡ Some x → IsTrue (can_hold (kind_of y) (kind_of x)) →
    IsTrue (is_movable (kind_of x)) → KeepsPlace f → ((q : ℕ) (z : Node) → q ∈ preorder m n → at m q ≡ Some z → NewOk (format_of m) (f z)) →
    (copy_last p f n m).next ≤ 65536 → Sound (copy_last p f n m)

-- A node with another part that no other node sees.
abbrev pub RenewLaw : Type 0
RenewLaw = (m : Whole) (n : ℕ) (g : Node → Node) → KeepsAll g → Shape m → ((x : Node) → at m n ≡ Some x → NodeOk (format_of m) (g x)) → Shape (renew n g m)

-- Pruning.
abbrev pub PruneLaw : Type 0
PruneLaw = (before : Whole) (c : Command) (m : Whole) → Sound m → Sound (prune before c m)
