-- The brushes and the motions of a file are right for each map.
use Rattle.std.proofs.Common.{◌≡◌, ℕ, true, refl, ap, sym, ◌∙◌, option_map, unwrap_or}
use Rattle.std.specs.Prelude.{Option, Some, None}
use Rattle.map_model.specs.Tree.{Whole, Node, World, Layer, Group, Entity, Brush, Link, at, link_of, link_at, faces_at, format_of}
use Rattle.map_model.specs.Shape.{Shape, LinkOk}
use Rattle.map_model.specs.Motions.{is_kept_motion}
use Rattle.file_laws.specs.FileLeaves.{file_leaves, FileLeavesLaw, SavedFileLaw}
use Rattle.file_laws.proofs.Finished.{saved_map_law}
use Rattle.file_laws.proofs.Read.{brush_faces}
use Rattle.file_laws.proofs.FileFaces.{judged_again}
use Rattle.file_laws.proofs.FileMotions.{motion_again}

kept_link : (m : Whole) → Shape m → (g : ℕ) (l : Link) → link_at m g ≡ Some l → is_kept_motion l.motion ≡ true
kept_link m shape g l e = by_node (at m g) refl
  where
    none_is_not_some : {A : Type 0} {a : A} → None ≡ Some a → is_kept_motion l.motion ≡ true
    none_is_not_some e = absurd (cc e)

    by_link : (k : Option Link) → LinkOk k → k ≡ Some l → is_kept_motion l.motion ≡ true
    by_link None ok f = none_is_not_some f
    by_link (Some k) ok f = sym (ap (λ q. is_kept_motion (unwrap_or (option_map (λ x. x.motion) q) k.motion)) f) ∙ ok

    by_node : (o : Option Node) → at m g ≡ o → is_kept_motion l.motion ≡ true
    by_node None f = none_is_not_some (sym (ap (λ q. unwrap_or (option_map link_of q) None) f) ∙ e)
    by_node (Some (World format ps b c)) f = none_is_not_some (sym (ap (λ q. unwrap_or (option_map link_of q) None) f) ∙ e)
    by_node (Some (Layer name frozen ps b c)) f = none_is_not_some (sym (ap (λ q. unwrap_or (option_map link_of q) None) f) ∙ e)
    by_node (Some (Group p mark name k ps b c)) f =
        by_link k (shape.each_node g (Group p mark name k ps b c) f).1 (sym (ap (λ q. unwrap_or (option_map link_of q) None) f) ∙ e)
    by_node (Some (Entity p mark ps ks b)) f = none_is_not_some (sym (ap (λ q. unwrap_or (option_map link_of q) None) f) ∙ e)
    by_node (Some (Brush p mark fs)) f = none_is_not_some (sym (ap (λ q. unwrap_or (option_map link_of q) None) f) ∙ e)

pub file_leaves_law : FileLeavesLaw
file_leaves_law b right m shape = record {
  judged = λ n h.
      judged_again b right (format_of m) (faces_at m n) (brush_faces (format_of m) (at m n) h (shape.each_node n));
  moved = λ g l e. motion_again l.motion (kept_link m shape g l e);
}

pub saved_file_law : SavedFileLaw
saved_file_law b right m shape all_one = saved_map_law (file_leaves b) m (file_leaves_law b right m shape) shape all_one
