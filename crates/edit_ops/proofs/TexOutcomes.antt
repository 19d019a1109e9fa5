-- What comes of the command that gives a face another texture, from its rows and the node that is renewed.
use Rattle.std.proofs.Common.{◌≡◌, ℕ, ◌-◌, List, [], ◌∷◌, true, false, cond, not, Option, None, Some, Ok, refl, ap, sym, ◌∙◌, arith}
use Rattle.std.specs.Prelude.{is_none, option_map, unwrap_or}
use Rattle.map_model.specs.Faces.{Face}
use Rattle.map_model.specs.Tree.{Whole, Node, at, faces_of, faces_at, with_faces}
use Rattle.map_model.specs.Edits.{Changes, swap, renew, set}
use Rattle.map_model.specs.Below.{Below, IsRight}
use Rattle.map_model.specs.Commands.{Command, IsGood, Settings, Tex}
use Rattle.map_model.specs.Replies.{Refusal, NoNode, WrongKind, LockedLayer, Done, Full}
use Rattle.map_model.specs.Rows.{first, refuse, has_face, is_in_frozen}
use Rattle.map_model.specs.Own.{own, change_at}
use Rattle.map_model.specs.Apply.{apply, full, unless, reply_of}
use Rattle.map_model.specs.Promises.{Applies, Refuses}
use Rattle.map_model.proofs.SomeRight.{some_are_right}
use Rattle.map_laws.specs.BoxCommand.{KeepsMaterial}
use Rattle.map_laws.specs.Reshaping.{is_reshaping_command, reshaping_rows, HasPairs}
use Rattle.map_laws.specs.Unlinked.{finish_unlinked}
use Rattle.map_laws.proofs.Pruned.{not_emptied, prune_none}
use Rattle.map_laws.proofs.Renewing.{renew_alike, same_children}
use Rattle.map_laws.proofs.ReshapingCommands.{reshaping_apply, reshaping_command}
use Rattle.map_laws.proofs.ReshapingRows.{reshaping_rows_are}
use Rattle.map_laws.proofs.Retexturing.{keeps_faces}
use Rattle.tree_node.specs.Held.{IsMap}
use Rattle.brush_plans.proofs.RowLoops.{alone, none_drawn}
use Rattle.edit_ops.proofs.Renewals.{renew_put}
use Rattle.edit_ops.specs.Texturing.{IsTexOf, face_rows, retextured_face}

is_one : (n k : ℕ) (c : Command) → IsTexOf n k c → is_reshaping_command c ≡ true
is_one n k (Tex node face name off rotation scale surface) is = refl
is_one n k c is = absurd is

-- Its rows are those on the one node and its face.
rows_are : (b : Below) (s : Settings) (m : Whole) (n k : ℕ) (c : Command) → IsTexOf n k c → first (reshaping_rows b s m c) ≡ first (face_rows m n k)
rows_are b s m n k (Tex node face name off rotation scale surface) is =
    (λ i. first (alone (refuse (is_none (at m node)) (NoNode node)) i ∷ alone (refuse (not (has_face m node face)) (WrongKind node)) i ∷ alone (refuse (is_in_frozen m node) (LockedLayer node)) i ∷ []))
    ∙ (λ i. first (face_rows m (is.0 i) (is.1 i)))
rows_are b s m n k c is = absurd is

abbrev pub retextured_at : Whole → ℕ → ℕ → Command → Whole
retextured_at m n k c = renew n (with_faces (change_at k (retextured_face c) (faces_at m n))) m

own_is : (b : Below) (s : Settings) (m : Whole) (n k : ℕ) (c : Command) → IsTexOf n k c → own b s m c ≡ retextured_at m n k c
own_is b s m n k (Tex node face name off rotation scale surface) is =
    λ i. retextured_at m (is.0 i) (is.1 i) (Tex node face name off rotation scale surface)
own_is b s m n k c is = absurd is

reply_is : (m : Whole) (n k : ℕ) (c : Command) → IsTexOf n k c → (made : ℕ) → reply_of m c made ≡ Done
reply_is m n k (Tex node face name off rotation scale surface) is made = refl
reply_is m n k c is made = absurd is

module _ (s : Settings) (m : Whole) (n k : ℕ) (c : Command) (is : IsTexOf n k c) (good : IsGood c) (pairs : HasPairs c) (material : KeepsMaterial s) (map : IsMap m) where
  applied : (b : Below) → IsRight b → (r : Option Refusal) → first (face_rows m n k) ≡ r → apply b s m c ≡ unless r (finish_unlinked m c (own b s m c))
  applied b right r e =
      reshaping_apply b s m c right material (is_one n k c is) good pairs map.shape map.unlinked
      ∙ ap (λ o. unless o (finish_unlinked m c (own b s m c))) (reshaping_rows_are b s m c (is_one n k c is) map.unlinked ∙ rows_are b s m n k c is ∙ e)

  pub refuses : (refusal : Refusal) → first (face_rows m n k) ≡ Some refusal → Refuses s m c refusal
  refuses refusal e b right = applied b right (Some refusal) e

  module _ (pass : first (face_rows m n k) ≡ None) where
    abbrev after : Whole
    after = retextured_at m n k c

    finished : finish_unlinked m c after ≡ Ok (record { map = after; reply = Done })
    finished =
        let faces = change_at k (retextured_face c) (faces_at m n) in
        let a = renew_alike m n (with_faces faces) (keeps_faces faces) in
        ap (λ w. unless (full (w.next - 1)) (Ok (record { map = w; reply = reply_of m c (after.next - m.next) })))
        (prune_none m c after (λ q. not_emptied m after q (λ had j e empty. had (sym (same_children a q) ∙ empty))))
        ∙ ap (λ t. unless (cond t (Some (Full (after.next - 1))) None) (Ok (record { map = after; reply = reply_of m c (after.next - m.next) })))
        (none_drawn after.next (omega (arith, a.next, map.shape.numbers.most)))
        ∙ ap (λ reply. Ok (record { map = after; reply = reply })) (reply_is m n k c is (after.next - m.next))

    pub applies : (change : Changes) → swap m change ≡ after → Applies s m c (Ok (record { map = swap m change; reply = Done }))
    applies change e b right =
        applied b right None pass ∙ ap (finish_unlinked m c) (own_is b s m n k c is) ∙ finished ∙ ap (λ w. Ok (record { map = w; reply = Done })) (sym e)

    pub stays_map : (change : Changes) → swap m change ≡ after → IsMap (swap m change)
    stays_map change e =
        let t = some_are_right in
        let kept = reshaping_command t.tests s m c (record { map = swap m change; reply = Done }) t.right material (is_one n k c is) good pairs map.shape map.unlinked (applies change e t.tests t.right) in
        record { shape = kept.0; unlinked = kept.1 }

-- The node in the map.
pub put_is : (m : Whole) (n k : ℕ) (c : Command) (x new : Node) → at m n ≡ Some x → new ≡ with_faces (change_at k (retextured_face c) (faces_of x)) x → set m n (Some new) ≡ retextured_at m n k c
put_is m n k c x new e is =
    let faces : faces_of x ≡ faces_at m n = sym (ap (λ o. unwrap_or (option_map faces_of o) []) e) in
    renew_put (with_faces (change_at k (retextured_face c) (faces_at m n))) m n x new e (is ∙ ap (λ fs. with_faces (change_at k (retextured_face c) fs) x) faces)
