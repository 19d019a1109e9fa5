-- Whether building the sides of two solids together tells that they overlap.
use Rattle.std.proofs.Common.{◌≡◌, ℕ, List, ◌++◌, true, false, refl, sym, subst, ◌∙◌, Bool, true≢false}
use Rattle.std.specs.Bool.{Decides}
use Rattle.algebra.specs.Space.{Homogeneous, HalfSpace}
use Rattle.algebra.specs.World.{InCube, world, reach}
use Rattle.trim_laws.specs.Solid.{IsIn, IsInside, Proper, Bounded}
use Rattle.std.proofs.lemmas.Bool.{false≢true}
use Rattle.trim_laws.specs.Valid.{Valid, HasInside, NoVolume, Cause, HasCause, no_volume, out_of_world, too_many_faces, is_no_volume, is_out_of_world, is_too_many}
use Rattle.trim_laws.proofs.Bearing.{in_of_inside}
use Rattle.solid_laws.proofs.World.{world_bounded}
use Rattle.solid_brush.proofs.Meeting.{trimmed_proper}
use Rattle.map_model.specs.Below.{Below, IsRight, SomeAreRight}
use Rattle.touch_laws.specs.Boxes.{ShareInside}
use Rattle.touch_index.proofs.Joins.{inside_both, share_of, both_proper, first_bounds}
use Rattle.touch_index.proofs.Worlds.{in_reach}

by_test : {P : Type 0} (t : Bool) → (t ≡ true → P) → (t ≡ false → P) → P
by_test true h k = h refl
by_test false h k = k refl

module _ (tests : SomeAreRight) (F G : List HalfSpace) (f : Valid F) (g : Valid G) where
  proper : Proper (F ++ G)
  proper = both_proper F G (trimmed_proper F f.volume.at f.trimmed f.volume.inside) (trimmed_proper G g.volume.at g.trimmed g.volume.inside)

  bounded : Bounded (F ++ G)
  bounded = first_bounds F G (world_bounded F f.volume.at (in_of_inside f.volume.inside) f.within)

  pub not_share : NoVolume (F ++ G) → ¬ (ShareInside F G)
  not_share none s = none s.at (in_reach s.at (f.within s.at (in_of_inside s.first)) s.first.weight) (inside_both F G s.at s.first s.second)

  pub do_share : ¬ (NoVolume (F ++ G)) → ShareInside F G
  do_share some = by_test (tests.tests.is_solid (F ++ G)) (λ e. share_of F G ((tests.right.is_solid (F ++ G) proper bounded).0 e))
      (λ e. absurd (some (λ p i k. true≢false (sym ((tests.right.is_solid (F ++ G) proper bounded).1 (record { at = p; inside = k })) ∙ e))))

-- ---- the answers
pub no_volume_of : {F : List HalfSpace} → HasCause F no_volume → NoVolume F
no_volume_of (is_no_volume n) = n

pub volume_of_out : {F : List HalfSpace} → HasCause F out_of_world → ¬ (NoVolume F)
volume_of_out (is_out_of_world some out) = some

pub volume_of_many : {F : List HalfSpace} {n : ℕ} → HasCause F (too_many_faces n) → ¬ (NoVolume F)
volume_of_many (is_too_many some inner many) = some

pub answers_true : (tests : SomeAreRight) (F G : List HalfSpace) → Valid F → Valid G → (H : List HalfSpace) → H ≡ F ++ G → ¬ (NoVolume H) → Decides true (ShareInside F G)
answers_true tests F G f g H e some = (λ t. do_share tests F G f g (subst (λ L. ¬ (NoVolume L)) e some), λ s. refl)

pub answers_false : (tests : SomeAreRight) (F G : List HalfSpace) → Valid F → Valid G → (H : List HalfSpace) → H ≡ F ++ G → NoVolume H → Decides false (ShareInside F G)
answers_false tests F G f g H e none = (λ t. absurd (false≢true t), λ s. absurd (not_share tests F G f g (subst NoVolume e none) s))
