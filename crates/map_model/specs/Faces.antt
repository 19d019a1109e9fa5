-- The faces of brushes: how many decimals their numbers keep, and which of their parts are equal.
pub use Rattle.uv_lock.specs.declared.face.Face.{Face}
pub use Rattle.uv_lock.specs.declared.texture.StandardTex.{StandardTex}
pub use Rattle.uv_lock.specs.declared.texture.ValveTex.{ValveTex}
pub use Rattle.uv_lock.specs.declared.texture.Tex.{Tex}
pub use Rattle.uv_lock.specs.declared.texture.Tex.TheVariants.{Standard as StandardFields, Valve as ValveFields}
pub use Rattle.uv_lock.specs.SurfaceNumbers.{SurfaceNumbers as Surface}
pub use Rattle.uv_lock.specs.Units.{axis_unit, offset_unit, degree_unit}
pub use Rattle.fixed_num.specs.Decimals.{axis_decimals, offset_decimals, rotation_decimals as degree_decimals}
use Rattle.std.specs.Prelude.{Bool, ◌&&◌, List, [], ◌∷◌, Option, None, Some, ℤ}
use Rattle.std.specs.Ordering.{int_eq}
use Rattle.uv_lock.specs.declared.texture.Format.{Format}
use Rattle.uv_lock.specs.declared.texture.Format.TheVariants.{Standard, Valve}

abbrev pub format_of_tex : Tex → Format
format_of_tex (StandardFields t) = Standard
format_of_tex (ValveFields t) = Valve

abbrev pub surface_of : Tex → Option Surface
surface_of (StandardFields t) = t.surface
surface_of (ValveFields t) = t.surface

-- Which parts are equal, by number.
abbrev pub same_list : {A : Type 0} → (A → A → Bool) → List A → List A → Bool
same_list same [] [] = Bool.true
same_list same [] (y ∷ ys) = Bool.false
same_list same (x ∷ xs) [] = Bool.false
same_list same (x ∷ xs) (y ∷ ys) = same x y && same_list same xs ys

abbrev pub same_counts : List ℤ → List ℤ → Bool
same_counts = same_list int_eq

abbrev pub same_surface : Option Surface → Option Surface → Bool
same_surface None None = Bool.true
same_surface None (Some b) = Bool.false
same_surface (Some a) None = Bool.false
same_surface (Some a) (Some b) = int_eq a.contents b.contents && (int_eq a.flags b.flags && int_eq a.value b.value)

abbrev pub same_tex : Tex → Tex → Bool
same_tex (StandardFields a) (StandardFields b) =
    same_counts a.off b.off && (int_eq a.rotation b.rotation && (same_counts a.scale b.scale && same_surface a.surface b.surface))
same_tex (StandardFields a) (ValveFields b) = Bool.false
same_tex (ValveFields a) (StandardFields b) = Bool.false
same_tex (ValveFields a) (ValveFields b) =
    same_list same_counts a.axis b.axis
    && (same_counts a.off b.off && (int_eq a.rotation b.rotation && (same_counts a.scale b.scale && same_surface a.surface b.surface)))
