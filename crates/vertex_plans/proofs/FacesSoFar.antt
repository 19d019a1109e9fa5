-- Faces on facets, one after another.
use Rattle.std.proofs.Common.{◌≡◌, ℕ, ◌+◌, ◌<◌, List, [], ◌∷◌, ◌++◌, length, get_or, refl, ap, sym, ◌∙◌, subst, arith, ◌⊎◌, inl, inr}
use Rattle.std.proofs.lemmas.List.{get_or_push, get_or_append_left, get_or_default, length-append}
use Rattle.solid_brush.specs.declared.side.Side.{Side}
use Rattle.vertex_edit.specs.declared.shape.FromFace.{FromFace}
use Rattle.map_model.specs.Faces.{Face}
use Rattle.vertex_plans.specs.Remade.{face_on, ComeFrom, AreFacesOn}

module _ (old : List Face) (facets : List FromFace) (sides : List Side) where
  -- The faces on the first k facets.
  pub record FacesBefore (k : ℕ) (faces : List Face) : Type 0 where
    pub count : length faces ≡ k
    pub each : (j : ℕ) (facet : FromFace) (side : Side) (face : Face) → j < k → get_or faces j face ≡ face_on old (get_or facets j facet) (get_or sides j side)

  pub faces_none : (faces : List Face) → faces ≡ [] → FacesBefore 0 faces
  faces_none faces e = record { count = ap length e; each = λ j facet side face l. absurd (omega (arith, l)) }

  last : (j k : ℕ) → j < k + 1 → (j < k) ⊎ (k ≡ j)
  last j k m = grind arith

  pub faces_more : (k : ℕ) (faces new : List Face) (facet : FromFace) (side : Side) (face : Face) → length facets ≡ length sides → k < length sides → side ≡ get_or sides k side →
      FacesBefore k faces → face ≡ face_on old (get_or facets k facet) side → new ≡ faces ++ face ∷ [] → FacesBefore (k + 1) new
  faces_more k faces new facet side face same l f b is more = subst (FacesBefore (k + 1)) (sym more) (record {
    count = let n = length-append faces (face ∷ []) in let c = b.count in omega arith;
    each = λ j u s g m. by_last j u s g (last j k m);
  })
    where
      by_last : (j : ℕ) (u : FromFace) (s : Side) (g : Face) → (j < k) ⊎ (k ≡ j) → get_or (faces ++ face ∷ []) j g ≡ face_on old (get_or facets j u) (get_or sides j s)
      by_last j u s g (inl i) = get_or_append_left faces (face ∷ []) g j (let c = b.count in omega arith) ∙ b.each j u s g i
      by_last j u s g (inr i) = subst (λ n. get_or (faces ++ face ∷ []) n g ≡ face_on old (get_or facets n u) (get_or sides n s)) i
          (get_or_push faces face g k b.count ∙ is ∙ (λ t. face_on old (get_or_default facets k facet u (omega (arith, l, same)) t) ((f ∙ get_or_default sides k side s l) t)))

  pub faces_all : (k : ℕ) (faces : List Face) → length sides ≡ k → FacesBefore k faces → AreFacesOn old facets sides faces
  faces_all k faces e b = record { count = b.count ∙ sym e; each = λ j facet side face l. b.each j facet side face (subst (λ n. j < n) e l) }
