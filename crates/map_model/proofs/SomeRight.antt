-- Some tests on solids are right.
use Rattle.std.proofs.Common.{sym, ◌∙◌, ◌≤◌, ◌<◌, List, [], length, ◌⊎◌, inl, inr, arith}
use Rattle.std.proofs.lemmas.Bool.{cases_lt}
use Rattle.algebra.specs.Space.{HalfSpace, Homogeneous}
use Rattle.solid_laws.specs.Names.{AreVertices}
use Rattle.map_model.specs.Below.{Below, SomeAreRight}
use Rattle.map_model.specs.Promises.{OneOutcomeLaw}
use Rattle.map_model.proofs.Right.{is_solid, is_empty, leaves_world, bears, solid_right, empty_right, leaves_right, bears_right}
use Rattle.map_model.proofs.Search.{found}

-- The vertices of lists that aren't too long.
vertices_by : (F : List HalfSpace) → (262 < length F) ⊎ (length F ≤ 262) → List Homogeneous
vertices_by F (inl long) = []
vertices_by F (inr few) = (found F few).0

are_vertices_by : (F : List HalfSpace) (c : (262 < length F) ⊎ (length F ≤ 262)) → length F ≤ 128 → AreVertices F (vertices_by F c)
unfolding vertices_by
are_vertices_by F (inl long) few = absurd (omega arith)
are_vertices_by F (inr most) few = (found F most).1

tests : Below
tests = record {
  is_solid = is_solid;
  is_empty = is_empty;
  leaves_world = leaves_world;
  bears = bears;
  vertices = λ F. vertices_by F (cases_lt 262 (length F));
}

pub some_are_right : SomeAreRight
unfolding tests
some_are_right = record {
  tests = tests;
  right = record {
    is_solid = λ F proper bounded. solid_right F bounded;
    is_empty = λ F proper. empty_right F;
    leaves_world = λ F proper asked. leaves_right F asked;
    bears = λ F f proper bounded among. bears_right F f proper bounded among;
    vertices = λ F valid. are_vertices_by F (cases_lt 262 (length F)) valid.most;
  };
}

-- So what comes of a command by whatever right tests is one thing.
pub one_outcome : OneOutcomeLaw
one_outcome s m c x y a b = sym (a some_are_right.tests some_are_right.right) ∙ b some_are_right.tests some_are_right.right
