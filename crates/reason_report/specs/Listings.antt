-- Which primitives a list of relations lists.
use Rattle.std.specs.Prelude.{◌≡◌, ℕ, true, List}
use Rattle.std.specs.List.{Contains}
use Rattle.order_core.specs.Primitives.{points_of, side_of}
use Rattle.order_core.specs.declared.primitives.Primitive.{Primitive}
use Rattle.reason_report.specs.declared.relations.Relation.{Relation}

-- some relation of the two periods is on the primitive's side, and is strict where the primitive is
pub record IsListed (relations : List Relation) (a : ℕ) (p : Primitive) (b : ℕ) : Type 0 where
  pub relation : Relation
  pub among : Contains relations relation
  pub left : relation.left ≡ a
  pub right : relation.right ≡ b
  pub side : relation.side ≡ side_of p
  pub strict : (points_of p a b).2 ≡ true → relation.strict ≡ true
