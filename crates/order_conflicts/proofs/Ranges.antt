-- The points of a set are in range.
use Rattle.std.proofs.Common.{◌≡◌, ℕ, List, All, refl}
use Rattle.order_laws.specs.declared.Point.{Point}
use Rattle.order_laws.specs.Tables.{IsPoint, all_points}
use Rattle.placing_witness.proofs.InRange.{point_in_range}

pub listed_within : (points : List Point) (e d : ℕ) → points ≡ all_points e d → All (IsPoint e d) points
listed_within points e d same = λ k z h. point_in_range points e d k z same h

pub points_within : (e d : ℕ) → All (IsPoint e d) (all_points e d)
points_within e d = listed_within (all_points e d) e d refl
