-- What is kept while a certificate of a matrix is printed.
use Rattle.std.specs.Prelude.{◌<◌, ⊤, Option, None, Some}
use Rattle.order_laws.specs.declared.Point.TheVariants.{End}
use Rattle.order_core.specs.Sets.{Orders}
use Rattle.chain_certificate.specs.Routes.{IsRoutesOf}
use Rattle.matrix_certificates.specs.declared.pieces.From.{From}
use Rattle.matrix_certificates.specs.declared.pieces.MatrixStage.{MatrixStage}
use Rattle.matrix_certificates.specs.declared.pieces.MatrixStage.TheVariants.{Head, Covers, Walks, Over}

-- the chains lead from the end of an extent
pub record IsFrom (set : Orders) (f : From) : Type 0 where
  pub within : f.extent < set.extents
  pub routes : IsRoutesOf set (End f.extent) f.routes

abbrev pub IsReadyFrom : Orders → Option From → Type 0
IsReadyFrom set None = ⊤
IsReadyFrom set (Some f) = IsFrom set f

abbrev pub IsMatrixStage : Orders → MatrixStage → Type 0
IsMatrixStage set Head = ⊤
IsMatrixStage set (Covers at from) = IsReadyFrom set from
IsMatrixStage set (Walks i j) = ⊤
IsMatrixStage set Over = ⊤
