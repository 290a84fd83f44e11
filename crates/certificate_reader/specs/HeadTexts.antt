-- The first lines of certificates.
use Rattle.std.specs.Prelude.{ℕ, List, codes}
use Rattle.certificate_reader.specs.declared.heads.Kind.{Kind}
use Rattle.certificate_reader.specs.declared.heads.Kind.TheVariants.{Orders, SharedOrders, Classes, Matrix}

-- with its line feed
abbrev pub head_text : Kind → List ℕ
head_text Orders = codes "crmtime 1 orders\n"
head_text SharedOrders = codes "crmtime 2 orders\n"
head_text Classes = codes "crmtime 1 classes\n"
head_text Matrix = codes "crmtime 1 matrix\n"
