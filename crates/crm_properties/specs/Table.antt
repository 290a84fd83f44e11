-- The properties of the profile, in the order of their numbers.
use Rattle.std.specs.Prelude.{ℕ, Option, Some, None, List, [], ◌∷◌, codes}
use Rattle.crm_properties.specs.declared.Space.{Space}
use Rattle.crm_properties.specs.declared.Space.TheVariants.{Crm, Archaeo, Whole}
use Rattle.crm_properties.specs.declared.RangeKind.{RangeKind}
use Rattle.crm_properties.specs.declared.RangeKind.TheVariants.{Class, Text, Date}
use Rattle.crm_properties.specs.ClassNumbers.{e1, e2, e52, e53, e77, e92, e4, e5, e7, e63, e64, e66, e67, e69, e39, e74, e18, e21, e55, e41}

-- where the name is looked for, its text there, that of the inverse, the domain and the range
pub record Row : Type 0 where
  pub space : Space
  pub text : List ℕ
  pub inverse : Option (List ℕ)
  pub domain : ℕ
  pub range : RangeKind

abbrev row : Space → List ℕ → Option (List ℕ) → ℕ → RangeKind → Row
row space text inverse domain range = record { space = space; text = text; inverse = inverse; domain = domain; range = range }

unfoldable pub rows : List Row
rows =
    row Crm (codes "P173") (Some (codes "P173i")) e2 (Class e2) ∷
    row Crm (codes "P174") (Some (codes "P174i")) e2 (Class e2) ∷
    row Crm (codes "P175") (Some (codes "P175i")) e2 (Class e2) ∷
    row Crm (codes "P176") (Some (codes "P176i")) e2 (Class e2) ∷
    row Crm (codes "P182") (Some (codes "P182i")) e2 (Class e2) ∷
    row Crm (codes "P183") (Some (codes "P183i")) e2 (Class e2) ∷
    row Crm (codes "P184") (Some (codes "P184i")) e2 (Class e2) ∷
    row Crm (codes "P185") (Some (codes "P185i")) e2 (Class e2) ∷
    row Crm (codes "P4") (Some (codes "P4i")) e2 (Class e52) ∷
    row Crm (codes "P160") (Some (codes "P160i")) e92 (Class e52) ∷
    row Crm (codes "P9") (Some (codes "P9i")) e4 (Class e4) ∷
    row Crm (codes "P10") (Some (codes "P10i")) e92 (Class e92) ∷
    row Crm (codes "P86") (Some (codes "P86i")) e52 (Class e52) ∷
    row Crm (codes "P82a") None e52 Date ∷
    row Crm (codes "P81a") None e52 Date ∷
    row Crm (codes "P81b") None e52 Date ∷
    row Crm (codes "P82b") None e52 Date ∷
    row Whole (codes "urn:crmtime:AP13-before") None e2 (Class e2) ∷
    row Whole (codes "urn:crmtime:AP13-after") None e2 (Class e2) ∷
    row Whole (codes "urn:crmtime:AP13-same") None e2 (Class e2) ∷
    row Crm (codes "P1") (Some (codes "P1i")) e1 (Class e41) ∷
    row Crm (codes "P2") (Some (codes "P2i")) e1 (Class e55) ∷
    row Crm (codes "P3") None e1 Text ∷
    row Crm (codes "P7") (Some (codes "P7i")) e4 (Class e53) ∷
    row Crm (codes "P11") (Some (codes "P11i")) e5 (Class e39) ∷
    row Crm (codes "P12") (Some (codes "P12i")) e5 (Class e77) ∷
    row Crm (codes "P14") (Some (codes "P14i")) e7 (Class e39) ∷
    row Crm (codes "P15") (Some (codes "P15i")) e7 (Class e1) ∷
    row Crm (codes "P17") (Some (codes "P17i")) e7 (Class e1) ∷
    row Crm (codes "P20") (Some (codes "P20i")) e7 (Class e5) ∷
    row Crm (codes "P21") (Some (codes "P21i")) e7 (Class e55) ∷
    row Crm (codes "P46") (Some (codes "P46i")) e18 (Class e18) ∷
    row Crm (codes "P89") (Some (codes "P89i")) e53 (Class e53) ∷
    row Crm (codes "P92") (Some (codes "P92i")) e63 (Class e77) ∷
    row Crm (codes "P93") (Some (codes "P93i")) e64 (Class e77) ∷
    row Crm (codes "P95") (Some (codes "P95i")) e66 (Class e74) ∷
    row Crm (codes "P98") (Some (codes "P98i")) e67 (Class e21) ∷
    row Crm (codes "P100") (Some (codes "P100i")) e69 (Class e21) ∷
    row Crm (codes "P134") (Some (codes "P134i")) e7 (Class e7) ∷
    row Archaeo (codes "AP13") (Some (codes "AP13i")) e2 (Class e2) ∷
    row Archaeo (codes "AP7") (Some (codes "AP7i")) e1 (Class e1) ∷
    row Whole (codes "urn:crmtime:relation-from") None e1 (Class e2) ∷
    row Whole (codes "urn:crmtime:relation-to") None e1 (Class e2) ∷
    row Whole (codes "urn:crmtime:relation-type") None e1 (Class e1) ∷
    []
