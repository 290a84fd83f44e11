-- What an IRI names: a property or a class by its code, a type, a relation.
use Rattle.std.specs.Prelude.{ℕ, ◌==◌, ◌&&◌, Bool, true, false, cond, Option, Some, None, List, [], ◌∷◌, length, take, drop, slice_index, slice_index_or, position, codes, bytes_eq, nat_le}
use Rattle.std.specs.List.{position_or_len}
use Rattle.crm_classes.specs.Classes.{class_of_text}
use Rattle.crm_properties.specs.declared.Space.{Space}
use Rattle.crm_properties.specs.declared.Space.TheVariants.{Crm, Archaeo, Whole}
use Rattle.crm_properties.specs.declared.Prop.{Prop}
use Rattle.crm_properties.specs.declared.RangeKind.TheVariants.{Text}
use Rattle.crm_properties.specs.Table.{Row, rows}

-- stands where no property has the number
abbrev pub no_row : Row
no_row = record { space = Crm; text = []; inverse = None; domain = 0; range = Text }

abbrev pub row_at : ℕ → Row
row_at n = slice_index_or rows n no_row

-- the namespaces of the CRM and of CRMarchaeo
unfoldable pub crm_space : List ℕ
crm_space = codes "http://www.cidoc-crm.org/cidoc-crm/"

unfoldable pub archaeo_space : List ℕ
archaeo_space = codes "http://www.cidoc-crm.org/cidoc-crm/CRMarchaeo/"

unfoldable pub extension_space : List ℕ
extension_space = codes "http://www.cidoc-crm.org/extensions/crmarchaeo/"

unfoldable pub relation_iri : List ℕ
relation_iri = codes "urn:crmtime:Relation"

-- what follows the prefix
abbrev pub behind : List ℕ → List ℕ → Option (List ℕ)
behind prefix text = cond (nat_le (length prefix) (length text) && bytes_eq (take (length prefix) text) prefix) (Some (drop (length prefix) text)) None

-- up to the first `_`, or the whole
abbrev pub code_in : List ℕ → List ℕ
code_in text = take (position_or_len (λ b. b == 95) text) text

-- where a name is looked for, and its text there
pub record Name : Type 0 where
  pub space : Space
  pub text : List ℕ

-- by what follows each namespace; that of the CRM is the shortest and comes last
abbrev pub name_in : List ℕ → Option (List ℕ) → Option (List ℕ) → Option (List ℕ) → Name
name_in iri (Some rest) b c = record { space = Archaeo; text = code_in rest }
name_in iri None (Some rest) c = record { space = Archaeo; text = code_in rest }
name_in iri None None (Some rest) = record { space = Crm; text = code_in rest }
name_in iri None None None = record { space = Whole; text = iri }

abbrev pub name_of : List ℕ → Name
name_of iri = name_in iri (behind archaeo_space iri) (behind extension_space iri) (behind crm_space iri)

abbrev pub same_space : Space → Space → Bool
same_space Crm Crm = true
same_space Archaeo Archaeo = true
same_space Whole Whole = true
same_space a b = false

abbrev pub is_row : Name → Row → Bool
is_row n r = same_space r.space n.space && bytes_eq r.text n.text

abbrev pub is_text : Option (List ℕ) → List ℕ → Bool
is_text None text = false
is_text (Some known) text = bytes_eq known text

abbrev pub is_inverse_row : Name → Row → Bool
is_inverse_row n r = same_space r.space n.space && is_text r.inverse n.text

abbrev pub prop_in : Option ℕ → Option ℕ → Option Prop
prop_in (Some n) b = Some (record { code = n; inverse = false })
prop_in None (Some n) = Some (record { code = n; inverse = true })
prop_in None None = None

-- the property of the IRI
abbrev pub prop_of_text : List ℕ → Option Prop
prop_of_text iri = prop_in (position (is_row (name_of iri)) rows) (position (is_inverse_row (name_of iri)) rows)

-- E codes count in the namespace of the CRM, A codes in those of CRMarchaeo
abbrev pub class_in : Space → List ℕ → Option ℕ
class_in Crm text = cond (slice_index text 0 == 69) (class_of_text text) None
class_in Archaeo text = cond (slice_index text 0 == 65) (class_of_text text) None
class_in Whole text = None

-- the class of the IRI
abbrev pub class_of_iri_text : List ℕ → Option ℕ
class_of_iri_text iri = class_in (name_of iri).space (name_of iri).text
