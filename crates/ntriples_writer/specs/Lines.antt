-- The canonical line of a triple.
use Rattle.std.specs.Prelude.{◌==◌, ℕ, List, [], ◌∷◌, ◌++◌, Bool, cond, if◌then◌else◌, codes, unwrap_or, Option, None, Some, length, slice_get}
use Rattle.std.specs.Str.{bytes_eq}
use Rattle.std.specs.Fmt.{decimal}
use Rattle.rdf_vocabulary.specs.Iris.{xsd_string}
use Rattle.rdf_terms.specs.declared.terms.Term.{Term}
use Rattle.rdf_terms.specs.declared.terms.Term.TheVariants.{Iri, Blank, Lit}
use Rattle.rdf_terms.specs.declared.terms.Triple.{Triple}
use Rattle.rdf_terms.specs.declared.terms.Literal.{Literal}
use Rattle.rdf_terms.specs.Naming.{NameLists}

-- The letter that stands behind a backslash for a quotation mark, a backslash, a line feed and a carriage return.
abbrev pub escape_letter : ℕ → Option ℕ
escape_letter b = cond (b == 0x22) (Some 0x22) (cond (b == 0x5C) (Some 0x5C) (cond (b == 0xA) (Some 0x6E) (cond (b == 0xD) (Some 0x72) None)))

abbrev pub escape_by : ℕ → Option ℕ → List ℕ
escape_by b None = b ∷ []
escape_by b (Some letter) = 0x5C ∷ letter ∷ []

-- the text with its escapes
abbrev pub escaped : List ℕ → List ℕ
escaped [] = []
escaped (b ∷ text) = escape_by b (escape_letter b) ++ escaped text

abbrev pub is_xsd_string : List ℕ → Bool
is_xsd_string datatype = bytes_eq datatype xsd_string

abbrev pub iri_text : List ℕ → List ℕ
iri_text iri = codes "<" ++ (iri ++ codes ">")

-- the datatype unless it is `xsd:string`
abbrev pub datatype_text : List ℕ → List ℕ
datatype_text datatype = if is_xsd_string datatype then [] else codes "^^" ++ iri_text datatype

-- the tag, or the datatype where there is none
abbrev pub ending_text : Literal → List ℕ
ending_text l = if length l.tag == 0 then datatype_text l.datatype else codes "@" ++ l.tag

abbrev pub literal_text : Literal → List ℕ
literal_text l = codes "\"" ++ (escaped l.lexical ++ (codes "\"" ++ ending_text l))

abbrev pub literal_or_none : Option Literal → List ℕ
literal_or_none None = []
literal_or_none (Some l) = literal_text l

abbrev pub term_text : NameLists → Term → List ℕ
term_text names (Iri n) = iri_text (unwrap_or (slice_get names.iris n) [])
term_text names (Blank n) = codes "_:b" ++ decimal n
term_text names (Lit n) = literal_or_none (slice_get names.literals n)

-- Subject, predicate and object with a space behind each, a full stop and a line feed.
unfoldable pub canonical_line : NameLists → Triple → List ℕ
canonical_line names t = term_text names t.s ++ (codes " " ++ (term_text names t.p ++ (codes " " ++ (term_text names t.o ++ codes " .\n"))))
