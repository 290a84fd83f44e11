-- The base and the prefixes that the directives among tokens set, and which names are refused by them.
use Rattle.std.specs.Prelude.{List, [], ◌∷◌, ℕ, Option, None}
use Rattle.rdf_terms.specs.declared.terms.Code.{Code}
use Rattle.turtle_grammar.specs.declared.terminals.AtWord.TheVariants as word
use Rattle.turtle_grammar.specs.Grammar.{Document}
use Rattle.turtle_grammar.specs.Grammar.Document.{NoMore, Direct, Triples, Node, NodePairs}
use Rattle.turtle_grammar.specs.Tokens.{Token}
use Rattle.turtle_grammar.specs.Tokens.Token.{Name, Str, At, Prefix, Base}
use Rattle.turtle_environments.specs.Environments.{EnvironmentState, reference_iri, with_prefix, with_base}
use Rattle.turtle_documents.specs.Documents.{name_code}
use Rattle.reading_laws.specs.Meaning.{directed}

-- what a name is that stands next: a name of a statement, the prefix or the IRI of a prefix's directive, or a base; behind a string `@` begins a tag
pub data Part : Type 0 where
  Statement : Part
  AtPrefix : Part
  AtIri : Part
  AtBase : Part
  AtTag : Part

abbrev pub begun_by : Token → Part
begun_by (At word.Prefix v) = AtPrefix
begun_by (At word.Base v) = AtBase
begun_by Prefix = AtPrefix
begun_by Base = AtBase
begun_by (Str v) = AtTag
begun_by _ = Statement

abbrev pub part_behind : Part → Token → Part
part_behind AtPrefix (Name f v) = AtIri
part_behind AtTag (At w v) = Statement
part_behind p t = begun_by t

-- the environment behind tokens, with the prefix of a directive that is not over
pub record Standing : Type 0 where
  pub part : Part
  pub prefix : List ℕ
  pub environment : EnvironmentState

abbrev pub set_by : Part → List ℕ → EnvironmentState → List ℕ → EnvironmentState
set_by AtIri prefix e text = with_prefix e prefix (reference_iri e text)
set_by AtBase prefix e text = with_base e (reference_iri e text)
set_by _ prefix e text = e

abbrev pub prefix_by : Part → List ℕ → List ℕ → List ℕ
prefix_by AtPrefix prefix text = text
prefix_by _ prefix text = prefix

abbrev pub environment_behind : Standing → Token → EnvironmentState
environment_behind s (Name f v) = set_by s.part s.prefix s.environment v.text
environment_behind s _ = s.environment

abbrev pub prefix_behind : Standing → Token → List ℕ
prefix_behind s (Name f v) = prefix_by s.part s.prefix v.text
prefix_behind s _ = s.prefix

abbrev pub behind : Standing → Token → Standing
behind s t = record { part = part_behind s.part t; prefix = prefix_behind s t; environment = environment_behind s t }

abbrev pub all_behind : Standing → List Token → Standing
all_behind s [] = s
all_behind s (t ∷ ts) = all_behind (behind s t) ts

abbrev pub outset : EnvironmentState → Standing
outset e = record { part = Statement; prefix = []; environment = e }

-- why a name is refused where it stands, if it is; the prefix that a directive defines is not asked for
abbrev pub code_by : Part → Option Code → Option Code
code_by AtPrefix c = None
code_by _ c = c

abbrev pub name_fault : Standing → Token → Option Code
name_fault s (Name f v) = code_by s.part (name_code s.environment f v.text v.cut)
name_fault s _ = None

-- the environment behind the directives of a document
abbrev pub set_by_document : Document → EnvironmentState → EnvironmentState
set_by_document NoMore e = e
set_by_document (Direct x d) e = set_by_document d (directed x e)
set_by_document (Triples s p d) e = set_by_document d e
set_by_document (Node at p d) e = set_by_document d e
set_by_document (NodePairs at p q d) e = set_by_document d e
