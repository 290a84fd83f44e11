-- Lines of N-Triples, a token at a time.
use Rattle.std.specs.Prelude.{ℕ, List, [], Bool, true, false, cond, codes, Option, None, Some}
use Rattle.rdf_vocabulary.specs.Iris.{xsd_string, rdf_lang_string}
use Rattle.rdf_terms.specs.declared.terms.Code.{Code}
use Rattle.rdf_terms.specs.declared.terms.Code.TheVariants.{G2, G5, G6}
use Rattle.iri_resolve.specs.Splitting.{has_scheme}
use Rattle.ntriples_tokens.specs.declared.kinds.Kind.{Kind}
use Rattle.ntriples_tokens.specs.declared.kinds.Kind.TheVariants as kind
use Rattle.rdf_reading.specs.Values.{has_bad_escape, inside}
use Rattle.ntriples_reader.specs.Values.{value_text, label_text, tag_text}
use Rattle.ntriples_reader.specs.declared.line.Expect.{Expect}
use Rattle.ntriples_reader.specs.declared.line.Expect.TheVariants.{Start, Subject, Predicate, Quoted, Typed, Object, End}
use Rattle.ntriples_reader.specs.declared.line.Sort.{Sort}
use Rattle.ntriples_reader.specs.declared.line.Sort.TheVariants.{Iri, Blank, Literal}

-- what may follow: a line is empty, or a subject, an IRI, an object and a full stop
abbrev pub next : Expect → Kind → Option Expect
next Start kind.IriRef = Some Subject
next Start kind.Blank = Some Subject
next Start kind.Eol = Some Start
next Start _ = None
next Subject kind.IriRef = Some Predicate
next Subject _ = None
next Predicate kind.IriRef = Some Object
next Predicate kind.Blank = Some Object
next Predicate kind.Str = Some Quoted
next Predicate _ = None
next Quoted kind.AtWord = Some Object
next Quoted kind.Carets = Some Typed
next Quoted kind.Dot = Some End
next Quoted _ = None
next Typed kind.IriRef = Some Object
next Typed _ = None
next Object kind.Dot = Some End
next Object _ = None
next End kind.Eol = Some Start
next End _ = None

abbrev pub is_between : Expect → Bool
is_between Start = true
is_between End = true
is_between _ = false

-- what was read of a line; an IRI, a label or a lexical form by its bytes
pub record LineState : Type 0 where
  pub expect : Expect
  pub subject_sort : Sort
  pub subject : List ℕ
  pub predicate : List ℕ
  pub object_sort : Sort
  pub object : List ℕ
  pub datatype : List ℕ
  pub tag : List ℕ
  pub at : ℕ

abbrev pub no_line : LineState
no_line = record { expect = Start; subject_sort = Iri; subject = []; predicate = []; object_sort = Iri; object = []; datatype = []; tag = []; at = 0 }

-- the line with a token, by what was read before it
abbrev pub with_iri : Expect → LineState → List ℕ → ℕ → LineState
with_iri Start l text at = record l { subject_sort = Iri; subject = text }
with_iri Subject l text at = record l { predicate = text }
with_iri Predicate l text at = record l { object_sort = Iri; object = text; at = at }
with_iri _ l text at = record l { datatype = text }

abbrev pub with_blank : Expect → LineState → List ℕ → ℕ → LineState
with_blank Start l text at = record l { subject_sort = Blank; subject = text }
with_blank _ l text at = record l { object_sort = Blank; object = text; at = at }

abbrev pub with_token : Kind → LineState → List ℕ → ℕ → LineState
with_token kind.IriRef l chars at = with_iri l.expect l (value_text chars) at
with_token kind.Blank l chars at = with_blank l.expect l (label_text chars) at
with_token kind.Str l chars at = record l { object_sort = Literal; object = value_text chars; datatype = xsd_string; tag = []; at = at }
with_token kind.AtWord l chars at = record l { datatype = rdf_lang_string; tag = tag_text chars }
with_token _ l chars at = l

abbrev pub moved : LineState → Option Expect → LineState
moved l None = l
moved l (Some e) = record l { expect = e }

abbrev pub line_after : LineState → Kind → List ℕ → ℕ → LineState
line_after l k chars at = moved (with_token k l chars at) (next l.expect k)

-- an IRI is refused where an escape gives a character that it may not have, and where it has no scheme
abbrev pub iri_code : List ℕ → Option Code
iri_code chars = cond (has_bad_escape (inside 1 chars)) (Some G6) (cond (has_scheme (value_text chars)) None (Some G5))

abbrev pub token_code : Kind → List ℕ → Option Code
token_code kind.IriRef chars = iri_code chars
token_code _ chars = None

abbrev pub code_by : Option Expect → Option Code → Option Code
code_by None c = Some G2
code_by (Some e) c = c

-- why the token is refused, if it is
abbrev pub code_at : LineState → Kind → List ℕ → Option Code
code_at l k chars = code_by (next l.expect k) (token_code k chars)
