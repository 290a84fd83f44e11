-- What a document tells: triples of texts and of blank nodes, with their places, in document order.
use Rattle.std.specs.Prelude.{ℕ, List, [], ◌∷◌, ◌++◌, Option, None, Some}
use Rattle.rdf_terms.specs.declared.terms.Literal.{Literal}
use Rattle.turtle_grammar.specs.Grammar.{Object, Objects, Pairs, Further, Subject, Document}
use Rattle.turtle_grammar.specs.Grammar.Object.{Named, Labelled, Anonymous, Collection, Nested, Number, Plain, Tagged, Typed}
use Rattle.turtle_grammar.specs.Grammar.Objects.{NoObjects, MoreObjects}
use Rattle.turtle_grammar.specs.Grammar.Pairs.{Pair}
use Rattle.turtle_grammar.specs.Grammar.Further.{NoFurther, Bare, Full}
use Rattle.turtle_grammar.specs.Grammar.Subject.{NamedNode, LabelledNode, AnonymousNode, CollectionNode}
use Rattle.turtle_grammar.specs.Grammar.Document.{NoMore, Direct, Triples, Node, NodePairs}
use Rattle.rdf_vocabulary.specs.Iris.{rdf_first, rdf_rest, rdf_nil, xsd_string}
use Rattle.turtle_environments.specs.Blanks.{BlankNodes, no_blanks, one_more, label_number, with_label}
use Rattle.turtle_environments.specs.Environments.{EnvironmentState}
use Rattle.turtle_documents.specs.Documents.{name_iri, plain_literal}
use Rattle.reading_laws.specs.Meaning.{tagged_literal, verb_iri, object_at, place, directed}

pub data Thing : Type 0 where
  Iri : List ℕ → Thing
  Blank : ℕ → Thing
  Lit : Literal → Thing

-- the predicate is an IRI
pub record Statement : Type 0 where
  pub s : Thing
  pub p : List ℕ
  pub o : Thing
  pub at : ℕ

pub record Told : Type 0 where
  pub blanks : BlankNodes
  pub list : List Statement

abbrev pub untold : Told
untold = record { blanks = no_blanks; list = [] }

-- the next blank node, and a triple more
abbrev pub node : Told → Thing
node g = Blank g.blanks.count

abbrev pub with_node : Told → Told
with_node g = record g { blanks = one_more g.blanks }

abbrev pub tell : Told → Thing → List ℕ → Thing → ℕ → Told
tell g s p o at = record g { list = g.list ++ record { s = s; p = p; o = o; at = at } ∷ [] }

abbrev pub labelled : Told → List ℕ → Told
labelled g label = record g { blanks = with_label g.blanks label }

-- A triple comes before the triples inside its object. A collection has a new node for each item.
abbrev mutual
  pub object_tells : Object → EnvironmentState → Thing → List ℕ → Told → Told
  object_tells (Named f v) e s p g = tell g s p (Iri (name_iri e f v.text v.cut)) v.at
  object_tells (Labelled v) e s p g = tell (labelled g v.text) s p (Blank (label_number g.blanks v.text)) v.at
  object_tells (Anonymous at) e s p g = tell (with_node g) s p (node g) at
  object_tells (Collection at xs end) e s p g = items_tell xs e s p (Some at) end g
  object_tells (Nested at q) e s p g = pairs_tell q e (node g) (tell (with_node g) s p (node g) at)
  object_tells (Number d v) e s p g = tell g s p (Lit (plain_literal v.text d)) v.at
  object_tells (Plain v) e s p g = tell g s p (Lit (plain_literal v.text xsd_string)) v.at
  object_tells (Tagged v w t) e s p g = tell g s p (Lit (tagged_literal v.text t.text)) v.at
  object_tells (Typed v f t) e s p g = tell g s p (Lit (plain_literal v.text (name_iri e f t.text t.cut))) v.at

  pub items_tell : Objects → EnvironmentState → Thing → List ℕ → Option ℕ → ℕ → Told → Told
  items_tell NoObjects e s p first end g = tell g s p (Iri rdf_nil) (place first end)
  items_tell (MoreObjects x xs) e s p first end g =
      items_tell xs e (node g) rdf_rest None end (object_tells x e (node g) rdf_first (tell (with_node g) s p (node g) (place first (object_at x))))

  pub commas_tell : Objects → EnvironmentState → Thing → List ℕ → Told → Told
  commas_tell NoObjects e s p g = g
  commas_tell (MoreObjects x xs) e s p g = commas_tell xs e s p (object_tells x e s p g)

  pub pairs_tell : Pairs → EnvironmentState → Thing → Told → Told
  pairs_tell (Pair v x xs f) e s g = further_tell f e s (commas_tell xs e s (verb_iri e v) (object_tells x e s (verb_iri e v) g))

  pub further_tell : Further → EnvironmentState → Thing → Told → Told
  further_tell NoFurther e s g = g
  further_tell (Bare f) e s g = further_tell f e s g
  further_tell (Full v x xs f) e s g = further_tell f e s (commas_tell xs e s (verb_iri e v) (object_tells x e s (verb_iri e v) g))

-- What a subject is, and what is told before its own triples.
abbrev pub subject_is : Subject → EnvironmentState → Told → Thing
subject_is (NamedNode f v) e g = Iri (name_iri e f v.text v.cut)
subject_is (LabelledNode v) e g = Blank (label_number g.blanks v.text)
subject_is (AnonymousNode at) e g = node g
subject_is (CollectionNode at NoObjects end) e g = Iri rdf_nil
subject_is (CollectionNode at (MoreObjects x xs) end) e g = node g

abbrev pub subject_tells : Subject → EnvironmentState → Told → Told
subject_tells (NamedNode f v) e g = g
subject_tells (LabelledNode v) e g = labelled g v.text
subject_tells (AnonymousNode at) e g = with_node g
subject_tells (CollectionNode at NoObjects end) e g = g
subject_tells (CollectionNode at (MoreObjects x xs) end) e g = items_tell xs e (node g) rdf_rest None end (object_tells x e (node g) rdf_first (with_node g))

abbrev pub document_tells : Document → EnvironmentState → Told → Told
document_tells NoMore e g = g
document_tells (Direct x d) e g = document_tells d (directed x e) g
document_tells (Triples s p d) e g = document_tells d e (pairs_tell p e (subject_is s e g) (subject_tells s e g))
document_tells (Node at p d) e g = document_tells d e (pairs_tell p e (node g) (with_node g))
document_tells (NodePairs at p q d) e g = document_tells d e (pairs_tell q e (node g) (pairs_tell p e (node g) (with_node g)))

-- the triples of a document
abbrev pub statements : Document → EnvironmentState → List Statement
statements d e = (document_tells d e untold).list
