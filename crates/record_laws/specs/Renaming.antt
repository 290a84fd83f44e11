-- Two archives that say the same: the order of their triples, their places, the numbers of their names and their blank nodes may differ.
use Rattle.std.specs.Prelude.{◌≡◌, ℕ, Bool, true, false, List}
use Rattle.std.specs.List.{IsDistinct}
use Rattle.rdf_terms.specs.declared.terms.Term.{Term}
use Rattle.rdf_terms.specs.declared.terms.Triple.{Triple}
use Rattle.rdf_terms.specs.Terms.{same_terms, is_held}
use Rattle.rdf_terms.specs.Naming.{NameLists}
use Rattle.rdf_terms.specs.Fitting.{is_literal, iri_of, literal_of}
use Rattle.crm_type_check.specs.declared.relation.Relation.{Relation}
use Rattle.boundary_orders.specs.declared.statements.Statement.{Statement}
use Rattle.order_laws.specs.declared.Point.{Point}
use Rattle.order_laws.specs.declared.Point.TheVariants.{Start, End}
use Rattle.rdf_terms.specs.declared.triples.Records.{Records}

-- Each term becomes one of the other names, and leads back: an IRI or a literal becomes the same one, a blank node any other.
pub record IsRenaming (names other : NameLists) (m back : Term → Term) : Type 0 where
  pub iris : (t : Term) → iri_of other (m t) ≡ iri_of names t
  pub literals : (t : Term) → literal_of other (m t) ≡ literal_of names t
  pub sorts : (t : Term) → is_literal (m t) ≡ is_literal t
  pub forth_and_back : (t : Term) → back (m t) ≡ t
  pub back_and_forth : (t : Term) → m (back t) ≡ t

-- the same triple with its terms renamed, wherever it stands
pub record IsRenamed (m : Term → Term) (t u : Triple) : Type 0 where
  pub s : u.s ≡ m t.s
  pub p : u.p ≡ m t.p
  pub o : u.o ≡ m t.o

abbrev pub renamed : (Term → Term) → Triple → Triple
renamed m t = record { s = m t.s; p = m t.p; o = m t.o; at = t.at }

abbrev pub renamed_relation : (Term → Term) → Relation → Relation
renamed_relation m r = record { from = m r.from; to = m r.to; kind = r.kind }

abbrev pub renamed_statement : (Term → Term) → Statement → Statement
renamed_statement m s = record { code = s.code; domain = m s.domain; range = m s.range }

-- Two lists of distinct triples have the same members, renamed.
pub record SayTheSame (names : NameLists) (triples : List Triple) (other : NameLists) (others : List Triple) (m back : Term → Term) : Type 0 where
  pub renaming : IsRenaming names other m back
  pub distinct : IsDistinct same_terms triples
  pub others_distinct : IsDistinct same_terms others
  pub there : (t : Triple) → is_held triples t ≡ true → is_held others (renamed m t) ≡ true
  pub here : (u : Triple) → is_held others u ≡ true → is_held triples (renamed back u) ≡ true

abbrev pub Same : Records → Records → (Term → Term) → (Term → Term) → Type 0
Same r q m back = SayTheSame r.names r.triples q.names q.triples m back

-- the start or the end of an extent
abbrev pub boundary : Bool → ℕ → Point
boundary true k = Start k
boundary false k = End k
