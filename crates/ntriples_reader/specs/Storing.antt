-- Names, labels and triples of the lines so far, to the first that passes a limit.
use Rattle.std.specs.Prelude.{ℕ, List, [], ◌∷◌, ◌++◌, Bool, true, false, cond, Option, None, Some, is_some, if◌then◌else◌}
use Rattle.std.specs.List.{list_any, position_or_len}
use Rattle.std.specs.Str.{bytes_eq}
use Rattle.rdf_terms.specs.Terms.{with_triple}
use Rattle.rdf_terms.specs.declared.terms.Code.{Code}
use Rattle.rdf_terms.specs.declared.terms.Code.TheVariants.{L4, L5}
use Rattle.rdf_terms.specs.declared.terms.Literal.{Literal}
use Rattle.rdf_terms.specs.declared.terms.Term.{Term}
use Rattle.rdf_terms.specs.declared.terms.Term.TheVariants as term
use Rattle.rdf_terms.specs.declared.terms.Triple.{Triple}
use Rattle.rdf_reading.specs.Room.{iri_term, literal_term, iri_names, literal_names, has_room}
use Rattle.ntriples_reader.specs.declared.line.Sort.{Sort}
use Rattle.ntriples_reader.specs.declared.line.Sort.TheVariants as sort
use Rattle.ntriples_reader.specs.declared.store.Store.{Store}
use Rattle.ntriples_reader.specs.declared.store.Held.{Held}
use Rattle.ntriples_reader.specs.Lines.{LineState}

-- the number of a blank node's label, which is the next one where it is new, and the labels with it
abbrev pub label_number : List (List ℕ) → List ℕ → ℕ
label_number labels text = position_or_len (bytes_eq text) labels

abbrev pub with_label : List (List ℕ) → List ℕ → List (List ℕ)
with_label labels text = if list_any (bytes_eq text) labels then labels else labels ++ text ∷ []

abbrev pub literal_of : List ℕ → LineState → Literal
literal_of text l = record { lexical = text; datatype = l.datatype; tag = l.tag }

-- the term of a subject or an object, if there is room for its name, and the store with the name
abbrev pub node_term : Store → Sort → List ℕ → LineState → Option Term
node_term st sort.Iri text l = iri_term st.names text
node_term st sort.Blank text l = Some (term.Blank (label_number st.labels text))
node_term st sort.Literal text l = literal_term st.names (literal_of text l)

abbrev pub node_store : Store → Sort → List ℕ → LineState → Store
node_store st sort.Iri text l = record st { names = iri_names st.names text }
node_store st sort.Blank text l = record st { labels = with_label st.labels text }
node_store st sort.Literal text l = record st { names = literal_names st.names (literal_of text l) }

abbrev pub with_room : Store → Triple → Option Code × Store
with_room st t = cond (has_room st.triples t) (None, record st { triples = with_triple st.triples t }) (Some L4, st)

abbrev pub by_term : {A : Type 0} → Option Term → A → (Term → A) → A
by_term None a f = a
by_term (Some t) a f = f t

-- subject, predicate and object in this order
abbrev pub with_object : Store → LineState → Term → Term → Option Code × Store
with_object st l s p = by_term (node_term st l.object_sort l.object l) (Some L5, node_store st l.object_sort l.object l)
    (λ o. with_room (node_store st l.object_sort l.object l) (record { s = s; p = p; o = o; at = l.at }))

abbrev pub with_predicate : Store → LineState → Term → Option Code × Store
with_predicate st l s = by_term (iri_term st.names l.predicate) (Some L5, record st { names = iri_names st.names l.predicate })
    (λ p. with_object (record st { names = iri_names st.names l.predicate }) l s p)

-- The limit that the line's triple passes, if any, and the store behind the line.
abbrev pub with_line : Store → LineState → Option Code × Store
with_line st l = by_term (node_term st l.subject_sort l.subject l) (Some L5, node_store st l.subject_sort l.subject l)
    (λ s. with_predicate (node_store st l.subject_sort l.subject l) l s)

abbrev pub empty_store : Store
empty_store = record { names = record { iris = []; literals = [] }; labels = []; triples = [] }

abbrev pub nothing : Held
nothing = record { store = empty_store; limit = None }

abbrev pub limited : Store → Option Code → ℕ → Held
limited st None at = record { store = st; limit = None }
limited st (Some c) at = record { store = st; limit = Some (record { code = c; at = at }) }

abbrev pub held_by : Bool → Held → LineState → Held
held_by true h l = h
held_by false h l = limited (with_line h.store l).1 (with_line h.store l).0 l.at

-- The first triple that passes a limit stands.
abbrev pub held_after : Held → LineState → Held
held_after h l = held_by (is_some h.limit) h l
