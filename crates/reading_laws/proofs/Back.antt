-- The canonical lines of what was read of Turtle are read back.
use Rattle.std.proofs.Common.{ℕ, List, [], ◌++◌, ◌≡◌, ◌≤◌, ◌+◌, ◌⊎◌, length, codes, slice_get, refl, ap, sym, ◌∙◌, subst, arith, inl, inr, length-append}
use Rattle.std.proofs.lemmas.Option.{slice_get_within, get_or_from_slice_get}
use Rattle.std.specs.Prelude.{Option, Some}
use Rattle.std.specs.List.{All}
use Rattle.std.specs.Str.{IsUtf8}
use lib.Utf8.{encodes}
use Rattle.rdf_terms.specs.declared.terms.Literal.{Literal}
use Rattle.rdf_terms.specs.declared.triples.Records.{Records}
use Rattle.rdf_terms.specs.Naming.{NameLists}
use Rattle.token_scanner.specs.Widths.{width}
use Rattle.ntriples_reader.specs.Lines as lines
use Rattle.rdf_reading.specs.Answers.Answer.{Read}
use Rattle.ntriples_reader.specs.Feeding.{answer as lines_answer}
use Rattle.ntriples_writer.specs.Lines.{escaped, iri_text}
use Rattle.ntriples_laws.specs.Canonical.{canonical_text, IsSame}
use Rattle.ntriples_laws.proofs.Canon.{escaped_bytes}
use Rattle.ntriples_laws.proofs.Good.{GoodIri, GoodText, GoodTag, GoodNames, Ending}
use Rattle.turtle_grammar.specs.Grammar.{document}
use Rattle.turtle_lexer.specs.Streams.Stream.{Ends}
use Rattle.rdf_vocabulary.specs.Iris.{rdf_lang_string, xsd_string}
use Rattle.turtle_reader.specs.Answers.{answer}
use Rattle.reading_laws.proofs.Documented.{document_store}
use Rattle.reading_laws.specs.Narrow.{IsIri, IsBase, AreNarrow}
use Rattle.reading_laws.proofs.Turtled.{is_read, turtle_orderly}
use Rattle.reading_laws.proofs.Replayed.{has, orderly_back}
use Rattle.reading_laws.proofs.Iris.{good_iri, bytes_width}
use Rattle.reading_laws.proofs.Values.{tokens_good}
use Rattle.reading_laws.proofs.Machined.{AreNames, read_names}

-- what is said of each, at a place
at_place : {X : Type 0} (P : X → Type 0) (xs : List X) (n : ℕ) (v : X) → All P xs → slice_get xs n ≡ Some v → P v
at_place P xs n v all e = subst P (get_or_from_slice_get xs n v v e) (all n v (slice_get_within xs n v e))

iri_length : (text : List ℕ) → length (iri_text text) ≡ length text + 2
iri_length text = omega (arith, length-append text (codes ">"))

quoted_length : (text : List ℕ) → length (codes "\"" ++ (text ++ codes "\"")) ≡ length text + 2
quoted_length text = omega (arith, length-append text (codes "\""))

narrow_iri : (text : List ℕ) → IsIri text → length (iri_text text) ≤ 65536 → GoodIri text
narrow_iri text i h = good_iri text i (omega (arith, iri_length text, h))

narrow_text : (text : List ℕ) → IsUtf8 text → length (codes "\"" ++ (escaped text ++ codes "\"")) ≤ 65536 → GoodText text
narrow_text text u h =
    let is : encodes u.0 ≡ text = u.1.1 in
    let same : length (escaped text) ≡ width (escaped u.0) = ap (λ t. length (escaped t)) (sym is) ∙ ap length (escaped_bytes u.0) ∙ bytes_width (escaped u.0) in
    record { chars = u.0; is = sym is; good = u.1.0; narrow = omega (arith, quoted_length (escaped text), same, h) }

narrow_ending : (v : Literal) → ((v.tag ≡ []) × ((v.datatype ≡ xsd_string) ⊎ IsIri v.datatype)) ⊎ (GoodTag v.tag × (v.datatype ≡ rdf_lang_string)) → length (iri_text v.datatype) ≤ 65536 → Ending v
narrow_ending v (inl (e, inl d)) h = inl (e, inl d)
narrow_ending v (inl (e, inr i)) h = inl (e, inr (narrow_iri v.datatype i h))
narrow_ending v (inr (g, d)) h = inr (g, d)

good_names : (names : NameLists) → AreNames names → AreNarrow names → GoodNames names
good_names names a w = record {
  iris = λ n text e. narrow_iri text (a.iris n text e) (at_place (λ iri. length (iri_text iri) ≤ 65536) names.iris n text w.iris e);
  literals = λ n v e. record {
    lexical = narrow_text v.lexical (a.literals n v e).lexical (at_place (λ l. length (codes "\"" ++ (escaped l.lexical ++ codes "\"")) ≤ 65536) names.literals n v w.lexicals e);
    ending = narrow_ending v (a.literals n v e).ending (at_place (λ l. length (iri_text l.datatype) ≤ 65536) names.literals n v w.datatypes e);
  };
}

-- the names of what was read
turtle_names : (base : Option (List ℕ)) (bytes : List ℕ) (r : Records) → IsBase base → answer base bytes ≡ Read r → AreNames r.names
turtle_names base bytes r b e =
    let i = is_read base bytes r e in
    let good = tokens_good bytes i.spelled.0 (document i.document) (Ends i.spelled.1) i.spelled.2 i.spelled.3 in
    subst AreNames (ap (λ s. s.names) (document_store base i.document) ∙ ap (λ x. x.names) (sym i.is)) (read_names base (document i.document) b good i.taken)

-- each IRI that is read is one
pub turtle_iris : (base : Option (List ℕ)) (bytes : List ℕ) (r : Records) → IsBase base → answer base bytes ≡ Read r → All IsIri r.names.iris
turtle_iris base bytes r b e k d low =
    let h = has r.names.iris k low in
    subst IsIri (sym (get_or_from_slice_get r.names.iris k h.value d h.is)) ((turtle_names base bytes r b e).iris k h.value h.is)

pub turtle_back : (base : Option (List ℕ)) (bytes : List ℕ) (r : Records) → IsBase base → answer base bytes ≡ Read r → AreNarrow r.names → (q : Records) × (lines_answer (canonical_text r) ≡ Read q) × IsSame q r
turtle_back base bytes r b e w = orderly_back r (turtle_orderly base bytes r e) (good_names r.names (turtle_names base bytes r b e) w)
