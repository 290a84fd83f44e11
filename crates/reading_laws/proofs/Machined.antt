-- The names that are read of good tokens are IRIs and literals as they should be.
use Rattle.std.proofs.Common.{ℕ, List, [], ◌∷◌, ◌≡◌, ◌⊎◌, Bool, true, false, cond, take, drop, is_some, slice_get, bytes_eq, refl, ap, sym, ◌∙◌, subst, inl, inr}
use Rattle.std.proofs.lemmas.Bool.{cond_both, cond-true, cond-false}
use Rattle.std.specs.Prelude.{Option, None, Some, ⊤}
use Rattle.std.specs.Str.{IsUtf8}
use Rattle.iri_resolve.specs.Splitting.{has_scheme}
use Rattle.rdf_terms.specs.declared.terms.Code.{Code}
use Rattle.rdf_terms.specs.declared.terms.Code.TheVariants.{G4, G5, G6}
use Rattle.rdf_terms.specs.declared.terms.Literal.{Literal}
use Rattle.rdf_terms.specs.declared.terms.Term.{Term}
use Rattle.rdf_terms.specs.declared.terms.Term.TheVariants as term
use Rattle.rdf_terms.specs.declared.terms.Triple.{Triple}
use Rattle.rdf_terms.specs.Naming.{NameLists, same_literal}
use Rattle.rdf_reading.specs.Room.{is_full_iri, is_full_literal, has_room}
use Rattle.ntriples_laws.proofs.Good.{GoodTag, good_join}
use Rattle.turtle_grammar.specs.declared.terminals.NameForm.{NameForm}
use Rattle.turtle_grammar.specs.declared.terminals.NameForm.TheVariants as form
use Rattle.turtle_grammar.specs.declared.terminals.Terminal.{Terminal}
use Rattle.turtle_grammar.specs.declared.states.Frame.{Frame}
use Rattle.turtle_grammar.specs.declared.states.Frame.TheVariants.{SubjectSquare, SubjectRound, ObjectSquare, ObjectRound}
use Rattle.turtle_grammar.specs.declared.states.State.{State}
use Rattle.turtle_grammar.specs.declared.states.State.TheVariants as state
use Rattle.turtle_grammar.specs.declared.states.Step.{Step}
use Rattle.turtle_grammar.specs.declared.states.Step.TheVariants.{Stay, Push, Pop, Refused}
use Rattle.turtle_grammar.specs.Tokens.{Value, Token, terminal_of}
use Rattle.turtle_grammar.specs.Tokens as grammar
use Rattle.turtle_documents.specs.declared.document.Open.{Open}
use Rattle.turtle_documents.specs.declared.document.Link.{Link}
use Rattle.turtle_documents.specs.declared.document.Link.TheVariants as link
use Rattle.rdf_vocabulary.specs.Iris.{rdf_type, rdf_first, rdf_rest, rdf_nil, rdf_lang_string, xsd_string}
use Rattle.turtle_environments.specs.Blanks.{label_number, with_label}
use Rattle.turtle_environments.specs.Tables.{value_of}
use Rattle.turtle_environments.specs.Tables as tables
use Rattle.turtle_environments.specs.Environments.{EnvironmentState, has_excluded, base_code, reference_code, reference_iri, resolved_by, prefix_code, prefixed_code, joined_by, prefixed_iri, with_base}
use Rattle.turtle_environments.specs.Storing.{StoreState, with_name, with_value, literal_term, added}
use Rattle.turtle_documents.specs.Documents as spec
use Rattle.turtle_documents.specs.Documents.{DocumentState, lowercase, plain_literal, beginning}
use Rattle.turtle_reader.specs.Answers.{environment}
use Rattle.reading_laws.specs.Refusals.{read_on, read_from}
use Rattle.reading_laws.proofs.Paths.{Taken}
use Rattle.reading_laws.specs.Narrow.{IsIri, IsBase}
use Rattle.reading_laws.proofs.Iris.{resolved_iri, joined_iri, type_iri, first_iri, rest_iri, nil_iri}
use Rattle.reading_laws.proofs.Values.{IsPart, GoodToken, AllGood}

-- without a tag `xsd:string` or an IRI, with a tag `rdf:langString`
pub record IsLiteral (v : Literal) : Type 0 where
  pub lexical : IsUtf8 v.lexical
  pub ending : ((v.tag ≡ []) × ((v.datatype ≡ xsd_string) ⊎ IsIri v.datatype)) ⊎ (GoodTag v.tag × (v.datatype ≡ rdf_lang_string))

pub record AreNames (names : NameLists) : Type 0 where
  pub iris : (n : ℕ) (text : List ℕ) → slice_get names.iris n ≡ Some text → IsIri text
  pub literals : (n : ℕ) (v : Literal) → slice_get names.literals n ≡ Some v → IsLiteral v

abbrev AreIris : List (List ℕ × List ℕ) → Type 0
AreIris [] = Unit {0}
AreIris (e ∷ es) = IsIri e.1 × AreIris es

abbrev IsText : Option (List ℕ) → Type 0
IsText None = ⊤
IsText (Some text) = IsUtf8 text

record Sound (d : DocumentState) : Type 0 where
  names : AreNames d.store.names
  base : IsBase d.environment.base
  prefixes : AreIris d.environment.prefixes
  string : IsText d.string

-- a change of what is not looked at
same : (d e : DocumentState) → e.store.names ≡ d.store.names → e.environment ≡ d.environment → e.string ≡ d.string → Sound d → Sound e
same d e n v s h = record {
  names = subst AreNames (sym n) h.names;
  base = subst (λ x. IsBase x.base) (sym v) h.base;
  prefixes = subst (λ x. AreIris x.prefixes) (sym v) h.prefixes;
  string = subst IsText (sym s) h.string;
}

name_names : (s : StoreState) (text : List ℕ) → AreNames s.names → IsIri text → AreNames (with_name s text).names
name_names s text h i = cond_both {A = StoreState} s.full s _ (λ x. AreNames x.names) (λ _. h) (λ _. cond_both {A = StoreState} (is_full_iri s.names text) _ _ (λ x. AreNames x.names) (λ _. h)
    (λ _. record { iris = good_join IsIri (bytes_eq text) s.names.iris text h.iris i; literals = h.literals }))

value_names : (s : StoreState) (v : Literal) → AreNames s.names → IsLiteral v → AreNames (with_value s v).names
value_names s v h i = cond_both {A = StoreState} s.full s _ (λ x. AreNames x.names) (λ _. h) (λ _. cond_both {A = StoreState} (is_full_literal s.names v) _ _ (λ x. AreNames x.names) (λ _. h)
    (λ _. record { iris = h.iris; literals = good_join IsLiteral (same_literal v) s.names.literals v h.literals i }))

added_names : (s : StoreState) (t : Triple) → (added s t).names ≡ s.names
added_names s t = cond_both {A = StoreState} (is_some s.limit) s _ (λ x. x.names ≡ s.names) (λ _. refl) (λ _. cond_both {A = StoreState} s.full _ _ (λ x. x.names ≡ s.names) (λ _. refl)
    (λ _. cond_both {A = StoreState} (has_room s.triples t) _ _ (λ x. x.names ≡ s.names) (λ _. refl) (λ _. refl)))

named_sound : (d : DocumentState) (text : List ℕ) → IsIri text → Sound d → Sound (record d { store = with_name d.store text })
named_sound d text i h = record { names = name_names d.store text h.names i; base = h.base; prefixes = h.prefixes; string = h.string }

object_sound : (d : DocumentState) (o : Term) (at : ℕ) → Sound d → Sound (spec.with_object d o at)
object_sound d o at h = same d (spec.with_object d o at) (added_names d.store (record { s = d.subject; p = d.predicate; o = o; at = at })) refl refl h

plain : (d e : DocumentState) → e.store ≡ d.store → e.environment ≡ d.environment → e.string ≡ d.string → Sound d → Sound e
plain d e n v s h = same d e (ap (λ x. x.names) n) v s h

predicate_sound : (d : DocumentState) (iri : List ℕ) → IsIri iri → Sound d → Sound (spec.with_predicate d iri)
predicate_sound d iri i h = plain (record d { store = with_name d.store iri }) (spec.with_predicate d iri) refl refl refl (named_sound d iri i h)

linked_sound : (d : DocumentState) (o : Term) (at : ℕ) → Sound d → Sound (spec.linked d o at)
unfolding spec.linked
linked_sound d o at h = by d.link
  where
    by : (l : Link) → Sound (spec.linked_by l d o at)
    by link.Subject = plain d (record d { head = o }) refl refl refl h
    by (link.Object n) = object_sound d o n h
    by link.Rest = object_sound d o at h

begun_sound : (d : DocumentState) (at : ℕ) → Sound d → Sound (spec.begun d at)
unfolding spec.begun
begun_sound d at h =
    let e : DocumentState = spec.linked (spec.with_node d) (term.Blank d.blanks.count) at in
    let one = linked_sound (spec.with_node d) (term.Blank d.blanks.count) at (plain d (spec.with_node d) refl refl refl h) in
    cond_both {A = DocumentState} (spec.in_collection d) _ d Sound
    (λ _. predicate_sound (spec.with_subject e (term.Blank d.blanks.count)) rdf_first first_iri (plain e (spec.with_subject e (term.Blank d.blanks.count)) refl refl refl one)) (λ _. h)

ended_sound : (d : DocumentState) → Sound d → Sound (spec.ended d)
unfolding spec.ended
ended_sound d h = cond_both {A = DocumentState} (spec.in_collection d) _ d Sound (λ _. predicate_sound (record d { link = link.Rest }) rdf_rest rest_iri (plain d (record d { link = link.Rest }) refl refl refl h)) (λ _. h)

node_opened_sound : (d : DocumentState) (f : Frame) (n : Term) → Sound d → Sound (spec.node_opened d f n)
node_opened_sound d f n h = plain d (spec.node_opened d f n) refl refl refl h

object_opened_sound : (d : DocumentState) (at : ℕ) → Sound d → Sound (spec.object_opened d at)
object_opened_sound d at h =
    let e : DocumentState = spec.with_object (spec.with_node d) (term.Blank d.blanks.count) at in
    node_opened_sound e ObjectSquare (term.Blank d.blanks.count) (object_sound (spec.with_node d) (term.Blank d.blanks.count) at (plain d (spec.with_node d) refl refl refl h))

opened_sound : (d : DocumentState) (f : Frame) (at : ℕ) → Sound d → Sound (spec.opened d f at)
unfolding spec.opened
opened_sound d SubjectSquare at h = plain d (spec.node_opened (spec.with_subject (spec.with_node d) (term.Blank d.blanks.count)) SubjectSquare (term.Blank d.blanks.count)) refl refl refl h
opened_sound d ObjectSquare at h = object_opened_sound (spec.begun d at) at (begun_sound d at h)
opened_sound d SubjectRound at h = plain d (record (spec.pushed d SubjectRound) { link = link.Subject }) refl refl refl h
opened_sound d ObjectRound at h = plain (spec.begun d at) (record (spec.pushed (spec.begun d at) ObjectRound) { link = link.Object at }) refl refl refl (begun_sound d at h)

cells_sound : (d : DocumentState) (at : ℕ) → Sound d → Sound (spec.closed_cells d at)
unfolding spec.closed_cells
cells_sound d at h = linked_sound (record d { store = with_name d.store rdf_nil }) _ at (named_sound d rdf_nil nil_iri h)

restored_sound : (f : Frame) (o : Open) (d : DocumentState) → Sound d → Sound (spec.restored f o d)
restored_sound SubjectRound o d h = plain d (spec.restored SubjectRound o d) refl refl refl h
restored_sound SubjectSquare o d h = plain d (spec.restored SubjectSquare o d) refl refl refl h
restored_sound ObjectSquare o d h = plain d (spec.restored ObjectSquare o d) refl refl refl h
restored_sound ObjectRound o d h = plain d (spec.restored ObjectRound o d) refl refl refl h

popped_sound : (d : DocumentState) → Sound d → Sound (spec.popped d)
unfolding spec.popped
popped_sound d h = by d.stack
  where
    by : (st : List Open) → Sound (spec.popped_by st d)
    by [] = h
    by (o ∷ st) = ended_sound (spec.restored o.frame o (record d { stack = st })) (restored_sound o.frame o (record d { stack = st }) (plain d (record d { stack = st }) refl refl refl h))

closed_sound : (d : DocumentState) (t : Token) → Sound d → Sound (spec.closed d t)
closed_sound d t h = popped_sound (cond (Rattle.turtle_environments.specs.Words.ends_collection t) (spec.closed_cells d (Rattle.turtle_environments.specs.Words.bracket_at t)) d)
    (cond_both {A = DocumentState} (Rattle.turtle_environments.specs.Words.ends_collection t) _ d Sound (λ _. cells_sound d (Rattle.turtle_environments.specs.Words.bracket_at t) h) (λ _. h))

literal_sound : (d : DocumentState) (v : Literal) (at : ℕ) → IsLiteral v → Sound d → Sound (spec.with_literal d v at)
unfolding spec.with_literal
literal_sound d v at i h =
    let e : DocumentState = record d { store = with_value d.store v } in
    ended_sound (spec.with_object e (literal_term d.store v) at) (object_sound e (literal_term d.store v) at
    (record { names = value_names d.store v h.names i; base = h.base; prefixes = h.prefixes; string = h.string }))

string_literal : (text : List ℕ) → IsUtf8 text → IsLiteral (plain_literal text xsd_string)
string_literal text u = record { lexical = u; ending = inl (refl, inl refl) }

typed_literal : (text datatype : List ℕ) → IsUtf8 text → IsIri datatype → IsLiteral (plain_literal text datatype)
typed_literal text datatype u i = record { lexical = u; ending = inl (refl, inr i) }

no_string : (d : DocumentState) → Sound d → Sound (record d { string = None })
no_string d h = record { names = h.names; base = h.base; prefixes = h.prefixes; string = tt }

settled_sound : (d : DocumentState) (t : Terminal) → Sound d → Sound (spec.settled d t)
unfolding spec.settled
settled_sound d t h = cond_both {A = DocumentState} (spec.is_plain d.state t) _ d Sound (λ _. by d.string refl) (λ _. h)
  where
    by : (o : Option (List ℕ)) → d.string ≡ o → Sound (spec.plain_by o d)
    by None e = h
    by (Some text) e =
        let x : DocumentState = spec.with_literal (record d { string = None }) (plain_literal text xsd_string) d.string_at in
        plain x (spec.at_state x state.AfterObject) refl refl refl (literal_sound (record d { string = None }) (plain_literal text xsd_string) d.string_at (string_literal text (subst IsText e h.string)) (no_string d h))

tagged_sound : (d : DocumentState) (tag : List ℕ) → GoodTag (lowercase tag) → Sound d → Sound (spec.tagged d tag)
unfolding spec.tagged
tagged_sound d tag g h = by d.string refl
  where
    by : (o : Option (List ℕ)) → d.string ≡ o → Sound (spec.tagged_by o d tag)
    by None e = h
    by (Some text) e =
        let x : DocumentState = record d { string = None; iri = lowercase tag } in
        literal_sound x (record { lexical = text; datatype = rdf_lang_string; tag = lowercase tag }) d.string_at (record { lexical = subst IsText e h.string; ending = inr (g, refl) })
        (plain (record d { string = None }) x refl refl refl (no_string d h))

typed_sound : (d : DocumentState) → IsIri d.iri → Sound d → Sound (spec.typed d)
unfolding spec.typed
typed_sound d i h = by d.string refl
  where
    by : (o : Option (List ℕ)) → d.string ≡ o → Sound (spec.typed_by o d)
    by None e = h
    by (Some text) e = literal_sound (record d { string = None }) (plain_literal text d.iri) d.string_at (typed_literal text d.iri (subst IsText e h.string) i) (no_string d h)

-- the environment
prefixes_with : (es : List (List ℕ × List ℕ)) (prefix iri : List ℕ) → AreIris es → IsIri iri → AreIris (tables.with_value es prefix iri)
prefixes_with [] prefix iri h i = (i, tt)
prefixes_with (e ∷ es) prefix iri h i = cond_both (bytes_eq prefix e.0) _ _ AreIris (λ _. (i, h.1)) (λ _. (h.0, prefixes_with es prefix iri h.1 i))

prefix_iri : (es : List (List ℕ × List ℕ)) (prefix iri : List ℕ) → AreIris es → value_of es prefix ≡ Some iri → IsIri iri
prefix_iri [] prefix iri h e = absurd (cc e)
prefix_iri (x ∷ es) prefix iri h e = by (bytes_eq prefix x.0) e (prefix_iri es prefix iri h.1)
  where
    by : (b : Bool) → cond b (Some x.1) (value_of es prefix) ≡ Some iri → (value_of es prefix ≡ Some iri → IsIri iri) → IsIri iri
    by true f go = let g : x.1 ≡ iri = cc f in subst IsIri g h.0
    by false f go = go f

base_sound : (d : DocumentState) → IsIri d.iri → Sound d → Sound (record d { environment = with_base d.environment d.iri })
base_sound d i h = record { names = h.names; base = i; prefixes = h.prefixes; string = h.string }

defined_sound : (o : Option (List ℕ)) (d : DocumentState) → IsIri d.iri → Sound d → Sound (spec.defined_by o d)
defined_sound None d i h = h
defined_sound (Some prefix) d i h = record { names = h.names; base = h.base; prefixes = prefixes_with d.environment.prefixes prefix d.iri h.prefixes i; string = h.string }

directed_sound : (q : State) (d : DocumentState) → IsIri d.iri → Sound d → Sound (spec.directed q d)
unfolding spec.directed
directed_sound state.AtBaseIri d i h = base_sound d i h
directed_sound state.BaseIri d i h = base_sound d i h
directed_sound _ d i h = defined_sound d.prefix d i h

object_named_sound : (d : DocumentState) (at : ℕ) → IsIri d.iri → Sound d → Sound (spec.object_named d at)
unfolding spec.object_named
object_named_sound d at i h =
    let e : DocumentState = record d { store = with_name d.store d.iri } in
    ended_sound (spec.with_object e _ at) (object_sound e _ at (named_sound d d.iri i h))

begun_iri : (d : DocumentState) (at : ℕ) → (spec.begun d at).iri ≡ d.iri
unfolding spec.begun spec.linked
begun_iri d at = cond_both {A = DocumentState} (spec.in_collection d) _ d (λ x. x.iri ≡ d.iri) (λ _. by d.link) (λ _. refl)
  where
    by : (l : Link) → (spec.linked_by l (spec.with_node d) (term.Blank d.blanks.count) at).iri ≡ d.iri
    by link.Subject = refl
    by (link.Object n) = refl
    by link.Rest = refl

name_sound : (q : State) (d : DocumentState) (at : ℕ) → IsIri d.iri → Sound d → Sound (spec.named q d at)
unfolding spec.named
name_sound state.Statement d at i h = plain (record d { store = with_name d.store d.iri }) (spec.named state.Statement d at) refl refl refl (named_sound d d.iri i h)
name_sound state.Verb d at i h = predicate_sound d d.iri i h
name_sound state.VerbOrDot d at i h = predicate_sound d d.iri i h
name_sound state.VerbOrClose d at i h = predicate_sound d d.iri i h
name_sound state.VerbOrMore d at i h = predicate_sound d d.iri i h
name_sound state.Datatype d at i h = typed_sound d i h
name_sound _ d at i h = object_named_sound (spec.begun d at) at (subst IsIri (sym (begun_iri d at)) i) (begun_sound d at h)

-- a name that is not refused is an IRI
some_not : (c : Code) → ◌≡◌ {A = Option Code} (Some c) None → ⊥
some_not c e = cc e

reference_parts : (x y : Bool) (z : Option Code) → cond x (Some G6) (cond y None z) ≡ None → (x ≡ false) × ((y ≡ true) ⊎ ((y ≡ false) × (z ≡ None)))
reference_parts true y z e = absurd (some_not G6 e)
reference_parts false true z e = (refl, inl refl)
reference_parts false false z e = (refl, inr (refl, e))

reference_is : (e : EnvironmentState) (text : List ℕ) → IsBase e.base → IsUtf8 text → reference_code e text ≡ None → IsIri (reference_iri e text)
reference_is e text b u c =
    let r = reference_parts (has_excluded text) (has_scheme text) (base_code e.base) c in
    elim r.1 [
      | inl s ↦ subst IsIri (sym (cond-true (has_scheme text) text (resolved_by e.base text) s)) (record { utf8 = u; scheme = s; allowed = r.0 })
      | inr s ↦ subst IsIri (sym (cond-false (has_scheme text) text (resolved_by e.base text) s.0)) (by e.base b s.1 r.0)
    ]
  where
    by : (o : Option (List ℕ)) → IsBase o → base_code o ≡ None → has_excluded text ≡ false → IsIri (resolved_by o text)
    by None b f x = absurd (some_not G5 f)
    by (Some base) b f x = resolved_iri base text b u x

prefixed_is : (e : EnvironmentState) (text : List ℕ) (cut : ℕ) → AreIris e.prefixes → IsPart (drop cut text) → prefixed_code e text cut ≡ None → IsIri (prefixed_iri e text cut)
prefixed_is e text cut h p c = by (value_of e.prefixes (take cut text)) refl c
  where
    by : (o : Option (List ℕ)) → value_of e.prefixes (take cut text) ≡ o → prefix_code o ≡ None → IsIri (joined_by o (drop cut text))
    by None f g = absurd (some_not G4 g)
    by (Some iri) f g = joined_iri iri (drop cut text) (prefix_iri e.prefixes (take cut text) iri h f) p.utf8 p.allowed

abbrev GoodName : NameForm → List ℕ → ℕ → Type 0
GoodName form.Reference text cut = IsUtf8 text
GoodName form.Namespace text cut = IsUtf8 text × IsPart (drop cut text)
GoodName form.Local text cut = IsUtf8 text × IsPart (drop cut text)

name_utf8 : (f : NameForm) (text : List ℕ) (cut : ℕ) → GoodName f text cut → IsUtf8 text
name_utf8 form.Reference text cut g = g
name_utf8 form.Namespace text cut g = g.0
name_utf8 form.Local text cut g = g.0

name_is : (e : EnvironmentState) (f : NameForm) (text : List ℕ) (cut : ℕ) → IsBase e.base → AreIris e.prefixes → GoodName f text cut → spec.name_code e f text cut ≡ None → IsIri (spec.name_iri e f text cut)
name_is e form.Reference text cut b p g c = reference_is e text b g c
name_is e form.Namespace text cut b p g c = prefixed_is e text cut p g.1 c
name_is e form.Local text cut b p g c = prefixed_is e text cut p g.1 c

with_iri_sound : (d : DocumentState) (iri : List ℕ) → Sound d → Sound (spec.with_iri d iri)
with_iri_sound d iri h = plain d (spec.with_iri d iri) refl refl refl h

prefix_sound : (d : DocumentState) (text : List ℕ) → Sound d → Sound (record d { prefix = Some text })
prefix_sound d text h = plain d (record d { prefix = Some text }) refl refl refl h

after_name_sound : (q : State) (d : DocumentState) (f : NameForm) (text : List ℕ) (cut at : ℕ) → GoodName f text cut → spec.code_of_name q d.environment f text cut ≡ None → Sound d → Sound (spec.after_name q d f text cut at)
unfolding spec.after_name spec.code_of_name
after_name_sound state.AtPrefixName d f text cut at g c h = prefix_sound d text h
after_name_sound state.PrefixName d f text cut at g c h = prefix_sound d text h
after_name_sound state.AtPrefixIri d f text cut at g c h = let i = reference_iri d.environment text in directed_sound state.AtPrefixIri (spec.with_iri d i) (reference_is d.environment text h.base (name_utf8 f text cut g) c) (with_iri_sound d i h)
after_name_sound state.PrefixIri d f text cut at g c h = let i = reference_iri d.environment text in directed_sound state.PrefixIri (spec.with_iri d i) (reference_is d.environment text h.base (name_utf8 f text cut g) c) (with_iri_sound d i h)
after_name_sound state.AtBaseIri d f text cut at g c h = let i = reference_iri d.environment text in directed_sound state.AtBaseIri (spec.with_iri d i) (reference_is d.environment text h.base (name_utf8 f text cut g) c) (with_iri_sound d i h)
after_name_sound state.BaseIri d f text cut at g c h = let i = reference_iri d.environment text in directed_sound state.BaseIri (spec.with_iri d i) (reference_is d.environment text h.base (name_utf8 f text cut g) c) (with_iri_sound d i h)
after_name_sound q d f text cut at g c h = let i = spec.name_iri d.environment f text cut in name_sound q (spec.with_iri d i) at (name_is d.environment f text cut h.base h.prefixes g c) (with_iri_sound d i h)

labelled_object_sound : (d : DocumentState) (label : List ℕ) (at : ℕ) → Sound d → Sound (spec.labelled_object d label at)
unfolding spec.labelled_object
labelled_object_sound d label at h =
    let x : DocumentState = record d { blanks = with_label d.blanks label } in
    let o : Term = term.Blank (label_number d.blanks label) in
    ended_sound (spec.with_object x o at) (object_sound x o at (plain d x refl refl refl h))

labelled_sound : (q : State) (d : DocumentState) (label : List ℕ) (at : ℕ) → Sound d → Sound (spec.labelled q d label at)
unfolding spec.labelled
labelled_sound state.Statement d label at h = plain d (spec.labelled state.Statement d label at) refl refl refl h
labelled_sound _ d label at h = labelled_object_sound (spec.begun d at) label at (begun_sound d at h)

stayed_sound : (q : State) (d : DocumentState) (t : Token) → GoodToken t → q ≡ d.state → spec.stay_code d t ≡ None → Sound d → Sound (spec.stayed q d t)
unfolding spec.stayed spec.stay_code
stayed_sound q d (grammar.Token.Name f v) g e c h = after_name_sound q d f v.text v.cut v.at (by f g) (ap (λ x. spec.code_of_name x d.environment f v.text v.cut) e ∙ c) h
  where
    by : (f : NameForm) → GoodToken (grammar.Token.Name f v) → GoodName f v.text v.cut
    by form.Reference g = g
    by form.Namespace g = g
    by form.Local g = g
stayed_sound q d grammar.Token.A g e c h = predicate_sound d rdf_type type_iri h
stayed_sound q d (grammar.Token.Blank v) g e c h = labelled_sound q d v.text v.at h
stayed_sound q d (grammar.Token.Literal datatype v) g e c h = literal_sound (spec.begun d v.at) (plain_literal v.text datatype) v.at (typed_literal v.text datatype g.1 g.0) (begun_sound d v.at h)
stayed_sound q d (grammar.Token.Str v) g e c h = let k = begun_sound d v.at h in record { names = k.names; base = k.base; prefixes = k.prefixes; string = g }
stayed_sound q d (grammar.Token.At w v) g e c h = tagged_sound d v.text g h
stayed_sound q d _ g e c h = h

at_sound : (d : DocumentState) (q : State) → Sound d → Sound (spec.at_state d q)
at_sound d q h = plain d (spec.at_state d q) refl refl refl h

stepped_sound : (s : Step) (d : DocumentState) (t : Token) → GoodToken t → spec.step_code s d t ≡ None → Sound d → Sound (spec.stepped s d.state d t)
stepped_sound Refused d t g c h = h
stepped_sound (Push f r) d t g c h = at_sound (spec.opened d f (Rattle.turtle_environments.specs.Words.bracket_at t)) r (opened_sound d f (Rattle.turtle_environments.specs.Words.bracket_at t) h)
stepped_sound (Pop r) d t g c h = at_sound (spec.closed d t) r (closed_sound d t h)
stepped_sound (Stay r) d t g c h = at_sound (spec.stayed d.state d t) r (stayed_sound d.state d t g refl c h)

token_sound : (d : DocumentState) (t : Token) → GoodToken t → spec.token_code d t ≡ None → Sound d → Sound (spec.after_token d t)
unfolding spec.code_from spec.state_from
token_sound d t g c h = let e = spec.settled d (terminal_of t) in stepped_sound (spec.step_of e.state e t) e t g c (settled_sound d (terminal_of t) h)

tokens_sound : (ts : List Token) (d : DocumentState) → AllGood ts → Taken d ts → Sound d → Sound (read_on d ts)
tokens_sound [] d g k h = h
tokens_sound (t ∷ ts) d g k h = tokens_sound ts (spec.after_token d t) g.1 k.1 (token_sound d t g.0 k.0 h)

-- The names that are read of good tokens that are taken.
pub read_names : (base : Option (List ℕ)) (ts : List Token) → IsBase base → AllGood ts → Taken (beginning (environment base)) ts → AreNames (read_from base ts).store.names
read_names base ts b g k = (tokens_sound ts (beginning (environment base)) g k
    (record { names = record { iris = λ n text h. absurd (cc h); literals = λ n v h. absurd (cc h) }; base = b; prefixes = tt; string = tt })).names
