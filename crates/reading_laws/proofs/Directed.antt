-- The environment behind tokens that are taken is the one that their directives set.
use Rattle.std.proofs.Common.{ℕ, List, [], ◌∷◌, ◌≡◌, ◌⊎◌, Bool, true, false, cond, refl, ap, ap₂, sym, ◌∙◌, inl, inr, true≢false}
use Rattle.std.proofs.lemmas.Bool.{false≢true, cond_both}
use Rattle.std.specs.Prelude.{Option, None, Some}
use Rattle.rdf_terms.specs.declared.terms.Code.TheVariants.{G2}
use Rattle.rdf_terms.specs.declared.terms.Literal.{Literal}
use Rattle.rdf_terms.specs.declared.terms.Term.{Term}
use Rattle.rdf_terms.specs.declared.terms.Term.TheVariants as term
use Rattle.turtle_grammar.specs.declared.terminals.NameForm.{NameForm}
use Rattle.turtle_grammar.specs.declared.terminals.NameForm.TheVariants as form
use Rattle.turtle_grammar.specs.declared.terminals.AtWord.TheVariants as word
use Rattle.turtle_grammar.specs.declared.terminals.Terminal.{Terminal}
use Rattle.turtle_grammar.specs.declared.terminals.Terminal.TheVariants as terminal
use Rattle.turtle_grammar.specs.declared.states.Frame.{Frame}
use Rattle.turtle_grammar.specs.declared.states.Frame.TheVariants.{SubjectSquare, SubjectRound, ObjectSquare, ObjectRound}
use Rattle.turtle_grammar.specs.declared.states.State.{State}
use Rattle.turtle_grammar.specs.declared.states.State.TheVariants as state
use Rattle.turtle_grammar.specs.declared.states.Step.{Step}
use Rattle.turtle_grammar.specs.declared.states.Step.TheVariants.{Stay, Push, Pop, Refused}
use Rattle.turtle_grammar.specs.Machine.{next}
use Rattle.turtle_grammar.specs.Tokens.{Value, Token, terminal_of}
use Rattle.turtle_grammar.specs.Tokens as grammar
use Rattle.turtle_documents.specs.declared.document.Open.{Open}
use Rattle.turtle_documents.specs.declared.document.Link.{Link}
use Rattle.turtle_documents.specs.declared.document.Link.TheVariants as link
use Rattle.rdf_vocabulary.specs.Iris.{rdf_type, rdf_lang_string, xsd_string}
use Rattle.turtle_environments.specs.Words.{bracket_at, ends_collection}
use Rattle.turtle_environments.specs.Blanks.{label_number, with_label}
use Rattle.turtle_environments.specs.Environments.{EnvironmentState, reference_iri}
use Rattle.turtle_environments.specs.Storing.{with_name, with_value, literal_term, iri_term}
use Rattle.turtle_documents.specs.Documents as spec
use Rattle.turtle_documents.specs.Documents.{DocumentState, lowercase, plain_literal, beginning, top_frame, is_name}
use Rattle.reading_laws.specs.Refusals.{read_on}
use Rattle.reading_laws.proofs.Steps.{settled_step, code_none}
use Rattle.reading_laws.proofs.Opens.{agrees, next_agrees}
use Rattle.reading_laws.proofs.Paths.{Taken}
use Rattle.reading_laws.specs.Directives.{Part, begun_by, part_behind, Standing, set_by, prefix_by, environment_behind, prefix_behind, behind, all_behind, code_by, name_fault}
use Rattle.reading_laws.specs.Directives as parts
use Rattle.reading_laws.proofs.Parts.{part_of, part_same, leads, next_leads}

record Keeps (d e : DocumentState) : Type 0 where
  environment : e.environment ≡ d.environment
  prefix : e.prefix ≡ d.prefix

on : (d e f : DocumentState) → Keeps d e → Keeps e f → Keeps d f
on d e f h k = record { environment = k.environment ∙ h.environment; prefix = k.prefix ∙ h.prefix }

linked_keeps : (d : DocumentState) (o : Term) (at : ℕ) → Keeps d (spec.linked d o at)
unfolding spec.linked
linked_keeps d o at = by d.link
  where
    by : (l : Link) → Keeps d (spec.linked_by l d o at)
    by link.Subject = record { environment = refl; prefix = refl }
    by (link.Object n) = record { environment = refl; prefix = refl }
    by link.Rest = record { environment = refl; prefix = refl }

begun_keeps : (d : DocumentState) (at : ℕ) → Keeps d (spec.begun d at)
unfolding spec.begun
begun_keeps d at =
    let one = linked_keeps (spec.with_node d) (term.Blank d.blanks.count) at in
    cond_both {A = DocumentState} (spec.in_collection d) _ d (Keeps d) (λ _. record { environment = one.environment; prefix = one.prefix }) (λ _. record { environment = refl; prefix = refl })

ended_keeps : (d : DocumentState) → Keeps d (spec.ended d)
unfolding spec.ended
ended_keeps d = cond_both {A = DocumentState} (spec.in_collection d) _ d (Keeps d) (λ _. record { environment = refl; prefix = refl }) (λ _. record { environment = refl; prefix = refl })

opened_keeps : (d : DocumentState) (f : Frame) (at : ℕ) → Keeps d (spec.opened d f at)
unfolding spec.opened
opened_keeps d SubjectSquare at = record { environment = refl; prefix = refl }
opened_keeps d ObjectSquare at = let one = begun_keeps d at in record { environment = one.environment; prefix = one.prefix }
opened_keeps d SubjectRound at = record { environment = refl; prefix = refl }
opened_keeps d ObjectRound at = let one = begun_keeps d at in record { environment = one.environment; prefix = one.prefix }

cells_keeps : (d : DocumentState) (at : ℕ) → Keeps d (spec.closed_cells d at)
unfolding spec.closed_cells
cells_keeps d at = let one = linked_keeps (record d { store = with_name d.store Rattle.rdf_vocabulary.specs.Iris.rdf_nil }) (iri_term d.store Rattle.rdf_vocabulary.specs.Iris.rdf_nil) at in record { environment = one.environment; prefix = one.prefix }

restored_keeps : (f : Frame) (o : Open) (d : DocumentState) → Keeps d (spec.restored f o d)
restored_keeps SubjectRound o d = record { environment = refl; prefix = refl }
restored_keeps SubjectSquare o d = record { environment = refl; prefix = refl }
restored_keeps ObjectSquare o d = record { environment = refl; prefix = refl }
restored_keeps ObjectRound o d = record { environment = refl; prefix = refl }

popped_keeps : (d : DocumentState) → Keeps d (spec.popped d)
unfolding spec.popped
popped_keeps d = by d.stack
  where
    by : (st : List Open) → Keeps d (spec.popped_by st d)
    by [] = record { environment = refl; prefix = refl }
    by (o ∷ st) =
        let e : DocumentState = record d { stack = st } in
        let a = restored_keeps o.frame o e in
        let b = ended_keeps (spec.restored o.frame o e) in
        record { environment = b.environment ∙ a.environment; prefix = b.prefix ∙ a.prefix }

closed_keeps : (d : DocumentState) (t : Token) → Keeps d (spec.closed d t)
closed_keeps d t = on d (cond (ends_collection t) (spec.closed_cells d (bracket_at t)) d) (spec.closed d t)
    (cond_both {A = DocumentState} (ends_collection t) _ d (Keeps d) (λ _. cells_keeps d (bracket_at t)) (λ _. record { environment = refl; prefix = refl }))
    (popped_keeps (cond (ends_collection t) (spec.closed_cells d (bracket_at t)) d))

literal_keeps : (d : DocumentState) (v : Literal) (at : ℕ) → Keeps d (spec.with_literal d v at)
unfolding spec.with_literal
literal_keeps d v at = let one = ended_keeps (spec.with_object (record d { store = with_value d.store v }) (literal_term d.store v) at) in record { environment = one.environment; prefix = one.prefix }

settled_keeps : (d : DocumentState) (t : Terminal) → Keeps d (spec.settled d t)
unfolding spec.settled
settled_keeps d t = cond_both {A = DocumentState} (spec.is_plain d.state t) _ d (Keeps d) (λ _. by d.string) (λ _. record { environment = refl; prefix = refl })
  where
    by : (o : Option (List ℕ)) → Keeps d (spec.plain_by o d)
    by None = record { environment = refl; prefix = refl }
    by (Some text) = let one = literal_keeps (record d { string = None }) (plain_literal text xsd_string) d.string_at in record { environment = one.environment; prefix = one.prefix }

tagged_keeps : (d : DocumentState) (tag : List ℕ) → Keeps d (spec.tagged d tag)
unfolding spec.tagged
tagged_keeps d tag = by d.string
  where
    by : (o : Option (List ℕ)) → Keeps d (spec.tagged_by o d tag)
    by None = record { environment = refl; prefix = refl }
    by (Some text) =
        let one = literal_keeps (record d { string = None; iri = lowercase tag }) (record { lexical = text; datatype = rdf_lang_string; tag = lowercase tag }) d.string_at in
        record { environment = one.environment; prefix = one.prefix }

typed_keeps : (d : DocumentState) → Keeps d (spec.typed d)
unfolding spec.typed
typed_keeps d = by d.string
  where
    by : (o : Option (List ℕ)) → Keeps d (spec.typed_by o d)
    by None = record { environment = refl; prefix = refl }
    by (Some text) = let one = literal_keeps (record d { string = None }) (plain_literal text d.iri) d.string_at in record { environment = one.environment; prefix = one.prefix }

object_named_keeps : (d : DocumentState) (at : ℕ) → Keeps d (spec.object_named d at)
unfolding spec.object_named
object_named_keeps d at = let one = ended_keeps (spec.with_object (record d { store = with_name d.store d.iri }) (iri_term d.store d.iri) at) in record { environment = one.environment; prefix = one.prefix }

named_keeps : (q : State) (d : DocumentState) (at : ℕ) → Keeps d (spec.named q d at)
unfolding spec.named
named_keeps state.Statement d at = record { environment = refl; prefix = refl }
named_keeps state.Verb d at = record { environment = refl; prefix = refl }
named_keeps state.VerbOrDot d at = record { environment = refl; prefix = refl }
named_keeps state.VerbOrClose d at = record { environment = refl; prefix = refl }
named_keeps state.VerbOrMore d at = record { environment = refl; prefix = refl }
named_keeps state.Datatype d at = typed_keeps d
named_keeps _ d at = on d (spec.begun d at) (spec.object_named (spec.begun d at) at) (begun_keeps d at) (object_named_keeps (spec.begun d at) at)

labelled_object_keeps : (d : DocumentState) (label : List ℕ) (at : ℕ) → Keeps d (spec.labelled_object d label at)
unfolding spec.labelled_object
labelled_object_keeps d label at =
    let one = ended_keeps (spec.with_object (record d { blanks = with_label d.blanks label }) (term.Blank (label_number d.blanks label)) at) in record { environment = one.environment; prefix = one.prefix }

labelled_keeps : (q : State) (d : DocumentState) (label : List ℕ) (at : ℕ) → Keeps d (spec.labelled q d label at)
unfolding spec.labelled
labelled_keeps state.Statement d label at = record { environment = refl; prefix = refl }
labelled_keeps _ d label at = on d (spec.begun d at) (spec.labelled_object (spec.begun d at) label at) (begun_keeps d at) (labelled_object_keeps (spec.begun d at) label at)

-- no name: nothing is set
stayed_keeps : (q : State) (d : DocumentState) (t : Token) → is_name t ≡ false → Keeps d (spec.stayed q d t)
unfolding spec.stayed
stayed_keeps q d (grammar.Token.Name f v) h = absurd (true≢false h)
stayed_keeps q d grammar.Token.A h = record { environment = refl; prefix = refl }
stayed_keeps q d (grammar.Token.Blank v) h = labelled_keeps q d v.text v.at
stayed_keeps q d (grammar.Token.Literal datatype v) h = on d (spec.begun d v.at) (spec.with_literal (spec.begun d v.at) (plain_literal v.text datatype) v.at) (begun_keeps d v.at) (literal_keeps (spec.begun d v.at) (plain_literal v.text datatype) v.at)
stayed_keeps q d (grammar.Token.Str v) h = let one = begun_keeps d v.at in record { environment = one.environment; prefix = one.prefix }
stayed_keeps q d (grammar.Token.At w v) h = tagged_keeps d v.text
stayed_keeps q d _ h = record { environment = refl; prefix = refl }

-- What was read stands where the directives say.
pub record Stands (d : DocumentState) (x : Standing) : Type 0 where
  pub part : part_of d.state ≡ x.part
  pub prefix : x.part ≡ parts.Part.AtIri → d.prefix ≡ Some x.prefix
  pub environment : d.environment ≡ x.environment

begun_not : (t : Token) → begun_by t ≡ parts.Part.AtIri → ⊥
begun_not (grammar.Token.At word.Prefix v) h = cc h
begun_not (grammar.Token.At word.Base v) h = cc h
begun_not (grammar.Token.At word.Other v) h = cc h
begun_not _ h = cc h

not_iri : (p : Part) (t : Token) → is_name t ≡ false → part_behind p t ≡ parts.Part.AtIri → ⊥
not_iri parts.Part.AtPrefix (grammar.Token.Name f v) n h = true≢false n
not_iri parts.Part.AtPrefix t n h = begun_not t h
not_iri parts.Part.AtTag (grammar.Token.At w v) n h = cc h
not_iri parts.Part.AtTag t n h = begun_not t h
not_iri parts.Part.Statement t n h = begun_not t h
not_iri parts.Part.AtIri t n h = begun_not t h
not_iri parts.Part.AtBase t n h = begun_not t h

no_name : (x : Standing) (t : Token) → is_name t ≡ false → environment_behind x t ≡ x.environment
no_name x (grammar.Token.Name f v) h = absurd (true≢false h)
no_name x _ h = refl

-- a name that stays
named_environment : (q : State) (d : DocumentState) (f : NameForm) (text : List ℕ) (cut at : ℕ) (prefix : List ℕ) → (part_of q ≡ parts.Part.AtIri → d.prefix ≡ Some prefix)
    → (spec.after_name q d f text cut at).environment ≡ set_by (part_of q) prefix d.environment text
unfolding spec.after_name spec.directed
named_environment state.AtPrefixName d f text cut at prefix h = refl
named_environment state.PrefixName d f text cut at prefix h = refl
named_environment state.AtPrefixIri d f text cut at prefix h = ap (λ o. (spec.defined_by o (spec.with_iri d (reference_iri d.environment text))).environment) (h refl)
named_environment state.PrefixIri d f text cut at prefix h = ap (λ o. (spec.defined_by o (spec.with_iri d (reference_iri d.environment text))).environment) (h refl)
named_environment state.AtBaseIri d f text cut at prefix h = refl
named_environment state.BaseIri d f text cut at prefix h = refl
named_environment state.AfterText d f text cut at prefix h = (named_keeps state.AfterText (spec.with_iri d (spec.name_iri d.environment f text cut)) at).environment
named_environment q d f text cut at prefix h = (named_keeps q (spec.with_iri d (spec.name_iri d.environment f text cut)) at).environment

named_prefix : (q : State) (d : DocumentState) (f : NameForm) (text : List ℕ) (cut at : ℕ) → part_of q ≡ parts.Part.AtPrefix → (spec.after_name q d f text cut at).prefix ≡ Some text
unfolding spec.after_name
named_prefix state.AtPrefixName d f text cut at h = refl
named_prefix state.PrefixName d f text cut at h = refl
named_prefix q d f text cut at h = absurd (cc h)

-- a string that is settled
tag_state : (q : State) (t : Terminal) → spec.is_plain q t ≡ true → part_of q ≡ parts.Part.AtTag
tag_state state.AfterText t h = refl
tag_state q t h = absurd (false≢true h)

abbrev SettledPart : DocumentState → DocumentState → Type 0
SettledPart d e = (part_of e.state ≡ part_of d.state) ⊎ ((part_of d.state ≡ parts.Part.AtTag) × (part_of e.state ≡ parts.Part.Statement))

settled_part : (d : DocumentState) (t : Terminal) → SettledPart d (spec.settled d t)
unfolding spec.settled
settled_part d t = cond_both {A = DocumentState} (spec.is_plain d.state t) _ d (SettledPart d) (λ h. by d.string h) (λ _. inl refl)
  where
    by : (o : Option (List ℕ)) → spec.is_plain d.state t ≡ true → SettledPart d (spec.plain_by o d)
    by None h = inl refl
    by (Some text) h = inr (tag_state d.state t h, refl)

push_not : (f : Frame) (r : State) (t : Token) → agrees (Push f r) (terminal_of t) ≡ true → is_name t ≡ false
push_not f r (grammar.Token.Name g v) h = absurd (false≢true h)
push_not f r _ h = refl

pop_not : (r : State) (t : Token) → agrees (Pop r) (terminal_of t) ≡ true → is_name t ≡ false
pop_not r (grammar.Token.Name g v) h = absurd (false≢true h)
pop_not r _ h = refl

statement_not : parts.Part.Statement ≡ parts.Part.AtIri → ⊥
statement_not h = cc h

tag_not : parts.Part.AtTag ≡ parts.Part.AtPrefix → ⊥
tag_not h = cc h

-- a name behind the part that it stands in
set_settled : (d e : DocumentState) (p : Part) (prefix : List ℕ) (v : EnvironmentState) (text : List ℕ) → part_of d.state ≡ p → SettledPart d e → set_by (part_of e.state) prefix v text ≡ set_by p prefix v text
set_settled d e p prefix v text h (inl k) = ap (λ x. set_by x prefix v text) (k ∙ h)
set_settled d e p prefix v text h (inr k) = ap (λ x. set_by x prefix v text) k.1 ∙ ap (λ x. set_by x prefix v text) (sym k.0 ∙ h)

prefix_settled : (d e : DocumentState) (p : Part) (prefix : List ℕ) → part_of d.state ≡ p → SettledPart d e → Keeps d e → (p ≡ parts.Part.AtIri → d.prefix ≡ Some prefix) → part_of e.state ≡ parts.Part.AtIri → e.prefix ≡ Some prefix
prefix_settled d e p prefix h (inl k) keeps f a = keeps.prefix ∙ f (sym h ∙ sym k ∙ a)
prefix_settled d e p prefix h (inr k) keeps f a = absurd (statement_not (sym k.1 ∙ a))

named_settled : (d e : DocumentState) (p : Part) (prefix : List ℕ) (f : NameForm) (v : Value) → part_of d.state ≡ p → SettledPart d e → part_behind p (grammar.Token.Name f v) ≡ parts.Part.AtIri
    → (spec.after_name e.state e f v.text v.cut v.at).prefix ≡ Some (prefix_by p prefix v.text)
named_settled d e parts.Part.AtPrefix prefix f v h (inl k) a = named_prefix e.state e f v.text v.cut v.at (k ∙ h)
named_settled d e parts.Part.AtPrefix prefix f v h (inr k) a = absurd (tag_not (sym k.0 ∙ h))
named_settled d e parts.Part.Statement prefix f v h k a = absurd (statement_not a)
named_settled d e parts.Part.AtIri prefix f v h k a = absurd (statement_not a)
named_settled d e parts.Part.AtBase prefix f v h k a = absurd (statement_not a)
named_settled d e parts.Part.AtTag prefix f v h k a = absurd (statement_not a)

part_step : (s : Step) (r : State) (d : DocumentState) (x : Standing) (t : Token) → s ≡ next d.state (top_frame d.stack) (terminal_of t) → (leads s (part_behind (part_of d.state) t) ≡ true → part_of r ≡ part_behind (part_of d.state) t)
    → Stands d x → part_of r ≡ part_behind x.part t
part_step s r d x t n go h = go (ap (λ s. leads s (part_behind (part_of d.state) t)) n ∙ next_leads d.state (top_frame d.stack) t) ∙ ap (λ p. part_behind p t) h.part

stay_step : (r : State) (d e : DocumentState) (x : Standing) (t : Token) → part_of r ≡ part_behind x.part t → SettledPart d e → Keeps d e → Stands d x → Stands (spec.at_state (spec.stayed e.state e t) r) (behind x t)
unfolding spec.stayed
stay_step r d e x (grammar.Token.Name f v) p s k h = record {
  part = p;
  prefix = named_settled d e x.part x.prefix f v h.part s;
  environment = named_environment e.state e f v.text v.cut v.at x.prefix (prefix_settled d e x.part x.prefix h.part s k h.prefix)
      ∙ ap (λ y. set_by (part_of e.state) x.prefix y v.text) (k.environment ∙ h.environment) ∙ set_settled d e x.part x.prefix x.environment v.text h.part s;
}
stay_step r d e x t p s k h =
    let one = stayed_keeps e.state e t refl in
    record { part = p; prefix = λ a. absurd (not_iri x.part t refl a); environment = one.environment ∙ k.environment ∙ h.environment ∙ sym (no_name x t refl) }

by_step : (s : Step) (d e : DocumentState) (x : Standing) (t : Token) → s ≡ next d.state (top_frame d.stack) (terminal_of t) → spec.step_code s e t ≡ None → SettledPart d e → Keeps d e → Stands d x
    → Stands (spec.stepped s e.state e t) (behind x t)
by_step Refused d e x t n c s k h = absurd (code_none G2 c)
by_step (Push f r) d e x t n c s k h =
    let nm = push_not f r t (ap (λ s. agrees s (terminal_of t)) n ∙ next_agrees d.state (top_frame d.stack) (terminal_of t)) in
    record {
      part = part_step (Push f r) r d x t n (part_same (part_of r) (part_behind (part_of d.state) t)) h;
      prefix = λ a. absurd (not_iri x.part t nm a);
      environment = (opened_keeps e f (bracket_at t)).environment ∙ k.environment ∙ h.environment ∙ sym (no_name x t nm);
    }
by_step (Pop r) d e x t n c s k h =
    let nm = pop_not r t (ap (λ s. agrees s (terminal_of t)) n ∙ next_agrees d.state (top_frame d.stack) (terminal_of t)) in
    record {
      part = part_step (Pop r) r d x t n (part_same (part_of r) (part_behind (part_of d.state) t)) h;
      prefix = λ a. absurd (not_iri x.part t nm a);
      environment = (closed_keeps e t).environment ∙ k.environment ∙ h.environment ∙ sym (no_name x t nm);
    }
by_step (Stay r) d e x t n c s k h = stay_step r d e x t (part_step (Stay r) r d x t n (part_same (part_of r) (part_behind (part_of d.state) t)) h) s k h

token_stands : (d : DocumentState) (x : Standing) (t : Token) → spec.token_code d t ≡ None → Stands d x → Stands (spec.after_token d t) (behind x t)
unfolding spec.code_from spec.state_from
token_stands d x t c h = let e = spec.settled d (terminal_of t) in
    by_step (spec.step_of e.state e t) d e x t (sym (settled_step d (terminal_of t))) c (settled_part d (terminal_of t)) (settled_keeps d (terminal_of t)) h

pub all_stand : (ts : List Token) (d : DocumentState) (x : Standing) → Taken d ts → Stands d x → Stands (read_on d ts) (all_behind x ts)
all_stand [] d x k h = h
all_stand (t ∷ ts) d x k h = all_stand ts (spec.after_token d t) (behind x t) k.1 (token_stands d x t k.0 h)

-- The code of a name where it stands.
abbrev pub is_refused : Step → Bool
is_refused Refused = true
is_refused _ = false

name_code_same : (q : State) (o : Option Frame) (e : EnvironmentState) (f : NameForm) (text : List ℕ) (cut : ℕ) → is_refused (next q o (terminal.Name f)) ≡ false
    → spec.code_of_name q e f text cut ≡ code_by (part_of q) (spec.name_code e f text cut)
unfolding spec.code_of_name
name_code_same state.AtPrefixName o e f text cut r = refl
name_code_same state.PrefixName o e f text cut r = refl
name_code_same state.AtPrefixIri o e form.Reference text cut r = refl
name_code_same state.AtPrefixIri o e form.Namespace text cut r = absurd (true≢false r)
name_code_same state.AtPrefixIri o e form.Local text cut r = absurd (true≢false r)
name_code_same state.PrefixIri o e form.Reference text cut r = refl
name_code_same state.PrefixIri o e form.Namespace text cut r = absurd (true≢false r)
name_code_same state.PrefixIri o e form.Local text cut r = absurd (true≢false r)
name_code_same state.AtBaseIri o e form.Reference text cut r = refl
name_code_same state.AtBaseIri o e form.Namespace text cut r = absurd (true≢false r)
name_code_same state.AtBaseIri o e form.Local text cut r = absurd (true≢false r)
name_code_same state.BaseIri o e form.Reference text cut r = refl
name_code_same state.BaseIri o e form.Namespace text cut r = absurd (true≢false r)
name_code_same state.BaseIri o e form.Local text cut r = absurd (true≢false r)
name_code_same q o e f text cut r = refl

pub code_same : (d : DocumentState) (x : Standing) (t : Token) → is_refused (next d.state (top_frame d.stack) (terminal_of t)) ≡ false → Stands d x → spec.stay_code d t ≡ name_fault x t
unfolding spec.stay_code
code_same d x (grammar.Token.Name f v) r h =
    name_code_same d.state (top_frame d.stack) d.environment f v.text v.cut r
    ∙ ap₂ (λ p e. code_by p (spec.name_code e f v.text v.cut)) h.part h.environment
code_same d x _ r h = refl
