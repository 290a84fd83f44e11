-- The machine over whole lists of tokens.
use Rattle.std.proofs.Common.{ℕ, List, [], ◌∷◌, ◌++◌, ◌≡◌, refl, ap, sym, ◌∙◌, inl, inr, subst}
use Rattle.std.specs.Prelude.{None, Some}
use Rattle.turtle_grammar.specs.declared.terminals.NameForm.TheVariants.{Reference, Namespace}
use Rattle.turtle_grammar.specs.declared.terminals.AtWord.TheVariants as word
use Rattle.turtle_grammar.specs.declared.states.Frame.{Frame}
use Rattle.turtle_grammar.specs.declared.states.Frame.TheVariants.{SubjectSquare, SubjectRound, ObjectSquare, ObjectRound}
use Rattle.turtle_grammar.specs.declared.states.State.{State}
use Rattle.turtle_grammar.specs.declared.states.State.TheVariants as state
use Rattle.turtle_grammar.specs.declared.states.Step.{Step}
use Rattle.turtle_grammar.specs.declared.states.Step.TheVariants.{Stay, Push, Pop, Refused}
use Rattle.turtle_grammar.specs.Tokens.{Value, Token, terminal_of}
use Rattle.turtle_grammar.specs.Tokens.Token.{Name, A, Blank, Literal, Str, At, Prefix, Base, Dot, Semicolon, Comma, OpenSquare, CloseSquare, OpenRound, CloseRound, Carets}
use Rattle.turtle_grammar.specs.Grammar.{Object, Objects, Pairs, Further, Document, object, items, commas, pairs, further, document}
use Rattle.turtle_grammar.specs.Grammar.Verb.{Iri}
use Rattle.turtle_grammar.specs.Grammar.Object.{Named, Labelled, Anonymous, Collection, Nested, Number, Plain, Tagged, Typed}
use Rattle.turtle_grammar.specs.Grammar.Objects.{NoObjects, MoreObjects}
use Rattle.turtle_grammar.specs.Grammar.Pairs.{Pair}
use Rattle.turtle_grammar.specs.Grammar.Further.{NoFurther, Bare, Full}
use Rattle.turtle_grammar.specs.Grammar.Document.{NoMore}
use Rattle.turtle_grammar.specs.Runs.{top}
use Rattle.turtle_grammar.specs.Machine.{next, statement_step, verb_step, object_step, after_step, more_step, text_step}
use Rattle.turtle_grammar.specs.Grammar.{Viable}
use Rattle.turtle_grammar.specs.Runs.{Config, advance, run, start}
use Rattle.turtle_grammar.proofs.Rests.{Predicates, After, Closes, Opened, Rest, By, forward}
use Rattle.turtle_grammar.proofs.Backs.{IsStack, Fits, backward}

abbrev pub Lang : Config → List Token → Type 0
Lang None r = ⊥
Lang (Some c) r = Rest c.0 c.1 r

abbrev pub Sound : Config → Type 0
Sound None = Unit {0}
Sound (Some c) = Fits c.0 c.1

by_lang : (s : Step) (st : List Frame) (r : List Token) → By s st r → Lang (advance s st) r
by_lang (Stay q) st r b = b
by_lang (Push f q) st r b = b
by_lang (Pop q) [] r b = b
by_lang (Pop q) (f ∷ st) r b = b
by_lang Refused st r b = b

lang_by : (s : Step) (st : List Frame) (r : List Token) → Lang (advance s st) r → By s st r
lang_by (Stay q) st r b = b
lang_by (Push f q) st r b = b
lang_by (Pop q) [] r b = b
lang_by (Pop q) (f ∷ st) r b = b
lang_by Refused st r b = b

object_sound : (t : Token) (st : List Frame) → IsStack st → Sound (advance (object_step (terminal_of t)) st)
object_sound (Name f v) st h = (h, tt)
object_sound (Blank v) st h = (h, tt)
object_sound (Literal d v) st h = (h, tt)
object_sound (Str v) st h = (h, tt)
object_sound (OpenSquare n) st h = (h, tt)
object_sound (OpenRound n) st h = (h, tt)
object_sound _ st h = tt

popped : (st : List Frame) → IsStack (SubjectSquare ∷ st) → st ≡ []
popped [] h = refl
popped (f ∷ st) h = absurd h

popped_round : (st : List Frame) → IsStack (SubjectRound ∷ st) → st ≡ []
popped_round [] h = refl
popped_round (f ∷ st) h = absurd h

after_sound : (t : Token) (st : List Frame) → IsStack st → Sound (advance (after_step (top st) (terminal_of t)) st)
after_sound Comma [] h = (h, tt)
after_sound Semicolon [] h = (h, tt)
after_sound Dot [] h = (h, tt)
after_sound _ [] h = tt
after_sound Comma (SubjectSquare ∷ st) h = (h, tt)
after_sound Semicolon (SubjectSquare ∷ st) h = (h, tt)
after_sound CloseSquare (SubjectSquare ∷ st) h = subst (Fits state.VerbOrDot) (sym (popped st h)) (tt, tt)
after_sound _ (SubjectSquare ∷ st) h = tt
after_sound Comma (ObjectSquare ∷ st) h = (h, tt)
after_sound Semicolon (ObjectSquare ∷ st) h = (h, tt)
after_sound CloseSquare (ObjectSquare ∷ st) h = (h, tt)
after_sound _ (ObjectSquare ∷ st) h = tt
after_sound (CloseRound n) (SubjectRound ∷ st) h = subst (Fits state.Verb) (sym (popped_round st h)) (tt, tt)
after_sound t (SubjectRound ∷ st) h = object_sound t (SubjectRound ∷ st) h
after_sound (CloseRound n) (ObjectRound ∷ st) h = (h, tt)
after_sound t (ObjectRound ∷ st) h = object_sound t (ObjectRound ∷ st) h

statement_sound : (t : Token) → Sound (advance (statement_step (terminal_of t)) [])
statement_sound (Name f v) = (tt, tt)
statement_sound (Blank v) = (tt, tt)
statement_sound (OpenSquare n) = (tt, tt)
statement_sound (OpenRound n) = (tt, tt)
statement_sound (At word.Prefix w) = (tt, tt)
statement_sound (At word.Base w) = (tt, tt)
statement_sound Prefix = (tt, tt)
statement_sound Base = (tt, tt)
statement_sound _ = tt

verb_sound : (t : Token) → Sound (advance (verb_step (terminal_of t)) [])
verb_sound (Name f v) = (tt, tt)
verb_sound A = (tt, tt)
verb_sound _ = tt

more_sound : (st : List Frame) (t : Token) → Fits state.VerbOrMore st → Sound (advance (more_step (top st) (terminal_of t)) st)
more_sound st (Name f v) h = h
more_sound st A h = h
more_sound st Comma h = tt
more_sound st t h = after_sound t st h.0

text_sound : (st : List Frame) (t : Token) → IsStack st → Sound (advance (text_step (top st) (terminal_of t)) st)
text_sound st (At w v) h = (h, tt)
text_sound st Carets h = (h, tt)
text_sound st t h = after_sound t st h

next_sound : (q : State) (st : List Frame) (t : Token) → Fits q st → Sound (advance (next q (top st) (terminal_of t)) st)
next_sound state.Statement [] t h = statement_sound t
next_sound state.Statement (f ∷ st) t h = absurd h.1
next_sound state.AtPrefixName st (Name Namespace v) h = h
next_sound state.AtPrefixName st _ h = tt
next_sound state.AtPrefixIri st (Name Reference v) h = h
next_sound state.AtPrefixIri st _ h = tt
next_sound state.AtBaseIri st (Name Reference v) h = h
next_sound state.AtBaseIri st _ h = tt
next_sound state.DirectiveDot st Dot h = h
next_sound state.DirectiveDot st _ h = tt
next_sound state.PrefixName st (Name Namespace v) h = h
next_sound state.PrefixName st _ h = tt
next_sound state.PrefixIri st (Name Reference v) h = h
next_sound state.PrefixIri st _ h = tt
next_sound state.BaseIri st (Name Reference v) h = h
next_sound state.BaseIri st _ h = tt
next_sound state.Verb [] t h = verb_sound t
next_sound state.Verb (f ∷ st) t h = absurd h.1
next_sound state.VerbOrDot [] Dot h = (tt, tt)
next_sound state.VerbOrDot [] (Name f v) h = (tt, tt)
next_sound state.VerbOrDot [] A h = (tt, tt)
next_sound state.VerbOrDot [] _ h = tt
next_sound state.VerbOrDot (f ∷ st) t h = absurd h.1
next_sound state.VerbOrClose [] t h = absurd h.1
next_sound state.VerbOrClose (SubjectSquare ∷ st) CloseSquare h = subst (Fits state.Verb) (sym (popped st h.0)) (tt, tt)
next_sound state.VerbOrClose (SubjectSquare ∷ st) (Name f v) h = (h.0, tt)
next_sound state.VerbOrClose (SubjectSquare ∷ st) A h = (h.0, tt)
next_sound state.VerbOrClose (SubjectSquare ∷ st) _ h = tt
next_sound state.VerbOrClose (ObjectSquare ∷ st) CloseSquare h = (h.0, tt)
next_sound state.VerbOrClose (ObjectSquare ∷ st) (Name f v) h = (h.0, tt)
next_sound state.VerbOrClose (ObjectSquare ∷ st) A h = (h.0, tt)
next_sound state.VerbOrClose (ObjectSquare ∷ st) _ h = tt
next_sound state.VerbOrClose (SubjectRound ∷ st) t h = absurd h.1
next_sound state.VerbOrClose (ObjectRound ∷ st) t h = absurd h.1
next_sound state.VerbOrMore st t h = more_sound st t h
next_sound state.Object st t h = object_sound t st h.0
next_sound state.AfterObject st t h = after_sound t st h.0
next_sound state.AfterText st t h = text_sound st t h.0
next_sound state.Datatype st (Name f v) h = (h.0, tt)
next_sound state.Datatype st _ h = tt

-- What was read, and then what may still come, is a document, and nothing else is.
pub run_to : (c : Config) (ts r : List Token) → Lang c (ts ++ r) → Lang (run c ts) r
run_to c [] r m = m
run_to None (t ∷ ts) r m = absurd m
run_to (Some c) (t ∷ ts) r m = run_to (advance (next c.0 (top c.1) (terminal_of t)) c.1) ts r (by_lang (next c.0 (top c.1) (terminal_of t)) c.1 (ts ++ r) (forward c.0 c.1 t (ts ++ r) m))

dead : (ts r : List Token) → Lang (run None ts) r → ⊥
dead [] r m = m
dead (t ∷ ts) r m = dead ts r m

pub run_from : (c : Config) (ts r : List Token) → Sound c → Lang (run c ts) r → Lang c (ts ++ r)
run_from c [] r s m = m
run_from None (t ∷ ts) r s m = absurd (dead ts r m)
run_from (Some c) (t ∷ ts) r s m = backward c.0 c.1 t (ts ++ r) s (lang_by (next c.0 (top c.1) (terminal_of t)) c.1 (ts ++ r)
    (run_from (advance (next c.0 (top c.1) (terminal_of t)) c.1) ts r (next_sound c.0 c.1 t s) m))

-- Each state that is reached has a way to the end.
some_value : Value
some_value = record { text = []; cut = 0; at = 0 }

some_iri : Token
some_iri = Name Reference some_value

after_done : (st : List Frame) → IsStack st → (r : List Token) × After st r
unfolding some_value some_iri
after_done [] h = (Dot ∷ [], (NoObjects, NoFurther, [], refl, (NoMore, refl)))
after_done (SubjectSquare ∷ []) h = (CloseSquare ∷ Dot ∷ [], (NoObjects, NoFurther, Dot ∷ [], refl, inl ([], refl, (NoMore, refl))))
after_done (SubjectSquare ∷ f ∷ st) h = absurd h
after_done (SubjectRound ∷ []) h = (CloseRound 0 ∷ some_iri ∷ some_iri ∷ Dot ∷ [], (NoObjects, 0, some_iri ∷ some_iri ∷ Dot ∷ [], refl, (Pair (Iri Reference some_value) (Named Reference some_value) NoObjects NoFurther, [], refl, (NoMore, refl))))
after_done (SubjectRound ∷ f ∷ st) h = absurd h
after_done (ObjectSquare ∷ st) h = let x = after_done st h in (CloseSquare ∷ x.0, (NoObjects, NoFurther, x.0, refl, x.1))
after_done (ObjectRound ∷ st) h = let x = after_done st h in (CloseRound 0 ∷ x.0, (NoObjects, 0, x.0, refl, x.1))

more_done : (st : List Frame) → Fits state.VerbOrMore st → (r : List Token) × Rest state.VerbOrMore st r
more_done [] h = (Dot ∷ [], inl (NoFurther, Dot ∷ [], refl, ([], refl, (NoMore, refl))))
more_done (SubjectSquare ∷ []) h = (CloseSquare ∷ Dot ∷ [], inl (NoFurther, CloseSquare ∷ Dot ∷ [], refl, (Dot ∷ [], refl, inl ([], refl, (NoMore, refl)))))
more_done (SubjectSquare ∷ f ∷ st) h = absurd h.0
more_done (ObjectSquare ∷ st) h = let x = after_done st h.0 in (CloseSquare ∷ x.0, inl (NoFurther, CloseSquare ∷ x.0, refl, (x.0, refl, x.1)))
more_done (SubjectRound ∷ st) h = absurd h.1
more_done (ObjectRound ∷ st) h = absurd h.1

predicates_done : (r : List Token) × Predicates [] r
unfolding some_value some_iri
predicates_done = (some_iri ∷ some_iri ∷ Dot ∷ [], (Pair (Iri Reference some_value) (Named Reference some_value) NoObjects NoFurther, [], refl, (NoMore, refl)))

done : (q : State) (st : List Frame) → Fits q st → (r : List Token) × Rest q st r
unfolding some_value some_iri
done state.Statement [] h = ([], (NoMore, refl))
done state.Statement (f ∷ st) h = absurd h.1
done state.AtPrefixName [] h = (Name Namespace some_value ∷ some_iri ∷ Dot ∷ [], (some_value, some_value, [], refl, (NoMore, refl)))
done state.AtPrefixName (f ∷ st) h = absurd h.1
done state.AtPrefixIri [] h = (some_iri ∷ Dot ∷ [], (some_value, [], refl, (NoMore, refl)))
done state.AtPrefixIri (f ∷ st) h = absurd h.1
done state.AtBaseIri [] h = (some_iri ∷ Dot ∷ [], (some_value, [], refl, (NoMore, refl)))
done state.AtBaseIri (f ∷ st) h = absurd h.1
done state.DirectiveDot [] h = (Dot ∷ [], ([], refl, (NoMore, refl)))
done state.DirectiveDot (f ∷ st) h = absurd h.1
done state.PrefixName [] h = (Name Namespace some_value ∷ some_iri ∷ [], (some_value, some_value, [], refl, (NoMore, refl)))
done state.PrefixName (f ∷ st) h = absurd h.1
done state.PrefixIri [] h = (some_iri ∷ [], (some_value, [], refl, (NoMore, refl)))
done state.PrefixIri (f ∷ st) h = absurd h.1
done state.BaseIri [] h = (some_iri ∷ [], (some_value, [], refl, (NoMore, refl)))
done state.BaseIri (f ∷ st) h = absurd h.1
done state.Verb [] h = predicates_done
done state.Verb (f ∷ st) h = absurd h.1
done state.VerbOrDot [] h = (Dot ∷ [], inl ([], refl, (NoMore, refl)))
done state.VerbOrDot (f ∷ st) h = absurd h.1
done state.VerbOrClose [] h = absurd h.1
done state.VerbOrClose (SubjectSquare ∷ []) h = let x = predicates_done in (CloseSquare ∷ x.0, inl (x.0, refl, x.1))
done state.VerbOrClose (SubjectSquare ∷ f ∷ st) h = absurd h.0
done state.VerbOrClose (ObjectSquare ∷ st) h = let x = after_done st h.0 in (CloseSquare ∷ x.0, inl (x.0, refl, x.1))
done state.VerbOrClose (SubjectRound ∷ st) h = absurd h.1
done state.VerbOrClose (ObjectRound ∷ st) h = absurd h.1
done state.VerbOrMore st h = more_done st h
done state.Object st h = let x = after_done st h.0 in (some_iri ∷ x.0, (Named Reference some_value, x.0, refl, x.1))
done state.AfterObject st h = after_done st h.0
done state.AfterText st h = let x = after_done st h.0 in (x.0, inl x.1)
done state.Datatype st h = let x = after_done st h.0 in (some_iri ∷ x.0, (Reference, some_value, x.0, refl, x.1))

run_sound : (c : Config) (ts : List Token) → Sound c → Sound (run c ts)
run_sound c [] s = s
run_sound None (t ∷ ts) s = run_sound None ts tt
run_sound (Some c) (t ∷ ts) s = run_sound (advance (next c.0 (top c.1) (terminal_of t)) c.1) ts (next_sound c.0 c.1 t s)

config_viable : (c : Config) → Sound c → (c ≡ None → ⊥) → (r : List Token) × Lang c r
config_viable None s h = absurd (h refl)
config_viable (Some c) s h = done c.0 c.1 s

-- The machine goes on exactly as long as what was read begins a document.
pub viable_from : (ts : List Token) → (run start ts ≡ None → ⊥) → Viable ts
viable_from ts h = let x = config_viable (run start ts) (run_sound start ts (tt, tt)) h in
    let y = run_from start ts x.0 (tt, tt) x.1 in (x.0, y.0, y.1)

pub viable_to : (ts : List Token) → run start ts ≡ None → Viable ts → ⊥
viable_to ts h v = subst (λ c. Lang c v.0) h (run_to start ts v.0 (v.1, v.2))

-- Only where a statement may begin nothing need follow.

object_some : (x : Object) (r : List Token) → [] ≡ object x r → ⊥
object_some (Named f v) r e = cc e
object_some (Labelled v) r e = cc e
object_some (Anonymous n) r e = cc e
object_some (Collection n xs m) r e = cc e
object_some (Nested n p) r e = cc e
object_some (Number d v) r e = cc e
object_some (Plain v) r e = cc e
object_some (Tagged v w t) r e = cc e
object_some (Typed v f t) r e = cc e

commas_some : (xs : Objects) (f : Further) (t : Token) (r : List Token) → [] ≡ commas xs (further f (t ∷ r)) → ⊥
commas_some NoObjects NoFurther t r e = cc e
commas_some NoObjects (Bare f) t r e = cc e
commas_some NoObjects (Full v x xs f) t r e = cc e
commas_some (MoreObjects x xs) f t r e = cc e

items_some : (xs : Objects) (n : ℕ) (r : List Token) → [] ≡ items xs (CloseRound n ∷ r) → ⊥
items_some NoObjects n r e = cc e
items_some (MoreObjects x xs) n r e = object_some x (items xs (CloseRound n ∷ r)) e

pairs_some : (p : Pairs) (r : List Token) → [] ≡ pairs p r → ⊥
pairs_some (Pair v x xs f) r e = cc e

after_some : (st : List Frame) → After st [] → ⊥
after_some [] a = commas_some a.0 a.1 Dot a.2 a.3
after_some (SubjectSquare ∷ st) a = commas_some a.0 a.1 CloseSquare a.2 a.3
after_some (ObjectSquare ∷ st) a = commas_some a.0 a.1 CloseSquare a.2 a.3
after_some (SubjectRound ∷ st) a = items_some a.0 a.1 a.2 a.3
after_some (ObjectRound ∷ st) a = items_some a.0 a.1 a.2 a.3

further_some : (st : List Frame) (f : Further) (c : List Token) → [] ≡ further f c → Closes st c → ⊥
further_some [] NoFurther c e k = cc (e, k.1)
further_some (SubjectSquare ∷ st) NoFurther c e k = cc (e, k.1)
further_some (ObjectSquare ∷ st) NoFurther c e k = cc (e, k.1)
further_some (SubjectRound ∷ st) NoFurther c e k = k
further_some (ObjectRound ∷ st) NoFurther c e k = k
further_some st (Bare f) c e k = cc e
further_some st (Full v x xs f) c e k = cc e

opened_some : (st : List Frame) → Opened st [] → ⊥
opened_some [] m = m
opened_some (SubjectSquare ∷ st) m = elim m [ inl a ↦ cc a.1 | inr a ↦ pairs_some a.0 (CloseSquare ∷ a.1) a.2 ]
opened_some (ObjectSquare ∷ st) m = elim m [ inl a ↦ cc a.1 | inr a ↦ pairs_some a.0 (CloseSquare ∷ a.1) a.2 ]
opened_some (SubjectRound ∷ st) m = m
opened_some (ObjectRound ∷ st) m = m

at_end : (q : State) (st : List Frame) → Rest q st [] → Some (q, st) ≡ start
at_end state.Statement [] m = refl
at_end state.Statement (f ∷ st) m = absurd m
at_end state.AtPrefixName st m = absurd (cc m.3)
at_end state.AtPrefixIri st m = absurd (cc m.2)
at_end state.AtBaseIri st m = absurd (cc m.2)
at_end state.DirectiveDot st m = absurd (cc m.1)
at_end state.PrefixName st m = absurd (cc m.3)
at_end state.PrefixIri st m = absurd (cc m.2)
at_end state.BaseIri st m = absurd (cc m.2)
at_end state.Verb st m = absurd (pairs_some m.0 (Dot ∷ m.1) m.2)
at_end state.VerbOrDot st m = elim m [ inl a ↦ absurd (cc a.1) | inr a ↦ absurd (pairs_some a.0 (Dot ∷ a.1) a.2) ]
at_end state.VerbOrClose st m = absurd (opened_some st m)
at_end state.VerbOrMore st m = elim m [ inl a ↦ absurd (further_some st a.0 a.1 a.2 a.3) | inr a ↦ absurd (cc a.5) ]
at_end state.Object st m = absurd (object_some m.0 m.1 m.2)
at_end state.AfterObject st m = absurd (after_some st m)
at_end state.AfterText st m = elim m [
  | inl a ↦ absurd (after_some st a)
  | inr b ↦ elim b [ inl a ↦ absurd (cc a.3) | inr a ↦ absurd (cc a.3) ]
]
at_end state.Datatype st m = absurd (cc m.3)

ended : (c : Config) → Lang c [] → c ≡ start
ended None m = absurd m
ended (Some c) m = at_end c.0 c.1 m

plus_nothing : (ts : List Token) → ts ++ [] ≡ ts
plus_nothing [] = refl
plus_nothing (t ∷ ts) = ap (λ z. t ∷ z) (plus_nothing ts)

-- The tokens that the machine reads to its start are the documents.
pub document_from : (ts : List Token) → run start ts ≡ start → (d : Document) × (ts ≡ document d)
document_from ts h = let x = run_from start ts [] (tt, tt) (subst (λ c. Lang c []) (sym h) (NoMore, refl)) in (x.0, sym (plus_nothing ts) ∙ x.1)

pub document_to : (ts : List Token) (d : Document) → ts ≡ document d → run start ts ≡ start
document_to ts d e = ended (run start ts) (run_to start ts [] (d, plus_nothing ts ∙ e))

refused_by : (c : Config) (ts : List Token) → run start ts ≡ c → (Viable ts → ⊥) → run start ts ≡ None
refused_by None ts e n = e
refused_by (Some c) ts e n = absurd (n (viable_from ts (λ h. some_none c (sym e ∙ h))))
  where
    some_none : (x : State × List Frame) → Some x ≡ None → ⊥
    some_none x h = cc h

pub refused_from : (ts : List Token) → (Viable ts → ⊥) → run start ts ≡ None
refused_from ts n = refused_by (run start ts) ts refl n
