-- The other way: what may follow the next state may follow the token.
use Rattle.std.proofs.Common.{List, [], ◌∷◌, ◌≡◌, refl, ap, ◌∙◌, inl, inr}
use Rattle.turtle_grammar.specs.declared.terminals.NameForm.TheVariants.{Reference, Namespace}
use Rattle.turtle_grammar.specs.declared.terminals.AtWord.TheVariants as word
use Rattle.turtle_grammar.specs.declared.states.Frame.{Frame}
use Rattle.turtle_grammar.specs.declared.states.Frame.TheVariants.{SubjectSquare, SubjectRound, ObjectSquare, ObjectRound}
use Rattle.turtle_grammar.specs.declared.states.State.{State}
use Rattle.turtle_grammar.specs.declared.states.State.TheVariants as state
use Rattle.turtle_grammar.specs.Tokens.{Token, terminal_of}
use Rattle.turtle_grammar.specs.Tokens.Token.{Name, A, Blank, Literal, Str, At, Prefix, Base, Dot, Semicolon, Comma, OpenSquare, CloseSquare, OpenRound, CloseRound, Carets}
use Rattle.turtle_grammar.specs.Grammar.{Verb, Pairs, Further, verb, object, items, pairs, further}
use Rattle.turtle_grammar.specs.Grammar.Verb.{Iri, IsA}
use Rattle.turtle_grammar.specs.Grammar.Object.{Named, Labelled, Anonymous, Collection, Nested, Number, Plain, Tagged, Typed}
use Rattle.turtle_grammar.specs.Grammar.Objects.{NoObjects, MoreObjects}
use Rattle.turtle_grammar.specs.Grammar.Pairs.{Pair}
use Rattle.turtle_grammar.specs.Grammar.Further.{NoFurther, Bare, Full}
use Rattle.turtle_grammar.specs.Grammar.Subject.{NamedNode, LabelledNode, AnonymousNode, CollectionNode}
use Rattle.turtle_grammar.specs.Grammar.Directive.{AtPrefix, AtBase, PlainPrefix, PlainBase}
use Rattle.turtle_grammar.specs.Grammar.Document.{Direct, Triples, Node, NodePairs}
use Rattle.turtle_grammar.specs.Runs.{top}
use Rattle.turtle_grammar.specs.Machine.{next, statement_step, verb_step, object_step, after_step, more_step, text_step}
use Rattle.turtle_grammar.proofs.Rests.{Statements, Predicates, After, Closes, Opened, Rest, By}

object_backward : (st : List Frame) (t : Token) (r : List Token) → By (object_step (terminal_of t)) st r → Rest state.Object st (t ∷ r)
object_backward st (Name f v) r b = (Named f v, r, refl, b)
object_backward st (Blank v) r b = (Labelled v, r, refl, b)
object_backward st (Literal d v) r b = (Number d v, r, refl, b)
object_backward st (Str v) r b = elim b [
  | inl a ↦ (Plain v, r, refl, a)
  | inr c ↦ elim c [
    | inl a ↦ (Tagged v a.0 a.1, a.2, ap (λ z. Str v ∷ z) a.3, a.4)
    | inr a ↦ (Typed v a.0 a.1, a.2, ap (λ z. Str v ∷ z) a.3, a.4)
  ]
]
object_backward st (OpenSquare n) r b = elim b [
  | inl a ↦ (Anonymous n, a.0, ap (λ z. OpenSquare n ∷ z) a.1, a.2)
  | inr a ↦ (Nested n a.0, a.1, ap (λ z. OpenSquare n ∷ z) a.2, a.3)
]
object_backward st (OpenRound n) r b = (Collection n b.0 b.1, b.2, ap (λ z. OpenRound n ∷ z) b.3, b.4)
object_backward st _ r b = absurd b

subject_item : (st : List Frame) (t : Token) (r : List Token) → By (object_step (terminal_of t)) (SubjectRound ∷ st) r → After (SubjectRound ∷ st) (t ∷ r)
subject_item st t r b = let o = object_backward (SubjectRound ∷ st) t r b in (MoreObjects o.0 o.3.0, o.3.1, o.3.2, o.2 ∙ ap (object o.0) o.3.3, o.3.4)

object_item : (st : List Frame) (t : Token) (r : List Token) → By (object_step (terminal_of t)) (ObjectRound ∷ st) r → After (ObjectRound ∷ st) (t ∷ r)
object_item st t r b = let o = object_backward (ObjectRound ∷ st) t r b in (MoreObjects o.0 o.3.0, o.3.1, o.3.2, o.2 ∙ ap (object o.0) o.3.3, o.3.4)

-- pairs behind an object, from the parts
opens : (st : List Frame) (r : List Token) → (f : Further) × (t : List Token) × (r ≡ further f t) × Closes st t → After st r
opens [] r b = (NoObjects, b.0, b.3.0, b.2 ∙ ap (further b.0) b.3.1, b.3.2)
opens (SubjectSquare ∷ st) r b = (NoObjects, b.0, b.3.0, b.2 ∙ ap (further b.0) b.3.1, b.3.2)
opens (ObjectSquare ∷ st) r b = (NoObjects, b.0, b.3.0, b.2 ∙ ap (further b.0) b.3.1, b.3.2)
opens (SubjectRound ∷ st) r b = absurd b.3
opens (ObjectRound ∷ st) r b = absurd b.3

semicolon : (st : List Frame) (r : List Token) → Rest state.VerbOrMore st r → After st (Semicolon ∷ r)
semicolon st r b = elim b [
  | inl a ↦ opens st (Semicolon ∷ r) (Bare a.0, a.1, ap (λ z. Semicolon ∷ z) a.2, a.3)
  | inr a ↦ opens st (Semicolon ∷ r) (Full a.0 a.1 a.2 a.3, a.4, ap (λ z. Semicolon ∷ z) a.5, a.6)
]

pub after_backward : (st : List Frame) (t : Token) (r : List Token) → By (after_step (top st) (terminal_of t)) st r → After st (t ∷ r)
after_backward [] Comma r b = (MoreObjects b.0 b.3.0, b.3.1, b.3.2, ap (λ z. Comma ∷ z) (b.2 ∙ ap (object b.0) b.3.3), b.3.4)
after_backward [] Semicolon r b = semicolon [] r b
after_backward [] Dot r b = (NoObjects, NoFurther, r, refl, b)
after_backward [] _ r b = absurd b
after_backward (SubjectSquare ∷ st) Comma r b = (MoreObjects b.0 b.3.0, b.3.1, b.3.2, ap (λ z. Comma ∷ z) (b.2 ∙ ap (object b.0) b.3.3), b.3.4)
after_backward (SubjectSquare ∷ st) Semicolon r b = semicolon (SubjectSquare ∷ st) r b
after_backward (SubjectSquare ∷ st) CloseSquare r b = (NoObjects, NoFurther, r, refl, b)
after_backward (SubjectSquare ∷ st) _ r b = absurd b
after_backward (ObjectSquare ∷ st) Comma r b = (MoreObjects b.0 b.3.0, b.3.1, b.3.2, ap (λ z. Comma ∷ z) (b.2 ∙ ap (object b.0) b.3.3), b.3.4)
after_backward (ObjectSquare ∷ st) Semicolon r b = semicolon (ObjectSquare ∷ st) r b
after_backward (ObjectSquare ∷ st) CloseSquare r b = (NoObjects, NoFurther, r, refl, b)
after_backward (ObjectSquare ∷ st) _ r b = absurd b
after_backward (SubjectRound ∷ st) (CloseRound n) r b = (NoObjects, n, r, refl, b)
after_backward (SubjectRound ∷ st) (Name f v) r b = subject_item st (Name f v) r b
after_backward (SubjectRound ∷ st) (Blank v) r b = subject_item st (Blank v) r b
after_backward (SubjectRound ∷ st) (Literal d v) r b = subject_item st (Literal d v) r b
after_backward (SubjectRound ∷ st) (Str v) r b = subject_item st (Str v) r b
after_backward (SubjectRound ∷ st) (OpenSquare n) r b = subject_item st (OpenSquare n) r b
after_backward (SubjectRound ∷ st) (OpenRound n) r b = subject_item st (OpenRound n) r b
after_backward (SubjectRound ∷ st) _ r b = absurd b
after_backward (ObjectRound ∷ st) (CloseRound n) r b = (NoObjects, n, r, refl, b)
after_backward (ObjectRound ∷ st) (Name f v) r b = object_item st (Name f v) r b
after_backward (ObjectRound ∷ st) (Blank v) r b = object_item st (Blank v) r b
after_backward (ObjectRound ∷ st) (Literal d v) r b = object_item st (Literal d v) r b
after_backward (ObjectRound ∷ st) (Str v) r b = object_item st (Str v) r b
after_backward (ObjectRound ∷ st) (OpenSquare n) r b = object_item st (OpenSquare n) r b
after_backward (ObjectRound ∷ st) (OpenRound n) r b = object_item st (OpenRound n) r b
after_backward (ObjectRound ∷ st) _ r b = absurd b

-- brackets of subjects stand lowest
abbrev pub IsStack : List Frame → Type 0
IsStack [] = Unit {0}
IsStack (SubjectSquare ∷ []) = Unit {0}
IsStack (SubjectRound ∷ []) = Unit {0}
IsStack (SubjectSquare ∷ f ∷ st) = ⊥
IsStack (SubjectRound ∷ f ∷ st) = ⊥
IsStack (ObjectSquare ∷ st) = IsStack st
IsStack (ObjectRound ∷ st) = IsStack st

abbrev IsEmpty : List Frame → Type 0
IsEmpty [] = Unit {0}
IsEmpty (f ∷ st) = ⊥

abbrev IsSquare : List Frame → Type 0
IsSquare (SubjectSquare ∷ st) = Unit {0}
IsSquare (ObjectSquare ∷ st) = Unit {0}
IsSquare _ = ⊥

abbrev IsPairs : List Frame → Type 0
IsPairs (SubjectRound ∷ st) = ⊥
IsPairs (ObjectRound ∷ st) = ⊥
IsPairs _ = Unit {0}

-- the states that stand over a stack
abbrev Stands : State → List Frame → Type 0
Stands state.VerbOrClose st = IsSquare st
Stands state.VerbOrMore st = IsPairs st
Stands state.Object st = IsPairs st
Stands state.AfterObject st = Unit {0}
Stands state.AfterText st = Unit {0}
Stands state.Datatype st = Unit {0}
Stands q st = IsEmpty st

abbrev pub Fits : State → List Frame → Type 0
Fits q st = IsStack st × Stands q st

-- a predicate, where pairs may stand
pairs_by : (st : List Frame) (v : Verb) (r : List Token) → IsPairs st → Rest state.Object st r → (p : Pairs) × (c : List Token) × ((verb v) ∷ r ≡ pairs p c) × Closes st c
pairs_by [] v r h b = (Pair v b.0 b.3.0 b.3.1, Dot ∷ b.3.2, ap (λ z. (verb v) ∷ z) (b.2 ∙ ap (object b.0) b.3.3), (b.3.2, refl, b.3.4))
pairs_by (SubjectSquare ∷ st) v r h b = (Pair v b.0 b.3.0 b.3.1, CloseSquare ∷ b.3.2, ap (λ z. (verb v) ∷ z) (b.2 ∙ ap (object b.0) b.3.3), (b.3.2, refl, b.3.4))
pairs_by (ObjectSquare ∷ st) v r h b = (Pair v b.0 b.3.0 b.3.1, CloseSquare ∷ b.3.2, ap (λ z. (verb v) ∷ z) (b.2 ∙ ap (object b.0) b.3.3), (b.3.2, refl, b.3.4))
pairs_by (SubjectRound ∷ st) v r h b = absurd h
pairs_by (ObjectRound ∷ st) v r h b = absurd h

-- predicates of a subject from their first
predicates_by : (v : Verb) (r : List Token) → Rest state.Object [] r → Predicates [] ((verb v) ∷ r)
predicates_by v r b = let p = pairs_by [] v r tt b in (p.0, p.3.0, p.2 ∙ ap (pairs p.0) p.3.1, p.3.2)

more_by : (st : List Frame) (v : Verb) (r : List Token) → IsPairs st → Rest state.Object st r → Rest state.VerbOrMore st ((verb v) ∷ r)
more_by [] v r h b = inr (v, b.0, b.3.0, b.3.1, Dot ∷ b.3.2, ap (λ z. (verb v) ∷ z) (b.2 ∙ ap (object b.0) b.3.3), (b.3.2, refl, b.3.4))
more_by (SubjectSquare ∷ st) v r h b = inr (v, b.0, b.3.0, b.3.1, CloseSquare ∷ b.3.2, ap (λ z. (verb v) ∷ z) (b.2 ∙ ap (object b.0) b.3.3), (b.3.2, refl, b.3.4))
more_by (ObjectSquare ∷ st) v r h b = inr (v, b.0, b.3.0, b.3.1, CloseSquare ∷ b.3.2, ap (λ z. (verb v) ∷ z) (b.2 ∙ ap (object b.0) b.3.3), (b.3.2, refl, b.3.4))
more_by (SubjectRound ∷ st) v r h b = absurd h
more_by (ObjectRound ∷ st) v r h b = absurd h

subject_opened : (st : List Frame) (v : Verb) (r : List Token) → Rest state.Object (SubjectSquare ∷ st) r → Opened (SubjectSquare ∷ st) ((verb v) ∷ r)
subject_opened st v r b = let p = pairs_by (SubjectSquare ∷ st) v r tt b in inr (p.0, p.3.0, p.2 ∙ ap (pairs p.0) p.3.1, p.3.2)

object_opened : (st : List Frame) (v : Verb) (r : List Token) → Rest state.Object (ObjectSquare ∷ st) r → Opened (ObjectSquare ∷ st) ((verb v) ∷ r)
object_opened st v r b = let p = pairs_by (ObjectSquare ∷ st) v r tt b in inr (p.0, p.3.0, p.2 ∙ ap (pairs p.0) p.3.1, p.3.2)

-- what goes on behind a semicolon without a predicate
more_closes : (st : List Frame) (t : Token) (r : List Token) → IsPairs st → By (more_step (top st) (terminal_of t)) st r → Rest state.VerbOrMore st (t ∷ r)
more_closes st (Name f v) r h b = more_by st (Iri f v) r h b
more_closes st A r h b = more_by st IsA r h b
more_closes st Comma r h b = absurd b
more_closes st Semicolon r h b = go st h b
  where
    go : (st : List Frame) → IsPairs st → By (after_step (top st) (terminal_of Semicolon)) st r → Rest state.VerbOrMore st (Semicolon ∷ r)
    go [] h b = elim b [ inl a ↦ inl (Bare a.0, a.1, ap (λ z. Semicolon ∷ z) a.2, a.3) | inr a ↦ inl (Full a.0 a.1 a.2 a.3, a.4, ap (λ z. Semicolon ∷ z) a.5, a.6) ]
    go (SubjectSquare ∷ st) h b = elim b [ inl a ↦ inl (Bare a.0, a.1, ap (λ z. Semicolon ∷ z) a.2, a.3) | inr a ↦ inl (Full a.0 a.1 a.2 a.3, a.4, ap (λ z. Semicolon ∷ z) a.5, a.6) ]
    go (ObjectSquare ∷ st) h b = elim b [ inl a ↦ inl (Bare a.0, a.1, ap (λ z. Semicolon ∷ z) a.2, a.3) | inr a ↦ inl (Full a.0 a.1 a.2 a.3, a.4, ap (λ z. Semicolon ∷ z) a.5, a.6) ]
    go (SubjectRound ∷ st) h b = absurd h
    go (ObjectRound ∷ st) h b = absurd h
more_closes [] Dot r h b = inl (NoFurther, Dot ∷ r, refl, (r, refl, b))
more_closes [] _ r h b = absurd b
more_closes (SubjectSquare ∷ st) CloseSquare r h b = inl (NoFurther, CloseSquare ∷ r, refl, (r, refl, b))
more_closes (SubjectSquare ∷ st) _ r h b = absurd b
more_closes (ObjectSquare ∷ st) CloseSquare r h b = inl (NoFurther, CloseSquare ∷ r, refl, (r, refl, b))
more_closes (ObjectSquare ∷ st) _ r h b = absurd b
more_closes (SubjectRound ∷ st) t r h b = absurd h
more_closes (ObjectRound ∷ st) t r h b = absurd h

statement_backward : (t : Token) (r : List Token) → By (statement_step (terminal_of t)) [] r → Statements [] (t ∷ r)
statement_backward (Name f v) r b = (Triples (NamedNode f v) b.0 b.3.0, ap (λ z. Name f v ∷ z) (b.2 ∙ ap (λ z. pairs b.0 (Dot ∷ z)) b.3.1))
statement_backward (Blank v) r b = (Triples (LabelledNode v) b.0 b.3.0, ap (λ z. Blank v ∷ z) (b.2 ∙ ap (λ z. pairs b.0 (Dot ∷ z)) b.3.1))
statement_backward (OpenSquare n) r b = elim b [
  | inl a ↦ (Triples (AnonymousNode n) a.2.0 a.2.3.0, ap (λ z. OpenSquare n ∷ z) (a.1 ∙ ap (λ z. CloseSquare ∷ z) (a.2.2 ∙ ap (λ z. pairs a.2.0 (Dot ∷ z)) a.2.3.1)))
  | inr a ↦ elim a.3 [
    | inl c ↦ (Node n a.0 c.2.0, ap (λ z. OpenSquare n ∷ z) (a.2 ∙ ap (λ z. pairs a.0 (CloseSquare ∷ z)) (c.1 ∙ ap (λ z. Dot ∷ z) c.2.1)))
    | inr c ↦ (NodePairs n a.0 c.0 c.3.0, ap (λ z. OpenSquare n ∷ z) (a.2 ∙ ap (λ z. pairs a.0 (CloseSquare ∷ z)) (c.2 ∙ ap (λ z. pairs c.0 (Dot ∷ z)) c.3.1)))
  ]
]
statement_backward (OpenRound n) r b = (Triples (CollectionNode n b.0 b.1) b.4.0 b.4.3.0, ap (λ z. OpenRound n ∷ z) (b.3 ∙ ap (λ z. items b.0 (CloseRound b.1 ∷ z)) (b.4.2 ∙ ap (λ z. pairs b.4.0 (Dot ∷ z)) b.4.3.1)))
statement_backward (At word.Prefix w) r b = (Direct (AtPrefix w b.0 b.1) b.4.0, ap (λ z. At word.Prefix w ∷ z) (b.3 ∙ ap (λ z. Name Namespace b.0 ∷ Name Reference b.1 ∷ Dot ∷ z) b.4.1))
statement_backward (At word.Base w) r b = (Direct (AtBase w b.0) b.3.0, ap (λ z. At word.Base w ∷ z) (b.2 ∙ ap (λ z. Name Reference b.0 ∷ Dot ∷ z) b.3.1))
statement_backward Prefix r b = (Direct (PlainPrefix b.0 b.1) b.4.0, ap (λ z. Prefix ∷ z) (b.3 ∙ ap (λ z. Name Namespace b.0 ∷ Name Reference b.1 ∷ z) b.4.1))
statement_backward Base r b = (Direct (PlainBase b.0) b.3.0, ap (λ z. Base ∷ z) (b.2 ∙ ap (λ z. Name Reference b.0 ∷ z) b.3.1))
statement_backward _ r b = absurd b

text_backward : (st : List Frame) (t : Token) (r : List Token) → By (text_step (top st) (terminal_of t)) st r → Rest state.AfterText st (t ∷ r)
text_backward st (At w v) r b = inr (inl (w, v, r, refl, b))
text_backward st Carets r b = inr (inr (b.0, b.1, b.2, ap (λ z. Carets ∷ z) b.3, b.4))
text_backward st t r b = inl (after_backward st t r b)

verb_backward : (t : Token) (r : List Token) → By (verb_step (terminal_of t)) [] r → Predicates [] (t ∷ r)
verb_backward (Name f v) r b = predicates_by (Iri f v) r b
verb_backward A r b = predicates_by IsA r b
verb_backward _ r b = absurd b

pub backward : (q : State) (st : List Frame) (t : Token) (r : List Token) → Fits q st → By (next q (top st) (terminal_of t)) st r → Rest q st (t ∷ r)
backward state.Statement [] t r h b = statement_backward t r b
backward state.Statement (f ∷ st) t r h b = absurd h.1
backward state.AtPrefixName st (Name Namespace v) r h b = (v, b.0, b.1, ap (λ z. Name Namespace v ∷ z) b.2, b.3)
backward state.AtPrefixName st _ r h b = absurd b
backward state.AtPrefixIri st (Name Reference v) r h b = (v, b.0, ap (λ z. Name Reference v ∷ z) b.1, b.2)
backward state.AtPrefixIri st _ r h b = absurd b
backward state.AtBaseIri st (Name Reference v) r h b = (v, b.0, ap (λ z. Name Reference v ∷ z) b.1, b.2)
backward state.AtBaseIri st _ r h b = absurd b
backward state.DirectiveDot st Dot r h b = (r, refl, b)
backward state.DirectiveDot st _ r h b = absurd b
backward state.PrefixName st (Name Namespace v) r h b = (v, b.0, b.1, ap (λ z. Name Namespace v ∷ z) b.2, b.3)
backward state.PrefixName st _ r h b = absurd b
backward state.PrefixIri st (Name Reference v) r h b = (v, r, refl, b)
backward state.PrefixIri st _ r h b = absurd b
backward state.BaseIri st (Name Reference v) r h b = (v, r, refl, b)
backward state.BaseIri st _ r h b = absurd b
backward state.Verb [] t r h b = verb_backward t r b
backward state.Verb (f ∷ st) t r h b = absurd h.1
backward state.VerbOrDot [] Dot r h b = inl (r, refl, b)
backward state.VerbOrDot [] (Name f v) r h b = inr (predicates_by (Iri f v) r b)
backward state.VerbOrDot [] A r h b = inr (predicates_by IsA r b)
backward state.VerbOrDot [] _ r h b = absurd b
backward state.VerbOrDot (f ∷ st) t r h b = absurd h.1
backward state.VerbOrClose [] t r h b = absurd h.1
backward state.VerbOrClose (SubjectSquare ∷ st) CloseSquare r h b = inl (r, refl, b)
backward state.VerbOrClose (SubjectSquare ∷ st) (Name f v) r h b = subject_opened st (Iri f v) r b
backward state.VerbOrClose (SubjectSquare ∷ st) A r h b = subject_opened st IsA r b
backward state.VerbOrClose (SubjectSquare ∷ st) _ r h b = absurd b
backward state.VerbOrClose (ObjectSquare ∷ st) CloseSquare r h b = inl (r, refl, b)
backward state.VerbOrClose (ObjectSquare ∷ st) (Name f v) r h b = object_opened st (Iri f v) r b
backward state.VerbOrClose (ObjectSquare ∷ st) A r h b = object_opened st IsA r b
backward state.VerbOrClose (ObjectSquare ∷ st) _ r h b = absurd b
backward state.VerbOrClose (SubjectRound ∷ st) t r h b = absurd h.1
backward state.VerbOrClose (ObjectRound ∷ st) t r h b = absurd h.1
backward state.VerbOrMore st t r h b = more_closes st t r h.1 b
backward state.Object st t r h b = object_backward st t r b
backward state.AfterObject st t r h b = after_backward st t r b
backward state.AfterText st t r h b = text_backward st t r b
backward state.Datatype st (Name f v) r h b = (f, v, r, refl, b)
backward state.Datatype st _ r h b = absurd b
