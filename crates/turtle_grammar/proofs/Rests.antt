-- What may still come, for each state over each stack: with this the machine is the grammar read from left to right.
use Rattle.std.proofs.Common.{ℕ, List, [], ◌∷◌, ◌≡◌, refl, ap, sym, ◌∙◌, inl, inr, subst}
use Rattle.std.specs.Prelude.{◌⊎◌, None, Some}
use Rattle.turtle_grammar.specs.declared.terminals.NameForm.{NameForm}
use Rattle.turtle_grammar.specs.declared.terminals.NameForm.TheVariants.{Reference, Namespace}
use Rattle.turtle_grammar.specs.declared.terminals.AtWord.{AtWord}
use Rattle.turtle_grammar.specs.declared.terminals.AtWord.TheVariants as word
use Rattle.turtle_grammar.specs.declared.states.Frame.{Frame}
use Rattle.turtle_grammar.specs.declared.states.Frame.TheVariants.{SubjectSquare, SubjectRound, ObjectSquare, ObjectRound}
use Rattle.turtle_grammar.specs.declared.states.State.{State}
use Rattle.turtle_grammar.specs.declared.states.State.TheVariants as state
use Rattle.turtle_grammar.specs.declared.states.Step.{Step}
use Rattle.turtle_grammar.specs.declared.states.Step.TheVariants.{Stay, Push, Pop, Refused}
use Rattle.turtle_grammar.specs.Tokens.{Value, Token, terminal_of}
use Rattle.turtle_grammar.specs.Tokens.Token.{Name, A, Blank, Literal, Str, At, Prefix, Base, Dot, Semicolon, Comma, OpenSquare, CloseSquare, OpenRound, CloseRound, Carets}
use Rattle.turtle_grammar.specs.Grammar.{Verb, Object, Objects, Pairs, Further, Document, verb, object, items, commas, pairs, further, document}
use Rattle.turtle_grammar.specs.Grammar.Verb.{Iri, IsA}
use Rattle.turtle_grammar.specs.Grammar.Object.{Named, Labelled, Anonymous, Collection, Nested, Number, Plain, Tagged, Typed}
use Rattle.turtle_grammar.specs.Grammar.Objects.{NoObjects, MoreObjects}
use Rattle.turtle_grammar.specs.Grammar.Pairs.{Pair}
use Rattle.turtle_grammar.specs.Grammar.Further.{NoFurther, Bare, Full}
use Rattle.turtle_grammar.specs.Grammar.Subject.{NamedNode, LabelledNode, AnonymousNode, CollectionNode}
use Rattle.turtle_grammar.specs.Grammar.Directive.{AtPrefix, AtBase, PlainPrefix, PlainBase}
use Rattle.turtle_grammar.specs.Grammar.Document.{NoMore, Direct, Triples, Node, NodePairs}
use Rattle.turtle_grammar.specs.Runs.{top}
use Rattle.turtle_grammar.specs.Machine.{next, statement_step, form_step, verb_step, object_step, after_step, opened_step, more_step, text_step}

-- statements, where no bracket stands open
abbrev pub Statements : List Frame → List Token → Type 0
Statements [] r = (d : Document) × (r ≡ document d)
Statements (f ∷ st) r = ⊥

-- predicates and objects of a subject, and a full stop
abbrev pub Predicates : List Frame → List Token → Type 0
Predicates st r = (p : Pairs) × (t : List Token) × (r ≡ pairs p (Dot ∷ t)) × Statements st t

abbrev pub PredicatesOrDot : List Frame → List Token → Type 0
PredicatesOrDot st r = ((t : List Token) × (r ≡ Dot ∷ t) × Statements st t) ⊎ Predicates st r

-- what may follow a whole object
abbrev pub After : List Frame → List Token → Type 0
After [] r = (xs : Objects) × (f : Further) × (t : List Token) × (r ≡ commas xs (further f (Dot ∷ t))) × Statements [] t
After (SubjectSquare ∷ st) r = (xs : Objects) × (f : Further) × (t : List Token) × (r ≡ commas xs (further f (CloseSquare ∷ t))) × PredicatesOrDot st t
After (ObjectSquare ∷ st) r = (xs : Objects) × (f : Further) × (t : List Token) × (r ≡ commas xs (further f (CloseSquare ∷ t))) × After st t
After (SubjectRound ∷ st) r = (xs : Objects) × (e : ℕ) × (t : List Token) × (r ≡ items xs (CloseRound e ∷ t)) × Predicates st t
After (ObjectRound ∷ st) r = (xs : Objects) × (e : ℕ) × (t : List Token) × (r ≡ items xs (CloseRound e ∷ t)) × After st t

-- what closes the pairs
abbrev pub Closes : List Frame → List Token → Type 0
Closes [] r = (t : List Token) × (r ≡ Dot ∷ t) × Statements [] t
Closes (SubjectSquare ∷ st) r = (t : List Token) × (r ≡ CloseSquare ∷ t) × PredicatesOrDot st t
Closes (ObjectSquare ∷ st) r = (t : List Token) × (r ≡ CloseSquare ∷ t) × After st t
Closes (SubjectRound ∷ st) r = ⊥
Closes (ObjectRound ∷ st) r = ⊥

-- behind an opening square bracket
abbrev pub Opened : List Frame → List Token → Type 0
Opened [] r = ⊥
Opened (SubjectSquare ∷ st) r = ((t : List Token) × (r ≡ CloseSquare ∷ t) × Predicates st t) ⊎ ((p : Pairs) × (t : List Token) × (r ≡ pairs p (CloseSquare ∷ t)) × PredicatesOrDot st t)
Opened (ObjectSquare ∷ st) r = ((t : List Token) × (r ≡ CloseSquare ∷ t) × After st t) ⊎ ((p : Pairs) × (t : List Token) × (r ≡ pairs p (CloseSquare ∷ t)) × After st t)
Opened (SubjectRound ∷ st) r = ⊥
Opened (ObjectRound ∷ st) r = ⊥

abbrev pub Rest : State → List Frame → List Token → Type 0
Rest state.Statement st r = Statements st r
Rest state.AtPrefixName st r = (p : Value) × (i : Value) × (t : List Token) × (r ≡ Name Namespace p ∷ Name Reference i ∷ Dot ∷ t) × Statements st t
Rest state.AtPrefixIri st r = (i : Value) × (t : List Token) × (r ≡ Name Reference i ∷ Dot ∷ t) × Statements st t
Rest state.AtBaseIri st r = (i : Value) × (t : List Token) × (r ≡ Name Reference i ∷ Dot ∷ t) × Statements st t
Rest state.DirectiveDot st r = (t : List Token) × (r ≡ Dot ∷ t) × Statements st t
Rest state.PrefixName st r = (p : Value) × (i : Value) × (t : List Token) × (r ≡ Name Namespace p ∷ Name Reference i ∷ t) × Statements st t
Rest state.PrefixIri st r = (i : Value) × (t : List Token) × (r ≡ Name Reference i ∷ t) × Statements st t
Rest state.BaseIri st r = (i : Value) × (t : List Token) × (r ≡ Name Reference i ∷ t) × Statements st t
Rest state.Verb st r = Predicates st r
Rest state.VerbOrDot st r = PredicatesOrDot st r
Rest state.VerbOrClose st r = Opened st r
Rest state.VerbOrMore st r = ((f : Further) × (t : List Token) × (r ≡ further f t) × Closes st t)
    ⊎ ((v : Verb) × (x : Object) × (xs : Objects) × (f : Further) × (t : List Token) × (r ≡ (verb v) ∷ object x (commas xs (further f t))) × Closes st t)
Rest state.Object st r = (x : Object) × (t : List Token) × (r ≡ object x t) × After st t
Rest state.AfterObject st r = After st r
Rest state.AfterText st r = After st r
    ⊎ (((w : AtWord) × (v : Value) × (t : List Token) × (r ≡ At w v ∷ t) × After st t)
    ⊎ ((f : NameForm) × (v : Value) × (t : List Token) × (r ≡ Carets ∷ Name f v ∷ t) × After st t))
Rest state.Datatype st r = (f : NameForm) × (v : Value) × (t : List Token) × (r ≡ Name f v ∷ t) × After st t

abbrev pub By : Step → List Frame → List Token → Type 0
By (Stay q) st r = Rest q st r
By (Push f q) st r = Rest q (f ∷ st) r
By (Pop q) [] r = ⊥
By (Pop q) (f ∷ st) r = Rest q st r
By Refused st r = ⊥

head_is : (s t : Token) (r u : List Token) → s ∷ r ≡ t ∷ u → s ≡ t
head_is s t r u e = cc

pub tail_is : (s t : Token) (r u : List Token) → s ∷ r ≡ t ∷ u → r ≡ u
tail_is s t r u e = cc

-- the first token of a text is known, so what the machine does with it is
at_head : (P : Token → Type 0) (t u : Token) (r s : List Token) → t ∷ r ≡ u ∷ s → (r ≡ s → P u) → P t
at_head P t u r s e f = subst P (sym (head_is t u r s e)) (f (tail_is t u r s e))

at_verb : (P : Token → Type 0) (t : Token) (v : Verb) (r s : List Token) → t ∷ r ≡ (verb v) ∷ s → ((f : NameForm) (w : Value) → r ≡ s → P (Name f w)) → (r ≡ s → P A) → P t
at_verb P t (Iri f w) r s e g h = at_head P t (Name f w) r s e (g f w)
at_verb P t IsA r s e g h = at_head P t A r s e h

object_forward : (x : Object) (st : List Frame) (t : Token) (r s : List Token) → t ∷ r ≡ object x s → After st s → By (object_step (terminal_of t)) st r
object_forward (Named f v) st t r s e a = at_head (λ y. By (object_step (terminal_of y)) st r) t (Name f v) r s e (λ h. subst (After st) (sym h) a)
object_forward (Labelled v) st t r s e a = at_head (λ y. By (object_step (terminal_of y)) st r) t (Blank v) r s e (λ h. subst (After st) (sym h) a)
object_forward (Anonymous n) st t r s e a = at_head (λ y. By (object_step (terminal_of y)) st r) t (OpenSquare n) r (CloseSquare ∷ s) e (λ h. inl (s, h, a))
object_forward (Collection n xs m) st t r s e a = at_head (λ y. By (object_step (terminal_of y)) st r) t (OpenRound n) r (items xs (CloseRound m ∷ s)) e (λ h. (xs, m, s, h, a))
object_forward (Nested n p) st t r s e a = at_head (λ y. By (object_step (terminal_of y)) st r) t (OpenSquare n) r (pairs p (CloseSquare ∷ s)) e (λ h. inr (p, s, h, a))
object_forward (Number d v) st t r s e a = at_head (λ y. By (object_step (terminal_of y)) st r) t (Literal d v) r s e (λ h. subst (After st) (sym h) a)
object_forward (Plain v) st t r s e a = at_head (λ y. By (object_step (terminal_of y)) st r) t (Str v) r s e (λ h. inl (subst (After st) (sym h) a))
object_forward (Tagged v w u) st t r s e a = at_head (λ y. By (object_step (terminal_of y)) st r) t (Str v) r (At w u ∷ s) e (λ h. inr (inl (w, u, s, h, a)))
object_forward (Typed v f u) st t r s e a = at_head (λ y. By (object_step (terminal_of y)) st r) t (Str v) r (Carets ∷ Name f u ∷ s) e (λ h. inr (inr (f, u, s, h, a)))

-- a state of pairs behind an object, from the parts
follows : (st : List Frame) (xs : Objects) (f : Further) (c : List Token) → Closes st c → After st (commas xs (further f c))
follows [] xs f c k = (xs, f, k.0, ap (λ z. commas xs (further f z)) k.1, k.2)
follows (SubjectSquare ∷ st) xs f c k = (xs, f, k.0, ap (λ z. commas xs (further f z)) k.1, k.2)
follows (ObjectSquare ∷ st) xs f c k = (xs, f, k.0, ap (λ z. commas xs (further f z)) k.1, k.2)
follows (SubjectRound ∷ st) xs f c k = absurd k
follows (ObjectRound ∷ st) xs f c k = absurd k

closes_forward : (st : List Frame) (t : Token) (r c : List Token) → t ∷ r ≡ c → Closes st c → By (after_step (top st) (terminal_of t)) st r
closes_forward [] t r c e k = at_head (λ y. By (after_step None (terminal_of y)) [] r) t Dot r k.0 (e ∙ k.1) (λ h. subst (Statements []) (sym h) k.2)
closes_forward (SubjectSquare ∷ st) t r c e k = at_head (λ y. By (after_step (Some SubjectSquare) (terminal_of y)) (SubjectSquare ∷ st) r) t CloseSquare r k.0 (e ∙ k.1) (λ h. subst (PredicatesOrDot st) (sym h) k.2)
closes_forward (ObjectSquare ∷ st) t r c e k = at_head (λ y. By (after_step (Some ObjectSquare) (terminal_of y)) (ObjectSquare ∷ st) r) t CloseSquare r k.0 (e ∙ k.1) (λ h. subst (After st) (sym h) k.2)
closes_forward (SubjectRound ∷ st) t r c e k = absurd k
closes_forward (ObjectRound ∷ st) t r c e k = absurd k

further_forward : (st : List Frame) (f : Further) (t : Token) (r c : List Token) → t ∷ r ≡ further f c → Closes st c → By (after_step (top st) (terminal_of t)) st r
further_forward (SubjectRound ∷ st) f t r c e k = absurd k
further_forward (ObjectRound ∷ st) f t r c e k = absurd k
further_forward [] NoFurther t r c e k = closes_forward [] t r c e k
further_forward [] (Bare f) t r c e k = at_head (λ y. By (after_step None (terminal_of y)) [] r) t Semicolon r (further f c) e (λ h. inl (f, c, h, k))
further_forward [] (Full v x xs f) t r c e k = at_head (λ y. By (after_step None (terminal_of y)) [] r) t Semicolon r ((verb v) ∷ object x (commas xs (further f c))) e (λ h. inr (v, x, xs, f, c, h, k))
further_forward (SubjectSquare ∷ st) NoFurther t r c e k = closes_forward (SubjectSquare ∷ st) t r c e k
further_forward (SubjectSquare ∷ st) (Bare f) t r c e k = at_head (λ y. By (after_step (Some SubjectSquare) (terminal_of y)) (SubjectSquare ∷ st) r) t Semicolon r (further f c) e (λ h. inl (f, c, h, k))
further_forward (SubjectSquare ∷ st) (Full v x xs f) t r c e k = at_head (λ y. By (after_step (Some SubjectSquare) (terminal_of y)) (SubjectSquare ∷ st) r) t Semicolon r ((verb v) ∷ object x (commas xs (further f c))) e (λ h. inr (v, x, xs, f, c, h, k))
further_forward (ObjectSquare ∷ st) NoFurther t r c e k = closes_forward (ObjectSquare ∷ st) t r c e k
further_forward (ObjectSquare ∷ st) (Bare f) t r c e k = at_head (λ y. By (after_step (Some ObjectSquare) (terminal_of y)) (ObjectSquare ∷ st) r) t Semicolon r (further f c) e (λ h. inl (f, c, h, k))
further_forward (ObjectSquare ∷ st) (Full v x xs f) t r c e k = at_head (λ y. By (after_step (Some ObjectSquare) (terminal_of y)) (ObjectSquare ∷ st) r) t Semicolon r ((verb v) ∷ object x (commas xs (further f c))) e (λ h. inr (v, x, xs, f, c, h, k))

commas_forward : (st : List Frame) (xs : Objects) (f : Further) (t : Token) (r c : List Token) → t ∷ r ≡ commas xs (further f c) → Closes st c → By (after_step (top st) (terminal_of t)) st r
commas_forward st NoObjects f t r c e k = further_forward st f t r c e k
commas_forward [] (MoreObjects x xs) f t r c e k = at_head (λ y. By (after_step None (terminal_of y)) [] r) t Comma r (object x (commas xs (further f c))) e
    (λ h. (x, commas xs (further f c), h, follows [] xs f c k))
commas_forward (SubjectSquare ∷ st) (MoreObjects x xs) f t r c e k = at_head (λ y. By (after_step (Some SubjectSquare) (terminal_of y)) (SubjectSquare ∷ st) r) t Comma r (object x (commas xs (further f c))) e
    (λ h. (x, commas xs (further f c), h, follows (SubjectSquare ∷ st) xs f c k))
commas_forward (ObjectSquare ∷ st) (MoreObjects x xs) f t r c e k = at_head (λ y. By (after_step (Some ObjectSquare) (terminal_of y)) (ObjectSquare ∷ st) r) t Comma r (object x (commas xs (further f c))) e
    (λ h. (x, commas xs (further f c), h, follows (ObjectSquare ∷ st) xs f c k))
commas_forward (SubjectRound ∷ st) (MoreObjects x xs) f t r c e k = absurd k
commas_forward (ObjectRound ∷ st) (MoreObjects x xs) f t r c e k = absurd k

in_subject : (t : Token) (st : List Frame) (r : List Token) → By (object_step (terminal_of t)) (SubjectRound ∷ st) r → By (after_step (Some SubjectRound) (terminal_of t)) (SubjectRound ∷ st) r
in_subject (CloseRound n) st r b = absurd b
in_subject _ st r b = b

in_object : (t : Token) (st : List Frame) (r : List Token) → By (object_step (terminal_of t)) (ObjectRound ∷ st) r → By (after_step (Some ObjectRound) (terminal_of t)) (ObjectRound ∷ st) r
in_object (CloseRound n) st r b = absurd b
in_object _ st r b = b

subject_items : (xs : Objects) (st : List Frame) (t : Token) (r : List Token) (n : ℕ) (s : List Token) → t ∷ r ≡ items xs (CloseRound n ∷ s) → Predicates st s → By (after_step (Some SubjectRound) (terminal_of t)) (SubjectRound ∷ st) r
subject_items NoObjects st t r n s e a = at_head (λ y. By (after_step (Some SubjectRound) (terminal_of y)) (SubjectRound ∷ st) r) t (CloseRound n) r s e (λ h. subst (Predicates st) (sym h) a)
subject_items (MoreObjects x xs) st t r n s e a = in_subject t st r (object_forward x (SubjectRound ∷ st) t r (items xs (CloseRound n ∷ s)) e (xs, n, s, refl, a))

object_items : (xs : Objects) (st : List Frame) (t : Token) (r : List Token) (n : ℕ) (s : List Token) → t ∷ r ≡ items xs (CloseRound n ∷ s) → After st s → By (after_step (Some ObjectRound) (terminal_of t)) (ObjectRound ∷ st) r
object_items NoObjects st t r n s e a = at_head (λ y. By (after_step (Some ObjectRound) (terminal_of y)) (ObjectRound ∷ st) r) t (CloseRound n) r s e (λ h. subst (After st) (sym h) a)
object_items (MoreObjects x xs) st t r n s e a = in_object t st r (object_forward x (ObjectRound ∷ st) t r (items xs (CloseRound n ∷ s)) e (xs, n, s, refl, a))

pub after_forward : (st : List Frame) (t : Token) (r : List Token) → After st (t ∷ r) → By (after_step (top st) (terminal_of t)) st r
after_forward [] t r a = commas_forward [] a.0 a.1 t r (Dot ∷ a.2) a.3 (a.2, refl, a.4)
after_forward (SubjectSquare ∷ st) t r a = commas_forward (SubjectSquare ∷ st) a.0 a.1 t r (CloseSquare ∷ a.2) a.3 (a.2, refl, a.4)
after_forward (ObjectSquare ∷ st) t r a = commas_forward (ObjectSquare ∷ st) a.0 a.1 t r (CloseSquare ∷ a.2) a.3 (a.2, refl, a.4)
after_forward (SubjectRound ∷ st) t r a = subject_items a.0 st t r a.1 a.2 a.3 a.4
after_forward (ObjectRound ∷ st) t r a = object_items a.0 st t r a.1 a.2 a.3 a.4

no_at : (st : List Frame) (w : AtWord) (v : Value) (r : List Token) → After st (At w v ∷ r) → ⊥
no_at [] w v r a = after_forward [] (At w v) r a
no_at (SubjectSquare ∷ st) w v r a = after_forward (SubjectSquare ∷ st) (At w v) r a
no_at (ObjectSquare ∷ st) w v r a = after_forward (ObjectSquare ∷ st) (At w v) r a
no_at (SubjectRound ∷ st) w v r a = after_forward (SubjectRound ∷ st) (At w v) r a
no_at (ObjectRound ∷ st) w v r a = after_forward (ObjectRound ∷ st) (At w v) r a

no_carets : (st : List Frame) (r : List Token) → After st (Carets ∷ r) → ⊥
no_carets [] r a = after_forward [] Carets r a
no_carets (SubjectSquare ∷ st) r a = after_forward (SubjectSquare ∷ st) Carets r a
no_carets (ObjectSquare ∷ st) r a = after_forward (ObjectSquare ∷ st) Carets r a
no_carets (SubjectRound ∷ st) r a = after_forward (SubjectRound ∷ st) Carets r a
no_carets (ObjectRound ∷ st) r a = after_forward (ObjectRound ∷ st) Carets r a

text_forward : (st : List Frame) (t : Token) (r : List Token) → After st (t ∷ r) → By (text_step (top st) (terminal_of t)) st r
text_forward st (At w v) r a = absurd (no_at st w v r a)
text_forward st Carets r a = absurd (no_carets st r a)
text_forward st t r a = after_forward st t r a

-- behind a semicolon neither a comma nor a predicate is what goes on behind an object
no_name : (st : List Frame) (f : Further) (g : NameForm) (v : Value) (r c : List Token) → Name g v ∷ r ≡ further f c → Closes st c → ⊥
no_name [] NoFurther g v r c e k = cc (e, k.1)
no_name (SubjectSquare ∷ st) NoFurther g v r c e k = cc (e, k.1)
no_name (ObjectSquare ∷ st) NoFurther g v r c e k = cc (e, k.1)
no_name (SubjectRound ∷ st) NoFurther g v r c e k = k
no_name (ObjectRound ∷ st) NoFurther g v r c e k = k
no_name st (Bare f) g v r c e k = cc e
no_name st (Full u x xs f) g v r c e k = cc e

no_a : (st : List Frame) (f : Further) (r c : List Token) → A ∷ r ≡ further f c → Closes st c → ⊥
no_a [] NoFurther r c e k = cc (e, k.1)
no_a (SubjectSquare ∷ st) NoFurther r c e k = cc (e, k.1)
no_a (ObjectSquare ∷ st) NoFurther r c e k = cc (e, k.1)
no_a (SubjectRound ∷ st) NoFurther r c e k = k
no_a (ObjectRound ∷ st) NoFurther r c e k = k
no_a st (Bare f) r c e k = cc e
no_a st (Full u x xs f) r c e k = cc e

no_comma : (st : List Frame) (f : Further) (r c : List Token) → Comma ∷ r ≡ further f c → Closes st c → ⊥
no_comma [] NoFurther r c e k = cc (e, k.1)
no_comma (SubjectSquare ∷ st) NoFurther r c e k = cc (e, k.1)
no_comma (ObjectSquare ∷ st) NoFurther r c e k = cc (e, k.1)
no_comma (SubjectRound ∷ st) NoFurther r c e k = k
no_comma (ObjectRound ∷ st) NoFurther r c e k = k
no_comma st (Bare f) r c e k = cc e
no_comma st (Full u x xs f) r c e k = cc e

more_forward : (st : List Frame) (t : Token) (r : List Token) (f : Further) (c : List Token) → t ∷ r ≡ further f c → Closes st c → By (more_step (top st) (terminal_of t)) st r
more_forward st (Name g v) r f c e k = absurd (no_name st f g v r c e k)
more_forward st A r f c e k = absurd (no_a st f r c e k)
more_forward st Comma r f c e k = absurd (no_comma st f r c e k)
more_forward st t r f c e k = further_forward st f t r c e k

-- a predicate, and then its objects
predicate_forward : (q : State) (st : List Frame) (t : Token) (r c : List Token) (p : Pairs) → t ∷ r ≡ pairs p c → Closes st c
    → ((g : NameForm) (w : Value) → By (Stay state.Object) st r → By (next q (top st) (terminal_of (Name g w))) st r)
    → (By (Stay state.Object) st r → By (next q (top st) (terminal_of A)) st r)
    → By (next q (top st) (terminal_of t)) st r
predicate_forward q st t r c (Pair v x xs f) e k g h = at_verb (λ y. By (next q (top st) (terminal_of y)) st r) t v r (object x (commas xs (further f c))) e
    (λ u w i. g u w (x, commas xs (further f c), i, follows st xs f c k))
    (λ i. h (x, commas xs (further f c), i, follows st xs f c k))

statement_forward : (d : Document) (t : Token) (r : List Token) → t ∷ r ≡ document d → By (statement_step (terminal_of t)) [] r
statement_forward NoMore t r e = absurd (cc e)
statement_forward (Direct (AtPrefix w p i) d) t r e = at_head (λ y. By (statement_step (terminal_of y)) [] r) t (At word.Prefix w) r (Name Namespace p ∷ Name Reference i ∷ Dot ∷ document d) e (λ h. (p, i, document d, h, (d, refl)))
statement_forward (Direct (AtBase w i) d) t r e = at_head (λ y. By (statement_step (terminal_of y)) [] r) t (At word.Base w) r (Name Reference i ∷ Dot ∷ document d) e (λ h. (i, document d, h, (d, refl)))
statement_forward (Direct (PlainPrefix p i) d) t r e = at_head (λ y. By (statement_step (terminal_of y)) [] r) t Prefix r (Name Namespace p ∷ Name Reference i ∷ document d) e (λ h. (p, i, document d, h, (d, refl)))
statement_forward (Direct (PlainBase i) d) t r e = at_head (λ y. By (statement_step (terminal_of y)) [] r) t Base r (Name Reference i ∷ document d) e (λ h. (i, document d, h, (d, refl)))
statement_forward (Triples (NamedNode f v) p d) t r e = at_head (λ y. By (statement_step (terminal_of y)) [] r) t (Name f v) r (pairs p (Dot ∷ document d)) e (λ h. (p, document d, h, (d, refl)))
statement_forward (Triples (LabelledNode v) p d) t r e = at_head (λ y. By (statement_step (terminal_of y)) [] r) t (Blank v) r (pairs p (Dot ∷ document d)) e (λ h. (p, document d, h, (d, refl)))
statement_forward (Triples (AnonymousNode n) p d) t r e = at_head (λ y. By (statement_step (terminal_of y)) [] r) t (OpenSquare n) r (CloseSquare ∷ pairs p (Dot ∷ document d)) e
    (λ h. inl (pairs p (Dot ∷ document d), h, (p, document d, refl, (d, refl))))
statement_forward (Triples (CollectionNode n xs m) p d) t r e = at_head (λ y. By (statement_step (terminal_of y)) [] r) t (OpenRound n) r (items xs (CloseRound m ∷ pairs p (Dot ∷ document d))) e
    (λ h. (xs, m, pairs p (Dot ∷ document d), h, (p, document d, refl, (d, refl))))
statement_forward (Node n p d) t r e = at_head (λ y. By (statement_step (terminal_of y)) [] r) t (OpenSquare n) r (pairs p (CloseSquare ∷ Dot ∷ document d)) e
    (λ h. inr (p, Dot ∷ document d, h, inl (document d, refl, (d, refl))))
statement_forward (NodePairs n p q d) t r e = at_head (λ y. By (statement_step (terminal_of y)) [] r) t (OpenSquare n) r (pairs p (CloseSquare ∷ pairs q (Dot ∷ document d))) e
    (λ h. inr (p, pairs q (Dot ∷ document d), h, inr (q, document d, refl, (d, refl))))

verb_forward : (st : List Frame) (t : Token) (r : List Token) → Predicates st (t ∷ r) → By (verb_step (terminal_of t)) st r
verb_forward [] t r m = predicate_forward state.Verb [] t r (Dot ∷ m.1) m.0 m.2 (m.1, refl, m.3) (λ g w b. b) (λ b. b)
verb_forward (f ∷ st) t r m = absurd m.3

pub forward : (q : State) (st : List Frame) (t : Token) (r : List Token) → Rest q st (t ∷ r) → By (next q (top st) (terminal_of t)) st r
forward state.Statement [] t r m = statement_forward m.0 t r m.1
forward state.Statement (f ∷ st) t r m = absurd m
forward state.AtPrefixName st t r m = at_head (λ y. By (form_step (terminal_of y) Namespace state.AtPrefixIri) st r) t (Name Namespace m.0) r (Name Reference m.1 ∷ Dot ∷ m.2) m.3 (λ h. (m.1, m.2, h, m.4))
forward state.AtPrefixIri st t r m = at_head (λ y. By (form_step (terminal_of y) Reference state.DirectiveDot) st r) t (Name Reference m.0) r (Dot ∷ m.1) m.2 (λ h. (m.1, h, m.3))
forward state.AtBaseIri st t r m = at_head (λ y. By (form_step (terminal_of y) Reference state.DirectiveDot) st r) t (Name Reference m.0) r (Dot ∷ m.1) m.2 (λ h. (m.1, h, m.3))
forward state.DirectiveDot st t r m = at_head (λ y. By (next state.DirectiveDot (top st) (terminal_of y)) st r) t Dot r m.0 m.1 (λ h. subst (Statements st) (sym h) m.2)
forward state.PrefixName st t r m = at_head (λ y. By (form_step (terminal_of y) Namespace state.PrefixIri) st r) t (Name Namespace m.0) r (Name Reference m.1 ∷ m.2) m.3 (λ h. (m.1, m.2, h, m.4))
forward state.PrefixIri st t r m = at_head (λ y. By (form_step (terminal_of y) Reference state.Statement) st r) t (Name Reference m.0) r m.1 m.2 (λ h. subst (Statements st) (sym h) m.3)
forward state.BaseIri st t r m = at_head (λ y. By (form_step (terminal_of y) Reference state.Statement) st r) t (Name Reference m.0) r m.1 m.2 (λ h. subst (Statements st) (sym h) m.3)
forward state.Verb st t r m = verb_forward st t r m
forward state.VerbOrDot st t r m = elim m [
  | inl a ↦ at_head (λ y. By (next state.VerbOrDot (top st) (terminal_of y)) st r) t Dot r a.0 a.1 (λ h. subst (Statements st) (sym h) a.2)
  | inr a ↦ node_forward st a
]
  where
    node_forward : (st : List Frame) → Predicates st (t ∷ r) → By (next state.VerbOrDot (top st) (terminal_of t)) st r
    node_forward [] a = predicate_forward state.VerbOrDot [] t r (Dot ∷ a.1) a.0 a.2 (a.1, refl, a.3) (λ g w b. b) (λ b. b)
    node_forward (f ∷ st) a = absurd a.3
forward state.VerbOrClose [] t r m = absurd m
forward state.VerbOrClose (SubjectSquare ∷ st) t r m = elim m [
  | inl a ↦ at_head (λ y. By (opened_step (Some SubjectSquare) (terminal_of y)) (SubjectSquare ∷ st) r) t CloseSquare r a.0 a.1 (λ h. subst (Predicates st) (sym h) a.2)
  | inr a ↦ predicate_forward state.VerbOrClose (SubjectSquare ∷ st) t r (CloseSquare ∷ a.1) a.0 a.2 (a.1, refl, a.3) (λ g w b. b) (λ b. b)
]
forward state.VerbOrClose (ObjectSquare ∷ st) t r m = elim m [
  | inl a ↦ at_head (λ y. By (opened_step (Some ObjectSquare) (terminal_of y)) (ObjectSquare ∷ st) r) t CloseSquare r a.0 a.1 (λ h. subst (After st) (sym h) a.2)
  | inr a ↦ predicate_forward state.VerbOrClose (ObjectSquare ∷ st) t r (CloseSquare ∷ a.1) a.0 a.2 (a.1, refl, a.3) (λ g w b. b) (λ b. b)
]
forward state.VerbOrClose (SubjectRound ∷ st) t r m = absurd m
forward state.VerbOrClose (ObjectRound ∷ st) t r m = absurd m
forward state.VerbOrMore st t r m = elim m [
  | inl a ↦ more_forward st t r a.0 a.1 a.2 a.3
  | inr a ↦ predicate_forward state.VerbOrMore st t r a.4 (Pair a.0 a.1 a.2 a.3) a.5 a.6 (λ g w b. b) (λ b. b)
]
forward state.Object st t r m = object_forward m.0 st t r m.1 m.2 m.3
forward state.AfterObject st t r m = after_forward st t r m
forward state.AfterText st t r m = elim m [
  | inl a ↦ text_forward st t r a
  | inr b ↦ elim b [
    | inl a ↦ at_head (λ y. By (text_step (top st) (terminal_of y)) st r) t (At a.0 a.1) r a.2 a.3 (λ h. subst (After st) (sym h) a.4)
    | inr a ↦ at_head (λ y. By (text_step (top st) (terminal_of y)) st r) t Carets r (Name a.0 a.1 ∷ a.2) a.3 (λ h. (a.0, a.1, a.2, h, a.4))
  ]
]
forward state.Datatype st t r m = at_head (λ y. By (next state.Datatype (top st) (terminal_of y)) st r) t (Name m.0 m.1) r m.2 m.3 (λ h. subst (After st) (sym h) m.4)
