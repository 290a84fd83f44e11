-- The grammar of Turtle: syntax trees, and the tokens that spell them.
use Rattle.std.specs.Prelude.{ℕ, List, [], ◌∷◌, ◌++◌, ◌≡◌}
use Rattle.turtle_grammar.specs.declared.terminals.NameForm.{NameForm}
use Rattle.turtle_grammar.specs.declared.terminals.NameForm.TheVariants.{Reference, Namespace}
use Rattle.turtle_grammar.specs.declared.terminals.AtWord.{AtWord}
use Rattle.turtle_grammar.specs.declared.terminals.AtWord.TheVariants as word
use Rattle.turtle_grammar.specs.Tokens.{Value, Token}
use Rattle.turtle_grammar.specs.Tokens.Token.{Name, A, Blank, Literal, Str, At, Prefix, Base, Dot, Semicolon, Comma, OpenSquare, CloseSquare, OpenRound, CloseRound, Carets}

-- an IRI, or the word `a`
pub data Verb : Type 0 where
  Iri : NameForm → Value → Verb
  IsA : Verb

mutual
  pub data Object : Type 0 where
    Named : NameForm → Value → Object
    Labelled : Value → Object
    Anonymous : ℕ → Object
    Collection : ℕ → Objects → ℕ → Object
    Nested : ℕ → Pairs → Object
    Number : List ℕ → Value → Object
    Plain : Value → Object
    Tagged : Value → AtWord → Value → Object
    Typed : Value → NameForm → Value → Object

  -- the items of a collection, or the objects behind commas
  pub data Objects : Type 0 where
    NoObjects : Objects
    MoreObjects : Object → Objects → Objects

  -- a predicate, its objects, and what follows behind semicolons
  pub data Pairs : Type 0 where
    Pair : Verb → Object → Objects → Further → Pairs

  pub data Further : Type 0 where
    NoFurther : Further
    Bare : Further → Further
    Full : Verb → Object → Objects → Further → Further

pub data Subject : Type 0 where
  NamedNode : NameForm → Value → Subject
  LabelledNode : Value → Subject
  AnonymousNode : ℕ → Subject
  CollectionNode : ℕ → Objects → ℕ → Subject

-- with `@` and a full stop, or without both
pub data Directive : Type 0 where
  AtPrefix : Value → Value → Value → Directive
  AtBase : Value → Value → Directive
  PlainPrefix : Value → Value → Directive
  PlainBase : Value → Directive

pub data Document : Type 0 where
  NoMore : Document
  Direct : Directive → Document → Document
  Triples : Subject → Pairs → Document → Document
  Node : ℕ → Pairs → Document → Document
  NodePairs : ℕ → Pairs → Pairs → Document → Document

abbrev pub verb : Verb → Token
verb (Iri f v) = Name f v
verb IsA = A

-- Each with the tokens that follow it.
abbrev mutual
  pub object : Object → List Token → List Token
  object (Named f v) r = Name f v ∷ r
  object (Labelled v) r = Blank v ∷ r
  object (Anonymous at) r = OpenSquare at ∷ CloseSquare ∷ r
  object (Collection at xs end) r = OpenRound at ∷ items xs (CloseRound end ∷ r)
  object (Nested at p) r = OpenSquare at ∷ pairs p (CloseSquare ∷ r)
  object (Number d v) r = Literal d v ∷ r
  object (Plain v) r = Str v ∷ r
  object (Tagged v w t) r = Str v ∷ At w t ∷ r
  object (Typed v f t) r = Str v ∷ Carets ∷ Name f t ∷ r

  pub items : Objects → List Token → List Token
  items NoObjects r = r
  items (MoreObjects x xs) r = object x (items xs r)

  pub commas : Objects → List Token → List Token
  commas NoObjects r = r
  commas (MoreObjects x xs) r = Comma ∷ object x (commas xs r)

  pub pairs : Pairs → List Token → List Token
  pairs (Pair v x xs f) r = (verb v) ∷ object x (commas xs (further f r))

  pub further : Further → List Token → List Token
  further NoFurther r = r
  further (Bare f) r = Semicolon ∷ further f r
  further (Full v x xs f) r = Semicolon ∷ (verb v) ∷ object x (commas xs (further f r))

abbrev pub subject : Subject → List Token → List Token
subject (NamedNode f v) r = Name f v ∷ r
subject (LabelledNode v) r = Blank v ∷ r
subject (AnonymousNode at) r = OpenSquare at ∷ CloseSquare ∷ r
subject (CollectionNode at xs end) r = OpenRound at ∷ items xs (CloseRound end ∷ r)

abbrev pub directive : Directive → List Token → List Token
directive (AtPrefix w p i) r = At word.Prefix w ∷ Name Namespace p ∷ Name Reference i ∷ Dot ∷ r
directive (AtBase w i) r = At word.Base w ∷ Name Reference i ∷ Dot ∷ r
directive (PlainPrefix p i) r = Prefix ∷ Name Namespace p ∷ Name Reference i ∷ r
directive (PlainBase i) r = Base ∷ Name Reference i ∷ r

abbrev pub document : Document → List Token
document NoMore = []
document (Direct x d) = directive x (document d)
document (Triples s p d) = subject s (pairs p (Dot ∷ document d))
document (Node at p d) = OpenSquare at ∷ pairs p (CloseSquare ∷ Dot ∷ document d)
document (NodePairs at p q d) = OpenSquare at ∷ pairs p (CloseSquare ∷ pairs q (Dot ∷ document d))

-- The tokens begin a document.
abbrev pub Viable : List Token → Type 0
Viable ts = (more : List Token) × (d : Document) × (ts ++ more ≡ document d)
