-- Behind the tokens of a document stands the environment that its directives set.
use Rattle.std.proofs.Common.{ℕ, List, [], ◌∷◌, ◌++◌, ◌≡◌, Bool, true, false, refl, ap, ◌∙◌, true≢false}
use Rattle.turtle_grammar.specs.Tokens.{Value, Token}
use Rattle.turtle_grammar.specs.Tokens as grammar
use Rattle.turtle_grammar.specs.Grammar.{Verb, Object, Objects, Pairs, Further, Subject, Directive, Document, verb, object, items, commas, pairs, further, subject, directive, document}
use Rattle.turtle_grammar.specs.Grammar as trees
use Rattle.turtle_grammar.specs.Grammar.Object.{Named, Labelled, Anonymous, Collection, Nested, Number, Plain, Tagged, Typed}
use Rattle.turtle_grammar.specs.Grammar.Objects.{NoObjects, MoreObjects}
use Rattle.turtle_grammar.specs.Grammar.Pairs.{Pair}
use Rattle.turtle_grammar.specs.Grammar.Further.{NoFurther, Bare, Full}
use Rattle.turtle_grammar.specs.Grammar.Subject.{NamedNode, LabelledNode, AnonymousNode, CollectionNode}
use Rattle.turtle_grammar.specs.Grammar.Directive.{AtPrefix, AtBase, PlainPrefix, PlainBase}
use Rattle.turtle_grammar.specs.Grammar.Document.{NoMore, Direct, Triples, Node, NodePairs}
use Rattle.turtle_environments.specs.Environments.{EnvironmentState}
use Rattle.reading_laws.specs.Meaning.{directed}
use Rattle.reading_laws.specs.Directives.{Part, begun_by, Standing, all_behind, outset, set_by_document}
use Rattle.reading_laws.specs.Directives as parts

abbrev st : Part → List ℕ → EnvironmentState → Standing
st p x e = record { part = p; prefix = x; environment = e }

-- in a statement, behind a string or not
abbrev IsCalm : Part → Type 0
IsCalm parts.Part.Statement = Unit {0}
IsCalm parts.Part.AtTag = Unit {0}
IsCalm _ = ⊥

abbrev is_at : Token → Bool
is_at (grammar.Token.At w v) = true
is_at _ = false

step : (p : Part) (t : Token) (x : List ℕ) (e : EnvironmentState) (r : List Token) → IsCalm p → is_at t ≡ false → all_behind (st p x e) (t ∷ r) ≡ all_behind (st (begun_by t) x e) r
step parts.Part.Statement (grammar.Token.At w v) x e r c h = absurd (true≢false h)
step parts.Part.Statement t x e r c h = refl
step parts.Part.AtTag (grammar.Token.At w v) x e r c h = absurd (true≢false h)
step parts.Part.AtTag t x e r c h = refl
step parts.Part.AtPrefix t x e r c h = absurd c
step parts.Part.AtIri t x e r c h = absurd c
step parts.Part.AtBase t x e r c h = absurd c

abbrev Leads : Part → List ℕ → EnvironmentState → List Token → List Token → Type 0
Leads p x e ts r = (q : Part) × IsCalm q × (all_behind (st p x e) ts ≡ all_behind (st q x e) r)

verb_step : (v : Verb) (p : Part) (x : List ℕ) (e : EnvironmentState) (r : List Token) → IsCalm p → all_behind (st p x e) ((verb v) ∷ r) ≡ all_behind (st parts.Part.Statement x e) r
verb_step (trees.Verb.Iri f v) p x e r c = step p (grammar.Token.Name f v) x e r c refl
verb_step trees.Verb.IsA p x e r c = step p grammar.Token.A x e r c refl

on : (p : Part) (x : List ℕ) (e : EnvironmentState) (ts us r : List Token) (m : Leads p x e ts us) → ((q : Part) → IsCalm q → Leads q x e us r) → Leads p x e ts r
on p x e ts us r m f = let n = f m.0 m.1 in (n.0, n.1, m.2 ∙ n.2)

one : (p : Part) (t : Token) (x : List ℕ) (e : EnvironmentState) (r : List Token) → IsCalm p → is_at t ≡ false → IsCalm (begun_by t) → Leads p x e (t ∷ r) r
one p t x e r c h k = (begun_by t, k, step p t x e r c h)

mutual
  object_leads : (o : Object) (p : Part) (x : List ℕ) (e : EnvironmentState) (r : List Token) → IsCalm p → Leads p x e (object o r) r
  object_leads (Named f v) p x e r c = one p (grammar.Token.Name f v) x e r c refl tt
  object_leads (Labelled v) p x e r c = one p (grammar.Token.Blank v) x e r c refl tt
  object_leads (Anonymous at) p x e r c = on p x e (object (Anonymous at) r) (grammar.Token.CloseSquare ∷ r) r (one p (grammar.Token.OpenSquare at) x e (grammar.Token.CloseSquare ∷ r) c refl tt)
      (λ q k. one q grammar.Token.CloseSquare x e r k refl tt)
  object_leads (Collection at xs end) p x e r c = on p x e (object (Collection at xs end) r) (items xs (grammar.Token.CloseRound end ∷ r)) r (one p (grammar.Token.OpenRound at) x e (items xs (grammar.Token.CloseRound end ∷ r)) c refl tt)
      (λ q k. on q x e (items xs (grammar.Token.CloseRound end ∷ r)) (grammar.Token.CloseRound end ∷ r) r (items_lead xs q x e (grammar.Token.CloseRound end ∷ r) k) (λ q k. one q (grammar.Token.CloseRound end) x e r k refl tt))
  object_leads (Nested at w) p x e r c = on p x e (object (Nested at w) r) (pairs w (grammar.Token.CloseSquare ∷ r)) r (one p (grammar.Token.OpenSquare at) x e (pairs w (grammar.Token.CloseSquare ∷ r)) c refl tt)
      (λ q k. on q x e (pairs w (grammar.Token.CloseSquare ∷ r)) (grammar.Token.CloseSquare ∷ r) r (pairs_lead w q x e (grammar.Token.CloseSquare ∷ r) k) (λ q k. one q grammar.Token.CloseSquare x e r k refl tt))
  object_leads (Number d v) p x e r c = one p (grammar.Token.Literal d v) x e r c refl tt
  object_leads (Plain v) p x e r c = one p (grammar.Token.Str v) x e r c refl tt
  object_leads (Tagged v w t) p x e r c = (parts.Part.Statement, tt, step p (grammar.Token.Str v) x e (grammar.Token.At w t ∷ r) c refl)
  object_leads (Typed v f t) p x e r c = (parts.Part.Statement, tt, step p (grammar.Token.Str v) x e (grammar.Token.Carets ∷ grammar.Token.Name f t ∷ r) c refl)

  items_lead : (xs : Objects) (p : Part) (x : List ℕ) (e : EnvironmentState) (r : List Token) → IsCalm p → Leads p x e (items xs r) r
  items_lead NoObjects p x e r c = (p, c, refl)
  items_lead (MoreObjects o xs) p x e r c = on p x e (items (MoreObjects o xs) r) (items xs r) r (object_leads o p x e (items xs r) c) (λ q k. items_lead xs q x e r k)

  commas_lead : (xs : Objects) (p : Part) (x : List ℕ) (e : EnvironmentState) (r : List Token) → IsCalm p → Leads p x e (commas xs r) r
  commas_lead NoObjects p x e r c = (p, c, refl)
  commas_lead (MoreObjects o xs) p x e r c = on p x e (commas (MoreObjects o xs) r) (object o (commas xs r)) r (one p grammar.Token.Comma x e (object o (commas xs r)) c refl tt)
      (λ q k. on q x e (object o (commas xs r)) (commas xs r) r (object_leads o q x e (commas xs r) k) (λ q k. commas_lead xs q x e r k))

  pairs_lead : (w : Pairs) (p : Part) (x : List ℕ) (e : EnvironmentState) (r : List Token) → IsCalm p → Leads p x e (pairs w r) r
  pairs_lead (Pair v o xs f) p x e r c = on p x e (pairs (Pair v o xs f) r) (object o (commas xs (further f r))) r (parts.Part.Statement, tt, verb_step v p x e (object o (commas xs (further f r))) c)
      (λ q k. on q x e (object o (commas xs (further f r))) (commas xs (further f r)) r (object_leads o q x e (commas xs (further f r)) k)
      (λ q k. on q x e (commas xs (further f r)) (further f r) r (commas_lead xs q x e (further f r) k) (λ q k. further_leads f q x e r k)))

  further_leads : (f : Further) (p : Part) (x : List ℕ) (e : EnvironmentState) (r : List Token) → IsCalm p → Leads p x e (further f r) r
  further_leads NoFurther p x e r c = (p, c, refl)
  further_leads (Bare f) p x e r c = on p x e (further (Bare f) r) (further f r) r (one p grammar.Token.Semicolon x e (further f r) c refl tt) (λ q k. further_leads f q x e r k)
  further_leads (Full v o xs f) p x e r c = on p x e (further (Full v o xs f) r) ((verb v) ∷ object o (commas xs (further f r))) r (one p grammar.Token.Semicolon x e ((verb v) ∷ object o (commas xs (further f r))) c refl tt)
      (λ q k. on q x e ((verb v) ∷ object o (commas xs (further f r))) (object o (commas xs (further f r))) r (parts.Part.Statement, tt, verb_step v q x e (object o (commas xs (further f r))) k)
      (λ q k. on q x e (object o (commas xs (further f r))) (commas xs (further f r)) r (object_leads o q x e (commas xs (further f r)) k)
      (λ q k. on q x e (commas xs (further f r)) (further f r) r (commas_lead xs q x e (further f r) k) (λ q k. further_leads f q x e r k))))

subject_leads : (u : Subject) (p : Part) (x : List ℕ) (e : EnvironmentState) (r : List Token) → IsCalm p → Leads p x e (subject u r) r
subject_leads (NamedNode f v) p x e r c = one p (grammar.Token.Name f v) x e r c refl tt
subject_leads (LabelledNode v) p x e r c = one p (grammar.Token.Blank v) x e r c refl tt
subject_leads (AnonymousNode at) p x e r c = on p x e (subject (AnonymousNode at) r) (grammar.Token.CloseSquare ∷ r) r (one p (grammar.Token.OpenSquare at) x e (grammar.Token.CloseSquare ∷ r) c refl tt)
    (λ q k. one q grammar.Token.CloseSquare x e r k refl tt)
subject_leads (CollectionNode at xs end) p x e r c = on p x e (subject (CollectionNode at xs end) r) (items xs (grammar.Token.CloseRound end ∷ r)) r (one p (grammar.Token.OpenRound at) x e (items xs (grammar.Token.CloseRound end ∷ r)) c refl tt)
    (λ q k. on q x e (items xs (grammar.Token.CloseRound end ∷ r)) (grammar.Token.CloseRound end ∷ r) r (items_lead xs q x e (grammar.Token.CloseRound end ∷ r) k) (λ q k. one q (grammar.Token.CloseRound end) x e r k refl tt))

-- a statement ends with its full stop
ended : (p : Part) (x : List ℕ) (e : EnvironmentState) (ts r : List Token) → Leads p x e ts (grammar.Token.Dot ∷ r) → all_behind (st p x e) ts ≡ all_behind (st parts.Part.Statement x e) r
ended p x e ts r m = m.2 ∙ step m.0 grammar.Token.Dot x e r m.1 refl

pub documents_set : (d : Document) (x : List ℕ) (e : EnvironmentState) → (y : List ℕ) × (all_behind (st parts.Part.Statement x e) (document d) ≡ st parts.Part.Statement y (set_by_document d e))
documents_set NoMore x e = (x, refl)
documents_set (Direct (AtPrefix w n i) d) x e = documents_set d n.text (directed (AtPrefix w n i) e)
documents_set (Direct (AtBase w i) d) x e = documents_set d x (directed (AtBase w i) e)
documents_set (Direct (PlainPrefix n i) d) x e = documents_set d n.text (directed (PlainPrefix n i) e)
documents_set (Direct (PlainBase i) d) x e = documents_set d x (directed (PlainBase i) e)
documents_set (Triples u q d) x e =
    let r = grammar.Token.Dot ∷ document d in
    let m = on parts.Part.Statement x e (subject u (pairs q r)) (pairs q r) r (subject_leads u parts.Part.Statement x e (pairs q r) tt) (λ p k. pairs_lead q p x e r k) in
    let rest = documents_set d x e in
    (rest.0, ended parts.Part.Statement x e (subject u (pairs q r)) (document d) m ∙ rest.1)
documents_set (Node at q d) x e =
    let r = grammar.Token.Dot ∷ document d in
    let m = object_leads (Nested at q) parts.Part.Statement x e r tt in
    let rest = documents_set d x e in
    (rest.0, ended parts.Part.Statement x e (object (Nested at q) r) (document d) m ∙ rest.1)
documents_set (NodePairs at q w d) x e =
    let r = grammar.Token.Dot ∷ document d in
    let m = on parts.Part.Statement x e (object (Nested at q) (pairs w r)) (pairs w r) r (object_leads (Nested at q) parts.Part.Statement x e (pairs w r) tt) (λ p k. pairs_lead w p x e r k) in
    let rest = documents_set d x e in
    (rest.0, ended parts.Part.Statement x e (object (Nested at q) (pairs w r)) (document d) m ∙ rest.1)

behind_append : (s : Standing) (ts us : List Token) → all_behind s (ts ++ us) ≡ all_behind (all_behind s ts) us
behind_append s [] us = refl
behind_append s (t ∷ ts) us = behind_append (Rattle.reading_laws.specs.Directives.behind s t) ts us

-- What follows a document stands in the environment of its directives.
pub stands_behind : (d : Document) (ts : List Token) (e : EnvironmentState) → (y : List ℕ) × (all_behind (outset e) (document d ++ ts) ≡ all_behind (st parts.Part.Statement y (set_by_document d e)) ts)
stands_behind d ts e = let m = documents_set d [] e in (m.0, behind_append (outset e) (document d) ts ∙ ap (λ s. all_behind s ts) m.1)
