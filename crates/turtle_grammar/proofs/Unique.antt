-- A list of tokens spells at most one tree.
use Rattle.std.proofs.Common.{ℕ, List, [], ◌∷◌, ◌≡◌, refl, ap, ap₂, sym, subst}
use Rattle.turtle_grammar.specs.Tokens.{Token}
use Rattle.turtle_grammar.specs.Tokens.Token.{Name, Str, At, Dot, Semicolon, Comma, OpenSquare, CloseSquare, OpenRound, CloseRound, Carets}
use Rattle.turtle_grammar.specs.Grammar.{Verb, Object, Objects, Pairs, Further, Subject, Directive, Document, verb, object, items, commas, pairs, further, subject, directive, document}
use Rattle.turtle_grammar.specs.Grammar.Verb.{Iri, IsA}
use Rattle.turtle_grammar.specs.Grammar.Object.{Named, Labelled, Anonymous, Collection, Nested, Number, Plain, Tagged, Typed}
use Rattle.turtle_grammar.specs.Grammar.Objects.{NoObjects, MoreObjects}
use Rattle.turtle_grammar.specs.Grammar.Pairs.{Pair}
use Rattle.turtle_grammar.specs.Grammar.Further.{NoFurther, Bare, Full}
use Rattle.turtle_grammar.specs.Grammar.Subject.{NamedNode, LabelledNode, AnonymousNode, CollectionNode}
use Rattle.turtle_grammar.specs.Grammar.Directive.{AtPrefix, AtBase, PlainPrefix, PlainBase}
use Rattle.turtle_grammar.specs.Grammar.Document.{NoMore, Direct, Triples, Node, NodePairs}
use Rattle.turtle_grammar.proofs.Rests.{tail_is}

abbrev Closing : List Token → Type 0
Closing (Dot ∷ r) = Unit {0}
Closing (CloseSquare ∷ r) = Unit {0}
Closing _ = ⊥

abbrev Behind : List Token → Type 0
Behind (Dot ∷ r) = Unit {0}
Behind (CloseSquare ∷ r) = Unit {0}
Behind (Semicolon ∷ r) = Unit {0}
Behind _ = ⊥

-- neither a tag nor a datatype of a string
abbrev IsNext : List Token → Type 0
IsNext (At w v ∷ r) = ⊥
IsNext (Carets ∷ r) = ⊥
IsNext _ = Unit {0}

closing_behind : (r : List Token) → Closing r → Behind r
closing_behind (Dot ∷ r) h = tt
closing_behind (CloseSquare ∷ r) h = tt
closing_behind _ h = absurd h

behind_next : (r : List Token) → Behind r → IsNext r
behind_next (At w v ∷ r) h = h
behind_next (Carets ∷ r) h = h
behind_next _ h = tt

items_next : (xs : Objects) (n : ℕ) (r : List Token) → IsNext (items xs (CloseRound n ∷ r))
items_next NoObjects n r = tt
items_next (MoreObjects (Named f v) xs) n r = tt
items_next (MoreObjects (Labelled v) xs) n r = tt
items_next (MoreObjects (Anonymous k) xs) n r = tt
items_next (MoreObjects (Collection k ys m) xs) n r = tt
items_next (MoreObjects (Nested k p) xs) n r = tt
items_next (MoreObjects (Number d v) xs) n r = tt
items_next (MoreObjects (Plain v) xs) n r = tt
items_next (MoreObjects (Tagged v w t) xs) n r = tt
items_next (MoreObjects (Typed v f t) xs) n r = tt

commas_next : (xs : Objects) (r : List Token) → Behind r → IsNext (commas xs r)
commas_next NoObjects r h = behind_next r h
commas_next (MoreObjects x xs) r h = tt

further_behind : (f : Further) (r : List Token) → Closing r → Behind (further f r)
further_behind NoFurther r h = closing_behind r h
further_behind (Bare f) r h = tt
further_behind (Full v x xs f) r h = tt

starts : (x : Object) (r : List Token) (n : ℕ) (s : List Token) → object x r ≡ CloseRound n ∷ s → ⊥
starts (Named f v) r n s e = cc e
starts (Labelled v) r n s e = cc e
starts (Anonymous k) r n s e = cc e
starts (Collection k ys m) r n s e = cc e
starts (Nested k p) r n s e = cc e
starts (Number d v) r n s e = cc e
starts (Plain v) r n s e = cc e
starts (Tagged v w t) r n s e = cc e
starts (Typed v f t) r n s e = cc e

verb_not_behind : (v : Verb) (r : List Token) → Behind ((verb v) ∷ r) → ⊥
verb_not_behind (Iri f v) r h = h
verb_not_behind IsA r h = h

pairs_not_behind : (p : Pairs) (r : List Token) → Behind (pairs p r) → ⊥
pairs_not_behind (Pair v x xs f) r h = verb_not_behind v (object x (commas xs (further f r))) h

verb_unique : (v w : Verb) (r s : List Token) → (verb v) ∷ r ≡ (verb w) ∷ s → (v ≡ w) × (r ≡ s)
verb_unique (Iri f v) (Iri g w) r s e = (cc e, cc e)
verb_unique IsA IsA r s e = (refl, cc e)
verb_unique _ _ r s e = absurd (cc e)

mutual
  object_unique : (x y : Object) (r s : List Token) → IsNext r → IsNext s → object x r ≡ object y s → (x ≡ y) × (r ≡ s)
  object_unique (Named f v) (Named g w) r s a b e = (cc e, cc e)
  object_unique (Labelled v) (Labelled w) r s a b e = (cc e, cc e)
  object_unique (Anonymous n) (Anonymous m) r s a b e = (cc e, cc e)
  object_unique (Anonymous n) (Nested m q) r s a b e = absurd (pairs_not_behind q (CloseSquare ∷ s) (subst Behind (tail_is (OpenSquare n) (OpenSquare m) (CloseSquare ∷ r) (pairs q (CloseSquare ∷ s)) e) tt))
  object_unique (Nested n p) (Anonymous m) r s a b e = absurd (pairs_not_behind p (CloseSquare ∷ r) (subst Behind (sym (tail_is (OpenSquare n) (OpenSquare m) (pairs p (CloseSquare ∷ r)) (CloseSquare ∷ s) e)) tt))
  object_unique (Collection n xs k) (Collection m ys l) r s a b e =
      let u = items_unique xs ys k l r s (tail_is (OpenRound n) (OpenRound m) (items xs (CloseRound k ∷ r)) (items ys (CloseRound l ∷ s)) e) in (cc (e, u.0, u.1), u.2)
  object_unique (Nested n p) (Nested m q) r s a b e =
      let u = pairs_unique p q (CloseSquare ∷ r) (CloseSquare ∷ s) tt tt (tail_is (OpenSquare n) (OpenSquare m) (pairs p (CloseSquare ∷ r)) (pairs q (CloseSquare ∷ s)) e) in (cc (e, u.0), tail_is CloseSquare CloseSquare r s u.1)
  object_unique (Number d v) (Number g w) r s a b e = (cc e, cc e)
  object_unique (Plain v) (Plain w) r s a b e = (cc e, cc e)
  object_unique (Plain v) (Tagged w g t) r s a b e = absurd (subst IsNext (tail_is (Str v) (Str w) r (At g t ∷ s) e) a)
  object_unique (Plain v) (Typed w g t) r s a b e = absurd (subst IsNext (tail_is (Str v) (Str w) r (Carets ∷ Name g t ∷ s) e) a)
  object_unique (Tagged v g t) (Plain w) r s a b e = absurd (subst IsNext (sym (tail_is (Str v) (Str w) (At g t ∷ r) s e)) b)
  object_unique (Typed v g t) (Plain w) r s a b e = absurd (subst IsNext (sym (tail_is (Str v) (Str w) (Carets ∷ Name g t ∷ r) s e)) b)
  object_unique (Tagged v g t) (Tagged w h u) r s a b e = (cc e, cc e)
  object_unique (Typed v g t) (Typed w h u) r s a b e = (cc e, cc e)
  object_unique _ _ r s a b e = absurd (cc e)

  items_unique : (xs ys : Objects) (m n : ℕ) (r s : List Token) → items xs (CloseRound m ∷ r) ≡ items ys (CloseRound n ∷ s) → (xs ≡ ys) × (m ≡ n) × (r ≡ s)
  items_unique NoObjects NoObjects m n r s e = (refl, cc e, cc e)
  items_unique NoObjects (MoreObjects y ys) m n r s e = absurd (starts y (items ys (CloseRound n ∷ s)) m r (sym e))
  items_unique (MoreObjects x xs) NoObjects m n r s e = absurd (starts x (items xs (CloseRound m ∷ r)) n s e)
  items_unique (MoreObjects x xs) (MoreObjects y ys) m n r s e =
      let u = object_unique x y (items xs (CloseRound m ∷ r)) (items ys (CloseRound n ∷ s)) (items_next xs m r) (items_next ys n s) e in
      let v = items_unique xs ys m n r s u.1 in (ap₂ MoreObjects u.0 v.0, v.1, v.2)

  commas_unique : (xs ys : Objects) (r s : List Token) → Behind r → Behind s → commas xs r ≡ commas ys s → (xs ≡ ys) × (r ≡ s)
  commas_unique NoObjects NoObjects r s a b e = (refl, e)
  commas_unique NoObjects (MoreObjects y ys) r s a b e = absurd (subst Behind e a)
  commas_unique (MoreObjects x xs) NoObjects r s a b e = absurd (subst Behind (sym e) b)
  commas_unique (MoreObjects x xs) (MoreObjects y ys) r s a b e =
      let u = object_unique x y (commas xs r) (commas ys s) (commas_next xs r a) (commas_next ys s b) (tail_is Comma Comma (object x (commas xs r)) (object y (commas ys s)) e) in
      let v = commas_unique xs ys r s a b u.1 in (ap₂ MoreObjects u.0 v.0, v.1)

  further_unique : (f g : Further) (r s : List Token) → Closing r → Closing s → further f r ≡ further g s → (f ≡ g) × (r ≡ s)
  further_unique NoFurther NoFurther r s a b e = (refl, e)
  further_unique NoFurther (Bare g) r s a b e = absurd (subst Closing e a)
  further_unique NoFurther (Full v y ys g) r s a b e = absurd (subst Closing e a)
  further_unique (Bare f) NoFurther r s a b e = absurd (subst Closing (sym e) b)
  further_unique (Full v x xs f) NoFurther r s a b e = absurd (subst Closing (sym e) b)
  further_unique (Bare f) (Bare g) r s a b e = let u = further_unique f g r s a b (tail_is Semicolon Semicolon (further f r) (further g s) e) in (ap Bare u.0, u.1)
  further_unique (Bare f) (Full v y ys g) r s a b e =
      absurd (verb_not_behind v (object y (commas ys (further g s))) (subst Behind (tail_is Semicolon Semicolon (further f r) ((verb v) ∷ object y (commas ys (further g s))) e) (further_behind f r a)))
  further_unique (Full v x xs f) (Bare g) r s a b e =
      absurd (verb_not_behind v (object x (commas xs (further f r))) (subst Behind (sym (tail_is Semicolon Semicolon ((verb v) ∷ object x (commas xs (further f r))) (further g s) e)) (further_behind g s b)))
  further_unique (Full v x xs f) (Full w y ys g) r s a b e =
      let t = verb_unique v w (object x (commas xs (further f r))) (object y (commas ys (further g s))) (tail_is Semicolon Semicolon ((verb v) ∷ object x (commas xs (further f r))) ((verb w) ∷ object y (commas ys (further g s))) e) in
      let u = object_unique x y (commas xs (further f r)) (commas ys (further g s)) (commas_next xs (further f r) (further_behind f r a)) (commas_next ys (further g s) (further_behind g s b)) t.1 in
      let c = commas_unique xs ys (further f r) (further g s) (further_behind f r a) (further_behind g s b) u.1 in
      let d = further_unique f g r s a b c.1 in
      (cc (t.0, u.0, c.0, d.0), d.1)

  pairs_unique : (p q : Pairs) (r s : List Token) → Closing r → Closing s → pairs p r ≡ pairs q s → (p ≡ q) × (r ≡ s)
  pairs_unique (Pair v x xs f) (Pair w y ys g) r s a b e =
      let t = verb_unique v w (object x (commas xs (further f r))) (object y (commas ys (further g s))) e in
      let u = object_unique x y (commas xs (further f r)) (commas ys (further g s)) (commas_next xs (further f r) (further_behind f r a)) (commas_next ys (further g s) (further_behind g s b)) t.1 in
      let c = commas_unique xs ys (further f r) (further g s) (further_behind f r a) (further_behind g s b) u.1 in
      let d = further_unique f g r s a b c.1 in
      (cc (t.0, u.0, c.0, d.0), d.1)

subject_unique : (x y : Subject) (p q : Pairs) (r s : List Token) → subject x (pairs p r) ≡ subject y (pairs q s) → (x ≡ y) × (pairs p r ≡ pairs q s)
subject_unique (NamedNode f v) (NamedNode g w) p q r s e = (cc e, cc e)
subject_unique (LabelledNode v) (LabelledNode w) p q r s e = (cc e, cc e)
subject_unique (AnonymousNode n) (AnonymousNode m) p q r s e = (cc e, cc e)
subject_unique (CollectionNode n xs k) (CollectionNode m ys l) p q r s e =
    let u = items_unique xs ys k l (pairs p r) (pairs q s) (tail_is (OpenRound n) (OpenRound m) (items xs (CloseRound k ∷ pairs p r)) (items ys (CloseRound l ∷ pairs q s)) e) in (cc (e, u.0, u.1), u.2)
subject_unique _ _ p q r s e = absurd (cc e)

directive_unique : (x y : Directive) (r s : List Token) → directive x r ≡ directive y s → (x ≡ y) × (r ≡ s)
directive_unique (AtPrefix w p i) (AtPrefix v q j) r s e = (cc e, cc e)
directive_unique (AtBase w i) (AtBase v j) r s e = (cc e, cc e)
directive_unique (PlainPrefix p i) (PlainPrefix q j) r s e = (cc e, cc e)
directive_unique (PlainBase i) (PlainBase j) r s e = (cc e, cc e)
directive_unique _ _ r s e = absurd (cc e)

-- the first token tells directives, subjects and property lists apart
directive_subject : (x : Directive) (y : Subject) (r s : List Token) → directive x r ≡ subject y s → ⊥
directive_subject (AtPrefix w p i) (NamedNode f v) r s e = cc e
directive_subject (AtPrefix w p i) (LabelledNode v) r s e = cc e
directive_subject (AtPrefix w p i) (AnonymousNode n) r s e = cc e
directive_subject (AtPrefix w p i) (CollectionNode n xs m) r s e = cc e
directive_subject (AtBase w i) (NamedNode f v) r s e = cc e
directive_subject (AtBase w i) (LabelledNode v) r s e = cc e
directive_subject (AtBase w i) (AnonymousNode n) r s e = cc e
directive_subject (AtBase w i) (CollectionNode n xs m) r s e = cc e
directive_subject (PlainPrefix p i) (NamedNode f v) r s e = cc e
directive_subject (PlainPrefix p i) (LabelledNode v) r s e = cc e
directive_subject (PlainPrefix p i) (AnonymousNode n) r s e = cc e
directive_subject (PlainPrefix p i) (CollectionNode n xs m) r s e = cc e
directive_subject (PlainBase i) (NamedNode f v) r s e = cc e
directive_subject (PlainBase i) (LabelledNode v) r s e = cc e
directive_subject (PlainBase i) (AnonymousNode n) r s e = cc e
directive_subject (PlainBase i) (CollectionNode n xs m) r s e = cc e

directive_node : (x : Directive) (n : ℕ) (r s : List Token) → directive x r ≡ OpenSquare n ∷ s → ⊥
directive_node (AtPrefix w p i) n r s e = cc e
directive_node (AtBase w i) n r s e = cc e
directive_node (PlainPrefix p i) n r s e = cc e
directive_node (PlainBase i) n r s e = cc e

subject_node : (y : Subject) (r : List Token) (n : ℕ) (p : Pairs) (s : List Token) → subject y r ≡ OpenSquare n ∷ pairs p s → ⊥
subject_node (NamedNode f v) r n p s e = cc e
subject_node (LabelledNode v) r n p s e = cc e
subject_node (AnonymousNode m) r n p s e = pairs_not_behind p s (subst Behind (tail_is (OpenSquare m) (OpenSquare n) (CloseSquare ∷ r) (pairs p s) e) tt)
subject_node (CollectionNode m xs k) r n p s e = cc e

nothing_directive : (x : Directive) (r : List Token) → directive x r ≡ [] → ⊥
nothing_directive (AtPrefix w p i) r e = cc e
nothing_directive (AtBase w i) r e = cc e
nothing_directive (PlainPrefix p i) r e = cc e
nothing_directive (PlainBase i) r e = cc e

nothing_subject : (y : Subject) (r : List Token) → subject y r ≡ [] → ⊥
nothing_subject (NamedNode f v) r e = cc e
nothing_subject (LabelledNode v) r e = cc e
nothing_subject (AnonymousNode m) r e = cc e
nothing_subject (CollectionNode m xs k) r e = cc e

pub document_unique : (d e : Document) → document d ≡ document e → d ≡ e
document_unique NoMore NoMore h = refl
document_unique NoMore (Direct y e) h = absurd (nothing_directive y (document e) (sym h))
document_unique NoMore (Triples y q e) h = absurd (nothing_subject y (pairs q (Dot ∷ document e)) (sym h))
document_unique NoMore (Node m q e) h = absurd (cc h)
document_unique NoMore (NodePairs m q u e) h = absurd (cc h)
document_unique (Direct x d) NoMore h = absurd (nothing_directive x (document d) h)
document_unique (Direct x d) (Direct y e) h = let u = directive_unique x y (document d) (document e) h in ap₂ Direct u.0 (document_unique d e u.1)
document_unique (Direct x d) (Triples y q e) h = absurd (directive_subject x y (document d) (pairs q (Dot ∷ document e)) h)
document_unique (Direct x d) (Node m q e) h = absurd (directive_node x m (document d) (pairs q (CloseSquare ∷ Dot ∷ document e)) h)
document_unique (Direct x d) (NodePairs m q u e) h = absurd (directive_node x m (document d) (pairs q (CloseSquare ∷ pairs u (Dot ∷ document e))) h)
document_unique (Triples x p d) NoMore h = absurd (nothing_subject x (pairs p (Dot ∷ document d)) h)
document_unique (Triples x p d) (Direct y e) h = absurd (directive_subject y x (document e) (pairs p (Dot ∷ document d)) (sym h))
document_unique (Triples x p d) (Triples y q e) h =
    let u = subject_unique x y p q (Dot ∷ document d) (Dot ∷ document e) h in
    let v = pairs_unique p q (Dot ∷ document d) (Dot ∷ document e) tt tt u.1 in
    cc (u.0, v.0, document_unique d e (tail_is Dot Dot (document d) (document e) v.1))
document_unique (Triples x p d) (Node m q e) h = absurd (subject_node x (pairs p (Dot ∷ document d)) m q (CloseSquare ∷ Dot ∷ document e) h)
document_unique (Triples x p d) (NodePairs m q u e) h = absurd (subject_node x (pairs p (Dot ∷ document d)) m q (CloseSquare ∷ pairs u (Dot ∷ document e)) h)
document_unique (Node n p d) NoMore h = absurd (cc h)
document_unique (Node n p d) (Direct y e) h = absurd (directive_node y n (document e) (pairs p (CloseSquare ∷ Dot ∷ document d)) (sym h))
document_unique (Node n p d) (Triples y q e) h = absurd (subject_node y (pairs q (Dot ∷ document e)) n p (CloseSquare ∷ Dot ∷ document d) (sym h))
document_unique (Node n p d) (Node m q e) h =
    let v = pairs_unique p q (CloseSquare ∷ Dot ∷ document d) (CloseSquare ∷ Dot ∷ document e) tt tt (tail_is (OpenSquare n) (OpenSquare m) (pairs p (CloseSquare ∷ Dot ∷ document d)) (pairs q (CloseSquare ∷ Dot ∷ document e)) h) in
    let w = document_unique d e (tail_is Dot Dot (document d) (document e) (tail_is CloseSquare CloseSquare (Dot ∷ document d) (Dot ∷ document e) v.1)) in
    cc (h, v.0, w)
document_unique (Node n p d) (NodePairs m q u e) h =
    let v = pairs_unique p q (CloseSquare ∷ Dot ∷ document d) (CloseSquare ∷ pairs u (Dot ∷ document e)) tt tt (tail_is (OpenSquare n) (OpenSquare m) (pairs p (CloseSquare ∷ Dot ∷ document d)) (pairs q (CloseSquare ∷ pairs u (Dot ∷ document e))) h) in
    absurd (pairs_not_behind u (Dot ∷ document e) (subst Behind (tail_is CloseSquare CloseSquare (Dot ∷ document d) (pairs u (Dot ∷ document e)) v.1) tt))
document_unique (NodePairs n p o d) NoMore h = absurd (cc h)
document_unique (NodePairs n p o d) (Direct y e) h = absurd (directive_node y n (document e) (pairs p (CloseSquare ∷ pairs o (Dot ∷ document d))) (sym h))
document_unique (NodePairs n p o d) (Triples y q e) h = absurd (subject_node y (pairs q (Dot ∷ document e)) n p (CloseSquare ∷ pairs o (Dot ∷ document d)) (sym h))
document_unique (NodePairs n p o d) (Node m q e) h =
    let v = pairs_unique p q (CloseSquare ∷ pairs o (Dot ∷ document d)) (CloseSquare ∷ Dot ∷ document e) tt tt (tail_is (OpenSquare n) (OpenSquare m) (pairs p (CloseSquare ∷ pairs o (Dot ∷ document d))) (pairs q (CloseSquare ∷ Dot ∷ document e)) h) in
    absurd (pairs_not_behind o (Dot ∷ document d) (subst Behind (sym (tail_is CloseSquare CloseSquare (pairs o (Dot ∷ document d)) (Dot ∷ document e) v.1)) tt))
document_unique (NodePairs n p o d) (NodePairs m q u e) h =
    let v = pairs_unique p q (CloseSquare ∷ pairs o (Dot ∷ document d)) (CloseSquare ∷ pairs u (Dot ∷ document e)) tt tt (tail_is (OpenSquare n) (OpenSquare m) (pairs p (CloseSquare ∷ pairs o (Dot ∷ document d))) (pairs q (CloseSquare ∷ pairs u (Dot ∷ document e))) h) in
    let w = pairs_unique o u (Dot ∷ document d) (Dot ∷ document e) tt tt (tail_is CloseSquare CloseSquare (pairs o (Dot ∷ document d)) (pairs u (Dot ∷ document e)) v.1) in
    let x = document_unique d e (tail_is Dot Dot (document d) (document e) w.1) in
    cc (h, v.0, w.0, x)
