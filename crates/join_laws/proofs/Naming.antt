-- Names to which values are added.
use Rattle.std.proofs.Common.{◌≡◌, ℕ, ◌⊎◌, inl, inr, Bool, true, false, List, refl, sym, ap, ◌∙◌}
use Rattle.std.specs.Str.{bytes_eq}
use Rattle.std.proofs.lemmas.Bool.{and_parts}
use Rattle.std.proofs.lemmas.Slice.Eq.{bytes_eq-Decides}
use Rattle.rdf_terms.specs.declared.terms.Literal.{Literal}
use Rattle.rdf_terms.specs.declared.terms.Term.{Term}
use Rattle.rdf_terms.specs.declared.terms.Term.TheVariants as term
use Rattle.rdf_terms.specs.declared.terms.Triple.{Triple}
use Rattle.rdf_terms.specs.Naming.{NameLists, AreDistinct, same_literal, has_iri, has_literal}
use Rattle.rdf_terms.specs.Terms.{triple_of}
use Rattle.joined_names.specs.Values.{Value, ValueTriple, names_with, names_with_three, term_of, terms_of}
use Rattle.joined_names.specs.Values.Value.{Iri, Blank, Lit}
use Rattle.joined_names.proofs.Renumbering.{stays, comes}
use Rattle.join_laws.proofs.Numbering.{any_new, distinct_new, turned}

pub bytes_self : (text : List ℕ) → bytes_eq text text ≡ true
bytes_self text = (bytes_eq-Decides text text).1 refl

pub bytes_same : (a b : List ℕ) → bytes_eq a b ≡ true → a ≡ b
bytes_same a b h = (bytes_eq-Decides a b).0 h

pub literal_self : (v : Literal) → same_literal v v ≡ true
literal_self v = rw (bytes_self v.lexical, bytes_self v.datatype, bytes_self v.tag) refl

pub literal_same : (a b : Literal) → same_literal a b ≡ true → a ≡ b
literal_same a b h =
    let two = and_parts (bytes_eq a.lexical b.lexical) _ h in
    let rest = and_parts (bytes_eq a.datatype b.datatype) (bytes_eq a.tag b.tag) two.1 in
    ap (λ x. record { lexical = x; datatype = a.datatype; tag = a.tag }) (bytes_same a.lexical b.lexical two.0)
    ∙ ap (λ x. record { lexical = b.lexical; datatype = x; tag = a.tag }) (bytes_same a.datatype b.datatype rest.0)
    ∙ ap (λ x. record { lexical = b.lexical; datatype = b.datatype; tag = x }) (bytes_same a.tag b.tag rest.1)

-- whether a value needs no name or has one
abbrev pub is_named : NameLists → Value → Bool
is_named names (Iri text) = has_iri names text
is_named names (Blank n) = true
is_named names (Lit literal) = has_literal names literal

abbrev pub is_blank : Value → Bool
is_blank (Iri text) = false
is_blank (Blank n) = true
is_blank (Lit literal) = false

-- its name stays, with its number
record IsKept (names next : NameLists) (v : Value) : Type 0 where
  pub named : is_named next v ≡ true
  pub term : term_of next v ≡ term_of names v

kept : (names : NameLists) (v w : Value) → is_named names w ≡ true → IsKept names (names_with names v) w
kept names (Iri t) (Iri u) h = let s = stays (has_iri names t) (bytes_eq u) names.iris t h in record { named = s.0; term = ap (λ (n : ℕ). term.Iri n) s.1 }
kept names (Iri t) (Blank n) h = record { named = refl; term = refl }
kept names (Iri t) (Lit l) h = record { named = h; term = refl }
kept names (Blank m) w h = record { named = h; term = refl }
kept names (Lit l) (Iri u) h = record { named = h; term = refl }
kept names (Lit l) (Blank n) h = record { named = refl; term = refl }
kept names (Lit l) (Lit k) h = let s = stays (has_literal names l) (same_literal k) names.literals l h in record { named = s.0; term = ap (λ (n : ℕ). term.Lit n) s.1 }

came : (names : NameLists) (v : Value) → IsKept names (names_with names v) v
came names (Iri t) = let s = comes (has_iri names t) (bytes_eq t) names.iris t (bytes_self t) refl in record { named = s.0; term = ap (λ (n : ℕ). term.Iri n) s.1 }
came names (Blank n) = record { named = refl; term = refl }
came names (Lit l) = let s = comes (has_literal names l) (same_literal l) names.literals l (literal_self l) refl in record { named = s.0; term = ap (λ (n : ℕ). term.Lit n) s.1 }

-- no other is added
only : (names : NameLists) (v w : Value) → is_named (names_with names v) w ≡ true → (is_named names w ≡ true) ⊎ (v ≡ w)
only names (Iri t) (Iri u) h = elim (any_new (bytes_eq u) (has_iri names t) names.iris t h) [
  | inl a ↦ inl a
  | inr b ↦ inr (ap (λ (x : List ℕ). Value.Iri x) (sym (bytes_same u t b)))
]
only names (Iri t) (Blank n) h = inl refl
only names (Iri t) (Lit l) h = inl h
only names (Blank m) w h = inl h
only names (Lit l) (Iri u) h = inl h
only names (Lit l) (Blank n) h = inl refl
only names (Lit l) (Lit k) h = elim (any_new (same_literal k) (has_literal names l) names.literals l h) [
  | inl a ↦ inl a
  | inr b ↦ inr (ap (λ (x : Literal). Value.Lit x) (sym (literal_same k l b)))
]

distinct_with : (names : NameLists) (v : Value) → AreDistinct names → AreDistinct (names_with names v)
distinct_with names (Iri t) d = record { iris = distinct_new bytes_eq (turned bytes_eq bytes_self bytes_same) names.iris t d.iris; literals = d.literals }
distinct_with names (Blank n) d = d
distinct_with names (Lit l) d = record { iris = d.iris; literals = distinct_new same_literal (turned same_literal literal_self literal_same) names.literals l d.literals }

-- one of the three values
abbrev pub Mentions : ValueTriple → Value → Type 0
Mentions x v = (x.s ≡ v) ⊎ ((x.p ≡ v) ⊎ (x.o ≡ v))

pub record AreNamed (names : NameLists) (x : ValueTriple) : Type 0 where
  pub s : is_named names x.s ≡ true
  pub p : is_named names x.p ≡ true
  pub o : is_named names x.o ≡ true

-- the triple of the terms that values have
abbrev pub triple_in : NameLists → ValueTriple → Triple
triple_in names x = record { s = term_of names x.s; p = term_of names x.p; o = term_of names x.o; at = x.at }

triple_same : {a b c a' b' c' : Term} (at : ℕ) → a ≡ a' → b ≡ b' → c ≡ c' → triple_of ((a, b, c), at) ≡ triple_of ((a', b', c'), at)
triple_same at p q r = cc

module _ (names : NameLists) (x : ValueTriple) where
  abbrev first : NameLists
  first = names_with names x.s

  abbrev second : NameLists
  second = names_with first x.p

  kept_on : (v : Value) → is_named names v ≡ true → IsKept names (names_with_three names x) v
  kept_on v h =
      let a = kept names x.s v h in
      let b = kept first x.p v a.named in
      let c = kept second x.o v b.named in
      record { named = c.named; term = c.term ∙ b.term ∙ a.term }

  subject : IsKept names (names_with_three names x) x.s
  subject =
      let a = came names x.s in
      let b = kept first x.p x.s a.named in
      let c = kept second x.o x.s b.named in
      record { named = c.named; term = c.term ∙ b.term ∙ a.term }

  predicate : IsKept first (names_with_three names x) x.p
  predicate =
      let b = came first x.p in
      let c = kept second x.o x.p b.named in
      record { named = c.named; term = c.term ∙ b.term }

  object : IsKept second (names_with_three names x) x.o
  object = came second x.o

  pub three_named : AreNamed (names_with_three names x) x
  three_named = record { s = subject.named; p = predicate.named; o = object.named }

  pub three_terms : triple_of (terms_of names x, x.at) ≡ triple_in (names_with_three names x) x
  three_terms = triple_same x.at (sym subject.term) (sym predicate.term) (sym object.term)

  pub three_kept : (y : ValueTriple) → AreNamed names y → AreNamed (names_with_three names x) y
  three_kept y h = record { s = (kept_on y.s h.s).named; p = (kept_on y.p h.p).named; o = (kept_on y.o h.o).named }

  pub three_stay : (y : ValueTriple) → AreNamed names y → triple_in (names_with_three names x) y ≡ triple_in names y
  three_stay y h = triple_same y.at (kept_on y.s h.s).term (kept_on y.p h.p).term (kept_on y.o h.o).term

  pub three_only : (v : Value) → is_named (names_with_three names x) v ≡ true → (is_named names v ≡ true) ⊎ Mentions x v
  three_only v h = elim (only second x.o v h) [
    | inr o ↦ inr (inr (inr o))
    | inl a ↦ elim (only first x.p v a) [
      | inr p ↦ inr (inr (inl p))
      | inl b ↦ elim (only names x.s v b) [ inr s ↦ inr (inl s) | inl c ↦ inl c ]
    ]
  ]

  pub three_distinct : AreDistinct names → AreDistinct (names_with_three names x)
  three_distinct d = distinct_with second x.o (distinct_with first x.p (distinct_with names x.s d))
