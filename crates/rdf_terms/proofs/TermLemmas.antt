-- The test on terms decides equality.
use Rattle.std.proofs.Common.{◌≡◌, ◌&&◌, true, refl, ap}
use Rattle.std.proofs.lemmas.Bool.{eqb-true, eq-eqb, false≢true, and_parts}
use Rattle.rdf_terms.specs.declared.terms.Term.{Term}
use Rattle.rdf_terms.specs.declared.terms.Term.TheVariants.{Iri, Blank, Lit}
use Rattle.rdf_terms.specs.declared.terms.Triple.{Triple}
use Rattle.rdf_terms.specs.contracts.terms.TermPartialEq.TheImpl.{ghosts}
use Rattle.rdf_terms.specs.Terms.{same_term, same_terms}

-- the derived `==` of terms
pub same_term_is : (a b : Term) → ghosts.eq a b ≡ same_term a b
same_term_is (Iri m) (Iri n) = refl
same_term_is (Iri m) (Blank n) = refl
same_term_is (Iri m) (Lit n) = refl
same_term_is (Blank m) (Iri n) = refl
same_term_is (Blank m) (Blank n) = refl
same_term_is (Blank m) (Lit n) = refl
same_term_is (Lit m) (Iri n) = refl
same_term_is (Lit m) (Blank n) = refl
same_term_is (Lit m) (Lit n) = refl

pub same_term-true : (a b : Term) → same_term a b ≡ true → a ≡ b
same_term-true (Iri a) (Iri b) h = ap (λ n. Iri n) (eqb-true a b h)
same_term-true (Iri a) (Blank b) h = absurd (false≢true h)
same_term-true (Iri a) (Lit b) h = absurd (false≢true h)
same_term-true (Blank a) (Iri b) h = absurd (false≢true h)
same_term-true (Blank a) (Blank b) h = ap (λ n. Blank n) (eqb-true a b h)
same_term-true (Blank a) (Lit b) h = absurd (false≢true h)
same_term-true (Lit a) (Iri b) h = absurd (false≢true h)
same_term-true (Lit a) (Blank b) h = absurd (false≢true h)
same_term-true (Lit a) (Lit b) h = ap (λ n. Lit n) (eqb-true a b h)

pub same_term-refl : (a : Term) → same_term a a ≡ true
same_term-refl (Iri a) = eq-eqb a a refl
same_term-refl (Blank a) = eq-eqb a a refl
same_term-refl (Lit a) = eq-eqb a a refl

-- triples with the same three terms
pub same_terms-true : (t u : Triple) → same_terms t u ≡ true → (t.s ≡ u.s) × (t.p ≡ u.p) × (t.o ≡ u.o)
same_terms-true t u h =
    let both = and_parts (same_term t.s u.s && same_term t.p u.p) (same_term t.o u.o) h in
    let two = and_parts (same_term t.s u.s) (same_term t.p u.p) both.0 in
    (same_term-true t.s u.s two.0, same_term-true t.p u.p two.1, same_term-true t.o u.o both.1)
