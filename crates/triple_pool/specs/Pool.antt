-- A pool as its callers see it: the held triples with their numbers, ascending, and the count of numbers used.
use Rattle.std.specs.Prelude.{ℕ, suc, ◌≤◌, ◌==◌, Bool, false, cond, Option, Some, None, List, [], ◌∷◌, map, filter, not}
use Rattle.std.specs.List.{list_any}
use Rattle.rdf_terms.specs.declared.terms.Term.{Term}
use Rattle.rdf_terms.specs.declared.terms.Triple.{Triple}
use Rattle.rdf_terms.specs.Terms.{same_term, same_terms}
use Rattle.triple_pool.specs.declared.Place.{Place}
use Rattle.triple_pool.specs.declared.Place.TheVariants.{Subject, Predicate, Object}

pub record Numbered : Type 0 where
  pub pairs : List (ℕ × Triple)
  pub used : ℕ

abbrev pub term_at : Place → Triple → Term
term_at Subject t = t.s
term_at Predicate t = t.p
term_at Object t = t.o

-- the triple has the term at the place
abbrev pub has_term : Place → Term → Triple → Bool
has_term place term t = same_term (term_at place t) term

-- the numbers of the triples that have the term at the place
abbrev pub numbers_with : Place → Term → List (ℕ × Triple) → List ℕ
numbers_with place term pairs = map (λ p. p.0) (filter (λ p. has_term place term p.1) pairs)

-- the triple of a number
abbrev pub triple_of : ℕ → List (ℕ × Triple) → Option Triple
triple_of i [] = None
triple_of i (p ∷ ps) = cond (p.0 == i) (Some p.1) (triple_of i ps)

-- the pairs without a number
abbrev pub without : ℕ → List (ℕ × Triple) → List (ℕ × Triple)
without i pairs = filter (λ p. not (p.0 == i)) pairs

-- some held triple has the same three terms
abbrev pub is_held : Triple → List (ℕ × Triple) → Bool
is_held t pairs = list_any (λ p. same_terms t p.1) pairs

-- a held triple of this number passes the test
abbrev pub holds : (Triple → Bool) → Option Triple → Bool
holds test None = false
holds test (Some t) = test t

-- the triple of number k is held and has the term at the place
abbrev pub is_with : Place → Term → List (ℕ × Triple) → ℕ → Bool
is_with place term pairs k = holds (has_term place term) (triple_of k pairs)

-- the numbers ascend, from n on
abbrev pub IsNumberedFrom : ℕ → List (ℕ × Triple) → Type 0
IsNumberedFrom n [] = Unit {0}
IsNumberedFrom n (p ∷ ps) = (n ≤ p.0) × IsNumberedFrom (suc p.0) ps

-- the triples of a list under the numbers from n on
abbrev pub number_from : ℕ → List Triple → List (ℕ × Triple)
number_from n [] = []
number_from n (t ∷ ts) = (n, t) ∷ number_from (suc n) ts
