-- The tables of first and last numbers, and what a pool keeps.
use Rattle.std.specs.Prelude.{ℕ, ◌≡◌, ◌<◌, ◌≤◌, ◌+◌, Bool, true, ◌&&◌, Option, Some, List, length, IfSome}
use Rattle.std.specs.Option.{unwrap_or}
use Rattle.indexmap.specs.IndexMap.{IndexMap, get}
use Rattle.rdf_terms.specs.declared.terms.Term.{Term}
use Rattle.rdf_terms.specs.declared.terms.Triple.{Triple}
use Rattle.rdf_terms.specs.contracts.terms.TermPartialEq.TheImpl.{ghosts}
use Rattle.triple_pool.specs.declared.Place.{Place}
use Rattle.triple_pool.specs.declared.Place.TheVariants.{Subject, Predicate, Object}
use Rattle.triple_pool.specs.Pool.{triple_of, is_with, term_at}
use Rattle.triple_pool.specs.declared.Slot.{Slot}
use Rattle.triple_pool.specs.declared.Ends.{Ends}
use Rattle.triple_pool.specs.Chains.{IsChained, IsFirstFrom, IsLastBelow, no_ends, slot_at, links_at, pairs_from}

-- the entry of a term, or nothing
abbrev pub ends_in : {S : Type 0} → IndexMap Term Ends S → Term → Ends
ends_in m t = unwrap_or (get ghosts.eq m t) no_ends

-- the records are linked in three chains, and the tables have their ends
pub record IsStored (slots : List Slot) (subjects predicates objects : Term → Ends) : Type 0 where
  pub subject : IsChained Subject slots subjects
  pub predicate : IsChained Predicate slots predicates
  pub object : IsChained Object slots objects

-- the three terms of a triple, by which the table of triples finds it
abbrev pub key_of : Triple → Term × Term × Term
key_of t = (t.s, t.p, t.o)

-- the comparison of the table's keys
abbrev pub same_key : Term × Term × Term → Term × Term × Term → Bool
same_key x y = (ghosts.eq x.0 y.0 && ghosts.eq x.1 y.1) && ghosts.eq x.2 y.2

-- the number that the table has for three terms
abbrev pub number_in : {S : Type 0} → IndexMap (Term × Term × Term) ℕ S → Term × Term × Term → Option ℕ
number_in m k = get same_key m k

-- a held triple has its number in the table, and a number there is that of a record with the three terms, held or not
pub record IsTabled (slots : List Slot) (numbers : Term × Term × Term → Option ℕ) : Type 0 where
  pub found : (k : ℕ) → (slot_at slots k).held ≡ true → numbers (key_of (slot_at slots k).triple) ≡ Some k
  pub right : (key : Term × Term × Term) → IfSome (numbers key) (λ k. (k < length slots) × (key_of (slot_at slots k).triple ≡ key))

-- what a pool keeps
pub record IsPool (slots : List Slot) (subjects predicates objects : Term → Ends) (numbers : Term × Term × Term → Option ℕ) (held : ℕ) : Type 0 where
  pub stored : IsStored slots subjects predicates objects
  pub tabled : IsTabled slots numbers
  pub count : held ≡ length (pairs_from 0 slots)
  pub few : length slots ≤ 262144

-- the neighbours of a record are numbers below the count
pub record HasNeighboursWithin (s : Slot) (size : ℕ) : Type 0 where
  pub subject_before : IfSome s.subject.before (λ i. i < size)
  pub subject_next : IfSome s.subject.next (λ i. i < size)
  pub predicate_before : IfSome s.predicate.before (λ i. i < size)
  pub predicate_next : IfSome s.predicate.next (λ i. i < size)
  pub object_before : IfSome s.object.before (λ i. i < size)
  pub object_next : IfSome s.object.next (λ i. i < size)

-- a record that a pool hands out: its triple, and in each place the nearest numbers with the same term
pub record IsRecordOf (pairs : List (ℕ × Triple)) (i : ℕ) (s : Slot) : Type 0 where
  pub triple : triple_of i pairs ≡ Some s.triple
  pub held : s.held ≡ true
  pub next : (place : Place) → IsFirstFrom (is_with place (term_at place s.triple) pairs) (i + 1) (links_at place s).next
  pub before : (place : Place) → IsLastBelow (is_with place (term_at place s.triple) pairs) i (links_at place s).before
