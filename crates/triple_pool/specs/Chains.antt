-- The stored records, and the chains that link them.
use Rattle.std.specs.Prelude.{ℕ, zero, suc, ◌≡◌, ◌≢◌, ◌<◌, ◌≤◌, ◌+◌, ◌-◌, ◌==◌, ◌&&◌, Bool, true, false, cond, Option, Some, None, List, [], ◌∷◌, ◌++◌, length, slice_index_or, slice_set}
use Rattle.rdf_terms.specs.declared.terms.Term.{Term}
use Rattle.rdf_terms.specs.declared.terms.Term.TheVariants.{Iri}
use Rattle.rdf_terms.specs.declared.terms.Triple.{Triple}
use Rattle.rdf_terms.specs.Terms.{same_term}
use Rattle.triple_pool.specs.declared.Place.{Place}
use Rattle.triple_pool.specs.declared.Place.TheVariants.{Subject, Predicate, Object}
use Rattle.triple_pool.specs.declared.Links.{Links}
use Rattle.triple_pool.specs.declared.Slot.{Slot}
use Rattle.triple_pool.specs.declared.Ends.{Ends}
use Rattle.triple_pool.specs.Pool.{term_at, has_term}

abbrev pub no_links : Links
no_links = record { before = None; next = None }

abbrev pub no_ends : Ends
no_ends = record { first = None; last = None }

-- stands where no record has the number; it is not held
abbrev pub no_slot : Slot
no_slot = record {
  triple = record { s = Iri 0; p = Iri 0; o = Iri 0; at = 0 };
  held = false;
  subject = no_links;
  predicate = no_links;
  object = no_links;
}

abbrev pub slot_at : List Slot → ℕ → Slot
slot_at slots k = slice_index_or slots k no_slot

abbrev pub links_at : Place → Slot → Links
links_at Subject s = s.subject
links_at Predicate s = s.predicate
links_at Object s = s.object

abbrev pub with_links : Place → Slot → Links → Slot
with_links Subject s l = record s { subject = l }
with_links Predicate s l = record s { predicate = l }
with_links Object s l = record s { object = l }

-- the held triples from number n on
abbrev pub pairs_from : ℕ → List Slot → List (ℕ × Triple)
pairs_from n [] = []
pairs_from n (x ∷ xs) = cond x.held ((n, x.triple) ∷ pairs_from (suc n) xs) (pairs_from (suc n) xs)

-- the record of number k is held and has the term at the place
abbrev pub is_at : Place → Term → List Slot → ℕ → Bool
is_at place term slots k = (slot_at slots k).held && has_term place term (slot_at slots k).triple

-- the least number from `from` on that passes the test
abbrev pub IsFirstFrom : (ℕ → Bool) → ℕ → Option ℕ → Type 0
IsFirstFrom test from None = (k : ℕ) → from ≤ k → test k ≡ false
IsFirstFrom test from (Some j) = (from ≤ j) × (test j ≡ true) × ((k : ℕ) → from ≤ k → k < j → test k ≡ false)

-- the greatest number below `end` that passes the test
abbrev pub IsLastBelow : (ℕ → Bool) → ℕ → Option ℕ → Type 0
IsLastBelow test end None = (k : ℕ) → k < end → test k ≡ false
IsLastBelow test end (Some j) = (j < end) × (test j ≡ true) × ((k : ℕ) → j < k → k < end → test k ≡ false)

abbrev pub key_at : Place → List Slot → ℕ → Term
key_at place slots k = term_at place (slot_at slots k).triple

-- each held record names the nearest ones with its term
pub record IsLinked (place : Place) (slots : List Slot) : Type 0 where
  pub next : (i : ℕ) → (slot_at slots i).held ≡ true →
      IsFirstFrom (is_at place (key_at place slots i) slots) (i + 1) (links_at place (slot_at slots i)).next
  pub before : (i : ℕ) → (slot_at slots i).held ≡ true →
      IsLastBelow (is_at place (key_at place slots i) slots) i (links_at place (slot_at slots i)).before

-- the table has the first and the last number of each term
pub record HasEnds (place : Place) (slots : List Slot) (ends : Term → Ends) : Type 0 where
  pub first : (t : Term) → IsFirstFrom (is_at place t slots) 0 (ends t).first
  pub last : (t : Term) → IsLastBelow (is_at place t slots) (length slots) (ends t).last

pub record IsChained (place : Place) (slots : List Slot) (ends : Term → Ends) : Type 0 where
  pub linked : IsLinked place slots
  pub ended : HasEnds place slots ends

-- o is the number k
abbrev pub is_number : Option ℕ → ℕ → Bool
is_number None k = false
is_number (Some j) k = j == k

-- a, or b where there is none
abbrev pub or_else : Option ℕ → Option ℕ → Option ℕ
or_else None b = b
or_else (Some a) b = Some a

-- ys is xs with a record for the triple at the end, linked at the place behind the last of its term
pub record IsAdded (place : Place) (xs ys : List Slot) (t : Triple) (e : Ends) : Type 0 where
  pub size : length ys ≡ length xs + 1
  pub held : (k : ℕ) → k < length xs → (slot_at ys k).held ≡ (slot_at xs k).held
  pub triple : (k : ℕ) → k < length xs → (slot_at ys k).triple ≡ (slot_at xs k).triple
  pub next : (k : ℕ) → k < length xs →
      (links_at place (slot_at ys k)).next ≡ cond (is_number e.last k) (Some (length xs)) ((links_at place (slot_at xs k)).next)
  pub before : (k : ℕ) → k < length xs → (links_at place (slot_at ys k)).before ≡ (links_at place (slot_at xs k)).before
  pub here_held : (slot_at ys (length xs)).held ≡ true
  pub here_triple : (slot_at ys (length xs)).triple ≡ t
  pub here_links : links_at place (slot_at ys (length xs)) ≡ record { before = e.last; next = None }

abbrev pub ends_added : (Term → Ends) → Term → ℕ → Term → Ends
ends_added ends key n t = cond (same_term key t) (record { first = or_else (ends key).first (Some n); last = Some n }) (ends t)

-- ys is xs with record i let go, and its neighbours at the place linked with each other
pub record IsRemoved (place : Place) (xs ys : List Slot) (i : ℕ) : Type 0 where
  pub size : length ys ≡ length xs
  pub gone : (slot_at ys i).held ≡ false
  pub held : (k : ℕ) → k ≢ i → (slot_at ys k).held ≡ (slot_at xs k).held
  pub triple : (k : ℕ) → (slot_at ys k).triple ≡ (slot_at xs k).triple
  pub next : (k : ℕ) → k ≢ i → (links_at place (slot_at ys k)).next
      ≡ cond (is_number (links_at place (slot_at xs i)).before k) ((links_at place (slot_at xs i)).next) ((links_at place (slot_at xs k)).next)
  pub before : (k : ℕ) → k ≢ i → (links_at place (slot_at ys k)).before
      ≡ cond (is_number (links_at place (slot_at xs i)).next k) ((links_at place (slot_at xs i)).before) ((links_at place (slot_at xs k)).before)

-- where the first was removed, the next one is first; where the last was, the one before is last
abbrev pub when_none : Option ℕ → Option ℕ → Option ℕ → Option ℕ
when_none None a b = a
when_none (Some x) a b = b

abbrev pub ends_removed : (Term → Ends) → Term → Links → Term → Ends
ends_removed ends key l t =
    cond (same_term key t) (record { first = when_none l.before l.next (ends key).first; last = when_none l.next l.before (ends key).last }) (ends t)

-- the numbers from `from` on that pass the test, of `count` numbers
abbrev pub listed : (ℕ → Bool) → ℕ → ℕ → List ℕ
listed test from zero = []
listed test from (suc count) = cond (test from) (from ∷ listed test (suc from) count) (listed test (suc from) count)

-- the numbers that are left where `at` is the next one
abbrev pub listed_at : (ℕ → Bool) → ℕ → Option ℕ → List ℕ
listed_at test size None = []
listed_at test size (Some i) = i ∷ listed test (i + 1) (size - (i + 1))

-- the records after a write of the next number of one of them
abbrev pub next_set : Place → List Slot → Option ℕ → Option ℕ → List Slot
next_set place slots None next = slots
next_set place slots (Some i) next =
    slice_set slots i (with_links place (slot_at slots i) (record { before = (links_at place (slot_at slots i)).before; next = next }))

abbrev pub before_set : Place → List Slot → Option ℕ → Option ℕ → List Slot
before_set place slots None before = slots
before_set place slots (Some i) before =
    slice_set slots i (with_links place (slot_at slots i) (record { before = before; next = (links_at place (slot_at slots i)).next }))

-- the record of a new triple, which stands behind the last ones of its terms
abbrev pub new_slot : Triple → Option ℕ → Option ℕ → Option ℕ → Slot
new_slot t s p o = record {
  triple = t;
  held = true;
  subject = record { before = s; next = None };
  predicate = record { before = p; next = None };
  object = record { before = o; next = None };
}

-- the records after a triple is added behind the last ones of its terms
abbrev pub grown : List Slot → Triple → Option ℕ → Option ℕ → Option ℕ → List Slot
grown xs t s p o =
    next_set Object (next_set Predicate (next_set Subject xs s (Some (length xs))) p (Some (length xs))) o (Some (length xs)) ++ new_slot t s p o ∷ []

-- the records after the neighbours of one are linked with each other
abbrev pub bridged : Place → List Slot → Links → List Slot
bridged place xs l = before_set place (next_set place xs l.before l.next) l.next l.before

abbrev pub let_go : List Slot → ℕ → List Slot
let_go xs i = slice_set xs i (record (slot_at xs i) { held = false })

-- the records after one is let go
abbrev pub shrunk : List Slot → ℕ → List Slot
shrunk xs i =
    bridged Object (bridged Predicate (bridged Subject (let_go xs i) (slot_at xs i).subject) (slot_at xs i).predicate) (slot_at xs i).object

abbrev pub ends_closed : Ends → Links → Ends
ends_closed e l = record { first = when_none l.before l.next e.first; last = when_none l.next l.before e.last }
