-- The table that finds a held triple.
use Rattle.std.proofs.Common.{◌≡◌, ◌≢◌, ℕ, zero, suc, ◌<◌, ◌&&◌, Bool, true, false, cond, Option, Some, None, List, [], ◌∷◌, length, arith, refl, sym, ap, ap₂, subst, ◌∙◌, inl, inr, IfSome}
use Rattle.std.proofs.lemmas.Bool.{cases_Bool, cases_eq, cases_lt, false≢true, and_parts, or_left, or_right, or_from}
use Rattle.rdf_terms.specs.declared.terms.Term.{Term}
use Rattle.rdf_terms.specs.declared.terms.Triple.{Triple}
use Rattle.rdf_terms.specs.Terms.{same_terms}
use Rattle.rdf_terms.proofs.TermLemmas.{same_term_is, same_term-refl, same_terms-true}
use Rattle.triple_pool.specs.declared.Place.TheVariants.{Subject}
use Rattle.triple_pool.specs.declared.Slot.{Slot}
use Rattle.triple_pool.specs.declared.Ends.{Ends}
use Rattle.triple_pool.specs.Pool.{is_held}
use Rattle.triple_pool.specs.Chains.{slot_at, pairs_from, IsAdded}
use Rattle.triple_pool.specs.Tables.{key_of, same_key, IsTabled}
use Rattle.triple_pool.proofs.Chaining.{held_in}

-- the record of number k is held and has the three terms
abbrev is_same : Triple → List Slot → ℕ → Bool
is_same t slots k = (slot_at slots k).held && same_terms t (slot_at slots k).triple

held_none : (t : Triple) (m : ℕ) (slots : List Slot) → ((k : ℕ) → is_same t slots k ≡ false) → is_held t (pairs_from m slots) ≡ false
held_none t m [] h = refl
held_none t m (x ∷ xs) h = by (h 0) (held_none t (suc m) xs (λ k. h (suc k)))
  where
    by : (x.held && same_terms t x.triple) ≡ false → is_held t (pairs_from (suc m) xs) ≡ false →
        is_held t (cond x.held ((m, x.triple) ∷ pairs_from (suc m) xs) (pairs_from (suc m) xs)) ≡ false
    by here rest = per x.held here
      where
        per : (b : Bool) → (b && same_terms t x.triple) ≡ false → is_held t (cond b ((m, x.triple) ∷ pairs_from (suc m) xs) (pairs_from (suc m) xs)) ≡ false
        per true e = or_from (same_terms t x.triple) (is_held t (pairs_from (suc m) xs)) e rest
        per false e = rest

held_some : (t : Triple) (m k : ℕ) (slots : List Slot) → is_same t slots k ≡ true → is_held t (pairs_from m slots) ≡ true
held_some t m k [] h = absurd (false≢true h)
held_some t m zero (x ∷ xs) h = per x.held h
  where
    per : (b : Bool) → (b && same_terms t x.triple) ≡ true → is_held t (cond b ((m, x.triple) ∷ pairs_from (suc m) xs) (pairs_from (suc m) xs)) ≡ true
    per true e = or_left (same_terms t x.triple) (is_held t (pairs_from (suc m) xs)) e
    per false e = absurd (false≢true e)
held_some t m (suc k) (x ∷ xs) h = per x.held (held_some t (suc m) k xs h)
  where
    per : (b : Bool) → is_held t (pairs_from (suc m) xs) ≡ true → is_held t (cond b ((m, x.triple) ∷ pairs_from (suc m) xs) (pairs_from (suc m) xs)) ≡ true
    per true e = or_right (same_terms t x.triple) (is_held t (pairs_from (suc m) xs)) e
    per false e = e

-- keys are compared as triples are
pub same_key_is : (t u : Triple) → same_key (key_of t) (key_of u) ≡ same_terms t u
same_key_is t u = simp same_term_is

pub same_terms-refl : (t : Triple) → same_terms t t ≡ true
same_terms-refl t = ap₂ (λ (x y : Bool). x && y) (ap₂ (λ (x y : Bool). x && y) (same_term-refl t.s) (same_term-refl t.p)) (same_term-refl t.o)

pub keys_alike : (t u : Triple) → same_terms t u ≡ true → key_of t ≡ key_of u
keys_alike t u h =
    let e = same_terms-true t u h in
    λ j. (e.0 j, e.1 j, e.2 j)

pub same_key-true : (x y : Term × Term × Term) → same_key x y ≡ true → x ≡ y
same_key-true x y h = keys_alike (record { s = x.0; p = x.1; o = x.2; at = 0 }) (record { s = y.0; p = y.1; o = y.2; at = 0 })
    (sym (same_key_is (record { s = x.0; p = x.1; o = x.2; at = 0 }) (record { s = y.0; p = y.1; o = y.2; at = 0 })) ∙ h)

some_alike : (m n : ℕ) → ◌≡◌ {A = Option ℕ} (Some m) (Some n) → m ≡ n
some_alike m n e = cc

none_some : (n : ℕ) → ◌≡◌ {A = Option ℕ} None (Some n) → ⊥
none_some n e = cc

-- a triple whose terms have no number is not held
pub missing : (t : Triple) (slots : List Slot) (f : Term × Term × Term → Option ℕ) → IsTabled slots f → f (key_of t) ≡ None → is_held t (pairs_from 0 slots) ≡ false
missing t slots f tabled none = held_none t 0 slots (λ k. elim (cases_Bool (is_same t slots k)) [
  | inl yea ↦
      let parts = and_parts (slot_at slots k).held (same_terms t (slot_at slots k).triple) yea in
      absurd (none_some k (sym none ∙ ap f (keys_alike t (slot_at slots k).triple parts.1) ∙ tabled.found k parts.0))
  | inr nay ↦ nay
])

key_shown : (f : Term × Term × Term → Option ℕ) (slots : List Slot) (key : Term × Term × Term) (i : ℕ) → IsTabled slots f → f key ≡ Some i →
    (i < length slots) × (key_of (slot_at slots i).triple ≡ key)
key_shown f slots key i tabled is = subst (λ (o : Option ℕ). IfSome o (λ k. (k < length slots) × (key_of (slot_at slots k).triple ≡ key))) is (tabled.right key)

-- a triple whose terms have a number is held where the record is
pub found_held : (t : Triple) (slots : List Slot) (f : Term × Term × Term → Option ℕ) (i : ℕ) → IsTabled slots f → f (key_of t) ≡ Some i →
    (slot_at slots i).held ≡ is_held t (pairs_from 0 slots)
found_held t slots f i tabled is = elim (cases_Bool (slot_at slots i).held) [
  | inl yea ↦
      let alike : key_of (slot_at slots i).triple ≡ key_of t = (key_shown f slots (key_of t) i tabled is).1 in
      let same : same_terms t (slot_at slots i).triple ≡ true =
      sym (same_key_is t (slot_at slots i).triple) ∙ ap (same_key (key_of t)) alike ∙ same_key_is t t ∙ same_terms-refl t in
      yea ∙ sym (held_some t 0 i slots (ap₂ (λ (x y : Bool). x && y) yea same))
  | inr nay ↦ nay ∙ sym (held_none t 0 slots (λ k. elim (cases_Bool (is_same t slots k)) [
    | inl both ↦
        let parts = and_parts (slot_at slots k).held (same_terms t (slot_at slots k).triple) both in
        let number : i ≡ k = some_alike i k (sym is ∙ ap f (keys_alike t (slot_at slots k).triple parts.1) ∙ tabled.found k parts.0) in
        absurd (false≢true (sym nay ∙ ap (λ (j : ℕ). (slot_at slots j).held) number ∙ parts.0))
    | inr other ↦ other
  ]))
]

-- a triple that is not held is that of no held record
absent_at : (t : Triple) (slots : List Slot) (k : ℕ) → is_held t (pairs_from 0 slots) ≡ false → (slot_at slots k).held ≡ true → same_terms t (slot_at slots k).triple ≡ false
absent_at t slots k absent was = elim (cases_Bool (same_terms t (slot_at slots k).triple)) [
  | inl yea ↦ absurd (false≢true (sym absent ∙ held_some t 0 k slots (ap₂ (λ (x y : Bool). x && y) was yea)))
  | inr nay ↦ nay
]

carried : (o : Option ℕ) (P Q : ℕ → Type 0) → ((k : ℕ) → P k → Q k) → IfSome o P → IfSome o Q
carried None P Q f h = tt
carried (Some k) P Q f h = f k h

-- a record that is added gets its number
pub tabled_added : (xs ys : List Slot) (t : Triple) (e : Ends) (f g : Term × Term × Term → Option ℕ) → IsTabled xs f → IsAdded Subject xs ys t e →
    is_held t (pairs_from 0 xs) ≡ false → ((u : Term × Term × Term) → g u ≡ cond (same_key (key_of t) u) (Some (length xs)) (f u)) → IsTabled ys g
tabled_added xs ys t e f g tabled added absent put = record { found = found; right = right }
  where
    found : (k : ℕ) → (slot_at ys k).held ≡ true → g (key_of (slot_at ys k).triple) ≡ Some k
    found k was = elim (cases_lt k (length xs)) [
      | inl less ↦
          let had : (slot_at xs k).held ≡ true = sym (added.held k less) ∙ was in
          ap (λ (u : Triple). g (key_of u)) (added.triple k less)
          ∙ put (key_of (slot_at xs k).triple)
          ∙ ap (λ (b : Bool). cond b (Some (length xs)) (f (key_of (slot_at xs k).triple))) (same_key_is t (slot_at xs k).triple ∙ absent_at t xs k absent had)
          ∙ tabled.found k had
      | inr more ↦
          let number : k ≡ length xs = omega (arith, held_in ys k was, added.size) in
          ap (λ (j : ℕ). g (key_of (slot_at ys j).triple)) number
          ∙ ap (λ (u : Triple). g (key_of u)) added.here_triple
          ∙ put (key_of t)
          ∙ ap (λ (b : Bool). cond b (Some (length xs)) (f (key_of t))) (same_key_is t t ∙ same_terms-refl t)
          ∙ ap (λ (j : ℕ). Some j) (sym number)
    ]

    right : (key : Term × Term × Term) → IfSome (g key) (λ k. (k < length ys) × (key_of (slot_at ys k).triple ≡ key))
    right key = subst (λ (o : Option ℕ). IfSome o (λ k. (k < length ys) × (key_of (slot_at ys k).triple ≡ key))) (sym (put key)) (elim (cases_Bool (same_key (key_of t) key)) [
      | inl yea ↦
          subst (λ (b : Bool). IfSome (cond b (Some (length xs)) (f key)) (λ k. (k < length ys) × (key_of (slot_at ys k).triple ≡ key))) (sym yea)
          (omega (arith, added.size), ap key_of added.here_triple ∙ same_key-true (key_of t) key yea)
      | inr nay ↦
          subst (λ (b : Bool). IfSome (cond b (Some (length xs)) (f key)) (λ k. (k < length ys) × (key_of (slot_at ys k).triple ≡ key))) (sym nay)
          (carried (f key) (λ k. (k < length xs) × (key_of (slot_at xs k).triple ≡ key)) (λ k. (k < length ys) × (key_of (slot_at ys k).triple ≡ key))
          (λ k h. (omega (arith, added.size, h.0), ap key_of (added.triple k h.0) ∙ h.1)) (tabled.right key))
    ])

-- a record that is let go leaves its number behind, which finds nothing held
pub tabled_removed : (xs ys : List Slot) (i : ℕ) (f : Term × Term × Term → Option ℕ) → length ys ≡ length xs → (slot_at ys i).held ≡ false →
    ((k : ℕ) → k ≢ i → (slot_at ys k).held ≡ (slot_at xs k).held) → ((k : ℕ) → (slot_at ys k).triple ≡ (slot_at xs k).triple) → IsTabled xs f → IsTabled ys f
tabled_removed xs ys i f size gone held triple tabled = record { found = found; right = right }
  where
    found : (k : ℕ) → (slot_at ys k).held ≡ true → f (key_of (slot_at ys k).triple) ≡ Some k
    found k was = elim (cases_eq k i) [
      | inl same ↦ absurd (false≢true (sym gone ∙ ap (λ (j : ℕ). (slot_at ys j).held) (sym same) ∙ was))
      | inr other ↦ ap (λ (u : Triple). f (key_of u)) (triple k) ∙ tabled.found k (sym (held k other) ∙ was)
    ]

    right : (key : Term × Term × Term) → IfSome (f key) (λ k. (k < length ys) × (key_of (slot_at ys k).triple ≡ key))
    right key =
        carried (f key) (λ k. (k < length xs) × (key_of (slot_at xs k).triple ≡ key)) (λ k. (k < length ys) × (key_of (slot_at ys k).triple ≡ key))
        (λ k h. (omega (arith, size, h.0), ap key_of (triple k) ∙ h.1)) (tabled.right key)
