-- The held triples as pairs, and the numbers with a term.
use Rattle.std.proofs.Common.{◌≡◌, ◌≢◌, ℕ, zero, suc, ◌+◌, ◌-◌, ◌<◌, ◌≤◌, ◌&&◌, Bool, true, false, cond, not, Option, Some, None, List, [], ◌∷◌, ◌++◌, length, get_or, map, filter, arith, refl, sym, ap, ap₂, subst, ◌∙◌, inl, inr, nat_eq, take, length-take}
use Rattle.std.proofs.lemmas.Bool.{cases_eq, both_ways, eq-eqb, ne_eqb, false≢true, cond-true, cond-false}
use Rattle.std.proofs.lemmas.List.{take_more}
use Rattle.rdf_terms.specs.declared.terms.Term.{Term}
use Rattle.rdf_terms.specs.declared.terms.Triple.{Triple}
use Rattle.triple_pool.specs.declared.Place.{Place}
use Rattle.triple_pool.specs.declared.Slot.{Slot}
use Rattle.triple_pool.specs.Pool.{has_term, Numbered, numbers_with, triple_of, without, IsNumberedFrom, number_from}
use Rattle.triple_pool.specs.Chains.{slot_at, is_at, pairs_from, listed, listed_at, IsFirstFrom}

-- a pair more or not
abbrev pub put : ℕ → Slot → List (ℕ × Triple) → List (ℕ × Triple)
put n s rest = cond s.held ((n, s.triple) ∷ rest) rest

put_alike : (n : ℕ) (s u : Slot) (rest : List (ℕ × Triple)) → s.held ≡ u.held → s.triple ≡ u.triple → put n s rest ≡ put n u rest
put_alike n s u rest h t = ap₂ (λ (b : Bool) (x : Triple). cond b ((n, x) ∷ rest) rest) h t

-- the pairs are those of the records with one more at the end
pub pairs_added : (m : ℕ) (xs ys : List Slot) (t : Triple) → length ys ≡ length xs + 1 →
    ((k : ℕ) → k < length xs → (slot_at ys k).held ≡ (slot_at xs k).held) →
    ((k : ℕ) → k < length xs → (slot_at ys k).triple ≡ (slot_at xs k).triple) →
    (slot_at ys (length xs)).held ≡ true → (slot_at ys (length xs)).triple ≡ t →
    pairs_from m ys ≡ pairs_from m xs ++ (m + length xs, t) ∷ []
pairs_added m [] [] t e h s hh ht = absurd (omega arith)
pairs_added m [] (y ∷ []) t e h s hh ht =
    ap₂ (λ (b : Bool) (x : Triple). cond b ((m, x) ∷ []) []) hh ht ∙ ap (λ (k : ℕ). (k, t) ∷ []) (omega arith)
pairs_added m [] (y ∷ z ∷ ys) t e h s hh ht = absurd (omega arith)
pairs_added m (x ∷ xs) [] t e h s hh ht = absurd (omega arith)
pairs_added m (x ∷ xs) (y ∷ ys) t e h s hh ht =
    let rest = pairs_added (suc m) xs ys t (omega arith) (λ k l. h (suc k) (omega arith)) (λ k l. s (suc k) (omega arith)) hh ht in
    ap (λ (r : List (ℕ × Triple)). put m y r) rest
    ∙ put_alike m y x (pairs_from (suc m) xs ++ (suc m + length xs, t) ∷ []) (h 0 (omega arith)) (s 0 (omega arith))
    ∙ moved x.held (ap (λ (k : ℕ). (k, t)) (omega arith))
  where
    moved : (b : Bool) → {p q : ℕ × Triple} → p ≡ q → cond b ((m, x.triple) ∷ pairs_from (suc m) xs ++ p ∷ []) (pairs_from (suc m) xs ++ p ∷ [])
        ≡ cond b ((m, x.triple) ∷ pairs_from (suc m) xs) (pairs_from (suc m) xs) ++ q ∷ []
    moved true e = ap (λ (p : ℕ × Triple). (m, x.triple) ∷ (pairs_from (suc m) xs ++ p ∷ [])) e
    moved false e = ap (λ (p : ℕ × Triple). pairs_from (suc m) xs ++ p ∷ []) e

-- no pair has a number below the first
pub none_below : (m i : ℕ) (xs : List Slot) → i < m → triple_of i (pairs_from m xs) ≡ None
none_below m i [] l = refl
none_below m i (x ∷ xs) l = by (none_below (suc m) i xs (omega arith)) x.held
  where
    by : triple_of i (pairs_from (suc m) xs) ≡ None → (b : Bool) → triple_of i (cond b ((m, x.triple) ∷ pairs_from (suc m) xs) (pairs_from (suc m) xs)) ≡ None
    by rest true = cond-false (nat_eq m i) (Some x.triple) (triple_of i (pairs_from (suc m) xs)) (ne_eqb m i (omega arith)) ∙ rest
    by rest false = rest

-- the triple of a number is that of its record, where the record is held
pub triple_of_at : (m k i : ℕ) (xs : List Slot) → i ≡ m + k → triple_of i (pairs_from m xs) ≡ cond (slot_at xs k).held (Some (slot_at xs k).triple) None
triple_of_at m k i [] e = refl
triple_of_at m zero i (x ∷ xs) e = by x.held
  where
    by : (b : Bool) → triple_of i (cond b ((m, x.triple) ∷ pairs_from (suc m) xs) (pairs_from (suc m) xs)) ≡ cond b (Some x.triple) None
    by true = cond-true (nat_eq m i) (Some x.triple) (triple_of i (pairs_from (suc m) xs)) (eq-eqb m i (omega arith))
    by false = none_below (suc m) i xs (omega arith)
triple_of_at m (suc k) i (x ∷ xs) e = by (triple_of_at (suc m) k i xs (omega arith)) x.held
  where
    by : triple_of i (pairs_from (suc m) xs) ≡ cond (slot_at xs k).held (Some (slot_at xs k).triple) None →
        (b : Bool) → triple_of i (cond b ((m, x.triple) ∷ pairs_from (suc m) xs) (pairs_from (suc m) xs)) ≡ cond (slot_at xs k).held (Some (slot_at xs k).triple) None
    by rest true = cond-false (nat_eq m i) (Some x.triple) (triple_of i (pairs_from (suc m) xs)) (ne_eqb m i (omega arith)) ∙ rest
    by rest false = rest

-- the numbers with a term are those that a walk lists
pub numbers_listed : (place : Place) (u : Term) (test : ℕ → Bool) (m : ℕ) (xs : List Slot) →
    ((k : ℕ) → k < length xs → test (m + k) ≡ is_at place u xs k) → numbers_with place u (pairs_from m xs) ≡ listed test m (length xs)
numbers_listed place u test m [] h = refl
numbers_listed place u test m (x ∷ xs) h =
    let rest = numbers_listed place u test (suc m) xs (λ k l. ap test (omega arith) ∙ h (suc k) (omega arith)) in
    let here : test m ≡ (x.held && has_term place u x.triple) = ap test (omega arith) ∙ h 0 (omega arith) in
    by x.held (has_term place u x.triple) refl rest
    ∙ ap (λ (b : Bool). cond b (m ∷ listed test (suc m) (length xs)) (listed test (suc m) (length xs))) (sym here)
  where
    by : (b c : Bool) → has_term place u x.triple ≡ c → numbers_with place u (pairs_from (suc m) xs) ≡ listed test (suc m) (length xs) →
        numbers_with place u (cond b ((m, x.triple) ∷ pairs_from (suc m) xs) (pairs_from (suc m) xs))
        ≡ cond (b && c) (m ∷ listed test (suc m) (length xs)) (listed test (suc m) (length xs))
    by true true e r =
        ap (map (λ (p : ℕ × Triple). p.0)) (cond-true (has_term place u x.triple) ((m, x.triple) ∷ filter (λ (p : ℕ × Triple). has_term place u p.1) (pairs_from (suc m) xs)) (filter (λ (p : ℕ × Triple). has_term place u p.1) (pairs_from (suc m) xs)) e)
        ∙ ap (λ (l : List ℕ). m ∷ l) r
    by true false e r =
        ap (map (λ (p : ℕ × Triple). p.0)) (cond-false (has_term place u x.triple) ((m, x.triple) ∷ filter (λ (p : ℕ × Triple). has_term place u p.1) (pairs_from (suc m) xs)) (filter (λ (p : ℕ × Triple). has_term place u p.1) (pairs_from (suc m) xs)) e)
        ∙ r
    by false c e r = r

-- what is listed from a number on begins with the first that passes
pub listed_none : (test : ℕ → Bool) (from count : ℕ) → ((k : ℕ) → from ≤ k → test k ≡ false) → listed test from count ≡ []
listed_none test from zero h = refl
listed_none test from (suc count) h =
    cond-false (test from) (from ∷ listed test (suc from) count) (listed test (suc from) count) (h from (omega arith))
    ∙ listed_none test (suc from) count (λ k l. h k (omega arith))

pub listed_first : (test : ℕ → Bool) (from count : ℕ) (o : Option ℕ) → IsFirstFrom test from o → ((k : ℕ) → from + count ≤ k → test k ≡ false) →
    listed test from count ≡ listed_at test (from + count) o
listed_first test from count None h past = listed_none test from count h
listed_first test from zero (Some j) h past = absurd (both_ways (test j) (past j (omega (arith, h.0))) h.1)
listed_first test from (suc count) (Some j) h past = elim (cases_eq from j) [
  | inl same ↦
      cond-true (test from) (from ∷ listed test (suc from) count) (listed test (suc from) count) (subst (λ (k : ℕ). test k ≡ true) (sym same) h.1)
      ∙ ap₂ (λ (k l : ℕ). k ∷ listed test (suc from) l) same (omega (arith, same))
      ∙ ap (λ (k : ℕ). j ∷ listed test k ((from + suc count) - (j + 1))) (omega (arith, same))
  | inr other ↦
      cond-false (test from) (from ∷ listed test (suc from) count) (listed test (suc from) count) (h.2 from (omega arith) (omega (arith, h.0, other)))
      ∙ listed_first test (suc from) count (Some j) (omega (arith, h.0, other), h.1, λ k a b. h.2 k (omega arith) b) (λ k l. past k (omega arith))
      ∙ ap (λ (k : ℕ). j ∷ listed test (j + 1) (k - (j + 1))) (omega arith)
]

-- the pairs without a number, where it is below all of them
pub without_below : (m i : ℕ) (xs : List Slot) → i < m → without i (pairs_from m xs) ≡ pairs_from m xs
without_below m i [] l = refl
without_below m i (x ∷ xs) l = by (without_below (suc m) i xs (omega arith)) x.held
  where
    by : without i (pairs_from (suc m) xs) ≡ pairs_from (suc m) xs → (b : Bool) →
        without i (cond b ((m, x.triple) ∷ pairs_from (suc m) xs) (pairs_from (suc m) xs)) ≡ cond b ((m, x.triple) ∷ pairs_from (suc m) xs) (pairs_from (suc m) xs)
    by rest true =
        cond-true (not (nat_eq m i)) ((m, x.triple) ∷ without i (pairs_from (suc m) xs)) (without i (pairs_from (suc m) xs)) (ap not (ne_eqb m i (omega arith)))
        ∙ ap (λ (r : List (ℕ × Triple)). (m, x.triple) ∷ r) rest
    by rest false = rest

-- the pairs are those of the records with one let go
pub pairs_removed : (m i j : ℕ) (xs ys : List Slot) → j ≡ m + i → length ys ≡ length xs → (slot_at ys i).held ≡ false →
    ((k : ℕ) → k ≢ i → (slot_at ys k).held ≡ (slot_at xs k).held) → ((k : ℕ) → (slot_at ys k).triple ≡ (slot_at xs k).triple) →
    pairs_from m ys ≡ without j (pairs_from m xs)
pairs_removed m i j [] [] e l g h s = refl
pairs_removed m i j [] (y ∷ ys) e l g h s = absurd (omega arith)
pairs_removed m i j (x ∷ xs) [] e l g h s = absurd (omega arith)
pairs_removed m zero j (x ∷ xs) (y ∷ ys) e l g h s =
    ap (λ (b : Bool). cond b ((m, y.triple) ∷ pairs_from (suc m) ys) (pairs_from (suc m) ys)) g
    ∙ same (suc m) xs ys (omega arith) (λ k. h (suc k) (omega arith)) (λ k. s (suc k))
    ∙ by x.held (without_below (suc m) j xs (omega arith))
  where
    by : (b : Bool) → without j (pairs_from (suc m) xs) ≡ pairs_from (suc m) xs →
        pairs_from (suc m) xs ≡ without j (cond b ((m, x.triple) ∷ pairs_from (suc m) xs) (pairs_from (suc m) xs))
    by true rest = sym (cond-false (not (nat_eq m j)) ((m, x.triple) ∷ without j (pairs_from (suc m) xs)) (without j (pairs_from (suc m) xs)) (ap not (eq-eqb m j (omega arith))) ∙ rest)
    by false rest = sym rest

    same : (n : ℕ) (ps qs : List Slot) → length qs ≡ length ps → ((k : ℕ) → (slot_at qs k).held ≡ (slot_at ps k).held) →
        ((k : ℕ) → (slot_at qs k).triple ≡ (slot_at ps k).triple) → pairs_from n qs ≡ pairs_from n ps
    same n [] [] z a b = refl
    same n [] (v ∷ vs) z a b = absurd (omega arith)
    same n (u ∷ us) [] z a b = absurd (omega arith)
    same n (u ∷ us) (v ∷ vs) z a b =
        ap (λ (r : List (ℕ × Triple)). put n v r) (same (suc n) us vs (omega arith) (λ k. a (suc k)) (λ k. b (suc k)))
        ∙ put_alike n v u (pairs_from (suc n) us) (a 0) (b 0)
pairs_removed m (suc i) j (x ∷ xs) (y ∷ ys) e l g h s =
    let rest = pairs_removed (suc m) i j xs ys (omega arith) (omega arith) g (λ k d. h (suc k) (omega (arith, d))) (λ k. s (suc k)) in
    ap (λ (r : List (ℕ × Triple)). put m y r) rest
    ∙ put_alike m y x (without j (pairs_from (suc m) xs)) (h 0 (omega arith)) (s 0)
    ∙ by x.held
  where
    by : (b : Bool) → cond b ((m, x.triple) ∷ without j (pairs_from (suc m) xs)) (without j (pairs_from (suc m) xs))
        ≡ without j (cond b ((m, x.triple) ∷ pairs_from (suc m) xs) (pairs_from (suc m) xs))
    by true = sym (cond-true (not (nat_eq m j)) ((m, x.triple) ∷ without j (pairs_from (suc m) xs)) (without j (pairs_from (suc m) xs)) (ap not (ne_eqb m j (omega arith))))
    by false = refl

pub pairs_few : (m : ℕ) (xs : List Slot) → length (pairs_from m xs) ≤ length xs
pairs_few m [] = omega arith
pairs_few m (x ∷ xs) = by (pairs_few (suc m) xs) x.held
  where
    by : length (pairs_from (suc m) xs) ≤ length xs → (b : Bool) → length (cond b ((m, x.triple) ∷ pairs_from (suc m) xs) (pairs_from (suc m) xs)) ≤ suc (length xs)
    by l true = omega arith
    by l false = omega arith

-- a number that is missing is not taken out
pub without_missing : (i : ℕ) (ps : List (ℕ × Triple)) → triple_of i ps ≡ None → without i ps ≡ ps
without_missing i [] h = refl
without_missing i (p ∷ ps) h = by (nat_eq p.0 i) refl h (without_missing i ps)
  where
    by : (b : Bool) → nat_eq p.0 i ≡ b → cond b (Some p.1) (triple_of i ps) ≡ None → (triple_of i ps ≡ None → without i ps ≡ ps) → without i (p ∷ ps) ≡ p ∷ ps
    by true e g rest = absurd (some_none p.1 g)
      where
        some_none : (t : Triple) → ◌≡◌ {A = Option Triple} (Some t) None → ⊥
        some_none t z = cc
    by false e g rest = cond-true (not (nat_eq p.0 i)) (p ∷ without i ps) (without i ps) (ap not e) ∙ ap (λ (r : List (ℕ × Triple)). p ∷ r) (rest g)

-- one pair is taken out
pub without_one : (m i j : ℕ) (xs : List Slot) → j ≡ m + i → (slot_at xs i).held ≡ true → length (without j (pairs_from m xs)) + 1 ≡ length (pairs_from m xs)
without_one m i j [] e h = absurd (false≢true h)
without_one m zero j (x ∷ xs) e h =
    ap (λ (b : Bool). length (without j (cond b ((m, x.triple) ∷ pairs_from (suc m) xs) (pairs_from (suc m) xs))) + 1) h
    ∙ ap (λ (l : List (ℕ × Triple)). length l + 1)
    (cond-false (not (nat_eq m j)) ((m, x.triple) ∷ without j (pairs_from (suc m) xs)) (without j (pairs_from (suc m) xs)) (ap not (eq-eqb m j (omega arith)))
    ∙ without_below (suc m) j xs (omega arith))
    ∙ omega arith
    ∙ ap (λ (b : Bool). length (cond b ((m, x.triple) ∷ pairs_from (suc m) xs) (pairs_from (suc m) xs))) (sym h)
without_one m (suc i) j (x ∷ xs) e h = by (without_one (suc m) i j xs (omega arith) h) x.held
  where
    by : length (without j (pairs_from (suc m) xs)) + 1 ≡ length (pairs_from (suc m) xs) → (b : Bool) →
        length (without j (cond b ((m, x.triple) ∷ pairs_from (suc m) xs) (pairs_from (suc m) xs))) + 1 ≡ length (cond b ((m, x.triple) ∷ pairs_from (suc m) xs) (pairs_from (suc m) xs))
    by rest true =
        ap (λ (l : List (ℕ × Triple)). length l + 1)
        (cond-true (not (nat_eq m j)) ((m, x.triple) ∷ without j (pairs_from (suc m) xs)) (without j (pairs_from (suc m) xs)) (ap not (ne_eqb m j (omega arith))))
        ∙ omega arith
    by rest false = rest

pub numbered_lower : (m n : ℕ) (ps : List (ℕ × Triple)) → m ≤ n → IsNumberedFrom n ps → IsNumberedFrom m ps
numbered_lower m n [] l h = tt
numbered_lower m n (p ∷ ps) l h = (omega (arith, h.0), h.1)

pub numbered : (m : ℕ) (xs : List Slot) → IsNumberedFrom m (pairs_from m xs)
numbered m [] = tt
numbered m (x ∷ xs) = by (numbered (suc m) xs) x.held
  where
    by : IsNumberedFrom (suc m) (pairs_from (suc m) xs) → (b : Bool) → IsNumberedFrom m (cond b ((m, x.triple) ∷ pairs_from (suc m) xs) (pairs_from (suc m) xs))
    by rest true = (omega arith, rest)
    by rest false = numbered_lower m (suc m) (pairs_from (suc m) xs) (omega arith) rest

pub numbered_pairs : (xs : List Slot) (pairs : List (ℕ × Triple)) → pairs_from 0 xs ≡ pairs → IsNumberedFrom 0 pairs
numbered_pairs xs pairs e = subst (IsNumberedFrom 0) e (numbered 0 xs)

pub number_push : (m : ℕ) (ts : List Triple) (t : Triple) → number_from m (ts ++ t ∷ []) ≡ number_from m ts ++ (m + length ts, t) ∷ []
number_push m [] t = ap (λ (k : ℕ). (k, t) ∷ []) (omega arith)
number_push m (u ∷ ts) t = ap (λ (r : List (ℕ × Triple)). (m, u) ∷ r) (number_push (suc m) ts t ∙ ap (λ (k : ℕ). number_from (suc m) ts ++ (k, t) ∷ []) (omega arith))

pub number_take : (ts : List Triple) (i : ℕ) (d : Triple) → i < length ts → number_from 0 (take i ts) ++ (i, get_or ts i d) ∷ [] ≡ number_from 0 (take (i + 1) ts)
number_take ts i d l =
    ap (λ (k : ℕ). number_from 0 (take i ts) ++ (k, get_or ts i d) ∷ []) (omega (arith, length-take i ts))
    ∙ sym (number_push 0 (take i ts) (get_or ts i d))
    ∙ ap (number_from 0) (sym (take_more ts i d l))

pub build_more : (ts : List Triple) (i : ℕ) (d : Triple) (pool after : Numbered) → i < length ts →
    pool ≡ record { pairs = number_from 0 (take i ts); used = i } →
    after ≡ record { pairs = pool.pairs ++ (pool.used, get_or ts i d) ∷ []; used = pool.used + 1 } →
    after ≡ record { pairs = number_from 0 (take (i + 1) ts); used = i + 1 }
build_more ts i d pool after l is e =
    let f : Numbered → Numbered = λ p. record { pairs = p.pairs ++ (p.used, get_or ts i d) ∷ []; used = p.used + 1 } in
    let g : List (ℕ × Triple) → Numbered = λ ps. record { pairs = ps; used = i + 1 } in
    e ∙ ap f is ∙ ap g (number_take ts i d l)
