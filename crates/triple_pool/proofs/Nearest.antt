-- Nearest numbers that pass a test, and what becomes of them where one number is added or let go.
use Rattle.std.proofs.Common.{◌≡◌, ◌≢◌, ℕ, ◌+◌, ◌<◌, ◌≤◌, Bool, true, false, cond, Option, Some, None, arith, refl, sym, ap, subst, ◌∙◌, inl, inr}
use Rattle.std.proofs.lemmas.Bool.{cases_eq, cases_lt, cases_order, both_ways, eqb-true, eq-eqb, false≢true}
use Rattle.triple_pool.specs.Chains.{IsFirstFrom, IsLastBelow, is_number, or_else, when_none}

pub is_number-true : (o : Option ℕ) (k : ℕ) → is_number o k ≡ true → o ≡ Some k
is_number-true None k h = absurd (false≢true h)
is_number-true (Some j) k h = ap (λ n. Some n) (eqb-true j k h)

pub is_number-self : (o : Option ℕ) (k : ℕ) → o ≡ Some k → is_number o k ≡ true
is_number-self o k e = subst (λ (p : Option ℕ). is_number p k ≡ true) (sym e) (eq-eqb k k refl)

pub first_carried : (after before : ℕ → Bool) (from : ℕ) → ((k : ℕ) → from ≤ k → after k ≡ before k) →
    (o : Option ℕ) → IsFirstFrom before from o → IsFirstFrom after from o
first_carried after before from same None h = λ k l. same k l ∙ h k l
first_carried after before from same (Some j) h = (h.0, same j h.0 ∙ h.1, λ k l m. same k l ∙ h.2 k l m)

pub last_carried : (after before : ℕ → Bool) (end : ℕ) → ((k : ℕ) → k < end → after k ≡ before k) →
    (o : Option ℕ) → IsLastBelow before end o → IsLastBelow after end o
last_carried after before end same None h = λ k l. same k l ∙ h k l
last_carried after before end same (Some j) h = (h.0, same j h.0 ∙ h.1, λ k l m. same k m ∙ h.2 k l m)

-- the greatest one below `end` is found by what is known of it
pub last_is : (test : ℕ → Bool) (end i : ℕ) → i < end → test i ≡ true → ((k : ℕ) → i < k → k < end → test k ≡ false) →
    (o : Option ℕ) → IsLastBelow test end o → o ≡ Some i
last_is test end i l here above None h = absurd (both_ways (test i) (h i l) here)
last_is test end i l here above (Some j) h =
    elim (cases_order i j) [
      | inl same ↦ ap (λ n. Some n) (sym same)
      | inr (inl less) ↦ absurd (both_ways (test j) (above j less h.0) h.1)
      | inr (inr more) ↦ absurd (both_ways (test i) (h.2 i more l) here)
    ]

-- and so is the least one
pub first_is : (test : ℕ → Bool) (from i : ℕ) → from ≤ i → test i ≡ true → ((k : ℕ) → from ≤ k → k < i → test k ≡ false) →
    (o : Option ℕ) → IsFirstFrom test from o → o ≡ Some i
first_is test from i l here below None h = absurd (both_ways (test i) (h i l) here)
first_is test from i l here below (Some j) h =
    elim (cases_order i j) [
      | inl same ↦ ap (λ n. Some n) (sym same)
      | inr (inl less) ↦ absurd (both_ways (test i) (h.2 i l less) here)
      | inr (inr more) ↦ absurd (both_ways (test j) (below j h.0 more) h.1)
    ]

-- number n, behind all others, begins to pass
module _ (after before : ℕ → Bool) (n : ℕ) (old : (k : ℕ) → k < n → after k ≡ before k)
    (past : (k : ℕ) → n ≤ k → before k ≡ false) (here : after n ≡ true) where
  below_from : (j : ℕ) → before j ≡ true → j < n
  below_from j h = elim (cases_lt j n) [ inl l ↦ l | inr g ↦ absurd (both_ways (before j) (past j g) h) ]

  pub first_grown : (from : ℕ) → from ≤ n → (o : Option ℕ) → IsFirstFrom before from o → IsFirstFrom after from (or_else o (Some n))
  first_grown from l None h = (l, here, λ k a b. old k b ∙ h k a)
  first_grown from l (Some j) h =
      let in_j : j < n = below_from j h.1 in
      (h.0, old j in_j ∙ h.1, λ k a b. old k (omega arith) ∙ h.2 k a b)

  pub last_grown : IsLastBelow after (n + 1) (Some n)
  last_grown = (omega arith, here, λ k a b. absurd (omega arith))

  next_by : (i : ℕ) (last o : Option ℕ) → i < n → before i ≡ true → IsLastBelow before n last → IsFirstFrom before (i + 1) o →
      (b : Bool) → is_number last i ≡ b → IsFirstFrom after (i + 1) (cond b (Some n) o)
  next_by i last o l at is_last is_next true e =
      let known : IsLastBelow before n (Some i) = subst (IsLastBelow before n) (is_number-true last i e) is_last in
      (omega arith, here, λ k a m. old k m ∙ known.2 k (omega arith) m)
  next_by i last None l at is_last is_next false e =
      absurd (both_ways (is_number last i) e
      (is_number-self last i (last_is before n i l at (λ k a m. is_next k (omega arith)) last is_last)))
  next_by i last (Some j) l at is_last is_next false e = first_grown (i + 1) (omega arith) (Some j) is_next

  -- the next number of one that was there
  pub next_grown : (i : ℕ) (last o : Option ℕ) → i < n → before i ≡ true → IsLastBelow before n last → IsFirstFrom before (i + 1) o →
      IsFirstFrom after (i + 1) (cond (is_number last i) (Some n) o)
  next_grown i last o l at is_last is_next = next_by i last o l at is_last is_next (is_number last i) refl

pub last_extended : (after before : ℕ → Bool) (n : ℕ) → ((k : ℕ) → k < n → after k ≡ before k) → after n ≡ false →
    (o : Option ℕ) → IsLastBelow before n o → IsLastBelow after (n + 1) o
last_extended after before n old here None h =
    λ k l. elim (cases_eq k n) [
      | inl same ↦ subst (λ (i : ℕ). after i ≡ false) (sym same) here
      | inr other ↦ (let m : k < n = omega (arith, other) in old k m ∙ h k m)
    ]
last_extended after before n old here (Some j) h = (
  omega (arith, h.0),
  old j h.0 ∙ h.1,
  λ k a l. elim (cases_eq k n) [
    | inl same ↦ subst (λ (i : ℕ). after i ≡ false) (sym same) here
    | inr other ↦ (let m : k < n = omega (arith, other) in old k m ∙ h.2 k a m)
  ],
)

-- number i, which passes, no longer does
module _ (after before : ℕ → Bool) (i : ℕ) (old : (k : ℕ) → k ≢ i → after k ≡ before k) (gone : after i ≡ false) (was : before i ≡ true)
    (b a : Option ℕ) (is_b : IsLastBelow before i b) (is_a : IsFirstFrom before (i + 1) a) where
  -- each number that did not pass does not pass
  none_after : (k : ℕ) → (k ≢ i → before k ≡ false) → after k ≡ false
  none_after k h = elim (cases_eq k i) [
    | inl same ↦ subst (λ (j : ℕ). after j ≡ false) (sym same) gone
    | inr other ↦ old k other ∙ h other
  ]

  -- what a is, seen from a number at or below i, where none between them passes
  pub onward : (from : ℕ) → from ≤ i → ((k : ℕ) → from ≤ k → k < i → before k ≡ false) → (o : Option ℕ) → o ≡ a → IsFirstFrom after from o
  onward from l none None e =
      let f : IsFirstFrom before (i + 1) None = subst (IsFirstFrom before (i + 1)) (sym e) is_a in
      λ k m. none_after k (λ other. elim (cases_lt k i) [ inl less ↦ none k m less | inr more ↦ f k (omega (arith, other)) ])
  onward from l none (Some j) e =
      let f : IsFirstFrom before (i + 1) (Some j) = subst (IsFirstFrom before (i + 1)) (sym e) is_a in
      let apart : j ≢ i = omega (arith, f.0) in (
        omega (arith, f.0),
        old j apart ∙ f.1,
        λ k m n. none_after k (λ other. elim (cases_lt k i) [ inl less ↦ none k m less | inr more ↦ f.2 k (omega (arith, other)) n ]),
      )

  -- what b is, seen from a number above i, where none between them passes
  pub backward : (end : ℕ) → i < end → ((k : ℕ) → i < k → k < end → before k ≡ false) → (o : Option ℕ) → o ≡ b → IsLastBelow after end o
  backward end l none None e =
      let f : IsLastBelow before i None = subst (IsLastBelow before i) (sym e) is_b in
      λ k m. none_after k (λ other. elim (cases_lt k i) [ inl less ↦ f k less | inr more ↦ none k (omega (arith, other)) m ])
  backward end l none (Some j) e =
      let f : IsLastBelow before i (Some j) = subst (IsLastBelow before i) (sym e) is_b in
      let apart : j ≢ i = omega (arith, f.0) in (
        omega (arith, f.0),
        old j apart ∙ f.1,
        λ k m n. none_after k (λ other. elim (cases_lt k i) [ inl less ↦ f.2 k m less | inr more ↦ none k (omega (arith, other)) n ]),
      )

  -- a nearest number other than i stays
  first_stays : (from : ℕ) (o : Option ℕ) → ((j : ℕ) → o ≡ Some j → j ≢ i) → IsFirstFrom before from o → IsFirstFrom after from o
  first_stays from None apart h = λ k l. none_after k (λ other. h k l)
  first_stays from (Some j) apart h = (h.0, old j (apart j refl) ∙ h.1, λ k l m. none_after k (λ other. h.2 k l m))

  last_stays : (end : ℕ) (o : Option ℕ) → ((j : ℕ) → o ≡ Some j → j ≢ i) → IsLastBelow before end o → IsLastBelow after end o
  last_stays end None apart h = λ k l. none_after k (λ other. h k l)
  last_stays end (Some j) apart h = (h.0, old j (apart j refl) ∙ h.1, λ k l m. none_after k (λ other. h.2 k l m))

  next_kept : (k : ℕ) (o : Option ℕ) → k ≢ i → before k ≡ true → IsFirstFrom before (k + 1) o →
      (c : Bool) → is_number b k ≡ c → IsFirstFrom after (k + 1) (cond c a o)
  next_kept k o apart at h true e =
      let f : IsLastBelow before i (Some k) = subst (IsLastBelow before i) (is_number-true b k e) is_b in
      onward (k + 1) (omega (arith, f.0)) (λ m x y. f.2 m (omega arith) y) a refl
  next_kept k o apart at h false e =
      first_stays (k + 1) o
      (λ j is same. both_ways (is_number b k) e (is_number-self b k (
      let here : IsFirstFrom before (k + 1) (Some i) = subst (IsFirstFrom before (k + 1)) (is ∙ ap (λ n. Some n) same) h in
      last_is before i k (omega (arith, here.0)) at (λ m x y. here.2 m (omega arith) y) b is_b)))
      h

  pub next_removed : (k : ℕ) (o : Option ℕ) → k ≢ i → before k ≡ true → IsFirstFrom before (k + 1) o →
      IsFirstFrom after (k + 1) (cond (is_number b k) a o)
  next_removed k o apart at h = next_kept k o apart at h (is_number b k) refl

  before_kept : (k : ℕ) (o : Option ℕ) → k ≢ i → before k ≡ true → IsLastBelow before k o →
      (c : Bool) → is_number a k ≡ c → IsLastBelow after k (cond c b o)
  before_kept k o apart at h true e =
      let f : IsFirstFrom before (i + 1) (Some k) = subst (IsFirstFrom before (i + 1)) (is_number-true a k e) is_a in
      backward k (omega (arith, f.0)) (λ m x y. f.2 m (omega arith) y) b refl
  before_kept k o apart at h false e =
      last_stays k o
      (λ j is same. both_ways (is_number a k) e (is_number-self a k (
      let here : IsLastBelow before k (Some i) = subst (IsLastBelow before k) (is ∙ ap (λ n. Some n) same) h in
      first_is before (i + 1) k (omega (arith, here.0)) at (λ m x y. here.2 m (omega arith) y) a is_a)))
      h

  pub before_removed : (k : ℕ) (o : Option ℕ) → k ≢ i → before k ≡ true → IsLastBelow before k o →
      IsLastBelow after k (cond (is_number a k) b o)
  before_removed k o apart at h = before_kept k o apart at h (is_number a k) refl

  first_by : (o x : Option ℕ) → x ≡ b → IsFirstFrom before 0 o → IsFirstFrom after 0 (when_none x a o)
  first_by o None e h =
      let f : IsLastBelow before i None = subst (IsLastBelow before i) (sym e) is_b in
      onward 0 (omega arith) (λ k m n. f k n) a refl
  first_by o (Some x) e h =
      let f : IsLastBelow before i (Some x) = subst (IsLastBelow before i) (sym e) is_b in
      first_stays 0 o
      (λ j is same. let here : IsFirstFrom before 0 (Some i) = subst (IsFirstFrom before 0) (is ∙ ap (λ n. Some n) same) h in
      both_ways (before x) (here.2 x (omega arith) f.0) f.1)
      h

  pub first_removed : (o : Option ℕ) → IsFirstFrom before 0 o → IsFirstFrom after 0 (when_none b a o)
  first_removed o h = first_by o b refl h

  last_by : (end : ℕ) → i < end → ((k : ℕ) → end ≤ k → before k ≡ false) → (o x : Option ℕ) → x ≡ a → IsLastBelow before end o →
      IsLastBelow after end (when_none x b o)
  last_by end l past o None e h =
      let f : IsFirstFrom before (i + 1) None = subst (IsFirstFrom before (i + 1)) (sym e) is_a in
      backward end l (λ k m n. f k (omega arith)) b refl
  last_by end l past o (Some x) e h =
      let f : IsFirstFrom before (i + 1) (Some x) = subst (IsFirstFrom before (i + 1)) (sym e) is_a in
      let in_x : x < end = elim (cases_lt x end) [ inl less ↦ less | inr more ↦ absurd (both_ways (before x) (past x more) f.1) ] in
      last_stays end o
      (λ j is same. let here : IsLastBelow before end (Some i) = subst (IsLastBelow before end) (is ∙ ap (λ n. Some n) same) h in
      both_ways (before x) (here.2 x (omega (arith, f.0)) in_x) f.1)
      h

  pub last_removed : (end : ℕ) → i < end → ((k : ℕ) → end ≤ k → before k ≡ false) → (o : Option ℕ) → IsLastBelow before end o →
      IsLastBelow after end (when_none a b o)
  last_removed end l past o h = last_by end l past o a refl h
