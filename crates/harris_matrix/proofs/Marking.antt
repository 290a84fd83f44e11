-- Rows of bits, set one by one and joined word by word.
use Rattle.std.proofs.Common.{arith, zero, suc, replicate, ◌≡◌, ◌≢◌, ◌<◌, ◌≤◌, ◌+◌, ◌*◌, ◌/◌, ◌%◌, ◌⊎◌, ◌||◌, ◌==◌, inl, inr, ℕ, Bool, true, false, List, [], ◌∷◌, length, get_or, bit_or, refl, sym, ap, subst, ◌∙◌, length-set}
use Rattle.std.proofs.lemmas.Bool.{cases_eq}
use Rattle.std.proofs.lemmas.List.{length-replicate}
use Rattle.std.specs.Int.{bit_at}
use Rattle.order_closure.specs.Rows.{row_width, bit_of, with_bit, IsJoined}
use Rattle.order_closure.proofs.Bits.{bit_of-none, bit_of-with_same, bit_of-with_other}
use Rattle.order_closure.proofs.Joining.{bit_joined, rows_apart, row_within, word_within}
use Rattle.harris_matrix.specs.Rows.{mark_at, IsMarked, IsRowMarked}

pub mark_within : (n i j : ℕ) → i < n → j < n → i * row_width n + j / 64 < n * row_width n
mark_within n i j h l = omega (arith, row_within i (row_width n) n h, word_within n j l)

-- two marks stand at two places
places_apart : (n i j x y : ℕ) → j < n → y < n → (x ≢ i) ⊎ (y ≢ j) →
    (x * row_width n + y / 64 ≢ i * row_width n + j / 64) ⊎ (y % 64 ≢ j % 64)
places_apart n i j x y h l other = elim (cases_eq x i) [
  | inr row ↦ elim (rows_apart x i (row_width n) row) [
    | inl below ↦ inl (λ same. omega (arith, below, same, word_within n y l, word_within n j h))
    | inr above ↦ inl (λ same. omega (arith, above, same, word_within n y l, word_within n j h))
  ]
  | inl row ↦ elim other [
    | inl apart ↦ absurd (apart row)
    | inr beside ↦ elim (cases_eq (y / 64) (j / 64)) [
      | inl word ↦ inr (λ bit. beside (omega (arith, word, bit)))
      | inr word ↦ inl (λ same. word (omega (arith, same, ap (λ m. m * row_width n) row)))
    ]
  ]
]

or_true : (a : Bool) → (a || true) ≡ true
or_true true = refl
or_true false = refl

or_false : (a : Bool) → (a || false) ≡ a
or_false true = refl
or_false false = refl

pub row_marked_none : (test : ℕ → Bool) (n i : ℕ) (words : List ℕ) → IsRowMarked test n i 0 words words
row_marked_none test n i words = record {
  size = refl;
  here = λ j h. absurd (omega arith);
  behind = λ j h l. refl;
  others = λ x j other h l. refl;
}

module _ (test : ℕ → Bool) (n i to : ℕ) (old new : List ℕ) (row : i < n) (column : to < n) (size : length old ≡ n * row_width n)
    (m : IsRowMarked test n i to old new) where
  within : i * row_width n + to / 64 < length new
  within = omega (arith, mark_within n i to row column, size, m.size)

  apart : (x j : ℕ) → j < n → (x ≢ i) ⊎ (j ≢ to) → mark_at n (with_bit new (i * row_width n) to) x j ≡ mark_at n new x j
  apart x j h other = bit_of-with_other new (i * row_width n) to (x * row_width n) j within (places_apart n i to x j column h other)

  pub row_marked_with : test to ≡ true → IsRowMarked test n i (to + 1) old (with_bit new (i * row_width n) to)
  row_marked_with e = record {
    size = length-set new (i * row_width n + to / 64) _ ∙ m.size;
    here = λ j h l. elim (cases_eq j to) [
      | inl same ↦ (let P : ℕ → Type 0 = λ k. mark_at n (with_bit new (i * row_width n) to) i k ≡ (mark_at n old i k || test k) in
          subst P (sym same) (bit_of-with_same new (i * row_width n) to within ∙ sym (or_true (mark_at n old i to)) ∙ ap (λ b. mark_at n old i to || b) (sym e)))
      | inr other ↦ apart i j l (inr other) ∙ m.here j (omega (arith, other)) l
    ];
    behind = λ j h l. (let other : j ≢ to = omega arith in apart i j l (inr other) ∙ m.behind j (omega arith) l);
    others = λ x j other h l. apart x j l (inl other) ∙ m.others x j other h l;
  }

  pub row_marked_without : test to ≡ false → IsRowMarked test n i (to + 1) old new
  row_marked_without e = record {
    size = m.size;
    here = λ j h l. elim (cases_eq j to) [
      | inl same ↦ (let P : ℕ → Type 0 = λ k. mark_at n new i k ≡ (mark_at n old i k || test k) in
          subst P (sym same) (m.behind to (omega arith) column ∙ sym (or_false (mark_at n old i to)) ∙ ap (λ b. mark_at n old i to || b) (sym e)))
      | inr other ↦ m.here j (omega (arith, other)) l
    ];
    behind = λ j h l. m.behind j (omega arith) l;
    others = m.others;
  }

pub marked_none : (test : ℕ → ℕ → Bool) (least words : List ℕ) → words ≡ replicate (length least * row_width (length least)) 0 → IsMarked test least 0 words
marked_none test least words none =
    let count : ℕ = length least * row_width (length least) in
    let P : List ℕ → Type 0 = IsMarked test least 0 in
    subst P (sym none) (record {
      size = length-replicate count 0;
      each = λ i j h. absurd (omega arith);
      rest = λ i j h l w. bit_of-none count (i * row_width (length least)) j (mark_within (length least) i j l w);
    })

pub marked_more : (test : ℕ → ℕ → Bool) (least : List ℕ) (i : ℕ) (old new : List ℕ) (bits : ℕ → Bool) → IsMarked test least i old →
    IsRowMarked bits (length least) i (length least) old new →
    ((j : ℕ) → j < length least → bits j ≡ test (get_or least i 0) (get_or least j 0)) → IsMarked test least (i + 1) new
marked_more test least i old new bits m r own = record {
  size = r.size ∙ m.size;
  each = λ x j h l w. elim (cases_eq x i) [
    | inl same ↦ (let P : ℕ → Type 0 = λ y. mark_at (length least) new y j ≡ test (get_or least y 0) (get_or least j 0) in
        let v : i < length least = omega (arith, same) in
        subst P (sym same) (r.here j w w ∙ ap (λ b. b || bits j) (m.rest i j (omega arith) v w) ∙ own j w))
    | inr other ↦ r.others x j other l w ∙ m.each x j (omega (arith, other)) l w
  ];
  rest = λ x j h l w. (let other : x ≢ i = omega arith in r.others x j other l w ∙ m.rest x j (omega arith) l w);
}

-- two words, the first joined with the second
joined_word : (a b : ℕ) → IsJoined (a ∷ b ∷ []) (bit_or a b ∷ b ∷ []) 0 1 1
joined_word a b = record { size = refl; inside = inside; outside = outside }
  where
    inside : (i : ℕ) → i < 1 → get_or (bit_or a b ∷ b ∷ []) (0 + i) 0 ≡ bit_or (get_or (a ∷ b ∷ []) (0 + i) 0) (get_or (a ∷ b ∷ []) (1 + i) 0)
    inside i h =
        let none : 0 ≡ i = omega arith in
        let P : ℕ → Type 0 = λ m. get_or (bit_or a b ∷ b ∷ []) (0 + m) 0 ≡ bit_or (get_or (a ∷ b ∷ []) (0 + m) 0) (get_or (a ∷ b ∷ []) (1 + m) 0) in
        subst P none refl

    outside : (j : ℕ) → (j < 0) ⊎ (0 + 1 ≤ j) → get_or (bit_or a b ∷ b ∷ []) j 0 ≡ get_or (a ∷ b ∷ []) j 0
    outside zero away = elim away [ inl h ↦ absurd (omega arith) | inr h ↦ absurd (omega arith) ]
    outside (suc j) away = refl

bits_join : (a b r : ℕ) → r < 64 → (bit_at (bit_or a b) r == 1) ≡ ((bit_at a r == 1) || (bit_at b r == 1))
bits_join a b r h =
    let word : r / 64 ≡ 0 = omega arith in
    let bit : r % 64 ≡ r = omega arith in
    let P : ℕ → Type 0 = λ q. (bit_at (get_or (bit_or a b ∷ b ∷ []) (0 + q) 0) (r % 64) == 1)
    ≡ ((bit_at (get_or (a ∷ b ∷ []) (0 + q) 0) (r % 64) == 1) || (bit_at (get_or (a ∷ b ∷ []) (1 + q) 0) (r % 64) == 1)) in
    let Q : ℕ → Type 0 = λ s. (bit_at (bit_or a b) s == 1) ≡ ((bit_at a s == 1) || (bit_at b s == 1)) in
    subst Q bit (subst P word (bit_joined (a ∷ b ∷ []) (bit_or a b ∷ b ∷ []) 0 1 1 r (joined_word a b) (omega arith)))

-- a bit of a word that is joined with another row's
pub bit_struck : (old row new : List ℕ) (k : ℕ) → get_or new (0 + k / 64) 0 ≡ bit_or (get_or old (0 + k / 64) 0) (get_or row (0 + k / 64) 0) →
    bit_of new 0 k ≡ (bit_of old 0 k || bit_of row 0 k)
bit_struck old row new k e =
    ap (λ n. bit_at n (k % 64) == 1) e ∙ bits_join (get_or old (0 + k / 64) 0) (get_or row (0 + k / 64) 0) (k % 64) (omega arith)
