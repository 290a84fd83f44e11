-- Words of bits, and the bits that two of them share.
use Rattle.std.proofs.Common.{zero, suc, ◌≡◌, ℕ, List, [], ◌∷◌, Bool, true, false, cond, ◌+◌, ◌-◌, ◌*◌, ◌^◌, ◌<◌, ◌≤◌, length, get_or, arith, inl, inr, refl, subst, ap, sym, ◌∙◌, length-append, add-one}
use Rattle.std.specs.Prelude.{◌&&◌, bit_and, count_ones}
use Rattle.std.specs.Simd.Lanes.{mask_l}
use Rattle.std.proofs.lemmas.Bool.{cases_eq}
use Rattle.std.proofs.lemmas.List.{get_or_append_left, get_or-append_right}
use Rattle.std.proofs.lemmas.Nat.{and_block, ones_le_self}
use Rattle.std.proofs.Math.Pow.{pow_mono}
use Rattle.std.proofs.lemmas.Simd.{mask_l-lt, ones-mask_l_cons}
use Rattle.order_laws.specs.declared.Reach.{Reach}
use Rattle.order_laws.specs.declared.Point.{Point}
use Rattle.order_laws.specs.Tables.{is_strict, count_where}
use Rattle.placing_witness.specs.Bits.{entry_at, bits_at, word_at, words_of, set_in_both, count_to}

length-bits : (row : List Reach) (from count : ℕ) → length (bits_at row from count) ≡ count
length-bits row from zero = refl
length-bits row from (suc count) = omega (arith, length-bits row (from + 1) count)

pub word_below : (row : List Reach) (from count : ℕ) → count < 64 → word_at row from count < 2 ^ 63
word_below row from count h = omega (arith, mask_l-lt (bits_at row from count), pow_mono {i = length (bits_at row from count)} {j = 63} (omega (arith, length-bits row from count)))

pub word_next : (row : List Reach) (from k word bit : ℕ) → k < 64 → word ≡ word_at row (from + (64 - k)) k →
    bit ≡ cond (is_strict (entry_at row (from + (63 - k)))) 1 0 → 2 * word + bit ≡ word_at row (from + (64 - (k + 1))) (k + 1)
word_next row from k word bit h is_word is_bit =
    let place : from + (64 - (k + 1)) ≡ from + (63 - k) = omega arith in
    let after : from + (64 - k) ≡ from + (63 - k) + 1 = omega arith in
    let P : ℕ → Type 0 = λ n. word ≡ word_at row n k in
    let rest : word ≡ word_at row (from + (63 - k) + 1) k = subst P after is_word in
    let Q : ℕ → ℕ → Type 0 = λ n m. 2 * word + bit ≡ word_at row n m in
    let R : ℕ → Type 0 = λ n. Q n (k + 1) in
    subst R (sym place) (subst (Q (from + (63 - k))) (sym (add-one k)) (omega (arith, rest, is_bit)))

pub flag_most : (b : Bool) → cond b 1 0 ≤ 1
flag_most true = omega arith
flag_most false = omega arith

-- two words share the bits that are set in both
and_bit : (a b : Bool) → bit_and (cond a 1 0) (cond b 1 0) ≡ cond (a && b) 1 0
and_bit true true = refl
and_bit true false = refl
and_bit false true = refl
and_bit false false = refl

bit_lt : (b : Bool) → cond b 1 0 < 2 ^ 1
bit_lt true = omega arith
bit_lt false = omega arith

and_step : (x y : Bool) (m k : ℕ) → bit_and (cond x 1 0 + 2 * m) (cond y 1 0 + 2 * k) ≡ cond (x && y) 1 0 + 2 * bit_and m k
and_step x y m k =
    let left : cond x 1 0 + 2 * m ≡ m * 2 ^ 1 + cond x 1 0 = omega arith in
    let right : cond y 1 0 + 2 * k ≡ k * 2 ^ 1 + cond y 1 0 = omega arith in
    ap (λ z. bit_and z (cond y 1 0 + 2 * k)) left ∙ ap (λ z. bit_and (m * 2 ^ 1 + cond x 1 0) z) right
    ∙ and_block 1 m k (cond x 1 0) (cond y 1 0) (bit_lt x) (bit_lt y) ∙ omega (arith, and_bit x y)

shared : List Reach → List Reach → ℕ → ℕ → List Bool
shared row other from zero = []
shared row other from (suc count) = (is_strict (entry_at row from) && is_strict (entry_at other from)) ∷ shared row other (from + 1) count

and_words : (row other : List Reach) (from count : ℕ) → bit_and (word_at row from count) (word_at other from count) ≡ mask_l (shared row other from count)
unfolding shared
and_words row other from zero = refl
and_words row other from (suc count) =
    and_step (is_strict (entry_at row from)) (is_strict (entry_at other from)) (word_at row (from + 1) count) (word_at other (from + 1) count)
    ∙ ap (λ z. cond (is_strict (entry_at row from) && is_strict (entry_at other from)) 1 0 + 2 * z) (and_words row other (from + 1) count)

count_from : (ℕ → Bool) → ℕ → ℕ → ℕ
count_from test from zero = 0
count_from test from (suc count) = cond (test from) 1 0 + count_from test (from + 1) count

no_ones : count_ones 0 ≡ 0
no_ones = omega (arith, ones_le_self 0)

ones_shared : (row other : List Reach) (from count : ℕ) →
    count_ones (mask_l (shared row other from count)) ≡ count_from (λ n. is_strict (entry_at row n) && is_strict (entry_at other n)) from count
unfolding shared count_from
ones_shared row other from zero = no_ones
ones_shared row other from (suc count) =
    ones-mask_l_cons (is_strict (entry_at row from) && is_strict (entry_at other from)) (shared row other (from + 1) count)
    ∙ ap (λ z. cond (is_strict (entry_at row from) && is_strict (entry_at other from)) 1 0 + z) (ones_shared row other (from + 1) count)

count_more : (test : ℕ → Bool) (n count : ℕ) → count_to test (n + count) ≡ count_to test n + count_from test n count
unfolding count_from
count_more test n zero =
    let same : n ≡ n + 0 = omega arith in
    let P : ℕ → Type 0 = λ m. count_to test m ≡ count_to test n + 0 in
    subst P same (omega arith)
count_more test n (suc count) =
    let next : n + suc count ≡ suc n + count = omega arith in
    let P : ℕ → Type 0 = λ m. count_to test m ≡ count_to test n + (cond (test n) 1 0 + count_from test (n + 1) count) in
    let Q : ℕ → Type 0 = λ m. count_to test (suc n + count) ≡ (count_to test n + cond (test n) 1 0) + count_from test m count in
    subst P (sym next) (omega (arith, subst Q (sym (add-one n)) (count_more test (suc n) count)))

pub length-words : (row : List Reach) (count : ℕ) → length (words_of row count) ≡ count
length-words row zero = refl
length-words row (suc count) = omega (arith, length-append (words_of row count) (word_at row (64 * count) 64 ∷ []), length-words row count)

word_read : (row : List Reach) (count n : ℕ) → n < count → get_or (words_of row count) n 0 ≡ word_at row (64 * n) 64
word_read row zero n h = absurd (omega arith)
word_read row (suc count) n h =
    elim (cases_eq n count) [
      | inl same ↦
          (let last : get_or (words_of row (suc count)) count 0 ≡ word_at row (64 * count) 64 =
          get_or-append_right (words_of row count) (word_at row (64 * count) 64 ∷ []) count count 0 (length-words row count) (omega arith)
          ∙ (let none : count - count ≡ 0 = omega arith in ap (λ k. get_or (word_at row (64 * count) 64 ∷ []) k 0) none) in
          let P : ℕ → Type 0 = λ m. get_or (words_of row (suc count)) m 0 ≡ word_at row (64 * m) 64 in
          subst P (sym same) last)
      | inr other ↦ get_or_append_left (words_of row count) (word_at row (64 * count) 64 ∷ []) 0 n (omega (arith, length-words row count)) ∙ word_read row count n (omega arith)
    ]

pub shared_so_far : (row other : List Reach) (words n : ℕ) → n ≤ words →
    set_in_both (words_of row words) (words_of other words) n ≡ count_to (λ k. is_strict (entry_at row k) && is_strict (entry_at other k)) (64 * n)
shared_so_far row other words zero h = refl
shared_so_far row other words (suc n) h =
    let test : ℕ → Bool = λ k. is_strict (entry_at row k) && is_strict (entry_at other k) in
    let word : count_ones (bit_and (get_or (words_of row words) n 0) (get_or (words_of other words) n 0)) ≡ count_from test (64 * n) 64 =
    ap (λ z. count_ones (bit_and z (get_or (words_of other words) n 0))) (word_read row words n (omega arith))
    ∙ ap (λ z. count_ones (bit_and (word_at row (64 * n) 64) z)) (word_read other words n (omega arith))
    ∙ ap count_ones (and_words row other (64 * n) 64) ∙ ones_shared row other (64 * n) 64 in
    let next : 64 * n + 64 ≡ 64 * suc n = omega arith in
    let P : ℕ → Type 0 = λ m. set_in_both (words_of row words) (words_of other words) (suc n) ≡ count_to test m in
    subst P next (omega (arith, shared_so_far row other words n (omega arith), word, count_more test (64 * n) 64))

pub count_same_to : (f g : ℕ → Bool) (n : ℕ) → ((k : ℕ) → k < n → f k ≡ g k) → count_to f n ≡ count_to g n
count_same_to f g zero h = refl
count_same_to f g (suc n) h =
    omega (arith, count_same_to f g n (λ k l. h k (omega arith)), ap {B = ℕ} (λ b. cond b 1 0) (h n (omega arith)))

-- what lies behind the end does not count
pub count_end : (f : ℕ → Bool) (n more : ℕ) → ((k : ℕ) → n ≤ k → f k ≡ false) → count_to f (n + more) ≡ count_to f n
count_end f n zero h =
    let same : n ≡ n + 0 = omega arith in
    let P : ℕ → Type 0 = λ m. count_to f m ≡ count_to f n in
    subst P same refl
count_end f n (suc more) h =
    let next : suc (n + more) ≡ n + suc more = omega arith in
    let P : ℕ → Type 0 = λ m. count_to f m ≡ count_to f n in
    subst P next (omega (arith, count_end f n more h, ap {B = ℕ} (λ b. cond b 1 0) (h (n + more) (omega arith))))

-- a count by number is the count over the list
count_step : (test : Point → Bool) (x : Point) (xs : List Point) (d : Point) (n : ℕ) → count_to (λ k. test (get_or (x ∷ xs) k d)) (suc n) ≡ cond (test x) 1 0 + count_to (λ k. test (get_or xs k d)) n
count_step test x xs d zero = omega arith
count_step test x xs d (suc n) = omega (arith, count_step test x xs d n)

pub count_listed : (test : Point → Bool) (xs : List Point) (d : Point) → count_to (λ k. test (get_or xs k d)) (length xs) ≡ count_where test xs
count_listed test [] d = refl
count_listed test (x ∷ xs) d = count_step test x xs d (length xs) ∙ ap (λ z. cond (test x) 1 0 + z) (count_listed test xs d)
