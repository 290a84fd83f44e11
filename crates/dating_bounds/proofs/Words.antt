-- The bits that are set in words are counted by number.
use Rattle.std.proofs.Common.{zero, suc, ◌≡◌, ℕ, List, [], ◌∷◌, Bool, true, false, cond, min, max, ◌+◌, ◌*◌, ◌/◌, ◌%◌, ◌^◌, ◌<◌, ◌≤◌, get_or, arith, refl, subst, ap, sym, ◌∙◌, pow-suc}
use Rattle.std.specs.Prelude.{◌&&◌, ◌||◌, ◌==◌, bit_and, bit_or, count_ones}
use Rattle.std.specs.Int.{bit_at}
use Rattle.std.specs.Simd.Lanes.{mask_l}
use Rattle.std.proofs.lemmas.Nat.{ones_le_self}
use Rattle.std.proofs.lemmas.Nat.Bits.{bit_at_and, bit_at_or, bit_at-lt, bit_at-suc, bit_at_lowest}
use Rattle.std.proofs.lemmas.Simd.{ones-mask_l_cons}
use Rattle.order_closure.specs.Rows.{bit_of}
use Rattle.placing_witness.specs.Bits.{count_to}
use Rattle.placing_witness.proofs.Words.{count_same_to, flag_most}
use Rattle.dating_bounds.specs.Pushed.{is_set_passed}

abbrev bits_list : ℕ → ℕ → List Bool
bits_list zero n = []
bits_list (suc k) n = (bit_at n 0 == 1) ∷ bits_list k (n / 2)

bit_flag : (b : ℕ) → b < 2 → cond (b == 1) 1 0 ≡ b
bit_flag zero h = refl
bit_flag (suc zero) h = refl
bit_flag (suc (suc b)) h = absurd (omega arith)

as_mask : (k n : ℕ) → n < 2 ^ k → mask_l (bits_list k n) ≡ n
as_mask zero n h = omega arith
as_mask (suc k) n h =
    let rest : mask_l (bits_list k (n / 2)) ≡ n / 2 = as_mask k (n / 2) (omega (arith, pow-suc 2 k)) in
    let low : cond (bit_at n 0 == 1) 1 0 ≡ n % 2 = bit_flag (bit_at n 0) (bit_at-lt n 0) ∙ bit_at_lowest n in
    omega (arith, rest, low)

count_front : (test : ℕ → Bool) (k : ℕ) → count_to test (suc k) ≡ cond (test zero) 1 0 + count_to (λ i. test (suc i)) k
count_front test zero = omega arith
count_front test (suc k) = omega (arith, count_front test k)

ones_list : (k n : ℕ) → count_ones (mask_l (bits_list k n)) ≡ count_to (λ i. bit_at n i == 1) k
ones_list zero n = omega (arith, ones_le_self 0)
ones_list (suc k) n =
    ones-mask_l_cons (bit_at n 0 == 1) (bits_list k (n / 2))
    ∙ ap (λ z. cond (bit_at n 0 == 1) 1 0 + z)
    (ones_list k (n / 2) ∙ count_same_to (λ i. bit_at (n / 2) i == 1) (λ i. bit_at n (suc i) == 1) k (λ i h. ap (λ b. b == 1) (sym (bit_at-suc n i))))
    ∙ sym (count_front (λ i. bit_at n i == 1) k)

ones_count : (k n : ℕ) → n < 2 ^ k → count_ones n ≡ count_to (λ i. bit_at n i == 1) k
ones_count k n h = sym (ap count_ones (as_mask k n h)) ∙ ones_list k n

count_more : (test : ℕ → Bool) (n k : ℕ) → count_to test (n + k) ≡ count_to test n + count_to (λ i. test (n + i)) k
count_more test n zero =
    let same : n ≡ n + 0 = omega arith in
    let P : ℕ → Type 0 = λ m. count_to test m ≡ count_to test n + 0 in
    subst P same (omega arith)
count_more test n (suc k) =
    let next : suc (n + k) ≡ n + suc k = omega arith in
    let P : ℕ → Type 0 = λ m. count_to test m ≡ count_to test n + (count_to (λ i. test (n + i)) k + cond (test (n + k)) 1 0) in
    subst P next (omega (arith, count_more test n k))

pub count_most : (test : ℕ → Bool) (n : ℕ) → count_to test n ≤ n
count_most test zero = omega arith
count_most test (suc n) = omega (arith, count_most test n, flag_most (test n))

four : (x y z u : Bool) → (max (min (cond x 1 0) (cond y 1 0)) (min (cond z 1 0) (max (cond x 1 0) (cond u 1 0))) == 1) ≡ ((x && y) || (z && (x || u)))
four true true true true = refl
four true true true false = refl
four true true false true = refl
four true true false false = refl
four true false true true = refl
four true false true false = refl
four true false false true = refl
four true false false false = refl
four false true true true = refl
four false true true false = refl
four false true false true = refl
four false true false false = refl
four false false true true = refl
four false false true false = refl
four false false false true = refl
four false false false false = refl

passed_bit : (a b c d i : ℕ) →
    (bit_at (bit_or (bit_and a b) (bit_and c (bit_or a d))) i == 1) ≡ (((bit_at a i == 1) && (bit_at b i == 1)) || ((bit_at c i == 1) && ((bit_at a i == 1) || (bit_at d i == 1))))
passed_bit a b c d i =
    let flag : (n : ℕ) → bit_at n i ≡ cond (bit_at n i == 1) 1 0 = λ n. sym (bit_flag (bit_at n i) (bit_at-lt n i)) in
    let of : ℕ → ℕ → ℕ → ℕ → Bool = λ x y z u. max (min x y) (min z (max x u)) == 1 in
    ap (λ n. n == 1) (bit_at_or (bit_and a b) (bit_and c (bit_or a d)) i)
    ∙ ap (λ n. max n (bit_at (bit_and c (bit_or a d)) i) == 1) (bit_at_and a b i)
    ∙ ap (λ n. max (min (bit_at a i) (bit_at b i)) n == 1) (bit_at_and c (bit_or a d) i)
    ∙ ap (λ n. max (min (bit_at a i) (bit_at b i)) (min (bit_at c i) n) == 1) (bit_at_or a d i)
    ∙ ap (λ n. of n (bit_at b i) (bit_at c i) (bit_at d i)) (flag a)
    ∙ ap (λ n. of (cond (bit_at a i == 1) 1 0) n (bit_at c i) (bit_at d i)) (flag b)
    ∙ ap (λ n. of (cond (bit_at a i == 1) 1 0) (cond (bit_at b i == 1) 1 0) n (bit_at d i)) (flag c)
    ∙ ap (λ n. of (cond (bit_at a i == 1) 1 0) (cond (bit_at b i == 1) 1 0) (cond (bit_at c i == 1) 1 0) n) (flag d)
    ∙ four (bit_at a i == 1) (bit_at b i == 1) (bit_at c i == 1) (bit_at d i == 1)

bit_here : (row : List ℕ) (n i : ℕ) → i < 64 → bit_of row 0 (64 * n + i) ≡ (bit_at (get_or row n 0) i == 1)
bit_here row n i h =
    let word : 0 + (64 * n + i) / 64 ≡ n = omega arith in
    let bit : (64 * n + i) % 64 ≡ i = omega arith in
    ap (λ m. bit_at (get_or row m 0) ((64 * n + i) % 64) == 1) word ∙ ap (λ m. bit_at (get_or row n 0) m == 1) bit

pub word_next : (level below ahead before : List ℕ) (n count word : ℕ) → count ≡ count_to (is_set_passed level below ahead before) (64 * n) → word < 2 ^ 64 →
    word ≡ bit_or (bit_and (get_or level n 0) (get_or below n 0)) (bit_and (get_or before n 0) (bit_or (get_or level n 0) (get_or ahead n 0))) →
    count + count_ones word ≡ count_to (is_set_passed level below ahead before) (64 * (n + 1))
word_next level below ahead before n count word so_far h is_word =
    let test : ℕ → Bool = is_set_passed level below ahead before in
    let ones : count_ones word ≡ count_to (λ i. test (64 * n + i)) 64 =
    ones_count 64 word h ∙ count_same_to (λ i. bit_at word i == 1) (λ i. test (64 * n + i)) 64 (λ i l.
    ap (λ w. bit_at w i == 1) is_word ∙ passed_bit (get_or level n 0) (get_or below n 0) (get_or before n 0) (get_or ahead n 0) i
    ∙ sym (ap (λ b. (b && bit_of below 0 (64 * n + i)) || (bit_of before 0 (64 * n + i) && (b || bit_of ahead 0 (64 * n + i)))) (bit_here level n i l)
    ∙ ap (λ b. ((bit_at (get_or level n 0) i == 1) && b) || (bit_of before 0 (64 * n + i) && ((bit_at (get_or level n 0) i == 1) || bit_of ahead 0 (64 * n + i)))) (bit_here below n i l)
    ∙ ap (λ b. ((bit_at (get_or level n 0) i == 1) && (bit_at (get_or below n 0) i == 1)) || (b && ((bit_at (get_or level n 0) i == 1) || bit_of ahead 0 (64 * n + i)))) (bit_here before n i l)
    ∙ ap (λ b. ((bit_at (get_or level n 0) i == 1) && (bit_at (get_or below n 0) i == 1)) || ((bit_at (get_or before n 0) i == 1) && ((bit_at (get_or level n 0) i == 1) || b))) (bit_here ahead n i l))) in
    let next : 64 * n + 64 ≡ 64 * (n + 1) = omega arith in
    let P : ℕ → Type 0 = λ m. count + count_ones word ≡ count_to test m in
    subst P next (omega (arith, so_far, ones, count_more test (64 * n) 64))

pub bit_next : (test : ℕ → Bool) (k count : ℕ) → count ≡ count_to test k → (test k ≡ true → count + 1 ≡ count_to test (k + 1)) × (test k ≡ false → count ≡ count_to test (k + 1))
bit_next test k count so_far =
    let next : suc k ≡ k + 1 = omega arith in
    let P : ℕ → Type 0 = λ m. count + 1 ≡ count_to test m in
    let Q : ℕ → Type 0 = λ m. count ≡ count_to test m in (
      (λ h. subst P next (omega (arith, so_far, ap {B = ℕ} (λ b. cond b 1 0) h))),
      (λ h. subst Q next (omega (arith, so_far, ap {B = ℕ} (λ b. cond b 1 0) h))),
    )
