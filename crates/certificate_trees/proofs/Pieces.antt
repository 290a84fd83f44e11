-- How the pieces between places add up.
use Rattle.std.proofs.Common.{arith, zero, suc, ◌≡◌, ◌<◌, ◌≤◌, ◌+◌, ◌-◌, ◌*◌, ◌/◌, ◌%◌, ◌^◌, ℕ, ℤ, negsuc, Some, List, [], ◌∷◌, ◌++◌, length, get_or, take, drop, refl, sym, ap, subst, ◌∙◌, append_assoc}
use Rattle.std.specs.Prelude.{slice_get}
use Rattle.std.specs.Fmt.{decimal, signed_decimal}
use Rattle.std.proofs.lemmas.List.{drop_more, take_more, take_all}
use Rattle.std.proofs.lemmas.Fmt.{decimal_digit, decimal_step_wide}
use Rattle.certificate_trees.specs.Reads.{IsRead}

pub item_is : {X : Type 0} (xs : List X) (n : ℕ) (x d : X) → slice_get xs n ≡ Some x → (n < length xs) × (get_or xs n d ≡ x)
item_is [] n x d e = absurd (cc e)
item_is (y ∷ xs) zero x d e = (omega arith, cc e)
item_is (y ∷ xs) (suc n) x d e = let rest = item_is xs n x d e in (omega (arith, rest.0), rest.1)

pub next_is : (text : List ℕ) (at b : ℕ) → slice_get text at ≡ Some b → drop at text ≡ b ∷ drop (at + 1) text
next_is text at b e = let is = item_is text at b 0 e in drop_more text at 0 is.0 ∙ ap (λ z. z ∷ drop (at + 1) text) is.1

pub within_text : (text : List ℕ) (at b : ℕ) → slice_get text at ≡ Some b → at < length text
within_text text at b e = (item_is text at b 0 e).0

pub none_read : (text : List ℕ) (at : ℕ) → at ≤ length text → IsRead text at at []
none_read text at h = record { spelled = refl; onward = omega arith; within = h }

pub then_read : (text : List ℕ) (at mid to : ℕ) (p q : List ℕ) → IsRead text at mid p → IsRead text mid to q → IsRead text at to (p ++ q)
then_read text at mid to p q h k = record {
  spelled = h.spelled ∙ ap (λ z. p ++ z) k.spelled ∙ sym (append_assoc p q (drop to text));
  onward = omega (arith, h.onward, k.onward);
  within = k.within;
}

pub byte_read : (text : List ℕ) (at b : ℕ) → slice_get text at ≡ Some b → IsRead text at (at + 1) (b ∷ [])
byte_read text at b e = record { spelled = next_is text at b e; onward = omega arith; within = (let h = (item_is text at b 0 e).0 in omega (arith, h)) }

-- the digit behind those of a number that is not zero
pub digit_more : (m d : ℕ) → 0 < m → d < 10 → m * 10 + d < 2 ^ 128 → decimal (m * 10 + d) ≡ decimal m ++ (48 + d) ∷ []
digit_more m d some small wide =
    let front : (m * 10 + d) / 10 ≡ m = omega arith in
    let last : (m * 10 + d) % 10 ≡ d = omega arith in
    decimal_step_wide (m * 10 + d) (omega arith) (omega arith) ∙ rw (front, last) refl

pub number_begun : (text : List ℕ) (at d : ℕ) → d < 10 → slice_get text at ≡ Some (48 + d) → IsRead text at (at + 1) (decimal d)
number_begun text at d small e = rw (decimal_digit d small) (byte_read text at (48 + d) e)

pub number_more : (text : List ℕ) (at to m d n : ℕ) → IsRead text at to (decimal m) → 0 < m → d < 10 → n ≡ m * 10 + d → n < 2 ^ 128 →
    slice_get text to ≡ Some (48 + d) → IsRead text at (to + 1) (decimal n)
number_more text at to m d n read some small is wide e =
    rw (is, digit_more m d some small (omega arith)) (then_read text at to (to + 1) (decimal m) ((48 + d) ∷ []) read (byte_read text to (48 + d) e))

-- one more byte of a word
pub word_more : (text word : List ℕ) (at k : ℕ) → IsRead text at (at + k) (take k word) → k < length word → slice_get text (at + k) ≡ Some (get_or word k 0) →
    IsRead text at (at + (k + 1)) (take (k + 1) word)
word_more text word at k read within e =
    let same : at + (k + 1) ≡ at + k + 1 = omega arith in
    rw (take_more word k 0 within, same) (then_read text at (at + k) (at + k + 1) (take k word) (get_or word k 0 ∷ []) read (byte_read text (at + k) (get_or word k 0) e))

pub word_whole : (text word : List ℕ) (at k : ℕ) → IsRead text at (at + k) (take k word) → length word ≤ k → IsRead text at (at + k) word
word_whole text word at k read end = let P : List ℕ → Type 0 = IsRead text at (at + k) in subst P (take_all k word end) read

pub item_of_rest : (text : List ℕ) (at b : ℕ) (rest : List ℕ) → drop at text ≡ b ∷ rest → slice_get text at ≡ Some b
item_of_rest [] zero b rest e = absurd (cc e)
item_of_rest [] (suc at) b rest e = absurd (cc e)
item_of_rest (x ∷ xs) zero b rest e = cc e
item_of_rest (x ∷ xs) (suc at) b rest e = item_of_rest xs at b rest e

-- a number that doesn't begin with 0 is more than 0
pub some_number : (text : List ℕ) (at to n : ℕ) → IsRead text at to (decimal n) → (slice_get text at ≡ Some 48 → ⊥) → 0 < n
some_number text at to zero read other = absurd (other (item_of_rest text at 48 (drop to text) (let P : List ℕ → Type 0 = λ z. drop at text ≡ z ++ drop to text in subst P (decimal_digit 0 (omega arith)) read.spelled)))
some_number text at to (suc n) read other = omega arith

pub signed_read : (text : List ℕ) (at to n : ℕ) (z : ℤ) → slice_get text at ≡ Some 45 → 0 < n → IsRead text (at + 1) to (decimal n) → z ≡ negsuc (n - 1) →
    IsRead text at to (signed_decimal z)
signed_read text at to n z e some read is =
    let same : suc (n - 1) ≡ n = omega (arith, some) in
    rw (is, same) (then_read text at (at + 1) to (45 ∷ []) (decimal n) (byte_read text at 45 e) read)
