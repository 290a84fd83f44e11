-- Digits and the numbers that they write.
use Rattle.std.proofs.Common.{ℕ, zero, suc, List, [], ◌≡◌, ◌<◌, ◌≤◌, ◌+◌, ◌-◌, length, get_or, take, drop, arith, length-drop}
use Rattle.std.proofs.lemmas.Int.{ints}
use Rattle.std.specs.Prelude.{ℤ, pos, neg_ℤ, ◌≤ℤ◌, Option, Some, None, IfSome, cond, Bool, true, false, not, slice_index, ◌&&◌, ◌==◌, nat_le}
use Rattle.std.specs.List.{position_or_len}
use Rattle.std.proofs.lemmas.List.{length-take, get_or-take}
use Rattle.std.proofs.lemmas.List.Sums.{fails_before_first}
use Rattle.std.proofs.lemmas.Bool.{and_parts, leb-true, not-false, cond_both}
use Rattle.time_primitive.specs.declared.form.Form.{Form}
use Rattle.time_primitive.specs.Parts.{digit_at, places, is_digit_byte, digits_of, AreDigits, is_negative, sign_length, year_digits, year_end, year_number, year_of, has_time, fraction_of}

-- at most four digits make a number up to 9999
pub four_digits : (digits : List ℕ) (n : ℕ) → AreDigits digits → n ≤ length digits → n ≤ 4 → places digits n ≤ 9999
four_digits digits zero d l h = omega arith
four_digits digits (suc zero) d l h = omega (arith, d 0 (omega arith))
four_digits digits (suc (suc zero)) d l h = omega (arith, d 0 (omega arith), d 1 (omega arith))
four_digits digits (suc (suc (suc zero))) d l h = omega (arith, d 0 (omega arith), d 1 (omega arith), d 2 (omega arith))
four_digits digits (suc (suc (suc (suc zero)))) d l h = omega (arith, d 0 (omega arith), d 1 (omega arith), d 2 (omega arith), d 3 (omega arith))
four_digits digits (suc (suc (suc (suc (suc n))))) d l h = absurd (omega arith)

-- five digits or more make a greater one, where the first isn't zero
pub more_digits : (digits : List ℕ) (n : ℕ) → 0 < digit_at digits 0 → 4 < n → 9999 < places digits n
more_digits digits zero d l = absurd (omega arith)
more_digits digits (suc zero) d l = absurd (omega arith)
more_digits digits (suc (suc zero)) d l = absurd (omega arith)
more_digits digits (suc (suc (suc zero))) d l = absurd (omega arith)
more_digits digits (suc (suc (suc (suc zero)))) d l = absurd (omega arith)
more_digits digits (suc (suc (suc (suc (suc zero))))) d l = omega arith
more_digits digits (suc (suc (suc (suc (suc (suc n)))))) d l =
    omega (arith, more_digits digits (suc (suc (suc (suc (suc n))))) d (omega arith))

pub length_front : (text : List ℕ) → length (digits_of text) ≤ length text
length_front text = omega (arith, length-take (position_or_len (λ b. not (is_digit_byte b)) text) text)

pub front_digits : (text : List ℕ) → AreDigits (digits_of text)
front_digits text k l =
    let first = position_or_len (λ b. not (is_digit_byte b)) text in
    let short : k < first = omega (arith, length-take first text) in
    let before : get_or (take first text) k 0 ≡ get_or text k 0 = get_or-take first text k 0 short in
    let passes : is_digit_byte (get_or text k 0) ≡ true = not-false (is_digit_byte (get_or text k 0)) (fails_before_first (λ b. not (is_digit_byte b)) text k 0 short) in
    let parts = and_parts (nat_le 48 (get_or text k 0)) (nat_le (get_or text k 0) 57) passes in
    omega (arith, before, leb-true (get_or text k 0) 57 parts.1)

pub year_length : (text : List ℕ) → length (year_digits text) ≤ length text
year_length text = omega (arith, length_front (drop (sign_length text) text), length-drop (sign_length text) text)

pub fraction_length : (form : Form) (text : List ℕ) → length (fraction_of form text) ≤ length text - (year_end text + 16)
fraction_length form text =
    cond_both (has_time form && slice_index text (year_end text + 15) == 46) (digits_of (drop (year_end text + 16) text)) []
    (λ (x : List ℕ). length x ≤ length text - (year_end text + 16))
    (λ _. omega (arith, length_front (drop (year_end text + 16) text), length-drop (year_end text + 16) text)) (λ _. omega arith)

sign_short : (text : List ℕ) → sign_length text ≤ 1
sign_short text = cond_both (is_negative text) 1 0 (λ (n : ℕ). n ≤ 1) (λ _. omega arith) (λ _. omega arith)

-- a year in range, and where it ends
abbrev pub IsShortYear : List ℕ → Option ℤ → Type 0
IsShortYear text o = IfSome o (λ y. (year_end text ≤ 5) × (neg_ℤ (pos 9999) ≤ℤ y) × (y ≤ℤ pos 9999))

signed : (b : Bool) (n : ℕ) → n ≤ 9999 → (neg_ℤ (pos 9999) ≤ℤ cond b (neg_ℤ (pos n)) (pos n)) × (cond b (neg_ℤ (pos n)) (pos n) ≤ℤ pos 9999)
signed true n h = (omega (arith, ints), omega (arith, ints))
signed false n h = (omega (arith, ints), omega (arith, ints))

pub short_year : (text : List ℕ) → IsShortYear text (year_of text)
short_year text =
    cond_both (nat_le (length (year_digits text)) 4) (Some (cond (is_negative text) (neg_ℤ (pos (year_number text))) (pos (year_number text)))) None (IsShortYear text)
    (λ h.
    let few : length (year_digits text) ≤ 4 = leb-true (length (year_digits text)) 4 h in
    let both = signed (is_negative text) (year_number text)
    (four_digits (year_digits text) (length (year_digits text)) (front_digits (drop (sign_length text) text)) (omega arith) few) in
    (omega (arith, few, sign_short text), both.0, both.1))
    (λ _. tt)
