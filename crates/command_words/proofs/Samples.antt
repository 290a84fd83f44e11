-- Words that ask for samples.
use Rattle.std.proofs.Common.{◌≡◌, ℕ, ◌<◌, List, Bool, Some, None, true, false, refl, sym, ap, ◌∙◌, arith}
use Rattle.std.specs.Prelude.{nat_lt, ◌&&◌, if◌then◌else◌}
use Rattle.std.specs.Fmt.{decimal}
use Rattle.std.specs.Str.{bytes_eq}
use Rattle.std.specs.Str.Parse.{digits_value}
use Rattle.std.proofs.lemmas.Bool.{and_parts, cond-true}
use Rattle.std.proofs.lemmas.Bool.Decides.{nat_tests}
use Rattle.std.proofs.lemmas.Fmt.{decimal_is_IsNumeral}
use Rattle.std.proofs.lemmas.Slice.Eq.{bytes_eq-Decides}
use Rattle.command_words.specs.Words.{is_sample_number, sample_number, writes_sample}

below : (n : ℕ) → nat_lt n 1000 ≡ true → n < 1000
below n l = grind (arith, nat_tests)

-- what is written is below 1,000, and is the number's text
pub written : (n : ℕ) (word : List ℕ) → writes_sample n word ≡ true → (n < 1000) × (decimal n ≡ word)
written n word e =
    let first = and_parts (nat_lt 0 n) (nat_lt n 1000 && bytes_eq (decimal n) word) e in
    let second = and_parts (nat_lt n 1000) (bytes_eq (decimal n) word) first.1 in
    (below n second.0, (bytes_eq-Decides (decimal n) word).0 second.1)

numbered : (n : ℕ) (word : List ℕ) → writes_sample n word ≡ true → digits_value 10 word ≡ n
numbered n word e =
    let p = written n word e in
    let l : n < 1000 = p.0 in
    ap (digits_value 10) (sym p.1) ∙ (decimal_is_IsNumeral n (omega (arith, l))).1

pub found : (n : ℕ) (word : List ℕ) → writes_sample n word ≡ true → Some n ≡ sample_number word
found n word e =
    let number = numbered n word e in
    let is : is_sample_number word ≡ true = ap (λ (k : ℕ). writes_sample k word) number ∙ e in
    sym (cond-true (is_sample_number word) (Some (digits_value 10 word)) None is ∙ ap (λ (k : ℕ). Some k) number)

pub not_found : (word : List ℕ) → (is_sample_number word ≡ true → ⊥) → None ≡ sample_number word
not_found word h = by (is_sample_number word) refl
  where
    by : (b : Bool) → is_sample_number word ≡ b → None ≡ (if b then Some (digits_value 10 word) else None)
    by true e = absurd (h e)
    by false e = refl
