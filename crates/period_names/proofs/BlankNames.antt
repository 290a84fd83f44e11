-- Words that name blank nodes.
use Rattle.std.proofs.Common.{◌≡◌, ℕ, ◌<◌, ◌^◌, ◌++◌, List, drop, Bool, Some, None, true, false, refl, sym, ap, ◌∙◌, arith}
use Rattle.std.specs.Prelude.{codes, nat_lt, if◌then◌else◌}
use Rattle.std.specs.Fmt.{decimal}
use Rattle.std.specs.Str.{bytes_eq}
use Rattle.std.proofs.lemmas.Bool.{and_parts, cond-true}
use Rattle.std.proofs.lemmas.Bool.Decides.{nat_tests}
use Rattle.std.proofs.lemmas.Fmt.{decimal_is_IsNumeral}
use Rattle.std.proofs.lemmas.Slice.Eq.{bytes_eq-Decides}
use Rattle.period_names.specs.Naming.{number_behind, is_blank_name, blank_named}

abbrev pub blank_text : ℕ → List ℕ
blank_text n = codes "_:b" ++ decimal n

number_of : (n : ℕ) → n < 2 ^ 32 → number_behind (blank_text n) ≡ n
number_of n l = (decimal_is_IsNumeral n (omega (arith, l))).1

is_below : (n : ℕ) → n < 2 ^ 32 → nat_lt n (2 ^ 32) ≡ true
is_below n l = grind (arith, nat_tests)

below : (n : ℕ) → nat_lt n (2 ^ 32) ≡ true → n < 2 ^ 32
below n l = grind (arith, nat_tests)

-- a word with the name of a number
pub named : (n : ℕ) (word : List ℕ) → n < 2 ^ 32 → word ≡ blank_text n → Some n ≡ blank_named word
named n word l e =
    let number : number_behind word ≡ n = ap number_behind e ∙ number_of n l in
    let small : nat_lt (number_behind word) (2 ^ 32) ≡ true = ap (λ (k : ℕ). nat_lt k (2 ^ 32)) number ∙ is_below n l in
    let same : bytes_eq word (blank_text (number_behind word)) ≡ true = (bytes_eq-Decides word (blank_text (number_behind word))).1 (e ∙ ap blank_text (sym number)) in
    let both : is_blank_name word ≡ true = rw (small, same) refl in
    sym (cond-true (is_blank_name word) (Some (number_behind word)) None both ∙ ap (λ (k : ℕ). Some k) number)

-- a word with none
pub not_named : (word : List ℕ) → ((n : ℕ) → n < 2 ^ 32 → word ≡ blank_text n → ⊥) → None ≡ blank_named word
not_named word h = by (is_blank_name word) refl
  where
    by : (b : Bool) → is_blank_name word ≡ b → None ≡ (if b then Some (number_behind word) else None)
    by true e =
        let parts = and_parts (nat_lt (number_behind word) (2 ^ 32)) (bytes_eq word (blank_text (number_behind word))) e in
        absurd (h (number_behind word) (below _ parts.0) ((bytes_eq-Decides word (blank_text (number_behind word))).0 parts.1))
    by false e = refl

-- what stands behind `_:b` is the number
pub behind : (n : ℕ) (word digits : List ℕ) → digits ≡ drop 3 word → word ≡ blank_text n → digits ≡ decimal n
behind n word digits d e = d ∙ ap (drop 3) e
