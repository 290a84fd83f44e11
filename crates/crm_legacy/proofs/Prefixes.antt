-- What follows a prefix.
use Rattle.std.proofs.Common.{◌≡◌, ◌≢◌, ℕ, ◌+◌, ◌≤◌, Bool, true, false, List, ◌++◌, length, length-append, take, drop, Option, Some, None, Bor, arith, refl, sym, ap, ◌∙◌, subst}
use Rattle.std.specs.Prelude.{◌&&◌, cond, nat_le, bytes_eq, option_map}
use Rattle.std.specs.Option.{MatchOption}
use Rattle.std.proofs.Math.Seq.{take-append_seam}
use Rattle.std.proofs.lemmas.List.{take-append-drop}
use Rattle.std.proofs.lemmas.Bool.{and_parts, cond-true}
use Rattle.std.proofs.lemmas.Bool.Decides.{nat_tests}
use Rattle.std.proofs.lemmas.Slice.Eq.{bytes_eq-Decides}
use Rattle.crm_properties.specs.Names.{behind}

is_within : (m n : ℕ) → m ≤ n → nat_le m n ≡ true
is_within m n h = grind (arith, nat_tests)

pub none_behind : (p bs : List ℕ) → ((rest : List ℕ) → bs ≢ p ++ rest) → None ≡ behind p bs
none_behind p bs lacks = by (nat_le (length p) (length bs) && bytes_eq (take (length p) bs) p) refl
  where
    by : (b : Bool) → (nat_le (length p) (length bs) && bytes_eq (take (length p) bs) p) ≡ b → None ≡ cond b (Some (drop (length p) bs)) None
    by false e = refl
    by true e =
        let parts = and_parts (nat_le (length p) (length bs)) (bytes_eq (take (length p) bs) p) e in
        let same : take (length p) bs ≡ p = (bytes_eq-Decides (take (length p) bs) p).0 parts.1 in
        absurd (lacks (drop (length p) bs) (sym (take-append-drop (length p) bs) ∙ ap (λ (l : List ℕ). l ++ drop (length p) bs) same))

pub some_behind : (p bs : List ℕ) (n : ℕ) (rest : List ℕ) → n ≡ length p → bs ≡ p ++ drop n bs → rest ≡ drop n bs → Some rest ≡ behind p bs
some_behind p bs n rest size whole is =
    let fits : nat_le (length p) (length bs) ≡ true = is_within (length p) (length bs) (omega (arith, ap length whole, length-append p (drop n bs))) in
    let front : take (length p) bs ≡ p = ap (take (length p)) whole ∙ take-append_seam p (drop n bs) in
    let same : bytes_eq (take (length p) bs) p ≡ true = (bytes_eq-Decides (take (length p) bs) p).1 front in
    let both : (nat_le (length p) (length bs) && bytes_eq (take (length p) bs) p) ≡ true = rw (fits, same) refl in
    ap (λ (l : List ℕ). Some l) (is ∙ ap (λ (k : ℕ). drop k bs) size) ∙ sym (cond-true _ (Some (drop (length p) bs)) None both)
