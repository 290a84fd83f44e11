-- Whether a pattern has a text at all.
use Rattle.std.proofs.Common.{ℕ, List, [], ◌∷◌, ◌++◌, ◌≡◌, refl, inl, inr, arith}
use Rattle.std.proofs.lemmas.Bool.{false≢true, true≢false, and_parts, or_cases, or_left, or_right}
use Rattle.std.proofs.lemmas.Bool.Decides.{nat_tests}
use Rattle.std.specs.Prelude.{Bool, true, false, not, ◌&&◌, ◌||◌, nat_le, ◌⊎◌}
use Rattle.text_patterns.specs.Patterns.{within, Pattern, Matches}
use Rattle.text_patterns.specs.Patterns.Pattern.{Never, Nothing, One, Then, Either, Many}
use Rattle.text_patterns.specs.Derivatives.{is_barren}

no_range : (low high c : ℕ) → not (nat_le low high) ≡ true → (nat_le low c && nat_le c high) ≡ true → ⊥
no_range low high c h e = grind (arith, nat_tests)

pub barren-none : (p : Pattern) (s : List ℕ) → is_barren p ≡ true → Matches p s → ⊥
barren-none Never s h m = m
barren-none Nothing s h m = false≢true h
barren-none (One []) s h m = false≢true m.2
barren-none (One (r ∷ rs)) s h m =
    let both = and_parts (not (nat_le r.0 r.1)) (is_barren (One rs)) h in
    elim (or_cases (nat_le r.0 m.0 && nat_le m.0 r.1) (within rs m.0) m.2) [
      | inl x ↦ no_range r.0 r.1 m.0 both.0 x
      | inr x ↦ barren-none (One rs) s both.1 (m.0, m.1, x)
    ]
barren-none (Then p q) s h m = elim (or_cases (is_barren p) (is_barren q) h) [ inl x ↦ barren-none p m.0 x m.3 | inr x ↦ barren-none q m.1 x m.4 ]
barren-none (Either p q) s h m =
    let both = and_parts (is_barren p) (is_barren q) h in
    elim m [ inl x ↦ barren-none p s both.0 x | inr x ↦ barren-none q s both.1 x ]
barren-none (Many p) s h m = false≢true h

low_in : (low high : ℕ) → nat_le low high ≡ true → (nat_le low low && nat_le low high) ≡ true
low_in low high h = grind (arith, nat_tests)

first_or : (a b : Bool) → (a && b) ≡ false → (a ≡ false) ⊎ (b ≡ false)
first_or true b h = inr h
first_or false b h = inl refl

neither : (a b : Bool) → (a || b) ≡ false → (a ≡ false) × (b ≡ false)
neither true b h = absurd (true≢false h)
neither false b h = (refl, h)

not_off : (b : Bool) → not b ≡ false → b ≡ true
not_off true h = refl
not_off false h = absurd (true≢false h)

pub barren-some : (p : Pattern) → is_barren p ≡ false → (s : List ℕ) × Matches p s
barren-some Never h = absurd (true≢false h)
barren-some Nothing h = ([], refl)
barren-some (One []) h = absurd (true≢false h)
barren-some (One (r ∷ rs)) h = elim (first_or (not (nat_le r.0 r.1)) (is_barren (One rs)) h) [
  | inl x ↦ (r.0 ∷ [], (r.0, refl, or_left (nat_le r.0 r.0 && nat_le r.0 r.1) (within rs r.0) (low_in r.0 r.1 (not_off (nat_le r.0 r.1) x))))
  | inr x ↦ let y = barren-some (One rs) x in
      (y.0, (y.1.0, y.1.1, or_right (nat_le r.0 y.1.0 && nat_le y.1.0 r.1) (within rs y.1.0) y.1.2))
]
barren-some (Then p q) h =
    let both = neither (is_barren p) (is_barren q) h in
    let x = barren-some p both.0 in
    let y = barren-some q both.1 in
    (x.0 ++ y.0, (x.0, y.0, refl, x.1, y.1))
barren-some (Either p q) h = elim (first_or (is_barren p) (is_barren q) h) [
  | inl x ↦ let y = barren-some p x in (y.0, inl y.1)
  | inr x ↦ let y = barren-some q x in (y.0, inr y.1)
]
barren-some (Many p) h = ([], ([], refl, tt))
