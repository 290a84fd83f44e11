-- Each character behaves as the sample of its class.
use Rattle.std.proofs.Common.{ℕ, List, [], ◌∷◌, ◌≡◌, ◌<◌, ◌≤◌, refl, ap₂, sym, ◌∙◌, arith, inl, inr, subst}
use Rattle.std.proofs.lemmas.Bool.{and_parts, cond-false, leb-true, le-ltb, cases_lt}
use Rattle.std.specs.Prelude.{Bool, true, cond, ◌&&◌, nat_le, nat_lt, slice_index, get_or}
use Rattle.text_patterns.specs.Patterns.{within}
use Rattle.text_patterns.specs.Derivatives.{SameIn}
use Rattle.text_patterns.proofs.Spans.{no_edge, steady, same_over, same_over-true, all_below, below_at, covers, all, span_of}
use Rattle.rdf_chars.specs.Sets.{pn_chars_base, pn_chars}
use Rattle.turtle_tokens.specs.Terminals.{spelling}
use Rattle.turtle_tokens.specs.Steps.{kinds, class_at, column_of}
use Rattle.turtle_tokens.specs.Ways.{samples}
use Rattle.turtle_tokens.specs.declared.table.TheConstants.{ASCII}
use Rattle.turtle_tokens.specs.declared.kinds.TokenKind.{TokenKind}
use Rattle.turtle_tokens.specs.Lists.{each_kind}

abbrev sample : ℕ → ℕ
sample c = get_or samples (column_of c) 0

abbrev same_at : ℕ → TokenKind → Bool
same_at c k = same_over (spelling k) c c (sample (class_at c))

ascii_same : all_below 128 (λ c. all (same_at c) kinds) ≡ true
ascii_same = refl

-- from 128 on: between two edges
abbrev spans : List (ℕ × ℕ)
spans = (0x80, 0xB6) ∷ (0xB7, 0xB7) ∷ (0xB8, 0xBF) ∷ (0xC0, 0xD6) ∷ (0xD7, 0xD7) ∷ (0xD8, 0xF6) ∷ (0xF7, 0xF7) ∷ (0xF8, 0x2FF) ∷ (0x300, 0x36F) ∷ (0x370, 0x37D) ∷ (0x37E, 0x37E)
    ∷ (0x37F, 0x1FFF) ∷ (0x2000, 0x200B) ∷ (0x200C, 0x200D) ∷ (0x200E, 0x203E) ∷ (0x203F, 0x2040) ∷ (0x2041, 0x206F) ∷ (0x2070, 0x218F) ∷ (0x2190, 0x2BFF) ∷ (0x2C00, 0x2FEF) ∷ (0x2FF0, 0x3000)
    ∷ (0x3001, 0xD7FF) ∷ (0xD800, 0xF8FF) ∷ (0xF900, 0xFDCF) ∷ (0xFDD0, 0xFDEF) ∷ (0xFDF0, 0xFFFD) ∷ (0xFFFE, 0xFFFF) ∷ (0x10000, 0xEFFFF) ∷ (0xF0000, 0x10FFFF) ∷ []

abbrev span_fits : (ℕ × ℕ) → Bool
span_fits s = (no_edge pn_chars_base s.0 s.1 && no_edge pn_chars s.0 s.1) && (nat_le 128 s.0 && all (λ k. same_over (spelling k) s.0 s.1 (sample (class_at s.0))) kinds)

spans_fit : all span_fits spans ≡ true
spans_fit = refl

spans_cover : covers 128 spans ≡ true
spans_cover = refl

abbrev upper : ℕ → ℕ
upper c = cond (within pn_chars_base c) 50 (cond (within pn_chars c) 51 49)

upper_is : (c : ℕ) → 128 ≤ c → class_at c ≡ upper c
upper_is c h = cond-false (nat_lt c 128) (slice_index ASCII c) (upper c) (le-ltb c 128 h)

upper_steady : (lo hi c : ℕ) → no_edge pn_chars_base lo hi ≡ true → no_edge pn_chars lo hi ≡ true → lo ≤ c → c ≤ hi → upper c ≡ upper lo
upper_steady lo hi c e f a b = ap₂ (λ x y. cond x 50 (cond y 51 49)) (steady pn_chars_base lo hi c e a b) (steady pn_chars lo hi c f a b)

pub sampled : (k : TokenKind) (c : ℕ) → c < 0x110000 → SameIn (spelling k) c (sample (class_at c))
sampled k c h = elim (cases_lt c 128) [
  | inl low ↦ same_over-true (spelling k) c c (sample (class_at c)) c (each_kind (same_at c) (below_at 128 (λ x. all (same_at x) kinds) c ascii_same low) k) (omega arith) (omega arith)
  | inr high ↦
      let found = span_of span_fits spans 128 c spans_cover spans_fit high h in
      let lo = found.0.0 in
      let hi = found.0.1 in
      let parts = and_parts (no_edge pn_chars_base lo hi && no_edge pn_chars lo hi) (nat_le 128 lo && all (λ x. same_over (spelling x) lo hi (sample (class_at lo))) kinds) found.3 in
      let edges = and_parts (no_edge pn_chars_base lo hi) (no_edge pn_chars lo hi) parts.0 in
      let rest = and_parts (nat_le 128 lo) (all (λ x. same_over (spelling x) lo hi (sample (class_at lo))) kinds) parts.1 in
      let same : class_at lo ≡ class_at c = upper_is lo (leb-true 128 lo rest.0) ∙ sym (upper_steady lo hi c edges.0 edges.1 found.1 found.2) ∙ sym (upper_is c high) in
      subst (λ x. SameIn (spelling k) c (sample x)) same
      (same_over-true (spelling k) lo hi (sample (class_at lo)) c (each_kind (λ x. same_over (spelling x) lo hi (sample (class_at lo))) rest.1 k) found.1 found.2)
]
