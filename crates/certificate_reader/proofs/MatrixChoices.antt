-- Which line of a matrix stands at a place, by its first bytes.
use Rattle.std.proofs.Common.{arith, ◌≡◌, ◌⊎◌, inl, inr, ℕ, Some, List, [], ◌∷◌}
use Rattle.std.specs.Prelude.{slice_get, codes}
use Rattle.certificate_trees.specs.Beginnings.{Word}
use Rattle.certificate_reader.specs.LineGrammar.{CoverForm, WalkForm, MatrixForm}
use Rattle.certificate_trees.proofs.Cuts.{word_led}
use Rattle.certificate_trees.proofs.Choices.{Leaves, leaves_first}
use Rattle.certificate_reader.proofs.LineChoices.{Chosen, by_first, other_byte}
use Rattle.certificate_reader.proofs.MatrixForms.{led_cover, led_walk}

module _ (text : List ℕ) (at : ℕ) where
  -- a line of a matrix leaves a text that begins with another letter
  no_cover : (slice_get text at ≡ Some 99 → ⊥) → (q : List ℕ) → CoverForm q → Leaves text at 0 q
  no_cover other q t = leaves_first text at 0 99 (111 ∷ 118 ∷ 101 ∷ 114 ∷ 32 ∷ []) q (led_cover q t) other

  no_walk : (slice_get text at ≡ Some 119 → ⊥) → (q : List ℕ) → WalkForm q → Leaves text at 0 q
  no_walk other q t = leaves_first text at 0 119 (97 ∷ 108 ∷ 107 ∷ 32 ∷ []) q (led_walk q t) other

  no_end_word : (slice_get text at ≡ Some 101 → ⊥) → (q : List ℕ) → Word (codes "end") q → Leaves text at 0 q
  no_end_word other q t = leaves_first text at 0 101 (110 ∷ 100 ∷ []) q (word_led (codes "end") q t) other

  pub as_cover : slice_get text at ≡ Some 99 → Chosen MatrixForm CoverForm text at
  as_cover e = by_first MatrixForm CoverForm text at each (λ q t. inl t)
    where
      each : (q : List ℕ) → MatrixForm q → CoverForm q ⊎ Leaves text at 0 q
      each q (inl t) = inl t
      each q (inr (inl t)) = inr (no_walk (other_byte text at 99 119 e (λ g. omega (arith, g))) q t)
      each q (inr (inr t)) = inr (no_end_word (other_byte text at 99 101 e (λ g. omega (arith, g))) q t)

  pub as_walk : slice_get text at ≡ Some 119 → Chosen MatrixForm WalkForm text at
  as_walk e = by_first MatrixForm WalkForm text at each (λ q t. inr (inl t))
    where
      each : (q : List ℕ) → MatrixForm q → WalkForm q ⊎ Leaves text at 0 q
      each q (inl t) = inr (no_cover (other_byte text at 119 99 e (λ g. omega (arith, g))) q t)
      each q (inr (inl t)) = inl t
      each q (inr (inr t)) = inr (no_end_word (other_byte text at 119 101 e (λ g. omega (arith, g))) q t)

  pub as_matrix_end : (slice_get text at ≡ Some 99 → ⊥) → (slice_get text at ≡ Some 119 → ⊥) → Chosen MatrixForm (Word (codes "end")) text at
  as_matrix_end not_c not_w = by_first MatrixForm (Word (codes "end")) text at each (λ q t. inr (inr t))
    where
      each : (q : List ℕ) → MatrixForm q → Word (codes "end") q ⊎ Leaves text at 0 q
      each q (inl t) = inr (no_cover not_c q t)
      each q (inr (inl t)) = inr (no_walk not_w q t)
      each q (inr (inr t)) = inl t
