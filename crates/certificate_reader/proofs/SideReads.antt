-- Sides are told apart by their two letters.
use Rattle.std.proofs.Common.{arith, ◌≡◌, ◌+◌, ◌⊎◌, inl, inr, ℕ, Some, None, List, [], ◌∷◌, ◌++◌, drop, refl, sym, subst}
use Rattle.std.specs.Prelude.{slice_get}
use Rattle.certificate_trees.specs.declared.refusals.CertRefusal.{CertRefusal}
use Rattle.certificate_trees.specs.Reads.{IsRead}
use Rattle.certificate_trees.specs.Beginnings.{Then, Word, Either, IsWhole, IsRefused}
use Rattle.certificate_reader.specs.LineGrammar.{SideForm}
use Rattle.certificate_trees.proofs.Pieces.{byte_read, then_read, item_of_rest}
use Rattle.certificate_trees.proofs.Chains.{first_refused}
use Rattle.certificate_trees.proofs.WordReads.{word_is_whole}
use Rattle.certificate_trees.proofs.Choices.{Leaves, first_chosen, second_whole, second_chosen, leaves_first, leaves_second}
use Rattle.certificate_reader.proofs.LineChoices.{other_byte}

pub two_read : (text : List ℕ) (at c d : ℕ) → slice_get text at ≡ Some c → slice_get text (at + 1) ≡ Some d → IsRead text at (at + 2) (c ∷ d ∷ [])
two_read text at c d e f =
    let P : ℕ → Type 0 = λ n. IsRead text at n (c ∷ d ∷ []) in
    let same : at + 1 + 1 ≡ at + 2 = omega arith in
    subst P same (then_read text at (at + 1) (at + 1 + 1) (c ∷ []) (d ∷ []) (byte_read text at c e) (byte_read text (at + 1) d f))

module _ (text : List ℕ) (at : ℕ) where
  -- a side that begins with another letter
  no_s : (slice_get text at ≡ Some 115 → ⊥) → (q : List ℕ) → Either (Word (115 ∷ 101 ∷ [])) (Word (115 ∷ 115 ∷ [])) q → (n : ℕ) → Leaves text at n q
  no_s other q (inl t) n = leaves_first text at n 115 (101 ∷ []) q ([], t) other
  no_s other q (inr t) n = leaves_first text at n 115 (115 ∷ []) q ([], t) other

  no_e : (slice_get text at ≡ Some 101 → ⊥) → (q : List ℕ) → Either (Word (101 ∷ 115 ∷ [])) (Word (101 ∷ 101 ∷ [])) q → (n : ℕ) → Leaves text at n q
  no_e other q (inl t) n = leaves_first text at n 101 (115 ∷ []) q ([], t) other
  no_e other q (inr t) n = leaves_first text at n 101 (101 ∷ []) q ([], t) other

  by_se : slice_get text at ≡ Some 115 → (slice_get text (at + 1) ≡ Some 115 → ⊥) → (q : List ℕ) → SideForm q → Word (115 ∷ 101 ∷ []) q ⊎ Leaves text at 1 q
  by_se e other q (inl (inl t)) = inl t
  by_se e other q (inl (inr t)) = inr (leaves_second text at 115 115 [] q ([], t) other)
  by_se e other q (inr t) = inr (no_e (other_byte text at 115 101 e (λ f. omega (arith, f))) q t 1)

  by_ss : slice_get text at ≡ Some 115 → (slice_get text (at + 1) ≡ Some 101 → ⊥) → (q : List ℕ) → SideForm q → Word (115 ∷ 115 ∷ []) q ⊎ Leaves text at 1 q
  by_ss e other q (inl (inl t)) = inr (leaves_second text at 115 101 [] q ([], t) other)
  by_ss e other q (inl (inr t)) = inl t
  by_ss e other q (inr t) = inr (no_e (other_byte text at 115 101 e (λ f. omega (arith, f))) q t 1)

  by_es : slice_get text at ≡ Some 101 → (slice_get text (at + 1) ≡ Some 101 → ⊥) → (q : List ℕ) → SideForm q → Word (101 ∷ 115 ∷ []) q ⊎ Leaves text at 1 q
  by_es e other q (inl t) = inr (no_s (other_byte text at 101 115 e (λ f. omega (arith, f))) q t 1)
  by_es e other q (inr (inl t)) = inl t
  by_es e other q (inr (inr t)) = inr (leaves_second text at 101 101 [] q ([], t) other)

  by_ee : slice_get text at ≡ Some 101 → (slice_get text (at + 1) ≡ Some 115 → ⊥) → (q : List ℕ) → SideForm q → Word (101 ∷ 101 ∷ []) q ⊎ Leaves text at 1 q
  by_ee e other q (inl t) = inr (no_s (other_byte text at 101 115 e (λ f. omega (arith, f))) q t 1)
  by_ee e other q (inr (inl t)) = inr (leaves_second text at 101 115 [] q ([], t) other)
  by_ee e other q (inr (inr t)) = inl t

  -- `e` and another letter
  by_e : (slice_get text at ≡ Some 115 → ⊥) → (q : List ℕ) → SideForm q → Then (Word (101 ∷ [])) (Either (Word (115 ∷ [])) (Word (101 ∷ []))) q ⊎ Leaves text at 0 q
  by_e other q (inl t) = inr (no_s other q t 0)
  by_e other q (inr (inl t)) = inl (record { first = 101 ∷ []; second = 115 ∷ []; split = t; one = refl; two = inl refl })
  by_e other q (inr (inr t)) = inl (record { first = 101 ∷ []; second = 101 ∷ []; split = t; one = refl; two = inr refl })

  from_e : (q : List ℕ) → Then (Word (101 ∷ [])) (Either (Word (115 ∷ [])) (Word (101 ∷ []))) q → SideForm q
  from_e q t = by_case t.second t.split t.one t.two
    where
      by_case : (s : List ℕ) → q ≡ t.first ++ s → t.first ≡ 101 ∷ [] → (s ≡ 115 ∷ []) ⊎ (s ≡ 101 ∷ []) → SideForm q
      by_case s e f (inl g) = inr (inl (rw (e, f, g) refl))
      by_case s e f (inr g) = inr (inr (rw (e, f, g) refl))

  pub start_end : slice_get text at ≡ Some 115 → slice_get text (at + 1) ≡ Some 101 → IsWhole SideForm text at (at + 2)
  start_end e f = second_whole SideForm (Word (115 ∷ 101 ∷ [])) text at 115 e (101 ∷ [], refl) (by_se e (other_byte text (at + 1) 101 115 f (λ g. omega (arith, g)))) (λ q t. inl (inl t))
      (at + 2) (word_is_whole text (115 ∷ 101 ∷ []) at (at + 2) (two_read text at 115 101 e f))

  pub start_start : slice_get text at ≡ Some 115 → (slice_get text (at + 1) ≡ Some 101 → ⊥) → (to : ℕ) → IsWhole (Word (115 ∷ 115 ∷ [])) text at to → IsWhole SideForm text at to
  start_start e other to w = second_whole SideForm (Word (115 ∷ 115 ∷ [])) text at 115 e (115 ∷ [], refl) (by_ss e other) (λ q t. inl (inr t)) to w

  pub no_start_start : slice_get text at ≡ Some 115 → (slice_get text (at + 1) ≡ Some 101 → ⊥) → (r : CertRefusal) → IsRefused (Word (115 ∷ 115 ∷ [])) None text at r → IsRefused SideForm None text at r
  no_start_start e other r h = second_chosen SideForm (Word (115 ∷ 115 ∷ [])) text at 115 e (115 ∷ [], refl) (by_ss e other) (λ q t. inl (inr t)) None r h

  pub no_end : (slice_get text at ≡ Some 115 → ⊥) → (r : CertRefusal) → IsRefused (Word (101 ∷ [])) None text at r → IsRefused SideForm None text at r
  no_end other r h = first_chosen SideForm (Then (Word (101 ∷ [])) (Either (Word (115 ∷ [])) (Word (101 ∷ [])))) text at (by_e other) from_e None r
      (first_refused (Word (101 ∷ [])) (Either (Word (115 ∷ [])) (Word (101 ∷ []))) None text at r (115 ∷ [], inl refl) h)

  pub end_start : slice_get text at ≡ Some 101 → slice_get text (at + 1) ≡ Some 115 → IsWhole SideForm text at (at + 2)
  end_start e f = second_whole SideForm (Word (101 ∷ 115 ∷ [])) text at 101 e (115 ∷ [], refl) (by_es e (other_byte text (at + 1) 115 101 f (λ g. omega (arith, g)))) (λ q t. inr (inl t))
      (at + 2) (word_is_whole text (101 ∷ 115 ∷ []) at (at + 2) (two_read text at 101 115 e f))

  pub end_end : slice_get text at ≡ Some 101 → (slice_get text (at + 1) ≡ Some 115 → ⊥) → (to : ℕ) → IsWhole (Word (101 ∷ 101 ∷ [])) text at to → IsWhole SideForm text at to
  end_end e other to w = second_whole SideForm (Word (101 ∷ 101 ∷ [])) text at 101 e (101 ∷ [], refl) (by_ee e other) (λ q t. inr (inr t)) to w

  pub no_end_end : slice_get text at ≡ Some 101 → (slice_get text (at + 1) ≡ Some 115 → ⊥) → (r : CertRefusal) → IsRefused (Word (101 ∷ 101 ∷ [])) None text at r → IsRefused SideForm None text at r
  no_end_end e other r h = second_chosen SideForm (Word (101 ∷ 101 ∷ [])) text at 101 e (101 ∷ [], refl) (by_ee e other) (λ q t. inr (inr t)) None r h

  -- the same behind an `e` that was read
  e_stands : (mid : ℕ) → IsRead text at mid (101 ∷ []) → slice_get text at ≡ Some 101
  e_stands mid read = item_of_rest text at 101 (drop mid text) read.spelled

  pub end_start_behind : (mid : ℕ) → mid ≡ at + 1 → IsRead text at mid (101 ∷ []) → slice_get text mid ≡ Some 115 → IsWhole SideForm text at (mid + 1)
  end_start_behind mid same read f =
      let P : ℕ → Type 0 = IsWhole SideForm text at in
      let Q : ℕ → Type 0 = λ n. slice_get text n ≡ Some 115 in
      let ends : mid + 1 ≡ at + 2 = omega (arith, same) in
      subst P (sym ends) (end_start (e_stands mid read) (subst Q same f))

  pub no_end_end_behind : (mid : ℕ) → mid ≡ at + 1 → IsRead text at mid (101 ∷ []) → (slice_get text mid ≡ Some 115 → ⊥) → (r : CertRefusal) →
      IsRefused (Word (101 ∷ 101 ∷ [])) None text at r → IsRefused SideForm None text at r
  no_end_end_behind mid same read other r h =
      let Q : ℕ → Type 0 = λ n. slice_get text n ≡ Some 115 in
      no_end_end (e_stands mid read) (λ f. other (subst Q (sym same) f)) r h
