-- How first lines are read and refused.
use Rattle.std.proofs.Common.{arith, ◌≡◌, ◌+◌, ◌⊎◌, inl, inr, ℕ, Option, Some, None, List, ◌++◌, refl, sym, ap, subst, ◌∙◌}
use Rattle.std.specs.Prelude.{slice_get, codes}
use Rattle.certificate_trees.specs.declared.refusals.CertRefusal.{CertRefusal}
use Rattle.certificate_trees.specs.Reads.{IsRead}
use Rattle.certificate_trees.specs.Beginnings.{Then, Word, Either, Begins, IsRefused}
use Rattle.certificate_reader.specs.LineGrammar.{HeadForm}
use Rattle.certificate_trees.proofs.Cuts.{Led}
use Rattle.certificate_trees.proofs.Chains.{first_refused}
use Rattle.certificate_trees.proofs.Choices.{Leaves, first_chosen, word_chosen, leaves_at}
use Rattle.certificate_trees.proofs.TreePieces.{ends}

-- what may stand behind a word in a form
abbrev Behind : (List ℕ → Type 0) → List ℕ → List ℕ → Type 0
Behind F w r = F (w ++ r)

-- a word with which all texts of the form begin
led_refused : (F : List ℕ → Type 0) (w : List ℕ) → Led w F → Begins F w → (text : List ℕ) (at : ℕ) (depth : Option ℕ) (e : CertRefusal) → IsRefused (Word w) depth text at e →
    IsRefused F depth text at e
led_refused F w led live text at depth e h = first_chosen F (Then (Word w) (Behind F w)) text at to_rest from_rest depth e (first_refused (Word w) (Behind F w) depth text at e live h)
  where
    to_rest : (q : List ℕ) → F q → Then (Word w) (Behind F w) q ⊎ Leaves text at 0 q
    to_rest q t = (let l = led q t in inl (record { first = w; second = l.0; split = l.1; one = refl; two = subst F l.1 t }))

    from_rest : (q : List ℕ) → Then (Word w) (Behind F w) q → F q
    from_rest q t = subst F (sym (t.split ∙ ap (λ z. z ++ t.second) t.one)) t.two

-- the kinds of version 1
abbrev FirstForm : List ℕ → Type 0
FirstForm = Either (Word (codes "crmtime 1 classes\n")) (Either (Word (codes "crmtime 1 matrix\n")) (Word (codes "crmtime 1 orders\n")))

head_led : Led (codes "crmtime ") HeadForm
head_led q (inl t) = (codes "2 orders\n", t)
head_led q (inr (inl t)) = (codes "1 classes\n", t)
head_led q (inr (inr (inl t))) = (codes "1 matrix\n", t)
head_led q (inr (inr (inr t))) = (codes "1 orders\n", t)

first_led : Led (codes "crmtime 1 ") FirstForm
first_led q (inl t) = (codes "classes\n", t)
first_led q (inr (inl t)) = (codes "matrix\n", t)
first_led q (inr (inr t)) = (codes "orders\n", t)

pub start_refused : (text : List ℕ) (e : CertRefusal) → IsRefused (Word (codes "crmtime ")) None text 0 e → IsRefused HeadForm None text 0 e
start_refused text e h = led_refused HeadForm (codes "crmtime ") head_led (codes "2 orders\n", inl refl) text 0 None e h

module _ (text : List ℕ) (at : ℕ) (start : IsRead text 0 at (codes "crmtime ")) where
  place : 0 + 8 ≡ at
  place = (let e = ends text 0 at (codes "crmtime ") start in omega (arith, e))

  byte_is : (c : ℕ) → slice_get text (0 + 8) ≡ Some c → slice_get text at ≡ Some c
  byte_is c e = ap (λ z. slice_get text z) (sym place) ∙ e

  other_byte : (b c : ℕ) → slice_get text at ≡ Some b → (b ≡ c → ⊥) → slice_get text (0 + 8) ≡ Some c → ⊥
  other_byte b c e other f = other (cc (sym e ∙ byte_is c f))

  -- version 2
  is_second : slice_get text at ≡ Some 50 → (q : List ℕ) → HeadForm q → Word (codes "crmtime 2 orders\n") q ⊎ Leaves text 0 8 q
  is_second e q (inl t) = inl t
  is_second e q (inr (inl t)) = inr (leaves_at text 0 8 8 49 (codes "crmtime 1 classes\n") q t (omega arith) (omega arith) refl (other_byte 50 49 e (λ s. omega (arith, s))))
  is_second e q (inr (inr (inl t))) = inr (leaves_at text 0 8 8 49 (codes "crmtime 1 matrix\n") q t (omega arith) (omega arith) refl (other_byte 50 49 e (λ s. omega (arith, s))))
  is_second e q (inr (inr (inr t))) = inr (leaves_at text 0 8 8 49 (codes "crmtime 1 orders\n") q t (omega arith) (omega arith) refl (other_byte 50 49 e (λ s. omega (arith, s))))

  pub second_refused : slice_get text at ≡ Some 50 → (e : CertRefusal) → IsRefused (Word (codes "crmtime 2 orders\n")) None text 0 e → IsRefused HeadForm None text 0 e
  second_refused s e h = word_chosen HeadForm (Word (codes "crmtime 2 orders\n")) text 0 at 8 (codes "crmtime ") start (omega arith) (codes "2 orders\n", refl)
      (is_second s) (λ q t. inl t) None e h

  -- another version
  is_first : (slice_get text at ≡ Some 50 → ⊥) → (q : List ℕ) → HeadForm q → FirstForm q ⊎ Leaves text 0 8 q
  is_first other q (inl t) = inr (leaves_at text 0 8 8 50 (codes "crmtime 2 orders\n") q t (omega arith) (omega arith) refl (λ f. other (byte_is 50 f)))
  is_first other q (inr t) = inl t

  pub first_version_refused : (slice_get text at ≡ Some 50 → ⊥) → (e : CertRefusal) → IsRefused FirstForm None text 0 e → IsRefused HeadForm None text 0 e
  first_version_refused other e h = word_chosen HeadForm FirstForm text 0 at 8 (codes "crmtime ") start (omega arith) (codes "1 classes\n", inl refl)
      (is_first other) (λ q t. inr t) None e h

pub version_refused : (text : List ℕ) (at : ℕ) → IsRead text 0 at (codes "crmtime ") → (slice_get text at ≡ Some 50 → ⊥) → (e : CertRefusal) →
    IsRefused (Word (codes "crmtime 1 ")) None text 0 e → IsRefused HeadForm None text 0 e
version_refused text at start other e h = first_version_refused text at start other e
    (led_refused FirstForm (codes "crmtime 1 ") first_led (codes "classes\n", inl refl) text 0 None e h)

-- what stands behind `crmtime 1 `
module _ (text : List ℕ) (at : ℕ) (start : IsRead text 0 at (codes "crmtime 1 ")) where
  kind_place : 0 + 10 ≡ at
  kind_place = (let e = ends text 0 at (codes "crmtime 1 ") start in omega (arith, e))

  kind_byte : (c : ℕ) → slice_get text (0 + 10) ≡ Some c → slice_get text at ≡ Some c
  kind_byte c e = ap (λ z. slice_get text z) (sym kind_place) ∙ e

  other_kind : (b c : ℕ) → slice_get text at ≡ Some b → (b ≡ c → ⊥) → slice_get text at ≡ Some c → ⊥
  other_kind b c e other f = other (cc (sym e ∙ f))

  not_classes : (slice_get text at ≡ Some 99 → ⊥) → (q : List ℕ) → Word (codes "crmtime 1 classes\n") q → Leaves text 0 10 q
  not_classes other q t = leaves_at text 0 10 10 99 (codes "crmtime 1 classes\n") q t (omega arith) (omega arith) refl (λ f. other (kind_byte 99 f))

  not_matrix : (slice_get text at ≡ Some 109 → ⊥) → (q : List ℕ) → Word (codes "crmtime 1 matrix\n") q → Leaves text 0 10 q
  not_matrix other q t = leaves_at text 0 10 10 109 (codes "crmtime 1 matrix\n") q t (omega arith) (omega arith) refl (λ f. other (kind_byte 109 f))

  not_orders : (slice_get text at ≡ Some 111 → ⊥) → (q : List ℕ) → Word (codes "crmtime 1 orders\n") q → Leaves text 0 10 q
  not_orders other q t = leaves_at text 0 10 10 111 (codes "crmtime 1 orders\n") q t (omega arith) (omega arith) refl (λ f. other (kind_byte 111 f))

  is_classes : slice_get text at ≡ Some 99 → (q : List ℕ) → FirstForm q → Word (codes "crmtime 1 classes\n") q ⊎ Leaves text 0 10 q
  is_classes e q (inl t) = inl t
  is_classes e q (inr (inl t)) = inr (not_matrix (other_kind 99 109 e (λ s. omega (arith, s))) q t)
  is_classes e q (inr (inr t)) = inr (not_orders (other_kind 99 111 e (λ s. omega (arith, s))) q t)

  is_matrix : slice_get text at ≡ Some 109 → (q : List ℕ) → FirstForm q → Word (codes "crmtime 1 matrix\n") q ⊎ Leaves text 0 10 q
  is_matrix e q (inl t) = inr (not_classes (other_kind 109 99 e (λ s. omega (arith, s))) q t)
  is_matrix e q (inr (inl t)) = inl t
  is_matrix e q (inr (inr t)) = inr (not_orders (other_kind 109 111 e (λ s. omega (arith, s))) q t)

  is_orders : (slice_get text at ≡ Some 99 → ⊥) → (slice_get text at ≡ Some 109 → ⊥) → (q : List ℕ) → FirstForm q → Word (codes "crmtime 1 orders\n") q ⊎ Leaves text 0 10 q
  is_orders c m q (inl t) = inr (not_classes c q t)
  is_orders c m q (inr (inl t)) = inr (not_matrix m q t)
  is_orders c m q (inr (inr t)) = inl t

  pub classes_refused : slice_get text at ≡ Some 99 → (e : CertRefusal) → IsRefused (Word (codes "crmtime 1 classes\n")) None text 0 e → IsRefused FirstForm None text 0 e
  classes_refused s e h = word_chosen FirstForm (Word (codes "crmtime 1 classes\n")) text 0 at 10 (codes "crmtime 1 ") start (omega arith) (codes "classes\n", refl)
      (is_classes s) (λ q t. inl t) None e h

  pub matrix_refused : slice_get text at ≡ Some 109 → (e : CertRefusal) → IsRefused (Word (codes "crmtime 1 matrix\n")) None text 0 e → IsRefused FirstForm None text 0 e
  matrix_refused s e h = word_chosen FirstForm (Word (codes "crmtime 1 matrix\n")) text 0 at 10 (codes "crmtime 1 ") start (omega arith) (codes "matrix\n", refl)
      (is_matrix s) (λ q t. inr (inl t)) None e h

  pub orders_refused : (slice_get text at ≡ Some 99 → ⊥) → (slice_get text at ≡ Some 109 → ⊥) → (e : CertRefusal) →
      IsRefused (Word (codes "crmtime 1 orders\n")) None text 0 e → IsRefused FirstForm None text 0 e
  orders_refused c m e h = word_chosen FirstForm (Word (codes "crmtime 1 orders\n")) text 0 at 10 (codes "crmtime 1 ") start (omega arith) (codes "orders\n", refl)
      (is_orders c m) (λ q t. inr (inr t)) None e h
