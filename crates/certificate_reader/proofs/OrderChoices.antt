-- Which line of orders or claim stands at a place, by its first bytes.
use Rattle.std.proofs.Common.{arith, ◌≡◌, ◌+◌, ◌⊎◌, inl, inr, ℕ, true, Option, Some, None, List, [], ◌∷◌, ◌++◌, refl, sym, ap, ◌∙◌, append_assoc}
use Rattle.std.specs.Prelude.{slice_get, codes, is_some}
use Rattle.certificate_trees.specs.declared.refusals.CertRefusal.{CertRefusal}
use Rattle.certificate_trees.specs.Beginnings.{Then, Word, Either, IsRefused}
use Rattle.certificate_trees.specs.Grammar.{Name}
use Rattle.certificate_trees.specs.Parts.{IsPartRefused}
use Rattle.certificate_reader.specs.LineGrammar.{Positions, QuestionForm, OrderTree, BeforeForm, AtOrBeforeForm, LackForm, ClaimForm, PlaceForm, LetForm, PairForm, CycleForm, OrderForm, OrderLineForm, PlaceLineForm}
use Rattle.certificate_trees.proofs.Cuts.{Led, word_led, behind_led}
use Rattle.certificate_trees.proofs.Choices.{Leaves, first_chosen, leaves_first, leaves_second}
use Rattle.certificate_reader.proofs.OrderForms.{led_let, led_place, led_pair, led_cycle, positions_form, lt_tree, le_tree, pair_question}
use Rattle.certificate_reader.proofs.LineChoices.{Chosen, by_first, by_second, word_begins, other_byte}

-- `let` lines stand only where facts are kept
from_let : (kept : Option ℕ) (q : List ℕ) → LetForm kept q → Then (Word (codes "let ")) (OrderTree kept) q
from_let None q t = absurd t
from_let (Some kept) q t = t

some_kept : (kept : Option ℕ) (q : List ℕ) → LetForm kept q → is_some kept ≡ true
some_kept None q t = absurd t
some_kept (Some kept) q t = refl

let_from : (kept : Option ℕ) → is_some kept ≡ true → (q : List ℕ) → Then (Word (codes "let ")) (OrderTree kept) q → LetForm kept q
let_from None e q t = absurd (cc e)
let_from (Some kept) e q t = t

module _ (kept : Option ℕ) (text : List ℕ) (at : ℕ) where
  led_before : Led (codes "lt ") (BeforeForm kept)
  led_before = behind_led (codes "lt ") (OrderTree kept)

  led_at_or_before : Led (codes "le ") (AtOrBeforeForm kept)
  led_at_or_before = behind_led (codes "le ") (Then (OrderTree kept) (Then (Word (32 ∷ [])) (Name 112)))

  led_lack : Led (codes "no ") LackForm
  led_lack = behind_led (codes "no ") (Name 112)

  pub as_lack : (slice_get text at ≡ Some 108 → ⊥) → Chosen (ClaimForm kept) LackForm text at
  as_lack other = by_first (ClaimForm kept) LackForm text at each (λ q t. inr t)
    where
      each : (q : List ℕ) → ClaimForm kept q → LackForm q ⊎ Leaves text at 0 q
      each q (inl (inl t)) = inr (leaves_first text at 0 108 (116 ∷ 32 ∷ []) q (led_before q t) other)
      each q (inl (inr t)) = inr (leaves_first text at 0 108 (101 ∷ 32 ∷ []) q (led_at_or_before q t) other)
      each q (inr t) = inl t

  pub as_before : slice_get text at ≡ Some 108 → slice_get text (at + 1) ≡ Some 116 → Chosen (ClaimForm kept) (BeforeForm kept) text at
  as_before e f = by_second (ClaimForm kept) (BeforeForm kept) text at 108 e (word_begins 108 (116 ∷ 32 ∷ []) (OrderTree kept) (lt_tree kept).live) each (λ q t. inl (inl t))
    where
      each : (q : List ℕ) → ClaimForm kept q → BeforeForm kept q ⊎ Leaves text at 1 q
      each q (inl (inl t)) = inl t
      each q (inl (inr t)) = inr (leaves_second text at 108 101 (32 ∷ []) q (led_at_or_before q t) (other_byte text (at + 1) 116 101 f (λ g. omega (arith, g))))
      each q (inr t) = inr (leaves_first text at 1 110 (111 ∷ 32 ∷ []) q (led_lack q t) (other_byte text at 108 110 e (λ g. omega (arith, g))))

  pub as_at_or_before : slice_get text at ≡ Some 108 → (slice_get text (at + 1) ≡ Some 116 → ⊥) → Chosen (ClaimForm kept) (AtOrBeforeForm kept) text at
  as_at_or_before e other = by_second (ClaimForm kept) (AtOrBeforeForm kept) text at 108 e
      (word_begins 108 (101 ∷ 32 ∷ []) (Then (OrderTree kept) (Then (Word (32 ∷ [])) (Name 112))) (le_tree kept).live) each (λ q t. inl (inr t))
    where
      each : (q : List ℕ) → ClaimForm kept q → AtOrBeforeForm kept q ⊎ Leaves text at 1 q
      each q (inl (inl t)) = inr (leaves_second text at 108 116 (32 ∷ []) q (led_before q t) other)
      each q (inl (inr t)) = inl t
      each q (inr t) = inr (leaves_first text at 1 110 (111 ∷ 32 ∷ []) q (led_lack q t) (other_byte text at 108 110 e (λ g. omega (arith, g))))

  -- each other line leaves a text that begins with `p`
  none_by_p : slice_get text at ≡ Some 112 → (q : List ℕ) → Either (CycleForm kept) (Either (LetForm kept) (Word (codes "end"))) q → Leaves text at 1 q
  none_by_p e q (inl t) = leaves_first text at 1 99 (121 ∷ 99 ∷ 108 ∷ 101 ∷ 32 ∷ []) q (led_cycle kept q t) (other_byte text at 112 99 e (λ g. omega (arith, g)))
  none_by_p e q (inr (inl t)) = leaves_first text at 1 108 (101 ∷ 116 ∷ 32 ∷ []) q (led_let kept q t) (other_byte text at 112 108 e (λ g. omega (arith, g)))
  none_by_p e q (inr (inr t)) = leaves_first text at 1 101 (110 ∷ 100 ∷ []) q (word_led (codes "end") q t) (other_byte text at 112 101 e (λ g. omega (arith, g)))

  -- a line by `p` leaves a text that begins otherwise
  no_p : (slice_get text at ≡ Some 112 → ⊥) → (q : List ℕ) → Either PlaceForm (PairForm kept) q → Leaves text at 0 q
  no_p other q (inl t) = leaves_first text at 0 112 (108 ∷ 97 ∷ 99 ∷ 101 ∷ []) q (led_place q t) other
  no_p other q (inr t) = leaves_first text at 0 112 (97 ∷ 105 ∷ 114 ∷ 32 ∷ []) q (led_pair kept q t) other

  pub as_place : slice_get text at ≡ Some 112 → slice_get text (at + 1) ≡ Some 108 → Chosen (OrderForm kept) PlaceForm text at
  as_place e f = by_second (OrderForm kept) PlaceForm text at 112 e (word_begins 112 (108 ∷ 97 ∷ 99 ∷ 101 ∷ []) Positions positions_form.live) each (λ q t. inl (inl t))
    where
      each : (q : List ℕ) → OrderForm kept q → PlaceForm q ⊎ Leaves text at 1 q
      each q (inl (inl t)) = inl t
      each q (inl (inr t)) = inr (leaves_second text at 112 97 (105 ∷ 114 ∷ 32 ∷ []) q (led_pair kept q t) (other_byte text (at + 1) 108 97 f (λ g. omega (arith, g))))
      each q (inr t) = inr (none_by_p e q t)

  pub as_pair : slice_get text at ≡ Some 112 → (slice_get text (at + 1) ≡ Some 108 → ⊥) → Chosen (OrderForm kept) (PairForm kept) text at
  as_pair e other = by_second (OrderForm kept) (PairForm kept) text at 112 e
      (word_begins 112 (97 ∷ 105 ∷ 114 ∷ 32 ∷ []) (Then QuestionForm (Then (Word (32 ∷ [])) (ClaimForm kept))) (pair_question kept).live) each (λ q t. inl (inr t))
    where
      each : (q : List ℕ) → OrderForm kept q → PairForm kept q ⊎ Leaves text at 1 q
      each q (inl (inl t)) = inr (leaves_second text at 112 108 (97 ∷ 99 ∷ 101 ∷ []) q (led_place q t) other)
      each q (inl (inr t)) = inl t
      each q (inr t) = inr (none_by_p e q t)

  pub as_cycle : slice_get text at ≡ Some 99 → Chosen (OrderForm kept) (CycleForm kept) text at
  as_cycle e = by_first (OrderForm kept) (CycleForm kept) text at each (λ q t. inr (inl t))
    where
      each : (q : List ℕ) → OrderForm kept q → CycleForm kept q ⊎ Leaves text at 0 q
      each q (inl t) = inr (no_p (other_byte text at 99 112 e (λ g. omega (arith, g))) q t)
      each q (inr (inl t)) = inl t
      each q (inr (inr (inl t))) = inr (leaves_first text at 0 108 (101 ∷ 116 ∷ 32 ∷ []) q (led_let kept q t) (other_byte text at 99 108 e (λ g. omega (arith, g))))
      each q (inr (inr (inr t))) = inr (leaves_first text at 0 101 (110 ∷ 100 ∷ []) q (word_led (codes "end") q t) (other_byte text at 99 101 e (λ g. omega (arith, g))))

  pub as_let : is_some kept ≡ true → slice_get text at ≡ Some 108 → Chosen (OrderForm kept) (Then (Word (codes "let ")) (OrderTree kept)) text at
  as_let some e = by_first (OrderForm kept) (Then (Word (codes "let ")) (OrderTree kept)) text at each (λ q t. inr (inr (inl (let_from kept some q t))))
    where
      each : (q : List ℕ) → OrderForm kept q → Then (Word (codes "let ")) (OrderTree kept) q ⊎ Leaves text at 0 q
      each q (inl t) = inr (no_p (other_byte text at 108 112 e (λ g. omega (arith, g))) q t)
      each q (inr (inl t)) = inr (leaves_first text at 0 99 (121 ∷ 99 ∷ 108 ∷ 101 ∷ 32 ∷ []) q (led_cycle kept q t) (other_byte text at 108 99 e (λ g. omega (arith, g))))
      each q (inr (inr (inl t))) = inl (from_let kept q t)
      each q (inr (inr (inr t))) = inr (leaves_first text at 0 101 (110 ∷ 100 ∷ []) q (word_led (codes "end") q t) (other_byte text at 108 101 e (λ g. omega (arith, g))))

  pub as_end : (slice_get text at ≡ Some 112 → ⊥) → (slice_get text at ≡ Some 99 → ⊥) → (is_some kept ≡ true → slice_get text at ≡ Some 108 → ⊥) → Chosen (OrderForm kept) (Word (codes "end")) text at
  as_end not_p not_c not_l = by_first (OrderForm kept) (Word (codes "end")) text at each (λ q t. inr (inr (inr t)))
    where
      each : (q : List ℕ) → OrderForm kept q → Word (codes "end") q ⊎ Leaves text at 0 q
      each q (inl t) = inr (no_p not_p q t)
      each q (inr (inl t)) = inr (leaves_first text at 0 99 (121 ∷ 99 ∷ 108 ∷ 101 ∷ 32 ∷ []) q (led_cycle kept q t) not_c)
      each q (inr (inr (inl t))) = inr (leaves_first text at 0 108 (101 ∷ 116 ∷ 32 ∷ []) q (led_let kept q t) (not_l (some_kept kept q t)))
      each q (inr (inr (inr t))) = inl t

  -- a line of a placing, read up to its line feed
  no_place : slice_get text at ≡ Some 112 → slice_get text (at + 1) ≡ Some 108 → (depth : Option ℕ) (r : CertRefusal) →
      IsRefused (Then (Word (codes "place")) (Then Positions (Word (10 ∷ [])))) depth text at r → IsRefused (Then (OrderForm kept) (Word (10 ∷ []))) depth text at r
  no_place e f depth r h = (as_place e f).line depth r
      (first_chosen (Then PlaceForm (Word (10 ∷ []))) (Then (Word (codes "place")) (Then Positions (Word (10 ∷ [])))) text at (λ q t. inl (inward q t)) outward depth r h)
    where
      inward : (q : List ℕ) → Then PlaceForm (Word (10 ∷ [])) q → Then (Word (codes "place")) (Then Positions (Word (10 ∷ []))) q
      inward q t = record {
        first = t.one.first;
        second = t.one.second ++ t.second;
        split = t.split ∙ ap (λ z. z ++ t.second) t.one.split ∙ append_assoc t.one.first t.one.second t.second;
        one = t.one.one;
        two = record { first = t.one.second; second = t.second; split = refl; one = t.one.two; two = t.two };
      }

      outward : (q : List ℕ) → Then (Word (codes "place")) (Then Positions (Word (10 ∷ []))) q → Then PlaceForm (Word (10 ∷ [])) q
      outward q t = record {
        first = t.first ++ t.two.first;
        second = t.two.second;
        split = t.split ∙ ap (λ z. t.first ++ z) t.two.split ∙ sym (append_assoc t.first t.two.first t.two.second);
        one = record { first = t.first; second = t.two.first; split = refl; one = t.one; two = t.two.one };
        two = t.two.two;
      }

  pub place_refused : slice_get text at ≡ Some 112 → slice_get text (at + 1) ≡ Some 108 → (depth : ℕ) (r : CertRefusal) → IsPartRefused PlaceLineForm depth text at r →
      IsPartRefused (OrderLineForm kept) depth text at r
  place_refused e f depth r h = record { refused = no_place e f (Some depth) r h.refused; shallow = h.shallow }
