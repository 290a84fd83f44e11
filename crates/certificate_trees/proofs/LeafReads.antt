-- How leaves are read and refused.
use Rattle.std.proofs.Common.{arith, ◌≡◌, ◌≤◌, ◌+◌, ◌⊎◌, inl, inr, ℕ, Option, Some, None, List, [], ◌∷◌, length, refl, sym, ◌∙◌}
use Rattle.std.specs.Prelude.{slice_get}
use Rattle.certificate_trees.specs.declared.refusals.CertRefusal.{CertRefusal}
use Rattle.certificate_trees.specs.declared.refusals.CertRefusal.TheVariants.{K1}
use Rattle.certificate_trees.specs.Beginnings.{Then, Word, Either, IsWhole, IsStopped, IsRefused, IsDigit}
use Rattle.certificate_trees.specs.Grammar.{Number, Name}
use Rattle.certificate_trees.specs.LeafGrammar.{Code, ClassLeaf, OrderLeaf}
use Rattle.certificate_trees.proofs.Cuts.{Led, behind_led, behind_form, behind_avoids, Avoids}
use Rattle.certificate_trees.proofs.Chains.{first_refused, behind, behind_plain, whole_behind, whole_behind_word}
use Rattle.certificate_trees.proofs.Choices.{Leaves, leaves_first, first_chosen, first_whole}
use Rattle.certificate_trees.proofs.NumberReads.{letter_refused, name_refused, name_whole}
use Rattle.certificate_trees.proofs.LeafForms.{code_form}
use Rattle.certificate_trees.proofs.TreeForms.{no_digit}

-- the second of two forms begins with a byte that doesn't stand here
module _ (T U : List ℕ → Type 0) (text : List ℕ) (at b : ℕ) (w : List ℕ) (led : Led (b ∷ w) U) (other : slice_get text at ≡ Some b → ⊥) where
  not_second : (q : List ℕ) → T q ⊎ U q → T q ⊎ Leaves text at 0 q
  not_second q (inl t) = inl t
  not_second q (inr u) = inr (leaves_first text at 0 b w q (led q u) other)

  pub left_whole : (to : ℕ) → IsWhole T text at to → IsWhole (Either T U) text at to
  left_whole to h = first_whole (Either T U) T text at not_second (λ q t. inl t) to h

  pub left_refused : (depth : Option ℕ) (e : CertRefusal) → IsRefused T depth text at e → IsRefused (Either T U) depth text at e
  left_refused depth e h = first_chosen (Either T U) T text at not_second (λ q t. inl t) depth e h

-- the first of them begins with such a byte
module _ (T U : List ℕ → Type 0) (text : List ℕ) (at b : ℕ) (w : List ℕ) (led : Led (b ∷ w) T) (other : slice_get text at ≡ Some b → ⊥) where
  not_first : (q : List ℕ) → T q ⊎ U q → U q ⊎ Leaves text at 0 q
  not_first q (inl t) = inr (leaves_first text at 0 b w q (led q t) other)
  not_first q (inr u) = inl u

  pub right_whole : (to : ℕ) → IsWhole U text at to → IsWhole (Either T U) text at to
  right_whole to h = first_whole (Either T U) U text at not_first (λ q u. inr u) to h

  pub right_refused : (depth : Option ℕ) (e : CertRefusal) → IsRefused U depth text at e → IsRefused (Either T U) depth text at e
  right_refused depth e h = first_chosen (Either T U) U text at not_first (λ q u. inr u) depth e h

pub one_byte : (o : Option ℕ) (a b : ℕ) → o ≡ Some a → o ≡ Some b → a ≡ b
one_byte o a b e f = cc (sym e ∙ f)

name_led : (letter : ℕ) → Led (letter ∷ []) (Name letter)
name_led letter = behind_led (letter ∷ []) Number

pub code_none : (text : List ℕ) (at : ℕ) → at ≤ length text → (slice_get text at ≡ Some 69 → ⊥) → (slice_get text at ≡ Some 65 → ⊥) → IsStopped Code text at at
code_none text at within e a = left_refused (Name 69) (Name 65) text at 65 [] (name_led 65) a None (K1 at) (letter_refused text at 69 within e)

pub code_whole : (text : List ℕ) (at to : ℕ) → (slice_get text at ≡ Some 69) ⊎ (slice_get text at ≡ Some 65) → IsWhole Number text (at + 1) to → IsWhole Code text at to
code_whole text at to (inl e) w = left_whole (Name 69) (Name 65) text at 65 [] (name_led 65)
    (λ f. (let same = one_byte (slice_get text at) 69 65 e f in omega (arith, same))) to (name_whole text at to 69 e w)
code_whole text at to (inr e) w = right_whole (Name 69) (Name 65) text at 69 [] (name_led 69)
    (λ f. (let same = one_byte (slice_get text at) 65 69 e f in omega (arith, same))) to (name_whole text at to 65 e w)

pub code_refused : (text : List ℕ) (at : ℕ) → (slice_get text at ≡ Some 69) ⊎ (slice_get text at ≡ Some 65) → (e : CertRefusal) → IsRefused Number None text (at + 1) e →
    IsRefused Code None text at e
code_refused text at (inl s) e h = left_refused (Name 69) (Name 65) text at 65 [] (name_led 65)
    (λ f. (let same = one_byte (slice_get text at) 69 65 s f in omega (arith, same))) None e (name_refused text at 69 s e h)
code_refused text at (inr s) e h = right_refused (Name 69) (Name 65) text at 69 [] (name_led 69)
    (λ f. (let same = one_byte (slice_get text at) 65 69 s f in omega (arith, same))) None e (name_refused text at 65 s e h)

-- `oN` where there are `let` lines
pub order_leaf_whole : (text : List ℕ) (at to : ℕ) (kept : Option ℕ) → (slice_get text at ≡ Some 108 → kept ≡ None) → IsWhole (Name 111) text at to →
    IsWhole (OrderLeaf kept) text at to
order_leaf_whole text at to None other w = w
order_leaf_whole text at to (Some kept) other w = left_whole (Name 111) (Name 108) text at 108 [] (name_led 108) (λ f. absurd (cc (other f))) to w

pub order_leaf_refused : (text : List ℕ) (at : ℕ) (kept : Option ℕ) → (slice_get text at ≡ Some 108 → kept ≡ None) → (e : CertRefusal) → IsRefused (Name 111) None text at e →
    IsRefused (OrderLeaf kept) None text at e
order_leaf_refused text at None other e h = h
order_leaf_refused text at (Some kept) other e h = left_refused (Name 111) (Name 108) text at 108 [] (name_led 108) (λ f. absurd (cc (other f))) None e h

-- `lN`
pub earlier_whole : (text : List ℕ) (at to : ℕ) (kept : Option ℕ) (n : ℕ) → kept ≡ Some n → slice_get text at ≡ Some 108 → IsWhole (Name 108) text at to → IsWhole (OrderLeaf kept) text at to
earlier_whole text at to None n some s w = absurd (cc some)
earlier_whole text at to (Some kept) n some s w = right_whole (Name 111) (Name 108) text at 111 [] (name_led 111)
    (λ f. (let same = one_byte (slice_get text at) 108 111 s f in omega (arith, same))) to w

pub earlier_refused : (text : List ℕ) (at : ℕ) (kept : Option ℕ) (n : ℕ) → kept ≡ Some n → slice_get text at ≡ Some 108 → (e : CertRefusal) → IsRefused (Name 108) None text at e →
    IsRefused (OrderLeaf kept) None text at e
earlier_refused text at None n some s e h = absurd (cc some)
earlier_refused text at (Some kept) n some s e h = right_refused (Name 111) (Name 108) text at 111 [] (name_led 111)
    (λ f. (let same = one_byte (slice_get text at) 108 111 s f in omega (arith, same))) None e h

-- two codes
dot_avoided : Avoids IsDigit (Then (Word (46 ∷ [])) Code)
dot_avoided = behind_avoids IsDigit 46 [] Code (no_digit 46 (omega arith))

pub low_refused : (text : List ℕ) (at : ℕ) (e : CertRefusal) → IsRefused Code None text at e → IsRefused ClassLeaf None text at e
low_refused text at e h = first_refused Code (Then (Word (46 ∷ [])) Code) None text at e (behind_form (46 ∷ []) Code IsDigit refl code_form).live h

pub dot_refused : (text : List ℕ) (at mid : ℕ) → IsWhole Code text at mid → (e : CertRefusal) → IsRefused (Word (46 ∷ [])) None text mid e → IsRefused ClassLeaf None text at e
dot_refused text at mid low e h = behind Code (Then (Word (46 ∷ [])) Code) IsDigit code_form dot_avoided text at mid low None e
    (first_refused (Word (46 ∷ [])) Code None text mid e code_form.live h)

pub high_refused : (text : List ℕ) (at mid next : ℕ) → IsWhole Code text at mid → IsWhole (Word (46 ∷ [])) text mid next → (e : CertRefusal) → IsRefused Code None text next e →
    IsRefused ClassLeaf None text at e
high_refused text at mid next low dot e h = behind Code (Then (Word (46 ∷ [])) Code) IsDigit code_form dot_avoided text at mid low None e
    (behind_plain (46 ∷ []) Code text mid next dot e h)

pub class_leaf_whole : (text : List ℕ) (at mid next to : ℕ) → IsWhole Code text at mid → IsWhole (Word (46 ∷ [])) text mid next → IsWhole Code text next to → IsWhole ClassLeaf text at to
class_leaf_whole text at mid next to low dot high = whole_behind Code (Then (Word (46 ∷ [])) Code) IsDigit code_form dot_avoided text at mid to low
    (whole_behind_word (46 ∷ []) Code text mid next to dot high)
