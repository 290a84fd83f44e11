-- How numbers, instants and names are read and refused.
use Rattle.std.proofs.Common.{arith, ◌≡◌, ◌<◌, ◌≤◌, ◌+◌, ◌-◌, ◌^◌, ◌⊎◌, inl, inr, ℕ, Some, None, List, [], ◌∷◌, ◌++◌, length, refl, sym, ap, subst, ◌∙◌}
use Rattle.std.specs.Prelude.{slice_get}
use Rattle.std.specs.Fmt.{decimal}
use Rattle.certificate_trees.specs.declared.refusals.CertRefusal.{CertRefusal}
use Rattle.certificate_trees.specs.declared.refusals.CertRefusal.TheVariants.{K1}
use Rattle.certificate_trees.specs.Reads.{IsRead}
use Rattle.certificate_trees.specs.Beginnings.{Then, Word, IsWhole, IsStopped, IsRefused, IsDigit, IsForm, count}
use Rattle.certificate_trees.specs.Grammar.{NumberIn, Number, Name, Instant, NoDigit, IsFull}
use Rattle.certificate_trees.proofs.Cuts.{first_is, Apart, either_form, behind_led, behind_form}
use Rattle.certificate_trees.proofs.Pieces.{then_read, byte_read}
use Rattle.certificate_trees.proofs.Chains.{first_refused, behind_word, behind_plain, whole_behind_word}
use Rattle.certificate_trees.proofs.Numbers.{number_form, number_stopped, number_whole, decimal_parts, HasParts, no_count}
use Rattle.certificate_trees.proofs.Choices.{Leaves, leaves_first, first_chosen, first_whole}
use Rattle.certificate_trees.proofs.WordReads.{byte_whole, byte_stopped}

wide_number : 2 ^ 32 - 1 < 10 ^ 64
wide_number = omega arith

wide_instant : 2 ^ 127 - 1 < 10 ^ 64
wide_instant = omega arith

wide_least : 2 ^ 127 < 10 ^ 64
wide_least = omega arith

pub plain_form : IsForm Number IsDigit
plain_form = number_form 0 (2 ^ 32 - 1) wide_number (omega arith)

no_parenthesis : (c : ℕ) → (c ≡ 40 → ⊥) → (c ≡ 41 → ⊥) → count 40 (c ∷ []) ≡ count 41 (c ∷ [])
no_parenthesis c a b = let x = no_count 40 c a in let y = no_count 41 c b in omega (arith, x, y)

pub name_form : (letter : ℕ) → (letter ≡ 40 → ⊥) → (letter ≡ 41 → ⊥) → IsForm (Name letter) IsDigit
name_form letter a b = behind_form (letter ∷ []) Number IsDigit (no_parenthesis letter a b) plain_form

pub plain_stopped : (text : List ℕ) (at : ℕ) → at ≤ length text → NoDigit text at → IsStopped Number text at at
plain_stopped text at within none = number_stopped 0 (2 ^ 32 - 1) wide_number text at (omega arith) within (λ c e d zero_is. none c e d)

pub plain_whole : (text : List ℕ) (at to n : ℕ) → n ≤ 2 ^ 32 - 1 → IsRead text at to (decimal n) → IsFull text to (2 ^ 32 - 1) n → IsWhole Number text at to
plain_whole text at to n high read full = number_whole 0 (2 ^ 32 - 1) wide_number text at to n (omega arith) high read full

below : (b c n : ℕ) → n ≤ b → b < c → n < c
below b c n h k = omega arith

number_parts : (n : ℕ) → n ≤ 2 ^ 127 - 1 → (q : List ℕ) → q ≡ decimal n → HasParts n q
number_parts n h q e = let P : List ℕ → Type 0 = HasParts n in subst P (sym e) (decimal_parts n (below (2 ^ 127 - 1) (10 ^ 64) n h wide_instant))

-- a number and one behind `-` begin no text together
number_signed_apart : Apart (NumberIn 0 (2 ^ 127 - 1)) (Then (Word (45 ∷ [])) (NumberIn 1 (2 ^ 127)))
number_signed_apart p q b c t u e = by_digits p (number_parts t.0 t.1.1.0 p t.1.1.1) (let l = behind_led (45 ∷ []) (NumberIn 1 (2 ^ 127)) q u in (l.0 ++ c, e ∙ ap (λ z. z ++ c) l.1))
  where
    by_digits : (p : List ℕ) → HasParts t.0 p → ((r : List ℕ) × (p ++ b ≡ 45 ∷ r)) → ⊥
    by_digits [] h l = h.some refl
    by_digits (x ∷ s) h l = (let digit = (h.parts [] s x refl).digit.0 in
        let same : x ≡ 45 = first_is x 45 (s ++ b) l.0 l.1 in
        omega (arith, same, digit))

pub instant_form : IsForm Instant IsDigit
instant_form = either_form (NumberIn 0 (2 ^ 127 - 1)) (Then (Word (45 ∷ [])) (NumberIn 1 (2 ^ 127))) IsDigit (number_form 0 (2 ^ 127 - 1) wide_instant (omega arith))
    (behind_form (45 ∷ []) (NumberIn 1 (2 ^ 127)) IsDigit refl (number_form 1 (2 ^ 127) wide_least (omega arith))) number_signed_apart

-- an instant that isn't below zero
not_signed : (text : List ℕ) (at : ℕ) → (slice_get text at ≡ Some 45 → ⊥) → (q : List ℕ) → Instant q → NumberIn 0 (2 ^ 127 - 1) q ⊎ Leaves text at 0 q
not_signed text at other q (inl t) = inl t
not_signed text at other q (inr u) = inr (leaves_first text at 0 45 [] q (behind_led (45 ∷ []) (NumberIn 1 (2 ^ 127)) q u) other)

pub plain_instant_stopped : (text : List ℕ) (at : ℕ) → (slice_get text at ≡ Some 45 → ⊥) → at ≤ length text → NoDigit text at → IsStopped Instant text at at
plain_instant_stopped text at other within none = first_chosen Instant (NumberIn 0 (2 ^ 127 - 1)) text at (not_signed text at other) (λ q t. inl t) None (K1 at)
    (number_stopped 0 (2 ^ 127 - 1) wide_instant text at (omega arith) within (λ c e d zero_is. none c e d))

pub plain_instant_whole : (text : List ℕ) (at to n : ℕ) → (slice_get text at ≡ Some 45 → ⊥) → n ≤ 2 ^ 127 - 1 → IsRead text at to (decimal n) → IsFull text to (2 ^ 127 - 1) n →
    IsWhole Instant text at to
plain_instant_whole text at to n other high read full = first_whole Instant (NumberIn 0 (2 ^ 127 - 1)) text at (not_signed text at other) (λ q t. inl t) to
    (number_whole 0 (2 ^ 127 - 1) wide_instant text at to n (omega arith) high read full)

-- one below zero
signed : (text : List ℕ) (at : ℕ) → slice_get text at ≡ Some 45 → (q : List ℕ) → Instant q → Then (Word (45 ∷ [])) (NumberIn 1 (2 ^ 127)) q ⊎ Leaves text at 0 q
signed text at e q (inr u) = inl u
signed text at e q (inl t) = by_digits q (number_parts t.0 t.1.1.0 q t.1.1.1)
  where
    by_digits : (q : List ℕ) → HasParts t.0 q → Then (Word (45 ∷ [])) (NumberIn 1 (2 ^ 127)) q ⊎ Leaves text at 0 q
    by_digits [] h = absurd (h.some refl)
    by_digits (x ∷ r) h = (let digit = (h.parts [] r x refl).digit.0 in
        inr (leaves_first text at 0 x [] (x ∷ r) (r, refl) (λ f. (let same : x ≡ 45 = cc (sym f ∙ e) in omega (arith, same, digit)))))

pub signed_instant_stopped : (text : List ℕ) (at : ℕ) → slice_get text at ≡ Some 45 → at + 1 ≤ length text →
    ((c : ℕ) → slice_get text (at + 1) ≡ Some c → IsDigit c → (c ≡ 48 → ⊥) → ⊥) → IsStopped Instant text at (at + 1)
signed_instant_stopped text at e within none = first_chosen Instant (Then (Word (45 ∷ [])) (NumberIn 1 (2 ^ 127))) text at (signed text at e) (λ q t. inr t) None (K1 (at + 1))
    (behind_word (45 ∷ []) (NumberIn 1 (2 ^ 127)) refl text at (at + 1) (byte_whole text at 45 e) None (K1 (at + 1))
    (number_stopped 1 (2 ^ 127) wide_least text (at + 1) (omega arith) within (λ c f d zero_is. none c f d (zero_is (omega arith)))))

pub signed_instant_whole : (text : List ℕ) (at to n : ℕ) → slice_get text at ≡ Some 45 → 0 < n → n ≤ 2 ^ 127 → IsRead text (at + 1) to (decimal n) → IsFull text to (2 ^ 127) n →
    IsWhole Instant text at to
signed_instant_whole text at to n e some high read full = first_whole Instant (Then (Word (45 ∷ [])) (NumberIn 1 (2 ^ 127))) text at (signed text at e) (λ q t. inr t) to
    (whole_behind_word (45 ∷ []) (NumberIn 1 (2 ^ 127)) text at (at + 1) to (byte_whole text at 45 e)
    (number_whole 1 (2 ^ 127) wide_least text (at + 1) to n (omega (arith, some)) high read full))

-- a letter and a number
pub letter_refused : (text : List ℕ) (at letter : ℕ) → at ≤ length text → (slice_get text at ≡ Some letter → ⊥) → IsStopped (Name letter) text at at
letter_refused text at letter within other = first_refused (Word (letter ∷ [])) Number None text at (K1 at) plain_form.live (byte_stopped text at letter within other)

pub name_refused : (text : List ℕ) (at letter : ℕ) → slice_get text at ≡ Some letter → (e : CertRefusal) → IsRefused Number None text (at + 1) e → IsRefused (Name letter) None text at e
name_refused text at letter stands e h = behind_plain (letter ∷ []) Number text at (at + 1) (byte_whole text at letter stands) e h

pub name_whole : (text : List ℕ) (at to letter : ℕ) → slice_get text at ≡ Some letter → IsWhole Number text (at + 1) to → IsWhole (Name letter) text at to
name_whole text at to letter stands w = whole_behind_word (letter ∷ []) Number text at (at + 1) to (byte_whole text at letter stands) w

pub name_read : (text : List ℕ) (at to letter n : ℕ) → slice_get text at ≡ Some letter → IsRead text (at + 1) to (decimal n) → IsRead text at to (letter ∷ decimal n)
name_read text at to letter n stands read = then_read text at (at + 1) to (letter ∷ []) (decimal n) (byte_read text at letter stands) read
