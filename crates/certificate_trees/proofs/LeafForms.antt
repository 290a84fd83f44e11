-- Leaves as forms.
use Rattle.std.proofs.Common.{arith, ◌≡◌, ◌⊎◌, inl, inr, ℕ, Option, Some, None, List, [], ◌∷◌, ◌++◌, refl, sym, ◌∙◌}
use Rattle.certificate_trees.specs.Beginnings.{Then, Word, Either, IsDigit, IsForm, AreLeaves}
use Rattle.certificate_trees.specs.Grammar.{Number, Name}
use Rattle.certificate_trees.specs.LeafGrammar.{OrderLeaf, Code, ClassLeaf, LeafKind, OfOrders, OfCovers, OfClasses, LeafOf}
use Rattle.certificate_trees.proofs.Cuts.{first_is, Led, behind_led, led_apart, Apart, either_form, then_form, behind_form, behind_avoids}
use Rattle.certificate_trees.proofs.NumberReads.{name_form}
use Rattle.certificate_trees.proofs.TreeForms.{no_digit}

led_some : (c : ℕ) (w : List ℕ) (T : List ℕ → Type 0) → Led (c ∷ w) T → T [] → ⊥
led_some c w T led t = let l = led [] t in absurd (cc l.1)

led_other : (d : ℕ) (w : List ℕ) (T : List ℕ → Type 0) → Led (d ∷ w) T → (d ≡ 119 → ⊥) → (d ≡ 106 → ⊥) → (c : ℕ) (p : List ℕ) → T (c ∷ p) → (c ≡ 119 → ⊥) × (c ≡ 106 → ⊥)
led_other d w T led a b c p t =
    let l = led (c ∷ p) t in
    let same : d ≡ c = sym (first_is c d p (w ++ l.0) l.1) in
    (λ e. a (same ∙ e), λ e. b (same ∙ e))

name_led : (letter : ℕ) → Led (letter ∷ []) (Name letter)
name_led letter = behind_led (letter ∷ []) Number

name_leaves : (letter : ℕ) → (letter ≡ 40 → ⊥) → (letter ≡ 41 → ⊥) → (letter ≡ 119 → ⊥) → (letter ≡ 106 → ⊥) → AreLeaves (Name letter)
name_leaves letter a b c d = record {
  form = name_form letter a b;
  some = led_some letter [] (Name letter) (name_led letter);
  other = led_other letter [] (Name letter) (name_led letter) c d;
}

either_leaves : (T U : List ℕ → Type 0) → AreLeaves T → AreLeaves U → Apart T U → AreLeaves (Either T U)
either_leaves T U t u apart = record { form = either_form T U IsDigit t.form u.form apart; some = some; other = other }
  where
    some : T [] ⊎ U [] → ⊥
    some (inl x) = t.some x
    some (inr x) = u.some x

    other : (c : ℕ) (p : List ℕ) → T (c ∷ p) ⊎ U (c ∷ p) → (c ≡ 119 → ⊥) × (c ≡ 106 → ⊥)
    other c p (inl x) = t.other c p x
    other c p (inr x) = u.other c p x

names_apart : (a b : ℕ) → (a ≡ b → ⊥) → Apart (Name a) (Name b)
names_apart a b e = led_apart (a ∷ []) (b ∷ []) (Name a) (Name b) (name_led a) (name_led b) (inl e)

order_leaves : (kept : Option ℕ) → AreLeaves (OrderLeaf kept)
order_leaves None = name_leaves 111 (λ e. omega (arith, e)) (λ e. omega (arith, e)) (λ e. omega (arith, e)) (λ e. omega (arith, e))
order_leaves (Some kept) = either_leaves (Name 111) (Name 108)
    (name_leaves 111 (λ e. omega (arith, e)) (λ e. omega (arith, e)) (λ e. omega (arith, e)) (λ e. omega (arith, e)))
    (name_leaves 108 (λ e. omega (arith, e)) (λ e. omega (arith, e)) (λ e. omega (arith, e)) (λ e. omega (arith, e)))
    (names_apart 111 108 (λ e. omega (arith, e)))

code_leaves : AreLeaves Code
code_leaves = either_leaves (Name 69) (Name 65)
    (name_leaves 69 (λ e. omega (arith, e)) (λ e. omega (arith, e)) (λ e. omega (arith, e)) (λ e. omega (arith, e)))
    (name_leaves 65 (λ e. omega (arith, e)) (λ e. omega (arith, e)) (λ e. omega (arith, e)) (λ e. omega (arith, e)))
    (names_apart 69 65 (λ e. omega (arith, e)))

pub code_form : IsForm Code IsDigit
code_form = code_leaves.form

class_leaves : AreLeaves ClassLeaf
class_leaves = record {
  form = then_form Code (Then (Word (46 ∷ [])) Code) IsDigit IsDigit code_form (behind_form (46 ∷ []) Code IsDigit refl code_form) (behind_avoids IsDigit 46 [] Code (no_digit 46 (omega arith)));
  some = λ t. none t.first t.second t.split t.one;
  other = λ c p t. begins c p t.first t.second t.split t.one;
}
  where
    none : (f s : List ℕ) → [] ≡ f ++ s → Code f → ⊥
    none [] s e t = code_leaves.some t
    none (x ∷ f) s e t = absurd (cc e)

    begins : (c : ℕ) (p f s : List ℕ) → c ∷ p ≡ f ++ s → Code f → (c ≡ 119 → ⊥) × (c ≡ 106 → ⊥)
    begins c p [] s e t = absurd (code_leaves.some t)
    begins c p (x ∷ f) s e t =
        let o = code_leaves.other x f t in
        let same : x ≡ c = sym (first_is c x p (f ++ s) e) in
        (λ h. o.0 (same ∙ h), λ h. o.1 (same ∙ h))

pub are_leaves : (k : LeafKind) → AreLeaves (LeafOf k)
are_leaves (OfOrders kept) = order_leaves kept
are_leaves OfCovers = name_leaves 99 (λ e. omega (arith, e)) (λ e. omega (arith, e)) (λ e. omega (arith, e)) (λ e. omega (arith, e))
are_leaves OfClasses = class_leaves
