-- Parts of lines that lines of several kinds have, as forms.
use Rattle.std.proofs.Common.{arith, ◌⊎◌, inl, inr, ℕ, Option, List, [], ◌∷◌, refl}
use Rattle.certificate_trees.specs.Beginnings.{Then, Word, HeadIn, IsDigit, IsForm}
use Rattle.certificate_trees.specs.Grammar.{Name}
use Rattle.certificate_reader.specs.LineGrammar.{OrderTree}
use Rattle.certificate_trees.specs.LeafGrammar.{LeafOf, OfOrders}
use Rattle.certificate_trees.proofs.Cuts.{then_form, behind_form, behind_avoids}
use Rattle.certificate_trees.proofs.NumberReads.{name_form}
use Rattle.certificate_trees.proofs.TreeForms.{tree_form, no_digit}
use Rattle.certificate_trees.proofs.LeafForms.{are_leaves}
use Rattle.certificate_trees.proofs.Shallow.{IsFlat, flat_name}

pub wider_form : (T : List ℕ → Type 0) (D E : ℕ → Type 0) → ((c : ℕ) → D c → E c) → IsForm T D → IsForm T E
wider_form T D E more f = record { live = f.live; settles = λ p q b c t u e. by_case b c (f.settles p q b c t u e); closed = f.closed }
  where
    head : (b : List ℕ) → HeadIn D b → HeadIn E b
    head [] h = h
    head (x ∷ b) h = more x h

    by_case : {A : Type 0} (b c : List ℕ) → A ⊎ (HeadIn D b ⊎ HeadIn D c) → A ⊎ (HeadIn E b ⊎ HeadIn E c)
    by_case b c (inl s) = inl s
    by_case b c (inr (inl h)) = inr (inl (head b h))
    by_case b c (inr (inr h)) = inr (inr (head c h))

-- two names with a space between
pub name_pair : (a b : ℕ) → IsForm (Name a) IsDigit → IsForm (Name b) IsDigit → IsForm (Then (Name a) (Then (Word (32 ∷ [])) (Name b))) IsDigit
name_pair a b f g = then_form (Name a) (Then (Word (32 ∷ [])) (Name b)) IsDigit IsDigit f (behind_form (32 ∷ []) (Name b) IsDigit refl g) (behind_avoids IsDigit 32 [] (Name b) (no_digit 32 (omega arith)))

pub extent_form : IsForm (Name 120) IsDigit
extent_form = name_form 120 (λ e. omega (arith, e)) (λ e. omega (arith, e))

pub order_tree_form : (kept : Option ℕ) → IsForm (OrderTree kept) IsDigit
order_tree_form kept = tree_form (LeafOf (OfOrders kept)) (are_leaves (OfOrders kept))

pub flat_extent : IsFlat (Name 120)
flat_extent = flat_name 120 (λ e. omega (arith, e))
