-- Relations that agree below a count have the same levels and covers there.
use Rattle.std.proofs.Common.{arith, zero, suc, ◌≡◌, ◌<◌, ◌≤◌, ℕ, Bool, List, [], ◌∷◌, ◌++◌, refl, sym, ap₂, ◌∙◌}
use Rattle.std.specs.Prelude.{◌&&◌, ◌||◌, not}
use Rattle.harris_matrix.specs.declared.cells.CellPair.{CellPair}
use Rattle.harris_matrix.specs.Covers.{some_below, covers, covers_of, all_covers}
use Rattle.harris_matrix.specs.Levels.{LeadsBack, IsLevel}
use Rattle.harris_matrix.specs.Rows.{IsStrictOrder}
use Rattle.harris_matrix.proofs.Pairs.{pairs_with_same}

some_below_same : (n : ℕ) (s t : ℕ → Bool) → ((k : ℕ) → k < n → s k ≡ t k) → some_below n s ≡ some_below n t
some_below_same zero s t h = refl
some_below_same (suc n) s t h = ap₂ (λ a b. a || b) (some_below_same n s t (λ k l. h k (omega arith))) (h n (omega arith))

module _ (n : ℕ) (s t : ℕ → ℕ → Bool) (agree : (i j : ℕ) → i < n → j < n → s i j ≡ t i j) where
  covers_same : (i j : ℕ) → i < n → j < n → covers s n i j ≡ covers t n i j
  covers_same i j h l =
      ap₂ (λ a b. a && not b) (agree i j h l)
      (some_below_same n (λ k. s i k && s k j) (λ k. t i k && t k j) (λ k w. ap₂ (λ a b. a && b) (agree i k h w) (agree k j w l)))

  covers_of_same : (m : ℕ) → m ≤ n → covers_of s n m ≡ covers_of t n m
  covers_of_same zero h = refl
  covers_of_same (suc m) h =
      ap₂ (λ (ps qs : List CellPair). ps ++ qs) (covers_of_same m (omega arith))
      (pairs_with_same m n (covers s n m) (covers t n m) (λ j l. covers_same m j (omega arith) l))

  pub all_covers_same : all_covers s n ≡ all_covers t n
  all_covers_same = covers_of_same n (omega arith)

  leads_on : (j : ℕ) → j < n → (ks : List ℕ) → LeadsBack s n j ks → LeadsBack t n j ks
  leads_on j h [] leads = tt
  leads_on j h (k ∷ ks) leads = (leads.0, sym (agree k j leads.0 h) ∙ leads.1, leads_on k leads.0 ks leads.2)

  leads_off : (j : ℕ) → j < n → (ks : List ℕ) → LeadsBack t n j ks → LeadsBack s n j ks
  leads_off j h [] leads = tt
  leads_off j h (k ∷ ks) leads = (leads.0, agree k j leads.0 h ∙ leads.1, leads_off k leads.0 ks leads.2)

  pub level_same : (j level : ℕ) → j < n → IsLevel s n j level → IsLevel t n j level
  level_same j level h m = record {
    cells = m.cells;
    lead_back = leads_on j h m.cells m.lead_back;
    reached = m.reached;
    greatest = λ ks leads. m.greatest ks (leads_off j h ks leads);
  }

  pub order_same : IsStrictOrder t n → IsStrictOrder s n
  order_same m = record {
    joins = λ i j k h l w e f. agree i k h w ∙ m.joins i j k h l w (sym (agree i j h l) ∙ e) (sym (agree j k l w) ∙ f);
    never = λ i h. agree i i h h ∙ m.never i h;
  }
