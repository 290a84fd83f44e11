-- Texts of the relations that are among others.
use Rattle.std.proofs.Common.{◌≡◌, ℕ, ◌+◌, Bool, true, false, cond, List, [], ◌∷◌, ◌++◌, refl, ap, sym, ◌∙◌}
use Rattle.std.specs.Prelude.{flat_map, if◌then◌else◌}
use Rattle.std.specs.List.{filter}
use Rattle.crm_outside.specs.Printing.{lines_from}
use Rattle.crm_allen.specs.declared.relations.Allen.{Allen}
use Rattle.crm_allen.specs.Names.{all_relations, is_among}
use Rattle.allen_reports.specs.Relations.{text_if}

module _ (p : Allen → Bool) (text : Allen → List ℕ) where
  abbrev pub text_where : Allen → List ℕ
  text_where r = if p r then text r else []

  joined_step : (b : Bool) (r : Allen) (xs : List Allen) (t : List ℕ) → t ≡ flat_map text (filter p xs) →
      (if b then text r else []) ++ t ≡ flat_map text (cond b (r ∷ filter p xs) (filter p xs))
  joined_step true r xs t e = ap (λ l. text r ++ l) e
  joined_step false r xs t e = e

  pub joined : (xs : List Allen) → flat_map text_where xs ≡ flat_map text (filter p xs)
  joined [] = refl
  joined (r ∷ xs) = joined_step (p r) r xs (flat_map text_where xs) (joined xs)

  lines_step : (b : Bool) (r : Allen) (j k : ℕ) (xs : List Allen) (t : List ℕ) → ((i : ℕ) → t ≡ lines_from (λ _ q. text q) i (filter p xs)) →
      (if b then text r else []) ++ t ≡ lines_from (λ _ q. text q) j (cond b (r ∷ filter p xs) (filter p xs))
  unfolding lines_from
  lines_step true r j k xs t e = ap (λ l. text r ++ l) (e (j + 1))
  lines_step false r j k xs t e = e j

  pub lines : (j k : ℕ) (xs : List Allen) → lines_from (λ _ q. text_where q) j xs ≡ lines_from (λ _ q. text q) k (filter p xs)
  unfolding lines_from
  lines j k [] = refl
  lines j k (r ∷ xs) = lines_step (p r) r k j xs (lines_from (λ _ q. text_where q) (j + 1) xs) (λ i. lines (j + 1) i xs)

pub among_joined : (relations : List Allen) (text : Allen → List ℕ) → filter (is_among relations) all_relations ≡ relations →
    flat_map (text_if relations text) all_relations ≡ flat_map text relations
among_joined relations text e = joined (is_among relations) text all_relations ∙ ap (flat_map text) e

pub among_lines : (relations : List Allen) (text : Allen → List ℕ) → filter (is_among relations) all_relations ≡ relations →
    lines_from (λ _ q. text_if relations text q) 0 all_relations ≡ lines_from (λ _ q. text q) 0 relations
among_lines relations text e = lines (is_among relations) text 0 0 all_relations ∙ ap (lines_from (λ _ q. text q) 0) e
