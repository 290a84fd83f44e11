-- What `let` lines keep stays kept as lines are added, and one more order of a kept chain adds one line.
use Rattle.std.proofs.Common.{◌≡◌, refl, ℕ, ◌+◌, ◌<◌, Bool, true, false, cond, not, ◌||◌, ◌&&◌, List, [], ◌∷◌, ◌++◌, length, sym, ap, subst, ◌∙◌, arith, eq-eqb}
use Rattle.std.specs.Prelude.{nat_eq, if◌then◌else◌}
use Rattle.std.specs.List.{list_any, position_or_len, fold}
use Rattle.std.proofs.lemmas.Bool.{true≢false}
use Rattle.std.proofs.lemmas.List.Folds.{list_any-append}
use Rattle.std.proofs.lemmas.List.Sums.{fold-append}
use Rattle.order_certificates.specs.declared.sharing.Part.{Part}
use Rattle.order_certificates.specs.declared.sharing.Part.TheVariants.{Order as OneOrder, Kept}
use Rattle.order_certificates.specs.declared.sharing.Step.{Step}
use Rattle.order_certificates.specs.Sharing.{LetSteps, Shared, same_part, same_step, is_kept, with_step, let_line, kept_part, step_of, joined, shared_behind, shared}
use Rattle.order_certificates.specs.Keeping.{IsKeptBehind, IsKept}

module _ {X : Type 0} (p : X → Bool) where
  any_front : (xs ys : List X) → list_any p xs ≡ true → list_any p (xs ++ ys) ≡ true
  any_front xs ys e = list_any-append p xs ys ∙ ap (λ (b : Bool). b || list_any p ys) e

  any_last : (xs : List X) (y : X) → p y ≡ true → list_any p (xs ++ y ∷ []) ≡ true
  any_last [] y e = ap (λ (b : Bool). b || false) e
  any_last (x ∷ xs) y e = ap (λ (b : Bool). p x || b) (any_last xs y e) ∙ go (p x)
    where
      go : (b : Bool) → (b || true) ≡ true
      go true = refl
      go false = refl

  place_front : (xs : List X) (y : X) → list_any p xs ≡ true → position_or_len p (xs ++ y ∷ []) ≡ position_or_len p xs
  place_front [] y e = absurd (true≢false (sym e))
  place_front (x ∷ xs) y e = go (p x) e (λ h. place_front xs y h)
    where
      go : (b : Bool) → (b || list_any p xs) ≡ true → (list_any p xs ≡ true → position_or_len p (xs ++ y ∷ []) ≡ position_or_len p xs)
          → cond (not b) (1 + position_or_len p (xs ++ y ∷ [])) 0 ≡ cond (not b) (1 + position_or_len p xs) 0
      go true h rest = refl
      go false h rest = ap (λ (n : ℕ). 1 + n) (rest h)

  place_last : (xs : List X) (y : X) → p y ≡ true → position_or_len p (xs ++ y ∷ []) ≡ position_or_len p xs
  place_last [] y e = ap (λ (b : Bool). cond (not b) (1 + position_or_len p []) 0) e
  place_last (x ∷ xs) y e = ap (λ (n : ℕ). cond (not (p x)) (1 + n) 0) (place_last xs y e)

same_part_itself : (p : Part) → same_part p p ≡ true
same_part_itself (OneOrder n) = eq-eqb n n refl
same_part_itself (Kept n) = eq-eqb n n refl

same_step_itself : (s : Step) → same_step s s ≡ true
same_step_itself s = ap (λ (b : Bool). b && nat_eq s.order s.order) (same_part_itself s.front) ∙ eq-eqb s.order s.order refl

-- the steps of the lines with that of a step, by whether it is there
abbrev steps_by : LetSteps → Step → Bool → List Step
steps_by lets s b = if b then lets.steps else lets.steps ++ s ∷ []

kept_more : (lets : LetSteps) (s t : Step) → is_kept lets t ≡ true → is_kept (with_step lets s) t ≡ true
kept_more lets s t e = go (is_kept lets s)
  where
    go : (b : Bool) → list_any (same_step t) (steps_by lets s b) ≡ true
    go true = e
    go false = any_front (same_step t) lets.steps (s ∷ []) e

part_more : (lets : LetSteps) (s t : Step) → is_kept lets t ≡ true → kept_part (with_step lets s) t ≡ kept_part lets t
part_more lets s t e = ap (λ (n : ℕ). Kept (lets.before + n)) (go (is_kept lets s))
  where
    go : (b : Bool) → position_or_len (same_step t) (steps_by lets s b) ≡ position_or_len (same_step t) lets.steps
    go true = refl
    go false = place_front (same_step t) lets.steps s e

kept_now : (lets : LetSteps) (s : Step) → is_kept (with_step lets s) s ≡ true
kept_now lets s = go (is_kept lets s) refl
  where
    go : (b : Bool) → is_kept lets s ≡ b → list_any (same_step s) (steps_by lets s b) ≡ true
    go true e = e
    go false e = any_last (same_step s) lets.steps s (same_step_itself s)

part_now : (lets : LetSteps) (s : Step) → kept_part (with_step lets s) s ≡ kept_part lets s
part_now lets s = ap (λ (n : ℕ). Kept (lets.before + n)) (go (is_kept lets s))
  where
    go : (b : Bool) → position_or_len (same_step s) (steps_by lets s b) ≡ position_or_len (same_step s) lets.steps
    go true = refl
    go false = place_last (same_step s) lets.steps s (same_step_itself s)

behind_on : (lets : LetSteps) (s : Step) (front : Part) (ns : List ℕ) (p : Part) → IsKeptBehind lets front ns p → IsKeptBehind (with_step lets s) front ns p
behind_on lets s front [] p h = h
behind_on lets s front (n ∷ ns) p h = (
  kept_more lets s (step_of front n) h.0,
  subst (λ (q : Part). IsKeptBehind (with_step lets s) q ns p) (sym (part_more lets s (step_of front n) h.0))
      (behind_on lets s (kept_part lets (step_of front n)) ns p h.1),
)

pub kept_on : (lets : LetSteps) (s : Step) (ns : List ℕ) (p : Part) → IsKept lets ns p → IsKept (with_step lets s) ns p
kept_on lets s [] p h = h
kept_on lets s (n ∷ ns) p h = behind_on lets s (OneOrder n) ns p h

behind_longer : (lets : LetSteps) (front : Part) (ns : List ℕ) (p : Part) (n : ℕ) → IsKeptBehind lets front ns p → is_kept lets (step_of p n) ≡ true
    → IsKeptBehind lets front (ns ++ n ∷ []) (kept_part lets (step_of p n))
behind_longer lets front [] p n h k =
    (subst (λ (q : Part). is_kept lets (step_of q n) ≡ true) h k, ap (λ (q : Part). kept_part lets (step_of q n)) h)
behind_longer lets front (m ∷ ns) p n h k = (h.0, behind_longer lets (kept_part lets (step_of front m)) ns p n h.1 k)

-- with the line of one more order, the longer chain is kept
pub kept_longer : (lets : LetSteps) (ns : List ℕ) (p : Part) (n : ℕ) → IsKept lets ns p
    → IsKept (with_step lets (step_of p n)) (ns ++ n ∷ []) (kept_part lets (step_of p n))
kept_longer lets [] p n h = absurd h
kept_longer lets (m ∷ ns) p n h =
    let next = with_step lets (step_of p n) in
    subst (λ (q : Part). IsKeptBehind next (OneOrder m) (ns ++ n ∷ []) q) (part_now lets (step_of p n))
    (behind_longer next (OneOrder m) ns p n (behind_on lets (step_of p n) (OneOrder m) ns p h) (kept_now lets (step_of p n)))

-- a kept front with one more order, by whether its line is there
abbrev joined_by : LetSteps → Part → ℕ → Bool → Shared
joined_by lets front n b = record {
  lets = record { before = lets.before; steps = steps_by lets (step_of front n) b };
  proof = kept_part lets (step_of front n);
  text = [] ++ (if b then [] else let_line (step_of front n));
}

behind_shared : (lets : LetSteps) (front : Part) (ns : List ℕ) (p : Part) → IsKeptBehind lets front ns p
    → shared_behind lets front ns ≡ record { lets = lets; proof = p; text = [] }
behind_shared lets front [] p h = ap (λ (q : Part). shared_behind lets q []) (sym h)
behind_shared lets front (n ∷ ns) p h =
    ap (λ (b : Bool). fold joined (joined_by lets front n b) ns) h.0 ∙ behind_shared lets (kept_part lets (step_of front n)) ns p h.1

-- a kept chain lacks no line
pub shared_kept : (lets : LetSteps) (ns : List ℕ) (p : Part) → IsKept lets ns p → shared lets ns ≡ record { lets = lets; proof = p; text = [] }
shared_kept lets [] p h = absurd h
shared_kept lets (n ∷ ns) p h = behind_shared lets (OneOrder n) ns p h

pub shared_longer : (lets : LetSteps) (ns : List ℕ) (n : ℕ) → 0 < length ns → shared lets (ns ++ n ∷ []) ≡ joined (shared lets ns) n
shared_longer lets [] n some = absurd (omega arith)
shared_longer lets (m ∷ ns) n some = fold-append joined (record { lets = lets; proof = OneOrder m; text = [] }) ns (n ∷ [])

pub kept_some : (lets : LetSteps) (ns : List ℕ) (p : Part) → IsKept lets ns p → 0 < length ns
kept_some lets [] p h = absurd h
kept_some lets (n ∷ ns) p h = omega arith
