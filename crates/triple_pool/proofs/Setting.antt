-- Writes of one link, seen record by record.
use Rattle.std.proofs.Common.{◌≡◌, ℕ, ◌<◌, Bool, true, false, cond, Option, Some, None, List, length, set, refl, sym, ap, subst, ◌∙◌, inl, inr, IfSome, get_or-set_same, get_or-set_other, length-set}
use Rattle.std.proofs.lemmas.Bool.{cases_eq, eq-eqb, ne_eqb, false≢true, cond-true, cond-false}
use Rattle.triple_pool.specs.declared.Place.{Place}
use Rattle.triple_pool.specs.declared.Place.TheVariants.{Subject, Predicate, Object}
use Rattle.triple_pool.specs.declared.Links.{Links}
use Rattle.triple_pool.specs.declared.Slot.{Slot}
use Rattle.triple_pool.specs.Chains.{slot_at, no_slot, links_at, with_links, next_set, before_set, is_number}

abbrev pub is_place : Place → Place → Bool
is_place Subject Subject = true
is_place Predicate Predicate = true
is_place Object Object = true
is_place p q = false

with_held : (p : Place) (s : Slot) (l : Links) → (with_links p s l).held ≡ s.held
with_held Subject s l = refl
with_held Predicate s l = refl
with_held Object s l = refl

with_triple : (p : Place) (s : Slot) (l : Links) → (with_links p s l).triple ≡ s.triple
with_triple Subject s l = refl
with_triple Predicate s l = refl
with_triple Object s l = refl

with_same : (p : Place) (s : Slot) (l : Links) → links_at p (with_links p s l) ≡ l
with_same Subject s l = refl
with_same Predicate s l = refl
with_same Object s l = refl

with_other : (p q : Place) (s : Slot) (l : Links) → is_place p q ≡ false → links_at q (with_links p s l) ≡ links_at q s
with_other Subject Subject s l h = absurd (false≢true (sym h))
with_other Subject Predicate s l h = refl
with_other Subject Object s l h = refl
with_other Predicate Subject s l h = refl
with_other Predicate Predicate s l h = absurd (false≢true (sym h))
with_other Predicate Object s l h = refl
with_other Object Subject s l h = refl
with_other Object Predicate s l h = refl
with_other Object Object s l h = absurd (false≢true (sym h))

-- what stays of each record, where one is replaced by one that has it too
pub stays : {X : Type 0} (f : Slot → X) (xs : List Slot) (i : ℕ) (s : Slot) → f s ≡ f (slot_at xs i) → i < length xs →
    (k : ℕ) → f (slot_at (set xs i s) k) ≡ f (slot_at xs k)
stays f xs i s same l k = elim (cases_eq k i) [
  | inl here ↦ subst (λ (n : ℕ). f (slot_at (set xs i s) n) ≡ f (slot_at xs n)) (sym here)
      (ap f (get_or-set_same xs i s no_slot l) ∙ same)
  | inr other ↦ ap f (get_or-set_other xs i k s no_slot other)
]

module _ (p : Place) (xs : List Slot) (v : Option ℕ) where
  pub next_set-length : (o : Option ℕ) → length (next_set p xs o v) ≡ length xs
  next_set-length None = refl
  next_set-length (Some i) = length-set xs i (with_links p (slot_at xs i) (record { before = (links_at p (slot_at xs i)).before; next = v }))

  pub next_set-held : (o : Option ℕ) → IfSome o (λ i. i < length xs) → (k : ℕ) → (slot_at (next_set p xs o v) k).held ≡ (slot_at xs k).held
  next_set-held None h k = refl
  next_set-held (Some i) h k = stays (λ (s : Slot). s.held) xs i _ (with_held p (slot_at xs i) _) h k

  pub next_set-triple : (o : Option ℕ) → IfSome o (λ i. i < length xs) → (k : ℕ) → (slot_at (next_set p xs o v) k).triple ≡ (slot_at xs k).triple
  next_set-triple None h k = refl
  next_set-triple (Some i) h k = stays (λ (s : Slot). s.triple) xs i _ (with_triple p (slot_at xs i) _) h k

  pub next_set-other : (q : Place) → is_place p q ≡ false → (o : Option ℕ) → IfSome o (λ i. i < length xs) → (k : ℕ) →
      links_at q (slot_at (next_set p xs o v) k) ≡ links_at q (slot_at xs k)
  next_set-other q d None h k = refl
  next_set-other q d (Some i) h k = stays (λ (s : Slot). links_at q s) xs i _ (with_other p q (slot_at xs i) _ d) h k

  pub next_set-before : (o : Option ℕ) → IfSome o (λ i. i < length xs) → (k : ℕ) →
      (links_at p (slot_at (next_set p xs o v) k)).before ≡ (links_at p (slot_at xs k)).before
  next_set-before None h k = refl
  next_set-before (Some i) h k =
      stays (λ (s : Slot). (links_at p s).before) xs i _ (ap (λ (l : Links). l.before) (with_same p (slot_at xs i) _)) h k

  pub next_set-next : (o : Option ℕ) → IfSome o (λ i. i < length xs) → (k : ℕ) →
      (links_at p (slot_at (next_set p xs o v) k)).next ≡ cond (is_number o k) v ((links_at p (slot_at xs k)).next)
  next_set-next None h k = refl
  next_set-next (Some i) h k = elim (cases_eq k i) [
    | inl here ↦ subst (λ (n : ℕ). (links_at p (slot_at (next_set p xs (Some i) v) n)).next ≡ cond (is_number (Some i) n) v ((links_at p (slot_at xs n)).next)) (sym here)
        (ap (λ (s : Slot). (links_at p s).next) (get_or-set_same xs i _ no_slot h)
        ∙ ap (λ (l : Links). l.next) (with_same p (slot_at xs i) _)
        ∙ sym (cond-true (is_number (Some i) i) v ((links_at p (slot_at xs i)).next) (eq-eqb i i refl)))
    | inr other ↦ ap (λ (s : Slot). (links_at p s).next) (get_or-set_other xs i k _ no_slot other)
        ∙ sym (cond-false (is_number (Some i) k) v ((links_at p (slot_at xs k)).next) (ne_eqb i k (λ e. other (sym e))))
  ]

module _ (p : Place) (xs : List Slot) (v : Option ℕ) where
  pub before_set-length : (o : Option ℕ) → length (before_set p xs o v) ≡ length xs
  before_set-length None = refl
  before_set-length (Some i) = length-set xs i (with_links p (slot_at xs i) (record { before = v; next = (links_at p (slot_at xs i)).next }))

  pub before_set-held : (o : Option ℕ) → IfSome o (λ i. i < length xs) → (k : ℕ) → (slot_at (before_set p xs o v) k).held ≡ (slot_at xs k).held
  before_set-held None h k = refl
  before_set-held (Some i) h k = stays (λ (s : Slot). s.held) xs i _ (with_held p (slot_at xs i) _) h k

  pub before_set-triple : (o : Option ℕ) → IfSome o (λ i. i < length xs) → (k : ℕ) → (slot_at (before_set p xs o v) k).triple ≡ (slot_at xs k).triple
  before_set-triple None h k = refl
  before_set-triple (Some i) h k = stays (λ (s : Slot). s.triple) xs i _ (with_triple p (slot_at xs i) _) h k

  pub before_set-other : (q : Place) → is_place p q ≡ false → (o : Option ℕ) → IfSome o (λ i. i < length xs) → (k : ℕ) →
      links_at q (slot_at (before_set p xs o v) k) ≡ links_at q (slot_at xs k)
  before_set-other q d None h k = refl
  before_set-other q d (Some i) h k = stays (λ (s : Slot). links_at q s) xs i _ (with_other p q (slot_at xs i) _ d) h k

  pub before_set-next : (o : Option ℕ) → IfSome o (λ i. i < length xs) → (k : ℕ) →
      (links_at p (slot_at (before_set p xs o v) k)).next ≡ (links_at p (slot_at xs k)).next
  before_set-next None h k = refl
  before_set-next (Some i) h k =
      stays (λ (s : Slot). (links_at p s).next) xs i _ (ap (λ (l : Links). l.next) (with_same p (slot_at xs i) _)) h k

  pub before_set-before : (o : Option ℕ) → IfSome o (λ i. i < length xs) → (k : ℕ) →
      (links_at p (slot_at (before_set p xs o v) k)).before ≡ cond (is_number o k) v ((links_at p (slot_at xs k)).before)
  before_set-before None h k = refl
  before_set-before (Some i) h k = elim (cases_eq k i) [
    | inl here ↦ subst (λ (n : ℕ). (links_at p (slot_at (before_set p xs (Some i) v) n)).before ≡ cond (is_number (Some i) n) v ((links_at p (slot_at xs n)).before)) (sym here)
        (ap (λ (s : Slot). (links_at p s).before) (get_or-set_same xs i _ no_slot h)
        ∙ ap (λ (l : Links). l.before) (with_same p (slot_at xs i) _)
        ∙ sym (cond-true (is_number (Some i) i) v ((links_at p (slot_at xs i)).before) (eq-eqb i i refl)))
    | inr other ↦ ap (λ (s : Slot). (links_at p s).before) (get_or-set_other xs i k _ no_slot other)
        ∙ sym (cond-false (is_number (Some i) k) v ((links_at p (slot_at xs k)).before) (ne_eqb i k (λ e. other (sym e))))
  ]
