-- Each date of a statement is among the dates.
use Rattle.std.proofs.Common.{ℕ, zero, suc, ℤ, pos, ◌≡◌, ◌<◌, ◌≤◌, ◌+◌, ◌&&◌, ◌||◌, Bool, true, false, cond, not, Option, Some, None, List, [], ◌∷◌, get_or, length, refl, sym, ap, subst, ◌∙◌, arith, inl, inr}
use Rattle.std.specs.Prelude.{int_lt, ◌<ℤ◌}
use Rattle.std.specs.List.{All, Contains, filter_map, fold, cons_option, list_any}
use Rattle.std.specs.List.Sorted.{IsStrictlySortedBy, IsNonDecreasingBy, IsPartitionPoint}
use Rattle.std.specs.Ordering.{MatchOrdering, int_cmp, match_ordering, ordering_index}
use Rattle.std.specs.BTreeSet.{insert_key}
use Rattle.std.specs.declared.cmp.Ordering.{Ordering}
use Rattle.std.specs.declared.cmp.Ordering.TheVariants.{Less, Equal, Greater}
use Rattle.std.proofs.lemmas.Bool.{false≢true, or_cases, cases_lt}
use Rattle.std.proofs.lemmas.Int.{ints}
use Rattle.std.specs.Cmp.{int_cmp_is}
use Rattle.std.proofs.lemmas.Cmp.{int_ranked}
use Rattle.std.proofs.lemmas.Map.Keys.{Less-from_sorted}
use Rattle.std.proofs.lemmas.Map.Lookups.{exact_signed}
use Rattle.std.proofs.lemmas.Map.Views.{Contains-from_any}
use Rattle.rdf_terms.specs.Naming.{NameLists}
use Rattle.order_core.specs.Sets.{AreAscending}
use Rattle.boundary_orders.specs.declared.statements.Statement.{Statement}
use Rattle.boundary_orders.specs.Orders.{instant_of, dates_of, same_instant, is_held}
use Rattle.boundary_orders.proofs.Covering.{or_left, or_right}

equal_to_itself : (t : ℤ) → int_cmp t t ≡ Equal
equal_to_itself t = sym (int_cmp_is t t Equal refl)

not_lower : (p : Bool) → cond p Less (cond p Greater Equal) ≡ Equal → (not p && not p) ≡ true
not_lower true e = let never : ⊥ = cc in absurd never
not_lower false e = refl

pub same_refl : (t : ℤ) → same_instant t t ≡ true
same_refl t = not_lower (int_lt t t) (equal_to_itself t)

neither : (p q : Bool) → (not p && not q) ≡ true → cond p Less (cond q Greater Equal) ≡ Equal
neither true q e = absurd (false≢true e)
neither false true e = absurd (false≢true e)
neither false false e = refl

pub same_exact : (a b : ℤ) → same_instant a b ≡ true → a ≡ b
same_exact a b e = exact_signed a b (neither (int_lt a b) (int_lt b a) e)

insert_has : (t : ℤ) (ks : List ℤ) → list_any (same_instant t) (insert_key int_cmp ks t) ≡ true
insert_has t [] = or_left (same_instant t t) false (same_refl t)
insert_has t (x ∷ xs) = by (int_cmp t x) refl (insert_has t xs)
  where
    by : (o : Ordering) → int_cmp t x ≡ o → list_any (same_instant t) (insert_key int_cmp xs t) ≡ true →
        list_any (same_instant t) (match_ordering o (t ∷ x ∷ xs) (x ∷ xs) (x ∷ insert_key int_cmp xs t)) ≡ true
    by Less e r = or_left (same_instant t t) (list_any (same_instant t) (x ∷ xs)) (same_refl t)
    by Equal e r =
        or_left (same_instant t x) (list_any (same_instant t) xs) (subst (λ (y : ℤ). same_instant t y ≡ true) (exact_signed t x e) (same_refl t))
    by Greater e r = or_right (same_instant t x) (list_any (same_instant t) (insert_key int_cmp xs t)) r

insert_keeps : (t u : ℤ) (ks : List ℤ) → list_any (same_instant t) ks ≡ true → list_any (same_instant t) (insert_key int_cmp ks u) ≡ true
insert_keeps t u [] h = absurd (false≢true h)
insert_keeps t u (x ∷ xs) h = by (int_cmp u x) h (insert_keeps t u xs)
  where
    by : (o : Ordering) → (same_instant t x || list_any (same_instant t) xs) ≡ true →
        (list_any (same_instant t) xs ≡ true → list_any (same_instant t) (insert_key int_cmp xs u) ≡ true) →
        list_any (same_instant t) (match_ordering o (u ∷ x ∷ xs) (x ∷ xs) (x ∷ insert_key int_cmp xs u)) ≡ true
    by Less g r = or_right (same_instant t u) (list_any (same_instant t) (x ∷ xs)) g
    by Equal g r = g
    by Greater g r =
        elim (or_cases (same_instant t x) (list_any (same_instant t) xs) g) [
          | inl a ↦ or_left (same_instant t x) (list_any (same_instant t) (insert_key int_cmp xs u)) a
          | inr b ↦ or_right (same_instant t x) (list_any (same_instant t) (insert_key int_cmp xs u)) (r b)
        ]

fold_keeps : (t : ℤ) (ts ks : List ℤ) → list_any (same_instant t) ks ≡ true → list_any (same_instant t) (fold (insert_key int_cmp) ks ts) ≡ true
fold_keeps t [] ks h = h
fold_keeps t (u ∷ ts) ks h = fold_keeps t ts (insert_key int_cmp ks u) (insert_keeps t u ks h)

fold_has : {X : Type 0} (date : X → Option ℤ) (ss : List X) (k : ℕ) (d : X) → k < length ss → (t : ℤ) → date (get_or ss k d) ≡ Some t → (ks : List ℤ) →
    list_any (same_instant t) (fold (insert_key int_cmp) ks (filter_map date ss)) ≡ true
fold_has date [] k d l t e ks = absurd (omega arith)
fold_has date (s ∷ ss) zero d l t e ks =
    ap (λ (o : Option ℤ). list_any (same_instant t) (fold (insert_key int_cmp) ks (cons_option o (filter_map date ss)))) e
    ∙ fold_keeps t (filter_map date ss) (insert_key int_cmp ks t) (insert_has t ks)
fold_has date (s ∷ ss) (suc k) d l t e ks = by (date s) (fold_has date ss k d (omega (arith, l)) t e)
  where
    by : (o : Option ℤ) → ((is : List ℤ) → list_any (same_instant t) (fold (insert_key int_cmp) is (filter_map date ss)) ≡ true) →
        list_any (same_instant t) (fold (insert_key int_cmp) ks (cons_option o (filter_map date ss))) ≡ true
    by None r = r ks
    by (Some u) r = r (insert_key int_cmp ks u)

pub dates_hold : (names : NameLists) (ss : List (ℕ × Statement)) → All (λ (s : ℕ × Statement). is_held (dates_of names ss) (instant_of names s.1) ≡ true) ss
dates_hold names ss = λ k d l. by k d l (instant_of names (get_or ss k d).1) refl
  where
    by : (k : ℕ) (d : ℕ × Statement) → k < length ss → (o : Option ℤ) → instant_of names (get_or ss k d).1 ≡ o → is_held (dates_of names ss) o ≡ true
    by k d l None e = refl
    by k d l (Some t) e = fold_has (λ (s : ℕ × Statement). instant_of names s.1) ss k d l t e []

-- neighbours of a strictly sorted list ascend
pub ascends : (dates : List ℤ) → IsStrictlySortedBy int_cmp dates → AreAscending dates
ascends dates sorted = record {
  each = λ k l.
      int_ranked (get_or dates k (pos 0)) (get_or dates (k + 1) (pos 0)) Less
      (sym (Less-from_sorted int_cmp dates k (k + 1) (pos 0) sorted (omega arith) l));
}

least : (o : Ordering) → 0 ≤ ordering_index o
least o = omega arith

-- later dates compare no lower with one
rises : (a b t : ℤ) (o u : Ordering) → a <ℤ b → MatchOrdering o (a <ℤ t) (a ≡ t) (t <ℤ a) → MatchOrdering u (b <ℤ t) (b ≡ t) (t <ℤ b) →
    ordering_index o ≤ ordering_index u
rises a b t Less u l h g = least u
rises a b t Equal Less l h g = absurd (omega (arith, ints))
rises a b t Equal Equal l h g = omega arith
rises a b t Equal Greater l h g = omega arith
rises a b t Greater Less l h g = absurd (omega (arith, ints))
rises a b t Greater Equal l h g = absurd (omega (arith, ints))
rises a b t Greater Greater l h g = omega arith

searchable : (dates : List ℤ) (t : ℤ) → IsStrictlySortedBy int_cmp dates → IsNonDecreasingBy (λ (y : ℤ). ordering_index (int_cmp y t)) dates
searchable dates t sorted = λ i j d l g.
    elim (cases_lt i j) [
      | inl below ↦
          rises (get_or dates i d) (get_or dates j d) t (int_cmp (get_or dates i d) t) (int_cmp (get_or dates j d) t)
          (int_ranked (get_or dates i d) (get_or dates j d) Less (sym (Less-from_sorted int_cmp dates i j d sorted below g)))
          (int_ranked (get_or dates i d) t (int_cmp (get_or dates i d) t) refl) (int_ranked (get_or dates j d) t (int_cmp (get_or dates j d) t) refl)
      | inr above ↦
          (let same : i ≡ j = omega arith in
          let equal : ordering_index (int_cmp (get_or dates i d) t) ≡ ordering_index (int_cmp (get_or dates j d) t) =
          ap (λ (k : ℕ). ordering_index (int_cmp (get_or dates k d) t)) same in
          omega (arith, equal))
    ]

unlike : (o : Ordering) → Equal ≡ o → o ≡ Less → ⊥
unlike o e h = let never : ⊥ = cc in never

unlike_too : (o : Ordering) → Equal ≡ o → o ≡ Greater → ⊥
unlike_too o e h = let never : ⊥ = cc in never

-- a date that is held is found
pub not_missing : (dates : List ℤ) (t : ℤ) (i : ℕ) → IsStrictlySortedBy int_cmp dates → list_any (same_instant t) dates ≡ true →
    (IsNonDecreasingBy (λ (y : ℤ). ordering_index (int_cmp y t)) dates →
    IsPartitionPoint (λ (y : ℤ). int_cmp y t ≡ Less) (λ (y : ℤ). int_cmp y t ≡ Greater) dates i) → ⊥
not_missing dates t i sorted held answer =
    let found : Contains dates t = Contains-from_any same_exact t dates held in
    let point : IsPartitionPoint (λ (y : ℤ). int_cmp y t ≡ Less) (λ (y : ℤ). int_cmp y t ≡ Greater) dates i = answer (searchable dates t sorted) in
    let equal : Equal ≡ int_cmp (get_or dates found.0 t) t = sym (ap (λ (y : ℤ). int_cmp y t) found.2 ∙ equal_to_itself t) in
    elim (cases_lt found.0 i) [
      | inl l ↦ unlike (int_cmp (get_or dates found.0 t) t) equal (point.0 found.0 t (omega arith) l)
      | inr l ↦ unlike_too (int_cmp (get_or dates found.0 t) t) equal (point.1 found.0 t l found.1)
    ]
