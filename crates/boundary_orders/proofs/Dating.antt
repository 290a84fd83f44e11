-- Dates in their order.
use Rattle.std.proofs.Common.{ℕ, zero, suc, ℤ, ◌≡◌, ◌<◌, ◌+◌, ◌&&◌, Bool, true, false, cond, not, Option, List, [], ◌∷◌, get_or, length, take, refl, sym, ap, ◌∙◌, arith, subst}
use Rattle.std.specs.Prelude.{int_lt}
use Rattle.std.specs.List.{filter_map, fold, cons_option, position_or_len, AllByRecursion}
use Rattle.std.specs.List.Sorted.{IsStrictlySortedBy}
use Rattle.std.specs.Ordering.{int_cmp}
use Rattle.std.specs.BTreeSet.{insert_key}
use Rattle.std.specs.declared.cmp.Ordering.TheVariants.{Less, Equal, Greater}
use Rattle.std.proofs.lemmas.List.Elements.{filter_map-append}
use Rattle.std.proofs.lemmas.List.Sums.{fold-append}
use Rattle.std.proofs.lemmas.Map.Lookups.{exact_signed}
use Rattle.rdf_terms.specs.Naming.{NameLists}
use Rattle.boundary_orders.specs.declared.statements.Statement.{Statement}
use Rattle.boundary_orders.specs.Orders.{instant_of, dates_of, same_instant}
use Rattle.boundary_orders.proofs.Growing.{take_grow}

-- the date of one statement more
pub dates_grow : (names : NameLists) (rs ss : List (ℕ × Statement)) (i : ℕ) (d : ℕ × Statement) (old new : List ℤ) → rs ≡ ss → i < length rs →
    old ≡ dates_of names (take i ss) → new ≡ fold (insert_key int_cmp) old (cons_option (instant_of names (get_or rs i d).1) []) →
    new ≡ dates_of names (take (i + 1) ss)
dates_grow names rs ss i d old new e l before after =
    after
    ∙ ap (λ (ds : List ℤ). fold (insert_key int_cmp) ds (filter_map date (get_or rs i d ∷ []))) before
    ∙ sym (fold-append (insert_key int_cmp) [] (filter_map date (take i ss)) (filter_map date (get_or rs i d ∷ [])))
    ∙ ap (fold (insert_key int_cmp) []) (sym (filter_map-append date (take i ss) (get_or rs i d ∷ [])))
    ∙ ap (dates_of names) (take_grow rs ss i d e l)
  where
    date : ℕ × Statement → Option ℤ
    date s = instant_of names s.1

equal_same : (p q : Bool) → cond p Less (cond q Greater Equal) ≡ Equal → (not q && not p) ≡ true
equal_same true q e = let never : ⊥ = cc in absurd never
equal_same false true e = let never : ⊥ = cc in absurd never
equal_same false false e = refl

less_other : (p q : Bool) → cond p Less (cond q Greater Equal) ≡ Less → (not q && not p) ≡ false
less_other true true e = refl
less_other true false e = refl
less_other false true e = let never : ⊥ = cc in absurd never
less_other false false e = let never : ⊥ = cc in absurd never

all_at : {X : Type 0} (P : X → Type 0) (xs : List X) (k : ℕ) (d : X) → k < length xs → AllByRecursion P xs → P (get_or xs k d)
all_at P [] k d l h = absurd (omega arith)
all_at P (x ∷ xs) zero d l h = h.0
all_at P (x ∷ xs) (suc k) d l h = all_at P xs k d (omega arith) h.1

-- an equal date stands where the first one does
pub found_at : (ds : List ℤ) (t : ℤ) (k : ℕ) → IsStrictlySortedBy int_cmp ds → k < length ds → ((d : ℤ) → int_cmp (get_or ds k d) t ≡ Equal) →
    k ≡ position_or_len (same_instant t) ds
unfolding IsStrictlySortedBy
found_at [] t k sorted l h = absurd (omega arith)
found_at (d ∷ ds) t zero sorted l h =
    sym (ap (λ (b : Bool). cond (not b) (1 + position_or_len (same_instant t) ds) 0) (equal_same (int_lt d t) (int_lt t d) (h d)))
found_at (d ∷ ds) t (suc k) sorted l h =
    let small : k < length ds = omega (arith, l) in
    let below : int_cmp d (get_or ds k d) ≡ Less = all_at (λ (y : ℤ). int_cmp d y ≡ Less) ds k d small sorted.0 in
    let same : get_or ds k d ≡ t = exact_signed (get_or ds k d) t (h d) in
    let other : same_instant t d ≡ false = less_other (int_lt d t) (int_lt t d) (subst (λ (y : ℤ). int_cmp d y ≡ Less) same below) in
    ap suc (found_at ds t k sorted.1 small h)
    ∙ (let plus : suc (position_or_len (same_instant t) ds) ≡ 1 + position_or_len (same_instant t) ds = omega arith in plus)
    ∙ sym (ap (λ (b : Bool). cond (not b) (1 + position_or_len (same_instant t) ds) 0) other)
