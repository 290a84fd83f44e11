-- Dates that are inserted one by one ascend.
use Rattle.std.proofs.Common.{ℤ, ◌≡◌, List, [], ◌∷◌, sym, refl, arith}
use Rattle.std.specs.Prelude.{◌<ℤ◌}
use Rattle.std.specs.List.{fold, AllByRecursion}
use Rattle.std.specs.List.Sorted.{IsStrictlySortedBy}
use Rattle.std.specs.Ordering.{int_cmp, match_ordering}
use Rattle.std.specs.BTreeSet.{insert_key}
use Rattle.std.specs.declared.cmp.Ordering.{Ordering}
use Rattle.std.specs.declared.cmp.Ordering.TheVariants.{Less, Equal, Greater}
use Rattle.std.specs.Cmp.{int_cmp_is}
use Rattle.std.proofs.lemmas.Cmp.{int_ranked}
use Rattle.std.proofs.lemmas.Int.{ints}

abbrev AreAbove : ℤ → List ℤ → Type 0
AreAbove x ys = AllByRecursion (λ (y : ℤ). int_cmp x y ≡ Less) ys

less : (a b : ℤ) → int_cmp a b ≡ Less → a <ℤ b
less a b e = int_ranked a b Less (sym e)

less_is : (a b : ℤ) → a <ℤ b → int_cmp a b ≡ Less
less_is a b l = sym (int_cmp_is a b Less l)

greater : (a b : ℤ) → int_cmp a b ≡ Greater → b <ℤ a
greater a b e = int_ranked a b Greater (sym e)

above_lower : (k x : ℤ) (ys : List ℤ) → k <ℤ x → AreAbove x ys → AreAbove k ys
above_lower k x [] l h = tt
above_lower k x (y ∷ ys) l h = (less_is k y (let m = less x y h.0 in omega (arith, ints, l, m)), above_lower k x ys l h.1)

above_inserted : (x k : ℤ) (ys : List ℤ) → x <ℤ k → AreAbove x ys → AreAbove x (insert_key int_cmp ys k)
above_inserted x k [] l h = (less_is x k l, tt)
above_inserted x k (y ∷ ys) l h = by (int_cmp k y) (above_inserted x k ys l h.1)
  where
    by : (o : Ordering) → AreAbove x (insert_key int_cmp ys k) → AreAbove x (match_ordering o (k ∷ y ∷ ys) (y ∷ ys) (y ∷ insert_key int_cmp ys k))
    by Less r = (less_is x k l, h)
    by Equal r = h
    by Greater r = (h.0, r)

inserted : (ks : List ℤ) (k : ℤ) → IsStrictlySortedBy int_cmp ks → IsStrictlySortedBy int_cmp (insert_key int_cmp ks k)
unfolding IsStrictlySortedBy
inserted [] k s = (tt, tt)
inserted (x ∷ xs) k s = by (int_cmp k x) refl (inserted xs k s.1)
  where
    by : (o : Ordering) → int_cmp k x ≡ o → IsStrictlySortedBy int_cmp (insert_key int_cmp xs k)
        → IsStrictlySortedBy int_cmp (match_ordering o (k ∷ x ∷ xs) (x ∷ xs) (x ∷ insert_key int_cmp xs k))
    by Less e r = ((e, above_lower k x xs (less k x e) s.0), s)
    by Equal e r = s
    by Greater e r = (above_inserted x k xs (greater k x e) s.0, r)

all_inserted : (ts ks : List ℤ) → IsStrictlySortedBy int_cmp ks → IsStrictlySortedBy int_cmp (fold (insert_key int_cmp) ks ts)
all_inserted [] ks s = s
all_inserted (t ∷ ts) ks s = all_inserted ts (insert_key int_cmp ks t) (inserted ks t s)

none : IsStrictlySortedBy int_cmp []
unfolding IsStrictlySortedBy
none = tt

pub ascending : (ts : List ℤ) → IsStrictlySortedBy int_cmp (fold (insert_key int_cmp) [] ts)
ascending ts = all_inserted ts [] none
