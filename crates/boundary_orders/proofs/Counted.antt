-- The numbers of periods ascend, and are numbers of extents.
use Rattle.std.proofs.Common.{ℕ, zero, suc, ◌≡◌, ◌<◌, ◌≤◌, ◌+◌, Bool, true, false, cond, List, [], ◌∷◌, length, sym, ap, subst, arith}
use Rattle.std.specs.Prelude.{slice_index}
use Rattle.std.specs.List.{All}
use Rattle.std.specs.List.Sorted.{IsStrictlyIncreasing}
use Rattle.std.proofs.lemmas.List.Elements.{All-nil, All-cons, All-weaker}
use Rattle.rdf_terms.specs.declared.terms.Term.{Term}
use Rattle.order_core.specs.Sets.{Orders}
use Rattle.boundary_orders.specs.Dossiers.{periods_from, IsKept, IsWhole}

pub record IsBetween (low high k : ℕ) : Type 0 where
  pub from : low ≤ k
  pub below : k < high

pub periods_between : (n : ℕ) (es : List (Term × Bool)) → All (λ (k : ℕ). IsBetween n (n + length es) k) (periods_from n es)
periods_between n [] = All-nil (λ (k : ℕ). IsBetween n (n + 0) k)
periods_between n (e ∷ es) =
    by e.1
    (All-weaker (λ (k : ℕ). IsBetween (suc n) (suc n + length es) k) (λ (k : ℕ). IsBetween n (n + suc (length es)) k)
    (λ k b. record { from = omega (arith, b.from); below = omega (arith, b.below) }) (periods_from (suc n) es) (periods_between (suc n) es))
  where
    by : (b : Bool) → All (λ (k : ℕ). IsBetween n (n + suc (length es)) k) (periods_from (suc n) es) →
        All (λ (k : ℕ). IsBetween n (n + suc (length es)) k) (cond b (n ∷ periods_from (suc n) es) (periods_from (suc n) es))
    by true r =
        All-cons (λ (k : ℕ). IsBetween n (n + suc (length es)) k) n (periods_from (suc n) es) (record { from = omega arith; below = omega arith }) r
    by false r = r

increasing_cons : (n : ℕ) (ks : List ℕ) → All (λ (k : ℕ). n < k) ks → IsStrictlyIncreasing ks → IsStrictlyIncreasing (n ∷ ks)
increasing_cons n ks above up zero l = above 0 0 (omega (arith, l))
increasing_cons n ks above up (suc k) l =
    subst (λ (m : ℕ). slice_index ks k < slice_index (n ∷ ks) m) (let plus : suc (k + 1) ≡ suc k + 1 = omega arith in plus) (up k (omega (arith, l)))

pub periods_ascend : (n : ℕ) (es : List (Term × Bool)) → IsStrictlyIncreasing (periods_from n es)
periods_ascend n [] = λ k l. absurd (omega (arith, l))
periods_ascend n (e ∷ es) = by e.1 (periods_ascend (suc n) es)
  where
    by : (b : Bool) → IsStrictlyIncreasing (periods_from (suc n) es) → IsStrictlyIncreasing (cond b (n ∷ periods_from (suc n) es) (periods_from (suc n) es))
    by true r =
        increasing_cons n (periods_from (suc n) es)
        (All-weaker (λ (k : ℕ). IsBetween (suc n) (suc n + length es) k) (λ (k : ℕ). n < k) (λ k b. omega (arith, b.from)) (periods_from (suc n) es)
        (periods_between (suc n) es)) r
    by false r = r

pub periods_few : (n : ℕ) (es : List (Term × Bool)) → length (periods_from n es) ≤ length es
periods_few n [] = omega arith
periods_few n (e ∷ es) = by e.1 (periods_few (suc n) es)
  where
    by : (b : Bool) → length (periods_from (suc n) es) ≤ length es → length (cond b (n ∷ periods_from (suc n) es) (periods_from (suc n) es)) ≤ suc (length es)
    by true l = omega arith
    by false l = omega arith

pub whole : (extents : List (Term × Bool)) (periods : List ℕ) (orders : Orders) → IsKept extents periods orders.extents →
    IsWhole (record { extents = extents; periods = periods; orders = orders })
whole extents periods orders kept = record {
  few_extents = kept.few;
  few_periods = omega (arith, ap length kept.numbered, periods_few 0 extents, kept.few);
  counted = kept.counted;
  numbered = kept.numbered;
  ascending = subst (λ (ks : List ℕ). IsStrictlyIncreasing ks) (sym kept.numbered) (periods_ascend 0 extents);
  within = subst (λ (ks : List ℕ). All (λ (k : ℕ). k < length extents) ks) (sym kept.numbered)
      (All-weaker (λ (k : ℕ). IsBetween 0 (0 + length extents) k) (λ (k : ℕ). k < length extents) (λ k b. omega (arith, b.below)) (periods_from 0 extents)
      (periods_between 0 extents));
}
