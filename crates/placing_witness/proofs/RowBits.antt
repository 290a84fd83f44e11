-- What the bits of a closure's rows say of the points in their order.
use Rattle.std.proofs.Common.{suc, [], ◌∷◌, replicate, ◌≡◌, ℕ, List, Bool, true, false, cond, ◌+◌, ◌<◌, length, get_or, map, add-one, arith, refl, subst, ap, sym, ◌∙◌}
use Rattle.std.proofs.lemmas.Bool.{true≢false}
use Rattle.std.proofs.lemmas.List.{ext_get_or, get_or-map, length-map}
use Rattle.order_laws.specs.declared.Point.{Point}
use Rattle.order_laws.specs.declared.Point.TheVariants.{Start, Date}
use Rattle.order_laws.specs.declared.Reach.{Reach}
use Rattle.order_laws.specs.declared.Reach.TheVariants.{None as Nothing, Le, Lt}
use Rattle.order_laws.specs.Tables.{IsPoint, is_known, is_strict, all_points, floor_of}
use Rattle.order_core.specs.Sets.{Orders}
use Rattle.order_closure.specs.Closures.{Closed, IsClosureOf, IsRowOf, tells, between}
use Rattle.order_closure.specs.Rows.{bit_of}
use Rattle.placing_witness.proofs.InRange.{point_in_range}
use Rattle.placing_witness.proofs.Numbered.{number_at}

same_flag : (a b : Bool) → (a ≡ true → b ≡ true) → (b ≡ true → a ≡ true) → a ≡ b
same_flag true true f g = refl
same_flag true false f g = absurd (true≢false (sym (f refl)))
same_flag false true f g = absurd (true≢false (sym (g refl)))
same_flag false false f g = refl

strict_flag : (strict weak : Bool) → is_strict (cond strict Lt (cond weak Le Nothing)) ≡ strict
strict_flag true weak = refl
strict_flag false true = refl
strict_flag false false = refl

pub strict_tells : (closure : Closed) (x y : Point) → is_strict (between closure x y) ≡ tells closure x y true
strict_tells closure x y = strict_flag (tells closure x y true) (tells closure x y false)

module _ (set : Orders) (closure : Closed) (of : IsClosureOf set closure) where
  in_set : (x : Point) → IsPoint closure.extents closure.dates x → IsPoint set.extents (length set.dates) x
  in_set x in_x =
      let P : ℕ → Type 0 = λ e. IsPoint e (length set.dates) x in
      let Q : ℕ → Type 0 = λ d. IsPoint closure.extents d x in
      subst P of.extents (subst Q of.dates in_x)

  pub known_tells : (x y : Point) → IsPoint closure.extents closure.dates x → IsPoint closure.extents closure.dates y →
      is_known (between closure x y) ≡ tells closure x y false
  known_tells x y in_x in_y =
      let known = of.base.known x y (in_set x in_x) (in_set y in_y) in
      let told = of.rows x y (in_set x in_x) (in_set y in_y) false in
      same_flag (is_known (between closure x y)) (tells closure x y false) (λ h. told.1 (known.0 h)) (λ h. known.1 (told.0 h))

pub floors_none : (table : Point → Point → Reach) (points : List Point) → replicate (length points) 0 ≡ map (floor_of table 0) points
floors_none table [] = refl
floors_none table (p ∷ ps) = ap (λ xs. 0 ∷ xs) (floors_none table ps)

module _ (closure : Closed) (points : List Point) (listed : points ≡ all_points closure.extents closure.dates) where
  pub in_closure : (n : ℕ) → n < length points → IsPoint closure.extents closure.dates (get_or points n (Start 0))
  in_closure n h = point_in_range points closure.extents closure.dates n (Start 0) listed h

  pub row_bit : (x : Point) (strict : Bool) (row : List ℕ) (n : ℕ) → IsRowOf closure x strict row → n < length points →
      bit_of row 0 n ≡ tells closure x (get_or points n (Start 0)) strict
  row_bit x strict row n is_row h =
      let P : ℕ → Type 0 = λ k. bit_of row 0 k ≡ tells closure x (get_or points n (Start 0)) strict in
      subst P (number_at closure.extents (Start 0) points closure.dates n listed h) (is_row (get_or points n (Start 0)) (in_closure n h))

  pub floors_raised : (set : Orders) (floors raised row : List ℕ) (k : ℕ) → IsClosureOf set closure → k < closure.dates →
      floors ≡ map (floor_of (between closure) k) points → IsRowOf closure (Date k) false row → length raised ≡ length floors →
      ((n : ℕ) → n < length floors → get_or raised n 0 ≡ cond (bit_of row 0 n) (k + 1) (get_or floors n 0)) →
      raised ≡ map (floor_of (between closure) (k + 1)) points
  floors_raised set floors raised row k of in_k is_floors is_row size each =
      let count : length floors ≡ length points = ap length is_floors ∙ length-map points (floor_of (between closure) k) in
      let P : ℕ → Type 0 = λ m. raised ≡ map (floor_of (between closure) m) points in
      subst P (sym (add-one k))
      (ext_get_or 0 raised (map (floor_of (between closure) (suc k)) points)
      (size ∙ count ∙ sym (length-map points (floor_of (between closure) (suc k))))
      (λ n h.
      (let p : Point = get_or points n (Start 0) in
      let here : n < length points = omega (arith, h, size, count) in
      each n (omega (arith, h, size))
      ∙ ap (λ b. cond b (k + 1) (get_or floors n 0)) (row_bit (Date k) false row n is_row here ∙ sym (known_tells set closure of (Date k) p in_k (in_closure n here)))
      ∙ ap (λ f. cond (is_known (between closure (Date k) p)) (k + 1) f)
      (ap (λ fs. get_or fs n 0) is_floors ∙ get_or-map (floor_of (between closure) k) points n (Start 0) 0 here)
      ∙ ap (λ m. cond (is_known (between closure (Date k) p)) m (floor_of (between closure) k p)) (add-one k)
      ∙ sym (get_or-map (floor_of (between closure) (suc k)) points n (Start 0) 0 here))))
