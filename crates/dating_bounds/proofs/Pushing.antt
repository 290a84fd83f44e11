-- With one more order between a boundary and a date the plain placing moves some boundaries to the date, and leaves the others.
use Rattle.std.proofs.Common.{zero, suc, ◌≡◌, ℕ, ℤ, pos, List, Bool, true, false, cond, not, max, leb, ◌<◌, ◌≤◌, length, get_or, arith, inl, inr, refl, subst, ap, sym, ◌∙◌}
use Rattle.std.specs.Prelude.{◌||◌, ◌&&◌, ◌==◌, if◌then◌else◌}
use Rattle.std.proofs.lemmas.Bool.{cases_Bool, cases_eq, cases_lt, true≢false, eq-eqb, ne_eqb, leb-true, le-leb}
use Rattle.order_laws.specs.declared.Order.{Order}
use Rattle.order_laws.specs.declared.Point.{Point}
use Rattle.order_laws.specs.declared.Point.TheVariants.{Date}
use Rattle.order_laws.specs.declared.Position.{Position}
use Rattle.order_laws.specs.declared.Reach.{Reach}
use Rattle.order_laws.specs.declared.Reach.TheVariants.{None as Nothing, Le, Lt}
use Rattle.order_laws.specs.Closure.{followed_by, stronger, joined}
use Rattle.order_laws.specs.Tables.{is_known, is_strict, IsPoint, all_points, floor_of, floor_instant, count_where, counts, built_at, IsOrderSet, IsOrderly}
use Rattle.order_laws.proofs.Built.{floor_below, floor_known, floor_greatest}
use Rattle.order_laws.proofs.LawD.{floor_mono, known_of_strict}
use Rattle.order_laws.proofs.Members.{in_range}
use Rattle.order_laws.proofs.Placed.{count_same}
use Rattle.dating_bounds.specs.Pushed.{IsPush, is_pushed, is_passed, passed_rank, pushed_at}
use Rattle.dating_bounds.proofs.Halves.{earlier_known, earlier_strict}
use Rattle.dating_bounds.proofs.Standing.{floor_low, floor_on}

-- what an order adds to an entry when it joins
pub known_joined : (r l h : Reach) (s : Bool) → is_known (stronger r (followed_by l (followed_by (cond s Lt Le) h))) ≡ (is_known r || (is_known l && is_known h))
known_joined Nothing Nothing h s = refl
known_joined Nothing Le Nothing true = refl
known_joined Nothing Le Nothing false = refl
known_joined Nothing Le Le true = refl
known_joined Nothing Le Le false = refl
known_joined Nothing Le Lt true = refl
known_joined Nothing Le Lt false = refl
known_joined Nothing Lt Nothing true = refl
known_joined Nothing Lt Nothing false = refl
known_joined Nothing Lt Le true = refl
known_joined Nothing Lt Le false = refl
known_joined Nothing Lt Lt true = refl
known_joined Nothing Lt Lt false = refl
known_joined Le Nothing h s = refl
known_joined Le Le Nothing true = refl
known_joined Le Le Nothing false = refl
known_joined Le Le Le true = refl
known_joined Le Le Le false = refl
known_joined Le Le Lt true = refl
known_joined Le Le Lt false = refl
known_joined Le Lt Nothing true = refl
known_joined Le Lt Nothing false = refl
known_joined Le Lt Le true = refl
known_joined Le Lt Le false = refl
known_joined Le Lt Lt true = refl
known_joined Le Lt Lt false = refl
known_joined Lt l h s = refl

pub strict_joined : (r l h : Reach) (s : Bool) →
    is_strict (stronger r (followed_by l (followed_by (cond s Lt Le) h))) ≡ (is_strict r || (is_known l && (is_known h && (s || (is_strict l || is_strict h)))))
strict_joined Nothing Nothing h s = refl
strict_joined Nothing Le Nothing true = refl
strict_joined Nothing Le Nothing false = refl
strict_joined Nothing Le Le true = refl
strict_joined Nothing Le Le false = refl
strict_joined Nothing Le Lt true = refl
strict_joined Nothing Le Lt false = refl
strict_joined Nothing Lt Nothing true = refl
strict_joined Nothing Lt Nothing false = refl
strict_joined Nothing Lt Le true = refl
strict_joined Nothing Lt Le false = refl
strict_joined Nothing Lt Lt true = refl
strict_joined Nothing Lt Lt false = refl
strict_joined Le Nothing h s = refl
strict_joined Le Le Nothing true = refl
strict_joined Le Le Nothing false = refl
strict_joined Le Le Le true = refl
strict_joined Le Le Le false = refl
strict_joined Le Le Lt true = refl
strict_joined Le Le Lt false = refl
strict_joined Le Lt Nothing true = refl
strict_joined Le Lt Nothing false = refl
strict_joined Le Lt Le true = refl
strict_joined Le Lt Le false = refl
strict_joined Le Lt Lt true = refl
strict_joined Le Lt Lt false = refl
strict_joined Lt l h s = refl

and_true : (a : Bool) → (a && true) ≡ a
and_true true = refl
and_true false = refl

and_false : (a : Bool) → (a && false) ≡ false
and_false true = refl
and_false false = refl

or_false : (a : Bool) → (a || false) ≡ a
or_false true = refl
or_false false = refl

rise_step : (a b : Bool) (k f d : ℕ) → f ≤ k → d ≤ k → cond (a || b) (suc k) (max f d) ≡ max (cond a (suc k) f) (cond b (suc k) d)
rise_step true true k f d h l = omega arith
rise_step true false k f d h l = omega arith
rise_step false true k f d h l = omega arith
rise_step false false k f d h l = omega arith

-- floors: behind the order a point is at least as high as the order's low point
module _ (table : Point → Point → Reach) (o : Order) (p : Point) where
  entry : (k : ℕ) → is_known (joined table o (Date k) p) ≡ (is_known (table (Date k) p) || (is_known (table (Date k) o.low) && is_known (table o.high p)))
  entry k = known_joined (table (Date k) p) (table (Date k) o.low) (table o.high p) (o.strict || is_strict (table o.high o.low))

  floor_stays : (n : ℕ) → is_known (table o.high p) ≡ false → floor_of (joined table o) n p ≡ floor_of table n p
  floor_stays zero h = refl
  floor_stays (suc k) h =
      let same : is_known (joined table o (Date k) p) ≡ is_known (table (Date k) p) =
      entry k ∙ ap (λ z. is_known (table (Date k) p) || (is_known (table (Date k) o.low) && z)) h ∙ ap (λ z. is_known (table (Date k) p) || z) (and_false (is_known (table (Date k) o.low)))
      ∙ or_false (is_known (table (Date k) p)) in
      ap (λ b. cond b (suc k) (floor_of (joined table o) k p)) same ∙ ap (λ n. cond (is_known (table (Date k) p)) (suc k) n) (floor_stays k h)

  floor_rises : (n : ℕ) → is_known (table o.high p) ≡ true → floor_of (joined table o) n p ≡ max (floor_of table n p) (floor_of table n o.low)
  floor_rises zero h = refl
  floor_rises (suc k) h =
      let same : is_known (joined table o (Date k) p) ≡ (is_known (table (Date k) p) || is_known (table (Date k) o.low)) =
      entry k ∙ ap (λ z. is_known (table (Date k) p) || (is_known (table (Date k) o.low) && z)) h ∙ ap (λ z. is_known (table (Date k) p) || z) (and_true (is_known (table (Date k) o.low))) in
      ap (λ b. cond b (suc k) (floor_of (joined table o) k p)) same
      ∙ ap (λ n. cond (is_known (table (Date k) p) || is_known (table (Date k) o.low)) (suc k) n) (floor_rises k h)
      ∙ rise_step (is_known (table (Date k) p)) (is_known (table (Date k) o.low)) k (floor_of table k p) (floor_of table k o.low) (floor_below table k p) (floor_below table k o.low)

-- the flags and the floors alone: `kp` and `sp` say what the order's high point is to p, `kq` what it is to q, `ql` and `qls` what q is to
-- its low point, `b` whether q is before p, `tq` whether q is at or after the date, whose floor is d
abbrev new_before : Bool → Bool → Bool → Bool → Bool → Bool → Bool
new_before s kp sp ql qls b = b || (ql && (kp && (s || (qls || sp))))

abbrev new_floor : Bool → ℕ → ℕ → ℕ
new_floor k f d = cond k (max f d) f

abbrev moves : Bool → Bool → Bool → Bool
moves s kp sp = if not s then sp else kp

record Facts (s kp sp kq b ql qls tq : Bool) (fp fq d : ℕ) : Type 0 where
  reached : sp ≡ true → kp ≡ true
  low : ql ≡ true → fq ≤ d
  rises : b ≡ true → fq ≤ fp
  along : kq ≡ true → b ≡ true → kp ≡ true
  level : ql ≡ true → kq ≡ true → fq ≡ d
  held : s ≡ false → kq ≡ true → d ≤ fq
  held_too : s ≡ false → kp ≡ true → d ≤ fp
  apart : s ≡ false → qls ≡ true → fq ≡ d → ⊥
  told : tq ≡ true → d ≤ fq
  tells : d ≤ fq → tq ≡ true

same_test : (a b c d : ℕ) → (a ≡ b → c ≡ d) → (c ≡ d → a ≡ b) → (a == b) ≡ (c == d)
same_test a b c d h k =
    elim (cases_eq a b) [
      | inl e ↦ eq-eqb a b e ∙ sym (eq-eqb c d (h e))
      | inr e ↦ ne_eqb a b e ∙ sym (ne_eqb c d (λ f. e (k f)))
    ]

untold : (tq : Bool) (d fq : ℕ) → (d ≤ fq → tq ≡ true) → tq ≡ false → fq < d
untold tq d fq h e = elim (cases_lt fq d) [ inl lt ↦ lt | inr ge ↦ absurd (true≢false (sym (h ge) ∙ e)) ]

-- of p, which is pushed: q is before it
core : (kq b ql tq : Bool) (fp fq d : ℕ) → fp ≤ d → (ql ≡ true → fq ≤ d) → (b ≡ true → fq ≤ fp) → (ql ≡ true → kq ≡ true → fq ≡ d) →
    (tq ≡ true → d ≤ fq) → (d ≤ fq → tq ≡ true) →
    ((b || ql) && (new_floor kq fq d == max fp d)) ≡ ((tq && ql) || (b && (tq || kq)))
core kq false false true fp fq d h low rises level told tells = refl
core kq false false false fp fq d h low rises level told tells = refl
core true false true true fp fq d h low rises level told tells = eq-eqb (max fq d) (max fp d) (omega (arith, level refl refl))
core false false true true fp fq d h low rises level told tells = eq-eqb fq (max fp d) (omega (arith, low refl, told refl))
core true false true false fp fq d h low rises level told tells = absurd (true≢false (sym (tells (omega (arith, level refl refl)))))
core false false true false fp fq d h low rises level told tells = ne_eqb fq (max fp d) (λ e. true≢false (sym (tells (omega arith))))
core true true true true fp fq d h low rises level told tells = eq-eqb (max fq d) (max fp d) (omega (arith, rises refl, told refl))
core true true false true fp fq d h low rises level told tells = eq-eqb (max fq d) (max fp d) (omega (arith, rises refl, told refl))
core false true true true fp fq d h low rises level told tells = eq-eqb fq (max fp d) (omega (arith, rises refl, told refl))
core false true false true fp fq d h low rises level told tells = eq-eqb fq (max fp d) (omega (arith, rises refl, told refl))
core true true ql false fp fq d h low rises level told tells = eq-eqb (max fq d) (max fp d) (omega (arith, rises refl))
core false true ql false fp fq d h low rises level told tells = ne_eqb fq (max fp d) (λ e. true≢false (sym (tells (omega arith))))

moves_reach : (s kp sp : Bool) → (sp ≡ true → kp ≡ true) → moves s kp sp ≡ true → kp ≡ true
moves_reach true kp sp r h = h
moves_reach false kp sp r h = r h

moves_show : (s kp sp qls : Bool) → moves s kp sp ≡ true → (s || (qls || sp)) ≡ true
moves_show true kp sp qls h = refl
moves_show false kp sp true h = refl
moves_show false kp sp false h = h

moved : (s kp sp kq b ql qls tq : Bool) (fp fq d : ℕ) → Facts s kp sp kq b ql qls tq fp fq d → moves s kp sp ≡ true → fp ≤ d →
    (new_before s kp sp ql qls b && (new_floor kq fq d == new_floor kp fp d)) ≡ ((tq && ql) || (b && (tq || kq)))
moved s kp sp kq b ql qls tq fp fq d g m h =
    let k : kp ≡ true = moves_reach s kp sp g.reached m in
    ap (λ z. (b || (ql && (kp && z))) && (new_floor kq fq d == new_floor kp fp d)) (moves_show s kp sp qls m)
    ∙ ap (λ z. (b || (ql && (z && true))) && (new_floor kq fq d == new_floor z fp d)) k
    ∙ ap (λ z. (b || z) && (new_floor kq fq d == max fp d)) (and_true ql)
    ∙ core kq b ql tq fp fq d h g.low g.rises g.level g.told g.tells

moved_floor : (s kp sp : Bool) (fp d : ℕ) → (sp ≡ true → kp ≡ true) → moves s kp sp ≡ true → fp ≤ d → new_floor kp fp d ≡ d
moved_floor s kp sp fp d r m h = ap (λ z. new_floor z fp d) (moves_reach s kp sp r m) ∙ omega arith

-- above the date nothing changes
higher : (s kp sp kq b ql qls tq : Bool) (fp fq d : ℕ) → Facts s kp sp kq b ql qls tq fp fq d → d < fp →
    (new_before s kp sp ql qls b && (new_floor kq fq d == new_floor kp fp d)) ≡ (b && (fq == fp))
higher s kp sp kq b true qls tq fp fq d g h =
    let low : fq ≤ d = g.low refl in
    let left : (new_floor kq fq d == new_floor kp fp d) ≡ false =
    ne_eqb _ _ (elim kq as (λ z. new_floor z fq d ≡ new_floor kp fp d → ⊥) [
      | true ↦ elim kp as (λ y. new_floor true fq d ≡ new_floor y fp d → ⊥) [ true ↦ λ e. omega arith | false ↦ λ e. omega arith ]
      | false ↦ elim kp as (λ y. new_floor false fq d ≡ new_floor y fp d → ⊥) [ true ↦ λ e. omega arith | false ↦ λ e. omega arith ]
    ]) in
    let right : (fq == fp) ≡ false = ne_eqb _ _ (λ e. omega arith) in
    ap (λ z. new_before s kp sp true qls b && z) left ∙ and_false _ ∙ sym (ap (λ z. b && z) right ∙ and_false b)
higher s kp sp kq false false qls tq fp fq d g h = refl
higher s true sp true true false qls tq fp fq d g h = same_test (max fq d) (max fp d) fq fp (λ e. omega arith) (λ e. omega arith)
higher s true sp false true false qls tq fp fq d g h = same_test fq (max fp d) fq fp (λ e. omega arith) (λ e. omega arith)
higher s false sp true true false qls tq fp fq d g h = absurd (true≢false (sym (g.along refl refl)))
higher s false sp false true false qls tq fp fq d g h = refl

unreached : (s sp kq b ql qls tq : Bool) (fp fq d : ℕ) → Facts s false sp kq b ql qls tq fp fq d →
    (new_before s false sp ql qls b && (new_floor kq fq d == fp)) ≡ (b && (fq == fp))
unreached s sp true true ql qls tq fp fq d g = absurd (true≢false (sym (g.along refl refl)))
unreached s sp false true ql qls tq fp fq d g = refl
unreached s sp kq false true qls tq fp fq d g = refl
unreached s sp kq false false qls tq fp fq d g = refl

-- an order to the date moves nothing that is at it
at_date : (kq b ql qls tq : Bool) (fp fq d : ℕ) → fp ≤ d → Facts false true false kq b ql qls tq fp fq d →
    (new_before false true false ql qls b && (new_floor kq fq d == max fp d)) ≡ (b && (fq == fp))
at_date true true ql qls tq fp fq d h g = same_test (max fq d) (max fp d) fq fp (λ e. omega (arith, g.held refl refl, g.held_too refl refl)) (λ e. omega (arith, g.held refl refl, g.held_too refl refl))
at_date false true ql qls tq fp fq d h g = same_test fq (max fp d) fq fp (λ e. omega (arith, g.held_too refl refl)) (λ e. omega (arith, g.held_too refl refl))
at_date kq false false qls tq fp fq d h g = refl
at_date kq false true false tq fp fq d h g = refl
at_date true false true true tq fp fq d h g = ne_eqb (max fq d) (max fp d) (λ e. g.apart refl refl (omega (arith, g.held refl refl)))
at_date false false true true tq fp fq d h g = ne_eqb fq (max fp d) (λ e. g.apart refl refl (omega arith))

stays : (s kp sp kq b ql qls tq : Bool) (fp fq d : ℕ) → Facts s kp sp kq b ql qls tq fp fq d → (moves s kp sp && leb fp d) ≡ false →
    (new_before s kp sp ql qls b && (new_floor kq fq d == new_floor kp fp d)) ≡ (b && (fq == fp))
stays s kp sp kq b ql qls tq fp fq d g m =
    elim (cases_lt d fp) [
      | inl above ↦ higher s kp sp kq b ql qls tq fp fq d g above
      | inr at ↦ (let still : moves s kp sp ≡ false = sym (and_true (moves s kp sp)) ∙ sym (ap (λ z. moves s kp sp && z) (le-leb fp d at)) ∙ m in
          still_stays s kp sp kq b ql qls tq fp fq d g still at)
    ]
  where
    still_stays : (s kp sp kq b ql qls tq : Bool) (fp fq d : ℕ) → Facts s kp sp kq b ql qls tq fp fq d → moves s kp sp ≡ false → fp ≤ d →
        (new_before s kp sp ql qls b && (new_floor kq fq d == new_floor kp fp d)) ≡ (b && (fq == fp))
    still_stays s false sp kq b ql qls tq fp fq d g m at = unreached s sp kq b ql qls tq fp fq d g
    still_stays true true sp kq b ql qls tq fp fq d g m at = absurd (true≢false m)
    still_stays false true true kq b ql qls tq fp fq d g m at = absurd (true≢false m)
    still_stays false true false kq b ql qls tq fp fq d g m at = at_date kq b ql qls tq fp fq d at g

stays_floor : (s kp sp : Bool) (fp d : ℕ) → (s ≡ false → kp ≡ true → d ≤ fp) → (moves s kp sp && leb fp d) ≡ false → new_floor kp fp d ≡ fp
stays_floor s false sp fp d held m = refl
stays_floor true true sp fp d held m = elim (cases_lt d fp) [ inl above ↦ omega arith | inr at ↦ absurd (true≢false (sym (le-leb fp d at) ∙ m)) ]
stays_floor false true sp fp d held m = omega (arith, held refl refl)

idle_floor : (k : Bool) (f d : ℕ) → (k ≡ true → d ≤ f) → new_floor k f d ≡ f
idle_floor true f d h = omega (arith, h refl)
idle_floor false f d h = refl

-- an order to a date from what need not be at or after it moves nothing
idle : (kp kq b ql x : Bool) (fp fq d : ℕ) → (kq ≡ true → d ≤ fq) → (kp ≡ true → d ≤ fp) → (ql ≡ true → fq < d) →
    ((b || (ql && (kp && x))) && (new_floor kq fq d == new_floor kp fp d)) ≡ (b && (fq == fp))
idle kp kq b ql x fp fq d held held_too low =
    ap (λ n. (b || (ql && (kp && x))) && (n == new_floor kp fp d)) (idle_floor kq fq d held)
    ∙ ap (λ n. (b || (ql && (kp && x))) && (fq == n)) (idle_floor kp fp d held_too)
    ∙ flags kp b ql x held_too low
  where
    flags : (kp b ql x : Bool) → (kp ≡ true → d ≤ fp) → (ql ≡ true → fq < d) → ((b || (ql && (kp && x))) && (fq == fp)) ≡ (b && (fq == fp))
    flags kp true ql x h l = refl
    flags kp false false x h l = refl
    flags false false true x h l = refl
    flags true false true x h l = ap (λ z. x && z) (ne_eqb fq fp (λ e. omega (arith, h refl, l refl))) ∙ and_false x

module _ (orders : List Order) (extents : ℕ) (dates : List ℤ) (table : Point → Point → Reach)
    (set : IsOrderSet orders extents dates) (good : IsOrderly orders extents (length dates) table)
    (date : ℕ) (in_dates : date < length dates) (o : Order)
    (in_low : IsPoint extents (length dates) o.low) (in_high : IsPoint extents (length dates) o.high) (push : IsPush table date o) where
  date_itself : is_known (table (Date date) (Date date)) ≡ true
  date_itself = ap is_known (good.itself (Date date) in_dates)

  date_weak : is_strict (table (Date date) (Date date)) ≡ false
  date_weak = ap is_strict (good.itself (Date date) in_dates)

  low_weak : is_strict (table (Date date) o.low) ≡ false
  low_weak =
      elim push [
        | inl after ↦ (let P : Point → Type 0 = λ z. is_strict (table (Date date) z) ≡ false in subst P (sym after.0) date_weak)
        | inr upto ↦ upto.2
      ]

  flag : (o.strict || is_strict (table o.high o.low)) ≡ o.strict
  flag =
      elim push [
        | inl after ↦ (let e : o.strict ≡ true = after.1 in rw e refl)
        | inr upto ↦
            (let weak : is_strict (table o.high o.low) ≡ false = (let P : Point → Type 0 = λ z. is_strict (table z o.low) ≡ false in subst P (sym upto.0) upto.2) in
            ap (λ z. o.strict || z) weak ∙ or_false o.strict)
      ]

  floor_at_most : (q : Point) → IsPoint extents (length dates) q → is_strict (table (Date date) q) ≡ false → floor_of table (length dates) q ≤ suc date
  floor_at_most q in_q weak =
      let go : (f : ℕ) → floor_of table (length dates) q ≡ f → f ≤ suc date = λ f. elim f as (λ g. floor_of table (length dates) q ≡ g → g ≤ suc date) [
        | zero ↦ λ e. omega arith
        | suc k ↦ λ e. elim (cases_lt date k) [
          | inl lt ↦ absurd (true≢false (sym (earlier_strict orders extents dates table set good q in_q date k lt (omega (arith, floor_below table (length dates) q, e))
              (floor_known table (length dates) q k e)) ∙ weak))
          | inr ge ↦ omega arith
        ]
      ] in
      go (floor_of table (length dates) q) refl

  at_date_floor : (q : Point) → is_known (table (Date date) q) ≡ true → suc date ≤ floor_of table (length dates) q
  at_date_floor q known = omega (arith, floor_greatest table (length dates) q date in_dates known)

  floor_at_date : (q : Point) → IsPoint extents (length dates) q → suc date ≤ floor_of table (length dates) q → is_known (table (Date date) q) ≡ true
  floor_at_date q in_q h =
      let go : (f : ℕ) → floor_of table (length dates) q ≡ f → suc date ≤ f → is_known (table (Date date) q) ≡ true =
      λ f. elim f as (λ g. floor_of table (length dates) q ≡ g → suc date ≤ g → is_known (table (Date date) q) ≡ true) [
        | zero ↦ λ e l. absurd (omega arith)
        | suc k ↦ λ e l. earlier_known orders extents dates table set good q in_q date k (omega arith) (omega (arith, floor_below table (length dates) q, e))
            (floor_known table (length dates) q k e)
      ] in
      go (floor_of table (length dates) q) refl h

  to_date : (q : Point) → o.strict ≡ false → is_known (table o.high q) ≡ true → is_known (table (Date date) q) ≡ true
  to_date q s known =
      elim push [
        | inl after ↦ absurd (true≢false (sym after.1 ∙ s))
        | inr upto ↦ (let P : Point → Type 0 = λ z. is_known (table z q) ≡ true in subst P upto.0 known)
      ]

  new_floor_of : (p : Point) → floor_of (joined table o) (length dates) p ≡ new_floor (is_known (table o.high p)) (floor_of table (length dates) p) (suc date)
  new_floor_of p =
      elim (cases_Bool (is_known (table o.high p))) [
        | inl e ↦ rw e (floor_rises table o p (length dates) e ∙ elim push [
          | inl after ↦ (let low : floor_of table (length dates) o.low ≡ suc date =
              ap (floor_of table (length dates)) after.0 ∙ floor_on orders extents dates table set good (Date date) in_dates date in_dates date_itself date_weak in
              ap (λ n. max (floor_of table (length dates) p) n) low)
          | inr upto ↦ omega (arith, floor_at_most o.low in_low low_weak, at_date_floor p (to_date p upto.1 e))
        ])
        | inr e ↦ rw e (floor_stays table o p (length dates) e)
      ]

  facts : (p q : Point) → IsPoint extents (length dates) p → IsPoint extents (length dates) q →
      Facts o.strict (is_known (table o.high p)) (is_strict (table o.high p)) (is_known (table o.high q)) (is_strict (table q p)) (is_known (table q o.low)) (is_strict (table q o.low))
      (is_known (table (Date date) q)) (floor_of table (length dates) p) (floor_of table (length dates) q) (suc date)
  facts p q in_p in_q = record {
    reached = known_of_strict (table o.high p);
    low = λ h. omega (arith, floor_mono orders extents dates table set good q o.low in_q in_low h, floor_at_most o.low in_low low_weak);
    rises = λ h. floor_mono orders extents dates table set good q p in_q in_p (known_of_strict _ h);
    along = λ h b. good.joins o.high q p in_high in_q in_p h (known_of_strict _ b);
    level = λ l h. elim push [
      | inl after ↦
          (let around : is_known (table o.high o.low) ≡ true = good.joins o.high q o.low in_high in_q in_low h l in
          let P : Point → Type 0 = λ z. is_known (table o.high z) ≡ true in
          absurd (true≢false (sym (subst P after.0 around) ∙ after.2)))
      | inr upto ↦ omega (arith, at_date_floor q (to_date q upto.1 h), floor_mono orders extents dates table set good q o.low in_q in_low l, floor_at_most o.low in_low low_weak)
    ];
    held = λ s h. at_date_floor q (to_date q s h);
    held_too = λ s h. at_date_floor p (to_date p s h);
    apart = λ s h e.
        (let known : is_known (table (Date date) q) ≡ true = floor_at_date q in_q (omega arith) in
        true≢false (sym (good.joins_strictly (Date date) q o.low in_dates in_q in_low known (known_of_strict _ h) (or_last (is_strict (table (Date date) q)) _ h)) ∙ low_weak));
    told = at_date_floor q;
    tells = floor_at_date q in_q;
  }
    where
      or_last : (a b : Bool) → b ≡ true → (a || b) ≡ true
      or_last true b h = refl
      or_last false b h = h

  new_counts : (p q : Point) →
      counts (joined table o) (length dates) p q
      ≡ (new_before o.strict (is_known (table o.high p)) (is_strict (table o.high p)) (is_known (table q o.low)) (is_strict (table q o.low)) (is_strict (table q p))
      && (new_floor (is_known (table o.high q)) (floor_of table (length dates) q) (suc date) == new_floor (is_known (table o.high p)) (floor_of table (length dates) p) (suc date)))
  new_counts p q =
      ap (λ z. z && (floor_of (joined table o) (length dates) q == floor_of (joined table o) (length dates) p))
      (strict_joined (table q p) (table q o.low) (table o.high p) (o.strict || is_strict (table o.high o.low))
      ∙ ap (λ z. is_strict (table q p) || (is_known (table q o.low) && (is_known (table o.high p) && (z || (is_strict (table q o.low) || is_strict (table o.high p)))))) flag)
      ∙ ap (λ n. new_before o.strict (is_known (table o.high p)) (is_strict (table o.high p)) (is_known (table q o.low)) (is_strict (table q o.low)) (is_strict (table q p))
      && (n == floor_of (joined table o) (length dates) p)) (new_floor_of q)
      ∙ ap (λ n. new_before o.strict (is_known (table o.high p)) (is_strict (table o.high p)) (is_known (table q o.low)) (is_strict (table q o.low)) (is_strict (table q p))
      && (new_floor (is_known (table o.high q)) (floor_of table (length dates) q) (suc date) == n)) (new_floor_of p)

  moved_at : (p : Point) → IsPoint extents (length dates) p → is_pushed table (length dates) date o p ≡ true →
      built_at extents dates (joined table o) p ≡ record { instant = get_or dates date (pos 0); rank = passed_rank extents (length dates) table date o p }
  moved_at p in_p h =
      let m = both _ _ h in
      let floor : floor_of (joined table o) (length dates) p ≡ suc date =
      new_floor_of p ∙ moved_floor o.strict (is_known (table o.high p)) (is_strict (table o.high p)) (floor_of table (length dates) p) (suc date) (known_of_strict (table o.high p)) m.0 (leb-true _ _ m.1) in
      let rank : count_where (counts (joined table o) (length dates) p) (all_points extents (length dates)) ≡ passed_rank extents (length dates) table date o p =
      count_same (counts (joined table o) (length dates) p) (is_passed table date o p) (all_points extents (length dates)) (λ q a.
      new_counts p q ∙ moved _ _ _ _ _ _ _ _ _ _ _ (facts p q in_p (in_range extents (length dates) q a)) m.0 (leb-true _ _ m.1)) in
      ap {B = Position} (λ n. record { instant = floor_instant dates n; rank = count_where (counts (joined table o) (length dates) p) (all_points extents (length dates)) }) floor
      ∙ ap {B = Position} (λ n. record { instant = get_or dates date (pos 0); rank = n }) rank
    where
      both : (a b : Bool) → (a && b) ≡ true → (a ≡ true) × (b ≡ true)
      both true true h = (refl, refl)
      both true false h = absurd (true≢false (sym h))
      both false b h = absurd (true≢false (sym h))

  stays_at : (p : Point) → IsPoint extents (length dates) p → is_pushed table (length dates) date o p ≡ false → built_at extents dates (joined table o) p ≡ built_at extents dates table p
  stays_at p in_p h =
      let floor : floor_of (joined table o) (length dates) p ≡ floor_of table (length dates) p =
      new_floor_of p ∙ stays_floor o.strict (is_known (table o.high p)) (is_strict (table o.high p)) (floor_of table (length dates) p) (suc date) (λ s k. at_date_floor p (to_date p s k)) h in
      let rank : count_where (counts (joined table o) (length dates) p) (all_points extents (length dates)) ≡ count_where (counts table (length dates) p) (all_points extents (length dates)) =
      count_same (counts (joined table o) (length dates) p) (counts table (length dates) p) (all_points extents (length dates)) (λ q a.
      new_counts p q ∙ stays _ _ _ _ _ _ _ _ _ _ _ (facts p q in_p (in_range extents (length dates) q a)) h) in
      ap {B = Position} (λ n. record { instant = floor_instant dates n; rank = count_where (counts (joined table o) (length dates) p) (all_points extents (length dates)) }) floor
      ∙ ap {B = Position} (λ n. record { instant = floor_instant dates (floor_of table (length dates) p); rank = n }) rank

  pub built_joined : (p : Point) → IsPoint extents (length dates) p → built_at extents dates (joined table o) p ≡ pushed_at extents dates table date o p
  built_joined p in_p =
      elim (cases_Bool (is_pushed table (length dates) date o p)) [
        | inl e ↦ rw e (moved_at p in_p e)
        | inr e ↦ rw e (stays_at p in_p e)
      ]

  -- where the order is to the date, and its low point need not be at or after it
  pub built_idle : o.high ≡ Date date → o.strict ≡ false → is_known (table (Date date) o.low) ≡ false → (p : Point) → IsPoint extents (length dates) p →
      built_at extents dates (joined table o) p ≡ built_at extents dates table p
  built_idle to weak unknown p in_p =
      let at : (q : Point) → is_known (table o.high q) ≡ true → suc date ≤ floor_of table (length dates) q = λ q h. at_date_floor q (to_date q weak h) in
      let floor : floor_of (joined table o) (length dates) p ≡ floor_of table (length dates) p =
      new_floor_of p ∙ idle_floor (is_known (table o.high p)) (floor_of table (length dates) p) (suc date) (at p) in
      let rank : count_where (counts (joined table o) (length dates) p) (all_points extents (length dates)) ≡ count_where (counts table (length dates) p) (all_points extents (length dates)) =
      count_same (counts (joined table o) (length dates) p) (counts table (length dates) p) (all_points extents (length dates)) (λ q a.
      new_counts p q ∙ idle (is_known (table o.high p)) (is_known (table o.high q)) (is_strict (table q p)) (is_known (table q o.low))
      (o.strict || (is_strict (table q o.low) || is_strict (table o.high p))) (floor_of table (length dates) p) (floor_of table (length dates) q) (suc date) (at q) (at p)
      (λ h. omega (arith, floor_mono orders extents dates table set good q o.low (in_range extents (length dates) q a) in_low h, floor_low orders extents dates table set good o.low in_low date in_dates unknown))) in
      ap {B = Position} (λ n. record { instant = floor_instant dates n; rank = count_where (counts (joined table o) (length dates) p) (all_points extents (length dates)) }) floor
      ∙ ap {B = Position} (λ n. record { instant = floor_instant dates (floor_of table (length dates) p); rank = n }) rank
