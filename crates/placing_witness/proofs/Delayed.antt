-- A delaying placing follows from the floors and the ranks of the plain one.
use Rattle.std.proofs.Common.{zero, suc, ◌≡◌, ℕ, ℤ, List, [], ◌∷◌, Bool, true, false, cond, not, max, leb, ◌+◌, ◌<◌, ◌≤◌, length, arith, inl, inr, refl, subst, ap, sym, ◌∙◌}
use Rattle.std.specs.Prelude.{◌||◌, ◌&&◌, ◌==◌}
use Rattle.std.proofs.lemmas.Bool.{cases_Bool, cases_eq, cases_lt, true≢false, eq-eqb, ne_eqb, leb-true, le-leb}
use Rattle.order_laws.specs.declared.Order.{Order}
use Rattle.order_laws.specs.declared.Point.{Point}
use Rattle.order_laws.specs.declared.Point.TheVariants.{Date}
use Rattle.order_laws.specs.declared.Position.{Position}
use Rattle.order_laws.specs.declared.Reach.{Reach}
use Rattle.order_laws.specs.declared.Reach.TheVariants.{None as Nothing, Le, Lt}
use Rattle.order_laws.specs.Tables.{is_known, is_strict, IsPoint, all_points, floor_of, floor_instant, count_where, counts, built_at, IsOrderSet, IsOrderly}
use Rattle.order_laws.specs.Wider.{widened, wider}
use Rattle.order_laws.proofs.Built.{floor_below, floor_known, Among}
use Rattle.order_laws.proofs.LawD.{floor_mono}
use Rattle.order_laws.proofs.Members.{in_range}
use Rattle.order_laws.proofs.Placed.{count_same}
use Rattle.placing_witness.specs.Delays.{delay_of, is_apart, is_level, is_between, is_delayed, delayed_rank, delayed_at}

-- the wider entries of a point that x is not known to be at or before
unreached_known : (xy xz yz : Reach) → is_known xz ≡ false → is_known (widened xy xz yz) ≡ is_known yz
unreached_known xy Nothing Nothing h = refl
unreached_known xy Nothing Le h = refl
unreached_known xy Nothing Lt h = refl
unreached_known xy Le yz h = absurd (true≢false h)
unreached_known xy Lt yz h = absurd (true≢false h)

reached_known : (xy xz yz : Reach) → is_known xz ≡ true → is_known (widened xy xz yz) ≡ (is_known yz || not (is_strict xy))
reached_known xy Nothing yz h = absurd (true≢false (sym h))
reached_known Nothing Le Nothing h = refl
reached_known Nothing Le Le h = refl
reached_known Nothing Le Lt h = refl
reached_known Le Le Nothing h = refl
reached_known Le Le Le h = refl
reached_known Le Le Lt h = refl
reached_known Lt Le Nothing h = refl
reached_known Lt Le Le h = refl
reached_known Lt Le Lt h = refl
reached_known Nothing Lt Nothing h = refl
reached_known Nothing Lt Le h = refl
reached_known Nothing Lt Lt h = refl
reached_known Le Lt Nothing h = refl
reached_known Le Lt Le h = refl
reached_known Le Lt Lt h = refl
reached_known Lt Lt Nothing h = refl
reached_known Lt Lt Le h = refl
reached_known Lt Lt Lt h = refl

rise_step : (known strict : Bool) (k f d : ℕ) → f ≤ k → d ≤ k → cond (known || not strict) (suc k) (max f d) ≡ max (cond known (suc k) f) (cond strict d (suc k))
rise_step true true k f d h l = omega arith
rise_step true false k f d h l = omega arith
rise_step false true k f d h l = omega arith
rise_step false false k f d h l = omega arith

-- floors: those of what x does not reach stay, the others are at least the one up to which x delays
module _ (table : Point → Point → Reach) (x p : Point) where
  floor_stays : (n : ℕ) → is_known (table x p) ≡ false → floor_of (wider table x) n p ≡ floor_of table n p
  floor_stays zero h = refl
  floor_stays (suc k) h =
      let entry : is_known (wider table x (Date k) p) ≡ is_known (table (Date k) p) = unreached_known (table x (Date k)) (table x p) (table (Date k) p) h in
      ap (λ b. cond b (suc k) (floor_of (wider table x) k p)) entry ∙ ap (λ n. cond (is_known (table (Date k) p)) (suc k) n) (floor_stays k h)

  delay_below : (n : ℕ) → delay_of table n x ≤ n
  delay_below zero = omega arith
  delay_below (suc k) = grind (arith, delay_below k)

  floor_rises : (n : ℕ) → is_known (table x p) ≡ true → floor_of (wider table x) n p ≡ max (floor_of table n p) (delay_of table n x)
  floor_rises zero h = refl
  floor_rises (suc k) h =
      let entry : is_known (wider table x (Date k) p) ≡ (is_known (table (Date k) p) || not (is_strict (table x (Date k)))) = reached_known (table x (Date k)) (table x p) (table (Date k) p) h in
      let below : floor_of (wider table x) k p ≡ max (floor_of table k p) (delay_of table k x) = floor_rises k h in
      ap (λ b. cond b (suc k) (floor_of (wider table x) k p)) entry
      ∙ ap (λ n. cond (is_known (table (Date k) p) || not (is_strict (table x (Date k)))) (suc k) n) below
      ∙ rise_step (is_known (table (Date k) p)) (is_strict (table x (Date k))) k (floor_of table k p) (delay_of table k x) (floor_below table k p) (delay_below k)

-- ranks: when a point counts for another in the wider table
strict_widened : (xq xp qp : Reach) → is_strict (widened xq xp qp) ≡ (is_strict qp || (is_known xp && not (is_known xq)) || (is_strict xp && not (is_strict xq)))
strict_widened Nothing Nothing Nothing = refl
strict_widened Nothing Nothing Le = refl
strict_widened Nothing Nothing Lt = refl
strict_widened Nothing Le Nothing = refl
strict_widened Nothing Le Le = refl
strict_widened Nothing Le Lt = refl
strict_widened Nothing Lt Nothing = refl
strict_widened Nothing Lt Le = refl
strict_widened Nothing Lt Lt = refl
strict_widened Le Nothing Nothing = refl
strict_widened Le Nothing Le = refl
strict_widened Le Nothing Lt = refl
strict_widened Le Le Nothing = refl
strict_widened Le Le Le = refl
strict_widened Le Le Lt = refl
strict_widened Le Lt Nothing = refl
strict_widened Le Lt Le = refl
strict_widened Le Lt Lt = refl
strict_widened Lt Nothing Nothing = refl
strict_widened Lt Nothing Le = refl
strict_widened Lt Nothing Lt = refl
strict_widened Lt Le Nothing = refl
strict_widened Lt Le Le = refl
strict_widened Lt Le Lt = refl
strict_widened Lt Lt Nothing = refl
strict_widened Lt Lt Le = refl
strict_widened Lt Lt Lt = refl

-- the flags and the floors alone: p and q are the points, `known` and `strict` say what x is to them, `below` whether q is known to be before p
abbrev counts_if : Bool → Bool → Bool → Bool → Bool → ℕ → ℕ → ℕ → Bool
counts_if known_p strict_p known_q strict_q below f_p f_q d =
    (below || (known_p && not known_q) || (strict_p && not strict_q)) && (cond known_q (max f_q d) f_q == cond known_p (max f_p d) f_p)

record Flags (known_p strict_p known_q strict_q below : Bool) (f_p f_q d : ℕ) : Type 0 where
  reached : strict_p ≡ true → known_p ≡ true
  reached_too : strict_q ≡ true → known_q ≡ true
  along : known_q ≡ true → below ≡ true → strict_p ≡ true
  above : d < f_p → strict_p ≡ true
  above_too : d < f_q → strict_q ≡ true
  rises : below ≡ true → f_q ≤ f_p

same_test : (a b c d : ℕ) → (a ≡ b → c ≡ d) → (c ≡ d → a ≡ b) → (a == b) ≡ (c == d)
same_test a b c d h k =
    elim (cases_eq a b) [
      | inl e ↦ eq-eqb a b e ∙ sym (eq-eqb c d (h e))
      | inr e ↦ ne_eqb a b e ∙ sym (ne_eqb c d (λ f. e (k f)))
    ]

and_false : (b : Bool) → (b && false) ≡ false
and_false true = refl
and_false false = refl

and_true : (a b : Bool) → a ≡ true → (a && b) ≡ b
and_true a b h = rw h

some_true : (a b : Bool) → (a || true || b) ≡ true
some_true true b = refl
some_true false b = refl

last_true : (a : Bool) → (a || false || true) ≡ true
last_true true = refl
last_true false = refl

not_above : (d f : ℕ) → (d < f → false ≡ true) → f ≤ d
not_above d f h =
    elim (cases_lt d f) [ inl above ↦ absurd (true≢false (sym (h above))) | inr below ↦ below ]

unreached_counts : (strict_p known_q strict_q below : Bool) (f_p f_q d : ℕ) → Flags false strict_p known_q strict_q below f_p f_q d →
    counts_if false strict_p known_q strict_q below f_p f_q d ≡ (below && (f_q == f_p))
unreached_counts true known_q strict_q below f_p f_q d g = absurd (true≢false (sym (g.reached refl)))
unreached_counts false known_q strict_q false f_p f_q d g = refl
unreached_counts false false strict_q true f_p f_q d g = refl
unreached_counts false true strict_q true f_p f_q d g = absurd (true≢false (sym (g.along refl refl)))

higher_counts : (strict_p known_q strict_q below : Bool) (f_p f_q d : ℕ) → d < f_p → Flags true strict_p known_q strict_q below f_p f_q d →
    counts_if true strict_p known_q strict_q below f_p f_q d ≡ (below && (f_q == f_p))
higher_counts false known_q strict_q below f_p f_q d h g = absurd (true≢false (sym (g.above h)))
higher_counts true true true true f_p f_q d h g = same_test (max f_q d) (max f_p d) f_q f_p (λ e. omega arith) (λ e. omega arith)
higher_counts true true true false f_p f_q d h g = refl
higher_counts true true false below f_p f_q d h g =
    let low : f_q ≤ d = not_above d f_q g.above_too in
    let left : (max f_q d == max f_p d) ≡ false = ne_eqb _ _ (λ e. omega arith) in
    let right : (f_q == f_p) ≡ false = ne_eqb _ _ (λ e. omega arith) in
    ap (λ z. (below || (true && not true) || (true && not false)) && z) left ∙ and_false _ ∙ sym (ap (λ z. below && z) right ∙ and_false below)
higher_counts true false true below f_p f_q d h g = absurd (true≢false (sym (g.reached_too refl)))
higher_counts true false false below f_p f_q d h g =
    let low : f_q ≤ d = not_above d f_q g.above_too in
    let left : (f_q == max f_p d) ≡ false = ne_eqb _ _ (λ e. omega arith) in
    let right : (f_q == f_p) ≡ false = ne_eqb _ _ (λ e. omega arith) in
    ap (λ z. (below || (true && not false) || (true && not false)) && z) left ∙ and_false _ ∙ sym (ap (λ z. below && z) right ∙ and_false below)

level_counts : (known_q strict_q below : Bool) (f_p f_q d : ℕ) → f_p ≤ d → Flags true false known_q strict_q below f_p f_q d →
    counts_if true false known_q strict_q below f_p f_q d ≡ (not known_q && (f_q == d))
level_counts true strict_q true f_p f_q d h g = absurd (true≢false (sym (g.along refl refl)))
level_counts true strict_q false f_p f_q d h g = refl
level_counts false strict_q below f_p f_q d h g =
    and_true (below || (true && not false) || (false && not strict_q)) (f_q == max f_p d) (some_true below _)
    ∙ same_test f_q (max f_p d) f_q d (λ e. omega arith) (λ e. omega arith)

delayed_counts : (known_q strict_q below : Bool) (f_p f_q d : ℕ) → f_p ≤ d → Flags true true known_q strict_q below f_p f_q d →
    cond (counts_if true true known_q strict_q below f_p f_q d) 1 0
    ≡ cond (not known_q && (f_q == d)) 1 0 + (cond (known_q && not strict_q) 1 0 + cond (strict_q && below) 1 0)
delayed_counts false true below f_p f_q d h g = absurd (true≢false (sym (g.reached_too refl)))
delayed_counts false false below f_p f_q d h g =
    let same : ((below || (true && not false) || (true && not false)) && (f_q == max f_p d)) ≡ (f_q == d) =
    and_true (below || (true && not false) || (true && not false)) (f_q == max f_p d) (some_true below _)
    ∙ same_test f_q (max f_p d) f_q d (λ e. omega arith) (λ e. omega arith) in
    omega (arith, ap {B = ℕ} (λ z. cond z 1 0) same)
delayed_counts true false below f_p f_q d h g =
    let low : f_q ≤ d = not_above d f_q g.above_too in
    let same : ((below || (true && not true) || (true && not false)) && (max f_q d == max f_p d)) ≡ true =
    and_true (below || (true && not true) || (true && not false)) (max f_q d == max f_p d) (last_true below)
    ∙ eq-eqb (max f_q d) (max f_p d) (omega arith) in
    ap {B = ℕ} (λ z. cond z 1 0) same
delayed_counts true true true f_p f_q d h g =
    let same : (max f_q d == max f_p d) ≡ true = eq-eqb (max f_q d) (max f_p d) (omega (arith, g.rises refl)) in
    ap {B = ℕ} (λ z. cond z 1 0) same
delayed_counts true true false f_p f_q d h g = refl

-- where p is delayed or not, by the flags
not_delayed : (known_p strict_p known_q strict_q below : Bool) (f_p f_q d : ℕ) → Flags known_p strict_p known_q strict_q below f_p f_q d →
    (known_p && leb f_p d) ≡ false → counts_if known_p strict_p known_q strict_q below f_p f_q d ≡ (below && (f_q == f_p))
not_delayed true strict_p known_q strict_q below f_p f_q d g h =
    higher_counts strict_p known_q strict_q below f_p f_q d
    (elim (cases_lt d f_p) [ inl higher ↦ higher | inr low ↦ absurd (true≢false (sym (le-leb f_p d low) ∙ h)) ])
    g
not_delayed false strict_p known_q strict_q below f_p f_q d g h = unreached_counts strict_p known_q strict_q below f_p f_q d g

delayed_level : (known_p strict_p known_q strict_q below : Bool) (f_p f_q d : ℕ) → Flags known_p strict_p known_q strict_q below f_p f_q d →
    (known_p && leb f_p d) ≡ true → strict_p ≡ false → counts_if known_p strict_p known_q strict_q below f_p f_q d ≡ (not known_q && (f_q == d))
delayed_level true true known_q strict_q below f_p f_q d g h k = absurd (true≢false k)
delayed_level true false known_q strict_q below f_p f_q d g h k = level_counts known_q strict_q below f_p f_q d (leb-true f_p d h) g
delayed_level false strict_p known_q strict_q below f_p f_q d g h k = absurd (true≢false (sym h))

delayed_after : (known_p strict_p known_q strict_q below : Bool) (f_p f_q d : ℕ) → Flags known_p strict_p known_q strict_q below f_p f_q d →
    (known_p && leb f_p d) ≡ true → strict_p ≡ true →
    cond (counts_if known_p strict_p known_q strict_q below f_p f_q d) 1 0
    ≡ cond (not known_q && (f_q == d)) 1 0 + (cond (known_q && not strict_q) 1 0 + cond (strict_q && below) 1 0)
delayed_after true true known_q strict_q below f_p f_q d g h k = delayed_counts known_q strict_q below f_p f_q d (leb-true f_p d h) g
delayed_after true false known_q strict_q below f_p f_q d g h k = absurd (true≢false (sym k))
delayed_after false strict_p known_q strict_q below f_p f_q d g h k = absurd (true≢false (sym h))

delayed_floor : (known : Bool) (f d : ℕ) → (known && leb f d) ≡ true → cond known (max f d) f ≡ d
delayed_floor true f d h = omega (arith, leb-true f d h)
delayed_floor false f d h = absurd (true≢false (sym h))

plain_floor : (known : Bool) (f d : ℕ) → (known && leb f d) ≡ false → cond known (max f d) f ≡ f
plain_floor true f d h = elim (cases_lt d f) [ inl higher ↦ omega arith | inr low ↦ absurd (true≢false (sym (le-leb f d low) ∙ h)) ]
plain_floor false f d h = refl

known_of_strict : (r : Reach) → is_strict r ≡ true → is_known r ≡ true
known_of_strict Nothing h = absurd (true≢false (sym h))
known_of_strict Le h = refl
known_of_strict Lt h = refl

delay_open : (table : Point → Point → Reach) (x : Point) (n j : ℕ) → j < n → delay_of table n x ≤ j → is_strict (table x (Date j)) ≡ true
delay_open table x zero j h l = absurd (omega arith)
delay_open table x (suc k) j h l =
    elim (cases_Bool (is_strict (table x (Date k)))) [
      | inl e ↦ elim (cases_eq j k) [
        | inl same ↦ (let P : ℕ → Type 0 = λ i. is_strict (table x (Date i)) ≡ true in subst P (sym same) e)
        | inr other ↦ delay_open table x k j (omega arith) (rw e at l)
      ]
      | inr e ↦ (let m : suc k ≤ j = rw e at l in absurd (omega arith))
    ]

floor_either : (table : Point → Point → Reach) (x p : Point) (n : ℕ) → floor_of (wider table x) n p ≡ cond (is_known (table x p)) (max (floor_of table n p) (delay_of table n x)) (floor_of table n p)
floor_either table x p n =
    elim (cases_Bool (is_known (table x p))) [
      | inl e ↦ rw e (floor_rises table x p n e)
      | inr e ↦ rw e (floor_stays table x p n e)
    ]

counts_is : (table : Point → Point → Reach) (x p q : Point) (n : ℕ) →
    counts (wider table x) n p q
    ≡ counts_if (is_known (table x p)) (is_strict (table x p)) (is_known (table x q)) (is_strict (table x q)) (is_strict (table q p)) (floor_of table n p) (floor_of table n q) (delay_of table n x)
counts_is table x p q n =
    ap (λ b. b && (floor_of (wider table x) n q == floor_of (wider table x) n p)) (strict_widened (table x q) (table x p) (table q p))
    ∙ ap (λ f. (is_strict (table q p) || (is_known (table x p) && not (is_known (table x q))) || (is_strict (table x p) && not (is_strict (table x q)))) && (f == floor_of (wider table x) n p)) (floor_either table x q n)
    ∙ ap (λ f. (is_strict (table q p) || (is_known (table x p) && not (is_known (table x q))) || (is_strict (table x p) && not (is_strict (table x q)))) && (cond (is_known (table x q)) (max (floor_of table n q) (delay_of table n x)) (floor_of table n q) == f)) (floor_either table x p n)

-- three counts in one
count_parts : (f g h k : Point → Bool) (xs : List Point) → ((x : Point) → Among x xs → cond (f x) 1 0 ≡ cond (g x) 1 0 + (cond (h x) 1 0 + cond (k x) 1 0)) →
    count_where f xs ≡ count_where g xs + (count_where h xs + count_where k xs)
count_parts f g h k [] each = refl
count_parts f g h k (x ∷ xs) each = omega (arith, each x (inl refl), count_parts f g h k xs (λ z a. each z (inr a)))

or_right : (a b : Bool) → b ≡ true → (a || b) ≡ true
or_right true b h = refl
or_right false b h = h

module _ (orders : List Order) (extents : ℕ) (dates : List ℤ) (table : Point → Point → Reach)
    (set : IsOrderSet orders extents dates) (good : IsOrderly orders extents (length dates) table) (x : Point) (in_x : IsPoint extents (length dates) x) where
  above : (q : Point) → IsPoint extents (length dates) q → delay_of table (length dates) x < floor_of table (length dates) q → is_strict (table x q) ≡ true
  above q in_q h =
      let go : (f : ℕ) → floor_of table (length dates) q ≡ f → delay_of table (length dates) x < f → is_strict (table x q) ≡ true =
      λ f. elim f as (λ g. floor_of table (length dates) q ≡ g → delay_of table (length dates) x < g → is_strict (table x q) ≡ true) [
        | zero ↦ λ e l. absurd (omega arith)
        | suc j ↦ λ e l.
            (let low : j < length dates = omega (arith, floor_below table (length dates) q) in
            let before : is_strict (table x (Date j)) ≡ true = delay_open table x (length dates) j low (omega arith) in
            good.joins_strictly x (Date j) q in_x low in_q (known_of_strict _ before) (floor_known table (length dates) q j e) (rw before))
      ] in
      go (floor_of table (length dates) q) refl h

  flags : (p q : Point) → IsPoint extents (length dates) p → IsPoint extents (length dates) q →
      Flags (is_known (table x p)) (is_strict (table x p)) (is_known (table x q)) (is_strict (table x q)) (is_strict (table q p)) (floor_of table (length dates) p) (floor_of table (length dates) q) (delay_of table (length dates) x)
  flags p q in_p in_q = record {
    reached = known_of_strict (table x p);
    reached_too = known_of_strict (table x q);
    along = λ known below. good.joins_strictly x q p in_x in_q in_p known (known_of_strict _ below) (or_right _ _ below);
    above = above p in_p;
    above_too = above q in_q;
    rises = λ below. floor_mono orders extents dates table set good q p in_q in_p (known_of_strict _ below);
  }

  pub delayed_is : (p : Point) → IsPoint extents (length dates) p → built_at extents dates (wider table x) p ≡ delayed_at extents dates table x p
  delayed_is p in_p =
      let K : ℕ = delay_of table (length dates) x in
      let rank : ℕ = count_where (counts (wider table x) (length dates) p) (all_points extents (length dates)) in
      let at : ℕ → ℕ → Position = λ f r. record { instant = floor_instant dates f; rank = r } in
      elim (cases_Bool (is_delayed table (length dates) x p)) [
        | inl e ↦
            (let floor : floor_of (wider table x) (length dates) p ≡ K = floor_either table x p (length dates) ∙ delayed_floor (is_known (table x p)) (floor_of table (length dates) p) K e in
            let ranks : rank ≡ delayed_rank extents (length dates) table x p =
            elim (cases_Bool (is_strict (table x p))) [
              | inl s ↦ rw s
                  (count_parts (counts (wider table x) (length dates) p) (is_apart table (length dates) x K) (is_level table x) (is_between table x p) (all_points extents (length dates))
                  (λ q a. ap {B = ℕ} (λ b. cond b 1 0) (counts_is table x p q (length dates))
                  ∙ delayed_after _ _ _ _ _ _ _ _ (flags p q in_p (in_range extents (length dates) q a)) e s))
              | inr s ↦ rw s
                  (omega (
                    arith,
                    count_same (counts (wider table x) (length dates) p) (is_apart table (length dates) x K) (all_points extents (length dates))
                        (λ q a. counts_is table x p q (length dates)
                        ∙ delayed_level _ _ _ _ _ _ _ _ (flags p q in_p (in_range extents (length dates) q a)) e s),
                  ))
            ] in
            rw e (ap (λ f. at f rank) floor ∙ ap (λ r. at K r) ranks))
        | inr e ↦
            (let floor : floor_of (wider table x) (length dates) p ≡ floor_of table (length dates) p = floor_either table x p (length dates) ∙ plain_floor (is_known (table x p)) (floor_of table (length dates) p) K e in
            let ranks : rank ≡ count_where (counts table (length dates) p) (all_points extents (length dates)) =
            count_same (counts (wider table x) (length dates) p) (counts table (length dates) p) (all_points extents (length dates))
            (λ q a. counts_is table x p q (length dates)
            ∙ not_delayed _ _ _ _ _ _ _ _ (flags p q in_p (in_range extents (length dates) q a)) e) in
            rw e (ap (λ f. at f rank) floor ∙ ap (λ r. at (floor_of table (length dates) p) r) ranks))
      ]
