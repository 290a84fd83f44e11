-- The computed closure has exactly what follows.
use Rattle.std.proofs.Common.{zero, suc, ◌≡◌, ℕ, List, [], ◌∷◌, Bool, true, false, cond, ◌+◌, ◌*◌, ◌≤◌, length, length-append, map, arith, inl, inr, refl, subst, ap, sym, ◌∙◌}
use Rattle.std.specs.Prelude.{◌||◌, ◌⊎◌}
use Rattle.std.proofs.lemmas.List.{length-map}
use Rattle.std.proofs.lemmas.Bool.{cases_Bool, true≢false, eqb-true, eq-eqb}
use Rattle.order_laws.specs.declared.Order.{Order}
use Rattle.order_laws.specs.declared.Point.{Point}
use Rattle.order_laws.specs.declared.Point.TheVariants.{Start, End, Date}
use Rattle.order_laws.specs.declared.Reach.{Reach}
use Rattle.order_laws.specs.declared.Reach.TheVariants.{None as Nothing, Le, Lt}
use Rattle.order_laws.specs.Chains.{order_at, IsWalk, shows_strict, Follows}
use Rattle.order_laws.specs.ChainSearch.{enough}
use Rattle.order_laws.specs.Closure.{followed_by, stronger, across, joined, reach_between}
use Rattle.order_laws.specs.Points.{is_same}
use Rattle.order_laws.specs.Tables.{is_known, is_strict, IsPoint, IsBase}
use Rattle.order_laws.proofs.Base.{Reaches, reaches, follows, reaches_join, path_joined}

-- an entry that is known, and strict where the flag is set
abbrev pub has : Bool → Reach → Bool
has true r = is_strict r
has false r = is_known r

has_less : (a b : Bool) (r : Reach) → has a r ≡ true → (b ≡ true → a ≡ true) → has b r ≡ true
has_less true true r h k = h
has_less false false r h k = h
has_less true false Nothing h k = absurd (true≢false (sym h))
has_less true false Le h k = refl
has_less true false Lt h k = refl
has_less false true r h k = absurd (true≢false (sym (k refl)))

has_either : (a b : Bool) (r : Reach) → has a r ≡ true → has b r ≡ true → has (a || b) r ≡ true
has_either true b r h k = h
has_either false b r h k = k

has_followed : (a b : Bool) (r s : Reach) → has a r ≡ true → has b s ≡ true → has (a || b) (followed_by r s) ≡ true
has_followed a b Nothing s h k = elim a as (λ z. has z Nothing ≡ true → has (z || b) (followed_by Nothing s) ≡ true) [ true ↦ λ p. absurd (true≢false (sym p)) | false ↦ λ p. absurd (true≢false (sym p)) ] h
has_followed a b Le Nothing h k = elim b as (λ z. has z Nothing ≡ true → has (a || z) (followed_by Le Nothing) ≡ true) [ true ↦ λ p. absurd (true≢false (sym p)) | false ↦ λ p. absurd (true≢false (sym p)) ] k
has_followed a b Lt Nothing h k = elim b as (λ z. has z Nothing ≡ true → has (a || z) (followed_by Lt Nothing) ≡ true) [ true ↦ λ p. absurd (true≢false (sym p)) | false ↦ λ p. absurd (true≢false (sym p)) ] k
has_followed true b Le Le h k = absurd (true≢false (sym h))
has_followed false true Le Le h k = absurd (true≢false (sym k))
has_followed false false Le Le h k = refl
has_followed true true Le Lt h k = refl
has_followed true false Le Lt h k = refl
has_followed false true Le Lt h k = refl
has_followed false false Le Lt h k = refl
has_followed true true Lt Le h k = refl
has_followed true false Lt Le h k = refl
has_followed false true Lt Le h k = refl
has_followed false false Lt Le h k = refl
has_followed true true Lt Lt h k = refl
has_followed true false Lt Lt h k = refl
has_followed false true Lt Lt h k = refl
has_followed false false Lt Lt h k = refl

record Parts (flag : Bool) (r s : Reach) : Type 0 where
  first : Bool
  second : Bool
  left : has first r ≡ true
  right : has second s ≡ true
  either : flag ≡ true → (first || second) ≡ true

parts_of : (b : Bool) (r s : Reach) → has b (followed_by r s) ≡ true → Parts b r s
parts_of true Nothing s h = absurd (true≢false (sym h))
parts_of false Nothing s h = absurd (true≢false (sym h))
parts_of true Le Nothing h = absurd (true≢false (sym h))
parts_of false Le Nothing h = absurd (true≢false (sym h))
parts_of true Lt Nothing h = absurd (true≢false (sym h))
parts_of false Lt Nothing h = absurd (true≢false (sym h))
parts_of true Le Le h = absurd (true≢false (sym h))
parts_of false Le Le h = record { first = false; second = false; left = refl; right = refl; either = λ e. e }
parts_of b Le Lt h = record { first = false; second = true; left = refl; right = refl; either = λ e. refl }
parts_of b Lt Le h = record { first = true; second = false; left = refl; right = refl; either = λ e. refl }
parts_of b Lt Lt h = record { first = true; second = true; left = refl; right = refl; either = λ e. refl }

has_left : (b : Bool) (r s : Reach) → has b r ≡ true → has b (stronger r s) ≡ true
has_left true Nothing s h = absurd (true≢false (sym h))
has_left true Le s h = absurd (true≢false (sym h))
has_left true Lt s h = refl
has_left false Nothing s h = absurd (true≢false (sym h))
has_left false Le Nothing h = refl
has_left false Le Le h = refl
has_left false Le Lt h = refl
has_left false Lt s h = refl

has_right : (b : Bool) (r s : Reach) → has b s ≡ true → has b (stronger r s) ≡ true
has_right true r Nothing h = absurd (true≢false (sym h))
has_right true r Le h = absurd (true≢false (sym h))
has_right true Nothing Lt h = refl
has_right true Le Lt h = refl
has_right true Lt Lt h = refl
has_right false r Nothing h = absurd (true≢false (sym h))
has_right false Nothing Le h = refl
has_right false Le Le h = refl
has_right false Lt Le h = refl
has_right false Nothing Lt h = refl
has_right false Le Lt h = refl
has_right false Lt Lt h = refl

which : (b : Bool) (r s : Reach) → has b (stronger r s) ≡ true → (has b r ≡ true) ⊎ (has b s ≡ true)
which true Nothing Nothing h = absurd (true≢false (sym h))
which true Nothing Le h = absurd (true≢false (sym h))
which true Nothing Lt h = inr refl
which true Le Nothing h = absurd (true≢false (sym h))
which true Le Le h = absurd (true≢false (sym h))
which true Le Lt h = inr refl
which true Lt s h = inl refl
which false Nothing s h = inr (elim s as (λ z. has false (stronger Nothing z) ≡ true → has false z ≡ true) [ Nothing ↦ λ p. p | Le ↦ λ p. refl | Lt ↦ λ p. refl ] h)
which false Le s h = inl refl
which false Lt s h = inl refl

-- a strict entry is that of a cond
has_cond : (a b : Bool) → (b ≡ true → a ≡ true) → has b (cond a Lt Le) ≡ true
has_cond true true k = refl
has_cond true false k = refl
has_cond false true k = absurd (true≢false (sym (k refl)))
has_cond false false k = refl

cond_has : (a b : Bool) → has b (cond a Lt Le) ≡ true → b ≡ true → a ≡ true
cond_has true b h e = refl
cond_has false true h e = absurd (true≢false (sym h))
cond_has false false h e = absurd (true≢false (sym e))

pub same_is : (x y : Point) → is_same x y ≡ true → x ≡ y
same_is (Start j) (Start k) h = ap Start (eqb-true j k h)
same_is (Start j) (End k) h = absurd (true≢false (sym h))
same_is (Start j) (Date k) h = absurd (true≢false (sym h))
same_is (End j) (Start k) h = absurd (true≢false (sym h))
same_is (End j) (End k) h = ap End (eqb-true j k h)
same_is (End j) (Date k) h = absurd (true≢false (sym h))
same_is (Date j) (Start k) h = absurd (true≢false (sym h))
same_is (Date j) (End k) h = absurd (true≢false (sym h))
same_is (Date j) (Date k) h = ap Date (eqb-true j k h)

pub is_itself : (x : Point) → is_same x x ≡ true
is_itself (Start k) = eq-eqb k k refl
is_itself (End k) = eq-eqb k k refl
is_itself (Date k) = eq-eqb k k refl

or_left : (a b : Bool) → a ≡ true → (a || b) ≡ true
or_left a b h = rw h

or_right : (a b : Bool) → b ≡ true → (a || b) ≡ true
or_right true b h = refl
or_right false b h = h

or_cases : (a b : Bool) → (a || b) ≡ true → (a ≡ true) ⊎ (b ≡ true)
or_cases true b h = inl refl
or_cases false b h = inr h

-- the flags of parts within parts
flags_twice : (b f s t u : Bool) → (b ≡ true → (f || s) ≡ true) → (s ≡ true → (t || u) ≡ true) → b ≡ true → (f || (t || u)) ≡ true
flags_twice b true s t u j k e = refl
flags_twice b false s t u j k e = k (j e)

flags_new : (a b f s t u : Bool) → (b ≡ true → (f || s) ≡ true) → (s ≡ true → (t || u) ≡ true) → (a || b) ≡ true →
    (false || ((a || (f || t)) || u)) ≡ true
flags_new true b f s t u j k e = refl
flags_new false b true s t u j k e = refl
flags_new false b false s t u j k e = k (j e)

flags_old : (a b f s t u : Bool) → (b ≡ true → (f || s) ≡ true) → (s ≡ true → (t || u) ≡ true) → (a || b) ≡ true →
    ((a || f) || (t || u)) ≡ true
flags_old true b f s t u j k e = refl
flags_old false b true s t u j k e = refl
flags_old false b false s t u j k e = k (j e)

flags_first : (a b c : Bool) → (a || (b || c)) ≡ true → (a ≡ true) ⊎ ((b ≡ true) ⊎ (c ≡ true))
flags_first true b c e = inl refl
flags_first false true c e = inr (inl refl)
flags_first false false c e = inr (inr e)

flags_single : (a b : Bool) → (a || b) ≡ true → ((a || false) || b) ≡ true
flags_single true b e = refl
flags_single false b e = e

-- the numbers of the orders move by one when an order joins in front
pub lifted : (o : Order) (os : List Order) (x y : Point) (ns : List ℕ) → IsWalk os x y ns → IsWalk (o ∷ os) x y (map suc ns)
lifted o os x y [] w = w
lifted o os x y (n ∷ ns) w = (omega (arith, w.0), w.1, lifted o os (order_at os n).high y ns w.2)

pub shown_lifted : (o : Order) (os : List Order) (ns : List ℕ) → shows_strict (o ∷ os) (map suc ns) ≡ shows_strict os ns
shown_lifted o os [] = refl
shown_lifted o os (n ∷ ns) = ap (λ b. (order_at os n).strict || b) (shown_lifted o os ns)

-- what follows, by a walk of at most so many orders
pub record Within (orders : List Order) (most : ℕ) (x y : Point) (strict : Bool) : Type 0 where
  pub reach : Reaches orders x y strict
  pub short : length reach.path ≤ most

within_lifted : (o : Order) (os : List Order) (n : ℕ) (x y : Point) (b : Bool) → Within os n x y b → Within (o ∷ os) n x y b
within_lifted o os n x y b r = record {
  reach = record {
    path = map suc r.reach.path;
    walk = lifted o os x y r.reach.path r.reach.walk;
    shows = λ e. shown_lifted o os r.reach.path ∙ r.reach.shows e;
  };
  short = omega (arith, r.short, length-map r.reach.path suc);
}

pub within_less : (orders : List Order) (n m : ℕ) (x y : Point) (a b : Bool) → Within orders n x y a → n ≤ m → (b ≡ true → a ≡ true) → Within orders m x y b
within_less orders n m x y a b r l k = record {
  reach = record { path = r.reach.path; walk = r.reach.walk; shows = λ e. r.reach.shows (k e) };
  short = omega (arith, r.short);
}

pub within_join : (orders : List Order) (n m : ℕ) (x y z : Point) (a b : Bool) → Within orders n x y a → Within orders m y z b → Within orders (n + m) x z (a || b)
within_join orders n m x y z a b r s = record {
  reach = reaches_join orders x y z a b r.reach s.reach;
  short = omega (arith, r.short, s.short, length-append r.reach.path s.reach.path, ap length (path_joined orders x y z a b r.reach s.reach));
}

within_front : (o : Order) (os : List Order) → Within (o ∷ os) 1 o.low o.high o.strict
within_front o os = record {
  reach = record {
    path = 0 ∷ [];
    walk = (omega arith, refl, refl);
    shows = λ e. rw e;
  };
  short = omega arith;
}

sound_across : (o : Order) (os : List Order) (n : ℕ) → (is_strict (reach_between os o.high o.low) ≡ true → Within os n o.high o.low true) →
    (b : Bool) → has b (across (reach_between os) o) ≡ true → Within (o ∷ os) (n + 2) o.low o.high b
sound_across o os n back b h =
    elim (cases_Bool b) [
      | inl e ↦ elim (or_cases o.strict (is_strict (reach_between os o.high o.low)) (cond_has _ b h e)) [
        | inl s ↦ within_less (o ∷ os) 1 (n + 2) o.low o.high o.strict b (within_front o os) (omega arith) (λ _. s)
        | inr s ↦ within_less (o ∷ os) (1 + (n + 1)) (n + 2) o.low o.high (o.strict || (true || o.strict)) b
            (within_join (o ∷ os) 1 (n + 1) o.low o.high o.high o.strict (true || o.strict) (within_front o os)
            (within_join (o ∷ os) n 1 o.high o.low o.high true o.strict (within_lifted o os n o.high o.low true (back s)) (within_front o os)))
            (omega arith)
            (λ _. or_right _ _ refl)
      ]
      | inr e ↦ within_less (o ∷ os) 1 (n + 2) o.low o.high o.strict b (within_front o os) (omega arith) (λ k. absurd (true≢false (sym k ∙ e)))
    ]

-- each entry comes from a walk that is not too long
pub sound : (orders : List Order) (x y : Point) (b : Bool) → has b (reach_between orders x y) ≡ true → Within orders (enough orders) x y b
sound [] x y true h = absurd (elim (cases_Bool (is_same x y)) [ inl e ↦ true≢false (sym (rw e at h)) | inr e ↦ true≢false (sym (rw e at h)) ])
sound [] x y false h =
    elim (cases_Bool (is_same x y)) [
      | inl e ↦ record { reach = record { path = []; walk = same_is x y e; shows = λ k. absurd (true≢false (sym k)) }; short = omega arith }
      | inr e ↦ absurd (true≢false (sym (rw e at h)))
    ]
sound (o ∷ os) x y b h =
    let n : ℕ = enough os in
    elim (which b (reach_between os x y) (followed_by (reach_between os x o.low) (followed_by (across (reach_between os) o) (reach_between os o.high y))) h) [
      | inl old ↦ within_less (o ∷ os) n (3 * n + 2) x y b b (within_lifted o os n x y b (sound os x y b old)) (omega arith) (λ e. e)
      | inr new ↦
          (let p : Parts b (reach_between os x o.low) (followed_by (across (reach_between os) o) (reach_between os o.high y)) = parts_of b _ _ new in
          let q : Parts p.second (across (reach_between os) o) (reach_between os o.high y) = parts_of p.second _ _ p.right in
          within_less (o ∷ os) (n + ((n + 2) + n)) (3 * n + 2) x y (p.first || (q.first || q.second)) b
          (within_join (o ∷ os) n ((n + 2) + n) x o.low y p.first (q.first || q.second) (within_lifted o os n x o.low p.first (sound os x o.low p.first p.left))
          (within_join (o ∷ os) (n + 2) n o.low o.high y q.first q.second (sound_across o os n (sound os o.high o.low true) q.first q.left) (within_lifted o os n o.high y q.second (sound os o.high y q.second q.right))))
          (omega arith)
          (flags_twice b p.first p.second q.first q.second p.either q.either))
    ]

-- joining twice: through what follows from z to y once the order has joined
module _ (table : Point → Point → Reach) (itself : (x : Point) → has false (table x x) ≡ true)
    (joins : (x y z : Point) (a b : Bool) → has a (table x y) ≡ true → has b (table y z) ≡ true → has (a || b) (table x z) ≡ true)
    (o : Order) where
  through : (x y : Point) (a b c : Bool) → has a (table x o.low) ≡ true → has b (across table o) ≡ true → has c (table o.high y) ≡ true →
      has (a || (b || c)) (joined table o x y) ≡ true
  through x y a b c h k l = has_right _ (table x y) _ (has_followed a (b || c) _ _ h (has_followed b c _ _ k l))

  -- the order itself, and then on
  begins_new : (y : Point) (b : Bool) → has b (joined table o o.high y) ≡ true → has (o.strict || b) (joined table o o.low y) ≡ true
  begins_new y b h =
      elim (which b (table o.high y) (followed_by (table o.high o.low) (followed_by (across table o) (table o.high y))) h) [
        | inl old ↦ through o.low y false o.strict b (itself o.low) (has_cond _ o.strict (λ e. or_left _ _ e)) old
        | inr new ↦
            (let p : Parts b (table o.high o.low) (followed_by (across table o) (table o.high y)) = parts_of b _ _ new in
            let q : Parts p.second (across table o) (table o.high y) = parts_of p.second _ _ p.right in
            has_less (false || ((o.strict || (p.first || q.first)) || q.second)) (o.strict || b) _
            (through o.low y false (o.strict || (p.first || q.first)) q.second (itself o.low)
            (has_cond _ (o.strict || (p.first || q.first))
            (λ e. elim (flags_first o.strict p.first q.first e) [
              | inl k ↦ or_left o.strict _ k
              | inr (inl k) ↦ or_right o.strict (is_strict (table o.high o.low)) (let P : Bool → Type 0 = λ z. has z (table o.high o.low) ≡ true in subst P k p.left)
              | inr (inr k) ↦ cond_has (o.strict || is_strict (table o.high o.low)) q.first q.left k
            ]))
            q.right)
            (flags_new o.strict b p.first p.second q.first q.second p.either q.either))
      ]

  -- what was known, and then on
  begins_old : (x z y : Point) (a b : Bool) → has a (table x z) ≡ true → has b (joined table o z y) ≡ true → has (a || b) (joined table o x y) ≡ true
  begins_old x z y a b h k =
      elim (which b (table z y) (followed_by (table z o.low) (followed_by (across table o) (table o.high y))) k) [
        | inl old ↦ has_left _ _ _ (joins x z y a b h old)
        | inr new ↦
            (let p : Parts b (table z o.low) (followed_by (across table o) (table o.high y)) = parts_of b _ _ new in
            let q : Parts p.second (across table o) (table o.high y) = parts_of p.second _ _ p.right in
            has_less ((a || p.first) || (q.first || q.second)) (a || b) _
            (through x y (a || p.first) q.first q.second (joins x z o.low a p.first h p.left) q.left q.right)
            (flags_old a b p.first p.second q.first q.second p.either q.either))
      ]

-- entries join, where each walk has its entry
joins_by : (orders : List Order) → ((x y : Point) (ns : List ℕ) → IsWalk orders x y ns → has (shows_strict orders ns) (reach_between orders x y) ≡ true) →
    (x y z : Point) (a b : Bool) → has a (reach_between orders x y) ≡ true → has b (reach_between orders y z) ≡ true → has (a || b) (reach_between orders x z) ≡ true
joins_by orders entry x y z a b h k =
    let r : Reaches orders x z (a || b) = reaches_join orders x y z a b (sound orders x y a h).reach (sound orders y z b k).reach in
    has_less (shows_strict orders r.path) (a || b) (reach_between orders x z) (entry x z r.path r.walk) r.shows

-- each walk has its entry
pub whole : (orders : List Order) (x y : Point) (ns : List ℕ) → IsWalk orders x y ns → has (shows_strict orders ns) (reach_between orders x y) ≡ true
whole [] x y [] w = let e : is_same x y ≡ true = (let P : Point → Type 0 = λ z. is_same x z ≡ true in subst P w (is_itself x)) in rw e
whole [] x y (n ∷ ns) w = absurd (omega (arith, w.0))
whole (o ∷ os) x y [] w =
    has_left false (reach_between os x y) (followed_by (reach_between os x o.low) (followed_by (across (reach_between os) o) (reach_between os o.high y))) (whole os x y [] w)
whole (o ∷ os) x y (zero ∷ ns) w =
    let P : Point → Type 0 = λ z. has (o.strict || shows_strict (o ∷ os) ns) (joined (reach_between os) o z y) ≡ true in
    subst P w.1 (begins_new (reach_between os) (λ z. whole os z z [] refl) (joins_by os (whole os)) o y _ (whole (o ∷ os) o.high y ns w.2))
whole (o ∷ os) x y (suc n ∷ ns) w =
    let z : Point = (order_at os n).high in
    let first : has ((order_at os n).strict || false) (reach_between os x z) ≡ true = whole os x z (n ∷ []) (omega (arith, w.0), w.1, refl) in
    has_less (((order_at os n).strict || false) || shows_strict (o ∷ os) ns) ((order_at os n).strict || shows_strict (o ∷ os) ns) (joined (reach_between os) o x y)
    (begins_old (reach_between os) (λ v. whole os v v [] refl) (joins_by os (whole os)) o x z y _ _ first (whole (o ∷ os) z y ns w.2))
    (flags_single (order_at os n).strict (shows_strict (o ∷ os) ns))

pub entry_follows : (orders : List Order) (x y : Point) (b : Bool) → has b (reach_between orders x y) ≡ true → Follows orders x y b
entry_follows orders x y b h = follows orders x y b (sound orders x y b h).reach

pub follows_entry : (orders : List Order) (x y : Point) (b : Bool) → Follows orders x y b → has b (reach_between orders x y) ≡ true
follows_entry orders x y b f =
    let r : Reaches orders x y b = reaches orders x y b f in
    has_less (shows_strict orders r.path) b (reach_between orders x y) (whole orders x y r.path r.walk) r.shows

pub strict_is : (r : Reach) → is_strict r ≡ true → r ≡ Lt
strict_is Nothing h = absurd (true≢false (sym h))
strict_is Le h = absurd (true≢false (sym h))
strict_is Lt h = refl

pub computed_base : (orders : List Order) (extents dates : ℕ) → IsBase orders extents dates (reach_between orders)
computed_base orders extents dates = record {
  strictly = λ x y in_x in_y. (λ e. entry_follows orders x y true (ap is_strict e), λ f. strict_is _ (follows_entry orders x y true f));
  known = λ x y in_x in_y. (λ e. entry_follows orders x y false e, λ f. follows_entry orders x y false f);
}

same_entry : (r s : Reach) → (is_known r ≡ true → is_known s ≡ true) → (is_known s ≡ true → is_known r ≡ true) →
    (r ≡ Lt → s ≡ Lt) → (s ≡ Lt → r ≡ Lt) → r ≡ s
same_entry Nothing Nothing a b c d = refl
same_entry Nothing Le a b c d = absurd (true≢false (sym (b refl)))
same_entry Nothing Lt a b c d = d refl
same_entry Le Nothing a b c d = absurd (true≢false (sym (a refl)))
same_entry Le Le a b c d = refl
same_entry Le Lt a b c d = d refl
same_entry Lt s a b c d = sym (c refl)

-- there is one table of what follows
pub one_base : (orders : List Order) (extents dates : ℕ) (table : Point → Point → Reach) → IsBase orders extents dates table →
    (x y : Point) → IsPoint extents dates x → IsPoint extents dates y → table x y ≡ reach_between orders x y
one_base orders extents dates table base x y in_x in_y =
    let other : IsBase orders extents dates (reach_between orders) = computed_base orders extents dates in
    same_entry (table x y) (reach_between orders x y)
    (λ h. (other.known x y in_x in_y).1 ((base.known x y in_x in_y).0 h))
    (λ h. (base.known x y in_x in_y).1 ((other.known x y in_x in_y).0 h))
    (λ h. (other.strictly x y in_x in_y).1 ((base.strictly x y in_x in_y).0 h))
    (λ h. (base.strictly x y in_x in_y).1 ((other.strictly x y in_x in_y).0 h))
