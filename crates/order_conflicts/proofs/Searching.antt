-- A search keeps exactly the points that are led to.
use Rattle.std.proofs.Common.{zero, suc, ◌≡◌, ◌≢◌, ◌-◌, ℕ, List, [], ◌∷◌, ◌++◌, Bool, true, false, ◌+◌, ◌<◌, ◌≤◌, length, get_or, set, replicate, arith, inl, inr, refl, subst, ap, sym, ◌∙◌, length-set, get_or-set_same, get_or-set_other}
use Rattle.std.proofs.lemmas.Bool.{cases_eq, cases_lt, true≢false}
use Rattle.std.proofs.lemmas.List.{get_or_append_left, get_or-append_right, length_push, length-replicate}
use Rattle.order_core.specs.Sets.{Orders}
use Rattle.order_closure.specs.Edges.{EdgeLists, IsEdgesOf, low_at}
use Rattle.order_closure.specs.Next.{IsNext}
use Rattle.order_closure.proofs.Linking.{next_same}
use Rattle.order_conflicts.specs.declared.leading.Found.{Found}
use Rattle.order_conflicts.specs.Found.{is_seen, reached_at, IsFound, Grows, AreTaken, room, IsExpanding, IsSearching}
use Rattle.order_conflicts.specs.Paths.{IsKept, IsPath, Leads, low_of, high_of}
use Rattle.order_conflicts.proofs.Kept.{path_append}

pub grows_none : (f : Found) → Grows f f
grows_none f = record { longer = omega arith; front = λ i h. refl; seen = λ p h. h }

pub grows_twice : (a b c : Found) → Grows a b → Grows b c → Grows a c
grows_twice a b c g h = record {
  longer = omega (arith, g.longer, h.longer);
  front = λ i l. h.front i (omega (arith, g.longer)) ∙ g.front i l;
  seen = λ p s. h.seen p (g.seen p s);
}

module _ (old new : Found) (p : ℕ) (below : p < length old.seen.items)
    (seen : new.seen.items ≡ set old.seen.items p true) (reached : new.reached.items ≡ old.reached.items ++ p ∷ []) where
  seen_here : is_seen new p ≡ true
  seen_here = ap (λ (l : List Bool). get_or l p false) seen ∙ get_or-set_same old.seen.items p true false below

  seen_there : (q : ℕ) → q ≢ p → is_seen new q ≡ is_seen old q
  seen_there q other = ap (λ (l : List Bool). get_or l q false) seen ∙ get_or-set_other old.seen.items p q true false other

  count : length new.reached.items ≡ length old.reached.items + 1
  count = omega (arith, ap length reached, length_push old.reached.items p)

  front : (i : ℕ) → i < length old.reached.items → reached_at new i ≡ reached_at old i
  front i h = ap (λ (l : List ℕ). get_or l i 0) reached ∙ get_or_append_left old.reached.items (p ∷ []) 0 i h

  last : reached_at new (length old.reached.items) ≡ p
  last =
      ap (λ (l : List ℕ). get_or l (length old.reached.items) 0) reached
      ∙ get_or-append_right old.reached.items (p ∷ []) (length old.reached.items) (length old.reached.items) 0 refl (omega arith)
      ∙ (let none : length old.reached.items - length old.reached.items ≡ 0 = omega arith in ap (λ k. get_or (p ∷ []) k 0) none)

  pub kept_grows : Grows old new
  kept_grows = record {
    longer = omega (arith, count);
    front = front;
    seen = λ q s. elim (cases_eq q p) [
      | inl same ↦ (let P : ℕ → Type 0 = λ z. is_seen new z ≡ true in subst P (sym same) seen_here)
      | inr other ↦ seen_there q other ∙ s
    ];
  }

  pub kept_found : (set : Orders) (t points from : ℕ) → IsFound set t points from old → Leads set t from p → IsFound set t points from new
  kept_found s t points from f leads = record {
    size = ap length seen ∙ length-set old.seen.items p true ∙ f.size;
    within = λ i h. elim (cases_lt i (length old.reached.items)) [
      | inl less ↦ (let P : ℕ → Type 0 = λ z. z < points in subst P (sym (front i less)) (f.within i less))
      | inr most ↦ (let here : i ≡ length old.reached.items = omega (arith, count) in
          let P : ℕ → Type 0 = λ z. z < points in
          subst P (sym (ap (reached_at new) here ∙ last)) (omega (arith, f.size)))
    ];
    led = λ i h. elim (cases_lt i (length old.reached.items)) [
      | inl less ↦ (let P : ℕ → Type 0 = λ z. Leads s t from z in subst P (sym (front i less)) (f.led i less))
      | inr most ↦ (let here : i ≡ length old.reached.items = omega (arith, count) in
          let P : ℕ → Type 0 = λ z. Leads s t from z in
          subst P (sym (ap (reached_at new) here ∙ last)) leads)
    ];
    listed = λ q h. elim (cases_eq q p) [
      | inl same ↦ (length old.reached.items, (omega (arith, count), last ∙ sym same))
      | inr other ↦ (let was = f.listed q (sym (seen_there q other) ∙ h) in
          (was.0, (omega (arith, count, was.1.0), front was.0 was.1.0 ∙ was.1.1)))
    ];
  }

none_seen : (n p : ℕ) → get_or (replicate {A = Bool} n false) p false ≡ false
none_seen zero p = refl
none_seen (suc n) zero = refl
none_seen (suc n) (suc p) = none_seen n p

-- a path goes on along an order
pub leads_on : (s : Orders) (t x n : ℕ) → IsKept s t n → Leads s t x (low_of s n) → Leads s t x (high_of s n)
leads_on s t x n kept l =
    (l.0 ++ n ∷ [], path_append s t x (low_of s n) (high_of s n) l.0 (n ∷ []) l.1 (kept, refl, refl))

pub taken_grows : (s : Orders) (t p at : ℕ) (a b : Found) → Grows a b → AreTaken s t a p at → AreTaken s t b p at
taken_grows s t p at a b g taken n l kept low = g.seen (high_of s n) (taken n l kept low)

-- what is expanded holds all that is led to
module _ (s : Orders) (t points from : ℕ) (f : Found) (of : IsSearching s t points from f (length f.reached.items)) where
  seen_along : (x y : ℕ) (ns : List ℕ) → is_seen f x ≡ true → IsPath s t x y ns → is_seen f y ≡ true
  seen_along x y [] seen path = let P : ℕ → Type 0 = λ z. is_seen f z ≡ true in subst P path seen
  seen_along x y (n ∷ ns) seen path =
      let place = of.found.listed x seen in
      let next : is_seen f (high_of s n) ≡ true = of.taken place.0 place.1.0 n path.0.0 path.0 (path.1 ∙ sym place.1.1) in
      seen_along (high_of s n) y ns next path.2

  pub seen_where_led : (p : ℕ) → Leads s t from p → is_seen f p ≡ true
  seen_where_led p l = seen_along from p l.0 of.start l.1

  pub led_where_seen : (p : ℕ) → is_seen f p ≡ true → Leads s t from p
  led_where_seen p seen =
      let place = of.found.listed p seen in
      let P : ℕ → Type 0 = λ z. Leads s t from z in subst P place.1.1 (of.found.led place.0 place.1.0)

pub empty_found : (s : Orders) (t points from : ℕ) (f : Found) → f.seen.items ≡ replicate points false → f.reached.items ≡ [] → IsFound s t points from f
empty_found s t points from f seen reached = record {
  size = ap length seen ∙ length-replicate points false;
  within = λ i h. absurd (omega (arith, ap (length {A = ℕ}) reached));
  led = λ i h. absurd (omega (arith, ap (length {A = ℕ}) reached));
  listed = λ p e. absurd (true≢false (sym e ∙ ap (λ (l : List Bool). get_or l p false) seen ∙ none_seen points p));
}

-- the points of a place of the list have been expanded
pub search_more : (s : Orders) (t points from : ℕ) (old new : Found) (at : ℕ) → IsSearching s t points from old at → at < length old.reached.items →
    IsExpanding s t points (reached_at old at) old new (length s.list) → IsSearching s t points from new (at + 1)
search_more s t points from old new at i h e = record {
  found = e.found from i.found (i.found.led at h);
  start = e.grows.seen from i.start;
  within = omega (arith, e.grows.longer);
  taken = λ j l. elim (cases_lt j at) [
    | inl less ↦ (let P : ℕ → Type 0 = λ z. AreTaken s t new z (length s.list) in
        subst P (sym (e.grows.front j (omega arith))) (taken_grows s t (reached_at old j) (length s.list) old new e.grows (i.taken j less)))
    | inr most ↦ (let same : j ≡ at = omega arith in
        let P : ℕ → Type 0 = λ z. AreTaken s t new z (length s.list) in
        subst P (sym (ap (reached_at new) same ∙ e.grows.front at h)) e.taken)
  ];
}

-- the orders of a point before the first one that a walk gives
pub expand_none : (s : Orders) (t points p at : ℕ) (f : Found) → length f.seen.items ≡ points → IsNext (low_of s) (length s.list) p 0 at →
    IsExpanding s t points p f f at
expand_none s t points p at f size next = record {
  within = next.within;
  begins = next.begins;
  size = size;
  grows = grows_none f;
  taken = λ n l kept low. absurd (next.none_between n (omega arith) l low);
  smaller = omega arith;
  found = λ from of leads. of;
}

-- one order more is taken
pub expand_more : (s : Orders) (t points p n at : ℕ) (f old new : Found) → IsExpanding s t points p f old n → n < length s.list →
    IsNext (low_of s) (length s.list) (low_of s n) (n + 1) at →
    Grows old new → length new.seen.items ≡ points → (IsKept s t n → is_seen new (high_of s n) ≡ true) → room new ≤ room old →
    ((from : ℕ) → IsFound s t points from old → Leads s t from (low_of s n) → IsFound s t points from new) →
    IsExpanding s t points p f new at
expand_more s t points p n at f old new e h next grows size here smaller found =
    let low : low_of s n ≡ p = e.begins h in
    record {
      within = next.within;
      begins = λ l. next.begins l ∙ low;
      size = size;
      grows = grows_twice f old new e.grows grows;
      taken = λ m l kept is. elim (cases_lt m n) [
        | inl less ↦ grows.seen (high_of s m) (e.taken m less kept is)
        | inr most ↦ elim (cases_eq m n) [
          | inl same ↦ (let P : ℕ → Type 0 = λ z. is_seen new (high_of s z) ≡ true in
              let Q : ℕ → Type 0 = λ z. IsKept s t z in
              subst P (sym same) (here (subst Q same kept)))
          | inr other ↦ absurd (next.none_between m (omega (arith, other)) l (is ∙ sym low))
        ]
      ];
      smaller = omega (arith, e.smaller, smaller);
      found = λ from of leads. found from (e.found from of leads) (let P : ℕ → Type 0 = λ z. Leads s t from z in subst P (sym low) leads);
    }

-- what the edges say of low points, the orders say
pub next_of_set : (s : Orders) (edges : EdgeLists) → IsEdgesOf s edges → (p q from at : ℕ) → q ≡ p → IsNext (low_at edges) (length edges.lows) p from at →
    IsNext (low_of s) (length s.list) q from at
next_of_set s edges of p q from at e next =
    let P : ℕ → Type 0 = λ n. IsNext (low_of s) n q from at in
    subst P of.count (next_same (low_at edges) (low_of s) (length edges.lows) p q from at (λ m l. sym (of.low m (omega (arith, of.count, l)))) e next)
