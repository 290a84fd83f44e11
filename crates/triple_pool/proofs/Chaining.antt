-- A chain stays a chain where a record is added, and where one is let go.
use Rattle.std.proofs.Common.{◌≡◌, ◌≢◌, ℕ, ◌+◌, ◌<◌, ◌≤◌, ◌&&◌, Bool, true, false, cond, Option, Some, List, length, arith, refl, sym, ap, ap₂, subst, subst₂, ◌∙◌, inl, inr}
use Rattle.std.proofs.lemmas.Bool.{cases_eq, cases_lt, both_ways, and_parts, false_from_ne_true}
use Rattle.std.proofs.lemmas.List.{get_or_past}
use Rattle.rdf_terms.specs.declared.terms.Term.{Term}
use Rattle.rdf_terms.specs.declared.terms.Triple.{Triple}
use Rattle.rdf_terms.specs.Terms.{same_term}
use Rattle.rdf_terms.proofs.TermLemmas.{same_term-true, same_term-refl}
use Rattle.triple_pool.specs.declared.Place.{Place}
use Rattle.triple_pool.specs.declared.Links.{Links}
use Rattle.triple_pool.specs.declared.Slot.{Slot}
use Rattle.triple_pool.specs.declared.Ends.{Ends}
use Rattle.triple_pool.specs.Pool.{term_at, has_term}
use Rattle.triple_pool.specs.Chains.{slot_at, no_slot, links_at, is_at, key_at, IsFirstFrom, IsLastBelow, IsChained, IsAdded, IsRemoved, ends_added, ends_removed, is_number, or_else, when_none}
use Rattle.triple_pool.proofs.Nearest.{is_number-true, first_carried, last_carried, first_grown, last_grown, next_grown, last_extended, next_removed, before_removed, first_removed, last_removed}

pub at_past : (place : Place) (u : Term) (slots : List Slot) (k : ℕ) → length slots ≤ k → is_at place u slots k ≡ false
at_past place u slots k l = ap (λ (s : Slot). s.held && has_term place u s.triple) (get_or_past slots k no_slot l)

pub at_own : (place : Place) (slots : List Slot) (k : ℕ) → (slot_at slots k).held ≡ true → is_at place (key_at place slots k) slots k ≡ true
at_own place slots k h =
    ap₂ (λ (x y : Bool). x && y) h (same_term-refl (key_at place slots k))

pub held_in : (slots : List Slot) (k : ℕ) → (slot_at slots k).held ≡ true → k < length slots
held_in slots k h = elim (cases_lt k (length slots)) [
  | inl l ↦ l
  | inr g ↦ absurd (both_ways (slot_at slots k).held (ap (λ (s : Slot). s.held) (get_or_past slots k no_slot g)) h)
]

pub at_key : (place : Place) (u : Term) (slots : List Slot) (k : ℕ) → is_at place u slots k ≡ true → key_at place slots k ≡ u
at_key place u slots k h = same_term-true (key_at place slots k) u (and_parts (slot_at slots k).held (has_term place u (slot_at slots k).triple) h).1

module _ (place : Place) (xs ys : List Slot) (t : Triple) (ends : Term → Ends) (chained : IsChained place xs ends)
    (a : IsAdded place xs ys t (ends (term_at place t))) where
  n : ℕ
  n = length xs

  key : Term
  key = term_at place t

  old : (u : Term) (k : ℕ) → k < length xs → is_at place u ys k ≡ is_at place u xs k
  old u k l = ap₂ (λ (h : Bool) (s : Triple). h && has_term place u s) (a.held k l) (a.triple k l)

  here : (u : Term) → is_at place u ys (length xs) ≡ same_term (term_at place t) u
  here u = ap₂ (λ (h : Bool) (s : Triple). h && has_term place u s) a.here_held a.here_triple

  -- at another term nothing changes
  alike : (u : Term) → same_term (term_at place t) u ≡ false → (k : ℕ) → is_at place u ys k ≡ is_at place u xs k
  alike u other k = elim (cases_lt k (length xs)) [
    | inl l ↦ old u k l
    | inr g ↦ elim (cases_eq k (length xs)) [
      | inl same ↦ subst (λ (i : ℕ). is_at place u ys i ≡ is_at place u xs i) (sym same)
          (here u ∙ other ∙ sym (at_past place u xs (length xs) (omega arith)))
      | inr more ↦ at_past place u ys k (omega (arith, a.size, more)) ∙ sym (at_past place u xs k g)
    ]
  ]

  first_by : (u : Term) (b : Bool) → same_term (term_at place t) u ≡ b →
      IsFirstFrom (is_at place u ys) 0 (cond b (record { first = or_else (ends (term_at place t)).first (Some (length xs)); last = Some (length xs) }) (ends u)).first
  first_by u false e = first_carried (is_at place u ys) (is_at place u xs) 0 (λ k l. alike u e k) (ends u).first (chained.ended.first u)
  first_by u true e =
      first_grown (is_at place u ys) (is_at place u xs) (length xs) (old u) (at_past place u xs) (here u ∙ e) 0 (omega arith) (ends (term_at place t)).first
      (subst (λ (v : Term). IsFirstFrom (is_at place v xs) 0 (ends (term_at place t)).first) (same_term-true (term_at place t) u e) (chained.ended.first (term_at place t)))

  last_by : (u : Term) (b : Bool) → same_term (term_at place t) u ≡ b →
      IsLastBelow (is_at place u ys) (length xs + 1) (cond b (record { first = or_else (ends (term_at place t)).first (Some (length xs)); last = Some (length xs) }) (ends u)).last
  last_by u false e = last_extended (is_at place u ys) (is_at place u xs) (length xs) (old u) (here u ∙ e) (ends u).last (chained.ended.last u)
  last_by u true e = last_grown (is_at place u ys) (is_at place u xs) (length xs) (old u) (at_past place u xs) (here u ∙ e)

  -- the next number of an older record, by whether it has the new term
  next_by : (i : ℕ) (u : Term) → i < length xs → is_at place u xs i ≡ true → (o : Option ℕ) → IsFirstFrom (is_at place u xs) (i + 1) o →
      (b : Bool) → same_term (term_at place t) u ≡ b →
      IsFirstFrom (is_at place u ys) (i + 1) (cond (is_number (ends (term_at place t)).last i) (Some (length xs)) o)
  next_by i u l at o is true e =
      next_grown (is_at place u ys) (is_at place u xs) (length xs) (old u) (at_past place u xs) (here u ∙ e) i (ends (term_at place t)).last o l at
      (subst (λ (v : Term). IsLastBelow (is_at place v xs) (length xs) (ends (term_at place t)).last) (same_term-true (term_at place t) u e) (chained.ended.last (term_at place t)))
      is
  next_by i u l at o is false e =
      let apart : is_number (ends (term_at place t)).last i ≡ false =
      false_from_ne_true (is_number (ends (term_at place t)).last i) (λ same.
      let known : IsLastBelow (is_at place (term_at place t) xs) (length xs) (Some i) =
      subst (IsLastBelow (is_at place (term_at place t) xs) (length xs)) (is_number-true (ends (term_at place t)).last i same) (chained.ended.last (term_at place t)) in
      both_ways (same_term (term_at place t) u) e
      (subst (λ (v : Term). same_term (term_at place t) v ≡ true) (sym (at_key place (term_at place t) xs i known.1) ∙ at_key place u xs i at) (same_term-refl (term_at place t)))) in
      subst (λ (b : Bool). IsFirstFrom (is_at place u ys) (i + 1) (cond b (Some (length xs)) o)) (sym apart)
      (first_carried (is_at place u ys) (is_at place u xs) (i + 1) (λ k m. alike u e k) o is)

  next_all : (i : ℕ) → (slot_at ys i).held ≡ true →
      IsFirstFrom (is_at place (key_at place ys i) ys) (i + 1) (links_at place (slot_at ys i)).next
  next_all i h = elim (cases_eq i (length xs)) [
    | inl same ↦ subst (λ (j : ℕ). IsFirstFrom (is_at place (key_at place ys j) ys) (j + 1) (links_at place (slot_at ys j)).next) (sym same)
        (subst (IsFirstFrom (is_at place (key_at place ys (length xs)) ys) (length xs + 1)) (sym (ap (λ (l : Links). l.next) a.here_links))
        (λ k l. at_past place (key_at place ys (length xs)) ys k (omega (arith, a.size))))
    | inr other ↦
        (let in_ys : i < length ys = held_in ys i h in
        let l : i < length xs = omega (arith, a.size, other) in
        let was : (slot_at xs i).held ≡ true = sym (a.held i l) ∙ h in
        let one : key_at place ys i ≡ key_at place xs i = ap (λ (s : Triple). term_at place s) (a.triple i l) in
        subst₂ (λ (u : Term) (o : Option ℕ). IsFirstFrom (is_at place u ys) (i + 1) o) (sym one) (sym (a.next i l))
        (next_by i (key_at place xs i) l (at_own place xs i was) (links_at place (slot_at xs i)).next (chained.linked.next i was)
        (same_term (term_at place t) (key_at place xs i)) refl))
  ]

  before_all : (i : ℕ) → (slot_at ys i).held ≡ true →
      IsLastBelow (is_at place (key_at place ys i) ys) i (links_at place (slot_at ys i)).before
  before_all i h = elim (cases_eq i (length xs)) [
    | inl same ↦ subst (λ (j : ℕ). IsLastBelow (is_at place (key_at place ys j) ys) j (links_at place (slot_at ys j)).before) (sym same)
        (subst₂ (λ (u : Term) (o : Option ℕ). IsLastBelow (is_at place u ys) (length xs) o)
        (sym (ap (λ (s : Triple). term_at place s) a.here_triple)) (sym (ap (λ (l : Links). l.before) a.here_links))
        (last_carried (is_at place (term_at place t) ys) (is_at place (term_at place t) xs) (length xs) (old (term_at place t)) (ends (term_at place t)).last (chained.ended.last (term_at place t))))
    | inr other ↦
        (let in_ys : i < length ys = held_in ys i h in
        let l : i < length xs = omega (arith, a.size, other) in
        let was : (slot_at xs i).held ≡ true = sym (a.held i l) ∙ h in
        let one : key_at place ys i ≡ key_at place xs i = ap (λ (s : Triple). term_at place s) (a.triple i l) in
        subst₂ (λ (u : Term) (o : Option ℕ). IsLastBelow (is_at place u ys) i o) (sym one) (sym (a.before i l))
        (last_carried (is_at place (key_at place xs i) ys) (is_at place (key_at place xs i) xs) i
        (λ k m. old (key_at place xs i) k (omega arith)) (links_at place (slot_at xs i)).before (chained.linked.before i was)))
  ]

  pub chained_added : IsChained place ys (ends_added ends (term_at place t) (length xs))
  chained_added = record {
    linked = record { next = next_all; before = before_all };
    ended = record {
      first = λ u. first_by u (same_term (term_at place t) u) refl;
      last = λ u. subst (λ (m : ℕ). IsLastBelow (is_at place u ys) m (ends_added ends (term_at place t) (length xs) u).last) (sym a.size)
          (last_by u (same_term (term_at place t) u) refl);
    };
  }

module _ (place : Place) (xs ys : List Slot) (i : ℕ) (ends : Term → Ends) (chained : IsChained place xs ends)
    (r : IsRemoved place xs ys i) (was : (slot_at xs i).held ≡ true) where
  gone : (u : Term) → is_at place u ys i ≡ false
  gone u = ap (λ (h : Bool). h && has_term place u (slot_at ys i).triple) r.gone

  others : (u : Term) (k : ℕ) → k ≢ i → is_at place u ys k ≡ is_at place u xs k
  others u k other = ap₂ (λ (h : Bool) (s : Triple). h && has_term place u s) (r.held k other) (r.triple k)

  -- at another term nothing changes
  unlike : (u : Term) → same_term (key_at place xs i) u ≡ false → (k : ℕ) → is_at place u ys k ≡ is_at place u xs k
  unlike u other k = elim (cases_eq k i) [
    | inl same ↦ subst (λ (j : ℕ). is_at place u ys j ≡ is_at place u xs j) (sym same)
        (gone u ∙ sym (ap₂ (λ (x y : Bool). x && y) was other))
    | inr apart ↦ others u k apart
  ]

  at_i : (u : Term) → same_term (key_at place xs i) u ≡ true → is_at place u xs i ≡ true
  at_i u e = ap₂ (λ (x y : Bool). x && y) was e

  in_i : i < length xs
  in_i = held_in xs i was

  is_next : (u : Term) → same_term (key_at place xs i) u ≡ true → IsFirstFrom (is_at place u xs) (i + 1) (links_at place (slot_at xs i)).next
  is_next u e = subst (λ (v : Term). IsFirstFrom (is_at place v xs) (i + 1) (links_at place (slot_at xs i)).next) (same_term-true (key_at place xs i) u e) (chained.linked.next i was)

  is_before : (u : Term) → same_term (key_at place xs i) u ≡ true → IsLastBelow (is_at place u xs) i (links_at place (slot_at xs i)).before
  is_before u e = subst (λ (v : Term). IsLastBelow (is_at place v xs) i (links_at place (slot_at xs i)).before) (same_term-true (key_at place xs i) u e) (chained.linked.before i was)

  first_gone : (u : Term) (b : Bool) → same_term (key_at place xs i) u ≡ b →
      IsFirstFrom (is_at place u ys) 0 (cond b (record {
        first = when_none (links_at place (slot_at xs i)).before (links_at place (slot_at xs i)).next (ends (key_at place xs i)).first;
        last = when_none (links_at place (slot_at xs i)).next (links_at place (slot_at xs i)).before (ends (key_at place xs i)).last;
      }) (ends u)).first
  first_gone u false e = first_carried (is_at place u ys) (is_at place u xs) 0 (λ k l. unlike u e k) (ends u).first (chained.ended.first u)
  first_gone u true e =
      first_removed (is_at place u ys) (is_at place u xs) i (others u) (gone u) (at_i u e)
      (links_at place (slot_at xs i)).before (links_at place (slot_at xs i)).next (is_before u e) (is_next u e) (ends (key_at place xs i)).first
      (subst (λ (v : Term). IsFirstFrom (is_at place v xs) 0 (ends (key_at place xs i)).first) (same_term-true (key_at place xs i) u e) (chained.ended.first (key_at place xs i)))

  last_gone : (u : Term) (b : Bool) → same_term (key_at place xs i) u ≡ b →
      IsLastBelow (is_at place u ys) (length xs) (cond b (record {
        first = when_none (links_at place (slot_at xs i)).before (links_at place (slot_at xs i)).next (ends (key_at place xs i)).first;
        last = when_none (links_at place (slot_at xs i)).next (links_at place (slot_at xs i)).before (ends (key_at place xs i)).last;
      }) (ends u)).last
  last_gone u false e = last_carried (is_at place u ys) (is_at place u xs) (length xs) (λ k l. unlike u e k) (ends u).last (chained.ended.last u)
  last_gone u true e =
      last_removed (is_at place u ys) (is_at place u xs) i (others u) (gone u) (at_i u e)
      (links_at place (slot_at xs i)).before (links_at place (slot_at xs i)).next (is_before u e) (is_next u e)
      (length xs) in_i (at_past place u xs) (ends (key_at place xs i)).last
      (subst (λ (v : Term). IsLastBelow (is_at place v xs) (length xs) (ends (key_at place xs i)).last) (same_term-true (key_at place xs i) u e) (chained.ended.last (key_at place xs i)))

  -- no other record with another term is a neighbour
  no_neighbour : (u : Term) (k : ℕ) → is_at place u xs k ≡ true → same_term (key_at place xs i) u ≡ false → is_at place (key_at place xs i) xs k ≡ true → ⊥
  no_neighbour u k at other with_i =
      both_ways (same_term (key_at place xs i) u) other
      (subst (λ (v : Term). same_term (key_at place xs i) v ≡ true) (sym (at_key place (key_at place xs i) xs k with_i) ∙ at_key place u xs k at) (same_term-refl (key_at place xs i)))

  before_apart : (u : Term) (k : ℕ) → is_at place u xs k ≡ true → same_term (key_at place xs i) u ≡ false →
      is_number (links_at place (slot_at xs i)).before k ≡ false
  before_apart u k at other =
      false_from_ne_true (is_number (links_at place (slot_at xs i)).before k) (λ same.
      let known : IsLastBelow (is_at place (key_at place xs i) xs) i (Some k) =
      subst (IsLastBelow (is_at place (key_at place xs i) xs) i) (is_number-true (links_at place (slot_at xs i)).before k same) (chained.linked.before i was) in
      no_neighbour u k at other known.1)

  next_apart : (u : Term) (k : ℕ) → is_at place u xs k ≡ true → same_term (key_at place xs i) u ≡ false →
      is_number (links_at place (slot_at xs i)).next k ≡ false
  next_apart u k at other =
      false_from_ne_true (is_number (links_at place (slot_at xs i)).next k) (λ same.
      let known : IsFirstFrom (is_at place (key_at place xs i) xs) (i + 1) (Some k) =
      subst (IsFirstFrom (is_at place (key_at place xs i) xs) (i + 1)) (is_number-true (links_at place (slot_at xs i)).next k same) (chained.linked.next i was) in
      no_neighbour u k at other known.1)

  next_left : (k : ℕ) (u : Term) → k ≢ i → is_at place u xs k ≡ true → (o : Option ℕ) → IsFirstFrom (is_at place u xs) (k + 1) o →
      (b : Bool) → same_term (key_at place xs i) u ≡ b →
      IsFirstFrom (is_at place u ys) (k + 1) (cond (is_number (links_at place (slot_at xs i)).before k) ((links_at place (slot_at xs i)).next) o)
  next_left k u apart at o is true e =
      next_removed (is_at place u ys) (is_at place u xs) i (others u) (gone u) (at_i u e)
      (links_at place (slot_at xs i)).before (links_at place (slot_at xs i)).next (is_before u e) (is_next u e) k o apart at is
  next_left k u apart at o is false e =
      subst (λ (b : Bool). IsFirstFrom (is_at place u ys) (k + 1) (cond b ((links_at place (slot_at xs i)).next) o)) (sym (before_apart u k at e))
      (first_carried (is_at place u ys) (is_at place u xs) (k + 1) (λ m l. unlike u e m) o is)

  before_left : (k : ℕ) (u : Term) → k ≢ i → is_at place u xs k ≡ true → (o : Option ℕ) → IsLastBelow (is_at place u xs) k o →
      (b : Bool) → same_term (key_at place xs i) u ≡ b →
      IsLastBelow (is_at place u ys) k (cond (is_number (links_at place (slot_at xs i)).next k) ((links_at place (slot_at xs i)).before) o)
  before_left k u apart at o is true e =
      before_removed (is_at place u ys) (is_at place u xs) i (others u) (gone u) (at_i u e)
      (links_at place (slot_at xs i)).before (links_at place (slot_at xs i)).next (is_before u e) (is_next u e) k o apart at is
  before_left k u apart at o is false e =
      subst (λ (b : Bool). IsLastBelow (is_at place u ys) k (cond b ((links_at place (slot_at xs i)).before) o)) (sym (next_apart u k at e))
      (last_carried (is_at place u ys) (is_at place u xs) k (λ m l. unlike u e m) o is)

  kept_apart : (k : ℕ) → (slot_at ys k).held ≡ true → k ≢ i
  kept_apart k h = λ same. both_ways (slot_at ys i).held r.gone (subst (λ (j : ℕ). (slot_at ys j).held ≡ true) same h)

  next_kept : (k : ℕ) → (slot_at ys k).held ≡ true → IsFirstFrom (is_at place (key_at place ys k) ys) (k + 1) (links_at place (slot_at ys k)).next
  next_kept k h =
      let apart = kept_apart k h in
      let before : (slot_at xs k).held ≡ true = sym (r.held k apart) ∙ h in
      let one : key_at place ys k ≡ key_at place xs k = ap (λ (s : Triple). term_at place s) (r.triple k) in
      subst₂ (λ (u : Term) (o : Option ℕ). IsFirstFrom (is_at place u ys) (k + 1) o) (sym one) (sym (r.next k apart))
      (next_left k (key_at place xs k) apart (at_own place xs k before) (links_at place (slot_at xs k)).next (chained.linked.next k before)
      (same_term (key_at place xs i) (key_at place xs k)) refl)

  before_kept : (k : ℕ) → (slot_at ys k).held ≡ true → IsLastBelow (is_at place (key_at place ys k) ys) k (links_at place (slot_at ys k)).before
  before_kept k h =
      let apart = kept_apart k h in
      let before : (slot_at xs k).held ≡ true = sym (r.held k apart) ∙ h in
      let one : key_at place ys k ≡ key_at place xs k = ap (λ (s : Triple). term_at place s) (r.triple k) in
      subst₂ (λ (u : Term) (o : Option ℕ). IsLastBelow (is_at place u ys) k o) (sym one) (sym (r.before k apart))
      (before_left k (key_at place xs k) apart (at_own place xs k before) (links_at place (slot_at xs k)).before (chained.linked.before k before)
      (same_term (key_at place xs i) (key_at place xs k)) refl)

  pub chained_removed : IsChained place ys (ends_removed ends (key_at place xs i) (links_at place (slot_at xs i)))
  chained_removed = record {
    linked = record { next = next_kept; before = before_kept };
    ended = record {
      first = λ u. first_gone u (same_term (key_at place xs i) u) refl;
      last = λ u. subst (λ (m : ℕ). IsLastBelow (is_at place u ys) m (ends_removed ends (key_at place xs i) (links_at place (slot_at xs i)) u).last) (sym r.size)
          (last_gone u (same_term (key_at place xs i) u) refl);
    };
  }
