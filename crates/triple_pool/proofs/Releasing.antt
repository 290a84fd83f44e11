-- What a pool keeps where a record is let go.
use Rattle.std.proofs.Common.{◌≡◌, ◌≢◌, ℕ, ◌+◌, ◌<◌, true, false, cond, Option, Some, None, List, length, arith, refl, sym, ap, subst, ◌∙◌, IfSome, get_or-set_same, get_or-set_other, length-set, lt_trans}
use Rattle.std.proofs.lemmas.Bool.{and_parts}
use Rattle.rdf_terms.specs.declared.terms.Term.{Term}
use Rattle.triple_pool.specs.declared.Place.{Place}
use Rattle.triple_pool.specs.declared.Place.TheVariants.{Subject, Predicate, Object}
use Rattle.triple_pool.specs.declared.Links.{Links}
use Rattle.triple_pool.specs.declared.Slot.{Slot}
use Rattle.triple_pool.specs.declared.Ends.{Ends}
use Rattle.triple_pool.specs.Pool.{has_term, without}
use Rattle.triple_pool.specs.Chains.{slot_at, no_slot, links_at, is_at, key_at, pairs_from, next_set, bridged, let_go, shrunk, IsFirstFrom, IsLastBelow, IsRemoved, ends_removed, is_number}
use Rattle.triple_pool.specs.Tables.{IsStored, IsTabled, HasNeighboursWithin}
use Rattle.triple_pool.proofs.Setting.{is_place, stays, next_set-length, next_set-held, next_set-triple, next_set-other, next_set-before, next_set-next, before_set-length, before_set-held, before_set-triple, before_set-other, before_set-before, before_set-next}
use Rattle.triple_pool.proofs.Chaining.{chained_removed, held_in}
use Rattle.triple_pool.proofs.Storing.{chained_alike, within}
use Rattle.triple_pool.proofs.Listing.{pairs_removed}
use Rattle.triple_pool.proofs.Tabling.{tabled_removed}

module _ (p : Place) (xs : List Slot) (l : Links) (in_b : IfSome l.before (λ i. i < length xs)) (in_n : IfSome l.next (λ i. i < length xs)) where
  abbrev half : List Slot
  half = next_set p xs l.before l.next

  half_size : length half ≡ length xs
  half_size = next_set-length p xs l.next l.before

  in_half : IfSome l.next (λ i. i < length half)
  in_half = within l.next (length xs) (length half) half_size in_n

  pub bridged-length : length (bridged p xs l) ≡ length xs
  bridged-length = before_set-length p half l.before l.next ∙ half_size

  pub bridged-held : (k : ℕ) → (slot_at (bridged p xs l) k).held ≡ (slot_at xs k).held
  bridged-held k = before_set-held p half l.before l.next in_half k ∙ next_set-held p xs l.next l.before in_b k

  pub bridged-triple : (k : ℕ) → (slot_at (bridged p xs l) k).triple ≡ (slot_at xs k).triple
  bridged-triple k = before_set-triple p half l.before l.next in_half k ∙ next_set-triple p xs l.next l.before in_b k

  pub bridged-other : (q : Place) → is_place p q ≡ false → (k : ℕ) → links_at q (slot_at (bridged p xs l) k) ≡ links_at q (slot_at xs k)
  bridged-other q d k = before_set-other p half l.before q d l.next in_half k ∙ next_set-other p xs l.next q d l.before in_b k

  pub bridged-next : (k : ℕ) → (links_at p (slot_at (bridged p xs l) k)).next ≡ cond (is_number l.before k) l.next ((links_at p (slot_at xs k)).next)
  bridged-next k = before_set-next p half l.before l.next in_half k ∙ next_set-next p xs l.next l.before in_b k

  pub bridged-before : (k : ℕ) → (links_at p (slot_at (bridged p xs l) k)).before ≡ cond (is_number l.next k) l.before ((links_at p (slot_at xs k)).before)
  bridged-before k = before_set-before p half l.before l.next in_half k
      ∙ ap (λ (o : Option ℕ). cond (is_number l.next k) l.before o) (next_set-before p xs l.next l.before in_b k)

module _ (xs : List Slot) (i : ℕ) (in_i : i < length xs) (w : HasNeighboursWithin (slot_at xs i) (length xs)) where
  abbrev s : Slot
  s = slot_at xs i

  abbrev zero_step : List Slot
  zero_step = let_go xs i

  abbrev one : List Slot
  one = bridged Subject (let_go xs i) (slot_at xs i).subject

  abbrev two : List Slot
  two = bridged Predicate (bridged Subject (let_go xs i) (slot_at xs i).subject) (slot_at xs i).predicate

  size_zero : length zero_step ≡ length xs
  size_zero = length-set xs i (record (slot_at xs i) { held = false })

  sb0 : IfSome (slot_at xs i).subject.before (λ k. k < length zero_step)
  sb0 = within (slot_at xs i).subject.before (length xs) (length zero_step) size_zero w.subject_before

  sn0 : IfSome (slot_at xs i).subject.next (λ k. k < length zero_step)
  sn0 = within (slot_at xs i).subject.next (length xs) (length zero_step) size_zero w.subject_next

  size_one : length one ≡ length xs
  size_one = bridged-length Subject zero_step (slot_at xs i).subject sb0 sn0 ∙ size_zero

  pb1 : IfSome (slot_at xs i).predicate.before (λ k. k < length one)
  pb1 = within (slot_at xs i).predicate.before (length xs) (length one) size_one w.predicate_before

  pn1 : IfSome (slot_at xs i).predicate.next (λ k. k < length one)
  pn1 = within (slot_at xs i).predicate.next (length xs) (length one) size_one w.predicate_next

  size_two : length two ≡ length xs
  size_two = bridged-length Predicate one (slot_at xs i).predicate pb1 pn1 ∙ size_one

  ob2 : IfSome (slot_at xs i).object.before (λ k. k < length two)
  ob2 = within (slot_at xs i).object.before (length xs) (length two) size_two w.object_before

  on2 : IfSome (slot_at xs i).object.next (λ k. k < length two)
  on2 = within (slot_at xs i).object.next (length xs) (length two) size_two w.object_next

  pub shrunk-length : length (shrunk xs i) ≡ length xs
  shrunk-length = bridged-length Object two (slot_at xs i).object ob2 on2 ∙ size_two

  held_zero : (k : ℕ) → (slot_at (shrunk xs i) k).held ≡ (slot_at zero_step k).held
  held_zero k = bridged-held Object two (slot_at xs i).object ob2 on2 k
      ∙ bridged-held Predicate one (slot_at xs i).predicate pb1 pn1 k ∙ bridged-held Subject zero_step (slot_at xs i).subject sb0 sn0 k

  gone : (slot_at (shrunk xs i) i).held ≡ false
  gone = held_zero i ∙ ap (λ (u : Slot). u.held) (get_or-set_same xs i (record (slot_at xs i) { held = false }) no_slot in_i)

  held : (k : ℕ) → k ≢ i → (slot_at (shrunk xs i) k).held ≡ (slot_at xs k).held
  held k other = held_zero k ∙ ap (λ (u : Slot). u.held) (get_or-set_other xs i k (record (slot_at xs i) { held = false }) no_slot other)

  triple : (k : ℕ) → (slot_at (shrunk xs i) k).triple ≡ (slot_at xs k).triple
  triple k = bridged-triple Object two (slot_at xs i).object ob2 on2 k
      ∙ bridged-triple Predicate one (slot_at xs i).predicate pb1 pn1 k ∙ bridged-triple Subject zero_step (slot_at xs i).subject sb0 sn0 k
      ∙ stays (λ (u : Slot). u.triple) xs i (record (slot_at xs i) { held = false }) refl in_i k

  links_zero : (q : Place) (k : ℕ) → links_at q (slot_at zero_step k) ≡ links_at q (slot_at xs k)
  links_zero Subject k = stays (λ (u : Slot). u.subject) xs i (record (slot_at xs i) { held = false }) refl in_i k
  links_zero Predicate k = stays (λ (u : Slot). u.predicate) xs i (record (slot_at xs i) { held = false }) refl in_i k
  links_zero Object k = stays (λ (u : Slot). u.object) xs i (record (slot_at xs i) { held = false }) refl in_i k

  subject_late : (k : ℕ) → links_at Subject (slot_at (shrunk xs i) k) ≡ links_at Subject (slot_at one k)
  subject_late k = bridged-other Object two (slot_at xs i).object ob2 on2 Subject refl k
      ∙ bridged-other Predicate one (slot_at xs i).predicate pb1 pn1 Subject refl k

  removed_subject : IsRemoved Subject xs (shrunk xs i) i
  removed_subject = record {
    size = shrunk-length;
    gone = gone;
    held = held;
    triple = triple;
    next = λ k other. ap (λ (x : Links). x.next) (subject_late k) ∙ bridged-next Subject zero_step (slot_at xs i).subject sb0 sn0 k
        ∙ ap (λ (x : Links). cond (is_number (slot_at xs i).subject.before k) ((slot_at xs i).subject.next) x.next) (links_zero Subject k);
    before = λ k other. ap (λ (x : Links). x.before) (subject_late k) ∙ bridged-before Subject zero_step (slot_at xs i).subject sb0 sn0 k
        ∙ ap (λ (x : Links). cond (is_number (slot_at xs i).subject.next k) ((slot_at xs i).subject.before) x.before) (links_zero Subject k);
  }

  predicate_one : (k : ℕ) → links_at Predicate (slot_at one k) ≡ links_at Predicate (slot_at xs k)
  predicate_one k = bridged-other Subject zero_step (slot_at xs i).subject sb0 sn0 Predicate refl k ∙ links_zero Predicate k

  predicate_late : (k : ℕ) → links_at Predicate (slot_at (shrunk xs i) k) ≡ links_at Predicate (slot_at two k)
  predicate_late k = bridged-other Object two (slot_at xs i).object ob2 on2 Predicate refl k

  removed_predicate : IsRemoved Predicate xs (shrunk xs i) i
  removed_predicate = record {
    size = shrunk-length;
    gone = gone;
    held = held;
    triple = triple;
    next = λ k other. ap (λ (x : Links). x.next) (predicate_late k) ∙ bridged-next Predicate one (slot_at xs i).predicate pb1 pn1 k
        ∙ ap (λ (x : Links). cond (is_number (slot_at xs i).predicate.before k) ((slot_at xs i).predicate.next) x.next) (predicate_one k);
    before = λ k other. ap (λ (x : Links). x.before) (predicate_late k) ∙ bridged-before Predicate one (slot_at xs i).predicate pb1 pn1 k
        ∙ ap (λ (x : Links). cond (is_number (slot_at xs i).predicate.next k) ((slot_at xs i).predicate.before) x.before) (predicate_one k);
  }

  object_two : (k : ℕ) → links_at Object (slot_at two k) ≡ links_at Object (slot_at xs k)
  object_two k = bridged-other Predicate one (slot_at xs i).predicate pb1 pn1 Object refl k
      ∙ bridged-other Subject zero_step (slot_at xs i).subject sb0 sn0 Object refl k ∙ links_zero Object k

  removed_object : IsRemoved Object xs (shrunk xs i) i
  removed_object = record {
    size = shrunk-length;
    gone = gone;
    held = held;
    triple = triple;
    next = λ k other. bridged-next Object two (slot_at xs i).object ob2 on2 k
        ∙ ap (λ (x : Links). cond (is_number (slot_at xs i).object.before k) ((slot_at xs i).object.next) x.next) (object_two k);
    before = λ k other. bridged-before Object two (slot_at xs i).object ob2 on2 k
        ∙ ap (λ (x : Links). cond (is_number (slot_at xs i).object.next k) ((slot_at xs i).object.before) x.before) (object_two k);
  }

  pub shrunk_pairs : (ys : List Slot) → ys ≡ shrunk xs i → pairs_from 0 ys ≡ without i (pairs_from 0 xs)
  shrunk_pairs ys e = ap (pairs_from 0) e ∙ pairs_removed 0 i i xs (shrunk xs i) (omega arith) shrunk-length gone held triple

  pub shrunk_tabled : (ys : List Slot) → ys ≡ shrunk xs i → (f : Term × Term × Term → Option ℕ) → IsTabled xs f → IsTabled ys f
  shrunk_tabled ys e f tabled = subst (λ (l : List Slot). IsTabled l f) (sym e) (tabled_removed xs (shrunk xs i) i f shrunk-length gone held triple tabled)

  pub shrunk_stored : (ys : List Slot) → ys ≡ shrunk xs i → (fs fp fo gs gp go : Term → Ends) → IsStored xs fs fp fo → (slot_at xs i).held ≡ true →
      ((u : Term) → gs u ≡ ends_removed fs (slot_at xs i).triple.s (slot_at xs i).subject u) →
      ((u : Term) → gp u ≡ ends_removed fp (slot_at xs i).triple.p (slot_at xs i).predicate u) →
      ((u : Term) → go u ≡ ends_removed fo (slot_at xs i).triple.o (slot_at xs i).object u) → IsStored ys gs gp go
  shrunk_stored ys e fs fp fo gs gp go st was as_s as_p as_o =
      subst (λ (l : List Slot). IsStored l gs gp go) (sym e) (record {
        subject = chained_alike Subject (shrunk xs i) (ends_removed fs (slot_at xs i).triple.s (slot_at xs i).subject) gs as_s
            (chained_removed Subject xs (shrunk xs i) i fs st.subject removed_subject was);
        predicate = chained_alike Predicate (shrunk xs i) (ends_removed fp (slot_at xs i).triple.p (slot_at xs i).predicate) gp as_p
            (chained_removed Predicate xs (shrunk xs i) i fp st.predicate removed_predicate was);
        object = chained_alike Object (shrunk xs i) (ends_removed fo (slot_at xs i).triple.o (slot_at xs i).object) go as_o
            (chained_removed Object xs (shrunk xs i) i fo st.object removed_object was);
      })

-- the neighbours of a held record are numbers of records
pub neighbours_within : (xs : List Slot) (i : ℕ) (fs fp fo : Term → Ends) → IsStored xs fs fp fo → (slot_at xs i).held ≡ true → HasNeighboursWithin (slot_at xs i) (length xs)
neighbours_within xs i fs fp fo st was = record {
  subject_before = below Subject (slot_at xs i).subject.before (st.subject.linked.before i was);
  subject_next = above Subject (slot_at xs i).subject.next (st.subject.linked.next i was);
  predicate_before = below Predicate (slot_at xs i).predicate.before (st.predicate.linked.before i was);
  predicate_next = above Predicate (slot_at xs i).predicate.next (st.predicate.linked.next i was);
  object_before = below Object (slot_at xs i).object.before (st.object.linked.before i was);
  object_next = above Object (slot_at xs i).object.next (st.object.linked.next i was);
}
  where
    in_i : i < length xs
    in_i = held_in xs i was

    below : (p : Place) (o : Option ℕ) → IsLastBelow (is_at p (key_at p xs i) xs) i o → IfSome o (λ k. k < length xs)
    below p None h = tt
    below p (Some j) h = lt_trans h.0 (held_in xs i was)

    above : (p : Place) (o : Option ℕ) → IsFirstFrom (is_at p (key_at p xs i) xs) (i + 1) o → IfSome o (λ k. k < length xs)
    above p None h = tt
    above p (Some j) h = held_in xs j (and_parts (slot_at xs j).held (has_term p (key_at p xs i) (slot_at xs j).triple) h.1).0
