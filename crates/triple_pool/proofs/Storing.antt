-- What a pool keeps, where a record is added to all three chains, and where one is let go.
use Rattle.std.proofs.Common.{◌≡◌, ℕ, ◌+◌, ◌<◌, ◌++◌, [], ◌∷◌, Bool, false, cond, Option, Some, None, List, length, arith, refl, sym, ap, subst, ◌∙◌, IfSome, length-append}
use Rattle.std.proofs.lemmas.List.{get_or_append_left}
use Rattle.std.proofs.Math.Seq.{get_or-append_seam}
use Rattle.rdf_terms.specs.declared.terms.Term.{Term}
use Rattle.rdf_terms.specs.declared.terms.Triple.{Triple}
use Rattle.triple_pool.specs.declared.Place.{Place}
use Rattle.triple_pool.specs.declared.Place.TheVariants.{Subject, Predicate, Object}
use Rattle.triple_pool.specs.declared.Links.{Links}
use Rattle.triple_pool.specs.declared.Slot.{Slot}
use Rattle.triple_pool.specs.declared.Ends.{Ends}
use Rattle.triple_pool.specs.Pool.{is_held}
use Rattle.triple_pool.specs.Chains.{slot_at, no_slot, links_at, is_at, pairs_from, next_set, IsFirstFrom, IsLastBelow, HasEnds, IsChained, IsAdded, ends_added, grown, new_slot, is_number}
use Rattle.triple_pool.specs.Tables.{IsStored, IsTabled, key_of, same_key}
use Rattle.triple_pool.proofs.Setting.{next_set-length, next_set-held, next_set-triple, next_set-other, next_set-before, next_set-next}
use Rattle.triple_pool.proofs.Chaining.{chained_added}
use Rattle.triple_pool.proofs.Listing.{pairs_added}
use Rattle.triple_pool.proofs.Tabling.{tabled_added}

-- a chain with a table that has the same entries
pub chained_alike : (place : Place) (slots : List Slot) (f g : Term → Ends) → ((t : Term) → g t ≡ f t) → IsChained place slots f → IsChained place slots g
chained_alike place slots f g same c = record {
  linked = c.linked;
  ended = record {
    first = λ t. subst (λ (e : Ends). IsFirstFrom (is_at place t slots) 0 e.first) (sym (same t)) (c.ended.first t);
    last = λ t. subst (λ (e : Ends). IsLastBelow (is_at place t slots) (length slots) e.last) (sym (same t)) (c.ended.last t);
  };
}

pub last_in : (test : ℕ → Bool) (end : ℕ) (o : Option ℕ) → IsLastBelow test end o → IfSome o (λ i. i < end)
last_in test end None h = tt
last_in test end (Some j) h = h.0

pub within : (o : Option ℕ) (m n : ℕ) → n ≡ m → IfSome o (λ i. i < m) → IfSome o (λ i. i < n)
within o m n e h = subst (λ (k : ℕ). IfSome o (λ i. i < k)) (sym e) h

module _ (xs : List Slot) (t : Triple) (es ep eo : Ends) (in_s : IfSome es.last (λ i. i < length xs)) (in_p : IfSome ep.last (λ i. i < length xs))
    (in_o : IfSome eo.last (λ i. i < length xs)) where
  abbrev one : List Slot
  one = next_set Subject xs es.last (Some (length xs))

  abbrev two : List Slot
  two = next_set Predicate (next_set Subject xs es.last (Some (length xs))) ep.last (Some (length xs))

  abbrev three : List Slot
  three = next_set Object (next_set Predicate (next_set Subject xs es.last (Some (length xs))) ep.last (Some (length xs))) eo.last (Some (length xs))

  size_one : length one ≡ length xs
  size_one = next_set-length Subject xs (Some (length xs)) es.last

  size_two : length two ≡ length xs
  size_two = next_set-length Predicate one (Some (length xs)) ep.last ∙ size_one

  size_three : length three ≡ length xs
  size_three = next_set-length Object two (Some (length xs)) eo.last ∙ size_two

  in_two : IfSome ep.last (λ i. i < length one)
  in_two = within ep.last (length xs) (length one) size_one in_p

  in_three : IfSome eo.last (λ i. i < length two)
  in_three = within eo.last (length xs) (length two) size_two in_o

  early : (k : ℕ) → k < length xs → slot_at (grown xs t es.last ep.last eo.last) k ≡ slot_at three k
  early k l = get_or_append_left three _ no_slot k (omega (arith, size_three))

  at_end : slot_at (grown xs t es.last ep.last eo.last) (length xs) ≡ new_slot t es.last ep.last eo.last
  at_end = ap (slot_at (grown xs t es.last ep.last eo.last)) (sym size_three) ∙ get_or-append_seam three _ [] no_slot

  size_grown : length (grown xs t es.last ep.last eo.last) ≡ length xs + 1
  size_grown = length-append three _ ∙ ap (λ (n : ℕ). n + 1) size_three

  held_early : (k : ℕ) → k < length xs → (slot_at (grown xs t es.last ep.last eo.last) k).held ≡ (slot_at xs k).held
  held_early k l = ap (λ (s : Slot). s.held) (early k l)
      ∙ next_set-held Object two (Some (length xs)) eo.last in_three k
      ∙ next_set-held Predicate one (Some (length xs)) ep.last in_two k
      ∙ next_set-held Subject xs (Some (length xs)) es.last in_s k

  triple_early : (k : ℕ) → k < length xs → (slot_at (grown xs t es.last ep.last eo.last) k).triple ≡ (slot_at xs k).triple
  triple_early k l = ap (λ (s : Slot). s.triple) (early k l)
      ∙ next_set-triple Object two (Some (length xs)) eo.last in_three k
      ∙ next_set-triple Predicate one (Some (length xs)) ep.last in_two k
      ∙ next_set-triple Subject xs (Some (length xs)) es.last in_s k

  subject_early : (k : ℕ) → k < length xs → links_at Subject (slot_at (grown xs t es.last ep.last eo.last) k) ≡ links_at Subject (slot_at one k)
  subject_early k l = ap (links_at Subject) (early k l)
      ∙ next_set-other Object two (Some (length xs)) Subject refl eo.last in_three k
      ∙ next_set-other Predicate one (Some (length xs)) Subject refl ep.last in_two k

  added_subject : IsAdded Subject xs (grown xs t es.last ep.last eo.last) t es
  added_subject = record {
    size = size_grown;
    held = held_early;
    triple = triple_early;
    next = λ k l. ap (λ (x : Links). x.next) (subject_early k l) ∙ next_set-next Subject xs (Some (length xs)) es.last in_s k;
    before = λ k l. ap (λ (x : Links). x.before) (subject_early k l) ∙ next_set-before Subject xs (Some (length xs)) es.last in_s k;
    here_held = ap (λ (s : Slot). s.held) at_end;
    here_triple = ap (λ (s : Slot). s.triple) at_end;
    here_links = ap (links_at Subject) at_end;
  }

  predicate_early : (k : ℕ) → k < length xs → links_at Predicate (slot_at (grown xs t es.last ep.last eo.last) k) ≡ links_at Predicate (slot_at two k)
  predicate_early k l = ap (links_at Predicate) (early k l)
      ∙ next_set-other Object two (Some (length xs)) Predicate refl eo.last in_three k

  added_predicate : IsAdded Predicate xs (grown xs t es.last ep.last eo.last) t ep
  added_predicate = record {
    size = size_grown;
    held = held_early;
    triple = triple_early;
    next = λ k l. ap (λ (x : Links). x.next) (predicate_early k l)
        ∙ next_set-next Predicate one (Some (length xs)) ep.last in_two k
        ∙ ap (λ (x : Links). cond (is_number ep.last k) (Some (length xs)) x.next) (next_set-other Subject xs (Some (length xs)) Predicate refl es.last in_s k);
    before = λ k l. ap (λ (x : Links). x.before) (predicate_early k l)
        ∙ next_set-before Predicate one (Some (length xs)) ep.last in_two k
        ∙ ap (λ (x : Links). x.before) (next_set-other Subject xs (Some (length xs)) Predicate refl es.last in_s k);
    here_held = ap (λ (s : Slot). s.held) at_end;
    here_triple = ap (λ (s : Slot). s.triple) at_end;
    here_links = ap (links_at Predicate) at_end;
  }

  object_two : (k : ℕ) → links_at Object (slot_at two k) ≡ links_at Object (slot_at xs k)
  object_two k = next_set-other Predicate one (Some (length xs)) Object refl ep.last in_two k
      ∙ next_set-other Subject xs (Some (length xs)) Object refl es.last in_s k

  added_object : IsAdded Object xs (grown xs t es.last ep.last eo.last) t eo
  added_object = record {
    size = size_grown;
    held = held_early;
    triple = triple_early;
    next = λ k l. ap (λ (s : Slot). (links_at Object s).next) (early k l)
        ∙ next_set-next Object two (Some (length xs)) eo.last in_three k
        ∙ ap (λ (x : Links). cond (is_number eo.last k) (Some (length xs)) x.next) (object_two k);
    before = λ k l. ap (λ (s : Slot). (links_at Object s).before) (early k l)
        ∙ next_set-before Object two (Some (length xs)) eo.last in_three k
        ∙ ap (λ (x : Links). x.before) (object_two k);
    here_held = ap (λ (s : Slot). s.held) at_end;
    here_triple = ap (λ (s : Slot). s.triple) at_end;
    here_links = ap (links_at Object) at_end;
  }

  pub grown_pairs : (ys : List Slot) → ys ≡ grown xs t es.last ep.last eo.last → pairs_from 0 ys ≡ pairs_from 0 xs ++ (length xs, t) ∷ []
  grown_pairs ys e = ap (pairs_from 0) e
      ∙ pairs_added 0 xs (grown xs t es.last ep.last eo.last) t size_grown held_early triple_early (ap (λ (s : Slot). s.held) at_end) (ap (λ (s : Slot). s.triple) at_end)
      ∙ ap (λ (n : ℕ). pairs_from 0 xs ++ (n, t) ∷ []) (omega arith)

  pub grown_stored : (ys : List Slot) → ys ≡ grown xs t es.last ep.last eo.last → (fs fp fo gs gp go : Term → Ends) → IsStored xs fs fp fo →
      es ≡ fs t.s → ep ≡ fp t.p → eo ≡ fo t.o →
      ((u : Term) → gs u ≡ ends_added fs t.s (length xs) u) → ((u : Term) → gp u ≡ ends_added fp t.p (length xs) u) →
      ((u : Term) → go u ≡ ends_added fo t.o (length xs) u) → IsStored ys gs gp go
  grown_stored ys e fs fp fo gs gp go s is_s is_p is_o as_s as_p as_o =
      subst (λ (l : List Slot). IsStored l gs gp go) (sym e) (record {
        subject = chained_alike Subject (grown xs t es.last ep.last eo.last) (ends_added fs t.s (length xs)) gs as_s
            (chained_added Subject xs (grown xs t es.last ep.last eo.last) t fs s.subject (subst (IsAdded Subject xs (grown xs t es.last ep.last eo.last) t) is_s added_subject));
        predicate = chained_alike Predicate (grown xs t es.last ep.last eo.last) (ends_added fp t.p (length xs)) gp as_p
            (chained_added Predicate xs (grown xs t es.last ep.last eo.last) t fp s.predicate (subst (IsAdded Predicate xs (grown xs t es.last ep.last eo.last) t) is_p added_predicate));
        object = chained_alike Object (grown xs t es.last ep.last eo.last) (ends_added fo t.o (length xs)) go as_o
            (chained_added Object xs (grown xs t es.last ep.last eo.last) t fo s.object (subst (IsAdded Object xs (grown xs t es.last ep.last eo.last) t) is_o added_object));
      })

  pub grown_size : (ys : List Slot) → ys ≡ grown xs t es.last ep.last eo.last → length ys ≡ length xs + 1
  grown_size ys e = ap length e ∙ size_grown

  -- the table of triples goes on finding the held ones
  pub grown_tabled : (ys : List Slot) → ys ≡ grown xs t es.last ep.last eo.last → (f g : Term × Term × Term → Option ℕ) → IsTabled xs f →
      is_held t (pairs_from 0 xs) ≡ false → (n : ℕ) → n ≡ length xs →
      ((key : Term × Term × Term) → g key ≡ cond (same_key (key_of t) key) (Some n) (f key)) → IsTabled ys g
  grown_tabled ys e f g tabled absent n is put =
      subst (λ (l : List Slot). IsTabled l g) (sym e)
      (tabled_added xs (grown xs t es.last ep.last eo.last) t es f g tabled added_subject absent
      (λ key. put key ∙ ap (λ (k : ℕ). cond (same_key (key_of t) key) (Some k) (f key)) is))

pub ends_within : (place : Place) (slots : List Slot) (f : Term → Ends) (t : Term) (e : Ends) → HasEnds place slots f → e ≡ f t →
    IfSome e.last (λ i. i < length slots)
ends_within place slots f t e h is = last_in (is_at place t slots) (length slots) e.last
    (subst (λ (x : Ends). IsLastBelow (is_at place t slots) (length slots) x.last) (sym is) (h.last t))

pub added_at : (f g : Term → Ends) (key : Term) (m n : ℕ) → m ≡ n → ((u : Term) → g u ≡ ends_added f key m u) → (u : Term) → g u ≡ ends_added f key n u
added_at f g key m n e h u = h u ∙ ap (λ (k : ℕ). ends_added f key k u) e
