-- What a pool answers.
use Rattle.std.proofs.Common.{◌≡◌, ℕ, ◌+◌, ◌-◌, ◌^◌, ◌<◌, ◌≤◌, ◌&&◌, ◌++◌, [], Bool, true, false, cond, Option, Some, None, List, length, take, drop, arith, refl, sym, ap, ap₂, subst, ◌∙◌, IfSome, append-nil, drop_of_length-le}
use Rattle.std.proofs.lemmas.Bool.{false≢true}
use Rattle.std.specs.Map.{lookup}
use Rattle.std.specs.Option.{unwrap_or}
use Rattle.std.proofs.lemmas.List.{get_or_past, take_all}
use Rattle.rdf_terms.specs.declared.terms.Term.{Term}
use Rattle.rdf_terms.specs.declared.terms.Triple.{Triple}
use Rattle.rdf_terms.specs.contracts.terms.TermPartialEq.TheImpl.{ghosts}
use Rattle.triple_pool.specs.declared.Place.{Place}
use Rattle.triple_pool.specs.declared.Place.TheVariants.{Subject, Predicate, Object}
use Rattle.triple_pool.specs.declared.Slot.{Slot}
use Rattle.triple_pool.specs.declared.Ends.{Ends}
use Rattle.triple_pool.specs.Pool.{has_term, triple_of, numbers_with, without, is_with, holds}
use Rattle.triple_pool.specs.Chains.{slot_at, no_slot, no_ends, links_at, is_at, key_at, pairs_from, listed_at, IsLinked, HasEnds, IsChained}
use Rattle.triple_pool.specs.Tables.{IsStored, IsTabled, IsPool, IsRecordOf, key_of, same_key}
use Rattle.triple_pool.proofs.Nearest.{first_carried, last_carried}
use Rattle.triple_pool.proofs.Chaining.{at_past}
use Rattle.triple_pool.proofs.Listing.{triple_of_at, numbers_listed, listed_first, pairs_few, without_one}
use Rattle.triple_pool.proofs.Storing.{chained_alike}

holds_cond : (f : Triple → Bool) (b : Bool) (t : Triple) → holds f (cond b (Some t) None) ≡ (b && f t)
holds_cond f true t = refl
holds_cond f false t = refl

with_at : (place : Place) (u : Term) (xs : List Slot) (k : ℕ) → is_with place u (pairs_from 0 xs) k ≡ is_at place u xs k
with_at place u xs k = ap (holds (has_term place u)) (triple_of_at 0 k k xs (omega arith)) ∙ holds_cond (has_term place u) (slot_at xs k).held (slot_at xs k).triple

chained : (place : Place) (xs : List Slot) (fs fp fo : Term → Ends) → IsStored xs fs fp fo → IsLinked place xs
chained Subject xs fs fp fo st = st.subject.linked
chained Predicate xs fs fp fo st = st.predicate.linked
chained Object xs fs fp fo st = st.object.linked

pub slot_found : (xs : List Slot) (fs fp fo : Term → Ends) (i : ℕ) (pairs : List (ℕ × Triple)) → IsStored xs fs fp fo → pairs_from 0 xs ≡ pairs →
    (slot_at xs i).held ≡ true → IsRecordOf pairs i (slot_at xs i)
slot_found xs fs fp fo i pairs st is was =
    subst (λ (ps : List (ℕ × Triple)). IsRecordOf ps i (slot_at xs i)) is (record {
      triple = triple_of_at 0 i i xs (omega arith) ∙ ap (λ (b : Bool). cond b (Some (slot_at xs i).triple) None) was;
      held = was;
      next = λ place. first_carried (is_with place (key_at place xs i) (pairs_from 0 xs)) (is_at place (key_at place xs i) xs) (i + 1)
          (λ k l. with_at place (key_at place xs i) xs k) (links_at place (slot_at xs i)).next ((chained place xs fs fp fo st).next i was);
      before = λ place. last_carried (is_with place (key_at place xs i) (pairs_from 0 xs)) (is_at place (key_at place xs i) xs) i
          (λ k l. with_at place (key_at place xs i) xs k) (links_at place (slot_at xs i)).before ((chained place xs fs fp fo st).before i was);
    })

pub slot_missing : (xs : List Slot) (i : ℕ) (pairs : List (ℕ × Triple)) → pairs_from 0 xs ≡ pairs → (slot_at xs i).held ≡ false → triple_of i pairs ≡ None
slot_missing xs i pairs is was =
    ap (triple_of i) (sym is) ∙ triple_of_at 0 i i xs (omega arith) ∙ ap (λ (b : Bool). cond b (Some (slot_at xs i).triple) None) was

pub past_missing : (xs : List Slot) (i : ℕ) (pairs : List (ℕ × Triple)) → pairs_from 0 xs ≡ pairs → length xs ≤ i → triple_of i pairs ≡ None
past_missing xs i pairs is l = slot_missing xs i pairs is (ap (λ (s : Slot). s.held) (get_or_past xs i no_slot l))

pub walk_begun : (place : Place) (xs : List Slot) (f : Term → Ends) (t : Term) (o : Option ℕ) (pairs : List (ℕ × Triple)) → HasEnds place xs f → o ≡ (f t).first →
    pairs_from 0 xs ≡ pairs → listed_at (is_at place t xs) (length xs) o ≡ numbers_with place t pairs
walk_begun place xs f t o pairs h is same =
    sym (ap (numbers_with place t) (sym same)
    ∙ numbers_listed place t (is_at place t xs) 0 xs (λ k l. ap (is_at place t xs) (omega arith))
    ∙ listed_first (is_at place t xs) 0 (length xs) (f t).first (h.first t) (λ k l. at_past place t xs k (omega arith))
    ∙ ap (λ (n : ℕ). listed_at (is_at place t xs) n (f t).first) (omega arith)
    ∙ ap (listed_at (is_at place t xs) (length xs)) (sym is))

pub empty_chain : (place : Place) (f : Term → Ends) → ((t : Term) → f t ≡ no_ends) → IsChained place [] f
empty_chain place f h = chained_alike place [] (λ t. no_ends) f h (record {
  linked = record { next = λ i e. absurd (false≢true e); before = λ i e. absurd (false≢true e) };
  ended = record { first = λ t k l. refl; last = λ t k l. refl };
})

pub empty_ends : (es : List (Term × Ends)) → es ≡ [] → (t : Term) → unwrap_or (lookup (ghosts.eq t) es) no_ends ≡ no_ends
empty_ends es e t = ap (λ (l : List (Term × Ends)). unwrap_or (lookup (ghosts.eq t) l) no_ends) e

pub empty_numbers : (es : List ((Term × Term × Term) × ℕ)) → es ≡ [] → (key : Term × Term × Term) → lookup (same_key key) es ≡ None
empty_numbers es e key = ap (λ (l : List ((Term × Term × Term) × ℕ)). lookup (same_key key) l) e

pub empty_pool : (fs fp fo : Term → Ends) (ns : Term × Term × Term → Option ℕ) (xs : List Slot) → xs ≡ [] →
    ((t : Term) → fs t ≡ no_ends) → ((t : Term) → fp t ≡ no_ends) → ((t : Term) → fo t ≡ no_ends) → ((key : Term × Term × Term) → ns key ≡ None) →
    IsPool xs fs fp fo ns 0
empty_pool fs fp fo ns xs e s p o n = subst (λ (l : List Slot). IsPool l fs fp fo ns 0) (sym e) (record {
  stored = record { subject = empty_chain Subject fs s; predicate = empty_chain Predicate fp p; object = empty_chain Object fo o };
  tabled = record {
    found = λ k was. absurd (false≢true was);
    right = λ key. subst (λ (a : Option ℕ). IfSome a (λ k. (k < 0) × (key_of no_slot.triple ≡ key))) (sym (n key)) tt;
  };
  count = refl;
  few = omega arith;
})

pub stored_alike : (xs ys : List Slot) (fs fp fo gs gp go : Term → Ends) → ys ≡ xs → ((t : Term) → gs t ≡ fs t) → ((t : Term) → gp t ≡ fp t) → ((t : Term) → go t ≡ fo t) →
    IsStored xs fs fp fo → IsStored ys gs gp go
stored_alike xs ys fs fp fo gs gp go e s p o st = subst (λ (l : List Slot). IsStored l gs gp go) (sym e) (record {
  subject = chained_alike Subject xs fs gs s st.subject;
  predicate = chained_alike Predicate xs fp gp p st.predicate;
  object = chained_alike Object xs fo go o st.object;
})

-- all of a list is replaced
pub replaced : {X : Type 0} (size : ℕ) (new old : List X) → length new ≡ length old → size ≡ length old → take size (new ++ drop (length new) old) ≡ new
replaced {X = X} size new old e is =
    let h : length old ≤ length new = omega arith in
    ap₂ (λ (n : ℕ) (r : List X). take n (new ++ r)) (is ∙ sym e) (drop_of_length-le old h) ∙ ap (take (length new)) (append-nil new) ∙ take_all (length new) new (omega arith)

pub count_room : (xs : List Slot) (held : ℕ) → held ≡ length (pairs_from 0 xs) → length xs ≤ 262144 → held + 1 < 2 ^ 32
count_room xs held e few = omega (arith, pairs_few 0 xs)

pub pool_removed : (xs ys : List Slot) (fs fp fo gs gp go : Term → Ends) (ns : Term × Term × Term → Option ℕ) (held i : ℕ) → IsPool xs fs fp fo ns held →
    IsStored ys gs gp go → IsTabled ys ns → length ys ≡ length xs →
    pairs_from 0 ys ≡ without i (pairs_from 0 xs) → (slot_at xs i).held ≡ true → IsPool ys gs gp go ns (held - 1)
pool_removed xs ys fs fp fo gs gp go ns held i pool stored tabled size pairs was = record {
  stored = stored;
  tabled = tabled;
  count = omega (arith, pool.count, ap length pairs, without_one 0 i i xs (omega arith) was);
  few = omega (arith, pool.few);
}

pub held_one : (xs : List Slot) (held i : ℕ) → held ≡ length (pairs_from 0 xs) → (slot_at xs i).held ≡ true → 1 ≤ held
held_one xs held i e was = omega (arith, without_one 0 i i xs (omega arith) was)

pub triple_there : (xs : List Slot) (i : ℕ) (pairs : List (ℕ × Triple)) → pairs_from 0 xs ≡ pairs → (slot_at xs i).held ≡ true → triple_of i pairs ≡ Some (slot_at xs i).triple
triple_there xs i pairs is was =
    ap (triple_of i) (sym is) ∙ triple_of_at 0 i i xs (omega arith) ∙ ap (λ (b : Bool). cond b (Some (slot_at xs i).triple) None) was

pub slot_found_in : (xs ys : List Slot) (fs fp fo : Term → Ends) (i : ℕ) (pairs : List (ℕ × Triple)) (answer : Bool) → IsStored xs fs fp fo → pairs_from 0 xs ≡ pairs →
    ys ≡ xs → answer ≡ (slot_at ys i).held → answer ≡ true → IsRecordOf pairs i (slot_at ys i)
slot_found_in xs ys fs fp fo i pairs answer st is e held yea =
    let f : List Slot → Type 0 = λ zs. answer ≡ (slot_at zs i).held → IsRecordOf pairs i (slot_at zs i) in
    subst f (sym e) (λ h. slot_found xs fs fp fo i pairs st is (sym h ∙ yea)) held

pub slot_missing_in : (xs ys : List Slot) (i : ℕ) (pairs : List (ℕ × Triple)) (answer : Bool) → pairs_from 0 xs ≡ pairs →
    ys ≡ xs → answer ≡ (slot_at ys i).held → answer ≡ false → triple_of i pairs ≡ None
slot_missing_in xs ys i pairs answer is e held nay =
    slot_missing xs i pairs is (ap (λ (zs : List Slot). (slot_at zs i).held) (sym e) ∙ sym held ∙ nay)

pub held_from : (xs ys : List Slot) (i : ℕ) (answer : Bool) → ys ≡ xs → answer ≡ (slot_at ys i).held → answer ≡ true → (slot_at xs i).held ≡ true
held_from xs ys i answer e held yea = ap (λ (zs : List Slot). (slot_at zs i).held) (sym e) ∙ sym held ∙ yea

pub pool_removed_in : (xs zs ys : List Slot) (fs fp fo gs gp go : Term → Ends) (ns : Term × Term × Term → Option ℕ) (held i : ℕ) → zs ≡ xs → IsPool xs fs fp fo ns held →
    IsStored ys gs gp go → ((f : Term × Term × Term → Option ℕ) → IsTabled zs f → IsTabled ys f) → length ys ≡ length zs →
    pairs_from 0 ys ≡ without i (pairs_from 0 zs) → (slot_at xs i).held ≡ true → IsPool ys gs gp go ns (held - 1)
pool_removed_in xs zs ys fs fp fo gs gp go ns held i e pool stored tabled size pairs was =
    pool_removed xs ys fs fp fo gs gp go ns held i pool stored (tabled ns (subst (λ (l : List Slot). IsTabled l ns) (sym e) pool.tabled)) (size ∙ ap length e) (pairs ∙ ap (λ (l : List Slot). without i (pairs_from 0 l)) e) was
