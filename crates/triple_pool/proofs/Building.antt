-- A pool that is built of distinct triples.
use Rattle.std.proofs.Common.{◌≡◌, ℕ, zero, suc, ◌+◌, ◌<◌, ◌≤◌, ◌||◌, ◌++◌, Bool, false, Option, Some, None, List, [], ◌∷◌, length, take, slice_get, get_or, arith, refl, sym, ap, subst, ◌∙◌, inl, inr}
use Rattle.std.specs.List.{list_any, IsDistinct, AllByRecursion}
use Rattle.std.proofs.lemmas.Bool.{cases_Bool, false≢true, or_from}
use Rattle.std.proofs.lemmas.List.{take_all}
use Rattle.std.proofs.lemmas.Option.{slice_get_within, get_or_from_slice_get, slice_get-get_or}
use Rattle.rdf_terms.specs.declared.terms.Triple.{Triple}
use Rattle.rdf_terms.specs.Terms.{same_terms}
use Rattle.triple_pool.specs.Pool.{Numbered, is_held, number_from}
use Rattle.triple_pool.specs.Chains.{no_slot}
use Rattle.triple_pool.specs.Tables.{key_of, same_key}
use Rattle.triple_pool.proofs.Listing.{build_more}
use Rattle.triple_pool.proofs.Tabling.{keys_alike, same_key_is, same_terms-refl}

none_some : (t : Triple) → ◌≡◌ {A = Option Triple} None (Some t) → ⊥
none_some t e = cc

some_alike : (t u : Triple) → ◌≡◌ {A = Option Triple} (Some t) (Some u) → t ≡ u
some_alike t u e = cc

all_at : (P : Triple → Type 0) (ts : List Triple) (i : ℕ) (t : Triple) → AllByRecursion P ts → slice_get ts i ≡ Some t → P t
all_at P [] i t h e = absurd (none_some t e)
all_at P (x ∷ xs) zero t h e = subst P (some_alike x t e) h.0
all_at P (x ∷ xs) (suc i) t h e = all_at P xs i t h.1 e

-- the comparison goes both ways
other : (t u : Triple) → same_terms u t ≡ false → same_terms t u ≡ false
other t u h = elim (cases_Bool (same_terms t u)) [
  | inl yea ↦
      absurd (false≢true (sym h ∙ sym (same_key_is u t) ∙ ap (same_key (key_of u)) (keys_alike t u yea) ∙ same_key_is u u ∙ same_terms-refl u))
  | inr nay ↦ nay
]

-- none of the triples before one has its terms
none_before : (t : Triple) (ts : List Triple) (i : ℕ) → IsDistinct same_terms ts → slice_get ts i ≡ Some t → list_any (same_terms t) (take i ts) ≡ false
unfolding IsDistinct
none_before t [] i d e = absurd (none_some t e)
none_before t (x ∷ xs) zero d e = refl
none_before t (x ∷ xs) (suc i) d e =
    or_from (same_terms t x) (list_any (same_terms t) (take i xs)) (other t x (all_at (λ y. same_terms x y ≡ false) xs i t d.0 e)) (none_before t xs i d.1 e)

held_numbered : (t : Triple) (m : ℕ) (ts : List Triple) → is_held t (number_from m ts) ≡ list_any (same_terms t) ts
held_numbered t m [] = refl
held_numbered t m (x ∷ xs) = ap (λ (b : Bool). same_terms t x || b) (held_numbered t (suc m) xs)

-- the next triple is not held
pub build_new : (ts : List Triple) (i : ℕ) (t : Triple) (pool : Numbered) → IsDistinct same_terms ts → slice_get ts i ≡ Some t →
    pool ≡ record { pairs = number_from 0 (take i ts); used = i } → is_held t pool.pairs ≡ false
build_new ts i t pool distinct at is =
    ap (λ (p : Numbered). is_held t p.pairs) is ∙ held_numbered t 0 (take i ts) ∙ none_before t ts i distinct at

pub build_room : (ts : List Triple) (i count limit : ℕ) (t : Triple) (pool : Numbered) → slice_get ts i ≡ Some t → count ≡ length ts → count ≤ limit →
    pool ≡ record { pairs = number_from 0 (take i ts); used = i } → pool.used < limit
build_room ts i count limit t pool at all few is = omega (arith, slice_get_within ts i t at, ap (λ (p : Numbered). p.used) is)

pub build_next : (ts : List Triple) (i : ℕ) (t : Triple) (pool after : Numbered) → slice_get ts i ≡ Some t →
    pool ≡ record { pairs = number_from 0 (take i ts); used = i } →
    after ≡ record { pairs = pool.pairs ++ (pool.used, t) ∷ []; used = pool.used + 1 } →
    after ≡ record { pairs = number_from 0 (take (i + 1) ts); used = i + 1 }
build_next ts i t pool after at is e =
    let f : Triple → Numbered = λ u. record { pairs = pool.pairs ++ (pool.used, u) ∷ []; used = pool.used + 1 } in
    build_more ts i t pool after (slice_get_within ts i t at) is (e ∙ ap f (sym (get_or_from_slice_get ts i t t at)))

pub build_there : (ts : List Triple) (i : ℕ) → i < length ts → slice_get ts i ≡ None → ⊥
build_there ts i l e = none_some (get_or ts i no_slot.triple) (sym e ∙ slice_get-get_or ts i no_slot.triple l)

pub build_done : (ts : List Triple) (n : ℕ) (pool : Numbered) → n ≡ length ts → pool ≡ record { pairs = number_from 0 (take n ts); used = n } →
    pool ≡ record { pairs = number_from 0 ts; used = length ts }
build_done ts n pool e is =
    let f : ℕ → List Triple → Numbered = λ k us. record { pairs = number_from 0 us; used = k } in
    is ∙ ap (λ (us : List Triple). f n us) (take_all n ts (omega (arith, e))) ∙ ap (λ (k : ℕ). f k ts) e
