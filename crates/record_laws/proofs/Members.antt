-- What is asked of some triple, in two archives that say the same.
use Rattle.std.proofs.Common.{◌≡◌, ℕ, suc, ◌⊎◌, inl, inr, Bool, true, false, true≢false, ◌||◌, List, [], ◌∷◌, map, refl, sym, ap, ◌∙◌}
use Rattle.std.specs.List.{list_any}
use Rattle.rdf_terms.specs.declared.terms.Term.{Term}
use Rattle.rdf_terms.specs.declared.terms.Triple.{Triple}
use Rattle.rdf_terms.specs.Terms.{same_term, same_terms, is_held}
use Rattle.rdf_terms.specs.Naming.{NameLists}
use Rattle.rdf_terms.proofs.TermLemmas.{same_term-refl, same_terms-true}
use Rattle.triple_pool.specs.Pool.{number_from}
use Rattle.record_laws.specs.Renaming.{IsRenamed, renamed}
use Rattle.record_laws.proofs.OneWay.{OneWay, same_bool}

-- one of the elements
abbrev pub In : {X : Type 0} → X → List X → Type 0
In x [] = ⊥
In x (y ∷ ys) = (x ≡ y) ⊎ In x ys

or_left : (a b : Bool) → a ≡ true → (a || b) ≡ true
or_left a b h = rw h refl

or_right : (a b : Bool) → b ≡ true → (a || b) ≡ true
or_right true b h = refl
or_right false b h = h

-- an element that passes
pub any_in : {X : Type 0} (P : X → Bool) (xs : List X) (x : X) → In x xs → P x ≡ true → list_any P xs ≡ true
any_in P [] x h p = absurd h
any_in P (y ∷ ys) x (inl e) p = or_left (P y) (list_any P ys) (ap P (sym e) ∙ p)
any_in P (y ∷ ys) x (inr h) p = or_right (P y) (list_any P ys) (any_in P ys x h p)

pub in_any : {X : Type 0} (P : X → Bool) (xs : List X) → list_any P xs ≡ true → (x : X) × In x xs × (P x ≡ true)
in_any P [] h = absurd (true≢false (sym h))
in_any {X} P (y ∷ ys) h = by (P y) refl h (in_any P ys)
  where
    by : (b : Bool) → P y ≡ b → (b || list_any P ys) ≡ true → (list_any P ys ≡ true → (x : X) × In x ys × (P x ≡ true)) → (x : X) × In x (y ∷ ys) × (P x ≡ true)
    by true e h rest = (y, inl refl, e)
    by false e h rest = let r = rest h in (r.0, inr r.1, r.2)

pub same_terms-refl : (t : Triple) → same_terms t t ≡ true
same_terms-refl t = rw (same_term-refl t.s, same_term-refl t.p, same_term-refl t.o) refl

pub same_terms-from : (t u : Triple) → t.s ≡ u.s → t.p ≡ u.p → t.o ≡ u.o → same_terms t u ≡ true
same_terms-from t u s p o =
    rw (ap (same_term t.s) (sym s) ∙ same_term-refl t.s, ap (same_term t.p) (sym p) ∙ same_term-refl t.p, ap (same_term t.o) (sym o) ∙ same_term-refl t.o) refl

pub held_in : (ts : List Triple) (t : Triple) → In t ts → is_held ts t ≡ true
held_in ts t h = any_in (same_terms t) ts t h (same_terms-refl t)

module _ (names other : NameLists) (triples others : List Triple) (m : Term → Term) (same : OneWay names triples other others m) where
  -- a triple of the one is, renamed, one of the other
  pub goes : (t : Triple) → In t triples → (u : Triple) × In u others × IsRenamed m t u
  goes t h =
      let r = in_any (same_terms (renamed m t)) others (same.there t (held_in triples t h)) in
      let e = same_terms-true (renamed m t) r.0 r.2 in
      (r.0, r.1, record { s = sym e.0; p = sym e.1; o = sym e.2 })

  pub comes : (u : Triple) → In u others → (t : Triple) × In t triples × IsRenamed m t u
  comes u h =
      let b = same.back u (held_in others u h) in
      let r = in_any (same_terms b.0) triples b.1 in
      let e = same_terms-true b.0 r.0 r.2 in
      (r.0, r.1, record { s = b.2.s ∙ ap m e.0; p = b.2.p ∙ ap m e.1; o = b.2.o ∙ ap m e.2 })

  -- a test that a triple passes as its renamed one does
  pub any_same : (P Q : Triple → Bool) → ((t u : Triple) → IsRenamed m t u → Q u ≡ P t) → list_any Q others ≡ list_any P triples
  any_same P Q alike = same_bool (list_any Q others) (list_any P triples) left right
    where
      left : list_any Q others ≡ true → list_any P triples ≡ true
      left h = let r = in_any Q others h in let b = comes r.0 r.1 in any_in P triples b.0 b.1 (sym (alike b.0 r.0 b.2) ∙ r.2)

      right : list_any P triples ≡ true → list_any Q others ≡ true
      right h = let r = in_any P triples h in let b = goes r.0 r.1 in any_in Q others b.0 b.1 (alike r.0 b.0 b.2 ∙ r.2)

-- numbers are of no account
pub any_numbered : (P : Triple → Bool) (n : ℕ) (ts : List Triple) → list_any (λ (p : ℕ × Triple). P p.1) (number_from n ts) ≡ list_any P ts
any_numbered P n [] = refl
any_numbered P n (t ∷ ts) = ap (λ (b : Bool). P t || b) (any_numbered P (suc n) ts)

pub map_numbered : (n : ℕ) (ts : List Triple) → map (λ (p : ℕ × Triple). p.1) (number_from n ts) ≡ ts
map_numbered n [] = refl
map_numbered n (t ∷ ts) = ap (λ (us : List Triple). t ∷ us) (map_numbered (suc n) ts)
