-- The kinds of nodes as the list of standings grows.
use Rattle.std.proofs.Math.Seq.{take-suc}
use Rattle.std.proofs.Common.{ℕ, suc, arith, ◌<◌, ◌+◌, length, take, get_or, ◌≡◌, ◌&&◌, ◌||◌, ◌++◌, Bool, true, false, cond, Option, Some, None, List, [], ◌∷◌, refl, sym, ap, ap₂, ◌∙◌, inl, inr}
use Rattle.std.specs.Option.{unwrap_or}
use Rattle.std.proofs.lemmas.Bool.{false≢true, cases_Bool}
use Rattle.std.proofs.lemmas.List.Folds.{list_any-append}
use Rattle.rdf_terms.specs.declared.terms.Term.{Term}
use Rattle.rdf_terms.specs.Terms.{same_term}
use Rattle.rdf_terms.proofs.TermLemmas.{same_term-true}
use Rattle.boundary_orders.specs.Extents.{is_extent, is_period, kind_of}

no_period : (ss : List (Term × Bool)) (t : Term) → is_extent ss t ≡ false → is_period ss t ≡ false
no_period [] t h = refl
no_period (s ∷ ss) t h = go (same_term s.0 t) (is_extent ss t) s.1 (is_period ss t) (no_period ss t) h
  where
    go : (a b p q : Bool) → (b ≡ false → q ≡ false) → (a || b) ≡ false → ((a && p) || q) ≡ false
    go true b p q f h = absurd (false≢true (sym h))
    go false b p q f h = f h

or_false : (b : Bool) → (b || false) ≡ b
or_false true = refl
or_false false = refl

other : (a q r : Bool) → cond (a || (false || false)) (Some (q || ((false && r) || false))) None ≡ cond a (Some q) None
other true q r = ap (λ (b : Bool). Some b) (or_false q)
other false q r = refl

join : (a q r : Bool) → (a ≡ false → q ≡ false) →
    cond (a || (true || false)) (Some (q || ((true && r) || false))) None ≡ Some (unwrap_or (cond a (Some q) None) false || r)
join true q r f = ap (λ (b : Bool). Some (q || b)) (or_false r)
join false q r f = ap₂ (λ (x y : Bool). Some (x || y)) (f refl) (or_false r)

-- one standing more makes its node a period where it was one, or is one there
pub kind_push : (ss : List (Term × Bool)) (p : Term × Bool) (t : Term) →
    kind_of (ss ++ p ∷ []) t ≡ cond (same_term p.0 t) (Some (unwrap_or (kind_of ss p.0) false || p.1)) (kind_of ss t)
kind_push ss p t =
    ap₂ (λ (a q : Bool). cond a (Some q) None) (list_any-append (λ (s : Term × Bool). same_term s.0 t) ss (p ∷ []))
    (list_any-append (λ (s : Term × Bool). same_term s.0 t && s.1) ss (p ∷ []))
    ∙ elim (cases_Bool (same_term p.0 t)) [
      | inl same ↦
          ap (λ (b : Bool). cond (is_extent ss t || (b || false)) (Some (is_period ss t || ((b && p.1) || false))) None) same
          ∙ join (is_extent ss t) (is_period ss t) p.1 (no_period ss t)
          ∙ ap (λ (u : Term). Some (unwrap_or (kind_of ss u) false || p.1)) (sym (same_term-true p.0 t same))
          ∙ sym (ap (λ (b : Bool). cond b (Some (unwrap_or (kind_of ss p.0) false || p.1)) (kind_of ss t)) same)
      | inr differs ↦
          ap (λ (b : Bool). cond (is_extent ss t || (b || false)) (Some (is_period ss t || ((b && p.1) || false))) None) differs
          ∙ other (is_extent ss t) (is_period ss t) p.1
          ∙ sym (ap (λ (b : Bool). cond b (Some (unwrap_or (kind_of ss p.0) false || p.1)) (kind_of ss t)) differs)
    ]

pub kinds_grow : (old new : Term → Option Bool) (rs ss : List (Term × Bool)) → rs ≡ ss → (i : ℕ) (d : Term × Bool) → i < length rs →
    ((t : Term) → old t ≡ kind_of (take i ss) t) →
    ((t : Term) → new t ≡ cond (same_term (get_or rs i d).0 t) (Some (unwrap_or (old (get_or rs i d).0) false || (get_or rs i d).1)) (old t)) →
    (t : Term) → new t ≡ kind_of (take (i + 1) ss) t
kinds_grow old new rs ss e i d l before after t =
    after t
    ∙ ap₂ (λ (x y : Option Bool). cond (same_term (get_or rs i d).0 t) (Some (unwrap_or x false || (get_or rs i d).1)) y) (before (get_or rs i d).0) (before t)
    ∙ ap (λ (l : List (Term × Bool)). cond (same_term (get_or rs i d).0 t) (Some (unwrap_or (kind_of (take i l) (get_or rs i d).0) false || (get_or rs i d).1)) (kind_of (take i l) t)) (sym e)
    ∙ sym (kind_push (take i rs) (get_or rs i d) t)
    ∙ ap (λ (l : List (Term × Bool)). kind_of l t) (sym (take-suc rs i d l))
    ∙ ap₂ (λ (k : ℕ) (l : List (Term × Bool)). kind_of (take k l) t) (let plus : suc i ≡ i + 1 = omega arith in plus) e
