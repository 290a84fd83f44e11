-- Triples, read from the entries of a map.
use Rattle.std.proofs.Common.{◌≡◌, ℕ, Bool, true, false, List, [], ◌∷◌, ◌++◌, map, refl, sym, ◌∙◌, ◌&&◌, ◌||◌, cond, Option, None, Some, is_some}
use Rattle.std.specs.Map.{lookup, keys_of}
use Rattle.std.specs.List.{IsDistinct}
use Rattle.rdf_terms.proofs.Numbered.{map_push, distinct_map, distinct_unmap}
use Rattle.rdf_terms.specs.declared.terms.Term.{Term}
use Rattle.rdf_terms.specs.declared.terms.Triple.{Triple}
use Rattle.rdf_terms.specs.contracts.terms.TermPartialEq.TheImpl.{ghosts}
use Rattle.rdf_terms.specs.Terms.{same_terms, is_held, triple_of, with_triple}
use Rattle.rdf_terms.proofs.TermLemmas.{same_term_is}

-- the key of an entry is compared as its triple is
abbrev pub same_key : Triple → Term × Term × Term → Bool
same_key t y = (ghosts.eq t.s y.0 && ghosts.eq t.p y.1) && ghosts.eq t.o y.2

-- the derived `==` of keys
abbrev pub same_key_eq : Term × Term × Term → Term × Term × Term → Bool
same_key_eq x y = (ghosts.eq x.0 y.0 && ghosts.eq x.1 y.1) && ghosts.eq x.2 y.2

same_key_is : (t : Triple) (e : (Term × Term × Term) × ℕ) → same_key t e.0 ≡ same_terms t (triple_of e)
same_key_is t e = simp same_term_is

found_first : (b d : Bool) (v : ℕ) (x : Option ℕ) (y : Bool) → b ≡ d → is_some x ≡ y → is_some (cond b (Some v) x) ≡ (d || y)
found_first true true v x y e h = refl
found_first true false v x y e h = cc
found_first false true v x y e h = cc
found_first false false v x y e h = h

-- whether an entry has the key is whether the triple is held
pub held_lookup : (t : Triple) (es : List ((Term × Term × Term) × ℕ)) → is_some (lookup (same_key t) es) ≡ is_held (map triple_of es) t
held_lookup t [] = refl
held_lookup t (e ∷ es) = found_first (same_key t e.0) _ e.1 (lookup (same_key t) es) _ (same_key_is t e) (held_lookup t es)

-- what a look-up of the key says of the triples
pub held_by_key : (t : Triple) (es : List ((Term × Term × Term) × ℕ)) (triples : List Triple) (r b : Bool)
    → map triple_of es ≡ triples → r ≡ is_some (lookup (same_key t) es) → r ≡ b → is_held triples t ≡ b
held_by_key t es triples r b view found is = rw (← view) (sym (held_lookup t es) ∙ sym found ∙ is)

pub none_from_absent : {X : Type 0} (o : Option X) → is_some o ≡ false → o ≡ None
none_from_absent None h = refl
none_from_absent (Some x) h = cc

-- a new entry goes last
pub added_last : (t : Triple) (es new : List ((Term × Term × Term) × ℕ)) (triples : List Triple)
    → map triple_of es ≡ triples → is_held triples t ≡ false → new ≡ es ++ ((t.s, t.p, t.o), t.at) ∷ [] → map triple_of new ≡ with_triple triples t
added_last t es new triples view absent pushed = rw (absent, pushed, ← view) (map_push triple_of es _)

-- triples whose keys have no repeats have none
pub distinct_triples : (es : List ((Term × Term × Term) × ℕ)) → IsDistinct same_key_eq (keys_of es) → IsDistinct same_terms (map triple_of es)
distinct_triples es h =
    distinct_map same_terms (λ a b. same_key_eq a.0 b.0) triple_of (λ a b. simp same_term_is) es (distinct_unmap same_key_eq (λ e. e.0) es h)
