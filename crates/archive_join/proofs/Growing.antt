-- Names and triples only grow.
use Rattle.std.proofs.Common.{◌≡◌, ◌≤◌, inl, inr, Bool, true, false, List, [], ◌∷◌, ◌++◌, length, length-append, refl, ap, subst, ◌∙◌, arith}
use Rattle.rdf_terms.specs.declared.terms.Refusal.{Refusal}
use Rattle.rdf_terms.specs.declared.terms.Triple.{Triple}
use Rattle.rdf_terms.specs.declared.triples.Records.{Records}
use Rattle.rdf_terms.specs.Naming.{NameLists, name_count, has_iri, has_literal}
use Rattle.rdf_terms.specs.Terms.{is_held, with_triple, triple_of}
use Rattle.joined_names.specs.Values.{Value, ValueTriple, names_with, names_with_three, terms_of, with_values, with_all}
use Rattle.archive_join.specs.Limits.{AreFew, IsFirstPast}
use Rattle.joined_names.specs.Values.Value.{Iri, Blank, Lit}
use Rattle.joined_names.proofs.Renumbering.{with_new}

longer : {X : Type 0} (b : Bool) (xs : List X) (y : X) → length xs ≤ length (with_new b xs y)
longer true xs y = omega arith
longer false xs y = omega (arith, length-append xs (y ∷ []))

more_names : (names : NameLists) (v : Value) → name_count names ≤ name_count (names_with names v)
more_names names (Iri text) = omega (arith, longer (has_iri names text) names.iris text)
more_names names (Blank n) = omega arith
more_names names (Lit literal) = omega (arith, longer (has_literal names literal) names.literals literal)

three_names : (names : NameLists) (x : ValueTriple) → name_count names ≤ name_count (names_with_three names x)
three_names names x = omega (arith, more_names names x.s, more_names (names_with names x.s) x.p, more_names (names_with (names_with names x.s) x.p) x.o)

more_triples : (triples : List Triple) (t : Triple) → length triples ≤ length (with_triple triples t)
more_triples triples t = longer (is_held triples t) triples t

pub record IsBelow (r q : Records) : Type 0 where
  pub names : name_count r.names ≤ name_count q.names
  pub triples : length r.triples ≤ length q.triples

pub all_grow : (r : Records) (xs : List ValueTriple) → IsBelow r (with_all r xs)
unfolding with_all
all_grow r [] = record { names = omega arith; triples = omega arith }
all_grow r (x ∷ xs) =
    let rest = all_grow (with_values r x) xs in
    record {
      names = omega (arith, three_names r.names x, rest.names);
      triples = omega (arith, more_triples r.triples (triple_of (terms_of r.names x, x.at)), rest.triples);
    }

with_all_append : (r : Records) (xs ys : List ValueTriple) → with_all r (xs ++ ys) ≡ with_all (with_all r xs) ys
unfolding with_all
with_all_append r [] ys = refl
with_all_append r (x ∷ xs) ys = with_all_append (with_values r x) xs ys

pub with_all_cons : (r : Records) (x : ValueTriple) (xs : List ValueTriple) → with_all r (x ∷ xs) ≡ with_all (with_values r x) xs
unfolding with_all
with_all_cons r x xs = refl

pub not_refused : (start : Records) (xs : List ValueTriple) (f : Refusal) → AreFew (with_all start xs) → IsFirstPast start xs f → ⊥
not_refused start xs f few h =
    let all : with_all start xs ≡ with_all (with_values (with_all start h.done) h.first) h.rest =
    ap (with_all start) h.all ∙ with_all_append start h.done (h.first ∷ h.rest) ∙ with_all_cons (with_all start h.done) h.first h.rest in
    let small : AreFew (with_all (with_values (with_all start h.done) h.first) h.rest) = subst AreFew all few in
    let below = all_grow (with_values (with_all start h.done) h.first) h.rest in
    elim h.past [
      | inl p ↦ absurd (omega (arith, p.1, below.names, small.names))
      | inr p ↦ absurd (omega (arith, p.2, below.triples, small.triples))
    ]
