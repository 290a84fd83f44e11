-- What says the same, seen from one side.
use Rattle.std.proofs.Common.{◌≡◌, Bool, true, false, List, refl, sym, ap, ◌∙◌}
use Rattle.std.specs.List.{IsDistinct}
use Rattle.rdf_terms.specs.declared.terms.Term.{Term}
use Rattle.rdf_terms.specs.declared.terms.Triple.{Triple}
use Rattle.rdf_terms.specs.Terms.{same_term, same_terms, is_held}
use Rattle.rdf_terms.specs.Naming.{NameLists}
use Rattle.rdf_terms.specs.Fitting.{is_literal, iri_of, literal_of}
use Rattle.rdf_terms.proofs.TermLemmas.{same_term-true, same_term-refl}
use Rattle.record_laws.specs.Renaming.{IsRenaming, IsRenamed, renamed, SayTheSame}

-- no two terms become one
pub record Renames (names other : NameLists) (m : Term → Term) : Type 0 where
  pub iris : (t : Term) → iri_of other (m t) ≡ iri_of names t
  pub literals : (t : Term) → literal_of other (m t) ≡ literal_of names t
  pub sorts : (t : Term) → is_literal (m t) ≡ is_literal t
  pub apart : (t u : Term) → same_term (m t) (m u) ≡ same_term t u

pub record OneWay (names : NameLists) (triples : List Triple) (other : NameLists) (others : List Triple) (m : Term → Term) : Type 0 where
  pub renaming : Renames names other m
  pub distinct : IsDistinct same_terms triples
  pub others_distinct : IsDistinct same_terms others
  pub there : (t : Triple) → is_held triples t ≡ true → is_held others (renamed m t) ≡ true
  pub back : (u : Triple) → is_held others u ≡ true → (t : Triple) × (is_held triples t ≡ true) × IsRenamed m t u

-- two tests that imply each other
pub same_bool : (a b : Bool) → (a ≡ true → b ≡ true) → (b ≡ true → a ≡ true) → a ≡ b
same_bool true true f g = refl
same_bool true false f g = sym (f refl)
same_bool false true f g = g refl
same_bool false false f g = refl

module _ (names other : NameLists) (triples others : List Triple) (m back : Term → Term) where
  same_apart : IsRenaming names other m back → (t u : Term) → same_term (m t) (m u) ≡ same_term t u
  same_apart r t u = same_bool (same_term (m t) (m u)) (same_term t u)
      (λ e. ap (same_term t) (sym (r.forth_and_back u) ∙ ap back (sym (same_term-true (m t) (m u) e)) ∙ r.forth_and_back t) ∙ same_term-refl t)
      (λ e. ap (same_term (m t)) (ap m (sym (same_term-true t u e))) ∙ same_term-refl (m t))

  pub one_way : SayTheSame names triples other others m back → OneWay names triples other others m
  one_way s = record {
    renaming = record { iris = s.renaming.iris; literals = s.renaming.literals; sorts = s.renaming.sorts; apart = same_apart s.renaming };
    distinct = s.distinct;
    others_distinct = s.others_distinct;
    there = s.there;
    back = λ u h. (renamed back u, s.here u h, record { s = sym (s.renaming.back_and_forth u.s); p = sym (s.renaming.back_and_forth u.p); o = sym (s.renaming.back_and_forth u.o) });
  }
