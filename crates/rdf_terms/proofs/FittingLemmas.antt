-- Triples go on fitting names that grow.
use Rattle.std.proofs.Common.{◌≡◌, ◌≤◌, Bool, true, false, ◌&&◌, not, List, length, slice_index_or, arith, refl, true≢false, sym}
use Rattle.rdf_terms.specs.declared.terms.Term.{Term}
use Rattle.rdf_terms.specs.declared.terms.Term.TheVariants.{Iri, Blank, Lit}
use Rattle.rdf_terms.specs.declared.terms.Triple.{Triple}
use Rattle.rdf_terms.specs.Naming.{NameLists}
use Rattle.rdf_terms.specs.Fitting.{is_among, fits, AllFit, is_literal, is_iri}

pub among_grown : (old new : NameLists) → length old.iris ≤ length new.iris → length old.literals ≤ length new.literals
    → (t : Term) → is_among old t ≡ true → is_among new t ≡ true
among_grown old new i l (Iri n) h = grind (arith, i, h)
among_grown old new i l (Blank n) h = refl
among_grown old new i l (Lit n) h = grind (arith, l, h)

kept_and : (a b c d e c' d' e' : Bool) → (c ≡ true → c' ≡ true) → (d ≡ true → d' ≡ true) → (e ≡ true → e' ≡ true)
    → (a && b && c && d && e) ≡ true → (a && b && c' && d' && e') ≡ true
kept_and true true true true true c' d' e' f g h p = rw (f refl, g refl, h refl) refl
kept_and true true true true false c' d' e' f g h p = absurd (true≢false (sym p))
kept_and true true true false e c' d' e' f g h p = absurd (true≢false (sym p))
kept_and true true false d e c' d' e' f g h p = absurd (true≢false (sym p))
kept_and true false c d e c' d' e' f g h p = absurd (true≢false (sym p))
kept_and false b c d e c' d' e' f g h p = absurd (true≢false (sym p))

pub fits_grown : (old new : NameLists) → length old.iris ≤ length new.iris → length old.literals ≤ length new.literals
    → (t : Triple) → fits old t ≡ true → fits new t ≡ true
fits_grown old new i l t h =
    kept_and (not (is_literal t.s)) (is_iri t.p) (is_among old t.s) (is_among old t.p) (is_among old t.o) _ _ _
    (among_grown old new i l t.s) (among_grown old new i l t.p) (among_grown old new i l t.o) h

pub all_fit_grown : (old new : NameLists) → length old.iris ≤ length new.iris → length old.literals ≤ length new.literals
    → (triples : List Triple) → AllFit old triples → AllFit new triples
all_fit_grown old new i l triples h = λ k d lt. fits_grown old new i l (slice_index_or triples k d) (h k d lt)
