-- An orderly graph's names and triples fit.
use Rattle.std.proofs.Common.{ℕ, List, [], ◌∷◌, ◌≡◌, ◌&&◌, not, Bool, true, false, length, refl, ap₂, subst, append-nil}
use Rattle.std.proofs.lemmas.Bool.{lt-ltb}
use Rattle.std.proofs.lemmas.List.Sums.{AllPass-from_list_all}
use Rattle.std.specs.List.{list_all}
use Rattle.rdf_terms.specs.Naming.{NameLists}
use Rattle.rdf_terms.specs.Fitting.{is_iri, is_literal, is_among, fits}
use Rattle.rdf_terms.specs.declared.terms.Term.{Term}
use Rattle.rdf_terms.specs.declared.terms.Term.TheVariants.{Iri, Blank, Lit}
use Rattle.rdf_terms.specs.declared.terms.Triple.{Triple}
use Rattle.reading_laws.specs.Meaning.{Graph}
use Rattle.reading_laws.specs.Numbering.{nothing, AreNumbered, AreOrderly, terms}
use Rattle.reading_laws.proofs.Numbers.{Known, AllKnown, numbered_known}
use Rattle.reading_laws.proofs.Graphs.{counts, counts_of, AreNodes, Orderly}

among : (names : NameLists) (n : ℕ) (t : Term) → Known (counts_of names n) t → is_among names t ≡ true
among names n (Iri m) h = lt-ltb m (length names.iris) h
among names n (Blank m) h = refl
among names n (Lit m) h = lt-ltb m (length names.literals) h

five : (a b c d e : Bool) → a ≡ false → b ≡ true → c ≡ true → d ≡ true → e ≡ true → (not a && b && c && d && e) ≡ true
five a b c d e f g h i j = rw (f, g, h, i, j) refl

fit_all : (names : NameLists) (n : ℕ) (ts : List Triple) → AreNodes ts → AllKnown (counts_of names n) (terms ts) → list_all (fits names) ts ≡ true
fit_all names n [] a k = refl
fit_all names n (t ∷ ts) a k = ap₂ (λ x y. x && y)
    (five (is_literal t.s) (is_iri t.p) (is_among names t.s) (is_among names t.p) (is_among names t.o) a.0 a.1 (among names n t.s k.0) (among names n t.p k.1.0) (among names n t.o k.1.1.0)) (fit_all names n ts a.2 k.1.1.1)

pub are_orderly : (g : Graph) → Orderly g [] [] → AreOrderly (record { names = g.store.names; triples = g.store.triples })
are_orderly g o =
    let numbered : AreNumbered nothing (terms g.store.triples) (counts g) = subst (λ ts. AreNumbered nothing ts (counts g)) (append-nil (terms g.store.triples)) o.numbered in
    record {
      fit = AllPass-from_list_all (fits g.store.names) g.store.triples (fit_all g.store.names g.blanks.count g.store.triples o.nodes (numbered_known nothing (terms g.store.triples) (counts g) numbered));
      blanks = g.blanks.count;
      numbered = numbered;
      iris = o.iris;
      literals = o.literals;
      triples = o.triples;
      few = o.few;
      short = o.short;
    }
