-- The limit that a graph keeps is that of the first statement that passes one.
use Rattle.std.proofs.Common.{ℕ, List, [], ◌∷◌, ◌++◌, ◌≡◌, ◌≤◌, ◌⊎◌, length, refl, ap, ap₂, sym, ◌∙◌, subst, arith, inl, inr, append_assoc, length-append}
use Rattle.std.proofs.lemmas.Bool.{cond_both}
use Rattle.std.specs.Prelude.{Option, None, Some}
use Rattle.rdf_terms.specs.declared.terms.Code.{Code}
use Rattle.rdf_terms.specs.declared.terms.Refusal.{Refusal}
use Rattle.rdf_terms.specs.declared.terms.Triple.{Triple}
use Rattle.rdf_terms.specs.declared.triples.Records.{Records}
use Rattle.rdf_terms.specs.Naming.{name_count}
use Rattle.rdf_terms.specs.Terms.{is_held}
use Rattle.rdf_terms.specs.Terms as held
use Rattle.turtle_grammar.specs.Grammar.{Document}
use Rattle.turtle_environments.specs.Storing.{StoreState}
use Rattle.reading_laws.specs.Meaning.{document_says, no_graph}
use Rattle.turtle_reader.specs.Answers.{records_of, environment}
use Rattle.reading_laws.specs.Telling.{Statement, untold, document_tells}
use Rattle.reading_laws.specs.Telling.Thing.{Iri}
use Rattle.reading_laws.specs.Counting.{naming, number, names_with, with_statement, no_records, all_with, records, IsSmall, Passes, IsLimit}
use Rattle.reading_laws.specs.Refusal as refusal
use Rattle.reading_laws.proofs.Told.{Fair, Limited, small_of, naming_count}
use Rattle.reading_laws.proofs.Tells.{told}

abbrev pub said : Option (List ℕ) → Document → StoreState
said base d = (document_says d (environment base) no_graph).store

-- more statements have no fewer names and triples
record Fewer (q r : Records) : Type 0 where
  names : name_count q.names ≤ name_count r.names
  triples : length q.triples ≤ length r.triples

with_fewer : (r : Records) (x : Statement) → Fewer r (with_statement r x)
with_fewer r x = record {
  names = omega (arith, naming_count r.names x.s, naming_count (naming r.names x.s) (Iri x.p), naming_count (naming (naming r.names x.s) (Iri x.p)) x.o);
  triples = grows r.triples (record { s = number (names_with r.names x) x.s; p = number (names_with r.names x) (Iri x.p); o = number (names_with r.names x) x.o; at = x.at });
}
  where
    grows : (ts : List Triple) (t : Triple) → length ts ≤ length (held.with_triple ts t)
    grows ts t = cond_both (is_held ts t) ts (ts ++ t ∷ []) (λ us. length ts ≤ length us) (λ _. omega arith) (λ _. omega (arith, length-append ts (t ∷ [])))

all_fewer : (r : Records) (xs : List Statement) → Fewer r (all_with r xs)
all_fewer r [] = record { names = omega arith; triples = omega arith }
all_fewer r (x ∷ xs) =
    let a = with_fewer r x in
    let b = all_fewer (with_statement r x) xs in
    record { names = omega (arith, a.names, b.names); triples = omega (arith, a.triples, b.triples) }

all_append : (r : Records) (xs ys : List Statement) → all_with r (xs ++ ys) ≡ all_with (all_with r xs) ys
all_append r [] ys = refl
all_append r (x ∷ xs) ys = all_append (with_statement r x) xs ys

-- behind a limit nothing is small
pub not_small : (done ys : List Statement) (x : Statement) (code : Code) → Passes (records (done ++ x ∷ [])) code → IsSmall (records (done ++ x ∷ ys)) → ⊥
not_small done ys x code passes small = by passes
  where
    fewer : Fewer (records (done ++ x ∷ [])) (records (done ++ x ∷ ys))
    fewer = subst (Fewer (records (done ++ x ∷ []))) (sym (all_append no_records (done ++ x ∷ []) ys) ∙ ap records (append_assoc done (x ∷ []) ys)) (all_fewer (records (done ++ x ∷ [])) ys)

    by : Passes (records (done ++ x ∷ [])) code → ⊥
    by (inl p) = omega (arith, p.1, fewer.names, small.0)
    by (inr p) = omega (arith, p.2, fewer.triples, small.1)

-- two places in a list
abbrev Places : List Statement → Statement → List Statement → Statement → Type 0
Places a x b y = ((a ≡ b) × (x ≡ y)) ⊎ (((ys : List Statement) × (b ≡ a ++ x ∷ ys)) ⊎ ((ys : List Statement) × (a ≡ b ++ y ∷ ys)))

places : (a b : List Statement) (x y : Statement) (r s : List Statement) → a ++ x ∷ r ≡ b ++ y ∷ s → Places a x b y
places [] [] x y r s e = inl (refl, cc e)
places [] (c ∷ b) x y r s e = let f : x ≡ c = cc e in inr (inl (b, ap (λ z. z ∷ b) (sym f)))
places (c ∷ a) [] x y r s e = let f : c ≡ y = cc e in inr (inr (a, ap (λ z. z ∷ a) f))
places (c ∷ a) (d ∷ b) x y r s e =
    let f : c ≡ d = cc e in
    let g : a ++ x ∷ r ≡ b ++ y ∷ s = cc e in
    by f (places a b x y r s g)
  where
    by : c ≡ d → Places a x b y → Places (c ∷ a) x (d ∷ b) y
    by f (inl h) = inl (ap₂ (λ z zs. z ∷ zs) f h.0, h.1)
    by f (inr (inl h)) = inr (inl (h.0, ap₂ (λ z zs. z ∷ zs) (sym f) h.1))
    by f (inr (inr h)) = inr (inr (h.0, ap₂ (λ z zs. z ∷ zs) f h.1))

passes_one : (r : Records) (c e : Code) → Passes r c → Passes r e → c ≡ e
passes_one r c e (inl a) (inl b) = a.0 ∙ sym b.0
passes_one r c e (inl a) (inr b) = absurd (omega (arith, a.1, b.1))
passes_one r c e (inr a) (inl b) = absurd (omega (arith, a.1, b.1))
passes_one r c e (inr a) (inr b) = a.0 ∙ sym b.0

pub limit_one : (xs : List Statement) (c e : Code) (at to : ℕ) → IsLimit xs c at → IsLimit xs e to → (c ≡ e) × (at ≡ to)
limit_one xs c e at to (a, x, r, f, small, passes, p) (b, y, s, g, tiny, goes, q) = by (places a b x y r s (sym f ∙ g))
  where
    by : Places a x b y → (c ≡ e) × (at ≡ to)
    by (inl h) = (passes_one (records (b ++ y ∷ [])) c e (subst (λ z. Passes (records z) c) (ap₂ (λ u v. u ++ v ∷ []) h.0 h.1) passes) goes, p ∙ ap (λ z. z.at) h.1 ∙ sym q)
    by (inr (inl h)) = absurd (not_small a h.0 x c passes (subst (λ z. IsSmall (records z)) h.1 tiny))
    by (inr (inr h)) = absurd (not_small b h.0 y e goes (subst (λ z. IsSmall (records z)) h.1 small))

pub some_refusal : (a b : Refusal) → Some a ≡ Some b → a ≡ b
some_refusal a b e = cc e

pub none_some : (a : Refusal) → None ≡ Some a → ⊥
none_some a e = cc e

pub limit_told : (base : Option (List ℕ)) (d : Document) (code : Code) (at : ℕ) → (said base d).limit ≡ Some (record { code = code; at = at }) → IsLimit (refusal.told base d) code at
limit_told base d code at e = by (told d (environment base)).held
  where
    by : Limited (document_says d (environment base) no_graph) (document_tells d (environment base) untold) ⊎ Fair (document_says d (environment base) no_graph) (document_tells d (environment base) untold) [] [] → IsLimit (refusal.told base d) code at
    by (inl l) =
        let same = some_refusal (record { code = l.code; at = l.at }) (record { code = code; at = at }) (sym l.is ∙ e) in
        subst (λ r. IsLimit (refusal.told base d) r.code r.at) same l.limit
    by (inr f) = absurd (none_some (record { code = code; at = at }) (sym f.fine ∙ e))

pub limit_stands : (base : Option (List ℕ)) (d : Document) (code : Code) (at : ℕ) → IsLimit (refusal.told base d) code at → (said base d).limit ≡ Some (record { code = code; at = at })
limit_stands base d code at h = by (told d (environment base)).held h
  where
    by : Limited (document_says d (environment base) no_graph) (document_tells d (environment base) untold) ⊎ Fair (document_says d (environment base) no_graph) (document_tells d (environment base) untold) [] []
        → IsLimit (refusal.told base d) code at → (said base d).limit ≡ Some (record { code = code; at = at })
    by (inl l) h =
        let one = limit_one (refusal.told base d) l.code code l.at at l.limit h in
        l.is ∙ ap₂ (λ x y. Some (record { code = x; at = y })) one.0 one.1
    by (inr f) (a, x, r, e, small, passes, p) =
        absurd (not_small a r x code passes (subst (λ z. IsSmall (records z)) e (small_of (document_says d (environment base) no_graph) (document_tells d (environment base) untold) [] [] f)))

pub small_told : (base : Option (List ℕ)) (d : Document) → (said base d).limit ≡ None → IsSmall (records (refusal.told base d)) × (records_of (said base d) ≡ records (refusal.told base d))
small_told base d e = by (told d (environment base)).held
  where
    by : Limited (document_says d (environment base) no_graph) (document_tells d (environment base) untold) ⊎ Fair (document_says d (environment base) no_graph) (document_tells d (environment base) untold) [] []
        → IsSmall (records (refusal.told base d)) × (records_of (said base d) ≡ records (refusal.told base d))
    by (inl l) = absurd (none_some (record { code = l.code; at = l.at }) (sym e ∙ l.is))
    by (inr f) = (
      small_of (document_says d (environment base) no_graph) (document_tells d (environment base) untold) [] [] f,
      ap₂ (λ x y. record { names = x; triples = y }) f.names f.triples,
    )

pub small_stands : (base : Option (List ℕ)) (d : Document) → IsSmall (records (refusal.told base d)) → (said base d).limit ≡ None
small_stands base d small = by (told d (environment base)).held
  where
    by : Limited (document_says d (environment base) no_graph) (document_tells d (environment base) untold) ⊎ Fair (document_says d (environment base) no_graph) (document_tells d (environment base) untold) [] [] → (said base d).limit ≡ None
    by (inl l) = over l.limit
      where
        over : IsLimit (refusal.told base d) l.code l.at → (said base d).limit ≡ None
        over (a, x, r, e, tiny, passes, p) = absurd (not_small a r x l.code passes (subst (λ z. IsSmall (records z)) e small))
    by (inr f) = f.fine
