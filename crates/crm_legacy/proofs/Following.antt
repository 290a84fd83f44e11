-- Statements added one block after the other.
use Rattle.std.proofs.Common.{◌≡◌, ℕ, ◌+◌, List, [], ◌∷◌, ◌++◌, take, drop, Ok, Err, Some, None, refl, ap, sym, subst, ◌∙◌, append-nil}
use Rattle.std.specs.Prelude.{Result, slice_get, map, flat_map}
use Rattle.std.proofs.lemmas.List.{map-append, take-append-drop}
use Rattle.std.proofs.lemmas.Grind.{flat_map-append}
use Rattle.crm_outside.proofs.Lists.{take_one, drop_one}
use Rattle.rdf_terms.specs.declared.terms.Refusal.{Refusal}
use Rattle.rdf_terms.specs.declared.terms.Triple.{Triple}
use Rattle.rdf_terms.specs.declared.triples.Records.{Records}
use Rattle.rdf_terms.specs.Naming.{NameLists}
use Rattle.crm_legacy.specs.declared.gathering.ModernFault.{ModernFault}
use Rattle.crm_legacy.specs.declared.gathering.ModernFault.TheVariants.{Refused, Memory}
use Rattle.crm_legacy.specs.Causes.{IsCause}
use Rattle.crm_legacy.specs.Legacies.{legacy_of}
use Rattle.crm_legacy.specs.Modern.{Statement, iri_text, with_predicate, said, said_by, with_statement, with_statements, next_by}

-- what a triple says whose predicate is no legacy property
pub said_plainly : (names : NameLists) (t : Triple) (iri : List ℕ) → iri ≡ iri_text names t.p → None ≡ legacy_of iri → said names t ≡ with_predicate t iri ∷ []
said_plainly names t iri e n = ap (λ (i : List ℕ). said_by t i (legacy_of i)) (sym e) ∙ ap (said_by t iri) (sym n)

module _ (old : NameLists) where
  step : (xs ys : List Statement) → ((q : Records) → with_statements old (xs ++ ys) q ≡ next_by (with_statements old ys) (with_statements old xs q)) →
      (s : Result Records Refusal) → next_by (with_statements old (xs ++ ys)) s ≡ next_by (with_statements old ys) (next_by (with_statements old xs) s)
  step xs ys h (Ok q) = h q
  step xs ys h (Err e) = refl

  followed : (xs ys : List Statement) (r : Records) → with_statements old (xs ++ ys) r ≡ next_by (with_statements old ys) (with_statements old xs r)
  followed [] ys r = refl
  followed (x ∷ xs) ys r = step xs ys (followed xs ys) (with_statement old r x)

  same : (s : Result Records Refusal) → next_by (λ (q : Records). Ok q) s ≡ s
  same (Ok q) = refl
  same (Err e) = refl

  pub alone : (r : Records) (x : Statement) → with_statements old (x ∷ []) r ≡ with_statement old r x
  alone r x = same (with_statement old r x)

  pub cause_alone : (r : Records) (x : Statement) (f : ModernFault) → IsCause (with_statement old r x) f → IsCause (with_statements old (x ∷ []) r) f
  cause_alone r x f h = subst (λ (s : Result Records Refusal). IsCause s f) (sym (alone r x)) h

  -- a block behind others that were added
  pub after : (xs ys : List Statement) (r q : Records) → with_statements old xs r ≡ Ok q → with_statements old (xs ++ ys) r ≡ with_statements old ys q
  after xs ys r q h = followed xs ys r ∙ ap (next_by (with_statements old ys)) h

  -- a block that is refused refuses the whole
  pub refused : (xs ys zs : List Statement) (r q : Records) (f : ModernFault) → with_statements old xs r ≡ Ok q → IsCause (with_statements old ys q) f →
      IsCause (with_statements old (xs ++ (ys ++ zs)) r) f
  refused xs ys zs r q Memory h k = tt
  refused xs ys zs r q (Refused e) h k = after xs (ys ++ zs) r q h ∙ followed ys zs q ∙ ap (next_by (with_statements old zs)) k

  -- blocks of the items of a list, in a loop over them
  module _ {X : Type 0} (block : X → List Statement) (xs : List X) (k : ℕ) (x : X) (here : Some x ≡ slice_get xs k) (r q : Records)
      (done : with_statements old (flat_map block (take k xs)) r ≡ Ok q) where
    blocks_one : flat_map block (take (k + 1) xs) ≡ flat_map block (take k xs) ++ block x
    blocks_one =
        rw (take_one xs k x here, flat_map-append block (take k xs) (x ∷ []))
        (ap (λ t. flat_map block (take k xs) ++ t) (append-nil (block x)))

    blocks_whole : flat_map block (take k xs) ++ (block x ++ flat_map block (drop (k + 1) xs)) ≡ flat_map block xs
    blocks_whole =
        let rest : flat_map block (drop k xs) ≡ block x ++ flat_map block (drop (k + 1) xs) = rw (drop_one xs k x here) refl in
        ap (λ t. flat_map block (take k xs) ++ t) (sym rest) ∙ sym (flat_map-append block (take k xs) (drop k xs)) ∙ ap (flat_map block) (take-append-drop k xs)

    pub next_block : (m : Records) → with_statements old (block x) q ≡ Ok m → with_statements old (flat_map block (take (k + 1) xs)) r ≡ Ok m
    next_block m h = rw blocks_one (after (flat_map block (take k xs)) (block x) r q done ∙ h)

    pub refused_block : (f : ModernFault) → IsCause (with_statements old (block x) q) f → IsCause (with_statements old (flat_map block xs) r) f
    refused_block f h = rw (← blocks_whole) (refused (flat_map block (take k xs)) (block x) (flat_map block (drop (k + 1) xs)) r q f done h)

  -- the same for single statements
  module _ {X : Type 0} (says : X → Statement) (xs : List X) (k : ℕ) (x : X) (here : Some x ≡ slice_get xs k) (r q : Records)
      (done : with_statements old (map says (take k xs)) r ≡ Ok q) where
    pub next_said : (m : Records) → with_statement old q (says x) ≡ Ok m → with_statements old (map says (take (k + 1) xs)) r ≡ Ok m
    next_said m h =
        rw (take_one xs k x here, map-append says (take k xs) (x ∷ []))
        (after (map says (take k xs)) (says x ∷ []) r q done ∙ alone q (says x) ∙ h)

    pub refused_said : (f : ModernFault) → IsCause (with_statement old q (says x)) f → IsCause (with_statements old (map says xs) r) f
    refused_said f h =
        rw (← take-append-drop k xs, drop_one xs k x here, map-append says (take k xs) (x ∷ drop (k + 1) xs))
        (refused (map says (take k xs)) (says x ∷ []) (map says (drop (k + 1) xs)) r q f done (rw (alone q (says x)) h))
