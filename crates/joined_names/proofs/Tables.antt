-- The table of a file's names as names come.
use Rattle.std.proofs.Common.{◌≡◌, ◌≢◌, ℕ, ◌<◌, ◌≤◌, ◌⊎◌, inl, inr, Bool, true, false, List, [], ◌∷◌, length, Option, Some, None, refl, sym, ap, subst, ◌∙◌, arith, get_or, set, replicate, length-set, length-append}
use Rattle.std.specs.Prelude.{slice_get, slice_index_or, nat_eq}
use Rattle.std.specs.List.{list_any}
use Rattle.std.specs.Str.{bytes_eq}
use Rattle.std.proofs.lemmas.Option.{slice_get_within, slice_get-get_or, get_or_from_slice_get, slice_get_read}
use Rattle.std.proofs.lemmas.List.{get_or-set_same, get_or-set_other, get_or-replicate, length-replicate}
use Rattle.std.proofs.lemmas.Bool.Decides.{nat_tests}
use Rattle.std.proofs.lemmas.Slice.Eq.{bytes_eq-Decides}
use Rattle.rdf_terms.specs.declared.terms.Literal.{Literal}
use Rattle.rdf_terms.specs.declared.terms.Term.{Term}
use Rattle.rdf_terms.specs.declared.terms.Term.TheVariants as term
use Rattle.rdf_terms.specs.Naming.{NameLists, same_literal, has_iri, iri_number, with_iri, has_literal, literal_number, with_literal, name_count}
use Rattle.joined_names.specs.declared.table.NameTable.{NameTable}
use Rattle.joined_names.specs.Named.{IsTable}
use Rattle.joined_names.proofs.Renumbering.{stays, comes}

-- what stands in a list behind a write: the new element, or one that stood there
at_set : {X : Type 0} (xs : List X) (n k : ℕ) (v x : X) → n < length xs → slice_get (set xs n v) k ≡ Some x → ((k ≡ n) × (x ≡ v)) ⊎ (slice_get xs k ≡ Some x)
at_set {X} xs n k v x lt is =
    let in_set : k < length (set xs n v) = slice_get_within (set xs n v) k x is in
    let inside : k < length xs = omega (arith, in_set, length-set xs n v) in
    let got : get_or (set xs n v) k x ≡ x = get_or_from_slice_get (set xs n v) k x x is in
    by (nat_eq k n) refl inside got
  where
    by : (b : Bool) → nat_eq k n ≡ b → k < length xs → get_or (set xs n v) k x ≡ x → ((k ≡ n) × (x ≡ v)) ⊎ (slice_get xs k ≡ Some x)
    by true e inside got =
        let same : k ≡ n = grind (arith, nat_tests, e) in
        inl (same, sym got ∙ ap (λ (i : ℕ). get_or (set xs n v) i x) same ∙ get_or-set_same xs n v x lt)
    by false e inside got =
        let other : k ≢ n = grind (arith, nat_tests, e) in
        inr (slice_get-get_or xs k x inside ∙ ap (λ (y : X). Some y) (sym (get_or-set_other xs n k v x other) ∙ got))

some_same : {X : Type 0} (o : Option X) (x y : X) → o ≡ Some x → o ≡ Some y → x ≡ y
some_same o x y p q = cc

bytes_same : (xs : List ℕ) → bytes_eq xs xs ≡ true
bytes_same xs = (bytes_eq-Decides xs xs).1 refl

literal_same : (v : Literal) → same_literal v v ≡ true
literal_same v = rw (bytes_same v.lexical, bytes_same v.datatype, bytes_same v.tag) refl

module _ (file joined : NameLists) (table next : NameTable) (is : IsTable file joined table) where
  -- an IRI came
  pub iri_came : (n : ℕ) (text : List ℕ) (t : Term) → slice_get file.iris n ≡ Some text → t ≡ term.Iri (iri_number joined text)
      → next.iris.items ≡ set table.iris.items n (Some t) → next.literals.items ≡ table.literals.items → IsTable file (with_iri joined text) next
  iri_came n text t named numbered wrote kept = record {
    iris = λ k u other at of. by k u other of (at_set table.iris.items n k (Some t) (Some u) inside (ap (λ (xs : List (Option Term)). slice_get xs k) (sym wrote) ∙ at));
    literals = λ k u other at of. is.literals k u other (ap (λ (xs : List (Option Term)). slice_get xs k) (sym kept) ∙ at) of;
    iri_room = omega (arith, is.iri_room, ap (λ (xs : List (Option Term)). length xs) wrote, length-set table.iris.items n (Some t));
    literal_room = omega (arith, is.literal_room, ap (λ (xs : List (Option Term)). length xs) kept);
  }
    where
      inside : n < length table.iris.items
      inside = omega (arith, is.iri_room, slice_get_within file.iris n text named)

      new : (list_any (bytes_eq text) (with_iri joined text).iris ≡ true) × (iri_number (with_iri joined text) text ≡ iri_number joined text)
      new = comes (has_iri joined text) (bytes_eq text) joined.iris text (bytes_same text) refl

      by : (k : ℕ) (u : Term) (other : List ℕ) → slice_get file.iris k ≡ Some other → ((k ≡ n) × (Some u ≡ Some t)) ⊎ (slice_get table.iris.items k ≡ Some (Some u))
          → (has_iri (with_iri joined text) other ≡ true) × (u ≡ term.Iri (iri_number (with_iri joined text) other))
      by k u other of (inl e) =
          let same : other ≡ text = some_same (slice_get file.iris n) other text (ap (λ (i : ℕ). slice_get file.iris i) (sym e.0) ∙ of) named in
          let P : List ℕ → Type 0 = λ x. (has_iri (with_iri joined text) x ≡ true) × (u ≡ term.Iri (iri_number (with_iri joined text) x)) in
          let same_term : u ≡ t = cc in
          subst P (sym same) (new.0, same_term ∙ numbered ∙ ap (λ (m : ℕ). term.Iri m) (sym new.1))
      by k u other of (inr before) =
          let held = is.iris k u other before of in
          let s = stays (has_iri joined text) (bytes_eq other) joined.iris text held.0 in
          (s.0, held.1 ∙ ap (λ (m : ℕ). term.Iri m) (sym s.1))

  -- a literal came
  pub literal_came : (n : ℕ) (literal : Literal) (t : Term) → slice_get file.literals n ≡ Some literal → t ≡ term.Lit (literal_number joined literal)
      → next.literals.items ≡ set table.literals.items n (Some t) → next.iris.items ≡ table.iris.items → IsTable file (with_literal joined literal) next
  literal_came n literal t named numbered wrote kept = record {
    literals = λ k u other at of. by k u other of (at_set table.literals.items n k (Some t) (Some u) inside (ap (λ (xs : List (Option Term)). slice_get xs k) (sym wrote) ∙ at));
    iris = λ k u other at of. is.iris k u other (ap (λ (xs : List (Option Term)). slice_get xs k) (sym kept) ∙ at) of;
    literal_room = omega (arith, is.literal_room, ap (λ (xs : List (Option Term)). length xs) wrote, length-set table.literals.items n (Some t));
    iri_room = omega (arith, is.iri_room, ap (λ (xs : List (Option Term)). length xs) kept);
  }
    where
      inside : n < length table.literals.items
      inside = omega (arith, is.literal_room, slice_get_within file.literals n literal named)

      new : (list_any (same_literal literal) (with_literal joined literal).literals ≡ true) × (literal_number (with_literal joined literal) literal ≡ literal_number joined literal)
      new = comes (has_literal joined literal) (same_literal literal) joined.literals literal (literal_same literal) refl

      by : (k : ℕ) (u : Term) (other : Literal) → slice_get file.literals k ≡ Some other → ((k ≡ n) × (Some u ≡ Some t)) ⊎ (slice_get table.literals.items k ≡ Some (Some u))
          → (has_literal (with_literal joined literal) other ≡ true) × (u ≡ term.Lit (literal_number (with_literal joined literal) other))
      by k u other of (inl e) =
          let same : other ≡ literal = some_same (slice_get file.literals n) other literal (ap (λ (i : ℕ). slice_get file.literals i) (sym e.0) ∙ of) named in
          let P : Literal → Type 0 = λ x. (has_literal (with_literal joined literal) x ≡ true) × (u ≡ term.Lit (literal_number (with_literal joined literal) x)) in
          let same_term : u ≡ t = cc in
          subst P (sym same) (new.0, same_term ∙ numbered ∙ ap (λ (m : ℕ). term.Lit m) (sym new.1))
      by k u other of (inr before) =
          let held = is.literals k u other before of in
          let s = stays (has_literal joined literal) (same_literal other) joined.literals literal held.0 in
          (s.0, held.1 ∙ ap (λ (m : ℕ). term.Lit m) (sym s.1))

-- a name that is there adds nothing
pub iri_held : (names : NameLists) (text : List ℕ) → has_iri names text ≡ true → names ≡ with_iri names text
iri_held names text h = rw h refl

pub literal_held : (names : NameLists) (literal : Literal) → has_literal names literal ≡ true → names ≡ with_literal names literal
literal_held names literal h = rw h refl

-- one name too many
pub iri_over : (names : NameLists) (text : List ℕ) → has_iri names text ≡ false → name_count names ≡ 262144 → 262144 < name_count (with_iri names text)
iri_over names text new full = rw new (omega (arith, full, length-append names.iris (text ∷ [])))

pub literal_over : (names : NameLists) (literal : Literal) → has_literal names literal ≡ false → name_count names ≡ 262144 → 262144 < name_count (with_literal names literal)
literal_over names literal new full = rw new (omega (arith, full, length-append names.literals (literal ∷ [])))

-- a table in which no term came
pub blank_table : (file joined : NameLists) (table : NameTable) (n : ℕ) → name_count file ≤ n → table.iris.items ≡ replicate n None → table.literals.items ≡ replicate n None → IsTable file joined table
blank_table file joined table n room iris literals = record {
  iris = λ k t text at of. absurd (none_at k t (ap (λ (xs : List (Option Term)). slice_get xs k) (sym iris) ∙ at));
  literals = λ k t literal at of. absurd (none_at k t (ap (λ (xs : List (Option Term)). slice_get xs k) (sym literals) ∙ at));
  iri_room = omega (arith, room, ap (λ (xs : List (Option Term)). length xs) iris, length-replicate n (none_term));
  literal_room = omega (arith, room, ap (λ (xs : List (Option Term)). length xs) literals, length-replicate n (none_term));
}
  where
    none_term : Option Term
    none_term = None

    none_at : (k : ℕ) (t : Term) → slice_get (replicate n None) k ≡ Some (Some t) → ⊥
    none_at k t is =
        let in_all : k < length (replicate n none_term) = slice_get_within (replicate n None) k (Some t) is in
        let lt : k < n = omega (arith, in_all, length-replicate n none_term) in
        let got : get_or (replicate n none_term) k None ≡ Some t = get_or_from_slice_get (replicate n None) k (Some t) None is in
        let none : get_or (replicate n none_term) k None ≡ None = get_or-replicate n k None None lt in
        cc

-- a term that came
pub iri_there : (file joined : NameLists) (table : NameTable) (n : ℕ) (text : List ℕ) (t : Term) (o : Option Term) → IsTable file joined table → slice_get file.iris n ≡ Some text
    → o ≡ slice_index_or table.iris.items n o → o ≡ Some t → (has_iri joined text ≡ true) × (t ≡ term.Iri (iri_number joined text))
iri_there file joined table n text t o is named at some =
    let inside : n < length table.iris.items = omega (arith, is.iri_room, slice_get_within file.iris n text named) in
    is.iris n t text (slice_get_read table.iris.items (length table.iris.items) n o refl inside at ∙ ap (λ (x : Option Term). Some x) some) named

pub literal_there : (file joined : NameLists) (table : NameTable) (n : ℕ) (literal : Literal) (t : Term) (o : Option Term) → IsTable file joined table → slice_get file.literals n ≡ Some literal
    → o ≡ slice_index_or table.literals.items n o → o ≡ Some t → (has_literal joined literal ≡ true) × (t ≡ term.Lit (literal_number joined literal))
literal_there file joined table n literal t o is named at some =
    let inside : n < length table.literals.items = omega (arith, is.literal_room, slice_get_within file.literals n literal named) in
    is.literals n t literal (slice_get_read table.literals.items (length table.literals.items) n o refl inside at ∙ ap (λ (x : Option Term). Some x) some) named

pub iri_inside : (file joined : NameLists) (table : NameTable) (n : ℕ) (text : List ℕ) → IsTable file joined table → slice_get file.iris n ≡ Some text → n < length table.iris.items
iri_inside file joined table n text is named = omega (arith, is.iri_room, slice_get_within file.iris n text named)

pub literal_inside : (file joined : NameLists) (table : NameTable) (n : ℕ) (literal : Literal) → IsTable file joined table → slice_get file.literals n ≡ Some literal → n < length table.literals.items
literal_inside file joined table n literal is named = omega (arith, is.literal_room, slice_get_within file.literals n literal named)
