-- The extents as nodes come.
use Rattle.std.proofs.Common.{ℕ, ◌≡◌, ◌||◌, ◌++◌, Bool, true, false, cond, not, Option, Some, None, List, [], ◌∷◌, filter, refl, sym, ap, ap₂, ◌∙◌, inl, inr, subst, append_assoc}
use Rattle.std.specs.List.{list_any, filter_map, cons_option}
use Rattle.std.specs.Option.{option_map}
use Rattle.std.proofs.lemmas.Bool.{cases_Bool, both_ways}
use Rattle.std.proofs.lemmas.List.{append-nil}
use Rattle.std.proofs.lemmas.List.Elements.{filter-append, filter_map-append}
use Rattle.std.proofs.lemmas.Grind.{flat_map-append}
use Rattle.indexmap.specs.IndexMap.{insert_entry}
use Rattle.rdf_terms.specs.declared.terms.Term.{Term}
use Rattle.rdf_terms.specs.declared.terms.Triple.{Triple}
use Rattle.rdf_terms.specs.contracts.terms.TermPartialEq.TheImpl.{ghosts}
use Rattle.rdf_terms.specs.Terms.{same_term}
use Rattle.rdf_terms.proofs.TermLemmas.{same_term_is, same_term-true, same_term-refl}
use Rattle.boundary_orders.specs.Extents.{distinct, ends_in, rows_by}
use Rattle.boundary_orders.specs.Numbering.{with_kind, with_node}

same_sym : (a b : Term) → same_term a b ≡ same_term b a
same_sym a b =
    elim (cases_Bool (same_term a b)) [
      | inl h ↦ h ∙ sym (subst (λ (x : Term). same_term x a ≡ true) (same_term-true a b h) (same_term-refl a))
      | inr h ↦
          elim (cases_Bool (same_term b a)) [
            | inl g ↦ absurd (both_ways (same_term a b) h (subst (λ (x : Term). same_term x b ≡ true) (same_term-true b a g) (same_term-refl b)))
            | inr g ↦ h ∙ sym g
          ]
    ]

-- one node more is new, or known
distinct_push : (ns : List Term) (n : Term) → distinct (ns ++ n ∷ []) ≡ distinct ns ++ cond (list_any (same_term n) ns) [] (n ∷ [])
distinct_push [] n = refl
distinct_push (u ∷ us) n =
    ap (λ (l : List Term). u ∷ filter (λ (v : Term). not (same_term u v)) l) (distinct_push us n)
    ∙ ap (λ (l : List Term). u ∷ l) (filter-append (λ (v : Term). not (same_term u v)) (distinct us) (cond (list_any (same_term n) us) [] (n ∷ [])))
    ∙ ap (λ (l : List Term). u ∷ filter (λ (v : Term). not (same_term u v)) (distinct us) ++ l) (last (list_any (same_term n) us) (same_term n u) (same_sym u n))
  where
    last : (known b : Bool) → same_term u n ≡ b →
        filter (λ (v : Term). not (same_term u v)) (cond known [] (n ∷ [])) ≡ cond (b || known) [] (n ∷ [])
    last true true e = refl
    last true false e = refl
    last false true e = ap (λ (b : Bool). cond (not b) (n ∷ []) []) e
    last false false e = ap (λ (b : Bool). cond (not b) (n ∷ []) []) e

any_filter : (u n : Term) → same_term n u ≡ false → (ds : List Term) →
    list_any (same_term n) (filter (λ (v : Term). not (same_term u v)) ds) ≡ list_any (same_term n) ds
any_filter u n h [] = refl
any_filter u n h (d ∷ ds) =
    elim (cases_Bool (same_term u d)) [
      | inl same ↦
          ap (λ (b : Bool). list_any (same_term n) (cond (not b) (d ∷ filter (λ (v : Term). not (same_term u v)) ds) (filter (λ (v : Term). not (same_term u v)) ds))) same
          ∙ any_filter u n h ds
          ∙ ap (λ (b : Bool). b || list_any (same_term n) ds) (sym (subst (λ (x : Term). same_term n x ≡ false) (same_term-true u d same) h))
      | inr differs ↦
          ap (λ (b : Bool). list_any (same_term n) (cond (not b) (d ∷ filter (λ (v : Term). not (same_term u v)) ds) (filter (λ (v : Term). not (same_term u v)) ds))) differs
          ∙ ap (λ (b : Bool). same_term n d || b) (any_filter u n h ds)
    ]

any_distinct : (ns : List Term) (n : Term) → list_any (same_term n) (distinct ns) ≡ list_any (same_term n) ns
any_distinct [] n = refl
any_distinct (u ∷ us) n =
    elim (cases_Bool (same_term n u)) [
      | inl same ↦
          ap (λ (b : Bool). b || list_any (same_term n) (filter (λ (v : Term). not (same_term u v)) (distinct us))) same
          ∙ sym (ap (λ (b : Bool). b || list_any (same_term n) us) same)
      | inr differs ↦ ap (λ (b : Bool). same_term n u || b) (any_filter u n differs (distinct us) ∙ any_distinct us n)
    ]

abbrev paired : Term → Option Bool → Option (Term × Bool)
paired t kind = option_map (λ b. (t, b)) kind

abbrev row_by : (Term → Option Bool) → Term → Option (Term × Bool)
row_by kind t = paired t (kind t)

-- a node without a kind gives no row, and one with a kind gives one
no_row : (kind : Term → Option Bool) (d : Term) (ds : List Term) → kind d ≡ None → filter_map (row_by kind) (d ∷ ds) ≡ filter_map (row_by kind) ds
no_row kind d ds e = ap (λ (o : Option Bool). cons_option (paired d o) (filter_map (row_by kind) ds)) e

one_row : (kind : Term → Option Bool) (d : Term) (b : Bool) (ds : List Term) → kind d ≡ Some b →
    filter_map (row_by kind) (d ∷ ds) ≡ (d, b) ∷ filter_map (row_by kind) ds
one_row kind d b ds e = ap (λ (o : Option Bool). cons_option (paired d o) (filter_map (row_by kind) ds)) e

unequal : (b : Bool) → None ≡ Some b → ⊥
unequal b e = let never : ⊥ = cc in never

same_value : (b c : Bool) → Some b ≡ Some c → b ≡ c
same_value b c e = cc

abbrev Rows : Type 0
Rows = List (Term × Bool)

-- the row of a new node, and nothing for a known one
abbrev row_behind : Term → Bool → Bool → Rows
row_behind n b known = cond known [] ((n, b) ∷ [])

abbrev inserted : Bool → Term → Bool → Bool → Rows → Rows → Rows
inserted same d b c rows more = cond same ((d, b) ∷ rows) ((d, c) ∷ more)

insert_step : (kind : Term → Option Bool) (n : Term) (b : Bool) → kind n ≡ Some b → (d : Term) (ds : List Term) →
    insert_entry ghosts.eq (filter_map (row_by kind) ds) n b ≡ filter_map (row_by kind) ds ++ row_behind n b (list_any (same_term n) ds) →
    (o : Option Bool) → kind d ≡ o →
    insert_entry ghosts.eq (filter_map (row_by kind) (d ∷ ds)) n b
    ≡ filter_map (row_by kind) (d ∷ ds) ++ row_behind n b (same_term n d || list_any (same_term n) ds)
insert_step kind n b has d ds rest None e =
    elim (cases_Bool (same_term n d)) [
      | inl same ↦ absurd (unequal b (sym e ∙ ap kind (sym (same_term-true n d same)) ∙ has))
      | inr differs ↦
          ap (λ (rs : Rows). insert_entry ghosts.eq rs n b) (no_row kind d ds e)
          ∙ rest
          ∙ sym (ap₂ (λ (rs : Rows) (known : Bool). rs ++ row_behind n b (known || list_any (same_term n) ds)) (no_row kind d ds e) differs)
    ]
insert_step kind n b has d ds rest (Some c) e =
    ap (λ (rs : Rows). insert_entry ghosts.eq rs n b) (one_row kind d c ds e)
    ∙ elim (cases_Bool (same_term n d)) [
      | inl same ↦
          ap (λ (x : Bool). inserted x d b c (filter_map (row_by kind) ds) (insert_entry ghosts.eq (filter_map (row_by kind) ds) n b)) (same_term_is n d ∙ same)
          ∙ ap (λ (x : Bool). let rows : Rows = (d, x) ∷ filter_map (row_by kind) ds in rows) (same_value b c (sym has ∙ ap kind (same_term-true n d same) ∙ e))
          ∙ sym (append-nil ((d, c) ∷ filter_map (row_by kind) ds))
          ∙ sym (ap₂ (λ (rs : Rows) (known : Bool). rs ++ row_behind n b (known || list_any (same_term n) ds)) (one_row kind d c ds e) same)
      | inr differs ↦
          ap (λ (x : Bool). inserted x d b c (filter_map (row_by kind) ds) (insert_entry ghosts.eq (filter_map (row_by kind) ds) n b)) (same_term_is n d ∙ differs)
          ∙ ap (λ (rs : Rows). let rows : Rows = (d, c) ∷ rs in rows) rest
          ∙ sym (ap₂ (λ (rs : Rows) (known : Bool). rs ++ row_behind n b (known || list_any (same_term n) ds)) (one_row kind d c ds e) differs)
    ]

-- a node with a kind is put behind the rows, where it is none of the nodes
insert_row : (kind : Term → Option Bool) (n : Term) (b : Bool) → kind n ≡ Some b → (ds : List Term) →
    insert_entry ghosts.eq (filter_map (row_by kind) ds) n b ≡ filter_map (row_by kind) ds ++ row_behind n b (list_any (same_term n) ds)
insert_row kind n b has [] = refl
insert_row kind n b has (d ∷ ds) = insert_step kind n b has d ds (insert_row kind n b has ds) (kind d) refl

pub rows_push : (kind : Term → Option Bool) (ns : List Term) (n : Term) → rows_by kind (ns ++ n ∷ []) ≡ with_node kind (rows_by kind ns) n
rows_push kind ns n =
    ap (filter_map (row_by kind)) (distinct_push ns n)
    ∙ filter_map-append (row_by kind) (distinct ns) (cond (list_any (same_term n) ns) [] (n ∷ []))
    ∙ by_kind (kind n) refl
  where
    none : (known : Bool) → kind n ≡ None → filter_map (row_by kind) (cond known [] (n ∷ [])) ≡ []
    none true e = refl
    none false e = no_row kind n [] e

    one : (known b : Bool) → kind n ≡ Some b → filter_map (row_by kind) (cond known [] (n ∷ [])) ≡ row_behind n b known
    one true b e = refl
    one false b e = one_row kind n b [] e

    by_kind : (o : Option Bool) → kind n ≡ o →
        filter_map (row_by kind) (distinct ns) ++ filter_map (row_by kind) (cond (list_any (same_term n) ns) [] (n ∷ []))
        ≡ with_kind (kind n) (rows_by kind ns) n
    by_kind None e =
        ap (λ (rs : Rows). filter_map (row_by kind) (distinct ns) ++ rs) (none (list_any (same_term n) ns) e)
        ∙ append-nil (filter_map (row_by kind) (distinct ns))
        ∙ sym (ap (λ (o : Option Bool). with_kind o (rows_by kind ns) n) e)
    by_kind (Some b) e =
        ap (λ (rs : Rows). filter_map (row_by kind) (distinct ns) ++ rs) (one (list_any (same_term n) ns) b e)
        ∙ ap (λ (known : Bool). filter_map (row_by kind) (distinct ns) ++ row_behind n b known) (sym (any_distinct ns n))
        ∙ sym (insert_row kind n b e (distinct ns))
        ∙ sym (ap (λ (o : Option Bool). with_kind o (rows_by kind ns) n) e)

-- the ends of one triple more
pub rows_grow : (kind : Term → Option Bool) (ps : List (ℕ × Triple)) (number : ℕ) (t : Triple) →
    with_node kind (with_node kind (rows_by kind (ends_in ps)) t.s) t.o ≡ rows_by kind (ends_in (ps ++ (number, t) ∷ []))
rows_grow kind ps number t =
    ap (λ (rs : Rows). with_node kind rs t.o) (sym (rows_push kind (ends_in ps) t.s))
    ∙ sym (rows_push kind (ends_in ps ++ t.s ∷ []) t.o)
    ∙ ap (rows_by kind) (append_assoc (ends_in ps) (t.s ∷ []) (t.o ∷ []) ∙ sym (flat_map-append (λ (p : ℕ × Triple). p.1.s ∷ p.1.o ∷ []) ps ((number, t) ∷ [])))

or_true : (x : Bool) → (x || true) ≡ true
or_true true = refl
or_true false = refl

rows_listed : (kind : Term → Option Bool) (n : Term) (b : Bool) → kind n ≡ Some b → (ds : List Term) → list_any (same_term n) ds ≡ true →
    list_any (λ (e : Term × Bool). same_term n e.0) (filter_map (row_by kind) ds) ≡ true
rows_listed kind n b has [] h = absurd (both_ways false refl h)
rows_listed kind n b has (d ∷ ds) h =
    elim (cases_Bool (same_term n d)) [
      | inl same ↦
          ap (λ (rs : Rows). list_any (λ (e : Term × Bool). same_term n e.0) rs) (one_row kind d b ds (ap kind (sym (same_term-true n d same)) ∙ has))
          ∙ ap (λ (x : Bool). x || list_any (λ (e : Term × Bool). same_term n e.0) (filter_map (row_by kind) ds)) same
      | inr differs ↦ behind (kind d) refl (rows_listed kind n b has ds (sym (ap (λ (x : Bool). x || list_any (same_term n) ds) differs) ∙ h))
    ]
  where
    behind : (o : Option Bool) → kind d ≡ o → list_any (λ (e : Term × Bool). same_term n e.0) (filter_map (row_by kind) ds) ≡ true →
        list_any (λ (e : Term × Bool). same_term n e.0) (filter_map (row_by kind) (d ∷ ds)) ≡ true
    behind None e r = ap (λ (rs : Rows). list_any (λ (x : Term × Bool). same_term n x.0) rs) (no_row kind d ds e) ∙ r
    behind (Some c) e r =
        ap (λ (rs : Rows). list_any (λ (x : Term × Bool). same_term n x.0) rs) (one_row kind d c ds e)
        ∙ ap (λ (x : Bool). same_term n d || x) r
        ∙ or_true (same_term n d)

-- a node of the list that has a kind has a row
pub node_listed : (kind : Term → Option Bool) (ns : List Term) (n : Term) (b : Bool) → kind n ≡ Some b → list_any (same_term n) ns ≡ true →
    list_any (λ (e : Term × Bool). same_term n e.0) (rows_by kind ns) ≡ true
node_listed kind ns n b has h = rows_listed kind n b has (distinct ns) (any_distinct ns n ∙ h)
