-- The orders of two archives that say the same are the same, but for the numbers of extents.
use Rattle.std.proofs.Common.{◌≡◌, ℕ, zero, suc, ℤ, ◌+◌, ◌<◌, ◌-◌, ◌⊎◌, inl, inr, Bool, true, false, true≢false, ◌||◌, not, cond, Option, Some, None, List, [], ◌∷◌, ◌++◌, length, get_or, map, filter, refl, sym, ap, subst, ◌∙◌, arith}
use Rattle.std.specs.Prelude.{◌<ℤ◌}
use Rattle.std.specs.Option.{option_map}
use Rattle.std.specs.List.{list_any, list_all, filter_map, flat_map, cons_option, fold, position_or_len, AllByRecursion}
use Rattle.std.specs.List.Sorted.{IsStrictlySortedBy}
use Rattle.std.specs.Ordering.{int_cmp, match_ordering}
use Rattle.std.specs.BTreeSet.{insert_key}
use Rattle.std.specs.declared.cmp.Ordering.{Ordering}
use Rattle.std.specs.declared.cmp.Ordering.TheVariants.{Less, Equal, Greater}
use Rattle.std.proofs.lemmas.Cmp.{int_ranked}
use Rattle.std.proofs.lemmas.Int.{ints}
use Rattle.std.proofs.lemmas.Bool.{and_parts, cases_eq}
use Rattle.rdf_terms.specs.declared.terms.Literal.{Literal}
use Rattle.rdf_terms.specs.declared.terms.Term.{Term}
use Rattle.rdf_terms.specs.declared.terms.Term.TheVariants as term
use Rattle.rdf_terms.specs.declared.terms.Triple.{Triple}
use Rattle.rdf_terms.specs.Terms.{same_term}
use Rattle.rdf_terms.specs.Naming.{NameLists}
use Rattle.rdf_terms.proofs.TermLemmas.{same_term-true, same_term-refl}
use Rattle.triple_pool.specs.Pool.{number_from}
use Rattle.crm_type_check.specs.declared.Fault.{Fault}
use Rattle.crm_type_check.specs.Meaning.{passes}
use Rattle.crm_type_check.specs.Relations.{kinds_of, faults_of}
use Rattle.order_laws.specs.declared.Point.{Point}
use Rattle.order_laws.specs.declared.Point.TheVariants.{Start, End, Date}
use Rattle.order_laws.specs.declared.By.TheVariants.{Extent, Dates}
use Rattle.order_laws.specs.declared.Order.{Order}
use Rattle.order_core.specs.Sets.{extent_orders, date_orders}
use Rattle.boundary_orders.specs.declared.statements.Statement.{Statement}
use Rattle.boundary_orders.specs.Statements.{is_faulty, is_dated, meaning_of, statement_of, statements_of}
use Rattle.boundary_orders.specs.Extents.{distinct, ends_in, kind_of, standings_of, extents_of}
use Rattle.boundary_orders.specs.Orders.{Spot, DomainStart, DomainEnd, RangeStart, RangeEnd, TheDate, Rule, rules_of, point_at, order_by, extent_number, is_numbered, AreNumbered, date_number, instant_in, instant_of, dates_of, orders_with, orders_by, statement_orders, orders_of}
use Rattle.boundary_orders.proofs.Ruling.{spot_fits, rule_fits, rules_fit}
use Rattle.boundary_orders.proofs.Within.{place_within, extents_cover}
use Rattle.report_base.proofs.DatesSorted.{ascending}
use Rattle.record_laws.specs.Renaming.{IsRenamed, renamed_statement}
use Rattle.record_laws.proofs.OneWay.{OneWay}
use Rattle.record_laws.proofs.Members.{In, any_in, any_same, any_numbered, goes, comes}
use Rattle.record_laws.proofs.Faulted.{kinds_same}
use Rattle.record_laws.proofs.Standing.{some_kind, faulty_is, any_flat, any_filtered, meaning_same, kind_same}
use Rattle.record_laws.proofs.Walking.{at_in, in_at, in_left, in_right, in_either, IsMoved, Become}

-- elements of lists that are made of others
in_filtered : {X Y : Type 0} (h : X → Option Y) (xs : List X) (y : Y) → In y (filter_map h xs) → (x : X) × In x xs × (h x ≡ Some y)
in_filtered h [] y i = absurd i
in_filtered {X} {Y} h (x ∷ xs) y i = by (h x) refl i (in_filtered h xs y)
  where
    by : (o : Option Y) → h x ≡ o → In y (cons_option o (filter_map h xs)) → (In y (filter_map h xs) → (z : X) × In z xs × (h z ≡ Some y)) → (z : X) × In z (x ∷ xs) × (h z ≡ Some y)
    by None e i rest = let r = rest i in (r.0, inr r.1, r.2)
    by (Some z) e (inl p) rest = (x, inl refl, e ∙ ap (λ (w : Y). Some w) (sym p))
    by (Some z) e (inr i) rest = let r = rest i in (r.0, inr r.1, r.2)

filtered_in : {X Y : Type 0} (h : X → Option Y) (xs : List X) (x : X) (y : Y) → In x xs → h x ≡ Some y → In y (filter_map h xs)
filtered_in h [] x y i e = absurd i
filtered_in {X} {Y} h (z ∷ zs) x y (inl p) e = subst (λ (o : Option Y). In y (cons_option o (filter_map h zs))) (sym (ap h (sym p) ∙ e)) (inl refl)
filtered_in {X} {Y} h (z ∷ zs) x y (inr i) e = by (h z) (filtered_in h zs x y i e)
  where
    by : (o : Option Y) → In y (filter_map h zs) → In y (cons_option o (filter_map h zs))
    by None rest = rest
    by (Some w) rest = inr rest

in_flat : {X Y : Type 0} (g : X → List Y) (xs : List X) (y : Y) → In y (flat_map g xs) → (x : X) × In x xs × In y (g x)
in_flat g [] y i = absurd i
in_flat g (x ∷ xs) y i = elim (in_either (g x) (flat_map g xs) y i) [
  | inl a ↦ (x, inl refl, a)
  | inr b ↦ (let r = in_flat g xs y b in (r.0, inr r.1, r.2))
]

flat_in : {X Y : Type 0} (g : X → List Y) (xs : List X) (x : X) (y : Y) → In x xs → In y (g x) → In y (flat_map g xs)
flat_in g [] x y i e = absurd i
flat_in g (z ∷ zs) x y (inl p) e = in_left (g z) (flat_map g zs) y (subst (λ (w : _). In y (g w)) p e)
flat_in g (z ∷ zs) x y (inr i) e = in_right (g z) (flat_map g zs) y (flat_in g zs x y i e)

in_mapped : {X Y : Type 0} (f : X → Y) (xs : List X) (y : Y) → In y (map f xs) → (x : X) × In x xs × (y ≡ f x)
in_mapped f [] y i = absurd i
in_mapped f (x ∷ xs) y (inl e) = (x, inl refl, e)
in_mapped f (x ∷ xs) y (inr i) = let r = in_mapped f xs y i in (r.0, inr r.1, r.2)

mapped_in : {X Y : Type 0} (f : X → Y) (xs : List X) (x : X) → In x xs → In (f x) (map f xs)
mapped_in f [] x i = absurd i
mapped_in f (z ∷ zs) x (inl e) = inl (ap f e)
mapped_in f (z ∷ zs) x (inr i) = inr (mapped_in f zs x i)

all_pass : {X : Type 0} (P : X → Bool) (xs : List X) → list_all P xs ≡ true → (x : X) → In x xs → P x ≡ true
all_pass P [] h x i = absurd i
all_pass P (y ∷ ys) h x (inl e) = ap P e ∙ (and_parts (P y) (list_all P ys) h).0
all_pass P (y ∷ ys) h x (inr i) = all_pass P ys (and_parts (P y) (list_all P ys) h).1 x i

-- numbers of triples
numbered_in : (n : ℕ) (ts : List Triple) (t : Triple) → In t ts → (k : ℕ) × In (k, t) (number_from n ts)
numbered_in n [] t i = absurd i
numbered_in n (u ∷ us) t (inl e) = (n, inl (ap (λ (x : Triple). (n, x)) e))
numbered_in n (u ∷ us) t (inr i) = let r = numbered_in (suc n) us t i in (r.0, inr r.1)

in_numbered : (n : ℕ) (ts : List Triple) (p : ℕ × Triple) → In p (number_from n ts) → In p.1 ts
in_numbered n [] p i = absurd i
in_numbered n (u ∷ us) p (inl e) = inl (ap (λ (x : ℕ × Triple). x.1) e)
in_numbered n (u ∷ us) p (inr i) = inr (in_numbered (suc n) us p i)

-- a sound triple that states this
record States (names : NameLists) (triples : List Triple) (s : Statement) : Type 0 where
  pub triple : Triple
  pub there : In triple triples
  pub sound : some_kind (kinds_of names (number_from 0 triples) triple) ≡ false
  pub meaning : meaning_of names (number_from 0 triples) triple ≡ Some s

opened_statement : (b : Bool) (k : ℕ) (o : Option Statement) (x : ℕ × Statement) → cond b None (option_map (λ s. (k, s)) o) ≡ Some x → (b ≡ false) × (o ≡ Some x.1)
opened_statement true k o x e = absurd (let never : ⊥ = cc in never)
opened_statement false k None x e = absurd (let never : ⊥ = cc in never)
opened_statement false k (Some s) x e = let same : (k, s) ≡ x = cc in (refl, ap (λ (y : ℕ × Statement). Some y.1) same)

module _ (names : NameLists) (triples : List Triple) where
  in_statements : (x : ℕ × Statement) → In x (statements_of names (number_from 0 triples) (faults_of names (number_from 0 triples))) → States names triples x.1
  in_statements x i =
      let r = in_filtered (statement_of names (number_from 0 triples) (faults_of names (number_from 0 triples))) (number_from 0 triples) x i in
      let o = opened_statement (is_faulty (faults_of names (number_from 0 triples)) r.0.0) r.0.0 (meaning_of names (number_from 0 triples) r.0.1) x r.2 in
      record { triple = r.0.1; there = in_numbered 0 triples r.0 r.1; sound = sym (faulty_is names triples r.0 r.1) ∙ o.0; meaning = o.1 }

  statements_in : (s : Statement) → States names triples s → (k : ℕ) × In (k, s) (statements_of names (number_from 0 triples) (faults_of names (number_from 0 triples)))
  statements_in s h =
      let p = numbered_in 0 triples h.triple h.there in (
        p.0,
        filtered_in (statement_of names (number_from 0 triples) (faults_of names (number_from 0 triples))) (number_from 0 triples) (p.0, h.triple) (p.0, s) p.1
            (ap (λ (b : Bool). cond b None (option_map (λ s. (p.0, s)) (meaning_of names (number_from 0 triples) h.triple))) (faulty_is names triples (p.0, h.triple) p.1 ∙ h.sound)
            ∙ ap (λ (o : Option Statement). option_map (λ s. (p.0, s)) o) h.meaning),
      )

-- two lists that ascend with the same elements are the same
below_all : (x : ℤ) (ys : List ℤ) → AllByRecursion (λ y. int_cmp x y ≡ Less) ys → (z : ℤ) → In z ys → x <ℤ z
below_all x [] h z i = absurd i
below_all x (y ∷ ys) h z (inl e) = subst (λ (w : ℤ). x <ℤ w) (sym e) (int_ranked x y Less (sym h.0))
below_all x (y ∷ ys) h z (inr i) = below_all x ys h.1 z i

never_below : (x y : ℤ) → x <ℤ y → y <ℤ x → ⊥
never_below x y a b = omega (arith, ints, a, b)

same_sorted : (xs ys : List ℤ) → IsStrictlySortedBy int_cmp xs → IsStrictlySortedBy int_cmp ys → ((z : ℤ) → In z xs → In z ys) → ((z : ℤ) → In z ys → In z xs) → xs ≡ ys
unfolding IsStrictlySortedBy
same_sorted [] [] s t f g = refl
same_sorted [] (y ∷ ys) s t f g = absurd (g y (inl refl))
same_sorted (x ∷ xs) [] s t f g = absurd (f x (inl refl))
same_sorted (x ∷ xs) (y ∷ ys) s t f g = ap (λ (z : ℤ). z ∷ xs) heads ∙ ap (λ (zs : List ℤ). y ∷ zs) (same_sorted xs ys s.1 t.1 down up)
  where
    heads : x ≡ y
    heads = elim (f x (inl refl)) [
      | inl e ↦ e
      | inr i ↦ elim (g y (inl refl)) [ inl e ↦ sym e | inr j ↦ absurd (never_below x y (below_all x xs s.0 y j) (below_all y ys t.0 x i)) ]
    ]

    down : (z : ℤ) → In z xs → In z ys
    down z i = elim (f z (inr i)) [
      | inl e ↦ (let lt : x <ℤ z = below_all x xs s.0 z i in absurd (never_below x z lt (subst (λ (w : ℤ). w <ℤ x) (sym e) (subst (λ (w : ℤ). w <ℤ x) heads (subst (λ (w : ℤ). x <ℤ w) (e ∙ sym heads) lt)))))
      | inr j ↦ j
    ]

    up : (z : ℤ) → In z ys → In z xs
    up z i = elim (g z (inr i)) [
      | inl e ↦ (let lt : y <ℤ z = below_all y ys t.0 z i in absurd (never_below y y (subst (λ (w : ℤ). y <ℤ w) (e ∙ heads) lt) (subst (λ (w : ℤ). y <ℤ w) (e ∙ heads) lt)))
      | inr j ↦ j
    ]

equal_exact : (a b : ℤ) → int_cmp a b ≡ Equal → a ≡ b
equal_exact a b e = int_ranked a b Equal (sym e)

in_inserted : (ks : List ℤ) (k z : ℤ) → In z (insert_key int_cmp ks k) → (z ≡ k) ⊎ In z ks
in_inserted [] k z (inl e) = inl e
in_inserted [] k z (inr i) = absurd i
in_inserted (x ∷ xs) k z i = by (int_cmp k x) i (in_inserted xs k z)
  where
    by : (o : Ordering) → In z (match_ordering o (k ∷ x ∷ xs) (x ∷ xs) (x ∷ insert_key int_cmp xs k)) → (In z (insert_key int_cmp xs k) → (z ≡ k) ⊎ In z xs) → (z ≡ k) ⊎ In z (x ∷ xs)
    by Less (inl e) rest = inl e
    by Less (inr j) rest = inr j
    by Equal j rest = inr j
    by Greater (inl e) rest = inr (inl e)
    by Greater (inr j) rest = elim (rest j) [ inl e ↦ inl e | inr h ↦ inr (inr h) ]

inserted_in : (ks : List ℤ) (k z : ℤ) → (z ≡ k) ⊎ In z ks → In z (insert_key int_cmp ks k)
inserted_in [] k z (inl e) = inl e
inserted_in [] k z (inr i) = absurd i
inserted_in (x ∷ xs) k z h = by (int_cmp k x) refl h (inserted_in xs k z)
  where
    by : (o : Ordering) → int_cmp k x ≡ o → (z ≡ k) ⊎ In z (x ∷ xs) → ((z ≡ k) ⊎ In z xs → In z (insert_key int_cmp xs k)) → In z (match_ordering o (k ∷ x ∷ xs) (x ∷ xs) (x ∷ insert_key int_cmp xs k))
    by Less e (inl p) rest = inl p
    by Less e (inr i) rest = inr i
    by Equal e (inl p) rest = inl (p ∙ equal_exact k x e)
    by Equal e (inr i) rest = i
    by Greater e (inl p) rest = inr (rest (inl p))
    by Greater e (inr (inl p)) rest = inl p
    by Greater e (inr (inr i)) rest = inr (rest (inr i))

in_all_inserted : (ts ks : List ℤ) (z : ℤ) → In z (fold (insert_key int_cmp) ks ts) → In z ks ⊎ In z ts
in_all_inserted [] ks z i = inl i
in_all_inserted (t ∷ ts) ks z i = elim (in_all_inserted ts (insert_key int_cmp ks t) z i) [
  | inl a ↦ elim (in_inserted ks t z a) [ inl e ↦ inr (inl e) | inr b ↦ inl b ]
  | inr c ↦ inr (inr c)
]

all_inserted_in : (ts ks : List ℤ) (z : ℤ) → In z ks ⊎ In z ts → In z (fold (insert_key int_cmp) ks ts)
all_inserted_in [] ks z (inl i) = i
all_inserted_in [] ks z (inr i) = absurd i
all_inserted_in (t ∷ ts) ks z (inl i) = all_inserted_in ts (insert_key int_cmp ks t) z (inl (inserted_in ks t z (inr i)))
all_inserted_in (t ∷ ts) ks z (inr (inl e)) = all_inserted_in ts (insert_key int_cmp ks t) z (inl (inserted_in ks t z (inl e)))
all_inserted_in (t ∷ ts) ks z (inr (inr i)) = all_inserted_in ts (insert_key int_cmp ks t) z (inr i)

in_dates : (names : NameLists) (ss : List (ℕ × Statement)) (z : ℤ) → In z (dates_of names ss) → (x : ℕ × Statement) × In x ss × (instant_of names x.1 ≡ Some z)
in_dates names ss z i = elim (in_all_inserted (filter_map (λ (s : ℕ × Statement). instant_of names s.1) ss) [] z i) [
  | inl never ↦ absurd never
  | inr j ↦ in_filtered (λ (s : ℕ × Statement). instant_of names s.1) ss z j
]

dates_in : (names : NameLists) (ss : List (ℕ × Statement)) (z : ℤ) (x : ℕ × Statement) → In x ss → instant_of names x.1 ≡ Some z → In z (dates_of names ss)
dates_in names ss z x i e =
    all_inserted_in (filter_map (λ (s : ℕ × Statement). instant_of names s.1) ss) [] z (inr (filtered_in (λ (s : ℕ × Statement). instant_of names s.1) ss x z i e))

-- a node among distinct ones
filter_any : (Q : Term → Bool) (t : Term) (xs : List Term) → (Q t || list_any Q (filter (λ u. not (same_term t u)) xs)) ≡ (Q t || list_any Q xs)
filter_any Q t [] = refl
filter_any Q t (x ∷ xs) = by (same_term t x) refl (filter_any Q t xs)
  where
    turn : (a b c d : Bool) → (a || c) ≡ (a || d) → (a || (b || c)) ≡ (a || (b || d))
    turn true b c d e = refl
    turn false true c d e = refl
    turn false false c d e = e

    drop_same : (a b c d : Bool) → b ≡ a → (a || c) ≡ (a || d) → (a || c) ≡ (a || (b || d))
    drop_same true b c d p e = refl
    drop_same false true c d p e = absurd (true≢false p)
    drop_same false false c d p e = e

    by : (b : Bool) → same_term t x ≡ b → (Q t || list_any Q (filter (λ u. not (same_term t u)) xs)) ≡ (Q t || list_any Q xs) → (Q t || list_any Q (cond (not b) (x ∷ filter (λ u. not (same_term t u)) xs) (filter (λ u. not (same_term t u)) xs))) ≡ (Q t || (Q x || list_any Q xs))
    by true e rest = drop_same (Q t) (Q x) (list_any Q (filter (λ u. not (same_term t u)) xs)) (list_any Q xs) (ap Q (sym (same_term-true t x e))) rest
    by false e rest = turn (Q t) (Q x) (list_any Q (filter (λ u. not (same_term t u)) xs)) (list_any Q xs) rest

any_distinct : (Q : Term → Bool) (ts : List Term) → list_any Q (distinct ts) ≡ list_any Q ts
any_distinct Q [] = refl
any_distinct Q (t ∷ ts) = filter_any Q t (distinct ts) ∙ ap (λ (b : Bool). Q t || b) (any_distinct Q ts)

place_holds : {X : Type 0} (p : X → Bool) (xs : List X) (d : X) → list_any p xs ≡ true → p (get_or xs (position_or_len p xs) d) ≡ true
place_holds p [] d h = absurd (true≢false (sym h))
place_holds {X} p (x ∷ xs) d h = by (p x) refl h (place_holds p xs d)
  where
    by : (b : Bool) → p x ≡ b → (b || list_any p xs) ≡ true → (list_any p xs ≡ true → p (get_or xs (position_or_len p xs) d) ≡ true) → p (get_or (x ∷ xs) (cond (not b) (1 + position_or_len p xs) 0) d) ≡ true
    by true e h rest = e
    by false e h rest =
        let next : suc (position_or_len p xs) ≡ 1 + position_or_len p xs = omega arith in
        subst (λ (k : ℕ). p (get_or (x ∷ xs) k d) ≡ true) next (rest h)

in_extents : (n : ℕ) (o : Order) → In o (extent_orders n) → (k : ℕ) × (k < n) × (o ≡ record { low = Start k; high = End k; strict = true; by = Extent k })
in_extents zero o i = absurd i
in_extents (suc n) o i = elim (in_either (extent_orders n) (record { low = Start n; high = End n; strict = true; by = Extent n } ∷ []) o i) [
  | inl a ↦ (let r = in_extents n o a in (r.0, omega (arith, r.1), r.2))
  | inr b ↦ elim b [ inl e ↦ (n, omega arith, e) | inr never ↦ absurd never ]
]

extents_in : (n k : ℕ) → k < n → In (record { low = Start k; high = End k; strict = true; by = Extent k }) (extent_orders n)
extents_in zero k lt = absurd (omega arith)
extents_in (suc n) k lt = elim (cases_eq k n) [
  | inl e ↦ in_right (extent_orders n) (record { low = Start n; high = End n; strict = true; by = Extent n } ∷ []) _ (inl (ap (λ (j : ℕ). (let o : Order = record { low = Start j; high = End j; strict = true; by = Extent j } in o)) e))
  | inr other ↦ in_left (extent_orders n) (record { low = Start n; high = End n; strict = true; by = Extent n } ∷ []) _ (extents_in n k (omega (arith, lt, other)))
]

in_date_orders : (n : ℕ) (o : Order) → In o (date_orders n) → (k : ℕ) × (o ≡ record { low = Date k; high = Date (k + 1); strict = true; by = Dates })
in_date_orders zero o i = absurd i
in_date_orders (suc n) o i = elim (in_either (date_orders n) (record { low = Date n; high = Date (n + 1); strict = true; by = Dates } ∷ []) o i) [
  | inl a ↦ in_date_orders n o a
  | inr b ↦ elim b [ inl e ↦ (n, e) | inr never ↦ absurd never ]
]

module _ (names other : NameLists) (triples others : List Triple) (m : Term → Term) (same : OneWay names triples other others m) where
  -- what a sound triple states is stated, renamed, by a sound one
  states_goes : (s : Statement) → States names triples s → States other others (renamed_statement m s)
  states_goes s h =
      let g = goes names other triples others m same h.triple h.there in
      record {
        triple = g.0;
        there = g.1;
        sound = ap some_kind (kinds_same names other triples others m same h.triple g.0 g.2) ∙ h.sound;
        meaning = meaning_same names other triples others m same h.triple g.0 g.2 ∙ ap (λ (o : Option Statement). option_map (renamed_statement m) o) h.meaning;
      }

  -- and each that is stated there is
  states_comes : (s : Statement) → States other others s → (t : Statement) × States names triples t × (s ≡ renamed_statement m t)
  states_comes s h =
      let c = comes names other triples others m same h.triple h.there in
      by (meaning_of names (number_from 0 triples) c.0) refl (sym h.meaning ∙ meaning_same names other triples others m same c.0 h.triple c.2)
      (sym (ap some_kind (kinds_same names other triples others m same c.0 h.triple c.2)) ∙ h.sound) c.1
    where
      by : (o : Option Statement) → meaning_of names (number_from 0 triples) (comes names other triples others m same h.triple h.there).0 ≡ o → Some s ≡ option_map (renamed_statement m) o
          → some_kind (kinds_of names (number_from 0 triples) (comes names other triples others m same h.triple h.there).0) ≡ false → In (comes names other triples others m same h.triple h.there).0 triples
          → (t : Statement) × States names triples t × (s ≡ renamed_statement m t)
      by None e p sound there = absurd (let never : ⊥ = cc in never)
      by (Some t) e p sound there = (t, record { triple = (comes names other triples others m same h.triple h.there).0; there = there; sound = sound; meaning = e }, (let is : s ≡ renamed_statement m t = cc in is))

  instant_same : (s : Statement) → instant_of other (renamed_statement m s) ≡ instant_of names s
  instant_same s = ap (λ (l : Option Literal). cond (is_dated s.code) (instant_in s.code l) None) (same.renaming.literals s.range)

  pub dates_same : dates_of other (statements_of other (number_from 0 others) (faults_of other (number_from 0 others))) ≡ dates_of names (statements_of names (number_from 0 triples) (faults_of names (number_from 0 triples)))
  dates_same =
      same_sorted (dates_of other theirs) (dates_of names ours) (ascending (filter_map (λ (s : ℕ × Statement). instant_of other s.1) theirs)) (ascending (filter_map (λ (s : ℕ × Statement). instant_of names s.1) ours)) down up
    where
      ours : List (ℕ × Statement)
      ours = statements_of names (number_from 0 triples) (faults_of names (number_from 0 triples))

      theirs : List (ℕ × Statement)
      theirs = statements_of other (number_from 0 others) (faults_of other (number_from 0 others))

      down : (z : ℤ) → In z (dates_of other theirs) → In z (dates_of names ours)
      down z i =
          let r = in_dates other theirs z i in
          let c = states_comes r.0.1 (in_statements other others r.0 r.1) in
          let k = statements_in names triples c.0 c.1 in
          dates_in names ours z (k.0, c.0) k.1 (sym (instant_same c.0) ∙ ap (instant_of other) (sym c.2) ∙ r.2)

      up : (z : ℤ) → In z (dates_of names ours) → In z (dates_of other theirs)
      up z i =
          let r = in_dates names ours z i in
          let k = statements_in other others (renamed_statement m r.0.1) (states_goes r.0.1 (in_statements names triples r.0 r.1)) in
          dates_in other theirs z (k.0, renamed_statement m r.0.1) k.1 (instant_same r.0.1 ∙ r.2)

-- a node of this kind
abbrev is_row : (Term → Option Bool) → Term → Term → Bool
is_row kind node t = passes (λ (e : Term × Bool). same_term node e.0) (option_map (λ b. (t, b)) (kind t))

abbrev is_end_row : (Term → Option Bool) → Term → Triple → Bool
is_end_row kind node t = is_row kind node t.s || (is_row kind node t.o || false)

listed : (kind : Term → Option Bool) (triples : List Triple) (node : Term)
    → list_any (λ (e : Term × Bool). same_term node e.0) (filter_map (λ t. option_map (λ b. (t, b)) (kind t)) (distinct (ends_in (number_from 0 triples)))) ≡ list_any (is_end_row kind node) triples
listed kind triples node =
    any_filtered (λ (e : Term × Bool). same_term node e.0) (λ t. option_map (λ b. (t, b)) (kind t)) (distinct (ends_in (number_from 0 triples)))
    ∙ any_distinct (is_row kind node) (ends_in (number_from 0 triples))
    ∙ any_flat (is_row kind node) (λ (p : ℕ × Triple). p.1.s ∷ p.1.o ∷ []) (number_from 0 triples)
    ∙ any_numbered (is_end_row kind node) 0 triples

module _ (names other : NameLists) (triples others : List Triple) (m : Term → Term) (same : OneWay names triples other others m) where
  abbrev our_faults : List Fault
  our_faults = faults_of names (number_from 0 triples)

  abbrev their_faults : List Fault
  their_faults = faults_of other (number_from 0 others)

  abbrev our_extents : List (Term × Bool)
  our_extents = extents_of names (number_from 0 triples) our_faults

  abbrev their_extents : List (Term × Bool)
  their_extents = extents_of other (number_from 0 others) their_faults

  abbrev ours : List (ℕ × Statement)
  ours = statements_of names (number_from 0 triples) our_faults

  abbrev theirs : List (ℕ × Statement)
  theirs = statements_of other (number_from 0 others) their_faults

  row_same : (node x : Term) → is_row (kind_of (standings_of other (number_from 0 others) their_faults)) (m node) (m x) ≡ is_row (kind_of (standings_of names (number_from 0 triples) our_faults)) node x
  row_same node x =
      ap (λ (o : Option Bool). passes (λ (e : Term × Bool). same_term (m node) e.0) (option_map (λ b. (m x, b)) o)) (kind_same names other triples others m same x)
      ∙ by (kind_of (standings_of names (number_from 0 triples) our_faults) x)
    where
      by : (o : Option Bool) → passes (λ (e : Term × Bool). same_term (m node) e.0) (option_map (λ b. (m x, b)) o) ≡ passes (λ (e : Term × Bool). same_term node e.0) (option_map (λ b. (x, b)) o)
      by None = refl
      by (Some b) = same.renaming.apart node x

  end_row_same : (node : Term) (t u : Triple) → IsRenamed m t u
      → is_end_row (kind_of (standings_of other (number_from 0 others) their_faults)) (m node) u ≡ is_end_row (kind_of (standings_of names (number_from 0 triples) our_faults)) node t
  end_row_same node t u r =
      ap (λ (x : Term). is_row (kind_of (standings_of other (number_from 0 others) their_faults)) (m node) x || (is_row (kind_of (standings_of other (number_from 0 others) their_faults)) (m node) u.o || false)) r.s
      ∙ ap (λ (x : Term). is_row (kind_of (standings_of other (number_from 0 others) their_faults)) (m node) (m t.s) || (is_row (kind_of (standings_of other (number_from 0 others) their_faults)) (m node) x || false)) r.o
      ∙ ap (λ (b : Bool). b || (is_row (kind_of (standings_of other (number_from 0 others) their_faults)) (m node) (m t.o) || false)) (row_same node t.s)
      ∙ ap (λ (b : Bool). is_row (kind_of (standings_of names (number_from 0 triples) our_faults)) node t.s || (b || false)) (row_same node t.o)

  -- the same nodes have numbers
  pub numbered_same : (node : Term) → is_numbered their_extents (m node) ≡ is_numbered our_extents node
  numbered_same node =
      listed (kind_of (standings_of other (number_from 0 others) their_faults)) others (m node)
      ∙ any_same names other triples others m same (is_end_row (kind_of (standings_of names (number_from 0 triples) our_faults)) node)
      (is_end_row (kind_of (standings_of other (number_from 0 others) their_faults)) (m node)) (end_row_same node)
      ∙ sym (listed (kind_of (standings_of names (number_from 0 triples) our_faults)) triples node)

  abbrev pub node_at : ℕ → Term
  node_at k = (get_or our_extents k (term.Iri 0, false)).0

  abbrev pub number_at : ℕ → ℕ
  number_at k = extent_number their_extents (m (node_at k))

  -- the points of extents by their new numbers
  abbrev pub point_of : Point → Point
  point_of (Start k) = Start (number_at k)
  point_of (End k) = End (number_at k)
  point_of (Date k) = Date k

  pub number_of_node : (node : Term) → is_numbered our_extents node ≡ true → number_at (extent_number our_extents node) ≡ extent_number their_extents (m node)
  number_of_node node h =
      ap (λ (x : Term). extent_number their_extents (m x))
      (sym (same_term-true node (get_or our_extents (extent_number our_extents node) (term.Iri 0, false)).0 (place_holds (λ (e : Term × Bool). same_term node e.0) our_extents (term.Iri 0, false) h)))

  number_within : (k : ℕ) → k < length our_extents → number_at k < length their_extents
  number_within k lt =
      place_within (λ (e : Term × Bool). same_term (m (node_at k)) e.0) their_extents
      (numbered_same (node_at k) ∙ any_in (λ (e : Term × Bool). same_term (node_at k) e.0) our_extents (get_or our_extents k (term.Iri 0, false)) (at_in our_extents k (term.Iri 0, false) lt) (same_term-refl (node_at k)))

  spot_same : (dated : Bool) (spot : Spot) (d r d' r' : ℕ) → spot_fits dated spot ≡ true → d' ≡ number_at d → (dated ≡ true → r' ≡ r) → (dated ≡ false → r' ≡ number_at r)
      → point_at d' r' spot ≡ point_of (point_at d r spot)
  spot_same dated DomainStart d r d' r' fits p q w = ap (λ (k : ℕ). Start k) p
  spot_same dated DomainEnd d r d' r' fits p q w = ap (λ (k : ℕ). End k) p
  spot_same true RangeStart d r d' r' fits p q w = absurd (true≢false (sym fits))
  spot_same false RangeStart d r d' r' fits p q w = ap (λ (k : ℕ). Start k) (w refl)
  spot_same true RangeEnd d r d' r' fits p q w = absurd (true≢false (sym fits))
  spot_same false RangeEnd d r d' r' fits p q w = ap (λ (k : ℕ). End k) (w refl)
  spot_same true TheDate d r d' r' fits p q w = ap (λ (k : ℕ). Date k) (q refl)
  spot_same false TheDate d r d' r' fits p q w = absurd (true≢false (sym fits))

  -- an order by the same rule of the same statement, renamed
  rule_order : (dated : Bool) (rules : List Rule) (n k d r d' r' : ℕ) → list_all (rule_fits dated) rules ≡ true → d' ≡ number_at d → (dated ≡ true → r' ≡ r) → (dated ≡ false → r' ≡ number_at r)
      → (o : Order) → In o (map (order_by n d r) rules) → (p : Order) × In p (map (order_by k d' r') rules) × IsMoved point_of o p
  rule_order dated rules n k d r d' r' fits pd q w o i =
      let x = in_mapped (order_by n d r) rules o i in
      let f = and_parts (spot_fits dated x.0.low) (spot_fits dated x.0.high) (all_pass (rule_fits dated) rules fits x.0 x.1) in (
        order_by k d' r' x.0,
        mapped_in (order_by k d' r') rules x.0 x.1,
        record {
          low = spot_same dated x.0.low d r d' r' f.0 pd q w ∙ ap (λ (y : Order). point_of y.low) (sym x.2);
          high = spot_same dated x.0.high d r d' r' f.1 pd q w ∙ ap (λ (y : Order). point_of y.high) (sym x.2);
          strict = ap (λ (y : Order). y.strict) (sym x.2);
        },
      )

  statement_numbered : (x : ℕ × Statement) → In x ours → AreNumbered our_extents x.1
  statement_numbered x i =
      let r = in_at ours x x i in
      subst (λ (y : ℕ × Statement). AreNumbered our_extents y.1) r.2 (extents_cover names (number_from 0 triples) our_faults r.0 x r.1)

  orders_go : (b : Bool) (x : ℕ × Statement) (k : ℕ) → is_dated x.1.code ≡ b → AreNumbered our_extents x.1 → (o : Order)
      → In o (orders_with x (extent_number our_extents x.1.domain) (cond b (option_map (date_number (dates_of names ours)) (instant_of names x.1)) (Some (extent_number our_extents x.1.range))))
      → (p : Order) × In p (orders_with (k, renamed_statement m x.1) (extent_number their_extents (m x.1.domain))
      (cond b (option_map (date_number (dates_of other theirs)) (instant_of other (renamed_statement m x.1))) (Some (extent_number their_extents (m x.1.range))))) × IsMoved point_of o p
  orders_go false x k dated a o i =
      rule_order false (rules_of x.1.code) x.0 k _ _ _ _ (subst (λ (c : Bool). list_all (rule_fits c) (rules_of x.1.code) ≡ true) dated (rules_fit x.1.code))
      (sym (number_of_node x.1.domain a.domain)) (λ e. absurd (true≢false (sym e))) (λ e. sym (number_of_node x.1.range (a.range dated))) o i
  orders_go true x k dated a o i = by (instant_of names x.1) refl i
    where
      by : (t : Option ℤ) → instant_of names x.1 ≡ t → In o (orders_with x (extent_number our_extents x.1.domain) (option_map (date_number (dates_of names ours)) t))
          → (p : Order) × In p (orders_with (k, renamed_statement m x.1) (extent_number their_extents (m x.1.domain)) (option_map (date_number (dates_of other theirs)) (instant_of other (renamed_statement m x.1)))) × IsMoved point_of o p
      by None e i = absurd i
      by (Some t) e i =
          subst (λ (t' : Option ℤ). (p : Order) × In p (orders_with (k, renamed_statement m x.1) (extent_number their_extents (m x.1.domain)) (option_map (date_number (dates_of other theirs)) t')) × IsMoved point_of o p)
          (sym (instant_same names other triples others m same x.1 ∙ e))
          (rule_order true (rules_of x.1.code) x.0 k _ _ _ _ (subst (λ (c : Bool). list_all (rule_fits c) (rules_of x.1.code) ≡ true) dated (rules_fit x.1.code))
          (sym (number_of_node x.1.domain a.domain)) (λ u. ap (λ (ds : List ℤ). date_number ds t) (dates_same names other triples others m same)) (λ u. absurd (true≢false u)) o i)

  -- each order of the one is, by the new numbers, one of the other
  pub orders_become : Become point_of (orders_of names (number_from 0 triples) our_faults).list (orders_of other (number_from 0 others) their_faults).list
  orders_become o i = elim (in_either (statement_orders names our_extents (dates_of names ours) ours) (extent_orders (length our_extents) ++ date_orders (length (dates_of names ours) - 1)) o i) [
    | inl a ↦ (
        let x = in_flat (orders_by names our_extents (dates_of names ours)) ours o a in
        let k = statements_in other others (renamed_statement m x.0.1) (states_goes names other triples others m same x.0.1 (in_statements names triples x.0 x.1)) in
        let p = orders_go (is_dated x.0.1.code) x.0 k.0 refl (statement_numbered x.0 x.1) o x.2 in (
          p.0,
          in_left (statement_orders other their_extents (dates_of other theirs) theirs) (extent_orders (length their_extents) ++ date_orders (length (dates_of other theirs) - 1)) p.0
              (flat_in (orders_by other their_extents (dates_of other theirs)) theirs (k.0, renamed_statement m x.0.1) p.0 k.1 p.1),
          p.2,
        ))
    | inr b ↦ elim (in_either (extent_orders (length our_extents)) (date_orders (length (dates_of names ours) - 1)) o b) [
      | inl c ↦ (
          let e = in_extents (length our_extents) o c in (
            record { low = Start (number_at e.0); high = End (number_at e.0); strict = true; by = Extent (number_at e.0) },
            in_right (statement_orders other their_extents (dates_of other theirs) theirs) _ _ (in_left (extent_orders (length their_extents)) (date_orders (length (dates_of other theirs) - 1)) _
                (extents_in (length their_extents) (number_at e.0) (number_within e.0 e.1))),
            extent_moved e.0 o e.2,
          ))
      | inr d ↦ (
          let e = in_date_orders (length (dates_of names ours) - 1) o d in (
            o,
            in_right (statement_orders other their_extents (dates_of other theirs) theirs) _ _ (in_right (extent_orders (length their_extents)) (date_orders (length (dates_of other theirs) - 1)) o
                (subst (λ (ds : List ℤ). In o (date_orders (length ds - 1))) (sym (dates_same names other triples others m same)) d)),
            date_moved e.0 o e.1,
          ))
    ]
  ]
    where
      extent_moved : (k : ℕ) (o : Order) → o ≡ record { low = Start k; high = End k; strict = true; by = Extent k }
          → IsMoved point_of o (record { low = Start (number_at k); high = End (number_at k); strict = true; by = Extent (number_at k) })
      extent_moved k o e = subst (λ (x : Order). IsMoved point_of x (record { low = Start (number_at k); high = End (number_at k); strict = true; by = Extent (number_at k) })) (sym e) (record { low = refl; high = refl; strict = refl })

      date_moved : (k : ℕ) (o : Order) → o ≡ record { low = Date k; high = Date (k + 1); strict = true; by = Dates } → IsMoved point_of o o
      date_moved k o e = subst (λ (x : Order). IsMoved point_of x x) (sym e) (record { low = refl; high = refl; strict = refl })
