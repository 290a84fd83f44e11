-- The orders of statements, completed by those of extents and of dates, make a set.
use Rattle.std.proofs.Common.{zero, suc, ◌≡◌, ℕ, ℤ, List, [], ◌∷◌, ◌++◌, true, ◌+◌, ◌-◌, ◌<◌, length, arith, inl, inr, refl, subst, ap, sym, ◌∙◌, length-append, append_assoc}
use Rattle.std.proofs.lemmas.Bool.{cases_eq, cases_lt}
use Rattle.std.proofs.lemmas.List.{get_or_append_left, get_or-append_right, get_or-append-add, get_or_push, length_push}
use Rattle.order_laws.specs.declared.Point.TheVariants.{Start, End, Date}
use Rattle.order_laws.specs.declared.By.TheVariants.{Extent, Dates}
use Rattle.order_laws.specs.declared.Order.{Order}
use Rattle.order_laws.specs.Chains.{order_at, no_order}
use Rattle.order_laws.specs.Tables.{IsPoint, IsOrderSet}
use Rattle.order_core.specs.Sets.{AreInRange, AreAscending, extent_orders, date_orders, completed}

abbrev extent_order : ℕ → Order
extent_order k = record { low = Start k; high = End k; strict = true; by = Extent k }

abbrev date_order : ℕ → Order
date_order k = record { low = Date k; high = Date (k + 1); strict = true; by = Dates }

-- each order of the list has the property
record Each (P : Order → Type 0) (list : List Order) : Type 0 where
  at : (n : ℕ) → n < length list → P (order_at list n)

each_append : (P : Order → Type 0) (xs ys : List Order) → Each P xs → Each P ys → Each P (xs ++ ys)
each_append P xs ys a b = record {
  at = λ n h. elim (cases_lt n (length xs)) [
    | inl lt ↦ rw (get_or_append_left xs ys no_order n lt) (a.at n lt)
    | inr ge ↦ rw (get_or-append_right xs ys (length xs) n no_order refl ge) (b.at (n - length xs) (omega (arith, length-append xs ys)))
  ];
}

each_push : (P : Order → Type 0) (xs : List Order) (y : Order) → Each P xs → P y → Each P (xs ++ y ∷ [])
each_push P xs y a p = record {
  at = λ n h. elim (cases_eq n (length xs)) [
    | inl last ↦ rw (get_or_push xs y no_order n (sym last)) p
    | inr other ↦ (let lt : n < length xs = omega (arith, length_push xs y, other) in rw (get_or_append_left xs (y ∷ []) no_order n lt) (a.at n lt))
  ];
}

each_extent : (P : Order → Type 0) (extents : ℕ) → ((k : ℕ) → k < extents → P (extent_order k)) → Each P (extent_orders extents)
each_extent P zero all = record { at = λ n h. absurd (omega arith) }
each_extent P (suc k) all =
    each_push P (extent_orders k) (extent_order k) (each_extent P k (λ j h. all j (omega arith))) (all k (omega arith))

each_date : (P : Order → Type 0) (pairs : ℕ) → ((k : ℕ) → k < pairs → P (date_order k)) → Each P (date_orders pairs)
each_date P zero all = record { at = λ n h. absurd (omega arith) }
each_date P (suc k) all =
    each_push P (date_orders k) (date_order k) (each_date P k (λ j h. all j (omega arith))) (all k (omega arith))

pub length-extent_orders : (extents : ℕ) → length (extent_orders extents) ≡ extents
length-extent_orders zero = refl
length-extent_orders (suc k) = omega (arith, length_push (extent_orders k) (extent_order k), length-extent_orders k)

pub length-date_orders : (pairs : ℕ) → length (date_orders pairs) ≡ pairs
length-date_orders zero = refl
length-date_orders (suc k) = omega (arith, length_push (date_orders k) (date_order k), length-date_orders k)

extent_at : (extents n : ℕ) → n < extents → order_at (extent_orders extents) n ≡ extent_order n
extent_at zero n h = absurd (omega arith)
extent_at (suc k) n h =
    elim (cases_eq n k) [
      | inl last ↦ (let P : ℕ → Type 0 = λ j. order_at (extent_orders (suc k)) j ≡ extent_order j in
          subst P (sym last) (get_or_push (extent_orders k) (extent_order k) no_order k (length-extent_orders k)))
      | inr other ↦ get_or_append_left (extent_orders k) (extent_order k ∷ []) no_order n (omega (arith, length-extent_orders k, other))
          ∙ extent_at k n (omega (arith, other))
    ]

date_at : (pairs n : ℕ) → n < pairs → order_at (date_orders pairs) n ≡ date_order n
date_at zero n h = absurd (omega arith)
date_at (suc k) n h =
    elim (cases_eq n k) [
      | inl last ↦ (let P : ℕ → Type 0 = λ j. order_at (date_orders (suc k)) j ≡ date_order j in
          subst P (sym last) (get_or_push (date_orders k) (date_order k) no_order k (length-date_orders k)))
      | inr other ↦ get_or_append_left (date_orders k) (date_order k ∷ []) no_order n (omega (arith, length-date_orders k, other))
          ∙ date_at k n (omega (arith, other))
    ]

pub length-completed : (extents dates : ℕ) (statements : List Order) →
    length (completed extents dates statements) ≡ length statements + (extents + (dates - 1))
length-completed extents dates statements =
    omega (
      arith,
      length-append statements (extent_orders extents ++ date_orders (dates - 1)),
      length-append (extent_orders extents) (date_orders (dates - 1)),
      length-extent_orders extents,
      length-date_orders (dates - 1),
    )

completed_extent : (extents dates : ℕ) (statements : List Order) (k : ℕ) → k < extents →
    order_at (completed extents dates statements) (length statements + k) ≡ extent_order k
completed_extent extents dates statements k h =
    get_or-append-add statements (extent_orders extents ++ date_orders (dates - 1)) k no_order
    ∙ get_or_append_left (extent_orders extents) (date_orders (dates - 1)) no_order k (omega (arith, length-extent_orders extents))
    ∙ extent_at extents k h

completed_date : (extents dates : ℕ) (statements : List Order) (k : ℕ) → k < dates - 1 →
    order_at (completed extents dates statements) (length statements + (length (extent_orders extents) + k)) ≡ date_order k
completed_date extents dates statements k h =
    get_or-append-add statements (extent_orders extents ++ date_orders (dates - 1)) (length (extent_orders extents) + k) no_order
    ∙ get_or-append-add (extent_orders extents) (date_orders (dates - 1)) k no_order
    ∙ date_at (dates - 1) k h

each_completed : (P : Order → Type 0) (extents dates : ℕ) (statements : List Order) → Each P statements →
    ((k : ℕ) → k < extents → P (extent_order k)) → ((k : ℕ) → k < dates - 1 → P (date_order k)) →
    Each P (completed extents dates statements)
each_completed P extents dates statements s e d =
    each_append P statements (extent_orders extents ++ date_orders (dates - 1)) s
    (each_append P (extent_orders extents) (date_orders (dates - 1)) (each_extent P extents e) (each_date P (dates - 1) d))

pub completed_is_set : (extents : ℕ) (dates : List ℤ) (statements : List Order) →
    AreAscending dates → AreInRange extents (length dates) statements →
    IsOrderSet (completed extents (length dates) statements) extents dates
completed_is_set extents dates statements ascending range = record {
  low_in_range = (each_completed (λ o. IsPoint extents (length dates) o.low) extents (length dates) statements
      (record { at = range.low }) (λ k h. h) (λ k h. omega arith)).at;
  high_in_range = (each_completed (λ o. IsPoint extents (length dates) o.high) extents (length dates) statements
      (record { at = range.high }) (λ k h. h) (λ k h. omega arith)).at;
  ascending = ascending.each;
  neighbours = λ k h. (
    length statements + (length (extent_orders extents) + k),
    (let is : order_at (completed extents (length dates) statements) (length statements + (length (extent_orders extents) + k)) ≡ date_order k
        = completed_date extents (length dates) statements k (omega arith) in (
          omega (arith, length-completed extents (length dates) statements, length-extent_orders extents),
          ap (λ (o : Order). o.low) is,
          ap (λ (o : Order). o.high) is,
          ap (λ (o : Order). o.strict) is,
        )),
  );
  starts_before_ends = λ k h. (
    length statements + k,
    (let is : order_at (completed extents (length dates) statements) (length statements + k) ≡ extent_order k
        = completed_extent extents (length dates) statements k h in (
          omega (arith, length-completed extents (length dates) statements),
          ap (λ (o : Order). o.low) is,
          ap (λ (o : Order). o.high) is,
          ap (λ (o : Order). o.strict) is,
        )),
  );
}

pub completed_by : (extents dates pairs : ℕ) (statements middle list : List Order) →
    middle ≡ statements ++ extent_orders extents → list ≡ middle ++ date_orders pairs → pairs ≡ dates - 1 →
    list ≡ completed extents dates statements
completed_by extents dates pairs statements middle list is_middle is_list is_pairs =
    rw (is_list, is_middle, is_pairs) (append_assoc statements (extent_orders extents) (date_orders (dates - 1)))
