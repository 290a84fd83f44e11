-- A period has the number of an extent.
use Rattle.std.proofs.Common.{◌≡◌, ℕ, ◌<◌, Bool, true, false, cond, List, length, Option, Some, None, IfSome, refl}
use Rattle.std.specs.Prelude.{slice_get, position}
use Rattle.std.proofs.lemmas.Option.{slice_get_within}
use Rattle.rdf_terms.specs.declared.terms.Term.{Term}
use Rattle.rdf_terms.specs.Naming.{NameLists}
use Rattle.rdf_terms.specs.Terms.{same_term}
use Rattle.period_names.specs.declared.asking.Period.{Period}
use Rattle.period_names.specs.Naming.{node_named, period_where, period_at, period_of, period_named}

where_within : (es : List (Term × Bool)) (k : ℕ) (node : Term) (o : Option (Term × Bool)) → slice_get es k ≡ o → IfSome (period_where k node o) (λ x. x.number < length es)
where_within es k node None e = tt
where_within es k node (Some row) e = by row.1
  where
    by : (b : Bool) → IfSome (cond b (Some (record { number = k; node = node })) None) (λ (x : Period). x.number < length es)
    by true = slice_get_within es k row e
    by false = tt

at_within : (es : List (Term × Bool)) (node : Term) (o : Option ℕ) → IfSome (period_at es node o) (λ x. x.number < length es)
at_within es node None = tt
at_within es node (Some k) = where_within es k node (slice_get es k) refl

of_within : (es : List (Term × Bool)) (o : Option Term) → IfSome (period_of es o) (λ x. x.number < length es)
of_within es None = tt
of_within es (Some node) = at_within es node (position (λ e. same_term node e.0) es)

pub period_within : (names : NameLists) (es : List (Term × Bool)) (word : List ℕ) → IfSome (period_named names es word) (λ x. x.number < length es)
period_within names es word = of_within es (node_named names word)
