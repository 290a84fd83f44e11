-- The periods that words name, and the status of what is said of them.
use Rattle.std.proofs.Common.{◌≡◌, ℕ, ◌<◌, Bool, true, false, cond, List, length, Option, Some, None, IfSome, refl, ap, ◌∙◌, inl, inr}
use Rattle.std.specs.Prelude.{◌⊎◌, slice_get, position}
use Rattle.std.proofs.lemmas.Option.{slice_get_within}
use Rattle.rdf_terms.specs.declared.terms.Term.{Term}
use Rattle.rdf_terms.specs.declared.triples.Records.{Records}
use Rattle.rdf_terms.specs.Naming.{NameLists}
use Rattle.rdf_terms.specs.Terms.{same_term}
use Rattle.order_core.specs.declared.primitives.Primitive.{Primitive}
use Rattle.boundary_orders.specs.Dossiers.{Findings, AreFew}
use Rattle.reason_report.specs.declared.answers.Answer.{Answer}
use Rattle.reason_report.specs.declared.answers.Answer.TheVariants.{Holds, Fails, Inconsistent}
use Rattle.reason_report.specs.Answers.{answer_of}
use Rattle.inference_reports.specs.declared.asking.Period.{Period}
use Rattle.report_base.specs.declared.status.Status.TheVariants.{Usage}
use Rattle.report_base.specs.Reports.{Report, findings_from}
use Rattle.inference_reports.specs.Explained.{node_named, period_where, period_at, period_of, period_named, answer_status, named_report, periods_report, explain_report}
use Rattle.report_base.proofs.Limits.{few_of, within}

-- a period has the number of an extent
where_within : (es : List (Term × Bool)) (k : ℕ) (node : Term) (o : Option (Term × Bool)) → slice_get es k ≡ o → IfSome (period_where k node o) (λ x. x.number < length es)
where_within es k node None e = tt
where_within es k node (Some row) e = by row.1
  where
    by : (b : Bool) → IfSome (cond b (Some (record { number = k; node = node })) None) (λ (x : Period). x.number < length es)
    by true = slice_get_within es k row e
    by false = tt

at_within : (es : List (Term × Bool)) (node : Term) (o : Option ℕ) → IfSome (period_at es node o) (λ x. x.number < length es)
at_within es node None = tt
at_within es node (Some k) = where_within es k node (slice_get es k) refl

of_within : (es : List (Term × Bool)) (o : Option Term) → IfSome (period_of es o) (λ x. x.number < length es)
of_within es None = tt
of_within es (Some node) = at_within es node (position (λ e. same_term node e.0) es)

pub period_within : (names : NameLists) (es : List (Term × Bool)) (word : List ℕ) → IfSome (period_named names es word) (λ x. x.number < length es)
period_within names es word = of_within es (node_named names word)

-- an answer is no usage
pub answered : (v : Answer) → answer_status v ≡ Usage → ⊥
answered Holds e = let never : ⊥ = cc in never
answered Fails e = let never : ⊥ = cc in never
answered Inconsistent e = let never : ⊥ = cc in never

-- a usage comes where a word names no period
pub unnamed_of : (names : NameLists) (found : Findings) (a : List ℕ) (p : Primitive) (b : List ℕ) (x y : Option Period) → (named_report names found a p b x y).status ≡ Usage → (x ≡ None) ⊎ (y ≡ None)
unnamed_of names found a p b None y e = inl refl
unnamed_of names found a p b (Some x) None e = inr refl
unnamed_of names found a p b (Some x) (Some y) e = absurd (answered (answer_of found.orders x.number p y.number) e)

-- and wherever one does
of_unnamed : (names : NameLists) (found : Findings) (a : List ℕ) (p : Primitive) (b : List ℕ) (x y : Option Period) → (x ≡ None) ⊎ (y ≡ None) → (named_report names found a p b x y).status ≡ Usage
of_unnamed names found a p b None y h = refl
of_unnamed names found a p b (Some x) None h = refl
of_unnamed names found a p b (Some x) (Some y) h = elim h [ inl e ↦ absurd (let never : ⊥ = cc in never) | inr e ↦ absurd (let never : ⊥ = cc in never) ]

pub usage_of : (r : Records) (a : List ℕ) (p : Primitive) (b : List ℕ) → (explain_report r a p b).status ≡ Usage → AreFew (findings_from r)
    × ((period_named r.names (findings_from r).extents a ≡ None) ⊎ (period_named r.names (findings_from r).extents b ≡ None))
usage_of r a p b e =
    let few = few_of (findings_from r) (periods_report r.names (findings_from r) a p b) Usage (λ h. let never : ⊥ = cc in never) e in
    (few.0, unnamed_of r.names (findings_from r) a p b (period_named r.names (findings_from r).extents a) (period_named r.names (findings_from r).extents b) few.1)

pub of_usage : (r : Records) (a : List ℕ) (p : Primitive) (b : List ℕ) → AreFew (findings_from r)
    × ((period_named r.names (findings_from r).extents a ≡ None) ⊎ (period_named r.names (findings_from r).extents b ≡ None)) → (explain_report r a p b).status ≡ Usage
of_usage r a p b h =
    ap (λ (x : Report). x.status) (within (findings_from r) (periods_report r.names (findings_from r) a p b) h.0)
    ∙ of_unnamed r.names (findings_from r) a p b (period_named r.names (findings_from r).extents a) (period_named r.names (findings_from r).extents b) h.1
