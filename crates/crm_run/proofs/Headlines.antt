-- What a run says is true of every placing.
use Rattle.std.proofs.Common.{◌≡◌, ℕ, ℤ, ◌<◌, List, ◌++◌, Option, Some, None, IfSome, length, refl, sym, subst, ◌∙◌, inl, inr}
use Rattle.std.specs.Prelude.{◌⊎◌, Result, Ok, Err}
use Rattle.std.specs.List.{All}
use Rattle.std.proofs.lemmas.List.{append_assoc}
use Rattle.rdf_terms.specs.declared.terms.Refusal.{Refusal}
use Rattle.rdf_terms.specs.declared.triples.Records.{Records}
use Rattle.crm_legacy.specs.Modern.{modern_of}
use Rattle.period_names.specs.declared.asking.Period.{Period as NamedPeriod}
use Rattle.period_names.specs.Naming as naming
use Rattle.period_names.proofs.Within.{period_within as named_within}
use Rattle.order_analysis.specs.Subjects.{cycle_of}
use Rattle.order_conflicts.specs.Conflicts.{conflicts_in}
use Rattle.order_conflicts.specs.Tangles.{set_of}
use Rattle.conflict_reports.specs.Texts.{found_report, outcome_text}
use Rattle.boundary_orders.specs.Dossiers.{AreFew, Findings as Found}
use Rattle.dating_reports.specs.Bounds.{around_report}
use Rattle.dating_reports.specs.When.{at_report}
use Rattle.allen_reports.specs.Relations.{examples_text}
use Rattle.allen_reports.specs.Reports as relations
use Rattle.allen_reports.specs.Reports.{consistent_text as table_text, of_modern, refusal_report, relations_report, table_report, text_by as relations_by}
use Rattle.order_laws.specs.Tables.{IsOrderSet}
use Rattle.order_laws.specs.declared.Order.{Order}
use Rattle.order_core.specs.Sets.{Orders, AreExtents, completed}
use Rattle.order_core.specs.declared.primitives.Primitive.{Primitive}
use Rattle.reason_report.specs.Answers.{answer_text}
use Rattle.reason_report.specs.Reason.{report_text}
use Rattle.rdf_reading.specs.Answers.{Answer}
use Rattle.crm_outside.specs.Printing.{Printed}
use Rattle.crm_outside.specs.Shelves.{Files}
use Rattle.inference_reports.specs.declared.asking.Period.{Period}
use Rattle.report_base.specs.declared.status.Status.{Status}
use Rattle.report_base.specs.declared.status.Status.TheVariants.{Done, Findings, Refused, Usage, ReadFault}
use Rattle.inference_reports.specs.Explained.{explained_text, named_report, period_lines, period_named, periods_report}
use Rattle.report_base.specs.Reports.{Report, faults_in, findings_from, within_limits}
use Rattle.inference_reports.specs.Reasons.{reason_text, reasons_report}
use Rattle.report_base.specs.Texts.{check_text, extents_text, orders_text}
use Rattle.report_base.proofs.Limits.{within, few_of}
use Rattle.inference_reports.proofs.Naming.{period_within}
use Rattle.archive_join.specs.Archives.{joined}
use Rattle.command_words.specs.Tasks.{query_of}
use Rattle.command_words.specs.declared.tasks.Query.{Query}
use Rattle.command_words.specs.declared.tasks.Query.TheVariants as query
use Rattle.command_words.specs.declared.tasks.Task.{Task}
use Rattle.command_words.specs.declared.tasks.Task.TheVariants as task
use Rattle.crm_run.specs.Headline.{IsTrueReason, IsTrueAnswer, IsTrueTable, IsTrueList, IsTrueConflicts, IsStated, IsReasoned, IsExplained, IsBounded, IsConflicted, IsUnderWayAt, IsTabled, IsRelated, OfModern, IsReport, IsSaid, Says, SaysTruly, front_of}
use Rattle.crm_run.specs.Outcomes.{Outcome, Ends, Faulted, IsFaulted}
use Rattle.crm_run.specs.Report.{asked_report, parts_of, read_fault_report, records_report, report_by}
use Rattle.crm_run.proofs.Joins.{within_limits_together}
use Rattle.crm_run.proofs.Stated.{all_stated, stated}

module _
    (reasons : (set : Orders) (periods front : List ℕ) → IsOrderSet set.list set.extents set.dates → AreExtents set.extents periods →
    IsTrueReason set periods front (front ++ report_text set periods))
    (answers : (set : Orders) (a : ℕ) (p : Primitive) (b : ℕ) (front : List ℕ) → IsOrderSet set.list set.extents set.dates →
    a < set.extents → b < set.extents → IsTrueAnswer set a p b front (front ++ answer_text set a p b))
    (sets : (r : Records) → IsOrderSet (findings_from r).orders.list (findings_from r).orders.extents (findings_from r).orders.dates)
    (ranges : (r : Records) → AreExtents (findings_from r).orders.extents (findings_from r).periods)
    (tables : (set : Orders) (periods front : List ℕ) → IsOrderSet set.list set.extents set.dates → AreExtents set.extents periods →
    IsTrueTable set periods front (front ++ relations_by (cycle_of set) (table_text set periods)))
    (lists : (set : Orders) (a b : ℕ) (front : List ℕ) → IsOrderSet set.list set.extents set.dates → a < set.extents → b < set.extents →
    IsTrueList set a b front (front ++ relations_by (cycle_of set) (examples_text set a b)))
    (bounds : (r : Records) → AreFew (findings_from r) → IsBounded r (around_report r.names (findings_from r)).text)
    (moments : (r : Records) (t : ℤ) → AreFew (findings_from r) → IsUnderWayAt t r (at_report r.names (findings_from r) t).text)
    (conflicts : (extents : ℕ) (dates : List ℤ) (statements : List Order) (front : List ℕ) → All IsStated statements →
    IsOrderSet (completed extents (length dates) statements) extents dates → IsTrueConflicts (set_of extents dates statements) front (front ++ outcome_text (conflicts_in (set_of extents dates statements))))
    {S : Type 0} (written : S → Option (List ℕ)) (faults sure : S → ℕ) (a b : S) (status : Status) where
  -- the whole report at its own status
  whole : (r : Report) → IsReport status → Outcome written faults sure a b r status → (r.status ≡ status) × Printed written faults sure a b r.text
  whole r is p =
      elim is [
        | inl done ↦ (let q = subst (λ (s : Status). Outcome written faults sure a b r s) done p in (q.0 ∙ sym done, q.1))
        | inr found ↦ (let q = subst (λ (s : Status). Outcome written faults sure a b r s) found p in (q.0 ∙ sym found, q.1))
      ]

  not_other : (s : Status) → (s ≡ Done → ⊥) → (s ≡ Findings → ⊥) → IsReport status → s ≡ status → ⊥
  not_other s no_done no_found is e = elim is [ inl done ↦ no_done (e ∙ done) | inr found ↦ no_found (e ∙ found) ]

  not_refused : IsReport status → Refused ≡ status → ⊥
  not_refused is e = not_other Refused (λ d. let never : ⊥ = cc in never) (λ d. let never : ⊥ = cc in never) is e

  not_usage : IsReport status → Usage ≡ status → ⊥
  not_usage is e = not_other Usage (λ d. let never : ⊥ = cc in never) (λ d. let never : ⊥ = cc in never) is e

  not_read_fault : IsReport status → ReadFault ≡ status → ⊥
  not_read_fault is e = not_other ReadFault (λ d. let never : ⊥ = cc in never) (λ d. let never : ⊥ = cc in never) is e

  -- a report within the limits, which says what is true
  said_within : (P : List ℕ → Type 0) (found : Found) (asked : Report) → (AreFew found → P asked.text) → IsReport status →
      Outcome written faults sure a b (within_limits found asked) status → IsSaid written a b P
  said_within P found asked true is p =
      let got = whole (within_limits found asked) is p in
      let few = few_of found asked status (not_refused is) got.0 in
      record {
        text = asked.text;
        whole = (subst (λ (x : Report). Printed written faults sure a b x.text) (within found asked few.0) got.1).whole;
        said = true few.0;
      }

  reasoned : (r : Records) → IsReasoned r (reason_text r)
  reasoned r =
      subst (λ (text : List ℕ). IsReasoned r text)
      (append_assoc (check_text r.triples (faults_in r)) (orders_text r.names (findings_from r)) (report_text (findings_from r).orders (findings_from r).periods))
      (reasons (findings_from r).orders (findings_from r).periods (front_of r) (sets r) (ranges r))

  numbered : (r : Records) (word : List ℕ) (x : Period) → period_named r.names (findings_from r).extents word ≡ Some x → x.number < (findings_from r).orders.extents
  numbered r word x e = subst (λ (o : Option Period). IfSome o (λ y. y.number < length (findings_from r).extents)) e (period_within r.names (findings_from r).extents word)

  explained : (r : Records) (left : List ℕ) (p : Primitive) (right : List ℕ) (x y : Option Period) → period_named r.names (findings_from r).extents left ≡ x →
      period_named r.names (findings_from r).extents right ≡ y → IsReport status → (named_report r.names (findings_from r) left p right x y).status ≡ status →
      Printed written faults sure a b (named_report r.names (findings_from r) left p right x y).text → IsSaid written a b (IsExplained r left p right)
  explained r left p right None y e f is s h = absurd (not_usage is s)
  explained r left p right (Some x) None e f is s h = absurd (not_usage is s)
  explained r left p right (Some x) (Some y) e f is s h = record {
    text = explained_text r.names (findings_from r).orders x p y;
    whole = h.whole;
    said = record {
      left = x;
      right = y;
      named_left = e;
      named_right = f;
      answer = answers (findings_from r).orders x.number p y.number (period_lines r.names x y) (sets r) (numbered r left x e) (numbered r right y f);
    };
  }

  tabled : (o : Result Records Refusal) → IsReport status → Outcome written faults sure a b (of_modern table_report o) status → IsSaid written a b (OfModern IsTabled o)
  tabled (Err f) is p = absurd (not_refused is (whole (refusal_report f) is p).0)
  tabled (Ok m) is p =
      said_within (IsTabled m) (findings_from m) (relations_report m.names (findings_from m))
      (λ few. tables (findings_from m).orders (findings_from m).periods (extents_text m.names (findings_from m).extents) (sets m) (ranges m)) is p

  numbered_in : (m : Records) (word : List ℕ) (x : NamedPeriod) → naming.period_named m.names (findings_from m).extents word ≡ Some x → x.number < (findings_from m).orders.extents
  numbered_in m word x e = subst (λ (o : Option NamedPeriod). IfSome o (λ y. y.number < length (findings_from m).extents)) e (named_within m.names (findings_from m).extents word)

  related : (m : Records) (left right : List ℕ) (x y : Option NamedPeriod) → naming.period_named m.names (findings_from m).extents left ≡ x →
      naming.period_named m.names (findings_from m).extents right ≡ y → IsReport status → (relations.named_report m.names (findings_from m) left right x y).status ≡ status →
      Printed written faults sure a b (relations.named_report m.names (findings_from m) left right x y).text → IsSaid written a b (IsRelated left right m)
  related m left right None y e f is s h = absurd (not_usage is s)
  related m left right (Some x) None e f is s h = absurd (not_usage is s)
  related m left right (Some x) (Some y) e f is s h = record {
    text = relations.pair_text m.names (findings_from m).orders x y;
    whole = h.whole;
    said = record {
      left = x;
      right = y;
      named_left = e;
      named_right = f;
      list = lists (findings_from m).orders x.number y.number (naming.period_lines m.names x y) (sets m) (numbered_in m left x e) (numbered_in m right y f);
    };
  }

  paired : (left right : List ℕ) (o : Result Records Refusal) → IsReport status → Outcome written faults sure a b (of_modern (relations.question_report left right) o) status →
      IsSaid written a b (OfModern (IsRelated left right) o)
  paired left right (Err f) is p = absurd (not_refused is (whole (refusal_report f) is p).0)
  paired left right (Ok m) is p =
      let asked : Report = relations.periods_report m.names (findings_from m) left right in
      let got = whole (within_limits (findings_from m) asked) is p in
      let few = few_of (findings_from m) asked status (not_refused is) got.0 in
      related m left right (naming.period_named m.names (findings_from m).extents left) (naming.period_named m.names (findings_from m).extents right) refl refl is few.1
      (subst (λ (x : Report). Printed written faults sure a b x.text) (within (findings_from m) asked few.0) got.1)

  says : (q : Query) (r : Records) → IsReport status → Ends written faults sure a b (records_report q r) status → Says written a b q r
  says query.Reason r is p = said_within (IsReasoned r) (findings_from r) (reasons_report r) (λ few. reasoned r) is p
  says (query.Explain left code right) r is p =
      let asked : Report = periods_report r.names (findings_from r) left code right in
      let got = whole (within_limits (findings_from r) asked) is p in
      let few = few_of (findings_from r) asked status (not_refused is) got.0 in
      explained r left code right (period_named r.names (findings_from r).extents left) (period_named r.names (findings_from r).extents right) refl refl is few.1
      (subst (λ (x : Report). Printed written faults sure a b x.text) (within (findings_from r) asked few.0) got.1)
  says query.Bounds r is p = said_within (IsBounded r) (findings_from r) (around_report r.names (findings_from r)) (bounds r) is p
  says (query.When t) r is p = said_within (IsUnderWayAt t r) (findings_from r) (at_report r.names (findings_from r) t) (moments r t) is p
  says query.Conflicts r is p =
      said_within (IsConflicted r) (findings_from r) (found_report r.names (findings_from r))
      (λ few. conflicts (findings_from r).orders.extents (findings_from r).orders.dates (stated r) (orders_text r.names (findings_from r)) (all_stated r) (sets r)) is p
  says query.Allen r is p = tabled (modern_of r) is p
  says (query.AllenPair left right) r is p = paired left right (modern_of r) is p
  says other r is p = tt

  faulted : (files : Files) (t : Task) → IsReport status → IsFaulted written faults sure a b files t status → ⊥
  faulted files t is f = not_read_fault is (whole (read_fault_report f.name) is f.told).0

  says_truly : (rose : Type 0) (files : Files) (t : Task) →
      Ends written faults sure a b (asked_report (Some t) files) status ⊎ Faulted written faults sure a b rose files (Some t) status →
      SaysTruly written a b files (Some t) status
  says_truly rose files (task.Report base file q) p = λ r e is.
      elim p [
        | inl ends ↦ says q r is (subst (λ (x : Option Answer). Ends written faults sure a b (report_by file (records_report q) x) status) e ends)
        | inr fault ↦ absurd (faulted files (task.Report base file q) is fault.1)
      ]
  says_truly rose files (task.Join base k names) p = λ none few is.
      elim p [
        | inl ends ↦
            says (query_of k) (joined (parts_of base files names)).records is
            (subst (λ (x : Option Report). Ends written faults sure a b x status) (within_limits_together (records_report (query_of k)) base files names none few) ends)
        | inr fault ↦ absurd (faulted files (task.Join base k names) is fault.1)
      ]
  says_truly rose files other p = tt

  pub headline : (rose : Type 0) (o : Option Files) (t : Option Task) →
      IfSome o (λ files. Ends written faults sure a b (asked_report t files) status ⊎ Faulted written faults sure a b rose files t status) →
      IfSome o (λ files. SaysTruly written a b files t status)
  headline rose None t p = tt
  headline rose (Some files) None p = tt
  headline rose (Some files) (Some t) p = says_truly rose files t p
