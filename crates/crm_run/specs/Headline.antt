-- What a run says of a file is true of every placing.
use Rattle.std.specs.Prelude.{◌≡◌, ◌≢◌, ◌⊎◌, ◌↔◌, ◌*◌, ◌<◌, ⊤, ℕ, ℤ, List, [], ◌∷◌, ◌++◌, length, codes, Option, Some, None, Result, Ok, Err, IfSome}
use Rattle.std.specs.List.{All, Contains}
use Rattle.std.specs.Io.KnownBytes.{Appends}
use Rattle.rdf_terms.specs.declared.terms.Refusal.{Refusal}
use Rattle.rdf_terms.specs.declared.triples.Records.{Records}
use Rattle.order_laws.specs.declared.By.TheVariants.{Triple as FromTriple}
use Rattle.order_laws.specs.declared.Order.{Order}
use Rattle.order_laws.specs.declared.Point.{Point}
use Rattle.order_laws.specs.declared.Position.{Position}
use Rattle.order_laws.specs.Chains.{order_at}
use Rattle.order_laws.specs.FirstChains.{IsChainOf, IsFirstCycle}
use Rattle.order_laws.specs.Lists.{IsAtMost}
use Rattle.order_laws.specs.Placings.{IsSatisfied, IsConsistent, AlwaysStand, position_at}
use Rattle.order_laws.specs.Positions.{Stand}
use Rattle.order_laws.specs.Wider.{delaying_placing}
use Rattle.order_core.specs.Sets.{Orders}
use Rattle.order_core.specs.Primitives.{points_of}
use Rattle.order_core.specs.declared.primitives.Primitive.{Primitive}
use Rattle.reason_report.specs.declared.relations.Relation.{Relation}
use Rattle.reason_report.specs.Answers.{fails_text, holds_text}
use Rattle.reason_report.specs.Listings.{IsListed}
use Rattle.reason_report.specs.Reason.{consistent_text, inconsistent_text}
use Rattle.order_analysis.specs.Reasons.{reason_of}
use Rattle.order_core.specs.Sides.{left_point, right_point}
use Rattle.reason_report.specs.Relations.{relations_of}
use Rattle.rdf_reading.specs.Answers.Answer.{Read}
use Rattle.crm_outside.specs.Shelves.{Files}
use Rattle.inference_reports.specs.declared.asking.Period.{Period}
use Rattle.report_base.specs.declared.status.Status.{Status}
use Rattle.report_base.specs.declared.status.Status.TheVariants.{Done, Findings}
use Rattle.inference_reports.specs.Explained.{period_lines, period_named}
use Rattle.report_base.specs.Reports.{faults_in, findings_from}
use Rattle.report_base.specs.Texts.{check_text, extents_text, orders_text}
use Rattle.period_names.specs.declared.asking.Period.{Period as NamedPeriod}
use Rattle.period_names.specs.Naming as naming
use Rattle.crm_legacy.specs.Modern.{modern_of}
use Rattle.crm_allen.specs.declared.relations.Allen.{Allen}
use Rattle.crm_allen.specs.Possible.{possible_relations}
use Rattle.crm_allen.specs.Relations.{IsPossible, example_placing, relation_orders}
use Rattle.allen_reports.specs.Relations.{examples_text}
use Rattle.allen_reports.specs.Reports.{consistent_text as table_text}
use Rattle.dating_bounds.specs.declared.extremes.Bound.{Bound}
use Rattle.dating_bounds.specs.declared.moments.During.{During}
use Rattle.dating_reports.specs.Headlines.{AreBounds, AreDuring, text_of_bounds, text_of_during}
use Rattle.dating_reports.specs.When.{instant_line}
use Rattle.order_conflicts.specs.declared.conflicts.Conflicts.{Conflicts}
use Rattle.order_conflicts.specs.declared.suspects.Suspect.{Suspect}
use Rattle.order_conflicts.specs.declared.tangles.Tangle.{Tangle}
use Rattle.order_conflicts.specs.Rings.{IsCycle}
use Rattle.order_conflicts.specs.Suspects.{suspect_of, without}
use Rattle.conflict_reports.specs.Texts.{outcome_text}
use Rattle.certificate_checker.specs.declared.verdicts.Verdict.{Verdict}
use Rattle.crm_certify.specs.Verdicts.{IsBorneOut, verdict_text}
use Rattle.archive_join.specs.Archives.{joined, joined_past}
use Rattle.archive_join.specs.Joining.{nothing}
use Rattle.command_words.specs.Tasks.{query_of}
use Rattle.command_words.specs.declared.tasks.Query.{Query}
use Rattle.command_words.specs.declared.tasks.Query.TheVariants as query
use Rattle.command_words.specs.declared.tasks.Task.{Task}
use Rattle.command_words.specs.declared.tasks.Task.TheVariants as task
use Rattle.crm_run.specs.Report.{answer_of, parts_fault, parts_of}

-- some placing satisfies all orders
abbrev pub HasPlacing : Orders → Type 0
HasPlacing set = IsConsistent set.list set.dates set.extents

-- every placing that satisfies the orders has the primitive
abbrev pub AlwaysHolds : Orders → ℕ → Primitive → ℕ → Type 0
AlwaysHolds set a p b = AlwaysStand set.list set.dates set.extents (points_of p a b).0 (points_of p a b).1 (points_of p a b).2

-- the placing that delays the primitive's left boundary
abbrev pub delayed : Orders → ℕ → Primitive → ℕ → List Position
delayed set a p b = delaying_placing set.list set.extents set.dates (points_of p a b).0

-- it satisfies the orders, and does not have the primitive
pub record IsBroken (set : Orders) (a : ℕ) (p : Primitive) (b : ℕ) : Type 0 where
  pub satisfied : IsSatisfied set.list set.dates (delayed set a p b)
  pub broken : ¬ Stand (points_of p a b).2
      (position_at set.dates (delayed set a p b) (points_of p a b).0)
      (position_at set.dates (delayed set a p b) (points_of p a b).1)

-- behind a front the text says `inconsistent`, with the first cycle of the orders
pub record SaysInconsistent (set : Orders) (front text : List ℕ) : Type 0 where
  pub cycle : List ℕ
  pub first : IsFirstCycle set.list set.extents (length set.dates) cycle
  pub says : text ≡ front ++ inconsistent_text cycle

-- What `reason` says behind the faults and the orders: `inconsistent` exactly where no placing satisfies the orders, else the consistent
-- text. This lists a primitive between two distinct periods exactly where every satisfying placing has it, each listed relation with the
-- chain of its two boundaries; and each other primitive is broken by a placing that it prints.
pub record IsTrueReason (set : Orders) (periods front text : List ℕ) : Type 0 where
  pub inconsistent : SaysInconsistent set front text ↔ ¬ HasPlacing set
  pub consistent : (text ≡ front ++ consistent_text set periods) ↔ HasPlacing set
  pub listed : HasPlacing set → (a : ℕ) (p : Primitive) (b : ℕ) → Contains periods a → Contains periods b → a ≢ b →
      IsListed (relations_of set.list periods) a p b ↔ AlwaysHolds set a p b
  pub chains : (x : Relation) → Contains (relations_of set.list periods) x →
      IsChainOf set.list (left_point x.side x.left) (right_point x.side x.right)
      (reason_of set.list (left_point x.side x.left) (right_point x.side x.right))
  pub others : HasPlacing set → (a : ℕ) (p : Primitive) (b : ℕ) → Contains periods a → Contains periods b → a ≢ b →
      ¬ IsListed (relations_of set.list periods) a p b → IsBroken set a p b

-- What `explain` says of a primitive behind the lines of two periods: `inconsistent` exactly where no placing satisfies the orders; else
-- `holds` exactly where every satisfying placing has the primitive, and `fails` exactly where not, with a placing that breaks it.
pub record IsTrueAnswer (set : Orders) (a : ℕ) (p : Primitive) (b : ℕ) (front text : List ℕ) : Type 0 where
  pub inconsistent : SaysInconsistent set front text ↔ ¬ HasPlacing set
  pub holds : HasPlacing set →
      (text ≡ front ++ holds_text set.list p (reason_of set.list (points_of p a b).0 (points_of p a b).1)) ↔ AlwaysHolds set a p b
  pub fails : HasPlacing set → (text ≡ front ++ fails_text set p (points_of p a b).0) ↔ ¬ AlwaysHolds set a p b
  pub broken : HasPlacing set → ¬ AlwaysHolds set a p b → IsBroken set a p b

-- every placing that satisfies the orders has the relation
abbrev pub AlwaysRelated : Orders → ℕ → ℕ → Allen → Type 0
AlwaysRelated set a b r =
    (placing : List Position) → length placing ≡ 2 * set.extents → IsSatisfied set.list set.dates placing → IsSatisfied (relation_orders r a b) set.dates placing

-- A relation of two extents is listed exactly where some placing satisfies all orders and has it; so where one is listed alone, every
-- satisfying placing has it.
pub record IsTrueRow (set : Orders) (a b : ℕ) : Type 0 where
  pub possible : (r : Allen) → Contains (possible_relations set.list a b) r ↔ IsPossible set a b r
  pub single : (r : Allen) → possible_relations set.list a b ≡ r ∷ [] → AlwaysRelated set a b r

-- What `allen` says behind the extents: `inconsistent` exactly where no placing satisfies the orders, else the row of each two periods.
pub record IsTrueTable (set : Orders) (periods front text : List ℕ) : Type 0 where
  pub inconsistent : SaysInconsistent set front text ↔ ¬ HasPlacing set
  pub consistent : (text ≡ front ++ table_text set periods) ↔ HasPlacing set
  pub rows : HasPlacing set → (a b : ℕ) → Contains periods a → Contains periods b → IsTrueRow set a b

-- a placing that satisfies all orders and has the relation
pub record IsExample (set : Orders) (a b : ℕ) (r : Allen) : Type 0 where
  pub satisfied : IsSatisfied set.list set.dates (example_placing set a b r)
  pub related : IsSatisfied (relation_orders r a b) set.dates (example_placing set a b r)

-- What `allen` says of two periods behind their lines: `inconsistent` exactly where no placing satisfies the orders, else their row, each
-- relation of it with an example.
pub record IsTrueList (set : Orders) (a b : ℕ) (front text : List ℕ) : Type 0 where
  pub inconsistent : SaysInconsistent set front text ↔ ¬ HasPlacing set
  pub listed : HasPlacing set → text ≡ front ++ examples_text set a b
  pub row : HasPlacing set → IsTrueRow set a b
  pub examples : HasPlacing set → (r : Allen) → Contains (possible_relations set.list a b) r → IsExample set a b r

-- the placing satisfies the order
abbrev pub StandsIn : List ℤ → List Position → Order → Type 0
StandsIn dates placing order = Stand order.strict (position_at dates placing order.low) (position_at dates placing order.high)

-- a triple makes the order, as those of statements
abbrev pub IsStated : Order → Type 0
IsStated order = (t : ℕ) × (order.by ≡ FromTriple t)

-- a tangle lists the order of a number
abbrev pub IsTangled : List Tangle → ℕ → Type 0
IsTangled tangles n = (t : Tangle) × (Contains tangles t × Contains t.orders n)

-- some placing satisfies each order but those that statements make and that a tangle lists
pub record HasPlacingBeside (set : Orders) (tangles : List Tangle) : Type 0 where
  pub placing : List Position
  pub size : length placing ≡ 2 * set.extents
  pub satisfied : (n : ℕ) → n < length set.list → ¬ (IsStated (order_at set.list n) × IsTangled tangles n) →
      StandsIn set.dates placing (order_at set.list n)

-- the tangle lists all orders of a chain
abbrev pub IsAlong : Tangle → List ℕ → Type 0
IsAlong t ns = All (Contains t.orders) ns

-- the cycle of a tangle is the first of all that lie in it
pub record HasFirstCycle (set : Orders) (t : Tangle) : Type 0 where
  pub cycle : IsCycle set.list t.cycle
  pub along : IsAlong t t.cycle
  pub first : (ns : List ℕ) → IsCycle set.list ns → IsAlong t ns → IsAtMost t.cycle ns

-- Tangles list exactly the orders that are on some cycle, a chain from a point to itself that shows `<`. Each cycle lies in one tangle,
-- no order is in two, and the cycle of each is the first of all that lie in it.
pub record AreTangles (set : Orders) (tangles : List Tangle) : Type 0 where
  pub listed : (n : ℕ) → IsTangled tangles n ↔ ((ns : List ℕ) × (IsCycle set.list ns × Contains ns n))
  pub whole : (ns : List ℕ) → IsCycle set.list ns → (t : Tangle) × (Contains tangles t × IsAlong t ns)
  pub apart : (s t : Tangle) (n : ℕ) → Contains tangles s → Contains tangles t → Contains s.orders n → Contains t.orders n → s ≡ t
  pub cycles : (t : Tangle) → Contains tangles t → HasFirstCycle set t

-- a triple is a suspect exactly where some placing satisfies all orders but its own, which are listed with it
pub record AreSuspects (set : Orders) (suspects : List Suspect) : Type 0 where
  pub suspected : (t : ℕ) → Contains suspects (suspect_of set.list t) ↔ IsConsistent (without t set.list) set.dates set.extents
  pub only : (s : Suspect) → Contains suspects s → s ≡ suspect_of set.list s.triple

-- what is said of orders that no placing satisfies
pub record SaysConflicts (set : Orders) (front text : List ℕ) : Type 0 where
  pub conflicts : Conflicts
  pub says : text ≡ front ++ outcome_text (Some conflicts)
  pub tangles : AreTangles set conflicts.tangles
  pub rest : HasPlacingBeside set conflicts.tangles
  pub suspects : AreSuspects set conflicts.suspects

-- What `conflicts` says behind the orders: `consistent` exactly where some placing satisfies them, else the tangles and the suspects.
pub record IsTrueConflicts (set : Orders) (front text : List ℕ) : Type 0 where
  pub consistent : (text ≡ front ++ codes "consistent\n") ↔ HasPlacing set
  pub inconsistent : ¬ HasPlacing set → SaysConflicts set front text

-- the faults and the orders of records, which stand before what follows
abbrev pub front_of : Records → List ℕ
front_of r = check_text r.triples (faults_in r) ++ orders_text r.names (findings_from r)

-- what `reason` says of records
abbrev pub IsReasoned : Records → List ℕ → Type 0
IsReasoned r text = IsTrueReason (findings_from r).orders (findings_from r).periods (front_of r) text

-- what `explain` says of the two periods that words name
pub record IsExplained (r : Records) (a : List ℕ) (p : Primitive) (b : List ℕ) (text : List ℕ) : Type 0 where
  pub left : Period
  pub right : Period
  pub named_left : period_named r.names (findings_from r).extents a ≡ Some left
  pub named_right : period_named r.names (findings_from r).extents b ≡ Some right
  pub answer : IsTrueAnswer (findings_from r).orders left.number p right.number (period_lines r.names left right) text

-- What `bounds` says of records behind their orders: `inconsistent` exactly where no placing satisfies them; else of each boundary the last
-- date that every satisfying placing has at or before it, and the first that every one has at or after it.
pub record IsBounded (r : Records) (text : List ℕ) : Type 0 where
  pub inconsistent : SaysInconsistent (findings_from r).orders (orders_text r.names (findings_from r)) text ↔ ¬ HasPlacing (findings_from r).orders
  pub bounded : HasPlacing (findings_from r).orders →
      (bounds : Point → Bound) × (AreBounds (findings_from r).orders bounds × (text ≡ text_of_bounds r bounds))

-- What `when` says of records behind their extents and the instant: `inconsistent` exactly where no placing satisfies the orders; else of
-- each extent whether it is under way at the instant in every satisfying placing, in none, or in one and not in another.
pub record IsUnderWayAt (t : ℤ) (r : Records) (text : List ℕ) : Type 0 where
  pub inconsistent :
      SaysInconsistent (findings_from r).orders (extents_text r.names (findings_from r).extents ++ instant_line t) text ↔ ¬ HasPlacing (findings_from r).orders
  pub periods : HasPlacing (findings_from r).orders →
      (during : ℕ → During) × (AreDuring (findings_from r).orders t during × (text ≡ text_of_during r t during))

-- what `conflicts` says of records
abbrev pub IsConflicted : Records → List ℕ → Type 0
IsConflicted r text = IsTrueConflicts (findings_from r).orders (orders_text r.names (findings_from r)) text

-- so it is with records in today's properties, where they are no refusal
abbrev pub OfModern : (Records → List ℕ → Type 0) → Result Records Refusal → List ℕ → Type 0
OfModern P (Ok m) text = P m text
OfModern P (Err f) text = ⊥

-- what `allen` says of records
abbrev pub IsTabled : Records → List ℕ → Type 0
IsTabled m text = IsTrueTable (findings_from m).orders (findings_from m).periods (extents_text m.names (findings_from m).extents) text

-- and of the two periods that words name
pub record IsRelated (a b : List ℕ) (m : Records) (text : List ℕ) : Type 0 where
  pub left : NamedPeriod
  pub right : NamedPeriod
  pub named_left : naming.period_named m.names (findings_from m).extents a ≡ Some left
  pub named_right : naming.period_named m.names (findings_from m).extents b ≡ Some right
  pub list : IsTrueList (findings_from m).orders left.number right.number (naming.period_lines m.names left right) text

-- what `verify` says where it accepts a certificate is true of the records: their orders, types and faults bear out what the verdict claims
pub record IsTrueVerdict (r : Records) (cert text : List ℕ) : Type 0 where
  pub verdict : Verdict
  pub says : text ≡ verdict_text verdict
  pub borne_out : IsBorneOut r cert verdict

-- the whole report was written, and it is no refusal
abbrev pub IsReport : Status → Type 0
IsReport status = (status ≡ Done) ⊎ (status ≡ Findings)

module _ {S : Type 0} (written : S → Option (List ℕ)) (old new : S) where
  -- so it is with the text that was appended
  pub record IsSaid (P : List ℕ → Type 0) : Type 0 where
    pub text : List ℕ
    pub whole : Appends (written old) (written new) text
    pub said : P text

  abbrev pub Says : Query → Records → Type 0
  Says query.Reason r = IsSaid (IsReasoned r)
  Says (query.Explain a code b) r = IsSaid (IsExplained r a code b)
  Says query.Bounds r = IsSaid (IsBounded r)
  Says (query.When t) r = IsSaid (IsUnderWayAt t r)
  Says query.Conflicts r = IsSaid (IsConflicted r)
  Says query.Allen r = IsSaid (OfModern IsTabled (modern_of r))
  Says (query.AllenPair a b) r = IsSaid (OfModern (IsRelated a b) (modern_of r))
  Says other r = ⊤

  -- where a file is read to records, or several are read as one, and the report on them was written, it says what is true of them
  abbrev pub SaysTruly : Files → Option Task → Status → Type 0
  SaysTruly files (Some (task.Report base file q)) status =
      (r : Records) → answer_of files base file ≡ Some (Read r) → IsReport status → Says q r
  SaysTruly files (Some (task.Join base k names)) status =
      parts_fault base files 0 names ≡ None → joined_past nothing (parts_of base files names) ≡ None → IsReport status →
      Says (query_of k) (joined (parts_of base files names)).records
  SaysTruly files other status = ⊤

  -- where a file is read to records and its certificate is accepted, the verdict is true of them
  abbrev pub JudgesTruly : Files → Option Task → Status → Type 0
  JudgesTruly files (Some (task.Verify base file cert)) status =
      (r : Records) → answer_of files base file ≡ Some (Read r) → IsReport status → IfSome (files cert) (λ bytes. IsSaid (IsTrueVerdict r bytes))
  JudgesTruly files other status = ⊤
