-- The table of the machine, and its tests, each of which is computed.
use Rattle.std.proofs.Common.{ℕ, List, [], ◌∷◌, ◌++◌, ◌≡◌, ◌<◌, ◌≤◌, refl, sym, ap, ◌∙◌, arith, inl, inr, subst}
use Rattle.std.specs.Prelude.{Bool, true, false, cond, not, ◌&&◌, ◌==◌}
use Rattle.std.proofs.lemmas.Bool.{and_parts, cases_lt}
use Rattle.std.proofs.lemmas.Bool.Decides.{nat_tests}
use mathlib.Core.Bool.{beq}
use Rattle.text_patterns.specs.Derivatives.{is_barren, SameIn}
use Rattle.text_patterns.specs.Machines.{IsMachine}
use Rattle.text_patterns.specs.Tables.{Table, IsTable, rest_of, machine, fits, ends_at, shuts_at, goes_at}
use Rattle.text_patterns.proofs.Spans.{same_over, same_over-true, all_below, below_at, all, all_parts, beq-true}
use Rattle.text_patterns.proofs.Steps.{table_machine}
use Rattle.time_primitive.specs.Forms.{spelling}
use Rattle.time_primitive.specs.Machine.{class_at, next, accepts, leads_to}
use Rattle.time_primitive.specs.declared.form.Form.{Form}
use Rattle.time_primitive.specs.declared.form.Form.TheVariants.{GYear, GYearMonth, Date, DateTime}
use Rattle.time_primitive.specs.declared.machine.Class.{Class}
use Rattle.time_primitive.specs.declared.machine.Class.TheVariants as class
use Rattle.time_primitive.specs.declared.machine.ZoneState.{ZoneState}
use Rattle.time_primitive.specs.declared.machine.ZoneState.TheVariants as zone
use Rattle.time_primitive.specs.declared.machine.TimeState.{TimeState}
use Rattle.time_primitive.specs.declared.machine.TimeState.TheVariants as time
use Rattle.time_primitive.specs.declared.machine.State.{State}
use Rattle.time_primitive.specs.declared.machine.State.TheVariants as state

-- a byte of each class
abbrev pub sample : Class → ℕ
sample class.Zero = 48
sample class.Digit = 49
sample class.Hyphen = 45
sample class.Plus = 43
sample class.Colon = 58
sample class.Point = 46
sample class.T = 84
sample class.Z = 90
sample class.Other = 32

-- a text that leads to each state
abbrev pub zone_way : ZoneState → List ℕ
zone_way zone.Sign = 43 ∷ []
zone_way zone.Hour1 = 43 ∷ 48 ∷ []
zone_way zone.Hour2 = 43 ∷ 48 ∷ 48 ∷ []
zone_way zone.Colon = 43 ∷ 48 ∷ 48 ∷ 58 ∷ []
zone_way zone.Minute1 = 43 ∷ 48 ∷ 48 ∷ 58 ∷ 48 ∷ []
zone_way zone.End = 43 ∷ 48 ∷ 48 ∷ 58 ∷ 48 ∷ 48 ∷ []

abbrev pub dated : Form → List ℕ
dated GYear = 49 ∷ 48 ∷ 48 ∷ 48 ∷ []
dated GYearMonth = 49 ∷ 48 ∷ 48 ∷ 48 ∷ 45 ∷ 48 ∷ 49 ∷ []
dated Date = 49 ∷ 48 ∷ 48 ∷ 48 ∷ 45 ∷ 48 ∷ 49 ∷ 45 ∷ 48 ∷ 49 ∷ []
dated DateTime = 49 ∷ 48 ∷ 48 ∷ 48 ∷ 45 ∷ 48 ∷ 49 ∷ 45 ∷ 48 ∷ 49 ∷ 84 ∷ 48 ∷ 48 ∷ 58 ∷ 48 ∷ 48 ∷ 58 ∷ 48 ∷ 48 ∷ []

abbrev pub time_way : TimeState → List ℕ
time_way time.Start = 84 ∷ []
time_way time.Hour1 = 84 ∷ 48 ∷ []
time_way time.Hour2 = 84 ∷ 48 ∷ 48 ∷ []
time_way time.Colon1 = 84 ∷ 48 ∷ 48 ∷ 58 ∷ []
time_way time.Minute1 = 84 ∷ 48 ∷ 48 ∷ 58 ∷ 48 ∷ []
time_way time.Minute2 = 84 ∷ 48 ∷ 48 ∷ 58 ∷ 48 ∷ 48 ∷ []
time_way time.Colon2 = 84 ∷ 48 ∷ 48 ∷ 58 ∷ 48 ∷ 48 ∷ 58 ∷ []
time_way time.Second1 = 84 ∷ 48 ∷ 48 ∷ 58 ∷ 48 ∷ 48 ∷ 58 ∷ 48 ∷ []
time_way time.Second2 = 84 ∷ 48 ∷ 48 ∷ 58 ∷ 48 ∷ 48 ∷ 58 ∷ 48 ∷ 48 ∷ []
time_way time.Point = 84 ∷ 48 ∷ 48 ∷ 58 ∷ 48 ∷ 48 ∷ 58 ∷ 48 ∷ 48 ∷ 46 ∷ []
time_way time.Fraction = 84 ∷ 48 ∷ 48 ∷ 58 ∷ 48 ∷ 48 ∷ 58 ∷ 48 ∷ 48 ∷ 46 ∷ 48 ∷ []

abbrev pub way : State → List ℕ
way state.Start = []
way state.Sign = 45 ∷ []
way state.Year1 = 49 ∷ []
way state.Year2 = 49 ∷ 48 ∷ []
way state.Year3 = 49 ∷ 48 ∷ 48 ∷ []
way state.Year4 = 49 ∷ 48 ∷ 48 ∷ 48 ∷ []
way state.Zero1 = 48 ∷ []
way state.Zero2 = 48 ∷ 48 ∷ []
way state.Zero3 = 48 ∷ 48 ∷ 48 ∷ []
way state.Zero4 = 48 ∷ 48 ∷ 48 ∷ 48 ∷ []
way state.Hyphen1 = 49 ∷ 48 ∷ 48 ∷ 48 ∷ 45 ∷ []
way state.Month1 = 49 ∷ 48 ∷ 48 ∷ 48 ∷ 45 ∷ 48 ∷ []
way state.Month2 = 49 ∷ 48 ∷ 48 ∷ 48 ∷ 45 ∷ 48 ∷ 49 ∷ []
way state.Hyphen2 = 49 ∷ 48 ∷ 48 ∷ 48 ∷ 45 ∷ 48 ∷ 49 ∷ 45 ∷ []
way state.Day1 = 49 ∷ 48 ∷ 48 ∷ 48 ∷ 45 ∷ 48 ∷ 49 ∷ 45 ∷ 48 ∷ []
way state.Day2 = 49 ∷ 48 ∷ 48 ∷ 48 ∷ 45 ∷ 48 ∷ 49 ∷ 45 ∷ 48 ∷ 49 ∷ []
way (state.Clock t) = dated Date ++ time_way t
way (state.Zone form z) = dated form ++ zone_way z

-- a text that leads on to the end of one
abbrev pub zone_way_on : ZoneState → List ℕ
zone_way_on zone.Sign = 48 ∷ 48 ∷ 58 ∷ 48 ∷ 48 ∷ []
zone_way_on zone.Hour1 = 48 ∷ 58 ∷ 48 ∷ 48 ∷ []
zone_way_on zone.Hour2 = 58 ∷ 48 ∷ 48 ∷ []
zone_way_on zone.Colon = 48 ∷ 48 ∷ []
zone_way_on zone.Minute1 = 48 ∷ []
zone_way_on zone.End = []

abbrev pub time_way_on : TimeState → List ℕ
time_way_on time.Start = 48 ∷ 48 ∷ 58 ∷ 48 ∷ 48 ∷ 58 ∷ 48 ∷ 48 ∷ []
time_way_on time.Hour1 = 48 ∷ 58 ∷ 48 ∷ 48 ∷ 58 ∷ 48 ∷ 48 ∷ []
time_way_on time.Hour2 = 58 ∷ 48 ∷ 48 ∷ 58 ∷ 48 ∷ 48 ∷ []
time_way_on time.Colon1 = 48 ∷ 48 ∷ 58 ∷ 48 ∷ 48 ∷ []
time_way_on time.Minute1 = 48 ∷ 58 ∷ 48 ∷ 48 ∷ []
time_way_on time.Minute2 = 58 ∷ 48 ∷ 48 ∷ []
time_way_on time.Colon2 = 48 ∷ 48 ∷ []
time_way_on time.Second1 = 48 ∷ []
time_way_on time.Second2 = 90 ∷ []
time_way_on time.Point = 48 ∷ []
time_way_on time.Fraction = 90 ∷ []

abbrev pub way_on : State → List ℕ
way_on state.Start = 49 ∷ 48 ∷ 48 ∷ 48 ∷ []
way_on state.Sign = 49 ∷ 48 ∷ 48 ∷ 48 ∷ []
way_on state.Year1 = 48 ∷ 48 ∷ 48 ∷ []
way_on state.Year2 = 48 ∷ 48 ∷ []
way_on state.Year3 = 48 ∷ []
way_on state.Year4 = 90 ∷ []
way_on state.Zero1 = 48 ∷ 48 ∷ 48 ∷ []
way_on state.Zero2 = 48 ∷ 48 ∷ []
way_on state.Zero3 = 48 ∷ []
way_on state.Zero4 = 90 ∷ []
way_on state.Hyphen1 = 48 ∷ 49 ∷ []
way_on state.Month1 = 49 ∷ []
way_on state.Month2 = 90 ∷ []
way_on state.Hyphen2 = 48 ∷ 49 ∷ []
way_on state.Day1 = 49 ∷ []
way_on state.Day2 = 90 ∷ []
way_on (state.Clock t) = time_way_on t
way_on (state.Zone form z) = zone_way_on z

abbrev pub towards : State → Form
towards state.Hyphen1 = GYearMonth
towards state.Month1 = GYearMonth
towards state.Month2 = GYearMonth
towards state.Hyphen2 = Date
towards state.Day1 = Date
towards state.Day2 = Date
towards (state.Clock t) = DateTime
towards (state.Zone form z) = form
towards _ = GYear

abbrev pub is_final : State → Bool
is_final (state.Zone form zone.End) = true
is_final _ = false

abbrev pub index : Form → ℕ
index GYear = 0
index GYearMonth = 1
index Date = 2
index DateTime = 3

abbrev pub table : Table State Form Class
table = record {
  start = state.Start;
  next = next;
  accepts = accepts;
  is_final = is_final;
  spelling = spelling;
  class_at = class_at;
  sample = sample;
  way = way;
  way_on = way_on;
  towards = towards;
  index = index;
}

-- all forms, classes and states
abbrev pub forms : List Form
forms = GYear ∷ GYearMonth ∷ Date ∷ DateTime ∷ []

abbrev pub classes : List Class
classes = class.Zero ∷ class.Digit ∷ class.Hyphen ∷ class.Plus ∷ class.Colon ∷ class.Point ∷ class.T ∷ class.Z ∷ class.Other ∷ []

abbrev pub zone_states : List ZoneState
zone_states = zone.Sign ∷ zone.Hour1 ∷ zone.Hour2 ∷ zone.Colon ∷ zone.Minute1 ∷ zone.End ∷ []

abbrev pub time_states : List TimeState
time_states = time.Start ∷ time.Hour1 ∷ time.Hour2 ∷ time.Colon1 ∷ time.Minute1 ∷ time.Minute2 ∷ time.Colon2 ∷ time.Second1 ∷ time.Second2 ∷ time.Point ∷ time.Fraction ∷ []

abbrev pub plain_states : List State
plain_states = state.Start ∷ state.Sign ∷ state.Year1 ∷ state.Year2 ∷ state.Year3 ∷ state.Year4 ∷ state.Zero1 ∷ state.Zero2 ∷ state.Zero3 ∷ state.Zero4 ∷ state.Hyphen1 ∷ state.Month1 ∷ state.Month2 ∷ state.Hyphen2 ∷ state.Day1 ∷ state.Day2 ∷ []

pub each_form : (f : Form → Bool) → all f forms ≡ true → (x : Form) → f x ≡ true
each_form f h GYear = (all_parts f forms h).0
each_form f h GYearMonth = (all_parts f forms h).1.0
each_form f h Date = (all_parts f forms h).1.1.0
each_form f h DateTime = (all_parts f forms h).1.1.1.0

pub each_class : (f : Class → Bool) → all f classes ≡ true → (x : Class) → f x ≡ true
each_class f h class.Zero = (all_parts f classes h).0
each_class f h class.Digit = (all_parts f classes h).1.0
each_class f h class.Hyphen = (all_parts f classes h).1.1.0
each_class f h class.Plus = (all_parts f classes h).1.1.1.0
each_class f h class.Colon = (all_parts f classes h).1.1.1.1.0
each_class f h class.Point = (all_parts f classes h).1.1.1.1.1.0
each_class f h class.T = (all_parts f classes h).1.1.1.1.1.1.0
each_class f h class.Z = (all_parts f classes h).1.1.1.1.1.1.1.0
each_class f h class.Other = (all_parts f classes h).1.1.1.1.1.1.1.1.0

pub each_zone : (f : ZoneState → Bool) → all f zone_states ≡ true → (x : ZoneState) → f x ≡ true
each_zone f h zone.Sign = (all_parts f zone_states h).0
each_zone f h zone.Hour1 = (all_parts f zone_states h).1.0
each_zone f h zone.Hour2 = (all_parts f zone_states h).1.1.0
each_zone f h zone.Colon = (all_parts f zone_states h).1.1.1.0
each_zone f h zone.Minute1 = (all_parts f zone_states h).1.1.1.1.0
each_zone f h zone.End = (all_parts f zone_states h).1.1.1.1.1.0

pub each_time : (f : TimeState → Bool) → all f time_states ≡ true → (x : TimeState) → f x ≡ true
each_time f h time.Start = (all_parts f time_states h).0
each_time f h time.Hour1 = (all_parts f time_states h).1.0
each_time f h time.Hour2 = (all_parts f time_states h).1.1.0
each_time f h time.Colon1 = (all_parts f time_states h).1.1.1.0
each_time f h time.Minute1 = (all_parts f time_states h).1.1.1.1.0
each_time f h time.Minute2 = (all_parts f time_states h).1.1.1.1.1.0
each_time f h time.Colon2 = (all_parts f time_states h).1.1.1.1.1.1.0
each_time f h time.Second1 = (all_parts f time_states h).1.1.1.1.1.1.1.0
each_time f h time.Second2 = (all_parts f time_states h).1.1.1.1.1.1.1.1.0
each_time f h time.Point = (all_parts f time_states h).1.1.1.1.1.1.1.1.1.0
each_time f h time.Fraction = (all_parts f time_states h).1.1.1.1.1.1.1.1.1.1.0

abbrev pub all_states : (State → Bool) → Bool
all_states f = all f plain_states && (all (λ t. f (state.Clock t)) time_states && all (λ form. all (λ z. f (state.Zone form z)) zone_states) forms)

pub each_state : (f : State → Bool) → all_states f ≡ true → (q : State) → f q ≡ true
each_state f h q = at q
  where
    parts : (all f plain_states ≡ true) × ((all (λ t. f (state.Clock t)) time_states && all (λ form. all (λ z. f (state.Zone form z)) zone_states) forms) ≡ true)
    parts = and_parts (all f plain_states) (all (λ t. f (state.Clock t)) time_states && all (λ form. all (λ z. f (state.Zone form z)) zone_states) forms) h

    rest : (all (λ t. f (state.Clock t)) time_states ≡ true) × (all (λ form. all (λ z. f (state.Zone form z)) zone_states) forms ≡ true)
    rest = and_parts (all (λ t. f (state.Clock t)) time_states) (all (λ form. all (λ z. f (state.Zone form z)) zone_states) forms) parts.1

    at : (q : State) → f q ≡ true
    at state.Start = (all_parts f plain_states parts.0).0
    at state.Sign = (all_parts f plain_states parts.0).1.0
    at state.Year1 = (all_parts f plain_states parts.0).1.1.0
    at state.Year2 = (all_parts f plain_states parts.0).1.1.1.0
    at state.Year3 = (all_parts f plain_states parts.0).1.1.1.1.0
    at state.Year4 = (all_parts f plain_states parts.0).1.1.1.1.1.0
    at state.Zero1 = (all_parts f plain_states parts.0).1.1.1.1.1.1.0
    at state.Zero2 = (all_parts f plain_states parts.0).1.1.1.1.1.1.1.0
    at state.Zero3 = (all_parts f plain_states parts.0).1.1.1.1.1.1.1.1.0
    at state.Zero4 = (all_parts f plain_states parts.0).1.1.1.1.1.1.1.1.1.0
    at state.Hyphen1 = (all_parts f plain_states parts.0).1.1.1.1.1.1.1.1.1.1.0
    at state.Month1 = (all_parts f plain_states parts.0).1.1.1.1.1.1.1.1.1.1.1.0
    at state.Month2 = (all_parts f plain_states parts.0).1.1.1.1.1.1.1.1.1.1.1.1.0
    at state.Hyphen2 = (all_parts f plain_states parts.0).1.1.1.1.1.1.1.1.1.1.1.1.1.0
    at state.Day1 = (all_parts f plain_states parts.0).1.1.1.1.1.1.1.1.1.1.1.1.1.1.0
    at state.Day2 = (all_parts f plain_states parts.0).1.1.1.1.1.1.1.1.1.1.1.1.1.1.1.0
    at (state.Clock t) = each_time (λ t. f (state.Clock t)) rest.0 t
    at (state.Zone form z) = each_zone (λ z. f (state.Zone form z)) (each_form (λ form. all (λ z. f (state.Zone form z)) zone_states) rest.1 form) z

fitting_computed : all_states (λ q. all (λ c. all (fits table q c) forms) classes) ≡ true
fitting_computed = refl

ending_computed : all_states (λ q. all (ends_at table q) forms) ≡ true
ending_computed = refl

shutting_computed : all_states (λ q. all (shuts_at table q) forms) ≡ true
shutting_computed = refl

going_computed : all_states (goes_at table) ≡ true
going_computed = refl

-- a form leads through a state exactly where the state wants some text of it
abbrev pub leads_at : State → Form → Bool
leads_at q form = beq (leads_to q form) (not (is_barren (rest_of table q form)))

leading_computed : all_states (λ q. all (leads_at q) forms) ≡ true
leading_computed = refl

pub leading : (q : State) (form : Form) → leads_to q form ≡ not (is_barren (rest_of table q form))
leading q form = beq-true (leads_to q form) (not (is_barren (rest_of table q form)))
    (each_form (leads_at q) (each_state (λ q. all (leads_at q) forms) leading_computed q) form)

-- bytes from 128 on are of no form
abbrev pub same_at : ℕ → Form → Bool
same_at c form = same_over (spelling form) c c (sample (class_at c))

low_computed : all_below 128 (λ c. all (same_at c) forms) ≡ true
low_computed = refl

high_computed : all (λ form. same_over (spelling form) 128 0x10FFFF (sample class.Other)) forms ≡ true
high_computed = refl

high_other : (c : ℕ) → 128 ≤ c → class_at c ≡ class.Other
high_other c h = grind (arith, nat_tests)

sampled : (form : Form) (c : ℕ) → c < 0x110000 → SameIn (spelling form) c (sample (class_at c))
sampled form c h = elim (cases_lt c 128) [
  | inl low ↦ same_over-true (spelling form) c c (sample (class_at c)) c
      (each_form (same_at c) (below_at 128 (λ x. all (same_at x) forms) c low_computed low) form) (omega arith) (omega arith)
  | inr high ↦ subst (λ x. SameIn (spelling form) c (sample x)) (sym (high_other c high))
      (same_over-true (spelling form) 128 0x10FFFF (sample class.Other) c
      (each_form (λ form. same_over (spelling form) 128 0x10FFFF (sample class.Other)) high_computed form) high (omega arith))
]

form_at : ℕ → Form
form_at n = cond (n == 0) GYear (cond (n == 1) GYearMonth (cond (n == 2) Date DateTime))

form_at_index : (form : Form) → form_at (index form) ≡ form
unfolding form_at
form_at_index GYear = refl
form_at_index GYearMonth = refl
form_at_index Date = refl
form_at_index DateTime = refl

pub is_table : IsTable table
is_table = record {
  starts = refl;
  sampled = sampled;
  fitting = λ q c k. each_form (fits table q c) (each_class (λ c. all (fits table q c) forms)
      (each_state (λ q. all (λ c. all (fits table q c) forms) classes) fitting_computed q) c) k;
  ending = λ q k. each_form (ends_at table q) (each_state (λ q. all (ends_at table q) forms) ending_computed q) k;
  shutting = λ q k. each_form (shuts_at table q) (each_state (λ q. all (shuts_at table q) forms) shutting_computed q) k;
  going = λ q. each_state (goes_at table) going_computed q;
  apart = λ j k e. sym (form_at_index j) ∙ ap form_at e ∙ form_at_index k;
}

pub is_machine : IsMachine (machine table)
is_machine = table_machine table is_table
