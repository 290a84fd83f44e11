-- What the tests of texts mean by the patterns of their forms.
use Rattle.std.proofs.Common.{ℕ, zero, suc, List, [], ◌++◌, ◌≡◌, ◌<◌, ◌≤◌, ◌+◌, length, take, drop, get_or, refl, sym, ap, ◌∙◌, arith, inl, inr, subst, append-nil}
use Rattle.std.specs.Prelude.{Bool, true, false, not, ◌⊎◌, ◌||◌, Option, None, Some}
use Rattle.std.specs.List.{list_any}
use Rattle.std.proofs.lemmas.Bool.{false≢true, cases_Bool, cases_eq, or_cases, cond-true, cond-false, both_ways, not-true}
use Rattle.std.proofs.lemmas.List.{take-append-drop}
use Rattle.text_patterns.specs.Patterns.{Matches, Begins}
use Rattle.text_patterns.specs.Derivatives.{after, is_barren}
use Rattle.text_patterns.proofs.Derivatives.{nullable-gives, nullable-takes, after-gives, after-takes}
use Rattle.text_patterns.proofs.Barren.{barren-some}
use Rattle.time_primitive.specs.Forms.{spelling, forms_of, has_form, begins, longest}
use Rattle.time_primitive.specs.Machine.{class_at, next, is_taken}
use Rattle.time_primitive.specs.declared.form.Form.{Form}
use Rattle.time_primitive.specs.declared.form.Form.TheVariants.{GYear, GYearMonth, Date, DateTime}
use Rattle.time_primitive.specs.declared.form.Datatype.{Datatype}
use Rattle.time_primitive.specs.declared.form.Datatype.TheVariants.{Typed, Text}
use Rattle.time_primitive.specs.declared.machine.State.{State}
use Rattle.time_primitive.proofs.Reading.{Follows, follows_start, follows_step, stuck, accepted, any_of, fertile, same_self}

pub has_spelled : (form : Form) (text : List ℕ) → has_form text form ≡ true → Matches (spelling form) text
has_spelled form text h =
    subst (λ x. Matches (spelling form) x) (append-nil text) (after-gives (spelling form) text [] (nullable-gives (after (spelling form) text) h))

pub spelled_has : (form : Form) (text : List ℕ) → Matches (spelling form) text → has_form text form ≡ true
spelled_has form text m =
    nullable-takes (after (spelling form) text) (after-takes (spelling form) text [] (subst (λ x. Matches (spelling form) x) (sym (append-nil text)) m))

pub begins_all : (d : Datatype) (text : List ℕ) (form : Form) → is_taken d form ≡ true → Begins (spelling form) text → begins (forms_of d) text ≡ true
begins_all d text form t b =
    any_of d (λ f. not (is_barren (after (spelling f) text))) form t
    (ap not (fertile (after (spelling form) text) b.0 (after-takes (spelling form) text b.0 b.1)))

open_form : (form : Form) (text : List ℕ) → not (is_barren (after (spelling form) text)) ≡ true → Begins (spelling form) text
open_form form text h =
    let found = barren-some (after (spelling form) text) (not-true (is_barren (after (spelling form) text)) h) in
    (found.0, after-gives (spelling form) text found.0 found.1)

taken_form : (d : Datatype) (test : Form → Bool) → list_any test (forms_of d) ≡ true → (f : Form) × (is_taken d f ≡ true) × (test f ≡ true)
taken_form (Typed g) test h =
    elim (or_cases (test g) false h) [
      | inl here ↦ (g, same_self g, here)
      | inr none ↦ absurd (false≢true none)
    ]
taken_form Text test h =
    elim (or_cases (test GYear) (test GYearMonth || (test Date || (test DateTime || false))) h) [
      | inl here ↦ (GYear, refl, here)
      | inr more ↦ elim (or_cases (test GYearMonth) (test Date || (test DateTime || false)) more) [
        | inl here ↦ (GYearMonth, refl, here)
        | inr last ↦ elim (or_cases (test Date) (test DateTime || false) last) [
          | inl here ↦ (Date, refl, here)
          | inr tail ↦ elim (or_cases (test DateTime) false tail) [
            | inl here ↦ (DateTime, refl, here)
            | inr none ↦ absurd (false≢true none)
          ]
        ]
      ]
    ]

pub begins_on : (d : Datatype) (text : List ℕ) → begins (forms_of d) text ≡ true → (form : Form) × (is_taken d form ≡ true) × Begins (spelling form) text
begins_on d text h =
    let found = taken_form d (λ f. not (is_barren (after (spelling f) text))) h in
    (found.0, found.1, open_form found.0 text found.2)

-- the longest front
pub longest_begins : (d : Datatype) (text : List ℕ) (n : ℕ) → begins (forms_of d) (take (longest (forms_of d) text n) text) ≡ true
longest_begins (Typed GYear) text zero = refl
longest_begins (Typed GYearMonth) text zero = refl
longest_begins (Typed Date) text zero = refl
longest_begins (Typed DateTime) text zero = refl
longest_begins Text text zero = refl
longest_begins d text (suc n) =
    elim (cases_Bool (begins (forms_of d) (take (suc n) text))) [
      | inl here ↦ subst (λ (i : ℕ). begins (forms_of d) (take i text) ≡ true)
          (sym (cond-true (begins (forms_of d) (take (suc n) text)) (suc n) (longest (forms_of d) text n) here)) here
      | inr not_here ↦ subst (λ (i : ℕ). begins (forms_of d) (take i text) ≡ true)
          (sym (cond-false (begins (forms_of d) (take (suc n) text)) (suc n) (longest (forms_of d) text n) not_here)) (longest_begins d text n)
    ]

pub longest_most : (d : Datatype) (text : List ℕ) (i n : ℕ) → i ≤ n → begins (forms_of d) (take i text) ≡ true → i ≤ longest (forms_of d) text n
longest_most d text i zero l h = l
longest_most d text i (suc n) l h =
    elim (cases_Bool (begins (forms_of d) (take (suc n) text))) [
      | inl here ↦ (let e = cond-true (begins (forms_of d) (take (suc n) text)) (suc n) (longest (forms_of d) text n) here in omega (arith, e))
      | inr not_here ↦
          (let e = cond-false (begins (forms_of d) (take (suc n) text)) (suc n) (longest (forms_of d) text n) not_here in
          elim (cases_eq i (suc n)) [
            | inl same ↦ absurd (both_ways (begins (forms_of d) (take (suc n) text)) not_here (subst (λ (j : ℕ). begins (forms_of d) (take j text) ≡ true) same h))
            | inr less ↦ omega (arith, e, less, longest_most d text i n (omega (arith, less)) h)
          ])
    ]

-- the machine reads to the end of each text of a form
step_cases : (o : Option State) → (o ≡ None) ⊎ ((q : State) × (o ≡ Some q))
step_cases None = inl refl
step_cases (Some q) = inr (q, refl)

reaches : (f : Form) (text : List ℕ) → ((k : ℕ) → k < length text → get_or text k 0 < 256) → Matches (spelling f) text → (i : ℕ) → i ≤ length text → (q : State) × Follows text i q
reaches f text bytes m zero l = (_, follows_start text)
reaches f text bytes m (suc i) l =
    let found = reaches f text bytes m i (omega arith) in
    let small : get_or text i 0 < 0x110000 = omega (arith, bytes i (omega arith)) in
    elim (step_cases (next found.0 (class_at (get_or text i 0)))) [
      | inl none ↦ absurd (both_ways (begins (forms_of Text) (take (i + 1) text)) (stuck Text text i found.0 (omega arith) small found.1 none)
          (begins_all Text (take (i + 1) text) f refl (drop (i + 1) text, subst (λ x. Matches (spelling f) x) (parts (i + 1) (omega arith)) m)))
      | inr step ↦ (step.0, subst (λ (n : ℕ). Follows text n step.0) (let e : i + 1 ≡ suc i = omega arith in e) (follows_step text i found.0 step.0 (omega arith) small found.1 step.1))
    ]
  where
    parts : (n : ℕ) → n ≤ length text → text ≡ take n text ++ drop n text
    parts n h = sym (take-append-drop n text)

pub one_form : (f g : Form) (text : List ℕ) → ((k : ℕ) → k < length text → get_or text k 0 < 256) → Matches (spelling f) text → Matches (spelling g) text → f ≡ g
one_form f g text bytes m n =
    let found = reaches f text bytes m (length text) (omega arith) in
    let same : Some f ≡ Some g = sym (accepted text found.0 found.1 f (spelled_has f text m)) ∙ accepted text found.0 found.1 g (spelled_has g text n) in
    cc
