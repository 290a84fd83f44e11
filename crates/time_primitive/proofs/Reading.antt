-- What the machine has read tells the form of a text, and how much of it begins some text of a form.
use Rattle.std.proofs.Common.{ℕ, zero, suc, List, [], ◌∷◌, ◌++◌, ◌≡◌, ◌<◌, ◌≤◌, ◌+◌, ◌-◌, length, take, drop, get_or, refl, sym, ap, ap₂, ◌∙◌, arith, inl, inr, subst, append_assoc, append-nil}
use Rattle.std.specs.Prelude.{Bool, true, false, not, ◌||◌, ◌⊎◌, Option, None, Some, Ok, Err}
use Rattle.std.specs.List.{find, list_any}
use Rattle.std.proofs.lemmas.Bool.{false≢true, true≢false, cases_Bool, cases_eq, or_left, or_right, cond-true, cond-false, both_ways}
use Rattle.std.proofs.Math.Seq.{take-length, take-add}
use Rattle.text_patterns.specs.Patterns.{Pattern, Matches}
use Rattle.text_patterns.specs.Derivatives.{after, is_barren}
use Rattle.text_patterns.specs.Machines.{Reads}
use Rattle.text_patterns.specs.Tables.{rest_of, machine}
use Rattle.text_patterns.proofs.Derivatives.{nullable-gives, nullable-takes, after-gives, after-takes}
use Rattle.text_patterns.proofs.Barren.{barren-none, barren-some}
use Rattle.text_patterns.proofs.Engine.{reads_start, reads_step, stops_here, reads_whole, reads_whole_alone}
use Rattle.time_primitive.specs.Forms.{spelling, forms_of, has_form, begins, longest, front, form_or, form_in}
use Rattle.time_primitive.specs.Machine.{class_at, next, accepts, same_form, leads_to, is_wanted, is_taken}
use Rattle.time_primitive.specs.declared.form.Form.{Form}
use Rattle.time_primitive.specs.declared.form.Form.TheVariants.{GYear, GYearMonth, Date, DateTime}
use Rattle.time_primitive.specs.declared.form.Datatype.{Datatype}
use Rattle.time_primitive.specs.declared.form.Datatype.TheVariants.{Typed, Text}
use Rattle.time_primitive.specs.declared.machine.State.{State}
use Rattle.time_primitive.specs.declared.machine.State.TheVariants as state
use Rattle.time_primitive.proofs.Table.{table, is_machine, leading}

same_alike : (f g : Form) → same_form f g ≡ true → f ≡ g
same_alike GYear GYear h = refl
same_alike GYear GYearMonth h = absurd (false≢true h)
same_alike GYear Date h = absurd (false≢true h)
same_alike GYear DateTime h = absurd (false≢true h)
same_alike GYearMonth GYear h = absurd (false≢true h)
same_alike GYearMonth GYearMonth h = refl
same_alike GYearMonth Date h = absurd (false≢true h)
same_alike GYearMonth DateTime h = absurd (false≢true h)
same_alike Date GYear h = absurd (false≢true h)
same_alike Date GYearMonth h = absurd (false≢true h)
same_alike Date Date h = refl
same_alike Date DateTime h = absurd (false≢true h)
same_alike DateTime GYear h = absurd (false≢true h)
same_alike DateTime GYearMonth h = absurd (false≢true h)
same_alike DateTime Date h = absurd (false≢true h)
same_alike DateTime DateTime h = refl

pub same_self : (f : Form) → same_form f f ≡ true
same_self GYear = refl
same_self GYearMonth = refl
same_self Date = refl
same_self DateTime = refl

-- a test over the forms of a datatype
pub any_of : (d : Datatype) (f : Form → Bool) (k : Form) → is_taken d k ≡ true → f k ≡ true → list_any f (forms_of d) ≡ true
any_of (Typed g) f k t h = or_left (f g) false (ap f (same_alike g k t) ∙ h)
any_of Text f GYear t h = or_left (f GYear) (f GYearMonth || (f Date || (f DateTime || false))) h
any_of Text f GYearMonth t h = or_right (f GYear) (f GYearMonth || (f Date || (f DateTime || false))) (or_left (f GYearMonth) (f Date || (f DateTime || false)) h)
any_of Text f Date t h = or_right (f GYear) (f GYearMonth || (f Date || (f DateTime || false))) (or_right (f GYearMonth) (f Date || (f DateTime || false)) (or_left (f Date) (f DateTime || false) h))
any_of Text f DateTime t h = or_right (f GYear) (f GYearMonth || (f Date || (f DateTime || false))) (or_right (f GYearMonth) (f Date || (f DateTime || false)) (or_right (f Date) (f DateTime || false) (or_left (f DateTime) false h)))

none_of : (d : Datatype) (f : Form → Bool) → ((k : Form) → is_taken d k ≡ true → f k ≡ false) → list_any f (forms_of d) ≡ false
none_of (Typed g) f none = rw (none g (same_self g)) refl
none_of Text f none = rw (none GYear refl, none GYearMonth refl, none Date refl, none DateTime refl) refl

other : (f : Form → Bool) (k : Form) → ((j : Form) → f j ≡ true → j ≡ k) → (j : Form) → same_form j k ≡ false → f j ≡ false
other f k only j apart =
    elim (cases_Bool (f j)) [
      | inl here ↦ absurd (both_ways (same_form j k) apart (ap (λ (x : Form). same_form x k) (only j here) ∙ same_self k))
      | inr none ↦ none
    ]

found_of : (d : Datatype) (f : Form → Bool) (k : Form) → is_taken d k ≡ true → f k ≡ true → ((j : Form) → f j ≡ true → j ≡ k) → find f (forms_of d) ≡ Some k
found_of (Typed g) f k t h only = rw (ap f (same_alike g k t) ∙ h) (ap (λ (x : Form). Some x) (same_alike g k t))
found_of Text f GYear t h only = rw (h) refl
found_of Text f GYearMonth t h only = rw (other f GYearMonth only GYear refl, h) refl
found_of Text f Date t h only = rw (other f Date only GYear refl, other f Date only GYearMonth refl, h) refl
found_of Text f DateTime t h only = rw (other f DateTime only GYear refl, other f DateTime only GYearMonth refl, other f DateTime only Date refl, h) refl

not_found_of : (d : Datatype) (f : Form → Bool) → ((k : Form) → is_taken d k ≡ true → f k ≡ false) → find f (forms_of d) ≡ None
not_found_of (Typed g) f none = rw (none g (same_self g)) refl
not_found_of Text f none = rw (none GYear refl, none GYearMonth refl, none Date refl, none DateTime refl) refl

-- a text that completes the pattern shows that it is not barren
pub fertile : (p : Pattern) (t : List ℕ) → Matches p t → is_barren p ≡ false
fertile p t m =
    elim (cases_Bool (is_barren p)) [
      | inl barren ↦ absurd (barren-none p t barren m)
      | inr some ↦ some
    ]

barren_when : (p : Pattern) → ((t : List ℕ) → Matches p t → ⊥) → is_barren p ≡ true
barren_when p never =
    elim (cases_Bool (is_barren p)) [
      | inl barren ↦ barren
      | inr some ↦ absurd (let found = barren-some p some in never found.0 found.1)
    ]

-- begun texts have begun fronts
shorter : (d : Datatype) (a b : List ℕ) → begins (forms_of d) a ≡ false → begins (forms_of d) (a ++ b) ≡ false
shorter d a b none = none_of d (λ form. not (is_barren (after (spelling form) (a ++ b)))) (λ k t. each k t)
  where
    each : (k : Form) → is_taken d k ≡ true → not (is_barren (after (spelling k) (a ++ b))) ≡ false
    each k t =
        elim (cases_Bool (is_barren (after (spelling k) (a ++ b)))) [
          | inl barren ↦ ap not barren
          | inr some ↦ absurd (
              let found = barren-some (after (spelling k) (a ++ b)) some in
              let whole : Matches (spelling k) (a ++ (b ++ found.0)) = subst (λ x. Matches (spelling k) x) (append_assoc a b found.0) (after-gives (spelling k) (a ++ b) found.0 found.1) in
              let open_a = fertile (after (spelling k) a) (b ++ found.0) (after-takes (spelling k) a (b ++ found.0) whole) in
              both_ways (begins (forms_of d) a) none (any_of d (λ form. not (is_barren (after (spelling form) a))) k t (ap not open_a)))
        ]

take_on : (text : List ℕ) (i n : ℕ) → i ≤ n → take n text ≡ take i text ++ take (n - i) (drop i text)
take_on text i n l = ap (λ (x : ℕ). take x text) (let e : n ≡ i + (n - i) = omega arith in e) ∙ take-add i (n - i) text

longest_at : (d : Datatype) (text : List ℕ) (i n : ℕ) → i ≤ n → (i ≡ 0) ⊎ (begins (forms_of d) (take i text) ≡ true) →
    (i < n → begins (forms_of d) (take (i + 1) text) ≡ false) → longest (forms_of d) text n ≡ i
longest_at d text i zero l here next_none = omega arith
longest_at d text i (suc n) l here next_none =
    elim (cases_eq i (suc n)) [
      | inl same ↦ at_end same here
      | inr less ↦ cond-false (begins (forms_of d) (take (suc n) text)) (suc n) (longest (forms_of d) text n)
          (rw (take_on text (i + 1) (suc n) (omega (arith, less)))
          (shorter d (take (i + 1) text) (take (suc n - (i + 1)) (drop (i + 1) text)) (next_none (omega (arith, less)))))
          ∙ longest_at d text i n (omega (arith, less)) here (λ m. next_none (omega arith))
    ]
  where
    at_end : i ≡ suc n → (i ≡ 0) ⊎ (begins (forms_of d) (take i text) ≡ true) → longest (forms_of d) text (suc n) ≡ i
    at_end same (inl none) = absurd (omega arith)
    at_end same (inr begun) =
        cond-true (begins (forms_of d) (take (suc n) text)) (suc n) (longest (forms_of d) text n)
        (subst (λ (x : ℕ). begins (forms_of d) (take x text) ≡ true) same begun) ∙ sym same

-- what the machine stands for
pub Follows : List ℕ → ℕ → State → Type 0
Follows text i q = (last : Option (Form × ℕ)) × Reads (machine table) text i q last

pub follows_start : (text : List ℕ) → Follows text 0 state.Start
unfolding Follows
follows_start text = (None, reads_start (machine table) is_machine text)

pub start_wanted : (d : Datatype) → is_wanted d state.Start ≡ true
start_wanted (Typed g) = refl
start_wanted Text = refl

pub follows_step : (text : List ℕ) (i : ℕ) (p q : State) → i < length text → get_or text i 0 < 0x110000 → Follows text i p →
    next p (class_at (get_or text i 0)) ≡ Some q → Follows text (i + 1) q
unfolding Follows
follows_step text i p q l c f n = (_, reads_step (machine table) is_machine text i p q f.0 (accepts q) l c f.1 n refl)

rest_to : (text : List ℕ) (i : ℕ) (q : State) → Follows text i q → (k : Form) (t : List ℕ) → Matches (after (spelling k) (take i text)) t → Matches (rest_of table q k) t
unfolding Follows
rest_to text i q f k t m = f.1.leads k t (after-gives (spelling k) (take i text) t m)

rest_from : (text : List ℕ) (i : ℕ) (q : State) → Follows text i q → (k : Form) (t : List ℕ) → Matches (rest_of table q k) t → Matches (after (spelling k) (take i text)) t
unfolding Follows
rest_from text i q f k t m = after-takes (spelling k) (take i text) t (f.1.back k t m)

leads_same : (text : List ℕ) (i : ℕ) (q : State) → Follows text i q → (k : Form) → not (is_barren (after (spelling k) (take i text))) ≡ leads_to q k
leads_same text i q f k =
    elim (cases_Bool (is_barren (rest_of table q k))) [
      | inl barren ↦ ap not (barren_when (after (spelling k) (take i text)) (λ t m. barren-none (rest_of table q k) t barren (rest_to text i q f k t m)))
          ∙ sym (leading q k ∙ ap not barren)
      | inr some ↦
          (let found = barren-some (rest_of table q k) some in
          ap not (fertile (after (spelling k) (take i text)) found.0 (rest_from text i q f k found.0 found.1)) ∙ sym (leading q k ∙ ap not some))
    ]

-- a state that is wanted stands for a begun text
pub begun : (d : Datatype) (text : List ℕ) (i : ℕ) (q : State) → Follows text i q → is_wanted d q ≡ true → begins (forms_of d) (take i text) ≡ true
begun (Typed g) text i q f w = any_of (Typed g) (λ form. not (is_barren (after (spelling form) (take i text)))) g (same_self g) (leads_same text i q f g ∙ w)
begun Text text i q f w =
    let alive = is_machine.alive q in
    any_of Text (λ form. not (is_barren (after (spelling form) (take i text)))) alive.0 refl
    (ap not (fertile (after (spelling alive.0) (take i text)) alive.1 (rest_from text i q f alive.0 alive.1 alive.2)))

-- a state that is not wanted stands for no begun text
unwanted : (d : Datatype) (text : List ℕ) (i : ℕ) (q : State) → Follows text i q → is_wanted d q ≡ false → begins (forms_of d) (take i text) ≡ false
unwanted (Typed g) text i q f w =
    none_of (Typed g) (λ form. not (is_barren (after (spelling form) (take i text))))
    (λ k t. subst (λ (x : Form). not (is_barren (after (spelling x) (take i text))) ≡ false) (same_alike g k t) (leads_same text i q f g ∙ w))
unwanted Text text i q f w = absurd (true≢false w)

pub stuck : (d : Datatype) (text : List ℕ) (i : ℕ) (q : State) → i < length text → get_or text i 0 < 0x110000 → Follows text i q →
    next q (class_at (get_or text i 0)) ≡ None → begins (forms_of d) (take (i + 1) text) ≡ false
unfolding Follows
stuck d text i q l c f n =
    none_of d (λ form. not (is_barren (after (spelling form) (take (i + 1) text))))
    (λ k t. ap not (barren_when (after (spelling k) (take (i + 1) text)) (λ more m.
    stops_here (machine table) is_machine text i q f.0 l c f.1 n k more (after-gives (spelling k) (take (i + 1) text) more m))))

-- where a longer front begins no text, the text has no form
no_form : (d : Datatype) (text : List ℕ) (i : ℕ) → i < length text → begins (forms_of d) (take (i + 1) text) ≡ false → find (has_form text) (forms_of d) ≡ None
no_form d text i l none = not_found_of d (has_form text) (λ k t. each k t)
  where
    whole : begins (forms_of d) text ≡ false
    whole = subst (λ (x : List ℕ). begins (forms_of d) x ≡ false) (sym (take_on text (i + 1) (length text) (omega arith)) ∙ take-length text)
        (shorter d (take (i + 1) text) (take (length text - (i + 1)) (drop (i + 1) text)) none)

    each : (k : Form) → is_taken d k ≡ true → has_form text k ≡ false
    each k t =
        elim (cases_Bool (has_form text k)) [
          | inl here ↦ absurd (both_ways (begins (forms_of d) text) whole
              (any_of d (λ form. not (is_barren (after (spelling form) text))) k t (ap not (fertile (after (spelling k) text) [] (nullable-gives (after (spelling k) text) here)))))
          | inr not_here ↦ not_here
        ]

refused_at : (d : Datatype) (text : List ℕ) (i : ℕ) (q : State) → i < length text → Follows text i q → is_wanted d q ≡ true →
    begins (forms_of d) (take (i + 1) text) ≡ false → form_in d text ≡ Err i
refused_at d text i q l f w none =
    ap₂ form_or (longest_at d text i (length text) (omega arith) (inr (begun d text i q f w)) (λ m. none)) (no_form d text i l none)

pub refused_stuck : (d : Datatype) (text : List ℕ) (i : ℕ) (q : State) → i < length text → get_or text i 0 < 0x110000 → Follows text i q → is_wanted d q ≡ true →
    next q (class_at (get_or text i 0)) ≡ None → form_in d text ≡ Err i
refused_stuck d text i q l c f w n = refused_at d text i q l f w (stuck d text i q l c f n)

pub refused_unwanted : (d : Datatype) (text : List ℕ) (i : ℕ) (q r : State) → i < length text → get_or text i 0 < 0x110000 → Follows text i q → is_wanted d q ≡ true →
    next q (class_at (get_or text i 0)) ≡ Some r → is_wanted d r ≡ false → form_in d text ≡ Err i
refused_unwanted d text i q r l c f w n u =
    refused_at d text i q l f w (unwanted d text (i + 1) r (follows_step text i q r l c f n) u)

-- at the end of the text

pub accepted : (text : List ℕ) (q : State) → Follows text (length text) q → (k : Form) → has_form text k ≡ true → accepts q ≡ Some k
unfolding Follows
accepted text q f k h = reads_whole_alone (machine table) is_machine text q f.0 f.1 k
    (subst (λ x. Matches (spelling k) x) (append-nil text) (after-gives (spelling k) text [] (nullable-gives (after (spelling k) text) h)))

has_it : (text : List ℕ) (q : State) → Follows text (length text) q → (k : Form) → accepts q ≡ Some k → has_form text k ≡ true
unfolding Follows
has_it text q f k e = nullable-takes (after (spelling k) text) (after-takes (spelling k) text []
    (subst (λ x. Matches (spelling k) x) (sym (append-nil text)) (reads_whole (machine table) is_machine text q f.0 f.1 k e)))

pub read_whole : (d : Datatype) (text : List ℕ) (q : State) (k : Form) → Follows text (length text) q → accepts q ≡ Some k → is_taken d k ≡ true → form_in d text ≡ Ok k
read_whole d text q k f e t =
    ap (form_or (front (forms_of d) text)) (found_of d (has_form text) k t (has_it text q f k e)
    (λ j h. let same : Some j ≡ Some k = sym (accepted text q f j h) ∙ e in cc))

ended : (d : Datatype) (text : List ℕ) (q : State) → Follows text (length text) q → is_wanted d q ≡ true →
    ((k : Form) → is_taken d k ≡ true → accepts q ≡ Some k → ⊥) → form_in d text ≡ Err (length text)
ended d text q f w never =
    ap₂ form_or (longest_at d text (length text) (length text) (omega arith) (inr (begun d text (length text) q f w)) (λ m. absurd (omega arith)))
    (not_found_of d (has_form text) (λ k t. each k t))
  where
    each : (k : Form) → is_taken d k ≡ true → has_form text k ≡ false
    each k t =
        elim (cases_Bool (has_form text k)) [
          | inl here ↦ absurd (never k t (accepted text q f k here))
          | inr not_here ↦ not_here
        ]

pub ended_open : (d : Datatype) (text : List ℕ) (q : State) → Follows text (length text) q → is_wanted d q ≡ true → accepts q ≡ None → form_in d text ≡ Err (length text)
ended_open d text q f w e = ended d text q f w (λ k t h. let clash : None ≡ Some k = sym e ∙ h in cc)

pub ended_other : (d : Datatype) (text : List ℕ) (q : State) (k : Form) → Follows text (length text) q → is_wanted d q ≡ true → accepts q ≡ Some k → is_taken d k ≡ false →
    form_in d text ≡ Err (length text)
ended_other d text q k f w e u = ended d text q f w (λ j t h. each j t h)
  where
    each : (j : Form) → is_taken d j ≡ true → accepts q ≡ Some j → ⊥
    each j t h =
        let same : Some k ≡ Some j = sym e ∙ h in
        let alike : k ≡ j = cc in
        both_ways (is_taken d k) u (ap (is_taken d) alike ∙ t)
