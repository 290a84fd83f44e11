-- What one more line leaves fits the lines.
use Rattle.std.proofs.Common.{arith, ◌≡◌, ◌≢◌, ◌<◌, ◌⊎◌, inl, inr, ℕ, Bool, true, List, [], ◌∷◌, ◌++◌, length, refl, sym, ap, subst, ◌∙◌, length-append}
use Rattle.std.specs.Prelude.{All}
use Rattle.std.proofs.lemmas.Bool.{cases_lt, ne_eqb}
use Rattle.std.proofs.lemmas.List.{get_or_append_left, append_assoc, append-nil, get_or_push}
use Rattle.order_laws.specs.declared.Point.{Point}
use Rattle.order_laws.specs.declared.Position.{Position}
use Rattle.order_laws.specs.Positions.{Stand}
use Rattle.order_laws.specs.Placings.{IsSatisfied, position_at}
use Rattle.order_laws.specs.Tables.{IsOrderSet}
use Rattle.order_laws.proofs.Hold.{never_before_self}
use Rattle.order_core.specs.Sets.{Orders}
use Rattle.order_core.specs.declared.sides.Side.{Side}
use Rattle.order_core.specs.declared.sides.Side.TheVariants.{StartEnd, StartStart, EndStart, EndEnd}
use Rattle.certificate_reader.specs.declared.order_lines.Question.{Question}
use Rattle.certificate_reader.specs.declared.order_lines.Claim.{Claim}
use Rattle.certificate_reader.specs.declared.order_lines.Claim.TheVariants.{Before, AtOrBefore, Open}
use Rattle.certificate_reader.specs.declared.order_lines.OrderLine.{OrderLine}
use Rattle.certificate_reader.specs.declared.order_lines.OrderLine.TheVariants.{Place, Let, Pair, Cycle, End}
use Rattle.certificate_checker.specs.declared.cursor.Cursor.{Cursor}
use Rattle.certificate_checker.specs.declared.order_theory.OrderFact.{OrderFact}
use Rattle.certificate_checker.specs.Questions.{asks, questions, questions_of, questions_from, questions_among, questions_left}
use Rattle.certificate_checker.specs.OrderClaims.{placings_in, questions_in, placing_at, HasBefore, HasAfter, IsClaimTrue, Stands, IsAmong, AreTrue, IsRefuted, IsTrueFact, IsJudged}

pub placings_append : (xs ys : List OrderLine) → placings_in (xs ++ ys) ≡ placings_in xs ++ placings_in ys
placings_append [] ys = refl
placings_append (Place ps ∷ xs) ys = ap (λ z. ps ∷ z) (placings_append xs ys)
placings_append (Let x ∷ xs) ys = placings_append xs ys
placings_append (Pair q c ∷ xs) ys = placings_append xs ys
placings_append (Cycle x ∷ xs) ys = placings_append xs ys
placings_append (End ∷ xs) ys = placings_append xs ys

pub questions_append : (xs ys : List OrderLine) → questions_in (xs ++ ys) ≡ questions_in xs ++ questions_in ys
questions_append [] ys = refl
questions_append (Place ps ∷ xs) ys = questions_append xs ys
questions_append (Let x ∷ xs) ys = questions_append xs ys
questions_append (Pair q c ∷ xs) ys = ap (λ z. q ∷ z) (questions_append xs ys)
questions_append (Cycle x ∷ xs) ys = questions_append xs ys
questions_append (End ∷ xs) ys = questions_append xs ys

stands_append : (l : OrderLine) (xs ys : List OrderLine) → Stands l (xs ++ ys) → Stands l xs ⊎ Stands l ys
stands_append l [] ys h = inr h
stands_append l (m ∷ xs) ys (inl e) = inl (inl e)
stands_append l (m ∷ xs) ys (inr h) = elim (stands_append l xs ys h) [ inl a ↦ inl (inr a) | inr b ↦ inr b ]

-- a claim stays true under more placings
claim_stays : (g : Orders) (placings more : List (List Position)) (q : Question) (c : Claim) → IsClaimTrue g placings q c → IsClaimTrue g (placings ++ more) q c
claim_stays g placings more q (Before x) t = t
claim_stays g placings more q (AtOrBefore x p) t = (
  t.0,
  omega (arith, t.1, length-append placings more),
  (let P : List Position → Type 0 = λ z. ¬ HasBefore g z q in subst P (sym (get_or_append_left placings more [] p t.1)) t.2),
)
claim_stays g placings more q (Open p) t = (
  omega (arith, t.0, length-append placings more),
  (let P : List Position → Type 0 = λ z. HasAfter g z q in subst P (sym (get_or_append_left placings more [] p t.0)) t.1),
)

module _ (g : Orders) (periods : List ℕ) (kept : List OrderFact) (placings : List (List Position)) (next : Cursor) (cycled : Bool) (lines : List OrderLine)
    (j : IsJudged g periods kept placings next cycled lines) where
  none_pair : (l : OrderLine) → ((q : Question) (c : Claim) → Pair q c ≡ l → ⊥) → (q : Question) (c : Claim) → Stands (Pair q c) (lines ++ l ∷ []) → Stands (Pair q c) lines
  none_pair l none q c s = elim (stands_append (Pair q c) lines (l ∷ []) s) [
    | inl old ↦ old
    | inr new ↦ elim new [ inl e ↦ absurd (none q c e) | inr h ↦ absurd h ]
  ]

  pub judged_place : (ps : List Position) → IsSatisfied g.list g.dates ps → IsJudged g periods kept (placings ++ ps ∷ []) next cycled (lines ++ Place ps ∷ [])
  judged_place ps sat = record {
    facts = j.facts;
    placed = ap (λ z. z ++ ps ∷ []) j.placed ∙ sym (placings_append lines (Place ps ∷ []));
    satisfied = λ p h. elim (cases_lt p (length placings)) [
      | inl old ↦ (let P : List Position → Type 0 = IsSatisfied g.list g.dates in subst P (sym (get_or_append_left placings (ps ∷ []) [] p old)) (j.satisfied p old))
      | inr new ↦ (let P : List Position → Type 0 = IsSatisfied g.list g.dates in
          subst P (sym (get_or_push placings ps [] p (omega (arith, h, length-append placings (ps ∷ []))))) sat)
    ];
    asked = j.asked ∙ ap (λ z. z ++ questions_left periods next) (sym (questions_append lines (Place ps ∷ []) ∙ append-nil (questions_in lines)));
    claims = λ q c s. claim_stays g placings (ps ∷ []) q c (j.claims q c (none_pair (Place ps) (λ r d e. absurd (cc e)) q c s));
    refuted = j.refuted;
  }

  pub judged_let : (more : List OrderFact) (l : OrderLine) → placings_in (l ∷ []) ≡ [] → questions_in (l ∷ []) ≡ [] → ((q : Question) (c : Claim) → Pair q c ≡ l → ⊥) → All (IsTrueFact g) more →
      IsJudged g periods more placings next cycled (lines ++ l ∷ [])
  judged_let more l no_placing no_question none true_facts = record {
    facts = true_facts;
    placed = j.placed ∙ sym (placings_append lines (l ∷ []) ∙ ap (λ z. placings_in lines ++ z) no_placing ∙ append-nil (placings_in lines));
    satisfied = j.satisfied;
    asked = j.asked ∙ ap (λ z. z ++ questions_left periods next)
        (sym (questions_append lines (l ∷ []) ∙ ap (λ z. questions_in lines ++ z) no_question ∙ append-nil (questions_in lines)));
    claims = λ q c s. j.claims q c (none_pair l none q c s);
    refuted = j.refuted;
  }

  pub judged_cycle : (l : OrderLine) → placings_in (l ∷ []) ≡ [] → questions_in (l ∷ []) ≡ [] → ((q : Question) (c : Claim) → Pair q c ≡ l → ⊥) → IsRefuted g →
      IsJudged g periods kept placings next true (lines ++ l ∷ [])
  judged_cycle l no_placing no_question none refuted = record {
    facts = j.facts;
    placed = j.placed ∙ sym (placings_append lines (l ∷ []) ∙ ap (λ z. placings_in lines ++ z) no_placing ∙ append-nil (placings_in lines));
    satisfied = j.satisfied;
    asked = j.asked ∙ ap (λ z. z ++ questions_left periods next)
        (sym (questions_append lines (l ∷ []) ∙ ap (λ z. questions_in lines ++ z) no_question ∙ append-nil (questions_in lines)));
    claims = λ q c s. j.claims q c (none_pair l none q c s);
    refuted = λ e. refuted;
  }

  pub judged_pair : (q : Question) (c : Claim) (qs : List Question) (on : Cursor) → questions_left periods next ≡ q ∷ qs → questions_left periods on ≡ qs → IsClaimTrue g placings q c →
      IsJudged g periods kept placings on cycled (lines ++ Pair q c ∷ [])
  judged_pair q c qs on at behind t = record {
    facts = j.facts;
    placed = j.placed ∙ sym (placings_append lines (Pair q c ∷ []) ∙ append-nil (placings_in lines));
    satisfied = j.satisfied;
    asked = j.asked ∙ ap (λ z. questions_in lines ++ z) (at ∙ ap (λ z. q ∷ z) (sym behind))
        ∙ sym (ap (λ z. z ++ questions_left periods on) (questions_append lines (Pair q c ∷ [])) ∙ append_assoc (questions_in lines) (q ∷ []) (questions_left periods on));
    claims = λ r d s. elim (stands_append (Pair r d) lines (Pair q c ∷ []) s) [
      | inl old ↦ j.claims r d old
      | inr new ↦ elim new [
        | inl e ↦ (let same : r ≡ q = cc e in let claim : d ≡ c = cc e in rw (same, claim) t)
        | inr h ↦ absurd h
      ]
    ];
    refuted = j.refuted;
  }

abbrev IsAsked : Question → List Question → Type 0
IsAsked q [] = ⊥
IsAsked q (r ∷ rs) = (q ≡ r) ⊎ IsAsked q rs

asked_left : (q : Question) (xs ys : List Question) → IsAsked q xs → IsAsked q (xs ++ ys)
asked_left q (r ∷ xs) ys (inl e) = inl e
asked_left q (r ∷ xs) ys (inr h) = inr (asked_left q xs ys h)
asked_left q [] ys h = absurd h

asked_right : (q : Question) (xs ys : List Question) → IsAsked q ys → IsAsked q (xs ++ ys)
asked_right q [] ys h = h
asked_right q (r ∷ xs) ys h = inr (asked_right q xs ys h)

asked_of : (a b : ℕ) (s : Side) → a ≢ b → IsAsked (asks a b s) (questions_of a b)
asked_of a b StartEnd ne = rw (ne_eqb a b ne) (inl refl)
asked_of a b StartStart ne = rw (ne_eqb a b ne) (inr (inl refl))
asked_of a b EndStart ne = rw (ne_eqb a b ne) (inr (inr (inl refl)))
asked_of a b EndEnd ne = rw (ne_eqb a b ne) (inr (inr (inr (inl refl))))

asked_from : (a b : ℕ) (s : Side) (bs : List ℕ) → a ≢ b → IsAmong b bs → IsAsked (asks a b s) (questions_from a bs)
asked_from a b s [] ne h = absurd h
asked_from a b s (d ∷ bs) ne (inl e) =
    (let P : ℕ → Type 0 = λ n. IsAsked (asks a b s) (questions_of a n ++ questions_from a bs) in
    subst P e (asked_left (asks a b s) (questions_of a b) (questions_from a bs) (asked_of a b s ne)))
asked_from a b s (d ∷ bs) ne (inr h) = asked_right (asks a b s) (questions_of a d) (questions_from a bs) (asked_from a b s bs ne h)

asked_among : (a b : ℕ) (s : Side) (rest bs : List ℕ) → a ≢ b → IsAmong a rest → IsAmong b bs → IsAsked (asks a b s) (questions_among rest bs)
asked_among a b s [] bs ne h k = absurd h
asked_among a b s (d ∷ rest) bs ne (inl e) k =
    (let P : ℕ → Type 0 = λ n. IsAsked (asks a b s) (questions_from n bs ++ questions_among rest bs) in
    subst P e (asked_left (asks a b s) (questions_from a bs) (questions_among rest bs) (asked_from a b s bs ne k)))
asked_among a b s (d ∷ rest) bs ne (inr h) k =
    asked_right (asks a b s) (questions_from d bs) (questions_among rest bs) (asked_among a b s rest bs ne h k)

-- an asked question has its line
answered : (q : Question) (ls : List OrderLine) → IsAsked q (questions_in ls) → (c : Claim) × Stands (Pair q c) ls
answered q [] h = absurd h
answered q (Place ps ∷ ls) h = let rest = answered q ls h in (rest.0, inr rest.1)
answered q (Let x ∷ ls) h = let rest = answered q ls h in (rest.0, inr rest.1)
answered q (Cycle x ∷ ls) h = let rest = answered q ls h in (rest.0, inr rest.1)
answered q (End ∷ ls) h = let rest = answered q ls h in (rest.0, inr rest.1)
answered q (Pair r c ∷ ls) (inl e) = (c, inl (ap (λ z. Pair z c) e))
answered q (Pair r c ∷ ls) (inr h) = let rest = answered q ls h in (rest.0, inr rest.1)

-- where no question is left, all claims of the lines are true
pub all_true : (g : Orders) (periods : List ℕ) (kept : List OrderFact) (placings : List (List Position)) (next : Cursor) (cycled : Bool) (lines : List OrderLine) →
    IsJudged g periods kept placings next cycled lines → questions_left periods next ≡ [] → AreTrue g periods lines
all_true g periods kept placings next cycled lines j none = record {
  placings = (let P : List (List Position) → Type 0 = λ z. (p : ℕ) → p < length z → IsSatisfied g.list g.dates (placing_at z p) in subst P j.placed j.satisfied);
  pairs = λ a b s ha hb ne. (let P : List Question → Type 0 = IsAsked (asks a b s) in
      let all : questions periods ≡ questions_in lines = j.asked ∙ ap (λ z. questions_in lines ++ z) none ∙ append-nil (questions_in lines) in
      let found = answered (asks a b s) lines (subst P all (asked_among a b s periods periods ne ha hb)) in
      let Q : List (List Position) → Type 0 = λ z. IsClaimTrue g z (asks a b s) found.0 in
      (found.0, (found.1, subst Q j.placed (j.claims (asks a b s) found.0 found.1))));
}

-- a strict fact from a point to itself leaves no placing
pub cycle_refutes : (g : Orders) (f : OrderFact) → IsOrderSet g.list g.extents g.dates → IsTrueFact g f → f.low ≡ f.high → f.strict ≡ true → IsRefuted g
cycle_refutes g f set true_f loop strict consistent =
    let P : Point → Type 0 = λ z. Stand f.strict (position_at g.dates consistent.0 z) (position_at g.dates consistent.0 f.high) in
    let s = subst P loop ((true_f set).always consistent.0 consistent.1.0 consistent.1.1) in
    let Q : Bool → Type 0 = λ b. Stand b (position_at g.dates consistent.0 f.high) (position_at g.dates consistent.0 f.high) in
    never_before_self (position_at g.dates consistent.0 f.high) (subst Q strict s)
