-- The lines of orders and their parts as forms, and their steps, each with what stands behind it.
use Rattle.std.proofs.Common.{arith, zero, suc, ◌≡◌, ◌⊎◌, inl, inr, ℕ, Option, Some, None, List, [], ◌∷◌, ◌++◌, refl, sym, ap, subst, ◌∙◌, append_assoc}
use Rattle.std.specs.Prelude.{codes}
use Rattle.certificate_trees.specs.Beginnings.{Then, Word, Either, count, HeadIn, NoByte, IsDigit, IsForm}
use Rattle.certificate_trees.specs.Grammar.{Number, Name, Instant}
use Rattle.certificate_reader.specs.LineGrammar.{PositionForm, PositionsOf, Positions, PositionsLine, SideForm, QuestionForm, OrderTree, BeforeForm, AtOrBeforeForm, LackForm, ClaimForm, PlaceForm, LetForm, PairForm, CycleForm, OrderForm}
use Rattle.certificate_trees.proofs.Cuts.{rest_is, Led, word_led, behind_led, led_apart, Apart, count_both, either_form, then_form, behind_form, word_form, behind_avoids, apart_both, none_avoided}
use Rattle.certificate_trees.proofs.NumberReads.{plain_form, name_form, instant_form}
use Rattle.certificate_trees.proofs.TreeForms.{no_digit}
use Rattle.certificate_trees.proofs.Steps.{Joins, live_both, word_joins, joins_word, joins_then, space, spaced}
use Rattle.certificate_trees.proofs.Shallow.{IsFlat, flat_word, flat_then, flat_either, flat_name, flat_number, flat_instant, flat_spaced}
use Rattle.certificate_reader.proofs.LineForms.{wider_form, extent_form, order_tree_form, flat_extent}

pub placing_form : IsForm (Name 112) IsDigit
placing_form = name_form 112 (λ e. omega (arith, e)) (λ e. omega (arith, e))

-- the four sides
pub side_form : IsForm SideForm NoByte
side_form = either_form (Either (Word (115 ∷ 101 ∷ [])) (Word (115 ∷ 115 ∷ []))) (Either (Word (101 ∷ 115 ∷ [])) (Word (101 ∷ 101 ∷ []))) NoByte
    (either_form (Word (115 ∷ 101 ∷ [])) (Word (115 ∷ 115 ∷ [])) NoByte (word_form (115 ∷ 101 ∷ []) refl) (word_form (115 ∷ 115 ∷ []) refl)
    (led_apart (115 ∷ 101 ∷ []) (115 ∷ 115 ∷ []) _ _ (word_led (115 ∷ 101 ∷ [])) (word_led (115 ∷ 115 ∷ [])) (inr (inl (λ e. omega (arith, e))))))
    (either_form (Word (101 ∷ 115 ∷ [])) (Word (101 ∷ 101 ∷ [])) NoByte (word_form (101 ∷ 115 ∷ []) refl) (word_form (101 ∷ 101 ∷ []) refl)
    (led_apart (101 ∷ 115 ∷ []) (101 ∷ 101 ∷ []) _ _ (word_led (101 ∷ 115 ∷ [])) (word_led (101 ∷ 101 ∷ [])) (inr (inl (λ e. omega (arith, e))))))
    (led_apart (115 ∷ []) (101 ∷ []) _ _ by_s by_e (inl (λ e. omega (arith, e))))
  where
    by_s : Led (115 ∷ []) (Either (Word (115 ∷ 101 ∷ [])) (Word (115 ∷ 115 ∷ [])))
    by_s p (inl t) = (101 ∷ [], t)
    by_s p (inr t) = (115 ∷ [], t)

    by_e : Led (101 ∷ []) (Either (Word (101 ∷ 115 ∷ [])) (Word (101 ∷ 101 ∷ [])))
    by_e p (inl t) = (115 ∷ [], t)
    by_e p (inr t) = (101 ∷ [], t)

pub question_form : IsForm QuestionForm NoByte
question_form =
    let sides : IsForm (Then (Word (32 ∷ [])) SideForm) NoByte = behind_form (32 ∷ []) SideForm NoByte refl side_form in
    let second : IsForm (Then (Name 120) (Then (Word (32 ∷ [])) SideForm)) NoByte = then_form (Name 120) (Then (Word (32 ∷ [])) SideForm) IsDigit NoByte extent_form sides
    (behind_avoids IsDigit 32 [] SideForm (no_digit 32 (omega arith))) in
    then_form (Name 120) (Then (Word (32 ∷ [])) (Then (Name 120) (Then (Word (32 ∷ [])) SideForm))) IsDigit NoByte extent_form
    (behind_form (32 ∷ []) (Then (Name 120) (Then (Word (32 ∷ [])) SideForm)) NoByte refl second)
    (behind_avoids IsDigit 32 [] (Then (Name 120) (Then (Word (32 ∷ [])) SideForm)) (no_digit 32 (omega arith)))

pub before_form : (kept : Option ℕ) → IsForm (BeforeForm kept) IsDigit
before_form kept = behind_form (108 ∷ 116 ∷ 32 ∷ []) (OrderTree kept) IsDigit refl (order_tree_form kept)

pub at_or_before_form : (kept : Option ℕ) → IsForm (AtOrBeforeForm kept) IsDigit
at_or_before_form kept =
    let placing : IsForm (Then (Word (32 ∷ [])) (Name 112)) IsDigit = behind_form (32 ∷ []) (Name 112) IsDigit refl placing_form in
    behind_form (108 ∷ 101 ∷ 32 ∷ []) (Then (OrderTree kept) (Then (Word (32 ∷ [])) (Name 112))) IsDigit refl
    (then_form (OrderTree kept) (Then (Word (32 ∷ [])) (Name 112)) IsDigit IsDigit (order_tree_form kept) placing (behind_avoids IsDigit 32 [] (Name 112) (no_digit 32 (omega arith))))

pub lack_form : IsForm LackForm IsDigit
lack_form = behind_form (110 ∷ 111 ∷ 32 ∷ []) (Name 112) IsDigit refl placing_form

pub claim_form : (kept : Option ℕ) → IsForm (ClaimForm kept) IsDigit
claim_form kept = either_form (Either (BeforeForm kept) (AtOrBeforeForm kept)) LackForm IsDigit
    (either_form (BeforeForm kept) (AtOrBeforeForm kept) IsDigit (before_form kept) (at_or_before_form kept)
    (led_apart (108 ∷ 116 ∷ 32 ∷ []) (108 ∷ 101 ∷ 32 ∷ []) (BeforeForm kept) (AtOrBeforeForm kept) (behind_led (108 ∷ 116 ∷ 32 ∷ []) (OrderTree kept))
    (behind_led (108 ∷ 101 ∷ 32 ∷ []) (Then (OrderTree kept) (Then (Word (32 ∷ [])) (Name 112)))) (inr (inl (λ e. omega (arith, e))))))
    lack_form
    (led_apart (108 ∷ []) (110 ∷ 111 ∷ 32 ∷ []) (Either (BeforeForm kept) (AtOrBeforeForm kept)) LackForm by_l (behind_led (110 ∷ 111 ∷ 32 ∷ []) (Name 112)) (inl (λ e. omega (arith, e))))
  where
    by_l : Led (108 ∷ []) (Either (BeforeForm kept) (AtOrBeforeForm kept))
    by_l p (inl t) = (let l = behind_led (108 ∷ 116 ∷ 32 ∷ []) (OrderTree kept) p t in (116 ∷ 32 ∷ l.0, l.1))
    by_l p (inr t) = (let l = behind_led (108 ∷ 101 ∷ 32 ∷ []) (Then (OrderTree kept) (Then (Word (32 ∷ [])) (Name 112))) p t in (101 ∷ 32 ∷ l.0, l.1))

pub pair_form : (kept : Option ℕ) → IsForm (PairForm kept) IsDigit
pair_form kept =
    let claims : IsForm (Then (Word (32 ∷ [])) (ClaimForm kept)) IsDigit = behind_form (32 ∷ []) (ClaimForm kept) IsDigit refl (claim_form kept) in
    behind_form (codes "pair ") (Then QuestionForm (Then (Word (32 ∷ [])) (ClaimForm kept))) IsDigit refl
    (then_form QuestionForm (Then (Word (32 ∷ [])) (ClaimForm kept)) NoByte IsDigit question_form claims (none_avoided (Then (Word (32 ∷ [])) (ClaimForm kept))))

pub cycle_form : (kept : Option ℕ) → IsForm (CycleForm kept) IsDigit
cycle_form kept = behind_form (codes "cycle ") (OrderTree kept) IsDigit refl (order_tree_form kept)

pub position_form : IsForm PositionForm IsDigit
position_form = then_form Instant (Then (Word (47 ∷ [])) Number) IsDigit IsDigit instant_form (behind_form (47 ∷ []) Number IsDigit refl plain_form)
    (behind_avoids IsDigit 47 [] Number (no_digit 47 (omega arith)))

-- a line of positions goes on with a digit or a space
abbrev pub GoesOn : ℕ → Type 0
GoesOn c = IsDigit c ⊎ (c ≡ 32)

abbrev Outcome : List ℕ → List ℕ → List ℕ → List ℕ → Type 0
Outcome p q b c = ((p ≡ q) × (b ≡ c)) ⊎ (HeadIn GoesOn b ⊎ HeadIn GoesOn c)

digit_head : (n : ℕ) (p b : List ℕ) → PositionsOf n p → HeadIn IsDigit (p ++ b) → HeadIn GoesOn b
digit_head zero p b t h = (let P : List ℕ → Type 0 = λ z. HeadIn IsDigit (z ++ b) in on b (subst P t h))
  where
    on : (b : List ℕ) → HeadIn IsDigit b → HeadIn GoesOn b
    on [] h = h
    on (x ∷ b) h = inl h
digit_head (suc n) p b t h = absurd (behind_avoids IsDigit 32 [] (Then PositionForm (PositionsOf n)) (no_digit 32 (omega arith)) p b t h)

positions_settle : (m n : ℕ) (p q b c : List ℕ) → PositionsOf m p → PositionsOf n q → p ++ b ≡ q ++ c → Outcome p q b c
positions_settle zero zero p q b c t u e = inl (t ∙ sym u, (let P : List ℕ → Type 0 = λ z. z ++ b ≡ q ++ c in let Q : List ℕ → Type 0 = λ z. b ≡ z ++ c in subst Q u (subst P t e)))
positions_settle zero (suc n) p q b c t u e =
    let l = behind_led (32 ∷ []) (Then PositionForm (PositionsOf n)) q u in
    let P : List ℕ → Type 0 = HeadIn GoesOn in
    let same : b ≡ 32 ∷ (l.0 ++ c) = ap (λ z. z ++ b) (sym t) ∙ e ∙ ap (λ z. z ++ c) l.1 in
    inr (inl (subst P (sym same) (inr refl)))
positions_settle (suc m) zero p q b c t u e =
    let l = behind_led (32 ∷ []) (Then PositionForm (PositionsOf m)) p t in
    let P : List ℕ → Type 0 = HeadIn GoesOn in
    let same : c ≡ 32 ∷ (l.0 ++ b) = ap (λ z. z ++ c) (sym u) ∙ sym e ∙ ap (λ z. z ++ b) l.1 in
    inr (inr (subst P (sym same) (inr refl)))
positions_settle (suc m) (suc n) p q b c t u e = by_position (positions_settle m n t.two.second u.two.second b c t.two.two u.two.two) (position_form.settles t.two.first u.two.first (t.two.second ++ b) (u.two.second ++ c) t.two.one u.two.one
    (sym (append_assoc t.two.first t.two.second b) ∙ ap (λ z. z ++ b) (sym t.two.split) ∙ rest_is 32 32 (t.second ++ b) (u.second ++ c)
    (ap (λ z. z ++ b) (sym (spaced p t)) ∙ e ∙ ap (λ z. z ++ c) (spaced q u)) ∙ ap (λ z. z ++ c) u.two.split ∙ append_assoc u.two.first u.two.second c))
  where
    spaced : {U : List ℕ → Type 0} (p : List ℕ) (t : Then (Word (32 ∷ [])) U p) → p ≡ 32 ∷ t.second
    spaced p t = t.split ∙ ap (λ z. z ++ t.second) t.one

    joined : t.two.first ≡ u.two.first → Outcome t.two.second u.two.second b c → Outcome p q b c
    joined h (inl s) = inl (spaced p t ∙ ap (λ z. 32 ∷ z) (t.two.split ∙ ap (λ z. z ++ t.two.second) h ∙ ap (λ z. u.two.first ++ z) s.0 ∙ sym u.two.split) ∙ sym (spaced q u), s.1)
    joined h (inr s) = inr s

    by_position : (t.two.second ++ b ≡ u.two.second ++ c → Outcome t.two.second u.two.second b c) →
        ((t.two.first ≡ u.two.first) × (t.two.second ++ b ≡ u.two.second ++ c)) ⊎ (HeadIn IsDigit (t.two.second ++ b) ⊎ HeadIn IsDigit (u.two.second ++ c)) → Outcome p q b c
    by_position further (inl s) = joined s.0 (further s.1)
    by_position further (inr (inl d)) = inr (inl (digit_head m t.two.second b t.two.two d))
    by_position further (inr (inr d)) = inr (inr (digit_head n u.two.second c u.two.two d))

positions_closed : (n : ℕ) (p : List ℕ) → PositionsOf n p → count 40 p ≡ count 41 p
positions_closed zero p t = (let P : List ℕ → Type 0 = λ z. count 40 z ≡ count 41 z in subst P (sym t) refl)
positions_closed (suc n) p t =
    let P : List ℕ → Type 0 = λ z. count 40 z ≡ count 41 z in
    let rest = count_both t.two.first t.two.second (position_form.closed t.two.first t.two.one) (positions_closed n t.two.second t.two.two) in
    subst P (sym t.split) (count_both t.first t.second (subst P (sym t.one) refl) (subst P (sym t.two.split) rest))

pub positions_form : IsForm Positions GoesOn
positions_form = record {
  live = ([], (0, refl));
  settles = λ p q b c t u e. positions_settle t.0 u.0 p q b c t.1 u.1 e;
  closed = λ p t. positions_closed t.0 p t.1;
}

wide_form : (T : List ℕ → Type 0) → IsForm T IsDigit → IsForm T GoesOn
wide_form T f = wider_form T IsDigit GoesOn (λ c d. inl d) f

wide_word : (w : List ℕ) → count 40 w ≡ count 41 w → IsForm (Word w) GoesOn
wide_word w even = wider_form (Word w) NoByte GoesOn (λ c d. absurd d) (word_form w even)

pub place_form : IsForm PlaceForm GoesOn
place_form = behind_form (codes "place") Positions GoesOn refl positions_form

pub led_let : (kept : Option ℕ) → Led (codes "let ") (LetForm kept)
led_let None p t = absurd t
led_let (Some kept) p t = behind_led (codes "let ") (OrderTree (Some kept)) p t

let_apart : (kept : Option ℕ) → Apart (LetForm kept) (Word (codes "end"))
let_apart kept = led_apart (codes "let ") (codes "end") (LetForm kept) (Word (codes "end")) (led_let kept) (word_led (codes "end")) (inl (λ e. omega (arith, e)))

let_or_end : (kept : Option ℕ) → IsForm (Either (LetForm kept) (Word (codes "end"))) GoesOn
let_or_end None = record {
  live = (codes "end", inr refl);
  settles = settles;
  closed = closed;
}
  where
    f : IsForm (Word (codes "end")) GoesOn
    f = wide_word (codes "end") refl

    settles : (p q b c : List ℕ) → LetForm None p ⊎ Word (codes "end") p → LetForm None q ⊎ Word (codes "end") q → p ++ b ≡ q ++ c → Outcome p q b c
    settles p q b c (inl t) u e = absurd t
    settles p q b c (inr t) (inl u) e = absurd u
    settles p q b c (inr t) (inr u) e = f.settles p q b c t u e

    closed : (p : List ℕ) → LetForm None p ⊎ Word (codes "end") p → count 40 p ≡ count 41 p
    closed p (inl t) = absurd t
    closed p (inr t) = f.closed p t
let_or_end (Some kept) = either_form (LetForm (Some kept)) (Word (codes "end")) GoesOn
    (wide_form (LetForm (Some kept)) (behind_form (codes "let ") (OrderTree (Some kept)) IsDigit refl (order_tree_form (Some kept)))) (wide_word (codes "end") refl) (let_apart (Some kept))

pub led_place : Led (codes "place") PlaceForm
led_place = behind_led (codes "place") Positions

pub led_pair : (kept : Option ℕ) → Led (codes "pair ") (PairForm kept)
led_pair kept = behind_led (codes "pair ") (Then QuestionForm (Then (Word (codes " ")) (ClaimForm kept)))

pub led_cycle : (kept : Option ℕ) → Led (codes "cycle ") (CycleForm kept)
led_cycle kept = behind_led (codes "cycle ") (OrderTree kept)

pub order_form : (kept : Option ℕ) → IsForm (OrderForm kept) GoesOn
order_form kept = either_form (Either PlaceForm (PairForm kept)) (Either (CycleForm kept) (Either (LetForm kept) (Word (codes "end")))) GoesOn
    (either_form PlaceForm (PairForm kept) GoesOn place_form (wide_form (PairForm kept) (pair_form kept))
    (led_apart (codes "place") (codes "pair ") PlaceForm (PairForm kept) led_place (led_pair kept) (inr (inl (λ e. omega (arith, e))))))
    (either_form (CycleForm kept) (Either (LetForm kept) (Word (codes "end"))) GoesOn (wide_form (CycleForm kept) (cycle_form kept)) (let_or_end kept)
    (apart_both (CycleForm kept) (LetForm kept) (Word (codes "end"))
    (led_apart (codes "cycle ") (codes "let ") (CycleForm kept) (LetForm kept) (led_cycle kept) (led_let kept) (inl (λ e. omega (arith, e))))
    (led_apart (codes "cycle ") (codes "end") (CycleForm kept) (Word (codes "end")) (led_cycle kept) (word_led (codes "end")) (inl (λ e. omega (arith, e))))))
    (apart_both (Either PlaceForm (PairForm kept)) (CycleForm kept) (Either (LetForm kept) (Word (codes "end")))
    (led_apart (112 ∷ []) (codes "cycle ") (Either PlaceForm (PairForm kept)) (CycleForm kept) by_p (led_cycle kept) (inl (λ e. omega (arith, e))))
    (apart_both (Either PlaceForm (PairForm kept)) (LetForm kept) (Word (codes "end"))
    (led_apart (112 ∷ []) (codes "let ") (Either PlaceForm (PairForm kept)) (LetForm kept) by_p (led_let kept) (inl (λ e. omega (arith, e))))
    (led_apart (112 ∷ []) (codes "end") (Either PlaceForm (PairForm kept)) (Word (codes "end")) by_p (word_led (codes "end")) (inl (λ e. omega (arith, e))))))
  where
    by_p : Led (112 ∷ []) (Either PlaceForm (PairForm kept))
    by_p p (inl t) = (let l = led_place p t in (108 ∷ 97 ∷ 99 ∷ 101 ∷ l.0, l.1))
    by_p p (inr t) = (let l = led_pair kept p t in (97 ∷ 105 ∷ 114 ∷ 32 ∷ l.0, l.1))

pub flat_placing : IsFlat (Name 112)
flat_placing = flat_name 112 (λ e. omega (arith, e))

pub flat_position : IsFlat PositionForm
flat_position = flat_then Instant (Then (Word (47 ∷ [])) Number) flat_instant (flat_then (Word (47 ∷ [])) Number (flat_word (47 ∷ []) refl) flat_number)

pub flat_positions_of : (n : ℕ) → IsFlat (PositionsOf n)
flat_positions_of zero p t = flat_word [] refl p t
flat_positions_of (suc n) p t =
    flat_spaced (Then PositionForm (PositionsOf n)) (flat_then PositionForm (PositionsOf n) flat_position (flat_positions_of n)) p t

pub flat_positions : IsFlat Positions
flat_positions p t = flat_positions_of t.0 p t.1

pub flat_positions_line : IsFlat PositionsLine
flat_positions_line = flat_then Positions (Word (10 ∷ [])) flat_positions (flat_word (10 ∷ []) refl)

pub flat_side : IsFlat SideForm
flat_side = flat_either (Either (Word (115 ∷ 101 ∷ [])) (Word (115 ∷ 115 ∷ []))) (Either (Word (101 ∷ 115 ∷ [])) (Word (101 ∷ 101 ∷ [])))
    (flat_either (Word (115 ∷ 101 ∷ [])) (Word (115 ∷ 115 ∷ [])) (flat_word (115 ∷ 101 ∷ []) refl) (flat_word (115 ∷ 115 ∷ []) refl))
    (flat_either (Word (101 ∷ 115 ∷ [])) (Word (101 ∷ 101 ∷ [])) (flat_word (101 ∷ 115 ∷ []) refl) (flat_word (101 ∷ 101 ∷ []) refl))

pub flat_question : IsFlat QuestionForm
flat_question = flat_then (Name 120) (Then (Word (32 ∷ [])) (Then (Name 120) (Then (Word (32 ∷ [])) SideForm))) flat_extent
    (flat_spaced (Then (Name 120) (Then (Word (32 ∷ [])) SideForm)) (flat_then (Name 120) (Then (Word (32 ∷ [])) SideForm) flat_extent (flat_spaced SideForm flat_side)))

pub flat_lack : IsFlat LackForm
flat_lack = flat_then (Word (codes "no ")) (Name 112) (flat_word (codes "no ") refl) flat_placing

pub flat_place : IsFlat PlaceForm
flat_place = flat_then (Word (codes "place")) Positions (flat_word (codes "place") refl) flat_positions

-- a position
pub slash_rank : Joins (Word (47 ∷ [])) Number NoByte
slash_rank = word_joins (47 ∷ []) Number refl plain_form.live

pub instant_rank : Joins Instant (Then (Word (47 ∷ [])) Number) IsDigit
instant_rank = joins_then Instant Number IsDigit 47 [] instant_form (no_digit 47 (omega arith)) plain_form.live

-- a question, from its end
abbrev pub Sided : List ℕ → Type 0
Sided = Then (Word (32 ∷ [])) SideForm

abbrev pub SecondExtent : List ℕ → Type 0
SecondExtent = Then (Name 120) Sided

pub space_side : Joins (Word (32 ∷ [])) SideForm NoByte
space_side = space SideForm side_form.live

pub second_side : Joins (Name 120) Sided IsDigit
second_side = spaced (Name 120) SideForm extent_form side_form.live

pub space_second : Joins (Word (32 ∷ [])) SecondExtent NoByte
space_second = space SecondExtent (live_both second_side)

pub first_second : Joins (Name 120) (Then (Word (32 ∷ [])) SecondExtent) IsDigit
first_second = spaced (Name 120) SecondExtent extent_form (live_both second_side)

-- claims
pub lt_tree : (kept : Option ℕ) → Joins (Word (codes "lt ")) (OrderTree kept) NoByte
lt_tree kept = word_joins (codes "lt ") (OrderTree kept) refl (order_tree_form kept).live

pub space_placing : Joins (Word (32 ∷ [])) (Name 112) NoByte
space_placing = space (Name 112) placing_form.live

pub tree_placing : (kept : Option ℕ) → Joins (OrderTree kept) (Then (Word (32 ∷ [])) (Name 112)) IsDigit
tree_placing kept = spaced (OrderTree kept) (Name 112) (order_tree_form kept) placing_form.live

pub le_tree : (kept : Option ℕ) → Joins (Word (codes "le ")) (Then (OrderTree kept) (Then (Word (32 ∷ [])) (Name 112))) NoByte
le_tree kept = word_joins (codes "le ") (Then (OrderTree kept) (Then (Word (32 ∷ [])) (Name 112))) refl (live_both (tree_placing kept))

pub no_placing : Joins (Word (codes "no ")) (Name 112) NoByte
no_placing = word_joins (codes "no ") (Name 112) refl placing_form.live

-- lines of orders
pub place_positions : Joins (Word (codes "place")) Positions NoByte
place_positions = word_joins (codes "place") Positions refl positions_form.live

pub space_claim : (kept : Option ℕ) → Joins (Word (32 ∷ [])) (ClaimForm kept) NoByte
space_claim kept = space (ClaimForm kept) (claim_form kept).live

pub question_claim : (kept : Option ℕ) → Joins QuestionForm (Then (Word (32 ∷ [])) (ClaimForm kept)) NoByte
question_claim kept = joins_then QuestionForm (ClaimForm kept) NoByte 32 [] question_form (λ d. d) (claim_form kept).live

pub pair_question : (kept : Option ℕ) → Joins (Word (codes "pair ")) (Then QuestionForm (Then (Word (32 ∷ [])) (ClaimForm kept))) NoByte
pair_question kept = word_joins (codes "pair ") (Then QuestionForm (Then (Word (32 ∷ [])) (ClaimForm kept))) refl (live_both (question_claim kept))

no_feed : GoesOn 10 → ⊥
no_feed (inl d) = no_digit 10 (omega arith) d
no_feed (inr e) = omega (arith, e)

pub order_feed : (kept : Option ℕ) → Joins (OrderForm kept) (Word (10 ∷ [])) GoesOn
order_feed kept = joins_word (OrderForm kept) GoesOn 10 [] (order_form kept) no_feed
