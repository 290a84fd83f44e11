-- What a machine has read: the state stands for what the kinds still want, and the last end is known.
use Rattle.std.proofs.Common.{ℕ, List, [], ◌∷◌, ◌++◌, ◌≡◌, ◌<◌, ◌≤◌, ◌+◌, ◌-◌, length, take, drop, get_or, refl, ap, sym, ◌∙◌, arith, inl, inr, subst, append_assoc, length-append, append-nil}
use Rattle.std.proofs.Math.Seq.{take-length, take-add}
use Rattle.std.proofs.lemmas.List.{take_more, take-append-le, length-take-le}
use Rattle.std.proofs.lemmas.Bool.{cases_lt}
use Rattle.std.specs.Prelude.{true, false, Option, None, Some}
use Rattle.text_patterns.specs.Patterns.{Matches}
use Rattle.text_patterns.specs.Machines.{Machine, rest_after, IsMachine, Spells, IsFirst, HasNone, IsOpen, Settles, NoneIn, IsLast, last_after, Reads}

one_longer : (text : List ℕ) (i : ℕ) (t : List ℕ) → i < length text → take (i + 1) text ++ t ≡ take i text ++ (get_or text i 0 ∷ t)
one_longer text i t h = ap (λ x. x ++ t) (take_more text i 0 h) ∙ append_assoc (take i text) (get_or text i 0 ∷ []) t

some≢none : {A : Type 0} (x : A) → None ≡ Some x → ⊥
some≢none x e = cc e

module _ {State Kind : Type 0} (m : Machine State Kind) (right : IsMachine m) where
  pub reads_start : (text : List ℕ) → Reads m text 0 m.start None
  reads_start text = record {
    leads = λ k t s. subst (λ p. Matches p t) (sym (right.starts k)) s;
    back = λ k t s. subst (λ p. Matches p t) (right.starts k) s;
    ending = λ k i a b. absurd (omega arith);
  }

  no_more : (text : List ℕ) (lo i : ℕ) → NoneIn m text lo i → ((k : Kind) → Spells m k (take (i + 1) text) → ⊥) → NoneIn m text lo (i + 1)
  no_more text lo i none here k j a b s = elim (cases_lt i j) [
    | inl x ↦ let e : j ≡ i + 1 = omega arith in here k (subst (λ y. Spells m k (take y text)) e s)
    | inr x ↦ none k j a x s
  ]

  last_step : (text : List ℕ) (i : ℕ) (q : State) (last : Option (Kind × ℕ)) (a : Option Kind) → IsLast m text i last
      → ((k : Kind) → Matches (m.rest q k) [] → Spells m k (take (i + 1) text)) → ((k : Kind) → Spells m k (take (i + 1) text) → Matches (m.rest q k) [])
      → m.accepts q ≡ a → IsLast m text (i + 1) (last_after a last (i + 1))
  last_step text i q None None l f g e = no_more text 0 i l (λ k s. some≢none k (sym e ∙ right.ends_alone q k (g k s)))
  last_step text i q (Some x) None l f g e = (l.0, omega (arith, l.1), l.2, no_more text x.1 i l.3 (λ k s. some≢none k (sym e ∙ right.ends_alone q k (g k s))))
  last_step text i q last (Some k) l f g e = (omega arith, omega arith, f k (right.ends q k e), λ j n a b s. absurd (omega arith))

  pub reads_step : (text : List ℕ) (i : ℕ) (p q : State) (last : Option (Kind × ℕ)) (a : Option Kind) → i < length text → get_or text i 0 < 0x110000
      → Reads m text i p last → m.next p (get_or text i 0) ≡ Some q → m.accepts q ≡ a → Reads m text (i + 1) q (last_after a last (i + 1))
  reads_step text i p q last a h c r n e =
      let leads : (k : Kind) (t : List ℕ) → Spells m k (take (i + 1) text ++ t) → Matches (m.rest q k) t = λ k t s.
      subst (λ x. Matches (rest_after m x k) t) n (right.step_to p (get_or text i 0) k t c (r.leads k (get_or text i 0 ∷ t) (subst (Spells m k) (one_longer text i t h) s))) in
      let back : (k : Kind) (t : List ℕ) → Matches (m.rest q k) t → Spells m k (take (i + 1) text ++ t) = λ k t s.
      subst (Spells m k) (sym (one_longer text i t h)) (r.back k (get_or text i 0 ∷ t) (right.step_from p (get_or text i 0) k t c (subst (λ x. Matches (rest_after m x k) t) (sym n) s))) in
      record {
        leads = leads;
        back = back;
        ending = last_step text i q last a r.ending
            (λ k s. subst (Spells m k) (append-nil (take (i + 1) text)) (back k [] s))
            (λ k s. leads k [] (subst (Spells m k) (sym (append-nil (take (i + 1) text))) s)) e;
      }

  -- The read front begins a spelling.
  pub reads_begins : (text : List ℕ) (i : ℕ) (q : State) (last : Option (Kind × ℕ)) → Reads m text i q last → (k : Kind) × (more : List ℕ) × Spells m k (take i text ++ more)
  reads_begins text i q last r = let on = right.alive q in (on.0, on.1, r.back on.0 on.1 on.2)

  -- The read front and one character more begin no spelling: the place of a fault of form.
  pub stops_here : (text : List ℕ) (i : ℕ) (q : State) (last : Option (Kind × ℕ)) → i < length text → get_or text i 0 < 0x110000 → Reads m text i q last → m.next q (get_or text i 0) ≡ None
      → (k : Kind) (more : List ℕ) → Spells m k (take (i + 1) text ++ more) → ⊥
  stops_here text i q last h c r n k more s = subst (λ x. Matches (rest_after m x k) more) n
      (right.step_to q (get_or text i 0) k more c (r.leads k (get_or text i 0 ∷ more) (subst (Spells m k) (one_longer text i more h) s)))

  pub reads_open : (text : List ℕ) (q : State) (last : Option (Kind × ℕ)) → Reads m text (length text) q last → m.is_final q ≡ false → IsOpen m text
  reads_open text q last r e = let on = right.goes_on q e in (on.0, on.1, on.2, subst (λ x. Spells m on.0 (x ++ on.1)) (take-length text) (r.back on.0 on.1 on.3))

  -- A whole text spells a kind exactly where the state behind it accepts the kind.
  pub reads_whole : (text : List ℕ) (q : State) (last : Option (Kind × ℕ)) → Reads m text (length text) q last → (k : Kind) → m.accepts q ≡ Some k → Spells m k text
  reads_whole text q last r k e = subst (Spells m k) (append-nil (take (length text) text) ∙ take-length text) (r.back k [] (right.ends q k e))

  pub reads_whole_alone : (text : List ℕ) (q : State) (last : Option (Kind × ℕ)) → Reads m text (length text) q last → (k : Kind) → Spells m k text → m.accepts q ≡ Some k
  reads_whole_alone text q last r k s = right.ends_alone q k (r.leads k [] (subst (Spells m k) (sym (append-nil (take (length text) text) ∙ take-length text)) s))

  -- a front of the text that goes past the first n characters
  front : (text more : List ℕ) (n i : ℕ) → n ≤ length text → n ≤ i → (t : List ℕ) × (take i (text ++ more) ≡ take n text ++ t)
  front text more n i h l = (
    take (i - n) (drop n (text ++ more)),
    ap (λ x. take x (text ++ more)) (let e : i ≡ n + (i - n) = omega arith in e) ∙ take-add n (i - n) (text ++ more)
        ∙ ap (λ x. x ++ take (i - n) (drop n (text ++ more))) (take-append-le n text more h),
  )

  -- nothing longer than n ever comes
  abbrev Certain : List ℕ → ℕ → Type 0
  Certain text n = (more : List ℕ) (k : Kind) (i : ℕ) → n < i → i ≤ length (text ++ more) → Spells m k (take i (text ++ more)) → ⊥

  certain_at : (text more : List ℕ) (lo i : ℕ) → i ≤ length text → NoneIn m text lo i → Certain text i → (k : Kind) (j : ℕ) → lo < j → j ≤ length (text ++ more) → Spells m k (take j (text ++ more)) → ⊥
  certain_at text more lo i h none sure k j a b s = elim (cases_lt i j) [
    | inl x ↦ sure more k j x b s
    | inr x ↦ none k j a x (subst (Spells m k) (take-append-le j text more (omega arith)) s)
  ]

  abbrev NothingEmpty : Type 0
  NothingEmpty = (k : Kind) → Spells m k [] → ⊥

  settled : NothingEmpty → (text : List ℕ) (i : ℕ) (last : Option (Kind × ℕ)) → i ≤ length text → IsLast m text i last → Certain text i → Settles m last text
  settled full text i None h l sure = λ more k j b s. elim (cases_lt 0 j) [
    | inl x ↦ certain_at text more 0 i h l sure k j x b s
    | inr x ↦ let e : j ≡ 0 = omega arith in full k (subst (λ y. Spells m k (take y (text ++ more))) e s)
  ]
  settled full text i (Some x) h l sure = λ more. record {
    some = l.0;
    in_text = omega (arith, length-append text more, l.1);
    spelled = subst (Spells m x.0) (sym (take-append-le x.1 text more (omega (arith, l.1)))) l.2;
    longest = λ k j b s. elim (cases_lt x.1 j) [ inl y ↦ absurd (certain_at text more x.1 i h l.3 sure k j y b s) | inr y ↦ y ];
  }

  -- No kind is spelled by nothing where the state at the start accepts none.
  pub none_empty : m.accepts m.start ≡ None → (k : Kind) → Spells m k [] → ⊥
  none_empty e k s = some≢none k (sym e ∙ right.ends_alone m.start k (subst (λ p. Matches p []) (sym (right.starts k)) s))

  pub reads_dead : m.accepts m.start ≡ None → (text : List ℕ) (i : ℕ) (q : State) (last : Option (Kind × ℕ)) → i < length text → get_or text i 0 < 0x110000
      → Reads m text i q last → m.next q (get_or text i 0) ≡ None → Settles m last text
  reads_dead full text i q last h c r n = settled (none_empty full) text i last (omega arith) r.ending
      (λ more k j a b s. let x = front text more (i + 1) j (omega arith) (omega arith) in
      stops_here text i q last h c r n k x.0 (subst (Spells m k) x.1 s))

  pub reads_final : m.accepts m.start ≡ None → (text : List ℕ) (q : State) (last : Option (Kind × ℕ)) → Reads m text (length text) q last → m.is_final q ≡ true → Settles m last text
  reads_final full text q last r e = settled (none_empty full) text (length text) last (omega arith) r.ending
      (λ more k j a b s.
      let x = front text more (length text) j (omega arith) (omega arith) in
      let empty : x.0 ≡ [] = right.shut q e k x.0 (r.leads k x.0 (subst (Spells m k) x.1 s)) in
      let same : length (take j (text ++ more)) ≡ length (take (length text) text ++ x.0) = ap length x.1 in
      let none : length x.0 ≡ 0 = ap length empty in
      omega (arith, same, none, length-append (take (length text) text) x.0, length-take-le j (text ++ more) b, length-take-le (length text) text (omega arith)))

  -- Where the text ends, the last end is what stands at its front.
  pub reads_ended : m.accepts m.start ≡ None → (text : List ℕ) (q : State) (kind : Kind) (n : ℕ) → Reads m text (length text) q (Some (kind, n)) → IsFirst m text kind n
  reads_ended full text q kind n r = record {
    some = r.ending.0;
    in_text = r.ending.1;
    spelled = r.ending.2;
    longest = λ k j b s. elim (cases_lt n j) [ inl y ↦ absurd (r.ending.3 k j y b s) | inr y ↦ y ];
  }

  pub reads_none : m.accepts m.start ≡ None → (text : List ℕ) (q : State) → Reads m text (length text) q None → HasNone m text
  reads_none full text q r k j b s = elim (cases_lt 0 j) [
    | inl x ↦ r.ending k j x b s
    | inr x ↦ let e : j ≡ 0 = omega arith in none_empty full k (subst (λ y. Spells m k (take y text)) e s)
  ]
