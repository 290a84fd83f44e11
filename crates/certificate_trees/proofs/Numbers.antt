-- Numbers are read to their last digit.
use Rattle.std.proofs.Common.{arith, ◌≡◌, ◌<◌, ◌≤◌, ◌+◌, ◌*◌, ◌/◌, ◌%◌, ◌-◌, ◌^◌, ◌⊎◌, inl, inr, ℕ, cond, Some, List, [], ◌∷◌, ◌++◌, length, refl, sym, ap, subst, ◌∙◌, append_assoc}
use Rattle.std.specs.Prelude.{◌==◌, slice_get}
use Rattle.std.specs.Fmt.{decimal}
use Rattle.std.specs.Str.Parse.{digits_value}
use Rattle.std.proofs.lemmas.Bool.{ne_eqb}
use Rattle.std.proofs.lemmas.Fmt.{decimal_digit, decimal_step_wide, decimal_by_steps_wide, decimal_is_IsNumeral_wide}
use Rattle.certificate_trees.specs.Reads.{IsRead}
use Rattle.certificate_trees.specs.Beginnings.{IsWhole, IsStopped, count, HeadIn, IsDigit, IsForm}
use Rattle.certificate_trees.specs.Grammar.{NumberIn, IsFull}
use Rattle.certificate_trees.proofs.Pieces.{none_read}
use Rattle.certificate_trees.proofs.Cuts.{Cut, Same, Longer, Shorter, cut, count_both}
use Rattle.certificate_trees.proofs.Chains.{no_tail}

at_most : (a b c : ℕ) → a ≤ b → b < c → a < c
at_most a b c h k = omega arith

no_parts : (p r : List ℕ) (x : ℕ) → [] ≡ p ++ x ∷ r → ⊥
no_parts [] r x e = absurd (cc e)
no_parts (y ∷ p) r x e = absurd (cc e)

none_behind : (p : List ℕ) (x : ℕ) → p ++ x ∷ [] ≡ [] → ⊥
none_behind [] x e = absurd (cc e)
none_behind (y ∷ p) x e = absurd (cc e)

-- what comes before a digit of n is nothing or a number that the digit extends up to n; no zero leads
pub record IsPart (n : ℕ) (p : List ℕ) (x : ℕ) : Type 0 where
  pub digit : IsDigit x
  pub before : (p ≡ []) ⊎ ((m : ℕ) × ((0 < m) × ((m ≤ n) × ((p ≡ decimal m) × (m * 10 + (x - 48) ≤ n)))))
  pub leads : 0 < n → p ≡ [] → x ≡ 48 → ⊥

pub record HasParts (n : ℕ) (ds : List ℕ) : Type 0 where
  pub is : ds ≡ decimal n
  pub some : ds ≡ [] → ⊥
  pub parts : (p r : List ℕ) (x : ℕ) → ds ≡ p ++ x ∷ r → IsPart n p x

abbrev IfWithin : ℕ → List ℕ → Type 0
IfWithin n ds = n < 10 ^ 64 → HasParts n ds

one_digit : (n : ℕ) → n < 10 → IfWithin n ((48 + n) ∷ [])
one_digit n small wide = record { is = sym (decimal_digit n small); some = λ e. absurd (cc e); parts = parts }
  where
    parts : (p r : List ℕ) (x : ℕ) → (48 + n) ∷ [] ≡ p ++ x ∷ r → IsPart n p x
    parts [] r x e = (let same : 48 + n ≡ x = cc e in record { digit = (omega arith, omega arith); before = inl refl; leads = λ some none zero_is. omega arith })
    parts (y ∷ p) r x e = absurd (no_parts p r x (cc e))

tenth : (n : ℕ) → n / 10 ≤ n
tenth n = omega arith

digit_behind : (n x : ℕ) → 48 + n % 10 ≡ x → IsDigit x × ((n / 10) * 10 + (x - 48) ≤ n)
digit_behind n x e = ((omega arith, omega arith), omega arith)

some_tenth : (n : ℕ) → 10 ≤ n → 0 < n / 10
some_tenth n h = omega arith

wider_before : (n : ℕ) (p : List ℕ) (x : ℕ) → (p ≡ []) ⊎ ((m : ℕ) × ((0 < m) × ((m ≤ n / 10) × ((p ≡ decimal m) × (m * 10 + (x - 48) ≤ n / 10))))) →
    (p ≡ []) ⊎ ((m : ℕ) × ((0 < m) × ((m ≤ n) × ((p ≡ decimal m) × (m * 10 + (x - 48) ≤ n)))))
wider_before n p x (inl e) = inl e
wider_before n p x (inr s) =
    let t = tenth n in
    let u = s.1.1.0 in
    let v = s.1.1.1.1 in
    inr (s.0, (s.1.0, (omega (arith, t, u), (s.1.1.1.0, omega (arith, t, v)))))

wider : (n : ℕ) (p : List ℕ) (x y : ℕ) → 10 ≤ n → x ≡ y → IsPart (n / 10) p y → IsPart n p x
wider n p x y ten e part =
    let P : ℕ → Type 0 = IsPart n p in
    let q : IsPart n p y = record {
      digit = part.digit;
      before = wider_before n p y part.before;
      leads = λ some none zero_is. part.leads (some_tenth n ten) none zero_is;
    } in
    subst P (sym e) q

more_digits : (n : ℕ) (ds : List ℕ) → 10 ≤ n → IfWithin (n / 10) ds → IfWithin n (ds ++ (48 + n % 10) ∷ [])
more_digits n ds ten rest wide = record {
  is = ap (λ z. z ++ (48 + n % 10) ∷ []) h.is ∙ sym (decimal_step_wide n ten wide);
  some = none_behind ds (48 + n % 10);
  parts = λ p r x e. by_case p r x (cut ds ((48 + n % 10) ∷ []) p (x ∷ r) e);
}
  where
    h : HasParts (n / 10) ds
    h = rest (at_most (n / 10) n (10 ^ 64) (tenth n) wide)

    by_case : (p r : List ℕ) (x : ℕ) → Cut ds ((48 + n % 10) ∷ []) p (x ∷ r) → IsPart n p x
    by_case p r x (Same a b) = (let d = digit_behind n x (cc b) in record {
      digit = d.0;
      before = inr (n / 10, (some_tenth n ten, (tenth n, (sym a ∙ h.is, d.1))));
      leads = λ some none zero_is. h.some (a ∙ none);
    })
    by_case p r x (Longer y s a b) = absurd (no_tail y x s r (48 + n % 10) b)
    by_case p r x (Shorter y s a b) = wider n p x y ten (cc b) (h.parts p s y a)

pub decimal_parts : (n : ℕ) → n < 10 ^ 64 → HasParts n (decimal n)
decimal_parts n wide = decimal_by_steps_wide IfWithin one_digit more_digits n wide wide

decimal_same : (m n : ℕ) → m < 10 ^ 64 → n < 10 ^ 64 → decimal m ≡ decimal n → m ≡ n
decimal_same m n h k e = sym (decimal_is_IsNumeral_wide m h).1 ∙ ap (λ z. digits_value 10 z) e ∙ (decimal_is_IsNumeral_wide n k).1

pub no_count : (b c : ℕ) → (c ≡ b → ⊥) → ◌≡◌ {A = ℕ} (cond (c == b) 1 0) 0
no_count b c other = rw (ne_eqb c b other) refl

-- a number has no parentheses
abbrev NoParentheses : ℕ → List ℕ → Type 0
NoParentheses n ds = count 40 ds ≡ count 41 ds

pub number_closed : (n : ℕ) → n < 10 ^ 64 → count 40 (decimal n) ≡ count 41 (decimal n)
number_closed n wide = decimal_by_steps_wide NoParentheses one more n wide
  where
    one : (n : ℕ) → n < 10 → NoParentheses n ((48 + n) ∷ [])
    one n small = (let a = no_count 40 (48 + n) (λ e. omega arith) in let b = no_count 41 (48 + n) (λ e. omega arith) in omega (arith, a, b))

    more : (n : ℕ) (ds : List ℕ) → 10 ≤ n → NoParentheses (n / 10) ds → NoParentheses n (ds ++ (48 + n % 10) ∷ [])
    more n ds ten h =
        let a = no_count 40 (48 + n % 10) (λ e. omega arith) in let b = no_count 41 (48 + n % 10) (λ e. omega arith) in
        let last : count 40 ((48 + n % 10) ∷ []) ≡ count 41 ((48 + n % 10) ∷ []) = omega (arith, a, b) in
        count_both ds ((48 + n % 10) ∷ []) h last

module _ (least bound : ℕ) (wide : bound < 10 ^ 64) where
  of_number : (p : List ℕ) (t : NumberIn least bound p) → HasParts t.0 p
  of_number p t = let P : List ℕ → Type 0 = HasParts t.0 in subst P (sym t.1.1.1) (decimal_parts t.0 (at_most t.0 bound (10 ^ 64) t.1.1.0 wide))

  pub number_form : least ≤ bound → IsForm (NumberIn least bound) IsDigit
  number_form some = record {
    live = (decimal least, (least, (omega arith, (some, refl))));
    settles = λ p q b c t u e. by_case p q b c t u (cut p b q c e);
    closed = λ p t. (let P : List ℕ → Type 0 = λ z. count 40 z ≡ count 41 z in subst P (sym t.1.1.1) (number_closed t.0 (at_most t.0 bound (10 ^ 64) t.1.1.0 wide)));
  }
    where
      by_case : (p q b c : List ℕ) → NumberIn least bound p → NumberIn least bound q → Cut p b q c → ((p ≡ q) × (b ≡ c)) ⊎ (HeadIn IsDigit b ⊎ HeadIn IsDigit c)
      by_case p q b c t u (Same a e) = inl (a, e)
      by_case p q b c t u (Longer x r a e) = (let P : List ℕ → Type 0 = HeadIn IsDigit in inr (inl (subst P (sym e) ((of_number q u).parts p r x a).digit)))
      by_case p q b c t u (Shorter x r a e) = (let P : List ℕ → Type 0 = HeadIn IsDigit in inr (inr (subst P (sym e) ((of_number p t).parts q r x a).digit)))

  -- nothing is read of a number
  pub number_stopped : (text : List ℕ) (at : ℕ) → least ≤ bound → at ≤ length text → ((c : ℕ) → slice_get text at ≡ Some c → IsDigit c → (0 < least → c ≡ 48 → ⊥) → ⊥) → IsStopped (NumberIn least bound) text at at
  number_stopped text at some within none = record {
    piece = [];
    read = none_read text at within;
    begins = (decimal least, (least, (omega arith, (some, refl))));
    unfinished = λ p q e t. (of_number p t).some (empty p q e);
    further = λ c e b. (let part = (of_number (c ∷ b.0) b.1).parts [] b.0 c refl in
        none c e part.digit (λ least_some zero_is. part.leads (let h = b.1.1.0 in omega (arith, h, least_some)) refl zero_is));
  }
    where
      empty : (p q : List ℕ) → [] ≡ p ++ q → p ≡ []
      empty [] q e = refl
      empty (x ∷ p) q e = absurd (cc e)

  pub number_whole : (text : List ℕ) (at to n : ℕ) → least ≤ n → n ≤ bound → IsRead text at to (decimal n) → IsFull text to bound n → IsWhole (NumberIn least bound) text at to
  number_whole text at to n low high read full = record {
    piece = decimal n;
    read = read;
    whole = (n, (low, (high, refl)));
    further = λ c e b. (let part = (of_number ((decimal n ++ c ∷ []) ++ b.0) b.1).parts (decimal n) b.0 c (append_assoc (decimal n) (c ∷ []) b.0) in
        by_case c e b.1.0 b.1.1.1.0 part.digit part.before);
  }
    where
      by_case : (c : ℕ) → slice_get text to ≡ Some c → (k : ℕ) → k ≤ bound → IsDigit c →
          (decimal n ≡ []) ⊎ ((m : ℕ) × ((0 < m) × ((m ≤ k) × ((decimal n ≡ decimal m) × (m * 10 + (c - 48) ≤ k))))) → ⊥
      by_case c e k top digit (inl none) = (decimal_parts n (at_most n bound (10 ^ 64) high wide)).some none
      by_case c e k top digit (inr s) =
          let below = s.1.1.0 in
          let up_to = s.1.1.1.1 in
          let same : n ≡ s.0 = decimal_same n s.0 (at_most n bound (10 ^ 64) high wide) (at_most s.0 bound (10 ^ 64) (omega (arith, below, top)) wide) s.1.1.1.0 in
          let some = s.1.0 in
          full c e digit (omega (arith, same, some)) (omega (arith, same, up_to, top))
