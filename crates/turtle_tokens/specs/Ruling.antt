-- The rule of three quote marks: what is read at the front of a text is its token.
use Rattle.std.proofs.Common.{ℕ, zero, suc, List, [], ◌∷◌, ◌++◌, ◌≡◌, ◌≤◌, ◌⊎◌, inl, inr, take, refl, ap, sym, ◌∙◌, subst, arith, append-nil}
use Rattle.std.proofs.lemmas.Bool.{false≢true, and_parts, eqb-true, ne_eqb}
use Rattle.std.specs.Prelude.{Bool, true, false, cond, not, ◌&&◌, ◌||◌, ◌==◌, Option, None, Some, is_some, get_or}
use Rattle.text_patterns.specs.Patterns.{Pattern, Matches}
use Rattle.text_patterns.specs.Patterns.Pattern.{Never}
use Rattle.text_patterns.specs.Derivatives.{after, nullable, alike, is_never}
use Rattle.text_patterns.specs.Machines.{Spells}
use Rattle.text_patterns.proofs.Derivatives.{after-gives, after-takes, nullable-takes}
use Rattle.text_patterns.proofs.Alike.{alike-to}
use Rattle.text_patterns.proofs.Spans.{all}
use Rattle.text_patterns.proofs.Engine.{none_empty}
use Rattle.turtle_tokens.specs.declared.kinds.TokenKind.{TokenKind}
use Rattle.turtle_tokens.specs.declared.kinds.TokenKind.TheVariants as kind
use Rattle.token_scanner.specs.declared.front.Front.{Front}
use Rattle.token_scanner.specs.declared.front.Front.TheVariants.{Token, Nothing, Long}
use Rattle.token_scanner.specs.Fronts.{ruled}
use Rattle.token_scanner.specs.Texts.{IsTried}
use Rattle.token_scanner.specs.Rules.{Right, Ruled}
use Rattle.turtle_tokens.specs.Terminals.{spelling, long_string}
use Rattle.turtle_tokens.specs.Steps.{kinds}
use Rattle.turtle_tokens.specs.Machine.{index, turtle}
use Rattle.turtle_tokens.specs.Marks.{is_quote, three_marks, only_by}
use Rattle.turtle_tokens.specs.Scanning.{scanner}
use Rattle.turtle_tokens.specs.Lists.{each_kind}
use Rattle.turtle_tokens.specs.Tested.{turtle_machine, kind_of}

-- no three quote marks: each spelling may be a token
none_kept : (k : TokenKind) (n : ℕ) (text : List ℕ) → three_marks text ≡ None → ruled scanner (Token k n) text ≡ Token k n
none_kept kind.Str n text e = ap (λ o. cond (is_some o && n == 2) Nothing (Token kind.Str n)) e
none_kept kind.IriRef n text e = refl
none_kept kind.PnameNs n text e = refl
none_kept kind.PnameLn n text e = refl
none_kept kind.Blank n text e = refl
none_kept kind.AtWord n text e = refl
none_kept kind.Integer n text e = refl
none_kept kind.Decimal n text e = refl
none_kept kind.Double n text e = refl
none_kept kind.A n text e = refl
none_kept kind.True n text e = refl
none_kept kind.False n text e = refl
none_kept kind.Prefix n text e = refl
none_kept kind.Base n text e = refl
none_kept kind.Dot n text e = refl
none_kept kind.Semicolon n text e = refl
none_kept kind.Comma n text e = refl
none_kept kind.OpenSquare n text e = refl
none_kept kind.CloseSquare n text e = refl
none_kept kind.OpenRound n text e = refl
none_kept kind.CloseRound n text e = refl
none_kept kind.Carets n text e = refl

none_ruled : (f : Front TokenKind) (text : List ℕ) → three_marks text ≡ None → Right scanner f text → Ruled scanner (ruled scanner f text) text
none_ruled (Token k n) text e r = subst (λ f. Ruled scanner f text) (sym (none_kept k n text e)) (
  record {
    some = r.0.some;
    in_text = r.0.in_text;
    spelled = subst (λ o. IsTried scanner (only_by o) k (take n text)) (sym e) r.0.spelled;
    longest = λ j i b s. r.0.longest j i b (subst (λ o. IsTried scanner (only_by o) j (take i text)) e s);
  },
  r.1,
)
none_ruled Nothing text e r = (λ j i b s. r.0 j i b (subst (λ o. IsTried scanner (only_by o) j (take i text)) e s), r.1)
none_ruled Long text e r = r

-- What three quote marks spell, by computation: nothing but a string, and from the third mark on a long one.
abbrev is_str : TokenKind → Bool
is_str k = index k == 8

abbrev one_fits : ℕ → TokenKind → Bool
one_fits q k = not (nullable (after (spelling k) (q ∷ [])))

abbrev two_fit : ℕ → TokenKind → Bool
two_fit q k = is_str k || not (nullable (after (spelling k) (q ∷ q ∷ [])))

abbrev three_fit : ℕ → TokenKind → Bool
three_fit q k = is_str k || is_never (after (spelling k) (q ∷ q ∷ q ∷ []))

abbrev long_fits : ℕ → Bool
long_fits q = not (nullable (long_string q)) && (not (nullable (after (long_string q) (q ∷ []))) && not (nullable (after (long_string q) (q ∷ q ∷ []))))

abbrev fits : ℕ → Bool
fits q = (all (one_fits q) kinds && (all (two_fit q) kinds && all (three_fit q) kinds))
    && (alike (after (spelling kind.Str) (q ∷ q ∷ q ∷ [])) (after (long_string q) (q ∷ q ∷ q ∷ [])) && long_fits q)

double_fits : fits 0x22 ≡ true
double_fits = refl

single_fits : fits 0x27 ≡ true
single_fits = refl

or_true : (x y : Bool) → (x || y) ≡ true → (x ≡ true) ⊎ (y ≡ true)
or_true true y h = inl refl
or_true false y h = inr h

not_true : (x : Bool) → not x ≡ true → x ≡ true → ⊥
not_true x h e = false≢true (sym (ap not e) ∙ h)

by_quote : (P : ℕ → Type 0) (q : ℕ) → is_quote q ≡ true → P 0x22 → P 0x27 → P q
by_quote P q h double single = elim (or_true (q == 0x22) (q == 0x27) h) [
  | inl e ↦ subst P (sym (eqb-true q 0x22 e)) double
  | inr e ↦ subst P (sym (eqb-true q 0x27 e)) single
]

-- the tests, one by one
record Fitting (q : ℕ) : Type 0 where
  one : (k : TokenKind) → one_fits q k ≡ true
  two : (k : TokenKind) → two_fit q k ≡ true
  three : (k : TokenKind) → three_fit q k ≡ true
  same : alike (after (spelling kind.Str) (q ∷ q ∷ q ∷ [])) (after (long_string q) (q ∷ q ∷ q ∷ [])) ≡ true
  long : long_fits q ≡ true

fitting : (q : ℕ) → is_quote q ≡ true → Fitting q
fitting q h =
    let parts = and_parts (all (one_fits q) kinds && (all (two_fit q) kinds && all (three_fit q) kinds))
    (alike (after (spelling kind.Str) (q ∷ q ∷ q ∷ [])) (after (long_string q) (q ∷ q ∷ q ∷ [])) && long_fits q) (by_quote (λ x. fits x ≡ true) q h double_fits single_fits) in
    let lists = and_parts (all (one_fits q) kinds) (all (two_fit q) kinds && all (three_fit q) kinds) parts.0 in
    let more = and_parts (all (two_fit q) kinds) (all (three_fit q) kinds) lists.1 in
    let last = and_parts (alike (after (spelling kind.Str) (q ∷ q ∷ q ∷ [])) (after (long_string q) (q ∷ q ∷ q ∷ []))) (long_fits q) parts.1 in
    record {
      one = each_kind (one_fits q) lists.0;
      two = each_kind (two_fit q) more.0;
      three = each_kind (three_fit q) more.1;
      same = last.0;
      long = last.1;
    }

str_is : (k : TokenKind) → is_str k ≡ true → k ≡ kind.Str
str_is k h = sym (kind_of k) ∙ ap (λ n. get_or kinds n kind.Carets) (eqb-true (index k) 8 h)

-- a text that is spelled is nullable behind itself
whole_nullable : (p : Pattern) (s : List ℕ) → Matches p s → nullable (after p s) ≡ true
whole_nullable p s m = nullable-takes (after p s) (after-takes p s [] (subst (Matches p) (sym (append-nil s)) m))

never_none : (p : Pattern) (t : List ℕ) → is_never p ≡ true → Matches p t → ⊥
never_none Never t h m = m
never_none Pattern.Nothing t h m = false≢true h
never_none (Pattern.One rs) t h m = false≢true h
never_none (Pattern.Then p q) t h m = false≢true h
never_none (Pattern.Either p q) t h m = false≢true h
never_none (Pattern.Many p) t h m = false≢true h

by_three : (q : ℕ) (t : List ℕ) (k : TokenKind) → Fitting q → Matches (spelling k) (q ∷ q ∷ q ∷ t) → (k ≡ kind.Str) × Matches (long_string q) (q ∷ q ∷ q ∷ t)
by_three q t k f m = elim (or_true (is_str k) (is_never (after (spelling k) (q ∷ q ∷ q ∷ []))) (f.three k)) [
  | inl s ↦ (
    str_is k s,
    after-gives (long_string q) (q ∷ q ∷ q ∷ []) t
        (alike-to (after (spelling kind.Str) (q ∷ q ∷ q ∷ [])) (after (long_string q) (q ∷ q ∷ q ∷ [])) t f.same
        (after-takes (spelling kind.Str) (q ∷ q ∷ q ∷ []) t (subst (λ x. Matches (spelling x) (q ∷ q ∷ q ∷ t)) (str_is k s) m))),
  )
  | inr n ↦ absurd (never_none (after (spelling k) (q ∷ q ∷ q ∷ [])) t n (after-takes (spelling k) (q ∷ q ∷ q ∷ []) t m))
]

-- a spelling at the front of three quote marks is the empty string or a long one
tried_to : (q : ℕ) (rest : List ℕ) (k : TokenKind) (i : ℕ) → Fitting q → Spells turtle k (take i (q ∷ q ∷ q ∷ rest))
    → ((i ≡ 2) × (k ≡ kind.Str)) ⊎ ((k ≡ kind.Str) × Matches (long_string q) (take i (q ∷ q ∷ q ∷ rest)))
tried_to q rest k zero f s = absurd (none_empty turtle turtle_machine refl k s)
tried_to q rest k (suc zero) f s = absurd (not_true (nullable (after (spelling k) (q ∷ []))) (f.one k) (whole_nullable (spelling k) (q ∷ []) s))
tried_to q rest k (suc (suc zero)) f s = elim (or_true (is_str k) (not (nullable (after (spelling k) (q ∷ q ∷ [])))) (f.two k)) [
  | inl e ↦ inl (refl, str_is k e)
  | inr e ↦ absurd (not_true (nullable (after (spelling k) (q ∷ q ∷ []))) e (whole_nullable (spelling k) (q ∷ q ∷ []) s))
]
tried_to q rest k (suc (suc (suc i))) f s = inr (by_three q (take i rest) k f s)

-- a long string is a string
long_spells : (q : ℕ) (k : TokenKind) (s : List ℕ) → is_quote q ≡ true → (k ≡ kind.Str) × Matches (long_string q) s → Spells turtle k s
long_spells q k s h t = subst (λ x. Spells turtle x s) (sym t.0) (by_quote (λ x. Matches (long_string x) s → Spells turtle kind.Str s) q h (λ m. inr (inl m)) (λ m. inr (inr m)) t.1)

-- and has more than two characters
long_is_long : (q : ℕ) (rest : List ℕ) (i : ℕ) → Fitting q → Matches (long_string q) (take i (q ∷ q ∷ q ∷ rest)) → i ≤ 2 → ⊥
long_is_long q rest i f m h =
    let parts = and_parts (not (nullable (long_string q))) (not (nullable (after (long_string q) (q ∷ []))) && not (nullable (after (long_string q) (q ∷ q ∷ [])))) f.long in
    let more = and_parts (not (nullable (after (long_string q) (q ∷ [])))) (not (nullable (after (long_string q) (q ∷ q ∷ [])))) parts.1 in
    by_length i m h parts.0 more.0 more.1
  where
    by_length : (i : ℕ) → Matches (long_string q) (take i (q ∷ q ∷ q ∷ rest)) → i ≤ 2 → not (nullable (long_string q)) ≡ true
        → not (nullable (after (long_string q) (q ∷ []))) ≡ true → not (nullable (after (long_string q) (q ∷ q ∷ []))) ≡ true → ⊥
    by_length zero m h a b c = not_true (nullable (long_string q)) a (whole_nullable (long_string q) [] m)
    by_length (suc zero) m h a b c = not_true (nullable (after (long_string q) (q ∷ []))) b (whole_nullable (long_string q) (q ∷ []) m)
    by_length (suc (suc zero)) m h a b c = not_true (nullable (after (long_string q) (q ∷ q ∷ []))) c (whole_nullable (long_string q) (q ∷ q ∷ []) m)
    by_length (suc (suc (suc i))) m h a b c = absurd (omega (arith, h))

str_two : (text : List ℕ) (q : ℕ) → three_marks text ≡ Some q → ruled scanner (Token kind.Str 2) text ≡ Nothing
str_two text q e = ap (λ o. cond (is_some o && 2 == 2) Nothing (Token kind.Str 2)) e

str_more : (n : ℕ) (text : List ℕ) (q : ℕ) → three_marks text ≡ Some q → (n ≡ 2 → ⊥) → ruled scanner (Token kind.Str n) text ≡ Token kind.Str n
str_more n text q e h = ap (λ o. cond (is_some o && n == 2) Nothing (Token kind.Str n)) e ∙ ap (λ b. cond b Nothing (Token kind.Str n)) (ne_eqb n 2 h)

marks_ruled : (f : Front TokenKind) (q : ℕ) (rest : List ℕ) → is_quote q ≡ true → Fitting q → three_marks (q ∷ q ∷ q ∷ rest) ≡ Some q → Right scanner f (q ∷ q ∷ q ∷ rest)
    → Ruled scanner (ruled scanner f (q ∷ q ∷ q ∷ rest)) (q ∷ q ∷ q ∷ rest)
marks_ruled Long q rest h f e r = r
marks_ruled Nothing q rest h f e r =
    (λ j i b s. r.0 j i b (long_spells q j (take i (q ∷ q ∷ q ∷ rest)) h (subst (λ o. IsTried scanner (only_by o) j (take i (q ∷ q ∷ q ∷ rest))) e s)), r.1)
marks_ruled (Token k n) q rest h f e r = elim (tried_to q rest k n f r.0.spelled) [
  | inl two ↦ subst (λ x. Ruled scanner (ruled scanner (Token x n) (q ∷ q ∷ q ∷ rest)) (q ∷ q ∷ q ∷ rest)) (sym two.1)
      (subst (λ m. Ruled scanner (ruled scanner (Token kind.Str m) (q ∷ q ∷ q ∷ rest)) (q ∷ q ∷ q ∷ rest)) (sym two.0)
      (subst (λ x. Ruled scanner x (q ∷ q ∷ q ∷ rest)) (sym (str_two (q ∷ q ∷ q ∷ rest) q e)) (
        λ j i b s.
            let tried = subst (λ o. IsTried scanner (only_by o) j (take i (q ∷ q ∷ q ∷ rest))) e s in
            long_is_long q rest i f tried.1 (let short : i ≤ n = r.0.longest j i b (long_spells q j (take i (q ∷ q ∷ q ∷ rest)) h tried) in omega (arith, short, two.0)),
        r.1,
      )))
  | inr long ↦
      let apart : n ≡ 2 → ⊥ = λ t. long_is_long q rest n f long.1 (omega (arith, t)) in
      subst (λ x. Ruled scanner (ruled scanner (Token x n) (q ∷ q ∷ q ∷ rest)) (q ∷ q ∷ q ∷ rest)) (sym long.0)
      (subst (λ x. Ruled scanner x (q ∷ q ∷ q ∷ rest)) (sym (str_more n (q ∷ q ∷ q ∷ rest) q e apart)) (
        record {
          some = r.0.some;
          in_text = r.0.in_text;
          spelled = subst (λ o. IsTried scanner (only_by o) kind.Str (take n (q ∷ q ∷ q ∷ rest))) (sym e) (refl, long.1);
          longest = λ j i b s. r.0.longest j i b (long_spells q j (take i (q ∷ q ∷ q ∷ rest)) h (subst (λ o. IsTried scanner (only_by o) j (take i (q ∷ q ∷ q ∷ rest))) e s));
        },
        r.1,
      ))
]

-- which text has three marks
record Marked (text : List ℕ) (q : ℕ) : Type 0 where
  rest : List ℕ
  is : text ≡ q ∷ q ∷ q ∷ rest
  quote : is_quote q ≡ true

none_some : (q : ℕ) → None ≡ Some q → ⊥
none_some q e = cc

some_same : (a q : ℕ) → Some a ≡ Some q → a ≡ q
some_same a q e = cc

marked_by : (a b c : ℕ) (rest : List ℕ) (q : ℕ) (t : Bool) → (is_quote a && (b == a && c == a)) ≡ t → cond t (Some a) None ≡ Some q → Marked (a ∷ b ∷ c ∷ rest) q
marked_by a b c rest q false t e = absurd (none_some q e)
marked_by a b c rest q true t e =
    let same : a ≡ q = some_same a q e in
    let parts = and_parts (is_quote a) (b == a && c == a) t in
    let marks = and_parts (b == a) (c == a) parts.1 in
    record {
      rest = rest;
      is = ap (λ x. x ∷ b ∷ c ∷ rest) same ∙ ap (λ x. q ∷ x ∷ c ∷ rest) (eqb-true b a marks.0 ∙ same) ∙ ap (λ x. q ∷ q ∷ x ∷ rest) (eqb-true c a marks.1 ∙ same);
      quote = subst (λ x. is_quote x ≡ true) same parts.0;
    }

marked : (text : List ℕ) (q : ℕ) → three_marks text ≡ Some q → Marked text q
marked [] q e = absurd (none_some q e)
marked (a ∷ []) q e = absurd (none_some q e)
marked (a ∷ b ∷ []) q e = absurd (none_some q e)
marked (a ∷ b ∷ c ∷ rest) q e = marked_by a b c rest q (is_quote a && (b == a && c == a)) refl e

pub ruled_right : (f : Front TokenKind) (text : List ℕ) → Right scanner f text → Ruled scanner (ruled scanner f text) text
ruled_right f text r = by_marks (three_marks text) f text refl r
  where
    by_marks : (o : Option ℕ) (f : Front TokenKind) (text : List ℕ) → three_marks text ≡ o → Right scanner f text → Ruled scanner (ruled scanner f text) text
    by_marks None f text e r = none_ruled f text e r
    by_marks (Some q) f text e r =
        let m = marked text q e in
        subst (λ x. Ruled scanner (ruled scanner f x) x) (sym m.is) (marks_ruled f q m.rest m.quote (fitting q m.quote) (subst (λ x. three_marks x ≡ Some q) m.is e) (subst (Right scanner f) m.is r))
