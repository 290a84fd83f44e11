-- Turtle is a syntax whose machine reads the standard's tokens.
use Rattle.std.proofs.Common.{ℕ, zero, suc, List, [], ◌∷◌, ◌++◌, ◌≡◌, ◌<◌, ◌≤◌, length, refl, sym, ◌∙◌, ◌⊎◌, subst, arith, inl, inr}
use Rattle.std.proofs.lemmas.Bool.{false≢true, and_parts, eqb-true}
use Rattle.std.specs.Prelude.{Bool, true, false, cond, ◌&&◌, ◌||◌, ◌==◌, Option, None, Some, is_some, is_none, slice_index_or}
use Rattle.text_patterns.specs.Derivatives.{after}
use Rattle.text_patterns.specs.Machines.{Spells}
use Rattle.text_patterns.proofs.Derivatives.{nullable-gives, after-gives}
use Rattle.text_patterns.proofs.Spans.{all_below}
use Rattle.token_scanner.specs.Cutting.{Leads}
use Rattle.token_scanner.specs.Rules.{IsScanner}
use Rattle.turtle_tokens.specs.Terminals.{spelling}
use Rattle.turtle_tokens.specs.Machine.{turtle}
use Rattle.turtle_tokens.specs.Marks.{three_marks, is_quote, drops}
use Rattle.turtle_tokens.specs.Scanning.{scanner}
use Rattle.turtle_tokens.specs.Steps.{next, entry, is_final, class_at, row_of}
use Rattle.turtle_tokens.specs.declared.table.TheConstants.{FINAL}
use Rattle.turtle_tokens.specs.declared.kinds.TokenKind.{TokenKind}
use Rattle.turtle_tokens.specs.declared.kinds.TokenKind.TheVariants as kind
use Rattle.turtle_tokens.specs.Lists.{each_row, each_column}
use Rattle.turtle_tokens.specs.Tested.{turtle_machine}
use Rattle.turtle_tokens.specs.Ruling.{ruled_right}

-- nothing comes behind a final state
abbrev stuck : ℕ → ℕ → Bool
stuck row column = cond (slice_index_or FINAL row false) (is_none (entry row column)) true

rows_stuck : all_below 133 (λ row. all_below 52 (stuck row)) ≡ true
rows_stuck = refl

none_is : {A : Type 0} (o : Option A) → is_none o ≡ true → o ≡ None
none_is None e = refl
none_is (Some x) e = absurd (false≢true e)

final_stuck : (q c : ℕ) → is_final q ≡ true → next q c ≡ None
final_stuck q c e = none_is (next q c) (subst (λ b. cond b (is_none (next q c)) true ≡ true) e
    (each_column (stuck (row_of q)) (each_row (λ row. all_below 52 (stuck row)) rows_stuck q) c))

-- the rule of three quote marks needs no more than the characters up to the end of the token and one more
and_false : (b : Bool) → (b && false) ≡ false
and_false true = refl
and_false false = refl

not_two : (n : ℕ) (text : List ℕ) → n < 2 → drops kind.Str n text ≡ false
not_two zero text h = and_false (is_some (three_marks text))
not_two (suc zero) text h = and_false (is_some (three_marks text))
not_two (suc (suc n)) text h = absurd (omega arith)

str_more : (n : ℕ) (chars more : List ℕ) → n < length chars → drops kind.Str n (chars ++ more) ≡ drops kind.Str n chars
str_more n [] more h = absurd (omega arith)
str_more n (a ∷ []) more h = not_two n (a ∷ more) (omega (arith, h)) ∙ sym (not_two n (a ∷ []) (omega (arith, h)))
str_more n (a ∷ b ∷ []) more h = not_two n (a ∷ b ∷ more) h ∙ sym (not_two n (a ∷ b ∷ []) h)
str_more n (a ∷ b ∷ c ∷ chars) more h = refl

-- no other token is dropped
by_kind : (k : TokenKind) (n : ℕ) (s t : List ℕ) → drops kind.Str n s ≡ drops kind.Str n t → drops k n s ≡ drops k n t
by_kind kind.Str n s t e = e
by_kind kind.IriRef n s t e = refl
by_kind kind.PnameNs n s t e = refl
by_kind kind.PnameLn n s t e = refl
by_kind kind.Blank n s t e = refl
by_kind kind.AtWord n s t e = refl
by_kind kind.Integer n s t e = refl
by_kind kind.Decimal n s t e = refl
by_kind kind.Double n s t e = refl
by_kind kind.A n s t e = refl
by_kind kind.True n s t e = refl
by_kind kind.False n s t e = refl
by_kind kind.Prefix n s t e = refl
by_kind kind.Base n s t e = refl
by_kind kind.Dot n s t e = refl
by_kind kind.Semicolon n s t e = refl
by_kind kind.Comma n s t e = refl
by_kind kind.OpenSquare n s t e = refl
by_kind kind.CloseSquare n s t e = refl
by_kind kind.OpenRound n s t e = refl
by_kind kind.CloseRound n s t e = refl
by_kind kind.Carets n s t e = refl

or_true : (x y : Bool) → (x || y) ≡ true → (x ≡ true) ⊎ (y ≡ true)
or_true true y h = inl refl
or_true false y h = inr h

six_marks : (a : ℕ) → is_quote a ≡ true → Spells turtle kind.Str (a ∷ a ∷ a ∷ a ∷ a ∷ a ∷ [])
six_marks a q = elim (or_true (a == 0x22) (a == 0x27) q) [
  | inl e ↦ subst (λ x. Spells turtle kind.Str (x ∷ x ∷ x ∷ x ∷ x ∷ x ∷ [])) (sym (eqb-true a 0x22 e))
      (after-gives (spelling kind.Str) (0x22 ∷ 0x22 ∷ 0x22 ∷ 0x22 ∷ 0x22 ∷ 0x22 ∷ []) [] (nullable-gives (after (spelling kind.Str) (0x22 ∷ 0x22 ∷ 0x22 ∷ 0x22 ∷ 0x22 ∷ 0x22 ∷ [])) refl))
  | inr e ↦ subst (λ x. Spells turtle kind.Str (x ∷ x ∷ x ∷ x ∷ x ∷ x ∷ [])) (sym (eqb-true a 0x27 e))
      (after-gives (spelling kind.Str) (0x27 ∷ 0x27 ∷ 0x27 ∷ 0x27 ∷ 0x27 ∷ 0x27 ∷ []) [] (nullable-gives (after (spelling kind.Str) (0x27 ∷ 0x27 ∷ 0x27 ∷ 0x27 ∷ 0x27 ∷ 0x27 ∷ [])) refl))
]

cons_nil : (c : ℕ) (s : List ℕ) → c ∷ s ≡ [] → ⊥
cons_nil c s e = cc

-- behind two quote marks a long string goes on
not_final : (a b q : ℕ) → is_quote a ≡ true → b ≡ a → Leads scanner q (a ∷ b ∷ []) → is_final q ≡ true → ⊥
not_final a b q quote same leads final =
    let spelled = subst (λ x. Spells turtle kind.Str (a ∷ x ∷ a ∷ a ∷ a ∷ a ∷ [])) (sym same) (six_marks a quote) in
    cons_nil a (a ∷ a ∷ a ∷ []) (turtle_machine.shut q final kind.Str (a ∷ a ∷ a ∷ a ∷ []) (leads.to kind.Str (a ∷ a ∷ a ∷ a ∷ []) spelled))

two_marks : (n a b c q : ℕ) (t : Bool) → (is_quote a && (b == a && c == a)) ≡ t → Leads scanner q (a ∷ b ∷ []) → is_final q ≡ true
    → (is_some (cond t (Some a) None) && n == 2) ≡ false
two_marks n a b c q false e leads final = refl
two_marks n a b c q true e leads final =
    let parts = and_parts (is_quote a) (b == a && c == a) e in
    absurd (not_final a b q parts.0 (eqb-true b a (and_parts (b == a) (c == a) parts.1).0) leads final)

str_final : (n : ℕ) (chars more : List ℕ) (q : ℕ) → Leads scanner q chars → is_final q ≡ true → n ≤ length chars → drops kind.Str n (chars ++ more) ≡ drops kind.Str n chars
str_final n [] more q leads final h = not_two n more (omega (arith, h)) ∙ sym (not_two n [] (omega (arith, h)))
str_final n (a ∷ []) more q leads final h = not_two n (a ∷ more) (omega (arith, h)) ∙ sym (not_two n (a ∷ []) (omega (arith, h)))
str_final n (a ∷ b ∷ []) [] q leads final h = refl
str_final n (a ∷ b ∷ []) (c ∷ more) q leads final h = two_marks n a b c q (is_quote a && (b == a && c == a)) refl leads final
str_final n (a ∷ b ∷ c ∷ chars) more q leads final h = refl

pub right : IsScanner scanner
right = record {
  machine = turtle_machine;
  begins = refl;
  opens = refl;
  stuck = λ q c e. final_stuck q (class_at c) e;
  rules = ruled_right;
  inside = λ k n chars more h. by_kind k n (chars ++ more) chars (str_more n chars more h);
  final = λ k n chars more q h leads final. by_kind k n (chars ++ more) chars (str_final n chars more q leads final h);
}
