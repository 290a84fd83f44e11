-- The parts of UTF-8 are UTF-8, and so is what is made of them.
use Rattle.std.proofs.Common.{ℕ, zero, suc, List, [], ◌∷◌, ◌++◌, ◌≡◌, ◌<◌, ◌≤◌, ◌+◌, ◌-◌, length, take, drop, get_or, refl, ap, sym, ◌∙◌, subst, arith, inl, inr}
use Rattle.std.proofs.Math.ListN.{get_or-eq_default}
use Rattle.std.proofs.lemmas.List.{length-drop, get_or-drop, get_or-reverse, length-reverse}
use Rattle.std.proofs.lemmas.List.Sums.{prefix_len-le-length, prefix_len_stops}
use Rattle.std.proofs.lemmas.Bool.{cond_both, false≢true, true≢false, and_parts, or_cases, eqb-true, cases_lt}
use Rattle.std.proofs.lemmas.Str.{IsUtf8-append, IsUtf8-nil, IsUtf8-encode, encode_ascii, IsUtf8-take, IsUtf8-drop, IsUtf8-between, IsCharBoundary-start, IsCharBoundary-end, IsCharBoundary-before_ascii, IsCharBoundary-after_ascii}
use Rattle.std.specs.Prelude.{reverse, Bool, true, false, not, ◌||◌, ◌&&◌, ◌==◌, nat_eq, ⊤, Option, None, Some, Result, Ok, Err}
use Rattle.std.specs.Result.{MatchResult, IsOk}
use Rattle.std.specs.List.{prefix_len, suffix_len, starts_with, list_any}
use Rattle.std.specs.Str.{IsUtf8, IsCharBoundary, bytes_eq}
use Rattle.std.specs.Char.{is_ascii_alphabetic}
use lib.Utf8.{low_scalar}
use Rattle.iri_resolve.specs.declared.splitting.Span.{Span}
use Rattle.iri_resolve.specs.Dots.{is_slash, no_slash, up_slash, dot_slash, slash_dot_slash, slash_dot, slash_up_slash, slash_up, dot, up, starts, through_last_slash, without_last, segment_length, dot_step, without_dots_from, without_dots}
use Rattle.iri_resolve.specs.Resolution.{Pieces, piece, piece_of, pieces, marked, recomposed, colon, slashes, question, number_sign, is_empty, or_else, merged, target, resolved}
use Rattle.iri_resolve.specs.Splitting.{is_there, goes_on, until, authority_ends, path_ends, query_ends, two_slashes, scheme_length, scheme_span, behind_scheme, behind, authority_span, path_span, query_span, fragment_span, is_scheme_byte}

-- each of the bytes is ASCII
abbrev pub AllLow : List ℕ → Type 0
AllLow [] = Unit {0}
AllLow (b ∷ bytes) = (b < 128) × AllLow bytes

pub low_utf8 : (bytes : List ℕ) → AllLow bytes → IsUtf8 bytes
low_utf8 [] h = IsUtf8-nil
low_utf8 (b ∷ bytes) h = IsUtf8-append (b ∷ []) bytes (subst IsUtf8 (encode_ascii b h.0) (IsUtf8-encode b (low_scalar b (omega (arith, h.0))))) (low_utf8 bytes h.1)

ends_low : (ends : List ℕ) (b : ℕ) → AllLow ends → list_any (λ e. nat_eq e b) ends ≡ true → b < 128
ends_low [] b h e = absurd (false≢true e)
ends_low (x ∷ ends) b h e = elim (or_cases (nat_eq x b) (list_any (λ y. nat_eq y b) ends) e) [
  | inl same ↦ subst (λ y. y < 128) (eqb-true x b same) h.0
  | inr more ↦ ends_low ends b h.1 more
]

off : (b : Bool) → not b ≡ false → b ≡ true
off true e = refl
off false e = absurd (true≢false e)

boundary_until : (ends text : List ℕ) (from : ℕ) → AllLow ends → from ≤ length text → IsCharBoundary text (until ends text from)
boundary_until ends text from low h =
    let n = prefix_len (goes_on ends) (drop from text) in
    let small = prefix_len-le-length (goes_on ends) (drop from text) in
    let size = length-drop from text in
    elim (cases_lt n (length (drop from text))) [
      | inl x ↦
          let stop = prefix_len_stops (goes_on ends) (drop from text) 0 x in
          let here : get_or text (from + n) 0 < 128 = subst (λ y. y < 128) (get_or-drop from text n 0)
          (ends_low ends (get_or (drop from text) n 0) low (off (list_any (λ e. nat_eq e (get_or (drop from text) n 0)) ends) stop)) in
          IsCharBoundary-before_ascii text (from + n) (omega (arith, x, size)) here
      | inr x ↦ subst (IsCharBoundary text) (let q : length text ≡ from + n = omega (arith, x, size, small) in q) (IsCharBoundary-end text)
    ]

-- a byte that is not 0 stands in the text
there : (text : List ℕ) (n b : ℕ) → (get_or text n 0 == b) ≡ true → 0 < b → (n < length text) × (get_or text n 0 ≡ b)
there text n b e h =
    let same = eqb-true (get_or text n 0) b e in
    elim (cases_lt n (length text)) [ inl x ↦ (x, same) | inr x ↦ absurd (omega (arith, same, get_or-eq_default text 0 x)) ]

past : (text : List ℕ) (n b : ℕ) → IsUtf8 text → (get_or text n 0 == b) ≡ true → 0 < b → b < 128 → IsCharBoundary text (n + 1)
past text n b u e h low = let t = there text n b e h in IsCharBoundary-after_ascii text n u t.0 (omega (arith, t.1))

before : (text : List ℕ) (n b : ℕ) → (get_or text n 0 == b) ≡ true → 0 < b → b < 128 → IsCharBoundary text n
before text n b e h low = let t = there text n b e h in IsCharBoundary-before_ascii text n t.0 (omega (arith, t.1))

-- a part between characters
abbrev Bound : List ℕ → Span → Type 0
Bound text span = (span.from ≤ span.to) × IsCharBoundary text span.from × IsCharBoundary text span.to

abbrev BoundIfThere : List ℕ → Option Span → Type 0
BoundIfThere text None = ⊤
BoundIfThere text (Some span) = Bound text span

scheme_bound : (text : List ℕ) → IsUtf8 text → BoundIfThere text (scheme_span (scheme_length text)) × IsCharBoundary text (behind_scheme (scheme_length text))
scheme_bound text u =
    let n = prefix_len is_scheme_byte text in
    let test = is_ascii_alphabetic (get_or text 0 0) && (get_or text n 0 == 0x3A) in
    let P : Option ℕ → Type 0 = λ o. BoundIfThere text (scheme_span o) × IsCharBoundary text (behind_scheme o) in
    cond_both test (Some n) None P
    (λ e. let both = and_parts (is_ascii_alphabetic (get_or text 0 0)) (get_or text n 0 == 0x3A) e in
    ((omega arith, IsCharBoundary-start text u, before text n 0x3A both.1 (omega arith) (omega arith)), past text n 0x3A u both.1 (omega arith) (omega arith)))
    (λ e. (tt, IsCharBoundary-start text u))

until_from : (ends text : List ℕ) (from : ℕ) → from ≤ until ends text from
until_from ends text from = omega arith

-- the front of a text that begins with these bytes
pub starts_is : (front text : List ℕ) → starts_with nat_eq text front ≡ true → (k : ℕ) → k < length front → (k < length text) × (get_or text k 0 ≡ get_or front k 0)
starts_is [] text e k h = absurd (omega arith)
starts_is (f ∷ front) [] e k h = absurd (false≢true e)
starts_is (f ∷ front) (b ∷ text) e zero h = let both = and_parts (nat_eq f b) (starts_with nat_eq text front) e in (omega arith, sym (eqb-true f b both.0))
starts_is (f ∷ front) (b ∷ text) e (suc k) h =
    let both = and_parts (nat_eq f b) (starts_with nat_eq text front) e in
    let rest = starts_is front text both.1 k (omega arith) in
    (omega (arith, rest.0), rest.1)

authority_bound : (text : List ℕ) (at : ℕ) → IsUtf8 text → IsCharBoundary text at → BoundIfThere text (authority_span text at) × IsCharBoundary text (behind (authority_span text at) at)
authority_bound text at u b =
    let P : Option Span → Type 0 = λ o. BoundIfThere text o × IsCharBoundary text (behind o at) in
    cond_both (starts_with nat_eq (drop at text) two_slashes) (Some (record { from = at + 2; to = until authority_ends text (at + 2) })) None P
    (λ e.
    let second = starts_is two_slashes (drop at text) e 1 (omega arith) in
    let slash : get_or text (at + 1) 0 ≡ 0x2F = sym (get_or-drop at text 1 0) ∙ second.1 in
    let room : at + 1 < length text = omega (arith, second.0, length-drop at text) in
    let from : IsCharBoundary text (at + 2) = subst (IsCharBoundary text) (let q : at + 1 + 1 ≡ at + 2 = omega arith in q) (IsCharBoundary-after_ascii text (at + 1) u room (omega (arith, slash))) in
    let to = boundary_until authority_ends text (at + 2) (omega arith, (omega arith, (omega arith, tt))) from.0 in
    ((omega arith, from, to), to))
    (λ e. (tt, b))

query_bound : (text : List ℕ) (at : ℕ) → IsUtf8 text → IsCharBoundary text at → BoundIfThere text (query_span text at) × IsCharBoundary text (behind (query_span text at) at)
query_bound text at u b =
    let P : Option Span → Type 0 = λ o. BoundIfThere text o × IsCharBoundary text (behind o at) in
    cond_both (get_or text at 0 == 0x3F) (Some (record { from = at + 1; to = until query_ends text (at + 1) })) None P
    (λ e.
    let from = past text at 0x3F u e (omega arith) (omega arith) in
    let to = boundary_until query_ends text (at + 1) (omega arith, tt) from.0 in
    ((omega arith, from, to), to))
    (λ e. (tt, b))

fragment_bound : (text : List ℕ) (at : ℕ) → IsUtf8 text → BoundIfThere text (fragment_span text at)
fragment_bound text at u =
    cond_both (get_or text at 0 == 0x23) (Some (record { from = at + 1; to = length text })) None (BoundIfThere text)
    (λ e.
    let t = there text at 0x23 e (omega arith) in
    let from = past text at 0x23 u e (omega arith) (omega arith) in
    (omega (arith, t.0), from, IsCharBoundary-end text))
    (λ e. tt)

-- ASCII bytes at the front are characters
front_drop : (front text : List ℕ) → AllLow front → IsUtf8 text → starts text front ≡ true → 0 < length front → IsUtf8 (drop (length front) text)
front_drop front text low u e h =
    let last = starts_is front text e (length front - 1) (omega arith) in
    let small : get_or text (length front - 1) 0 < 128 = subst (λ x. x < 128) (sym last.1) (low_at front (length front - 1) low (omega arith)) in
    IsUtf8-drop text (length front) u (subst (IsCharBoundary text) (let q : length front - 1 + 1 ≡ length front = omega arith in q) (IsCharBoundary-after_ascii text (length front - 1) u last.0 small))
  where
    low_at : (bytes : List ℕ) (k : ℕ) → AllLow bytes → k < length bytes → get_or bytes k 0 < 128
    low_at [] k l i = absurd (omega arith)
    low_at (b ∷ bytes) zero l i = l.0
    low_at (b ∷ bytes) (suc k) l i = low_at bytes k l.1 (omega arith)

-- equal bytes
bytes_same : (a b : List ℕ) → bytes_eq a b ≡ true → a ≡ b
bytes_same [] [] e = refl
bytes_same [] (y ∷ b) e = absurd (false≢true e)
bytes_same (x ∷ a) [] e = absurd (false≢true e)
bytes_same (x ∷ a) (y ∷ b) e = let both = and_parts (nat_eq x y) (bytes_eq a b) e in (λ i. eqb-true x y both.0 i ∷ bytes_same a b both.1 i)

no_slash_low : (b : ℕ) → no_slash b ≡ false → b < 128
no_slash_low b e = let same = eqb-true b 0x2F (off (is_slash b) e) in omega (arith, same)

-- the last slash
slash_before : (text : List ℕ) → 0 < through_last_slash text → get_or text (through_last_slash text - 1) 0 < 128
slash_before text h =
    let n = suffix_len no_slash text in
    let stop = prefix_len_stops no_slash (reverse text) 0 (omega (arith, h, length-reverse text)) in
    let here : get_or (reverse text) n 0 ≡ get_or text (length text - 1 - n) 0 = get_or-reverse text n 0 (omega (arith, h)) in
    no_slash_low (get_or text (through_last_slash text - 1) 0)
    (ap (λ k. no_slash (get_or text k 0)) (let q : length text - n - 1 ≡ length text - 1 - n = omega arith in q) ∙ ap no_slash (sym here) ∙ stop)

last_utf8 : (text : List ℕ) → IsUtf8 text → IsUtf8 (without_last text)
last_utf8 text u = elim (cases_lt 0 (through_last_slash text)) [
  | inl x ↦ IsUtf8-take text (through_last_slash text - 1) u (IsCharBoundary-before_ascii text (through_last_slash text - 1) (omega (arith, x)) (slash_before text x))
  | inr x ↦ subst (λ n. IsUtf8 (take n text)) (let q : 0 ≡ through_last_slash text - 1 = omega (arith, x) in q) IsUtf8-nil
]

through_utf8 : (text : List ℕ) → IsUtf8 text → IsUtf8 (take (through_last_slash text) text)
through_utf8 text u = elim (cases_lt 0 (through_last_slash text)) [
  | inl x ↦ IsUtf8-take text (through_last_slash text) u (subst (IsCharBoundary text) (let q : through_last_slash text - 1 + 1 ≡ through_last_slash text = omega (arith, x) in q)
      (IsCharBoundary-after_ascii text (through_last_slash text - 1) u (omega (arith, x)) (slash_before text x)))
  | inr x ↦ subst (λ n. IsUtf8 (take n text)) (let q : 0 ≡ through_last_slash text = omega (arith, x) in q) IsUtf8-nil
]

segment_bound : (b : ℕ) (input : List ℕ) → IsCharBoundary (b ∷ input) (segment_length (b ∷ input))
segment_bound b input =
    let n = prefix_len no_slash input in
    let small = prefix_len-le-length no_slash input in
    elim (cases_lt n (length input)) [
      | inl x ↦
          let here : get_or (b ∷ input) (1 + n) 0 < 128 = subst (λ k. get_or (b ∷ input) k 0 < 128) (let q : suc n ≡ 1 + n = omega arith in q)
          (no_slash_low (get_or input n 0) (prefix_len_stops no_slash input 0 x)) in
          IsCharBoundary-before_ascii (b ∷ input) (1 + n) (omega (arith, x)) here
      | inr x ↦ subst (IsCharBoundary (b ∷ input)) (let q : length (b ∷ input) ≡ 1 + n = omega (arith, x, small) in q) (IsCharBoundary-end (b ∷ input))
    ]

one_of : (input front : List ℕ) → AllLow (take 1 front) → bytes_eq input front ≡ true → IsUtf8 (take 1 input)
one_of input front low e = subst (λ x. IsUtf8 (take 1 x)) (sym (bytes_same input front e)) (low_utf8 (take 1 front) low)

abbrev Both : List ℕ × List ℕ → Type 0
Both x = IsUtf8 x.0 × IsUtf8 x.1

step_utf8 : (b : ℕ) (input output : List ℕ) → IsUtf8 (b ∷ input) → IsUtf8 output → Both (dot_step (b ∷ input) output)
step_utf8 b input output u v =
    cond_both (starts (b ∷ input) up_slash) _ _ Both (λ e. (front_drop up_slash (b ∷ input) (omega arith, (omega arith, (omega arith, tt))) u e (omega arith), v)) (λ _.
    cond_both (starts (b ∷ input) dot_slash || starts (b ∷ input) slash_dot_slash) _ _ Both (λ e. (two_drop e, v)) (λ _.
    cond_both (bytes_eq (b ∷ input) slash_dot) _ _ Both (λ e. (one_of (b ∷ input) slash_dot (omega arith, tt) e, v)) (λ _.
    cond_both (starts (b ∷ input) slash_up_slash) _ _ Both (λ e. (up_drop e, last_utf8 output v)) (λ _.
    cond_both (bytes_eq (b ∷ input) slash_up) _ _ Both (λ e. (one_of (b ∷ input) slash_up (omega arith, tt) e, last_utf8 output v)) (λ _.
    cond_both (bytes_eq (b ∷ input) dot || bytes_eq (b ∷ input) up) _ _ Both (λ e. (IsUtf8-nil, v)) (λ _. (
      IsUtf8-drop (b ∷ input) (segment_length (b ∷ input)) u (segment_bound b input),
      IsUtf8-append output (take (segment_length (b ∷ input)) (b ∷ input)) v (IsUtf8-take (b ∷ input) (segment_length (b ∷ input)) u (segment_bound b input)),
    )))))))
  where
    two_drop : (starts (b ∷ input) dot_slash || starts (b ∷ input) slash_dot_slash) ≡ true → IsUtf8 (drop 2 (b ∷ input))
    two_drop e = elim (or_cases (starts (b ∷ input) dot_slash) (starts (b ∷ input) slash_dot_slash) e) [
      | inl x ↦ front_drop dot_slash (b ∷ input) (omega arith, (omega arith, tt)) u x (omega arith)
      | inr x ↦
          let second = starts_is slash_dot_slash (b ∷ input) x 1 (omega arith) in
          IsUtf8-drop (b ∷ input) 2 u (IsCharBoundary-after_ascii (b ∷ input) 1 u second.0 (omega (arith, second.1)))
    ]

    up_drop : starts (b ∷ input) slash_up_slash ≡ true → IsUtf8 (drop 3 (b ∷ input))
    up_drop e =
        let third = starts_is slash_up_slash (b ∷ input) e 2 (omega arith) in
        IsUtf8-drop (b ∷ input) 3 u (IsCharBoundary-after_ascii (b ∷ input) 2 u third.0 (omega (arith, third.1)))

dots_utf8 : (n : ℕ) (input output : List ℕ) → IsUtf8 input → IsUtf8 output → IsUtf8 (without_dots_from n input output)
dots_utf8 zero input output u v = v
dots_utf8 (suc n) [] output u v = v
dots_utf8 (suc n) (b ∷ input) output u v = let both = step_utf8 b input output u v in dots_utf8 n (dot_step (b ∷ input) output).0 (dot_step (b ∷ input) output).1 both.0 both.1

without_utf8 : (path : List ℕ) → IsUtf8 path → IsUtf8 (without_dots path)
without_utf8 path u = dots_utf8 (length path) path [] u IsUtf8-nil

abbrev Utf8IfThere : Option (List ℕ) → Type 0
Utf8IfThere None = ⊤
Utf8IfThere (Some text) = IsUtf8 text

piece_utf8 : (text : List ℕ) (span : Span) → IsUtf8 text → Bound text span → IsUtf8 (piece text span)
piece_utf8 text span u b = IsUtf8-between text span.from span.to u b.0 b.1 b.2

there_utf8 : (text : List ℕ) (span : Option Span) → IsUtf8 text → BoundIfThere text span → Utf8IfThere (piece_of text span)
there_utf8 text None u b = tt
there_utf8 text (Some span) u b = piece_utf8 text span u b

record AreUtf8 (p : Pieces) : Type 0 where
  pub scheme : Utf8IfThere p.scheme
  pub authority : Utf8IfThere p.authority
  pub path : IsUtf8 p.path
  pub query : Utf8IfThere p.query
  pub fragment : Utf8IfThere p.fragment

pieces_utf8 : (text : List ℕ) → IsUtf8 text → AreUtf8 (pieces text)
pieces_utf8 text u =
    let scheme = scheme_bound text u in
    let start = behind_scheme (scheme_length text) in
    let authority = authority_bound text start u scheme.1 in
    let from = behind (authority_span text start) start in
    let to = boundary_until path_ends text from (omega arith, (omega arith, tt)) authority.1.0 in
    let query = query_bound text (until path_ends text from) u to in
    record {
      scheme = there_utf8 text (scheme_span (scheme_length text)) u scheme.0;
      authority = there_utf8 text (authority_span text start) u authority.0;
      path = piece_utf8 text (path_span text from) u (omega arith, authority.1, to);
      query = there_utf8 text (query_span text (until path_ends text from)) u query.0;
      fragment = there_utf8 text (fragment_span text (behind (query_span text (until path_ends text from)) (until path_ends text from))) u
          (fragment_bound text (behind (query_span text (until path_ends text from)) (until path_ends text from)) u);
    }

marked_utf8 : (front : List ℕ) (text : Option (List ℕ)) (after : List ℕ) → AllLow front → AllLow after → Utf8IfThere text → IsUtf8 (marked front text after)
marked_utf8 front None after low high u = IsUtf8-nil
marked_utf8 front (Some text) after low high u = IsUtf8-append front (text ++ after) (low_utf8 front low) (IsUtf8-append text after u (low_utf8 after high))

recomposed_utf8 : (p : Pieces) → AreUtf8 p → IsUtf8 (recomposed p)
recomposed_utf8 p u =
    let query = marked_utf8 question p.query [] (omega arith, tt) tt u.query in
    let fragment = marked_utf8 number_sign p.fragment [] (omega arith, tt) tt u.fragment in
    let authority = marked_utf8 slashes p.authority [] (omega arith, (omega arith, tt)) tt u.authority in
    let scheme = marked_utf8 [] p.scheme colon tt (omega arith, tt) u.scheme in
    let tail = IsUtf8-append (marked question p.query []) (marked number_sign p.fragment []) query fragment in
    let path = IsUtf8-append p.path (marked question p.query [] ++ marked number_sign p.fragment []) u.path tail in
    IsUtf8-append (marked [] p.scheme colon) (marked slashes p.authority [] ++ (p.path ++ (marked question p.query [] ++ marked number_sign p.fragment []))) scheme
    (IsUtf8-append (marked slashes p.authority []) (p.path ++ (marked question p.query [] ++ marked number_sign p.fragment [])) authority path)

else_utf8 : (a b : Option (List ℕ)) → Utf8IfThere a → Utf8IfThere b → Utf8IfThere (or_else a b)
else_utf8 None b u v = v
else_utf8 (Some a) b u v = u

merged_utf8 : (base : Pieces) (path : List ℕ) → AreUtf8 base → IsUtf8 path → IsUtf8 (merged base path)
merged_utf8 base path u v = cond_both (is_there base.authority && is_empty base.path) (0x2F ∷ path) (take (through_last_slash base.path) base.path ++ path) IsUtf8
    (λ e. IsUtf8-append (0x2F ∷ []) path (low_utf8 (0x2F ∷ []) (omega arith, tt)) v)
    (λ e. IsUtf8-append (take (through_last_slash base.path) base.path) path (through_utf8 base.path u.path) v)

target_utf8 : (base r : Pieces) → AreUtf8 base → AreUtf8 r → AreUtf8 (target base r)
target_utf8 base r u v = record {
  scheme = u.scheme;
  authority = else_utf8 r.authority base.authority v.authority u.authority;
  path = cond_both (is_there r.authority) _ _ IsUtf8 (λ e. without_utf8 r.path v.path) (λ e.
      cond_both (is_empty r.path) _ _ IsUtf8 (λ e. u.path) (λ e.
      cond_both (is_slash (get_or r.path 0 0)) _ _ IsUtf8 (λ e. without_utf8 r.path v.path) (λ e. without_utf8 (merged base r.path) (merged_utf8 base r.path u v.path))));
  query = cond_both (is_there r.authority) _ _ Utf8IfThere (λ e. v.query) (λ e.
      cond_both (is_empty r.path) _ _ Utf8IfThere (λ e. else_utf8 r.query base.query v.query u.query) (λ e. v.query));
  fragment = v.fragment;
}

pub resolved_utf8 : (base reference : List ℕ) → IsUtf8 base → IsUtf8 reference → IsUtf8 (resolved base reference)
resolved_utf8 base reference u v = recomposed_utf8 (target (pieces base) (pieces reference)) (target_utf8 (pieces base) (pieces reference) (pieces_utf8 base u) (pieces_utf8 reference v))

pub ok_of : {T E : Type 0} (P : T → Type 0) (Q : E → Type 0) (bytes : List ℕ) (r : Result T E) → MatchResult r P (λ e. (IsUtf8 bytes → ⊥) × Q e) → IsUtf8 bytes → IsOk r
ok_of P Q bytes (Ok s) h u = refl
ok_of P Q bytes (Err e) h u = absurd (h.0 u)
