-- What is kept stands for the bytes that came, and what is said of them is right.
use Rattle.std.proofs.Common.{ℕ, zero, suc, List, [], ◌∷◌, ◌++◌, ◌≡◌, ◌<◌, ◌≤◌, ◌+◌, ◌-◌, length, take, drop, refl, ap, sym, ◌∙◌, arith, inl, inr, subst, append_assoc, length-append, append-nil}
use Rattle.std.proofs.Math.Seq.{take-length}
use Rattle.std.proofs.lemmas.List.{take-append-le, take-append-drop}
use Rattle.std.proofs.lemmas.Bool.Decides.{nat_tests}
use Rattle.std.proofs.lemmas.Bool.{true≢false, cases_lt, and_parts, and_from}
use Rattle.std.proofs.lemmas.Str.{IsUtf8-append, encode_same, cons_from_encodes, encodes-append}
use Rattle.std.specs.Prelude.{Bool, true, false, cond, nat_le, ◌⊎◌, ◌&&◌, Option, None, Some}
use Rattle.std.specs.Str.{IsUtf8}
use Rattle.std.specs.Option.{SomeIff}
use Rattle.std.specs.Char.{IsScalar}
use lib.Utf8.{scalar, scalars, encode, encodes}
use Rattle.rdf_chars.specs.Utf8.{IsChars, BeginsUtf8, IsUtf8Length, Pushes}
use Rattle.rdf_chars.specs.Steps.{Fed, begun, bits, pushed, fed_by, said_by, is_idle, IsSmall, IsSmallPushed, IsStep, IsPushed, Wants, Opens, Inner, Stands}
use Rattle.rdf_chars.specs.declared.utf8.Step.{Step}
use Rattle.rdf_chars.specs.declared.utf8.Step.TheVariants.{Idle, Last, Two, Three, Bad}
use Rattle.rdf_chars.specs.declared.utf8.Pushed.{Pushed}
use Rattle.rdf_chars.specs.declared.utf8.Pushed.TheVariants.{Inside, Whole}
use Rattle.rdf_chars.proofs.Bytes.{WantsMore, first_leads, first_back, next_leads, next_back}

-- UTF-8 behind UTF-8 is what is left of it
strip : (chars rest : List ℕ) → IsUtf8 (encodes chars ++ rest) → IsUtf8 rest
strip [] rest u = u
strip (c ∷ chars) rest u =
    let f = cons_from_encodes u.0 (encodes chars ++ rest) c (u.1.1 ∙ append_assoc (encode c) (encodes chars) rest) in
    strip chars rest (f.0, ((and_parts (scalar c) (scalars f.0) (subst (λ x. scalars x ≡ true) f.1 u.1.0)).1, f.2))

pub stripped : (front rest : List ℕ) → IsUtf8 front → IsUtf8 (front ++ rest) → IsUtf8 rest
stripped front rest u v = strip u.0 rest (subst (λ x. IsUtf8 (x ++ rest)) (sym u.1.1) v)

nil_apart : (c : ℕ) (s t : List ℕ) → s ++ (c ∷ t) ≡ [] → ⊥
nil_apart c [] t e = cc
nil_apart c (x ∷ s) t e = cc

-- what was pushed stands for a part of a character
pub record Part (p : Pushed) (part : List ℕ) : Type 0 where
  pub some : 0 < length part
  pub leads : (rest : List ℕ) (c : ℕ) → scalar c ≡ true → encode c ≡ part ++ rest → WantsMore p rest c
  pub back : (rest : List ℕ) (c : ℕ) → WantsMore p rest c → (scalar c ≡ true) × (encode c ≡ part ++ rest)
  -- no character ends before its last byte
  pub inner : (c k : ℕ) (rest : List ℕ) → k < length part → take k part ≡ encode c ++ rest → ⊥

encode_some : (c : ℕ) (rest : List ℕ) → [] ≡ encode c ++ rest → ⊥
encode_some c rest e = let f = cons_from_encodes [] rest c e in cc f.1

first_inner : (t c k : ℕ) (rest : List ℕ) → k < length (t ∷ []) → take k (t ∷ []) ≡ encode c ++ rest → ⊥
first_inner t c zero rest h e = encode_some c rest e
first_inner t c (suc k) rest h e = absurd (omega arith)

pub first_part : (t : ℕ) → Part (begun t) (t ∷ [])
first_part t = record { some = omega arith; leads = first_leads t; back = first_back t; inner = first_inner t }

-- a step that is no end goes on by some bytes
goes_on : (s : Step) → IsSmall s → (s ≡ Idle → ⊥) → (s ≡ Bad → ⊥) → (b : ℕ) × (rest : List ℕ) × (c : ℕ) × Wants s (b ∷ rest) c
goes_on Idle h i j = absurd (i refl)
goes_on Bad h i j = absurd (j refl)
goes_on (Last n) h i j = (128, [], bits n 128, (128, refl, omega arith, omega arith, refl))
goes_on (Two n low high) h i j = (low, 128 ∷ [], bits (bits n low) 128, (low, 128 ∷ [], refl, omega arith, h.1, (128, refl, omega arith, omega arith, refl)))
goes_on (Three n low high) h i j = (
  low,
  128 ∷ 128 ∷ [],
  bits (bits (bits n low) 128) 128,
  (low, 128 ∷ 128 ∷ [], refl, omega arith, h.1, (128, 128 ∷ [], refl, omega arith, omega arith, (128, refl, omega arith, omega arith, refl))),
)

-- in an open part no character ends
no_end : (s : Step) (part : List ℕ) → IsSmall s → (s ≡ Idle → ⊥) → (s ≡ Bad → ⊥) → Opens s part → (c k : ℕ) (rest : List ℕ) → take k part ≡ encode c ++ rest → ⊥
no_end s part h i j o c k rest e =
    let on = goes_on s h i j in
    let b = on.0 in
    let shown = o.back (b ∷ on.1) on.2 on.3 in
    let whole : encode c ++ (rest ++ (drop k part ++ (b ∷ on.1))) ≡ encode on.2 ++ [] =
    sym (append_assoc (encode c) rest (drop k part ++ (b ∷ on.1))) ∙ ap (λ x. x ++ (drop k part ++ (b ∷ on.1))) (sym e)
    ∙ sym (append_assoc (take k part) (drop k part) (b ∷ on.1)) ∙ ap (λ x. x ++ (b ∷ on.1)) (take-append-drop k part) ∙ sym shown.1 ∙ sym (append-nil (encode on.2)) in
    let nothing = (encode_same c on.2 (rest ++ (drop k part ++ (b ∷ on.1))) [] whole).1 in
    nil_apart b (rest ++ drop k part) on.1 (append_assoc rest (drop k part) (b ∷ on.1) ∙ nothing)

pub next_part : (s : Step) (part : List ℕ) (b : ℕ) → IsSmall s → (s ≡ Idle → ⊥) → (s ≡ Bad → ⊥) → Opens s part → Part (pushed s b) (part ++ (b ∷ []))
next_part s part b h i j o = record {
  some = omega (arith, length-append part (b ∷ []));
  leads = λ rest c good e. next_leads s b rest c (o.leads (b ∷ rest) c good (e ∙ append_assoc part (b ∷ []) rest));
  back = λ rest c w. let x = o.back (b ∷ rest) c (next_back s b rest c i w) in (x.0, x.1 ∙ sym (append_assoc part (b ∷ []) rest));
  inner = λ c k rest low e. no_end s part h i j o c k rest
      (sym (take-append-le k part (b ∷ []) (omega (arith, low, length-append part (b ∷ [])))) ∙ e);
}

-- UTF-8 behind a front begins with a character, or is nothing
first_of : (bytes : List ℕ) → IsUtf8 bytes → (bytes ≡ []) ⊎ ((c : ℕ) × (more : List ℕ) × (scalar c ≡ true) × (bytes ≡ encode c ++ encodes more))
first_of bytes ([], u) = inl (sym u.1)
first_of bytes (c ∷ cs, u) = inr (c, cs, (and_parts (scalar c) (scalars cs) u.0).0, sym u.1)

take_past : (front rest : List ℕ) (m : ℕ) → length front ≤ m → take m (front ++ rest) ≡ front ++ take (m - length front) rest
take_past [] rest m h = ap (λ n. take n rest) (let q : m ≡ m - 0 = omega arith in q)
take_past (x ∷ front) rest zero h = absurd (omega arith)
take_past (x ∷ front) rest (suc m) h = ap (λ l. x ∷ l) (take_past front rest m (omega arith) ∙ ap (λ n. front ++ take n rest) (let q : m - length front ≡ suc m - length (x ∷ front) = omega arith in q))

take_none : (k : ℕ) (part : List ℕ) → 0 < k → 0 < length part → take k part ≡ [] → ⊥
take_none zero part h l e = absurd (omega arith)
take_none (suc k) [] h l e = absurd (omega arith)
take_none (suc k) (x ∷ part) h l e = cc e

-- The front is all that is UTF-8, where no character ends in the part, nor at its end.
front_length : (front part : List ℕ) → IsUtf8 front → 0 < length part → ((c k : ℕ) (rest : List ℕ) → scalar c ≡ true → k ≤ length part → take k part ≡ encode c ++ rest → ⊥) → IsUtf8Length (front ++ part) (length front)
front_length front part u some never = record {
  in_bytes = omega (arith, length-append front part);
  front = subst IsUtf8 (sym (take-append-le (length front) front part (omega arith) ∙ take-length front)) u;
  longest = λ m low v. elim (cases_lt (length front) m) [
    | inr x ↦ x
    | inl x ↦ absurd (elim (first_of (take (m - length front) part) (stripped front (take (m - length front) part) u (subst IsUtf8 (take_past front part m (omega (arith, x))) v))) [
      | inl y ↦ take_none (m - length front) part (omega (arith, x)) some y
      | inr y ↦ never y.0 (m - length front) (encodes y.1) y.2 (omega (arith, low, length-append front part)) y.3
    ])
  ];
}

ends_not : (front part : List ℕ) → IsUtf8 front → 0 < length part → ((c k : ℕ) (rest : List ℕ) → scalar c ≡ true → k ≤ length part → take k part ≡ encode c ++ rest → ⊥) → IsUtf8 (front ++ part) → ⊥
ends_not front part u some never v =
    let n = front_length front part u some never in
    let whole : take (length (front ++ part)) (front ++ part) ≡ front ++ part = take-length (front ++ part) in
    absurd (omega (arith, n.longest (length (front ++ part)) (omega arith) (subst IsUtf8 (sym whole) v), length-append front part, some))

-- a whole character
scalars_more : (cs : List ℕ) (c : ℕ) → scalars cs ≡ true → scalar c ≡ true → scalars (cs ++ c ∷ []) ≡ true
scalars_more [] c h g = and_from (scalar c) true g refl
scalars_more (d ∷ cs) c h g = let both = and_parts (scalar d) (scalars cs) h in and_from (scalar d) (scalars (cs ++ c ∷ [])) both.0 (scalars_more cs c both.1 g)

pub one_more : (front part chars : List ℕ) (n : ℕ) → IsChars chars front → Part (Whole n) part → IsChars (chars ++ n ∷ []) (front ++ part)
one_more front part chars n u p =
    let x = p.back [] n (refl, refl) in (
      scalars_more chars n u.0 x.0,
      encodes-append chars (n ∷ []) ∙ ap (λ s. encodes chars ++ s) (append-nil (encode n) ∙ x.1 ∙ append-nil part) ∙ ap (λ s. s ++ part) u.1,
    )

said_whole : (front part : List ℕ) (n : ℕ) → IsUtf8 front → Part (Whole n) part → (chars : List ℕ) × IsChars (chars ++ n ∷ []) (front ++ part)
said_whole front part n u p = (u.0, one_more front part u.0 n u.1 p)

chars_utf8 : (bytes chars : List ℕ) → IsChars chars bytes → IsUtf8 bytes
chars_utf8 bytes chars h = (chars, h)

cut_first : (e part rest more : List ℕ) → e ++ rest ≡ part ++ more → (length e < length part) → take (length e) part ≡ e ++ []
cut_first e part rest more same short =
    sym (take-append-le (length e) part more (omega (arith, short))) ∙ ap (take (length e)) (sym same) ∙ take-append-le (length e) e rest (omega arith) ∙ take-length e ∙ sym (append-nil e)

cut_rest : (e part rest more : List ℕ) → e ++ rest ≡ part ++ more → (length part ≤ length e) → e ≡ part ++ drop (length part) e
cut_rest e part rest more same long =
    sym (take-append-drop (length part) e)
    ∙ ap (λ s. s ++ drop (length part) e) (sym (take-append-le (length part) e rest long) ∙ ap (take (length part)) same ∙ take-append-le (length part) part more (omega arith) ∙ take-length part)

-- a part that no character has
pub no_more : (front part : List ℕ) → IsUtf8 front → Part (Inside Bad) part → BeginsUtf8 (front ++ part) → ⊥
no_more front part u p b =
    let rest = stripped front (part ++ b.0) u (subst IsUtf8 (append_assoc front part b.0) b.1) in
    elim (first_of (part ++ b.0) rest) [
      | inl e ↦ let n : length (part ++ b.0) ≡ 0 = ap length e in absurd (omega (arith, n, length-append part b.0, p.some))
      | inr y ↦ elim (cases_lt (length (encode y.0)) (length part)) [
        | inl short ↦ p.inner y.0 (length (encode y.0)) [] short (cut_first (encode y.0) part (encodes y.1) b.0 (sym y.3) short)
        | inr long ↦ p.leads (drop (length part) (encode y.0)) y.0 y.2 (cut_rest (encode y.0) part (encodes y.1) b.0 (sym y.3) long)
      ]
    ]

pub bad_length : (front part : List ℕ) → IsUtf8 front → Part (Inside Bad) part → IsUtf8Length (front ++ part) (length front)
bad_length front part u p = front_length front part u p.some (λ c k rest good low e. elim (cases_lt k (length part)) [
  | inl short ↦ p.inner c k rest short e
  | inr long ↦
      let all : part ≡ encode c ++ rest = sym (let q : take k part ≡ part = ap (λ n. take n part) (let q : k ≡ length part = omega arith in q) ∙ take-length part in q) ∙ e in
      ends c rest good all
])
  where
    ends : (c : ℕ) (rest : List ℕ) → scalar c ≡ true → part ≡ encode c ++ rest → ⊥
    ends c rest good all = elim (cases_lt (length (encode c)) (length part)) [
      | inl short ↦ p.inner c (length (encode c)) [] short (cut_first (encode c) part rest [] (sym all ∙ sym (append-nil part)) short)
      | inr long ↦ p.leads (drop (length part) (encode c)) c good (cut_rest (encode c) part rest [] (sym all ∙ sym (append-nil part)) long)
    ]

pub open_length : (s : Step) (front part : List ℕ) → IsSmall s → (s ≡ Idle → ⊥) → (s ≡ Bad → ⊥) → IsUtf8 front → Opens s part → IsUtf8Length (front ++ part) (length front)
open_length s front part h i j u o = front_length front part u o.some (λ c k rest good low e. no_end s part h i j o c k rest e)

pub open_not : (s : Step) (front part : List ℕ) → IsSmall s → (s ≡ Idle → ⊥) → (s ≡ Bad → ⊥) → IsUtf8 front → Opens s part → IsUtf8 (front ++ part) → ⊥
open_not s front part h i j u o = ends_not front part u o.some (λ c k rest good low e. no_end s part h i j o c k rest e)

one_char : (c : ℕ) → scalar c ≡ true → IsUtf8 (encode c)
one_char c good = (c ∷ [], (and_from (scalar c) true good refl, append-nil (encode c)))

open_begins : (s : Step) (front part : List ℕ) → IsSmall s → (s ≡ Idle → ⊥) → (s ≡ Bad → ⊥) → IsUtf8 front → Opens s part → BeginsUtf8 (front ++ part)
open_begins s front part h i j u o =
    let on = goes_on s h i j in
    let shown = o.back (on.0 ∷ on.1) on.2 on.3 in
    (on.0 ∷ on.1, subst IsUtf8 (ap (λ x. front ++ x) shown.1 ∙ sym (append_assoc front part (on.0 ∷ on.1))) (IsUtf8-append front (encode on.2) u (one_char on.2 shown.0)))

pub part_opens : (s : Step) (part : List ℕ) → Part (Inside s) part → Opens s part
part_opens s part p = record { some = p.some; leads = p.leads; back = p.back }

still_idle : Idle ≡ Bad → ⊥
still_idle e = cc e

-- what is said and kept, where a part of a character stands behind UTF-8
part_says : (p : Pushed) (front part : List ℕ) → IsUtf8 front → Part p part → (p ≡ Inside Idle → ⊥) → ((s : Step) → p ≡ Inside s → IsSmall s) → Pushes (front ++ part) (said_by p (length front))
part_says (Whole n) front part u p i h = said_whole front part n u p
part_says (Inside Bad) front part u p i h = (no_more front part u p, bad_length front part u p)
part_says (Inside Idle) front part u p i h = absurd (i refl)
part_says (Inside (Last n)) front part u p i h = let o = part_opens (Last n) part p in
    (open_not (Last n) front part (h (Last n) refl) (λ e. cc e) (λ e. cc e) u o, open_begins (Last n) front part (h (Last n) refl) (λ e. cc e) (λ e. cc e) u o)
part_says (Inside (Two n low high)) front part u p i h = let o = part_opens (Two n low high) part p in
    (open_not (Two n low high) front part (h (Two n low high) refl) (λ e. cc e) (λ e. cc e) u o, open_begins (Two n low high) front part (h (Two n low high) refl) (λ e. cc e) (λ e. cc e) u o)
part_says (Inside (Three n low high)) front part u p i h = let o = part_opens (Three n low high) part p in
    (open_not (Three n low high) front part (h (Three n low high) refl) (λ e. cc e) (λ e. cc e) u o, open_begins (Three n low high) front part (h (Three n low high) refl) (λ e. cc e) (λ e. cc e) u o)

part_stands : (p : Pushed) (v : Fed) (front part : List ℕ) → IsUtf8 front → Part p part → (p ≡ Inside Idle → ⊥) → v.from ≡ length front → v.count + 1 ≡ length (front ++ part)
    → Stands (fed_by p v) (front ++ part)
part_stands (Whole n) v front part u p i from count = let w = said_whole front part n u p in (count, (chars_utf8 (front ++ part) (w.0 ++ n ∷ []) w.1, count))
part_stands (Inside Bad) v front part u p i from count = (count, (no_more front part u p, subst (IsUtf8Length (front ++ part)) (sym from) (bad_length front part u p)))
part_stands (Inside Idle) v front part u p i from count = absurd (i refl)
part_stands (Inside (Last n)) v front part u p i from count = (count, (front, part, refl, u, from, part_opens (Last n) part p))
part_stands (Inside (Two n low high)) v front part u p i from count = (count, (front, part, refl, u, from, part_opens (Two n low high) part p))
part_stands (Inside (Three n low high)) v front part u p i from count = (count, (front, part, refl, u, from, part_opens (Three n low high) part p))

pub begun_on : (t : ℕ) → begun t ≡ Inside Idle → ⊥
begun_on t e = grind (arith, nat_tests)

if_on : (b : Bool) (p : Pushed) → (p ≡ Inside Idle → ⊥) → cond b p (Inside Bad) ≡ Inside Idle → ⊥
if_on true p h e = h e
if_on false p h e = cc e

pub pushed_on : (s : Step) (t : ℕ) → pushed s t ≡ Inside Idle → ⊥
pushed_on Idle t e = begun_on t e
pushed_on (Last n) t e = if_on (nat_le 128 t && nat_le t 191) (Whole (bits n t)) (λ x. cc x) e
pushed_on (Two n low high) t e = if_on (nat_le low t && nat_le t high) (Inside (Last (bits n t))) (λ x. cc x) e
pushed_on (Three n low high) t e = if_on (nat_le low t && nat_le t high) (Inside (Two (bits n t) 128 191)) (λ x. cc x) e
pushed_on Bad t e = cc e

pub bad_more : (bytes : List ℕ) (b : ℕ) → (BeginsUtf8 bytes → ⊥) → BeginsUtf8 (bytes ++ b ∷ []) → ⊥
bad_more bytes b h x = h (b ∷ x.0, subst IsUtf8 (append_assoc bytes (b ∷ []) x.0) x.1)

pub bad_longer : (bytes : List ℕ) (b n : ℕ) → (BeginsUtf8 bytes → ⊥) → IsUtf8Length bytes n → IsUtf8Length (bytes ++ b ∷ []) n
bad_longer bytes b n h l = record {
  in_bytes = omega (arith, l.in_bytes, length-append bytes (b ∷ []));
  front = subst IsUtf8 (sym (take-append-le n bytes (b ∷ []) l.in_bytes)) l.front;
  longest = λ m low u. elim (cases_lt (length bytes) m) [
    | inr x ↦ l.longest m x (subst IsUtf8 (take-append-le m bytes (b ∷ []) x) u)
    | inl x ↦
        let q : m ≡ length (bytes ++ b ∷ []) = omega (arith, x, low, length-append bytes (b ∷ [])) in
        absurd (h (b ∷ [], subst IsUtf8 (ap (λ k. take k (bytes ++ b ∷ [])) q ∙ take-length (bytes ++ b ∷ [])) u))
  ];
}

abbrev pub Next : Fed → Pushed → List ℕ → Type 0
Next v p bytes = Stands (fed_by p v) bytes × Pushes bytes (said_by p v.from)

inner_next : (s : Step) (v : Fed) (bytes : List ℕ) (b : ℕ) → (s ≡ Idle → ⊥) → (s ≡ Bad → ⊥) → IsSmall s → IsSmallPushed (pushed s b) → v.count ≡ length bytes
    → (front : List ℕ) × (part : List ℕ) × (bytes ≡ front ++ part) × IsUtf8 front × (v.from ≡ length front) × Opens s part → Next v (pushed s b) (bytes ++ b ∷ [])
inner_next s v bytes b i j small more count (front, part, e, u, from, o) =
    let whole : front ++ (part ++ b ∷ []) ≡ bytes ++ b ∷ [] = sym (append_assoc front part (b ∷ [])) ∙ ap (λ x. x ++ b ∷ []) (sym e) in
    let p = next_part s part b small i j o in
    let longer : v.count + 1 ≡ length (front ++ (part ++ b ∷ [])) = omega (arith, count, length-append bytes (b ∷ []), ap length whole) in
    subst (Next v (pushed s b)) whole (
      part_stands (pushed s b) v front (part ++ b ∷ []) u p (pushed_on s b) from longer,
      subst (λ n. Pushes (front ++ (part ++ b ∷ [])) (said_by (pushed s b) n)) (sym from)
          (part_says (pushed s b) front (part ++ b ∷ []) u p (pushed_on s b) (λ x e. subst IsSmallPushed e more)),
    )

pub next_of : (s : Step) (v : Fed) (bytes : List ℕ) (b : ℕ) → IsSmall s → IsSmallPushed (pushed s b) → v.count ≡ length bytes → Inner s v.from bytes → Next v (pushed s b) (bytes ++ b ∷ [])
next_of Idle v bytes b small more count inner =
    let longer : v.count + 1 ≡ length (bytes ++ b ∷ []) = omega (arith, count, length-append bytes (b ∷ [])) in (
      part_stands (begun b) v bytes (b ∷ []) inner.0 (first_part b) (begun_on b) inner.1 longer,
      subst (λ n. Pushes (bytes ++ b ∷ []) (said_by (begun b) n)) (sym inner.1)
          (part_says (begun b) bytes (b ∷ []) inner.0 (first_part b) (begun_on b) (λ x e. subst IsSmallPushed e more)),
    )
next_of Bad v bytes b small more count inner =
    let longer : v.count + 1 ≡ length (bytes ++ b ∷ []) = omega (arith, count, length-append bytes (b ∷ [])) in
    ((longer, (bad_more bytes b inner.0, bad_longer bytes b v.from inner.0 inner.1)), (bad_more bytes b inner.0, bad_longer bytes b v.from inner.0 inner.1))
next_of (Last n) v bytes b small more count inner = inner_next (Last n) v bytes b (λ e. cc e) (λ e. cc e) small more count inner
next_of (Two n low high) v bytes b small more count inner = inner_next (Two n low high) v bytes b (λ e. cc e) (λ e. cc e) small more count inner
next_of (Three n low high) v bytes b small more count inner = inner_next (Three n low high) v bytes b (λ e. cc e) (λ e. cc e) small more count inner

inner_ends : (s : Step) (from : ℕ) (bytes : List ℕ) → (s ≡ Idle → ⊥) → (s ≡ Bad → ⊥) → IsSmall s
    → (front : List ℕ) × (part : List ℕ) × (bytes ≡ front ++ part) × IsUtf8 front × (from ≡ length front) × Opens s part → (IsUtf8 bytes → ⊥) × IsUtf8Length bytes from
inner_ends s from bytes i j small (front, part, e, u, at, o) = (
  λ v. open_not s front part small i j u o (subst IsUtf8 e v),
  subst (IsUtf8Length bytes) (sym at) (subst (λ x. IsUtf8Length x (length front)) (sym e) (open_length s front part small i j u o)),
)

pub end_of : (s : Step) (from : ℕ) (bytes : List ℕ) → IsSmall s → is_idle s ≡ false → Inner s from bytes → (IsUtf8 bytes → ⊥) × IsUtf8Length bytes from
end_of Idle from bytes small h inner = absurd (true≢false h)
end_of Bad from bytes small h inner = (λ u. inner.0 ([], subst IsUtf8 (sym (append-nil bytes)) u), inner.1)
end_of (Last n) from bytes small h inner = inner_ends (Last n) from bytes (λ e. cc e) (λ e. cc e) small inner
end_of (Two n low high) from bytes small h inner = inner_ends (Two n low high) from bytes (λ e. cc e) (λ e. cc e) small inner
end_of (Three n low high) from bytes small h inner = inner_ends (Three n low high) from bytes (λ e. cc e) (λ e. cc e) small inner

-- what was pushed ends no number but a character's
pub right_of : (s : Step) (b : ℕ) → IsStep s → IsSmallPushed (pushed s b) → IsPushed (pushed s b)
right_of s b good more = by (pushed s b) more (wants s good.1)
  where
    wants : (s : Step) → ((rest : List ℕ) (c : ℕ) → Wants s rest c → scalar c ≡ true) → (rest : List ℕ) (c : ℕ) → WantsMore (pushed s b) rest c → scalar c ≡ true
    wants Idle h rest c w = (first_back b rest c w).0
    wants Bad h rest c w = absurd w
    wants (Last n) h rest c w = h (b ∷ rest) c (next_back (Last n) b rest c (λ e. cc e) w)
    wants (Two n low high) h rest c w = h (b ∷ rest) c (next_back (Two n low high) b rest c (λ e. cc e) w)
    wants (Three n low high) h rest c w = h (b ∷ rest) c (next_back (Three n low high) b rest c (λ e. cc e) w)

    by : (p : Pushed) → IsSmallPushed p → ((rest : List ℕ) (c : ℕ) → WantsMore p rest c → scalar c ≡ true) → IsPushed p
    by (Inside s) small h = (small, h)
    by (Whole n) small h = h [] n (refl, refl)

pub small_pushed : (p : Pushed) → IsPushed p → IsSmallPushed p
small_pushed (Inside s) h = h.0
small_pushed (Whole n) h = tt

pub some_of_scalar : (o : Option ℕ) (code : ℕ) → SomeIff o (IsScalar code) code → scalar code ≡ true → o ≡ Some code
some_of_scalar None code h good = absurd (h good)
some_of_scalar (Some c) code h good = ap (λ x. Some x) h.1
