-- How many bytes of a character came that has begun.
use Rattle.std.proofs.Common.{ℕ, List, [], ◌∷◌, ◌++◌, ◌≡◌, ◌≤◌, ◌+◌, ◌-◌, length, take, drop, refl, ap, sym, ◌∙◌, subst, arith, inl, inr, append_assoc, length-append, append-nil}
use Rattle.std.proofs.Math.Seq.{take-length, take-add}
use Rattle.std.proofs.lemmas.List.{take-append-le, take-append-drop, length-drop}
use Rattle.std.proofs.lemmas.Bool.{cases_lt, and_parts, and_from}
use Rattle.std.proofs.lemmas.Str.{IsUtf8-append, length-encode, len_utf8_bounds}
use Rattle.std.specs.Prelude.{true}
use Rattle.std.specs.Str.{IsUtf8}
use lib.Utf8.{scalar, scalars, encode, encodes}
use Rattle.rdf_chars.specs.Utf8.{BeginsUtf8, IsUtf8Length}
use Rattle.rdf_chars.proofs.Standing.{stripped}

pub begun_none : (bytes : List ℕ) → IsUtf8 bytes → (0 ≤ length bytes) × IsUtf8Length bytes (length bytes - 0)
begun_none bytes u = (
  omega arith,
  record {
    in_bytes = omega arith;
    front = subst IsUtf8 (sym (ap (λ n. take n bytes) (let e : length bytes - 0 ≡ length bytes = omega arith in e) ∙ take-length bytes)) u;
    longest = λ m h v. omega (arith, h);
  },
)

pub begun_more : (bytes : List ℕ) (b n : ℕ) → (n ≤ length bytes) × IsUtf8Length bytes (length bytes - n) → (IsUtf8 (bytes ++ b ∷ []) → ⊥)
    → (n + 1 ≤ length (bytes ++ b ∷ [])) × IsUtf8Length (bytes ++ b ∷ []) (length (bytes ++ b ∷ []) - (n + 1))
begun_more bytes b n i none =
    let long : length (bytes ++ b ∷ []) ≡ length bytes + 1 = length-append bytes (b ∷ []) in
    let k : ℕ = length bytes - n in
    let same : k ≡ length (bytes ++ b ∷ []) - (n + 1) = omega (arith, long, i.0) in (
      omega (arith, long, i.0),
      subst (IsUtf8Length (bytes ++ b ∷ [])) same (record {
        in_bytes = omega (arith, long);
        front = subst IsUtf8 (sym (take-append-le k bytes (b ∷ []) (omega arith))) i.1.front;
        longest = λ m h v. elim (cases_lt m (length bytes + 1)) [
          | inl low ↦ i.1.longest m (omega (arith, low)) (subst IsUtf8 (take-append-le m bytes (b ∷ []) (omega (arith, low))) v)
          | inr high ↦ absurd (none (subst IsUtf8 (ap (λ x. take x (bytes ++ b ∷ [])) (let e : m ≡ length (bytes ++ b ∷ []) = omega (arith, h, high, long) in e) ∙ take-length (bytes ++ b ∷ [])) v))
        ];
      }),
    )

one_char : (c : ℕ) → scalar c ≡ true → IsUtf8 (encode c)
one_char c good = (c ∷ [], (and_from (scalar c) true good refl, append-nil (encode c)))

-- a character that has begun takes no more than three bytes so far
small_by : (bytes more : List ℕ) (n : ℕ) → n ≤ length bytes → IsUtf8Length bytes (length bytes - n) → IsUtf8 (drop (length bytes - n) bytes ++ more) → n ≤ 3
small_by bytes more n within i ([], u) =
    let none : length (drop (length bytes - n) bytes ++ more) ≡ 0 = sym (ap length u.1) in
    omega (arith, none, length-append (drop (length bytes - n) bytes) more, length-drop (length bytes - n) bytes, within)
small_by bytes more n within i (c ∷ cs, u) = elim (cases_lt 3 n) [
  | inr low ↦ low
  | inl high ↦
      let k : ℕ = length bytes - n in
      let l : ℕ = length (encode c) in
      let good = (and_parts (scalar c) (scalars cs) u.0).0 in
      let size : (1 ≤ l) × (l ≤ 4) = (omega (arith, length-encode c, (len_utf8_bounds c).0), omega (arith, length-encode c, (len_utf8_bounds c).1)) in
      let left : length (drop k bytes) ≡ n = length-drop k bytes ∙ (let e : length bytes - k ≡ n = omega (arith, within) in e) in
      let first : take l (drop k bytes) ≡ encode c =
      sym (take-append-le l (drop k bytes) more (omega (arith, left, high, size.1))) ∙ ap (take l) (sym u.1) ∙ take-append-le l (encode c) (encodes cs) (omega arith) ∙ take-length (encode c) in
      let cut : take (k + l) bytes ≡ take k bytes ++ encode c = take-add k l bytes ∙ ap (λ x. take k bytes ++ x) first in
      let far : k + l ≤ k = i.longest (k + l) (omega (arith, high, size.1, within)) (subst IsUtf8 (sym cut) (IsUtf8-append (take k bytes) (encode c) i.front (one_char c good))) in
      absurd (omega (arith, far, size.0))
]

pub begun_small : (bytes : List ℕ) (n : ℕ) → (n ≤ length bytes) × IsUtf8Length bytes (length bytes - n) → BeginsUtf8 bytes → n ≤ 3
begun_small bytes n i b =
    let k : ℕ = length bytes - n in
    small_by bytes b.0 n i.0 i.1 (stripped (take k bytes) (drop k bytes ++ b.0) i.1.front
    (subst IsUtf8 (ap (λ x. x ++ b.0) (sym (take-append-drop k bytes)) ∙ append_assoc (take k bytes) (drop k bytes) b.0) b.1))
