-- What is said of bytes one by one is what UTF-8 says of them all.
use Rattle.std.proofs.Common.{ℕ, List, [], ◌∷◌, ◌++◌, ◌≡◌, ◌<◌, ◌+◌, length, refl, ap, sym, ◌∙◌, arith, subst, append_assoc, length-append, append-nil}
use Rattle.std.proofs.lemmas.Bool.{cond_both, ltb-true}
use Rattle.std.specs.Prelude.{true, nat_lt, nat_le, ◌&&◌, ◌==◌, Option, None, Some, Result, Ok, Err}
use Rattle.std.specs.Str.{IsUtf8}
use lib.Utf8.{scalars, encodes}
use Rattle.rdf_chars.specs.Utf8.{IsChars, BeginsUtf8, IsUtf8Length}
use Rattle.rdf_chars.specs.Steps.{Fed, begun, bits, pushed, fed_by, said_by, start, IsSmall, IsSmallPushed, Opens}
use Rattle.rdf_chars.specs.Decoding.{Decoded, before, by_said, decoded, AreBytes, Decodes}
use Rattle.rdf_chars.specs.Decoding.Decoded.{Chars, BadAt}
use Rattle.rdf_chars.specs.declared.utf8.BadUtf8.{BadUtf8}
use Rattle.rdf_chars.specs.declared.utf8.Step.{Step}
use Rattle.rdf_chars.specs.declared.utf8.Step.TheVariants.{Idle, Last, Two, Three, Bad}
use Rattle.rdf_chars.specs.declared.utf8.Pushed.{Pushed}
use Rattle.rdf_chars.specs.declared.utf8.Pushed.TheVariants.{Inside, Whole}
use Rattle.rdf_chars.proofs.Standing.{Part, one_more, no_more, bad_length, bad_longer, bad_more, first_part, next_part, part_opens, begun_on, pushed_on, open_not, open_length}

-- the numbers stay small
begun_small : (t : ℕ) → IsSmallPushed (begun t)
begun_small t =
    cond_both (nat_lt t 128) _ _ IsSmallPushed (λ e. tt) (λ _.
    cond_both (nat_lt t 194) _ _ IsSmallPushed (λ e. tt) (λ _.
    cond_both (nat_lt t 224) _ _ IsSmallPushed (λ e. omega (arith, ltb-true t 224 e)) (λ _.
    cond_both (t == 224) _ _ IsSmallPushed (λ e. (omega arith, omega arith)) (λ _.
    cond_both (t == 237) _ _ IsSmallPushed (λ e. (omega arith, omega arith)) (λ _.
    cond_both (nat_lt t 240) _ _ IsSmallPushed (λ e. (omega (arith, ltb-true t 240 e), omega arith)) (λ _.
    cond_both (t == 240) _ _ IsSmallPushed (λ e. (omega arith, omega arith)) (λ _.
    cond_both (nat_lt t 244) _ _ IsSmallPushed (λ e. (omega (arith, ltb-true t 244 e), omega arith)) (λ _.
    cond_both (t == 244) _ _ IsSmallPushed (λ e. (omega arith, omega arith)) (λ _. tt)))))))))

small_next : (s : Step) (b : ℕ) → b < 256 → IsSmall s → IsSmallPushed (pushed s b)
small_next Idle b h small = begun_small b
small_next Bad b h small = tt
small_next (Last n) b h small = cond_both (nat_le 128 b && nat_le b 191) (Whole (bits n b)) (Inside Bad) IsSmallPushed (λ e. tt) (λ e. tt)
small_next (Two n low high) b h small = cond_both (nat_le low b && nat_le b high) (Inside (Last (bits n b))) (Inside Bad) IsSmallPushed (λ e. omega (arith, small.0)) (λ e. tt)
small_next (Three n low high) b h small = cond_both (nat_le low b && nat_le b high) (Inside (Two (bits n b) 128 191)) (Inside Bad) IsSmallPushed
    (λ e. (omega (arith, small.0), omega arith)) (λ e. tt)

-- the characters read so far, and the part of one behind them
abbrev Known : Step → ℕ → List ℕ → List ℕ → Type 0
Known Idle from done chars = (scalars chars ≡ true) × (done ≡ encodes chars) × (from ≡ length done)
Known Bad from done chars = ⊥
Known s from done chars = (scalars chars ≡ true) × (part : List ℕ) × (done ≡ encodes chars ++ part) × (from ≡ length (encodes chars)) × Opens s part

-- what is said of all bytes, where these characters are read and these bytes follow
abbrev Rest : List ℕ → List ℕ → Decoded → Type 0
Rest chars bytes (Chars more) = IsChars (chars ++ more) bytes
Rest chars bytes (BadAt place) = (IsUtf8 bytes → ⊥) × IsUtf8Length bytes place

before_rest : (chars bytes : List ℕ) (c : ℕ) (d : Decoded) → Rest (chars ++ c ∷ []) bytes d → Rest chars bytes (before c d)
before_rest chars bytes c (Chars more) r = subst (λ x. IsChars x bytes) (append_assoc chars (c ∷ []) more) r
before_rest chars bytes c (BadAt place) r = r

bad_all : (bytes done : List ℕ) (n : ℕ) → (BeginsUtf8 done → ⊥) → IsUtf8Length done n → (IsUtf8 (done ++ bytes) → ⊥) × IsUtf8Length (done ++ bytes) n
bad_all [] done n h l = (λ u. h ([], u), subst (λ x. IsUtf8Length x n) (sym (append-nil done)) l)
bad_all (b ∷ bytes) done n h l =
    let inner = bad_all bytes (done ++ b ∷ []) n (bad_more done b h) (bad_longer done b n h l) in
    (λ u. h (b ∷ bytes, u), subst (λ x. IsUtf8Length x n) (append_assoc done (b ∷ []) bytes) inner.1)

from_part : (bytes : List ℕ) → (go : (v : Fed) (done chars : List ℕ) → IsSmall v.step → v.count ≡ length done → Known v.step v.from done chars → Rest chars (done ++ bytes) (decoded v bytes))
    → (p : Pushed) (v : Fed) (chars part : List ℕ) → scalars chars ≡ true → Part p part → (p ≡ Inside Idle → ⊥) → IsSmallPushed p → v.from ≡ length (encodes chars) → v.count + 1 ≡ length (encodes chars ++ part)
    → Rest chars ((encodes chars ++ part) ++ bytes) (by_said (said_by p v.from) (decoded (fed_by p v) bytes))
from_part bytes go (Whole n) v chars part s p i small from count =
    let w = one_more (encodes chars) part chars n (s, refl) p in
    before_rest chars ((encodes chars ++ part) ++ bytes) n (decoded (fed_by (Whole n) v) bytes)
    (go (fed_by (Whole n) v) (encodes chars ++ part) (chars ++ n ∷ []) tt count (w.0, sym w.1, count))
from_part bytes go (Inside Bad) v chars part s p i small from count =
    let u : IsUtf8 (encodes chars) = (chars, (s, refl)) in
    bad_all bytes (encodes chars ++ part) v.from (no_more (encodes chars) part u p) (subst (IsUtf8Length (encodes chars ++ part)) (sym from) (bad_length (encodes chars) part u p))
from_part bytes go (Inside Idle) v chars part s p i small from count = absurd (i refl)
from_part bytes go (Inside (Last n)) v chars part s p i small from count =
    go (fed_by (Inside (Last n)) v) (encodes chars ++ part) chars small count (s, part, refl, from, part_opens (Last n) part p)
from_part bytes go (Inside (Two n low high)) v chars part s p i small from count =
    go (fed_by (Inside (Two n low high)) v) (encodes chars ++ part) chars small count (s, part, refl, from, part_opens (Two n low high) part p)
from_part bytes go (Inside (Three n low high)) v chars part s p i small from count =
    go (fed_by (Inside (Three n low high)) v) (encodes chars ++ part) chars small count (s, part, refl, from, part_opens (Three n low high) part p)

inner_step : (b : ℕ) (bytes : List ℕ) → b < 256 → (go : (v : Fed) (done chars : List ℕ) → IsSmall v.step → v.count ≡ length done → Known v.step v.from done chars → Rest chars (done ++ bytes) (decoded v bytes))
    → (s : Step) (v : Fed) (done chars : List ℕ) → (s ≡ Idle → ⊥) → (s ≡ Bad → ⊥) → IsSmall s → v.count ≡ length done
    → (scalars chars ≡ true) × (part : List ℕ) × (done ≡ encodes chars ++ part) × (v.from ≡ length (encodes chars)) × Opens s part
    → Rest chars (done ++ b ∷ bytes) (by_said (said_by (pushed s b) v.from) (decoded (fed_by (pushed s b) v) bytes))
inner_step b bytes small_b go s v done chars i j small count (good, part, e, from, o) =
    let whole : (encodes chars ++ (part ++ b ∷ [])) ++ bytes ≡ done ++ b ∷ bytes =
    ap (λ x. x ++ bytes) (sym (append_assoc (encodes chars) part (b ∷ [])) ∙ ap (λ x. x ++ b ∷ []) (sym e)) ∙ append_assoc done (b ∷ []) bytes in
    let longer : v.count + 1 ≡ length (encodes chars ++ (part ++ b ∷ [])) =
    omega (arith, count, ap length e, length-append (encodes chars) part, length-append (encodes chars) (part ++ b ∷ []), length-append part (b ∷ [])) in
    subst (λ x. Rest chars x (by_said (said_by (pushed s b) v.from) (decoded (fed_by (pushed s b) v) bytes))) whole
    (from_part bytes go (pushed s b) v chars (part ++ b ∷ []) good (next_part s part b small i j o) (pushed_on s b) (small_next s b small_b small) from longer)

step_right : (b : ℕ) (bytes : List ℕ) → b < 256 → (go : (v : Fed) (done chars : List ℕ) → IsSmall v.step → v.count ≡ length done → Known v.step v.from done chars → Rest chars (done ++ bytes) (decoded v bytes))
    → (s : Step) (v : Fed) (done chars : List ℕ) → IsSmall s → v.count ≡ length done → Known s v.from done chars
    → Rest chars (done ++ b ∷ bytes) (by_said (said_by (pushed s b) v.from) (decoded (fed_by (pushed s b) v) bytes))
step_right b bytes h go Idle v done chars small count known =
    let whole : (encodes chars ++ b ∷ []) ++ bytes ≡ done ++ b ∷ bytes = ap (λ x. (x ++ b ∷ []) ++ bytes) (sym known.1) ∙ append_assoc done (b ∷ []) bytes in
    let longer : v.count + 1 ≡ length (encodes chars ++ b ∷ []) = omega (arith, count, ap length known.1, length-append (encodes chars) (b ∷ [])) in
    subst (λ x. Rest chars x (by_said (said_by (begun b) v.from) (decoded (fed_by (begun b) v) bytes))) whole
    (from_part bytes go (begun b) v chars (b ∷ []) known.0 (first_part b) (begun_on b) (begun_small b) (known.2 ∙ ap length known.1) longer)
step_right b bytes h go Bad v done chars small count known = absurd known
step_right b bytes h go (Last n) v done chars small count known = inner_step b bytes h go (Last n) v done chars (λ e. cc e) (λ e. cc e) small count known
step_right b bytes h go (Two n low high) v done chars small count known = inner_step b bytes h go (Two n low high) v done chars (λ e. cc e) (λ e. cc e) small count known
step_right b bytes h go (Three n low high) v done chars small count known = inner_step b bytes h go (Three n low high) v done chars (λ e. cc e) (λ e. cc e) small count known

inner_end : (s : Step) (from : ℕ) (done chars : List ℕ) → (s ≡ Idle → ⊥) → (s ≡ Bad → ⊥) → IsSmall s
    → (scalars chars ≡ true) × (part : List ℕ) × (done ≡ encodes chars ++ part) × (from ≡ length (encodes chars)) × Opens s part → (IsUtf8 (done ++ []) → ⊥) × IsUtf8Length (done ++ []) from
inner_end s from done chars i j small (good, part, e, at, o) =
    let u : IsUtf8 (encodes chars) = (chars, (good, refl)) in
    let whole : encodes chars ++ part ≡ done ++ [] = sym e ∙ sym (append-nil done) in (
      λ w. open_not s (encodes chars) part small i j u o (subst IsUtf8 (sym whole) w),
      subst (λ x. IsUtf8Length x from) whole (subst (IsUtf8Length (encodes chars ++ part)) (sym at) (open_length s (encodes chars) part small i j u o)),
    )

end_right : (v : Fed) (s : Step) → v.step ≡ s → (done chars : List ℕ) → IsSmall s → Known s v.from done chars → Rest chars (done ++ []) (decoded (record { step = s; from = v.from; count = v.count }) [])
end_right v Idle e done chars small known =
    (subst (λ x. scalars x ≡ true) (sym (append-nil chars)) known.0, ap encodes (append-nil chars) ∙ sym known.1 ∙ sym (append-nil done))
end_right v Bad e done chars small known = absurd known
end_right v (Last n) e done chars small known = inner_end (Last n) v.from done chars (λ x. cc x) (λ x. cc x) small known
end_right v (Two n low high) e done chars small known = inner_end (Two n low high) v.from done chars (λ x. cc x) (λ x. cc x) small known
end_right v (Three n low high) e done chars small known = inner_end (Three n low high) v.from done chars (λ x. cc x) (λ x. cc x) small known

all_right : (bytes : List ℕ) → AreBytes bytes → (v : Fed) (done chars : List ℕ) → IsSmall v.step → v.count ≡ length done → Known v.step v.from done chars → Rest chars (done ++ bytes) (decoded v bytes)
all_right [] ok v done chars small count known = end_right v v.step refl done chars small known
all_right (b ∷ bytes) ok v done chars small count known = step_right b bytes ok.0 (all_right bytes ok.1) v.step v done chars small count known

pub decoded_right : (bytes : List ℕ) → AreBytes bytes → Decodes bytes (decoded start bytes)
decoded_right bytes ok = by (decoded start bytes) (all_right bytes ok start [] [] tt refl (refl, refl, refl))
  where
    by : (d : Decoded) → Rest [] bytes d → Decodes bytes d
    by (Chars chars) r = r
    by (BadAt place) r = r

bad_on : (from count : ℕ) (more : List ℕ) → decoded (record { step = Bad; from = from; count = count }) more ≡ BadAt from
bad_on from count [] = refl
bad_on from count (b ∷ more) = refl

not_error : (o : Option ℕ) (e : BadUtf8) → ◌≡◌ {A = Result (Option ℕ) BadUtf8} (Ok o) (Err e) → ⊥
not_error o e h = cc

at_of : (from : ℕ) (e : BadUtf8) → ◌≡◌ {A = Result (Option ℕ) BadUtf8} (Err (record { at = from })) (Err e) → from ≡ e.at
at_of from e h = cc

bad_by : (p : Pushed) (v : Fed) (e : BadUtf8) (more : List ℕ) → said_by p v.from ≡ Err e → decoded (fed_by p v) more ≡ BadAt e.at
bad_by (Whole n) v e more h = absurd (not_error (Some n) e h)
bad_by (Inside Bad) v e more h = bad_on v.from (v.count + 1) more ∙ ap BadAt (at_of v.from e h)
bad_by (Inside Idle) v e more h = absurd (not_error None e h)
bad_by (Inside (Last n)) v e more h = absurd (not_error None e h)
bad_by (Inside (Two n low high)) v e more h = absurd (not_error None e h)
bad_by (Inside (Three n low high)) v e more h = absurd (not_error None e h)

-- bytes that are no UTF-8 stay so
pub stays_bad : (v : Fed) (b : ℕ) (e : BadUtf8) (more : List ℕ) → said_by (pushed v.step b) v.from ≡ Err e → decoded (fed_by (pushed v.step b) v) more ≡ BadAt e.at
stays_bad v b e more h = bad_by (pushed v.step b) v e more h
