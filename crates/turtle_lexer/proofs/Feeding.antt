-- What a byte does to what is ahead.
use Rattle.std.proofs.Common.{ℕ, List, [], ◌∷◌, ◌++◌, ◌≡◌, refl, ap, sym, ◌∙◌, subst, append_assoc, take, drop, arith, ◌+◌, ◌<◌, ◌≤◌, append-nil}
use Rattle.std.proofs.Math.Seq.{take-add}
use Rattle.std.proofs.lemmas.Bool.{true≢false}
use Rattle.std.proofs.lemmas.Str.{len_utf8_bounds}
use Rattle.std.specs.Char.{len_utf8}
use Rattle.std.specs.Str.{IsUtf8}
use Rattle.std.specs.Prelude.{Bool, true, false, Option, None, Some, Result, Ok, Err, is_some, is_err, OnOk, OnErr, ◌^◌, min}
use Rattle.rdf_chars.specs.Steps.{Fed, fed, said}
use Rattle.rdf_chars.specs.Utf8.{BeginsUtf8, Pushes}
use Rattle.rdf_chars.specs.declared.utf8.BadUtf8.{BadUtf8}
use Rattle.rdf_chars.specs.Decoding.{Decoded, decoded, by_said, before}
use Rattle.rdf_chars.specs.Decoding.Decoded.{Chars, BadAt}
use Rattle.rdf_chars.proofs.Whole.{stays_bad}
use Rattle.rdf_terms.specs.declared.terms.Refusal.{Refusal}
use Rattle.token_scanner.specs.Widths.{width}
use Rattle.token_scanner.proofs.Widths.{width_push}
use Rattle.turtle_lexer.proofs.Begun.{begun_none, begun_more, begun_small}
use Rattle.token_scanner.specs.Items.{Kept}
use Rattle.turtle_tokens.specs.Scanning.{items, items_of}
use Rattle.turtle_lexer.specs.Streams.{Stream, Ahead, by_chars, stream}
use Rattle.turtle_lexer.specs.Lexing.{Lexing, IsFed, stopped, by_code, IsBad, Knows, HasRoom, IsEmptied, IsBegun}

begins_all : (bytes : List ℕ) → IsUtf8 bytes → BeginsUtf8 bytes
begins_all bytes u = ([], subst IsUtf8 (sym (append-nil bytes)) u)

begins_front : (bytes more : List ℕ) → BeginsUtf8 (bytes ++ more) → BeginsUtf8 bytes
begins_front bytes more b = (more ++ b.0, subst IsUtf8 (append_assoc bytes more b.0) b.1)

-- what is said of the bytes stays right where a byte is taken
pub taken_some : (bytes : List ℕ) (b c : ℕ) (bad : Option ℕ) → Pushes (bytes ++ b ∷ []) (Ok (Some c)) → IsBad false bytes bad → IsBad false (bytes ++ b ∷ []) bad
taken_some bytes b c None p o = begins_all (bytes ++ b ∷ []) (p.0 ++ c ∷ [], p.1)
taken_some bytes b c (Some at) p o = absurd (o.0 (begins_front bytes (b ∷ []) (begins_all (bytes ++ b ∷ []) (p.0 ++ c ∷ [], p.1))))

pub taken_none : (bytes : List ℕ) (b : ℕ) (bad : Option ℕ) → Pushes (bytes ++ b ∷ []) (Ok None) → IsBad false bytes bad → IsBad false (bytes ++ b ∷ []) bad
taken_none bytes b None p o = p.1
taken_none bytes b (Some at) p o = absurd (o.0 (begins_front bytes (b ∷ []) p.1))

pub ended_good : (bytes : List ℕ) (finished : Bool) (bad : Option ℕ) → IsUtf8 bytes → IsBad finished bytes bad → IsBad true bytes bad
ended_good bytes finished None u o = u
ended_good bytes false (Some at) u o = absurd (o.0 (begins_all bytes u))
ended_good bytes true (Some at) u o = o

pub none_fed : BeginsUtf8 []
none_fed = begins_all [] ([], (refl, refl))

before_chars : (c : ℕ) (d : Decoded) (f : List ℕ → Stream) → by_chars d (λ chars. f (c ∷ chars)) ≡ by_chars (before c d) f
before_chars c (Chars chars) f = refl
before_chars c (BadAt place) f = refl

pub same_chars : (d : Decoded) (f g : List ℕ → Stream) → ((chars : List ℕ) → f chars ≡ g chars) → by_chars d f ≡ by_chars d g
same_chars (Chars chars) f g e = ap (λ s. Ahead.Tokens s) (e chars)
same_chars (BadAt place) f g e = refl

said_chars : (v : Fed) (b : ℕ) (r : Result (Option ℕ) BadUtf8) (more : List ℕ) (f : List ℕ → Stream) → said v b ≡ r → by_chars (by_said r (decoded (fed v b) more)) f ≡ by_chars (decoded v (b ∷ more)) f
said_chars v b r more f e = ap (λ s. by_chars (by_said s (decoded (fed v b) more)) f) (sym e)

-- the character that a byte ends is kept
pub kept_ahead : (v w : Fed) (b c : ℕ) (k n : Kept) (r : Option Refusal) (more : List ℕ) → said v b ≡ Ok (Some c) → w ≡ fed v b → n ≡ record k { chars = k.chars ++ c ∷ [] }
    → by_chars (decoded w more) (λ chars. stopped r (stream (items_of n chars))) ≡ by_chars (decoded v (b ∷ more)) (λ chars. stopped r (stream (items_of k chars)))
kept_ahead v w b c k n r more e fw en =
    ap (λ x. by_chars (decoded x more) (λ chars. stopped r (stream (items_of n chars)))) fw
    ∙ same_chars (decoded (fed v b) more) (λ chars. stopped r (stream (items_of n chars))) (λ chars. stopped r (stream (items_of k (c ∷ chars))))
    (λ chars. ap (λ x. stopped r (stream x)) (ap (λ x. items_of x chars) en ∙ ap (λ x. items k.place 0 x k.at) (append_assoc k.chars (c ∷ []) chars)))
    ∙ before_chars c (decoded (fed v b) more) (λ chars. stopped r (stream (items_of k chars)))
    ∙ said_chars v b (Ok (Some c)) more (λ chars. stopped r (stream (items_of k chars))) e

-- inside a character
pub inside_ahead : (v w : Fed) (b : ℕ) (k : Kept) (r : Option Refusal) (more : List ℕ) → said v b ≡ Ok None → w ≡ fed v b
    → by_chars (decoded w more) (λ chars. stopped r (stream (items_of k chars))) ≡ by_chars (decoded v (b ∷ more)) (λ chars. stopped r (stream (items_of k chars)))
inside_ahead v w b k r more e fw =
    ap (λ x. by_chars (decoded x more) (λ chars. stopped r (stream (items_of k chars)))) fw
    ∙ said_chars v b (Ok None) more (λ chars. stopped r (stream (items_of k chars))) e

-- behind a refusal
pub refused_ahead : (v w : Fed) (b c : ℕ) (k : Kept) (r : Refusal) (more : List ℕ) → said v b ≡ Ok (Some c) → w ≡ fed v b
    → by_chars (decoded w more) (λ chars. stopped (Some r) (stream (items_of k chars))) ≡ by_chars (decoded v (b ∷ more)) (λ chars. stopped (Some r) (stream (items_of k chars)))
refused_ahead v w b c k r more e fw =
    ap (λ x. by_chars (decoded x more) (λ chars. by_code r.code r.at)) fw
    ∙ before_chars c (decoded (fed v b) more) (λ chars. by_code r.code r.at)
    ∙ said_chars v b (Ok (Some c)) more (λ chars. by_code r.code r.at) e

-- a byte that begins no UTF-8
pub bad_ahead : (v w : Fed) (b : ℕ) (e : BadUtf8) (more : List ℕ) (f : List ℕ → Stream) → said v b ≡ Err e → w ≡ fed v b
    → by_chars (decoded w more) f ≡ by_chars (decoded v (b ∷ more)) f
bad_ahead v w b e more f h fw =
    ap (λ x. by_chars (decoded x more) f) fw ∙ ap (λ d. by_chars d f) (stays_bad v b e more h) ∙ said_chars v b (Err e) more f h

pub fed_some : (finished : Bool) (bytes : List ℕ) (b c : ℕ) (bad : Option ℕ) (r : Result (Option ℕ) BadUtf8) → finished ≡ false → r ≡ Ok (Some c) → Pushes (bytes ++ b ∷ []) r
    → IsBad finished bytes bad → IsBad finished (bytes ++ b ∷ []) bad
fed_some finished bytes b c bad r e s p o = subst (λ f. IsBad f (bytes ++ b ∷ []) bad) (sym e) (taken_some bytes b c bad (subst (Pushes (bytes ++ b ∷ [])) s p) (subst (λ f. IsBad f bytes bad) e o))

pub fed_none : (finished : Bool) (bytes : List ℕ) (b : ℕ) (bad : Option ℕ) (r : Result (Option ℕ) BadUtf8) → finished ≡ false → r ≡ Ok None → Pushes (bytes ++ b ∷ []) r
    → IsBad finished bytes bad → IsBad finished (bytes ++ b ∷ []) bad
fed_none finished bytes b bad r e s p o = subst (λ f. IsBad f (bytes ++ b ∷ []) bad) (sym e) (taken_none bytes b bad (subst (Pushes (bytes ++ b ∷ [])) s p) (subst (λ f. IsBad f bytes bad) e o))

before_bad : (c at : ℕ) (d : Decoded) → before c d ≡ BadAt at → d ≡ BadAt at
before_bad c at (Chars chars) e = absurd (cc e)
before_bad c at (BadAt place) e = e

false_true : (finished : Bool) → finished ≡ false → finished ≡ true → ⊥
false_true finished a b = true≢false (sym b ∙ a)

pub knows_ok : (bad : Option ℕ) (finished : Bool) (v w : Fed) (b : ℕ) (o : Option ℕ) → finished ≡ false → said v b ≡ Ok o → w ≡ fed v b → Knows bad finished v → Knows bad finished w
knows_ok None finished v w b o f s e k = λ t. absurd (false_true finished f t)
knows_ok (Some at) finished v w b None f s e k = λ more whole.
    ap (λ x. decoded x more) e ∙ sym (ap (λ r. by_said r (decoded (fed v b) more)) s) ∙ k (b ∷ more) (λ t. absurd (false_true finished f t))
knows_ok (Some at) finished v w b (Some c) f s e k = λ more whole.
    ap (λ x. decoded x more) e ∙ before_bad c at (decoded (fed v b) more) (sym (ap (λ r. by_said r (decoded (fed v b) more)) s) ∙ k (b ∷ more) (λ t. absurd (false_true finished f t)))

pub knows_err : (finished : Bool) (v w : Fed) (b : ℕ) (x : BadUtf8) → said v b ≡ Err x → w ≡ fed v b → Knows (Some x.at) finished w
knows_err finished v w b x s e = λ more whole. ap (λ d. decoded d more) e ∙ stays_bad v b x more s

pub room_pushed : (k n : Kept) (v w : Fed) (c : ℕ) → HasRoom k v → n ≡ record k { chars = k.chars ++ c ∷ [] } → w.count ≡ v.count + 1 → v.count + 1 < 2 ^ 32 → HasRoom n w
room_pushed k n v w c room e count small =
    let wide : width (k.chars ++ c ∷ []) ≡ width k.chars + len_utf8 c = width_push k.chars c in
    let more : n.at + width n.chars ≡ k.at + width (k.chars ++ c ∷ []) = ap (λ x. x.at + width x.chars) e in
    (omega (arith, room.0, wide, more, count, (len_utf8_bounds c).1), omega (arith, count, small))

pub emptied_none : (o : Option Refusal) (k : Kept) → is_some o ≡ false → IsEmptied o k
emptied_none None k e = tt
emptied_none (Some r) k e = absurd (true≢false e)

pub on_ok_by : {A E : Type 0} (r : Result A E) (X : Type 0) → is_err r ≡ false → OnOk r X → X
on_ok_by (Ok x) X e h = h
on_ok_by (Err x) X e h = absurd (true≢false e)

pub room_same : (k : Kept) (v w : Fed) → HasRoom k v → w.count ≡ v.count + 1 → v.count + 1 < 2 ^ 32 → HasRoom k w
room_same k v w room count small = (omega (arith, room.0, count), omega (arith, count, small))

pub byte_more : (xs : List ℕ) (i b : ℕ) → drop i xs ≡ b ∷ drop (i + 1) xs → take (i + 1) xs ≡ take i xs ++ b ∷ []
byte_more xs i b e = take-add i 1 xs ∙ ap (λ x. take i xs ++ take 1 x) e

pub byte_fed : (l : Lexing) (bytes xs : List ℕ) (i b : ℕ) → drop i xs ≡ b ∷ drop (i + 1) xs → IsFed l ((bytes ++ take i xs) ++ b ∷ []) → IsFed l (bytes ++ take (i + 1) xs)
byte_fed l bytes xs i b e f = subst (IsFed l) (append_assoc bytes (take i xs) (b ∷ []) ∙ ap (λ x. bytes ++ x) (sym (byte_more xs i b e))) f

pub on_err_by : {A E : Type 0} (r : Result A E) (X : Type 0) → is_err r ≡ true → OnErr r X → X
on_err_by (Ok x) X e h = absurd (true≢false (sym e))
on_err_by (Err x) X e h = h

pub begun_whole : (finished : Bool) (bytes : List ℕ) (b c n : ℕ) (bad : Option ℕ) (r : Result (Option ℕ) BadUtf8) → finished ≡ false → r ≡ Ok (Some c) → Pushes (bytes ++ b ∷ []) r
    → IsBad finished bytes bad → n ≡ 0 → IsBegun bad (bytes ++ b ∷ []) n
begun_whole finished bytes b c n None r e s p o z = subst (IsBegun None (bytes ++ b ∷ [])) (sym z) (begun_none (bytes ++ b ∷ []) (let q = subst (Pushes (bytes ++ b ∷ [])) s p in (q.0 ++ c ∷ [], q.1)))
begun_whole finished bytes b c n (Some at) r e s p o z = tt

pub begun_inside : (bytes : List ℕ) (b n m : ℕ) (bad : Option ℕ) (r : Result (Option ℕ) BadUtf8) → r ≡ Ok None → Pushes (bytes ++ b ∷ []) r
    → IsBegun bad bytes n → m ≡ min (n + 1) 3 → IsBegun bad (bytes ++ b ∷ []) m
begun_inside bytes b n m None r s p i e =
    let q = subst (Pushes (bytes ++ b ∷ [])) s p in
    let more = begun_more bytes b n i q.0 in
    let small : n + 1 ≤ 3 = begun_small (bytes ++ b ∷ []) (n + 1) more q.1 in
    subst (IsBegun None (bytes ++ b ∷ [])) (let w : n + 1 ≡ m = omega (arith, e, small) in w) more
begun_inside bytes b n m (Some at) r s p i e = tt
