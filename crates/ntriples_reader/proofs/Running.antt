-- Bytes of ASCII are characters as they stand.
use Rattle.std.proofs.Common.{ℕ, List, [], ◌∷◌, ◌++◌, ◌≡◌, ◌+◌, ◌-◌, true, ap, sym, ◌∙◌, refl, take, drop, length, append_assoc}
use Rattle.std.proofs.Math.Seq.{take-length}
use Rattle.std.proofs.lemmas.List.{length-drop, drop-drop, take-append-drop}
use Rattle.std.specs.Str.{IsAscii}
use Rattle.rdf_chars.specs.Steps.{Fed, fed_all, is_idle}
use Rattle.rdf_chars.specs.Decoding.{Decoded, decoded, before, before_all}
use Rattle.rdf_chars.specs.Decoding.Decoded.{Chars, BadAt}
use Rattle.rdf_chars.proofs.Passing.{decoded_run}
use Rattle.rdf_reading.specs.Answers.{Answer}
use Rattle.ntriples_reader.specs.Feeding.{by_decoded}

by_each : (d : Decoded) (f g : List ℕ → Answer) → ((chars : List ℕ) → f chars ≡ g chars) → by_decoded d f ≡ by_decoded d g
by_each (Chars chars) f g h = h chars
by_each (BadAt place) f g h = refl

by_before : (c : ℕ) (d : Decoded) (f : List ℕ → Answer) → by_decoded d (λ chars. f (c ∷ chars)) ≡ by_decoded (before c d) f
by_before c (Chars chars) f = refl
by_before c (BadAt place) f = refl

by_run : (run : List ℕ) (d : Decoded) (f : List ℕ → Answer) → by_decoded d (λ chars. f (run ++ chars)) ≡ by_decoded (before_all run d) f
by_run [] d f = refl
by_run (c ∷ run) d f = by_run run d (λ chars. f (c ∷ chars)) ∙ by_before c (before_all run d) f

pub run_promised : (run more : List ℕ) (v w : Fed) (f g : List ℕ → Answer) → is_idle v.step ≡ true → IsAscii run → w ≡ fed_all v run
    → ((chars : List ℕ) → g chars ≡ f (run ++ chars)) → by_decoded (decoded w more) g ≡ by_decoded (decoded v (run ++ more)) f
run_promised run more v w f g idle ascii on h =
    by_each (decoded w more) g (λ chars. f (run ++ chars)) h
    ∙ ap (λ x. by_decoded (decoded x more) (λ chars. f (run ++ chars))) on
    ∙ by_run run (decoded (fed_all v run) more) f
    ∙ ap (λ d. by_decoded d f) (sym (decoded_run run v more idle ascii))

pub rest_is : (t : ℕ) (piece : List ℕ) → take (length piece - t) (drop t piece) ≡ drop t piece
rest_is t piece = ap (λ n. take n (drop t piece)) (sym (length-drop t piece)) ∙ take-length (drop t piece)

-- the next n bytes and what is behind them
pub next_bytes : (t n : ℕ) (piece more : List ℕ) → take n (take (length piece - t) (drop t piece)) ++ (drop (t + n) piece ++ more) ≡ drop t piece ++ more
next_bytes t n piece more =
    ap (λ x. take n x ++ (drop (t + n) piece ++ more)) (rest_is t piece)
    ∙ ap (λ x. take n (drop t piece) ++ (x ++ more)) (sym (drop-drop n t piece))
    ∙ sym (append_assoc (take n (drop t piece)) (drop n (drop t piece)) more)
    ∙ ap (λ x. x ++ more) (take-append-drop n (drop t piece))
