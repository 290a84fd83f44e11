-- A run of bytes that need no escape grows by a byte, and ends before one that does.
use Rattle.std.proofs.Common.{ℕ, List, [], ◌∷◌, ◌++◌, ◌≡◌, ◌≤◌, ◌<◌, ◌+◌, ◌-◌, length, take, drop, get_or, ap, sym, ◌∙◌, arith, append_assoc}
use Rattle.std.proofs.lemmas.List.{drop_more, take_more, get_or-drop, length-drop}
use Rattle.std.specs.Prelude.{None, Some}
use Rattle.ntriples_writer.specs.Lines.{escape_letter, escape_by, escaped}

next_of : (text : List ℕ) (i : ℕ) → i < length text → escaped (drop i text) ≡ escape_by (get_or text i 0) (escape_letter (get_or text i 0)) ++ escaped (drop (i + 1) text)
next_of text i h = ap escaped (drop_more text i 0 h)

run_grows : (text : List ℕ) (start i : ℕ) → start ≤ i → i < length text → take (i + 1 - start) (drop start text) ≡ take (i - start) (drop start text) ++ (get_or text i 0 ∷ [])
run_grows text start i h l =
    ap (λ n. take n (drop start text)) (let q : i + 1 - start ≡ i - start + 1 = omega arith in q)
    ∙ take_more (drop start text) (i - start) 0 (omega (arith, length-drop start text))
    ∙ ap (λ b. take (i - start) (drop start text) ++ (b ∷ [])) (get_or-drop start text (i - start) 0 ∙ ap (λ n. get_or text n 0) (let q : start + (i - start) ≡ i = omega arith in q))

pub run_kept : (text out whole : List ℕ) (start i : ℕ) → start ≤ i → i < length text → escape_letter (get_or text i 0) ≡ None
    → out ++ (take (i - start) (drop start text) ++ escaped (drop i text)) ≡ whole
    → out ++ (take (i + 1 - start) (drop start text) ++ escaped (drop (i + 1) text)) ≡ whole
run_kept text out whole start i h l none e =
    ap (λ x. out ++ (x ++ escaped (drop (i + 1) text))) (run_grows text start i h l)
    ∙ ap (λ x. out ++ x) (append_assoc (take (i - start) (drop start text)) (get_or text i 0 ∷ []) (escaped (drop (i + 1) text))
    ∙ ap (λ x. take (i - start) (drop start text) ++ x) (sym (next_of text i l ∙ ap (λ o. escape_by (get_or text i 0) o ++ escaped (drop (i + 1) text)) none)))
    ∙ e

pub run_ended : (text out whole : List ℕ) (start i letter : ℕ) → start ≤ i → i < length text → escape_letter (get_or text i 0) ≡ Some letter
    → out ++ (take (i - start) (drop start text) ++ escaped (drop i text)) ≡ whole
    → (((out ++ take (i - start) (drop start text)) ++ 0x5C ∷ []) ++ letter ∷ []) ++ (take (i + 1 - (i + 1)) (drop (i + 1) text) ++ escaped (drop (i + 1) text)) ≡ whole
run_ended text out whole start i letter h l some e =
    let run = take (i - start) (drop start text) in
    let rest = escaped (drop (i + 1) text) in
    ap (λ n. (((out ++ run) ++ 0x5C ∷ []) ++ letter ∷ []) ++ (take n (drop (i + 1) text) ++ rest)) (let q : i + 1 - (i + 1) ≡ 0 = omega arith in q)
    ∙ append_assoc ((out ++ run) ++ 0x5C ∷ []) (letter ∷ []) rest
    ∙ append_assoc (out ++ run) (0x5C ∷ []) (letter ∷ rest)
    ∙ append_assoc out run (0x5C ∷ letter ∷ rest)
    ∙ ap (λ x. out ++ (run ++ x)) (sym (next_of text i l ∙ ap (λ o. escape_by (get_or text i 0) o ++ rest) some))
    ∙ e
