-- Each step makes the input shorter, so the count of steps does not matter.
use Rattle.std.proofs.Common.{ℕ, zero, suc, List, [], ◌∷◌, ◌≡◌, ◌<◌, ◌≤◌, length, take, drop, refl, arith}
use Rattle.std.proofs.lemmas.List.{length-drop}
use Rattle.std.proofs.lemmas.Bool.{cond_both, false≢true, and_parts}
use Rattle.std.specs.Prelude.{true, false, ◌||◌, ◌==◌, nat_eq}
use Rattle.std.specs.Str.{bytes_eq}
use Rattle.iri_resolve.specs.Dots.{up_slash, dot_slash, slash_dot_slash, slash_dot, slash_up_slash, slash_up, dot, up, starts, segment_length, dot_step, without_dots_from}

drop_shorter : (n b : ℕ) (input : List ℕ) → 0 < n → length (drop n (b ∷ input)) ≤ length input
drop_shorter n b input h = omega (arith, length-drop n (b ∷ input))

take_shorter : (b : ℕ) (input front : List ℕ) → bytes_eq (b ∷ input) front ≡ true → 2 ≤ length front → length (take 1 (b ∷ input)) ≤ length input
take_shorter b (x ∷ input) front e h = omega arith
take_shorter b [] [] e h = absurd (omega arith)
take_shorter b [] (x ∷ []) e h = absurd (omega arith)
take_shorter b [] (x ∷ y ∷ front) e h = absurd (false≢true (and_parts (nat_eq b x) (bytes_eq [] (y ∷ front)) e).1)

pub shorter : (b : ℕ) (input output : List ℕ) → length (dot_step (b ∷ input) output).0 ≤ length input
shorter b input output =
    let P : List ℕ × List ℕ → Type 0 = λ x. length x.0 ≤ length input in
    cond_both (starts (b ∷ input) up_slash) _ _ P (λ e. drop_shorter 3 b input (omega arith)) (λ _.
    cond_both (starts (b ∷ input) dot_slash || starts (b ∷ input) slash_dot_slash) _ _ P (λ e. drop_shorter 2 b input (omega arith)) (λ _.
    cond_both (bytes_eq (b ∷ input) slash_dot) _ _ P (λ e. take_shorter b input slash_dot e (omega arith)) (λ _.
    cond_both (starts (b ∷ input) slash_up_slash) _ _ P (λ e. drop_shorter 3 b input (omega arith)) (λ _.
    cond_both (bytes_eq (b ∷ input) slash_up) _ _ P (λ e. take_shorter b input slash_up e (omega arith)) (λ _.
    cond_both (bytes_eq (b ∷ input) dot || bytes_eq (b ∷ input) up) _ _ P (λ e. omega arith) (λ _. drop_shorter (segment_length (b ∷ input)) b input (omega arith)))))))

pub enough : (n m : ℕ) (input output : List ℕ) → length input ≤ n → length input ≤ m → without_dots_from n input output ≡ without_dots_from m input output
enough zero zero input output h l = refl
enough zero (suc m) [] output h l = refl
enough zero (suc m) (b ∷ input) output h l = absurd (omega arith)
enough (suc n) zero [] output h l = refl
enough (suc n) zero (b ∷ input) output h l = absurd (omega arith)
enough (suc n) (suc m) [] output h l = refl
enough (suc n) (suc m) (b ∷ input) output h l = enough n m (dot_step (b ∷ input) output).0 (dot_step (b ∷ input) output).1
    (omega (arith, shorter b input output)) (omega (arith, shorter b input output))

pub next_step : (input output : List ℕ) → 0 < length input
    → without_dots_from (length input) input output ≡ without_dots_from (length (dot_step input output).0) (dot_step input output).0 (dot_step input output).1
next_step [] output h = absurd (omega arith)
next_step (b ∷ input) output h = enough (length input) (length (dot_step (b ∷ input) output).0) (dot_step (b ∷ input) output).0 (dot_step (b ∷ input) output).1 (shorter b input output) (omega arith)

pub step_shorter : (input output : List ℕ) → 0 < length input → length (dot_step input output).0 < length input
step_shorter [] output h = absurd (omega arith)
step_shorter (b ∷ input) output h = omega (arith, shorter b input output)

pub some_left : (text : List ℕ) → false ≡ (length text == 0) → 0 < length text
some_left [] e = absurd (false≢true e)
some_left (b ∷ text) e = omega arith
