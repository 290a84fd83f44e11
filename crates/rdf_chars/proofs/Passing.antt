-- Bytes of ASCII where no character is open.
use Rattle.std.proofs.Common.{ℕ, suc, List, [], ◌∷◌, ◌++◌, ◌≡◌, ◌<◌, ◌+◌, length, nat_lt, true, ap, ◌∙◌, refl, arith}
use Rattle.std.proofs.lemmas.Bool.Decides.{nat_tests}
use Rattle.std.specs.Str.{IsAscii}
use Rattle.rdf_chars.specs.declared.utf8.Step.{Step}
use Rattle.rdf_chars.specs.declared.utf8.Step.TheVariants.{Idle, Last, Two, Three, Bad}
use Rattle.rdf_chars.specs.declared.utf8.Pushed.TheVariants.{Whole}
use Rattle.rdf_chars.specs.Steps.{Fed, pushed, begun, fed, fed_by, fed_all, said_by, is_idle}
use Rattle.rdf_chars.specs.Decoding.{decoded, before, before_all, by_said}

idle : (s : Step) → is_idle s ≡ true → s ≡ Idle
idle Idle h = refl
idle (Last n) h = cc
idle (Two n low high) h = cc
idle (Three n low high) h = cc
idle Bad h = cc

whole : (s : Step) (b : ℕ) → is_idle s ≡ true → b < 128 → pushed s b ≡ Whole b
whole s b h low = let t : nat_lt b 128 ≡ true = grind (arith, nat_tests, low) in
    ap (λ s. pushed s b) (idle s h) ∙ (let e : begun b ≡ Whole b = rw t refl in e)

-- the bytes leave no character open
pub passed : (bytes : List ℕ) (v : Fed) → is_idle v.step ≡ true → IsAscii bytes → 0 < length bytes
    → fed_all v bytes ≡ record { step = Idle; from = v.count + length bytes; count = v.count + length bytes }
passed [] v h ascii some = absurd (omega (arith, some))
passed (b ∷ []) v h ascii some = ap (λ p. fed_by p v) (whole v.step b h (ascii 0))
passed (b ∷ c ∷ bytes) v h ascii some =
    let one : fed v b ≡ record { step = Idle; from = v.count + 1; count = v.count + 1 } = ap (λ p. fed_by p v) (whole v.step b h (ascii 0)) in
    ap (λ w. fed_all w (c ∷ bytes)) one
    ∙ passed (c ∷ bytes) (record { step = Idle; from = v.count + 1; count = v.count + 1 }) refl (λ i. ascii (suc i)) (omega arith)
    ∙ ap (λ n. record { step = Idle; from = n; count = n }) (let e : v.count + 1 + length (c ∷ bytes) ≡ v.count + length (b ∷ c ∷ bytes) = omega arith in e)

-- and each is a character
pub decoded_run : (bytes : List ℕ) (v : Fed) (more : List ℕ) → is_idle v.step ≡ true → IsAscii bytes
    → decoded v (bytes ++ more) ≡ before_all bytes (decoded (fed_all v bytes) more)
decoded_run [] v more h ascii = refl
decoded_run (b ∷ bytes) v more h ascii =
    let w = whole v.step b h (ascii 0) in
    let one : fed v b ≡ record { step = Idle; from = v.count + 1; count = v.count + 1 } = ap (λ p. fed_by p v) w in
    ap (λ p. by_said (said_by p v.from) (decoded (fed v b) (bytes ++ more))) w
    ∙ ap (before b) (decoded_run bytes (fed v b) more (ap (λ x. is_idle x.step) one) (λ i. ascii (suc i)))
