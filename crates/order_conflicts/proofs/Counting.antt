-- Numbers that pass a test, one more at a time.
use Rattle.std.proofs.Common.{zero, suc, ◌≡◌, ℕ, List, [], ◌∷◌, ◌++◌, ◌+◌, ap, sym, arith, ◌∙◌, Bool, cond, ◌<◌, length, get_or, take, map}
use Rattle.std.specs.List.{filter, range_with_len}
use Rattle.std.proofs.lemmas.List.{map-append, take_more}
use Rattle.std.proofs.lemmas.List.Elements.{filter-append}

range_more : (n a : ℕ) → range_with_len a (n + 1) ≡ range_with_len a n ++ (a + n) ∷ []
range_more zero a = let e : a ≡ a + 0 = omega arith in ap (λ x. x ∷ []) e
range_more (suc n) a =
    let longer : suc n + 1 ≡ suc (n + 1) = omega arith in
    let e : a + 1 + n ≡ a + suc n = omega arith in
    ap (range_with_len a) longer ∙ ap (λ l. a ∷ l) (range_more n (a + 1) ∙ ap (λ x. range_with_len (a + 1) n ++ x ∷ []) e)

pub passing_more : (p : ℕ → Bool) (n : ℕ) → filter p (range_with_len 0 (n + 1)) ≡ filter p (range_with_len 0 n) ++ cond (p n) (n ∷ []) []
passing_more p n =
    let e : 0 + n ≡ n = omega arith in
    ap (filter p) (range_more n 0 ∙ ap (λ k. range_with_len 0 n ++ k ∷ []) e) ∙ filter-append p (range_with_len 0 n) (n ∷ [])

-- one number more is pushed where it passes
pub pushed : (p : ℕ → Bool) (n : ℕ) (passes : Bool) (old new : List ℕ) → passes ≡ p n → new ≡ old ++ cond passes (n ∷ []) [] →
    old ≡ filter p (range_with_len 0 n) → new ≡ filter p (range_with_len 0 (n + 1))
pushed p n passes old new is e was =
    e ∙ ap (λ l. l ++ cond passes (n ∷ []) []) was ∙ ap (λ b. filter p (range_with_len 0 n) ++ cond b (n ∷ []) []) is ∙ sym (passing_more p n)

-- one item more is mapped
pub mapped_more : {X Y : Type 0} (f : X → Y) (xs : List X) (k : ℕ) (d : X) (y : Y) (old new : List Y) → k < length xs → y ≡ f (get_or xs k d) →
    new ≡ old ++ y ∷ [] → old ≡ map f (take k xs) → new ≡ map f (take (k + 1) xs)
mapped_more f xs k d y old new h is e was =
    e ∙ ap (λ l. l ++ y ∷ []) was ∙ ap (λ z. map f (take k xs) ++ z ∷ []) is
    ∙ sym (ap (map f) (take_more xs k d h) ∙ map-append f (take k xs) (get_or xs k d ∷ []))
