-- Lists of characters.
use Rattle.std.proofs.Common.{ℕ, zero, suc, List, [], ◌∷◌, ◌++◌, ◌≡◌, ◌<◌, ◌≤◌, ◌+◌, length, take, drop, get_or, refl, ap, ap₂, sym, ◌∙◌, arith, append-nil}
use Rattle.std.proofs.Math.Seq.{take-length}
use Rattle.std.proofs.lemmas.List.{take-append-le}
use Rattle.token_scanner.specs.Texts.{AreChars}

pub split : (n : ℕ) (xs : List ℕ) → xs ≡ take n xs ++ drop n xs
split zero xs = refl
split (suc n) [] = refl
split (suc n) (x ∷ xs) = ap (λ y. x ∷ y) (split n xs)

drop_le : (n : ℕ) (xs : List ℕ) → length (drop n xs) ≤ length xs
drop_le zero xs = omega arith
drop_le (suc n) [] = omega arith
drop_le (suc n) (x ∷ xs) = omega (arith, drop_le n xs)

pub drop_shorter : (n : ℕ) (xs : List ℕ) → 0 < n → 0 < length xs → length (drop n xs) < length xs
drop_shorter zero xs a h = absurd (omega arith)
drop_shorter (suc n) [] a h = absurd (omega arith)
drop_shorter (suc n) (x ∷ xs) a h = omega (arith, drop_le n xs)

pub all_rest : (g rest : List ℕ) → AreChars (g ++ rest) → AreChars rest
all_rest [] rest a = a
all_rest (x ∷ g) rest a = all_rest g rest a.1

pub all_drop : (n : ℕ) (xs : List ℕ) → AreChars xs → AreChars (drop n xs)
all_drop zero xs a = a
all_drop (suc n) [] a = a
all_drop (suc n) (x ∷ xs) a = all_drop n xs a.1

pub all_take : (n : ℕ) (xs : List ℕ) → AreChars xs → AreChars (take n xs)
all_take zero xs a = tt
all_take (suc n) [] a = tt
all_take (suc n) (x ∷ xs) a = (a.0, all_take n xs a.1)

pub char_at : (text : List ℕ) (i : ℕ) → AreChars text → i < length text → get_or text i 0 < 0x110000
char_at [] i a h = absurd (omega arith)
char_at (c ∷ text) zero a h = a.0
char_at (c ∷ text) (suc i) a h = char_at text i a.1 (omega arith)

pub drop_all : (n : ℕ) (a : List ℕ) → length a ≤ n → drop n a ≡ []
drop_all zero [] h = refl
drop_all zero (c ∷ a) h = absurd (omega arith)
drop_all (suc n) [] h = refl
drop_all (suc n) (c ∷ a) h = drop_all n a (omega arith)

pub drop_sum : (m n : ℕ) (xs : List ℕ) → drop (m + n) xs ≡ drop n (drop m xs)
drop_sum zero n xs = ap (λ k. drop k xs) (let e : 0 + n ≡ n = omega arith in e)
drop_sum (suc m) n [] = drop_all (suc m + n) [] (omega arith) ∙ sym (drop_all n [] (omega arith))
drop_sum (suc m) n (x ∷ xs) = ap (λ k. drop k (x ∷ xs)) (let e : suc m + n ≡ suc (m + n) = omega arith in e) ∙ drop_sum m n xs

pub get_at : (done : List ℕ) (c : ℕ) (cs : List ℕ) → get_or (done ++ c ∷ cs) (length done) 0 ≡ c
get_at [] c cs = refl
get_at (d ∷ done) c cs = get_at done c cs

pub take_at : (done rest : List ℕ) → take (length done) (done ++ rest) ≡ done
take_at done rest = take-append-le (length done) done rest (omega arith) ∙ take-length done

pub head_is : (a b : ℕ) (s t : List ℕ) → a ∷ s ≡ b ∷ t → a ≡ b
head_is a b s t e = cc

pub tail_is : (a b : ℕ) (s t : List ℕ) → a ∷ s ≡ b ∷ t → s ≡ t
tail_is a b s t e = cc

pub append_cut : (a b s t : List ℕ) → length a ≡ length b → a ++ s ≡ b ++ t → (a ≡ b) × (s ≡ t)
append_cut [] [] s t l e = (refl, e)
append_cut [] (y ∷ b) s t l e = absurd (omega arith)
append_cut (x ∷ a) [] s t l e = absurd (omega arith)
append_cut (x ∷ a) (y ∷ b) s t l e =
    let inner = append_cut a b s t (omega arith) (tail_is x y (a ++ s) (b ++ t) e) in
    (ap₂ (λ u v. u ∷ v) (head_is x y (a ++ s) (b ++ t) e) inner.0, inner.1)

take_next : (n : ℕ) (xs : List ℕ) (x : ℕ) (rest : List ℕ) → drop n xs ≡ x ∷ rest → take (suc n) xs ≡ take n xs ++ x ∷ []
take_next zero [] x rest e = absurd (cc e)
take_next zero (y ∷ xs) x rest e = ap (λ c. c ∷ []) (head_is y x xs rest e)
take_next (suc n) [] x rest e = absurd (cc e)
take_next (suc n) (y ∷ xs) x rest e = ap (λ z. y ∷ z) (take_next n xs x rest e)

pub take_first : (n : ℕ) (xs : List ℕ) (x : ℕ) (rest : List ℕ) → drop n xs ≡ x ∷ rest → take (n + 1) xs ≡ take n xs ++ x ∷ []
take_first n xs x rest e = ap (λ k. take k xs) (let one : n + 1 ≡ suc n = omega arith in one) ∙ take_next n xs x rest e
