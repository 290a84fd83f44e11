-- Balanced proofs: their parts, their depth, and what they conclude.
use Rattle.std.proofs.Common.{arith, zero, suc, ◌≡◌, ◌<◌, ◌≤◌, ◌+◌, ◌-◌, ◌*◌, ◌/◌, inl, inr, ℕ, Option, Some, None, List, [], ◌∷◌, ◌++◌, length, map, take, drop, refl, sym, ap, ap₂, subst, ◌∙◌}
use Rattle.std.proofs.lemmas.List.{length-take-le, length-drop, drop-take, drop-drop, take-append-drop, length-map, take-map, drop-map}
use Rattle.std.proofs.lemmas.Bool.{cases_eq}
use Rattle.proof_core.specs.declared.trees.Proof.{Proof}
use Rattle.proof_core.specs.declared.trees.Proof.TheVariants.{Leaf, One', Two'}
use Rattle.proof_core.specs.Rules.{Rules}
use Rattle.proof_core.specs.Proofs.{conclusion, node_count, gives_two}
use Rattle.proof_core.specs.Balanced.{IsBalanced, IsAssociative, joined_on, joined, depth, TakesToOne}

-- the last n leaves, from the last of them and those before
pub joins_balanced : {L R J : Type 0} (j : J) (ls : List L) (n : ℕ) (x y : Proof L R J) → 1 < n → n ≤ length ls →
    IsBalanced j (drop (length ls - (n - n / 2)) ls) y →
    IsBalanced j (drop (length (take (length ls - (n - n / 2)) ls) - n / 2) (take (length ls - (n - n / 2)) ls)) x →
    (1 < length (drop (length ls - n) ls)) × (j ≡ j)
    × IsBalanced j (take (length (drop (length ls - n) ls) / 2) (drop (length ls - n) ls)) x
    × IsBalanced j (drop (length (drop (length ls - n) ls) / 2) (drop (length ls - n) ls)) y
joins_balanced {L = L} j ls n x y some within last first =
    let a : ℕ = length ls - n in
    let m : ℕ = length ls - (n - n / 2) in
    let size : length (drop a ls) ≡ n = length-drop a ls ∙ omega arith in
    let mid : a + n / 2 ≡ m = omega arith in
    let size_first : length (take m ls) - n / 2 ≡ a = omega (arith, length-take-le m ls (omega arith)) in
    let P : List L → Type 0 = λ ks. IsBalanced j ks x in
    let Q : List L → Type 0 = λ ks. IsBalanced j ks y in
    let head : drop (length (take m ls) - n / 2) (take m ls) ≡ take (n / 2) (drop a ls) =
    ap (λ k. drop k (take m ls)) size_first ∙ ap (λ k. drop a (take k ls)) (sym mid) ∙ drop-take a (n / 2) ls in
    let tail : drop m ls ≡ drop (n / 2) (drop a ls) =
    ap (λ k. drop k ls) (sym mid) ∙ sym (drop-drop (n / 2) a ls) in
    rw size (some, refl, subst P head first, subst Q tail last)

none_right : {F : Type 0} (two : F → F → Option F) (o : Option F) → gives_two two o None ≡ None
none_right two None = refl
none_right two (Some f) = refl

associates : {F : Type 0} (two : F → F → Option F) → IsAssociative two → (a b c : Option F) →
    gives_two two (gives_two two a b) c ≡ gives_two two a (gives_two two b c)
associates two e None b c = refl
associates two e (Some f) None c = refl
associates two e (Some f) (Some g) None = none_right two (two f g)
associates two e (Some f) (Some g) (Some h) = e f g h

joined_moves : {F : Type 0} (two : F → F → Option F) → IsAssociative two → (a b : Option F) (us : List (Option F)) →
    joined_on two (gives_two two a b) us ≡ gives_two two a (joined_on two b us)
joined_moves two e a b [] = refl
joined_moves two e a b (u ∷ us) =
    ap (λ o. joined_on two o us) (associates two e a b u) ∙ joined_moves two e a (gives_two two b u) us

joined_split : {F : Type 0} (two : F → F → Option F) → IsAssociative two → (o v : Option F) (us vs : List (Option F)) →
    joined_on two o (us ++ v ∷ vs) ≡ gives_two two (joined_on two o us) (joined_on two v vs)
joined_split two e o v [] vs = joined_moves two e o v vs
joined_split two e o v (u ∷ us) vs = joined_split two e (gives_two two o u) v us vs

joined_append : {F : Type 0} (two : F → F → Option F) → IsAssociative two → (us vs : List (Option F)) → 0 < length us → 0 < length vs →
    joined two (us ++ vs) ≡ gives_two two (joined two us) (joined two vs)
joined_append two e [] vs h k = absurd (omega arith)
joined_append two e (u ∷ us) [] h k = absurd (omega arith)
joined_append two e (u ∷ us) (v ∷ vs) h k = joined_split two e u v us vs

joined_at : {F : Type 0} (two : F → F → Option F) → IsAssociative two → (os : List (Option F)) (m : ℕ) → 0 < m → m < length os →
    joined two os ≡ gives_two two (joined two (take m os)) (joined two (drop m os))
joined_at two e os m some within =
    ap (joined two) (sym (take-append-drop m os))
    ∙ joined_append two e (take m os) (drop m os) (omega (arith, length-take-le m os (omega arith))) (omega (arith, length-drop m os))

-- a balanced proof concludes what joining from left to right does
pub balanced_concludes : {L R J F : Type 0} (t : Rules L R J F) (j : J) → IsAssociative (t.two j) → (ls : List L) (x : Proof L R J) →
    IsBalanced j ls x → conclusion t x ≡ joined (t.two j) (map t.leaf ls)
balanced_concludes t j e ls (Leaf l) b = rw b refl
balanced_concludes t j e ls (One' r p x) b = absurd b
balanced_concludes t j e ls (Two' k p x q y) b =
    let m : ℕ = length ls / 2 in
    let fst = balanced_concludes t j e (take m ls) x b.2 in
    let snd = balanced_concludes t j e (drop m ls) y b.3 in
    ap (λ i. gives_two (t.two i) (conclusion t x) (conclusion t y)) b.1
    ∙ ap₂ (gives_two (t.two j)) fst snd
    ∙ ap₂ (λ us vs. gives_two (t.two j) (joined (t.two j) us) (joined (t.two j) vs)) (sym (take-map t.leaf m ls)) (sym (drop-map t.leaf m ls))
    ∙ sym (joined_at (t.two j) e (map t.leaf ls) m (omega (arith, b.0)) (omega (arith, b.0, length-map ls t.leaf)))

pub balanced_depth : {L R J : Type 0} (j : J) (ls : List L) (x : Proof L R J) → IsBalanced j ls x →
    (halvings n : ℕ) → length ls ≤ n → TakesToOne halvings n → depth x ≤ halvings + 1
balanced_depth j ls (Leaf l) b h n within takes = omega arith
balanced_depth j ls (One' r p x) b h n within takes = absurd b
balanced_depth j ls (Two' k p x q y) b zero n within takes = absurd (omega (arith, b.0, takes))
balanced_depth j ls (Two' k p x q y) b (suc h) n within takes =
    let m : ℕ = length ls / 2 in
    let some : 1 < length ls = b.0 in
    let fst = balanced_depth j (take m ls) x b.2 h ((n + 1) / 2) (omega (arith, length-take-le m ls (omega arith))) takes.1 in
    let snd = balanced_depth j (drop m ls) y b.3 h ((n + 1) / 2) (omega (arith, length-drop m ls)) takes.1 in
    omega (arith, fst, snd)

halves : (fuel n : ℕ) → n ≤ fuel → 0 < n → (h : ℕ) × TakesToOne h n
halves zero n within some = absurd (omega arith)
halves (suc fuel) n within some = elim (cases_eq n 1) [
  | inl one ↦ (zero, one)
  | inr more ↦ (let rest = halves fuel ((n + 1) / 2) (omega arith) (omega arith) in (suc rest.0, (omega arith, rest.1)))
]

pub takes_to_one : (n : ℕ) → 0 < n → (h : ℕ) × TakesToOne h n
takes_to_one n some = halves n n (omega arith) some

pub balanced_halves : {L R J : Type 0} (j : J) (ls : List L) (x : Proof L R J) → IsBalanced j ls x → 0 < length ls →
    (h : ℕ) × (TakesToOne h (length ls) × (depth x ≤ h + 1))
balanced_halves j ls x b some =
    let h = takes_to_one (length ls) some in
    (h.0, (h.1, balanced_depth j ls x b h.0 (length ls) (omega arith) h.1))

-- a balanced proof has one node less than twice its leaves
pub balanced_size : {L R J : Type 0} (j : J) (ls : List L) (x : Proof L R J) → IsBalanced j ls x → node_count x + 1 ≡ 2 * length ls
balanced_size j ls (Leaf l) b = rw b refl
balanced_size j ls (One' r p x) b = absurd b
balanced_size j ls (Two' k p x q y) b =
    let m : ℕ = length ls / 2 in
    let fst = balanced_size j (take m ls) x b.2 in
    let snd = balanced_size j (drop m ls) y b.3 in
    omega (arith, fst, snd, length-take-le m ls (omega arith), length-drop m ls)
