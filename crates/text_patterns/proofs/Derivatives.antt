-- A derivative takes exactly the rests of what the pattern takes.
use Rattle.std.proofs.Common.{ℕ, List, [], ◌∷◌, ◌++◌, ◌≡◌, refl, ap, sym, ◌∙◌, inl, inr, subst}
use Rattle.std.proofs.lemmas.Bool.{false≢true, and_parts, and_from, or_cases, or_left, or_right, cond-true, cond_both}
use Rattle.std.specs.Prelude.{true, cond, ◌⊎◌}
use Rattle.text_patterns.specs.Patterns.{within, Pattern, Each, joined, Matches}
use Rattle.text_patterns.specs.Patterns.Pattern.{Never, Nothing, One, Then, Either, Many}
use Rattle.text_patterns.specs.Derivatives.{is_never, is_nothing, then_of, either_of, nullable, derivative, after, is_shut}

never_matches : (p : Pattern) → is_never p ≡ true → (s : List ℕ) → Matches p s → ⊥
never_matches Never h s m = m
never_matches _ h s m = absurd (false≢true h)

nothing_is : (p : Pattern) → is_nothing p ≡ true → p ≡ Nothing
nothing_is Nothing h = refl
nothing_is _ h = absurd (false≢true h)

pub then_of-gives : (p q : Pattern) (s : List ℕ) → Matches (then_of p q) s → Matches (Then p q) s
then_of-gives p q s = cond_both (is_never p) Never (cond (is_nothing p) q (Then p q)) (λ x. Matches x s → Matches (Then p q) s)
    (λ e m. absurd m)
    (λ e. cond_both (is_nothing p) q (Then p q) (λ x. Matches x s → Matches (Then p q) s)
    (λ h m. ([], s, refl, subst (λ x. Matches x []) (sym (nothing_is p h)) refl, m))
    (λ h m. m))

pub then_of-takes : (p q : Pattern) (s : List ℕ) → Matches (Then p q) s → Matches (then_of p q) s
then_of-takes p q s m = cond_both (is_never p) Never (cond (is_nothing p) q (Then p q)) (λ x. Matches x s)
    (λ e. never_matches p e m.0 m.3)
    (λ e. cond_both (is_nothing p) q (Then p q) (λ x. Matches x s)
    (λ h. let first : m.0 ≡ [] = subst (λ x. Matches x m.0) (nothing_is p h) m.3 in
    subst (λ x. Matches q x) (sym (m.2 ∙ ap (λ x. x ++ m.1) first)) m.4)
    (λ h. m))

pub either_of-gives : (p q : Pattern) (s : List ℕ) → Matches (either_of p q) s → Matches p s ⊎ Matches q s
either_of-gives p q s = cond_both (is_never p) q (cond (is_never q) p (Either p q)) (λ x. Matches x s → Matches p s ⊎ Matches q s)
    (λ e m. inr m)
    (λ e. cond_both (is_never q) p (Either p q) (λ x. Matches x s → Matches p s ⊎ Matches q s) (λ h m. inl m) (λ h m. m))

pub either_of-takes : (p q : Pattern) (s : List ℕ) → Matches p s ⊎ Matches q s → Matches (either_of p q) s
either_of-takes p q s m = cond_both (is_never p) q (cond (is_never q) p (Either p q)) (λ x. Matches x s)
    (λ e. elim m [ inl y ↦ absurd (never_matches p e s y) | inr y ↦ y ])
    (λ e. cond_both (is_never q) p (Either p q) (λ x. Matches x s)
    (λ h. elim m [ inl y ↦ y | inr y ↦ absurd (never_matches q h s y) ])
    (λ h. m))

pub nullable-gives : (p : Pattern) → nullable p ≡ true → Matches p []
nullable-gives Never h = false≢true h
nullable-gives Nothing h = refl
nullable-gives (One rs) h = absurd (false≢true h)
nullable-gives (Then p q) h = let both = and_parts (nullable p) (nullable q) h in ([], [], refl, nullable-gives p both.0, nullable-gives q both.1)
nullable-gives (Either p q) h = elim (or_cases (nullable p) (nullable q) h) [ inl x ↦ inl (nullable-gives p x) | inr x ↦ inr (nullable-gives q x) ]
nullable-gives (Many p) h = ([], refl, tt)

nothing_left : (a b : List ℕ) → [] ≡ a ++ b → (a ≡ []) × (b ≡ [])
nothing_left [] b e = (refl, sym e)
nothing_left (x ∷ a) b e = absurd (cc)

pub nullable-takes : (p : Pattern) → Matches p [] → nullable p ≡ true
nullable-takes Never m = absurd m
nullable-takes Nothing m = refl
nullable-takes (One rs) m = absurd (cc m.1)
nullable-takes (Then p q) m = let both = nothing_left m.0 m.1 m.2 in
    and_from (nullable p) (nullable q) (nullable-takes p (subst (λ x. Matches p x) both.0 m.3)) (nullable-takes q (subst (λ x. Matches q x) both.1 m.4))
nullable-takes (Either p q) m = elim m [ inl x ↦ or_left (nullable p) (nullable q) (nullable-takes p x) | inr x ↦ or_right (nullable p) (nullable q) (nullable-takes q x) ]
nullable-takes (Many p) m = refl

pub derivative-gives : (p : Pattern) (c : ℕ) (s : List ℕ) → Matches (derivative p c) s → Matches p (c ∷ s)
derivative-gives Never c s m = m
derivative-gives Nothing c s m = absurd m
derivative-gives (One rs) c s m = (cond_both (within rs c) Nothing Never (λ x. Matches x s → Matches (One rs) (c ∷ s))
    (λ e h. (c, ap (λ x. c ∷ x) h, e)) (λ e h. absurd h)) m
derivative-gives (Then p q) c s m = elim (either_of-gives (then_of (derivative p c) q) (cond (nullable p) (derivative q c) Never) s m) [
  | inl x ↦ let y = then_of-gives (derivative p c) q s x in (c ∷ y.0, y.1, ap (λ z. c ∷ z) y.2, derivative-gives p c y.0 y.3, y.4)
  | inr x ↦ (cond_both (nullable p) (derivative q c) Never (λ z. Matches z s → Matches (Then p q) (c ∷ s))
      (λ e h. ([], c ∷ s, refl, nullable-gives p e, derivative-gives q c s h)) (λ e h. absurd h)) x
]
derivative-gives (Either p q) c s m = elim (either_of-gives (derivative p c) (derivative q c) s m) [ inl x ↦ inl (derivative-gives p c s x) | inr x ↦ inr (derivative-gives q c s x) ]
derivative-gives (Many p) c s m = let y = then_of-gives (derivative p c) (Many p) s m in
    ((c ∷ y.0) ∷ y.4.0, ap (λ z. c ∷ z) (y.2 ∙ ap (λ z. y.0 ++ z) y.4.1), (derivative-gives p c y.0 y.3, y.4.2))

head_is : (c d : ℕ) (s t : List ℕ) → c ∷ s ≡ d ∷ t → c ≡ d
head_is c d s t e = cc

tail_is : (c d : ℕ) (s t : List ℕ) → c ∷ s ≡ d ∷ t → s ≡ t
tail_is c d s t e = cc

then_takes : (p q : Pattern) (c : ℕ) (s a b : List ℕ) → ((x : List ℕ) → Matches p (c ∷ x) → Matches (derivative p c) x)
    → ((x : List ℕ) → Matches q (c ∷ x) → Matches (derivative q c) x) → c ∷ s ≡ a ++ b → Matches p a → Matches q b
    → Matches (then_of (derivative p c) q) s ⊎ Matches (cond (nullable p) (derivative q c) Never) s
then_takes p q c s [] b fp fq e mp mq = inr (subst (λ x. Matches x s) (sym (cond-true (nullable p) (derivative q c) Never (nullable-takes p mp))) (fq s (subst (λ x. Matches q x) (sym e) mq)))
then_takes p q c s (d ∷ a) b fp fq e mp mq = inl (then_of-takes (derivative p c) q s
    (a, b, tail_is c d s (a ++ b) e, fp a (subst (λ x. Matches p (x ∷ a)) (sym (head_is c d s (a ++ b) e)) mp), mq))

many_takes : (p : Pattern) (c : ℕ) (s : List ℕ) (parts : List (List ℕ)) → ((x : List ℕ) → Matches p (c ∷ x) → Matches (derivative p c) x)
    → c ∷ s ≡ joined parts → Each (Matches p) parts → Matches (Then (derivative p c) (Many p)) s
many_takes p c s [] fp e each = absurd (cc)
many_takes p c s ([] ∷ parts) fp e each = many_takes p c s parts fp e each.1
many_takes p c s ((d ∷ a) ∷ parts) fp e each =
    (a, joined parts, tail_is c d s (a ++ joined parts) e, fp a (subst (λ x. Matches p (x ∷ a)) (sym (head_is c d s (a ++ joined parts) e)) each.0), (parts, refl, each.1))

pub derivative-takes : (p : Pattern) (c : ℕ) (s : List ℕ) → Matches p (c ∷ s) → Matches (derivative p c) s
derivative-takes Never c s m = m
derivative-takes Nothing c s m = absurd (cc m)
derivative-takes (One rs) c s m = let t : within rs c ≡ true = subst (λ x. within rs x ≡ true) (sym (head_is c m.0 s [] m.1)) m.2 in
    subst (λ x. Matches x s) (sym (cond-true (within rs c) Nothing Never t)) (tail_is c m.0 s [] m.1)
derivative-takes (Then p q) c s m = either_of-takes (then_of (derivative p c) q) (cond (nullable p) (derivative q c) Never) s
    (then_takes p q c s m.0 m.1 (derivative-takes p c) (derivative-takes q c) m.2 m.3 m.4)
derivative-takes (Either p q) c s m = either_of-takes (derivative p c) (derivative q c) s (elim m [ inl x ↦ inl (derivative-takes p c s x) | inr x ↦ inr (derivative-takes q c s x) ])
derivative-takes (Many p) c s m = then_of-takes (derivative p c) (Many p) s (many_takes p c s m.0 (derivative-takes p c) m.1 m.2)

pub after-gives : (p : Pattern) (s t : List ℕ) → Matches (after p s) t → Matches p (s ++ t)
after-gives p [] t m = m
after-gives p (c ∷ s) t m = derivative-gives p c (s ++ t) (after-gives (derivative p c) s t m)

pub after-takes : (p : Pattern) (s t : List ℕ) → Matches p (s ++ t) → Matches (after p s) t
after-takes p [] t m = m
after-takes p (c ∷ s) t m = after-takes (derivative p c) s t (derivative-takes p c (s ++ t) m)

pub shut_ends : (p : Pattern) (s : List ℕ) → is_shut p ≡ true → Matches p s → s ≡ []
shut_ends Never s h m = absurd m
shut_ends Nothing s h m = m
shut_ends _ s h m = absurd (false≢true h)
