-- Terms that come in turn.
use Rattle.std.proofs.Common.{ℕ, zero, suc, List, [], ◌∷◌, ◌++◌, ◌≡◌, ◌<◌, ◌≤◌, ◌+◌, ◌⊎◌, ◌||◌, Bool, true, false, length, slice_get, refl, ap, sym, ◌∙◌, subst, arith, inl, inr, append_assoc, true≢false}
use Rattle.std.proofs.lemmas.Bool.{false≢true}
use Rattle.std.specs.Prelude.{Some, max}
use Rattle.std.specs.List.{list_any}
use Rattle.rdf_terms.specs.declared.terms.Term.{Term}
use Rattle.rdf_terms.specs.declared.terms.Term.TheVariants.{Iri, Blank, Lit}
use Rattle.rdf_terms.specs.declared.terms.Triple.{Triple}
use Rattle.reading_laws.specs.Numbering.{Counts, Comes, behind, AreNumbered, terms, IsOnce}

pub record Within (c d : Counts) : Type 0 where
  pub iris : c.iris ≤ d.iris
  pub blanks : c.blanks ≤ d.blanks
  pub literals : c.literals ≤ d.literals

pub within_on : (c d e : Counts) → Within c d → Within d e → Within c e
within_on c d e g h = record { iris = omega (arith, g.iris, h.iris); blanks = omega (arith, g.blanks, h.blanks); literals = omega (arith, g.literals, h.literals) }

pub within_self : (c : Counts) → Within c c
within_self c = record { iris = omega arith; blanks = omega arith; literals = omega arith }

pub within_same : (c d : Counts) → c ≡ d → Within c d
within_same c d e = subst (Within c) e (within_self c)

-- a term that came
abbrev pub Known : Counts → Term → Type 0
Known c (Iri n) = n < c.iris
Known c (Blank n) = n < c.blanks
Known c (Lit n) = n < c.literals

abbrev pub AllKnown : Counts → List Term → Type 0
AllKnown c [] = Unit {0}
AllKnown c (t ∷ ts) = Known c t × AllKnown c ts

pub known_within : (c d : Counts) → Within c d → (t : Term) → Known c t → Known d t
known_within c d w (Iri n) h = omega (arith, w.iris, h)
known_within c d w (Blank n) h = omega (arith, w.blanks, h)
known_within c d w (Lit n) h = omega (arith, w.literals, h)

pub all_within : (c d : Counts) → Within c d → (ts : List Term) → AllKnown c ts → AllKnown d ts
all_within c d w [] h = tt
all_within c d w (t ∷ ts) h = (known_within c d w t h.0, all_within c d w ts h.1)

pub behind_within : (c : Counts) (t : Term) → Within c (behind c t)
behind_within c (Iri n) = record { iris = omega arith; blanks = omega arith; literals = omega arith }
behind_within c (Blank n) = record { iris = omega arith; blanks = omega arith; literals = omega arith }
behind_within c (Lit n) = record { iris = omega arith; blanks = omega arith; literals = omega arith }

pub behind_known : (c : Counts) (t : Term) → Known (behind c t) t
behind_known c (Iri n) = omega arith
behind_known c (Blank n) = omega arith
behind_known c (Lit n) = omega arith

pub known_comes : (c : Counts) (t : Term) → Known c t → Comes c t
known_comes c (Iri n) h = omega (arith, h)
known_comes c (Blank n) h = omega (arith, h)
known_comes c (Lit n) h = omega (arith, h)

pub known_behind : (c : Counts) (t : Term) → Known c t → behind c t ≡ c
known_behind c (Iri n) h = ap (λ x. record c { iris = x }) (let e : max c.iris (n + 1) ≡ c.iris = omega (arith, h) in e)
known_behind c (Blank n) h = ap (λ x. record c { blanks = x }) (let e : max c.blanks (n + 1) ≡ c.blanks = omega (arith, h) in e)
known_behind c (Lit n) h = ap (λ x. record c { literals = x }) (let e : max c.literals (n + 1) ≡ c.literals = omega (arith, h) in e)

pub numbered_within : (c : Counts) (ts : List Term) (d : Counts) → AreNumbered c ts d → Within c d
numbered_within c [] d h = within_same c d h
numbered_within c (t ∷ ts) d h = within_on c (behind c t) d (behind_within c t) (numbered_within (behind c t) ts d h.1)

pub numbered_known : (c : Counts) (ts : List Term) (d : Counts) → AreNumbered c ts d → AllKnown d ts
numbered_known c [] d h = tt
numbered_known c (t ∷ ts) d h = (known_within (behind c t) d (numbered_within (behind c t) ts d h.1) t (behind_known c t), numbered_known (behind c t) ts d h.1)

pub numbered_on : (c : Counts) (ts us : List Term) (d e : Counts) → AreNumbered c ts d → AreNumbered d us e → AreNumbered c (ts ++ us) e
numbered_on c [] us d e h k = subst (λ x. AreNumbered x us e) (sym h) k
numbered_on c (t ∷ ts) us d e h k = (h.0, numbered_on (behind c t) ts us d e h.1 k)

pub numbered_split : (c : Counts) (ts us : List Term) (e : Counts) → AreNumbered c (ts ++ us) e → (d : Counts) × AreNumbered c ts d × AreNumbered d us e
numbered_split c [] us e h = (c, refl, h)
numbered_split c (t ∷ ts) us e h = let r = numbered_split (behind c t) ts us e h.1 in (r.0, (h.0, r.1), r.2)

-- one more
pub numbered_push : (c : Counts) (ts ps : List Term) (t : Term) (d : Counts) → AreNumbered c (ts ++ ps) d → Comes d t → AreNumbered c (ts ++ (ps ++ t ∷ [])) (behind d t)
numbered_push c ts ps t d h k = subst (λ x. AreNumbered c x (behind d t)) (append_assoc ts ps (t ∷ [])) (numbered_on c (ts ++ ps) (t ∷ []) d (behind d t) h (k, refl))

-- terms that came come again
pub numbered_again : (d : Counts) (ts : List Term) → AllKnown d ts → AreNumbered d ts d
numbered_again d [] h = refl
numbered_again d (t ∷ ts) h = (known_comes d t h.0, subst (λ x. AreNumbered x ts d) (sym (known_behind d t h.0)) (numbered_again d ts h.1))

-- and change nothing
pub numbered_same : (d : Counts) (ts : List Term) (e : Counts) → AllKnown d ts → AreNumbered d ts e → d ≡ e
numbered_same d [] e k h = h
numbered_same d (t ∷ ts) e k h =
    let same = known_behind d t k.0 in
    numbered_same d ts e k.1 (subst (λ x. AreNumbered x ts e) same h.1)

pub terms_push : (ts : List Triple) (t : Triple) → terms (ts ++ t ∷ []) ≡ terms ts ++ t.s ∷ t.p ∷ t.o ∷ []
terms_push [] t = refl
terms_push (u ∷ ts) t = ap (λ x. u.s ∷ u.p ∷ u.o ∷ x) (terms_push ts t)

-- lists with nothing twice
record GotPush {X : Type 0} (xs : List X) (q : X) (n : ℕ) (v : X) : Type 0 where
  is : (slice_get xs n ≡ Some v) ⊎ ((n ≡ length xs) × (v ≡ q))

got_push : {X : Type 0} (xs : List X) (q : X) (n : ℕ) (v : X) → slice_get (xs ++ q ∷ []) n ≡ Some v → (slice_get xs n ≡ Some v) ⊎ ((n ≡ length xs) × (v ≡ q))
got_push [] q zero v h = inr (refl, cc h)
got_push [] q (suc n) v h = absurd (cc h)
got_push (x ∷ xs) q zero v h = inl h
got_push (x ∷ xs) q (suc n) v h = elim (got_push xs q n v h) [ inl g ↦ inl g | inr g ↦ inr (ap suc g.0, g.1) ]

or_true : (a b : Bool) → b ≡ true → (a || b) ≡ true
or_true true b h = refl
or_true false b h = h

any_there : {X : Type 0} (p : X → Bool) (xs : List X) (n : ℕ) (v : X) → slice_get xs n ≡ Some v → p v ≡ true → list_any p xs ≡ true
any_there p [] n v h k = absurd (cc h)
any_there p (x ∷ xs) zero v h k = by (p x) (ap p (let e : x ≡ v = cc h in e) ∙ k)
  where
    by : (b : Bool) → b ≡ true → (b || list_any p xs) ≡ true
    by true e = refl
    by false e = absurd (false≢true e)
any_there p (x ∷ xs) (suc n) v h k = or_true (p x) (list_any p xs) (any_there p xs n v h k)

pub once_none : {X : Type 0} → IsOnce {X = X} []
once_none m n x h k = absurd (cc h)

pub once_push : {X : Type 0} (e : X → X → Bool) → ((x : X) → e x x ≡ true) → (xs : List X) (q : X) → list_any (e q) xs ≡ false → IsOnce xs → IsOnce (xs ++ q ∷ [])
once_push {X} e self xs q new once m n x h k = by (got_push xs q m x h) (got_push xs q n x k)
  where
    never : (i : ℕ) → slice_get xs i ≡ Some x → x ≡ q → ⊥
    never i g f = true≢false (sym (any_there (e q) xs i q (g ∙ ap Some f) (self q)) ∙ new)

    by : (slice_get xs m ≡ Some x) ⊎ ((m ≡ length xs) × (x ≡ q)) → (slice_get xs n ≡ Some x) ⊎ ((n ≡ length xs) × (x ≡ q)) → m ≡ n
    by (inl a) (inl b) = once m n x a b
    by (inl a) (inr b) = absurd (never m a b.1)
    by (inr a) (inl b) = absurd (never n b a.1)
    by (inr a) (inr b) = a.0 ∙ sym b.0
