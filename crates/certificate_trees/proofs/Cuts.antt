-- How a text is cut into texts of forms.
use Rattle.std.proofs.Common.{arith, ◌≡◌, ◌+◌, ◌⊎◌, inl, inr, ℕ, List, [], ◌∷◌, ◌++◌, refl, sym, ap, subst, ◌∙◌, append_assoc}
use Rattle.std.proofs.lemmas.List.{append-nil}
use Rattle.certificate_trees.specs.Beginnings.{Then, Word, Either, Begins, count, HeadIn, NoByte, IsForm}

pub first_is : (c d : ℕ) (s t : List ℕ) → c ∷ s ≡ d ∷ t → c ≡ d
first_is c d s t e = cc e

pub rest_is : (c d : ℕ) (s t : List ℕ) → c ∷ s ≡ d ∷ t → s ≡ t
rest_is c d s t e = cc e

-- two cuts of one text
pub data Cut (a b c d : List ℕ) : Type 0 where
  Same : a ≡ c → b ≡ d → Cut a b c d
  Longer : (x : ℕ) (r : List ℕ) → c ≡ a ++ x ∷ r → b ≡ x ∷ (r ++ d) → Cut a b c d
  Shorter : (x : ℕ) (r : List ℕ) → a ≡ c ++ x ∷ r → d ≡ x ∷ (r ++ b) → Cut a b c d

grown : (x y : ℕ) (a b c d : List ℕ) → x ≡ y → Cut a b c d → Cut (x ∷ a) b (y ∷ c) d
grown x y a b c d e (Same p q) = Same (cc (e, p)) q
grown x y a b c d e (Longer z r p q) = Longer z r (cc (e, p)) q
grown x y a b c d e (Shorter z r p q) = Shorter z r (cc (e, p)) q

pub cut : (a b c d : List ℕ) → a ++ b ≡ c ++ d → Cut a b c d
cut [] b [] d e = Same refl e
cut [] b (x ∷ c) d e = Longer x c refl e
cut (x ∷ a) b [] d e = Shorter x a refl (sym e)
cut (x ∷ a) b (y ∷ c) d e = grown x y a b c d (first_is x y (a ++ b) (c ++ d) e) (cut a b c d (rest_is x y (a ++ b) (c ++ d) e))

-- a text of the form that goes on with the byte
pub begun : (T : List ℕ → Type 0) (p q r : List ℕ) (x : ℕ) → T q → q ≡ p ++ x ∷ r → Begins T (p ++ x ∷ [])
begun T p q r x t e = (r, subst T (e ∙ sym (append_assoc p (x ∷ []) r)) t)

-- the texts of the form are longer or shorter by such bytes only
abbrev pub Settles : (List ℕ → Type 0) → (ℕ → Type 0) → Type 0
Settles T D = (p q b c : List ℕ) → T p → T q → p ++ b ≡ q ++ c → ((p ≡ q) × (b ≡ c)) ⊎ (HeadIn D b ⊎ HeadIn D c)

pub longer_by : (T : List ℕ → Type 0) (D : ℕ → Type 0) → Settles T D → (p q r : List ℕ) (x : ℕ) → T p → T q → q ≡ p ++ x ∷ r → D x
longer_by T D f p q r x t u e = by_case (f p q (x ∷ r) [] t u (sym e ∙ sym (append-nil q)))
  where
    by_case : ((p ≡ q) × (x ∷ r ≡ [])) ⊎ (HeadIn D (x ∷ r) ⊎ HeadIn D []) → D x
    by_case (inl s) = absurd (cc s.1)
    by_case (inr (inl d)) = d
    by_case (inr (inr d)) = absurd d

-- whatever follows a text of the form, it begins with none of these bytes
abbrev pub Avoids : (ℕ → Type 0) → (List ℕ → Type 0) → Type 0
Avoids D U = (p r : List ℕ) → U p → HeadIn D (p ++ r) → ⊥

pub cut_same : (T U : List ℕ → Type 0) (D : ℕ → Type 0) → Settles T D → Avoids D U →
    (a b c u y : List ℕ) → T a → T c → U u → ((x : ℕ) (r : List ℕ) → b ≡ x ∷ r → Begins T (a ++ x ∷ []) → ⊥) →
    a ++ b ≡ c ++ (u ++ y) → (a ≡ c) × (b ≡ u ++ y)
cut_same T U D f avoids a b c u y ta tc uu stops e = by_case (cut a b c (u ++ y) e)
  where
    by_case : Cut a b c (u ++ y) → (a ≡ c) × (b ≡ u ++ y)
    by_case (Same p q) = (p, q)
    by_case (Longer x r p q) = absurd (stops x (r ++ (u ++ y)) q (begun T a c r x tc p))
    by_case (Shorter x r p q) = (let P : List ℕ → Type 0 = HeadIn D in
        absurd (avoids u y uu (subst P (sym q) (longer_by T D f c a r x tc ta p))))

pub count-append : (b : ℕ) (p q : List ℕ) → count b (p ++ q) ≡ count b p + count b q
count-append b [] q = omega arith
count-append b (c ∷ p) q = let rest = count-append b p q in omega (arith, rest)

pub count_more : (p q : List ℕ) (m n : ℕ) → count 40 p ≡ count 41 p + m → count 40 q ≡ count 41 q + n → count 40 (p ++ q) ≡ count 41 (p ++ q) + (m + n)
count_more p q m n e f = omega (arith, count-append 40 p q, count-append 41 p q, e, f)

pub count_both : (p q : List ℕ) → count 40 p ≡ count 41 p → count 40 q ≡ count 41 q → count 40 (p ++ q) ≡ count 41 (p ++ q)
count_both p q e f = omega (arith, count-append 40 p q, count-append 41 p q, e, f)

-- a form behind another
pub then_form : (T U : List ℕ → Type 0) (D E : ℕ → Type 0) → IsForm T D → IsForm U E → Avoids D U → IsForm (Then T U) E
then_form T U D E f g avoids = record {
  live = (f.live.0 ++ g.live.0, record { first = f.live.0; second = g.live.0; split = refl; one = f.live.1; two = g.live.1 });
  settles = λ p q b c t u e. both p q b c t u (f.settles t.first u.first (t.second ++ b) (u.second ++ c) t.one u.one
      (sym (append_assoc t.first t.second b) ∙ ap (λ z. z ++ b) (sym t.split) ∙ e ∙ ap (λ z. z ++ c) u.split ∙ append_assoc u.first u.second c));
  closed = λ p t. (let P : List ℕ → Type 0 = λ z. count 40 z ≡ count 41 z in
      subst P (sym t.split) (count_both t.first t.second (f.closed t.first t.one) (g.closed t.second t.two)));
}
  where
    later : (p q b c : List ℕ) (t : Then T U p) (u : Then T U q) → t.first ≡ u.first →
        ((t.second ≡ u.second) × (b ≡ c)) ⊎ (HeadIn E b ⊎ HeadIn E c) → ((p ≡ q) × (b ≡ c)) ⊎ (HeadIn E b ⊎ HeadIn E c)
    later p q b c t u e (inl s) = inl (t.split ∙ ap (λ z. z ++ t.second) e ∙ ap (λ z. u.first ++ z) s.0 ∙ sym u.split, s.1)
    later p q b c t u e (inr s) = inr s

    both : (p q b c : List ℕ) (t : Then T U p) (u : Then T U q) →
        ((t.first ≡ u.first) × (t.second ++ b ≡ u.second ++ c)) ⊎ (HeadIn D (t.second ++ b) ⊎ HeadIn D (u.second ++ c)) →
        ((p ≡ q) × (b ≡ c)) ⊎ (HeadIn E b ⊎ HeadIn E c)
    both p q b c t u (inl s) = later p q b c t u s.0 (g.settles t.second u.second b c t.two u.two s.1)
    both p q b c t u (inr (inl d)) = absurd (avoids t.second b t.two d)
    both p q b c t u (inr (inr d)) = absurd (avoids u.second c u.two d)

cancel : (w b c : List ℕ) → w ++ b ≡ w ++ c → b ≡ c
cancel [] b c e = e
cancel (x ∷ w) b c e = cancel w b c (rest_is x x (w ++ b) (w ++ c) e)

pub word_settles : (w : List ℕ) → Settles (Word w) NoByte
word_settles w p q b c t u e =
    let same : w ++ b ≡ w ++ c = ap (λ z. z ++ b) (sym t) ∙ e ∙ ap (λ z. z ++ c) u in
    inl (t ∙ sym u, cancel w b c same)

-- a word alone
pub word_form : (w : List ℕ) → count 40 w ≡ count 41 w → IsForm (Word w) NoByte
word_form w even = record {
  live = (w, refl);
  settles = word_settles w;
  closed = λ p t. (let P : List ℕ → Type 0 = λ z. count 40 z ≡ count 41 z in subst P (sym t) even);
}

pub no_head : (p : List ℕ) → HeadIn NoByte p → ⊥
no_head [] h = h
no_head (c ∷ p) h = h

pub none_avoided : (U : List ℕ → Type 0) → Avoids NoByte U
none_avoided U p r u h = no_head (p ++ r) h

-- behind a word anything may follow
pub behind_form : (w : List ℕ) (U : List ℕ → Type 0) (E : ℕ → Type 0) → count 40 w ≡ count 41 w → IsForm U E → IsForm (Then (Word w) U) E
behind_form w U E even g = then_form (Word w) U NoByte E (word_form w even) g (none_avoided U)

-- a word that begins with another byte
pub word_avoids : (D : ℕ → Type 0) (c : ℕ) (w : List ℕ) → (D c → ⊥) → Avoids D (Word (c ∷ w))
word_avoids D c w other p r u h = let P : List ℕ → Type 0 = λ z. HeadIn D (z ++ r) in other (subst P u h)

pub behind_avoids : (D : ℕ → Type 0) (c : ℕ) (w : List ℕ) (U : List ℕ → Type 0) → (D c → ⊥) → Avoids D (Then (Word (c ∷ w)) U)
behind_avoids D c w U other p r u h =
    let P : List ℕ → Type 0 = λ z. HeadIn D (z ++ r) in
    let Q : List ℕ → Type 0 = λ z. HeadIn D ((z ++ u.second) ++ r) in
    other (subst Q u.one (subst P u.split h))

-- no text begins with one of each
abbrev pub Apart : (List ℕ → Type 0) → (List ℕ → Type 0) → Type 0
Apart T U = (p q b c : List ℕ) → T p → U q → p ++ b ≡ q ++ c → ⊥

pub either_form : (T U : List ℕ → Type 0) (E : ℕ → Type 0) → IsForm T E → IsForm U E → Apart T U → IsForm (Either T U) E
either_form T U E f g apart = record {
  live = (f.live.0, inl f.live.1);
  settles = settles;
  closed = closed;
}
  where
    settles : (p q b c : List ℕ) → T p ⊎ U p → T q ⊎ U q → p ++ b ≡ q ++ c → ((p ≡ q) × (b ≡ c)) ⊎ (HeadIn E b ⊎ HeadIn E c)
    settles p q b c (inl t) (inl u) e = f.settles p q b c t u e
    settles p q b c (inr t) (inr u) e = g.settles p q b c t u e
    settles p q b c (inl t) (inr u) e = absurd (apart p q b c t u e)
    settles p q b c (inr t) (inl u) e = absurd (apart q p c b u t (sym e))

    closed : (p : List ℕ) → T p ⊎ U p → count 40 p ≡ count 41 p
    closed p (inl t) = f.closed p t
    closed p (inr u) = g.closed p u

-- the words differ at a byte that both have
abbrev pub Differ : List ℕ → List ℕ → Type 0
Differ [] w = ⊥
Differ (c ∷ v) [] = ⊥
Differ (c ∷ v) (d ∷ w) = (c ≡ d → ⊥) ⊎ Differ v w

words_apart : (v w b c : List ℕ) → Differ v w → v ++ b ≡ w ++ c → ⊥
words_apart [] w b c d e = d
words_apart (x ∷ v) [] b c d e = d
words_apart (x ∷ v) (y ∷ w) b c (inl d) e = d (first_is x y (v ++ b) (w ++ c) e)
words_apart (x ∷ v) (y ∷ w) b c (inr d) e = words_apart v w b c d (rest_is x y (v ++ b) (w ++ c) e)

-- the texts of a form begin with a word
abbrev pub Led : List ℕ → (List ℕ → Type 0) → Type 0
Led w T = (p : List ℕ) → T p → (r : List ℕ) × (p ≡ w ++ r)

pub word_led : (w : List ℕ) → Led w (Word w)
word_led w p t = ([], t ∙ sym (append-nil w))

pub behind_led : (w : List ℕ) (U : List ℕ → Type 0) → Led w (Then (Word w) U)
behind_led w U p t = (t.second, t.split ∙ ap (λ z. z ++ t.second) t.one)

pub led_apart : (v w : List ℕ) (T U : List ℕ → Type 0) → Led v T → Led w U → Differ v w → Apart T U
led_apart v w T U lt lu d p q b c t u e =
    let l = lt p t in
    let k = lu q u in
    words_apart v w (l.0 ++ b) (k.0 ++ c) d
    (sym (append_assoc v l.0 b) ∙ ap (λ z. z ++ b) (sym l.1) ∙ e ∙ ap (λ z. z ++ c) k.1 ∙ append_assoc w k.0 c)

pub apart_both : (T U V : List ℕ → Type 0) → Apart T U → Apart T V → Apart T (Either U V)
apart_both T U V f g p q b c t (inl u) e = f p q b c t u e
apart_both T U V f g p q b c t (inr u) e = g p q b c t u e
