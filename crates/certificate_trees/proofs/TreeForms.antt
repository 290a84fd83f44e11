-- Trees as forms.
use Rattle.std.proofs.Common.{arith, ◌≡◌, ◌<◌, ◌+◌, ◌⊎◌, inl, inr, ℕ, Some, List, [], ◌∷◌, ◌++◌, refl, sym, ap, subst, ◌∙◌, append_assoc}
use Rattle.std.specs.Prelude.{slice_get}
use Rattle.std.proofs.lemmas.List.{append-nil}
use Rattle.certificate_trees.specs.Beginnings.{Then, Word, IsTooDeep, count, HeadIn, IsDigit, IsForm, AreLeaves}
use Rattle.certificate_trees.specs.TreeGrammar.{Shape, Tip, Weak, Both, spelled, HasLeaves, Tree, WeakRest, BothRest}
use Rattle.certificate_trees.proofs.Pieces.{byte_read}
use Rattle.certificate_trees.proofs.Cuts.{first_is, rest_is, count-append}
use Rattle.certificate_trees.proofs.Choices.{Leaves, leaves_first}

pub no_digit : (c : ℕ) → c < 48 → IsDigit c → ⊥
no_digit c small d = let low = d.0 in omega (arith, small, low)

abbrev Outcome : List ℕ → List ℕ → List ℕ → List ℕ → Type 0
Outcome p q b c = ((p ≡ q) × (b ≡ c)) ⊎ (HeadIn IsDigit b ⊎ HeadIn IsDigit c)

weak_outcome : (p q b c : List ℕ) → Outcome p q (41 ∷ b) (41 ∷ c) → Outcome (119 ∷ 40 ∷ (p ++ 41 ∷ [])) (119 ∷ 40 ∷ (q ++ 41 ∷ [])) b c
weak_outcome p q b c (inl s) = inl (ap (λ z. 119 ∷ 40 ∷ (z ++ 41 ∷ [])) s.0, rest_is 41 41 b c s.1)
weak_outcome p q b c (inr (inl d)) = absurd (no_digit 41 (omega arith) d)
weak_outcome p q b c (inr (inr d)) = absurd (no_digit 41 (omega arith) d)

second_outcome : (p q r s b c : List ℕ) → p ≡ q → Outcome r s (41 ∷ b) (41 ∷ c) →
    Outcome (106 ∷ 40 ∷ (p ++ 44 ∷ (r ++ 41 ∷ []))) (106 ∷ 40 ∷ (q ++ 44 ∷ (s ++ 41 ∷ []))) b c
second_outcome p q r s b c e (inl h) = inl (ap (λ z. 106 ∷ 40 ∷ (z ++ 44 ∷ (r ++ 41 ∷ []))) e ∙ ap (λ z. 106 ∷ 40 ∷ (q ++ 44 ∷ (z ++ 41 ∷ []))) h.0, rest_is 41 41 b c h.1)
second_outcome p q r s b c e (inr (inl d)) = absurd (no_digit 41 (omega arith) d)
second_outcome p q r s b c e (inr (inr d)) = absurd (no_digit 41 (omega arith) d)

behind_two : (x y : ℕ) (p q : List ℕ) → x ∷ y ∷ p ≡ x ∷ y ∷ q → p ≡ q
behind_two x y p q e = rest_is y y p q (rest_is x x (y ∷ p) (y ∷ q) e)

module _ (L : List ℕ → Type 0) (are : AreLeaves L) where
  -- no leaf begins as another node
  tip_apart : (w b r : List ℕ) (c : ℕ) → L w → w ++ b ≡ c ∷ r → (c ≡ 119) ⊎ (c ≡ 106) → ⊥
  tip_apart [] b r c l e h = are.some l
  tip_apart (x ∷ w) b r c l e (inl h) = (are.other x w l).0 (first_is x c (w ++ b) r e ∙ h)
  tip_apart (x ∷ w) b r c l e (inr h) = (are.other x w l).1 (first_is x c (w ++ b) r e ∙ h)

  shapes_settle : (x y : Shape) → HasLeaves L x → HasLeaves L y → (b c : List ℕ) → spelled x ++ b ≡ spelled y ++ c → Outcome (spelled x) (spelled y) b c
  shapes_settle (Tip v) (Tip w) l m b c e = are.form.settles v w b c l m e
  shapes_settle (Tip v) (Weak y) l m b c e = absurd (tip_apart v b ((40 ∷ (spelled y ++ 41 ∷ [])) ++ c) 119 l e (inl refl))
  shapes_settle (Tip v) (Both y z) l m b c e = absurd (tip_apart v b ((40 ∷ (spelled y ++ 44 ∷ (spelled z ++ 41 ∷ []))) ++ c) 106 l e (inr refl))
  shapes_settle (Weak x) (Tip w) l m b c e = absurd (tip_apart w c ((40 ∷ (spelled x ++ 41 ∷ [])) ++ b) 119 m (sym e) (inl refl))
  shapes_settle (Weak x) (Weak y) l m b c e =
      weak_outcome (spelled x) (spelled y) b c (shapes_settle x y l m (41 ∷ b) (41 ∷ c)
      (sym (append_assoc (spelled x) (41 ∷ []) b) ∙ behind_two 119 40 ((spelled x ++ 41 ∷ []) ++ b) ((spelled y ++ 41 ∷ []) ++ c) e ∙ append_assoc (spelled y) (41 ∷ []) c))
  shapes_settle (Weak x) (Both y z) l m b c e = absurd (omega (arith, first_is 119 106 ((40 ∷ (spelled x ++ 41 ∷ [])) ++ b) ((40 ∷ (spelled y ++ 44 ∷ (spelled z ++ 41 ∷ []))) ++ c) e))
  shapes_settle (Both x y) (Tip w) l m b c e = absurd (tip_apart w c ((40 ∷ (spelled x ++ 44 ∷ (spelled y ++ 41 ∷ []))) ++ b) 106 m (sym e) (inr refl))
  shapes_settle (Both x y) (Weak z) l m b c e = absurd (omega (arith, first_is 106 119 ((40 ∷ (spelled x ++ 44 ∷ (spelled y ++ 41 ∷ []))) ++ b) ((40 ∷ (spelled z ++ 41 ∷ [])) ++ c) e))
  shapes_settle (Both x y) (Both v w) l m b c e =
      by_first (shapes_settle y w l.1 m.1 (41 ∷ b) (41 ∷ c)) (shapes_settle x v l.0 m.0 (44 ∷ ((spelled y ++ 41 ∷ []) ++ b)) (44 ∷ ((spelled w ++ 41 ∷ []) ++ c))
      (sym (append_assoc (spelled x) (44 ∷ (spelled y ++ 41 ∷ [])) b)
      ∙ behind_two 106 40 ((spelled x ++ 44 ∷ (spelled y ++ 41 ∷ [])) ++ b) ((spelled v ++ 44 ∷ (spelled w ++ 41 ∷ [])) ++ c) e
      ∙ append_assoc (spelled v) (44 ∷ (spelled w ++ 41 ∷ [])) c))
    where
      by_first : (spelled y ++ 41 ∷ b ≡ spelled w ++ 41 ∷ c → Outcome (spelled y) (spelled w) (41 ∷ b) (41 ∷ c)) →
          Outcome (spelled x) (spelled v) (44 ∷ ((spelled y ++ 41 ∷ []) ++ b)) (44 ∷ ((spelled w ++ 41 ∷ []) ++ c)) →
          Outcome (spelled (Both x y)) (spelled (Both v w)) b c
      by_first second (inl s) = second_outcome (spelled x) (spelled v) (spelled y) (spelled w) b c s.0 (second
          (sym (append_assoc (spelled y) (41 ∷ []) b) ∙ rest_is 44 44 ((spelled y ++ 41 ∷ []) ++ b) ((spelled w ++ 41 ∷ []) ++ c) s.1 ∙ append_assoc (spelled w) (41 ∷ []) c))
      by_first second (inr (inl d)) = absurd (no_digit 44 (omega arith) d)
      by_first second (inr (inr d)) = absurd (no_digit 44 (omega arith) d)

  shape_closed : (x : Shape) → HasLeaves L x → count 40 (spelled x) ≡ count 41 (spelled x)
  shape_closed (Tip w) l = are.form.closed w l
  shape_closed (Weak x) l =
      let inner = shape_closed x l in
      omega (arith, inner, count-append 40 (spelled x) (41 ∷ []), count-append 41 (spelled x) (41 ∷ []))
  shape_closed (Both x y) l =
      let one = shape_closed x l.0 in
      let two = shape_closed y l.1 in
      omega (
        arith,
        one,
        two,
        count-append 40 (spelled x) (44 ∷ (spelled y ++ 41 ∷ [])),
        count-append 41 (spelled x) (44 ∷ (spelled y ++ 41 ∷ [])),
        count-append 40 (spelled y) (41 ∷ []),
        count-append 41 (spelled y) (41 ∷ []),
      )

  pub tree_form : IsForm (Tree L) IsDigit
  tree_form = record {
    live = (are.form.live.0, (Tip are.form.live.0, (are.form.live.1, refl)));
    settles = λ p q b c t u e. moved p q b c t u (shapes_settle t.0 u.0 t.1.0 u.1.0 b c (ap (λ z. z ++ b) (sym t.1.1) ∙ e ∙ ap (λ z. z ++ c) u.1.1));
    closed = λ p t. (let P : List ℕ → Type 0 = λ z. count 40 z ≡ count 41 z in subst P (sym t.1.1) (shape_closed t.0 t.1.0));
  }
    where
      moved : (p q b c : List ℕ) (t : Tree L p) (u : Tree L q) → Outcome (spelled t.0) (spelled u.0) b c → Outcome p q b c
      moved p q b c t u (inl s) = inl (t.1.1 ∙ s.0 ∙ sym u.1.1, s.1)
      moved p q b c t u (inr s) = inr s

  -- a leaf begins with another byte than `w` and `j`
  tip_leaves : (text : List ℕ) (at c : ℕ) → slice_get text at ≡ Some c → (c ≡ 119) ⊎ (c ≡ 106) → (w q : List ℕ) → L w → q ≡ w → Leaves text at 0 q
  tip_leaves text at c e kind [] q l h = absurd (are.some l)
  tip_leaves text at c e kind (x ∷ w) q l h = leaves_first text at 0 x w q ([], h ∙ sym (append-nil (x ∷ w))) (differs kind)
    where
      differs : (c ≡ 119) ⊎ (c ≡ 106) → slice_get text at ≡ Some x → ⊥
      differs (inl k) f = (let same : x ≡ c = cc (sym e ∙ f) in (are.other x w l).0 (same ∙ k))
      differs (inr k) f = (let same : x ≡ c = cc (sym e ∙ f) in (are.other x w l).1 (same ∙ k))

  weak_of : (q : List ℕ) (x : Shape) → HasLeaves L x → q ≡ spelled (Weak x) → Then (Word (119 ∷ [])) (WeakRest L) q
  weak_of q x l h = record {
    first = 119 ∷ [];
    second = 40 ∷ (spelled x ++ 41 ∷ []);
    split = h;
    one = refl;
    two = record {
      first = 40 ∷ [];
      second = spelled x ++ 41 ∷ [];
      split = refl;
      one = refl;
      two = record { first = spelled x; second = 41 ∷ []; split = refl; one = (x, (l, refl)); two = refl };
    };
  }

  both_of : (q : List ℕ) (x y : Shape) → HasLeaves L x → HasLeaves L y → q ≡ spelled (Both x y) → Then (Word (106 ∷ [])) (BothRest L) q
  both_of q x y l m h = record {
    first = 106 ∷ [];
    second = 40 ∷ (spelled x ++ 44 ∷ (spelled y ++ 41 ∷ []));
    split = h;
    one = refl;
    two = record {
      first = 40 ∷ [];
      second = spelled x ++ 44 ∷ (spelled y ++ 41 ∷ []);
      split = refl;
      one = refl;
      two = record {
        first = spelled x;
        second = 44 ∷ (spelled y ++ 41 ∷ []);
        split = refl;
        one = (x, (l, refl));
        two = record {
          first = 44 ∷ [];
          second = spelled y ++ 41 ∷ [];
          split = refl;
          one = refl;
          two = record { first = spelled y; second = 41 ∷ []; split = refl; one = (y, (m, refl)); two = refl };
        };
      };
    };
  }

  -- the kind of node is chosen by the first byte
  pub weak_or : (text : List ℕ) (at : ℕ) → slice_get text at ≡ Some 119 → (q : List ℕ) → Tree L q → Then (Word (119 ∷ [])) (WeakRest L) q ⊎ Leaves text at 0 q
  weak_or text at e q (Tip w, t) = inr (tip_leaves text at 119 e (inl refl) w q t.0 t.1)
  weak_or text at e q (Weak x, t) = inl (weak_of q x t.0 t.1)
  weak_or text at e q (Both x y, t) = inr (leaves_first text at 0 106 (40 ∷ []) q (spelled x ++ 44 ∷ (spelled y ++ 41 ∷ []), t.1)
      (λ f. (let same : ◌≡◌ {A = ℕ} 119 106 = cc (sym e ∙ f) in omega (arith, same))))

  pub both_or : (text : List ℕ) (at : ℕ) → slice_get text at ≡ Some 106 → (q : List ℕ) → Tree L q → Then (Word (106 ∷ [])) (BothRest L) q ⊎ Leaves text at 0 q
  both_or text at e q (Tip w, t) = inr (tip_leaves text at 106 e (inr refl) w q t.0 t.1)
  both_or text at e q (Weak x, t) = inr (leaves_first text at 0 119 (40 ∷ []) q (spelled x ++ 41 ∷ [], t.1)
      (λ f. (let same : ◌≡◌ {A = ℕ} 106 119 = cc (sym e ∙ f) in omega (arith, same))))
  both_or text at e q (Both x y, t) = inl (both_of q x y t.0.0 t.0.1 t.1)

  pub tip_or : (text : List ℕ) (at : ℕ) → (slice_get text at ≡ Some 119 → ⊥) → (slice_get text at ≡ Some 106 → ⊥) → (q : List ℕ) → Tree L q → L q ⊎ Leaves text at 0 q
  tip_or text at w j q (Tip v, t) = inl (subst L (sym t.1) t.0)
  tip_or text at w j q (Weak x, t) = inr (leaves_first text at 0 119 (40 ∷ []) q (spelled x ++ 41 ∷ [], t.1) w)
  tip_or text at w j q (Both x y, t) = inr (leaves_first text at 0 106 (40 ∷ []) q (spelled x ++ 44 ∷ (spelled y ++ 41 ∷ []), t.1) j)

  pub tip_tree : (q : List ℕ) → L q → Tree L q
  tip_tree q l = (Tip q, (l, refl))

  pub weak_tree : (q : List ℕ) → Then (Word (119 ∷ [])) (WeakRest L) q → Tree L q
  weak_tree q t =
      let x = t.two.two.one in (
        Weak x.0,
        (
          x.1.0,
          t.split ∙ ap (λ z. z ++ t.second) t.one ∙ ap (λ z. 119 ∷ z) (t.two.split ∙ ap (λ z. z ++ t.two.second) t.two.one
              ∙ ap (λ z. 40 ∷ z) (t.two.two.split ∙ ap (λ z. z ++ t.two.two.second) x.1.1 ∙ ap (λ z. spelled x.0 ++ z) t.two.two.two)),
        ),
      )

  pub both_tree : (q : List ℕ) → Then (Word (106 ∷ [])) (BothRest L) q → Tree L q
  both_tree q t =
      let u = t.two.two in
      let x = u.one in
      let v = u.two.two in
      let y = v.one in (
        Both x.0 y.0,
        (
          (x.1.0, y.1.0),
          t.split ∙ ap (λ z. z ++ t.second) t.one ∙ ap (λ z. 106 ∷ z) (t.two.split ∙ ap (λ z. z ++ t.two.second) t.two.one
              ∙ ap (λ z. 40 ∷ z) (u.split ∙ ap (λ z. z ++ u.second) x.1.1 ∙ ap (λ z. spelled x.0 ++ z) (u.two.split ∙ ap (λ z. z ++ u.two.second) u.two.one
              ∙ ap (λ z. 44 ∷ z) (v.split ∙ ap (λ z. z ++ v.second) y.1.1 ∙ ap (λ z. spelled y.0 ++ z) v.two)))),
        ),
      )

  -- a parenthesis where none may open
  pub weak_deep : (text : List ℕ) (at : ℕ) → slice_get text at ≡ Some 119 → slice_get text (at + 1) ≡ Some 40 → IsTooDeep (Tree L) 0 text at (at + 1)
  weak_deep text at e opens = record {
    piece = 119 ∷ [];
    read = byte_read text at 119 e;
    begins = (are.form.live.0 ++ 41 ∷ [], (Weak (Tip are.form.live.0), (are.form.live.1, refl)));
    opens = opens;
    stand = refl;
  }

  pub both_deep : (text : List ℕ) (at : ℕ) → slice_get text at ≡ Some 106 → slice_get text (at + 1) ≡ Some 40 → IsTooDeep (Tree L) 0 text at (at + 1)
  both_deep text at e opens =
      let w = are.form.live.0 in record {
        piece = 106 ∷ [];
        read = byte_read text at 106 e;
        begins = (w ++ 44 ∷ (w ++ 41 ∷ []), (Both (Tip w) (Tip w), ((are.form.live.1, are.form.live.1), refl)));
        opens = opens;
        stand = refl;
      }
