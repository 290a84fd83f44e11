-- How what is read and what is refused add up.
use Rattle.std.proofs.Common.{arith, ◌≡◌, ◌+◌, ℕ, Option, Some, None, List, [], ◌∷◌, ◌++◌, drop, refl, sym, ap, subst, ◌∙◌, append_assoc}
use Rattle.std.specs.Prelude.{slice_get}
use Rattle.std.proofs.lemmas.List.{append-nil}
use Rattle.certificate_trees.specs.declared.refusals.CertRefusal.{CertRefusal}
use Rattle.certificate_trees.specs.declared.refusals.CertRefusal.TheVariants.{K1, K2, K3, K4, K5, K6, Memory}
use Rattle.certificate_trees.specs.Reads.{IsRead}
use Rattle.certificate_trees.specs.Beginnings.{Then, Word, Begins, IsWhole, IsStopped, IsTooDeep, IsRefused, count, NoByte, IsForm}
use Rattle.certificate_trees.proofs.Pieces.{then_read, next_is, item_of_rest}
use Rattle.certificate_trees.proofs.Cuts.{Cut, Same, Longer, Shorter, cut, cut_same, Settles, Avoids, count_more, word_settles, word_form, none_avoided}

-- the first byte of what stands at a place
head_stands : (text : List ℕ) (mid k : ℕ) (q rest r : List ℕ) (c x : ℕ) → IsRead text mid k q → slice_get text k ≡ Some c → q ++ c ∷ rest ≡ x ∷ r → slice_get text mid ≡ Some x
head_stands text mid k [] rest r c x read e h =
    let same : c ≡ x = cc h in
    item_of_rest text mid x (drop (k + 1) text) (read.spelled ∙ next_is text k c e ∙ ap (λ z. z ∷ drop (k + 1) text) same)
head_stands text mid k (y ∷ q) rest r c x read e h =
    let same : y ≡ x = cc h in
    item_of_rest text mid x (q ++ drop k text) (read.spelled ∙ ap (λ z. z ∷ (q ++ drop k text)) same)

head_of_piece : (text : List ℕ) (mid k : ℕ) (q r : List ℕ) (x : ℕ) → IsRead text mid k q → q ≡ x ∷ r → slice_get text mid ≡ Some x
head_of_piece text mid k q r x read e = item_of_rest text mid x (r ++ drop k text) (read.spelled ∙ ap (λ z. z ++ drop k text) e)

pub no_tail : (y x : ℕ) (s r : List ℕ) (c : ℕ) → c ∷ [] ≡ y ∷ (s ++ x ∷ r) → ⊥
no_tail y x [] r c e = absurd (cc e)
no_tail y x (z ∷ s) r c e = absurd (cc e)

-- where something is cut off from a text and a byte, it is cut off from the text
front : (p f r : List ℕ) (c x : ℕ) → p ++ c ∷ [] ≡ f ++ x ∷ r → (q : List ℕ) × (p ≡ f ++ q)
front p f r c x e = by_case (cut p (c ∷ []) f (x ∷ r) e)
  where
    by_case : Cut p (c ∷ []) f (x ∷ r) → (q : List ℕ) × (p ≡ f ++ q)
    by_case (Same a b) = ([], a ∙ sym (append-nil f))
    by_case (Longer y s a b) = absurd (no_tail y x s r c b)
    by_case (Shorter y s a b) = (y ∷ s, a)

pub first_stopped : (T U : List ℕ → Type 0) (text : List ℕ) (at k : ℕ) → Begins U [] → IsStopped T text at k → IsStopped (Then T U) text at k
first_stopped T U text at k live st = record {
  piece = st.piece;
  read = st.read;
  begins = (
    st.begins.0 ++ live.0,
    record {
      first = st.piece ++ st.begins.0;
      second = live.0;
      split = sym (append_assoc st.piece st.begins.0 live.0);
      one = st.begins.1;
      two = live.1;
    },
  );
  unfinished = λ p q e t. st.unfinished t.first (t.second ++ q) (e ∙ ap (λ z. z ++ q) t.split ∙ append_assoc t.first t.second q) t.one;
  further = λ c e b. on_from c e b.0 b.1 (cut (st.piece ++ c ∷ []) b.0 b.1.first b.1.second b.1.split);
}
  where
    on_from : (c : ℕ) → slice_get text k ≡ Some c → (rest : List ℕ) (t : Then T U ((st.piece ++ c ∷ []) ++ rest)) →
        Cut (st.piece ++ c ∷ []) rest t.first t.second → ⊥
    on_from c e rest t (Same a b) = st.further c e ([], subst T (sym a ∙ sym (append-nil (st.piece ++ c ∷ []))) t.one)
    on_from c e rest t (Longer x r a b) = st.further c e (x ∷ r, subst T a t.one)
    on_from c e rest t (Shorter x r a b) = (let f = front st.piece t.first r c x a in st.unfinished t.first f.0 f.1 t.one)

first_deep : (T U : List ℕ → Type 0) (depth : ℕ) (text : List ℕ) (at k : ℕ) → Begins U [] → IsTooDeep T depth text at k → IsTooDeep (Then T U) depth text at k
first_deep T U depth text at k live d = record {
  piece = d.piece;
  read = d.read;
  begins = (
    d.begins.0 ++ live.0,
    record {
      first = (d.piece ++ 40 ∷ []) ++ d.begins.0;
      second = live.0;
      split = sym (append_assoc (d.piece ++ 40 ∷ []) d.begins.0 live.0);
      one = d.begins.1;
      two = live.1;
    },
  );
  opens = d.opens;
  stand = d.stand;
}

-- nothing is read behind a form that is refused
pub first_refused : (T U : List ℕ → Type 0) (depth : Option ℕ) (text : List ℕ) (at : ℕ) (e : CertRefusal) → Begins U [] → IsRefused T depth text at e → IsRefused (Then T U) depth text at e
first_refused T U depth text at (K1 k) live h = first_stopped T U text at k live h
first_refused T U None text at (K2 k) live h = h
first_refused T U (Some depth) text at (K2 k) live h = first_deep T U depth text at k live h
first_refused T U depth text at (K3 k) live h = h
first_refused T U depth text at (K4 k) live h = h
first_refused T U depth text at (K5 k) live h = h
first_refused T U depth text at (K6 k) live h = h
first_refused T U depth text at Memory live h = h

-- a form without parentheses is refused at any depth
pub any_depth : (T : List ℕ → Type 0) (depth : Option ℕ) (text : List ℕ) (at : ℕ) (e : CertRefusal) → IsRefused T None text at e → IsRefused T depth text at e
any_depth T depth text at (K1 k) h = h
any_depth T None text at (K2 k) h = h
any_depth T (Some depth) text at (K2 k) h = absurd h
any_depth T depth text at (K3 k) h = h
any_depth T depth text at (K4 k) h = h
any_depth T depth text at (K5 k) h = h
any_depth T depth text at (K6 k) h = h
any_depth T depth text at Memory h = h

module _ (T U : List ℕ → Type 0) (D : ℕ → Type 0) (f : Settles T D) (avoids : Avoids D U) (text : List ℕ) (at mid : ℕ) (w : IsWhole T text at mid) where
  -- the text goes on behind the form
  goes_on : (k : ℕ) (q rest : List ℕ) (c : ℕ) → IsRead text mid k q → slice_get text k ≡ Some c → (x : ℕ) (r : List ℕ) → q ++ c ∷ rest ≡ x ∷ r → Begins T (w.piece ++ x ∷ []) → ⊥
  goes_on k q rest c read e x r h b = w.further x (head_stands text mid k q rest r c x read e h) b

  begins_behind : (q : List ℕ) → Begins U q → Begins (Then T U) (w.piece ++ q)
  begins_behind q b = (b.0, record { first = w.piece; second = q ++ b.0; split = append_assoc w.piece q b.0; one = w.whole; two = b.1 })

  further_behind : (k : ℕ) (q : List ℕ) → IsRead text mid k q → ((c : ℕ) → slice_get text k ≡ Some c → Begins U (q ++ c ∷ []) → ⊥) →
      (c : ℕ) → slice_get text k ≡ Some c → Begins (Then T U) ((w.piece ++ q) ++ c ∷ []) → ⊥
  further_behind k q read further c e b =
      let t = b.1 in
      let same = cut_same T U D f avoids w.piece (q ++ c ∷ b.0) t.first t.second [] w.whole t.one t.two (goes_on k q b.0 c read e)
      (ap (λ z. w.piece ++ z) (sym (append_assoc q (c ∷ []) b.0)) ∙ sym (append_assoc w.piece (q ++ c ∷ []) b.0) ∙ ap (λ z. z ++ b.0) (sym (append_assoc w.piece q (c ∷ []))) ∙ t.split ∙ ap (λ z. t.first ++ z) (sym (append-nil t.second))) in
      further c e (b.0, subst U (sym (append-nil t.second) ∙ sym same.1 ∙ sym (append_assoc q (c ∷ []) b.0)) t.two)

  pub both_whole : (to : ℕ) → IsWhole U text mid to → IsWhole (Then T U) text at to
  both_whole to v = record {
    piece = w.piece ++ v.piece;
    read = then_read text at mid to w.piece v.piece w.read v.read;
    whole = record { first = w.piece; second = v.piece; split = refl; one = w.whole; two = v.whole };
    further = further_behind to v.piece v.read v.further;
  }

  later_stopped : (k : ℕ) → IsStopped U text mid k → IsStopped (Then T U) text at k
  later_stopped k st = record {
    piece = w.piece ++ st.piece;
    read = then_read text at mid k w.piece st.piece w.read st.read;
    begins = begins_behind st.piece st.begins;
    unfinished = λ p q e t. (let same = cut_same T U D f avoids w.piece st.piece t.first t.second q w.whole t.one t.two
        (λ x r h. w.further x (head_of_piece text mid k st.piece r x st.read h))
        (e ∙ ap (λ z. z ++ q) t.split ∙ append_assoc t.first t.second q) in
        st.unfinished t.second q same.1 t.two);
    further = further_behind k st.piece st.read st.further;
  }

  -- the form leaves so many parentheses open
  later_deep : (n depth k : ℕ) → ((p : List ℕ) → T p → count 40 p ≡ count 41 p + n) → IsTooDeep U depth text mid k → IsTooDeep (Then T U) (n + depth) text at k
  later_deep n depth k opened d = record {
    piece = w.piece ++ d.piece;
    read = then_read text at mid k w.piece d.piece w.read d.read;
    begins = (let P : List ℕ → Type 0 = Begins (Then T U) in subst P (sym (append_assoc w.piece d.piece (40 ∷ []))) (begins_behind (d.piece ++ 40 ∷ []) d.begins));
    opens = d.opens;
    stand = count_more w.piece d.piece n depth (opened w.piece w.whole) d.stand;
  }

  -- what stands behind the form is refused
  pub later_inside : (n depth : ℕ) (e : CertRefusal) → ((p : List ℕ) → T p → count 40 p ≡ count 41 p + n) → IsRefused U (Some depth) text mid e →
      IsRefused (Then T U) (Some (n + depth)) text at e
  later_inside n depth (K1 k) opened h = later_stopped k h
  later_inside n depth (K2 k) opened h = later_deep n depth k opened h
  later_inside n depth (K3 k) opened h = h
  later_inside n depth (K4 k) opened h = h
  later_inside n depth (K5 k) opened h = h
  later_inside n depth (K6 k) opened h = h
  later_inside n depth Memory opened h = h

  pub later_refused : (depth : Option ℕ) (e : CertRefusal) → ((p : List ℕ) → T p → count 40 p ≡ count 41 p) → IsRefused U depth text mid e →
      IsRefused (Then T U) depth text at e
  later_refused depth (K1 k) closed h = later_stopped k h
  later_refused None (K2 k) closed h = h
  later_refused (Some depth) (K2 k) closed h =
      let P : ℕ → Type 0 = λ n. IsTooDeep (Then T U) n text at k in
      let same : 0 + depth ≡ depth = omega arith in
      subst P same (later_deep 0 depth k (λ p t. (let even = closed p t in omega (arith, even))) h)
  later_refused depth (K3 k) closed h = h
  later_refused depth (K4 k) closed h = h
  later_refused depth (K5 k) closed h = h
  later_refused depth (K6 k) closed h = h
  later_refused depth Memory closed h = h

-- the same behind a form that closes each parenthesis, and behind a word without any
pub behind : (T U : List ℕ → Type 0) (D : ℕ → Type 0) → IsForm T D → Avoids D U → (text : List ℕ) (at mid : ℕ) → IsWhole T text at mid →
    (depth : Option ℕ) (e : CertRefusal) → IsRefused U depth text mid e → IsRefused (Then T U) depth text at e
behind T U D f avoids text at mid w depth e h = later_refused T U D f.settles avoids text at mid w depth e f.closed h

pub behind_word : (v : List ℕ) (U : List ℕ → Type 0) → count 40 v ≡ count 41 v → (text : List ℕ) (at mid : ℕ) → IsWhole (Word v) text at mid →
    (depth : Option ℕ) (e : CertRefusal) → IsRefused U depth text mid e → IsRefused (Then (Word v) U) depth text at e
behind_word v U even text at mid w depth e h = behind (Word v) U NoByte (word_form v even) (none_avoided U) text at mid w depth e h

pub whole_behind : (T U : List ℕ → Type 0) (D : ℕ → Type 0) → IsForm T D → Avoids D U → (text : List ℕ) (at mid to : ℕ) → IsWhole T text at mid → IsWhole U text mid to →
    IsWhole (Then T U) text at to
whole_behind T U D f avoids text at mid to w v = both_whole T U D f.settles avoids text at mid w to v

pub whole_behind_word : (v : List ℕ) (U : List ℕ → Type 0) → (text : List ℕ) (at mid to : ℕ) → IsWhole (Word v) text at mid → IsWhole U text mid to →
    IsWhole (Then (Word v) U) text at to
whole_behind_word v U text at mid to w u = both_whole (Word v) U NoByte (word_settles v) (none_avoided U) text at mid w to u

-- the same where no depth counts, behind any word
pub behind_plain : (v : List ℕ) (U : List ℕ → Type 0) (text : List ℕ) (at mid : ℕ) → IsWhole (Word v) text at mid → (e : CertRefusal) → IsRefused U None text mid e →
    IsRefused (Then (Word v) U) None text at e
behind_plain v U text at mid w (K1 k) h = later_stopped (Word v) U NoByte (word_settles v) (none_avoided U) text at mid w k h
behind_plain v U text at mid w (K2 k) h = h
behind_plain v U text at mid w (K3 k) h = h
behind_plain v U text at mid w (K4 k) h = h
behind_plain v U text at mid w (K5 k) h = h
behind_plain v U text at mid w (K6 k) h = h
behind_plain v U text at mid w Memory h = h
