-- A form that is chosen by the bytes that stand at a place.
use Rattle.std.proofs.Common.{arith, zero, suc, ◌≡◌, ◌<◌, ◌≤◌, ◌+◌, ◌⊎◌, inl, inr, ℕ, Option, Some, None, List, [], ◌∷◌, ◌++◌, length, drop, refl, sym, ap, subst, ◌∙◌, append_assoc, length-append, length-drop}
use Rattle.std.specs.Prelude.{slice_get}
use Rattle.certificate_trees.specs.declared.refusals.CertRefusal.{CertRefusal}
use Rattle.certificate_trees.specs.declared.refusals.CertRefusal.TheVariants.{K1, K2, K3, K4, K5, K6, Memory}
use Rattle.certificate_trees.specs.Reads.{IsRead}
use Rattle.certificate_trees.specs.Beginnings.{Begins, IsWhole, IsStopped, IsTooDeep, IsRefused}
use Rattle.certificate_trees.proofs.Pieces.{then_read, byte_read, item_of_rest}
use Rattle.certificate_trees.proofs.Cuts.{Cut, Same, Longer, Shorter, cut}

get_drop : (text : List ℕ) (at i k : ℕ) → k ≡ at + i → slice_get text k ≡ slice_get (drop at text) i
get_drop [] zero i k e = refl
get_drop [] (suc at) i k e = refl
get_drop (x ∷ text) zero i k e = let same : k ≡ i = omega (arith, e) in ap (λ z. slice_get (x ∷ text) z) same
get_drop (x ∷ text) (suc at) i zero e = absurd (omega (arith, e))
get_drop (x ∷ text) (suc at) i (suc k) e = get_drop text at i k (omega (arith, e))

get_append : (p t : List ℕ) (i : ℕ) → i < length p → slice_get (p ++ t) i ≡ slice_get p i
get_append [] t i h = absurd (omega (arith, h))
get_append (x ∷ p) t zero h = refl
get_append (x ∷ p) t (suc i) h = get_append p t i (omega (arith, h))

-- a piece has the bytes of the text
pub agrees : (text : List ℕ) (at k : ℕ) (p : List ℕ) (i : ℕ) → IsRead text at k p → i < length p → slice_get text (at + i) ≡ slice_get p i
agrees text at k p i read h = get_drop text at i (at + i) refl ∙ ap (λ z. slice_get z i) read.spelled ∙ get_append p (drop k text) i h

ends_at : (text : List ℕ) (at k : ℕ) (p : List ℕ) → IsRead text at k p → k ≡ at + length p
ends_at text at k p read = omega (arith, read.onward, read.within, ap (λ z. length z) read.spelled, length-append p (drop k text), length-drop at text, length-drop k text)

-- one of the first bytes, up to the one at n, isn't that of the text
abbrev pub Leaves : List ℕ → ℕ → ℕ → List ℕ → Type 0
Leaves text at n q = (i : ℕ) × ((i ≤ n) × ((i < length q) × (slice_get text (at + i) ≡ slice_get q i → ⊥)))

pub leaves_more : (text : List ℕ) (at n : ℕ) (p t q : List ℕ) → q ≡ p ++ t → Leaves text at n p → Leaves text at n q
leaves_more text at n p t q e l =
    let P : List ℕ → Type 0 = Leaves text at n in
    let within = l.1.1.0 in
    let size = length-append p t in
    subst P (sym e) (l.0, (l.1.0, (omega (arith, within, size), λ f. l.1.1.1 (f ∙ get_append p t l.0 within))))

module _ (F G : List ℕ → Type 0) (text : List ℕ) (at n : ℕ) (each : (q : List ℕ) → F q → G q ⊎ Leaves text at n q) (from : (q : List ℕ) → G q → F q) where
  not_further : (k : ℕ) (p : List ℕ) → n ≤ length p → IsRead text at k p → ((c : ℕ) → slice_get text k ≡ Some c → Begins G (p ++ c ∷ []) → ⊥) →
      (c : ℕ) → slice_get text k ≡ Some c → Begins F (p ++ c ∷ []) → ⊥
  not_further k p long read further c e b = by_case (each ((p ++ c ∷ []) ++ b.0) b.1)
    where
      by_case : G ((p ++ c ∷ []) ++ b.0) ⊎ Leaves text at n ((p ++ c ∷ []) ++ b.0) → ⊥
      by_case (inl g) = further c e (b.0, g)
      by_case (inr l) =
          let size : length (p ++ c ∷ []) ≡ length p + 1 = length-append p (c ∷ []) in
          let low = l.1.0 in
          let short : l.0 < length (p ++ c ∷ []) = omega (arith, size, low, long) in
          l.1.1.1 (agrees text at (k + 1) (p ++ c ∷ []) l.0 (then_read text at k (k + 1) p (c ∷ []) read (byte_read text k c e)) short
          ∙ sym (get_append (p ++ c ∷ []) b.0 l.0 short))

  chosen_whole : (to : ℕ) (w : IsWhole G text at to) → n ≤ length w.piece → IsWhole F text at to
  chosen_whole to w long = record {
    piece = w.piece;
    read = w.read;
    whole = from w.piece w.whole;
    further = not_further to w.piece long w.read w.further;
  }

  chosen_stopped : (k : ℕ) (st : IsStopped G text at k) → n ≤ length st.piece → IsStopped F text at k
  chosen_stopped k st long = record {
    piece = st.piece;
    read = st.read;
    begins = (st.begins.0, from (st.piece ++ st.begins.0) st.begins.1);
    unfinished = λ p q e t. by_case p q e (each p t);
    further = not_further k st.piece long st.read st.further;
  }
    where
      by_case : (p q : List ℕ) → st.piece ≡ p ++ q → G p ⊎ Leaves text at n p → ⊥
      by_case p q e (inl g) = st.unfinished p q e g
      by_case p q e (inr l) =
          let size : length st.piece ≡ length p + length q = ap (λ z. length z) e ∙ length-append p q in
          let within = l.1.1.0 in
          l.1.1.1 (agrees text at k st.piece l.0 st.read (omega (arith, size, within)) ∙ ap (λ z. slice_get z l.0) e ∙ get_append p q l.0 within)

  chosen_deep : (depth k : ℕ) → IsTooDeep G depth text at k → IsTooDeep F depth text at k
  chosen_deep depth k d = record {
    piece = d.piece;
    read = d.read;
    begins = (d.begins.0, from ((d.piece ++ 40 ∷ []) ++ d.begins.0) d.begins.1);
    opens = d.opens;
    stand = d.stand;
  }

  -- the choice is made by no byte or by the first; what was chosen begins with those before
  chosen_by : (depth : Option ℕ) (e : CertRefusal) → ((k : ℕ) (st : IsStopped G text at k) → n ≤ length st.piece) → IsRefused G depth text at e → IsRefused F depth text at e
  chosen_by depth (K1 k) long h = chosen_stopped k h (long k h)
  chosen_by None (K2 k) long h = h
  chosen_by (Some depth) (K2 k) long h = chosen_deep depth k h
  chosen_by depth (K3 k) long h = h
  chosen_by depth (K4 k) long h = h
  chosen_by depth (K5 k) long h = h
  chosen_by depth (K6 k) long h = h
  chosen_by depth Memory long h = h

-- where a byte stands with which the form begins, its texts go on
goes_past : (G : List ℕ → Type 0) (text : List ℕ) (at k c : ℕ) (p : List ℕ) → slice_get text at ≡ Some c → Begins G (c ∷ []) → IsRead text at k p →
    ((c : ℕ) → slice_get text k ≡ Some c → Begins G (p ++ c ∷ []) → ⊥) → 1 ≤ length p
goes_past G text at k c [] e b read further =
    let same : k ≡ at = omega (arith, ends_at text at k [] read) in
    absurd (further c (ap (λ z. slice_get text z) same ∙ e) b)
goes_past G text at k c (x ∷ p) e b read further = omega arith

-- the form is chosen by the first byte
pub first_whole : (F G : List ℕ → Type 0) (text : List ℕ) (at : ℕ) → ((q : List ℕ) → F q → G q ⊎ Leaves text at 0 q) → ((q : List ℕ) → G q → F q) →
    (to : ℕ) → IsWhole G text at to → IsWhole F text at to
first_whole F G text at each from to w = chosen_whole F G text at 0 each from to w (omega arith)

pub first_chosen : (F G : List ℕ → Type 0) (text : List ℕ) (at : ℕ) → ((q : List ℕ) → F q → G q ⊎ Leaves text at 0 q) → ((q : List ℕ) → G q → F q) →
    (depth : Option ℕ) (e : CertRefusal) → IsRefused G depth text at e → IsRefused F depth text at e
first_chosen F G text at each from depth e h = chosen_by F G text at 0 each from depth e (λ k st. omega arith) h

-- the form is chosen by the second byte
pub second_whole : (F G : List ℕ → Type 0) (text : List ℕ) (at c : ℕ) → slice_get text at ≡ Some c → Begins G (c ∷ []) →
    ((q : List ℕ) → F q → G q ⊎ Leaves text at 1 q) → ((q : List ℕ) → G q → F q) → (to : ℕ) → IsWhole G text at to → IsWhole F text at to
second_whole F G text at c e b each from to w = chosen_whole F G text at 1 each from to w (goes_past G text at to c w.piece e b w.read w.further)

pub second_chosen : (F G : List ℕ → Type 0) (text : List ℕ) (at c : ℕ) → slice_get text at ≡ Some c → Begins G (c ∷ []) →
    ((q : List ℕ) → F q → G q ⊎ Leaves text at 1 q) → ((q : List ℕ) → G q → F q) →
    (depth : Option ℕ) (r : CertRefusal) → IsRefused G depth text at r → IsRefused F depth text at r
second_chosen F G text at c e b each from depth r h =
    chosen_by F G text at 1 each from depth r (λ k st. goes_past G text at k c st.piece e b st.read st.further) h

-- texts that begin with another byte, at one of the first two places
pub leaves_first : (text : List ℕ) (at n c : ℕ) (w q : List ℕ) → ((r : List ℕ) × (q ≡ (c ∷ w) ++ r)) → (slice_get text at ≡ Some c → ⊥) → Leaves text at n q
leaves_first text at n c w q led other =
    let P : List ℕ → Type 0 = Leaves text at n in
    let same : at + 0 ≡ at = omega arith in
    subst P (sym led.1) (0, (omega arith, (omega arith, λ e. other (ap (λ z. slice_get text z) (sym same) ∙ e))))

pub leaves_second : (text : List ℕ) (at c d : ℕ) (w q : List ℕ) → ((r : List ℕ) × (q ≡ (c ∷ d ∷ w) ++ r)) → (slice_get text (at + 1) ≡ Some d → ⊥) → Leaves text at 1 q
leaves_second text at c d w q led other =
    let P : List ℕ → Type 0 = Leaves text at 1 in
    subst P (sym led.1) (1, (omega arith, (omega arith, other)))

-- where a word stands with which the form begins, its texts go on behind it
goes_past_word : (G : List ℕ → Type 0) (text : List ℕ) (at mid k : ℕ) (w p : List ℕ) → IsRead text at mid w → Begins G w → IsRead text at k p →
    ((c : ℕ) → slice_get text k ≡ Some c → Begins G (p ++ c ∷ []) → ⊥) → length w ≤ length p
goes_past_word G text at mid k w p stands b read further = by_case (cut w (drop mid text) p (drop k text) (sym stands.spelled ∙ read.spelled))
  where
    by_case : Cut w (drop mid text) p (drop k text) → length w ≤ length p
    by_case (Same a e) = (let size : length w ≡ length p = ap (λ z. length z) a in omega (arith, size))
    by_case (Longer x r a e) = (let size : length p ≡ length w + length (x ∷ r) = ap (λ z. length z) a ∙ length-append w (x ∷ r) in omega (arith, size))
    by_case (Shorter x r a e) = absurd (further x (item_of_rest text k x (r ++ drop mid text) e)
        (r ++ b.0, subst G (ap (λ z. z ++ b.0) a ∙ append_assoc p (x ∷ r) b.0 ∙ sym (append_assoc p (x ∷ []) (r ++ b.0))) b.1))

-- the form is chosen by a byte in a word that stands here, or by the byte behind it
pub word_chosen : (F G : List ℕ → Type 0) (text : List ℕ) (at mid n : ℕ) (w : List ℕ) → IsRead text at mid w → n ≤ length w → Begins G w →
    ((q : List ℕ) → F q → G q ⊎ Leaves text at n q) → ((q : List ℕ) → G q → F q) →
    (depth : Option ℕ) (e : CertRefusal) → IsRefused G depth text at e → IsRefused F depth text at e
word_chosen F G text at mid n w stands long b each from depth e h =
    chosen_by F G text at n each from depth e (λ k st. (let size = goes_past_word G text at mid k w st.piece stands b st.read st.further in omega (arith, size, long))) h

-- a text of which a byte isn't that of the text that stands here
pub leaves_at : (text : List ℕ) (at n i c : ℕ) (w q : List ℕ) → q ≡ w → i ≤ n → i < length w → slice_get w i ≡ Some c → (slice_get text (at + i) ≡ Some c → ⊥) → Leaves text at n q
leaves_at text at n i c w q same low within byte other =
    let P : List ℕ → Type 0 = Leaves text at n in
    subst P (sym same) (i, (low, (within, λ e. other (e ∙ byte))))
