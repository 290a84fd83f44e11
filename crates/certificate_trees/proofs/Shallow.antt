-- How many parentheses of a text stand open.
use Rattle.std.proofs.Common.{arith, ◌≡◌, ◌<◌, ◌≤◌, ◌+◌, ◌-◌, ◌%◌, ◌^◌, ◌⊎◌, inl, inr, ℕ, Option, Some, None, List, [], ◌∷◌, ◌++◌, length, drop, refl, sym, ap, subst, ◌∙◌, append_assoc, length-append}
use Rattle.std.specs.Prelude.{slice_get}
use Rattle.std.specs.Fmt.{decimal}
use Rattle.std.proofs.lemmas.Bool.{cases_lt}
use Rattle.std.proofs.lemmas.List.{append-nil, append_cancel_left}
use Rattle.std.proofs.lemmas.Fmt.{decimal_by_steps_wide}
use Rattle.certificate_trees.specs.declared.refusals.CertRefusal.{CertRefusal}
use Rattle.certificate_trees.specs.declared.refusals.CertRefusal.TheVariants.{K1, K2, K3, K4, K5, K6, Memory}
use Rattle.certificate_trees.specs.Reads.{IsRead}
use Rattle.certificate_trees.specs.Beginnings.{Then, Word, Either, IsWhole, IsStopped, IsRefused, IsShallow, IsShallowTill, count, IsForm, AreLeaves}
use Rattle.certificate_trees.specs.Grammar.{NumberIn, Number, Name, Instant}
use Rattle.certificate_trees.specs.TreeGrammar.{Tree, IsUnopened}
use Rattle.certificate_trees.specs.LeafGrammar.{OrderLeaf, Code, ClassLeaf, LeafKind, OfOrders, OfCovers, OfClasses, LeafOf}
use Rattle.certificate_trees.proofs.Pieces.{then_read, byte_read}
use Rattle.certificate_trees.proofs.Cuts.{Cut, Same, Longer, Shorter, cut, count-append}
use Rattle.certificate_trees.proofs.TreePieces.{ends}
use Rattle.certificate_trees.proofs.Numbers.{no_count}
use Rattle.certificate_trees.proofs.TreeForms.{tree_form}

-- the texts of the form have no open parenthesis
abbrev pub IsFlat : (List ℕ → Type 0) → Type 0
IsFlat T = (p : List ℕ) → T p → count 40 p ≡ 0

-- they close each parenthesis that they open
abbrev pub Closes : (List ℕ → Type 0) → Type 0
Closes T = (p : List ℕ) → T p → count 40 p ≤ count 41 p

pub flat_closes : (T : List ℕ → Type 0) → IsFlat T → Closes T
flat_closes T flat p t = let none = flat p t in omega (arith, none)

pub form_closes : (T : List ℕ → Type 0) (D : ℕ → Type 0) → IsForm T D → Closes T
form_closes T D f p t = let even = f.closed p t in omega (arith, even)

pub flat_word : (w : List ℕ) → count 40 w ≡ 0 → IsFlat (Word w)
flat_word w none p t = let P : List ℕ → Type 0 = λ z. count 40 z ≡ 0 in subst P (sym t) none

count_parts : (p q r : List ℕ) → p ≡ q ++ r → count 40 q ≡ 0 → count 40 r ≡ 0 → count 40 p ≡ 0
count_parts p q r e a b = let all : count 40 p ≡ count 40 (q ++ r) = ap (λ z. count 40 z) e in omega (arith, all, count-append 40 q r, a, b)

pub flat_then : (T U : List ℕ → Type 0) → IsFlat T → IsFlat U → IsFlat (Then T U)
flat_then T U f g p t = count_parts p t.first t.second t.split (f t.first t.one) (g t.second t.two)

pub flat_either : (T U : List ℕ → Type 0) → IsFlat T → IsFlat U → IsFlat (Either T U)
flat_either T U f g p (inl t) = f p t
flat_either T U f g p (inr u) = g p u

-- digits are no parentheses
decimal_flat : (n : ℕ) → n < 10 ^ 64 → count 40 (decimal n) ≡ 0
decimal_flat n wide = decimal_by_steps_wide (λ n ds. count 40 ds ≡ 0) one more n wide
  where
    one : (n : ℕ) → n < 10 → count 40 ((48 + n) ∷ []) ≡ 0
    one n small = (let a = no_count 40 (48 + n) (λ e. omega arith) in omega (arith, a))

    more : (n : ℕ) (ds : List ℕ) → 10 ≤ n → count 40 ds ≡ 0 → count 40 (ds ++ (48 + n % 10) ∷ []) ≡ 0
    more n ds ten h = (let a = no_count 40 (48 + n % 10) (λ e. omega arith) in
        let b = count-append 40 ds ((48 + n % 10) ∷ []) in
        omega (arith, a, b, h))

pub flat_number_in : (least bound : ℕ) → bound < 10 ^ 64 → IsFlat (NumberIn least bound)
flat_number_in least bound wide p t =
    let P : List ℕ → Type 0 = λ z. count 40 z ≡ 0 in
    subst P (sym t.1.1.1) (decimal_flat t.0 (low t.0 t.1.1.0))
  where
    low : (n : ℕ) → n ≤ bound → n < 10 ^ 64
    low n h = omega (arith, wide, h)

pub flat_number : IsFlat Number
flat_number = flat_number_in 0 (2 ^ 32 - 1) (omega arith)

pub flat_name : (letter : ℕ) → (letter ≡ 40 → ⊥) → IsFlat (Name letter)
flat_name letter other = flat_then (Word (letter ∷ [])) Number (flat_word (letter ∷ []) (let a = no_count 40 letter other in omega (arith, a))) flat_number

pub flat_instant : IsFlat Instant
flat_instant = flat_either (NumberIn 0 (2 ^ 127 - 1)) (Then (Word (45 ∷ [])) (NumberIn 1 (2 ^ 127))) (flat_number_in 0 (2 ^ 127 - 1) (omega arith))
    (flat_then (Word (45 ∷ [])) (NumberIn 1 (2 ^ 127)) (flat_word (45 ∷ []) refl) (flat_number_in 1 (2 ^ 127) (omega arith)))

-- a form behind a space
pub flat_spaced : (T : List ℕ → Type 0) → IsFlat T → IsFlat (Then (Word (32 ∷ [])) T)
flat_spaced T f = flat_then (Word (32 ∷ [])) T (flat_word (32 ∷ []) refl) f

pub flat_code : IsFlat Code
flat_code = flat_either (Name 69) (Name 65) (flat_name 69 (λ e. omega (arith, e))) (flat_name 65 (λ e. omega (arith, e)))

pub flat_class_leaf : IsFlat ClassLeaf
flat_class_leaf = flat_then Code (Then (Word (46 ∷ [])) Code) flat_code (flat_then (Word (46 ∷ [])) Code (flat_word (46 ∷ []) refl) flat_code)

flat_order_leaf : (kept : Option ℕ) → IsFlat (OrderLeaf kept)
flat_order_leaf None = flat_name 111 (λ e. omega (arith, e))
flat_order_leaf (Some kept) = flat_either (Name 111) (Name 108) (flat_name 111 (λ e. omega (arith, e))) (flat_name 108 (λ e. omega (arith, e)))

pub flat_leaf : (k : LeafKind) → IsFlat (LeafOf k)
flat_leaf (OfOrders kept) = flat_order_leaf kept
flat_leaf OfCovers = flat_name 99 (λ e. omega (arith, e))
flat_leaf OfClasses = flat_class_leaf

-- where two pieces begin together, the longer one is the shorter and what stands behind it
pub rest_read : (text : List ℕ) (at b k : ℕ) (q p : List ℕ) → IsRead text at b q → IsRead text at k p → b ≤ k → (r : List ℕ) × ((p ≡ q ++ r) × IsRead text b k r)
rest_read text at b k q p first all order = by_case (cut q (drop b text) p (drop k text) (sym first.spelled ∙ all.spelled))
  where
    within : (r : List ℕ) → p ≡ q ++ r → (r : List ℕ) × ((p ≡ q ++ r) × IsRead text b k r)
    within r e = (
      r,
      (
        e,
        record {
          spelled = append_cancel_left q (drop b text) (r ++ drop k text) (sym first.spelled ∙ all.spelled ∙ ap (λ z. z ++ drop k text) e ∙ append_assoc q r (drop k text));
          onward = order;
          within = all.within;
        },
      ),
    )

    by_case : Cut q (drop b text) p (drop k text) → (r : List ℕ) × ((p ≡ q ++ r) × IsRead text b k r)
    by_case (Same a c) = within [] (sym a ∙ sym (append-nil q))
    by_case (Longer x r a c) = within (x ∷ r) a
    by_case (Shorter x r a c) =
        let one = ends text at b q first in
        let two = ends text at k p all in
        let size : length q ≡ length p + length (x ∷ r) = ap (λ z. length z) a ∙ length-append p (x ∷ r) in
        absurd (omega (arith, one, two, size, order))

pub weaken_shallow : (m n : ℕ) → m ≤ n → (text : List ℕ) (at to : ℕ) → IsShallow m text at to → IsShallow n text at to
weaken_shallow m n h text at to s k piece low read = let bound = s k piece low read in omega (arith, h, bound)

pub weaken_shallow_till : (m n : ℕ) → m ≤ n → (text : List ℕ) (at : ℕ) (e : CertRefusal) → IsShallowTill m text at e → IsShallowTill n text at e
weaken_shallow_till m n h text at (K1 k) s = weaken_shallow m n h text at k s
weaken_shallow_till m n h text at (K2 k) s = weaken_shallow m n h text at k s
weaken_shallow_till m n h text at (K3 k) s = tt
weaken_shallow_till m n h text at (K4 k) s = tt
weaken_shallow_till m n h text at (K5 k) s = tt
weaken_shallow_till m n h text at (K6 k) s = tt
weaken_shallow_till m n h text at Memory s = tt

-- a piece that opens no more than so many
pub few_shallow : (depth : ℕ) (text : List ℕ) (at to : ℕ) (q : List ℕ) → IsRead text at to q → count 40 q ≤ depth → IsShallow depth text at to
few_shallow depth text at to q all few k p low read =
    let r = rest_read text at k to p q read all low in
    let size : count 40 q ≡ count 40 (p ++ r.0) = ap (λ z. count 40 z) r.1.0 in
    omega (arith, size, count-append 40 p r.0, few)

-- behind a piece that leaves so many open
pub opened_shallow : (n depth : ℕ) (text : List ℕ) (a b c : ℕ) (q : List ℕ) → IsRead text a b q → count 40 q ≤ count 41 q + n →
    IsShallow (n + depth) text a b → IsShallow depth text b c → IsShallow (n + depth) text a c
opened_shallow n depth text a b c q first opens one two k p low read = by_order (cases_lt k b)
  where
    by_order : (k < b) ⊎ (b ≤ k) → count 40 p ≤ count 41 p + (n + depth)
    by_order (inl h) = one k p (omega (arith, h)) read
    by_order (inr h) =
        let r = rest_read text a b k q p first read h in
        let bound = two k r.0 low r.1.1 in
        let opening : count 40 p ≡ count 40 (q ++ r.0) = ap (λ z. count 40 z) r.1.0 in
        let closing : count 41 p ≡ count 41 (q ++ r.0) = ap (λ z. count 41 z) r.1.0 in
        omega (arith, opens, bound, opening, closing, count-append 40 q r.0, count-append 41 q r.0)

-- behind a piece that leaves none open
pub shallow_on : (depth : ℕ) (text : List ℕ) (a b c : ℕ) (q : List ℕ) → IsRead text a b q → count 40 q ≤ count 41 q →
    IsShallow depth text a b → IsShallow depth text b c → IsShallow depth text a c
shallow_on depth text a b c q first closes one two =
    let P : ℕ → Type 0 = λ n. IsShallow n text a c in
    let Q : ℕ → Type 0 = λ n. IsShallow n text a b in
    let same : 0 + depth ≡ depth = omega arith in
    subst P same (opened_shallow 0 depth text a b c q first (omega (arith, closes)) (subst Q (sym same) one) two)

pub shallow_on_till : (depth : ℕ) (text : List ℕ) (a b : ℕ) (e : CertRefusal) (q : List ℕ) → IsRead text a b q → count 40 q ≤ count 41 q →
    IsShallow depth text a b → IsShallowTill depth text b e → IsShallowTill depth text a e
shallow_on_till depth text a b (K1 k) q first closes one two = shallow_on depth text a b k q first closes one two
shallow_on_till depth text a b (K2 k) q first closes one two = shallow_on depth text a b k q first closes one two
shallow_on_till depth text a b (K3 k) q first closes one two = tt
shallow_on_till depth text a b (K4 k) q first closes one two = tt
shallow_on_till depth text a b (K5 k) q first closes one two = tt
shallow_on_till depth text a b (K6 k) q first closes one two = tt
shallow_on_till depth text a b Memory q first closes one two = tt

-- a flat form, read and refused
pub flat_whole : (T : List ℕ → Type 0) → IsFlat T → (depth : ℕ) (text : List ℕ) (at to : ℕ) → IsWhole T text at to → IsShallow depth text at to
flat_whole T flat depth text at to w = let none = flat w.piece w.whole in few_shallow depth text at to w.piece w.read (omega (arith, none))

flat_stopped : (T : List ℕ → Type 0) → IsFlat T → (depth : ℕ) (text : List ℕ) (at k : ℕ) → IsStopped T text at k → IsShallow depth text at k
flat_stopped T flat depth text at k st =
    let none = flat (st.piece ++ st.begins.0) st.begins.1 in
    few_shallow depth text at k st.piece st.read (omega (arith, none, count-append 40 st.piece st.begins.0))

pub flat_refused : (T : List ℕ → Type 0) → IsFlat T → (depth : ℕ) (text : List ℕ) (at : ℕ) (e : CertRefusal) → IsRefused T None text at e → IsShallowTill depth text at e
flat_refused T flat depth text at (K1 k) h = flat_stopped T flat depth text at k h
flat_refused T flat depth text at (K2 k) h = absurd h
flat_refused T flat depth text at (K3 k) h = tt
flat_refused T flat depth text at (K4 k) h = tt
flat_refused T flat depth text at (K5 k) h = tt
flat_refused T flat depth text at (K6 k) h = tt
flat_refused T flat depth text at Memory h = tt

-- behind a form
pub shallow_behind : (T : List ℕ → Type 0) → Closes T → (depth : ℕ) (text : List ℕ) (a b c : ℕ) → IsWhole T text a b → IsShallow depth text a b → IsShallow depth text b c →
    IsShallow depth text a c
shallow_behind T closes depth text a b c w one two = shallow_on depth text a b c w.piece w.read (closes w.piece w.whole) one two

pub shallow_behind_till : (T : List ℕ → Type 0) → Closes T → (depth : ℕ) (text : List ℕ) (a b : ℕ) (e : CertRefusal) → IsWhole T text a b → IsShallow depth text a b →
    IsShallowTill depth text b e → IsShallowTill depth text a e
shallow_behind_till T closes depth text a b e w one two = shallow_on_till depth text a b e w.piece w.read (closes w.piece w.whole) one two

pub flat_behind : (T : List ℕ → Type 0) → IsFlat T → (depth : ℕ) (text : List ℕ) (a b c : ℕ) → IsWhole T text a b → IsShallow depth text b c → IsShallow depth text a c
flat_behind T flat depth text a b c w two = shallow_behind T (flat_closes T flat) depth text a b c w (flat_whole T flat depth text a b w) two

pub flat_behind_till : (T : List ℕ → Type 0) → IsFlat T → (depth : ℕ) (text : List ℕ) (a b : ℕ) (e : CertRefusal) → IsWhole T text a b → IsShallowTill depth text b e →
    IsShallowTill depth text a e
flat_behind_till T flat depth text a b e w two = shallow_behind_till T (flat_closes T flat) depth text a b e w (flat_whole T flat depth text a b w) two

-- trees close each parenthesis
pub tree_closes : (L : List ℕ → Type 0) → AreLeaves L → Closes (Tree L)
tree_closes L are p t = let even = (tree_form L are).closed p t in omega (arith, even)

-- a byte that is none, and a parenthesis behind it
opening_shallow : (c depth : ℕ) (text : List ℕ) (at inside : ℕ) → (c ≡ 40 → ⊥) → slice_get text at ≡ Some c → IsRead text (at + 1) inside (40 ∷ []) → 0 < depth →
    IsShallow depth text at inside
opening_shallow c depth text at inside other e op some =
    let none = no_count 40 c other in
    few_shallow depth text at inside ((c ∷ []) ++ 40 ∷ []) (then_read text at (at + 1) inside (c ∷ []) (40 ∷ []) (byte_read text at c e) op) (omega (arith, none, some))

-- what stands behind the parenthesis
pub inside_shallow : (c depth : ℕ) (text : List ℕ) (at inside to : ℕ) → (c ≡ 40 → ⊥) → slice_get text at ≡ Some c → IsRead text (at + 1) inside (40 ∷ []) → 0 < depth →
    IsShallow (depth - 1) text inside to → IsShallow depth text at to
inside_shallow c depth text at inside to other e op some h =
    let P : ℕ → Type 0 = λ n. IsShallow n text at to in
    let Q : ℕ → Type 0 = λ n. IsShallow n text at inside in
    let same : 1 + (depth - 1) ≡ depth = omega (arith, some) in
    let none = no_count 40 c other in
    let read = then_read text at (at + 1) inside (c ∷ []) (40 ∷ []) (byte_read text at c e) op in
    subst P same (opened_shallow 1 (depth - 1) text at inside to ((c ∷ []) ++ 40 ∷ []) read (omega (arith, none)) (subst Q (sym same) (opening_shallow c depth text at inside other e op some)) h)

pub inside_shallow_till : (c depth : ℕ) (text : List ℕ) (at inside : ℕ) (r : CertRefusal) → (c ≡ 40 → ⊥) → slice_get text at ≡ Some c → IsRead text (at + 1) inside (40 ∷ []) → 0 < depth →
    IsShallowTill (depth - 1) text inside r → IsShallowTill depth text at r
inside_shallow_till c depth text at inside (K1 k) other e op some h = inside_shallow c depth text at inside k other e op some h
inside_shallow_till c depth text at inside (K2 k) other e op some h = inside_shallow c depth text at inside k other e op some h
inside_shallow_till c depth text at inside (K3 k) other e op some h = tt
inside_shallow_till c depth text at inside (K4 k) other e op some h = tt
inside_shallow_till c depth text at inside (K5 k) other e op some h = tt
inside_shallow_till c depth text at inside (K6 k) other e op some h = tt
inside_shallow_till c depth text at inside Memory other e op some h = tt

-- no parenthesis opens behind the byte
unopened_piece : (p : List ℕ) (rest : List ℕ) → p ++ rest ≡ 40 ∷ [] → (p ≡ 40 ∷ [] → ⊥) → count 40 p ≡ 0
unopened_piece [] rest e other = refl
unopened_piece (x ∷ []) rest e other = absurd (other (let same : x ≡ 40 = cc e in ap (λ z. z ∷ []) same))
unopened_piece (x ∷ y ∷ p) rest e other = absurd (cc e)

unopened_at : (c depth : ℕ) (text : List ℕ) (at k : ℕ) (p : List ℕ) → (c ≡ 40 → ⊥) → slice_get text at ≡ Some c → IsRead text (at + 1) k p → count 40 p ≡ 0 → IsShallow depth text at k
unopened_at c depth text at k p other e read flat =
    let none = no_count 40 c other in
    few_shallow depth text at k ((c ∷ []) ++ p) (then_read text at (at + 1) k (c ∷ []) p (byte_read text at c e) read) (omega (arith, none, flat))

pub unopened_shallow : (c depth : ℕ) (text : List ℕ) (at : ℕ) (r : CertRefusal) → (c ≡ 40 → ⊥) → slice_get text at ≡ Some c → IsUnopened depth text (at + 1) r → IsShallowTill depth text at r
unopened_shallow c depth text at (K1 k) other e h =
    unopened_at c depth text at k h.piece other e h.read (unopened_piece h.piece h.begins.0 h.begins.1 (λ same. h.unfinished h.piece [] (sym (append-nil h.piece)) same))
unopened_shallow c depth text at (K2 k) other e h =
    let P : ℕ → Type 0 = λ n. IsShallow depth text at n in
    let none = no_count 40 c other in
    subst P (sym h.0) (few_shallow depth text at (at + 1) (c ∷ []) (byte_read text at c e) (omega (arith, none)))
unopened_shallow c depth text at (K3 k) other e h = tt
unopened_shallow c depth text at (K4 k) other e h = tt
unopened_shallow c depth text at (K5 k) other e h = tt
unopened_shallow c depth text at (K6 k) other e h = tt
unopened_shallow c depth text at Memory other e h = tt
