-- Positions are read one by one, each behind a space.
use Rattle.std.proofs.Common.{arith, zero, suc, ◌≡◌, ◌≤◌, ◌+◌, ◌⊎◌, inl, inr, ℕ, Some, None, List, [], ◌∷◌, ◌++◌, length, drop, refl, sym, ap, subst, ◌∙◌, append_assoc, length-append}
use Rattle.std.specs.Prelude.{slice_get, codes}
use Rattle.std.proofs.lemmas.List.{append-nil, append_cancel_right}
use Rattle.certificate_trees.specs.declared.refusals.CertRefusal.{CertRefusal}
use Rattle.certificate_trees.specs.declared.refusals.CertRefusal.TheVariants.{K1}
use Rattle.certificate_trees.specs.Reads.{IsRead}
use Rattle.certificate_trees.specs.Beginnings.{Then, Word, Begins, IsWhole, IsStopped, IsRefused, HeadIn, NoByte, IsDigit}
use Rattle.certificate_reader.specs.LineGrammar.{PositionForm, PositionsOf, Positions, PositionsLine}
use Rattle.certificate_trees.proofs.Pieces.{none_read, then_read, byte_read}
use Rattle.certificate_trees.proofs.Cuts.{Avoids, behind_avoids}
use Rattle.certificate_trees.proofs.WordReads.{byte_whole}
use Rattle.certificate_trees.proofs.TreeForms.{no_digit}
use Rattle.certificate_reader.proofs.OrderForms.{GoesOn, position_form, positions_form}
use Rattle.certificate_reader.proofs.LineChoices.{Chosen, by_first, other_byte}
use Rattle.certificate_trees.proofs.Choices.{Leaves, leaves_first}
use Rattle.certificate_trees.proofs.Steps.{Joins, here, later, live_both, word_joins, space}

abbrev MoreLine : List ℕ → Type 0
MoreLine = Then (Word (32 ∷ [])) (Then PositionForm PositionsLine)

line_no_digit : (n : ℕ) (f s r : List ℕ) → PositionsOf n f → s ≡ 10 ∷ [] → HeadIn IsDigit ((f ++ s) ++ r) → ⊥
line_no_digit zero f s r t e h =
    let P : List ℕ → Type 0 = λ z. HeadIn IsDigit ((z ++ s) ++ r) in
    let Q : List ℕ → Type 0 = λ z. HeadIn IsDigit (z ++ r) in
    no_digit 10 (omega arith) (subst Q e (subst P t h))
line_no_digit (suc n) f s r t e h =
    let P : List ℕ → Type 0 = HeadIn IsDigit in
    behind_avoids IsDigit 32 [] (Then PositionForm (PositionsOf n)) (no_digit 32 (omega arith)) f (s ++ r) t (subst P (append_assoc f s r) h)

line_avoids : Avoids IsDigit PositionsLine
line_avoids p r t h = let P : List ℕ → Type 0 = λ z. HeadIn IsDigit (z ++ r) in line_no_digit t.one.0 t.first t.second r t.one.1 t.two (subst P t.split h)

line_live : Begins PositionsLine []
line_live = (10 ∷ [], record { first = []; second = 10 ∷ []; split = refl; one = (0, refl); two = refl })

position_line : Joins PositionForm PositionsLine IsDigit
position_line = record { form = position_form; avoids = line_avoids; live = line_live }

space_position : Joins (Word (32 ∷ [])) (Then PositionForm PositionsLine) NoByte
space_position = space (Then PositionForm PositionsLine) (live_both position_line)

pub place_line : Joins (Word (codes "place")) PositionsLine NoByte
place_line = word_joins (codes "place") PositionsLine refl line_live

-- where a space stands, a position follows
as_more : (text : List ℕ) (at : ℕ) → slice_get text at ≡ Some 32 → Chosen PositionsLine MoreLine text at
as_more text at e = by_first PositionsLine MoreLine text at (λ q t. by_count q t t.one.0 t.one.1) from
  where
    by_count : (q : List ℕ) (t : PositionsLine q) (n : ℕ) → PositionsOf n t.first → MoreLine q ⊎ Leaves text at 0 q
    by_count q t zero h = inr (leaves_first text at 0 10 [] q ([], t.split ∙ ap (λ z. z ++ t.second) h ∙ t.two) (other_byte text at 32 10 e (λ g. omega (arith, g))))
    by_count q t (suc n) h = inl (record {
      first = h.first;
      second = h.second ++ t.second;
      split = t.split ∙ ap (λ z. z ++ t.second) h.split ∙ append_assoc h.first h.second t.second;
      one = h.one;
      two = record {
        first = h.two.first;
        second = h.two.second ++ t.second;
        split = ap (λ z. z ++ t.second) h.two.split ∙ append_assoc h.two.first h.two.second t.second;
        one = h.two.one;
        two = record { first = h.two.second; second = t.second; split = refl; one = (n, h.two.two); two = t.two };
      };
    })

    from : (q : List ℕ) → MoreLine q → PositionsLine q
    from q t = record {
      first = t.first ++ (t.two.first ++ t.two.two.first);
      second = t.two.two.second;
      split = t.split ∙ ap (λ z. t.first ++ z) (t.two.split ∙ ap (λ z. t.two.first ++ z) t.two.two.split ∙ sym (append_assoc t.two.first t.two.two.first t.two.two.second))
          ∙ sym (append_assoc t.first (t.two.first ++ t.two.two.first) t.two.two.second);
      one = (
        suc t.two.two.one.0,
        record {
          first = t.first;
          second = t.two.first ++ t.two.two.first;
          split = refl;
          one = t.one;
          two = record { first = t.two.first; second = t.two.two.first; split = refl; one = t.two.one; two = t.two.two.one.1 };
        },
      );
      two = t.two.two.two;
    }

one_behind : (n : ℕ) (p q : List ℕ) → PositionsOf n p → PositionForm q → PositionsOf (suc n) (p ++ 32 ∷ q)
one_behind zero p q t u = record {
  first = 32 ∷ [];
  second = q;
  split = ap (λ z. z ++ 32 ∷ q) t;
  one = refl;
  two = record { first = q; second = []; split = sym (append-nil q); one = u; two = refl };
}
one_behind (suc n) p q t u = record {
  first = t.first;
  second = t.second ++ 32 ∷ q;
  split = ap (λ z. z ++ 32 ∷ q) t.split ∙ append_assoc t.first t.second (32 ∷ q);
  one = t.one;
  two = record {
    first = t.two.first;
    second = t.two.second ++ 32 ∷ q;
    split = ap (λ z. z ++ 32 ∷ q) t.two.split ∙ append_assoc t.two.first t.two.second (32 ∷ q);
    one = t.two.one;
    two = one_behind n t.two.second q t.two.two u;
  };
}

-- positions up to a place; what is refused there is refused from their begin
pub record SoFar (text : List ℕ) (at to : ℕ) : Type 0 where
  pub piece : List ℕ
  pub read : IsRead text at to piece
  pub positions : Positions piece
  pub refused : (e : CertRefusal) → IsRefused PositionsLine None text to e → IsRefused PositionsLine None text at e

pub none_so_far : (text : List ℕ) (at : ℕ) → at ≤ length text → SoFar text at at
none_so_far text at h = record { piece = []; read = none_read text at h; positions = (0, refl); refused = λ e r. r }

pub position_refused : (text : List ℕ) (at to : ℕ) (e : CertRefusal) → SoFar text at to → slice_get text to ≡ Some 32 → IsRefused PositionForm None text (to + 1) e → IsRefused PositionsLine None text at e
position_refused text at to e s behind h =
    s.refused e ((as_more text to behind).refused None e (later space_position None e (byte_whole text to 32 behind) (here position_line None text (to + 1) e h)))

pub one_more : (text : List ℕ) (at to end : ℕ) → SoFar text at to → slice_get text to ≡ Some 32 → IsWhole PositionForm text (to + 1) end → SoFar text at end
one_more text at to end s behind w = record {
  piece = s.piece ++ 32 ∷ w.piece;
  read = then_read text at to end s.piece (32 ∷ w.piece) s.read (then_read text to (to + 1) end (32 ∷ []) w.piece (byte_read text to 32 behind) w.read);
  positions = (suc s.positions.0, one_behind s.positions.0 s.piece w.piece s.positions.1 w.whole);
  refused = λ e h. s.refused e ((as_more text to behind).refused None e (later space_position None e (byte_whole text to 32 behind) (later position_line None e w h)));
}

-- where no space stands behind them, they are whole
pub all_whole : (text : List ℕ) (at to : ℕ) → SoFar text at to → (slice_get text to ≡ Some 32 → ⊥) → IsWhole Positions text at to
all_whole text at to s other = record {
  piece = s.piece;
  read = s.read;
  whole = s.positions;
  further = λ c e b. by_head c e b (positions_form.settles s.piece ((s.piece ++ c ∷ []) ++ b.0) (c ∷ b.0) [] s.positions b.1
      (sym (append_assoc s.piece (c ∷ []) b.0) ∙ sym (append-nil ((s.piece ++ c ∷ []) ++ b.0))));
}
  where
    unfinished : (p q : List ℕ) → [] ≡ p ++ q → PositionsLine p → ⊥
    unfinished p q e t = (let all = ap (λ z. length z) e in
        let parts = length-append p q in
        let line = ap (λ z. length z) t.split in
        let pieces = length-append t.first t.second in
        let last = ap (λ z. length z) t.two in
        omega (arith, all, parts, line, pieces, last))

    stopped : (c : ℕ) → slice_get text to ≡ Some c → IsDigit c → IsStopped PositionsLine text to to
    stopped c e digit = record {
      piece = [];
      read = none_read text to s.read.within;
      begins = line_live;
      unfinished = unfinished;
      further = λ d f b. (let same : c ≡ d = cc (e, f) in
          let P : ℕ → Type 0 = IsDigit in
          line_avoids (d ∷ b.0) [] b.1 (subst P same digit));
    }

    no_digit_more : (c : ℕ) → slice_get text to ≡ Some c → Begins Positions (s.piece ++ c ∷ []) → IsDigit c → ⊥
    no_digit_more c e b digit = (let st : IsStopped PositionsLine text at to = s.refused (K1 to) (stopped c e digit) in
        let P : List ℕ → Type 0 = λ z. Begins PositionsLine (z ++ c ∷ []) in
        let same : st.piece ≡ s.piece = append_cancel_right st.piece s.piece (drop to text) (sym st.read.spelled ∙ s.read.spelled) in
        st.further c e (subst P (sym same) (
          b.0 ++ 10 ∷ [],
          record {
            first = (s.piece ++ c ∷ []) ++ b.0;
            second = 10 ∷ [];
            split = sym (append_assoc (s.piece ++ c ∷ []) b.0 (10 ∷ []));
            one = b.1;
            two = refl;
          },
        )))

    by_head : (c : ℕ) → slice_get text to ≡ Some c → (b : Begins Positions (s.piece ++ c ∷ [])) →
        ((s.piece ≡ (s.piece ++ c ∷ []) ++ b.0) × (c ∷ b.0 ≡ [])) ⊎ (HeadIn GoesOn (c ∷ b.0) ⊎ HeadIn GoesOn []) → ⊥
    by_head c e b (inl h) = absurd (cc h.1)
    by_head c e b (inr (inr h)) = h
    by_head c e b (inr (inl (inl digit))) = no_digit_more c e b digit
    by_head c e b (inr (inl (inr blank))) = other (e ∙ ap (λ z. Some z) blank)
