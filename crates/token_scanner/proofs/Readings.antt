-- What a reading stands for, as more is read.
use Rattle.std.proofs.Common.{ℕ, List, [], ◌∷◌, ◌++◌, ◌≡◌, ◌≤◌, ◌+◌, ◌-◌, length, take, drop, ap, sym, ◌∙◌, arith, subst, append_assoc, length-append}
use Rattle.std.proofs.Math.Seq.{take-length}
use Rattle.std.proofs.lemmas.List.{length-drop, take-append-le, drop-append-le, take_rest}
use Rattle.std.specs.Char.{len_utf8}
use Rattle.token_scanner.specs.Scanners.{Scanner}
use Rattle.token_scanner.specs.declared.reading.Reading.{Reading}
use Rattle.token_scanner.specs.declared.reading.Stepped.TheVariants.{On}
use Rattle.token_scanner.specs.Fronts.{read_from, front_of, step, goes, IsWithin}
use Rattle.token_scanner.specs.Cutting.{IsReading, Leads}
use Rattle.token_scanner.specs.Widths.{width}
use Rattle.token_scanner.proofs.Lists.{split, drop_all, drop_sum}
use Rattle.token_scanner.proofs.Widths.{width_split, width_push}

-- what is still to be read of the characters from a place on
abbrev pub unread : List ℕ → ℕ → ℕ → List ℕ
unread xs from count = take (length xs - (from + count)) (drop (from + count) xs)

pub unread_is : (xs ys : List ℕ) (from count : ℕ) → xs ≡ ys → unread xs from count ≡ drop count (drop from ys)
unread_is xs ys from count e = take_rest xs (from + count) ∙ drop_sum from count xs ∙ ap (λ x. drop count (drop from x)) e

-- a slice up to the end
pub slice_is : (xs ys : List ℕ) (from : ℕ) → xs ≡ ys → take (length xs - from) (drop from xs) ≡ drop from ys
slice_is xs ys from e = take_rest xs from ∙ ap (drop from) e

-- one more character at the end
pub dropped_push : (xs ys : List ℕ) (from c : ℕ) → from ≤ length xs → ys ≡ xs ++ c ∷ [] → drop from ys ≡ drop from xs ++ c ∷ []
dropped_push xs ys from c h e = ap (drop from) e ∙ drop-append-le from xs (c ∷ []) h

pub wider_push : (xs ys : List ℕ) (from c : ℕ) → from ≤ length xs → ys ≡ xs ++ c ∷ [] → width (drop from ys) ≡ width (drop from xs) + len_utf8 c
wider_push xs ys from c h e = ap width (dropped_push xs ys from c h e) ∙ width_push (drop from xs) c

module _ {State Kind : Type 0} (syn : Scanner State Kind) where
  pub pushed : (chars : List ℕ) (r : Reading State Kind) (c : ℕ) → IsReading syn chars r → IsReading syn (chars ++ c ∷ []) r
  pushed chars r c is =
      let front : take r.count (chars ++ c ∷ []) ≡ take r.count chars = take-append-le r.count chars (c ∷ []) is.count in
      record {
        count = omega (arith, is.count, length-append chars (c ∷ []));
        narrow = is.narrow;
        width = is.width ∙ ap width (sym front);
        last = is.last;
        leads = subst (Leads syn r.state) (sym front) is.leads;
        reads = λ more. ap (front_of syn) (append_assoc chars (c ∷ []) more) ∙ is.reads (c ∷ more)
            ∙ ap (read_from syn r) (sym (append_assoc (drop r.count chars) (c ∷ []) more) ∙ ap (λ x. x ++ more) (sym (drop-append-le r.count chars (c ∷ []) is.count)));
      }

  pub goes_on : (chars : List ℕ) (r q : Reading State Kind) (c : ℕ) → IsReading syn chars r → r.count ≡ length chars → On q ≡ step syn r c → q.width ≤ 65536 → q.count ≡ r.count + 1 → q.width ≡ r.width + len_utf8 c
      → IsWithin q.last q.count
      → ((done : List ℕ) → Leads syn r.state done → Leads syn q.state (done ++ c ∷ [])) → IsReading syn (chars ++ c ∷ []) q
  goes_on chars r q c is all moved narrow count wide last leads = record {
    count = omega (arith, count, all, length-append chars (c ∷ []));
    narrow = narrow;
    width = wide ∙ ap (λ w. w + len_utf8 c) (is.width ∙ ap width (ap (λ n. take n chars) all ∙ take-length chars)) ∙ sym (width_push chars c)
        ∙ ap width (sym (ap (λ n. take n (chars ++ c ∷ [])) (let q : q.count ≡ length (chars ++ c ∷ []) = omega (arith, count, all, length-append chars (c ∷ [])) in q) ∙ take-length (chars ++ c ∷ [])));
    last = last;
    leads = subst (Leads syn q.state)
        (sym (ap (λ n. take n (chars ++ c ∷ [])) (let w : q.count ≡ length (chars ++ c ∷ []) = omega (arith, count, all, length-append chars (c ∷ [])) in w) ∙ take-length (chars ++ c ∷ [])))
        (leads chars (subst (Leads syn r.state) (ap (λ n. take n chars) all ∙ take-length chars) is.leads));
    reads = λ more. ap (front_of syn) (append_assoc chars (c ∷ []) more) ∙ is.reads (c ∷ more)
        ∙ ap (λ x. read_from syn r (x ++ c ∷ more)) (drop_all r.count chars (omega (arith, all)))
        ∙ ap (λ s. goes s (λ p. read_from syn p more) (λ f. f)) (sym moved)
        ∙ ap (λ x. read_from syn q (x ++ more)) (sym (drop_all q.count (chars ++ c ∷ []) (omega (arith, count, all, length-append chars (c ∷ [])))));
  }

  pub read_all : (chars : List ℕ) (r q : Reading State Kind) → IsReading syn chars r → ((more : List ℕ) → read_from syn r (drop r.count chars ++ more) ≡ read_from syn q more)
      → q.width ≤ 65536 → q.count ≡ r.count + length (drop r.count chars) → q.width ≡ r.width + width (drop r.count chars) → IsWithin q.last q.count
      → ((done : List ℕ) → Leads syn r.state done → Leads syn q.state (done ++ drop r.count chars)) → IsReading syn chars q
  read_all chars r q is moved narrow count wide last leads =
      let all : q.count ≡ length chars = omega (arith, count, is.count, length-drop r.count chars) in
      let front : take q.count chars ≡ chars = ap (λ n. take n chars) all ∙ take-length chars in
      record {
        count = omega (arith, all);
        narrow = narrow;
        width = wide ∙ ap (λ w. w + width (drop r.count chars)) is.width ∙ width_split r.count chars ∙ ap width (sym front);
        last = last;
        leads = subst (Leads syn q.state) (sym (front ∙ split r.count chars)) (leads (take r.count chars) is.leads);
        reads = λ more. is.reads more ∙ moved more ∙ ap (λ x. read_from syn q (x ++ more)) (sym (drop_all q.count chars (omega (arith, all))));
      }

  pub read_slice : (xs ys : List ℕ) (from : ℕ) (r q : Reading State Kind) → xs ≡ ys → IsReading syn (drop from ys) r
      → ((more : List ℕ) → read_from syn r (unread xs from r.count ++ more) ≡ read_from syn q more)
      → (q.width ≤ 65536) × (q.count ≡ r.count + length (unread xs from r.count)) × (q.width ≡ r.width + width (unread xs from r.count)) × IsWithin q.last q.count
      → ((done : List ℕ) → Leads syn r.state done → Leads syn q.state (done ++ unread xs from r.count))
      → IsReading syn (drop from ys) q × (q.count ≡ length (drop from ys))
  read_slice xs ys from r q e is moved bounds leads =
      let u = unread_is xs ys from r.count e in
      let chars = drop from ys in
      let count : q.count ≡ r.count + length (drop r.count chars) = bounds.1 ∙ ap (λ x. r.count + length x) u in
      let all : q.count ≡ length chars = omega (arith, count, is.count, length-drop r.count chars) in (
        read_all chars r q is (λ more. ap (λ x. read_from syn r (x ++ more)) (sym u) ∙ moved more) bounds.0 count (bounds.2 ∙ ap (λ x. r.width + width x) u) bounds.3
            (λ done l. subst (λ x. Leads syn q.state (done ++ x)) u (leads done l)),
        all,
      )

  -- one more character is read
  pub grown : (xs ys : List ℕ) (from c : ℕ) (r q : Reading State Kind) → from ≤ length xs → ys ≡ xs ++ c ∷ [] → r.count ≡ length (drop from xs) → IsReading syn (drop from xs) r
      → On q ≡ step syn r c → (q.width ≤ 65536) × (q.count ≡ r.count + 1) × (q.width ≡ r.width + len_utf8 c) × IsWithin q.last q.count
      → ((done : List ℕ) → Leads syn r.state done → Leads syn q.state (done ++ c ∷ [])) → (from ≤ length ys) × IsReading syn (drop from ys) q
  grown xs ys from c r q h e all is moved bounds leads = (
    omega (arith, h, ap length e, length-append xs (c ∷ [])),
    subst (λ x. IsReading syn x q) (sym (dropped_push xs ys from c h e)) (goes_on (drop from xs) r q c is all moved bounds.0 bounds.1 bounds.2 bounds.3 leads),
  )
