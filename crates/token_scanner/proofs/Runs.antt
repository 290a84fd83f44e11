-- Runs of ASCII characters that leave the state as it is.
use Rattle.std.proofs.Common.{nat_lt, cond, true, false, Some, None, Option, ℕ, zero, suc, List, [], ◌∷◌, ◌++◌, ◌≡◌, ◌<◌, ◌≤◌, ◌+◌, length, take, drop, slice_index, refl, ap, ap₂, sym, subst, ◌∙◌, arith, append_assoc, length-append, append-nil}
use Rattle.std.proofs.lemmas.Bool.Decides.{nat_tests}
use Rattle.std.proofs.Math.Seq.{take-length}
use Rattle.std.proofs.lemmas.List.{drop-append-le}
use Rattle.std.proofs.lemmas.Str.{len_utf8_bounds}
use Rattle.std.specs.Char.{len_utf8}
use Rattle.std.specs.Str.{IsAscii}
use Rattle.text_patterns.specs.Machines.{last_after}
use Rattle.token_scanner.specs.Scanners.{Scanner}
use Rattle.token_scanner.specs.declared.reading.Reading.{Reading}
use Rattle.token_scanner.specs.declared.reading.Stepped.TheVariants.{On, Ended}
use Rattle.token_scanner.specs.declared.front.Front.{Front}
use Rattle.token_scanner.specs.declared.front.Front.TheVariants.{Long}
use Rattle.token_scanner.specs.Fronts.{read_from, front_of, step, goes, IsWithin, by_state, run_on}
use Rattle.token_scanner.specs.Cutting.{IsReading, Leads}
use Rattle.token_scanner.specs.Widths.{width}
use Rattle.token_scanner.proofs.Lists.{drop_all}
use Rattle.token_scanner.proofs.Widths.{width-append}

ascii_width : (c : ℕ) → c < 128 → len_utf8 c ≡ 1
ascii_width c h = let t : nat_lt c 128 ≡ true = grind (arith, nat_tests, h) in rw t refl

ascii_run_width : (run : List ℕ) → IsAscii run → width run ≡ length run
ascii_run_width [] h = refl
ascii_run_width (c ∷ run) h = omega (arith, ascii_width c (h 0), ascii_run_width run (λ i. h (suc i)))

within_more : {Kind : Type 0} → (o : Option (Kind × ℕ)) (n m : ℕ) → IsWithin o n → IsWithin o (n + m)
within_more None n m h = tt
within_more (Some x) n m h = (h.0, (let e : x.1 ≤ n + m = omega (arith, h.1) in e))

run_wider : (chars run : List ℕ) (n : ℕ) → length run ≡ n → IsAscii run → width (chars ++ run) ≡ width chars + n
run_wider chars run n long ascii = omega (arith, long, ascii_run_width run ascii, width-append chars run)

pub ascii_next : (i : ℕ) (front : List ℕ) → IsAscii (take i front) → slice_index front i < 128 → IsAscii (take (suc i) front)
ascii_next zero [] h low k = h k
ascii_next zero (c ∷ front) h low zero = low
ascii_next zero (c ∷ front) h low (suc k) = h k
ascii_next (suc i) [] h low k = h k
ascii_next (suc i) (c ∷ front) h low zero = h 0
ascii_next (suc i) (c ∷ front) h low (suc k) = ascii_next i front (λ j. h (suc j)) low k

take_next : (i : ℕ) (front more : List ℕ) → i < length front → take (suc i) front ++ more ≡ take i front ++ slice_index front i ∷ more
take_next zero [] more h = absurd (omega (arith, h))
take_next zero (c ∷ front) more h = refl
take_next (suc i) [] more h = absurd (omega (arith, h))
take_next (suc i) (c ∷ front) more h = ap (λ x. c ∷ x) (take_next i front more (omega (arith, h)))

pub take_one : (i : ℕ) (front : List ℕ) → i < length front → take (suc i) front ≡ take i front ++ slice_index front i ∷ []
take_one i front h = sym (append-nil (take (suc i) front)) ∙ take_next i front [] h

pub wider_run : (xs ys run : List ℕ) (from n : ℕ) → from ≤ length xs → ys ≡ xs ++ run → length run ≡ n → IsAscii run → width (drop from ys) ≡ width (drop from xs) + n
wider_run xs ys run from n h e long ascii = ap width (ap (drop from) e ∙ drop-append-le from xs run h) ∙ run_wider (drop from xs) run n long ascii

module _ {State Kind : Type 0} (syn : Scanner State Kind) where
  narrow_enough : (w c : ℕ) → w < 65533 → nat_lt 65536 (w + len_utf8 c) ≡ false
  narrow_enough w c h = let few : len_utf8 c ≤ 4 = (len_utf8_bounds c).1 in grind (arith, nat_tests, h, few)

  -- a character that leaves the state as it is
  stays_open : (r : Reading State Kind) (c : ℕ) → r.width < 65533 → syn.machine.next r.state c ≡ Some r.state → syn.machine.accepts r.state ≡ None
      → step syn r c ≡ On (record r { count = r.count + 1; width = r.width + len_utf8 c })
  stays_open r c narrow stays none = ap (λ o. by_state syn o r (len_utf8 c)) stays
      ∙ ap (λ b. cond b (Ended Long) (On (record { state = r.state; last = last_after (syn.machine.accepts r.state) r.last (r.count + 1); count = r.count + 1; width = r.width + len_utf8 c }))) (narrow_enough r.width c narrow)
      ∙ ap (λ o. On (record { state = r.state; last = last_after o r.last (r.count + 1); count = r.count + 1; width = r.width + len_utf8 c })) none

  abbrev at_once : Reading State Kind → List ℕ → ℕ → ℕ → Front Kind
  at_once r more k w = read_from syn (record r { count = k; width = w }) more

  -- a run goes on with an ASCII character that leaves the state as it is
  pub run_one : (r : Reading State Kind) (n c : ℕ) (more : List ℕ) → r.width + n < 65533 → c < 128 → syn.machine.next r.state c ≡ Some r.state → syn.machine.accepts r.state ≡ None
      → read_from syn (run_on r n) (c ∷ more) ≡ read_from syn (run_on r (n + 1)) more
  run_one r n c more narrow low stays none = ap (λ s. goes s (λ p. read_from syn p more) (λ f. f)) (stays_open (run_on r n) c narrow stays none)
      ∙ ap₂ (at_once r more) (let e : r.count + n + 1 ≡ r.count + (n + 1) = omega arith in e)
      (let e : r.width + n + len_utf8 c ≡ r.width + (n + 1) = omega (arith, ascii_width c low) in e)

  -- a run of n ASCII characters is kept and read at once
  pub run_kept : (chars : List ℕ) (r : Reading State Kind) (run : List ℕ) (n : ℕ) → IsReading syn chars r → r.count ≡ length chars → length run ≡ n → IsAscii run → r.width + n ≤ 65536
      → ((more : List ℕ) → read_from syn r (run ++ more) ≡ read_from syn (run_on r n) more)
      → ((done : List ℕ) → Leads syn r.state done → Leads syn r.state (done ++ run)) → IsReading syn (chars ++ run) (run_on r n)
  run_kept chars r run n is all long ascii narrow runs leads =
      let whole : r.count + n ≡ length (chars ++ run) = omega (arith, all, long, length-append chars run) in
      record {
        count = omega (arith, whole);
        narrow = narrow;
        width = (let sum : r.width + n ≡ width (chars ++ run) = omega (arith, is.width ∙ ap width (ap (λ k. take k chars) all ∙ take-length chars), run_wider chars run n long ascii) in sum)
            ∙ ap width (sym (ap (λ k. take k (chars ++ run)) whole ∙ take-length (chars ++ run)));
        last = within_more r.last r.count n is.last;
        leads = subst (Leads syn r.state) (sym (ap (λ k. take k (chars ++ run)) whole ∙ take-length (chars ++ run)))
            (leads chars (subst (Leads syn r.state) (ap (λ k. take k chars) all ∙ take-length chars) is.leads));
        reads = λ more. ap (front_of syn) (append_assoc chars run more) ∙ is.reads (run ++ more)
            ∙ ap (λ x. read_from syn r (x ++ (run ++ more))) (drop_all r.count chars (omega (arith, all)))
            ∙ runs more
            ∙ ap (λ x. read_from syn (run_on r n) (x ++ more)) (sym (drop_all (r.count + n) (chars ++ run) (omega (arith, whole))));
      }

  -- one more byte of a run
  pub run_next : (r : Reading State Kind) (i : ℕ) (front : List ℕ) → i < length front → r.width + i < 65533 → slice_index front i < 128
      → syn.machine.next r.state (slice_index front i) ≡ Some r.state → syn.machine.accepts r.state ≡ None
      → ((more : List ℕ) → read_from syn r (take i front ++ more) ≡ read_from syn (run_on r i) more)
      → (more : List ℕ) → read_from syn r (take (suc i) front ++ more) ≡ read_from syn (run_on r (i + 1)) more
  run_next r i front h narrow low stays none runs more = ap (read_from syn r) (take_next i front more h) ∙ runs (slice_index front i ∷ more)
      ∙ run_one r i (slice_index front i) more narrow low stays none

  -- a run at the end of what is kept
  pub run_grown : (xs ys run : List ℕ) (from n k : ℕ) (r : Reading State Kind) → from ≤ length xs → ys ≡ xs ++ run → length run ≡ n → IsAscii run → r.count ≡ length (drop from xs)
      → k ≡ r.count + n → IsReading syn (drop from xs) r → r.width + n ≤ 65536 → ((more : List ℕ) → read_from syn r (run ++ more) ≡ read_from syn (run_on r n) more)
      → ((done : List ℕ) → Leads syn r.state done → Leads syn r.state (done ++ run))
      → (from ≤ length ys) × IsReading syn (drop from ys) (record r { count = k; width = r.width + n })
  run_grown xs ys run from n k r h e long ascii all count is narrow runs leads = (
    omega (arith, h, ap length e, length-append xs run),
    subst (λ x. IsReading syn x (record r { count = k; width = r.width + n })) (sym (ap (drop from) e ∙ drop-append-le from xs run h))
        (subst (λ j. IsReading syn (drop from xs ++ run) (record r { count = j; width = r.width + n })) (sym count)
        (run_kept (drop from xs) r run n is all long ascii narrow runs leads)),
  )
