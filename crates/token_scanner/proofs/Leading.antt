-- What is read of the characters that are kept: their token, where it is certain.
use Rattle.std.proofs.Common.{ℕ, suc, List, [], ◌∷◌, ◌++◌, ◌≡◌, ◌<◌, ◌≤◌, ◌+◌, length, take, drop, refl, ap, sym, ◌∙◌, subst, arith, append_assoc, append-nil}
use Rattle.std.proofs.Math.Seq.{take-length, take-add}
use Rattle.std.proofs.lemmas.List.{length-drop}
use Rattle.std.specs.Prelude.{Bool, true, false, cond, nat_lt, Option, None, Some, slice_index}
use Rattle.std.specs.Char.{len_utf8}
use Rattle.text_patterns.specs.Patterns.{Matches}
use Rattle.text_patterns.specs.Machines.{Spells, IsOpen, rest_after}
use Rattle.token_scanner.specs.Scanners.{Scanner}
use Rattle.token_scanner.specs.Fronts.{read_from, front_of, found, token_of, to, by_state, goes, InReading, IsInside, IsWithin, IsCut, ruled}
use Rattle.token_scanner.specs.Cutting.{IsReading, Leads, IsRead, IsNarrow}
use Rattle.token_scanner.specs.Rules.{IsScanner}
use Rattle.token_scanner.specs.Widths.{width}
use Rattle.token_scanner.specs.declared.reading.Reading.{Reading}
use Rattle.token_scanner.specs.declared.reading.Stepped.TheVariants.{On, Ended}
use Rattle.token_scanner.specs.declared.front.Front.{Front}
use Rattle.token_scanner.specs.declared.front.Front.TheVariants.{Token, Nothing, Long}
use Rattle.token_scanner.proofs.Lists.{drop_all}
use Rattle.token_scanner.proofs.Widths.{width-append, width_mono}
use Rattle.token_scanner.proofs.Runs.{take_one}
use Rattle.token_scanner.proofs.Readings.{unread, unread_is}

in_reading : {State Kind : Type 0} (b : Bool) (r : Reading State Kind) (P : Reading State Kind → Type 0) → P r → InReading (cond b (Ended Long) (On r)) P
in_reading true r P p = tt
in_reading false r P p = p

module _ {State Kind : Type 0} (syn : Scanner State Kind) (law : IsScanner syn) where
  pub leads_on : (q p : State) (c : ℕ) (done : List ℕ) → c < 0x110000 → Some p ≡ syn.machine.next q c → Leads syn q done → Leads syn p (done ++ c ∷ [])
  leads_on q p c done small e l = record {
    to = λ k t s. subst (λ o. Matches (rest_after syn.machine o k) t) (sym e) (law.machine.step_to q c k t small (l.to k (c ∷ t) (subst (Spells syn.machine k) (append_assoc done (c ∷ []) t) s)));
    back = λ k t m. subst (Spells syn.machine k) (sym (append_assoc done (c ∷ []) t)) (l.back k (c ∷ t) (law.machine.step_from q c k t small (subst (λ o. Matches (rest_after syn.machine o k) t) e m)));
  }

  pub step_leads : (r : Reading State Kind) (q : State) (c w : ℕ) → c < 0x110000 → Some q ≡ syn.machine.next r.state c → InReading (to syn r q w) (λ p. (done : List ℕ) → Leads syn r.state done → Leads syn p.state (done ++ c ∷ []))
  step_leads r q c w small e = in_reading (nat_lt 65536 (r.width + w)) _ (λ p. (done : List ℕ) → Leads syn r.state done → Leads syn p.state (done ++ c ∷ [])) (λ done l. leads_on r.state q c done small e l)

  all_read : (chars : List ℕ) (r : Reading State Kind) → r.count ≡ length chars → (more : List ℕ) → drop r.count chars ++ more ≡ more
  all_read chars r all more = ap (λ x. x ++ more) (drop_all r.count chars (omega (arith, all)))

  read_final : (r : Reading State Kind) (more : List ℕ) → syn.machine.is_final r.state ≡ true → read_from syn r more ≡ found r.last
  read_final r [] e = refl
  read_final r (c ∷ more) e = ap (λ o. goes (by_state syn o r (len_utf8 c)) (λ q. read_from syn q more) (λ f. f)) (law.stuck r.state c e)

  -- the whole text is read
  pub front_whole : (chars : List ℕ) (r : Reading State Kind) → IsReading syn chars r → r.count ≡ length chars → front_of syn (chars ++ []) ≡ found r.last
  front_whole chars r is all = is.reads [] ∙ ap (read_from syn r) (all_read chars r all [])

  -- a final state is reached
  pub front_final : (chars : List ℕ) (r : Reading State Kind) → IsReading syn chars r → r.count ≡ length chars → syn.machine.is_final r.state ≡ true → (more : List ℕ) → front_of syn (chars ++ more) ≡ found r.last
  front_final chars r is all e more = is.reads more ∙ ap (read_from syn r) (all_read chars r all more) ∙ read_final r more e

  -- another state is reached
  pub open_at : (chars : List ℕ) (r : Reading State Kind) → IsReading syn chars r → r.count ≡ length chars → syn.machine.is_final r.state ≡ false → IsOpen syn.machine chars
  open_at chars r is all e =
      let on = law.machine.goes_on r.state e in
      (on.0, on.1, on.2, subst (λ x. Spells syn.machine on.0 (x ++ on.1)) (ap (λ n. take n chars) all ∙ take-length chars) (is.leads.back on.0 on.1 on.3))

  pub open_start : IsOpen syn.machine []
  open_start = let on = law.machine.goes_on syn.machine.start law.opens in (on.0, on.1, on.2, subst (λ p. Matches p on.1) (law.machine.starts on.0) on.3)

  pub ruled_more : (f : Front Kind) (chars more : List ℕ) → IsInside f (length chars) → ruled syn f (chars ++ more) ≡ ruled syn f chars
  ruled_more Nothing chars more h = refl
  ruled_more Long chars more h = refl
  ruled_more (Token k n) chars more h = ap (λ b. cond b Nothing (Token k n)) (law.inside k n chars more h.1)

  found_final : (last : Option (Kind × ℕ)) (chars : List ℕ) (q : State) → IsWithin last (length chars) → Leads syn q chars → syn.machine.is_final q ≡ true
      → (more : List ℕ) → ruled syn (found last) (chars ++ more) ≡ ruled syn (found last) chars
  found_final None chars q w leads final more = refl
  found_final (Some x) chars q w leads final more = ap (λ b. cond b Nothing (Token x.0 x.1)) (law.final x.0 x.1 chars more q w.1 leads final)

  pub final_ruled : (chars : List ℕ) (r : Reading State Kind) → IsReading syn chars r → r.count ≡ length chars → syn.machine.is_final r.state ≡ true → (more : List ℕ) → ruled syn (found r.last) (chars ++ more) ≡ ruled syn (found r.last) chars
  final_ruled chars r is all final more = found_final r.last chars r.state (subst (IsWithin r.last) all is.last)
      (subst (Leads syn r.state) (ap (λ n. take n chars) all ∙ take-length chars) is.leads) final more

  pub ended_slice : (xs ys : List ℕ) (from : ℕ) (r : Reading State Kind) (f : Front Kind) → xs ≡ ys → IsReading syn (drop from ys) r
      → ((more : List ℕ) → read_from syn r (unread xs from r.count ++ more) ≡ f) → IsInside f (r.count + length (unread xs from r.count))
      → (more : List ℕ) → token_of syn (drop from ys ++ more) ≡ ruled syn f (drop from ys)
  ended_slice xs ys from r f e is reads inside more =
      let u = unread_is xs ys from r.count e in
      let chars = drop from ys in
      let all : r.count + length (unread xs from r.count) ≡ length chars = ap (λ x. r.count + length x) u ∙ (let n : r.count + length (drop r.count chars) ≡ length chars = omega (arith, is.count, length-drop r.count chars) in n) in
      ap (λ g. ruled syn g (chars ++ more)) (is.reads more ∙ ap (λ x. read_from syn r (x ++ more)) (sym u) ∙ reads more)
      ∙ ruled_more f chars more (subst (IsInside f) all inside)

  pub final_slice : (chars : List ℕ) (q : Reading State Kind) (f : Front Kind) → IsReading syn chars q → q.count ≡ length chars → syn.machine.is_final q.state ≡ true → f ≡ found q.last
      → (more : List ℕ) → token_of syn (chars ++ more) ≡ ruled syn f chars
  final_slice chars q f is all final e more =
      ap (λ g. ruled syn g (chars ++ more)) (front_final chars q is all final more) ∙ final_ruled chars q is all final more ∙ ap (λ g. ruled syn g chars) (sym e)

  pub narrow_at : (chars : List ℕ) (q : Reading State Kind) → IsReading syn chars q → q.count ≡ length chars → width chars ≤ 65536
  narrow_at chars q is all = let w : q.width ≡ width chars = is.width ∙ ap width (ap (λ n. take n chars) all ∙ take-length chars) in omega (arith, w, is.narrow)

  pub whole_slice : (chars : List ℕ) (q : Reading State Kind) (f : Front Kind) → IsReading syn chars q → q.count ≡ length chars → f ≡ found q.last → (more : List ℕ) → more ≡ [] → token_of syn (chars ++ more) ≡ ruled syn f chars
  whole_slice chars q f is all e more none = ap (λ m. token_of syn (chars ++ m)) none ∙ ap (λ g. ruled syn g (chars ++ [])) (front_whole chars q is all)
      ∙ ap (ruled syn (found q.last)) (append-nil chars) ∙ ap (λ g. ruled syn g chars) (sym e)

  cut_narrow : (f : Front Kind) (n : ℕ) (chars : List ℕ) → IsCut f n → width (take n chars) ≤ 65536 → IsNarrow f chars
  cut_narrow Nothing n chars cut h = tt
  cut_narrow Long n chars cut h = tt
  cut_narrow (Token k m) n chars cut h = let w : width (take m chars) ≤ width (take n chars) = width_mono m n chars cut.1 in omega (arith, w, h)

  pub narrow_slice : (chars : List ℕ) (q : Reading State Kind) (f : Front Kind) → IsReading syn chars q → q.count ≡ length chars → IsCut f q.count → IsNarrow f chars
  narrow_slice chars q f is all cut = cut_narrow f q.count chars cut (let w = is.width in omega (arith, w, is.narrow))

  pub narrow_ended : (xs ys : List ℕ) (from : ℕ) (r : Reading State Kind) (f : Front Kind) → xs ≡ ys → IsReading syn (drop from ys) r → IsRead f r.count r.width (unread xs from r.count) → IsNarrow f (drop from ys)
  narrow_ended xs ys from r f e is read =
      let u = unread_is xs ys from r.count e in
      let chars = drop from ys in
      let split : take (r.count + read.some) chars ≡ take r.count chars ++ take read.some (drop r.count chars) = take-add r.count read.some chars in
      let wide : width (take (r.count + read.some) chars) ≡ r.width + width (take read.some (unread xs from r.count)) =
      ap width split ∙ width-append (take r.count chars) (take read.some (drop r.count chars))
      ∙ ap (λ w. w + width (take read.some (drop r.count chars))) (sym is.width) ∙ ap (λ x. r.width + width (take read.some x)) (sym u) in
      cut_narrow f (r.count + read.some) chars read.cut (omega (arith, wide, read.narrow))

  pub ruled_cut : (f : Front Kind) (text : List ℕ) (n : ℕ) → IsCut f n → IsCut (ruled syn f text) n
  ruled_cut Nothing text n h = tt
  ruled_cut Long text n h = tt
  ruled_cut (Token k m) text n h = by_drop (syn.drops k m text)
    where
      by_drop : (b : Bool) → IsCut (cond b Nothing (Token k m)) n
      by_drop true = tt
      by_drop false = h

  pub ruled_narrow : (f : Front Kind) (text chars : List ℕ) → IsNarrow f chars → IsNarrow (ruled syn f text) chars
  ruled_narrow Nothing text chars h = tt
  ruled_narrow Long text chars h = tt
  ruled_narrow (Token k m) text chars h = by_drop (syn.drops k m text)
    where
      by_drop : (b : Bool) → IsNarrow (cond b Nothing (Token k m)) chars
      by_drop true = tt
      by_drop false = h

  -- behind one more byte of a run, which leaves the state as it is
  pub leads_next : (q : State) (i : ℕ) (front : List ℕ) → i < length front → slice_index front i < 128 → syn.machine.next q (slice_index front i) ≡ Some q
      → (done : List ℕ) → Leads syn q (done ++ take i front) → Leads syn q (done ++ take (suc i) front)
  leads_next q i front h low stays done l =
      subst (Leads syn q) (append_assoc done (take i front) (slice_index front i ∷ []) ∙ ap (λ x. done ++ x) (sym (take_one i front h)))
      (leads_on q q (slice_index front i) (done ++ take i front) (omega (arith, low)) (sym stays) l)
