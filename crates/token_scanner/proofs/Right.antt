-- What is read at the front of a text is its longest spelling.
use Rattle.std.proofs.Common.{◌≤◌, ◌-◌, ℕ, List, [], ◌∷◌, ◌++◌, ◌≡◌, ◌<◌, ◌+◌, length, take, drop, get_or, refl, ap, ap₂, sym, ◌∙◌, arith, inl, inr, subst, append_assoc, length-append, append-nil}
use Rattle.std.proofs.Math.Seq.{take-length, take-add}
use Rattle.std.proofs.lemmas.Bool.{cases_lt, ltb-true, ltb-false}
use Rattle.std.specs.Prelude.{Bool, true, false, cond, nat_lt, Option, None, Some}
use Rattle.std.specs.Char.{len_utf8}
use Rattle.text_patterns.specs.Machines.{Spells, IsFirst, HasNone, Settles, IsLast, Reads, last_after}
use Rattle.text_patterns.proofs.Engine.{reads_start, reads_step, reads_dead, reads_begins, stops_here, none_empty}
use Rattle.token_scanner.specs.Scanners.{Scanner}
use Rattle.token_scanner.specs.declared.front.Front.TheVariants.{Long}
use Rattle.token_scanner.specs.declared.reading.Reading.{Reading}
use Rattle.token_scanner.specs.declared.reading.Stepped.TheVariants.{On, Ended}
use Rattle.token_scanner.specs.Fronts.{read_from, start, front_of, found, by_state, goes}
use Rattle.token_scanner.specs.Widths.{width}
use Rattle.token_scanner.specs.Texts.{IsTooLong, AreChars}
use Rattle.token_scanner.specs.Rules.{IsScanner, Right}
use Rattle.token_scanner.proofs.Lists.{get_at, take_at}
use Rattle.token_scanner.proofs.Widths.{width-append, width_mono}

module _ {State Kind : Type 0} (syn : Scanner State Kind) (law : IsScanner syn) where
  not_long : (text : List ℕ) (i : ℕ) → width (take i text) ≤ 65536 → ((k : Kind) (t : List ℕ) → Spells syn.machine k (take (i + 1) text ++ t) → ⊥) → IsTooLong syn text → ⊥
  not_long text i w stuck l = elim (cases_lt i l.count) [
    | inl x ↦
        let e : l.count ≡ (i + 1) + (l.count - (i + 1)) = omega arith in
        let u : List ℕ = take (l.count - (i + 1)) (drop (i + 1) text) in
        let cut : take l.count text ≡ take (i + 1) text ++ u = ap (λ y. take y text) e ∙ take-add (i + 1) (l.count - (i + 1)) text in
        stuck l.front.0 (u ++ l.front.1) (subst (Spells syn.machine l.front.0) (ap (λ y. y ++ l.front.1) cut ∙ append_assoc (take (i + 1) text) u l.front.1) l.front.2)
    | inr x ↦ let m : width (take l.count text) ≤ width (take i text) = width_mono l.count i text x in omega (arith, l.wide, w, m)
  ]

  not_long_end : (text : List ℕ) → width text ≤ 65536 → IsTooLong syn text → ⊥
  not_long_end text w l =
      let m : width (take l.count text) ≤ width (take (length text) text) = width_mono l.count (length text) text l.in_text in
      let e : width (take (length text) text) ≡ width text = ap width (take-length text) in
      omega (arith, l.wide, w, m, e)

  -- the text ends here
  ended : (text : List ℕ) (last : Option (Kind × ℕ)) → IsLast syn.machine text (length text) last → (IsTooLong syn text → ⊥) → Right syn (found last) text
  ended text None l nl = (
    λ k m b s. elim (cases_lt 0 m) [
      | inl x ↦ l k m x b s
      | inr x ↦ let e : m ≡ 0 = omega arith in none_empty syn.machine law.machine law.begins k (subst (λ y. Spells syn.machine k (take y text)) e s)
    ],
    nl,
  )
  ended text (Some x) l nl = (
    record {
      some = l.0;
      in_text = l.1;
      spelled = l.2;
      longest = λ k m b s. elim (cases_lt x.1 m) [ inl y ↦ absurd (l.3 k m y b s) | inr y ↦ y ];
    },
    nl,
  )

  dead : (text : List ℕ) (last : Option (Kind × ℕ)) → Settles syn.machine last text → (IsTooLong syn text → ⊥) → Right syn (found last) text
  dead text None f nl = (subst (HasNone syn.machine) (append-nil text) (f []), nl)
  dead text (Some x) f nl = (subst (λ t. IsFirst syn.machine t x.0 x.1) (append-nil text) (f []), nl)

  abbrev advanced : Reading State Kind → State → ℕ → Reading State Kind
  advanced r q w = record { state = q; last = last_after (syn.machine.accepts q) r.last (r.count + 1); count = r.count + 1; width = r.width + w }

  wide : (done : List ℕ) (r : Reading State Kind) (q : State) (x : ℕ) (xs : List ℕ) (b : Bool) → nat_lt 65536 (r.width + len_utf8 x) ≡ b
      → r.count ≡ length done → r.width ≡ width done
      → Reads syn.machine (done ++ (x ∷ xs)) (r.count + 1) q (last_after (syn.machine.accepts q) r.last (r.count + 1))
      → (r.width + len_utf8 x ≤ 65536 → Right syn (read_from syn (advanced r q (len_utf8 x)) xs) (done ++ (x ∷ xs)))
      → Right syn (goes (cond b (Ended Long) (On (advanced r q (len_utf8 x)))) (λ s. read_from syn s xs) (λ f. f)) (done ++ (x ∷ xs))
  wide done r q x xs false e c w reads go = go (ltb-false 65536 (r.width + len_utf8 x) e)
  wide done r q x xs true e c w reads go =
      let one : List ℕ = x ∷ [] in
      let long : r.count + 1 ≡ length (done ++ one) = omega (arith, c, length-append done one) in
      let text : done ++ (x ∷ xs) ≡ (done ++ one) ++ xs = sym (append_assoc done one (xs)) in
      let cut : take (r.count + 1) (done ++ (x ∷ xs)) ≡ done ++ one = ap₂ take long text ∙ take_at (done ++ one) (xs) in
      let all : width (take (r.count + 1) (done ++ (x ∷ xs))) ≡ r.width + len_utf8 x =
      ap width cut ∙ width-append done one ∙ (let e : width done + (len_utf8 x + 0) ≡ r.width + len_utf8 x = omega (arith, w) in e) in
      let more : 65536 < r.width + len_utf8 x = ltb-true 65536 (r.width + len_utf8 x) e in
      record {
        count = r.count + 1;
        in_text = omega (arith, c, length-append done ((x ∷ xs)));
        wide = subst (λ n. 65536 < n) (sym all) more;
        front = reads_begins syn.machine law.machine (done ++ (x ∷ xs)) (r.count + 1) q (last_after (syn.machine.accepts q) r.last (r.count + 1)) reads;
      }

  moved : (done : List ℕ) (r : Reading State Kind) (x : ℕ) (xs : List ℕ) (o : Option State) → syn.machine.next r.state x ≡ o
      → x < 0x110000 → r.count ≡ length done → r.width ≡ width done → r.width ≤ 65536
      → Reads syn.machine (done ++ (x ∷ xs)) r.count r.state r.last
      → ((q : State) → Reads syn.machine (done ++ (x ∷ xs)) (r.count + 1) q (last_after (syn.machine.accepts q) r.last (r.count + 1))
      → r.width + len_utf8 x ≤ 65536 → Right syn (read_from syn (advanced r q (len_utf8 x)) xs) (done ++ (x ∷ xs)))
      → Right syn (goes (by_state syn o r (len_utf8 x)) (λ q. read_from syn q xs) (λ f. f)) (done ++ (x ∷ xs))
  moved done r x xs o e h c w small_width reads go =
      let here : get_or (done ++ (x ∷ xs)) r.count 0 ≡ x = ap (λ i. get_or (done ++ (x ∷ xs)) i 0) c ∙ get_at done x (xs) in
      let in_text : r.count < length (done ++ (x ∷ xs)) = omega (arith, c, length-append done ((x ∷ xs))) in
      let small : get_or (done ++ (x ∷ xs)) r.count 0 < 0x110000 = subst (λ y. y < 0x110000) (sym here) h in
      by_case o e here in_text small
    where
      by_case : (o : Option State) → syn.machine.next r.state x ≡ o → get_or (done ++ (x ∷ xs)) r.count 0 ≡ x
          → r.count < length (done ++ (x ∷ xs)) → get_or (done ++ (x ∷ xs)) r.count 0 < 0x110000
          → Right syn (goes (by_state syn o r (len_utf8 x)) (λ q. read_from syn q xs) (λ f. f)) (done ++ (x ∷ xs))
      by_case None e here in_text small = dead (done ++ (x ∷ xs)) r.last
          (reads_dead syn.machine law.machine law.begins (done ++ (x ∷ xs)) r.count r.state r.last in_text small reads (ap (syn.machine.next r.state) here ∙ e))
          (let cut : take r.count (done ++ (x ∷ xs)) ≡ done = ap (λ i. take i (done ++ (x ∷ xs))) c ∙ take_at done ((x ∷ xs)) in
          let same : width (take r.count (done ++ (x ∷ xs))) ≡ r.width = ap width cut ∙ sym w in
          not_long (done ++ (x ∷ xs)) r.count (omega (arith, same, small_width))
          (stops_here syn.machine law.machine (done ++ (x ∷ xs)) r.count r.state r.last in_text small reads (ap (syn.machine.next r.state) here ∙ e)))
      by_case (Some q) e here in_text small =
          let on : Reads syn.machine (done ++ (x ∷ xs)) (r.count + 1) q (last_after (syn.machine.accepts q) r.last (r.count + 1)) =
          reads_step syn.machine law.machine (done ++ (x ∷ xs)) r.count r.state q r.last (syn.machine.accepts q) in_text small reads (ap (syn.machine.next r.state) here ∙ e) refl in
          wide done r q x xs (nat_lt 65536 (r.width + len_utf8 x)) refl c w on (go q on)

  pub read_right : (done : List ℕ) (r : Reading State Kind) (xs : List ℕ) → AreChars xs → r.count ≡ length done → r.width ≡ width done → r.width ≤ 65536
      → Reads syn.machine (done ++ xs) r.count r.state r.last → Right syn (read_from syn r xs) (done ++ xs)
  read_right done r [] ok c w small reads = ended (done ++ []) r.last (subst (λ i. IsLast syn.machine (done ++ []) i r.last) (c ∙ ap length (sym (append-nil done))) reads.ending)
      (let same : width (done ++ []) ≡ r.width = ap width (append-nil done) ∙ sym w in not_long_end (done ++ []) (omega (arith, same, small)))
  read_right done r (x ∷ xs) ok c w small reads = moved done r x xs (syn.machine.next r.state x) refl ok.0 c w small reads
      (λ q on within.
      let one : List ℕ = x ∷ [] in
      let text : (done ++ one) ++ xs ≡ done ++ (x ∷ xs) = append_assoc done one (xs) in
      let e : (width done + (len_utf8 x + 0)) ≡ r.width + len_utf8 x = omega (arith, w) in
      subst (Right syn (read_from syn (advanced r q (len_utf8 x)) xs)) text
      (read_right (done ++ one) (advanced r q (len_utf8 x)) xs ok.1 (omega (arith, c, length-append done one)) (sym (width-append done one ∙ e)) within
      (subst (λ t. Reads syn.machine t (r.count + 1) q (last_after (syn.machine.accepts q) r.last (r.count + 1))) (sym text) on)))

  -- what the machine reads at the front of a text is its first token
  pub front_right : (xs : List ℕ) → AreChars xs → Right syn (front_of syn xs) xs
  front_right xs ok = read_right [] (start syn) xs ok refl refl (omega arith) (reads_start syn.machine law.machine xs)
