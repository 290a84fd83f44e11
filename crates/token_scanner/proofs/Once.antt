-- A text has one list of items.
use Rattle.std.proofs.Common.{ℕ, zero, suc, List, [], ◌∷◌, ◌++◌, ◌≡◌, ◌<◌, ◌≤◌, ◌+◌, length, take, drop, get_or, refl, ap, ap₂, sym, ◌∙◌, subst, arith, append-nil}
use Rattle.std.proofs.Math.Seq.{take-length}
use Rattle.std.proofs.lemmas.List.{take-append-le}
use Rattle.std.specs.Prelude.{⊤, Option, None, Some}
use Rattle.text_patterns.specs.Patterns.{Pattern}
use Rattle.text_patterns.specs.Machines.{Spells, Reads, last_after}
use Rattle.text_patterns.proofs.Engine.{reads_start, reads_step, stops_here, reads_whole_alone}
use Rattle.token_scanner.specs.Scanners.{Scanner}
use Rattle.token_scanner.specs.declared.place.Place.{Place}
use Rattle.token_scanner.specs.declared.place.Place.TheVariants.{Beginning, Between}
use Rattle.token_scanner.specs.declared.place.Gap.{Gap}
use Rattle.token_scanner.specs.declared.place.Gap.TheVariants as gap
use Rattle.token_scanner.specs.Gaps.{gap_at}
use Rattle.token_scanner.specs.Widths.{width}
use Rattle.token_scanner.specs.Items.{Items, TokenFirst}
use Rattle.token_scanner.specs.Items.Items.{Stop, Bad, TooLong, Item}
use Rattle.token_scanner.specs.Texts.{IsTried, IsToken, HasNoToken, IsTooLong, IsGap, AreItems, AreChars}
use Rattle.token_scanner.specs.Rules.{IsScanner}
use Rattle.token_scanner.proofs.Lists.{split, all_rest, all_take, char_at, head_is, tail_is, append_cut}

abbrev Begins : Gap → Type 0
Begins gap.Token = ⊤
Begins (gap.Skip p) = ⊥

abbrev led : Gap → Place
led gap.Token = Beginning
led (gap.Skip p) = p

not_both : (g : Gap) (q : Place) → g ≡ gap.Token → g ≡ gap.Skip q → ⊥
not_both g q a b = subst Begins (sym a ∙ b) tt

some_is : {A : Type 0} (j k : A) → Some j ≡ Some k → j ≡ k
some_is j k e = cc

module _ {State Kind : Type 0} (syn : Scanner State Kind) (law : IsScanner syn) where
  gap_unique : (p : Place) (g h rest other : List ℕ) → g ++ rest ≡ h ++ other → IsGap syn p g rest → IsGap syn p h other → (g ≡ h) × (rest ≡ other)
  gap_unique p [] [] rest other e i j = (refl, e)
  gap_unique p [] (y ∷ h) rest other e i j = absurd (not_both (gap_at syn.lines p y) j.0 (subst (TokenFirst syn p) e i) j.1)
  gap_unique p (x ∷ g) [] rest other e i j = absurd (not_both (gap_at syn.lines p x) i.0 (subst (TokenFirst syn p) (sym e) j) i.1)
  gap_unique p (x ∷ g) (y ∷ h) rest other e i j =
      let head = head_is x y (g ++ rest) (h ++ other) e in
      let same : i.0 ≡ j.0 = ap led (sym i.1 ∙ ap (gap_at syn.lines p) head ∙ j.1) in
      let inner = gap_unique i.0 g h rest other (tail_is x y (g ++ rest) (h ++ other) e) i.2 (subst (λ d. IsGap syn d h other) (sym same) j.2) in
      (ap₂ (λ a b. a ∷ b) head inner.0, inner.1)

  length_unique : (text : List ℕ) (k j : Kind) (n m : ℕ) → IsToken syn text k n → IsToken syn text j m → n ≡ m
  length_unique text k j n m a b = let x : m ≤ n = a.longest j m b.in_text b.spelled in let y : n ≤ m = b.longest k n a.in_text a.spelled in omega (arith, x, y)

  -- what is spelled is read to its end, so it is of one kind
  record Ran (text : List ℕ) : Type 0 where
    pub state : State
    pub last : Option (Kind × ℕ)
    pub reads : Reads syn.machine text (length text) state last

  run : (left i : ℕ) (text : List ℕ) (k : Kind) → i + left ≡ length text → AreChars text → Spells syn.machine k text → (q : State) (last : Option (Kind × ℕ)) → Reads syn.machine text i q last → Ran text
  run zero i text k e chars s q last r = record { state = q; last = last; reads = subst (λ n. Reads syn.machine text n q last) (let p : i ≡ length text = omega arith in p) r }
  run (suc left) i text k e chars s q last r =
      let small = char_at text i chars (omega arith) in
      by_next (syn.machine.next q (get_or text i 0)) refl small (λ p on. run left (i + 1) text k (omega arith) chars s p (last_after (syn.machine.accepts p) last (i + 1)) on)
    where
      by_next : (o : Option State) → syn.machine.next q (get_or text i 0) ≡ o → get_or text i 0 < 0x110000
          → ((p : State) → Reads syn.machine text (i + 1) p (last_after (syn.machine.accepts p) last (i + 1)) → Ran text) → Ran text
      by_next None n small go = absurd (stops_here syn.machine law.machine text i q last (omega arith) small r n k (drop (i + 1) text) (subst (Spells syn.machine k) (split (i + 1) text) s))
      by_next (Some p) n small go = go p (reads_step syn.machine law.machine text i q p last (syn.machine.accepts p) (omega arith) small r n refl)

  kind_unique : (text : List ℕ) (j k : Kind) → AreChars text → Spells syn.machine j text → Spells syn.machine k text → j ≡ k
  kind_unique text j k chars a b =
      let r = run (length text) 0 text j (omega arith) chars a syn.machine.start None (reads_start syn.machine law.machine text) in
      some_is j k (sym (reads_whole_alone syn.machine law.machine text r.state r.last r.reads j a) ∙ reads_whole_alone syn.machine law.machine text r.state r.last r.reads k b)

  -- what is tried is of one kind
  tried_unique : (o : Option (Kind × Pattern)) (text : List ℕ) (j k : Kind) → AreChars text → IsTried syn o j text → IsTried syn o k text → j ≡ k
  tried_unique None text j k chars a b = kind_unique text j k chars a b
  tried_unique (Some q) text j k chars a b = a.0 ∙ sym b.0

  -- a whole gap leaves nothing
  gap_whole : (p : Place) (text g rest : List ℕ) → IsGap syn p text [] → text ≡ g ++ rest → IsGap syn p g rest → 0 < length rest → ⊥
  gap_whole p text g rest i e j h = let u = gap_unique p text g [] rest (append-nil text ∙ e) i j in let n : 0 ≡ length rest = ap length u.1 in omega arith

  first_some : (text : List ℕ) (k : Kind) (n : ℕ) → IsToken syn text k n → 0 < length text
  first_some text k n f = omega (arith, f.some, f.in_text)

  none_first : (text : List ℕ) (k : Kind) (n : ℕ) → HasNoToken syn text → IsToken syn text k n → ⊥
  none_first text k n none f = none k n f.in_text f.spelled

  same_rest : (p : Place) (text g h rest other : List ℕ) → text ≡ g ++ rest → text ≡ h ++ other → IsGap syn p g rest → IsGap syn p h other → (g ≡ h) × (rest ≡ other)
  same_rest p text g h rest other a b i j = gap_unique p g h rest other (sym a ∙ b) i j

  pub unique : (i j : Items Kind) (p : Place) (text : List ℕ) (at : ℕ) → AreChars text → AreItems syn p text at i → AreItems syn p text at j → i ≡ j
  unique (Stop m) (Stop n) p text at c a b = ap Stop (a.1 ∙ sym b.1)
  unique (Stop m) (Bad n) p text at c a b = absurd (gap_whole p text b.0 b.1 a.0 b.2 b.3 b.4)
  unique (Stop m) (TooLong n) p text at c a b = absurd (gap_whole p text b.0 b.1 a.0 b.2 b.3 b.4)
  unique (Stop m) (Item k s n more) p text at c a b = absurd (gap_whole p text b.0 (s ++ b.1) a.0 b.2 b.3 (first_some (s ++ b.1) k (length s) b.4))
  unique (Bad m) (Stop n) p text at c a b = absurd (gap_whole p text a.0 a.1 b.0 a.2 a.3 a.4)
  unique (Bad m) (Bad n) p text at c a b = let s = same_rest p text a.0 b.0 a.1 b.1 a.2 b.2 a.3 b.3 in ap Bad (a.7 ∙ ap (λ g. at + width g) s.0 ∙ sym b.7)
  unique (Bad m) (TooLong n) p text at c a b = let s = same_rest p text a.0 b.0 a.1 b.1 a.2 b.2 a.3 b.3 in absurd (a.6 (subst (IsTooLong syn) (sym s.1) b.5))
  unique (Bad m) (Item k t n more) p text at c a b =
      let s = same_rest p text a.0 b.0 a.1 (t ++ b.1) a.2 b.2 a.3 b.3 in absurd (none_first (t ++ b.1) k (length t) (subst (HasNoToken syn) s.1 a.5) b.4)
  unique (TooLong m) (Stop n) p text at c a b = absurd (gap_whole p text a.0 a.1 b.0 a.2 a.3 a.4)
  unique (TooLong m) (Bad n) p text at c a b = let s = same_rest p text a.0 b.0 a.1 b.1 a.2 b.2 a.3 b.3 in absurd (b.6 (subst (IsTooLong syn) s.1 a.5))
  unique (TooLong m) (TooLong n) p text at c a b = let s = same_rest p text a.0 b.0 a.1 b.1 a.2 b.2 a.3 b.3 in ap TooLong (a.6 ∙ ap (λ g. at + width g) s.0 ∙ sym b.6)
  unique (TooLong m) (Item k t n more) p text at c a b = let s = same_rest p text a.0 b.0 a.1 (t ++ b.1) a.2 b.2 a.3 b.3 in absurd (b.5 (subst (IsTooLong syn) s.1 a.5))
  unique (Item k t m more) (Stop n) p text at c a b = absurd (gap_whole p text a.0 (t ++ a.1) b.0 a.2 a.3 (first_some (t ++ a.1) k (length t) a.4))
  unique (Item k t m more) (Bad n) p text at c a b =
      let s = same_rest p text a.0 b.0 (t ++ a.1) b.1 a.2 b.2 a.3 b.3 in absurd (none_first (t ++ a.1) k (length t) (subst (HasNoToken syn) (sym s.1) b.5) a.4)
  unique (Item k t m more) (TooLong n) p text at c a b = let s = same_rest p text a.0 b.0 (t ++ a.1) b.1 a.2 b.2 a.3 b.3 in absurd (a.5 (subst (IsTooLong syn) (sym s.1) b.5))
  unique (Item k t m more) (Item j u n other) p text at c a b =
      let s = same_rest p text a.0 b.0 (t ++ a.1) (u ++ b.1) a.2 b.2 a.3 b.3 in
      let long = length_unique (t ++ a.1) k j (length t) (length u) a.4 (subst (λ x. IsToken syn x j (length u)) (sym s.1) b.4) in
      let cut = append_cut t u a.1 b.1 long s.1 in
      let place : m ≡ n = a.6 ∙ ap (λ g. at + width g) s.0 ∙ sym b.6 in
      let whole : AreChars (t ++ a.1) = all_rest a.0 (t ++ a.1) (subst AreChars a.2 c) in
      let front : take (length t) (t ++ a.1) ≡ t = take-append-le (length t) t a.1 (omega arith) ∙ take-length t in
      let marks = syn.only (t ++ a.1) in
      let mine : IsTried syn marks k t = subst (IsTried syn marks k) front a.4.spelled in
      let other_front : take (length u) (u ++ b.1) ≡ u = take-append-le (length u) u b.1 (omega arith) ∙ take-length u in
      let yours : IsTried syn marks j t = subst (λ x. IsTried syn (syn.only x) j t) (sym s.1) (subst (IsTried syn (syn.only (u ++ b.1)) j) (other_front ∙ sym cut.0) b.4.spelled) in
      let kinds : k ≡ j = tried_unique marks t k j (subst AreChars front (all_take (length t) (t ++ a.1) whole)) mine yours in
      let inner = unique more other Between a.1 (m + width t) (all_rest t a.1 whole) a.7
      (subst (λ x. AreItems syn Between x (m + width t) other) (sym cut.1) (subst (λ x. AreItems syn Between b.1 x other) (ap₂ (λ x y. x + width y) (sym place) (sym cut.0)) b.7)) in
      ap (λ x. Item x t m more) kinds ∙ ap (λ x. Item j x m more) cut.0 ∙ ap (λ x. Item j u x more) place ∙ ap (λ x. Item j u n x) inner
