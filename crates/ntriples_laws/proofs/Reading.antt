-- The machine over a token, and the token at the front of a text.
use Rattle.std.proofs.Common.{ℕ, List, [], ◌∷◌, ◌++◌, ◌≡◌, ◌≤◌, ◌+◌, nat_lt, length, take, drop, refl, ap, ap₂, sym, ◌∙◌, subst, arith}
use Rattle.std.proofs.lemmas.Bool.{le-ltb, cond-false}
use Rattle.std.proofs.lemmas.List.{take-append-le}
use Rattle.std.proofs.Math.Seq.{take-length}
use Rattle.std.specs.Prelude.{Option, None, Some}
use Rattle.std.specs.Char.{len_utf8}
use Rattle.text_patterns.specs.Patterns.{Matches}
use Rattle.text_patterns.specs.Machines.{Spells, last_after, rest_after}
use Rattle.ntriples_tokens.specs.declared.kinds.Kind.{Kind}
use Rattle.ntriples_tokens.specs.declared.states.State.{State}
use Rattle.ntriples_tokens.specs.declared.states.State.TheVariants as state
use Rattle.token_scanner.specs.declared.front.Front.TheVariants.{Token}
use Rattle.token_scanner.specs.declared.reading.Reading.{Reading}
use Rattle.token_scanner.specs.declared.place.Place.TheVariants.{Between}
use Rattle.ntriples_tokens.specs.Steps.{next, accepts, class_at}
use Rattle.ntriples_tokens.specs.Machine.{ntriples}
use Rattle.token_scanner.specs.Fronts.{read_from, start, front_of, token_of, ruled, by_state, goes}
use Rattle.ntriples_tokens.specs.Scanning.{scanner, items}
use Rattle.token_scanner.specs.Items.{by_front, by_gap, TokenFirst}
use Rattle.token_scanner.specs.Items.Items.{Item}
use Rattle.token_scanner.specs.Texts.{AreChars}
use Rattle.token_scanner.specs.Widths.{width}
use Rattle.ntriples_tokens.specs.Tested.{ntriples_machine}
use Rattle.token_scanner.proofs.Keeping.{cut_items}

-- the state behind characters
abbrev pub states : Option State → List ℕ → Option State
states o [] = o
states None (c ∷ s) = None
states (Some q) (c ∷ s) = states (next q (class_at c)) s

pub states_append : (o : Option State) (s t : List ℕ) → states o (s ++ t) ≡ states (states o s) t
states_append o [] t = refl
states_append None (c ∷ s) [] = refl
states_append None (c ∷ s) (d ∷ t) = refl
states_append (Some q) (c ∷ s) t = states_append (next q (class_at c)) s t

pub none_states : (s : List ℕ) (p : State) → states None s ≡ Some p → ⊥
none_states [] p e = cc e
none_states (c ∷ s) p e = cc e

-- what is spelled leads to a state that accepts it
pub record Ran (q : State) (k : Kind) (s : List ℕ) : Type 0 where
  pub last : State
  pub leads : states (Some q) s ≡ Some last
  pub accepts : accepts last ≡ Some k

pub ran : (q : State) (k : Kind) (s : List ℕ) → AreChars s → Matches (ntriples.rest q k) s → Ran q k s
ran q k [] chars m = record { last = q; leads = refl; accepts = ntriples_machine.ends_alone q k m }
ran q k (c ∷ s) chars m = by (next q (class_at c)) refl (ntriples_machine.step_to q c k s chars.0 m) (λ p h. ran p k s chars.1 h)
  where
    by : (o : Option State) → next q (class_at c) ≡ o → Matches (rest_after ntriples (next q (class_at c)) k) s → ((p : State) → Matches (ntriples.rest p k) s → Ran p k s) → Ran q k (c ∷ s)
    by None e h go = absurd (subst (λ o. Matches (rest_after ntriples o k) s) e h)
    by (Some p) e h go = let r = go p (subst (λ o. Matches (rest_after ntriples o k) s) e h) in record { last = r.last; leads = ap (λ o. states o s) e ∙ r.leads; accepts = r.accepts }

pub spelled_ran : (k : Kind) (s : List ℕ) → AreChars s → Spells ntriples k s → Ran state.Start k s
spelled_ran k s chars m = ran state.Start k s chars (subst (λ p. Matches p s) (sym (ntriples_machine.starts k)) m)

abbrev pub reading : State → Option (Kind × ℕ) → ℕ → ℕ → Reading State Kind
reading q last n w = record { state = q; last = last; count = n; width = w }

pub stepped : (r : Reading State Kind) (q : State) (c : ℕ) (more : List ℕ) → next r.state (class_at c) ≡ Some q → r.width + len_utf8 c ≤ 65536
    → read_from scanner r (c ∷ more) ≡ read_from scanner (reading q (last_after (accepts q) r.last (r.count + 1)) (r.count + 1) (r.width + len_utf8 c)) more
stepped r q c more e h = ap (λ o. goes (by_state scanner o r (len_utf8 c)) (λ q. read_from scanner q more) (λ f. f)) e
    ∙ ap (λ s. goes s (λ q. read_from scanner q more) (λ f. f)) (cond-false (nat_lt 65536 (r.width + len_utf8 c)) _ _ (le-ltb 65536 (r.width + len_utf8 c) h))

-- over a whole token
pub over : (t rest : List ℕ) (c : ℕ) (r : Reading State Kind) (p : State) (k : Kind) (n w : ℕ) → states (Some r.state) (c ∷ t) ≡ Some p → accepts p ≡ Some k
    → n ≡ r.count + length (c ∷ t) → w ≡ r.width + width (c ∷ t) → w ≤ 65536 → read_from scanner r ((c ∷ t) ++ rest) ≡ read_from scanner (reading p (Some (k, n)) n w) rest
over [] rest c r p k n w e a cn cw le =
    let one : n ≡ r.count + 1 = omega (arith, cn) in
    let wide : w ≡ r.width + len_utf8 c = omega (arith, cw) in
    stepped r p c rest e (omega (arith, wide, le))
    ∙ ap (λ o. read_from scanner (reading p (last_after o r.last (r.count + 1)) (r.count + 1) (r.width + len_utf8 c)) rest) a
    ∙ ap₂ (λ x y. read_from scanner (reading p (Some (k, x)) x y) rest) (sym one) (sym wide)
over (d ∷ t) rest c r p k n w e a cn cw le = by (next r.state (class_at c)) refl
    (λ q e. over t rest d (reading q (last_after (accepts q) r.last (r.count + 1)) (r.count + 1) (r.width + len_utf8 c)) p k n w e a (omega (arith, cn)) (omega (arith, cw)) le)
  where
    by : (o : Option State) → next r.state (class_at c) ≡ o
        → ((q : State) → states (Some q) (d ∷ t) ≡ Some p → read_from scanner (reading q (last_after (accepts q) r.last (r.count + 1)) (r.count + 1) (r.width + len_utf8 c)) ((d ∷ t) ++ rest) ≡ read_from scanner (reading p (Some (k, n)) n w) rest)
        → read_from scanner r ((c ∷ d ∷ t) ++ rest) ≡ read_from scanner (reading p (Some (k, n)) n w) rest
    by None f go = absurd (none_states (d ∷ t) p (ap (λ o. states o (d ∷ t)) (sym f) ∙ e))
    by (Some q) f go = stepped r q c ((d ∷ t) ++ rest) f (omega (arith, cw, le)) ∙ go q (ap (λ o. states o (d ∷ t)) (sym f) ∙ e)

-- no token goes on in the state with what follows
abbrev pub Stops : State → List ℕ → Type 0
Stops p [] = Unit {0}
Stops p (c ∷ rest) = next p (class_at c) ≡ None

pub stopped : (p : State) (k : Kind) (n w : ℕ) (rest : List ℕ) → Stops p rest → read_from scanner (reading p (Some (k, n)) n w) rest ≡ Token k n
stopped p k n w [] s = refl
stopped p k n w (c ∷ rest) s = ap (λ o. goes (by_state scanner o (reading p (Some (k, n)) n w) (len_utf8 c)) (λ q. read_from scanner q rest) (λ f. f)) s

pub front_is : (k : Kind) (c : ℕ) (t rest : List ℕ) (p : State) → states (Some state.Start) (c ∷ t) ≡ Some p → accepts p ≡ Some k → width (c ∷ t) ≤ 65536 → Stops p rest
    → front_of scanner ((c ∷ t) ++ rest) ≡ Token k (length (c ∷ t))
front_is k c t rest p e a w s = over t rest c (start scanner) p k (length (c ∷ t)) (width (c ∷ t)) e a (omega arith) (omega arith) w ∙ stopped p k (length (c ∷ t)) (width (c ∷ t)) rest s

pub taken_all : (t rest : List ℕ) → take (length t) (t ++ rest) ≡ t
taken_all t rest = take-append-le (length t) t rest (omega arith) ∙ take-length t

pub dropped_all : (t : List ℕ) → drop (length t) t ≡ []
dropped_all [] = refl
dropped_all (c ∷ t) = dropped_all t

-- the item of a token at the front
pub item_is : (k : Kind) (c : ℕ) (t rest : List ℕ) (p : State) (at : ℕ) → TokenFirst scanner Between (c ∷ t) → states (Some state.Start) (c ∷ t) ≡ Some p → accepts p ≡ Some k → width (c ∷ t) ≤ 65536 → Stops p rest
    → items Between 0 ((c ∷ t) ++ rest) at ≡ Item k (c ∷ t) at (items Between 0 rest (at + width (c ∷ t)))
item_is k c t rest p at g e a w s =
    let n : ℕ = length (c ∷ t) in
    ap (λ x. by_gap x (λ q. items q 0 (t ++ rest) (at + len_utf8 c)) (by_front (token_of scanner ((c ∷ t) ++ rest)) ((c ∷ t) ++ rest) at (λ n. items Between n (t ++ rest) (at + len_utf8 c)))) g
    ∙ ap (λ f. by_front (ruled scanner f ((c ∷ t) ++ rest)) ((c ∷ t) ++ rest) at (λ n. items Between n (t ++ rest) (at + len_utf8 c))) (front_is k c t rest p e a w s)
    ∙ ap₂ (λ x y. Item k x at y) (taken_all (c ∷ t) rest) (cut_items scanner n c t rest at (omega arith) (omega arith)
    ∙ ap₂ (λ x y. items Between 0 (x ++ rest) (at + width y)) (dropped_all (c ∷ t)) (take-length (c ∷ t)))
