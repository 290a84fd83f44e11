-- What the parts of a document do to a graph that is numbered by first coming.
use Rattle.std.proofs.Common.{ℕ, List, [], ◌∷◌, ◌++◌, ◌≡◌, ◌<◌, ◌≤◌, ◌+◌, ◌⊎◌, ◌&&◌, ◌||◌, not, nat_lt, nat_le, cond, Bool, true, false, length, map, is_some, bytes_eq, refl, ap, ap₂, sym, ◌∙◌, subst, arith, inl, inr, append-nil, true≢false, length-append}
use Rattle.std.proofs.lemmas.Bool.{false≢true, cond_both, cond-true, cond-false, cases_Bool, ltb-true}
use Rattle.std.proofs.lemmas.Bool.Decides.{nat_tests}
use Rattle.std.specs.Prelude.{Option, None, Some, max}
use Rattle.std.specs.List.{list_any, position_or_len}
use Rattle.rdf_terms.specs.Naming.{NameLists, same_literal, name_count, has_iri, iri_number, with_iri, has_literal, literal_number, with_literal}
use Rattle.rdf_terms.specs.Terms.{same_term, same_terms, is_held}
use Rattle.rdf_terms.specs.Terms as held
use Rattle.rdf_terms.specs.Fitting.{is_iri, is_literal}
use Rattle.rdf_terms.specs.declared.terms.Code.TheVariants.{L4, L5}
use Rattle.rdf_terms.specs.declared.terms.Literal.{Literal}
use Rattle.rdf_terms.specs.declared.terms.Term.{Term}
use Rattle.rdf_terms.specs.declared.terms.Term.TheVariants.{Iri, Blank, Lit}
use Rattle.rdf_terms.specs.declared.terms.Triple.{Triple}
use Rattle.rdf_terms.proofs.TermLemmas.{same_term-refl, same_terms-true}
use Rattle.rdf_terms.proofs.Numbered.{map_push}
use Rattle.rdf_reading.specs.Room.{is_full_iri, is_full_literal, has_room}
use Rattle.ntriples_laws.specs.Canonical.{terms_of}
use Rattle.ntriples_laws.proofs.Numbering.{joins, any_is, position_le, joins_length}
use Rattle.ntriples_laws.proofs.Labels.{bytes_self}
use Rattle.ntriples_laws.proofs.Replaying.{same_three, held_by_terms, with_new, with_old}
use Rattle.turtle_environments.specs.Tables.{value_of}
use Rattle.turtle_environments.specs.Tables as tables
use Rattle.turtle_environments.specs.Blanks.{label_number, number_by, with_label, with_label_by}
use Rattle.turtle_environments.specs.Storing.{StoreState, iri_term, with_name, literal_term, with_value, added}
use Rattle.reading_laws.specs.Meaning.{Graph, node, with_node, with_triple}
use Rattle.reading_laws.specs.Numbering.{Counts, nothing, Comes, behind, AreNumbered, terms, IsOnce}
use Rattle.reading_laws.proofs.Numbers.{Known, AllKnown, Within, all_within, behind_within, numbered_push, numbered_split, numbered_known, numbered_same, terms_push, once_push}

abbrev pub counts_of : NameLists → ℕ → Counts
counts_of names blanks = record { iris = length names.iris; blanks = blanks; literals = length names.literals }

abbrev pub counts : Graph → Counts
counts g = counts_of g.store.names g.blanks.count

-- the numbers of labels are below the count
abbrev pub AllBelow : List (List ℕ × ℕ) → ℕ → Type 0
AllBelow [] n = Unit {0}
AllBelow (e ∷ es) n = (e.1 < n) × AllBelow es n

-- subjects are no literals, and predicates are IRIs
abbrev pub AreNodes : List Triple → Type 0
AreNodes [] = Unit {0}
AreNodes (t ∷ ts) = (is_literal t.s ≡ false) × (is_iri t.p ≡ true) × AreNodes ts

-- The terms of the triples, and then some that stand in none yet, come in turn.
pub record Orderly (g : Graph) (ks ps : List Term) : Type 0 where
  pub unfull : g.store.full ≡ false
  pub fine : g.store.limit ≡ None
  pub numbered : AreNumbered nothing (terms g.store.triples ++ ps) (counts g)
  pub keeps : AllKnown (counts g) ks
  pub iris : IsOnce g.store.names.iris
  pub literals : IsOnce g.store.names.literals
  pub triples : IsOnce (map terms_of g.store.triples)
  pub nodes : AreNodes g.store.triples
  pub labels : AllBelow g.blanks.labels g.blanks.count
  pub few : name_count g.store.names ≤ 262144
  pub short : length g.store.triples ≤ 262144

-- a triple passed a limit, or the next one will
abbrev pub IsLimited : StoreState → Type 0
IsLimited s = is_some s.limit ≡ true

abbrev pub IsLost : StoreState → Type 0
IsLost s = (s.full ≡ true) ⊎ IsLimited s

abbrev pub Pre : Graph → List Term → List Term → Type 0
Pre g ks ps = IsLost g.store ⊎ Orderly g ks ps

abbrev pub Post : Graph → List Term → Type 0
Post g ks = IsLimited g.store ⊎ Orderly g ks []

-- tests of terms
three_self : (x : Term × Term × Term) → same_three x x ≡ true
three_self x = ap₂ (λ a b. (a && same_term x.1 x.1) && b) (same_term-refl x.0) (same_term-refl x.2) ∙ ap (λ a. (true && a) && true) (same_term-refl x.1)

pub literal_self : (v : Literal) → same_literal v v ≡ true
literal_self v = ap₂ (λ a b. a && (bytes_eq v.datatype v.datatype && b)) (bytes_self v.lexical) (bytes_self v.tag) ∙ ap (λ a. true && (a && true)) (bytes_self v.datatype)

-- a list with one more name
pub count_join : {X : Type 0} (p : X → Bool) (xs : List X) (q : X) → length (joins p xs q) ≡ max (length xs) (position_or_len p xs + 1)
count_join {X} p xs q = by (list_any p xs) (any_is p xs)
  where
    by : (b : Bool) → b ≡ nat_lt (position_or_len p xs) (length xs) → length (cond b xs (xs ++ q ∷ [])) ≡ max (length xs) (position_or_len p xs + 1)
    by true e = omega (arith, ltb-true (position_or_len p xs) (length xs) (sym e))
    by false e =
        let same : position_or_len p xs ≡ length xs = grind (arith, nat_tests, e, position_le p xs) in
        omega (arith, same, length-append xs (q ∷ []))

pub once_join : {X : Type 0} (e : X → X → Bool) → ((x : X) → e x x ≡ true) → (xs : List X) (q : X) → IsOnce xs → IsOnce (joins (e q) xs q)
once_join {X} e self xs q once = by (list_any (e q) xs) refl
  where
    by : (b : Bool) → list_any (e q) xs ≡ b → IsOnce (cond b xs (xs ++ q ∷ []))
    by true f = once
    by false f = once_push e self xs q f once

pub few_join : (b : Bool) (n m c : ℕ) → (not b && nat_le 262144 c) ≡ false → c ≤ 262144 → (b ≡ true → m ≡ n) → m ≤ n + 1 → c + m ≤ 262144 + n
few_join true n m c h k f g = omega (arith, f refl, k)
few_join false n m c h k f g = let small : c < 262144 = grind (arith, nat_tests, h) in omega (arith, small, g)

pub most_join : {X : Type 0} (p : X → Bool) (xs : List X) (q : X) → (list_any p xs ≡ true → length (joins p xs q) ≡ length xs) × (length (joins p xs q) ≤ length xs + 1)
most_join p xs q = (λ e. ap length (cond-true (list_any p xs) xs (xs ++ q ∷ []) e), (joins_length p xs q).1)

-- what a name does to a store
name_lost : (s : StoreState) (text : List ℕ) → IsLost s → IsLost (with_name s text)
name_lost s text (inl h) = inl (ap (λ b. (cond b s (cond (is_full_iri s.names text) (record s { full = true }) (record s { names = with_iri s.names text }))).full) h ∙ h)
name_lost s text (inr h) = inr (ap (λ l. is_some l) (cond_both {A = StoreState} s.full _ _ (λ x. x.limit ≡ s.limit) (λ e. refl) (λ e. cond_both {A = StoreState} (is_full_iri s.names text) _ _ (λ x. x.limit ≡ s.limit) (λ e. refl) (λ e. refl))) ∙ h)

value_lost : (s : StoreState) (v : Literal) → IsLost s → IsLost (with_value s v)
value_lost s v (inl h) = inl (ap (λ b. (cond b s (cond (is_full_literal s.names v) (record s { full = true }) (record s { names = with_literal s.names v }))).full) h ∙ h)
value_lost s v (inr h) = inr (ap (λ l. is_some l) (cond_both {A = StoreState} s.full _ _ (λ x. x.limit ≡ s.limit) (λ e. refl) (λ e. cond_both {A = StoreState} (is_full_literal s.names v) _ _ (λ x. x.limit ≡ s.limit) (λ e. refl) (λ e. refl))) ∙ h)

added_lost : (s : StoreState) (t : Triple) → IsLost s → IsLimited (added s t)
added_lost s t h = elim (cases_Bool (is_some s.limit)) [
  | inl e ↦ ap is_some (ap (λ x. x.limit) (cond-true (is_some s.limit) s _ e)) ∙ e
  | inr e ↦ elim h [
    | inl f ↦ ap (λ x. is_some x.limit) (cond-false (is_some s.limit) s _ e ∙ cond-true s.full _ _ f)
    | inr f ↦ absurd (true≢false (sym f ∙ e))
  ]
]

-- a term more, of which the names or the blank nodes are behind
pub moved : (g h : Graph) (ks ps : List Term) (t : Term) → Orderly g ks ps → h.store.triples ≡ g.store.triples → h.store.full ≡ false → h.store.limit ≡ None
    → Comes (counts g) t → counts h ≡ behind (counts g) t → IsOnce h.store.names.iris → IsOnce h.store.names.literals → AllBelow h.blanks.labels h.blanks.count → name_count h.store.names ≤ 262144
    → Orderly h ks (ps ++ t ∷ [])
moved g h ks ps t o same unfull fine comes count iris literals labels few = record {
  unfull = unfull;
  fine = fine;
  numbered = subst (λ ts. AreNumbered nothing (terms ts ++ (ps ++ t ∷ [])) (counts h)) (sym same)
      (subst (AreNumbered nothing (terms g.store.triples ++ (ps ++ t ∷ []))) (sym count) (numbered_push nothing (terms g.store.triples) ps t (counts g) o.numbered comes));
  keeps = all_within (counts g) (counts h) (subst (Within (counts g)) (sym count) (behind_within (counts g) t)) ks o.keeps;
  iris = iris;
  literals = literals;
  triples = subst (λ ts. IsOnce (map terms_of ts)) (sym same) o.triples;
  nodes = subst AreNodes (sym same) o.nodes;
  labels = labels;
  few = few;
  short = subst (λ ts. length ts ≤ 262144) (sym same) o.short;
}

below_more : (es : List (List ℕ × ℕ)) (n : ℕ) → AllBelow es n → AllBelow es (n + 1)
below_more [] n h = tt
below_more (e ∷ es) n h = (omega (arith, h.0), below_more es n h.1)

pub node_step : (g : Graph) (ks ps : List Term) → Pre g ks ps → Pre (with_node g) ks (ps ++ (node g) ∷ [])
node_step g ks ps (inl h) = inl h
node_step g ks ps (inr o) =
    let most : g.blanks.count + 1 ≡ max g.blanks.count (g.blanks.count + 1) = omega arith in
    inr (moved g (with_node g) ks ps (node g) o refl o.unfull o.fine (omega arith) (ap (λ n. counts_of g.store.names n) most) o.iris o.literals (below_more g.blanks.labels g.blanks.count o.labels) o.few)

pub name_step : (g : Graph) (ks ps : List Term) (text : List ℕ) → Pre g ks ps → Pre (record g { store = with_name g.store text }) ks (ps ++ (iri_term g.store text) ∷ [])
name_step g ks ps text (inl h) = inl (name_lost g.store text h)
name_step g ks ps text (inr o) = by (is_full_iri g.store.names text) refl
  where
    n : ℕ
    n = iri_number g.store.names text

    plain : StoreState
    plain = record g.store { names = with_iri g.store.names text }

    by : (b : Bool) → is_full_iri g.store.names text ≡ b → Pre (record g { store = with_name g.store text }) ks (ps ++ (iri_term g.store text) ∷ [])
    by true e = inl (inl (ap (λ x. x.full) (cond-false g.store.full g.store _ o.unfull ∙ cond-true (is_full_iri g.store.names text) _ _ e)))
    by false e =
        let text_eq : with_name g.store text ≡ plain = cond-false g.store.full g.store _ o.unfull ∙ cond-false (is_full_iri g.store.names text) _ _ e in
        let term_eq : iri_term g.store text ≡ Iri n = cond-false g.store.full (Iri 0) _ o.unfull ∙ cond-false (is_full_iri g.store.names text) (Iri 0) (Iri n) e in
        let few : length plain.names.iris + length plain.names.literals ≤ 262144 =
        omega (
          arith,
          few_join (has_iri g.store.names text) (length g.store.names.iris) (length plain.names.iris) (name_count g.store.names) e o.few
              (most_join (bytes_eq text) g.store.names.iris text).0 (most_join (bytes_eq text) g.store.names.iris text).1,
        ) in
        subst (λ x. Pre (record g { store = x }) ks (ps ++ (iri_term g.store text) ∷ [])) (sym text_eq)
        (subst (λ u. Pre (record g { store = plain }) ks (ps ++ u ∷ [])) (sym term_eq) (inr (moved g (record g { store = plain }) ks ps (Iri n) o refl o.unfull o.fine (position_le (bytes_eq text) g.store.names.iris)
        (ap (λ k. record { iris = k; blanks = g.blanks.count; literals = length g.store.names.literals }) (count_join (bytes_eq text) g.store.names.iris text))
        (once_join bytes_eq bytes_self g.store.names.iris text o.iris) o.literals o.labels few)))

pub value_step : (g : Graph) (ks ps : List Term) (v : Literal) → Pre g ks ps → Pre (record g { store = with_value g.store v }) ks (ps ++ (literal_term g.store v) ∷ [])
value_step g ks ps v (inl h) = inl (value_lost g.store v h)
value_step g ks ps v (inr o) = by (is_full_literal g.store.names v) refl
  where
    n : ℕ
    n = literal_number g.store.names v

    plain : StoreState
    plain = record g.store { names = with_literal g.store.names v }

    by : (b : Bool) → is_full_literal g.store.names v ≡ b → Pre (record g { store = with_value g.store v }) ks (ps ++ (literal_term g.store v) ∷ [])
    by true e = inl (inl (ap (λ x. x.full) (cond-false g.store.full g.store _ o.unfull ∙ cond-true (is_full_literal g.store.names v) _ _ e)))
    by false e =
        let text_eq : with_value g.store v ≡ plain = cond-false g.store.full g.store _ o.unfull ∙ cond-false (is_full_literal g.store.names v) _ _ e in
        let term_eq : literal_term g.store v ≡ Lit n = cond-false g.store.full (Iri 0) _ o.unfull ∙ cond-false (is_full_literal g.store.names v) (Iri 0) (Lit n) e in
        let few : length plain.names.iris + length plain.names.literals ≤ 262144 =
        omega (
          arith,
          few_join (has_literal g.store.names v) (length g.store.names.literals) (length plain.names.literals) (name_count g.store.names) e o.few
              (most_join (same_literal v) g.store.names.literals v).0 (most_join (same_literal v) g.store.names.literals v).1,
        ) in
        subst (λ x. Pre (record g { store = x }) ks (ps ++ (literal_term g.store v) ∷ [])) (sym text_eq)
        (subst (λ u. Pre (record g { store = plain }) ks (ps ++ u ∷ [])) (sym term_eq) (inr (moved g (record g { store = plain }) ks ps (Lit n) o refl o.unfull o.fine (position_le (same_literal v) g.store.names.literals)
        (ap (λ k. record { iris = length g.store.names.iris; blanks = g.blanks.count; literals = k }) (count_join (same_literal v) g.store.names.literals v))
        o.iris (once_join same_literal literal_self g.store.names.literals v o.literals) o.labels few)))

-- labels
value_below : (es : List (List ℕ × ℕ)) (text : List ℕ) (n m : ℕ) → AllBelow es n → value_of es text ≡ Some m → m < n
value_below [] text n m h e = absurd (cc e)
value_below (x ∷ es) text n m h e = by (bytes_eq text x.0) e (value_below es text n m h.1)
  where
    by : (b : Bool) → cond b (Some x.1) (value_of es text) ≡ Some m → (value_of es text ≡ Some m → m < n) → m < n
    by true f go = let same : x.1 ≡ m = cc f in omega (arith, same, h.0)
    by false f go = go f

with_below : (es : List (List ℕ × ℕ)) (text : List ℕ) (n : ℕ) → AllBelow es n → AllBelow (tables.with_value es text n) (n + 1)
with_below [] text n h = (omega arith, tt)
with_below (x ∷ es) text n h = cond_both (bytes_eq text x.0) _ _ (λ y. AllBelow y (n + 1)) (λ e. (omega arith, below_more es n h.1)) (λ e. (omega (arith, h.0), with_below es text n h.1))

pub label_step : (g : Graph) (ks ps : List Term) (label : List ℕ) → Pre g ks ps → Pre (record g { blanks = with_label g.blanks label }) ks (ps ++ (Blank (label_number g.blanks label)) ∷ [])
label_step g ks ps label (inl h) = inl h
label_step g ks ps label (inr o) = by (value_of g.blanks.labels label) refl
  where
    by : (v : Option ℕ) → value_of g.blanks.labels label ≡ v → Pre (record g { blanks = with_label_by v g.blanks label }) ks (ps ++ (Blank (number_by v g.blanks.count)) ∷ [])
    by None e =
        let most : g.blanks.count + 1 ≡ max g.blanks.count (g.blanks.count + 1) = omega arith in
        inr (moved g (record g { blanks = with_label_by None g.blanks label }) ks ps (Blank g.blanks.count) o refl o.unfull o.fine (omega arith) (ap (λ n. counts_of g.store.names n) most) o.iris o.literals
        (with_below g.blanks.labels label g.blanks.count o.labels) o.few)
    by (Some n) e =
        let low = value_below g.blanks.labels label g.blanks.count n o.labels e in
        let most : g.blanks.count ≡ max g.blanks.count (n + 1) = omega (arith, low) in
        inr (moved g g ks ps (Blank n) o refl o.unfull o.fine (omega (arith, low)) (ap (λ n. counts_of g.store.names n) most) o.iris o.literals o.labels o.few)

nodes_push : (ts : List Triple) (t : Triple) → AreNodes ts → is_literal t.s ≡ false → is_iri t.p ≡ true → AreNodes (ts ++ t ∷ [])
nodes_push [] t h a b = (a, b, tt)
nodes_push (u ∷ ts) t h a b = (h.0, h.1, nodes_push ts t h.2 a b)

-- the terms of a triple that is held came
held_known : (c : Counts) (ts : List Triple) (t : Triple) → AllKnown c (terms ts) → is_held ts t ≡ true → AllKnown c (t.s ∷ t.p ∷ t.o ∷ [])
held_known c [] t k h = absurd (false≢true h)
held_known c (u ∷ ts) t k h = by (same_terms t u) refl h (held_known c ts t k.1.1.1)
  where
    by : (b : Bool) → same_terms t u ≡ b → (b || is_held ts t) ≡ true → (is_held ts t ≡ true → AllKnown c (t.s ∷ t.p ∷ t.o ∷ [])) → AllKnown c (t.s ∷ t.p ∷ t.o ∷ [])
    by true e f go = let three = same_terms-true t u e in (subst (Known c) (sym three.0) k.0, (subst (Known c) (sym three.1) k.1.0, (subst (Known c) (sym three.2) k.1.1.0, tt)))
    by false e f go = go f

no_room : (b : Bool) (n : ℕ) → not (not b && nat_le 262144 n) ≡ true → b ≡ false → n < 262144
no_room b n h e = grind (arith, nat_tests, h, e)

-- a triple for which there is room
pub triple_room : (g : Graph) (ks : List Term) (t : Triple) → is_literal t.s ≡ false → is_iri t.p ≡ true → Orderly g ks (t.s ∷ t.p ∷ t.o ∷ []) → has_room g.store.triples t ≡ true
    → Orderly (record g { store = record g.store { triples = held.with_triple g.store.triples t } }) ks []
triple_room g ks t a b k f = elim (cases_Bool (is_held g.store.triples t)) [
  | inl e ↦ subst (λ us. Orderly (record g { store = record g.store { triples = us } }) ks []) (sym (with_old g.store.triples t e)) (there e)
  | inr e ↦ subst (λ us. Orderly (record g { store = record g.store { triples = us } }) ks []) (sym (with_new g.store.triples t e)) (new e)
]
  where
    there : is_held g.store.triples t ≡ true → Orderly (record g { store = record g.store { triples = g.store.triples } }) ks []
    there e =
        let r = numbered_split nothing (terms g.store.triples) (t.s ∷ t.p ∷ t.o ∷ []) (counts g) k.numbered in
        let same = numbered_same r.0 (t.s ∷ t.p ∷ t.o ∷ []) (counts g) (held_known r.0 g.store.triples t (numbered_known nothing (terms g.store.triples) r.0 r.1) e) r.2 in
        record {
          unfull = k.unfull;
          fine = k.fine;
          numbered = subst (λ us. AreNumbered nothing us (counts g)) (sym (append-nil (terms g.store.triples))) (subst (AreNumbered nothing (terms g.store.triples)) same r.1);
          keeps = k.keeps;
          iris = k.iris;
          literals = k.literals;
          triples = k.triples;
          nodes = k.nodes;
          labels = k.labels;
          few = k.few;
          short = k.short;
        }

    new : is_held g.store.triples t ≡ false → Orderly (record g { store = record g.store { triples = g.store.triples ++ t ∷ [] } }) ks []
    new e = record {
      unfull = k.unfull;
      fine = k.fine;
      numbered = subst (λ us. AreNumbered nothing us (counts g)) (sym (append-nil (terms (g.store.triples ++ t ∷ [])) ∙ terms_push g.store.triples t)) k.numbered;
      keeps = k.keeps;
      iris = k.iris;
      literals = k.literals;
      triples = subst IsOnce (sym (map_push terms_of g.store.triples t))
          (once_push same_three three_self (map terms_of g.store.triples) (terms_of t) (sym (held_by_terms g.store.triples t) ∙ e) k.triples);
      nodes = nodes_push g.store.triples t k.nodes a b;
      labels = k.labels;
      few = k.few;
      short = omega (arith, length-append g.store.triples (t ∷ []), no_room (is_held g.store.triples t) (length g.store.triples) f e);
    }

pub triple_step : (g : Graph) (ks : List Term) (s p o : Term) (at : ℕ) → is_literal s ≡ false → is_iri p ≡ true → Pre g ks (s ∷ p ∷ o ∷ []) → Post (with_triple g s p o at) ks
triple_step g ks s p o at a b (inl h) = inl (added_lost g.store (record { s = s; p = p; o = o; at = at }) h)
triple_step g ks s p o at a b (inr k) = by (has_room g.store.triples t) refl
  where
    t : Triple
    t = record { s = s; p = p; o = o; at = at }

    room : StoreState
    room = record g.store { triples = held.with_triple g.store.triples (record { s = s; p = p; o = o; at = at }) }

    last : StoreState
    last = record g.store { full = true; limit = Some (record { code = L4; at = at }) }

    limited : StoreState
    limited = record g.store { limit = Some (record { code = L5; at = at }) }

    added_is : (x : StoreState) → cond (has_room g.store.triples t) room last ≡ x → added g.store t ≡ x
    added_is x e = ap (λ l. cond (is_some l) g.store (cond g.store.full limited (cond (has_room g.store.triples t) room last))) k.fine ∙ cond-false g.store.full limited (cond (has_room g.store.triples t) room last) k.unfull ∙ e

    by : (c : Bool) → has_room g.store.triples t ≡ c → Post (with_triple g s p o at) ks
    by true e = subst (λ x. Post (record g { store = x }) ks) (sym (added_is room (cond-true (has_room g.store.triples t) room last e))) (inr (triple_room g ks t a b k e))
    by false e = inl (ap (λ x. is_some x.limit) (added_is last (cond-false (has_room g.store.triples t) room last e)))
