-- What a graph holds is what was told, up to the first limit.
use Rattle.std.proofs.Common.{ℕ, List, [], ◌∷◌, ◌++◌, ◌≡◌, ◌<◌, ◌≤◌, ◌+◌, ◌⊎◌, ◌&&◌, ◌||◌, not, nat_le, cond, Bool, true, false, length, bytes_eq, refl, ap, sym, ◌∙◌, subst, arith, inl, inr, length-append}
use Rattle.std.proofs.lemmas.Bool.{false≢true, cond_both, cond-true, cond-false}
use Rattle.std.proofs.lemmas.Bool.Decides.{nat_tests}
use Rattle.std.specs.Prelude.{None, Some}
use Rattle.std.specs.List.{list_any, position_or_len}
use Rattle.rdf_terms.specs.declared.terms.Code.{Code}
use Rattle.rdf_terms.specs.declared.terms.Literal.{Literal}
use Rattle.rdf_terms.specs.declared.terms.Term.{Term}
use Rattle.rdf_terms.specs.declared.terms.Term.TheVariants as term
use Rattle.rdf_terms.specs.declared.triples.Records.{Records}
use Rattle.rdf_terms.specs.Naming.{NameLists, same_literal, name_count, has_iri, with_iri, has_literal, with_literal}
use Rattle.rdf_reading.specs.Room.{is_full_iri, is_full_literal}
use Rattle.ntriples_laws.proofs.Numbering.{joins, joins_length}
use Rattle.ntriples_laws.proofs.Labels.{bytes_self}
use Rattle.turtle_environments.specs.Blanks.{BlankNodes, label_number, with_label}
use Rattle.turtle_environments.specs.Storing.{StoreState, iri_term, with_name, literal_term, with_value}
use Rattle.reading_laws.specs.Meaning.{Graph, no_graph}
use Rattle.reading_laws.specs.Meaning as graph
use Rattle.reading_laws.specs.Telling.{Thing, Statement, Told, untold}
use Rattle.reading_laws.specs.Telling.Thing.{Iri, Blank, Lit}
use Rattle.reading_laws.specs.Telling as telling
use Rattle.reading_laws.specs.Counting.{naming, number, with_statement, all_with, records, IsSmall, IsLimit}
use Rattle.reading_laws.proofs.Graphs.{literal_self, most_join, few_join}

-- things that were named, with their terms
abbrev pub Pending : Type 0
Pending = Term × Thing

abbrev pub named_all : NameLists → List Pending → NameLists
named_all names [] = names
named_all names (k ∷ ks) = named_all (naming names k.1) ks

abbrev pub IsIn : NameLists → Thing → Type 0
IsIn names (Iri text) = has_iri names text ≡ true
IsIn names (Blank n) = Unit {0}
IsIn names (Lit v) = has_literal names v ≡ true

abbrev pub Good : NameLists → Pending → Type 0
Good names k = (k.0 ≡ number names k.1) × IsIn names k.1

abbrev pub AllGood : NameLists → List Pending → Type 0
AllGood names [] = Unit {0}
AllGood names (k ∷ ks) = Good names k × AllGood names ks

-- places in lists that grow
any_append : {X : Type 0} (p : X → Bool) (xs ys : List X) → list_any p xs ≡ true → list_any p (xs ++ ys) ≡ true
any_append p [] ys h = absurd (false≢true h)
any_append {X} p (x ∷ xs) ys h = by (p x) h (any_append p xs ys)
  where
    by : (b : Bool) → (b || list_any p xs) ≡ true → (list_any p xs ≡ true → list_any p (xs ++ ys) ≡ true) → (b || list_any p (xs ++ ys)) ≡ true
    by true h go = refl
    by false h go = go h

any_last : {X : Type 0} (p : X → Bool) (xs : List X) (q : X) → p q ≡ true → list_any p (xs ++ q ∷ []) ≡ true
any_last p [] q h = ap (λ b. b || false) h
any_last {X} p (x ∷ xs) q h = by (p x) (any_last p xs q h)
  where
    by : (b : Bool) → list_any p (xs ++ q ∷ []) ≡ true → (b || list_any p (xs ++ q ∷ [])) ≡ true
    by true g = refl
    by false g = g

position_append : {X : Type 0} (p : X → Bool) (xs ys : List X) → list_any p xs ≡ true → position_or_len p (xs ++ ys) ≡ position_or_len p xs
position_append p [] ys h = absurd (false≢true h)
position_append {X} p (x ∷ xs) ys h = by (p x) h (position_append p xs ys)
  where
    by : (b : Bool) → (b || list_any p xs) ≡ true → (list_any p xs ≡ true → position_or_len p (xs ++ ys) ≡ position_or_len p xs)
        → cond (not b) (1 + position_or_len p (xs ++ ys)) 0 ≡ cond (not b) (1 + position_or_len p xs) 0
    by true h go = refl
    by false h go = ap (λ n. 1 + n) (go h)

position_last : {X : Type 0} (p : X → Bool) (xs : List X) (q : X) → p q ≡ true → position_or_len p (xs ++ q ∷ []) ≡ position_or_len p xs
position_last p [] q h = ap (λ b. cond (not b) (1 + 0) 0) h
position_last {X} p (x ∷ xs) q h = by (p x) (position_last p xs q h)
  where
    by : (b : Bool) → position_or_len p (xs ++ q ∷ []) ≡ position_or_len p xs → cond (not b) (1 + position_or_len p (xs ++ q ∷ [])) 0 ≡ cond (not b) (1 + position_or_len p xs) 0
    by true g = refl
    by false g = ap (λ n. 1 + n) g

joins_any : {X : Type 0} (p r : X → Bool) (xs : List X) (q : X) → list_any p xs ≡ true → list_any p (joins r xs q) ≡ true
joins_any p r xs q h = cond_both (list_any r xs) xs (xs ++ q ∷ []) (λ ys. list_any p ys ≡ true) (λ _. h) (λ _. any_append p xs (q ∷ []) h)

joins_position : {X : Type 0} (p r : X → Bool) (xs : List X) (q : X) → list_any p xs ≡ true → position_or_len p (joins r xs q) ≡ position_or_len p xs
joins_position p r xs q h = cond_both (list_any r xs) xs (xs ++ q ∷ []) (λ ys. position_or_len p ys ≡ position_or_len p xs) (λ _. refl) (λ _. position_append p xs (q ∷ []) h)

self_any : {X : Type 0} (p : X → Bool) (xs : List X) (q : X) → p q ≡ true → list_any p (joins p xs q) ≡ true
self_any p xs q h = cond_both (list_any p xs) xs (xs ++ q ∷ []) (λ ys. list_any p ys ≡ true) (λ e. e) (λ _. any_last p xs q h)

self_position : {X : Type 0} (p : X → Bool) (xs : List X) (q : X) → p q ≡ true → position_or_len p (joins p xs q) ≡ position_or_len p xs
self_position p xs q h = cond_both (list_any p xs) xs (xs ++ q ∷ []) (λ ys. position_or_len p ys ≡ position_or_len p xs) (λ _. refl) (λ _. position_last p xs q h)

-- terms stay as names grow
pub good_on : (names : NameLists) (x : Thing) (k : Pending) → Good names k → Good (naming names x) k
good_on names (Iri t) (a, Iri text) h = (h.0 ∙ ap (λ n. term.Iri n) (sym (joins_position (bytes_eq text) (bytes_eq t) names.iris t h.1)), joins_any (bytes_eq text) (bytes_eq t) names.iris t h.1)
good_on names (Blank n) (a, Iri text) h = h
good_on names (Lit w) (a, Iri text) h = h
good_on names (Iri t) (a, Blank m) h = h
good_on names (Blank n) (a, Blank m) h = h
good_on names (Lit w) (a, Blank m) h = h
good_on names (Iri t) (a, Lit v) h = h
good_on names (Blank n) (a, Lit v) h = h
good_on names (Lit w) (a, Lit v) h = (h.0 ∙ ap (λ n. term.Lit n) (sym (joins_position (same_literal v) (same_literal w) names.literals w h.1)), joins_any (same_literal v) (same_literal w) names.literals w h.1)

all_on : (names : NameLists) (x : Thing) (ks : List Pending) → AllGood names ks → AllGood (naming names x) ks
all_on names x [] h = tt
all_on names x (k ∷ ks) h = (good_on names x k h.0, all_on names x ks h.1)

pub good_new : (names : NameLists) (x : Thing) → Good (naming names x) (number names x, x)
good_new names (Iri text) = (ap (λ n. term.Iri n) (sym (self_position (bytes_eq text) names.iris text (bytes_self text))), self_any (bytes_eq text) names.iris text (bytes_self text))
good_new names (Blank n) = (refl, tt)
good_new names (Lit v) = (ap (λ n. term.Lit n) (sym (self_position (same_literal v) names.literals v (literal_self v))), self_any (same_literal v) names.literals v (literal_self v))

good_last : (names : NameLists) (ks : List Pending) (k : Pending) → AllGood names ks → Good names k → AllGood names (ks ++ k ∷ [])
good_last names [] k h g = (g, tt)
good_last names (j ∷ ks) k h g = (h.0, good_last names ks k h.1 g)

pub naming_in : (names : NameLists) (x : Thing) → IsIn names x → naming names x ≡ names
naming_in names (Iri text) h = ap (λ xs. record names { iris = xs }) (cond-true (has_iri names text) names.iris (names.iris ++ text ∷ []) h)
naming_in names (Blank n) h = refl
naming_in names (Lit v) h = ap (λ xs. record names { literals = xs }) (cond-true (has_literal names v) names.literals (names.literals ++ v ∷ []) h)

pub naming_count : (names : NameLists) (x : Thing) → name_count names ≤ name_count (naming names x)
naming_count names (Iri text) = omega (arith, (joins_length (bytes_eq text) names.iris text).0)
naming_count names (Blank n) = omega arith
naming_count names (Lit v) = omega (arith, (joins_length (same_literal v) names.literals v).0)

named_count : (names : NameLists) (ks : List Pending) → name_count names ≤ name_count (named_all names ks)
named_count names [] = omega arith
named_count names (k ∷ ks) = omega (arith, naming_count names k.1, named_count (naming names k.1) ks)

named_push : (names : NameLists) (ks : List Pending) (k : Pending) → named_all names (ks ++ k ∷ []) ≡ naming (named_all names ks) k.1
named_push names [] k = refl
named_push names (j ∷ ks) k = named_push (naming names j.1) ks k

pub with_push : (r : Records) (xs : List Statement) (x : Statement) → all_with r (xs ++ x ∷ []) ≡ with_statement (all_with r xs) x
with_push r [] x = refl
with_push r (y ∷ xs) x = with_push (with_statement r y) xs x

-- a graph that holds what was told
pub record Fair (g : Graph) (t : Told) (ks ps : List Pending) : Type 0 where
  pub unfull : g.store.full ≡ false
  pub fine : g.store.limit ≡ None
  pub names : g.store.names ≡ named_all (records t.list).names ps
  pub triples : g.store.triples ≡ (records t.list).triples
  pub few : name_count g.store.names ≤ 262144
  pub short : length g.store.triples ≤ 262144
  pub pending : AllGood g.store.names ps
  pub keeps : AllGood g.store.names ks

-- a name of the next triple is too many
pub record Over (g : Graph) (t : Told) (ps : List Pending) : Type 0 where
  pub full : g.store.full ≡ true
  pub fine : g.store.limit ≡ None
  pub small : IsSmall (records t.list)
  pub over : 262144 < name_count (named_all (records t.list).names ps)

pub record Limited (g : Graph) (t : Told) : Type 0 where
  pub code : Code
  pub at : ℕ
  pub is : g.store.limit ≡ Some (record { code = code; at = at })
  pub limit : IsLimit t.list code at

pub record Pre (g : Graph) (t : Told) (ks ps : List Pending) : Type 0 where
  pub blanks : g.blanks ≡ t.blanks
  pub held : Limited g t ⊎ (Over g t ps ⊎ Fair g t ks ps)

pub record Post (g : Graph) (t : Told) (ks : List Pending) : Type 0 where
  pub blanks : g.blanks ≡ t.blanks
  pub held : Limited g t ⊎ Fair g t ks []

-- what does not change the store
pub moved : (g h : Graph) (t u : Told) (ks ps : List Pending) (k : Pending) → h.store ≡ g.store → u.list ≡ t.list → h.blanks ≡ u.blanks → ((names : NameLists) → (naming names k.1 ≡ names) × Good names k)
    → Limited g t ⊎ (Over g t ps ⊎ Fair g t ks ps) → Pre h u ks (ps ++ k ∷ [])
moved g h t u ks ps k s l b free held = record { blanks = b; held = by held }
  where
    push : named_all (records u.list).names (ps ++ k ∷ []) ≡ named_all (records t.list).names ps
    push = ap (λ xs. named_all (records xs).names (ps ++ k ∷ [])) l ∙ named_push (records t.list).names ps k ∙ (free (named_all (records t.list).names ps)).0

    by : Limited g t ⊎ (Over g t ps ⊎ Fair g t ks ps) → Limited h u ⊎ (Over h u (ps ++ k ∷ []) ⊎ Fair h u ks (ps ++ k ∷ []))
    by (inl x) = inl (record { code = x.code; at = x.at; is = ap (λ y. y.limit) s ∙ x.is; limit = subst (λ xs. IsLimit xs x.code x.at) (sym l) x.limit })
    by (inr (inl x)) = inr (inl (record {
      full = ap (λ y. y.full) s ∙ x.full;
      fine = ap (λ y. y.limit) s ∙ x.fine;
      small = subst (λ xs. IsSmall (records xs)) (sym l) x.small;
      over = subst (λ y. 262144 < name_count y) (sym push) x.over;
    }))
    by (inr (inr x)) = inr (inr (record {
      unfull = ap (λ y. y.full) s ∙ x.unfull;
      fine = ap (λ y. y.limit) s ∙ x.fine;
      names = ap (λ y. y.names) s ∙ x.names ∙ sym push;
      triples = ap (λ y. y.triples) s ∙ x.triples ∙ ap (λ xs. (records xs).triples) (sym l);
      few = subst (λ y. name_count y.names ≤ 262144) (sym s) x.few;
      short = subst (λ y. length y.triples ≤ 262144) (sym s) x.short;
      pending = subst (λ y. AllGood y.names (ps ++ k ∷ [])) (sym s) (good_last g.store.names ps k x.pending (free g.store.names).1);
      keeps = subst (λ y. AllGood y.names ks) (sym s) x.keeps;
    }))

blank_free : (n : ℕ) (names : NameLists) → (naming names (Blank n) ≡ names) × Good names (term.Blank n, Blank n)
blank_free n names = (refl, (refl, tt))

pub node_step : (g : Graph) (t : Told) (ks ps : List Pending) → Pre g t ks ps → Pre (graph.with_node g) (telling.with_node t) ks (ps ++ (graph.node g, telling.node t) ∷ [])
node_step g t ks ps h =
    let same : telling.node t ≡ Blank g.blanks.count = ap (λ b. Blank b.count) (sym h.blanks) in
    subst (λ x. Pre (graph.with_node g) (telling.with_node t) ks (ps ++ (graph.node g, x) ∷ [])) (sym same)
    (moved g (graph.with_node g) t (telling.with_node t) ks ps (term.Blank g.blanks.count, Blank g.blanks.count) refl refl (ap Rattle.turtle_environments.specs.Blanks.one_more h.blanks) (blank_free g.blanks.count) h.held)

pub label_step : (g : Graph) (t : Told) (ks ps : List Pending) (label : List ℕ) → Pre g t ks ps
    → Pre (record g { blanks = with_label g.blanks label }) (telling.labelled t label) ks (ps ++ (term.Blank (label_number g.blanks label), Blank (label_number t.blanks label)) ∷ [])
label_step g t ks ps label h =
    let same : Blank (label_number t.blanks label) ≡ Blank (label_number g.blanks label) = ap (λ b. Blank (label_number b label)) (sym h.blanks) in
    let h2 : Graph = record g { blanks = with_label g.blanks label } in
    subst (λ x. Pre h2 (telling.labelled t label) ks (ps ++ (term.Blank (label_number g.blanks label), x) ∷ [])) (sym same)
    (moved g h2 t (telling.labelled t label) ks ps (term.Blank (label_number g.blanks label), Blank (label_number g.blanks label)) refl refl (ap (λ b. with_label b label) h.blanks) (blank_free (label_number g.blanks label)) h.held)

-- a name more
record Named (s next : StoreState) (x : Thing) (a : Term) : Type 0 where
  lost : s.full ≡ true → next ≡ s
  limit : next.limit ≡ s.limit
  fair : s.full ≡ false → ((next.full ≡ true) × (262144 < name_count (naming s.names x)))
      ⊎ ((next ≡ record s { names = naming s.names x }) × (a ≡ number s.names x) × (name_count s.names ≤ 262144 → name_count (naming s.names x) ≤ 262144))

pub over_join : (b : Bool) (n m c : ℕ) → (not b && nat_le 262144 c) ≡ true → (b ≡ false → m ≡ n + 1) → 262144 + n < c + m
over_join true n m c h f = absurd (false≢true h)
over_join false n m c h f = let big : 262144 ≤ c = grind (arith, nat_tests, h) in omega (arith, big, f refl)

iri_named : (s : StoreState) (text : List ℕ) → Named s (with_name s text) (Iri text) (iri_term s text)
iri_named s text = record {
  lost = λ h. cond-true s.full s _ h;
  limit = cond_both {A = StoreState} s.full _ _ (λ x. x.limit ≡ s.limit) (λ e. refl) (λ e. cond_both {A = StoreState} (is_full_iri s.names text) _ _ (λ x. x.limit ≡ s.limit) (λ e. refl) (λ e. refl));
  fair = λ h. by h (is_full_iri s.names text) refl;
}
  where
    by : s.full ≡ false → (b : Bool) → is_full_iri s.names text ≡ b → (((with_name s text).full ≡ true) × (262144 < name_count (naming s.names (Iri text))))
        ⊎ ((with_name s text ≡ record s { names = naming s.names (Iri text) }) × (iri_term s text ≡ number s.names (Iri text)) × (name_count s.names ≤ 262144 → name_count (naming s.names (Iri text)) ≤ 262144))
    by h true e = inl (
      ap (λ x. x.full) (cond-false s.full s _ h ∙ cond-true (is_full_iri s.names text) _ _ e),
      omega (
        arith,
        over_join (has_iri s.names text) (length s.names.iris) (length (with_iri s.names text).iris) (name_count s.names) e
            (λ f. ap length (cond-false (has_iri s.names text) s.names.iris (s.names.iris ++ text ∷ []) f) ∙ length-append s.names.iris (text ∷ [])),
      ),
    )
    by h false e = inr (
      cond-false s.full s _ h ∙ cond-false (is_full_iri s.names text) _ _ e,
      cond-false s.full (term.Iri 0) _ h ∙ cond-false (is_full_iri s.names text) (term.Iri 0) _ e,
      λ k. omega (
        arith,
        few_join (has_iri s.names text) (length s.names.iris) (length (with_iri s.names text).iris) (name_count s.names) e k
            (most_join (bytes_eq text) s.names.iris text).0 (most_join (bytes_eq text) s.names.iris text).1,
      ),
    )

literal_named : (s : StoreState) (v : Literal) → Named s (with_value s v) (Lit v) (literal_term s v)
literal_named s v = record {
  lost = λ h. cond-true s.full s _ h;
  limit = cond_both {A = StoreState} s.full _ _ (λ x. x.limit ≡ s.limit) (λ e. refl) (λ e. cond_both {A = StoreState} (is_full_literal s.names v) _ _ (λ x. x.limit ≡ s.limit) (λ e. refl) (λ e. refl));
  fair = λ h. by h (is_full_literal s.names v) refl;
}
  where
    by : s.full ≡ false → (b : Bool) → is_full_literal s.names v ≡ b → (((with_value s v).full ≡ true) × (262144 < name_count (naming s.names (Lit v))))
        ⊎ ((with_value s v ≡ record s { names = naming s.names (Lit v) }) × (literal_term s v ≡ number s.names (Lit v)) × (name_count s.names ≤ 262144 → name_count (naming s.names (Lit v)) ≤ 262144))
    by h true e = inl (
      ap (λ x. x.full) (cond-false s.full s _ h ∙ cond-true (is_full_literal s.names v) _ _ e),
      omega (
        arith,
        over_join (has_literal s.names v) (length s.names.literals) (length (with_literal s.names v).literals) (name_count s.names) e
            (λ f. ap length (cond-false (has_literal s.names v) s.names.literals (s.names.literals ++ v ∷ []) f) ∙ length-append s.names.literals (v ∷ [])),
      ),
    )
    by h false e = inr (
      cond-false s.full s _ h ∙ cond-false (is_full_literal s.names v) _ _ e,
      cond-false s.full (term.Iri 0) _ h ∙ cond-false (is_full_literal s.names v) (term.Iri 0) _ e,
      λ k. omega (
        arith,
        few_join (has_literal s.names v) (length s.names.literals) (length (with_literal s.names v).literals) (name_count s.names) e k
            (most_join (same_literal v) s.names.literals v).0 (most_join (same_literal v) s.names.literals v).1,
      ),
    )

pub small_of : (g : Graph) (t : Told) (ks ps : List Pending) → Fair g t ks ps → IsSmall (records t.list)
small_of g t ks ps x = (
  omega (arith, named_count (records t.list).names ps, x.few, ap name_count x.names),
  subst (λ ts. length ts ≤ 262144) x.triples x.short,
)

named_step : (g : Graph) (t : Told) (ks ps : List Pending) (next : StoreState) (x : Thing) (a : Term) → Named g.store next x a → Pre g t ks ps → Pre (record g { store = next }) t ks (ps ++ (a, x) ∷ [])
named_step g t ks ps next x a n h = record { blanks = h.blanks; held = by h.held }
  where
    push : named_all (records t.list).names (ps ++ (a, x) ∷ []) ≡ naming (named_all (records t.list).names ps) x
    push = named_push (records t.list).names ps (a, x)

    fair : Fair g t ks ps → ((next.full ≡ true) × (262144 < name_count (naming g.store.names x)))
        ⊎ ((next ≡ record g.store { names = naming g.store.names x }) × (a ≡ number g.store.names x) × (name_count g.store.names ≤ 262144 → name_count (naming g.store.names x) ≤ 262144))
        → Limited (record g { store = next }) t ⊎ (Over (record g { store = next }) t (ps ++ (a, x) ∷ []) ⊎ Fair (record g { store = next }) t ks (ps ++ (a, x) ∷ []))
    fair f (inl (e, o)) = inr (inl (record {
      full = e;
      fine = n.limit ∙ f.fine;
      small = small_of g t ks ps f;
      over = subst (λ y. 262144 < name_count y) (ap (λ y. naming y x) f.names ∙ sym (named_push (records t.list).names ps (a, x))) o;
    }))
    fair f (inr (e, i, few)) = inr (inr (subst (λ s. Fair (record g { store = s }) t ks (ps ++ (a, x) ∷ [])) (sym e) (record {
      unfull = f.unfull;
      fine = f.fine;
      names = ap (λ y. naming y x) f.names ∙ sym (named_push (records t.list).names ps (a, x));
      triples = f.triples;
      few = few f.few;
      short = f.short;
      pending = good_last (naming g.store.names x) ps (a, x) (all_on g.store.names x ps f.pending) (subst (λ b. Good (naming g.store.names x) (b, x)) (sym i) (good_new g.store.names x));
      keeps = all_on g.store.names x ks f.keeps;
    })))

    by : Limited g t ⊎ (Over g t ps ⊎ Fair g t ks ps) → Limited (record g { store = next }) t ⊎ (Over (record g { store = next }) t (ps ++ (a, x) ∷ []) ⊎ Fair (record g { store = next }) t ks (ps ++ (a, x) ∷ []))
    by (inl y) = inl (record { code = y.code; at = y.at; is = n.limit ∙ y.is; limit = y.limit })
    by (inr (inl y)) = inr (inl (record {
      full = ap (λ s. s.full) (n.lost y.full) ∙ y.full;
      fine = n.limit ∙ y.fine;
      small = y.small;
      over = omega (arith, y.over, naming_count (named_all (records t.list).names ps) x, ap name_count (named_push (records t.list).names ps (a, x)));
    }))
    by (inr (inr y)) = fair y (n.fair y.unfull)

pub name_step : (g : Graph) (t : Told) (ks ps : List Pending) (text : List ℕ) → Pre g t ks ps → Pre (record g { store = with_name g.store text }) t ks (ps ++ (iri_term g.store text, Iri text) ∷ [])
name_step g t ks ps text h = named_step g t ks ps (with_name g.store text) (Iri text) (iri_term g.store text) (iri_named g.store text) h

pub value_step : (g : Graph) (t : Told) (ks ps : List Pending) (v : Literal) → Pre g t ks ps → Pre (record g { store = with_value g.store v }) t ks (ps ++ (literal_term g.store v, Lit v) ∷ [])
value_step g t ks ps v h = named_step g t ks ps (with_value g.store v) (Lit v) (literal_term g.store v) (literal_named g.store v) h
