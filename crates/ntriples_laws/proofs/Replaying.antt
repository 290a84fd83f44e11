-- The lines of the triples that are held, from an empty store on, give the store again.
use Rattle.std.proofs.Common.{ℕ, List, [], ◌∷◌, ◌++◌, ◌≡◌, ◌<◌, ◌≤◌, ◌+◌, ◌*◌, ◌&&◌, ◌||◌, inl, inr, Bool, true, false, not, nat_le, length, map, refl, ap, ap₂, sym, ◌∙◌, subst, arith, length-append}
use Rattle.std.proofs.lemmas.Bool.{true≢false, cases_Bool, cond-true, cond-false}
use Rattle.std.proofs.lemmas.Bool.Decides.{nat_tests}
use Rattle.std.proofs.lemmas.List.{length-map}
use Rattle.std.specs.Prelude.{None, Some}
use Rattle.std.specs.List.{list_any}
use Rattle.rdf_terms.specs.Naming.{NameLists}
use Rattle.rdf_terms.specs.Terms.{same_term, same_terms, is_held, with_triple}
use Rattle.rdf_terms.specs.declared.terms.Term.{Term}
use Rattle.rdf_terms.specs.declared.terms.Term.TheVariants as term
use Rattle.rdf_terms.specs.declared.terms.Triple.{Triple}
use Rattle.rdf_terms.specs.Fitting.{is_iri, is_literal}
use Rattle.rdf_terms.proofs.TermLemmas.{same_terms-true}
use Rattle.rdf_terms.proofs.Numbered.{list_any_map, map_push}
use Rattle.ntriples_reader.specs.declared.line.Sort.{Sort}
use Rattle.ntriples_reader.specs.declared.line.Sort.TheVariants as sort
use Rattle.ntriples_reader.specs.declared.store.Store.{Store}
use Rattle.ntriples_reader.specs.declared.store.Held.{Held}
use Rattle.ntriples_reader.specs.Lines.{LineState}
use Rattle.ntriples_reader.specs.Storing.{label_number, node_term, with_line, empty_store, nothing, limited, held_after}
use Rattle.rdf_reading.specs.Room.{has_room}
use Rattle.ntriples_laws.specs.Canonical.{terms_of}
use Rattle.ntriples_laws.proofs.Stepping.{GrowsTo, grows_on, InStore, Larger, larger_on, in_larger, stepped, ShowsNode, Again, again_node, first_store, second_store, third_store, Taken, taken, takes, iri_there, some_same}

-- a triple's terms are held; its subject is no literal, and its predicate is an IRI
pub record FitsIn (st : Store) (t : Triple) : Type 0 where
  pub s : InStore st t.s
  pub p : InStore st t.p
  pub o : InStore st t.o
  pub node : is_literal t.s ≡ false
  pub verb : is_iri t.p ≡ true

abbrev pub AllIn : Store → List Triple → Type 0
AllIn st [] = Unit {0}
AllIn st (t ∷ ts) = FitsIn st t × AllIn st ts

-- the line says the triple
pub record Shows (names : NameLists) (t : Triple) (l : LineState) : Type 0 where
  pub s : ShowsNode names t.s l.subject_sort l.subject l
  pub p : ShowsNode names t.p sort.Iri l.predicate l
  pub o : ShowsNode names t.o l.object_sort l.object l

abbrev pub ShowAll : NameLists → List Triple → List LineState → Type 0
ShowAll names [] [] = Unit {0}
ShowAll names (t ∷ ts) (l ∷ ls) = Shows names t l × ShowAll names ts ls
ShowAll names _ _ = ⊥

abbrev pub held_all : Held → List LineState → Held
held_all h [] = h
held_all h (l ∷ ls) = held_all (held_after h l) ls

abbrev pub held_of : Store → Held
held_of st = record { store = st; limit = None }

pub record Replays (st : Store) (ls : List LineState) : Type 0 where
  pub store : Store
  pub held : held_all nothing ls ≡ held_of store
  pub again : Again store st

pub record Kept (st : Store) : Type 0 where
  pub fitting : AllIn st st.triples
  pub few : length st.labels ≤ 2 * length st.triples
  pub short : length st.triples ≤ 262144
  pub replays : (names : NameLists) (ls : List LineState) → GrowsTo st.names names → ShowAll names st.triples ls → Replays st ls

pub kept_nothing : Kept empty_store
kept_nothing = record { fitting = tt; few = omega arith; short = omega arith; replays = none }
  where
    none : (names : NameLists) (ls : List LineState) → GrowsTo empty_store.names names → ShowAll names [] ls → Replays empty_store ls
    none names [] g s = record { store = empty_store; held = refl; again = record { names = refl; labels = refl; triples = refl } }
    none names (l ∷ ls) g s = absurd s

pub fits_larger : (a b : Store) → Larger a b → (t : Triple) → FitsIn a t → FitsIn b t
fits_larger a b g t f = record { s = in_larger a b g t.s f.s; p = in_larger a b g t.p f.p; o = in_larger a b g t.o f.o; node = f.node; verb = f.verb }

pub all_push : (a b : Store) → Larger a b → (ts : List Triple) (t : Triple) → AllIn a ts → FitsIn b t → AllIn b (ts ++ t ∷ [])
all_push a b g [] t f h = (h, tt)
all_push a b g (u ∷ ts) t f h = (fits_larger a b g u f.0, all_push a b g ts t f.1 h)

-- the terms of a triple that is held
pub held_fits : (st : Store) (ts : List Triple) (t : Triple) → is_held ts t ≡ true → AllIn st ts → InStore st t.s × InStore st t.p × InStore st t.o
held_fits st [] t h f = absurd (true≢false (sym h))
held_fits st (u ∷ ts) t h f = by (same_terms t u) refl h (λ g. held_fits st ts t g f.1)
  where
    by : (b : Bool) → same_terms t u ≡ b → (b || is_held ts t) ≡ true → (is_held ts t ≡ true → InStore st t.s × InStore st t.p × InStore st t.o) → InStore st t.s × InStore st t.p × InStore st t.o
    by true e h go = let e3 = same_terms-true t u e in (subst (InStore st) (sym e3.0) f.0.s, subst (InStore st) (sym e3.1) f.0.p, subst (InStore st) (sym e3.2) f.0.o)
    by false e h go = go h

-- whether a triple is held does not depend on places
abbrev pub same_three : Term × Term × Term → Term × Term × Term → Bool
same_three x y = (same_term x.0 y.0 && same_term x.1 y.1) && same_term x.2 y.2

pub held_by_terms : (ts : List Triple) (t : Triple) → is_held ts t ≡ list_any (same_three (terms_of t)) (map terms_of ts)
held_by_terms ts t = sym (list_any_map (same_three (terms_of t)) terms_of ts)

pub held_same : (ts us : List Triple) (t u : Triple) → map terms_of ts ≡ map terms_of us → terms_of t ≡ terms_of u → is_held ts t ≡ is_held us u
held_same ts us t u e f = held_by_terms ts t ∙ ap₂ (λ x y. list_any (same_three x) y) f e ∙ sym (held_by_terms us u)

pub length_same : (ts us : List Triple) → map terms_of ts ≡ map terms_of us → length ts ≡ length us
length_same ts us e = sym (length-map ts terms_of) ∙ ap length e ∙ length-map us terms_of

pub room_same : (ts us : List Triple) (t u : Triple) → map terms_of ts ≡ map terms_of us → terms_of t ≡ terms_of u → has_room ts t ≡ has_room us u
room_same ts us t u e f = ap₂ (λ b n. not (not b && nat_le 262144 n)) (held_same ts us t u e f) (length_same ts us e)

pub fewer : (n : ℕ) → not (true && nat_le 262144 n) ≡ true → n < 262144
fewer n h = grind (arith, nat_tests, h)

pub room_left : (ts : List Triple) (t : Triple) → is_held ts t ≡ false → has_room ts t ≡ true → length ts < 262144
room_left ts t h r = fewer (length ts) (ap (λ b. not (not b && nat_le 262144 (length ts))) (sym h) ∙ r)

-- lines of triples, the last of them apart
pub record Parted (names : NameLists) (ts : List Triple) (t : Triple) (ls : List LineState) : Type 0 where
  pub front : List LineState
  pub last : LineState
  pub is : ls ≡ front ++ last ∷ []
  pub shown : ShowAll names ts front
  pub shows : Shows names t last

pub parted : (names : NameLists) (ts : List Triple) (t : Triple) (ls : List LineState) → ShowAll names (ts ++ t ∷ []) ls → Parted names ts t ls
parted names [] t [] h = absurd h
parted names [] t (l ∷ []) h = record { front = []; last = l; is = refl; shown = tt; shows = h.0 }
parted names [] t (l ∷ m ∷ ls) h = absurd h.1
parted names (u ∷ ts) t [] h = absurd h
parted names (u ∷ ts) t (l ∷ ls) h = let p = parted names ts t ls h.1 in record { front = l ∷ p.front; last = p.last; is = ap (λ x. l ∷ x) p.is; shown = (h.0, p.shown); shows = p.shows }

pub held_push : (h : Held) (ls : List LineState) (l : LineState) → held_all h (ls ++ l ∷ []) ≡ held_after (held_all h ls) l
held_push h [] l = refl
held_push h (m ∷ ls) l = held_push (held_after h m) ls l

pub with_new : (ts : List Triple) (t : Triple) → is_held ts t ≡ false → with_triple ts t ≡ ts ++ t ∷ []
with_new ts t h = cond-false (is_held ts t) ts (ts ++ t ∷ []) h

pub with_old : (ts : List Triple) (t : Triple) → is_held ts t ≡ true → with_triple ts t ≡ ts
with_old ts t h = cond-true (is_held ts t) ts (ts ++ t ∷ []) h

pub not_literal : (st : Store) (so : Sort) (text : List ℕ) (l : LineState) (t : Term) → (so ≡ sort.Literal → ⊥) → node_term st so text l ≡ Some t → is_literal t ≡ false
not_literal st sort.Iri text l t absent h = ap is_literal (iri_there st.names text t h).1
not_literal st sort.Blank text l t absent h = ap is_literal (sym (some_same (term.Blank (label_number st.labels text)) t h))
not_literal st sort.Literal text l t absent h = absurd (absent refl)

abbrev pub store_of : NameLists → List (List ℕ) → List Triple → Store
store_of names labels triples = record { names = names; labels = labels; triples = triples }

-- a line whose triple is held leaves all as before
pub kept_old : (st : Store) (l : LineState) (next : Store) (k : Taken st l next) → AllIn st st.triples → is_held st.triples (record { s = k.s; p = k.p; o = k.o; at = l.at }) ≡ true → next ≡ st
kept_old st l next k fitting present =
    let t : Triple = record { s = k.s; p = k.p; o = k.o; at = l.at } in
    let one = stepped st l.subject_sort l.subject l k.s k.first in
    let two = stepped (first_store st l) sort.Iri l.predicate l k.p k.second in
    let three = stepped (second_store st l) l.object_sort l.object l k.o k.third in
    let ins = held_fits st st.triples t present fitting in
    let a = one.known ins.0 in
    let b = two.known (in_larger st (first_store st l) one.larger k.p ins.1) in
    let c = three.known (in_larger st (second_store st l) (larger_on st (first_store st l) (second_store st l) one.larger two.larger) k.o ins.2) in
    let triples : with_triple (third_store st l).triples t ≡ st.triples = ap (λ x. with_triple x t) (three.triples ∙ two.triples ∙ one.triples) ∙ with_old st.triples t present in
    k.is ∙ ap (λ x. store_of x (third_store st l).labels (with_triple (third_store st l).triples t)) (c.0 ∙ b.0 ∙ a.0)
    ∙ ap (λ x. store_of st.names x (with_triple (third_store st l).triples t)) (c.1 ∙ b.1 ∙ a.1)
    ∙ ap (store_of st.names st.labels) triples

-- a line with a new triple
pub kept_new : (st : Store) (l : LineState) (next : Store) (k : Taken st l next) → (l.subject_sort ≡ sort.Literal → ⊥) → Kept st
    → is_held st.triples (record { s = k.s; p = k.p; o = k.o; at = l.at }) ≡ false → Kept (store_of (third_store st l).names (third_store st l).labels (st.triples ++ record { s = k.s; p = k.p; o = k.o; at = l.at } ∷ []))
kept_new st l next k node kept absent =
    let t : Triple = record { s = k.s; p = k.p; o = k.o; at = l.at } in
    let a : Store = first_store st l in
    let b : Store = second_store st l in
    let c : Store = third_store st l in
    let d : Store = store_of c.names c.labels (st.triples ++ t ∷ []) in
    let one = stepped st l.subject_sort l.subject l k.s k.first in
    let two = stepped a sort.Iri l.predicate l k.p k.second in
    let three = stepped b l.object_sort l.object l k.o k.third in
    let triples : c.triples ≡ st.triples = three.triples ∙ two.triples ∙ one.triples in
    let last : Larger c d = record { iris = omega arith; literals = omega arith; labels = omega arith } in
    let from_b : Larger b d = larger_on b c d three.larger last in
    let from_a : Larger a d = larger_on a b d two.larger from_b in
    let room : length st.triples < 262144 = room_left st.triples t absent (sym (ap (λ x. has_room x t) triples) ∙ k.room) in
    let longer : length (st.triples ++ t ∷ []) ≡ length st.triples + 1 = length-append st.triples (t ∷ []) in
    let labels_a : length a.labels ≤ length st.labels + 1 = one.few in
    let labels_c : length c.labels ≤ length a.labels + 1 = three.few in
    let few : length st.labels ≤ 2 * length st.triples = kept.few in
    let short : length st.triples ≤ 262144 = kept.short in
    record {
      fitting = all_push st d (larger_on st a d one.larger from_a) st.triples t kept.fitting (record {
        s = in_larger a d from_a k.s one.within;
        p = in_larger b d from_b k.p two.within;
        o = in_larger c d last k.o three.within;
        node = not_literal st l.subject_sort l.subject l k.s node k.first;
        verb = ap is_iri (iri_there a.names l.predicate k.p k.second).1;
      });
      few = omega (arith, longer, labels_a, labels_c, few);
      short = omega (arith, longer, room);
      replays = λ names ls g s.
          let p = parted names st.triples t ls s in
          let m = p.last in
          let r = kept.replays names p.front (grows_on st.names c.names names (grows_on st.names a.names c.names one.grows (grows_on a.names b.names c.names two.grows three.grows)) g) p.shown in
          let f = again_node r.store st names l.subject_sort m.subject_sort l.subject m.subject l m k.s r.again (omega (arith, few, short)) k.first
          (grows_on a.names c.names names (grows_on a.names b.names c.names two.grows three.grows) g) p.shows.s in
          let v = again_node (first_store r.store m) a names sort.Iri sort.Iri l.predicate m.predicate l m k.p f.1 (omega (arith, labels_a, few, short)) k.second (grows_on b.names c.names names three.grows g) p.shows.p in
          let w = again_node (second_store r.store m) b names l.object_sort m.object_sort l.object m.object l m k.o v.1 (omega (arith, labels_a, few, short)) k.third g p.shows.o in
          let u : Triple = record { s = k.s; p = k.p; o = k.o; at = m.at } in
          let e : Store = third_store r.store m in
          let terms : map terms_of e.triples ≡ map terms_of st.triples = w.1.triples ∙ ap (map terms_of) triples in
          let new : is_held e.triples u ≡ false = held_same e.triples st.triples u t terms refl ∙ absent in
          let line = takes r.store m k.s k.p k.o f.0 v.0 w.0 (room_same e.triples c.triples u t w.1.triples refl ∙ k.room) in
          record {
            store = record e { triples = with_triple e.triples u };
            held = ap (held_all nothing) p.is ∙ held_push nothing p.front m ∙ ap (λ h. held_after h m) r.held ∙ ap (λ x. limited x.1 x.0 m.at) line;
            again = record {
              names = w.1.names;
              labels = w.1.labels;
              triples = ap (map terms_of) (with_new e.triples u new) ∙ map_push terms_of e.triples u ∙ ap (λ x. x ++ (terms_of t) ∷ []) terms ∙ sym (map_push terms_of st.triples t);
            };
          };
    }

pub kept_step : (st : Store) (l : LineState) (next : Store) → (l.subject_sort ≡ sort.Literal → ⊥) → with_line st l ≡ (None, next) → Kept st → Kept next
kept_step st l next node e kept =
    let k = taken st l next e in
    let t : Triple = record { s = k.s; p = k.p; o = k.o; at = l.at } in
    elim (cases_Bool (is_held st.triples t)) [
      | inl present ↦ subst Kept (sym (kept_old st l next k kept.fitting present)) kept
      | inr absent ↦
          let one = stepped st l.subject_sort l.subject l k.s k.first in
          let two = stepped (first_store st l) sort.Iri l.predicate l k.p k.second in
          let three = stepped (second_store st l) l.object_sort l.object l k.o k.third in
          let triples : (third_store st l).triples ≡ st.triples = three.triples ∙ two.triples ∙ one.triples in
          subst Kept (sym (k.is ∙ ap (store_of (third_store st l).names (third_store st l).labels) (ap (λ x. with_triple x t) triples ∙ with_new st.triples t absent))) (kept_new st l next k node kept absent)
    ]
