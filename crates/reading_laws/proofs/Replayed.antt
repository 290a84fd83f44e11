-- The lines of orderly records give them again.
use Rattle.std.proofs.Common.{ℕ, zero, suc, List, [], ◌∷◌, ◌++◌, ◌≡◌, ◌<◌, ◌≤◌, ◌+◌, ◌*◌, ◌^◌, ◌&&◌, ◌||◌, inl, inr, not, nat_lt, nat_le, cond, Bool, true, false, length, map, take, slice_get, bytes_eq, refl, ap, ap₂, sym, ◌∙◌, subst, arith, length-append, append_assoc, append-nil}
use Rattle.std.proofs.lemmas.Bool.{false≢true, cases_lt, cond-true, cond-false, lt-ltb, le-ltb, and_parts}
use Rattle.std.proofs.lemmas.Bool.Decides.{nat_tests}
use Rattle.std.proofs.lemmas.List.{map-append}
use Rattle.std.proofs.lemmas.List.Sums.{list_all-from_AllPass}
use Rattle.std.specs.Prelude.{Option, None, Some, max}
use Rattle.std.specs.List.{list_any, list_all, position_or_len}
use Rattle.rdf_terms.specs.declared.terms.Literal.{Literal}
use Rattle.rdf_terms.specs.declared.terms.Term.{Term}
use Rattle.rdf_terms.specs.declared.terms.Term.TheVariants as term
use Rattle.rdf_terms.specs.declared.terms.Triple.{Triple}
use Rattle.rdf_terms.specs.declared.triples.Records.{Records}
use Rattle.rdf_terms.specs.Naming.{NameLists, same_literal, name_count}
use Rattle.rdf_terms.specs.Terms.{is_held, with_triple}
use Rattle.rdf_terms.specs.Fitting.{is_iri, is_literal, is_among, fits}
use Rattle.rdf_terms.proofs.Numbered.{map_push}
use Rattle.rdf_terms.proofs.TermLemmas.{same_terms-true}
use Rattle.ntriples_reader.specs.declared.line.Sort.{Sort}
use Rattle.ntriples_reader.specs.declared.line.Sort.TheVariants as sort
use Rattle.ntriples_reader.specs.declared.store.Store.{Store}
use Rattle.ntriples_reader.specs.Lines.{LineState}
use Rattle.ntriples_reader.specs.Storing.{label_number, with_label, literal_of, node_term, node_store, limited, empty_store}
use Rattle.rdf_reading.specs.Room.{is_full_iri, is_full_literal, iri_term, literal_term, iri_names, literal_names, has_room}
use Rattle.rdf_reading.specs.Answers.Answer.{Read}
use Rattle.ntriples_reader.specs.Feeding.{answer}
use Rattle.ntriples_laws.specs.Canonical.{terms_of, canonical_text, IsSame}
use Rattle.ntriples_laws.proofs.Numbering.{joins, any_is, get_append}
use Rattle.ntriples_laws.proofs.Labels.{label, first_labels, length_labels, label_is, known, bytes_self, bytes_same}
use Rattle.ntriples_laws.proofs.Stepping.{GrowsTo, InStore, ShowsNode, first_store, second_store, third_store, takes, some_same, literal_same}
use Rattle.ntriples_laws.proofs.Replaying.{AllIn, Shows, ShowAll, held_all, held_of, Kept, same_three, held_by_terms, held_same, length_same, with_new}
use Rattle.ntriples_laws.proofs.Good.{GoodNames}
use Rattle.ntriples_laws.proofs.Back.{store_back}
use Rattle.reading_laws.specs.Numbering.{Counts, nothing, Comes, behind, AreNumbered, terms, IsOnce, AreOrderly}
use Rattle.reading_laws.proofs.Numbers.{Known, AllKnown, Within, within_on, behind_within, numbered_within, numbered_known}
use Rattle.reading_laws.proofs.Graphs.{counts_of, literal_self}

-- the front of a list with nothing twice
once_tail : {X : Type 0} (x : X) (xs : List X) → IsOnce (x ∷ xs) → IsOnce xs
once_tail x xs once m n y h k = let e : suc m ≡ suc n = once (suc m) (suc n) y h k in omega (arith, e)

zero_suc : (n : ℕ) → 0 ≡ suc n → ⊥
zero_suc n e = omega (arith, e)

place : {X : Type 0} (e : X → X → Bool) → ((a b : X) → e a b ≡ true → a ≡ b) → ((a : X) → e a a ≡ true) → (xs : List X) (n i : ℕ) (q : X) → IsOnce xs → slice_get xs n ≡ Some q → n ≤ i
    → position_or_len (e q) (take i xs) ≡ n
place e same self [] n i q once h le = absurd (cc h)
place e same self (x ∷ xs) zero zero q once h le = refl
place e same self (x ∷ xs) zero (suc i) q once h le =
    let f : x ≡ q = cc h in
    ap (λ b. cond (not b) (1 + position_or_len (e q) (take i xs)) 0) (ap (e q) f ∙ self q)
place e same self (x ∷ xs) (suc n) zero q once h le = absurd (omega (arith, le))
place {X} e same self (x ∷ xs) (suc n) (suc i) q once h le = by (e q x) refl (place e same self xs n i q (once_tail x xs once) h (omega (arith, le)))
  where
    by : (b : Bool) → e q x ≡ b → position_or_len (e q) (take i xs) ≡ n → cond (not b) (1 + position_or_len (e q) (take i xs)) 0 ≡ suc n
    by true f g = absurd (zero_suc n (once 0 (suc n) q (ap Some (sym (same q x f))) h))
    by false f g = omega (arith, g)

take_next : {X : Type 0} (xs : List X) (n : ℕ) (q : X) → slice_get xs n ≡ Some q → take (suc n) xs ≡ take n xs ++ q ∷ []
take_next [] n q h = absurd (cc h)
take_next (x ∷ xs) zero q h = let f : x ≡ q = cc h in ap (λ y. y ∷ []) f
take_next (x ∷ xs) (suc n) q h = ap (λ t. x ∷ t) (take_next xs n q h)

take_length : {X : Type 0} (xs : List X) (i : ℕ) → i ≤ length xs → length (take i xs) ≡ i
take_length [] zero h = refl
take_length [] (suc i) h = absurd (omega (arith, h))
take_length (x ∷ xs) zero h = refl
take_length (x ∷ xs) (suc i) h = ap suc (take_length xs i (omega (arith, h)))

take_all : {X : Type 0} (xs : List X) → take (length xs) xs ≡ xs
take_all [] = refl
take_all (x ∷ xs) = ap (λ t. x ∷ t) (take_all xs)

record Joined {X : Type 0} (e : X → X → Bool) (xs : List X) (n i : ℕ) (q : X) : Type 0 where
  number : position_or_len (e q) (take i xs) ≡ n
  any : list_any (e q) (take i xs) ≡ nat_lt n i
  list : joins (e q) (take i xs) q ≡ take (max i (n + 1)) xs

joined : {X : Type 0} (e : X → X → Bool) → ((a b : X) → e a b ≡ true → a ≡ b) → ((a : X) → e a a ≡ true) → (xs : List X) (n i : ℕ) (q : X) → IsOnce xs → slice_get xs n ≡ Some q → n ≤ i → i ≤ length xs
    → Joined e xs n i q
joined {X} e same self xs n i q once h le within =
    let number = place e same self xs n i q once h le in
    let any : list_any (e q) (take i xs) ≡ nat_lt n i = any_is (e q) (take i xs) ∙ ap₂ nat_lt number (take_length xs i within) in
    record {
      number = number;
      any = any;
      list = elim (cases_lt n i) [
        | inl low ↦
            let most : max i (n + 1) ≡ i = omega (arith, low) in
            cond-true (list_any (e q) (take i xs)) (take i xs) (take i xs ++ q ∷ []) (any ∙ lt-ltb n i low) ∙ ap (λ k. take k xs) (sym most)
        | inr high ↦
            let most : max i (n + 1) ≡ suc n = omega (arith, high, le) in
            let here : i ≡ n = omega (arith, high, le) in
            cond-false (list_any (e q) (take i xs)) (take i xs) (take i xs ++ q ∷ []) (any ∙ le-ltb n i high) ∙ ap (λ k. take k xs ++ q ∷ []) here ∙ sym (take_next xs n q h) ∙ ap (λ k. take k xs) (sym most)
      ];
    }

-- the names and labels that came
abbrev front : NameLists → Counts → NameLists
front names c = record { iris = take c.iris names.iris; literals = take c.literals names.literals }

record Stands (names : NameLists) (c : Counts) (a : Store) : Type 0 where
  names_are : a.names ≡ front names c
  labels_are : a.labels ≡ first_labels c.blanks

record TermTaken (names : NameLists) (c : Counts) (a b : Store) (o : Option Term) (t : Term) : Type 0 where
  is : o ≡ Some t
  stands : Stands names (behind c t) b
  triples : b.triples ≡ a.triples

not_full : (b : Bool) (n i c : ℕ) → b ≡ nat_lt n i → (i ≤ n → c < 262144) → (not b && nat_le 262144 c) ≡ false
not_full true n i c e f = refl
not_full false n i c e f = let small : c < 262144 = f (high e) in grind (arith, nat_tests, small)
  where
    high : false ≡ nat_lt n i → i ≤ n
    high e = grind (arith, nat_tests, e)

value_is : {X : Type 0} (xs ys : List X) (n : ℕ) (v w : X) → slice_get xs n ≡ Some v → ((m : ℕ) (x : X) → slice_get xs m ≡ Some x → slice_get ys m ≡ Some x) → slice_get ys n ≡ Some w → slice_get xs n ≡ Some w
value_is xs ys n v w h g k = let e : v ≡ w = some_same v w (sym (g n v h) ∙ k) in h ∙ ap Some e

pub record Has {X : Type 0} (xs : List X) (n : ℕ) : Type 0 where
  pub value : X
  pub is : slice_get xs n ≡ Some value

pub has : {X : Type 0} (xs : List X) (n : ℕ) → n < length xs → Has xs n
has [] n h = absurd (omega (arith, h))
has (x ∷ xs) zero h = record { value = x; is = refl }
has (x ∷ xs) (suc n) h = let r = has xs n (omega (arith, h)) in record { value = r.value; is = r.is }

-- orderly names: nothing twice, and not too many
record Fine (names : NameLists) (blanks : ℕ) : Type 0 where
  iris : IsOnce names.iris
  literals : IsOnce names.literals
  few : name_count names ≤ 262144
  small : blanks < 2 ^ 64

term_taken : (own names : NameLists) (blanks : ℕ) (c : Counts) (a : Store) (t : Term) (so : Sort) (text : List ℕ) (l : LineState) → Fine own blanks → GrowsTo own names → Stands own c a → Comes c t
    → Within (behind c t) (counts_of own blanks) → ShowsNode names t so text l → TermTaken own c a (node_store a so text l) (node_term a so text l) t
term_taken own names blanks c a (term.Iri n) so text l fine grows s comes w shows =
    let low : n < length own.iris = omega (arith, w.iris) in
    let h = has own.iris n low in
    let get : slice_get own.iris n ≡ Some text = value_is own.iris names.iris n h.value text h.is grows.iris shows.1 in
    let most : c.iris ≤ length own.iris = omega (arith, w.iris) in
    let others : c.literals ≤ length own.literals = w.literals in
    let j = joined bytes_eq bytes_same bytes_self own.iris n c.iris text fine.iris get comes most in
    let room : c.iris ≤ n → length (take c.iris own.iris) + length (take c.literals own.literals) < 262144 =
    λ high. omega (arith, take_length own.iris c.iris most, take_length own.literals c.literals others, high, comes, low, others, fine.few) in
    let full : is_full_iri (front own c) text ≡ false = not_full (list_any (bytes_eq text) (take c.iris own.iris)) n c.iris (length (take c.iris own.iris) + length (take c.literals own.literals)) j.any room in
    let number : iri_term (front own c) text ≡ Some (term.Iri n) = cond-false (is_full_iri (front own c) text) None _ full ∙ ap (λ k. Some (term.Iri k)) j.number in
    let names_after : iri_names (front own c) text ≡ front own (behind c (term.Iri n)) =
    cond-false (is_full_iri (front own c) text) (front own c) _ full ∙ ap (λ xs. record { iris = xs; literals = take c.literals own.literals }) j.list in
    subst (λ x. TermTaken own c a (node_store a x text l) (node_term a x text l) (term.Iri n)) (sym shows.0) (record {
      is = ap (λ x. iri_term x text) s.names_are ∙ number;
      stands = record { names_are = ap (λ x. iri_names x text) s.names_are ∙ names_after; labels_are = s.labels_are };
      triples = refl;
    })
term_taken own names blanks c a (term.Blank n) so text l fine grows s comes w shows =
    let few : c.blanks < 2 ^ 64 = omega (arith, w.blanks, fine.small) in
    let low : n < 2 ^ 64 = omega (arith, w.blanks, fine.small) in
    let number : label_number (first_labels c.blanks) (label n) ≡ n = label_is c.blanks n comes few in
    let labels : with_label (first_labels c.blanks) (label n) ≡ first_labels (max c.blanks (n + 1)) = labels_after c.blanks n comes few low in
    subst (λ x. TermTaken own c a (node_store a x text l) (node_term a x text l) (term.Blank n)) (sym shows.0) (record {
      is = ap₂ (λ x y. Some (term.Blank (label_number x y))) s.labels_are shows.1 ∙ ap (λ k. Some (term.Blank k)) number;
      stands = record { names_are = s.names_are; labels_are = ap₂ with_label s.labels_are shows.1 ∙ labels };
      triples = refl;
    })
  where
    labels_after : (m n : ℕ) → n ≤ m → m < 2 ^ 64 → n < 2 ^ 64 → with_label (first_labels m) (label n) ≡ first_labels (max m (n + 1))
    labels_after m n le few low = elim (cases_lt n m) [
      | inl less ↦
          let most : max m (n + 1) ≡ m = omega (arith, less) in
          cond-true (list_any (bytes_eq (label n)) (first_labels m)) (first_labels m) _ (known m n low few ∙ lt-ltb n m less) ∙ ap first_labels (sym most)
      | inr high ↦
          let most : max m (n + 1) ≡ suc m = omega (arith, high, le) in
          let here : n ≡ m = omega (arith, high, le) in
          cond-false (list_any (bytes_eq (label n)) (first_labels m)) (first_labels m) (first_labels m ++ (label n) ∷ []) (known m n low few ∙ le-ltb n m high)
          ∙ ap (λ k. first_labels m ++ (label k) ∷ []) here ∙ ap first_labels (sym most)
    ]
term_taken own names blanks c a (term.Lit n) so text l fine grows s comes w shows =
    let v : Literal = literal_of text l in
    let low : n < length own.literals = omega (arith, w.literals) in
    let h = has own.literals n low in
    let get : slice_get own.literals n ≡ Some v = value_is own.literals names.literals n h.value v h.is grows.literals shows.1 in
    let most : c.literals ≤ length own.literals = omega (arith, w.literals) in
    let others : c.iris ≤ length own.iris = w.iris in
    let j = joined same_literal literal_same literal_self own.literals n c.literals v fine.literals get comes most in
    let room : c.literals ≤ n → length (take c.iris own.iris) + length (take c.literals own.literals) < 262144 =
    λ high. omega (arith, take_length own.iris c.iris others, take_length own.literals c.literals most, high, comes, low, others, fine.few) in
    let full : is_full_literal (front own c) v ≡ false = not_full (list_any (same_literal v) (take c.literals own.literals)) n c.literals (length (take c.iris own.iris) + length (take c.literals own.literals)) j.any room in
    let number : literal_term (front own c) v ≡ Some (term.Lit n) = cond-false (is_full_literal (front own c) v) None _ full ∙ ap (λ k. Some (term.Lit k)) j.number in
    let names_after : literal_names (front own c) v ≡ front own (behind c (term.Lit n)) =
    cond-false (is_full_literal (front own c) v) (front own c) _ full ∙ ap (λ xs. record { iris = take c.iris own.iris; literals = xs }) j.list in
    subst (λ x. TermTaken own c a (node_store a x text l) (node_term a x text l) (term.Lit n)) (sym shows.0) (record {
      is = ap (λ x. literal_term x v) s.names_are ∙ number;
      stands = record { names_are = ap (λ x. literal_names x v) s.names_are ∙ names_after; labels_are = s.labels_are };
      triples = refl;
    })

-- a triple that stands later is not held
any_some : {X : Type 0} (p : X → Bool) (xs : List X) → list_any p xs ≡ true → (n : ℕ) × (v : X) × (slice_get xs n ≡ Some v) × (p v ≡ true) × (n < length xs)
any_some p [] h = absurd (false≢true h)
any_some {X} p (x ∷ xs) h = by (p x) refl h (any_some p xs)
  where
    by : (b : Bool) → p x ≡ b → (b || list_any p xs) ≡ true → (list_any p xs ≡ true → (n : ℕ) × (v : X) × (slice_get xs n ≡ Some v) × (p v ≡ true) × (n < length xs))
        → (n : ℕ) × (v : X) × (slice_get (x ∷ xs) n ≡ Some v) × (p v ≡ true) × (n < length (x ∷ xs))
    by true f g go = (0, x, refl, f, omega arith)
    by false f g go = let r = go g in (suc r.0, r.1, r.2, r.3, omega (arith, r.4))

got_mid : {X : Type 0} (xs ys : List X) (y : X) → slice_get (xs ++ y ∷ ys) (length xs) ≡ Some y
got_mid [] ys y = refl
got_mid (x ∷ xs) ys y = got_mid xs ys y

three_same : (x y : Term × Term × Term) → same_three x y ≡ true → x ≡ y
three_same x y h =
    let e = same_terms-true (record { s = x.0; p = x.1; o = x.2; at = 0 }) (record { s = y.0; p = y.1; o = y.2; at = 0 }) h in
    ap (λ a. (a, x.1, x.2)) e.0 ∙ ap (λ a. (y.0, a, x.2)) e.1 ∙ ap (λ a. (y.0, y.1, a)) e.2

later_new : (done rest : List Triple) (t : Triple) → IsOnce (map terms_of (done ++ t ∷ rest)) → is_held done t ≡ false
later_new done rest t once = by (is_held done t) refl
  where
    by : (b : Bool) → is_held done t ≡ b → b ≡ false
    by false e = refl
    by true e =
        let r = any_some (same_three (terms_of t)) (map terms_of done) (sym (held_by_terms done t) ∙ e) in
        let v : terms_of t ≡ r.1 = three_same (terms_of t) r.1 r.3 in
        let xs : map terms_of (done ++ t ∷ rest) ≡ map terms_of done ++ (terms_of t) ∷ map terms_of rest = map-append terms_of done (t ∷ rest) in
        let first : slice_get (map terms_of (done ++ t ∷ rest)) r.0 ≡ Some (terms_of t) =
        ap (λ ys. slice_get ys r.0) xs ∙ get_append (map terms_of done) ((terms_of t) ∷ map terms_of rest) r.0 r.1 r.2 ∙ ap Some (sym v) in
        let second : slice_get (map terms_of (done ++ t ∷ rest)) (length (map terms_of done)) ≡ Some (terms_of t) =
        ap (λ ys. slice_get ys (length (map terms_of done))) xs ∙ got_mid (map terms_of done) (map terms_of rest) (terms_of t) in
        absurd (omega (arith, once r.0 (length (map terms_of done)) (terms_of t) first second, r.4))

record Walked (own : NameLists) (d : Counts) (all : List Triple) (a : Store) (ls : List LineState) : Type 0 where
  store : Store
  held : held_all (held_of a) ls ≡ held_of store
  stands : Stands own d store
  triples : map terms_of store.triples ≡ map terms_of all

roomy : (ts : List Triple) (t : Triple) → is_held ts t ≡ false → length ts < 262144 → has_room ts t ≡ true
roomy ts t h small = ap (λ b. not (not b && nat_le 262144 (length ts))) h ∙ (let e : not (true && nat_le 262144 (length ts)) ≡ true = grind (arith, nat_tests, small) in e)

line_taken : (own names : NameLists) (blanks : ℕ) (c : Counts) (a : Store) (t : Triple) (l : LineState) (done rest : List Triple) → Fine own blanks → GrowsTo own names → Stands own c a
    → Comes c t.s → Comes (behind c t.s) t.p → Comes (behind (behind c t.s) t.p) t.o → Within (behind (behind (behind c t.s) t.p) t.o) (counts_of own blanks)
    → Shows names t l → map terms_of a.triples ≡ map terms_of done → IsOnce (map terms_of (done ++ t ∷ rest)) → length done < 262144
    → Walked own (behind (behind (behind c t.s) t.p) t.o) (done ++ t ∷ []) a (l ∷ [])
line_taken own names blanks c a t l done rest fine grows s cs cp co w shows same once few =
    let c1 : Counts = behind c t.s in
    let c2 : Counts = behind c1 t.p in
    let c3 : Counts = behind c2 t.o in
    let w2 : Within c2 (counts_of own blanks) = within_on c2 c3 (counts_of own blanks) (behind_within c2 t.o) w in
    let w1 : Within c1 (counts_of own blanks) = within_on c1 c2 (counts_of own blanks) (behind_within c1 t.p) w2 in
    let x = term_taken own names blanks c a t.s l.subject_sort l.subject l fine grows s cs w1 shows.s in
    let y = term_taken own names blanks c1 (first_store a l) t.p sort.Iri l.predicate l fine grows x.stands cp w2 shows.p in
    let z = term_taken own names blanks c2 (second_store a l) t.o l.object_sort l.object l fine grows y.stands co w shows.o in
    let e : Store = third_store a l in
    let u : Triple = record { s = t.s; p = t.p; o = t.o; at = l.at } in
    let kept : map terms_of e.triples ≡ map terms_of done = ap (map terms_of) (z.triples ∙ y.triples ∙ x.triples) ∙ same in
    let new : is_held e.triples u ≡ false = held_same e.triples done u t kept refl ∙ later_new done rest t once in
    let small : length e.triples < 262144 = omega (arith, length_same e.triples done kept, few) in
    let line = takes a l t.s t.p t.o x.is y.is z.is (roomy e.triples u new small) in
    record {
      store = record e { triples = with_triple e.triples u };
      held = ap (λ v. limited v.1 v.0 l.at) line;
      stands = record { names_are = z.stands.names_are; labels_are = z.stands.labels_are };
      triples = ap (map terms_of) (with_new e.triples u new) ∙ map_push terms_of e.triples u ∙ ap (λ v. v ++ (terms_of t) ∷ []) kept ∙ sym (map_push terms_of done t);
    }

walked : (own names : NameLists) (blanks : ℕ) (rest : List Triple) (c : Counts) (a : Store) (ls : List LineState) (done : List Triple) → Fine own blanks → GrowsTo own names → Stands own c a
    → AreNumbered c (terms rest) (counts_of own blanks) → ShowAll names rest ls → map terms_of a.triples ≡ map terms_of done → IsOnce (map terms_of (done ++ rest)) → length (done ++ rest) ≤ 262144
    → Walked own (counts_of own blanks) (done ++ rest) a ls
walked own names blanks [] c a [] done fine grows s numbered shows same once few =
    record { store = a; held = refl; stands = subst (λ d. Stands own d a) numbered s; triples = same ∙ ap (map terms_of) (sym (append-nil done)) }
walked own names blanks [] c a (l ∷ ls) done fine grows s numbered shows same once few = absurd shows
walked own names blanks (t ∷ rest) c a [] done fine grows s numbered shows same once few = absurd shows
walked own names blanks (t ∷ rest) c a (l ∷ ls) done fine grows s numbered shows same once few =
    let d : Counts = behind (behind (behind c t.s) t.p) t.o in
    let one = line_taken own names blanks c a t l done rest fine grows s numbered.0 numbered.1.0 numbered.1.1.0 (numbered_within d (terms rest) (counts_of own blanks) numbered.1.1.1) shows.0 same once
    (omega (arith, few, length-append done (t ∷ rest))) in
    let moved : done ++ t ∷ rest ≡ (done ++ t ∷ []) ++ rest = sym (append_assoc done (t ∷ []) rest) in
    let more = walked own names blanks rest d one.store ls (done ++ t ∷ []) fine grows one.stands numbered.1.1.1 shows.1 one.triples (subst (λ ts. IsOnce (map terms_of ts)) moved once) (subst (λ ts. length ts ≤ 262144) moved few) in
    record {
      store = more.store;
      held = ap (λ h. held_all h ls) one.held ∙ more.held;
      stands = more.stands;
      triples = more.triples ∙ ap (map terms_of) (sym moved);
    }

-- how many blank nodes come
blank_behind : (c : Counts) (t : Term) → Comes c t → (behind c t).blanks ≤ c.blanks + 1
blank_behind c (term.Iri n) h = omega arith
blank_behind c (term.Blank n) h = omega (arith, h)
blank_behind c (term.Lit n) h = omega arith

verb_behind : (c : Counts) (t : Term) → is_iri t ≡ true → (behind c t).blanks ≤ c.blanks
verb_behind c (term.Iri n) h = omega arith
verb_behind c (term.Blank n) h = absurd (false≢true h)
verb_behind c (term.Lit n) h = absurd (false≢true h)

-- each triple fits
record Fits (names : NameLists) (t : Triple) : Type 0 where
  node : is_literal t.s ≡ false
  verb : is_iri t.p ≡ true

five_parts : (a b c d e : Bool) → (not a && b && c && d && e) ≡ true → (a ≡ false) × (b ≡ true)
five_parts false true c d e h = (refl, refl)
five_parts false false c d e h = absurd (false≢true h)
five_parts true b c d e h = absurd (false≢true h)

fits_are : (names : NameLists) (t : Triple) → fits names t ≡ true → Fits names t
fits_are names t h = let r = five_parts (is_literal t.s) (is_iri t.p) (is_among names t.s) (is_among names t.p) (is_among names t.o) h in record { node = r.0; verb = r.1 }

blanks_few : (names : NameLists) (ts : List Triple) (c d : Counts) → list_all (fits names) ts ≡ true → AreNumbered c (terms ts) d → d.blanks ≤ c.blanks + 2 * length ts
blanks_few names [] c d f h = omega (arith, ap (λ x. x.blanks) h)
blanks_few names (t ∷ ts) c d f h =
    let both = and_parts (fits names t) (list_all (fits names) ts) f in
    let c1 : Counts = behind c t.s in
    let c2 : Counts = behind c1 t.p in
    let c3 : Counts = behind c2 t.o in
    omega (arith, blank_behind c t.s h.0, verb_behind c1 t.p (fits_are names t both.0).verb, blank_behind c2 t.o h.1.1.0, blanks_few names ts c3 d both.1 h.1.1.1)

in_store : (st : Store) (n : ℕ) (t : Term) → n ≤ length st.labels → Known (counts_of st.names n) t → InStore st t
in_store st n (term.Iri m) e h = h
in_store st n (term.Blank m) e h = omega (arith, e, h)
in_store st n (term.Lit m) e h = h

all_in : (st : Store) (n : ℕ) (ts : List Triple) → n ≤ length st.labels → list_all (fits st.names) ts ≡ true → AllKnown (counts_of st.names n) (terms ts) → AllIn st ts
all_in st n [] e f k = tt
all_in st n (t ∷ ts) e f k =
    let both = and_parts (fits st.names t) (list_all (fits st.names) ts) f in
    let g = fits_are st.names t both.0 in
    (record { s = in_store st n t.s e k.0; p = in_store st n t.p e k.1.0; o = in_store st n t.o e k.1.1.0; node = g.node; verb = g.verb }, all_in st n ts e both.1 k.1.1.1)

-- orderly records are as a reader keeps them
kept : (r : Records) (o : AreOrderly r) → Kept (record { names = r.names; labels = first_labels o.blanks; triples = r.triples })
kept r o =
    let all : list_all (fits r.names) r.triples ≡ true = list_all-from_AllPass (fits r.names) r.triples o.fit in
    let long = length_labels o.blanks in
    let few = blanks_few r.names r.triples nothing (counts_of r.names o.blanks) all o.numbered in
    record {
      fitting = all_in (record { names = r.names; labels = first_labels o.blanks; triples = r.triples }) o.blanks r.triples (omega (arith, long)) all (numbered_known nothing (terms r.triples) (counts_of r.names o.blanks) o.numbered);
      few = omega (arith, few, long);
      short = o.short;
      replays = λ names ls grows shows.
          let w = walked r.names names o.blanks r.triples nothing empty_store ls [] (record { iris = o.iris; literals = o.literals; few = o.few; small = omega (arith, few, o.short) }) grows
          (record { names_are = refl; labels_are = refl }) o.numbered shows refl o.triples o.short in
          record {
            store = w.store;
            held = w.held;
            again = record {
              names = w.stands.names_are ∙ ap₂ (λ x y. record { iris = x; literals = y }) (take_all r.names.iris) (take_all r.names.literals);
              labels = w.stands.labels_are ∙ ap first_labels (sym long);
              triples = w.triples;
            };
          };
    }

-- Orderly records with good names are read back from their canonical lines.
pub orderly_back : (r : Records) → AreOrderly r → GoodNames r.names → (q : Records) × (answer (canonical_text r) ≡ Read q) × IsSame q r
orderly_back r o good = store_back (record { names = r.names; labels = first_labels o.blanks; triples = r.triples }) (kept r o) good
