-- What several files say: their triples of values, each file behind those before it.
use Rattle.std.proofs.Common.{◌≡◌, ℕ, ◌+◌, ◌-◌, ◌<◌, ◌≤◌, max, inl, inr, Option, Some, None, List, [], ◌∷◌, ◌++◌, map, append_assoc, append-nil, refl, sym, ap, subst, ◌∙◌, arith}
use Rattle.std.specs.Prelude.{slice_get}
use Rattle.std.specs.Option.{option_map}
use Rattle.std.specs.List.{cons_option}
use Rattle.std.specs.List.Sorted.{IsPermutation}
use Rattle.rdf_terms.specs.declared.terms.Literal.{Literal}
use Rattle.rdf_terms.specs.declared.terms.Term.{Term}
use Rattle.rdf_terms.specs.declared.terms.Term.TheVariants as term
use Rattle.rdf_terms.specs.declared.terms.Triple.{Triple}
use Rattle.rdf_terms.specs.declared.triples.Records.{Records}
use Rattle.rdf_terms.specs.Naming.{NameLists}
use Rattle.crm_core.specs.Contents.{Contents}
use Rattle.joined_names.specs.Values.{Value, ValueTriple, value, of_three, value_triple, value_triples, moved_value, moved}
use Rattle.joined_names.specs.Values.Value.{Iri, Blank, Lit}
use Rattle.archive_join.specs.Joining.{Joined, nothing, behind_term, behind_triple, blank_count, triples_behind}
use Rattle.archive_join.specs.Archives.{with_file, with_files, joined}
use Rattle.record_laws.proofs.Members.{In}
use Rattle.record_laws.proofs.Walking.{in_left, in_right, in_either}
use Rattle.join_laws.proofs.Alike.{renamed_value, IsMoved, AreMoved, AreAlike, IsSo, AreSo, also_so, stays, alike_same, alike_on}
use Rattle.join_laws.proofs.Holding.{Holds, holds_all, holds_nothing}
use Rattle.join_laws.proofs.Rotating.{rotated, rotated_low, rotated_first, rotated_second, rotated_past, rotated_back}
use Rattle.join_laws.proofs.Exchanging.{related}

-- behind so many blank nodes and bytes
abbrev pub all_values : ℕ → ℕ → List Contents → List ValueTriple
all_values blanks length [] = []
all_values blanks length (a ∷ rest) = triples_behind blanks length a.records ++ all_values (blanks + blank_count a.records.triples) (length + a.length) rest

holds_files : (files : List Contents) (j : Joined) (done : List ValueTriple) → Holds j.records done → Holds (with_files j files).records (done ++ all_values j.blanks j.length files)
holds_files [] j done h = subst (Holds j.records) (sym (append-nil done)) h
holds_files (a ∷ rest) j done h =
    subst (Holds (with_files (with_file j a) rest).records) (append_assoc done (triples_behind j.blanks j.length a.records) (all_values (j.blanks + blank_count a.records.triples) (j.length + a.length) rest))
    (holds_files rest (with_file j a) (done ++ triples_behind j.blanks j.length a.records) (holds_all (triples_behind j.blanks j.length a.records) j.records done h))

-- The joined records hold what the files say.
pub holds_joined : (files : List Contents) → Holds (joined files).records (all_values 0 0 files)
holds_joined files = holds_files files nothing [] holds_nothing

-- the blank nodes of a file
of_name : {X : Type 0} (P : ℕ → Type 0) (make : X → Value) → ((x : X) → IsSo P (make x)) → (o : Option X) (v : Value) → option_map make o ≡ Some v → IsSo P v
of_name P make so None v h = cc
of_name P make so (Some x) v h = let same : make x ≡ v = cc in subst (IsSo P) same (so x)

value_below : (names : NameLists) (t : Term) (v : Value) → value names t ≡ Some v → IsSo (λ n. n < behind_term t) v
value_below names (term.Iri n) v h = of_name (λ k. k < 0) (λ (text : List ℕ). Value.Iri text) (λ x. tt) (slice_get names.iris n) v h
value_below names (term.Blank n) v h =
    let same : Value.Blank n ≡ v = cc in
    let low : n < n + 1 = omega arith in
    subst (IsSo (λ k. k < n + 1)) same low
value_below names (term.Lit n) v h = of_name (λ k. k < 0) (λ (literal : Literal). Value.Lit literal) (λ x. tt) (slice_get names.literals n) v h

record AreThere (a b c : Option Value) (x : ValueTriple) : Type 0 where
  pub s : a ≡ Some x.s
  pub p : b ≡ Some x.p
  pub o : c ≡ Some x.o

three_there : (a b c : Option Value) (at : ℕ) (x : ValueTriple) → of_three a b c at ≡ Some x → AreThere a b c x
three_there None b c at x h = cc
three_there (Some s) None c at x h = cc
three_there (Some s) (Some p) None at x h = cc
three_there (Some s) (Some p) (Some o) at x h =
    let made : ValueTriple = record { s = s; p = p; o = o; at = at } in
    let same : made ≡ x = cc in
    record { s = ap (λ (y : ValueTriple). Some y.s) same; p = ap (λ (y : ValueTriple). Some y.p) same; o = ap (λ (y : ValueTriple). Some y.o) same }

below_more : (m n : ℕ) → m ≤ n → (v : Value) → IsSo (λ k. k < m) v → IsSo (λ k. k < n) v
below_more m n le (Iri text) h = tt
below_more m n le (Blank k) h = omega (arith, le, h)
below_more m n le (Lit literal) h = tt

triple_below : (names : NameLists) (t : Triple) (x : ValueTriple) → value_triple names t ≡ Some x → AreSo (λ n. n < behind_triple t) x
triple_below names t x h =
    let is = three_there (value names t.s) (value names t.p) (value names t.o) t.at x h in
    record {
      s = below_more (behind_term t.s) (behind_triple t) (omega arith) x.s (value_below names t.s x.s is.s);
      p = below_more (behind_term t.p) (behind_triple t) (omega arith) x.p (value_below names t.p x.p is.p);
      o = below_more (behind_term t.o) (behind_triple t) (omega arith) x.o (value_below names t.o x.o is.o);
    }

blank_count_cons : (t : Triple) (ts : List Triple) → blank_count (t ∷ ts) ≡ max (behind_triple t) (blank_count ts)
unfolding blank_count
blank_count_cons t ts = refl

-- they are numbered below their count
file_below : (names : NameLists) (ts : List Triple) (x : ValueTriple) → In x (value_triples names ts) → AreSo (λ n. n < blank_count ts) x
file_below names [] x i = absurd i
file_below names (t ∷ ts) x i = by (value_triple names t) refl i (file_below names ts x)
  where
    count : blank_count (t ∷ ts) ≡ max (behind_triple t) (blank_count ts)
    count = blank_count_cons t ts

    later : AreSo (λ n. n < blank_count ts) x → AreSo (λ n. n < blank_count (t ∷ ts)) x
    later h = also_so (λ n. n < blank_count ts) (λ n. n < blank_count (t ∷ ts)) (λ n lt. omega (arith, lt, count)) x h

    by : (o : Option ValueTriple) → value_triple names t ≡ o → In x (cons_option o (value_triples names ts)) → (In x (value_triples names ts) → AreSo (λ n. n < blank_count ts) x)
        → AreSo (λ n. n < blank_count (t ∷ ts)) x
    by None is i below = later (below i)
    by (Some y) is (inl e) below =
        also_so (λ n. n < behind_triple t) (λ n. n < blank_count (t ∷ ts)) (λ n lt. omega (arith, lt, count)) x
        (triple_below names t x (is ∙ ap (λ (z : ValueTriple). Some z) (sym e)))
    by (Some y) is (inr i) below = later (below i)

in_mapped : {X Y : Type 0} (f : X → Y) (xs : List X) (y : Y) → In y (map f xs) → (x : X) × In x xs × (y ≡ f x)
in_mapped f [] y i = absurd i
in_mapped f (x ∷ xs) y (inl e) = (x, inl refl, e)
in_mapped f (x ∷ xs) y (inr i) = let r = in_mapped f xs y i in (r.0, inr r.1, r.2)

mapped_in : {X Y : Type 0} (f : X → Y) (xs : List X) (x : X) → In x xs → In (f x) (map f xs)
mapped_in f [] x i = absurd i
mapped_in f (z ∷ zs) x (inl e) = inl (ap f e)
mapped_in f (z ∷ zs) x (inr i) = inr (mapped_in f zs x i)

-- behind others they are numbered from these on
value_from : (blanks count : ℕ) (v : Value) → IsSo (λ n. n < count) v → IsSo (λ n. (blanks ≤ n) × (n < blanks + count)) (moved_value blanks v)
value_from blanks count (Iri text) h = tt
value_from blanks count (Blank n) h = (omega arith, omega (arith, h))
value_from blanks count (Lit literal) h = tt

file_from : (blanks length : ℕ) (r : Records) (x : ValueTriple) → In x (triples_behind blanks length r) → AreSo (λ n. (blanks ≤ n) × (n < blanks + blank_count r.triples)) x
file_from blanks length r x i =
    let v = in_mapped (moved blanks length) (value_triples r.names r.triples) x i in
    let h = file_below r.names r.triples v.0 v.1 in
    subst (AreSo (λ n. (blanks ≤ n) × (n < blanks + blank_count r.triples))) (sym v.2)
    (record { s = value_from blanks _ v.0.s h.s; p = value_from blanks _ v.0.p h.p; o = value_from blanks _ v.0.o h.o })

files_from : (files : List Contents) (blanks length : ℕ) (x : ValueTriple) → In x (all_values blanks length files) → AreSo (λ n. blanks ≤ n) x
files_from [] blanks length x i = absurd i
files_from (a ∷ rest) blanks length x i =
    elim (in_either (triples_behind blanks length a.records) (all_values (blanks + blank_count a.records.triples) (length + a.length) rest) x i) [
      | inl here ↦
          also_so (λ n. (blanks ≤ n) × (n < blanks + blank_count a.records.triples)) (λ n. blanks ≤ n) (λ n h. h.0) x (file_from blanks length a.records x here)
      | inr later ↦
          also_so (λ n. blanks + blank_count a.records.triples ≤ n) (λ n. blanks ≤ n) (λ n h. omega (arith, h)) x
          (files_from rest (blanks + blank_count a.records.triples) (length + a.length) x later)
    ]

-- Two lists of files say the same behind the same blank nodes and bytes.
abbrev pub SayAlike : List Contents → List Contents → Type 0
SayAlike files others = (blanks length : ℕ) → AreAlike blanks (all_values blanks length files) (all_values blanks length others)

module _ (a : Contents) (files others : List Contents) (alike : SayAlike files others) (blanks length : ℕ) where
  abbrev front : List ValueTriple
  front = triples_behind blanks length a.records

  abbrev behind : ℕ
  behind = blanks + blank_count a.records.triples

  abbrev rest : List Contents → List ValueTriple
  rest all = all_values behind (length + a.length) all

  abbrev by : AreAlike behind (rest files) (rest others)
  by = alike behind (length + a.length)

  -- a file in front stays
  with_front : (f : ℕ → ℕ) (xs ys : List ValueTriple) → ((n : ℕ) → n < behind → f n ≡ n) → AreMoved f xs ys → AreMoved f (front ++ xs) (front ++ ys)
  with_front f xs ys low there = λ x i. elim (in_either front xs x i) [
    | inl here ↦
        (x, in_left front ys x here, stays f x (also_so (λ n. (blanks ≤ n) × (n < behind)) (λ n. f n ≡ n) (λ n h. low n h.1) x (file_from blanks length a.records x here)))
    | inr later ↦ (let y = there x later in (y.0, in_right front ys y.0 y.1, y.2))
  ]

  alike_under : AreAlike blanks (all_values blanks length (a ∷ files)) (all_values blanks length (a ∷ others))
  alike_under = record {
    forth = by.forth;
    back = by.back;
    forth_and_back = by.forth_and_back;
    back_and_forth = by.back_and_forth;
    low = λ n lt. by.low n (omega (arith, lt));
    there = with_front by.forth (rest files) (rest others) by.low by.there;
    here = with_front by.back (rest others) (rest files) (λ n lt. ap by.back (sym (by.low n lt)) ∙ by.forth_and_back n) by.here;
  }

-- blank nodes of the first of two files, and of the second, as the two change places
first_goes : (blanks p q : ℕ) (v : Value) → IsSo (λ n. n < p) v → moved_value (blanks + q) v ≡ renamed_value (rotated blanks p q) (moved_value blanks v)
first_goes blanks p q (Iri text) h = refl
first_goes blanks p q (Blank n) h =
    let same : n + (blanks + q) ≡ rotated blanks p q (n + blanks) =
    (let one : n + (blanks + q) ≡ n + blanks + q = omega arith in one) ∙ sym (rotated_first blanks p q (n + blanks) (omega arith) (omega (arith, h))) in
    ap (λ (k : ℕ). Value.Blank k) same
first_goes blanks p q (Lit literal) h = refl

second_goes : (blanks p q : ℕ) (v : Value) → IsSo (λ n. n < q) v → moved_value blanks v ≡ renamed_value (rotated blanks p q) (moved_value (blanks + p) v)
second_goes blanks p q (Iri text) h = refl
second_goes blanks p q (Blank n) h =
    let same : n + blanks ≡ rotated blanks p q (n + (blanks + p)) =
    (let one : n + blanks ≡ n + (blanks + p) - p = omega arith in one) ∙ sym (rotated_second blanks p q (n + (blanks + p)) (omega arith) (omega (arith, h))) in
    ap (λ (k : ℕ). Value.Blank k) same
second_goes blanks p q (Lit literal) h = refl

module _ (a c : Contents) (files : List Contents) (blanks length : ℕ) where
  abbrev p : ℕ
  p = blank_count a.records.triples

  abbrev q : ℕ
  q = blank_count c.records.triples

  abbrev others : List ValueTriple
  others = all_values blanks length (c ∷ a ∷ files)

  abbrev Goes : ValueTriple → Type 0
  Goes x = (y : ValueTriple) × In y others × IsMoved (rotated blanks p q) x y

  abbrev c_first : List ValueTriple
  c_first = triples_behind blanks length c.records

  abbrev a_second : List ValueTriple
  a_second = triples_behind (blanks + q) (length + c.length) a.records

  abbrev files_last : List ValueTriple
  files_last = all_values (blanks + q + p) (length + c.length + a.length) files

  first_there : (x : ValueTriple) → In x (triples_behind blanks length a.records) → Goes x
  first_there x i =
      let v = in_mapped (moved blanks length) (value_triples a.records.names a.records.triples) x i in
      let h = file_below a.records.names a.records.triples v.0 v.1 in
      let y : ValueTriple = moved (blanks + q) (length + c.length) v.0 in
      let there : In y others = in_right c_first (a_second ++ files_last) y (in_left a_second files_last y (mapped_in (moved (blanks + q) (length + c.length)) (value_triples a.records.names a.records.triples) v.0 v.1)) in
      subst Goes (sym v.2)
      (y, there, record { s = first_goes blanks p q v.0.s h.s; p = first_goes blanks p q v.0.p h.p; o = first_goes blanks p q v.0.o h.o })

  second_there : (x : ValueTriple) → In x (triples_behind (blanks + p) (length + a.length) c.records) → Goes x
  second_there x i =
      let v = in_mapped (moved (blanks + p) (length + a.length)) (value_triples c.records.names c.records.triples) x i in
      let h = file_below c.records.names c.records.triples v.0 v.1 in
      let y : ValueTriple = moved blanks length v.0 in
      let there : In y others = in_left c_first (a_second ++ files_last) y (mapped_in (moved blanks length) (value_triples c.records.names c.records.triples) v.0 v.1) in
      subst Goes (sym v.2)
      (y, there, record { s = second_goes blanks p q v.0.s h.s; p = second_goes blanks p q v.0.p h.p; o = second_goes blanks p q v.0.o h.o })

  last_same : all_values (blanks + p + q) (length + a.length + c.length) files ≡ files_last
  last_same =
      let bases : blanks + p + q ≡ blanks + q + p = omega arith in
      let places : length + a.length + c.length ≡ length + c.length + a.length = omega arith in
      ap (λ (n : ℕ). all_values n (length + a.length + c.length) files) bases ∙ ap (λ (n : ℕ). all_values (blanks + q + p) n files) places

  last_there : (x : ValueTriple) → In x (all_values (blanks + p + q) (length + a.length + c.length) files) → Goes x
  last_there x i = (
    x,
    in_right c_first (a_second ++ files_last) x (in_right a_second files_last x (subst (In x) last_same i)),
    stays (rotated blanks p q) x (also_so (λ n. blanks + p + q ≤ n) (λ n. rotated blanks p q n ≡ n) (λ n le. rotated_past blanks p q n le) x (files_from files (blanks + p + q) (length + a.length + c.length) x i)),
  )

  goes : (x : ValueTriple) → In x (all_values blanks length (a ∷ c ∷ files)) → Goes x
  goes x i =
      elim (in_either (triples_behind blanks length a.records) (all_values (blanks + p) (length + a.length) (c ∷ files)) x i) [
        | inl one ↦ first_there x one
        | inr later ↦ elim (in_either (triples_behind (blanks + p) (length + a.length) c.records) (all_values (blanks + p + q) (length + a.length + c.length) files) x later) [
          | inl two ↦ second_there x two
          | inr last ↦ last_there x last
        ]
      ]

alike_flipped : (a c : Contents) (files : List Contents) → SayAlike (a ∷ c ∷ files) (c ∷ a ∷ files)
alike_flipped a c files blanks length = record {
  forth = rotated blanks (blank_count a.records.triples) (blank_count c.records.triples);
  back = rotated blanks (blank_count c.records.triples) (blank_count a.records.triples);
  forth_and_back = rotated_back blanks (blank_count a.records.triples) (blank_count c.records.triples);
  back_and_forth = rotated_back blanks (blank_count c.records.triples) (blank_count a.records.triples);
  low = rotated_low blanks (blank_count a.records.triples) (blank_count c.records.triples);
  there = goes a c files blanks length;
  here = goes c a files blanks length;
}

pub say_alike : (files others : List Contents) → IsPermutation files others → SayAlike files others
say_alike =
    related SayAlike (λ files blanks length. alike_same blanks (all_values blanks length files))
    (λ xs ys zs h k blanks length. alike_on blanks (all_values blanks length xs) (all_values blanks length ys) (all_values blanks length zs) (h blanks length) (k blanks length))
    (λ a xs ys h blanks length. alike_under a xs ys h blanks length) alike_flipped
