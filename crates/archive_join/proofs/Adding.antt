-- Triples of a file that are added one by one.
use Rattle.std.proofs.Common.{◌≡◌, ℕ, ◌+◌, ◌<◌, List, [], ◌∷◌, ◌++◌, length, drop, map, max, Option, Some, None, refl, sym, ap, subst, ◌∙◌, arith, append_assoc, append-nil, add-one, suc}
use Rattle.std.specs.Prelude.{slice_get}
use Rattle.std.specs.Option.{option_map}
use Rattle.std.specs.List.{cons_option}
use Rattle.std.proofs.Math.Seq.{drop-cons}
use Rattle.std.proofs.Math.Nat.{max-zero, zero-max}
use Rattle.std.proofs.lemmas.Option.{slice_get_within, get_or_from_slice_get}
use Rattle.rdf_terms.specs.declared.terms.Refusal.{Refusal}
use Rattle.rdf_terms.specs.declared.terms.Triple.{Triple}
use Rattle.rdf_terms.specs.declared.triples.Records.{Records}
use Rattle.rdf_terms.specs.Naming.{NameLists}
use Rattle.archive_join.specs.declared.faults.JoinFault.TheVariants.{Refused}
use Rattle.joined_names.specs.declared.table.NameTable.{NameTable}
use Rattle.joined_names.specs.Values.{ValueTriple, value_triple, value_triples, with_values, with_all, moved}
use Rattle.archive_join.specs.Limits.{AreFew, IsFirstPast, IsPast, IsPastWith, with_option}
use Rattle.archive_join.specs.Joining.{triples_behind, blank_count, behind_triple}
use Rattle.joined_names.specs.Named.{IsTable}

-- what triples say, behind so many blank nodes and bytes
abbrev pub behind : ℕ → ℕ → NameLists → List Triple → List ValueTriple
behind blanks length names triples = map (moved blanks length) (value_triples names triples)

-- So far as the first k triples of a file were added.
pub record IsAdded (blanks length : ℕ) (file start reached : Records) (terms : NameTable) (k bound : ℕ) : Type 0 where
  pub done : List ValueTriple
  pub all : triples_behind blanks length file ≡ done ++ behind blanks length file.names (drop k file.triples)
  pub now : reached ≡ with_all start done
  pub table : IsTable file.names reached.names terms
  pub few : AreFew reached
  pub seen : max bound (blank_count (drop k file.triples)) ≡ blank_count file.triples

with_all_one : (r : Records) (xs : List ValueTriple) (x : ValueTriple) → with_all r (xs ++ x ∷ []) ≡ with_values (with_all r xs) x
unfolding with_all
with_all_one r [] x = refl
with_all_one r (y ∷ ys) x = with_all_one (with_values r y) ys x

map_option : {X Y : Type 0} (f : X → Y) (o : Option X) (xs : List X) → map f (cons_option o xs) ≡ cons_option (option_map f o) (map f xs)
map_option f None xs = refl
map_option f (Some x) xs = refl

opened : (ts : List Triple) (k : ℕ) (t : Triple) → slice_get ts k ≡ Some t → drop k ts ≡ t ∷ drop (k + 1) ts
opened ts k t is =
    let within : k < length ts = slice_get_within ts k t is in
    rw add-one (drop-cons ts k t within ∙ ap (λ (x : Triple). x ∷ drop (suc k) ts) (get_or_from_slice_get ts k t t is))

blank_count_cons : (t : Triple) (ts : List Triple) → blank_count (t ∷ ts) ≡ max (behind_triple t) (blank_count ts)
unfolding blank_count
blank_count_cons t ts = refl

max_assoc : (a b c : ℕ) → max (max a b) c ≡ max a (max b c)
max_assoc a b c = omega arith

blank_count_nil : blank_count [] ≡ 0
unfolding blank_count
blank_count_nil = refl

module _ (blanks length : ℕ) (file start : Records) where
  -- nothing was added
  pub added_none : (table : NameTable) → AreFew start → IsTable file.names start.names table → IsAdded blanks length file start start table 0 0
  unfolding with_all
  added_none table few is = record { done = []; all = refl; now = refl; table = is; few = few; seen = zero-max _ }

  -- the next triple says this, if anything
  next_option : (k : ℕ) (t : Triple) → slice_get file.triples k ≡ Some t →
      behind blanks length file.names (drop k file.triples) ≡ cons_option (option_map (moved blanks length) (value_triple file.names t)) (behind blanks length file.names (drop (k + 1) file.triples))
  next_option k t is = ap (behind blanks length file.names) (opened file.triples k t is) ∙ map_option (moved blanks length) (value_triple file.names t) _

  put_last : (now next : Records) (o : Option ValueTriple) (all done rest : List ValueTriple) → all ≡ done ++ cons_option o rest → now ≡ with_all start done → next ≡ with_option now o
      → (more : List ValueTriple) × (all ≡ more ++ rest) × (next ≡ with_all start more)
  put_last now next None all done rest whole is put = (done, whole, put ∙ is)
  put_last now next (Some x) all done rest whole is put =
      (done ++ x ∷ [], whole ∙ sym (append_assoc done (x ∷ []) rest), put ∙ ap (λ (r : Records). with_values r x) is ∙ sym (with_all_one start done x))

  -- one triple more
  pub added_one : (now next : Records) (table more : NameTable) (k seen bound : ℕ) (t : Triple) → slice_get file.triples k ≡ Some t → IsAdded blanks length file start now table k seen
      → next ≡ with_option now (option_map (moved blanks length) (value_triple file.names t)) → IsTable file.names next.names more → AreFew next → bound ≡ behind_triple t
      → IsAdded blanks length file start next more (k + 1) (max seen bound)
  added_one now next table more k seen bound t at is put tabled few bounds =
      let p = put_last now next (option_map (moved blanks length) (value_triple file.names t)) (triples_behind blanks length file) is.done (behind blanks length file.names (drop (k + 1) file.triples))
      (is.all ∙ ap (λ (xs : List ValueTriple). is.done ++ xs) (next_option k t at)) is.now put in
      record {
        done = p.0;
        all = p.1;
        now = p.2;
        table = tabled;
        few = few;
        seen = max_assoc seen bound (blank_count (drop (k + 1) file.triples))
            ∙ ap (λ (n : ℕ). max seen n) (ap (λ (b : ℕ). max b (blank_count (drop (k + 1) file.triples))) bounds ∙ sym (blank_count_cons t (drop (k + 1) file.triples)) ∙ ap (λ (ts : List Triple). blank_count ts) (sym (opened file.triples k t at)))
            ∙ is.seen;
      }

  -- all of them
  pub added_all : (now : Records) (table : NameTable) (k seen : ℕ) → drop k file.triples ≡ [] → IsAdded blanks length file start now table k seen
      → (now ≡ with_all start (triples_behind blanks length file)) × (seen ≡ blank_count file.triples)
  added_all now table k seen end is = (
    is.now ∙ ap (with_all start) (sym (is.all ∙ ap (λ (ts : List Triple). is.done ++ behind blanks length file.names ts) end ∙ append-nil is.done)),
    sym (max-zero seen) ∙ ap (λ (n : ℕ). max seen n) (sym blank_count_nil ∙ ap (λ (ts : List Triple). blank_count ts) (sym end)) ∙ is.seen,
  )

  at_first : (now : Records) (f : Refusal) (o : Option ValueTriple) (all done rest : List ValueTriple) → all ≡ done ++ cons_option o rest → now ≡ with_all start done → AreFew now → IsPastWith now o (Refused f)
      → IsFirstPast start all f
  at_first now f None all done rest whole is few past = absurd past
  at_first now f (Some x) all done rest whole is few past = record {
    done = done;
    first = x;
    rest = rest;
    all = whole;
    few = subst AreFew is few;
    past = subst (λ (r : Records). IsPast (with_values r x) f.code) is past.0;
    at = past.1;
  }

  -- the next one passes a limit
  pub refused_next : (now : Records) (table : NameTable) (k seen : ℕ) (t : Triple) (f : Refusal) → slice_get file.triples k ≡ Some t → IsAdded blanks length file start now table k seen
      → IsPastWith now (option_map (moved blanks length) (value_triple file.names t)) (Refused f) → IsFirstPast start (triples_behind blanks length file) f
  refused_next now table k seen t f at is past =
      at_first now f (option_map (moved blanks length) (value_triple file.names t)) (triples_behind blanks length file) is.done (behind blanks length file.names (drop (k + 1) file.triples))
      (is.all ∙ ap (λ (xs : List ValueTriple). is.done ++ xs) (next_option k t at)) is.now is.few past
