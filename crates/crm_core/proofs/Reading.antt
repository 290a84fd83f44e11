-- A file that is fed to a reader, and what is answered of it.
use Rattle.std.proofs.Common.{◌≡◌, ℕ, ◌+◌, ◌≤◌, ◌<◌, List, [], ◌++◌, length, refl, sym, ap, subst, ◌∙◌, arith, append_assoc, append-nil, length-append, length-take, take, Option, Some, None, is_some, true, false, true≢false, Result, Ok, Err, inl, inr}
use Rattle.std.specs.Prelude.{Bool, IfSome, IfOk, IfErr, nat_lt}
use Rattle.std.proofs.lemmas.Bool.Decides.{nat_tests}
use Rattle.std.proofs.lemmas.List.{take-append-le}
use Rattle.std.specs.Io.KnownBytes.{Consumes, IsAtEnd}
use Rattle.std.proofs.KnownBytes.{Consumes-nil, Consumes-trans}
use Rattle.crm_outside.specs.Shelves.{Files, IsOpened}
use Rattle.crm_outside.proofs.Pieces.{taken_to}
use Rattle.rdf_terms.specs.declared.terms.Code.{Code}
use Rattle.rdf_terms.specs.declared.terms.Code.TheVariants.{L1}
use Rattle.rdf_terms.specs.declared.terms.Refusal.{Refusal}
use Rattle.rdf_terms.specs.declared.triples.Records.{Records}
use Rattle.rdf_reading.specs.Answers.{Answer, IsRefusal}
use Rattle.rdf_reading.specs.Answers.Answer.{Refuse, Read}
use Rattle.rdf_reading.specs.declared.refusals.ReadRefusal.{ReadRefusal}
use Rattle.rdf_reading.specs.declared.refusals.ReadRefusal.TheVariants as reading
use Rattle.crm_core.specs.Contents.{Contents}
use Rattle.crm_core.specs.declared.faults.ArchiveFault.{ArchiveFault}
use Rattle.crm_core.specs.declared.faults.ArchiveFault.TheVariants.{Failed, Refused, Memory}
use Rattle.crm_core.specs.Files.{file_answer, text_answer, archived, is_ntriples, IsAnswer, AnswersBytes, Answers, IsFed, IsFedWhole, IsLong, IsTakenLong, IsOut, IsReadOut, HasLength, HasLengthOf}

-- nothing was fed
pub fed_nothing : (a : Option (List ℕ)) (p : List ℕ → Answer) → IsFed a a p p 0
fed_nothing a p = record { bytes = []; count = refl; taken = Consumes-nil a; fed = λ more. refl }

-- a piece more
fed_more : (a b c : Option (List ℕ)) (p q r : List ℕ → Answer) (n : ℕ) (piece : List ℕ) → IsFed a b p q n → Consumes b c piece
    → ((more : List ℕ) → r more ≡ q (piece ++ more)) → IsFed a c p r (n + length piece)
fed_more a b c p q r n piece f taken fed = record {
  bytes = f.bytes ++ piece;
  count = length-append f.bytes piece ∙ ap (λ (k : ℕ). k + length piece) f.count;
  taken = Consumes-trans a b c f.bytes piece f.taken taken;
  fed = λ more. fed more ∙ f.fed (piece ++ more) ∙ ap p (sym (append_assoc f.bytes piece more));
}

module _ (count : ℕ) (buf rest : List ℕ) (le : count ≤ length buf) where
  window_front : take count (buf ++ rest) ≡ take count buf
  window_front = take-append-le count buf rest le

  front_count : length (take count buf) ≡ count
  front_count = omega (arith, length-take count buf)

  pub window_count : length (take count (buf ++ rest)) ≡ count
  window_count = ap (λ (l : List ℕ). length l) window_front ∙ front_count

  -- the front of a window more
  pub fed_window : (a b c : Option (List ℕ)) (p q r : List ℕ → Answer) (n : ℕ) → IsFed a b p q n → Consumes b c (take count buf)
      → ((more : List ℕ) → r more ≡ q (take count (buf ++ rest) ++ more)) → IsFed a c p r (n + count)
  fed_window a b c p q r n f taken fed =
      subst (λ (k : ℕ). IsFed a c p r (n + k)) front_count
      (fed_more a b c p q r n (take count buf) f taken (λ more. fed more ∙ ap (λ (l : List ℕ). q (l ++ more)) window_front))

-- where something was left, something is, if only nothing
pub still_open : (a b : Option (List ℕ)) (p q : List ℕ → Answer) (n : ℕ) → IsFed a b p q n → is_some a ≡ true → is_some b ≡ true
still_open None b p q n f is = absurd (true≢false (sym is))
still_open (Some x) None p q n f is = absurd f.taken
still_open (Some x) (Some y) p q n f is = refl

pub short_file : (b : Bool) (base : Option (List ℕ)) (bytes : List ℕ) → length bytes ≤ 67108864 → file_answer b base bytes ≡ text_answer b base bytes
unfolding file_answer
short_file b base bytes le = let low : nat_lt 67108864 (length bytes) ≡ false = grind (arith, nat_tests) in rw low refl

pub long_file : (b : Bool) (base : Option (List ℕ)) (bytes : List ℕ) → 67108864 < length bytes → file_answer b base bytes ≡ Refuse L1 67108864
unfolding file_answer
long_file b base bytes lt = let high : nat_lt 67108864 (length bytes) ≡ true = grind (arith, nat_tests) in rw high refl

-- all of a file was fed
whole_answer : (b : Bool) (base : Option (List ℕ)) (xs : List ℕ) (left : Option (List ℕ)) (before now : List ℕ → Answer) (count : ℕ) → IsFedWhole (Some xs) left before now count
    → ((bytes : List ℕ) → before bytes ≡ text_answer b base bytes) → now [] ≡ file_answer b base xs
whole_answer b base xs None before now count w is = absurd w.fed.taken
whole_answer b base xs (Some ys) before now count w is =
    let bytes = w.fed.bytes in
    let all : xs ≡ bytes = w.fed.taken ∙ ap (λ (l : List ℕ). bytes ++ l) w.end ∙ append-nil bytes in
    let le : length bytes ≤ 67108864 = omega (arith, w.short, w.fed.count) in
    w.fed.fed [] ∙ is (bytes ++ []) ∙ ap (text_answer b base) (append-nil bytes) ∙ sym (short_file b base bytes le) ∙ ap (file_answer b base) (sym all)

pub told : (b : Bool) (base start left : Option (List ℕ)) (before now : List ℕ → Answer) (count : ℕ) (r : Result Records ArchiveFault) → IsFedWhole start left before now count
    → ((bytes : List ℕ) → before bytes ≡ text_answer b base bytes) → IsAnswer r (now []) → IfSome start (λ xs. IsAnswer r (file_answer b base xs))
told b base None left before now count r w is p = tt
told b base (Some xs) left before now count r w is p = subst (IsAnswer r) (whole_answer b base xs left before now count w is) p

-- the bytes that were fed are all of the file
pub whole_length : (start left : Option (List ℕ)) (before now : List ℕ → Answer) (count : ℕ) (r : Result Contents ArchiveFault) → IsFedWhole start left before now count
    → IfOk r (λ a. a.length ≡ count) → HasLength start r
whole_length None left before now count r w is = tt
whole_length (Some xs) None before now count r w is = absurd w.fed.taken
whole_length (Some xs) (Some ys) before now count (Err e) w is = tt
whole_length (Some xs) (Some ys) before now count (Ok a) w is =
    let bytes = w.fed.bytes in
    let all : xs ≡ bytes = w.fed.taken ∙ ap (λ (l : List ℕ). bytes ++ l) w.end ∙ append-nil bytes in
    is ∙ sym w.fed.count ∙ ap (λ (l : List ℕ). length l) (sym all)

-- where feeding broke off there is no archive
pub no_length : (start : Option (List ℕ)) (e : ArchiveFault) → HasLength start (Err e)
no_length None e = tt
no_length (Some xs) e = tt

-- of a file that was opened
pub length_of_opened : (o : Option Files) (name : List ℕ) (start : Option (List ℕ)) (r : Result Contents ArchiveFault) → IsOpened o name start → HasLength start r → HasLengthOf o name r
length_of_opened None name start r opened h = tt
length_of_opened (Some files) name start r opened h = subst (λ (s : Option (List ℕ)). HasLength s r) opened.1 h

pub no_length_of : (o : Option Files) (name : List ℕ) (e : ArchiveFault) → HasLengthOf o name (Err e)
no_length_of None name e = tt
no_length_of (Some files) name e = no_length (files name) e

-- what the reader says at its end
pub finished : (a : Answer) (x : Result Records ReadRefusal) → IfOk x (λ r. a ≡ Read r) → IfErr x (λ e. IsRefusal e a) → IsAnswer (archived x) a
finished a (Ok r) ok err = ok
finished a (Err (reading.Refused f)) ok err = err
finished a (Err reading.Memory) ok err = tt

-- memory was wanting
pub starved : (b : Bool) (base start : Option (List ℕ)) → IfSome start (λ xs. IsAnswer (Err Memory) (file_answer b base xs))
starved b base None = tt
starved b base (Some xs) = tt

-- one byte past the limit was taken
too_long : (b : Bool) (base : Option (List ℕ)) (xs : List ℕ) (left : Option (List ℕ)) (f : Refusal) → IsLong (Some xs) left f → file_answer b base xs ≡ Refuse f.code f.at
too_long b base xs None f t = absurd t.taken
too_long b base xs (Some ys) f t =
    let len : length xs ≡ length t.bytes + length ys = ap (λ (l : List ℕ). length l) t.taken ∙ length-append t.bytes ys in
    long_file b base xs (omega (arith, len, t.count)) ∙ ap (λ (c : Code). Refuse c 67108864) (sym t.code) ∙ ap (λ (n : ℕ). Refuse f.code n) (sym t.at)

by_file : (b : Bool) (base : Option (List ℕ)) (xs : List ℕ) (left : Option (List ℕ)) (e : ArchiveFault) → IsTakenLong (Some xs) left e → IsAnswer (Err e) (file_answer b base xs)
by_file b base xs left Failed t = tt
by_file b base xs left Memory t = tt
by_file b base xs left (Refused f) t = subst (IsAnswer (Err (Refused f))) (sym (too_long b base xs left f t)) refl

pub broken_off : (b : Bool) (base start left : Option (List ℕ)) (e : ArchiveFault) → IsTakenLong start left e → IfSome start (λ xs. IsAnswer (Err e) (file_answer b base xs))
broken_off b base None left e t = tt
broken_off b base (Some xs) left e t = by_file b base xs left e t

by_held : (held start base : Option (List ℕ)) (b : Bool) (r : Result Records ArchiveFault) → is_some held ≡ true → start ≡ held → IfSome start (λ xs. IsAnswer r (file_answer b base xs))
    → AnswersBytes b base held r
by_held None start base b r is same p = absurd (true≢false (sym is))
by_held (Some xs) start base b r is same p = subst (λ (o : Option (List ℕ)). IfSome o (λ ys. IsAnswer r (file_answer b base ys))) same p

-- of a file that was opened
pub of_opened : (o : Option Files) (name : List ℕ) (start base : Option (List ℕ)) (b : Bool) (r : Result Records ArchiveFault) → b ≡ is_ntriples name → IsOpened o name start
    → IfSome start (λ xs. IsAnswer r (file_answer b base xs)) → Answers o base name r
of_opened None name start base b r is opened p = tt
of_opened (Some files) name start base b r is opened p = by_held (files name) start base (is_ntriples name) r opened.0 opened.1
    (subst (λ (t : Bool). IfSome start (λ xs. IsAnswer r (file_answer t base xs))) is p)

not_held : (b : Bool) (base held : Option (List ℕ)) → AnswersBytes b base held (Err Failed)
not_held b base None = tt
not_held b base (Some xs) = tt

-- of a file that was not
pub not_opened : (o : Option Files) (base : Option (List ℕ)) (name : List ℕ) → Answers o base name (Err Failed)
not_opened None base name = tt
not_opened (Some files) base name = not_held (is_ntriples name) base (files name)

-- where feeding broke off
pub long_out : (start left : Option (List ℕ)) (e : ArchiveFault) → IsTakenLong start left e → IsOut start left (Err e)
long_out start left Failed t = tt
long_out start left Memory t = tt
long_out start left (Refused f) t = inr (record { bytes = t.bytes; count = t.count; taken = t.taken })

-- where all was fed
pub whole_out : (start left : Option (List ℕ)) (x : Result Records ReadRefusal) → IsAtEnd left → IsOut start left (archived x)
whole_out start left (Ok r) end = end
whole_out start left (Err (reading.Refused f)) end = inl end
whole_out start left (Err reading.Memory) end = tt

pub out_of_opened : (o : Option Files) (name : List ℕ) (start left : Option (List ℕ)) (r : Result Records ArchiveFault) → IsOpened o name start → IsOut start left r → IsReadOut o name left r
out_of_opened o name start left (Ok r) opened p = p
out_of_opened o name start left (Err Failed) opened p = tt
out_of_opened o name start left (Err Memory) opened p = tt
out_of_opened o name start left (Err (Refused f)) opened p = elim p [
  | inl end ↦ inl end
  | inr past ↦ inr (taken_to o name start left past.bytes 67108865 opened past.taken past.count)
]

-- a file that is fed in one piece
pub fed_whole : (before now answer : List ℕ → Answer) (bytes : List ℕ) → ((more : List ℕ) → now more ≡ before (bytes ++ more)) → ((xs : List ℕ) → before xs ≡ answer xs) → now [] ≡ answer bytes
fed_whole before now answer bytes fed is = fed [] ∙ is (bytes ++ []) ∙ ap answer (append-nil bytes)

pub read_as : (a b : Answer) (r : Result Records ReadRefusal) → a ≡ b → IfOk r (λ x. a ≡ Read x) → IfOk r (λ x. b ≡ Read x)
read_as a b r e h = subst (λ (z : Answer). IfOk r (λ x. z ≡ Read x)) e h

pub refused_as : (a b : Answer) (r : Result Records ReadRefusal) → a ≡ b → IfErr r (λ x. IsRefusal x a) → IfErr r (λ x. IsRefusal x b)
refused_as a b r e h = subst (λ (z : Answer). IfErr r (λ x. IsRefusal x z)) e h

pub short_as : (b c : Bool) (base : Option (List ℕ)) (bytes : List ℕ) → length bytes ≤ 67108864 → c ≡ b → text_answer b base bytes ≡ file_answer c base bytes
short_as b c base bytes le e = sym (short_file c base bytes le ∙ ap (λ (t : Bool). text_answer t base bytes) e)
