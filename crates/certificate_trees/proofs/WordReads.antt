-- Words are read to their last byte.
use Rattle.std.proofs.Common.{arith, zero, suc, ◌≡◌, ◌<◌, ◌≤◌, ◌+◌, ℕ, Some, List, [], ◌∷◌, ◌++◌, length, get_or, take, drop, refl, sym, ap, subst, ◌∙◌, append_assoc, length-append, Result, Ok, Err}
use Rattle.std.specs.Prelude.{slice_get, IfOk, IfErr}
use Rattle.std.specs.Result.{IsErrAnd}
use Rattle.std.proofs.lemmas.List.{drop_more, take-append-drop, append_cancel_left}
use Rattle.certificate_trees.specs.Reads.{IsRead}
use Rattle.certificate_trees.specs.Beginnings.{Word, IsWhole, IsStopped}
use Rattle.certificate_trees.proofs.Pieces.{byte_read, none_read}

pub word_is_whole : (text word : List ℕ) (at to : ℕ) → IsRead text at to word → IsWhole (Word word) text at to
word_is_whole text word at to read = record {
  piece = word;
  read = read;
  whole = refl;
  further = λ c e b. (let size = ap (λ z. length z) b.1 in
      let one = length-append (word ++ c ∷ []) b.0 in
      let two : length (word ++ c ∷ []) ≡ length word + 1 = length-append word (c ∷ []) in
      absurd (omega (arith, size, one, two)));
}

size_taken : (k : ℕ) (word : List ℕ) → k < length word → length (take k word) ≡ k
size_taken zero word h = refl
size_taken (suc k) [] h = absurd (omega (arith, h))
size_taken (suc k) (x ∷ word) h = ap (λ z. suc z) (size_taken k word (omega (arith, h)))

pub word_stopped : (text word : List ℕ) (at k : ℕ) → IsRead text at (at + k) (take k word) → k < length word → (slice_get text (at + k) ≡ Some (get_or word k 0) → ⊥) →
    IsStopped (Word word) text at (at + k)
word_stopped text word at k read within other = record {
  piece = take k word;
  read = read;
  begins = (drop k word, take-append-drop k word);
  unfinished = λ p q e t. (let size = size_taken k word within in
      let all = ap (λ z. length z) e in
      let both = length-append p q in
      let whole = ap (λ z. length z) t in
      absurd (omega (arith, size, all, both, whole, within)));
  further = λ c e b. (let rest : drop k word ≡ c ∷ b.0 = append_cancel_left (take k word) (drop k word) (c ∷ b.0)
      (take-append-drop k word ∙ sym b.1 ∙ append_assoc (take k word) (c ∷ []) b.0) in
      let same : c ≡ get_or word k 0 = cc (rest, drop_more word k 0 within) in
      other (e ∙ ap (λ z. Some z) same));
}

pub byte_whole : (text : List ℕ) (at c : ℕ) → slice_get text at ≡ Some c → IsWhole (Word (c ∷ [])) text at (at + 1)
byte_whole text at c e = word_is_whole text (c ∷ []) at (at + 1) (byte_read text at c e)

pub byte_stopped : (text : List ℕ) (at c : ℕ) → at ≤ length text → (slice_get text at ≡ Some c → ⊥) → IsStopped (Word (c ∷ [])) text at at
byte_stopped text at c within other = record {
  piece = [];
  read = none_read text at within;
  begins = (c ∷ [], refl);
  unfinished = λ p q e t. (let P : List ℕ → Type 0 = λ z. [] ≡ z ++ q in let none : [] ≡ (c ∷ []) ++ q = subst P t e in absurd (cc none));
  further = λ d e b. (let same : d ≡ c = cc b.1 in other (e ∙ ap (λ z. Some z) same));
}

-- an error that is handed on
pub handed_on : {V E : Type 0} (r : Result V E) (x : E) (P : E → Type 0) → IsErrAnd r (λ y. y ≡ x) → P x → IfErr r P
handed_on (Ok v) x P h p = tt
handed_on (Err y) x P h p = subst P (sym h) p

-- what three clauses say of a result together
pub if_ok_all : {V E : Type 0} {P Q R S : V → Type 0} (r : Result V E) → IfOk r P → IfOk r Q → IfOk r R → ((v : V) → P v → Q v → R v → S v) → IfOk r S
if_ok_all (Ok v) p q r all = all v p q r
if_ok_all (Err e) p q r all = tt
