-- Marks, one after another.
use Rattle.std.proofs.Common.{ℕ, suc, ◌≡◌, ◌<◌, ◌≤◌, ◌+◌, ◌&&◌, ◌||◌, Bool, true, false, List, get_or, drop, length, sym, ap, ◌∙◌, add-one}
use Rattle.std.proofs.Math.Seq.{drop-cons}
use Rattle.std.proofs.lemmas.List.{drop_all}
use Rattle.std.proofs.lemmas.Bool.{or_left}
use Rattle.crm_type_check.specs.Index.{some_from}

split_at : (marks : List Bool) (i : ℕ) (test : ℕ → Bool) → i < length marks →
    some_from i (drop i marks) test ≡ ((get_or marks i false && test i) || some_from (suc i) (drop (suc i) marks) test)
split_at marks i test l = ap (λ (ms : List Bool). some_from i ms test) (drop-cons marks i false l)

-- a mark that doesn't count is passed over, and one that counts is found
pub some_step : (marks : List Bool) (i : ℕ) (test : ℕ → Bool) → i < length marks → (get_or marks i false && test i) ≡ false →
    some_from i (drop i marks) test ≡ some_from (i + 1) (drop (i + 1) marks) test
some_step marks i test l off =
    split_at marks i test l ∙ ap (λ (b : Bool). b || some_from (suc i) (drop (suc i) marks) test) off
    ∙ ap (λ (n : ℕ). some_from n (drop n marks) test) (sym (add-one i))

pub some_here : (marks : List Bool) (i : ℕ) (test : ℕ → Bool) → i < length marks → (get_or marks i false && test i) ≡ true →
    some_from i (drop i marks) test ≡ true
some_here marks i test l on =
    split_at marks i test l ∙ or_left (get_or marks i false && test i) (some_from (suc i) (drop (suc i) marks) test) on

pub some_end : (marks : List Bool) (i : ℕ) (test : ℕ → Bool) → length marks ≤ i → some_from i (drop i marks) test ≡ false
some_end marks i test l = ap (λ (ms : List Bool). some_from i ms test) (drop_all i marks l)
