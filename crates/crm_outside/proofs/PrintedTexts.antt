-- Texts that are printed one after another.
use Rattle.std.proofs.Common.{ℕ, ◌+◌, List, [], ◌++◌, min, length, sym, ◌∙◌, arith, subst, length-append, Result, Ok, Err}
use Rattle.std.specs.Prelude.{Option}
use Rattle.std.proofs.lemmas.List.{take-append-le, take_min}
use Rattle.std.proofs.Math.Seq.{take-append-add}
use Rattle.std.proofs.KnownBytes.{Appends-trans, Appends-nil}
use Rattle.std.specs.Io.KnownBytes.{Appends}
use Rattle.std.proofs.lemmas.Grind.{common_steps}
use Rattle.crm_outside.specs.declared.printing.PrintFault.{PrintFault}
use Rattle.crm_outside.specs.declared.printing.PrintFault.TheVariants.{Memory}
use Rattle.crm_outside.specs.Printing.{Printed, Broken, Prints}

module _ {S : Type 0} (written : S → Option (List ℕ)) (faults sure : S → ℕ) where
  -- nothing is printed
  pub printed_nothing : (a : S) → Printed written faults sure a a []
  printed_nothing a = record { whole = Appends-nil (written a); later = omega arith; spent = omega arith }

  -- a text, and then another
  pub printed_then : (a b c : S) (t u : List ℕ) → Printed written faults sure a b t → Printed written faults sure b c u → Printed written faults sure a c (t ++ u)
  printed_then a b c t u p q = record {
    whole = Appends-trans _ _ _ t u p.whole q.whole;
    later = omega arith;
    spent = omega (arith, length-append t u, p.spent, q.spent);
  }

  -- a text, and then a front of another
  pub broken_later : (a b c : S) (t u : List ℕ) (e : PrintFault) → Printed written faults sure a b t → Broken written faults sure b c u e → Broken written faults sure a c (t ++ u) e
  broken_later a b c t u e p q = record {
    front = (length t + q.front.0, subst (Appends (written a) (written c)) (sym (take-append-add t u q.front.0)) (Appends-trans _ _ _ t _ p.whole q.front.1));
    later = omega arith;
    cause = λ is. omega (arith, q.cause is, p.later);
    never = λ is. omega (arith, length-append t u, q.never is, p.spent);
    spent = omega (arith, length-append t u, p.spent, q.spent);
  }

  -- a longer text broke off as its front did
  pub broken_front : (a b : S) (t u : List ℕ) (e : PrintFault) → Broken written faults sure a b t e → Broken written faults sure a b (t ++ u) e
  broken_front a b t u e p = record {
    front = (min p.front.0 (length t), subst (Appends (written a) (written b)) (sym (take-append-le (min p.front.0 (length t)) t u (omega arith) ∙ take_min p.front.0 t)) p.front.1);
    later = p.later;
    cause = p.cause;
    never = λ is. omega (arith, length-append t u, p.never is);
    spent = omega (arith, length-append t u, p.spent);
  }

  -- memory was wanting behind a front of the text
  pub broken_memory : (a b : S) (t u : List ℕ) → Printed written faults sure a b t → Broken written faults sure a b (t ++ u) Memory
  broken_memory a b t u p = record {
    front = (length t, subst (Appends (written a) (written b)) (sym (grind (arith, common_steps))) p.whole);
    later = p.later;
    cause = λ is. cc;
    never = λ is. cc;
    spent = omega (arith, length-append t u, p.spent);
  }

  -- the last call's result is returned as it is
  pub prints_then : {T : Type 0} (a b c : S) (t u : List ℕ) (r : Result T PrintFault) → Printed written faults sure a b t → Prints written faults sure b c u r → Prints written faults sure a c (t ++ u) r
  prints_then a b c t u (Ok x) p q = record { ok = printed_then a b c t u p q.ok; err = tt }
  prints_then a b c t u (Err e) p q = record { ok = tt; err = broken_later a b c t u e p q.err }

  -- memory was wanting before anything was printed
  pub starved : (a : S) (t : List ℕ) → Broken written faults sure a a t Memory
  starved a t = broken_memory a a [] t (printed_nothing a)
