use Rattle.std.proofs.Common.{[], ◌∷◌, ◌++◌, ap, subst, sym}
use Rattle.std.specs.Prelude.{Bool, Ok, cond, Err, None}
use Rattle.rdf_chars.specs.Steps.{Stands, IsPushed, pushed}
use Rattle.rdf_chars.specs.Utf8.{Pushes}
use Rattle.rdf_chars.proofs.Standing.{next_of, Next, small_pushed, some_of_scalar}
use Rattle.rdf_chars.proofs.utf8.Utf8Steps.push.Goals.{then-is_bad, else-is_bad}
use Rattle.rdf_chars.proofs.utf8.Utf8Steps.push.Goals as goal

pub returns-in-Whole-clause-stands : goal.returns-in-Whole-clause-stands
returns-in-Whole-clause-stands c = λ bytes stands.
    let s = subst (λ x. Stands x bytes) (sym c.self.view_is) stands in
    let next = next_of c.self.inside.step (record { step = c.self.inside.step; from = c.self.inside.from; count = c.self.inside.count }) bytes c.args.byte c.self.invariant.0
    (small_pushed (pushed c.self.inside.step c.args.byte) (subst IsPushed c.in-Whole.ensures.pushed c.in-Whole.ensures.right)) s.0 s.1 in
    (subst (λ p. Next (record { step = c.self.inside.step; from = c.self.inside.from; count = c.self.inside.count }) p (bytes ++ c.args.byte ∷ [])) (sym c.in-Whole.ensures.pushed) next).0

pub returns-in-Whole-clause-says : goal.returns-in-Whole-clause-says
returns-in-Whole-clause-says c = λ bytes stands.
    let s = subst (λ x. Stands x bytes) (sym c.self.view_is) stands in
    let next = next_of c.self.inside.step (record { step = c.self.inside.step; from = c.self.inside.from; count = c.self.inside.count }) bytes c.args.byte c.self.invariant.0
    (small_pushed (pushed c.self.inside.step c.args.byte) (subst IsPushed c.in-Whole.ensures.pushed c.in-Whole.ensures.right)) s.0 s.1 in
    let says = (subst (λ p. Next (record { step = c.self.inside.step; from = c.self.inside.from; count = c.self.inside.count }) p (bytes ++ c.args.byte ∷ [])) (sym c.in-Whole.ensures.pushed) next).1 in
    subst (Pushes (bytes ++ c.args.byte ∷ [])) (ap (λ x. Ok x) (sym (some_of_scalar c.from_u32.result c.in-Whole.code c.from_u32.ensures.value c.in-Whole.ensures.right))) says

pub returns-after-is_bad-clause-stands : goal.returns-after-is_bad-clause-stands
returns-after-is_bad-clause-stands c = λ bytes stands.
    let s = subst (λ x. Stands x bytes) (sym c.self.view_is) stands in
    let next = next_of c.self.inside.step (record { step = c.self.inside.step; from = c.self.inside.from; count = c.self.inside.count }) bytes c.args.byte c.self.invariant.0
    (small_pushed (pushed c.self.inside.step c.args.byte) (subst IsPushed c.in-Inside.ensures.pushed c.in-Inside.ensures.right)) s.0 s.1 in
    (subst (λ p. Next (record { step = c.self.inside.step; from = c.self.inside.from; count = c.self.inside.count }) p (bytes ++ c.args.byte ∷ [])) (sym c.in-Inside.ensures.pushed) next).0

pub returns-after-is_bad-clause-says : goal.returns-after-is_bad-clause-says
returns-after-is_bad-clause-says c = λ bytes stands.
    let s = subst (λ x. Stands x bytes) (sym c.self.view_is) stands in
    let next = next_of c.self.inside.step (record { step = c.self.inside.step; from = c.self.inside.from; count = c.self.inside.count }) bytes c.args.byte c.self.invariant.0
    (small_pushed (pushed c.self.inside.step c.args.byte) (subst IsPushed c.in-Inside.ensures.pushed c.in-Inside.ensures.right)) s.0 s.1 in
    let says = (subst (λ p. Next (record { step = c.self.inside.step; from = c.self.inside.from; count = c.self.inside.count }) p (bytes ++ c.args.byte ∷ [])) (sym c.in-Inside.ensures.pushed) next).1 in
    let by_test : Bool → Type 0 = λ t. Pushes (bytes ++ c.args.byte ∷ []) (cond t (Err (record { at = c.self.inside.from })) (Ok None)) in
    elim c.if-is_bad.branch [
      | then-is_bad w ↦ subst (Pushes (bytes ++ c.args.byte ∷ [])) (sym w.result-is) (subst by_test (sym w.if-is_bad.ensures) says)
      | else-is_bad w ↦ subst (Pushes (bytes ++ c.args.byte ∷ [])) (sym w.result-is) (subst by_test (sym w.if-is_bad.ensures) says)
    ]
