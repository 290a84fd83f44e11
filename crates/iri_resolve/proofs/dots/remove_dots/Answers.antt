use Rattle.std.proofs.Common.{◌≡◌, ◌<◌, drop, length, ap, sym, ◌∙◌, subst, arith, ℕ, List}
use Rattle.iri_resolve.specs.Dots.{dot_step, without_dots, without_dots_from}
use Rattle.iri_resolve.proofs.Removal.{next_step, step_shorter, some_left}
use Rattle.iri_resolve.proofs.dots.remove_dots.Goals as goal

pub loop-rest-smaller : goal.loop-rest-smaller
loop-rest-smaller c = subst (λ x. length x < length c.loop-rest.rest.now) (sym c.in_ok-rest.ensures.rest)
    (step_shorter c.loop-rest.rest.now (drop c.len-start.result c.loop-rest.out.items) (some_left c.loop-rest.rest.now c.loop-rest-test.ensures))

pub loop-rest-preserved : goal.loop-rest-preserved
loop-rest-preserved c =
    let i = c.loop-rest.invariant in
    let next = next_step c.loop-rest.rest.now (drop c.len-start.result c.loop-rest.out.items) (some_left c.loop-rest.rest.now c.loop-rest-test.ensures) in
    let P : List ℕ → Type 0 = λ x. without_dots_from (length x) x (drop c.len-start.result c.dot_step.new.out.items) ≡ without_dots c.args.path.now in (
      omega (arith, c.in_ok-rest.ensures.within),
      c.in_ok-rest.ensures.kept ∙ i.1,
      subst P (sym c.in_ok-rest.ensures.rest)
          (ap (λ x. without_dots_from (length (dot_step c.loop-rest.rest.now (drop c.len-start.result c.loop-rest.out.items)).0) (dot_step c.loop-rest.rest.now (drop c.len-start.result c.loop-rest.out.items)).0 x)
          c.in_ok-rest.ensures.output ∙ sym next ∙ i.2),
    )
