use Rattle.std.proofs.Common.{◌≡◌, ℕ, length, arith, sym, ap, ◌∙◌, subst}
use Rattle.time_primitive.specs.Machine.{next}
use Rattle.time_primitive.proofs.Reading.{Follows, start_wanted, follows_start, follows_step, refused_stuck, refused_unwanted, read_whole, ended_open, ended_other}
use Rattle.time_primitive.proofs.machine.read_form.Goals as goal

pub loop-i-init : goal.loop-i-init
loop-i-init c = record { follows = follows_start c.args.text.now; wanted = start_wanted c.args.datatype }

pub returns-in_default-clause-value : goal.returns-in_default-clause-value
returns-in_default-clause-value c =
    let stuck = ap (next c.loop-i.state) (sym c.class_of.ensures.class) ∙ sym c.next.ensures ∙ c.in_default.is in
    sym (refused_stuck c.args.datatype c.args.text.now c.loop-i.i c.loop-i.state c.loop-i-test.true c.class_of.ensures.range c.loop-i.invariant.follows c.loop-i.invariant.wanted stuck)

pub returns-then-not-wants-clause-value : goal.returns-then-not-wants-clause-value
returns-then-not-wants-clause-value c =
    let step = ap (next c.loop-i.state) (sym c.class_of.ensures.class) ∙ sym c.in-Some.ensures in
    sym (refused_unwanted c.args.datatype c.args.text.now c.loop-i.i c.loop-i.state c.in-Some.next c.loop-i-test.true c.class_of.ensures.range c.loop-i.invariant.follows c.loop-i.invariant.wanted step (sym c.wants.ensures ∙ c.if-not-wants.true))

pub loop-i-preserved : goal.loop-i-preserved
loop-i-preserved c =
    let step = ap (next c.loop-i.state) (sym c.class_of.ensures.class) ∙ sym c.in-Some.ensures in
    record {
      follows = follows_step c.args.text.now c.loop-i.i c.loop-i.state c.in-Some.next c.loop-i-test.true c.class_of.ensures.range c.loop-i.invariant.follows step;
      wanted = sym c.wants.ensures ∙ c.if-not-wants.false;
    }

pub returns-in_default-form-clause-value : goal.returns-in_default-form-clause-value
returns-in_default-form-clause-value c =
    let end : c.loop-i.i ≡ length c.args.text.now = omega arith in
    let follows = subst (λ (i : ℕ). Follows c.args.text.now i c.loop-i.state) end c.loop-i.invariant.follows in
    sym (ended_open c.args.datatype c.args.text.now c.loop-i.state follows c.loop-i.invariant.wanted (sym c.form.ensures ∙ c.in_default-form.is))

pub returns-then-takes-clause-value : goal.returns-then-takes-clause-value
returns-then-takes-clause-value c =
    let end : c.loop-i.i ≡ length c.args.text.now = omega arith in
    let follows = subst (λ (i : ℕ). Follows c.args.text.now i c.loop-i.state) end c.loop-i.invariant.follows in
    sym (read_whole c.args.datatype c.args.text.now c.loop-i.state c.in-Some-form.form follows (sym c.in-Some-form.ensures) (sym c.takes.ensures ∙ c.if-takes.true))

pub returns-else-takes-clause-value : goal.returns-else-takes-clause-value
returns-else-takes-clause-value c =
    let end : c.loop-i.i ≡ length c.args.text.now = omega arith in
    let follows = subst (λ (i : ℕ). Follows c.args.text.now i c.loop-i.state) end c.loop-i.invariant.follows in
    sym (ended_other c.args.datatype c.args.text.now c.loop-i.state c.in-Some-form.form follows c.loop-i.invariant.wanted (sym c.in-Some-form.ensures) (sym c.takes.ensures ∙ c.if-takes.false))
