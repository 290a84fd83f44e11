use Rattle.std.proofs.Common.{ℕ, List, true, false, sym, subst, ◌∙◌}
use Rattle.std.proofs.lemmas.Bool.{true≢false}
use Rattle.std.proofs.lemmas.Result.{err_from_is_err_and}
use Rattle.crm_outside.specs.Printing.{Printed, Broken}
use Rattle.order_laws.specs.Chains.{HasCycle}
use Rattle.order_laws.specs.Tables.{IsOrderSet}
use Rattle.order_core.specs.Sets.{Orders}
use Rattle.dating_reports.proofs.Instants.{moment_of, same_extents, text_of_periods, text_of_inconsistent, is_consistent, is_inconsistent}
use Rattle.dating_reports.proofs.under_way.print_at.Goals as goal

pub print_periods-requires-clause-moment : goal.print_periods-requires-clause-moment
print_periods-requires-clause-moment g c =
    let keeps = subst (λ (o : Orders). IsOrderSet o.list o.extents o.dates) c.orders-orders.ensures c.conditions.ensures.orders in
    moment_of c.args.dossier.now.orders keeps c.args.moment.now.instant c.args.moment.now.set.now c.args.moment.now.closure.now c.args.moment.now.date c.requires.moment
    (c.is_consistent.ensures.yes c.if-is_consistent.true c.args.moment.now.set.now c.requires.moment.closed) c.requires.few.orders

pub print_periods-requires-clause-extents : goal.print_periods-requires-clause-extents
print_periods-requires-clause-extents g c =
    let keeps = subst (λ (o : Orders). IsOrderSet o.list o.extents o.dates) c.orders-orders.ensures c.conditions.ensures.orders in
    same_extents c.args.dossier.now.orders keeps c.args.moment.now.instant c.args.moment.now.set.now c.requires.moment.is

pub returns-in_err-print_periods-clause-prints : goal.returns-in_err-print_periods-clause-prints
returns-in_err-print_periods-clause-prints g c =
    let p = err_from_is_err_and c.from_residual.result c.from_residual.ensures.1 in
    let keeps = subst (λ (o : Orders). IsOrderSet o.list o.extents o.dates) c.orders-orders.ensures c.conditions.ensures.orders in
    let same = text_of_periods c.args.dossier.now.orders keeps c.args.moment.now.instant c.args.moment.now.set.now c.args.moment.now.closure.now c.args.moment.now.date c.args.dossier.now.periods c.requires.moment
    (c.is_consistent.ensures.yes c.if-is_consistent.true c.args.moment.now.set.now c.requires.moment.closed) in
    rw (p.1, p.2) (record {
      ok = tt;
      err = subst (λ (t : List ℕ). Broken g.W.Sink.written g.W.Sink.faults g.W.Sink.sure c.args.out.now c.print_periods.new.out t c.in_err-print_periods.field-0.0) same c.in_err-print_periods.ensures.err;
    })

pub returns-then-is_consistent-clause-prints : goal.returns-then-is_consistent-clause-prints
returns-then-is_consistent-clause-prints g c =
    let keeps = subst (λ (o : Orders). IsOrderSet o.list o.extents o.dates) c.orders-orders.ensures c.conditions.ensures.orders in
    let same = text_of_periods c.args.dossier.now.orders keeps c.args.moment.now.instant c.args.moment.now.set.now c.args.moment.now.closure.now c.args.moment.now.date c.args.dossier.now.periods c.requires.moment
    (c.is_consistent.ensures.yes c.if-is_consistent.true c.args.moment.now.set.now c.requires.moment.closed) in
    record {
      ok = subst (Printed g.W.Sink.written g.W.Sink.faults g.W.Sink.sure c.args.out.now c.print_periods.new.out) same c.in_ok-print_periods.ensures.ok;
      err = tt;
    }

pub returns-then-is_consistent-clause-answer : goal.returns-then-is_consistent-clause-answer
returns-then-is_consistent-clause-answer g c =
    let keeps = subst (λ (o : Orders). IsOrderSet o.list o.extents o.dates) c.orders-orders.ensures c.conditions.ensures.orders in
    is_consistent c.args.dossier.now.orders keeps c.args.moment.now.instant c.args.moment.now.set.now c.args.moment.now.closure.now c.args.moment.now.date c.args.dossier.now.periods c.requires.moment
    (c.is_consistent.ensures.yes c.if-is_consistent.true c.args.moment.now.set.now c.requires.moment.closed)

pub returns-in_err-print_cycle-clause-prints : goal.returns-in_err-print_cycle-clause-prints
returns-in_err-print_cycle-clause-prints g c =
    let p = err_from_is_err_and c.from_residual-in_err-print_cycle.result c.from_residual-in_err-print_cycle.ensures.1 in
    let keeps = subst (λ (o : Orders). IsOrderSet o.list o.extents o.dates) c.orders-orders.ensures c.conditions.ensures.orders in
    let same = text_of_inconsistent c.args.dossier.now.orders keeps c.args.moment.now.instant c.args.moment.now.set.now c.args.moment.now.closure.now c.args.moment.now.date c.args.dossier.now.periods c.requires.moment
    (c.is_consistent.ensures.no (λ e. true≢false (sym e ∙ c.if-is_consistent.false)) c.args.moment.now.set.now c.requires.moment.closed) in
    rw (p.1, p.2) (record {
      ok = tt;
      err = subst (λ (t : List ℕ). Broken g.W.Sink.written g.W.Sink.faults g.W.Sink.sure c.args.out.now c.print_cycle.new.out t c.in_err-print_cycle.field-0.0) same c.in_err-print_cycle.ensures.err;
    })

pub returns-clause-prints : goal.returns-clause-prints
returns-clause-prints g c =
    let keeps = subst (λ (o : Orders). IsOrderSet o.list o.extents o.dates) c.orders-orders.ensures c.conditions.ensures.orders in
    let same = text_of_inconsistent c.args.dossier.now.orders keeps c.args.moment.now.instant c.args.moment.now.set.now c.args.moment.now.closure.now c.args.moment.now.date c.args.dossier.now.periods c.requires.moment
    (c.is_consistent.ensures.no (λ e. true≢false (sym e ∙ c.if-is_consistent.false)) c.args.moment.now.set.now c.requires.moment.closed) in
    record {
      ok = subst (Printed g.W.Sink.written g.W.Sink.faults g.W.Sink.sure c.args.out.now c.print_cycle.new.out) same c.in_ok-print_cycle.ensures.ok;
      err = tt;
    }

pub returns-clause-answer : goal.returns-clause-answer
returns-clause-answer g c =
    let keeps = subst (λ (o : Orders). IsOrderSet o.list o.extents o.dates) c.orders-orders.ensures c.conditions.ensures.orders in
    is_inconsistent c.args.dossier.now.orders keeps c.args.moment.now.instant c.args.moment.now.set.now c.args.moment.now.closure.now c.args.moment.now.date c.args.dossier.now.periods c.requires.moment
    (c.is_consistent.ensures.no (λ e. true≢false (sym e ∙ c.if-is_consistent.false)) c.args.moment.now.set.now c.requires.moment.closed)
