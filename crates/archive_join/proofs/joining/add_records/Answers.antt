use Rattle.std.proofs.Common.{◌≡◌, ℕ, ◌+◌, arith, subst, sym, ◌∙◌, refl}
use Rattle.std.specs.Option.{option_map}
use Rattle.std.proofs.Math.ListN.{drop_of_length-le}
use Rattle.std.proofs.lemmas.Result.{err_from_is_err_and}
use Rattle.crm_outside.proofs.Lists.{within}
use Rattle.archive_join.specs.declared.faults.JoinFault.{JoinFault}
use Rattle.archive_join.specs.declared.faults.JoinFault.TheVariants.{Refused}
use Rattle.joined_names.specs.Values.{value_triple, moved}
use Rattle.archive_join.specs.Joining.{behind_triple}
use Rattle.archive_join.specs.Limits.{IsPastWith}
use Rattle.archive_join.proofs.Adding.{IsAdded, added_none, added_one, added_all, refused_next}
use Rattle.archive_join.proofs.joining.add_records.Goals as goal

pub loop-k-init : goal.loop-k-init
loop-k-init c = added_none c.args.shift.blanks c.args.shift.bytes c.args.file.now c.args.records.now c.in_ok-table.table c.requires (c.in_ok-table.ensures c.args.records.now.names)

pub unreachable-requires : goal.unreachable-requires
unreachable-requires c = within c.args.file.now.triples c.loop-k.k (omega (arith, c.len-k-end.ensures.len)) (sym c.in_default.is ∙ c.get.ensures)

pub returns-in_err-add_triple-clause-refused : goal.returns-in_err-add_triple-clause-refused
returns-in_err-add_triple-clause-refused c = λ f is.
    let p = err_from_is_err_and c.from_residual-in_err-add_triple.result c.from_residual-in_err-add_triple.ensures.1 in
    let same : c.in_err-add_triple.field-0.0 ≡ Refused f = cc (p.1, p.2, is) in
    refused_next c.args.shift.blanks c.args.shift.bytes c.args.file.now c.args.records.now c.loop-k.records c.loop-k.table c.loop-k.k c.loop-k.blanks c.in-Some.triple f (sym c.get.ensures ∙ c.in-Some.is) c.loop-k.invariant
    (subst (λ (e : JoinFault). IsPastWith c.loop-k.records (option_map (moved c.args.shift.blanks c.args.shift.bytes) (value_triple c.args.file.now.names c.in-Some.triple)) e) same c.in_err-add_triple.ensures.refused)

pub loop-k-preserved : goal.loop-k-preserved
loop-k-preserved c =
    subst (λ (n : ℕ). IsAdded c.args.shift.blanks c.args.shift.bytes c.args.file.now c.args.records.now c.add_triple.new.records c.add_triple.new.table (c.loop-k.k + 1) n) (sym c.in-Some-count_blanks.ensures)
    (added_one c.args.shift.blanks c.args.shift.bytes c.args.file.now c.args.records.now c.loop-k.records c.add_triple.new.records c.loop-k.table c.add_triple.new.table c.loop-k.k c.loop-k.blanks (behind_triple c.in-Some.triple)
    c.in-Some.triple (sym c.get.ensures ∙ c.in-Some.is) c.loop-k.invariant c.in_ok-add_triple.ensures.added c.in_ok-add_triple.ensures.table c.in_ok-add_triple.ensures.few refl)

pub returns-clause-added : goal.returns-clause-added
returns-clause-added c =
    (added_all c.args.shift.blanks c.args.shift.bytes c.args.file.now c.args.records.now c.loop-k.records c.loop-k.table c.loop-k.k c.loop-k.blanks
    (drop_of_length-le c.args.file.now.triples (omega (arith, c.len-k-end.ensures.len, c.loop-k-test.false))) c.loop-k.invariant).0

pub returns-clause-blanks : goal.returns-clause-blanks
returns-clause-blanks c =
    (added_all c.args.shift.blanks c.args.shift.bytes c.args.file.now c.args.records.now c.loop-k.records c.loop-k.table c.loop-k.k c.loop-k.blanks
    (drop_of_length-le c.args.file.now.triples (omega (arith, c.len-k-end.ensures.len, c.loop-k-test.false))) c.loop-k.invariant).1
