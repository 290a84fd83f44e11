use Rattle.std.proofs.Common.{arith, sym}
use Rattle.crm_outside.proofs.Lists.{within}
use Rattle.crm_certify.proofs.Typed.{types_grow}
use Rattle.crm_certify.proofs.types.type_rows.Goals as goal

pub unreachable-requires : goal.unreachable-requires
unreachable-requires c = within c.args.records.now.triples c.loop-number.number (omega (arith, c.len-number-end.ensures.len)) c.in_default.ensures

pub loop-number-preserved : goal.loop-number-preserved
loop-number-preserved c =
    types_grow c.args.records.now.names c.args.records.now.triples c.loop-number.number c.in-Some.triple c.loop-number.rows c.push_row.new.rows c.type_row.result
    (sym c.in-Some.ensures) c.type_row.ensures c.loop-number.invariant c.in_ok-push_row.ensures
