use Rattle.std.proofs.Common.{arith}
use Rattle.joined_names.proofs.Tables.{blank_table}
use Rattle.joined_names.proofs.table.NameTable.new.Goals as goal

pub returns : goal.returns
returns c = λ joined. blank_table c.args.file.now joined _ c.len-count.result (omega (arith, c.len-count.ensures.count)) c.in_ok-no_terms.ensures c.in_ok-no_terms-2.ensures
