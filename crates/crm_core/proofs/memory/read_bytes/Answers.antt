use Rattle.std.proofs.Common.{true, false, ◌≤◌, ◌<◌, length, arith}
use Rattle.std.specs.Option.{option_map}
use Rattle.crm_core.proofs.Reading.{long_file, short_as, read_as, refused_as}
use Rattle.crm_core.proofs.memory.read_bytes.Goals as goal

pub returns-then-bytes-gt-FILE_LIMIT-clause-refused : goal.returns-then-bytes-gt-FILE_LIMIT-clause-refused
returns-then-bytes-gt-FILE_LIMIT-clause-refused c = long_file c.args.is_ntriples (option_map (λ b. b.now) c.args.base) c.args.bytes.now (omega (arith, c.if-bytes-gt-FILE_LIMIT.true))

pub returns-then-is_ntriples-clause-ok : goal.returns-then-is_ntriples-clause-ok
returns-then-is_ntriples-clause-ok c =
    read_as _ _ c.read_ntriples.result (short_as true c.args.is_ntriples (option_map (λ b. b.now) c.args.base) c.args.bytes.now (omega (arith, c.if-bytes-gt-FILE_LIMIT.false)) c.if-is_ntriples.true) c.read_ntriples.ensures.ok

pub returns-then-is_ntriples-clause-refused : goal.returns-then-is_ntriples-clause-refused
returns-then-is_ntriples-clause-refused c =
    refused_as _ _ c.read_ntriples.result (short_as true c.args.is_ntriples (option_map (λ b. b.now) c.args.base) c.args.bytes.now (omega (arith, c.if-bytes-gt-FILE_LIMIT.false)) c.if-is_ntriples.true) c.read_ntriples.ensures.refused

pub returns-clause-ok : goal.returns-clause-ok
returns-clause-ok c =
    read_as _ _ c.read_turtle.result (short_as false c.args.is_ntriples (option_map (λ b. b.now) c.args.base) c.args.bytes.now (omega (arith, c.if-bytes-gt-FILE_LIMIT.false)) c.if-is_ntriples.false) c.read_turtle.ensures.ok

pub returns-clause-refused : goal.returns-clause-refused
returns-clause-refused c =
    refused_as _ _ c.read_turtle.result (short_as false c.args.is_ntriples (option_map (λ b. b.now) c.args.base) c.args.bytes.now (omega (arith, c.if-bytes-gt-FILE_LIMIT.false)) c.if-is_ntriples.false) c.read_turtle.ensures.refused
