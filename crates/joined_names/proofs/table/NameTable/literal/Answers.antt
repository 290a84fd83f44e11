use Rattle.std.proofs.Common.{refl, ◌≡◌, ◌<◌, length, arith}
use Rattle.joined_names.proofs.Tables.{literal_there, literal_held, literal_inside, literal_came}
use Rattle.joined_names.proofs.table.NameTable.literal.Goals as goal

pub returns-in-Some-clause-term : goal.returns-in-Some-clause-term
returns-in-Some-clause-term c =
    (literal_there c.requires.table.0 c.args.joined.now c.args.self.now c.args.n c.args.literal.now c.in-Some.term c.index.result.now c.requires.table.1 c.requires.table.2 c.index.ensures c.in-Some.is).1

pub returns-in-Some-clause-names : goal.returns-in-Some-clause-names
returns-in-Some-clause-names c =
    literal_held c.args.joined.now c.args.literal.now
    (literal_there c.requires.table.0 c.args.joined.now c.args.self.now c.args.n c.args.literal.now c.in-Some.term c.index.result.now c.requires.table.1 c.requires.table.2 c.index.ensures c.in-Some.is).0

pub index_mut-requires : goal.index_mut-requires
index_mut-requires c =
    let inside : c.args.n < length c.args.self.now.literals.items = literal_inside c.requires.table.0 c.args.joined.now c.args.self.now c.args.n c.args.literal.now c.requires.table.1 c.requires.table.2 in
    omega arith

pub returns-clause-table : goal.returns-clause-table
returns-clause-table c = λ file named is.
    let same : c.in-Ok.copy ≡ c.args.literal.now = c.in-Ok.ensures in
    rw (c.in-Ok-literal.ensures.named, same)
    (literal_came file c.args.joined.now c.args.self.now _ is c.args.n c.args.literal.now c.in-Ok-literal.term named (rw same at c.in-Ok-literal.ensures.number) refl refl)
