use Rattle.std.proofs.Common.{refl, ◌<◌, length, arith}
use Rattle.joined_names.proofs.Tables.{iri_there, iri_held, iri_inside, iri_came}
use Rattle.joined_names.proofs.table.NameTable.iri.Goals as goal

pub returns-in-Some-clause-term : goal.returns-in-Some-clause-term
returns-in-Some-clause-term c =
    (iri_there c.requires.0 c.args.joined.now c.args.self.now c.args.n c.args.text.now c.in-Some.term c.index.result.now c.requires.1 c.requires.2 c.index.ensures c.in-Some.is).1

pub returns-in-Some-clause-names : goal.returns-in-Some-clause-names
returns-in-Some-clause-names c =
    iri_held c.args.joined.now c.args.text.now
    (iri_there c.requires.0 c.args.joined.now c.args.self.now c.args.n c.args.text.now c.in-Some.term c.index.result.now c.requires.1 c.requires.2 c.index.ensures c.in-Some.is).0

pub index_mut-requires : goal.index_mut-requires
index_mut-requires c =
    let inside : c.args.n < length c.args.self.now.iris.items = iri_inside c.requires.0 c.args.joined.now c.args.self.now c.args.n c.args.text.now c.requires.1 c.requires.2 in
    omega arith

pub returns-clause-table : goal.returns-clause-table
returns-clause-table c = λ file named is.
    rw c.in-Ok.ensures.named (iri_came file c.args.joined.now c.args.self.now _ is c.args.n c.args.text.now c.in-Ok.term named c.in-Ok.ensures.number refl refl)
