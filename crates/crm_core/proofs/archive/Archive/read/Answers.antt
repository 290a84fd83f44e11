use Rattle.std.proofs.Common.{◌≡◌, true}
use Rattle.crm_core.specs.Files.{is_ntriples}
use Rattle.crm_core.proofs.Reading.{of_opened, out_of_opened, length_of_opened, no_length_of}
use Rattle.crm_core.proofs.archive.Archive.read.Goals as goal

pub returns-then-is_ntriples-clause-answer : goal.returns-then-is_ntriples-clause-answer
returns-then-is_ntriples-clause-answer g c =
    let is : true ≡ is_ntriples c.args.name.now = cc (c.if-is_ntriples.true, c.is_ntriples.ensures) in
    of_opened (g.S.Shelf.files c.args.shelf.now) c.args.name.now _ _ true _ is c.in-Ok.ensures.opened (c.read_ntriples.ensures.answer _)

pub returns-then-is_ntriples-clause-out : goal.returns-then-is_ntriples-clause-out
returns-then-is_ntriples-clause-out g c = out_of_opened _ _ _ _ _ c.in-Ok.ensures.opened c.read_ntriples.ensures.out

pub returns-clause-out : goal.returns-clause-out
returns-clause-out g c = out_of_opened _ _ _ _ _ c.in-Ok.ensures.opened c.read_turtle.ensures.out

pub returns-then-is_ntriples-clause-length : goal.returns-then-is_ntriples-clause-length
returns-then-is_ntriples-clause-length g c = length_of_opened _ _ _ _ c.in-Ok.ensures.opened c.read_ntriples.ensures.length

pub returns-clause-length : goal.returns-clause-length
returns-clause-length g c = length_of_opened _ _ _ _ c.in-Ok.ensures.opened c.read_turtle.ensures.length
