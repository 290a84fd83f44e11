use Rattle.std.proofs.Common.{ap, sym, ◌∙◌, ◌∷◌}
use Rattle.rdf_chars.specs.Decoding.{decoded}
use Rattle.ntriples_reader.specs.Feeding.{promised, by_decoded}
use Rattle.ntriples_reader.specs.Answers.{answer_of}
use Rattle.ntriples_reader.proofs.Refusing.{bad_promised}
use Rattle.ntriples_reader.proofs.reader.NtReader.take.Goals as goal

pub returns-in-Err-clause-answer : goal.returns-in-Err-clause-answer
returns-in-Err-clause-answer c = λ more.
    let f = answer_of c.self.inside.lines in
    ap (λ v. by_decoded (decoded v more) f) c.in-Err.ensures.fed
    ∙ bad_promised c.self.inside.steps c.args.byte c.in-Err.field-0 more f (sym c.in-Err.ensures.said)
    ∙ ap (λ r. promised r (c.args.byte ∷ more)) c.self.view_is
