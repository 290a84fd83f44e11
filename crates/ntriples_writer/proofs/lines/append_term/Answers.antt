use Rattle.std.proofs.Common.{subst, sym, ◌++◌}
use Rattle.std.specs.Prelude.{codes}
use Rattle.std.specs.Str.{IsUtf8}
use Rattle.ntriples_writer.specs.Lines.{term_text}
use Rattle.ntriples_writer.proofs.Whole.{on_ok, blank_utf8}
use Rattle.ntriples_writer.proofs.lines.append_term.Goals as goal

pub returns-in_ok-extend_from_slice-in-Blank-clause-utf8 :
    goal.returns-in_ok-extend_from_slice-in-Blank-clause-utf8
returns-in_ok-extend_from_slice-in-Blank-clause-utf8 c =
    on_ok c.extend_from_slice-in-Blank.result (IsUtf8 (term_text c.args.names.now c.args.term))
    (subst (λ t. IsUtf8 (term_text c.args.names.now t)) (sym c.in-Blank.is)
    (subst (λ x. IsUtf8 (codes "_:b" ++ x)) c.format.ensures.text (blank_utf8 c.format.result.now c.format.ensures.ascii)))
