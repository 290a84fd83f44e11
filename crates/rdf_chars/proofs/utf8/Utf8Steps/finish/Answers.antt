use Rattle.std.proofs.Common.{subst, sym}
use Rattle.rdf_chars.specs.Steps.{Stands}
use Rattle.rdf_chars.proofs.Standing.{end_of}
use Rattle.rdf_chars.proofs.utf8.Utf8Steps.finish.Goals as goal

pub returns-else-is_idle-clause-says : goal.returns-else-is_idle-clause-says
returns-else-is_idle-clause-says c = λ bytes stands.
    let s = subst (λ x. Stands x bytes) (sym c.self.view_is) stands in
    end_of c.self.inside.step c.self.inside.from bytes c.self.invariant.0 (sym c.if-is_idle.ensures) s.1
