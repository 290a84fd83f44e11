use Rattle.std.proofs.Common.{List, ℕ, ◌++◌, ◌∷◌, [], ◌<◌, subst, sym, ◌∙◌, rules}
use Rattle.token_scanner.specs.Fronts.{InReading}
use Rattle.token_scanner.specs.Cutting.{Leads}
use Rattle.token_scanner.proofs.Leading.{step_leads}
use Rattle.token_scanner.proofs.reading.step.Goals as goal

pub returns-in-Some-clause-leads : goal.returns-in-Some-clause-leads
returns-in-Some-clause-leads g c =
    let r = c.args.reading in
    let syn = g.S.Syntax.scanner in
    let small : c.args.c < 0x110000 = search rules in
    subst (λ s. InReading s (λ p. (done : List ℕ) → Leads syn r.state done → Leads syn p.state (done ++ c.args.c ∷ []))) (sym c.to.ensures.to)
    (step_leads syn g.met.S.Syntax.is_scanner r c.in-Some.state c.args.c c.len_utf8.result small (sym c.in-Some.is ∙ c.next.ensures))
