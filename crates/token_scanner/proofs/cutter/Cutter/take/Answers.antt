use Rattle.std.proofs.Common.{ap, arith}
use Rattle.std.proofs.lemmas.List.{length-drop}
use Rattle.token_scanner.specs.Widths.{width}
use Rattle.token_scanner.proofs.Readings.{grown, wider_push}
use Rattle.token_scanner.proofs.cutter.Cutter.take.Goals as goal

pub invariant_of-self-in-On : goal.invariant_of-self-in-On
invariant_of-self-in-On g c = let s = c.self.inside in let b = c.in-On.ensures in
    grown g.S.Syntax.scanner s.chars.items c.push.new.self.items s.from c.args.c s.reading c.in-On.reading c.self.invariant.0 c.in_ok-push.ensures.items
    (omega (arith, c.if-self-len-2.true, c.len-2.ensures, length-drop s.from s.chars.items)) c.self.invariant.1 b.step b.bounds b.leads

pub returns-in-On-clause-place : goal.returns-in-On-clause-place
returns-in-On-clause-place g c = let s = c.self.inside in
    omega (arith, wider_push s.chars.items c.push.new.self.items s.from c.args.c c.self.invariant.0 c.in_ok-push.ensures.items, ap (λ v. v.at) c.self.view_is, ap (λ v. width v.chars) c.self.view_is)

pub returns-clause-place : goal.returns-clause-place
returns-clause-place g c = let s = c.self.inside in
    omega (arith, wider_push s.chars.items c.push-2.new.self.items s.from c.args.c c.self.invariant.0 c.in_ok-push-2.ensures.items, ap (λ v. v.at) c.self.view_is, ap (λ v. width v.chars) c.self.view_is)
