use Rattle.std.proofs.Common.{sym, ◌++◌, ◌≡◌, ◌∙◌, drop, subst}
use Rattle.token_scanner.specs.Cutting.{IsNarrow}
use Rattle.token_scanner.specs.Fronts.{token_of, ruled}
use Rattle.token_scanner.proofs.Readings.{read_slice}
use Rattle.token_scanner.proofs.Leading.{open_at, ended_slice, final_slice, whole_slice, narrow_at, narrow_slice, narrow_ended}
use Rattle.token_scanner.proofs.cutter.Cutter.read.Goals as goal

pub invariant_of-self : goal.invariant_of-self
invariant_of-self g c = (
  c.self.invariant.0,
  (read_slice g.S.Syntax.scanner c.deref.result.now c.self.inside.chars.items c.self.inside.from c.self.inside.reading c.in-On.reading
      c.deref.ensures.value c.self.invariant.1 c.in-On.ensures.reads c.in-On.ensures.bounds c.in-On.ensures.leads).0,
)

pub invariant_of-self-then-is_final : goal.invariant_of-self-then-is_final
invariant_of-self-then-is_final g c = (
  c.self.invariant.0,
  (read_slice g.S.Syntax.scanner c.deref.result.now c.self.inside.chars.items c.self.inside.from c.self.inside.reading c.in-On.reading
      c.deref.ensures.value c.self.invariant.1 c.in-On.ensures.reads c.in-On.ensures.bounds c.in-On.ensures.leads).0,
)

pub returns-then-whole-clause-token : goal.returns-then-whole-clause-token
returns-then-whole-clause-token g c = λ more whole.
    let read = read_slice g.S.Syntax.scanner c.deref.result.now c.self.inside.chars.items c.self.inside.from c.self.inside.reading c.in-On.reading
    c.deref.ensures.value c.self.invariant.1 c.in-On.ensures.reads c.in-On.ensures.bounds c.in-On.ensures.leads in
    whole_slice g.S.Syntax.scanner g.met.S.Syntax.is_scanner (drop c.self.inside.from c.self.inside.chars.items) c.in-On.reading c.ended.result read.0 read.1 c.ended.ensures.front more (whole c.if-whole.true)

pub returns-then-is_final-clause-token : goal.returns-then-is_final-clause-token
returns-then-is_final-clause-token g c = λ more whole.
    let read = read_slice g.S.Syntax.scanner c.deref.result.now c.self.inside.chars.items c.self.inside.from c.self.inside.reading c.in-On.reading
    c.deref.ensures.value c.self.invariant.1 c.in-On.ensures.reads c.in-On.ensures.bounds c.in-On.ensures.leads in
    final_slice g.S.Syntax.scanner g.met.S.Syntax.is_scanner (drop c.self.inside.from c.self.inside.chars.items) c.in-On.reading c.ended-then-is_final.result read.0 read.1
    (sym c.is_final.ensures ∙ c.if-is_final.true) c.ended-then-is_final.ensures.front more

pub invariant_of-self-in-On : goal.invariant_of-self-in-On
invariant_of-self-in-On g c = (
  c.self.invariant.0,
  (read_slice g.S.Syntax.scanner c.deref.result.now c.self.inside.chars.items c.self.inside.from c.self.inside.reading c.in-On.reading
      c.deref.ensures.value c.self.invariant.1 c.in-On.ensures.reads c.in-On.ensures.bounds c.in-On.ensures.leads).0,
)

pub returns-else-is_final-clause-open : goal.returns-else-is_final-clause-open
returns-else-is_final-clause-open g c =
    let read = read_slice g.S.Syntax.scanner c.deref.result.now c.self.inside.chars.items c.self.inside.from c.self.inside.reading c.in-On.reading
    c.deref.ensures.value c.self.invariant.1 c.in-On.ensures.reads c.in-On.ensures.bounds c.in-On.ensures.leads in
    open_at g.S.Syntax.scanner g.met.S.Syntax.is_scanner (drop c.self.inside.from c.self.inside.chars.items) c.in-On.reading read.0 read.1 (sym c.is_final.ensures ∙ c.if-is_final.false)

pub returns-else-is_final-clause-narrow : goal.returns-else-is_final-clause-narrow
returns-else-is_final-clause-narrow g c =
    let read = read_slice g.S.Syntax.scanner c.deref.result.now c.self.inside.chars.items c.self.inside.from c.self.inside.reading c.in-On.reading
    c.deref.ensures.value c.self.invariant.1 c.in-On.ensures.reads c.in-On.ensures.bounds c.in-On.ensures.leads in
    narrow_at g.S.Syntax.scanner g.met.S.Syntax.is_scanner (drop c.self.inside.from c.self.inside.chars.items) c.in-On.reading read.0 read.1

pub returns-in-Ended-clause-token : goal.returns-in-Ended-clause-token
returns-in-Ended-clause-token g c = λ more whole.
    subst (λ v. token_of g.S.Syntax.scanner (v.chars ++ more) ≡ ruled g.S.Syntax.scanner c.in-Ended.front v.chars) c.self.view_is
    (ended_slice g.S.Syntax.scanner g.met.S.Syntax.is_scanner c.deref.result.now c.self.inside.chars.items c.self.inside.from c.self.inside.reading c.in-Ended.front
    c.deref.ensures.value c.self.invariant.1 c.in-Ended.ensures.reads c.in-Ended.ensures.ended more)

pub returns-then-whole-clause-least : goal.returns-then-whole-clause-least
returns-then-whole-clause-least g c =
    let read = read_slice g.S.Syntax.scanner c.deref.result.now c.self.inside.chars.items c.self.inside.from c.self.inside.reading c.in-On.reading
    c.deref.ensures.value c.self.invariant.1 c.in-On.ensures.reads c.in-On.ensures.bounds c.in-On.ensures.leads in
    narrow_slice g.S.Syntax.scanner g.met.S.Syntax.is_scanner (drop c.self.inside.from c.self.inside.chars.items) c.in-On.reading c.ended.result read.0 read.1 c.ended.ensures.cut

pub returns-then-is_final-clause-least : goal.returns-then-is_final-clause-least
returns-then-is_final-clause-least g c =
    let read = read_slice g.S.Syntax.scanner c.deref.result.now c.self.inside.chars.items c.self.inside.from c.self.inside.reading c.in-On.reading
    c.deref.ensures.value c.self.invariant.1 c.in-On.ensures.reads c.in-On.ensures.bounds c.in-On.ensures.leads in
    narrow_slice g.S.Syntax.scanner g.met.S.Syntax.is_scanner (drop c.self.inside.from c.self.inside.chars.items) c.in-On.reading c.ended-then-is_final.result read.0 read.1 c.ended-then-is_final.ensures.cut

pub returns-in-Ended-clause-least : goal.returns-in-Ended-clause-least
returns-in-Ended-clause-least g c =
    subst (λ v. IsNarrow c.in-Ended.front v.chars) c.self.view_is
    (narrow_ended g.S.Syntax.scanner g.met.S.Syntax.is_scanner c.deref.result.now c.self.inside.chars.items c.self.inside.from c.self.inside.reading c.in-Ended.front c.deref.ensures.value c.self.invariant.1 c.in-Ended.ensures.narrow)
