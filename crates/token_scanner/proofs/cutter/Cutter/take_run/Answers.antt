use Rattle.std.proofs.Common.{◌≡◌, ◌+◌, ◌-◌, take, drop, length, ap, arith, length-take-le, length-append}
use Rattle.std.proofs.lemmas.List.{length-drop}
use Rattle.token_scanner.specs.Widths.{width}
use Rattle.token_scanner.proofs.Runs.{run_grown, wider_run}
use Rattle.token_scanner.proofs.cutter.Cutter.take_run.Goals as goal

pub invariant_of-self-2 : goal.invariant_of-self-2
invariant_of-self-2 g c = let s = c.self.inside in let n = c.run_length-count.result in let is = c.run_length-count.ensures in
    let run = take n c.args.bytes.now in
    let long : length run ≡ n = length-take-le n c.args.bytes.now is.within in
    let all : s.reading.count ≡ length (drop s.from s.chars.items) = omega (arith, c.if-self-len.false, c.len.ensures, length-drop s.from s.chars.items) in
    let count : c.len-2.result - s.from ≡ s.reading.count + n =
    omega (arith, all, long, c.self.invariant.0, length-drop s.from s.chars.items, length-append s.chars.items run, c.len-2.ensures, ap length c.in_ok-keep.ensures.ok) in
    run_grown g.S.Syntax.scanner s.chars.items c.keep.new.kept.items run s.from n (c.len-2.result - s.from) s.reading c.self.invariant.0 c.in_ok-keep.ensures.ok long is.ascii all count
    c.self.invariant.1 is.narrow is.runs is.leads

pub returns-clause-place : goal.returns-clause-place
returns-clause-place g c = let s = c.self.inside in let n = c.run_length-count.result in let is = c.run_length-count.ensures in
    omega (
      arith,
      wider_run s.chars.items c.keep.new.kept.items (take n c.args.bytes.now) s.from n c.self.invariant.0 c.in_ok-keep.ensures.ok (length-take-le n c.args.bytes.now is.within) is.ascii,
      ap (λ v. v.at) c.self.view_is,
      ap (λ v. width v.chars) c.self.view_is,
    )
