use Rattle.std.proofs.Common.{◌≡◌, ◌<◌, ◌≤◌, ◌+◌, suc, ◌++◌, take, length, slice_index, ap, sym, subst, arith, ◌∙◌}
use Rattle.std.proofs.lemmas.List.{length-take, take-take}
use Rattle.std.specs.Str.{IsAscii}
use Rattle.token_scanner.specs.Cutting.{Leads}
use Rattle.token_scanner.specs.Fronts.{read_from}
use Rattle.token_scanner.proofs.Leading.{leads_next}
use Rattle.token_scanner.proofs.Runs.{ascii_next, run_next}
use Rattle.token_scanner.proofs.reading.run_length.Goals as goal

pub loop-byte-preserved : goal.loop-byte-preserved
loop-byte-preserved g c = let i = c.loop-byte.byte-index in let front = take c.min.result c.args.bytes.now in
    let syn = g.S.Syntax.scanner in let r = c.args.reading.now in
    let within : i < length front = c.loop-byte-test.true in
    let low : slice_index front i < 128 = omega (arith, c.if-byte-ge128.false) in
    let one : suc i ≡ i + 1 = omega arith in
    let stays = c.lengthens.ensures.stays c.if-not-lengthens.false in
    record {
      count = omega (arith, c.loop-byte.invariant.count);
      ascii = subst (λ n. IsAscii (take n front)) one (ascii_next i front c.loop-byte.invariant.ascii low);
      runs = λ more. ap (λ n. read_from syn r (take n front ++ more)) (sym one)
          ∙ run_next syn r i front within (omega (arith, within, length-take c.min.result c.args.bytes.now, c.min.ensures, c.saturating_sub-room.ensures)) low
          stays (c.lengthens.ensures.none c.if-not-lengthens.false)
          c.loop-byte.invariant.runs more;
      leads = λ done l. subst (λ n. Leads syn r.state (done ++ take n front)) one (leads_next syn g.met.S.Syntax.is_scanner r.state i front within low stays done (c.loop-byte.invariant.leads done l));
    }

pub returns-clause-ascii : goal.returns-clause-ascii
returns-clause-ascii g c = let i = c.loop-byte.byte-index in
    let few : i ≤ c.min.result = omega (arith, c.loop-byte.auto.byte-index-end, length-take c.min.result c.args.bytes.now) in
    subst IsAscii (take-take i c.min.result c.args.bytes.now few ∙ ap (λ n. take n c.args.bytes.now) (sym c.loop-byte.invariant.count)) c.loop-byte.invariant.ascii
