use Rattle.order_laws.specs.declared.Point.TheVariants.{Start, End}
use Rattle.order_core.specs.declared.sides.Side.TheVariants.{StartEnd, StartStart, EndStart, EndEnd}
use Rattle.order_certificates.proofs.Ends.{sharing_on}
use Rattle.order_certificates.proofs.pairs.append_pair.Goals as goal

pub append_side-requires-3-clause-sharing : goal.append_side-requires-3-clause-sharing
append_side-requires-3-clause-sharing c =
    let set = c.args.analysis.now.set in
    let a = c.args.row.now.period in
    let one = sharing_on set (End a) c.args.lets.now c.append_side.new.lets c.args.row.now.from_end a c.args.b StartEnd c.requires.row.end c.in_ok-append_side.ensures.lets in
    sharing_on set (End a) c.append_side.new.lets c.append_side-2.new.lets c.args.row.now.from_end a c.args.b StartStart one c.in_ok-append_side-2.ensures.lets

pub returns-clause-row : goal.returns-clause-row
returns-clause-row c =
    let set = c.args.analysis.now.set in
    let a = c.args.row.now.period in
    let start = c.append_side-2.new.from in
    let one = sharing_on set (Start a) c.append_side-2.new.lets c.append_side-3.new.lets start a c.args.b EndStart c.in_ok-append_side-2.ensures.sharing c.in_ok-append_side-3.ensures.lets in
    record {
      within = c.requires.row.within;
      few = c.requires.row.few;
      start = sharing_on set (Start a) c.append_side-3.new.lets c.append_side-4.new.lets start a c.args.b EndEnd one c.in_ok-append_side-4.ensures.lets;
      end = c.in_ok-append_side-4.ensures.sharing;
    }
