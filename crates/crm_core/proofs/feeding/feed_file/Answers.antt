use Rattle.std.proofs.Common.{◌∙◌, arith, rules, drop}
use Rattle.crm_core.proofs.Reading.{fed_window, window_count}
use Rattle.crm_core.proofs.feeding.feed_file.Goals as goal

pub take-preserved : goal.take-preserved
take-preserved g c =
    let rest = drop c.min-room.result c.take.window in
    let le = c.in-Ok.ensures.bound.0 in
    record {
      fed = fed_window c.in-Ok.count c.read.new.buf rest le (g.S.Shelf.left c.args.shelf.now) (g.S.Shelf.left c.take.shelf) (g.S.Shelf.left c.read.new.self)
          (g.R.Feeds.promised c.args.reader) (g.R.Feeds.promised c.take.reader) (g.R.Feeds.promised c.feed_piece.new.self) c.take.taken
          c.take.invariant.fed c.in-Ok.ensures.bytes.0 c.in-Ok-feed_piece.ensures.answer;
      count = omega (arith, c.in-Ok-feed_piece.ensures.count, c.take.invariant.count, window_count c.in-Ok.count c.read.new.buf rest le);
      later = omega (arith, c.in-Ok.ensures.cause.later, c.take.invariant.later);
      files = c.in-Ok.ensures.files ∙ c.take.invariant.files;
      honest = c.in-Ok.ensures.honest ∙ c.take.invariant.honest;
      within = search rules;
    }
