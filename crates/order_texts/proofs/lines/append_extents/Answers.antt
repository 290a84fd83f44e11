use Rattle.std.proofs.Common.{◌∙◌, ap, ◌++◌, List, ℕ}
use Rattle.order_texts.specs.Texts.{extent_text}
use Rattle.order_texts.proofs.Extents.{one_more}
use Rattle.order_texts.proofs.lines.append_extents.Goals as goal

pub loop-k-preserved : goal.loop-k-preserved
loop-k-preserved c =
    c.in_ok-append_extent.ensures
    ∙ ap (λ (bytes : List ℕ). bytes ++ extent_text c.args.positions.now c.loop-k.k) c.loop-k.invariant
    ∙ one_more c.args.line.now.items c.args.positions.now c.loop-k.k
