use Rattle.std.proofs.Common.{◌∙◌, ◌++◌, length, ap}
use Rattle.placing_witness.specs.Bits.{words_of}
use Rattle.placing_witness.proofs.Words.{length-words}
use Rattle.placing_witness.proofs.placings.shared_counts.Goals as goal

pub share-requires-clause-after : goal.share-requires-clause-after
share-requires-clause-after c =
    ap length (c.deref.ensures.value ∙ c.in_ok-pack.ensures ∙ ap (λ ws. ws ++ words_of c.args.row.now c.args.words) c.in_ok-after.ensures.items)
    ∙ length-words c.args.row.now c.args.words
