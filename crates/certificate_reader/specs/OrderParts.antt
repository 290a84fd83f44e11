-- The parts of the lines of orders.
use Rattle.std.specs.Prelude.{ℕ, ◌++◌, codes}
use Rattle.proof_core.specs.declared.trees.Proof.{Proof}
use Rattle.proof_core.specs.declared.trees.SharedLeaf.{SharedLeaf}
use Rattle.certificate_trees.specs.declared.rules.Weaken.{Weaken}
use Rattle.certificate_trees.specs.declared.rules.Join.{Join}
use Rattle.certificate_trees.specs.TreeTexts.{shared_leaf}
use Rattle.certificate_trees.specs.Names.{bad_shared}
use Rattle.certificate_trees.specs.Parts.{Part, word_part, name_part, tree_part, both_parts}
use Rattle.certificate_reader.specs.declared.order_lines.Question.{Question}
use Rattle.certificate_reader.specs.declared.order_lines.Claim.{Claim}
use Rattle.certificate_reader.specs.declared.order_lines.Claim.TheVariants.{Before, AtOrBefore, Open}
use Rattle.certificate_reader.specs.declared.order_lines.OrderLine.{OrderLine}
use Rattle.certificate_reader.specs.declared.order_lines.OrderLine.TheVariants.{Place, Let, Pair, Cycle, End}
use Rattle.certificate_reader.specs.declared.order_lines.Known.{Known}
use Rattle.order_core.specs.Sides.{side_name}
use Rattle.certificate_reader.specs.OrderTexts.{positions_text}

-- a tree over orders and what is kept, of which so many are there
abbrev pub order_tree_part : Known → Proof (SharedLeaf ℕ) Weaken Join → Part
order_tree_part known x = tree_part shared_leaf (bad_shared known.leaves.orders known.leaves.kept) x

-- a question over so many extents
abbrev pub question_part : ℕ → Question → Part
question_part extents q = both_parts (name_part 120 extents q.first) (both_parts (word_part (codes " "))
    (both_parts (name_part 120 extents q.second) (both_parts (word_part (codes " ")) (word_part (side_name q.side)))))

abbrev pub claim_part : Known → Claim → Part
claim_part known (Before x) = both_parts (word_part (codes "lt ")) (order_tree_part known x)
claim_part known (AtOrBefore x p) = both_parts (word_part (codes "le ")) (both_parts (order_tree_part known x)
    (both_parts (word_part (codes " ")) (name_part 112 known.placings p)))
claim_part known (Open p) = both_parts (word_part (codes "no ")) (name_part 112 known.placings p)

-- a line without its line feed
abbrev pub order_line_part : Known → OrderLine → Part
order_line_part known (Place ps) = word_part (codes "place" ++ positions_text ps)
order_line_part known (Let x) = both_parts (word_part (codes "let ")) (order_tree_part known x)
order_line_part known (Pair q c) = both_parts (word_part (codes "pair ")) (both_parts (question_part known.extents q)
    (both_parts (word_part (codes " ")) (claim_part known c)))
order_line_part known (Cycle x) = both_parts (word_part (codes "cycle ")) (order_tree_part known x)
order_line_part known End = word_part (codes "end")
