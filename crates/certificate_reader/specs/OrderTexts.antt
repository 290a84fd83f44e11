-- The texts of the lines of a certificate of orders.
use Rattle.std.specs.Prelude.{ℕ, List, [], ◌∷◌, ◌++◌, codes}
use Rattle.std.specs.Fmt.{decimal, signed_decimal}
use Rattle.order_laws.specs.declared.Position.{Position}
use Rattle.order_core.specs.Sides.{side_name}
use Rattle.certificate_reader.specs.declared.order_lines.Question.{Question}
use Rattle.certificate_reader.specs.declared.order_lines.Claim.{Claim}
use Rattle.certificate_reader.specs.declared.order_lines.Claim.TheVariants.{Before, AtOrBefore, Open}
use Rattle.certificate_reader.specs.declared.order_lines.OrderLine.{OrderLine}
use Rattle.certificate_reader.specs.declared.order_lines.OrderLine.TheVariants.{Place, Let, Pair, Cycle, End}
use Rattle.proof_core.specs.Proofs.{node_count}
use Rattle.certificate_trees.specs.TreeTexts.{shared_leaf, tree_bytes}

abbrev pub position_text : Position → List ℕ
position_text p = signed_decimal p.instant ++ (codes "/" ++ decimal p.rank)

-- positions, each behind a space
abbrev pub positions_text : List Position → List ℕ
positions_text [] = []
positions_text (p ∷ ps) = codes " " ++ (position_text p ++ positions_text ps)

abbrev pub question_text : Question → List ℕ
question_text q = (codes "x" ++ decimal q.first) ++ (codes " " ++ ((codes "x" ++ decimal q.second) ++ (codes " " ++ side_name q.side)))

abbrev pub claim_text : Claim → List ℕ
claim_text (Before x) = codes "lt " ++ tree_bytes shared_leaf x
claim_text (AtOrBefore x p) = codes "le " ++ (tree_bytes shared_leaf x ++ (codes " " ++ (codes "p" ++ decimal p)))
claim_text (Open p) = codes "no " ++ (codes "p" ++ decimal p)

-- a line without its line feed
abbrev pub order_line_text : OrderLine → List ℕ
order_line_text (Place ps) = codes "place" ++ positions_text ps
order_line_text (Let x) = codes "let " ++ tree_bytes shared_leaf x
order_line_text (Pair q c) = codes "pair " ++ (question_text q ++ (codes " " ++ claim_text c))
order_line_text (Cycle x) = codes "cycle " ++ tree_bytes shared_leaf x
order_line_text End = codes "end"

-- how many nodes its tree has
abbrev pub claim_nodes : Claim → ℕ
claim_nodes (Before x) = node_count x
claim_nodes (AtOrBefore x p) = node_count x
claim_nodes (Open p) = 0

abbrev pub order_line_nodes : OrderLine → ℕ
order_line_nodes (Place ps) = 0
order_line_nodes (Let x) = node_count x
order_line_nodes (Pair q c) = claim_nodes c
order_line_nodes (Cycle x) = node_count x
order_line_nodes End = 0
