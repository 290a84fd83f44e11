-- The parts of a line of orders are its text, and have its nodes.
use Rattle.std.proofs.Common.{arith, ◌≡◌, ℕ, List, [], ◌∷◌, ◌++◌, refl, ap, subst}
use Rattle.std.specs.Prelude.{codes}
use Rattle.certificate_trees.specs.Reads.{IsRead}
use Rattle.certificate_reader.specs.declared.order_lines.Claim.{Claim}
use Rattle.certificate_reader.specs.declared.order_lines.Claim.TheVariants.{Before, AtOrBefore, Open}
use Rattle.certificate_reader.specs.declared.order_lines.OrderLine.{OrderLine}
use Rattle.certificate_reader.specs.declared.order_lines.OrderLine.TheVariants.{Place, Let, Pair, Cycle, End}
use Rattle.certificate_reader.specs.declared.order_lines.Known.{Known}
use Rattle.certificate_reader.specs.OrderTexts.{question_text, claim_text, order_line_text, claim_nodes, order_line_nodes}
use Rattle.certificate_reader.specs.OrderParts.{claim_part, order_line_part}

claim_bytes : (known : Known) (c : Claim) → (claim_part known c).bytes ≡ claim_text c
claim_bytes known (Before x) = refl
claim_bytes known (AtOrBefore x p) = refl
claim_bytes known (Open p) = refl

claim_has_nodes : (known : Known) (c : Claim) → (claim_part known c).nodes ≡ claim_nodes c
claim_has_nodes known (Before x) = omega arith
claim_has_nodes known (AtOrBefore x p) = omega arith
claim_has_nodes known (Open p) = omega arith

line_bytes : (known : Known) (l : OrderLine) → (order_line_part known l).bytes ≡ order_line_text l
line_bytes known (Place ps) = refl
line_bytes known (Let x) = refl
line_bytes known (Pair q c) = ap (λ z. codes "pair " ++ (question_text q ++ (codes " " ++ z))) (claim_bytes known c)
line_bytes known (Cycle x) = refl
line_bytes known End = refl

pub line_nodes : (known : Known) (l : OrderLine) → (order_line_part known l).nodes ≡ order_line_nodes l
line_nodes known (Place ps) = omega arith
line_nodes known (Let x) = omega arith
line_nodes known (Pair q c) = let h = claim_has_nodes known c in omega (arith, h)
line_nodes known (Cycle x) = omega arith
line_nodes known End = omega arith

pub line_read : (known : Known) (l : OrderLine) (text : List ℕ) (at to : ℕ) → IsRead text at to ((order_line_part known l).bytes ++ 10 ∷ []) → IsRead text at to (order_line_text l ++ 10 ∷ [])
line_read known l text at to read = let P : List ℕ → Type 0 = λ z. IsRead text at to (z ++ 10 ∷ []) in subst P (line_bytes known l) read
