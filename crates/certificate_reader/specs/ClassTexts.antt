-- The texts of the lines of a certificate of classes.
use Rattle.std.specs.Prelude.{◌≡◌, ◌≢◌, ◌⊎◌, ◌+◌, ℕ, List, ◌++◌, codes}
use Rattle.std.specs.Fmt.{decimal}
use Rattle.crm_classes.specs.Classes.{code_text, e2, e52, e77}
use Rattle.certificate_reader.specs.declared.class_lines.ClassLine.{ClassLine}
use Rattle.proof_core.specs.Proofs.{node_count}
use Rattle.certificate_trees.specs.TreeTexts.{class_leaf_text, tree_bytes}

abbrev pub triples_text : ℕ → ℕ → List ℕ
triples_text first second = codes "t" ++ (decimal first ++ (codes " " ++ (codes "t" ++ decimal second)))

abbrev pub classes_text : ℕ → ℕ → List ℕ
classes_text first second = code_text first ++ (codes " " ++ code_text second)

-- a line without its line feed
abbrev pub class_line_text : ClassLine → List ℕ
class_line_text l =
    codes "class " ++ (triples_text l.first l.second ++ (codes " " ++ (classes_text l.first_class l.second_class
    ++ (codes " " ++ (tree_bytes class_leaf_text l.first_tree ++ (codes " " ++ tree_bytes class_leaf_text l.second_tree))))))

-- E2, E52 and E77 head the three families that share no instance
abbrev pub IsHead : ℕ → Type 0
IsHead c = (c ≡ e2) ⊎ ((c ≡ e52) ⊎ (c ≡ e77))

-- the heads of two different families
abbrev pub IsFamilyPair : ℕ → ℕ → Type 0
IsFamilyPair c d = (c ≢ d) × IsHead c × IsHead d

-- how many nodes its trees have
abbrev pub class_line_nodes : ClassLine → ℕ
class_line_nodes l = node_count l.first_tree + node_count l.second_tree
