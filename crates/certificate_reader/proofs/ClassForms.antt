-- The line of classes and its parts as forms, and its steps, each with what stands behind it.
use Rattle.std.proofs.Common.{arith, ℕ, List, [], ◌∷◌, refl}
use Rattle.std.specs.Prelude.{codes}
use Rattle.certificate_trees.specs.Beginnings.{Then, Word, NoByte, IsDigit, IsForm}
use Rattle.certificate_trees.specs.Grammar.{Number, Name}
use Rattle.certificate_trees.specs.TreeGrammar.{Tree}
use Rattle.certificate_reader.specs.LineGrammar.{Triples, CodePair}
use Rattle.certificate_trees.specs.LeafGrammar.{Code, ClassLeaf, OfClasses}
use Rattle.certificate_trees.proofs.Cuts.{then_form, behind_form, behind_avoids}
use Rattle.certificate_trees.proofs.NumberReads.{plain_form, name_form}
use Rattle.certificate_trees.proofs.TreeForms.{tree_form, no_digit}
use Rattle.certificate_trees.proofs.LeafForms.{are_leaves, code_form}
use Rattle.certificate_trees.proofs.Steps.{Joins, live_both, word_joins, joins_word, space, spaced}
use Rattle.certificate_trees.proofs.Shallow.{IsFlat, flat_then, flat_name, flat_code, flat_spaced}
use Rattle.certificate_reader.proofs.LineForms.{name_pair}

pub triple_form : IsForm (Name 116) IsDigit
triple_form = name_form 116 (λ e. omega (arith, e)) (λ e. omega (arith, e))

pub triples_form : IsForm Triples IsDigit
triples_form = name_pair 116 116 triple_form triple_form

pub code_pair_form : IsForm CodePair IsDigit
code_pair_form = then_form Code (Then (Word (32 ∷ [])) Code) IsDigit IsDigit code_form (behind_form (32 ∷ []) Code IsDigit refl code_form) (behind_avoids IsDigit 32 [] Code (no_digit 32 (omega arith)))

pub flat_triple : IsFlat (Name 116)
flat_triple = flat_name 116 (λ e. omega (arith, e))

pub flat_triples : IsFlat Triples
flat_triples = flat_then (Name 116) (Then (Word (32 ∷ [])) (Name 116)) flat_triple (flat_spaced (Name 116) flat_triple)

pub flat_code_pair : IsFlat CodePair
flat_code_pair = flat_then Code (Then (Word (32 ∷ [])) Code) flat_code (flat_spaced Code flat_code)

-- the line of classes, from its end
pub class_tree_form : IsForm (Tree ClassLeaf) IsDigit
class_tree_form = tree_form ClassLeaf (are_leaves OfClasses)

pub t_number : Joins (Word (116 ∷ [])) Number NoByte
t_number = word_joins (116 ∷ []) Number refl plain_form.live

pub space_triple : Joins (Word (32 ∷ [])) (Name 116) NoByte
space_triple = space (Name 116) triple_form.live

pub triple_triple : Joins (Name 116) (Then (Word (32 ∷ [])) (Name 116)) IsDigit
triple_triple = spaced (Name 116) (Name 116) triple_form triple_form.live

pub space_code : Joins (Word (32 ∷ [])) Code NoByte
space_code = space Code code_form.live

pub code_code : Joins Code (Then (Word (32 ∷ [])) Code) IsDigit
code_code = spaced Code Code code_form code_form.live

abbrev pub LastTree : List ℕ → Type 0
LastTree = Then (Tree ClassLeaf) (Word (10 ∷ []))

abbrev pub BothTrees : List ℕ → Type 0
BothTrees = Then (Tree ClassLeaf) (Then (Word (32 ∷ [])) LastTree)

abbrev pub FromCodes : List ℕ → Type 0
FromCodes = Then CodePair (Then (Word (32 ∷ [])) BothTrees)

pub second_tree_feed : Joins (Tree ClassLeaf) (Word (10 ∷ [])) IsDigit
second_tree_feed = joins_word (Tree ClassLeaf) IsDigit 10 [] class_tree_form (no_digit 10 (omega arith))

pub space_second_tree : Joins (Word (32 ∷ [])) LastTree NoByte
space_second_tree = space LastTree (live_both second_tree_feed)

pub first_tree_second : Joins (Tree ClassLeaf) (Then (Word (32 ∷ [])) LastTree) IsDigit
first_tree_second = spaced (Tree ClassLeaf) LastTree class_tree_form (live_both second_tree_feed)

pub space_trees : Joins (Word (32 ∷ [])) BothTrees NoByte
space_trees = space BothTrees (live_both first_tree_second)

pub classes_trees : Joins CodePair (Then (Word (32 ∷ [])) BothTrees) IsDigit
classes_trees = spaced CodePair BothTrees code_pair_form (live_both first_tree_second)

pub space_classes : Joins (Word (32 ∷ [])) FromCodes NoByte
space_classes = space FromCodes (live_both classes_trees)

pub triples_classes : Joins Triples (Then (Word (32 ∷ [])) FromCodes) IsDigit
triples_classes = spaced Triples FromCodes triples_form (live_both classes_trees)

pub class_triples : Joins (Word (codes "class ")) (Then Triples (Then (Word (32 ∷ [])) FromCodes)) NoByte
class_triples = word_joins (codes "class ") (Then Triples (Then (Word (32 ∷ [])) FromCodes)) refl (live_both triples_classes)
