-- The lines of a matrix and their parts as forms, and their steps, each with what stands behind it.
use Rattle.std.proofs.Common.{arith, inl, None, [], ◌∷◌, refl}
use Rattle.std.specs.Prelude.{codes}
use Rattle.certificate_trees.specs.Beginnings.{Then, Word, Either, NoByte, IsDigit, IsForm}
use Rattle.certificate_trees.specs.Grammar.{Name}
use Rattle.certificate_trees.specs.TreeGrammar.{Tree}
use Rattle.certificate_reader.specs.LineGrammar.{Extents, OrderTree, CoverForm, WalkForm, MatrixForm}
use Rattle.certificate_trees.specs.LeafGrammar.{LeafOf, OfCovers, CoverLeaf}
use Rattle.certificate_trees.proofs.Cuts.{Led, word_led, behind_led, led_apart, either_form, then_form, behind_form, word_form, apart_both}
use Rattle.certificate_trees.proofs.TreeForms.{tree_form, no_digit}
use Rattle.certificate_trees.proofs.LeafForms.{are_leaves}
use Rattle.certificate_trees.proofs.Steps.{Joins, live_both, word_joins, joins_word, space, spaced}
use Rattle.certificate_trees.proofs.Shallow.{IsFlat, flat_then, flat_spaced}
use Rattle.certificate_reader.proofs.LineForms.{wider_form, name_pair, extent_form, order_tree_form, flat_extent}

pub extents_form : IsForm Extents IsDigit
extents_form = name_pair 120 120 extent_form extent_form

pub walk_tree_form : IsForm (Tree (LeafOf OfCovers)) IsDigit
walk_tree_form = tree_form (LeafOf OfCovers) (are_leaves OfCovers)

pub flat_extents : IsFlat Extents
flat_extents = flat_then (Name 120) (Then (Word (32 ∷ [])) (Name 120)) flat_extent (flat_spaced (Name 120) flat_extent)

-- lines of a matrix
pub space_extent : Joins (Word (32 ∷ [])) (Name 120) NoByte
space_extent = space (Name 120) extent_form.live

pub extent_extent : Joins (Name 120) (Then (Word (32 ∷ [])) (Name 120)) IsDigit
extent_extent = spaced (Name 120) (Name 120) extent_form extent_form.live

pub space_orders : Joins (Word (32 ∷ [])) (OrderTree None) NoByte
space_orders = space (OrderTree None) (order_tree_form None).live

pub extents_orders : Joins Extents (Then (Word (32 ∷ [])) (OrderTree None)) IsDigit
extents_orders = spaced Extents (OrderTree None) extents_form (order_tree_form None).live

pub cover_extents : Joins (Word (codes "cover ")) (Then Extents (Then (Word (32 ∷ [])) (OrderTree None))) NoByte
cover_extents = word_joins (codes "cover ") (Then Extents (Then (Word (32 ∷ [])) (OrderTree None))) refl (live_both extents_orders)

pub space_covers : Joins (Word (32 ∷ [])) (Tree CoverLeaf) NoByte
space_covers = space (Tree CoverLeaf) walk_tree_form.live

pub extents_covers : Joins Extents (Then (Word (32 ∷ [])) (Tree CoverLeaf)) IsDigit
extents_covers = spaced Extents (Tree CoverLeaf) extents_form walk_tree_form.live

pub walk_extents : Joins (Word (codes "walk ")) (Then Extents (Then (Word (32 ∷ [])) (Tree CoverLeaf))) NoByte
walk_extents = word_joins (codes "walk ") (Then Extents (Then (Word (32 ∷ [])) (Tree CoverLeaf))) refl (live_both extents_covers)

pub cover_form : IsForm CoverForm IsDigit
cover_form = behind_form (codes "cover ") (Then Extents (Then (Word (32 ∷ [])) (OrderTree None))) IsDigit refl
    (then_form Extents (Then (Word (32 ∷ [])) (OrderTree None)) IsDigit IsDigit extents_form (behind_form (32 ∷ []) (OrderTree None) IsDigit refl (order_tree_form None)) extents_orders.avoids)

pub walk_form : IsForm WalkForm IsDigit
walk_form = behind_form (codes "walk ") (Then Extents (Then (Word (32 ∷ [])) (Tree CoverLeaf))) IsDigit refl
    (then_form Extents (Then (Word (32 ∷ [])) (Tree CoverLeaf)) IsDigit IsDigit extents_form (behind_form (32 ∷ []) (Tree CoverLeaf) IsDigit refl walk_tree_form) extents_covers.avoids)

end_form : IsForm (Word (codes "end")) IsDigit
end_form = wider_form (Word (codes "end")) NoByte IsDigit (λ c d. absurd d) (word_form (codes "end") refl)

pub led_cover : Led (codes "cover ") CoverForm
led_cover = behind_led (codes "cover ") (Then Extents (Then (Word (codes " ")) (OrderTree None)))

pub led_walk : Led (codes "walk ") WalkForm
led_walk = behind_led (codes "walk ") (Then Extents (Then (Word (codes " ")) (Tree CoverLeaf)))

pub matrix_form : IsForm MatrixForm IsDigit
matrix_form = either_form CoverForm (Either WalkForm (Word (codes "end"))) IsDigit cover_form
    (either_form WalkForm (Word (codes "end")) IsDigit walk_form end_form (led_apart (codes "walk ") (codes "end") WalkForm (Word (codes "end")) led_walk (word_led (codes "end")) (inl (λ e. omega (arith, e)))))
    (apart_both CoverForm WalkForm (Word (codes "end"))
    (led_apart (codes "cover ") (codes "walk ") CoverForm WalkForm led_cover led_walk (inl (λ e. omega (arith, e))))
    (led_apart (codes "cover ") (codes "end") CoverForm (Word (codes "end")) led_cover (word_led (codes "end")) (inl (λ e. omega (arith, e)))))

pub matrix_feed : Joins MatrixForm (Word (10 ∷ [])) IsDigit
matrix_feed = joins_word MatrixForm IsDigit 10 [] matrix_form (no_digit 10 (omega arith))
