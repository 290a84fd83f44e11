-- Which entries of a row are strict, as bits, 64 to a word.
use Rattle.std.specs.Prelude.{zero, suc, ◌+◌, ◌*◌, ℕ, Bool, cond, List, [], ◌∷◌, ◌++◌, slice_index_or, bit_and, count_ones}
use Rattle.std.specs.Simd.Lanes.{mask_l}
use Rattle.order_laws.specs.declared.Reach.{Reach}
use Rattle.order_laws.specs.declared.Reach.TheVariants.{None as Nothing}
use Rattle.order_laws.specs.Tables.{is_strict}

-- behind the end of the row nothing is known
abbrev pub entry_at : List Reach → ℕ → Reach
entry_at row n = slice_index_or row n Nothing

abbrev pub bits_at : List Reach → ℕ → ℕ → List Bool
bits_at row from zero = []
bits_at row from (suc count) = is_strict (entry_at row from) ∷ bits_at row (from + 1) count

-- the lowest bit is the first
abbrev pub word_at : List Reach → ℕ → ℕ → ℕ
word_at row from count = mask_l (bits_at row from count)

abbrev pub words_of : List Reach → ℕ → List ℕ
words_of row zero = []
words_of row (suc count) = words_of row count ++ word_at row (64 * count) 64 ∷ []

-- the bits that are set in both of the first words
abbrev pub set_in_both : List ℕ → List ℕ → ℕ → ℕ
set_in_both xs ys zero = 0
set_in_both xs ys (suc count) = set_in_both xs ys count + count_ones (bit_and (slice_index_or xs count 0) (slice_index_or ys count 0))

-- how many of the numbers below `count` pass the test
abbrev pub count_to : (ℕ → Bool) → ℕ → ℕ
count_to test zero = 0
count_to test (suc count) = count_to test count + cond (test count) 1 0
