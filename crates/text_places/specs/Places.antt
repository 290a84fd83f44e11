-- Lines and columns of a text by the offsets of its bytes.
use Rattle.std.specs.Prelude.{zero, suc, ℕ, ◌+◌, ◌-◌, ◌==◌, ◌&&◌, ◌||◌, Bool, not, cond, min, nat_le, nat_lt, List, length, slice_index}
use Rattle.text_places.specs.declared.places.Place.{Place}

-- A line ends behind a line feed, and behind a carriage return that no line feed follows.
abbrev pub ends_line : List ℕ → ℕ → Bool
ends_line bytes k = slice_index bytes k == 0x0A || (slice_index bytes k == 0x0D && not (slice_index bytes (k + 1) == 0x0A))

-- the text begins with the three bytes of U+FEFF
abbrev pub has_mark : List ℕ → Bool
has_mark bytes = slice_index bytes 0 == 0xEF && slice_index bytes 1 == 0xBB && slice_index bytes 2 == 0xBF

-- a character begins at the byte: it isn't one of those of 80 to BF, which go on with one. The mark of the byte order isn't counted.
abbrev pub is_counted : List ℕ → ℕ → Bool
is_counted bytes k = not (nat_le 0x80 (slice_index bytes k) && nat_lt (slice_index bytes k) 0xC0) && not (k == 0 && has_mark bytes)

-- how many of the first n places pass a test
unfoldable pub count_below : (ℕ → Bool) → ℕ → ℕ
count_below test zero = 0
count_below test (suc n) = count_below test n + cond (test n) 1 0

-- the place behind the last of the first n that passes, or the beginning
unfoldable pub behind_last : (ℕ → Bool) → ℕ → ℕ
behind_last test zero = 0
behind_last test (suc n) = cond (test n) (suc n) (behind_last test n)

-- where the line of an offset begins
abbrev pub line_start : List ℕ → ℕ → ℕ
line_start bytes at = behind_last (ends_line bytes) at

-- one and the number of line ends before the offset
abbrev pub line_at : List ℕ → ℕ → ℕ
line_at bytes at = 1 + count_below (ends_line bytes) at

-- one and the number of characters between the beginning of the line and the offset
abbrev pub column_at : List ℕ → ℕ → ℕ
column_at bytes at = 1 + (count_below (is_counted bytes) at - count_below (is_counted bytes) (line_start bytes at))

abbrev pub place_at : List ℕ → ℕ → Place
place_at bytes at = record { line = line_at bytes at; column = column_at bytes at }

-- the place of an offset; one behind the end has the place of the end
abbrev pub place_of : List ℕ → ℕ → Place
place_of bytes offset = place_at bytes (min offset (length bytes))
