-- How dot segments are removed from a path: by steps from an input to an output.
use Rattle.std.specs.Prelude.{ℕ, zero, suc, ◌+◌, ◌-◌, ◌==◌, ◌||◌, List, [], ◌∷◌, ◌++◌, length, take, drop, Bool, not, cond, nat_eq}
use Rattle.std.specs.List.{prefix_len, suffix_len, starts_with}
use Rattle.std.specs.Str.{bytes_eq}

abbrev pub is_slash : ℕ → Bool
is_slash b = b == 0x2F

abbrev pub no_slash : ℕ → Bool
no_slash b = not (is_slash b)

-- `../`, `./`, `/./`, `/.`, `/../`, `/..`, `.` and `..`
abbrev pub up_slash : List ℕ
up_slash = 0x2E ∷ 0x2E ∷ 0x2F ∷ []

abbrev pub dot_slash : List ℕ
dot_slash = 0x2E ∷ 0x2F ∷ []

abbrev pub slash_dot_slash : List ℕ
slash_dot_slash = 0x2F ∷ 0x2E ∷ 0x2F ∷ []

abbrev pub slash_dot : List ℕ
slash_dot = 0x2F ∷ 0x2E ∷ []

abbrev pub slash_up_slash : List ℕ
slash_up_slash = 0x2F ∷ 0x2E ∷ 0x2E ∷ 0x2F ∷ []

abbrev pub slash_up : List ℕ
slash_up = 0x2F ∷ 0x2E ∷ 0x2E ∷ []

abbrev pub dot : List ℕ
dot = 0x2E ∷ []

abbrev pub up : List ℕ
up = 0x2E ∷ 0x2E ∷ []

abbrev pub starts : List ℕ → List ℕ → Bool
starts text front = starts_with nat_eq text front

-- the length of the text up to and with its last slash, which is 0 where there is none
abbrev pub through_last_slash : List ℕ → ℕ
through_last_slash text = length text - suffix_len no_slash text

-- the text without its last segment and the slash before it
abbrev pub without_last : List ℕ → List ℕ
without_last text = take (through_last_slash text - 1) text

-- the length of the first segment, with a leading slash if it has one, up to before the next slash
abbrev pub segment_length : List ℕ → ℕ
segment_length input = 1 + prefix_len no_slash (drop 1 input)

-- one step: what is left of the input, and the output
abbrev pub dot_step : List ℕ → List ℕ → List ℕ × List ℕ
dot_step input output =
    cond (starts input up_slash) (drop 3 input, output)
    (cond (starts input dot_slash || starts input slash_dot_slash) (drop 2 input, output)
    (cond (bytes_eq input slash_dot) (take 1 input, output)
    (cond (starts input slash_up_slash) (drop 3 input, without_last output)
    (cond (bytes_eq input slash_up) (take 1 input, without_last output)
    (cond (bytes_eq input dot || bytes_eq input up) ([], output)
    (drop (segment_length input) input, output ++ take (segment_length input) input))))))

-- The steps go on while the input isn't empty; each makes it shorter.
abbrev pub without_dots_from : ℕ → List ℕ → List ℕ → List ℕ
without_dots_from zero input output = output
without_dots_from (suc n) [] output = output
without_dots_from (suc n) (b ∷ input) output = without_dots_from n (dot_step (b ∷ input) output).0 (dot_step (b ∷ input) output).1

abbrev pub without_dots : List ℕ → List ℕ
without_dots path = without_dots_from (length path) path []
