-- Past the ends of the index there is no class.
use Rattle.std.proofs.Common.{◌≡◌, ℕ, ◌≤◌}
use Rattle.std.specs.Prelude.{slice_index_or}
use Rattle.std.proofs.lemmas.List.{get_or_past}
use Rattle.crm_classes.specs.Index.{e_numbers, a_numbers}

pub e_past : (n : ℕ) → 97 ≤ n → slice_index_or e_numbers n 71 ≡ 71
unfolding e_numbers
e_past n past = get_or_past e_numbers n 71 past

pub a_past : (n : ℕ) → 10 ≤ n → slice_index_or a_numbers n 71 ≡ 71
unfolding a_numbers
a_past n past = get_or_past a_numbers n 71 past
