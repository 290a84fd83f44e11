use Rattle.std.proofs.Common.{length}
use Rattle.time_primitive.proofs.Spelling.{longest_begins, longest_most}
use Rattle.time_primitive.proofs.laws.fronts_are_longest.Goals as goal

pub returns-clause-begun : goal.returns-clause-begun
returns-clause-begun c = λ datatype text. longest_begins datatype text (length text)

pub returns-clause-longest : goal.returns-clause-longest
returns-clause-longest c = λ datatype text n l h. longest_most datatype text n (length text) l h
