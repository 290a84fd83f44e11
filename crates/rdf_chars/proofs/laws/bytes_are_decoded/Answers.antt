use Rattle.rdf_chars.proofs.Whole.{decoded_right}
use Rattle.rdf_chars.proofs.laws.bytes_are_decoded.Goals as goal

pub returns : goal.returns
returns c = decoded_right
