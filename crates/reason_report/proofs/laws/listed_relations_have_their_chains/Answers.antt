use Rattle.reason_report.proofs.Standing.{listed_chain}
use Rattle.reason_report.proofs.laws.listed_relations_have_their_chains.Goals as goal

pub returns : goal.returns
returns c = λ set periods r h. listed_chain set.list periods r h
