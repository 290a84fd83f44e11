use Rattle.token_scanner.proofs.Once.{unique}
use Rattle.ntriples_tokens.specs.Scanning.{scanner}
use Rattle.ntriples_tokens.specs.ScannerLaws.{right}
use Rattle.ntriples_tokens.proofs.laws.items_are_unique.Goals as goal

pub returns : goal.returns
returns c = λ p text at i j chars a b. unique scanner right i j p text at chars a b
