use Rattle.token_scanner.proofs.Saying.{texts_say}
use Rattle.ntriples_tokens.specs.Scanning.{scanner}
use Rattle.ntriples_tokens.specs.ScannerLaws.{right}
use Rattle.ntriples_tokens.proofs.laws.texts_have_items.Goals as goal

pub returns : goal.returns
returns c = texts_say scanner right
