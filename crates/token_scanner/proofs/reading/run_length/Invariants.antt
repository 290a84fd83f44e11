use Rattle.std.proofs.Common.{◌≡◌, ◌++◌, ℕ, List, take}
use Rattle.std.specs.Str.{IsAscii}
use Rattle.token_scanner.specs.Cutting.{Leads}
use Rattle.token_scanner.specs.Fronts.{read_from, run_on}
use Rattle.token_scanner.proofs.reading.run_length.Given as goal

abbrev pub invariant-loop-byte : goal.invariant-loop-byte
invariant-loop-byte g l = record {
  count : l.count ≡ l.byte-index;
  ascii : IsAscii (take l.byte-index l.front);
  runs : (more : List ℕ) → read_from g.S.Syntax.scanner l.fn.reading (take l.byte-index l.front ++ more) ≡ read_from g.S.Syntax.scanner (run_on l.fn.reading l.byte-index) more;
  leads : (done : List ℕ) → Leads g.S.Syntax.scanner l.fn.reading.state done → Leads g.S.Syntax.scanner l.fn.reading.state (done ++ take l.byte-index l.front);
}
