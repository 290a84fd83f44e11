use Rattle.std.proofs.Common.{◌≡◌, ◌++◌, take}
use Rattle.order_texts.specs.Texts.{chain_text}
use Rattle.order_texts.proofs.lines.append_chain.Given as goal

abbrev pub invariant-loop-n : goal.invariant-loop-n
invariant-loop-n l = l.line.items ≡ l.fn.line.items ++ chain_text (take l.n-index l.orders)
