use Rattle.std.proofs.Common.{◌≡◌, ◌++◌, take}
use Rattle.order_certificates.specs.Sharing.{shared_behind}
use Rattle.order_certificates.proofs.sharing.Lets.share_behind.Given as goal

abbrev pub invariant-loop-order : goal.invariant-loop-order
invariant-loop-order l =
    (l.part ≡ (shared_behind l.fn.self l.fn.front (take l.order-index l.orders)).proof)
    × (l.self ≡ (shared_behind l.fn.self l.fn.front (take l.order-index l.orders)).lets)
    × (l.line.items ≡ l.fn.line.items ++ (shared_behind l.fn.self l.fn.front (take l.order-index l.orders)).text)
