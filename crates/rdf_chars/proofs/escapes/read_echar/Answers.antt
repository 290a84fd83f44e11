use Rattle.std.proofs.Common.{subst, sym, drop}
use Rattle.std.specs.Prelude.{None}
use Rattle.rdf_chars.specs.Escapes.{IsRead, IsEchar}
use Rattle.rdf_chars.proofs.Fronts.{echar_none, rest_is}
use Rattle.rdf_chars.proofs.escapes.read_echar.Goals as goal

pub returns-in_err-c : goal.returns-in_err-c
returns-in_err-c c =
    let rest = rest_is c.args.chars.now c.in_ok-rest.rest.now c.args.from c.in_ok-rest.ensures.lookup.0.2 in
    subst (λ x. IsRead IsEchar (drop c.args.from c.args.chars.now) c.args.from x) (sym c.from_residual-in_err-c.ensures)
    (subst (λ x. IsRead IsEchar x c.args.from None) rest (echar_none c.in_ok-rest.rest.now c.args.from c.index-rest-1.result c.index-rest-1.is c.in_err-c.ensures))
