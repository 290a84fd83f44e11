use Rattle.std.proofs.Common.{◌≡◌, ◌∙◌, List, ℕ, [], Option, IfSome, arith, subst}
use Rattle.std.proofs.lemmas.List.{get_or_read}
use Rattle.crm_outside.specs.Shelves.{Files}
use Rattle.crm_run.specs.Joins.{IsJoinedOf, name_at}
use Rattle.crm_run.proofs.Joins.{done_of, next_of}
use Rattle.crm_run.proofs.joining.join_files.Goals as goal

pub loop-k-preserved : goal.loop-k-preserved
loop-k-preserved g c =
    let name : c.as_str.result.now ≡ name_at c.args.files.now c.loop-k.k =
    c.as_str.ensures ∙ get_or_read c.args.files.now c.loop-k.k c.index-files-k.result (omega (arith, c.loop-k-test.true)) c.index-files-k.is [] in
    let joined =
    subst (λ (n : List ℕ). IfSome (g.S.Shelf.files c.args.shelf.now) (λ files. IsJoinedOf c.args.base.now files n c.loop-k.joining c.in-Ok.joining)) name
    (subst (λ (o : Option Files). IfSome o (λ files. IsJoinedOf c.args.base.now files c.as_str.result.now c.loop-k.joining c.in-Ok.joining)) c.loop-k.invariant.files c.in-Ok.ensures.ok) in
    record {
      joined = next_of c.args.base.now (g.S.Shelf.files c.args.shelf.now) c.args.files.now c.loop-k.k (omega (arith, c.loop-k-test.true))
          c.loop-k.joining c.in-Ok.joining c.loop-k.invariant.joined joined;
      later = omega (arith, c.loop-k.invariant.later, c.in-Ok.ensures.later);
      files = c.in-Ok.ensures.files ∙ c.loop-k.invariant.files;
      honest = c.in-Ok.ensures.honest ∙ c.loop-k.invariant.honest;
    }

pub returns-clause-ok : goal.returns-clause-ok
returns-clause-ok g c =
    done_of c.args.base.now (g.S.Shelf.files c.args.shelf.now) c.args.files.now c.loop-k.k (omega (arith, c.loop-k-test.false)) c.loop-k.joining
    c.loop-k.invariant.joined
