use Rattle.std.proofs.Common.{Err, ap, subst, sym}
use Rattle.archive_join.specs.declared.faults.JoinFault.{JoinFault}
use Rattle.archive_join.specs.Joining.{Joined as Whole, triples_behind}
use Rattle.archive_join.specs.Limits.{AreFew}
use Rattle.archive_join.proofs.Past.{past_first, past_never}
use Rattle.crm_run.specs.declared.joining.Joining.{Joining}
use Rattle.crm_run.specs.declared.joining.Joining.TheVariants.{Joined, Refused}
use Rattle.crm_run.specs.Joins.{IsJoinedWith}
use Rattle.crm_run.proofs.joining.join_archive.Goals as goal

pub returns-in-Ok-clause-ok : goal.returns-in-Ok-clause-ok
returns-in-Ok-clause-ok c =
    subst (λ (x : Joining). IsJoinedWith x c.args.archive (Joined c.in-Ok.joiner)) (sym c.in-Joined.is) (
      past_never c.in-Joined.joiner.records (triples_behind c.in-Joined.joiner.blanks c.in-Joined.joiner.length c.args.archive.records)
          (subst AreFew (ap (λ (w : Whole). w.records) c.in-Ok.ensures.joined) c.in-Ok.ensures.few),
      c.in-Ok.ensures.joined,
    )

pub returns-in-Err-Refused-clause-ok : goal.returns-in-Err-Refused-clause-ok
returns-in-Err-Refused-clause-ok c =
    subst (λ (x : Joining). IsJoinedWith x c.args.archive (Refused c.in-Err-Refused.refusal)) (sym c.in-Joined.is)
    (past_first c.in-Joined.joiner.records (triples_behind c.in-Joined.joiner.blanks c.in-Joined.joiner.length c.args.archive.records) c.in-Err-Refused.refusal
    (c.in-Err-Refused.ensures.refused c.in-Err-Refused.refusal (ap (λ (x : JoinFault). Err x) c.in-Err-Refused.field-0-is)))
