-- The exit status of an outcome.
use Rattle.std.specs.Prelude.{ℕ}
use Rattle.report_base.specs.declared.status.Status.{Status}
use Rattle.report_base.specs.declared.status.Status.TheVariants.{Done, Findings, Refused, Usage, ReadFault, WriteFault, Memory}

abbrev pub exit_status : Status → ℕ
exit_status Done = 0
exit_status Findings = 1
exit_status Refused = 2
exit_status Usage = 3
exit_status ReadFault = 4
exit_status WriteFault = 5
exit_status Memory = 6
