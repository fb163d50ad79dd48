-- The statuses of a check, as a process reports them.
use Rattle.std.specs.Prelude.{ℕ}
use Rattle.run_ports.specs.declared.status.Ending.{Ending}
use Rattle.run_ports.specs.declared.status.Ending.TheVariants as ending
use Rattle.journal_check.specs.declared.verdict.Verdict.{Verdict}
use Rattle.journal_check.specs.declared.verdict.Verdict.TheVariants as verdict
use Rattle.check_run.specs.declared.status.CheckStatus.{CheckStatus}
use Rattle.check_run.specs.declared.status.CheckStatus.TheVariants.{Lawful, Unlawful, Usage, Script}
use Rattle.check_run.specs.declared.status.CheckStatus.TheVariants.{ReadFault, WriteFault, NoMemory}
use Rattle.check_run.specs.declared.status.CheckStatus.TheVariants.{TooLong}

-- the number of each, and what it says of the devices
abbrev pub check_report : CheckStatus → ℕ × Ending
check_report Lawful = (0, ending.Written)
check_report Unlawful = (1, ending.Written)
check_report Usage = (2, ending.Written)
check_report Script = (3, ending.Written)
check_report ReadFault = (4, ending.ReadFault)
check_report WriteFault = (5, ending.WriteFault)
check_report NoMemory = (6, ending.NoMemory)
check_report TooLong = (7, ending.Written)

abbrev pub check_code_of : CheckStatus → ℕ
check_code_of status = (check_report status).0

abbrev pub check_ending_of : CheckStatus → Ending
check_ending_of status = (check_report status).1

-- the status of a verdict
abbrev pub verdict_status : Verdict → CheckStatus
verdict_status (verdict.Lawful updates) = Lawful
verdict_status (verdict.Line line flaw) = Unlawful
