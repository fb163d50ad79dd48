-- The statuses of a raise, as a process reports them.
use Rattle.std.specs.Prelude.{ℕ}
use Rattle.run_ports.specs.declared.status.Ending.{Ending}
use Rattle.run_ports.specs.declared.status.Ending.TheVariants as ending
use Rattle.raise_run.specs.declared.status.RaiseStatus.{RaiseStatus}
use Rattle.raise_run.specs.declared.status.RaiseStatus.TheVariants.{Done, Usage, Script, ReadFault}
use Rattle.raise_run.specs.declared.status.RaiseStatus.TheVariants.{WriteFault, NoMemory, TooLong}
use Rattle.raise_run.specs.declared.status.RaiseStatus.TheVariants.{NoSnapshot}

-- the number of each, and what it says of the devices
abbrev pub raise_report : RaiseStatus → ℕ × Ending
raise_report Done = (0, ending.Written)
raise_report Usage = (2, ending.Written)
raise_report Script = (3, ending.Written)
raise_report ReadFault = (4, ending.ReadFault)
raise_report WriteFault = (5, ending.WriteFault)
raise_report NoMemory = (6, ending.NoMemory)
raise_report TooLong = (7, ending.Written)
raise_report NoSnapshot = (8, ending.Written)

abbrev pub raise_code_of : RaiseStatus → ℕ
raise_code_of status = (raise_report status).0

abbrev pub raise_ending_of : RaiseStatus → Ending
raise_ending_of status = (raise_report status).1
