-- The statuses of a run, as a process reports them.
use Rattle.std.specs.Prelude.{ℕ}
use Rattle.run_ports.specs.declared.status.Ending.{Ending}
use Rattle.run_ports.specs.declared.status.Ending.TheVariants as ending
use Rattle.run_engine.specs.declared.status.Status.{Status}
use Rattle.run_engine.specs.declared.status.Status.TheVariants.{Done, Usage, Script, ReadFault}
use Rattle.run_engine.specs.declared.status.Status.TheVariants.{WriteFault, NoMemory, TooLong}

abbrev pub code_of : Status → ℕ
code_of Done = 0
code_of Usage = 2
code_of Script = 3
code_of ReadFault = 4
code_of WriteFault = 5
code_of NoMemory = 6
code_of TooLong = 7

-- what each of them says of the devices
abbrev pub ending_of : Status → Ending
ending_of Done = ending.Written
ending_of Usage = ending.Written
ending_of Script = ending.Written
ending_of TooLong = ending.Written
ending_of ReadFault = ending.ReadFault
ending_of WriteFault = ending.WriteFault
ending_of NoMemory = ending.NoMemory
