-- How a program ends that has a text to write with each of its statuses: over what is due with a
-- status, and what a status says of the devices.
use Rattle.std.specs.Prelude.{◌≡◌, ◌⊎◌, ℕ, List, Option, codes}
use Rattle.run_ports.specs.Ports.{Rose, Gains, GainsPart}
use Rattle.run_ports.specs.declared.status.Ending.{Ending}
use Rattle.run_ports.specs.declared.status.Ending.TheVariants.{Written, ReadFault, WriteFault}
use Rattle.run_ports.specs.declared.status.Ending.TheVariants.{NoMemory}

-- of a script that is longer than a program takes
abbrev pub too_long_line : List ℕ
too_long_line = codes "script too long\n"

-- the text that is due with this status was written
abbrev pub Writes : {S : Type 0} → (S → List ℕ → Type 0) → S → Option (List ℕ) → Option (List ℕ)
    → Type 0
Writes due status old new = (text : List ℕ) × due status text × Gains old new text

-- a front of a text that was due with some status was written, or nothing
abbrev pub WritesPart : {S : Type 0} → (S → List ℕ → Type 0) → Option (List ℕ) → Option (List ℕ)
    → Type 0
WritesPart {S} due old new =
    (new ≡ old)
    ⊎ ((status : S) × (text : List ℕ) × due status text × GainsPart old new text)

-- the counts of faults and what the sink holds, before a run and after it
pub record Change : Type 0 where
  pub reads : ℕ
  pub reads_after : ℕ
  pub writes : ℕ
  pub writes_after : ℕ
  pub held : Option (List ℕ)
  pub held_after : Option (List ℕ)

-- what a run changed of its sink, beside these counts of reads that failed
abbrev pub sink_change : {K : Type 0} → (K → ℕ) → (K → Option (List ℕ)) → K → K → ℕ → ℕ → Change
sink_change faults written old new reads reads_after = record {
  reads = reads;
  reads_after = reads_after;
  writes = faults old;
  writes_after = faults new;
  held = written old;
  held_after = written new;
}

-- How a program may end with a status, by what that says of the devices. Its input is read where
-- the words ask for that.
abbrev pub EndsWith : {S : Type 0} → (S → List ℕ → Type 0) → Type 0 → Change → S → Ending → Type 0
EndsWith due asked change status Written = Writes due status change.held change.held_after
EndsWith due asked change status ReadFault =
    asked × Rose change.reads change.reads_after × (change.held_after ≡ change.held)
EndsWith due asked change status WriteFault =
    Rose change.writes change.writes_after × WritesPart due change.held change.held_after
EndsWith due asked change status NoMemory = WritesPart due change.held change.held_after

-- how writing the line that is due with a status may end
abbrev pub Concludes : {S : Type 0} → (S → Ending) → List ℕ → S → Change → S → Type 0
Concludes says line status change end =
    ((end ≡ status) × Gains change.held change.held_after line)
    ⊎ (((says end ≡ WriteFault) × Rose change.writes change.writes_after
    × GainsPart change.held change.held_after line)
    ⊎ ((says end ≡ NoMemory) × GainsPart change.held change.held_after line))
