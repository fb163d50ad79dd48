use Rattle.std.proofs.Common.{◌-◌, length}
use Rattle.sound_records.proofs.SoFar.{ReadSoFar}
use Rattle.sound_records.proofs.section.records_of.Given as goal

abbrev pub invariant-loop-cursor : goal.invariant-loop-cursor
invariant-loop-cursor l = ReadSoFar l.section l.bytes l.at l.cies.items l.fdes.items l.refused.items

abbrev pub decreases-loop-cursor : goal.decreases-loop-cursor
decreases-loop-cursor l = length l.bytes - l.at
