use Rattle.std.proofs.Common.{◌≡◌, ◌+◌, ◌≤◌, length}
use Rattle.script_text.specs.Fields.{fields_after}
use Rattle.event_script.proofs.reader.fields.has_count.Given as goal

-- so many fields were passed by as are not missing any more
abbrev pub invariant-loop-missing : goal.invariant-loop-missing
invariant-loop-missing l = record {
  few : l.missing ≤ l.count;
  passed : l.count + length (fields_after l.left) ≡ l.missing + length (fields_after l.rest);
}

abbrev pub decreases-loop-missing : goal.decreases-loop-missing
decreases-loop-missing l = l.missing
