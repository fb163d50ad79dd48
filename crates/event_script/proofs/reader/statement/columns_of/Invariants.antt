use Rattle.std.proofs.Common.{◌≡◌, ◌+◌, ◌++◌, length, take}
use Rattle.std.specs.Option.{option_map}
use Rattle.script_text.specs.Fields.{fields_after, all_hex_in}
use Rattle.event_script.proofs.reader.statement.columns_of.Given as goal

-- so many columns were read, and what is left is read as all of it is
abbrev pub invariant-loop-index : goal.invariant-loop-index
invariant-loop-index l = record {
  count : length l.columns ≡ 17;
  left : l.index + length (fields_after l.left) ≡ 17;
  so_far : all_hex_in (fields_after l.rest) ≡ option_map (λ others. take l.index l.columns ++ others) (all_hex_in (fields_after l.left));
}
