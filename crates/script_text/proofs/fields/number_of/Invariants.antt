use Rattle.std.proofs.Common.{◌≡◌, take}
use Rattle.std.specs.List.{AllByRecursion}
use Rattle.std.specs.Str.Parse.{digits_value}
use Rattle.script_text.proofs.Numbers.{IsGlyph}
use Rattle.script_text.proofs.fields.number_of.Given as goal

-- the number of the digits so far
abbrev pub invariant-loop-byte : goal.invariant-loop-byte
invariant-loop-byte l = record {
  each : AllByRecursion (IsGlyph l.base) (take l.byte-index l.field);
  value : l.number ≡ digits_value l.base (take l.byte-index l.field);
}
