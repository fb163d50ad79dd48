use Rattle.std.proofs.Common.{◌≡◌, ◌∷◌, ◌++◌, take}
use Rattle.std.specs.List.{flat_map}
use Rattle.std.specs.String.{string_bytes}
use Rattle.script_text.specs.Digits.{hex}
use Rattle.script_text.proofs.print.script.put_columns.Given as goal

-- the text so far
abbrev pub invariant-loop-column : goal.invariant-loop-column
invariant-loop-column l = string_bytes l.text ≡ string_bytes l.fn.text ++ flat_map (λ n. 32 ∷ hex n) (take l.column-index l.columns)
