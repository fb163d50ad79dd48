use Rattle.std.proofs.Common.{◌≡◌, ◌++◌, length, take, drop, sym, ap, ◌∙◌, eqb-true, Some, take_all, arith}
use Rattle.std.proofs.lemmas.Bool.{eqb-false}
use Rattle.std.proofs.lemmas.List.{take-append-le}
use Rattle.event_script.proofs.Sections.{empty_in, not_lower_in}
use Rattle.event_script.proofs.LowerDigits.{odd_in, pairs_in}
use Rattle.event_script.proofs.reader.bytes.hex_bytes_in.Goals as goal
use Rattle.event_script.proofs.reader.bytes.hex_bytes_in.Goals.{then-is_empty-via-then-is_empty, then-is_empty-via-else-is_empty+then-field-ne0}

pub returns-then-is_empty : goal.returns-then-is_empty
returns-then-is_empty c = sym (elim c.then-is_empty.branch [
  | then-is_empty-via-then-is_empty w ↦ empty_in c.args.field.now (eqb-true _ _ (sym w.if-is_empty.ensures))
  | then-is_empty-via-else-is_empty+then-field-ne0 w ↦ odd_in c.args.field.now w.if-field-ne0.true
])

pub returns-then-lower : goal.returns-then-lower
returns-then-lower c =
    let d = c.decode_pairs-lower in
    let bytes = d.new.bytes in
    let count = c.resize.new.self.len in
    let rest = drop (length bytes) c.resize.new.self.items in
    let all : take count (bytes ++ rest) ≡ bytes = take-append-le count bytes rest (omega arith) ∙ take_all count bytes (omega arith) in
    ap Some (all ∙ d.ensures.bytes) ∙ sym (pairs_in c.args.field.now (eqb-false _ _ (sym c.if-is_empty.ensures)) (omega arith) (sym d.ensures.lower ∙ c.if-lower.true))

pub returns-else-lower : goal.returns-else-lower
returns-else-lower c = sym (not_lower_in c.args.field.now (sym c.decode_pairs-lower.ensures.lower ∙ c.if-lower.false))
