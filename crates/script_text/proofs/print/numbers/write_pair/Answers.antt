use Rattle.std.proofs.Common.{◌≡◌, ◌+◌, ◌%◌, set, length-set, false, arith}
use Rattle.std.specs.Fmt.{digit_glyph}
use Rattle.std.proofs.lemmas.List.{set_comm, drop-set}
use Rattle.script_text.proofs.HexDigits.{pair_at}
use Rattle.script_text.proofs.print.numbers.write_pair.Goals as goal

pub returns : goal.returns
returns c =
    let digits = pair_at c.args.byte (omega arith) in
    let at = c.args.at in
    let room = c.args.room.now in
    let e : at + 1 + 1 ≡ at + 2 = omega arith in
    rw (digits.0, digits.1, set_comm room at (at + 1) _ _ (λ x. omega arith), drop-set (set room (at + 1) (digit_glyph false (c.args.byte % 16))) at _ (omega (arith, length-set room (at + 1) (digit_glyph false (c.args.byte % 16)))), drop-set room (at + 1) _ (omega arith), e)
