use Rattle.std.proofs.Common.{◌-◌, length, get_or, ◌∙◌, arith}
use Rattle.std.specs.Int.{w64}
use Rattle.std.proofs.lemmas.Int.{to_z-of_z}
use Rattle.eh_bytes.specs.Leb.{signed_digit}
use Rattle.eh_bytes.proofs.Digits.{sleb_at-byte, after-bytes}
use Rattle.eh_bytes.proofs.cursor.Cursor.sleb.Goals as goal

-- a byte below 128 is a whole number
pub returns-in-len1-up : goal.returns-in-len1-up
returns-in-len1-up c =
    let rest = c.self.inside.rest.now in
    let short = sleb_at-byte rest (c.self.inside.end - length rest) (omega arith) (omega arith) in
    let bits = to_z-of_z w64 c.signed_digit.result (record { sfits = c.signed_digit.type_inv }) in
    rw (← c.self.view_is, bits, c.signed_digit.ensures) (short ∙ after-bytes (signed_digit (get_or rest 0 0)) rest c.self.inside.end 1 (omega arith) c.self.invariant)
