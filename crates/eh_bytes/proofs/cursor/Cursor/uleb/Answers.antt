use Rattle.std.proofs.Common.{◌-◌, ◌*◌, ◌+◌, ◌%◌, length, get_or, ◌∙◌, arith}
use Rattle.eh_bytes.proofs.Digits.{uleb_at-byte, uleb_at-two, after-bytes}
use Rattle.eh_bytes.proofs.cursor.Cursor.uleb.Goals as goal

-- a byte below 128 is a whole number
pub returns-in-len1-up : goal.returns-in-len1-up
returns-in-len1-up c =
    let rest = c.self.inside.rest.now in
    let short = uleb_at-byte rest (c.self.inside.end - length rest) (omega arith) (omega arith) in
    rw (← c.self.view_is) (short ∙ after-bytes (get_or rest 0 0) rest c.self.inside.end 1 (omega arith) c.self.invariant)

-- a byte of 128 or more, and one below it
pub returns-in-len2-up : goal.returns-in-len2-up
returns-in-len2-up c =
    let rest = c.self.inside.rest.now in
    let short = uleb_at-two rest (c.self.inside.end - length rest) (omega (arith, c.in-len2-up.len_at_least)) c.if-byte-lt128.false c.if-high-lt128.true in
    rw (← c.self.view_is) (short ∙ after-bytes (get_or rest 0 0 % 128 + 128 * get_or rest 1 0) rest c.self.inside.end 2 (omega (arith, c.in-len2-up.len_at_least)) c.self.invariant)
