use Rattle.std.proofs.Common.{drop, sym, subst, ◌∙◌, arith}
use Rattle.std.specs.Str.{IsUtf8}
use Rattle.std.proofs.lemmas.Str.{IsUtf8-append}
use Rattle.script_text.specs.Digits.{hex}
use Rattle.script_text.proofs.HexDigits.{hex_is_text, hex_short}
use Rattle.script_text.proofs.LineEnds.{digits_fit, digits_lengthen}
use Rattle.script_text.proofs.print.line.LineEnd.prepend_hex.Goals as goal

pub write_hex-self-inside-requires : goal.write_hex-self-inside-requires
write_hex-self-inside-requires c =
    let i = c.self.invariant in
    digits_fit 16 c.self.inside.start c.self.inside.room (hex c.args.number) (hex_short c.args.number c.ranges.number.fits) i.0 i.1 (rw (← c.self.view_is) at c.requires)

pub invariant_of-self : goal.invariant_of-self
invariant_of-self c =
    let i = c.self.invariant in
    let w = c.write_hex-self-inside in
    let text = IsUtf8-append (hex c.args.number) (drop c.self.inside.start c.self.inside.room) (hex_is_text c.args.number c.ranges.number.fits) i.2 in
    (w.auto.room ∙ i.0, omega (arith, w.ensures.start, i.1), subst IsUtf8 (sym w.ensures.written) text)

pub returns-clause-short : goal.returns-clause-short
returns-clause-short c = rw c.self.view_is at (digits_lengthen 16 (hex c.args.number) (drop c.self.inside.start c.self.inside.room) _ (hex_short c.args.number c.ranges.number.fits) c.write_hex-self-inside.ensures.written)
