use Rattle.std.proofs.Common.{decimal, drop, sym, subst, ◌∙◌, arith}
use Rattle.std.specs.Str.{IsUtf8}
use Rattle.std.proofs.lemmas.Fmt.{length-decimal-le, IsAscii-decimal}
use Rattle.std.proofs.lemmas.Str.{IsUtf8-append, IsUtf8-from_ascii}
use Rattle.script_text.proofs.LineEnds.{digits_fit, digits_lengthen}
use Rattle.script_text.proofs.print.line.LineEnd.prepend_decimal.Goals as goal

pub write_digits-self-inside-requires : goal.write_digits-self-inside-requires
write_digits-self-inside-requires c =
    let i = c.self.invariant in
    digits_fit 20 c.self.inside.start c.self.inside.room (decimal c.args.number) (length-decimal-le 20 c.args.number (omega arith) (omega arith) c.ranges.number.fits) i.0 i.1 (rw (← c.self.view_is) at c.requires)

pub invariant_of-self : goal.invariant_of-self
invariant_of-self c =
    let i = c.self.invariant in
    let w = c.write_digits-self-inside in
    let text = IsUtf8-append (decimal c.args.number) (drop c.self.inside.start c.self.inside.room) (IsUtf8-from_ascii (decimal c.args.number) (IsAscii-decimal c.args.number c.ranges.number.fits)) i.2 in
    (w.auto.buf ∙ i.0, omega (arith, w.ensures.start, i.1), subst IsUtf8 (sym w.ensures.written) text)

pub returns-clause-short : goal.returns-clause-short
returns-clause-short c = rw c.self.view_is at (digits_lengthen 20 (decimal c.args.number) (drop c.self.inside.start c.self.inside.room) _ (length-decimal-le 20 c.args.number (omega arith) (omega arith) c.ranges.number.fits) c.write_digits-self-inside.ensures.written)
