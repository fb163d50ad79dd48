use Rattle.std.proofs.Common.{◌≡◌, true, false, Some, ap, sym, ◌∙◌}
use Rattle.std.specs.Prelude.{codes}
use Rattle.std.specs.Str.{bytes_eq}
use Rattle.event_script.proofs.Sections.{dash_in, no_dash_in}
use Rattle.event_script.proofs.reader.bytes.section_bytes.Goals as goal

pub returns-then-eq : goal.returns-then-eq
returns-then-eq c =
    let dash : bytes_eq c.args.field.now (codes "-") ≡ true = ap (bytes_eq c.args.field.now) (sym c.as_slice.ensures) ∙ sym c.if-eq.ensures in
    ap Some c.new.ensures.items ∙ sym (dash_in c.args.field.now dash)

pub returns : goal.returns
returns c =
    let other : bytes_eq c.args.field.now (codes "-") ≡ false = ap (bytes_eq c.args.field.now) (sym c.as_slice.ensures) ∙ sym c.if-eq.ensures in
    rw (no_dash_in c.args.field.now other) c.hex_bytes_in.ensures
