use Rattle.std.proofs.Common.{◌≡◌, ◌%◌, ◌-◌, pos, ◌+ℤ◌, ◌*ℤ◌, length, drop, get_or, refl, ap, sym, ◌∙◌, arith, false}
use Rattle.std.proofs.lemmas.Int.{ints}
use Rattle.std.specs.Int.{w64}
use mir.Val.{to_z}
use Rattle.eh_bytes.specs.Leb.{sleb_value, fits_signed}
use Rattle.eh_bytes.proofs.Digits.{sleb_value-digit, sleb_value-last, fits-product, fits-drop, fits-cast}
use Rattle.eh_bytes.proofs.leb.sleb_number.Goals as goal

pub loop-i-init : goal.loop-i-init
loop-i-init c =
    let text = c.args.text.now in
    let last = sleb_value-last text (length text - 1) (omega arith) (omega arith) in
    record { within = omega arith; so_far = omega (arith, ints, last, c.signed_digit-signed.ensures) }

pub loop-i-preserved : goal.loop-i-preserved
loop-i-preserved c =
    let digit = sleb_value-digit c.args.text.now c.loop-i.i (omega arith) (omega arith) in
    record { within = omega arith; so_far = omega (arith, ints, digit, c.in_ok-signed.ensures) }

pub returns-in_err-signed : goal.returns-in_err-signed
returns-in_err-signed c =
    let text = c.args.text.now in
    let i = c.loop-i.i - 1 in
    let number = to_z w64 c.loop-i.signed-bits in
    let digit = pos (get_or text i 0 % 128) in
    let here : sleb_value (drop i text) ≡ digit +ℤ pos 128 *ℤ number = sleb_value-digit text c.loop-i.i (omega arith) (omega arith) ∙ ap (λ z. digit +ℤ pos 128 *ℤ z) (sym c.loop-i.invariant.so_far) in
    let wide : fits_signed (sleb_value (drop i text)) ≡ false = rw here (fits-product (get_or text i 0 % 128) number (omega arith) (λ fits. c.in_err-signed.ensures fits)) in
    let refused : fits_signed (sleb_value text) ≡ false = fits-drop text i (omega arith) wide in
    rw (c.from_residual.ensures, refused) refl

pub returns : goal.returns
returns c =
    let none : c.loop-i.i ≡ 0 = omega arith in
    let whole : sleb_value c.args.text.now ≡ to_z w64 c.loop-i.signed-bits = ap (λ k. sleb_value (drop k c.args.text.now)) (sym none) ∙ sym c.loop-i.invariant.so_far in
    let fits = fits-cast c.loop-i.signed-bits c.loop-i.auto.signed.fits in
    rw (whole, fits) refl
