use Rattle.std.proofs.Common.{◌≡◌, ◌^◌, ◌-◌, ◌*◌, ◌<◌, ◌≤◌, drop, refl, ap, sym, arith, false}
use Rattle.std.specs.Prelude.{nat_lt}
use Rattle.std.proofs.lemmas.Bool.{le-ltb, lt-ltb}
use Rattle.eh_bytes.specs.Leb.{uleb_value}
use Rattle.eh_bytes.proofs.Digits.{uleb_value-digit, uleb_value-drop, uleb_value-end}
use Rattle.eh_bytes.proofs.leb.uleb_number.Goals as goal

pub loop-i-init : goal.loop-i-init
loop-i-init c = record { within = omega arith; fits = omega arith; so_far = sym (uleb_value-end c.args.text.now) }

pub loop-i-preserved : goal.loop-i-preserved
loop-i-preserved c =
    let digit = uleb_value-digit c.args.text.now c.loop-i.i (omega arith) (omega arith) in
    record { within = omega arith; fits = omega (arith, c.in_ok-number.ensures); so_far = omega (arith, digit, c.in_ok-number.ensures) }

pub returns-in_err-number : goal.returns-in_err-number
returns-in_err-number c =
    let text = c.args.text.now in
    let digit = uleb_value-digit text c.loop-i.i (omega arith) (omega arith) in
    let high : 2 ^ 64 ≤ c.loop-i.number * 128 = omega (arith, c.in_err-number.ensures) in
    let wide : nat_lt (uleb_value text) (2 ^ 64) ≡ false = le-ltb _ _ (omega (arith, digit, uleb_value-drop text (c.loop-i.i - 1))) in
    rw (c.from_residual.ensures, wide) refl

pub returns : goal.returns
returns c =
    let none : c.loop-i.i ≡ 0 = omega arith in
    let same = ap (λ k. uleb_value (drop k c.args.text.now)) none in
    let whole : uleb_value c.args.text.now ≡ c.loop-i.number = omega (arith, same, c.loop-i.invariant.so_far) in
    let below : c.loop-i.number < 2 ^ 64 = c.loop-i.invariant.fits in
    let fits = lt-ltb c.loop-i.number (2 ^ 64) below in
    rw (whole, fits) refl
