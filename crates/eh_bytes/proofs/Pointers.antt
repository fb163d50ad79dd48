-- Signed numbers of fixed width, and the numbers and pointers of encodings, are exact.
use Rattle.std.proofs.Common.{ℕ, ◌%◌}
use Rattle.std.specs.Int.{Width, w16, w32}
use Rattle.eh_bytes.specs.declared.fault.ByteFault.TheVariants.{Encoding}
use Rattle.eh_bytes.specs.Fields.{signed_fixed}
use Rattle.eh_bytes.specs.Pointer.{is_format, is_pointer, by_format, encoded_number, encoded_pointer}
use Rattle.eh_bytes.proofs.Exact.{IsExact, then_exact, give_exact, here_exact, when_exact, check_exact}
use Rattle.eh_bytes.proofs.Fields.{fixed_exact, uleb_exact, sleb_exact}

pub signed_fixed_exact : (w : Width) → IsExact (signed_fixed w)
signed_fixed_exact w = then_exact _ _ (fixed_exact _) (λ x. give_exact _)

pub by_format_exact : (f : ℕ) → IsExact (by_format f)
by_format_exact f =
    when_exact _ _ _ uleb_exact
    (when_exact _ _ _ (fixed_exact 2)
    (when_exact _ _ _ (fixed_exact 4)
    (when_exact _ _ _ (then_exact _ _ sleb_exact (λ x. give_exact _))
    (when_exact _ _ _ (then_exact _ _ (signed_fixed_exact w16) (λ x. give_exact _))
    (when_exact _ _ _ (then_exact _ _ (signed_fixed_exact w32) (λ x. give_exact _))
    (fixed_exact 8))))))

pub encoded_number_exact : (e : ℕ) → IsExact (encoded_number e)
unfolding encoded_number
encoded_number_exact e =
    then_exact _ _ here_exact (λ at.
    then_exact _ _ (check_exact (is_format (e % 16)) (Encoding at e)) (λ _. by_format_exact (e % 16)))

pub encoded_pointer_exact : (e section : ℕ) → IsExact (encoded_pointer e section)
unfolding encoded_pointer
encoded_pointer_exact e section =
    then_exact _ _ here_exact (λ at.
    then_exact _ _ (check_exact (is_pointer e) (Encoding at e)) (λ _.
    then_exact _ _ (by_format_exact (e % 16)) (λ x. give_exact _)))
