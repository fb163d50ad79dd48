-- The header and a call site are exact, part by part.
use Rattle.std.proofs.Common.{ℕ, ◌≤◌, List, [], ◌∷◌, length, arith}
use Rattle.std.specs.Prelude.{◌==◌}
use Rattle.eh_bytes.specs.declared.fault.ByteFault.{ByteFault}
use Rattle.eh_bytes.specs.PointerEncodings.{DW_EH_PE_omit}
use Rattle.eh_bytes.specs.Leb.{IsLeb, leb_len}
use Rattle.eh_bytes.specs.Pointer.{encoded_number}
use Rattle.eh_bytes.specs.Grammar.{Part}
use Rattle.eh_bytes.proofs.Exact.{IsExact, then_exact, give_exact, here_exact, when_exact, check_exact, lift_exact}
use Rattle.eh_bytes.proofs.Fields.{fixed_exact, uleb_exact}
use Rattle.eh_bytes.proofs.Pointers.{encoded_number_exact, encoded_pointer_exact}
use Rattle.raise_phases.specs.declared.call_sites.CallSite.{CallSite}
use Rattle.raise_phases.specs.declared.call_sites.Encoded.{Encoded}
use Rattle.raise_phases.specs.declared.call_sites.Encoded.TheVariants as encoded
use Rattle.raise_phases.specs.declared.fault.LsdaFault.TheVariants.{Encoding}
use Rattle.raise_phases.specs.CallSites.{lsda_fault, lsda_field, is_encoding_of, accepted_encoding, pad_start, type_table, types_told, table_header, call_site}
use Rattle.frame_parse.proofs.OneAnswer.{grows, behind}

field_exact : {A : Type 0} (g : Part ByteFault A) → IsExact g → IsExact (lsda_field g)
field_exact g e = lift_exact lsda_fault g e

number_exact : (e : ℕ) → IsExact (lsda_field (encoded_number e))
number_exact e = field_exact (encoded_number e) (encoded_number_exact e)

accepted_exact : (field : Encoded) → IsExact (accepted_encoding field)
unfolding accepted_encoding
accepted_exact field =
    then_exact _ _ here_exact (λ at.
    then_exact _ _ (field_exact _ (fixed_exact 1)) (λ e.
    then_exact _ _ (check_exact (is_encoding_of field e) (Encoding at e)) (λ _. give_exact e)))

pad_start_exact : (first address : ℕ) → IsExact (pad_start first address)
unfolding pad_start
pad_start_exact first address =
    then_exact _ _ (accepted_exact encoded.Pads) (λ e.
    when_exact (e == DW_EH_PE_omit) _ _ (give_exact first) (field_exact _ (encoded_pointer_exact e address)))

type_table_exact : (e : ℕ) → IsExact (type_table e)
unfolding type_table
type_table_exact e =
    then_exact _ _ (field_exact _ uleb_exact) (λ n.
    then_exact _ _ here_exact (λ at. give_exact _))

types_exact : IsExact types_told
unfolding types_told
types_exact =
    then_exact _ _ (accepted_exact encoded.Types) (λ e.
    when_exact (e == DW_EH_PE_omit) _ _ (give_exact _) (type_table_exact e))

pub table_header_exact : (first address : ℕ) → IsExact (table_header first address)
unfolding table_header
table_header_exact first address =
    then_exact _ _ (pad_start_exact first address) (λ start.
    then_exact _ _ types_exact (λ types.
    then_exact _ _ (accepted_exact encoded.Sites) (λ e.
    then_exact _ _ (field_exact _ uleb_exact) (λ n. give_exact _))))

pub call_site_exact : (e : ℕ) → IsExact (call_site e)
unfolding call_site
call_site_exact e =
    then_exact _ _ (number_exact e) (λ start.
    then_exact _ _ (number_exact e) (λ size.
    then_exact _ _ (number_exact e) (λ pad.
    then_exact _ _ here_exact (λ at.
    then_exact _ _ (field_exact _ uleb_exact) (λ action. give_exact _)))))

-- ---- a call site has a byte at least, that of its action

leb_some : (text : List ℕ) → IsLeb text → 1 ≤ length text
unfolding leb_len
leb_some [] e = absurd cc
leb_some (b ∷ bs) e = omega arith

pub site_grows : (e p : ℕ) (text : List ℕ) (s : CallSite) → (call_site e).Spells p text s → 1 ≤ length text
unfolding call_site
site_grows e p text s t =
    let action = t.5.5.5.5 in
    let own = grows _ action.1 action.2 action.3 in
    let placed = behind _ t.5.5.5.1 t.5.5.5.2 t.5.5.5.3 in
    let pad = behind _ t.5.5.1 t.5.5.2 t.5.5.3 in
    let size = behind _ t.5.1 t.5.2 t.5.3 in
    let start = behind text t.1 t.2 t.3 in
    omega (arith, leb_some action.1 action.4.0, own, placed, pad, size, start)
