-- The fields, records and their lengths are exact, part by part.
use Rattle.std.proofs.Common.{◌≡◌, ℕ, ◌+◌, ◌^◌, List, [], ◌∷◌, ◌++◌, length, Bool, None, nat_lt, ap, ◌∙◌, length-append}
use Rattle.std.specs.Prelude.{◌==◌, ◌||◌, ◌&&◌, not}
use Rattle.frame_parse.specs.declared.fault.RecordFault.TheVariants.{Short, Encoding, Version, Column, Range}
use Rattle.frame_parse.specs.declared.fault.RecordFault.TheVariants as faults
use Rattle.frame_parse.specs.declared.records.augmentation.Augmentation.{Augmentation}
use Rattle.frame_parse.specs.declared.records.CieRecord.{CieRecord}
use Rattle.frame_parse.specs.Fields.{field_fault, field, is_negative, pointer, optional_pointer, is_code_encoding, is_data_encoding, encoding}
use Rattle.frame_parse.specs.Records.{is_augmentation, plain, letter, letters, augmentation_data, version, augmentation, return_column, cie, range, lsda, fde}
use Rattle.eh_bytes.specs.PointerEncodings.{DW_EH_PE_omit}
use Rattle.frame_parse.specs.RecordNumbers.{cie_version_of_dwarf_2, cie_version_of_dwarf_3}
use Rattle.frame_expr.specs.Registers.{return_address_column}
use Rattle.eh_bytes.specs.declared.fault.ByteFault.{ByteFault}
use Rattle.eh_bytes.specs.Grammar.{Part}
use Rattle.eh_bytes.proofs.Exact.{IsExact, lift_exact, then_exact, give_exact, here_exact, when_exact, check_exact, block_exact}
use Rattle.eh_bytes.proofs.Pointers.{encoded_number_exact}
use Rattle.eh_bytes.proofs.Fields.{fixed_exact, uleb_exact, sleb_exact, text_exact}

pub field_exact : {A : Type 0} (g : Part ByteFault A) → IsExact g → IsExact (field g)
field_exact g eg = lift_exact field_fault g eg

pub pointer_exact : (section e : ℕ) → IsExact (pointer section e)
unfolding pointer
pointer_exact section e = then_exact _ _ here_exact (λ at. then_exact _ _ (field_exact _ (encoded_number_exact e)) (λ x. give_exact _))

pub optional_pointer_exact : (section e : ℕ) → IsExact (optional_pointer section e)
unfolding optional_pointer
optional_pointer_exact section e = then_exact _ _ here_exact (λ at. then_exact _ _ (field_exact _ (encoded_number_exact e)) (λ x. give_exact _))

pub encoding_exact : (accepts : ℕ → Bool) → IsExact (encoding accepts)
unfolding encoding
encoding_exact accepts =
    then_exact _ _ here_exact (λ at.
    then_exact _ _ (field_exact _ (fixed_exact 1)) (λ e.
    then_exact _ _ (check_exact (accepts e) (Encoding at e)) (λ _. give_exact _)))

-- ---- CIEs

letter_exact : (section l : ℕ) (a : Augmentation) → IsExact (letter section l a)
unfolding letter
letter_exact section l a =
    when_exact _ _ _ (then_exact _ _ (encoding_exact is_data_encoding) (λ e. give_exact _))
    (when_exact _ _ _ (then_exact _ _ (encoding_exact is_data_encoding) (λ e. then_exact _ _ (when_exact (e == DW_EH_PE_omit) _ _ (give_exact None) (optional_pointer_exact section e)) (λ q. give_exact _)))
    (when_exact _ _ _ (then_exact _ _ (encoding_exact is_code_encoding) (λ e. give_exact _))
    (give_exact _)))

letters_exact : (section : ℕ) (ls : List ℕ) (a : Augmentation) → IsExact (letters section ls a)
unfolding letters
letters_exact section [] a = give_exact a
letters_exact section (l ∷ ls) a = then_exact _ _ (letter_exact section l a) (λ b. letters_exact section ls b)

augmentation_data_exact : (section : ℕ) (t : List ℕ) → IsExact (augmentation_data section t)
unfolding augmentation_data
augmentation_data_exact section [] = give_exact plain
augmentation_data_exact section (z ∷ ls) =
    then_exact _ _ (field_exact _ uleb_exact) (λ n.
    then_exact _ _ here_exact (λ at.
    block_exact (Short at) n (letters section ls plain) (letters_exact section ls plain)))

version_exact : IsExact version
unfolding version
version_exact =
    then_exact _ _ here_exact (λ at.
    then_exact _ _ (field_exact _ (fixed_exact 1)) (λ v.
    then_exact _ _ (check_exact (v == cie_version_of_dwarf_2 || v == cie_version_of_dwarf_3) (Version at v)) (λ _. give_exact v)))

augmentation_exact : IsExact augmentation
unfolding augmentation
augmentation_exact =
    then_exact _ _ here_exact (λ at.
    then_exact _ _ (field_exact _ text_exact) (λ t.
    then_exact _ _ (check_exact (is_augmentation t) (faults.Augmentation at)) (λ _. give_exact t)))

return_column_exact : (v : ℕ) → IsExact (return_column v)
unfolding return_column
return_column_exact v =
    then_exact _ _ here_exact (λ at.
    then_exact _ _ (when_exact (v == cie_version_of_dwarf_2) _ _ (field_exact _ (fixed_exact 1)) (field_exact _ uleb_exact)) (λ c. check_exact (c == return_address_column) (Column at c)))

pub cie_exact : (section start end : ℕ) → IsExact (cie section start end)
unfolding cie
cie_exact section start end =
    then_exact _ _ (version_exact) (λ v.
    then_exact _ _ (augmentation_exact) (λ t.
    then_exact _ _ (field_exact _ uleb_exact) (λ code.
    then_exact _ _ (field_exact _ sleb_exact) (λ factor.
    then_exact _ _ (return_column_exact v) (λ _.
    then_exact _ _ (augmentation_data_exact section t) (λ a.
    then_exact _ _ here_exact (λ at. give_exact _)))))))

-- ---- FDEs

range_exact : (e first : ℕ) → IsExact (range e first)
unfolding range
range_exact e first =
    then_exact _ _ here_exact (λ at.
    then_exact _ _ (field_exact _ (encoded_number_exact e)) (λ x.
    then_exact _ _ (check_exact (not (is_negative e x) && nat_lt (first + x) (2 ^ 64)) (Range at)) (λ _. give_exact x)))

lsda_exact : (section : ℕ) (c : CieRecord) → IsExact (lsda section c)
unfolding lsda
lsda_exact section c =
    when_exact c.has_data _ _
    (then_exact _ _ (field_exact _ uleb_exact) (λ n.
    then_exact _ _ here_exact (λ at.
    block_exact (Short at) n _ (when_exact (c.augmentation.lsda == DW_EH_PE_omit || n == 0) _ _ (give_exact None) (optional_pointer_exact section c.augmentation.lsda)))))
    (give_exact None)

pub fde_exact : (section start end : ℕ) (c : CieRecord) → IsExact (fde section start end c)
unfolding fde
fde_exact section start end c =
    then_exact _ _ (pointer_exact section c.augmentation.pointers) (λ first.
    then_exact _ _ (range_exact c.augmentation.pointers first) (λ size.
    then_exact _ _ (lsda_exact section c) (λ l.
    then_exact _ _ here_exact (λ at. give_exact _))))

-- a text that is a part and what stands behind it
pub parts_length : (text front back : List ℕ) → text ≡ front ++ back → length text ≡ length front + length back
parts_length text front back parts = ap length parts ∙ length-append front back
