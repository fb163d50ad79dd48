-- The rows of CIEs, as they are made.
use Rattle.std.proofs.Common.{◌≡◌, ℕ, ◌<◌, List, [], ◌∷◌, ◌++◌, length, get_or, Option, Some, None, Bool, true, false, nat_eq, refl, sym, ap, subst, ◌∙◌}
use Rattle.std.specs.Prelude.{All, ℤ, ◌&&◌}
use mathlib.Core.Bool.{beq}
use Rattle.std.specs.Option.{option_eq}
use Rattle.std.specs.Ordering.{int_eq}
use Rattle.std.proofs.lemmas.Bool.{and_parts, eqb-true}
use Rattle.std.proofs.lemmas.Bool.Decides.{Decides-int_eq}
use Rattle.std.proofs.lemmas.List.Elements.{All-push}
use Rattle.frame_parse.specs.declared.records.augmentation.Augmentation.{Augmentation}
use Rattle.frame_parse.specs.declared.records.Extent.{Extent}
use Rattle.frame_parse.specs.declared.records.CieRecord.{CieRecord}
use Rattle.frame_parse.specs.Sections.{FdeData, SectionData}
use Rattle.frame_parse.specs.Steps.{HaveOneCie}
use Rattle.frame_rows.specs.declared.placed_row.PlacedRow.{PlacedRow}
use Rattle.frame_rows.specs.Rows.{IsInitialRow}
use Rattle.row_table.specs.declared.cie_rows.CieRow.{CieRow}
use Rattle.row_table.specs.Initials.{IsFdeIn, IsCieRow, no_cie_row}

-- FDEs with one CIE have one initial row
abbrev pub OneInitialRow : Type 0
OneInitialRow = (f g : FdeData) (row : PlacedRow) → HaveOneCie f g → IsInitialRow f row → IsInitialRow g row

abbrev cie_row : CieRecord → PlacedRow → CieRow
cie_row cie row = record { cie = cie; row = row }

pub one_more_cie : OneInitialRow → (s : SectionData) (f : FdeData) (rows : List CieRow) (cie : CieRecord) (row : PlacedRow) → IsFdeIn s f → cie ≡ f.entry.cie → IsInitialRow f row → All (IsCieRow s) rows → All (IsCieRow s) (rows ++ cie_row cie row ∷ [])
one_more_cie law s f rows cie row inside is made all =
    All-push (IsCieRow s) rows (cie_row cie row) all
    (λ g within same. law f g row (record { section = inside.0 ∙ sym within.0; bytes = inside.1 ∙ sym within.1; cie = sym is ∙ sym same }) made)

pub initial_of : (s : SectionData) (f : FdeData) (rows : List CieRow) (n : ℕ) (base : PlacedRow) → IsFdeIn s f → All (IsCieRow s) rows → n < length rows → (get_or rows n no_cie_row).cie ≡ f.entry.cie → base ≡ (get_or rows n no_cie_row).row → IsInitialRow f base
initial_of s f rows n base inside all lt same is = subst (λ (k : PlacedRow). IsInitialRow f k) (sym is) (all n no_cie_row lt f inside (sym same))

-- ---- CIEs are compared field by field

same_bool : (x y : Bool) → beq x y ≡ true → x ≡ y
same_bool true true is = refl
same_bool true false is = absurd (let no : false ≡ true = is in cc)
same_bool false true is = absurd (let no : false ≡ true = is in cc)
same_bool false false is = refl

same_option : (x y : Option ℕ) → option_eq nat_eq x y ≡ true → x ≡ y
same_option None None is = refl
same_option None (Some n) is = absurd (let no : false ≡ true = is in cc)
same_option (Some m) None is = absurd (let no : false ≡ true = is in cc)
same_option (Some m) (Some n) is = ap (λ (k : ℕ). Some k) (eqb-true m n is)

abbrev same_augmentation_test : Augmentation → Augmentation → Bool
same_augmentation_test a b = nat_eq a.pointers b.pointers && (nat_eq a.lsda b.lsda && (option_eq nat_eq a.personality b.personality && (nat_eq a.personality_encoding b.personality_encoding && beq a.signal b.signal)))

abbrev augmentation : ℕ → ℕ → Option ℕ → ℕ → Bool → Augmentation
augmentation p l r e s = record { pointers = p; lsda = l; personality = r; personality_encoding = e; signal = s }

same_augmentation : (a b : Augmentation) → same_augmentation_test a b ≡ true → a ≡ b
same_augmentation a b is =
    let one = and_parts _ _ is in
    let two = and_parts _ _ one.1 in
    let three = and_parts _ _ two.1 in
    let four = and_parts _ _ three.1 in
    ap (λ (k : ℕ). augmentation k a.lsda a.personality a.personality_encoding a.signal) (eqb-true _ _ one.0)
    ∙ ap (λ (k : ℕ). augmentation b.pointers k a.personality a.personality_encoding a.signal) (eqb-true _ _ two.0)
    ∙ ap (λ (k : Option ℕ). augmentation b.pointers b.lsda k a.personality_encoding a.signal) (same_option a.personality b.personality three.0)
    ∙ ap (λ (k : ℕ). augmentation b.pointers b.lsda b.personality k a.signal) (eqb-true _ _ four.0)
    ∙ ap (λ (k : Bool). augmentation b.pointers b.lsda b.personality b.personality_encoding k) (same_bool a.signal b.signal four.1)

abbrev same_extent_test : Extent → Extent → Bool
same_extent_test a b = nat_eq a.at b.at && nat_eq a.end b.end

abbrev extent : ℕ → ℕ → Extent
extent at end = record { at = at; end = end }

same_extent : (a b : Extent) → same_extent_test a b ≡ true → a ≡ b
same_extent a b is =
    let one = and_parts _ _ is in
    ap (λ (k : ℕ). extent k a.end) (eqb-true _ _ one.0) ∙ ap (λ (k : ℕ). extent b.at k) (eqb-true _ _ one.1)

abbrev cie : ℕ → ℕ → ℤ → Bool → Augmentation → Bool → Extent → CieRecord
cie s c d h g o i = record { start = s; code_alignment = c; data_alignment = d; has_data = h; augmentation = g; offset = o; initial = i }

abbrev pub same_cie_test : CieRecord → CieRecord → Bool
same_cie_test a b =
    nat_eq a.start b.start
    && (nat_eq a.code_alignment b.code_alignment
    && (int_eq a.data_alignment b.data_alignment
    && (beq a.has_data b.has_data
    && (same_augmentation_test a.augmentation b.augmentation
    && (beq a.offset b.offset
    && same_extent_test a.initial b.initial)))))

pub same_cie : (a b : CieRecord) → same_cie_test a b ≡ true → a ≡ b
same_cie a b is =
    let one = and_parts _ _ is in
    let two = and_parts _ _ one.1 in
    let three = and_parts _ _ two.1 in
    let four = and_parts _ _ three.1 in
    let five = and_parts _ _ four.1 in
    let six = and_parts _ _ five.1 in
    ap (λ (k : ℕ). cie k a.code_alignment a.data_alignment a.has_data a.augmentation a.offset a.initial) (eqb-true _ _ one.0)
    ∙ ap (λ (k : ℕ). cie b.start k a.data_alignment a.has_data a.augmentation a.offset a.initial) (eqb-true _ _ two.0)
    ∙ ap (λ (k : ℤ). cie b.start b.code_alignment k a.has_data a.augmentation a.offset a.initial) ((Decides-int_eq a.data_alignment b.data_alignment).0 three.0)
    ∙ ap (λ (k : Bool). cie b.start b.code_alignment b.data_alignment k a.augmentation a.offset a.initial) (same_bool a.has_data b.has_data four.0)
    ∙ ap (λ (k : Augmentation). cie b.start b.code_alignment b.data_alignment b.has_data k a.offset a.initial) (same_augmentation a.augmentation b.augmentation five.0)
    ∙ ap (λ (k : Bool). cie b.start b.code_alignment b.data_alignment b.has_data b.augmentation k a.initial) (same_bool a.offset b.offset six.0)
    ∙ ap (λ (k : Extent). cie b.start b.code_alignment b.data_alignment b.has_data b.augmentation b.offset k) (same_extent a.initial b.initial six.1)
