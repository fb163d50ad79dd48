-- The bytes of a generated image's section.
use Rattle.std.specs.Prelude.{ℕ, List, [], ◌∷◌, ◌++◌}

-- the usual CIE of GCC for x86-64
abbrev pub usual_cie : List ℕ
usual_cie =
    20 ∷ 0 ∷ 0 ∷ 0 ∷ 0 ∷ 0 ∷ 0 ∷ 0 ∷ 1 ∷ 122 ∷ 82 ∷ 0 ∷ 1 ∷ 120 ∷ 16 ∷ 1 ∷ 27 ∷ 12 ∷ 7 ∷ 8 ∷ 144 ∷
    1 ∷ 0 ∷ 0 ∷ []

abbrev pub first_fde : List ℕ
first_fde =
    28 ∷ 0 ∷ 0 ∷ 0 ∷ 28 ∷ 0 ∷ 0 ∷ 0 ∷ 224 ∷ 239 ∷ 255 ∷ 255 ∷ 32 ∷ 0 ∷ 0 ∷ 0 ∷ 0 ∷ 65 ∷ 14 ∷ 16 ∷
    134 ∷ 2 ∷ 67 ∷ 13 ∷ 6 ∷ 0 ∷ 0 ∷ 0 ∷ 0 ∷ 0 ∷ 0 ∷ 0 ∷ []

abbrev pub second_fde : List ℕ
second_fde =
    20 ∷ 0 ∷ 0 ∷ 0 ∷ 60 ∷ 0 ∷ 0 ∷ 0 ∷ 224 ∷ 239 ∷ 255 ∷ 255 ∷ 16 ∷ 0 ∷ 0 ∷ 0 ∷ 0 ∷ 0 ∷ 0 ∷ 0 ∷ 0 ∷
    0 ∷ 0 ∷ 0 ∷ []

abbrev pub end_mark : List ℕ
end_mark = 0 ∷ 0 ∷ 0 ∷ 0 ∷ []

abbrev pub generated_section_bytes : List ℕ
generated_section_bytes = usual_cie ++ first_fde ++ second_fde ++ end_mark
