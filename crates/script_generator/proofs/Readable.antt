-- The bytes of a generated section are one.
use Rattle.std.proofs.Common.{◌≡◌, ◌∙◌, ℕ, ◌+◌, ◌%◌, ◌^◌, ◌<◌, List, [], ◌∷◌, ◌++◌, lt-ltb, Ok, Err, true, false, None, negsuc, refl, sym, ap, arith, nat_lt}
use Rattle.std.specs.Prelude.{is_ok, slice_index}
use Rattle.std.proofs.lemmas.Bool.{true≢false}
use Rattle.frame_parse.specs.declared.fault.FrameFault.{FrameFault}
use Rattle.script_generator.proofs.Runnable.{is_bytes}
use Rattle.std.proofs.Math.Nat.{add-mod_left, mod-eq_of_lt}
use Rattle.frame_parse.specs.declared.instructions.context.Context.{Context}
use Rattle.frame_parse.specs.declared.instructions.context.ProgramKind.TheVariants.{Own}
use Rattle.frame_parse.specs.declared.program_state.ProgramState.{ProgramState}
use Rattle.frame_parse.specs.Reading.{section_of, read_all}
use Rattle.eh_bytes.specs.CursorData.{CursorData, text_len, text_of}
use Rattle.eh_bytes.specs.Leb.{leb_len, uleb_value, sleb_value, uleb_of, sleb_of}
use Rattle.eh_bytes.specs.Pointer.{encoded_number}
use Rattle.eh_bytes.specs.Steps.{run}
use Rattle.frame_parse.specs.declared.records.CieRecord.{CieRecord}
use Rattle.frame_parse.specs.Entries.{FdeRecord, Cie, Fde}
use Rattle.frame_parse.specs.Records.{letter, letters, augmentation_data, version, augmentation, return_column, cie, fde, range, lsda, content, record_length, record_at, whole_record}
use Rattle.frame_parse.specs.Fields.{pointer, encoding}
use Rattle.frame_parse.specs.Programs.{cfa_column, operation, extended_operation, step}
use Rattle.script_generator.specs.SectionBytes.{first_fde, second_fde, end_mark, generated_section_bytes}

abbrev the_cie : CieRecord
the_cie = record {
  start = 0;
  code_alignment = 1;
  data_alignment = negsuc 7;
  has_data = true;
  augmentation = record { pointers = 27; lsda = 255; personality = None; personality_encoding = 255; signal = false };
  offset = true;
  initial = record { at = 17; end = 24 };
}

abbrev cursor : List ℕ → ℕ → CursorData
cursor bytes at = record { bytes = bytes; at = at }

cie_read : (address : ℕ) → (whole_record address []).read (cursor generated_section_bytes 0) ≡ Ok (Cie the_cie, cursor (first_fde ++ second_fde ++ end_mark) 24)
unfolding whole_record record_at record_length content cie version augmentation text_len text_of leb_len uleb_value sleb_value uleb_of sleb_of return_column augmentation_data letters letter encoding run step operation extended_operation cfa_column
cie_read address = refl

-- the FDEs of an image
abbrev FIRST : ℕ → FdeRecord
FIRST base = record {
  start = 24;
  cie = the_cie;
  first = base;
  range = 32;
  lsda = None;
  program = record { at = 41; end = 56 };
}

abbrev SECOND : ℕ → FdeRecord
SECOND base = record {
  start = 56;
  cie = the_cie;
  first = base + 32;
  range = 16;
  lsda = None;
  program = record { at = 73; end = 80 };
}

below : (n : ℕ) → n < 2 ^ 36 → nat_lt n (2 ^ 64) ≡ true
below n small = lt-ltb n (2 ^ 64) (omega (arith, small))

-- the number of a pointer, and the address of its field, lead to what the FDE is for
lands : (size rest : ℕ) → rest < size → (size + rest) % size ≡ rest
lands size rest small = add-mod_left size rest ∙ mod-eq_of_lt small

first_at : (base : ℕ) → base < 2 ^ 35 → (18446744073709547488 + (base + 4096 + 32)) % 2 ^ 64 ≡ base
first_at base small = ap (λ n. n % 2 ^ 64) (let e : 18446744073709547488 + (base + 4096 + 32) ≡ 2 ^ 64 + base = omega arith in e) ∙ lands (2 ^ 64) base (omega (arith, small))

second_at : (base : ℕ) → base < 2 ^ 35 → (18446744073709547488 + (base + 4096 + 64)) % 2 ^ 64 ≡ base + 32
second_at base small = ap (λ n. n % 2 ^ 64) (let e : 18446744073709547488 + (base + 4096 + 64) ≡ 2 ^ 64 + (base + 32) = omega arith in e) ∙ lands (2 ^ 64) (base + 32) (omega (arith, small))

abbrev own : ℕ → Context
own base = record { section = base + 4096; code_alignment = 1; data_alignment = negsuc 7; pointers = 27; kind = Own }

abbrev state : ℕ → ProgramState
state location = record { location = location; offset = true; remembered = [] }

one_step : (base : ℕ) → base < 2 ^ 35 → run 15 (step (own base)) (state base) (cursor (65 ∷ 14 ∷ 16 ∷ 134 ∷ 2 ∷ 67 ∷ 13 ∷ 6 ∷ 0 ∷ 0 ∷ 0 ∷ 0 ∷ 0 ∷ 0 ∷ 0 ∷ []) 41)
    ≡ run 14 (step (own base)) (state (base + 1)) (cursor (14 ∷ 16 ∷ 134 ∷ 2 ∷ 67 ∷ 13 ∷ 6 ∷ 0 ∷ 0 ∷ 0 ∷ 0 ∷ 0 ∷ 0 ∷ 0 ∷ []) 42)
unfolding run step operation
one_step base small = rw (below (base + 1) (omega (arith, small))) refl

two_steps : (base : ℕ) → run 14 (step (own base)) (state (base + 1)) (cursor (14 ∷ 16 ∷ 134 ∷ 2 ∷ 67 ∷ 13 ∷ 6 ∷ 0 ∷ 0 ∷ 0 ∷ 0 ∷ 0 ∷ 0 ∷ 0 ∷ []) 42)
    ≡ run 12 (step (own base)) (state (base + 1)) (cursor (67 ∷ 13 ∷ 6 ∷ 0 ∷ 0 ∷ 0 ∷ 0 ∷ 0 ∷ 0 ∷ 0 ∷ []) 46)
unfolding run step operation extended_operation cfa_column leb_len uleb_value uleb_of
two_steps base = refl

three_steps : (base : ℕ) → base < 2 ^ 35 → run 12 (step (own base)) (state (base + 1)) (cursor (67 ∷ 13 ∷ 6 ∷ 0 ∷ 0 ∷ 0 ∷ 0 ∷ 0 ∷ 0 ∷ 0 ∷ []) 46)
    ≡ run 11 (step (own base)) (state (base + 1 + 3)) (cursor (13 ∷ 6 ∷ 0 ∷ 0 ∷ 0 ∷ 0 ∷ 0 ∷ 0 ∷ 0 ∷ []) 47)
unfolding run step operation
three_steps base small = rw (below (base + 1 + 3) (omega (arith, small))) refl

last_steps : (base : ℕ) → run 11 (step (own base)) (state (base + 1 + 3)) (cursor (13 ∷ 6 ∷ 0 ∷ 0 ∷ 0 ∷ 0 ∷ 0 ∷ 0 ∷ 0 ∷ []) 47) ≡ Ok (state (base + 1 + 3), cursor [] 56)
unfolding run step operation extended_operation cfa_column leb_len uleb_value uleb_of
last_steps base = refl

first_program : (base : ℕ) → base < 2 ^ 35 → run 15 (step (own base)) (state base) (cursor (65 ∷ 14 ∷ 16 ∷ 134 ∷ 2 ∷ 67 ∷ 13 ∷ 6 ∷ 0 ∷ 0 ∷ 0 ∷ 0 ∷ 0 ∷ 0 ∷ 0 ∷ []) 41) ≡ Ok (state (base + 1 + 3), cursor [] 56)
first_program base small = one_step base small ∙ two_steps base ∙ three_steps base small ∙ last_steps base

first_read : (base : ℕ) → base < 2 ^ 35 → (whole_record (base + 4096) (the_cie ∷ [])).read (cursor (first_fde ++ second_fde ++ end_mark) 24) ≡ Ok (Fde (FIRST base), cursor (second_fde ++ end_mark) 56)
unfolding whole_record record_at record_length content fde pointer encoded_number range lsda leb_len uleb_value uleb_of
first_read base small = rw (first_at base small, below (base + 32) (omega (arith, small)), first_program base small) refl

second_program : (base : ℕ) → run 7 (step (own base)) (state (base + 32)) (cursor (0 ∷ 0 ∷ 0 ∷ 0 ∷ 0 ∷ 0 ∷ 0 ∷ []) 73) ≡ Ok (state (base + 32), cursor [] 80)
unfolding run step operation extended_operation
second_program base = refl

second_read : (base : ℕ) → base < 2 ^ 35 → (whole_record (base + 4096) (the_cie ∷ [])).read (cursor (second_fde ++ end_mark) 56) ≡ Ok (Fde (SECOND base), cursor end_mark 80)
unfolding whole_record record_at record_length content fde pointer encoded_number range lsda leb_len uleb_value uleb_of
second_read base small = rw (second_at base small, below (base + 32 + 16) (omega (arith, small)), second_program base) refl

section_read : (base : ℕ) → base < 2 ^ 35 → section_of (base + 4096) generated_section_bytes ≡ Ok (record { address = base + 4096; bytes = generated_section_bytes; fdes = FIRST base ∷ SECOND base ∷ [] })
unfolding section_of read_all
section_read base small = rw (cie_read (base + 4096), first_read base small, second_read base small) refl

-- no fault stands in them
pub never_refused : (base : ℕ) (f : FrameFault) → base < 2 ^ 35 → section_of (base + 4096) generated_section_bytes ≡ Err f → ⊥
never_refused base f small refused = differs (sym (section_read base small) ∙ refused)
  where
    differs : {X : Type 0} {x : X} → Ok x ≡ Err f → ⊥
    differs e = true≢false (ap is_ok e)

pub bytes_are : (i : ℕ) → slice_index generated_section_bytes i < 256
bytes_are = is_bytes generated_section_bytes refl
