-- CIEs and FDEs, after the LSB on `.eh_frame`, field by field.
use Rattle.std.specs.Prelude.{ℕ, ◌+◌, ◌-◌, ◌^◌, List, [], ◌∷◌, Bool, true, false, Option, Some}
use Rattle.std.specs.Prelude.{None, nat_lt, ◌==◌, ◌||◌, ◌&&◌, not, if◌then◌else◌}
use Rattle.std.specs.List.{list_any}
use Rattle.eh_bytes.specs.PointerEncodings.{DW_EH_PE_absptr, DW_EH_PE_omit}
use Rattle.frame_expr.specs.Registers.{return_address_column}
use Rattle.frame_parse.specs.declared.fault.FrameFault.{FrameFault}
use Rattle.frame_parse.specs.declared.fault.RecordFault.{RecordFault}
use Rattle.frame_parse.specs.declared.fault.RecordFault.TheVariants.{Short, NoCie, Version, Column}
use Rattle.frame_parse.specs.declared.fault.RecordFault.TheVariants.{Range}
use Rattle.frame_parse.specs.declared.fault.RecordFault.TheVariants as faults
use Rattle.frame_parse.specs.declared.fault.FrameFault.TheVariants as frames
use Rattle.frame_parse.specs.declared.records.augmentation.Augmentation.{Augmentation}
use Rattle.frame_parse.specs.declared.records.CieRecord.{CieRecord}
use Rattle.frame_parse.specs.declared.instructions.context.ProgramKind.TheVariants.{Initial, Own}
use Rattle.frame_parse.specs.Entries.{FdeRecord, Record, Cie, Fde}
use Rattle.frame_parse.specs.RecordNumbers.{extended_length, cie_id, cie_version_of_dwarf_2}
use Rattle.frame_parse.specs.RecordNumbers.{cie_version_of_dwarf_3, data_letter, lsda_letter}
use Rattle.frame_parse.specs.RecordNumbers.{personality_letter, code_letter, signal_letter}
use Rattle.eh_bytes.specs.Grammar.{Part, ◌>>=◌, give, here, when, check, found, block, filled, lift}
use Rattle.frame_parse.specs.Programs.{step, context_of, initial_state, first_state}
use Rattle.eh_bytes.specs.Steps.{steps_from}
use Rattle.frame_parse.specs.Fields.{field, is_negative, pointer, optional_pointer}
use Rattle.frame_parse.specs.Fields.{is_code_encoding, is_data_encoding, encoding}
use Rattle.eh_bytes.specs.Pointer.{encoded_number}
use Rattle.eh_bytes.specs.Fields.{fixed, uleb, sleb, text}

-- a fault inside a record, with the place where the record begins
abbrev pub fault_in : ℕ → RecordFault → FrameFault
fault_in start (faults.Short at) = frames.Short start at
fault_in start (faults.TooWide at) = frames.TooWide start at
fault_in start (faults.Encoding at byte) = frames.Encoding start at byte
fault_in start (faults.NoCie at) = frames.NoCie start at
fault_in start (faults.Version at byte) = frames.Version start at byte
fault_in start (faults.Augmentation at) = frames.Augmentation start at
fault_in start (faults.Column at column) = frames.Column start at column
fault_in start (faults.Range at) = frames.Range start at
fault_in start (faults.Opcode at byte) = frames.Opcode start at byte
fault_in start (faults.Location at) = frames.Location start at
fault_in start (faults.Remember at) = frames.Remember start at
fault_in start (faults.Operation at byte) = frames.Operation start at byte
fault_in start (faults.Depth at) = frames.Depth start at
fault_in start (faults.CfaRule at) = frames.CfaRule start at

-- ---- augmentations

-- each letter is L, P, R or S, and none comes twice
abbrev pub is_letter : ℕ → Bool
is_letter l =
    l == lsda_letter || l == personality_letter || l == code_letter || l == signal_letter

abbrev pub is_one_of : ℕ → List ℕ → Bool
is_one_of l ls = list_any (λ k. l == k) ls

abbrev pub are_letters : List ℕ → Bool
are_letters [] = true
are_letters (l ∷ ls) = is_letter l && not (is_one_of l ls) && are_letters ls

-- nothing, or z and letters
abbrev pub is_augmentation : List ℕ → Bool
is_augmentation [] = true
is_augmentation (z ∷ ls) = z == data_letter && are_letters ls

-- what holds where nothing is said
abbrev pub plain : Augmentation
plain = record {
  pointers = DW_EH_PE_absptr;
  lsda = DW_EH_PE_omit;
  personality = None;
  personality_encoding = DW_EH_PE_omit;
  signal = false;
}

-- what a letter says: L the encoding of LSDA pointers, P the personality, R the encoding of code
-- addresses, S that the frame is a signal's
unfoldable pub letter : ℕ → ℕ → Augmentation → Part RecordFault Augmentation
letter section l a =
    when (l == lsda_letter) (encoding is_data_encoding >>= λ e. give (record a { lsda = e }))
    (when (l == personality_letter) (encoding is_data_encoding >>=
    λ e. when (e == DW_EH_PE_omit) (give None) (optional_pointer section e) >>=
    λ q. give (record a { personality = q; personality_encoding = e }))
    (when (l == code_letter) (encoding is_code_encoding >>= λ e. give (record a { pointers = e }))
    (give (record a { signal = true }))))

unfoldable pub letters : ℕ → List ℕ → Augmentation → Part RecordFault Augmentation
letters section [] a = give a
letters section (l ∷ ls) a = letter section l a >>= λ b. letters section ls b

-- the augmentation data of a CIE: with z its length, and what the letters say
unfoldable pub augmentation_data : ℕ → List ℕ → Part RecordFault Augmentation
augmentation_data section [] = give plain
augmentation_data section (z ∷ ls) = do
  n ← field uleb
  at ← here
  block (Short at) n (letters section ls plain)

-- ---- CIEs

abbrev pub has_data : List ℕ → Bool
has_data [] = false
has_data (z ∷ ls) = true

unfoldable pub version : Part RecordFault ℕ
version = do
  at ← here
  v ← field (fixed 1)
  _ ← check (v == cie_version_of_dwarf_2 || v == cie_version_of_dwarf_3) (Version at v)
  give v

unfoldable pub augmentation : Part RecordFault (List ℕ)
augmentation = do
  at ← here
  t ← field text
  _ ← check (is_augmentation t) (faults.Augmentation at)
  give t

unfoldable pub return_column : ℕ → Part RecordFault (Unit {0})
return_column v = do
  at ← here
  c ← when (v == cie_version_of_dwarf_2) (field (fixed 1)) (field uleb)
  check (c == return_address_column) (Column at c)

-- the fields of a CIE after its id; nothing is known of the CFA before its instructions
unfoldable pub cie : ℕ → ℕ → ℕ → Part RecordFault CieRecord
cie section start end = do
  v ← version
  t ← augmentation
  code ← field uleb
  data_ ← field sleb
  _ ← return_column v
  a ← augmentation_data section t
  at ← here
  give (record {
    start = start;
    code_alignment = code;
    data_alignment = data_;
    has_data = has_data t;
    augmentation = a;
    offset = false;
    initial = record { at = at; end = end };
  })

-- ---- FDEs

-- the CIE that begins at a place
abbrev pub cie_from : List CieRecord → ℕ → Option CieRecord
cie_from [] place = None
cie_from (c ∷ cs) place = if c.start == place then Some c else cie_from cs place

-- the earlier CIE to which a distance leads back from a place
abbrev pub cie_after : List CieRecord → ℕ → ℕ → Option CieRecord
cie_after earlier at distance =
    if nat_lt at distance then None else cie_from earlier (at - distance)

-- the range has its encoding's format; with it the last address is below 2 ^ 64
unfoldable pub range : ℕ → ℕ → Part RecordFault ℕ
range e first = do
  at ← here
  x ← field (encoded_number e)
  _ ← check (not (is_negative e x) && nat_lt (first + x) (2 ^ 64)) (Range at)
  give x

-- the augmentation data of an FDE begins with the LSDA pointer, where its CIE has an encoding for
-- it and there is data
unfoldable pub lsda : ℕ → CieRecord → Part RecordFault (Option ℕ)
lsda section c = when c.has_data
    (field uleb >>= λ n. here >>= λ at. block (Short at) n
    (when (c.augmentation.lsda == DW_EH_PE_omit || n == 0) (give None)
    (optional_pointer section c.augmentation.lsda)))
    (give None)

-- the fields of an FDE after its id
unfoldable pub fde : ℕ → ℕ → ℕ → CieRecord → Part RecordFault FdeRecord
fde section start end c = do
  first ← pointer section c.augmentation.pointers
  size ← range c.augmentation.pointers first
  l ← lsda section c
  at ← here
  give (record {
    start = start;
    cie = c;
    first = first;
    range = size;
    lsda = l;
    program = record { at = at; end = end };
  })

-- ---- records

-- One id is a CIE's; any other is the distance back to an FDE's. What is left after the fields are
-- instructions: those of a CIE don't move, those of an FDE start at its first address.
unfoldable pub content : ℕ → List CieRecord → ℕ → ℕ → Part RecordFault Record
content section earlier start end = do
  at ← here
  id ← field (fixed 4)
  when (id == cie_id)
      (cie section start end >>=
      λ c. steps_from (step (context_of section c Initial)) initial_state >>=
      λ s. give (Cie (record c { offset = s.offset })))
      (found (cie_after earlier at id) (NoCie at) >>= λ c. fde section start end c >>=
      λ f. steps_from (step (context_of section c Own)) (first_state c f.first) >>=
      λ s. give (Fde f))

-- the length of a record: four bytes, or eight after the extended mark; where it isn't whole, the
-- record isn't
unfoldable pub record_length : ℕ → Part RecordFault ℕ
record_length start = do
  n ← lift (λ f. Short start) (fixed 4)
  when (n == extended_length) (lift (λ f. Short start) (fixed 8)) (give n)

-- a record that begins at a place: its length, and that many bytes
unfoldable pub record_at : ℕ → List CieRecord → ℕ → Part RecordFault Record
record_at section earlier start = do
  n ← record_length start
  at ← here
  filled (Short start) n (content section earlier start (at + n))

-- a record, whose faults tell where it begins
unfoldable pub whole_record : ℕ → List CieRecord → Part FrameFault Record
whole_record section earlier =
    here >>= λ start. lift (fault_in start) (record_at section earlier start)
