-- A record that was read at a place: what a cursor there has left, and that its programs stand in the bytes.
use Rattle.std.proofs.Common.{◌≡◌, ℕ, suc, zero, ◌-◌, ◌<◌, ◌≤◌, List, [], ◌∷◌, ◌++◌, length, take, drop, get_or, Result, Ok, Err, refl, sym, ap, ◌∙◌, arith}
use Rattle.std.specs.Prelude.{slice_range}
use Rattle.std.specs.List.{All}
use Rattle.std.proofs.lemmas.List.{take-append-drop, take_all, length-take, length-drop}
use Rattle.std.proofs.lemmas.List.Elements.{All-nil, All-cons}
use Rattle.eh_bytes.specs.CursorData.{CursorData}
use Rattle.frame_parse.specs.declared.fault.FrameFault.{FrameFault}
use Rattle.frame_parse.specs.declared.fault.FrameFault.TheVariants.{Short, NoCie}
use Rattle.frame_parse.specs.declared.records.CieRecord.{CieRecord}
use Rattle.frame_parse.specs.declared.records.FdeEntry.{FdeEntry}
use Rattle.frame_parse.specs.Entries.{Record, Cie, Fde, FdeRecord, fde_among, with_cie, no_cie}
use Rattle.frame_parse.specs.Keeping.{CieKept, RecordKept}
use Rattle.frame_parse.specs.Records.{record_length, record_at, whole_record}
use Rattle.frame_parse.proofs.Kept.{record_kept}
use Rattle.frame_parse.proofs.Places.{record_stands}
use Rattle.fde_row.specs.Reading.{from_place, cie_at, fde_by}

-- a cursor over all bytes from a place on
from_is : (bytes : List ℕ) (at : ℕ) (r : CursorData) → r.bytes ≡ slice_range bytes at (length bytes) → r.at ≡ at → from_place bytes at ≡ r
from_is bytes at r b p =
    let all : slice_range bytes at (length bytes) ≡ drop at bytes = take_all (length bytes - at) (drop at bytes) (omega (arith, length-drop at bytes)) in
    sym (ap (λ (l : List ℕ). record { bytes = l; at = r.at }) (b ∙ all) ∙ ap (λ (q : ℕ). record { bytes = drop at bytes; at = q }) p)

pub read_from : (section : ℕ) (cs : List CieRecord) (bytes : List ℕ) (at : ℕ) (r : CursorData) (x : Result (Record × CursorData) FrameFault) → r.bytes ≡ slice_range bytes at (length bytes) → r.at ≡ at → (whole_record section cs).read r ≡ x
    → (whole_record section cs).read (from_place bytes at) ≡ x
read_from section cs bytes at r x b p e = ap (λ (c : CursorData). (whole_record section cs).read c) (from_is bytes at r b p) ∙ e

-- ---- past the end

none_left : (n : ℕ) (xs : List ℕ) → length xs ≤ n → drop n xs ≡ []
none_left zero [] le = refl
none_left (suc n) [] le = refl
none_left zero (x ∷ xs) le = absurd (omega (arith, le))
none_left (suc n) (x ∷ xs) le = none_left n xs (omega (arith, le))

short_at : (section : ℕ) (cs : List CieRecord) (at : ℕ) → (whole_record section cs).read (record { bytes = []; at = at }) ≡ Err (Short at at)
unfolding whole_record record_at record_length
short_at section cs at = refl

pub short_from : (section : ℕ) (cs : List CieRecord) (bytes : List ℕ) (at : ℕ) → length bytes < at → (whole_record section cs).read (from_place bytes at) ≡ Err (Short at at)
short_from section cs bytes at lt = ap (λ (l : List ℕ). (whole_record section cs).read (record { bytes = l; at = at })) (none_left at bytes (omega (arith, lt))) ∙ short_at section cs at

-- ---- the two answers

pub cie_read : (section : ℕ) (bytes : List ℕ) (at : ℕ) (c : CieRecord) (behind : CursorData) → (whole_record section []).read (from_place bytes at) ≡ Ok (Cie c, behind) → cie_at section bytes at ≡ Ok c
unfolding cie_at
cie_read section bytes at c behind e = rw e refl

pub cie_is_fde : (section : ℕ) (bytes : List ℕ) (at : ℕ) (f : FdeRecord) (behind : CursorData) → (whole_record section []).read (from_place bytes at) ≡ Ok (Fde f, behind) → cie_at section bytes at ≡ Err (NoCie at at)
unfolding cie_at
cie_is_fde section bytes at f behind e = rw e refl

pub cie_refused : (section : ℕ) (bytes : List ℕ) (at : ℕ) (f : FrameFault) → (whole_record section []).read (from_place bytes at) ≡ Err f → cie_at section bytes at ≡ Err f
unfolding cie_at
cie_refused section bytes at f e = rw e refl

pub cie_short : (section : ℕ) (bytes : List ℕ) (at : ℕ) → length bytes < at → cie_at section bytes at ≡ Err (Short at at)
cie_short section bytes at lt = cie_refused section bytes at (Short at at) (short_from section [] bytes at lt)

pub fde_read : (section : ℕ) (bytes : List ℕ) (c : CieRecord) (at : ℕ) (f : FdeRecord) (behind : CursorData) → (whole_record section (c ∷ [])).read (from_place bytes at) ≡ Ok (Fde f, behind) → fde_by section bytes c at ≡ Ok f
unfolding fde_by
fde_read section bytes c at f behind e = rw e refl

pub fde_is_cie : (section : ℕ) (bytes : List ℕ) (c : CieRecord) (at : ℕ) (d : CieRecord) (behind : CursorData) → (whole_record section (c ∷ [])).read (from_place bytes at) ≡ Ok (Cie d, behind) → fde_by section bytes c at ≡ Err (NoCie at at)
unfolding fde_by
fde_is_cie section bytes c at d behind e = rw e refl

pub fde_refused : (section : ℕ) (bytes : List ℕ) (c : CieRecord) (at : ℕ) (f : FrameFault) → (whole_record section (c ∷ [])).read (from_place bytes at) ≡ Err f → fde_by section bytes c at ≡ Err f
unfolding fde_by
fde_refused section bytes c at f e = rw e refl

pub fde_short : (section : ℕ) (bytes : List ℕ) (c : CieRecord) (at : ℕ) → length bytes < at → fde_by section bytes c at ≡ Err (Short at at)
fde_short section bytes c at lt = fde_refused section bytes c at (Short at at) (short_from section (c ∷ []) bytes at lt)

-- the one CIE is the FDE's
pub one_cie : (c : CieRecord) (f : FdeEntry) → f.cie < 1 → fde_among (c ∷ []) f ≡ with_cie c f
one_cie c f lt =
    let first : f.cie ≡ 0 = omega (arith, lt) in
    ap (λ (n : ℕ). with_cie (get_or (c ∷ []) n no_cie) f) first

-- ---- what stands in the bytes

pub kept_at : (section : ℕ) (cs : List CieRecord) (bytes : List ℕ) (at : ℕ) (r : Record) (behind : CursorData) → at ≤ length bytes → All (CieKept section bytes) cs
    → (whole_record section cs).read (from_place bytes at) ≡ Ok (r, behind) → RecordKept section bytes r
kept_at section cs bytes at r behind within all e =
    let t = record_stands section cs (from_place bytes at) r behind e in
    let whole : bytes ≡ take at bytes ++ (t.front ++ behind.bytes) = sym (take-append-drop at bytes) ∙ ap (λ (l : List ℕ). take at bytes ++ l) t.parts in
    let place : at ≡ length (take at bytes) = omega (arith, length-take at bytes, within) in
    record_kept section at cs bytes (take at bytes) t.front behind.bytes r whole place all t.spelled

pub no_cies : (section : ℕ) (bytes : List ℕ) → All (CieKept section bytes) []
no_cies section bytes = All-nil (CieKept section bytes)

pub one_kept : (section : ℕ) (bytes : List ℕ) (c : CieRecord) → CieKept section bytes c → All (CieKept section bytes) (c ∷ [])
one_kept section bytes c kept = All-cons (CieKept section bytes) c [] kept (All-nil (CieKept section bytes))
