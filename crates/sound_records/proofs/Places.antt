-- Places among the bytes: what is left from one on, and lists of them that ascend.
use Rattle.std.proofs.Common.{◌≡◌, ℕ, ◌+◌, ◌-◌, ◌<◌, ◌≤◌, List, [], ◌∷◌, ◌++◌, length, drop, get_or, Bool, sym, ap, ◌∙◌, length-append, arith, inl, inr}
use Rattle.std.specs.Prelude.{slice_range}
use Rattle.std.specs.List.{All}
use Rattle.std.proofs.lemmas.Bool.{cases_lt}
use Rattle.std.proofs.lemmas.List.{drop-drop, length-drop, take_all, get_or_append_left}
use Rattle.std.proofs.Math.Seq.{drop-append_seam, get_or-append_seam}
use Rattle.eh_bytes.specs.CursorData.{CursorData}
use Rattle.frame_parse.specs.Sections.{IsAscending, is_end}
use Rattle.sound_records.specs.Sections.{left_from}

-- ---- what is left

pub all_left : (bytes : List ℕ) (at : ℕ) → slice_range bytes at (length bytes) ≡ drop at bytes
all_left bytes at = take_all (length bytes - at) (drop at bytes) (omega (arith, length-drop at bytes))

-- whether the data ends there
pub end_told : (bytes : List ℕ) (at : ℕ) (b : Bool) → b ≡ is_end (slice_range bytes at (length bytes)) → is_end (drop at bytes) ≡ b
end_told bytes at b told = ap is_end (sym (all_left bytes at)) ∙ sym told

-- a cursor over all bytes from a place on
pub cursor_left : (bytes : List ℕ) (at : ℕ) (r : CursorData) → r.bytes ≡ slice_range bytes at (length bytes) → r.at ≡ at → r ≡ left_from bytes at
cursor_left bytes at r b p =
    ap (λ (l : List ℕ). record { bytes = l; at = r.at }) (b ∙ all_left bytes at) ∙ ap (λ (q : ℕ). record { bytes = drop at bytes; at = q }) p

pub read_from : {A : Type 0} (f : CursorData → A) (bytes : List ℕ) (at : ℕ) (r : CursorData) → r.bytes ≡ slice_range bytes at (length bytes) → r.at ≡ at → f (left_from bytes at) ≡ f r
read_from f bytes at r b p = ap f (sym (cursor_left bytes at r b p))

-- what is left behind a text
pub record Behind (bytes : List ℕ) (b : CursorData) : Type 0 where
  pub left : b ≡ left_from bytes b.at
  pub within : b.at ≤ length bytes

pub behind_text : (bytes front : List ℕ) (at : ℕ) (b : CursorData) → drop at bytes ≡ front ++ b.bytes → b.at ≡ at + length front → at ≤ length bytes → Behind bytes b
behind_text bytes front at b parts place within =
    let rest : drop b.at bytes ≡ b.bytes =
    ap (λ (q : ℕ). drop q bytes) place ∙ sym (drop-drop (length front) at bytes) ∙ ap (λ (l : List ℕ). drop (length front) l) parts ∙ drop-append_seam front b.bytes in
    record {
      left = ap (λ (l : List ℕ). record { bytes = l; at = b.at }) (sym rest);
      within = omega (arith, place, ap length parts, length-append front b.bytes, length-drop at bytes);
    }

-- ---- places that ascend

-- a number at the end that is above all
pub ascends_on : (ns : List ℕ) (n : ℕ) → IsAscending ns → All (λ m. m < n) ns → IsAscending (ns ++ n ∷ [])
ascends_on ns n up low i j lt inside =
    let size = length-append ns (n ∷ []) in
    elim (cases_lt j (length ns)) [
      | inl before ↦
          let first = get_or_append_left ns (n ∷ []) 0 i (omega arith) in
          let second = get_or_append_left ns (n ∷ []) 0 j before in
          let less = up i j lt before in
          omega arith
      | inr last ↦
          let same : j ≡ length ns = omega (arith, size) in
          let first = get_or_append_left ns (n ∷ []) 0 i (omega arith) in
          let second : get_or (ns ++ n ∷ []) j 0 ≡ n = ap (λ (k : ℕ). get_or (ns ++ n ∷ []) k 0) same ∙ get_or-append_seam ns n [] 0 in
          let less = low i 0 (omega arith) in
          omega arith
    ]
