-- Items one after another: the first, and those behind it.
use Rattle.std.proofs.Common.{◌≡◌, ℕ, zero, suc, ◌<◌, ◌≤◌, length-append, List, [], ◌∷◌, length, true, false, Result, Ok, Err, refl, sym, ap, ◌∙◌, arith}
use Rattle.std.specs.Prelude.{slice_range}
use Rattle.std.proofs.Math.Seq.{drop-length}
use Rattle.eh_bytes.specs.CursorData.{CursorData}
use Rattle.eh_bytes.specs.Grammar.{give}
use Rattle.eh_bytes.proofs.Exact.{IsExact, then_exact, give_exact, block_exact}
use Rattle.frame_parse.specs.declared.fault.FrameFault.{FrameFault}
use Rattle.frame_parse.specs.declared.fault.RecordFault.{RecordFault}
use Rattle.frame_parse.specs.declared.fault.RecordFault.TheVariants.{Short}
use Rattle.frame_parse.specs.declared.records.CieRecord.{CieRecord}
use Rattle.frame_parse.specs.Entries.{Record}
use Rattle.frame_parse.specs.Records.{whole_record}
use Rattle.frame_parse.specs.Sections.{is_end, with_record}
use Rattle.frame_parse.proofs.RecordWholes.{record_length_exact}
use Rattle.sound_records.specs.declared.refused.RefusedRecord.{RefusedRecord}
use Rattle.sound_records.specs.Items.{Item, Sound, Refused, by_result, extent, claimed, items_from}
use Rattle.sound_records.specs.Sections.{left_from, left_behind}
use Rattle.sound_records.proofs.Places.{cursor_left, behind_text}

pub extent_exact : (p : ℕ) → IsExact (extent p)
unfolding extent
extent_exact p = then_exact _ _ (record_length_exact p) (λ n. block_exact (Short p) n (give tt) (give_exact tt))

-- what is left behind a refused record that is whole, and behind one that isn't
pub record LeftBehind (bytes : List ℕ) (at next : ℕ) : Type 0 where
  pub left : left_from bytes next ≡ left_behind bytes (left_from bytes at)
  pub within : next ≤ length bytes
  pub moves : at < next

pub behind_whole : (bytes : List ℕ) (at : ℕ) (old new : CursorData) → old.bytes ≡ slice_range bytes at (length bytes) → old.at ≡ at → at ≤ length bytes → (extent at).read old ≡ Ok (tt, new)
    → length new.bytes < length old.bytes → LeftBehind bytes at new.at
behind_whole bytes at old new b p within e moves =
    let start = cursor_left bytes at old b p in
    let read : (extent at).read (left_from bytes at) ≡ Ok (tt, new) = ap (λ (r : CursorData). (extent at).read r) (sym start) ∙ e in
    let t = (extent_exact at).takes (left_from bytes at) tt new read in
    let behind = behind_text bytes t.front at new t.parts t.place within in
    let given : Result (Unit {0} × CursorData) RecordFault → CursorData = λ m. by_result m (λ x. x.1) (λ _. left_from bytes (length bytes)) in
    record {
      left = sym (ap given read ∙ behind.left);
      within = behind.within;
      moves = omega (arith, t.place, ap length t.parts, length-append t.front new.bytes, ap (λ (r : CursorData). length r.bytes) start, moves);
    }

pub behind_part : (bytes : List ℕ) (at : ℕ) (old : CursorData) (f : RecordFault) → old.bytes ≡ slice_range bytes at (length bytes) → old.at ≡ at → at < length bytes → (extent at).read old ≡ Err f
    → LeftBehind bytes at (length bytes)
behind_part bytes at old f b p within e =
    let start = cursor_left bytes at old b p in
    let read : (extent at).read (left_from bytes at) ≡ Err f = ap (λ (r : CursorData). (extent at).read r) (sym start) ∙ e in
    let given : Result (Unit {0} × CursorData) RecordFault → CursorData = λ m. by_result m (λ x. x.1) (λ _. left_from bytes (length bytes)) in
    record { left = sym (ap given read); within = omega arith; moves = within }

pub items_end : (n section : ℕ) (earlier : List CieRecord) (r : CursorData) → is_end r.bytes ≡ true → items_from n section earlier r ≡ []
unfolding items_from
items_end zero section earlier r e = refl
items_end (suc n) section earlier r e = rw e refl

items_sound : (n section : ℕ) (earlier : List CieRecord) (r : CursorData) (x : Record) (behind : CursorData) → is_end r.bytes ≡ false → (whole_record section earlier).read r ≡ Ok (x, behind)
    → items_from (suc n) section earlier r ≡ Sound x ∷ items_from n section (with_record earlier x) behind
unfolding items_from
items_sound n section earlier r x behind on e = rw on (rw e refl)

-- the refused record that stands here
abbrev pub refused_at : ℕ → List CieRecord → CursorData → FrameFault → RefusedRecord
refused_at section earlier r f = record { start = r.at; fault = f; claim = claimed section earlier r }

items_refused : (n section : ℕ) (earlier : List CieRecord) (r : CursorData) (f : FrameFault) → is_end r.bytes ≡ false → (whole_record section earlier).read r ≡ Err f
    → items_from (suc n) section earlier r ≡ Refused (refused_at section earlier r f) ∷ by_result ((extent r.at).read r) (λ e. items_from n section earlier e.1) (λ _. [])
unfolding items_from
items_refused n section earlier r f on e = rw on (rw e refl)

-- what stands behind a refused record, where it is whole or not
items_behind : (n section : ℕ) (earlier : List CieRecord) (bytes : List ℕ) (m : Result (Unit {0} × CursorData) RecordFault)
    → by_result m (λ e. items_from n section earlier e.1) (λ _. []) ≡ items_from n section earlier (by_result m (λ e. e.1) (λ _. left_from bytes (length bytes)))
items_behind n section earlier bytes (Ok e) = refl
items_behind n section earlier bytes (Err f) = sym (items_end n section earlier (left_from bytes (length bytes)) (ap is_end (drop-length bytes)))

-- ---- the first item of at most some

pub record NextSound (steps section : ℕ) (earlier : List CieRecord) (r : CursorData) (x : Record) (behind : CursorData) : Type 0 where
  pub fewer : ℕ
  pub one : steps ≡ suc fewer
  pub items : items_from steps section earlier r ≡ Sound x ∷ items_from fewer section (with_record earlier x) behind

pub next_sound : (steps section : ℕ) (earlier : List CieRecord) (r : CursorData) (x : Record) (behind : CursorData) → 0 < steps → is_end r.bytes ≡ false → (whole_record section earlier).read r ≡ Ok (x, behind)
    → NextSound steps section earlier r x behind
next_sound zero section earlier r x behind some on e = absurd (omega (arith, some))
next_sound (suc n) section earlier r x behind some on e = record { fewer = n; one = refl; items = items_sound n section earlier r x behind on e }

pub record NextRefused (steps section : ℕ) (earlier : List CieRecord) (bytes : List ℕ) (r : CursorData) (f : FrameFault) : Type 0 where
  pub fewer : ℕ
  pub one : steps ≡ suc fewer
  pub items : items_from steps section earlier r ≡ Refused (refused_at section earlier r f) ∷ items_from fewer section earlier (left_behind bytes r)

pub next_refused : (steps section : ℕ) (earlier : List CieRecord) (bytes : List ℕ) (r : CursorData) (f : FrameFault) → 0 < steps → is_end r.bytes ≡ false → (whole_record section earlier).read r ≡ Err f
    → NextRefused steps section earlier bytes r f
next_refused zero section earlier bytes r f some on e = absurd (omega (arith, some))
next_refused (suc n) section earlier bytes r f some on e = record {
  fewer = n;
  one = refl;
  items = items_refused n section earlier r f on e ∙ ap (λ (is : List Item). Refused (refused_at section earlier r f) ∷ is) (items_behind n section earlier bytes ((extent r.at).read r));
}
