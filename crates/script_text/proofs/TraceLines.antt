-- The lines of a backtrace, by their places.
use Rattle.std.proofs.Common.{◌≡◌, ℕ, zero, suc, ◌+◌, ◌-◌, ◌<◌, ◌≤◌, List, [], ◌∷◌, ◌++◌, length, get_or, take, sym, ap, ◌∙◌, append-nil, length-append, arith}
use Rattle.std.specs.List.{flat_map}
use Rattle.std.proofs.lemmas.Grind.{flat_map-append}
use Rattle.std.proofs.lemmas.List.{take_more, get_or_append_left, get_or-append_right}
use Rattle.unwind_step.specs.Backtrace.{TraceData}
use Rattle.unwind_step.specs.declared.backtrace.FrameLine.{FrameLine}
use Rattle.script_text.specs.Text.{frame_line, frame_lines, end_line, trace_lines}
use Rattle.script_text.proofs.Texts.{appended}

frame_count : (number : ℕ) (frames : List FrameLine) → length (frame_lines number frames) ≡ length frames
frame_count number [] = omega arith
frame_count number (line ∷ frames) = let rest = frame_count (number + 1) frames in omega arith

pub trace_count : (trace : TraceData) → length (trace_lines trace) ≡ length trace.frames + 1
trace_count trace = omega (arith, length-append (frame_lines 0 trace.frames) (end_line trace.end ∷ []), frame_count 0 trace.frames)

frame_at : (number : ℕ) (frames : List FrameLine) (i : ℕ) (d : FrameLine) → i < length frames → get_or (frame_lines number frames) i [] ≡ frame_line (number + i) (get_or frames i d)
frame_at number [] i d lt = absurd (omega arith)
frame_at number (line ∷ frames) zero d lt = ap (λ (n : ℕ). frame_line n line) (omega arith)
frame_at number (line ∷ frames) (suc i) d lt =
    let next : number + 1 + i ≡ number + suc i = omega arith in
    frame_at (number + 1) frames i d (omega arith) ∙ ap (λ (n : ℕ). frame_line n (get_or frames i d)) next

pub frame_of_trace : (trace : TraceData) (i : ℕ) (d : FrameLine) → i < length trace.frames → get_or (trace_lines trace) i [] ≡ frame_line i (get_or trace.frames i d)
frame_of_trace trace i d lt =
    get_or_append_left (frame_lines 0 trace.frames) (end_line trace.end ∷ []) [] i (omega (arith, frame_count 0 trace.frames))
    ∙ frame_at 0 trace.frames i d lt ∙ ap (λ (n : ℕ). frame_line n (get_or trace.frames i d)) (omega arith)

pub end_of_trace : (trace : TraceData) (i : ℕ) → length trace.frames ≤ i → i < length (trace_lines trace) → get_or (trace_lines trace) i [] ≡ end_line trace.end
end_of_trace trace i past within =
    let count = trace_count trace in
    let last : i - length trace.frames ≡ 0 = omega arith in
    get_or-append_right (frame_lines 0 trace.frames) (end_line trace.end ∷ []) (length trace.frames) i [] (frame_count 0 trace.frames) past
    ∙ ap (λ (n : ℕ). get_or (end_line trace.end ∷ []) n []) last

-- one more line of an event
pub line_added : (text : List ℕ → List ℕ) (lines : List (List ℕ)) (i : ℕ) → i < length lines → (old mid new : List ℕ) → mid ≡ old ++ flat_map text (take i lines) → new ≡ mid ++ text (get_or lines i []) → new ≡ old ++ flat_map text (take (i + 1) lines)
line_added text lines i lt old mid new so_far more =
    let line = get_or lines i [] in
    let grown : flat_map text (take (i + 1) lines) ≡ flat_map text (take i lines) ++ text line =
    ap (flat_map text) (take_more lines i [] lt) ∙ flat_map-append text (take i lines) (line ∷ []) ∙ ap (λ (x : List ℕ). flat_map text (take i lines) ++ x) (append-nil (text line)) in
    appended old mid new (flat_map text (take i lines)) (text line) so_far more ∙ ap (λ (x : List ℕ). old ++ x) (sym grown)
