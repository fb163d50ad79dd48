-- A journal's text is its lines, and no line has a line feed in it.
use Rattle.std.proofs.Common.{◌≡◌, ◌≢◌, ℕ, zero, suc, ◌+◌, ◌/◌, ◌%◌, Bool, true, false, cond, eqb, ltb, List, [], ◌∷◌, ◌++◌, map, Option, Some, None, codes, refl, sym, ap, ap₂, ◌∙◌, append_assoc, append-nil, lt-ltb, ltb-true, eq-eqb, arith}
use Rattle.std.specs.List.{flat_map, list_all, AllByRecursion}
use Rattle.std.specs.Fmt.{decimal, digits, digits_onto, digit_glyph}
use Rattle.std.proofs.lemmas.Bool.{and_parts, and_from}
use Rattle.std.proofs.lemmas.List.Folds.{list_all-append}
use Rattle.std.proofs.lemmas.Grind.{flat_map-append}
use Rattle.reg_model.specs.declared.span.Member.{Member}
use Rattle.reg_model.specs.declared.answer.Found.{Found}
use Rattle.reg_model.specs.declared.answer.Found.TheVariants.{Hit, Miss}
use Rattle.reg_model.specs.declared.answer.Place.{Place}
use Rattle.reg_model.specs.declared.answer.Inserted.{Inserted}
use Rattle.reg_model.specs.declared.answer.Inserted.TheVariants as inserted
use Rattle.reg_model.specs.declared.answer.Loading.{Loading}
use Rattle.reg_model.specs.declared.answer.Loading.TheVariants as loading
use Rattle.reg_model.specs.declared.answer.Removed.{Removed}
use Rattle.reg_model.specs.declared.answer.Removed.TheVariants as removed
use Rattle.reg_model.specs.declared.answer.Replaced.{Replaced}
use Rattle.reg_model.specs.declared.answer.Replaced.TheVariants as replaced
use Rattle.unwind_step.specs.declared.backtrace.End.{End}
use Rattle.unwind_step.specs.declared.backtrace.End.TheVariants as end
use Rattle.unwind_step.specs.declared.backtrace.FrameLine.{FrameLine}
use Rattle.script_text.specs.Digits.{hex}
use Rattle.script_text.specs.JournalData.{JournalData}
use Rattle.script_text.specs.Fields.{lines_text}
use Rattle.script_text.specs.Fields.{pieces, with_first}
use Rattle.script_text.specs.Text.{overlap_text, inserted_text, loading_text, removed_text, replaced_text, found_text, loaded_text, place_text, frame_line, frame_lines, end_line, answer_line, further_lines, answer_lines, event_number, event_line, answer_text, numbered, thread_text, round_text, updates_text, journal_text}
use Rattle.script_text.specs.declared.journal.Answer.{Answer}
use Rattle.script_text.specs.declared.journal.Answer.TheVariants.{Register, Deregister, Replace, Load, Unload, Find, Unwind}
use Rattle.script_text.proofs.Joined.{Without, pieces_first}
use Rattle.journal_reader.specs.JournalLines.{line_at, event_lines, numbered_lines, thread_lines, round_lines, updates_line, journal_lines}

-- ---- the text is the lines

lines_map : (round thread event : ℕ) (lines : List (List ℕ)) → flat_map (event_line round thread event) lines ≡ lines_text (map (line_at round thread event) lines)
lines_map round thread event [] = refl
lines_map round thread event (line ∷ lines) = ap (λ (x : List ℕ). event_line round thread event line ++ x) (lines_map round thread event lines)

numbered_is : {X : Type 0} (text : ℕ → X → List ℕ) (lines : ℕ → X → List (List ℕ)) → ((n : ℕ) (x : X) → text n x ≡ lines_text (lines n x)) → (n : ℕ) (xs : List X) → numbered text n xs ≡ lines_text (numbered_lines lines n xs)
numbered_is text lines same n [] = refl
numbered_is text lines same n (x ∷ xs) =
    ap₂ (λ (a b : List ℕ). a ++ b) (same n x) (numbered_is text lines same (n + 1) xs)
    ∙ sym (flat_map-append (λ (line : List ℕ). line ++ 10 ∷ []) (lines n x) (numbered_lines lines (n + 1) xs))

pub journal_text_is : (journal : JournalData) → journal_text journal ≡ lines_text (journal_lines journal)
journal_text_is journal =
    let rounds = numbered_is round_text round_lines (λ round threads. numbered_is (thread_text round) (thread_lines round) (λ thread answers. numbered_is (answer_text round thread) (event_lines round thread) (λ event answer. lines_map round thread event (answer_lines answer)) 1 answers) 1 threads) 1 journal.rounds in
    let last : updates_text journal.updates ≡ lines_text (updates_line journal.updates ∷ []) = sym (append-nil (updates_text journal.updates)) in
    ap₂ (λ (a b : List ℕ). a ++ b) rounds last
    ∙ sym (flat_map-append (λ (line : List ℕ). line ++ 10 ∷ []) (numbered_lines round_lines 1 journal.rounds) (updates_line journal.updates ∷ []))

-- ---- no line feed (10) in a line

-- every byte is above the line feed
abbrev is_flat : List ℕ → Bool
is_flat bytes = list_all (λ b. ltb 10 b) bytes

record Flat (bytes : List ℕ) : Type 0 where
  is : is_flat bytes ≡ true

word : (bytes : List ℕ) → is_flat bytes ≡ true → Flat bytes
word bytes is = record { is = is }

joined : {xs ys : List ℕ} → Flat xs → Flat ys → Flat (xs ++ ys)
joined {xs} {ys} p q = record { is = list_all-append (λ (b : ℕ). ltb 10 b) xs ys ∙ and_from (is_flat xs) (is_flat ys) p.is q.is }

glyph_flat : (d : ℕ) → ltb 10 (digit_glyph false d) ≡ true
glyph_flat d = by (ltb d 10) refl
  where
    by : (t : Bool) → ltb d 10 ≡ t → ltb 10 (cond t (48 + d) (87 + d)) ≡ true
    by true same = lt-ltb 10 (48 + d) (omega arith)
    by false same = lt-ltb 10 (87 + d) (omega arith)

digits_flat : (k base n : ℕ) (acc : List ℕ) → is_flat acc ≡ true → is_flat (digits_onto k base false n acc) ≡ true
digits_flat zero base n acc p = p
digits_flat (suc k) base n acc p =
    by (eqb (n / base) 0) (and_from (ltb 10 (digit_glyph false (n % base))) (is_flat acc) (glyph_flat (n % base)) p)
    (digits_flat k base (n / base) (digit_glyph false (n % base) ∷ acc))
  where
    by : (t : Bool) → is_flat (digit_glyph false (n % base) ∷ acc) ≡ true
        → (is_flat (digit_glyph false (n % base) ∷ acc) ≡ true → is_flat (digits_onto k base false (n / base) (digit_glyph false (n % base) ∷ acc)) ≡ true)
        → is_flat (cond t (digit_glyph false (n % base) ∷ acc) (digits_onto k base false (n / base) (digit_glyph false (n % base) ∷ acc))) ≡ true
    by true q more = q
    by false q more = more q

decimal_flat : (n : ℕ) → Flat (decimal n)
unfolding digits
decimal_flat n = record { is = digits_flat 64 10 n [] refl }

hex_flat : (n : ℕ) → Flat (hex n)
unfolding digits
hex_flat n = record { is = digits_flat 64 16 n [] refl }

overlap_flat : (m : Member) (stamp : ℕ) → Flat (overlap_text m stamp)
overlap_flat m stamp =
    let base = joined (word (codes "overlap ") refl) (hex_flat m.span.first) in
    let image = joined (joined base (word (codes " ") refl)) (decimal_flat m.payload) in
    joined (joined image (word (codes " at ") refl)) (decimal_flat stamp)

inserted_flat : (answer : Inserted) → Flat (inserted_text answer)
inserted_flat (inserted.Done number) = joined (word (codes "done ") refl) (decimal_flat number)
inserted_flat (inserted.Overlap m stamp) = overlap_flat m stamp
inserted_flat (inserted.Full stamp) = joined (word (codes "full at ") refl) (decimal_flat stamp)
inserted_flat inserted.Spent = word [] refl

loading_flat : (answer : Loading) → Flat (loading_text answer)
loading_flat (loading.Done number) = joined (word (codes "done ") refl) (decimal_flat number)
loading_flat (loading.Overlap m stamp) = overlap_flat m stamp
loading_flat (loading.LoadFull stamp) = joined (word (codes "full at ") refl) (decimal_flat stamp)
loading_flat loading.Spent = word [] refl

removed_flat : (answer : Removed) → Flat (removed_text answer)
removed_flat (removed.Done number m) = joined (joined (joined (word (codes "done ") refl) (decimal_flat number)) (word (codes " image ") refl)) (decimal_flat m.payload)
removed_flat (removed.NotFound stamp) = joined (word (codes "absent at ") refl) (decimal_flat stamp)
removed_flat removed.Spent = word [] refl

replaced_flat : (answer : Replaced) → Flat (replaced_text answer)
replaced_flat (replaced.Done number payload) = joined (joined (joined (word (codes "done ") refl) (decimal_flat number)) (word (codes " image ") refl)) (decimal_flat payload)
replaced_flat (replaced.NotFound stamp) = joined (word (codes "absent at ") refl) (decimal_flat stamp)
replaced_flat replaced.Spent = word [] refl

found_flat : (found : Found) → Flat (found_text found)
found_flat (Hit m stamp) = joined (joined (decimal_flat m.payload) (word (codes " at ") refl)) (decimal_flat stamp)
found_flat (Miss stamp) = joined (word (codes "none at ") refl) (decimal_flat stamp)

loaded_flat : (loaded : Option Found) → Flat (loaded_text loaded)
loaded_flat None = word [] refl
loaded_flat (Some found) = joined (word (codes " loaded ") refl) (found_flat found)

place_flat : (place : Place) → Flat (place_text place)
place_flat place = joined (joined (word (codes "registered ") refl) (found_flat place.registered)) (loaded_flat place.loaded)

frame_flat : (number : ℕ) (line : FrameLine) → Flat (frame_line number line)
frame_flat number line =
    let pc = joined (word (codes " pc ") refl) (hex_flat line.pc) in
    let sp = joined (joined pc (word (codes " sp ") refl)) (hex_flat line.sp) in
    let look = joined (joined (joined sp (word (codes " look ") refl)) (hex_flat line.look)) (word (codes " ") refl) in
    joined (joined (joined (word (codes "frame ") refl) (decimal_flat number)) look) (place_flat line.place)

end_flat : (e : End) → Flat (end_line e)
end_flat end.NoObject = word (codes "end noobject") refl
end_flat end.NoFde = word (codes "end nofde") refl
end_flat end.NoRow = word (codes "end norow") refl
end_flat end.Undefined = word (codes "end undefined") refl
end_flat (end.NoBytes address) = joined (word (codes "end nobytes ") refl) (hex_flat address)
end_flat end.Long = word (codes "end long") refl

answer_flat : (answer : Answer) → Flat (answer_line answer)
answer_flat (Register image answer) = joined (joined (joined (word (codes "register ") refl) (decimal_flat image)) (word (codes " ") refl)) (inserted_flat answer)
answer_flat (Deregister base answer) = joined (joined (joined (word (codes "deregister ") refl) (hex_flat base)) (word (codes " ") refl)) (removed_flat answer)
answer_flat (Replace image answer) = joined (joined (joined (word (codes "replace ") refl) (decimal_flat image)) (word (codes " ") refl)) (replaced_flat answer)
answer_flat (Load image answer) = joined (joined (joined (word (codes "load ") refl) (decimal_flat image)) (word (codes " ") refl)) (loading_flat answer)
answer_flat (Unload base answer) = joined (joined (joined (word (codes "unload ") refl) (hex_flat base)) (word (codes " ") refl)) (removed_flat answer)
answer_flat (Find pc place) = joined (joined (joined (word (codes "find ") refl) (hex_flat pc)) (word (codes " ") refl)) (place_flat place)
answer_flat (Unwind snapshot trace) = joined (word (codes "unwind ") refl) (decimal_flat snapshot)

-- each line
abbrev AllFlat : List (List ℕ) → Type 0
AllFlat lines = AllByRecursion Flat lines

all_joined : (xs ys : List (List ℕ)) → AllFlat xs → AllFlat ys → AllFlat (xs ++ ys)
all_joined [] ys p q = q
all_joined (x ∷ xs) ys p q = (p.0, all_joined xs ys p.1 q)

frames_flat : (number : ℕ) (frames : List FrameLine) → AllFlat (frame_lines number frames)
frames_flat number [] = tt
frames_flat number (line ∷ frames) = (frame_flat number line, frames_flat (number + 1) frames)

further_flat : (answer : Answer) → AllFlat (further_lines answer)
further_flat (Unwind snapshot trace) = all_joined (frame_lines 0 trace.frames) (end_line trace.end ∷ []) (frames_flat 0 trace.frames) (end_flat trace.end, tt)
further_flat (Register image answer) = tt
further_flat (Deregister base answer) = tt
further_flat (Replace image answer) = tt
further_flat (Load image answer) = tt
further_flat (Unload base answer) = tt
further_flat (Find pc place) = tt

number_flat : (round thread event : ℕ) → Flat (event_number round thread event)
number_flat round thread event = joined (joined (joined (joined (decimal_flat round) (word (codes ".") refl)) (decimal_flat thread)) (word (codes ".") refl)) (decimal_flat event)

at_flat : (round thread event : ℕ) (lines : List (List ℕ)) → AllFlat lines → AllFlat (map (line_at round thread event) lines)
at_flat round thread event [] p = tt
at_flat round thread event (line ∷ lines) p = (joined (joined (number_flat round thread event) (word (codes " ") refl)) p.0, at_flat round thread event lines p.1)

numbered_flat : {X : Type 0} (lines : ℕ → X → List (List ℕ)) → ((n : ℕ) (x : X) → AllFlat (lines n x)) → (n : ℕ) (xs : List X) → AllFlat (numbered_lines lines n xs)
numbered_flat lines each n [] = tt
numbered_flat lines each n (x ∷ xs) = all_joined (lines n x) (numbered_lines lines (n + 1) xs) (each n x) (numbered_flat lines each (n + 1) xs)

journal_flat : (journal : JournalData) → AllFlat (journal_lines journal)
journal_flat journal =
    all_joined (numbered_lines round_lines 1 journal.rounds) (updates_line journal.updates ∷ [])
    (numbered_flat round_lines (λ round threads. numbered_flat (thread_lines round) (λ thread answers. numbered_flat (event_lines round thread) (λ event answer. at_flat round thread event (answer_lines answer) (answer_flat answer, further_flat answer)) 1 answers) 1 threads) 1 journal.rounds)
    (joined (word (codes "updates ") refl) (decimal_flat journal.updates), tt)

-- ---- cut at its line feeds, a text gives its lines

flat_without : (bytes : List ℕ) → is_flat bytes ≡ true → Without 10 bytes
flat_without [] p = tt
flat_without (b ∷ bytes) p =
    let q = and_parts (ltb 10 b) (is_flat bytes) p in
    (λ e. omega (arith, ltb-true 10 b q.0), flat_without bytes q.1)

pub pieces_lines : (text : List ℕ) (lines : List (List ℕ)) (rest : List ℕ) → text ≡ lines_text lines ++ rest → AllByRecursion (Without 10) lines → pieces 10 text ≡ lines ++ pieces 10 rest
pieces_lines text [] rest is p = ap (pieces 10) is
pieces_lines text (line ∷ lines) rest is p =
    ap (pieces 10) (is ∙ append_assoc (line ++ 10 ∷ []) (lines_text lines) rest ∙ append_assoc line (10 ∷ []) (lines_text lines ++ rest))
    ∙ pieces_first 10 line (lines_text lines ++ rest) p.0
    ∙ ap (λ (x : List (List ℕ)). line ∷ x) (pieces_lines (lines_text lines ++ rest) lines rest refl p.1)

all_without : (lines : List (List ℕ)) → AllFlat lines → AllByRecursion (Without 10) lines
all_without [] p = tt
all_without (line ∷ lines) p = (flat_without line p.0.is, all_without lines p.1)

pub journal_pieces : (journal : JournalData) → pieces 10 (journal_text journal) ≡ journal_lines journal ++ [] ∷ []
journal_pieces journal =
    pieces_lines (journal_text journal) (journal_lines journal) [] (journal_text_is journal ∙ sym (append-nil (lines_text (journal_lines journal))))
    (all_without (journal_lines journal) (journal_flat journal))

-- no piece has the separator in it
pub pieces_without : (bytes : List ℕ) → AllByRecursion (Without 10) (pieces 10 bytes)
pieces_without [] = (tt, tt)
pieces_without (b ∷ bytes) = by (eqb b 10) refl (pieces_without bytes)
  where
    differ : eqb b 10 ≡ true → eqb b 10 ≡ false → ⊥
    differ p q = absurd cc

    grown : (pieces : List (List ℕ)) → b ≢ 10 → AllByRecursion (Without 10) pieces → AllByRecursion (Without 10) (with_first b pieces)
    grown [] differs p = ((differs, tt), tt)
    grown (piece ∷ others) differs p = ((differs, p.0), p.1)

    by : (t : Bool) → eqb b 10 ≡ t → AllByRecursion (Without 10) (pieces 10 bytes) → AllByRecursion (Without 10) (cond t ([] ∷ pieces 10 bytes) (with_first b (pieces 10 bytes)))
    by true same p = (tt, p)
    by false differs p = grown (pieces 10 bytes) (λ e. differ (eq-eqb b 10 e) differs) p
