-- The lines of what is told ascend: an accepted update stands alone on its line.
use Rattle.std.proofs.Common.{◌≡◌, ℕ, ◌+◌, ◌<◌, List, [], ◌∷◌, ◌++◌, length, map, Option, Some, None, true, All, refl, arith}
use Rattle.std.specs.List.{sum_by, count_by}
use Rattle.std.specs.Option.{is_some}
use Rattle.std.proofs.lemmas.List.Elements.{All-push, All-weaker, All-nil, All-head, All-tail}
use Rattle.reg_model.specs.SpanData.{SpanData}
use Rattle.reg_model.specs.Receipt.{accepted, receipts_of_place}
use Rattle.reg_model.specs.declared.answer.Found.{Found}
use Rattle.reg_model.specs.declared.answer.Half.TheVariants.{Registered, Loaded}
use Rattle.reg_model.specs.declared.answer.Receipt.{Receipt}
use Rattle.reg_model.specs.declared.answer.Receipt.TheVariants as receipt
use Rattle.unwind_step.specs.declared.backtrace.FrameLine.{FrameLine}
use Rattle.script_text.specs.Lawful.{image_member}
use Rattle.script_text.specs.declared.journal.Answer.{Answer}
use Rattle.script_text.specs.declared.journal.Answer.TheVariants.{Register, Deregister, Replace, Load, Unload, Find, Unwind}
use Rattle.receipt_check.specs.declared.account.Told.{Told}
use Rattle.journal_check.specs.Telling.{TellingData, told_after, tell_receipt, next_line, tell_line, tell_answer, tell_thread, tell_rounds, is_update}
use Rattle.journal_check.specs.declared.teller.Bounds.{Bounds}

-- an accepted update is told above all that come after it
abbrev pub Before : Told → Told → Type 0
Before t o = is_some (accepted t.receipt) ≡ true → t.line < o.line

abbrev pub Ascends : List Told → Type 0
Ascends [] = Unit {0}
Ascends (t ∷ told) = All (Before t) told × Ascends told

-- and above the line that comes next
abbrev Above : ℕ → Told → Type 0
Above line o = is_some (accepted o.receipt) ≡ true → o.line < line

record Keeps (t : TellingData) : Type 0 where
  ascends : Ascends t.told
  above : All (Above t.line) t.told

ascends_push : (told : List Told) (t : Told) → Ascends told → All (Above t.line) told → Ascends (told ++ t ∷ [])
ascends_push [] t ascends above = (All-nil (Before t), tt)
ascends_push (o ∷ told) t ascends above =
    (All-push (Before o) told t ascends.0 (All-head (Above t.line) o told above), ascends_push told t ascends.1 (All-tail (Above t.line) o told above))

module _ (bounds : Bounds) where
  above_next : (line : ℕ) (told : List Told) → All (Above line) told → All (Above (line + 1)) told
  above_next line told above = All-weaker (Above line) (Above (line + 1)) (λ o before is. (let less : o.line < line = before is in omega arith)) told above

  next_keeps : (t : TellingData) → Keeps t → Keeps (next_line t)
  next_keeps t keeps = record { ascends = keeps.ascends; above = above_next t.line t.told keeps.above }

  -- a receipt that accepts nothing
  quiet_keeps : (t : TellingData) (r : Receipt) → accepted r ≡ None → Keeps t → Keeps (tell_receipt bounds t r)
  quiet_keeps t r quiet keeps =
      let o : Told = record { line = t.line; before = bounds.before; after = bounds.after; callers = bounds.callers; seen = t.seen; receipt = r } in
      record {
        ascends = ascends_push t.told o keeps.ascends keeps.above;
        above = All-push (Above t.line) t.told o keeps.above (λ is. absurd cc);
      }

  one_keeps : (t : TellingData) (r : Receipt) → Keeps t → Keeps (tell_line bounds t (r ∷ []))
  one_keeps t r keeps =
      let o : Told = record { line = t.line; before = bounds.before; after = bounds.after; callers = bounds.callers; seen = t.seen; receipt = r } in
      record {
        ascends = ascends_push t.told o keeps.ascends keeps.above;
        above = All-push (Above (t.line + 1)) t.told o (above_next t.line t.told keeps.above) (λ _. omega arith);
      }

  place_keeps : (t : TellingData) (pc : ℕ) (registered : Found) (loaded : Option Found) → Keeps t → Keeps (tell_line bounds t (receipts_of_place pc (record { registered = registered; loaded = loaded })))
  place_keeps t pc registered None keeps = next_keeps _ (quiet_keeps t (receipt.Query Registered pc registered) refl keeps)
  place_keeps t pc registered (Some found) keeps =
      next_keeps _ (quiet_keeps _ (receipt.Query Loaded pc found) refl (quiet_keeps t (receipt.Query Registered pc registered) refl keeps))

  frames_keep : (t : TellingData) (frames : List FrameLine) → Keeps t → Keeps (told_after (tell_line bounds) t (map (λ line. receipts_of_place line.look line.place) frames ++ [] ∷ []))
  frames_keep t [] keeps = next_keeps t keeps
  frames_keep t (line ∷ frames) keeps = frames_keep (tell_line bounds t (receipts_of_place line.look line.place)) frames (place_keeps t line.look line.place.registered line.place.loaded keeps)

  answer_keeps : (images : List SpanData) (t : TellingData) (answer : Answer) → Keeps t → Keeps (tell_answer images bounds t answer)
  answer_keeps images t (Register image answer) keeps = one_keeps t (receipt.Register (image_member images image) answer) keeps
  answer_keeps images t (Deregister base answer) keeps = one_keeps t (receipt.Deregister base answer) keeps
  answer_keeps images t (Replace image answer) keeps = one_keeps t (receipt.Replace (image_member images image) answer) keeps
  answer_keeps images t (Load image answer) keeps = one_keeps t (receipt.Load (image_member images image) answer) keeps
  answer_keeps images t (Unload base answer) keeps = one_keeps t (receipt.Unload base answer) keeps
  answer_keeps images t (Find pc place) keeps = place_keeps t pc place.registered place.loaded keeps
  answer_keeps images t (Unwind snapshot trace) keeps = frames_keep (next_line t) trace.frames (next_keeps t keeps)

keep_after : {X : Type 0} (tell : TellingData → X → TellingData) → ((t : TellingData) (x : X) → Keeps t → Keeps (tell t x)) → (t : TellingData) (xs : List X) → Keeps t → Keeps (told_after tell t xs)
keep_after tell keep t [] keeps = keeps
keep_after tell keep t (x ∷ xs) keeps = keep_after tell keep (tell t x) xs (keep t x keeps)

thread_keeps : (images : List SpanData) (bounds : Bounds) (t : TellingData) (answers : List Answer) → Keeps t → Keeps (tell_thread images bounds t answers)
thread_keeps images bounds t answers keeps =
    keep_after (tell_answer images bounds) (answer_keeps bounds images) (record { told = t.told; line = t.line; seen = 0 }) answers (record { ascends = keeps.ascends; above = keeps.above })

rounds_keep : (images : List SpanData) (callers done : ℕ) (t : TellingData) (rounds : List (List (List Answer))) → Keeps t → Keeps (tell_rounds images callers done t rounds)
rounds_keep images callers done t [] keeps = keeps
rounds_keep images callers done t (round ∷ rounds) keeps =
    let after = done + sum_by (count_by is_update) round in
    let bounds : Bounds = record { before = done; after = after; callers = callers + length round } in
    rounds_keep images (callers + length round) after (told_after (tell_thread images bounds) t round) rounds (keep_after (tell_thread images bounds) (thread_keeps images bounds) t round keeps)

pub told_ascends : (images : List SpanData) (rounds : List (List (List Answer))) → Ascends (tell_rounds images 1 0 (record { told = []; line = 1; seen = 0 }) rounds).told
told_ascends images rounds = (rounds_keep images 1 0 (record { told = []; line = 1; seen = 0 }) rounds (record { ascends = tt; above = All-nil (Above 1) })).ascends
