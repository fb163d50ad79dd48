-- How many updates a round's receipts accept.
use Rattle.std.proofs.Common.{◌≡◌, ℕ, ◌+◌, List, [], ◌∷◌, map, cond, refl, sym, ◌∙◌, ap, arith}
use Rattle.std.specs.List.{flat_map, sum_by, count_by}
use Rattle.std.proofs.lemmas.List.Sums.{sum_by-cons}
use Rattle.reg_model.specs.SpanData.{SpanData}
use Rattle.reg_model.specs.declared.answer.Inserted.TheVariants as inserted
use Rattle.reg_model.specs.declared.answer.Loading.TheVariants as loading
use Rattle.reg_model.specs.declared.answer.Removed.TheVariants as removed
use Rattle.reg_model.specs.declared.answer.Replaced.TheVariants as replaced
use Rattle.script_text.specs.Lawful.{receipts_of, done_after}
use Rattle.journal_reader.proofs.LawfulSizes.{count, count_append, of_place, of_frames}
use Rattle.script_text.specs.declared.journal.Answer.{Answer}
use Rattle.script_text.specs.declared.journal.Answer.TheVariants.{Register, Deregister, Replace, Load, Unload, Find, Unwind}
use Rattle.journal_check.specs.Telling.{is_update}
use Rattle.journal_check.proofs.Receipts.{of_thread}

of_answer : (images : List SpanData) (answer : Answer) → count (receipts_of images answer) ≡ cond (is_update answer) 1 0
of_answer images (Register image inserted.Spent) = refl
of_answer images (Register image _) = refl
of_answer images (Deregister base removed.Spent) = refl
of_answer images (Deregister base _) = refl
of_answer images (Replace image replaced.Spent) = refl
of_answer images (Replace image _) = refl
of_answer images (Load image loading.Spent) = refl
of_answer images (Load image _) = refl
of_answer images (Unload base removed.Spent) = refl
of_answer images (Unload base _) = refl
of_answer images (Find pc place) = of_place pc place.registered place.loaded
of_answer images (Unwind snapshot trace) = of_frames trace.frames

of_answers : (images : List SpanData) (answers : List Answer) → count (of_thread images answers) ≡ count_by is_update answers
of_answers images [] = refl
of_answers images (answer ∷ answers) =
    let rest = of_answers images answers in
    let here = of_answer images answer in
    let all = sum_by-cons (λ (a : Answer). cond (is_update a) 1 0) answer answers in
    count_append (receipts_of images answer) (of_thread images answers) ∙ omega arith

of_threads : (images : List SpanData) (round : List (List Answer)) → count (flat_map (λ receipts. receipts) (map (of_thread images) round)) ≡ sum_by (count_by is_update) round
of_threads images [] = refl
of_threads images (answers ∷ round) =
    let rest = of_threads images round in
    let here = of_answers images answers in
    let all = sum_by-cons (count_by is_update) answers round in
    count_append (of_thread images answers) (flat_map (λ receipts. receipts) (map (of_thread images) round)) ∙ omega arith

-- what was done with a round, by its answers and by its receipts
pub updates_same : (images : List SpanData) (done : ℕ) (round : List (List Answer)) → done + sum_by (count_by is_update) round ≡ done_after done (map (of_thread images) round)
updates_same images done round = ap (λ n. done + n) (sym (of_threads images round))
