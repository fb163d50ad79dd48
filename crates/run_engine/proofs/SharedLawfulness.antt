-- The journal of threads over one registry is lawful, whatever the order of their calls was.
use Rattle.std.proofs.Common.{◌≡◌, ℕ, List, [], ◌++◌, length, map, sym, ◌∙◌, ap, subst, arith}
use Rattle.std.specs.List.{AllByRecursion, AllZip, flat_map}
use Rattle.reg_model.specs.SpanData.{SpanData}
use Rattle.reg_model.specs.History.{IsHistory}
use Rattle.reg_model.specs.Receipt.{IsAtNumber}
use Rattle.reg_model.specs.Numbers.{AreNumbered, history_of}
use Rattle.reg_model.specs.declared.answer.Update.{Update}
use Rattle.reg_model.specs.declared.answer.Receipt.{Receipt}
use Rattle.word_rule.specs.CallerData.{CallerData}
use Rattle.word_rule.specs.Callers.{IsWhole, start}
use Rattle.word_rule.specs.Logs.{first_log}
use Rattle.word_rule.specs.declared.log.Log.{Log}
use Rattle.word_rule.specs.declared.log.Terms.{Terms}
use Rattle.registry_core.specs.Rounds.{all_receipts, joined_lists}
use Rattle.script_text.specs.ScriptData.{IsRunnable, ScriptData}
use Rattle.script_text.specs.JournalData.{JournalData}
use Rattle.script_text.specs.Lawful.{IsLawfulJournal, in_one, receipts_of, start_of, thread_receipts}
use Rattle.script_text.specs.declared.journal.Answer.{Answer}
use Rattle.run_engine.specs.Played.{IsRightAnswer}
use Rattle.run_engine.specs.Nodes.{AreEnough}
use Rattle.run_engine.specs.Shared.{IsAfterRounds, terms_with}
use Rattle.run_engine.proofs.Lawfulness.{events_answered, records_lawful, rounds_at, traces_unfolded}
use Rattle.run_engine.proofs.ManyRounds.{in_one_flat}
use Rattle.run_engine.proofs.EnoughNodes.{enough_hold}
use Rattle.run_engine.proofs.NamedImages.{images_few}

-- ---- the journal theorem, for every interleaving

-- a caller that knows nothing yet
abbrev first_caller : CallerData → Terms → CallerData
first_caller k t = record k { log = first_log t }

module _ (tell : (history : List Update) (receipts : List Receipt) → AllByRecursion (IsAtNumber history) receipts → AreNumbered (length history) receipts → history_of receipts (length history) ≡ history) (numbers : (v : Log) → IsWhole v → AreNumbered (length v.past) (all_receipts v.receipts)) where
  rounds_lawful : (script : ScriptData) (nodes : ℕ) (journal : JournalData) (first k : CallerData) → IsRunnable script → AreEnough script nodes → AllZip (AllZip (AllZip (IsRightAnswer script.sections script.snapshots))) script.rounds journal.rounds → IsAfterRounds (thread_receipts script.images journal) (first_caller first (terms_with script nodes)) k → journal.updates ≡ length k.log.past → IsLawfulJournal script journal
  rounds_lawful script nodes journal first k runnable enough answered after updates =
      let lists = thread_receipts script.images journal in
      let whole = after.between.whole in
      let P : Terms → Type 0 = λ t. IsHistory (start t) k.log.past in
      let Q : List Receipt → Type 0 = λ receipts. AreNumbered (length k.log.past) receipts in
      let N : ℕ → Type 0 = λ n. AreNumbered n (in_one lists) in
      let all : all_receipts k.log.receipts ≡ in_one lists =
      ap (λ own. own ++ flat_map (λ (receipts : List Receipt). receipts) (joined_lists k.log.receipts)) after.between.own
      ∙ (ap (λ joined. flat_map (λ (receipts : List Receipt). receipts) joined) after.joined ∙ in_one_flat lists) in
      let kinds = events_answered script.sections script.snapshots script.rounds journal.rounds answered in
      let is : IsHistory (start_of script) k.log.past = subst P after.terms whole.lawful in
      let numbered : AreNumbered (length k.log.past) (in_one lists) = subst Q all (numbers k.log whole) in
      let told = tell k.log.past (in_one lists) (rounds_at (start_of script) k.log.past nodes 1 0 lists after.hold) numbered in
      records_lawful script journal k.log.past kinds
      (sym updates)
      is
      (subst N (sym updates) numbered)
      told
      (enough_hold script journal nodes k.log.past enough kinds (λ j. images_few script journal k.log.past j runnable kinds is told) (let count = after.count in omega (arith, count)) after.hold)
      after.bounds
      (traces_unfolded script.sections script.snapshots script.rounds journal.rounds answered)

  -- the same of the answers of all rounds
  pub shared_lawful : (script : ScriptData) (nodes : ℕ) (rounds : List (List (List Answer))) (updates : ℕ) (k k' : CallerData) → IsRunnable script → AreEnough script nodes → k.log ≡ first_log (terms_with script nodes) → AllZip (AllZip (AllZip (IsRightAnswer script.sections script.snapshots))) script.rounds rounds → IsAfterRounds (map (λ round. map (λ answers. flat_map (receipts_of script.images) answers) round) rounds) k k' → updates ≡ length k'.log.past → IsLawfulJournal script (record { rounds = rounds; updates = updates })
  shared_lawful script nodes rounds updates k k' runnable enough first answered after count =
      let journal : JournalData = record { rounds = rounds; updates = updates } in
      let F : Log → Type 0 = λ log. IsAfterRounds (thread_receipts script.images journal) (record k { log = log }) k' in
      rounds_lawful script nodes journal k k' runnable enough answered (subst F first after) count

-- all receipts that were joined are the journal's
pub receipts_joined : (images : List SpanData) (rounds : List (List (List Answer))) (updates : ℕ) (k k' : CallerData) → joined_lists k.log.receipts ≡ [] → IsAfterRounds (map (λ round. map (λ answers. flat_map (receipts_of images) answers) round) rounds) k k' → joined_lists k'.log.receipts ≡ flat_map (λ round. round) (thread_receipts images (record { rounds = rounds; updates = updates }))
receipts_joined images rounds updates k k' none after =
    after.joined ∙ ap (λ joined. joined ++ flat_map (λ (round : List (List Receipt)). round) (thread_receipts images (record { rounds = rounds; updates = updates }))) none
