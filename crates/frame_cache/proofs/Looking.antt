-- What a load of the clock and a try of a half make of a cache's caller.
use Rattle.std.proofs.Common.{◌≡◌, ℕ, ◌≤◌, List, [], ◌∷◌, ◌++◌, length, sym, ap, ◌∙◌, arith, true, Result, Ok, Err}
use Rattle.word_rule.proofs.ObservationsFrame.{longer_length}
use Rattle.reg_model.specs.History.{state_at}
use Rattle.reg_model.specs.Receipt.{stamp_of}
use Rattle.reg_model.specs.SpanData.{contains}
use Rattle.reg_model.specs.State.{objects}
use Rattle.reg_model.specs.declared.answer.Again.{Again}
use Rattle.reg_model.specs.declared.answer.Found.{Found}
use Rattle.reg_model.specs.declared.answer.Found.TheVariants.{Hit}
use Rattle.reg_model.specs.declared.answer.Half.{Half}
use Rattle.reg_model.specs.declared.answer.Half.TheVariants.{Loaded, Registered}
use Rattle.reg_model.specs.declared.answer.Receipt.{Receipt}
use Rattle.reg_model.specs.declared.answer.Receipt.TheVariants.{Query}
use Rattle.reg_model.specs.declared.span.Member.{Member}
use Rattle.word_rule.proofs.TreeRefusals.{found_there}
use Rattle.word_rule.specs.CallerData.{CallerData}
use Rattle.word_rule.specs.Callers.{start}
use Rattle.word_rule.specs.Clock.{AfterClock}
use Rattle.word_rule.specs.Logs.{load_of}
use Rattle.word_rule.specs.Places.{CLOCK, lower}
use Rattle.word_rule.specs.declared.log.Ask.TheVariants as ask
use Rattle.word_rule.specs.declared.log.Log.{Log}
use Rattle.word_rule.specs.declared.log.Terms.{Terms}
use Rattle.frame_cache.specs.Cached.{LooksAtClock, TriesHalf}

-- ---- the clock

pub clock_own : (t : Terms) (found : ℕ) (v w : Log) → AfterClock t ask.Nothing found v w → w.receipts.own ≡ v.receipts.own ++ []
clock_own t found v w (past, receipts, (tells, asked, is)) = ap (λ (w : Log). w.receipts.own) is ∙ ap (λ rs. v.receipts.own ++ rs) asked

pub clock_seen : (t : Terms) (found : ℕ) (v w : Log) → AfterClock t ask.Nothing found v w → (length v.past ≤ lower found) × (length w.past ≡ lower found)
clock_seen t found v w (past, receipts, (tells, asked, is)) =
    let front = longer_length v.past past tells.begins in
    let all = tells.updates in
    (omega (arith, front, all), ap (λ (w : Log). length w.past) is ∙ sym tells.updates)

pub looks : (t : Terms) (found : ℕ) (k k' : CallerData) → AfterClock t ask.Nothing found k.log k'.log → k' ≡ record k { log = k'.log } → LooksAtClock t found k k'
looks t found k k' after rest = record { log = after; once = once after; rest = rest }
  where
    once : AfterClock t ask.Nothing found k.log k'.log → k'.log.trace.loads ≡ k.log.trace.loads ++ load_of k.log CLOCK found ∷ []
    once (past, receipts, (tells, asked, is)) = ap (λ (w : Log). w.trace.loads) is

-- ---- a half

-- the receipts of a try
abbrev pub receipts_of : Half → ℕ → Result Found Again → List Receipt
receipts_of half pc (Ok found) = Query half pc found ∷ []
receipts_of half pc (Err again) = []

pub half_own : (half : Half) (t : Terms) (pc : ℕ) (k k' : CallerData) (result : Result Found Again) → TriesHalf half t pc k k' result → k'.log.receipts.own ≡ k.log.receipts.own ++ receipts_of half pc result
half_own Registered t pc k k' (Ok found) l = ap (λ (k : CallerData). k.log.receipts.own) l.log
half_own Registered t pc k k' (Err again) l = ap (λ (k : CallerData). k.log.receipts.own) l.log
half_own Loaded t pc k k' (Ok found) l = ap (λ (k : CallerData). k.log.receipts.own) l.log ∙ ap (λ rs. k.log.receipts.own ++ rs) l.answer.4
half_own Loaded t pc k k' (Err again) l = ap (λ (k : CallerData). k.log.receipts.own) l.log ∙ ap (λ rs. k.log.receipts.own ++ rs) l.answer.2

pub half_seen : (half : Half) (t : Terms) (pc : ℕ) (k k' : CallerData) (found : Found) → TriesHalf half t pc k k' (Ok found) → length k.log.past ≤ stamp_of found
half_seen Registered t pc k k' found l = let n = longer_length k.log.past l.past l.begins in let s = l.answer.0 in omega (arith, n, s)
half_seen Loaded t pc k k' found l = let n = longer_length k.log.past l.past l.begins in let s = l.seen in let a = l.answer.1 in omega (arith, n, s, a)

-- a hit contains the address
pub half_hit : (half : Half) (t : Terms) (pc stamp : ℕ) (m : Member) (k k' : CallerData) → TriesHalf half t pc k k' (Ok (Hit m stamp)) → contains m.span pc ≡ true
half_hit Registered t pc stamp m k k' l = (found_there pc (state_at (start t) l.past stamp).registered m l.answer.2).1
half_hit Loaded t pc stamp m k k' l = (found_there pc (objects (state_at (start t) l.past (lower l.second))) m l.answer.2).1
