-- What one try of a half tells, as the state is after all that is seen.
use Rattle.std.proofs.Common.{◌≡◌, ℕ, List, length, refl, sym, ap, subst, ◌∙◌, arith, Ok, Err, Result, IfOk, IfErr}
use Rattle.std.proofs.lemmas.List.{take_all}
use mathlib.Core.List.{IsPrefix}
use Rattle.reg_model.specs.History.{state_after, state_at}
use Rattle.reg_model.specs.Query.{query}
use Rattle.reg_model.specs.Receipt.{member_of, stamp_of}
use Rattle.reg_model.specs.State.{State}
use Rattle.reg_model.specs.declared.answer.Again.{Again}
use Rattle.reg_model.specs.declared.answer.Found.{Found}
use Rattle.reg_model.specs.declared.answer.Half.{Half}
use Rattle.reg_model.specs.declared.answer.Half.TheVariants.{Loaded, Registered}
use Rattle.reg_model.specs.declared.answer.Update.{Update}
use Rattle.word_rule.specs.CallerData.{CallerData}
use Rattle.word_rule.specs.Callers.{start}
use Rattle.word_rule.specs.declared.log.Log.{Log}
use Rattle.word_rule.specs.declared.log.Terms.{Terms}
use Rattle.fde_reader.specs.Readers.{AnswersHalf, AsksHalf}

-- the state after as many updates as there are
at_end : (s : State) (past : List Update) (n : ℕ) → n ≡ length past → state_at s past n ≡ state_after s past
at_end s past n all = ap (state_after s) (take_all n past (omega (arith, all)))

answers : (t : Terms) (half : Half) (pc : ℕ) (found : Found) (k k' : CallerData) (past : List Update) (n : ℕ) → k'.log.past ≡ past → IsPrefix k.log.past past → stamp_of found ≡ n → n ≡ length past
    → query half pc (state_at (start t) past n) ≡ member_of found → AnswersHalf t half pc found k k'
answers t half pc found k k' past n is begins stamp all right = record {
  begins = subst (IsPrefix k.log.past) (sym is) begins;
  stamp = stamp ∙ all ∙ ap length (sym is);
  right = ap (query half pc) (ap (state_after (start t)) is ∙ sym (at_end (start t) past n all)) ∙ right;
}

half_answers : (half : Half) (t : Terms) (pc : ℕ) (k k' : CallerData) (found : Found) → AsksHalf half t pc k k' (Ok found) → AnswersHalf t half pc found k k'
half_answers Registered t pc k k' found s =
    answers t Registered pc found k k' s.past (stamp_of found) (ap (λ (z : CallerData). z.log.past) s.log) s.begins refl s.answer.0 s.answer.2
half_answers Loaded t pc k k' found s =
    answers t Loaded pc found k k' s.past _ (ap (λ (z : CallerData). z.log.past) s.log) s.begins s.answer.1 (sym s.seen) s.answer.2

log_alone : (k k' : CallerData) (v : Log) → k' ≡ record k { log = v } → k' ≡ record k { log = k'.log }
log_alone k k' v is = is ∙ ap (λ (l : Log). record k { log = l }) (sym (ap (λ (z : CallerData). z.log) is))

-- nothing but the log changed
pub half_rest : (half : Half) (t : Terms) (pc : ℕ) (k k' : CallerData) (result : Result Found Again) → AsksHalf half t pc k k' result → k' ≡ record k { log = k'.log }
half_rest Registered t pc k k' result s = log_alone k k' _ s.log
half_rest Loaded t pc k k' result s = log_alone k k' _ s.log

-- ---- by the answer

pub half_found : (half : Half) (t : Terms) (pc : ℕ) (k k' : CallerData) (result : Result Found Again) → AsksHalf half t pc k k' result → IfOk result (λ found. AnswersHalf t half pc found k k')
half_found half t pc k k' (Ok found) s = half_answers half t pc k k' found s
half_found half t pc k k' (Err again) s = tt

pub half_again : (half : Half) (t : Terms) (pc : ℕ) (k k' : CallerData) (result : Result Found Again) → AsksHalf half t pc k k' result → IfErr result (λ again. AsksHalf half t pc k k' (Err again))
half_again half t pc k k' (Ok found) s = tt
half_again half t pc k k' (Err again) s = s
