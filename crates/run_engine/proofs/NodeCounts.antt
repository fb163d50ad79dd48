-- What a script's rounds ask for is few.
use Rattle.std.proofs.Common.{◌≡◌, ◌⊎◌, inl, inr, ℕ, ◌+◌, ◌-◌, ◌*◌, ◌/◌, ◌<◌, ◌≤◌, min, List, length, take, get_or, All, subst, sym, ◌∙◌, ap, arith}
use Rattle.std.proofs.lemmas.Bool.{cases_lt}
use Rattle.std.proofs.lemmas.List.Elements.{All-weaker}
use Rattle.std.proofs.lemmas.List.Sums.{sum_by-le, sum_by_more, sum_by_more_le}
use Rattle.std.specs.List.{sum_by}
use Rattle.script_text.specs.ScriptData.{Counts, IsRound, IsThread}
use Rattle.script_text.specs.declared.script.Event.{Event}
use Rattle.run_engine.specs.Nodes.{IsFew, callers_asked, updates_asked}
use Rattle.run_engine.specs.Played.{updates_in}
use Rattle.run_engine.proofs.Teams.{few_updates}

pub events_few : (threads : List (List Event)) (i : ℕ) → i < length threads → (item events : List Event) → item ≡ get_or threads i item → events ≡ item → IsFew threads → length events ≤ 4096
events_few threads i within item events at is few = subst (λ (events : List Event). length events ≤ 4096) (sym at ∙ sym is) (few.1 i item within)

pub round_few : (threads : List (List Event)) → IsFew threads → sum_by updates_in threads ≤ 65536
round_few threads few =
    let each = All-weaker (λ (events : List Event). length events ≤ 4096) (λ events. updates_in events ≤ 4096) (λ events short. (let n = few_updates events in omega (arith, n, short))) threads few.1 in
    let all = sum_by-le updates_in 4096 threads each in
    let count = few.0 in
    omega (arith, all, count)

module _ (rounds : List (List (List Event))) (count : length rounds ≤ 64) (few : All IsFew rounds) where
  pub updates_few : updates_asked rounds ≤ 4194304
  updates_few =
      let all = sum_by-le (λ threads. sum_by updates_in threads) 65536 rounds (All-weaker IsFew (λ threads. sum_by updates_in threads ≤ 65536) round_few rounds few) in
      omega (arith, all, count)

  pub callers_few : callers_asked rounds ≤ 1025
  callers_few =
      let all = sum_by-le (λ (threads : List (List Event)). length threads) 16 rounds (All-weaker IsFew (λ (threads : List (List Event)). length threads ≤ 16) (λ threads is. is.0) rounds few) in
      omega (arith, all, count)

-- one of them, and what comes with it
module _ (rounds : List (List (List Event))) (i : ℕ) (within : i < length rounds) (item threads : List (List Event)) (at : item ≡ get_or rounds i item) (is : threads ≡ item) where
  here : get_or rounds i item ≡ threads
  here = sym at ∙ sym is

  pub few_here : All IsFew rounds → IsFew threads
  few_here few = subst IsFew here (few i item within)

  module _ (callers updates : ℕ) (called : callers ≡ callers_asked (take i rounds)) (asked : updates ≡ updates_asked (take i rounds)) where
    pub callers_next : callers + length threads ≡ callers_asked (take (i + 1) rounds)
    callers_next = (let more = sum_by_more (λ (threads : List (List Event)). length threads) rounds i item within in let one = ap (λ (threads : List (List Event)). length threads) here in omega (arith, called, more, one))

    pub callers_within : callers + length threads ≤ callers_asked rounds
    callers_within = (let more = sum_by_more_le (λ (threads : List (List Event)). length threads) rounds i item within in let one = ap (λ (threads : List (List Event)). length threads) here in omega (arith, called, more, one))

    pub updates_next : updates + sum_by updates_in threads ≡ updates_asked (take (i + 1) rounds)
    updates_next = (let more = sum_by_more (λ threads. sum_by updates_in threads) rounds i item within in let one = ap (λ threads. sum_by updates_in threads) here in omega (arith, asked, more, one))

    pub updates_within : updates + sum_by updates_in threads ≤ updates_asked rounds
    updates_within = (let more = sum_by_more_le (λ threads. sum_by updates_in threads) rounds i item within in let one = ap (λ threads. sum_by updates_in threads) here in omega (arith, asked, more, one))

-- the rounds of a script are few
pub rounds_are_few : (counts : Counts) (rounds : List (List (List Event))) → All (IsRound counts) rounds → All IsFew rounds
rounds_are_few counts rounds all = All-weaker (IsRound counts) IsFew (λ threads is. (is.0, All-weaker (IsThread counts) (λ (events : List Event). length events ≤ 4096) (λ events thread. thread.0) threads is.1)) rounds all

-- the lesser of what is asked for and of the most
pub enough_or_most : (most asked_callers asked_updates callers updates images n : ℕ) → callers ≡ asked_callers → updates ≡ asked_updates → n ≡ min most (4 * callers + min updates images / 2 + 2) → (n ≡ most) ⊎ (min asked_updates images + 2 < 2 * (n - 4 * asked_callers))
enough_or_most most asked_callers asked_updates callers updates images n called asked is = by (cases_lt most (4 * callers + min updates images / 2 + 2))
  where
    by : (most < 4 * callers + min updates images / 2 + 2) ⊎ (4 * callers + min updates images / 2 + 2 ≤ most) → (n ≡ most) ⊎ (min asked_updates images + 2 < 2 * (n - 4 * asked_callers))
    by (inl less) = inl (omega (arith, is, less))
    by (inr more) = inr (omega (arith, is, more, called, asked))
