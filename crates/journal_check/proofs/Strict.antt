-- A journal without a flaw is lawful, but for its answers' kinds and its backtraces.
use Rattle.std.proofs.Common.{◌≡◌, ℕ, ◌+◌, ◌<◌, ◌≤◌, List, [], ◌∷◌, ◌++◌, length, get_or, Option, Some, None, IfSome, MatchOption, Bool, true, cond, ◌&&◌, leb, All, inl, inr, refl, sym, ◌∙◌, ap, subst, append_assoc, arith}
use Rattle.std.specs.List.{Contains, flat_map, AllZip}
use Rattle.std.specs.Option.{is_some}
use Rattle.std.proofs.lemmas.Bool.{cases_lt}
use Rattle.std.proofs.lemmas.List.Elements.{All-append, All-cons, All-head, All-tail, All-nil, All-weaker, All-map, All-contains, Contains-get_or, Contains-append_left, Contains-append_right, Contains-append_cases, Contains-push_cases}
use Rattle.reg_model.specs.State.{State}
use Rattle.reg_model.specs.History.{Fits, IsHistory, state_at}
use Rattle.reg_model.specs.Receipt.{moment, accepted, IsRight, AllHold, AreInOrder}
use Rattle.reg_model.specs.Numbers.{has_number, AreNumbered, history_of}
use Rattle.reg_model.specs.declared.answer.Update.{Update}
use Rattle.reg_model.specs.declared.answer.Receipt.{Receipt}
use Rattle.script_text.specs.ScriptData.{ScriptData}
use Rattle.script_text.specs.JournalData.{JournalData}
use Rattle.script_text.specs.Lawful.{RoundsHold, AreInRounds, thread_receipts, in_one, start_of, done_after, AnswersEvent, IsUnfolded, IsLawfulJournal}
use Rattle.receipt_check.proofs.Halves.{All-front, All-back}
use Rattle.receipt_check.specs.declared.account.Told.{Told}
use Rattle.receipt_check.specs.declared.account.ReceiptFlaw.TheVariants as flaw
use Rattle.receipt_check.specs.Flaws.{AccountData, told_receipts, told_history, IsFlawless}
use Rattle.journal_check.specs.Telling.{account_of}
use Rattle.journal_check.specs.declared.teller.Bounds.{Bounds}
use Rattle.journal_check.proofs.Receipts.{rounds_add}
use Rattle.journal_check.proofs.Each.{EachFrom, RoundsEach, rounds_each}
use Rattle.journal_check.proofs.Sides.{InRound, HoldsIn, InOrderAt, rounds_between, holds_each, order_each, order_from}
use Rattle.journal_check.proofs.Once.{times, times_cons, times_append, accepted_in, accepted_append, Within, total_is, each_once}
use Rattle.journal_check.proofs.Flawless.{range_from, at_most_one, own_number, if_some, one_within}
use Rattle.journal_check.proofs.Ascending.{told_ascends}
use Rattle.journal_check.proofs.Numbers.{from_some, numbered_from, history_from}

stands : (k : ℕ) (rs : List Receipt) (r : Receipt) → Contains rs r → has_number k r ≡ true → 1 ≤ times k rs
stands k [] r (i, within, is) has = absurd (omega arith)
stands k (x ∷ rs) r listed has =
    let one : Bool → ℕ = λ b. cond b 1 0 in
    let none : Contains [] r → ⊥ = λ (i, within, is). omega arith in
    let sum = times_cons k x rs in
    elim (Contains-append_cases (x ∷ []) rs r listed) [
      | inl here ↦ elim (Contains-push_cases [] x r here) [
        | inl nowhere ↦ absurd (none nowhere)
        | inr same ↦ (let mark : one (has_number k x) ≡ 1 = ap (λ (y : Receipt). one (has_number k y)) same ∙ ap one has in omega arith)
      ]
      | inr later ↦ (let rest = stands k rs r later has in omega arith)
    ]

-- all numbers up to those of the rounds before stand in them: so one of a later round is above
above_all : (n done : ℕ) (front back : List Receipt) → AreNumbered n (front ++ back) → All (Within done) front → accepted_in front ≡ done → (r : Receipt) → Contains back r → is_some (accepted r) ≡ true → done ≤ moment r → done < moment r
above_all n done front back numbered within count r listed is low = elim (cases_lt done (moment r)) [
  | inl less ↦ less
  | inr past ↦ (
      let same : moment r ≡ done = omega arith in
      let has = subst (λ (k : ℕ). has_number k r ≡ true) same (own_number r is) in
      let behind = stands done back r listed has in
      let sum = times_append done front back in
      let few = at_most_one (leb 1 done && leb done n) (times done (front ++ back)) (numbered done) in
      let above = (range_from done n (times done (front ++ back)) (numbered done) (omega arith)).0 in
      let once : (k : ℕ) → times k front ≤ 1 = λ k. (let all = times_append k front back in let most = at_most_one (leb 1 k && leb k n) (times k (front ++ back)) (numbered k) in omega arith) in
      let before = each_once front done once (total_is front done within ∙ count) done above (omega arith) in
      absurd (omega arith))
]

match_from : (a : Option Update) (A B : Type 0) → A → (is_some a ≡ true → B) → MatchOption a A (λ u. B)
match_from None A B here so = here
match_from (Some u) A B here so = so refl

within_from : (a : Option Update) (A B : Type 0) → (is_some a ≡ true → A) → B → IfSome a (λ u. A × B)
within_from None A B so here = tt
within_from (Some u) A B so here = (so refl, here)

abbrev Joined : List (List Receipt) → List Receipt
Joined round = flat_map (λ receipts. receipts) round

module _ (start : State) (history : List Update) (nodes n : ℕ) where
  threads_hold : (bounds : Bounds) (round : List (List Receipt)) → All (EachFrom (HoldsIn start history nodes bounds) 0) round → All (EachFrom (InOrderAt bounds) 0) round → All (λ r. MatchOption (accepted r) (bounds.before ≤ moment r) (λ u. bounds.before < moment r)) (Joined round) → All (λ rs. AllHold start history nodes bounds.callers bounds.before rs × AreInOrder bounds.before rs) round
  threads_hold bounds [] hold order strict = All-nil (λ (rs : List Receipt). AllHold start history nodes bounds.callers bounds.before rs × AreInOrder bounds.before rs)
  threads_hold bounds (rs ∷ round) hold order strict =
      let H = EachFrom (HoldsIn start history nodes bounds) 0 in
      let O = EachFrom (InOrderAt bounds) 0 in
      let S : Receipt → Type 0 = λ r. MatchOption (accepted r) (bounds.before ≤ moment r) (λ u. bounds.before < moment r) in
      let here = (holds_each start history nodes bounds 0 bounds.before rs (omega arith)).0 (All-head H rs round hold) in
      let ordered = order_from bounds.before rs ((order_each bounds 0 rs).0 (All-head O rs round order)) (All-front S rs (Joined round) strict) in
      All-cons (λ (rs : List Receipt). AllHold start history nodes bounds.callers bounds.before rs × AreInOrder bounds.before rs) rs round (here, ordered) (threads_hold bounds round (All-tail H rs round hold) (All-tail O rs round order) (All-back S rs (Joined round) strict))

  hold_from : (front : List Receipt) (callers done : ℕ) (rounds : List (List (List Receipt))) → AreNumbered n (front ++ in_one rounds) → All (Within done) front → accepted_in front ≡ done → AreInRounds done rounds → RoundsEach (HoldsIn start history nodes) callers done rounds → RoundsEach InOrderAt callers done rounds → RoundsHold start history nodes callers done rounds
  hold_from front callers done [] numbered within count are hold order = tt
  hold_from front callers done (round ∷ rounds) numbered within count are hold order =
      let flat = Joined round in
      let back = flat ++ in_one rounds in
      let after = done_after done round in
      let bounds : Bounds = record { before = done; after = after; callers = callers + length round } in
      let S : Receipt → Type 0 = λ r. MatchOption (accepted r) (done ≤ moment r) (λ u. done < moment r) in
      let strict : All S flat = λ i d inside. (
      let r = get_or flat i d in
      let low = (are.0 i d inside).0 in
      let listed = Contains-append_left flat (in_one rounds) r (Contains-get_or flat i d inside) in
      match_from (accepted r) (done ≤ moment r) (done < moment r) low (λ is. above_all n done front back numbered within count r listed is low)) in
      let more : accepted_in flat + done ≡ after = omega arith in
      let wider : All (Within after) front = All-weaker (Within done) (Within after) (λ r in_front. if_some (accepted r) _ (λ is. (let both = from_some (accepted r) _ in_front is in let low = both.0 in let high = both.1 in (low, omega arith)))) front within in
      let inside : All (Within after) flat = λ i d there. (
      let r = get_or flat i d in
      let high = (are.0 i d there).1 in
      let listed = Contains-append_right front back r (Contains-append_left flat (in_one rounds) r (Contains-get_or flat i d there)) in
      within_from (accepted r) (0 < moment r) (moment r ≤ after) (λ is. (range_from (moment r) n (times (moment r) (front ++ back)) (numbered (moment r)) (stands (moment r) (front ++ back) r listed (own_number r is))).0) high) in
      let whole = subst (AreNumbered n) (sym (append_assoc front flat (in_one rounds))) numbered in
      let done' : accepted_in (front ++ flat) ≡ after = accepted_append front flat ∙ omega arith in
      (threads_hold bounds round hold.0 order.0 strict, hold_from (front ++ flat) (callers + length round) after rounds whole (All-append (Within after) front flat wider inside) done' are.1 hold.1 order.1)

-- the four parts of a lawful journal that its receipts decide
pub record Parts (script : ScriptData) (journal : JournalData) : Type 0 where
  pub numbered : AreNumbered journal.updates (in_one (thread_receipts script.images journal))
  pub history : IsHistory (start_of script) (history_of (in_one (thread_receipts script.images journal)) journal.updates)
  pub receipts : RoundsHold (start_of script) (history_of (in_one (thread_receipts script.images journal)) journal.updates) script.nodes 1 0 (thread_receipts script.images journal)
  pub rounds : AreInRounds 0 (thread_receipts script.images journal)

module _ (script : ScriptData) (journal : JournalData) (free : IsFlawless (account_of script journal)) where
  abbrev account : AccountData
  account = account_of script journal

  abbrev threads : List (List (List Receipt))
  threads = thread_receipts script.images journal

  same : told_receipts account.told ≡ in_one threads
  same = rounds_add script.images 1 0 (record { told = []; line = 1; seen = 0 }) journal.rounds

  numbered_told : AreNumbered journal.updates (told_receipts account.told)
  numbered_told = numbered_from account.told journal.updates (told_ascends script.images journal.rounds) (free flaw.Number) (free flaw.Count)

  same_history : told_history account ≡ history_of (in_one threads) journal.updates
  same_history = ap (λ (rs : List Receipt). history_of rs journal.updates) same

  fits_receipt : (k : ℕ) (r : Receipt) → k < journal.updates → Contains (told_receipts account.told) r → has_number (k + 1) r ≡ true → IfSome (accepted r) (λ u. Fits u (state_at account.start (told_history account) k))
  fits_receipt k r less listed has =
      let P : Receipt → Type 0 = λ r. has_number (k + 1) r ≡ true → IfSome (accepted r) (λ u. Fits u (state_at account.start (told_history account) k)) × IsRight (state_at account.start (told_history account) k) r in
      (All-contains P (told_receipts account.told) r (All-map P (λ (t : Told). t.receipt) account.told (free flaw.History k less)) listed has).0

  is_history : IsHistory account.start (told_history account)
  is_history = history_from (told_receipts account.told) account.start journal.updates (λ k above within. one_within journal.updates k (times k (told_receipts account.told)) above within (numbered_told k)) fits_receipt journal.updates (omega arith)

  in_rounds : AreInRounds 0 threads
  in_rounds = (rounds_between 1 0 threads).0 ((rounds_each InRound script.images 1 0 (record { told = []; line = 1; seen = 0 }) journal.rounds).0 (free flaw.Round)).1

  hold : RoundsEach (HoldsIn (start_of script) (told_history account) script.nodes) 1 0 threads
  hold = ((rounds_each (HoldsIn (start_of script) (told_history account) script.nodes) script.images 1 0 (record { told = []; line = 1; seen = 0 }) journal.rounds).0 (free flaw.Answer)).1

  order : RoundsEach InOrderAt 1 0 threads
  order = ((rounds_each InOrderAt script.images 1 0 (record { told = []; line = 1; seen = 0 }) journal.rounds).0 (free flaw.Order)).1

  numbered : AreNumbered journal.updates (in_one threads)
  numbered = subst (AreNumbered journal.updates) same numbered_told

  pub parts : Parts script journal
  parts = record {
    numbered = numbered;
    history = subst (IsHistory (start_of script)) same_history is_history;
    receipts = subst (λ (h : List Update). RoundsHold (start_of script) h script.nodes 1 0 threads) same_history (hold_from (start_of script) (told_history account) script.nodes journal.updates [] 1 0 threads numbered (All-nil (Within 0)) refl in_rounds hold order);
    rounds = in_rounds;
  }

  pub lawful_from : AllZip (AllZip (AllZip AnswersEvent)) script.rounds journal.rounds → All (All (All (IsUnfolded script.sections script.snapshots))) journal.rounds → IsLawfulJournal script journal
  lawful_from answered unfolded = record { answered = answered; numbered = parts.numbered; history = parts.history; receipts = parts.receipts; rounds = parts.rounds; unfolded = unfolded }
