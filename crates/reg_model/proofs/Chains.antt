-- Chains of calls: their receipts hold in the history that they make, and their stamps and numbers rise.
use Rattle.std.proofs.Common.{◌≡◌, ℕ, ◌+◌, ◌-◌, ◌*◌, ◌<◌, ◌≤◌, List, [], ◌∷◌, ◌++◌, Option, Some, None, cond, ◌&&◌, eqb, leb, MatchOption, ◌∙◌, ap, subst, append_assoc, arith}
use Rattle.std.specs.List.{AllByRecursion}
use Rattle.std.specs.Option.{is_some}
use Rattle.std.proofs.lemmas.Bool.Decides.{nat_tests}
use Rattle.std.proofs.lemmas.List.{append-nil}
use Rattle.std.proofs.lemmas.List.Sums.{sum_by-cons}
use Rattle.reg_model.specs.State.{State}
use Rattle.reg_model.specs.History.{Fits, after}
use Rattle.reg_model.specs.Receipt.{moment, accepted, made, HadRegistered, WasFilled}
use Rattle.reg_model.specs.Numbers.{has_number}
use Rattle.reg_model.specs.PlainRegistryData.{PlainRegistryData, LeadsTo, Step}
use Rattle.reg_model.specs.Chain.{Chain, HasRoom, PlainStep, all_made, HoldsAlways, IsBetween, Rises}
use Rattle.reg_model.specs.declared.answer.Inserted.TheVariants as inserted
use Rattle.reg_model.specs.declared.answer.Update.{Update}
use Rattle.reg_model.specs.declared.answer.Receipt.{Receipt}
use Rattle.reg_model.specs.declared.answer.Receipt.TheVariants.{Register, Deregister, Replace, Load, Unload, Query}
use Rattle.reg_model.proofs.Receipts.{step_holds, holds_on}

had_from : (least : ℕ) (start : State) (history : List Update) (since : ℕ) (r : Receipt) → HasRoom r → HadRegistered least start history since r
had_from least start history since (Register m (inserted.Full stamp)) room = absurd room
had_from least start history since (Register m (inserted.Done number)) room = tt
had_from least start history since (Register m (inserted.Overlap other stamp)) room = tt
had_from least start history since (Register m inserted.Spent) room = tt
had_from least start history since (Deregister base answer) room = tt
had_from least start history since (Replace m answer) room = tt
had_from least start history since (Load m answer) room = tt
had_from least start history since (Unload base answer) room = tt
had_from least start history since (Query half pc found) room = tt

filled_from : (start : State) (history : List Update) (nodes callers since : ℕ) (r : Receipt) → HasRoom r → WasFilled start history nodes callers since r
filled_from start history nodes callers since r room = record { ten = had_from 10 start history since r room; most = λ _. had_from (2 * (nodes - 4 * callers)) start history since r room }

pub chain_leads : (start : State) (history : List Update) (a b : PlainRegistryData) (receipts : List Receipt) → LeadsTo start history a → Chain PlainStep a receipts b → LeadsTo start (history ++ all_made receipts) b
chain_leads start history a b [] leads chain = rw (append-nil, chain) leads
chain_leads start history a b (r ∷ receipts) leads (mid, call, chain) =
    let next = step_holds start history a mid 0 0 0 r leads call.step (filled_from start (history ++ made r) 0 0 0 r call.room) in
    rw (← append_assoc history (made r) (all_made receipts)) (chain_leads start (history ++ made r) mid b receipts next.0 chain)

pub chain_holds : (start : State) (history : List Update) (a b : PlainRegistryData) (receipts : List Receipt) → LeadsTo start history a → Chain PlainStep a receipts b → AllByRecursion (HoldsAlways start (history ++ all_made receipts)) receipts
chain_holds start history a b [] leads chain = tt
chain_holds start history a b (r ∷ receipts) leads (mid, call, chain) =
    let next = λ (nodes callers since : ℕ). step_holds start history a mid nodes callers since r leads call.step (filled_from start (history ++ made r) nodes callers since r call.room) in
    let P : List Update → Type 0 = λ all. AllByRecursion (HoldsAlways start all) (r ∷ receipts) in
    subst P (append_assoc history (made r) (all_made receipts)) (
      record { always = λ nodes callers since. holds_on start (history ++ made r) (all_made receipts) nodes callers callers since r (omega arith) (next nodes callers since).1 },
      chain_holds start (history ++ made r) mid b receipts (next 0 0 0).0 chain,
    )

-- the number of updates after a step is its moment, and one more than before it where it accepts one
record Moves (old : ℕ) (n : ℕ) (a : Option Update) (new : ℕ) : Type 0 where
  now : n ≡ new
  from : new ≡ old + cond (is_some a) 1 0

moves_by : (old new : PlainRegistryData) (n : ℕ) (a : Option Update) → MatchOption a ((n ≡ old.updates) × (new ≡ old)) (λ u. Fits u old.state × (n ≡ old.updates + 1) × (new ≡ record { state = after u old.state; updates = old.updates + 1 })) → Moves old.updates n a new.updates
moves_by old new n None changes = (let same : new.updates ≡ old.updates = ap (λ (c : PlainRegistryData). c.updates) changes.1 in let now = changes.0 in record { now = omega arith; from = omega arith })
moves_by old new n (Some u) changes = (let more : new.updates ≡ old.updates + 1 = ap (λ (c : PlainRegistryData). c.updates) changes.2 in let now = changes.1 in record { now = omega arith; from = omega arith })

moves : (old new : PlainRegistryData) (r : Receipt) → Step old r new → Moves old.updates (moment r) (accepted r) new.updates
moves old new r step = moves_by old new (moment r) (accepted r) step.changes

between_wider : (low low' high : ℕ) (receipts : List Receipt) → low' ≤ low → AllByRecursion (IsBetween low high) receipts → AllByRecursion (IsBetween low' high) receipts
between_wider low low' high [] less all = tt
between_wider low low' high (r ∷ receipts) less all = ((let first = all.0.0 in omega arith, all.0.1), between_wider low low' high receipts less all.1)

order_by : (old new n since : ℕ) (a : Option Update) → since ≤ old → Moves old n a new → MatchOption a (since ≤ n) (λ u. since < n)
order_by old new n since None before move = (let now = move.now in let from = move.from in omega arith)
order_by old new n since (Some u) before move = (let now = move.now in let from = move.from in omega arith)

-- how often a number stands on receipts whose numbers are those above low, up to high
abbrev once : ℕ → ℕ → ℕ → ℕ
once low high number = cond (leb (low + 1) number && leb number high) 1 0

once_done : (low high n number : ℕ) → n ≡ low + 1 → n ≤ high → cond (eqb n number) 1 0 + once n high number ≡ once low high number
once_done low high n number is within = grind (arith, nat_tests)

once_step : (low mid high n number : ℕ) (a : Option Update) → Moves low n a mid → mid ≤ high → cond (is_some a && eqb n number) 1 0 + once mid high number ≡ once low high number
once_step low mid high n number None move within =
    let same : mid ≡ low = (let from = move.from in omega arith) in
    rw same (omega arith)
once_step low mid high n number (Some u) move within =
    let now = move.now in
    let from = move.from in
    rw (← now) (once_done low high n number (omega arith) (omega arith))

once_none : (low number : ℕ) → 0 ≡ once low low number
once_none low number = grind (arith, nat_tests)

pub chain_rises : (a b : PlainRegistryData) (receipts : List Receipt) → Chain PlainStep a receipts b → Rises a receipts b
chain_rises a b [] chain = record {
  count = (let same = ap (λ (c : PlainRegistryData). c.updates) chain in omega arith);
  between = tt;
  order = λ since before. tt;
  numbers = λ number. rw chain (once_none a.updates number);
}
chain_rises a b (r ∷ receipts) (mid, call, chain) =
    let move = moves a mid r call.step in
    let now = move.now in
    let from = move.from in
    let rest = chain_rises mid b receipts chain in
    let count = rest.count in
    let one = sum_by-cons (λ (r : Receipt). cond (is_some (accepted r)) 1 0) r receipts in
    record {
      count = omega arith;
      between = ((omega arith, omega arith), between_wider mid.updates a.updates b.updates receipts (omega arith) rest.between);
      order = λ since before. (order_by a.updates mid.updates (moment r) since (accepted r) before move, rest.order (moment r) (omega arith));
      numbers = λ number.
          sum_by-cons (λ (r : Receipt). cond (has_number number r) 1 0) r receipts
          ∙ ap (λ n. cond (has_number number r) 1 0 + n) (rest.numbers number)
          ∙ once_step a.updates mid.updates b.updates (moment r) number (accepted r) move (omega arith);
    }
