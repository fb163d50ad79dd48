-- Callers of a round's threads, one for each.
use Rattle.std.proofs.Common.{◌≡◌, ℕ, ◌+◌, ◌*◌, ◌-◌, ◌<◌, ◌≤◌, subst, List, [], ◌∷◌, ◌++◌, length, map, sum, take, get_or, refl, sym, ◌∙◌, ap, arith}
use Rattle.std.specs.List.{All, AllZip}
use Rattle.std.proofs.lemmas.List.Elements.{All-get_or, All-head, All-tail, All-take}
use Rattle.std.proofs.lemmas.List.{length-take, take_all, take_more}
use Rattle.std.proofs.lemmas.List.Sums.{sum_by-cons, sum_by-le, sum_by_push}
use Rattle.reg_model.specs.declared.answer.Receipt.{Receipt}
use Rattle.word_rule.specs.CallerData.{CallerData, WordsData}
use Rattle.registry_core.specs.Calls.{Answered}
use Rattle.registry_core.specs.Rounds.{AreAnswered, IsAfterRound, IsSplitOff, after_joins, after_one_join, after_one_split, after_splits, all_split_off}
use Rattle.script_text.specs.ScriptData.{Counts, IsRound, IsThread}
use Rattle.script_text.specs.declared.script.Event.{Event}
use Rattle.script_text.specs.declared.script.Event.TheVariants.{Register, Deregister, Replace, Load, Unload, Find, Unwind}
use Rattle.run_engine.specs.Played.{updates_in, updates_of}
use Rattle.run_engine.specs.Shared.{AreManned, IsReady}

-- ---- the last one and those before it

pub AllZip-last : {A B : Type 0} (R : A → B → Type 0) (xs : List A) (x : A) (ys : List B) (y : B) → AllZip R (xs ++ x ∷ []) (ys ++ y ∷ []) → AllZip R xs ys × R x y
AllZip-last R [] x [] y all = (tt, all.0)
AllZip-last R (a ∷ xs) x (b ∷ ys) y all = (let rest = AllZip-last R xs x ys y all.1 in ((all.0, rest.0), rest.1))
AllZip-last R [] x (b ∷ []) y all = absurd all.1
AllZip-last R [] x (b ∷ c ∷ ys) y all = absurd all.1
AllZip-last R (a ∷ []) x [] y all = absurd all.1
AllZip-last R (a ∷ c ∷ xs) x [] y all = absurd all.1

pub AreAnswered-more : (lists : List (List Receipt)) (last : List Receipt) (before after : List CallerData) (k k' : CallerData) → AreAnswered lists before after → Answered last k k' → AreAnswered (lists ++ last ∷ []) (before ++ k ∷ []) (after ++ k' ∷ [])
AreAnswered-more [] last [] [] k k' all answered = (answered, tt)
AreAnswered-more (receipts ∷ lists) last (b ∷ before) (a ∷ after) k k' all answered = (all.0, AreAnswered-more lists last before after k k' all.1 answered)
AreAnswered-more [] last [] (a ∷ after) k k' all answered = absurd all
AreAnswered-more [] last (b ∷ before) after k k' all answered = absurd all
AreAnswered-more (receipts ∷ lists) last [] after k k' all answered = absurd all
AreAnswered-more (receipts ∷ lists) last (b ∷ before) [] k k' all answered = absurd all

-- ---- callers that were split off

-- each is ready, and has the update calls of its thread
pub split_manned : (bound : ℕ) (registry : WordsData) (k : CallerData) (threads : List (List Event)) (callers : List CallerData) → IsReady bound registry k → AllZip (IsSplitOff k) (map updates_in threads) callers → AreManned bound registry threads callers
split_manned bound registry k [] [] ready all = tt
split_manned bound registry k (events ∷ threads) (c ∷ callers) ready all =
    let new = all.0 in
    let left = new.left in (
      (
        record {
          table = new.table ∙ ready.table;
          terms = new.terms ∙ ready.terms;
          payloads = ready.payloads;
          idle = new.idle;
        },
        omega (arith, left),
      ),
      split_manned bound registry k threads callers ready all.1,
    )
split_manned bound registry k [] (c ∷ callers) ready all = absurd all
split_manned bound registry k (events ∷ threads) [] ready all = absurd all

-- ---- update calls

pub event_once : (happens : Event) → updates_of happens ≤ 1
event_once (Register image) = omega arith
event_once (Deregister base) = omega arith
event_once (Replace image) = omega arith
event_once (Load image) = omega arith
event_once (Unload base) = omega arith
event_once (Find pc) = omega arith
event_once (Unwind snapshot) = omega arith

pub few_updates : (events : List Event) → updates_in events ≤ length events
few_updates events = (let few = sum_by-le updates_of 1 events (λ k d within. event_once _) in omega (arith, few))

-- one event more
updates_next : (events : List Event) (i : ℕ) → i < length events → updates_in (take (i + 1) events) ≡ updates_in (take i events) + updates_of (get_or events i (Register 0))
updates_next events i within = ap updates_in (take_more events i (Register 0) within) ∙ sum_by_push updates_of (take i events) (get_or events i (Register 0))

pub counted_next : (events : List Event) (i n k : ℕ) → i < length events → n ≡ updates_in (take i events) → k ≡ updates_of (get_or events i (Register 0)) → n + k ≡ updates_in (take (i + 1) events)
counted_next events i n k within so_far here = (let next = updates_next events i within in omega (arith, so_far, here, next))

pub left_next : (events : List Event) (i a b c : ℕ) → i < length events → a ≤ b + updates_in (take i events) → b ≤ c + updates_of (get_or events i (Register 0)) → a ≤ c + updates_in (take (i + 1) events)
left_next events i a b c within so_far here = (let next = updates_next events i within in omega (arith, so_far, here, next))

pub count_fits : (events : List Event) (happens : Event) (i n k : ℕ) → length events ≤ 4096 → n ≡ updates_in (take i events) → k ≡ updates_of happens → n + k ≤ 4097
count_fits events happens i n k few so_far here =
    let front = few_updates (take i events) in
    let short = length-take i events in
    let one = event_once happens in
    omega (arith, few, so_far, here, front, short, one)

sum_more : (n : ℕ) (ns : List ℕ) → sum (n ∷ ns) ≡ n + sum ns
sum_more n ns = sum_by-cons (λ (k : ℕ). k) n ns

pub few_given : (counts : Counts) (threads : List (List Event)) → All (IsThread counts) threads → sum (map updates_in threads) ≤ 4096 * length threads
few_given counts [] all = omega arith
few_given counts (events ∷ threads) all =
    let here = (All-head (IsThread counts) events threads all).0 in
    let count = few_updates events in
    let rest = few_given counts threads (All-tail (IsThread counts) events threads all) in
    let more = sum_more (updates_in events) (map updates_in threads) in
    omega (arith, here, count, rest, more)

pub splits_left : (gives : List ℕ) (k : CallerData) → sum gives ≤ k.left → (after_splits gives k).left + sum gives ≡ k.left
splits_left [] k room = omega arith
splits_left (give ∷ gives) k room =
    let more = sum_more give gives in
    let rest = splits_left gives (after_one_split give k) (omega (arith, room, more)) in
    omega (arith, rest, room, more)

pub joins_left : (others : List CallerData) (k : CallerData) → k.left ≤ (after_joins others k).left
joins_left [] k = omega arith
joins_left (other ∷ others) k = (let rest = joins_left others (after_one_join other k) in omega (arith, rest))

-- ---- the caller after a round

pub after_ready : (bound : ℕ) (registry : WordsData) (lists : List (List Receipt)) (k k' : CallerData) → IsAfterRound lists k k' → IsReady bound registry k → IsReady bound registry k'
after_ready bound registry lists k k' after ready = record {
  table = after.table ∙ ready.table;
  terms = after.terms ∙ ready.terms;
  payloads = ready.payloads;
  idle = after.between.idle;
}

-- ---- a round: splitting off, the threads' calls, joining

pub team_manned : ((k : CallerData) (gives : List ℕ) → AllZip (IsSplitOff k) gives (all_split_off gives k)) → (bound : ℕ) (registry : WordsData) (k : CallerData) (threads : List (List Event)) (gives : List ℕ) (callers : List CallerData) → IsReady bound registry k → gives ≡ map updates_in threads → callers ≡ all_split_off gives k → AreManned bound registry threads callers
team_manned new bound registry k threads gives callers ready given split =
    let P : List CallerData → Type 0 = λ cs. AllZip (IsSplitOff k) gives cs in
    let Q : List ℕ → Type 0 = λ ns. AllZip (IsSplitOff k) ns callers in
    split_manned bound registry k threads callers ready (subst Q given (subst P (sym split) (new k gives)))

splits_table : (gives : List ℕ) (k : CallerData) → (after_splits gives k).table ≡ k.table
splits_table [] k = refl
splits_table (give ∷ gives) k = splits_table gives (after_one_split give k)

pub split_table : (gives : List ℕ) (registry : WordsData) (k m : CallerData) → m ≡ after_splits gives k → k.table ≡ registry.table → m.table ≡ registry.table
split_table gives registry k m split is = ap (λ (c : CallerData). c.table) split ∙ (splits_table gives k ∙ is)

-- what the round leaves of the caller's update calls
pub round_left : (counts : Counts) (threads : List (List Event)) (k m n : CallerData) (gives : List ℕ) (after : List CallerData) → IsRound counts threads → gives ≡ map updates_in threads → 65536 ≤ k.left → m ≡ after_splits gives k → n ≡ after_joins after m → k.left ≤ n.left + 65536
round_left counts threads k m n gives after round given room left joined =
    let few = few_given counts threads round.1 in
    let threads_few = round.0 in
    let total : sum gives ≡ sum (map updates_in threads) = ap sum given in
    let split = splits_left gives k (omega (arith, few, threads_few, total, room)) in
    let m_left : m.left ≡ (after_splits gives k).left = ap (λ (c : CallerData). c.left) left in
    let n_left : n.left ≡ (after_joins after m).left = ap (λ (c : CallerData). c.left) joined in
    let more = joins_left after m in
    omega (arith, few, threads_few, total, split, m_left, n_left, more)

pub given_room : (counts : Counts) (threads : List (List Event)) (gives : List ℕ) (room : ℕ) → IsRound counts threads → gives ≡ map updates_in threads → 65536 ≤ room → sum gives ≤ room
given_room counts threads gives room round given enough =
    let few = few_given counts threads round.1 in
    let threads_few = round.0 in
    let total : sum gives ≡ sum (map updates_in threads) = ap sum given in
    omega (arith, few, threads_few, total, enough)

-- ---- the last thread of a round, and those before it

pub record LastParts (counts : Counts) (bound : ℕ) (registry : WordsData) (threads : List (List Event)) (before : List CallerData) (me : CallerData) (thread : List Event) : Type 0 where
  pub whole : threads ≡ take (length threads - 1) threads ++ thread ∷ []
  pub front : IsRound counts (take (length threads - 1) threads)
  pub front_manned : AreManned bound registry (take (length threads - 1) threads) before
  pub last : IsThread counts thread
  pub ready : IsReady bound registry me
  pub left : updates_in thread ≤ me.left

pub last_parts : (counts : Counts) (bound : ℕ) (registry : WordsData) (threads : List (List Event)) (callers before : List CallerData) (me : CallerData) (thread : List Event) → 1 ≤ length threads → IsRound counts threads → AreManned bound registry threads callers → callers ≡ before ++ me ∷ [] → thread ≡ get_or threads (length threads - 1) thread → LastParts counts bound registry threads before me thread
last_parts counts bound registry threads callers before me thread some round manned split is =
    let n = length threads - 1 in
    let within : n < length threads = omega (arith, some) in
    let next : n + 1 ≡ length threads = omega (arith, some) in
    let whole : threads ≡ take n threads ++ thread ∷ [] =
    sym (take_all (n + 1) threads (omega (arith, next))) ∙ (take_more threads n thread within ∙ ap (λ t. take n threads ++ t ∷ []) (sym is)) in
    let M : List (List Event) → Type 0 = λ ts. AreManned bound registry ts (before ++ me ∷ []) in
    let C : List CallerData → Type 0 = λ cs. AreManned bound registry threads cs in
    let R : List Event → CallerData → Type 0 = λ events k. IsReady bound registry k × (updates_in events ≤ k.left) in
    let parts = AllZip-last R (take n threads) thread before me (subst M whole (subst C split manned)) in
    let short = length-take n threads in
    let few = round.0 in
    let T : List Event → Type 0 = λ events. IsThread counts events in
    record {
      whole = whole;
      front = (omega (arith, short, few, some), All-take (IsThread counts) n threads round.1);
      front_manned = parts.0;
      last = subst T (sym is) (All-get_or (IsThread counts) threads n thread within round.1);
      ready = parts.1.0;
      left = parts.1.1;
    }
