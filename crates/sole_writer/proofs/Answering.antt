-- What each update tells of its caller, and what a call of the writer comes to.
use Rattle.std.proofs.Common.{◌≡◌, ℕ, ◌+◌, ◌<◌, ◌≤◌, Bool, List, [], ◌∷◌, ◌++◌, length, append-nil, refl, sym, ap, subst, ◌∙◌, arith, Option, Some, None, Result, Ok, Err, true, false, true≢false}
use Rattle.std.specs.List.{All}
use Rattle.std.specs.Option.{option_to_list}
use Rattle.std.specs.Result.{IfOk, IfErr, is_err}
use Rattle.std.proofs.lemmas.List.Elements.{All-cons, All-nil}
use mathlib.Core.List.{IsPrefix}
use Rattle.array_publish.specs.Update.{CallsWith, IsRightLoad, IsRightUnload, TellsLoad, TellsUnload, is_loaded, is_unloaded, one_if}
use Rattle.btree_change.specs.Insertion.{TriesInsertion}
use Rattle.tree_descent.specs.Insertion.{IfFull}
use Rattle.tree_descent.specs.Loads.{FoundNoRoom}
use Rattle.btree_change.specs.Removal.{TriesRemoval}
use Rattle.tree_descent.specs.Updates.{AnswersUpdate, GivesUp}
use Rattle.tree_descent.proofs.NodeSteps.{calls_so}
use Rattle.version_locks.specs.Locking.{IsBusyAt}
use Rattle.version_locks.specs.declared.locking.Busy.{Busy}
use Rattle.version_locks.specs.declared.locking.Busy.TheVariants as busy
use Rattle.registry_core.specs.Begun.{TriesLoad, TriesUnload}
use Rattle.reg_model.specs.History.{IsHistory, state_after}
use Rattle.reg_model.specs.Receipt.{IsRight, accepted, moment}
use Rattle.reg_model.specs.SpanData.{IsSpan}
use Rattle.reg_model.specs.declared.answer.Inserted.{Inserted}
use Rattle.reg_model.specs.declared.answer.Inserted.TheVariants as inserted
use Rattle.reg_model.specs.declared.answer.Loading.{Loading}
use Rattle.reg_model.specs.declared.answer.Loading.TheVariants as loading
use Rattle.reg_model.specs.declared.answer.Receipt.{Receipt}
use Rattle.reg_model.specs.declared.answer.Receipt.TheVariants as receipt
use Rattle.reg_model.specs.declared.answer.Removed.{Removed}
use Rattle.reg_model.specs.declared.answer.Removed.TheVariants as removed
use Rattle.reg_model.specs.declared.answer.Update.{Update}
use Rattle.reg_model.specs.declared.answer.Update.TheVariants.{Register, Deregister, Load, Unload}
use Rattle.reg_model.specs.declared.span.Member.{Member}
use Rattle.word_rule.specs.CallerData.{CallerData, WordsData, due, surplus}
use Rattle.word_rule.specs.Callers.{IsAlone, IsIdle, IsWhole, start}
use Rattle.word_rule.specs.Logs.{load_of}
use Rattle.word_rule.specs.Places.{ALLOWANCE, CALL_CREDIT}
use Rattle.word_rule.specs.VersionLocks.{lock_place}
use Rattle.word_rule.proofs.Listings.{state_fixed}
use Rattle.word_rule.specs.declared.log.LockId.TheVariants as lock
use Rattle.word_rule.specs.declared.log.Receipts.{Receipts}
use Rattle.word_rule.specs.declared.log.Terms.{Terms}
use Rattle.sole_writer.specs.Writers.{AddsSpan, IsWriter, WriterAnswers, WriterData, WriterStops, begun_call}
use Rattle.sole_writer.proofs.Seeing.{Told, answered, still_writer}

one_at_most : (taken : Bool) → one_if taken ≤ 1
one_at_most true = omega arith
one_at_most false = omega arith

-- ---- answers

module _ (t : Terms) (b k : CallerData) where
  -- the answer accepts an update
  accepts : (r : Receipt) (u : Update) → accepted r ≡ Some u → AddsSpan u → AnswersUpdate r 1 b k → (before : List Update) → IsPrefix b.log.past before → k.log.past ≡ before ++ u ∷ [] → moment r ≡ length k.log.past → IsRight (state_after (start t) before) r → Told r t b k
  accepts r u is span call before begins past number_is right = record {
    call = subst (λ (o : Option Update). AnswersUpdate r (length (option_to_list o)) b k) (sym is) call;
    before = before;
    begins = begins;
    past = subst (λ (o : Option Update). k.log.past ≡ before ++ option_to_list o) (sym is) past;
    number_is = number_is;
    right = right;
    spans = subst (λ (o : Option Update). All AddsSpan (option_to_list o)) (sym is) (All-cons AddsSpan u [] span (All-nil AddsSpan));
  }

  -- it accepts none
  refuses : (r : Receipt) → accepted r ≡ None → AnswersUpdate r 0 b k → IsPrefix b.log.past k.log.past → moment r ≡ length k.log.past → IsRight (state_after (start t) k.log.past) r → Told r t b k
  refuses r is call begins number_is right = record {
    call = subst (λ (o : Option Update). AnswersUpdate r (length (option_to_list o)) b k) (sym is) call;
    before = k.log.past;
    begins = begins;
    past = subst (λ (o : Option Update). k.log.past ≡ k.log.past ++ option_to_list o) (sym is) (sym (append-nil k.log.past));
    number_is = number_is;
    right = right;
    spans = subst (λ (o : Option Update). All AddsSpan (option_to_list o)) (sym is) (All-nil AddsSpan);
  }

module _ (t : Terms) (b k : CallerData) (idle : IsIdle b.log) (enough : CALL_CREDIT ≤ surplus b) where
  pub registered : (m : Member) → IsSpan m.span → (answer : Inserted) → TriesInsertion t m b k answer → Told (receipt.Register m answer) t b k
  registered m span (inserted.Done number) (spare, a) = accepts t b k (receipt.Register m (inserted.Done number)) (Register m) refl span a.call a.right.0 a.right.1.0 a.right.1.1 a.right.1.2 tt
  registered m span (inserted.Overlap other stamp) (spare, a) = refuses t b k (receipt.Register m (inserted.Overlap other stamp)) refl a.call a.right.0 a.right.1 a.right.2
  registered m span (inserted.Full stamp) (spare, a) = refuses t b k (receipt.Register m (inserted.Full stamp)) refl a.call a.right.0 a.right.1 a.right.2
  registered m span inserted.Spent (few, same) = absurd (omega (arith, few, enough))

  pub deregistered : (base : ℕ) (answer : Removed) → TriesRemoval t base b k answer → Told (receipt.Deregister base answer) t b k
  deregistered base (removed.Done number m) (spare, a) = accepts t b k (receipt.Deregister base (removed.Done number m)) (Deregister base) refl tt a.call a.right.0 a.right.1.0 a.right.1.1 a.right.1.2 a.right.1.3
  deregistered base (removed.NotFound stamp) (spare, a) = refuses t b k (receipt.Deregister base (removed.NotFound stamp)) refl a.call a.right.0 a.right.1 a.right.2
  deregistered base removed.Spent (few, same) = absurd (omega (arith, few, enough))

  -- an update of the loader changes its caller as one of the tree does
  of_loader : (right : List Update → Type 0) (r : Receipt) (taken : Bool) → CallsWith right r taken b k → right k.log.past × AnswersUpdate r (one_if taken) b k
  of_loader right r taken (past, more, stores, sights, (so, e)) =
      subst (λ (z : CallerData). right z.log.past × AnswersUpdate r (one_if taken) b z) (sym e) (
        so,
        record {
          caller = record { table = refl; left = refl; terms = refl; role = refl; loader = sym idle.loader; made = refl; lineage = refl };
          receipts = refl;
          allowance = refl;
          credit = (let one = one_at_most taken in omega (arith, one));
          nothing = (idle.held, idle.out);
        },
      )

  loads : (m : Member) (answer : Loading) → TellsLoad t m b k answer → IsRightLoad t m b.log.past k.log.past answer × AnswersUpdate (receipt.Load m answer) (one_if (is_loaded answer)) b k
  loads m answer = of_loader (λ past. IsRightLoad t m b.log.past past answer) (receipt.Load m answer) (is_loaded answer)

  unloads : (base : ℕ) (answer : Removed) → TellsUnload t base b k answer → IsRightUnload t base b.log.past k.log.past answer × AnswersUpdate (receipt.Unload base answer) (one_if (is_unloaded answer)) b k
  unloads base answer = of_loader (λ past. IsRightUnload t base b.log.past past answer) (receipt.Unload base answer) (is_unloaded answer)

  pub loaded : (m : Member) → IsSpan m.span → (answer : Loading) → TriesLoad t m b k answer → Told (receipt.Load m answer) t b k
  loaded m span (loading.Done number) (spare, s) =
      let a = loads m (loading.Done number) s in
      accepts t b k (receipt.Load m (loading.Done number)) (Load m) refl span a.1 a.0.0 a.0.1.0 a.0.1.1 a.0.1.2 tt
  loaded m span (loading.Overlap other stamp) (spare, s) =
      let a = loads m (loading.Overlap other stamp) s in
      refuses t b k (receipt.Load m (loading.Overlap other stamp)) refl a.1 a.0.0 a.0.1 a.0.2
  loaded m span (loading.LoadFull stamp) (spare, s) =
      let a = loads m (loading.LoadFull stamp) s in
      refuses t b k (receipt.Load m (loading.LoadFull stamp)) refl a.1 a.0.0 a.0.1 (a.0.2, a.0.3 ∙ sym (state_fixed (start t) k.log.past).1)
  loaded m span loading.Spent (few, same) = absurd (omega (arith, few, enough))

  pub unloaded : (base : ℕ) (answer : Removed) → TriesUnload t base b k answer → Told (receipt.Unload base answer) t b k
  unloaded base (removed.Done number m) (spare, s) =
      let a = unloads base (removed.Done number m) s in
      accepts t b k (receipt.Unload base (removed.Done number m)) (Unload base) refl tt a.1 a.0.0 a.0.1.0 a.0.1.1 a.0.1.2 a.0.1.3
  unloaded base (removed.NotFound stamp) (spare, s) =
      let a = unloads base (removed.NotFound stamp) s in
      refuses t b k (receipt.Unload base (removed.NotFound stamp)) refl a.1 a.0.0 a.0.1 a.0.2
  unloaded base removed.Spent (few, same) = absurd (omega (arith, few, enough))

-- a tree that was full was found so by the loads of the call
pub full_found : (t : Terms) (m : Member) (w : WriterData) (b k k' : CallerData) → b ≡ begun_call w → k' ≡ k → (outcome : Result Inserted Busy) → IfOk outcome (TriesInsertion t m b k) → IfOk outcome (λ answer. IfFull answer (FoundNoRoom m.span.first (begun_call w) k'))
full_found t m w b k k' begun same (Ok (inserted.Done number)) s = tt
full_found t m w b k k' begun same (Ok (inserted.Overlap other stamp)) s = tt
full_found t m w b k k' begun same (Ok (inserted.Full stamp)) s = subst (λ (z : CallerData). FoundNoRoom m.span.first z k') begun (subst (λ (z : CallerData). FoundNoRoom m.span.first b z) (sym same) s.1.cause)
full_found t m w b k k' begun same (Ok inserted.Spent) s = tt
full_found t m w b k k' begun same (Err why) s = tt

-- ---- giving up

-- one that found the loader's lock taken did nothing else
pub loader_gives_up : (b k : CallerData) → IsIdle b.log → (why : Busy) → IsBusyAt lock.Loader why b k → GivesUp why b k
loader_gives_up b k idle why (is, (found, (odd, e))) =
    subst (λ (y : Busy). GivesUp y b k) (sym is) (subst (λ (z : CallerData). GivesUp (busy.Taken lock.Loader) b z) (sym e) (record {
      cause = record { before = []; load = load_of b.log (lock_place lock.Loader) found; behind = []; loads = refl; shows = (refl, odd) };
      calls = calls_so b refl refl;
      allowance = refl;
      credit = omega arith;
      nothing = (idle.held, idle.out);
    }))

module _ (w : WriterData) (is : IsWriter w) (some : 0 < w.me.left) (why : Busy) (k : CallerData) (g : GivesUp why (begun_call w) k) (stuck : Bool) (ends : stuck ≡ true) where
  abbrev stopped : WriterData
  stopped = record { words = w.words; me = k; stuck = stuck }

  stops : WriterStops why w stopped
  stops = record { cause = g.cause; past = g.calls.past; own = ap (λ (r : Receipts). r.own) g.calls.receipts; left = (let l = g.calls.caller.left in omega (arith, l, some)); words = refl; stopped = ends }

  stopped_writer : IsWriter stopped
  stopped_writer = record {
    home = g.calls.caller.table ∙ is.home;
    terms = g.calls.caller.terms ∙ is.terms;
    empty = is.empty;
    alone = subst IsAlone (sym g.calls.caller.lineage) is.alone;
    sole = (let same = ap length g.calls.past in let kept = g.allowance in let sole = is.sole in omega (arith, same, kept, sole));
    lawful = subst (IsHistory (start w.words.terms)) (sym g.calls.past) is.lawful;
    spans = subst (All AddsSpan) (sym g.calls.past) is.spans;
    idle = λ free. absurd (true≢false (sym ends ∙ free));
  }

-- ---- calls

-- What a call with this outcome makes of its writer, where an answer has this receipt.
pub record ComesTo {A : Type 0} (receipt_of : A → Receipt) (outcome : Result A Busy) (w now : WriterData) : Type 0 where
  pub answers : IfOk outcome (λ answer. WriterAnswers (receipt_of answer) w now)
  pub stops : IfErr outcome (λ why. WriterStops why w now)
  pub writer : IsWriter now

-- A call of the writer, which has these parts, on these words: `b` is its caller once an update was begun, `k` once it was tried, and `k'` once the clock was loaded.
module _ (parts w : WriterData) (is : IsWriter parts) (view_is : parts ≡ w) (free : w.stuck ≡ false) (left : 0 < w.me.left) (words : WordsData) (words_are : words ≡ parts.words) (b k k' : CallerData) (begun : b ≡ begun_call parts) (may : (0 < due b) × (CALL_CREDIT ≤ surplus b)) (same : k' ≡ k) (room : length k'.log.past + k'.log.budget.allowance ≤ ALLOWANCE) (whole : IsAlone k'.log.lineage → IsWhole k'.log) where
  idle : IsIdle parts.me.log
  idle = is.idle (ap (λ (z : WriterData). z.stuck) view_is ∙ free)

  idle_begun : IsIdle b.log
  idle_begun = subst (λ (z : CallerData). IsIdle z.log) (sym begun) idle

  some : 0 < parts.me.left
  some = subst (λ (z : WriterData). 0 < z.me.left) (sym view_is) left

  allowed : 0 < parts.me.log.budget.allowance
  allowed = let there = subst (λ (z : CallerData). 0 < due z) begun may.0 in omega (arith, there)

  -- what the try tells, from where the call was begun
  over : (tells : Terms → CallerData → CallerData → Type 0) → tells words.terms b k → tells parts.words.terms (begun_call parts) k'
  over tells told = subst (λ (z : WordsData). tells z.terms (begun_call parts) k') words_are (subst (λ (z : CallerData). tells words.terms z k') begun (subst (λ (z : CallerData). tells words.terms b z) (sym same) told))

  pub comes_to : {A : Type 0} (receipt_of : A → Receipt) (outcome : Result A Busy) (stuck : Bool) → stuck ≡ is_err outcome → (Tried : A → Type 0) → (IsIdle b.log → CALL_CREDIT ≤ surplus b → (answer : A) → Tried answer → Told (receipt_of answer) words.terms b k) → IfOk outcome Tried → (Stopped : Busy → Type 0) (Rest : Type 0) → (IsIdle b.log → (why : Busy) → Stopped why → GivesUp why b k) → IfErr outcome (λ why. (CALL_CREDIT ≤ surplus b) × Stopped why × Rest) → ComesTo receipt_of outcome w (record { words = parts.words; me = k'; stuck = stuck })
  comes_to receipt_of (Ok answer) stuck ends Tried tells tried Stopped Rest gives_up busy =
      let told = over (Told (receipt_of answer)) (tells idle_begun may.1 answer tried) in
      subst (λ (z : WriterData). ComesTo receipt_of (Ok answer) z (record { words = parts.words; me = k'; stuck = stuck })) view_is (record {
        answers = answered parts is idle some (receipt_of answer) k' told allowed room whole stuck ends;
        stops = tt;
        writer = still_writer parts is idle some (receipt_of answer) k' told allowed room whole stuck;
      })
  comes_to receipt_of (Err why) stuck ends Tried tells tried Stopped Rest gives_up busy =
      let gave_up = over (λ t. GivesUp why) (gives_up idle_begun why busy.1) in
      subst (λ (z : WriterData). ComesTo receipt_of (Err why) z (record { words = parts.words; me = k'; stuck = stuck })) view_is (record {
        answers = tt;
        stops = stops parts is some why k' gave_up stuck ends;
        writer = stopped_writer parts is some why k' gave_up stuck ends;
      })
