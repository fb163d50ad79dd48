-- What putting one member and taking one away make of the caller that updates the registry.
use Rattle.std.proofs.Common.{◌≡◌, ℕ, ◌+◌, ◌≤◌, List, [], ◌∷◌, ◌++◌, Bool, false, cond, eqb, Option, refl, sym, ap, ◌∙◌, subst, arith, length, Result, Ok, Err, IfOk, IfErr, IsNone, true≢false}
use Rattle.std.specs.List.{All, Contains}
use Rattle.std.proofs.lemmas.Bool.{ne_eqb}
use Rattle.std.proofs.lemmas.List.Elements.{All-cons, All-nil}
use Rattle.version_locks.specs.declared.locking.Busy.{Busy}
use Rattle.reg_model.specs.History.{after}
use Rattle.reg_model.specs.PlainRegistryData.{PlainRegistryData}
use Rattle.reg_model.specs.SpanData.{IsSpan}
use Rattle.reg_model.specs.State.{AreDisjoint, IsLawful, State}
use Rattle.reg_model.specs.declared.answer.Half.{Half}
use Rattle.reg_model.specs.declared.answer.Half.TheVariants.{Loaded, Registered}
use Rattle.reg_model.specs.declared.answer.Inserted.TheVariants as inserted
use Rattle.reg_model.specs.declared.answer.Loading.{Loading}
use Rattle.reg_model.specs.declared.answer.Loading.TheVariants as loading
use Rattle.reg_model.specs.declared.answer.Receipt.{Receipt}
use Rattle.reg_model.specs.declared.answer.Receipt.TheVariants as receipt
use Rattle.reg_model.specs.declared.answer.Removed.TheVariants as removed
use Rattle.reg_model.specs.declared.answer.Update.{Update}
use Rattle.reg_model.specs.declared.answer.Update.TheVariants.{Register, Deregister, Load, Unload}
use Rattle.reg_model.specs.declared.span.Member.{Member}
use Rattle.sole_writer.specs.Writers.{WriterAnswers, WriterData, WriterStops, plain_registry, plain_registry_after}
use Rattle.word_rule.specs.CallerData.{WordsData}
use Rattle.fde_writer.specs.Places.{GainsPlaces, HaveSame, HoldsAtLeast, LosesAtMost, PlaceData}
use Rattle.fde_writer.specs.Puttings.{IsLoadingFault, IsPutFault, Puts, PutsNone, StopsPutting, StopsTaking, TakesAway, removal_from, writer_state, writer_updates}
use Rattle.fde_writer.specs.Runs.{AddsAmong, IsNoRoom, Runs, numbers_told}
use Rattle.fde_writer.specs.declared.outcome.Numbers.{Numbers}
use Rattle.fde_writer.specs.declared.putting.PutFault.{PutFault}
use Rattle.fde_writer.specs.declared.putting.PutFault.TheVariants as fault
use Rattle.fde_writer.proofs.Calls.{received, received_before, received_later, runs_more, runs_none, runs_one, runs_then, taken_within}
use Rattle.fde_writer.proofs.Counts.{base_found}
use Rattle.fde_writer.proofs.Gaining.{at, gains_loaded, gains_registered, loses_loaded, loses_registered, stands_there}

-- the numbers of one update
abbrev pub one : ℕ → Numbers
one number = record { first = number; last = number }

pub one_told : (old new number : ℕ) → new ≡ old + 1 → number ≡ old + 1 → one number ≡ numbers_told old new
one_told old new number next is =
    let apart : eqb old new ≡ false = ne_eqb old new (λ same. omega (arith, next, same)) in
    let last : number ≡ new = is ∙ sym next in
    ap (λ (n : ℕ). record { first = n; last = number }) is ∙ ap (λ (n : ℕ). record { first = old + 1; last = n }) last
    ∙ sym (ap (λ (b : Bool). cond b (record { first = 0; last = 0 }) (record { first = old + 1; last = new })) apart)

-- a call that changed nothing
same_members : (w w' : WriterData) → plain_registry w' ≡ plain_registry w → HaveSame (writer_state w) (writer_state w')
same_members w w' same = subst (λ (p : PlainRegistryData). HaveSame (writer_state w) p.state) (sym same) (λ half test. refl)

-- one that was accepted
module _ (m : Member) (half : Half) (number : ℕ) (w w' : WriterData) where
  put_one : (s : State) → plain_registry w' ≡ record { state = s; updates = writer_updates w + 1 } → number ≡ writer_updates w + 1 → GainsPlaces (at half m ∷ []) (writer_state w) s → Runs (m ∷ []) 1 w w' → w'.stuck ≡ false → Puts (m ∷ []) 1 (at half m ∷ []) (one number) w w'
  put_one s new is gains runs free = record {
    whole = refl;
    gains = subst (λ (p : PlainRegistryData). GainsPlaces (at half m ∷ []) (writer_state w) p.state) (sym new) gains;
    runs = runs;
    count = ap (λ (p : PlainRegistryData). p.updates) new;
    told = one_told (writer_updates w) (writer_updates w') number (ap (λ (p : PlainRegistryData). p.updates) new) is;
    free = free;
  }

adds_itself : (m : Member) → Contains (m ∷ []) m
adds_itself m = (0, omega arith, refl)

pub put_registered : (m : Member) (number : ℕ) (w w' : WriterData) → WriterAnswers (receipt.Register m (inserted.Done number)) w w' → Puts (m ∷ []) 1 (at Registered m ∷ []) (one number) w w'
put_registered m number w w' a =
    put_one m Registered number w w' (after (Register m) (writer_state w)) a.step.changes.2 a.step.changes.1 (gains_registered m (writer_state w))
    (runs_one (m ∷ []) _ w w' a (All-cons (AddsAmong (m ∷ [])) (Register m) [] (adds_itself m) (All-nil (AddsAmong (m ∷ []))))) a.free

pub put_loaded : (m : Member) (number : ℕ) (w w' : WriterData) → WriterAnswers (receipt.Load m (loading.Done number)) w w' → Puts (m ∷ []) 1 (at Loaded m ∷ []) (one number) w w'
put_loaded m number w w' a =
    put_one m Loaded number w w' (after (Load m) (writer_state w)) a.step.changes.2 a.step.changes.1 (gains_loaded m (writer_state w))
    (runs_one (m ∷ []) _ w w' a (All-cons (AddsAmong (m ∷ [])) (Load m) [] (adds_itself m) (All-nil (AddsAmong (m ∷ []))))) a.free

-- with more calls
pub puts_more : (ms : List Member) (a b : ℕ) (ps : List PlaceData) (n : Numbers) (w w' : WriterData) → a ≤ b → Puts ms a ps n w w' → Puts ms b ps n w w'
puts_more ms a b ps n w w' le puts = record { whole = puts.whole; gains = puts.gains; runs = runs_more ms ms a b w w' (λ m there. there) le puts.runs; count = puts.count; told = puts.told; free = puts.free }

-- one that was refused
pub put_none : (ms : List Member) (r : Receipt) (w w' : WriterData) → WriterAnswers r w w' → plain_registry w' ≡ plain_registry w → All (AddsAmong ms) (Rattle.reg_model.specs.Receipt.made r) → PutsNone ms 1 w w'
put_none ms r w w' a same adds = record { same = same_members w w' same; runs = runs_one ms r w w' a adds; free = a.free }

pub load_refused : (m : Member) (answer : Loading) (w w' : WriterData) → IsNoRoom answer → WriterAnswers (receipt.Load m answer) w w' → IsLoadingFault m w w' fault.Overlap
load_refused m (loading.Overlap other stamp) w w' refused a = (put_none (m ∷ []) _ w w' a a.step.changes.1 (All-nil (AddsAmong (m ∷ []))), (loading.Overlap other stamp, tt, received _ w w' a))
load_refused m (loading.LoadFull stamp) w w' refused a = (put_none (m ∷ []) _ w w' a a.step.changes.1 (All-nil (AddsAmong (m ∷ []))), (loading.LoadFull stamp, tt, received _ w w' a))
load_refused m (loading.Done number) w w' refused a = absurd refused
load_refused m loading.Spent w w' refused a = absurd refused

-- the members of a stopped one
stopped_same : (why : Busy) (w w' : WriterData) → WriterStops why w w' → plain_registry w' ≡ plain_registry w
stopped_same why w w' stops =
    ap (λ (x : WordsData). plain_registry_after x.terms w'.me.log.past) stops.words ∙ ap (plain_registry_after w.words.terms) stops.past

pub put_stopped : (ms : List Member) (n : ℕ) (why : Busy) (w w' : WriterData) → WriterStops why w w' → StopsPutting ms n w w'
put_stopped ms n why w w' stops = record {
  keeps = (let same = same_members w w' (stopped_same why w w' stops) in λ half test. (let e = same half test in omega (arith, e)));
  cause = (w, why, runs_more ms ms 0 n w w (λ m there. there) (omega arith) (runs_none ms w), stops);
  stopped = stops.stopped;
}

-- a registration that overlaps another, and then a load
module _ (m other : Member) (stamp : ℕ) (w v u : WriterData) (a : WriterAnswers (receipt.Register m (inserted.Overlap other stamp)) w v) where
  first : Runs (m ∷ []) 1 w v
  first = runs_one (m ∷ []) _ w v a (All-nil (AddsAmong (m ∷ [])))

  pub put_after : (half : Half) (n : Numbers) → Puts (m ∷ []) 1 (at half m ∷ []) n v u → Puts (m ∷ []) 2 (at half m ∷ []) n w u
  put_after half n puts = record {
    whole = puts.whole;
    gains = subst (λ (p : PlainRegistryData). GainsPlaces (at half m ∷ []) p.state (writer_state u)) a.step.changes.1 puts.gains;
    runs = runs_then (m ∷ []) 1 1 w v u first puts.runs;
    count = subst (λ (p : PlainRegistryData). writer_updates u ≡ p.updates + 1) a.step.changes.1 puts.count;
    told = subst (λ (p : PlainRegistryData). n ≡ numbers_told p.updates (writer_updates u)) a.step.changes.1 puts.told;
    free = puts.free;
  }

  pub fault_after : (f : PutFault) → IsLoadingFault m v u f → IsPutFault (m ∷ []) 2 w u f
  fault_after fault.Overlap is = (
    record {
      same = subst (λ (p : PlainRegistryData). HaveSame p.state (writer_state u)) a.step.changes.1 is.0.same;
      runs = runs_then (m ∷ []) 1 1 w v u first is.0.runs;
      free = is.0.free;
    },
    record {
      member = m;
      among = adds_itself m;
      other = other;
      stamp = stamp;
      registered = received_before _ (m ∷ []) 1 w v u (received _ w v a) is.0.runs;
      answer = is.1.0;
      no_room = is.1.1;
      loaded = received_later _ (m ∷ []) 1 w v u first is.1.2;
    },
  )
  fault_after fault.Full is = absurd is
  fault_after fault.Stuck is = record {
    keeps = subst (λ (p : PlainRegistryData). LosesAtMost [] p.state (writer_state u)) a.step.changes.1 is.keeps;
    cause = taken_within (m ∷ []) (m ∷ []) (λ x there. there) 1 1 2 w v u (omega arith) first is.cause;
    stopped = is.stopped;
  }

pub full_fault : (m : Member) (stamp : ℕ) (w w' : WriterData) → WriterAnswers (receipt.Register m (inserted.Full stamp)) w w' → IsPutFault (m ∷ []) 2 w w' fault.Full
full_fault m stamp w w' a =
    let none = put_none (m ∷ []) _ w w' a a.step.changes.1 (All-nil (AddsAmong (m ∷ []))) in (
      record { same = none.same; runs = runs_more (m ∷ []) (m ∷ []) 1 2 w w' (λ x there. there) (omega arith) none.runs; free = none.free },
      record { member = m; among = adds_itself m; stamp = stamp; registered = received _ w w' a },
    )

-- the loaded members are disjoint
loaded_apart : (s : State) → IsLawful s → AreDisjoint s.loaded
loaded_apart s lawful = go s.fixed lawful.objects
  where
    go : (front : List Member) → AreDisjoint (front ++ s.loaded) → AreDisjoint s.loaded
    go [] disjoint = disjoint
    go (m ∷ front) disjoint = go front disjoint.1

-- what a writer knows of its registry
pub record Known (w : WriterData) : Type 0 where
  pub lawful : IsLawful (writer_state w)
  pub registered : All (λ m. IsSpan m.span) (writer_state w).registered
  pub loaded : All (λ m. IsSpan m.span) (writer_state w).loaded

pub take_one : (m : Member) (half : Half) (number : ℕ) (r : Receipt) (u : Update) (w w' : WriterData) → WriterAnswers r w w' → plain_registry w' ≡ record { state = after u (writer_state w); updates = writer_updates w + 1 } → number ≡ writer_updates w + 1
    → GainsPlaces (at half m ∷ []) (after u (writer_state w)) (writer_state w) → All (AddsAmong []) (Rattle.reg_model.specs.Receipt.made r) → TakesAway (at half m ∷ []) (one number) w w'
take_one m half number r u w w' a new is loses adds = record {
  loses = subst (λ (p : PlainRegistryData). GainsPlaces (at half m ∷ []) p.state (writer_state w)) (sym new) loses;
  runs = runs_one [] r w w' a adds;
  count = ap (λ (p : PlainRegistryData). p.updates) new;
  told = one_told (writer_updates w) (writer_updates w') number (ap (λ (p : PlainRegistryData). p.updates) new) is;
  free = a.free;
}

take_registered : (m gone : Member) (number : ℕ) (w w' : WriterData) → Known w → HoldsAtLeast (writer_state w) (at Registered m ∷ []) → WriterAnswers (receipt.Deregister m.span.first (removed.Done number gone)) w w' → TakesAway (at Registered m ∷ []) (one number) w w'
take_registered m gone number w w' known holds a =
    take_one m Registered number _ (Deregister m.span.first) w w' a a.step.changes.2 a.step.changes.1
    (loses_registered m (writer_state w) known.lawful.registered known.registered (stands_there Registered m (writer_state w) holds))
    (All-cons (AddsAmong []) (Deregister m.span.first) [] tt (All-nil (AddsAmong [])))

take_loaded : (m gone : Member) (number : ℕ) (w w' : WriterData) → Known w → HoldsAtLeast (writer_state w) (at Loaded m ∷ []) → WriterAnswers (receipt.Unload m.span.first (removed.Done number gone)) w w' → TakesAway (at Loaded m ∷ []) (one number) w w'
take_loaded m gone number w w' known holds a =
    take_one m Loaded number _ (Unload m.span.first) w w' a a.step.changes.2 a.step.changes.1
    (loses_loaded m (writer_state w) (loaded_apart (writer_state w) known.lawful) known.loaded (stands_there Loaded m (writer_state w) holds))
    (All-cons (AddsAmong []) (Unload m.span.first) [] tt (All-nil (AddsAmong [])))

-- a member that is held is never not found
never_registered : (m : Member) (stamp : ℕ) (w w' : WriterData) → Known w → HoldsAtLeast (writer_state w) (at Registered m ∷ []) → WriterAnswers (receipt.Deregister m.span.first (removed.NotFound stamp)) w w' → ⊥
never_registered m stamp w w' known holds a =
    true≢false (subst (λ (o : Option Member). IsNone o) (base_found (writer_state w).registered m known.lawful.registered known.registered (stands_there Registered m (writer_state w) holds)) a.step.right)

never_loaded : (m : Member) (stamp : ℕ) (w w' : WriterData) → Known w → HoldsAtLeast (writer_state w) (at Loaded m ∷ []) → WriterAnswers (receipt.Unload m.span.first (removed.NotFound stamp)) w w' → ⊥
never_loaded m stamp w w' known holds a =
    true≢false (subst (λ (o : Option Member). IsNone o) (base_found (writer_state w).loaded m (loaded_apart (writer_state w) known.lawful) known.loaded (stands_there Loaded m (writer_state w) holds)) a.step.right)

-- the same of either half
pub taken : (half : Half) (m gone : Member) (number : ℕ) (w w' : WriterData) → Known w → HoldsAtLeast (writer_state w) (at half m ∷ []) → WriterAnswers (removal_from half m.span.first (removed.Done number gone)) w w' → TakesAway (at half m ∷ []) (one number) w w'
taken Registered = take_registered
taken Loaded = take_loaded

pub never_missing : (half : Half) (m : Member) (stamp : ℕ) (w w' : WriterData) → Known w → HoldsAtLeast (writer_state w) (at half m ∷ []) → WriterAnswers (removal_from half m.span.first (removed.NotFound stamp)) w w' → ⊥
never_missing Registered = never_registered
never_missing Loaded = never_loaded

pub take_stopped : (ps : List PlaceData) (why : Busy) (w w' : WriterData) → WriterStops why w w' → StopsTaking ps w w'
take_stopped ps why w w' stops = record {
  keeps = (let same = same_members w w' (stopped_same why w w' stops) in λ half test. (let e = same half test in omega (arith, e)));
  cause = (w, why, runs_more [] [] 0 (length ps) w w (λ m there. there) (omega arith) (runs_none [] w), stops);
  stopped = stops.stopped;
}

-- an answer's part, made weaker
pub if_ok : {A E : Type 0} (P Q : A → Type 0) → ((x : A) → P x → Q x) → (r : Result A E) → IfOk r P → IfOk r Q
if_ok P Q more (Ok x) is = more x is
if_ok P Q more (Err e) is = tt

pub if_err : {A E : Type 0} (P Q : E → Type 0) → ((x : E) → P x → Q x) → (r : Result A E) → IfErr r P → IfErr r Q
if_err P Q more (Ok x) is = tt
if_err P Q more (Err e) is = more e is
