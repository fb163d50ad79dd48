-- What was loaded stays told while more is loaded, and so does why an update gave up.
use Rattle.std.proofs.Common.{◌++◌, append_assoc, ap, ◌∙◌, ◌≡◌, [], append-nil, sym, List, refl, ℕ, ◌∷◌, zero, suc, subst, Result, Ok, Err, IfErr, ◌≤◌, arith, length}
use Rattle.word_rule.specs.CallerData.{CallerData}
use Rattle.word_rule.specs.declared.log.LoadEvent.{LoadEvent}
use Rattle.word_rule.specs.Sights.{after_node_load}
use Rattle.word_rule.specs.Logs.{load_of}
use Rattle.word_rule.specs.VersionLocks.{lock_place}
use Rattle.word_rule.specs.declared.log.LockId.{LockId}
use Rattle.word_rule.specs.declared.log.Holdings.{Holdings}
use Rattle.node_store.specs.Sights.{after_words}
use Rattle.version_locks.specs.Locking.{FoundBusy, IsBusy}
use Rattle.version_locks.specs.declared.locking.Busy.{Busy}
use Rattle.free_list.proofs.Rounds.{found_later}
use Rattle.tree_descent.specs.Loads.{KeepsLoads}
use Rattle.tree_descent.specs.Paths.{IsLeftOut, HoldsLeftOver, HoldsNothing}
use Rattle.version_locks.specs.declared.locking.Busy.TheVariants as busy

pub keeps_then : (k l m : CallerData) → KeepsLoads k l → KeepsLoads l m → KeepsLoads k m
keeps_then k l m (xs, e) (ys, d) = (xs ++ ys, d ∙ (ap (λ z. z ++ ys) e ∙ append_assoc k.log.trace.loads xs ys))

pub keeps_none : (k l : CallerData) → l.log.trace.loads ≡ k.log.trace.loads → KeepsLoads k l
keeps_none k l e = ([], e ∙ sym (append-nil k.log.trace.loads))

-- nothing more was loaded
pub none_more : (xs : List LoadEvent) → (more : List LoadEvent) × (xs ≡ xs ++ more)
none_more xs = ([], sym (append-nil xs))

pub keeps_all : (k : CallerData) → KeepsLoads k k
keeps_all k = keeps_none k k refl

pub keeps_load : (n at found : ℕ) (k k' : CallerData) → k' ≡ record k { log = after_node_load n at found k.log } → KeepsLoads k k'
keeps_load n at found k k' is = (_ ∷ [], ap (λ (z : CallerData). z.log.trace.loads) is)

pub keeps_words : (n : ℕ) (words : List ℕ) (count : ℕ) (k : CallerData) → KeepsLoads k (record k { log = after_words n words count k.log })
unfolding after_words
keeps_words n words zero k = keeps_all k
keeps_words n words (suc count) k = keeps_then k (record k { log = after_words n words count k.log }) (record k { log = after_words n words (suc count) k.log }) (keeps_words n words count k) (_ ∷ [], refl)

-- the load by which a lock was found taken
pub found_busy : (id : LockId) (k k' : CallerData) (why : Busy) → why ≡ busy.Taken id → IsBusy id k k' → FoundBusy why k k'
found_busy id k k' why named (found, (odd, is)) = subst (λ w. FoundBusy w k k') (sym named) (record {
  before = [];
  load = load_of k.log (lock_place id) found;
  behind = [];
  loads = ap (λ (z : CallerData). z.log.trace.loads) is;
  shows = (refl, odd);
})

-- steps before it, and after it
pub found_after : (why : Busy) (k l m : CallerData) → KeepsLoads k l → FoundBusy why l m → FoundBusy why k m
found_after why k l m (more, e) f = found_later why k l m more e f

pub if_found_after : {A : Type 0} (r : Result A Busy) (k l m : CallerData) → KeepsLoads k l → IfErr r (λ e. FoundBusy e l m) → IfErr r (λ e. FoundBusy e k m)
if_found_after (Ok a) k l m before f = tt
if_found_after (Err e) k l m before f = found_after e k l m before f

pub found_still : (why : Busy) (k l m : CallerData) → FoundBusy why k l → KeepsLoads l m → FoundBusy why k m
found_still why k l m f (more, e) = record {
  before = f.before;
  load = f.load;
  behind = f.behind ++ more;
  loads = e ∙ (ap (λ xs. xs ++ more) f.loads ∙ (append_assoc k.log.trace.loads (f.before ++ f.load ∷ f.behind) more ∙ ap (λ xs. k.log.trace.loads ++ xs) (append_assoc f.before (f.load ∷ f.behind) more)));
  shows = f.shows;
}

pub found_between : (why : Busy) (k l m n : CallerData) → KeepsLoads k l → FoundBusy why l m → KeepsLoads m n → FoundBusy why k n
found_between why k l m n before f behind = found_after why k l n before (found_still why l m n f behind)

-- nothing is out, whatever was the cause
pub none_left_out : (why : Busy) (out : List ℕ) → out ≡ [] → IsLeftOut why out
none_left_out (busy.Taken id) out e = e
none_left_out busy.Raced out e = e
none_left_out busy.Lost out e = subst (λ xs. length xs ≤ 2) (sym e) (omega arith)

pub nothing_left : (why : Busy) (holdings : Holdings) → HoldsNothing holdings → HoldsLeftOver why holdings
nothing_left why holdings (held, out) = (held, none_left_out why holdings.out out)
