-- Tries of update calls that were begun.
use Rattle.std.proofs.Common.{◌≡◌, ◌<◌, ◌≤◌, ◌∙◌, arith, Bool, true, Result, Ok, Err, IfOk, IfErr}
use Rattle.array_publish.specs.Update.{TellsLoad}
use Rattle.btree_change.specs.Insertion.{AnswersInsertion, TriesInsertion}
use Rattle.tree_descent.specs.Paths.{HoldsNothing}
use Rattle.tree_descent.specs.Updates.{GivesUp}
use Rattle.version_locks.specs.Locking.{UnlessLost}
use Rattle.version_locks.specs.declared.locking.Busy.{Busy}
use Rattle.version_locks.specs.declared.locking.Busy.TheVariants as busy
use Rattle.word_rule.specs.Callers.{IsIdle}
use Rattle.reg_model.specs.declared.answer.Inserted.{Inserted}
use Rattle.reg_model.specs.declared.answer.Inserted.TheVariants as inserted
use Rattle.reg_model.specs.declared.answer.Loading.{Loading}
use Rattle.reg_model.specs.declared.answer.Loading.TheVariants as loading
use Rattle.reg_model.specs.declared.span.Member.{Member}
use Rattle.word_rule.specs.CallerData.{CallerData, KeepsCaller, WordsData, due, surplus}
use Rattle.word_rule.specs.Places.{CALL_CREDIT}
use Rattle.word_rule.specs.declared.log.Terms.{Terms}
use Rattle.registry_core.specs.Begun.{TriesLoad, TriesUpdate}

-- a registration by a caller with the releases of a call to spare
pub insertion_tried : (t : Terms) (m : Member) (k k' : CallerData) (result : Result Inserted Busy) → CALL_CREDIT ≤ surplus k → IfOk result (λ answer. AnswersInsertion t m answer k k') → IfOk result (TriesInsertion t m k k')
insertion_tried t m k k' (Ok inserted.Spent) can a = absurd a.right
insertion_tried t m k k' (Ok (inserted.Done number)) can a = (can, a)
insertion_tried t m k k' (Ok (inserted.Overlap other stamp)) can a = (can, a)
insertion_tried t m k k' (Ok (inserted.Full stamp)) can a = (can, a)
insertion_tried t m k k' (Err e) can a = tt

-- a load
pub load_tried : (t : Terms) (m : Member) (k k' : CallerData) (result : Result Loading Busy) → CALL_CREDIT ≤ surplus k → IfOk result (TellsLoad t m k k') → IfOk result (TriesLoad t m k k')
load_tried t m k k' (Ok loading.Spent) can a = absurd a.4.0
load_tried t m k k' (Ok (loading.Done number)) can a = (can, a)
load_tried t m k k' (Ok (loading.Overlap other stamp)) can a = (can, a)
load_tried t m k k' (Ok (loading.LoadFull stamp)) can a = (can, a)
load_tried t m k k' (Err e) can a = tt

-- one that gave up is idle again, unless it lost a node
idle_again : (why : Busy) (k k' : CallerData) → IsIdle k.log → GivesUp why k k' → UnlessLost why (IsIdle k'.log)
idle_again (busy.Taken id) k k' idle g = record { held = g.nothing.0; out = g.nothing.1; loader = g.calls.caller.loader ∙ idle.loader }
idle_again busy.Raced k k' idle g = record { held = g.nothing.0; out = g.nothing.1; loader = g.calls.caller.loader ∙ idle.loader }
idle_again busy.Lost k k' idle g = tt

-- what a try of the tree makes of its caller, where an answer says that the caller is kept and holds nothing
pub tree_tried : {A : Type 0} (w : WordsData) (up : Bool) (k k' : CallerData) (outcome : Result A Busy) (Told : A → Type 0) → IsIdle k.log → 0 < due k → CALL_CREDIT ≤ surplus k → k.log.terms ≡ w.terms → IfOk outcome Told → ((answer : A) → Told answer → KeepsCaller k k' × HoldsNothing k'.log.holdings) → IfErr outcome (λ why. GivesUp why k k' × (up ≡ true)) → TriesUpdate w up outcome k k'
tree_tried w up k k' (Ok answer) Told idle begun can terms told keeps busy =
    let kept = keeps answer told in record {
      terms = λ enough. terms;
      table = kept.0.table;
      idle = record { held = kept.1.0; out = kept.1.1; loader = kept.0.loader ∙ idle.loader };
      busy = tt;
      begun = tt;
      again = tt;
    }
tree_tried w up k k' (Err why) Told idle begun can terms told keeps busy =
    let gives_up = busy.0 in let allowance = gives_up.allowance in let left = gives_up.calls.caller.left in record {
      terms = λ enough. terms;
      table = gives_up.calls.caller.table;
      idle = tt;
      busy = (can, gives_up, busy.1);
      begun = omega (arith, begun, allowance, left);
      again = idle_again why k k' idle gives_up;
    }
