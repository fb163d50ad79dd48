-- What the lines of rounds say, with one more, and before there are any.
use Rattle.std.proofs.Common.{◌≡◌, ℕ, ◌+◌, ◌<◌, List, [], ◌∷◌, ◌++◌, length, map, sym, ap, ◌∙◌, append_assoc, append-nil, arith, length-append}
use Rattle.std.specs.List.{All}
use Rattle.std.proofs.lemmas.List.Elements.{All-push}
use Rattle.script_text.specs.ScriptData.{SnapshotData, Counts, IsThread, IsRound}
use Rattle.script_text.specs.Spelling.{snapshot_statements, thread_statements, round_statements}
use Rattle.script_text.specs.declared.script.Event.{Event}
use Rattle.script_text.specs.declared.statement.Statement.{Statement}
use Rattle.script_text.specs.declared.statement.Statement.TheVariants as statement
use Rattle.script_text.proofs.StatementLists.{map_push}
use Rattle.event_script.proofs.SoFar.{AreRounds}

-- one more thread of a round, and one more round
threads_push : (threads : List (List Event)) (events : List Event) → thread_statements (threads ++ events ∷ []) ≡ thread_statements threads ++ statement.Thread ∷ map statement.Event events
threads_push [] events = append-nil (statement.Thread ∷ map statement.Event events)
threads_push (first ∷ threads) events =
    ap (λ (x : List Statement). (statement.Thread ∷ map statement.Event first) ++ x) (threads_push threads events)
    ∙ sym (append_assoc (statement.Thread ∷ map statement.Event first) (thread_statements threads) (statement.Thread ∷ map statement.Event events))

pub rounds_push : (rounds : List (List (List Event))) (threads : List (List Event)) → round_statements (rounds ++ threads ∷ []) ≡ round_statements rounds ++ statement.Round ∷ thread_statements threads
rounds_push [] threads = append-nil (statement.Round ∷ thread_statements threads)
rounds_push (first ∷ rounds) threads =
    ap (λ (x : List Statement). (statement.Round ∷ thread_statements first) ++ x) (rounds_push rounds threads)
    ∙ sym (append_assoc (statement.Round ∷ thread_statements first) (round_statements rounds) (statement.Round ∷ thread_statements threads))

-- one more line of the last round is one more line of all rounds
round_grows : (rounds : List (List (List Event))) (old new : List (List Event)) (line : Statement) → thread_statements new ≡ thread_statements old ++ line ∷ [] → round_statements (rounds ++ new ∷ []) ≡ round_statements (rounds ++ old ∷ []) ++ line ∷ []
round_grows rounds old new line is =
    rounds_push rounds new
    ∙ ap (λ (x : List Statement). round_statements rounds ++ statement.Round ∷ x) is
    ∙ sym (append_assoc (round_statements rounds) (statement.Round ∷ thread_statements old) (line ∷ []))
    ∙ ap (λ (x : List Statement). x ++ line ∷ []) (sym (rounds_push rounds old))

pub thread_begins : (rounds : List (List (List Event))) (threads : List (List Event)) → round_statements (rounds ++ (threads ++ [] ∷ []) ∷ []) ≡ round_statements (rounds ++ threads ∷ []) ++ statement.Thread ∷ []
thread_begins rounds threads = round_grows rounds threads (threads ++ [] ∷ []) statement.Thread (threads_push threads [])

pub event_comes : (rounds : List (List (List Event))) (threads : List (List Event)) (events : List Event) (e : Event) → round_statements (rounds ++ (threads ++ (events ++ e ∷ []) ∷ []) ∷ []) ≡ round_statements (rounds ++ (threads ++ events ∷ []) ∷ []) ++ statement.Event e ∷ []
event_comes rounds threads events e =
    round_grows rounds (threads ++ events ∷ []) (threads ++ (events ++ e ∷ []) ∷ []) (statement.Event e) (
    threads_push threads (events ++ e ∷ [])
    ∙ ap (λ (x : List Statement). thread_statements threads ++ statement.Thread ∷ x) (map_push statement.Event events e)
    ∙ sym (append_assoc (thread_statements threads) (statement.Thread ∷ map statement.Event events) (statement.Event e ∷ []))
    ∙ ap (λ (x : List Statement). x ++ statement.Event e ∷ []) (sym (threads_push threads events)))

-- lines and what the rounds so far add, none
pub before_rounds : (known : List Statement) (rounds : List (List (List Event))) → rounds ≡ [] → known ++ round_statements rounds ≡ known
before_rounds known rounds e = ap (λ (r : List (List (List Event))). known ++ round_statements r) e ∙ append-nil known

-- and no snapshots
pub before_snapshots : (known : List Statement) (snapshots : List SnapshotData) (rounds : List (List (List Event))) → snapshots ≡ [] → rounds ≡ [] → known ++ snapshot_statements 0 snapshots ++ round_statements rounds ≡ known
before_snapshots known snapshots rounds none no_rounds = before_rounds (known ++ snapshot_statements 0 snapshots) rounds no_rounds ∙ ap (λ (x : List SnapshotData). known ++ snapshot_statements 0 x) none ∙ append-nil known

-- and no fixed images either
pub before_fixed : (known : List Statement) (fixed : List ℕ) (snapshots : List SnapshotData) (rounds : List (List (List Event))) → fixed ≡ [] → snapshots ≡ [] → rounds ≡ [] → known ++ map statement.Fixed fixed ++ snapshot_statements 0 snapshots ++ round_statements rounds ≡ known
before_fixed known fixed snapshots rounds none no_snapshots no_rounds = before_snapshots (known ++ map statement.Fixed fixed) snapshots rounds no_snapshots no_rounds ∙ ap (λ (f : List ℕ). known ++ map statement.Fixed f) none ∙ append-nil known

pub thread_push : (counts : Counts) (threads : List (List Event)) (events : List Event) → length threads < 16 → IsRound counts threads → IsThread counts events → IsRound counts (threads ++ events ∷ [])
thread_push counts threads events room before thread = (omega (arith, length-append threads (events ∷ [])), All-push (IsThread counts) threads events before.1 thread)

pub round_push : (counts : Counts) (rounds : List (List (List Event))) (threads : List (List Event)) → length rounds < 64 → All (IsRound counts) rounds → IsRound counts threads → AreRounds counts (rounds ++ threads ∷ [])
round_push counts rounds threads room before round = record { few = omega (arith, length-append rounds (threads ∷ [])); each = All-push (IsRound counts) rounds threads before round }
