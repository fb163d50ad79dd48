-- What calls of a shared registry make of their caller.
use Rattle.std.proofs.Common.{◌≡◌, ℕ, ◌+◌, ◌≤◌, List, [], ◌∷◌, Option, Some, None, Result, Ok, Err, IfOk, OnErr, refl, sym, ◌∙◌, ap, count_by, subst, arith}
use Rattle.reg_model.specs.SpanData.{SpanData}
use Rattle.reg_model.specs.Chain.{Chain}
use Rattle.reg_model.specs.Receipt.{receipts_of_place}
use Rattle.reg_model.specs.declared.answer.Found.{Found}
use Rattle.reg_model.specs.declared.answer.Place.{Place}
use Rattle.reg_model.specs.declared.answer.Receipt.{Receipt}
use Rattle.unwind_step.specs.Finders.{GoesThrough}
use Rattle.unwind_step.specs.declared.backtrace.FrameLine.{FrameLine}
use Rattle.word_rule.specs.CallerData.{CallerData, WordsData}
use Rattle.registry_core.specs.Calls.{Answered, Receives, is_of_update}
use Rattle.registry_core.proofs.Counting.{count_both}
use Rattle.script_text.specs.Lawful.{AnswersEvent, receipts_of, receipts_of_trace}
use Rattle.script_text.specs.declared.script.Event.{Event}
use Rattle.script_text.specs.declared.script.Event.TheVariants as event
use Rattle.script_text.specs.declared.journal.Answer.{Answer}
use Rattle.script_text.specs.declared.journal.Answer.TheVariants.{Register, Deregister, Replace, Load, Unload, Find, Unwind}
use Rattle.run_engine.specs.Played.{updates_of}
use Rattle.run_engine.specs.Shared.{SharedPlayerData, AnswersPlaying, IsReady}
use Rattle.run_engine.proofs.Chains.{Chain-append}

-- ---- queries

-- the queries of a trace, one after another
pub goes_calls : (old new : SharedPlayerData) (lines : List FrameLine) → GoesThrough AnswersPlaying old lines new → Chain Receives old.me (receipts_of_trace lines) new.me
goes_calls old new [] is = ap (λ (p : SharedPlayerData). p.me) (sym is)
goes_calls old new (line ∷ lines) (mid, answers, goes) =
    Chain-append Receives old.me mid.me new.me (receipts_of_place line.look line.place) (receipts_of_trace lines) answers.1.calls (goes_calls mid new lines goes)

pub goes_registry : (old new : SharedPlayerData) (lines : List FrameLine) → GoesThrough AnswersPlaying old lines new → new.registry ≡ old.registry
goes_registry old new [] is = ap (λ (p : SharedPlayerData). p.registry) (sym is)
goes_registry old new (line ∷ lines) (mid, answers, goes) = goes_registry mid new lines goes ∙ answers.0

-- ---- how many update calls an event takes

place_queries : (pc : ℕ) (place : Place) → count_by is_of_update (receipts_of_place pc place) ≡ 0
place_queries pc place = by place.loaded refl
  where
    by : (o : Option Found) → place.loaded ≡ o → count_by is_of_update (receipts_of_place pc place) ≡ 0
    by None none = rw none refl
    by (Some found) some = rw some refl

trace_queries : (lines : List FrameLine) → count_by is_of_update (receipts_of_trace lines) ≡ 0
trace_queries [] = refl
trace_queries (line ∷ lines) =
    count_both is_of_update (receipts_of_place line.look line.place) (receipts_of_trace lines) ∙ (let here = place_queries line.look line.place in let rest = trace_queries lines in omega (arith, here, rest))

pub event_updates : (images : List SpanData) (happens : Event) (answer : Answer) → AnswersEvent happens answer → count_by is_of_update (receipts_of images answer) ≤ updates_of happens
event_updates images (event.Register image) (Register asked answer) is = omega arith
event_updates images (event.Deregister base) (Deregister asked answer) is = omega arith
event_updates images (event.Replace image) (Replace asked answer) is = omega arith
event_updates images (event.Load image) (Load asked answer) is = omega arith
event_updates images (event.Unload base) (Unload asked answer) is = omega arith
event_updates images (event.Find pc) (Find asked place) is = (let none = place_queries asked place in omega (arith, none))
event_updates images (event.Unwind number) (Unwind asked trace) is = (let none = trace_queries trace.frames in omega (arith, none))
event_updates images _ _ is = absurd is

-- what an event's calls leave of its caller
pub event_left : (images : List SpanData) (happens : Event) (answer : Answer) (k k' : CallerData) → AnswersEvent happens answer → Answered (receipts_of images answer) k k' → k.left ≤ k'.left + updates_of happens
event_left images happens answer k k' is answered =
    let few = event_updates images happens answer is in let left = answered.left in omega (arith, few, left)

pub still_ready : (bound : ℕ) (registry registry' : WordsData) (receipts : List Receipt) (k k' : CallerData) → registry' ≡ registry → Answered receipts k k' → IsReady bound registry k → IsReady bound registry' k'
still_ready bound registry registry' receipts k k' same answered ready = record {
  table = answered.table ∙ (ready.table ∙ ap (λ (w : WordsData). w.table) (sym same));
  terms = answered.terms ∙ (ready.terms ∙ ap (λ (w : WordsData). w.terms) (sym same));
  payloads = ap (λ (w : WordsData). w.terms.payloads) same ∙ ready.payloads;
  idle = record {
    held = answered.held ∙ ready.idle.held;
    out = answered.out ∙ ready.idle.out;
    loader = answered.loader ∙ ready.idle.loader;
  };
}

-- what follows of a value, and of there being none
pub either_way : {X E : Type 0} (r : Result X E) (P : X → Type 0) (Q : Type 0) (R : Type 0) → ((x : X) → P x → R) → (Q → R) → IfOk r P → OnErr r Q → R
either_way (Ok x) P Q R ok err p q = ok x p
either_way (Err e) P Q R ok err p q = err q

-- what follows of two facts about a value, if there is one
pub both_ok : {X E : Type 0} (r : Result X E) (P Q R : X → Type 0) → ((x : X) → P x → Q x → R x) → IfOk r P → IfOk r Q → IfOk r R
both_ok (Ok x) P Q R from p q = from x p q
both_ok (Err e) P Q R from p q = tt

-- what holds of the one value that there may be
pub ok_is : {X E : Type 0} (r : Result X E) (P : X → Type 0) (x : X) → P x → IfOk r (λ y. y ≡ x) → IfOk r P
ok_is (Ok y) P x holds is = subst P (sym is) holds
ok_is (Err e) P x holds is = tt
