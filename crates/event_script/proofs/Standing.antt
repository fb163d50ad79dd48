-- A script within its limit of `unwind` events: each of them had room after those before it.
use Rattle.std.proofs.Common.{◌≡◌, ℕ, ◌+◌, ◌≤◌, true, cond, List, [], ◌∷◌, ◌++◌, refl, lt-ltb, arith}
use Rattle.std.specs.List.{sum_by, count_by}
use Rattle.std.proofs.lemmas.List.Sums.{sum_by-append, sum_by-cons, sum_by_push}
use Rattle.script_text.specs.ScriptData.{is_unwind, count_unwinds}
use Rattle.event_script.specs.Reading.{has_room}
use Rattle.script_text.specs.declared.script.Event.{Event}
use Rattle.script_text.specs.declared.script.Event.TheVariants as event
use Rattle.event_script.specs.declared.reader.totals.Totals.{Totals}
use Rattle.event_script.proofs.EventTotals.{totals_of}

-- all rounds of a script
abbrev pub CanStand : List (List (List Event)) → Type 0
CanStand rounds = count_unwinds rounds ≤ 16384

abbrev unwinds_in : List (List Event) → ℕ
unwinds_in threads = sum_by (count_by is_unwind) threads

module _ (rounds : List (List (List Event))) (threads : List (List Event)) (front : List Event) (e : Event) (events : List Event) (others : List (List Event)) (later : List (List (List Event))) (can : CanStand (rounds ++ (threads ++ (front ++ e ∷ events) ∷ others) ∷ later)) where
  before_it : count_unwinds (rounds ++ (threads ++ front ∷ []) ∷ []) + cond (is_unwind e) 1 0 ≤ count_unwinds (rounds ++ (threads ++ (front ++ e ∷ events) ∷ others) ∷ later)
  before_it =
      let whole = threads ++ (front ++ e ∷ events) ∷ others in
      omega (arith, sum_by_push unwinds_in rounds (threads ++ front ∷ []), sum_by_push (count_by is_unwind) threads front, sum_by-append unwinds_in rounds (whole ∷ later), sum_by-cons unwinds_in whole later, sum_by-append (count_by is_unwind) threads ((front ++ e ∷ events) ∷ others), sum_by-cons (count_by is_unwind) (front ++ e ∷ events) others, sum_by-append (λ x. cond (is_unwind x) 1 0) front (e ∷ events), sum_by-cons (λ x. cond (is_unwind x) 1 0) e events)

  room_if : (totals : Totals) (happens : Event) → totals.unwinds + cond (is_unwind happens) 1 0 ≤ 16384 → has_room totals happens ≡ true
  room_if totals (event.Register image) low = refl
  room_if totals (event.Deregister base) low = refl
  room_if totals (event.Replace image) low = refl
  room_if totals (event.Load image) low = refl
  room_if totals (event.Unload base) low = refl
  room_if totals (event.Find pc) low = refl
  room_if totals (event.Unwind snapshot) low = lt-ltb _ _ (omega arith)

  pub event_room : has_room (totals_of (rounds ++ (threads ++ front ∷ []) ∷ [])) e ≡ true
  event_room = room_if (totals_of (rounds ++ (threads ++ front ∷ []) ∷ [])) e (omega (arith, before_it, can))
