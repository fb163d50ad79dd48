-- What all events come to, with one more line.
use Rattle.std.proofs.Common.{◌≡◌, ℕ, ◌+◌, ◌≤◌, true, cond, List, [], ◌∷◌, ◌++◌, sym, ap, ◌∙◌, ltb-true, arith}
use Rattle.std.specs.List.{sum_by, count_by}
use Rattle.std.proofs.lemmas.List.Sums.{sum_by_push}
use Rattle.script_text.specs.ScriptData.{is_unwind, count_unwinds}
use Rattle.event_script.specs.Draft.{with_event}
use Rattle.event_script.specs.Reading.{has_room}
use Rattle.script_text.specs.declared.script.Event.{Event}
use Rattle.script_text.specs.declared.script.Event.TheVariants as event
use Rattle.event_script.specs.declared.reader.totals.Totals.{Totals}

abbrev pub these : ℕ → Totals
these count = record { unwinds = count }

-- what the events of rounds come to
abbrev pub totals_of : List (List (List Event)) → Totals
totals_of rounds = these (count_unwinds rounds)

-- ---- one more line

abbrev unwinds_in : List (List Event) → ℕ
unwinds_in threads = sum_by (count_by is_unwind) threads

abbrev one_if : Event → ℕ
one_if e = cond (is_unwind e) 1 0

pub totals_round : (rounds : List (List (List Event))) → totals_of (rounds ++ [] ∷ []) ≡ totals_of rounds
totals_round rounds = ap these (omega (arith, sum_by_push unwinds_in rounds []))

pub totals_thread : (rounds : List (List (List Event))) (threads : List (List Event)) → totals_of (rounds ++ (threads ++ [] ∷ []) ∷ []) ≡ totals_of (rounds ++ threads ∷ [])
totals_thread rounds threads =
    ap these (omega (arith, sum_by_push unwinds_in rounds (threads ++ [] ∷ []), sum_by_push unwinds_in rounds threads, sum_by_push (count_by is_unwind) threads []))

module _ (rounds : List (List (List Event))) (threads : List (List Event)) (events : List Event) where
  -- the rounds, with one more event of the last thread
  abbrev grown : Event → List (List (List Event))
  grown e = rounds ++ (threads ++ (events ++ e ∷ []) ∷ []) ∷ []

  abbrev begun : List (List (List Event))
  begun = rounds ++ (threads ++ events ∷ []) ∷ []

  unwinds_event : (e : Event) → count_unwinds (grown e) ≡ count_unwinds begun + one_if e
  unwinds_event e =
      omega (arith, sum_by_push unwinds_in rounds (threads ++ (events ++ e ∷ []) ∷ []), sum_by_push unwinds_in rounds (threads ++ events ∷ []), sum_by_push (count_by is_unwind) threads (events ++ e ∷ []), sum_by_push (count_by is_unwind) threads events, sum_by_push one_if events e)

  pub totals_event : (e : Event) → totals_of (grown e) ≡ with_event (totals_of begun) e
  totals_event (event.Register image) = ap these (omega (arith, unwinds_event (event.Register image)))
  totals_event (event.Deregister base) = ap these (omega (arith, unwinds_event (event.Deregister base)))
  totals_event (event.Replace image) = ap these (omega (arith, unwinds_event (event.Replace image)))
  totals_event (event.Load image) = ap these (omega (arith, unwinds_event (event.Load image)))
  totals_event (event.Unload base) = ap these (omega (arith, unwinds_event (event.Unload base)))
  totals_event (event.Find pc) = ap these (omega (arith, unwinds_event (event.Find pc)))
  totals_event (event.Unwind snapshot) = ap these (unwinds_event (event.Unwind snapshot))

-- ---- what is kept of what the events so far come to

-- it is that of these rounds, and within its limit
pub record Totalled (totals : Totals) (rounds : List (List (List Event))) : Type 0 where
  pub is : totals ≡ totals_of rounds
  pub few : totals.unwinds ≤ 16384

pub totalled_round : (totals : Totals) (rounds : List (List (List Event))) → Totalled totals rounds → Totalled totals (rounds ++ [] ∷ [])
totalled_round totals rounds t = record { is = t.is ∙ sym (totals_round rounds); few = t.few }

pub totalled_thread : (totals : Totals) (rounds : List (List (List Event))) (threads : List (List Event)) → Totalled totals (rounds ++ threads ∷ []) → Totalled totals (rounds ++ (threads ++ [] ∷ []) ∷ [])
totalled_thread totals rounds threads t = record { is = t.is ∙ sym (totals_thread rounds threads); few = t.few }

module _ (totals : Totals) (rounds : List (List (List Event))) (threads : List (List Event)) (events : List Event) (t : Totalled totals (begun rounds threads events)) where
  grown_totals : (e : Event) → with_event totals e ≡ totals_of (grown rounds threads events e)
  grown_totals e = ap (λ (x : Totals). with_event x e) t.is ∙ sym (totals_event rounds threads events e)

  pub totalled_event : (e : Event) → has_room totals e ≡ true → Totalled (with_event totals e) (grown rounds threads events e)
  totalled_event (event.Register image) room = record { is = grown_totals (event.Register image); few = t.few }
  totalled_event (event.Deregister base) room = record { is = grown_totals (event.Deregister base); few = t.few }
  totalled_event (event.Replace image) room = record { is = grown_totals (event.Replace image); few = t.few }
  totalled_event (event.Load image) room = record { is = grown_totals (event.Load image); few = t.few }
  totalled_event (event.Unload base) room = record { is = grown_totals (event.Unload base); few = t.few }
  totalled_event (event.Find pc) room = record { is = grown_totals (event.Find pc); few = t.few }
  totalled_event (event.Unwind snapshot) room = record { is = grown_totals (event.Unwind snapshot); few = (let below = ltb-true totals.unwinds 16384 room in omega arith) }
