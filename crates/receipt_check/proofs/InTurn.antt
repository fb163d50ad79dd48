-- Receipts in the order of their turns.
use Rattle.std.proofs.Common.{◌≡◌, ℕ, ◌+◌, ◌<◌, ◌≤◌, List, [], ◌∷◌, ◌++◌, length, get_or, take, min, refl, sym, ◌∙◌, ap, subst, arith}
use Rattle.std.specs.List.Sorted.{IsPermutation, IsNonDecreasingBy}
use Rattle.std.proofs.lemmas.List.{take_more, map_push, get_or-map, get_or_read}
use Rattle.std.proofs.lemmas.List.Elements.{All-nil, All-push}
use Rattle.std.proofs.lemmas.List.Sorted.{IsPermutation-map, All-permutation}
use Rattle.reg_model.specs.Receipt.{made_before}
use Rattle.reg_model.specs.State.{State}
use Rattle.reg_model.specs.declared.answer.Update.{Update}
use Rattle.receipt_check.specs.declared.present.Present.{Present}
use Rattle.receipt_check.specs.declared.account.Told.{Told}
use Rattle.receipt_check.specs.declared.turns.Turn.{Turn}
use Rattle.receipt_check.specs.Sweep.{rows_of, AreTimed, AreTurns, AreInTurn, IsPresent}

-- one receipt more
pub turns_more : (told : List Told) (i : ℕ) (t : Told) (turns : List Turn) (turn : Turn) → i < length told → t ≡ get_or told i t → turn.row.now ≡ t → turn.before ≡ made_before t.receipt → AreTurns (take i told) turns → AreTurns (take (i + 1) told) (turns ++ turn ∷ [])
turns_more told i t turns turn within is row before are = record {
  rows = map_push (λ (u : Turn). u.row.now) turns turn ∙ ap (λ (ts : List Told). ts ++ turn.row.now ∷ []) are.rows ∙ ap (λ (u : Told). take i told ++ u ∷ []) (row ∙ is) ∙ sym (take_more told i t within);
  timed = All-push (λ (u : Turn). u.before ≡ made_before u.row.now.receipt) turns turn are.timed (before ∙ ap (λ (u : Told). made_before u.receipt) (sym row));
}

-- sorted
pub turns_sorted : (told : List Told) (turns sorted : List Turn) → AreTurns told turns → IsPermutation turns sorted → IsNonDecreasingBy (λ turn. turn.before) sorted → AreInTurn told sorted
turns_sorted told turns sorted are moved rising = record {
  rows = subst (λ (ts : List Told). IsPermutation ts (rows_of sorted)) are.rows (IsPermutation-map (λ (u : Turn). u.row.now) turns sorted moved);
  timed = All-permutation (λ (u : Turn). u.before ≡ made_before u.row.now.receipt) turns sorted moved are.timed;
  rising = rising;
}

module _ (start : State) (history : List Update) (turns : List Turn) where
  -- the registry is at a moment of the history, which isn't past the turns from one on
  pub record StandsBefore (i : ℕ) (p : Present) : Type 0 where
    pub present : IsPresent start history p
    pub ahead : (j : ℕ) (d : Turn) → i ≤ j → j < length turns → p.made ≤ (get_or turns j d).before

  -- it went on to the moment of this turn
  pub record StandsAt (i : ℕ) (turn : Turn) (p : Present) : Type 0 where
    pub present : IsPresent start history p
    pub made : p.made ≡ min (made_before turn.row.now.receipt) (length history)
    pub next : StandsBefore (i + 1) p

  pub stands_first : (p : Present) → IsPresent start history p → p.made ≡ 0 → StandsBefore 0 p
  stands_first p present none = record { present = present; ahead = λ j d from below. omega arith }

module _ (turns : List Turn) (i : ℕ) (turn : Turn) (within : i < length turns) (is : turn ≡ get_or turns i turn) where
  -- the registry went on no further than to the turns that come
  not_past : IsNonDecreasingBy (λ t. t.before) turns → (made n : ℕ) → made ≡ min turn.before n → (j : ℕ) (d : Turn) → i + 1 ≤ j → j < length turns → made ≤ (get_or turns j d).before
  not_past rising made n to j d from below = (let here : turn.before ≡ (get_or turns i d).before = ap (λ (t : Turn). t.before) (get_or_read turns i turn within is d) in let up : (get_or turns i d).before ≤ (get_or turns j d).before = rising i j d (omega arith) below in omega arith)

  -- nor further than to this one
  ahead_here : (made : ℕ) → ((j : ℕ) (d : Turn) → i ≤ j → j < length turns → made ≤ (get_or turns j d).before) → made ≤ turn.before
  ahead_here made ahead = subst (λ (t : Turn). made ≤ t.before) (sym is) (ahead i turn (omega arith) within)

  -- this turn has its receipt's number of updates
  pub timed_here : AreTimed turns → turn.before ≡ made_before turn.row.now.receipt
  timed_here timed = subst (λ (t : Turn). t.before ≡ made_before t.row.now.receipt) (sym is) (timed i turn within)

  -- its receipt is the next one
  pub row_here : turn.row.now ≡ get_or (rows_of turns) i turn.row.now
  row_here = ap (λ (t : Turn). t.row.now) is ∙ sym (get_or-map (λ (t : Turn). t.row.now) turns i turn turn.row.now within)

  -- to go on to it leads to its moment
  pub reached : (told : List Told) → AreInTurn told turns → (start : State) (history : List Update) (p q : Present) → StandsBefore start history turns i p → ((s : State) → IsPresent s history p → p.made ≤ turn.before → IsPresent s history q × (q.made ≡ min turn.before (length history))) → StandsAt start history turns i turn q
  reached told are start history p q before goes =
      let went = goes start before.present (ahead_here p.made before.ahead) in record {
        present = went.0;
        made = went.1 ∙ ap (λ n. min n (length history)) (timed_here are.timed);
        next = record { present = went.0; ahead = not_past are.rising q.made (length history) went.1 };
      }

-- of no receipts
pub no_turns : AreTurns [] []
no_turns = record { rows = refl; timed = All-nil (λ (u : Turn). u.before ≡ made_before u.row.now.receipt) }
