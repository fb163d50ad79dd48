-- Rounds and orders: what is told, and what a lawful journal has.
use Rattle.std.proofs.Common.{◌≡◌, ◌↔◌, ℕ, ◌+◌, ◌<◌, ◌≤◌, List, [], ◌∷◌, length, max, Option, Some, None, MatchOption, All, sym, subst, arith}
use Rattle.std.specs.List.{flat_map}
use Rattle.std.proofs.lemmas.List.Elements.{All-append, All-cons, All-head, All-tail, All-nil}
use Rattle.receipt_check.proofs.Halves.{All-front, All-back}
use Rattle.reg_model.specs.State.{State}
use Rattle.reg_model.specs.Receipt.{moment, accepted, Holds, AllHold, AreInOrder}
use Rattle.reg_model.specs.declared.answer.Update.{Update}
use Rattle.reg_model.specs.declared.answer.Receipt.{Receipt}
use Rattle.script_text.specs.Lawful.{done_after, AreInRounds}
use Rattle.journal_check.specs.declared.teller.Bounds.{Bounds}
use Rattle.journal_check.proofs.Each.{EachFrom, RoundsEach}

-- ---- rounds

abbrev pub InRound : Bounds → ℕ → Receipt → Type 0
InRound bounds seen r = (bounds.before ≤ moment r) × (moment r ≤ bounds.after)

abbrev Between : ℕ → ℕ → Receipt → Type 0
Between low high r = (low ≤ moment r) × (moment r ≤ high)

between_each : (bounds : Bounds) (seen : ℕ) (rs : List Receipt) → (EachFrom (InRound bounds) seen rs ↔ All (Between bounds.before bounds.after) rs)
between_each bounds seen [] = (λ _. All-nil (Between bounds.before bounds.after), λ _. tt)
between_each bounds seen (r ∷ rs) =
    let rest = between_each bounds (max seen (moment r)) rs in
    let P = Between bounds.before bounds.after in
    (λ each. All-cons P r rs each.0 (rest.0 each.1), λ all. (All-head P r rs all, rest.1 (All-tail P r rs all)))

between_threads : (bounds : Bounds) (round : List (List Receipt)) → (All (EachFrom (InRound bounds) 0) round ↔ All (Between bounds.before bounds.after) (flat_map (λ rs. rs) round))
between_threads bounds [] = (λ _. All-nil (Between bounds.before bounds.after), λ _. All-nil (EachFrom (InRound bounds) 0))
between_threads bounds (rs ∷ round) =
    let rest = between_threads bounds round in
    let here = between_each bounds 0 rs in
    let P = Between bounds.before bounds.after in
    let S = EachFrom (InRound bounds) 0 in
    let back = flat_map (λ (rs : List Receipt). rs) round in (
      λ all. All-append P rs back (here.0 (All-head S rs round all)) (rest.0 (All-tail S rs round all)),
      λ all. All-cons S rs round (here.1 (All-front P rs back all)) (rest.1 (All-back P rs back all)),
    )

pub rounds_between : (callers done : ℕ) (rounds : List (List (List Receipt))) → (RoundsEach InRound callers done rounds ↔ AreInRounds done rounds)
rounds_between callers done [] = (λ _. tt, λ _. tt)
rounds_between callers done (round ∷ rounds) =
    let rest = rounds_between (callers + length round) (done_after done round) rounds in
    let here = between_threads (record { before = done; after = done_after done round; callers = callers + length round }) round in
    (λ each. (here.0 each.0, rest.0 each.1), λ are. (here.1 are.0, rest.1 are.1))

-- ---- answers

module _ (start : State) (history : List Update) (nodes : ℕ) where
  abbrev pub HoldsIn : Bounds → ℕ → Receipt → Type 0
  HoldsIn bounds seen r = Holds start history nodes bounds.callers (max bounds.before seen) r

  pub holds_each : (bounds : Bounds) (seen since : ℕ) (rs : List Receipt) → max bounds.before seen ≡ since → (EachFrom (HoldsIn bounds) seen rs ↔ AllHold start history nodes bounds.callers since rs)
  holds_each bounds seen since [] is = (λ _. tt, λ _. tt)
  holds_each bounds seen since (r ∷ rs) is =
      let rest = holds_each bounds (max seen (moment r)) (max since (moment r)) rs (omega arith) in
      let P = λ (n : ℕ). Holds start history nodes bounds.callers n r in
      (λ each. (subst P is each.0, rest.0 each.1), λ all. (subst P (sym is) all.0, rest.1 all.1))

-- ---- order

abbrev pub InOrderAt : Bounds → ℕ → Receipt → Type 0
InOrderAt bounds seen r = MatchOption (accepted r) (seen ≤ moment r) (λ u. seen < moment r)

seen_le : (a : Option Update) (seen m : ℕ) → MatchOption a (seen ≤ m) (λ u. seen < m) → seen ≤ m
seen_le None seen m order = order
seen_le (Some u) seen m order = omega arith

pub order_each : (bounds : Bounds) (seen : ℕ) (rs : List Receipt) → (EachFrom (InOrderAt bounds) seen rs ↔ AreInOrder seen rs)
order_each bounds seen [] = (λ _. tt, λ _. tt)
order_each bounds seen (r ∷ rs) =
    let rest = order_each bounds (moment r) rs in
    let S = λ (n : ℕ). EachFrom (InOrderAt bounds) n rs in (
      λ each. (each.0, rest.0 (let low = seen_le (accepted r) seen (moment r) each.0 in let is : max seen (moment r) ≡ moment r = omega arith in subst S is each.1)),
      λ are. (are.0, (let low = seen_le (accepted r) seen (moment r) are.0 in let is : moment r ≡ max seen (moment r) = omega arith in subst S is (rest.1 are.1))),
    )

lower_order : (a : Option Update) (low seen m : ℕ) → low ≤ seen → MatchOption a (seen ≤ m) (λ u. seen < m) → MatchOption a (low ≤ m) (λ u. low < m)
lower_order None low seen m less order = omega arith
lower_order (Some u) low seen m less order = omega arith

-- from a later moment on is from 0 on too
pub order_from_zero : (seen : ℕ) (rs : List Receipt) → AreInOrder seen rs → AreInOrder 0 rs
order_from_zero seen [] are = tt
order_from_zero seen (r ∷ rs) are = (lower_order (accepted r) 0 seen (moment r) (omega arith) are.0, are.1)

-- and where each stands after that moment, the other way round
pub order_from : (seen : ℕ) (rs : List Receipt) → AreInOrder 0 rs → All (λ r. MatchOption (accepted r) (seen ≤ moment r) (λ u. seen < moment r)) rs → AreInOrder seen rs
order_from seen [] are all = tt
order_from seen (r ∷ rs) are all = (All-head (λ r. MatchOption (accepted r) (seen ≤ moment r) (λ u. seen < moment r)) r rs all, are.1)
