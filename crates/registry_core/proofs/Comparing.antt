-- Two whole logs, of which one has all receipts of the other.
use Rattle.std.proofs.Common.{◌≡◌, ℕ, suc, ◌+◌, ◌-◌, ◌<◌, List, [], ◌∷◌, length, map, Contains, sym, refl, ap, ◌∙◌, arith, Bool, true, false, ◌&&◌, ◌==◌, is_some, Option, Some, None, IfSome, max, eqb-true, count_by, if◌then◌else◌}
use Rattle.std.proofs.lemmas.Bool.{le-leb}
use Rattle.std.proofs.lemmas.List.Sums.{sum_by-cons}
use Rattle.std.proofs.lemmas.Option.{none-some, same_Some}
use Rattle.std.specs.List.{AllByRecursion, flat_map, slice_get}
use mathlib.Core.List.{IsPrefix}
use Rattle.reg_model.specs.Numbers.{has_number}
use Rattle.reg_model.specs.Receipt.{AllHold, IsAtNumber, accepted, moment}
use Rattle.reg_model.specs.declared.answer.Receipt.{Receipt}
use Rattle.reg_model.specs.declared.answer.Update.{Update}
use Rattle.word_rule.specs.Callers.{IsRecord, IsWhole, start}
use Rattle.word_rule.specs.declared.log.Log.{Log}
use Rattle.word_rule.specs.declared.log.ReceiptList.{ReceiptList}
use Rattle.word_rule.specs.declared.log.Terms.{Terms}
use Rattle.word_rule.proofs.Each.{all_append, all_with}
use Rattle.registry_core.specs.Rounds.{all_receipts, joined_lists}
use Rattle.registry_core.proofs.Counting.{whole_numbered}

-- each receipt that holds stands at its number
at_numbers : (t : Terms) (past : List Update) (callers since : ℕ) (rs : List Receipt) → AllHold (start t) past t.nodes callers since rs → AllByRecursion (IsAtNumber past) rs
at_numbers t past callers since [] h = tt
at_numbers t past callers since (r ∷ rs) h = (h.0.numbered, at_numbers t past callers (max since (moment r)) rs h.1)

at_all : (t : Terms) (past : List Update) (callers : ℕ) (lists : List ReceiptList) → AllByRecursion (IsRecord t past callers) lists → AllByRecursion (IsAtNumber past) (flat_map (λ receipts. receipts) (map (λ receipts. receipts.list) lists))
at_all t past callers [] h = tt
at_all t past callers (rs ∷ lists) h = all_append (IsAtNumber past) rs.list (flat_map (λ receipts. receipts) (map (λ receipts. receipts.list) lists)) (at_numbers t past callers rs.since rs.list h.0.0) (at_all t past callers lists h.1)

whole_at : (v : Log) → IsWhole v → AllByRecursion (IsAtNumber v.past) (all_receipts v.receipts)
whole_at v w = all_append (IsAtNumber v.past) v.receipts.own (flat_map (λ receipts. receipts) (joined_lists v.receipts)) (at_numbers v.terms v.past (v.made + 1) v.receipts.since v.receipts.own w.receipts.own.0) (at_all v.terms v.past (v.made + 1) v.receipts.joined w.receipts.joined)

abbrev once : Bool → ℕ
once b = if b then 1 else 0

-- one that is counted is there
some_counted : (p : Receipt → Bool) (xs : List Receipt) → 0 < count_by p xs → (x : Receipt) × (Contains xs x × (p x ≡ true))
some_counted p [] h = absurd (omega (arith, h))
some_counted p (x ∷ xs) h = go (p x) refl (some_counted p xs)
  where
    go : (b : Bool) → p x ≡ b → (0 < count_by p xs → (y : Receipt) × (Contains xs y × (p y ≡ true))) → (y : Receipt) × (Contains (x ∷ xs) y × (p y ≡ true))
    go true e rest = (x, ((0, omega arith, refl), e))
    go false e rest =
        let c = sum_by-cons (λ r. once (p r)) x xs in
        let z : once (p x) ≡ once false = ap once e in
        let r = rest (omega (arith, h, c, z)) in (r.0, ((suc r.1.0.0, (let l = r.1.0.1 in omega (arith, l)), r.1.0.2), r.1.1))

-- the update of a number stands there
placed : (history : List Update) (k m : ℕ) (a : Option Update) → (is_some a && (m == suc k)) ≡ true → IfSome a (λ u. (0 < m) × (slice_get history (m - 1) ≡ Some u)) → slice_get history k ≡ a
placed history k m None test at = cc
placed history k m (Some u) test at =
    let same : m ≡ suc k = eqb-true m (suc k) test in
    let place : k ≡ m - 1 = omega (arith, same) in rw place at.1

-- one list begins another that has the same at each of its places
prefix_from : (xs ys : List Update) → ((k : ℕ) → k < length xs → slice_get xs k ≡ slice_get ys k) → IsPrefix xs ys
prefix_from [] ys h = (ys, refl)
prefix_from (x ∷ xs) [] h = absurd (none-some x (sym (h 0 (omega arith))))
prefix_from (x ∷ xs) (y ∷ ys) h =
    let rest = prefix_from xs ys (λ k l. h (suc k) (omega (arith, l))) in
    let first : x ≡ y = same_Some x y (h 0 (omega arith)) in (rest.0, (λ i. first i ∷ rest.1 i))

pub comparable : (v w : Log) → IsWhole v → IsWhole w → ((r : Receipt) → Contains (all_receipts v.receipts) r → Contains (all_receipts w.receipts) r) → IsPrefix v.past w.past
comparable v w a b among = prefix_from v.past w.past (λ k less.
    let one : count_by (has_number (suc k)) (all_receipts v.receipts) ≡ 1 = whole_numbered v a (suc k) ∙ rw (le-leb 1 (suc k) (omega arith), le-leb (suc k) (length v.past) (omega (arith, less))) refl in
    let r = some_counted (has_number (suc k)) (all_receipts v.receipts) (omega (arith, one)) in
    let here = all_with (IsAtNumber v.past) (all_receipts v.receipts) r.0 (whole_at v a) r.1.0 in
    let there = all_with (IsAtNumber w.past) (all_receipts w.receipts) r.0 (whole_at w b) (among r.0 r.1.0) in
    placed v.past k (moment r.0) (accepted r.0) r.1.1 here ∙ sym (placed w.past k (moment r.0) (accepted r.0) r.1.1 there))
