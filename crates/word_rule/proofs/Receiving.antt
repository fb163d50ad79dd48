-- One receipt more, and one update more.
use Rattle.std.proofs.Common.{◌≡◌, ℕ, ◌+◌, ◌<◌, ◌≤◌, List, [], ◌∷◌, ◌++◌, length, is_some, ◌&&◌, refl, ap, ◌∙◌, arith, ◌==◌, nat_le, true, false, Some, None, max, eq-eqb, ne_eqb, lt_of_not-le}
use Rattle.std.specs.List.{count_by}
use Rattle.std.proofs.lemmas.List.Sums.{sum_by_push}
use native.Mathlib.Decide.{ℕ_discrete, dec_le}
use borrow.Author.Tests.{le-leb, lt-leb}
use Rattle.reg_model.specs.Receipt.{moment, accepted, Holds, AllHold, AreInOrder}
use Rattle.reg_model.specs.declared.answer.Update.{Update}
use Rattle.reg_model.specs.declared.answer.Receipt.{Receipt}
use Rattle.tree_laws.specs.Numbers.{once}
use Rattle.word_rule.specs.declared.log.Terms.{Terms}
use Rattle.reg_model.specs.Numbers.{has_number}
use Rattle.word_rule.specs.Callers.{number_of, start}
use Rattle.word_rule.specs.Observations.{last_moment}

pub all_hold_snoc : (t : Terms) (past : List Update) (callers since : ℕ) (rs : List Receipt) (r : Receipt) → AllHold (start t) past t.nodes callers since rs → Holds (start t) past t.nodes callers (last_moment since rs) r → AllHold (start t) past t.nodes callers since (rs ++ r ∷ [])
all_hold_snoc t past callers since [] r h mine = (mine, tt)
all_hold_snoc t past callers since (x ∷ rs) r h mine = (h.0, all_hold_snoc t past callers (max since (moment x)) rs r h.1 mine)

-- the last stamp or number of a list
abbrev last_of : ℕ → List Receipt → ℕ
last_of since [] = since
last_of since (r ∷ rs) = last_of (moment r) rs

last_of_within : (t : Terms) (past : List Update) (callers since least : ℕ) (rs : List Receipt) → least ≤ length past → AllHold (start t) past t.nodes callers since rs → last_of least rs ≤ length past
last_of_within t past callers since least [] low h = low
last_of_within t past callers since least (x ∷ rs) low h = last_of_within t past callers (max since (moment x)) (moment x) rs h.0.within h.1

in_order_snoc : (since : ℕ) (rs : List Receipt) (r : Receipt) (u : Update) → AreInOrder since rs → accepted r ≡ Some u → last_of since rs < moment r → AreInOrder since (rs ++ r ∷ [])
in_order_snoc since [] r u h is later = (rw is later, tt)
in_order_snoc since (x ∷ rs) r u h is later = (h.0, in_order_snoc (moment x) rs r u h.1 is later)

pub in_order_next : (t : Terms) (past : List Update) (callers since : ℕ) (rs : List Receipt) (r : Receipt) (u : Update) → since ≤ length past → AllHold (start t) past t.nodes callers since rs → AreInOrder since rs → accepted r ≡ Some u → length past < moment r → AreInOrder since (rs ++ r ∷ [])
in_order_next t past callers since rs r u low hold order is later = let l = last_of_within t past callers since since rs low hold in in_order_snoc since rs r u order is (omega (arith, l, later))

-- an answer that accepts nothing, at the end of all that was seen
pub in_order_later : (t : Terms) (past : List Update) (callers since : ℕ) (rs : List Receipt) (r : Receipt) → since ≤ length past → AllHold (start t) past t.nodes callers since rs → AreInOrder since rs → accepted r ≡ None → moment r ≡ length past → AreInOrder since (rs ++ r ∷ [])
in_order_later t past callers since rs r low hold order is now = let l = last_of_within t past callers since since rs low hold in go since rs order (omega (arith, l, now))
  where
    go : (low : ℕ) (qs : List Receipt) → AreInOrder low qs → last_of low qs ≤ moment r → AreInOrder low (qs ++ r ∷ [])
    go low [] h later = (rw is later, tt)
    go low (x ∷ qs) h later = (h.0, go (moment x) qs h.1 later)

-- how many say that the n-th update was accepted
pub done_snoc : (n number : ℕ) (rs : List Receipt) (r : Receipt) (u : Update) → accepted r ≡ Some u → moment r ≡ number → count_by (has_number n) (rs ++ r ∷ []) ≡ count_by (has_number n) rs + once (number == n)
done_snoc n number rs r u is at = sum_by_push (λ x. once (has_number n x)) rs r ∙ ap (λ b. count_by (has_number n) rs + once b) (λ i. is_some (is i) && (at i == n))

pub number_snoc : (len n : ℕ) → number_of (len + 1) n ≡ number_of len n + once (len + 1 == n)
number_snoc len n = go (dec_le n len) (ℕ_discrete (len + 1) n) (dec_le 1 n)
  where
    go : Dec (n ≤ len) → Dec (len + 1 ≡ n) → Dec (1 ≤ n) → number_of (len + 1) n ≡ number_of len n + once (len + 1 == n)
    go (yes low) (yes e) some_n = absurd (omega (arith, low, e))
    go (yes low) (no ne) some_n =
        let a : nat_le n (len + 1) ≡ true = le-leb n (len + 1) (omega (arith, low)) in let b : nat_le n len ≡ true = le-leb n len low in let c : once (len + 1 == n) ≡ 0 = rw (ne_eqb (len + 1) n ne) refl in
        rw (a, b, c) (omega arith)
    go (no high) (yes e) (no nothing) = absurd (nothing (omega (arith, e)))
    go (no high) (yes e) (yes some_n) =
        let l = lt_of_not-le high in let a : nat_le n (len + 1) ≡ true = le-leb n (len + 1) (omega (arith, e)) in let b : nat_le n len ≡ false = lt-leb n len l in let c : once (len + 1 == n) ≡ 1 = rw (eq-eqb (len + 1) n e) refl in let d : nat_le 1 n ≡ true = le-leb 1 n some_n in
        rw (a, b, c, d) refl
    go (no high) (no ne) (no nothing) =
        let z : nat_le 1 n ≡ false = lt-leb 1 n (lt_of_not-le nothing) in let c : once (len + 1 == n) ≡ 0 = rw (ne_eqb (len + 1) n ne) refl in rw (z, c) refl
    go (no high) (no ne) (yes some_n) =
        let l = lt_of_not-le high in let a : nat_le n (len + 1) ≡ false = lt-leb n (len + 1) (omega (arith, l, ne)) in let b : nat_le n len ≡ false = lt-leb n len l in let c : once (len + 1 == n) ≡ 0 = rw (ne_eqb (len + 1) n ne) refl in let d : nat_le 1 n ≡ true = le-leb 1 n some_n in
        rw (a, b, c, d) refl
