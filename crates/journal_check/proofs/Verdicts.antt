-- Of what is told, one flaw at the most counts first.
use Rattle.std.proofs.Common.{◌≡◌, ℕ, ◌+◌, ◌<◌, ◌≤◌, zero, suc, List, inl, inr, All, refl, sym, ◌∙◌, ap, subst, arith}
use Rattle.std.proofs.lemmas.List.Elements.{All-contains}
use Rattle.std.proofs.lemmas.Bool.{cases_lt}
use Rattle.receipt_check.specs.declared.account.ReceiptFlaw.{ReceiptFlaw}
use Rattle.receipt_check.specs.declared.account.ReceiptFlaw.TheVariants.{Number, Count, History, Answer, Order, Round}
use Rattle.reg_model.specs.History.{state_at}
use Rattle.receipt_check.specs.declared.account.Told.{Told}
use Rattle.receipt_check.specs.Flaws.{AccountData, told_history, FitsInTurn, IsFirstLine, IsFreeOf, IsFlawAt, IsFirstMisfit, CountsFirst, IsFlawless, rank}

-- the flaw of a rank
abbrev ranked : ℕ → ReceiptFlaw
ranked (suc (suc (suc zero))) = Count
ranked (suc (suc (suc (suc zero)))) = History
ranked (suc (suc (suc (suc (suc zero))))) = Answer
ranked (suc (suc (suc (suc (suc (suc zero)))))) = Order
ranked (suc (suc (suc (suc (suc (suc (suc n))))))) = Round
ranked _ = Number

ranked_back : (which : ReceiptFlaw) → ranked (rank which) ≡ which
ranked_back Number = refl
ranked_back _ = refl

pub rank_same : (one other : ReceiptFlaw) → rank one ≡ rank other → one ≡ other
rank_same one other same = sym (ranked_back one) ∙ ap ranked same ∙ ranked_back other

module _ (IsSo : Told → Type 0) (told : List Told) where
  first_le : (line other : ℕ) → IsFirstLine IsSo told line → IsFirstLine IsSo told other → other ≤ line
  first_le line other first second = (let here = first.here in elim (cases_lt line other) [
    | inl less ↦ absurd (first.is_wrong (All-contains (λ t. t.line < other → IsSo t) told first.wrong second.above first.listed (omega arith)))
    | inr past ↦ past
  ])

  -- there is one first line at the most
  first_same : (line other : ℕ) → IsFirstLine IsSo told line → IsFirstLine IsSo told other → line ≡ other
  first_same line other first second = (let low = first_le line other first second in let high = first_le other line second first in omega arith)

  -- and none where all are so
  first_none : (line : ℕ) → All IsSo told → IsFirstLine IsSo told line → ⊥
  first_none line all first = first.is_wrong (All-contains IsSo told first.wrong all first.listed)

misfit_order : (a : AccountData) (line other : ℕ) (one : IsFirstMisfit a line) (two : IsFirstMisfit a other) → ¬ (one.0 < two.0)
misfit_order a line other (k, below, fit, first) (j, below', fit', second) less = first_none _ a.told line (fit' k less) first

misfit_same : (a : AccountData) (line other : ℕ) → IsFirstMisfit a line → IsFirstMisfit a other → line ≡ other
misfit_same a line other one two =
    let low = misfit_order a line other one two in
    let high = misfit_order a other line two one in
    let same : two.0 ≡ one.0 = omega arith in
    first_same _ a.told line other one.3 (subst (λ k. IsFirstLine (FitsInTurn (state_at a.start (told_history a) k) (k + 1)) a.told other) same two.3)

flaw_same : (a : AccountData) (which : ReceiptFlaw) (line other : ℕ) → IsFlawAt a which line → IsFlawAt a which other → line ≡ other
flaw_same a Number line other one two = first_same _ a.told line other one two
flaw_same a Count line other one two = one.1 ∙ sym two.1
flaw_same a History line other one two = misfit_same a line other one two
flaw_same a Answer line other one two = first_same _ a.told line other one two
flaw_same a Order line other one two = first_same _ a.told line other one two
flaw_same a Round line other one two = first_same _ a.told line other one two

flaw_none : (a : AccountData) (which : ReceiptFlaw) (line : ℕ) → IsFreeOf a which → IsFlawAt a which line → ⊥
flaw_none a Number line free at = first_none _ a.told line free at
flaw_none a Count line free at = at.0 free
flaw_none a History line free at = first_none _ a.told line (free at.0 at.1) at.3
flaw_none a Answer line free at = first_none _ a.told line free at
flaw_none a Order line free at = first_none _ a.told line free at
flaw_none a Round line free at = first_none _ a.told line free at

pub no_verdict : (a : AccountData) (line : ℕ) (which : ReceiptFlaw) → IsFlawless a → CountsFirst a line which → ⊥
no_verdict a line which free first = flaw_none a which line (free which) first.at

not_before : (a : AccountData) (line other : ℕ) (which another : ReceiptFlaw) → CountsFirst a line which → CountsFirst a other another → ¬ (rank which < rank another)
not_before a line other which another first second less = flaw_none a which line (second.before which less) first.at

pub same_verdict : (a : AccountData) (line other : ℕ) (which another : ReceiptFlaw) → CountsFirst a line which → CountsFirst a other another → (line ≡ other) × (which ≡ another)
same_verdict a line other which another first second =
    let low = not_before a line other which another first second in
    let high = not_before a other line another which second first in
    let same : which ≡ another = rank_same which another (omega arith) in
    (flaw_same a which line other first.at (subst (λ f. IsFlawAt a f other) (sym same) second.at), same)
