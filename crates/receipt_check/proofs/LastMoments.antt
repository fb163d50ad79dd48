-- When so many members were registered last, where the count rises and where it falls.
use Rattle.std.proofs.Common.{◌≡◌, ℕ, ◌+◌, ◌-◌, ◌<◌, ◌≤◌, ◌&&◌, List, length, get_or, set, cond, leb, ltb, inl, inr, refl, sym, ◌∙◌, ap, arith}
use Rattle.std.proofs.lemmas.Bool.{cases_lt, cases_order, le-leb, lt-leb, lt-ltb, le-ltb}
use Rattle.std.proofs.lemmas.List.{get_or-set_same, get_or-set_other}

-- the count is no lower than before
pub by_rise : (old count moment least end : ℕ) → old ≤ count → cond (leb least count) (moment + 1 + 1) end ≡ cond (leb least count) (moment + 2) (cond (leb least old) (moment + 1) end)
by_rise old count moment least end up = elim (cases_lt count least) [
  | inl more ↦ rw (lt-leb least count more, lt-leb least old (omega arith)) refl
  | inr few ↦ rw (le-leb least count few) (omega arith)
]

-- it is lower
pub by_fall : (old count moment least now end : ℕ) → count ≤ old → now ≡ cond (leb count (least - 1) && ltb (least - 1) old) (moment + 1) end → cond (leb least count) (moment + 1 + 1) now ≡ cond (leb least count) (moment + 2) (cond (leb least old) (moment + 1) end)
by_fall old count moment least now end down is = elim (cases_lt count least) [
  | inr few ↦ rw (le-leb least count few) (omega arith)
  | inl more ↦ rw (lt-leb least count more, is, le-leb count (least - 1) (omega arith)) (elim (cases_lt old least) [
    | inl past ↦ rw (lt-leb least old past, le-ltb (least - 1) old (omega arith)) refl
    | inr within ↦ rw (le-leb least old within, lt-ltb (least - 1) old (omega arith)) refl
  ])
]

-- one place more of those from `low` on
pub one_more : (all now : List ℕ) (low place end : ℕ) → low ≤ place → place < length now → ((k : ℕ) → get_or now k 0 ≡ cond (leb low k && ltb k place) end (get_or all k 0)) → (k : ℕ) → get_or (set now place end) k 0 ≡ cond (leb low k && ltb k (place + 1)) end (get_or all k 0)
one_more all now low place end from within before k = elim (cases_order k place) [
  | inl same ↦ rw (same, get_or-set_same now place end 0 within, le-leb low place from, lt-ltb place (place + 1) (omega arith)) refl
  | inr (inl less) ↦ get_or-set_other now place k end 0 (λ same. absurd (omega arith)) ∙ before k ∙ ap (λ b. cond (leb low k && b) end (get_or all k 0)) (lt-ltb k place less ∙ sym (lt-ltb k (place + 1) (omega arith)))
  | inr (inr more) ↦ get_or-set_other now place k end 0 (λ same. absurd (omega arith)) ∙ before k ∙ ap (λ b. cond (leb low k && b) end (get_or all k 0)) (le-ltb k place (omega arith) ∙ sym (le-ltb k (place + 1) (omega arith)))
]
