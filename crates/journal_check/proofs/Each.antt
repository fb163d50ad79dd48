-- What holds of all that is told holds of each round's threads.
use Rattle.std.proofs.Common.{◌≡◌, ◌↔◌, ℕ, ◌+◌, List, [], ◌∷◌, ◌++◌, length, map, max, All, refl, sym, ◌∙◌, ap, subst}
use Rattle.std.specs.List.{flat_map, sum_by, count_by, AllByRecursion}
use Rattle.std.proofs.lemmas.List.Elements.{All-push, All-from_recursion, recursion_from_All, All-contains, Contains-push}
use Rattle.std.proofs.lemmas.List.{length-map}
use Rattle.reg_model.specs.SpanData.{SpanData}
use Rattle.reg_model.specs.Receipt.{moment}
use Rattle.reg_model.specs.declared.answer.Receipt.{Receipt}
use Rattle.script_text.specs.Lawful.{receipts_of, done_after}
use Rattle.script_text.specs.declared.journal.Answer.{Answer}
use Rattle.receipt_check.specs.declared.account.Told.{Told}
use Rattle.receipt_check.proofs.Halves.{All-front}
use Rattle.journal_check.specs.Telling.{TellingData, told_after, receipt_lines, tell_receipt, tell_line, tell_answer, tell_thread, tell_rounds, is_update}
use Rattle.journal_check.specs.declared.teller.Bounds.{Bounds}
use Rattle.journal_check.proofs.Receipts.{single, joined_lines, of_thread}
use Rattle.journal_check.proofs.Accepted.{updates_same}

pub iff_then : {A B C : Type 0} → (A ↔ B) → (B ↔ C) → (A ↔ C)
iff_then one two = (λ a. two.0 (one.0 a), λ c. one.1 (two.1 c))

-- the greatest stamp or number after receipts
abbrev pub seen_after : ℕ → List Receipt → ℕ
seen_after seen [] = seen
seen_after seen (r ∷ rs) = seen_after (max seen (moment r)) rs

-- along a thread, of each receipt and what was seen before it
abbrev pub EachFrom : (ℕ → Receipt → Type 0) → ℕ → List Receipt → Type 0
EachFrom S seen [] = Unit {0}
EachFrom S seen (r ∷ rs) = S seen r × EachFrom S (max seen (moment r)) rs

seen_append : (seen : ℕ) (xs ys : List Receipt) → seen_after seen (xs ++ ys) ≡ seen_after (seen_after seen xs) ys
seen_append seen [] ys = refl
seen_append seen (x ∷ xs) ys = seen_append (max seen (moment x)) xs ys

each_append : (S : ℕ → Receipt → Type 0) (seen : ℕ) (xs ys : List Receipt) → (EachFrom S seen (xs ++ ys) ↔ (EachFrom S seen xs × EachFrom S (seen_after seen xs) ys))
each_append S seen [] ys = (λ each. (tt, each), λ both. both.1)
each_append S seen (x ∷ xs) ys =
    let rest = each_append S (max seen (moment x)) xs ys in
    (λ each. ((each.0, (rest.0 each.1).0), (rest.0 each.1).1), λ both. (both.0.0, rest.1 (both.0.1, both.1)))

all_push : (P : Told → Type 0) (told : List Told) (t : Told) → (All P (told ++ t ∷ []) ↔ (All P told × P t))
all_push P told t = (λ all. (All-front P told (t ∷ []) all, All-contains P (told ++ t ∷ []) t all (Contains-push told t)), λ both. All-push P told t both.0 both.1)

abbrev bounds_of : Told → Bounds
bounds_of t = record { before = t.before; after = t.after; callers = t.callers }

module _ (Q : Bounds → ℕ → Receipt → Type 0) where
  abbrev pub Said : Told → Type 0
  Said t = Q (bounds_of t) t.seen t.receipt

  -- an item's telling adds its receipts
  record Tells (bounds : Bounds) (X : Type 0) (tell : TellingData → X → TellingData) (adds : X → List Receipt) : Type 0 where
    each : (t : TellingData) (x : X) → (All Said (tell t x).told ↔ (All Said t.told × EachFrom (Q bounds) t.seen (adds x)))
    seen : (t : TellingData) (x : X) → (tell t x).seen ≡ seen_after t.seen (adds x)

  tells_seen : (bounds : Bounds) (X : Type 0) (tell : TellingData → X → TellingData) (adds : X → List Receipt) → Tells bounds X tell adds → (t : TellingData) (xs : List X) → (told_after tell t xs).seen ≡ seen_after t.seen (flat_map adds xs)
  tells_seen bounds X tell adds tells t [] = refl
  tells_seen bounds X tell adds tells t (x ∷ xs) =
      tells_seen bounds X tell adds tells (tell t x) xs ∙ ap (λ n. seen_after n (flat_map adds xs)) (tells.seen t x) ∙ sym (seen_append t.seen (adds x) (flat_map adds xs))

  tells_each : (bounds : Bounds) (X : Type 0) (tell : TellingData → X → TellingData) (adds : X → List Receipt) → Tells bounds X tell adds → (t : TellingData) (xs : List X) → (All Said (told_after tell t xs).told ↔ (All Said t.told × EachFrom (Q bounds) t.seen (flat_map adds xs)))
  tells_each bounds X tell adds tells t [] = (λ all. (all, tt), λ both. both.0)
  tells_each bounds X tell adds tells t (x ∷ xs) =
      let rest = tells_each bounds X tell adds tells (tell t x) xs in
      let here = tells.each t x in
      let S = Q bounds in
      let back = flat_map adds xs in
      let split = each_append S t.seen (adds x) back in
      let same = tells.seen t x in (
        λ all. (let one = rest.0 all in let two = here.0 one.0 in (two.0, split.1 (two.1, subst (λ n. EachFrom S n back) same one.1))),
        λ both. (let two = split.0 both.1 in rest.1 (here.1 (both.0, two.0), subst (λ n. EachFrom S n back) (sym same) two.1)),
      )

  receipt_tells : (bounds : Bounds) → Tells bounds Receipt (tell_receipt bounds) (λ r. r ∷ [])
  receipt_tells bounds = record {
    each = λ t r. iff_then (all_push Said t.told (record { line = t.line; before = bounds.before; after = bounds.after; callers = bounds.callers; seen = t.seen; receipt = r })) (λ both. (both.0, (both.1, tt)), λ both. (both.0, both.1.0));
    seen = λ t r. refl;
  }

  line_tells : (bounds : Bounds) → Tells bounds (List Receipt) (tell_line bounds) (λ rs. rs)
  line_tells bounds = record {
    each = λ t rs. subst (λ (adds : List Receipt). (All Said (told_after (tell_receipt bounds) t rs).told ↔ (All Said t.told × EachFrom (Q bounds) t.seen adds))) (single rs) (tells_each bounds Receipt (tell_receipt bounds) (λ r. r ∷ []) (receipt_tells bounds) t rs);
    seen = λ t rs. tells_seen bounds Receipt (tell_receipt bounds) (λ r. r ∷ []) (receipt_tells bounds) t rs ∙ ap (seen_after t.seen) (single rs);
  }

  answer_tells : (images : List SpanData) (bounds : Bounds) → Tells bounds Answer (tell_answer images bounds) (receipts_of images)
  answer_tells images bounds = record {
    each = λ t a. subst (λ (adds : List Receipt). (All Said (tell_answer images bounds t a).told ↔ (All Said t.told × EachFrom (Q bounds) t.seen adds))) (joined_lines images a) (tells_each bounds (List Receipt) (tell_line bounds) (λ rs. rs) (line_tells bounds) t (receipt_lines images a));
    seen = λ t a. tells_seen bounds (List Receipt) (tell_line bounds) (λ rs. rs) (line_tells bounds) t (receipt_lines images a) ∙ ap (seen_after t.seen) (joined_lines images a);
  }

  thread_each : (images : List SpanData) (bounds : Bounds) (t : TellingData) (answers : List Answer) → (All Said (tell_thread images bounds t answers).told ↔ (All Said t.told × EachFrom (Q bounds) 0 (of_thread images answers)))
  thread_each images bounds t answers = tells_each bounds Answer (tell_answer images bounds) (receipts_of images) (answer_tells images bounds) (record { told = t.told; line = t.line; seen = 0 }) answers

  round_each : (images : List SpanData) (bounds : Bounds) (t : TellingData) (round : List (List Answer)) → (All Said (told_after (tell_thread images bounds) t round).told ↔ (All Said t.told × AllByRecursion (EachFrom (Q bounds) 0) (map (of_thread images) round)))
  round_each images bounds t [] = (λ all. (all, tt), λ both. both.0)
  round_each images bounds t (answers ∷ round) =
      let rest = round_each images bounds (tell_thread images bounds t answers) round in
      let here = thread_each images bounds t answers in (
        λ all. (let one = rest.0 all in let two = here.0 one.0 in (two.0, (two.1, one.1))),
        λ both. rest.1 (here.1 (both.0, both.1.0), both.1.1),
      )

  -- of each thread of each round
  abbrev pub RoundsEach : ℕ → ℕ → List (List (List Receipt)) → Type 0
  RoundsEach callers done [] = Unit {0}
  RoundsEach callers done (round ∷ rounds) =
      All (EachFrom (Q (record { before = done; after = done_after done round; callers = callers + length round })) 0) round
      × RoundsEach (callers + length round) (done_after done round) rounds

  pub rounds_each : (images : List SpanData) (callers done : ℕ) (t : TellingData) (rounds : List (List (List Answer))) → (All Said (tell_rounds images callers done t rounds).told ↔ (All Said t.told × RoundsEach callers done (map (map (of_thread images)) rounds)))
  rounds_each images callers done t [] = (λ all. (all, tt), λ both. both.0)
  rounds_each images callers done t (round ∷ rounds) =
      let after = done + sum_by (count_by is_update) round in
      let n = callers + length round in
      let bounds : Bounds = record { before = done; after = after; callers = n } in
      let lists = map (of_thread images) round in
      let left = map (map (of_thread images)) rounds in
      let next = told_after (tell_thread images bounds) t round in
      let F = λ (m : ℕ) (done' : ℕ). (All Said (tell_rounds images n after next rounds).told ↔ (All Said t.told × (All (EachFrom (Q (record { before = done; after = done'; callers = m })) 0) lists × RoundsEach m done' left))) in
      let rest = rounds_each images n after next rounds in
      let here = round_each images bounds t round in
      let S = EachFrom (Q bounds) 0 in
      let base : F n after = (
        λ all. (let one = rest.0 all in let two = here.0 one.0 in (two.0, (All-from_recursion S lists two.1, one.1))),
        λ both. rest.1 (here.1 (both.0, recursion_from_All S lists both.1.0), both.1.1),
      ) in
      subst (λ m. F m (done_after done lists)) (ap (λ k. callers + k) (sym (length-map round (of_thread images)))) (subst (F n) (updates_same images done round) base)
