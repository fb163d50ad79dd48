-- Rounds, one after another.
use Rattle.std.proofs.Common.{◌≡◌, ℕ, ◌+◌, ◌≤◌, List, [], ◌∷◌, ◌++◌, length, map, refl, sym, ◌∙◌, ap, subst, append-nil, append_assoc, length-append, is_some, arith}
use Rattle.std.specs.List.{AllByRecursion, flat_map}
use Rattle.std.proofs.lemmas.List.Elements.{All-from_recursion, All-weaker}
use mathlib.Core.List.{IsPrefix}
use Rattle.reg_model.specs.Chain.{IsBetween, made_count}
use Rattle.reg_model.specs.Receipt.{accepted}
use Rattle.reg_model.specs.declared.answer.Receipt.{Receipt}
use Rattle.reg_model.specs.declared.answer.Update.{Update}
use Rattle.word_rule.specs.CallerData.{CallerData}
use Rattle.word_rule.specs.Callers.{IsRecord, start}
use Rattle.word_rule.specs.declared.log.ReceiptList.{ReceiptList}
use Rattle.word_rule.specs.declared.log.Terms.{Terms}
use Rattle.registry_core.specs.Rounds.{IsAfterRound, IsBetweenRounds, joined_lists, lists_since}
use Rattle.registry_core.proofs.Counting.{count_both}
use Rattle.registry_core.proofs.Rounding.{both_lists}
use Rattle.script_text.specs.Lawful.{AreInRounds, RoundsHold, in_one}
use Rattle.run_engine.specs.Shared.{IsAfterRounds}

-- all threads' records, of all rounds
abbrev flat : List (List (List Receipt)) → List (List Receipt)
flat rounds = flat_map (λ round. round) rounds

abbrev of_round : List (List Receipt) → List Receipt
of_round round = flat_map (λ receipts. receipts) round

flat_more : {A : Type 0} (rounds : List (List A)) (round : List A) → flat_map (λ round. round) (rounds ++ round ∷ []) ≡ flat_map (λ round. round) rounds ++ round
flat_more [] round = append-nil round
flat_more (r ∷ rounds) round = ap (λ rest. r ++ rest) (flat_more rounds round) ∙ sym (append_assoc r (flat_map (λ round. round) rounds) round)

in_one_more : (rounds : List (List (List Receipt))) (round : List (List Receipt)) → in_one (rounds ++ round ∷ []) ≡ in_one rounds ++ of_round round
in_one_more [] round = append-nil (of_round round)
in_one_more (r ∷ rounds) round = ap (λ rest. of_round r ++ rest) (in_one_more rounds round) ∙ sym (append_assoc (of_round r) (in_one rounds) (of_round round))

of_round_both : (xs ys : List (List Receipt)) → of_round (xs ++ ys) ≡ of_round xs ++ of_round ys
of_round_both [] ys = refl
of_round_both (x ∷ xs) ys = ap (λ rest. x ++ rest) (of_round_both xs ys) ∙ sym (append_assoc x (of_round xs) (of_round ys))

-- the receipts of all rounds, as those of all threads
pub in_one_flat : (rounds : List (List (List Receipt))) → of_round (flat rounds) ≡ in_one rounds
in_one_flat [] = refl
in_one_flat (round ∷ rounds) = of_round_both round (flat rounds) ∙ ap (λ rest. of_round round ++ rest) (in_one_flat rounds)

-- no round yet
pub no_rounds : (k : CallerData) → IsBetweenRounds k → IsAfterRounds [] k k
no_rounds k between = record {
  table = refl;
  terms = refl;
  between = between;
  joined = sym (append-nil (joined_lists k.log.receipts));
  made = omega arith;
  hold = tt;
  bounds = tt;
  count = omega arith;
}

-- ---- what holds goes on to hold, and a round comes

-- what holds of lists since a moment, and of each of them
since_each : (P : ReceiptList → Type 0) (since : ℕ) (lists : List (List Receipt)) → AllByRecursion P (lists_since since lists) → AllByRecursion (λ receipts. P (record { since = since; list = receipts })) lists
since_each P since [] h = tt
since_each P since (receipts ∷ lists) h = (h.0, since_each P since lists h.1)

module _ (stay : (t : Terms) (past later : List Update) (callers more : ℕ) (receipts : ReceiptList) → IsPrefix past later → callers ≤ more → IsRecord t past callers receipts → IsRecord t later more receipts) where
  -- a thread's record in a round before which so many updates were done
  abbrev Record : Terms → List Update → ℕ → ℕ → List Receipt → Type 0
  Record t past callers done receipts = IsRecord t past callers (record { since = done; list = receipts })

  hold_more : (t : Terms) (past later : List Update) (callers done all : ℕ) (rounds : List (List (List Receipt))) (round : List (List Receipt)) → IsPrefix past later → all ≡ done + made_count (in_one rounds) → RoundsHold (start t) past t.nodes callers done rounds → AllByRecursion (Record t later (callers + length (flat rounds) + length round) all) round → RoundsHold (start t) later t.nodes callers done (rounds ++ round ∷ [])
  hold_more t past later callers done all [] round begins is holds here =
      let P : ℕ → ℕ → Type 0 = λ n since. AllByRecursion (Record t later n since) round in
      let at : P (callers + length round) all = subst (λ n. P n all) (omega arith) here in
      (All-from_recursion (Record t later (callers + length round) done) round (subst (P (callers + length round)) (omega (arith, is)) at), tt)
  hold_more t past later callers done all (r ∷ rounds) round begins is holds here =
      let P : ℕ → Type 0 = λ n. AllByRecursion (Record t later n all) round in (
        All-weaker (Record t past (callers + length r) done) (Record t later (callers + length r) done) (λ receipts held. stay t past later (callers + length r) (callers + length r) (record { since = done; list = receipts }) begins (omega arith) held) r holds.0,
        hold_more t past later (callers + length r) (done + made_count (of_round r)) all rounds round begins (is ∙ (let n = count_both (λ x. is_some (accepted x)) (of_round r) (in_one rounds) in omega (arith, n))) holds.1 (subst P (let n = length-append r (flat rounds) in omega (arith, n)) here),
      )

  bounds_more : (done later : ℕ) (rounds : List (List (List Receipt))) (round : List (List Receipt)) → AreInRounds done rounds → later ≡ done + made_count (in_one rounds) → AllByRecursion (IsBetween later (later + made_count (of_round round))) (of_round round) → AreInRounds done (rounds ++ round ∷ [])
  bounds_more done later [] round within is here =
      let P : ℕ → Type 0 = λ n. AllByRecursion (IsBetween n (n + made_count (of_round round))) (of_round round) in
      (All-from_recursion (IsBetween done (done + made_count (of_round round))) (of_round round) (subst P (omega (arith, is)) here), tt)
  bounds_more done later (r ∷ rounds) round within is here = (
    within.0,
    bounds_more (done + made_count (of_round r)) later rounds round within.1 (is ∙ (let n = count_both (λ x. is_some (accepted x)) (of_round r) (in_one rounds) in omega (arith, n))) here,
  )

  -- one round more
  pub rounds_more : (rounds : List (List (List Receipt))) (round : List (List Receipt)) (k m n : CallerData) → IsAfterRounds rounds k m → IsAfterRound round m n → IsAfterRounds (rounds ++ round ∷ []) k n
  rounds_more rounds round k m n before last =
      let since : ℕ = length m.log.past in
      let P : Terms → Type 0 = λ t. AllByRecursion (Record t n.log.past (n.log.made + 1) since) round in
      let Q : ℕ → Type 0 = λ count. AllByRecursion (Record k.log.terms n.log.past count since) round in
      let last_hold : P m.log.terms = since_each (IsRecord m.log.terms n.log.past (n.log.made + 1)) since round last.hold in
      let B : ℕ → Type 0 = λ high. AllByRecursion (IsBetween (length m.log.past) high) (of_round round) in
      let lengths = length-append (flat rounds) round in
      let made = before.made in
      let made' = last.made in
      let total = count_both (λ x. is_some (accepted x)) (in_one rounds) (of_round round) in
      let counted = before.count in
      let counted' = last.count in
      record {
        table = last.table ∙ before.table;
        terms = last.terms ∙ before.terms;
        between = last.between;
        joined = ap (map (λ (c : ReceiptList). c.list)) last.joined ∙ (both_lists m.log.receipts.joined since round
            ∙ (ap (λ joined. joined ++ round) before.joined ∙ (append_assoc (joined_lists k.log.receipts) (flat rounds) round ∙ ap (λ all. joined_lists k.log.receipts ++ all) (sym (flat_more rounds round)))));
        made = rw (flat_more rounds round) (omega (arith, lengths, made, made'));
        hold = hold_more k.log.terms m.log.past n.log.past (k.log.made + 1) (length k.log.past) since rounds round last.begins counted before.hold (subst Q (omega (arith, made, made')) (subst P before.terms last_hold));
        bounds = bounds_more (length k.log.past) (length m.log.past) rounds round before.bounds counted (subst B counted' last.bounds);
        count = rw (in_one_more rounds round) (omega (arith, total, counted, counted'));
      }
