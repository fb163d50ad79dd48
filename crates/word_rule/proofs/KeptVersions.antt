-- What a caller keeps plainly is still its log's, after it let go of a node, stored in one or committed.
use Rattle.std.proofs.Common.{◌≡◌, ℕ, ◌+◌, ◌-◌, ◌*◌, ◌<◌, ◌%◌, ◌≤◌, [], ◌∷◌, length, length-append, refl, sym, ap, ◌∙◌, subst, arith, Bool, true, false, Some, None, if◌then◌else◌}
use Rattle.reg_model.specs.declared.answer.Update.{Update}
use Rattle.word_rule.specs.Commits.{AfterCommit}
use Rattle.word_rule.specs.declared.log.Log.{Log}
use Rattle.word_rule.specs.Places.{CREDIT}
use Rattle.word_rule.specs.CallerInvariant.{IsCaller}
use Rattle.word_rule.specs.Exchange.{settle}
use Rattle.word_rule.specs.Logs.{after_spending}
use Rattle.word_rule.specs.Steps.{after_update, after_node_release, after_node_release_same, after_node_store, frees, stored_log}
use Rattle.word_rule.proofs.NodeReleases.{settle_is}
use Rattle.word_rule.specs.Plays.{Seated}

-- a caller whose log keeps its role, its budget, its lineage and what it has seen
same_caller : {left spare seen share : ℕ} (me me' : Seated) → me'.1 ≡ me.1 → me'.0.role ≡ me.0.role → me'.0.past ≡ me.0.past → me'.0.budget ≡ me.0.budget → me'.0.lineage ≡ me.0.lineage → IsCaller left spare seen share me → IsCaller left spare seen share me'
same_caller {left = left} {spare = spare} me me' bare role past budget lineage c = record {
  bare = bare ∙ c.bare;
  role = role ∙ c.role;
  seen_all = c.seen_all ∙ sym (ap length past);
  allowed = subst (λ b. left ≤ b.allowance) (sym budget) c.allowed;
  most = c.most;
  credit = ap (λ b. b.credit) budget ∙ c.credit;
  counted = subst (λ b. b.credit ≤ CREDIT) (sym budget) c.counted;
  shared = c.shared ∙ sym (ap (λ l. l.share) lineage);
}

-- a caller that let go of a node
pub caller_released : (left spare seen share : ℕ) (me me' : Seated) (n : ℕ) → me'.0 ≡ after_node_release_same n me.0 → me'.1 ≡ me.1 → IsCaller left spare seen share me → IsCaller left spare seen share me'
caller_released left spare seen share me me' n is same c = subst (λ (v : Log). IsCaller left spare seen share (v, me'.1)) (sym is) (same_caller me (after_node_release_same n me.0, me'.1) same refl refl refl refl c)

-- a caller that let go of a node with the next version
pub caller_let_go : (left spare seen share : ℕ) (me me' : Seated) (n : ℕ) → me'.0 ≡ after_node_release n me.0 → me'.1 ≡ me.1 → 64 * left < me.0.budget.credit → IsCaller left spare seen share me → IsCaller left (spare - 1) seen share me'
caller_let_go left spare seen share me me' n is bare some_credit c =
    let u : Log = record me.0 { holdings = (settle None me.0).holdings } in
    let same : me'.0 ≡ record (after_node_release_same n u) { budget = after_spending u.budget } = is ∙ ap (λ (z : Log). record (after_node_release_same n z) { budget = after_spending z.budget }) (settle_is None me.0) in
    subst (λ (z : Log). IsCaller left (spare - 1) seen share (z, me'.1)) (sym same) (record {
      bare = bare ∙ c.bare;
      role = c.role;
      seen_all = c.seen_all;
      allowed = c.allowed;
      most = c.most;
      credit = (let e = c.credit in omega (arith, some_credit, e));
      counted = (let f = c.counted in omega (arith, f));
      shared = c.shared;
    })

-- a caller that stored in a node
pub caller_stored : (left spare seen share : ℕ) (me me' : Seated) (n at value : ℕ) → me'.0 ≡ after_node_store n at value me.0 → me'.1 ≡ me.1 → IsCaller left spare seen share me → IsCaller left spare seen share me'
caller_stored left spare seen share me me' n at value is bare c =
    subst (λ (z : Log). IsCaller left spare seen share (z, me'.1)) (sym is) (go (frees n at value me.0))
  where
    stored : IsCaller left spare seen share (stored_log n at value me.0, me'.1)
    stored = same_caller me (stored_log n at value me.0, me'.1) bare refl refl refl refl c

    go : (b : Bool) → IsCaller left spare seen share ((if b then settle None (stored_log n at value me.0) else stored_log n at value me.0), me'.1)
    go false = stored
    go true = subst (λ (z : Log). IsCaller left spare seen share (z, me'.1)) (sym (settle_is None (stored_log n at value me.0)))
        (same_caller me (record (stored_log n at value me.0) { holdings = (settle None (stored_log n at value me.0)).holdings }, me'.1) bare refl refl refl refl c)

-- a caller that committed an update
pub caller_committed : (left spare seen seen' share : ℕ) (me me' : Seated) (u : Update) (found : ℕ) → AfterCommit u found me.0 me'.0 → me'.1 ≡ me.1 → left < me.0.budget.allowance → seen' ≡ found % 4294967296 + 1 → IsCaller left spare seen share me → IsCaller left spare seen' share me'
caller_committed left spare seen seen' share me me' u found (before, r, (tells, done, is)) bare some_due now c =
    let same : me'.0 ≡ after_update u before r (record me.0 { holdings = (settle (Some u) me.0).holdings }) = is ∙ ap (after_update u before r) (settle_is (Some u) me.0) in
    subst (λ (z : Log). IsCaller left spare seen' share (z, me'.1)) (sym same) (record {
      bare = bare ∙ c.bare;
      role = c.role;
      seen_all = (let n = tells.number in let l = length-append before (u ∷ []) in omega (arith, now, n, l));
      allowed = omega (arith, some_due);
      most = c.most;
      credit = c.credit;
      counted = c.counted;
      shared = c.shared;
    })
