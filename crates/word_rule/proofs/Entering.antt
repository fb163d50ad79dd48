-- A reader comes: it has seen a beginning of the history, holds nothing and has no share. Nothing else changes.
use Rattle.std.proofs.Common.{◌≡◌, ℕ, ◌+◌, ◌<◌, List, [], ◌∷◌, ◌++◌, append-nil, length, set, sym, refl, ap, ◌∙◌, subst, arith, Option, Some, None, false, true, true≢false}
use mathlib.Core.Option.{some}
use mathlib.Core.List.{IsPrefix}
use lib.ListN.{get_elem?}
use Rattle.atomic_table.specs.Table.{State as TableState, Splits, Enters}
use Rattle.atomic_table.proofs.Lists.{at_longer, set_again}
use Rattle.reg_model.specs.declared.answer.Update.{Update}
use Rattle.tree_laws.specs.Numbers.{times, once}
use Rattle.word_rule.specs.declared.log.Log.{Log}
use Rattle.word_rule.specs.declared.log.Terms.{Terms}
use Rattle.word_rule.specs.SharedWords.{SharedWords, memory_of}
use Rattle.word_rule.specs.Places.{lower}
use Rattle.word_rule.specs.Logs.{is_gone, is_nameless, weight, reader_log, reader_of}
use Rattle.word_rule.specs.Callers.{total, CallersHold, IsAlone, LogHolds, LineagesHold, AtLoader, LoaderLock, dones_in}
use Rattle.word_rule.specs.Nodes.{NodesHold, HoldingsHold, HeldBy}
use Rattle.word_rule.specs.Observations.{ObservationsHold}
use Rattle.word_rule.specs.TableInvariant.{TableInvariant, IsStill}
use Rattle.word_rule.proofs.Facts.{total_snoc, behind}
use Rattle.word_rule.proofs.SeatNodes.{holds_nothing}

module _ (t : Terms) (words : List ℕ) (views : List Log) (r : TableInvariant t words views) (past : List Update) (begins : IsPrefix past r.memory.history) where
  abbrev m : SharedWords
  m = memory_of t words

  abbrev one : Log
  one = reader_log t past

  abbrev both : List Log
  both = views ++ one ∷ []

  -- a number of which a reader has none
  sums : (f : Log → ℕ) → f one ≡ 0 → total f both ≡ total f views
  sums f e = let n = total_snoc f views one in omega (arith, n, e)

  lock_kept : (word : ℕ) (holder : Option ℕ) → LoaderLock word views holder → LoaderLock word both holder
  lock_kept word None h = h
  lock_kept word (Some j) h = (h.0, h.1, (at_longer views (one ∷ []) j h.0 h.2.0, h.2.1))

  held_kept : (n : ℕ) (holder : Option ℕ) → HeldBy n views holder → HeldBy n both holder
  held_kept n None h = tt
  held_kept n (Some j) h = (h.0, (at_longer views (one ∷ []) j h.0 h.1.0, h.1.1))

  lineages : LineagesHold both
  lineages = let k = r.memory.callers.lineages in record {
    whole = sums (λ v. v.lineage.share) refl ∙ k.whole;
    named = behind (λ _ u. is_nameless u.role ≡ false → 0 < u.lineage.share) views one (λ j u e. k.named j u e) (λ _ s. absurd (true≢false s));
    nameless = behind (λ _ u. is_nameless u.role ≡ true → ((n : ℕ) → dones_in n u ≡ 0) × (u.made ≡ 0)) views one (λ j u e. k.nameless j u e) (λ _ _. ((λ n. refl), refl));
  }

  callers : CallersHold t m both r.memory.history
  callers = let c = r.memory.callers in record {
    holder = c.holder;
    of_history = c.of_history;
    room = (let e = sums (λ v. v.budget.allowance) refl in let o = c.room in omega (arith, e, o));
    numbers = λ n. sums (dones_in n) refl ∙ c.numbers n;
    each = subst (λ k. (j : ℕ) (u : Log) → get_elem? both j ≡ some u → LogHolds t r.memory.history (k + 1) u) (sym (sums (λ v. v.made) refl))
        (behind (λ _ u. LogHolds t r.memory.history (total (λ v. v.made) views + 1) u) views one (λ j u e. c.each j u e)
        (λ _. record { terms = λ _. refl; begins = begins; receipts = record { since = omega arith; own = (tt, tt); joined = tt; heard = (past, refl) }; idle = λ _. record { held = refl; out = refl; loader = refl } }));
    weights = (let a = sums (λ v. weight v.role) refl in let b = sums (λ v. v.made) refl in let o = c.weights in omega (arith, a, b, o));
    loader = lock_kept (memory_of t words).loader c.holder c.loader;
    at_loader = behind (λ j u. AtLoader (memory_of t words) r.memory.callers.holder j u.loader) views one (λ j u e. c.at_loader j u e) (λ _. tt);
    spare_copy = λ clean. c.spare_copy (λ j u there. clean j u (at_longer views (one ∷ []) j u there));
    counted = (let e = sums (λ v. v.budget.credit) refl in let o = c.counted in omega (arith, e, o));
    lineages = lineages;
  }

  nodes : NodesHold t (memory_of t words).nodes both r.memory.history r.memory.shadow
  nodes = let n = r.memory.nodes in record {
    lawful = n.lawful;
    entries = n.entries;
    unlocked = n.unlocked;
    holdings = behind (λ j u. HoldingsHold t (memory_of t words).nodes r.memory.shadow j u.holdings) views one (λ j u e. n.holdings j u e) (λ j. holds_nothing t (memory_of t words).nodes r.memory.shadow j);
    holders = λ k. held_kept k (r.memory.shadow.holder k) (n.holders k);
    each_once = λ k. ap (λ z. once (r.memory.shadow.live k) + times k r.memory.shadow.free + z) (sums (λ v. times k v.holdings.out) refl) ∙ n.each_once k;
    chain = n.chain;
  }

  pub reader_comes : TableInvariant t words both
  reader_comes = record {
    wide = r.wide;
    memory = record {
      history = r.memory.history;
      callers = callers;
      shadow = r.memory.shadow;
      nodes = nodes;
      active = r.memory.active;
      observations = subst (λ k. (j : ℕ) (u : Log) → get_elem? both j ≡ some u → ObservationsHold t (memory_of t words) r.memory.history (k + 1) r.memory.shadow u) (sym (sums (λ v. v.made) refl))
          (behind (λ _ u. ObservationsHold t (memory_of t words) r.memory.history (total (λ v. v.made) views + 1) r.memory.shadow u) views one (λ j u e. r.memory.observations j u e) (λ _. record { sights = tt; copies = tt; full = tt; earlier = tt }));
    };
    alone = behind (λ _ u. IsAlone u.lineage → IsStill words u) views one (λ j u e. r.alone j u e) (λ _ a. absurd (let f = a.whole in omega (arith, f)));
  }

-- a reader is made beside one that stays as it was: a caller, a note or a reader
pub reads_on : (t : Terms) (id : ℕ) (v : Log) → is_gone v.role ≡ false → Splits (λ (s : TableState (Unit {0}) Log). TableInvariant t s.words s.views) id v v (reader_of v)
reads_on t id v here s r at =
    let log = r.memory.callers.each id v at in
    let same_views : set s.views id v ≡ s.views = set_again s.views id v at in
    subst (λ vs. TableInvariant t s.words (vs ++ reader_of v ∷ [])) (sym same_views)
    (subst (λ k. TableInvariant t s.words (s.views ++ reader_log k v.past ∷ [])) (sym (log.terms here)) (reader_comes t s.words s.views r v.past log.begins))

-- a reader is made by a load of the clock, and has seen all that was accepted
pub reader_enters : (t : Terms) (slots : ℕ) → Enters (λ (s : TableState (Unit {0}) Log). TableInvariant t s.words s.views) slots 0 (λ found w. (past : List Update) × ((lower found ≡ length past) × (w ≡ reader_log t past)))
reader_enters t slots s r deep small =
    let history = r.memory.history in (reader_log t history, reader_comes t s.words s.views r history ([], append-nil history), (history, (r.memory.callers.of_history.updates, refl)))
