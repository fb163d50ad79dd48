-- The rule holds of the opening words.
use Rattle.std.proofs.Common.{◌≡◌, ℕ, zero, suc, ◌+◌, ◌*◌, ◌<◌, ◌≤◌, [], ◌∷◌, ◌++◌, length, length-append, get_or, replicate, sym, refl, ◌∙◌, subst, arith, ◌⊎◌, inl, inr, None, false, true, true≢false, get_or-append-add, eq-or-lt_of_le}
use mathlib.Core.Option.{some, some-injective, some-ne-none}
use lib.ListN.{get_elem?, length-replicate, get_or-append}
use borrow.Author.Tests.{le-leb, lt-leb}
use Rattle.word_rule.specs.declared.log.Log.{Log}
use Rattle.word_rule.specs.declared.log.Terms.{Terms}
use Rattle.word_rule.specs.Places.{word_count, copy_words, initial_node, initial_nodes, initial_words}
use Rattle.word_rule.specs.SharedWords.{memory_of, node_counters, copy_of}
use Rattle.word_rule.proofs.Memories.{load_version_at}
use Rattle.word_rule.specs.Logs.{first_log, is_nameless}
use Rattle.word_rule.specs.Callers.{dones_in, CallersHold, LogHolds, AreTerms, AtLoader, number_of}
use Rattle.word_rule.specs.Copies.{IsBehind}

initial_node_length : (nodes n : ℕ) → length (initial_node nodes n) ≡ 36
initial_node_length nodes n = refl

pub initial_nodes_length : (nodes n : ℕ) → length (initial_nodes nodes n) ≡ 36 * n
initial_nodes_length nodes zero = refl
initial_nodes_length nodes (suc n) = let i = initial_nodes_length nodes n in let a = length-append (initial_nodes nodes n) (initial_node nodes n) in omega (arith, i, a)

pub initial_length : (t : Terms) → length (initial_words t) ≡ word_count t
initial_length t = let a = length-append (0 ∷ 1 ∷ 0 ∷ 0 ∷ initial_nodes t.nodes t.nodes) (replicate (2 * copy_words t) 0) in let n = initial_nodes_length t.nodes t.nodes in let r = length-replicate {A = ℕ} (2 * copy_words t) 0 in omega (arith, a, n, r)

pub initial_version : (nodes m n : ℕ) → n < m → get_or (initial_nodes nodes m) (36 * n) 0 ≡ 0
initial_version nodes zero n h = absurd (omega (arith, h))
initial_version nodes (suc m) n h = go (eq-or-lt_of_le h) (initial_version nodes m n)
  where
    len : length (initial_nodes nodes m) ≡ 36 * m
    len = initial_nodes_length nodes m

    go : (suc n ≡ suc m) ⊎ (suc n < suc m) → (n < m → get_or (initial_nodes nodes m) (36 * n) 0 ≡ 0) → get_or (initial_nodes nodes m ++ initial_node nodes m) (36 * n) 0 ≡ 0
    go (inl e) before = let l = len in let at : 36 * n ≡ length (initial_nodes nodes m) + 0 = omega (arith, e, l) in rw at (get_or-append-add (initial_nodes nodes m) (initial_node nodes m) 0 0)
    go (inr less) before = let l = len in let room : 36 * n < length (initial_nodes nodes m) = omega (arith, less, l) in get_or-append (initial_nodes nodes m) (initial_node nodes m) 0 (36 * n) room ∙ before (omega (arith, less))

pub initial_counters : (t : Terms) (n : ℕ) → n ≤ t.nodes → node_counters (memory_of t (initial_words t)).nodes.versions n ≡ 0
initial_counters t zero h = refl
initial_counters t (suc n) h =
    let len = initial_nodes_length t.nodes t.nodes in
    let room : 36 * n < length (initial_nodes t.nodes t.nodes) = omega (arith, len, h) in
    let here : get_or (initial_words t) (4 + 36 * n) 0 ≡ 0 =
    get_or-append-add (0 ∷ 1 ∷ 0 ∷ 0 ∷ []) (initial_nodes t.nodes t.nodes ++ replicate (2 * copy_words t) 0) (36 * n) 0 ∙ (get_or-append (initial_nodes t.nodes t.nodes) (replicate (2 * copy_words t) 0) 0 (36 * n) room ∙ initial_version t.nodes t.nodes n h) in
    let version : (memory_of t (initial_words t)).nodes.versions n ≡ 0 = load_version_at t (initial_words t) n (omega (arith, h)) ∙ here in
    let rest = initial_counters t n (omega (arith, h)) in rw (version, rest) refl

pub no_numbers : (n : ℕ) → 0 ≡ number_of 0 n
no_numbers zero = refl
no_numbers (suc n) = rw (le-leb 1 (suc n) (omega arith), lt-leb (suc n) 0 (omega arith)) refl

at_first : (v w : Log) (j : ℕ) → get_elem? (v ∷ []) j ≡ some w → (j ≡ 0) × (v ≡ w)
at_first v w zero e = (refl, some-injective v w e)
at_first v w (suc j) e = absurd (some-ne-none w (sym e))

-- what holds of the first log holds of all
pub only : (P : ℕ → Log → Type 0) (v : Log) → P 0 v → (j : ℕ) (w : Log) → get_elem? (v ∷ []) j ≡ some w → P j w
only P v h j w e = let a = at_first v w j e in subst (λ (z : ℕ × Log). P z.0 z.1) (λ i. (sym a.0 i, a.1 i)) h

pub callers_begin : (t : Terms) → AreTerms t → IsBehind t (copy_of t (initial_words t) 0) (copy_of t (initial_words t) 1) → CallersHold t (memory_of t (initial_words t)) (first_log t ∷ []) []
callers_begin t terms copies = record {
  holder = None;
  of_history = record { lawful = tt; updates = refl; published = refl; terms = terms; members = tt };
  room = omega arith;
  numbers = λ n. no_numbers n;
  each = only (λ _ v. LogHolds t [] 1 v) (first_log t) (record { terms = λ _. refl; begins = ([], refl); receipts = record { since = omega arith; own = (tt, tt); joined = tt; heard = ([], refl) }; idle = λ zero_weight. absurd (omega (arith, zero_weight)) });
  weights = omega arith;
  loader = refl;
  at_loader = only (λ j v. AtLoader (memory_of t (initial_words t)) None j v.loader) (first_log t) tt;
  spare_copy = λ _. copies;
  counted = (let c = initial_counters t t.nodes (omega arith) in rw c (omega arith));
  lineages = record {
    whole = refl;
    named = only (λ _ v. is_nameless v.role ≡ false → 0 < v.lineage.share) (first_log t) (λ _. omega arith);
    nameless = only (λ _ v. is_nameless v.role ≡ true → ((n : ℕ) → dones_in n v ≡ 0) × (v.made ≡ 0)) (first_log t) (λ s. absurd (true≢false (sym s)));
  };
}
