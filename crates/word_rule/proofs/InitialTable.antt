-- The whole invariant holds of the opening words.
use Rattle.std.proofs.Common.{◌≡◌, ℕ, zero, suc, ◌+◌, ◌-◌, ◌*◌, ◌%◌, ◌<◌, ◌≤◌, ◌⊎◌, ◌↔◌, ◌||◌, ◌==◌, nat_lt, List, [], ◌∷◌, ◌++◌, length, get_or, set, take, drop, replicate, sym, refl, ap, ◌∙◌, subst, inl, inr, arith, Some, None, IsTrue, false, true, true≢false, Bool, Contains, append_assoc, get_or-append-add, eq-or-lt_of_le, eq-eqb, ne_eqb, lt_of_not-le, if◌then◌else◌}
use Rattle.std.specs.List.{AllByRecursion}
use native.Mathlib.Decide.{ℕ_discrete, dec_le}
use borrow.Author.Tests.{lt-ltb, le-ltb}
use lib.ListN.{get_or-append}
use lib.Seq.{drop-append_seam, drop-append-add, take-append_seam}
use Rattle.reg_model.specs.declared.span.Member.{Member}
use Rattle.tree_shape.specs.NodeData.{NodeData, Body, Link, Entries, entries_of}
use Rattle.tree_laws.specs.Trees.{HasEntry, branches}
use Rattle.tree_laws.specs.Numbers.{times, once}
use Rattle.tree_laws.specs.Lawful.{IsLawfulTree, IsOrdered, IsFilled, FitsParent}
use Rattle.word_rule.specs.declared.log.Terms.{Terms}
use Rattle.word_rule.specs.Places.{copy_words, copy_place, initial_kind, initial_link, initial_node, initial_nodes, initial_words}
use Rattle.word_rule.specs.SharedWords.{memory_of, part, copy_of}
use Rattle.word_rule.specs.Spelling.{node_word, spelled}
use Rattle.word_rule.specs.Logs.{first_log}
use Rattle.word_rule.specs.Callers.{AreTerms, start}
use Rattle.word_rule.specs.Callers.{IsAlone}
use Rattle.word_rule.specs.Nodes.{Shadow, HoldingsHold, IsChain}
use Rattle.word_rule.specs.Observations.{ObservationsHold}
use Rattle.word_rule.specs.TableInvariant.{TableInvariant, IsStill}
use Rattle.word_rule.proofs.Memories.{load_version_at}
use Rattle.word_rule.proofs.SeatNodes.{holds_nothing}
use Rattle.word_rule.proofs.InitialCallers.{callers_begin, initial_length, initial_nodes_length, initial_version, only}
use Rattle.word_rule.specs.Copies.{ListsMembers}
use Rattle.std.proofs.lemmas.List.{drop-replicate}
use Rattle.std.proofs.Math.Seq.{drop-append-add}

-- what the opening words spell: the root an empty leaf, all others free
abbrev initial_body : ℕ → ℕ → Body
initial_body nodes n = if n == 0 then Entries [] else Link (initial_link nodes n)

abbrev initial_shape : ℕ → ℕ → NodeData
initial_shape nodes n = record { level = 0; low = 0; high = 18446744073709551615; body = initial_body nodes n }

abbrev is_root : ℕ → Bool
is_root n = n == 0

root_only : (n : ℕ) → IsTrue (is_root n) → n ≡ 0
root_only n h = go (ℕ_discrete n 0)
  where
    go : Dec (n ≡ 0) → n ≡ 0
    go (yes e) = e
    go (no ne) = absurd (true≢false (sym h ∙ ne_eqb n 0 ne))

not_root : (n : ℕ) → is_root (suc n) ≡ false
not_root n = ne_eqb (suc n) 0 (λ e. omega (arith, e))

-- a link is a node's number, or 0
link_small : (nodes n : ℕ) → n < nodes → initial_link nodes n ≤ n + 1
link_small nodes n h = go ((n == 0) || (n + 1 == nodes))
  where
    go : (b : Bool) → (if b then 0 else (n + 1)) ≤ n + 1
    go true = omega arith
    go false = omega arith

free_spells : (link : ℕ) → link < 4294967296 → spelled (drop 1 (set (set (set (replicate 36 0) 1 2) 4 18446744073709551615) 6 link)) ≡ Some record { level = 0; low = 0; high = 18446744073709551615; body = Link link }
free_spells link h = rw (lt-ltb link 4294967296 h) refl

initial_spells : (nodes n : ℕ) → n < nodes → nodes ≤ 16384 → spelled (drop 1 (initial_node nodes n)) ≡ Some (initial_shape nodes n)
initial_spells nodes zero h small = refl
initial_spells nodes (suc n) h small =
    let l = link_small nodes (suc n) h in let other = not_root n in
    let kind : initial_kind (suc n) ≡ 2 = rw other refl in
    let body : initial_body nodes (suc n) ≡ Link (initial_link nodes (suc n)) = rw other refl in
    let link_short : initial_link nodes (suc n) < 4294967296 = omega (arith, l, h, small) in
    ap (λ k. spelled (drop 1 (set (set (set (replicate 36 0) 1 k) 4 18446744073709551615) 6 (initial_link nodes (suc n))))) kind
    ∙ (free_spells (initial_link nodes (suc n)) link_short ∙ ap (λ b. Some record { level = 0; low = 0; high = 18446744073709551615; body = b }) (sym body))

sum_zero : (n : ℕ) → once (n == 0) + 0 ≡ once (is_root n)
sum_zero n = omega arith

initial_lawful : (nodes : ℕ) → IsLawfulTree (initial_shape nodes) is_root
initial_lawful nodes = record {
  tree = record {
    root_low = refl;
    root_high = refl;
    height = omega arith;
    reached = λ n. sum_zero n;
    ordered = λ n h. subst (λ k. IsOrdered (initial_shape nodes k)) (sym (root_only n h)) (refl, (tt, tt));
    fitting = λ n h. subst (λ k. AllByRecursion (FitsParent (initial_shape nodes)) (branches ((initial_shape nodes k).level - 1) (initial_shape nodes k))) (sym (root_only n h)) tt;
  };
  filled = λ n h. subst (λ k. IsFilled k (initial_shape nodes k)) (sym (root_only n h)) (omega arith, omega arith);
}

-- the words of a node, among all opening words
nodes_at : (nodes m n : ℕ) → n < m → (rest : List ℕ) → take 36 (drop (36 * n) (initial_nodes nodes m ++ rest)) ≡ initial_node nodes n
nodes_at nodes zero n h rest = absurd (omega (arith, h))
nodes_at nodes (suc m) n h rest = go (eq-or-lt_of_le h) (nodes_at nodes m n)
  where
    len : length (initial_nodes nodes m) ≡ 36 * m
    len = initial_nodes_length nodes m

    go : (suc n ≡ suc m) ⊎ (suc n < suc m) → (n < m → (rest : List ℕ) → take 36 (drop (36 * n) (initial_nodes nodes m ++ rest)) ≡ initial_node nodes n)
        → take 36 (drop (36 * n) ((initial_nodes nodes m ++ initial_node nodes m) ++ rest)) ≡ initial_node nodes n
    go (inl e) before =
        let l = len in let at : 36 * n ≡ length (initial_nodes nodes m) = omega (arith, e, l) in let same : n ≡ m = omega (arith, e) in
        ap (λ z. take 36 (drop (36 * n) z)) (append_assoc (initial_nodes nodes m) (initial_node nodes m) rest)
        ∙ (ap (λ k. take 36 (drop k (initial_nodes nodes m ++ (initial_node nodes m ++ rest)))) at
        ∙ (ap (take 36) (drop-append_seam (initial_nodes nodes m) (initial_node nodes m ++ rest)) ∙ (take-append_seam (initial_node nodes m) rest ∙ ap (initial_node nodes) (sym same))))
    go (inr less) before = ap (λ z. take 36 (drop (36 * n) z)) (append_assoc (initial_nodes nodes m) (initial_node nodes m) rest) ∙ before (omega (arith, less)) (initial_node nodes m ++ rest)

tail_part : (words : List ℕ) (k : ℕ) → part 35 (suc k) words ≡ drop 1 (part 36 k words)
tail_part [] zero = refl
tail_part [] (suc k) = refl
tail_part (y ∷ words) zero = refl
tail_part (y ∷ words) (suc k) = tail_part words k

node_at : (t : Terms) (n : ℕ) → n < t.nodes → (memory_of t (initial_words t)).nodes.contents n ≡ drop 1 (initial_node t.nodes n)
node_at t n h =
    let e : 4 + 36 * n + 1 ≡ suc (4 + 36 * n) = omega arith in
    let all : take 36 (drop (4 + 36 * n) (initial_words t)) ≡ initial_node t.nodes n = ap (take 36) (drop-append-add (0 ∷ 1 ∷ 0 ∷ 0 ∷ []) (initial_nodes t.nodes t.nodes ++ replicate (2 * copy_words t) 0) (36 * n)) ∙ nodes_at t.nodes t.nodes n h (replicate (2 * copy_words t) 0) in
    rw (lt-ltb n t.nodes h) (ap (λ k. part 35 k (initial_words t)) e ∙ (tail_part (initial_words t) (4 + 36 * n) ∙ ap (drop 1) all))

version_at : (t : Terms) (n : ℕ) → n < t.nodes → (memory_of t (initial_words t)).nodes.versions n ≡ 0
version_at t n h =
    let len = initial_nodes_length t.nodes t.nodes in
    let room : 36 * n < length (initial_nodes t.nodes t.nodes) = omega (arith, len, h) in
    load_version_at t (initial_words t) n h
    ∙ (get_or-append-add (0 ∷ 1 ∷ 0 ∷ 0 ∷ []) (initial_nodes t.nodes t.nodes ++ replicate (2 * copy_words t) 0) (36 * n) 0 ∙ (get_or-append (initial_nodes t.nodes t.nodes) (replicate (2 * copy_words t) 0) 0 (36 * n) room ∙ initial_version t.nodes t.nodes n h))

-- the free nodes from n on, so many
abbrev free_from : ℕ → ℕ → List ℕ
free_from n zero = []
free_from n (suc more) = n ∷ free_from (suc n) more

link_is : (nodes n more : ℕ) → 0 < n → n + suc more ≡ nodes → initial_link nodes n ≡ (if more == 0 then 0 else (n + 1))
link_is nodes n zero some_n all = rw (ne_eqb n 0 (λ e. omega (arith, e, some_n)), eq-eqb (n + 1) nodes (omega (arith, all))) refl
link_is nodes n (suc more) some_n all = rw (ne_eqb n 0 (λ e. omega (arith, e, some_n)), ne_eqb (n + 1) nodes (λ e. omega (arith, e, all)), ne_eqb (suc more) 0 (λ e. omega (arith, e))) refl

-- they are linked one to the next, the last one to 0
chained : (nodes : ℕ) (contents : ℕ → List ℕ) → ((n : ℕ) → n < nodes → contents n ≡ drop 1 (initial_node nodes n)) → (n more : ℕ) → 0 < n → n + more ≡ nodes → IsChain contents (if more == 0 then 0 else n) (free_from n more)
chained nodes contents known n zero some_n all = refl
chained nodes contents known n (suc more) some_n all =
    let words : contents n ≡ drop 1 (initial_node nodes n) = known n (omega (arith, all)) in
    let kind : node_word (contents n) 1 ≡ 2 = ap (λ ws. node_word ws 1) words ∙ rw (ne_eqb n 0 (λ e. omega (arith, e, some_n))) refl in
    let link : node_word (contents n) 6 ≡ (if more == 0 then 0 else (n + 1)) = ap (λ ws. node_word ws 6) words ∙ link_is nodes n more some_n all in
    let rest : IsChain contents (if more == 0 then 0 else suc n) (free_from (suc n) more) = chained nodes contents known (suc n) more (omega arith) (omega (arith, all)) in
    let next : (if more == 0 then 0 else suc n) ≡ (if more == 0 then 0 else (n + 1)) = (let e : suc n ≡ n + 1 = omega arith in ap (λ k. if more == 0 then 0 else k) e) in
    rw (ne_eqb (suc more) 0 (λ e. omega (arith, e))) (refl, (λ e. omega (arith, e, some_n)), kind, subst (λ k. IsChain contents k (free_from (suc n) more)) (next ∙ sym link) rest)

-- each of them is there once, and no other number
free_below : (k n more : ℕ) → k < n → times k (free_from n more) ≡ 0
free_below k n zero less = refl
free_below k n (suc more) less = let r = free_below k (suc n) more (omega (arith, less)) in rw (ne_eqb k n (λ e. omega (arith, e, less))) (omega (arith, r))

free_above : (k n more : ℕ) → n + more ≤ k → times k (free_from n more) ≡ 0
free_above k n zero above = refl
free_above k n (suc more) above = let r = free_above k (suc n) more (omega (arith, above)) in rw (ne_eqb k n (λ e. omega (arith, e, above))) (omega (arith, r))

free_once : (k n more : ℕ) → n ≤ k → k < n + more → times k (free_from n more) ≡ 1
free_once k n zero from below = absurd (omega (arith, from, below))
free_once k n (suc more) from below = go (ℕ_discrete k n) (free_once k (suc n) more)
  where
    go : Dec (k ≡ n) → (suc n ≤ k → k < suc n + more → times k (free_from (suc n) more) ≡ 1) → once (k == n) + times k (free_from (suc n) more) ≡ 1
    go (yes e) later = let r = free_below k (suc n) more (omega (arith, e)) in rw (eq-eqb k n e) (omega (arith, r))
    go (no ne) later = let r = later (omega (arith, from, ne)) (omega (arith, below)) in rw (ne_eqb k n ne) (omega (arith, r))

abbrev initial_shadow : Terms → Shadow
initial_shadow t = record { settled = initial_shape t.nodes; holder = λ n. None; stored = λ n. false; live = is_root; free = free_from 1 (t.nodes - 1) }

initial_each : (nodes n : ℕ) → 4 ≤ nodes → once (is_root n) + times n (free_from 1 (nodes - 1)) + 0 ≡ once (nat_lt n nodes)
initial_each nodes zero some_nodes = let r = free_below 0 1 (nodes - 1) (omega arith) in rw (lt-ltb 0 nodes (omega (arith, some_nodes))) (omega (arith, r))
initial_each nodes (suc n) some_nodes = go (dec_le nodes (suc n))
  where
    go : Dec (nodes ≤ suc n) → once (is_root (suc n)) + times (suc n) (free_from 1 (nodes - 1)) + 0 ≡ once (nat_lt (suc n) nodes)
    go (yes h) = let r = free_above (suc n) 1 (nodes - 1) (omega (arith, h, some_nodes)) in let z = not_root n in rw (z, le-ltb (suc n) nodes h) (omega (arith, r))
    go (no h) = let less : suc n < nodes = lt_of_not-le h in let r = free_once (suc n) 1 (nodes - 1) (omega arith) (omega (arith, less)) in let z = not_root n in rw (z, lt-ltb (suc n) nodes less) (omega (arith, r))

-- the root has no entries
initial_entries : (t : Terms) (m : Member) → HasEntry (initial_shape t.nodes) is_root m ↔ Contains (start t).registered m
initial_entries t m =
    ((λ h. absurd (none h.0 h.1.1.0 (root_only h.0 h.1.0) h.1.1.1)), (λ h. absurd (omega (arith, h.1))))
  where
    none : (n k : ℕ) → n ≡ 0 → k < length (entries_of (initial_shape t.nodes n)) → ⊥
    none n k e h = let z : k < 0 = subst (λ j. k < length (entries_of (initial_shape t.nodes j))) e h in omega (arith, z)

zeros : (k n i : ℕ) → ◌≡◌ {A = ℕ} (get_or (take k (replicate n 0)) i 0) 0
zeros zero n i = refl
zeros (suc k) zero i = refl
zeros (suc k) (suc n) zero = refl
zeros (suc k) (suc n) (suc i) = zeros k n i

initial_copy : (t : Terms) (c : ℕ) → c < 2 → (i : ℕ) → get_or (copy_of t (initial_words t) c) i 0 ≡ 0
initial_copy t c two i =
    let n = initial_nodes_length t.nodes t.nodes in
    let before : List ℕ = 0 ∷ 1 ∷ 0 ∷ 0 ∷ initial_nodes t.nodes t.nodes in
    let at : copy_place t c ≡ length before + c * copy_words t = omega (arith, n) in
    subst (λ b. get_or (if b then take (copy_words t) (drop (copy_place t c) (initial_words t)) else []) i 0 ≡ 0) (sym (lt-ltb c 2 two))
    (ap (λ k. get_or (take (copy_words t) (drop k (initial_words t))) i 0) at
    ∙ (ap (λ z. get_or (take (copy_words t) z) i 0) (drop-append-add before (replicate (2 * copy_words t) 0) (c * copy_words t) ∙ drop-replicate (c * copy_words t) (2 * copy_words t) 0)
    ∙ zeros (copy_words t) (2 * copy_words t - c * copy_words t) i))

-- each copy lists no members
lists_none : (t : Terms) (c : ℕ) → c < 2 → ListsMembers (copy_of t (initial_words t) c) []
lists_none t c two = record { head = initial_copy t c two 0; count = initial_copy t c two 1; previous = λ s less. absurd (omega (arith, less)); counts = λ s less. absurd (omega (arith, less)); ascending = tt; stand = tt }

initial_chain : (t : Terms) → 4 ≤ t.nodes → IsChain (memory_of t (initial_words t)).nodes.contents 1 (free_from 1 (t.nodes - 1))
initial_chain t some_nodes = subst (λ h. IsChain (memory_of t (initial_words t)).nodes.contents h (free_from 1 (t.nodes - 1))) (rw (ne_eqb (t.nodes - 1) 0 (λ e. omega (arith, e, some_nodes))) refl)
    (chained t.nodes (memory_of t (initial_words t)).nodes.contents (node_at t) 1 (t.nodes - 1) (omega arith) (omega (arith, some_nodes)))

pub table_begins : (t : Terms) → AreTerms t → TableInvariant t (initial_words t) (first_log t ∷ [])
table_begins t terms = record {
  wide = initial_length t;
  memory = record {
    history = [];
    callers = callers_begin t terms record { before = []; after = []; lists_before = lists_none t 1 (omega arith); lists_after = lists_none t 0 (omega arith); few = omega arith; change = inl (refl, refl) };
    shadow = initial_shadow t;
    nodes = record {
      lawful = initial_lawful t.nodes;
      entries = initial_entries t;
      unlocked = λ n h. (ap (λ k. k % 4) (version_at t n h), ap spelled (node_at t n h) ∙ initial_spells t.nodes n h terms.nodes.1);
      holdings = only (λ id v. HoldingsHold t (memory_of t (initial_words t)).nodes (initial_shadow t) id v.holdings) (first_log t) (holds_nothing t (memory_of t (initial_words t)).nodes (initial_shadow t) 0);
      holders = λ n. tt;
      each_once = λ n. initial_each t.nodes n terms.nodes.0;
      chain = initial_chain t terms.nodes.0;
    };
    active = record { members = []; lists = lists_none t 0 (omega arith); same = λ m. ((λ h. h), (λ h. h)) };
    observations = only (λ _ v. ObservationsHold t (memory_of t (initial_words t)) [] 1 (initial_shadow t) v) (first_log t) (record { sights = tt; copies = tt; full = tt; earlier = tt });
  };
  alone = only (λ _ v. IsAlone v.lineage → IsStill (initial_words t) v) (first_log t) (λ _. tt);
}
