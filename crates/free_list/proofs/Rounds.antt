-- Rounds at the free list: loads, and a lock that is let go of as it was.
use Rattle.std.proofs.Common.{◌≡◌, ◌≢◌, inl, inr, ℕ, suc, ◌+◌, ◌%◌, ◌<◌, Bool, false, true≢false, not, List, [], ◌∷◌, ◌++◌, length, map, Option, Some, None, Result, Ok, Err, IfSome, IsSome, IsSomeAnd, is_some, cond, if◌then◌else◌, sym, refl, ap, ◌∙◌, subst, arith, append-nil, append_assoc, add_assoc, add-zero, eq-eqb, ne_eqb, Contains}
use Rattle.std.proofs.lemmas.Option.{none-some}
use native.Mathlib.Decide.{ℕ_discrete}
use Rattle.std.specs.List.{AllByRecursion}
use Rattle.tree_shape.specs.NodeData.{NodeData, Link}
use Rattle.word_rule.specs.CallerData.{CallerData}
use Rattle.word_rule.specs.Held.{held_of, without_lock}
use Rattle.word_rule.specs.Logs.{after_load, load_of}
use Rattle.word_rule.specs.NodeTells.{HeldTells, IsTakenNode}
use Rattle.word_rule.specs.Places.{HEAD, node_place}
use Rattle.word_rule.specs.Sights.{after_node_load, with_word}
use Rattle.word_rule.specs.Spelling.{node_word, spelled}
use Rattle.word_rule.specs.Steps.{MayPop, after_head_load, after_node_lock, after_node_release_same, after_pop, mark_at_lock}
use Rattle.word_rule.specs.declared.log.Holding.{Holding}
use Rattle.word_rule.specs.declared.log.LoadEvent.{LoadEvent}
use Rattle.word_rule.specs.declared.log.LockId.TheVariants as lock
use Rattle.word_rule.specs.declared.log.Log.{Log}
use Rattle.word_rule.proofs.Spells.{spells_free}
use Rattle.version_locks.specs.declared.locking.Busy.{Busy}
use Rattle.version_locks.specs.declared.locking.Busy.TheVariants as busy
use Rattle.free_list.specs.Free.{EndsRound, IsFreeTaken, IsOfCount, LeavesLocked, LosesRounds, PopsLocked, headed}
use Rattle.version_locks.specs.Locking.{FoundBusy, ShowsBusy, tried}
use Rattle.version_locks.specs.Locking.{loaded}

-- no other word of a node is a count, nor is the head
pub no_count : (at n : ℕ) → at < 36 → at ≢ 5 → (m : ℕ) → node_place n + at ≢ node_place m + 5
no_count at n small far m e = far (omega (arith, small, e))

not_count : (at n : ℕ) (l : LoadEvent) → at < 36 → at ≢ 5 → l.word ≡ node_place n + at → IsOfCount l → ⊥
not_count at n l small far is (m, e) = no_count at n small far m (sym is ∙ e)

head_no_count : (l : LoadEvent) → l.word ≡ HEAD → IsOfCount l → ⊥
head_no_count l is (m, e) = let both : 1 ≡ node_place m + 5 = sym is ∙ e in omega (arith, both)

none_append : (xs ys : List LoadEvent) → AllByRecursion (λ l. ¬ IsOfCount l) xs → AllByRecursion (λ l. ¬ IsOfCount l) ys → AllByRecursion (λ l. ¬ IsOfCount l) (xs ++ ys)
none_append [] ys none more = more
none_append (x ∷ xs) ys none more = (none.0, none_append xs ys none.1 more)

-- a log with these loads, and so many writes
abbrev traced : List LoadEvent → ℕ → Log → Log
traced loads writes v = record v { trace = record v.trace { loads = loads; writes = writes } }

pub loses_none : (k : CallerData) → LosesRounds k k
loses_none k = ([], 0, (tt, (λ i. record k { log = traced (sym (append-nil k.log.trace.loads) i) (sym (add-zero k.log.trace.writes) i) k.log })))

pub loses_table : (k k' : CallerData) → LosesRounds k k' → k'.table ≡ k.table
loses_table k k' (more, marks, (none, is)) = ap (λ (z : CallerData). z.table) is

pub loses_room : (k k' : CallerData) → LosesRounds k k' → length k.log.holdings.out < 4 → length k'.log.holdings.out < 4
loses_room k k' (more, marks, (none, is)) room = subst (λ (z : CallerData). length z.log.holdings.out < 4) (sym is) room

pub loses_both : (a b c : CallerData) → LosesRounds a b → LosesRounds b c → LosesRounds a c
loses_both a b c (xs, m, (none, e)) (ys, n, (more, d)) = (
  xs ++ ys,
  m + n,
  (
    none_append xs ys none more,
    d
        ∙ (ap (λ (z : CallerData). record z { log = tried ys n z.log }) e
        ∙ (λ i. record a { log = traced (append_assoc a.log.trace.loads xs ys i) (add_assoc a.log.trace.writes m n i) a.log })),
  ),
)

pub loses_load : (word found : ℕ) (a b : CallerData) → ((n : ℕ) → word ≢ node_place n + 5) → b ≡ record a { log = after_load word found a.log } → LosesRounds a b
loses_load word found a b far e = (
  load_of a.log word found ∷ [],
  0,
  (((λ c. far c.0 c.1), tt), e ∙ (λ i. record a { log = traced (a.log.trace.loads ++ load_of a.log word found ∷ []) (sym (add-zero a.log.trace.writes) i) a.log })),
)

-- a cause after other steps, and before more
pub contains_more : (more xs : List LoadEvent) (x : LoadEvent) → Contains xs x → Contains (more ++ xs) x
contains_more [] xs x there = there
contains_more (y ∷ more) xs x there = let r = contains_more more xs x there in (suc r.0, (let l = r.1 in omega (arith, l)), r.2)

shows_more : (why : Busy) (more before : List LoadEvent) (l : LoadEvent) → ShowsBusy why before l → ShowsBusy why (more ++ before) l
shows_more (busy.Taken id) more before l shows = shows
shows_more busy.Raced more before l (head, (there, is, moved)) = (head, (contains_more more before head there, is, moved))
shows_more busy.Lost more before l (head, (there, is, moved)) = (head, (contains_more more before head there, is, moved))

pub found_later : (why : Busy) (k l m : CallerData) (more : List LoadEvent) → l.log.trace.loads ≡ k.log.trace.loads ++ more → FoundBusy why l m → FoundBusy why k m
found_later why k l m more e f = record {
  before = more ++ f.before;
  load = f.load;
  behind = f.behind;
  loads = f.loads ∙ (ap (λ xs. xs ++ (f.before ++ f.load ∷ f.behind)) e ∙ (append_assoc k.log.trace.loads more (f.before ++ f.load ∷ f.behind) ∙ ap (λ xs. k.log.trace.loads ++ xs) (sym (append_assoc more f.before (f.load ∷ f.behind)))));
  shows = shows_more why more f.before f.load f.shows;
}

-- rounds that were lost before one
pub round_later : (k l m : CallerData) (r : Result (Option ℕ) Busy) → LosesRounds k l → EndsRound l m r → EndsRound k m r
round_later k l m (Ok None) before (lost, (more, is)) = (lost, (loses_both k l lost before more, is))
round_later k l m (Ok (Some n)) (xs, a, (none, e)) (other, (ys, b, version, settled, words, (taken, kind, is))) =
    let held : l.log.holdings.held ≡ k.log.holdings.held = ap (λ (z : CallerData). z.log.holdings.held) e in
    let terms : l.log.terms ≡ k.log.terms = ap (λ (z : CallerData). z.log.terms) e in (
      other,
      (
        xs ++ ys,
        a + b,
        version,
        settled,
        words,
        (
          subst (λ (z : CallerData). IsTakenNode n z.log words settled → IsTakenNode n k.log words settled) (sym e) (λ t. record { within = t.within; new = t.new; wide = t.wide; spells = t.spells; live = t.live }) taken,
          kind,
          is
              ∙ (ap (λ (z : CallerData). record z { log = after_pop n (after_node_lock n version settled words (tried ys b z.log)) }) e
              ∙ (λ i. record k { log = after_pop n (after_node_lock n version settled words (traced (append_assoc k.log.trace.loads xs ys i) (add_assoc k.log.trace.writes a b i) k.log)) })),
        ),
      ),
    )
round_later k l m (Err why) before (more, found) = (loses_both k l m before more, found_later why k l m before.0 (ap (λ (z : CallerData). z.log.trace.loads) before.2.1) found)

pub free_taken : (gives_up : Bool) (k k' : CallerData) (found : Option ℕ) → EndsRound k k' (Ok found) → IsFreeTaken gives_up k k' (Ok found)
free_taken gives_up k k' found ends = ends

without_none : (n : ℕ) (held : List Holding) → held_of n held ≡ None → without_lock n held ≡ held
without_none n [] e = refl
without_none n (h ∷ held) e = go (ℕ_discrete h.node n) (without_none n held)
  where
    go : Dec (h.node ≡ n) → (held_of n held ≡ None → without_lock n held ≡ held) → without_lock n (h ∷ held) ≡ h ∷ held
    go (yes same) rest = absurd (none-some h (sym e ∙ ap (λ b. cond b (Some h) (held_of n held)) (eq-eqb h.node n same)))
    go (no ne) rest =
        let gone = rest (sym (ap (λ b. cond b (Some h) (held_of n held)) (ne_eqb h.node n ne)) ∙ e) in
        ap (λ b. cond (not b) (h ∷ without_lock n held) (without_lock n held)) (ne_eqb h.node n ne) ∙ ap (λ hs. h ∷ hs) gone

-- The first node was found, and its lock tried.
module _ (n : ℕ) (k k1 k2 : CallerData) (head : k1 ≡ headed n k) where
  pub lost_taken : (found : ℕ) → found % 2 ≡ 1 → k2 ≡ record k1 { log = after_load (node_place n) found k1.log } → EndsRound k k2 (Err (busy.Taken (lock.Node n)))
  lost_taken found odd is = (
    loses_both k k1 k2 (loses_load HEAD n k k1 (λ m e. omega (arith, e)) head) (loses_load (node_place n) found k1 k2 (λ m e. no_count 0 n (omega arith) (λ z. omega (arith, z)) m (omega (arith, e))) is),
    found_later (busy.Taken (lock.Node n)) k k1 k2 (load_of k.log HEAD n ∷ []) (ap (λ (z : CallerData). z.log.trace.loads) head)
        (record { before = []; load = load_of k1.log (node_place n) found; behind = []; loads = ap (λ (z : CallerData). z.log.trace.loads) is; shows = (refl, odd) }),
  )

  module _ (version : ℕ) (settled : NodeData) (words : List ℕ) (taken : IsTakenNode n k1.log words settled) (is : k2 ≡ record k1 { log = after_node_lock n version settled words k1.log }) where
    abbrev locking : CallerData
    locking = record k { log = after_node_lock n version settled words (after_head_load n k.log) }

    locked_is : k2 ≡ record k { log = after_node_lock n version settled words (after_head_load n k.log) }
    locked_is = is ∙ ap (λ (z : CallerData). record z { log = after_node_lock n version settled words z.log }) head

    taken_before : IsTakenNode n k.log words settled
    taken_before = subst (λ (z : CallerData). IsTakenNode n z.log words settled → IsTakenNode n k.log words settled) (sym head) (λ t. record { within = t.within; new = t.new; wide = t.wide; spells = t.spells; live = t.live }) taken

    abbrev new : Holding
    new = record { node = n; version = version; settled = settled; words = words; stored = false; mark = mark_at_lock n settled k.log.holdings.held }

    here : held_of n k2.log.holdings.held ≡ Some new
    here = ap (λ (z : CallerData). held_of n z.log.holdings.held) locked_is ∙ ap (λ b. cond b (Some new) (held_of n k.log.holdings.held)) (eq-eqb n n refl)

    pub may_try : IsSomeAnd (held_of n k2.log.holdings.held) (λ h. IsSome (spelled h.words))
    may_try = subst (λ o. IsSomeAnd o (λ h. IsSome (spelled h.words))) (sym here) (subst IsSome (sym taken.spells) refl)

    pub round_taken : (k3 : CallerData) → n ≢ 0 → PopsLocked n k2 k3 → EndsRound k k3 (Ok (Some n))
    round_taken k3 other (kind, (more, popped)) = (
      other,
      (
        load_of k.log HEAD n ∷ more,
        0,
        version,
        settled,
        words,
        (
          taken_before,
          subst (λ o. IsSomeAnd o (λ h. node_word h.words 1 ≡ 2)) here kind,
          popped
              ∙ (ap (λ (z : CallerData). record z { log = after_pop n (loaded more z.log) }) locked_is
              ∙ (λ i. record k { log = after_pop n (after_node_lock n version settled words (traced (append_assoc k.log.trace.loads (load_of k.log HEAD n ∷ []) more i) (sym (add-zero k.log.trace.writes) i) k.log)) })),
        ),
      ),
    )

    pub clean_still : (k3 : CallerData) → LeavesLocked n k2 k3 → IsSomeAnd (held_of n k3.log.holdings.held) (λ h. h.stored ≡ false)
    clean_still k3 (more, last, (none, shows, left)) =
        subst (λ o. IsSomeAnd o (λ h. h.stored ≡ false)) (sym (ap (λ (z : CallerData). held_of n z.log.holdings.held) left ∙ here)) refl

    pub round_lost : (k3 k4 : CallerData) → LeavesLocked n k2 k3 → k4 ≡ record k3 { log = after_node_release_same n k3.log } → EndsRound k k4 (Err busy.Raced)
    round_lost k3 k4 (more, last, (none, shows, left)) gone = (
      (load_of k.log HEAD n ∷ (more ++ last ∷ []), 2, ((head_no_count (load_of k.log HEAD n) refl, none), whole)),
      record {
        before = load_of k.log HEAD n ∷ more;
        load = last;
        behind = [];
        loads = ap (λ (z : CallerData). z.log.trace.loads) whole;
        shows = (load_of k.log HEAD n, ((0, omega arith, refl), refl, shows));
      },
    )
      where
        held : without_lock n (new ∷ k.log.holdings.held) ≡ k.log.holdings.held
        held = ap (λ b. cond (not b) (new ∷ without_lock n k.log.holdings.held) (without_lock n k.log.holdings.held)) (eq-eqb n n refl) ∙ without_none n k.log.holdings.held taken_before.new

        whole : k4 ≡ record k { log = tried (load_of k.log HEAD n ∷ (more ++ last ∷ [])) 2 k.log }
        whole =
            gone
            ∙ (ap (λ (z : CallerData). record z { log = after_node_release_same n z.log }) left
            ∙ (ap (λ (z : CallerData). record z { log = after_node_release_same n (loaded (more ++ last ∷ []) z.log) }) locked_is
            ∙ (λ i. record k { log = record (traced (append_assoc k.log.trace.loads (load_of k.log HEAD n ∷ []) (more ++ last ∷ []) i) (add_assoc k.log.trace.writes 1 1 i) k.log) { holdings = record k.log.holdings { held = held i } } })))

-- a load of a held node touches no sight
held_load : (n at found : ℕ) (v : Log) (h : Holding) → held_of n v.holdings.held ≡ Some h → after_node_load n at found v ≡ loaded (load_of v (node_place n + at) found ∷ []) v
held_load n at found v h here = ap (λ o. record (after_load (node_place n + at) found v) { sights = if is_some o then v.sights else record v.sights { nodes = map (with_word n at found) v.sights.nodes } }) here

-- A locked node: its kind was loaded.
module _ (n : ℕ) (k k1 : CallerData) (kind : ℕ) (held : IsSomeAnd (held_of n k.log.holdings.held) (λ h. IsSome (spelled h.words))) (load : k1 ≡ record k { log = after_node_load n 1 kind k.log }) (tells : HeldTells n 1 kind k.log) where
  lock_here : (h : Holding) × ((held_of n k.log.holdings.held ≡ Some h) × IsSome (spelled h.words))
  lock_here = go (held_of n k.log.holdings.held) refl held
    where
      go : (o : Option Holding) → held_of n k.log.holdings.held ≡ o → IsSomeAnd o (λ h. IsSome (spelled h.words)) → (h : Holding) × ((held_of n k.log.holdings.held ≡ Some h) × IsSome (spelled h.words))
      go None e is = absurd is
      go (Some h) e is = (h, (e, is))

  kind_is : node_word lock_here.0.words 1 ≡ kind
  kind_is = subst (λ o. IfSome o (λ h. node_word h.words 1 ≡ kind)) lock_here.1.0 tells

  kind_load : LoadEvent
  kind_load = load_of k.log (node_place n + 1) kind

  kind_loaded : k1 ≡ record k { log = loaded (load_of k.log (node_place n + 1) kind ∷ []) k.log }
  kind_loaded = load ∙ ap (λ v. record k { log = v }) (held_load n 1 kind k.log lock_here.0 lock_here.1.0)

  pub left_other : kind ≢ 2 → LeavesLocked n k k1
  left_other other = ([], load_of k.log (node_place n + 1) kind, ((not_count 1 n (load_of k.log (node_place n + 1) kind) (omega arith) (λ e. omega (arith, e)) refl, tt), inr (refl, other), kind_loaded))

  -- and then its link
  module _ (k2 : CallerData) (next : ℕ) (link : k2 ≡ record k1 { log = after_node_load n 6 next k1.log }) (links : HeldTells n 6 next k1.log) where
    same : k2.log.holdings ≡ k.log.holdings
    same = ap (λ (z : CallerData). z.log.holdings) link ∙ ap (λ (z : CallerData). z.log.holdings) load

    link_is : node_word lock_here.0.words 6 ≡ next
    link_is = subst (λ o. IfSome o (λ h. node_word h.words 6 ≡ next)) (ap (λ (z : CallerData). held_of n z.log.holdings.held) load ∙ lock_here.1.0) links

    pub may_pop : n ≢ 0 → kind ≡ 2 → length k.log.holdings.out < 4 → MayPop n next k2.log
    may_pop other free room = subst (λ hs. (n ≢ 0) × IsSomeAnd (held_of n hs.held) (λ h. IsSomeAnd (spelled h.words) (λ s. s.body ≡ Link next)) × (length hs.out < 4)) (sym same) (other, is_free, room)
      where
        spells : (s : NodeData) → spelled lock_here.0.words ≡ Some s → s.body ≡ Link next
        spells s e = spells_free lock_here.0.words s e (kind_is ∙ free) ∙ ap Link link_is

        go : (o : Option NodeData) → spelled lock_here.0.words ≡ o → IsSome o → IsSomeAnd o (λ s. s.body ≡ Link next)
        go None e is = absurd (true≢false (sym is))
        go (Some s) e is = spells s e

        is_free : IsSomeAnd (held_of n k.log.holdings.held) (λ h. IsSomeAnd (spelled h.words) (λ s. s.body ≡ Link next))
        is_free = subst (λ o. IsSomeAnd o (λ h. IsSomeAnd (spelled h.words) (λ s. s.body ≡ Link next))) (sym lock_here.1.0) (go (spelled lock_here.0.words) refl lock_here.1.1)

    both_loaded : k2 ≡ record k { log = loaded (load_of k.log (node_place n + 1) kind ∷ load_of k.log (node_place n + 6) next ∷ []) k.log }
    both_loaded =
        link
        ∙ (ap (λ (z : CallerData). record z { log = after_node_load n 6 next z.log }) kind_loaded
        ∙ (ap (λ v. record k { log = v }) (held_load n 6 next (loaded (load_of k.log (node_place n + 1) kind ∷ []) k.log) lock_here.0 lock_here.1.0)
        ∙ (λ i. record k { log = record k.log { trace = record k.log.trace { loads = append_assoc k.log.trace.loads (load_of k.log (node_place n + 1) kind ∷ []) (load_of k.log (node_place n + 6) next ∷ []) i } } })))

    pub pops_locked : (k3 : CallerData) → kind ≡ 2 → k3 ≡ record k2 { log = after_pop n k2.log } → PopsLocked n k k3
    pops_locked k3 free is = (
      subst (λ o. IsSomeAnd o (λ h. node_word h.words 1 ≡ 2)) (sym lock_here.1.0) (kind_is ∙ free),
      (load_of k.log (node_place n + 1) kind ∷ load_of k.log (node_place n + 6) next ∷ [], is ∙ ap (λ (z : CallerData). record z { log = after_pop n z.log }) both_loaded),
    )

    pub left_moved : (k3 : CallerData) (found : ℕ) → found ≢ n → k3 ≡ record k2 { log = after_head_load found k2.log } → LeavesLocked n k k3
    left_moved k3 found other is = (
      load_of k.log (node_place n + 1) kind ∷ load_of k.log (node_place n + 6) next ∷ [],
      load_of k.log HEAD found,
      (
        (not_count 1 n (load_of k.log (node_place n + 1) kind) (omega arith) (λ e. omega (arith, e)) refl, (not_count 6 n (load_of k.log (node_place n + 6) next) (omega arith) (λ e. omega (arith, e)) refl, (head_no_count (load_of k.log HEAD found) refl, tt))),
        inl (refl, other),
        is
            ∙ (ap (λ (z : CallerData). record z { log = after_head_load found z.log }) both_loaded
            ∙ (λ i. record k { log = record k.log { trace = record k.log.trace { loads = append_assoc k.log.trace.loads (load_of k.log (node_place n + 1) kind ∷ load_of k.log (node_place n + 6) next ∷ []) (load_of k.log HEAD found ∷ []) i } } })),
      ),
    )
