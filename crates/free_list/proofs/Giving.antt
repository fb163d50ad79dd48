-- A node that is out is made free, put onto the free list, and let go.
use Rattle.std.proofs.Math.Bool.{and-false}
use Rattle.std.proofs.Common.{◌≡◌, ◌≢◌, ℕ, ◌+◌, ◌-◌, ◌*◌, ◌^◌, ◌<◌, ◌≤◌, ◌⊎◌, inl, inr, append-nil, append_assoc, Bool, true, false, cond, true≢false, ◌&&◌, ◌==◌, not, List, [], ◌∷◌, ◌++◌, length, map, Option, Some, None, IfSome, IsSome, IsSomeAnd, IsTrue, is_some, option_map, set, length-set, nat_eq, if◌then◌else◌, refl, ap, sym, ◌∙◌, subst, arith, ne_eqb, get_or-set_same, get_or-set_other, eq-eqb}
use native.Mathlib.Decide.{ℕ_discrete}
use Rattle.std.proofs.lemmas.Bool.{eqb-true, lt-ltb}
use Rattle.std.proofs.lemmas.Option.{none-some, cond_some}
use Rattle.std.specs.List.{AllByRecursion}
use Rattle.tree_laws.specs.Numbers.{is_among}
use Rattle.tree_shape.specs.NodeData.{NodeData, Link}
use Rattle.word_rule.specs.declared.log.Log.{Log}
use Rattle.word_rule.specs.declared.log.Holding.{Holding}
use Rattle.word_rule.specs.declared.log.Holdings.{Holdings}
use Rattle.word_rule.specs.declared.log.Budget.{Budget}
use Rattle.word_rule.specs.CallerData.{CallerData, surplus}
use Rattle.word_rule.specs.Exchange.{Differs, after_exchange, exchange, nothing_reached, group_of, is_lawful, settle, settle_free, top_of}
use Rattle.word_rule.specs.Held.{all_but, edited, held_of, is_marked, without_lock}
use Rattle.word_rule.specs.NodeTells.{HeldTells, HolderTells, IsHeldNode, OutTells}
use Rattle.word_rule.specs.Sights.{after_node_load}
use Rattle.word_rule.specs.Spelling.{body_of_kind, is_short, node_word, spelled, SpellsNode}
use Rattle.word_rule.specs.Steps.{MayPush, MayRelease, MayStore, after_head_load, after_node_release, after_node_store, after_push, frees, store_in, stored_log}
use Rattle.word_rule.specs.Logs.{load_of}
use Rattle.word_rule.specs.declared.log.LoadEvent.{LoadEvent}
use Rattle.version_locks.specs.Locking.{FoundBusy}
use Rattle.version_locks.specs.declared.locking.Busy.TheVariants as busy
use Rattle.free_list.proofs.Rounds.{contains_more}
use Rattle.free_list.specs.Free.{GivesFree, IsSettled, IsUnlinked, LeavesOthers, LosesNode, PushesNode, StaysOut, after_freeing, after_links, after_setting, held_word, word_of_lock}
use Rattle.free_list.proofs.LockWrites.{held_changed, held_edited, plain_store}
use Rattle.free_list.proofs.Settled.{ExchangeLaw, freed_settled, settles_free, without_settled}

-- A log has a node out that it holds, whose words are these.
pub record HasOut (n : ℕ) (words : List ℕ) (hs : Holdings) : Type 0 where
  pub holding : Holding
  pub is : held_of n hs.held ≡ Some holding
  pub words_are : holding.words ≡ words
  pub unmarked : holding.mark ≡ None
  pub out : IsTrue (is_among hs.out n)

-- one word was made this one
record Sets (at value : ℕ) (words words' : List ℕ) : Type 0 where
  pub wide : length words' ≡ 35
  pub here : node_word words' at ≡ value
  pub others : (k : ℕ) → 1 ≤ k → k ≢ at → node_word words' k ≡ node_word words k

never_frees : (n at value : ℕ) (words : List ℕ) (v : Log) → HasOut n words v.holdings → frees n at value v ≡ false
never_frees n at value words v h = ap (λ b. (at == 1) && (value == 2) && b) (ap is_marked h.is ∙ ap is_some h.unmarked) ∙ and-false ((at == 1) && (value == 2))

pub out_stored : (n at value : ℕ) (words : List ℕ) (v : Log) → HasOut n words v.holdings → HasOut n (set words (at - 1) value) (after_node_store n at value v).holdings
out_stored n at value words v h =
    let free = never_frees n at value words v h in
    let has : HasOut n (set words (at - 1) value) (stored_log n at value v).holdings = record {
      holding = store_in at value h.holding;
      is = held_edited n (store_in at value) (λ k. refl) v.holdings.held ∙ ap (option_map (store_in at value)) h.is;
      words_are = ap (λ ws. set ws (at - 1) value) h.words_are;
      unmarked = h.unmarked;
      out = h.out;
    } in
    subst (λ w. HasOut n (set words (at - 1) value) w.holdings) (sym (plain_store n at value v free)) has

set_sets : (at value : ℕ) (words : List ℕ) → 1 ≤ at → at ≤ 35 → length words ≡ 35 → Sets at value words (set words (at - 1) value)
set_sets at value words low high wide = record {
  wide = length-set words (at - 1) value ∙ wide;
  here = get_or-set_same words (at - 1) value 0 (omega (arith, low, high, wide));
  others = λ k least far. get_or-set_other words (at - 1) (k - 1) value 0 (λ e. far (omega (arith, e, low, least)));
}

setting : (n at value : ℕ) (words : List ℕ) (v : Log) → 1 ≤ at → at ≤ 35 → length words ≡ 35 → HasOut n words v.holdings → (words' : List ℕ) × (HasOut n words' (after_setting n at value v).holdings × Sets at value words words')
setting n at value words v low high wide h = go (nat_eq (held_word n at v) value) refl
  where
    found : held_word n at v ≡ node_word words at
    found = ap (word_of_lock at) h.is ∙ ap (λ ws. node_word ws at) h.words_are

    go : (b : Bool) → nat_eq (held_word n at v) value ≡ b
        → (words' : List ℕ) × (HasOut n words' (if b then after_node_load n at (held_word n at v) v else after_node_store n at value (after_node_load n at (held_word n at v) v)).holdings × Sets at value words words')
    go true e = (words, (h, record { wide = wide; here = sym found ∙ eqb-true (held_word n at v) value e; others = λ k least far. refl }))
    go false e = (set words (at - 1) value, (out_stored n at value words (after_node_load n at (held_word n at v) v) h, set_sets at value words low high wide))

-- no lock of the node is marked, and each other one that is spells what settled
abbrev pub Apart : ℕ → List Holding → Type 0
Apart n held = AllByRecursion (λ h. (IsSome h.mark → SpellsNode h.words h.settled) × (h.node ≡ n → h.mark ≡ None)) held

pub apart : (n : ℕ) (held : List Holding) → AllByRecursion (λ h. IsSome h.mark → SpellsNode h.words h.settled) held → AllByRecursion (λ h. h.node ≡ n → h.mark ≡ None) held → Apart n held
apart n [] settled unmarked = tt
apart n (h ∷ held) settled unmarked = ((settled.0, unmarked.0), apart n held settled.1 unmarked.1)

pub apart_settled : (n : ℕ) (held : List Holding) → Apart n held → AllByRecursion (λ h. IsSome h.mark → SpellsNode h.words h.settled) held
apart_settled n [] all = tt
apart_settled n (h ∷ held) all = (all.0.0, apart_settled n held all.1)

-- what steps on the node leave as it was
pub record Stays (n : ℕ) (v w : Log) : Type 0 where
  pub out : w.holdings.out ≡ v.holdings.out
  pub others : (m : ℕ) → m ≢ n → held_of m w.holdings.held ≡ held_of m v.holdings.held
  pub apart : Apart n v.holdings.held → Apart n w.holdings.held

edited_far : (n at value m : ℕ) → m ≢ n → (held : List Holding) → held_of m (edited n (store_in at value) held) ≡ held_of m held
edited_far n at value m far [] = refl
edited_far n at value m far (h ∷ held) = go (nat_eq h.node n) refl (edited_far n at value m far held)
  where
    go : (b : Bool) → nat_eq h.node n ≡ b → held_of m (edited n (store_in at value) held) ≡ held_of m held
        → cond ((if b then store_in at value h else h).node == m) (Some (if b then store_in at value h else h)) (held_of m (edited n (store_in at value) held)) ≡ cond (h.node == m) (Some h) (held_of m held)
    go true e later =
        let other : (h.node == m) ≡ false = ne_eqb h.node m (λ same. far (sym same ∙ eqb-true h.node n e)) in
        ap (λ b. cond b (Some (store_in at value h)) (held_of m (edited n (store_in at value) held))) other ∙ (later ∙ sym (ap (λ b. cond b (Some h) (held_of m held)) other))
    go false e later = ap (cond (h.node == m) (Some h)) later

edited_apart : (n at value : ℕ) (held : List Holding) → Apart n held → Apart n (edited n (store_in at value) held)
edited_apart n at value [] all = tt
edited_apart n at value (h ∷ held) all = (go (nat_eq h.node n) refl, edited_apart n at value held all.1)
  where
    go : (b : Bool) → nat_eq h.node n ≡ b → (IsSome (if b then store_in at value h else h).mark → SpellsNode (if b then store_in at value h else h).words (if b then store_in at value h else h).settled) × ((if b then store_in at value h else h).node ≡ n → (if b then store_in at value h else h).mark ≡ None)
    go true e = (λ marked. absurd (true≢false (sym marked ∙ ap is_some (all.0.1 (eqb-true h.node n e)))), all.0.1)
    go false e = all.0

pub stays_stored : (n at value : ℕ) (words : List ℕ) (v : Log) → HasOut n words v.holdings → Stays n v (after_node_store n at value v)
stays_stored n at value words v h =
    let plain : Stays n v (stored_log n at value v) = record { out = refl; others = λ m far. edited_far n at value m far v.holdings.held; apart = edited_apart n at value v.holdings.held } in
    subst (Stays n v) (sym (plain_store n at value v (never_frees n at value words v h))) plain

stays_setting : (n at value : ℕ) (words : List ℕ) (v : Log) → HasOut n words v.holdings → Stays n v (after_setting n at value v)
stays_setting n at value words v h = go (nat_eq (held_word n at v) value)
  where
    go : (b : Bool) → Stays n v (if b then after_node_load n at (held_word n at v) v else after_node_store n at value (after_node_load n at (held_word n at v) v))
    go true = record { out = refl; others = λ m far. refl; apart = λ all. all }
    go false = let more = stays_stored n at value words (after_node_load n at (held_word n at v) v) h in record { out = more.out; others = more.others; apart = more.apart }

-- a word of a node was set
pub word_set : (n at value found : ℕ) (k k1 k2 : CallerData) → IsSome (held_of n k.log.holdings.held) → HeldTells n at found k.log → found ≢ value → k1 ≡ record k { log = after_node_load n at found k.log } → k2 ≡ record k1 { log = after_node_store n at value k1.log } → k2 ≡ record k { log = after_setting n at value k.log }
word_set n at value found k k1 k2 held told other loaded stored = go (held_of n k.log.holdings.held) refl held told
  where
    go : (o : Option Holding) → held_of n k.log.holdings.held ≡ o → IsSome o → IfSome o (λ h. node_word h.words at ≡ found) → k2 ≡ record k { log = after_setting n at value k.log }
    go None e is is_word = absurd (true≢false (sym is))
    go (Some h) e is is_word =
        let word : held_word n at k.log ≡ found = ap (word_of_lock at) e ∙ is_word in
        let all : k2 ≡ record k { log = after_node_store n at value (after_node_load n at found k.log) } = stored ∙ ap (λ (z : CallerData). record z { log = after_node_store n at value z.log }) loaded in
        all
        ∙ (ap (λ w. record k { log = after_node_store n at value (after_node_load n at w k.log) }) (sym word)
        ∙ ap (λ b. record k { log = if b then after_node_load n at (held_word n at k.log) k.log else after_node_store n at value (after_node_load n at (held_word n at k.log) k.log) }) (sym (ap (λ w. w == value) word ∙ ne_eqb found value other)))

-- stores leave what a caller may still do
pub stored_budget : (n at value : ℕ) (v : Log) → (after_node_store n at value v).budget ≡ v.budget
stored_budget n at value v = go (frees n at value v)
  where
    settled : (b : Bool) → (if b then after_exchange (stored_log n at value v) (top_of (stored_log n at value v) None) (is_among (group_of (stored_log n at value v) None)) else settle_free (stored_log n at value v)).budget ≡ v.budget
    settled true = refl
    settled false = refl

    go : (b : Bool) → (if b then settle None (stored_log n at value v) else stored_log n at value v).budget ≡ v.budget
    go true = settled (is_lawful (stored_log n at value v) None)
    go false = refl

setting_budget : (n at value : ℕ) (v : Log) → (after_setting n at value v).budget ≡ v.budget
setting_budget n at value v = go (nat_eq (held_word n at v) value)
  where
    go : (b : Bool) → (if b then after_node_load n at (held_word n at v) v else after_node_store n at value (after_node_load n at (held_word n at v) v)).budget ≡ v.budget
    go true = refl
    go false = stored_budget n at value (after_node_load n at (held_word n at v) v)

pub freeing_budget : (n : ℕ) (v : Log) → (after_freeing n v).budget ≡ v.budget
freeing_budget n v = setting_budget n 2 0 (after_setting n 1 2 v) ∙ setting_budget n 1 2 v

pub links_budget : (n : ℕ) (heads : List ℕ) (v : Log) → (after_links n heads v).budget ≡ v.budget
links_budget n [] v = refl
links_budget n (head ∷ heads) v = links_budget n heads (after_node_store n 6 head (after_head_load head v))

-- words of the kind of free nodes, with a level and a link of 32 bits
spelled_free : (words : List ℕ) (head : ℕ) → node_word words 1 ≡ 2 → node_word words 2 ≡ 0 → node_word words 6 ≡ head → head < 2 ^ 32 → (s : NodeData) × ((spelled words ≡ Some s) × (s.body ≡ Link head))
spelled_free words head kind level link short =
    let body : body_of_kind words 2 (node_word words 5) ≡ Some (Link head) = (λ i. if is_short (link i) then Some (Link (link i)) else None) ∙ ap (λ b. if b then Some (Link head) else None) (lt-ltb head (2 ^ 32) short) in
    let first : spelled words ≡ option_map (λ b. record { level = 0; low = node_word words 3; high = node_word words 4; body = b }) (body_of_kind words 2 (node_word words 5)) =
    (λ i. if is_short (level i) then option_map (λ b. record { level = level i; low = node_word words 3; high = node_word words 4; body = b }) (body_of_kind words (kind i) (node_word words 5)) else None) in
    (record { level = 0; low = node_word words 3; high = node_word words 4; body = Link head }, (first ∙ ap (option_map (λ b. record { level = 0; low = node_word words 3; high = node_word words 4; body = b })) body, refl))

without_far : (n m : ℕ) → m ≢ n → (held : List Holding) → held_of m (without_lock n held) ≡ held_of m held
without_far n m far [] = refl
without_far n m far (h ∷ held) = go (nat_eq h.node n) refl (without_far n m far held)
  where
    go : (b : Bool) → nat_eq h.node n ≡ b → held_of m (without_lock n held) ≡ held_of m held → held_of m (if not b then h ∷ without_lock n held else without_lock n held) ≡ cond (h.node == m) (Some h) (held_of m held)
    go true e later = later ∙ sym (ap (λ b. cond b (Some h) (held_of m held)) (ne_eqb h.node m (λ same. far (sym same ∙ eqb-true h.node n e))))
    go false e later = ap (cond (h.node == m) (Some h)) later

-- a node that is let go is held no more
without_itself : (n : ℕ) (held : List Holding) → held_of n (without_lock n held) ≡ None
without_itself n [] = refl
without_itself n (h ∷ held) = go (ℕ_discrete h.node n) (without_itself n held)
  where
    go : Dec (h.node ≡ n) → held_of n (without_lock n held) ≡ None → held_of n (without_lock n (h ∷ held)) ≡ None
    go (yes e) rest = rw (eq-eqb h.node n e) rest
    go (no ne) rest = rw (ne_eqb h.node n ne) (rw (ne_eqb h.node n ne) rest)

pub gone_after : (n : ℕ) (v : Log) → held_of n (after_node_release n v).holdings.held ≡ None
gone_after n v = without_itself n (settle None v).holdings.held

settled_budget : (v : Log) → (settle None v).budget ≡ v.budget
settled_budget v = go (is_lawful v None)
  where
    go : (b : Bool) → (if b then after_exchange v (top_of v None) (is_among (group_of v None)) else settle_free v).budget ≡ v.budget
    go true = refl
    go false = refl

pub surplus_after : (n : ℕ) (k : CallerData) → 0 < surplus k → surplus k ≡ surplus (record k { log = after_node_release n k.log }) + 1
surplus_after n k some =
    let same : (settle None k.log).budget ≡ k.log.budget = settled_budget k.log in
    let less : (after_node_release n k.log).budget.credit ≡ k.log.budget.credit - 1 = ap (λ (b : Budget). b.credit - 1) same in
    omega (arith, less, some)

module _ (n : ℕ) (v : Log) (held : IsSome (held_of n v.holdings.held)) (out : IsTrue (is_among v.holdings.out n)) (told : HolderTells n v) (unmarked : OutTells n v) where
  pub first : (words : List ℕ) × (HasOut n words v.holdings × (length words ≡ 35))
  first = go (held_of n v.holdings.held) refl held told
    where
      each_unmarked : (hs : List Holding) (h : Holding) → held_of n hs ≡ Some h → AllByRecursion (λ z. z.node ≡ n → z.mark ≡ None) hs → h.mark ≡ None
      each_unmarked [] h e all = absurd (none-some h e)
      each_unmarked (z ∷ hs) h e all = here (nat_eq z.node n) refl e (λ f. each_unmarked hs h f all.1)
        where
          here : (b : Bool) → nat_eq z.node n ≡ b → cond b (Some z) (held_of n hs) ≡ Some h → (held_of n hs ≡ Some h → h.mark ≡ None) → h.mark ≡ None
          here true is f later = subst (λ k. k.mark ≡ None) (cond_some true z h f).1 (all.0 (eqb-true z.node n is))
          here false is f later = later f

      go : (o : Option Holding) → held_of n v.holdings.held ≡ o → IsSome o → IfSome o (IsHeldNode v.terms) → (words : List ℕ) × (HasOut n words v.holdings × (length words ≡ 35))
      go None e is told = absurd (true≢false (sym is))
      go (Some h) e is told = (h.words, (record { holding = h; is = e; words_are = refl; unmarked = each_unmarked v.holdings.held h e (unmarked out).1; out = out }, told.wide))

  abbrev kinded : Log
  kinded = after_setting n 1 2 v

  second : (words : List ℕ) × (HasOut n words kinded.holdings × Sets 1 2 first.0 words)
  second = setting n 1 2 first.0 v (omega arith) (omega arith) first.1.1 first.1.0

  third : (words : List ℕ) × (HasOut n words (after_freeing n v).holdings × Sets 2 0 second.0 words)
  third = setting n 2 0 second.0 kinded (omega arith) (omega arith) second.1.1.wide second.1.0

  pub out_then : IsTrue (is_among kinded.holdings.out n)
  out_then = second.1.0.out

  pub held_then : IsSome (held_of n kinded.holdings.held)
  held_then = subst IsSome (sym second.1.0.is) refl

  pub freed : IsUnlinked n (after_freeing n v)
  freed = let h = third.1.0 in record {
    holding = h.holding;
    is = h.is;
    wide = ap length h.words_are ∙ third.1.1.wide;
    kind = ap (λ ws. node_word ws 1) h.words_are ∙ (third.1.1.others 1 (omega arith) (λ e. omega (arith, e)) ∙ second.1.1.here);
    level = ap (λ ws. node_word ws 2) h.words_are ∙ third.1.1.here;
    unmarked = h.unmarked;
    out = h.out;
  }

  pub stays_freed : Stays n v (after_freeing n v)
  stays_freed =
      let one = stays_setting n 1 2 first.0 v first.1.0 in
      let two = stays_setting n 2 0 second.0 kinded second.1.0 in record {
        out = two.out ∙ one.out;
        others = λ m far. two.others m far ∙ one.others m far;
        apart = λ all. two.apart (one.apart all);
      }

  pub apart_here : IsSettled v → Apart n v.holdings.held
  apart_here settled = apart n v.holdings.held settled (unmarked out).1

-- a load of the head leaves such a node as it is, and so does a link but for itself
pub headed_still : (n found : ℕ) (v : Log) → IsUnlinked n v → IsUnlinked n (after_head_load found v)
headed_still n found v u = record { holding = u.holding; is = u.is; wide = u.wide; kind = u.kind; level = u.level; unmarked = u.unmarked; out = u.out }

linked_holding : (n head : ℕ) (v : Log) (u : IsUnlinked n v) → held_of n (after_node_store n 6 head v).holdings.held ≡ Some (store_in 6 head u.holding)
linked_holding n head v u = held_edited n (store_in 6 head) (λ k. refl) v.holdings.held ∙ ap (option_map (store_in 6 head)) u.is

linked_words : (head : ℕ) (words : List ℕ) → length words ≡ 35 → Sets 6 head words (set words 5 head)
linked_words head words wide = set_sets 6 head words (omega arith) (omega arith) wide

pub linked_still : (n head : ℕ) (v : Log) → IsUnlinked n v → IsUnlinked n (after_node_store n 6 head v)
linked_still n head v u = let set_so = linked_words head u.holding.words u.wide in record {
  holding = store_in 6 head u.holding;
  is = linked_holding n head v u;
  wide = set_so.wide;
  kind = set_so.others 1 (omega arith) (λ e. omega (arith, e)) ∙ u.kind;
  level = set_so.others 2 (omega arith) (λ e. omega (arith, e)) ∙ u.level;
  unmarked = u.unmarked;
  out = u.out;
}

pub links_still : (n : ℕ) (heads : List ℕ) (v : Log) → IsUnlinked n v → IsUnlinked n (after_links n heads v)
links_still n [] v u = u
links_still n (head ∷ heads) v u = links_still n heads (after_node_store n 6 head (after_head_load head v)) (linked_still n head (after_head_load head v) (headed_still n head v u))

pub may_link : (n : ℕ) (v : Log) → IsUnlinked n v → MayStore n v
may_link n v u = subst (λ o. IsSomeAnd o (λ k. IsSome k.mark ⊎ IsTrue (is_among v.holdings.out n))) (sym u.is) (inr u.out)

-- once it is linked it spells a free node
linked_spells : (n head : ℕ) (v : Log) (u : IsUnlinked n v) → head < 2 ^ 32 → (s : NodeData) × ((spelled (set u.holding.words 5 head) ≡ Some s) × (s.body ≡ Link head))
linked_spells n head v u short =
    let set_so = linked_words head u.holding.words u.wide in
    spelled_free (set u.holding.words 5 head) head (set_so.others 1 (omega arith) (λ e. omega (arith, e)) ∙ u.kind) (set_so.others 2 (omega arith) (λ e. omega (arith, e)) ∙ u.level) set_so.here short

pub may_push : (n head : ℕ) (v : Log) → IsUnlinked n v → head < 2 ^ 32 → MayPush n head (after_node_store n 6 head v)
may_push n head v u short =
    let s = linked_spells n head v u short in
    let body : IsSomeAnd (spelled (set u.holding.words 5 head)) (λ c. c.body ≡ Link head) = subst (λ o. IsSomeAnd o (λ c. c.body ≡ Link head)) (sym s.1.0) s.1.1 in
    (subst (λ o. IsSomeAnd o (λ k. IsSomeAnd (spelled k.words) (λ c. c.body ≡ Link head))) (sym (linked_holding n head v u)) body, u.out)

-- one link more
pub links_more : (n head : ℕ) (heads : List ℕ) (v : Log) → after_links n (heads ++ head ∷ []) v ≡ after_node_store n 6 head (after_head_load head (after_links n heads v))
links_more n head [] v = refl
links_more n head (x ∷ heads) v = links_more n head heads (after_node_store n 6 x (after_head_load x v))

-- what is left of the other locks
pub links_stay : (n : ℕ) (heads : List ℕ) (v : Log) → IsUnlinked n v → Stays n v (after_links n heads v)
links_stay n [] v u = record { out = refl; others = λ m far. refl; apart = λ all. all }
links_stay n (head ∷ heads) v u =
    let headed_so = headed_still n head v u in
    let has : HasOut n u.holding.words (after_head_load head v).holdings = record { holding = u.holding; is = u.is; words_are = refl; unmarked = u.unmarked; out = u.out } in
    let one = stays_stored n 6 head u.holding.words (after_head_load head v) has in
    let more = links_stay n heads (after_node_store n 6 head (after_head_load head v)) (linked_still n head (after_head_load head v) headed_so) in
    record { out = more.out ∙ one.out; others = λ m far. more.others m far ∙ one.others m far; apart = λ all. more.apart (one.apart all) }

-- After links, the last of which is this one, and then a push or another head: the node may be let go of.
module _ (n : ℕ) (lost : List ℕ) (head : ℕ) (v : Log) (u : IsUnlinked n v) (short : head < 2 ^ 32) where
  abbrev linked : Log
  linked = after_links n (lost ++ head ∷ []) v

  before : Log
  before = after_head_load head (after_links n lost v)

  ready : IsUnlinked n (after_head_load head (after_links n lost v))
  ready = headed_still n head (after_links n lost v) (links_still n lost v u)

  pub may_let_go : (w : Log) → w.holdings.held ≡ (after_links n (lost ++ head ∷ []) v).holdings.held → MayRelease n w
  may_let_go w same =
      let s = linked_spells n head (after_head_load head (after_links n lost v)) ready short in
      let is : held_of n w.holdings.held ≡ Some (store_in 6 head ready.holding) = ap (held_of n) (same ∙ ap (λ (z : Log). z.holdings.held) (links_more n head lost v)) ∙ linked_holding n head (after_head_load head (after_links n lost v)) ready in
      subst (λ o. IsSomeAnd o (λ k. IsSome (spelled k.words) × (IsSome k.mark → Differs k → IsTrue (is_lawful w None)))) (sym is)
      (subst IsSome (sym s.1.0) refl, λ marked _. absurd (true≢false (sym marked ∙ ap is_some ready.unmarked)))

-- what is left after the release, where all that is held had settled
pub others_stay : ExchangeLaw → (n : ℕ) (v u w : Log) → Stays n v u → Apart n v.holdings.held → w.holdings.held ≡ u.holdings.held → w.holdings.out ≡ all_but n v.holdings.out → LeavesOthers n v (after_node_release n w)
others_stay law n v u w stays all same out =
    let settled : IsSettled w = subst (AllByRecursion (λ h. IsSome h.mark → SpellsNode h.words h.settled)) (sym same) (apart_settled n u.holdings.held (stays.apart all)) in
    let free = settles_free law w settled in record {
      out = ap (λ (z : Log). z.holdings.out) free ∙ out;
      held = λ m far.
          ap (λ (z : Log). held_of m (without_lock n z.holdings.held)) free
          ∙ (without_far n m far (map (exchange nothing_reached nothing_reached) w.holdings.held)
          ∙ (held_changed m (exchange nothing_reached nothing_reached) (λ h. refl) w.holdings.held
          ∙ ap (option_map (exchange nothing_reached nothing_reached)) (ap (held_of m) same ∙ stays.others m far)));
      settled = subst (λ (z : Log). AllByRecursion (λ h. IsSome h.mark → SpellsNode h.words h.settled) (without_lock n z.holdings.held)) (sym free)
          (without_settled n (map (exchange nothing_reached nothing_reached) w.holdings.held) (freed_settled w.holdings.held settled));
    }

-- the first exchange, and each one more
pub pushed_first : (n head : ℕ) (k k1 k2 : CallerData) → head < 2 ^ 32 → k1 ≡ record k { log = after_head_load head k.log } → k2 ≡ record k1 { log = after_push n (after_node_store n 6 head k1.log) } → PushesNode n k k2
pushed_first n head k k1 k2 short load is = ([], head, (short, is ∙ ap (λ (z : CallerData). record z { log = after_push n (after_node_store n 6 head z.log) }) load))

pub refused_first : (n head found : ℕ) (k k1 k2 : CallerData) → head < 2 ^ 32 → found ≢ head → k1 ≡ record k { log = after_head_load head k.log } → k2 ≡ record k1 { log = after_head_load found (after_node_store n 6 head k1.log) } → StaysOut n found k k2
refused_first n head found k k1 k2 short other load is = ([], head, (short, other, is ∙ ap (λ (z : CallerData). record z { log = after_head_load found (after_node_store n 6 head z.log) }) load))

pub pushed_more : (n head : ℕ) (k k1 k2 : CallerData) → head < 2 ^ 32 → StaysOut n head k k1 → k2 ≡ record k1 { log = after_push n (after_node_store n 6 head k1.log) } → PushesNode n k k2
pushed_more n head k k1 k2 short (lost, last, (was_short, other, stays)) is = (
  lost ++ last ∷ [],
  head,
  (
    short,
    is
        ∙ (ap (λ (z : CallerData). record z { log = after_push n (after_node_store n 6 head z.log) }) stays
        ∙ ap (λ w. record k { log = after_push n w }) (sym (links_more n head (lost ++ last ∷ []) k.log))),
  ),
)

pub refused_more : (n head found : ℕ) (k k1 k2 : CallerData) → head < 2 ^ 32 → found ≢ head → StaysOut n head k k1 → k2 ≡ record k1 { log = after_head_load found (after_node_store n 6 head k1.log) } → StaysOut n found k k2
refused_more n head found k k1 k2 short more (lost, last, (was_short, other, stays)) is = (
  lost ++ last ∷ [],
  head,
  (
    short,
    more,
    is
        ∙ (ap (λ (z : CallerData). record z { log = after_head_load found (after_node_store n 6 head z.log) }) stays
        ∙ ap (λ w. record k { log = after_head_load found w }) (sym (links_more n head (lost ++ last ∷ []) k.log))),
  ),
)

pub refused_still : (n found : ℕ) (k k1 : CallerData) → StaysOut n found k k1 → IsUnlinked n k.log → IsUnlinked n k1.log
refused_still n found k k1 (lost, head, (short, other, stays)) u =
    subst (λ (z : CallerData). IsUnlinked n z.log) (sym stays) (headed_still n found (after_links n (lost ++ head ∷ []) k.log) (links_still n (lost ++ head ∷ []) k.log u))

pub refused_table : (n found : ℕ) (k k1 : CallerData) → StaysOut n found k k1 → k1.table ≡ k.table
refused_table n found k k1 (lost, head, (short, other, stays)) = ap (λ (z : CallerData). z.table) stays

-- what was loaded when a node was made free, and by each link
setting_loads : (n at value : ℕ) (words : List ℕ) (v : Log) → HasOut n words v.holdings → (more : List LoadEvent) × ((after_setting n at value v).trace.loads ≡ v.trace.loads ++ more)
setting_loads n at value words v h = go (nat_eq (held_word n at v) value)
  where
    go : (b : Bool) → (more : List LoadEvent) × ((if b then after_node_load n at (held_word n at v) v else after_node_store n at value (after_node_load n at (held_word n at v) v)).trace.loads ≡ v.trace.loads ++ more)
    go true = (_ ∷ [], refl)
    go false = (_ ∷ [], ap (λ (z : Log). z.trace.loads) (plain_store n at value (after_node_load n at (held_word n at v) v) (never_frees n at value words (after_node_load n at (held_word n at v) v) h)))

links_loads : (n : ℕ) (heads : List ℕ) (v : Log) → (more : List LoadEvent) × ((after_links n heads v).trace.loads ≡ v.trace.loads ++ more)
links_loads n [] v = ([], sym (append-nil v.trace.loads))
links_loads n (head ∷ heads) v =
    let rest = links_loads n heads (after_node_store n 6 head (after_head_load head v)) in
    (load_of v 1 head ∷ rest.0, rest.1 ∙ append_assoc v.trace.loads (load_of v 1 head ∷ []) rest.0)

-- the loads that say why it was lost
module _ (n : ℕ) (k : CallerData) (held : IsSome (held_of n k.log.holdings.held)) (out : IsTrue (is_among k.log.holdings.out n)) (told : HolderTells n k.log) (unmarked : OutTells n k.log) where
  freeing_loads : (more : List LoadEvent) × ((after_freeing n k.log).trace.loads ≡ k.log.trace.loads ++ more)
  freeing_loads =
      let a = setting_loads n 1 2 (first n k.log held out told unmarked).0 k.log (first n k.log held out told unmarked).1.0 in
      let s = second n k.log held out told unmarked in
      let b = setting_loads n 2 0 s.0 (after_setting n 1 2 k.log) s.1.0 in
      (a.0 ++ b.0, b.1 ∙ (ap (λ xs. xs ++ b.0) a.1 ∙ append_assoc k.log.trace.loads a.0 b.0))

  -- after the release
  module _ (lost : List ℕ) (head found : ℕ) (other : found ≢ head) (k' : CallerData) (is : k' ≡ record k { log = after_node_release n (after_head_load found (after_links n (lost ++ head ∷ []) (after_freeing n k.log))) }) where
    pub lost_shown : FoundBusy busy.Lost k k'
    lost_shown = record {
      before = freeing_loads.0 ++ ((links_loads n lost (after_freeing n k.log)).0 ++ load_of (after_links n lost (after_freeing n k.log)) 1 head ∷ []);
      load = load_of (after_links n (lost ++ head ∷ []) (after_freeing n k.log)) 1 found;
      behind = [];
      loads = whole;
      shows = (load_of (after_links n lost (after_freeing n k.log)) 1 head, (contains_more freeing_loads.0 _ _ (contains_more (links_loads n lost (after_freeing n k.log)).0 _ _ (0, omega arith, refl)), refl, inl (refl, other)));
    }
      where
        kept : (w : Log) → (settle None w).trace.loads ≡ w.trace.loads
        kept w = go (is_lawful w None)
          where
            go : (b : Bool) → (if b then after_exchange w (top_of w None) (is_among (group_of w None)) else settle_free w).trace.loads ≡ w.trace.loads
            go true = refl
            go false = refl

        linked_loads : (after_links n (lost ++ head ∷ []) (after_freeing n k.log)).trace.loads ≡ k.log.trace.loads ++ (freeing_loads.0 ++ ((links_loads n lost (after_freeing n k.log)).0 ++ load_of (after_links n lost (after_freeing n k.log)) 1 head ∷ []))
        linked_loads =
            let more = (links_loads n lost (after_freeing n k.log)).0 in
            let one = load_of (after_links n lost (after_freeing n k.log)) 1 head ∷ [] in
            ap (λ (z : Log). z.trace.loads) (links_more n head lost (after_freeing n k.log))
            ∙ (ap (λ xs. xs ++ one) ((links_loads n lost (after_freeing n k.log)).1 ∙ ap (λ xs. xs ++ more) freeing_loads.1)
            ∙ (ap (λ xs. xs ++ one) (append_assoc k.log.trace.loads freeing_loads.0 more)
            ∙ (append_assoc k.log.trace.loads (freeing_loads.0 ++ more) one
            ∙ ap (λ xs. k.log.trace.loads ++ xs) (append_assoc freeing_loads.0 more one))))

        whole : k'.log.trace.loads ≡ k.log.trace.loads ++ ((freeing_loads.0 ++ ((links_loads n lost (after_freeing n k.log)).0 ++ load_of (after_links n lost (after_freeing n k.log)) 1 head ∷ [])) ++ load_of (after_links n (lost ++ head ∷ []) (after_freeing n k.log)) 1 found ∷ [])
        whole =
            let last = load_of (after_links n (lost ++ head ∷ []) (after_freeing n k.log)) 1 found ∷ [] in
            ap (λ (z : CallerData). z.log.trace.loads) is
            ∙ (kept (after_head_load found (after_links n (lost ++ head ∷ []) (after_freeing n k.log)))
            ∙ (ap (λ xs. xs ++ last) linked_loads
            ∙ append_assoc k.log.trace.loads (freeing_loads.0 ++ ((links_loads n lost (after_freeing n k.log)).0 ++ load_of (after_links n lost (after_freeing n k.log)) 1 head ∷ [])) last))

-- A node was made free, and then put onto the list, or not.
module _ (n : ℕ) (k k2 : CallerData) (held : IsSome (held_of n k.log.holdings.held)) (out : IsTrue (is_among k.log.holdings.out n)) (told : HolderTells n k.log) (unmarked : OutTells n k.log) (freed_is : k2 ≡ record k { log = after_freeing n k.log }) where
  pub unlinked_now : IsUnlinked n k2.log
  unlinked_now = subst (λ (z : CallerData). IsUnlinked n z.log) (sym freed_is) (freed n k.log held out told unmarked)

  linked_surplus : (heads : List ℕ) → surplus (record k2 { log = after_links n heads k2.log }) ≡ surplus k
  linked_surplus heads = ap (λ (b : Budget). b.credit - 64 * k2.left) (links_budget n heads k2.log) ∙ (ap surplus freed_is ∙ ap (λ (b : Budget). b.credit - 64 * k.left) (freeing_budget n k.log))

  linked_stay : (heads : List ℕ) → Stays n k.log (after_links n heads (after_freeing n k.log))
  linked_stay heads =
      let one = stays_freed n k.log held out told unmarked in
      let more = links_stay n heads (after_freeing n k.log) (freed n k.log held out told unmarked) in
      record { out = more.out ∙ one.out; others = λ m far. more.others m far ∙ one.others m far; apart = λ all. more.apart (one.apart all) }

  module _ (k3 : CallerData) (pushes : PushesNode n k2 k3) where
    pub pushed_may : MayRelease n k3.log
    pushed_may = may_let_go n pushes.0 pushes.1 k2.log unlinked_now pushes.2.0 k3.log (ap (λ (z : CallerData). z.log.holdings.held) pushes.2.1)

    pub pushed_surplus : surplus k3 ≡ surplus k
    pushed_surplus = ap surplus pushes.2.1 ∙ linked_surplus (pushes.0 ++ pushes.1 ∷ [])

    pub pushed_gives : (k4 : CallerData) → k4 ≡ record k3 { log = after_node_release n k3.log } → GivesFree n k k4
    pushed_gives k4 is = (k3, (subst (λ z. PushesNode n z k3) freed_is pushes, is))

    pub pushed_others : ExchangeLaw → (k4 : CallerData) → k4 ≡ record k3 { log = after_node_release n k3.log } → IsSettled k.log → LeavesOthers n k.log k4.log
    pushed_others law k4 is settled =
        let hs = pushes.0 ++ pushes.1 ∷ [] in
        let log_is : k3.log ≡ after_push n (after_links n (pushes.0 ++ pushes.1 ∷ []) (after_freeing n k.log)) = ap (λ (z : CallerData). z.log) pushes.2.1 ∙ ap (λ (z : CallerData). after_push n (after_links n (pushes.0 ++ pushes.1 ∷ []) z.log)) freed_is in
        subst (λ (z : CallerData). LeavesOthers n k.log z.log) (sym (is ∙ ap (λ (w : Log). record k3 { log = after_node_release n w }) log_is))
        (others_stay law n k.log (after_links n hs (after_freeing n k.log)) (after_push n (after_links n hs (after_freeing n k.log))) (linked_stay hs) (apart_here n k.log held out told unmarked settled) refl (ap (all_but n) (linked_stay hs).out))

  module _ (k3 : CallerData) (refused : (found : ℕ) × StaysOut n found k2 k3) where
    pub refused_may : MayRelease n k3.log
    refused_may = may_let_go n refused.1.0 refused.1.1 k2.log unlinked_now refused.1.2.0 k3.log (ap (λ (z : CallerData). z.log.holdings.held) refused.1.2.2)

    pub refused_surplus : surplus k3 ≡ surplus k
    refused_surplus = ap surplus refused.1.2.2 ∙ linked_surplus (refused.1.0 ++ refused.1.1 ∷ [])

    pub refused_loses : (k4 : CallerData) → k4 ≡ record k3 { log = after_node_release n k3.log } → LosesNode n busy.Lost k k4
    refused_loses k4 is = (
      refl,
      lost_shown n k held out told unmarked refused.1.0 refused.1.1 refused.0 refused.1.2.1 k4 whole,
      (k3, (refused.0, subst (λ z. StaysOut n refused.0 z k3) freed_is refused.1, is)),
    )
      where
        log_is : k3.log ≡ after_head_load refused.0 (after_links n (refused.1.0 ++ refused.1.1 ∷ []) (after_freeing n k.log))
        log_is = ap (λ (z : CallerData). z.log) refused.1.2.2 ∙ ap (λ (z : CallerData). after_head_load refused.0 (after_links n (refused.1.0 ++ refused.1.1 ∷ []) z.log)) freed_is

        same : k3 ≡ record k { log = k3.log }
        same = refused.1.2.2 ∙ (λ i. record (freed_is i) { log = sym (ap (λ (z : CallerData). z.log) refused.1.2.2) i })

        whole : k4 ≡ record k { log = after_node_release n (after_head_load refused.0 (after_links n (refused.1.0 ++ refused.1.1 ∷ []) (after_freeing n k.log))) }
        whole = is ∙ (ap (λ (z : CallerData). record z { log = after_node_release n k3.log }) same ∙ ap (λ (w : Log). record k { log = after_node_release n w }) log_is)

-- a release gives up the lock, for a release less
pub released_gone : (n : ℕ) (k k' : CallerData) → k' ≡ record k { log = after_node_release n k.log } → held_of n k'.log.holdings.held ≡ None
released_gone n k k' is = ap (λ (z : CallerData). held_of n z.log.holdings.held) is ∙ gone_after n k.log

pub released_surplus : (n : ℕ) (k k1 k' : CallerData) → surplus k1 ≡ surplus k → 0 < surplus k → k' ≡ record k1 { log = after_node_release n k1.log } → surplus k ≡ surplus k' + 1
released_surplus n k k1 k' same some is = sym same ∙ (surplus_after n k1 (subst (λ z. 0 < z) (sym same) some) ∙ ap (λ (z : CallerData). surplus z + 1) (sym is))
