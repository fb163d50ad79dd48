-- What the steps on nodes, on the loader's copies, on the clock and on the free head make of a log,
-- and what they ask for.
use Rattle.std.specs.Prelude.{◌≡◌, ◌≢◌, option_map, ℕ, ◌+◌, ◌-◌, ◌<◌, ◌≤◌}
use Rattle.std.specs.Prelude.{◌⊎◌, ◌%◌, slice_index, IfSome, IsNone}
use Rattle.std.specs.Prelude.{Bool, true, false, ◌==◌, ◌&&◌, IsTrue, List, [], ◌∷◌, ◌++◌, length}
use Rattle.std.specs.Prelude.{Option, Some, None, IsSome, IsSomeAnd, slice_set, if◌then◌else◌}
use Rattle.std.specs.List.{find}
use Rattle.reg_model.specs.History.{state_after}
use mathlib.Core.List.{IsPrefix}
use Rattle.reg_model.specs.State.{State, IsFree, IsLowestOverlap, at_base, at_span}
use Rattle.reg_model.specs.declared.span.Member.{Member}
use Rattle.reg_model.specs.Receipt.{moment, accepted, IsRight}
use Rattle.reg_model.specs.declared.answer.Update.{Update}
use Rattle.reg_model.specs.declared.answer.Update.TheVariants as update
use Rattle.reg_model.specs.declared.answer.Inserted.TheVariants as inserted
use Rattle.reg_model.specs.declared.answer.Loading.TheVariants as loading
use Rattle.reg_model.specs.declared.answer.Removed.TheVariants as removed
use Rattle.reg_model.specs.declared.answer.Replaced.TheVariants as replaced
use Rattle.reg_model.specs.declared.answer.Receipt.{Receipt}
use Rattle.reg_model.specs.declared.answer.Receipt.TheVariants as receipt
use Rattle.tree_shape.specs.NodeData.{NodeData, Link}
use Rattle.tree_laws.specs.Trees.{branches, Branch}
use Rattle.word_rule.specs.declared.log.Log.{Log}
use Rattle.word_rule.specs.declared.log.Holding.{Holding}
use Rattle.word_rule.specs.declared.log.LoaderHolding.{LoaderHolding}
use Rattle.tree_shape.specs.declared.node.NodeBounds.{NodeBounds}
use Rattle.word_rule.specs.Places.{ALLOWANCE, HEAD, copy_place, copy_words, is_of_copy, lower}
use Rattle.word_rule.specs.Spelling.{spelled}
use Rattle.word_rule.specs.Held.{held_of, edited, without_lock, all_but, marked_in}
use Rattle.word_rule.specs.Exchange.{Differs, is_lawful, settle}
use Rattle.tree_laws.specs.Numbers.{is_among}
use Rattle.word_rule.specs.Logs.{after_load, after_write, after_spending}
use Rattle.word_rule.specs.Sights.{place_at, sight_of, with_receipts}
use Rattle.word_rule.specs.declared.log.Terms.{Terms}
use Rattle.word_rule.specs.Callers.{IsOfTerms, start}
use Rattle.word_rule.specs.Copies.{ListsAll, ListsMembers, Publishes}

-- The mark of a node at its lock: the root is live, and so is one that the settled content of a
-- held live node names, at the place that it is given there.
abbrev pub place_in : ℕ → List Branch → Option NodeBounds
place_in n bs = option_map (λ b. b.frame) (find (λ b. b.child == n) bs)

abbrev pub place_by : ℕ → Option NodeBounds → Holding → Option NodeBounds
place_by n None h = None
place_by n (Some m) h = place_in n (branches (h.settled.level - 1) h.settled)

abbrev pub first_mark : Option NodeBounds → Option NodeBounds → Option NodeBounds
first_mark None other = other
first_mark (Some m) other = Some m

abbrev pub place_by_held : ℕ → List Holding → Option NodeBounds
place_by_held n [] = None
place_by_held n (h ∷ held) = first_mark (place_by n h.mark h) (place_by_held n held)

abbrev pub mark_at_lock : ℕ → NodeData → List Holding → Option NodeBounds
mark_at_lock n settled held =
    if n == 0 then Some record { level = settled.level; low = settled.low; high = settled.high }
    else place_by_held n held

-- A node was locked at a version with this mark, while it had this settled content and these words.
abbrev pub after_marked_lock : Option NodeBounds → ℕ → ℕ → NodeData → List ℕ → Log → Log
after_marked_lock mark n version settled words v = record (after_write v) {
  holdings = record v.holdings {
    held = record {
      node = n;
      version = version;
      settled = settled;
      words = words;
      stored = false;
      mark = mark;
    } ∷ v.holdings.held;
  };
}

-- a node was locked at a version: what is held marks it
abbrev pub after_node_lock : ℕ → ℕ → NodeData → List ℕ → Log → Log
after_node_lock n version settled words v =
    after_marked_lock (mark_at_lock n settled v.holdings.held) n version settled words v

-- The mark of a node that was locked by sight: what is held marks it, or else a live sight of it
-- that has the version at which it was locked.
abbrev pub mark_at_version : ℕ → ℕ → NodeData → Log → Option NodeBounds
mark_at_version n version settled v =
    first_mark (mark_at_lock n settled v.holdings.held)
    (place_at version (sight_of n v.sights.nodes))

abbrev pub after_seen_lock : ℕ → ℕ → NodeData → List ℕ → Log → Log
after_seen_lock n version settled words v =
    after_marked_lock (mark_at_version n version settled v) n version settled words v

-- A node under whose lock nothing was stored was let go with the version at which it was locked.
abbrev pub after_node_release_same : ℕ → Log → Log
after_node_release_same n v =
    record (after_write v) {
      holdings = record v.holdings { held = without_lock n v.holdings.held };
    }

-- A node was let go with the next version: what its holder changed settled where that is lawful.
abbrev pub after_node_release : ℕ → Log → Log
after_node_release n v =
    let u = settle None v in
    record (after_node_release_same n u) { budget = after_spending u.budget }

-- A release asks that the node's words spell a node, and, where it is live and they spell another
-- content, for a lawful exchange.
abbrev pub MayRelease : ℕ → Log → Type 0
MayRelease n v = IsSomeAnd (held_of n v.holdings.held)
    (λ h. IsSome (spelled (h.words)) × (IsSome h.mark → Differs h → IsTrue (is_lawful v None)))

-- a word was stored in a held node, counted from its version word
abbrev pub store_in : ℕ → ℕ → Holding → Holding
store_in at value h = record h { words = slice_set h.words (at - 1) value; stored = true }

abbrev pub stored_log : ℕ → ℕ → ℕ → Log → Log
stored_log n at value v =
    record v {
      trace = record v.trace {
        writes = v.trace.writes + 1;
        stores = v.trace.stores ++ n ∷ [];
      };
      holdings = record v.holdings { held = edited n (store_in at value) v.holdings.held };
    }

-- whether a store makes a node free that is marked live
abbrev pub frees : ℕ → ℕ → ℕ → Log → Bool
frees n at value v = (at == 1) && (value == 2) && marked_in v.holdings.held n

-- A word of a held node was stored. Where it made a live node free, what is held settles.
abbrev pub after_node_store : ℕ → ℕ → ℕ → Log → Log
after_node_store n at value v = if frees n at value v
    then settle None (stored_log n at value v) else stored_log n at value v

-- a store asks that the node is held, and live or out
abbrev pub MayStore : ℕ → Log → Type 0
MayStore n v = IsSomeAnd (held_of n v.holdings.held)
    (λ h. IsSome h.mark ⊎ IsTrue (is_among v.holdings.out n))

-- the receipt of an update that was accepted with this number, in the state before it
abbrev pub IsDone : Update → ℕ → State → Receipt → Type 0
IsDone (update.Register m) n s r = r ≡ receipt.Register m (inserted.Done n)
IsDone (update.Load m) n s r = r ≡ receipt.Load m (loading.Done n)
IsDone (update.Deregister base) n s r =
    IsSomeAnd (at_base base s.registered) (λ m. r ≡ receipt.Deregister base (removed.Done n m))
IsDone (update.Replace m) n s r = IsSomeAnd (at_span m.span s.registered)
    (λ old. r ≡ receipt.Replace m (replaced.Done n old.payload))
IsDone (update.Unload base) n s r =
    IsSomeAnd (at_base base s.loaded) (λ m. r ≡ receipt.Unload base (removed.Done n m))

-- An update was accepted: it is the last of the history, which is now seen; one call less is due.
-- The receipt is the one of its number.
abbrev pub after_update : Update → List Update → Receipt → Log → Log
after_update u before r v =
    record (with_receipts (r ∷ []) (after_write v)) {
      past = before ++ u ∷ [];
      budget = record v.budget { allowance = v.budget.allowance - 1 };
    }

-- where the copy that is not active begins, for the holder of the loader's lock
abbrev pub spare_place : Terms → LoaderHolding → ℕ
spare_place t h = copy_place t ((h.published + 1) % 2)

-- A word of the copy that is not active was stored.
abbrev pub store_in_copy : Terms → ℕ → ℕ → LoaderHolding → LoaderHolding
store_in_copy t at value h =
    record h { spare = slice_set h.spare (at - spare_place t h) value; stored = true }

abbrev pub after_copy_store : ℕ → ℕ → Log → Log
after_copy_store at value v =
    record (after_write v) { loader = option_map (store_in_copy v.terms at value) v.loader }

-- a store asks for the loader's lock, and a word of the copy that is not active
abbrev pub MayStoreCopy : Terms → ℕ → LoaderHolding → Type 0
MayStoreCopy t at h = (spare_place t h ≤ at) × (at < spare_place t h + copy_words t)

-- what a load of a copy's word tells the holder: it is that of the copy in which it stands
pub record IsHeldWord (t : Terms) (at found : ℕ) (h : LoaderHolding) : Type 0 where
  pub active : IsTrue (is_of_copy t (h.published % 2) at)
      → slice_index h.active (at - copy_place t (h.published % 2)) ≡ found
  pub spare : IsTrue (is_of_copy t ((h.published + 1) % 2) at)
      → slice_index h.spare (at - spare_place t h) ≡ found

-- A publication: the update of the loader was accepted, and the copy that was stored is the active
-- one now.
abbrev pub exchange_copies : LoaderHolding → LoaderHolding
exchange_copies h = record h {
  published = h.published + 1;
  active = h.spare;
  spare = h.active;
  stored = false;
}

abbrev pub after_publish : Update → List Update → Receipt → Log → Log
after_publish u before r v =
    record (after_update u before r v) { loader = option_map exchange_copies v.loader }

-- A publication asks for one of the update calls that were begun, for a member that may be made
-- known, and that the copy that was stored lists what the active one lists, with the update made.
pub record MayPublish (t : Terms) (allowance : ℕ) (u : Update) (h : LoaderHolding) : Type 0 where
  pub before : List Member
  pub after : List Member
  pub due : 0 < allowance
  pub member : IsOfTerms t u
  pub active : ListsMembers h.active before
  pub spare : ListsMembers h.spare after
  pub publishes : Publishes t u before after

-- What a publication tells of the history before it, of which it found this clock.
pub record PublishTells (found : ℕ) (v : Log) (before : List Update) : Type 0 where
  pub begins : IsPrefix v.past before
  pub number : lower found ≡ length before
  pub room : length before < ALLOWANCE
  pub active : IfSome v.loader (λ h. ListsAll h.active (state_after (start v.terms) before).loaded)

abbrev pub AfterPublish : Update → ℕ → Log → Log → Type 0
AfterPublish u found v w = (before : List Update) × (r : Receipt) ×
    (PublishTells found v before
    × IsDone u (length before + 1) (state_after (start v.terms) before) r
    × (w ≡ after_publish u before r v))

-- the fixed members and these refuse the update of the loader
abbrev pub Refuses : Terms → Update → List Member → Type 0
Refuses t (update.Load m) members =
    ((other : Member) × IsLowestOverlap m.span (t.fixed ++ members) other)
    ⊎ (IsFree m.span (t.fixed ++ members) × (length members ≡ t.loads))
Refuses t (update.Unload base) members = IsNone (at_base base members)
Refuses t (update.Register m) members = ⊥
Refuses t (update.Deregister base) members = ⊥
Refuses t (update.Replace m) members = ⊥

-- a refusal asks that what the active copy lists refuses the update
abbrev pub MayRefuse : Terms → Update → LoaderHolding → Type 0
MayRefuse t u h = (members : List Member) × (ListsMembers h.active members × Refuses t u members)

-- what a receipt answers
abbrev pub Answers : Update → Receipt → Type 0
Answers u (receipt.Register m answer) = u ≡ update.Register m
Answers u (receipt.Deregister base answer) = u ≡ update.Deregister base
Answers u (receipt.Replace m answer) = u ≡ update.Replace m
Answers u (receipt.Load m answer) = u ≡ update.Load m
Answers u (receipt.Unload base answer) = u ≡ update.Unload base
Answers u (receipt.Query which pc found) = ⊥

-- the refusal of an update, right in a state, at a stamp
abbrev pub IsRefusalOf : Update → State → ℕ → Receipt → Type 0
IsRefusalOf u s stamp r = Answers u r × (accepted r ≡ None) × (moment r ≡ stamp) × IsRight s r

-- The free head was loaded.
abbrev pub after_head_load : ℕ → Log → Log
after_head_load found v = after_load HEAD found v

-- what the words of a held node spell: that it is free, and linked to this one
abbrev pub IsFreeTo : ℕ → ℕ → Log → Type 0
IsFreeTo n next v = IsSomeAnd (held_of n v.holdings.held)
    (λ h. IsSomeAnd (spelled (h.words)) (λ s. s.body ≡ Link next))

-- an exchange at the head takes a node off, or puts one there
abbrev pub after_pop : ℕ → Log → Log
after_pop n v = record (after_write v) { holdings = record v.holdings { out = n ∷ v.holdings.out } }

abbrev pub after_push : ℕ → Log → Log
after_push n v = record (after_write v) {
  holdings = record v.holdings { out = all_but n v.holdings.out };
}

abbrev pub MayPop : ℕ → ℕ → Log → Type 0
MayPop n next v = (n ≢ 0) × IsFreeTo n next v × (length v.holdings.out < 4)

abbrev pub MayPush : ℕ → ℕ → Log → Type 0
MayPush n next v = IsFreeTo n next v × IsTrue (is_among v.holdings.out n)
