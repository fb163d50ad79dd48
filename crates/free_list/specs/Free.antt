-- What taking a node off the free list, and giving one back, make of a caller.
use Rattle.std.specs.Prelude.{◌≡◌, ◌≢◌, ℕ, ◌+◌, ◌<◌, ◌^◌, ◌⊎◌, Bool, true, ◌==◌, List, []}
use Rattle.std.specs.Prelude.{◌∷◌, ◌++◌, length, Option, Some, None, Result, Ok}
use Rattle.std.specs.Prelude.{Err, IsSome, IsSomeAnd, IsTrue, option_map, if◌then◌else◌}
use Rattle.std.specs.List.{AllByRecursion}
use Rattle.tree_shape.specs.NodeData.{NodeData}
use Rattle.tree_laws.specs.Numbers.{is_among}
use Rattle.word_rule.specs.CallerData.{CallerData}
use Rattle.word_rule.specs.Exchange.{exchange, nothing_reached}
use Rattle.word_rule.specs.Held.{all_but, held_of}
use Rattle.word_rule.specs.NodeTells.{IsTakenNode}
use Rattle.word_rule.specs.Places.{HEAD, node_place}
use Rattle.word_rule.specs.Sights.{after_node_load}
use Rattle.word_rule.specs.Spelling.{node_word, SpellsNode}
use Rattle.word_rule.specs.Steps.{after_head_load, after_node_lock, after_node_release}
use Rattle.word_rule.specs.Steps.{after_node_store, after_pop, after_push}
use Rattle.word_rule.specs.declared.log.Holding.{Holding}
use Rattle.word_rule.specs.declared.log.LoadEvent.{LoadEvent}
use Rattle.word_rule.specs.declared.log.Log.{Log}
use Rattle.version_locks.specs.declared.locking.Busy.{Busy}
use Rattle.version_locks.specs.declared.locking.Busy.TheVariants as busy
use Rattle.version_locks.specs.Locking.{FoundBusy, tried}
use Rattle.version_locks.specs.Locking.{loaded}

-- the head was loaded
abbrev pub headed : ℕ → CallerData → CallerData
headed found k = record k { log = after_head_load found k.log }

-- a load of the count of a node
abbrev pub IsOfCount : LoadEvent → Type 0
IsOfCount l = (n : ℕ) × (l.word ≡ node_place n + 5)

-- Words were loaded, none of them the count of a node, and locks were taken and let go of again as
-- they were.
abbrev pub LosesRounds : CallerData → CallerData → Type 0
LosesRounds k k' = (more : List LoadEvent) × (marks : ℕ)
    × (AllByRecursion (λ l. ¬ IsOfCount l) more
    × (k' ≡ record k { log = tried more marks k.log }))

-- Words were loaded, and a free node was locked and taken off the list: it is out.
abbrev pub TakesFree : ℕ → CallerData → CallerData → Type 0
TakesFree n k k' = (more : List LoadEvent) × (marks : ℕ) × (version : ℕ) × (settled : NodeData)
    × (words : List ℕ) × (IsTakenNode n k.log words settled × (node_word words 1 ≡ 2)
    × (k' ≡ record k {
      log = after_pop n (after_node_lock n version settled words (tried more marks k.log));
    }))

-- What a round at the free list comes to: none exactly where the head was 0, its last load; a node;
-- or that it was lost, and why.
abbrev pub EndsRound : CallerData → CallerData → Result (Option ℕ) Busy → Type 0
EndsRound k k' (Ok None) = (lost : CallerData) × (LosesRounds k lost × (k' ≡ headed 0 lost))
EndsRound k k' (Ok (Some n)) = (n ≢ 0) × TakesFree n k k'
EndsRound k k' (Err why) = LosesRounds k k' × FoundBusy why k k'

-- What a take answers: the same, and no more lost rounds but by a caller that may give up.
abbrev pub IsFreeTaken : Bool → CallerData → CallerData → Result (Option ℕ) Busy → Type 0
IsFreeTaken gives_up k k' (Ok found) = EndsRound k k' (Ok found)
IsFreeTaken gives_up k k' (Err why) = EndsRound k k' (Err why) × (gives_up ≡ true)

-- A node that is held was taken off the list: it is a free one.
abbrev pub PopsLocked : ℕ → CallerData → CallerData → Type 0
PopsLocked n k k' = IsSomeAnd (held_of n k.log.holdings.held) (λ h. node_word h.words 1 ≡ 2)
    × ((more : List LoadEvent) × (k' ≡ record k { log = after_pop n (loaded more k.log) }))

-- It isn't free, or isn't the first one, as the last load says.
abbrev pub LeavesLocked : ℕ → CallerData → CallerData → Type 0
LeavesLocked n k k' = (more : List LoadEvent) × (last : LoadEvent)
    × (AllByRecursion (λ l. ¬ IsOfCount l) (more ++ last ∷ [])
    × (((last.word ≡ HEAD) × (last.found ≢ n))
    ⊎ ((last.word ≡ node_place n + 1) × (last.found ≢ 2)))
    × (k' ≡ record k { log = loaded (more ++ last ∷ []) k.log }))

-- the word that a log has of a held node
abbrev pub word_of_lock : ℕ → Option Holding → ℕ
word_of_lock at None = 0
word_of_lock at (Some h) = node_word h.words at

abbrev pub held_word : ℕ → ℕ → Log → ℕ
held_word n at v = word_of_lock at (held_of n v.holdings.held)

-- A word of a held node was made this one: it was loaded, and stored where it was another.
abbrev pub after_setting : ℕ → ℕ → ℕ → Log → Log
after_setting n at value v =
    if held_word n at v == value
    then after_node_load n at (held_word n at v) v
    else after_node_store n at value (after_node_load n at (held_word n at v) v)

-- a node's kind was made that of a free one, and its level 0
abbrev pub after_freeing : ℕ → Log → Log
after_freeing n v = after_setting n 2 0 (after_setting n 1 2 v)

-- The head was found to be one node after another, and each time this one was linked to it.
abbrev pub after_links : ℕ → List ℕ → Log → Log
after_links n [] v = v
after_links n (head ∷ heads) v =
    after_links n heads (after_node_store n 6 head (after_head_load head v))

-- a node that is held, out and unmarked has the words of a free one but for its link
pub record IsUnlinked (n : ℕ) (v : Log) : Type 0 where
  pub holding : Holding
  pub is : held_of n v.holdings.held ≡ Some holding
  pub wide : length holding.words ≡ 35
  pub kind : node_word holding.words 1 ≡ 2
  pub level : node_word holding.words 2 ≡ 0
  pub unmarked : holding.mark ≡ None
  pub out : IsTrue (is_among v.holdings.out n)

-- no live node that is held differs from its settled content
abbrev pub IsSettled : Log → Type 0
IsSettled v = AllByRecursion (λ h. IsSome h.mark → SpellsNode h.words h.settled) v.holdings.held

-- What giving a node back leaves of a log where nothing that is held is changed: the other nodes
-- that are out stay out, and the other locks stay, but that those without a mark settle.
pub record LeavesOthers (n : ℕ) (v w : Log) : Type 0 where
  pub out : w.holdings.out ≡ all_but n v.holdings.out
  pub held : (m : ℕ) → m ≢ n → held_of m w.holdings.held
      ≡ option_map (exchange nothing_reached nothing_reached) (held_of m v.holdings.held)
  pub settled : IsSettled w

-- A node was linked to the head that was found, again for each exchange that found another, and
-- then it became the head.
abbrev pub PushesNode : ℕ → CallerData → CallerData → Type 0
PushesNode n k k' = (lost : List ℕ) × (head : ℕ) × ((head < 2 ^ 32)
    × (k' ≡ record k { log = after_push n (after_links n (lost ++ head ∷ []) k.log) }))

-- or each exchange found another, at last this one
abbrev pub StaysOut : ℕ → ℕ → CallerData → CallerData → Type 0
StaysOut n found k k' = (lost : List ℕ) × (head : ℕ) × ((head < 2 ^ 32) × (found ≢ head)
    × (k' ≡ record k { log = after_head_load found (after_links n (lost ++ head ∷ []) k.log) }))

-- A node that was out was given back: it was made free, then it became the head, and then it was
-- let go with the next version.
abbrev pub GivesFree : ℕ → CallerData → CallerData → Type 0
GivesFree n k k' = (freed : CallerData)
    × (PushesNode n (record k { log = after_freeing n k.log }) freed
    × (k' ≡ record freed { log = after_node_release n freed.log }))

-- It could not be given back: it was made free and let go, and stays out.
abbrev pub LosesNode : ℕ → Busy → CallerData → CallerData → Type 0
LosesNode n why k k' = (why ≡ busy.Lost) × FoundBusy why k k' × ((freed : CallerData)
    × ((found : ℕ) × StaysOut n found (record k { log = after_freeing n k.log }) freed
    × (k' ≡ record freed { log = after_node_release n freed.log })))

-- What a caller has between two such steps: each node that is out is held, and no live node is
-- changed.
pub record HoldsOut (v : Log) : Type 0 where
  pub out : AllByRecursion (λ n. IsSome (held_of n v.holdings.held)) v.holdings.out
  pub settled : IsSettled v
