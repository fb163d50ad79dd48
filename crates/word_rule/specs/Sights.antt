-- Sights: words of a node that were loaded under a version, and what each load makes of them.
use Rattle.std.specs.Prelude.{ℕ, zero, suc, ◌+◌, ◌-◌, ◌*◌, ◌%◌, Bool, false, not, ◌&&◌, ◌==◌}
use Rattle.std.specs.Prelude.{nat_lt, nat_le, List, [], ◌∷◌, ◌++◌, length, map, Option, Some, None}
use Rattle.std.specs.Prelude.{option_map, is_some, if◌then◌else◌}
use Rattle.std.specs.List.{find, filter}
use Rattle.reg_model.specs.History.{state_at}
use Rattle.reg_model.specs.Query.{query}
use Rattle.reg_model.specs.declared.span.Member.{Member}
use Rattle.reg_model.specs.declared.answer.Update.{Update}
use Rattle.reg_model.specs.declared.answer.Found.{Found}
use Rattle.reg_model.specs.declared.answer.Found.TheVariants.{Hit, Miss}
use Rattle.reg_model.specs.declared.answer.Half.{Half}
use Rattle.reg_model.specs.declared.answer.Half.TheVariants as half
use Rattle.reg_model.specs.declared.answer.Receipt.{Receipt}
use Rattle.reg_model.specs.declared.answer.Receipt.TheVariants.{Query}
use Rattle.word_rule.specs.declared.log.Terms.{Terms}
use Rattle.word_rule.specs.declared.log.Log.{Log}
use Rattle.word_rule.specs.declared.log.NodeSight.{NodeSight}
use Rattle.word_rule.specs.declared.log.CopySight.{CopySight}
use Rattle.word_rule.specs.declared.log.LoadedWord.{LoadedWord}
use Rattle.tree_shape.specs.declared.node.NodeBounds.{NodeBounds}
use Rattle.word_rule.specs.declared.log.Ask.{Ask}
use Rattle.word_rule.specs.declared.log.Ask.TheVariants as ask
use Rattle.word_rule.specs.Places.{CLOCK, TOP, node_place, is_of_copy, lower, upper}
use Rattle.word_rule.specs.Held.{held_of}
use Rattle.word_rule.specs.Logs.{after_load}
use Rattle.word_rule.specs.Callers.{start}

-- the sight of a node
abbrev pub sight_of : ℕ → List NodeSight → Option NodeSight
sight_of n sights = find (λ s. s.node == n) sights

abbrev pub without_sight : ℕ → List NodeSight → List NodeSight
without_sight n sights = filter (λ s. not (s.node == n)) sights

-- the word at this place, where it was loaded: the last load of it
abbrev pub loaded_word : ℕ → List LoadedWord → Option ℕ
loaded_word at [] = None
loaded_word at (w ∷ words) = if w.at == at then Some w.value else loaded_word at words

-- The place in the tree of a sight that is marked live. The root is always live: its level is the
-- one that was loaded.
abbrev pub place_of : NodeSight → Option NodeBounds
place_of s = if s.node == 0 then option_map
    (λ level. record { level = level; low = 0; high = TOP }) (loaded_word 2 s.words) else s.mark

-- the same where the sight has this version
abbrev pub place_at : ℕ → Option NodeSight → Option NodeBounds
place_at version None = None
place_at version (Some s) = if s.version == version then place_of s else None

-- The place that a parent's sight gives to its i-th child: it needs the child's separator, and the
-- one before or else the parent's low fence.
abbrev pub low_of : NodeBounds → ℕ → List LoadedWord → Option ℕ
low_of place zero words = Some place.low
low_of place (suc i) words = option_map (λ separator. separator + 1) (loaded_word (7 + 2 * i) words)

abbrev pub place_between : NodeBounds → Option ℕ → Option ℕ → Option NodeBounds
place_between place None high = None
place_between place (Some low) None = None
place_between place (Some low) (Some high) =
    Some record { level = place.level - 1; low = low; high = high }

-- whether a loaded word is this number
abbrev pub is_loaded_as : ℕ → Option ℕ → Bool
is_loaded_as n None = false
is_loaded_as n (Some m) = m == n

-- of so many pairs, the first from the i-th on that is loaded and names the child gives its place
abbrev pub named_place : ℕ → NodeBounds → List LoadedWord → ℕ → ℕ → Option NodeBounds
named_place child place words i zero = None
named_place child place words i (suc more) =
    if is_loaded_as child (loaded_word (6 + 2 * i) words)
    then place_between place (low_of place i words) (loaded_word (7 + 2 * i) words)
    else named_place child place words (i + 1) more

-- the pairs that a sight's count allows, which must have been loaded
abbrev pub pairs_in_sight : Option ℕ → ℕ
pairs_in_sight None = 0
pairs_in_sight (Some count) = if nat_le count 15 then count else 0

-- the place that an inner node's sight gives to this child
abbrev pub place_under : ℕ → NodeSight → Option NodeBounds → Option NodeBounds
place_under child s None = None
place_under child s (Some place) =
    if nat_lt 0 place.level
    then named_place child place s.words 0 (pairs_in_sight (loaded_word 5 s.words)) else None

abbrev pub or_mark : Option NodeBounds → Option NodeBounds → Option NodeBounds
or_mark None other = other
or_mark (Some m) other = Some m

-- The sight of a node was found to stand: each sight that began before and that it names is now
-- marked live.
abbrev pub mark_child : NodeSight → NodeSight → NodeSight
mark_child parent child =
    if child.node == parent.node
    then child else record child {
      mark = or_mark (place_under child.node parent (place_of parent)) child.mark;
    }

-- the answer to a query in a state, at a stamp
abbrev pub found_at : Option Member → ℕ → Found
found_at None stamp = Miss stamp
found_at (Some m) stamp = Hit m stamp

abbrev pub query_receipt : Half → Log → ℕ → ℕ → Receipt
query_receipt which v pc stamp =
    Query which pc (found_at (query which pc (state_at (start v.terms) v.past stamp)) stamp)

-- whether a sight is of a live leaf whose fences hold the address
abbrev pub is_leaf_for : ℕ → Option NodeBounds → Bool
is_leaf_for pc None = false
is_leaf_for pc (Some place) = (place.level == 0) && nat_le place.low pc && nat_le pc place.high

-- the receipt of a try, where its leaf's sight stands, and the clock was loaded since its version
-- with all that was seen
abbrev pub try_receipts : Log → Ask → NodeSight → Option ℕ → List Receipt
try_receipts v (ask.Registered pc) s (Some stamp) =
    if is_leaf_for pc (place_of s) && (stamp == length v.past)
    then (query_receipt half.Registered v pc stamp ∷ []) else []
try_receipts v a s clock = []

-- a sight begins with a version that is not locked
abbrev pub sight_begun : ℕ → ℕ → NodeSight
sight_begun n version =
    record { node = n; version = version; words = []; clock = None; mark = None }

-- the sights after the version of a node was found, where there was this sight of it
abbrev pub sights_after_version : ℕ → ℕ → Option NodeSight → List NodeSight → List NodeSight
sights_after_version n found None sights =
    if found % 2 == 0 then (sight_begun n found ∷ sights) else sights
sights_after_version n found (Some s) sights =
    if s.version == found
    then map (mark_child s) sights
    else (if found % 2 == 0 then (sight_begun n found ∷ without_sight n sights) else sights)

abbrev pub receipts_after_version : Log → Ask → ℕ → Option NodeSight → List Receipt
receipts_after_version v a found None = []
receipts_after_version v a found (Some s) =
    if s.version == found then try_receipts v a s s.clock else []

-- receipts are appended to a log's own
abbrev pub with_receipts : List Receipt → Log → Log
with_receipts receipts v =
    record v { receipts = record v.receipts { own = v.receipts.own ++ receipts } }

-- The version of a node was loaded: a sight of it begins, or the one that there is was found to
-- stand.
abbrev pub after_node_version : Ask → ℕ → ℕ → Log → Log
after_node_version a n found v =
    record (with_receipts (receipts_after_version v a found (sight_of n v.sights.nodes))
    (after_load (node_place n) found v)) {
      sights = record v.sights {
        nodes = sights_after_version n found (sight_of n v.sights.nodes) v.sights.nodes;
      };
    }

-- The version of a node was loaded to begin a sight of it anew: what there was is forgotten.
abbrev pub sights_after_begin : ℕ → ℕ → List NodeSight → List NodeSight
sights_after_begin n found sights =
    if found % 2 == 0 then (sight_begun n found ∷ without_sight n sights) else sights

abbrev pub after_node_begin : ℕ → ℕ → Log → Log
after_node_begin n found v = record (after_load (node_place n) found v) {
  sights = record v.sights { nodes = sights_after_begin n found v.sights.nodes };
}

-- a word joins the sight of its node
abbrev pub with_word : ℕ → ℕ → ℕ → NodeSight → NodeSight
with_word n at value s =
    if s.node == n then record s { words = record { at = at; value = value } ∷ s.words } else s

-- A word of a node was loaded: where the caller holds the node it tells nothing of a sight.
abbrev pub after_node_load : ℕ → ℕ → ℕ → Log → Log
after_node_load n at value v = record (after_load (node_place n + at) value v) {
  sights = if is_some (held_of n v.holdings.held)
      then v.sights else record v.sights { nodes = map (with_word n at value) v.sights.nodes };
}

-- every sight knows when the clock was loaded after its version
abbrev pub with_clock : ℕ → NodeSight → NodeSight
with_clock stamp s = record s { clock = Some stamp }

-- the sight of the loader's copies goes on where the upper half is still its guard, else it begins
-- anew
abbrev pub copies_after_clock : ℕ → Option CopySight → Option CopySight
copies_after_clock found None = Some record { guard = upper found; words = [] }
copies_after_clock found (Some s) =
    if s.guard == upper found then Some s else Some record { guard = upper found; words = [] }

-- The clock was loaded, by which this much of the history is seen; these receipts are appended.
abbrev pub after_clock : ℕ → List Update → List Receipt → Log → Log
after_clock found past receipts v = record (with_receipts receipts (after_load CLOCK found v)) {
  past = past;
  sights = record {
    nodes = map (with_clock (lower found)) v.sights.nodes;
    copies = copies_after_clock found v.sights.copies;
  };
}

-- the receipt of a walk over the loader's copy, where the upper half of the clock is still the
-- walk's
abbrev pub walk_receipts : Log → ℕ → ℕ → Option CopySight → List Receipt
walk_receipts seen found pc None = []
walk_receipts seen found pc (Some s) =
    if s.guard == upper found then (query_receipt half.Loaded seen pc (lower found) ∷ []) else []

-- a word of a copy was loaded: it joins the sight where it is of the sight's own copy
abbrev pub with_copy_word : Terms → ℕ → ℕ → CopySight → CopySight
with_copy_word t at value s =
    if is_of_copy t (s.guard % 2) at
    then record s { words = record { at = at; value = value } ∷ s.words } else s

abbrev pub after_copy_load : ℕ → ℕ → Log → Log
after_copy_load at value v =
    record (after_load at value v) {
      sights = record v.sights {
        copies = option_map (with_copy_word v.terms at value) v.sights.copies;
      };
    }
