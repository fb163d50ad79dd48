-- Sights of nodes as values: what a log keeps of one, and what it is of.
use Rattle.std.specs.Prelude.{◌≡◌, ◌≢◌, ℕ, zero, suc, ◌≤◌, ◌%◌, List, length, Some}
use Rattle.std.specs.Prelude.{IfSome, IsSomeAnd, Result, Ok, Err}
use Rattle.reg_model.specs.declared.answer.Again.{Again}
use Rattle.reg_model.specs.declared.answer.Again.TheVariants.{Changed, Locked}
use Rattle.tree_shape.specs.NodeData.{NodeData}
use Rattle.word_rule.specs.declared.log.Ask.TheVariants as ask
use Rattle.word_rule.specs.declared.log.LoadedWord.{LoadedWord}
use Rattle.word_rule.specs.declared.log.Log.{Log}
use Rattle.word_rule.specs.CallerData.{CallerData}
use Rattle.word_rule.specs.NodeTells.{IsLiveNode}
use Rattle.word_rule.specs.Places.{CONTENT_WORDS, node_place}
use Rattle.word_rule.specs.Spelling.{node_word, SpellsNode}
use Rattle.word_rule.specs.Sights.{after_node_load, after_node_version, loaded_word, place_of}
use Rattle.word_rule.specs.Sights.{sight_of}
use Rattle.node_store.specs.declared.sight.Sight.{Sight}

-- each word after the version was loaded, the last time as it is here
abbrev pub AreLoaded : List ℕ → List LoadedWord → Type 0
AreLoaded words loaded =
    (at : ℕ) → 1 ≤ at → at ≤ CONTENT_WORDS → loaded_word at loaded ≡ Some (node_word words at)

-- the log keeps this sight: it has one of the node, of this version, with these words
unfoldable pub IsKept : Log → Sight → Type 0
IsKept v s = IsSomeAnd (sight_of s.node v.sights.nodes)
    (λ kept. (kept.version ≡ s.version) × AreLoaded s.words kept.words)

-- a log after its caller loaded so many words of a node after the version, which are these
unfoldable pub after_words : ℕ → List ℕ → ℕ → Log → Log
after_words n words zero v = v
after_words n words (suc count) v =
    after_node_load n (suc count) (node_word words (suc count)) (after_words n words count v)

-- a caller after it loaded the version of a node
abbrev pub after_look : ℕ → ℕ → CallerData → CallerData
after_look n found k = record k { log = after_node_version ask.Nothing n found k.log }

-- What a peek does: it loads the version, and says Locked exactly where its bit 0 is set, with the
-- word found. Else it loads all words of the node.
abbrev pub Peeks : ℕ → CallerData → CallerData → Result Sight Again → Type 0
Peeks n k k' (Ok s) =
    (s.node ≡ n) × (s.version % 2 ≡ 0) × (length s.words ≡ CONTENT_WORDS)
    × (k' ≡ record k {
      log = after_words n s.words CONTENT_WORDS (after_node_version ask.Nothing n s.version k.log);
    })
Peeks n k k' (Err again) = (found : ℕ) × ((found % 2 ≡ 1)
    × (again ≡ Locked (node_place n) found) × (k' ≡ after_look n found k))

-- where the log has the sight marked live, the node has its place in the tree
abbrev pub IsLiveAs : Log → ℕ → NodeData → Type 0
IsLiveAs v n shape = IfSome (sight_of n v.sights.nodes)
    (λ kept. IfSome (place_of kept) (IsLiveNode v.terms n shape))

-- What a check does: it loads the version, and says Changed exactly where it isn't the sight's,
-- with both. Else the sight's words spell the node.
abbrev pub Checks : Sight → CallerData → CallerData → Result NodeData Again → Type 0
Checks s k k' (Ok shape) =
    SpellsNode s.words shape × IsLiveAs k.log s.node shape × (k' ≡ after_look s.node s.version k)
Checks s k k' (Err again) = (found : ℕ) × ((found ≢ s.version)
    × (again ≡ Changed (node_place s.node) s.version found) × (k' ≡ after_look s.node found k))
