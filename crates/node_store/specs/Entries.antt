-- The entries of a held leaf, by their words and by their places.
use Rattle.std.specs.Prelude.{◌≡◌, ℕ, suc, ◌+◌, ◌-◌, ◌^◌, ◌<◌, ◌≤◌, ◌==◌, List, [], ◌∷◌, ◌++◌}
use Rattle.std.specs.Prelude.{take, drop, IsSomeAnd, if◌then◌else◌}
use Rattle.reg_model.specs.declared.span.Member.{Member}
use Rattle.tree_shape.specs.NodeData.{NodeData, Entries, entries_of}
use Rattle.word_rule.specs.declared.log.Log.{Log}
use Rattle.word_rule.specs.Held.{held_of}
use Rattle.word_rule.specs.Places.{TOP}
use Rattle.word_rule.specs.Spelling.{node_word}
use Rattle.node_store.specs.declared.entries.EntryWords.{EntryWords}
use Rattle.node_store.specs.declared.writing.Store.{Store}

-- entries with one more at a place, and without the one there
abbrev pub with_entry_at : ℕ → Member → List Member → List Member
with_entry_at place m entries = take place entries ++ m ∷ drop place entries

abbrev pub without_entry_at : ℕ → List Member → List Member
without_entry_at place entries = take place entries ++ drop (suc place) entries

-- a leaf with these entries
abbrev pub with_entries : List Member → NodeData → NodeData
with_entries entries s = record s { body = Entries entries }

-- a leaf with one entry more at a place, and without the one there
abbrev pub leaf_with : ℕ → Member → NodeData → NodeData
leaf_with place m s = with_entries (with_entry_at place m (entries_of s)) s

abbrev pub leaf_without : ℕ → NodeData → NodeData
leaf_without place s = with_entries (without_entry_at place (entries_of s)) s

-- the words of an entry that stands at a word, and those that a member is to have there
abbrev pub entry_words_in : List ℕ → ℕ → EntryWords
entry_words_in words at = record {
  at = at;
  base = node_word words at;
  size = node_word words (at + 1);
  payload = node_word words (at + 2);
}

abbrev pub words_of_entry : ℕ → Member → EntryWords
words_of_entry at m = record {
  at = at;
  base = m.span.first;
  size = m.span.last + 1 - m.span.first;
  payload = m.payload;
}

-- they are the words that a log has of a held node
abbrev pub HasEntryWords : ℕ → EntryWords → Log → Type 0
HasEntryWords n entry v =
    IsSomeAnd (held_of n v.holdings.held) (λ h. entry ≡ entry_words_in h.words entry.at)

-- words that are an entry's, and the member that they are
abbrev pub AreOfEntry : EntryWords → Type 0
AreOfEntry e = (1 ≤ e.size) × (e.base + e.size ≤ TOP) × (e.payload < 2 ^ 32)

abbrev pub member_of_words : EntryWords → Member
member_of_words e = record {
  span = record { first = e.base; last = e.base + e.size - 1 };
  payload = e.payload;
}

-- a store where another word stands, and those of an entry over another: the greatest number first
abbrev pub store_over : ℕ → Store → List Store
store_over old store = if old == store.value then [] else store ∷ []

abbrev pub stores_over : EntryWords → EntryWords → List Store
stores_over old new =
    store_over old.payload record { at = old.at + 2; value = new.payload }
    ++ store_over old.size record { at = old.at + 1; value = new.size }
    ++ store_over old.base record { at = old.at; value = new.base }
