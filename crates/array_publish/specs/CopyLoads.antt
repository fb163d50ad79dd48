-- Loads of words of one copy, and what they tell.
use Rattle.std.specs.Prelude.{◌≡◌, ℕ, ◌<◌, ◌%◌, List, [], ◌++◌, length, Option, Some, None}
use Rattle.std.specs.Prelude.{option_map, IsSomeAnd, IsTrue, slice_index}
use Rattle.std.specs.List.{AllByRecursion}
use Rattle.word_rule.specs.declared.log.CopySight.{CopySight}
use Rattle.word_rule.specs.declared.log.LoadEvent.{LoadEvent}
use Rattle.word_rule.specs.declared.log.LoadedWord.{LoadedWord}
use Rattle.word_rule.specs.declared.log.Log.{Log}
use Rattle.word_rule.specs.declared.log.Terms.{Terms}
use Rattle.word_rule.specs.CallerData.{CallerData, WordsData}
use Rattle.word_rule.specs.Callers.{AreTerms}
use Rattle.word_rule.specs.Copies.{AreOfCopy}
use Rattle.word_rule.specs.Places.{copy_place, is_of_copy}
use Rattle.array_publish.specs.declared.copies.CopyStart.{CopyStart}

-- the words that a sight has, where there is one
abbrev pub sight_words : Option CopySight → List LoadedWord
sight_words None = []
sight_words (Some s) = s.words

abbrev pub with_words : List LoadedWord → CopySight → CopySight
with_words words s = record s { words = words ++ s.words }

-- a log after these loads of a copy, of which these words joined the sight
abbrev pub after_copy_loads : List LoadEvent → List LoadedWord → Log → Log
after_copy_loads more words v = record v {
  trace = record v.trace { loads = v.trace.loads ++ more };
  sights = record v.sights { copies = option_map (with_words words) v.sights.copies };
}

-- how many loads a caller has made, refused exchanges among them
abbrev pub load_count : CallerData → ℕ
load_count k = length k.log.trace.loads

-- Words of copy c were loaded, and nothing else was done.
abbrev pub LoadsCopy : Terms → ℕ → CallerData → CallerData → Type 0
LoadsCopy t c k k' = (more : List LoadEvent) × (words : List LoadedWord)
    × (AllByRecursion (λ l. IsTrue (is_of_copy t c l.word)) more
    × (k' ≡ record k { log = after_copy_loads more words k.log }))

-- What was loaded tells a word of copy c: every copy that agrees with it has this number there,
-- counted from the copy's first word.
abbrev pub IsTold : Terms → ℕ → CallerData → ℕ → ℕ → Type 0
IsTold t c k at value = (copy : List ℕ)
    → AreOfCopy t c copy (sight_words k.log.sights.copies) → slice_index copy at ≡ value

-- A caller of these words whose sight is of copy c.
pub record IsAtCopy (w : WordsData) (c : ℕ) (k : CallerData) : Type 0 where
  pub table : k.table ≡ w.table
  pub terms : k.log.terms ≡ w.terms
  pub valid : AreTerms w.terms
  pub one : c < 2
  pub sight : IsSomeAnd k.log.sights.copies (λ s. s.guard % 2 ≡ c)

-- What loads of a copy ask of their caller: its sight is of this one, which begins there.
pub record MayLoadFrom (w : WordsData) (at : CopyStart) (k : CallerData) : Type 0 where
  pub copy : IsAtCopy w at.copy k
  pub start : at.start ≡ copy_place w.terms at.copy
