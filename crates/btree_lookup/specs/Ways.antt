-- Which nodes a lookup's loads may be of, and which loads are the cause of a try without an answer.
use Rattle.std.specs.Prelude.{◌≡◌, ◌≢◌, ℕ, ◌+◌, ◌*◌, ◌%◌, ◌<◌, ◌≤◌, ◌⊎◌, List, [], ◌∷◌, ◌++◌}
use Rattle.std.specs.Prelude.{Contains}
use Rattle.reg_model.specs.declared.answer.Again.{Again}
use Rattle.reg_model.specs.declared.answer.Again.TheVariants.{Changed, Locked}
use Rattle.word_rule.specs.declared.log.LoadedWord.{LoadedWord}
use Rattle.word_rule.specs.declared.log.Terms.{Terms}
use Rattle.word_rule.specs.Places.{CLOCK, CONTENT_WORDS, node_place}
use Rattle.btree_lookup.specs.Loads.{loaded_at, loaded_of}

-- of a parent's pairs that were loaded, this is the first whose separator is at least the address,
-- and it names the child
pub record IsNamed (pc : ℕ) (loaded : List LoadedWord) (parent slot child : ℕ) : Type 0 where
  pub named : Contains loaded (loaded_of parent (6 + 2 * slot) child)
  pub separator : (s : ℕ) × (Contains loaded (loaded_of parent (7 + 2 * slot) s) × (pc ≤ s))
  pub before : (i : ℕ) → i < slot
      → (s : ℕ) × (Contains loaded (loaded_of parent (7 + 2 * i) s) × (s < pc))

-- a node that loads lead to: the root, or the child that a parent's pair names
abbrev pub IsLed : ℕ → List LoadedWord → ℕ → Type 0
IsLed pc loaded n =
    (n ≡ 0) ⊎ ((parent : ℕ) × (slot : ℕ) × IsNamed pc loaded parent slot n)

-- a load of the clock, or of a word of a node that the loads before it lead to
abbrev pub IsLedTo : ℕ → List LoadedWord → LoadedWord → Type 0
IsLedTo pc before w =
    (w.at ≡ CLOCK)
    ⊎ ((n : ℕ) × (at : ℕ) × ((at ≤ CONTENT_WORDS) × (w.at ≡ node_place n + at)
    × IsLed pc before n))

-- each of the loads after these is such a one
abbrev pub AreLed : ℕ → List LoadedWord → List LoadedWord → Type 0
AreLed pc before [] = Unit {0}
AreLed pc before (w ∷ loaded) = IsLedTo pc before w × AreLed pc (before ++ w ∷ []) loaded

-- of two loads the first one stands before the second
abbrev pub ComeInOrder : LoadedWord → LoadedWord → List LoadedWord → Type 0
ComeInOrder first second [] = ⊥
ComeInOrder first second (w ∷ loaded) =
    ((w ≡ first) × Contains loaded second) ⊎ ComeInOrder first second loaded

-- Why a try has no answer: a node's version was found with two numbers, in this order; or it was
-- found locked.
abbrev pub IsCause : Terms → List LoadedWord → Again → Type 0
IsCause t loaded (Changed word first second) = (n : ℕ) × ((n < t.nodes) × (word ≡ node_place n)
    × (first ≢ second) × ComeInOrder (loaded_at word first) (loaded_at word second) loaded)
IsCause t loaded (Locked word seen) = (n : ℕ) × ((n < t.nodes) × (word ≡ node_place n)
    × (seen % 2 ≡ 1) × Contains loaded (loaded_at word seen))
