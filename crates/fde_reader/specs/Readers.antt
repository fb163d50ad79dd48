-- What a reader of FDEs is, and what its lookups make of it.
use Rattle.std.specs.Prelude.{◌≡◌, ℕ, ◌⊎◌, length, Result, Err}
use mathlib.Core.List.{IsPrefix}
use Rattle.array_publish.specs.Lookup.{LooksUp}
use Rattle.btree_lookup.specs.Tries.{TriesTree}
use Rattle.fde_members.specs.Members.{fde_address}
use Rattle.reg_model.specs.History.{state_after}
use Rattle.reg_model.specs.Query.{query}
use Rattle.reg_model.specs.Receipt.{member_of, stamp_of}
use Rattle.reg_model.specs.declared.answer.Again.{Again}
use Rattle.reg_model.specs.declared.answer.Found.{Found}
use Rattle.reg_model.specs.declared.answer.Found.TheVariants as found
use Rattle.reg_model.specs.declared.answer.Half.{Half}
use Rattle.reg_model.specs.declared.answer.Half.TheVariants.{Loaded, Registered}
use Rattle.reg_model.specs.declared.span.Member.{Member}
use Rattle.word_rule.specs.CallerData.{CallerData, WordsData}
use Rattle.word_rule.specs.Callers.{start}
use Rattle.word_rule.specs.declared.log.Terms.{Terms}
use Rattle.fde_reader.specs.declared.reader.FdeFound.{FdeFound}
use Rattle.fde_reader.specs.declared.reader.FdeFound.TheVariants.{Hit, Miss}

-- a reader: the words that it looks into, what it has seen, and where distances are counted from
pub record FdeReaderData : Type 0 where
  pub words : WordsData
  pub me : CallerData
  pub low : ℕ

-- one half was asked once: the tree, or what the loader published
abbrev pub AsksHalf : Half → Terms → ℕ → CallerData → CallerData → Result Found Again → Type 0
AsksHalf Registered = TriesTree
AsksHalf Loaded = LooksUp

-- A half was asked and answered, as the state is after all that is seen then, which begins with
-- what was seen before; the answer's stamp is how many updates that are.
pub record AnswersHalf (t : Terms) (half : Half) (pc : ℕ) (answer : Found) (k k' : CallerData)
    : Type 0 where
  pub begins : IsPrefix k.log.past k'.log.past
  pub stamp : stamp_of answer ≡ length k'.log.past
  pub right : query half pc (state_after (start t) k'.log.past) ≡ member_of answer

-- both halves were asked: the registered one had a miss at a stamp
abbrev pub AnswersBoth : Terms → ℕ → ℕ → Found → CallerData → CallerData → Type 0
AnswersBoth t pc at answer k k' = (mid : CallerData)
    × (AnswersHalf t Registered pc (found.Miss at) k mid × AnswersHalf t Loaded pc answer mid k')

-- what is told of a member that was found
abbrev pub hit_told : ℕ → Half → Member → ℕ → FdeFound
hit_told low half m stamp = Hit half stamp m.span (fde_address low m)

-- One try of each half was answered: a member of one was found, and its FDE is told; or neither has
-- one, each at its own stamp.
abbrev pub FindsFde : Terms → ℕ → ℕ → CallerData → CallerData → FdeFound → Type 0
FindsFde t low pc k k' told =
    ((m : Member) × (stamp : ℕ) × (AnswersHalf t Registered pc (found.Hit m stamp) k k'
    × (told ≡ hit_told low Registered m stamp)))
    ⊎ ((m : Member) × (at : ℕ) × (stamp : ℕ) × (AnswersBoth t pc at (found.Hit m stamp) k k'
    × (told ≡ hit_told low Loaded m stamp)))
    ⊎ ((at : ℕ) × (stamp : ℕ) × (AnswersBoth t pc at (found.Miss stamp) k k'
    × (told ≡ Miss at stamp)))

-- A half wasn't answered, for a cause that the loads of the try show; the last one asked.
abbrev pub FindsAgain : Terms → ℕ → CallerData → CallerData → Again → Type 0
FindsAgain t pc k k' again = AsksHalf Registered t pc k k' (Err again)
    ⊎ ((mid : CallerData) × (at : ℕ)
    × (AnswersHalf t Registered pc (found.Miss at) k mid × AsksHalf Loaded t pc mid k' (Err again)))
