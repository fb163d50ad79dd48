-- What the other copy lists beside the active one, and which of its words may have to change.
use Rattle.std.specs.Prelude.{◌≡◌, ℕ, ◌+◌, ◌≤◌, ◌⊎◌, List}
use Rattle.reg_model.specs.declared.span.Member.{Member}
use Rattle.array_publish.specs.declared.other.OtherCopy.{OtherCopy}
use Rattle.array_publish.specs.declared.writing.ListChange.TheVariants.{Put}
use Rattle.array_publish.specs.Writing.{HasMembers, HaveHeaders}
use Rattle.word_rule.specs.Places.{segments}

-- of two copies one lists what the other does, of so many members, and one more at a place
abbrev pub HasOneMore : List ℕ → List ℕ → ℕ → ℕ → Type 0
HasOneMore words fewer count place =
    (place ≤ count) × ((m : Member) × HasMembers (Put place m) fewer words (count + 1))

-- where two lists of so many members are the same but for one that one of them has more
abbrev pub AreOneApart : List ℕ → List ℕ → ℕ → ℕ → ℕ → Type 0
AreOneApart active other count others place =
    ((others ≡ count + 1) × HasOneMore other active count place)
    ⊎ (((count ≡ others + 1) × HasOneMore active other others place)
    ⊎ ((count ≡ 0) × (others ≡ 0)))

-- The other copy lists so many members, in segments that say so; from this place on they aren't
-- those of the active copy.
pub record IsOneApart (active other : List ℕ) (count : ℕ) (o : OtherCopy) : Type 0 where
  pub headers : HaveHeaders other o.count (segments o.count)
  pub members : AreOneApart active other count o.count o.place
