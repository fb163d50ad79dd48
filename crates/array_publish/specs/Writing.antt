-- What a copy is to list: what the active one lists, with one member more or one less.
use Rattle.std.specs.Prelude.{◌≡◌, ℕ, ◌+◌, ◌-◌, ◌<◌, ◌≤◌, ◌⊎◌, ◌==◌, nat_lt, List, slice_index}
use Rattle.std.specs.Prelude.{slice_set, if◌then◌else◌}
use Rattle.reg_model.specs.declared.span.Member.{Member}
use Rattle.array_publish.specs.declared.writing.ListChange.{ListChange}
use Rattle.array_publish.specs.declared.writing.Stretch.{Stretch}
use Rattle.array_publish.specs.declared.writing.ListChange.TheVariants.{Put, Take}
use Rattle.word_rule.specs.Places.{member_place, segment_place, segments}
use Rattle.word_rule.specs.Copies.{count_in}
use Rattle.array_publish.specs.Holders.{member_in}

-- member i of the list after the change, where the words of the active copy are these
abbrev pub wanted : ListChange → List ℕ → ℕ → Member
wanted (Put place m) active i =
    if nat_lt i place then member_in active i
    else (if i == place then m else member_in active (i - 1))
wanted (Take place) active i =
    if nat_lt i place then member_in active i else member_in active (i + 1)

-- the members before the i-th end below the address, and those from it on, of so many, don't
abbrev pub EndsBelow : List ℕ → ℕ → ℕ → Type 0
EndsBelow words address i = (i ≡ 0) ⊎ ((member_in words (i - 1)).span.last < address)

abbrev pub EndsFrom : List ℕ → ℕ → ℕ → ℕ → Type 0
EndsFrom words address count i = (i ≡ count) ⊎ (address ≤ (member_in words i).span.last)

-- a member is put between two or at an end; one that is there is taken
abbrev pub HasPlace : ListChange → ℕ → Type 0
HasPlace (Put place m) count = place ≤ count
HasPlace (Take place) count = place < count

-- where
abbrev pub change_place : ListChange → ℕ
change_place (Put place m) = place
change_place (Take place) = place

-- how many there are afterwards
abbrev pub changed_count : ListChange → ℕ → ℕ
changed_count (Put place m) count = count + 1
changed_count (Take place) count = count - 1

-- a member written into its place
abbrev pub with_member : ℕ → Member → List ℕ → List ℕ
with_member i m words =
    slice_set (slice_set (slice_set words (member_place i) m.span.first)
    (member_place i + 1) m.span.last) (member_place i + 2) m.payload

-- a segment's number of the one below it, and its count
abbrev pub with_header : ℕ → ℕ → List ℕ → List ℕ
with_header s count words =
    slice_set (slice_set words (segment_place s) s) (segment_place s + 1) count

-- so many segments have their numbers and their counts, for so many members
abbrev pub HaveHeaders : List ℕ → ℕ → ℕ → Type 0
HaveHeaders words count upto = (s : ℕ) → s < upto → (slice_index words (segment_place s) ≡ s)
    × (slice_index words (segment_place s + 1) ≡ count_in count s)

-- so many of the wanted members are written
abbrev pub HasMembers : ListChange → List ℕ → List ℕ → ℕ → Type 0
HasMembers change active words upto =
    (i : ℕ) → i < upto → member_in words i ≡ wanted change active i

-- of so many members, those outside of these places are as wanted
abbrev pub AreRightBeside : ListChange → List ℕ → List ℕ → ℕ → Stretch → Type 0
AreRightBeside change active words count at = (i : ℕ) → i < count → (i < at.from) ⊎ (at.to ≤ i)
    → member_in words i ≡ wanted change active i

-- the number of segments in use, and that of members
abbrev pub with_totals : ℕ → List ℕ → List ℕ
with_totals count words = slice_set (slice_set words 0 (segments count)) 1 count

-- all members are as they were
abbrev pub SameMembers : List ℕ → List ℕ → Type 0
SameMembers words words' = (i : ℕ) → member_in words' i ≡ member_in words i

-- and all headers
abbrev pub SameHeaders : List ℕ → List ℕ → Type 0
SameHeaders words words' = (s : ℕ)
    → (slice_index words' (segment_place s) ≡ slice_index words (segment_place s))
    × (slice_index words' (segment_place s + 1) ≡ slice_index words (segment_place s + 1))

-- A copy has all words that it is to have, for so many members.
pub record IsWritten (change : ListChange) (active : List ℕ) (count : ℕ)
    (words : List ℕ) : Type 0 where
  pub head : slice_index words 0 ≡ segments count
  pub number : slice_index words 1 ≡ count
  pub headers : HaveHeaders words count (segments count)
  pub members : HasMembers change active words count
