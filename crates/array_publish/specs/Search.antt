-- The search for the member of a copy that contains an address.
use Rattle.std.specs.Prelude.{◌≡◌, ℕ, ◌+◌, ◌*◌, ◌-◌, ◌^◌, ◌<◌, ◌≤◌, ◌⊎◌, List, ◌++◌, length, min}
use Rattle.std.specs.Prelude.{Option, Some, None, option_map, slice_index}
use Rattle.reg_model.specs.SpanData.{IsSpan}
use Rattle.reg_model.specs.Query.{member_at}
use Rattle.reg_model.specs.declared.span.Member.{Member}
use Rattle.array_publish.specs.declared.search.LastBegun.{LastBegun}
use Rattle.array_publish.specs.declared.search.SegmentStart.{SegmentStart}
use Rattle.array_publish.specs.declared.search.Series.{Series}
use Rattle.array_publish.specs.declared.copies.Listed.{Listed}
use Rattle.word_rule.specs.declared.log.Terms.{Terms}
use Rattle.word_rule.specs.CallerData.{CallerData}
use Rattle.word_rule.specs.Copies.{AreOfCopy, ListsMembers}
use Rattle.word_rule.specs.Places.{member_place}
use Rattle.array_publish.specs.CopyLoads.{IsTold, sight_words}

-- word i of a series in a copy
abbrev pub series_word : List ℕ → Series → ℕ → ℕ
series_word copy s i = slice_index copy (s.place + s.apart * i)

abbrev pub SeriesAscends : List ℕ → Series → Type 0
SeriesAscends copy s = (i j : ℕ) → i ≤ j → j < s.length
    → series_word copy s i ≤ series_word copy s j

-- Whatever copy agrees with what was loaded and has a series that ascends: of the first `upto`
-- words of the series n are at or below the address.
abbrev pub CountsBegun : Terms → ℕ → CallerData → ℕ → Series → ℕ → ℕ → Type 0
CountsBegun t c k pc s upto n = (copy : List ℕ)
    → AreOfCopy t c copy (sight_words k.log.sights.copies) → SeriesAscends copy s
    → ((n ≡ 0) ⊎ (series_word copy s (n - 1) ≤ pc)) × ((n ≡ upto) ⊎ (pc < series_word copy s n))

-- the words with which the other members of a segment begin
abbrev pub others : SegmentStart → Series
others s = record { place = s.place + 3; apart = 3; length = min s.after 15 }

-- of members in ascending order, the last one that begins at or below the address is from `low` on
-- and before `high`, or it would be before the first
abbrev pub AreEnds : List ℕ → ℕ → ℕ → ℕ → ℕ → Type 0
AreEnds copy pc count low high = ((low ≡ 0) ⊎ (slice_index copy (member_place low) ≤ pc))
    × ((count ≤ high) ⊎ (pc < slice_index copy (member_place high)))

-- the same of whatever copy agrees with what was loaded and lists so many members
abbrev pub IsNarrowed : Terms → ℕ → CallerData → ℕ → ℕ → ℕ → ℕ → Type 0
IsNarrowed t c k pc count low high = (copy : List ℕ) (members : List Member)
    → AreOfCopy t c copy (sight_words k.log.sights.copies) → ListsMembers copy members
    → count ≡ length members → AreEnds copy pc count low high

-- of so many members, the last one that begins at or below the address; it has number `index`
abbrev pub IsLastBegun : Terms → ℕ → CallerData → ℕ → ℕ → Option LastBegun → Type 0
IsLastBegun t c k pc count None = IsNarrowed t c k pc count 0 0
IsLastBegun t c k pc count (Some b) = (index : ℕ) × (b.place ≡ member_place index)
    × (index < count) × (b.first ≤ pc) × IsTold t c k b.place b.first
    × IsNarrowed t c k pc count index (index + 1)

-- what the words of a copy say of a member
abbrev pub listed_member : Listed → Member
listed_member l = record { span = record { first = l.first; last = l.last }; payload = l.payload }

-- which has a span and a payload of 32 bits
abbrev pub IsMember : Listed → Type 0
IsMember l = IsSpan (listed_member l).span × (l.payload < 2 ^ 32)

-- Whatever copy agrees with what was loaded, and lists no more members than may be loaded: this is
-- the one of the fixed members and of its own that contains the address.
abbrev pub IsObjectAt : Terms → ℕ → CallerData → List Member → ℕ → Option Listed → Type 0
IsObjectAt t c k fixed pc found = (copy : List ℕ) (members : List Member)
    → AreOfCopy t c copy (sight_words k.log.sights.copies) → ListsMembers copy members
    → length members ≤ t.loads
    → member_at pc (fixed ++ members) ≡ option_map listed_member found
