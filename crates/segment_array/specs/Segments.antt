-- What contracts see of a segment, and what its type keeps.
use Rattle.std.specs.Prelude.{◌≤◌, List, take}
use Rattle.reg_model.specs.declared.span.Member.{Member}
use Rattle.segment_array.specs.Ascending.{AscendFrom}
use Rattle.segment_array.specs.declared.segment.Segment.TheInside.{Inside}

-- the first `count` members
abbrev pub members_of : Inside → List Member
members_of s = take s.count s.members

-- the count is at most the length of the array, and the members ascend
pub record IsSegment (s : Inside) : Type 0 where
  pub counted : s.count ≤ 16
  pub ascending : AscendFrom 0 (members_of s)
