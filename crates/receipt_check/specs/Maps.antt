-- Lists of members, kept in maps by first addresses; and lines, kept by numbers.
use Rattle.std.specs.Prelude.{◌≡◌, ℕ, ◌<◌, ◌≤◌, List, ◌++◌, length, Option, Some, None, All}
use Rattle.std.specs.Prelude.{Contains, IfSome, nat_lt, if◌then◌else◌, slice_index_or}
use Rattle.std.specs.BTreeMap.{BTreeMap, get, btree_map_len}
use Rattle.std.specs.Ordering.{nat_cmp}
use Rattle.reg_model.specs.SpanData.{IsSpan}
use Rattle.reg_model.specs.State.{State, AreDisjoint}
use Rattle.reg_model.specs.declared.span.Member.{Member}
use Rattle.receipt_check.specs.declared.least_lines.LeastLines.{LeastLines}
use Rattle.receipt_check.specs.declared.member_map.MemberMap.{MemberMap}
use Rattle.receipt_check.specs.declared.lists.Lists.{Lists}

-- the map has these members and no others, each under its first address, and none overlaps another
pub record IsMapOf (apart : BTreeMap ℕ Member) (kept : List Member) : Type 0 where
  pub spans : All (λ m. IsSpan m.span) kept
  pub disjoint : AreDisjoint kept
  pub found : All (λ m. get nat_cmp apart m.span.first ≡ Some m) kept
  pub listed : (base : ℕ)
      → IfSome (get nat_cmp apart base) (λ m. Contains kept m × (m.span.first ≡ base))
  pub many : length kept ≡ btree_map_len apart

-- this is the list: first the members of the map, in some order, then the others
pub record Reflects (map : MemberMap) (list : List Member) : Type 0 where
  pub kept : List Member
  pub is_kept : IsMapOf map.apart kept
  pub split : list ≡ kept ++ map.rest.items

-- of those that begin at or below an address this is the last one
abbrev pub IsGreatestUpTo : BTreeMap ℕ Member → ℕ → Option Member → Type 0
IsGreatestUpTo apart address None = (base : ℕ) → base ≤ address → get nat_cmp apart base ≡ None
IsGreatestUpTo apart address (Some m) =
    (base : ℕ) × (base ≤ address) × (get nat_cmp apart base ≡ Some m)
    × ((above : ℕ) → base < above → above ≤ address → get nat_cmp apart above ≡ None)

-- this is the state
pub record ShowsState (lists : Lists) (s : State) : Type 0 where
  pub registered : Reflects lists.registered s.registered
  pub loaded : Reflects lists.loaded s.loaded
  pub fixed : Reflects lists.fixed s.fixed
  pub loads : lists.loads ≡ s.loads

-- the line that a map keeps for a number
abbrev pub line_kept : BTreeMap ℕ ℕ → ℕ → Option ℕ
line_kept lines number = get nat_cmp lines number

-- the line that is kept for a number, by a table of the first numbers and a map of the others
abbrev pub line_in : List (Option ℕ) → BTreeMap ℕ ℕ → ℕ → Option ℕ
line_in table others number =
    if nat_lt number (length table) then slice_index_or table number None
    else line_kept others number

abbrev pub line_of : LeastLines → ℕ → Option ℕ
line_of lines number = line_in lines.table.items lines.others number
