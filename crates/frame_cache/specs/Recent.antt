-- The entries among the slots, and a search for one.
use Rattle.std.specs.Prelude.{◌≡◌, ℕ, ◌<◌, List, length, map, take, get_or, Option, Some, None}
use Rattle.reg_model.specs.Query.{member_at}
use Rattle.reg_model.specs.declared.answer.Half.{Half}
use Rattle.reg_model.specs.declared.span.Member.{Member}
use Rattle.frame_cache.specs.CacheData.{CacheData, but_found}
use Rattle.frame_cache.specs.Order.{but_nth}
use Rattle.frame_cache.specs.RecentData.{RecentData}

-- a member that stands for none
abbrev pub no_entry : Member
no_entry = record { span = record { first = 0; last = 0 }; payload = 0 }

-- the member in a slot
abbrev pub in_slot : List Member → ℕ → Member
in_slot members slot = get_or members slot no_entry

-- the members in the slots that are used, in order
abbrev pub cached_entries : RecentData → List Member
cached_entries r = map (in_slot r.members) (take r.used r.slots)

-- what is seen of them as the entries of a half's cache
abbrev pub cache_of : Half → RecentData → CacheData
cache_of half r = record { half = half; stamp = r.stamp; entries = cached_entries r }

-- the entry at a place
abbrev pub cached_entry : ℕ → RecentData → Member
cached_entry place r = get_or (cached_entries r) place no_entry

-- A search: the place of the first entry that contains the address; or that there is none.
abbrev pub SeeksEntry : RecentData → ℕ → Option ℕ → Type 0
SeeksEntry r pc (Some place) =
    (place < length (cached_entries r))
    × (member_at pc (cached_entries r) ≡ Some (cached_entry place r))
    × (but_nth place (cached_entries r) ≡ but_found pc (cached_entries r))
SeeksEntry r pc None = member_at pc (cached_entries r) ≡ None
