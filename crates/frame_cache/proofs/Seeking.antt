-- A search along the order of the slots, and one over all slots.
use Rattle.std.proofs.Common.{◌≡◌, ℕ, suc, ◌+◌, ◌<◌, ◌≤◌, List, ◌∷◌, length, map, take, set, get_or, sym, subst, ap, ◌∙◌, add-one, arith, true, false, Some, None}
use borrow.Author.Count.{below_more}
use Rattle.std.proofs.lemmas.List.{get_or_default}
use Rattle.reg_model.specs.Query.{member_at}
use Rattle.reg_model.specs.SpanData.{contains}
use Rattle.reg_model.specs.declared.span.Member.{Member}
use Rattle.frame_cache.specs.Order.{brought}
use Rattle.frame_cache.specs.Recent.{SeeksEntry, cached_entries, cached_entry, in_slot, no_entry}
use Rattle.frame_cache.specs.RecentData.{IsRecent, RecentData}
use Rattle.frame_cache.proofs.Entries.{added, entry_count, entry_read, found_at, found_none, replaced, slot_low}

-- as many entries as slots are used
pub used_is : (r : RecentData) → IsRecent r → length (cached_entries r) ≡ r.used
used_is r is =
    let slots = is.slots.count in
    let used = is.used in
    entry_count r.members r.slots r.used (omega (arith, used, slots))

-- which places have an entry, of recent members that are the same as others
module _ (r v : RecentData) (place : ℕ) (same : v ≡ r) (is : IsRecent v) where
  pub entry_place : place < v.used → place < length (cached_entries r)
  entry_place within = subst (λ (z : RecentData). place < length (cached_entries z)) same (let count = used_is v is in omega (arith, within, count))

  pub place_used : place < length (cached_entries r) → place < v.used
  place_used within =
      let there = subst (λ (z : RecentData). place < length (cached_entries z)) (sym same) within in
      let count = used_is v is in
      omega (arith, there, count)

  pub place_low : place < length (cached_entries r) → place < 8
  place_low within = (let there = place_used within in let used = is.used in omega (arith, there, used))

-- the entry at a place is read through its slot
pub entry_is : (r : RecentData) (place : ℕ) (x : Member) → IsRecent r → place < length (cached_entries r) → get_or r.members (get_or r.slots place 0) x ≡ cached_entry place r
entry_is r place x is within =
    let members = is.members in
    let used = is.used in
    let slots = is.slots.count in
    let count = used_is r is in
    let low = slot_low r.slots place is.slots (omega (arith, within, count, used)) in
    get_or_default r.members (get_or r.slots place 0) x no_entry (omega (arith, low, members))
    ∙ sym (entry_read r.members r.slots r.used place (omega (arith, within, count)) (omega (arith, used, slots)))

-- what stands in the slot of a place is the entry there
pub entry_got : (r : RecentData) (place slot : ℕ) (m : Member) → IsRecent r → place < length (cached_entries r) → slot ≡ get_or r.slots place 0 → m ≡ in_slot r.members slot → m ≡ cached_entry place r
entry_got r place slot m is within at got = got ∙ (ap (in_slot r.members) at ∙ entry_is r place no_entry is within)

-- no entry before a place contains the address
abbrev pub ArePassed : ℕ → ℕ → RecentData → Type 0
ArePassed pc place r = (i : ℕ) → i < place → contains (cached_entry i r).span pc ≡ false

pub seek_known : (pc : ℕ) (r : RecentData) (place : ℕ) (m : Member) → place < length (cached_entries r) → ArePassed pc place r → m ≡ cached_entry place r → contains m.span pc ≡ true → SeeksEntry r pc (Some place)
seek_known pc r place m within passed entry here =
    let found = found_at pc (cached_entries r) place no_entry within passed (rw (← entry) here) in
    (within, found.0, found.1)

pub passed_one : (pc : ℕ) (r : RecentData) (place : ℕ) (m : Member) → ArePassed pc place r → m ≡ cached_entry place r → contains m.span pc ≡ false → ArePassed pc (place + 1) r
passed_one pc r place m passed entry here = below_more (λ i. contains (cached_entry i r).span pc ≡ false) place passed (rw (← entry) here)

pub seek_unknown : (pc : ℕ) (r : RecentData) (place : ℕ) → IsRecent r → r.used ≤ place → ArePassed pc place r → member_at pc (cached_entries r) ≡ None
seek_unknown pc r place is all passed =
    let count = used_is r is in
    found_none pc (cached_entries r) no_entry (λ i less. passed i (omega (arith, less, count, all)))

-- where no slot has a member that contains the address
pub seek_nowhere : (pc : ℕ) (r : RecentData) → IsRecent r → ((i : ℕ) → i < 8 → contains (in_slot r.members i).span pc ≡ false) → member_at pc (cached_entries r) ≡ None
seek_nowhere pc r is none = seek_unknown pc r r.used is (omega arith) passed
  where
    passed : ArePassed pc r.used r
    passed i less =
        let used = is.used in
        let count = used_is r is in
        let low = slot_low r.slots i is.slots (omega (arith, less, used)) in
        ap (λ (m : Member). contains m.span pc) (sym (entry_is r i no_entry is (omega (arith, less, count))))
        ∙ none (get_or r.slots i 0) low

-- ---- a member that is put in front

-- the entries with a member in the last slot, after that was brought to the front
abbrev entries_after : RecentData → ℕ → Member → List ℕ → ℕ → List Member
entries_after r slot m slots used = map (in_slot (set r.members slot m)) (take used slots)

pub put_more : (r : RecentData) (slot : ℕ) (m : Member) (slots : List ℕ) → IsRecent r → r.used < 8 → slot ≡ get_or r.slots 7 0 → slots ≡ brought 7 r.slots → entries_after r slot m slots (r.used + 1) ≡ take 8 (m ∷ cached_entries r)
put_more r slot m slots is room at to =
    rw add-one (ap (λ z. entries_after r slot m z (suc r.used)) to ∙ added r.members r.slots r.used slot m room is.slots is.members at)

pub put_last : (r : RecentData) (slot : ℕ) (m : Member) (slots : List ℕ) → IsRecent r → 8 ≤ r.used → slot ≡ get_or r.slots 7 0 → slots ≡ brought 7 r.slots → entries_after r slot m slots r.used ≡ take 8 (m ∷ cached_entries r)
put_last r slot m slots is full at to =
    let few = is.used in
    ap (λ z. entries_after r slot m z r.used) to ∙ replaced r.members r.slots r.used slot m (omega (arith, few, full)) is.slots is.members at
