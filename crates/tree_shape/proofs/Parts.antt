-- What the edits of one pair or entry build, from the parts of the list.
use Rattle.std.proofs.Common.{◌≡◌, ℕ, suc, ◌+◌, ◌-◌, ◌<◌, List, [], ◌∷◌, ◌++◌, length, take, drop}
use Rattle.std.proofs.Common.{get_or, ap, sym, ◌∙◌, arith, Some, IsSome}
use Rattle.std.proofs.Math.Numerals.{add-one}
use Rattle.std.proofs.Math.Seq.{drop-cons}
use Rattle.std.proofs.lemmas.List.{append_assoc, append-nil, take_rest}
use Rattle.reg_model.specs.declared.span.Member.{Member}
use Rattle.reg_model.specs.State.{at_base}
use Rattle.reg_model.specs.History.{without}
use Rattle.tree_shape.specs.declared.pair.Pair.{Pair}
use Rattle.tree_shape.specs.NodeData.{EntriesWithin, place_for}
use Rattle.tree_shape.specs.Changes.{at_slot, divide, swallow_next, separate_at, with_entry}
use Rattle.tree_shape.specs.Changes.{ends_at}
use Rattle.tree_shape.proofs.Slots.{at_slot-parts, ends_at-parts, with_entry-parts, at_place}

-- two pairs in place of one
pub divided : (pairs : List Pair) (slot separator child : ℕ) (d : Pair) → slot < length pairs →
    take slot pairs ++ (record { child = (get_or pairs slot d).child; separator = separator } ∷ record { child = child; separator = (get_or pairs slot d).separator } ∷ []) ++ drop (slot + 1) pairs
    ≡ at_slot (divide separator child) slot pairs
divided pairs slot separator child d inside = rw (add-one, append_assoc) (sym (at_slot-parts (divide separator child) slot pairs d inside))

-- one pair in place of two
pub swallowed : (pairs : List Pair) (slot : ℕ) (d : Pair) → slot + 1 < length pairs →
    take slot pairs ++ (record { child = (get_or pairs slot d).child; separator = (get_or pairs (slot + 1) d).separator } ∷ []) ++ drop (slot + 2) pairs
    ≡ at_slot swallow_next slot pairs
swallowed pairs slot d inside =
    let next : drop (suc slot) pairs ≡ get_or pairs (suc slot) d ∷ drop (suc (suc slot)) pairs = drop-cons pairs (suc slot) d (omega arith) in
    let two : slot + 2 ≡ suc (suc slot) = omega arith in
    rw (add-one, two, append_assoc) (sym (at_slot-parts swallow_next slot pairs d (omega arith) ∙ ap (λ rest. take slot pairs ++ swallow_next (get_or pairs slot d) rest) next))

-- one pair in place of another
pub separated : (pairs : List Pair) (slot separator : ℕ) (d : Pair) → slot < length pairs →
    take slot pairs ++ (record { child = (get_or pairs slot d).child; separator = separator } ∷ []) ++ drop (slot + 1) pairs
    ≡ at_slot (separate_at separator) slot pairs
separated pairs slot separator d inside = rw (add-one, append_assoc) (sym (at_slot-parts (separate_at separator) slot pairs d inside))

-- one entry more
pub put_in : (m : Member) (entries : List Member) (k : ℕ) → k ≡ place_for m.span.first entries →
    take k entries ++ (m ∷ []) ++ take (length entries - k) (drop k entries) ≡ with_entry m entries
put_in m entries k at = rw (take_rest, append_assoc, at) (sym (with_entry-parts m entries))

-- one entry less
pub taken : (base low high : ℕ) (entries : List Member) (k : ℕ) → EntriesWithin low high entries → IsSome (at_base base entries) → k ≡ place_for base entries →
    take (k - 1) entries ++ [] ++ take (length entries - (k - 1 + 1)) (drop (k - 1 + 1) entries) ≡ without base entries
taken base low high entries k within held at =
    let found = at_place base low high entries within held in
    let before : k - 1 ≡ found.0 = omega (arith, found.1.place) in
    let upto : k - 1 + 1 ≡ suc found.0 = omega (arith, found.1.place) in
    rw (upto, take_rest, before, append-nil) (sym found.1.others)

pub taken_at : (base low high : ℕ) (entries : List Member) (k : ℕ) (d : Member) → EntriesWithin low high entries → IsSome (at_base base entries) → k ≡ place_for base entries →
    at_base base entries ≡ Some (get_or entries (k - 1) d)
taken_at base low high entries k d within held at =
    let found = at_place base low high entries within held in
    let before : k - 1 ≡ found.0 = omega (arith, found.1.place) in
    rw (before) (found.1.there d)

pub place_above : (base low high : ℕ) (entries : List Member) (k : ℕ) → EntriesWithin low high entries → IsSome (at_base base entries) → k ≡ place_for base entries → 0 < k
place_above base low high entries k within held at =
    let found = at_place base low high entries within held in omega (arith, found.1.place)

-- the last pair raised
pub raised : (fence : ℕ) (pairs : List Pair) (d : Pair) → 0 < length pairs →
    take (length pairs - 1) pairs ++ (record { child = (get_or pairs (length pairs - 1) d).child; separator = fence } ∷ []) ++ [] ≡ ends_at fence pairs
raised fence pairs d some =
    let len : length pairs ≡ suc (length pairs - 1) = omega arith in
    rw append-nil (sym (ends_at-parts fence pairs (length pairs - 1) d len))
