-- The entries among the slots, after one was brought to the front or put there.
use Rattle.std.proofs.Common.{◌≡◌, ◌≢◌, ℕ, zero, suc, ◌<◌, ◌≤◌, List, [], ◌∷◌, length, map, take, get_or, set, length-take-le, sym, refl, ap, ◌∙◌, arith, true, false, Some, None}
use Rattle.std.proofs.lemmas.List.{length-map, take-map, take-take, take_all, get_or-map, get_or-take, get_or-set_same, get_or-set_other}
use Rattle.std.specs.List.{AllByRecursion}
use Rattle.reg_model.specs.Query.{member_at}
use Rattle.reg_model.specs.SpanData.{contains}
use Rattle.reg_model.specs.declared.span.Member.{Member}
use Rattle.frame_cache.specs.CacheData.{but_found}
use Rattle.frame_cache.specs.Order.{AreSlots, but_nth, brought}
use Rattle.frame_cache.specs.Recent.{in_slot, no_entry}
use Rattle.frame_cache.proofs.Places.{all_at, apart_at}

-- the slot of a place is one of the eight
pub slot_low : (slots : List ℕ) (place : ℕ) → AreSlots slots → place < 8 → get_or slots place 0 < 8
slot_low slots place s within =
    let count = s.count in
    all_at (λ slot. slot < 8) slots place 0 (omega (arith, count, within)) s.inside

-- a member is read through its place among the slots
pub entry_read : (members : List Member) (slots : List ℕ) (used place : ℕ) → place < used → used ≤ length slots → get_or (map (in_slot members) (take used slots)) place no_entry ≡ in_slot members (get_or slots place 0)
entry_read members slots used place within room =
    let count = length-take-le used slots room in
    get_or-map (in_slot members) (take used slots) place 0 no_entry (omega (arith, within, count)) ∙ ap (in_slot members) (get_or-take used slots place 0 within)

pub entry_count : (members : List Member) (slots : List ℕ) (used : ℕ) → used ≤ length slots → length (map (in_slot members) (take used slots)) ≡ used
entry_count members slots used room = length-map (take used slots) (in_slot members) ∙ length-take-le used slots room

take_but : {A : Type 0} (xs : List A) (n p : ℕ) → p ≤ n → take n (but_nth p xs) ≡ but_nth p (take (suc n) xs)
take_but [] zero p less = refl
take_but [] (suc n) p less = refl
take_but (x ∷ xs) n zero less = refl
take_but (x ∷ xs) zero (suc p) less = absurd (omega (arith, less))
take_but (x ∷ xs) (suc n) (suc p) less = ap (λ z. x ∷ z) (take_but xs n p (omega (arith, less)))

take_before : {A : Type 0} (xs : List A) (n p : ℕ) → n ≤ p → take n (but_nth p xs) ≡ take n xs
take_before xs zero p less = refl
take_before [] (suc n) p less = refl
take_before (x ∷ xs) (suc n) zero less = absurd (omega (arith, less))
take_before (x ∷ xs) (suc n) (suc p) less = ap (λ z. x ∷ z) (take_before xs n p (omega (arith, less)))

map_but : {A B : Type 0} (f : A → B) (xs : List A) (p : ℕ) → map f (but_nth p xs) ≡ but_nth p (map f xs)
map_but f [] p = refl
map_but f (x ∷ xs) zero = refl
map_but f (x ∷ xs) (suc p) = ap (λ z. f x ∷ z) (map_but f xs p)

-- an entry that is brought to the front
pub touched : (members : List Member) (slots : List ℕ) (used place : ℕ) → place < used → used ≤ length slots → map (in_slot members) (take used (brought place slots)) ≡ get_or (map (in_slot members) (take used slots)) place no_entry ∷ but_nth place (map (in_slot members) (take used slots))
touched members slots zero place within room = absurd (omega (arith, within))
touched members slots (suc n) place within room =
    ap (λ z. in_slot members (get_or slots place 0) ∷ z) (ap (map (in_slot members)) (take_but slots n place (omega (arith, within))) ∙ map_but (in_slot members) (take (suc n) slots) place)
    ∙ ap (λ m. m ∷ but_nth place (map (in_slot members) (take (suc n) slots))) (sym (entry_read members slots (suc n) place within room))

-- what stands in other slots stays
others_stay : (members : List Member) (slots : List ℕ) (slot : ℕ) (m : Member) → AllByRecursion (λ y. y ≢ slot) slots → map (in_slot (set members slot m)) slots ≡ map (in_slot members) slots
others_stay members [] slot m h = refl
others_stay members (x ∷ xs) slot m h = ap (λ z. z ∷ map (in_slot (set members slot m)) xs) (get_or-set_other members slot x m no_entry h.0) ∙ ap (λ z. in_slot members x ∷ z) (others_stay members xs slot m h.1)

all_take : {A : Type 0} (P : A → Type 0) (n : ℕ) (xs : List A) → AllByRecursion P xs → AllByRecursion P (take n xs)
all_take P zero xs h = tt
all_take P (suc n) [] h = tt
all_take P (suc n) (x ∷ xs) h = (h.0, all_take P n xs h.1)

-- one that is put in front of the first n
put : (members : List Member) (slots : List ℕ) (n place slot : ℕ) (m : Member) → n ≤ place → place < length slots → AreSlots slots → slot < length members → slot ≡ get_or slots place 0 → map (in_slot (set members slot m)) (take (suc n) (brought place slots)) ≡ m ∷ map (in_slot members) (take n slots)
put members slots n place slot m behind within s low is =
    let apart : AllByRecursion (λ y. y ≢ slot) (but_nth place slots) = rw is (apart_at slots place within s.apart) in
    let first : in_slot (set members slot m) (get_or slots place 0) ≡ m = ap (in_slot (set members slot m)) (sym is) ∙ get_or-set_same members slot m no_entry low in
    ap (λ z. z ∷ map (in_slot (set members slot m)) (take n (but_nth place slots))) first
    ∙ ap (λ z. m ∷ z) (others_stay members (take n (but_nth place slots)) slot m (all_take (λ y. y ≢ slot) n (but_nth place slots) apart) ∙ ap (map (in_slot members)) (take_before slots n place behind))

-- where there is room for one more
pub added : (members : List Member) (slots : List ℕ) (used slot : ℕ) (m : Member) → used < 8 → AreSlots slots → length members ≡ 8 → slot ≡ get_or slots 7 0 → map (in_slot (set members slot m)) (take (suc used) (brought 7 slots)) ≡ take 8 (m ∷ map (in_slot members) (take used slots))
added members slots used slot m room s count is =
    let slots_count = s.count in
    let low = slot_low slots 7 s (omega arith) in
    let n = entry_count members slots used (omega (arith, room, slots_count)) in
    put members slots used 7 slot m (omega (arith, room)) (omega (arith, slots_count)) s (omega (arith, low, count, is)) is
    ∙ ap (λ z. m ∷ z) (sym (take_all 7 (map (in_slot members) (take used slots)) (omega (arith, n, room))))

-- where there is none
pub replaced : (members : List Member) (slots : List ℕ) (used slot : ℕ) (m : Member) → used ≡ 8 → AreSlots slots → length members ≡ 8 → slot ≡ get_or slots 7 0 → map (in_slot (set members slot m)) (take used (brought 7 slots)) ≡ take 8 (m ∷ map (in_slot members) (take used slots))
replaced members slots used slot m full s count is =
    let slots_count = s.count in
    let low = slot_low slots 7 s (omega arith) in
    ap (λ n. map (in_slot (set members slot m)) (take n (brought 7 slots))) full
    ∙ (put members slots 7 7 slot m (omega arith) (omega (arith, slots_count)) s (omega (arith, low, count, is)) is
    ∙ ap (λ z. m ∷ z) (ap (map (in_slot members)) (sym (take-take 7 used slots (omega (arith, full)))) ∙ sym (take-map (in_slot members) 7 (take used slots))))

-- ---- a search

-- the entry at a place contains the address, and none before it does
pub found_at : (pc : ℕ) (members : List Member) (place : ℕ) (d : Member) → place < length members → ((i : ℕ) → i < place → contains (get_or members i d).span pc ≡ false) → contains (get_or members place d).span pc ≡ true → (member_at pc members ≡ Some (get_or members place d)) × (but_nth place members ≡ but_found pc members)
found_at pc [] place d within before here = absurd (omega (arith, within))
found_at pc (m ∷ members) zero d within before here = (rw here refl, rw here refl)
found_at pc (m ∷ members) (suc place) d within before here =
    let no_first : contains m.span pc ≡ false = before 0 (omega arith) in
    let rest = found_at pc members place d (omega (arith, within)) (λ i less. before (suc i) (omega (arith, less))) here in
    (rw no_first rest.0, rw no_first (ap (λ z. m ∷ z) rest.1))

-- no entry does
pub found_none : (pc : ℕ) (members : List Member) (d : Member) → ((i : ℕ) → i < length members → contains (get_or members i d).span pc ≡ false) → member_at pc members ≡ None
found_none pc [] d all = refl
found_none pc (m ∷ members) d all =
    let no_first : contains m.span pc ≡ false = all 0 (omega arith) in
    rw no_first (found_none pc members d (λ i less. all (suc i) (omega (arith, less))))
