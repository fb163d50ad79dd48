-- The search of a copy: what the words that were loaded say of its members.
use Rattle.std.proofs.Common.{◌≡◌, ℕ, ◌+◌, ◌*◌, ◌-◌, ◌/◌, ◌%◌, ◌<◌, ◌≤◌, ◌⊎◌, inl, inr, ⊎_elim, List, [], ◌∷◌, length, get_or, min, sym, refl, ap, ◌∙◌, subst, arith, nat_le, Bool, ◌&&◌, true, false, Option, Some, None, if◌then◌else◌}
use Rattle.std.specs.Option.{option_or}
use Rattle.std.proofs.lemmas.List.Folds.{find-append}
use Rattle.std.proofs.lemmas.Bool.{le-leb}
use native.Mathlib.Decide.{ℕ_discrete, dec_le}
use borrow.Author.Tests.{lt-leb}
use Rattle.reg_model.specs.SpanData.{contains}
use Rattle.reg_model.specs.Query.{member_at}
use Rattle.reg_model.specs.declared.span.Member.{Member}
use Rattle.segment_array.specs.Ascending.{AscendFrom}
use Rattle.word_rule.specs.declared.log.Terms.{Terms}
use Rattle.word_rule.specs.CallerData.{CallerData}
use Rattle.word_rule.specs.Copies.{AreOfCopy, ListsMembers, StandFrom}
use Rattle.word_rule.specs.Places.{member_place}
use Rattle.array_publish.specs.CopyLoads.{LoadsCopy, IsTold, sight_words}
use Rattle.array_publish.specs.Search.{CountsBegun, AreEnds, IsNarrowed, IsLastBegun, IsObjectAt, SeriesAscends, listed_member, others, series_word}
use Rattle.array_publish.specs.declared.search.LastBegun.{LastBegun}
use Rattle.array_publish.specs.declared.search.SegmentStart.{SegmentStart}
use Rattle.array_publish.specs.declared.search.Series.{Series}
use Rattle.array_publish.specs.declared.copies.Listed.{Listed}
use Rattle.array_publish.proofs.CopyWalks.{told_later, between_later}
use Rattle.segment_array.proofs.Places.{none_above, unheld_above, unheld_below}

-- ---- what a copy lists

and_no : (a b : Bool) → b ≡ false → (a && b) ≡ false
and_no true b e = e
and_no false b e = refl

-- the word with which a member begins is at least where they all begin
begins_from : (words : List ℕ) (i b low : ℕ) (members : List Member) → AscendFrom low members → StandFrom words i members → i ≤ b → b < i + length members → low ≤ get_or words (member_place b) 0
begins_from words i b low [] h stand le less = absurd (omega (arith, le, less))
begins_from words i b low (m ∷ members) h stand le less = go (ℕ_discrete i b) (begins_from words (i + 1) b (m.span.last + 1) members h.2 stand.3)
  where
    go : Dec (i ≡ b) → (i + 1 ≤ b → b < i + 1 + length members → m.span.last + 1 ≤ get_or words (member_place b) 0) → low ≤ get_or words (member_place b) 0
    go (yes e) rest = let first : get_or words (member_place b) 0 ≡ m.span.first = ap (λ j. get_or words (member_place j) 0) (sym e) ∙ stand.0 in let a = h.0 in omega (arith, first, a)
    go (no ne) rest = let r = rest (omega (arith, le, ne)) (omega (arith, less)) in let a = h.0 in let b = h.1 in omega (arith, r, a, b)

-- members begin in the order of their numbers
begin_in_order : (words : List ℕ) (i a b low : ℕ) (members : List Member) → AscendFrom low members → StandFrom words i members → i ≤ a → a ≤ b → b < i + length members → get_or words (member_place a) 0 ≤ get_or words (member_place b) 0
begin_in_order words i a b low [] h stand from order less = absurd (omega (arith, from, order, less))
begin_in_order words i a b low (m ∷ members) h stand from order less = go (ℕ_discrete i a) (ℕ_discrete i b) (begin_in_order words (i + 1) a b (m.span.last + 1) members h.2 stand.3)
  where
    go : Dec (i ≡ a) → Dec (i ≡ b) → (i + 1 ≤ a → a ≤ b → b < i + 1 + length members → get_or words (member_place a) 0 ≤ get_or words (member_place b) 0) → get_or words (member_place a) 0 ≤ get_or words (member_place b) 0
    go (yes e) (yes f) rest = subst (λ j. get_or words (member_place a) 0 ≤ get_or words (member_place j) 0) (sym e ∙ f) (omega arith)
    go (yes e) (no nf) rest =
        let first : get_or words (member_place a) 0 ≡ m.span.first = ap (λ j. get_or words (member_place j) 0) (sym e) ∙ stand.0 in
        let later = begins_from words (i + 1) b (m.span.last + 1) members h.2 stand.3 (omega (arith, from, order, nf)) (omega (arith, less)) in
        let ordered = h.1 in omega (arith, first, later, ordered)
    go (no ne) f rest = rest (omega (arith, from, ne)) order (omega (arith, less))

-- a series of words with which members begin
series_ascends : (copy : List ℕ) (members : List Member) (s : Series) (number : ℕ → ℕ) → ListsMembers copy members → ((i j : ℕ) → i ≤ j → number i ≤ number j) → ((i : ℕ) → i < s.length → (s.place + s.apart * i ≡ member_place (number i)) × (number i < length members)) → SeriesAscends copy s
series_ascends copy members s number lists up at i j le less =
    let a = at i (omega (arith, le, less)) in let b = at j less in let inside = b.1 in
    let order = begin_in_order copy 0 (number i) (number j) 0 members lists.ascending lists.stand (omega arith) (up i j le) (omega (arith, inside)) in
    let one : series_word copy s i ≡ get_or copy (member_place (number i)) 0 = ap (λ p. get_or copy p 0) a.0 in
    let other : series_word copy s j ≡ get_or copy (member_place (number j)) 0 = ap (λ p. get_or copy p 0) b.0 in omega (arith, one, other, order)

-- ---- the three counts

-- so many of a series are at or below the address: the last member that is begins between the two
-- that are next to each other there
narrowed : (copy : List ℕ) (pc count low high : ℕ) (s : Series) (n lower upper : ℕ) → AreEnds copy pc count low high → ((n ≡ 0) ⊎ (series_word copy s (n - 1) ≤ pc)) × ((n ≡ s.length) ⊎ (pc < series_word copy s n)) → n ≤ s.length
    → (n ≡ 0 → lower ≡ low) → (0 < n → s.place + s.apart * (n - 1) ≡ member_place lower) → (n ≡ s.length → (upper ≡ high) ⊎ (count ≤ upper)) → (n < s.length → s.place + s.apart * n ≡ member_place upper) → AreEnds copy pc count lower upper
narrowed copy pc count low high s n lower upper ends counted most none some all more = (from (ℕ_discrete n 0), before (ℕ_discrete n s.length))
  where
    from : Dec (n ≡ 0) → (lower ≡ 0) ⊎ (get_or copy (member_place lower) 0 ≤ pc)
    from (yes e) = subst (λ l. (l ≡ 0) ⊎ (get_or copy (member_place l) 0 ≤ pc)) (sym (none e)) ends.0
    from (no ne) = ⊎_elim (λ (z : n ≡ 0). absurd (ne z)) (λ (z : series_word copy s (n - 1) ≤ pc). inr (subst (λ p. get_or copy p 0 ≤ pc) (some (omega (arith, ne))) z)) counted.0

    before : Dec (n ≡ s.length) → (count ≤ upper) ⊎ (pc < get_or copy (member_place upper) 0)
    before (yes e) = ⊎_elim (λ (z : upper ≡ high). subst (λ u. (count ≤ u) ⊎ (pc < get_or copy (member_place u) 0)) (sym z) ends.1) (λ (z : count ≤ upper). inl z) (all e)
    before (no ne) = ⊎_elim (λ (z : n ≡ s.length). absurd (ne z)) (λ (z : pc < series_word copy s n). inr (subst (λ p. pc < get_or copy p 0) (more (omega (arith, ne, most))) z)) counted.1

abbrev pub eights : ℕ → Series
eights last = record { place = 404; apart = 400; length = last / 128 }

abbrev pub seven_after : ℕ → ℕ → Series
seven_after last e = record { place = 4 + 400 * e + 50; apart = 50; length = min ((last - 128 * e) / 16) 7 }

-- the segment, where its first member has number `low`
pub by_segments : (t : Terms) (c : ℕ) (k : CallerData) (pc last e o low : ℕ) → CountsBegun t c k pc (eights last) (last / 128) e → e ≤ last / 128 → CountsBegun t c k pc (seven_after last e) (min ((last - 128 * e) / 16) 7) o → o ≤ min ((last - 128 * e) / 16) 7 → low ≡ 128 * e + 16 * o → IsNarrowed t c k pc (last + 1) low (low + 16)
by_segments t c k pc last e o low one few two less is copy members agrees lists len =
    narrowed copy pc (last + 1) (128 * e) (128 * (e + 1)) (seven_after last e) o low (low + 16) by_eights (two copy agrees ascends) less (λ z. omega (arith, z, is)) (λ pos. omega (arith, pos, is, less)) (all (dec_le 7 ((last - 128 * e) / 16))) (λ more. omega (arith, more, is, less))
  where
    by_eights : AreEnds copy pc (last + 1) (128 * e) (128 * (e + 1))
    by_eights = narrowed copy pc (last + 1) 0 (last + 1) (eights last) e (128 * e) (128 * (e + 1)) (inl refl, inl (omega arith)) (one copy agrees (series_ascends copy members (eights last) (λ i. 128 * (i + 1)) lists (λ i j le. omega (arith, le)) (λ i inside. (omega arith, omega (arith, inside, len))))) few
        (λ z. omega (arith, z)) (λ pos. omega (arith, pos)) (λ z. inr (omega (arith, z))) (λ more. omega arith)

    ascends : SeriesAscends copy (seven_after last e)
    ascends = series_ascends copy members (seven_after last e) (λ i. 128 * e + 16 * (i + 1)) lists (λ i j le. omega (arith, le)) (λ i inside. (omega arith, omega (arith, inside, len, few)))

    all : Dec (7 ≤ (last - 128 * e) / 16) → o ≡ min ((last - 128 * e) / 16) 7 → (low + 16 ≡ 128 * (e + 1)) ⊎ (last + 1 ≤ low + 16)
    all (yes full) z = inl (omega (arith, full, z, is))
    all (no short) z = inr (omega (arith, short, z, is, few))

-- the member, where its segment's first one has number `low`
pub by_members : (t : Terms) (c : ℕ) (k : CallerData) (pc count : ℕ) (s : SegmentStart) (low n : ℕ) → IsNarrowed t c k pc count low (low + 16) → low % 16 ≡ 0 → s.place ≡ member_place low → count ≡ low + s.after + 1 → CountsBegun t c k pc (others s) (min s.after 15) n → n ≤ min s.after 15 → IsNarrowed t c k pc count (low + n) (low + n + 1)
by_members t c k pc count s low n between whole place is begun few copy members agrees lists len =
    narrowed copy pc count low (low + 16) (others s) n (low + n) (low + n + 1) (between copy members agrees lists len) (begun copy agrees ascends) few (λ z. omega (arith, z)) (λ pos. omega (arith, pos, place, whole, few)) (all (dec_le 15 s.after)) (λ more. omega (arith, more, place, whole))
  where
    ascends : SeriesAscends copy (others s)
    ascends = series_ascends copy members (others s) (λ i. low + (i + 1)) lists (λ i j le. omega (arith, le)) (λ i inside. (omega (arith, inside, place, whole), omega (arith, inside, len, is)))

    all : Dec (15 ≤ s.after) → n ≡ min s.after 15 → (low + n + 1 ≡ low + 16) ⊎ (count ≤ low + n + 1)
    all (yes full) z = inl (omega (arith, full, z))
    all (no short) z = inr (omega (arith, short, z, is))

-- the place that both counts lead to, and what is known there after one more load
pub found_last : (t : Terms) (c : ℕ) (k1 k2 k3 : CallerData) (pc count : ℕ) (s : SegmentStart) (n : ℕ) → 0 < count → s.after ≤ count - 1 → (count - 1 - s.after) % 16 ≡ 0 → s.place ≡ member_place (count - 1 - s.after) → IsNarrowed t c k1 pc (count - 1 + 1) (count - 1 - s.after) (count - 1 - s.after + 16) → LoadsCopy t c k1 k2 → n ≤ min s.after 15 → CountsBegun t c k2 pc (others s) (min s.after 15) n → LoadsCopy t c k2 k3
    → (s.place + 3 * n ≡ member_place (count - 1 - s.after + n)) × IsNarrowed t c k3 pc count (count - 1 - s.after + n) (count - 1 - s.after + n + 1)
found_last t c k1 k2 k3 pc count s n some after whole place between one inside begun two =
    let low : ℕ = count - 1 - s.after in
    let same : count - 1 + 1 ≡ count = omega (arith, some) in (
      omega (arith, place, whole, inside),
      between_later t c k2 k3 pc count (low + n) (low + n + 1) two
          (by_members t c k2 pc count s low n (subst (λ m. IsNarrowed t c k2 pc m low (low + 16)) same (between_later t c k1 k2 pc (count - 1 + 1) low (low + 16) one between)) whole place (omega (arith, some, after)) begun inside),
    )

-- where even that one begins above the address, all do
pub none_begun : (t : Terms) (c : ℕ) (k : CallerData) (pc count index place first : ℕ) → IsNarrowed t c k pc count index (index + 1) → place ≡ member_place index → IsTold t c k place first → pc < first → IsNarrowed t c k pc count 0 0
none_begun t c k pc count index place first between at told above copy members agrees lists len =
    let is : get_or copy (member_place index) 0 ≡ first = ap (λ p. get_or copy p 0) (sym at) ∙ told copy agrees in
    (inl refl, ⊎_elim (λ (z : index ≡ 0). inr (subst (λ i. pc < get_or copy (member_place i) 0) z (omega (arith, is, above)))) (λ (z : get_or copy (member_place index) 0 ≤ pc). absurd (omega (arith, is, above, z))) (between copy members agrees lists len).0)

pub nothing_listed : (t : Terms) (c : ℕ) (k : CallerData) (pc count : ℕ) → count ≡ 0 → IsNarrowed t c k pc count 0 0
nothing_listed t c k pc count none copy members agrees lists len = (inl refl, inl (omega (arith, none)))

-- where the first of them begins above the address, none contains it
pub none_from : (words : List ℕ) (i pc low : ℕ) (members : List Member) → AscendFrom low members → StandFrom words i members → (length members ≡ 0) ⊎ (pc < get_or words (member_place i) 0) → member_at pc members ≡ None
none_from words i pc low [] h stand above = refl
none_from words i pc low (m ∷ members) h stand above = ⊎_elim (λ (e : length (m ∷ members) ≡ 0). absurd (omega (arith, e)))
    (λ (less : pc < get_or words (member_place i) 0). let first = stand.0 in let b = h.1 in rw (unheld_above m pc (omega (arith, less, first))) (none_above pc (m.span.last + 1) members h.2 (omega (arith, less, first, b)))) above

-- what the words of the b-th member say of it
abbrev said : List ℕ → ℕ → Member
said words b = record { span = record { first = get_or words (member_place b) 0; last = get_or words (member_place b + 1) 0 }; payload = get_or words (member_place b + 2) 0 }

-- the last member that begins at or below the address contains it, or none does
pub last_contains : (words : List ℕ) (i b low pc : ℕ) (members : List Member) → AscendFrom low members → StandFrom words i members → i ≤ b → b < i + length members → get_or words (member_place b) 0 ≤ pc
    → (b + 1 ≡ i + length members) ⊎ (pc < get_or words (member_place (b + 1)) 0) → member_at pc members ≡ (if nat_le pc (get_or words (member_place b + 1) 0) then Some (said words b) else None)
last_contains words i b low pc [] h stand le less at above = absurd (omega (arith, le, less))
last_contains words i b low pc (m ∷ members) h stand le less at above = go (ℕ_discrete i b) (last_contains words (i + 1) b (m.span.last + 1) pc members h.2 stand.3)
  where
    is_said : m ≡ said words i
    is_said j = record { span = record { first = sym stand.0 j; last = sym stand.1 j }; payload = sym stand.2 j }

    go : Dec (i ≡ b) → (i + 1 ≤ b → b < i + 1 + length members → get_or words (member_place b) 0 ≤ pc → (b + 1 ≡ i + 1 + length members) ⊎ (pc < get_or words (member_place (b + 1)) 0) → member_at pc members ≡ (if nat_le pc (get_or words (member_place b + 1) 0) then Some (said words b) else None))
        → member_at pc (m ∷ members) ≡ (if nat_le pc (get_or words (member_place b + 1) 0) then Some (said words b) else None)
    go (yes e) rest =
        let first = stand.0 in
        let low_enough : get_or words (member_place i) 0 ≤ pc = subst (λ j. get_or words (member_place j) 0 ≤ pc) (sym e) at in
        let others : member_at pc members ≡ None = none_from words (i + 1) pc (m.span.last + 1) members h.2 stand.3
        (⊎_elim (λ (z : b + 1 ≡ i + length (m ∷ members)). inl (omega (arith, z, e))) (λ (z : pc < get_or words (member_place (b + 1)) 0). inr (subst (λ j. pc < get_or words (member_place (j + 1)) 0) (sym e) z)) above) in
        let starts : nat_le m.span.first pc ≡ true = le-leb m.span.first pc (omega (arith, first, low_enough)) in
        let here : member_at pc (m ∷ members) ≡ (if nat_le pc m.span.last then Some m else None) = rw (starts, others) refl in
        here ∙ (ap (λ (z : Member). if nat_le pc z.span.last then Some z else None) is_said ∙ ap (λ j. if nat_le pc (get_or words (member_place j + 1) 0) then Some (said words j) else None) e)
    go (no ne) rest =
        let from = begins_from words (i + 1) b (m.span.last + 1) members h.2 stand.3 (omega (arith, le, ne)) (omega (arith, less)) in
        rw (unheld_below m pc (omega (arith, from, at))) (rest (omega (arith, le, ne)) (omega (arith, less)) at (⊎_elim (λ (z : b + 1 ≡ i + length (m ∷ members)). inl (omega (arith, z))) (λ (z : pc < get_or words (member_place (b + 1)) 0). inr z) above))

-- ---- what was loaded tells it of every copy

module _ (t : Terms) (c : ℕ) (k : CallerData) (pc count value : ℕ) (told : IsTold t c k 1 value) (is : count ≡ min value t.loads) where
  counted : (copy : List ℕ) (members : List Member) → AreOfCopy t c copy (sight_words k.log.sights.copies) → ListsMembers copy members → length members ≤ t.loads → count ≡ length members
  counted copy members agrees lists few = let a = told copy agrees in let b = lists.count in omega (arith, is, a, b, few)

  pub none_listed : IsNarrowed t c k pc count 0 0 → IsObjectAt t c k [] pc None
  none_listed h copy members agrees lists few =
      let n = counted copy members agrees lists few in
      none_from copy 0 pc 0 members lists.ascending lists.stand (⊎_elim (λ (e : count ≤ 0). inl (omega (arith, e, n))) (λ (l : pc < get_or copy (member_place 0) 0). inr l) (h copy members agrees lists n).1)

  module _ (b : LastBegun) (begun : IsLastBegun t c k pc count (Some b)) (last : ℕ) (told_last : IsTold t c k (b.place + 1) last) where
    abbrev index : ℕ
    index = begun.0

    said_at : (copy : List ℕ) (d value : ℕ) → get_or copy (b.place + d) 0 ≡ value → get_or copy (member_place index + d) 0 ≡ value
    said_at copy d value e = ap (λ p. get_or copy (p + d) 0) (sym begun.1) ∙ e

    first_at : (copy : List ℕ) → AreOfCopy t c copy (sight_words k.log.sights.copies) → get_or copy (member_place index) 0 ≡ b.first
    first_at copy agrees = ap (λ p. get_or copy p 0) (sym begun.1) ∙ begun.4 copy agrees

    by_last : (copy : List ℕ) (members : List Member) → AreOfCopy t c copy (sight_words k.log.sights.copies) → ListsMembers copy members → length members ≤ t.loads → member_at pc members ≡ (if nat_le pc (get_or copy (member_place index + 1) 0) then Some (said copy index) else None)
    by_last copy members agrees lists few =
        let n = counted copy members agrees lists few in
        let first = first_at copy agrees in let low = begun.3 in let inside = begun.2 in
        last_contains copy 0 index 0 pc members lists.ascending lists.stand (omega arith) (omega (arith, inside, n)) (omega (arith, first, low))
        (⊎_elim (λ (e : count ≤ index + 1). inl (omega (arith, e, inside, n))) (λ (l : pc < get_or copy (member_place (index + 1)) 0). inr l) (begun.5 copy members agrees lists n).1)

    pub ends_below : last < pc → IsObjectAt t c k [] pc None
    ends_below less copy members agrees lists few =
        let e = said_at copy 1 last (told_last copy agrees) in
        by_last copy members agrees lists few ∙ rw (lt-leb pc (get_or copy (member_place index + 1) 0) (omega (arith, e, less))) refl

    pub is_listed : pc ≤ last → (payload : ℕ) → IsTold t c k (b.place + 2) payload → IsObjectAt t c k [] pc (Some (record { first = b.first; last = last; payload = payload }))
    is_listed le payload told_payload copy members agrees lists few =
        let first = first_at copy agrees in let e = said_at copy 1 last (told_last copy agrees) in let p = said_at copy 2 payload (told_payload copy agrees) in
        by_last copy members agrees lists few ∙ (rw (le-leb pc (get_or copy (member_place index + 1) 0) (omega (arith, e, le))) refl
        ∙ (λ j. Some (record { span = record { first = first j; last = e j }; payload = p j })))

pub begun_later : (t : Terms) (c : ℕ) (k k' : CallerData) (pc count : ℕ) (o : Option LastBegun) → LoadsCopy t c k k' → IsLastBegun t c k pc count o → IsLastBegun t c k' pc count o
begun_later t c k k' pc count None p h = between_later t c k k' pc count 0 0 p h
begun_later t c k k' pc count (Some b) p h = (h.0, h.1, h.2, h.3, told_later t c k k' b.place b.first p h.4, between_later t c k k' pc count h.0 (h.0 + 1) p h.5)

-- ---- the fixed members before those of a copy

pub fixed_first : (t : Terms) (c : ℕ) (k : CallerData) (fixed : List Member) (pc : ℕ) (m : Member) (l : Listed) → Some m ≡ member_at pc fixed → listed_member l ≡ m → IsObjectAt t c k fixed pc (Some l)
fixed_first t c k fixed pc m l found is copy members agrees lists few =
    find-append (λ (x : Member). contains x.span pc) fixed members ∙ (ap (λ o. option_or o (member_at pc members)) (sym found) ∙ ap Some (sym is))

pub then_listed : (t : Terms) (c : ℕ) (k : CallerData) (fixed : List Member) (pc : ℕ) (o : Option Listed) → None ≡ member_at pc fixed → IsObjectAt t c k [] pc o → IsObjectAt t c k fixed pc o
then_listed t c k fixed pc o none listed copy members agrees lists few =
    find-append (λ (x : Member). contains x.span pc) fixed members ∙ (ap (λ z. option_or z (member_at pc members)) (sym none) ∙ listed copy members agrees lists few)
