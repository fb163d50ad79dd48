-- Which member begins at an address, of members that ascend.
use Rattle.std.proofs.Common.{◌≡◌, ◌≢◌, ℕ, zero, suc, ◌+◌, ◌-◌, ◌<◌, ◌≤◌, ◌⊎◌, inl, inr, ⊎_elim, List, [], ◌∷◌, length, take, drop, get_or, Contains, sym, ap, ◌∙◌, subst, arith, Option, Some, None, IsNone, IsSomeAnd, ne_eqb, refl}
use Rattle.std.specs.List.{AllByRecursion}
use Rattle.std.proofs.lemmas.List.Elements.{Contains-get_or}
use native.Mathlib.Decide.{ℕ_discrete}
use Rattle.reg_model.specs.State.{at_base}
use Rattle.reg_model.specs.declared.span.Member.{Member}
use Rattle.reg_model.specs.declared.answer.Update.TheVariants as update
use Rattle.segment_array.specs.Ascending.{AscendFrom}
use Rattle.word_rule.specs.CallerData.{CallerData, WordsData}
use Rattle.word_rule.specs.Copies.{ListsMembers}
use Rattle.word_rule.specs.Steps.{MayPublish}
use Rattle.word_rule.specs.declared.log.LoaderHolding.{LoaderHolding}
use Rattle.word_rule.specs.declared.log.Terms.{Terms}
use Rattle.array_publish.specs.Holders.{Spells, active_words, member_in, spare_words}
use Rattle.array_publish.specs.Update.{KnowsCopy}
use Rattle.array_publish.specs.Writing.{EndsBelow, EndsFrom, IsWritten}
use Rattle.array_publish.specs.declared.active.ActiveCopy.{ActiveCopy}
use Rattle.array_publish.specs.declared.writing.ListChange.TheVariants.{Take}
use Rattle.array_publish.proofs.Changed.{all_below, all_from, all_to, may_unload}
use Rattle.array_publish.proofs.Overlaps.{ends_listed, from_listed, listed_is}
use Rattle.array_publish.proofs.Works.{Holds, spells_active}

whole : (P : Member → Type 0) (k : ℕ) (xs : List Member) → AllByRecursion P (take k xs) → AllByRecursion P (drop k xs) → AllByRecursion P xs
whole P zero xs a b = b
whole P (suc k) [] a b = tt
whole P (suc k) (x ∷ xs) a b = (a.0, whole P k xs a.1 b)

find_none : (base : ℕ) (xs : List Member) → AllByRecursion (λ x. x.span.first ≢ base) xs → IsNone (at_base base xs)
find_none base [] h = refl
find_none base (x ∷ xs) h = rw (ne_eqb x.span.first base h.0) (find_none base xs h.1)

-- those from a place on begin elsewhere, where the one at it does and ends at or above the address
elsewhere : (low k base : ℕ) (xs : List Member) (d : Member) → AscendFrom low xs → (k ≡ length xs) ⊎ ((base ≤ (get_or xs k d).span.last) × ((get_or xs k d).span.first ≢ base)) → AllByRecursion (λ x. x.span.first ≢ base) (drop k xs)
elsewhere low zero base [] d h begin = tt
elsewhere low zero base (x ∷ xs) d h begin = ⊎_elim (λ (e : 0 ≡ length (x ∷ xs)). absurd (omega (arith, e))) (λ (l : (base ≤ x.span.last) × (x.span.first ≢ base)). let a = l.0 in (l.1, all_to (λ z. base < z.span.first) (λ z. z.span.first ≢ base) (λ z less e. omega (arith, less, e)) xs (all_from (x.span.last + 1) base xs h.2 (omega (arith, a))))) begin
elsewhere low (suc k) base [] d h begin = tt
elsewhere low (suc k) base (x ∷ xs) d h begin = elsewhere (x.span.last + 1) k base xs d h.2 (⊎_elim (λ (e : suc k ≡ length (x ∷ xs)). inl (omega (arith, e))) (λ (l : (base ≤ (get_or xs k d).span.last) × ((get_or xs k d).span.first ≢ base)). inr l) begin)

-- no member begins at an address, where none does at its place
pub none_begins : (k base : ℕ) (xs : List Member) (d : Member) → AscendFrom 0 xs → k ≤ length xs → (k ≡ 0) ⊎ ((get_or xs (k - 1) d).span.last < base) → (k ≡ length xs) ⊎ ((base ≤ (get_or xs k d).span.last) × ((get_or xs k d).span.first ≢ base)) → IsNone (at_base base xs)
none_begins k base xs d h le end begin =
    find_none base xs (whole (λ x. x.span.first ≢ base) k xs
    (all_to (λ x. (x.span.first ≤ x.span.last) × (x.span.last < base)) (λ x. x.span.first ≢ base) (λ x l e. let a = l.0 in let b = l.1 in omega (arith, a, b, e)) (take k xs) (all_below 0 k base xs d h le end))
    (elsewhere 0 k base xs d h begin))

-- the same of what the active copy lists
pub none_listed : (active : List ℕ) (xs : List Member) (n k base : ℕ) (d : Member) → ListsMembers active xs → n ≡ length xs → k ≤ n → EndsBelow active base k → EndsFrom active base n k → (k ≡ n) ⊎ ((member_in active k).span.first ≢ base) → IsNone (at_base base xs)
none_listed active xs n k base d lists len le below above begin =
    none_begins k base xs d lists.ascending (omega (arith, le, len)) (ends_listed active xs base k d lists.stand (omega (arith, le, len)) below) (go (ℕ_discrete k n))
  where
    go : Dec (k ≡ n) → (k ≡ length xs) ⊎ ((base ≤ (get_or xs k d).span.last) × ((get_or xs k d).span.first ≢ base))
    go (yes e) = inl (e ∙ len)
    go (no ne) =
        let same = listed_is active xs k d lists.stand (omega (arith, le, ne, len)) in
        inr (from_listed active xs base n k d lists.stand len (omega (arith, le, ne)) above, ⊎_elim (λ (e : k ≡ n). absurd (ne e)) (λ (l : (member_in active k).span.first ≢ base). subst (λ (m : Member). m.span.first ≢ base) same l) begin)

-- the holder may publish what it wrote
written_held : (t : Terms) (c allowance k n base : ℕ) (d : Member) (xs : List Member) (o : Option LoaderHolding) → IsSomeAnd o (Holds t c) → 0 < allowance → ListsMembers (active_words o) xs → n ≡ length xs → k < n → (get_or xs k d).span.first ≡ base → IsWritten (Take k) (active_words o) (n - 1) (spare_words o) → IsSomeAnd o (MayPublish t allowance (update.Unload base))
written_held t c allowance k n base d xs None h due lists len less is written = absurd h
written_held t c allowance k n base d xs (Some g) h due lists len less is written = may_unload t allowance k n base d xs g due lists len less is written

pub may_publish : (w : WordsData) (a : ActiveCopy) (k3 k4 : CallerData) (place base : ℕ) (knows : KnowsCopy w a k3) → Spells (spare_words k4.log.loader) k3 k4 → IsSomeAnd k4.log.loader (Holds w.terms a.starts.copy) → 0 < k4.log.budget.allowance → place < a.count → (member_in (active_words k3.log.loader) place).span.first ≡ base
    → IsWritten (Take place) (active_words k3.log.loader) (a.count - 1) (spare_words k4.log.loader) → IsSomeAnd k4.log.loader (MayPublish w.terms k4.log.budget.allowance (update.Unload base))
may_publish w a k3 k4 place base knows same held due less is written =
    let xs : List Member = knows.listing.members in
    let lists = knows.listing.lists in
    let d : Member = member_in (active_words k3.log.loader) place in
    let active = spells_active (spare_words k4.log.loader) k3 k4 same in
    let count = knows.count in
    written_held w.terms a.starts.copy k4.log.budget.allowance place a.count base d xs k4.log.loader held due (subst (λ ws. ListsMembers ws xs) (sym active) lists) count less
    (ap (λ (m : Member). m.span.first) (sym (listed_is (active_words k3.log.loader) xs place d lists.stand (omega (arith, less, count)))) ∙ is)
    (subst (λ ws. IsWritten (Take place) ws (a.count - 1) (spare_words k4.log.loader)) (sym active) written)

-- the member at a place is one of those listed
pub member_listed : (w : WordsData) (a : ActiveCopy) (k : CallerData) (knows : KnowsCopy w a k) (place : ℕ) (m : Member) → place < a.count → m ≡ member_in (active_words k.log.loader) place → Contains knows.listing.members m
member_listed w a k knows place m less is =
    let count = knows.count in
    subst (Contains knows.listing.members) (sym (is ∙ listed_is (active_words k.log.loader) knows.listing.members place m knows.listing.lists.stand (omega (arith, less, count)))) (Contains-get_or knows.listing.members place m (omega (arith, less, count)))

pub holder_terms : (w : WordsData) (a : ActiveCopy) (k k' : CallerData) → KnowsCopy w a k → Spells (spare_words k'.log.loader) k k' → k'.log.terms ≡ w.terms
holder_terms w a k k' knows same = ap (λ (z : CallerData). z.log.terms) same.4 ∙ knows.holder.terms
