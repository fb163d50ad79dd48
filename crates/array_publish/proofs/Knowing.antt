-- What the holder of the loader's lock knows of the active copy.
use Rattle.std.proofs.Common.{◌≡◌, ℕ, suc, ◌<◌, ◌≤◌, ◌%◌, ◌↔◌, List, [], ◌∷◌, length, get_or, Contains, sym, refl, ap, ◌∙◌, subst, arith, Some, IfSome, IsSomeAnd, false}
use Rattle.std.specs.List.{AllByRecursion}
use Rattle.std.proofs.lemmas.List.Elements.{Contains-append_right, Contains-get_or}
use Rattle.reg_model.specs.State.{objects}
use Rattle.reg_model.specs.History.{state_after}
use Rattle.reg_model.specs.declared.span.Member.{Member}
use Rattle.reg_model.specs.declared.answer.Update.{Update}
use Rattle.word_rule.specs.declared.log.Ask.TheVariants as ask
use Rattle.word_rule.specs.declared.log.LoaderHolding.{LoaderHolding}
use Rattle.word_rule.specs.declared.log.Terms.{Terms}
use Rattle.word_rule.specs.CallerData.{CallerData, WordsData}
use Rattle.word_rule.specs.Callers.{IsMemberOf, start}
use Rattle.word_rule.specs.Clock.{AfterClock, ClockTells}
use Rattle.word_rule.specs.Copies.{IsBehind, ListsAll, ListsMembers}
use Rattle.word_rule.specs.Places.{copy_words, upper}
use Rattle.word_rule.proofs.Each.{all_with, some_with}
use Rattle.word_rule.proofs.Listings.{ascending_disjoint, disjoint_fit, state_fixed}
use Rattle.array_publish.specs.Holders.{HasStarts, IsHolder, Spells, active_words, member_in, spare_words}
use Rattle.array_publish.proofs.Overlaps.{listed_is}
use Rattle.array_publish.specs.Update.{HoldsCopies, IsClean, KnowsCopy, Works}
use Rattle.array_publish.specs.declared.active.ActiveCopy.{ActiveCopy}
use Rattle.array_publish.specs.declared.active.CopyStarts.{CopyStarts}
use Rattle.array_publish.proofs.Works.{Holds, holder_stays, spells_active}

all_there : (P : Member → Type 0) (xs : List Member) → ((x : Member) → Contains xs x → P x) → AllByRecursion P xs
all_there P [] f = tt
all_there P (x ∷ xs) f = (f x (0, omega arith, refl), all_there P xs (λ z c. f z (suc c.0, (let l = c.1 in omega (arith, l)), c.2)))

module _ (w : WordsData) (k0 k1 k2 : CallerData) (found count : ℕ) (s : CopyStarts) (active : s.copy ≡ upper found % 2) (places : HasStarts w.terms s) (table : k0.table ≡ w.table) (own : HoldsCopies k0.log.terms k0) (one : AfterClock w.terms ask.Nothing found k0.log k1.log) (rest : k1 ≡ record k0 { log = k1.log }) (two : Spells (spare_words k1.log.loader) k1 k2) (is : count ≡ get_or (active_words k1.log.loader) 1 0) where
  lock : (h : LoaderHolding) × ((k0.log.loader ≡ Some h) × ((length h.active ≡ copy_words w.terms) × (length h.spare ≡ copy_words w.terms)))
  lock = some_with k0.log.loader (λ (h : LoaderHolding). (length h.active ≡ copy_words w.terms) × (length h.spare ≡ copy_words w.terms)) (subst (λ (t : Terms). HoldsCopies t k0) one.2.0.terms own)

  tells : ClockTells w.terms found k0.log one.0
  tells = one.2.0

  told : (upper found ≡ lock.0.published) × ListsAll lock.0.active (state_after (start w.terms) one.0).loaded
  told = subst (λ o. IfSome o (λ h. (upper found ≡ h.published) × ListsAll h.active (state_after (start w.terms) one.0).loaded)) lock.1.0 tells.holder

  loader_is : k1.log.loader ≡ Some lock.0
  loader_is = ap (λ v. v.loader) one.2.2 ∙ lock.1.0

  holder1 : IsHolder w s.copy k1
  holder1 = record {
    table = ap (λ k. k.table) rest ∙ table;
    terms = ap (λ v. v.terms) one.2.2 ∙ tells.terms;
    valid = tells.valid;
    one = omega (arith, active);
    holds = subst (λ o. IsSomeAnd o (Holds w.terms s.copy)) (sym loader_is) (ap (λ u. u % 2) (sym told.0) ∙ sym active, lock.1.1.0, lock.1.1.1);
  }

  active_is : active_words k2.log.loader ≡ lock.0.active
  active_is = spells_active (spare_words k1.log.loader) k1 k2 two ∙ ap active_words loader_is

  past_is : k2.log.past ≡ one.0
  past_is = ap (λ k. k.log.past) two.4 ∙ ap (λ v. v.past) one.2.2

  members_known : AllByRecursion (IsMemberOf w.terms) told.1.members
  members_known = all_there (IsMemberOf w.terms) told.1.members (λ x c. all_with (IsMemberOf w.terms) (objects (state_after (start w.terms) one.0)) x tells.members (Contains-append_right (state_after (start w.terms) one.0).fixed (state_after (start w.terms) one.0).loaded x ((told.1.same x).0 c)))

  few : length told.1.members ≤ w.terms.loads
  few =
      let less = disjoint_fit told.1.members (state_after (start w.terms) one.0).loaded (ascending_disjoint 0 told.1.members told.1.lists.ascending) (λ x c. (all_with (IsMemberOf w.terms) told.1.members x members_known c).0) (λ x c. (told.1.same x).0 c) in
      let room = tells.lawful.room in let loads = (state_fixed (start w.terms) one.0).1 in omega (arith, less, room, loads)

  -- and where it stored nothing, that the other one is a publication behind
  pub behind : IsClean k0 → IsBehind w.terms (active_words k0.log.loader) (spare_words k0.log.loader)
  behind clean = subst (λ o. IsBehind w.terms (active_words o) (spare_words o)) (sym lock.1.0)
      (subst (λ o. IfSome o (λ (h : LoaderHolding). h.stored ≡ false → IsBehind w.terms h.active h.spare)) lock.1.0 tells.spare_copy (subst (λ o. IsSomeAnd o (λ (h : LoaderHolding). h.stored ≡ false)) lock.1.0 clean))

  pub knows : KnowsCopy w (record { starts = s; count = count }) k2
  knows = record {
    places = places;
    holder = holder_stays w s.copy (spare_words k1.log.loader) k1 k2 holder1 two (ap (λ o. length (spare_words o)) loader_is ∙ lock.1.1.1);
    listing = record {
      members = told.1.members;
      lists = subst (λ ws. ListsMembers ws told.1.members) (sym active_is) told.1.lists;
      same = λ x. subst (λ (p : List Update). Contains told.1.members x ↔ Contains (state_after (start w.terms) p).loaded x) (sym past_is) (told.1.same x);
    };
    count = is ∙ (ap (λ o. get_or (active_words o) 1 0) loader_is ∙ told.1.lists.count);
    known = members_known;
    room = (let f = few in let e = is ∙ (ap (λ o. get_or (active_words o) 1 0) loader_is ∙ told.1.lists.count) in omega (arith, f, e));
  }

-- one that knows the copy had the terms of the words before it worked
pub terms_before : (w : WordsData) (a : ActiveCopy) (k k' : CallerData) → Works k k' → KnowsCopy w a k' → k.log.terms ≡ w.terms
terms_before w a k k' works knows = sym (ap (λ (z : CallerData). z.log.terms) works.6.1) ∙ knows.holder.terms

pub knows_stays : (w : WordsData) (a : ActiveCopy) (spare : List ℕ) (k k' : CallerData) → KnowsCopy w a k → Spells spare k k' → length spare ≡ copy_words w.terms → KnowsCopy w a k'
knows_stays w a spare k k' h p wide = record {
  holder = holder_stays w a.starts.copy spare k k' h.holder p wide;
  places = h.places;
  listing = record {
    members = h.listing.members;
    lists = subst (λ ws. ListsMembers ws h.listing.members) (sym (spells_active spare k k' p)) h.listing.lists;
    same = λ x. subst (λ (q : List Update). Contains h.listing.members x ↔ Contains (state_after (start w.terms) q).loaded x) (sym (ap (λ z. z.log.past) p.4)) (h.listing.same x);
  };
  count = h.count;
  known = h.known;
  room = h.room;
}

-- each listed member may be made known
pub known_at : (w : WordsData) (a : ActiveCopy) (k : CallerData) (i : ℕ) → KnowsCopy w a k → i < a.count → IsMemberOf w.terms (member_in (active_words k.log.loader) i)
known_at w a k i h less =
    let members : List Member = h.listing.members in
    let d : Member = member_in (active_words k.log.loader) i in
    let count = h.count in
    let inside : i < length members = omega (arith, less, count) in
    subst (IsMemberOf w.terms) (sym (listed_is (active_words k.log.loader) members i d h.listing.lists.stand inside)) (all_with (IsMemberOf w.terms) members (get_or members i d) h.known (Contains-get_or members i d inside))

-- whatever the active copy lists is as many as the holder counted
pub counted_so : (w : WordsData) (a : ActiveCopy) (k : CallerData) (xs : List Member) → KnowsCopy w a k → ListsMembers (active_words k.log.loader) xs → a.count ≡ length xs
counted_so w a k xs h lists = h.count ∙ (sym h.listing.lists.count ∙ lists.count)
