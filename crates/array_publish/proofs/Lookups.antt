-- A lookup of the loader's half, from its two loads of the clock and what was loaded between them.
use Rattle.std.proofs.Common.{◌≡◌, ◌≢◌, ℕ, zero, suc, ◌+◌, ◌≤◌, ◌%◌, List, [], ◌∷◌, ◌++◌, length, take_all, Contains, ◌↔◌, sym, refl, ap, ◌∙◌, subst, arith, true, true≢false, Bool, nat_le, eq-eqb, ne_eqb, Option, Some, None, IfSome, IsSome, option_map, append-nil, append_assoc, Result, Ok, Err, if◌then◌else◌}
use Rattle.std.specs.List.{find}
use Rattle.std.specs.Option.{option_or}
use Rattle.std.proofs.lemmas.Bool.{leb-true, and_parts}
use Rattle.std.proofs.lemmas.List.Folds.{find-append}
use mathlib.Core.List.{IsPrefix}
use Rattle.reg_model.specs.SpanData.{contains}
use Rattle.reg_model.specs.State.{State, objects}
use Rattle.reg_model.specs.History.{state_after, state_at}
use Rattle.reg_model.specs.Query.{member_at, query}
use Rattle.reg_model.specs.Receipt.{member_of, stamp_of}
use Rattle.reg_model.specs.declared.span.Member.{Member}
use Rattle.reg_model.specs.declared.answer.Again.{Again}
use Rattle.reg_model.specs.declared.answer.Again.TheVariants.{Changed}
use Rattle.reg_model.specs.declared.answer.Found.{Found}
use Rattle.reg_model.specs.declared.answer.Half.TheVariants.{Loaded}
use Rattle.reg_model.specs.declared.answer.Receipt.{Receipt}
use Rattle.reg_model.specs.declared.answer.Receipt.TheVariants.{Query}
use Rattle.reg_model.specs.declared.answer.Update.{Update}
use Rattle.segment_array.specs.Ascending.{AscendFrom}
use Rattle.word_rule.specs.declared.log.Ask.TheVariants as ask
use Rattle.word_rule.specs.declared.log.CopySight.{CopySight}
use Rattle.word_rule.specs.declared.log.LoadEvent.{LoadEvent}
use Rattle.word_rule.specs.declared.log.Terms.{Terms}
use Rattle.word_rule.specs.CallerData.{CallerData}
use Rattle.word_rule.specs.Callers.{IsMemberOf, start}
use Rattle.word_rule.specs.Clock.{AfterClock, IsSeen}
use Rattle.word_rule.specs.Copies.{AreOfCopy}
use Rattle.word_rule.specs.Logs.{load_of}
use Rattle.word_rule.specs.Places.{lower, upper}
use Rattle.word_rule.specs.Sights.{after_clock, copies_after_clock, found_at}
use Rattle.word_rule.proofs.Joins.{prefix_both}
use Rattle.word_rule.proofs.Listings.{contains_find, state_fixed}
use Rattle.word_rule.proofs.Memories.{by_same}
use Rattle.word_rule.proofs.TreeRefusals.{found_there}
use Rattle.array_publish.specs.CopyLoads.{LoadsCopy, after_copy_loads, sight_words, with_words}
use Rattle.array_publish.specs.Lookup.{IsObjectAnswer, LooksUp, after_lookup}
use Rattle.array_publish.specs.Search.{IsMember, IsObjectAt, listed_member}
use Rattle.array_publish.specs.declared.copies.Listed.{Listed}
use Rattle.word_rule.proofs.Each.{all_with}
use Rattle.word_rule.proofs.NodeSights.{found_is}
use Rattle.segment_array.proofs.Places.{unheld_below}

-- ---- members that ascend, and another list of the same ones

pub begins_above : (low : ℕ) (members : List Member) (m : Member) → AscendFrom low members → Contains members m → low ≤ m.span.first
begins_above low [] m h (k, l, e) = absurd (omega (arith, l))
begins_above low (x ∷ members) m h (zero, l, e) = let a = h.0 in subst (λ (z : Member). low ≤ z.span.first) e a
begins_above low (x ∷ members) m h (suc k, l, e) = let r = begins_above (x.span.last + 1) members m h.2 (k, omega (arith, l), e) in let a = h.0 in let b = h.1 in omega (arith, r, a, b)

finds : (pc low : ℕ) (members : List Member) (m : Member) → AscendFrom low members → Contains members m → contains m.span pc ≡ true → member_at pc members ≡ Some m
finds pc low [] m h (k, l, e) is = absurd (omega (arith, l))
finds pc low (x ∷ members) m h (zero, l, e) is = rw (ap (λ (z : Member). contains z.span pc) e ∙ is) (ap Some e)
finds pc low (x ∷ members) m h (suc k, l, e) is =
    let inside : Contains members m = (k, omega (arith, l), e) in
    let from = begins_above (x.span.last + 1) members m h.2 inside in
    let first = leb-true m.span.first pc (and_parts (nat_le m.span.first pc) (nat_le pc m.span.last) is).0 in
    rw (unheld_below x pc (omega (arith, from, first))) (finds pc (x.span.last + 1) members m h.2 inside is)

-- what a list that ascends finds, another of the same members finds
same_found : (pc low : ℕ) (members loaded : List Member) → AscendFrom low members → ((m : Member) → Contains members m ↔ Contains loaded m) → member_at pc loaded ≡ member_at pc members
same_found pc low members loaded h same = go (member_at pc loaded) refl (member_at pc members) refl
  where
    go : (o : Option Member) → member_at pc loaded ≡ o → (p : Option Member) → member_at pc members ≡ p → member_at pc loaded ≡ member_at pc members
    go (Some m) e p f = let d = found_there pc loaded m e in e ∙ sym (finds pc low members m h ((same m).1 d.0) d.1)
    go None e None f = e ∙ sym f
    go None e (Some m) f = let d = found_there pc members m f in
        let found : IsSome (member_at pc loaded) = contains_find (λ (x : Member). contains x.span pc) loaded m ((same m).0 d.0) d.1 in absurd (true≢false (sym (subst IsSome e found)))

-- a sight after a load of the clock
guarded : (first : ℕ) (o : Option CopySight) → (s : CopySight) × ((copies_after_clock first o ≡ Some s) × (s.guard ≡ upper first))
guarded first None = (record { guard = upper first; words = [] }, (refl, refl))
guarded first (Some s) = by_same s.guard (upper first) (λ b. (z : CopySight) × (((if b then Some s else Some (record { guard = upper first; words = [] })) ≡ Some z) × (z.guard ≡ upper first)))
    (λ e. (s, (refl, e))) (λ _. (record { guard = upper first; words = [] }, (refl, refl)))

module _ (t : Terms) (pc first second : ℕ) (k0 k1 k2 k3 : CallerData) (object : Option Listed)
    (one : AfterClock t ask.Nothing first k0.log k1.log) (rest1 : k1 ≡ record k0 { log = k1.log })
    (between : LoadsCopy t (upper first % 2) k1 k2) (looked : IsObjectAt t (upper first % 2) k2 t.fixed pc object)
    (two : AfterClock t (ask.Loaded pc) second k2.log k3.log) (rest2 : k3 ≡ record k2 { log = k3.log }) where
  abbrev past : List Update
  past = two.0

  abbrev receipts : List Receipt
  receipts = two.1

  -- the callers after each step, as the first one's log tells them
  abbrev after_first : CallerData
  after_first = record k0 { log = after_clock first one.0 [] k0.log }

  abbrev after_between : CallerData
  after_between = record after_first { log = after_copy_loads between.0 between.1 after_first.log }

  abbrev after_second : CallerData
  after_second = record after_between { log = after_clock second two.0 receipts after_between.log }

  first_is : k1 ≡ after_first
  first_is = rest1 ∙ ((λ i. record k0 { log = one.2.2 i }) ∙ ap (λ rs. record k0 { log = after_clock first one.0 rs k0.log }) one.2.1)

  between_is : k2 ≡ after_between
  between_is = between.2.1 ∙ ap (λ (k : CallerData). record k { log = after_copy_loads between.0 between.1 k.log }) first_is

  second_is : k3 ≡ after_second
  second_is = rest2 ∙ ((λ i. record k2 { log = two.2.2 i }) ∙ ap (λ (k : CallerData). record k { log = after_clock second two.0 receipts k.log }) between_is)

  -- the sight of copies has the guard of the first load
  sight : (s : CopySight) × ((k2.log.sights.copies ≡ Some s) × (s.guard ≡ upper first))
  sight =
      let g = guarded first k0.log.sights.copies in
      (with_words between.1 g.0, (ap (λ (k : CallerData). k.log.sights.copies) between_is ∙ ap (option_map (with_words between.1)) g.1.0, g.1.1))

  old_loads : List LoadEvent
  old_loads = k0.log.trace.loads

  event : ℕ → ℕ → LoadEvent
  event found count = record (load_of k0.log 0 found) { receipts = count }

  loads_are : after_second.log.trace.loads ≡ k0.log.trace.loads ++ ((load_of k0.log 0 first ∷ between.0) ++ load_of k0.log 0 second ∷ [])
  loads_are =
      let e1 : LoadEvent = load_of k0.log 0 first in
      let e2 : LoadEvent = load_of k0.log 0 second in
      (λ i. ((k0.log.trace.loads ++ e1 ∷ []) ++ between.0) ++ record e2 { receipts = length (append-nil k0.log.receipts.own i) } ∷ [])
      ∙ (ap (λ z. z ++ e2 ∷ []) (append_assoc k0.log.trace.loads (e1 ∷ []) between.0) ∙ append_assoc k0.log.trace.loads (e1 ∷ between.0) (e2 ∷ []))

  log_is : k3 ≡ record k0 { log = after_lookup (load_of k0.log 0 first ∷ between.0 ++ load_of k0.log 0 second ∷ []) two.0 after_second.log.sights receipts k0.log }
  log_is = second_is ∙ (λ i. record k0 {
    log = record k0.log {
      past = two.0;
      trace = record k0.log.trace { loads = loads_are i };
      sights = after_second.log.sights;
      receipts = record k0.log.receipts { own = append-nil k0.log.receipts.own i ++ receipts };
    };
  })

  begins : IsPrefix k0.log.past two.0
  begins = prefix_both k0.log.past one.0 two.0 one.2.0.begins (subst (λ (k : CallerData). IsPrefix k.log.past two.0) between_is two.2.0.begins)

  looks : (result : Result Found Again) → IsObjectAnswer t pc first second past receipts result → LooksUp t pc k0 k3 result
  looks result answer = record {
    first = first;
    second = second;
    between = between.0;
    past = two.0;
    sights = after_second.log.sights;
    receipts = receipts;
    of_copy = between.2.0;
    begins = begins;
    seen = sym two.2.0.updates;
    answer = answer;
    log = log_is;
  }

  -- where the upper halves differ, the receipts are none
  pub again : upper second ≢ upper first → LooksUp t pc k0 k3 (Err (Changed 0 first second))
  again other = looks (Err (Changed 0 first second)) ((λ e. other (sym e)), refl, none)
    where
      none : receipts ≡ []
      none = two.2.1 ∙ rw (sight.1.0, ne_eqb sight.0.guard (upper second) (λ e. other (sym e ∙ sight.1.1))) refl

  module _ (same : upper second ≡ upper first) where
    now : State
    now = state_after (start t) two.0

    seen : IsSeen t (state_after (start t) two.0).loaded sight.0
    seen = subst (λ o. IfSome o (λ s. s.guard ≡ upper second → IsSeen t (state_after (start t) two.0).loaded s)) sight.1.0 two.2.0.copies (sight.1.1 ∙ sym same)

    at_stamp : state_at (start t) two.0 (lower second) ≡ state_after (start t) two.0
    at_stamp = ap (state_after (start t)) (take_all (lower second) two.0 (let u = two.2.0.updates in omega (arith, u)))

    found_now : query Loaded pc (state_after (start t) two.0) ≡ option_map listed_member object
    found_now =
        let agrees : AreOfCopy t (upper first % 2) seen.copy (sight_words k2.log.sights.copies) = subst (λ o. AreOfCopy t (upper first % 2) seen.copy (sight_words o)) (sym sight.1.0) (subst (λ g. AreOfCopy t (g % 2) seen.copy sight.0.words) sight.1.1 seen.loaded_so) in
        let told = looked seen.copy seen.listing.members agrees seen.listing.lists seen.few in
        let loaded = same_found pc 0 seen.listing.members (state_after (start t) two.0).loaded seen.listing.lists.ascending seen.listing.same in
        let test : Member → Bool = λ m. contains m.span pc in
        find-append test (state_after (start t) two.0).fixed (state_after (start t) two.0).loaded
        ∙ ((λ i. option_or (find test ((state_fixed (start t) two.0).0 i)) (loaded i)) ∙ (sym (find-append test t.fixed seen.listing.members) ∙ told))

    found_then : query Loaded pc (state_at (start t) two.0 (lower second)) ≡ option_map listed_member object
    found_then = ap (query Loaded pc) at_stamp ∙ found_now

    -- what was found may be made known
    known : (o : Option Member) → query Loaded pc (state_after (start t) two.0) ≡ o → IfSome o (IsMemberOf t)
    known None e = tt
    known (Some m) e = all_with (IsMemberOf t) (objects (state_after (start t) two.0)) m two.2.0.members (found_there pc (objects (state_after (start t) two.0)) m e).0

    pub is_member : IfSome object IsMember
    is_member = go object (known (option_map listed_member object) found_now)
      where
        go : (o : Option Listed) → IfSome (option_map listed_member o) (IsMemberOf t) → IfSome o IsMember
        go None h = tt
        go (Some l) h = (h.0, (let a = h.1 in let b = two.2.0.valid.payloads in omega (arith, a, b)))

    pub found_so : (found : Found) → member_of found ≡ option_map listed_member object → stamp_of found ≡ lower second → LooksUp t pc k0 k3 (Ok found)
    found_so found member stamp = looks (Ok found) (
      sym same,
      stamp,
      found_then ∙ sym member,
      subst (λ o. IfSome o (IsMemberOf t)) (sym member) (known (option_map listed_member object) found_now),
      receipt_is,
    )
      where
        receipt_is : receipts ≡ Query Loaded pc found ∷ []
        receipt_is =
            let terms : k2.log.terms ≡ t = two.2.0.terms in
            let made : receipts ≡ Query Loaded pc (found_at (query Loaded pc (state_at (start k2.log.terms) two.0 (lower second))) (lower second)) ∷ [] = two.2.1 ∙ rw (sight.1.0, eq-eqb sight.0.guard (upper second) (sight.1.1 ∙ sym same)) refl in
            made ∙ (ap (λ u. Query Loaded pc (found_at (query Loaded pc (state_at (start u) two.0 (lower second))) (lower second)) ∷ []) terms
            ∙ ap (λ z. Query Loaded pc z ∷ []) ((λ i. found_at ((found_then ∙ sym member) i) (sym stamp i)) ∙ found_is found))
