-- What holds of a writer between two calls goes on to hold.
use Rattle.std.proofs.Common.{◌≡◌, ℕ, ◌+◌, ◌-◌, ◌*◌, ◌≤◌, List, [], ◌∷◌, ◌++◌, Bool, false, true≢false, refl, sym, ap, ◌∙◌, subst, arith, inl, inr, length}
use Rattle.std.specs.List.{All, Contains, count_by, filter, flat_map, sum_by}
use Rattle.std.specs.Map.{values_of}
use Rattle.std.proofs.lemmas.List.Elements.{All-append, All-contains, All-contains_itself, All-filter, All-map, All-weaker, Contains-append_left, Contains-push, filter_passes}
use Rattle.std.proofs.lemmas.List.Sums.{sum_by-append, sum_by-cons, sum_by_push}
use Rattle.frame_parse.specs.Sections.{SectionData}
use Rattle.fde_members.specs.Members.{AddsOnly, AreNear, IsFdeMember, fde_member, is_kept, section_members}
use Rattle.reg_model.specs.declared.answer.Update.{Update}
use Rattle.reg_model.specs.declared.answer.Update.TheVariants.{Register, Deregister, Replace, Load, Unload}
use Rattle.reg_model.specs.declared.span.Member.{Member}
use Rattle.word_rule.specs.CallerData.{WordsData}
use Rattle.sole_writer.specs.Writers.{WriterData}
use Rattle.fde_writer.specs.Places.{HoldsPlaces, HoldsAtLeast, PlaceData, placed_members, passes}
use Rattle.fde_writer.specs.Puttings.{Enters, IsPutFault, PutsNone, StopsPutting, StopsTaking, TakesAway, writer_state}
use Rattle.fde_writer.specs.Runs.{AddsAmong, FoundTaken, Runs}
use Rattle.fde_writer.specs.Sections.{FdeWriterData, IsFdeWriterWith, IsStanding, members_due, members_now}
use Rattle.fde_writer.specs.Standing.{AreOfBefore, LeavesStanding, Rewrites, StandingData, Standings, all_places, all_standing, standing_sum}
use Rattle.fde_writer.specs.declared.outcome.Numbers.{Numbers}
use Rattle.fde_writer.specs.declared.putting.PutFault.{PutFault}
use Rattle.fde_writer.specs.declared.putting.PutFault.TheVariants as fault
use Rattle.fde_writer.proofs.Counts.{count-append}

-- ---- places of all sections, counted by sections

count_flat : {X : Type 0} (test : PlaceData → Bool) (f : X → List PlaceData) (xs : List X) → count_by test (flat_map f xs) ≡ sum_by (λ x. count_by test (f x)) xs
count_flat test f [] = refl
count_flat test f (x ∷ xs) =
    let a = count-append test (f x) (flat_map f xs) in
    let b = sum_by-cons (λ y. count_by test (f y)) x xs in
    let c = count_flat test f xs in
    omega (arith, a, b, c)

sum_flat : {X : Type 0} (g : X → ℕ) (lists : List (List X)) → sum_by g (flat_map (λ u. u) lists) ≡ sum_by (sum_by g) lists
sum_flat g [] = refl
sum_flat g (u ∷ lists) =
    let a = sum_by-append g u (flat_map (λ v. v) lists) in
    let b = sum_by-cons (sum_by g) u lists in
    let c = sum_flat g lists in
    omega (arith, a, b, c)

pub count_all : (test : PlaceData → Bool) (stands : Standings) → count_by test (all_places stands) ≡ standing_sum (λ x. count_by test x.places) stands
count_all test stands = count_flat test (λ (x : StandingData). x.places) (all_standing stands) ∙ sum_flat (λ x. count_by test x.places) (values_of stands)

-- and what those of others are, where the sections hold as many, or so many more
count_same : (test : PlaceData → Bool) (old new : Standings) → ((f : StandingData → ℕ) → standing_sum f new ≡ standing_sum f old) → count_by test (all_places new) ≡ count_by test (all_places old)
count_same test old new weighs = count_all test new ∙ weighs (λ x. count_by test x.places) ∙ sym (count_all test old)

count_more : (test : PlaceData → Bool) (old new : Standings) (more : StandingData) → ((f : StandingData → ℕ) → standing_sum f new ≡ standing_sum f old + f more) → count_by test (all_places new) ≡ count_by test (all_places old) + count_by test more.places
count_more test old new more weighs =
    let a = weighs (λ x. count_by test x.places) in
    let b = count_all test old in
    let c = count_all test new in
    omega (arith, a, b, c)

-- as many members as places
pub members_long : (ps : List PlaceData) → length (placed_members ps) ≡ length ps
members_long [] = refl
members_long (p ∷ ps) = (let e = members_long ps in omega (arith, e))

-- ---- what updates added

-- calls added members of these alone
record Adds (ms : List Member) (w w' : WriterData) : Type 0 where
  words : w'.words ≡ w.words
  updates : List Update
  past : w'.me.log.past ≡ w.me.log.past ++ updates
  adds : All (AddsAmong ms) updates

runs_add : (ms : List Member) (n : ℕ) (w w' : WriterData) → Runs ms n w w' → Adds ms w w'
runs_add ms n w w' runs = record { words = runs.words; updates = runs.updates; past = runs.past; adds = runs.adds }

taken_adds : (ms : List Member) (n : ℕ) (w w' : WriterData) → FoundTaken ms n w w' → Adds ms w w'
taken_adds ms n w w' found = record {
  words = found.3.words ∙ found.2.words;
  updates = found.2.updates;
  past = found.3.past ∙ found.2.past;
  adds = found.2.adds;
}

-- a member of a section is one of an FDE of its own
section_has : (low : ℕ) (ever : List SectionData) (s : SectionData) → All (IsFdeMember low (ever ++ s ∷ [])) (section_members low s)
section_has low ever s =
    All-map (IsFdeMember low (ever ++ s ∷ [])) (fde_member low s.address) (filter is_kept s.fdes)
    (λ k d within. record {
      section = s;
      fde = Rattle.std.specs.List.slice_index_or (filter is_kept s.fdes) k d;
      listed = Contains-push ever s;
      among = All-filter is_kept (Contains s.fdes) s.fdes (All-contains_itself s.fdes) k d within;
      kept = filter_passes is_kept s.fdes k d within;
      is_member = refl;
    })

of_more : (low : ℕ) (ever more : List SectionData) (m : Member) → IsFdeMember low ever m → IsFdeMember low (ever ++ more) m
of_more low ever more m is = record { section = is.section; fde = is.fde; listed = Contains-append_left ever more is.section is.listed; among = is.among; kept = is.kept; is_member = is.is_member }

adds_more : (low : ℕ) (ever more : List SectionData) (u : Update) → AddsOnly low ever u → AddsOnly low (ever ++ more) u
adds_more low ever more (Register m) is = of_more low ever more m is
adds_more low ever more (Replace m) is = of_more low ever more m is
adds_more low ever more (Load m) is = of_more low ever more m is
adds_more low ever more (Deregister base) is = tt
adds_more low ever more (Unload base) is = tt

adds_these : (low : ℕ) (ever : List SectionData) (s : SectionData) (u : Update) → AddsAmong (section_members low s) u → AddsOnly low (ever ++ s ∷ []) u
adds_these low ever s (Register m) among = All-contains (IsFdeMember low (ever ++ s ∷ [])) (section_members low s) m (section_has low ever s) among
adds_these low ever s (Replace m) among = All-contains (IsFdeMember low (ever ++ s ∷ [])) (section_members low s) m (section_has low ever s) among
adds_these low ever s (Load m) among = All-contains (IsFdeMember low (ever ++ s ∷ [])) (section_members low s) m (section_has low ever s) among
adds_these low ever s (Deregister base) among = tt
adds_these low ever s (Unload base) among = tt

adds_none : (low : ℕ) (ever : List SectionData) (u : Update) → AddsAmong [] u → AddsOnly low ever u
adds_none low ever (Register m) among = absurd (let within = among.1 in omega (arith, within))
adds_none low ever (Replace m) among = absurd (let within = among.1 in omega (arith, within))
adds_none low ever (Load m) among = absurd (let within = among.1 in omega (arith, within))
adds_none low ever (Deregister base) among = tt
adds_none low ever (Unload base) among = tt

-- ---- a section was to be registered

-- what a section needs to stand
pub record MayStand (u : FdeWriterData) (x : StandingData) : Type 0 where
  pub whole : placed_members x.places ≡ section_members u.low x.section
  pub near : AreNear (section_members u.low x.section)
  pub enough : members_due u + 3 * length x.places ≤ u.client.me.left
  pub free : u.client.stuck ≡ false

module _ (count : ℕ) (u : FdeWriterData) (x : StandingData) (is : IsFdeWriterWith count u) (may : MayStand u x) (w' : WriterData) (stands' : Standings) where
  abbrev next : FdeWriterData
  next = record { client = w'; low = u.low; stands = stands'; ever = u.ever ++ x.section ∷ [] }

  standing_still : AreOfBefore x u.stands stands' → All (IsStanding u.low (u.ever ++ x.section ∷ [])) (all_standing stands')
  standing_still of =
      All-weaker (Contains (all_standing stands')) (IsStanding u.low (u.ever ++ x.section ∷ [])) (λ y there. elim (of y there) [
        | inl before ↦ (let was = All-contains (IsStanding u.low u.ever) (all_standing u.stands) y is.is.standing before in
            record { given = Contains-append_left u.ever (x.section ∷ []) y.section was.given; whole = was.whole })
        | inr it ↦ record {
          given = subst (Contains (u.ever ++ x.section ∷ [])) (sym it.section) (Contains-push u.ever x.section);
          whole = it.members ∙ may.whole ∙ ap (section_members u.low) (sym it.section);
        }
      ]) (all_standing stands') (All-contains_itself (all_standing stands'))

  added_still : Adds (placed_members x.places) u.client w' → All (AddsOnly u.low (u.ever ++ x.section ∷ [])) w'.me.log.past
  added_still adds =
      let ever = u.ever ++ x.section ∷ [] in
      let old = All-weaker (AddsOnly u.low u.ever) (AddsOnly u.low ever) (adds_more u.low u.ever (x.section ∷ [])) u.client.me.log.past is.is.added in
      let more = subst (λ (ms : List Member). All (AddsAmong ms) adds.updates) may.whole adds.adds in
      let new = All-weaker (AddsAmong (section_members u.low x.section)) (AddsOnly u.low ever) (adds_these u.low u.ever x.section) adds.updates more in
      subst (All (AddsOnly u.low ever)) (sym adds.past) (All-append (AddsOnly u.low ever) u.client.me.log.past adds.updates old new)

  pub entered_keeps : (key : ℕ) (numbers : Numbers) → Enters key x numbers u.client w' u.stands stands' → IsFdeWriterWith (count + length x.places) next
  entered_keeps key numbers e =
      let longer : length e.places ≡ length x.places = sym (members_long e.places) ∙ ap length e.puts.whole ∙ members_long x.places in
      let more = e.weighs (λ y. length y.places) in
      let exact : HoldsPlaces (writer_state w') (all_places stands') = λ half test. (
      let a = is.is.only may.free half test in
      let b = e.puts.gains half test in
      let c = count_more (passes half test) u.stands stands' (record x { places = e.places }) e.weighs in
      omega (arith, a, b, c)) in
      record {
        is = record {
          payloads = ap (λ (t : WordsData). t.terms.payloads) e.puts.runs.words ∙ is.is.payloads;
          empty = ap (λ (t : WordsData). t.terms.fixed) e.puts.runs.words ∙ is.is.empty;
          standing = standing_still e.of_before;
          there = λ half test. (let h = exact half test in omega (arith, h));
          only = λ _. exact;
          added = added_still (runs_add (placed_members x.places) (2 * length x.places) u.client w' e.puts.runs);
          calls = λ _. (let l = e.puts.runs.left in let n = may.enough in omega (arith, n, more, longer, l));
        };
        due_is = (let d = is.due_is in omega (arith, d, more, longer));
      }

  -- nothing was put in the end
  pub refused_keeps : PutsNone (placed_members x.places) (3 * length x.places) u.client w' → LeavesStanding x u.stands stands' → IsFdeWriterWith count next
  refused_keeps none leaves =
      let same = leaves.weighs (λ y. length y.places) in
      let exact : HoldsPlaces (writer_state w') (all_places stands') = λ half test. (
      let a = is.is.only may.free half test in
      let b = none.same half test in
      let c = count_same (passes half test) u.stands stands' leaves.weighs in
      omega (arith, a, b, c)) in
      record {
        is = record {
          payloads = ap (λ (t : WordsData). t.terms.payloads) none.runs.words ∙ is.is.payloads;
          empty = ap (λ (t : WordsData). t.terms.fixed) none.runs.words ∙ is.is.empty;
          standing = standing_still leaves.of_before;
          there = λ half test. (let h = exact half test in omega (arith, h));
          only = λ _. exact;
          added = added_still (runs_add (placed_members x.places) (3 * length x.places) u.client w' none.runs);
          calls = λ _. (let l = none.runs.left in let n = may.enough in omega (arith, n, same, l));
        };
        due_is = (let d = is.due_is in omega (arith, d, same));
      }

  -- a lock was found taken
  pub stopped_keeps : StopsPutting (placed_members x.places) (3 * length x.places) u.client w' → LeavesStanding x u.stands stands' → IsFdeWriterWith count next
  stopped_keeps stops leaves =
      let same = leaves.weighs (λ y. length y.places) in
      let adds = taken_adds (placed_members x.places) (3 * length x.places) u.client w' stops.cause in
      let never : w'.stuck ≡ false → ⊥ = λ f. true≢false (sym stops.stopped ∙ f) in
      record {
        is = record {
          payloads = ap (λ (t : WordsData). t.terms.payloads) adds.words ∙ is.is.payloads;
          empty = ap (λ (t : WordsData). t.terms.fixed) adds.words ∙ is.is.empty;
          standing = standing_still leaves.of_before;
          there = λ half test. (
              let a = is.is.there half test in
              let b = stops.keeps half test in
              let c = count_same (passes half test) u.stands stands' leaves.weighs in
              omega (arith, a, b, c));
          only = λ f. absurd (never f);
          added = added_still adds;
          calls = λ f. absurd (never f);
        };
        due_is = (let d = is.due_is in omega (arith, d, same));
      }

  pub fault_keeps : (f : PutFault) → IsPutFault (placed_members x.places) (3 * length x.places) u.client w' f → LeavesStanding x u.stands stands' → IsFdeWriterWith count next
  fault_keeps fault.Overlap why leaves = refused_keeps why.0 leaves
  fault_keeps fault.Full why leaves = refused_keeps why.0 leaves
  fault_keeps fault.Stuck why leaves = stopped_keeps why leaves

-- ---- the latest section under a key goes

module _ (count : ℕ) (u : FdeWriterData) (key : ℕ) (x : StandingData) (rest : List StandingData) (stands' : Standings) (is : IsFdeWriterWith count u)
    (pops : Rewrites key (rest ++ x ∷ []) rest u.stands stands') (w' : WriterData) where
  abbrev gone : FdeWriterData
  gone = record { client = w'; low = u.low; stands = stands'; ever = u.ever }

  lighter : (f : StandingData → ℕ) → standing_sum f u.stands ≡ standing_sum f stands' + f x
  lighter f = (let a = pops.weighs f in let b = sum_by_push f rest x in omega (arith, a, b))

  pub within_due : length x.places ≤ count
  within_due = (let a = lighter (λ y. length y.places) in let d = is.due_is in omega (arith, a, d))

  pub held : HoldsAtLeast (members_now u) x.places
  held half test = (
      let a = is.is.there half test in
      let b = lighter (λ y. count_by (passes half test) y.places) in
      let d = count_all (passes half test) u.stands in
      omega (arith, a, b, d))

  standing_without : All (IsStanding u.low u.ever) (all_standing stands')
  standing_without =
      All-weaker (Contains (all_standing stands')) (IsStanding u.low u.ever) (λ y there. All-contains (IsStanding u.low u.ever) (all_standing u.stands) y is.is.standing (elim (pops.kept y there) [
        | inl before ↦ before
        | inr now ↦ pops.listed y (Contains-append_left rest (x ∷ []) y now)
      ])) (all_standing stands') (All-contains_itself (all_standing stands'))

  added_none : Adds [] u.client w' → All (AddsOnly u.low u.ever) w'.me.log.past
  added_none adds =
      subst (All (AddsOnly u.low u.ever)) (sym adds.past) (All-append (AddsOnly u.low u.ever) u.client.me.log.past adds.updates is.is.added (All-weaker (AddsAmong []) (AddsOnly u.low u.ever) (adds_none u.low u.ever) adds.updates adds.adds))

  pub taken_keeps : (numbers : Numbers) → u.client.stuck ≡ false → TakesAway x.places numbers u.client w' → IsFdeWriterWith (count - length x.places) gone
  taken_keeps numbers free takes =
      let less = lighter (λ y. length y.places) in
      let exact : HoldsPlaces (writer_state w') (all_places stands') = λ half test. (
      let a = is.is.only free half test in
      let b = takes.loses half test in
      let c = count_more (passes half test) stands' u.stands x lighter in
      omega (arith, a, b, c)) in
      record {
        is = record {
          payloads = ap (λ (t : WordsData). t.terms.payloads) takes.runs.words ∙ is.is.payloads;
          empty = ap (λ (t : WordsData). t.terms.fixed) takes.runs.words ∙ is.is.empty;
          standing = standing_without;
          there = λ half test. (let h = exact half test in omega (arith, h));
          only = λ _. exact;
          added = added_none (runs_add [] (length x.places) u.client w' takes.runs);
          calls = λ _. (let l = takes.runs.left in let e = is.is.calls free in omega (arith, e, less, l));
        };
        due_is = (let d = is.due_is in omega (arith, d, less));
      }

  pub stopped_taking_keeps : StopsTaking x.places u.client w' → IsFdeWriterWith (count - length x.places) gone
  stopped_taking_keeps stops =
      let less = lighter (λ y. length y.places) in
      let adds = taken_adds [] (length x.places) u.client w' stops.cause in
      let never : w'.stuck ≡ false → ⊥ = λ f. true≢false (sym stops.stopped ∙ f) in
      record {
        is = record {
          payloads = ap (λ (t : WordsData). t.terms.payloads) adds.words ∙ is.is.payloads;
          empty = ap (λ (t : WordsData). t.terms.fixed) adds.words ∙ is.is.empty;
          standing = standing_without;
          there = λ half test. (
              let a = is.is.there half test in
              let b = stops.keeps half test in
              let c = count_more (passes half test) stands' u.stands x lighter in
              omega (arith, a, b, c));
          only = λ f. absurd (never f);
          added = added_none adds;
          calls = λ f. absurd (never f);
        };
        due_is = (let d = is.due_is in omega (arith, d, less));
      }
