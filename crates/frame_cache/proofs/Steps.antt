-- A lookup by a cache, by what it found among its entries and by what its half answered.
use Rattle.std.proofs.Common.{◌≡◌, ℕ, List, [], ◌∷◌, ◌++◌, take, sym, refl, ap, subst, ◌∙◌, arith, Some, None, Result, Ok}
use Rattle.std.specs.List.{Contains}
use Rattle.std.specs.Bool.{IsTrue}
use Rattle.std.proofs.lemmas.List.Elements.{Contains-append_right}
use Rattle.reg_model.specs.History.{IsHistory, state_after}
use Rattle.reg_model.specs.Query.{member_at}
use Rattle.reg_model.specs.SpanData.{contains}
use Rattle.reg_model.specs.State.{AreDisjoint, IsLawful, State}
use Rattle.reg_model.specs.declared.answer.Again.{Again}
use Rattle.reg_model.specs.declared.answer.Found.{Found}
use Rattle.reg_model.specs.declared.answer.Found.TheVariants.{Hit}
use Rattle.reg_model.specs.declared.answer.Half.{Half}
use Rattle.reg_model.specs.declared.answer.Receipt.{Receipt}
use Rattle.reg_model.specs.declared.answer.Receipt.TheVariants.{Query}
use Rattle.reg_model.specs.declared.answer.Update.{Update}
use Rattle.reg_model.specs.declared.span.Member.{Member}
use Rattle.word_rule.proofs.Each.{all_with}
use Rattle.word_rule.proofs.Listings.{start_lawful}
use Rattle.word_rule.proofs.TreeRefusals.{found_there}
use Rattle.word_rule.specs.CallerData.{CallerData}
use Rattle.word_rule.specs.Callers.{AreTerms, start}
use Rattle.word_rule.specs.Clock.{AfterClock}
use Rattle.word_rule.specs.Places.{lower}
use Rattle.word_rule.specs.declared.log.Ask.TheVariants as ask
use Rattle.word_rule.specs.declared.log.Terms.{Terms}
use Rattle.frame_cache.specs.CacheData.{CacheData, HaveOwnSpans, but_found, kept_at, kept_entries}
use Rattle.frame_cache.specs.Cached.{AnswersBy, CachedTry, FitsCaller, HasHit, IsAnswerOf, TriesHalf}
use Rattle.frame_cache.specs.Order.{but_nth}
use Rattle.frame_cache.specs.Recent.{SeeksEntry, cache_of, cached_entries, cached_entry}
use Rattle.frame_cache.specs.RecentData.{RecentData}
use Rattle.frame_cache.proofs.Fitting.{fits_entry, fits_front, fits_kept, fits_later}
use Rattle.frame_cache.proofs.Hits.{answer_holds, hit_holds}
use Rattle.frame_cache.proofs.Looking.{clock_own, clock_seen, half_hit, half_own, half_seen, looks, receipts_of}
use Rattle.frame_cache.proofs.Spans.{own_entry, own_front, own_kept}

-- what is kept at a stamp
pub record Keeps (stamp : ℕ) (r r' : RecentData) : Type 0 where
  pub stamp_is : r'.stamp ≡ stamp
  pub entries : cached_entries r' ≡ kept_entries stamp r.stamp (cached_entries r)

pub keeps_as : {stamp other : ℕ} {r r' : RecentData} → stamp ≡ other → Keeps stamp r r' → Keeps other r r'
keeps_as {stamp} {other} {r} {r'} is keeps = subst (λ s. Keeps s r r') is keeps

kept_is : (half : Half) (stamp : ℕ) (r r' : RecentData) (c : CacheData) → cache_of half r ≡ c → Keeps stamp r r' → cache_of half r' ≡ kept_at stamp c
kept_is half stamp r r' c is keeps = (λ i. record { half = half; stamp = keeps.stamp_is i; entries = keeps.entries i }) ∙ ap (kept_at stamp) is

-- a member that is put in front
pub record Adds (m : Member) (r r' : RecentData) : Type 0 where
  pub stamp : r'.stamp ≡ r.stamp
  pub entries : cached_entries r' ≡ take 8 (m ∷ cached_entries r)

-- a member is the first entry that contains the address
pub record Finds (pc : ℕ) (m : Member) (place : ℕ) (r : RecentData) : Type 0 where
  pub entry : m ≡ cached_entry place r
  pub found : member_at pc (cached_entries r) ≡ Some m
  pub others : but_nth place (cached_entries r) ≡ but_found pc (cached_entries r)

pub finds : (pc : ℕ) (m : Member) (place : ℕ) (r : RecentData) → SeeksEntry r pc (Some place) → m ≡ cached_entry place r → Finds pc m place r
finds pc m place r seeks entry = record { entry = entry; found = rw entry seeks.1; others = seeks.2 }

-- an entry that was found is brought to the front
pub record Touches (m : Member) (place : ℕ) (r r' : RecentData) : Type 0 where
  pub stamp : r'.stamp ≡ r.stamp
  pub entries : cached_entries r' ≡ cached_entry place r ∷ but_nth place (cached_entries r)

touched_is : (pc : ℕ) (m : Member) (place : ℕ) (r r' : RecentData) → Finds pc m place r → Touches m place r r' → cached_entries r' ≡ m ∷ but_found pc (cached_entries r)
touched_is pc m place r r' seeks touches = touches.entries ∙ (ap (λ x. x ∷ but_nth place (cached_entries r)) (sym seeks.entry) ∙ ap (λ xs. m ∷ xs) seeks.others)

front_is : (half : Half) (pc : ℕ) (m : Member) (place : ℕ) (r r' : RecentData) → Finds pc m place r → Touches m place r r' → cache_of half r' ≡ record (cache_of half r) { entries = m ∷ but_found pc (cached_entries r) }
front_is half pc m place r r' seeks touches = λ i. record { half = half; stamp = touches.stamp i; entries = touched_is pc m place r r' seeks touches i }

pub known_own : (pc stamp : ℕ) (m : Member) (place : ℕ) (r r1 r2 : RecentData) → HaveOwnSpans (cached_entries r) → Keeps stamp r r1 → Finds pc m place r1 → Touches m place r1 r2 → HaveOwnSpans (cached_entries r2)
known_own pc stamp m place r r1 r2 own keeps seeks touches =
    subst HaveOwnSpans (sym (touched_is pc m place r1 r2 seeks touches))
    (own_front pc m (cached_entries r1) seeks.found (subst HaveOwnSpans (sym keeps.entries) (own_kept stamp r.stamp (cached_entries r) own)))

module _ (t : Terms) (half : Half) (pc found : ℕ) (c : CacheData) (k look : CallerData) (r r1 : RecentData) (is : cache_of half r ≡ c) (keeps : Keeps (lower found) r r1) (after : AfterClock t ask.Nothing found k.log look.log) where
  kept : cache_of half r1 ≡ kept_at (lower found) c
  kept = kept_is half (lower found) r r1 c is keeps

  pub kept_fits : FitsCaller c k.log → FitsCaller (cache_of half r1) look.log
  kept_fits fits =
      subst (λ d. FitsCaller d look.log) (sym kept) (fits_kept (lower found) c look.log (fits_later c k.log look.log [] (clock_own t found k.log look.log after) fits))

  -- ---- an entry contains the address

  module _ (m : Member) (place : ℕ) (r2 : RecentData) (seeks : Finds pc m place r1) (touches : Touches m place r1 r2) where
    pub known_steps : look ≡ record k { log = look.log } → CachedTry t pc c (cache_of half r2) k look (Ok (Hit m r2.stamp))
    known_steps rest = record {
      clock = found;
      look = look;
      looks = looks t found k look after rest;
      answers =
          subst (λ d. AnswersBy (member_at pc d.entries) t pc d (cache_of half r2) look look (Ok (Hit m r2.stamp))) kept
          (rw seeks.found (ap (λ s. Ok (Hit m s)) touches.stamp, refl, front_is half pc m place r1 r2 seeks touches));
    }

    pub known_fits : FitsCaller c k.log → FitsCaller (cache_of half r2) look.log
    known_fits fits =
        subst (λ d. FitsCaller d look.log) (sym (front_is half pc m place r1 r2 seeks touches)) (fits_front pc m (cache_of half r1) look.log seeks.found (kept_fits fits))

    module _ (one : (members : List Member) (m : Member) (pc : ℕ) → AreDisjoint members → Contains members m → IsTrue (contains m.span pc) → member_at pc members ≡ Some m) (lawful : (start : State) (history : List Update) → IsLawful start → IsHistory start history → IsLawful (state_after start history)) where
      pub known_answers : FitsCaller c k.log → IsAnswerOf t half pc k look (Hit m r2.stamp)
      known_answers fits =
          let hit : HasHit half r1.stamp look.log m = all_with (HasHit half r1.stamp look.log) (cached_entries r1) m (kept_fits fits) (found_there pc (cached_entries r1) m seeks.found).0 in
          let stamp : r2.stamp ≡ r1.stamp = touches.stamp in
          let there = subst (λ s. Contains look.log.receipts.own (Query half hit.0 (Hit m s))) (sym stamp) hit.1 in
          record {
            seen = (let s = (clock_seen t found k.log look.log after).0 in let n = keeps.stamp_is in omega (arith, s, n, stamp));
            right = λ history callers since is all.
                hit_holds one lawful (start t) history t.nodes callers since look.log.receipts.own half pc hit.0 r2.stamp m (start_lawful t (valid after)) is all there (found_there pc (cached_entries r1) m seeks.found).1;
          }
        where
          valid : AfterClock t ask.Nothing found k.log look.log → AreTerms t
          valid (past, receipts, (tells, asked, is)) = tells.valid

  -- ---- the half was tried

  module _ (k' : CallerData) where
    pub missed_fits : FitsCaller c k.log → (result : Result Found Again) → TriesHalf half t pc look k' result → FitsCaller (cache_of half r1) k'.log
    missed_fits fits result tries = fits_later (cache_of half r1) look.log k'.log (receipts_of half pc result) (half_own half t pc look k' result tries) (kept_fits fits)

    pub half_answers : (found' : Found) → TriesHalf half t pc look k' (Ok found') → IsAnswerOf t half pc k k' found'
    half_answers found' tries =
        let own = half_own half t pc look k' (Ok found') tries in
        let r : Receipt = Query half pc found' in
        record {
          seen = (let s = clock_seen t found k.log look.log after in let a = s.0 in let b = s.1 in let h = half_seen half t pc look k' found' tries in omega (arith, a, b, h));
          right = λ history callers since is all.
              answer_holds (start t) history t.nodes callers since k'.log.receipts.own half pc found' all
              (subst (λ rs. Contains rs r) (sym own) (Contains-append_right look.log.receipts.own (r ∷ []) r (0, omega arith, refl)));
        }

    -- a hit comes first
    module _ (m : Member) (stamp : ℕ) (r3 r4 : RecentData) (keeps_again : Keeps stamp r1 r3) (adds : Adds m r3 r4) (tries : TriesHalf half t pc look k' (Ok (Hit m stamp))) where
      pub hit_fits : FitsCaller c k.log → FitsCaller (cache_of half r4) k'.log
      hit_fits fits =
          let again : FitsCaller (cache_of half r3) look.log =
          subst (λ d. FitsCaller d look.log) (sym (kept_is half stamp r1 r3 (cache_of half r1) refl keeps_again)) (fits_kept stamp (cache_of half r1) look.log (kept_fits fits)) in
          let own : k'.log.receipts.own ≡ look.log.receipts.own ++ Query half pc (Hit m r3.stamp) ∷ [] =
          half_own half t pc look k' (Ok (Hit m stamp)) tries ∙ ap (λ s. look.log.receipts.own ++ Query half pc (Hit m s) ∷ []) (sym keeps_again.stamp_is) in
          subst (λ d. FitsCaller d k'.log) (λ i. record { half = half; stamp = sym adds.stamp i; entries = sym adds.entries i })
          (fits_entry pc m (cache_of half r3) look.log k'.log own again)

      pub hit_own : HaveOwnSpans (cached_entries r) → member_at pc (cached_entries r1) ≡ None → HaveOwnSpans (cached_entries r4)
      hit_own own none =
          let own1 : HaveOwnSpans (cached_entries r1) = subst HaveOwnSpans (sym keeps.entries) (own_kept (lower found) r.stamp (cached_entries r) own) in
          subst HaveOwnSpans (sym (adds.entries ∙ ap (λ xs. take 8 (m ∷ xs)) keeps_again.entries))
          (own_entry pc stamp r1.stamp m (cached_entries r1) none (half_hit half t pc stamp m look k' tries) own1)
