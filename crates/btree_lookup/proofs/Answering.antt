-- The end of a lookup at a leaf, from the load of the clock and of the leaf's version.
use Rattle.std.proofs.Common.{◌≡◌, ◌≢◌, ℕ, ◌+◌, ◌≤◌, ◌==◌, ◌&&◌, ◌%◌, Contains, Bool, true, false, List, [], ◌∷◌, ◌++◌, length, length-append, map, take_all, option_map, Option, Some, None, is_some, IfSome, Ok, inl, refl, ap, sym, ◌∙◌, subst, arith, append-nil, eq-eqb, ne_eqb, le-leb, if◌then◌else◌}
use Rattle.std.specs.List.{AllByRecursion}
use Rattle.std.proofs.lemmas.List.{length-map}
use Rattle.std.proofs.lemmas.Option.{none-some, same_Some}
use Rattle.std.proofs.lemmas.List.Elements.{Contains-append_left}
use mathlib.Core.List.{IsPrefix}
use Rattle.reg_model.specs.SpanData.{contains}
use Rattle.reg_model.specs.History.{state_after, state_at}
use Rattle.reg_model.specs.Query.{member_at, query}
use Rattle.reg_model.specs.Receipt.{member_of, stamp_of}
use Rattle.reg_model.specs.declared.answer.Again.TheVariants.{Changed}
use Rattle.reg_model.specs.declared.answer.Found.{Found}
use Rattle.reg_model.specs.declared.answer.Half.TheVariants as half
use Rattle.reg_model.specs.declared.answer.Receipt.{Receipt}
use Rattle.reg_model.specs.declared.answer.Receipt.TheVariants.{Query}
use Rattle.reg_model.specs.declared.answer.Update.{Update}
use Rattle.reg_model.specs.declared.span.Member.{Member}
use Rattle.word_rule.specs.declared.log.Ask.TheVariants as ask
use Rattle.word_rule.specs.declared.log.LoadedWord.{LoadedWord}
use Rattle.word_rule.specs.declared.log.LockId.TheVariants as lock
use Rattle.word_rule.specs.declared.log.NodeSight.{NodeSight}
use Rattle.word_rule.specs.declared.log.Sights.{Sights}
use Rattle.word_rule.specs.declared.log.Terms.{Terms}
use Rattle.word_rule.specs.CallerData.{CallerData}
use Rattle.word_rule.specs.Callers.{IsAlone, IsMemberOf, start}
use Rattle.word_rule.specs.Clock.{AfterClock, ClockTells}
use Rattle.word_rule.specs.Logs.{load_of}
use Rattle.word_rule.specs.NodeTells.{AloneTells, IsOfNode}
use Rattle.word_rule.specs.Places.{CLOCK, lower, node_place}
use Rattle.word_rule.specs.Sights.{after_clock, after_node_version, copies_after_clock, found_at, is_leaf_for, mark_child, or_mark, place_of, place_under, query_receipt, receipts_after_version, sight_of, sight_begun, sights_after_version, try_receipts, with_clock, without_sight}
use Rattle.word_rule.specs.VersionLocks.{VersionTells}
use Rattle.btree_lookup.specs.Loads.{after_looks, after_try, load_events, loaded_at}
use Rattle.btree_lookup.specs.Tries.{EndsAgain, EndsAtLeaf, TriesTree}
use Rattle.btree_lookup.specs.Visits.{Agrees, IsEntry, Sees, SeesEntry, entry_member}
use Rattle.btree_lookup.specs.Ways.{AreLed}
use Rattle.btree_lookup.specs.declared.entry.SeenEntry.{SeenEntry}
use Rattle.btree_lookup.specs.declared.visit.Visit.{Visit}
use Rattle.btree_lookup.proofs.Loading.{come_in_order, last_loaded, led_more, more, still_led, version_led}
use Rattle.btree_lookup.proofs.Visiting.{agrees, still_found, told_again}
use Rattle.word_rule.proofs.NodeSights.{found_is, mark_keeps, sight_changed}

-- what holds of all members holds of one that is found
found_known : (P : Member → Type 0) (pc : ℕ) (members : List Member) (m : Member) → AllByRecursion P members → member_at pc members ≡ Some m → P m
found_known P pc [] m all e = absurd (none-some m e)
found_known P pc (x ∷ members) m all e = go (contains x.span pc) e (found_known P pc members m all.1)
  where
    go : (b : Bool) → (if b then Some x else member_at pc members) ≡ Some m → (member_at pc members ≡ Some m → P m) → P m
    go true e' later = subst P (same_Some _ _ e') all.0
    go false e' later = later e'

-- what a whole try leaves as it was
pub writes_same : (t : Terms) (pc : ℕ) (k k' : CallerData) (result : _) → TriesTree t pc k k' result → k'.log.trace.writes ≡ k.log.trace.writes
writes_same t pc k k' result h = ap (λ (z : CallerData). z.log.trace.writes) h.log

pub few_loads : (t : Terms) (pc : ℕ) (k k' : CallerData) (result : _) → TriesTree t pc k k' result → length k'.log.trace.loads ≤ length k.log.trace.loads + 500
few_loads t pc k k' result h =
    let is = ap (λ (z : CallerData). length z.log.trace.loads) h.log in
    let sum = length-append k.log.trace.loads (load_events k.log h.loaded) in
    let same : length (load_events k.log h.loaded) ≡ length h.loaded = length-map h.loaded (λ (w : LoadedWord). load_of k.log w.at w.value) in
    let few = h.few in omega (arith, is, sum, same, few)

module _ (t : Terms) (pc : ℕ) (k : CallerData) (visit : Visit) (bottom : visit.level ≡ 0) (entry : Option SeenEntry) (k1 : CallerData) (w : SeesEntry t pc k visit entry k1) (clock : ℕ) (k2 : CallerData)
    (clocked : AfterClock t ask.Nothing clock k1.log k2.log) (rest : k2 ≡ record k1 { log = k2.log }) where
  abbrev s : Sees t pc k visit 13 k1
  s = w.sees

  abbrev past : List Update
  past = clocked.0

  tells : ClockTells t clock k1.log past
  tells = clocked.2.0

  abbrev first : LoadedWord
  first = loaded_at CLOCK clock

  abbrev sights : Sights
  sights = record { nodes = map (with_clock (lower clock)) s.sights.nodes; copies = copies_after_clock clock s.sights.copies }

  -- the caller after the load of the clock, as the try's beginning has it
  abbrev then_caller : CallerData
  then_caller = record k { log = record (after_looks (s.loaded ++ first ∷ []) sights k.log) { past = past } }

  then_is : k2 ≡ then_caller
  then_is =
      rest
      ∙ ((λ i. record k1 { log = clocked.2.2 i })
      ∙ (ap (λ (z : CallerData). record z { log = after_clock clock past clocked.1 z.log }) s.log
      ∙ (λ i. record k {
        log = record k.log {
          past = past;
          trace = record k.log.trace { loads = more k.log s.loaded CLOCK clock i };
          sights = sights;
          receipts = record k.log.receipts { own = (ap (λ rs. k.log.receipts.own ++ rs) clocked.2.1 ∙ append-nil k.log.receipts.own) i };
        };
      })))

  begins : IsPrefix k.log.past past
  begins = subst (λ (z : CallerData). IsPrefix z.log.past past) s.log tells.begins

  abbrev leaf_sight : NodeSight
  leaf_sight = with_clock (lower clock) s.sight

  leaf_there : sight_of visit.node sights.nodes ≡ Some leaf_sight
  leaf_there = sight_changed visit.node (with_clock (lower clock)) (λ _. refl) s.sights.nodes ∙ ap (option_map (with_clock (lower clock))) s.found

  clock_led : AreLed pc [] (s.loaded ++ first ∷ [])
  clock_led = led_more pc [] s.loaded first s.led (inl refl)

  pub leaf_alone : (found : ℕ) → IsAlone k.log.lineage → AloneTells visit.node found k2.log → visit.version ≡ found
  leaf_alone found alone told = still_found k (s.loaded ++ first ∷ []) sights visit.node visit.version found
      (Contains-append_left s.loaded (first ∷ []) (loaded_at (node_place visit.node) visit.version) s.version) alone (subst (λ (z : CallerData). AloneTells visit.node found z.log) then_is told)

  module _ (found : ℕ) (k3 : CallerData) (looks : k3 ≡ record k2 { log = after_node_version (ask.Registered pc) visit.node found k2.log }) where
    abbrev second : LoadedWord
    second = loaded_at (node_place visit.node) found

    abbrev loaded : List LoadedWord
    loaded = (s.loaded ++ first ∷ []) ++ second ∷ []

    abbrev receipts : List Receipt
    receipts = receipts_after_version then_caller.log (ask.Registered pc) found (sight_of visit.node sights.nodes)

    abbrev last_sights : Sights
    last_sights = record sights { nodes = sights_after_version visit.node found (sight_of visit.node sights.nodes) sights.nodes }

    last_is : k3 ≡ record k { log = after_try loaded past last_sights receipts k.log }
    last_is =
        looks
        ∙ (ap (λ (z : CallerData). record z { log = after_node_version (ask.Registered pc) visit.node found z.log }) then_is
        ∙ (λ i. record k {
          log = record k.log {
            past = past;
            trace = record k.log.trace { loads = more k.log (s.loaded ++ first ∷ []) (node_place visit.node) found i };
            sights = last_sights;
            receipts = record k.log.receipts { own = k.log.receipts.own ++ receipts };
          };
        }))

    all_led : AreLed pc [] loaded
    all_led = led_more pc [] (s.loaded ++ first ∷ []) second clock_led (version_led pc (s.loaded ++ first ∷ []) visit.node found (still_led pc s.loaded (first ∷ []) visit.node s.way))

    count : length loaded ≤ 245
    count = let a = length-append (s.loaded ++ first ∷ []) (second ∷ []) in let b = length-append s.loaded (first ∷ []) in let f = s.few in omega (arith, a, b, f)

    receipts_at : receipts ≡ (if visit.version == found then try_receipts then_caller.log (ask.Registered pc) leaf_sight (Some (lower clock)) else [])
    receipts_at = ap (receipts_after_version then_caller.log (ask.Registered pc) found) leaf_there ∙ ap (λ v. if v == found then try_receipts then_caller.log (ask.Registered pc) leaf_sight (Some (lower clock)) else []) s.same

    -- the leaf's version has changed
    pub leaf_changed : visit.version ≢ found → EndsAgain t pc k (Changed (node_place visit.node) visit.version found) k3
    leaf_changed other = record {
      loaded = loaded;
      past = past;
      sights = last_sights;
      begins = begins;
      led = all_led;
      few = count;
      answer = (visit.node, (s.within, refl, other, come_in_order (loaded_at (node_place visit.node) visit.version) second (s.loaded ++ first ∷ []) (Contains-append_left s.loaded (first ∷ []) (loaded_at (node_place visit.node) visit.version) s.version)));
      log = last_is ∙ ap (λ rs. record k { log = after_try loaded past last_sights rs k.log }) (receipts_at ∙ ap (λ b. if b then try_receipts then_caller.log (ask.Registered pc) leaf_sight (Some (lower clock)) else []) (ne_eqb visit.version found other));
    }

    module _ (same : found ≡ visit.version) (told : VersionTells t (lock.Node visit.node) found k2.log) where
      pub terms : k.log.terms ≡ t
      terms = subst (λ (z : CallerData). z.log.terms ≡ t) then_is told.0

      of_node : IsOfNode t past leaf_sight
      of_node = let z = subst (λ (z : CallerData). VersionTells t (lock.Node visit.node) found z.log) then_is told in told_again t visit.node found then_caller.log leaf_sight z.0 z.1 leaf_there (s.same ∙ sym same)

      agreed : Agrees t s.sight of_node.shape
      agreed = let a = agrees t past leaf_sight of_node in record { words = a.words; spells = a.spells; loaded_so = a.loaded_so; live = a.live }

      -- what is registered is found among the entries
      now : member_at pc (state_after (start t) past).registered ≡ option_map entry_member entry
      now = sym ((of_node.entries tells.updates (ap is_some s.placed) (w.found of_node.shape agreed).2).1 pc (w.found of_node.shape agreed).3) ∙ (w.found of_node.shape agreed).0

      pub leaf_entry : IfSome entry IsEntry
      leaf_entry = (w.found of_node.shape agreed).1

      at_stamp : state_at (start t) past (lower clock) ≡ state_after (start t) past
      at_stamp = ap (state_after (start t)) (take_all (lower clock) past (let u = tells.updates in omega (arith, u)))

      answer_then : query half.Registered pc (state_at (start t) past (lower clock)) ≡ option_map entry_member entry
      answer_then = ap (query half.Registered pc) at_stamp ∙ now

      is_leaf : is_leaf_for pc (place_of leaf_sight) ≡ true
      is_leaf =
          ap (is_leaf_for pc) s.placed
          ∙ (λ i. eq-eqb s.place.level 0 (s.level ∙ bottom) i && le-leb s.place.low pc s.inside.0 i && le-leb pc s.place.high s.inside.1 i)

      made : receipts ≡ Query half.Registered pc (found_at (query half.Registered pc (state_at (start t) past (lower clock))) (lower clock)) ∷ []
      made =
          receipts_at
          ∙ (ap (λ b. if b then try_receipts then_caller.log (ask.Registered pc) leaf_sight (Some (lower clock)) else []) (eq-eqb visit.version found (sym same))
          ∙ ((λ i. if is_leaf i && eq-eqb (lower clock) (length past) tells.updates i then (query_receipt half.Registered then_caller.log pc (lower clock) ∷ []) else [])
          ∙ ap (λ u. Query half.Registered pc (found_at (query half.Registered pc (state_at (start u) past (lower clock))) (lower clock)) ∷ []) terms))

      known : (o : Option Member) → member_at pc (state_after (start t) past).registered ≡ o → IfSome o (IsMemberOf t)
      known None e = tt
      known (Some m) e = found_known (IsMemberOf t) pc (state_after (start t) past).registered m tells.entries e

      -- the sight of the leaf is kept as it was
      leaf_last : sight_of visit.node last_sights.nodes ≡ Some leaf_sight
      leaf_last =
          ap (λ o. sight_of visit.node (sights_after_version visit.node found o sights.nodes)) leaf_there
          ∙ (ap (λ b. sight_of visit.node (if b then map (mark_child leaf_sight) sights.nodes else (if found % 2 == 0 then (sight_begun visit.node found ∷ without_sight visit.node sights.nodes) else sights.nodes))) (eq-eqb s.sight.version found (s.same ∙ sym same))
          ∙ (sight_changed visit.node (mark_child leaf_sight) (mark_keeps leaf_sight) sights.nodes
          ∙ (ap (option_map (mark_child leaf_sight)) leaf_there
          ∙ ap (λ b. Some (if b then leaf_sight else record leaf_sight { mark = or_mark (place_under s.sight.node leaf_sight (place_of leaf_sight)) s.sight.mark })) (eq-eqb s.sight.node s.sight.node refl))))

      ends_there : EndsAtLeaf pc (lower clock) loaded last_sights
      ends_there = record {
        leaf = visit.node;
        sight = leaf_sight;
        kept = leaf_last;
        live = is_leaf;
        clocked = refl;
        before = s.loaded;
        clock = clock;
        begun = subst (λ v. Contains s.loaded (loaded_at (node_place visit.node) v)) (sym s.same) s.version;
        stood = ap (λ v. (s.loaded ++ first ∷ []) ++ loaded_at (node_place visit.node) v ∷ []) (same ∙ sym s.same);
        stamped = refl;
      }

      -- the answer is that of the state at the stamp
      pub leaf_found : (found' : Found) → member_of found' ≡ option_map entry_member entry → stamp_of found' ≡ lower clock → TriesTree t pc k k3 (Ok found')
      leaf_found found' member stamp = record {
        loaded = loaded;
        past = past;
        sights = last_sights;
        begins = begins;
        led = all_led;
        few = count;
        answer = (
          stamp ∙ tells.updates,
          (clock, (Contains-append_left (s.loaded ++ first ∷ []) (second ∷ []) first (last_loaded s.loaded first), sym stamp)),
          ap (λ n. query half.Registered pc (state_at (start t) past n)) stamp ∙ (answer_then ∙ sym member),
          subst (λ o. IfSome o (IsMemberOf t)) (sym member) (known (option_map entry_member entry) now),
          subst (λ n. EndsAtLeaf pc n loaded last_sights) (sym stamp) ends_there,
        );
        log = last_is ∙ ap (λ rs. record k { log = after_try loaded past last_sights rs k.log })
            (made ∙ ap (λ z. Query half.Registered pc z ∷ []) ((λ i. found_at ((answer_then ∙ sym member) i) (sym stamp i)) ∙ found_is found'));
      }
