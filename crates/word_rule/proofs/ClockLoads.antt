-- A load of the clock keeps the rule: all of the history is seen, and what was asked is answered.
use Rattle.std.proofs.Common.{◌≡◌, ℕ, ◌+◌, ◌≤◌, ◌%◌, ◌↔◌, inl, inr, List, [], ◌∷◌, ◌++◌, length, length-append, get_or, set, map, take_all, Contains, sym, refl, ap, ◌∙◌, subst, arith, ◌==◌, Bool, true, false, true≢false, IsTrue, Option, Some, None, IfSome, IsSome, IsSomeAnd, append-nil, if◌then◌else◌, ⊎_elim, ◌≢◌}
use Rattle.std.specs.List.{AllByRecursion}
use Rattle.std.proofs.lemmas.List.{nil_from_length}
use mathlib.Core.Option.{none, some, some-injective}
use lib.ListN.{get_elem?}
use Rattle.atomic_table.specs.Table.{step, keeps, Allows}
use Rattle.reg_model.specs.History.{state_after, state_at}
use Rattle.reg_model.specs.declared.span.Member.{Member}
use Rattle.reg_model.specs.declared.answer.Half.TheVariants as half
use Rattle.reg_model.specs.declared.answer.Update.{Update}
use Rattle.reg_model.specs.declared.answer.Receipt.{Receipt}
use Rattle.reg_model.proofs.Histories.{lawful_history}
use Rattle.reg_model.specs.SpanData.{contains}
use Rattle.reg_model.specs.Query.{member_at}
use Rattle.tree_shape.specs.NodeData.{IsLeaf, IsInFences, LiesInFences, entries_of}
use Rattle.tree_laws.specs.Trees.{Contents, HasEntry}
use Rattle.tree_laws.specs.Lawful.{IsTree}
use Rattle.word_rule.specs.declared.log.ReceiptList.{ReceiptList}
use Rattle.word_rule.specs.declared.log.Ask.{Ask}
use Rattle.word_rule.specs.declared.log.Ask.TheVariants as ask
use Rattle.word_rule.specs.declared.log.CopySight.{CopySight}
use Rattle.word_rule.specs.declared.log.LoadEvent.{LoadEvent}
use Rattle.word_rule.specs.declared.log.NodeSight.{NodeSight}
use Rattle.word_rule.specs.declared.log.Terms.{Terms}
use Rattle.word_rule.specs.declared.log.Log.{Log}
use Rattle.word_rule.specs.Places.{lower, upper}
use Rattle.word_rule.specs.SharedWords.{SharedWords, memory_of}
use Rattle.word_rule.specs.Logs.{is_gone, turns, load_of, own_list}
use Rattle.word_rule.specs.Sights.{after_clock, copies_after_clock, query_receipt, walk_receipts, with_clock}
use Rattle.word_rule.specs.Callers.{total, CallersHold, LogHolds, IsMemberOf, AtLoader, start}
use Rattle.word_rule.specs.Copies.{ListsAll, ListsMembers, CopySightHolds, IsBehind}
use Rattle.word_rule.specs.Observations.{AreInside, SightHolds, WasFull, ObservationsHold, HadMembers, IsFullCount, last_moment}
use Rattle.word_rule.specs.TableInvariant.{TableInvariant}
use Rattle.word_rule.specs.Clock.{IsSeen, ClockTells, MayAsk, AreAsked}
use Rattle.word_rule.specs.TreeRefusals.{Appends, AppendsRefusal, WasFilledSince, WereMade}
use Rattle.reg_model.specs.declared.answer.Update.TheVariants as update
use Rattle.reg_model.specs.Receipt.{WasFilled, IsRight}
use Rattle.word_rule.specs.Steps.{IsRefusalOf, MayRefuse, Refuses}
use Rattle.word_rule.specs.declared.log.LoaderHolding.{LoaderHolding}
use Rattle.word_rule.proofs.CopyStores.{loader_held}
use Rattle.word_rule.proofs.TreeRefusals.{ShownLeaves, found_there, held_inside, registered_ordered, register_refused, deregister_refused, replace_refused}
use Rattle.word_rule.proofs.Answering.{callers_told, Told, told_record, told_numbers, all_ended}
use Rattle.word_rule.proofs.Refusals.{HoldsNow, query_at, query_answers, refusal}
use Rattle.word_rule.specs.Plays.{Seated, loads_clock}
use Rattle.word_rule.proofs.Facts.{total_same, part_of_total, after_step, decided}
use Rattle.word_rule.proofs.Each.{all_map, all_append, all_of, some_with}
use Rattle.word_rule.proofs.CallersFrame.{none_elsewhere, idle_stays}
use Rattle.word_rule.proofs.NodesFrame.{nodes_same}
use Rattle.word_rule.proofs.Frames.{Sit, load_step, still_after_load}
use Rattle.word_rule.proofs.Listings.{contains_find, lists_same, loaded_members, none_registered, registered_members, start_lawful, state_fixed, listed_few}
use Rattle.word_rule.proofs.Joins.{prefix_both, records_later}
use Rattle.word_rule.proofs.ObservationsFrame.{longer_length}
use Rattle.word_rule.proofs.Alone.{made_all, seen_all}
use Rattle.std.proofs.lemmas.Option.{same_Some}

-- a live leaf's entries are those of the tree inside its fences: a law of tree_shape
pub record LeafLaw : Type 0 where
  pub kind : (f : Contents) (live : ℕ → Bool) (n : ℕ) → IsTree f live → IsTrue (live n) → IsLeaf (f n) ↔ ((f n).level ≡ 0)
  pub entries : (f : Contents) (live : ℕ → Bool) (leaf : ℕ) (m : Member) → IsTree f live → IsTrue (live leaf) → IsLeaf (f leaf) → Contains (entries_of (f leaf)) m ↔ (HasEntry f live m × LiesInFences m.span (f leaf))
  pub found : (f : Contents) (live : ℕ → Bool) (leaf pc : ℕ) (m : Member) → IsTree f live → IsTrue (live leaf) → IsLeaf (f leaf) → IsInFences pc (f leaf) → (member_at pc (entries_of (f leaf)) ≡ Some m) ↔ (HasEntry f live m × IsTrue (contains m.span pc))

-- A search that finds exactly those that are there and contain the address finds what any search
-- among them does.
searched : (pc : ℕ) (entries members : List Member) → ((m : Member) → (member_at pc entries ≡ Some m) ↔ (Contains members m × (contains m.span pc ≡ true))) → member_at pc entries ≡ member_at pc members
searched pc entries members exact = go (member_at pc entries) refl (member_at pc members) refl
  where
    go : (o : Option Member) → member_at pc entries ≡ o → (p : Option Member) → member_at pc members ≡ p → member_at pc entries ≡ member_at pc members
    go o e (Some m) f = (exact m).1 (found_there pc members m f) ∙ sym f
    go None e None f = e ∙ sym f
    go (Some m) e None f = let d = (exact m).0 e in absurd (true≢false (sym (subst IsSome f (contains_find (λ (x : Member). contains x.span pc) members m d.0 d.1))))

-- what is asked of one's own terms
pub may_ask : (a b : Ask) (t u : Terms) (v : Log) → a ≡ b → t ≡ u → MayAsk t a v → MayAsk u b v
may_ask a b t u v same terms h = subst (λ z. MayAsk z b v) terms (subst (λ z. MayAsk t z v) same h)

module _ (law : LeafLaw) (t : Terms) (slots id : ℕ) (me : Seated) (live : is_gone me.0.role ≡ false) (a : Ask) (may : MayAsk t a me.0) where
  abbrev Rule : Sit → Type 0
  Rule s = TableInvariant t s.words s.views

  module _ (s : Sit) (r : Rule s) (at : get_elem? s.views id ≡ some me.0) where
    abbrev m : SharedWords
    m = memory_of t s.words

    abbrev found : ℕ
    found = get_or s.words 0 0

    abbrev history : List Update
    history = r.memory.history

    abbrev event : LoadEvent
    event = load_of me.0 0 (get_or s.words 0 0)

    log : LogHolds t r.memory.history (total (λ v. v.made) s.views + 1) me.0
    log = r.memory.callers.each id me.0 at

    terms : me.0.terms ≡ t
    terms = (r.memory.callers.each id me.0 at).terms live

    low : get_or s.words 0 0 % 4294967296 ≡ length r.memory.history
    low = r.memory.callers.of_history.updates

    -- the receipt of a walk
    walked : (pc : ℕ) (o : Option CopySight) → Told t r.memory.history (total (λ v. v.made) s.views + 1) (own_list me.0.receipts) (walk_receipts (record me.0 { past = r.memory.history }) (get_or s.words 0 0) pc o)
    walked pc None = inl refl
    walked pc (Some g) = go (g.guard == upper (get_or s.words 0 0))
      where
        go : (b : Bool) → Told t r.memory.history (total (λ v. v.made) s.views + 1) (own_list me.0.receipts) (if b then (query_receipt half.Loaded (record me.0 { past = r.memory.history }) pc (lower (get_or s.words 0 0)) ∷ []) else [])
        go true = inr (query_at t r.memory.history half.Loaded pc (length r.memory.history), ((λ i. query_at (terms i) r.memory.history half.Loaded pc (low i) ∷ []), query_answers t r.memory.history half.Loaded pc _ _))
        go false = inl refl

    -- the receipt of a refusal by what the active copy lists
    refused : (u : Update) → IsSomeAnd me.0.loader (MayRefuse t u) → (x : Receipt) × (IsRefusalOf u (state_after (start me.0.terms) r.memory.history) (lower (get_or s.words 0 0)) x × HoldsNow t r.memory.history (total (λ v. v.made) s.views + 1) (last_moment me.0.receipts.since me.0.receipts.own) x)
    refused u may =
        let h = some_with me.0.loader (MayRefuse t u) may in
        let mine = loader_held m r.memory.callers.holder id me.0.loader h.0 h.1.0 (r.memory.callers.at_loader id me.0 at) in
        let copy : h.0.active ≡ m.copies (upper (get_or s.words 0 0) % 2) = mine.1.active in
        let listed : ListsAll (m.copies (upper (get_or s.words 0 0) % 2)) (state_after (start t) r.memory.history).loaded = r.memory.active in
        let members_are : h.1.1.0 ≡ listed.members = lists_same (m.copies (upper (get_or s.words 0 0) % 2)) h.1.1.0 listed.members (subst (λ ws. ListsMembers ws h.1.1.0) copy h.1.1.1.0) listed.lists in
        let told = refusal t r.memory.history (total (λ v. v.made) s.views + 1) (last_moment me.0.receipts.since me.0.receipts.own) r.memory.callers.of_history.terms r.memory.callers.of_history.lawful r.memory.callers.of_history.members listed.members listed.lists.ascending listed.same u (subst (Refuses t u) members_are h.1.1.1.1) in
        (told.0, (subst (λ k. IsRefusalOf u (state_after (start k) r.memory.history) (lower (get_or s.words 0 0)) told.0) (sym terms) (subst (λ k. IsRefusalOf u (state_after (start t) r.memory.history) k told.0) (sym low) told.1.0), told.1.1))

    -- a live leaf's entries are the members of now inside its fences
    inside_now : (n : ℕ) → IsTrue (r.memory.shadow.live n) → (r.memory.shadow.settled n).level ≡ 0 → AreInside (state_after (start t) r.memory.history).registered (r.memory.shadow.settled n)
    inside_now n live level =
        let tree = r.memory.nodes.lawful.tree in
        let is_leaf = (law.kind r.memory.shadow.settled r.memory.shadow.live n tree live).1 level in (
          (λ x.
              let leaf = law.entries r.memory.shadow.settled r.memory.shadow.live n x tree live is_leaf in (
                (λ c. let d = leaf.0 c in ((r.memory.nodes.entries x).0 d.0, d.1.0, d.1.1)),
                (λ c. leaf.1 ((r.memory.nodes.entries x).1 c.0, (c.1, c.2))),
              )),
          (λ pc inside. searched pc (entries_of (r.memory.shadow.settled n)) (state_after (start t) r.memory.history).registered (λ x.
              let leaf = law.found r.memory.shadow.settled r.memory.shadow.live n pc x tree live is_leaf inside in (
                (λ e. let d = leaf.0 e in ((r.memory.nodes.entries x).0 d.0, d.1)),
                (λ c. leaf.1 ((r.memory.nodes.entries x).1 c.0, c.1)),
              ))),
        )

    -- what its held leaves show
    leaves : ShownLeaves t r.memory.history (total (λ v. v.made) s.views + 1) me.0
    leaves = record {
      disjoint = (lawful_history (start t) r.memory.history (start_lawful t r.memory.callers.of_history.terms) r.memory.callers.of_history.lawful).registered;
      ordered = registered_ordered t m.nodes s.views r.memory.history r.memory.shadow r.memory.nodes;
      inside = held_inside t m.nodes s.views r.memory.history r.memory.shadow r.memory.nodes inside_now id me.0 at;
      full = (r.memory.observations id me.0 at).full;
    }

    -- of the callers it knows itself and those that it made, and all where it is alone
    were_made : WereMade me.0 (total (λ v. v.made) s.views + 1)
    were_made = record {
      least = (let mine = part_of_total (λ v. v.made) s.views id me.0 at in omega (arith, mine));
      alone = λ alone. ap (λ k. k + 1) (made_all t m s.views r.memory.history r.memory.callers id me.0 at alone);
    }

    -- what a receipt tells of fullness, in its own terms
    filled_so : (x : Receipt) → WasFilled (start t) r.memory.history t.nodes (total (λ v. v.made) s.views + 1) (last_moment me.0.receipts.since me.0.receipts.own) x → WasFilledSince me.0 me.0.terms r.memory.history x
    filled_so x h = subst (λ k. WasFilledSince me.0 k r.memory.history x) (sym terms) (total (λ v. v.made) s.views + 1, (were_made, h))

    appended : (x : Receipt) → IsRight (state_after (start me.0.terms) r.memory.history) x → HoldsNow t r.memory.history (total (λ v. v.made) s.views + 1) (last_moment me.0.receipts.since me.0.receipts.own) x → (y : Receipt) → x ≡ y → Appends y me.0 (after_clock (get_or s.words 0 0) r.memory.history (x ∷ []) me.0)
    appended x right now y same = record {
      own = ap (λ z. me.0.receipts.own ++ z ∷ []) same;
      right = subst (IsRight (state_after (start me.0.terms) r.memory.history)) same right;
      filled = subst (WasFilledSince me.0 me.0.terms r.memory.history) same (filled_so x now.holds.filled);
    }

    pub asked : (b : Ask) → MayAsk t b me.0 → (rs : List Receipt) × (AreAsked b (get_or s.words 0 0) me.0.sights.copies (record me.0 { past = r.memory.history }) rs × (Told t r.memory.history (total (λ v. v.made) s.views + 1) (own_list me.0.receipts) rs × AppendsRefusal b (get_or s.words 0 0) me.0 (after_clock (get_or s.words 0 0) r.memory.history rs me.0)))
    asked ask.Nothing q = ([], (refl, (inl refl, tt)))
    asked (ask.Registered pc) q = ([], (refl, (inl refl, tt)))
    asked (ask.Loaded pc) q = (_, (refl, (walked pc me.0.sights.copies, tt)))
    asked (ask.Refused (update.Load n)) q = let x = refused (update.Load n) q in (x.0 ∷ [], ((x.0, (refl, x.1.0)), (inr (x.0, (refl, x.1.1)), tt)))
    asked (ask.Refused (update.Unload base)) q = let x = refused (update.Unload base) q in (x.0 ∷ [], ((x.0, (refl, x.1.0)), (inr (x.0, (refl, x.1.1)), tt)))
    asked (ask.Refused (update.Register n)) q =
        let x = register_refused t r.memory.history (total (λ v. v.made) s.views + 1) me.0 (lower (get_or s.words 0 0)) low terms leaves n q in (
          x.0 ∷ [],
          (
            (x.0, (refl, x.1.right)),
            (inr (x.0, (refl, x.1.holds)), ((λ other h. appended x.0 x.1.right.3 x.1.holds _ (x.1.overlap other h)), (λ h. appended x.0 x.1.right.3 x.1.holds _ (x.1.full h)))),
          ),
        )
    asked (ask.Refused (update.Deregister base)) q =
        let x = deregister_refused t r.memory.history (total (λ v. v.made) s.views + 1) me.0 (lower (get_or s.words 0 0)) low terms leaves base q in (_, ((_, (refl, x.0)), (inr (_, (refl, x.1)), λ h. record { own = refl; right = x.0.3; filled = filled_so _ x.1.holds.filled })))
    asked (ask.Refused (update.Replace n)) q =
        let x = replace_refused t r.memory.history (total (λ v. v.made) s.views + 1) me.0 (lower (get_or s.words 0 0)) low terms leaves n q in (_, ((_, (refl, x.0)), (inr (_, (refl, x.1)), λ h. record { own = refl; right = x.0.3; filled = filled_so _ x.1.holds.filled })))

    abbrev receipts : List Receipt
    receipts = (asked a may).0

    abbrev w : Log
    w = after_clock (get_or s.words 0 0) r.memory.history (asked a may).0 me.0

    told : Told t r.memory.history (total (λ v. v.made) s.views + 1) (own_list me.0.receipts) (asked a may).0
    told = (asked a may).1.1.0

    since : me.0.receipts.since ≤ length r.memory.history
    since = let low = log.receipts.since in let seen = longer_length me.0.past r.memory.history log.begins in omega (arith, low, seen)

    made_same : total (λ v. v.made) (set s.views id w) ≡ total (λ v. v.made) s.views
    made_same = total_same (λ v. v.made) s.views id me.0 w at refl

    callers : CallersHold t m (set s.views id w) r.memory.history
    callers =
        callers_told t m s.views r.memory.history r.memory.callers id me.0 w at refl refl refl refl refl (λ n. let e = told_numbers t r.memory.history (total (λ v. v.made) s.views + 1) (own_list me.0.receipts) receipts n told in omega (arith, e)) (record {
          terms = λ _. terms;
          begins = ([], append-nil r.memory.history);
          receipts = record { since = since; own = told_record t me.0.past r.memory.history (total (λ v. v.made) s.views + 1) (own_list me.0.receipts) receipts log.begins since told log.receipts.own; joined = records_later t me.0.past r.memory.history _ _ log.begins (omega arith) me.0.receipts.joined log.receipts.joined; heard = prefix_both me.0.receipts.heard me.0.past r.memory.history log.receipts.heard log.begins };
          idle = idle_stays me.0 w refl refl log.idle;
        })

    -- where the clock is loaded, a sight that stands knows the members of then
    clocked : (g : NodeSight) → SightHolds t m.nodes r.memory.history r.memory.shadow g → SightHolds t m.nodes r.memory.history r.memory.shadow (with_clock (lower (get_or s.words 0 0)) g)
    clocked g h = record {
      within = h.within;
      even = h.even;
      later = h.later;
      places = h.places;
      loaded = h.loaded;
      marked = h.marked;
      clock = λ stand. (
        (let l = low in omega (arith, l)),
        λ live level.
            let now : state_at (start t) r.memory.history (lower (get_or s.words 0 0)) ≡ state_after (start t) r.memory.history = ap (state_after (start t)) (take_all (lower (get_or s.words 0 0)) r.memory.history (let l = low in omega (arith, l))) in
            subst (λ st. AreInside st.registered (r.memory.shadow.settled g.node)) (sym now) (inside_now g.node live level),
      );
    }

    all_clocked : (sights : List NodeSight) → AllByRecursion (SightHolds t m.nodes r.memory.history r.memory.shadow) sights → AllByRecursion (SightHolds t m.nodes r.memory.history r.memory.shadow) (map (with_clock (lower (get_or s.words 0 0))) sights)
    all_clocked [] h = tt
    all_clocked (g ∷ sights) h = (clocked g h.0, all_clocked sights h.1)

    fresh : CopySightHolds t (get_or s.words 0 0) m.copies (record { guard = upper (get_or s.words 0 0); words = [] })
    fresh = record { earlier = omega arith; own = tt; loaded = λ _. tt }

    copies : (o : Option CopySight) → IfSome o (CopySightHolds t (get_or s.words 0 0) m.copies) → IfSome (copies_after_clock (get_or s.words 0 0) o) (CopySightHolds t (get_or s.words 0 0) m.copies)
    copies None h = fresh
    copies (Some g) h = go (g.guard == upper (get_or s.words 0 0))
      where
        go : (b : Bool) → IfSome (if b then Some g else Some (record { guard = upper (get_or s.words 0 0); words = [] })) (CopySightHolds t (get_or s.words 0 0) m.copies)
        go true = h
        go false = fresh

    not_full : (rs : ReceiptList) → WasFull t r.memory.history (total (λ v. v.made) s.views + 1) rs event
    not_full rs = record {
      count = λ _. all_of (λ h. IsFullCount event h → HadMembers t r.memory.history rs 10) (λ h is_full. absurd (let e = is_full.0 in omega (arith, e))) me.0.holdings.held;
      head = λ _ is _ _. absurd (omega (arith, is));
      highest = λ top. absurd (let e = top.0 in omega (arith, e));
    }

    mine : ObservationsHold t m r.memory.history (total (λ v. v.made) s.views + 1) r.memory.shadow w
    mine =
        let o = r.memory.observations id me.0 at in
        let len : length (me.0.receipts.own ++ receipts) ≡ length me.0.receipts.own + length receipts = length-append me.0.receipts.own receipts in record {
          sights = all_clocked me.0.sights.nodes o.sights;
          copies = copies me.0.sights.copies o.copies;
          full = all_append (WasFull t r.memory.history (total (λ v. v.made) s.views + 1) (own_list w.receipts)) me.0.trace.loads (event ∷ []) (all_ended t r.memory.history (total (λ v. v.made) s.views + 1) (turns me.0.trace) (own_list me.0.receipts) receipts me.0.trace.loads o.earlier o.full) (not_full (own_list w.receipts), tt);
          earlier = all_append (λ l. (l.turns ≤ turns me.0.trace) × (l.receipts ≤ length (me.0.receipts.own ++ receipts))) me.0.trace.loads (event ∷ [])
              (all_map (λ l. (l.turns ≤ turns me.0.trace) × (l.receipts ≤ length me.0.receipts.own)) (λ l. (l.turns ≤ turns me.0.trace) × (l.receipts ≤ length (me.0.receipts.own ++ receipts))) (λ l e. let b = e.1 in (e.0, omega (arith, b, len))) me.0.trace.loads o.earlier)
              ((omega arith, omega (arith, len)), tt);
        }

    pub kept_table : TableInvariant t (set s.words 0 (get_or s.words 0 0)) (set s.views id w)
    kept_table = load_step t s.words s.views r id w 0 (record {
      history = r.memory.history;
      callers = callers;
      shadow = r.memory.shadow;
      nodes = nodes_same s.views id me.0 w at t m.nodes r.memory.history r.memory.shadow refl r.memory.nodes;
      active = r.memory.active;
      observations = subst (λ c. (j : ℕ) (v : Log) → get_elem? (set s.views id w) j ≡ some v → ObservationsHold t m r.memory.history (c + 1) r.memory.shadow v) (sym made_same)
          (after_step (λ _ v. ObservationsHold t m r.memory.history (total (λ z. z.made) s.views + 1) r.memory.shadow v) s.views id w mine (λ j v _ there. r.memory.observations j v there));
    }) (λ alone. still_after_load s.words me.0 w event refl refl refl (r.alone id me.0 at alone))

    seen_copy : (o : Option CopySight) → IfSome o (CopySightHolds t (get_or s.words 0 0) m.copies) → IfSome o (λ g. g.guard ≡ upper (get_or s.words 0 0) → IsSeen t (state_after (start t) r.memory.history).loaded g)
    seen_copy None h = tt
    seen_copy (Some g) h = λ guard. record {
      copy = m.copies (g.guard % 2);
      loaded_so = h.loaded guard;
      listing = subst (λ u. ListsAll (m.copies (u % 2)) (state_after (start t) r.memory.history).loaded) (sym guard) r.memory.active;
      few = listed_few t r.memory.history r.memory.callers.of_history.terms r.memory.callers.of_history.members r.memory.callers.of_history.lawful (subst (λ u. ListsAll (m.copies (u % 2)) (state_after (start t) r.memory.history).loaded) (sym guard) r.memory.active);
    }

    held_copy : (o : Option LoaderHolding) → AtLoader m r.memory.callers.holder id o → IfSome o (λ h. (upper (get_or s.words 0 0) ≡ h.published) × ListsAll h.active (state_after (start t) r.memory.history).loaded)
    held_copy None h = tt
    held_copy (Some g) h = (sym h.1.published, subst (λ ws. ListsAll ws (state_after (start t) r.memory.history).loaded) (sym h.1.active) r.memory.active)

    -- the holder alone has a part in the lock, so where it stored nothing, none did
    held_spare : (o : Option LoaderHolding) → me.0.loader ≡ o → AtLoader m r.memory.callers.holder id o → IfSome o (λ h. h.stored ≡ false → IsBehind t h.active h.spare)
    held_spare None is h = tt
    held_spare (Some g) is h = λ clean. subst (λ ws. IsBehind t ws g.spare) (sym h.1.active) (subst (IsBehind t (m.copies (upper (get_or s.words 0 0) % 2))) (sym h.1.spare)
        (r.memory.callers.spare_copy (λ j u there. ⊎_elim
        (λ (same : j ≡ id). subst (λ k. IfSome k.loader (λ z. z.stored ≡ false)) (some-injective me.0 u (sym at ∙ (ap (get_elem? s.views) (sym same) ∙ there))) (subst (λ o. IfSome o (λ z. z.stored ≡ false)) (sym is) clean))
        (λ (far : j ≢ id). none_elsewhere (memory_of t s.words) r.memory.callers.holder j u.loader (λ e. far (same_Some _ _ (sym e ∙ h.0))) (r.memory.callers.at_loader j u there)) (decided j id))))

    pub tells : ClockTells t (get_or s.words 0 0) me.0 r.memory.history
    tells = record {
      terms = terms;
      valid = r.memory.callers.of_history.terms;
      begins = log.begins;
      updates = r.memory.callers.of_history.updates;
      published = r.memory.callers.of_history.published;
      lawful = lawful_history (start t) r.memory.history (start_lawful t r.memory.callers.of_history.terms) r.memory.callers.of_history.lawful;
      members = all_append (IsMemberOf t) (state_after (start t) r.memory.history).fixed (state_after (start t) r.memory.history).loaded
          (subst (AllByRecursion (IsMemberOf t)) (sym (state_fixed (start t) r.memory.history).0) r.memory.callers.of_history.terms.members)
          (loaded_members t (start t) r.memory.history r.memory.callers.of_history.members tt);
      entries = registered_members t (start t) r.memory.history r.memory.callers.of_history.members tt;
      registered = λ all. none_registered (start t) r.memory.history all refl;
      copies = seen_copy me.0.sights.copies (r.memory.observations id me.0 at).copies;
      holder = held_copy me.0.loader (r.memory.callers.at_loader id me.0 at);
      spare_copy = held_spare me.0.loader refl (r.memory.callers.at_loader id me.0 at);
      alone = λ alone.
          let same = seen_all t m s.views r.memory.history r.memory.callers id me.0 at alone in
          let sum : length me.0.past + length log.begins.0 ≡ length r.memory.history = sym (length-append me.0.past log.begins.0) ∙ ap length log.begins.1 in
          sym (sym (append-nil me.0.past) ∙ (ap (λ rest. me.0.past ++ rest) (sym (nil_from_length log.begins.0 (omega (arith, same, sum)))) ∙ log.begins.1));
    }

  pub loads_the_clock : Allows Rule slots id me 0 (λ n. n) (loads_clock t a (step slots 0 0 0 none) me)
  loads_the_clock s r deep at small = (w s r at, keeps, tt, kept_table s r at, ((r.memory.history, (asked s r at a may).0, (tells s r at, (asked s r at a may).1.0, refl)), refl, (asked s r at a may).1.1.1))

  -- the same, told of terms that are known to be these
  pub loads_clock_of : (u : Terms) → t ≡ u → Allows Rule slots id me 0 (λ n. n) (loads_clock u a (step slots 0 0 0 none) me)
  loads_clock_of u same = subst (λ k. Allows Rule slots id me 0 (λ n. n) (loads_clock k a (step slots 0 0 0 none) me)) same loads_the_clock
