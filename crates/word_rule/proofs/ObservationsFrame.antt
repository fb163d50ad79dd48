-- What is said of sights and loads stays over a step: over what it makes of the words, and of its own log.
use Rattle.std.proofs.Common.{◌≡◌, ℕ, ◌+◌, ◌-◌, ◌*◌, ◌≤◌, List, [], ◌++◌, length, length-append, sym, ap, ◌∙◌, subst, arith, Option, Some, None, IfSome, IsTrue, append-nil}
use Rattle.std.specs.List.{AllByRecursion}
use mathlib.Core.List.{IsPrefix}
use Rattle.reg_model.specs.History.{state_at}
use Rattle.reg_model.specs.declared.answer.Update.{Update}
use Rattle.reg_model.proofs.Histories.{state_at-append}
use Rattle.word_rule.specs.declared.log.ReceiptList.{ReceiptList}
use Rattle.word_rule.specs.declared.log.Terms.{Terms}
use Rattle.word_rule.specs.declared.log.LoadEvent.{LoadEvent}
use Rattle.word_rule.specs.declared.log.NodeSight.{NodeSight}
use Rattle.word_rule.specs.declared.log.CopySight.{CopySight}
use Rattle.word_rule.specs.declared.log.Log.{Log}
use Rattle.word_rule.specs.SharedWords.{NodeWords, SharedWords}
use Rattle.word_rule.specs.Logs.{turns, own_list}
use Rattle.word_rule.specs.Sights.{place_of}
use Rattle.word_rule.specs.Callers.{start}
use Rattle.word_rule.specs.Nodes.{Shadow, IsPlaced}
use Rattle.word_rule.specs.Copies.{CopySightHolds}
use Rattle.word_rule.specs.Observations.{Stands, AreOfNode, AreInside, SightHolds, HadMembers, IsFullCount, WasFull, ObservationsHold}
use Rattle.word_rule.proofs.Each.{all_map, all_append, all_of}

-- a state of the past is that of any longer history
pub same_moment : (t : Terms) (history history' : List Update) (k : ℕ) → IsPrefix history history' → k ≤ length history → state_at (start t) history' k ≡ state_at (start t) history k
same_moment t history history' k longer inside = ap (λ p. state_at (start t) p k) (sym longer.1) ∙ state_at-append (start t) history longer.0 k inside

pub longer_length : (history history' : List Update) → IsPrefix history history' → length history ≤ length history'
longer_length history history' longer = let sum : length history + length longer.0 ≡ length history' = sym (length-append history longer.0) ∙ ap length longer.1 in omega (arith, sum)

had_members_later : (t : Terms) (history history' : List Update) (receipts : ReceiptList) (least fewer : ℕ) → IsPrefix history history' → fewer ≤ least → HadMembers t history receipts least → HadMembers t history' receipts fewer
had_members_later t history history' receipts least fewer longer less h =
    let len = longer_length history history' longer in let same = same_moment t history history' h.0 longer h.1.1 in let inside = h.1.1 in
    let many : least ≤ length (state_at (start t) history' h.0).registered = subst (λ s. least ≤ length s.registered) (sym same) h.1.2 in
    (h.0, (h.1.0, omega (arith, len, inside), omega (arith, less, many)))

pub was_full_later : (t : Terms) (history history' : List Update) (callers callers' : ℕ) (receipts : ReceiptList) (l : LoadEvent) → IsPrefix history history' → callers ≤ callers' → WasFull t history callers receipts l → WasFull t history' callers' receipts l
was_full_later t history history' callers callers' receipts l longer more r = record {
  count = λ same. all_map (λ h. IsFullCount l h → HadMembers t history receipts 10) (λ h. IsFullCount l h → HadMembers t history' receipts 10) (λ h f full. had_members_later t history history' receipts 10 10 longer (omega arith) (f full)) l.held (r.count same);
  head = λ same is empty some. had_members_later t history history' receipts (2 * (t.nodes - 4 * callers)) (2 * (t.nodes - 4 * callers')) longer (omega (arith, more)) (r.head same is empty (omega (arith, more, some)));
  highest = r.highest;
}

-- where a sight still stands, nothing of its node has changed
pub record IsKept (words words' : NodeWords) (shadow shadow' : Shadow) (s : NodeSight) : Type 0 where
  pub stands : Stands words.versions shadow s
  pub contents : words'.contents s.node ≡ words.contents s.node
  pub settled : shadow'.settled s.node ≡ shadow.settled s.node
  pub live : shadow'.live s.node ≡ shadow.live s.node

pub sight_over : (t : Terms) (words words' : NodeWords) (history history' : List Update) (shadow shadow' : Shadow) (s : NodeSight) → s.version ≤ words'.versions s.node → (Stands words'.versions shadow' s → IsKept words words' shadow shadow' s) → IsPrefix history history'
    → SightHolds t words history shadow s → SightHolds t words' history' shadow' s
sight_over t words words' history history' shadow shadow' s later kept longer r = record {
  within = r.within;
  even = r.even;
  later = later;
  places = r.places;
  loaded = λ h. let k = kept h in subst (λ c. AreOfNode c s.words) (sym k.contents) (r.loaded k.stands);
  marked = λ h. let k = kept h in marked_over (place_of s) k (r.marked k.stands);
  clock = λ h. let k = kept h in clock_over s.clock k (r.clock k.stands);
}
  where
    marked_over : (place : Option _) → IsKept words words' shadow shadow' s → IfSome place (λ f. IsTrue (shadow.live s.node) × IsPlaced (shadow.settled s.node) f) → IfSome place (λ f. IsTrue (shadow'.live s.node) × IsPlaced (shadow'.settled s.node) f)
    marked_over None k h = tt
    marked_over (Some f) k h = (subst (λ b. IsTrue b) (sym k.live) h.0, subst (λ c. IsPlaced c f) (sym k.settled) h.1)

    clock_over : (clock : Option ℕ) → IsKept words words' shadow shadow' s
        → IfSome clock (λ k. (k ≤ length history) × (IsTrue (shadow.live s.node) → (shadow.settled s.node).level ≡ 0 → AreInside (state_at (start t) history k).registered (shadow.settled s.node)))
        → IfSome clock (λ k. (k ≤ length history') × (IsTrue (shadow'.live s.node) → (shadow'.settled s.node).level ≡ 0 → AreInside (state_at (start t) history' k).registered (shadow'.settled s.node)))
    clock_over None k h = tt
    clock_over (Some n) k h =
        let len = longer_length history history' longer in let inside = h.0 in (
          omega (arith, len, inside),
          λ live level. subst (λ st. AreInside st.registered (shadow'.settled s.node)) (sym (same_moment t history history' n longer h.0))
              (subst (AreInside (state_at (start t) history n).registered) (sym k.settled) (h.1 (subst (λ b. IsTrue b) k.live live) (sym (ap (λ c. c.level) k.settled) ∙ level))),
        )

-- a log's observations over what a step makes of the words
pub observations_over : (t : Terms) (m m' : SharedWords) (history history' : List Update) (callers callers' : ℕ) (shadow shadow' : Shadow) → ((s : NodeSight) → SightHolds t m.nodes history shadow s → SightHolds t m'.nodes history' shadow' s)
    → ((s : CopySight) → CopySightHolds t m.clock m.copies s → CopySightHolds t m'.clock m'.copies s) → IsPrefix history history' → callers ≤ callers' → (v : Log) → ObservationsHold t m history callers shadow v → ObservationsHold t m' history' callers' shadow' v
observations_over t m m' history history' callers callers' shadow shadow' each copies longer more v r = record {
  sights = all_map (SightHolds t m.nodes history shadow) (SightHolds t m'.nodes history' shadow') each v.sights.nodes r.sights;
  copies = copies_over v.sights.copies r.copies;
  full = all_map (WasFull t history callers (own_list v.receipts)) (WasFull t history' callers' (own_list v.receipts)) (λ l. was_full_later t history history' callers callers' (own_list v.receipts) l longer more) v.trace.loads r.full;
  earlier = r.earlier;
}
  where
    copies_over : (o : Option CopySight) → IfSome o (CopySightHolds t m.clock m.copies) → IfSome o (CopySightHolds t m'.clock m'.copies)
    copies_over None h = tt
    copies_over (Some s) h = copies s h

-- What a step leaves of the loads of its log: it may add some.
pub record Loads (v w : Log) (more : List LoadEvent) : Type 0 where
  pub own : own_list w.receipts ≡ own_list v.receipts
  pub turns : turns v.trace ≤ turns w.trace
  pub loads : w.trace.loads ≡ v.trace.loads ++ more

-- a log after some loads more, with these sights
pub observations_own : (t : Terms) (m : SharedWords) (history : List Update) (callers : ℕ) (shadow : Shadow) (v w : Log) (more : List LoadEvent) → Loads v w more → AllByRecursion (SightHolds t m.nodes history shadow) w.sights.nodes → IfSome w.sights.copies (CopySightHolds t m.clock m.copies)
    → AllByRecursion (WasFull t history callers (own_list v.receipts)) more → AllByRecursion (λ l. (l.turns ≤ turns w.trace) × (l.receipts ≤ length v.receipts.own)) more → ObservationsHold t m history callers shadow v → ObservationsHold t m history callers shadow w
observations_own t m history callers shadow v w more loads sights copies full earlier r = record {
  sights = sights;
  copies = copies;
  full = subst (λ rs. AllByRecursion (WasFull t history callers rs) w.trace.loads) (sym loads.own) (subst (AllByRecursion (WasFull t history callers (own_list v.receipts))) (sym loads.loads) (all_append (WasFull t history callers (own_list v.receipts)) v.trace.loads more r.full full));
  earlier = subst (λ rs. AllByRecursion (λ l. (l.turns ≤ turns w.trace) × (l.receipts ≤ length rs.list)) w.trace.loads) (sym loads.own) (subst (AllByRecursion (λ l. (l.turns ≤ turns w.trace) × (l.receipts ≤ length v.receipts.own))) (sym loads.loads)
      (all_append (λ l. (l.turns ≤ turns w.trace) × (l.receipts ≤ length v.receipts.own)) v.trace.loads more
      (all_map (λ l. (l.turns ≤ turns v.trace) × (l.receipts ≤ length v.receipts.own)) (λ l. (l.turns ≤ turns w.trace) × (l.receipts ≤ length v.receipts.own)) (λ l e. let a = e.0 in let b = loads.turns in (omega (arith, a, b), e.1)) v.trace.loads r.earlier) earlier));
}

-- the same where the sights are as they were
pub observations_same : (t : Terms) (m : SharedWords) (history : List Update) (callers : ℕ) (shadow : Shadow) (v w : Log) (more : List LoadEvent) → Loads v w more → w.sights ≡ v.sights
    → AllByRecursion (WasFull t history callers (own_list v.receipts)) more → AllByRecursion (λ l. (l.turns ≤ turns w.trace) × (l.receipts ≤ length v.receipts.own)) more → ObservationsHold t m history callers shadow v → ObservationsHold t m history callers shadow w
observations_same t m history callers shadow v w more loads same full earlier r = observations_own t m history callers shadow v w more loads (subst (λ k. AllByRecursion (SightHolds t m.nodes history shadow) k.nodes) (sym same) r.sights)
    (subst (λ k. IfSome k.copies (CopySightHolds t m.clock m.copies)) (sym same) r.copies) full earlier r

-- no load more
pub no_more : (v w : Log) → own_list w.receipts ≡ own_list v.receipts → turns v.trace ≤ turns w.trace → w.trace.loads ≡ v.trace.loads → Loads v w []
no_more v w own later same = record { own = own; turns = later; loads = same ∙ sym (append-nil v.trace.loads) }

-- a load of the loader's version word tells nothing of fullness
pub of_loader : (t : Terms) (history : List Update) (callers : ℕ) (receipts : ReceiptList) (l : LoadEvent) → l.word ≡ 2 → WasFull t history callers receipts l
of_loader t history callers receipts l is = record {
  count = λ _. all_of (λ h. IsFullCount l h → HadMembers t history receipts 10) (λ h full. absurd (let e = full.0 in omega (arith, e, is))) l.held;
  head = λ _ head _ _. absurd (omega (arith, head, is));
  highest = λ top. absurd (let e = top.0 in omega (arith, e, is));
}
