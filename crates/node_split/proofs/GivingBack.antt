-- The one free node that was taken for the full root is given back; or the root has the highest level.
use Rattle.std.proofs.Common.{◌≡◌, ℕ, [], ◌∷◌, drop, sym, refl, ap, ◌∙◌, subst, not, IsTrue, None, eq-eqb, if◌then◌else◌, inl, ◌+◌, IfSome, inr, append_assoc, ◌≤◌, length, arith, Err, Bool, true, ◌≢◌, ◌<◌}
use Rattle.std.specs.List.{AllByRecursion}
use Rattle.std.proofs.lemmas.Option.{none-some}
use Rattle.tree_laws.specs.Numbers.{is_among}
use Rattle.tree_shape.specs.NodeData.{NodeData}
use Rattle.word_rule.specs.CallerData.{CallerData}
use Rattle.word_rule.specs.Held.{all_but, without_lock, held_of}
use Rattle.word_rule.specs.NodeTells.{OutTells, HeldTells}
use Rattle.word_rule.specs.Sights.{after_node_load}
use Rattle.word_rule.specs.declared.log.Holding.{Holding}
use Rattle.word_rule.specs.declared.log.Terms.{Terms}
use Rattle.word_rule.specs.Logs.{load_of}
use Rattle.word_rule.specs.Places.{node_place}
use Rattle.word_rule.specs.Spelling.{node_word, SpellsNode}
use Rattle.word_rule.proofs.Spells.{reads}
use Rattle.word_rule.specs.declared.log.Receipts.{Receipts}
use Rattle.free_list.specs.Free.{GivesFree, LosesNode}
use Rattle.version_locks.specs.declared.locking.Busy.{Busy}
use Rattle.free_list.proofs.Settled.{ExchangeLaw}
use Rattle.version_locks.specs.Locking.{FoundBusy}
use Rattle.tree_descent.specs.Paths.{StepsOnNodes, IsLeftOut}
use Rattle.tree_descent.specs.Releases.{with_release_less}
use Rattle.tree_descent.proofs.Descents.{steps_of_load}
use Rattle.tree_descent.proofs.Loading.{found_after, keeps_load, keeps_then, found_between, none_left_out}
use Rattle.tree_descent.proofs.NodeSteps.{less_release_then, steps_then, steps_so}
use Rattle.tree_descent.proofs.GivenBack.{given_steps, lost_steps}
use Rattle.tree_descent.specs.Returns.{IsGoneOrSettled}
use Rattle.tree_descent.specs.declared.descent.Held.{Held}
use Rattle.tree_descent.proofs.Storing.{found_at}
use Rattle.tree_descent.specs.Loads.{FoundNoRoom}
use Rattle.node_split.specs.Splits.{GivesBack, HoldsOneFree, LosesFree, HoldsFull, HoldsFullAlone, StaysHeld, KeepsHeld, TakesRoom, IsRoomForRoot, TakesTwo}
use Rattle.node_split.proofs.HeldParts.{AreFar, dropped, place_of_lock}
use Rattle.node_split.proofs.Rooms.{found_there, no_room_at}
use Rattle.node_split.proofs.NoRoom.{no_room_after, no_room_still}
use Rattle.node_split.specs.declared.root_split.TwoNodes.{TwoNodes}

-- after a load of a word of the node
module _ (law : ExchangeLaw) (n found : ℕ) (k k1 k' : CallerData) (h : HoldsOneFree n k.log.holdings) (load : k1 ≡ record k { log = after_node_load n 2 found k.log }) (tells : OutTells n k.log) where
  same_holdings : k1.log.holdings ≡ k.log.holdings
  same_holdings = ap (λ (z : CallerData). z.log.holdings) load

  no_mark : h.lock.mark ≡ None
  no_mark = (subst (AllByRecursion (λ (a : Holding). a.node ≡ n → a.mark ≡ None)) h.held (tells (subst (λ ns. IsTrue (is_among ns n)) (sym h.out) (rw (eq-eqb n n refl) refl))).1).0 h.node

  held_so : k1.log.holdings.held ≡ h.lock ∷ h.root ∷ []
  held_so = ap (λ hs. hs.held) same_holdings ∙ h.held

  far_root : AreFar n (h.root ∷ [])
  far_root = ((λ e. h.never_root (sym e ∙ h.is_root)), tt)

  after_load : StepsOnNodes (with_release_less k1) k' → StepsOnNodes (with_release_less k) k'
  after_load s = steps_then (with_release_less k) (with_release_less k1) k' (less_release_then k k1 (steps_of_load n 2 found k k1 load)) s

  ready : AllByRecursion (IsGoneOrSettled n) k1.log.holdings.held
  ready = subst (AllByRecursion (IsGoneOrSettled n)) (sym held_so) (((λ _. no_mark), (λ ne. absurd (ne h.node))), (((λ e. absurd (far_root.0 e)), (λ _. h.spells)), tt))

  root_left : without_lock n k1.log.holdings.held ≡ drop 1 k.log.holdings.held
  root_left = ap (without_lock n) held_so ∙ (dropped n [] h.lock (h.root ∷ []) h.node tt far_root ∙ sym (ap (drop 1) h.held))

  pub gives_back : GivesFree n k1 k' → GivesBack k k'
  gives_back gives =
      let r = given_steps law n k1 k' ready gives in record {
        held = r.0 ∙ root_left;
        out = r.1 ∙ (ap (λ hs. all_but n hs.out) same_holdings ∙ (ap (all_but n) h.out ∙ ap (λ b. if not b then n ∷ [] else []) (eq-eqb n n refl)));
        same = after_load r.2;
      }

  pub loses_free : (why : Busy) → LosesNode n why k1 k' → LosesFree why k k'
  loses_free why loses =
      let r = lost_steps law n k1 k' ready why loses in record {
        lost = loses.0;
        cause = found_after why k k1 k' (keeps_load n 2 found k k1 load) loses.1;
        held = r.0 ∙ root_left;
        out = r.1 ∙ ap (λ hs. hs.out) same_holdings;
        same = after_load r.2;
      }

-- the root alone is a full node on the way
abbrev pub full_alone : (t : Terms) (root : Held) (pc : ℕ) (k : CallerData) → HoldsFullAlone t root pc k.log.holdings → HoldsFull t root pc k.log.holdings
full_alone t root pc k h = record {
  lock = h.lock;
  found = ap (held_of root.node) h.held ∙ found_at root.node [] h.lock [] h.here.node tt;
  here = h.here;
  is_full = h.is_full;
  on_way = h.on_way;
  within = h.within;
  out = inl h.out;
}

-- the full root of the highest level
pub highest : (t : Terms) (root : Held) (pc : ℕ) (k k1 k2 : CallerData) (count level : ℕ) → HoldsFullAlone t root pc k.log.holdings → root.content.level ≡ 12 → k1 ≡ record k { log = after_node_load root.node 5 count k.log } → HeldTells root.node 5 count k.log
    → k2 ≡ record k1 { log = after_node_load root.node 2 level k1.log } → HeldTells root.node 2 level k1.log → StaysHeld k k2 × FoundNoRoom pc k k2
highest t root pc k k1 k2 count level h top load1 tells1 load2 tells2 =
    let full = full_alone t root pc k h in
    let same : k1.log.holdings ≡ k.log.holdings = ap (λ (z : CallerData). z.log.holdings) load1 in
    let whole : k2 ≡ record k { log = after_node_load root.node 2 level (after_node_load root.node 5 count k.log) } = load2 ∙ ap (λ (z : CallerData). record z { log = after_node_load root.node 2 level z.log }) load1 in
    let count_event = load_of k.log (node_place root.node + 5) count in
    let cause = load_of (after_node_load root.node 5 count k.log) (node_place root.node + 2) level in
    let level_word : node_word h.lock.words 2 ≡ level = subst (λ o. IfSome o (λ (z : Holding). node_word z.words 2 ≡ level)) full.found (subst (λ hs. IfSome (held_of root.node hs.held) (λ (z : Holding). node_word z.words 2 ≡ level)) same tells2) in (
      subst (StaysHeld k) (sym whole) (record { held = refl; out = refl; same = steps_so k refl refl (keeps_then k (record k { log = after_node_load root.node 5 count k.log }) (record k { log = after_node_load root.node 2 level (after_node_load root.node 5 count k.log) }) (_ ∷ [], refl) (_ ∷ [], refl)) }),
      record {
        more = count_event ∷ cause ∷ [];
        loads = ap (λ (z : CallerData). z.log.trace.loads) whole ∙ append_assoc k.log.trace.loads (count_event ∷ []) (cause ∷ []);
        no_room = no_room_at t root pc k k1 count full load1 tells1 [] cause tt refl refl (inr (
          ap (λ n. node_place n + 2) h.is_root,
          sym level_word ∙ (sym (reads h.lock.words root.content h.here.spells).level ∙ top),
          (h.lock, (found_there root.node k.log.holdings.held h.lock full.found, h.here.node ∙ h.is_root, subst (SpellsNode h.lock.words) (sym h.here.settled) h.here.spells, ap (λ (z : NodeData). z.level) h.here.settled ∙ top)),
        ));
      },
    )

-- the first of two was found, and the second one not: it was given back, or lost
pub kept_after : (k k1 k2 k3 : CallerData) (left : ℕ) → TakesRoom left k k1 → StaysHeld k1 k2 → k3.log.holdings.held ≡ drop 1 k2.log.holdings.held → StepsOnNodes (with_release_less k2) k3 → KeepsHeld k k3
kept_after k k1 k2 k3 left one stays held same = record {
  held = held ∙ (ap (drop 1) stays.held ∙ ap (drop 1) one.held);
  same = inr (steps_then (with_release_less k) (with_release_less k2) k3 (less_release_then k k2 (steps_then k k1 k2 one.same stays.same)) same);
}

-- what is out then
lost_out : (t : Terms) (root : Held) (pc left : ℕ) (k k1 k2 k3 : CallerData) → HoldsFullAlone t root pc k.log.holdings → TakesRoom left k k1 → StaysHeld k1 k2 → (why : Busy) → LosesFree why k2 k3 → IsLeftOut why k3.log.holdings.out
lost_out t root pc left k k1 k2 k3 h one stays why loses =
    let out : k3.log.holdings.out ≡ left ∷ [] = loses.out ∙ (stays.out ∙ (one.out ∙ ap (λ ns. left ∷ ns) h.out)) in
    subst (λ w. IsLeftOut w k3.log.holdings.out) (sym loses.lost) (subst (λ ns. length ns ≤ 2) (sym out) (omega arith))

-- where none was free then, the loads say so
pub none_left : (t : Terms) (root : Held) (pc left : ℕ) (k k1 k2 k3 : CallerData) → HoldsFullAlone t root pc k.log.holdings → TakesRoom left k k1 → StaysHeld k1 k2 × FoundNoRoom pc k1 k2 → GivesBack k2 k3 → KeepsHeld k k3 × FoundNoRoom pc k k3 × (k3.log.holdings.out ≡ k.log.holdings.out)
none_left t root pc left k k1 k2 k3 h one (stays, found) back = (
  kept_after k k1 k2 k3 left one stays back.held back.same,
  no_room_still pc k k2 k3 (no_room_after pc k k1 k2 (ap (λ (rs : Receipts). rs.own) one.same.calls.receipts) one.same.loads found) back.same.loads,
  back.out ∙ sym h.out,
)

-- the second one could not be had, or the first one not be given back
pub given_up : (t : Terms) (root : Held) (pc left : ℕ) (gives_up : Bool) (k k1 k2 k3 : CallerData) (why : Busy) → HoldsFullAlone t root pc k.log.holdings → TakesRoom left k k1 → StaysHeld k1 k2 × (gives_up ≡ true) × FoundBusy why k1 k2 → GivesBack k2 k3 → IsRoomForRoot gives_up root pc k k3 (Err why)
given_up t root pc left gives_up k k1 k2 k3 why h one (stays, up, cause) back = (
  kept_after k k1 k2 k3 left one stays back.held back.same,
  up,
  found_between why k k1 k2 k3 one.same.loads cause back.same.loads,
  none_left_out why k3.log.holdings.out back.out,
)

pub lost_then : (t : Terms) (root : Held) (pc left : ℕ) (gives_up : Bool) (k k1 k2 k3 : CallerData) (why : Busy) → HoldsFullAlone t root pc k.log.holdings → TakesRoom left k k1 → StaysHeld k1 k2 → LosesFree why k2 k3 → gives_up ≡ true → IsRoomForRoot gives_up root pc k k3 (Err why)
lost_then t root pc left gives_up k k1 k2 k3 why h one stays loses up = (
  kept_after k k1 k2 k3 left one stays loses.held loses.same,
  up,
  found_after why k k2 k3 (steps_then k k1 k2 one.same stays.same).loads loses.cause,
  lost_out t root pc left k k1 k2 k3 h one stays why loses,
)

-- both were found, the second one not held before
pub two_taken : (t : Terms) (root : Held) (pc : ℕ) (two : TwoNodes) (k k1 k2 : CallerData) → HoldsFullAlone t root pc k.log.holdings → root.content.level ≢ 12 → TakesRoom two.left k k1 → TakesRoom two.right k1 k2 → held_of two.right k1.log.holdings.held ≡ None → (root.content.level < 12) × TakesTwo two k k2
two_taken t root pc two k k1 k2 h below one next unheld = (
  (let l = (place_of_lock t root.node root.content root.changed h.lock h.here).1.height h.is_root in omega (arith, l, below)),
  record {
    right = next.new;
    left = one.new;
    held = next.held ∙ ap (λ hs. next.new ∷ hs) one.held;
    out = next.out ∙ ap (λ ns. two.right ∷ ns) one.out;
    left_free = one.free;
    right_free = next.free;
    left_within = one.within;
    right_within = subst (λ (z : Terms). two.right < z.nodes) one.same.calls.caller.terms next.within;
    different = λ e. none-some one.new (sym unheld ∙ (ap (held_of two.right) one.held ∙ found_at two.right [] one.new k.log.holdings.held (one.free.node ∙ e) tt));
    same = steps_then k k1 k2 one.same next.same;
  },
)
