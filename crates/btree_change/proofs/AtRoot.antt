-- An insertion at the root, and below a lifted one.
use Rattle.std.proofs.Common.{◌<◌, [], sym, subst, arith, ◌≡◌, refl, None, ◌∙◌, ◌≤◌, List, drop, ap, ◌∷◌, ◌⊎◌, inl, inr, ℕ, ◌+◌, Bool, Result, Ok, Err, IfOk, true, IfErr}
use Rattle.reg_model.specs.SpanData.{IsSpan}
use Rattle.reg_model.specs.declared.span.Member.{Member}
use Rattle.reg_model.specs.declared.answer.Inserted.{Inserted}
use Rattle.tree_shape.specs.NodeData.{IsInFences}
use Rattle.tree_laws.specs.Lawful.{IsFilled}
use Rattle.tree_laws.specs.Steps.{IsFull}
use Rattle.word_rule.specs.declared.log.Holdings.{Holdings}
use Rattle.word_rule.specs.declared.log.Terms.{Terms}
use Rattle.word_rule.specs.declared.log.Log.{Log}
use Rattle.word_rule.specs.CallerData.{CallerData}
use Rattle.word_rule.specs.declared.log.Holding.{Holding}
use Rattle.word_rule.specs.Places.{CALL_CREDIT}
use Rattle.word_rule.specs.Spelling.{SpellsNode}
use Rattle.version_locks.specs.declared.locking.Busy.{Busy}
use Rattle.version_locks.specs.Locking.{FoundBusy}
use Rattle.tree_descent.specs.declared.descent.Held.{Held}
use Rattle.tree_descent.specs.Stands.{HoldsRoot, StandsAt, HoldsPair}
use Rattle.tree_descent.proofs.Lowering.{settled_live}
use Rattle.tree_descent.specs.Paths.{AreHigher, StepsOnNodes, HoldsNothing, IsLeftOut}
use Rattle.tree_descent.specs.Releases.{Spends, with_release_less, LetsGo}
use Rattle.tree_descent.proofs.Spending.{spends_one, more_spent, spends_same, right_after, steps_after}
use Rattle.tree_descent.specs.Insertion.{taken_by, IfFull}
use Rattle.tree_descent.proofs.Loading.{found_after, nothing_left}
use Rattle.tree_descent.specs.Loads.{FoundNoRoom}
use Rattle.tree_descent.specs.Updates.{GivesUp}
use Rattle.leaf_change.specs.Insertion.{EndsInsertion}
use Rattle.leaf_change.proofs.Releasing.{IsLowest, left_above}
use Rattle.node_split.specs.declared.split.Room.{Room}
use Rattle.node_split.specs.Splits.{HoldsFullAlone, HoldsFullRoot, LiftsRoot, root_for, TakesTwo, KeepsHeld}
use Rattle.node_split.specs.declared.root_split.FullRoot.{FullRoot}
use Rattle.node_split.specs.declared.split.Coupled.{Coupled}
use Rattle.node_split.proofs.Halved.{split_pair}
use Rattle.node_split.specs.declared.root_split.TwoNodes.{TwoNodes}
use Rattle.node_split.proofs.NoRoom.{no_room_after}
use Rattle.btree_change.specs.Stands.{HasWayOn, StandsOnWay, Reaches, HasCause}
use Rattle.btree_change.proofs.Spending.{spends_after, answers_so}
use Rattle.btree_change.specs.Roots.{GivesUpWhole, EndsPart}
use Rattle.btree_change.proofs.NoRoom.{if_full}
use Rattle.btree_change.specs.Insertion.{AnswersInsertion}
use Rattle.node_split.specs.declared.split.Room.TheVariants as room
use Rattle.reg_model.specs.declared.answer.Receipt.TheVariants as receipt

-- the root alone is where an insertion stands
abbrev pub root_stands : (t : Terms) (root : Held) (holdings : Holdings) → HoldsRoot t root holdings → StandsAt t root holdings
root_stands t root holdings h = record {
  within = subst (λ n. n < t.nodes) (sym h.root) h.within;
  lock = h.lock;
  above = [];
  held = h.held;
  here = h.here;
  higher = tt;
  apart = (tt, tt);
  out = h.out;
}

pub root_here : (t : Terms) (root : Held) (m : Member) (holdings : Holdings) → HoldsRoot t root holdings → IsSpan m.span → IsInFences m.span.first root.content
root_here t root m holdings h span = let l = h.low in let u = h.high in let o = span.ordered in let b = span.below_top in (omega (arith, l), omega (arith, u, o, b))

pub root_stand : (t : Terms) (root : Held) (way : Room) (m : Member) (v : Log) → HoldsRoot t root v.holdings → IsSpan m.span → v.loader ≡ None → HasWayOn way m.span.first root.content v → StandsOnWay t m (record { at = root; beyond = None; room = way }) v
root_stand t root way m v h span loader on = record {
  at = root_stands t root v.holdings h;
  here = root_here t root m v.holdings h span;
  reach = ((let u = h.high in let b = span.below_top in omega (arith, u, b)), refl);
  way = on;
  height = (let low = (settled_live t root.node root.content root.changed h.lock h.here).1.1.height h.root in omega (arith, low));
  loader = loader;
}

pub root_filled : (t : Terms) (root : Held) (holdings : Holdings) → HoldsRoot t root holdings → IsFilled root.node root.content
root_filled t root holdings h = (settled_live t root.node root.content root.changed h.lock h.here).1.1.filled

pub root_kept : (t : Terms) (root : Held) (a b : Holdings) → b.held ≡ a.held → b.out ≡ a.out → HoldsRoot t root a → HoldsRoot t root b
root_kept t root a b held out h = record { within = h.within; lock = h.lock; held = held ∙ h.held; root = h.root; unchanged = h.unchanged; here = h.here; low = h.low; high = h.high; out = out ∙ h.out }

pub full_alone : (t : Terms) (root : Held) (m : Member) (holdings : Holdings) → HoldsRoot t root holdings → IsSpan m.span → IsFull root.content.body → HoldsFullAlone t root m.span.first holdings
full_alone t root m holdings h span full = record {
  is_root = h.root;
  within = subst (λ n. n < t.nodes) (sym h.root) h.within;
  lock = h.lock;
  held = h.held;
  here = h.here;
  is_full = full;
  on_way = root_here t root m holdings h span;
  out = h.out;
}

-- The root was lifted.
module _ (t : Terms) (m : Member) (full : FullRoot) (k : CallerData) (held : HoldsFullRoot t full m.span.first k.log.holdings) (high : full.root.content.high ≡ 18446744073709551615) (span : IsSpan m.span) (step : Coupled) (k1 : CallerData) (lifts : LiftsRoot t full m.span.first step k k1) where
  rest_is : drop 2 k1.log.holdings.held ≡ []
  rest_is = ap (drop 2) lifts.held ∙ ap (drop 3) held.held

  abbrev pair_for : (hs : List Holding) → [] ≡ hs → HoldsPair t m.span.first step.parent step.child hs k1.log.holdings
  pair_for hs e = split_pair t m.span.first _ _ step k k1 hs lifts (ap (drop 3) held.held ∙ e) held.root_within (omega arith) (subst (AreHigher t (root_for full).content.level) e tt)

  pub lifted_reach : (pair : HoldsPair t m.span.first step.parent step.child (drop 2 k1.log.holdings.held) k1.log.holdings) × Reaches t m.span.last step.parent.content None pair.upper (drop 2 k1.log.holdings.held)
  lifted_reach = (pair_for (drop 2 k1.log.holdings.held) (sym rest_is), ((let h = ap (λ (h : Held). h.content.high) lifts.parent in let b = span.below_top in omega (arith, h, high, b)), rest_is))

  pub lifted_here : IsInFences m.span.first step.parent.content
  lifted_here =
      let h = ap (λ (h : Held). h.content.high) lifts.parent in let l = ap (λ (h : Held). h.content.low) lifts.parent in
      let a = held.here.0 in let b = held.here.1 in (omega (arith, l, a), omega (arith, h, b))

  pub lifted_height : step.parent.content.level ≤ 12
  lifted_height = let l = ap (λ (h : Held). h.content.level) lifts.parent in let t' = held.height in omega (arith, l, t')

  pub lifted_level : step.child.content.level ≤ 11
  lifted_level = let a = lifts.lower_level in let l = lifted_height in omega (arith, a, l)

  pub lifted_way : HasWayOn step.room m.span.first step.child.content k1.log
  lifted_way = subst (λ w. HasWayOn w m.span.first step.child.content k1.log) (sym lifts.splitting) lifts.room

  pub lifted_steps : Spends 1 k k1
  lifted_steps = spends_one k k1 lifts.same

-- two nodes were taken for the full root
pub full_root : (t : Terms) (root : Held) (m : Member) (two : TwoNodes) (k k1 : CallerData) → k.log.terms ≡ t → HoldsRoot t root k.log.holdings → IsSpan m.span → IsFull root.content.body → root.content.level < 12 → TakesTwo two k k1 → HoldsFullRoot t (record { root = root; left = two.left; right = two.right }) m.span.first k1.log.holdings
full_root t root m two k k1 terms h span full less takes = record {
  is_root = h.root;
  root_within = subst (λ n. n < t.nodes) (sym h.root) h.within;
  left_within = subst (λ (z : Terms). two.left < z.nodes) terms takes.left_within;
  right_within = subst (λ (z : Terms). two.right < z.nodes) terms takes.right_within;
  different = takes.different;
  right = takes.right;
  left = takes.left;
  upper = h.lock;
  held = takes.held ∙ ap (λ hs. takes.right ∷ takes.left ∷ hs) h.held;
  out = takes.out ∙ ap (λ ns. two.right ∷ two.left ∷ ns) h.out;
  left_free = takes.left_free;
  right_free = takes.right_free;
  root = h.here;
  here = root_here t root m k.log.holdings h span;
  height = less;
  is_full = full;
}

-- what the search for nodes takes
pub kept_steps : (k k1 : CallerData) → KeepsHeld k k1 → Spends 1 k k1
kept_steps k k1 kept = go kept.same
  where
    go : StepsOnNodes k k1 ⊎ StepsOnNodes (with_release_less k) k1 → Spends 1 k k1
    go (inl s) = more_spent 0 1 k k1 (omega arith) (spends_same k k1 s)
    go (inr s) = spends_one k k1 s

-- one part after another, to the end
pub ends_after : (t : Terms) (m : Member) (answer : Inserted) (a b c : ℕ) (k l n : CallerData) → a + b ≤ c → Spends a k l → EndsInsertion t m answer b l n → EndsInsertion t m answer c k n
ends_after t m answer a b c k l n sum s e = record {
  right = right_after t m answer k l n s.calls e.right;
  call = spends_after a b c (receipt.Register m answer ∷ []) (taken_by answer) k l n sum s e.call;
  nothing = e.nothing;
}

pub gives_up_after : (a b c : ℕ) (why : Busy) (k l n : CallerData) → a + b ≤ c → Spends a k l → GivesUpWhole b why l n → GivesUpWhole c why k n
gives_up_after a b c why k l n sum s g = record { steps = steps_after a b c k l n sum s g.steps; nothing = g.nothing }

pub ends_part : (t : Terms) (m : Member) (a b c : ℕ) (way later : Room) (gives_up : Bool) (k l n : CallerData) (r : Result Inserted Busy) → a + b ≤ c → Spends a k l → (HasCause later m.span.first l n → HasCause way m.span.first k n) → EndsPart t m b later gives_up l n r → EndsPart t m c way gives_up k n r
ends_part t m a b c way later gives_up k l n (Ok answer) sum s cause (e, full) = (ends_after t m answer a b c k l n sum s e, if_full answer cause full)
ends_part t m a b c way later gives_up k l n (Err why) sum s cause (g, up, found) = (gives_up_after a b c why k l n sum s g, up, found_after why k l n s.loads found)

pub update_answered : (t : Terms) (m : Member) (answer : Inserted) (k l n : CallerData) → StepsOnNodes k l → EndsInsertion t m answer CALL_CREDIT l n → IfFull answer (FoundNoRoom m.span.first l n) → AnswersInsertion t m answer k n
update_answered t m answer k l n same e full =
    let all = ends_after t m answer 0 CALL_CREDIT CALL_CREDIT k l n (omega arith) (spends_same k l same) e in record {
      right = all.right;
      cause = if_full answer (no_room_after m.span.first k l n (ap (λ r. r.own) same.calls.receipts) same.loads) full;
      call = answers_so (receipt.Register m answer) (taken_by answer) CALL_CREDIT k n (omega arith) all.call all.nothing;
    }

gives_so : (why : Busy) (most : ℕ) (k n : CallerData) → most ≤ CALL_CREDIT → FoundBusy why k n → GivesUpWhole most why k n → GivesUp why k n
gives_so why most k n few cause g = record {
  cause = cause;
  calls = g.steps.calls;
  allowance = g.steps.allowance;
  credit = let c = g.steps.credit in omega (arith, c, few);
  nothing = g.nothing;
}

pub update_given_up : (why : Busy) (k l n : CallerData) → StepsOnNodes k l → FoundBusy why l n → GivesUpWhole CALL_CREDIT why l n → GivesUp why k n
update_given_up why k l n same cause g = gives_so why CALL_CREDIT k n (omega arith) (found_after why k l n same.loads cause) (gives_up_after 0 CALL_CREDIT CALL_CREDIT why k l n (omega arith) (spends_same k l same) g)

pub root_busy : (why : Busy) (k l : CallerData) → StepsOnNodes k l → FoundBusy why k l → HoldsNothing l.log.holdings → GivesUp why k l
root_busy why k l same cause nothing = gives_so why 0 k l (omega arith) cause (record { steps = spends_same k l same; nothing = nothing_left why l.log.holdings nothing })

pub root_lowest : (t : Terms) (root : Held) (k k1 : CallerData) → HoldsRoot t root k.log.holdings → KeepsHeld k k1 → IsLowest root.node root.changed k1.log.holdings
root_lowest t root k k1 h kept = record {
  lock = h.lock;
  above = [];
  held = kept.held ∙ h.held;
  is_node = h.here.node;
  stored = λ e. h.here.stored ∙ e;
  settled = (subst (SpellsNode h.lock.words) (sym h.here.settled) h.here.spells, tt);
  apart = (tt, tt);
}

pub root_gone : (t : Terms) (root : Held) (why : Busy) (k k1 k2 : CallerData) → HoldsRoot t root k.log.holdings → KeepsHeld k k1 → IsLeftOut why k1.log.holdings.out → LetsGo root.node k1 k2 → GivesUpWhole CALL_CREDIT why k k2
root_gone t root why k k1 k2 h kept left goes = record {
  steps = steps_after 1 1 CALL_CREDIT k k1 k2 (omega arith) (kept_steps k k1 kept) goes.steps;
  nothing = (left_above root.node root.changed k1 k2 (root_lowest t root k k1 h kept) goes ∙ ap (drop 1) (kept.held ∙ h.held), subst (IsLeftOut why) (sym goes.out) left);
}

pub if_ok : {A E : Type 0} (P Q : A → Type 0) (r : Result A E) → ((a : A) → P a → Q a) → IfOk r P → IfOk r Q
if_ok P Q (Ok a) f p = f a p
if_ok P Q (Err e) f p = tt

-- the whole of an insertion, by how its part ends after steps that took no release
pub answered_so : (t : Terms) (m : Member) (gives_up : Bool) (k l n : CallerData) (r : Result Inserted Busy) → StepsOnNodes k l → EndsPart t m CALL_CREDIT room.Splitting gives_up l n r → IfOk r (λ answer. AnswersInsertion t m answer k n)
answered_so t m gives_up k l n (Ok answer) same (e, full) = update_answered t m answer k l n same e full
answered_so t m gives_up k l n (Err why) same e = tt

pub given_up_so : (t : Terms) (m : Member) (gives_up : Bool) (k l n : CallerData) (r : Result Inserted Busy) → StepsOnNodes k l → EndsPart t m CALL_CREDIT room.Splitting gives_up l n r → IfErr r (λ why. GivesUp why k n × (gives_up ≡ true))
given_up_so t m gives_up k l n (Ok answer) same e = tt
given_up_so t m gives_up k l n (Err why) same (g, up, found) = (update_given_up why k l n same found g, up)
