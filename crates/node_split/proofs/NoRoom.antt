-- That there was no room stays so where more is loaded before and after.
use Rattle.std.proofs.Common.{ℕ, List, ◌∷◌, ◌++◌, append_assoc, sym, ap, ◌∙◌, [], append-nil, subst, ◌≡◌, length}
use Rattle.word_rule.specs.TreeRefusals.{HadNoRoom}
use Rattle.word_rule.specs.declared.log.LoadEvent.{LoadEvent}
use Rattle.word_rule.specs.CallerData.{CallerData}
use Rattle.tree_descent.specs.Loads.{FoundNoRoom, KeepsLoads}

-- Loads before and behind leave the cause where it was.
pub among_loads : (base receipts : ℕ) (earlier loads more : List LoadEvent) → HadNoRoom base receipts loads → HadNoRoom base receipts (earlier ++ (loads ++ more))
among_loads base receipts earlier loads more r = record {
  before = earlier ++ r.before;
  count = r.count;
  between = r.between;
  cause = r.cause;
  behind = r.behind ++ more;
  in_order = ap (λ z. earlier ++ (z ++ more)) r.in_order ∙ (ap (λ z. earlier ++ z) (append_assoc r.before (r.count ∷ (r.between ++ (r.cause ∷ r.behind))) more ∙ ap (λ z. r.before ++ (r.count ∷ z)) (append_assoc r.between (r.cause ∷ r.behind) more)) ∙ sym (append_assoc earlier r.before (r.count ∷ (r.between ++ (r.cause ∷ (r.behind ++ more))))));
  since = r.since;
  node = r.node;
  held = r.held;
  full = r.full;
  on_way = r.on_way;
  last = r.last;
  stores = r.stores;
  stored = r.stored;
  unstored = r.unstored;
  still = r.still;
  shut = r.shut;
}

pub more_loads : (base receipts : ℕ) (loads more : List LoadEvent) → HadNoRoom base receipts loads → HadNoRoom base receipts (loads ++ more)
more_loads base receipts loads more r = among_loads base receipts [] loads more r

pub earlier_loads : (base receipts : ℕ) (earlier loads : List LoadEvent) → HadNoRoom base receipts loads → HadNoRoom base receipts (earlier ++ loads)
earlier_loads base receipts earlier loads r = subst (λ z. HadNoRoom base receipts (earlier ++ z)) (append-nil loads) (among_loads base receipts earlier loads [] r)

-- steps before it, and after it
pub no_room_after : (base : ℕ) (k l m : CallerData) → l.log.receipts.own ≡ k.log.receipts.own → KeepsLoads k l → FoundNoRoom base l m → FoundNoRoom base k m
no_room_after base k l m own (more, e) f = record {
  more = more ++ f.more;
  loads = f.loads ∙ (ap (λ xs. xs ++ f.more) e ∙ append_assoc k.log.trace.loads more f.more);
  no_room = subst (λ xs. HadNoRoom base (length xs) (more ++ f.more)) own (earlier_loads base (length l.log.receipts.own) more f.more f.no_room);
}

pub no_room_still : (base : ℕ) (k l m : CallerData) → FoundNoRoom base k l → KeepsLoads l m → FoundNoRoom base k m
no_room_still base k l m f (more, e) = record {
  more = f.more ++ more;
  loads = e ∙ (ap (λ xs. xs ++ more) f.loads ∙ append_assoc k.log.trace.loads f.more more);
  no_room = more_loads base (length k.log.receipts.own) f.more more f.no_room;
}
