-- Steps on nodes before an answer, which leave what is held: an insertion stands as it did.
use Rattle.std.proofs.Common.{◌≡◌, sym, ap, ◌∙◌, subst, ℕ, length}
use Rattle.reg_model.specs.declared.span.Member.{Member}
use Rattle.word_rule.specs.CallerData.{CallerData}
use Rattle.word_rule.specs.declared.log.Receipts.{Receipts}
use Rattle.word_rule.specs.declared.log.Terms.{Terms}
use Rattle.word_rule.specs.TreeRefusals.{HadNoRoom}
use Rattle.tree_descent.specs.Paths.{StepsOnNodes}
use Rattle.tree_descent.specs.Stands.{StandsAt}
use Rattle.node_split.proofs.NoRoom.{more_loads}
use Rattle.btree_change.specs.declared.stand.Stand.{Stand}
use Rattle.btree_change.specs.Stands.{Reaches, StandsOnWay}
use Rattle.btree_change.proofs.Standing.{way_kept}

-- an insertion stands where it stood
pub stands_still : (t : Terms) (m : Member) (stand : Stand) (k k1 : CallerData) → k1.log.holdings ≡ k.log.holdings → StepsOnNodes k k1 → StandsOnWay t m stand k.log → StandsOnWay t m stand k1.log
stands_still t m stand k k1 same steps s =
    let x = subst (λ hs. (a : StandsAt t stand.at hs) × Reaches t m.span.last stand.at.content stand.beyond a.lock a.above) (sym same) (s.at, s.reach) in record {
      at = x.0;
      here = s.here;
      reach = x.1;
      way = way_kept stand.room m.span.first stand.at.content k.log k1.log (ap (λ (r : Receipts). r.own) steps.calls.receipts) steps.loads.0 steps.loads.1 s.way;
      height = s.height;
      loader = steps.calls.caller.loader ∙ s.loader;
    }

-- that there was no room stays so
pub still_no_room : (base : ℕ) (k k1 : CallerData) → StepsOnNodes k k1 → HadNoRoom base (length k.log.receipts.own) k.log.trace.loads → HadNoRoom base (length k1.log.receipts.own) k1.log.trace.loads
still_no_room base k k1 steps h =
    subst (λ (x : Receipts). HadNoRoom base (length x.own) k1.log.trace.loads) (sym steps.calls.receipts)
    (subst (HadNoRoom base (length k.log.receipts.own)) (sym steps.loads.1) (more_loads base (length k.log.receipts.own) k.log.trace.loads steps.loads.0 h))
