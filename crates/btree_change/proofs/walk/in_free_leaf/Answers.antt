use Rattle.std.proofs.Common.{◌≡◌, ◌+◌, arith, length, subst}
use Rattle.tree_descent.proofs.Spending.{spends_all}
use Rattle.btree_change.specs.Stands.{StandsOnWay, kept_above, releases_from}
use Rattle.btree_change.proofs.AtRoot.{ends_after, ends_part}
use Rattle.btree_change.proofs.Spending.{may_still}
use Rattle.btree_change.proofs.walk.in_free_leaf.Goals as goal

pub beyond_leaf-requires-clause-stands : goal.beyond_leaf-requires-clause-stands
beyond_leaf-requires-clause-stands g c = let stand = c.args.stand in subst (λ o. StandsOnWay c.args.words.now.terms c.args.placed.now.member (record { at = stand.at; beyond = o; room = stand.room }) c.args.me.now.log) c.in-Some.is c.requires.stands

pub in_place-requires-clause-stands : goal.in_place-requires-clause-stands
in_place-requires-clause-stands g c = let stand = c.args.stand in subst (λ o. StandsOnWay c.args.words.now.terms c.args.placed.now.member (record { at = stand.at; beyond = o; room = stand.room }) c.args.me.now.log) c.in-None.is c.requires.stands

pub beyond_leaf-requires-clause-call : goal.beyond_leaf-requires-clause-call
beyond_leaf-requires-clause-call g c =
    let k = c.args.me.now in let is = c.in-Some.is in let kept : length (kept_above c.args.stand.beyond) ≡ length c.in-Some.beyond.kept = (λ i. length (kept_above (is i))) in
    may_still c.args.words.now c.args.placed.now.member 0 (releases_from c.args.stand) (length c.in-Some.beyond.kept + 13) k k (omega (arith, kept)) (spends_all 0 k) c.requires.call

pub in_place-requires-clause-call : goal.in_place-requires-clause-call
in_place-requires-clause-call g c = let k = c.args.me.now in may_still c.args.words.now c.args.placed.now.member 0 (releases_from c.args.stand) 1 k k (omega arith) (spends_all 0 k) c.requires.call

pub returns-in-Some : goal.returns-in-Some
returns-in-Some g c =
    let stand = c.args.stand in let k = c.args.me.now in let n = c.beyond_leaf.new.me in
    let is = c.in-Some.is in let kept : length (kept_above stand.beyond) ≡ length c.in-Some.beyond.kept = (λ i. length (kept_above (is i))) in
    ends_part c.args.words.now.terms c.args.placed.now.member 0 (length c.in-Some.beyond.kept + 13) (releases_from stand) stand.room stand.room g.L.Locking.gives_up k k n c.beyond_leaf.result (omega (arith, kept)) (spends_all 0 k) (λ h. h) c.beyond_leaf.ensures

pub returns-in-None : goal.returns-in-None
returns-in-None g c =
    let k = c.args.me.now in
    (ends_after c.args.words.now.terms c.args.placed.now.member c.in_place.result 0 1 (releases_from c.args.stand) k k c.in_place.new.me (omega arith) (spends_all 0 k) c.in_place.ensures.answer, c.in_place.ensures.full)
