use Rattle.std.proofs.Common.{◌≤◌, arith}
use Rattle.tree_shape.specs.NodeData.{IsInFences}
use Rattle.tree_descent.specs.Removing.{HoldsAlone}
use Rattle.tree_descent.specs.Stands.{HoldsRoot}
use Rattle.tree_descent.specs.declared.descent.Held.{Held}
use Rattle.tree_descent.proofs.Loading.{if_found_after}
use Rattle.tree_descent.proofs.NodeSteps.{steps_then, still_idle}
use Rattle.btree_change.proofs.AtRoot.{if_ok}
use Rattle.btree_change.proofs.Rooted.{root_alone, root_has, root_low}
use Rattle.btree_change.proofs.replacement.begin.Goals as goal

pub returns-in-Some-clause-ok : goal.returns-in-Some-clause-ok
returns-in-Some-clause-ok g c = let held = c.in-Some.ensures.holds in (held.alone, held.here, held.low)

pub at_root-requires-clause-idle : goal.at_root-requires-clause-idle
at_root-requires-clause-idle g c = still_idle c.args.me.now c.hold_by_sight.new.me c.hold_by_sight.ensures.same c.in-None.ensures.nothing c.requires.idle

pub returns-in-None-clause-ok : goal.returns-in-None-clause-ok
returns-in-None-clause-ok g c =
    let t = c.args.words.now.terms in let pc = c.args.pc in let hs = c.at_root.new.me.log.holdings in let fits = c.ranges.pc.fits in
    if_ok (λ (at : Held). HoldsRoot t at hs) (λ (at : Held). HoldsAlone t at hs × IsInFences pc at.content × (at.content.level ≤ 12)) c.at_root.result
    (λ root r. (root_alone t root hs r, root_has t root pc hs r (omega (arith, fits)), root_low t root hs r)) c.at_root.ensures.ok

pub returns-in-None-clause-cause : goal.returns-in-None-clause-cause
returns-in-None-clause-cause g c = if_found_after c.at_root.result c.args.me.now c.hold_by_sight.new.me c.at_root.new.me c.hold_by_sight.ensures.same.loads c.at_root.ensures.cause

pub returns-in-None-clause-same : goal.returns-in-None-clause-same
returns-in-None-clause-same g c = steps_then c.args.me.now c.hold_by_sight.new.me c.at_root.new.me c.hold_by_sight.ensures.same c.at_root.ensures.same
