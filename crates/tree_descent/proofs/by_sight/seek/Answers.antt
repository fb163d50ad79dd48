use Rattle.std.proofs.Common.{ap, ◌∙◌, arith}
use Rattle.word_rule.specs.CallerData.{CallerData}
use Rattle.btree_lookup.specs.declared.visit.Visit.{Visit}
use Rattle.tree_descent.specs.BySight.{IsSeenFor}
use Rattle.tree_descent.specs.declared.by_sight.Seen.{Seen}
use Rattle.tree_descent.proofs.BySights.{answered_so, counted_so, fails_only, seen_above, seen_here, sees_only}
use Rattle.tree_descent.proofs.by_sight.seek.Goals as goal

pub returns-in_err-root-clause-sees : goal.returns-in_err-root-clause-sees
returns-in_err-root-clause-sees c = fails_only c.args.words.now.terms c.address-pc.result c.args.me.now _ c.root.new.me (c.in_err-root.ensures.err c.address-pc.result)

pub returns-then-not-fits-clause-sees : goal.returns-then-not-fits-clause-sees
returns-then-not-fits-clause-sees c =
    let t = c.args.words.now.terms in let pc = c.address-pc.result in let k = c.args.me.now in let k2 = c.counted-at.new.me in let seen = c.counted-at.result in
    let w = counted_so t pc k c.in_ok-root.root c.root.new.me k2 seen (c.in_ok-root.ensures.ok pc (omega (arith, c.address-pc.type_inv))) c.counted-at.ensures.visit c.counted-at.ensures.log in
    sees_only t pc k seen.visit 1 k2 w.sees

pub loop-at-init : goal.loop-at-init
loop-at-init c =
    let t = c.args.words.now.terms in let pc = c.address-pc.result in let k = c.args.me.now in let k2 = c.counted-at.new.me in let seen = c.counted-at.result in record {
      table = ap (λ (z : CallerData). z.table) c.counted-at.ensures.log ∙ (c.in_ok-root.ensures.table ∙ c.requires.table);
      sees = counted_so t pc k c.in_ok-root.root c.root.new.me k2 seen (c.in_ok-root.ensures.ok pc (omega (arith, c.address-pc.type_inv))) c.counted-at.ensures.visit c.counted-at.ensures.log;
      fits = c.fits.ensures c.if-not-fits.false;
    }

pub descend-requires-clause-table : goal.descend-requires-clause-table
descend-requires-clause-table c = c.loop-at.invariant.table

pub descend-requires-clause-inside : goal.descend-requires-clause-inside
descend-requires-clause-inside c = c.loop-at.invariant.sees.sees.within

pub returns-in_err-child-clause-sees : goal.returns-in_err-child-clause-sees
returns-in_err-child-clause-sees c = fails_only c.args.words.now.terms c.address-pc.result c.args.me.now _ c.descend.new.me (c.in_err-child.ensures.err c.args.me.now c.loop-at.invariant.sees)

pub counted-next-requires-clause-table : goal.counted-next-requires-clause-table
counted-next-requires-clause-table c = c.in_ok-child.ensures.table ∙ c.loop-at.invariant.table

pub returns-then-not-fits-2-clause-seen : goal.returns-then-not-fits-2-clause-seen
returns-then-not-fits-2-clause-seen c =
    let t = c.args.words.now.terms in let pc = c.address-pc.result in let k = c.args.me.now in let at = c.loop-at.at in let w = c.loop-at.invariant.sees in let k3 = c.counted-next.new.me in
    answered_so at (λ (seen : Seen). IsSeenFor t c.args.request seen k3) c.below_root.result c.below_root.ensures
    (λ below. seen_above t c.args.request pc c.address-pc.ensures k at c.in_ok-child.child.node c.loop-at.me c.descend.new.me k3 c.counted-next.result.count w c.loop-at.invariant.fits (c.in_ok-child.ensures.kept k w) c.counted-next.ensures.log below)

pub returns-then-not-fits-2-clause-sees : goal.returns-then-not-fits-2-clause-sees
returns-then-not-fits-2-clause-sees c =
    let t = c.args.words.now.terms in let pc = c.address-pc.result in let k = c.args.me.now in let k3 = c.counted-next.new.me in let next = c.counted-next.result in
    let w = counted_so t pc k c.in_ok-child.child c.descend.new.me k3 next (c.in_ok-child.ensures.ok k c.loop-at.invariant.sees) c.counted-next.ensures.visit c.counted-next.ensures.log in
    sees_only t pc k next.visit 1 k3 w.sees

pub loop-at-smaller : goal.loop-at-smaller
loop-at-smaller c = let l = c.in_ok-child.ensures.level in let e = ap (λ (v : Visit). v.level) c.counted-next.ensures.visit in omega (arith, l, e)

pub loop-at-preserved : goal.loop-at-preserved
loop-at-preserved c =
    let t = c.args.words.now.terms in let pc = c.address-pc.result in let k = c.args.me.now in let k3 = c.counted-next.new.me in let next = c.counted-next.result in record {
      table = ap (λ (z : CallerData). z.table) c.counted-next.ensures.log ∙ (c.in_ok-child.ensures.table ∙ c.loop-at.invariant.table);
      sees = counted_so t pc k c.in_ok-child.child c.descend.new.me k3 next (c.in_ok-child.ensures.ok k c.loop-at.invariant.sees) c.counted-next.ensures.visit c.counted-next.ensures.log;
      fits = c.fits-in-loop-at.ensures c.if-not-fits-2.false;
    }

pub returns-clause-seen : goal.returns-clause-seen
returns-clause-seen c =
    let t = c.args.words.now.terms in let pc = c.address-pc.result in let k = c.args.me.now in let at = c.loop-at.at in
    answered_so at (λ (seen : Seen). IsSeenFor t c.args.request seen c.loop-at.me) c.below_root-2.result c.below_root-2.ensures
    (λ below. seen_here t c.args.request pc c.address-pc.ensures k at c.loop-at.me c.loop-at.invariant.sees c.loop-at.invariant.fits below)

pub returns-clause-sees : goal.returns-clause-sees
returns-clause-sees c = sees_only c.args.words.now.terms c.address-pc.result c.args.me.now c.loop-at.at.visit 1 c.loop-at.me c.loop-at.invariant.sees.sees
