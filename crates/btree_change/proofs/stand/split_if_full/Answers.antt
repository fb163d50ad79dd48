use Rattle.std.proofs.Common.{drop, refl}
use Rattle.btree_change.proofs.Stepping.{none_free_on, splits_on, stays_unsplit}
use Rattle.btree_change.proofs.stand.split_if_full.Goals as goal

pub split_full-requires-clause-splitting : goal.split_full-requires-clause-splitting
split_full-requires-clause-splitting g c = c.in-Splitting.is

pub split_full-requires-clause-room : goal.split_full-requires-clause-room
split_full-requires-clause-room g c = splits_on c.args.step.room c.args.pc c.args.step.parent.content c.args.me.now.log c.in-Splitting.is c.requires.step.way

pub returns-in-NoneFree-clause-ok : goal.returns-in-NoneFree-clause-ok
returns-in-NoneFree-clause-ok g c = stays_unsplit c.args.words.now.terms c.args.pc c.args.step (drop 2 c.args.me.now.log.holdings.held) c.args.me.now c.requires.step.pair refl (none_free_on c.args.step.room c.args.pc c.args.step.parent.content c.args.step.child.content c.args.me.now.log c.in-NoneFree.is c.requires.step.way) c.requires.less
