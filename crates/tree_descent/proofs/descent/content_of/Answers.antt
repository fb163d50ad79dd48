use Rattle.tree_descent.proofs.Descending.{steps_of_read}
use Rattle.tree_descent.proofs.Outlining.{may_read, spell_one, spells_read}
use Rattle.tree_descent.proofs.descent.content_of.Goals as goal

pub read_held-requires-clause-held : goal.read_held-requires-clause-held
read_held-requires-clause-held c = may_read c.args.at.now.node c.args.at.now.content c.args.me.now.log c.requires.spells

pub returns-clause-content : goal.returns-clause-content
returns-clause-content c =
    let at = c.args.at.now in
    spell_one at.node c.read_held.result at.content c.args.me.now.log (spells_read at.node c.args.me.now c.read_held.new.me c.read_held.result c.read_held.ensures.reads) c.requires.spells

pub returns-clause-steps : goal.returns-clause-steps
returns-clause-steps c = steps_of_read c.args.at.now.node c.args.me.now c.read_held.new.me c.read_held.result c.read_held.ensures.reads
