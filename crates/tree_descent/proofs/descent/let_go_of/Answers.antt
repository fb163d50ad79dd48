use Rattle.tree_descent.proofs.Releasing.{is_clean, kept, may_raise, raised}
use Rattle.tree_descent.proofs.descent.let_go_of.Goals as goal

pub let_go-requires-clause-may : goal.let_go-requires-clause-may
let_go-requires-clause-may g c = may_raise c.args.node c.args.changed c.args.me.now c.requires.may

pub let_go_same-requires-clause-clean : goal.let_go_same-requires-clause-clean
let_go_same-requires-clause-clean g c = is_clean c.args.node c.args.changed c.args.me.now c.requires.may c.if-changed.false

pub returns-then-changed : goal.returns-then-changed
returns-then-changed g c = raised c.args.node c.args.changed c.args.me.now c.requires.may c.exchange_decided.ensures c.let_go.new.me c.let_go.ensures

pub returns-else-changed : goal.returns-else-changed
returns-else-changed g c = kept c.args.node c.args.changed c.args.me.now c.requires.may c.let_go_same.new.me c.let_go_same.ensures
