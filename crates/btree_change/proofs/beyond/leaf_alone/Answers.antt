use Rattle.std.proofs.Common.{◌∙◌}
use Rattle.btree_change.proofs.FarLeaves.{alone_so, alone_spends, outline_is, left_path, may_outline, moved_over, moved_surplus}
use Rattle.btree_change.proofs.beyond.leaf_alone.Goals as goal

pub let_go_of_path-requires-clause-path : goal.let_go_of_path-requires-clause-path
let_go_of_path-requires-clause-path g c = moved_over c.args.words.now.terms c.args.far c.args.me.now c.requires.moved c.change_all.new.self c.change_all.ensures

pub let_go_of_path-requires-clause-surplus : goal.let_go_of_path-requires-clause-surplus
let_go_of_path-requires-clause-surplus g c = moved_surplus c.args.words.now.terms c.args.far c.args.me.now c.requires.moved c.change_all.new.self c.change_all.ensures c.requires.surplus

pub outline_of-content-requires-clause-table : goal.outline_of-content-requires-clause-table
outline_of-content-requires-clause-table g c =
    (left_path c.args.words.now.terms c.args.far c.args.me.now c.requires.moved c.change_all.new.self c.change_all.ensures c.let_go_of_path.new.me c.let_go_of_path.ensures).steps.calls.caller.table ∙ c.requires.table

pub outline_of-content-requires-clause-inside : goal.outline_of-content-requires-clause-inside
outline_of-content-requires-clause-inside g c = c.requires.moved.within

pub outline_of-content-requires-clause-held : goal.outline_of-content-requires-clause-held
outline_of-content-requires-clause-held g c =
    let t = c.args.words.now.terms in let far = c.args.far in let k = c.args.me.now in let k1 = c.let_go_of_path.new.me in
    may_outline t far k c.requires.moved k1 (left_path t far k c.requires.moved c.change_all.new.self c.change_all.ensures k1 c.let_go_of_path.ensures)

pub returns-clause-alone : goal.returns-clause-alone
returns-clause-alone g c =
    let t = c.args.words.now.terms in let far = c.args.far in let k = c.args.me.now in let k1 = c.let_go_of_path.new.me in let outline = c.outline_of-content in
    let leaves = left_path t far k c.requires.moved c.change_all.new.self c.change_all.ensures k1 c.let_go_of_path.ensures in
    alone_so t far k c.requires.moved k1 leaves outline.new.me outline.result outline.ensures.spells outline.ensures.loads

pub returns-clause-content : goal.returns-clause-content
returns-clause-content g c moved =
    let t = c.args.words.now.terms in let far = c.args.far in let k = c.args.me.now in let k1 = c.let_go_of_path.new.me in let outline = c.outline_of-content in
    outline_is t far k moved k1 (left_path t far k moved c.change_all.new.self c.change_all.ensures k1 c.let_go_of_path.ensures) outline.new.me outline.result outline.ensures.spells outline.ensures.loads

pub returns-clause-spends : goal.returns-clause-spends
returns-clause-spends g c =
    let t = c.args.words.now.terms in let far = c.args.far in let k = c.args.me.now in let k1 = c.let_go_of_path.new.me in let outline = c.outline_of-content in
    let leaves = left_path t far k c.requires.moved c.change_all.new.self c.change_all.ensures k1 c.let_go_of_path.ensures in
    alone_spends t far k c.requires.moved k1 leaves outline.new.me outline.result outline.ensures.spells outline.ensures.loads
