use Rattle.std.proofs.Common.{◌-◌, ◌∙◌, min, ap, sym, arith}
use Rattle.btree_lookup.proofs.Leaves.{base_high, base_low, leaf_count, none_there}
use Rattle.btree_lookup.proofs.entry.begun_at.Goals as goal

pub returns-then-count-eq0-clause-begun : goal.returns-then-count-eq0-clause-begun
returns-then-count-eq0-clause-begun g c k way =
    let counted = leaf_count c.args.words.now.terms c.args.pc k c.args.visit (g.L.Looker.known c.args.me.now) (g.L.Looker.known c.load_node.new.self) c.load_node.result way c.load_node.ensures.log in
    none_there c.args.words.now.terms c.args.pc k c.args.visit (g.L.Looker.known c.load_node.new.self) c.load_node.result counted (sym c.min-count.ensures ∙ c.if-count-eq0.true)

pub returns-then-base-pc-clause-begun : goal.returns-then-base-pc-clause-begun
returns-then-base-pc-clause-begun g c k way =
    let counted = leaf_count c.args.words.now.terms c.args.pc k c.args.visit (g.L.Looker.known c.args.me.now) (g.L.Looker.known c.load_node.new.self) c.load_node.result way c.load_node.ensures.log in
    let number = c.min-count.ensures in let some = c.if-count-eq0.false in
    base_high c.args.words.now.terms c.args.pc k c.args.visit (g.L.Looker.known c.later_begun.new.me) (g.L.Looker.known c.load_node-base.new.self) c.load_node.result c.later_begun.result c.min-place.result c.load_node-base.result (c.later_begun.ensures.later k c.load_node.result counted)
    (omega (arith, number, some)) (c.min-place.ensures ∙ ap (λ n. min c.later_begun.result (n - 1)) number) c.load_node-base.ensures.log c.if-base-pc.true

pub returns-clause-begun : goal.returns-clause-begun
returns-clause-begun g c k way =
    let counted = leaf_count c.args.words.now.terms c.args.pc k c.args.visit (g.L.Looker.known c.args.me.now) (g.L.Looker.known c.load_node.new.self) c.load_node.result way c.load_node.ensures.log in
    let number = c.min-count.ensures in let some = c.if-count-eq0.false in
    base_low c.args.words.now.terms c.args.pc k c.args.visit (g.L.Looker.known c.later_begun.new.me) (g.L.Looker.known c.load_node-base.new.self) c.load_node.result c.later_begun.result c.min-place.result c.load_node-base.result (c.later_begun.ensures.later k c.load_node.result counted)
    (omega (arith, number, some)) (c.min-place.ensures ∙ ap (λ n. min c.later_begun.result (n - 1)) number) c.load_node-base.ensures.log c.if-base-pc.false
