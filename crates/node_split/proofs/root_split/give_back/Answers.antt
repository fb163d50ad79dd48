use Rattle.std.proofs.Common.{◌≡◌, true}
use Rattle.free_list.specs.Free.{GivesFree, LosesNode}
use Rattle.tree_descent.proofs.Descents.{if_err, on_ok}
use Rattle.node_split.specs.Splits.{GivesBack, LosesFree}
use Rattle.node_split.proofs.GivingBack.{gives_back, loses_free}
use Rattle.node_split.proofs.root_split.give_back.Goals as goal

pub returns-clause-ok : goal.returns-clause-ok
returns-clause-ok g c =
    let n = c.args.node in let k = c.args.me.now in let k1 = c.load_node.new.me in let k2 = c.give_free.new.me in
    on_ok (GivesFree n k1 k2) (GivesBack k k2) c.give_free.result (gives_back c.exchange_decided.ensures n c.load_node.result k k1 k2 c.requires.held c.load_node.ensures.log c.load_node.ensures.out) c.give_free.ensures.gives

pub returns-clause-lost : goal.returns-clause-lost
returns-clause-lost g c =
    let n = c.args.node in let k = c.args.me.now in let k1 = c.load_node.new.me in let k2 = c.give_free.new.me in
    if_err (λ e. LosesNode n e k1 k2 × (g.L.Locking.gives_up ≡ true)) (λ e. LosesFree e k k2 × (g.L.Locking.gives_up ≡ true)) c.give_free.result (λ e l. (loses_free c.exchange_decided.ensures n c.load_node.result k k1 k2 c.requires.held c.load_node.ensures.log c.load_node.ensures.out e l.0, l.1)) c.give_free.ensures.lost
