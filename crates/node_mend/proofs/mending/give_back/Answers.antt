use Rattle.std.proofs.Common.{◌≡◌, true}
use Rattle.free_list.specs.Free.{GivesFree, LosesNode}
use Rattle.tree_descent.specs.Returns.{KeepsOut, ReturnsNode}
use Rattle.tree_descent.proofs.Descents.{if_err, on_ok}
use Rattle.tree_descent.proofs.GivenBack.{given_back, kept_out}
use Rattle.node_mend.proofs.mending.give_back.Goals as goal

pub returns-clause-ok : goal.returns-clause-ok
returns-clause-ok g c =
    let n = c.args.node in let k = c.args.me.now in let k1 = c.give_free.new.me in
    on_ok (GivesFree n k k1) (ReturnsNode n k k1) c.give_free.result (given_back c.exchange_decided.ensures n k k1 c.requires.may.settled) c.give_free.ensures.gives

pub returns-clause-lost : goal.returns-clause-lost
returns-clause-lost g c =
    let n = c.args.node in let k = c.args.me.now in let k1 = c.give_free.new.me in
    if_err (λ e. LosesNode n e k k1 × (g.L.Locking.gives_up ≡ true)) (λ e. KeepsOut n e k k1 × (g.L.Locking.gives_up ≡ true)) c.give_free.result (λ e l. (kept_out c.exchange_decided.ensures n k k1 c.requires.may.settled e l.0, l.1)) c.give_free.ensures.lost
