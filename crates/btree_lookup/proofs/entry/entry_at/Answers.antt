use Rattle.std.proofs.Common.{arith}
use Rattle.btree_lookup.proofs.Entries.{entry_none, entry_short, entry_long}
use Rattle.btree_lookup.proofs.entry.entry_at.Goals as goal

pub returns-then-count-eq0-clause-entry : goal.returns-then-count-eq0-clause-entry
returns-then-count-eq0-clause-entry g c k bottom way =
    entry_none c.args.words.now.terms c.args.pc k c.args.visit c.begun_at-count.result (g.L.Looker.known c.begun_at-count.new.me) (c.begun_at-count.ensures.begun k way) bottom (omega (arith, c.if-count-eq0.true))

pub returns-then-pc-base-clause-entry : goal.returns-then-pc-base-clause-entry
returns-then-pc-base-clause-entry g c k bottom way =
    entry_short c.args.words.now.terms c.args.pc k c.args.visit c.begun_at-count.result (g.L.Looker.known c.begun_at-count.new.me) (c.begun_at-count.ensures.begun k way) bottom (omega (arith, c.if-count-eq0.false)) c.begun_at-count.ensures.few
    c.load_node-size.result (g.L.Looker.known c.load_node-size.new.self) c.load_node-size.ensures.log c.if-pc-base.true

pub returns-clause-entry : goal.returns-clause-entry
returns-clause-entry g c k bottom way =
    entry_long c.args.words.now.terms c.args.pc k c.args.visit c.begun_at-count.result (g.L.Looker.known c.begun_at-count.new.me) (c.begun_at-count.ensures.begun k way) bottom (omega (arith, c.if-count-eq0.false)) c.begun_at-count.ensures.few
    c.load_node-size.result (g.L.Looker.known c.load_node-size.new.self) c.load_node-size.ensures.log c.load_node-payload.result (g.L.Looker.known c.load_node-payload.new.self) c.load_node-payload.ensures.log (omega (arith, c.if-pc-base.false))
