use Rattle.std.proofs.Common.{refl}
use Rattle.node_split.proofs.Halved.{IsHalved, may_let_go, may_read_over, may_read_way, splits_so, way_within}
use Rattle.node_split.proofs.LiftEnds.{lifted_halves}
use Rattle.node_split.specs.Splits.{root_for}
use Rattle.node_split.proofs.root_split.lift.Goals.{After-write_root_parts-parts}
use Rattle.node_split.proofs.root_split.lift.Goals as goal

written : (g : _) (c : After-write_root_parts-parts g) → IsHalved c.args.words.now.terms c.args.full.now.left c.args.full.now.right c.args.pc c.args.full.now.root.content (root_for c.args.full.now) c.args.me.now c.write_root_parts-parts.new.me
written g c =
    lifted_halves (record { decided = c.exchange_decided.ensures; transfer = c.transfer.ensures.lawful; reached = c.transfer.ensures.reached; widen = c.widen.ensures.lawful; wider = c.widen.ensures.reached })
    c.split_root.ensures.change c.args.words.now.terms c.args.full.now c.args.pc c.args.me.now c.write_root_parts-parts.new.me c.requires.held c.write_root_parts-parts.ensures.written

pub let_go-requires-clause-may : goal.let_go-requires-clause-may
let_go-requires-clause-may g c =
    let halves = written g (goal.at.let_go-requires-clause-may g c).After-write_root_parts-parts in let done = c.write_root_parts-parts in let ways = c.ways_of-ways in
    may_let_go halves done.result done.ensures.parts ways.result ways.ensures.way ways.ensures.other

pub settled_split-requires-clause-below : goal.settled_split-requires-clause-below
settled_split-requires-clause-below g c =
    let halves = written g (goal.at.settled_split-requires-clause-below g c).After-write_root_parts-parts in let done = c.write_root_parts-parts in let ways = c.ways_of-ways in
    way_within halves done.result done.ensures.parts ways.result ways.ensures.way ways.ensures.other

pub settled_split-requires-clause-held_above : goal.settled_split-requires-clause-held_above
settled_split-requires-clause-held_above g c =
    let halves = written g (goal.at.settled_split-requires-clause-held_above g c).After-write_root_parts-parts in let done = c.write_root_parts-parts in let ways = c.ways_of-ways in
    may_read_over halves done.result done.ensures.parts ways.result ways.ensures.way ways.ensures.other c.let_go.new.me c.let_go.ensures

pub settled_split-requires-clause-held_way : goal.settled_split-requires-clause-held_way
settled_split-requires-clause-held_way g c =
    let halves = written g (goal.at.settled_split-requires-clause-held_way g c).After-write_root_parts-parts in let done = c.write_root_parts-parts in let ways = c.ways_of-ways in
    may_read_way halves done.result done.ensures.parts ways.result ways.ensures.way ways.ensures.other c.let_go.new.me c.let_go.ensures

pub returns : goal.returns
returns g c =
    let halves = written g (goal.at.returns g c).After-write_root_parts-parts in let done = c.write_root_parts-parts in let ways = c.ways_of-ways in let last = c.settled_split in
    splits_so halves done.result done.ensures.parts ways.result ways.ensures.way ways.ensures.other c.let_go.new.me c.let_go.ensures
    c.requires.terms refl last.new.me last.result last.ensures.parent last.ensures.way last.ensures.room last.ensures.spells_parent last.ensures.spells_way last.ensures.tells_parent last.ensures.tells_way last.ensures.same last.ensures.holdings
