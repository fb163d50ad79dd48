use Rattle.node_split.proofs.Rooms.{room_found}
use Rattle.node_split.proofs.split.room_for.Goals as goal

pub returns : goal.returns
returns g c =
    room_found c.args.words.now.terms c.args.full.now c.args.pc c.args.me.now c.load_node.new.me c.load_node.result c.requires.full c.load_node.ensures.log c.load_node.ensures.held g.L.Locking.gives_up c.take_free.new.me c.take_free.result c.take_free.ensures
