use Rattle.frame_expr.proofs.Parts.{from_start, read_gives}
use Rattle.frame_expr.proofs.expr.Expr.read.Goals as goal

pub returns-clause-bytes : goal.returns-clause-bytes
returns-clause-bytes g c =
    (read_gives g.row.DEPTH (λ e. e.bytes.now) c.args.bytes.now c.new.result c.read_rest.result c.read_rest.new.cursor (from_start c.new.result c.args.bytes.now c.new.ensures.bytes c.new.ensures.place) c.read_rest.ensures).0

pub returns-clause-ok : goal.returns-clause-ok
returns-clause-ok g c =
    (read_gives g.row.DEPTH (λ e. e.bytes.now) c.args.bytes.now c.new.result c.read_rest.result c.read_rest.new.cursor (from_start c.new.result c.args.bytes.now c.new.ensures.bytes c.new.ensures.place) c.read_rest.ensures).1

pub returns-clause-refused : goal.returns-clause-refused
returns-clause-refused g c =
    (read_gives g.row.DEPTH (λ e. e.bytes.now) c.args.bytes.now c.new.result c.read_rest.result c.read_rest.new.cursor (from_start c.new.result c.args.bytes.now c.new.ensures.bytes c.new.ensures.place) c.read_rest.ensures).2
