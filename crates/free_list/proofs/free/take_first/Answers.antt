use Rattle.std.proofs.Common.{◌∙◌, ap}
use Rattle.free_list.specs.Free.{headed}
use Rattle.free_list.proofs.Rounds.{loses_none, round_lost, round_taken}
use Rattle.free_list.proofs.free.take_first.Goals as goal

pub returns-then-head-eq0 : goal.returns-then-head-eq0
returns-then-head-eq0 g c = (c.args.me.now, (loses_none c.args.me.now, c.load_head-head.ensures.log ∙ ap (λ z. headed z c.args.me.now) c.if-head-eq0.true))

pub returns-then-pop_locked : goal.returns-then-pop_locked
returns-then-pop_locked g c =
    let t = c.in-Ok.ensures.ok in
    round_taken c.load_head-head.result c.args.me.now c.load_head-head.new.me c.take.new.me c.load_head-head.ensures.log c.in-Ok.field-0 t.0 t.1 t.2.0 t.2.1 c.pop_locked.new.me c.if-head-eq0.false c.if-pop_locked.ensures

pub returns-else-pop_locked : goal.returns-else-pop_locked
returns-else-pop_locked g c =
    let t = c.in-Ok.ensures.ok in
    round_lost c.load_head-head.result c.args.me.now c.load_head-head.new.me c.take.new.me c.load_head-head.ensures.log c.in-Ok.field-0 t.0 t.1 t.2.0 t.2.1 c.pop_locked.new.me c.let_go_same.new.me c.if-pop_locked.ensures c.let_go_same.ensures
