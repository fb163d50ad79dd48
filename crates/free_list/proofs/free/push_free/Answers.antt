use Rattle.std.proofs.Common.{arith}
use Rattle.std.proofs.Common.{◌∙◌}
use Rattle.free_list.proofs.Giving.{pushed_first, pushed_more, refused_first, refused_more, refused_still, refused_table}
use Rattle.free_list.proofs.free.push_free.Goals as goal

pub returns-in-Ok : goal.returns-in-Ok
returns-in-Ok g c =
    pushed_first c.args.node c.load_head-first.result c.args.me.now c.load_head-first.new.me c.push_to.new.me (let a = c.load_head-first.ensures.node in let b = c.load_head-first.ensures.few in omega (arith, a, b)) c.load_head-first.ensures.log c.in-Ok.ensures.ok

pub loop-init : goal.loop-init
loop-init g c =
    let k = c.args.me.now in let k1 = c.load_head-first.new.me in let k2 = c.push_to.new.me in let e = c.in-Err.ensures.err in
    let stays = refused_first c.args.node c.load_head-first.result c.in-Err.found k k1 k2 (let a = c.load_head-first.ensures.node in let b = c.load_head-first.ensures.few in omega (arith, a, b)) e.0 c.load_head-first.ensures.log e.2 in record {
      stays = stays;
      short = e.1;
      free = refused_still c.args.node c.in-Err.found k k2 stays c.requires.free;
      table = refused_table c.args.node c.in-Err.found k k2 stays ∙ c.requires.table;
    }

pub returns-in-Ok-push_to : goal.returns-in-Ok-push_to
returns-in-Ok-push_to g c = pushed_more c.args.node c.loop.head c.args.me.now c.loop.me c.push_to-in-loop.new.me c.loop.invariant.short c.loop.invariant.stays c.in-Ok-push_to.ensures.ok

pub loop-preserved : goal.loop-preserved
loop-preserved g c =
    let k = c.args.me.now in let k2 = c.push_to-in-loop.new.me in let e = c.in-Err-push_to.ensures.err in
    let stays = refused_more c.args.node c.loop.head c.in-Err-push_to.found k c.loop.me k2 c.loop.invariant.short e.0 c.loop.invariant.stays e.2 in record {
      stays = stays;
      short = e.1;
      free = refused_still c.args.node c.in-Err-push_to.found k k2 stays c.requires.free;
      table = refused_table c.args.node c.in-Err-push_to.found k k2 stays ∙ c.requires.table;
    }
