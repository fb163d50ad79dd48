use Rattle.std.proofs.Common.{refl}
use Rattle.array_publish.proofs.WholeCalls.{ends_try, load_told}
use Rattle.array_publish.proofs.calls.load_by.Goals as goal

pub returns : goal.returns
returns g c =
    let told = load_told c.args.words.now.terms c.args.member c.args.me.now c.take.new.me c.load_held-answer.new.me c.let_go.new.me c.load_held-answer.result c.loaded.result c.loaded.ensures c.in_ok-take.ensures.ok c.load_held-answer.ensures.answer c.let_go.ensures in
    record { answer = told; call = ends_try c.args.words.now _ c.load_held-answer.result c.args.me.now c.take.new.me c.let_go.new.me c.in_ok-take.ensures.ok c.load_held-answer.ensures.terms told.4.1 refl refl refl }
