use Rattle.std.proofs.Common.{ℕ, IsSome, IsTrue, ap, sym, subst, ◌∙◌, ◌<◌}
use Rattle.tree_laws.specs.Numbers.{is_among}
use Rattle.word_rule.specs.CallerData.{CallerData}
use Rattle.word_rule.specs.Held.{held_of}
use Rattle.free_list.specs.Free.{StaysOut, after_setting}
use Rattle.free_list.proofs.Giving.{held_then, out_then, pushed_gives, pushed_may, pushed_others, pushed_surplus, refused_loses, refused_may, refused_surplus, released_gone, released_surplus, unlinked_now}
use Rattle.free_list.proofs.free.give_free.Goals as goal

pub set_word-requires-2-clause-held : goal.set_word-requires-2-clause-held
set_word-requires-2-clause-held g c =
    subst (λ (k : CallerData). IsSome (held_of c.args.node k.log.holdings.held)) (sym c.set_word.ensures.log)
    (held_then c.args.node c.args.me.now.log c.requires.held c.requires.out c.set_word.ensures.holder c.set_word.ensures.out)

pub set_word-requires-2-clause-out : goal.set_word-requires-2-clause-out
set_word-requires-2-clause-out g c =
    subst (λ (k : CallerData). IsTrue (is_among k.log.holdings.out c.args.node)) (sym c.set_word.ensures.log)
    (out_then c.args.node c.args.me.now.log c.requires.held c.requires.out c.set_word.ensures.holder c.set_word.ensures.out)

pub push_free-requires-clause-free : goal.push_free-requires-clause-free
push_free-requires-clause-free g c =
    let n = c.args.node in let freed_is = c.set_word-2.ensures.log ∙ ap (λ (z : CallerData). record z { log = after_setting n 2 0 z.log }) c.set_word.ensures.log in
    unlinked_now n c.args.me.now c.set_word-2.new.me c.requires.held c.requires.out c.set_word.ensures.holder c.set_word.ensures.out freed_is

pub let_go-requires-clause-may : goal.let_go-requires-clause-may
let_go-requires-clause-may g c =
    let n = c.args.node in let freed_is = c.set_word-2.ensures.log ∙ ap (λ (z : CallerData). record z { log = after_setting n 2 0 z.log }) c.set_word.ensures.log in
    pushed_may n c.args.me.now c.set_word-2.new.me c.requires.held c.requires.out c.set_word.ensures.holder c.set_word.ensures.out freed_is c.push_free.new.me c.if-push_free.ensures

pub let_go-requires-clause-surplus : goal.let_go-requires-clause-surplus
let_go-requires-clause-surplus g c =
    let n = c.args.node in let freed_is = c.set_word-2.ensures.log ∙ ap (λ (z : CallerData). record z { log = after_setting n 2 0 z.log }) c.set_word.ensures.log in
    subst (λ d. 0 < d) (sym (pushed_surplus n c.args.me.now c.set_word-2.new.me c.requires.held c.requires.out c.set_word.ensures.holder c.set_word.ensures.out freed_is c.push_free.new.me c.if-push_free.ensures)) c.requires.surplus

pub let_go-requires-else-push_free-clause-may : goal.let_go-requires-else-push_free-clause-may
let_go-requires-else-push_free-clause-may g c =
    let n = c.args.node in let freed_is = c.set_word-2.ensures.log ∙ ap (λ (z : CallerData). record z { log = after_setting n 2 0 z.log }) c.set_word.ensures.log in
    refused_may n c.args.me.now c.set_word-2.new.me c.requires.held c.requires.out c.set_word.ensures.holder c.set_word.ensures.out freed_is c.push_free.new.me (c.if-push_free.ensures.0, c.if-push_free.ensures.1)

pub let_go-requires-else-push_free-clause-surplus : goal.let_go-requires-else-push_free-clause-surplus
let_go-requires-else-push_free-clause-surplus g c =
    let n = c.args.node in let freed_is = c.set_word-2.ensures.log ∙ ap (λ (z : CallerData). record z { log = after_setting n 2 0 z.log }) c.set_word.ensures.log in
    subst (λ d. 0 < d) (sym (refused_surplus n c.args.me.now c.set_word-2.new.me c.requires.held c.requires.out c.set_word.ensures.holder c.set_word.ensures.out freed_is c.push_free.new.me (c.if-push_free.ensures.0, c.if-push_free.ensures.1))) c.requires.surplus

pub returns-then-push_free : goal.returns-then-push_free
returns-then-push_free g c =
    let n = c.args.node in let k = c.args.me.now in let k3 = c.push_free.new.me in let k4 = c.let_go.new.me in
    let freed_is = c.set_word-2.ensures.log ∙ ap (λ (z : CallerData). record z { log = after_setting n 2 0 z.log }) c.set_word.ensures.log in
    let same = pushed_surplus n k c.set_word-2.new.me c.requires.held c.requires.out c.set_word.ensures.holder c.set_word.ensures.out freed_is k3 c.if-push_free.ensures in record {
      gives = pushed_gives n k c.set_word-2.new.me c.requires.held c.requires.out c.set_word.ensures.holder c.set_word.ensures.out freed_is k3 c.if-push_free.ensures k4 c.let_go.ensures;
      lost = tt;
      unlocked = released_gone n k3 k4 c.let_go.ensures;
      spends = released_surplus n k k3 k4 same c.requires.surplus c.let_go.ensures;
      others = pushed_others n k c.set_word-2.new.me c.requires.held c.requires.out c.set_word.ensures.holder c.set_word.ensures.out freed_is k3 c.if-push_free.ensures c.exchange_decided.ensures k4 c.let_go.ensures;
    }

pub returns-else-push_free : goal.returns-else-push_free
returns-else-push_free g c =
    let n = c.args.node in let k = c.args.me.now in let k3 = c.push_free.new.me in let k4 = c.let_go-else-push_free.new.me in
    let freed_is = c.set_word-2.ensures.log ∙ ap (λ (z : CallerData). record z { log = after_setting n 2 0 z.log }) c.set_word.ensures.log in
    let stays : (found : ℕ) × StaysOut n found c.set_word-2.new.me k3 = (c.if-push_free.ensures.0, c.if-push_free.ensures.1) in
    let same = refused_surplus n k c.set_word-2.new.me c.requires.held c.requires.out c.set_word.ensures.holder c.set_word.ensures.out freed_is k3 stays in record {
      gives = tt;
      lost = (refused_loses n k c.set_word-2.new.me c.requires.held c.requires.out c.set_word.ensures.holder c.set_word.ensures.out freed_is k3 stays k4 c.let_go-else-push_free.ensures, c.if-push_free.ensures.2);
      unlocked = released_gone n k3 k4 c.let_go-else-push_free.ensures;
      spends = released_surplus n k k3 k4 same c.requires.surplus c.let_go-else-push_free.ensures;
      others = λ _. tt;
    }
