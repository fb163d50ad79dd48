use Rattle.std.proofs.Common.{rules, ◌≡◌, ◌<◌, ◌≤◌, ◌++◌, length, true, false, sym, ap, ◌∙◌, arith}
use Rattle.std.proofs.lemmas.List.{take-append-drop}
use Rattle.stack_walk.specs.Modules.{ModuleData, has_code_at}
use Rattle.stack_walk.proofs.Ascending.{in_no_module, answer_of_one, lower_modules, upper_modules}
use Rattle.stack_walk.proofs.list.module_of.Goals as goal

pub loop-left-preserved-then-first-pc : goal.loop-left-preserved-then-first-pc
loop-left-preserved-then-first-pc g c =
    let parts : c.loop-left.left.now ≡ c.split_at.result.0.now ++ c.split_at.result.1.now = rw (c.split_at.ensures.front, c.split_at.ensures.back) (sym (take-append-drop _ c.loop-left.left.now)) in
    let some : 0 < length c.split_at.result.1.now = omega (arith, c.split_at.ensures.back_len, c.loop-left-test.true) in
    let le : c.index-high-0.result.first ≤ c.args.pc = omega (arith, c.if-first-pc.true, ap (λ (m : ModuleData). m.first) c.first.view_is) in
    let high = upper_modules c.args.pc c.loop-left.invariant.0 _ _ _ c.index-high-0.result parts some c.index-high-0.is c.loop-left.invariant.1 le in
    (high.0, high.1, high.2 ∙ c.loop-left.invariant.2)

pub loop-left-preserved : goal.loop-left-preserved
loop-left-preserved g c =
    let parts : c.loop-left.left.now ≡ c.split_at.result.0.now ++ c.split_at.result.1.now = rw (c.split_at.ensures.front, c.split_at.ensures.back) (sym (take-append-drop _ c.loop-left.left.now)) in
    let some : 0 < length c.split_at.result.1.now = omega (arith, c.split_at.ensures.back_len, c.loop-left-test.true) in
    let lt : c.args.pc < c.index-high-0.result.first = omega (arith, c.if-first-pc.false, ap (λ (m : ModuleData). m.first) c.first.view_is) in
    let low = lower_modules c.args.pc c.loop-left.invariant.0 _ _ _ c.index-high-0.result parts some c.index-high-0.is c.loop-left.invariant.1 lt in
    (low.0, low.1, low.2 ∙ c.loop-left.invariant.2)

pub returns-in-empty : goal.returns-in-empty
returns-in-empty g c = sym (in_no_module c.args.pc c.loop-left.left.now c.in-empty.len_below) ∙ c.loop-left.invariant.2

pub returns-then-has_code_at : goal.returns-then-has_code_at
returns-then-has_code_at g c =
    let has : has_code_at c.args.pc c.module-item.result ≡ true = search (rules, c.has_code_at.ensures, c.if-has_code_at.true) in
    answer_of_one c.args.pc c.loop-left.left.now c.module-item.result true c.loop-left-test.false c.in-len1-up.len_at_least c.module-item.is has ∙ c.loop-left.invariant.2

pub returns-else-has_code_at : goal.returns-else-has_code_at
returns-else-has_code_at g c =
    let lacks : has_code_at c.args.pc c.module-item.result ≡ false = search (rules, c.has_code_at.ensures, c.if-has_code_at.false) in
    answer_of_one c.args.pc c.loop-left.left.now c.module-item.result false c.loop-left-test.false c.in-len1-up.len_at_least c.module-item.is lacks ∙ c.loop-left.invariant.2
