use Rattle.std.proofs.Common.{◌≤◌, ◌-◌, ◌*◌, refl, arith}
use Rattle.receipt_check.specs.Sweep.{HadLast, last_with, IsFilledNow}
use Rattle.receipt_check.specs.Flaws.{since_of}
use Rattle.receipt_check.proofs.KeptMembers.{fails_by}
use Rattle.receipt_check.proofs.present.Present.is_filled.Goals as goal

pub returns-then-not-had : goal.returns-then-not-had
returns-then-not-had c =
    let p = c.args.self.now in
    let t = c.args.row.now in
    fails_by (HadLast (last_with p.moments p.made 10) (since_of t) t.receipt) (IsFilledNow c.args.nodes p t) _ c.if-not-had.true (rw c.max-since.ensures at c.had.ensures) (λ filled. filled.ten)

pub returns-then-within-lt2 : goal.returns-then-within-lt2
returns-then-within-lt2 c =
    let ten = (rw c.max-since.ensures at c.had.ensures).0 c.if-not-had.false in
    (λ _. record { ten = ten; most = λ two. absurd (let within = c.within_tree-within.ensures in let few = c.if-within-lt2.true in omega arith) }, λ _. refl)

pub returns : goal.returns
returns c =
    let ten = (rw c.max-since.ensures at c.had.ensures).0 c.if-not-had.false in
    let most = rw (c.max-since.ensures, c.within_tree-within.ensures) at c.had-2.ensures in
    let two : 2 ≤ c.args.nodes - 4 * c.args.row.now.callers = (let within = c.within_tree-within.ensures in let many = c.if-within-lt2.false in omega arith) in
    (λ is. record { ten = ten; most = λ _. most.0 is }, λ filled. most.1 (filled.most two))
