use Rattle.std.proofs.Common.{ℕ, Option, Ok, subst}
use Rattle.node_split.specs.Splits.{IsRoomFor, TakesRoom}
use Rattle.node_split.proofs.GivingBack.{given_up, lost_then, none_left, two_taken}
use Rattle.node_split.proofs.root_split.room_for_root.Goals as goal

pub returns-in-Ok-Some : goal.returns-in-Ok-Some
returns-in-Ok-Some g c =
    let k = c.args.me.now in let k1 = c.room_for.new.me in let k2 = c.room_for-2.new.me in
    let one : TakesRoom c.in-Some.left k k1 = subst (λ (o : Option ℕ). IsRoomFor g.L.Locking.gives_up c.args.pc k k1 (Ok o)) c.in-Some.is (c.in_ok-left.ensures) in
    let next : TakesRoom c.in-Ok-Some.right k1 k2 = subst (λ (o : Option ℕ). IsRoomFor g.L.Locking.gives_up c.args.pc k1 k2 (Ok o)) c.in-Ok-Some.field-0-is (c.in-Ok-Some.ensures) in
    two_taken c.args.words.now.terms c.args.root.now c.args.pc (record { left = c.in-Some.left; right = c.in-Ok-Some.right }) k k1 k2 c.requires.held c.if-is_highest.ensures one next next.unheld

pub returns-in-Ok : goal.returns-in-Ok
returns-in-Ok g c =
    let k = c.args.me.now in let k1 = c.room_for.new.me in let k2 = c.room_for-2.new.me in
    let one : TakesRoom c.in-Some.left k k1 = subst (λ (o : Option ℕ). IsRoomFor g.L.Locking.gives_up c.args.pc k k1 (Ok o)) c.in-Some.is (c.in_ok-left.ensures) in
    none_left c.args.words.now.terms c.args.root.now c.args.pc c.in-Some.left k k1 k2 c.give_back.new.me c.requires.held one
    (subst (λ (o : Option ℕ). IsRoomFor g.L.Locking.gives_up c.args.pc k1 k2 (Ok o)) c.in-Ok-None.field-0-is (c.in-Ok-None.ensures)) c.in-Ok.ensures.ok

pub returns-in-Err-give_back : goal.returns-in-Err-give_back
returns-in-Err-give_back g c =
    let k = c.args.me.now in let k1 = c.room_for.new.me in let k2 = c.room_for-2.new.me in
    let one : TakesRoom c.in-Some.left k k1 = subst (λ (o : Option ℕ). IsRoomFor g.L.Locking.gives_up c.args.pc k k1 (Ok o)) c.in-Some.is (c.in_ok-left.ensures) in
    let none = subst (λ (o : Option ℕ). IsRoomFor g.L.Locking.gives_up c.args.pc k1 k2 (Ok o)) c.in-Ok-None.field-0-is (c.in-Ok-None.ensures) in
    lost_then c.args.words.now.terms c.args.root.now c.args.pc c.in-Some.left g.L.Locking.gives_up k k1 k2 c.give_back.new.me c.in-Err-give_back.lost c.requires.held one none.0 c.in-Err-give_back.ensures.lost.0 c.in-Err-give_back.ensures.lost.1

pub returns-in-Ok-give_back : goal.returns-in-Ok-give_back
returns-in-Ok-give_back g c =
    let k = c.args.me.now in let k1 = c.room_for.new.me in let k2 = c.room_for-2.new.me in
    let one : TakesRoom c.in-Some.left k k1 = subst (λ (o : Option ℕ). IsRoomFor g.L.Locking.gives_up c.args.pc k k1 (Ok o)) c.in-Some.is (c.in_ok-left.ensures) in
    given_up c.args.words.now.terms c.args.root.now c.args.pc c.in-Some.left g.L.Locking.gives_up k k1 k2 c.give_back-in-Err.new.me c.in-Err.busy c.requires.held one c.in-Err.ensures c.in-Ok-give_back.ensures.ok

pub returns-in-Err-give_back-2 : goal.returns-in-Err-give_back-2
returns-in-Err-give_back-2 g c =
    let k = c.args.me.now in let k1 = c.room_for.new.me in let k2 = c.room_for-2.new.me in
    let one : TakesRoom c.in-Some.left k k1 = subst (λ (o : Option ℕ). IsRoomFor g.L.Locking.gives_up c.args.pc k k1 (Ok o)) c.in-Some.is (c.in_ok-left.ensures) in
    lost_then c.args.words.now.terms c.args.root.now c.args.pc c.in-Some.left g.L.Locking.gives_up k k1 k2 c.give_back-in-Err.new.me c.in-Err-give_back-2.lost c.requires.held one c.in-Err.ensures.0 c.in-Err-give_back-2.ensures.lost.0 c.in-Err-give_back-2.ensures.lost.1
