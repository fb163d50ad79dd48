use Rattle.std.proofs.Common.{◌≡◌, ◌+◌, ◌∙◌, arith, ap, sym, subst, length, map, List, ℕ}
use Rattle.frame_parse.specs.Sections.{SectionData}
use Rattle.fde_writer.specs.Outcomes.{IsRegistration, not_put}
use Rattle.fde_writer.specs.Puttings.{IsSectionFault}
use Rattle.fde_writer.specs.declared.outcome.Registration.TheVariants as registration
use Rattle.fde_writer.specs.Sections.{FdeWriterData, IsFdeWriterWith, fde_writer, members_due}
use Rattle.fde_writer.proofs.Endings.{given_more, not_registered, registered}
use Rattle.fde_writer.proofs.Keeping.{MayStand, entered_keeps, fault_keeps}
use Rattle.fde_writer.proofs.writer.FdeWriter.stand.Goals as goal

pub overflow_cast-count : goal.overflow_cast-count
overflow_cast-count c = omega (arith, c.count-count.ensures, ap length c.requires.places, c.requires.enough, c.requires.left)

pub overflow_add-self : goal.overflow_add-self
overflow_add-self c =
    let now : members_due c.args.self.now ≡ c.self.inside.due = sym (c.self.invariant.due_is ∙ ap members_due c.self.view_is) in
    omega (arith, c.count-count.ensures, ap length c.requires.places, c.requires.enough, c.requires.left, now)

pub invariant_of-self-in-Ok : goal.invariant_of-self-in-Ok
invariant_of-self-in-Ok c =
    let x = c.args.standing in
    let i = c.self.inside in
    let may = subst (λ (v : FdeWriterData). MayStand v c.args.standing) (sym c.self.view_is) (record { whole = c.requires.whole; near = c.requires.near; enough = c.requires.enough; free = c.requires.free }) in
    let keeps = entered_keeps i.due _ x c.self.invariant may c.enter.new.client c.enter.new.book c.args.key c.in-Ok.numbers c.in-Ok.ensures.enters in
    let told = c.count-count.ensures in
    let same : length c.args.places ≡ length x.places = ap length c.requires.places in
    let count : length x.places ≡ c.count-count.result = omega (arith, told, same) in
    subst (λ (n : ℕ). IsFdeWriterWith (i.due + n) (fde_writer c.enter.new.client i.low c.enter.new.book (map (λ s. s.value.section) c.note_given.new.given.items))) count
    (subst (λ (ss : List SectionData). IsFdeWriterWith (i.due + length x.places) (fde_writer c.enter.new.client i.low c.enter.new.book ss))
    (sym (given_more (λ s. s.value.section) c.self.inside.given.items c.try_reserve.new.self.items c.note_given.new.given.items c.of-seen.result c.args.standing.section c.note_given.ensures c.try_reserve.ensures.items (ap (λ y. y.section) c.of-seen.ensures))) keeps)

pub invariant_of-self-in-Err-NotPut : goal.invariant_of-self-in-Err-NotPut
invariant_of-self-in-Err-NotPut c =
    let i = c.self.inside in
    let may = subst (λ (v : FdeWriterData). MayStand v c.args.standing) (sym c.self.view_is) (record { whole = c.requires.whole; near = c.requires.near; enough = c.requires.enough; free = c.requires.free }) in
    let why = subst (IsSectionFault c.args.standing i.client c.enter.new.client i.book c.enter.new.book) c.in-Err-NotPut.field-0-is c.in-Err-NotPut.ensures.fault in
    subst (λ (ss : List SectionData). IsFdeWriterWith i.due (fde_writer c.enter.new.client i.low c.enter.new.book ss))
    (sym (given_more (λ s. s.value.section) c.self.inside.given.items c.try_reserve.new.self.items c.note_given-in-Err-NotPut.new.given.items c.of-seen.result c.args.standing.section c.note_given-in-Err-NotPut.ensures c.try_reserve.ensures.items (ap (λ y. y.section) c.of-seen.ensures)))
    (fault_keeps i.due _ c.args.standing c.self.invariant may c.enter.new.client c.enter.new.book c.in-Err-NotPut.fault why.0 why.1)

pub returns-in-Ok : goal.returns-in-Ok
returns-in-Ok c =
    let x = c.args.standing in
    let i = c.self.inside in
    let u = fde_writer i.client i.low i.book (map (λ s. s.value.section) i.given.items) in
    let may = subst (λ (v : FdeWriterData). MayStand v c.args.standing) (sym c.self.view_is) (record { whole = c.requires.whole; near = c.requires.near; enough = c.requires.enough; free = c.requires.free }) in
    subst (λ (v : FdeWriterData). IsRegistration c.args.key x.note x.section v (fde_writer c.enter.new.client i.low c.enter.new.book (map (λ s. s.value.section) c.note_given.new.given.items)) (registration.Done c.in-Ok.numbers)) c.self.view_is
    (subst (λ (ss : List SectionData). IsRegistration c.args.key x.note x.section u (fde_writer c.enter.new.client i.low c.enter.new.book ss) (registration.Done c.in-Ok.numbers))
    (sym (given_more (λ s. s.value.section) c.self.inside.given.items c.try_reserve.new.self.items c.note_given.new.given.items c.of-seen.result c.args.standing.section c.note_given.ensures c.try_reserve.ensures.items (ap (λ y. y.section) c.of-seen.ensures)))
    (registered u x may c.enter.new.client c.enter.new.book c.args.key c.in-Ok.numbers c.in-Ok.ensures.enters c.in-Ok.ensures.enters.puts.free))

pub returns-in-Err-NotPut : goal.returns-in-Err-NotPut
returns-in-Err-NotPut c =
    let x = c.args.standing in
    let i = c.self.inside in
    let u = fde_writer i.client i.low i.book (map (λ s. s.value.section) i.given.items) in
    let may = subst (λ (v : FdeWriterData). MayStand v c.args.standing) (sym c.self.view_is) (record { whole = c.requires.whole; near = c.requires.near; enough = c.requires.enough; free = c.requires.free }) in
    let why = subst (IsSectionFault x i.client c.enter.new.client i.book c.enter.new.book) c.in-Err-NotPut.field-0-is c.in-Err-NotPut.ensures.fault in
    subst (IsRegistration c.args.key x.note x.section c.args.self.now (fde_writer c.enter.new.client i.low c.enter.new.book (map (λ s. s.value.section) c.note_given-in-Err-NotPut.new.given.items))) (sym c.not_put.ensures)
    (subst (λ (v : FdeWriterData). IsRegistration c.args.key x.note x.section v (fde_writer c.enter.new.client i.low c.enter.new.book (map (λ s. s.value.section) c.note_given-in-Err-NotPut.new.given.items)) (not_put c.in-Err-NotPut.fault)) c.self.view_is
    (subst (λ (ss : List SectionData). IsRegistration c.args.key x.note x.section u (fde_writer c.enter.new.client i.low c.enter.new.book ss) (not_put c.in-Err-NotPut.fault))
    (sym (given_more (λ s. s.value.section) c.self.inside.given.items c.try_reserve.new.self.items c.note_given-in-Err-NotPut.new.given.items c.of-seen.result c.args.standing.section c.note_given-in-Err-NotPut.ensures c.try_reserve.ensures.items (ap (λ y. y.section) c.of-seen.ensures)))
    (not_registered u x may c.enter.new.client c.enter.new.book c.args.key c.in-Err-NotPut.fault why.0 why.1)))
