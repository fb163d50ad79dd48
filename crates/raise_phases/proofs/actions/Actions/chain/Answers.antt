use Rattle.std.proofs.Common.{◌≡◌, ℤ, pos, ◌+ℤ◌, length, true, false, sym, ◌∙◌, ap, arith, rules, SFits, w64}
use Rattle.std.proofs.lemmas.Int.{to_z-of_z}
use Rattle.std.proofs.lemmas.Result.{err_from_is_err_and}
use Rattle.raise_phases.specs.Actions.{leads_on, place_among}
use Rattle.raise_phases.proofs.Chains.{at_outside, at_end, refused_at, caught_at, ends_at, goes_on_at}
use Rattle.raise_phases.proofs.actions.Actions.chain.Goals as goal

pub returns-in-None : goal.returns-in-None
returns-in-None c =
    let was = c.loop in
    sym (at_outside c.args.self.now c.args.pad was.counter was.before was.next was.otherwise _ was.invariant.chain c.in-None.is)

pub returns-in_err-record : goal.returns-in_err-record
returns-in_err-record c =
    let was = c.loop in
    let p = err_from_is_err_and c.from_residual.result c.from_residual.ensures.1 in
    rw (p.1, p.2)
    (refused_at c.args.self.now c.args.pad was.counter was.before c.in-Some.place was.next was.otherwise _ c.in_err-record.field-0.0 was.invariant.chain c.in-Some.is (omega (arith, c.loop-test.true)) c.in_err-record.ensures)

pub returns-in-Catches : goal.returns-in-Catches
returns-in-Catches c =
    let was = c.loop in
    caught_at c.args.self.now c.args.pad was.counter was.before c.in-Some.place was.next was.otherwise _ c.in_ok-record.record c.in-Catches.filter was.invariant.chain c.in-Some.is (omega (arith, c.loop-test.true)) c.in_ok-record.ensures c.in-Catches.is

pub returns-then-not-leads_on : goal.returns-then-not-leads_on
returns-then-not-leads_on c =
    let was = c.loop in
    let fits : SFits w64 c.in-Passes.displacement = search rules in
    let is = to_z-of_z w64 c.in-Passes.displacement fits in
    let ends : leads_on c.in-Passes.displacement ≡ false = ap leads_on (sym is) ∙ (sym c.leads_on.ensures ∙ c.if-not-leads_on.true) in
    ends_at c.args.self.now c.args.pad was.counter was.before c.in-Some.place was.next was.otherwise _ _ c.in_ok-record.record c.in-Passes.filter c.in-Passes.at c.in-Passes.displacement was.invariant.chain c.in-Some.is (omega (arith, c.loop-test.true)) c.in_ok-record.ensures c.in-Passes.is ends c.after_filter-otherwise.ensures

pub loop-preserved : goal.loop-preserved
loop-preserved c =
    let was = c.loop in
    let fits : SFits w64 c.in-Passes.displacement = search rules in
    let is = to_z-of_z w64 c.in-Passes.displacement fits in
    let leads : leads_on c.in-Passes.displacement ≡ true = ap leads_on (sym is) ∙ (sym c.leads_on.ensures ∙ c.if-not-leads_on.false) in
    let place = c.next_place-next.ensures.place ∙ ap (λ (z : ℤ). place_among (length c.args.self.now.bytes) (pos c.in-Passes.at +ℤ z)) is in
    record {
      within = c.next_place-next.ensures.within;
      chain =
          goes_on_at c.args.self.now c.args.pad was.counter was.before c.in-Some.place was.next was.otherwise _ _ c.in_ok-record.record c.in-Passes.filter c.in-Passes.at c.in-Passes.displacement _ was.invariant.chain c.in-Some.is (omega (arith, c.loop-test.true)) c.in_ok-record.ensures c.in-Passes.is leads c.after_filter-otherwise.ensures place;
    }

pub returns : goal.returns
returns c =
    let was = c.loop in
    sym (at_end c.args.self.now c.args.pad was.counter was.before was.next was.otherwise _ was.invariant.chain (λ lt. absurd (omega (arith, lt, c.loop-test.false))))
