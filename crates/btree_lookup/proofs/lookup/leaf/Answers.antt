use Rattle.std.proofs.Common.{sym, subst, ◌∙◌}
use Rattle.btree_lookup.specs.Tries.{EndsAgain}
use Rattle.btree_lookup.proofs.Answering.{leaf_alone, leaf_changed, leaf_entry, leaf_found, terms}
use Rattle.btree_lookup.proofs.lookup.leaf.Goals as goal

pub returns-then-second-visit-clause-tries : goal.returns-then-second-visit-clause-tries
returns-then-second-visit-clause-tries g c k bottom way =
    subst (λ a. EndsAgain c.args.words.now.terms c.args.pc k a (g.L.Looker.known c.load_version-second.new.self)) (sym c.changed.ensures)
    (leaf_changed c.args.words.now.terms c.args.pc k c.args.visit bottom c.entry_at-entry.result (g.L.Looker.known c.entry_at-entry.new.me) (c.entry_at-entry.ensures.entry k bottom way) c.load_clock-clock.result (g.L.Looker.known c.load_clock-clock.new.self) c.load_clock-clock.ensures.log c.load_clock-clock.ensures.rest
    c.load_version-second.result (g.L.Looker.known c.load_version-second.new.self) c.load_version-second.ensures.log (λ e. c.if-second-visit.true (sym e)))

pub returns-then-second-visit-clause-alone : goal.returns-then-second-visit-clause-alone
returns-then-second-visit-clause-alone g c k bottom way alone =
    absurd (c.if-second-visit.true (sym (leaf_alone c.args.words.now.terms c.args.pc k c.args.visit bottom c.entry_at-entry.result (g.L.Looker.known c.entry_at-entry.new.me) (c.entry_at-entry.ensures.entry k bottom way) c.load_clock-clock.result (g.L.Looker.known c.load_clock-clock.new.self) c.load_clock-clock.ensures.log c.load_clock-clock.ensures.rest
    c.load_version-second.result alone c.load_version-second.ensures.alone)))

pub returns-clause-tries : goal.returns-clause-tries
returns-clause-tries g c k bottom way =
    let w = c.entry_at-entry.ensures.entry k bottom way in
    leaf_found c.args.words.now.terms c.args.pc k c.args.visit bottom c.entry_at-entry.result (g.L.Looker.known c.entry_at-entry.new.me) w c.load_clock-clock.result (g.L.Looker.known c.load_clock-clock.new.self) c.load_clock-clock.ensures.log c.load_clock-clock.ensures.rest
    c.load_version-second.result (g.L.Looker.known c.load_version-second.new.self) c.load_version-second.ensures.log c.if-second-visit.false c.load_version-second.ensures.tells c.answer.result
    (c.answer.ensures.member (leaf_entry c.args.words.now.terms c.args.pc k c.args.visit bottom c.entry_at-entry.result (g.L.Looker.known c.entry_at-entry.new.me) w c.load_clock-clock.result (g.L.Looker.known c.load_clock-clock.new.self) c.load_clock-clock.ensures.log c.load_clock-clock.ensures.rest
    c.load_version-second.result (g.L.Looker.known c.load_version-second.new.self) c.load_version-second.ensures.log c.if-second-visit.false c.load_version-second.ensures.tells))
    (c.answer.ensures.stamp ∙ c.updates_at.ensures)

pub returns-clause-terms : goal.returns-clause-terms
returns-clause-terms g c k bottom way _ =
    terms c.args.words.now.terms c.args.pc k c.args.visit bottom c.entry_at-entry.result (g.L.Looker.known c.entry_at-entry.new.me) (c.entry_at-entry.ensures.entry k bottom way) c.load_clock-clock.result (g.L.Looker.known c.load_clock-clock.new.self) c.load_clock-clock.ensures.log c.load_clock-clock.ensures.rest
    c.load_version-second.result (g.L.Looker.known c.load_version-second.new.self) c.load_version-second.ensures.log c.if-second-visit.false c.load_version-second.ensures.tells
