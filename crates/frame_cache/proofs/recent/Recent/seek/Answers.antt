use Rattle.std.proofs.Common.{◌≡◌, ◌<◌, ◌∙◌, length, sym, subst, ap, arith, None}
use Rattle.reg_model.specs.Query.{member_at}
use Rattle.frame_cache.specs.Recent.{cached_entries, cached_entry}
use Rattle.frame_cache.specs.RecentData.{IsRecent, RecentData}
use Rattle.frame_cache.proofs.Seeking.{entry_got, seek_known, seek_nowhere, used_is}
use Rattle.frame_cache.proofs.recent.Recent.seek.Goals as goal

pub returns-then-self-gt0 : goal.returns-then-self-gt0
returns-then-self-gt0 c =
    let is : IsRecent c.args.self.now = subst IsRecent c.self.view_is c.self.invariant in
    let some = c.if-self-gt0.true in
    let used = ap (λ (r : RecentData). r.used) c.self.view_is in
    let count = used_is c.args.self.now is in
    let within : 0 < length (cached_entries c.args.self.now) = omega (arith, some, used, count) in
    seek_known c.args.pc c.args.self.now 0 c.get-front.result within (λ i less. absurd (omega (arith, less)))
    (entry_got _ 0 c.at.result c.get-front.result c.self.invariant (subst (λ (r : RecentData). 0 < length (cached_entries r)) (sym c.self.view_is) within) c.at.ensures.slot c.get-front.ensures ∙ ap (cached_entry 0) c.self.view_is)
    (sym c.holds.ensures ∙ c.if-holds.true)

pub returns-else-may_hold : goal.returns-else-may_hold
returns-else-may_hold c = subst (λ (r : RecentData). member_at c.args.pc (cached_entries r) ≡ None) c.self.view_is (seek_nowhere c.args.pc _ c.self.invariant (c.may_hold.ensures c.if-may_hold.false))
