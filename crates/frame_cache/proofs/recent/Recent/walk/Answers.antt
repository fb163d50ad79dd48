use Rattle.std.proofs.Common.{sym, subst, ap, ◌∙◌, arith}
use Rattle.frame_cache.specs.RecentData.{IsRecent, RecentData}
use Rattle.frame_cache.proofs.Seeking.{entry_place, passed_one, seek_known, seek_unknown}
use Rattle.frame_cache.proofs.recent.Recent.walk.Goals as goal

pub get-entry-requires : goal.get-entry-requires
get-entry-requires c = entry_place _ _ c.loop-place.place c.self.view_is c.self.invariant c.loop-place-test.true

pub returns-then-holds : goal.returns-then-holds
returns-then-holds c =
    seek_known c.args.pc c.args.self.now c.loop-place.place c.get-entry.result (entry_place _ _ c.loop-place.place c.self.view_is c.self.invariant c.loop-place-test.true) c.loop-place.invariant c.get-entry.ensures (sym c.holds.ensures ∙ c.if-holds.true)

pub loop-place-preserved : goal.loop-place-preserved
loop-place-preserved c = passed_one c.args.pc c.args.self.now c.loop-place.place c.get-entry.result c.loop-place.invariant c.get-entry.ensures (sym c.holds.ensures ∙ c.if-holds.false)

pub returns : goal.returns
returns c =
    let is : IsRecent c.args.self.now = subst IsRecent c.self.view_is c.self.invariant in
    let all = c.loop-place-test.false in
    let used = ap (λ (r : RecentData). r.used) c.self.view_is in
    seek_unknown c.args.pc c.args.self.now c.loop-place.place is (omega (arith, all, used)) c.loop-place.invariant
