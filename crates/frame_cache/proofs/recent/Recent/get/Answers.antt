use Rattle.std.proofs.Common.{◌<◌, length, ap, sym, subst, ◌∙◌}
use Rattle.frame_cache.specs.Recent.{cached_entries, cached_entry}
use Rattle.frame_cache.specs.RecentData.{RecentData}
use Rattle.frame_cache.proofs.Seeking.{entry_got, place_low}
use Rattle.frame_cache.proofs.recent.Recent.get.Goals as goal

pub at-requires : goal.at-requires
at-requires c = place_low _ _ c.args.place c.self.view_is c.self.invariant c.requires

pub returns : goal.returns
returns c =
    entry_got _ c.args.place c.at.result c.get.result c.self.invariant (subst (λ (r : RecentData). c.args.place < length (cached_entries r)) (sym c.self.view_is) c.requires) c.at.ensures.slot c.get.ensures
    ∙ ap (cached_entry c.args.place) c.self.view_is
