use Rattle.std.proofs.Common.{◌∷◌, ◌+◌, ◌∙◌, List, ap, map, take}
use Rattle.reg_model.specs.declared.span.Member.{Member}
use Rattle.frame_cache.specs.Recent.{cached_entries, in_slot}
use Rattle.frame_cache.specs.RecentData.{RecentData}
use Rattle.frame_cache.proofs.Seeking.{put_last, put_more}
use Rattle.frame_cache.proofs.recent.Recent.add.Goals as goal

pub returns-then-self-lt-MOST-clause-entries : goal.returns-then-self-lt-MOST-clause-entries
returns-then-self-lt-MOST-clause-entries c =
    ap (λ (members : List Member). map (in_slot members) (take (c.self.inside.used + 1) c.bring_last-slot.new.self)) c.put.ensures
    ∙ (put_more _ c.bring_last-slot.result c.args.member.now c.bring_last-slot.new.self c.self.invariant c.if-self-lt-MOST.true c.bring_last-slot.ensures.slot c.bring_last-slot.ensures.brought
    ∙ ap (λ (r : RecentData). take 8 (c.args.member.now ∷ cached_entries r)) c.self.view_is)

pub returns-else-self-lt-MOST-clause-entries : goal.returns-else-self-lt-MOST-clause-entries
returns-else-self-lt-MOST-clause-entries c =
    ap (λ (members : List Member). map (in_slot members) (take c.self.inside.used c.bring_last-slot.new.self)) c.put.ensures
    ∙ (put_last _ c.bring_last-slot.result c.args.member.now c.bring_last-slot.new.self c.self.invariant c.if-self-lt-MOST.false c.bring_last-slot.ensures.slot c.bring_last-slot.ensures.brought
    ∙ ap (λ (r : RecentData). take 8 (c.args.member.now ∷ cached_entries r)) c.self.view_is)
