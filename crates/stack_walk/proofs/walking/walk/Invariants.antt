use Rattle.std.proofs.Common.{◌≡◌, ◌-◌, ◌<◌, drop, length, map, take}
use Rattle.stack_walk.proofs.Lines.{LeadsOn}
use Rattle.stack_walk.proofs.walking.walk.Given as goal

-- the lines so far are written, and lead from the first frame to the one that comes now
abbrev pub invariant-frames : goal.invariant-frames
invariant-frames g l = record {
  room : l.count < length l.lines;
  same : length l.lines ≡ length l.fn.lines;
  others : drop l.count l.lines ≡ drop l.count l.fn.lines;
  leads : LeadsOn (g.N.ModuleList.modules l.modules) (g.M.WordSource.regions l.memory) l.fn.frame (map g.L.WalkLine.shown (take l.count l.lines)) l.frame;
}

abbrev pub decreases-frames : goal.decreases-frames
decreases-frames g l = length l.lines - l.count
