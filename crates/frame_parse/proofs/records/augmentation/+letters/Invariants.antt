use Rattle.std.proofs.Common.{length}
use Rattle.frame_parse.proofs.records.augmentation.+letters.Given as goal

abbrev pub decreases-letters : goal.decreases-letters
decreases-letters l = length l.text.now
