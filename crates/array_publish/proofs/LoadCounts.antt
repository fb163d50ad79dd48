-- How many loads a lookup makes.
use Rattle.std.proofs.Common.{◌≡◌, ℕ, ◌+◌, [], ◌∷◌, length, length-append, ap, ◌∙◌}
use Rattle.word_rule.specs.CallerData.{CallerData}
use Rattle.word_rule.specs.Clock.{AfterClock}
use Rattle.word_rule.specs.Logs.{load_of}
use Rattle.word_rule.specs.Places.{CLOCK}
use Rattle.word_rule.specs.Sights.{after_copy_load}
use Rattle.word_rule.specs.declared.log.Ask.{Ask}
use Rattle.word_rule.specs.declared.log.Terms.{Terms}
use Rattle.array_publish.specs.CopyLoads.{load_count}

pub word_counted : (k k' : CallerData) (at found : ℕ) → k' ≡ record k { log = after_copy_load at found k.log } → load_count k' ≡ load_count k + 1
word_counted k k' at found e = ap load_count e ∙ length-append k.log.trace.loads (load_of k.log at found ∷ [])

pub clock_counted : (t : Terms) (a : Ask) (found : ℕ) (k k' : CallerData) → AfterClock t a found k.log k'.log → load_count k' ≡ load_count k + 1
clock_counted t a found k k' after = ap (λ v. length v.trace.loads) after.2.2 ∙ length-append k.log.trace.loads (load_of k.log CLOCK found ∷ [])
