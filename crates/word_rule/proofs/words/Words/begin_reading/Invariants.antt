use Rattle.word_rule.specs.declared.log.Ask.TheVariants as ask
use Rattle.word_rule.proofs.words.Words.begin_reading.Given as goal

abbrev pub ghosts-begin_sight_for : goal.ghosts-begin_sight_for
ghosts-begin_sight_for a = record { node = a.node; at = 0; ask = ask.Nothing; terms = a.self.now.terms }
