use Rattle.word_rule.proofs.words.Words.read_clock.Given as goal

abbrev pub ghosts-load_clock_for : goal.ghosts-load_clock_for
ghosts-load_clock_for a = record { ask = a.ask; terms = a.self.now.terms }
