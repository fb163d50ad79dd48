use Rattle.word_rule.proofs.words.Words.read_version.Given as goal

abbrev pub ghosts-load_version_for : goal.ghosts-load_version_for
ghosts-load_version_for a = record { node = a.node; at = 0; ask = a.ask; terms = a.self.now.terms }
