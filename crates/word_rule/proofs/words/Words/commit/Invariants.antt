use Rattle.word_rule.proofs.words.Words.commit.Given as goal

abbrev pub ghosts-commit_for : goal.ghosts-commit_for
ghosts-commit_for a = record { update = a.update }
