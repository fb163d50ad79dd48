use Rattle.word_rule.proofs.words.Words.publish.Given as goal

abbrev pub ghosts-publish_for : goal.ghosts-publish_for
ghosts-publish_for a = record { update = a.update }
