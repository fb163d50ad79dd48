use Rattle.word_rule.proofs.words.Words.split.Given as goal

abbrev pub ghosts-split_seat : goal.ghosts-split_seat
ghosts-split_seat a = record { left = a.left; give = a.give }
