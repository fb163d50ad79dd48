use Rattle.word_rule.specs.declared.log.Ask.TheVariants as ask
use Rattle.word_rule.proofs.words.Words.load_head.Given as goal

abbrev pub ghosts-load_head_for : goal.ghosts-load_head_for
ghosts-load_head_for a = record { ask = ask.Nothing; terms = a.self.now.terms }
