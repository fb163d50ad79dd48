use Rattle.word_rule.specs.declared.log.Ask.TheVariants as ask
use Rattle.word_rule.proofs.words.Words.lock_seen.Given as goal

abbrev pub ghosts-lock_seen_for : goal.ghosts-lock_seen_for
ghosts-lock_seen_for a = record { node = a.node; at = 0; ask = ask.Nothing; terms = a.self.now.terms }
