use Rattle.array_publish.proofs.Knowing.{behind, knows}
use Rattle.array_publish.proofs.update.active_copy.Goals as goal

pub returns-clause-knows : goal.returns-clause-knows
returns-clause-knows c =
    knows c.args.words.now c.args.me.now c.load_clock-clock.new.me c.active_word-count.new.me c.load_clock-clock.result c.active_word-count.result c.starts_of-starts.result c.starts_of-starts.ensures.copy c.starts_of-starts.ensures.starts c.requires.table c.requires.held
    c.load_clock-clock.ensures.log c.load_clock-clock.ensures.rest c.active_word-count.ensures.loads.same c.active_word-count.ensures.value

pub returns-clause-behind : goal.returns-clause-behind
returns-clause-behind c =
    behind c.args.words.now c.args.me.now c.load_clock-clock.new.me c.active_word-count.new.me c.load_clock-clock.result c.active_word-count.result c.starts_of-starts.result c.starts_of-starts.ensures.copy c.starts_of-starts.ensures.starts c.requires.table c.requires.held
    c.load_clock-clock.ensures.log c.load_clock-clock.ensures.rest c.active_word-count.ensures.loads.same c.active_word-count.ensures.value c.requires.clean
