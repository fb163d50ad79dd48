-- Shares: the first caller has the whole, and whoever has the whole is alone.
use Rattle.std.specs.Prelude.{ℕ, ◌+◌, ◌-◌, ◌/◌, ◌^◌, nat_le, if◌then◌else◌}
use Rattle.word_rule.specs.declared.log.Lineage.{Lineage}

-- the shares of all callers and notes together
abbrev pub WHOLE : ℕ
WHOLE = 2 ^ 127

-- What is given away of an amount: a small part of a large one, else a half, rounded down.
abbrev pub part_of : ℕ → ℕ
part_of amount = if nat_le (2 ^ 40) amount then amount / 2 ^ 20 else amount / 2

-- what the first caller has
abbrev pub whole_lineage : Lineage
whole_lineage = record { share = WHOLE }

-- one that forked off a caller or a note, and the one that was forked off
abbrev pub after_fork : Lineage → Lineage
after_fork l = record { share = l.share - part_of l.share }

abbrev pub forked_lineage : Lineage → Lineage
forked_lineage l = record { share = part_of l.share }

-- one after another was joined or learnt into it
abbrev pub joined_lineage : Lineage → Lineage → Lineage
joined_lineage l other = record { share = l.share + other.share }
