-- The terms, as the table's key has them.
use Rattle.word_rule.specs.declared.rule.Made.{Made}
use Rattle.word_rule.specs.declared.log.Terms.{Terms}

abbrev pub terms_of : Made → Terms
terms_of m = record {
  nodes = m.nodes;
  loads = m.loads;
  payloads = m.payloads;
  fixed = m.fixed.items;
}
