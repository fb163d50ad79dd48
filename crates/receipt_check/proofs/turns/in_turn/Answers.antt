use Rattle.std.proofs.Common.{rules}
use Rattle.std.proofs.lemmas.List.Sorted.{IsNonDecreasingBy-from_sort_by_key}
use Rattle.receipt_check.proofs.InTurn.{turns_sorted}
use Rattle.receipt_check.proofs.turns.in_turn.Goals as goal

pub returns : goal.returns
returns c = turns_sorted c.args.told.now c.in_ok-turns.turns.items c.sort_unstable_by_key.new.self.items c.in_ok-turns.ensures c.sort_unstable_by_key.ensures.permutation (IsNonDecreasingBy-from_sort_by_key (λ t. t.before) _ c.sort_unstable_by_key.ensures.sorted (λ a r q k. search rules))
