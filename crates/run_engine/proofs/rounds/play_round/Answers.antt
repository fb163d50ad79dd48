use Rattle.std.proofs.Common.{◌∙◌}
use Rattle.run_engine.proofs.Teams.{given_room, round_left, split_table, team_manned}
use Rattle.run_engine.proofs.rounds.play_round.Goals as goal

pub split_each-requires-clause-gives : goal.split_each-requires-clause-gives
split_each-requires-clause-gives g c =
    rw c.deref.ensures.value (given_room _ c.args.round.threads.now c.in_ok-gives.gives.items _ c.requires.round c.in_ok-gives.ensures c.requires.left)

pub play_threads-requires-clause-manned : goal.play_threads-requires-clause-manned
play_threads-requires-clause-manned g c κs within =
    team_manned c.split_callers_are_new.ensures _ _ c.args.me.now c.args.round.threads.now c.deref.result.now c.in_ok-callers.callers.items c.requires.ready (c.deref.ensures.value ∙ c.in_ok-gives.ensures) c.in_ok-callers.ensures.callers

pub join_each-requires-clause-table : goal.join_each-requires-clause-table
join_each-requires-clause-table g c = split_table c.deref.result.now c.args.registry.now c.args.me.now c.split_each.new.me c.in_ok-callers.ensures.me c.requires.ready.table

pub returns-clause-left : goal.returns-clause-left
returns-clause-left g c =
    round_left _ c.args.round.threads.now c.args.me.now c.split_each.new.me c.join_each.new.me c.deref.result.now c.in_ok-played.played.callers.items c.requires.round (c.deref.ensures.value ∙ c.in_ok-gives.ensures) c.requires.left c.in_ok-callers.ensures.me c.in_ok-join_each.ensures.me
