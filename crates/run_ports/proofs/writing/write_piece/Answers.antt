use Rattle.std.proofs.Common.{◌≡◌, ℕ, drop, length, subst, sym, take, take-append-drop, take_all, arith}
use Rattle.std.proofs.lemmas.Result.{on_ok_weaker}
use Rattle.run_ports.specs.Ports.{Gains}
use Rattle.run_ports.proofs.Pieces.{gains_up_to, on_err_anyway}
use Rattle.run_ports.proofs.writing.write_piece.Goals as goal

pub returns-clause-ok : goal.returns-clause-ok
returns-clause-ok g c =
    let piece = c.args.piece.now in
    let at = c.hand_on.new.at in
    let P : ℕ → Type 0 = λ n. Gains (g.K.Sink.written c.args.sink.now) (g.K.Sink.written c.hand_on.new.sink) (take n piece) in
    let front : P at = gains_up_to _ _ at piece c.hand_on.ensures.handed.kept in
    on_ok_weaker c.hand_on.result (λ (all : at ≡ length piece). let whole : P (length piece) = subst P all front in rw (take_all (length piece) piece (omega arith)) at whole) c.hand_on.ensures.all

pub returns-clause-err : goal.returns-clause-err
returns-clause-err g c =
    let piece = c.args.piece.now in
    let at = c.hand_on.new.at in
    on_err_anyway c.hand_on.result (take at piece, drop at piece, sym (take-append-drop at piece), gains_up_to _ _ at piece c.hand_on.ensures.handed.kept)
