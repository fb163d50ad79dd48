use Rattle.std.proofs.Common.{◌≡◌, ◌++◌, OnOk, subst}
use Rattle.std.proofs.lemmas.Result.{on_ok_weaker}
use Rattle.std.specs.String.{string_bytes}
use Rattle.script_text.specs.ScriptData.{SnapshotData}
use Rattle.script_text.specs.Spelling.{statements_text, snapshot_lines}
use Rattle.script_text.proofs.Spelled.{snapshot_line_is}
use Rattle.script_text.proofs.print.script.put_snapshot.Goals as goal

pub returns : goal.returns
returns c =
    subst (λ (s : SnapshotData). OnOk c.put_memory.result (string_bytes c.put_memory.new.text ≡ string_bytes c.args.text.now ++ statements_text (snapshot_lines c.args.number s))) c.snapshot.view_is
    (on_ok_weaker c.put_memory.result (λ more.
    snapshot_line_is c.args.number c.snapshot.inside.regs _ _ _ _ _ c.snapshot.inside.memory c.in_ok-put_snapshot_number.ensures c.in_ok-put_columns.ensures c.in_ok-push_str.ensures.bytes more) c.put_memory.ensures)
