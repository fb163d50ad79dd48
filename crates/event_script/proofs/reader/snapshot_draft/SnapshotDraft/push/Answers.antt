use Rattle.std.proofs.Common.{◌≡◌, ◌+◌, length, ap, ◌∙◌, arith}
use Rattle.script_text.specs.ScriptData.{recorded_bytes}
use Rattle.event_script.proofs.Recorded.{recorded_push}
use Rattle.event_script.proofs.reader.snapshot_draft.SnapshotDraft.push.Goals as goal

pub invariant_of-self-2 : goal.invariant_of-self-2
invariant_of-self-2 c =
    let memory = c.self.inside.memory in
    let bytes = c.region.inside.bytes.items in
    let recorded : recorded_bytes c.push_region.new.self ≡ recorded_bytes memory + length bytes =
    ap recorded_bytes c.in-Ok.ensures.ok ∙ recorded_push memory _ ∙ ap (λ x. recorded_bytes memory + length x) c.deref.ensures.value in
    (omega (arith, recorded), omega (arith, recorded))
