use Rattle.std.proofs.Common.{◌≡◌, ℕ, subst, ap, ◌∙◌}
use Rattle.std.specs.Global.{Vec}
use Rattle.script_text.specs.ScriptData.{ScriptData}
use Rattle.script_text.specs.Spelling.{script_text}
use Rattle.script_text.proofs.Spelled.{first_three, all_lines}
use Rattle.script_text.proofs.print.script.print_script.Goals as goal

pub returns : goal.returns
returns c =
    let script = c.script.inside in
    let begun = first_three script.version script.nodes script.loads _ _ _ _ c.new-text.ensures.bytes c.in_ok-put_number.ensures c.in_ok-put_number-2.ensures c.in_ok-put_number-3.ensures in
    let whole : ScriptData = record { version = script.version; nodes = script.nodes; loads = script.loads; images = script.images.items; sections = script.sections.items; fixed = script.fixed.items; snapshots = script.snapshots.items; rounds = script.rounds.items } in
    let text = all_lines whole _ _ _ _ _ _ _ _ _ _ _ c.deref.ensures.value c.deref-2.ensures.value c.deref-3.ensures.value c.deref-4.ensures.value c.deref-5.ensures.value begun c.in_ok-put_images.ensures c.in_ok-put_fixed.ensures c.in_ok-put_snapshots.ensures c.in_ok-put_rounds.ensures c.in_ok-push_str.ensures.bytes in
    record { text = subst (λ (s : ScriptData). c.into_bytes.result.items ≡ script_text s) c.script.view_is (ap (λ (v : Vec ℕ). v.items) c.into_bytes.ensures.value ∙ text) }
