use Rattle.std.proofs.Common.{◌≡◌, ◌⊎◌, ◌+◌, ◌-◌, ◌*◌, ◌<◌, ℕ, List, length, map, ap, ap₂, subst, sym, ◌∙◌, arith}
use Rattle.std.specs.List.{AllByRecursion}
use Rattle.reg_model.specs.SpanData.{SpanData, IsSpan}
use Rattle.reg_model.specs.declared.span.Member.{Member}
use Rattle.segment_array.specs.Ascending.{AscendFrom}
use Rattle.word_rule.specs.declared.log.Terms.{Terms}
use Rattle.script_text.specs.Lawful.{image_member}
use Rattle.script_text.specs.declared.script.Event.{Event}
use Rattle.run_engine.specs.Nodes.{callers_asked, members_asked}
use Rattle.run_engine.proofs.NodeCounts.{rounds_are_few}
use Rattle.run_engine.proofs.Opening.{fixed_ascend, fixed_known}
use Rattle.run_engine.proofs.scripts.play_kept.Goals as goal

pub new-requires-clause-ascending : goal.new-requires-clause-ascending
new-requires-clause-ascending g c =
    let images = c.script.inside.images.items in
    let numbers = c.script.inside.fixed.items in
    let fixed = c.in_ok-fixed.ensures ∙ ap₂ (λ (images : List SpanData) (numbers : List ℕ). map (image_member images) numbers) c.deref.ensures.value c.deref-2.ensures.value in
    subst (AscendFrom 0) (sym fixed) (fixed_ascend images c.script.invariant.images.1 numbers c.script.invariant.fixed)

pub new-requires-clause-members : goal.new-requires-clause-members
new-requires-clause-members g c =
    let images = c.script.inside.images.items in
    let numbers = c.script.inside.fixed.items in
    let fixed = c.in_ok-fixed.ensures ∙ ap₂ (λ (images : List SpanData) (numbers : List ℕ). map (image_member images) numbers) c.deref.ensures.value c.deref-2.ensures.value in
    let count : c.len-images.result ≡ length images = (let n = c.len-images.ensures in omega (arith, n, c.script.inside.images.ok.0)) in
    let P : ℕ → Type 0 = λ n. AllByRecursion (λ (m : Member). IsSpan m.span × (m.payload < n)) c.in_ok-fixed.fixed.items in
    let Q : List Member → Type 0 = λ members. AllByRecursion (λ (m : Member). IsSpan m.span × (m.payload < length images)) members in
    subst P (sym count) (subst Q (sym fixed) (fixed_known images c.script.invariant.images.1 numbers c.script.invariant.fixed))

pub nodes_for-nodes-requires : goal.nodes_for-nodes-requires
nodes_for-nodes-requires g c =
    let rounds = c.script.invariant.rounds in
    rw c.deref-3.ensures.value (record {
      nodes = c.script.invariant.nodes;
      few = (rounds.0, rounds_are_few _ c.script.inside.rounds.items rounds.1);
    })

pub new-requires-clause-nodes : goal.new-requires-clause-nodes
new-requires-clause-nodes g c =
    let bounds = c.nodes_for-nodes.ensures.bounds in
    let most = c.script.invariant.nodes.1 in
    (bounds.0, (let within = bounds.1 in omega (arith, within, most)))

pub run_kept-requires-clause-nodes : goal.run_kept-requires-clause-nodes
run_kept-requires-clause-nodes g c κs outlive =
    let images = c.script.inside.images.items in
    let nodes : c.in_ok-registry.registry.terms.nodes ≡ c.nodes_for-nodes.result = ap (λ (t : Terms). t.nodes) c.in_ok-registry.ensures.terms in
    let count : c.len-images.result ≡ length images = (let n = c.len-images.ensures in omega (arith, n, c.script.inside.images.ok.0)) in
    let P : List (List (List Event)) → ℕ → Type 0 = λ rounds n. (c.nodes_for-nodes.result ≡ c.script.inside.nodes) ⊎ (members_asked rounds n + 2 < 2 * (c.nodes_for-nodes.result - 4 * callers_asked rounds)) in
    rw (← c.script.view_is, nodes) (subst (P c.script.inside.rounds.items) count (subst (λ rounds. P rounds c.len-images.result) c.deref-3.ensures.value c.nodes_for-nodes.ensures.enough))
