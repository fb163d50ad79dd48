use Rattle.std.proofs.Common.{◌∙◌, sym, ap, true≢false}
use Rattle.tree_shape.proofs.Payloads.{same_span_decides}
use Rattle.tree_shape.specs.NodeData.{entries_of, place_for}
use Rattle.leaf_change.proofs.Spanned.{none_spanned, one_spanned, other_spanned}
use Rattle.leaf_change.proofs.replacing.entry_with.Goals as goal

pub returns-then-begun-eq0-clause-entry : goal.returns-then-begun-eq0-clause-entry
returns-then-begun-eq0-clause-entry c =
    let s = c.args.leaf.now.content in
    sym (none_spanned c.args.span.now s c.requires.leaf c.requires.ordered (sym c.if-begun-eq0.true ∙ (c.begun_in-begun.ensures.begun ∙ ap (λ b. place_for b (entries_of s)) c.first.ensures.value)))

pub returns-then-eq-clause-entry : goal.returns-then-eq-clause-entry
returns-then-eq-clause-entry c =
    let s = c.args.leaf.now.content in
    sym (one_spanned c.args.span.now c.begun_in-begun.result s c.entry_of-entry.result c.requires.leaf c.requires.ordered c.if-begun-eq0.false (c.begun_in-begun.ensures.begun ∙ ap (λ b. place_for b (entries_of s)) c.first.ensures.value) c.entry_of-entry.ensures.entry ((same_span_decides c.entry_of-entry.result.span c.args.span.now).0 (sym c.eq.ensures ∙ c.if-eq.true)))

pub returns-else-eq-clause-entry : goal.returns-else-eq-clause-entry
returns-else-eq-clause-entry c =
    let s = c.args.leaf.now.content in
    sym (other_spanned c.args.span.now c.begun_in-begun.result s c.entry_of-entry.result c.requires.leaf c.requires.ordered (c.begun_in-begun.ensures.begun ∙ ap (λ b. place_for b (entries_of s)) c.first.ensures.value) c.entry_of-entry.ensures.entry (λ e. true≢false (sym ((same_span_decides c.entry_of-entry.result.span c.args.span.now).1 e) ∙ (sym c.eq.ensures ∙ c.if-eq.false))))
