use Rattle.std.proofs.Common.{ℕ, List, [], ◌∷◌, ◌++◌, take, get_or, ap, sym, ◌∙◌, take_all, arith}
use Rattle.std.proofs.lemmas.List.{take_more}
use Rattle.event_script.proofs.reader.events.after_word.Goals as goal

pub loop-index-preserved : goal.loop-index-preserved
loop-index-preserved c =
    let i = c.loop-index.index in
    let first = c.split_at.result.0.now in
    let word = c.args.word.now in
    take_more first i 0 (omega (arith, c.split_at.ensures.front_len, c.loop-index-test.true))
    ∙ ap (λ (x : List ℕ). x ++ get_or first i 0 ∷ []) c.loop-index.invariant
    ∙ ap (λ (b : ℕ). take i word ++ b ∷ []) c.if-first-index.false
    ∙ sym (take_more word i 0 c.loop-index-test.true)

pub returns : goal.returns
returns c =
    let i = c.loop-index.index in
    let first = c.split_at.result.0.now in
    let word = c.args.word.now in
    c.split_at.ensures.by_index.0
    ∙ ap (λ (front : List ℕ). front ++ c.split_at.result.1.now)
    (sym (take_all i first (omega (arith, c.split_at.ensures.front_len, c.loop-index-test.false, c.loop-index.auto.index-end)))
    ∙ c.loop-index.invariant ∙ take_all i word (omega (arith, c.loop-index-test.false)))
