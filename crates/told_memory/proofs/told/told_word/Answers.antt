use Rattle.std.proofs.Common.{◌≡◌, ◌<◌, ◌≤◌, ◌^◌, ◌+◌, ℕ, add-one, length, List, ◌∷◌, drop, map, get_or, sym, ap, ◌∙◌, arith, length-drop, Some}
use Rattle.std.proofs.Math.Seq.{drop-cons}
use Rattle.frame_expr.specs.Regions.{word_at}
use Rattle.told_memory.specs.Telling.{told_region}
use Rattle.told_memory.specs.declared.told.ToldWord.{ToldWord}
use Rattle.told_memory.proofs.ToldWords.{none_told, told_elsewhere, told_there}
use Rattle.told_memory.proofs.told.told_word.Goals as goal

abbrev nothing : ToldWord
nothing = record { address = 0; word = 0 }

-- the words that are left, at the one that is looked at
left_at : (ws : List ToldWord) (i : ℕ) → i < length ws → drop i ws ≡ get_or ws i nothing ∷ drop (i + 1) ws
left_at ws i lt = rw add-one (drop-cons ws i nothing lt)

pub returns-then-told-address : goal.returns-then-told-address
returns-then-told-address c =
    let ws = c.args.words.now in
    let w : ToldWord = get_or ws c.loop-told.told-index nothing in
    let left = left_at ws c.loop-told.told-index (omega (arith, c.loop-told-test.true)) in
    let fits : w.word < 2 ^ 64 = omega (arith, c.number.ensures, c.number.type_inv) in
    let here = told_there c.args.address w (drop (c.loop-told.told-index + 1) ws) fits c.if-told-address.true in
    ap Some c.number.ensures ∙ sym (sym c.loop-told.invariant ∙ ap (λ (xs : List ToldWord). word_at c.args.address (map told_region xs)) left ∙ here)

pub loop-told-preserved : goal.loop-told-preserved
loop-told-preserved c =
    let ws = c.args.words.now in
    let w : ToldWord = get_or ws c.loop-told.told-index nothing in
    let left = left_at ws c.loop-told.told-index (omega (arith, c.loop-told-test.true)) in
    sym (told_elsewhere c.args.address w (drop (c.loop-told.told-index + 1) ws) c.if-told-address.false) ∙ ap (λ (xs : List ToldWord). word_at c.args.address (map told_region xs)) (sym left) ∙ c.loop-told.invariant

pub returns : goal.returns
returns c =
    let index = c.loop-told.told-index in
    let few : length (drop index c.args.words.now) ≤ 0 = omega (arith, length-drop index c.args.words.now, c.loop-told-test.false) in
    sym (none_told c.args.address (drop index c.args.words.now) few) ∙ c.loop-told.invariant
