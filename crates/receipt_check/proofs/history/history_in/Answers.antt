use Rattle.std.proofs.Common.{◌≡◌, ◌+◌, ◌++◌, List, length, get_or, Option, None, sym, ◌∙◌, ap, arith}
use Rattle.std.specs.Option.{option_to_list}
use Rattle.std.proofs.lemmas.List.{get_or_read}
use Rattle.reg_model.specs.Numbers.{history_of}
use Rattle.reg_model.specs.declared.answer.Update.{Update}
use Rattle.receipt_check.specs.Flaws.{told_receipts}
use Rattle.receipt_check.specs.Sweep.{first_numbered}
use Rattle.receipt_check.proofs.ByNumber.{history_more}
use Rattle.receipt_check.proofs.history.history_in.Goals as goal

pub loop-place-preserved : goal.loop-place-preserved
loop-place-preserved c =
    let rs = told_receipts c.args.told.now in
    let i = c.loop-place.place-index in
    let places = c.in_ok-places.places.items in
    let are = c.in_ok-places.ensures in
    let value = c.deref-place-items.ensures.value in
    let within = rw value at c.loop-place-test.true in
    let item : c.place-item.result ≡ get_or places i None = get_or_read places i c.place-item.result within (rw value at c.place-item.is) None in
    let many = are.many in
    let first : c.place-item.result ≡ first_numbered (i + 1) rs = item ∙ are.each i (omega arith) in
    c.in_ok-add.ensures ∙ ap (λ (h : List Update). h ++ option_to_list c.place-item.result) c.loop-place.invariant ∙ ap (λ (p : Option Update). history_of rs i ++ option_to_list p) first ∙ sym (history_more rs i)

pub returns : goal.returns
returns c =
    let rs = told_receipts c.args.told.now in
    let are = c.in_ok-places.ensures in
    let many = are.many in
    let value : length c.deref-place-items.result.now ≡ length c.in_ok-places.places.items = ap length c.deref-place-items.ensures.value in
    let end : c.loop-place.place-index ≡ c.args.updates = (let past = c.loop-place-test.false in let up = c.loop-place.auto.place-index-end in omega arith) in
    c.loop-place.invariant ∙ ap (history_of rs) end
