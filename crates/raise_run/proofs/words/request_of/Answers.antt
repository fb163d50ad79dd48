use Rattle.std.proofs.Common.{◌≡◌, ap, ap₂, ◌∙◌, sym, length, arith}
use Rattle.std.specs.String.{string_bytes}
use Rattle.raise_run.specs.Words.{request_in, request_of}
use Rattle.raise_run.proofs.TwoWords.{two_words_are}
use Rattle.raise_run.proofs.words.request_of.Goals as goal

pub returns-in-len2 : goal.returns-in-len2
returns-in-len2 c =
    let two : length c.args.words.now ≡ 2 = (let least = c.in-len2.len_at_least in let below = c.in-len2.len_below in omega arith) in
    let words = two_words_are string_bytes c.args.words.now c.snapshot-item.result c.kind-item.result two c.snapshot-item.is c.kind-item.is in
    c.request_in.ensures ∙ ap₂ request_in c.as_bytes.ensures.value c.as_bytes-in-len2.ensures.value ∙ sym (ap request_of words)
