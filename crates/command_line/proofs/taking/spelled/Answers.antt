use Rattle.std.proofs.Common.{◌≡◌, ap, ◌∙◌, sym, codes, arith, length}
use Rattle.std.specs.String.{string_bytes}
use Rattle.std.specs.Str.{bytes_eq}
use Rattle.std.proofs.lemmas.Bool.{false≢true}
use Rattle.std.proofs.lemmas.Slice.Eq.{bytes_eq-Decides}
use Rattle.command_line.proofs.Words.{one_word, two_words, generated_is, other_number}
use Rattle.command_line.proofs.taking.spelled.Goals as goal

pub returns-in-len1 : goal.returns-in-len1
returns-in-len1 c =
    let same : c.eq.result ≡ bytes_eq (string_bytes c.word-item.result) (codes "run") = c.eq.ensures ∙ ap (λ bytes. bytes_eq bytes c.as_slice.result.now) c.as_bytes.ensures.value ∙ ap (λ word. bytes_eq (string_bytes c.word-item.result) word) c.as_slice.ensures in
    one_word string_bytes c.args.words.now c.word-item.result (codes "run") (let least = c.in-len1.len_at_least in let below = c.in-len1.len_below in omega arith) c.word-item.is
    ((bytes_eq-Decides (string_bytes c.word-item.result) (codes "run")).0 (sym same ∙ c.if-eq.true))

pub returns-in-len2 : goal.returns-in-len2
returns-in-len2 c =
    let name = string_bytes c.name-item.result in
    let same : c.eq-then-words-lt3.result ≡ bytes_eq name (codes "gen") = c.eq-then-words-lt3.ensures ∙ ap (λ bytes. bytes_eq bytes c.as_slice-then-words-lt3.result.now) c.as_bytes-then-words-lt3.ensures.value ∙ ap (λ word. bytes_eq name word) c.as_slice-then-words-lt3.ensures in
    let two : length c.args.words.now ≡ 2 = (let least = c.in-len2.len_at_least in let below = c.in-len2.len_below in omega arith) in
    let words = two_words string_bytes c.args.words.now c.name-item.result c.word-item-then-words-lt3.result (codes "gen") two c.name-item.is c.word-item-then-words-lt3.is ((bytes_eq-Decides name (codes "gen")).0 (sym same ∙ c.if-eq-2.true)) in
    let line = rw c.as_bytes-in-len2.ensures.value at c.generated.ensures in
    generated_is _ _ c.args.asked _ words line

pub returns-in_default-words-2 : goal.returns-in_default-words-2
returns-in_default-words-2 c = λ read taken.
    let name = string_bytes c.name-item.result in
    let word = string_bytes c.word-item-then-words-lt3.result in
    let same : c.eq-then-words-lt3.result ≡ bytes_eq name (codes "gen") = c.eq-then-words-lt3.ensures ∙ ap (λ bytes. bytes_eq bytes c.as_slice-then-words-lt3.result.now) c.as_bytes-then-words-lt3.ensures.value ∙ ap (λ word. bytes_eq name word) c.as_slice-then-words-lt3.ensures in
    let two : length c.args.words.now ≡ 2 = (let least = c.in-len2.len_at_least in let below = c.in-len2.len_below in omega arith) in
    let number = c.in-Generate.number.now in
    let equal : c.eq-then-eq-2.result ≡ bytes_eq word number = c.eq-then-eq-2.ensures ∙ ap (λ bytes. bytes_eq bytes c.as_bytes-then-eq-2-2.result.now) c.as_bytes-then-eq-2.ensures.value ∙ ap (λ bytes. bytes_eq word bytes) c.as_bytes-then-eq-2-2.ensures.value in
    let other : ¬ (word ≡ number) = λ is. false≢true (sym c.if-eq-3.false ∙ equal ∙ (bytes_eq-Decides word number).1 is) in
    other_number string_bytes c.args.words.now c.name-item.result c.word-item-then-words-lt3.result number two c.name-item.is c.word-item-then-words-lt3.is ((bytes_eq-Decides name (codes "gen")).0 (sym same ∙ c.if-eq-2.true)) other
    (rw c.in-Generate.is at read)
