use Rattle.std.proofs.Common.{◌+◌, ◌<◌, ℕ, List, length, length-set, set, sym, refl, ap, ◌∙◌, subst, arith}
use Rattle.word_rule.specs.CallerData.{CallerData, WordsData}
use Rattle.word_rule.specs.Copies.{count_in}
use Rattle.word_rule.specs.Places.{segment_place}
use Rattle.array_publish.specs.Holders.{member_in, spare_words}
use Rattle.array_publish.specs.Writing.{HaveHeaders, with_header}
use Rattle.array_publish.proofs.Works.{written_next, written_none, spare_wide}
use Rattle.array_publish.proofs.Written.{header_apart, one_header}
use Rattle.array_publish.proofs.writing.write_headers.Goals as goal

pub loop-segment-init : goal.loop-segment-init
loop-segment-init c = record {
  work = written_none c.args.words.now c.args.starts.now.copy c.args.me.now c.requires.work.holder;
  headers = c.requires.below;
  members = λ i. refl;
}

pub loop-segment-preserved : goal.loop-segment-preserved
loop-segment-preserved c =
    let w : WordsData = c.args.words.now in
    let k0 : CallerData = c.args.me.now in
    let k : CallerData = c.loop-segment.me in
    let k1 : CallerData = c.store_header.new.me in
    let s : ℕ = c.loop-segment.segment in
    let n : ℕ = count_in c.args.count s in
    let words : List ℕ = spare_words k.log.loader in
    let inv = c.loop-segment.invariant in
    let wide = spare_wide w c.args.starts.now.copy k inv.work.holder in
    let one = written_next w c.args.starts.now.copy words (with_header s n words) k0 k k1 inv.work c.store_header.ensures (length-set (set words (segment_place s) s) (segment_place s + 1) n ∙ (length-set words (segment_place s) s ∙ wide)) in
    let room = c.requires.room in
    let upto = c.segments_for-segment-end.ensures in
    let less = c.loop-segment-test.true in
    let inside : segment_place s + 1 < length words = omega (arith, wide, room, less, upto) in record {
      work = record { spells = one.spells; holder = one.holder; active = one.active; spare = refl };
      headers = subst (λ ws. HaveHeaders ws c.args.count (s + 1)) (sym one.spare) (one_header c.args.count s words inside inv.headers);
      members = λ i. ap (λ ws. member_in ws i) one.spare ∙ (header_apart s n words i ∙ inv.members i);
    }

pub returns-clause-headers : goal.returns-clause-headers
returns-clause-headers c s less =
    let upto = c.segments_for-segment-end.ensures in
    let over = c.loop-segment-test.false in c.loop-segment.invariant.headers s (omega (arith, less, upto, over))
