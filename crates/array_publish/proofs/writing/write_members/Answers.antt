use Rattle.std.proofs.Common.{◌≡◌, ◌+◌, ◌<◌, ℕ, List, length, sym, refl, ap, ◌∙◌, subst, arith}
use Rattle.word_rule.specs.CallerData.{CallerData, WordsData}
use Rattle.word_rule.specs.Places.{member_place}
use Rattle.reg_model.specs.declared.span.Member.{Member}
use Rattle.array_publish.specs.Holders.{Spells, active_words, spare_words}
use Rattle.array_publish.specs.Search.{listed_member}
use Rattle.array_publish.specs.Writing.{AreRightBeside, SameHeaders, changed_count, wanted, with_member}
use Rattle.array_publish.proofs.Rewriting.{all_right}
use Rattle.array_publish.proofs.Works.{written_next, written_none, spare_wide}
use Rattle.array_publish.proofs.Written.{member_apart, member_length, one_more}
use Rattle.array_publish.proofs.writing.write_members.Goals as goal

pub loop-index-init : goal.loop-index-init
loop-index-init c = record {
  work = written_none c.args.words.now c.args.active.now.starts.copy c.args.me.now c.requires.work.holder;
  members = c.requires.rest;
  headers = λ s. (refl, refl);
}

pub loop-index-preserved : goal.loop-index-preserved
loop-index-preserved c =
    let w : WordsData = c.args.words.now in
    let k0 : CallerData = c.args.me.now in
    let k : CallerData = c.loop-index.me in
    let k1 : CallerData = c.changed_listed-listed.new.me in
    let k2 : CallerData = c.store_listed.new.me in
    let i : ℕ = c.loop-index.index in
    let n : ℕ = changed_count c.args.change.now c.args.active.now.count in
    let m : Member = listed_member c.changed_listed-listed.result in
    let words : List ℕ = spare_words k.log.loader in
    let inv = c.loop-index.invariant in
    let wide = spare_wide w c.args.active.now.starts.copy k inv.work.holder in
    let one = written_next w c.args.active.now.starts.copy words words k0 k k1 inv.work c.changed_listed-listed.ensures.same wide in
    let stored = subst (λ ws. Spells (with_member i m ws) k1 k2) one.spare c.store_listed.ensures in
    let two = written_next w c.args.active.now.starts.copy words (with_member i m words) k0 k1 k2 one stored (member_length i m words ∙ wide) in
    let value : m ≡ wanted c.args.change.now (active_words k0.log.loader) i = c.changed_listed-listed.ensures.value ∙ ap (λ ws. wanted c.args.change.now ws i) inv.work.active in
    let room = c.requires.room in
    let less = c.loop-index-test.true in
    let few = c.requires.inside in
    let inside : member_place i + 2 < length words = omega (arith, wide, room, few, less) in record {
      work = record { spells = two.spells; holder = two.holder; active = two.active; spare = refl };
      members = subst (λ ws. AreRightBeside c.args.change.now (active_words k0.log.loader) ws n (record { from = i + 1; to = c.args.at.to })) (sym two.spare) (one_more c.args.change.now (active_words k0.log.loader) words n i c.args.at.to m inside inv.members value);
      headers = subst (SameHeaders (spare_words k0.log.loader)) (sym two.spare) (λ s. ((member_apart i m words s).0 ∙ (inv.headers s).0, (member_apart i m words s).1 ∙ (inv.headers s).1));
    }

pub returns-clause-members : goal.returns-clause-members
returns-clause-members c =
    let k0 : CallerData = c.args.me.now in
    let over = c.loop-index-test.false in
    all_right c.args.change.now (active_words k0.log.loader) (spare_words c.loop-index.me.log.loader) (changed_count c.args.change.now c.args.active.now.count) (record { from = c.loop-index.index; to = c.args.at.to }) (omega (arith, over)) c.loop-index.invariant.members
