use Rattle.std.proofs.Common.{sym, refl, ◌∙◌, arith}
use Rattle.raise_phases.proofs.Cleanups.{repeats_more, told_true}
use Rattle.raise_phases.proofs.Searches.{queries_more, halves_more}
use Rattle.raise_phases.proofs.phases.clean_up.Goals as goal

pub returns-then-not-same-clause-queries : goal.returns-then-not-same-clause-queries
returns-then-not-same-clause-queries g c = queries_more g.F.Finder.answers c.args.finder.now _ _ _ c.frames.finder c.find-second.new.self c.add.ensures.items c.frames.invariant.goes c.find-second.ensures.answered

pub returns-then-not-same-clause-halves : goal.returns-then-not-same-clause-halves
returns-then-not-same-clause-halves g c = halves_more _ _ _ c.add.ensures.items c.find-second.ensures.halves c.frames.invariant.halves

pub frames-preserved : goal.frames-preserved
frames-preserved g c =
    let before = c.frames.invariant in
    let more = c.add-in-frames.ensures in
    let same = told_true _ _ _ c.if-not-same.false c.is_same_hit-same.ensures in
    record {
      repeats = repeats_more c.args.search.now c.frames.phases.items _ c.len-index.result _ _ c.index-search-index.result _ (omega (arith, c.frames-test.true, c.len.ensures, c.len-index.ensures)) c.index-search-index.is (sym c.len-index.ensures) before.repeats more.items (omega (arith, more.len, c.len-index.ensures)) (record {
        line = refl;
        verdict = refl;
        same = sym c.hit_of.ensures ∙ same ∙ c.hit_of-in-frames.ensures;
      });
      goes = queries_more g.F.Finder.answers c.args.finder.now _ _ _ c.frames.finder c.find-second.new.self more.items before.goes c.find-second.ensures.answered;
      halves = halves_more _ _ _ more.items c.find-second.ensures.halves before.halves;
      bound = c.find-second.ensures.bound ∙ before.bound;
      room = omega (arith, before.room, more.capacity);
      within = omega (arith, more.len, c.frames-test.true, c.len.ensures);
    }
