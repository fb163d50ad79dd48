use Rattle.std.proofs.Common.{◌∙◌}
use Rattle.row_table.proofs.CourseLaws.{HasCopied, copied_next}
use Rattle.row_table.proofs.course.copy_kept.Goals as goal

pub copies-preserved : goal.copies-preserved
copies-preserved c =
    let was = c.copies in
    let held : HasCopied c.args.rows.now.items was.rows.items c.args.states.now c.args.kept.now was.copied was.left = record {
      longer = was.invariant.longer;
      count = was.invariant.count;
      copies = was.invariant.copied;
      within = was.invariant.within;
      told = was.invariant.told;
    } in
    let next =
    copied_next c.args.rows.now.items was.rows.items c.push.new.self.items c.args.states.now c.args.kept.now was.copied c.keep.new.self was.left c.len-number.result c.number.result c.row.result.now held c.copies-test.true (c.len-number.ensures ∙ was.rows.ok.0) c.number.ensures c.row.ensures c.in_ok-push.ensures.items c.keep.ensures in
    record {
      longer = next.longer;
      count = next.count;
      copied = next.copies;
      within = next.within;
      told = next.told;
    }
