use Rattle.std.proofs.Common.{◌∙◌}
use Rattle.std.proofs.lemmas.Option.{slice_get-get_or, slice_get_within}
use Rattle.eh_hdr.proofs.Covers.{found_by_table, none_by_table}
use Rattle.eh_hdr.proofs.Tables.{locations_ascend, entry_fde}
use Rattle.eh_hdr.proofs.lookup.table_cover.Goals as goal

pub last_up_to-requires : goal.last_up_to-requires
last_up_to-requires c = locations_ascend _ _ c.args.entries.now c.requires.1

pub covering-requires : goal.covering-requires
covering-requires c =
    let at = slice_get-get_or c.args.entries.now c.in-Some.index _ c.in-Some.ensures.some.0 in
    let f = entry_fde _ _ c.args.entries.now c.in-Some.index _ c.requires.1 at in
    slice_get_within _ _ f.0 f.1

pub returns-in-None-clause-entry : goal.returns-in-None-clause-entry
returns-in-None-clause-entry c = none_by_table c.args.pc _ c.args.entries.now c.requires c.in-None.ensures.none

pub returns-in-Some-clause-entry : goal.returns-in-Some-clause-entry
returns-in-Some-clause-entry c =
    let at = slice_get-get_or c.args.entries.now c.in-Some.index _ c.in-Some.ensures.some.0 in
    c.covering.ensures.entry ∙ found_by_table c.args.pc _ c.args.entries.now c.in-Some.index _ c.requires c.in-Some.ensures.some at
