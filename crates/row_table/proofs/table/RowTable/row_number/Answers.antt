use Rattle.std.proofs.Common.{subst, arith}
use Rattle.row_table.specs.Tables.{TableData, HasNumber}
use Rattle.row_table.proofs.Lookups.{seen_there, first_reached, ascend, some_there, within_there, place_within, numbered_there}
use Rattle.row_table.proofs.table.RowTable.row_number.Goals as goal

pub last_start-place-requires : goal.last_start-place-requires
last_start-place-requires c =
    let from = c.index-from.result.now in
    let end = c.index-end.result.now in
    let t : TableData = record { begins = c.self.inside.begins.items; rows = record { starts = c.self.inside.starts.items; numbers = c.self.inside.numbers.items; distinct = c.self.inside.distinct.items } } in
    let is = seen_there t c.args.pc c.args.number from end c.args.fde.now _ c.self.view_is c.requires c.index-from.ensures c.index-end.ensures in record {
      some = some_there c.args.pc from end c.args.fde.now t.rows is;
      within = within_there c.args.pc from end c.args.fde.now t.rows c.deref.result.now is c.deref.ensures.value;
      first = first_reached c.args.pc from end c.args.fde.now t.rows c.deref.result.now is c.deref.ensures.value;
      ascending = ascend c.args.pc from end c.args.fde.now t.rows c.deref.result.now is c.deref.ensures.value;
    }

pub index-requires : goal.index-requires
index-requires c =
    let from = c.index-from.result.now in
    let end = c.index-end.result.now in
    let t : TableData = record { begins = c.self.inside.begins.items; rows = record { starts = c.self.inside.starts.items; numbers = c.self.inside.numbers.items; distinct = c.self.inside.distinct.items } } in
    let is = seen_there t c.args.pc c.args.number from end c.args.fde.now _ c.self.view_is c.requires c.index-from.ensures c.index-end.ensures in
    omega (arith, place_within c.args.pc from end c.last_start-place.result c.args.fde.now t.rows is c.last_start-place.ensures.within, c.self.inside.numbers.ok)

pub returns : goal.returns
returns c =
    let from = c.index-from.result.now in
    let end = c.index-end.result.now in
    let t : TableData = record { begins = c.self.inside.begins.items; rows = record { starts = c.self.inside.starts.items; numbers = c.self.inside.numbers.items; distinct = c.self.inside.distinct.items } } in
    let is = seen_there t c.args.pc c.args.number from end c.args.fde.now _ c.self.view_is c.requires c.index-from.ensures c.index-end.ensures in
    let place = c.last_start-place in
    let law = c.placed_rows_are_rows.ensures in
    subst (λ (k : TableData). HasNumber c.args.fde.now c.args.pc k.rows.distinct c.index.result.now) c.self.view_is
    (numbered_there c.args.pc from end place.result c.index.result.now c.args.fde.now t.rows c.deref.result.now is c.deref.ensures.value place.ensures.from place.ensures.within place.ensures.reached place.ensures.last c.index.ensures law.rules law.expressions)
