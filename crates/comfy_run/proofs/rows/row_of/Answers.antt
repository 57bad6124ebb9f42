use Rattle.std.proofs.Common.{◌<◌, arith, length, subst, sym}
use Rattle.std.specs.Str.{IsUtf8}
use Rattle.std.proofs.lemmas.Str.{IsUtf8-drop}
use Rattle.std.proofs.lemmas.Bool.Decides.{nat_tests}
use Rattle.comfy_run.proofs.RowLemmas.{after_part, last_cell, more_cells, row_more, row_whole}
use Rattle.comfy_run.proofs.rows.row_of.Goals as goal

pub returns-then-is_empty : goal.returns-then-is_empty
returns-then-is_empty c =
    let rest = c.loop-row.rest.now in
    let p = c.first_part-len in
    let last = last_cell rest c.as_bytes.result.now c.split_at.result.0.now c.split_at.result.1.now p.result.0 p.result.1 c.in_ok-cell_of.field-0 c.as_bytes.ensures.value p.ensures.part p.ensures.breaks c.split_at.ensures.front c.split_at.ensures.back c.in_ok-cell_of.ensures (grind (arith, nat_tests)) in
    row_whole c.loop-row.row _ c.in_ok-cell_of.field-0 c.args.line.now rest c.loop-row.invariant.cells c.in_ok-try_add_cell.ensures.ok last

pub split_at-requires-in-loop-row : goal.split_at-requires-in-loop-row
split_at-requires-in-loop-row c =
    let p = c.first_part-len in
    let after = after_part c.loop-row.rest.now c.as_bytes.result.now c.split_at.result.0.now c.split_at.result.1.now p.result.0 p.result.1 c.in_ok-cell_of.field-0 c.as_bytes.ensures.value p.ensures.part p.ensures.breaks c.split_at.ensures.front c.split_at.ensures.back c.in_ok-cell_of.ensures c.loop-row.invariant.utf8 (grind (arith, nat_tests)) in
    after.1

pub loop-row-preserved : goal.loop-row-preserved
loop-row-preserved c =
    let rest = c.loop-row.rest.now in
    let others = c.split_at.result.1.now in
    let next = c.split_at-in-loop-row.result.1.now in
    let p = c.first_part-len in
    let cell = c.in_ok-cell_of.field-0 in
    let some : 0 < length others = grind (arith, nat_tests) in
    let after = after_part rest c.as_bytes.result.now c.split_at.result.0.now others p.result.0 p.result.1 cell c.as_bytes.ensures.value p.ensures.part p.ensures.breaks c.split_at.ensures.front c.split_at.ensures.back c.in_ok-cell_of.ensures c.loop-row.invariant.utf8 some in
    let first = more_cells rest c.as_bytes.result.now c.split_at.result.0.now others p.result.0 p.result.1 cell c.as_bytes.ensures.value p.ensures.part p.ensures.breaks c.split_at.ensures.front c.split_at.ensures.back c.in_ok-cell_of.ensures next some c.split_at-in-loop-row.ensures.back in
    record {
      utf8 = subst IsUtf8 (sym c.split_at-in-loop-row.ensures.back) (IsUtf8-drop others 1 after.0 after.1);
      cells = row_more c.loop-row.row _ cell c.args.line.now rest c.loop-row.invariant.cells c.in_ok-try_add_cell.ensures.ok next first;
    }
