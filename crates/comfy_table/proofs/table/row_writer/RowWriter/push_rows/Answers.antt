use Rattle.std.proofs.Common.{◌≡◌, arith, length, string_bytes}
use Rattle.std.proofs.lemmas.Str.{IsUtf8-string_bytes}
use Rattle.comfy_table.proofs.OutputLemmas.{begins-split}
use Rattle.comfy_table.specs.Output.{BeginsWith}
use Rattle.comfy_table.proofs.table.row_writer.RowWriter.push_rows.Goals as goal

pub truncate-requires : goal.truncate-requires
truncate-requires c within =
    let old = c.args.text.now in
    let new = c.draw-drawn.new.output in
    let size : c.len-had.result ≡ length (string_bytes old) = grind (arith, old.bytes.ok.0) in
    let begins : BeginsWith (string_bytes new) (string_bytes old) = grind arith in
    begins-split (string_bytes old) (string_bytes new) c.len-had.result (IsUtf8-string_bytes old) (IsUtf8-string_bytes new) size begins
