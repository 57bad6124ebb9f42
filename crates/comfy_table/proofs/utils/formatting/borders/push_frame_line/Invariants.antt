use Rattle.std.proofs.Common.{◌≡◌, ℕ, [], ◌++◌, take, string_bytes}
use Rattle.std.specs.List.{join_by, repeat}
use Rattle.std.specs.Prelude.{if◌then◌else◌}
use Rattle.comfy_parts.specs.CellValue.{ColumnInfo, info_width}
use Rattle.comfy_table.specs.Frame.{character}
use Rattle.comfy_table.proofs.utils.formatting.borders.push_frame_line.Given as goal

abbrev pub invariant-loop-position : goal.invariant-loop-position
invariant-loop-position l =
    string_bytes l.text ≡ string_bytes l.initial.text ++ join_by (λ (p : ℕ × ColumnInfo). repeat (info_width p.1) (character l.line.fill)) (if l.vertical then character l.line.junction else []) (take l.position l.columns)
