use Rattle.std.proofs.Common.{◌∙◌, ap, sym}
use Rattle.std.specs.List.{list_all}
use Rattle.std.specs.Prelude.{unwrap_or}
use Rattle.comfy_parts.specs.Columns.{is_frame_character}
use Rattle.comfy_parts.proofs.FrameCharacterLemmas.{one_column_characters}
use Rattle.comfy_parts.proofs.style.table_style.TableStyle.is_one_column.Goals as goal

pub returns-clause-adds : goal.returns-clause-adds
returns-clause-adds c is =
    one_column_characters c.args.self.now (ap (list_all (λ ch. is_frame_character (unwrap_or ch 0x20))) (sym c.characters.ensures) ∙ sym c.are_one_column.ensures ∙ is)
