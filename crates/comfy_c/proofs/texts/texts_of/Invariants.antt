use Rattle.std.proofs.Common.{◌≡◌, ◌≤◌, drop, length, map, take}
use Rattle.std.specs.List.{All}
use Rattle.std.specs.Str.{IsUtf8}
use Rattle.csv_records.specs.CutLists.{cut_by, total}
use Rattle.comfy_c.proofs.texts.texts_of.Given as goal

abbrev pub invariant-loop-length : goal.invariant-loop-length
invariant-loop-length l = (map (λ text. text.now) l.found.items ≡ cut_by (take l.length-index l.lengths) l.texts) × (l.after ≡ drop (total (take l.length-index l.lengths)) l.texts) × (total (take l.length-index l.lengths) ≤ length l.texts) × IsUtf8 l.after × All IsUtf8 (cut_by (take l.length-index l.lengths) l.texts)
