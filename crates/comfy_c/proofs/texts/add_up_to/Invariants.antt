use Rattle.std.proofs.Common.{◌≡◌, ◌+◌, take}
use Rattle.csv_records.specs.CutLists.{total}
use Rattle.comfy_c.proofs.texts.add_up_to.Given as goal

abbrev pub invariant-loop-number : goal.invariant-loop-number
invariant-loop-number l = l.left + total (take l.number-index l.numbers) ≡ l.all
