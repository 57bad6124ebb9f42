use Rattle.std.proofs.Common.{rules, ◌<◌, ◌≤◌, length}
use Rattle.std.specs.Str.{IsCharBoundary}
use Rattle.comfy_parts.proofs.CursorLemmas.{run-place}
use Rattle.comfy_parts.proofs.content_split.sequences.split_visible.Goals as goal
use Rattle.comfy_parts.proofs.content_split.sequences.split_visible.Goals.{then-run-test+else-bytes-run-ne-ESC, else-run-test}

pub split_at-requires : goal.split_at-requires
split_at-requires c =
    let text = c.args.text.now in
    let run = c.run.run in
    let inside : run ≤ length text = search rules in
    let within : run ≤ c.args.most = search rules in
    let before : run < c.args.most → IsCharBoundary text run = elim c.run-test.branch [ then-run-test+else-bytes-run-ne-ESC w ↦ search rules | else-run-test w ↦ search rules ] in
    run-place run c.args.most text c.utf8.text within inside before c.run.invariant.visible c.requires.fits
