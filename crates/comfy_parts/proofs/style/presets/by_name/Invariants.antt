use Rattle.std.proofs.Common.{◌≡◌}
use Rattle.comfy_parts.specs.Presets.{preset_named}
use Rattle.comfy_parts.proofs.PresetLemmas.{from}
use Rattle.comfy_parts.proofs.style.presets.by_name.Given as goal

abbrev pub invariant-loop-preset : goal.invariant-loop-preset
invariant-loop-preset l = preset_named l.name ≡ from l.preset-items l.preset-index l.name
