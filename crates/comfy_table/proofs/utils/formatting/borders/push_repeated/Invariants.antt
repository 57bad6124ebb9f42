use Rattle.std.proofs.Common.{◌≡◌, ◌++◌, string_bytes}
use Rattle.std.specs.List.{repeat}
use Rattle.std.specs.Prelude.{encode_utf8}
use Rattle.comfy_table.proofs.utils.formatting.borders.push_repeated.Given as goal

abbrev pub invariant-loop : goal.invariant-loop
invariant-loop l = string_bytes l.text ≡ string_bytes l.initial.text ++ repeat l.counter (encode_utf8 l.fill)
