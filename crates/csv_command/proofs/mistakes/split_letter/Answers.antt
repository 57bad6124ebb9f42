use Rattle.std.proofs.Common.{None, Option, ap, ap₂, arith, codes, option_and_then, ◌∙◌}
use Rattle.std.proofs.lemmas.Str.Pattern.{strip_prefix_char}
use Rattle.std.specs.Option.{option_map_or}
use Rattle.clap.proofs.LexerLemmas.{strip_byte-from}
use Rattle.clap.specs.Lexer.{strip_byte}
use Rattle.comfy_parts.specs.Text.{Text}
use Rattle.csv_command.specs.Mistakes.{with_value}
use Rattle.csv_command.proofs.mistakes.split_letter.Goals as goal

pub returns-in-None-None-None-None : goal.returns-in-None-None-None-None
returns-in-None-None-None-None c =
    let rest = c.args.rest.now in
    let no_w = strip_byte-from 0x77 rest None (strip_prefix_char 0x77 rest None c.in-None-None-None-None.ensures.cases (omega arith)) in
    let no_m = strip_byte-from 0x6D rest None (strip_prefix_char 0x6D rest None c.in-None-None-None-None.ensures'.cases (omega arith)) in
    let no_n = strip_byte-from 0x6E rest None (strip_prefix_char 0x6E rest None c.in-None-None-None-None.ensures''.cases (omega arith)) in
    let no_e = strip_byte-from 0x65 rest None (strip_prefix_char 0x65 rest None c.in-None-None-None-None.ensures'''.cases (omega arith)) in
    ap₂ (λ (n e : Option Text). option_map_or (with_value (codes "-n")) n (option_and_then (with_value (codes "-e")) e)) no_n no_e
    ∙ ap₂ (λ (w m : Option Text). option_map_or (with_value (codes "-w")) w (option_map_or (with_value (codes "-m")) m (option_map_or (with_value (codes "-n")) (strip_byte 0x6E rest) (option_and_then (with_value (codes "-e")) (strip_byte 0x65 rest))))) no_w no_m
