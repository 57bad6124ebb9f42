use Rattle.std.proofs.Common.{◌∙◌, arith}
use Rattle.comfy_parts.proofs.OwnWidthLemmas.{number-columns, number-joins}
use Rattle.comfy_parts.proofs.OwnWidthTrie.{has_numbers, is_trie}
use Rattle.comfy_parts.proofs.content_split.own_width.tabled_width.Goals as goal

pub get-columns-requires : goal.get-columns-requires
get-columns-requires c = is_trie

pub returns-then-columns-eq-JOINS : goal.returns-then-columns-eq-JOINS
returns-then-columns-eq-JOINS c =
    number-joins c.args.character c.get-columns.result (c.get-columns.ensures ∙ has_numbers c.args.character (omega arith)) c.if-columns-eq-JOINS.true

pub returns : goal.returns
returns c = number-columns c.args.character c.get-columns.result (c.get-columns.ensures ∙ has_numbers c.args.character (omega arith)) c.if-columns-eq-JOINS.false
