use Rattle.std.proofs.Common.{◌≡◌, arith, get_or, rules}
use Rattle.std.proofs.lemmas.Str.{IsCharBoundary-after_ascii}
use Rattle.csv_command.proofs.columns.range_at.Goals as goal

pub range_from-requires : goal.range_from-requires
range_from-requires c some =
    let hyphen : get_or c.args.word.now c.args.at 0 ≡ 45 = search rules in
    IsCharBoundary-after_ascii c.args.word.now c.args.at c.utf8.word c.requires (omega (arith, hyphen))
