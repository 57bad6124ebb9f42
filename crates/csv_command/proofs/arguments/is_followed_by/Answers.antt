use Rattle.std.proofs.Common.{ap, sym, ◌∙◌}
use Rattle.std.proofs.lemmas.Simd.{map-map}
use Rattle.clap.specs.Walk.{Row}
use Rattle.clap.specs.Words.{found_of, ids_left}
use Rattle.csv_command.specs.Arguments.{is_followed_by}
use Rattle.csv_command.proofs.arguments.is_followed_by.Goals as goal

pub loop-it-init : goal.loop-it-init
loop-it-init c =
    ap (is_followed_by c.args.id.now c.args.other.now)
    (ap ids_left c.into_iter-it-iterator.ensures.into_iter_gives ∙ c.ids-it-items.ensures
    ∙ sym (map-map (λ (row : Row). row.id) _ (found_of c.args.matches.now).entries.items))
