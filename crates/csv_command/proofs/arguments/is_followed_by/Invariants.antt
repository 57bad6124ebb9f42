use Rattle.std.proofs.Common.{◌≡◌, bytes_eq, if◌then◌else◌}
use Rattle.std.specs.List.{list_any}
use Rattle.clap.specs.Words.{found_of, ids_left}
use Rattle.csv_command.specs.Arguments.{ids_in, is_followed_by}
use Rattle.csv_command.proofs.arguments.is_followed_by.Given as goal

abbrev pub invariant-loop-it : goal.invariant-loop-it
invariant-loop-it l =
    (if l.was_found then list_any (λ one. bytes_eq one l.other) (ids_left l.it-iterator) else is_followed_by l.id l.other (ids_left l.it-iterator))
    ≡ is_followed_by l.id l.other (ids_in (found_of l.matches))
