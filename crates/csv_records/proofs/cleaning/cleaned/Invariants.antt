use Rattle.std.proofs.Common.{◌≡◌, chars, fold}
use Rattle.csv_records.specs.Cleaning.{after_piece, pieces, start}
use Rattle.csv_records.proofs.cleaning.cleaned.Given as goal

abbrev pub invariant-loop-piece : goal.invariant-loop-piece
invariant-loop-piece l = fold after_piece l.cleaner l.piece-iterator ≡ fold after_piece start (pieces l.keeps_sequences (chars l.field))
