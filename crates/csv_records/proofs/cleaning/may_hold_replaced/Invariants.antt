use Rattle.std.proofs.Common.{◌≡◌, take}
use Rattle.std.specs.List.{list_any}
use Rattle.csv_records.specs.Cleaning.{may_begin_replaced}
use Rattle.csv_records.proofs.cleaning.may_hold_replaced.Given as goal

abbrev pub invariant-loop-byte : goal.invariant-loop-byte
invariant-loop-byte l = l.found ≡ list_any may_begin_replaced (take l.byte-index l.bytes)
