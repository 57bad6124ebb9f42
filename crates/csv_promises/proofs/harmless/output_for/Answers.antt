use Rattle.std.proofs.Common.{[], Option, Some, ap, List, ℕ}
use Rattle.std.specs.Prelude.{unwrap_or}
use Rattle.devices.specs.Device.{MemorySinkValue, MemorySourceValue, left_in}
use Rattle.csv_promises.proofs.OutputLemmas.{written_of}
use Rattle.csv_records.specs.declared.longer.LongRecords.{LongRecords}
use Rattle.csv_promises.proofs.harmless.output_for.Goals as goal

pub returns : goal.returns
returns c =
    let fresh = c.new-source.ensures in
    let empty = c.in_ok-sink.ensures in
    let happened = c.in_ok-draw.ensures.known c.args.input.now [] (ap (λ (s : MemorySourceValue). Some (left_in s)) fresh) (ap (λ (s : MemorySinkValue). Some s.bytes) empty)
    (ap (λ (s : MemorySourceValue). s.failed) fresh) (ap (λ (s : MemorySinkValue). s.failed) empty) in
    rw (ap (λ (taken : Option (List ℕ)). unwrap_or taken []) happened.1) (written_of (Option LongRecords) c.in_ok-draw.field-0 c.args.options.now _ happened.2)
