use Rattle.csv_records.proofs.NoneEnoughLemmas.{without_text}
use Rattle.csv_records.specs.declared.error.DecodeError.TheVariants.{NotUtf16}
use Rattle.csv_records.proofs.beginning.found_text.Goals as goal

pub returns-in-Err-NotUtf16-clause-none : goal.returns-in-Err-NotUtf16-clause-none
returns-in-Err-NotUtf16-clause-none c = λ text is.
    without_text c.args.options.now c.args.bytes.now text (NotUtf16 c.in-Err-NotUtf16.field-0-0) (λ same. cc same) (rw (c.in-Err-NotUtf16.field-0-is, c.in_ok-from_slice.ensures.items) at c.in-Err-NotUtf16.ensures.refused) is
