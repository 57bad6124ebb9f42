use Rattle.std.proofs.Common.{IfOk, string_bytes, subst, sym}
use Rattle.csv_records.specs.Encoding.{IsDecoded}
use Rattle.csv_records.specs.declared.encoding.Encoding.{Encoding}
use Rattle.csv_records.proofs.encoding.text_below.Goals as goal

pub returns-in-Utf16-clause-text : goal.returns-in-Utf16-clause-text
returns-in-Utf16-clause-text c = subst (λ (e : Encoding). IfOk c.utf16_text.result (λ text. IsDecoded e c.args.skip c.args.input.items (string_bytes text))) (sym c.in-Utf16.is) (rw c.as_slice-in-Utf16.ensures.value at c.utf16_text.ensures.text)
