-- The facts of a run that wrote nothing, or a part of an output.
use Rattle.std.proofs.Common.{◌≡◌, ◌++◌, inl, inr, true, false, [], Some, Err, ap, append_assoc, arith, length-append, refl, sym, subst, ◌∙◌}
use Rattle.devices.proofs.TestedLemmas.{none_tested}
use Rattle.devices.specs.Device.{Bytes}
use Rattle.devices.specs.Outcome.{Beginning, Extent, IsBeginningOnly, NoDeviceFailed, NoneIsEnough, RunFacts, Whole}
use Rattle.devices.specs.Run.{IsAfter, stop_of}
use Rattle.devices.specs.Transfer.{IsAnswered, is_source_fault}
use Rattle.devices.specs.declared.transfer.ReadError.{ReadError}
use Rattle.devices.specs.declared.transfer.ReadError.TheVariants as read
use Rattle.devices.specs.declared.transfer.Stop.TheVariants.{Refused}

module _ (T : Type 0) {A E : Type 0} (IsNotEnough : Bytes → Type 0) (IsOutput : Extent → Bytes → Bytes → Type 0) (IsRendered : Extent → Bytes → A → Type 0) (IsRefusal : Extent → Bytes → E → Type 0) where
  -- the source wasn't read to its end, unless that had been read before
  pub after_unread : (e : ReadError) (facts : RunFacts) → facts.read_failed ≡ is_source_fault {T = T} (Err e) → facts.write_failed ≡ false → facts.written ≡ [] → (facts.end_was_read ≡ true → facts.input ≡ [])
      → IsAfter IsNotEnough IsOutput IsRefusal {T = T} (Err (stop_of e)) facts
  after_unread read.Source facts failed unfailed nothing left =
      inl (record { none_is_enough = λ whole. subst (NoneIsEnough IsNotEnough) (sym (left whole)) (none_tested IsNotEnough); says = record { failed = failed; no_write_failed = unfailed; nothing_written = nothing; nothing_left = left } })
  after_unread read.OutOfMemory facts failed unfailed nothing left =
      inl (record {
        none_is_enough = λ whole. subst (NoneIsEnough IsNotEnough) (sym (left whole)) (none_tested IsNotEnough);
        says = record { no_device_failed = record { no_read_failed = failed; no_write_failed = unfailed }; nothing_written = nothing; fine = left };
      })

  -- the bytes that were read have no output
  pub after_refused : (e : E) (facts : RunFacts) → IsAnswered IsNotEnough IsRendered IsRefusal (Some facts.input) facts.end_was_read (Err e) → NoDeviceFailed facts → facts.written ≡ []
      → IsAfter IsNotEnough IsOutput IsRefusal {T = T} (Err (Refused e)) facts
  after_refused e facts (Whole, (input, fault, whole, known)) unfailed nothing =
      let own = known facts.input refl in
      inl (record { none_is_enough = λ ended. own.1; says = record { no_device_failed = unfailed; whole = whole; fault = subst (λ t. IsRefusal Whole t e) (sym own.0) fault; nothing_written = nothing } })
  after_refused e facts (Beginning, (read, fault, known)) unfailed nothing =
      let own = known facts.input refl in
      inr (record {
        n = own.1;
        is_tested = own.2;
        unread = own.0;
        says = record { no_device_failed = record { no_read_failed = unfailed.no_read_failed; no_write_failed = unfailed.no_write_failed }; whole = refl; fault = subst (λ t. IsRefusal Beginning t e) own.3 fault; nothing_written = nothing };
      })

-- if some pieces were written, and a part of the next one, a part of the output was written
pub part_written : (written part piece after left whole : Bytes) → written ++ left ≡ whole → left ≡ piece ++ after → IsBeginningOnly part piece → IsBeginningOnly (written ++ part) whole
part_written written part piece after left whole all next beginning =
    record {
      rest = beginning.rest ++ after;
      joins =
          sym all ∙ ap (λ t. written ++ t) (next ∙ ap (λ t. t ++ after) beginning.joins ∙ append_assoc part beginning.rest after)
          ∙ sym (append_assoc written part (beginning.rest ++ after));
      some_are_missing = omega (arith, length-append beginning.rest after, beginning.some_are_missing);
    }
