use Rattle.devices.proofs.DeviceLemmas.{IsMemoryRead, within, fault, stays_failed, bytes, end, end_read}
use Rattle.devices.proofs.memory.MemorySourceSource.TheImpl.Goals as goal

pub read-tells : goal.read-tells
read-tells g c =
    let h : IsMemoryRead c.args.self.now c.new.self.now c.args.buffer.now c.new.buffer.now c.result = record { fails = c.ensures.fails; failed = c.ensures.failed; count = c.ensures.count; given = c.ensures.given; after = c.ensures.after } in
    record {
      bound = within _ _ _ _ c.result h;
      fault = fault _ _ _ _ c.result h;
      stays_failed = stays_failed _ _ _ _ c.result h;
      bytes = bytes _ _ _ _ c.result h;
      end = end _ _ _ _ c.result h;
      end_read = end_read _ _ _ _ c.result h;
    }
