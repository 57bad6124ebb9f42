use Rattle.std.specs.Io.KnownBytes.{Keeps}
use Rattle.devices.proofs.uninterrupted.write_again.Given as goal

abbrev pub invariant-loop : goal.invariant-loop
invariant-loop g l = Keeps (g.W.Write.contents l.initial.writer) (g.W.Write.contents l.writer)
