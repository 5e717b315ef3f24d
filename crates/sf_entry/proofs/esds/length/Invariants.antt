use Rattle.std.proofs.Common.{◌≡◌, ◌^◌, ◌<◌, ◌-◌}
use Rattle.sf_entry.specs.Esds.{length_in}
use Rattle.sf_entry.proofs.esds.length.Given as goal

abbrev pub invariant-loop : goal.invariant-loop
invariant-loop l = record { so_far : length_in (4 - l.counter) l.number l.rest ≡ length_in 4 0 l.bytes; small : l.number < 128 ^ l.counter }
