-- Demand 3: a program of decimal sums on the machine that demand 2 defines loses no digit.
use Prim.Native.Nat.{◌≤◌}
use mathlib.Core.Bool.{Bool}
use mathlib.Core.List.{List}
use lib.ListN.{length}
use Rattle.cpu.specs.declared.types.Record.{Record}
use Rattle.farm.specs.Pairs.{Delivery, most_deliveries, AllDigits, Bus, Feeds, program, tally, Ready, Conserved}
use Rattle.farm.proofs.Deliveries.{deliveries}

-- From a well-formed record at an instruction's start, decimal mode on and digits in the accumulator, by deliveries in digits whose
-- program the bus has, whatever it answers else. The bound isn't needed here: it is what lets such a bus exist (`bus_exists`,
-- `program_fits`), since PC stays in its bank.
pub demand_3 : (w : Bool) (bus : Bus) (r : Record) (ds : List Delivery) → Ready w r → AllDigits w ds → length ds ≤ most_deliveries
    → Feeds bus r.pbr r.pc (program w ds) → (s : Record) × Conserved w r s ds (tally bus ds 0 r)
demand_3 w bus r ds h q bound fed = deliveries w bus ds 0 r h q fed
