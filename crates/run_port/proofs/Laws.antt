-- What glavorint_run comes to, by what the bytes are found to be.
use Prim.Native.Nat.{ℕ}
use Rattle.std.proofs.Common.{Option, Some, None}
use mathlib.Core.Path.{◌≡◌}
use mathlib.Core.List.{List}
use lib.ListN.{length}
use Rattle.cpu.specs.Record.{number_of}
use Rattle.cpu.specs.declared.types.Record.{Record}
use Rattle.packed.specs.Packed.{unpacked}
use Rattle.run.specs.Runs.{whole_run}
use Rattle.numbers.specs.Numbers.{run_number}
use Rattle.run_port.specs.Port.{run_bytes, unfit, ran_to}

module _ (b m : List ℕ) (n : ℕ) (u : Option Record) (e : u ≡ unpacked b) where
  pub run_bad : u ≡ None → run_bytes b m n ≡ record { answer = run_number (number_of (unfit (length m) n)) 0; bytes = b; mem = m }
  unfolding run_bytes
  run_bad h = rw (← e, h)

  pub run_good : (r : Record) → u ≡ Some r → run_bytes b m n ≡ ran_to (whole_run n r m)
  unfolding run_bytes
  run_good r h = rw (← e, h)
