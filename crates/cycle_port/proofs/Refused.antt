-- Whoever lends a packed record gets the core's own answers; other bytes are refused and stay as they were.
use Prim.Native.Nat.{ℕ, ◌*◌}
use mathlib.Core.Path.{◌≡◌, refl}
use mathlib.Core.Bool.{false}
use mathlib.Core.List.{List}
use Rattle.cpu.specs.declared.types.Record.{Record}
use Rattle.step.specs.Cycle.{request_of, answer_of}
use Rattle.packed.specs.Packed.{pack, unpacked, is_packed}
use Rattle.packed.proofs.RoundTrip.{found_again}
use Rattle.numbers.specs.Numbers.{asked_bits}
use Rattle.numbers.proofs.Bytes.{unfound}
use Rattle.cycle_port.specs.Port.{request_number, answered_by, answer_bytes}
use Rattle.cycle_port.proofs.Laws.{answer_bad}

pub request_packed : (r : Record) → request_number (pack r) ≡ asked_bits (request_of r)
unfolding request_number
request_packed r = rw (found_again r)

pub answer_packed : (r : Record) (byte : ℕ) → answer_bytes (pack r) byte ≡ answered_by (pack r) (answer_of r byte)
unfolding answer_bytes
answer_packed r byte = rw (found_again r)

pub request_4 : (b : List ℕ) → is_packed b ≡ false → request_number b ≡ 4 * 281474976710656
unfolding request_number
request_4 b h = rw h

pub answer_4 : (b : List ℕ) (byte : ℕ) → is_packed b ≡ false → answer_bytes b byte ≡ record { number = 4; bytes = b }
answer_4 b byte h = answer_bad b byte (unfound b h)
