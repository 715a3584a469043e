-- What the functions for single cycles answer: a number with fields of bits, and every byte of what was lent. Definitions that the core is proved against give the
-- answers; here they are only taken from bytes and put back into them.
use Rattle.std.specs.Prelude.{ℕ, List, Option, Some, None, Result, Ok, Err}
use Rattle.cpu.specs.declared.types.Refusal.{Refusal}
use Rattle.cpu.specs.declared.types.Record.{Record}
use Rattle.cpu.specs.declared.types.Request.{Request}
use Rattle.cpu.specs.Record.{number_of}
use Rattle.cpu.specs.declared.types.Refusal.TheVariants.{Malformed}
use Rattle.step.specs.Cycle.{request_of, answer_of}
use Rattle.packed.specs.Packed.{pack, unpacked}
use Rattle.numbers.specs.Numbers.{asked_bits, Answered}

-- bytes that are no packed record are refused with 4
abbrev pub taken_from : Option Record → Result Record Refusal
taken_from (Some r) = Ok r
taken_from None = Err Malformed

-- ---- glavorint_request

abbrev pub asked_from : Option Record → Result Request Refusal
asked_from (Some r) = request_of r
asked_from None = Err Malformed

unfoldable pub request_number : List ℕ → ℕ
request_number b = asked_bits (asked_from (unpacked b))

-- ---- glavorint_answer

abbrev pub came_from : Option Record → ℕ → Result Record Refusal
came_from (Some r) byte = answer_of r byte
came_from None byte = Err Malformed

abbrev pub answered_by : List ℕ → Result Record Refusal → Answered
answered_by b (Ok r) = record { number = 0; bytes = pack r }
answered_by b (Err n) = record { number = number_of n; bytes = b }

unfoldable pub answer_bytes : (b : List ℕ) → ℕ → Answered
answer_bytes b byte = answered_by b (came_from (unpacked b) byte)
