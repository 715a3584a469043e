-- The numbers with fields of bits that more than one of the exported functions answers.
use Rattle.std.specs.Prelude.{ℕ, ◌+◌, ◌*◌, List, get_or, Result}
use Rattle.cpu.specs.declared.types.Refusal.{Refusal}
use Rattle.cpu.specs.declared.types.Request.{Request}
use Rattle.step.specs.Answers.{asked_number, asked_values}

-- what is asked, by document 01's number and values: bits 0-23 address, 24-31 byte, 32-39 kind, 40 write; or 48-55 refusal alone
abbrev pub value_bits : List ℕ → ℕ
value_bits vs = get_or vs 2 0 + get_or vs 3 0 * 16777216 + get_or vs 1 0 * 4294967296 + get_or vs 0 0 * 1099511627776

abbrev pub asked_bits : Result Request Refusal → ℕ
asked_bits a = value_bits (asked_values a) + asked_number a * 281474976710656

-- an answered byte: the refusal's number, or 0, and the lent bytes then
pub record Answered : Type 0 where
  pub number : ℕ
  pub bytes : List ℕ

-- a run: bits 0-31 cycles, 32-39 refusal
abbrev pub run_number : (refusal cycles : ℕ) → ℕ
run_number n c = c + n * 4294967296
