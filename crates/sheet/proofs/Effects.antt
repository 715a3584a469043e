-- What the sheet's rows do with the bytes that are answered is the operation at its width, on the word that they make.
use Prim.Native.Nat.{ℕ, suc, ◌<◌}
use mathlib.Core.Path.{◌≡◌}
use mathlib.Core.Bool.{true, false}
use Rattle.flags.specs.Flags.{set_nz}
use Rattle.alu.specs.Alu.{operated_at}
use Rattle.cpu.specs.Registers.{get, put, set_flags}
use Rattle.cpu.specs.Record.{regs_of}
use Rattle.cpu.specs.declared.types.Record.{Record}
use Rattle.cpu.proofs.Bytes.{with, two_bytes, one_byte, pulled_word}
use Rattle.opcodes.specs.Opcodes.{alu_of, reg_of}
use Rattle.opcodes.specs.declared.types.Operation.{Operation}
use Rattle.sheet.specs.Sheet.{effect, pulling, word_at}

module _ (r : Record) (b : ℕ → ℕ) (o : Operation) where
  -- an operation on what is read from cycle i on; the low byte is one
  module _ (i : ℕ) (p : b i < 256) where
    pub effect_16 : effect r b o true i ≡ with (reg_of o) (operated_at (alu_of o) true (get (reg_of o) (regs_of r)) (word_at r b i) r.flags) (regs_of r)
    effect_16 = two_bytes (alu_of o) (b i) (b (suc i)) (regs_of r) p (reg_of o)

    pub effect_8 : effect r b o false i ≡ with (reg_of o) (operated_at (alu_of o) false (get (reg_of o) (regs_of r)) (b i) r.flags) (regs_of r)
    effect_8 = one_byte (alu_of o) (b i) (regs_of r) p (reg_of o)

  -- a word that is pulled
  pub pulling_16 : pulling r b o true ≡ set_flags (set_nz r.flags (word_at r b 3) true) (put (reg_of o) (word_at r b 3) (regs_of r))
  pulling_16 = pulled_word (b 3) (b 4) (regs_of r) (reg_of o)
