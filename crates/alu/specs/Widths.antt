-- An operation over n bytes, the low one first: 8 bits are one byte, 16 are two.
use Rattle.std.specs.Prelude.{ℕ, zero, suc, ◌+◌, ◌*◌, ◌/◌, ◌%◌, ◌^◌, Bool, true, false, eqb}
use Rattle.words.specs.Words.{pick}
use Rattle.flags.specs.declared.Flags.{Flags}
use Rattle.alu.specs.Alu.{shifted, from_top}
use Rattle.alu.specs.declared.types.Shift.{Shift}
use Rattle.alu.specs.declared.types.Byte.{Byte}
use Rattle.alu.specs.declared.types.Word.{Word}

abbrev pub chain : (byte : (first top : Bool) → (a b : ℕ) → Flags → Byte) → ℕ → (first : Bool) → (a b : ℕ) → Flags → Word
chain byte zero first a b f = record { word = 0; flags = f }
chain byte (suc n) first a b f =
    let l : Byte = byte first (eqb n 0) (a % 256) (b % 256) f in
    let h : Word = chain byte n false (a / 256) (b / 256) l.flags in
    record { word = l.byte + 256 * h.word; flags = h.flags }

-- of one operand: the low byte first
abbrev pub lefts : (byte : (first top : Bool) → ℕ → Flags → Byte) → ℕ → (first : Bool) → ℕ → Flags → Word
lefts byte n first v f = chain (λ first top a b g. byte first top a g) n first v 0 f

-- of one operand: the high byte first, so that the first byte is the top one
abbrev pub rights : (byte : (first top : Bool) → ℕ → Flags → Byte) → ℕ → (first : Bool) → ℕ → Flags → Word
rights byte zero first v f = record { word = 0; flags = f }
rights byte (suc n) first v f =
    let h : Byte = byte first first (v / 256 ^ n) f in
    let l : Word = rights byte n false (v % 256 ^ n) h.flags in
    record { word = l.word + 256 ^ n * h.byte; flags = l.flags }

-- a shift or a step over n bytes, from the end at which its carry goes in
abbrev pub through : Shift → ℕ → ℕ → Flags → Word
through k n v f = pick (from_top k) (rights (shifted k) n true v f) (lefts (shifted k) n true v f)
