use Prim.Native.Nat.{ℕ}
use mathlib.Core.Path.{sym, ap}
use mathlib.Core.List.{List, [], ◌∷◌}
use Rattle.opcodes.specs.Opcodes.{decode_of, opcodes, one_bytes}
use Rattle.quick.specs.Quick.{quick_of}
use Rattle.quick.proofs.SlowRows.{slow_rest}
use Rattle.quick.proofs.quick.Goals as goal

-- the arms' keys, the last first
abbrev keys : List (List ℕ)
keys = (0xFB ∷ []) ∷ (0xF8 ∷ []) ∷ (0xF0 ∷ []) ∷ (0xED ∷ []) ∷ (0xEC ∷ []) ∷ (0xEA ∷ []) ∷ (0xE9 ∷ []) ∷ (0xE8 ∷ []) ∷ (0xE5 ∷ []) ∷ (0xE4 ∷ []) ∷ (0xE0 ∷ []) ∷ (0xD8 ∷ []) ∷ (0xD0 ∷ []) ∷ (0xCD ∷ []) ∷ (0xCC ∷ []) ∷ (0xCA ∷ []) ∷ (0xC9 ∷ []) ∷ (0xC8 ∷ []) ∷ (0xC5 ∷ []) ∷ (0xC4 ∷ []) ∷ (0xC0 ∷ []) ∷ (0xBB ∷ []) ∷ (0xBA ∷ []) ∷ (0xB8 ∷ []) ∷ (0xB0 ∷ []) ∷ (0xAE ∷ []) ∷ (0xAD ∷ []) ∷ (0xAC ∷ []) ∷ (0xAA ∷ []) ∷ (0xA9 ∷ []) ∷ (0xA8 ∷ []) ∷ (0xA6 ∷ []) ∷ (0xA5 ∷ []) ∷ (0xA4 ∷ []) ∷ (0xA2 ∷ []) ∷ (0xA0 ∷ []) ∷ (0x9C ∷ []) ∷ (0x9B ∷ []) ∷ (0x9A ∷ []) ∷ (0x98 ∷ []) ∷ (0x90 ∷ []) ∷ (0x8E ∷ []) ∷ (0x8D ∷ []) ∷ (0x8C ∷ []) ∷ (0x8A ∷ []) ∷ (0x89 ∷ []) ∷ (0x88 ∷ []) ∷ (0x86 ∷ []) ∷ (0x85 ∷ []) ∷ (0x84 ∷ []) ∷ (0x80 ∷ []) ∷ (0x7B ∷ []) ∷ (0x78 ∷ []) ∷ (0x70 ∷ []) ∷ (0x6D ∷ []) ∷ (0x6A ∷ []) ∷ (0x69 ∷ []) ∷ (0x65 ∷ []) ∷ (0x64 ∷ []) ∷ (0x5B ∷ []) ∷ (0x58 ∷ []) ∷ (0x50 ∷ []) ∷ (0x4D ∷ []) ∷ (0x4C ∷ []) ∷ (0x4A ∷ []) ∷ (0x49 ∷ []) ∷ (0x45 ∷ []) ∷ (0x3B ∷ []) ∷ (0x3A ∷ []) ∷ (0x38 ∷ []) ∷ (0x30 ∷ []) ∷ (0x2D ∷ []) ∷ (0x2C ∷ []) ∷ (0x2A ∷ []) ∷ (0x29 ∷ []) ∷ (0x25 ∷ []) ∷ (0x24 ∷ []) ∷ (0x1B ∷ []) ∷ (0x1A ∷ []) ∷ (0x18 ∷ []) ∷ (0x10 ∷ []) ∷ (0x0D ∷ []) ∷ (0x0A ∷ []) ∷ (0x09 ∷ []) ∷ (0x05 ∷ []) ∷ []

pub returns-in_default : goal.returns-in_default
unfolding quick_of decode_of opcodes one_bytes
returns-in_default c = sym (slow_rest _ opcodes keys tt c.in_default.in_default-own.rest)
