use Prim.Native.Nat.{ℕ}
use mathlib.Core.Path.{sym, ap}
use mathlib.Core.List.{List, [], ◌∷◌}
use Rattle.cpu.specs.declared.types.One.TheVariants.{Nop}
use Rattle.opcodes.specs.Opcodes.{one_bytes}
use Rattle.decode.specs.Columns.{one_of}
use Rattle.opcodes.proofs.Keys.{find_none}
use Rattle.decode.proofs.one_byte.Goals as goal

-- the arms' keys, the last first
abbrev keys : List (List ℕ)
keys = (0xFB ∷ []) ∷ (0xF8 ∷ []) ∷ (0xEA ∷ []) ∷ (0xE8 ∷ []) ∷ (0xD8 ∷ []) ∷ (0xCA ∷ []) ∷ (0xC8 ∷ []) ∷ (0xBB ∷ []) ∷ (0xBA ∷ []) ∷ (0xB8 ∷ []) ∷ (0xAA ∷ []) ∷ (0xA8 ∷ []) ∷ (0x9B ∷ []) ∷ (0x9A ∷ []) ∷ (0x98 ∷ []) ∷ (0x8A ∷ []) ∷ (0x88 ∷ []) ∷ (0x7B ∷ []) ∷ (0x78 ∷ []) ∷ (0x6A ∷ []) ∷ (0x5B ∷ []) ∷ (0x58 ∷ []) ∷ (0x4A ∷ []) ∷ (0x3B ∷ []) ∷ (0x3A ∷ []) ∷ (0x38 ∷ []) ∷ (0x2A ∷ []) ∷ (0x1B ∷ []) ∷ (0x1A ∷ []) ∷ (0x18 ∷ []) ∷ (0x0A ∷ []) ∷ []

pub returns-in_default : goal.returns-in_default
unfolding one_of one_bytes
returns-in_default c = sym (find_none Nop _ one_bytes keys tt c.in_default.in_default-own.rest)
