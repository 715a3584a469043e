-- Cycles and length of the instruction that starts with a byte, from document 01's table "Cycles by instruction";
-- both are 0 for a byte that isn't listed.
use Rattle.std.specs.Prelude.{ℕ, ◌-◌, Bool, true, false, List, [], ◌∷◌, get_or, Option, Some, None}
use Rattle.opcodes.specs.declared.types.Operation.{Operation}
use Rattle.flags.specs.declared.Flags.{Flags}
use Rattle.opcodes.specs.Opcodes.{wide_of}
use Rattle.opcodes.specs.declared.types.Shape.{Shape}
use Rattle.cycles.specs.Cycles.{unaligned}
use Rattle.sheet.specs.Counts.{count_of, length_of}

-- whether it is 16 bits wide
abbrev pub wide_at : Option (Shape × Operation) → Flags → Bool
wide_at None f = false
wide_at (Some (s, o)) f = wide_of o f.memsel f.indexsel

-- its cycles: a branch's when it isn't taken, a move's for each byte
abbrev pub count_at : Option (Shape × Operation) → Flags → (d : ℕ) → ℕ
count_at None f d = 0
count_at (Some (s, o)) f d = count_of s (wide_of o f.memsel f.indexsel) (unaligned d) f.emulation false false

-- its length in bytes
abbrev pub length_at : Option (Shape × Operation) → Flags → ℕ
length_at None f = 0
length_at (Some (s, o)) f = length_of s (wide_of o f.memsel f.indexsel)

-- ---- the columns of the constant table, by shape
-- cycles; cycles more where it is wide; cycles more where the low byte of D isn't 0
abbrev pub base_of : Shape → ℕ
base_of s = count_of s false false false false false

abbrev pub wider_of : Shape → ℕ
wider_of s = count_of s true false false false false - base_of s

abbrev pub later_of : Shape → ℕ
later_of s = count_of s false true false false false - base_of s

-- bytes; bytes more where it is wide
abbrev pub bytes_of : Shape → ℕ
bytes_of s = length_of s false

abbrev pub longer_of : Shape → ℕ
longer_of s = length_of s true - bytes_of s

abbrev pub row_at : Option (Shape × Operation) → List ℕ
row_at None = 0 ∷ 0 ∷ 0 ∷ 0 ∷ 0 ∷ []
row_at (Some (s, o)) = base_of s ∷ wider_of s ∷ later_of s ∷ bytes_of s ∷ longer_of s ∷ []

abbrev pub column_at : (column : ℕ) → Option (Shape × Operation) → ℕ
column_at k p = get_or (row_at p) k 0
