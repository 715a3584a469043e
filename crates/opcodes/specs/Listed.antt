-- The listed bytes as bits. The opcode list of Opcodes.antt decides; this is a shorter way to it.
use Rattle.std.specs.Prelude.{ℕ, eqb}
use Rattle.words.specs.Words.{pick}

-- a bit for each byte that is listed, 64 to a row, the lowest byte's last
abbrev pub row_of : ℕ → ℕ
row_of n =
    pick (eqb n 0) 0x0D013F350D012F20
    (pick (eqb n 1) 0x1D013F351D113F34 (pick (eqb n 2) 0x0D017F751D017F75 0x1D113F3515113735))
