-- A byte of a block move that is under way, over a memory of 65,536 bytes. A law beside the run's proofs says that its cycles come to the same.
use Rattle.std.specs.Prelude.{ℕ, Bool, not, ◌&&◌, List, eqb, get_or, set}
use Rattle.words.specs.Words.{pick, low_of, dec, up}
use Rattle.cpu.specs.Registers.{moves}
use Rattle.cpu.specs.Record.{is_move, regs_of, ended}
use Rattle.cpu.specs.declared.types.Record.{Record}
use Rattle.stride.specs.Strides.{whole, stretch}
use Rattle.stride.specs.declared.types.Stretch.{Stretch}

-- a move is under way in bank 0; both of its banks are 0
abbrev pub between : Record → Bool
between r = (eqb r.pbr 0 && r.held) && (is_move r.ir && eqb r.tcu 0)

abbrev pub near : Record → List ℕ → Bool
near r m = eqb (get_or m (up r.pc 1) 0) 0 && eqb (get_or m (up r.pc 2) 0) 0

abbrev pub hauled : (ups : Bool) → Record → Record
hauled ups r =
    let last : Bool = eqb (dec r.a) 0xFFFF in
    ended r.ir (not last) 0 (pick last (up r.pc 3) r.pc) r.s 0 (moves ups (regs_of r))

abbrev pub carried : Record → List ℕ → List ℕ
carried r m = set m r.y (low_of (get_or m r.x 0))

-- ---- what the entry answers; without a memory of 65,536 bytes nothing is done
abbrev pub hauls : Record → List ℕ → Bool
hauls r m = between r && near r m

unfoldable pub haul_of : Record → List ℕ → Stretch
haul_of r m = pick (whole m) (pick (hauls r m) (stretch 7 (hauled (eqb r.ir 0x54) r)) (stretch 0 r)) (stretch 0 r)

unfoldable pub haul_mem : Record → List ℕ → List ℕ
haul_mem r m = pick (whole m) (pick (hauls r m) (carried r m) m) m
