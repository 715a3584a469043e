-- Operations on whole words, at their width: what the chains of bytes come to. `WholeLaws` joins the two.
use Rattle.std.specs.Prelude.{ℕ, ◌+◌, ◌-◌, ◌*◌, ◌/◌, ◌%◌, Bool, ◌==◌, bit_and, nat_le}
use Rattle.words.specs.Words.{pick, low_of, low_set}
use Rattle.flags.specs.Flags.{set_nvzc, set_nz}
use Rattle.flags.specs.declared.Flags.{Flags}
use Rattle.alu.specs.declared.types.Word.{Word}

-- a result in a register that held a, with its N and Z: at 8 bits the high byte stays
abbrev pub placed : (wide : Bool) → (a v : ℕ) → Flags → Word
placed wide a v f = record { word = pick wide v (low_set a (low_of v)); flags = set_nz f v wide }

-- a difference inside 65,536
abbrev pub less : ℕ → ℕ → ℕ
less x y = (x + (65536 - y)) % 65536

-- CMP: N and Z of the difference, C where the register isn't below
abbrev pub compared : (wide : Bool) → (a b : ℕ) → Flags → Word
compared wide a b f =
    let x : ℕ = pick wide a (low_of a) in
    let y : ℕ = pick wide b (low_of b) in
    let g : Flags = set_nz f (less x y) wide in
    record { word = a; flags = set_nvzc g g.negative g.overflow g.zero (nat_le y x) }

-- BIT: Z of the AND; N and V, where they are taken at all, the two top bits of the value, moved up at 8 bits
abbrev pub tested : (wide signs : Bool) → (a b : ℕ) → Flags → Word
tested wide signs a b f =
    let t : ℕ = pick wide b (low_of b * 256) in
    let g : Flags = set_nz f (bit_and a b) wide in
    record { word = a; flags = set_nvzc f (pick signs (nat_le 32768 t) f.negative) (pick signs (t / 16384 % 2 == 1) f.overflow) g.zero f.carry }
