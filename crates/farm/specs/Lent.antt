-- Where the program comes from: a bus made of its bytes, and a run's lent memory that has them in bank 0.
use Rattle.std.specs.Prelude.{ℕ, zero, suc, ◌+◌, ◌-◌, ◌%◌, ◌<◌, ◌≡◌, Bool, List, [], ◌∷◌, None, length, get_or}
use Rattle.cpu.specs.declared.types.Record.{Record}
use Rattle.memory.specs.Turns.{bus_byte}
use Rattle.run.specs.Runs.{End, size}
use Rattle.farm.specs.Pairs.{Delivery, Bus, Conserved, tally, cycles_for}

-- how far an address of a bank lies past PC, inside the bank
abbrev pub place_from : (pc address : ℕ) → ℕ
place_from pc address = (address + (65536 - pc)) % 65536

-- a bus that has the bytes from PC on, in every bank
abbrev pub bus_of : (pc : ℕ) → List ℕ → Bus
bus_of pc bytes t q = get_or bytes (place_from pc q.addr) 0

-- the bus that a lent memory is, as long as nothing is stored
abbrev pub lent : List ℕ → Bus
lent m t q = bus_byte q m

-- where byte i lies in a lent memory, which stands for bank 0
abbrev pub memory_place : (pc i : ℕ) → ℕ
memory_place pc i = (pc + i) % 65536

-- a lent memory that has the bytes from PC on
pub record Holds (m : List ℕ) (pc : ℕ) (bytes : List ℕ) : Type 0 where
  pub whole : length m ≡ size
  pub byte : (i : ℕ) → i < length bytes → get_or m (memory_place pc i) 0 ≡ get_or bytes i 0

-- a list whose every number is a byte, as a lent memory's are
abbrev pub AllBytes : List ℕ → Type 0
AllBytes [] = Unit
AllBytes (b ∷ bs) = (b < 256) × AllBytes bs

-- n bytes, each by its address; and a memory that has the bytes from PC on
unfoldable pub filled : (n : ℕ) → (ℕ → ℕ) → List ℕ
filled zero f = []
filled (suc n) f = f 0 ∷ filled n (λ a. f (suc a))

abbrev pub memory_of : (pc : ℕ) → List ℕ → List ℕ
memory_of pc bytes = filled size (λ a. get_or bytes (place_from pc a) 0)

-- how a run of the deliveries ends: not refused, a line for each cycle, the memory as it was, and the tally's last record
pub record RunConserved (w : Bool) (r : Record) (m : List ℕ) (ds : List Delivery) (e : End) : Type 0 where
  pub refusal : e.refusal ≡ None
  pub lines : length e.lines ≡ cycles_for w ds
  pub mem : e.mem ≡ m
  pub conserved : Conserved w r e.rec ds (tally (lent m) ds 0 r)
