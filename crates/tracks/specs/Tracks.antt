-- The lines of a whole instruction's cycles, in the sheet's order, and of a byte of a move's. Laws beside the run's proofs say that they are
-- the run's. An instruction is told by its opcode, the two bytes after it as they were before, how many cycles it took, and the memory after it.
use Rattle.std.specs.Prelude.{ℕ, ◌-◌, Bool, true, false, List, [], ◌∷◌, ◌++◌, ltb, get_or}
use Rattle.words.specs.Words.{pick, bit, word, inc, up, sum16}
use Rattle.cpu.specs.declared.types.Record.{Record}
use Rattle.cpu.specs.declared.types.Request.{Request}
use Rattle.cpu.specs.declared.types.Kind.{Kind}
use Rattle.cpu.specs.declared.types.Kind.TheVariants as kind
use Rattle.cycles.specs.Cycles.{unaligned}
use Rattle.quick.specs.Quick.{quick_of}
use Rattle.quick.specs.declared.types.Quick.{Quick}
use Rattle.quick.specs.declared.types.Quick.TheVariants as quick
use Rattle.quick.specs.declared.types.Mode.TheVariants as mode
use Rattle.tracks.specs.declared.types.Track.{Track}
use Rattle.tracks.specs.declared.types.Track.TheVariants.{Inside, Program, Branch, ReadDirect, StoreDirect, ReadAbsolute, StoreAbsolute}

-- ---- the track of an opcode
abbrev pub track_by : Quick → Track
track_by quick.Slow = Inside
track_by (quick.Read mode.Immediate k g) = Program
track_by (quick.Read mode.Direct k g) = ReadDirect
track_by (quick.Read mode.Absolute k g) = ReadAbsolute
track_by (quick.Store mode.Immediate k) = Inside
track_by (quick.Store mode.Direct k) = StoreDirect
track_by (quick.Store mode.Absolute k) = StoreAbsolute
track_by (quick.Do k) = Inside
track_by (quick.If k want) = Branch
track_by quick.Jump = Program

unfoldable pub track_of : ℕ → Track
track_of op = track_by (quick_of op)

-- ---- lines in bank 0
abbrev pub reads : Kind → (place byte : ℕ) → Request
reads k p b = record { write = false; kind = k; addr = p; byte = b }

abbrev pub writes : (place byte : ℕ) → Request
writes p b = record { write = true; kind = kind.Data; addr = p; byte = b }

-- the kind of the second cycle
abbrev pub second : Track → Kind
second Inside = kind.Invalid
second Program = kind.Program
second Branch = kind.Program
second ReadDirect = kind.Program
second StoreDirect = kind.Program
second ReadAbsolute = kind.Program
second StoreAbsolute = kind.Program

-- the kind of the cycles between the first two and the data
abbrev pub third : Track → Kind
third Inside = kind.Invalid
third Program = kind.Program
third Branch = kind.Invalid
third ReadDirect = kind.Invalid
third StoreDirect = kind.Invalid
third ReadAbsolute = kind.Program
third StoreAbsolute = kind.Program

-- how many such lines, n being the cycles of all
abbrev pub middles : Track → (skew : Bool) → (n : ℕ) → ℕ
middles Inside skew n = n - 2
middles Program skew n = n - 2
middles Branch skew n = n - 2
middles ReadDirect skew n = bit skew
middles StoreDirect skew n = bit skew
middles ReadAbsolute skew n = 1
middles StoreAbsolute skew n = 1

-- the first k of two lines: no instruction has more of them
abbrev pub up_to : (k : ℕ) → (q u : Request) → List Request
up_to k q u = pick (ltb 0 k) (q ∷ pick (ltb 1 k) (u ∷ []) []) []

-- whether data lies in the direct page, and whether it is stored
abbrev pub is_direct : Track → Bool
is_direct Inside = false
is_direct Program = false
is_direct Branch = false
is_direct ReadDirect = true
is_direct StoreDirect = true
is_direct ReadAbsolute = false
is_direct StoreAbsolute = false

abbrev pub is_store : Track → Bool
is_store Inside = false
is_store Program = false
is_store Branch = false
is_store ReadDirect = false
is_store StoreDirect = true
is_store ReadAbsolute = false
is_store StoreAbsolute = true

-- a line between: the operand's one byte asked again, or what follows it
abbrev pub middle : Track → (pc b₁ b₂ : ℕ) → Request
middle t pc b₁ b₂ = reads (third t) (pick (is_direct t) (up pc 1) (up pc 2)) (pick (is_direct t) b₁ b₂)

-- a line of data, of the memory after the instruction
abbrev pub datum : (store : Bool) → (place : ℕ) → List ℕ → Request
datum store p m = record { write = store; kind = kind.Data; addr = p; byte = get_or m p 0 }

-- ---- the lines of an instruction
abbrev pub track_lines : Track → (skew : Bool) → (op b₁ b₂ pc place n : ℕ) → List ℕ → List Request
track_lines t skew op b₁ b₂ pc p n m =
    let k : ℕ = middles t skew n in
    reads kind.Opcode pc op
    ∷ reads (second t) (up pc 1) b₁
    ∷ (up_to k (middle t pc b₁ b₂) (middle t pc b₁ b₂) ++ up_to (n - 2 - k) (datum (is_store t) p m) (datum (is_store t) (inc p) m))

-- where its data lies
abbrev pub place_by : Track → (d b₁ b₂ : ℕ) → ℕ
place_by t d b₁ b₂ = pick (is_direct t) (sum16 d b₁) (word b₁ b₂)

-- an instruction of n cycles that starts at r over the memory m, and leaves the memory k
abbrev pub stride_lines : Record → (m k : List ℕ) → (n : ℕ) → List Request
stride_lines r m k n =
    let op : ℕ = get_or m r.pc 0 in
    let b₁ : ℕ = get_or m (up r.pc 1) 0 in
    let b₂ : ℕ = get_or m (up r.pc 2) 0 in
    track_lines (track_of op) (unaligned r.d) op b₁ b₂ r.pc (place_by (track_of op) r.d b₁ b₂) n k

-- ---- the lines of a byte of a move: v as it is read, b as it stands there afterwards
abbrev pub haul_lines : (op b₁ b₂ pc x y v b : ℕ) → List Request
haul_lines op b₁ b₂ pc x y v b =
    reads kind.Opcode pc op
    ∷ reads kind.Program (up pc 1) b₁
    ∷ reads kind.Program (up pc 2) b₂
    ∷ reads kind.Data x v
    ∷ writes y b
    ∷ reads kind.Invalid y b
    ∷ reads kind.Invalid y b
    ∷ []
