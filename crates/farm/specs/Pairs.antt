-- Demand 3's words: deliveries in decimal digits, the program that adds and takes them, a bus that has that program, and what is
-- counted while it runs. w: 16 bits wide.
use Rattle.std.specs.Prelude.{ℕ, zero, suc, ◌+◌, ◌*◌, ◌<◌, ◌≡◌, Bool, true, false, not, List, [], ◌∷◌, length, get_or, Result, Ok, Err}
use Rattle.cpu.specs.declared.types.Refusal.{Refusal}
use Rattle.words.specs.Words.{pick, bit, low_of, high_of, up, at}
use Rattle.adder.specs.Digits.{Digits, value}
use Rattle.cpu.specs.Record.{well_formed}
use Rattle.cpu.specs.declared.types.Record.{Record}
use Rattle.cpu.specs.declared.types.Request.{Request}
use Rattle.cpu.specs.declared.types.Kind.{Kind}
use Rattle.cpu.specs.declared.types.Kind.TheVariants.{Opcode, Program, Data, Invalid}
use Rattle.bus.specs.Bus.{reads}
use Rattle.step.specs.Cycle.{request_of, answer_of}
use Rattle.sheet.specs.Run.{Ran, run}

-- ---- deliveries

-- CLC with ADC #, or SEC with SBC #, and the operand
pub data Delivery : Type 0 where
  Added : ℕ → Delivery
  Taken : ℕ → Delivery

abbrev pub amount : Delivery → ℕ
amount (Added n) = n
amount (Taken n) = n

-- the most of them that the demand speaks of
abbrev pub most_deliveries : ℕ
most_deliveries = 16384

-- bytes, and M, by the width
abbrev pub bytes_of : (w : Bool) → ℕ
bytes_of true = 2
bytes_of false = 1

abbrev pub modulus : (w : Bool) → ℕ
modulus true = 10000
modulus false = 100

-- decimal digits in every operand, none above the width
abbrev pub AllDigits : (w : Bool) → List Delivery → Type 0
AllDigits w [] = Unit
AllDigits w (d ∷ ds) = Digits (bytes_of w) (amount d) × AllDigits w ds

-- all that is added, and all that is taken away, as decimal numbers
abbrev pub adds : (w : Bool) → Delivery → ℕ
adds w (Added n) = value (bytes_of w) n
adds w (Taken n) = 0

abbrev pub takes : (w : Bool) → Delivery → ℕ
takes w (Added n) = 0
takes w (Taken n) = value (bytes_of w) n

abbrev pub added : (w : Bool) → List Delivery → ℕ
added w [] = 0
added w (d ∷ ds) = adds w d + added w ds

abbrev pub taken : (w : Bool) → List Delivery → ℕ
taken w [] = 0
taken w (d ∷ ds) = takes w d + taken w ds

-- ---- the program's bytes: an operand has its high byte only at 16 bits
abbrev pub operand : (w : Bool) → ℕ → List ℕ → List ℕ
operand true n rest = low_of n ∷ high_of n ∷ rest
operand false n rest = n ∷ rest

abbrev pub program : (w : Bool) → List Delivery → List ℕ
program w [] = []
program w (Added n ∷ ds) = 0x18 ∷ 0x69 ∷ operand w n (program w ds)
program w (Taken n ∷ ds) = 0x38 ∷ 0xE9 ∷ operand w n (program w ds)

-- ---- the bus: at a time, counted in cycles, and to a request, a byte
abbrev pub Bus : Type 0
Bus = ℕ → Request → ℕ

-- nothing is heard where nothing is asked, and a refused cycle leaves the record
abbrev pub reply : Bus → (t : ℕ) → Result Request Refusal → ℕ
reply bus t (Ok q) = bus t q
reply bus t (Err n) = 0

abbrev pub left : Record → Result Record Refusal → Record
left r (Ok s) = s
left r (Err n) = r

-- the byte that is heard in cycle k from a record at time t on
unfoldable pub heard : Bus → (t : ℕ) → Record → ℕ → ℕ
heard bus t r zero = reply bus t (request_of r)
heard bus t r (suc k) = heard bus (suc t) (left r (answer_of r (reply bus t (request_of r)))) k

-- an instruction on a bus, from a record at time t on: demand 2 speaks of it
abbrev pub on_bus : Bus → (t : ℕ) → Record → Ran
on_bus bus t r = run 8 (heard bus t r) r

-- which requests are for code
abbrev pub is_code : Kind → Bool
is_code Opcode = true
is_code Program = true
is_code Data = false
is_code Invalid = false

-- where byte i of a program lies: PC goes on inside its bank
abbrev pub code_place : (bank pc i : ℕ) → ℕ
code_place bank pc i = at bank (up pc i)

-- every read of code at a byte of the program, whenever it comes, is answered with that byte; nothing is said of other
-- requests
pub record Feeds (bus : Bus) (bank pc : ℕ) (bytes : List ℕ) : Type 0 where
  pub answers : (t i : ℕ) (k : Kind) → is_code k ≡ true → i < length bytes → bus t (reads k (code_place bank pc i)) ≡ get_or bytes i 0

-- ---- what is counted

-- the record after the last instruction or a refusal, the ADCs that ended with carry set, the SBCs that ended with carry clear,
-- and the cycles
pub record Tally : Type 0 where
  pub last : Result Record Refusal
  pub ups : ℕ
  pub downs : ℕ
  pub cycles : ℕ

abbrev pub wraps_up : Delivery → (carry : Bool) → ℕ
wraps_up (Added n) c = bit c
wraps_up (Taken n) c = 0

abbrev pub wraps_down : Delivery → (carry : Bool) → ℕ
wraps_down (Added n) c = 0
wraps_down (Taken n) c = bit (not c)

abbrev pub stopped : Result Record Refusal → Tally
stopped a = record { last = a; ups = 0; downs = 0; cycles = 0 }

-- so many cycles before the rest
abbrev pub longer : ℕ → Tally → Tally
longer n y = record { last = y.last; ups = y.ups; downs = y.downs; cycles = n + y.cycles }

-- a delivery that ended with that carry before the rest
abbrev pub counted : Delivery → (carry : Bool) → Tally → Tally
counted d c y = record { last = y.last; ups = wraps_up d c + y.ups; downs = wraps_down d c + y.downs; cycles = y.cycles }

-- on from where an instruction ended; a refusal ends all
abbrev pub on_from : Result Record Refusal → (Record → Tally) → Tally
on_from (Ok s) f = f s
on_from (Err n) f = stopped (Err n)

-- an instruction at time t, then the rest from the time and the record at its end
abbrev pub onward : Bus → (t : ℕ) → Record → (ℕ → Record → Tally) → Tally
onward bus t r rest =
    let n : ℕ = length (on_bus bus t r).requests in
    longer n (on_from (on_bus bus t r).out (rest (t + n)))

-- two instructions for each delivery
unfoldable pub tally : Bus → List Delivery → (t : ℕ) → Record → Tally
tally bus [] t r = stopped (Ok r)
tally bus (d ∷ ds) t r = onward bus t r (λ t₁ s. onward bus t₁ s (λ t₂ u. counted d u.flags.carry (tally bus ds t₂ u)))

-- ---- what is asked of the record, and what is promised

-- the accumulator at its width
abbrev pub accumulator : (w : Bool) → Record → ℕ
accumulator w r = pick w r.a (low_of r.a)

abbrev pub holding : (w : Bool) → Record → ℕ
holding w r = value (bytes_of w) (accumulator w r)

-- well formed, at an instruction's start, decimal mode on, that wide, and decimal digits in the accumulator
pub record Ready (w : Bool) (r : Record) : Type 0 where
  pub well : well_formed r ≡ true
  pub start : r.held ≡ false
  pub decimal : r.flags.decimal ≡ true
  pub width : r.flags.memsel ≡ not w
  pub digits : Digits (bytes_of w) (accumulator w r)
  pub inside : r.pc < 65536

-- two cycles of the carry's instruction, two of the sum's, and one for a high byte
abbrev pub per_delivery : (w : Bool) → ℕ
per_delivery w = 4 + bit w

abbrev pub cycles_for : (w : Bool) → List Delivery → ℕ
cycles_for w ds = per_delivery w * length ds

-- from r by the deliveries to s: nothing was refused, s is ready for more and its PC past the program, and no digit was lost
pub record Conserved (w : Bool) (r s : Record) (ds : List Delivery) (y : Tally) : Type 0 where
  pub last : y.last ≡ Ok s
  pub ready : Ready w s
  pub bank : s.pbr ≡ r.pbr
  pub past : s.pc ≡ up r.pc (length (program w ds))
  pub cycles : y.cycles ≡ cycles_for w ds
  pub same : holding w s + modulus w * y.ups + taken w ds ≡ holding w r + added w ds + modulus w * y.downs
