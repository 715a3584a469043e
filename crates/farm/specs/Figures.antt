-- Deliveries worked out by hand, on a bus that has their program and answers 0 elsewhere.
use Rattle.std.specs.Prelude.{ℕ, ◌≡◌, Bool, true, false, List, [], ◌∷◌, Result, Ok, Err}
use Rattle.cpu.specs.declared.types.Refusal.{Refusal}
use Rattle.cpu.specs.declared.types.Record.{Record}
use Rattle.sheet.specs.FigureForm.{A, PC, PBR, d, c, ◌is◌, emulation, native8, native16}
use Rattle.farm.specs.Pairs.{Delivery, Added, Taken, program, Tally, tally, Ready}
use Rattle.farm.specs.Lent.{bus_of}

-- A and PC at the end, and nothing of a refusal; then the wraps up, the wraps down and the cycles
abbrev pub ending : Result Record Refusal → (rest : List ℕ) → List ℕ
ending (Ok r) l = r.a ∷ r.pc ∷ l
ending (Err n) l = l

abbrev pub seen : Tally → List ℕ
seen y = ending y.last (y.ups ∷ y.downs ∷ y.cycles ∷ [])

abbrev pub sample : (w : Bool) → Record → List Delivery → List ℕ
sample w r ds = seen (tally (bus_of r.pc (program w ds)) ds 0 r)

-- 8 bits, in native mode and in emulation; 16 bits, with PC about to wrap inside bank 12
abbrev pub tank8 : Record
tank8 = native8 (A is 0x95 ∷ d is 1 ∷ [])

abbrev pub tank_e : Record
tank_e = emulation (A is 0x1295 ∷ d is 1 ∷ c is 1 ∷ [])

abbrev pub tank16 : Record
tank16 = native16 (A is 0x9995 ∷ d is 1 ∷ PBR is 0x12 ∷ PC is 0xFFFD ∷ [])

pub record FiguresHold : Type 0 where
  -- document 01: pairs from 95, add 10, subtract 06: A 99, one wrap up, one down
  pub paper : sample false tank8 (Added 0x10 ∷ Taken 0x06 ∷ []) ≡ 0x99 ∷ 0x8006 ∷ 1 ∷ 1 ∷ 8 ∷ []
  -- the high byte stays at 8 bits
  pub high : sample false tank_e (Added 0x10 ∷ Taken 0x06 ∷ Added 0x01 ∷ []) ≡ 0x1200 ∷ 0x8009 ∷ 2 ∷ 1 ∷ 12 ∷ []
  -- 9995 + 10 is 0005 and a wrap up; less 1006 it is 8999 and a wrap down; and 1 more is 9000 with no wrap
  pub wide : sample true tank16 (Added 0x0010 ∷ Taken 0x1006 ∷ Added 0x0001 ∷ []) ≡ 0x9000 ∷ 0x0009 ∷ 1 ∷ 1 ∷ 15 ∷ []
  pub none : sample true tank16 [] ≡ 0x9995 ∷ 0xFFFD ∷ 0 ∷ 0 ∷ 0 ∷ []
  -- such records are ready
  pub ready_8 : Ready false tank8
  pub ready_e : Ready false tank_e
  pub ready_16 : Ready true tank16
