-- A cycle over a memory: a read is answered from it, a write is stored in it. Document 01's order of refusals goes on here: 4, 5 and 6 of the
-- request, then 7 for a request outside the memory, last 5 for a fetched byte. Runs lend 65,536 bytes, which stand for bank 0.
use Rattle.std.specs.Prelude.{ℕ, List, leb, length, get_or, set, Result, Ok, Err}
use Rattle.words.specs.Words.{pick}
use Rattle.cpu.specs.Record.{number_of}
use Rattle.cpu.specs.declared.types.Record.{Record}
use Rattle.cpu.specs.declared.types.Request.{Request}
use Rattle.cpu.specs.declared.types.Refusal.{Refusal}
use Rattle.cpu.specs.declared.types.Refusal.TheVariants.{Bank, NoCycle}
use Rattle.cycles.specs.declared.types.Micro.{Micro}
use Rattle.step.specs.Cycle.{micro_of, asked_by, answered_by}

-- the byte that goes over the bus: a write's own, or the memory's
abbrev pub bus_byte : Request → List ℕ → ℕ
bus_byte q mem = pick q.write q.byte (get_or mem q.addr 0)

-- a request with that byte
abbrev pub crossed : Request → ℕ → Request
crossed q b = record { write = q.write; kind = q.kind; addr = q.addr; byte = b }

abbrev pub answered : Request → Result Record Refusal → Result (Request × Record) Refusal
answered l (Ok r) = Ok (l, r)
answered l (Err n) = Err n

-- the refusal of an answer that is one
abbrev pub refusal_of : Result Record Refusal → Refusal
refusal_of (Ok r) = NoCycle
refusal_of (Err n) = n

abbrev pub over : Result Request Refusal → Micro → Record → List ℕ → Result (Request × Record) Refusal
over (Err n) m r mem = Err n
over (Ok q) m r mem =
    pick (leb (length mem) q.addr) (Err Bank) (answered (crossed q (bus_byte q mem)) (answered_by m r (bus_byte q mem)))

abbrev pub turn_by : Micro → Record → List ℕ → Result (Request × Record) Refusal
turn_by m r mem = over (asked_by m r) m r mem

unfoldable pub cycle_of : Record → List ℕ → Result (Request × Record) Refusal
cycle_of r mem = turn_by (micro_of r) r mem

-- the memory afterwards: only a completed write changes it
abbrev pub store_line : Request → List ℕ → List ℕ
store_line l mem = pick l.write (set mem l.addr l.byte) mem

abbrev pub store_of : Result (Request × Record) Refusal → List ℕ → List ℕ
store_of (Ok (l, r)) mem = store_line l mem
store_of (Err n) mem = mem

-- document 01's number of a cycle: 0, or its refusal's
abbrev pub stopped_by : Result (Request × Record) Refusal → ℕ
stopped_by (Ok (l, r)) = 0
stopped_by (Err n) = number_of n
