-- Document 01's trace, from the machine's start to the last byte of text.
use Prim.Native.Nat.{ℕ, ◌≤◌}
use Rattle.cpu.specs.declared.types.Refusal.TheVariants.{Room, Budget}
use Rattle.std.proofs.Common.{Ok, None}
use mathlib.Core.Path.{◌≡◌, refl, sym, subst}
use mathlib.Core.Bool.{true, false}
use mathlib.Core.List.{List, [], ◌∷◌, ◌++◌}
use native.Mathlib.Omega.{arith}
use lib.ListN.{length, get_or, drop}
use Rattle.words.specs.Words.{word, low_set, inc, at, page_one, index}
use Rattle.adder.specs.Adder.{adc_binary, adc_of}
use Rattle.alu.specs.Alu.{nz, summed, adc_byte}
use Rattle.cpu.specs.Registers.{operates}
use Rattle.cpu.specs.Record.{well_formed, ended}
use Rattle.cpu.specs.declared.types.Record.{Record}
use Rattle.cpu.specs.declared.types.Kind.{Kind}
use Rattle.cpu.specs.declared.types.Kind.TheVariants.{Opcode, Program, Invalid}
use Rattle.cpu.specs.declared.types.Request.{Request}
use Rattle.opcodes.specs.Opcodes.{one_bytes, opcodes, decode_of}
use Rattle.step.specs.Cycle.{micro_of}
use Rattle.memory.specs.Turns.{cycle_of}
use Rattle.sheet.specs.FigureForm.{native8, ◌is◌, A, PC}
use Rattle.trace.specs.Text.{digits_of, decimal, hex_digit, hex2, hex6, line_text, lines_text}
use Rattle.run.specs.Runs.{End, ends, more, run_of, size}
use Rattle.run.proofs.Laws.{run_done, run_none}
use Rattle.traced.specs.Traces.{head, piece_text, room_of, untouched, text_of, piece_of, whole_piece, traced_as, Tells}
use Rattle.traced.proofs.Laws.{refused_2, refused_3, accepted}

-- a memory of 65,536 bytes with CLC and ADC #01 at 8000, whatever else is in it
pub record Program01 (m : List ℕ) : Type 0 where
  pub bank : length m ≡ size
  pub at0 : get_or m 0x8000 0 ≡ 0x18
  pub at1 : get_or m 0x8001 0 ≡ 0x69
  pub at2 : get_or m 0x8002 0 ≡ 0x01

abbrev read : Kind → (addr byte : ℕ) → Request
read k a b = record { write = false; kind = k; addr = a; byte = b }

-- with the opcode ir held and its cycle 1 to come
abbrev holding : (ir : ℕ) → Record → Record
holding ir r = record {
  a = r.a;
  x = r.x;
  y = r.y;
  s = r.s;
  d = r.d;
  pc = r.pc;
  pbr = r.pbr;
  dbr = r.dbr;
  flags = r.flags;
  held = true;
  ir = ir;
  tcu = 1;
  tempaddr = 0;
  tempdata = 0;
  tempbank = 0;
}

module _ (m : List ℕ) (h : Program01 m) where
  cycle_1 : cycle_of (native8 []) m ≡ Ok (read Opcode 0x8000 0x18, holding 0x18 (native8 (PC is 0x8001 ∷ [])))
  unfolding cycle_of micro_of decode_of opcodes one_bytes well_formed inc at
  cycle_1 = simp (h.bank, h.at0)

  cycle_2 : cycle_of (holding 0x18 (native8 (PC is 0x8001 ∷ []))) m ≡ Ok (read Invalid 0x8001 0x69, native8 (PC is 0x8001 ∷ []))
  unfolding cycle_of micro_of decode_of opcodes one_bytes well_formed ended operates index page_one inc at
  cycle_2 = simp (h.bank, h.at1)

  cycle_3 : cycle_of (native8 (PC is 0x8001 ∷ [])) m ≡ Ok (read Opcode 0x8001 0x69, holding 0x69 (native8 (PC is 0x8002 ∷ [])))
  unfolding cycle_of micro_of decode_of opcodes one_bytes well_formed inc at
  cycle_3 = simp (h.bank, h.at1)

  cycle_4 : cycle_of (holding 0x69 (native8 (PC is 0x8002 ∷ []))) m ≡ Ok (read Program 0x8002 0x01, native8 (PC is 0x8003 ∷ A is 1 ∷ []))
  unfolding cycle_of micro_of decode_of opcodes one_bytes well_formed ended operates nz summed adc_byte adc_binary adc_of word low_set index page_one inc at
  cycle_4 = simp (h.bank, h.at2)

  -- the run without its text
  pub four_cycles : run_of 4 (native8 []) m
      ≡
      more (read Opcode 0x8000 0x18)
      (more (read Invalid 0x8001 0x69)
      (more (read Opcode 0x8001 0x69) (more (read Program 0x8002 0x01) (ends None (native8 (PC is 0x8003 ∷ A is 1 ∷ [])) m))))
  four_cycles =
      rw (run_done 3 _ _ m _ cycle_1, run_done 2 _ _ m _ cycle_2, run_done 1 _ _ m _ cycle_3, run_done 0 _ _ m _ cycle_4, run_none)

-- bus 1; 1 O R 008000 18; 2 I R 008001 69; 3 O R 008001 69; 4 P R 008002 01
abbrev pub text01 : List ℕ
text01 =
    98 ∷ 117 ∷ 115 ∷ 9 ∷ 49 ∷ 10
    ∷ 49 ∷ 9 ∷ 79 ∷ 9 ∷ 82 ∷ 9 ∷ 48 ∷ 48 ∷ 56 ∷ 48 ∷ 48 ∷ 48 ∷ 9 ∷ 49 ∷ 56 ∷ 10
    ∷ 50 ∷ 9 ∷ 73 ∷ 9 ∷ 82 ∷ 9 ∷ 48 ∷ 48 ∷ 56 ∷ 48 ∷ 48 ∷ 49 ∷ 9 ∷ 54 ∷ 57 ∷ 10
    ∷ 51 ∷ 9 ∷ 79 ∷ 9 ∷ 82 ∷ 9 ∷ 48 ∷ 48 ∷ 56 ∷ 48 ∷ 48 ∷ 49 ∷ 9 ∷ 54 ∷ 57 ∷ 10
    ∷ 52 ∷ 9 ∷ 80 ∷ 9 ∷ 82 ∷ 9 ∷ 48 ∷ 48 ∷ 56 ∷ 48 ∷ 48 ∷ 50 ∷ 9 ∷ 48 ∷ 49 ∷ 10
    ∷ []

-- PC 8000, 8-bit, CLC then ADC #01, budget 4, and room for 94 bytes: no refusal, 4 cycles, 70 bytes of text, A 01, PC 8003; the memory and the
-- rest of the text buffer stay
pub trace_figure : (m t : List ℕ) → Program01 m → 94 ≤ length t
    → Tells (whole_piece 0 4 (native8 []) m t) (traced_as None 4 70 (native8 (PC is 0x8003 ∷ A is 1 ∷ []))) m (text01 ++ drop 70 t)
unfolding head piece_text digits_of decimal hex_digit hex2 hex6 line_text lines_text
trace_figure m t h k =
    rw (accepted 0 4 (native8 []) m t h.bank refl k)
    (subst
    (λ (e : End). Tells (text_of 0 e t) (traced_as None 4 70 (native8 (PC is 0x8003 ∷ A is 1 ∷ []))) m (text01 ++ drop 70 t))
    (sym (four_cycles m h))
    (record { answer = refl; mem = refl; text = refl }))

-- budget 4: room for 94 bytes is asked for, for 88 in a piece that comes later
pub room_figure : (room_of 0 4 ≡ 94) × (room_of 1 4 ≡ 88)
unfolding head
room_figure = (refl, refl)

-- whatever the record: 93 bytes are refused with 3; a budget of 1,000,001 with 2, and a million less so many as were done is the most
pub short_figure : (r : Record) (m t : List ℕ) → length m ≡ size → length t ≡ 93 → whole_piece 0 4 r m t ≡ untouched Room r m t
unfolding head
short_figure r m t h k = refused_3 0 4 r m t h refl (omega (arith, k))

pub budget_figure : (r : Record) (m t : List ℕ) → length m ≡ size
    → (whole_piece 0 1000001 r m t ≡ untouched Budget r m t) × (whole_piece 999999 2 r m t ≡ untouched Budget r m t)
budget_figure r m t h = (refused_2 0 1000001 r m t h refl, refused_2 999999 2 r m t h refl)

pub most_figure : (r : Record) (m t : List ℕ) → length m ≡ size → 22 ≤ length t → whole_piece 999999 1 r m t ≡ piece_of 999999 1 r m t
unfolding head
most_figure r m t h k = accepted 999999 1 r m t h refl k
