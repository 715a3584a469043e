-- What glavorint_trace answers: a number with fields of bits, and every byte of what was lent. Definitions that the core is proved against give the
-- answers; here they are only taken from bytes and put back into them.
use Rattle.std.specs.Prelude.{ℕ, ◌+◌, ◌*◌, List, eqb, leb, length, Option, Some, None}
use Rattle.cpu.specs.declared.types.Record.{Record}
use Rattle.words.specs.Words.{pick}
use Rattle.cpu.specs.Record.{number_of, number_in}
use Rattle.cpu.specs.declared.types.Refusal.{Refusal}
use Rattle.cpu.specs.declared.types.Refusal.TheVariants.{Memory, Budget, Room, Malformed}
use Rattle.run.specs.Runs.{size, most}
use Rattle.traced.specs.Traces.{Written, whole_piece, room_of}
use Rattle.packed.specs.Packed.{pack, unpacked}

-- bits 0-23 cycles, 24-55 bytes of text, 56-63 refusal
abbrev pub trace_number : (refusal cycles written : ℕ) → ℕ
trace_number n c w = c + w * 16777216 + n * 72057594037927936

pub record Spelt : Type 0 where
  pub answer : ℕ
  pub bytes : List ℕ
  pub mem : List ℕ
  pub text : List ℕ

-- 1, 2 and 3 come before the 4 of a record that isn't a packed one
abbrev pub unfit_text : (len room before budget : ℕ) → Refusal
unfit_text l t before n =
    pick (eqb l size)
    (pick (leb (before + n) most)
    (pick (leb (room_of before n) t) Malformed Room)
    Budget)
    Memory

abbrev pub spelt_to : Written → Spelt
spelt_to w = record {
  answer = trace_number (number_in w.end.refusal) (length w.end.lines) w.written;
  bytes = pack w.end.rec;
  mem = w.end.mem;
  text = w.text;
}

abbrev pub trace_from : Option Record → (b m t : List ℕ) → (before n : ℕ) → Spelt
trace_from (Some r) b m t before n = spelt_to (whole_piece before n r m t)
trace_from None b m t before n = record {
  answer = trace_number (number_of (unfit_text (length m) (length t) before n)) 0 0;
  bytes = b;
  mem = m;
  text = t;
}

unfoldable pub trace_bytes : (b m t : List ℕ) → (before n : ℕ) → Spelt
trace_bytes b m t before n = trace_from (unpacked b) b m t before n
