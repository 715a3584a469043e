-- A state's ten words, A X Y S D PC PBR DBR P E, at the places 0 5 10 15 20 25 30 33 36 39 of 40 characters.
use Rattle.std.specs.Prelude.{ℕ, ◌/◌, ◌%◌, List, [], ◌∷◌, ◌++◌, replicate}
use Rattle.words.specs.Words.{bit}
use Rattle.flags.specs.Flags as flags
use Rattle.cpu.specs.declared.types.Record.{Record}
use Rattle.trace.specs.Text.{hex_digit, hex2}
use Rattle.packed.specs.Packed.{start_of, placed}
use Rattle.lines.specs.Text.{past_of, is_at, byte_of, word_of}

-- the record of the words at a place, at an instruction's start
unfoldable pub record_of : List ℕ → ℕ → Record
record_of t at =
    start_of (word_of t at) (word_of t (past_of at 5)) (word_of t (past_of at 10)) (word_of t (past_of at 15)) (word_of t (past_of at 20)) (word_of t (past_of at 25))
    (byte_of t (past_of at 30)) (byte_of t (past_of at 33)) (byte_of t (past_of at 36)) (is_at t (past_of at 39) 49)

-- ---- the words of a record

-- four hex digits, the high ones first
abbrev pub hex4 : ℕ → List ℕ
hex4 n = hex2 (n / 256) ++ hex2 (n % 256)

-- in 40 characters
unfoldable pub words_in : List ℕ → Record → List ℕ
words_in o r =
    placed
    (placed (placed (placed
    (placed (placed (placed (placed (placed (placed o 0 (hex4 r.a)) 5 (hex4 r.x)) 10 (hex4 r.y)) 15 (hex4 r.s)) 20 (hex4 r.d)) 25 (hex4 r.pc))
    30 (hex2 r.pbr)) 33 (hex2 r.dbr)) 36 (hex2 (flags.byte_of r.flags)))
    39 (hex_digit (bit r.flags.emulation % 16) ∷ [])

-- and blanks between them
abbrev pub words_of : Record → List ℕ
words_of r = words_in (replicate 40 32) r
