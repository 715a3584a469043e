-- The form of a line: id, source, the ten words of the start, the cycles joined by `;`, the ten words after, a blank between two fields.
-- A field that isn't as it should be ends nowhere.
use Rattle.std.specs.Prelude.{ℕ, zero, suc, ◌+◌, Bool, not, ◌&&◌, ◌||◌, List, [], ◌∷◌, length, ◌==◌, nat_le, nat_lt, Option, Some, None, unwrap_or, Result, Ok, Err}
use Rattle.lines.specs.declared.types.Fault.{Fault}
use Rattle.words.specs.Words.{pick}
use Rattle.lines.specs.Text.{past_of, byte_at, is_at, same_at, is_byte, is_word}
use Rattle.lines.specs.declared.types.Fault.TheVariants.{Length, Id, Source, Start, Cycles, After, Extra}
use Rattle.lines.specs.declared.types.Places.{Places}
use Rattle.lines.specs.declared.types.Span.{Span}

-- ---- runs of figures or letters

unfoldable pub belongs : (low high b : ℕ) → Bool
belongs low high b = nat_le low b && nat_le b high

-- where characters from low to high end, of which there are at most as many as the fuel
unfoldable pub run_end : (fuel : ℕ) → List ℕ → (at low high : ℕ) → ℕ
run_end zero t at low high = at
run_end (suc n) t at low high = pick (belongs low high (byte_at t at)) (run_end n t (past_of at 1) low high) at

-- at least one of them
unfoldable pub run_of : List ℕ → (at low high : ℕ) → Option ℕ
run_of t at low high = pick (run_end 1024 t at low high == at) None (Some (run_end 1024 t at low high))

-- ---- the id: opcode.mode.number

-- E, or M or m and X or x
unfoldable pub mode_end : List ℕ → ℕ → Option ℕ
mode_end t at =
    pick (is_at t at 69) (Some (past_of at 1))
    (pick ((is_at t at 77 || is_at t at 109) && (is_at t (past_of at 1) 88 || is_at t (past_of at 1) 120)) (Some (past_of at 2)) None)

-- the number, once it is known where the mode ends
abbrev pub number_end : List ℕ → Option ℕ → Option ℕ
number_end t None = None
number_end t (Some mode) = pick (is_at t mode 46) (run_of t (past_of mode 1) 48 57) None

unfoldable pub id_end : List ℕ → Option ℕ
id_end t = pick (is_byte t 0 && is_at t 2 46) (number_end t (mode_end t 3)) None

-- ---- the source: letters, a slash, letters or `-`

unfoldable pub kinds_end : List ℕ → ℕ → Option ℕ
kinds_end t at = pick (is_at t at 45) (Some (past_of at 1)) (run_of t at 97 122)

-- what follows the slash, once it is known where that should stand
abbrev pub slash_end : List ℕ → Option ℕ → Option ℕ
slash_end t None = None
slash_end t (Some slash) = pick (is_at t slash 47) (kinds_end t (past_of slash 1)) None

unfoldable pub source_end : List ℕ → ℕ → Option ℕ
source_end t at = slash_end t (run_of t at 97 122)

-- ---- a state: A X Y S D PC, PBR DBR P, E, in 40 characters

-- a word or a byte, and a blank
unfoldable pub is_spaced : List ℕ → ℕ → Bool
is_spaced t at = is_word t at && is_at t (past_of at 4) 32

unfoldable pub is_parted : List ℕ → ℕ → Bool
is_parted t at = is_byte t at && is_at t (past_of at 2) 32

-- three of them
unfoldable pub are_words : List ℕ → ℕ → Bool
are_words t at = (is_spaced t at && is_spaced t (past_of at 5)) && is_spaced t (past_of at 10)

unfoldable pub are_bytes : List ℕ → ℕ → Bool
are_bytes t at = (is_parted t at && is_parted t (past_of at 3)) && is_parted t (past_of at 6)

unfoldable pub is_bit : List ℕ → ℕ → Bool
is_bit t at = is_at t at 48 || is_at t at 49

unfoldable pub is_state : List ℕ → ℕ → Bool
is_state t at = (are_words t at && are_words t (past_of at 15)) && (are_bytes t (past_of at 30) && is_bit t (past_of at 39))

-- ---- cycles

-- O, P, D, I, or `-` where the line names no kind
unfoldable pub is_kind : ℕ → Bool
is_kind b = ((b == 79 || b == 80) || (b == 68 || b == 73)) || b == 45

-- I------..
unfoldable pub is_open : List ℕ → ℕ → Bool
is_open t at = same_at t at (73 ∷ 45 ∷ 45 ∷ 45 ∷ 45 ∷ 45 ∷ 45 ∷ 46 ∷ 46 ∷ [])

-- kind, R or W, address and byte
unfoldable pub is_cycle : List ℕ → ℕ → Bool
is_cycle t at =
    (is_kind (byte_at t at) && (is_at t (past_of at 1) 82 || is_at t (past_of at 1) 87))
    && (is_word t (past_of at 2) && is_word t (past_of at 6))

unfoldable pub cycle_end : List ℕ → ℕ → Option ℕ
cycle_end t at = pick (is_open t at) (Some (past_of at 9)) (pick (is_cycle t at) (Some (past_of at 10)) None)

abbrev pub spanned : (end count : ℕ) → Span
spanned e n = record { end = e; count = n }

-- cycles from a place on, joined by `;`, with so many before them; fewer than the fuel
unfoldable pub span_of : (fuel : ℕ) → List ℕ → (from count : ℕ) → Option Span
span_of zero t from count = None
span_of (suc n) t from count =
    elim (cycle_end t from) [
      | None ↦ None
      | Some e ↦ pick (is_at t e 59) (span_of n t (past_of e 1) (count + 1)) (Some (spanned e (count + 1)))
    ]

-- ---- a line

abbrev pub places : (id start cycles count after : ℕ) → Places
places i s c n a = record { id = i; start = s; cycles = c; count = n; after = a }

-- from the end of the cycles on
unfoldable pub after_read : List ℕ → (id start : ℕ) → Span → Result Places Fault
after_read t id start span =
    pick (not (is_at t span.end 32)) (Err Cycles)
    (pick (not (is_state t (past_of span.end 1))) (Err After)
    (pick (past_of (past_of span.end 1) 40 == length t) (Ok (places id start (past_of start 41) span.count (past_of span.end 1))) (Err Extra)))

abbrev pub cycles_read : List ℕ → (id start : ℕ) → Result Places Fault
cycles_read t id start = after_read t id start (unwrap_or (span_of 128 t (past_of start 41) 0) (spanned 0 0))

-- where id and source end, and the start's words; a field that ends nowhere is read on from 0, where a blank may stand
abbrev pub id : List ℕ → ℕ
id t = unwrap_or (id_end t) 0

abbrev pub source : List ℕ → ℕ
source t = unwrap_or (source_end t (past_of (id t) 1)) 0

abbrev pub words : List ℕ → ℕ
words t = past_of (source t) 1

-- where the fields stand, or the first that isn't as it should be
unfoldable pub read_of : List ℕ → (longest : ℕ) → Result Places Fault
read_of t longest =
    pick (nat_lt longest (length t)) (Err Length)
    (pick (not (is_at t (id t) 32)) (Err Id)
    (pick (not (is_at t (source t) 32)) (Err Source)
    (pick (not (is_state t (words t) && is_at t (past_of (words t) 40) 32)) (Err Start)
    (cycles_read t (id t) (words t)))))
