-- What the lines of a list come to, in numbers of 64 bits.
use Rattle.std.specs.Prelude.{ℕ, ◌+◌, ◌%◌, ◌^◌}
use Rattle.lines.specs.declared.types.Tally.{Tally}

abbrev pub tallied : (number size agree differ bad : ℕ) → Tally
tallied n s a d b = record { number = n; size = s; agree = a; differ = d; bad = b }

-- cases and malformed lines
unfoldable pub lines_of : Tally → ℕ
lines_of t = ((t.agree + t.differ) % 2 ^ 64 + t.bad) % 2 ^ 64
