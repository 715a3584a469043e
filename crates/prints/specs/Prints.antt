-- Lines in a text by a dial, which turns on with each of them.
use Rattle.std.specs.Prelude.{ℕ, ◌+◌, ◌*◌, ◌%◌, ◌≤◌, ◌≡◌, Bool, ◌&&◌, List, [], ◌∷◌, ◌++◌, eqb, leb, length}
use Rattle.cpu.specs.declared.types.Request.{Request}
use Rattle.trace.specs.Text.{Wrote}
use Rattle.dial.specs.Dial.{marks_of, near_text, turn_of}
use Rattle.dial.specs.declared.Dial.{Dial}
use Rattle.prints.specs.declared.Mark.{Mark}

abbrev pub mark : Dial → (place : ℕ) → Mark
mark d p = record { dial = d; place = p }

-- the lines' text from a dial on, and the dial after them
abbrev pub printed : Dial → List Request → List ℕ
printed d [] = []
printed d (q ∷ qs) = near_text d.front (d.width % 8) d.last (marks_of q.kind q.write) q.addr q.byte ++ printed (turn_of d) qs

abbrev pub turns_of : Dial → List Request → Dial
turns_of d [] = d
turns_of d (q ∷ qs) = turns_of (turn_of d) qs

-- the lines ls were written into t, which is t' since, from the mark m on up to the mark o: 23 bytes a line at most
pub record Drawn (t t' : List ℕ) (m o : Mark) (ls : List Request) : Type 0 where
  pub wrote : Wrote t t' m.place o.place (printed m.dial ls)
  pub dial : o.dial ≡ turns_of m.dial ls
  pub near : o.place ≤ m.place + 23 * length ls
  pub size : length t' ≡ length t

-- room for seven such lines at a place of t, and a memory of 65,536 bytes
abbrev pub ready : (place : ℕ) → (t m : List ℕ) → Bool
ready p t m = leb (p + 161) (length t) && eqb (length m) 65536
