-- How the line is written: words put into a text of 61 spaces, in five steps. `line_of_steps` says that they come to `line_of`.
use Rattle.std.specs.Prelude.{ℕ, List}
use Rattle.packed.specs.Packed.{placed}
use Rattle.slip.specs.Slip.{four, two, one}

unfoldable pub with_registers : (b t : List ℕ) → List ℕ
with_registers b t = placed (placed (placed t 0 (four b 4)) 5 (four b 6)) 10 (four b 8)

unfoldable pub with_pointers : (b t : List ℕ) → List ℕ
with_pointers b t = placed (placed (placed t 15 (four b 10)) 20 (four b 12)) 25 (four b 14)

unfoldable pub with_status : (b t : List ℕ) → List ℕ
with_status b t = placed (placed (placed (placed t 30 (two b 16)) 33 (two b 17)) 36 (two b 18)) 39 (one b 19)

unfoldable pub with_held : (b t : List ℕ) → List ℕ
with_held b t = placed (placed (placed t 41 (one b 1)) 43 (two b 2)) 46 (two b 3)

unfoldable pub with_scratch : (b t : List ℕ) → List ℕ
with_scratch b t = placed (placed (placed t 49 (four b 20)) 54 (four b 22)) 59 (two b 24)
