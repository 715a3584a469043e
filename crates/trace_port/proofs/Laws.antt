-- What glavorint_trace comes to, by what the bytes are found to be.
use Prim.Native.Nat.{ℕ, ◌+◌, ◌≤◌, ◌<◌}
use Rattle.std.proofs.Common.{Option, Some, None}
use mathlib.Core.Path.{◌≡◌, refl}
use mathlib.Core.Bool.{Bool, true, false}
use mathlib.Core.List.{List, []}
use native.Mathlib.Omega.{arith}
use borrow.Author.Tests.{eq-eqb, ne_eqb, le-leb, lt-leb, leb-true}
use lib.Dec.{eqb, leb}
use lib.ListN.{length}
use Rattle.words.specs.Words.{pick}
use Rattle.cpu.specs.declared.types.Record.{Record}
use Rattle.packed.specs.Packed.{unpacked}
use Rattle.cpu.specs.Record.{number_of}
use Rattle.cpu.specs.declared.types.Refusal.{Refusal}
use Rattle.cpu.specs.declared.types.Refusal.TheVariants.{Memory, Budget, Room, Malformed}
use Rattle.trace.specs.Text.{header}
use Rattle.run.specs.Runs.{size, most}
use Rattle.traced.specs.Traces.{Written, head, room_of, untouched, piece_of, whole_piece}
use Rattle.run.proofs.Counted.{run_count}
use Rattle.traced.proofs.Laws.{piece_short}
use Rattle.trace_port.specs.Port.{trace_bytes, trace_number, unfit_text, spelt_to}

module _ (b m t : List ℕ) (before n : ℕ) (u : Option Record) (e : u ≡ unpacked b) where
  pub trace_bad : u ≡ None → trace_bytes b m t before n ≡ record { answer = trace_number (number_of (unfit_text (length m) (length t) before n)) 0 0; bytes = b; mem = m; text = t }
  unfolding trace_bytes
  trace_bad h = rw (← e, h)

  pub trace_good : (r : Record) → u ≡ Some r → trace_bytes b m t before n ≡ spelt_to (whole_piece before n r m t)
  unfolding trace_bytes
  trace_good r h = rw (← e, h)

-- why a record that isn't a packed one isn't run
module _ (l t before n : ℕ) where
  pub text_1 : (l ≡ size → ⊥) → unfit_text l t before n ≡ Memory
  text_1 h = simp (ne_eqb _ _ h)

  pub text_2 : l ≡ size → most < before + n → unfit_text l t before n ≡ Budget
  text_2 h k = simp (eq-eqb _ _ h, lt-leb _ _ k)

  pub text_3 : l ≡ size → before + n ≤ most → t < room_of before n → unfit_text l t before n ≡ Room
  text_3 h k r = simp (eq-eqb _ _ h, le-leb _ _ k, lt-leb _ _ r)

  pub text_4 : l ≡ size → before + n ≤ most → room_of before n ≤ t → unfit_text l t before n ≡ Malformed
  text_4 h k r = simp (eq-eqb _ _ h, le-leb _ _ k, le-leb _ _ r)

-- cycles and bytes of text fit their fields
abbrev Fits : Written → Type 0
Fits w = (length w.end.lines < 16777216) × (w.written < 4294967296)

fits_pick : (t : Bool) (v w : Written) → (t ≡ true → Fits v) → Fits w → Fits (pick t v w)
fits_pick true v w f g = f refl
fits_pick false v w f g = g

picked_head : (t : Bool) → length (pick t header []) ≤ 6
picked_head true = omega arith
picked_head false = omega arith

head_short : (before : ℕ) → length (head before) ≤ 6
unfolding head
head_short before = picked_head (eqb before 0)

module _ (before n : ℕ) (r : Record) (m t : List ℕ) where
  none : (k : Refusal) → Fits (untouched k r m t)
  none k = (omega arith, omega arith)

  some : leb (before + n) most ≡ true → Fits (piece_of before n r m t)
  some h =
      let k : before + n ≤ most = leb-true (before + n) most h in
      (omega (arith, run_count n r m), omega (arith, piece_short before n r m k, head_short before))

  pub fits : Fits (whole_piece before n r m t)
  unfolding whole_piece
  fits =
      fits_pick (eqb (length m) size) _ (untouched Memory r m t)
      (λ h. fits_pick (leb (before + n) most) _ (untouched Budget r m t)
      (λ k. fits_pick (leb (room_of before n) (length t)) (piece_of before n r m t) (untouched Room r m t) (λ l. some k) (none Room))
      (none Budget))
      (none Memory)
