-- How a trail after a header meets the definition of a traced piece.
use Prim.Native.Nat.{ℕ, zero, suc, ◌+◌, ◌≤◌, ◌<◌}
use Rattle.std.proofs.Common.{Err, None, Some}
use mathlib.Core.Path.{◌≡◌, refl, ◌∙◌, ap}
use mathlib.Core.Bool.{true, false}
use mathlib.Core.List.{List, [], ◌++◌}
use native.Mathlib.Omega.{arith}
use native.Mathlib.Nat.{add-zero, zero-add, suc-ne-zero}
use borrow.Author.Tests.{eq-eqb, ne_eqb, le-leb, lt-leb}
use lib.Dec.{leb, eqb}
use lib.ListN.{length, length-append}
use lib.Seq.{sets-eq}
use Rattle.words.specs.Words.{pick}
use Rattle.cpu.specs.Record.{well_formed}
use Rattle.cpu.specs.declared.types.Record.{Record}
use Rattle.cpu.specs.declared.types.Request.{Request}
use Rattle.cpu.specs.declared.types.Refusal.TheVariants.{Malformed, Memory, Budget, Room}
use Rattle.step.specs.Cycle.{micro_of}
use Rattle.memory.specs.Turns.{cycle_of}
use Rattle.trace.specs.Text.{lines_text, header, Wrote}
use Rattle.trace.proofs.Laws.{then, lines_short}
use Rattle.run.specs.Runs.{End, ends, run_of, size, most}
use Rattle.run.proofs.Laws.{run_stop, run_none}
use Rattle.run.proofs.Counted.{run_count}
use Rattle.trail.specs.Trails.{told_as, Listed}
use Rattle.trail.specs.declared.types.Told.{Told}
use Rattle.traced.specs.Traces.{head, piece_text, room_of, untouched, text_of, piece_of, whole_piece, traced_from, Tells}

-- ---- a record that isn't well formed

stopped_4 : (r : Record) (m : List ℕ) → well_formed r ≡ false → cycle_of r m ≡ Err Malformed
unfolding cycle_of micro_of
stopped_4 r m w = rw w

unfit_run : (b : ℕ) (r : Record) (m : List ℕ) → well_formed r ≡ false → run_of b r m ≡ ends (pick (eqb b 0) None (Some Malformed)) r m
unfit_run zero r m w = run_none r m
unfit_run (suc n) r m w = rw (ne_eqb (suc n) 0 (suc-ne-zero n)) (run_stop n r m Malformed (stopped_4 r m w))

-- as a trail would tell it
abbrev pub unfit_at : (p b : ℕ) → Record → Told
unfit_at p b r = told_as (pick (eqb b 0) None (Some Malformed)) 0 p r

pub unfit_listed : (b n p : ℕ) (r : Record) (m t : List ℕ) → well_formed r ≡ false → Listed (run_of b r m) n p t (unfit_at p b r) m t
unfolding lines_text
unfit_listed b n p r m t w = rw (unfit_run b r m w) (record { answer = rw add-zero; mem = refl; text = refl })

-- ---- the header, then the lines

pub piece_length : (before : ℕ) (ls : List Request) → length (piece_text before ls) ≡ length (head before) + length (lines_text (before + 1) ls)
unfolding piece_text
piece_length before ls = length-append (head before) _

pub piece_short : (before b : ℕ) (r : Record) (m : List ℕ) → before + b ≤ most → length (piece_text before (run_of b r m).lines) ≤ room_of before b
piece_short before b r m h =
    let ls = (run_of b r m).lines in
    let n : length ls ≤ b = run_count b r m in
    omega (arith, piece_length before ls, lines_short (before + 1) ls (omega arith))

pub piece_told : (before : ℕ) (e : End) (t t₀ t₁ : List ℕ) (p₀ : ℕ) (o : Told) (m : List ℕ) → Wrote t t₀ 0 p₀ (head before) → Listed e (before + 1) p₀ t₀ o m t₁ → length (piece_text before e.lines) ≤ length t → Tells (text_of before e t) (traced_from o) m t₁
unfolding piece_text
piece_told before e t t₀ t₁ p₀ o m h l f =
    let x = lines_text (before + 1) e.lines in
    let v = then {xs = head before} {ys = x} h (record { place = refl; text = l.text }) in
    let n : p₀ + length x ≡ length (head before ++ x) = omega (arith, v.place) in
    record {
      answer = ap traced_from l.answer ∙ rw n;
      mem = l.mem;
      text = v.text ∙ sets-eq (head before ++ x) t 0 (omega arith) ∙ rw zero-add;
    }

-- ---- the head alone

pub head_first : (before : ℕ) → before ≡ 0 → head before ≡ header
unfolding head
head_first before h = rw (eq-eqb before 0 h)

pub head_later : (before : ℕ) → (before ≡ 0 → ⊥) → head before ≡ []
unfolding head
head_later before h = rw (ne_eqb before 0 h)

-- ---- the refusals that come first

module _ (before b : ℕ) (r : Record) (m t : List ℕ) where
  pub refused_1 : (length m ≡ size → ⊥) → whole_piece before b r m t ≡ untouched Memory r m t
  unfolding whole_piece
  refused_1 h = simp (ne_eqb _ _ h)

  pub refused_2 : length m ≡ size → leb (before + b) most ≡ false → whole_piece before b r m t ≡ untouched Budget r m t
  unfolding whole_piece
  refused_2 h k = simp (eq-eqb _ _ h, k)

  pub refused_3 : length m ≡ size → leb (before + b) most ≡ true → length t < room_of before b → whole_piece before b r m t ≡ untouched Room r m t
  unfolding whole_piece
  refused_3 h k l = simp (eq-eqb _ _ h, k, lt-leb _ _ l)

  pub accepted : length m ≡ size → leb (before + b) most ≡ true → room_of before b ≤ length t → whole_piece before b r m t ≡ piece_of before b r m t
  unfolding whole_piece
  accepted h k l = simp (eq-eqb _ _ h, k, le-leb _ _ l)
