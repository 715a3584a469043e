-- What a traced piece has to do with a run, how much it writes, and that pieces in a row make one.
use Prim.Native.Nat.{ℕ, ◌+◌, ◌≤◌, ◌<◌}
use Rattle.std.proofs.Common.{Some, None}
use Rattle.cpu.specs.declared.types.Refusal.TheVariants.{Memory, Room, Budget}
use mathlib.Core.Path.{◌≡◌, refl, sym, ◌∙◌, ap}
use mathlib.Core.Bool.{Bool, true, false}
use mathlib.Core.List.{List, [], ◌++◌, append_assoc}
use native.Mathlib.Omega.{arith}
use native.Mathlib.Nat.{zero-add}
use borrow.Author.Tests.{eqb-true, leb-true, le-leb}
use lib.Dec.{leb, eqb}
use lib.ListN.{length, take, drop, length-append}
use lib.Seq.{take-append_seam}
use Rattle.words.specs.Words.{pick}
use Rattle.cpu.specs.declared.types.Record.{Record}
use Rattle.cpu.specs.declared.types.Request.{Request}
use Rattle.trace.specs.Text.{lines_text}
use Rattle.trace.proofs.Laws.{lines_append}
use Rattle.run.proofs.Counted.{refusal_some}
use Rattle.run.specs.Runs.{End, ends, joined, run_of, whole_run, size, most}
use Rattle.run.proofs.TwoRuns.{cut}
use Rattle.traced.specs.Traces.{head, piece_text, room_of, Written, untouched, text_of, piece_of, whole_piece}
use Rattle.run.proofs.Counted.{run_size, run_all}
use Rattle.traced.proofs.Laws.{piece_short, head_later, accepted}

-- ---- a traced run is the run

ends_alike_lem : (x y : Bool) (e : End) (r : Record) (m t : List ℕ) → (pick x (pick y (text_of 0 e t) (untouched Budget r m t)) (untouched Memory r m t)).end ≡ pick x (pick y e (ends (Some Budget) r m)) (ends (Some Memory) r m)
ends_alike_lem true true e r m t = refl
ends_alike_lem true false e r m t = refl
ends_alike_lem false y e r m t = refl

-- where there is room for the text, whatever memory and budget are: number, record, memory and lines are those of the run without a trace
pub same_run : (b : ℕ) (r : Record) (m t : List ℕ) → room_of 0 b ≤ length t → (whole_piece 0 b r m t).end ≡ whole_run b r m
unfolding whole_piece whole_run
same_run b r m t h = rw (le-leb _ _ h, zero-add b) (ends_alike_lem (eqb (length m) size) (leb b most) (run_of b r m) r m t)

-- ---- the room is enough

enough : (x y z : Bool) (before b : ℕ) (r : Record) (m t : List ℕ) → leb (before + b) most ≡ y
    → (pick x (pick y (pick z (piece_of before b r m t) (untouched Room r m t)) (untouched Budget r m t)) (untouched Memory r m t)).written ≤ room_of before b
enough true true true before b r m t h = piece_short before b r m (leb-true _ _ h)
enough true true false before b r m t h = omega arith
enough true false z before b r m t h = omega arith
enough false y z before b r m t h = omega arith

-- a piece never writes more than the room that it asks for, refused or not
pub text_enough : (before b : ℕ) (r : Record) (m t : List ℕ) → (whole_piece before b r m t).written ≤ room_of before b
unfolding whole_piece
text_enough before b r m t = enough (eqb (length m) size) (leb (before + b) most) (leb (room_of before b) (length t)) before b r m t refl

-- ---- pieces in a row

-- memory, budget and room as the refusals 1, 2 and 3 ask
pub record Good (before b : ℕ) (m t : List ℕ) : Type 0 where
  pub memory : length m ≡ size
  pub budget : before + b ≤ most
  pub room : room_of before b ≤ length t

good : (x y z : Bool) (before b : ℕ) (r : Record) (m t : List ℕ) → eqb (length m) size ≡ x → leb (before + b) most ≡ y → leb (room_of before b) (length t) ≡ z
    → (pick x (pick y (pick z (piece_of before b r m t) (untouched Room r m t)) (untouched Budget r m t)) (untouched Memory r m t)).end.refusal ≡ None → Good before b m t
good true true true before b r m t e f g h = record { memory = eqb-true _ _ e; budget = leb-true _ _ f; room = leb-true _ _ g }
good true true false before b r m t e f g h = absurd (refusal_some Room h)
good true false z before b r m t e f g h = absurd (refusal_some Budget h)
good false y z before b r m t e f g h = absurd (refusal_some Memory h)

-- a piece that isn't refused had all three
pub not_refused : (before b : ℕ) (r : Record) (m t : List ℕ) → (whole_piece before b r m t).end.refusal ≡ None → Good before b m t
unfolding whole_piece
not_refused before b r m t h = good (eqb (length m) size) (leb (before + b) most) (leb (room_of before b) (length t)) before b r m t refl refl refl h

pub good_piece : (before b : ℕ) (r : Record) (m t : List ℕ) → Good before b m t → whole_piece before b r m t ≡ piece_of before b r m t
good_piece before b r m t g = accepted before b r m t g.memory (le-leb _ _ g.budget) g.room

-- the lines of a, then of b, after `before` cycles, a being of at least one cycle or not the first: else the header would stand twice
text_joined : (before : ℕ) (a b : List Request) → 0 < before + length a → piece_text before a ++ piece_text (before + length a) b ≡ piece_text before (a ++ b)
unfolding piece_text
text_joined before a b h =
    let n : before + length a + 1 ≡ before + 1 + length a = omega arith in
    let z : head (before + length a) ≡ [] = head_later _ (λ e. omega (arith, e)) in
    rw (z, n, append_assoc (head before) (lines_text (before + 1) a) _) (ap (λ (x : List ℕ). head before ++ x) (sym (lines_append (before + 1) a b)))

-- the text of j cycles, not refused, and then of n is the text of j + n. With before 0 and j 0 the first piece would be the header alone and the
-- second would write it again: that is why 0 < before + j.
pub texts_joined : (before j n : ℕ) (r : Record) (m : List ℕ) → (run_of j r m).refusal ≡ None → 0 < before + j
    → piece_text before (run_of j r m).lines ++ piece_text (before + j) (run_of n (run_of j r m).rec (run_of j r m).mem).lines ≡ piece_text before (run_of (j + n) r m).lines
texts_joined before j n r m h k =
    let e = run_all j r m h in
    let x = text_joined before (run_of j r m).lines (run_of n (run_of j r m).rec (run_of j r m).mem).lines (omega (arith, e)) in
    rw (cut j n r m h) (rw e at x)

-- the piece that goes on where u ended, after `before` cycles
abbrev pub onward : (before n : ℕ) → Written → (t : List ℕ) → Written
onward before n u t = whole_piece before n u.end.rec u.end.mem t

-- u and then v are w: the ends joined, and the texts at the front of the three buffers, byte for byte
pub record Joined (u v w : Written) : Type 0 where
  pub end : w.end ≡ joined u.end v.end
  pub written : w.written ≡ u.written + v.written
  pub text : take w.written w.text ≡ take u.written u.text ++ take v.written v.text

joined_pieces : (before j n : ℕ) (r : Record) (m t₁ t₂ t : List ℕ) → (run_of j r m).refusal ≡ None → 0 < before + j
    → Joined (piece_of before j r m t₁) (piece_of (before + j) n (run_of j r m).rec (run_of j r m).mem t₂) (piece_of before (j + n) r m t)
joined_pieces before j n r m t₁ t₂ t h k =
    let a = piece_text before (run_of j r m).lines in
    let b = piece_text (before + j) (run_of n (run_of j r m).rec (run_of j r m).mem).lines in
    let x = piece_text before (run_of (j + n) r m).lines in
    let e : a ++ b ≡ x = texts_joined before j n r m h k in
    record {
      end = cut j n r m h;
      written = ap length (sym e) ∙ length-append a b;
      text = rw (take-append_seam x (drop (length x) t), take-append_seam a (drop (length a) t₁), take-append_seam b (drop (length b) t₂)) (sym e);
    }

-- A piece of j cycles that ends with number 0, and one of n that goes on where it ended, are one piece of j + n; each in a buffer of its own
-- that has room. The second may end by a refusal of a cycle, 4 to 7: so does the one. Why 0 < before + j is said above.
pub pieces_joined : (before j n : ℕ) (r : Record) (m t₁ t₂ t : List ℕ)
    → (whole_piece before j r m t₁).end.refusal ≡ None
    → 0 < before + j
    → before + j + n ≤ most
    → room_of (before + j) n ≤ length t₂
    → room_of before (j + n) ≤ length t
    → Joined (whole_piece before j r m t₁) (onward (before + j) n (whole_piece before j r m t₁) t₂) (whole_piece before (j + n) r m t)
pieces_joined before j n r m t₁ t₂ t h k q room₂ room =
    let g = not_refused before j r m t₁ h in
    let e = good_piece before j r m t₁ g in
    let g₂ : Good (before + j) n (run_of j r m).mem t₂ = record { memory = run_size j r m ∙ g.memory; budget = q; room = room₂ } in
    let g₃ : Good before (j + n) m t = record { memory = g.memory; budget = omega arith; room = room } in
    rw (e, good_piece (before + j) n (run_of j r m).rec (run_of j r m).mem t₂ g₂, good_piece before (j + n) r m t g₃) (joined_pieces before j n r m t₁ t₂ t (rw e at h) k)
