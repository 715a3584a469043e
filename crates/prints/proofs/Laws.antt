-- Lines that are drawn one after the other, and that they are the trace's lines.
use Prim.Native.Nat.{ℕ, suc, ◌+◌, ◌-◌, ◌%◌, ◌≤◌, ◌<◌}
use mathlib.Core.Path.{◌≡◌, refl, sym, ◌∙◌, ap, subst}
use mathlib.Core.Bool.{Bool, true, false, ◌&&◌}
use mathlib.Core.List.{List, [], ◌∷◌, ◌++◌, append_assoc}
use native.Mathlib.Omega.{arith}
use native.Mathlib.Nat.{add-zero}
use lib.Dec.{eqb, leb, ltb}
use lib.ListN.{length, length-append}
use borrow.Author.Tests.{lt-ltb, eq-eqb, le-leb, eqb-true, leb-true}
use Rattle.words.specs.Words.{pick, word, inc, up, sum16}
use Rattle.cpu.specs.declared.types.Kind.{Kind}
use Rattle.cpu.specs.declared.types.Request.{Request}
use Rattle.trace.specs.Text.{line_text, lines_text, Wrote}
use Rattle.trace.proofs.Laws.{then, wrote_none, wrote_length}
use Rattle.dial.specs.Dial.{packed, dial_of, turn_of, marks_of, tail_text, near_text, row_text}
use Rattle.dial.specs.declared.Dial.{Dial}
use Rattle.dial.proofs.Laws.{near_line, near_length, row_near, turn_on}
use Rattle.tracks.specs.Tracks.{is_direct, middles, up_to, place_by, track_lines, haul_lines}
use Rattle.tracks.specs.declared.types.Track.{Track}
use Rattle.prints.specs.Prints.{Drawn, mark, printed, turns_of, ready}
use Rattle.prints.specs.declared.Mark.{Mark}

append_nil : (x : List ℕ) → x ++ [] ≡ x
append_nil [] = refl
append_nil (c ∷ cs) = ap (λ (v : List ℕ). c ∷ v) (append_nil cs)

printed_append : (d : Dial) (xs ys : List Request) → printed d (xs ++ ys) ≡ printed d xs ++ printed (turns_of d xs) ys
printed_append d [] ys = refl
printed_append d (q ∷ xs) ys =
    let x : List ℕ = near_text d.front (d.width % 8) d.last (marks_of q.kind q.write) q.addr q.byte in
    ap (λ (v : List ℕ). x ++ v) (printed_append (turn_of d) xs ys) ∙ sym (append_assoc x (printed (turn_of d) xs) _)

turns_append : (d : Dial) (xs ys : List Request) → turns_of d (xs ++ ys) ≡ turns_of (turns_of d xs) ys
turns_append d [] ys = refl
turns_append d (q ∷ xs) ys = turns_append (turn_of d) xs ys

-- nothing drawn
pub drawn_none : (t : List ℕ) (m : Mark) → Drawn t t m m []
drawn_none t m = record { wrote = wrote_none t m.place; dial = refl; near = omega arith; size = refl }

-- one part after the other
pub drawn_then : (t t₁ t₂ : List ℕ) (m a o : Mark) (xs ys : List Request) → Drawn t t₁ m a xs → Drawn t₁ t₂ a o ys → Drawn t t₂ m o (xs ++ ys)
drawn_then t t₁ t₂ m a o xs ys p q =
    let w : Wrote t₁ t₂ a.place o.place (printed (turns_of m.dial xs) ys) =
    subst (λ (d : Dial). Wrote t₁ t₂ a.place o.place (printed d ys)) p.dial q.wrote in
    record {
      wrote = subst (Wrote t t₂ m.place o.place) (sym (printed_append m.dial xs ys)) (then p.wrote w);
      dial = q.dial ∙ ap (λ (d : Dial). turns_of d ys) p.dial ∙ sym (turns_append m.dial xs ys);
      near = omega (arith, p.near, q.near, length-append xs ys);
      size = q.size ∙ p.size;
    }

-- one line, by the dial
module _ (t t' : List ℕ) (m : Mark) (q : ℕ) (d : Dial) (k : Kind) (w : Bool) (p b : ℕ) (low : p < 65536) (small : b < 256)
    (put : Wrote t t' m.place q (row_text m.dial.front (m.dial.width % 8) m.dial.last (marks_of k w) (packed (tail_text p b)))) (turns : d ≡ turn_of m.dial) where
  abbrev line : Request
  line = record { write = w; kind = k; addr = p; byte = b }

  abbrev near : Dial → List ℕ
  near e = near_text e.front (e.width % 8) e.last (marks_of k w) p b

  near_small : length (near m.dial) ≤ 23
  near_small = omega (arith, near_length m.dial.front (m.dial.width % 8) m.dial.last (marks_of k w) p b)

  pub drawn_line : Drawn t t' m (mark d q) (line ∷ [])
  drawn_line =
      let f : Wrote t t' m.place q (near m.dial) =
      subst (Wrote t t' m.place q) (row_near m.dial.front (m.dial.width % 8) m.dial.last (marks_of k w) p b low small) put in
      record {
        wrote = subst (Wrote t t' m.place q) (sym (append_nil (near m.dial))) f;
        dial = turns;
        near = omega (arith, near_small, f.place);
        size = wrote_length f;
      }

-- none, one or two lines
pub up_to_none : (t : List ℕ) (m : Mark) (k : ℕ) (q u : Request) → k ≡ 0 → Drawn t t m m (up_to k q u)
up_to_none t m k q u e = subst (λ (j : ℕ). Drawn t t m m (up_to j q u)) (sym e) (drawn_none t m)

pub up_to_one : (t t' : List ℕ) (m o : Mark) (k : ℕ) (q u : Request) → k ≡ 1 → Drawn t t' m o (q ∷ []) → Drawn t t' m o (up_to k q u)
up_to_one t t' m o k q u e = subst (λ (j : ℕ). Drawn t t' m o (q ∷ []) → Drawn t t' m o (up_to j q u)) (sym e) (λ d. d)

pub up_to_two : (t t' : List ℕ) (m o : Mark) (k : ℕ) (q u : Request) → (k ≡ 0 → ⊥) → (k ≡ 1 → ⊥) → Drawn t t' m o (q ∷ u ∷ []) → Drawn t t' m o (up_to k q u)
up_to_two t t' m o k q u e f d =
    subst (Drawn t t' m o) (rw (lt-ltb 0 k (omega (arith, e, f)), lt-ltb 1 k (omega (arith, e, f)))) d

-- all of it, or nothing
module _ (p : ℕ) (t m : List ℕ) where
  pub ready_parts : ready p t m ≡ true → (p + 161 ≤ length t) × (length m ≡ 65536)
  ready_parts e = (leb-true _ _ (left (leb (p + 161) (length t)) (eqb (length m) 65536) e), eqb-true _ _ (right (leb (p + 161) (length t)) (eqb (length m) 65536) e))
    where
      left : (a b : Bool) → (a && b) ≡ true → a ≡ true
      left true b h = refl
      left false b h = h

      right : (a b : Bool) → (a && b) ≡ true → b ≡ true
      right true b h = h
      right false true h = refl
      right false false h = h

  ready_is : p + 161 ≤ length t → length m ≡ 65536 → ready p t m ≡ true
  ready_is h e = rw (le-leb _ _ h, eq-eqb _ _ e)

pub drawn_ready : (t t' k : List ℕ) (m o : Mark) (ls : List Request) → Drawn t t' m o (pick (ready m.place t k) ls []) → m.place + 161 ≤ length t → length k ≡ 65536
    → Drawn t t' m o ls
drawn_ready t t' k m o ls d h e = subst (λ (v : Bool). Drawn t t' m o (pick v ls [])) (ready_is m.place t k h e) d

-- ---- lines in bank 0 are the trace's

abbrev pub Small : List Request → Type 0
Small [] = Unit
Small (q ∷ qs) = (q.addr < 65536) × Small qs

pub printed_lines : (n : ℕ) (ls : List Request) → Small ls → n + length ls < 100000000 → printed (dial_of n) ls ≡ lines_text n ls
unfolding lines_text
printed_lines n [] s h = refl
printed_lines n (q ∷ qs) s h =
    let k : n + 1 ≡ suc n = omega arith in
    ap (λ (v : List ℕ). v ++ printed (turn_of (dial_of n)) qs) (near_line n q.addr q.byte q.kind q.write (omega (arith, h)) s.0)
    ∙ ap (λ (v : List ℕ). line_text n q ++ v)
    (ap (λ (d : Dial). printed d qs) (turn_on n (omega (arith, h)) ∙ ap dial_of k) ∙ printed_lines (suc n) qs s.1 (omega (arith, h)))

pub turns_lines : (n : ℕ) (ls : List Request) → n + length ls < 100000000 → turns_of (dial_of n) ls ≡ dial_of (n + length ls)
turns_lines n [] h = ap dial_of (sym (add-zero n))
turns_lines n (q ∷ qs) h =
    let k : n + 1 ≡ suc n = omega arith in
    let j : suc n + length qs ≡ n + suc (length qs) = omega arith in
    ap (λ (d : Dial). turns_of d qs) (turn_on n (omega (arith, h)) ∙ ap dial_of k) ∙ turns_lines (suc n) qs (omega (arith, h)) ∙ ap dial_of j

inc_small : (p : ℕ) → inc p < 65536
unfolding inc
inc_small p = omega arith

place_small : (direct : Bool) (d b₁ b₂ : ℕ) → b₂ < 256 → pick direct (sum16 d b₁) (word b₁ b₂) < 65536
unfolding sum16 word
place_small true d b₁ b₂ h = omega arith
place_small false d b₁ b₂ h = omega (arith, h)

pick_small : (direct : Bool) (pc : ℕ) → pick direct (up pc 1) (up pc 2) < 65536
pick_small true pc = inc_small _
pick_small false pc = inc_small _

small_both : (xs ys : List Request) → Small xs → Small ys → Small (xs ++ ys)
small_both [] ys s u = u
small_both (q ∷ xs) ys s u = (s.0, small_both xs ys s.1 u)

small_up_to : (k : ℕ) (q u : Request) → q.addr < 65536 → u.addr < 65536 → Small (up_to k q u)
small_up_to k q u h g = by (ltb 0 k) (ltb 1 k)
  where
    by : (a b : Bool) → Small (pick a (q ∷ pick b (u ∷ []) []) [])
    by true true = (h, (g, tt))
    by true false = (h, tt)
    by false b = tt

pub small_track : (t : Track) (skew : Bool) (op b₁ b₂ pc d n : ℕ) (m : List ℕ) → pc < 65536 → b₂ < 256 → Small (track_lines t skew op b₁ b₂ pc (place_by t d b₁ b₂) n m)
small_track t skew op b₁ b₂ pc d n m h g = (
  h,
  (
    inc_small pc,
    small_both (up_to (middles t skew n) _ _) _ (small_up_to (middles t skew n) _ _ (pick_small (is_direct t) pc) (pick_small (is_direct t) pc))
        (small_up_to (n - 2 - middles t skew n) _ _ (place_small (is_direct t) d b₁ b₂ g) (inc_small _)),
  ),
)

pub small_haul : (op b₁ b₂ pc x y v b : ℕ) → pc < 65536 → x < 65536 → y < 65536 → Small (haul_lines op b₁ b₂ pc x y v b)
small_haul op b₁ b₂ pc x y v b h g k = (h, (inc_small _, (inc_small _, (g, (k, (k, (k, tt)))))))
