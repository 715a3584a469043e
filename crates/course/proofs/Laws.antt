-- A request's characters out of a trace's line, and one turn of a case's loop.
use Prim.Native.Nat.{ℕ, zero, suc, ◌+◌, ◌/◌, ◌%◌}
use Rattle.std.proofs.Common.{Result, Ok, Err}
use mathlib.Core.Path.{◌≡◌, sym, ◌∙◌}
use mathlib.Core.List.{List, [], ◌∷◌}
use lib.ListN.{get_or, replicate}
use Rattle.cpu.specs.declared.types.Record.{Record}
use Rattle.cpu.specs.declared.types.Request.{Request}
use Rattle.trace.specs.Text.{digits_of, decimal, hex_digit, hex2, hex6, letter, direction, line_text, Put}
use Rattle.lines.specs.Text.{past_of}
use Rattle.course.specs.Course.{shown_of, request_text, turn_of, next_of, came, course_of}
use Rattle.course.specs.declared.types.Difference.{Difference}

-- the line of cycle 1 fills 16 bytes
line_chars : (q : Request) (l : List ℕ) (j : ℕ) → Put (replicate 16 0) l 0 j (line_text 1 q) → l ≡
    49 ∷ 9 ∷ letter q.kind ∷ 9 ∷ direction q.write ∷ 9
    ∷ hex_digit (q.addr / 65536 % 256 / 16) ∷ hex_digit (q.addr / 65536 % 256 % 16)
    ∷ hex_digit (q.addr / 256 % 256 / 16) ∷ hex_digit (q.addr / 256 % 256 % 16)
    ∷ hex_digit (q.addr % 256 / 16) ∷ hex_digit (q.addr % 256 % 16)
    ∷ 9 ∷ hex_digit (q.byte / 16) ∷ hex_digit (q.byte % 16) ∷ 10 ∷ []
unfolding digits_of decimal hex2 hex6 line_text
line_chars q l j p = p.text

pub request_lined : (t : List ℕ) (at : ℕ) (q : Request) {l : List ℕ} {j p h p₁ g : ℕ}
    → Put (replicate 16 0) l 0 j (line_text 1 q)
    → p ≡ past_of at 8 → h ≡ shown_of t at p q.write (get_or l 13 0)
    → p₁ ≡ past_of at 9 → g ≡ shown_of t at p₁ q.write (get_or l 14 0)
    → (get_or l 2 0 ∷ get_or l 4 0 ∷ get_or l 6 0 ∷ get_or l 7 0 ∷ get_or l 8 0 ∷ get_or l 9 0 ∷ get_or l 10 0 ∷ get_or l 11 0 ∷ h ∷ g ∷ []) ≡ request_text t at q
unfolding request_text
request_lined t at q {l} {j} u a e b f = rw (e, a, f, b, line_chars q l j u)

-- ---- n cycles are left, and m after this one

pub course_more : (n m : ℕ) (t : List ℕ) (at done p : ℕ) (r s : Record) (x : Result Record Difference) → n ≡ suc m → x ≡ turn_of t at done r → x ≡ Ok s
    → p ≡ next_of t at → course_of m t p (done + 1) s ≡ course_of n t at done r
unfolding course_of
course_more n m t at done p r s x h f k a =
    let g : turn_of t at done r ≡ Ok s = sym f ∙ k in
    rw (h, course_of, g, a)

pub course_differs : (n m : ℕ) (t : List ℕ) (at done : ℕ) (r : Record) (x : Result Record Difference) (d : Difference) → n ≡ suc m → x ≡ turn_of t at done r → x ≡ Err d
    → came x (done + 1) at ≡ course_of n t at done r
unfolding course_of
course_differs n m t at done r x d h f k =
    let g : turn_of t at done r ≡ Err d = sym f ∙ k in
    rw (h, course_of, g, k)

pub course_end : (n : ℕ) (t : List ℕ) (at done k : ℕ) (r : Record) → n ≡ zero → k ≡ done → came (Ok r) k at ≡ course_of n t at done r
unfolding course_of
course_end n t at done k r h e = rw (h, e, course_of)
