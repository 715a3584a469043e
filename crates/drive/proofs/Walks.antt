-- How loops of strides and of bytes of a move meet the run and its lines.
use Prim.Native.Nat.{ℕ, ◌+◌, ◌*◌, ◌-◌, ◌≤◌, ◌<◌}
use mathlib.Core.Path.{◌≡◌, refl, sym, ◌∙◌, ap, subst}
use mathlib.Core.Bool.{true}
use mathlib.Core.List.{List, [], ◌++◌}
use native.Mathlib.Omega.{arith}
use lib.ListN.{length, get_or}
use Rattle.cpu.specs.Record.{well_formed}
use Rattle.cpu.specs.declared.types.Record.{Record}
use Rattle.cpu.specs.declared.types.Request.{Request}
use Rattle.trace.specs.Text.{lines_text, Wrote}
use Rattle.trace.proofs.Laws.{then, lines_append, lines_short, wrote_none, wrote_length}
use Rattle.dial.specs.Dial.{dial_of}
use Rattle.dial.specs.declared.Dial.{Dial}
use Rattle.run.specs.Runs.{End, run_of, most}
use Rattle.run.specs.Passes.{Passes}
use Rattle.run.proofs.TwoRuns.{cut}
use Rattle.run.proofs.Whole.{passes_none, passes_both}
use Rattle.words.specs.Words.{pick, up}
use Rattle.cycles.specs.Cycles.{unaligned}
use Rattle.tracks.specs.Tracks.{track_of, stride_lines, haul_lines}
use Rattle.prints.specs.Prints.{Drawn, printed, turns_of, ready}
use Rattle.prints.specs.declared.Mark.{Mark}
use Rattle.prints.proofs.Laws.{Small, drawn_none, drawn_ready, printed_lines, turns_lines, small_track, small_haul}
use Rattle.drive.specs.Drives.{walk, Walked}
use Rattle.drive.specs.declared.types.Walk.{Walk}

-- the lines of a stretch, and of what follows it
pub lines_both : (a b : ℕ) (r s : Record) (m k : List ℕ) → Passes a r m s k → (run_of (a + b) r m).lines ≡ (run_of a r m).lines ++ (run_of b s k).lines
lines_both a b r s m k x =
    ap (λ (e : End). e.lines) (cut a b r m x.refusal)
    ∙ ap (λ (v : Record). (run_of a r m).lines ++ (run_of b v (run_of a r m).mem).lines) x.rec
    ∙ ap (λ (v : List ℕ). (run_of a r m).lines ++ (run_of b s v).lines) x.mem

pub walked_none : (r : Record) (m t : List ℕ) (n p : ℕ) → well_formed r ≡ true → Walked r m t n p (walk 0 p r) m t
unfolding run_of lines_text
walked_none r m t n p w = record { passes = passes_none r m; well = w; wrote = wrote_none t p }

-- the place after the lines, 22 bytes for one at most
pub walked_place : (r : Record) (m t : List ℕ) (n p : ℕ) (w : Walk) (m' t' : List ℕ) → n + w.cycles ≤ 10000000 → Walked r m t n p w m' t' → w.place ≤ p + 22 * w.cycles
walked_place r m t n p w m' t' h x =
    omega (arith, x.wrote.place, x.passes.count, lines_short n (run_of w.cycles r m).lines (omega (arith, h, x.passes.count)))

-- a stretch, and c cycles more, whose lines were drawn
pub walked_more : (r : Record) (m t : List ℕ) (n p a q : ℕ) (at : Record) (m₁ t₁ : List ℕ) (c : ℕ) (s : Record) (m₂ t₂ : List ℕ) (d : Mark) (o : Mark)
    → Walked r m t n p (walk a q at) m₁ t₁ → Passes c at m₁ s m₂ → well_formed s ≡ true → d.dial ≡ dial_of (n + a) → d.place ≡ q → n + a + c < 100000000
    → Small (run_of c at m₁).lines → Drawn t₁ t₂ d o (run_of c at m₁).lines → Walked r m t n p (walk (a + c) o.place s) m₂ t₂
walked_more r m t n p a q at m₁ t₁ c s m₂ t₂ d o x y w e f h g z =
    let ls : List Request = (run_of c at m₁).lines in
    let l : n + a + length ls < 100000000 = omega (arith, h, y.count) in
    let k : printed d.dial ls ≡ lines_text (n + a) ls = ap (λ (v : Dial). printed v ls) e ∙ printed_lines (n + a) ls g l in
    let v : Wrote t₁ t₂ q o.place (lines_text (n + a) ls) =
    subst (λ (i : ℕ). Wrote t₁ t₂ i o.place (lines_text (n + a) ls)) f (subst (Wrote t₁ t₂ d.place o.place) k z.wrote) in
    let i : n + a ≡ n + length (run_of a r m).lines = omega (arith, x.passes.count) in
    let u : lines_text n (run_of a r m).lines ++ lines_text (n + a) ls ≡ lines_text n (run_of (a + c) r m).lines =
    ap (λ (j : ℕ). lines_text n (run_of a r m).lines ++ lines_text j ls) i
    ∙ sym (lines_append n (run_of a r m).lines ls)
    ∙ ap (lines_text n) (sym (lines_both a c r at m m₁ x.passes)) in
    record {
      passes = passes_both a c r at s m m₁ m₂ x.passes y;
      well = w;
      wrote = subst (Wrote t t₂ p o.place) u (then x.wrote v);
    }

no_lines : (r : Record) (m : List ℕ) → (run_of 0 r m).lines ≡ []
unfolding run_of
no_lines r m = refl

-- ---- the lines of a pace
module _ (r : Record) (m t : List ℕ) (k : Mark) (c : ℕ) where
  -- where room and memory let them be drawn
  module _ (m' t' : List ℕ) (o : Mark) (ls : List Request) (e : (run_of c r m).lines ≡ ls) where
    pub drawn_all : k.place + 161 ≤ length t → length m' ≡ 65536 → Drawn t t' k o (pick (ready k.place t m') ls []) → Drawn t t' k o (run_of c r m).lines
    drawn_all room whole d = subst (Drawn t t' k o) (sym e) (drawn_ready t t' m' k o ls d room whole)

  -- without a cycle
  module _ (z : c ≡ 0) where
    none_of : (run_of c r m).lines ≡ []
    none_of = ap (λ (i : ℕ). (run_of i r m).lines) z ∙ no_lines r m

    pub drawn_nothing : Drawn t t k k (run_of c r m).lines
    drawn_nothing = subst (Drawn t t k k) (sym none_of) (drawn_none t k)

    pub small_nothing : Small (run_of c r m).lines
    small_nothing = subst Small (sym none_of) tt

module _ (r : Record) (m m' : List ℕ) (c : ℕ) where
  abbrev byte_lines : List Request
  byte_lines = haul_lines (get_or m r.pc 0) (get_or m (up r.pc 1) 0) (get_or m (up r.pc 2) 0) r.pc r.x r.y (get_or m r.x 0) (get_or m' r.y 0)

  pub small_stride : (run_of c r m).lines ≡ stride_lines r m m' c → r.pc < 65536 → get_or m (up r.pc 2) 0 < 256 → Small (run_of c r m).lines
  small_stride e pc byte =
      subst Small (sym e)
      (small_track (track_of (get_or m r.pc 0)) (unaligned r.d) (get_or m r.pc 0) (get_or m (up r.pc 1) 0) (get_or m (up r.pc 2) 0) r.pc r.d c m' pc byte)

  pub small_byte : (run_of c r m).lines ≡ byte_lines → (r.pc < 65536) × (r.x < 65536) × (r.y < 65536) → Small (run_of c r m).lines
  small_byte e z =
      subst Small (sym e)
      (small_haul (get_or m r.pc 0) (get_or m (up r.pc 1) 0) (get_or m (up r.pc 2) 0) r.pc r.x r.y (get_or m r.x 0) (get_or m' r.y 0) z.0 z.1 z.2)

-- a loop that counts what is left of its budget down
module _ (b l n p : ℕ) (r at : Record) (m₀ t₀ m t : List ℕ) (k : Mark) (fits : l ≤ b) (few : n + b ≤ most + 1)
    (so_far : Walked r m₀ t₀ n p (walk (b - l) k.place at) m t) (shows : k.dial ≡ dial_of (n + (b - l))) where
  -- so much room is left
  pub room_left : p + 22 * b ≤ length t₀ → k.place + 22 * l ≤ length t
  room_left h =
      omega (arith, h, fits, few, walked_place r m₀ t₀ n p (walk (b - l) k.place at) m t (omega (arith, few)) so_far, wrote_length so_far.wrote)

  -- c cycles more
  walked_by : (c : ℕ) (s : Record) (m' t' : List ℕ) (o : Mark) (ls : List Request) → c ≤ l → Passes c at m s m' → well_formed s ≡ true
      → (run_of c at m).lines ≡ ls → Small ls → Drawn t t' k o ls → Walked r m₀ t₀ n p (walk (b - (l - c)) o.place s) m' t'
  walked_by c s m' t' o ls h x w e g d =
      let j : b - l + c ≡ b - (l - c) = omega (arith, h, fits) in
      subst (λ (i : ℕ). Walked r m₀ t₀ n p (walk i o.place s) m' t') j
      (walked_more r m₀ t₀ n p (b - l) k.place at m t c s m' t' k o so_far x w shows refl (omega (arith, few, fits, h)) (subst Small (sym e) g)
      (subst (Drawn t t' k o) (sym e) d))

  shows_by : (c : ℕ) (s : Record) (m' t' : List ℕ) (o : Mark) (ls : List Request) → c ≤ l → Passes c at m s m' → (run_of c at m).lines ≡ ls
      → Drawn t t' k o ls → o.dial ≡ dial_of (n + (b - (l - c)))
  shows_by c s m' t' o ls h x e d =
      let q : length ls ≡ c = ap length (sym e) ∙ x.count in
      let j : n + (b - l) + length ls ≡ n + (b - (l - c)) = omega (arith, h, fits, q) in
      d.dial ∙ ap (λ (v : Dial). turns_of v ls) shows ∙ turns_lines (n + (b - l)) ls (omega (arith, few, fits, h, q)) ∙ ap dial_of j

  -- the same as they were drawn
  module _ (c : ℕ) (s : Record) (m' t' : List ℕ) (o : Mark) (h : c ≤ l) (x : Passes c at m s m') (d : Drawn t t' k o (run_of c at m).lines) where
    pub walked_on : well_formed s ≡ true → Small (run_of c at m).lines → Walked r m₀ t₀ n p (walk (b - (l - c)) o.place s) m' t'
    walked_on w g = walked_by c s m' t' o (run_of c at m).lines h x w refl g d

    pub shows_on : o.dial ≡ dial_of (n + (b - (l - c)))
    shows_on = shows_by c s m' t' o (run_of c at m).lines h x refl d

    -- and none more
    pub walked_stop : (w : Walk) → well_formed s ≡ true → Small (run_of c at m).lines → c ≡ 0 → w ≡ walk (b - l) o.place s → Walked r m₀ t₀ n p w m' t'
    walked_stop w v g z e =
        let j : b - (l - c) ≡ b - l = omega (arith, z) in
        subst (λ (i : Walk). Walked r m₀ t₀ n p i m' t') (ap (λ (i : ℕ). walk i o.place s) j ∙ sym e) (walked_on v g)

-- from a record that is the same
pub walked_from : (r s : Record) (m t : List ℕ) (n p : ℕ) (w : Walk) (m' t' : List ℕ) → s ≡ r → Walked s m t n p w m' t' → Walked r m t n p w m' t'
walked_from r s m t n p w m' t' e x = subst (λ (v : Record). Walked v m t n p w m' t') e x

-- before the first
pub shows_start : (b n : ℕ) (d : Dial) → d ≡ dial_of n → d ≡ dial_of (n + (b - b))
shows_start b n d e = let j : n ≡ n + (b - b) = omega arith in e ∙ ap dial_of j

pub walked_start : (b : ℕ) (r : Record) (m t : List ℕ) (n p q : ℕ) → q ≡ p → well_formed r ≡ true → Walked r m t n p (walk (b - b) q r) m t
walked_start b r m t n p q e w =
    let j : 0 ≡ b - b = omega arith in
    subst (λ (v : Walk). Walked r m t n p v m t) (ap (λ (i : ℕ). walk i p r) j ∙ ap (λ (i : ℕ). walk (b - b) i r) (sym e)) (walked_none r m t n p w)
