-- How a loop of strides, which counts what is left of its budget down, meets the cycles that it does.
use Prim.Native.Nat.{ℕ, ◌+◌, ◌-◌, ◌/◌, ◌≤◌, ◌<◌}
use mathlib.Core.Path.{◌≡◌, refl, ap, sym, subst, ◌∙◌}
use mathlib.Core.Bool.{Bool, true, false, not, ◌&&◌}
use mathlib.Core.List.{List}
use native.Mathlib.Omega.{arith}
use lib.ListN.{length, length-append}
use lib.Dec.{eqb}
use borrow.Author.Tests.{eqb-true}
use Rattle.words.specs.Words.{implied}
use Rattle.cpu.specs.Record.{well_formed, narrowed, boundary, clean}
use Rattle.sheet.proofs.Walk.{false_true, and_left, and_right}
use Rattle.cpu.specs.declared.types.Record.{Record}
use Rattle.run.specs.Runs.{End, joined, run_of}
use Rattle.stride.specs.Strides.{fresh, stretch}
use Rattle.run.specs.Passes.{Passes, Goes}
use Rattle.stride.specs.declared.types.Stretch.{Stretch}
use Rattle.run.proofs.Laws.{Left}
use Rattle.run.proofs.TwoRuns.{cut}
use Rattle.run.proofs.Whole.{passes_none, passes_both}

none_left : (b : ℕ) → b - b ≡ 0
none_left b = omega arith

pub no_stride : (b : ℕ) (r : Record) (m : List ℕ) → Passes (b - b) r m r m
no_stride b r m = subst (λ (n : ℕ). Passes n r m r m) (sym (none_left b)) (passes_none r m)

module _ (b l : ℕ) (r at : Record) (m k : List ℕ) (fits : l ≤ b) (some : 0 < l) (so_far : Passes (b - l) r m at k) where
  -- a stride more
  pub strode : (n : ℕ) (s : Record) (k' : List ℕ) → n ≤ l → Passes n at k s k' → Passes (b - (l - n)) r m s k'
  strode n s k' h p =
      let e : (b - l) + n ≡ b - (l - n) = omega (arith, h, fits) in
      subst (λ (j : ℕ). Passes j r m s k') e (passes_both (b - l) n r at s m k k' so_far p)

  -- none more
  pub stopped : (t u : Stretch) (k' : List ℕ) → Goes at k t k' → t.cycles ≡ 0 → u ≡ stretch (b - l) t.after → Goes r m u k' × (u.cycles < b)
  stopped t u k' g z e =
      let p : Passes 0 at k t.after k' = subst (λ (j : ℕ). Passes j at k t.after k') z g.0 in
      let n : (b - l) + 0 ≡ b - l = omega arith in
      let q : Passes (b - l) r m t.after k' = subst (λ (j : ℕ). Passes j r m t.after k') n (passes_both (b - l) 0 r at t.after m k k' so_far p) in
      subst (λ (v : Stretch). Goes r m v k' × (v.cycles < b)) (sym e) ((q, g.1), omega (arith, fits, some))

  pub walked : (u : Stretch) → well_formed at ≡ true → u ≡ stretch (b - l) at → Goes r m u k × (u.cycles < b)
  walked u w e = subst (λ (v : Stretch). Goes r m v k × (v.cycles < b)) (sym e) ((so_far, w), omega (arith, fits, some))

-- ---- what a fresh record has anyway
module _ (r : Record) (well : well_formed r ≡ true) (start : fresh r ≡ true) where
  abbrev made : (pbr : ℕ) → (held : Bool) → (ir tcu addr dat bank : ℕ) → Record
  made p h i t x y z = record {
    a = r.a;
    x = r.x;
    y = r.y;
    s = r.s;
    d = r.d;
    pc = r.pc;
    pbr = p;
    dbr = r.dbr;
    flags = r.flags;
    held = h;
    ir = i;
    tcu = t;
    tempaddr = x;
    tempdata = y;
    tempbank = z;
  }

  one : (eqb r.pbr 0 && not r.held) ≡ true
  one = and_left (eqb r.pbr 0 && not r.held) (eqb r.ir 0 && eqb r.tcu 0) start

  two : (eqb r.ir 0 && eqb r.tcu 0) ≡ true
  two = and_right (eqb r.pbr 0 && not r.held) (eqb r.ir 0 && eqb r.tcu 0) start

  not_held : (h : Bool) → not h ≡ true → h ≡ false
  not_held false e = refl
  not_held true e = absurd (false_true e)

  unheld : r.held ≡ false
  unheld = not_held r.held (and_right (eqb r.pbr 0) (not r.held) one)

  scratch : (eqb r.tempaddr 0 && (eqb r.tempdata 0 && eqb r.tempbank 0)) ≡ true
  unfolding well_formed
  scratch =
      and_left (eqb r.tempaddr 0 && (eqb r.tempdata 0 && eqb r.tempbank 0)) (implied r.flags.emulation (eqb (r.s / 256) 1))
      (rw unheld at (and_right (narrowed r.flags r.x r.y)
      (implied (boundary r.held r.ir r.tcu) (clean r.flags.emulation r.s r.tempaddr r.tempdata r.tempbank)) well))

  pub cleared_is : made 0 false 0 0 0 0 0 ≡ r
  cleared_is =
      let p : r.pbr ≡ 0 = eqb-true _ _ (and_left (eqb r.pbr 0) (not r.held) one) in
      let i : r.ir ≡ 0 = eqb-true _ _ (and_left (eqb r.ir 0) (eqb r.tcu 0) two) in
      let t : r.tcu ≡ 0 = eqb-true _ _ (and_right (eqb r.ir 0) (eqb r.tcu 0) two) in
      let x : r.tempaddr ≡ 0 = eqb-true _ _ (and_left (eqb r.tempaddr 0) (eqb r.tempdata 0 && eqb r.tempbank 0) scratch) in
      let q : (eqb r.tempdata 0 && eqb r.tempbank 0) ≡ true = and_right (eqb r.tempaddr 0) (eqb r.tempdata 0 && eqb r.tempbank 0) scratch in
      let y : r.tempdata ≡ 0 = eqb-true _ _ (and_left (eqb r.tempdata 0) (eqb r.tempbank 0) q) in
      let z : r.tempbank ≡ 0 = eqb-true _ _ (and_right (eqb r.tempdata 0) (eqb r.tempbank 0) q) in
      let e : made 0 false 0 0 0 0 0 ≡ made r.pbr r.held r.ir r.tcu r.tempaddr r.tempdata r.tempbank = rw (p, unheld, i, t, x, y, z) in
      e

-- ---- the run's loop: what is left of it after a stretch
pub left_ahead : (b d n : ℕ) (w : End) (r s : Record) (m k : List ℕ) → n < b - d → Passes n r m s k → Left d w (run_of (b - d) r m) → Left (d + n) w (run_of (b - (d + n)) s k)
left_ahead b d n w r s m k h p a =
    let e : b - d ≡ n + (b - (d + n)) = omega (arith, h) in
    let j : run_of (b - d) r m ≡ joined (run_of n r m) (run_of (b - (d + n)) s k) =
    ap (λ (i : ℕ). run_of i r m) e
    ∙ cut n (b - (d + n)) r m p.refusal
    ∙ ap (λ (v : Record). joined (run_of n r m) (run_of (b - (d + n)) v (run_of n r m).mem)) p.rec
    ∙ ap (λ (v : List ℕ). joined (run_of n r m) (run_of (b - (d + n)) s v)) p.mem in
    let a' : Left d w (joined (run_of n r m) (run_of (b - (d + n)) s k)) = subst (Left d w) j a in
    let c : length (joined (run_of n r m) (run_of (b - (d + n)) s k)).lines ≡ n + length (run_of (b - (d + n)) s k).lines =
    length-append (run_of n r m).lines (run_of (b - (d + n)) s k).lines ∙ ap (λ (i : ℕ). i + length (run_of (b - (d + n)) s k).lines) p.count in
    record { refusal = a'.refusal; rec = a'.rec; mem = a'.mem; count = a'.count ∙ omega (arith, c) }
