-- MVN and MVP from the first byte to the last: byte after byte the sheet's row, A + 1 times.
use Prim.Native.Nat.{ℕ, zero, suc, ◌+◌, ◌*◌, ◌/◌, ◌<◌}
use Rattle.cpu.specs.declared.types.Refusal.{Refusal}
use Rattle.std.proofs.Common.{Some, Result, Ok}
use native.Mathlib.Nat.{not-suc-le-zero}
use native.Mathlib.Omega.{arith}
use mathlib.Core.Path.{◌≡◌, refl, ap, sym, subst, ◌∙◌}
use mathlib.Core.Bool.{Bool, true, false, ◌&&◌, ◌||◌}
use mathlib.Core.List.{List, ◌++◌}
use lib.Dec.{eqb}
use lib.ListN.{length}
use borrow.Author.Tests.{eqb-true, ne_eqb}
use Rattle.words.specs.Words.{implied, dec, up, page_one, index}
use Rattle.cpu.specs.Registers.{stepped, moves}
use Rattle.flags.specs.declared.Flags.{Flags}
use Rattle.cpu.specs.Record.{boundary, narrowed, clean, well_formed, regs_of, ended}
use Rattle.cpu.specs.declared.types.Record.{Record}
use Rattle.cpu.specs.declared.types.Request.{Request}
use Rattle.opcodes.specs.Opcodes.{decode_of, flag_in}
use Rattle.opcodes.specs.declared.types.Operation.{Operation}
use Rattle.opcodes.specs.declared.types.Shape.TheVariants.{Move}
use Rattle.sheet.specs.Run.{Ran, run}
use Rattle.sheet.specs.Sheet.{sheet, row, instruction}
use Rattle.sheet.specs.Moves.{go_on, others, run_move, index_after, moved, x_after, y_after, seven, sevens, whole_move}
use Rattle.sheet.proofs.Walk.{and_left, and_right, false_true}
use Rattle.sheet.proofs.Demand2.{demand_2, instead, between_bytes}
use Rattle.sheet.proofs.Kept.{well_ended}

-- ---- what an end would make so is so already
record Tidy (r : Record) : Type 0 where
  m : (r.flags.emulation || r.flags.memsel) ≡ r.flags.memsel
  x : (r.flags.emulation || r.flags.indexsel) ≡ r.flags.indexsel
  home : page_one r.flags.emulation r.s ≡ r.s

width_set : (e t u : Bool) → implied e (t && u) ≡ true → (e || t) ≡ t
width_set true t u h = sym (and_left t u h)
width_set false t u h = refl

width_set_too : (e t u : Bool) → implied e (t && u) ≡ true → (e || u) ≡ u
width_set_too true t u h = sym (and_right t u h)
width_set_too false t u h = refl

stays_home : (e : Bool) (s : ℕ) → implied e (eqb (s / 256) 1) ≡ true → page_one e s ≡ s
unfolding page_one
stays_home true s h = omega (arith, eqb-true (s / 256) 1 h)
stays_home false s h = refl

clean_start : (h : Bool) (ir tcu : ℕ) (c : Bool) → h ≡ false → implied (boundary h ir tcu) c ≡ true → c ≡ true
clean_start true ir tcu c e i = absurd (false_true (sym e))
clean_start false ir tcu c e i = i

tidy_start : (r : Record) → well_formed r ≡ true → r.held ≡ false → Tidy r
unfolding well_formed
tidy_start r w h =
    let f : Flags = r.flags in
    let c : Bool = clean f.emulation r.s r.tempaddr r.tempdata r.tempbank in
    let n : narrowed f r.x r.y ≡ true = and_left _ (implied (boundary r.held r.ir r.tcu) c) w in
    let i : c ≡ true = clean_start r.held r.ir r.tcu c h (and_right (narrowed f r.x r.y) _ w) in record {
      m = width_set f.emulation f.memsel f.indexsel (and_left _ _ n);
      x = width_set_too f.emulation f.memsel f.indexsel (and_left _ _ n);
      home = stays_home f.emulation r.s (and_right (eqb r.tempaddr 0 && (eqb r.tempdata 0 && eqb r.tempbank 0)) _ i);
    }

index_twice : (i : Bool) (v : ℕ) → index i (index i v) ≡ index i v
unfolding index
index_twice true v = omega arith
index_twice false v = refl

one_fewer : (m : ℕ) → suc m < 65536 → dec (suc m) ≡ m
unfolding dec
one_fewer m h = omega arith

more_left : (m : ℕ) → suc m < 65536 → eqb (dec (suc m)) 0xFFFF ≡ false
more_left m h = ne_eqb (dec (suc m)) 0xFFFF (λ (e : dec (suc m) ≡ 0xFFFF). omega (arith, one_fewer m h))

-- ---- the record after a byte that isn't the last, and after the last
module _ (ups : Bool) (ir : ℕ) where
  abbrev between : Record → (a bank : ℕ) → Record
  between r a bank = record {
    a = a;
    x = index r.flags.indexsel (stepped ups r.x);
    y = index r.flags.indexsel (stepped ups r.y);
    s = r.s;
    d = r.d;
    pc = r.pc;
    pbr = r.pbr;
    dbr = bank;
    flags = r.flags;
    held = true;
    ir = ir;
    tcu = 0;
    tempaddr = 0;
    tempdata = 0;
    tempbank = 0;
  }

  ended_between : (r : Record) (m bank : ℕ) → Tidy r → r.a ≡ suc m → suc m < 65536
      → ended ir true r.pbr r.pc r.s bank (moves ups (regs_of r)) ≡ between r m bank
  unfolding ended moves
  ended_between r m bank t e small =
      rw (
        e,
        one_fewer m small,
        t.m,
        t.x,
        t.home,
        index_twice r.flags.indexsel (stepped ups r.x),
        index_twice r.flags.indexsel (stepped ups r.y),
      )

  ended_done : (r : Record) (bank : ℕ) → Tidy r → r.a ≡ 0
      → ended ir false r.pbr (up r.pc 3) r.s bank (moves ups (regs_of r)) ≡ moved r (x_after r ups 1) (y_after r ups 1) bank
  unfolding ended moves dec
  ended_done r bank t e =
      rw (
        e,
        t.m,
        t.x,
        t.home,
        index_twice r.flags.indexsel (stepped ups r.x),
        index_twice r.flags.indexsel (stepped ups r.y),
      )

-- ---- a byte's row, the opcode being held or just fetched
module _ (o : Operation) (ir : ℕ) where
  abbrev byte_row : Record → (ℕ → ℕ) → Ran
  byte_row r b = sheet r (instead ir b) Move o false false false

  byte_more : (r : Record) (b : ℕ → ℕ) (m : ℕ) → Tidy r → r.a ≡ suc m → suc m < 65536 → (byte_row r b).out ≡ Ok (between (flag_in o) ir r m (b 1))
  byte_more r b m t e small =
      rw (ap (λ (n : ℕ). eqb (dec n) 0xFFFF) e ∙ more_left m small) (ap {B = (Result Record Refusal)} Ok (ended_between (flag_in o) ir r m (b 1) t e small))

  byte_last : (r : Record) (b : ℕ → ℕ) → Tidy r → r.a ≡ 0 → (byte_row r b).out ≡ Ok (moved r (x_after r (flag_in o) 1) (y_after r (flag_in o) 1) (b 1))
  unfolding dec
  byte_last r b t e = rw (ap (λ (n : ℕ). eqb (dec n) 0xFFFF) e) (ap {B = (Result Record Refusal)} Ok (ended_done (flag_in o) ir r (b 1) t e))

-- ---- the bytes after the first are those of the record after it
module _ (ups : Bool) (ir : ℕ) (r : Record) (m bank : ℕ) (b : ℕ → ℕ → ℕ) where
  abbrev next : Record
  next = between ups ir r m bank

  index_next : (narrow : Bool) (v i : ℕ) → index_after ups narrow (index narrow (stepped ups v)) i ≡ index_after ups narrow v (suc i)
  index_next narrow v zero = refl
  index_next narrow v (suc i) = ap (λ (u : ℕ). index narrow (stepped ups u)) (index_next narrow v i)

  seven_next : (i : ℕ) → seven next ups (others b) i ≡ seven r ups b (suc i)
  seven_next i = rw (index_next r.flags.indexsel r.x i, index_next r.flags.indexsel r.y i)

  sevens_next : (i n : ℕ) → sevens next ups (others b) i n ≡ sevens r ups b (suc i) n
  sevens_next i zero = refl
  sevens_next i (suc n) =
      ap (λ (q : List Request). q ++ sevens next ups (others b) (suc i) n) (seven_next i)
      ∙ ap (λ (l : List Request). seven r ups b (suc i) ++ l) (sevens_next (suc i) n)

  -- so the whole move is the first byte's cycles, then the whole move from there
  whole_next : r.a ≡ suc m
      → record { requests = seven r ups b 0 ++ (whole_move next ups (others b)).requests; out = (whole_move next ups (others b)).out } ≡ whole_move r ups b
  unfolding whole_move
  whole_next e =
      ap (λ (l : List Request). ran (seven r ups b 0 ++ l) (x_after next ups (suc m)) (y_after next ups (suc m))) (sevens_next 0 (suc m))
      ∙ ap (λ (v : ℕ). ran (sevens r ups b 0 (suc (suc m))) v (y_after next ups (suc m))) (index_next r.flags.indexsel r.x (suc m))
      ∙ ap (λ (v : ℕ). ran (sevens r ups b 0 (suc (suc m))) (x_after r ups (suc (suc m))) v) (index_next r.flags.indexsel r.y (suc m))
      ∙ rw e
    where
      ran : List Request → (x y : ℕ) → Ran
      ran q x y = record { requests = q; out = Ok (moved r x y (b (suc m) 1)) }

-- ---- the whole move
module _ (o : Operation) (ir : ℕ) (k : decode_of ir ≡ Some (Move, o)) where
  abbrev ups : Bool
  ups = flag_in o

  next_runs : (r : Record) (m bank : ℕ) (c : ℕ → ℕ) → Tidy r → r.a ≡ suc m → suc m < 65536 → r.pc < 65536
      → run 8 c (between ups ir r m bank) ≡ byte_row o ir (between ups ir r m bank) c
  next_runs r m bank c t e small near =
      between_bytes (between ups ir r m bank) c o
      (subst (λ (u : Record). well_formed u ≡ true) (ended_between ups ir r m bank t e small)
      (well_ended ir true r.pbr r.pc r.s bank (moves ups (regs_of r))))
      refl refl k near

  move_law : (m n : ℕ) (r : Record) (b : ℕ → ℕ → ℕ) → r.a ≡ m → m < 65536 → m < n → r.pc < 65536 → Tidy r
      → run 8 (b 0) r ≡ byte_row o ir r (b 0) → run_move n b r ≡ whole_move r ups b
  unfolding run_move whole_move
  move_law zero zero r b e small fits near t h = absurd (not-suc-le-zero fits)
  move_law (suc m) zero r b e small fits near t h = absurd (not-suc-le-zero fits)
  move_law zero (suc n) r b e small fits near t h =
      ap (λ (u : Ran). go_on u.requests u.out (run_move n (others b))) h
      ∙ ap (λ (u : Result Record Refusal). go_on (seven r ups b 0) u (run_move n (others b))) (byte_last o ir r (b 0) t e)
      ∙ rw e
  move_law (suc m) (suc n) r b e small fits near t h =
      let next : Record = between ups ir r m (b 0 1) in
      ap (λ (u : Ran). go_on u.requests u.out (run_move n (others b))) h
      ∙ ap (λ (u : Result Record Refusal). go_on (seven r ups b 0) u (run_move n (others b))) (byte_more o ir r (b 0) m t e small)
      ∙ ap (λ (u : Ran). record { requests = seven r ups b 0 ++ u.requests; out = u.out })
      (move_law m n next (others b) refl (omega arith) (omega arith) near (record { m = t.m; x = t.x; home = t.home })
      (next_runs r m (b 0 1) (b 1) t e small near))
      ∙ whole_next ups ir r m (b 0 1) b e

-- For every well-formed record at an instruction's start, and any bytes answered, of which the first is MVN or MVP: byte after
-- byte, as many as it takes, is the whole move.
pub whole_move_lem : (r : Record) (b : ℕ → ℕ → ℕ) (o : Operation) (n : ℕ) → well_formed r ≡ true → r.held ≡ false → r.pc < 65536 → r.a < 65536
    → decode_of (b 0 0) ≡ Some (Move, o) → r.a < n → run_move n b r ≡ whole_move r (flag_in o) b
unfolding instruction
whole_move_lem r b o n w h near small k fits =
    move_law o (b 0 0) k r.a n r b refl small fits near (tidy_start r w h)
    (demand_2 r (b 0) w h near ∙ ap (row r (b 0)) k)

-- ---- the count alone
sevens_length : (r : Record) (ups : Bool) (b : ℕ → ℕ → ℕ) (i n : ℕ) → length (sevens r ups b i n) ≡ 7 * n
sevens_length r ups b i zero = refl
sevens_length r ups b i (suc n) = omega (arith, sevens_length r ups b (suc i) n)

-- A move of A + 1 bytes takes seven cycles for each: 7 where A is 0, 458,752 where it is FFFF.
pub move_count : (r : Record) (b : ℕ → ℕ → ℕ) (o : Operation) (n : ℕ) → well_formed r ≡ true → r.held ≡ false → r.pc < 65536 → r.a < 65536
    → decode_of (b 0 0) ≡ Some (Move, o) → r.a < n → length (run_move n b r).requests ≡ 7 * (r.a + 1)
unfolding whole_move
move_count r b o n w h near small k fits =
    ap (λ (t : Ran). length t.requests) (whole_move_lem r b o n w h near small k fits)
    ∙ omega (arith, sevens_length r (flag_in o) b 0 (suc r.a))
