-- What a whole instruction comes to, by its opcode: the law that the code of a stride leans on.
use Prim.Native.Nat.{ℕ, ◌+◌, ◌<◌}
use Rattle.std.proofs.Common.{Option, Some, None}
use Rattle.std.specs.Prelude.{IfSome}
use mathlib.Core.Path.{◌≡◌, refl, ap, sym, subst, ◌∙◌}
use mathlib.Core.Bool.{Bool, true, false, not, ◌&&◌, ◌||◌}
use mathlib.Core.List.{List, [], ◌∷◌}
use lib.Dec.{T, eqb, ltb}
use lib.ListN.{length, get_or}
use native.Mathlib.Omega.{arith}
use borrow.Author.Tests.{eq-eqb, eqb-true, eqb-false, ltb-true}
use Rattle.words.specs.Words.{pick, bit, low_of, up, displaced, same_page}
use Rattle.cpu.specs.Record.{well_formed, is_move, source_of, holds, ended, regs_of}
use Rattle.alu.specs.declared.types.Alu.{Alu}
use Rattle.cpu.specs.declared.types.Record.{Record}
use Rattle.cpu.specs.declared.types.Reg.{Reg}
use Rattle.cpu.specs.declared.types.Regs.{Regs}
use Rattle.cpu.specs.declared.types.Source.{Source}
use Rattle.cpu.specs.declared.types.Request.{Request}
use Rattle.cpu.specs.declared.types.Cond.{Cond}
use Rattle.cpu.specs.declared.types.Cond.TheVariants as if
use Rattle.flags.specs.declared.Flags.{Flags}
use Rattle.opcodes.specs.Opcodes.{Row, find, one_bytes, opcodes, decode_of, wide_of, cond_in, flag_in}
use Rattle.opcodes.specs.declared.types.Operation.{Operation}
use Rattle.opcodes.specs.declared.types.Operation.TheVariants as operation
use Rattle.opcodes.specs.declared.types.Shape.{Shape}
use Rattle.opcodes.specs.declared.types.Shape.TheVariants.{Immediate, Absolute, Direct, StoreAbsolute, StoreDirect, Implied, Xba, Mask, Wdm, Push, Pull, PullP, PullB, PullD, Pea, Pei, Per, Jump, JumpLong, JumpIndirect, JumpIndirectLong, JumpIndexed, Call, CallIndexed, CallLong, Return, ReturnLong, Branch, BranchLong, Move}
use Rattle.cycles.specs.Cycles.{unaligned}
use Rattle.quick.specs.Quick.{quickened, quick_of, test_in, want_in, goes}
use Rattle.sheet.specs.Run.{run}
use Rattle.sheet.specs.Sheet.{sheet, row, instruction}
use Rattle.sheet.proofs.Walk.{false_true, and_left, and_right}
use Rattle.sheet.proofs.Demand2.{demand_2, between_bytes}
use Rattle.run.specs.Runs.{run_of, size}
use Rattle.stride.specs.Strides.{fresh, there, operand, inside, opcode, leg_by, mem_by, leg_of, mem_of, mem_at, arrived, placed, storing, branching, direct_spot, absolute_spot, spot_of, reading, read_at, stored_at, strode_by, stretch, stride_of, stride_mem}
use Rattle.haul.specs.Hauls.{between, near, hauled, carried, hauls, haul_of, haul_mem}
use Rattle.tracks.specs.Tracks.{track_by, track_of, track_lines, place_by, stride_lines, haul_lines}
use Rattle.tracks.specs.declared.types.Track.{Track}
use Rattle.tracks.specs.declared.types.Track.TheVariants as track
use Rattle.run.specs.Passes.{Passes, Leaves, Goes}
use Rattle.stride.specs.declared.types.Leg.{Leg}
use Rattle.stride.specs.declared.types.Spot.{Spot}
use Rattle.stride.specs.declared.types.Stretch.{Stretch}
use Rattle.run.proofs.Whole.{passes_none}
use Rattle.quick.specs.declared.types.Mode.{Mode}
use Rattle.quick.specs.declared.types.Mode.TheVariants as mode
use Rattle.quick.specs.declared.types.Quick.{Quick}
use Rattle.quick.specs.declared.types.Quick.TheVariants as quick
use Rattle.sheet.proofs.Kept.{well_ended}
use Rattle.run.proofs.Strides.{direct_bus, store_bus, immediate_leaves, direct_leaves, absolute_leaves, store_direct_leaves, store_absolute_leaves, do_leaves, jump_leaves, branch_leaves, move_leaves}

-- ---- shapes that read have operations that do, and likewise those that store
abbrev is_read : Operation → Bool
is_read operation.Plain = false
is_read (operation.Read k r) = true
is_read (operation.Give s) = false
is_read (operation.Take r) = false
is_read (operation.Do k) = false
is_read (operation.If c) = false
is_read (operation.Flag t) = false

abbrev is_give : Operation → Bool
is_give operation.Plain = false
is_give (operation.Read k r) = false
is_give (operation.Give s) = true
is_give (operation.Take r) = false
is_give (operation.Do k) = false
is_give (operation.If c) = false
is_give (operation.Flag t) = false

abbrev suits : Shape → Operation → Bool
suits Immediate o = is_read o
suits Absolute o = is_read o
suits Direct o = is_read o
suits StoreAbsolute o = is_give o
suits StoreDirect o = is_give o
suits Implied o = true
suits Xba o = true
suits Mask o = true
suits Wdm o = true
suits Push o = true
suits Pull o = true
suits PullP o = true
suits PullB o = true
suits PullD o = true
suits Pea o = true
suits Pei o = true
suits Per o = true
suits Jump o = true
suits JumpLong o = true
suits JumpIndirect o = true
suits JumpIndirectLong o = true
suits JumpIndexed o = true
suits Call o = true
suits CallIndexed o = true
suits CallLong o = true
suits Return o = true
suits ReturnLong o = true
suits Branch o = true
suits BranchLong o = true
suits Move o = true

abbrev suited : Option (Shape × Operation) → Bool
suited None = true
suited (Some (s, o)) = suits s o

abbrev all_suited : List (Row (Option (Shape × Operation))) → Bool
all_suited [] = true
all_suited (r ∷ rs) = pick (suited r.is) (all_suited rs) false

found_suited : (n : ℕ) (rs : List (Row (Option (Shape × Operation)))) → T (all_suited rs) → suited (find None n rs) ≡ true
found_suited n [] t = refl
found_suited n (r ∷ rs) t = go (eqb n r.code) (suited r.is) refl (found_suited n rs) t
  where
    go : (e v : Bool) → suited r.is ≡ v → (T (all_suited rs) → suited (find None n rs) ≡ true) → T (pick v (all_suited rs) false)
        → suited (pick e r.is (find None n rs)) ≡ true
    go true true h more t = h
    go false true h more t = more t
    go e false h more t = absurd t

decoded_suits : (n : ℕ) (s : Shape) (o : Operation) → decode_of n ≡ Some (s, o) → suits s o ≡ true
unfolding decode_of opcodes one_bytes
decoded_suits n s o h = ap suited (sym h) ∙ found_suited n opcodes tt

-- a branch's condition, in its parts
goes_holds : (c : Cond) (f : Flags) → goes (test_in c) (want_in c) f ≡ holds c f
goes_holds if.Always f = refl
goes_holds (if.Carry t) f = refl
goes_holds (if.Zero t) f = refl
goes_holds (if.Negative t) f = refl
goes_holds (if.Overflow t) f = refl

-- ---- by the shape
module _ (r : Record) (m : List ℕ) (whole : length m ≡ size) (well : well_formed r ≡ true) (bank : r.pbr ≡ 0) (small : r.pc < 65536) where
  abbrev op : ℕ
  op = there r m r.pc

  -- the lines of a track
  abbrev lines_by : Track → (n : ℕ) → List ℕ → List Request
  lines_by t n k =
      track_lines t (unaligned r.d) op (there r m (up r.pc 1)) (there r m (up r.pc 2)) r.pc
      (place_by t r.d (there r m (up r.pc 1)) (there r m (up r.pc 2))) n k

  -- what is to be shown of an opcode
  abbrev Stride : ℕ → Option (Shape × Operation) → Type 0
  Stride i q = IfSome (leg_by r m (quickened q)) (λ l. Leaves l.cycles r m (arrived i l) (mem_by r m (quickened q)) (lines_by (track_by (quickened q)) l.cycles (mem_by r m (quickened q))))

  abbrev wide : Operation → Bool
  wide o = wide_of o r.flags.memsel r.flags.indexsel

  abbrev skew : Bool
  skew = unaligned r.d

  abbrev emulated : Bool
  emulated = r.flags.emulation

  module _ (unheld : r.held ≡ false) where
    row_is : (b : ℕ → ℕ) (s : Shape) (o : Operation) → b 0 ≡ op → decode_of op ≡ Some (s, o) → run 8 b r ≡ sheet r b s o (wide o) skew emulated
    unfolding instruction
    row_is b s o e h = demand_2 r b well unheld small ∙ ap (λ (i : ℕ). row r b (decode_of i)) e ∙ ap (row r b) h

    in_bank_0 : inside r m (operand r m) ≡ true → r.dbr ≡ 0
    in_bank_0 i = eqb-true _ _ (and_left (eqb r.dbr 0) (ltb (operand r m) 65535) i)

    in_room : inside r m (operand r m) ≡ true → operand r m < 65535
    in_room i = ltb-true _ _ (and_right (eqb r.dbr 0) (ltb (operand r m) 65535) i)

    -- an operand in the data bank, by whether it lies inside
    absolute_read : (o : Operation) → is_read o ≡ true → decode_of op ≡ Some (Absolute, o) → (i : Bool) → inside r m (operand r m) ≡ i → Stride op (Some (Absolute, o))
    absolute_read (operation.Read k g) h d t i =
        subst
        (λ (t : Bool). IfSome (read_at r m (pick t (Some (absolute_spot r m (wide (operation.Read k g)))) None) k g (wide (operation.Read k g)))
        (λ l. Leaves l.cycles r m (arrived op l) m (lines_by track.ReadAbsolute l.cycles m)))
        (sym i) (by_inside t i)
      where
        by_inside : (t : Bool) → inside r m (operand r m) ≡ t
            → IfSome (read_at r m (pick t (Some (absolute_spot r m (wide (operation.Read k g)))) None) k g (wide (operation.Read k g)))
            (λ l. Leaves l.cycles r m (arrived op l) m (lines_by track.ReadAbsolute l.cycles m))
        by_inside true i = absolute_leaves r m whole bank small k g emulated (in_bank_0 i) (in_room i) (wide (operation.Read k g)) skew (row_is _ _ _ refl d)
        by_inside false i = tt
    absolute_read operation.Plain h d t i = absurd (false_true h)
    absolute_read (operation.Give s) h d t i = absurd (false_true h)
    absolute_read (operation.Take g) h d t i = absurd (false_true h)
    absolute_read (operation.Do k) h d t i = absurd (false_true h)
    absolute_read (operation.If c) h d t i = absurd (false_true h)
    absolute_read (operation.Flag f) h d t i = absurd (false_true h)

    immediate_read : (o : Operation) → is_read o ≡ true → decode_of op ≡ Some (Immediate, o) → Stride op (Some (Immediate, o))
    immediate_read (operation.Read k g) h d = immediate_leaves r m whole bank small k g emulated (wide (operation.Read k g)) skew (row_is _ _ _ refl d)
    immediate_read operation.Plain h d = absurd (false_true h)
    immediate_read (operation.Give s) h d = absurd (false_true h)
    immediate_read (operation.Take g) h d = absurd (false_true h)
    immediate_read (operation.Do k) h d = absurd (false_true h)
    immediate_read (operation.If c) h d = absurd (false_true h)
    immediate_read (operation.Flag f) h d = absurd (false_true h)

    -- the opcode's byte comes first, whatever D
    direct_first : (k : Alu) (g : Reg) (d : Bool) → direct_bus r m whole bank small k g emulated d 0 ≡ op
    direct_first k g true = refl
    direct_first k g false = refl

    direct_read : (o : Operation) → is_read o ≡ true → decode_of op ≡ Some (Direct, o) → Stride op (Some (Direct, o))
    direct_read (operation.Read k g) h d = direct_leaves r m whole bank small k g emulated (wide (operation.Read k g)) skew (row_is _ _ _ (direct_first k g skew) d)
    direct_read operation.Plain h d = absurd (false_true h)
    direct_read (operation.Give s) h d = absurd (false_true h)
    direct_read (operation.Take g) h d = absurd (false_true h)
    direct_read (operation.Do k) h d = absurd (false_true h)
    direct_read (operation.If c) h d = absurd (false_true h)
    direct_read (operation.Flag f) h d = absurd (false_true h)

    -- stores
    store_first : (src : Source) (d : Bool) → store_bus r m whole bank small src emulated d 0 ≡ op
    store_first src true = refl
    store_first src false = refl

    direct_store : (o : Operation) → is_give o ≡ true → decode_of op ≡ Some (StoreDirect, o) → Stride op (Some (StoreDirect, o))
    direct_store (operation.Give src) h d = store_direct_leaves r m whole bank small src emulated (wide (operation.Give src)) skew (row_is _ _ _ (store_first src skew) d)
    direct_store operation.Plain h d = absurd (false_true h)
    direct_store (operation.Read k g) h d = absurd (false_true h)
    direct_store (operation.Take g) h d = absurd (false_true h)
    direct_store (operation.Do k) h d = absurd (false_true h)
    direct_store (operation.If c) h d = absurd (false_true h)
    direct_store (operation.Flag f) h d = absurd (false_true h)

    absolute_store : (o : Operation) → is_give o ≡ true → decode_of op ≡ Some (StoreAbsolute, o) → (i : Bool) → inside r m (operand r m) ≡ i → Stride op (Some (StoreAbsolute, o))
    absolute_store (operation.Give src) h d t i =
        subst
        (λ (t : Bool). let p : Option Spot = pick t (Some (absolute_spot r m (wide (operation.Give src)))) None in
        IfSome (stored_at r m p) (λ l. Leaves l.cycles r m (arrived op l) (mem_at r m p (wide (operation.Give src)) (source_of src (regs_of r) r.pbr r.dbr))
        (lines_by track.StoreAbsolute l.cycles (mem_at r m p (wide (operation.Give src)) (source_of src (regs_of r) r.pbr r.dbr)))))
        (sym i) (by_inside t i)
      where
        by_inside : (t : Bool) → inside r m (operand r m) ≡ t
            → let p : Option Spot = pick t (Some (absolute_spot r m (wide (operation.Give src)))) None in
            IfSome (stored_at r m p) (λ l. Leaves l.cycles r m (arrived op l) (mem_at r m p (wide (operation.Give src)) (source_of src (regs_of r) r.pbr r.dbr))
            (lines_by track.StoreAbsolute l.cycles (mem_at r m p (wide (operation.Give src)) (source_of src (regs_of r) r.pbr r.dbr))))
        by_inside true i = store_absolute_leaves r m whole bank small src emulated (in_bank_0 i) (in_room i) (wide (operation.Give src)) skew (row_is _ _ _ refl d)
        by_inside false i = tt
    absolute_store operation.Plain h d t i = absurd (false_true h)
    absolute_store (operation.Read k g) h d t i = absurd (false_true h)
    absolute_store (operation.Take g) h d t i = absurd (false_true h)
    absolute_store (operation.Do k) h d t i = absurd (false_true h)
    absolute_store (operation.If c) h d t i = absurd (false_true h)
    absolute_store (operation.Flag f) h d t i = absurd (false_true h)

    by_shape : (q : Option (Shape × Operation)) → decode_of op ≡ q → Stride op q
    by_shape None d = tt
    by_shape (Some (Immediate, o)) d = immediate_read o (decoded_suits op Immediate o d) d
    by_shape (Some (Absolute, o)) d = absolute_read o (decoded_suits op Absolute o d) d (inside r m (operand r m)) refl
    by_shape (Some (Direct, o)) d = direct_read o (decoded_suits op Direct o d) d
    by_shape (Some (StoreAbsolute, o)) d = absolute_store o (decoded_suits op StoreAbsolute o d) d (inside r m (operand r m)) refl
    by_shape (Some (StoreDirect, o)) d = direct_store o (decoded_suits op StoreDirect o d) d
    by_shape (Some (Implied, o)) d = do_leaves r m whole bank small o (wide o) skew emulated (row_is _ _ _ refl d)
    by_shape (Some (Xba, o)) d = tt
    by_shape (Some (Mask, o)) d = tt
    by_shape (Some (Wdm, o)) d = tt
    by_shape (Some (Push, o)) d = tt
    by_shape (Some (Pull, o)) d = tt
    by_shape (Some (PullP, o)) d = tt
    by_shape (Some (PullB, o)) d = tt
    by_shape (Some (PullD, o)) d = tt
    by_shape (Some (Pea, o)) d = tt
    by_shape (Some (Pei, o)) d = tt
    by_shape (Some (Per, o)) d = tt
    by_shape (Some (Jump, o)) d = jump_leaves r m whole bank small o (wide o) skew emulated (row_is _ _ _ refl d)
    by_shape (Some (JumpLong, o)) d = tt
    by_shape (Some (JumpIndirect, o)) d = tt
    by_shape (Some (JumpIndirectLong, o)) d = tt
    by_shape (Some (JumpIndexed, o)) d = tt
    by_shape (Some (Call, o)) d = tt
    by_shape (Some (CallIndexed, o)) d = tt
    by_shape (Some (CallLong, o)) d = tt
    by_shape (Some (Return, o)) d = tt
    by_shape (Some (ReturnLong, o)) d = tt
    by_shape (Some (Branch, o)) d =
        subst
        (λ (t : Bool). Leaves (branching r m t).cycles r m (arrived op (branching r m t)) m (lines_by track.Branch (branching r m t).cycles m))
        (sym (goes_holds (cond_in o) r.flags))
        (branch_leaves r m whole bank small o (wide o) skew (row_is _ _ _ refl d))
    by_shape (Some (BranchLong, o)) d = tt
    by_shape (Some (Move, o)) d = tt

  -- A stride from a fresh record comes to what so many cycles come to, and these are their lines.
  pub leg_leaves : r.held ≡ false
      → IfSome (leg_of r m) (λ l. Leaves l.cycles r m (arrived (opcode r m) l) (mem_of r m) (stride_lines r m (mem_of r m) l.cycles))
  unfolding quick_of track_of
  leg_leaves h = by_shape h (decode_of op) refl

-- ---- the code's answer
module _ (r : Record) (m : List ℕ) where
  -- without a leg nothing is stored
  still_at : (t : Option Spot) (w : Bool) (v : ℕ) → stored_at r m t ≡ None → mem_at r m t w v ≡ m
  still_at None w v h = refl
  still_at (Some t) w v h = cc

  still : (q : Quick) → leg_by r m q ≡ None → mem_by r m q ≡ m
  still quick.Slow h = refl
  still (quick.Read mode k g) h = refl
  still (quick.Store mode o) h = still_at (spot_of r m mode _) _ _ h
  still (quick.Do k) h = refl
  still (quick.If k want) h = refl
  still quick.Jump h = refl

  -- no instruction here is longer than seven cycles
  spot_short : (k : Mode) (w : Bool) → IfSome (spot_of r m k w) (λ t. t.cycles < 8)
  spot_short mode.Immediate true = omega arith
  spot_short mode.Immediate false = omega arith
  spot_short mode.Direct w = two w skew'
    where
      skew' : Bool
      skew' = unaligned r.d

      two : (a b : Bool) → 3 + bit a + bit b < 8
      two true true = omega arith
      two true false = omega arith
      two false true = omega arith
      two false false = omega arith
  spot_short mode.Absolute w = two (inside r m (operand r m)) w
    where
      two : (a b : Bool) → IfSome (pick a (Some (absolute_spot r m b)) None) (λ t. t.cycles < 8)
      two true true = omega arith
      two true false = omega arith
      two false b = tt

  read_short : (t : Option Spot) (k : Alu) (g : Reg) (w : Bool) → IfSome t (λ t. t.cycles < 8) → IfSome (read_at r m t k g w) (λ l. l.cycles < 8)
  read_short None k g w h = tt
  read_short (Some t) k g w h = h

  store_short : (t : Option Spot) → IfSome t (λ t. t.cycles < 8) → IfSome (stored_at r m t) (λ l. l.cycles < 8)
  store_short None h = tt
  store_short (Some t) h = h

  branch_short : (t p : Bool) → pick t (3 + bit p) 2 < 8
  branch_short true true = omega arith
  branch_short true false = omega arith
  branch_short false p = omega arith

  short : (q : Quick) → IfSome (leg_by r m q) (λ l. l.cycles < 8)
  short quick.Slow = tt
  short (quick.Read k o g) = read_short _ o g _ (spot_short k _)
  short (quick.Store k o) = store_short _ (spot_short k _)
  short (quick.Do k) = omega arith
  short (quick.If k want) =
      branch_short (goes k want r.flags) (r.flags.emulation && not (same_page (up r.pc 2) (displaced (up r.pc 2) (low_of (there r m (up r.pc 1))))))
  short quick.Jump = omega arith

module _ (r : Record) (m : List ℕ) (whole : length m ≡ size) (well : well_formed r ≡ true) (start : fresh r ≡ true) (small : r.pc < 65536) where
  first_half : (eqb r.pbr 0 && not r.held) ≡ true
  first_half = and_left (eqb r.pbr 0 && not r.held) (eqb r.ir 0 && eqb r.tcu 0) start

  bank_0 : r.pbr ≡ 0
  bank_0 = eqb-true _ _ (and_left (eqb r.pbr 0) (not r.held) first_half)

  not_held : (h : Bool) → not h ≡ true → h ≡ false
  not_held false e = refl
  not_held true e = absurd (false_true e)

  unheld : r.held ≡ false
  unheld = not_held r.held (and_right (eqb r.pbr 0) (not r.held) first_half)

  -- by whether there is a leg
  abbrev answer : Option Leg → Stretch
  answer l = strode_by r (opcode r m) l

  abbrev Answered : Stretch → List ℕ → Type 0
  Answered t k = Goes r m t k × ((t.cycles < 8) × (fresh t.after ≡ true))
      × ((t.cycles ≡ 0 → ⊥) → (run_of t.cycles r m).lines ≡ stride_lines r m k t.cycles)

  fresh_again : (i p s d : ℕ) (g : Regs) → fresh (ended i false 0 p s d g) ≡ true
  unfolding ended
  fresh_again i p s d g = refl

  answered_by_lem : (o : Option Leg) → leg_of r m ≡ o → Answered (answer o) (mem_of r m)
  answered_by_lem None e =
      let s : mem_of r m ≡ m = still r m (quick_of (opcode r m)) e in
      ((subst (Passes 0 r m r) (sym s) (passes_none r m), well), (omega arith, start), λ n. absurd (n refl))
  answered_by_lem (Some l) e =
      let v : Leaves l.cycles r m (arrived (opcode r m) l) (mem_of r m) (stride_lines r m (mem_of r m) l.cycles) =
      subst (λ (o : Option Leg). IfSome o (λ l. Leaves l.cycles r m (arrived (opcode r m) l) (mem_of r m) (stride_lines r m (mem_of r m) l.cycles))) e
      (leg_leaves r m whole well bank_0 small unheld) in (
        (v.passes, well_ended _ _ _ _ _ _ _),
        (subst (λ (o : Option Leg). IfSome o (λ l. l.cycles < 8)) e (short r m (quick_of (opcode r m))), fresh_again _ _ _ _ _),
        λ _. v.lines,
      )

  stride_is : stride_of r m ≡ answer (leg_of r m)
  unfolding stride_of
  stride_is = rw (eq-eqb _ _ whole)

  mem_is : stride_mem r m ≡ mem_of r m
  unfolding stride_mem
  mem_is = rw (eq-eqb _ _ whole)

  pub stride_goes : (t : Stretch) (k : List ℕ) → (t ≡ stride_of r m) × (k ≡ stride_mem r m) → Answered t k
  stride_goes t k e =
      subst (λ (v : Stretch). Answered v k) (sym (e.0 ∙ stride_is))
      (subst (Answered (answer (leg_of r m))) (sym (e.1 ∙ mem_is)) (answered_by_lem (leg_of r m) refl))

-- ---- a byte of a move that is under way
module _ (r : Record) (m : List ℕ) (whole : length m ≡ size) (well : well_formed r ≡ true) (small : r.pc < 65536) (x-small : r.x < 65536)
    (y-small : r.y < 65536) where
  -- the lines of a byte, by the memory after it
  abbrev byte_lines : List ℕ → List Request
  byte_lines k = haul_lines (there r m r.pc) (there r m (up r.pc 1)) (there r m (up r.pc 2)) r.pc r.x r.y (there r m r.x) (get_or k r.y 0)

  module _ (bank : r.pbr ≡ 0) (held : r.held ≡ true) (start : r.tcu ≡ 0) (close : near r m ≡ true) where
    banks : (there r m (up r.pc 1) ≡ 0) × (there r m (up r.pc 2) ≡ 0)
    banks = (
      eqb-true _ _ (and_left (eqb (there r m (up r.pc 1)) 0) (eqb (there r m (up r.pc 2)) 0) close),
      eqb-true _ _ (and_right (eqb (there r m (up r.pc 1)) 0) (eqb (there r m (up r.pc 2)) 0) close),
    )

    byte_of : (o : Operation) → decode_of r.ir ≡ Some (Move, o) → Leaves 7 r m (hauled (flag_in o) r) (carried r m) (byte_lines (carried r m))
    byte_of o d =
        move_leaves r m whole bank small o x-small y-small banks (wide_of o r.flags.memsel r.flags.indexsel) (unaligned r.d) r.flags.emulation
        (between_bytes r _ o well held start d small)

    -- 54 goes up, 44 down
    by_code : (a c : Bool) → eqb r.ir 0x54 ≡ a → eqb r.ir 0x44 ≡ c → (a || c) ≡ true → Leaves 7 r m (hauled a r) (carried r m) (byte_lines (carried r m))
    unfolding decode_of opcodes one_bytes
    by_code true c i j e = byte_of (operation.Flag true) (rw (eqb-true r.ir 0x54 i))
    by_code false true i j e = byte_of (operation.Flag false) (rw (eqb-true r.ir 0x44 j))
    by_code false false i j e = absurd (false_true e)

  abbrev taken : Bool → Stretch
  taken z = pick z (stretch 7 (hauled (eqb r.ir 0x54) r)) (stretch 0 r)

  abbrev Hauled : Stretch → List ℕ → Type 0
  Hauled t k = Goes r m t k × (t.cycles < 8) × ((t.cycles ≡ 0 → ⊥) → (run_of t.cycles r m).lines ≡ byte_lines k)

  haul_by : (z : Bool) → hauls r m ≡ z → Hauled (taken z) (pick z (carried r m) m)
  haul_by false e = ((passes_none r m, well), omega arith, λ n. absurd (n refl))
  haul_by true e =
      let b : between r ≡ true = and_left (between r) (near r m) e in
      let h : (eqb r.pbr 0 && r.held) ≡ true = and_left (eqb r.pbr 0 && r.held) (is_move r.ir && eqb r.tcu 0) b in
      let v : (is_move r.ir && eqb r.tcu 0) ≡ true = and_right (eqb r.pbr 0 && r.held) (is_move r.ir && eqb r.tcu 0) b in
      let l : Leaves 7 r m (hauled (eqb r.ir 0x54) r) (carried r m) (byte_lines (carried r m)) =
      by_code (eqb-true _ _ (and_left (eqb r.pbr 0) r.held h)) (and_right (eqb r.pbr 0) r.held h)
      (eqb-true _ _ (and_right (is_move r.ir) (eqb r.tcu 0) v)) (and_right (between r) (near r m) e)
      (eqb r.ir 0x54) (eqb r.ir 0x44) refl refl (and_left (is_move r.ir) (eqb r.tcu 0) v) in
      ((l.passes, well_ended _ _ _ _ _ _ _), omega arith, λ _. l.lines)

  haul_is : haul_of r m ≡ taken (hauls r m)
  unfolding haul_of
  haul_is = rw (eq-eqb _ _ whole)

  after_is : haul_mem r m ≡ pick (hauls r m) (carried r m) m
  unfolding haul_mem
  after_is = rw (eq-eqb _ _ whole)

  pub haul_goes : (t : Stretch) (k : List ℕ) → (t ≡ haul_of r m) × (k ≡ haul_mem r m) → Hauled t k
  haul_goes t k e =
      subst (λ (v : Stretch). Hauled v k) (sym (e.0 ∙ haul_is))
      (subst (Hauled (taken (hauls r m))) (sym (e.1 ∙ after_is)) (haul_by (hauls r m) refl))
