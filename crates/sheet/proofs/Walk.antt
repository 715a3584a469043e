-- Cycle after cycle from a list that was looked up once: as long as no width, no mode and not D changes, every cycle of an
-- instruction reads the same list. What a run does is then a walk along that list, which computes.
use Prim.Native.Nat.{ℕ, zero, suc, ◌+◌, ◌*◌, ◌/◌, ◌%◌}
use Rattle.std.proofs.Common.{Some, Ok, Err, Option, None}
use native.Mathlib.Omega.{arith}
use mathlib.Core.Path.{◌≡◌, refl, ap, ◌∙◌}
use mathlib.Core.Bool.{Bool, true, false, ◌&&◌}
use mathlib.Core.List.{List, []}
use lib.Dec.{eqb, ltb}
use lib.ListN.{get_or}
use borrow.Author.Tests.{ne_eqb, lt-ltb, ltb-true}
use Rattle.words.specs.Words.{pick, implied, low_set}
use Rattle.flags.specs.declared.Flags.{Flags}
use Rattle.alu.specs.Alu.{nz, summed, adc_byte, sbc_byte, cmp_byte, and_byte, ora_byte, eor_byte, bit_byte, load_byte, operated}
use Rattle.alu.specs.declared.types.Alu.{Alu}
use Rattle.alu.specs.declared.types.Alu.TheVariants.{Adc, Sbc, Cmp, And, Ora, Eor, Bit, BitImmediate, Load}
use Rattle.alu.specs.declared.types.Byte.{Byte}
use Rattle.cpu.specs.Registers.{operates, pulls, half}
use Rattle.cpu.specs.Record.{is_move, widths_set, index_small, narrowed, clean, well_formed, regs_of, under_way, ended}
use Rattle.cpu.specs.declared.types.Record.{Record}
use Rattle.cpu.specs.declared.types.Mid.{Mid}
use Rattle.cpu.specs.declared.types.Regs.{Regs}
use Rattle.cpu.specs.declared.types.Reg.{Reg}
use Rattle.cpu.specs.declared.types.Reg.TheVariants.{A, X, Y}
use Rattle.cpu.specs.declared.types.Part.TheVariants.{Only, Low, High}
use Rattle.cpu.specs.declared.types.Request.{Request}
use Rattle.cpu.specs.declared.types.Refusal.TheVariants.{NoCycle}
use Rattle.opcodes.specs.Opcodes.{decode_of, alu_of, reg_of, wide_of}
use Rattle.opcodes.specs.declared.types.Operation.{Operation}
use Rattle.opcodes.specs.declared.types.Shape.{Shape}
use Rattle.cycles.specs.Cycles.{cycles_of, unaligned, carrying}
use Rattle.cycles.specs.declared.types.Change.{Change}
use Rattle.cycles.specs.declared.types.Change.TheVariants.{Keep, Operate, Fill, Apply, Mask, Status, Sign, DirectLow, DirectHigh, MoveByte}
use Rattle.cycles.specs.declared.types.Cycle.{Cycle}
use Rattle.cycles.specs.declared.types.Micro.{Micro}
use Rattle.bus.specs.Bus.{ask_of}
use Rattle.mid.specs.Mid.{mid_after}
use Rattle.act.specs.Act.{regs_after, way_of, arrived, next_cycle}
use Rattle.act.specs.declared.types.Way.{Way}
use Rattle.act.specs.declared.types.Way.TheVariants.{On, End, Again}
use Rattle.step.specs.Cycle.{micro_of, asked_by, answered_by, request_of, answer_of}
use Rattle.sheet.specs.Run.{Ran, only, also, after, later, run}

-- ---- a record under way is well formed where its index registers and width flags are
pub not_zero : (n : ℕ) → eqb (suc n) 0 ≡ false
not_zero n = ne_eqb (suc n) 0 (λ (h : suc n ≡ 0). omega arith)

no_boundary : (a c : Bool) → implied (a && false) c ≡ true
no_boundary true c = refl
no_boundary false c = refl

pub well_under_way : (ir j pbr : ℕ) (g : Regs) (t : Mid) → narrowed g.flags g.x g.y ≡ true → well_formed (under_way ir (suc j) pbr g t) ≡ true
unfolding well_formed
well_under_way ir j pbr g t h =
    rw (h, not_zero j) (no_boundary (is_move ir) (clean g.flags.emulation t.s t.tempaddr t.tempdata t.tempbank))

pub and_left : (a b : Bool) → (a && b) ≡ true → a ≡ true
and_left true b h = refl
and_left false b h = h

pub false_true : ◌≡◌ {A = Bool} false true → ⊥
false_true e = let z : ◌≡◌ {A = ℕ} 0 1 = cc in omega arith

pub and_right : (a b : Bool) → (a && b) ≡ true → b ≡ true
and_right true b h = h
and_right false b h = absurd (false_true h)

pub both_true : (a b : Bool) → a ≡ true → b ≡ true → (a && b) ≡ true
both_true true b h k = k
both_true false b h k = h

-- ---- changes that keep every width and mode, and D
abbrev pub steady : Change → Bool
steady Keep = true
steady (Operate Low) = true
steady (Fill Low) = true
steady (Operate Only) = false
steady (Operate High) = false
steady (Fill Only) = false
steady (Fill High) = false
steady Apply = false
steady Mask = false
steady Status = false
steady Sign = false
steady DirectLow = false
steady DirectHigh = false
steady MoveByte = false

-- flags of the same widths and mode
pub record Kept (f h : Flags) : Type 0 where
  pub m : h.memsel ≡ f.memsel
  pub x : h.indexsel ≡ f.indexsel
  pub e : h.emulation ≡ f.emulation

same_flags : {f : Flags} → Kept f f
same_flags = record { m = refl; x = refl; e = refl }

pub operated_keeps : (k : Alu) (s t : Bool) (a b : ℕ) (f : Flags) → Kept f (operated k s t a b f).flags
unfolding nz summed adc_byte sbc_byte cmp_byte and_byte ora_byte eor_byte bit_byte load_byte
operated_keeps Adc s t a b f = record { m = refl; x = refl; e = refl }
operated_keeps Sbc s t a b f = record { m = refl; x = refl; e = refl }
operated_keeps Cmp s t a b f = record { m = refl; x = refl; e = refl }
operated_keeps And s t a b f = record { m = refl; x = refl; e = refl }
operated_keeps Ora s t a b f = record { m = refl; x = refl; e = refl }
operated_keeps Eor s t a b f = record { m = refl; x = refl; e = refl }
operated_keeps Bit s t a b f = record { m = refl; x = refl; e = refl }
operated_keeps BitImmediate s t a b f = record { m = refl; x = refl; e = refl }
operated_keeps Load s t a b f = record { m = refl; x = refl; e = refl }

-- a low byte set leaves a register below 256 there
low_small : (w b : ℕ) → ltb w 256 ≡ true → ltb (low_set w b) 256 ≡ true
unfolding low_set
low_small w b h = lt-ltb (w / 256 * 256 + b % 256) 256 (omega (arith, ltb-true w 256 h))

narrow_x : (i : Bool) (x y b : ℕ) → implied i (ltb x 256 && ltb y 256) ≡ true → implied i (ltb (low_set x b) 256 && ltb y 256) ≡ true
narrow_x true x y b h =
    both_true (ltb (low_set x b) 256) (ltb y 256) (low_small x b (and_left (ltb x 256) (ltb y 256) h)) (and_right (ltb x 256) (ltb y 256) h)
narrow_x false x y b h = refl

narrow_y : (i : Bool) (x y b : ℕ) → implied i (ltb x 256 && ltb y 256) ≡ true → implied i (ltb x 256 && ltb (low_set y b) 256) ≡ true
narrow_y true x y b h =
    both_true (ltb x 256) (ltb (low_set y b) 256) (and_left (ltb x 256) (ltb y 256) h) (low_small y b (and_right (ltb x 256) (ltb y 256) h))
narrow_y false x y b h = refl

-- the registers are narrow where the index flag says so, and choose this list
pub record Fits (s : Shape) (o : Operation) (cs : List (Option Cycle)) (g : Regs) : Type 0 where
  pub narrow : narrowed g.flags g.x g.y ≡ true
  pub list : cycles_of s (wide_of o g.flags.memsel g.flags.indexsel) (unaligned g.d) g.flags.emulation ≡ cs

pub widths_of : (g : Regs) → narrowed g.flags g.x g.y ≡ true → widths_set g.flags ≡ true
widths_of g h = and_left (widths_set g.flags) (index_small g.flags g.x g.y) h

pub index_of : (g : Regs) → narrowed g.flags g.x g.y ≡ true → index_small g.flags g.x g.y ≡ true
index_of g h = and_right (widths_set g.flags) (index_small g.flags g.x g.y) h

-- another low byte in a register, and flags of the same widths and mode
low_narrow : (r : Reg) (b : ℕ) (f : Flags) (g : Regs) → Kept g.flags f → narrowed g.flags g.x g.y ≡ true
    → let h : Regs = pulls r Low b g in narrowed f h.x h.y ≡ true
unfolding pulls
low_narrow A b f g k h = rw (k.m, k.x, k.e) h
low_narrow X b f g k h =
    rw (k.m, k.x, k.e)
    (both_true (widths_set g.flags) (index_small g.flags (low_set g.x b) g.y) (widths_of g h) (narrow_x g.flags.indexsel g.x g.y b (index_of g h)))
low_narrow Y b f g k h =
    rw (k.m, k.x, k.e)
    (both_true (widths_set g.flags) (index_small g.flags g.x (low_set g.y b)) (widths_of g h) (narrow_y g.flags.indexsel g.x g.y b (index_of g h)))

module _ (s : Shape) (o : Operation) (cs : List (Option Cycle)) where
  operate_fits : (k : Alu) (r : Reg) (b : ℕ) (g : Regs) → Fits s o cs g → Fits s o cs (operates k r Low b g)
  unfolding operates pulls
  operate_fits k A b g h =
      let p : Byte = operated k true false (half Low g.a) b g.flags in
      let w = operated_keeps k true false (half Low g.a) b g.flags in
      record { narrow = low_narrow A p.byte p.flags g w h.narrow; list = rw (w.m, w.x, w.e) h.list }
  operate_fits k X b g h =
      let p : Byte = operated k true false (half Low g.x) b g.flags in
      let w = operated_keeps k true false (half Low g.x) b g.flags in
      record { narrow = low_narrow X p.byte p.flags g w h.narrow; list = rw (w.m, w.x, w.e) h.list }
  operate_fits k Y b g h =
      let p : Byte = operated k true false (half Low g.y) b g.flags in
      let w = operated_keeps k true false (half Low g.y) b g.flags in
      record { narrow = low_narrow Y p.byte p.flags g w h.narrow; list = rw (w.m, w.x, w.e) h.list }

  pull_fits : (r : Reg) (b : ℕ) (g : Regs) → Fits s o cs g → Fits s o cs (pulls r Low b g)
  unfolding pulls
  pull_fits A b g h = record { narrow = low_narrow A b g.flags g same_flags h.narrow; list = h.list }
  pull_fits X b g h = record { narrow = low_narrow X b g.flags g same_flags h.narrow; list = h.list }
  pull_fits Y b g h = record { narrow = low_narrow Y b g.flags g same_flags h.narrow; list = h.list }

  pub steady_fits : (c : Change) (k : Operation) (r : Record) (b : ℕ) → steady c ≡ true → Fits s o cs (regs_of r) → Fits s o cs (regs_after c k r b)
  steady_fits Keep k r b e h = h
  steady_fits (Operate Low) k r b e h = operate_fits (alu_of k) (reg_of k) b (regs_of r) h
  steady_fits (Fill Low) k r b e h = pull_fits (reg_of k) b (regs_of r) h
  steady_fits (Operate Only) k r b e h = absurd (false_true e)
  steady_fits (Operate High) k r b e h = absurd (false_true e)
  steady_fits (Fill Only) k r b e h = absurd (false_true e)
  steady_fits (Fill High) k r b e h = absurd (false_true e)
  steady_fits Apply k r b e h = absurd (false_true e)
  steady_fits Mask k r b e h = absurd (false_true e)
  steady_fits Status k r b e h = absurd (false_true e)
  steady_fits Sign k r b e h = absurd (false_true e)
  steady_fits DirectLow k r b e h = absurd (false_true e)
  steady_fits DirectHigh k r b e h = absurd (false_true e)
  steady_fits MoveByte k r b e h = absurd (false_true e)

-- ---- what a record under way does next
pub micro_under_way : (ir j pbr : ℕ) (g : Regs) (t : Mid) (s : Shape) (o : Operation) (cs : List (Option Cycle)) → Fits s o cs g → decode_of ir ≡ Some (s, o)
    → micro_of (under_way ir (suc j) pbr g t) ≡ carrying o (get_or cs (suc j) None)
unfolding micro_of
micro_under_way ir j pbr g t s o cs h k = rw (well_under_way ir j pbr g t h.narrow, k, h.list)

-- ---- the walk
module _ (o : Operation) (cs : List (Option Cycle)) (ir : ℕ) where
  -- one step of it: `f` goes on along the list, `h` looks it up again
  abbrev pub step_to : (tcu : ℕ) → Request → Change → Way → Regs → Mid → (ℕ → Regs → Mid → Ran) → (Record → Ran) → Ran
  step_to tcu q c (On pbr) g t f h = also q (pick (steady c) (f pbr g t) (h (arrived (On pbr) ir tcu g t)))
  step_to tcu q c (End pbr) g t f h = only q (Ok (arrived (End pbr) ir tcu g t))
  step_to tcu q c (Again pbr) g t f h = only q (Ok (arrived (Again pbr) ir tcu g t))

  abbrev pub step_by : Option Cycle → (tcu : ℕ) → Record → ℕ → (ℕ → Regs → Mid → Ran) → (Record → Ran) → Ran
  step_by None tcu u b f h = record { requests = []; out = Err NoCycle }
  step_by (Some c) tcu u b f h = step_to tcu (ask_of c.ask o u) c.change (way_of c.to o u b) (regs_after c.change o u b) (mid_after c.step o u b) f h

  unfoldable pub walk : (n : ℕ) → (ℕ → ℕ) → (tcu pbr : ℕ) → Regs → Mid → Ran
  walk zero b tcu pbr g t = record { requests = []; out = Ok (under_way ir tcu pbr g t) }
  walk (suc n) b tcu pbr g t = step_by (get_or cs tcu None) tcu (under_way ir tcu pbr g t) (b 0) (walk n (later b) (next_cycle tcu)) (run n (later b))

-- a run and the walk make the same step, where they go on alike
module _ (s : Shape) (o : Operation) (cs : List (Option Cycle)) (ir tcu pbr : ℕ) (g : Regs) (t : Mid) (fits : Fits s o cs g) (f : ℕ → Regs → Mid → Ran) (h : Record → Ran)
    (alike : (pbr : ℕ) (g : Regs) (t : Mid) → Fits s o cs g → h (under_way ir (next_cycle tcu) pbr g t) ≡ f pbr g t) where
  abbrev u : Record
  u = under_way ir tcu pbr g t

  to_same : (q : Request) (c : Change) (b : ℕ) (w : Way) (t' : Mid)
      → after (Ok q) (Ok (arrived w ir tcu (regs_after c o u b) t')) h ≡ step_to o cs ir tcu q c w (regs_after c o u b) t' f h
  unfolding ended
  to_same q c b (On p) t' = rw (not_zero (tcu % 8)) (ap (also q) (go (steady c) refl))
    where
      go : (v : Bool) → steady c ≡ v
          → h (arrived (On p) ir tcu (regs_after c o u b) t') ≡ pick (steady c) (f p (regs_after c o u b) t') (h (arrived (On p) ir tcu (regs_after c o u b) t'))
      go true e = rw e (alike p (regs_after c o u b) t' (steady_fits s o cs c o u b e fits))
      go false e = rw e
  to_same q c b (End p) t' = refl
  to_same q c b (Again p) t' = refl

  by_same : (x : Option Cycle) (b : ℕ) → after (asked_by (carrying o x) u) (answered_by (carrying o x) u b) h ≡ step_by o cs ir x tcu u b f h
  by_same None b = refl
  by_same (Some c) b = to_same (ask_of c.ask o u) c.change b (way_of c.to o u b) (mid_after c.step o u b)

pub cycle_is : (u : Record) (b : ℕ) (f : Record → Ran) (m : Micro) → micro_of u ≡ m
    → after (request_of u) (answer_of u b) f ≡ after (asked_by m u) (answered_by m u b) f
unfolding request_of answer_of
cycle_is u b f m e = ap (λ (x : Micro). after (asked_by x u) (answered_by x u b) f) e

pub run_walks : (n : ℕ) (b : ℕ → ℕ) (ir j pbr : ℕ) (g : Regs) (t : Mid) (s : Shape) (o : Operation) (cs : List (Option Cycle)) → Fits s o cs g → decode_of ir ≡ Some (s, o)
    → run n b (under_way ir (suc j) pbr g t) ≡ walk o cs ir n b (suc j) pbr g t
unfolding run walk
run_walks zero b ir j pbr g t s o cs h k = refl
run_walks (suc n) b ir j pbr g t s o cs h k =
    let x : Option Cycle = get_or cs (suc j) None in
    cycle_is (under_way ir (suc j) pbr g t) (b 0) (run n (later b)) (carrying o x) (micro_under_way ir j pbr g t s o cs h k)
    ∙ by_same s o cs ir (suc j) pbr g t h (walk o cs ir n (later b) (next_cycle (suc j))) (run n (later b))
    (λ pbr' g' t' fits. run_walks n (later b) ir (suc j % 8) pbr' g' t' s o cs fits k) x (b 0)
