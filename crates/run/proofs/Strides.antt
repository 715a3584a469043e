-- A quick instruction at a stride comes to what its cycles come to, one after the other.
use Prim.Native.Nat.{ℕ, ◌+◌, ◌<◌}
use Rattle.std.proofs.Common.{Result, Ok}
use mathlib.Core.Path.{◌≡◌, refl, ap, sym, subst, ◌∙◌}
use mathlib.Core.Logic.{◌≢◌}
use mathlib.Core.Bool.{Bool, true, false, not, ◌&&◌}
use mathlib.Core.List.{List, [], ◌∷◌}
use native.Mathlib.Omega.{arith}
use lib.ListN.{length, get_or, set, length-set}
use lib.Seq.{get_or-set_same, get_or-set_other}
use Rattle.words.specs.Words.{pick, bit, low_of, high_of, inc, up, sum16, sum24, displaced, at, same_page}
use Rattle.alu.specs.declared.types.Alu.{Alu}
use Rattle.cpu.specs.Record.{regs_of, ended, holds, source_of}
use Rattle.cpu.specs.Registers.{applied, stack_of}
use Rattle.cpu.specs.declared.types.Record.{Record}
use Rattle.cpu.specs.declared.types.Refusal.{Refusal}
use Rattle.cpu.specs.declared.types.Reg.{Reg}
use Rattle.cpu.specs.declared.types.Regs.{Regs}
use Rattle.cpu.specs.declared.types.Source.{Source}
use Rattle.cpu.specs.declared.types.Request.{Request}
use Rattle.cpu.specs.declared.types.Kind.{Kind}
use Rattle.cpu.specs.declared.types.Kind.TheVariants as kind
use Rattle.opcodes.specs.Opcodes.{one_in, cond_in, flag_in}
use Rattle.opcodes.specs.declared.types.Operation.{Operation}
use Rattle.opcodes.specs.declared.types.Operation.TheVariants as operation
use Rattle.opcodes.specs.declared.types.Shape.TheVariants as shape
use Rattle.quick.specs.declared.types.Mode.TheVariants.{Immediate, Direct, Absolute}
use Rattle.sheet.specs.Run.{Ran, run}
use Rattle.sheet.specs.Sheet.{sheet, O, P, I, when}
use Rattle.sheet.proofs.Demand2.{instead}
use Rattle.run.specs.Runs.{size}
use Rattle.stride.specs.Strides.{there, operand, immediate_spot, direct_spot, absolute_spot, reading, storing, branching, placed, kept, leg, arrived}
use Rattle.haul.specs.Hauls.{hauled, carried}
use Rattle.tracks.specs.Tracks.{reads, writes, track_lines, haul_lines}
use Rattle.tracks.specs.declared.types.Track.TheVariants.{Inside, Program, Branch, ReadDirect, StoreDirect, ReadAbsolute, StoreAbsolute}
use Rattle.run.specs.Passes.{Leaves}
use Rattle.run.proofs.Whole.{Answers, stores_all, lines_all, leaves_run}

-- the bytes of a list, one a cycle
abbrev heard : List ℕ → ℕ → ℕ
heard l k = get_or l k 0

-- ---- addresses
at_zero : (p : ℕ) → at 0 p ≡ p
unfolding at
at_zero p = omega arith

inc_small : (p : ℕ) → inc p < 65536
unfolding inc
inc_small p = omega arith

sum_small : (p q : ℕ) → sum16 p q < 65536
unfolding sum16
sum_small p q = omega arith

next_place : (p : ℕ) → p < 65535 → sum24 p 1 ≡ inc p
unfolding sum24 inc
next_place p h = omega arith

module _ (r : Record) (m : List ℕ) (whole : length m ≡ size) (bank : r.pbr ≡ 0) (small : r.pc < 65536) where
  -- a row of the sheet that the record's cycles come to, over the memory
  leaves_row : (b : ℕ → ℕ) (v : Ran) (u : Record) (ls : List Request) → run 8 b r ≡ v → v.out ≡ Ok u → Answers m b v.requests
      → lines_all m v.requests ≡ ls → Leaves (length v.requests) r m u (stores_all m v.requests) ls
  leaves_row b v u ls e out x told =
      subst (Leaves (length v.requests) r m u (stores_all m v.requests)) told
      (subst (λ (t : Ran). t.out ≡ Ok u → Answers m b t.requests
      → Leaves (length t.requests) r m u (stores_all m t.requests) (lines_all m t.requests)) e (leaves_run 8 b m whole r u) out x)

  -- program bytes, and data in bank 0
  fetched_inside : (p : ℕ) → p < 65536 → at r.pbr p < size
  fetched_inside p h = rw (bank, at_zero p) h

  fetched : (p : ℕ) → get_or m p 0 ≡ get_or m (at r.pbr p) 0
  fetched p = rw (bank, at_zero p)

  near_inside : (p : ℕ) → p < 65536 → at 0 p < size
  near_inside p h = rw (at_zero p) h

  near : (p : ℕ) → get_or m p 0 ≡ get_or m (at 0 p) 0
  near p = rw (at_zero p)

  abbrev op : ℕ
  op = there r m r.pc

  abbrev p₁ : ℕ
  p₁ = up r.pc 1

  abbrev p₂ : ℕ
  p₂ = up r.pc 2

  abbrev b₁ : ℕ
  b₁ = there r m p₁

  abbrev b₂ : ℕ
  b₂ = there r m p₂

  -- ---- lines, one by one
  and : (q u : Request) (qs us : List Request) → q ≡ u → qs ≡ us → (q ∷ qs) ≡ (u ∷ us)
  and q u qs us e f = ap (λ (v : Request). v ∷ qs) e ∙ ap (λ (v : List Request). u ∷ v) f

  home : (p : ℕ) → at r.pbr p ≡ p
  home p = rw (bank, at_zero p)

  line_at : (k : Kind) (a p : ℕ) → a ≡ p → reads k a (get_or m a 0) ≡ reads k p (get_or m p 0)
  line_at k a p e = ap (λ (v : ℕ). reads k v (get_or m v 0)) e

  stored_at : (a p v b : ℕ) → a ≡ p → v ≡ b → writes a v ≡ writes p b
  stored_at a p v b e f = ap (λ (z : ℕ). writes z v) e ∙ ap (writes p) f

  -- the lines of the opcode and the bytes after it
  opcode_line : reads kind.Opcode (at r.pbr r.pc) (get_or m (at r.pbr r.pc) 0) ≡ reads kind.Opcode r.pc op
  opcode_line = line_at kind.Opcode _ _ (home r.pc)

  after_line : (k : Kind) (p : ℕ) → reads k (at r.pbr p) (get_or m (at r.pbr p) 0) ≡ reads k p (there r m p)
  after_line k p = line_at k _ _ (home p)

  -- what was stored is there
  not_next : (p : ℕ) → p < 65536 → p ≢ inc p
  unfolding inc
  not_next p h e = omega (arith, h, e)

  placed_low : (w : Bool) (p v : ℕ) → p < 65536 → low_of v ≡ get_or (placed w p v m) p 0
  placed_low true p v h =
      sym (get_or-set_other (set m p (low_of v)) (inc p) p (high_of v) 0 (not_next p h) ∙ get_or-set_same m p (low_of v) 0 (rw whole h))
  placed_low false p v h = sym (get_or-set_same m p (low_of v) 0 (rw whole h))

  placed_high : (p v : ℕ) → high_of v ≡ get_or (placed true p v m) (inc p) 0
  placed_high p v = sym (get_or-set_same (set m p (low_of v)) (inc p) (high_of v) 0 (rw (length-set m p (low_of v), whole) (inc_small p)))

  in_bank : (p s : ℕ) (g : Regs) → ◌≡◌ {A = Result Record Refusal} (Ok (ended op false r.pbr p s r.dbr g)) (Ok (ended op false 0 p s r.dbr g))
  in_bank p s g = ap (λ (z : ℕ). Ok (ended op false z p s r.dbr g)) bank

  -- ---- reads
  module _ (k : Alu) (g : Reg) (e : Bool) where
    abbrev read : Operation
    read = operation.Read k g

    abbrev immediate_bus : ℕ → ℕ
    immediate_bus = heard (op ∷ b₁ ∷ b₂ ∷ [])

    pub immediate_leaves : (w d : Bool) → run 8 immediate_bus r ≡ sheet r immediate_bus shape.Immediate read w d e
        → Leaves (2 + bit w) r m (arrived op (reading r m (immediate_spot r m w) k g w)) m (track_lines Program d op b₁ b₂ r.pc (operand r m) (2 + bit w) m)
    immediate_leaves true d h =
        leaves_row immediate_bus _ _ _ h (in_bank _ _ _)
        (fetched_inside _ small, fetched _, (fetched_inside _ (inc_small _), fetched _, (fetched_inside _ (inc_small _), fetched _, tt)))
        (simp (bank, at_zero))
    immediate_leaves false d h =
        leaves_row immediate_bus _ _ _ h (in_bank _ _ _)
        (fetched_inside _ small, fetched _, (fetched_inside _ (inc_small _), fetched _, tt))
        (simp (bank, at_zero))

    -- direct: the idle cycle asks the operand's byte again
    abbrev q : ℕ
    q = sum16 r.d b₁

    abbrev pub direct_bus : Bool → ℕ → ℕ
    direct_bus true = heard (op ∷ b₁ ∷ b₁ ∷ there r m q ∷ there r m (inc q) ∷ [])
    direct_bus false = heard (op ∷ b₁ ∷ there r m q ∷ there r m (inc q) ∷ [])

    pub direct_leaves : (w d : Bool) → run 8 (direct_bus d) r ≡ sheet r (direct_bus d) shape.Direct read w d e
        → Leaves (3 + bit w + bit d) r m (arrived op (reading r m (direct_spot r m w) k g w)) m (track_lines ReadDirect d op b₁ b₂ r.pc q (3 + bit w + bit d) m)
    direct_leaves true true h =
        leaves_row (direct_bus true) _ _ _ h (in_bank _ _ _) (
          fetched_inside _ small,
          fetched _,
          (
            fetched_inside _ (inc_small _),
            fetched _,
            (
              fetched_inside _ (inc_small _),
              fetched _,
              (near_inside _ (sum_small _ _), near _, (near_inside _ (inc_small _), near _, tt)),
            ),
          ),
        )
        (simp (bank, at_zero))
    direct_leaves false true h =
        leaves_row (direct_bus true) _ _ _ h (in_bank _ _ _) (
          fetched_inside _ small,
          fetched _,
          (
            fetched_inside _ (inc_small _),
            fetched _,
            (
              fetched_inside _ (inc_small _),
              fetched _,
              (near_inside _ (sum_small _ _), near _, tt),
            ),
          ),
        )
        (simp (bank, at_zero))
    direct_leaves true false h =
        leaves_row (direct_bus false) _ _ _ h (in_bank _ _ _) (
          fetched_inside _ small,
          fetched _,
          (
            fetched_inside _ (inc_small _),
            fetched _,
            (near_inside _ (sum_small _ _), near _, (near_inside _ (inc_small _), near _, tt)),
          ),
        )
        (simp (bank, at_zero))
    direct_leaves false false h =
        leaves_row (direct_bus false) _ _ _ h (in_bank _ _ _)
        (fetched_inside _ small, fetched _, (fetched_inside _ (inc_small _), fetched _, (near_inside _ (sum_small _ _), near _, tt)))
        (simp (bank, at_zero))

    -- absolute, inside the memory
    module _ (data-bank : r.dbr ≡ 0) (room : operand r m < 65535) where
      far_inside : at r.dbr (operand r m) < size
      far_inside = rw (data-bank, at_zero (operand r m)) (omega (arith, room))

      far : get_or m (operand r m) 0 ≡ get_or m (at r.dbr (operand r m)) 0
      far = rw (data-bank, at_zero (operand r m))

      far_home : at r.dbr (operand r m) ≡ operand r m
      far_home = rw (data-bank, at_zero (operand r m))

      next_far : sum24 (at r.dbr (operand r m)) 1 ≡ inc (operand r m)
      next_far = rw (data-bank, at_zero (operand r m)) (next_place (operand r m) room)

      next_inside : sum24 (at r.dbr (operand r m)) 1 < size
      next_inside = rw next_far (inc_small (operand r m))

      next : get_or m (inc (operand r m)) 0 ≡ get_or m (sum24 (at r.dbr (operand r m)) 1) 0
      next = rw next_far

      abbrev absolute_bus : ℕ → ℕ
      absolute_bus = heard (op ∷ b₁ ∷ b₂ ∷ there r m (operand r m) ∷ there r m (inc (operand r m)) ∷ [])

      pub absolute_leaves : (w d : Bool) → run 8 absolute_bus r ≡ sheet r absolute_bus shape.Absolute read w d e
          → Leaves (4 + bit w) r m (arrived op (reading r m (absolute_spot r m w) k g w)) m
          (track_lines ReadAbsolute d op b₁ b₂ r.pc (operand r m) (4 + bit w) m)
      absolute_leaves true d h =
          leaves_row absolute_bus _ _ _ h (in_bank _ _ _) (
            fetched_inside _ small,
            fetched _,
            (
              fetched_inside _ (inc_small _),
              fetched _,
              (
                fetched_inside _ (inc_small _),
                fetched _,
                (far_inside, far, (next_inside, next, tt)),
              ),
            ),
          )
          (and _ _ _ _ opcode_line (and _ _ _ _ (after_line kind.Program _) (and _ _ _ _ (after_line kind.Program _)
          (and _ _ _ _ (line_at kind.Data _ _ far_home) (and _ _ _ _ (line_at kind.Data _ _ next_far) refl)))))
      absolute_leaves false d h =
          leaves_row absolute_bus _ _ _ h (in_bank _ _ _)
          (fetched_inside _ small, fetched _, (fetched_inside _ (inc_small _), fetched _, (fetched_inside _ (inc_small _), fetched _, (far_inside, far, tt))))
          (and _ _ _ _ opcode_line (and _ _ _ _ (after_line kind.Program _) (and _ _ _ _ (after_line kind.Program _)
          (and _ _ _ _ (line_at kind.Data _ _ far_home) refl))))

  -- the same, by what the memory comes to
  leaves_to : (b : ℕ → ℕ) (v : Ran) (u : Record) (k : List ℕ) (ls : List Request) → run 8 b r ≡ v → v.out ≡ Ok u → Answers m b v.requests
      → stores_all m v.requests ≡ k → lines_all m v.requests ≡ ls → Leaves (length v.requests) r m u k ls
  leaves_to b v u k ls h out x e told = subst (λ (z : List ℕ). Leaves (length v.requests) r m u z ls) e (leaves_row b v u ls h out x told)

  -- ---- stores
  module _ (src : Source) (e : Bool) where
    abbrev give : Operation
    give = operation.Give src

    abbrev value : ℕ
    value = source_of src (regs_of r) r.pbr r.dbr

    abbrev spot_direct : ℕ
    spot_direct = sum16 r.d b₁

    abbrev pub store_bus : Bool → ℕ → ℕ
    store_bus true = heard (op ∷ b₁ ∷ b₁ ∷ low_of value ∷ high_of value ∷ [])
    store_bus false = heard (op ∷ b₁ ∷ low_of value ∷ high_of value ∷ [])

    pub store_direct_leaves : (w d : Bool) → run 8 (store_bus d) r ≡ sheet r (store_bus d) shape.StoreDirect give w d e
        → Leaves (3 + bit w + bit d) r m (arrived op (storing r m (direct_spot r m w))) (placed w spot_direct value m)
        (track_lines StoreDirect d op b₁ b₂ r.pc spot_direct (3 + bit w + bit d) (placed w spot_direct value m))
    store_direct_leaves true true h =
        leaves_to (store_bus true) _ _ _ _ h (in_bank _ _ _) (
          fetched_inside _ small,
          fetched _,
          (
            fetched_inside _ (inc_small _),
            fetched _,
            (
              fetched_inside _ (inc_small _),
              fetched _,
              (near_inside _ (sum_small _ _), refl, (near_inside _ (inc_small _), refl, tt)),
            ),
          ),
        )
        (rw (at_zero spot_direct, at_zero (inc spot_direct)))
        (and _ _ _ _ opcode_line (and _ _ _ _ (after_line kind.Program _)
        (and _ _ _ _ (after_line kind.Invalid _)
        (and _ _ _ _ (stored_at _ _ _ _ (at_zero spot_direct) (placed_low true spot_direct value (sum_small _ _))) (and _ _ _ _ (stored_at _ _ _ _ (at_zero (inc spot_direct)) (placed_high spot_direct value)) refl)))))
    store_direct_leaves false true h =
        leaves_to (store_bus true) _ _ _ _ h (in_bank _ _ _) (
          fetched_inside _ small,
          fetched _,
          (
            fetched_inside _ (inc_small _),
            fetched _,
            (
              fetched_inside _ (inc_small _),
              fetched _,
              (near_inside _ (sum_small _ _), refl, tt),
            ),
          ),
        )
        (rw at_zero)
        (and _ _ _ _ opcode_line (and _ _ _ _ (after_line kind.Program _)
        (and _ _ _ _ (after_line kind.Invalid _)
        (and _ _ _ _ (stored_at _ _ _ _ (at_zero spot_direct) (placed_low false spot_direct value (sum_small _ _))) refl))))
    store_direct_leaves true false h =
        leaves_to (store_bus false) _ _ _ _ h (in_bank _ _ _) (
          fetched_inside _ small,
          fetched _,
          (
            fetched_inside _ (inc_small _),
            fetched _,
            (near_inside _ (sum_small _ _), refl, (near_inside _ (inc_small _), refl, tt)),
          ),
        )
        (rw (at_zero spot_direct, at_zero (inc spot_direct)))
        (and _ _ _ _ opcode_line (and _ _ _ _ (after_line kind.Program _)
        (and _ _ _ _ (stored_at _ _ _ _ (at_zero spot_direct) (placed_low true spot_direct value (sum_small _ _))) (and _ _ _ _ (stored_at _ _ _ _ (at_zero (inc spot_direct)) (placed_high spot_direct value)) refl))))
    store_direct_leaves false false h =
        leaves_to (store_bus false) _ _ _ _ h (in_bank _ _ _)
        (fetched_inside _ small, fetched _, (fetched_inside _ (inc_small _), fetched _, (near_inside _ (sum_small _ _), refl, tt)))
        (rw at_zero)
        (and _ _ _ _ opcode_line (and _ _ _ _ (after_line kind.Program _)
        (and _ _ _ _ (stored_at _ _ _ _ (at_zero spot_direct) (placed_low false spot_direct value (sum_small _ _))) refl)))

    module _ (data-bank : r.dbr ≡ 0) (room : operand r m < 65535) where
      there_inside : at r.dbr (operand r m) < size
      there_inside = rw (data-bank, at_zero (operand r m)) (omega (arith, room))

      there_home : at r.dbr (operand r m) ≡ operand r m
      there_home = rw (data-bank, at_zero (operand r m))

      next_is : sum24 (at r.dbr (operand r m)) 1 ≡ inc (operand r m)
      next_is = rw (data-bank, at_zero (operand r m)) (next_place (operand r m) room)

      abbrev far_bus : ℕ → ℕ
      far_bus = heard (op ∷ b₁ ∷ b₂ ∷ low_of value ∷ high_of value ∷ [])

      pub store_absolute_leaves : (w d : Bool) → run 8 far_bus r ≡ sheet r far_bus shape.StoreAbsolute give w d e
          → Leaves (4 + bit w) r m (arrived op (storing r m (absolute_spot r m w))) (placed w (operand r m) value m)
          (track_lines StoreAbsolute d op b₁ b₂ r.pc (operand r m) (4 + bit w) (placed w (operand r m) value m))
      store_absolute_leaves true d h =
          leaves_to far_bus _ _ _ _ h (in_bank _ _ _) (
            fetched_inside _ small,
            fetched _,
            (
              fetched_inside _ (inc_small _),
              fetched _,
              (
                fetched_inside _ (inc_small _),
                fetched _,
                (there_inside, refl, (rw next_is (inc_small (operand r m)), refl, tt)),
              ),
            ),
          )
          (rw (next_is, data-bank, at_zero))
          (and _ _ _ _ opcode_line (and _ _ _ _ (after_line kind.Program _) (and _ _ _ _ (after_line kind.Program _)
          (and _ _ _ _ (stored_at _ _ _ _ there_home (placed_low true (operand r m) value (omega (arith, room)))) (and _ _ _ _ (stored_at _ _ _ _ next_is (placed_high (operand r m) value)) refl)))))
      store_absolute_leaves false d h =
          leaves_to far_bus _ _ _ _ h (in_bank _ _ _)
          (fetched_inside _ small, fetched _, (fetched_inside _ (inc_small _), fetched _, (fetched_inside _ (inc_small _), fetched _, (there_inside, refl, tt))))
          (rw (data-bank, at_zero))
          (and _ _ _ _ opcode_line (and _ _ _ _ (after_line kind.Program _) (and _ _ _ _ (after_line kind.Program _)
          (and _ _ _ _ (stored_at _ _ _ _ there_home (placed_low false (operand r m) value (omega (arith, room)))) refl))))

  -- ---- one byte, jumps, branches
  abbrev plain_bus : ℕ → ℕ
  plain_bus = heard (op ∷ b₁ ∷ b₂ ∷ b₂ ∷ [])

  pub do_leaves : (o : Operation) (w d e : Bool) → run 8 plain_bus r ≡ sheet r plain_bus shape.Implied o w d e
      → Leaves 2 r m (arrived op (leg 2 p₁ (stack_of (one_in o) r.s (regs_of r)) r.dbr (applied (one_in o) r.s (regs_of r)))) m
      (track_lines Inside d op b₁ b₂ r.pc (operand r m) 2 m)
  do_leaves o w d e h = leaves_row plain_bus _ _ _ h (in_bank _ _ _) (fetched_inside _ small, fetched _, (fetched_inside _ (inc_small _), fetched _, tt))
      (simp (bank, at_zero))

  pub jump_leaves : (o : Operation) (w d e : Bool) → run 8 plain_bus r ≡ sheet r plain_bus shape.Jump o w d e
      → Leaves 3 r m (arrived op (kept 3 (operand r m) r)) m (track_lines Program d op b₁ b₂ r.pc (operand r m) 3 m)
  jump_leaves o w d e h =
      leaves_row plain_bus _ _ _ h (in_bank _ _ _)
      (fetched_inside _ small, fetched _, (fetched_inside _ (inc_small _), fetched _, (fetched_inside _ (inc_small _), fetched _, tt)))
      (simp (bank, at_zero))

  abbrev to : ℕ
  to = displaced p₂ (low_of b₁)

  -- a branch's row, by whether it is taken and has the page's cycle
  abbrev branch_row : (taken page : Bool) → Ran
  branch_row t p = record {
    requests = O (at r.pbr r.pc) ∷ P (at r.pbr p₁) ∷ when t (I (at r.pbr p₂) ∷ when p (I (at r.pbr p₂) ∷ []));
    out = Ok (ended op false r.pbr (pick t to p₂) r.s r.dbr (regs_of r));
  }

  branch_row_lem : (d t p : Bool) → run 8 plain_bus r ≡ branch_row t p
      → Leaves (pick t (3 + bit p) 2) r m (arrived op (kept (pick t (3 + bit p) 2) (pick t to p₂) r)) m
      (track_lines Branch d op b₁ b₂ r.pc (operand r m) (pick t (3 + bit p) 2) m)
  branch_row_lem d false p h = leaves_row plain_bus _ _ _ h (in_bank _ _ _) (fetched_inside _ small, fetched _, (fetched_inside _ (inc_small _), fetched _, tt))
      (simp (bank, at_zero))
  branch_row_lem d true false h =
      leaves_row plain_bus _ _ _ h (in_bank _ _ _)
      (fetched_inside _ small, fetched _, (fetched_inside _ (inc_small _), fetched _, (fetched_inside _ (inc_small _), fetched _, tt)))
      (simp (bank, at_zero))
  branch_row_lem d true true h =
      leaves_row plain_bus _ _ _ h (in_bank _ _ _)
      (fetched_inside _ small, fetched _, (fetched_inside _ (inc_small _), fetched _, (fetched_inside _ (inc_small _), fetched _, (fetched_inside _ (inc_small _), fetched _, tt))))
      (simp (bank, at_zero))

  pub branch_leaves : (o : Operation) (w d : Bool) → run 8 plain_bus r ≡ sheet r plain_bus shape.Branch o w d r.flags.emulation
      → let t : Bool = holds (cond_in o) r.flags in
      Leaves (branching r m t).cycles r m (arrived op (branching r m t)) m (track_lines Branch d op b₁ b₂ r.pc (operand r m) (branching r m t).cycles m)
  branch_leaves o w d h = branch_row_lem d (holds (cond_in o) r.flags) (r.flags.emulation && not (same_page p₂ to)) h

  -- ---- a byte of a move that is under way, inside bank 0
  module _ (o : Operation) (x-small : r.x < 65536) (y-small : r.y < 65536) (banks : (b₁ ≡ 0) × (b₂ ≡ 0)) where
    abbrev byte : ℕ
    byte = there r m r.x

    abbrev move_bus : ℕ → ℕ
    move_bus = heard (op ∷ b₁ ∷ b₂ ∷ byte ∷ low_of byte ∷ get_or (carried r m) r.y 0 ∷ get_or (carried r m) r.y 0 ∷ [])

    -- the byte is where it was put
    moved_there : low_of byte ≡ get_or (carried r m) r.y 0
    moved_there = sym (get_or-set_same m r.y (low_of byte) 0 (rw whole y-small))

    to_home : at b₁ r.y ≡ r.y
    to_home = rw (banks.0, at_zero r.y)

    from_home : at (low_of b₂) r.x ≡ r.x
    from_home = rw (banks.1, at_zero r.x)

    source_line : reads kind.Data (at (low_of b₂) r.x) (get_or m (at (low_of b₂) r.x) 0) ≡ reads kind.Data r.x byte
    source_line = line_at kind.Data _ _ from_home

    idle_line : reads kind.Invalid (at b₁ r.y) (get_or (set m (at b₁ r.y) (low_of byte)) (at b₁ r.y) 0) ≡ reads kind.Invalid r.y (get_or (carried r m) r.y 0)
    idle_line = ap (λ (z : ℕ). reads kind.Invalid z (get_or (set m z (low_of byte)) z 0)) to_home

    pub move_leaves : (w d e : Bool) → run 8 move_bus r ≡ sheet r (instead r.ir move_bus) shape.Move o w d e
        → Leaves 7 r m (hauled (flag_in o) r) (carried r m) (haul_lines op b₁ b₂ r.pc r.x r.y byte (get_or (carried r m) r.y 0))
    move_leaves w d e h =
        leaves_to move_bus _ _ _ _ h (rw (bank, banks.0)) (
          fetched_inside _ small,
          fetched _,
          (
            fetched_inside _ (inc_small _),
            fetched _,
            (
              fetched_inside _ (inc_small _),
              fetched _,
              (
                rw (banks.1, at_zero) x-small,
                rw (banks.1, at_zero),
                (
                  rw (banks.0, at_zero) y-small,
                  refl,
                  (rw (banks.0, at_zero) y-small, rw (banks.0, at_zero), (rw (banks.0, at_zero) y-small, rw (banks.0, at_zero), tt)),
                ),
              ),
            ),
          ),
        )
        (rw (banks.0, at_zero))
        (and _ _ _ _ opcode_line (and _ _ _ _ (after_line kind.Program _) (and _ _ _ _ (after_line kind.Program _)
        (and _ _ _ _ source_line (and _ _ _ _ (stored_at _ _ _ _ to_home moved_there) (and _ _ _ _ idle_line (and _ _ _ _ idle_line refl)))))))
