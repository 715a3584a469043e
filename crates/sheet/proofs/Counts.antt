-- The sheet's rows are as long as document 01's table of counts says, and leave the program counter past the instruction.
use Prim.Native.Nat.{ℕ, ◌≤◌, ◌<◌}
use Rattle.cpu.specs.declared.types.Refusal.{Refusal}
use Rattle.std.proofs.Common.{Option, Some, Result, Ok, Err}
use native.Mathlib.Omega.{arith}
use mathlib.Core.Path.{◌≡◌, refl, ap, sym, ◌∙◌}
use mathlib.Core.Bool.{Bool, true, false, ◌&&◌}
use mathlib.Core.List.{[], ◌∷◌}
use lib.ListN.{length}
use Rattle.words.specs.Words.{bit, up}
use Rattle.cpu.specs.Record.{well_formed, ended, holds}
use Rattle.cpu.specs.declared.types.Record.{Record}
use Rattle.cpu.specs.declared.types.Source.{Source}
use Rattle.cpu.specs.declared.types.Source.TheVariants as of
use Rattle.opcodes.specs.Opcodes.{decode_of, cond_in, wide_of}
use Rattle.opcodes.specs.declared.types.Operation.{Operation}
use Rattle.opcodes.specs.declared.types.Operation.TheVariants.{Give}
use Rattle.opcodes.specs.declared.types.Shape.{Shape}
use Rattle.opcodes.specs.declared.types.Shape.TheVariants.{Immediate, Absolute, Direct, StoreAbsolute, StoreDirect, Implied, Xba, Mask, Wdm, Push, Pull, PullP, PullB, PullD, Pea, Pei, Per, Jump, JumpLong, JumpIndirect, JumpIndirectLong, JumpIndexed, Call, CallIndexed, CallLong, Return, ReturnLong, Branch, BranchLong, Move}
use Rattle.cycles.specs.Cycles.{unaligned}
use Rattle.sheet.specs.Run.{Ran, run}
use Rattle.sheet.specs.Sheet.{O, P, I, K, when, sheet, row, instruction}
use Rattle.sheet.specs.Counts.{count_of, length_of, jumps, crosses}
use Rattle.sheet.proofs.Walk.{false_true}
use Rattle.sheet.proofs.Demand2.{demand_2}

-- the cycles of a branch, whatever its tests say
branch_counts : (r : Record) (b : ℕ → ℕ) (taken e page : Bool)
    → length (O (K r b 0) ∷ P (K r b 1) ∷ when taken (I (K r b 2) ∷ when (e && page) (I (K r b 2) ∷ []))) ≡ count_of Branch false false e taken page
branch_counts r b false e page = refl
branch_counts r b true false page = refl
branch_counts r b true true false = refl
branch_counts r b true true true = refl

-- A row has as many cycles as the table says; a branch by its condition and page.
pub counts : (r : Record) (b : ℕ → ℕ) (s : Shape) (o : Operation) (w d e : Bool)
    → length (sheet r b s o w d e).requests ≡ count_of s w d e (jumps s o r.flags) (crosses r.pc (b 1))
counts r b Immediate o true d e = refl
counts r b Immediate o false d e = refl
counts r b Direct o true true e = refl
counts r b Direct o true false e = refl
counts r b Direct o false true e = refl
counts r b Direct o false false e = refl
counts r b StoreDirect o true true e = refl
counts r b StoreDirect o true false e = refl
counts r b StoreDirect o false true e = refl
counts r b StoreDirect o false false e = refl
counts r b Absolute o true d e = refl
counts r b Absolute o false d e = refl
counts r b StoreAbsolute o true d e = refl
counts r b StoreAbsolute o false d e = refl
counts r b Implied o w d e = refl
counts r b Xba o w d e = refl
counts r b Mask o w d e = refl
counts r b Wdm o w d e = refl
counts r b Push o true d e = refl
counts r b Push o false d e = refl
counts r b Pull o true d e = refl
counts r b Pull o false d e = refl
counts r b PullP o w d e = refl
counts r b PullB o w d e = refl
counts r b PullD o w d e = refl
counts r b Pea o w d e = refl
counts r b Pei o w true e = refl
counts r b Pei o w false e = refl
counts r b Per o w d e = refl
counts r b Jump o w d e = refl
counts r b JumpLong o w d e = refl
counts r b JumpIndirect o w d e = refl
counts r b JumpIndexed o w d e = refl
counts r b JumpIndirectLong o w d e = refl
counts r b Call o w d e = refl
counts r b CallIndexed o w d e = refl
counts r b CallLong o w d e = refl
counts r b Return o w d e = refl
counts r b ReturnLong o w d e = refl
counts r b BranchLong o w d e = refl
counts r b Branch o w d e = branch_counts r b (holds (cond_in o) r.flags) e (crosses r.pc (b 1))
counts r b Move o w d e = refl

-- So a run from an instruction's start makes as many requests.
pub run_counts : (r : Record) (b : ℕ → ℕ) (s : Shape) (o : Operation) → well_formed r ≡ true → r.held ≡ false → r.pc < 65536 → decode_of (b 0) ≡ Some (s, o)
    → length (run 8 b r).requests
    ≡ count_of s (wide_of o r.flags.memsel r.flags.indexsel) (unaligned r.d) r.flags.emulation (jumps s o r.flags) (crosses r.pc (b 1))
unfolding instruction
run_counts r b s o w h small k =
    ap (λ (t : Ran). length t.requests) (demand_2 r b w h small)
    ∙ ap (λ (p : Option (Shape × Operation)). length (row r b p).requests) k
    ∙ counts r b s o (wide_of o r.flags.memsel r.flags.indexsel) (unaligned r.d) r.flags.emulation

-- PHP, PHB and PHK take 3 cycles and PHD takes 4, at any widths.
pub push_counts : (m x d e taken page : Bool)
    → let n : Source → ℕ = (λ k. count_of Push (wide_of (Give k) m x) d e taken page) in (n of.P ≡ 3) × (n of.Dbr ≡ 3) × (n of.Pbr ≡ 3) × (n of.D ≡ 4)
push_counts m x d e taken page = (refl, refl, refl, refl)

-- ---- the bounds of the table
bit_small : (t : Bool) → bit t ≤ 1
bit_small true = omega arith
bit_small false = omega arith

branch_bounds : (w d e taken page : Bool) → let n : ℕ = count_of Branch w d e taken page in (2 ≤ n) × (n ≤ 8)
branch_bounds w d e false page = omega arith
branch_bounds w d false true page = omega arith
branch_bounds w d true true true = omega arith
branch_bounds w d true true false = omega arith

-- No instruction takes fewer than 2 cycles or more than 8, nor does a byte of a move.
pub count_bounds : (s : Shape) (w d e taken page : Bool) → let n : ℕ = count_of s w d e taken page in (2 ≤ n) × (n ≤ 8)
count_bounds Immediate w d e taken page = omega (arith, bit_small w, bit_small d)
count_bounds Direct w d e taken page = omega (arith, bit_small w, bit_small d)
count_bounds StoreDirect w d e taken page = omega (arith, bit_small w, bit_small d)
count_bounds Absolute w d e taken page = omega (arith, bit_small w, bit_small d)
count_bounds StoreAbsolute w d e taken page = omega (arith, bit_small w, bit_small d)
count_bounds Implied w d e taken page = omega arith
count_bounds Xba w d e taken page = omega arith
count_bounds Mask w d e taken page = omega arith
count_bounds Wdm w d e taken page = omega arith
count_bounds Push w d e taken page = omega (arith, bit_small w, bit_small d)
count_bounds Pull w d e taken page = omega (arith, bit_small w, bit_small d)
count_bounds PullP w d e taken page = omega arith
count_bounds PullB w d e taken page = omega arith
count_bounds PullD w d e taken page = omega arith
count_bounds Pea w d e taken page = omega arith
count_bounds Pei w d e taken page = omega (arith, bit_small w, bit_small d)
count_bounds Per w d e taken page = omega arith
count_bounds Jump w d e taken page = omega arith
count_bounds JumpLong w d e taken page = omega arith
count_bounds JumpIndirect w d e taken page = omega arith
count_bounds JumpIndexed w d e taken page = omega arith
count_bounds JumpIndirectLong w d e taken page = omega arith
count_bounds Call w d e taken page = omega arith
count_bounds CallIndexed w d e taken page = omega arith
count_bounds CallLong w d e taken page = omega arith
count_bounds Return w d e taken page = omega arith
count_bounds ReturnLong w d e taken page = omega arith
count_bounds BranchLong w d e taken page = omega arith
count_bounds Branch w d e taken page = branch_bounds w d e taken page
count_bounds Move w d e taken page = omega arith

-- ---- lengths
abbrev pc_of : Result Record Refusal → ℕ
pc_of (Ok t) = t.pc
pc_of (Err n) = 0

-- Where it doesn't jump, the program counter is left past the instruction's own bytes.
pub past_its_bytes : (r : Record) (b : ℕ → ℕ) (s : Shape) (o : Operation) (w d e : Bool) (t : Record) → jumps s o r.flags ≡ false → (sheet r b s o w d e).out ≡ Ok t
    → t.pc ≡ up r.pc (length_of s w)
unfolding ended
past_its_bytes r b Immediate o true d e t h i = sym (ap pc_of i)
past_its_bytes r b Immediate o false d e t h i = sym (ap pc_of i)
past_its_bytes r b Direct o w d e t h i = sym (ap pc_of i)
past_its_bytes r b StoreDirect o w d e t h i = sym (ap pc_of i)
past_its_bytes r b Absolute o w d e t h i = sym (ap pc_of i)
past_its_bytes r b StoreAbsolute o w d e t h i = sym (ap pc_of i)
past_its_bytes r b Implied o w d e t h i = sym (ap pc_of i)
past_its_bytes r b Xba o w d e t h i = sym (ap pc_of i)
past_its_bytes r b Mask o w d e t h i = sym (ap pc_of i)
past_its_bytes r b Wdm o w d e t h i = sym (ap pc_of i)
past_its_bytes r b Push o w d e t h i = sym (ap pc_of i)
past_its_bytes r b Pull o w d e t h i = sym (ap pc_of i)
past_its_bytes r b PullP o w d e t h i = sym (ap pc_of i)
past_its_bytes r b PullB o w d e t h i = sym (ap pc_of i)
past_its_bytes r b PullD o w d e t h i = sym (ap pc_of i)
past_its_bytes r b Pea o w d e t h i = sym (ap pc_of i)
past_its_bytes r b Pei o w d e t h i = sym (ap pc_of i)
past_its_bytes r b Per o w d e t h i = sym (ap pc_of i)
past_its_bytes r b Jump o w d e t h i = absurd (false_true (sym h))
past_its_bytes r b JumpLong o w d e t h i = absurd (false_true (sym h))
past_its_bytes r b JumpIndirect o w d e t h i = absurd (false_true (sym h))
past_its_bytes r b JumpIndexed o w d e t h i = absurd (false_true (sym h))
past_its_bytes r b JumpIndirectLong o w d e t h i = absurd (false_true (sym h))
past_its_bytes r b Call o w d e t h i = absurd (false_true (sym h))
past_its_bytes r b CallIndexed o w d e t h i = absurd (false_true (sym h))
past_its_bytes r b CallLong o w d e t h i = absurd (false_true (sym h))
past_its_bytes r b Return o w d e t h i = absurd (false_true (sym h))
past_its_bytes r b ReturnLong o w d e t h i = absurd (false_true (sym h))
past_its_bytes r b BranchLong o w d e t h i = absurd (false_true (sym h))
past_its_bytes r b Branch o w d e t h i = sym (ap pc_of i) ∙ rw h
past_its_bytes r b Move o w d e t h i = absurd (false_true (sym h))
