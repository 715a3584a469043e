-- The data sheet's table: for each shape its bus cycles in order, then the record after them.
-- `b k` is the byte that is answered in cycle k, counted from 0, the opcode fetch.
-- w: 16 bits wide; d: the low byte of D isn't 0; e: emulation.
use Rattle.std.specs.Prelude.{ℕ, suc, Bool, true, false, not, ◌&&◌, List, [], ◌∷◌, ◌++◌, eqb, Option, Some, None, Result, Ok, Err}
use Rattle.cpu.specs.declared.types.Refusal.{Refusal}
use Rattle.words.specs.Words.{pick, low_of, high_of, word, inc, dec, up, down, sum16, displaced, at, sum24, same_page, page_one}
use Rattle.flags.specs.Flags.{set_byte, set_nz}
use Rattle.cpu.specs.Registers.{operates, pulls, directs, masks, moves, set_flags, applied, stack_of}
use Rattle.cpu.specs.Record.{regs_of, ended, pushed, pulled, source_of, holds}
use Rattle.cpu.specs.declared.types.Record.{Record}
use Rattle.cpu.specs.declared.types.Regs.{Regs}
use Rattle.cpu.specs.declared.types.Part.TheVariants.{Only, Low, High}
use Rattle.cpu.specs.declared.types.Stack.TheVariants.{Paged, Raw, Home}
use Rattle.cpu.specs.declared.types.Request.{Request}
use Rattle.cpu.specs.declared.types.Kind.TheVariants as kind
use Rattle.cpu.specs.declared.types.Refusal.TheVariants as refusal
use Rattle.opcodes.specs.Opcodes.{decode_of, alu_of, reg_of, source_in, one_in, cond_in, flag_in, wide_of}
use Rattle.opcodes.specs.declared.types.Operation.{Operation}
use Rattle.opcodes.specs.declared.types.Shape.{Shape}
use Rattle.opcodes.specs.declared.types.Shape.TheVariants.{Immediate, Absolute, Direct, StoreAbsolute, StoreDirect, Implied, Xba, Mask, Wdm, Push, Pull, PullP, PullB, PullD, Pea, Pei, Per, Jump, JumpLong, JumpIndirect, JumpIndirectLong, JumpIndexed, Call, CallIndexed, CallLong, Return, ReturnLong, Branch, BranchLong, Move}
use Rattle.cycles.specs.Cycles.{unaligned}
use Rattle.bus.specs.Bus.{reads, writes}
use Rattle.sheet.specs.Run.{Ran, only}

-- the sheet's letters: opcode, program, data and internal reads, and writes of data
abbrev pub O : ℕ → Request
O p = reads kind.Opcode p

abbrev pub P : ℕ → Request
P p = reads kind.Program p

abbrev pub D : ℕ → Request
D p = reads kind.Data p

abbrev pub I : ℕ → Request
I p = reads kind.Invalid p

abbrev pub W : ℕ → ℕ → Request
W p v = writes p v

-- cycles that are there only where a test passes
abbrev pub when : Bool → List Request → List Request
when true q = q
when false q = []

module _ (r : Record) (b : ℕ → ℕ) where
  -- PC + k, inside the bank, and the address K,PC+k
  abbrev pub pc : ℕ → ℕ
  pc k = up r.pc k

  abbrev pub K : ℕ → ℕ
  K k = at r.pbr (pc k)

  abbrev pub S : ℕ
  S = r.s

  abbrev pub E : Bool
  E = r.flags.emulation

  abbrev pub regs : Regs
  regs = regs_of r

  -- the word that is answered from cycle k on
  abbrev pub word_at : ℕ → ℕ
  word_at k = word (b k) (b (suc k))

  -- the operand of two bytes; absolute data and the byte after; direct data and the byte after; an entry of a table
  abbrev pub AA : ℕ
  AA = word_at 1

  abbrev pub B·AA : ℕ
  B·AA = at r.dbr AA

  abbrev pub B·AA+1 : ℕ
  B·AA+1 = sum24 B·AA 1

  abbrev pub D+DO : ℕ
  D+DO = sum16 r.d (b 1)

  abbrev pub AA+X : ℕ
  AA+X = sum16 AA r.x

  -- what is stored or pushed
  abbrev pub given : Operation → ℕ
  given o = source_of (source_in o) regs r.pbr r.dbr

  -- an operation on the bytes that are answered from cycle i on
  abbrev pub effect : Operation → (w : Bool) → (i : ℕ) → Regs
  effect o true i = operates (alu_of o) (reg_of o) High (b (suc i)) (operates (alu_of o) (reg_of o) Low (b i) regs)
  effect o false i = operates (alu_of o) (reg_of o) Only (b i) regs

  abbrev pub pulling : Operation → (w : Bool) → Regs
  pulling o true = pulls (reg_of o) High (b 4) (pulls (reg_of o) Low (b 3) regs)
  pulling o false = pulls (reg_of o) Only (b 3) regs

  -- the end, at a program counter and with a stack pointer, in this bank or in another
  abbrev pub ends_in : (pbr pc s : ℕ) → Regs → Result Record Refusal
  ends_in pbr p s g = Ok (ended (b 0) false pbr p s r.dbr g)

  abbrev pub ends : (pc s : ℕ) → Regs → Result Record Refusal
  ends p s g = ends_in r.pbr p s g

  abbrev pub sheet : Shape → Operation → (w d e : Bool) → Ran
  -- immediate: 2 + w
  sheet Immediate o w d e = record {
    requests = O (K 0) ∷ P (K 1) ∷ when w (P (K 2) ∷ []);
    out = ends (pc (pick w 3 2)) S (effect o w 1);
  }
  -- absolute, read: 4 + w
  sheet Absolute o w d e = record {
    requests = O (K 0) ∷ P (K 1) ∷ P (K 2) ∷ D B·AA ∷ when w (D B·AA+1 ∷ []);
    out = ends (pc 3) S (effect o w 3);
  }
  -- direct, read: 3 + w + d
  sheet Direct o w d e = record {
    requests = O (K 0) ∷ P (K 1) ∷ (when d (I (K 1) ∷ []) ++ (D (at 0 D+DO) ∷ when w (D (at 0 (inc D+DO)) ∷ [])));
    out = ends (pc 2) S (effect o w (pick d 3 2));
  }
  -- absolute, write: 4 + w
  sheet StoreAbsolute o w d e = record {
    requests = O (K 0) ∷ P (K 1) ∷ P (K 2) ∷ W B·AA (low_of (given o)) ∷ when w (W B·AA+1 (high_of (given o)) ∷ []);
    out = ends (pc 3) S regs;
  }
  -- direct, write: 3 + w + d
  sheet StoreDirect o w d e = record {
    requests = O (K 0) ∷ P (K 1) ∷ (when d (I (K 1) ∷ []) ++ (W (at 0 D+DO) (low_of (given o)) ∷ when w (W (at 0 (inc D+DO)) (high_of (given o)) ∷ [])));
    out = ends (pc 2) S regs;
  }
  -- accumulator and one byte: 2
  sheet Implied o w d e = record {
    requests = O (K 0) ∷ I (K 1) ∷ [];
    out = ends (pc 1) (stack_of (one_in o) S regs) (applied (one_in o) S regs);
  }
  -- XBA: 3
  sheet Xba o w d e = record {
    requests = O (K 0) ∷ I (K 1) ∷ I (K 1) ∷ [];
    out = ends (pc 1) S (applied (one_in o) S regs);
  }
  -- REP, SEP: 3; the internal cycle is past the operand (docs/DECISIONS.md)
  sheet Mask o w d e = record {
    requests = O (K 0) ∷ P (K 1) ∷ I (K 2) ∷ [];
    out = ends (pc 2) S (masks (flag_in o) (b 1) regs);
  }
  -- WDM: 2; its byte is thrown away
  sheet Wdm o w d e = record {
    requests = O (K 0) ∷ P (K 1) ∷ [];
    out = ends (pc 2) S regs;
  }
  -- PHA PHX PHY PHP PHB PHK: 3 + w; PHD: 4
  sheet Push o w d e = record {
    requests = O (K 0) ∷ I (K 1) ∷ (when w (W (at 0 S) (high_of (given o)) ∷ []) ++ (W (at 0 (down S (pick w 1 0))) (low_of (given o)) ∷ []));
    out = ends (pc 1) (down S (pick w 2 1)) regs;
  }
  -- PLA PLX PLY: 4 + w
  sheet Pull o w d e =
      let s₁ : ℕ = pulled Paged E S in
      let s₂ : ℕ = pulled Paged E s₁ in record {
        requests = O (K 0) ∷ I (K 1) ∷ I (K 1) ∷ D (at 0 s₁) ∷ when w (D (at 0 s₂) ∷ []);
        out = ends (pc 1) (pick w s₂ s₁) (pulling o w);
      }
  -- PLP: 4
  sheet PullP o w d e =
      let s₁ : ℕ = pulled Paged E S in record {
        requests = O (K 0) ∷ I (K 1) ∷ I (K 1) ∷ D (at 0 s₁) ∷ [];
        out = ends (pc 1) s₁ (set_flags (set_byte r.flags (b 3)) regs);
      }
  -- PLB: 4; S + 1 without staying in page 1
  sheet PullB o w d e =
      let s₁ : ℕ = pulled Raw E S in record {
        requests = O (K 0) ∷ I (K 1) ∷ I (K 1) ∷ D (at 0 s₁) ∷ [];
        out = Ok (ended (b 0) false r.pbr (pc 1) s₁ (b 3) (set_flags (set_nz r.flags (b 3) false) regs));
      }
  -- PLD: 5
  sheet PullD o w d e =
      let s₁ : ℕ = pulled Raw E S in
      let s₂ : ℕ = pulled Raw E s₁ in record {
        requests = O (K 0) ∷ I (K 1) ∷ I (K 1) ∷ D (at 0 s₁) ∷ D (at 0 s₂) ∷ [];
        out = ends (pc 1) s₂ (directs (word_at 3) regs);
      }
  -- PEA: 5
  sheet Pea o w d e = record {
    requests = O (K 0) ∷ P (K 1) ∷ P (K 2) ∷ W (at 0 S) (high_of AA) ∷ W (at 0 (down S 1)) (low_of AA) ∷ [];
    out = ends (pc 3) (down S 2) regs;
  }
  -- PEI: 6 + d
  sheet Pei o w d e =
      let v : ℕ = word_at (pick d 3 2) in record {
        requests = O (K 0) ∷ P (K 1) ∷ (when d (I (K 1) ∷ [])
            ++ (D (at 0 D+DO) ∷ D (at 0 (inc D+DO)) ∷ W (at 0 S) (high_of v) ∷ W (at 0 (down S 1)) (low_of v) ∷ []));
        out = ends (pc 2) (down S 2) regs;
      }
  -- PER: 6; what is pushed counts from past the operand
  sheet Per o w d e =
      let v : ℕ = sum16 (pc 3) AA in record {
        requests = O (K 0) ∷ P (K 1) ∷ P (K 2) ∷ I (K 2) ∷ W (at 0 S) (high_of v) ∷ W (at 0 (down S 1)) (low_of v) ∷ [];
        out = ends (pc 3) (down S 2) regs;
      }
  -- JMP a: 3
  sheet Jump o w d e = record {
    requests = O (K 0) ∷ P (K 1) ∷ P (K 2) ∷ [];
    out = ends AA S regs;
  }
  -- JMP long: 4
  sheet JumpLong o w d e = record {
    requests = O (K 0) ∷ P (K 1) ∷ P (K 2) ∷ P (K 3) ∷ [];
    out = ends_in (b 3) AA S regs;
  }
  -- JMP (a): 5
  sheet JumpIndirect o w d e = record {
    requests = O (K 0) ∷ P (K 1) ∷ P (K 2) ∷ D (at 0 AA) ∷ D (at 0 (up AA 1)) ∷ [];
    out = ends (word_at 3) S regs;
  }
  -- JMP [a]: 6
  sheet JumpIndirectLong o w d e = record {
    requests = O (K 0) ∷ P (K 1) ∷ P (K 2) ∷ D (at 0 AA) ∷ D (at 0 (up AA 1)) ∷ D (at 0 (up AA 2)) ∷ [];
    out = ends_in (b 5) (word_at 3) S regs;
  }
  -- JMP (a,x): 6
  sheet JumpIndexed o w d e = record {
    requests = O (K 0) ∷ P (K 1) ∷ P (K 2) ∷ I (K 2) ∷ P (at r.pbr AA+X) ∷ P (at r.pbr (inc AA+X)) ∷ [];
    out = ends (word_at 4) S regs;
  }
  -- JSR a: 6; the address of the instruction's last byte is pushed, inside page 1 in emulation
  sheet Call o w d e =
      let s₁ : ℕ = pushed E S in record {
        requests = O (K 0) ∷ P (K 1) ∷ P (K 2) ∷ I (K 2) ∷ W (at 0 S) (high_of (pc 2)) ∷ W (at 0 s₁) (low_of (pc 2)) ∷ [];
        out = ends AA (dec s₁) regs;
      }
  -- JSR (a,x): 8; likewise
  sheet CallIndexed o w d e =
      let s₁ : ℕ = pushed E S in
      let q : ℕ = sum16 (word (b 1) (b 4)) r.x in record {
        requests = O (K 0) ∷ P (K 1) ∷ W (at 0 S) (high_of (pc 2)) ∷ W (at 0 s₁) (low_of (pc 2)) ∷ P (K 2) ∷ I (K 2)
            ∷ P (at r.pbr q) ∷ P (at r.pbr (inc q)) ∷ [];
        out = ends (word_at 6) (pushed E s₁) regs;
      }
  -- JSL: 8; the internal cycle asks S + 1, S being past the pushed bank
  sheet CallLong o w d e =
      let s₁ : ℕ = down S 1 in record {
        requests = O (K 0) ∷ P (K 1) ∷ P (K 2) ∷ W (at 0 S) r.pbr ∷ I (at 0 (inc s₁)) ∷ P (K 3)
            ∷ W (at 0 s₁) (high_of (pc 3)) ∷ W (at 0 (down S 2)) (low_of (pc 3)) ∷ [];
        out = ends_in (b 5) AA (down S 3) regs;
      }
  -- RTS: 6; PC is one more than what was pulled
  sheet Return o w d e =
      let s₁ : ℕ = pulled Paged E S in
      let s₂ : ℕ = pulled Paged E s₁ in record {
        requests = O (K 0) ∷ I (K 1) ∷ I (K 1) ∷ D (at 0 s₁) ∷ D (at 0 s₂) ∷ I (at 0 (page_one E s₂)) ∷ [];
        out = ends (inc (word_at 3)) s₂ regs;
      }
  -- RTL: 6; the first pull starts in page 1 in emulation
  sheet ReturnLong o w d e =
      let s₁ : ℕ = pulled Home E S in
      let s₂ : ℕ = pulled Raw E s₁ in
      let s₃ : ℕ = pulled Raw E s₂ in record {
        requests = O (K 0) ∷ I (K 1) ∷ I (K 1) ∷ D (at 0 s₁) ∷ D (at 0 s₂) ∷ D (at 0 s₃) ∷ [];
        out = ends_in (b 5) (inc (word_at 3)) s₃ regs;
      }
  -- a branch: 2; taken it has one cycle more and, in emulation, another one where it leads to another page
  sheet Branch o w d e =
      let taken : Bool = holds (cond_in o) r.flags in
      let q : ℕ = displaced (pc 2) (low_of (b 1)) in record {
        requests = O (K 0) ∷ P (K 1) ∷ when taken (I (K 2) ∷ when (e && not (same_page (pc 2) q)) (I (K 2) ∷ []));
        out = ends (pick taken q (pc 2)) S regs;
      }
  -- BRL: 4
  sheet BranchLong o w d e = record {
    requests = O (K 0) ∷ P (K 1) ∷ P (K 2) ∷ I (K 2) ∷ [];
    out = ends (sum16 (pc 3) AA) S regs;
  }
  -- MVN, MVP, a byte: 7; destination bank, source bank; FFFF in A afterwards ends the move
  sheet Move o w d e =
      let q : ℕ = at (b 1) r.y in
      let last : Bool = eqb (dec r.a) 0xFFFF in record {
        requests = O (K 0) ∷ P (K 1) ∷ P (K 2) ∷ D (at (low_of (b 2)) r.x) ∷ W q (low_of (b 3)) ∷ I q ∷ I q ∷ [];
        out = Ok (ended (b 0) (not last) r.pbr (pick last (pc 3) (pc 0)) S (b 1) (moves (flag_in o) regs));
      }

  -- the row of an opcode; one that isn't listed is refused at its fetch
  abbrev pub row : Option (Shape × Operation) → Ran
  row None = only (O (K 0)) (Err refusal.Unlisted)
  row (Some (s, o)) = sheet s o (wide_of o r.flags.memsel r.flags.indexsel) (unaligned r.d) E

  -- the instruction that starts at r
  unfoldable pub instruction : Ran
  instruction = row (decode_of (b 0))
