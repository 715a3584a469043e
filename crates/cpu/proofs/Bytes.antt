-- An operation that comes byte by byte is the one at its width: so what alu's laws say at 8 and at 16 bits holds of A, X and Y.
-- The definitions take any number for a byte, and a word keeps a byte of what is given it as its low one, where an operation looks at all
-- of it. So the low byte has to be one, below 256; a high byte may be anything, and so may what is pulled.
use Prim.Native.Nat.{ℕ, ◌/◌, ◌%◌, ◌<◌}
use mathlib.Core.Path.{◌≡◌}
use mathlib.Core.Bool.{true, false}
use native.Mathlib.Omega.{arith}
use Rattle.words.specs.Words.{word, low_set}
use Rattle.flags.specs.Flags.{set_nz}
use Rattle.alu.specs.Alu.{operated_at}
use Rattle.alu.specs.declared.types.Alu.{Alu}
use Rattle.alu.specs.declared.types.Word.{Word}
use Rattle.cpu.specs.Registers.{get, put, set_flags, operates, pulls}
use Rattle.cpu.specs.declared.types.Regs.{Regs}
use Rattle.cpu.specs.declared.types.Reg.{Reg}
use Rattle.cpu.specs.declared.types.Reg.TheVariants.{A, X, Y}
use Rattle.cpu.specs.declared.types.Part.TheVariants.{Only, Low, High}

-- the registers with a result in one of them, and its flags
abbrev pub with : Reg → Word → Regs → Regs
with r t g = set_flags t.flags (put r t.word g)

-- a word whose low byte was set, and then its high one
high_stays : (v l : ℕ) → low_set v l / 256 ≡ v / 256
unfolding low_set
high_stays v l = omega arith

both_set : (v l h : ℕ) → word (low_set v l) h ≡ word l h
unfolding low_set word
both_set v l h = omega arith

-- the bytes of a word of two
low_of_word : (l h : ℕ) → l < 256 → word l h % 256 ≡ l
unfolding word
low_of_word l h p = omega arith

high_of_word : (l h : ℕ) → word l h / 256 ≡ h
unfolding word
high_of_word l h = omega arith

module _ (k : Alu) (l h : ℕ) (g : Regs) (p : l < 256) where
  -- 16 bits: the low byte and then the high one
  pub two_bytes : (r : Reg) → operates k r High h (operates k r Low l g) ≡ with r (operated_at k true (get r g) (word l h) g.flags) g
  unfolding operates
  two_bytes A = rw (high_stays, both_set, low_of_word l h p, high_of_word)
  two_bytes X = rw (high_stays, both_set, low_of_word l h p, high_of_word)
  two_bytes Y = rw (high_stays, both_set, low_of_word l h p, high_of_word)

-- 8 bits: the only byte
pub one_byte : (k : Alu) (b : ℕ) (g : Regs) → b < 256 → (r : Reg) → operates k r Only b g ≡ with r (operated_at k false (get r g) b g.flags) g
unfolding operates
one_byte k b g p r = let same : b % 256 ≡ b = omega arith in rw same

-- a word that is pulled is its two bytes, and N and Z are the word's
pub pulled_word : (l h : ℕ) (g : Regs) (r : Reg) → pulls r High h (pulls r Low l g) ≡ set_flags (set_nz g.flags (word l h) true) (put r (word l h) g)
unfolding pulls
pulled_word l h g A = rw both_set
pulled_word l h g X = rw both_set
pulled_word l h g Y = rw both_set
