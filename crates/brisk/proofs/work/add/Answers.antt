use Rattle.std.specs.Prelude.{◌≡◌, ℕ, Bool, true, false, ◌&&◌, eqb, leb}
use Rattle.words.specs.Words.{pick, low_of, high_of, word, low_set}
use Rattle.flags.specs.Flags.{set_nvzc}
use Rattle.flags.specs.declared.Flags.{Flags}
use Rattle.adder.specs.Adder.{adc_of, sbc_of}
use Rattle.adder.specs.declared.Sum.{Sum}
use Rattle.alu.specs.Alu.{operated_at, adc_byte, sbc_byte, summed}
use Rattle.alu.specs.declared.types.Alu.TheVariants.{Adc, Sbc}
use Rattle.alu.specs.declared.types.Word.{Word}
use Rattle.brisk.proofs.work.add.Goals as goal

-- a byte of either
abbrev one : Bool → Bool → (a b : ℕ) → Bool → Sum
one minus d a b c = pick minus (sbc_of d a b c) (adc_of d a b c)

two_bytes : (minus : Bool) (a n : ℕ) (f : Flags) (l h : Sum) → l ≡ one minus f.decimal (low_of a) (low_of n) f.carry → h ≡ one minus f.decimal (high_of a) (high_of n) l.carry →
    ◌≡◌ {A = Word} (record { word = word l.byte h.byte; flags = set_nvzc f (leb 128 h.byte) h.overflow (eqb l.byte 0 && eqb h.byte 0) h.carry }) (operated_at (pick minus Sbc Adc) true a n f)
unfolding adc_byte sbc_byte summed
two_bytes true a n f l h p q = simp (q, p)
two_bytes false a n f l h p q = simp (q, p)

one_byte : (minus : Bool) (a n : ℕ) (f : Flags) (l : Sum) → l ≡ one minus f.decimal (low_of a) (low_of n) f.carry →
    ◌≡◌ {A = Word} (record { word = low_set a l.byte; flags = set_nvzc f (leb 128 l.byte) l.overflow (eqb l.byte 0) l.carry }) (operated_at (pick minus Sbc Adc) false a n f)
unfolding adc_byte sbc_byte summed
one_byte true a n f l p = simp p
one_byte false a n f l p = simp p

pub returns-then-wide : goal.returns-then-wide
returns-then-wide c = simp (
  c.set_nvzc.ensures,
  c.join.ensures,
  c.both-z.ensures,
  c.if-wide.true,
) (two_bytes c.args.minus c.args.a c.args.n c.args.f c.sum-l.result c.sum-h.result (simp (c.sum-l.ensures, c.low.ensures, c.low-2.ensures)) (simp (c.sum-h.ensures, c.high-then-wide.ensures, c.high.ensures)))

pub returns-else-wide : goal.returns-else-wide
returns-else-wide c = simp (
  c.set_nvzc-else-wide.ensures,
  c.with_low.ensures,
  c.if-wide.false,
) (one_byte c.args.minus c.args.a c.args.n c.args.f c.sum-l.result (simp (c.sum-l.ensures, c.low.ensures, c.low-2.ensures)))
