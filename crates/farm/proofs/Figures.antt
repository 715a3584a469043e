-- The figures, by computation.
use mathlib.Core.Path.{refl}
use native.Mathlib.Omega.{arith}
use Rattle.words.specs.Words.{word, low_set, inc, at, page_one, index}
use Rattle.adder.specs.Adder.{adc_binary, adc_decimal, sbc_decimal, adc_of, sbc_of}
use Rattle.alu.specs.Alu.{summed, adc_byte, sbc_byte}
use Rattle.cpu.specs.Registers.{operates}
use Rattle.cpu.specs.Record.{well_formed, ended}
use Rattle.opcodes.specs.Opcodes.{one_bytes, opcodes, decode_of}
use Rattle.step.specs.Cycle.{micro_of, request_of, answer_of}
use Rattle.sheet.specs.Run.{run}
use Rattle.farm.specs.Pairs.{heard, tally}
use Rattle.farm.specs.Figures.{FiguresHold}

pub figures_hold : FiguresHold
unfolding tally heard run request_of answer_of micro_of decode_of opcodes one_bytes well_formed ended operates summed adc_byte sbc_byte adc_binary adc_decimal sbc_decimal adc_of sbc_of word low_set inc at page_one index
figures_hold = record {
  paper = refl;
  high = refl;
  wide = refl;
  none = refl;
  ready_8 = record { well = refl; start = refl; decimal = refl; width = refl; digits = omega arith; inside = omega arith };
  ready_e = record { well = refl; start = refl; decimal = refl; width = refl; digits = omega arith; inside = omega arith };
  ready_16 = record { well = refl; start = refl; decimal = refl; width = refl; digits = omega arith; inside = omega arith };
}
