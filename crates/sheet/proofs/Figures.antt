-- The farmyard figures, by computation.
use mathlib.Core.Path.{refl}
use Rattle.words.specs.Words.{word, low_set, swapped, inc, dec, sum16, signed, displaced, at, sum24, same_page, page_one, index}
use Rattle.flags.specs.Flags.{byte_of, set_mask, set_byte, set_nz}
use Rattle.adder.specs.Adder.{adc_binary, adc_decimal, sbc_decimal, adc_of, sbc_of}
use Rattle.alu.specs.Alu.{nz, summed, adc_byte, sbc_byte, cmp_byte, bit_byte, load_byte, left_byte, right_byte, step_byte}
use Rattle.cpu.specs.Registers.{operates, pulls, directs, swaps, moves, transfers, wholly, shifts, masks}
use Rattle.cpu.specs.Record.{well_formed, ended, pushed, pulled}
use Rattle.opcodes.specs.Opcodes.{one_bytes, opcodes, decode_of}
use Rattle.step.specs.Cycle.{micro_of, request_of, answer_of}
use Rattle.sheet.specs.Run.{run}
use Rattle.sheet.specs.Sheet.{instruction}
use Rattle.sheet.specs.EdgeFigures.{modes, fetches, stacks, widths, unlisted, refusals}
use Rattle.sheet.specs.Figures.{figures, table, FiguresHold}

pub figures_hold : FiguresHold
unfolding table figures modes fetches stacks widths unlisted refusals instruction run request_of answer_of micro_of decode_of opcodes one_bytes well_formed ended pushed pulled operates pulls directs swaps moves transfers wholly shifts masks nz summed adc_byte sbc_byte cmp_byte bit_byte load_byte left_byte right_byte step_byte adc_binary adc_decimal sbc_decimal adc_of sbc_of byte_of set_mask set_byte set_nz word low_set swapped inc dec sum16 signed displaced at sum24 same_page page_one index
figures_hold = record { sheet = refl; cycles = refl; refused = refl }
