use native.Mathlib.Omega.{arith}
use Rattle.trace.specs.Text.{line_text, hex6, hex2}
use Rattle.trace.proofs.Laws.{then, line_length}
use Rattle.trace.proofs.write_line.Goals as goal

pub put_decimal-marks-requires : goal.put_decimal-marks-requires
put_decimal-marks-requires c =
    omega (arith, c.requires, line_length c.args.n c.args.line)

pub put_marks-place-requires : goal.put_marks-place-requires
put_marks-place-requires c =
    omega (arith, c.requires, line_length c.args.n c.args.line, c.put_decimal-marks.ensures.place, c.put_decimal-marks.auto.text)

pub put_hex6-tab-requires : goal.put_hex6-tab-requires
put_hex6-tab-requires c =
    omega (arith, c.requires, line_length c.args.n c.args.line, c.put_decimal-marks.ensures.place, c.put_decimal-marks.auto.text, c.put_marks-place.ensures.place, c.put_marks-place.auto.text)

pub put_end-requires : goal.put_end-requires
unfolding hex6 hex2
put_end-requires c =
    omega (arith, c.requires, line_length c.args.n c.args.line, c.put_decimal-marks.ensures.place, c.put_decimal-marks.auto.text, c.put_marks-place.ensures.place, c.put_marks-place.auto.text, c.put_hex6-tab.ensures.place, c.put_hex6-tab.auto.text)

pub returns : goal.returns
unfolding line_text
returns c =
    rw (← c.letter_of.ensures, ← c.direction_of.ensures)
    (then c.put_decimal-marks.ensures (then c.put_marks-place.ensures (then c.put_hex6-tab.ensures c.put_end.ensures)))
