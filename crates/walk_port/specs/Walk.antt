-- What so many cycles answer: the refusal's number or 0, and how many were completed, in one number.
use Rattle.std.specs.Prelude.{ℕ}
use Rattle.cpu.specs.Record.{number_in}
use Rattle.session_port.specs.Port.{Several}
use Rattle.numbers.specs.Numbers.{run_number}

abbrev pub cycles_number : Several → ℕ
cycles_number e = run_number (number_in e.refusal) e.done
