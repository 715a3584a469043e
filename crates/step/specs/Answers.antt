-- Document 01's number and values for each case of what a cycle is answered: 0, or the refusal's number; and the fields of a request.
use Rattle.std.specs.Prelude.{ℕ, List, [], ◌∷◌, Result, Ok, Err}
use Rattle.cpu.specs.declared.types.Record.{Record}
use Rattle.cpu.specs.declared.types.Refusal.{Refusal}
use Rattle.cpu.specs.declared.types.Request.{Request}
use Rattle.words.specs.Words.{bit}
use Rattle.cpu.specs.Record.{number_of, kind_number}

abbrev pub asked_number : Result Request Refusal → ℕ
asked_number (Ok q) = 0
asked_number (Err n) = number_of n

abbrev pub answer_number : Result Record Refusal → ℕ
answer_number (Ok r) = 0
answer_number (Err n) = number_of n

-- direction (1 a write), kind, address, byte
abbrev pub asked_values : Result Request Refusal → List ℕ
asked_values (Ok q) = bit q.write ∷ kind_number q.kind ∷ q.addr ∷ q.byte ∷ []
asked_values (Err n) = []
