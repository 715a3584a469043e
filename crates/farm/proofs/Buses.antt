-- Such buses and memories exist: the demand's premises aren't empty.
use Prim.Native.Nat.{ℕ, zero, suc, ◌*◌, ◌≤◌, ◌<◌}
use mathlib.Core.Path.{◌≡◌, refl, ap, ◌∙◌}
use mathlib.Core.Bool.{Bool, true, false}
use mathlib.Core.List.{List, [], ◌∷◌}
use native.Mathlib.Nat.{not-suc-le-zero}
use native.Mathlib.Omega.{arith}
use lib.ListN.{length, get_or}
use Rattle.words.specs.Words.{sum16, at}
use Rattle.words.proofs.WordLaws.{up_sum}
use Rattle.adder.specs.Digits.{Digits}
use Rattle.farm.specs.Pairs.{Delivery, Added, Taken, most_deliveries, bytes_of, AllDigits, code_place, Feeds, operand, program}
use Rattle.farm.specs.Lent.{place_from, bus_of, memory_place, AllBytes, filled, memory_of, Holds}
use Rattle.farm.proofs.Deliveries.{program_length}

-- byte i lies i past PC, if the bytes fit into a bank
place_back : (bank pc i : ℕ) → pc < 65536 → i < 65536 → place_from pc (code_place bank pc i) ≡ i
unfolding at sum16
place_back bank pc i h k = omega (arith, up_sum pc i h)

-- For every list of bytes that fits into a bank there is a bus that has it.
pub bus_exists : (bank pc : ℕ) (bytes : List ℕ) → pc < 65536 → length bytes ≤ 65536 → Feeds (bus_of pc bytes) bank pc bytes
bus_exists bank pc bytes h fits = record {
  answers = λ t i k c l. ap (λ (j : ℕ). get_or bytes j 0) (place_back bank pc i h (omega arith));
}

program_bounded : (w : Bool) (ds : List Delivery) → length (program w ds) ≤ 4 * length ds
program_bounded w [] = omega arith
program_bounded true (d ∷ ds) = omega (arith, program_length true d ds, program_bounded true ds)
program_bounded false (d ∷ ds) = omega (arith, program_length false d ds, program_bounded false ds)

-- As many deliveries as the demand speaks of fit: at 16 bits they fill the bank.
pub program_fits : (w : Bool) (ds : List Delivery) → length ds ≤ most_deliveries → length (program w ds) ≤ 65536
program_fits w ds h = omega (arith, program_bounded w ds)

-- ---- a memory
filled_length : (n : ℕ) (f : ℕ → ℕ) → length (filled n f) ≡ n
unfolding filled
filled_length zero f = refl
filled_length (suc n) f = ap suc (filled_length n (λ a. f (suc a)))

filled_byte : (n : ℕ) (f : ℕ → ℕ) (i : ℕ) → i < n → get_or (filled n f) i 0 ≡ f i
unfolding filled
filled_byte zero f i h = absurd (not-suc-le-zero h)
filled_byte (suc n) f zero h = refl
filled_byte (suc n) f (suc i) h = filled_byte n (λ a. f (suc a)) i (omega arith)

memory_place_lem : (pc i : ℕ) → pc < 65536 → i < 65536 → place_from pc (memory_place pc i) ≡ i
memory_place_lem pc i h k = omega arith

-- For every list of bytes that fits into a bank there is a memory that has it.
pub memory_exists : (pc : ℕ) (bytes : List ℕ) → pc < 65536 → length bytes ≤ 65536 → Holds (memory_of pc bytes) pc bytes
memory_exists pc bytes h fits = record {
  whole = filled_length 65536 (λ a. get_or bytes (place_from pc a) 0);
  byte = λ i l.
      filled_byte 65536 (λ a. get_or bytes (place_from pc a) 0) (memory_place pc i) (omega arith)
      ∙ ap (λ (j : ℕ). get_or bytes j 0) (memory_place_lem pc i h (omega arith));
}

-- It is one of bytes, where they are bytes.
filled_bytes : (n : ℕ) (f : ℕ → ℕ) → ((a : ℕ) → f a < 256) → AllBytes (filled n f)
unfolding filled
filled_bytes zero f h = tt
filled_bytes (suc n) f h = (h 0, filled_bytes n (λ a. f (suc a)) (λ a. h (suc a)))

byte_of : (bytes : List ℕ) (i : ℕ) → AllBytes bytes → get_or bytes i 0 < 256
byte_of [] i h = omega arith
byte_of (b ∷ bs) zero h = h.0
byte_of (b ∷ bs) (suc i) h = byte_of bs i h.1

pub memory_bytes : (pc : ℕ) (bytes : List ℕ) → AllBytes bytes → AllBytes (memory_of pc bytes)
memory_bytes pc bytes h = filled_bytes 65536 (λ a. get_or bytes (place_from pc a) 0) (λ a. byte_of bytes (place_from pc a) h)

operand_bytes : (w : Bool) (n : ℕ) (rest : List ℕ) → Digits (bytes_of w) n → AllBytes rest → AllBytes (operand w n rest)
operand_bytes true n rest q h = (omega arith, (omega arith, h))
operand_bytes false n rest q h = (omega arith, h)

-- And a program of deliveries in digits is one.
pub program_bytes : (w : Bool) (ds : List Delivery) → AllDigits w ds → AllBytes (program w ds)
program_bytes w [] q = tt
program_bytes w (Added n ∷ ds) q = (omega arith, (omega arith, operand_bytes w n _ q.0 (program_bytes w ds q.1)))
program_bytes w (Taken n ∷ ds) q = (omega arith, (omega arith, operand_bytes w n _ q.0 (program_bytes w ds q.1)))
