-- Whoever lends a packed record gets the core's own answers; what is refused before any cycle leaves every lent byte as it was.
use Prim.Native.Nat.{ℕ, ◌≤◌, ◌<◌}
use Rattle.std.proofs.Common.{Option, Some, None}
use mathlib.Core.Path.{◌≡◌, refl, sym, ◌∙◌}
use mathlib.Core.Bool.{false}
use mathlib.Core.List.{List}
use borrow.Author.Tests.{eq-eqb, ne_eqb, le-leb, lt-leb}
use lib.ListN.{length}
use Rattle.cpu.specs.declared.types.Record.{Record}
use Rattle.run.specs.Runs.{whole_run, size, most}
use Rattle.run.proofs.Laws.{refused_1, refused_2}
use Rattle.packed.specs.Packed.{pack, unpacked, is_packed}
use Rattle.packed.proofs.RoundTrip.{found_again}
use Rattle.numbers.specs.Numbers.{run_number}
use Rattle.numbers.proofs.Bytes.{Bytes, same_bytes, unfound}
use Rattle.run_port.specs.Port.{Ran, ran_to, run_bytes}
use Rattle.run_port.proofs.Laws.{run_bad, run_good}

pub run_packed : (r : Record) (m : List ℕ) (n : ℕ) → run_bytes (pack r) m n ≡ ran_to (whole_run n r m)
run_packed r m n = run_good (pack r) m n (unpacked (pack r)) refl r (found_again r)

-- refused by number k, and nothing changed
abbrev pub still : ℕ → (b m : List ℕ) → Ran
still k b m = record { answer = run_number k 0; bytes = b; mem = m }

module _ (b m : List ℕ) (n : ℕ) (h : Bytes b) where
  by_1 : (u : Option Record) → u ≡ unpacked b → (length m ≡ size → ⊥) → run_bytes b m n ≡ still 1 b m
  by_1 (Some r) e k = run_good b m n (Some r) e r refl ∙ rw (refused_1 n r m k, same_bytes b r h (sym e))
  by_1 None e k = run_bad b m n None e refl ∙ rw (ne_eqb (length m) size k)

  by_2 : (u : Option Record) → u ≡ unpacked b → length m ≡ size → most < n → run_bytes b m n ≡ still 2 b m
  by_2 (Some r) e k l = run_good b m n (Some r) e r refl ∙ rw (refused_2 n r m k l, same_bytes b r h (sym e))
  by_2 None e k l = run_bad b m n None e refl ∙ rw (eq-eqb (length m) size k, lt-leb n most l)

  pub run_1 : (length m ≡ size → ⊥) → run_bytes b m n ≡ still 1 b m
  run_1 k = by_1 (unpacked b) refl k

  pub run_2 : length m ≡ size → most < n → run_bytes b m n ≡ still 2 b m
  run_2 k l = by_2 (unpacked b) refl k l

-- whatever the budget, 0 too
pub run_4 : (b m : List ℕ) (n : ℕ) → is_packed b ≡ false → length m ≡ size → n ≤ most → run_bytes b m n ≡ still 4 b m
run_4 b m n h k l = run_bad b m n (unpacked b) refl (unfound b h) ∙ rw (eq-eqb (length m) size k, le-leb n most l)
