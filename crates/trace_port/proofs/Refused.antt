-- Whoever lends a packed record gets the core's own answers; what is refused before any cycle leaves every lent byte as it was.
use Prim.Native.Nat.{ℕ, ◌+◌, ◌≤◌, ◌<◌}
use Rattle.std.proofs.Common.{Option, Some, None}
use mathlib.Core.Path.{◌≡◌, refl, sym, ◌∙◌}
use mathlib.Core.Bool.{false}
use mathlib.Core.List.{List}
use borrow.Author.Tests.{le-leb, lt-leb}
use lib.ListN.{length}
use Rattle.cpu.specs.declared.types.Record.{Record}
use Rattle.run.specs.Runs.{size, most}
use Rattle.traced.specs.Traces.{whole_piece, room_of}
use Rattle.traced.proofs.Laws as of-traced
use Rattle.packed.specs.Packed.{pack, unpacked, is_packed}
use Rattle.packed.proofs.RoundTrip.{found_again}
use Rattle.numbers.proofs.Bytes.{Bytes, same_bytes, unfound}
use Rattle.trace_port.specs.Port.{Spelt, trace_number, spelt_to, trace_bytes}
use Rattle.trace_port.proofs.Laws.{trace_bad, trace_good, text_1, text_2, text_3, text_4}

pub trace_packed : (r : Record) (m t : List ℕ) (before n : ℕ) → trace_bytes (pack r) m t before n ≡ spelt_to (whole_piece before n r m t)
trace_packed r m t before n = trace_good (pack r) m t before n (unpacked (pack r)) refl r (found_again r)

abbrev pub still_text : ℕ → (b m t : List ℕ) → Spelt
still_text k b m t = record { answer = trace_number k 0 0; bytes = b; mem = m; text = t }

module _ (b m t : List ℕ) (before n : ℕ) (h : Bytes b) where
  text_by_1 : (u : Option Record) → u ≡ unpacked b → (length m ≡ size → ⊥) → trace_bytes b m t before n ≡ still_text 1 b m t
  text_by_1 (Some r) e k = trace_good b m t before n (Some r) e r refl ∙ rw (of-traced.refused_1 before n r m t k, same_bytes b r h (sym e))
  text_by_1 None e k = trace_bad b m t before n None e refl ∙ rw (text_1 (length m) (length t) before n k)

  text_by_2 : (u : Option Record) → u ≡ unpacked b → length m ≡ size → most < before + n → trace_bytes b m t before n ≡ still_text 2 b m t
  text_by_2 (Some r) e k l =
      trace_good b m t before n (Some r) e r refl ∙ rw (of-traced.refused_2 before n r m t k (lt-leb (before + n) most l), same_bytes b r h (sym e))
  text_by_2 None e k l = trace_bad b m t before n None e refl ∙ rw (text_2 (length m) (length t) before n k l)

  text_by_3 : (u : Option Record) → u ≡ unpacked b → length m ≡ size → before + n ≤ most → length t < room_of before n
      → trace_bytes b m t before n ≡ still_text 3 b m t
  text_by_3 (Some r) e k l o =
      trace_good b m t before n (Some r) e r refl ∙ rw (of-traced.refused_3 before n r m t k (le-leb (before + n) most l) o, same_bytes b r h (sym e))
  text_by_3 None e k l o = trace_bad b m t before n None e refl ∙ rw (text_3 (length m) (length t) before n k l o)

  pub trace_1 : (length m ≡ size → ⊥) → trace_bytes b m t before n ≡ still_text 1 b m t
  trace_1 k = text_by_1 (unpacked b) refl k

  pub trace_2 : length m ≡ size → most < before + n → trace_bytes b m t before n ≡ still_text 2 b m t
  trace_2 k l = text_by_2 (unpacked b) refl k l

  pub trace_3 : length m ≡ size → before + n ≤ most → length t < room_of before n → trace_bytes b m t before n ≡ still_text 3 b m t
  trace_3 k l o = text_by_3 (unpacked b) refl k l o

pub trace_4 : (b m t : List ℕ) (before n : ℕ) → is_packed b ≡ false → length m ≡ size → before + n ≤ most → room_of before n ≤ length t
    → trace_bytes b m t before n ≡ still_text 4 b m t
trace_4 b m t before n h k l o =
    trace_bad b m t before n (unpacked b) refl (unfound b h) ∙ rw (text_4 (length m) (length t) before n k l o)
