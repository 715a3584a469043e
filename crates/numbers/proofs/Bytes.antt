-- Bytes that a packed record is found in are that record's bytes.
use Prim.Native.Nat.{ℕ, ◌<◌}
use Rattle.std.proofs.Common.{Some, None}
use mathlib.Core.Path.{◌≡◌, ap, ◌∙◌}
use mathlib.Core.Bool.{false}
use mathlib.Core.List.{List}
use Rattle.cpu.specs.declared.types.Record.{Record}
use Rattle.packed.specs.Packed.{pack, unpacked, is_packed, byte_at}
use Rattle.packed.proofs.RoundTrip.{good_packed, good_record, pack_unpack}

abbrev pub Bytes : List ℕ → Type 0
Bytes b = (k : ℕ) → byte_at b k < 256

pub same_bytes : (b : List ℕ) (r : Record) → Bytes b → unpacked b ≡ Some r → pack r ≡ b
same_bytes b r h e = ap pack (good_record b r e) ∙ pack_unpack b (good_packed b r e) h

pub unfound : (b : List ℕ) → is_packed b ≡ false → unpacked b ≡ None
unfound b h = rw h
