-- A record comes back from its bytes, and bytes that are a packed record from their record.
use Prim.Native.Nat.{ℕ, zero, suc, ◌+◌, ◌*◌, ◌/◌, ◌%◌, ◌<◌}
use Rattle.std.proofs.Common.{Some, None, ◌==◌}
use Rattle.std.specs.List.{list_all}
use mathlib.Core.Path.{◌≡◌, refl, sym, ap, ◌∙◌}
use mathlib.Core.Bool.{Bool, true, false, ◌&&◌}
use mathlib.Core.List.{List, [], ◌∷◌}
use native.Mathlib.Omega.{arith}
use borrow.Author.Tests.{eqb-true, ltb-true}
use lib.Dec.{eqb, ltb}
use lib.ListN.{length, get_or, take, drop, drop_of_length-le, length-drop}
use lib.Seq.{drop-cons, take-length}
use Rattle.words.specs.Words.{pick, bit, low_of, high_of, word}
use Rattle.flags.specs.Flags.{bit_of, weigh}
use Rattle.flags.specs.declared.Flags.{Flags}
use Rattle.cpu.specs.declared.types.Record.{Record}
use Rattle.packed.specs.Packed.{status_of, flags_of, pack, unpack, is_packed, byte_at, reserved, regular, unpacked, placed}
use Rattle.packed.proofs.Laws.{placed_whole}

-- ---- words

word_back : (w : ℕ) → word (low_of w) (high_of w) ≡ w
unfolding word
word_back w = omega arith

low_back : (l h : ℕ) → l < 256 → low_of (word l h) ≡ l
unfolding word
low_back l h k = omega arith

high_back : (l h : ℕ) → high_of (word l h) ≡ h
unfolding word
high_back l h = omega arith

-- ---- truth values

bit_back : (t : Bool) → eqb (bit t) 1 ≡ t
bit_back true = refl
bit_back false = refl

truth : (n : ℕ) → n < 2 → bit (eqb n 1) ≡ n
truth zero h = refl
truth (suc zero) h = refl
truth (suc (suc n)) h = absurd (omega arith)

-- ---- the status byte

weigh_bit : (t : Bool) (w : ℕ) → weigh t w ≡ bit t * w
weigh_bit true w = omega arith
weigh_bit false w = omega arith

bit_small : (t : Bool) → bit t < 2
bit_small true = omega arith
bit_small false = omega arith

bit_is : (t : Bool) (n : ℕ) → n ≡ bit t → eqb n 1 ≡ t
bit_is true n e = rw e
bit_is false n e = rw e

module _ (c z i d x m v n : Bool) where
  abbrev eight : ℕ
  eight = weigh c 1 + weigh z 2 + weigh i 4 + weigh d 8 + weigh x 16 + weigh m 32 + weigh v 64 + weigh n 128

  abbrev Back : Type 0
  Back =
      (eight / 1 % 2 ≡ bit c) × (eight / 2 % 2 ≡ bit z) × (eight / 4 % 2 ≡ bit i) × (eight / 8 % 2 ≡ bit d)
      × (eight / 16 % 2 ≡ bit x) × (eight / 32 % 2 ≡ bit m) × (eight / 64 % 2 ≡ bit v) × (eight / 128 % 2 ≡ bit n)

  back : Back
  back =
      simp weigh_bit
      (omega (arith, bit_small c, bit_small z, bit_small i, bit_small d, bit_small x, bit_small m, bit_small v, bit_small n))

pub flags_back : (f : Flags) → flags_of (status_of f) f.emulation ≡ f
unfolding flags_of status_of
flags_back f =
    let b = back f.carry f.zero f.interruptdisable f.decimal f.indexsel f.memsel f.overflow f.negative in
    λ i. record {
      carry = bit_is f.carry _ b.0 i;
      zero = bit_is f.zero _ b.1 i;
      interruptdisable = bit_is f.interruptdisable _ b.2 i;
      decimal = bit_is f.decimal _ b.3 i;
      indexsel = bit_is f.indexsel _ b.4 i;
      memsel = bit_is f.memsel _ b.5 i;
      overflow = bit_is f.overflow _ b.6 i;
      negative = bit_is f.negative _ b.7 i;
      emulation = f.emulation;
    }

-- the bits of a byte make it up again
weigh_of : (p w : ℕ) → weigh (bit_of p w) w ≡ p / w % 2 * w
weigh_of p w = weigh_bit (bit_of p w) w ∙ ap (λ (k : ℕ). k * w) (truth (p / w % 2) (omega arith))

-- each bit more gives the remainder by twice its weight
by_1 : (p : ℕ) → p % 2 ≡ p / 1 % 2 * 1
by_1 p = omega arith

by_2 : (p : ℕ) → p % 4 ≡ p % 2 + p / 2 % 2 * 2
by_2 p = omega arith

by_4 : (p : ℕ) → p % 8 ≡ p % 4 + p / 4 % 2 * 4
by_4 p = omega arith

by_8 : (p : ℕ) → p % 16 ≡ p % 8 + p / 8 % 2 * 8
by_8 p = omega arith

by_16 : (p : ℕ) → p % 32 ≡ p % 16 + p / 16 % 2 * 16
by_16 p = omega arith

by_32 : (p : ℕ) → p % 64 ≡ p % 32 + p / 32 % 2 * 32
by_32 p = omega arith

by_64 : (p : ℕ) → p % 128 ≡ p % 64 + p / 64 % 2 * 64
by_64 p = omega arith

by_128 : (p : ℕ) → p < 256 → p ≡ p % 128 + p / 128 % 2 * 128
by_128 p h = omega arith

sums : (a b c d e f g h p₁ p₂ p₃ p₄ p₅ p₆ p₇ p : ℕ)
    → p₁ ≡ a → p₂ ≡ p₁ + b → p₃ ≡ p₂ + c → p₄ ≡ p₃ + d → p₅ ≡ p₄ + e → p₆ ≡ p₅ + f → p₇ ≡ p₆ + g → p ≡ p₇ + h
    → a + b + c + d + e + f + g + h ≡ p
sums a b c d e f g h p₁ p₂ p₃ p₄ p₅ p₆ p₇ p e₁ e₂ e₃ e₄ e₅ e₆ e₇ e₈ = omega arith

pub status_back : (p : ℕ) (e : Bool) → p < 256 → status_of (flags_of p e) ≡ p
unfolding flags_of status_of
status_back p e h =
    simp (weigh_of p 1, weigh_of p 2, weigh_of p 4, weigh_of p 8, weigh_of p 16, weigh_of p 32, weigh_of p 64, weigh_of p 128)
    (sums _ _ _ _ _ _ _ _ (p % 2) (p % 4) (p % 8) (p % 16) (p % 32) (p % 64) (p % 128) p
    (by_1 p) (by_2 p) (by_4 p) (by_8 p) (by_16 p) (by_32 p) (by_64 p) (by_128 p h))

-- ---- a record comes back

pub unpack_pack : (r : Record) → unpack (pack r) ≡ r
unfolding unpack pack
unpack_pack r =
    let f : flags_of (status_of r.flags) (eqb (bit r.flags.emulation) 1) ≡ r.flags =
    rw (bit_back r.flags.emulation) (flags_back r.flags) in
    λ i. record {
      a = word_back r.a i;
      x = word_back r.x i;
      y = word_back r.y i;
      s = word_back r.s i;
      d = word_back r.d i;
      pc = word_back r.pc i;
      pbr = r.pbr;
      dbr = r.dbr;
      flags = f i;
      held = bit_back r.held i;
      ir = r.ir;
      tcu = r.tcu;
      tempaddr = word_back r.tempaddr i;
      tempdata = word_back r.tempdata i;
      tempbank = r.tempbank;
    }

-- ---- its bytes are a packed record

bit_below : (t : Bool) → ltb (bit t) 2 ≡ true
bit_below true = refl
bit_below false = refl

pub packed_regular : (r : Record) → is_packed (pack r) ≡ true
unfolding is_packed pack
packed_regular r = simp (bit_below r.held, bit_below r.flags.emulation)

-- ---- bytes come back

and_left : (a b : Bool) → (a && b) ≡ true → a ≡ true
and_left true b h = refl
and_left false b h = h

and_right : (a b : Bool) → (a && b) ≡ true → b ≡ true
and_right true b h = h
and_right false true h = refl
and_right false false h = h

-- n elements from place k on
abbrev pub from : (n k : ℕ) → List ℕ → List ℕ
from zero k b = []
from (suc n) k b = get_or b k 0 ∷ from n (suc k) b

pub from_drop : (n k : ℕ) (b : List ℕ) → length b ≡ k + n → from n k b ≡ drop k b
from_drop zero k b e = sym (drop_of_length-le b {i = k} (omega arith))
from_drop (suc n) k b e = rw (from_drop n (suc k) b (omega arith)) (sym (drop-cons b k 0 (omega arith)))

and_true : (t : Bool) → (t && true) ≡ t
and_true true = refl
and_true false = refl

take_whole : (n : ℕ) (l : List ℕ) → n ≡ length l → take n l ≡ l
take_whole n l e = rw (e, take-length l)

-- the reserved bytes are the last seven
pub reserved_all : (b : List ℕ) → length b ≡ 32 → list_all (λ n. n == 0) (take 7 (drop 25 b)) ≡ reserved b
reserved_all b e =
    let t : take 7 (drop 25 b) ≡ drop 25 b = take_whole 7 (drop 25 b) (omega (arith, length-drop 25 b)) in
    rw (t, ← from_drop 7 25 b e) (simp and_true)

-- what a packed record's bytes are known to be
pub record Regular (b : List ℕ) : Type 0 where
  pub size : length b ≡ 32
  pub edition : byte_at b 0 ≡ 1
  pub held : byte_at b 1 < 2
  pub mode : byte_at b 19 < 2
  pub zeros : (byte_at b 25 ≡ 0) × (byte_at b 26 ≡ 0) × (byte_at b 27 ≡ 0) × (byte_at b 28 ≡ 0) × (byte_at b 29 ≡ 0) × (byte_at b 30 ≡ 0) × (byte_at b 31 ≡ 0)

zero_and : (n : ℕ) (t : Bool) → (eqb n 0 && t) ≡ true → (n ≡ 0) × (t ≡ true)
zero_and n t h = (eqb-true n 0 (and_left (eqb n 0) t h), and_right (eqb n 0) t h)

zeros_of : (n₁ n₂ n₃ n₄ n₅ n₆ n₇ : ℕ)
    → (eqb n₁ 0 && (eqb n₂ 0 && (eqb n₃ 0 && (eqb n₄ 0 && (eqb n₅ 0 && (eqb n₆ 0 && eqb n₇ 0)))))) ≡ true
    → (n₁ ≡ 0) × (n₂ ≡ 0) × (n₃ ≡ 0) × (n₄ ≡ 0) × (n₅ ≡ 0) × (n₆ ≡ 0) × (n₇ ≡ 0)
zeros_of n₁ n₂ n₃ n₄ n₅ n₆ n₇ h₁ =
    let (e₁, h₂) = zero_and n₁ (eqb n₂ 0 && (eqb n₃ 0 && (eqb n₄ 0 && (eqb n₅ 0 && (eqb n₆ 0 && eqb n₇ 0))))) h₁ in
    let (e₂, h₃) = zero_and n₂ (eqb n₃ 0 && (eqb n₄ 0 && (eqb n₅ 0 && (eqb n₆ 0 && eqb n₇ 0)))) h₂ in
    let (e₃, h₄) = zero_and n₃ (eqb n₄ 0 && (eqb n₅ 0 && (eqb n₆ 0 && eqb n₇ 0))) h₃ in
    let (e₄, h₅) = zero_and n₄ (eqb n₅ 0 && (eqb n₆ 0 && eqb n₇ 0)) h₄ in
    let (e₅, h₆) = zero_and n₅ (eqb n₆ 0 && eqb n₇ 0) h₅ in
    let (e₆, h₇) = zero_and n₆ (eqb n₇ 0) h₆ in
    (e₁, e₂, e₃, e₄, e₅, e₆, eqb-true n₇ 0 h₇)

pub regular_of : (b : List ℕ) → is_packed b ≡ true → Regular b
unfolding is_packed
regular_of b h =
    let h₁ = and_right (eqb (length b) 32) (regular b) h in
    let t₁ : Bool = ltb (byte_at b 19) 2 && reserved b in
    let t₂ : Bool = ltb (byte_at b 1) 2 && t₁ in
    let h₂ = and_right (eqb (byte_at b 0) 1) t₂ h₁ in
    let h₃ = and_right (ltb (byte_at b 1) 2) t₁ h₂ in
    record {
      size = eqb-true (length b) 32 (and_left (eqb (length b) 32) (regular b) h);
      edition = eqb-true (byte_at b 0) 1 (and_left (eqb (byte_at b 0) 1) t₂ h₁);
      held = ltb-true (byte_at b 1) 2 (and_left (ltb (byte_at b 1) 2) t₁ h₂);
      mode = ltb-true (byte_at b 19) 2 (and_left (ltb (byte_at b 19) 2) (reserved b) h₃);
      zeros =
          zeros_of (byte_at b 25) (byte_at b 26) (byte_at b 27) (byte_at b 28) (byte_at b 29) (byte_at b 30) (byte_at b 31)
          (and_right (ltb (byte_at b 19) 2) (reserved b) h₃);
    }

pub pack_unpack : (b : List ℕ) → is_packed b ≡ true → ((k : ℕ) → byte_at b k < 256) → pack (unpack b) ≡ b
unfolding unpack pack flags_of
pack_unpack b p h =
    let g : Regular b = regular_of b p in
    let z = g.zeros in
    let all : pack (unpack b) ≡ from 32 0 b = λ i.
    sym g.edition i ∷ truth (byte_at b 1) g.held i ∷ byte_at b 2 ∷ byte_at b 3
    ∷ low_back (byte_at b 4) (byte_at b 5) (h 4) i ∷ high_back (byte_at b 4) (byte_at b 5) i
    ∷ low_back (byte_at b 6) (byte_at b 7) (h 6) i ∷ high_back (byte_at b 6) (byte_at b 7) i
    ∷ low_back (byte_at b 8) (byte_at b 9) (h 8) i ∷ high_back (byte_at b 8) (byte_at b 9) i
    ∷ low_back (byte_at b 10) (byte_at b 11) (h 10) i ∷ high_back (byte_at b 10) (byte_at b 11) i
    ∷ low_back (byte_at b 12) (byte_at b 13) (h 12) i ∷ high_back (byte_at b 12) (byte_at b 13) i
    ∷ low_back (byte_at b 14) (byte_at b 15) (h 14) i ∷ high_back (byte_at b 14) (byte_at b 15) i
    ∷ byte_at b 16 ∷ byte_at b 17 ∷ status_back (byte_at b 18) (eqb (byte_at b 19) 1) (h 18) i ∷ truth (byte_at b 19) g.mode i
    ∷ low_back (byte_at b 20) (byte_at b 21) (h 20) i ∷ high_back (byte_at b 20) (byte_at b 21) i
    ∷ low_back (byte_at b 22) (byte_at b 23) (h 22) i ∷ high_back (byte_at b 22) (byte_at b 23) i
    ∷ byte_at b 24
    ∷ sym z.0 i ∷ sym z.1 i ∷ sym z.2 i ∷ sym z.3 i ∷ sym z.4 i ∷ sym z.5 i ∷ sym z.6 i ∷ [] in
    all ∙ from_drop 32 0 b g.size

-- what the code finds in a record's bytes
pub found_again : (r : Record) → unpacked (pack r) ≡ Some r
found_again r = rw (packed_regular r, unpack_pack r)

-- ---- a record put in the place of another

picked_good : (t : Bool) (s r : Record) → pick t (Some s) None ≡ Some r → t ≡ true
picked_good true s r h = refl
picked_good false s r h = let z : ◌≡◌ {A = ℕ} 0 1 = cc in absurd (omega arith)

pub good_packed : (b : List ℕ) (r : Record) → unpacked b ≡ Some r → is_packed b ≡ true
good_packed b r h = picked_good (is_packed b) (unpack b) r h

pub good_record : (b : List ℕ) (r : Record) → unpacked b ≡ Some r → r ≡ unpack b
good_record b r h = let e : Some r ≡ Some (unpack b) = sym h ∙ rw (good_packed b r h) in cc

pub pack_length : (r : Record) → length (pack r) ≡ 32
unfolding pack
pack_length r = refl

-- x, the bytes of s, put at the front of a packed record's
pub put_back : (b t x : List ℕ) (r s : Record) → unpacked b ≡ Some r → x ≡ pack s → t ≡ placed b 0 x → t ≡ pack s
put_back b t x r s h e f =
    let l : length b ≡ length (pack s) = (regular_of b (good_packed b r h)).size ∙ sym (pack_length s) in
    f ∙ ap (placed b 0) e ∙ placed_whole (pack s) b l
