-- The status register as PHP, PLP, REP and SEP see it: what is pushed comes back, and a mask touches the bits that it names.
use Prim.Native.Nat.{ℕ, ◌+◌, ◌*◌, ◌/◌, ◌%◌, ◌<◌}
use mathlib.Core.Path.{◌≡◌, refl}
use mathlib.Core.Bool.{Bool, true, false, ◌||◌}
use native.Mathlib.Omega.{arith}
use lib.Dec.{eqb}
use Rattle.words.specs.Words.{pick, bit}
use Rattle.flags.specs.Flags.{bit_of, weigh, byte_of, set_mask, set_byte, swap_ce, settled}
use Rattle.flags.specs.declared.Flags.{Flags}

-- ---- the bits of the byte that is pushed
weigh_bit : (t : Bool) (w : ℕ) → weigh t w ≡ bit t * w
weigh_bit true w = omega arith
weigh_bit false w = omega arith

bit_small : (t : Bool) → bit t < 2
bit_small true = omega arith
bit_small false = omega arith

bit_is : (t : Bool) (n : ℕ) → n ≡ bit t → eqb n 1 ≡ t
bit_is true n e = rw e
bit_is false n e = rw e

-- eight bits, and the byte that they make
module _ (c z i d x m v n : Bool) where
  abbrev eight : ℕ
  eight = weigh c 1 + weigh z 2 + weigh i 4 + weigh d 8 + weigh x 16 + weigh m 32 + weigh v 64 + weigh n 128

  abbrev Back : Type 0
  Back =
      (eight / 1 % 2 ≡ bit c) × (eight / 2 % 2 ≡ bit z) × (eight / 4 % 2 ≡ bit i) × (eight / 8 % 2 ≡ bit d)
      × (eight / 16 % 2 ≡ bit x) × (eight / 32 % 2 ≡ bit m) × (eight / 64 % 2 ≡ bit v) × (eight / 128 % 2 ≡ bit n)

  back : Back
  back =
      simp weigh_bit
      (omega (arith, bit_small c, bit_small z, bit_small i, bit_small d, bit_small x, bit_small m, bit_small v, bit_small n))

-- PHP: each flag at its bit; in emulation bits 4 and 5 are set
pub record Pushed (f : Flags) (b : ℕ) : Type 0 where
  pub carry : bit_of b 1 ≡ f.carry
  pub zero : bit_of b 2 ≡ f.zero
  pub interruptdisable : bit_of b 4 ≡ f.interruptdisable
  pub decimal : bit_of b 8 ≡ f.decimal
  pub indexsel : bit_of b 16 ≡ (f.emulation || f.indexsel)
  pub memsel : bit_of b 32 ≡ (f.emulation || f.memsel)
  pub overflow : bit_of b 64 ≡ f.overflow
  pub negative : bit_of b 128 ≡ f.negative

pub pushed : (f : Flags) → Pushed f (byte_of f)
unfolding byte_of
pushed f =
    let x : Bool = f.emulation || f.indexsel in
    let m : Bool = f.emulation || f.memsel in
    let b = back f.carry f.zero f.interruptdisable f.decimal x m f.overflow f.negative in
    record {
      carry = bit_is f.carry _ b.0;
      zero = bit_is f.zero _ b.1;
      interruptdisable = bit_is f.interruptdisable _ b.2;
      decimal = bit_is f.decimal _ b.3;
      indexsel = bit_is x _ b.4;
      memsel = bit_is m _ b.5;
      overflow = bit_is f.overflow _ b.6;
      negative = bit_is f.negative _ b.7;
    }

-- PLP pulls what PHP pushed; in emulation the width flags stay
pulled : (e t u : Bool) → u ≡ (e || t) → pick e t u ≡ t
pulled true t u q = refl
pulled false t u q = q

pub pushed_pulled : (f : Flags) → set_byte f (byte_of f) ≡ f
unfolding set_byte
pushed_pulled f =
    let p : Pushed f (byte_of f) = pushed f in
    λ i. record {
      carry = p.carry i;
      zero = p.zero i;
      interruptdisable = p.interruptdisable i;
      decimal = p.decimal i;
      indexsel = pulled f.emulation f.indexsel (bit_of (byte_of f) 16) p.indexsel i;
      memsel = pulled f.emulation f.memsel (bit_of (byte_of f) 32) p.memsel i;
      overflow = p.overflow i;
      negative = p.negative i;
      emulation = f.emulation;
    }

-- ---- in emulation no mask and no byte changes a width flag
stays : (e t u : Bool) → e ≡ true → pick e t u ≡ t
stays e t u q = rw q

module _ (f : Flags) (e : f.emulation ≡ true) where
  pub mask_keeps : (mask : ℕ) (set : Bool) → ((set_mask f mask set).memsel ≡ f.memsel) × ((set_mask f mask set).indexsel ≡ f.indexsel)
  unfolding set_mask
  mask_keeps mask set = (stays f.emulation f.memsel _ e, stays f.emulation f.indexsel _ e)

  pub byte_keeps : (v : ℕ) → ((set_byte f v).memsel ≡ f.memsel) × ((set_byte f v).indexsel ≡ f.indexsel)
  unfolding set_byte
  byte_keeps v = (stays f.emulation f.memsel _ e, stays f.emulation f.indexsel _ e)

-- ---- XCE: twice is never; entering emulation sets both width flags
pub swapped_back : (f : Flags) → swap_ce (swap_ce f) ≡ f
swapped_back f = refl

pub settled_widths : (f : Flags) → f.emulation ≡ true → ((settled f).memsel ≡ true) × ((settled f).indexsel ≡ true)
settled_widths f e = (rw e, rw e)
