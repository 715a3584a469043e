-- A test computed at every number below n, and the law that turns it into the rule at each.
use Prim.Native.Nat.{ℕ, zero, suc, ◌<◌}
use mathlib.Core.Path.{◌≡◌, refl}
use mathlib.Core.Bool.{Bool, true, false, ◌&&◌}
use native.Mathlib.Nat.{not-suc-le-zero}
use native.Mathlib.Omega.{arith}
use lib.Dec.{T, eqb}
use borrow.Author.Tests.{eqb-true, eqb-false}

abbrev pub all : ℕ → (ℕ → Bool) → Bool
all zero f = true
all (suc n) f = f n && all n f

pub and_left : (a b : Bool) → T (a && b) → T a
and_left true b t = tt
and_left false b t = t

pub and_right : (a b : Bool) → T (a && b) → T b
and_right true b t = t
and_right false b t = absurd t

pub all_at : (n : ℕ) (f : ℕ → Bool) → T (all n f) → (k : ℕ) → k < n → T (f k)
all_at zero f t k h = absurd (not-suc-le-zero h)
all_at (suc n) f t k h = go (all_at n f (and_right (f n) (all n f) t) k) (eqb k n) refl
  where
    go : (k < n → T (f k)) → (b : Bool) → eqb k n ≡ b → T (f k)
    go r true e = rw (eqb-true k n e) (and_left (f n) (all n f) t)
    go r false e = let ne : k ≡ n → ⊥ = eqb-false k n e in r (omega arith)
