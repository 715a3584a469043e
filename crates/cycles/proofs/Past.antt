-- The default arm of a match on 0, 1, .., against a list that is read by number: the number lies past the list's end.
use Prim.Native.Nat.{ℕ, zero, suc, ◌≤◌, zero-le}
use native.Mathlib.Omega.{arith}
use mathlib.Core.Path.{◌≡◌, sym}
use mathlib.Core.List.{List}
use lib.ListN.{length, get_or, get_or-eq_default}

-- none of the first m numbers, the last first, as the default arm tells it
abbrev pub NoneBelow : ℕ → ℕ → Type 0
NoneBelow n zero = Unit
NoneBelow n (suc m) = NoneBelow n m × (n ≡ m → ⊥)

reaches : (n m : ℕ) → NoneBelow n m → m ≤ n
reaches n zero h = zero-le
reaches n (suc m) h = let lower : m ≤ n = reaches n m h.0 in let other : n ≡ m → ⊥ = h.1 in omega arith

pub past {ℓ} : {A : Type ℓ} (xs : List A) (n : ℕ) (d : A) → NoneBelow n (length xs) → d ≡ get_or xs n d
past xs n d h = sym (get_or-eq_default xs d (reaches n (length xs) h))
