-- An entry has one number in the book: no shape and no operation stands twice in its list.
use Prim.Native.Nat.{ℕ, zero, suc, ◌+◌, ◌*◌, ◌/◌, ◌%◌, ◌≤◌, ◌<◌}
use Rattle.opcodes.specs.declared.types.Shape.{Shape}
use Rattle.std.proofs.Common.{Option, Some, None}
use native.Mathlib.Nat.{le_of_suc-le-suc, not-suc-le-zero}
use native.Mathlib.Omega.{arith}
use mathlib.Core.Path.{◌≡◌, refl, sym, ap, ◌∙◌}
use mathlib.Core.Bool.{Bool, true, false, ◌&&◌, ◌||◌}
use mathlib.Core.List.{List, [], ◌∷◌}
use lib.Dec.{T, eqb, leb, ltb, eqb→eq}
use lib.ListN.{length, get_or, drop}
use borrow.Author.Tests.{eqb-true, leb-true, ltb-true}
use Rattle.words.specs.Words.{pick}
use Rattle.alu.specs.declared.types.Alu.TheVariants as alu
use Rattle.alu.specs.declared.types.Shift.TheVariants as shift
use Rattle.cpu.specs.declared.types.Reg.TheVariants as reg
use Rattle.cpu.specs.declared.types.Source.TheVariants as source
use Rattle.cpu.specs.declared.types.One.TheVariants as one
use Rattle.cpu.specs.declared.types.Cond.TheVariants as cond
use Rattle.opcodes.specs.declared.types.Shape.TheVariants.{Immediate}
use Rattle.opcodes.specs.declared.types.Operation.{Operation}
use Rattle.opcodes.specs.declared.types.Operation.TheVariants.{Plain, Read, Give, Take, Do, If, Flag}
use Rattle.shapes.specs.Shapes.{number_of_shape}
use Rattle.shapes.proofs.Every.{apart}
use Rattle.herdbook.specs.Herdbook.{shapes, operations, shape_at, operation_at, entry_at, in_book}

-- an operation's place in its list, and 0 for those that aren't there
abbrev operation_number : Operation → ℕ
operation_number Plain = 0
operation_number (Read alu.Ora r) = 1
operation_number (Read alu.And r) = 2
operation_number (Read alu.Eor r) = 3
operation_number (Read alu.Adc r) = 4
operation_number (Read alu.Load reg.A) = 5
operation_number (Read alu.Load reg.X) = 6
operation_number (Read alu.Load reg.Y) = 7
operation_number (Read alu.Cmp reg.A) = 8
operation_number (Read alu.Cmp reg.X) = 9
operation_number (Read alu.Cmp reg.Y) = 10
operation_number (Read alu.Sbc r) = 11
operation_number (Read alu.Bit r) = 12
operation_number (Read alu.BitImmediate r) = 13
operation_number (Give source.D) = 14
operation_number (Give source.Dbr) = 15
operation_number (Give source.P) = 16
operation_number (Give source.Pbr) = 17
operation_number (Give (source.Register reg.A)) = 18
operation_number (Give (source.Register reg.X)) = 19
operation_number (Give (source.Register reg.Y)) = 20
operation_number (Give source.Zero) = 21
operation_number (Take reg.A) = 22
operation_number (Take reg.X) = 23
operation_number (Take reg.Y) = 24
operation_number (If cond.Always) = 25
operation_number (If (cond.Carry false)) = 26
operation_number (If (cond.Carry true)) = 27
operation_number (If (cond.Negative false)) = 28
operation_number (If (cond.Negative true)) = 29
operation_number (If (cond.Overflow false)) = 30
operation_number (If (cond.Overflow true)) = 31
operation_number (If (cond.Zero false)) = 32
operation_number (If (cond.Zero true)) = 33
operation_number (Flag false) = 34
operation_number (Flag true) = 35
operation_number (Do (one.Accumulator shift.Asl)) = 36
operation_number (Do (one.Accumulator shift.Dec)) = 37
operation_number (Do (one.Accumulator shift.Inc)) = 38
operation_number (Do (one.Accumulator shift.Lsr)) = 39
operation_number (Do (one.Accumulator shift.Rol)) = 40
operation_number (Do (one.Accumulator shift.Ror)) = 41
operation_number (Do (one.Carry false)) = 42
operation_number (Do (one.Carry true)) = 43
operation_number (Do one.Clv) = 44
operation_number (Do (one.Decimal false)) = 45
operation_number (Do (one.Decimal true)) = 46
operation_number (Do (one.Index reg.A up)) = 0
operation_number (Do (one.Index reg.X false)) = 47
operation_number (Do (one.Index reg.X true)) = 48
operation_number (Do (one.Index reg.Y false)) = 49
operation_number (Do (one.Index reg.Y true)) = 50
operation_number (Do (one.Interrupt false)) = 51
operation_number (Do (one.Interrupt true)) = 52
operation_number (Do one.Nop) = 53
operation_number (Do one.Tcd) = 54
operation_number (Do one.Tcs) = 55
operation_number (Do one.Tdc) = 56
operation_number (Do (one.Transfer reg.A reg.A)) = 0
operation_number (Do (one.Transfer reg.A reg.X)) = 57
operation_number (Do (one.Transfer reg.A reg.Y)) = 58
operation_number (Do (one.Transfer reg.X reg.X)) = 0
operation_number (Do (one.Transfer reg.X reg.A)) = 59
operation_number (Do (one.Transfer reg.X reg.Y)) = 60
operation_number (Do (one.Transfer reg.Y reg.Y)) = 0
operation_number (Do (one.Transfer reg.Y reg.A)) = 61
operation_number (Do (one.Transfer reg.Y reg.X)) = 62
operation_number (Do one.Tsc) = 63
operation_number (Do one.Tsx) = 64
operation_number (Do one.Txs) = 65
operation_number (Do one.Xba) = 66
operation_number (Do one.Xce) = 67

abbrev number_of : Option (Shape × Operation) → ℕ
number_of None = 0
number_of (Some (s, o)) = number_of_shape s * 256 + operation_number o

-- each entry of a list has its place's number; behind the first each place is one more than it is in the rest
abbrev in_order : {A : Type 0} → (number : A → ℕ) → (place : ℕ → ℕ) → List A → Bool
in_order number place [] = true
in_order number place (x ∷ xs) = eqb (number x) (place 0) && in_order number (λ k. place (suc k)) xs

in_order_lem : {A : Type 0} (number : A → ℕ) (place : ℕ → ℕ) (other : A) (xs : List A) → T (in_order number place xs) → (k : ℕ) → k < length xs → number (get_or xs k other) ≡ place k
in_order_lem number place other [] t k h = absurd (not-suc-le-zero h)
in_order_lem number place other (x ∷ xs) t zero h = eqb→eq (number x) (place 0) (apart (eqb (number x) (place 0)) _ t).0
in_order_lem number place other (x ∷ xs) t (suc k) h = in_order_lem number (λ n. place (suc n)) other xs (apart (eqb (number x) (place 0)) _ t).1 k (le_of_suc-le-suc h)

shape_once : (k : ℕ) → 1 ≤ k → k < 31 → number_of_shape (shape_at k) ≡ k
unfolding shape_at shapes
shape_once zero l h = absurd (not-suc-le-zero l)
shape_once (suc k) l h = in_order_lem number_of_shape (λ n. suc n) Immediate (drop 1 shapes) tt k (le_of_suc-le-suc h)

operation_once : (k : ℕ) → k < 68 → operation_number (operation_at k) ≡ k
unfolding operation_at operations
operation_once k h = in_order_lem operation_number (λ n. n) Plain operations tt k h

false_true : ◌≡◌ {A = Bool} false true → ⊥
false_true e = let z : ◌≡◌ {A = ℕ} 0 1 = cc in omega arith

both : (a b : Bool) → (a && b) ≡ true → (a ≡ true) × (b ≡ true)
both true b e = (refl, e)
both false b e = absurd (false_true e)

-- the number of a number's entry is the number
kept : (n : ℕ) → in_book n ≡ true → number_of (entry_at n) ≡ n
unfolding entry_at
kept n = go (eqb n 0) refl
  where
    go : (t : Bool) → eqb n 0 ≡ t → (t || (leb 256 n && (ltb n 7936 && ltb (n % 256) 68))) ≡ true
        → number_of (pick t None (Some (shape_at (n / 256), operation_at (n % 256)))) ≡ n
    go true e h = sym (eqb-true n 0 e)
    go false e h = whole
      where
        least : 256 ≤ n
        least = leb-true 256 n (both (leb 256 n) _ h).0

        most : n < 7936
        most = ltb-true n 7936 (both (ltb n 7936) _ (both (leb 256 n) _ h).1).0

        low : n % 256 < 68
        low = ltb-true (n % 256) 68 (both (ltb n 7936) _ (both (leb 256 n) _ h).1).1

        whole : number_of_shape (shape_at (n / 256)) * 256 + operation_number (operation_at (n % 256)) ≡ n
        whole = rw (shape_once (n / 256) (omega (arith, least)) (omega (arith, most)), operation_once (n % 256) low) (omega arith)

pub once : (n k : ℕ) → in_book n ≡ true → in_book k ≡ true → entry_at n ≡ entry_at k → n ≡ k
once n k h l e = sym (kept n h) ∙ ap number_of e ∙ kept k l
