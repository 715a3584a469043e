use Prim.Native.Nat.{ℕ, ◌/◌, ◌%◌}
use Rattle.std.proofs.Common.{Some, None}
use mathlib.Core.Path.{◌≡◌, sym, ap, ◌∙◌}
use mathlib.Core.Bool.{Bool}
use borrow.Author.Tests.{ne_eqb}
use Rattle.words.specs.Words.{pick}
use Rattle.opcodes.specs.declared.types.Operation.{Operation}
use Rattle.opcodes.specs.declared.types.Shape.{Shape}
use Rattle.herdbook.specs.Herdbook.{entry_at, shape_at, operation_at}
use Rattle.herdbook.proofs.entry.Goals as goal

-- a number that isn't 0 is a shape's and an operation's
listed : (n : ℕ) → (n ≡ 0 → ⊥) → entry_at n ≡ Some (shape_at (n / 256), operation_at (n % 256))
unfolding entry_at
listed n h = ap (λ (t : Bool). pick t None (Some (shape_at (n / 256), operation_at (n % 256)))) (ne_eqb n 0 h)

pub returns-then-n-eq0 : goal.returns-then-n-eq0
unfolding entry_at
returns-then-n-eq0 c = sym (ap entry_at c.if-n-eq0.true) ∙ c.tag-n.ensures.result_value

pub returns-else-n-eq0 : goal.returns-else-n-eq0
returns-else-n-eq0 c =
    ap (λ (s : Shape). Some (s, c.operation.result)) c.shape.ensures
    ∙ ap (λ (o : Operation). Some (shape_at (c.tag-n.result / 256), o)) c.operation.ensures
    ∙ sym (listed _ c.if-n-eq0.false)
    ∙ c.tag-n.ensures.result_value
