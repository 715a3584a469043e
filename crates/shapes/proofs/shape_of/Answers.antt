use borrow.Author.Rules.{rules}
use Prim.Native.Nat.{ℕ, ◌<◌}
use mathlib.Core.Path.{subst⁻¹}
use Rattle.opcodes.specs.Opcodes.{decode_of}
use Rattle.shapes.proofs.ShapeTable.{shapes_table, number_small}
use Rattle.shapes.proofs.shape_of.Goals as goal

pub returns-clause-value : goal.returns-clause-value
returns-clause-value c = shapes_table c.args.byte (search rules)

pub returns-clause-small : goal.returns-clause-small
returns-clause-small c = subst⁻¹ (λ (n : ℕ). n < 31) (shapes_table c.args.byte (search rules)) (number_small (decode_of c.args.byte))
