use borrow.Author.Rules.{rules}
use Prim.Native.Nat.{ℕ, ◌≤◌}
use mathlib.Core.Path.{◌≡◌, sym, subst}
use mathlib.Core.List.{[]}
use lib.ListN.{get_or}
use Rattle.opcodes.specs.Opcodes.{decode_of}
use Rattle.tables.specs.Counts.{column_at}
use Rattle.tables.proofs.CountTable.{counts, entry_table}
use Rattle.tables.proofs.count.entry.Goals as goal

pub returns-clause-value : goal.returns-clause-value
returns-clause-value c = (subst (λ (n : ℕ). (get_or (get_or counts n []) c.args.column 0 ≡ column_at c.args.column (decode_of c.args.byte)) × (get_or (get_or counts n []) c.args.column 0 ≤ 8))
    (sym c.shape_of.ensures.value) (entry_table (decode_of c.args.byte) c.args.column (search rules))).0

pub returns-clause-small : goal.returns-clause-small
returns-clause-small c = (subst (λ (n : ℕ). (get_or (get_or counts n []) c.args.column 0 ≡ column_at c.args.column (decode_of c.args.byte)) × (get_or (get_or counts n []) c.args.column 0 ≤ 8))
    (sym c.shape_of.ensures.value) (entry_table (decode_of c.args.byte) c.args.column (search rules))).1
