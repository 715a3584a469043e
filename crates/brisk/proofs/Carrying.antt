-- The arm of transfers, steps of the index registers and TSX: the match tells their tags, 8 to 10 of the enum.
use Rattle.std.proofs.Common.{◌≡◌, ℕ, T, List, [], ◌∷◌, refl}
use denote.Enum.Declared.{tag_of}
use Rattle.cpu.specs.contracts.types.One.{the_type}
use Rattle.cpu.specs.Registers.{transfers, applied}
use Rattle.cpu.specs.declared.types.Regs.{Regs}
use Rattle.cpu.specs.declared.types.One.{One}
use Rattle.cpu.specs.declared.types.One.TheVariants as one
use Rattle.opcodes.proofs.Keys.{OneOf, among, elem}
use Rattle.brisk.specs.Brisk.{into_of, value_in}

abbrev tags : List ℕ
tags = 8 ∷ 9 ∷ 10 ∷ []

by_tag : (k : One) (s : ℕ) (g : Regs) → T (elem (tag_of the_type k) tags) → transfers (into_of k) (value_in k s g) g ≡ applied k s g
by_tag (one.Transfer from into) s g h = refl
by_tag (one.Index r ups) s g h = refl
by_tag one.Tsx s g h = refl
by_tag (one.Accumulator k) s g h = absurd h
by_tag (one.Carry c) s g h = absurd h
by_tag (one.Interrupt i) s g h = absurd h
by_tag (one.Decimal d) s g h = absurd h
by_tag one.Clv s g h = absurd h
by_tag one.Nop s g h = absurd h
by_tag one.Xce s g h = absurd h
by_tag one.Xba s g h = absurd h
by_tag one.Txs s g h = absurd h
by_tag one.Tcs s g h = absurd h
by_tag one.Tsc s g h = absurd h
by_tag one.Tcd s g h = absurd h
by_tag one.Tdc s g h = absurd h

pub carries : (k : One) (s : ℕ) (g : Regs) → OneOf tags (tag_of the_type k) → transfers (into_of k) (value_in k s g) g ≡ applied k s g
carries k s g h = by_tag k s g (among (λ (n : ℕ). T (elem n tags)) tags _ h (tt, (tt, (tt, tt))))
