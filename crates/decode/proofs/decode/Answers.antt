use Prim.Native.Nat.{ℕ}
use Rattle.std.proofs.Common.{Some, None}
use mathlib.Core.Path.{◌≡◌, refl, sym, ap}
use mathlib.Core.List.{List, [], ◌∷◌}
use Rattle.alu.specs.declared.types.Alu.TheVariants.{Cmp, Load}
use Rattle.cpu.specs.declared.types.Reg.TheVariants.{A}
use Rattle.cpu.specs.declared.types.Source.TheVariants.{Register}
use Rattle.opcodes.specs.Opcodes.{one_bytes, opcodes, decode_of}
use Rattle.decode.specs.Columns.{column_of, operation_of, index_of, condition_of, one_of}
use Rattle.opcodes.specs.declared.types.Shape.TheVariants.{Immediate, Absolute, Direct, StoreAbsolute, StoreDirect, Implied, Branch}
use Rattle.opcodes.specs.declared.types.Operation.TheVariants.{Read, Give, Do, If}
use Rattle.opcodes.proofs.Keys.{among, find_none, within, below, above, not_missed, Missed}
use Rattle.decode.proofs.decode.Goals as goal

-- the arms' keys, the last first, and the ranges
abbrev keys : List (List ℕ)
keys = (0x1B ∷ 0x3B ∷ 0x5B ∷ 0x7B ∷ 0x9B ∷ 0xBB ∷ 0xFB ∷ []) ∷ (0x0A ∷ 0x18 ∷ 0x1A ∷ 0x2A ∷ 0x38 ∷ 0x3A ∷ 0x4A ∷ 0x58 ∷ 0x6A ∷ 0x78 ∷ 0x88 ∷ 0x8A ∷ 0x98 ∷ 0x9A ∷ 0xA8 ∷ 0xAA ∷ 0xB8 ∷ 0xBA ∷ 0xC8 ∷ 0xCA ∷ 0xD8 ∷ 0xE8 ∷ 0xEA ∷ 0xF8 ∷ []) ∷ (0x62 ∷ []) ∷ (0xD4 ∷ []) ∷ (0xF4 ∷ []) ∷ (0x2B ∷ []) ∷ (0xAB ∷ []) ∷ (0x28 ∷ []) ∷ (0x7A ∷ []) ∷ (0xFA ∷ []) ∷ (0x68 ∷ []) ∷ (0x4B ∷ []) ∷ (0x0B ∷ []) ∷ (0x8B ∷ []) ∷ (0x08 ∷ []) ∷ (0x5A ∷ []) ∷ (0xDA ∷ []) ∷ (0x48 ∷ []) ∷ (0x6B ∷ []) ∷ (0x60 ∷ []) ∷ (0x22 ∷ []) ∷ (0xFC ∷ []) ∷ (0x20 ∷ []) ∷ (0xDC ∷ []) ∷ (0x5C ∷ []) ∷ (0x7C ∷ []) ∷ (0x6C ∷ []) ∷ (0x4C ∷ []) ∷ (0x82 ∷ []) ∷ (0x80 ∷ []) ∷ (0x10 ∷ 0x30 ∷ 0x50 ∷ 0x70 ∷ 0x90 ∷ 0xB0 ∷ 0xD0 ∷ 0xF0 ∷ []) ∷ (0x44 ∷ []) ∷ (0x54 ∷ []) ∷ (0x42 ∷ []) ∷ (0xE2 ∷ []) ∷ (0xC2 ∷ []) ∷ (0xEB ∷ []) ∷ (0x9C ∷ []) ∷ (0x64 ∷ []) ∷ (0xCC ∷ 0xEC ∷ []) ∷ (0xC4 ∷ 0xE4 ∷ []) ∷ (0xC0 ∷ 0xE0 ∷ []) ∷ (0xA0 ∷ 0xA2 ∷ []) ∷ (0x89 ∷ []) ∷ (0x2C ∷ []) ∷ (0x24 ∷ []) ∷ (0x0D ∷ 0x2D ∷ 0x4D ∷ 0x6D ∷ 0xCD ∷ 0xED ∷ []) ∷ (0x05 ∷ 0x25 ∷ 0x45 ∷ 0x65 ∷ 0xC5 ∷ 0xE5 ∷ []) ∷ (0x09 ∷ 0x29 ∷ 0x49 ∷ 0x69 ∷ 0xA9 ∷ 0xC9 ∷ 0xE9 ∷ []) ∷ []

abbrev ranges : List (List ℕ) → List (List ℕ)
ranges ks = (0xAC ∷ 0xAD ∷ 0xAE ∷ []) ∷ (0xA4 ∷ 0xA5 ∷ 0xA6 ∷ []) ∷ (0x8C ∷ 0x8D ∷ 0x8E ∷ []) ∷ (0x84 ∷ 0x85 ∷ 0x86 ∷ []) ∷ ks

pub returns-in-9 : goal.returns-in-9
unfolding decode_of opcodes one_bytes one_of
returns-in-9 c = rw c.operation.ensures (among (λ (n : ℕ). Some (Immediate, Read (operation_of n) A) ≡ decode_of n) (0x09 ∷ 0x29 ∷ 0x49 ∷ 0x69 ∷ 0xA9 ∷ 0xC9 ∷ 0xE9 ∷ []) _ c.in-9.is (refl, (refl, (refl, (refl, (refl, (refl, (refl, tt))))))))

pub returns-in-5 : goal.returns-in-5
unfolding decode_of opcodes one_bytes one_of
returns-in-5 c = rw c.operation-in-5.ensures (among (λ (n : ℕ). Some (Direct, Read (operation_of n) A) ≡ decode_of n) (0x05 ∷ 0x25 ∷ 0x45 ∷ 0x65 ∷ 0xC5 ∷ 0xE5 ∷ []) _ c.in-5.is (refl, (refl, (refl, (refl, (refl, (refl, tt)))))))

pub returns-in-13 : goal.returns-in-13
unfolding decode_of opcodes one_bytes one_of
returns-in-13 c = rw c.operation-in-13.ensures (among (λ (n : ℕ). Some (Absolute, Read (operation_of n) A) ≡ decode_of n) (0x0D ∷ 0x2D ∷ 0x4D ∷ 0x6D ∷ 0xCD ∷ 0xED ∷ []) _ c.in-13.is (refl, (refl, (refl, (refl, (refl, (refl, tt)))))))

pub returns-in-160 : goal.returns-in-160
unfolding decode_of opcodes one_bytes one_of
returns-in-160 c = rw c.column.ensures (among (λ (n : ℕ). Some (Immediate, Read Load (column_of n)) ≡ decode_of n) (0xA0 ∷ 0xA2 ∷ []) _ c.in-160.is (refl, (refl, tt)))

pub returns-in-192 : goal.returns-in-192
unfolding decode_of opcodes one_bytes one_of
returns-in-192 c = rw c.index.ensures (among (λ (n : ℕ). Some (Immediate, Read Cmp (index_of n)) ≡ decode_of n) (0xC0 ∷ 0xE0 ∷ []) _ c.in-192.is (refl, (refl, tt)))

pub returns-in-196 : goal.returns-in-196
unfolding decode_of opcodes one_bytes one_of
returns-in-196 c = rw c.index-in-196.ensures (among (λ (n : ℕ). Some (Direct, Read Cmp (index_of n)) ≡ decode_of n) (0xC4 ∷ 0xE4 ∷ []) _ c.in-196.is (refl, (refl, tt)))

pub returns-in-204 : goal.returns-in-204
unfolding decode_of opcodes one_bytes one_of
returns-in-204 c = rw c.index-in-204.ensures (among (λ (n : ℕ). Some (Absolute, Read Cmp (index_of n)) ≡ decode_of n) (0xCC ∷ 0xEC ∷ []) _ c.in-204.is (refl, (refl, tt)))

pub returns-in-16 : goal.returns-in-16
unfolding decode_of opcodes one_bytes one_of
returns-in-16 c = rw c.condition.ensures (among (λ (n : ℕ). Some (Branch, If (condition_of n)) ≡ decode_of n) (0x10 ∷ 0x30 ∷ 0x50 ∷ 0x70 ∷ 0x90 ∷ 0xB0 ∷ 0xD0 ∷ 0xF0 ∷ []) _ c.in-16.is (refl, (refl, (refl, (refl, (refl, (refl, (refl, (refl, tt)))))))))

pub returns-in-10 : goal.returns-in-10
unfolding decode_of opcodes one_bytes one_of
returns-in-10 c = rw c.one_byte.ensures (among (λ (n : ℕ). Some (Implied, Do (one_of n)) ≡ decode_of n) (0x0A ∷ 0x18 ∷ 0x1A ∷ 0x2A ∷ 0x38 ∷ 0x3A ∷ 0x4A ∷ 0x58 ∷ 0x6A ∷ 0x78 ∷ 0x88 ∷ 0x8A ∷ 0x98 ∷ 0x9A ∷ 0xA8 ∷ 0xAA ∷ 0xB8 ∷ 0xBA ∷ 0xC8 ∷ 0xCA ∷ 0xD8 ∷ 0xE8 ∷ 0xEA ∷ 0xF8 ∷ []) _ c.in-10.is (refl, (refl, (refl, (refl, (refl, (refl, (refl, (refl, (refl, (refl, (refl, (refl, (refl, (refl, (refl, (refl, (refl, (refl, (refl, (refl, (refl, (refl, (refl, (refl, tt)))))))))))))))))))))))))

pub returns-in-27 : goal.returns-in-27
unfolding decode_of opcodes one_bytes one_of
returns-in-27 c = rw c.one_byte-in-27.ensures (among (λ (n : ℕ). Some (Implied, Do (one_of n)) ≡ decode_of n) (0x1B ∷ 0x3B ∷ 0x5B ∷ 0x7B ∷ 0x9B ∷ 0xBB ∷ 0xFB ∷ []) _ c.in-27.is (refl, (refl, (refl, (refl, (refl, (refl, (refl, tt))))))))

pub returns-in-132-to-134 : goal.returns-in-132-to-134
unfolding decode_of opcodes one_bytes
returns-in-132-to-134 c = rw c.column-in-132-to-134.ensures (among (λ (n : ℕ). Missed keys n → Some (StoreDirect, Give (Register (column_of n))) ≡ decode_of n) (0x84 ∷ 0x85 ∷ 0x86 ∷ []) _ (within 2 0x84 _ c.in-132-to-134.if-op-lt132-own.false c.in-132-to-134.if-op-lt135-own.true) ((λ h. refl), ((λ h. refl), ((λ h. refl), tt))) c.in-132-to-134.in_default-own.rest)

pub returns-in-140-to-142 : goal.returns-in-140-to-142
unfolding decode_of opcodes one_bytes
returns-in-140-to-142 c = rw c.column-in-140-to-142.ensures (among (λ (n : ℕ). Missed keys n → Some (StoreAbsolute, Give (Register (column_of n))) ≡ decode_of n) (0x88 ∷ 0x89 ∷ 0x8A ∷ 0x8B ∷ 0x8C ∷ 0x8D ∷ 0x8E ∷ []) _ (within 6 0x88 _ c.in-140-to-142.if-op-lt136-own.false c.in-140-to-142.if-op-lt143-own.true) ((λ h. not_missed 0x88 keys tt h), ((λ h. not_missed 0x89 keys tt h), ((λ h. not_missed 0x8A keys tt h), ((λ h. not_missed 0x8B keys tt h), ((λ h. refl), ((λ h. refl), ((λ h. refl), tt))))))) c.in-140-to-142.in_default-own.rest)

pub returns-in-164-to-166 : goal.returns-in-164-to-166
unfolding decode_of opcodes one_bytes
returns-in-164-to-166 c = rw c.column-in-164-to-166.ensures (among (λ (n : ℕ). Missed keys n → Some (Direct, Read Load (column_of n)) ≡ decode_of n) (0xA4 ∷ 0xA5 ∷ 0xA6 ∷ []) _ (within 2 0xA4 _ c.in-164-to-166.if-op-lt164-own.false c.in-164-to-166.if-op-lt167-own.true) ((λ h. refl), ((λ h. refl), ((λ h. refl), tt))) c.in-164-to-166.in_default-own.rest)

pub returns-in-172-to-174 : goal.returns-in-172-to-174
unfolding decode_of opcodes one_bytes
returns-in-172-to-174 c = rw c.column-in-172-to-174.ensures (among (λ (n : ℕ). Missed keys n → Some (Absolute, Read Load (column_of n)) ≡ decode_of n) (0xA8 ∷ 0xA9 ∷ 0xAA ∷ 0xAB ∷ 0xAC ∷ 0xAD ∷ 0xAE ∷ []) _ (within 6 0xA8 _ c.in-172-to-174.if-op-lt168-own.false c.in-172-to-174.if-op-lt175-own.true) ((λ h. not_missed 0xA8 keys tt h), ((λ h. not_missed 0xA9 keys tt h), ((λ h. not_missed 0xAA keys tt h), ((λ h. not_missed 0xAB keys tt h), ((λ h. refl), ((λ h. refl), ((λ h. refl), tt))))))) c.in-172-to-174.in_default-own.rest)

pub returns-in_default : goal.returns-in_default
unfolding decode_of opcodes one_bytes
returns-in_default c = sym (find_none None _ opcodes (ranges keys) tt ((((c.in_default.in_default-own.rest, below 0x84 _ (0x84 ∷ 0x85 ∷ 0x86 ∷ []) tt c.in_default.if-op-lt132-own.true), below 0x84 _ (0x8C ∷ 0x8D ∷ 0x8E ∷ []) tt c.in_default.if-op-lt132-own.true), below 0x84 _ (0xA4 ∷ 0xA5 ∷ 0xA6 ∷ []) tt c.in_default.if-op-lt132-own.true), below 0x84 _ (0xAC ∷ 0xAD ∷ 0xAE ∷ []) tt c.in_default.if-op-lt132-own.true))

pub returns-in_default-2 : goal.returns-in_default-2
unfolding decode_of opcodes one_bytes
returns-in_default-2 c = sym (find_none None _ opcodes (ranges keys) tt ((((c.in_default.in_default-own.rest, above 0x87 _ (0x84 ∷ 0x85 ∷ 0x86 ∷ []) tt c.in_default.if-op-lt135-own.false), below 0x88 _ (0x8C ∷ 0x8D ∷ 0x8E ∷ []) tt c.in_default.if-op-lt136-own.true), below 0x88 _ (0xA4 ∷ 0xA5 ∷ 0xA6 ∷ []) tt c.in_default.if-op-lt136-own.true), below 0x88 _ (0xAC ∷ 0xAD ∷ 0xAE ∷ []) tt c.in_default.if-op-lt136-own.true))

pub returns-in_default-3 : goal.returns-in_default-3
unfolding decode_of opcodes one_bytes
returns-in_default-3 c = sym (find_none None _ opcodes (ranges keys) tt ((((c.in_default.in_default-own.rest, above 0x87 _ (0x84 ∷ 0x85 ∷ 0x86 ∷ []) tt c.in_default.if-op-lt135-own.false), above 0x8F _ (0x8C ∷ 0x8D ∷ 0x8E ∷ []) tt c.in_default.if-op-lt143-own.false), below 0xA4 _ (0xA4 ∷ 0xA5 ∷ 0xA6 ∷ []) tt c.in_default.if-op-lt164-own.true), below 0xA4 _ (0xAC ∷ 0xAD ∷ 0xAE ∷ []) tt c.in_default.if-op-lt164-own.true))

pub returns-in_default-4 : goal.returns-in_default-4
unfolding decode_of opcodes one_bytes
returns-in_default-4 c = sym (find_none None _ opcodes (ranges keys) tt ((((c.in_default.in_default-own.rest, above 0x87 _ (0x84 ∷ 0x85 ∷ 0x86 ∷ []) tt c.in_default.if-op-lt135-own.false), above 0x8F _ (0x8C ∷ 0x8D ∷ 0x8E ∷ []) tt c.in_default.if-op-lt143-own.false), above 0xA7 _ (0xA4 ∷ 0xA5 ∷ 0xA6 ∷ []) tt c.in_default.if-op-lt167-own.false), below 0xA8 _ (0xAC ∷ 0xAD ∷ 0xAE ∷ []) tt c.in_default.if-op-lt168-own.true))

pub returns-in_default-5 : goal.returns-in_default-5
unfolding decode_of opcodes one_bytes
returns-in_default-5 c = sym (find_none None _ opcodes (ranges keys) tt ((((c.in_default.in_default-own.rest, above 0x87 _ (0x84 ∷ 0x85 ∷ 0x86 ∷ []) tt c.in_default.if-op-lt135-own.false), above 0x8F _ (0x8C ∷ 0x8D ∷ 0x8E ∷ []) tt c.in_default.if-op-lt143-own.false), above 0xA7 _ (0xA4 ∷ 0xA5 ∷ 0xA6 ∷ []) tt c.in_default.if-op-lt167-own.false), above 0xAF _ (0xAC ∷ 0xAD ∷ 0xAE ∷ []) tt c.in_default.if-op-lt175-own.false))
