-- Figures of our own at the edges: flags and modes, PC at a bank's end, S at the ends of its page and bank, unlike widths, refusals.
-- Each was worked out from document 01 and the data sheet's rows.
use Rattle.std.specs.Prelude.{List, [], ◌∷◌}
use Rattle.sheet.specs.Sheet.{O, P, D, I, W}
use Rattle.sheet.specs.FigureForm.{Figure, A, X, Y, S, DP, PC, PBR, DBR, n, v, m, x, d, i, z, c, e, Held, IR, TCU, Address, Data, Bank, Cycles, Refusal, ◌is◌, Asks, start, emulation, native8, native16, wide_a, wide_index, row}

-- the flags by instruction, and the modes: M is bit 5 of the status byte, X bit 4
unfoldable pub modes : List Figure
modes =
    -- XCE changes C and E over; into emulation both widths become 8 bits, X and Y lose their high bytes and S is in page 1, A keeps both bytes
    row (native16 (c is 1 ∷ A is 0x1234 ∷ X is 0x5678 ∷ Y is 0x9ABC ∷ S is 0x3456 ∷ [])) (0xFB ∷ [])
    (Asks (O 0x008000 ∷ I 0x008001 ∷ []) ∷ e is 1 ∷ c is 0 ∷ m is 1 ∷ x is 1 ∷ A is 0x1234 ∷ X is 0x0078 ∷ Y is 0x00BC ∷ S is 0x0156 ∷ PC is 0x8001 ∷ [])
    -- out of emulation the widths stay 8 bits
    ∷ row (emulation (c is 0 ∷ A is 0x1234 ∷ X is 0x0056 ∷ S is 0x01AB ∷ [])) (0xFB ∷ [])
    (Asks (O 0x008000 ∷ I 0x008001 ∷ []) ∷ e is 0 ∷ c is 1 ∷ m is 1 ∷ x is 1 ∷ A is 0x1234 ∷ X is 0x0056 ∷ S is 0x01AB ∷ [])
    -- where C and E are alike nothing changes
    ∷ row (emulation (c is 1 ∷ [])) (0xFB ∷ []) (e is 1 ∷ c is 1 ∷ m is 1 ∷ x is 1 ∷ S is 0x01FF ∷ [])
    ∷ row (native16 (c is 0 ∷ X is 0x1234 ∷ S is 0x3456 ∷ [])) (0xFB ∷ []) (e is 0 ∷ c is 0 ∷ m is 0 ∷ x is 0 ∷ X is 0x1234 ∷ S is 0x3456 ∷ [])
    -- REP FF clears every flag; in emulation the widths stay
    ∷ row (native8 (n is 1 ∷ v is 1 ∷ d is 1 ∷ i is 1 ∷ z is 1 ∷ c is 1 ∷ [])) (0xC2 ∷ 0xFF ∷ [])
    (Asks (O 0x008000 ∷ P 0x008001 ∷ I 0x008002 ∷ []) ∷ n is 0 ∷ v is 0 ∷ m is 0 ∷ x is 0 ∷ d is 0 ∷ i is 0 ∷ z is 0 ∷ c is 0 ∷ e is 0 ∷ PC is 0x8002 ∷ [])
    ∷ row (emulation (n is 1 ∷ v is 1 ∷ d is 1 ∷ i is 1 ∷ z is 1 ∷ c is 1 ∷ [])) (0xC2 ∷ 0xFF ∷ [])
    (n is 0 ∷ v is 0 ∷ m is 1 ∷ x is 1 ∷ d is 0 ∷ i is 0 ∷ z is 0 ∷ c is 0 ∷ e is 1 ∷ [])
    -- SEP FF sets them, and the high bytes of X and Y are gone
    ∷ row (native16 (A is 0x1234 ∷ X is 0x5678 ∷ Y is 0x9ABC ∷ [])) (0xE2 ∷ 0xFF ∷ [])
    (Asks (O 0x008000 ∷ P 0x008001 ∷ I 0x008002 ∷ []) ∷ n is 1 ∷ v is 1 ∷ m is 1 ∷ x is 1 ∷ d is 1 ∷ i is 1 ∷ z is 1 ∷ c is 1 ∷ e is 0 ∷ A is 0x1234 ∷ X is 0x0078 ∷ Y is 0x00BC ∷ PC is 0x8002 ∷ [])
    ∷ row (emulation []) (0xE2 ∷ 0xFF ∷ []) (n is 1 ∷ v is 1 ∷ m is 1 ∷ x is 1 ∷ d is 1 ∷ i is 1 ∷ z is 1 ∷ c is 1 ∷ e is 1 ∷ [])
    -- one flag at a time, the widths first
    ∷ row (native8 []) (0xC2 ∷ 0x10 ∷ []) (m is 1 ∷ x is 0 ∷ [])
    ∷ row (native8 []) (0xC2 ∷ 0x20 ∷ []) (m is 0 ∷ x is 1 ∷ [])
    ∷ row (native16 (X is 0x1234 ∷ Y is 0x5678 ∷ [])) (0xE2 ∷ 0x10 ∷ []) (m is 0 ∷ x is 1 ∷ X is 0x0034 ∷ Y is 0x0078 ∷ [])
    ∷ row (native16 (X is 0x1234 ∷ Y is 0x5678 ∷ [])) (0xE2 ∷ 0x20 ∷ []) (m is 1 ∷ x is 0 ∷ X is 0x1234 ∷ Y is 0x5678 ∷ [])
    ∷ row (native8 (n is 1 ∷ v is 1 ∷ d is 1 ∷ i is 1 ∷ z is 1 ∷ c is 1 ∷ [])) (0xC2 ∷ 0x04 ∷ []) (n is 1 ∷ v is 1 ∷ d is 1 ∷ i is 0 ∷ z is 1 ∷ c is 1 ∷ [])
    ∷ row (native8 (n is 1 ∷ v is 1 ∷ d is 1 ∷ i is 1 ∷ z is 1 ∷ c is 1 ∷ [])) (0xC2 ∷ 0x08 ∷ []) (n is 1 ∷ v is 1 ∷ d is 0 ∷ i is 1 ∷ z is 1 ∷ c is 1 ∷ [])
    ∷ row (native8 (n is 1 ∷ v is 1 ∷ d is 1 ∷ i is 1 ∷ z is 1 ∷ c is 1 ∷ [])) (0xC2 ∷ 0x81 ∷ []) (n is 0 ∷ v is 1 ∷ d is 1 ∷ i is 1 ∷ z is 1 ∷ c is 0 ∷ [])
    ∷ row (native8 []) (0xE2 ∷ 0x04 ∷ []) (n is 0 ∷ v is 0 ∷ d is 0 ∷ i is 1 ∷ z is 0 ∷ c is 0 ∷ [])
    ∷ row (native8 []) (0xE2 ∷ 0x42 ∷ []) (n is 0 ∷ v is 1 ∷ d is 0 ∷ i is 0 ∷ z is 1 ∷ c is 0 ∷ [])
    -- PLP: all flags in native mode; in emulation the widths stay
    ∷ row (native16 (X is 0x1234 ∷ Y is 0x5678 ∷ [])) (0x28 ∷ 0x00 ∷ 0x00 ∷ 0xFF ∷ [])
    (Asks (O 0x008000 ∷ I 0x008001 ∷ I 0x008001 ∷ D 0x000200 ∷ []) ∷ n is 1 ∷ v is 1 ∷ m is 1 ∷ x is 1 ∷ d is 1 ∷ i is 1 ∷ z is 1 ∷ c is 1 ∷ e is 0 ∷ X is 0x0034 ∷ Y is 0x0078 ∷ [])
    ∷ row (native8 (n is 1 ∷ v is 1 ∷ d is 1 ∷ i is 1 ∷ z is 1 ∷ c is 1 ∷ [])) (0x28 ∷ 0x00 ∷ 0x00 ∷ 0x00 ∷ [])
    (n is 0 ∷ v is 0 ∷ m is 0 ∷ x is 0 ∷ d is 0 ∷ i is 0 ∷ z is 0 ∷ c is 0 ∷ [])
    ∷ row (native16 (X is 0x1234 ∷ [])) (0x28 ∷ 0x00 ∷ 0x00 ∷ 0x10 ∷ []) (m is 0 ∷ x is 1 ∷ X is 0x0034 ∷ [])
    ∷ row (native16 (X is 0x1234 ∷ [])) (0x28 ∷ 0x00 ∷ 0x00 ∷ 0x20 ∷ []) (m is 1 ∷ x is 0 ∷ X is 0x1234 ∷ [])
    ∷ row (native8 []) (0x28 ∷ 0x00 ∷ 0x00 ∷ 0xCF ∷ []) (n is 1 ∷ v is 1 ∷ m is 0 ∷ x is 0 ∷ d is 1 ∷ i is 1 ∷ z is 1 ∷ c is 1 ∷ [])
    ∷ row (emulation (n is 1 ∷ v is 1 ∷ d is 1 ∷ i is 1 ∷ z is 1 ∷ c is 1 ∷ [])) (0x28 ∷ 0x00 ∷ 0x00 ∷ 0x00 ∷ [])
    (n is 0 ∷ v is 0 ∷ m is 1 ∷ x is 1 ∷ d is 0 ∷ i is 0 ∷ z is 0 ∷ c is 0 ∷ e is 1 ∷ [])
    ∷ row (emulation []) (0x28 ∷ 0x00 ∷ 0x00 ∷ 0xFF ∷ []) (n is 1 ∷ v is 1 ∷ m is 1 ∷ x is 1 ∷ d is 1 ∷ i is 1 ∷ z is 1 ∷ c is 1 ∷ e is 1 ∷ [])
    -- PHP: bits 5 and 4 are M and X in native mode, set in emulation
    ∷ row (wide_index (n is 1 ∷ i is 1 ∷ [])) (0x08 ∷ []) (Asks (O 0x008000 ∷ I 0x008001 ∷ W 0x0001FF 0xA4 ∷ []) ∷ S is 0x01FE ∷ [])
    ∷ row (wide_a (v is 1 ∷ z is 1 ∷ [])) (0x08 ∷ []) (Asks (O 0x008000 ∷ I 0x008001 ∷ W 0x0001FF 0x52 ∷ []) ∷ S is 0x01FE ∷ [])
    ∷ row (native16 (d is 1 ∷ c is 1 ∷ [])) (0x08 ∷ []) (Asks (O 0x008000 ∷ I 0x008001 ∷ W 0x0001FF 0x09 ∷ []) ∷ S is 0x01FE ∷ [])
    ∷ row (emulation (i is 1 ∷ [])) (0x08 ∷ []) (Asks (O 0x008000 ∷ I 0x008001 ∷ W 0x0001FF 0x34 ∷ []) ∷ S is 0x01FE ∷ [])
    -- CLI, SEI, CLD, SED, CLC, SEC, CLV: one flag each
    ∷ row (native8 (n is 1 ∷ v is 1 ∷ d is 1 ∷ i is 1 ∷ z is 1 ∷ c is 1 ∷ [])) (0x58 ∷ []) (n is 1 ∷ v is 1 ∷ d is 1 ∷ i is 0 ∷ z is 1 ∷ c is 1 ∷ [])
    ∷ row (native8 []) (0x78 ∷ []) (n is 0 ∷ v is 0 ∷ d is 0 ∷ i is 1 ∷ z is 0 ∷ c is 0 ∷ [])
    ∷ row (native8 (n is 1 ∷ v is 1 ∷ d is 1 ∷ i is 1 ∷ z is 1 ∷ c is 1 ∷ [])) (0xD8 ∷ []) (n is 1 ∷ v is 1 ∷ d is 0 ∷ i is 1 ∷ z is 1 ∷ c is 1 ∷ [])
    ∷ row (native8 []) (0xF8 ∷ []) (n is 0 ∷ v is 0 ∷ d is 1 ∷ i is 0 ∷ z is 0 ∷ c is 0 ∷ [])
    ∷ row (native8 (n is 1 ∷ v is 1 ∷ d is 1 ∷ i is 1 ∷ z is 1 ∷ c is 1 ∷ [])) (0x18 ∷ []) (n is 1 ∷ v is 1 ∷ d is 1 ∷ i is 1 ∷ z is 1 ∷ c is 0 ∷ [])
    ∷ row (native8 []) (0x38 ∷ []) (n is 0 ∷ v is 0 ∷ d is 0 ∷ i is 0 ∷ z is 0 ∷ c is 1 ∷ [])
    ∷ row (native8 (n is 1 ∷ v is 1 ∷ d is 1 ∷ i is 1 ∷ z is 1 ∷ c is 1 ∷ [])) (0xB8 ∷ []) (n is 1 ∷ v is 0 ∷ d is 1 ∷ i is 1 ∷ z is 1 ∷ c is 1 ∷ [])
    ∷ []

-- PC wraps inside bank 12: each way to fetch and to idle, at the edge
unfoldable pub fetches : List Figure
fetches =
    -- immediate, 16 bits
    row (native16 (PBR is 0x12 ∷ PC is 0xFFFE ∷ [])) (0xA9 ∷ 0x34 ∷ 0x12 ∷ [])
    (Asks (O 0x12FFFE ∷ P 0x12FFFF ∷ P 0x120000 ∷ []) ∷ PC is 0x0001 ∷ PBR is 0x12 ∷ A is 0x1234 ∷ [])
    ∷ row (native16 (PBR is 0x12 ∷ PC is 0xFFFF ∷ [])) (0xA9 ∷ 0x34 ∷ 0x12 ∷ [])
    (Asks (O 0x12FFFF ∷ P 0x120000 ∷ P 0x120001 ∷ []) ∷ PC is 0x0002 ∷ PBR is 0x12 ∷ A is 0x1234 ∷ [])
    -- direct, the low byte of D not 0: the idle cycle asks the operand's byte again
    ∷ row (native8 (PBR is 0x12 ∷ PC is 0xFFFE ∷ DP is 0x0001 ∷ [])) (0xA5 ∷ 0x10 ∷ 0x00 ∷ 0x56 ∷ [])
    (Asks (O 0x12FFFE ∷ P 0x12FFFF ∷ I 0x12FFFF ∷ D 0x000011 ∷ []) ∷ PC is 0x0000 ∷ PBR is 0x12 ∷ A is 0x0056 ∷ [])
    ∷ row (native8 (PBR is 0x12 ∷ PC is 0xFFFF ∷ DP is 0x0001 ∷ [])) (0xA5 ∷ 0x10 ∷ 0x00 ∷ 0x56 ∷ [])
    (Asks (O 0x12FFFF ∷ P 0x120000 ∷ I 0x120000 ∷ D 0x000011 ∷ []) ∷ PC is 0x0001 ∷ PBR is 0x12 ∷ A is 0x0056 ∷ [])
    ∷ row (native8 (PBR is 0x12 ∷ PC is 0xFFFF ∷ DP is 0x0001 ∷ A is 0x0056 ∷ [])) (0x85 ∷ 0x10 ∷ [])
    (Asks (O 0x12FFFF ∷ P 0x120000 ∷ I 0x120000 ∷ W 0x000011 0x56 ∷ []) ∷ PC is 0x0001 ∷ PBR is 0x12 ∷ [])
    -- and 0
    ∷ row (native8 (PBR is 0x12 ∷ PC is 0xFFFE ∷ [])) (0xA5 ∷ 0x10 ∷ 0x56 ∷ [])
    (Asks (O 0x12FFFE ∷ P 0x12FFFF ∷ D 0x000010 ∷ []) ∷ PC is 0x0000 ∷ PBR is 0x12 ∷ A is 0x0056 ∷ [])
    -- absolute, a store into bank 7E
    ∷ row (native8 (PBR is 0x12 ∷ PC is 0xFFFE ∷ DBR is 0x7E ∷ A is 0x0056 ∷ [])) (0x8D ∷ 0x34 ∷ 0x12 ∷ [])
    (Asks (O 0x12FFFE ∷ P 0x12FFFF ∷ P 0x120000 ∷ W 0x7E1234 0x56 ∷ []) ∷ PC is 0x0001 ∷ PBR is 0x12 ∷ [])
    -- XBA, PHA, PLA: the idle cycles lie past the opcode
    ∷ row (native8 (PBR is 0x12 ∷ PC is 0xFFFF ∷ A is 0x1234 ∷ [])) (0xEB ∷ [])
    (Asks (O 0x12FFFF ∷ I 0x120000 ∷ I 0x120000 ∷ []) ∷ PC is 0x0000 ∷ PBR is 0x12 ∷ A is 0x3412 ∷ [])
    ∷ row (native8 (PBR is 0x12 ∷ PC is 0xFFFF ∷ A is 0x1234 ∷ [])) (0x48 ∷ [])
    (Asks (O 0x12FFFF ∷ I 0x120000 ∷ W 0x0001FF 0x34 ∷ []) ∷ PC is 0x0000 ∷ PBR is 0x12 ∷ [])
    ∷ row (native8 (PBR is 0x12 ∷ PC is 0xFFFF ∷ [])) (0x68 ∷ 0x00 ∷ 0x00 ∷ 0x34 ∷ [])
    (Asks (O 0x12FFFF ∷ I 0x120000 ∷ I 0x120000 ∷ D 0x000200 ∷ []) ∷ PC is 0x0000 ∷ PBR is 0x12 ∷ A is 0x0034 ∷ [])
    -- REP, SEP: the idle cycle lies past the operand
    ∷ row (native8 (PBR is 0x12 ∷ PC is 0xFFFF ∷ [])) (0xC2 ∷ 0x01 ∷ []) (Asks (O 0x12FFFF ∷ P 0x120000 ∷ I 0x120001 ∷ []) ∷ PC is 0x0001 ∷ PBR is 0x12 ∷ [])
    ∷ row (native8 (PBR is 0x12 ∷ PC is 0xFFFE ∷ [])) (0xE2 ∷ 0x01 ∷ [])
    (Asks (O 0x12FFFE ∷ P 0x12FFFF ∷ I 0x120000 ∷ []) ∷ PC is 0x0000 ∷ PBR is 0x12 ∷ c is 1 ∷ [])
    -- WDM
    ∷ row (native8 (PBR is 0x12 ∷ PC is 0xFFFF ∷ [])) (0x42 ∷ 0x99 ∷ []) (Asks (O 0x12FFFF ∷ P 0x120000 ∷ []) ∷ PC is 0x0001 ∷ PBR is 0x12 ∷ [])
    -- a branch: its idle cycles lie past the operand, and it is counted from there
    ∷ row (native8 (PBR is 0x12 ∷ PC is 0xFFFF ∷ [])) (0x80 ∷ 0x10 ∷ []) (Asks (O 0x12FFFF ∷ P 0x120000 ∷ I 0x120001 ∷ []) ∷ PC is 0x0011 ∷ PBR is 0x12 ∷ [])
    ∷ row (native8 (PBR is 0x12 ∷ PC is 0xFFFE ∷ [])) (0x80 ∷ 0xFF ∷ []) (Asks (O 0x12FFFE ∷ P 0x12FFFF ∷ I 0x120000 ∷ []) ∷ PC is 0xFFFF ∷ PBR is 0x12 ∷ [])
    ∷ row (emulation (PBR is 0x12 ∷ PC is 0xFFFE ∷ [])) (0x80 ∷ 0xFF ∷ [])
    (Asks (O 0x12FFFE ∷ P 0x12FFFF ∷ I 0x120000 ∷ I 0x120000 ∷ []) ∷ PC is 0xFFFF ∷ PBR is 0x12 ∷ Cycles is 4 ∷ [])
    ∷ row (emulation (PBR is 0x12 ∷ PC is 0xFFFD ∷ [])) (0x80 ∷ 0x7F ∷ [])
    (Asks (O 0x12FFFD ∷ P 0x12FFFE ∷ I 0x12FFFF ∷ I 0x12FFFF ∷ []) ∷ PC is 0x007E ∷ PBR is 0x12 ∷ Cycles is 4 ∷ [])
    ∷ row (emulation (PBR is 0x12 ∷ PC is 0xFFFE ∷ [])) (0x80 ∷ 0x7F ∷ [])
    (Asks (O 0x12FFFE ∷ P 0x12FFFF ∷ I 0x120000 ∷ []) ∷ PC is 0x007F ∷ PBR is 0x12 ∷ Cycles is 3 ∷ [])
    -- one that isn't taken
    ∷ row (native8 (PBR is 0x12 ∷ PC is 0xFFFE ∷ z is 1 ∷ [])) (0xD0 ∷ 0x10 ∷ []) (Asks (O 0x12FFFE ∷ P 0x12FFFF ∷ []) ∷ PC is 0x0000 ∷ PBR is 0x12 ∷ [])
    -- BRL: the idle cycle lies at the operand's last byte
    ∷ row (native8 (PBR is 0x12 ∷ PC is 0xFFFF ∷ [])) (0x82 ∷ 0x34 ∷ 0x12 ∷ [])
    (Asks (O 0x12FFFF ∷ P 0x120000 ∷ P 0x120001 ∷ I 0x120001 ∷ []) ∷ PC is 0x1236 ∷ PBR is 0x12 ∷ [])
    ∷ row (native8 (PBR is 0x12 ∷ PC is 0xFFFE ∷ [])) (0x82 ∷ 0xFE ∷ 0xFF ∷ [])
    (Asks (O 0x12FFFE ∷ P 0x12FFFF ∷ P 0x120000 ∷ I 0x120000 ∷ []) ∷ PC is 0xFFFF ∷ PBR is 0x12 ∷ [])
    -- jumps
    ∷ row (native8 (PBR is 0x12 ∷ PC is 0xFFFE ∷ [])) (0x4C ∷ 0x34 ∷ 0x12 ∷ [])
    (Asks (O 0x12FFFE ∷ P 0x12FFFF ∷ P 0x120000 ∷ []) ∷ PC is 0x1234 ∷ PBR is 0x12 ∷ [])
    ∷ row (native8 (PBR is 0x12 ∷ PC is 0xFFFE ∷ [])) (0x6C ∷ 0x34 ∷ 0x12 ∷ 0x78 ∷ 0x56 ∷ [])
    (Asks (O 0x12FFFE ∷ P 0x12FFFF ∷ P 0x120000 ∷ D 0x001234 ∷ D 0x001235 ∷ []) ∷ PC is 0x5678 ∷ PBR is 0x12 ∷ [])
    ∷ row (native8 (PBR is 0x12 ∷ PC is 0xFFFF ∷ [])) (0xDC ∷ 0x34 ∷ 0x12 ∷ 0x78 ∷ 0x56 ∷ 0x9A ∷ [])
    (Asks (O 0x12FFFF ∷ P 0x120000 ∷ P 0x120001 ∷ D 0x001234 ∷ D 0x001235 ∷ D 0x001236 ∷ []) ∷ PC is 0x5678 ∷ PBR is 0x9A ∷ [])
    ∷ row (native8 (PBR is 0x12 ∷ PC is 0xFFFD ∷ [])) (0x5C ∷ 0x56 ∷ 0x34 ∷ 0x9A ∷ [])
    (Asks (O 0x12FFFD ∷ P 0x12FFFE ∷ P 0x12FFFF ∷ P 0x120000 ∷ []) ∷ PC is 0x3456 ∷ PBR is 0x9A ∷ [])
    ∷ row (native8 (PBR is 0x12 ∷ PC is 0xFFFE ∷ X is 0x0004 ∷ [])) (0x7C ∷ 0x34 ∷ 0x12 ∷ 0x00 ∷ 0x78 ∷ 0x56 ∷ [])
    (Asks (O 0x12FFFE ∷ P 0x12FFFF ∷ P 0x120000 ∷ I 0x120000 ∷ P 0x121238 ∷ P 0x121239 ∷ []) ∷ PC is 0x5678 ∷ PBR is 0x12 ∷ [])
    ∷ row (native8 (PBR is 0x12 ∷ PC is 0xFFFF ∷ X is 0x0004 ∷ [])) (0x7C ∷ 0x34 ∷ 0x12 ∷ 0x00 ∷ 0x78 ∷ 0x56 ∷ [])
    (Asks (O 0x12FFFF ∷ P 0x120000 ∷ P 0x120001 ∷ I 0x120001 ∷ P 0x121238 ∷ P 0x121239 ∷ []) ∷ PC is 0x5678 ∷ PBR is 0x12 ∷ [])
    -- JSR: the address of its last byte is pushed, FFFF, then 0000
    ∷ row (native8 (PBR is 0x12 ∷ PC is 0xFFFD ∷ [])) (0x20 ∷ 0x34 ∷ 0x12 ∷ [])
    (Asks (O 0x12FFFD ∷ P 0x12FFFE ∷ P 0x12FFFF ∷ I 0x12FFFF ∷ W 0x0001FF 0xFF ∷ W 0x0001FE 0xFF ∷ []) ∷ PC is 0x1234 ∷ PBR is 0x12 ∷ S is 0x01FD ∷ [])
    ∷ row (native8 (PBR is 0x12 ∷ PC is 0xFFFE ∷ [])) (0x20 ∷ 0x34 ∷ 0x12 ∷ [])
    (Asks (O 0x12FFFE ∷ P 0x12FFFF ∷ P 0x120000 ∷ I 0x120000 ∷ W 0x0001FF 0x00 ∷ W 0x0001FE 0x00 ∷ []) ∷ PC is 0x1234 ∷ PBR is 0x12 ∷ S is 0x01FD ∷ [])
    -- JSR (a,x): likewise; the table's entry lies at the edge too
    ∷ row (native8 (PBR is 0x12 ∷ PC is 0xFFFE ∷ X is 0x0001 ∷ [])) (0xFC ∷ 0xFE ∷ 0x00 ∷ 0x00 ∷ 0xFF ∷ 0x00 ∷ 0x78 ∷ 0x56 ∷ [])
    (Asks (O 0x12FFFE ∷ P 0x12FFFF ∷ W 0x0001FF 0x00 ∷ W 0x0001FE 0x00 ∷ P 0x120000 ∷ I 0x120000 ∷ P 0x12FFFF ∷ P 0x120000 ∷ []) ∷ PC is 0x5678 ∷ PBR is 0x12 ∷ S is 0x01FD ∷ [])
    ∷ row (native8 (PBR is 0x12 ∷ PC is 0xFFFF ∷ X is 0x0001 ∷ [])) (0xFC ∷ 0xFF ∷ 0x00 ∷ 0x00 ∷ 0xFF ∷ 0x00 ∷ 0x78 ∷ 0x56 ∷ [])
    (Asks (O 0x12FFFF ∷ P 0x120000 ∷ W 0x0001FF 0x00 ∷ W 0x0001FE 0x01 ∷ P 0x120001 ∷ I 0x120001 ∷ P 0x120000 ∷ P 0x120001 ∷ []) ∷ PC is 0x5678 ∷ PBR is 0x12 ∷ S is 0x01FD ∷ [])
    -- JSL: likewise, with the bank
    ∷ row (native8 (PBR is 0x12 ∷ PC is 0xFFFD ∷ [])) (0x22 ∷ 0x78 ∷ 0x56 ∷ 0x00 ∷ 0x00 ∷ 0x34 ∷ [])
    (Asks (O 0x12FFFD ∷ P 0x12FFFE ∷ P 0x12FFFF ∷ W 0x0001FF 0x12 ∷ I 0x0001FF ∷ P 0x120000 ∷ W 0x0001FE 0x00 ∷ W 0x0001FD 0x00 ∷ []) ∷ PC is 0x5678 ∷ PBR is 0x34 ∷ S is 0x01FC ∷ [])
    ∷ row (native8 (PBR is 0x12 ∷ PC is 0xFFFE ∷ [])) (0x22 ∷ 0x78 ∷ 0x56 ∷ 0x00 ∷ 0x00 ∷ 0x34 ∷ [])
    (Asks (O 0x12FFFE ∷ P 0x12FFFF ∷ P 0x120000 ∷ W 0x0001FF 0x12 ∷ I 0x0001FF ∷ P 0x120001 ∷ W 0x0001FE 0x00 ∷ W 0x0001FD 0x01 ∷ []) ∷ PC is 0x5678 ∷ PBR is 0x34 ∷ S is 0x01FC ∷ [])
    -- RTS and RTL go on past the FFFF that is pulled, at 0000 of the same bank
    ∷ row (native8 (PBR is 0x12 ∷ PC is 0xFFFF ∷ S is 0x01F0 ∷ [])) (0x60 ∷ 0x00 ∷ 0x00 ∷ 0xFF ∷ 0xFF ∷ [])
    (Asks (O 0x12FFFF ∷ I 0x120000 ∷ I 0x120000 ∷ D 0x0001F1 ∷ D 0x0001F2 ∷ I 0x0001F2 ∷ []) ∷ PC is 0x0000 ∷ PBR is 0x12 ∷ S is 0x01F2 ∷ [])
    ∷ row (native8 (PBR is 0x12 ∷ PC is 0xFFFF ∷ S is 0x01F0 ∷ [])) (0x6B ∷ 0x00 ∷ 0x00 ∷ 0xFF ∷ 0xFF ∷ 0x34 ∷ [])
    (Asks (O 0x12FFFF ∷ I 0x120000 ∷ I 0x120000 ∷ D 0x0001F1 ∷ D 0x0001F2 ∷ D 0x0001F3 ∷ []) ∷ PC is 0x0000 ∷ PBR is 0x34 ∷ S is 0x01F3 ∷ [])
    -- PEA
    ∷ row (native8 (PBR is 0x12 ∷ PC is 0xFFFE ∷ [])) (0xF4 ∷ 0x34 ∷ 0x12 ∷ [])
    (Asks (O 0x12FFFE ∷ P 0x12FFFF ∷ P 0x120000 ∷ W 0x0001FF 0x12 ∷ W 0x0001FE 0x34 ∷ []) ∷ PC is 0x0001 ∷ PBR is 0x12 ∷ [])
    -- PEI, the low byte of D not 0
    ∷ row (native8 (PBR is 0x12 ∷ PC is 0xFFFF ∷ DP is 0x0001 ∷ [])) (0xD4 ∷ 0x10 ∷ 0x00 ∷ 0x34 ∷ 0x12 ∷ [])
    (Asks (O 0x12FFFF ∷ P 0x120000 ∷ I 0x120000 ∷ D 0x000011 ∷ D 0x000012 ∷ W 0x0001FF 0x12 ∷ W 0x0001FE 0x34 ∷ []) ∷ PC is 0x0001 ∷ PBR is 0x12 ∷ [])
    -- PER counts from past the operand: 0001 + 1233, 0002 + FFFE
    ∷ row (native8 (PBR is 0x12 ∷ PC is 0xFFFE ∷ [])) (0x62 ∷ 0x33 ∷ 0x12 ∷ [])
    (Asks (O 0x12FFFE ∷ P 0x12FFFF ∷ P 0x120000 ∷ I 0x120000 ∷ W 0x0001FF 0x12 ∷ W 0x0001FE 0x34 ∷ []) ∷ PC is 0x0001 ∷ PBR is 0x12 ∷ [])
    ∷ row (native8 (PBR is 0x12 ∷ PC is 0xFFFF ∷ [])) (0x62 ∷ 0xFE ∷ 0xFF ∷ [])
    (Asks (O 0x12FFFF ∷ P 0x120000 ∷ P 0x120001 ∷ I 0x120001 ∷ W 0x0001FF 0x00 ∷ W 0x0001FE 0x00 ∷ []) ∷ PC is 0x0002 ∷ PBR is 0x12 ∷ [])
    -- MVN: its last byte, and one that isn't, after which the opcode is held and PC is at it again
    ∷ row (native8 (PBR is 0x12 ∷ PC is 0xFFFE ∷ A is 0x0000 ∷ X is 0x0010 ∷ Y is 0x0020 ∷ [])) (0x54 ∷ 0x02 ∷ 0x01 ∷ 0xAB ∷ [])
    (Asks (O 0x12FFFE ∷ P 0x12FFFF ∷ P 0x120000 ∷ D 0x010010 ∷ W 0x020020 0xAB ∷ I 0x020020 ∷ I 0x020020 ∷ []) ∷ PC is 0x0001 ∷ PBR is 0x12 ∷ DBR is 0x02 ∷ A is 0xFFFF ∷ Held is 0 ∷ [])
    ∷ row (native8 (PBR is 0x12 ∷ PC is 0xFFFF ∷ A is 0x0001 ∷ X is 0x0010 ∷ Y is 0x0020 ∷ [])) (0x54 ∷ 0x02 ∷ 0x01 ∷ 0xAB ∷ [])
    (Asks (O 0x12FFFF ∷ P 0x120000 ∷ P 0x120001 ∷ D 0x010010 ∷ W 0x020020 0xAB ∷ I 0x020020 ∷ I 0x020020 ∷ []) ∷ PC is 0xFFFF ∷ PBR is 0x12 ∷ DBR is 0x02 ∷ A is 0x0000 ∷ Held is 1 ∷ IR is 0x54 ∷ TCU is 0 ∷ [])
    ∷ []

-- S at its edges
unfoldable pub stacks : List Figure
stacks =
    -- in emulation: PHX, PHY, PHB, PHK at 0100 write there; S 01FF
    row (emulation (S is 0x0100 ∷ X is 0x0056 ∷ [])) (0xDA ∷ []) (Asks (O 0x008000 ∷ I 0x008001 ∷ W 0x000100 0x56 ∷ []) ∷ S is 0x01FF ∷ [])
    ∷ row (emulation (S is 0x0100 ∷ Y is 0x0078 ∷ [])) (0x5A ∷ []) (Asks (O 0x008000 ∷ I 0x008001 ∷ W 0x000100 0x78 ∷ []) ∷ S is 0x01FF ∷ [])
    ∷ row (emulation (S is 0x0100 ∷ DBR is 0x9A ∷ [])) (0x8B ∷ []) (Asks (O 0x008000 ∷ I 0x008001 ∷ W 0x000100 0x9A ∷ []) ∷ S is 0x01FF ∷ [])
    ∷ row (emulation (S is 0x0100 ∷ PBR is 0x12 ∷ [])) (0x4B ∷ []) (Asks (O 0x128000 ∷ I 0x128001 ∷ W 0x000100 0x12 ∷ []) ∷ S is 0x01FF ∷ [])
    -- PLX, PLY at 01FF read 0100; S 0100
    ∷ row (emulation (S is 0x01FF ∷ [])) (0xFA ∷ 0x00 ∷ 0x00 ∷ 0x80 ∷ [])
    (Asks (O 0x008000 ∷ I 0x008001 ∷ I 0x008001 ∷ D 0x000100 ∷ []) ∷ S is 0x0100 ∷ X is 0x0080 ∷ n is 1 ∷ z is 0 ∷ [])
    ∷ row (emulation (S is 0x01FF ∷ [])) (0x7A ∷ 0x00 ∷ 0x00 ∷ 0x00 ∷ [])
    (Asks (O 0x008000 ∷ I 0x008001 ∷ I 0x008001 ∷ D 0x000100 ∷ []) ∷ S is 0x0100 ∷ Y is 0x0000 ∷ n is 0 ∷ z is 1 ∷ [])
    -- JSL at 0100 writes 0100, 00FF, 00FE; S 01FD
    ∷ row (emulation (S is 0x0100 ∷ PBR is 0x12 ∷ [])) (0x22 ∷ 0x78 ∷ 0x56 ∷ 0x00 ∷ 0x00 ∷ 0x34 ∷ [])
    (Asks (O 0x128000 ∷ P 0x128001 ∷ P 0x128002 ∷ W 0x000100 0x12 ∷ I 0x000100 ∷ P 0x128003 ∷ W 0x0000FF 0x80 ∷ W 0x0000FE 0x03 ∷ []) ∷ S is 0x01FD ∷ PC is 0x5678 ∷ PBR is 0x34 ∷ [])
    -- PHD at 0101 stays inside
    ∷ row (emulation (S is 0x0101 ∷ DP is 0x1234 ∷ [])) (0x0B ∷ []) (Asks (O 0x008000 ∷ I 0x008001 ∷ W 0x000101 0x12 ∷ W 0x000100 0x34 ∷ []) ∷ S is 0x01FF ∷ [])
    -- PLD at 01FE: reads 01FF, 0200; S 0100
    ∷ row (emulation (S is 0x01FE ∷ [])) (0x2B ∷ 0x00 ∷ 0x00 ∷ 0x34 ∷ 0x12 ∷ [])
    (Asks (O 0x008000 ∷ I 0x008001 ∷ I 0x008001 ∷ D 0x0001FF ∷ D 0x000200 ∷ []) ∷ S is 0x0100 ∷ DP is 0x1234 ∷ n is 0 ∷ z is 0 ∷ [])
    -- TXS and TCS give S a low byte alone, and no flags
    ∷ row (emulation (X is 0x0000 ∷ n is 1 ∷ [])) (0x9A ∷ []) (S is 0x0100 ∷ n is 1 ∷ z is 0 ∷ [])
    ∷ row (emulation (A is 0x1200 ∷ n is 1 ∷ [])) (0x1B ∷ []) (S is 0x0100 ∷ n is 1 ∷ z is 0 ∷ [])
    -- TSX takes that byte, TSC the whole of S
    ∷ row (emulation (S is 0x0180 ∷ [])) (0xBA ∷ []) (X is 0x0080 ∷ n is 1 ∷ [])
    ∷ row (emulation (S is 0x0180 ∷ [])) (0x3B ∷ []) (A is 0x0180 ∷ n is 0 ∷ [])
    -- native, a byte pushed at 0000: S FFFF; at 0100: S 00FF
    ∷ row (native8 (S is 0x0000 ∷ A is 0x1234 ∷ [])) (0x48 ∷ []) (Asks (O 0x008000 ∷ I 0x008001 ∷ W 0x000000 0x34 ∷ []) ∷ S is 0xFFFF ∷ [])
    ∷ row (native8 (S is 0x0100 ∷ A is 0x1234 ∷ [])) (0x48 ∷ []) (Asks (O 0x008000 ∷ I 0x008001 ∷ W 0x000100 0x34 ∷ []) ∷ S is 0x00FF ∷ [])
    ∷ row (native8 (S is 0x0000 ∷ X is 0x0056 ∷ [])) (0xDA ∷ []) (Asks (O 0x008000 ∷ I 0x008001 ∷ W 0x000000 0x56 ∷ []) ∷ S is 0xFFFF ∷ [])
    ∷ row (native8 (S is 0x0100 ∷ X is 0x0056 ∷ [])) (0xDA ∷ []) (Asks (O 0x008000 ∷ I 0x008001 ∷ W 0x000100 0x56 ∷ []) ∷ S is 0x00FF ∷ [])
    ∷ row (native8 (S is 0x0000 ∷ Y is 0x0078 ∷ [])) (0x5A ∷ []) (Asks (O 0x008000 ∷ I 0x008001 ∷ W 0x000000 0x78 ∷ []) ∷ S is 0xFFFF ∷ [])
    ∷ row (native8 (S is 0x0100 ∷ Y is 0x0078 ∷ [])) (0x5A ∷ []) (Asks (O 0x008000 ∷ I 0x008001 ∷ W 0x000100 0x78 ∷ []) ∷ S is 0x00FF ∷ [])
    ∷ row (native8 (S is 0x0000 ∷ c is 1 ∷ [])) (0x08 ∷ []) (Asks (O 0x008000 ∷ I 0x008001 ∷ W 0x000000 0x31 ∷ []) ∷ S is 0xFFFF ∷ [])
    ∷ row (native8 (S is 0x0100 ∷ c is 1 ∷ [])) (0x08 ∷ []) (Asks (O 0x008000 ∷ I 0x008001 ∷ W 0x000100 0x31 ∷ []) ∷ S is 0x00FF ∷ [])
    ∷ row (native8 (S is 0x0000 ∷ DBR is 0x9A ∷ [])) (0x8B ∷ []) (Asks (O 0x008000 ∷ I 0x008001 ∷ W 0x000000 0x9A ∷ []) ∷ S is 0xFFFF ∷ [])
    ∷ row (native8 (S is 0x0100 ∷ DBR is 0x9A ∷ [])) (0x8B ∷ []) (Asks (O 0x008000 ∷ I 0x008001 ∷ W 0x000100 0x9A ∷ []) ∷ S is 0x00FF ∷ [])
    ∷ row (native8 (S is 0x0000 ∷ PBR is 0x12 ∷ [])) (0x4B ∷ []) (Asks (O 0x128000 ∷ I 0x128001 ∷ W 0x000000 0x12 ∷ []) ∷ S is 0xFFFF ∷ [])
    ∷ row (native8 (S is 0x0100 ∷ PBR is 0x12 ∷ [])) (0x4B ∷ []) (Asks (O 0x128000 ∷ I 0x128001 ∷ W 0x000100 0x12 ∷ []) ∷ S is 0x00FF ∷ [])
    -- a word at 0000: 0000 and FFFF, S FFFE; at 0100: 0100 and 00FF, S 00FE; at FFFF: FFFF and FFFE, S FFFD
    ∷ row (native16 (S is 0x0000 ∷ A is 0x1234 ∷ [])) (0x48 ∷ []) (Asks (O 0x008000 ∷ I 0x008001 ∷ W 0x000000 0x12 ∷ W 0x00FFFF 0x34 ∷ []) ∷ S is 0xFFFE ∷ [])
    ∷ row (native16 (S is 0x0100 ∷ A is 0x1234 ∷ [])) (0x48 ∷ []) (Asks (O 0x008000 ∷ I 0x008001 ∷ W 0x000100 0x12 ∷ W 0x0000FF 0x34 ∷ []) ∷ S is 0x00FE ∷ [])
    ∷ row (native16 (S is 0xFFFF ∷ A is 0x1234 ∷ [])) (0x48 ∷ []) (Asks (O 0x008000 ∷ I 0x008001 ∷ W 0x00FFFF 0x12 ∷ W 0x00FFFE 0x34 ∷ []) ∷ S is 0xFFFD ∷ [])
    ∷ row (native16 (S is 0x0000 ∷ X is 0x5678 ∷ [])) (0xDA ∷ []) (Asks (O 0x008000 ∷ I 0x008001 ∷ W 0x000000 0x56 ∷ W 0x00FFFF 0x78 ∷ []) ∷ S is 0xFFFE ∷ [])
    ∷ row (native16 (S is 0x0100 ∷ X is 0x5678 ∷ [])) (0xDA ∷ []) (Asks (O 0x008000 ∷ I 0x008001 ∷ W 0x000100 0x56 ∷ W 0x0000FF 0x78 ∷ []) ∷ S is 0x00FE ∷ [])
    ∷ row (native16 (S is 0x0000 ∷ Y is 0x9ABC ∷ [])) (0x5A ∷ []) (Asks (O 0x008000 ∷ I 0x008001 ∷ W 0x000000 0x9A ∷ W 0x00FFFF 0xBC ∷ []) ∷ S is 0xFFFE ∷ [])
    ∷ row (native16 (S is 0x0100 ∷ Y is 0x9ABC ∷ [])) (0x5A ∷ []) (Asks (O 0x008000 ∷ I 0x008001 ∷ W 0x000100 0x9A ∷ W 0x0000FF 0xBC ∷ []) ∷ S is 0x00FE ∷ [])
    ∷ row (native8 (S is 0x0000 ∷ DP is 0x1234 ∷ [])) (0x0B ∷ []) (Asks (O 0x008000 ∷ I 0x008001 ∷ W 0x000000 0x12 ∷ W 0x00FFFF 0x34 ∷ []) ∷ S is 0xFFFE ∷ [])
    ∷ row (native8 (S is 0x0100 ∷ DP is 0x1234 ∷ [])) (0x0B ∷ []) (Asks (O 0x008000 ∷ I 0x008001 ∷ W 0x000100 0x12 ∷ W 0x0000FF 0x34 ∷ []) ∷ S is 0x00FE ∷ [])
    ∷ row (native8 (S is 0x0000 ∷ [])) (0xF4 ∷ 0x34 ∷ 0x12 ∷ [])
    (Asks (O 0x008000 ∷ P 0x008001 ∷ P 0x008002 ∷ W 0x000000 0x12 ∷ W 0x00FFFF 0x34 ∷ []) ∷ S is 0xFFFE ∷ [])
    ∷ row (native8 (S is 0x0100 ∷ [])) (0xF4 ∷ 0x34 ∷ 0x12 ∷ [])
    (Asks (O 0x008000 ∷ P 0x008001 ∷ P 0x008002 ∷ W 0x000100 0x12 ∷ W 0x0000FF 0x34 ∷ []) ∷ S is 0x00FE ∷ [])
    ∷ row (native8 (S is 0x0000 ∷ [])) (0xD4 ∷ 0x10 ∷ 0x34 ∷ 0x12 ∷ [])
    (Asks (O 0x008000 ∷ P 0x008001 ∷ D 0x000010 ∷ D 0x000011 ∷ W 0x000000 0x12 ∷ W 0x00FFFF 0x34 ∷ []) ∷ S is 0xFFFE ∷ [])
    ∷ row (native8 (S is 0x0100 ∷ [])) (0xD4 ∷ 0x10 ∷ 0x34 ∷ 0x12 ∷ [])
    (Asks (O 0x008000 ∷ P 0x008001 ∷ D 0x000010 ∷ D 0x000011 ∷ W 0x000100 0x12 ∷ W 0x0000FF 0x34 ∷ []) ∷ S is 0x00FE ∷ [])
    ∷ row (native8 (S is 0x0000 ∷ [])) (0x62 ∷ 0x31 ∷ 0x92 ∷ [])
    (Asks (O 0x008000 ∷ P 0x008001 ∷ P 0x008002 ∷ I 0x008002 ∷ W 0x000000 0x12 ∷ W 0x00FFFF 0x34 ∷ []) ∷ S is 0xFFFE ∷ [])
    ∷ row (native8 (S is 0x0100 ∷ [])) (0x62 ∷ 0x31 ∷ 0x92 ∷ [])
    (Asks (O 0x008000 ∷ P 0x008001 ∷ P 0x008002 ∷ I 0x008002 ∷ W 0x000100 0x12 ∷ W 0x0000FF 0x34 ∷ []) ∷ S is 0x00FE ∷ [])
    -- JSR and JSR (a,x) push as other words are
    ∷ row (native8 (S is 0x0000 ∷ [])) (0x20 ∷ 0x34 ∷ 0x12 ∷ [])
    (Asks (O 0x008000 ∷ P 0x008001 ∷ P 0x008002 ∷ I 0x008002 ∷ W 0x000000 0x80 ∷ W 0x00FFFF 0x02 ∷ []) ∷ S is 0xFFFE ∷ PC is 0x1234 ∷ [])
    ∷ row (native8 (S is 0x0100 ∷ [])) (0x20 ∷ 0x34 ∷ 0x12 ∷ [])
    (Asks (O 0x008000 ∷ P 0x008001 ∷ P 0x008002 ∷ I 0x008002 ∷ W 0x000100 0x80 ∷ W 0x0000FF 0x02 ∷ []) ∷ S is 0x00FE ∷ PC is 0x1234 ∷ [])
    ∷ row (native8 (S is 0x0000 ∷ X is 0x0004 ∷ [])) (0xFC ∷ 0x00 ∷ 0x00 ∷ 0x00 ∷ 0x20 ∷ 0x00 ∷ 0x34 ∷ 0x12 ∷ [])
    (Asks (O 0x008000 ∷ P 0x008001 ∷ W 0x000000 0x80 ∷ W 0x00FFFF 0x02 ∷ P 0x008002 ∷ I 0x008002 ∷ P 0x002004 ∷ P 0x002005 ∷ []) ∷ S is 0xFFFE ∷ PC is 0x1234 ∷ [])
    ∷ row (native8 (S is 0x0100 ∷ X is 0x0004 ∷ [])) (0xFC ∷ 0x00 ∷ 0x00 ∷ 0x00 ∷ 0x20 ∷ 0x00 ∷ 0x34 ∷ 0x12 ∷ [])
    (Asks (O 0x008000 ∷ P 0x008001 ∷ W 0x000100 0x80 ∷ W 0x0000FF 0x02 ∷ P 0x008002 ∷ I 0x008002 ∷ P 0x002004 ∷ P 0x002005 ∷ []) ∷ S is 0x00FE ∷ PC is 0x1234 ∷ [])
    -- JSL: three bytes, and the idle cycle where the first was written
    ∷ row (native8 (S is 0x0000 ∷ PBR is 0x12 ∷ [])) (0x22 ∷ 0x78 ∷ 0x56 ∷ 0x00 ∷ 0x00 ∷ 0x34 ∷ [])
    (Asks (O 0x128000 ∷ P 0x128001 ∷ P 0x128002 ∷ W 0x000000 0x12 ∷ I 0x000000 ∷ P 0x128003 ∷ W 0x00FFFF 0x80 ∷ W 0x00FFFE 0x03 ∷ []) ∷ S is 0xFFFD ∷ PC is 0x5678 ∷ PBR is 0x34 ∷ [])
    ∷ row (native8 (S is 0x0001 ∷ PBR is 0x12 ∷ [])) (0x22 ∷ 0x78 ∷ 0x56 ∷ 0x00 ∷ 0x00 ∷ 0x34 ∷ [])
    (Asks (O 0x128000 ∷ P 0x128001 ∷ P 0x128002 ∷ W 0x000001 0x12 ∷ I 0x000001 ∷ P 0x128003 ∷ W 0x000000 0x80 ∷ W 0x00FFFF 0x03 ∷ []) ∷ S is 0xFFFE ∷ PC is 0x5678 ∷ PBR is 0x34 ∷ [])
    ∷ row (native8 (S is 0x0100 ∷ PBR is 0x12 ∷ [])) (0x22 ∷ 0x78 ∷ 0x56 ∷ 0x00 ∷ 0x00 ∷ 0x34 ∷ [])
    (Asks (O 0x128000 ∷ P 0x128001 ∷ P 0x128002 ∷ W 0x000100 0x12 ∷ I 0x000100 ∷ P 0x128003 ∷ W 0x0000FF 0x80 ∷ W 0x0000FE 0x03 ∷ []) ∷ S is 0x00FD ∷ PC is 0x5678 ∷ PBR is 0x34 ∷ [])
    -- a byte pulled at FFFF: 0000, S 0000; at 00FF: 0100; at 01FF: 0200
    ∷ row (native8 (S is 0xFFFF ∷ A is 0x1234 ∷ [])) (0x68 ∷ 0x00 ∷ 0x00 ∷ 0x80 ∷ [])
    (Asks (O 0x008000 ∷ I 0x008001 ∷ I 0x008001 ∷ D 0x000000 ∷ []) ∷ S is 0x0000 ∷ A is 0x1280 ∷ n is 1 ∷ z is 0 ∷ [])
    ∷ row (native8 (S is 0x00FF ∷ A is 0x1234 ∷ [])) (0x68 ∷ 0x00 ∷ 0x00 ∷ 0x80 ∷ [])
    (Asks (O 0x008000 ∷ I 0x008001 ∷ I 0x008001 ∷ D 0x000100 ∷ []) ∷ S is 0x0100 ∷ A is 0x1280 ∷ n is 1 ∷ z is 0 ∷ [])
    ∷ row (native8 (S is 0x01FF ∷ A is 0x1234 ∷ [])) (0x68 ∷ 0x00 ∷ 0x00 ∷ 0x00 ∷ [])
    (Asks (O 0x008000 ∷ I 0x008001 ∷ I 0x008001 ∷ D 0x000200 ∷ []) ∷ S is 0x0200 ∷ A is 0x1200 ∷ n is 0 ∷ z is 1 ∷ [])
    ∷ row (native8 (S is 0xFFFF ∷ [])) (0xFA ∷ 0x00 ∷ 0x00 ∷ 0x80 ∷ [])
    (Asks (O 0x008000 ∷ I 0x008001 ∷ I 0x008001 ∷ D 0x000000 ∷ []) ∷ S is 0x0000 ∷ X is 0x0080 ∷ n is 1 ∷ z is 0 ∷ [])
    ∷ row (native8 (S is 0x01FF ∷ [])) (0xFA ∷ 0x00 ∷ 0x00 ∷ 0x80 ∷ [])
    (Asks (O 0x008000 ∷ I 0x008001 ∷ I 0x008001 ∷ D 0x000200 ∷ []) ∷ S is 0x0200 ∷ X is 0x0080 ∷ n is 1 ∷ z is 0 ∷ [])
    ∷ row (native8 (S is 0xFFFF ∷ [])) (0x7A ∷ 0x00 ∷ 0x00 ∷ 0x80 ∷ [])
    (Asks (O 0x008000 ∷ I 0x008001 ∷ I 0x008001 ∷ D 0x000000 ∷ []) ∷ S is 0x0000 ∷ Y is 0x0080 ∷ n is 1 ∷ z is 0 ∷ [])
    ∷ row (native8 (S is 0x01FF ∷ [])) (0x7A ∷ 0x00 ∷ 0x00 ∷ 0x80 ∷ [])
    (Asks (O 0x008000 ∷ I 0x008001 ∷ I 0x008001 ∷ D 0x000200 ∷ []) ∷ S is 0x0200 ∷ Y is 0x0080 ∷ n is 1 ∷ z is 0 ∷ [])
    ∷ row (native8 (S is 0xFFFF ∷ [])) (0x28 ∷ 0x00 ∷ 0x00 ∷ 0x01 ∷ [])
    (Asks (O 0x008000 ∷ I 0x008001 ∷ I 0x008001 ∷ D 0x000000 ∷ []) ∷ S is 0x0000 ∷ c is 1 ∷ [])
    ∷ row (native8 (S is 0x01FF ∷ [])) (0x28 ∷ 0x00 ∷ 0x00 ∷ 0x01 ∷ [])
    (Asks (O 0x008000 ∷ I 0x008001 ∷ I 0x008001 ∷ D 0x000200 ∷ []) ∷ S is 0x0200 ∷ c is 1 ∷ [])
    ∷ row (native8 (S is 0xFFFF ∷ [])) (0xAB ∷ 0x00 ∷ 0x00 ∷ 0x9A ∷ [])
    (Asks (O 0x008000 ∷ I 0x008001 ∷ I 0x008001 ∷ D 0x000000 ∷ []) ∷ S is 0x0000 ∷ DBR is 0x9A ∷ n is 1 ∷ z is 0 ∷ [])
    ∷ row (native8 (S is 0x01FF ∷ [])) (0xAB ∷ 0x00 ∷ 0x00 ∷ 0x00 ∷ [])
    (Asks (O 0x008000 ∷ I 0x008001 ∷ I 0x008001 ∷ D 0x000200 ∷ []) ∷ S is 0x0200 ∷ DBR is 0x00 ∷ n is 0 ∷ z is 1 ∷ [])
    -- a word at FFFF: 0000 and 0001, S 0001; at FFFE: FFFF and 0000, S 0000; at 01FE: 01FF and 0200, S 0200; N and Z are the word's
    ∷ row (native16 (S is 0xFFFF ∷ [])) (0x68 ∷ 0x00 ∷ 0x00 ∷ 0x34 ∷ 0x92 ∷ [])
    (Asks (O 0x008000 ∷ I 0x008001 ∷ I 0x008001 ∷ D 0x000000 ∷ D 0x000001 ∷ []) ∷ S is 0x0001 ∷ A is 0x9234 ∷ n is 1 ∷ z is 0 ∷ [])
    ∷ row (native16 (S is 0xFFFE ∷ [])) (0x68 ∷ 0x00 ∷ 0x00 ∷ 0x00 ∷ 0x00 ∷ [])
    (Asks (O 0x008000 ∷ I 0x008001 ∷ I 0x008001 ∷ D 0x00FFFF ∷ D 0x000000 ∷ []) ∷ S is 0x0000 ∷ A is 0x0000 ∷ n is 0 ∷ z is 1 ∷ [])
    ∷ row (native16 (S is 0x01FE ∷ [])) (0x68 ∷ 0x00 ∷ 0x00 ∷ 0x80 ∷ 0x12 ∷ [])
    (Asks (O 0x008000 ∷ I 0x008001 ∷ I 0x008001 ∷ D 0x0001FF ∷ D 0x000200 ∷ []) ∷ S is 0x0200 ∷ A is 0x1280 ∷ n is 0 ∷ z is 0 ∷ [])
    ∷ row (native16 (S is 0xFFFF ∷ [])) (0xFA ∷ 0x00 ∷ 0x00 ∷ 0x34 ∷ 0x92 ∷ [])
    (Asks (O 0x008000 ∷ I 0x008001 ∷ I 0x008001 ∷ D 0x000000 ∷ D 0x000001 ∷ []) ∷ S is 0x0001 ∷ X is 0x9234 ∷ n is 1 ∷ z is 0 ∷ [])
    ∷ row (native16 (S is 0x01FE ∷ [])) (0xFA ∷ 0x00 ∷ 0x00 ∷ 0x80 ∷ 0x12 ∷ [])
    (Asks (O 0x008000 ∷ I 0x008001 ∷ I 0x008001 ∷ D 0x0001FF ∷ D 0x000200 ∷ []) ∷ S is 0x0200 ∷ X is 0x1280 ∷ n is 0 ∷ z is 0 ∷ [])
    ∷ row (native16 (S is 0xFFFF ∷ [])) (0x7A ∷ 0x00 ∷ 0x00 ∷ 0x34 ∷ 0x92 ∷ [])
    (Asks (O 0x008000 ∷ I 0x008001 ∷ I 0x008001 ∷ D 0x000000 ∷ D 0x000001 ∷ []) ∷ S is 0x0001 ∷ Y is 0x9234 ∷ n is 1 ∷ z is 0 ∷ [])
    ∷ row (native16 (S is 0x01FE ∷ [])) (0x7A ∷ 0x00 ∷ 0x00 ∷ 0x80 ∷ 0x12 ∷ [])
    (Asks (O 0x008000 ∷ I 0x008001 ∷ I 0x008001 ∷ D 0x0001FF ∷ D 0x000200 ∷ []) ∷ S is 0x0200 ∷ Y is 0x1280 ∷ n is 0 ∷ z is 0 ∷ [])
    ∷ row (native8 (S is 0xFFFF ∷ [])) (0x2B ∷ 0x00 ∷ 0x00 ∷ 0x34 ∷ 0x92 ∷ [])
    (Asks (O 0x008000 ∷ I 0x008001 ∷ I 0x008001 ∷ D 0x000000 ∷ D 0x000001 ∷ []) ∷ S is 0x0001 ∷ DP is 0x9234 ∷ n is 1 ∷ z is 0 ∷ [])
    ∷ row (native8 (S is 0xFFFE ∷ [])) (0x2B ∷ 0x00 ∷ 0x00 ∷ 0x00 ∷ 0x00 ∷ [])
    (Asks (O 0x008000 ∷ I 0x008001 ∷ I 0x008001 ∷ D 0x00FFFF ∷ D 0x000000 ∷ []) ∷ S is 0x0000 ∷ DP is 0x0000 ∷ n is 0 ∷ z is 1 ∷ [])
    ∷ row (native8 (S is 0x01FE ∷ [])) (0x2B ∷ 0x00 ∷ 0x00 ∷ 0x80 ∷ 0x12 ∷ [])
    (Asks (O 0x008000 ∷ I 0x008001 ∷ I 0x008001 ∷ D 0x0001FF ∷ D 0x000200 ∷ []) ∷ S is 0x0200 ∷ DP is 0x1280 ∷ n is 0 ∷ z is 0 ∷ [])
    -- RTS, with its idle cycle at S, and RTL
    ∷ row (native8 (S is 0xFFFF ∷ [])) (0x60 ∷ 0x00 ∷ 0x00 ∷ 0x34 ∷ 0x12 ∷ [])
    (Asks (O 0x008000 ∷ I 0x008001 ∷ I 0x008001 ∷ D 0x000000 ∷ D 0x000001 ∷ I 0x000001 ∷ []) ∷ S is 0x0001 ∷ PC is 0x1235 ∷ [])
    ∷ row (native8 (S is 0xFFFE ∷ [])) (0x60 ∷ 0x00 ∷ 0x00 ∷ 0x34 ∷ 0x12 ∷ [])
    (Asks (O 0x008000 ∷ I 0x008001 ∷ I 0x008001 ∷ D 0x00FFFF ∷ D 0x000000 ∷ I 0x000000 ∷ []) ∷ S is 0x0000 ∷ PC is 0x1235 ∷ [])
    ∷ row (native8 (S is 0x01FF ∷ [])) (0x60 ∷ 0x00 ∷ 0x00 ∷ 0x34 ∷ 0x12 ∷ [])
    (Asks (O 0x008000 ∷ I 0x008001 ∷ I 0x008001 ∷ D 0x000200 ∷ D 0x000201 ∷ I 0x000201 ∷ []) ∷ S is 0x0201 ∷ PC is 0x1235 ∷ [])
    ∷ row (native8 (S is 0xFFFF ∷ [])) (0x6B ∷ 0x00 ∷ 0x00 ∷ 0x34 ∷ 0x12 ∷ 0x56 ∷ [])
    (Asks (O 0x008000 ∷ I 0x008001 ∷ I 0x008001 ∷ D 0x000000 ∷ D 0x000001 ∷ D 0x000002 ∷ []) ∷ S is 0x0002 ∷ PC is 0x1235 ∷ PBR is 0x56 ∷ [])
    ∷ row (native8 (S is 0xFFFD ∷ [])) (0x6B ∷ 0x00 ∷ 0x00 ∷ 0x34 ∷ 0x12 ∷ 0x56 ∷ [])
    (Asks (O 0x008000 ∷ I 0x008001 ∷ I 0x008001 ∷ D 0x00FFFE ∷ D 0x00FFFF ∷ D 0x000000 ∷ []) ∷ S is 0x0000 ∷ PC is 0x1235 ∷ PBR is 0x56 ∷ [])
    ∷ row (native8 (S is 0x01FF ∷ [])) (0x6B ∷ 0x00 ∷ 0x00 ∷ 0x34 ∷ 0x12 ∷ 0x56 ∷ [])
    (Asks (O 0x008000 ∷ I 0x008001 ∷ I 0x008001 ∷ D 0x000200 ∷ D 0x000201 ∷ D 0x000202 ∷ []) ∷ S is 0x0202 ∷ PC is 0x1235 ∷ PBR is 0x56 ∷ [])
    -- TXS and TCS give S all they have; TSX takes what its width holds, TSC the whole
    ∷ row (native8 (X is 0x0034 ∷ S is 0x5678 ∷ n is 1 ∷ [])) (0x9A ∷ []) (S is 0x0034 ∷ n is 1 ∷ [])
    ∷ row (native16 (X is 0x0000 ∷ S is 0x5678 ∷ n is 1 ∷ [])) (0x9A ∷ []) (S is 0x0000 ∷ n is 1 ∷ z is 0 ∷ [])
    ∷ row (native8 (A is 0x0134 ∷ S is 0x5678 ∷ n is 1 ∷ [])) (0x1B ∷ []) (S is 0x0134 ∷ n is 1 ∷ [])
    ∷ row (native8 (S is 0x1280 ∷ [])) (0xBA ∷ []) (X is 0x0080 ∷ n is 1 ∷ [])
    ∷ row (native16 (S is 0x8034 ∷ [])) (0xBA ∷ []) (X is 0x8034 ∷ n is 1 ∷ [])
    ∷ row (native8 (S is 0x0080 ∷ A is 0x5678 ∷ [])) (0x3B ∷ []) (A is 0x0080 ∷ n is 0 ∷ [])
    ∷ []

-- M is the accumulator's width and X the index registers': one wide, the other not
unfoldable pub widths : List Figure
widths =
    -- loads
    row (wide_a (Y is 0x0056 ∷ [])) (0xA0 ∷ 0x34 ∷ 0x12 ∷ []) (Y is 0x0034 ∷ Cycles is 2 ∷ PC is 0x8002 ∷ [])
    ∷ row (wide_index (Y is 0x5678 ∷ [])) (0xA0 ∷ 0x34 ∷ 0x12 ∷ []) (Y is 0x1234 ∷ Cycles is 3 ∷ PC is 0x8003 ∷ [])
    ∷ row (wide_a (DBR is 0x7E ∷ [])) (0xAD ∷ 0x34 ∷ 0x12 ∷ 0x78 ∷ 0x56 ∷ [])
    (Asks (O 0x008000 ∷ P 0x008001 ∷ P 0x008002 ∷ D 0x7E1234 ∷ D 0x7E1235 ∷ []) ∷ A is 0x5678 ∷ [])
    ∷ row (wide_index (DBR is 0x7E ∷ A is 0x1234 ∷ [])) (0xAD ∷ 0x34 ∷ 0x12 ∷ 0x78 ∷ 0x56 ∷ [])
    (Asks (O 0x008000 ∷ P 0x008001 ∷ P 0x008002 ∷ D 0x7E1234 ∷ []) ∷ A is 0x1278 ∷ [])
    ∷ row (wide_a (DBR is 0x7E ∷ [])) (0xAE ∷ 0x34 ∷ 0x12 ∷ 0x78 ∷ 0x56 ∷ []) (Asks (O 0x008000 ∷ P 0x008001 ∷ P 0x008002 ∷ D 0x7E1234 ∷ []) ∷ X is 0x0078 ∷ [])
    ∷ row (wide_index (DBR is 0x7E ∷ [])) (0xAE ∷ 0x34 ∷ 0x12 ∷ 0x78 ∷ 0x56 ∷ [])
    (Asks (O 0x008000 ∷ P 0x008001 ∷ P 0x008002 ∷ D 0x7E1234 ∷ D 0x7E1235 ∷ []) ∷ X is 0x5678 ∷ [])
    ∷ row (wide_a []) (0xA4 ∷ 0x10 ∷ 0x78 ∷ 0x56 ∷ []) (Asks (O 0x008000 ∷ P 0x008001 ∷ D 0x000010 ∷ []) ∷ Y is 0x0078 ∷ [])
    ∷ row (wide_index []) (0xA4 ∷ 0x10 ∷ 0x78 ∷ 0x56 ∷ []) (Asks (O 0x008000 ∷ P 0x008001 ∷ D 0x000010 ∷ D 0x000011 ∷ []) ∷ Y is 0x5678 ∷ [])
    -- stores: STA, STX, STY; STZ is as wide as the accumulator
    ∷ row (wide_a (DBR is 0x7E ∷ A is 0x1234 ∷ [])) (0x8D ∷ 0x78 ∷ 0x56 ∷ [])
    (Asks (O 0x008000 ∷ P 0x008001 ∷ P 0x008002 ∷ W 0x7E5678 0x34 ∷ W 0x7E5679 0x12 ∷ []) ∷ Cycles is 5 ∷ [])
    ∷ row (wide_index (DBR is 0x7E ∷ A is 0x1234 ∷ [])) (0x8D ∷ 0x78 ∷ 0x56 ∷ [])
    (Asks (O 0x008000 ∷ P 0x008001 ∷ P 0x008002 ∷ W 0x7E5678 0x34 ∷ []) ∷ Cycles is 4 ∷ [])
    ∷ row (wide_a (DBR is 0x7E ∷ X is 0x0034 ∷ [])) (0x8E ∷ 0x78 ∷ 0x56 ∷ [])
    (Asks (O 0x008000 ∷ P 0x008001 ∷ P 0x008002 ∷ W 0x7E5678 0x34 ∷ []) ∷ Cycles is 4 ∷ [])
    ∷ row (wide_index (DBR is 0x7E ∷ X is 0x1234 ∷ [])) (0x8E ∷ 0x78 ∷ 0x56 ∷ [])
    (Asks (O 0x008000 ∷ P 0x008001 ∷ P 0x008002 ∷ W 0x7E5678 0x34 ∷ W 0x7E5679 0x12 ∷ []) ∷ Cycles is 5 ∷ [])
    ∷ row (wide_a (Y is 0x0034 ∷ [])) (0x84 ∷ 0x10 ∷ []) (Asks (O 0x008000 ∷ P 0x008001 ∷ W 0x000010 0x34 ∷ []) ∷ Cycles is 3 ∷ [])
    ∷ row (wide_index (Y is 0x1234 ∷ [])) (0x84 ∷ 0x10 ∷ []) (Asks (O 0x008000 ∷ P 0x008001 ∷ W 0x000010 0x34 ∷ W 0x000011 0x12 ∷ []) ∷ Cycles is 4 ∷ [])
    ∷ row (wide_a []) (0x64 ∷ 0x10 ∷ []) (Asks (O 0x008000 ∷ P 0x008001 ∷ W 0x000010 0x00 ∷ W 0x000011 0x00 ∷ []) ∷ Cycles is 4 ∷ [])
    ∷ row (wide_index []) (0x64 ∷ 0x10 ∷ []) (Asks (O 0x008000 ∷ P 0x008001 ∷ W 0x000010 0x00 ∷ []) ∷ Cycles is 3 ∷ [])
    -- compares: 1234 with 0034 or 1234, by the width
    ∷ row (wide_a (A is 0x1234 ∷ [])) (0xC9 ∷ 0x34 ∷ 0x12 ∷ []) (z is 1 ∷ c is 1 ∷ n is 0 ∷ Cycles is 3 ∷ [])
    ∷ row (wide_index (A is 0x1234 ∷ [])) (0xC9 ∷ 0x34 ∷ 0x12 ∷ []) (z is 1 ∷ c is 1 ∷ n is 0 ∷ Cycles is 2 ∷ [])
    ∷ row (wide_a (X is 0x0034 ∷ [])) (0xE0 ∷ 0x34 ∷ 0x12 ∷ []) (z is 1 ∷ c is 1 ∷ n is 0 ∷ Cycles is 2 ∷ [])
    ∷ row (wide_index (X is 0x1234 ∷ [])) (0xE0 ∷ 0x34 ∷ 0x12 ∷ []) (z is 1 ∷ c is 1 ∷ n is 0 ∷ Cycles is 3 ∷ [])
    ∷ row (wide_a (Y is 0x0033 ∷ [])) (0xC0 ∷ 0x34 ∷ 0x12 ∷ []) (z is 0 ∷ c is 0 ∷ n is 1 ∷ Cycles is 2 ∷ [])
    ∷ row (wide_index (Y is 0x1235 ∷ [])) (0xC0 ∷ 0x34 ∷ 0x12 ∷ []) (z is 0 ∷ c is 1 ∷ n is 0 ∷ Cycles is 3 ∷ [])
    -- ADC: 00FF + 0001, C 0
    ∷ row (wide_a (A is 0x00FF ∷ [])) (0x69 ∷ 0x01 ∷ 0x00 ∷ []) (A is 0x0100 ∷ z is 0 ∷ c is 0 ∷ Cycles is 3 ∷ [])
    ∷ row (wide_index (A is 0x12FF ∷ [])) (0x69 ∷ 0x01 ∷ 0x00 ∷ []) (A is 0x1200 ∷ z is 1 ∷ c is 1 ∷ Cycles is 2 ∷ [])
    -- pushes and pulls
    ∷ row (wide_a (A is 0x1234 ∷ [])) (0x48 ∷ []) (Asks (O 0x008000 ∷ I 0x008001 ∷ W 0x0001FF 0x12 ∷ W 0x0001FE 0x34 ∷ []) ∷ S is 0x01FD ∷ [])
    ∷ row (wide_index (A is 0x1234 ∷ [])) (0x48 ∷ []) (Asks (O 0x008000 ∷ I 0x008001 ∷ W 0x0001FF 0x34 ∷ []) ∷ S is 0x01FE ∷ [])
    ∷ row (wide_a (Y is 0x0034 ∷ [])) (0x5A ∷ []) (Asks (O 0x008000 ∷ I 0x008001 ∷ W 0x0001FF 0x34 ∷ []) ∷ S is 0x01FE ∷ [])
    ∷ row (wide_index (Y is 0x1234 ∷ [])) (0x5A ∷ []) (Asks (O 0x008000 ∷ I 0x008001 ∷ W 0x0001FF 0x12 ∷ W 0x0001FE 0x34 ∷ []) ∷ S is 0x01FD ∷ [])
    ∷ row (wide_a (S is 0x0100 ∷ [])) (0x68 ∷ 0x00 ∷ 0x00 ∷ 0x34 ∷ 0x12 ∷ []) (A is 0x1234 ∷ S is 0x0102 ∷ Cycles is 5 ∷ [])
    ∷ row (wide_index (S is 0x0100 ∷ A is 0x5678 ∷ [])) (0x68 ∷ 0x00 ∷ 0x00 ∷ 0x34 ∷ 0x12 ∷ []) (A is 0x5634 ∷ S is 0x0101 ∷ Cycles is 4 ∷ [])
    ∷ row (wide_a (S is 0x0100 ∷ [])) (0xFA ∷ 0x00 ∷ 0x00 ∷ 0x34 ∷ 0x12 ∷ []) (X is 0x0034 ∷ S is 0x0101 ∷ Cycles is 4 ∷ [])
    ∷ row (wide_index (S is 0x0100 ∷ [])) (0xFA ∷ 0x00 ∷ 0x00 ∷ 0x34 ∷ 0x12 ∷ []) (X is 0x1234 ∷ S is 0x0102 ∷ Cycles is 5 ∷ [])
    ∷ row (wide_a (S is 0x0100 ∷ [])) (0x7A ∷ 0x00 ∷ 0x00 ∷ 0x34 ∷ 0x12 ∷ []) (Y is 0x0034 ∷ S is 0x0101 ∷ Cycles is 4 ∷ [])
    ∷ row (wide_index (S is 0x0100 ∷ [])) (0x7A ∷ 0x00 ∷ 0x00 ∷ 0x34 ∷ 0x12 ∷ []) (Y is 0x1234 ∷ S is 0x0102 ∷ Cycles is 5 ∷ [])
    -- transfers are as wide as what they go into: TAX, TAY, TYA, TXY, TYX, TSX
    ∷ row (wide_a (A is 0x1280 ∷ [])) (0xAA ∷ []) (X is 0x0080 ∷ n is 1 ∷ z is 0 ∷ [])
    ∷ row (wide_index (A is 0x1280 ∷ [])) (0xAA ∷ []) (X is 0x1280 ∷ n is 0 ∷ z is 0 ∷ [])
    ∷ row (wide_a (A is 0x1200 ∷ [])) (0xA8 ∷ []) (Y is 0x0000 ∷ n is 0 ∷ z is 1 ∷ [])
    ∷ row (wide_index (A is 0x8000 ∷ [])) (0xA8 ∷ []) (Y is 0x8000 ∷ n is 1 ∷ z is 0 ∷ [])
    ∷ row (wide_a (Y is 0x0080 ∷ A is 0x5678 ∷ [])) (0x98 ∷ []) (A is 0x0080 ∷ n is 0 ∷ z is 0 ∷ [])
    ∷ row (wide_index (Y is 0x1280 ∷ A is 0x5678 ∷ [])) (0x98 ∷ []) (A is 0x5680 ∷ n is 1 ∷ z is 0 ∷ [])
    ∷ row (wide_a (X is 0x0080 ∷ [])) (0x9B ∷ []) (Y is 0x0080 ∷ n is 1 ∷ [])
    ∷ row (wide_index (X is 0x0080 ∷ Y is 0x1234 ∷ [])) (0x9B ∷ []) (Y is 0x0080 ∷ n is 0 ∷ [])
    ∷ row (wide_a (Y is 0x0080 ∷ [])) (0xBB ∷ []) (X is 0x0080 ∷ n is 1 ∷ [])
    ∷ row (wide_index (Y is 0x8000 ∷ [])) (0xBB ∷ []) (X is 0x8000 ∷ n is 1 ∷ [])
    ∷ row (wide_a (S is 0x1280 ∷ [])) (0xBA ∷ []) (X is 0x0080 ∷ n is 1 ∷ [])
    ∷ row (wide_index (S is 0x1280 ∷ [])) (0xBA ∷ []) (X is 0x1280 ∷ n is 0 ∷ [])
    -- TCD, TDC, TSC: 16 bits at either width
    ∷ row (wide_a (DP is 0x8000 ∷ A is 0x1234 ∷ [])) (0x7B ∷ []) (A is 0x8000 ∷ n is 1 ∷ z is 0 ∷ [])
    ∷ row (wide_index (DP is 0x8000 ∷ A is 0x1234 ∷ [])) (0x7B ∷ []) (A is 0x8000 ∷ n is 1 ∷ z is 0 ∷ [])
    ∷ row (wide_index (A is 0x8000 ∷ [])) (0x5B ∷ []) (DP is 0x8000 ∷ n is 1 ∷ z is 0 ∷ [])
    ∷ row (native8 (A is 0x0080 ∷ DP is 0x1234 ∷ [])) (0x5B ∷ []) (DP is 0x0080 ∷ n is 0 ∷ z is 0 ∷ [])
    ∷ row (native8 (DP is 0x0100 ∷ A is 0x1234 ∷ [])) (0x7B ∷ []) (A is 0x0100 ∷ n is 0 ∷ z is 0 ∷ [])
    ∷ row (native8 (S is 0x0100 ∷ A is 0x1234 ∷ [])) (0x3B ∷ []) (A is 0x0100 ∷ n is 0 ∷ z is 0 ∷ [])
    -- steps: INX, DEY, INC A, DEC A
    ∷ row (wide_a (X is 0x00FF ∷ [])) (0xE8 ∷ []) (X is 0x0000 ∷ n is 0 ∷ z is 1 ∷ [])
    ∷ row (wide_index (X is 0x00FF ∷ [])) (0xE8 ∷ []) (X is 0x0100 ∷ n is 0 ∷ z is 0 ∷ [])
    ∷ row (wide_a (Y is 0x0000 ∷ [])) (0x88 ∷ []) (Y is 0x00FF ∷ n is 1 ∷ z is 0 ∷ [])
    ∷ row (wide_index (Y is 0x0000 ∷ [])) (0x88 ∷ []) (Y is 0xFFFF ∷ n is 1 ∷ z is 0 ∷ [])
    ∷ row (wide_a (A is 0x00FF ∷ [])) (0x1A ∷ []) (A is 0x0100 ∷ n is 0 ∷ z is 0 ∷ [])
    ∷ row (wide_index (A is 0x12FF ∷ [])) (0x1A ∷ []) (A is 0x1200 ∷ n is 0 ∷ z is 1 ∷ [])
    ∷ row (wide_a (A is 0x1200 ∷ [])) (0x3A ∷ []) (A is 0x11FF ∷ n is 0 ∷ z is 0 ∷ [])
    ∷ row (wide_index (A is 0x1200 ∷ [])) (0x3A ∷ []) (A is 0x12FF ∷ n is 1 ∷ z is 0 ∷ [])
    -- ASL, ROL, LSR, ROR
    ∷ row (wide_a (A is 0x8080 ∷ [])) (0x0A ∷ []) (A is 0x0100 ∷ c is 1 ∷ n is 0 ∷ z is 0 ∷ [])
    ∷ row (wide_index (A is 0x8080 ∷ [])) (0x0A ∷ []) (A is 0x8000 ∷ c is 1 ∷ n is 0 ∷ z is 1 ∷ [])
    ∷ row (wide_a (A is 0x4080 ∷ c is 1 ∷ [])) (0x2A ∷ []) (A is 0x8101 ∷ c is 0 ∷ n is 1 ∷ z is 0 ∷ [])
    ∷ row (wide_index (A is 0x4080 ∷ c is 1 ∷ [])) (0x2A ∷ []) (A is 0x4001 ∷ c is 1 ∷ n is 0 ∷ z is 0 ∷ [])
    ∷ row (wide_a (A is 0x0100 ∷ [])) (0x4A ∷ []) (A is 0x0080 ∷ c is 0 ∷ n is 0 ∷ z is 0 ∷ [])
    ∷ row (wide_index (A is 0x0101 ∷ [])) (0x4A ∷ []) (A is 0x0100 ∷ c is 1 ∷ n is 0 ∷ z is 1 ∷ [])
    ∷ row (wide_a (A is 0x0100 ∷ c is 1 ∷ [])) (0x6A ∷ []) (A is 0x8080 ∷ c is 0 ∷ n is 1 ∷ z is 0 ∷ [])
    ∷ row (wide_index (A is 0x0101 ∷ c is 1 ∷ [])) (0x6A ∷ []) (A is 0x0180 ∷ c is 1 ∷ n is 1 ∷ z is 0 ∷ [])
    -- XBA: N and Z of the new low byte at either width
    ∷ row (wide_a (A is 0x8012 ∷ [])) (0xEB ∷ []) (A is 0x1280 ∷ n is 1 ∷ z is 0 ∷ [])
    ∷ row (wide_index (A is 0x0080 ∷ [])) (0xEB ∷ []) (A is 0x8000 ∷ n is 0 ∷ z is 1 ∷ [])
    ∷ []

-- bytes that aren't listed are refused at the fetch, which has asked: BRK, WAI, STP, RTI
unfoldable pub unlisted : List Figure
unlisted =
    row (native8 []) (0x00 ∷ []) (Asks (O 0x008000 ∷ []) ∷ Refusal is 5 ∷ [])
    ∷ row (wide_a []) (0xCB ∷ []) (Asks (O 0x008000 ∷ []) ∷ Refusal is 5 ∷ [])
    ∷ row (emulation []) (0xDB ∷ []) (Asks (O 0x008000 ∷ []) ∷ Refusal is 5 ∷ [])
    ∷ row (native16 (PBR is 0x12 ∷ PC is 0xFFFF ∷ [])) (0x40 ∷ []) (Asks (O 0x12FFFF ∷ []) ∷ Refusal is 5 ∷ [])
    ∷ []

-- refusals of a record as it stands, by cycle after cycle alone: the sheet's rows are for well-formed records at an instruction's start
unfoldable pub refusals : List Figure
refusals =
    -- 4: in emulation a width flag is clear
    row (start (e is 1 ∷ x is 1 ∷ [])) (0xEA ∷ []) (Asks [] ∷ Refusal is 4 ∷ [])
    ∷ row (start (e is 1 ∷ m is 1 ∷ [])) (0xEA ∷ []) (Asks [] ∷ Refusal is 4 ∷ [])
    -- 4: the index flag is set, and X or Y has a high byte; the accumulator may have one
    ∷ row (native8 (X is 0x0100 ∷ [])) (0xEA ∷ []) (Asks [] ∷ Refusal is 4 ∷ [])
    ∷ row (wide_a (Y is 0x0100 ∷ [])) (0xEA ∷ []) (Asks [] ∷ Refusal is 4 ∷ [])
    ∷ row (wide_index (X is 0x0100 ∷ Y is 0x0100 ∷ [])) (0xEA ∷ []) (X is 0x0100 ∷ Y is 0x0100 ∷ Cycles is 2 ∷ [])
    ∷ row (wide_a (A is 0x0100 ∷ [])) (0xEA ∷ []) (A is 0x0100 ∷ Cycles is 2 ∷ [])
    -- 4: in emulation S is outside page 1; in native mode it may be anywhere
    ∷ row (emulation (S is 0x0200 ∷ [])) (0xEA ∷ []) (Asks [] ∷ Refusal is 4 ∷ [])
    ∷ row (emulation (S is 0x00FF ∷ [])) (0xEA ∷ []) (Asks [] ∷ Refusal is 4 ∷ [])
    ∷ row (native8 (S is 0x0200 ∷ [])) (0xEA ∷ []) (S is 0x0200 ∷ Cycles is 2 ∷ [])
    -- 4: a scratch word isn't 0 at an instruction's start
    ∷ row (native8 (Address is 0x0001 ∷ [])) (0xEA ∷ []) (Asks [] ∷ Refusal is 4 ∷ [])
    ∷ row (native8 (Data is 0x0100 ∷ [])) (0xEA ∷ []) (Asks [] ∷ Refusal is 4 ∷ [])
    ∷ row (native8 (Bank is 0x01 ∷ [])) (0xEA ∷ []) (Asks [] ∷ Refusal is 4 ∷ [])
    -- 4: nor between a move's bytes, where S is in page 1 too
    ∷ row (native8 (Held is 1 ∷ IR is 0x54 ∷ TCU is 0 ∷ Address is 0x0001 ∷ [])) (0x54 ∷ []) (Asks [] ∷ Refusal is 4 ∷ [])
    ∷ row (native8 (Held is 1 ∷ IR is 0x44 ∷ TCU is 0 ∷ Bank is 0x01 ∷ [])) (0x44 ∷ []) (Asks [] ∷ Refusal is 4 ∷ [])
    ∷ row (emulation (Held is 1 ∷ IR is 0x54 ∷ TCU is 0 ∷ S is 0x0200 ∷ [])) (0x54 ∷ []) (Asks [] ∷ Refusal is 4 ∷ [])
    -- inside an instruction both may be anything, and its end sets them right
    ∷ row (emulation (Held is 1 ∷ IR is 0xA9 ∷ TCU is 1 ∷ PC is 0x8001 ∷ S is 0x0234 ∷ Address is 0x1234 ∷ Data is 0x5678 ∷ Bank is 0x9A ∷ [])) (0x56 ∷ [])
    (Asks (P 0x008001 ∷ []) ∷ A is 0x0056 ∷ S is 0x0134 ∷ Address is 0x0000 ∷ Data is 0x0000 ∷ Bank is 0x00 ∷ Held is 0 ∷ [])
    -- 5: an opcode that isn't listed is held, whatever its cycle
    ∷ row (native8 (Held is 1 ∷ IR is 0x00 ∷ TCU is 1 ∷ [])) (0x00 ∷ []) (Asks [] ∷ Refusal is 5 ∷ [])
    ∷ row (native8 (Held is 1 ∷ IR is 0xCB ∷ TCU is 9 ∷ [])) (0x00 ∷ []) (Asks [] ∷ Refusal is 5 ∷ [])
    -- 6: immediate has its third cycle at 16 bits alone
    ∷ row (native8 (Held is 1 ∷ IR is 0xA9 ∷ TCU is 2 ∷ PC is 0x8002 ∷ A is 0x5678 ∷ [])) (0x12 ∷ []) (Asks [] ∷ Refusal is 6 ∷ [])
    ∷ row (wide_a (Held is 1 ∷ IR is 0xA9 ∷ TCU is 2 ∷ PC is 0x8002 ∷ A is 0x5678 ∷ [])) (0x12 ∷ [])
    (Asks (P 0x008002 ∷ []) ∷ A is 0x1278 ∷ PC is 0x8003 ∷ Cycles is 1 ∷ [])
    ∷ row (wide_a (Held is 1 ∷ IR is 0xA2 ∷ TCU is 2 ∷ PC is 0x8002 ∷ [])) (0x12 ∷ []) (Asks [] ∷ Refusal is 6 ∷ [])
    ∷ row (wide_index (Held is 1 ∷ IR is 0xA2 ∷ TCU is 2 ∷ PC is 0x8002 ∷ X is 0x5678 ∷ [])) (0x12 ∷ [])
    (Asks (P 0x008002 ∷ []) ∷ X is 0x1278 ∷ PC is 0x8003 ∷ Cycles is 1 ∷ [])
    -- 6: direct has its fourth cycle where the low byte of D isn't 0
    ∷ row (native8 (Held is 1 ∷ IR is 0xA5 ∷ TCU is 3 ∷ Address is 0x0010 ∷ DP is 0x0100 ∷ [])) (0x12 ∷ []) (Asks [] ∷ Refusal is 6 ∷ [])
    ∷ row (native8 (Held is 1 ∷ IR is 0xA5 ∷ TCU is 3 ∷ Address is 0x0010 ∷ DP is 0x0001 ∷ [])) (0x12 ∷ [])
    (Asks (D 0x000010 ∷ []) ∷ A is 0x0012 ∷ Cycles is 1 ∷ [])
    -- 6: a branch that isn't taken has its third cycle, which takes it, and in emulation its fourth, which ends it
    ∷ row (native8 (Held is 1 ∷ IR is 0xD0 ∷ TCU is 2 ∷ z is 1 ∷ PC is 0x8002 ∷ Address is 0x0010 ∷ Data is 0x8002 ∷ [])) (0x00 ∷ [])
    (Asks (I 0x008002 ∷ []) ∷ PC is 0x8012 ∷ Held is 0 ∷ Cycles is 1 ∷ [])
    ∷ row (native8 (Held is 1 ∷ IR is 0xD0 ∷ TCU is 3 ∷ z is 1 ∷ PC is 0x8002 ∷ [])) (0x00 ∷ []) (Asks [] ∷ Refusal is 6 ∷ [])
    ∷ row (emulation (Held is 1 ∷ IR is 0xD0 ∷ TCU is 2 ∷ z is 1 ∷ PC is 0x8002 ∷ Address is 0x0010 ∷ Data is 0x8002 ∷ [])) (0x00 ∷ [])
    (Asks (I 0x008002 ∷ []) ∷ PC is 0x8012 ∷ Held is 0 ∷ Cycles is 1 ∷ [])
    ∷ row (emulation (Held is 1 ∷ IR is 0xD0 ∷ TCU is 2 ∷ z is 1 ∷ PC is 0x80F0 ∷ Address is 0x0020 ∷ Data is 0x80F0 ∷ [])) (0x00 ∷ 0x00 ∷ [])
    (Asks (I 0x0080F0 ∷ I 0x0080F0 ∷ []) ∷ PC is 0x8110 ∷ Held is 0 ∷ Cycles is 2 ∷ [])
    ∷ row (emulation (Held is 1 ∷ IR is 0xD0 ∷ TCU is 3 ∷ z is 1 ∷ PC is 0x8012 ∷ Address is 0x0010 ∷ Data is 0x8002 ∷ [])) (0x00 ∷ [])
    (Asks (I 0x008002 ∷ []) ∷ PC is 0x8012 ∷ Held is 0 ∷ Cycles is 1 ∷ [])
    -- 6: the last cycle and the one past it
    ∷ row (native8 (Held is 1 ∷ IR is 0xEA ∷ TCU is 1 ∷ PC is 0x8001 ∷ [])) (0x00 ∷ []) (Asks (I 0x008001 ∷ []) ∷ Cycles is 1 ∷ [])
    ∷ row (native8 (Held is 1 ∷ IR is 0xEA ∷ TCU is 2 ∷ PC is 0x8001 ∷ [])) (0x00 ∷ []) (Asks [] ∷ Refusal is 6 ∷ [])
    ∷ row (native8 (Held is 1 ∷ IR is 0xEB ∷ TCU is 2 ∷ PC is 0x8001 ∷ A is 0x1234 ∷ [])) (0x00 ∷ []) (Asks (I 0x008001 ∷ []) ∷ A is 0x3412 ∷ Cycles is 1 ∷ [])
    ∷ row (native8 (Held is 1 ∷ IR is 0xEB ∷ TCU is 3 ∷ PC is 0x8001 ∷ [])) (0x00 ∷ []) (Asks [] ∷ Refusal is 6 ∷ [])
    ∷ row (native8 (Held is 1 ∷ IR is 0x22 ∷ TCU is 8 ∷ [])) (0x00 ∷ []) (Asks [] ∷ Refusal is 6 ∷ [])
    ∷ row (native8 (Held is 1 ∷ IR is 0x54 ∷ TCU is 7 ∷ [])) (0x00 ∷ []) (Asks [] ∷ Refusal is 6 ∷ [])
    -- 6: cycle 0 is a move's alone
    ∷ row (native8 (Held is 1 ∷ IR is 0xA9 ∷ TCU is 0 ∷ [])) (0xA9 ∷ []) (Asks [] ∷ Refusal is 6 ∷ [])
    ∷ row (native8 (Held is 1 ∷ IR is 0x54 ∷ TCU is 0 ∷ A is 0x0000 ∷ X is 0x0010 ∷ Y is 0x0020 ∷ [])) (0xEA ∷ 0x02 ∷ 0x01 ∷ 0xAB ∷ [])
    (Asks (O 0x008000 ∷ P 0x008001 ∷ P 0x008002 ∷ D 0x010010 ∷ W 0x020020 0xAB ∷ I 0x020020 ∷ I 0x020020 ∷ []) ∷ A is 0xFFFF ∷ Held is 0 ∷ PC is 0x8003 ∷ [])
    -- the order: 4 before 5 and before 6, 5 before 6
    ∷ row (native8 (Held is 1 ∷ IR is 0x00 ∷ TCU is 1 ∷ X is 0x0100 ∷ [])) (0x00 ∷ []) (Asks [] ∷ Refusal is 4 ∷ [])
    ∷ row (native8 (Held is 1 ∷ IR is 0xA9 ∷ TCU is 9 ∷ X is 0x0100 ∷ [])) (0x00 ∷ []) (Asks [] ∷ Refusal is 4 ∷ [])
    ∷ row (native8 (Held is 1 ∷ IR is 0x00 ∷ TCU is 0 ∷ Address is 0x0001 ∷ [])) (0x00 ∷ []) (Asks [] ∷ Refusal is 5 ∷ [])
    ∷ []
