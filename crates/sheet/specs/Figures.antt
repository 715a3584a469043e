-- Document 01's farmyard figures that are to be proved, and some of our own, as one table; FigureForm says how a row is read.
use Rattle.std.specs.Prelude.{◌≡◌, List, [], ◌∷◌, ◌++◌, map}
use Rattle.sheet.specs.Sheet.{O, P, D, I, W, instruction}
use Rattle.sheet.specs.EdgeFigures.{modes, fetches, stacks, widths, unlisted, refusals}
use Rattle.sheet.specs.FigureForm.{Figure, Machine, A, X, Y, S, DP, PC, PBR, DBR, n, v, d, z, c, Cycles, Ups, Downs, ◌is◌, Asks, emulation, native8, native16, wide_a, wide_index, row, rows, add, subtract, cycle_after_cycle, gives}

unfoldable pub figures : List Figure
figures =
    -- ---- document 01's, with *
    -- decimal, 8 bit: 99 + 01, C 0: 00, C 1, Z 1, N 0, V 0
    row (native8 (d is 1 ∷ c is 0 ∷ A is 0x99 ∷ n is 1 ∷ v is 1 ∷ [])) (0x69 ∷ 0x01 ∷ [])
    (A is 0x00 ∷ c is 1 ∷ z is 1 ∷ n is 0 ∷ v is 0 ∷ [])
    -- decimal, 16 bit: 9999 + 0001, C 0: 0000, C 1, Z 1
    ∷ row (native16 (d is 1 ∷ c is 0 ∷ A is 0x9999 ∷ [])) (0x69 ∷ 0x01 ∷ 0x00 ∷ []) (A is 0x0000 ∷ c is 1 ∷ z is 1 ∷ [])
    -- decimal, 8 bit: 00 - 01, C 1: 99, C 0, N 1, V 0
    ∷ row (native8 (d is 1 ∷ c is 1 ∷ A is 0x00 ∷ v is 1 ∷ [])) (0xE9 ∷ 0x01 ∷ []) (A is 0x99 ∷ c is 0 ∷ n is 1 ∷ v is 0 ∷ [])
    -- decimal, 8 bit: 0F + 0F, C 1: 15, C 0
    ∷ row (native8 (d is 1 ∷ c is 1 ∷ A is 0x0F ∷ [])) (0x69 ∷ 0x0F ∷ []) (A is 0x15 ∷ c is 0 ∷ [])
    -- binary, 8 bit: 7F + 01, C 0: 80, N 1, V 1, C 0
    ∷ row (native8 (c is 0 ∷ A is 0x7F ∷ [])) (0x69 ∷ 0x01 ∷ []) (A is 0x80 ∷ n is 1 ∷ v is 1 ∷ c is 0 ∷ [])
    -- CMP 16 bit, 1234 with 1235: C 0, Z 0, N 1
    ∷ row (native16 (A is 0x1234 ∷ c is 1 ∷ z is 1 ∷ [])) (0xC9 ∷ 0x35 ∷ 0x12 ∷ []) (c is 0 ∷ z is 0 ∷ n is 1 ∷ A is 0x1234 ∷ [])
    -- XBA on 8000: 0080, N 1, Z 0
    ∷ row (native16 (A is 0x8000 ∷ z is 1 ∷ [])) (0xEB ∷ []) (A is 0x0080 ∷ n is 1 ∷ z is 0 ∷ [])
    -- BRL at 0000, displacement FFFD: PC 0000
    ∷ row (native16 (PC is 0x0000 ∷ [])) (0x82 ∷ 0xFD ∷ 0xFF ∷ []) (PC is 0x0000 ∷ [])
    -- BRA at 80FD, displacement 01: PC 8100; 4 cycles in emulation, 3 native
    ∷ row (emulation (PC is 0x80FD ∷ [])) (0x80 ∷ 0x01 ∷ []) (PC is 0x8100 ∷ Cycles is 4 ∷ [])
    ∷ row (native8 (PC is 0x80FD ∷ [])) (0x80 ∷ 0x01 ∷ []) (PC is 0x8100 ∷ Cycles is 3 ∷ [])
    -- at 80FC 3 in both
    ∷ row (emulation (PC is 0x80FC ∷ [])) (0x80 ∷ 0x01 ∷ []) (PC is 0x80FF ∷ Cycles is 3 ∷ [])
    ∷ row (native8 (PC is 0x80FC ∷ [])) (0x80 ∷ 0x01 ∷ []) (PC is 0x80FF ∷ Cycles is 3 ∷ [])
    -- RTL, emulation, S 01FE: reads 01FF, 0200, 0201; S 0101
    ∷ row (emulation (S is 0x01FE ∷ [])) (0x6B ∷ 0x00 ∷ 0x00 ∷ 0x34 ∷ 0x12 ∷ 0x56 ∷ [])
    (Asks (O 0x008000 ∷ I 0x008001 ∷ I 0x008001 ∷ D 0x0001FF ∷ D 0x000200 ∷ D 0x000201 ∷ []) ∷ S is 0x0101 ∷ PC is 0x1235 ∷ PBR is 0x56 ∷ [])
    -- RTS: 01FF, 0100; S 0100
    ∷ row (emulation (S is 0x01FE ∷ [])) (0x60 ∷ 0x00 ∷ 0x00 ∷ 0x34 ∷ 0x12 ∷ [])
    (Asks (O 0x008000 ∷ I 0x008001 ∷ I 0x008001 ∷ D 0x0001FF ∷ D 0x000100 ∷ I 0x000100 ∷ []) ∷ S is 0x0100 ∷ PC is 0x1235 ∷ [])
    -- LDA absolute 16 bit, DBR 01, FFFF: reads 01FFFF, 020000
    ∷ row (native16 (DBR is 0x01 ∷ [])) (0xAD ∷ 0xFF ∷ 0xFF ∷ 0x34 ∷ 0x12 ∷ [])
    (Asks (O 0x008000 ∷ P 0x008001 ∷ P 0x008002 ∷ D 0x01FFFF ∷ D 0x020000 ∷ []) ∷ A is 0x1234 ∷ [])
    -- pairs from 95: add 10, subtract 06: A 99, one wrap up, one down
    ∷ rows (native8 (d is 1 ∷ A is 0x95 ∷ [])) (add (0x10 ∷ []) ++ subtract (0x06 ∷ []))
    (A is 0x99 ∷ Ups is 1 ∷ Downs is 1 ∷ [])
    -- ---- document 01's, without *
    -- MVN with A 0000: one byte, A FFFF, 7 cycles
    ∷ row (native16 (X is 0x1000 ∷ Y is 0x2000 ∷ A is 0x0000 ∷ [])) (0x54 ∷ 0x02 ∷ 0x01 ∷ 0xAB ∷ [])
    (Asks (O 0x008000 ∷ P 0x008001 ∷ P 0x008002 ∷ D 0x011000 ∷ W 0x022000 0xAB ∷ I 0x022000 ∷ I 0x022000 ∷ []) ∷
    A is 0xFFFF ∷ Cycles is 7 ∷ PC is 0x8003 ∷ X is 0x1001 ∷ Y is 0x2001 ∷ DBR is 0x02 ∷ [])
    -- MVN, 8-bit index, X FF: next X 0000
    ∷ row (native8 (X is 0x00FF ∷ Y is 0x0010 ∷ A is 0x0001 ∷ [])) (0x54 ∷ 0x02 ∷ 0x01 ∷ [])
    (X is 0x0000 ∷ Y is 0x0011 ∷ A is 0x0000 ∷ PC is 0x8000 ∷ [])
    -- JMP (FFFF): second byte from 0000
    ∷ row (native16 (PBR is 0x12 ∷ [])) (0x6C ∷ 0xFF ∷ 0xFF ∷ 0x78 ∷ 0x56 ∷ [])
    (Asks (O 0x128000 ∷ P 0x128001 ∷ P 0x128002 ∷ D 0x00FFFF ∷ D 0x000000 ∷ []) ∷ PC is 0x5678 ∷ PBR is 0x12 ∷ [])
    -- BIT immediate C0, A 3F, 8 bit: Z 1, N and V kept, be they clear or set
    ∷ row (native8 (A is 0x3F ∷ [])) (0x89 ∷ 0xC0 ∷ []) (z is 1 ∷ n is 0 ∷ v is 0 ∷ [])
    ∷ row (native8 (A is 0x3F ∷ n is 1 ∷ v is 1 ∷ [])) (0x89 ∷ 0xC0 ∷ []) (z is 1 ∷ n is 1 ∷ v is 1 ∷ [])
    -- ---- our own: decimal, where digits alone wouldn't show the rule
    -- 00 - 0F, C 1: 9B, C 0; 6 is taken from the low digit alone
    ∷ row (native8 (d is 1 ∷ c is 1 ∷ A is 0x00 ∷ [])) (0xE9 ∷ 0x0F ∷ []) (A is 0x9B ∷ c is 0 ∷ [])
    -- 00 - FF, C 1: AB, C 0; 60 is taken from the high digit alone
    ∷ row (native8 (d is 1 ∷ c is 1 ∷ A is 0x00 ∷ [])) (0xE9 ∷ 0xFF ∷ []) (A is 0xAB ∷ c is 0 ∷ [])
    -- 16 bit: 0000 - 000F, C 1: 999B, C 0
    ∷ row (native16 (d is 1 ∷ c is 1 ∷ A is 0x0000 ∷ [])) (0xE9 ∷ 0x0F ∷ 0x00 ∷ []) (A is 0x999B ∷ c is 0 ∷ [])
    -- FD + FF, C 1: 53, C 1, V 0; half carry and a low digit above 9, so 6 is added to the low digit only
    ∷ row (native8 (d is 1 ∷ c is 1 ∷ A is 0xFD ∷ v is 1 ∷ [])) (0x69 ∷ 0xFF ∷ []) (A is 0x53 ∷ c is 1 ∷ v is 0 ∷ [])
    -- 27 + 7B, C 1: 09, C 1, V 1; V is taken after the first correction
    ∷ row (native8 (d is 1 ∷ c is 1 ∷ A is 0x27 ∷ [])) (0x69 ∷ 0x7B ∷ []) (A is 0x09 ∷ c is 1 ∷ v is 1 ∷ [])
    -- 50 + 50, C 0: 00, C 1, V 1, Z 1; after the last correction V would be clear
    ∷ row (native8 (d is 1 ∷ c is 0 ∷ A is 0x50 ∷ [])) (0x69 ∷ 0x50 ∷ []) (A is 0x00 ∷ c is 1 ∷ v is 1 ∷ z is 1 ∷ [])
    -- 8 bit, A 1299: 99 + 01, C 0: A 1200; the high byte stays
    ∷ row (native8 (d is 1 ∷ c is 0 ∷ A is 0x1299 ∷ [])) (0x69 ∷ 0x01 ∷ []) (A is 0x1200 ∷ c is 1 ∷ z is 1 ∷ [])
    -- ---- our own: pairs from 9999 that wrap twice each way, shown after each pair
    -- add 0667: 0666, a wrap up
    ∷ rows (native16 (d is 1 ∷ A is 0x9999 ∷ [])) (add (0x67 ∷ 0x06 ∷ []))
    (A is 0x0666 ∷ Ups is 1 ∷ Downs is 0 ∷ [])
    -- subtract 0789: 9877, a wrap down
    ∷ rows (native16 (d is 1 ∷ A is 0x9999 ∷ [])) (add (0x67 ∷ 0x06 ∷ []) ++ subtract (0x89 ∷ 0x07 ∷ []))
    (A is 0x9877 ∷ Ups is 1 ∷ Downs is 1 ∷ [])
    -- add 2345: 2222, a wrap up
    ∷ rows (native16 (d is 1 ∷ A is 0x9999 ∷ []))
    (add (0x67 ∷ 0x06 ∷ []) ++ subtract (0x89 ∷ 0x07 ∷ []) ++ add (0x45 ∷ 0x23 ∷ []))
    (A is 0x2222 ∷ Ups is 2 ∷ Downs is 1 ∷ [])
    -- subtract 5678: 6544, a wrap down
    ∷ rows (native16 (d is 1 ∷ A is 0x9999 ∷ []))
    (add (0x67 ∷ 0x06 ∷ []) ++ subtract (0x89 ∷ 0x07 ∷ []) ++ add (0x45 ∷ 0x23 ∷ []) ++ subtract (0x78 ∷ 0x56 ∷ []))
    (A is 0x6544 ∷ Ups is 2 ∷ Downs is 2 ∷ [])
    -- ---- our own: the stack at the edges of page 1 in emulation
    -- PHA at 0100: writes 0100; S 01FF
    ∷ row (emulation (S is 0x0100 ∷ A is 0x12AB ∷ [])) (0x48 ∷ [])
    (Asks (O 0x008000 ∷ I 0x008001 ∷ W 0x000100 0xAB ∷ []) ∷ S is 0x01FF ∷ [])
    -- PHP at 0100, N and C set: writes B1 at 0100, bits 4 and 5 set; S 01FF
    ∷ row (emulation (S is 0x0100 ∷ n is 1 ∷ c is 1 ∷ [])) (0x08 ∷ [])
    (Asks (O 0x008000 ∷ I 0x008001 ∷ W 0x000100 0xB1 ∷ []) ∷ S is 0x01FF ∷ [])
    -- PHD at 0100: writes 0100, 00FF; S 01FE
    ∷ row (emulation (S is 0x0100 ∷ DP is 0x1234 ∷ [])) (0x0B ∷ [])
    (Asks (O 0x008000 ∷ I 0x008001 ∷ W 0x000100 0x12 ∷ W 0x0000FF 0x34 ∷ []) ∷ S is 0x01FE ∷ [])
    -- PLA at 01FF: reads 0100; S 0100
    ∷ row (emulation (S is 0x01FF ∷ A is 0x1234 ∷ [])) (0x68 ∷ 0x00 ∷ 0x00 ∷ 0x80 ∷ [])
    (Asks (O 0x008000 ∷ I 0x008001 ∷ I 0x008001 ∷ D 0x000100 ∷ []) ∷ S is 0x0100 ∷ A is 0x1280 ∷ n is 1 ∷ z is 0 ∷ [])
    -- PLP at 01FF: reads 0100; S 0100
    ∷ row (emulation (S is 0x01FF ∷ [])) (0x28 ∷ 0x00 ∷ 0x00 ∷ 0xCB ∷ [])
    (Asks (O 0x008000 ∷ I 0x008001 ∷ I 0x008001 ∷ D 0x000100 ∷ []) ∷ S is 0x0100 ∷ n is 1 ∷ v is 1 ∷ d is 1 ∷ z is 1 ∷ c is 1 ∷ [])
    -- PLB at 01FF: reads 0200, the crate's rule; S 0100
    ∷ row (emulation (S is 0x01FF ∷ [])) (0xAB ∷ 0x00 ∷ 0x00 ∷ 0x9A ∷ [])
    (Asks (O 0x008000 ∷ I 0x008001 ∷ I 0x008001 ∷ D 0x000200 ∷ []) ∷ S is 0x0100 ∷ DBR is 0x9A ∷ n is 1 ∷ [])
    -- PLD at 01FF: reads 0200, 0201; S 0101
    ∷ row (emulation (S is 0x01FF ∷ [])) (0x2B ∷ 0x00 ∷ 0x00 ∷ 0x34 ∷ 0x12 ∷ [])
    (Asks (O 0x008000 ∷ I 0x008001 ∷ I 0x008001 ∷ D 0x000200 ∷ D 0x000201 ∷ []) ∷ S is 0x0101 ∷ DP is 0x1234 ∷ [])
    -- JSR a at 0100: writes 0100, 01FF; S 01FE
    ∷ row (emulation (S is 0x0100 ∷ [])) (0x20 ∷ 0x34 ∷ 0x12 ∷ [])
    (Asks (O 0x008000 ∷ P 0x008001 ∷ P 0x008002 ∷ I 0x008002 ∷ W 0x000100 0x80 ∷ W 0x0001FF 0x02 ∷ []) ∷ S is 0x01FE ∷ PC is 0x1234 ∷ [])
    -- JSR (a,x) at 0100: writes 0100, 01FF, the crate's rule until R-4 of document 02; S 01FE
    ∷ row (emulation (S is 0x0100 ∷ X is 0x04 ∷ [])) (0xFC ∷ 0x00 ∷ 0x00 ∷ 0x00 ∷ 0x20 ∷ 0x00 ∷ 0x34 ∷ 0x12 ∷ [])
    (Asks (O 0x008000 ∷ P 0x008001 ∷ W 0x000100 0x80 ∷ W 0x0001FF 0x02 ∷ P 0x008002 ∷ I 0x008002 ∷ P 0x002004 ∷ P 0x002005 ∷ []) ∷
    S is 0x01FE ∷ PC is 0x1234 ∷ [])
    -- JSL at 0101: writes 0101, 0100, 00FF, and its internal cycle asks 0101; S 01FE
    ∷ row (emulation (S is 0x0101 ∷ PBR is 0x12 ∷ [])) (0x22 ∷ 0x78 ∷ 0x56 ∷ 0x00 ∷ 0x00 ∷ 0x34 ∷ [])
    (Asks (O 0x128000 ∷ P 0x128001 ∷ P 0x128002 ∷ W 0x000101 0x12 ∷ I 0x000101 ∷ P 0x128003 ∷ W 0x000100 0x80 ∷ W 0x0000FF 0x03 ∷ []) ∷
    S is 0x01FE ∷ PC is 0x5678 ∷ PBR is 0x34 ∷ [])
    -- PEA at 0100: writes 0100, 00FF; S 01FE
    ∷ row (emulation (S is 0x0100 ∷ [])) (0xF4 ∷ 0x34 ∷ 0x12 ∷ [])
    (Asks (O 0x008000 ∷ P 0x008001 ∷ P 0x008002 ∷ W 0x000100 0x12 ∷ W 0x0000FF 0x34 ∷ []) ∷ S is 0x01FE ∷ [])
    -- PEI at 0100: writes 0100, 00FF; S 01FE
    ∷ row (emulation (S is 0x0100 ∷ [])) (0xD4 ∷ 0x10 ∷ 0x34 ∷ 0x12 ∷ [])
    (Asks (O 0x008000 ∷ P 0x008001 ∷ D 0x000010 ∷ D 0x000011 ∷ W 0x000100 0x12 ∷ W 0x0000FF 0x34 ∷ []) ∷ S is 0x01FE ∷ [])
    -- PER at 0100: writes 0100, 00FF; S 01FE; its internal cycle asks the operand's last byte
    ∷ row (emulation (S is 0x0100 ∷ [])) (0x62 ∷ 0x31 ∷ 0x92 ∷ [])
    (Asks (O 0x008000 ∷ P 0x008001 ∷ P 0x008002 ∷ I 0x008002 ∷ W 0x000100 0x12 ∷ W 0x0000FF 0x34 ∷ []) ∷ S is 0x01FE ∷ [])
    -- RTS at 01FF: reads 0100, 0101; S 0101
    ∷ row (emulation (S is 0x01FF ∷ [])) (0x60 ∷ 0x00 ∷ 0x00 ∷ 0x34 ∷ 0x12 ∷ [])
    (Asks (O 0x008000 ∷ I 0x008001 ∷ I 0x008001 ∷ D 0x000100 ∷ D 0x000101 ∷ I 0x000101 ∷ []) ∷ S is 0x0101 ∷ PC is 0x1235 ∷ [])
    -- RTL at 01FF: reads 0200, 0201, 0202; S 0102
    ∷ row (emulation (S is 0x01FF ∷ [])) (0x6B ∷ 0x00 ∷ 0x00 ∷ 0x34 ∷ 0x12 ∷ 0x56 ∷ [])
    (Asks (O 0x008000 ∷ I 0x008001 ∷ I 0x008001 ∷ D 0x000200 ∷ D 0x000201 ∷ D 0x000202 ∷ []) ∷ S is 0x0102 ∷ PC is 0x1235 ∷ PBR is 0x56 ∷ [])
    -- ---- our own: PC wraps inside bank 12, an instruction of 1 to 4 bytes at FFFF and at FFFE
    -- NOP: one byte
    ∷ row (native8 (PBR is 0x12 ∷ PC is 0xFFFF ∷ [])) (0xEA ∷ [])
    (Asks (O 0x12FFFF ∷ I 0x120000 ∷ []) ∷ PC is 0x0000 ∷ PBR is 0x12 ∷ [])
    ∷ row (native8 (PBR is 0x12 ∷ PC is 0xFFFE ∷ [])) (0xEA ∷ [])
    (Asks (O 0x12FFFE ∷ I 0x12FFFF ∷ []) ∷ PC is 0xFFFF ∷ PBR is 0x12 ∷ [])
    -- LDA #: two bytes
    ∷ row (native8 (PBR is 0x12 ∷ PC is 0xFFFF ∷ [])) (0xA9 ∷ 0x34 ∷ [])
    (Asks (O 0x12FFFF ∷ P 0x120000 ∷ []) ∷ PC is 0x0001 ∷ PBR is 0x12 ∷ A is 0x34 ∷ [])
    ∷ row (native8 (PBR is 0x12 ∷ PC is 0xFFFE ∷ [])) (0xA9 ∷ 0x34 ∷ [])
    (Asks (O 0x12FFFE ∷ P 0x12FFFF ∷ []) ∷ PC is 0x0000 ∷ PBR is 0x12 ∷ A is 0x34 ∷ [])
    -- LDA a, its data in bank 7E: three bytes
    ∷ row (native8 (PBR is 0x12 ∷ PC is 0xFFFF ∷ DBR is 0x7E ∷ [])) (0xAD ∷ 0x34 ∷ 0x12 ∷ 0x56 ∷ [])
    (Asks (O 0x12FFFF ∷ P 0x120000 ∷ P 0x120001 ∷ D 0x7E1234 ∷ []) ∷ PC is 0x0002 ∷ PBR is 0x12 ∷ A is 0x56 ∷ [])
    ∷ row (native8 (PBR is 0x12 ∷ PC is 0xFFFE ∷ DBR is 0x7E ∷ [])) (0xAD ∷ 0x34 ∷ 0x12 ∷ 0x56 ∷ [])
    (Asks (O 0x12FFFE ∷ P 0x12FFFF ∷ P 0x120000 ∷ D 0x7E1234 ∷ []) ∷ PC is 0x0001 ∷ PBR is 0x12 ∷ A is 0x56 ∷ [])
    -- JMP long: four bytes
    ∷ row (native8 (PBR is 0x12 ∷ PC is 0xFFFF ∷ [])) (0x5C ∷ 0x56 ∷ 0x34 ∷ 0x9A ∷ [])
    (Asks (O 0x12FFFF ∷ P 0x120000 ∷ P 0x120001 ∷ P 0x120002 ∷ []) ∷ PC is 0x3456 ∷ PBR is 0x9A ∷ [])
    ∷ row (native8 (PBR is 0x12 ∷ PC is 0xFFFE ∷ [])) (0x5C ∷ 0x56 ∷ 0x34 ∷ 0x9A ∷ [])
    (Asks (O 0x12FFFE ∷ P 0x12FFFF ∷ P 0x120000 ∷ P 0x120001 ∷ []) ∷ PC is 0x3456 ∷ PBR is 0x9A ∷ [])
    -- ---- our own: addresses that wrap, 16 bits wide
    -- direct, D FFFF, offset FF: reads 0000FE, 0000FF
    ∷ row (native16 (DP is 0xFFFF ∷ DBR is 0x7E ∷ [])) (0xA5 ∷ 0xFF ∷ 0x00 ∷ 0x34 ∷ 0x12 ∷ [])
    (Asks (O 0x008000 ∷ P 0x008001 ∷ I 0x008001 ∷ D 0x0000FE ∷ D 0x0000FF ∷ []) ∷ A is 0x1234 ∷ [])
    -- direct, D FF00, offset FF: reads 00FFFF, 000000
    ∷ row (native16 (DP is 0xFF00 ∷ DBR is 0x7E ∷ [])) (0xA5 ∷ 0xFF ∷ 0x34 ∷ 0x12 ∷ [])
    (Asks (O 0x008000 ∷ P 0x008001 ∷ D 0x00FFFF ∷ D 0x000000 ∷ []) ∷ A is 0x1234 ∷ [])
    -- LDA absolute at FFFFFF: reads FFFFFF, 000000
    ∷ row (native16 (DBR is 0xFF ∷ [])) (0xAD ∷ 0xFF ∷ 0xFF ∷ 0x34 ∷ 0x12 ∷ [])
    (Asks (O 0x008000 ∷ P 0x008001 ∷ P 0x008002 ∷ D 0xFFFFFF ∷ D 0x000000 ∷ []) ∷ A is 0x1234 ∷ [])
    -- STA absolute at FFFFFF: writes FFFFFF, 000000
    ∷ row (native16 (DBR is 0xFF ∷ A is 0x1234 ∷ [])) (0x8D ∷ 0xFF ∷ 0xFF ∷ [])
    (Asks (O 0x008000 ∷ P 0x008001 ∷ P 0x008002 ∷ W 0xFFFFFF 0x34 ∷ W 0x000000 0x12 ∷ []) ∷ PC is 0x8003 ∷ [])
    -- JMP [FFFF]: reads 00FFFF, 000000, 000001
    ∷ row (native16 (PBR is 0x12 ∷ [])) (0xDC ∷ 0xFF ∷ 0xFF ∷ 0x78 ∷ 0x56 ∷ 0x9A ∷ [])
    (Asks (O 0x128000 ∷ P 0x128001 ∷ P 0x128002 ∷ D 0x00FFFF ∷ D 0x000000 ∷ D 0x000001 ∷ []) ∷ PC is 0x5678 ∷ PBR is 0x9A ∷ [])
    -- JMP (FFFE,X), X 1: reads 12FFFF, 120000, the program bank being 12
    ∷ row (native16 (PBR is 0x12 ∷ X is 0x0001 ∷ [])) (0x7C ∷ 0xFE ∷ 0xFF ∷ 0x00 ∷ 0x78 ∷ 0x56 ∷ [])
    (Asks (O 0x128000 ∷ P 0x128001 ∷ P 0x128002 ∷ I 0x128002 ∷ P 0x12FFFF ∷ P 0x120000 ∷ []) ∷ PC is 0x5678 ∷ PBR is 0x12 ∷ [])
    -- ---- our own: moves at 8 bits
    -- MVN with A 0100 isn't at its last byte: A 00FF, PC at the opcode again
    ∷ row (native8 (A is 0x0100 ∷ X is 0x10 ∷ Y is 0x20 ∷ [])) (0x54 ∷ 0x02 ∷ 0x01 ∷ [])
    (A is 0x00FF ∷ PC is 0x8000 ∷ Cycles is 7 ∷ [])
    -- MVP, 8-bit index, X 00: next X 00FF
    ∷ row (native8 (A is 0x0001 ∷ X is 0x00 ∷ Y is 0x20 ∷ [])) (0x44 ∷ 0x02 ∷ 0x01 ∷ [])
    (X is 0x00FF ∷ Y is 0x001F ∷ A is 0x0000 ∷ PC is 0x8000 ∷ [])
    -- ---- our own: M is the accumulator's width, X the index registers'
    ∷ row (wide_a (A is 0x5678 ∷ [])) (0xA9 ∷ 0x34 ∷ 0x12 ∷ []) (A is 0x1234 ∷ Cycles is 3 ∷ PC is 0x8003 ∷ [])
    ∷ row (wide_a (X is 0x0056 ∷ [])) (0xA2 ∷ 0x34 ∷ 0x12 ∷ []) (X is 0x0034 ∷ Cycles is 2 ∷ PC is 0x8002 ∷ [])
    ∷ row (wide_a (X is 0x0080 ∷ A is 0x5678 ∷ [])) (0x8A ∷ []) (A is 0x0080 ∷ n is 0 ∷ [])
    ∷ row (wide_a (X is 0x0034 ∷ [])) (0xDA ∷ []) (Asks (O 0x008000 ∷ I 0x008001 ∷ W 0x0001FF 0x34 ∷ []) ∷ S is 0x01FE ∷ [])
    ∷ row (wide_index (A is 0x5678 ∷ [])) (0xA9 ∷ 0x34 ∷ 0x12 ∷ []) (A is 0x5634 ∷ Cycles is 2 ∷ PC is 0x8002 ∷ [])
    ∷ row (wide_index (X is 0x5678 ∷ [])) (0xA2 ∷ 0x34 ∷ 0x12 ∷ []) (X is 0x1234 ∷ Cycles is 3 ∷ PC is 0x8003 ∷ [])
    ∷ row (wide_index (X is 0x1280 ∷ A is 0x5678 ∷ [])) (0x8A ∷ []) (A is 0x5680 ∷ n is 1 ∷ [])
    ∷ row (wide_index (X is 0x1234 ∷ [])) (0xDA ∷ [])
    (Asks (O 0x008000 ∷ I 0x008001 ∷ W 0x0001FF 0x12 ∷ W 0x0001FE 0x34 ∷ []) ∷ S is 0x01FD ∷ [])
    ∷ []

-- all that hold of the sheet and of the cycles
unfoldable pub table : List Figure
table = figures ++ modes ++ fetches ++ stacks ++ widths ++ unlisted

-- ---- the one statement: what the sheet gives for each row is what the row says, and what cycle after cycle gives is too; a refusal of a
-- record as it stands is cycle after cycle's alone
abbrev pub Gives : Machine → List Figure → Type 0
Gives via l = map (gives via) l ≡ map (λ (f : Figure). f.says) l

pub record FiguresHold : Type 0 where
  pub sheet : Gives instruction table
  pub cycles : Gives cycle_after_cycle table
  pub refused : Gives cycle_after_cycle refusals
