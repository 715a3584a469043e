use Prim.Native.Nat.{ℕ}
use mathlib.Core.Path.{sym, ap}
use mathlib.Core.List.{List, [], ◌∷◌}
use Rattle.opcodes.specs.Opcodes.{decode_of, opcodes, one_bytes}
use Rattle.quick.specs.Quick.{quick_of}
use Rattle.tracks.specs.Tracks.{track_of}
use Rattle.tracks.proofs.InsideRows.{inside_rest}
use Rattle.tracks.proofs.track.Goals as goal

-- the arms' keys, the last first
abbrev keys : List (List ℕ)
keys = (0xF0 ∷ []) ∷ (0xED ∷ []) ∷ (0xEC ∷ []) ∷ (0xE9 ∷ []) ∷ (0xE5 ∷ []) ∷ (0xE4 ∷ []) ∷ (0xE0 ∷ []) ∷ (0xD0 ∷ []) ∷ (0xCD ∷ []) ∷ (0xCC ∷ []) ∷ (0xC9 ∷ []) ∷ (0xC5 ∷ []) ∷ (0xC4 ∷ []) ∷ (0xC0 ∷ []) ∷ (0xB0 ∷ []) ∷ (0xAE ∷ []) ∷ (0xAD ∷ []) ∷ (0xAC ∷ []) ∷ (0xA9 ∷ []) ∷ (0xA6 ∷ []) ∷ (0xA5 ∷ []) ∷ (0xA4 ∷ []) ∷ (0xA2 ∷ []) ∷ (0xA0 ∷ []) ∷ (0x9C ∷ []) ∷ (0x90 ∷ []) ∷ (0x8E ∷ []) ∷ (0x8D ∷ []) ∷ (0x8C ∷ []) ∷ (0x89 ∷ []) ∷ (0x86 ∷ []) ∷ (0x85 ∷ []) ∷ (0x84 ∷ []) ∷ (0x80 ∷ []) ∷ (0x70 ∷ []) ∷ (0x6D ∷ []) ∷ (0x69 ∷ []) ∷ (0x65 ∷ []) ∷ (0x64 ∷ []) ∷ (0x50 ∷ []) ∷ (0x4D ∷ []) ∷ (0x4C ∷ []) ∷ (0x49 ∷ []) ∷ (0x45 ∷ []) ∷ (0x30 ∷ []) ∷ (0x2D ∷ []) ∷ (0x2C ∷ []) ∷ (0x29 ∷ []) ∷ (0x25 ∷ []) ∷ (0x24 ∷ []) ∷ (0x10 ∷ []) ∷ (0x0D ∷ []) ∷ (0x09 ∷ []) ∷ (0x05 ∷ []) ∷ []

pub returns-in-5 : goal.returns-in-5
unfolding track_of quick_of decode_of opcodes one_bytes
returns-in-5 c = sym (ap track_of c.in-5.is)

pub returns-in-9 : goal.returns-in-9
unfolding track_of quick_of decode_of opcodes one_bytes
returns-in-9 c = sym (ap track_of c.in-9.is)

pub returns-in-13 : goal.returns-in-13
unfolding track_of quick_of decode_of opcodes one_bytes
returns-in-13 c = sym (ap track_of c.in-13.is)

pub returns-in-16 : goal.returns-in-16
unfolding track_of quick_of decode_of opcodes one_bytes
returns-in-16 c = sym (ap track_of c.in-16.is)

pub returns-in-36 : goal.returns-in-36
unfolding track_of quick_of decode_of opcodes one_bytes
returns-in-36 c = sym (ap track_of c.in-36.is)

pub returns-in-37 : goal.returns-in-37
unfolding track_of quick_of decode_of opcodes one_bytes
returns-in-37 c = sym (ap track_of c.in-37.is)

pub returns-in-41 : goal.returns-in-41
unfolding track_of quick_of decode_of opcodes one_bytes
returns-in-41 c = sym (ap track_of c.in-41.is)

pub returns-in-44 : goal.returns-in-44
unfolding track_of quick_of decode_of opcodes one_bytes
returns-in-44 c = sym (ap track_of c.in-44.is)

pub returns-in-45 : goal.returns-in-45
unfolding track_of quick_of decode_of opcodes one_bytes
returns-in-45 c = sym (ap track_of c.in-45.is)

pub returns-in-48 : goal.returns-in-48
unfolding track_of quick_of decode_of opcodes one_bytes
returns-in-48 c = sym (ap track_of c.in-48.is)

pub returns-in-69 : goal.returns-in-69
unfolding track_of quick_of decode_of opcodes one_bytes
returns-in-69 c = sym (ap track_of c.in-69.is)

pub returns-in-73 : goal.returns-in-73
unfolding track_of quick_of decode_of opcodes one_bytes
returns-in-73 c = sym (ap track_of c.in-73.is)

pub returns-in-76 : goal.returns-in-76
unfolding track_of quick_of decode_of opcodes one_bytes
returns-in-76 c = sym (ap track_of c.in-76.is)

pub returns-in-77 : goal.returns-in-77
unfolding track_of quick_of decode_of opcodes one_bytes
returns-in-77 c = sym (ap track_of c.in-77.is)

pub returns-in-80 : goal.returns-in-80
unfolding track_of quick_of decode_of opcodes one_bytes
returns-in-80 c = sym (ap track_of c.in-80.is)

pub returns-in-100 : goal.returns-in-100
unfolding track_of quick_of decode_of opcodes one_bytes
returns-in-100 c = sym (ap track_of c.in-100.is)

pub returns-in-101 : goal.returns-in-101
unfolding track_of quick_of decode_of opcodes one_bytes
returns-in-101 c = sym (ap track_of c.in-101.is)

pub returns-in-105 : goal.returns-in-105
unfolding track_of quick_of decode_of opcodes one_bytes
returns-in-105 c = sym (ap track_of c.in-105.is)

pub returns-in-109 : goal.returns-in-109
unfolding track_of quick_of decode_of opcodes one_bytes
returns-in-109 c = sym (ap track_of c.in-109.is)

pub returns-in-112 : goal.returns-in-112
unfolding track_of quick_of decode_of opcodes one_bytes
returns-in-112 c = sym (ap track_of c.in-112.is)

pub returns-in-128 : goal.returns-in-128
unfolding track_of quick_of decode_of opcodes one_bytes
returns-in-128 c = sym (ap track_of c.in-128.is)

pub returns-in-132 : goal.returns-in-132
unfolding track_of quick_of decode_of opcodes one_bytes
returns-in-132 c = sym (ap track_of c.in-132.is)

pub returns-in-133 : goal.returns-in-133
unfolding track_of quick_of decode_of opcodes one_bytes
returns-in-133 c = sym (ap track_of c.in-133.is)

pub returns-in-134 : goal.returns-in-134
unfolding track_of quick_of decode_of opcodes one_bytes
returns-in-134 c = sym (ap track_of c.in-134.is)

pub returns-in-137 : goal.returns-in-137
unfolding track_of quick_of decode_of opcodes one_bytes
returns-in-137 c = sym (ap track_of c.in-137.is)

pub returns-in-140 : goal.returns-in-140
unfolding track_of quick_of decode_of opcodes one_bytes
returns-in-140 c = sym (ap track_of c.in-140.is)

pub returns-in-141 : goal.returns-in-141
unfolding track_of quick_of decode_of opcodes one_bytes
returns-in-141 c = sym (ap track_of c.in-141.is)

pub returns-in-142 : goal.returns-in-142
unfolding track_of quick_of decode_of opcodes one_bytes
returns-in-142 c = sym (ap track_of c.in-142.is)

pub returns-in-144 : goal.returns-in-144
unfolding track_of quick_of decode_of opcodes one_bytes
returns-in-144 c = sym (ap track_of c.in-144.is)

pub returns-in-156 : goal.returns-in-156
unfolding track_of quick_of decode_of opcodes one_bytes
returns-in-156 c = sym (ap track_of c.in-156.is)

pub returns-in-160 : goal.returns-in-160
unfolding track_of quick_of decode_of opcodes one_bytes
returns-in-160 c = sym (ap track_of c.in-160.is)

pub returns-in-162 : goal.returns-in-162
unfolding track_of quick_of decode_of opcodes one_bytes
returns-in-162 c = sym (ap track_of c.in-162.is)

pub returns-in-164 : goal.returns-in-164
unfolding track_of quick_of decode_of opcodes one_bytes
returns-in-164 c = sym (ap track_of c.in-164.is)

pub returns-in-165 : goal.returns-in-165
unfolding track_of quick_of decode_of opcodes one_bytes
returns-in-165 c = sym (ap track_of c.in-165.is)

pub returns-in-166 : goal.returns-in-166
unfolding track_of quick_of decode_of opcodes one_bytes
returns-in-166 c = sym (ap track_of c.in-166.is)

pub returns-in-169 : goal.returns-in-169
unfolding track_of quick_of decode_of opcodes one_bytes
returns-in-169 c = sym (ap track_of c.in-169.is)

pub returns-in-172 : goal.returns-in-172
unfolding track_of quick_of decode_of opcodes one_bytes
returns-in-172 c = sym (ap track_of c.in-172.is)

pub returns-in-173 : goal.returns-in-173
unfolding track_of quick_of decode_of opcodes one_bytes
returns-in-173 c = sym (ap track_of c.in-173.is)

pub returns-in-174 : goal.returns-in-174
unfolding track_of quick_of decode_of opcodes one_bytes
returns-in-174 c = sym (ap track_of c.in-174.is)

pub returns-in-176 : goal.returns-in-176
unfolding track_of quick_of decode_of opcodes one_bytes
returns-in-176 c = sym (ap track_of c.in-176.is)

pub returns-in-192 : goal.returns-in-192
unfolding track_of quick_of decode_of opcodes one_bytes
returns-in-192 c = sym (ap track_of c.in-192.is)

pub returns-in-196 : goal.returns-in-196
unfolding track_of quick_of decode_of opcodes one_bytes
returns-in-196 c = sym (ap track_of c.in-196.is)

pub returns-in-197 : goal.returns-in-197
unfolding track_of quick_of decode_of opcodes one_bytes
returns-in-197 c = sym (ap track_of c.in-197.is)

pub returns-in-201 : goal.returns-in-201
unfolding track_of quick_of decode_of opcodes one_bytes
returns-in-201 c = sym (ap track_of c.in-201.is)

pub returns-in-204 : goal.returns-in-204
unfolding track_of quick_of decode_of opcodes one_bytes
returns-in-204 c = sym (ap track_of c.in-204.is)

pub returns-in-205 : goal.returns-in-205
unfolding track_of quick_of decode_of opcodes one_bytes
returns-in-205 c = sym (ap track_of c.in-205.is)

pub returns-in-208 : goal.returns-in-208
unfolding track_of quick_of decode_of opcodes one_bytes
returns-in-208 c = sym (ap track_of c.in-208.is)

pub returns-in-224 : goal.returns-in-224
unfolding track_of quick_of decode_of opcodes one_bytes
returns-in-224 c = sym (ap track_of c.in-224.is)

pub returns-in-228 : goal.returns-in-228
unfolding track_of quick_of decode_of opcodes one_bytes
returns-in-228 c = sym (ap track_of c.in-228.is)

pub returns-in-229 : goal.returns-in-229
unfolding track_of quick_of decode_of opcodes one_bytes
returns-in-229 c = sym (ap track_of c.in-229.is)

pub returns-in-233 : goal.returns-in-233
unfolding track_of quick_of decode_of opcodes one_bytes
returns-in-233 c = sym (ap track_of c.in-233.is)

pub returns-in-236 : goal.returns-in-236
unfolding track_of quick_of decode_of opcodes one_bytes
returns-in-236 c = sym (ap track_of c.in-236.is)

pub returns-in-237 : goal.returns-in-237
unfolding track_of quick_of decode_of opcodes one_bytes
returns-in-237 c = sym (ap track_of c.in-237.is)

pub returns-in-240 : goal.returns-in-240
unfolding track_of quick_of decode_of opcodes one_bytes
returns-in-240 c = sym (ap track_of c.in-240.is)

pub returns-in_default : goal.returns-in_default
unfolding track_of quick_of decode_of opcodes one_bytes
returns-in_default c = sym (inside_rest _ opcodes keys tt c.in_default.in_default-own.rest)
