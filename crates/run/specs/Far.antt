-- How far whole instructions, or the bytes of a move, go at a stretch: one after the other while more than so many cycles are left, up to the first that isn't quick.
use Rattle.std.specs.Prelude.{ℕ, zero, suc, ◌+◌, ◌-◌, List, eqb, ltb}
use Rattle.words.specs.Words.{pick}
use Rattle.cpu.specs.declared.types.Record.{Record}
use Rattle.stride.specs.Strides.{fresh, stride_of, stride_mem}
use Rattle.stride.specs.declared.types.Stretch.{Stretch}
use Rattle.haul.specs.Hauls.{haul_of, haul_mem}

-- a turn by what it comes to and the memory after it; it is begun only while more than `floor` cycles are left
module _ (turn : Record → List ℕ → Stretch) (memory : Record → List ℕ → List ℕ) (floor : ℕ) where
  -- the cycles done of those left; `turns` only ends the recursion: as many as cycles are left are enough, since each takes one at least
  unfoldable pub far : (turns left : ℕ) → Record → List ℕ → ℕ
  far zero l r m = 0
  far (suc k) l r m = let t : Stretch = turn r m in pick (ltb floor l) (pick (eqb t.cycles 0) 0 (t.cycles + far k (l - t.cycles) t.after (memory r m))) 0

-- whole instructions, bytes of a move, and either by where the record stands; a turn is 7 cycles at most, so one at least is left
abbrev pub strides_far : (budget : ℕ) → Record → List ℕ → ℕ
strides_far b r m = far stride_of stride_mem 7 b b r m

abbrev pub hauls_far : (budget : ℕ) → Record → List ℕ → ℕ
hauls_far b r m = far haul_of haul_mem 8 b b r m

abbrev pub ahead_far : (budget : ℕ) → Record → List ℕ → ℕ
ahead_far b r m = pick (fresh r) (strides_far b r m) (hauls_far b r m)
