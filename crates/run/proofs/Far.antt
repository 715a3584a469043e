-- How far a stretch goes, turn by turn: what a loop that counts what is left of its budget down has done once it ends.
use Prim.Native.Nat.{ℕ, zero, suc, ◌+◌, ◌-◌, ◌≤◌, ◌<◌}
use mathlib.Core.Path.{◌≡◌, refl, ap, sym, subst, ◌∙◌}
use mathlib.Core.Bool.{Bool, true, false, not, ◌&&◌}
use mathlib.Core.List.{List}
use native.Mathlib.Omega.{arith}
use lib.Dec.{eqb, ltb}
use borrow.Author.Tests.{lt-ltb, le-ltb, eq-eqb, ne_eqb, eqb-false}
use Rattle.words.specs.Words.{pick}
use Rattle.cpu.specs.Record.{is_move}
use Rattle.cpu.specs.declared.types.Record.{Record}
use Rattle.stride.specs.declared.types.Stretch.{Stretch}
use Rattle.stride.specs.Strides.{fresh, whole, stretch, stride_of, stride_mem}
use Rattle.haul.specs.Hauls.{between, near, hauled, haul_of, haul_mem}
use Rattle.run.specs.Far.{far, strides_far, hauls_far, ahead_far}

-- by the two tests of a turn
none_by : (b z : Bool) (n : ℕ) → z ≡ true → pick b (pick z 0 n) 0 ≡ 0
none_by true z n e = rw e
none_by false z n e = refl

same_by : (b z : Bool) (c x y : ℕ) → (z ≡ false → x ≡ y) → pick b (pick z 0 (c + x)) 0 ≡ pick b (pick z 0 (c + y)) 0
same_by true true c x y e = refl
same_by true false c x y e = ap (λ (n : ℕ). c + n) (e refl)
same_by false z c x y e = refl

module _ (turn : Record → List ℕ → Stretch) (memory : Record → List ℕ → List ℕ) (floor : ℕ) where
  -- too little is left
  far_end : (k l : ℕ) (r : Record) (m : List ℕ) → l ≤ floor → far turn memory floor k l r m ≡ 0
  unfolding far
  far_end zero l r m h = refl
  far_end (suc k) l r m h = rw (le-ltb floor l h)

  -- a turn that did nothing
  far_stop : (k l : ℕ) (r : Record) (m : List ℕ) → (turn r m).cycles ≡ 0 → far turn memory floor k l r m ≡ 0
  unfolding far
  far_stop zero l r m e = refl
  far_stop (suc k) l r m e = none_by (ltb floor l) (eqb (turn r m).cycles 0) _ (eq-eqb _ _ e)

  -- as many turns as cycles are left are enough
  enough : (k j l : ℕ) (r : Record) (m : List ℕ) → l ≤ k → l ≤ j → far turn memory floor k l r m ≡ far turn memory floor j l r m
  unfolding far
  enough zero j l r m h i = sym (far_end j l r m (omega (arith, h)))
  enough (suc k) zero l r m h i = far_end (suc k) l r m (omega (arith, i))
  enough (suc k) (suc j) l r m h i =
      let c : ℕ = (turn r m).cycles in
      same_by (ltb floor l) (eqb c 0) c _ _ (λ e. enough k j (l - c) (turn r m).after (memory r m) (omega (arith, h, eqb-false c 0 e)) (omega (arith, i, eqb-false c 0 e)))

  abbrev reach : (budget : ℕ) → Record → List ℕ → ℕ
  reach b r m = far turn memory floor b b r m

  -- a turn that did something
  far_on : (l : ℕ) (r : Record) (m : List ℕ) → floor < l → ((turn r m).cycles ≡ 0 → ⊥)
      → reach l r m ≡ (turn r m).cycles + reach (l - (turn r m).cycles) (turn r m).after (memory r m)
  unfolding far
  far_on zero r m h n = absurd (omega (arith, h))
  far_on (suc k) r m h n =
      let c : ℕ = (turn r m).cycles in
      rw (lt-ltb floor (suc k) h, ne_eqb c 0 n)
      (ap (λ (i : ℕ). c + i) (enough k (suc k - c) (suc k - c) (turn r m).after (memory r m) (omega (arith, n)) (omega arith)))

  -- ---- a loop that counts down: what it did, and what it is still to do, is the whole
  pub far_start : (b : ℕ) (r : Record) (m : List ℕ) → (b - b) + reach b r m ≡ reach b r m
  far_start b r m = omega arith

  module _ (b l : ℕ) (r at : Record) (m k : List ℕ) (fits : l ≤ b) (so_far : (b - l) + reach l at k ≡ reach b r m) where
    abbrev On : Stretch → List ℕ → Type 0
    On t k' = t.cycles ≤ l → (t.cycles ≡ 0 → ⊥) → (b - (l - t.cycles)) + reach (l - t.cycles) t.after k' ≡ reach b r m

    on : floor < l → On (turn at k) (memory at k)
    on h i n =
        let c : ℕ = (turn at k).cycles in
        let e : (b - (l - c)) + reach (l - c) (turn at k).after (memory at k) ≡ (b - l) + (c + reach (l - c) (turn at k).after (memory at k)) = omega (arith, fits, i) in
        e ∙ ap (λ (j : ℕ). (b - l) + j) (sym (far_on l at k h n)) ∙ so_far

    pub far_more : floor < l → (t : Stretch) (k' : List ℕ) → (t ≡ turn at k) × (k' ≡ memory at k) → On t k'
    far_more h t k' e = subst (λ (v : Stretch). On v k') (sym e.0) (subst (On (turn at k)) (sym e.1) (on h))

    pub far_stopped : (t : Stretch) (n : ℕ) → t ≡ turn at k → t.cycles ≡ 0 → n ≡ b - l → n ≡ reach b r m
    far_stopped t n e z h =
        let s : reach l at k ≡ 0 = far_stop l l at k (ap (λ (v : Stretch). v.cycles) (sym e) ∙ z) in
        omega (arith, so_far, s, h)

    pub far_ended : (n : ℕ) → l ≤ floor → n ≡ b - l → n ≡ reach b r m
    far_ended n i h =
        let s : reach l at k ≡ 0 = far_end l l at k i in
        omega (arith, so_far, s, h)

  -- from a record that is the same
  pub far_same : (b n : ℕ) (r s : Record) (m : List ℕ) → s ≡ r → n ≡ reach b s m → n ≡ reach b r m
  far_same b n r s m e h = h ∙ ap (λ (v : Record). reach b v m) e

-- ---- by where the record stands
pub far_fresh : (b : ℕ) (r : Record) (m : List ℕ) → fresh r ≡ true → ahead_far b r m ≡ strides_far b r m
far_fresh b r m e = ap (λ (t : Bool). pick t (strides_far b r m) (hauls_far b r m)) e

pub far_not_fresh : (b : ℕ) (r : Record) (m : List ℕ) → fresh r ≡ false → ahead_far b r m ≡ hauls_far b r m
far_not_fresh b r m e = ap (λ (t : Bool). pick t (strides_far b r m) (hauls_far b r m)) e

-- ---- nor where no more is left than either asks for
none_short : (t : Bool) (x y : ℕ) → x ≡ 0 → y ≡ 0 → pick t x y ≡ 0
none_short true x y e f = e
none_short false x y e f = f

pub far_short : (b : ℕ) (r : Record) (m : List ℕ) → b ≤ 7 → ahead_far b r m ≡ 0
far_short b r m h =
    none_short (fresh r) (strides_far b r m) (hauls_far b r m)
    (far_end stride_of stride_mem 7 b b r m h) (far_end haul_of haul_mem 8 b b r m (omega (arith, h)))

-- ---- inside an instruction nothing goes
and_false : (a b : Bool) → (a && (b && false)) ≡ false
and_false true true = refl
and_false true false = refl
and_false false b = refl

not_hauled : (w : Bool) (s : Stretch) → s.cycles ≡ 0 → (pick w s s).cycles ≡ 0
not_hauled true s z = z
not_hauled false s z = z

module _ (r : Record) (inside : r.tcu ≡ 0 → ⊥) where
  not_fresh : fresh r ≡ false
  not_fresh = ap (λ (t : Bool). (eqb r.pbr 0 && not r.held) && (eqb r.ir 0 && t)) (ne_eqb r.tcu 0 inside) ∙ and_false (eqb r.pbr 0 && not r.held) (eqb r.ir 0)

  not_between : between r ≡ false
  not_between = ap (λ (t : Bool). (eqb r.pbr 0 && r.held) && (is_move r.ir && t)) (ne_eqb r.tcu 0 inside) ∙ and_false (eqb r.pbr 0 && r.held) (is_move r.ir)

  no_haul : (m : List ℕ) → (haul_of r m).cycles ≡ 0
  unfolding haul_of
  no_haul m =
      ap (λ (t : Bool). (pick (whole m) (pick (t && near r m) (stretch 7 (hauled (eqb r.ir 0x54) r)) (stretch 0 r)) (stretch 0 r)).cycles) not_between
      ∙ not_hauled (whole m) (stretch 0 r) refl

  pub far_inside : (b : ℕ) (m : List ℕ) → ahead_far b r m ≡ 0
  far_inside b m = far_not_fresh b r m not_fresh ∙ far_stop haul_of haul_mem 8 b b r m (no_haul m)
