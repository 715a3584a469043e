-- What the definitions of words are for, in plain arithmetic.
use Rattle.std.proofs.Common.{◌≡◌, ℕ, zero, suc, ◌+◌, ◌-◌, ◌*◌, ◌/◌, ◌%◌, ◌<◌, ◌≤◌, true, false, refl, arith, le-ltb, lt-ltb, eq-eqb, ne_eqb}
use Rattle.words.specs.Words.{word, low_set, swapped, inc, dec, up, down, sum16, signed, displaced, at, sum24, same_page, page_one, index}

-- ---- halves
pub word_low : (l h : ℕ) → l < 256 → word l h % 256 ≡ l
unfolding word
word_low l h p = omega arith

pub word_high : (l h : ℕ) → word l h / 256 ≡ h
unfolding word
word_high l h = omega arith

-- another low byte leaves the high byte
pub low_set_lem : (w b : ℕ) → b < 256 → (low_set w b % 256 ≡ b) × (low_set w b / 256 ≡ w / 256)
unfolding low_set
low_set_lem w b p = omega arith

-- each half is where the other was
pub halves_swapped : (w : ℕ) → w < 65536 → (swapped w % 256 ≡ w / 256) × (swapped w / 256 ≡ w % 256)
unfolding swapped
halves_swapped w p = omega arith

-- ---- steps
pub inc_last : inc 65535 ≡ 0
unfolding inc
inc_last = refl

pub inc_next : (p : ℕ) → p < 65535 → inc p ≡ p + 1
unfolding inc
inc_next p h = omega arith

-- a step down undoes a step up
pub dec_inc : (p : ℕ) → p < 65536 → dec (inc p) ≡ p
unfolding inc dec
dec_inc p h = omega arith

-- k steps are a sum
pub up_sum : (p k : ℕ) → p < 65536 → up p k ≡ sum16 p k
unfolding inc sum16
up_sum p zero h = omega arith
up_sum p (suc k) h = omega (arith, up_sum p k h)

-- and k steps down are undone by a sum
pub down_sum : (p k : ℕ) → p < 65536 → sum16 (down p k) k ≡ p
unfolding dec sum16
down_sum p zero h = omega arith
down_sum p (suc k) h = omega (arith, down_sum p k h)

-- ---- displacements: up to 7F forward, from 80 on back
pub forward : (p b : ℕ) → b < 128 → displaced p b ≡ sum16 p b
unfolding displaced signed
forward p b h = rw (lt-ltb b 128 h)

pub back : (p b : ℕ) → p < 65536 → 128 ≤ b → b < 256 → sum16 (displaced p b) (256 - b) ≡ p
unfolding displaced signed sum16
back p b h from to = rw (le-ltb b 128 from) (omega arith)

-- ---- 24 bits
pub in_bank : (bank p : ℕ) → p < 65536 → (at bank p / 65536 ≡ bank) × (at bank p % 65536 ≡ p)
unfolding at
in_bank bank p h = omega arith

-- a sum goes on into the next bank, and from the last to the first
pub next_bank : (bank p k : ℕ) → sum24 (at bank p) k ≡ at ((bank + (p + k) / 65536) % 256) ((p + k) % 65536)
unfolding sum24 at
next_bank bank p k = omega arith

-- ---- pages
pub pages_same : (h l m : ℕ) → l < 256 → m < 256 → same_page (h * 256 + l) (h * 256 + m) ≡ true
unfolding same_page
pages_same h l m p q = eq-eqb ((h * 256 + l) / 256) ((h * 256 + m) / 256) (omega arith)

pub pages_apart : (p q : ℕ) → p + 256 ≤ q → same_page p q ≡ false
unfolding same_page
pages_apart p q h = ne_eqb (p / 256) (q / 256) (λ e. omega arith)

-- in emulation S stays in page 1
pub page_one_lem : (s : ℕ) → (page_one true s / 256 ≡ 1) × (page_one true s % 256 ≡ s % 256)
unfolding page_one
page_one_lem s = omega arith

-- a narrow index is its low byte
pub index_narrow : (x : ℕ) → (index true x < 256) × (index true x % 256 ≡ x % 256)
unfolding index
index_narrow x = omega arith
