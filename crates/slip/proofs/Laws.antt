-- One digit more of a text, after i of them; and what the digits of a word are.
use Rattle.std.proofs.Common.{◌≡◌, ℕ, ◌+◌, ◌/◌, ◌%◌, ◌<◌, ◌≤◌, Some, None, Bool, List, ◌++◌, length, get_or, drop, add-one, drop-cons, drop_of_length-le, arith}
use Rattle.words.specs.Words.{word}
use Rattle.trace.specs.Text.{hex2}
use Rattle.slip.specs.Slip.{hex4, longer, number_from}

pub not_a_digit : (t : List ℕ) (hex : Bool) (n i : ℕ) → i < length t → longer hex n (get_or t i 0) ≡ None → number_from hex n (drop i t) ≡ None
unfolding number_from
not_a_digit t hex n i h e = rw (drop-cons t i 0 h, number_from, e)

pub next_digit : (t : List ℕ) (hex : Bool) (n m i : ℕ) → i < length t → longer hex n (get_or t i 0) ≡ Some m
    → number_from hex n (drop i t) ≡ number_from hex m (drop (i + 1) t)
unfolding number_from
next_digit t hex n m i h e = rw (drop-cons t i 0 h, number_from, e, add-one i)

pub all_digits : (t : List ℕ) (hex : Bool) (n i : ℕ) → length t ≤ i → number_from hex n (drop i t) ≡ Some n
unfolding number_from
all_digits t hex n i h = rw (drop_of_length-le t {i = i} h)

-- ---- a word's digits are those of its bytes

pub digits_back : (w l h : ℕ) → l < 256 → w ≡ word l h → hex2 (w / 256) ++ hex2 (w % 256) ≡ hex4 l h
unfolding word
digits_back w l h k e =
    let high : w / 256 ≡ h = omega (arith, e) in
    let low : w % 256 ≡ l = omega (arith, e) in
    rw (high, low)
