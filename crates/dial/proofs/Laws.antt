-- What the dial is for: a line by it is the trace's line, and a turn is the next number.
use Prim.Native.Nat.{ℕ, suc, ◌+◌, ◌/◌, ◌%◌, ◌<◌}
use mathlib.Core.Path.{◌≡◌, refl, sym, ap, ◌∙◌}
use mathlib.Core.Bool.{Bool, true, false}
use mathlib.Core.List.{List, [], ◌∷◌, ◌++◌, append_assoc}
use mathlib.Core.Logic.{⊎_elim}
use native.Mathlib.Omega.{arith}
use borrow.Author.Tests.{lt-ltb, le-ltb}
use lib.ListN.{length, set, length-append}
use lib.Seq.{sets}
use Rattle.cpu.specs.declared.types.Kind.{Kind}
use Rattle.cpu.specs.declared.types.Kind.TheVariants.{Opcode, Program, Data, Invalid}
use Rattle.trace.specs.Text.{hex_digit, hex2, hex6, letter, direction, line_text}
use Rattle.trace.proofs.Decimal.{lt_or_ge}
use Rattle.dial.specs.Dial.{packed, bytes_of, front_of, of_tens, dial_of, turn_of, tail_text, near_text, row_text, marks_of}
use Rattle.dial.proofs.Packing.{Bytes, bytes_append, bytes_packed, bytes_length, bytes_fewer}
use Rattle.dial.proofs.Overlay.{three_words}
use Rattle.dial.proofs.Front.{decimal_front, front_short, front_bytes}

-- ---- the line

marks_bytes : (k : Kind) (w : Bool) → bytes_of 7 (marks_of k w) ≡ 9 ∷ letter k ∷ 9 ∷ direction w ∷ 9 ∷ 48 ∷ 48 ∷ []
unfolding marks_of
marks_bytes Opcode true = refl
marks_bytes Opcode false = refl
marks_bytes Program true = refl
marks_bytes Program false = refl
marks_bytes Data true = refl
marks_bytes Data false = refl
marks_bytes Invalid true = refl
marks_bytes Invalid false = refl

-- an address of bank 0
bank_zero : (p : ℕ) → p < 65536 → hex6 p ≡ 48 ∷ 48 ∷ (hex2 (p / 256) ++ hex2 (p % 256))
unfolding hex6 hex2 hex_digit
bank_zero p h =
    let e : p / 65536 % 256 ≡ 0 = omega arith in
    let f : p / 256 % 256 ≡ p / 256 = omega arith in
    rw (e, f)

-- the digits before the last, found again
front_again : (m : ℕ) → m < 10000000 → bytes_of (length (front_of (m % 10000000)) % 8) (packed (front_of (m % 10000000))) ≡ front_of m
front_again m h =
    let e : m % 10000000 ≡ m = omega arith in
    let f : length (front_of m) % 8 ≡ length (front_of m) = omega (arith, front_short m h) in
    rw (e, f) (bytes_packed (front_of m) (front_bytes m))

pub near_line : (n p b : ℕ) (k : Kind) (w : Bool) → n < 100000000 → p < 65536
    → near_text (dial_of n).front ((dial_of n).width % 8) (dial_of n).last (marks_of k w) p b ≡ line_text n (record { write = w; kind = k; addr = p; byte = b })
unfolding near_text dial_of of_tens tail_text line_text hex2
near_line n p b k w h g =
    ap (λ (x : List ℕ). x ++ (((48 + n % 10) ∷ []) ++ (bytes_of 7 (marks_of k w) ++ tail_text p b))) (front_again (n / 10) (omega arith))
    ∙ ap (λ (x : List ℕ). front_of (n / 10) ++ (((48 + n % 10) ∷ []) ++ (x ++ tail_text p b))) (marks_bytes k w)
    ∙ rw (bank_zero p g, decimal_front n) (sym (append_assoc (front_of (n / 10)) _ _))

-- ---- the turn

pub turn_on : (n : ℕ) → n + 1 < 100000000 → turn_of (dial_of n) ≡ dial_of (n + 1)
unfolding turn_of dial_of of_tens
turn_on n h =
    ⊎_elim
    (λ p.
    let e : (n + 1) / 10 ≡ n / 10 = omega arith in
    let f : 48 + (n + 1) % 10 ≡ suc (48 + n % 10) = omega arith in
    rw (lt-ltb (48 + n % 10) 57 p, e, f))
    (λ p.
    let e : (n + 1) / 10 ≡ n / 10 % 10000000 % 10000000 + 1 = omega arith in
    let f : (n + 1) % 10 ≡ 0 = omega arith in
    rw (le-ltb (48 + n % 10) 57 p, e, f))
    (lt_or_ge (48 + n % 10) 57)

-- ---- the line as it is written: each word lies over the end of the one before

pub near_length : (f w l m p b : ℕ) → length (near_text f w l m p b) ≡ w + 16
unfolding near_text tail_text hex2
near_length f w l m p b = omega (arith, length-append (bytes_of w f) ((l ∷ []) ++ (bytes_of 7 m ++ tail_text p b)), bytes_length w f)

digit_byte : (n : ℕ) → n < 16 → hex_digit n < 256
unfolding hex_digit
digit_byte n h =
    ⊎_elim
    (λ q. rw (lt-ltb n 10 q) (omega arith))
    (λ q. rw (le-ltb n 10 q) (omega arith))
    (lt_or_ge n 10)

hex_bytes : (b : ℕ) → b < 256 → Bytes (hex2 b)
unfolding hex2
hex_bytes b h = (digit_byte (b / 16) (omega arith), (digit_byte (b % 16) (omega arith), tt))

tail_again : (p b : ℕ) → p < 65536 → b < 256 → bytes_of 8 (packed (tail_text p b)) ≡ tail_text p b
unfolding tail_text hex2
tail_again p b h k =
    let end : Bytes (10 ∷ []) = (omega arith, tt) in
    let byte : Bytes (9 ∷ (hex2 b ++ (10 ∷ []))) = (omega arith, bytes_append (hex2 b) (10 ∷ []) (hex_bytes b k) end) in
    let low : Bytes (hex2 (p % 256) ++ (9 ∷ (hex2 b ++ (10 ∷ [])))) =
    bytes_append (hex2 (p % 256)) (9 ∷ (hex2 b ++ (10 ∷ []))) (hex_bytes (p % 256) (omega arith)) byte in
    bytes_packed (tail_text p b) (bytes_append (hex2 (p / 256)) (hex2 (p % 256) ++ (9 ∷ (hex2 b ++ (10 ∷ [])))) (hex_bytes (p / 256) (omega arith)) low)

pub row_near : (f w l m p b : ℕ) → p < 65536 → b < 256 → row_text f w l m (packed (tail_text p b)) ≡ near_text f w l m p b
unfolding near_text
row_near f w l m p b h k = ap (λ (x : List ℕ). bytes_of w f ++ (l ∷ (bytes_of 7 m ++ x))) (tail_again p b h k)

pub row_stored : (t : List ℕ) (i f w l m e : ℕ) → w < 8
    → sets (sets (set (sets t i (bytes_of 8 f)) (i + w) l) (i + w + 1) (bytes_of 8 m)) (i + w + 8) (bytes_of 8 e) ≡ sets t i (row_text f w l m e)
row_stored t i f w l m e h =
    three_words (bytes_of 8 f) (bytes_of 8 m) (bytes_of 8 e) t i w l refl refl refl h
    ∙ ap (λ (x : List ℕ). sets t i (x ++ (l ∷ (bytes_of 7 m ++ bytes_of 8 e)))) (bytes_fewer w 8 f (omega arith))

pub row_length : (f w l m e : ℕ) → length (row_text f w l m e) ≡ w + 16
row_length f w l m e = omega (arith, length-append (bytes_of w f) ((l ∷ []) ++ (bytes_of 7 m ++ bytes_of 8 e)), bytes_length w f)
