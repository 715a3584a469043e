-- Laws of the trace's text and of writing it piece by piece: what a run that writes a line a cycle leans on.
use Prim.Native.Nat.{ℕ, suc, ◌+◌, ◌*◌, ◌-◌, ◌≤◌, ◌<◌}
use mathlib.Core.Path.{◌≡◌, refl, sym, ap, ◌∙◌}
use mathlib.Core.Bool.{Bool, true, false}
use mathlib.Core.List.{List, [], ◌∷◌, ◌++◌, append_assoc}
use mathlib.Core.Logic.{⊎_elim}
use native.Mathlib.Omega.{arith}
use native.Mathlib.Nat.{add-zero, zero-add}
use native.Mathlib.Numerals.{add-one}
use borrow.Author.Tests.{le-leb, lt-leb, leb-true}
use lib.Dec.{leb}
use lib.ListN.{length, set, take, drop, length-append}
use borrow.Rule.Slice.PartMut.{put_mid}
use Rattle.std.proofs.lemmas.List.{drop-drop}
use lib.Seq.{sets, sets-eq, length-sets, take-append_seam}
use Rattle.words.specs.Words.{pick}
use Rattle.cpu.specs.declared.types.Request.{Request}
use Rattle.trace.specs.Text.{decimal, hex2, hex6, line_text, lines_text, header, over, Put, Wrote}
use Rattle.trace.proofs.Decimal.{lt_or_ge, decimal_short, decimal_some}

-- ---- how long lines are

pub line_length : (n : ℕ) (q : Request) → length (line_text n q) ≡ 15 + length (decimal n)
unfolding line_text hex6 hex2
line_length n q = let e : length (line_text n q) ≡ length (decimal n) + 15 = length-append (decimal n) _ in omega arith

-- a number of at most seven digits, so every n from 1 to 1,000,000
pub line_short : (n : ℕ) (q : Request) → n < 10000000 → length (line_text n q) ≤ 22
line_short n q h = omega (arith, line_length n q, decimal_short 6 n h)

pub line_long : (n : ℕ) (q : Request) → 16 ≤ length (line_text n q)
line_long n q = omega (arith, line_length n q, decimal_some n)

-- ---- many lines

pub lines_append : (n : ℕ) (a b : List Request) → lines_text n (a ++ b) ≡ lines_text n a ++ lines_text (n + length a) b
unfolding lines_text
lines_append n [] b = rw (add-zero n)
lines_append n (q ∷ a) b =
    let e : n + suc (length a) ≡ suc n + length a = omega arith in
    rw (e, lines_append (suc n) a b) (sym (append_assoc (line_text n q) (lines_text (suc n) a) _))

pub lines_short : (n : ℕ) (a : List Request) → n + length a ≤ 10000000 → length (lines_text n a) ≤ 22 * length a
unfolding lines_text
lines_short n [] h = omega arith
lines_short n (q ∷ a) h =
    omega (arith, length-append (line_text n q) (lines_text (suc n) a), line_short n q (omega arith), lines_short (suc n) a (omega arith))

pub lines_long : (n : ℕ) (a : List Request) → 16 * length a ≤ length (lines_text n a)
unfolding lines_text
lines_long n [] = omega arith
lines_long n (q ∷ a) =
    omega (arith, length-append (line_text n q) (lines_text (suc n) a), line_long n q, lines_long (suc n) a)

-- ---- pieces that were written one after the other

pub sets_more : (xs ys l : List ℕ) (i : ℕ) → sets (sets l i xs) (i + length xs) ys ≡ sets l i (xs ++ ys)
sets_more [] ys l i = rw (add-zero i)
sets_more (a ∷ xs) ys l i =
    let e : i + suc (length xs) ≡ suc i + length xs = omega arith in
    rw e (sets_more xs ys (set l i a) (suc i))

pub then : {t t₁ t₂ xs ys : List ℕ} {i j k : ℕ} → Wrote t t₁ i j xs → Wrote t₁ t₂ j k ys → Wrote t t₂ i k (xs ++ ys)
then {t} {xs = xs} {ys = ys} {i = i} p q =
    record {
      place = omega (arith, p.place, q.place, length-append xs ys);
      text = q.text ∙ (rw (p.text, p.place) (sets_more xs ys t i));
    }

pub wrote_length : {t t₁ x : List ℕ} {i j : ℕ} → Wrote t t₁ i j x → length t₁ ≡ length t
wrote_length {t} {x = x} {i = i} p = ap length p.text ∙ length-sets t i x

pub wrote_none : (t : List ℕ) (i : ℕ) → Wrote t t i i []
wrote_none t i = record { place = omega arith; text = refl }

pub wrote_one : (t : List ℕ) (i b : ℕ) → Wrote t (set t i b) i (i + 1) (b ∷ [])
wrote_one t i b = record { place = refl; text = refl }

-- bytes that were copied over a part of t
pub wrote_part : (t s : List ℕ) (at : ℕ) (x : List ℕ) → x ≡ s → at + length s ≤ length t
    → Wrote t (put_mid at (at + length s - at) t x) at (at + length s) s
wrote_part t s at x e h =
    let n : at + length s - at ≡ length s = omega arith in
    record {
      place = refl;
      text = rw (e, n, drop-drop (length s) at t, sets-eq s t at h) (sym (append_assoc (take at t) s _));
    }

-- what was written at the front is what stands there
pub wrote_front : {t t' x : List ℕ} {j : ℕ} → Wrote t t' 0 j x → length x ≤ length t → take j t' ≡ x
wrote_front {t} {x = x} w h =
    let e : _ ≡ length x = w.place ∙ zero-add (length x) in
    rw (w.text, sets-eq x t 0 (omega arith), e) (take-append_seam x (drop (0 + length x) t))

-- ---- with room and without

-- the test as the code makes it, without a sum that could wrap
pub room_none : (len at size : ℕ) → len < size → false ≡ leb (at + size) len
room_none len at size h = sym (lt-leb (at + size) len (omega arith))

pub room_some : (len at size : ℕ) → size ≤ len → leb at (len - size) ≡ leb (at + size) len
room_some len at size h =
    ⊎_elim
    (λ p. lt-leb at (len - size) p ∙ sym (lt-leb (at + size) len (omega arith)))
    (λ p. le-leb at (len - size) p ∙ sym (le-leb (at + size) len (omega arith)))
    (lt_or_ge (len - size) at)

-- 25 bytes are enough for a line of any number of 32 bits
pub room_any : (len at n : ℕ) → n < 10000000000 → leb (at + 25) len ≡ true → true ≡ leb (at + (15 + length (decimal n))) len
room_any len at n h k = sym (le-leb (at + (15 + length (decimal n))) len (omega (arith, leb-true (at + 25) len k, decimal_short 9 n h)))

pub put_fits : {t t' x : List ℕ} {i j : ℕ} → i + length x ≤ length t → Put t t' i j x → Wrote t t' i j x
put_fits h p = record { place = p.place ∙ rw (le-leb _ _ h); text = p.text ∙ rw (le-leb _ _ h) }

pub put_full_text : {t t' x : List ℕ} {i j : ℕ} → length t < i + length x → Put t t' i j x → t' ≡ t
put_full_text h p = p.text ∙ rw (lt-leb _ _ h)

pub put_full_place : {t t' x : List ℕ} {i j : ℕ} → length t < i + length x → Put t t' i j x → j ≡ i
put_full_place h p = p.place ∙ rw (lt-leb _ _ h)

pub wrote_put : {t t' x : List ℕ} {i j : ℕ} → i + length x ≤ length t → Wrote t t' i j x → Put t t' i j x
wrote_put h w = record { place = w.place ∙ rw (le-leb _ _ h); text = w.text ∙ rw (le-leb _ _ h) }

pub full_put : {t x : List ℕ} {i : ℕ} → length t < i + length x → Put t t i i x
full_put h = record { place = rw (lt-leb _ _ h); text = rw (lt-leb _ _ h) }

picked_length : (b : Bool) (t : List ℕ) (i : ℕ) (x : List ℕ) → length (pick b (sets t i x) t) ≡ length t
picked_length true t i x = length-sets t i x
picked_length false t i x = refl

pub put_length : {t t' x : List ℕ} {i j : ℕ} → Put t t' i j x → length t' ≡ length t
put_length {t} {x = x} {i = i} p = ap length p.text ∙ picked_length (leb (i + length x) (length t)) t i x

-- two pieces with room for both are one
pub put_then : {t t₁ t₂ xs ys : List ℕ} {i j k : ℕ} → i + length xs + length ys ≤ length t
    → Put t t₁ i j xs → Put t₁ t₂ j k ys → Put t t₂ i k (xs ++ ys)
put_then {t} {t₁} {xs = xs} {ys = ys} {i = i} {j = j} h p q =
    let w = put_fits {x = xs} (omega arith) p in
    let v = put_fits {x = ys} (omega (arith, w.place, wrote_length w)) q in
    wrote_put (omega (arith, length-append xs ys)) (then w v)

-- ---- the lines that are still to be written

-- whoever writes the lines qs from number n on at place p of t has written qs₀ from n₀ on at place p₀ of t₀
abbrev pub Rest : List ℕ → ℕ → ℕ → List Request → List ℕ → ℕ → ℕ → List Request → Type 0
Rest t₀ p₀ n₀ qs₀ t p n qs = (t' : List ℕ) (k : ℕ) → Wrote t t' p k (lines_text n qs) → Wrote t₀ t' p₀ k (lines_text n₀ qs₀)

pub rest_all : (t : List ℕ) (p n : ℕ) (qs : List Request) → Rest t p n qs t p n qs
rest_all t p n qs t' k w = w

pub rest_more : (t₀ t t₁ : List ℕ) (p₀ n₀ p p₁ n : ℕ) (qs₀ qs : List Request) (q : Request)
    → Rest t₀ p₀ n₀ qs₀ t p n (q ∷ qs) → Wrote t t₁ p p₁ (line_text n q) → Rest t₀ p₀ n₀ qs₀ t₁ p₁ (n + 1) qs
unfolding lines_text
rest_more t₀ t t₁ p₀ n₀ p p₁ n qs₀ qs q f w t' k v = f t' k (then w (rw add-one at v))

pub rest_none : (t₀ t : List ℕ) (p₀ n₀ p n : ℕ) (qs₀ : List Request) → Rest t₀ p₀ n₀ qs₀ t p n [] → Wrote t₀ t p₀ p (lines_text n₀ qs₀)
unfolding lines_text
rest_none t₀ t p₀ n₀ p n qs₀ f = f t p (wrote_none t p)

-- one line of at most seven digits more, where there is room for 22 bytes: the next place, and room for the others
pub record Lined (t₀ : List ℕ) (p₀ n₀ : ℕ) (qs₀ : List Request) (t t₁ : List ℕ) (p p₁ n : ℕ) (qs : List Request) : Type 0 where
  pub rest : Rest t₀ p₀ n₀ qs₀ t₁ p₁ (n + 1) qs
  pub size : length t₁ ≡ length t
  pub after : p₁ ≤ p + 22

pub rest_line : {t₀ t t₁ : List ℕ} {p₀ n₀ p p₁ n : ℕ} {qs₀ qs : List Request} (q : Request) → n < 10000000 → p + 22 ≤ length t
    → Rest t₀ p₀ n₀ qs₀ t p n (q ∷ qs) → Put t t₁ p p₁ (line_text n q) → Lined t₀ p₀ n₀ qs₀ t t₁ p p₁ n qs
rest_line {t₀} {t} {t₁} {p₀} {n₀} {p} {p₁} {n} {qs₀} {qs} q h room f u =
    let w = put_fits {x = line_text n q} (omega (arith, line_short n q h)) u in
    record {
      rest = rest_more t₀ t t₁ p₀ n₀ p p₁ n qs₀ qs q f w;
      size = wrote_length w;
      after = omega (arith, w.place, line_short n q h);
    }

-- ---- the header and then all the lines

pub trace_wrote : {t t₀ t₁ : List ℕ} {p₀ p : ℕ} (qs : List Request)
    → Wrote t t₀ 0 p₀ header → Wrote t₀ t₁ p₀ p (lines_text 1 qs) → p ≤ length t → t₁ ≡ over (header ++ lines_text 1 qs) t
trace_wrote {t} qs h w f =
    let v = then h w in
    v.text ∙ sets-eq (header ++ lines_text 1 qs) t 0 (omega (arith, v.place)) ∙ rw zero-add

pub header_wrote : {t t₀ : List ℕ} {p₀ : ℕ} → 6 ≤ length t → Put t t₀ 0 p₀ header → Wrote t t₀ 0 p₀ header
header_wrote h u = put_fits (omega arith) u
