-- A session comes back from its bytes, and bytes that are a session from their session: a refused cycle leaves them as they were.
use Prim.Native.Nat.{ℕ, zero, suc, ◌+◌, ◌*◌, ◌/◌, ◌%◌, ◌<◌}
use Rattle.std.proofs.Common.{Option, Some, None}
use mathlib.Core.Path.{◌≡◌, refl, ap, ◌∙◌}
use mathlib.Core.List.{List, [], ◌∷◌, ◌++◌}
use native.Mathlib.Omega.{arith}
use borrow.Author.Tests.{eq-eqb}
use lib.ListN.{length, take, drop, take-append-drop}
use lib.Seq.{take_at}
use Rattle.cpu.specs.Record.{number_in}
use Rattle.cpu.specs.declared.types.Record.{Record}
use Rattle.session.specs.Sessions.{session_at, answered_to, cycled_over}
use Rattle.session.proofs.Sessions.{refused_byte, refused_cycle}
use Rattle.session.specs.declared.types.Session.{Session}
use Rattle.packed.specs.Packed.{pack, unpacked, byte_at}
use Rattle.packed.proofs.RoundTrip.{found_again, pack_length, from_drop}
use Rattle.session_port.specs.Port.{count_at, count_bytes, pack_session, opened_by, opened, session_answer, session_cycle}
use Rattle.numbers.proofs.Bytes.{Bytes, same_bytes}
use Rattle.session_port.proofs.Laws.{opened_size, answer_good, cycle_good}

-- ---- the count: each byte and what lies above it

above_1 : (n : ℕ) → n % 256 + 256 * (n / 256) ≡ n
above_1 n = omega arith

above_2 : (n : ℕ) → n / 256 % 256 + 256 * (n / 65536) ≡ n / 256
above_2 n = omega arith

above_3 : (n : ℕ) → n / 65536 % 256 + 256 * (n / 16777216) ≡ n / 65536
above_3 n = omega arith

above_4 : (n : ℕ) → n / 16777216 % 256 + 256 * (n / 4294967296) ≡ n / 16777216
above_4 n = omega arith

above_5 : (n : ℕ) → n / 4294967296 % 256 + 256 * (n / 1099511627776) ≡ n / 4294967296
above_5 n = omega arith

above_6 : (n : ℕ) → n / 1099511627776 % 256 + 256 * (n / 281474976710656) ≡ n / 1099511627776
above_6 n = omega arith

above_7 : (n : ℕ) → n / 281474976710656 % 256 + 256 * (n / 72057594037927936) ≡ n / 281474976710656
above_7 n = omega arith

top_byte : (n : ℕ) → n < 18446744073709551616 → n / 72057594037927936 % 256 ≡ n / 72057594037927936
top_byte n h = omega arith

pub count_back : (r : Record) (n : ℕ) → n < 18446744073709551616 → count_at (pack r ++ count_bytes n) ≡ n
unfolding pack count_at count_bytes
count_back r n h = rw (top_byte n h, above_7 n, above_6 n, above_5 n, above_4 n, above_3 n, above_2 n) (above_1 n)

session_length : (r : Record) (n : ℕ) → length (pack r ++ count_bytes n) ≡ 40
unfolding pack count_bytes
session_length r n = refl

-- ---- a session comes back

pub opened_again : (s : Session) → s.cycles < 18446744073709551616 → opened (pack_session s) ≡ Some s
unfolding opened pack_session
opened_again s h =
    rw (session_length s.at s.cycles, take_at (pack s.at) (count_bytes s.cycles) 32 (pack_length s.at), found_again s.at, count_back s.at s.cycles h)

-- ---- bytes come back

lowest : (c n : ℕ) → c < 256 → (c + 256 * n) % 256 ≡ c
lowest c n h = omega arith

next : (c n : ℕ) → c < 256 → (c + 256 * n) / 256 ≡ n
next c n h = omega arith

alone : (c : ℕ) → c < 256 → c % 256 ≡ c
alone c h = omega arith

twice_2 : (n : ℕ) → n / 65536 ≡ n / 256 / 256
twice_2 n = omega arith

twice_3 : (n : ℕ) → n / 16777216 ≡ n / 65536 / 256
twice_3 n = omega arith

twice_4 : (n : ℕ) → n / 4294967296 ≡ n / 16777216 / 256
twice_4 n = omega arith

twice_5 : (n : ℕ) → n / 1099511627776 ≡ n / 4294967296 / 256
twice_5 n = omega arith

twice_6 : (n : ℕ) → n / 281474976710656 ≡ n / 1099511627776 / 256
twice_6 n = omega arith

twice_7 : (n : ℕ) → n / 72057594037927936 ≡ n / 281474976710656 / 256
twice_7 n = omega arith

-- the count of eight bytes has these bytes
module _ (c₀ c₁ c₂ c₃ c₄ c₅ c₆ c₇ : ℕ) (h₀ : c₀ < 256) (h₁ : c₁ < 256) (h₂ : c₂ < 256) (h₃ : c₃ < 256) (h₄ : c₄ < 256) (h₅ : c₅ < 256) (h₆ : c₆ < 256) (h₇ : c₇ < 256) where
  abbrev n₇ : ℕ
  n₇ = c₇

  abbrev n₆ : ℕ
  n₆ = c₆ + 256 * n₇

  abbrev n₅ : ℕ
  n₅ = c₅ + 256 * n₆

  abbrev n₄ : ℕ
  n₄ = c₄ + 256 * n₅

  abbrev n₃ : ℕ
  n₃ = c₃ + 256 * n₄

  abbrev n₂ : ℕ
  n₂ = c₂ + 256 * n₃

  abbrev n₁ : ℕ
  n₁ = c₁ + 256 * n₂

  abbrev n₀ : ℕ
  n₀ = c₀ + 256 * n₁

  up₁ : n₀ / 256 ≡ n₁
  up₁ = next c₀ n₁ h₀

  up₂ : n₀ / 65536 ≡ n₂
  up₂ = twice_2 n₀ ∙ ap (λ (n : ℕ). n / 256) up₁ ∙ next c₁ n₂ h₁

  up₃ : n₀ / 16777216 ≡ n₃
  up₃ = twice_3 n₀ ∙ ap (λ (n : ℕ). n / 256) up₂ ∙ next c₂ n₃ h₂

  up₄ : n₀ / 4294967296 ≡ n₄
  up₄ = twice_4 n₀ ∙ ap (λ (n : ℕ). n / 256) up₃ ∙ next c₃ n₄ h₃

  up₅ : n₀ / 1099511627776 ≡ n₅
  up₅ = twice_5 n₀ ∙ ap (λ (n : ℕ). n / 256) up₄ ∙ next c₄ n₅ h₄

  up₆ : n₀ / 281474976710656 ≡ n₆
  up₆ = twice_6 n₀ ∙ ap (λ (n : ℕ). n / 256) up₅ ∙ next c₅ n₆ h₅

  up₇ : n₀ / 72057594037927936 ≡ n₇
  up₇ = twice_7 n₀ ∙ ap (λ (n : ℕ). n / 256) up₆ ∙ next c₆ n₇ h₆

  count_again : count_bytes n₀ ≡ c₀ ∷ c₁ ∷ c₂ ∷ c₃ ∷ c₄ ∷ c₅ ∷ c₆ ∷ c₇ ∷ []
  unfolding count_bytes
  count_again = λ i.
      lowest c₀ n₁ h₀ i
      ∷ (ap (λ (n : ℕ). n % 256) up₁ ∙ lowest c₁ n₂ h₁) i
      ∷ (ap (λ (n : ℕ). n % 256) up₂ ∙ lowest c₂ n₃ h₂) i
      ∷ (ap (λ (n : ℕ). n % 256) up₃ ∙ lowest c₃ n₄ h₃) i
      ∷ (ap (λ (n : ℕ). n % 256) up₄ ∙ lowest c₄ n₅ h₄) i
      ∷ (ap (λ (n : ℕ). n % 256) up₅ ∙ lowest c₅ n₆ h₅) i
      ∷ (ap (λ (n : ℕ). n % 256) up₆ ∙ lowest c₆ n₇ h₆) i
      ∷ (ap (λ (n : ℕ). n % 256) up₇ ∙ alone c₇ h₇) i
      ∷ []

count_bytes_again : (b : List ℕ) → Bytes b → length b ≡ 40 → count_bytes (count_at b) ≡ drop 32 b
unfolding count_at
count_bytes_again b h l =
    count_again (byte_at b 32) (byte_at b 33) (byte_at b 34) (byte_at b 35) (byte_at b 36) (byte_at b 37) (byte_at b 38) (byte_at b 39)
    (h 32) (h 33) (h 34) (h 35) (h 36) (h 37) (h 38) (h 39)
    ∙ from_drop 8 32 b l

taken_bytes : (n : ℕ) (b : List ℕ) → Bytes b → Bytes (take n b)
taken_bytes zero b h k = omega arith
taken_bytes (suc n) [] h k = omega arith
taken_bytes (suc n) (x ∷ b) h zero = h 0
taken_bytes (suc n) (x ∷ b) h (suc k) = taken_bytes n b (λ j. h (suc j)) k

opened_parts : (u : Option Record) (n : ℕ) (s : Session) → opened_by u n ≡ Some s → (u ≡ Some s.at) × (n ≡ s.cycles)
opened_parts (Some r) n s h =
    let e : session_at r n ≡ s = cc in
    (ap (λ (z : Session). Some z.at) e, ap (λ (z : Session). z.cycles) e)
opened_parts None n s h = let z : ◌≡◌ {A = ℕ} 0 1 = cc in absurd (omega arith)

pub same_session : (b : List ℕ) (s : Session) → Bytes b → opened b ≡ Some s → pack_session s ≡ b
unfolding pack_session opened
same_session b s h e =
    let l = opened_size b s e in
    let p = opened_parts (unpacked (take 32 b)) (count_at b) s (rw (eq-eqb (length b) 40 l) at e) in
    rw (same_bytes (take 32 b) s.at (taken_bytes 32 b h) p.0, ← p.1, count_bytes_again b h l) (take-append-drop 32 b)

-- ---- a refused cycle leaves every byte

module _ (b : List ℕ) (s : Session) (h : Bytes b) (e : opened b ≡ Some s) where
  pub answer_still : (byte : ℕ) → ((answered_to s byte).refusal ≡ None → ⊥)
      → session_answer b byte ≡ record { number = number_in (answered_to s byte).refusal; bytes = b }
  answer_still byte k = answer_good b byte (opened b) refl s e ∙ rw (refused_byte s byte k, same_session b s h e)

  pub cycle_still : (m : List ℕ) → ((cycled_over s m).refusal ≡ None → ⊥)
      → session_cycle b m ≡ record { number = number_in (cycled_over s m).refusal; bytes = b; mem = m }
  cycle_still m k =
      let f = refused_cycle s m k in
      cycle_good b m (opened b) refl s e ∙ rw (f.0, f.1, same_session b s h e)
