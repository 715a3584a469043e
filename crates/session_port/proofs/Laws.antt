-- What the session functions come to, by what the bytes are found to be.
use Prim.Native.Nat.{ℕ, ◌+◌}
use Rattle.std.proofs.Common.{Option, Some, None}
use mathlib.Core.Path.{◌≡◌, refl, ◌∙◌}
use mathlib.Core.Bool.{Bool, true, false}
use mathlib.Core.List.{List}
use native.Mathlib.Omega.{arith}
use borrow.Author.Tests.{eqb-true}
use lib.Dec.{eqb}
use lib.ListN.{length, take}
use Rattle.words.specs.Words.{pick}
use Rattle.cpu.specs.Record.{number_of, number_in}
use Rattle.cpu.specs.declared.types.Refusal.TheVariants.{Memory, Malformed}
use Rattle.run.specs.Runs.{size}
use Rattle.session.specs.Sessions.{answered_to, cycled_over, memory_over}
use Rattle.session.specs.declared.types.Session.{Session}
use Rattle.packed.specs.Packed.{pack, placed, unpacked}
use Rattle.packed.proofs.Laws.{placed_both}
use Rattle.packed.proofs.RoundTrip.{pack_length}
use Rattle.session_port.specs.Port.{count_at, count_bytes, pack_session, opened_by, opened, session_answer, session_cycle}

-- ---- bytes that are a session

picked_good : (t : Bool) (o : Option Session) (s : Session) → pick t o None ≡ Some s → t ≡ true
picked_good true o s h = refl
picked_good false o s h = let z : ◌≡◌ {A = ℕ} 0 1 = cc in absurd (omega arith)

pub opened_size : (b : List ℕ) (s : Session) → opened b ≡ Some s → length b ≡ 40
unfolding opened
opened_size b s h = eqb-true (length b) 40 (picked_good (eqb (length b) 40) (opened_by (unpacked (take 32 b)) (count_at b)) s h)

-- ---- another session in their place

count_length : (n : ℕ) → length (count_bytes n) ≡ 8
unfolding count_bytes
count_length n = refl

pub put_both : (b b₁ b₂ x y : List ℕ) (s : Session) → length b ≡ 40 → x ≡ pack s.at → y ≡ count_bytes s.cycles
    → b₁ ≡ placed b 0 x → b₂ ≡ placed b₁ 32 y → b₂ ≡ pack_session s
unfolding pack_session
put_both b b₁ b₂ x y s h e f g k =
    let l : length b ≡ 32 + length (count_bytes s.cycles) = h ∙ rw (count_length s.cycles) in
    rw (k, g, e, f) (placed_both (pack s.at) (count_bytes s.cycles) b 32 (pack_length s.at) l)

-- ---- a cycle

module _ (b : List ℕ) (byte : ℕ) (o : Option Session) (e : o ≡ opened b) where
  pub answer_bad : o ≡ None → session_answer b byte ≡ record { number = 4; bytes = b }
  unfolding session_answer
  answer_bad h = rw (← e, h)

  pub answer_good : (s : Session) → o ≡ Some s
      → session_answer b byte ≡ record { number = number_in (answered_to s byte).refusal; bytes = pack_session (answered_to s byte).session }
  unfolding session_answer
  answer_good s h = rw (← e, h)

module _ (b m : List ℕ) (o : Option Session) (e : o ≡ opened b) where
  pub cycle_bad : o ≡ None → session_cycle b m ≡ record { number = number_of (pick (eqb (length m) size) Malformed Memory); bytes = b; mem = m }
  unfolding session_cycle
  cycle_bad h = rw (← e, h)

  pub cycle_good : (s : Session) → o ≡ Some s
      → session_cycle b m ≡ record { number = number_in (cycled_over s m).refusal; bytes = pack_session (cycled_over s m).session; mem = memory_over s m }
  unfolding session_cycle
  cycle_good s h = rw (← e, h)
