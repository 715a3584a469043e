-- What the parts of a turn say together.
use Prim.Native.Nat.{ℕ, ◌≤◌, ◌<◌}
use Rattle.std.proofs.Common.{Result, Ok, Err}
use mathlib.Core.Path.{◌≡◌, refl, sym, ◌∙◌, ap, subst}
use mathlib.Core.Bool.{Bool, true, false}
use mathlib.Core.List.{List}
use lib.Dec.{leb}
use lib.ListN.{length, get_or}
use borrow.Author.Tests.{le-leb, lt-leb}
use Rattle.words.specs.Words.{pick}
use Rattle.cpu.specs.declared.types.Record.{Record}
use Rattle.cpu.specs.declared.types.Request.{Request}
use Rattle.cpu.specs.declared.types.Kind.TheVariants as kind
use Rattle.cpu.specs.declared.types.Refusal.{Refusal}
use Rattle.cpu.specs.declared.types.Refusal.TheVariants.{Bank}
use Rattle.opcodes.specs.Opcodes.{decode_of}
use Rattle.opcodes.specs.declared.types.Operation.{Operation}
use Rattle.cycles.specs.declared.types.Micro.{Micro}
use Rattle.cycles.specs.declared.types.Micro.TheVariants.{Fetch, Held}
use Rattle.cycles.specs.declared.types.Ask as ask
use Rattle.cycles.specs.declared.types.Move.{Move}
use Rattle.cycles.specs.declared.types.Change.{Change}
use Rattle.cycles.specs.declared.types.To.{To}
use Rattle.bus.specs.Bus.{reads, here, ask_of}
use Rattle.act.specs.Act.{act_of}
use Rattle.step.specs.Cycle.{begun, asked_by, answered_by}
use Rattle.memory.specs.Turns.{bus_byte, crossed, answered, refusal_of, over, turn_by, store_of}

pub line_of : (q l : Request) (mem : List ℕ) (b : ℕ) → b ≡ bus_byte q mem → l ≡ crossed q b → l ≡ crossed q (bus_byte q mem)
line_of q l mem b e f = f ∙ ap (crossed q) e

pub went : (l l' : Request) (r : Record) (a a' : Result Record Refusal) → l ≡ l' → a ≡ a' → a ≡ Ok r → Ok (l, r) ≡ answered l' a'
went l l' r a a' e f g = ap (λ (k : Request). Ok (k, r)) e ∙ ap (answered l') (sym g ∙ f)

pub stopped : (l : Request) (n k : Refusal) (a a' : Result Record Refusal) → a ≡ a' → a ≡ Err n → k ≡ refusal_of a → Err k ≡ answered l a'
stopped l n k a a' f g h = ap Err (h ∙ ap refusal_of g) ∙ ap (answered l) (sym g ∙ f)

-- a line stays where its request was
pub still_inside : (q l : Request) (b n : ℕ) → l ≡ crossed q b → q.addr < n → l.addr < n
still_inside q l b n e h = subst (λ (k : Request). k.addr < n) (sym e) h

-- ---- by where the request lies
abbrev inside_by : Request → Micro → Record → List ℕ → Result (Request × Record) Refusal
inside_by q m r mem = answered (crossed q (bus_byte q mem)) (answered_by m r (bus_byte q mem))

outside : (q : Request) (m : Micro) (r : Record) (mem : List ℕ) → asked_by m r ≡ Ok q → length mem ≤ q.addr → Err Bank ≡ turn_by m r mem
outside q m r mem e h =
    sym (ap (λ (a : Result Request Refusal). over a m r mem) e ∙ ap (λ (t : Bool). pick t (Err Bank) (inside_by q m r mem)) (le-leb _ _ h))

inside : (q : Request) (m : Micro) (r : Record) (mem : List ℕ) → asked_by m r ≡ Ok q → q.addr < length mem → turn_by m r mem ≡ inside_by q m r mem
inside q m r mem e h = ap (λ (a : Result Request Refusal). over a m r mem) e ∙ ap (λ (t : Bool). pick t (Err Bank) (inside_by q m r mem)) (lt-leb _ _ h)

-- ---- the fetch
module _ (r : Record) (mem : List ℕ) (p : ℕ) (e : p ≡ here r) where
  pub fetch_outside : length mem ≤ p → Err Bank ≡ turn_by Fetch r mem
  fetch_outside h = outside (reads kind.Opcode (here r)) Fetch r mem refl (subst (λ (z : ℕ). length mem ≤ z) e h)

  module _ (h : p < length mem) (b : ℕ) (f : b ≡ get_or mem p 0) (a : Result Record Refusal) (g : a ≡ begun (decode_of b) r b) where
    heard : b ≡ bus_byte (reads kind.Opcode (here r)) mem
    heard = f ∙ ap (λ (z : ℕ). get_or mem z 0) e

    told : a ≡ answered_by Fetch r (bus_byte (reads kind.Opcode (here r)) mem)
    told = g ∙ ap (answered_by Fetch r) heard

    whole : turn_by Fetch r mem ≡ inside_by (reads kind.Opcode (here r)) Fetch r mem
    whole = inside (reads kind.Opcode (here r)) Fetch r mem refl (subst (λ (z : ℕ). z < length mem) e h)

    pub fetch_stop : (n k : Refusal) → a ≡ Err n → k ≡ refusal_of a → Err k ≡ turn_by Fetch r mem
    fetch_stop n k x y = stopped _ n k a _ told x y ∙ sym whole

    pub fetch_done : (q l : Request) (s : Record) → a ≡ Ok s → q ≡ reads kind.Opcode p → l ≡ crossed q b → Ok (l, s) ≡ turn_by Fetch r mem
    fetch_done q l s x y z =
        went l _ s a _ (z ∙ ap (λ (v : Request). crossed v b) (y ∙ ap (reads kind.Opcode) e) ∙ ap (crossed (reads kind.Opcode (here r))) heard) told x ∙ sym whole

-- it stores nothing
stores_none : (b : Bool) (l : Request) (a : Result Record Refusal) (mem : List ℕ) → l.write ≡ false → mem ≡ store_of (pick b (Err Bank) (answered l a)) mem
stores_none true l a mem h = refl
stores_none false l (Ok s) mem h = rw h
stores_none false l (Err n) mem h = refl

pub fetch_keeps : (r : Record) (mem : List ℕ) (t : Result (Request × Record) Refusal) → t ≡ turn_by Fetch r mem → mem ≡ store_of t mem
fetch_keeps r mem t e =
    stores_none (leb (length mem) (here r)) (crossed (reads kind.Opcode (here r)) (bus_byte (reads kind.Opcode (here r)) mem))
    (answered_by Fetch r (bus_byte (reads kind.Opcode (here r)) mem)) mem refl
    ∙ ap (λ (z : Result (Request × Record) Refusal). store_of z mem) (sym e)

-- ---- a held opcode's cycle
module _ (q : ask.Ask) (k : Move) (c : Change) (d : To) (o : Operation) (r : Record) (mem : List ℕ) (p : Request) (e : p ≡ ask_of q o r) where
  pub held_outside : length mem ≤ p.addr → Err Bank ≡ turn_by (Held q k c d o) r mem
  held_outside h = outside (ask_of q o r) (Held q k c d o) r mem refl (subst (λ (z : Request). length mem ≤ z.addr) e h)

  pub held_done : p.addr < length mem → (b : ℕ) (l : Request) (s : Record) → b ≡ bus_byte p mem → l ≡ crossed p b → s ≡ act_of k c d o r l.byte
      → Ok (l, s) ≡ turn_by (Held q k c d o) r mem
  held_done h b l s f g n =
      let byte : l.byte ≡ bus_byte (ask_of q o r) mem = ap (λ (z : Request). z.byte) g ∙ f ∙ ap (λ (z : Request). bus_byte z mem) e in
      went l (crossed (ask_of q o r) (bus_byte (ask_of q o r) mem)) s (Ok s) _
      (line_of p l mem b f g ∙ ap (λ (z : Request). crossed z (bus_byte z mem)) e)
      (ap Ok (n ∙ ap (act_of k c d o r) byte)) refl
      ∙ sym (inside (ask_of q o r) (Held q k c d o) r mem refl (subst (λ (z : Request). z.addr < length mem) e h))
