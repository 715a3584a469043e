-- A request's number has its fields apart: address, byte, kind and direction can be read off their bits.
use Prim.Native.Nat.{ℕ, ◌+◌, ◌*◌, ◌/◌, ◌%◌, ◌≤◌, ◌<◌}
use Rattle.cpu.specs.declared.types.Refusal.{Refusal}
use Rattle.std.proofs.Common.{Some, Result, Ok, Err}
use mathlib.Core.Path.{◌≡◌, sym, subst}
use mathlib.Core.Bool.{Bool, true, false, ◌||◌}
use mathlib.Core.List.{List}
use native.Mathlib.Omega.{arith}
use native.Mathlib.Nat.{add-zero}
use Rattle.words.specs.Words.{bit, low_of, high_of, word, inc, dec, sum16, at, sum24, page_one}
use Rattle.flags.specs.Flags.{weigh, byte_of}
use Rattle.flags.specs.declared.Flags.{Flags}
use Rattle.cpu.specs.Record.{regs_of, source_of, pulled}
use Rattle.cpu.specs.declared.types.Record.{Record}
use Rattle.cpu.specs.declared.types.Request.{Request}
use Rattle.cpu.specs.declared.types.Kind.{Kind}
use Rattle.cpu.specs.declared.types.Kind.TheVariants as kind
use Rattle.cpu.specs.declared.types.Reg.TheVariants.{A, X, Y}
use Rattle.cpu.specs.declared.types.Source.{Source}
use Rattle.cpu.specs.declared.types.Source.TheVariants as of
use Rattle.cpu.specs.declared.types.Stack.{Stack}
use Rattle.cpu.specs.declared.types.Stack.TheVariants.{Paged, Raw, Home}
use Rattle.opcodes.specs.Opcodes.{source_in}
use Rattle.opcodes.specs.declared.types.Operation.{Operation}
use Rattle.cycles.specs.declared.types.Micro.{Micro}
use Rattle.cycles.specs.declared.types.Micro.TheVariants.{Refuse, Fetch, Held}
use Rattle.cycles.specs.declared.types.Ask.{Ask}
use Rattle.cycles.specs.declared.types.Ask.TheVariants.{Program, Idle, IdleBack, IdleAfter, IdleStack, IdleHome, Opcode, Far, FarNext, Near, NearNext, NearThird, Table, TableNext, PullPaged, PullRaw, PullHome, StoreFar, StoreFarNext, StoreNear, StoreNearNext, PushLow, PushHigh, PushPcLow, PushPcHigh, PushDataLow, PushDataHigh, PushPbr, MoveRead, MoveWrite, MoveIdle}
use Rattle.bus.specs.Bus.{given, ask_of}
use Rattle.step.specs.Cycle.{micro_of, asked_by, request_of}
use Rattle.packed.specs.Packed.{unpack, unpacked, byte_at}
use Rattle.packed.proofs.RoundTrip.{good_record}
use Rattle.cpu.specs.Record.{kind_number}
use Rattle.step.specs.Answers.{asked_values}
use Rattle.numbers.specs.Numbers.{value_bits, asked_bits}
use Rattle.numbers.proofs.Bytes.{Bytes}
use Rattle.cycle_port.specs.Port.{request_number}

-- ---- the ranges of the code's types

pub record Ranged (r : Record) : Type 0 where
  pub a : r.a < 65536
  pub x : r.x < 65536
  pub y : r.y < 65536
  pub s : r.s < 65536
  pub d : r.d < 65536
  pub pc : r.pc < 65536
  pub pbr : r.pbr < 256
  pub dbr : r.dbr < 256
  pub tempaddr : r.tempaddr < 65536
  pub tempdata : r.tempdata < 65536
  pub tempbank : r.tempbank < 256

word_small : (l h : ℕ) → h < 256 → word l h < 65536
unfolding word
word_small l h k = omega arith

pub ranged : (b : List ℕ) → Bytes b → Ranged (unpack b)
unfolding unpack
ranged b h = record {
  a = word_small (byte_at b 4) (byte_at b 5) (h 5);
  x = word_small (byte_at b 6) (byte_at b 7) (h 7);
  y = word_small (byte_at b 8) (byte_at b 9) (h 9);
  s = word_small (byte_at b 10) (byte_at b 11) (h 11);
  d = word_small (byte_at b 12) (byte_at b 13) (h 13);
  pc = word_small (byte_at b 14) (byte_at b 15) (h 15);
  pbr = h 16;
  dbr = h 17;
  tempaddr = word_small (byte_at b 20) (byte_at b 21) (h 21);
  tempdata = word_small (byte_at b 22) (byte_at b 23) (h 23);
  tempbank = h 24;
}

-- ---- addresses

at_small : (b p : ℕ) → b < 256 → p < 65536 → at b p < 16777216
unfolding at
at_small b p h k = omega arith

zero_small : (p : ℕ) → p < 65536 → at 0 p < 16777216
zero_small p k = at_small 0 p (omega arith) k

inc_small : (p : ℕ) → inc p < 65536
unfolding inc
inc_small p = omega arith

dec_small : (p : ℕ) → dec p < 65536
unfolding dec
dec_small p = omega arith

sum_small : (p q : ℕ) → sum16 p q < 65536
unfolding sum16
sum_small p q = omega arith

far_small : (p k : ℕ) → sum24 p k < 16777216
unfolding sum24
far_small p k = omega arith

page_small : (e : Bool) (s : ℕ) → s < 65536 → page_one e s < 65536
unfolding page_one
page_small true s h = omega arith
page_small false s h = h

pull_small : (k : Stack) (e : Bool) (s : ℕ) → pulled k e s < 65536
unfolding pulled
pull_small Paged e s = page_small e (inc s) (inc_small s)
pull_small Raw e s = inc_small s
pull_small Home e s = inc_small (page_one e s)

low_small : (w : ℕ) → low_of w < 256
low_small w = omega arith

addr_small : (q : Ask) (o : Operation) (r : Record) → Ranged r → (ask_of q o r).addr < 16777216
addr_small Program o r h = at_small _ _ h.pbr h.pc
addr_small Idle o r h = at_small _ _ h.pbr h.pc
addr_small IdleBack o r h = at_small _ _ h.pbr (dec_small r.pc)
addr_small IdleAfter o r h = at_small _ _ h.pbr h.tempdata
addr_small IdleStack o r h = zero_small _ (inc_small r.s)
addr_small IdleHome o r h = zero_small _ (page_small r.flags.emulation r.s h.s)
addr_small Opcode o r h = at_small _ _ h.pbr h.pc
addr_small Far o r h = at_small _ _ h.dbr h.tempaddr
addr_small FarNext o r h = far_small _ 1
addr_small Near o r h = zero_small _ h.tempaddr
addr_small NearNext o r h = zero_small _ (inc_small r.tempaddr)
addr_small NearThird o r h = zero_small _ (inc_small (inc r.tempaddr))
addr_small Table o r h = at_small _ _ h.pbr (sum_small r.tempaddr r.x)
addr_small TableNext o r h = at_small _ _ h.pbr (inc_small (sum16 r.tempaddr r.x))
addr_small PullPaged o r h = zero_small _ (pull_small Paged r.flags.emulation r.s)
addr_small PullRaw o r h = zero_small _ (pull_small Raw r.flags.emulation r.s)
addr_small PullHome o r h = zero_small _ (pull_small Home r.flags.emulation r.s)
addr_small StoreFar o r h = at_small _ _ h.dbr h.tempaddr
addr_small StoreFarNext o r h = far_small _ 1
addr_small StoreNear o r h = zero_small _ h.tempaddr
addr_small StoreNearNext o r h = zero_small _ (inc_small r.tempaddr)
addr_small PushLow o r h = zero_small _ h.s
addr_small PushHigh o r h = zero_small _ h.s
addr_small PushPcLow o r h = zero_small _ h.s
addr_small PushPcHigh o r h = zero_small _ h.s
addr_small PushDataLow o r h = zero_small _ h.s
addr_small PushDataHigh o r h = zero_small _ h.s
addr_small PushPbr o r h = zero_small _ h.s
addr_small MoveRead o r h = at_small _ _ (low_small r.tempaddr) h.x
addr_small MoveWrite o r h = at_small _ _ h.tempbank h.y
addr_small MoveIdle o r h = at_small _ _ h.tempbank h.y

-- ---- bytes

high_small : (w : ℕ) → w < 65536 → high_of w < 256
high_small w h = omega arith

weigh_small : (t : Bool) (w : ℕ) → weigh t w ≤ w
weigh_small true w = omega arith
weigh_small false w = omega arith

status_small : (f : Flags) → byte_of f < 65536
unfolding byte_of
status_small f =
    omega (
      arith,
      weigh_small f.carry 1,
      weigh_small f.zero 2,
      weigh_small f.interruptdisable 4,
      weigh_small f.decimal 8,
      weigh_small (f.emulation || f.indexsel) 16,
      weigh_small (f.emulation || f.memsel) 32,
      weigh_small f.overflow 64,
      weigh_small f.negative 128,
    )

source_small : (k : Source) (r : Record) → Ranged r → source_of k (regs_of r) r.pbr r.dbr < 65536
source_small (of.Register A) r h = h.a
source_small (of.Register X) r h = h.x
source_small (of.Register Y) r h = h.y
source_small of.Zero r h = omega arith
source_small of.D r h = h.d
source_small of.P r h = status_small r.flags
source_small of.Pbr r h = omega (arith, h.pbr)
source_small of.Dbr r h = omega (arith, h.dbr)

given_small : (o : Operation) (r : Record) → Ranged r → given o r < 65536
given_small o r h = source_small (source_in o) r h

byte_small : (q : Ask) (o : Operation) (r : Record) → Ranged r → (ask_of q o r).byte < 256
byte_small StoreFar o r h = low_small _
byte_small StoreFarNext o r h = high_small _ (given_small o r h)
byte_small StoreNear o r h = low_small _
byte_small StoreNearNext o r h = high_small _ (given_small o r h)
byte_small PushLow o r h = low_small _
byte_small PushHigh o r h = high_small _ (given_small o r h)
byte_small PushPcLow o r h = low_small _
byte_small PushPcHigh o r h = high_small _ h.pc
byte_small PushDataLow o r h = low_small _
byte_small PushDataHigh o r h = high_small _ h.tempdata
byte_small PushPbr o r h = h.pbr
byte_small MoveWrite o r h = low_small _
byte_small Program o r h = omega arith
byte_small Idle o r h = omega arith
byte_small IdleBack o r h = omega arith
byte_small IdleAfter o r h = omega arith
byte_small IdleStack o r h = omega arith
byte_small IdleHome o r h = omega arith
byte_small Opcode o r h = omega arith
byte_small Far o r h = omega arith
byte_small FarNext o r h = omega arith
byte_small Near o r h = omega arith
byte_small NearNext o r h = omega arith
byte_small NearThird o r h = omega arith
byte_small Table o r h = omega arith
byte_small TableNext o r h = omega arith
byte_small PullPaged o r h = omega arith
byte_small PullRaw o r h = omega arith
byte_small PullHome o r h = omega arith
byte_small MoveRead o r h = omega arith
byte_small MoveIdle o r h = omega arith

-- ---- what a record asks

abbrev Small : Result Request Refusal → Type 0
Small (Ok q) = (q.addr < 16777216) × (q.byte < 256)
Small (Err n) = Unit

asked_small : (m : Micro) (r : Record) → Ranged r → Small (asked_by m r)
asked_small (Refuse n) r h = tt
asked_small Fetch r h = (at_small _ _ h.pbr h.pc, omega arith)
asked_small (Held q m c t o) r h = (addr_small q o r h, byte_small q o r h)

-- ---- the fields of its number

pub record Fields (q : Request) (n : ℕ) : Type 0 where
  pub addr : n % 16777216 ≡ q.addr
  pub byte : n / 16777216 % 256 ≡ q.byte
  pub kind : n / 4294967296 % 256 ≡ kind_number q.kind
  pub write : n / 1099511627776 ≡ bit q.write

kind_small : (k : Kind) → kind_number k < 4
kind_small kind.Opcode = omega arith
kind_small kind.Program = omega arith
kind_small kind.Data = omega arith
kind_small kind.Invalid = omega arith

bit_small : (t : Bool) → bit t < 2
bit_small true = omega arith
bit_small false = omega arith

module _ (a b k w : ℕ) (ha : a < 16777216) (hb : b < 256) (hk : k < 4) (hw : w < 2) where
  first : (a + b * 16777216 + k * 4294967296 + w * 1099511627776) % 16777216 ≡ a
  first = omega arith

  second : (a + b * 16777216 + k * 4294967296 + w * 1099511627776) / 16777216 % 256 ≡ b
  second = omega arith

  third : (a + b * 16777216 + k * 4294967296 + w * 1099511627776) / 4294967296 % 256 ≡ k
  third = omega arith

  fourth : (a + b * 16777216 + k * 4294967296 + w * 1099511627776) / 1099511627776 ≡ w
  fourth = omega arith

fields : (q : Request) → q.addr < 16777216 → q.byte < 256 → Fields q (asked_bits (Ok q))
fields q h g =
    let k = kind_small q.kind in
    let w = bit_small q.write in
    subst (Fields q) (sym (add-zero (value_bits (asked_values (Ok q))))) (record {
      addr = first q.addr q.byte (kind_number q.kind) (bit q.write) h g k w;
      byte = second q.addr q.byte (kind_number q.kind) (bit q.write) h g k w;
      kind = third q.addr q.byte (kind_number q.kind) (bit q.write) h g k w;
      write = fourth q.addr q.byte (kind_number q.kind) (bit q.write) h g k w;
    })

-- whatever bytes a packed record has, what it asks stands in the number
pub request_fields : (b : List ℕ) (r : Record) (q : Request) → Bytes b → unpacked b ≡ Some r → request_of r ≡ Ok q → Fields q (request_number b)
unfolding request_number request_of
request_fields b r q h e f =
    let g : Ranged r = subst Ranged (sym (good_record b r e)) (ranged b h) in
    let s : Small (Ok q) = subst Small f (asked_small (micro_of r) r g) in
    rw (e, f) (fields q s.0 s.1)
