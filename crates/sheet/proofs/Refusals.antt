-- Refusals 4, 5 and 6 are given exactly when document 01 says.
use Prim.Native.Nat.{ℕ, zero, suc, ◌≤◌}
use Rattle.cpu.specs.declared.types.Request.{Request}
use Rattle.std.proofs.Common.{Option, Some, None, Result, Ok, Err}
use native.Mathlib.Omega.{arith}
use mathlib.Core.Path.{◌≡◌, refl, ap, sym, subst, ◌∙◌}
use mathlib.Core.Logic.{◌↔◌, ◌⊎◌, inl, inr}
use mathlib.Core.Bool.{Bool, true, false, ◌&&◌}
use mathlib.Core.List.{List, [], ◌∷◌}
use lib.Dec.{leb, ltb, leb-zero, leb-suc-zero, leb-suc-suc}
use lib.ListN.{length, get_or}
use Rattle.words.specs.Words.{pick}
use Rattle.flags.specs.declared.Flags.{Flags}
use Rattle.cpu.specs.Record.{number_of, well_formed}
use Rattle.cpu.specs.declared.types.Record.{Record}
use Rattle.cpu.specs.declared.types.Refusal.{Refusal}
use Rattle.cpu.specs.declared.types.Refusal.TheVariants.{Memory, Budget, Room, Malformed, Unlisted, NoCycle, Bank}
use Rattle.opcodes.specs.Opcodes.{decode_of, wide_of}
use Rattle.opcodes.specs.declared.types.Operation.{Operation}
use Rattle.opcodes.specs.declared.types.Shape.{Shape}
use Rattle.opcodes.specs.declared.types.Shape.TheVariants.{Immediate, Absolute, Direct, StoreAbsolute, StoreDirect, Implied, Xba, Mask, Wdm, Push, Pull, PullP, PullB, PullD, Pea, Pei, Per, Jump, JumpLong, JumpIndirect, JumpIndirectLong, JumpIndexed, Call, CallIndexed, CallLong, Return, ReturnLong, Branch, BranchLong, Move}
use Rattle.cycles.specs.Cycles.{cycles_of, phase_of, unaligned, carrying, held_micro}
use Rattle.cycles.specs.declared.types.Cycle.{Cycle}
use Rattle.cycles.specs.declared.types.Micro.{Micro}
use Rattle.cycles.specs.declared.types.Micro.TheVariants.{Refuse, Fetch, Held}
use Rattle.step.specs.Cycle.{micro_of, begun, asked_by, answered_by, request_of, answer_of}
use Rattle.sheet.specs.Exists.{first_of, longest_of, existing, has_cycle, Given, GivenLast, held_refusal, refusal_of, fetch_refusal, or_else, refusal_at, no_of, refused_of}
use Rattle.sheet.proofs.Walk.{false_true}

-- ---- a list of cycles ends where they do
abbrev present : Option Cycle → Bool
present None = false
present (Some c) = true

abbrev all_present : List (Option Cycle) → Bool
all_present [] = true
all_present (None ∷ cs) = false
all_present (Some c ∷ cs) = all_present cs

in_list : (cs : List (Option Cycle)) (n : ℕ) → all_present cs ≡ true → present (get_or cs n None) ≡ ltb n (length cs)
in_list [] n h = rw (leb-suc-zero n)
in_list (None ∷ cs) n h = absurd (false_true h)
in_list (Some c ∷ cs) zero h = rw (leb-suc-suc 0 (length cs), leb-zero (length cs))
in_list (Some c ∷ cs) (suc n) h = rw (leb-suc-suc (suc n) (length cs)) (in_list cs n h)

-- a list of cycles with its first one's number, 0 or 1, and their number with the fetch
data Spans : (first count : ℕ) → List (Option Cycle) → Type 0 where
  whole : {cs : List (Option Cycle)} → all_present cs ≡ true → Spans 0 (length cs) cs
  later : {cs : List (Option Cycle)} → all_present cs ≡ true → Spans 1 (suc (length cs)) (None ∷ cs)

span_present : {first count : ℕ} {cs : List (Option Cycle)} → Spans first count cs → (n : ℕ) → present (get_or cs n None) ≡ (leb first n && ltb n count)
span_present (whole {cs} h) n = rw (leb-zero n) (in_list cs n h)
span_present (later {cs} h) zero = refl
span_present (later {cs} h) (suc n) = rw (leb-suc-suc 0 n, leb-zero n, leb-suc-suc (suc n) (length cs)) (in_list cs n h)

-- each shape's list has the cycles that the table counts
spans : (s : Shape) (w d e : Bool) → Spans (first_of s) (longest_of s w d e) (cycles_of s w d e)
spans Immediate true d e = later refl
spans Immediate false d e = later refl
spans Direct true true e = later refl
spans Direct true false e = later refl
spans Direct false true e = later refl
spans Direct false false e = later refl
spans StoreDirect true true e = later refl
spans StoreDirect true false e = later refl
spans StoreDirect false true e = later refl
spans StoreDirect false false e = later refl
spans Absolute true d e = later refl
spans Absolute false d e = later refl
spans StoreAbsolute true d e = later refl
spans StoreAbsolute false d e = later refl
spans Implied w d e = later refl
spans Xba w d e = later refl
spans Mask w d e = later refl
spans Wdm w d e = later refl
spans Push true d e = later refl
spans Push false d e = later refl
spans Pull true d e = later refl
spans Pull false d e = later refl
spans PullP w d e = later refl
spans PullB w d e = later refl
spans PullD w d e = later refl
spans Pea w d e = later refl
spans Pei w true e = later refl
spans Pei w false e = later refl
spans Per w d e = later refl
spans Jump w d e = later refl
spans JumpLong w d e = later refl
spans JumpIndirect w d e = later refl
spans JumpIndexed w d e = later refl
spans JumpIndirectLong w d e = later refl
spans Call w d e = later refl
spans CallIndexed w d e = later refl
spans CallLong w d e = later refl
spans Return w d e = later refl
spans ReturnLong w d e = later refl
spans BranchLong w d e = later refl
spans Branch w d true = later refl
spans Branch w d false = later refl
spans Move w d e = whole refl

-- ---- refusal 6: a cycle is absent where it doesn't exist, and nowhere else
phase_present : (s : Shape) (w d e : Bool) (tcu : ℕ) → present (phase_of s w d e tcu) ≡ existing s w d e tcu
phase_present s w d e tcu = span_present (spans s w d e) tcu

absent_is : (x : Option Cycle) → present x ≡ false → x ≡ None
absent_is None e = refl
absent_is (Some c) e = absurd (false_true (sym e))

-- The cycles that a shape's list hasn't are those that don't exist by the table.
pub exists_exactly : (s : Shape) (w d e : Bool) (tcu : ℕ) → (phase_of s w d e tcu ≡ None) ↔ (existing s w d e tcu ≡ false)
exists_exactly s w d e tcu = (
  λ i. sym (phase_present s w d e tcu) ∙ ap present i,
  λ i. absent_is (phase_of s w d e tcu) (phase_present s w d e tcu ∙ i),
)

-- ---- the refusal that a micro-operation is, if it is one
abbrev refusal_by : Micro → Option Refusal
refusal_by (Refuse n) = Some n
refusal_by Fetch = None
refusal_by (Held q m c t o) = None

-- ---- the request
carrying_refuses : (o : Operation) (x : Option Cycle) → refusal_by (carrying o x) ≡ pick (present x) None (Some NoCycle)
carrying_refuses o None = refl
carrying_refuses o (Some c) = refl

held_refuses : (o : Option (Shape × Operation)) (f : Flags) (d tcu : ℕ) → refusal_by (held_micro o f d tcu) ≡ held_refusal o f d tcu
held_refuses None f d tcu = refl
held_refuses (Some (s, o)) f d tcu =
    let w : Bool = wide_of o f.memsel f.indexsel in
    carrying_refuses o (phase_of s w (unaligned d) f.emulation tcu)
    ∙ ap (λ (t : Bool). pick t None (Some NoCycle)) (phase_present s w (unaligned d) f.emulation tcu)

micro_refuses : (w h : Bool) (o : Option (Shape × Operation)) (f : Flags) (d tcu : ℕ)
    → refusal_by (pick w (pick h (held_micro o f d tcu) Fetch) (Refuse Malformed)) ≡ pick w (pick h (held_refusal o f d tcu) None) (Some Malformed)
micro_refuses false h o f d tcu = refl
micro_refuses true false o f d tcu = refl
micro_refuses true true o f d tcu = held_refuses o f d tcu

asked_refuses : (m : Micro) (r : Record) → no_of (asked_by m r) ≡ refusal_by m
asked_refuses (Refuse n) r = refl
asked_refuses Fetch r = refl
asked_refuses (Held q m c t o) r = refl

-- For any record: the request is refused exactly when document 01 says, by its number; else it is asked.
pub request_refuses : (r : Record) → no_of (request_of r) ≡ refusal_of r
unfolding request_of micro_of refusal_of
request_refuses r =
    asked_refuses (micro_of r) r ∙ micro_refuses (well_formed r) r.held (decode_of r.ir) r.flags r.d r.tcu

-- ---- the answer
carrying_answers : (o : Operation) (x : Option Cycle) (r : Record) (b : ℕ) → refused_of (answered_by (carrying o x) r b) ≡ refusal_by (carrying o x)
carrying_answers o None r b = refl
carrying_answers o (Some c) r b = refl

or_nothing : (o : Option Refusal) → or_else o None ≡ o
or_nothing None = refl
or_nothing (Some n) = refl

held_answers : (o : Option (Shape × Operation)) (r : Record) (b : ℕ)
    → refused_of (answered_by (held_micro o r.flags r.d r.tcu) r b) ≡ or_else (held_refusal o r.flags r.d r.tcu) None
held_answers None r b = refl
held_answers (Some (s, o)) r b =
    carrying_answers o (phase_of s (wide_of o r.flags.memsel r.flags.indexsel) (unaligned r.d) r.flags.emulation r.tcu) r b
    ∙ held_refuses (Some (s, o)) r.flags r.d r.tcu
    ∙ sym (or_nothing (held_refusal (Some (s, o)) r.flags r.d r.tcu))

begun_refuses : (o : Option (Shape × Operation)) (r : Record) (b : ℕ) → refused_of (begun o r b) ≡ fetch_refusal false o
begun_refuses None r b = refl
begun_refuses (Some (s, o)) r b = refl

micro_answers : (w h : Bool) (o : Option (Shape × Operation)) (r : Record) (b : ℕ)
    → refused_of (answered_by (pick w (pick h (held_micro o r.flags r.d r.tcu) Fetch) (Refuse Malformed)) r b)
    ≡ or_else (pick w (pick h (held_refusal o r.flags r.d r.tcu) None) (Some Malformed)) (fetch_refusal h (decode_of b))
micro_answers false h o r b = refl
micro_answers true false o r b = begun_refuses (decode_of b) r b
micro_answers true true o r b = held_answers o r b

-- For any record and byte: so is the answer, and last by 5 where the byte is fetched and isn't listed; else it is the next record.
pub answer_refuses : (r : Record) (b : ℕ) → refused_of (answer_of r b) ≡ refusal_at r b
unfolding answer_of micro_of refusal_at refusal_of
answer_refuses r b = micro_answers (well_formed r) r.held (decode_of r.ir) r b

-- ---- no other refusal
abbrev Numbered : Option Refusal → Type 0
Numbered None = Unit
Numbered (Some n) = (4 ≤ number_of n) × (number_of n ≤ 6)

exists_numbered : (t : Bool) → Numbered (pick t None (Some NoCycle))
exists_numbered true = tt
exists_numbered false = omega arith

refusal_numbered : (w h : Bool) (o : Option (Shape × Operation)) (f : Flags) (d tcu : ℕ) → Numbered (pick w (pick h (held_refusal o f d tcu) None) (Some Malformed))
refusal_numbered false h o f d tcu = omega arith
refusal_numbered true false o f d tcu = tt
refusal_numbered true true None f d tcu = omega arith
refusal_numbered true true (Some (s, o)) f d tcu = exists_numbered (has_cycle s o f d tcu)

fetch_numbered : (h : Bool) (o : Option (Shape × Operation)) → Numbered (fetch_refusal h o)
fetch_numbered true o = tt
fetch_numbered false None = omega arith
fetch_numbered false (Some (s, o)) = tt

either_numbered : (o q : Option Refusal) → Numbered o → Numbered q → Numbered (or_else o q)
either_numbered None q h k = k
either_numbered (Some n) q h k = h

-- A request is refused by 4, 5 or 6 alone, and so is an answer.
pub request_numbers : (r : Record) (n : Refusal) → request_of r ≡ Err n → (4 ≤ number_of n) × (number_of n ≤ 6)
unfolding refusal_of
request_numbers r n e =
    subst Numbered (sym (request_refuses r) ∙ ap no_of e)
    (refusal_numbered (well_formed r) r.held (decode_of r.ir) r.flags r.d r.tcu)

pub answer_numbers : (r : Record) (b : ℕ) (n : Refusal) → answer_of r b ≡ Err n → (4 ≤ number_of n) × (number_of n ≤ 6)
unfolding refusal_at refusal_of
answer_numbers r b n e =
    subst Numbered (sym (answer_refuses r b) ∙ ap refused_of e)
    (either_numbered (refusal_of r) (fetch_refusal r.held (decode_of b))
    (refusal_numbered (well_formed r) r.held (decode_of r.ir) r.flags r.d r.tcu)
    (fetch_numbered r.held (decode_of b)))

-- ---- each refusal by itself
no_is : (a : Result Request Refusal) (n : Refusal) → no_of a ≡ Some n → a ≡ Err n
no_is (Ok q) n e = cc
no_is (Err m) n e = cc

module _ (r : Record) where
  abbrev Told : Option Refusal → Type 0
  Told None = Unit
  Told (Some n) = Given n r

  given_cycle : (s : Shape) (o : Operation) (t : Bool) → well_formed r ≡ true → r.held ≡ true → decode_of r.ir ≡ Some (s, o)
      → has_cycle s o r.flags r.d r.tcu ≡ t → Told (pick t None (Some NoCycle))
  given_cycle s o true w h k t = tt
  given_cycle s o false w h k t = (w, h, (s, (o, (k, t))))

  told : Told (refusal_of r)
  unfolding refusal_of
  told = go (well_formed r) r.held (decode_of r.ir) refl refl refl
    where
      go : (w h : Bool) (o : Option (Shape × Operation)) → well_formed r ≡ w → r.held ≡ h → decode_of r.ir ≡ o
          → Told (pick w (pick h (held_refusal o r.flags r.d r.tcu) None) (Some Malformed))
      go false h o i j k = i
      go true false o i j k = tt
      go true true None i j k = (i, j, k)
      go true true (Some (s, o)) i j k = given_cycle s o _ i j k refl

  refusal_given : (n : Refusal) → Given n r → refusal_of r ≡ Some n
  unfolding refusal_of
  refusal_given Malformed w = rw w
  refusal_given Unlisted a = rw (a.0, a.1, a.2)
  refusal_given NoCycle a = rw (a.0, a.1, a.2.1.1.0, a.2.1.1.1)
  refusal_given Memory a = absurd a
  refusal_given Budget a = absurd a
  refusal_given Room a = absurd a
  refusal_given Bank a = absurd a

  -- Each refusal of a request is given exactly when document 01's table says.
  pub refused_exactly : (n : Refusal) → (request_of r ≡ Err n) ↔ Given n r
  refused_exactly n = (
    λ e. subst Told (sym (request_refuses r) ∙ ap no_of e) told,
    λ a. no_is (request_of r) n (request_refuses r ∙ refusal_given n a),
  )

refused_is : (a : Result Record Refusal) (n : Refusal) → refused_of a ≡ Some n → a ≡ Err n
refused_is (Ok r) n e = cc
refused_is (Err m) n e = cc

module _ (r : Record) (b : ℕ) where
  abbrev ToldAt : Option Refusal → Type 0
  ToldAt None = Unit
  ToldAt (Some n) = Given n r ⊎ GivenLast n r b

  told_first : (o q : Option Refusal) → Told r o → (o ≡ None → ToldAt q) → ToldAt (or_else o q)
  told_first None q h k = k refl
  told_first (Some n) q h k = inl h

  well_asked : refusal_of r ≡ None → well_formed r ≡ true
  unfolding refusal_of
  well_asked e = go (well_formed r) refl
    where
      go : (t : Bool) → well_formed r ≡ t → well_formed r ≡ true
      go true i = i
      go false i = let z : Some Malformed ≡ None = rw i at e in cc

  told_last : (h : Bool) (o : Option (Shape × Operation)) → well_formed r ≡ true → r.held ≡ h → decode_of b ≡ o → ToldAt (fetch_refusal h o)
  told_last true o w i k = tt
  told_last false None w i k = inr (w, i, k)
  told_last false (Some (s, o)) w i k = tt

  told_at : ToldAt (refusal_at r b)
  unfolding refusal_at
  told_at = told_first (refusal_of r) (fetch_refusal r.held (decode_of b)) (told r) (λ e. told_last r.held (decode_of b) (well_asked e) refl refl)

  refusal_last : (n : Refusal) → GivenLast n r b → refusal_at r b ≡ Some n
  unfolding refusal_at refusal_of
  refusal_last Unlisted a = rw (a.0, a.1, a.2)
  refusal_last Malformed a = absurd a
  refusal_last NoCycle a = absurd a
  refusal_last Memory a = absurd a
  refusal_last Budget a = absurd a
  refusal_last Room a = absurd a
  refusal_last Bank a = absurd a

  refusal_at_lem : (n : Refusal) → Given n r ⊎ GivenLast n r b → refusal_at r b ≡ Some n
  unfolding refusal_at
  refusal_at_lem n (inl a) = rw (refusal_given r n a)
  refusal_at_lem n (inr a) = refusal_last n a

  -- Each refusal of an answer likewise: as of the request, or last by 5 for a fetched byte.
  pub answered_exactly : (n : Refusal) → (answer_of r b ≡ Err n) ↔ (Given n r ⊎ GivenLast n r b)
  answered_exactly n = (
    λ e. subst ToldAt (sym (answer_refuses r b) ∙ ap refused_of e) told_at,
    λ a. refused_is (answer_of r b) n (answer_refuses r b ∙ refusal_at_lem n a),
  )
