-- One turn of each loop over a line's characters.
use Rattle.std.proofs.Common.{◌≡◌, ℕ, zero, suc, ◌+◌, ◌<◌, ◌≤◌, Bool, true, false, Option, Some, None, List, length, get_or, drop, sym, ◌∙◌, add-one, drop_of_length-le, drop-cons}
use Rattle.lines.specs.Text.{past_of, byte_at, is_at, same_from}
use Rattle.lines.specs.Form.{belongs, run_end, cycle_end, spanned, span_of}

-- ---- a part that stands in the text: p is the place of its next character, r what was found there

pub same_more : (t part : List ℕ) (at i p : ℕ) (r : Bool) → i < length part → p ≡ past_of at i → r ≡ is_at t p (get_or part i 0) → r ≡ true
    → same_from t at (i + 1) (drop (i + 1) part) ≡ same_from t at i (drop i part)
unfolding same_from
same_more t part at i p r h e f k =
    let g : is_at t (past_of at i) (get_or part i 0) ≡ true = rw (← e) (sym f ∙ k) in
    rw (add-one i, drop-cons part i 0 h, same_from, g)

pub same_not : (t part : List ℕ) (at i p : ℕ) (r : Bool) → i < length part → p ≡ past_of at i → r ≡ is_at t p (get_or part i 0) → r ≡ false
    → false ≡ same_from t at i (drop i part)
unfolding same_from
same_not t part at i p r h e f k =
    let g : is_at t (past_of at i) (get_or part i 0) ≡ false = rw (← e) (sym f ∙ k) in
    rw (drop-cons part i 0 h, same_from, g)

pub same_all : (t part : List ℕ) (at i : ℕ) → length part ≤ i → true ≡ same_from t at i (drop i part)
unfolding same_from
same_all t part at i h = rw (drop_of_length-le part h, same_from)

-- ---- a run of characters: b is the next one, r whether it belongs

pub run_on : (n m : ℕ) (t : List ℕ) (at low high b p : ℕ) (r : Bool) → n ≡ suc m → b ≡ byte_at t at → r ≡ belongs low high b → r ≡ true
    → p ≡ past_of at 1 → run_end m t p low high ≡ run_end n t at low high
unfolding run_end
run_on n m t at low high b p r h e f k q =
    let g : belongs low high (byte_at t at) ≡ true = rw (← e) (sym f ∙ k) in
    rw (h, q, run_end, g)

pub run_off : (n m : ℕ) (t : List ℕ) (at low high b : ℕ) (r : Bool) → n ≡ suc m → b ≡ byte_at t at → r ≡ belongs low high b → r ≡ false
    → at ≡ run_end n t at low high
unfolding run_end
run_off n m t at low high b r h e f k =
    let g : belongs low high (byte_at t at) ≡ false = rw (← e) (sym f ∙ k) in
    rw (h, run_end, g)

pub run_out : (n : ℕ) (t : List ℕ) (at low high : ℕ) → n ≡ zero → at ≡ run_end n t at low high
unfolding run_end
run_out n t at low high e = rw (e, run_end)

-- ---- cycles joined by `;`: c is where the next one ends, r whether another follows

pub span_bad : (n m : ℕ) (t : List ℕ) (from count : ℕ) (c : Option ℕ) → n ≡ suc m → c ≡ cycle_end t from → c ≡ None → None ≡ span_of n t from count
unfolding span_of
span_bad n m t from count c h f k = rw (h, span_of, ← f, k)

pub span_more : (n m : ℕ) (t : List ℕ) (from count e p : ℕ) (c : Option ℕ) (r : Bool) → n ≡ suc m → c ≡ cycle_end t from → c ≡ Some e
    → r ≡ is_at t e 59 → r ≡ true → p ≡ past_of e 1 → span_of m t p (count + 1) ≡ span_of n t from count
unfolding span_of
span_more n m t from count e p c r h f k a b q =
    let g : is_at t e 59 ≡ true = sym a ∙ b in
    rw (h, q, span_of, ← f, k, g)

pub span_end : (n m : ℕ) (t : List ℕ) (from count e : ℕ) (c : Option ℕ) (r : Bool) → n ≡ suc m → c ≡ cycle_end t from → c ≡ Some e
    → r ≡ is_at t e 59 → r ≡ false → Some (spanned e (count + 1)) ≡ span_of n t from count
unfolding span_of
span_end n m t from count e c r h f k a b =
    let g : is_at t e 59 ≡ false = sym a ∙ b in
    rw (h, span_of, ← f, k, g)

pub span_none : (n : ℕ) (t : List ℕ) (from count : ℕ) → n ≡ zero → None ≡ span_of n t from count
unfolding span_of
span_none n t from count e = rw (e, span_of)
