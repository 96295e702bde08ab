-- Reading numbers and bytes is the same wherever they begin.
use Rattle.std.proofs.Common.{◌≡◌, ℕ, ◌+◌, ◌≤◌, List, length, Result, Ok, Err, refl, ap, ◌∙◌, arith}
use Rattle.std.proofs.lemmas.List.{length-append}
use Rattle.dwz_model.specs.declared.fault.Fault.{Fault}
use Rattle.dwz_bytes.specs.declared.error.ByteErr.{ByteErr}
use Rattle.dwz_bytes.specs.Input.{Input}
use Rattle.dwz_bytes.specs.Reading.{fixed_at, sleb_at, take_at, uleb_at}
use Rattle.dwz_def_reading.specs.Exprs.{or_fault}
use Rattle.dwz_def_reading.proofs.FieldLemmas.{bytes_agree}
use Rattle.dwz_def_reading.proofs.ReadLemmas.{Reads, fixed_reads, run_reads, sleb_reads, uleb_reads}
use Rattle.dwz_expr.specs.Gathering.{shift}

abbrev pub shifted : {X : Type 0} → ℕ → Result (X × Input) Fault → Result (X × Input) Fault
shifted start (Ok x) = Ok (x.0, shift start x.1)
shifted start (Err f) = Err f

shift_read : {X : Type 0} {Spells : List ℕ → X → Type 0} {IsCut IsBig : List ℕ → Type 0} {read : Input → Result (X × Input) ByteErr} → Reads Spells IsCut IsBig read
    → (bad : Fault) (start : ℕ) (i : Input)
    → or_fault bad (read (shift start i)) ≡ shifted start (or_fault bad (read i))
shift_read {X} {Spells} {IsCut} {IsBig} {read} r bad start i = by (or_fault bad (read i)) refl where
  by : (o : Result (X × Input) Fault) → or_fault bad (read i) ≡ o → or_fault bad (read (shift start i)) ≡ shifted start o
  by (Ok x) is =
      let t = ((bytes_agree r bad i).ok x).0 is in
      ((bytes_agree r bad (shift start i)).ok (x.0, shift start x.1)).1 (record { front = t.front; spelled = t.spelled; parts = t.parts; place = let at = t.place in omega (arith, at) })
  by (Err f) is =
      let h = ((bytes_agree r bad i).err f).0 is in
      ((bytes_agree r bad (shift start i)).err f).1 h

pub uleb_shifts : (bad : Fault) (start : ℕ) (i : Input) → or_fault bad (uleb_at (shift start i)) ≡ shifted start (or_fault bad (uleb_at i))
uleb_shifts = shift_read uleb_reads

pub sleb_shifts : (bad : Fault) (start : ℕ) (i : Input) → or_fault bad (sleb_at (shift start i)) ≡ shifted start (or_fault bad (sleb_at i))
sleb_shifts = shift_read sleb_reads

pub fixed_shifts : (k : ℕ) (bad : Fault) (start : ℕ) (i : Input) → or_fault bad (fixed_at k (shift start i)) ≡ shifted start (or_fault bad (fixed_at k i))
fixed_shifts k = shift_read (fixed_reads k)

pub take_shifts : (n : ℕ) (bad : Fault) (start : ℕ) (i : Input) → or_fault bad (take_at n (shift start i)) ≡ shifted start (or_fault bad (take_at n i))
take_shifts n = shift_read (run_reads n)

-- ---- after a call on a cursor

-- a call that gave a number or bytes, or an error in whose place there is one fault
pub answered : {X : Type 0} (read shifted_read : Result (X × Input) ByteErr) (start : ℕ) (bad : Fault) (x : X) (new : Input) → or_fault bad shifted_read ≡ shifted start (or_fault bad read)
    → read ≡ Ok (x, new) → or_fault bad shifted_read ≡ Ok (x, shift start new)
answered {X} read shifted_read start bad x new same is = same ∙ ap (λ (r : Result (X × Input) ByteErr). shifted start (or_fault bad r)) is

pub failed : {X : Type 0} (read shifted_read : Result (X × Input) ByteErr) (start : ℕ) (bad : Fault) (e : ByteErr) → or_fault bad shifted_read ≡ shifted start (or_fault bad read) → read ≡ Err e
    → or_fault bad shifted_read ≡ Err bad
failed {X} read shifted_read start bad e same is = same ∙ ap (λ (r : Result (X × Input) ByteErr). shifted start (or_fault bad r)) is

-- a LEB128 number has ten bytes at most
pub uleb_order : (bad : Fault) (i : Input) (n : ℕ) (j : Input) → or_fault bad (uleb_at i) ≡ Ok (n, j) → i.at ≤ j.at
uleb_order bad i n j is = let t = ((bytes_agree uleb_reads bad i).ok (n, j)).0 is in let at = t.place in omega (arith, at)

pub uleb_few : (bad : Fault) (i : Input) (n : ℕ) (j : Input) → or_fault bad (uleb_at i) ≡ Ok (n, j) → j.at ≤ i.at + 10
uleb_few bad i n j is = let t = ((bytes_agree uleb_reads bad i).ok (n, j)).0 is in let at = t.place in let len = t.spelled.len in omega (arith, at, len)

-- a number leaves the end of the bytes where it was
pub uleb_end : (bad : Fault) (i : Input) (n : ℕ) (j : Input) → or_fault bad (uleb_at i) ≡ Ok (n, j) → j.at + length j.rest ≡ i.at + length i.rest
uleb_end bad i n j is = let t = ((bytes_agree uleb_reads bad i).ok (n, j)).0 is in let at = t.place in omega (arith, at, ap length t.parts, length-append t.front j.rest)
