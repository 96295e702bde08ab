-- An entry is found by its place where no place stands twice.
use Rattle.std.proofs.Common.{◌≡◌, ◌≢◌, ℕ, ◌+◌, Bool, true, false, List, [], ◌∷◌, ◌++◌, ◌==◌, length, Option, Some, None, refl, sym, ap, subst, ◌∙◌, inl, inr, eq-eqb}
use Rattle.std.specs.Prelude.{if◌then◌else◌, unwrap_or}
use Rattle.std.proofs.lemmas.Bool.{eqb-true}
use Rattle.dwz_def_reading.specs.Lists.{In, NoneTwice}
use Rattle.dwz_def_reading.proofs.ListFacts.{in_left, in_right}
use Rattle.dwz_def_reading.proofs.OnceLemmas.{none_both, none_left, none_right}
use Rattle.dwz_def_reading.specs.Entries.{RawEntry}
use Rattle.dwz_def_reading.specs.Files.{Limits, ReadsBy, debug_abbrev, debug_info, no_files_before}
use Rattle.dwz_def_reading.specs.Finished.{rule_of_common}
use Rattle.dwz_def_reading.specs.FirstOf.{of_first, ◌or◌}
use Rattle.dwz_def_reading.specs.Meanings.{Around, places_in, scope_of}
use Rattle.dwz_def_reading.specs.Documents.{Doc}
use Rattle.dwz_def_reading.specs.Places.{Place, at_file}
use Rattle.dwz_def_reading.specs.Rules.{ReadingRule}
use Rattle.dwz_def_reading.specs.Trees.{End, Entry, Forest}
use Rattle.dwz_def_reading.specs.Units.{RawUnit}
use Rattle.dwz_def_reading.proofs.PlacesRise.{all_raw_keys, raw_keys, rise_none, units_rise}
use Rattle.dwz_def_expand.specs.OneFile.{CommonReads, FileRead, IsStoredAmong, IsStoredIn, OneFile, ReadsOne, StoredAttr, around, attr_of, part, rule_for, stored_among, stored_attr, stored_in}

-- ---- an entry by its place

other : (a b : ℕ) → a ≢ b → (a == b) ≡ false
other a b ne = by (a == b) refl where
  by : (x : Bool) → (a == b) ≡ x → x ≡ false
  by true e = absurd (ne (eqb-true a b e))
  by false e = refl

stored_place : (e : RawEntry) (f : Forest RawEntry) → IsStoredAmong e f → In e.at (places_in f)
unfolding places_in
stored_place e End h = absurd h
stored_place e (Entry d c n) (inl x) = inl (ap (λ (w : RawEntry). w.at) x)
stored_place e (Entry d c n) (inr (inl a)) = inr (in_left e.at (places_in c) (places_in n) (stored_place e c a))
stored_place e (Entry d c n) (inr (inr b)) = inr (in_right e.at (places_in c) (places_in n) (stored_place e n b))

none_among : (at : ℕ) (f : Forest RawEntry) → ¬ In at (places_in f) → stored_among at f ≡ None
unfolding stored_among places_in
none_among at End h = refl
none_among at (Entry d c n) h =
    rw (other d.at at (λ e. h (inl e)), none_among at c (λ a. h (inr (in_left at (places_in c) (places_in n) a))), none_among at n (λ b. h (inr (in_right at (places_in c) (places_in n) b)))) refl

found_among : (e : RawEntry) (f : Forest RawEntry) → NoneTwice (places_in f) → IsStoredAmong e f → stored_among e.at f ≡ Some e
unfolding stored_among places_in
found_among e End once h = absurd h
found_among e (Entry d c n) once (inl x) = rw (eq-eqb d.at e.at (ap (λ (w : RawEntry). w.at) x)) (ap (λ (w : RawEntry). Some w) x)
found_among e (Entry d c n) once (inr (inl a)) =
    let place = stored_place e c a in
    rw (
      other d.at e.at (λ s. once.0 (subst (λ (p : ℕ). In p (places_in c ++ places_in n)) (sym s) (in_left e.at (places_in c) (places_in n) place))),
      found_among e c (none_left (places_in c) (places_in n) once.1) a,
    ) refl
found_among e (Entry d c n) once (inr (inr b)) =
    let place = stored_place e n b in
    rw (
      other d.at e.at (λ s. once.0 (subst (λ (p : ℕ). In p (places_in c ++ places_in n)) (sym s) (in_right e.at (places_in c) (places_in n) place))),
      none_among e.at c (λ a. none_both (places_in c) (places_in n) once.1 e.at a place),
      found_among e n (none_right (places_in c) (places_in n) once.1) b,
    ) refl

-- ---- in units

unit_place : (e : RawEntry) (u : RawUnit) → IsStoredIn e u → In e.at (raw_keys u)
unit_place e u (inl x) = inr (inl (ap (λ (w : RawEntry). w.at) x))
unit_place e u (inr r) = inr (inr (stored_place e u.below r))

none_in : (at : ℕ) (u : RawUnit) → ¬ In at (raw_keys u) → stored_in at u ≡ None
none_in at u h = rw (other u.root.at at (λ e. h (inr (inl e))), none_among at u.below (λ a. h (inr (inr a)))) refl

found_in : (e : RawEntry) (u : RawUnit) → NoneTwice (raw_keys u) → IsStoredIn e u → stored_in e.at u ≡ Some e
found_in e u once (inl x) = rw (eq-eqb u.root.at e.at (ap (λ (w : RawEntry). w.at) x)) (ap (λ (w : RawEntry). Some w) x)
found_in e u once (inr r) =
    rw (other u.root.at e.at (λ s. once.1.0 (subst (λ (p : ℕ). In p (places_in u.below)) (sym s) (stored_place e u.below r))), found_among e u.below once.1.1 r) refl

module _ (a : Around Place) (index : ℕ) where
  abbrev of_unit : ℕ → RawUnit → Option StoredAttr
  of_unit at u = attr_of (scope_of a u) index (stored_in at u)

  or_none : (o : Option StoredAttr) → (o or None) ≡ o
  or_none None = refl
  or_none (Some x) = refl

  none_units : (at : ℕ) (raw : List RawUnit) → ¬ In at (all_raw_keys raw) → of_first (of_unit at) raw ≡ None
  unfolding all_raw_keys
  none_units at [] h = refl
  none_units at (u ∷ raw) h =
      rw (none_in at u (λ x. h (in_left at (raw_keys u) (all_raw_keys raw) x)), none_units at raw (λ x. h (in_right at (raw_keys u) (all_raw_keys raw) x))) refl

  found_units : (raw : List RawUnit) → NoneTwice (all_raw_keys raw) → (u : RawUnit) (e : RawEntry) → In u raw → IsStoredIn e u
      → of_first (of_unit e.at) raw ≡ attr_of (scope_of a u) index (Some e)
  unfolding all_raw_keys
  found_units [] once u e there is = absurd there
  found_units (w ∷ raw) once u e (inl x) is =
      let own = subst (λ (y : RawUnit). IsStoredIn e y) (sym x) is in
      let none = none_units e.at raw (λ y. none_both (raw_keys w) (all_raw_keys raw) once e.at (unit_place e w own) y) in
      rw (found_in e w (none_left (raw_keys w) (all_raw_keys raw) once) own, none) (or_none (attr_of (scope_of a w) index (Some e)) ∙ ap (λ (y : RawUnit). attr_of (scope_of a y) index (Some e)) x)
  found_units (w ∷ raw) once u e (inr r) is =
      rw (none_in e.at w (λ y. none_both (raw_keys w) (all_raw_keys raw) once e.at y (key_there raw u e r is))) (found_units raw (none_right (raw_keys w) (all_raw_keys raw) once) u e r is)
    where
      key_there : (raw : List RawUnit) (u : RawUnit) (e : RawEntry) → In u raw → IsStoredIn e u → In e.at (all_raw_keys raw)
      key_there [] u e there is = absurd there
      key_there (v ∷ raw) u e (inl x) is = in_left e.at (raw_keys v) (all_raw_keys raw) (unit_place e v (subst (λ (y : RawUnit). IsStoredIn e y) (sym x) is))
      key_there (v ∷ raw) u e (inr r) is = in_right e.at (raw_keys v) (all_raw_keys raw) (key_there raw u e r is)

-- ---- of a file that reads

once_read : (rule : ReadingRule Place) (l : Limits) (bytes : List ℕ) (raw : List RawUnit) (doc : Doc Place) → ReadsBy rule l bytes raw doc → NoneTwice (all_raw_keys raw)
once_read rule l bytes raw doc reads =
    rise_none 0 (all_raw_keys raw) (0 + length (debug_info bytes)) (units_rise (debug_abbrev bytes) (rule.mode l.entries) 0 raw 0 (debug_info bytes) reads.spelled)

once_in : (f : OneFile) → ReadsOne f → (number : ℕ) → NoneTwice (all_raw_keys (part f number).raw)
once_in f reads number = by (number == 0) f.common reads.common where
  own : NoneTwice (all_raw_keys f.file.raw)
  own = once_read (rule_for f 0) _ f.file.bytes f.file.raw f.file.doc reads.file

  by : (b : Bool) (common : Option FileRead) → CommonReads common → NoneTwice (all_raw_keys (if b then f.file else unwrap_or common f.file).raw)
  by true common h = own
  by false None h = own
  by false (Some c) h = once_read (rule_of_common 1) no_files_before c.bytes c.raw c.doc h

pub attr_stored : (f : OneFile) → ReadsOne f → (number : ℕ) (u : RawUnit) (e : RawEntry) → In u (part f number).raw → IsStoredIn e u → (index : ℕ)
    → stored_attr f (at_file number e.at) index ≡ attr_of (scope_of (around f number) u) index (Some e)
unfolding stored_attr
attr_stored f reads number u e there is index = found_units (around f number) index (part f number).raw (once_in f reads number) u e there is
