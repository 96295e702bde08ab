-- The old units of a file among those of all files; and the names of all spaces.
use Rattle.std.proofs.Common.{◌≡◌, ℕ, suc, ◌+◌, Bool, true, false, List, [], ◌∷◌, ◌++◌, length, ◌==◌, Some, slice_get, refl, sym, ap, subst, ◌∙◌, arith}
use Rattle.std.proofs.lemmas.Bool.{eq-eqb, eqb-true}
use Rattle.dwz_def_reading.specs.Documents.{DwUnit, Node, unit_map}
use Rattle.dwz_def_reading.specs.Meanings.{IfSo}
use Rattle.dwz_def_reading.specs.Lists.{Each}
use Rattle.dwz_def_tops.specs.Spots.{EntryName, FileUnit, in_file}
use Rattle.dwz_def_images.specs.Moves.{Move}
use Rattle.dwz_layout.specs.declared.order.UnitItems.{UnitItems}
use Rattle.dwz_layout_order.specs.Orders.{Entered, KeptShown, ShowsKept}
use Rattle.dwz_layout_order.specs.Shown.{IsOther, KeptLaw, SaidIs, SaidLaw, named_units}
use Rattle.dwz_layout_order.specs.Spaces.{Numbered, name_in, said_of, spaces_of}
use Rattle.dwz_layout_order.proofs.FileShown.{EachKept, each_kept}

module _ (e : Entered) (m : Move) (all : List (FileUnit EntryName)) (file : ℕ) where
  skip_one : (f : FileUnit EntryName) (P Q : Type 0) → IsOther file f → Q → IfSo (f.file == file) P Q
  skip_one f P Q other q = by (f.file == file) refl where
    by : (b : Bool) → (f.file == file) ≡ b → IfSo b P Q
    by false is = q
    by true is = absurd (other (eqb-true f.file file is))

  skip : (i : ℕ) (before rest : List (FileUnit EntryName)) (order : List UnitItems) → Each (IsOther file) before → KeptShown e m all file (i + length before) rest order
      → KeptShown e m all file i (before ++ rest) order
  skip i [] rest order others h = (let none : i + 0 ≡ i = omega arith in subst (λ (k : ℕ). KeptShown e m all file k rest order) none h)
  skip i (f ∷ before) rest order others h =
      let next : i + suc (length before) ≡ suc i + length before = omega arith in
      skip_one f _ (KeptShown e m all file (suc i) (before ++ rest) order) others.0 (skip (suc i) before rest order others.1 (subst (λ (k : ℕ). KeptShown e m all file k rest order) next h))

  none_left : (i : ℕ) (after : List (FileUnit EntryName)) → Each (IsOther file) after → KeptShown e m all file i after []
  none_left i [] others = refl
  none_left i (f ∷ after) others = skip_one f _ (KeptShown e m all file (suc i) after []) others.0 (none_left (suc i) after others.1)

  take_one : (f : FileUnit EntryName) (P Q : Type 0) → f.file ≡ file → P → IfSo (f.file == file) P Q
  take_one f P Q own p = subst (λ (b : Bool). IfSo b P Q) (sym (eq-eqb f.file file own)) p

  mine : (i : ℕ) (name : ℕ → EntryName) (said : List (DwUnit ℕ)) (after : List (FileUnit EntryName)) (order : List UnitItems) → EachKept e m all i (named_units file name said) order
      → Each (IsOther file) after
      → KeptShown e m all file i (named_units file name said ++ after) order
  mine i name [] after [] h others = none_left i after others
  mine i name [] after (o ∷ order) h others = absurd h
  mine i name (v ∷ said) after [] h others = absurd h
  mine i name (v ∷ said) after (o ∷ order) h others =
      let f : FileUnit EntryName = in_file file (unit_map name v) in
      let rest = named_units file name said ++ after in
      take_one f (ShowsKept e m all i f o × KeptShown e m all file (suc i) rest order) (KeptShown e m all file (suc i) rest (o ∷ order)) refl (h.0, mine (suc i) name said after order h.1 others)

pub all_kept : KeptLaw
all_kept e m units marks parts raw from next order is known moves imported kept =
    let each : EachKept e m units (length is.before) (named_units from.file is.name is.said) order =
    each_kept is.around is.plain e m raw is.name from.file units marks known moves parts imported from next from.start is.top is.before is.after raw is.said order refl refl is.number is.units_are
    is.next_is is.means is.whole is.names kept in
    let none : length is.before ≡ 0 + length is.before = omega arith in
    subst (λ (w : List (FileUnit EntryName)). KeptShown e m units from.file 0 w order) (sym is.units_are)
    (skip e m units from.file 0 is.before (named_units from.file is.name is.said ++ is.after) order is.others.0
    (subst (λ (k : ℕ). KeptShown e m units from.file k (named_units from.file is.name is.said ++ is.after) order) none
    (mine e m units from.file (length is.before) is.name is.said is.after order each is.others.1)))

-- ---- spaces

said_from : (units : List (FileUnit EntryName)) (n : ℕ) (xs : List (Node EntryName)) → ((k : ℕ) (x : Node EntryName) → slice_get xs k ≡ Some x → slice_get (spaces_of units) (n + k) ≡ Some x)
    → Numbered (SaidIs (said_of units)) n xs
said_from units n [] h = tt
said_from units n (x ∷ xs) h =
    let none : n + 0 ≡ n = omega arith in (
      (let there : slice_get (spaces_of units) n ≡ Some x = ap (slice_get (spaces_of units)) (sym none) ∙ h 0 x refl in ap name_in there),
      said_from units (suc n) xs (λ k y e. (let next : suc n + k ≡ n + suc k = omega arith in ap (slice_get (spaces_of units)) next ∙ h (suc k) y e)),
    )

pub all_said : SaidLaw
all_said units = said_from units 0 (spaces_of units) (λ k x e. (let none : 0 + k ≡ k = omega arith in ap (slice_get (spaces_of units)) none ∙ e))
