-- Where the units of a file began, one by one, and how many are laid.
use Rattle.std.proofs.Common.{◌≡◌, ◌∙◌, ℕ, ◌+◌, List, [], ◌∷◌, ◌++◌, length, take, Some, slice_get, refl, sym, ap, arith}
use Rattle.std.proofs.lemmas.List.{append-nil, append_assoc, length-append}
use Rattle.std.specs.List.{fold}
use Rattle.dwz_def_reading.specs.Files.{place_if_whole, unit_places}
use Rattle.dwz_def_reading.specs.Units.{CompileUnit, PartialUnit, RawKind, RawUnit, TypeUnit}
use Rattle.dwz_unit.specs.declared.rows.RawUnit.{RawUnit as UnitOfCode}
use Rattle.dwz_unit.specs.Rows.{kind_number, shown_units}
use Rattle.dwz_unit.proofs.UnitThere.{unit_there}
use Rattle.dwz_expand_passes.proofs.OperandLemmas.{take_one}
use Rattle.dwz_expand_layout.specs.Entries.{NewLine, UnitLines}
use Rattle.dwz_expand_layout.specs.declared.layout.LaidUnit.{LaidUnit}
use Rattle.dwz_expand_layout.specs.Laid.{Laying, begun, laid, nothing_laid, with_line, with_unit}

-- ---- where units began

pub none_there : unit_places [] ≡ []
unfolding unit_places
none_there = refl

joined : (xs ys : List RawUnit) → unit_places (xs ++ ys) ≡ unit_places xs ++ unit_places ys
unfolding unit_places
joined [] ys = refl
joined (u ∷ xs) ys = ap (λ (w : List ℕ). place_if_whole u.kind u.at ++ w) (joined xs ys) ∙ sym (append_assoc (place_if_whole u.kind u.at) (unit_places xs) (unit_places ys))

one_alone : (u : RawUnit) → unit_places (u ∷ []) ≡ place_if_whole u.kind u.at
unfolding unit_places
one_alone u = append-nil (place_if_whole u.kind u.at)

one_more : (raw : List RawUnit) (n : ℕ) (u : RawUnit) → slice_get raw n ≡ Some u → unit_places (take (n + 1) raw) ≡ unit_places (take n raw) ++ place_if_whole u.kind u.at
one_more raw n u there =
    ap unit_places (take_one raw n u there) ∙ joined (take n raw) (u ∷ []) ∙ ap (λ (w : List ℕ). unit_places (take n raw) ++ w) (one_alone u)

in_part : (k : RawKind) (at : ℕ) → kind_number k ≡ 3 → place_if_whole k at ≡ []
in_part CompileUnit at e = absurd (omega (arith, e))
in_part (TypeUnit signature type_offset) at e = absurd (omega (arith, e))
in_part PartialUnit at e = refl

in_whole : (k : RawKind) (at : ℕ) → ¬ (kind_number k ≡ 3) → place_if_whole k at ≡ at ∷ []
in_whole CompileUnit at e = refl
in_whole (TypeUnit signature type_offset) at e = refl
in_whole PartialUnit at e = absurd (e refl)

pub no_place : (raw : List RawUnit) (n : ℕ) (x : UnitOfCode) → slice_get (shown_units raw) n ≡ Some x → x.kind ≡ 3 → unit_places (take (n + 1) raw) ≡ unit_places (take n raw)
no_place raw n x shown part =
    let t = unit_there raw n x shown in
    let kind : kind_number t.u.kind ≡ 3 = ap (λ (v : UnitOfCode). v.kind) t.shown ∙ part in
    one_more raw n t.u t.is_unit ∙ (ap (λ (w : List ℕ). unit_places (take n raw) ++ w) (in_part t.u.kind t.u.at kind) ∙ append-nil (unit_places (take n raw)))

pub a_place : (raw : List RawUnit) (n : ℕ) (x : UnitOfCode) → slice_get (shown_units raw) n ≡ Some x → ¬ (x.kind ≡ 3) → unit_places (take (n + 1) raw) ≡ unit_places (take n raw) ++ x.at ∷ []
a_place raw n x shown whole =
    let t = unit_there raw n x shown in
    one_more raw n t.u t.is_unit
    ∙ (ap (λ (w : List ℕ). unit_places (take n raw) ++ w) (in_whole t.u.kind t.u.at (λ e. whole (sym (ap (λ (v : UnitOfCode). v.kind) t.shown) ∙ e)))
    ∙ ap (λ (v : UnitOfCode). unit_places (take n raw) ++ v.at ∷ []) t.shown)

-- ---- how many are laid

lines_keep : (lines : List NewLine) (l : Laying) → (fold with_line l lines).made.units ≡ l.made.units
lines_keep [] l = refl
lines_keep (e ∷ lines) l = lines_keep lines (with_line l e)

last_many : (units : List LaidUnit) (u : LaidUnit) → length (units ++ u ∷ []) ≡ length units + 1
last_many units u = length-append units (u ∷ [])

unit_more : (l : Laying) (u : UnitLines) → length (with_unit l u).made.units ≡ length l.made.units + 1
unit_more l u = last_many (fold with_line (begun l u.kind) u.lines).made.units _ ∙ ap (λ (w : List LaidUnit). length w + 1) (lines_keep u.lines (begun l u.kind))

all_more : (order : List UnitLines) (l : Laying) → length (fold with_unit l order).made.units ≡ length l.made.units + length order
all_more [] l = omega arith
all_more (u ∷ order) l = (let rest = all_more order (with_unit l u) in let one = unit_more l u in omega (arith, rest, one))

pub as_laid : (order : List UnitLines) → length (laid order).units ≡ length order
as_laid order = (let all = all_more order nothing_laid in omega (arith, all))
