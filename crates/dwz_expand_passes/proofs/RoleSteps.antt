-- What holds a unit, by how it is shown.
use Rattle.std.proofs.Common.{◌≡◌, ◌∙◌, ℕ, ◌+◌, zero, suc, List, [], ◌∷◌, Some, slice_get, refl, sym, ap}
use Rattle.dwz_def_encoding.specs.Placing.{NewUnit, OldUnit}
use Rattle.dwz_def_reading.specs.Units.{CompileUnit, PartialUnit, RawKind, RawUnit, TypeUnit, entry_count}
use Rattle.dwz_unit.specs.Rows.{kind_number, shown_from, unit_shown}
use Rattle.dwz_unit.specs.declared.rows.RawUnit.{RawUnit as UnitOfCode}
use Rattle.dwz_expand_passes.specs.Files.{holder_for}

pub kind_shown : (us : List RawUnit) (n first : ℕ) (u : RawUnit) (x : UnitOfCode) → slice_get us n ≡ Some u → slice_get (shown_from us first) n ≡ Some x → x.kind ≡ kind_number u.kind
unfolding shown_from
kind_shown [] n first u x there shown = absurd cc
kind_shown (v ∷ us) zero first u x there shown = (
    let same : v ≡ u = cc in
    let is : unit_shown first v ≡ x = cc in
    sym (ap (λ (w : UnitOfCode). w.kind) is) ∙ ap (λ (w : RawUnit). kind_number w.kind) same)
kind_shown (v ∷ us) (suc n) first u x there shown = kind_shown us n (first + entry_count v) u x there shown

pub partial_unit : (k : RawKind) → kind_number k ≡ 3 → NewUnit ≡ holder_for k
partial_unit CompileUnit e = absurd cc
partial_unit (TypeUnit s t) e = absurd cc
partial_unit PartialUnit e = refl

pub whole_unit : (k : RawKind) → (kind_number k ≡ 3 → ⊥) → OldUnit ≡ holder_for k
whole_unit CompileUnit h = refl
whole_unit (TypeUnit s t) h = refl
whole_unit PartialUnit h = absurd (h refl)
