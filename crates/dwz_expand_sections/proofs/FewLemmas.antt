-- Each unit that is laid begins no later than all units end.
use Rattle.std.proofs.Common.{◌≡◌, ℕ, ◌-◌, ◌^◌, ◌<◌, ◌≤◌, List, [], ◌∷◌, ◌++◌, All, refl, sym, subst, arith}
use Rattle.std.specs.List.{fold}
use Rattle.std.proofs.lemmas.List.Elements.{All-append, All-from_get_or, All-get_or}
use Rattle.dwz_model.proofs.ListFacts.{all_more}
use Rattle.dwz_expand_layout.specs.declared.layout.LaidUnit.{LaidUnit}
use Rattle.dwz_expand_layout.specs.Entries.{NewLine, UnitLines}
use Rattle.dwz_expand_layout.specs.Laid.{Laying, begun, laid, nothing_laid, with_line, with_unit}

no_unit : LaidUnit
no_unit = record { at = 0; end = 0; table = 0 }

all_up : (units : List LaidUnit) (a b : ℕ) → a ≤ b → All (λ u. u.at ≤ a) units → All (λ u. u.at ≤ b) units
all_up units a b le h =
    All-from_get_or (λ (u : LaidUnit). u.at ≤ b) units no_unit (λ i lt. (let at = All-get_or (λ (u : LaidUnit). u.at ≤ a) units i no_unit lt h in omega (arith, at, le)))

none_yet : (P : LaidUnit → Type 0) → All P []
none_yet P k d lt = absurd (omega (arith, lt))

with_last : (P : LaidUnit → Type 0) (units : List LaidUnit) (u : LaidUnit) → All P units → P u → All P (units ++ u ∷ [])
with_last P units u all last = All-append P units (u ∷ []) all (all_more P u [] last (none_yet P))

record Grows (l m : Laying) : Type 0 where
  units : m.made.units ≡ l.made.units
  begin : m.begin ≡ l.begin
  end : l.made.end ≤ m.made.end

lines_grow : (lines : List NewLine) (l : Laying) → Grows l (fold with_line l lines)
lines_grow [] l = record { units = refl; begin = refl; end = omega arith }
lines_grow (e ∷ lines) l =
    let rest = lines_grow lines (with_line l e) in
    let more = rest.end in
    record { units = rest.units; begin = rest.begin; end = omega (arith, more) }

-- units begin before the end
record Below (l : Laying) : Type 0 where
  units : All (λ u. u.at ≤ l.made.end) l.made.units

unit_below : (l : Laying) (u : UnitLines) → Below l → Below (with_unit l u)
unit_below l u h =
    let m = fold with_line (begun l u.kind) u.lines in
    let g = lines_grow u.lines (begun l u.kind) in
    let end = g.end in
    let low : l.made.end ≤ m.made.end = omega (arith, end) in
    let old : All (λ w. w.at ≤ m.made.end) m.made.units =
    subst (All (λ (w : LaidUnit). w.at ≤ m.made.end)) (sym g.units) (all_up l.made.units l.made.end m.made.end low h.units) in
    let first : m.begin ≤ m.made.end = (let begin = g.begin in omega (arith, begin, low)) in
    record { units = with_last (λ (w : LaidUnit). w.at ≤ m.made.end) m.made.units _ old first }

all_below : (order : List UnitLines) (l : Laying) → Below l → Below (fold with_unit l order)
all_below [] l h = h
all_below (u ∷ order) l h = all_below order (with_unit l u) (unit_below l u h)

pub few_starts : (order : List UnitLines) → (laid order).end < 2 ^ 32 - 16 → All (λ u. u.at < 2 ^ 32) (laid order).units
few_starts order less =
    let h = all_below order nothing_laid (record { units = none_yet (λ (w : LaidUnit). w.at ≤ 0) }) in
    All-from_get_or (λ (u : LaidUnit). u.at < 2 ^ 32) (laid order).units no_unit
    (λ i lt. (let at = All-get_or (λ (u : LaidUnit). u.at ≤ (laid order).end) (laid order).units i no_unit lt h.units in omega (arith, at, less)))
