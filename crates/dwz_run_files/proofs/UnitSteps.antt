-- Units get their places one after the other.
use Rattle.std.proofs.Common.{◌≡◌, ℕ, zero, suc, ◌+◌, ◌-◌, List, [], ◌∷◌, ◌++◌, length, take, Some, slice_get, refl, sym, ap, ◌∙◌, arith}
use Rattle.std.specs.Prelude.{slice_index}
use Rattle.std.proofs.lemmas.List.{take_all}
use Rattle.dwz_def_reading.specs.Units.{CompileUnit, PartialUnit, RawKind, RawUnit, TypeUnit, entry_count, header_size}
use Rattle.dwz_unit.specs.declared.rows.RawUnit.{RawUnit as UnitOfCode}
use Rattle.dwz_unit.specs.Rows.{kind_number, shown_from, shown_units, unit_shown}
use Rattle.dwz_run_files.specs.Spots.{unit_places_from}

-- ---- headers

pub is_type : (k : RawKind) (n : ℕ) → n ≡ kind_number k → n ≡ 2 → 24 ≡ header_size k
is_type CompileUnit n e two = absurd (omega (arith, e, two))
is_type (TypeUnit signature type_offset) n e two = refl
is_type PartialUnit n e two = absurd (omega (arith, e, two))

pub is_other : (k : RawKind) (n : ℕ) → n ≡ kind_number k → (n ≡ 2 → ⊥) → 12 ≡ header_size k
is_other CompileUnit n e other = refl
is_other (TypeUnit signature type_offset) n e other = absurd (other e)
is_other PartialUnit n e other = refl

-- ---- one unit more

-- of the unit that is shown: its kind, and the places up to it
pub record OneMore (start : ℕ) (places : List ℕ) (us : List RawUnit) (root n : ℕ) (x : UnitOfCode) : Type 0 where
  pub kind : RawKind
  pub number : x.kind ≡ kind_number kind
  pub are : unit_places_from root places (take (n + 1) us)
      ≡ unit_places_from root places (take n us) ++ (slice_index places (start + x.first) - header_size kind) ∷ []

pub one_more : (start : ℕ) (places : List ℕ) (us : List RawUnit) (first root n : ℕ) (x : UnitOfCode) → root ≡ start + first
    → slice_get (shown_from us first) n ≡ Some x → OneMore start places us root n x
unfolding unit_places_from shown_from
one_more start places [] first root n x at e = absurd cc
one_more start places (u ∷ us) first root zero x at e =
    let same : unit_shown first u ≡ x = cc in
    let first_is : first ≡ x.first = ap (λ (w : UnitOfCode). w.first) same in
    let root_is : root ≡ start + x.first = omega (arith, at, first_is) in
    record {
      kind = u.kind;
      number = sym (ap (λ (w : UnitOfCode). w.kind) same);
      are = ap (λ (w : ℕ). (slice_index places w - header_size u.kind) ∷ []) root_is;
    }
one_more start places (u ∷ us) first root (suc n) x at e =
    let o = one_more start places us (first + entry_count u) (root + entry_count u) n x (omega (arith, at)) e in
    let one : suc n + 1 ≡ suc (n + 1) = omega arith in
    record {
      kind = o.kind;
      number = o.number;
      are = ap (λ (w : ℕ). unit_places_from root places (take w (u ∷ us))) one
          ∙ ap (λ (w : List ℕ). (slice_index places root - header_size u.kind) ∷ w) o.are;
    }

-- so with the place of that unit there are those of one unit more
pub places_more : (start : ℕ) (places : List ℕ) (us : List RawUnit) (n : ℕ) (x : UnitOfCode) (old new : List ℕ) (root place : ℕ)
    → slice_get (shown_units us) n ≡ Some x → old ≡ unit_places_from start places (take n us) → root ≡ slice_index places (start + x.first)
    → ((k : RawKind) → x.kind ≡ kind_number k → place ≡ root - header_size k) → new ≡ old ++ place ∷ []
    → new ≡ unit_places_from start places (take (n + 1) us)
places_more start places us n x old new root place e so_far at before is =
    let o = one_more start places us 0 start n x (omega arith) e in
    let here : place ≡ slice_index places (start + x.first) - header_size o.kind =
    before o.kind o.number ∙ ap (λ (w : ℕ). w - header_size o.kind) at in
    is ∙ (λ i. so_far i ++ here i ∷ []) ∙ sym o.are

-- ---- none, and all

pub no_places : (start : ℕ) (places : List ℕ) → [] ≡ unit_places_from start places []
unfolding unit_places_from
no_places start places = refl

pub all_places : (start : ℕ) (places : List ℕ) (us : List RawUnit) (n : ℕ) (out : List ℕ) → n ≡ length us
    → out ≡ unit_places_from start places (take n us) → out ≡ unit_places_from start places us
all_places start places us n out end is = is ∙ ap (unit_places_from start places) (take_all n us (omega (arith, end)))

pub as_many : (root : ℕ) (places : List ℕ) (us : List RawUnit) → length (unit_places_from root places us) ≡ length us
unfolding unit_places_from
as_many root places [] = refl
as_many root places (u ∷ us) = ap suc (as_many (root + entry_count u) places us)
