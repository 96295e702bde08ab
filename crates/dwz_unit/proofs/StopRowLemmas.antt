-- The stops of an entry, found one after the other.
use Rattle.std.proofs.Common.{◌≡◌, ℕ, ◌+◌, ◌<◌, ◌≤◌, Bool, true, false, List, [], ◌∷◌, length, drop, get_or, Option, Some, None, refl, ap, ◌∙◌, if◌then◌else◌, arith}
use Rattle.std.proofs.lemmas.List.{at_drop_all, at_drop_more}
use Rattle.std.proofs.lemmas.Option.{same_Some}
use Rattle.std.specs.Prelude.{pos}
use Rattle.dwz_model.specs.declared.place.Pair.{Pair}
use Rattle.dwz_unit.specs.declared.stops.Stop.{Stop}
use Rattle.std.specs.Option.{option_map_or}
use Rattle.dwz_codes.specs.declared.shape.Shape.{Shape}
use Rattle.dwz_codes.specs.declared.shape.Shape.TheVariants.{Nothing, Refused, Fixed1, Fixed2, Fixed3, Fixed4, Fixed8, Fixed16, Uleb, Sleb, UlebSleb, UlebUleb, ZeroEnded, Block1, Block2, Block4, BlockUleb, Address, AddressIndex, NestedExpr, UnitEntry4, InfoEntry4, InfoEntry4Sleb, UlebEntryConst, RegisterUlebEntry, SizeUlebEntry, UlebEntryOrGeneric, UlebUlebExpr, AddressAddressExpr, AddressUlebExpr}
use Rattle.dwz_def_reading.specs.Values.{shape_of, written_rows}
use Rattle.dwz_forms.specs.FixedSizes.{shape_size}
use Rattle.dwz_unit.specs.Stops.{is_passed, passed_size, stops_from}

-- where no name and form is there
abbrev pub no_pair : Pair
no_pair = record { name = 0; form = 0; constant = pos 0 }

-- what is passed over, and how many bytes that is
abbrev pub size_if_passed : Pair → Option ℕ
size_if_passed p = if is_passed p then Some (passed_size p) else None

some_size : (b : Bool) (x y : ℕ) → (if b then Some x else None) ≡ Some y → (b ≡ true) × (x ≡ y)
some_size true x y e = (refl, same_Some x y e)
some_size false x y e = absurd cc

no_size : (b : Bool) (x : ℕ) → (if b then Some x else None) ≡ None → b ≡ false
no_size true x e = absurd cc
no_size false x e = refl

pub shape_small : (s : Shape) → option_map_or (λ n. n) (shape_size s) 0 ≤ 16
shape_small Nothing = omega arith
shape_small Refused = omega arith
shape_small Fixed1 = omega arith
shape_small Fixed2 = omega arith
shape_small Fixed3 = omega arith
shape_small Fixed4 = omega arith
shape_small Fixed8 = omega arith
shape_small Fixed16 = omega arith
shape_small Uleb = omega arith
shape_small Sleb = omega arith
shape_small UlebSleb = omega arith
shape_small UlebUleb = omega arith
shape_small ZeroEnded = omega arith
shape_small Block1 = omega arith
shape_small Block2 = omega arith
shape_small Block4 = omega arith
shape_small BlockUleb = omega arith
shape_small Address = omega arith
shape_small AddressIndex = omega arith
shape_small NestedExpr = omega arith
shape_small UnitEntry4 = omega arith
shape_small InfoEntry4 = omega arith
shape_small InfoEntry4Sleb = omega arith
shape_small UlebEntryConst = omega arith
shape_small RegisterUlebEntry = omega arith
shape_small SizeUlebEntry = omega arith
shape_small UlebEntryOrGeneric = omega arith
shape_small UlebUlebExpr = omega arith
shape_small AddressAddressExpr = omega arith
shape_small AddressUlebExpr = omega arith

-- no value of a fixed size has more bytes
pub small_size : (p : Pair) (size : ℕ) → size_if_passed p ≡ Some size → size ≤ 16
small_size p size e = omega (arith, shape_small (shape_of written_rows p.form), (some_size (is_passed p) (passed_size p) size e).1)

module _ (pairs : List Pair) (k skip : ℕ) (d : Pair) (lt : k < length pairs) where
  abbrev here : Pair
  here = get_or pairs k d

  pub stops_passed : (size : ℕ) → size_if_passed here ≡ Some size → stops_from (drop k pairs) k skip ≡ stops_from (drop (k + 1) pairs) (k + 1) (skip + size)
  unfolding stops_from
  stops_passed size e =
      let s = some_size (is_passed here) (passed_size here) size e in
      let stop : Stop = record { skip = skip; number = k } in
      at_drop_more (λ w. stops_from w k skip) pairs k d lt
      ∙ ap (λ b. if b then stops_from (drop (k + 1) pairs) (k + 1) (skip + passed_size here) else stop ∷ stops_from (drop (k + 1) pairs) (k + 1) 0) s.0
      ∙ ap (λ n. stops_from (drop (k + 1) pairs) (k + 1) (skip + n)) s.1

  pub stops_here : size_if_passed here ≡ None → stops_from (drop k pairs) k skip ≡ record { skip = skip; number = k } ∷ stops_from (drop (k + 1) pairs) (k + 1) 0
  unfolding stops_from
  stops_here e =
      let stop : Stop = record { skip = skip; number = k } in
      at_drop_more (λ w. stops_from w k skip) pairs k d lt
      ∙ ap (λ b. if b then stops_from (drop (k + 1) pairs) (k + 1) (skip + passed_size here) else stop ∷ stops_from (drop (k + 1) pairs) (k + 1) 0) (no_size (is_passed here) (passed_size here) e)

pub stops_end : (pairs : List Pair) (k skip : ℕ) → length pairs ≤ k → stops_from (drop k pairs) k skip ≡ []
unfolding stops_from
stops_end pairs k skip le = at_drop_all (λ w. stops_from w k skip) pairs k le
