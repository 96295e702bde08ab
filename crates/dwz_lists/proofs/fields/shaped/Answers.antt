use Rattle.std.proofs.Common.{◌≡◌, ℕ, Option, Result, Ok, Err, refl, sym, ap, ◌∙◌}
use Rattle.dwz_model.specs.declared.fault.Fault.{Fault}
use Rattle.dwz_bytes.specs.declared.error.ByteErr.{ByteErr}
use Rattle.dwz_bytes.specs.Input.{Input}
use Rattle.dwz_bytes.specs.Reading.{◌>>=◌, uleb_at}
use Rattle.dwz_codes.specs.declared.shape.Shape.{Shape}
use Rattle.dwz_codes.specs.declared.shape.Shape.TheVariants.{Nothing, Refused, Fixed1, Fixed2, Fixed3, Fixed4, Fixed8, Fixed16, Uleb, Sleb, UlebSleb, UlebUleb, ZeroEnded, Block1, Block2, Block4}
use Rattle.dwz_codes.specs.declared.shape.Shape.TheVariants.{BlockUleb, Address, AddressIndex, NestedExpr, UnitEntry4, InfoEntry4, InfoEntry4Sleb, UlebEntryConst, RegisterUlebEntry, SizeUlebEntry}
use Rattle.dwz_codes.specs.declared.shape.Shape.TheVariants.{UlebEntryOrGeneric, UlebUlebExpr, AddressAddressExpr, AddressUlebExpr}
use Rattle.dwz_def_reading.specs.Exprs.{fields_of, or_fault}
use Rattle.dwz_def_reading.specs.LocLists.{bad_list}
use Rattle.dwz_lists.specs.Gathering.{front_at, kind_front}
use Rattle.dwz_lists.proofs.fields.shaped.Goals as goal

-- a number, and then what stands in no list
abbrev the_fault : Fault → ℕ × Input → Result (Option Input × Input) Fault
the_fault bad x = Err bad

still_bad : (bad : Fault) (r : Result (ℕ × Input) ByteErr) → (or_fault bad r >>= the_fault bad) ≡ Err bad
still_bad bad (Ok x) = refl
still_bad bad (Err e) = refl

-- the shapes that no kind of entry has
other : (at : ℕ) (i : Input) (shape : Shape) → (shape ≡ Nothing → ⊥) → (shape ≡ Uleb → ⊥) → (shape ≡ UlebUleb → ⊥) → (shape ≡ Address → ⊥) → (shape ≡ NestedExpr → ⊥) → (shape ≡ UlebUlebExpr → ⊥) → (shape ≡ AddressAddressExpr → ⊥) → (shape ≡ AddressUlebExpr → ⊥)
    → kind_front at (fields_of shape) i ≡ Err (bad_list at)
unfolding front_at
other at i Nothing a b c d e f g h = absurd (a refl)
other at i Refused a b c d e f g h = refl
other at i Fixed1 a b c d e f g h = refl
other at i Fixed2 a b c d e f g h = refl
other at i Fixed3 a b c d e f g h = refl
other at i Fixed4 a b c d e f g h = refl
other at i Fixed8 a b c d e f g h = refl
other at i Fixed16 a b c d e f g h = refl
other at i Uleb a b c d e f g h = absurd (b refl)
other at i Sleb a b c d e f g h = refl
other at i UlebSleb a b c d e f g h = still_bad (bad_list at) (uleb_at i)
other at i UlebUleb a b c d e f g h = absurd (c refl)
other at i ZeroEnded a b c d e f g h = refl
other at i Block1 a b c d e f g h = refl
other at i Block2 a b c d e f g h = refl
other at i Block4 a b c d e f g h = refl
other at i BlockUleb a b c d e f g h = refl
other at i Address a b c d e f g h = absurd (d refl)
other at i AddressIndex a b c d e f g h = refl
other at i NestedExpr a b c d e f g h = absurd (e refl)
other at i UnitEntry4 a b c d e f g h = refl
other at i InfoEntry4 a b c d e f g h = refl
other at i InfoEntry4Sleb a b c d e f g h = refl
other at i UlebEntryConst a b c d e f g h = refl
other at i RegisterUlebEntry a b c d e f g h = still_bad (bad_list at) (uleb_at i)
other at i SizeUlebEntry a b c d e f g h = refl
other at i UlebEntryOrGeneric a b c d e f g h = refl
other at i UlebUlebExpr a b c d e f g h = absurd (f refl)
other at i AddressAddressExpr a b c d e f g h = absurd (g refl)
other at i AddressUlebExpr a b c d e f g h = absurd (h refl)

pub returns-in_default : goal.returns-in_default
returns-in_default c =
    other c.args.at c.args.cursor.now c.args.shape c.in_default.not-Nothing c.in_default.not-Uleb c.in_default.not-UlebUleb c.in_default.not-Address c.in_default.not-NestedExpr c.in_default.not-UlebUlebExpr c.in_default.not-AddressAddressExpr c.in_default.not-AddressUlebExpr
    ∙ ap Err (sym c.bad_at-bad.ensures)
