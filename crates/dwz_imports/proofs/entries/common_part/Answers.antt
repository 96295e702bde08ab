use Rattle.std.proofs.Common.{◌≡◌, ◌↔◌, ◌+◌, ◌<◌, ◌^◌, [], ◌∷◌, Some, None, List, Bor, Option, length, ap, subst, sym}
use Rattle.std.specs.Option.{option_map}
use Rattle.dwz_def_reading.specs.Units.{RawUnit}
use Rattle.dwz_unit.specs.Rows.{Source, units_of}
use Rattle.dwz_imports.specs.Said.{raw_beside}
use Rattle.dwz_imports.specs.Stored.{IsPartOf}
use Rattle.dwz_imports.proofs.NamedParts.{no_common}
use Rattle.dwz_imports.proofs.entries.common_part.Goals as goal

abbrev raw_of : Option (Bor Source) → List RawUnit
raw_of o = raw_beside (option_map (λ u. u.now) o)

pub part_behind-requires : goal.part_behind-requires
part_behind-requires c = subst (λ (us : List RawUnit). length (units_of c.args.own.now) + length us < 2 ^ 32) (ap raw_of c.in-Some.is) c.requires

pub returns-in-None : goal.returns-in-None
returns-in-None c = λ n. subst (λ (us : List RawUnit). (None ≡ Some n) ↔ IsPartOf (units_of c.args.own.now) us [] (c.args.place ∷ []) n) (sym (ap raw_of c.in-None.is)) (no_common
    (units_of c.args.own.now) c.args.place n)

pub returns-in-Some : goal.returns-in-Some
returns-in-Some c = λ n. subst (λ (us : List RawUnit). (c.part_behind.result ≡ Some n) ↔ IsPartOf (units_of c.args.own.now) us [] (c.args.place ∷ []) n) (sym (ap raw_of c.in-Some.is))
    (c.part_behind.ensures n)
