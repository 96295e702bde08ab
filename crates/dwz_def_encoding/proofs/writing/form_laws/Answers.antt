use Rattle.std.proofs.Common.{◌≡◌, Bool, subst, sym}
use Rattle.dwz_def_tops.specs.Spots.{EntryName, same_spot}
use Rattle.dwz_def_encoding.specs.Carried.{OfAny, OfFile, SectionsStand}
use Rattle.dwz_def_encoding.specs.Placing.{Forms}
use Rattle.dwz_def_encoding.proofs.Places.{IsSame}
use Rattle.dwz_def_encoding.proofs.Chosen.{fit_units_names, units_good}
use Rattle.dwz_def_encoding.proofs.SameLemmas.{spots_same}
use Rattle.dwz_def_encoding.proofs.writing.form_laws.Goals as goal

names_same : (f : Forms EntryName) → f.same ≡ same_spot → IsSame f.same
names_same f same = subst IsSame (sym same) spots_same

pub returns-clause-file : goal.returns-clause-file
returns-clause-file c sources f t units same common all once carried closed apart stand bases operands =
    units_good f (names_same f same) (OfFile sources) t units all once carried closed apart (subst (λ (b : Bool). SectionsStand b (OfFile sources) f t units) (sym common) stand) bases operands

pub returns-clause-common : goal.returns-clause-common
returns-clause-common c f t units same common all once carried closed apart stand bases operands =
    units_good f (names_same f same) OfAny t units all once carried closed apart (subst (λ (b : Bool). SectionsStand b OfAny f t units) (sym common) stand) bases operands

pub returns-clause-keys : goal.returns-clause-keys
returns-clause-keys c = fit_units_names
