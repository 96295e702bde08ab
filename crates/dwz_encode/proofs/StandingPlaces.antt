-- Numbers where some names have places already, and files stand behind: where no name is twice, both are where the numbers say.
use Rattle.std.proofs.Common.{◌≡◌, ℕ, Bool, List, [], ◌∷◌, ◌++◌, sym, ap, subst, ◌∙◌, inl, inr}
use Rattle.std.proofs.lemmas.List.{map-append}
use Rattle.dwz_def_reading.specs.Lists.{Each, In}
use Rattle.dwz_def_tops.specs.Spots.{EntryName, same_spot}
use Rattle.dwz_def_tops.specs.Lists.{NoneTwice}
use Rattle.dwz_def_tops.proofs.Members.{each_split}
use Rattle.dwz_def_encoding.specs.Placing.{FileOut, UnitsStand, files_keys, files_placed, number_of_key, units_placed}
use Rattle.dwz_def_encoding.specs.Writing.{Numbering}
use Rattle.dwz_def_encoding.proofs.Places.{Agrees, IsSame, files_placed_keys, firsts, number_agrees, units_stand}
use Rattle.dwz_def_encoding.proofs.SameLemmas.{spots_same}
use Rattle.dwz_def_encoding.proofs.WriteLengths.{FixedUnit, sound_units}
use Rattle.dwz_encode.specs.Laws.{AreApart, StandBehind}

module _ {K : Type 0} (same : K → K → Bool) (is : IsSame same) (rows : List (K × ℕ)) (files : List (FileOut K)) (once : NoneTwice (firsts rows ++ files_keys files)) where
  abbrev pub Numbers : Numbering K
  Numbers = record { place = number_of_key same (rows ++ files_placed files) }

  names : firsts (rows ++ files_placed files) ≡ firsts rows ++ files_keys files
  names = map-append (λ (p : K × ℕ). p.0) rows (files_placed files) ∙ ap (λ (w : List K). firsts rows ++ w) (files_placed_keys files)

  both : Agrees Numbers rows × Agrees Numbers (files_placed files)
  both = each_split (λ (p : K × ℕ). Numbers.place p.0 ≡ p.1) rows (files_placed files) (number_agrees same is (rows ++ files_placed files) (subst NoneTwice (sym names) once))

  pub rows_placed : Agrees Numbers rows
  rows_placed = both.0

  own : (some : List (FileOut K)) → Agrees Numbers (files_placed some) → (f : FileOut K) → In f some → Agrees Numbers (units_placed 0 f.units)
  unfolding files_placed
  own [] agree f there = absurd there
  own (x ∷ some) agree f there =
      let parts = each_split (λ (p : K × ℕ). Numbers.place p.0 ≡ p.1) (units_placed 0 x.units) (files_placed some) agree in
      elim there [ inl e ↦ subst (λ (y : FileOut K). Agrees Numbers (units_placed 0 y.units)) e parts.0 | inr later ↦ own some parts.1 f later ]

  pub files_stand : (f : FileOut K) → In f files → Each FixedUnit f.units → UnitsStand Numbers f.units 0
  files_stand f there fixed = units_stand Numbers f.units 0 fixed (own files both.1 f there)

pub stand_behind : (rows : List (EntryName × ℕ)) (files : List (FileOut EntryName)) → AreApart rows files → StandBehind rows files
stand_behind rows files apart = record {
  standing = rows_placed same_spot spots_same rows files apart;
  written = λ f there sound. files_stand same_spot spots_same rows files apart f there (sound_units f.units sound);
}
