-- Files that were read say what their documents do.
use Rattle.std.proofs.Common.{◌≡◌, ◌+◌, ◌^◌, ℕ, List, [], Option, Some, None, Ok, refl, sym, ap}
use Rattle.dwz_def_reading.specs.Documents.{Doc}
use Rattle.dwz_def_reading.specs.Files.{Limits, file_meaning_by}
use Rattle.dwz_def_reading.specs.Finished.{given_by, rule_of_back, rule_of_common}
use Rattle.dwz_def_reading.specs.Meanings.{Around, Common}
use Rattle.dwz_def_reading.specs.Meant.{units_meaning}
use Rattle.dwz_def_reading.specs.OtherPlaces.{numbered_common}
use Rattle.dwz_def_reading.specs.Places.{Place}
use Rattle.dwz_def_reading.specs.Rules.{ReadingRule}
use Rattle.dwz_def_reading.specs.Units.{RawUnit}
use Rattle.dwz_def_reading.proofs.FileLemmas.{file_agrees_by}
use Rattle.dwz_def_reading.proofs.MeaningUnits.{units_agree}
use Rattle.dwz_graph.specs.ByRule.{numbered_rule}
use Rattle.dwz_graph.specs.Surroundings.{behind_own}
use Rattle.dwz_unit.specs.Rows.{units_of}
use Rattle.dwz_imports.specs.ImportLaws.{SaysAloneLaw, SaysBesideLaw}

means : (rule : ReadingRule ℕ) (l : Limits) (bytes : List ℕ) (raw : List RawUnit) (doc : Doc ℕ) → file_meaning_by rule l bytes ≡ Ok (raw, doc) → units_meaning
    (rule.around bytes raw) raw ≡ Ok doc.units
means rule l bytes raw doc e = let reads = ((file_agrees_by rule l bytes).ok (raw, doc)).0 e in ((units_agree (rule.around bytes raw) raw).ok doc.units).1 reads.means

nothing : (around : Around ℕ) → units_meaning around [] ≡ Ok []
unfolding units_meaning
nothing around = refl

places : (o : Option (Common Place)) (c : Common ℕ) → numbered_common (2 ^ 32) o ≡ Some c → c.place ≡ behind_own
places None c e = absurd cc
places (Some d) c e = let same : record { entries = d.entries; place = λ n. 2 ^ 32 + n; strs = d.strs } ≡ c = cc in ap (λ (w : Common ℕ). w.place) (sym same)

pub alone : SaysAloneLaw
alone own kind l number bytes f read =
    let rule = numbered_rule (rule_of_back None own) in
    record {
      around = rule.around bytes (units_of f.units);
      place = refl;
      all = refl;
      common_place = places None;
      means = means rule l bytes (units_of f.units) read.doc read.means;
      beside = rule.around bytes (units_of f.units);
      beside_place = refl;
      said = [];
      common_means = nothing (rule.around bytes (units_of f.units));
      common_are = refl;
    }

pub beside : SaysBesideLaw
beside given own kind l number bytes f read m common_kind k common_number common_bytes c common =
    let rule = numbered_rule (rule_of_back (Some given) own) in
    let other = numbered_rule (rule_of_common m) in
    record {
      around = rule.around bytes (units_of f.units);
      place = refl;
      all = refl;
      common_place = places (Some (given_by given.number given.bytes given.units));
      means = means rule l bytes (units_of f.units) read.doc read.means;
      beside = other.around common_bytes (units_of c.units);
      beside_place = refl;
      said = common.doc.units;
      common_means = means other k common_bytes (units_of c.units) common.doc common.means;
      common_are = refl;
    }
