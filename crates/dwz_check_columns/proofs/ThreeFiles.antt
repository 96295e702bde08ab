-- What is known of two files and of their common one, and that numbers of their nodes and units fit.
use Rattle.std.proofs.Common.{◌≡◌, ◌<◌, ◌≤◌, ℕ, ◌+◌, ◌^◌, Bor, List, length, Option, Some, None, sym, ap, subst, arith}
use Rattle.std.specs.Option.{option_map}
use Rattle.dwz_def_reading.specs.Documents.{DwUnit}
use Rattle.dwz_def_reading.specs.Units.{entries_in}
use Rattle.dwz_def_check.specs.CrossNames.{cross_tops}
use Rattle.dwz_def_check.specs.CrossNodes.{lone_entries}
use Rattle.dwz_graph.specs.declared.file.File.{File}
use Rattle.dwz_imports.specs.Said.{raw_beside}
use Rattle.dwz_unit.proofs.ShownLemmas.{units_few}
use Rattle.dwz_unit.specs.Rows.{units_of}
use Rattle.dwz_check_index.specs.Both.{IsBeside, from_top}
use Rattle.dwz_check_index.specs.Index.{CrossIndex, IsCrossIndex}
use Rattle.dwz_check_index.specs.declared.both.CrossIndexes.{CrossIndexes}
use Rattle.dwz_check_sides.specs.Says.{FileSays}
use Rattle.dwz_check_columns.specs.Files.{IsCommonSide, IsFileSide}
use Rattle.dwz_check_columns.specs.Shows.{CommonSays, TwoSay}
use Rattle.dwz_check_columns.proofs.FileSides.{common_long, file_long, file_nodes, units_behind}

-- the file behind a reference, if there is one
abbrev pub behind : Option (Bor File) → Option File
behind o = option_map {T = Bor File} {U = File} (λ f. f.now) o

common_nodes : (o : Option File) (c : List (DwUnit ℕ)) → CommonSays o c → length (cross_tops c) + length (lone_entries c) ≤ entries_in (raw_beside (option_map (λ (w : File). w.units) o))
unfolding cross_tops lone_entries
common_nodes None c none = let t = ap (λ (w : List (DwUnit ℕ)). length (cross_tops w) + length (lone_entries w)) none in omega (arith, t)
common_nodes (Some f) c h = file_nodes f None c h

module _ (old new : File) (common : Option (Bor File)) (indexes : CrossIndexes) (a b c : List (DwUnit ℕ)) (t : TwoSay old new (behind common) indexes a b c) (old_few : entries_in (units_of old.units) ≤ 2 ^ 28)
    (new_few : entries_in (units_of new.units) ≤ 2 ^ 28) (common_few : entries_in (raw_beside (option_map (λ (f : Bor File). f.now.units) common)) ≤ 2 ^ 28) where
  pub common_raw : entries_in (raw_beside (option_map (λ (w : File). w.units) (behind common))) ≤ 2 ^ 28
  common_raw = let same = ap (λ o. entries_in (raw_beside o)) (units_behind common) in omega (arith, same, common_few)

  old_nodes_few : length (cross_tops a) + length (lone_entries a) ≤ 2 ^ 28
  old_nodes_few = let fit = file_nodes old (behind common) a t.old_says in omega (arith, fit, old_few)

  new_nodes_few : length (cross_tops b) + length (lone_entries b) ≤ 2 ^ 28
  new_nodes_few = let fit = file_nodes new (behind common) b t.new_says in omega (arith, fit, new_few)

  common_nodes_few : length (cross_tops c) + length (lone_entries c) ≤ 2 ^ 28
  common_nodes_few = let fit = common_nodes (behind common) c t.common_says in let few = common_raw in omega (arith, fit, few)

  pub old_lone_low : indexes.old_lone ≤ 2 ^ 30
  old_lone_low = let x = old_nodes_few in let y = new_nodes_few in let z = common_nodes_few in let is = t.indexed.old_lone in omega (arith, x, y, z, is)

  pub new_lone_low : indexes.new_lone ≤ 2 ^ 30
  new_lone_low = let x = old_nodes_few in let y = new_nodes_few in let z = common_nodes_few in let is = t.indexed.new_lone in omega (arith, x, y, z, is)

  pub second_top : length (cross_tops a) ≤ 2 ^ 30
  second_top = let x = old_nodes_few in omega (arith, x)

  pub common_top : length (cross_tops a) + length (cross_tops b) ≤ 2 ^ 30
  common_top = let x = old_nodes_few in let y = new_nodes_few in omega (arith, x, y)

  old_units_few : length a ≤ 2 ^ 28
  old_units_few = let long = file_long old (behind common) a t.old_says in let few = units_few (units_of old.units) in omega (arith, long, few, old_few)

  new_units_few : length b ≤ 2 ^ 28
  new_units_few = let long = file_long new (behind common) b t.new_says in let few = units_few (units_of new.units) in omega (arith, long, few, new_few)

  pub units_low : length (units_of old.units) + length (units_of new.units) ≤ 2 ^ 30
  units_low =
      let x = old_units_few in
      let y = new_units_few in
      let p = file_long old (behind common) a t.old_says in
      let q = file_long new (behind common) b t.new_says in
      omega (arith, x, y, p, q)

  pub all_few : length a + length b + length c < 2 ^ 32
  all_few = let x = old_units_few in let y = new_units_few in let z = common_long (behind common) c t.common_says in let few = common_raw in omega (arith, x, y, z, few)

  -- the files, each with its numbers
  pub old_file : (f : Bor File) (x : Bor CrossIndex) → f.now ≡ old → x.now ≡ indexes.old → IsFileSide (record { file = f; common = common; index = x }) a c 0
  old_file f x file index = record {
    side = record {
      says = subst (λ (w : File). FileSays w (behind common) a) (sym file) t.old_says;
      index_is = subst (λ (w : CrossIndex). IsCrossIndex (from_top 0) a w) (sym index) t.indexed.old_is;
      few = subst (λ (w : File). entries_in (units_of w.units) ≤ 2 ^ 28) (sym file) old_few;
    };
    beside_it = t.common_says;
    few = common_few;
  }

  pub new_file : (f : Bor File) (x : Bor CrossIndex) → f.now ≡ new → x.now ≡ indexes.new → IsFileSide (record { file = f; common = common; index = x }) b c (length (cross_tops a))
  new_file f x file index = record {
    side = record {
      says = subst (λ (w : File). FileSays w (behind common) b) (sym file) t.new_says;
      index_is = subst (λ (w : CrossIndex). IsCrossIndex (from_top (length (cross_tops a))) b w) (sym index) t.indexed.new_is;
      few = subst (λ (w : File). entries_in (units_of w.units) ≤ 2 ^ 28) (sym file) new_few;
    };
    beside_it = t.common_says;
    few = common_few;
  }

  pub common_side : (index : Option CrossIndex) → index ≡ indexes.common → IsCommonSide (behind common) index c (length (cross_tops a) + length (cross_tops b))
  common_side index is = (t.common_says, subst (λ (w : Option CrossIndex). IsBeside (length (cross_tops a) + length (cross_tops b)) c w) (sym is) t.indexed.common_is)
