-- What is known of a file that is put, and of the common one beside it.
use Rattle.std.proofs.Common.{◌≡◌, ◌<◌, ◌≤◌, ℕ, ◌+◌, ◌^◌, All, Bool, Bor, List, [], ◌∷◌, length, map, get_or, Option, Some, None, Ok, refl, sym, ap, subst, ◌∙◌, arith}
use Rattle.std.specs.Option.{option_map}
use Rattle.std.proofs.lemmas.List.{length-append, length-map}
use Rattle.std.proofs.lemmas.List.Elements.{All-cons, All-from_get_or, All-nil, All-weaker}
use Rattle.dwz_model.proofs.ListFacts.{got_below, got_there}
use Rattle.dwz_def_reading.specs.Documents.{DwUnit, unit_map}
use Rattle.dwz_def_reading.specs.Meanings.{Around, Common, MeanUnits, scope_of}
use Rattle.dwz_def_reading.specs.Meant.{units_meaning}
use Rattle.dwz_def_reading.specs.Trees.{End, Entry, size}
use Rattle.dwz_def_reading.specs.Units.{RawUnit, entries_in}
use Rattle.dwz_def_reading.proofs.MeaningUnits.{units_agree}
use Rattle.dwz_def_cross.specs.Tops.{units_with_common}
use Rattle.dwz_def_check.specs.CrossNames.{cross_tops}
use Rattle.dwz_def_check.specs.CrossNodes.{lone_entries}
use Rattle.dwz_def_expand.specs.Source.{imported_in, once}
use Rattle.dwz_graph.proofs.IndexRoom.{units_same}
use Rattle.dwz_graph.proofs.ListMeans.{means_size}
use Rattle.dwz_graph.proofs.TreeLemmas.{nodes_many}
use Rattle.dwz_graph.specs.declared.file.File.{File}
use Rattle.dwz_graph.specs.Rows.{nodes}
use Rattle.dwz_graph.specs.Surroundings.{behind_own}
use Rattle.dwz_imports.specs.Imports.{AreImportLists, AreUnits, importing_flags, imports_any, same, unit_nodes}
use Rattle.dwz_imports.specs.Said.{SaysBeside, raw_beside}
use Rattle.dwz_unit.proofs.ShownLemmas.{units_few}
use Rattle.dwz_unit.specs.Rows.{Source, units_of}
use Rattle.dwz_check_index.specs.declared.index.CrossStarts.{CrossStarts}
use Rattle.dwz_check_index.specs.Both.{from_top}
use Rattle.dwz_check_sides.specs.declared.side.Side.{Side}
use Rattle.dwz_check_sides.specs.Says.{FileSays, IsCommonOf, IsSide, common_of}
use Rattle.dwz_check_sides.proofs.NameTexts.{steps_long}
use Rattle.dwz_check_columns.specs.Files.{IsFileSide}
use Rattle.dwz_check_columns.specs.Shows.{CommonSays, beside}
use Rattle.dwz_check_columns.proofs.FewNodes.{nodes_fit}

-- ---- units

pub file_means : (f : File) (common : Option File) (said : List (DwUnit ℕ)) → (h : FileSays f common said) → MeanUnits h.around (units_of f.units) said
file_means f common said h = ((units_agree h.around (units_of f.units)).ok said).0 h.means

pub file_long : (f : File) (common : Option File) (said : List (DwUnit ℕ)) → FileSays f common said → length (units_of f.units) ≡ length said
file_long f common said h = units_same h.around (units_of f.units) said (file_means f common said h)

pub said_long : (s : Side) (said : List (DwUnit ℕ)) (starts : CrossStarts) → IsSide s said starts → length (units_of s.file.now.units) ≡ length said
said_long s said starts side = file_long s.file.now (common_of s) said side.says

-- no more tops, roots and spaces than entries
pub file_nodes : (f : File) (common : Option File) (said : List (DwUnit ℕ)) → FileSays f common said → length (cross_tops said) + length (lone_entries said) ≤ entries_in (units_of f.units)
file_nodes f common said h = nodes_fit h.around (units_of f.units) said (file_means f common said h)

-- as many entries as are stored
entries_many : (around : Around ℕ) (raw : List RawUnit) (said : List (DwUnit ℕ)) → MeanUnits around raw said → length (unit_nodes said) ≡ entries_in raw
unfolding unit_nodes entries_in
entries_many around [] [] h = refl
entries_many around [] (v ∷ said) h = absurd h
entries_many around (u ∷ raw) [] h = absurd h
entries_many around (u ∷ raw) (v ∷ said) h =
    let own = nodes_many (Entry v.root v.below End) in
    let same : size u.below ≡ size v.below = means_size (scope_of around u) u.below v.below h.0.below in
    omega (arith, own, same, length-append (nodes (Entry v.root v.below End)) (unit_nodes said), entries_many around raw said h.1)

pub nodes_long : (s : Side) (said : List (DwUnit ℕ)) (starts : CrossStarts) → IsSide s said starts → length (unit_nodes said) ≡ length s.index.now.steps
nodes_long s said starts side =
    entries_many side.says.around (units_of s.file.now.units) said (file_means s.file.now (common_of s) said side.says) ∙ sym (steps_long s said starts side)

-- ---- the common file

no_units : (around : Around ℕ) → units_meaning around [] ≡ Ok []
unfolding units_meaning
no_units around = refl

abbrev CommonMeans : List RawUnit → List (DwUnit ℕ) → Type 0
CommonMeans raw said = (around : Around ℕ) × (around.place ≡ (λ n. n)) × (units_meaning around raw ≡ Ok said)

common_means : (own : Around ℕ) → own.place ≡ (λ n. n) → (o : Option File) (said : List (DwUnit ℕ)) → CommonSays o said → CommonMeans (raw_beside (option_map (λ (f : File). f.units) o)) said
common_means own place None said none = (own, place, no_units own ∙ ap Ok (sym none))
common_means own place (Some f) said h = (h.around, h.place, h.means)

common_place : (c : Option (Common ℕ)) (o : Option File) → IsCommonOf c o → (d : Common ℕ) → c ≡ Some d → d.place ≡ behind_own
common_place None o h d e = absurd cc
common_place (Some c) None h d e = absurd h
common_place (Some c) (Some f) h d e = let same : c ≡ d = cc in ap (λ (w : Common ℕ). w.place) (sym same) ∙ h.1

-- what a file and the common one say
pub says_beside : (f : File) (o : Option File) (said common : List (DwUnit ℕ)) → FileSays f o said → CommonSays o common
    → SaysBeside (units_of f.units) (raw_beside (option_map (λ (w : File). w.units) o)) (beside said common)
says_beside f o said common h beside_it =
    let m = common_means h.around h.place o common beside_it in
    record {
      around = h.around;
      place = h.place;
      all = h.all;
      common_place = common_place h.around.common o h.common_is;
      means = h.means;
      beside = m.0;
      beside_place = m.1;
      said = common;
      common_means = m.2;
      common_are = refl;
    }

pub common_long : (o : Option File) (common : List (DwUnit ℕ)) → CommonSays o common → length common ≤ entries_in (raw_beside (option_map (λ (w : File). w.units) o))
common_long None common none = let e = ap (λ (w : List (DwUnit ℕ)). length w) none in omega (arith, e)
common_long (Some f) common h = let long = file_long f None common h in let few = units_few (units_of f.units) in omega (arith, long, few)

-- ---- numbers of units

are_low : (units : List (DwUnit ℕ)) (numbers : List ℕ) (us : List (DwUnit ℕ)) → AreUnits units numbers us → All (λ (n : ℕ). n < length units) numbers
are_low units [] [] h = All-nil (λ (n : ℕ). n < length units)
are_low units [] (u ∷ us) h = absurd h
are_low units (n ∷ numbers) [] h = absurd h
are_low units (n ∷ numbers) (u ∷ us) h = All-cons (λ (k : ℕ). k < length units) n numbers (got_below units n u h.0) (are_low units numbers us h.1)

pub lists_low : (said common : List (DwUnit ℕ)) (lists : List (List ℕ)) (from : ℕ) → AreImportLists (beside said common) lists → from + (length said + length common) < 2 ^ 32
    → All (λ (list : List ℕ). All (λ (n : ℕ). from + n < 2 ^ 32) list) lists
lists_low said common lists from are room = All-from_get_or (λ (list : List ℕ). All (λ (n : ℕ). from + n < 2 ^ 32) list) lists [] (λ i low. (
    let len = are.len in
    let u = got_there said i (omega (arith, low, len)) in
    let units = units_with_common (beside said common) in
    let many : length units ≡ length said + length common = length-append said (map (unit_map behind_own) common) ∙ ap (λ (n : ℕ). length said + n) (length-map common (unit_map behind_own)) in
    All-weaker (λ (n : ℕ). n < length units) (λ (n : ℕ). from + n < 2 ^ 32) (λ n l. omega (arith, l, many, room)) (get_or lists i [])
    (are_low units (get_or lists i []) (once same (imported_in same units u.0.below)) (are.each i u.0 u.1))))

-- ---- a file with its numbers

pub units_behind : (o : Option (Bor File)) → option_map (λ (w : File). w.units) (option_map (λ (f : Bor File). f.now) o) ≡ option_map (λ (f : Bor File). f.now.units) o
units_behind None = refl
units_behind (Some f) = refl

module _ (s : Side) (said common : List (DwUnit ℕ)) (top : ℕ) (h : IsFileSide s said common top) where
  abbrev raw : List RawUnit
  raw = units_of s.file.now.units

  abbrev raw_common : List RawUnit
  raw_common = raw_beside (option_map (λ (f : Bor File). f.now.units) s.common)

  pub says : SaysBeside raw raw_common (beside said common)
  says =
      subst (λ (o : Option Source). SaysBeside raw (raw_beside o) (beside said common)) (units_behind s.common)
      (says_beside s.file.now (common_of s) said common h.side.says h.beside_it)

  pub steps_few : length s.index.now.steps ≤ 2 ^ 28
  steps_few = let long = steps_long s said (from_top top) h.side in let few = h.side.few in omega (arith, long, few)

  pub units_few_here : length said ≤ 2 ^ 28
  units_few_here = let long = said_long s said (from_top top) h.side in let few = h.side.few in let many = units_few raw in omega (arith, long, few, many)

  pub common_few : length common ≤ 2 ^ 28
  common_few =
      let long = common_long (common_of s) common h.beside_it in
      let same = ap (λ (o : Option Source). entries_in (raw_beside o)) (units_behind s.common) in
      let few = h.few in
      omega (arith, long, same, few)

  nodes_few : length (cross_tops said) + length (lone_entries said) ≤ 2 ^ 28
  nodes_few = let fit = file_nodes s.file.now (common_of s) said h.side.says in let few = h.side.few in omega (arith, fit, few)

  pub no_lone : s.index.now.starts.lone ≡ 0
  no_lone = ap (λ (w : CrossStarts). w.lone) h.side.index_is.starts_are

  pub lone_room : (n : ℕ) → n ≤ 2 ^ 30 → n + length s.index.now.lone < 2 ^ 32
  lone_room n le = let few = nodes_few in let long = h.side.index_is.lone.len in omega (arith, few, long, le)

  pub tops_room : top ≤ 2 ^ 30 → s.index.now.starts.top + length s.index.now.tops < 2 ^ 32
  tops_room le =
      let few = nodes_few in
      let long = h.side.index_is.tops.len in
      let first = ap (λ (w : CrossStarts). w.top) h.side.index_is.starts_are in
      omega (arith, few, long, le, first)

  pub units_room : (n : ℕ) → n ≤ 2 ^ 30 → n + length raw < 2 ^ 32
  units_room n le = let few = units_few_here in let long = said_long s said (from_top top) h.side in omega (arith, few, long, le)

  pub keys_room : (lists : List (List ℕ)) (n : ℕ) → AreImportLists (beside said common) lists → n ≤ 2 ^ 30 → n + length lists < 2 ^ 32
  keys_room lists n are le = let few = units_few_here in let long = are.len in omega (arith, few, long, le)

  pub parts_room : (lists : List (List ℕ)) (n : ℕ) → AreImportLists (beside said common) lists → n ≤ 2 ^ 30 → All (λ (list : List ℕ). All (λ (k : ℕ). n + k < 2 ^ 32) list) lists
  parts_room lists n are le = let few = units_few_here in let more = common_few in lists_low said common lists n are (omega (arith, few, more, le))

  pub flags_long : (flags : List Bool) → flags ≡ importing_flags (beside said common) → length flags ≡ length s.index.now.steps
  flags_long flags are =
      ap (λ (w : List Bool). length w) are ∙ length-map (unit_nodes said) (imports_any (units_with_common (beside said common))) ∙ nodes_long s said (from_top top) h.side
