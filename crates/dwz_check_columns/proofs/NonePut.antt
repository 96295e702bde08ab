-- Of a file without units nothing is put; and the common file, if there is one.
use Rattle.std.proofs.Common.{◌≡◌, ◌≤◌, ◌^◌, ℕ, Bor, List, [], Option, Some, None, refl, sym, subst, arith}
use Rattle.std.specs.Option.{option_map}
use Rattle.std.proofs.lemmas.List.{append-nil}
use Rattle.dwz_def_reading.specs.Documents.{DwUnit}
use Rattle.dwz_def_reading.specs.Units.{entries_in}
use Rattle.dwz_def_check.specs.CrossLists.{numbered_units}
use Rattle.dwz_def_check.specs.CrossNames.{cross_tops}
use Rattle.dwz_def_check.specs.CrossNodes.{lone_entries}
use Rattle.dwz_graph.specs.declared.file.File.{File}
use Rattle.dwz_imports.specs.Said.{raw_beside}
use Rattle.dwz_imports.specs.Stored.{edges_of}
use Rattle.dwz_check_index.specs.Both.{IsBeside}
use Rattle.dwz_check_index.specs.Index.{CrossIndex}
use Rattle.dwz_check_columns.specs.declared.nodes.NodeDraft.{NodeDraft}
use Rattle.dwz_check_columns.specs.declared.units.UnitDraft.{UnitDraft}
use Rattle.dwz_check_columns.specs.Drawn.{lone_lists}
use Rattle.dwz_check_columns.specs.Files.{IsCommonSide, IsFileSide, PutsNodes, PutsUnits}
use Rattle.dwz_check_columns.specs.Shows.{CommonSays}

none_nodes : (n : NodeDraft) → PutsNodes [] [] n n
unfolding cross_tops lone_entries lone_lists
none_nodes n = record {
  kept = record { names = λ q k e. e; lists = λ q k e. e };
  tops = ([], sym (append-nil n.tops.items), tt);
  plain = sym (append-nil n.plain.items);
  lone = record { put = []; new_are = sym (append-nil n.lone.items); many = refl; are = λ once. tt };
}

none_units : (top first lone from : ℕ) (u : UnitDraft) → PutsUnits [] [] top first lone from u u
unfolding numbered_units edges_of
none_units top first lone from u = record {
  units = sym (append-nil u.units.items);
  paths = ([], sym (append-nil u.paths.items), tt);
  imports = ([], record { len = refl; each = λ n v e. absurd cc }, sym (append-nil u.imports.items));
}

pub nodes_none : (said : List (DwUnit ℕ)) (n : NodeDraft) → said ≡ [] → PutsNodes said [] n n
nodes_none said n none = subst (λ (w : List (DwUnit ℕ)). PutsNodes w [] n n) (sym none) (none_nodes n)

pub units_none : (said : List (DwUnit ℕ)) (top first lone from : ℕ) (u : UnitDraft) → said ≡ [] → PutsUnits said [] top first lone from u u
units_none said top first lone from u none = subst (λ (w : List (DwUnit ℕ)). PutsUnits w [] top first lone from u u) (sym none) (none_units top first lone from u)

-- ---- the common file, if there is one

abbrev pub file_behind : Option (Bor File) → Option File
file_behind o = option_map {T = Bor File} {U = File} (λ f. f.now) o

abbrev pub index_behind : Option (Bor CrossIndex) → Option CrossIndex
index_behind o = option_map {T = Bor CrossIndex} {U = CrossIndex} (λ x. x.now) o

pub no_file : (common : Option (Bor File)) (index : Option CrossIndex) (said : List (DwUnit ℕ)) (top : ℕ) → common ≡ None → IsCommonSide (file_behind common) index said top → said ≡ []
no_file common index said top none h = subst (λ (o : Option (Bor File)). CommonSays (file_behind o) said) none h.0

pub no_index : (common : Option File) (index : Option (Bor CrossIndex)) (said : List (DwUnit ℕ)) (top : ℕ) → index ≡ None → IsCommonSide common (index_behind index) said top → said ≡ []
no_index common index said top none h = subst (λ (o : Option (Bor CrossIndex)). IsBeside top said (index_behind o)) none h.1

pub shared_file : (common : Option (Bor File)) (index : Option (Bor CrossIndex)) (file : Bor File) (x : Bor CrossIndex) (said : List (DwUnit ℕ)) (top : ℕ) → common ≡ Some file → index ≡ Some x
    → IsCommonSide (file_behind common) (index_behind index) said top → entries_in (raw_beside (option_map (λ (f : Bor File). f.now.units) common)) ≤ 2 ^ 28
    → IsFileSide (record { file = file; common = None; index = x }) said [] top
unfolding entries_in
shared_file common index file x said top e q h few = record {
  side = record {
    says = subst (λ (o : Option (Bor File)). CommonSays (file_behind o) said) e h.0;
    index_is = subst (λ (o : Option (Bor CrossIndex)). IsBeside top said (index_behind o)) q h.1;
    few = subst (λ (o : Option (Bor File)). entries_in (raw_beside (option_map (λ (f : Bor File). f.now.units) o)) ≤ 2 ^ 28) e few;
  };
  beside_it = refl;
  few = omega arith;
}
