-- What the two files of a graph say, and their common one: where numbers stand for places, and with places.
use Rattle.std.proofs.Common.{◌≡◌, ℕ, ◌+◌, ◌^◌, ◌≤◌, true, false, List, [], ◌∷◌, length, map, Option, Some, None, Result, Ok, refl, sym, ap, subst, ◌∙◌, get_or, arith}
use Rattle.std.specs.Option.{option_map}
use Rattle.dwz_def_reading.specs.Documents.{Doc, DwUnit, unit_map}
use Rattle.dwz_def_reading.specs.Files.{Limits, ReadsBy, file_meaning_by, limits_after, no_files_before}
use Rattle.dwz_def_reading.specs.Finished.{FinishedDocs, GivenCommon, ReadFinished, around_in, common_read, given_by, rule_of_back, rule_of_common}
use Rattle.dwz_model.specs.declared.fault.Fault.{Fault}
use Rattle.dwz_def_reading.specs.Meanings.{Around, Sources}
use Rattle.dwz_def_reading.specs.Meant.{units_meaning}
use Rattle.dwz_def_reading.specs.OtherPlaces.{place_numbered}
use Rattle.dwz_def_reading.specs.Places.{Place, at_file}
use Rattle.dwz_def_reading.specs.Rules.{ReadingRule}
use Rattle.dwz_def_reading.specs.Units.{RawUnit, entries_in}
use Rattle.dwz_def_reading.proofs.FileLemmas.{file_agrees_by}
use Rattle.dwz_def_reading.proofs.FinishedLemmas.{finished_agrees}
use Rattle.dwz_def_check.specs.Answer.{beside_common}
use Rattle.dwz_def_check.specs.CrossNames.{cross_tops}
use Rattle.dwz_def_check.specs.CrossNodes.{lone_entries}
use Rattle.dwz_check_columns.proofs.FewNodes.{nodes_fit}
use Rattle.dwz_check_columns.specs.Says.{FileSays}
use Rattle.dwz_check_columns.specs.Shows.{CommonSays, beside}
use Rattle.dwz_check_index.specs.Both.{raw_beside}
use Rattle.dwz_check_labels.specs.Graph.{SayNumbered}
use Rattle.dwz_graph.specs.ByRule.{IsReadBy, doc_placed, numbered_rule}
use Rattle.dwz_graph.specs.Files.{AreBack, AreReadFromBy, FilesRead, HasCommon, finished_or_none, said_finished}
use Rattle.dwz_graph.specs.declared.file.File.{File}
use Rattle.dwz_graph.proofs.IndexRoom.{entries_within}
use Rattle.dwz_graph.specs.Surroundings.{behind_own}
use Rattle.dwz_law_check.specs.MappedRows.{TellsApart, files_map}
use Rattle.dwz_unit.specs.declared.mode.FileKind.{FileKind}
use Rattle.dwz_unit.specs.declared.mode.FileKind.TheVariants.{Back, Common as Shared}
use Rattle.dwz_unit.specs.Rows.{units_of}
use Rattle.dwz_law_check.proofs.Numbered.{alone_units, behind_units, lie_below, means_of, number_behind, numbers_apart, own_apart}
use Rattle.dwz_law_check.proofs.Placed.{ArePlaced, one_meaning}
use Rattle.dwz_check.proofs.Pairs.{pair_read, two_of}

-- what is known of the files, as the graph keeps them, and of the contents that it has
pub record GraphSays (r : FilesRead) (old new : File) (common : Option File) : Type 0 where
  pub a : List (DwUnit ℕ)
  pub b : List (DwUnit ℕ)
  pub c : List (DwUnit ℕ)
  pub numbered : SayNumbered r.common r.back a b c
  pub old_says : FileSays old common a
  pub new_says : FileSays new common b
  pub common_says : CommonSays common c
  pub old_few : entries_in (units_of old.units) ≤ 2 ^ 28
  pub new_few : entries_in (units_of new.units) ≤ 2 ^ 28
  pub common_few : entries_in (raw_beside (option_map (λ f. f.units) common)) ≤ 2 ^ 28
  pub old_nodes : length (cross_tops a) + length (lone_entries a) ≤ 2 ^ 28
  pub new_nodes : length (cross_tops b) + length (lone_entries b) ≤ 2 ^ 28
  pub common_nodes : length (cross_tops c) + length (lone_entries c) ≤ 2 ^ 28
  pub x : Doc Place
  pub y : Doc Place
  pub docs : (said_finished r).docs ≡ x ∷ y ∷ []
  pub read : ReadFinished r.common r.back (said_finished r)
  pub f : ℕ → Place
  pub g : ℕ → Place
  pub old_apart : TellsApart f
  pub new_apart : TellsApart g
  pub old_placed : files_map f (beside a c) ≡ beside_common (said_finished r) x
  pub new_placed : files_map g (beside b c) ≡ beside_common (said_finished r) y

said_is : (r : FilesRead) (said : FinishedDocs) → ReadFinished r.common r.back said → said_finished r ≡ said
unfolding said_finished
said_is r said h = ap finished_or_none (((finished_agrees r.common r.back).ok said).1 h)

reads : {P : Type 0} (rule : ReadingRule P) (l : Limits) (bytes : List ℕ) (raw : List RawUnit) (doc : Doc P) → file_meaning_by rule l bytes ≡ Ok (raw, doc) → ReadsBy rule l bytes raw doc
reads rule l bytes raw doc e = ((file_agrees_by rule l bytes).ok (raw, doc)).0 e

nodes_few : (rule : ReadingRule ℕ) (l : Limits) (bytes : List ℕ) (raw : List RawUnit) (doc : Doc ℕ) → file_meaning_by rule l bytes ≡ Ok (raw, doc)
    → length (cross_tops doc.units) + length (lone_entries doc.units) ≤ 2 ^ 28
nodes_few rule l bytes raw doc e =
    let all = nodes_fit (rule.around bytes raw) raw doc.units (reads rule l bytes raw doc e).means in
    let few = entries_within rule l bytes raw doc e in
    omega (arith, all, few)

no_nodes : length (cross_tops {P = ℕ} []) + length (lone_entries {P = ℕ} []) ≤ 2 ^ 28
unfolding cross_tops lone_entries
no_nodes = omega arith

none_few : entries_in [] ≤ 2 ^ 28
unfolding entries_in
none_few = omega arith

-- ---- without a common file

module _ (placed : ArePlaced) (given : List (List ℕ)) (first second : List ℕ) (old new : File) (k : FileKind)
    (of_old : IsReadBy (numbered_rule (rule_of_back None 0)) k no_files_before 0 first old)
    (of_new : IsReadBy (numbered_rule (rule_of_back None 0)) k (limits_after no_files_before first (units_of old.units)) 1 second new) where
  alone_says : GraphSays (record { common = None; given = given; back = first ∷ second ∷ [] }) old new None
  alone_says =
      let raw = units_of old.units in
      let others = units_of new.units in
      let next = limits_after no_files_before first raw in
      let a = of_old.doc in
      let b = of_new.doc in
      let x = doc_placed (rule_of_back None 0) first raw a in
      let y = doc_placed (rule_of_back None 1) second others b in
      let x_means = placed.back None 0 no_files_before first raw a of_old.means in
      let y_means = placed.back None 1 next second others b of_new.means in
      let r : FilesRead = record { common = None; given = given; back = first ∷ second ∷ [] } in
      let said : FinishedDocs = record { common = None; docs = x ∷ y ∷ [] } in
      let read : ReadFinished None (first ∷ second ∷ []) said =
      (refl, (raw, reads (rule_of_back None 0) no_files_before first raw x x_means, (others, reads (rule_of_back None 1) next second others y y_means, tt))) in
      let is = said_is r said read in
      let own : map (unit_map (at_file 0)) a.units ≡ x.units =
      alone_units 0 first raw a.units x.units (lie_below (rule_of_back None 0) no_files_before first raw x x_means)
      (means_of (numbered_rule (rule_of_back None 0)) no_files_before first raw a of_old.means) (means_of (rule_of_back None 0) no_files_before first raw x x_means) in
      let other : map (unit_map (at_file 1)) b.units ≡ y.units =
      alone_units 1 second others b.units y.units (lie_below (rule_of_back None 1) next second others y y_means)
      (means_of (numbered_rule (rule_of_back None 1)) next second others b of_new.means) (means_of (rule_of_back None 1) next second others y y_means) in
      record {
        a = a.units;
        b = b.units;
        c = [];
        numbered = ((raw, a, of_old.means, refl, (others, b, of_new.means, refl)), refl);
        old_says = record {
          around = (numbered_rule (rule_of_back None 0)).around first raw;
          sources = sym of_old.sections;
          all = refl;
          place = refl;
          common_is = tt;
          means = means_of (numbered_rule (rule_of_back None 0)) no_files_before first raw a of_old.means;
        };
        new_says = record {
          around = (numbered_rule (rule_of_back None 1)).around second others;
          sources = sym of_new.sections;
          all = refl;
          place = refl;
          common_is = tt;
          means = means_of (numbered_rule (rule_of_back None 1)) next second others b of_new.means;
        };
        common_says = refl;
        old_few = entries_within (rule_of_back None 0) no_files_before first raw x x_means;
        new_few = entries_within (rule_of_back None 1) next second others y y_means;
        common_few = none_few;
        old_nodes = nodes_few (numbered_rule (rule_of_back None 0)) no_files_before first raw a of_old.means;
        new_nodes = nodes_few (numbered_rule (rule_of_back None 1)) next second others b of_new.means;
        common_nodes = no_nodes;
        x = x;
        y = y;
        docs = ap (λ (w : FinishedDocs). w.docs) is;
        read = subst (λ (w : FinishedDocs). ReadFinished None (first ∷ second ∷ []) w) (sym is) read;
        f = at_file 0;
        g = at_file 1;
        old_apart = own_apart 0;
        new_apart = own_apart 1;
        old_placed =
            (let here : files_map (at_file 0) (beside a.units []) ≡ beside_common said x = λ i. record { own = own i; common = [] } in
            here ∙ ap (λ (w : FinishedDocs). beside_common w x) (sym is));
        new_placed =
            (let here : files_map (at_file 1) (beside b.units []) ≡ beside_common said y = λ i. record { own = other i; common = [] } in
            here ∙ ap (λ (w : FinishedDocs). beside_common w y) (sym is));
      }

-- ---- beside a common file

module _ (placed : ArePlaced) (given : List (List ℕ)) (bytes first second : List ℕ) (common old new : File) (n : ℕ) (common_kind k : FileKind)
    (of_common : IsReadBy (numbered_rule (rule_of_common 2)) common_kind no_files_before n bytes common)
    (of_old : IsReadBy (numbered_rule (rule_of_back (Some (common_read (first ∷ second ∷ []) bytes (units_of common.units))) 0)) k
    (limits_after no_files_before bytes (units_of common.units)) 0 first old)
    (of_new : IsReadBy (numbered_rule (rule_of_back (Some (common_read (first ∷ second ∷ []) bytes (units_of common.units))) 0)) k
    (limits_after (limits_after no_files_before bytes (units_of common.units)) first (units_of old.units)) 1 second new) where
  beside_says : GraphSays (record { common = Some bytes; given = given; back = first ∷ second ∷ [] }) old new (Some common)
  beside_says =
      let shared = units_of common.units in
      let raw = units_of old.units in
      let others = units_of new.units in
      let known : GivenCommon = common_read (first ∷ second ∷ []) bytes shared in
      let l = limits_after no_files_before bytes shared in
      let next = limits_after l first raw in
      let a = of_old.doc in
      let b = of_new.doc in
      let c = of_common.doc in
      let x = doc_placed (rule_of_back (Some known) 0) first raw a in
      let y = doc_placed (rule_of_back (Some known) 1) second others b in
      let z = doc_placed (rule_of_common 2) bytes shared c in
      let x_means = placed.back (Some known) 0 l first raw a of_old.means in
      let y_means = placed.back (Some known) 1 next second others b of_new.means in
      let z_means = placed.common 2 no_files_before bytes shared c of_common.means in
      let r : FilesRead = record { common = Some bytes; given = given; back = first ∷ second ∷ [] } in
      let said : FinishedDocs = record { common = Some z; docs = x ∷ y ∷ [] } in
      let read : ReadFinished (Some bytes) (first ∷ second ∷ []) said = (
        shared,
        z,
        refl,
        reads (rule_of_common 2) no_files_before bytes shared z z_means,
        (raw, reads (rule_of_back (Some known) 0) l first raw x x_means, (others, reads (rule_of_back (Some known) 1) next second others y y_means, tt)),
      ) in
      let is = said_is r said read in
      let f = place_numbered (2 ^ 32) (around_in (Some (given_by 2 bytes shared)) 0 first raw) in
      let g = place_numbered (2 ^ 32) (around_in (Some (given_by 2 bytes shared)) 1 second others) in
      let of_all : (h : ℕ → Place) → ((n : ℕ) → h (behind_own n) ≡ at_file 2 n) → map (unit_map h) (map (unit_map behind_own) c.units) ≡ z.units =
      behind_units 2 bytes shared c.units z.units (lie_below (rule_of_common 2) no_files_before bytes shared z z_means)
      (means_of (numbered_rule (rule_of_common 2)) no_files_before bytes shared c of_common.means) (means_of (rule_of_common 2) no_files_before bytes shared z z_means) in
      let x_common : map (unit_map f) (map (unit_map behind_own) c.units) ≡ z.units =
      of_all f (number_behind (2 ^ 32) (around_in (Some (given_by 2 bytes shared)) 0 first raw)) in
      let y_common : map (unit_map g) (map (unit_map behind_own) c.units) ≡ z.units =
      of_all g (number_behind (2 ^ 32) (around_in (Some (given_by 2 bytes shared)) 1 second others)) in
      let strs = ap (λ (w : Sources). w.strs) (sym of_common.sections) in
      record {
        a = a.units;
        b = b.units;
        c = c.units;
        numbered = (shared, c, of_common.means, refl, (raw, a, of_old.means, refl, (others, b, of_new.means, refl)));
        old_says = record {
          around = (numbered_rule (rule_of_back (Some known) 0)).around first raw;
          sources = sym of_old.sections;
          all = refl;
          place = refl;
          common_is = (refl, refl, strs);
          means = means_of (numbered_rule (rule_of_back (Some known) 0)) l first raw a of_old.means;
        };
        new_says = record {
          around = (numbered_rule (rule_of_back (Some known) 1)).around second others;
          sources = sym of_new.sections;
          all = refl;
          place = refl;
          common_is = (refl, refl, strs);
          means = means_of (numbered_rule (rule_of_back (Some known) 1)) next second others b of_new.means;
        };
        common_says = record {
          around = (numbered_rule (rule_of_common 2)).around bytes shared;
          sources = sym of_common.sections;
          all = refl;
          place = refl;
          common_is = tt;
          means = means_of (numbered_rule (rule_of_common 2)) no_files_before bytes shared c of_common.means;
        };
        old_few = entries_within (rule_of_back (Some known) 0) l first raw x x_means;
        new_few = entries_within (rule_of_back (Some known) 1) next second others y y_means;
        common_few = entries_within (rule_of_common 2) no_files_before bytes shared z z_means;
        old_nodes = nodes_few (numbered_rule (rule_of_back (Some known) 0)) l first raw a of_old.means;
        new_nodes = nodes_few (numbered_rule (rule_of_back (Some known) 1)) next second others b of_new.means;
        common_nodes = nodes_few (numbered_rule (rule_of_common 2)) no_files_before bytes shared c of_common.means;
        x = x;
        y = y;
        docs = ap (λ (w : FinishedDocs). w.docs) is;
        read = subst (λ (w : FinishedDocs). ReadFinished (Some bytes) (first ∷ second ∷ []) w) (sym is) read;
        f = f;
        g = g;
        old_apart = numbers_apart (2 ^ 32) 0 2 (around_in (Some (given_by 2 bytes shared)) 0 first raw) (given_by 2 bytes shared) (λ e. absurd (omega (arith, e))) refl refl refl;
        new_apart = numbers_apart (2 ^ 32) 1 2 (around_in (Some (given_by 2 bytes shared)) 1 second others) (given_by 2 bytes shared) (λ e. absurd (omega (arith, e))) refl refl refl;
        old_placed =
            (let here : files_map f (beside a.units c.units) ≡ beside_common said x = λ i. record { own = x.units; common = x_common i } in
            here ∙ ap (λ (w : FinishedDocs). beside_common w x) (sym is));
        new_placed =
            (let here : files_map g (beside b.units c.units) ≡ beside_common said y = λ i. record { own = y.units; common = y_common i } in
            here ∙ ap (λ (w : FinishedDocs). beside_common w y) (sym is));
      }

-- ---- of a graph

-- its two files, in order
pub record GraphOf (r : FilesRead) (common : Option File) (files : List File) : Type 0 where
  pub old : File
  pub new : File
  pub are : files ≡ old ∷ new ∷ []
  pub says : GraphSays r old new common

says_by : ArePlaced → (given : List (List ℕ)) (o : Option (List ℕ)) (first second : List ℕ) (n : ℕ) (common : Option File) (files : List File) → HasCommon n o common
    → AreBack o (first ∷ second ∷ []) files → GraphOf (record { common = o; given = given; back = first ∷ second ∷ [] }) common files
says_by placed given None first second n None files c h =
    let p = pair_read (IsReadBy (numbered_rule (rule_of_back None 0)) (Back false)) no_files_before first second files h.end h.are in
    record { old = p.0; new = p.1; are = p.2; says = alone_says placed given first second p.0 p.1 (Back false) p.3 p.4 }
says_by placed given None first second n (Some f) files c h = absurd c
says_by placed given (Some bytes) first second n None files c h = absurd c
says_by placed given (Some bytes) first second n (Some f) files c h =
    let same : h.0 ≡ units_of f.units = (one_meaning (numbered_rule (rule_of_common 2)) no_files_before bytes h.0 (units_of f.units) h.1 c.doc h.2 c.means).0 in
    let from : AreReadFromBy (numbered_rule (rule_of_back (Some (common_read (first ∷ second ∷ []) bytes (units_of f.units))) 0)) (Back true)
    (limits_after no_files_before bytes (units_of f.units)) (first ∷ second ∷ []) files =
    subst (λ (raw : List RawUnit). AreReadFromBy (numbered_rule (rule_of_back (Some (common_read (first ∷ second ∷ []) bytes raw)) 0)) (Back true) (limits_after no_files_before bytes raw)
    (first ∷ second ∷ []) files) same h.3 in
    let p = pair_read (IsReadBy (numbered_rule (rule_of_back (Some (common_read (first ∷ second ∷ []) bytes (units_of f.units))) 0)) (Back true))
    (limits_after no_files_before bytes (units_of f.units)) first second files from.end from.are in
    record { old = p.0; new = p.1; are = p.2; says = beside_says placed given bytes first second f p.0 p.1 n Shared (Back true) c p.3 p.4 }

pub graph_of : ArePlaced → (r : FilesRead) (n : ℕ) (common : Option File) (files : List File) → length r.back ≡ 2 → HasCommon n r.common common → AreBack r.common r.back files
    → GraphOf r common files
graph_of placed r n common files two c h =
    let p = two_of r.back two in
    let own : AreBack r.common (p.0 ∷ p.1 ∷ []) files = subst (λ (xs : List (List ℕ)). AreBack r.common xs files) p.2 h in
    subst (λ (xs : List (List ℕ)). GraphOf (record { common = r.common; given = r.given; back = xs }) common files) (sym p.2) (says_by placed r.given r.common p.0 p.1 n common files c own)

pub pair_long : (r : FilesRead) (common : Option File) (files : List File) → GraphOf r common files → length files ≡ 2
pair_long r common files h = ap (λ (w : List File). length w) h.are

-- the files by their numbers
pub says_at : (r : FilesRead) (common : Option File) (files : List File) (old new : File) → GraphOf r common files → old ≡ get_or files 0 old → new ≡ get_or files 1 new → GraphSays r old new common
says_at r common files old new h x y =
    let first : h.old ≡ old = sym (x ∙ ap (λ (w : List File). get_or w 0 old) h.are) in
    let second : h.new ≡ new = sym (y ∙ ap (λ (w : List File). get_or w 1 new) h.are) in
    subst (λ (w : File). GraphSays r old w common) second (subst (λ (w : File). GraphSays r w h.new common) first h.says)

none_meant : (around : Around ℕ) (c : List (DwUnit ℕ)) → c ≡ [] → units_meaning around [] ≡ Ok c
unfolding units_meaning
none_meant around c e = ap (λ (w : List (DwUnit ℕ)). let r : Result (List (DwUnit ℕ)) Fault = Ok w in r) (sym e)

-- whatever surrounds the units of no file
pub common_meant : (any : Around ℕ) (common : Option File) (c : List (DwUnit ℕ)) → CommonSays common c
    → (around : Around ℕ) × (units_meaning around (raw_beside (option_map (λ f. f.units) common)) ≡ Ok c)
common_meant any None c h = (any, none_meant any c h)
common_meant any (Some f) c h = (h.around, h.means)
