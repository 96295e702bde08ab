-- Where a top stands in its file: what its label is written from.
use Rattle.std.proofs.Common.{◌≡◌, ℕ, ◌+◌, ◌-◌, ◌<◌, ◌≤◌, List, [], ◌∷◌, ◌++◌, length, drop, Some, slice_get, Ok, refl, sym, ap, subst, ◌∙◌, arith}
use Rattle.std.specs.Prelude.{reverse, slice_index}
use Rattle.std.proofs.lemmas.List.{length-map, reverse-append, reverse-reverse}
use Rattle.dwz_graph.specs.Across.{IsFileAmong, name_at}
use Rattle.dwz_graph.specs.AcrossLaws.{GivesTop}
use Rattle.dwz_graph.proofs.FileEntries.{gives_top, names_entries}
use Rattle.dwz_graph.proofs.FileWalk.{is_among}
use Rattle.dwz_def_tops.specs.Spots.{EntryName, SpaceName, Top, tops_of, units_of}
use Rattle.dwz_label_entries.specs.Targets.{KnowsNames}
use Rattle.dwz_label_files.specs.declared.run.Run.{Run}
use Rattle.dwz_label_files.specs.declared.unit.UnitRow.{UnitRow}
use Rattle.dwz_label_files.specs.Run.{AreReady, IsInFile, IsRun, IsTopIn, labels_of}
use Rattle.dwz_label_files.specs.Unit.{IsUnitRow}
use Rattle.dwz_def_reading.specs.Trees.{End, Entry, size}
use Rattle.dwz_def_reading.specs.Units.{RawUnit, entries_in}
use Rattle.dwz_def_reading.proofs.ListFacts.{got_below, got_index_or, got_map, got_there, same_got}
use Rattle.dwz_graph.specs.Rows.{AreTargets, nodes, nodes_refs}
use Rattle.dwz_graph.specs.FlatTops.{HasTop}
use Rattle.dwz_graph.specs.declared.file.File.{File}
use Rattle.dwz_graph.specs.Files.{docs_of}
use Rattle.dwz_graph.specs.declared.index.SpaceEntry.{SpaceEntry}
use Rattle.dwz_graph.specs.declared.index.Starts.{Starts}
use Rattle.dwz_graph.specs.declared.index.TopEntry.{TopEntry}
use Rattle.dwz_graph.specs.Chains.{AreSpacesAt, IsOut, LeadsOut}
use Rattle.dwz_graph.specs.Index.{Index}
use Rattle.dwz_graph.proofs.ChainLemmas.{leads_out}
use Rattle.dwz_label.specs.Labels.{label_of}
use Rattle.dwz_label.specs.Shown.{nth_label}
use Rattle.dwz_def_reading.specs.Documents.{Doc}
use Rattle.dwz_def_reading.specs.Files.{around_of}
use Rattle.dwz_def_reading.specs.Meanings.{Around, Sources, alone, scope_of}
use Rattle.dwz_def_reading.specs.Meant.{unit_meaning}
use Rattle.dwz_graph.specs.Parts.{HasLine}
use Rattle.dwz_graph.specs.Resolved.{around}
use Rattle.dwz_def_reading.specs.Lists.{Each}
use Rattle.dwz_unit.proofs.RowsFound.{rows-length}
use Rattle.dwz_move.specs.Known.{KnowsRefs, tops_of_refs}
use Rattle.dwz_graph.specs.Standing.{StandsAt}
use Rattle.dwz_move.proofs.FileSteps.{rows_meant}
use Rattle.dwz_unit.specs.declared.rows.RawEntry.{RawEntry}
use Rattle.dwz_unit.specs.Rows.{entry_shown, rows_of, shown_entries, units_of as raw_units}

-- ---- spaces

-- the same the other way round
snoc_spaces : (raw : List RawUnit) (a : Around ℕ) (n : ℕ) (names : List SpaceName) (entries : List ℕ) (name : SpaceName) (e : ℕ) → AreSpacesAt raw a n names entries
    → AreSpacesAt raw a n (name ∷ []) (e ∷ []) → AreSpacesAt raw a n (names ++ name ∷ []) (entries ++ e ∷ [])
snoc_spaces raw a n [] [] name e h one = one
snoc_spaces raw a n [] (k ∷ entries) name e h one = absurd h
snoc_spaces raw a n (x ∷ names) [] name e h one = absurd h
snoc_spaces raw a n (x ∷ names) (k ∷ entries) name e h one = (h.0, snoc_spaces raw a n names entries name e h.1 one)

turned : (raw : List RawUnit) (a : Around ℕ) (n : ℕ) (names : List SpaceName) (entries : List ℕ) → AreSpacesAt raw a n names entries → AreSpacesAt raw a n (reverse names) (reverse entries)
turned raw a n [] [] h = tt
turned raw a n [] (k ∷ entries) h = absurd h
turned raw a n (x ∷ names) [] h = absurd h
turned raw a n (x ∷ names) (k ∷ entries) h =
    subst (λ (w : List SpaceName). AreSpacesAt raw a n w (reverse (k ∷ entries))) (sym (reverse-append (x ∷ []) names))
    (subst (λ (w : List ℕ). AreSpacesAt raw a n (reverse names ++ x ∷ []) w) (sym (reverse-append (k ∷ []) entries))
    (snoc_spaces raw a n (reverse names) (reverse entries) x k (turned raw a n names entries h.1) (h.0, tt)))

each_there : (raw : List RawUnit) (a : Around ℕ) (n : ℕ) (names : List SpaceName) (entries : List ℕ) → AreSpacesAt raw a n names entries → Each (λ i. i < entries_in raw) entries
each_there raw a n [] [] h = tt
each_there raw a n [] (k ∷ entries) h = absurd h
each_there raw a n (x ∷ names) [] h = absurd h
each_there raw a n (x ∷ names) (k ∷ entries) h = (let low = got_below (rows_of raw) k h.0.row h.0.found in let many = rows-length raw in omega arith, each_there raw a n names entries h.1)

-- ---- a top

-- what stands from one entry to before another means the top, and names what the numbers say
pub record TopAt (a : Around ℕ) (raw : List RawUnit) (name : ℕ → EntryName) (u : RawUnit) (n : ℕ) (t : Top) (first end : ℕ) (refs : List ℕ) : Type 0 where
  pub has : HasTop (scope_of a u) name (rows_of raw) n 2 t.spaces t
  pub from : has.p.before ≡ first
  pub to : first + size (Entry has.e has.c End) ≡ end
  pub targets : AreTargets raw refs (nodes_refs (nodes (Entry has.d has.g End)))

module _ (contents : List (List ℕ)) (file : ℕ) (bytes : List ℕ) (f : File) (x : Index) (is : IsFileAmong contents file bytes f x) where
  abbrev raw : List RawUnit
  raw = raw_units f.units

  abbrev doc : Doc ℕ
  doc = is.kept.read.doc

  abbrev name : ℕ → EntryName
  name = name_at x.starts doc

  abbrev a : Around ℕ
  a = around f.sections raw

  same_around : around_of bytes raw ≡ a
  same_around = ap (λ (w : Sources). alone w raw) (sym is.kept.read.sections)

  -- the names of its entries
  pub knows_names : KnowsNames raw name x
  knows_names = record { names = _; shown = is.index.names; named = names_entries contents file bytes f x is }

  -- the line table of a unit
  pub line_of : (n : ℕ) (u : RawUnit) (line : _) → slice_get raw n ≡ Some u → slice_get f.resolved.lines.items n ≡ Some line → HasLine a u f.resolved.tables.items line
  line_of n u line p q = subst (λ (w : Around ℕ). HasLine w u f.resolved.tables.items line) same_around (is.kept.read.lines.line n u line p q)

  module _ (k : ℕ) (e : TopEntry) (entry : slice_get x.tops k ≡ Some e) where
    abbrev gives : GivesTop contents file bytes f x is k e
    gives = gives_top contents file bytes f x is k e entry

    abbrev t : Top
    t = gives.top

    -- its entry is one of the file's
    pub entry_there : e.entry < entries_in raw
    entry_there = gives.top_is.within

    -- the spaces around it
    pub leads : LeadsOut raw (around_of bytes raw) x.starts x.spaces e t
    leads = subst (λ (w : List SpaceEntry). LeadsOut raw (around_of bytes raw) x.starts w e t) (sym is.index.tops.spaces_are)
        (leads_out is.kept.limits bytes raw doc x.starts file name k e t is.kept.read.means (ap (λ (w : List TopEntry). slice_get w k) (sym is.index.tops.tops_are) ∙ entry) gives.top_is.of_file)

    pub outward : (starts : Starts) (spaces : List SpaceEntry) → starts ≡ x.starts → spaces ≡ x.spaces → IsOut starts.space spaces e.inner leads.entries
    outward starts spaces same_starts same_spaces =
        subst (λ (w : Starts). IsOut w.space spaces e.inner leads.entries) (sym same_starts) (subst (λ (w : List SpaceEntry). IsOut x.starts.space w e.inner leads.entries) (sym same_spaces) leads.out)

    -- its unit is one of the file's
    pub unit_there : (n : ℕ) × (n < length raw) × (e.unit ≡ x.starts.unit + n)
    unit_there =
        let low = entry_there in
        let many : length (shown_entries raw) ≡ length (rows_of raw) = length-map (rows_of raw) entry_shown in
        let all = rows-length raw in
        let r = got_there (shown_entries raw) e.entry (omega arith) in
        let h = (gives.top_is.stands r.0 r.1).stands in
        (h.n, got_below raw h.n h.u h.is_unit, sym gives.top_is.unit ∙ h.number)

    module _ (row : UnitRow) (unit : IsUnitRow raw (e.unit - x.starts.unit) row) where
      -- it is the top's unit
      number : (n : ℕ) → t.unit ≡ x.starts.unit + n → n ≡ row.here.number
      number n h = let own = gives.top_is.unit in let is_number = unit.number in omega arith

      pub line_there : row.here.number < length f.resolved.lines.items
      line_there =
          let low = got_below raw (e.unit - x.starts.unit) unit.u unit.is_unit in
          let many = is.kept.read.lines.many in
          let is_number = unit.number in
          omega arith

      pub unit_is : slice_get raw row.here.number ≡ Some unit.u
      unit_is = ap (slice_get raw) unit.number ∙ unit.is_unit

      -- the entries of the spaces around it
      pub spaces_of : (entries : List ℕ) → entries ≡ reverse leads.entries → AreSpacesAt raw a row.here.number t.spaces entries
      spaces_of entries same =
          let there = turned raw (around_of bytes raw) leads.n (reverse t.spaces) leads.entries leads.named in
          let own = subst (λ (w : List SpaceName). AreSpacesAt raw (around_of bytes raw) leads.n w (reverse leads.entries)) (reverse-reverse t.spaces) there in
          let here = subst (λ (w : Around ℕ). AreSpacesAt raw w leads.n t.spaces (reverse leads.entries)) same_around own in
          let of_unit = subst (λ (w : ℕ). AreSpacesAt raw a w t.spaces (reverse leads.entries)) (number leads.n leads.number) here in
          subst (λ (w : List ℕ). AreSpacesAt raw a row.here.number t.spaces w) (sym same) of_unit

      pub spaces_there : (entries : List ℕ) → entries ≡ reverse leads.entries → Each (λ i. i < entries_in raw) entries
      spaces_there entries same = each_there raw a row.here.number t.spaces entries (spaces_of entries same)

      module _ (r : RawEntry) (shown : slice_get (shown_entries raw) e.entry ≡ Some r) where
        abbrev stands : StandsAt (around_of bytes raw) name raw doc.units file x.starts.unit t e.entry r.end
        stands = gives.top_is.stands r shown

        abbrev refs : List ℕ
        refs = drop (slice_index f.resolved.starts.items e.entry) f.resolved.refs.items

        same_number : stands.stands.n ≡ row.here.number
        same_number = number stands.stands.n stands.stands.number

        same_unit : stands.stands.u ≡ unit.u
        same_unit = same_got raw row.here.number stands.stands.u unit.u (ap (slice_get raw) (sym same_number) ∙ stands.stands.is_unit) unit_is

        knows : KnowsRefs (around_of bytes raw) raw name f.resolved.refs.items f.resolved.starts.items (tops_of_refs name raw f.resolved.refs.items)
        knows = record { parted = is.kept.read.parts; entries = is.kept.read.within; into_are = refl }

        where_it_stands : TopAt (around_of bytes raw) raw name stands.stands.u stands.stands.n t e.entry r.end refs
        where_it_stands = record {
          has = stands.stands.top;
          from = stands.from;
          to = (let to = stands.to in omega arith);
          targets = (rows_meant (around_of bytes raw) raw name f.resolved.refs.items f.resolved.starts.items (tops_of_refs name raw f.resolved.refs.items) knows doc.units file x.starts.unit t e.entry
              r.end stands).targets;
        }

        pub top_at : TopAt a raw name unit.u row.here.number t e.entry r.end refs
        top_at =
            subst (λ (w : Around ℕ). TopAt w raw name unit.u row.here.number t e.entry r.end refs) same_around
            (subst (λ (w : ℕ). TopAt (around_of bytes raw) raw name unit.u w t e.entry r.end refs) same_number
            (subst (λ (w : RawUnit). TopAt (around_of bytes raw) raw name w stands.stands.n t e.entry r.end refs) same_unit where_it_stands))

        -- it ends in the file
        pub ends_there : r.end ≤ entries_in raw
        ends_there = gives.top_is.ends r shown

        pub language_is : t.language ≡ row.language
        language_is =
            let means = subst (λ (w : RawUnit). unit_meaning (around_of bytes raw) w ≡ Ok stands.stands.v) same_unit stands.stands.means in
            stands.stands.of_language ∙ sym (unit.language (around_of bytes raw) stands.stands.v means)

    -- the label with its number
    pub label_is : nth_label (labels_of contents) (x.starts.top + k) ≡ label_of t
    label_is = got_index_or (labels_of contents) (x.starts.top + k) (label_of t) [] (got_map label_of (tops_of (units_of (docs_of contents))) (x.starts.top + k) t gives.top_is.there)

-- ---- what is known where the label of a top is written

pub record Known (r : Run) (file : ℕ) (f : File) (x : Index) (e : TopEntry) (row : UnitRow) : Type 0 where
  pub bytes : List ℕ
  pub is : IsFileAmong r.graph.now.given file bytes f x
  pub k : ℕ
  pub entry : slice_get x.tops k ≡ Some e
  pub unit : IsUnitRow (raw_units f.units) (e.unit - x.starts.unit) row

pub known : (r : Run) (file : ℕ) (f : File) (x : Index) (e : TopEntry) (row : UnitRow) → IsRun r → slice_get r.files.now file ≡ Some f → slice_get r.indexes.now file ≡ Some x
    → IsTopIn r.files.now r.indexes.now file e row → Known r file f x e row
known r file f x e row run got index h =
    let fe : h.f ≡ f = same_got r.files.now file h.f f h.got got in
    let xe : h.x ≡ x = same_got r.indexes.now file h.x x h.index index in
    let there = is_among r.graph.now.given r.files.now r.indexes.now file f x run.kept run.indexed got index in
    record {
      bytes = there.bytes;
      is = there.is;
      k = h.k;
      entry = subst (λ (w : Index). slice_get w.tops h.k ≡ Some e) xe h.entry;
      unit = subst (λ (w : Index). IsUnitRow (raw_units f.units) (e.unit - w.starts.unit) row) xe (subst (λ (w : File). IsUnitRow (raw_units w.units) (e.unit - h.x.starts.unit) row) fe h.unit);
    }

-- a top by its number: what the index gives it, and its unit in the file
pub record Found (r : Run) (file n : ℕ) (e : TopEntry) : Type 0 where
  pub f : File
  pub x : Index
  pub got : slice_get r.files.now file ≡ Some f
  pub index : slice_get r.indexes.now file ≡ Some x
  pub from : x.starts.top ≤ n
  pub entry : slice_get x.tops (n - x.starts.top) ≡ Some e
  pub m : ℕ
  pub one : m < length (raw_units f.units)
  pub unit : e.unit ≡ x.starts.unit + m

pub found : (r : Run) (file n : ℕ) (e : TopEntry) → IsRun r → IsInFile r.files.now r.indexes.now file n
    → ((x : Index) → slice_get r.indexes.now file ≡ Some x → slice_get x.tops (n - x.starts.top) ≡ Some e) → Found r file n e
found r file n e run h entry =
    let there = is_among r.graph.now.given r.files.now r.indexes.now file h.f h.x run.kept run.indexed h.got h.index in
    let own = entry h.x h.index in
    let u = unit_there r.graph.now.given file there.bytes h.f h.x there.is (n - h.x.starts.top) e own in
    record { f = h.f; x = h.x; got = h.got; index = h.index; from = h.from; entry = own; m = u.0; one = u.1; unit = u.2 }

-- with what is kept of its unit
pub with_row : (r : Run) (file n : ℕ) (e : TopEntry) (row : UnitRow) (h : Found r file n e) → IsUnitRow (raw_units h.f.units) h.m row → IsTopIn r.files.now r.indexes.now file e row
with_row r file n e row h is = record {
  f = h.f;
  x = h.x;
  k = n - h.x.starts.top;
  got = h.got;
  index = h.index;
  entry = h.entry;
  unit = subst (λ (m : ℕ). IsUnitRow (raw_units h.f.units) m row) (let u = h.unit in omega arith) is;
}

-- which stands in the rows of all units
pub kept_row : (r : Run) (rows : List UnitRow) (file n : ℕ) (e : TopEntry) (ready : AreReady r rows) (h : Found r file n e) → (row : UnitRow) × (slice_get rows e.unit ≡ Some row)
    × IsUnitRow (raw_units h.f.units) h.m row
kept_row r rows file n e ready h =
    let own = ready.rows_are file h.f h.x (got_below r.files.now file h.f h.got) h.got h.index h.m h.one in
    (own.row, ap (slice_get rows) h.unit ∙ own.got, own.is)

-- the language of its unit
pub language_found : (r : Run) (file n : ℕ) (e : TopEntry) (row : UnitRow) → IsRun r → (h : Found r file n e) → IsUnitRow (raw_units h.f.units) h.m row
    → (t : Top) → slice_get (tops_of (units_of (docs_of r.graph.now.given))) n ≡ Some t → t.language ≡ row.language
language_found r file n e row run h own t got =
    let contents = r.graph.now.given in
    let tops = tops_of (units_of (docs_of contents)) in
    let among = is_among contents r.files.now r.indexes.now file h.f h.x run.kept run.indexed h.got h.index in
    let raw = raw_units h.f.units in
    let k = n - h.x.starts.top in
    let is_top = (gives_top contents file among.bytes h.f h.x among.is k e h.entry).top_is in
    let from = h.from in
    let at : h.x.starts.top + k ≡ n = omega arith in
    let same : t ≡ (gives_top contents file among.bytes h.f h.x among.is k e h.entry).top =
    same_got tops n t _ got (ap (slice_get tops) (sym at) ∙ is_top.there) in
    let of_unit = h.unit in
    let m : h.m ≡ e.unit - h.x.starts.unit = omega arith in
    let low = entry_there contents file among.bytes h.f h.x among.is k e h.entry in
    let many : length (shown_entries raw) ≡ length (rows_of raw) = length-map (rows_of raw) entry_shown in
    let all = rows-length raw in
    let shown = got_there (shown_entries raw) e.entry (omega arith) in
    ap (λ (w : Top). w.language) same
    ∙ language_is contents file among.bytes h.f h.x among.is k e h.entry row (subst (λ (j : ℕ). IsUnitRow raw j row) m own) shown.0 shown.1

-- the same, by the file and the index that were looked up
pub own_unit : (r : Run) (file n : ℕ) (e : TopEntry) (h : Found r file n e) (f : File) (x : Index) (first : ℕ) → slice_get r.files.now file ≡ Some f → slice_get r.indexes.now file ≡ Some x
    → first ≡ x.starts.unit
    → (first ≤ e.unit) × (e.unit - first < length (raw_units f.units)) × ((row : UnitRow) → IsUnitRow (raw_units f.units) (e.unit - first) row → IsUnitRow (raw_units h.f.units) h.m row)
own_unit r file n e h f x first got index is =
    let fe : f ≡ h.f = same_got r.files.now file f h.f got h.got in
    let xe : x ≡ h.x = same_got r.indexes.now file x h.x index h.index in
    let starts : first ≡ h.x.starts.unit = is ∙ ap (λ (w : Index). w.starts.unit) xe in
    let long : length (raw_units f.units) ≡ length (raw_units h.f.units) = ap (λ (w : File). length (raw_units w.units)) fe in
    let unit = h.unit in
    let one = h.one in
    let m : e.unit - first ≡ h.m = omega arith in
    (omega arith, omega arith, λ row own. subst (λ (k : ℕ). IsUnitRow (raw_units h.f.units) k row) m (subst (λ (w : File). IsUnitRow (raw_units w.units) (e.unit - first) row) fe own))
