-- Entries below an entry, one sibling after the other.
use Rattle.std.proofs.Common.{◌≡◌, ℕ, suc, ◌+◌, ◌-◌, ◌<◌, ◌≤◌, List, [], ◌∷◌, ◌++◌, Some, slice_get, refl, sym, ap, subst, ◌∙◌, arith, append_assoc, append-nil}
use Rattle.dwz_def_reading.proofs.ListFacts.{got_map}
use Rattle.dwz_def_reading.specs.Documents.{Entries, Node, entries_map, node_map}
use Rattle.dwz_def_reading.specs.Entries.{RawEntry}
use Rattle.dwz_def_reading.specs.Meanings.{MeanEntries, MeaningContext, MeansNode}
use Rattle.dwz_def_reading.specs.Trees.{End, Entry, Forest, Position, behind, first_below, size}
use Rattle.dwz_def_reading.specs.Units.{RawUnit, entries_in}
use Rattle.dwz_def_tops.specs.Spots.{EntryName}
use Rattle.dwz_def_explain.specs.What.{Subtree, subtree}
use Rattle.dwz_def_explain.specs.Texts.{child_at, entry_along}
use Rattle.dwz_graph.specs.Building.{HasList, IsList}
use Rattle.dwz_graph.proofs.ListLemmas.{list_next, some_entry, within}
use Rattle.dwz_unit.proofs.RowsFound.{row_there}
use Rattle.dwz_unit.specs.declared.rows.RawEntry.{RawEntry as EntryOfCode}
use Rattle.dwz_unit.specs.Rows.{EntryRow, entry_shown, rows_below, rows_of, shown_entries}
use Rattle.dwz_explain.specs.Shown.{HasSubtree, MeansList, MeansSubtree}

-- the first entry of a list by itself, with all below it
alone_list : (raw : List RawUnit) (first end to : ℕ) (e : RawEntry) (c n : Forest RawEntry) → IsList raw first end (Entry e c n) → to ≡ first + 1 + size c → IsList raw first to (Entry e c End)
unfolding rows_below
alone_list raw first end to e c n is same =
    let p : Position = record { before = first; depth = is.depth } in
    let row : EntryRow = record { entry = e; unit = is.unit; depth = is.depth; end = first + 1 + size c } in
    let below = rows_below c is.unit (first_below p) in
    let others = rows_below n is.unit (behind p c) in
    record {
      unit = is.unit;
      depth = is.depth;
      after = others ++ is.after;
      rows = is.rows ∙ ap (λ (w : List EntryRow). row ∷ w) (append_assoc below others is.after ∙ ap (λ (w : List EntryRow). w ++ (others ++ is.after)) (sym (append-nil below)));
      ends = omega arith;
    }

-- the first entry of a list: what it means, its children, and those behind it
pub record Firsts (s : MeaningContext ℕ) (name : ℕ → EntryName) (raw : List RawUnit) (first end : ℕ) (r : EntryOfCode) (n : Node EntryName) (b k : Entries EntryName) : Type 0 where
  pub children : MeansList s name raw (first + 1) r.end b
  pub next : MeansList s name raw r.end end k
  pub only : MeansSubtree s name raw first (subtree n b)
  pub row : EntryRow
  pub found : slice_get (rows_of raw) first ≡ Some row
  pub d : Node ℕ
  pub means : MeansNode s row.entry d
  pub node : n ≡ node_map name d

module _ (s : MeaningContext ℕ) (name : ℕ → EntryName) (raw : List RawUnit) where
  pub firsts : (first end : ℕ) (r : EntryOfCode) (n : Node EntryName) (b k : Entries EntryName) → slice_get (shown_entries raw) first ≡ Some r → MeansList s name raw first end (Entry n b k)
      → Firsts s name raw first end r n b k
  unfolding entries_map
  firsts first end r n b k shown h = by h.list h.meant h.stands h.means h.are where
    by : (list : Forest RawEntry) (meant : Entries ℕ) → IsList raw first end list → MeanEntries s list meant → Entry n b k ≡ entries_map name meant → Firsts s name raw first end r n b k
    by End End is m e = absurd cc
    by End (Entry d g o) is m e = absurd m
    by (Entry x c l) End is m e = absurd m
    by (Entry x c l) (Entry d g o) is m e =
        let z = list_next raw first end r x c l is shown in
        let node : n ≡ node_map name d = cc in
        let below : b ≡ entries_map name g = cc in
        let behind_it : k ≡ entries_map name o = cc in
        record {
          children = record { list = c; meant = g; stands = z.children_are; means = m.1; are = below };
          next = record { list = l; meant = o; stands = z.next_are; means = m.2; are = behind_it };
          only = record {
            end = r.end;
            is = record {
              list = Entry x c End;
              meant = Entry d g End;
              stands = alone_list raw first end r.end x c l is z.ends;
              means = (m.0, m.1, tt);
              are = λ i. Entry (node i) (below i) End;
            };
          };
          row = z.row;
          found = z.found;
          d = d;
          means = subst (λ (w : RawEntry). MeansNode s w d) (sym z.entry) m.0;
          node = node;
        }

  -- a list with a first entry
  record Nonempty (f : Entries EntryName) : Type 0 where
    n : Node EntryName
    b : Entries EntryName
    k : Entries EntryName
    is : f ≡ Entry n b k

  nonempty : (first end : ℕ) (f : Entries EntryName) → first < end → MeansList s name raw first end f → Nonempty f
  unfolding entries_map
  nonempty first end f lt h = by h.list h.meant h.stands h.means h.are where
    by : (list : Forest RawEntry) (meant : Entries ℕ) → IsList raw first end list → MeanEntries s list meant → f ≡ entries_map name meant → Nonempty f
    by End meant is m e = absurd (let z = is.ends in omega arith)
    by (Entry x c l) End is m e = absurd m
    by (Entry x c l) (Entry d g o) is m e = record { n = node_map name d; b = entries_map name g; k = entries_map name o; is = e }

  none_left : (first end : ℕ) (f : Entries EntryName) → end ≤ first → MeansList s name raw first end f → f ≡ End
  unfolding entries_map
  none_left first end f ge h = by h.list h.meant h.stands h.means h.are where
    by : (list : Forest RawEntry) (meant : Entries ℕ) → IsList raw first end list → MeanEntries s list meant → f ≡ entries_map name meant → f ≡ End
    by End End is m e = e
    by End (Entry d g o) is m e = absurd m
    by (Entry x c l) meant is m e = absurd (let z = is.ends in omega arith)

  child_none : (x : Subtree) (i : ℕ) → child_at x i End ≡ x
  unfolding child_at
  child_none x i = refl

  child_first : (x : Subtree) (n : Node EntryName) (b k : Entries EntryName) → child_at x 0 (Entry n b k) ≡ subtree n b
  unfolding child_at
  child_first x n b k = refl

  child_later : (x : Subtree) (i : ℕ) (n : Node EntryName) (b k : Entries EntryName) → child_at x (suc i) (Entry n b k) ≡ child_at x i k
  unfolding child_at
  child_later x i n b k = refl

-- ---- siblings that were passed

-- these are left, and among them the child is
pub record Left (s : MeaningContext ℕ) (name : ℕ → EntryName) (raw : List RawUnit) (x : Subtree) (index passed at end : ℕ) : Type 0 where
  pub rest : Entries EntryName
  pub is : MeansList s name raw at end rest
  pub same : child_at x index x.below ≡ child_at x (index - passed) rest

pub record Passes (raw : List RawUnit) (entry index passed at end : ℕ) : Type 0 where
  pub list : HasList raw at end
  pub left : (s : MeaningContext ℕ) (name : ℕ → EntryName) (x : Subtree) → MeansSubtree s name raw entry x → Left s name raw x index passed at end

pub begins : (raw : List RawUnit) (entry index : ℕ) (r : EntryOfCode) → HasSubtree raw entry → slice_get (shown_entries raw) entry ≡ Some r → Passes raw entry index 0 (entry + 1) r.end
begins raw entry index r has shown =
    let z = list_next raw entry has.end r has.top has.children End has.is shown in
    record {
      list = record { list = has.children; is = z.children_are };
      left = λ s name x m. (
          let f = firsts s name raw entry m.end r x.node x.below End shown m.is in
          let none : index ≡ index - 0 = omega arith in
          record { rest = x.below; is = f.children; same = ap (λ (n : ℕ). child_at x n x.below) none });
    }

-- the end is behind the entry
pub some_room : (raw : List RawUnit) (entry : ℕ) (r : EntryOfCode) → HasSubtree raw entry → slice_get (shown_entries raw) entry ≡ Some r → entry + 1 ≤ r.end
some_room raw entry r has shown =
    let z = list_next raw entry has.end r has.top has.children End has.is shown in
    let e = z.ends in
    omega arith

pub entry_there : (raw : List RawUnit) (entry : ℕ) → HasSubtree raw entry → entry < entries_in raw
entry_there raw entry has =
    let e = has.is.ends in
    let low : entry < has.end = omega arith in
    let all = within raw entry has.end (record { list = Entry has.top has.children End; is = has.is }) low in
    omega arith

pub shown_there : (raw : List RawUnit) (at : ℕ) → at < entries_in raw → (r : EntryOfCode) × (slice_get (shown_entries raw) at ≡ Some r)
shown_there raw at lt = let row = row_there raw at lt in (entry_shown row.0, got_map entry_shown (rows_of raw) at row.0 row.1)

pub sibling_there : (raw : List RawUnit) (entry index passed at end : ℕ) → Passes raw entry index passed at end → at < end → at < entries_in raw
sibling_there raw entry index passed at end p lt = let all = within raw at end p.list lt in omega arith

pub passes_one : (raw : List RawUnit) (entry index passed at end : ℕ) (r : EntryOfCode) → Passes raw entry index passed at end → passed < index → at < end → slice_get (shown_entries raw) at ≡ Some r
    → Passes raw entry index (passed + 1) r.end end
passes_one raw entry index passed at end r p more lt shown =
    let h = some_entry raw at end p.list lt in
    let z = list_next raw at end r h.entry h.children h.next h.is shown in
    record {
      list = record { list = h.next; is = z.next_are };
      left = λ s name x m. (
          let l = p.left s name x m in
          let o = nonempty s name raw at end l.rest lt l.is in
          let are = subst (MeansList s name raw at end) o.is l.is in
          let f = firsts s name raw at end r o.n o.b o.k shown are in
          let one : index - passed ≡ suc (index - (passed + 1)) = omega arith in
          record {
            rest = o.k;
            is = f.next;
            same = l.same ∙ (λ i. child_at x (one i) (o.is i)) ∙ child_later s name raw x (index - (passed + 1)) o.n o.b o.k;
          });
    }

-- no child is left
pub none_there : (raw : List RawUnit) (entry index passed at end : ℕ) → Passes raw entry index passed at end → end ≤ at → (s : MeaningContext ℕ) (name : ℕ → EntryName) (x : Subtree)
    → MeansSubtree s name raw entry x → MeansSubtree s name raw entry (child_at x index x.below)
none_there raw entry index passed at end p ge s name x m =
    let l = p.left s name x m in
    let same = l.same ∙ ap (child_at x (index - passed)) (none_left s name raw at end l.rest ge l.is) ∙ child_none s name raw x (index - passed) in
    subst (MeansSubtree s name raw entry) (sym same) m

-- the child is the first that is left
pub child_there : (raw : List RawUnit) (entry index passed at end : ℕ) → Passes raw entry index passed at end → index ≤ passed → at < end
    → (s : MeaningContext ℕ) (name : ℕ → EntryName) (x : Subtree) → MeansSubtree s name raw entry x → MeansSubtree s name raw at (child_at x index x.below)
child_there raw entry index passed at end p none lt s name x m =
    let r = shown_there raw at (sibling_there raw entry index passed at end p lt) in
    let l = p.left s name x m in
    let o = nonempty s name raw at end l.rest lt l.is in
    let are = subst (MeansList s name raw at end) o.is l.is in
    let f = firsts s name raw at end r.0 o.n o.b o.k r.1 are in
    let zero_left : index - passed ≡ 0 = omega arith in
    let same = l.same ∙ (λ i. child_at x (zero_left i) (o.is i)) ∙ child_first s name raw x o.n o.b o.k in
    subst (MeansSubtree s name raw at) (sym same) f.only

pub has_child : (raw : List RawUnit) (entry index passed at end : ℕ) → Passes raw entry index passed at end → at < end → HasSubtree raw at
has_child raw entry index passed at end p lt =
    let r = shown_there raw at (sibling_there raw entry index passed at end p lt) in
    let h = some_entry raw at end p.list lt in
    let z = list_next raw at end r.0 h.entry h.children h.next h.is r.1 in
    record { end = r.0.end; top = h.entry; children = h.children; is = alone_list raw at end r.0.end h.entry h.children h.next h.is z.ends }

-- ---- a path

pub along_none : (x : Subtree) → entry_along [] x ≡ x
unfolding entry_along
along_none x = refl

pub along_more : (path : List ℕ) (i : ℕ) (x : Subtree) → entry_along (path ++ i ∷ []) x ≡ child_at (entry_along path x) i (entry_along path x).below
unfolding entry_along
along_more [] i x = refl
along_more (j ∷ path) i x = along_more path i (child_at x j x.below)
