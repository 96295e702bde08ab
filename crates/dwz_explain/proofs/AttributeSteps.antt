-- Attributes of an entry by their numbers, without DW_AT_sibling.
use Rattle.std.proofs.Common.{◌≡◌, ℕ, zero, suc, ◌==◌, Bool, true, false, List, [], ◌∷◌, drop, map, Option, Some, slice_get, refl, sym, ap, ◌∙◌}
use Rattle.std.specs.Prelude.{if◌then◌else◌, not}
use Rattle.std.specs.List.{filter}
use Rattle.std.specs.Option.{option_map}
use Rattle.dwz_def_reading.specs.Input.{Input}
use Rattle.dwz_model.specs.declared.place.Pair.{Pair}
use Rattle.dwz_def_reading.specs.Documents.{Attr, Node, attr_map}
use Rattle.dwz_def_reading.specs.Entries.{RawAttr}
use Rattle.dwz_def_reading.specs.Meanings.{MeanAttrs, MeaningContext, without_siblings}
use Rattle.dwz_def_reading.specs.Trees.{End}
use Rattle.dwz_def_reading.specs.Units.{RawUnit}
use Rattle.dwz_def_tops.specs.Spots.{EntryName}
use Rattle.dwz_def_explain.specs.What.{Subtree}
use Rattle.dwz_unit.specs.Values.{Reads}
use Rattle.dwz_unit.specs.Rows.{EntryRow, rows_of, shown_entries}
use Rattle.dwz_unit.specs.declared.rows.RawEntry.{RawEntry as EntryOfCode}
use Rattle.dwz_def_reading.proofs.AttrPairs.{read_pairs}
use Rattle.dwz_explain.specs.Shown.{MeansSubtree}
use Rattle.dwz_explain.proofs.ChildSteps.{firsts}

abbrev pub counts : Pair → Bool
counts pair = not (pair.name == 0x01)

abbrev pub name_in : List Pair → ℕ → Option ℕ
name_in pairs index = option_map (λ (pair : Pair). pair.name) (slice_get (filter counts pairs) index)

-- ---- one after the other

name_passed : (pair : Pair) (pairs : List Pair) (index : ℕ) → (pair.name == 0x01) ≡ true → name_in (pair ∷ pairs) index ≡ name_in pairs index
name_passed pair pairs index e = rw (e) refl

name_first : (pair : Pair) (pairs : List Pair) → (pair.name == 0x01) ≡ false → name_in (pair ∷ pairs) 0 ≡ Some pair.name
name_first pair pairs e = rw (e) refl

name_later : (pair : Pair) (pairs : List Pair) (index : ℕ) → (pair.name == 0x01) ≡ false → name_in (pair ∷ pairs) (suc index) ≡ name_in pairs index
name_later pair pairs index e = rw (e) refl

-- ---- what they mean

abbrev pair_of : RawAttr → Pair
pair_of a = a.pair

abbrev meant_at : (ℕ → EntryName) → List (Attr ℕ) → ℕ → Option ℕ
meant_at name attrs index = option_map (λ (a : Attr EntryName). a.name) (slice_get (map (attr_map name) attrs) index)

one_more : (s : MeaningContext ℕ) (name : ℕ → EntryName) (a : RawAttr) (raw : List RawAttr)
    → ((attrs : List (Attr ℕ)) (index : ℕ) → MeanAttrs s (without_siblings raw) attrs → name_in (map pair_of raw) index ≡ meant_at name attrs index) → (t : Bool) → (a.pair.name == 0x01) ≡ t
    → (attrs : List (Attr ℕ)) (index : ℕ) → MeanAttrs s (if t then without_siblings raw else a ∷ without_siblings raw) attrs → name_in (map pair_of (a ∷ raw)) index ≡ meant_at name attrs index
one_more s name a raw more true e attrs index m = name_passed a.pair (map pair_of raw) index e ∙ more attrs index m
one_more s name a raw more false e [] index m = absurd m
one_more s name a raw more false e (b ∷ attrs) zero m = name_first a.pair (map pair_of raw) e ∙ ap Some (sym m.0.name)
one_more s name a raw more false e (b ∷ attrs) (suc index) m = name_later a.pair (map pair_of raw) index e ∙ more attrs index m.1

meant_names : (s : MeaningContext ℕ) (name : ℕ → EntryName) (raw : List RawAttr) (attrs : List (Attr ℕ)) (index : ℕ) → MeanAttrs s (without_siblings raw) attrs
    → name_in (map pair_of raw) index ≡ meant_at name attrs index
unfolding without_siblings
meant_names s name [] [] index h = refl
meant_names s name [] (b ∷ attrs) index h = absurd h
meant_names s name (a ∷ raw) attrs index h = one_more s name a raw (meant_names s name raw) (a.pair.name == 0x01) refl attrs index h

pub name_is : (raw : List RawUnit) (entry index : ℕ) (r : EntryOfCode) (at : Input) (pairs : List Pair) (found : Option ℕ) → slice_get (shown_entries raw) entry ≡ Some r
    → ((row : EntryRow) → slice_get (rows_of raw) entry ≡ Some row → Reads row.entry.at pairs at row.entry.attrs) → found ≡ name_in pairs index
    → (s : MeaningContext ℕ) (name : ℕ → EntryName) (x : Subtree) → MeansSubtree s name raw entry x → found ≡ option_map (λ (a : Attr EntryName). a.name) (slice_get x.node.attrs index)
name_is raw entry index r at pairs found shown read is s name x m =
    let f = firsts s name raw entry m.end r x.node x.below End shown m.is in
    let reads = read f.row f.found in
    let same : map pair_of f.row.entry.attrs ≡ pairs = sym (read_pairs f.row.entry.at pairs at reads.behind f.row.entry.attrs reads.read) in
    is ∙ ap (λ (w : List Pair). name_in w index) (sym same) ∙ meant_names s name f.row.entry.attrs f.d.attrs index f.means.attrs
    ∙ ap (λ (w : Node EntryName). option_map (λ (a : Attr EntryName). a.name) (slice_get w.attrs index)) (sym f.node)

-- the pair is there, where as many that count come before it
pub record Names (pairs : List Pair) (index passed left : ℕ) : Type 0 where
  pub same : name_in pairs index ≡ name_in (drop passed pairs) left
