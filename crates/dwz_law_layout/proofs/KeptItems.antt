-- The items of a unit that is kept: in the view in which tops and spaces are named by their numbers, its lines have the names of what stays.
use Rattle.std.proofs.Common.{◌≡◌, ℕ, suc, Bool, true, false, List, [], ◌∷◌, ◌++◌, not, refl, sym, subst, inl, inr, arith}
use Rattle.dwz_def_reading.specs.Entries.{RawEntry}
use Rattle.dwz_def_reading.specs.Lists.{Each, In}
use Rattle.dwz_def_reading.specs.Trees.{Forest}
use Rattle.dwz_def_reading.specs.Units.{CompileUnit, PartialUnit, RawKind, TypeUnit}
use Rattle.dwz_def_reading.specs.Documents.{Node, entries_map, node_map}
use Rattle.dwz_def_tops.proofs.Members.{each_append}
use Rattle.dwz_def_tops.specs.Spots.{EntryName, Import, Row, SpaceAt, Top, Within}
use Rattle.dwz_graph.specs.Spaces.{stored_space}
use Rattle.dwz_graph.specs.Steps.{spaces_by, tops_by}
use Rattle.dwz_layout_items.specs.declared.order.Item.{Item}
use Rattle.dwz_layout_items.specs.declared.order.ItemKind.{ItemKind}
use Rattle.dwz_layout_items.specs.declared.order.ItemKind.TheVariants.{Import as Imported, InChain as Chained, Root, Space, Top as ATopOf, Whole}
use Rattle.dwz_layout_items.specs.Lines.{Line, line, lines, row_lines}
use Rattle.dwz_layout_items.specs.Order.{import_lines, order_lines}
use Rattle.dwz_layout_items.specs.Outline.{View}
use Rattle.dwz_def_images.specs.Plan.{pinned_first, row_staying}
use Rattle.dwz_layout_order.specs.declared.marks.Marks.{Marks}
use Rattle.dwz_layout_order.specs.declared.outline.Next.{Next}
use Rattle.dwz_layout_order.specs.Kept.{IsKept, IsWhole}
use Rattle.dwz_layout_order.specs.Marks.{mark_at}
use Rattle.dwz_law_layout.specs.Items.{IsOfKept, IsOneOf, KeptNames, item}
use Rattle.dwz_law_layout.proofs.KeptRows.{IsNumberedSpace, IsNumberedTop, RowHas, Stays, first_has, lines_have, numbered_row, numbered_shown, numbered_top, numbers_within, staying_has, view_by}
use Rattle.dwz_law_layout.proofs.Telling.{AsTold, OfLine, root_then, telling, whole_alone}

stays_so : (b : Bool) → not b ≡ false → b ≡ true
stays_so true h = refl
stays_so false h = absurd cc

from_none : (items : List Item) (xs : List (Line EntryName)) → order_lines telling items ≡ order_lines telling [] ++ xs → order_lines telling items ≡ xs
unfolding order_lines
from_none items xs e = e

module _ (m : Marks) (below : Forest RawEntry) (next : Next) (imports : List ℕ) where
  abbrev tops : ℕ
  tops = tops_by stored_space below

  abbrev spaces : ℕ
  spaces = spaces_by stored_space below

  abbrev KeptName : EntryName → Type 0
  KeptName (Within t path) = IsOneOf next.top tops t × ((mark_at m.tops.now t).stays ≡ true)
  KeptName (SpaceAt s path) = IsOneOf next.space spaces s
  KeptName (Import unit part) = In part imports
  KeptName _ = ⊥

  to_item : (what : ItemKind) → AsTold KeptName what → IsOfKept m below next imports what
  to_item Root h = h
  to_item Whole h = h
  to_item (ATopOf t) h = h
  to_item (Space s) h = h
  to_item (Chained chain s) h = h.1
  to_item (Imported part) h = h

  abbrev TopThere : Top → Type 0
  TopThere t = Stays (IsNumberedTop stored_space m next.top tops) (IsNumberedSpace stored_space m next.space spaces) (view_by m).gone t

  abbrev SpaceThere : Node EntryName → Type 0
  SpaceThere e = IsNumberedSpace stored_space m next.space spaces e

  top_named : (t : Top) (depth : ℕ) → TopThere t → Each (OfLine KeptName) (line depth (node_map (λ s. s) t.node) ∷ lines (suc depth) (entries_map (λ s. s) t.below))
  unfolding entries_map lines
  top_named t depth h =
      let known : KeptName (Within t.number []) = (h.0.1, stays_so (mark_at m.tops.now t.number).stays h.1) in
      let all : Each (OfLine KeptName) (line depth (node_map (λ s. s) (numbered_top t.number).node) ∷ lines (suc depth) (entries_map (λ s. s) (numbered_top t.number).below)) = (known, tt) in
      subst (λ (u : Top). Each (OfLine KeptName) (line depth (node_map (λ s. s) u.node) ∷ lines (suc depth) (entries_map (λ s. s) u.below))) (sym h.0.0) all

  space_named : (e : Node EntryName) → SpaceThere e → KeptName e.at
  space_named e h = subst (λ (d : Node EntryName). KeptName d.at) (sym h.1) h.2

  imports_named : (parts : List ℕ) → ((part : ℕ) → In part parts → In part imports) → Each (OfLine KeptName) (import_lines telling parts)
  unfolding import_lines
  imports_named [] among = tt
  imports_named (part ∷ parts) among = (among part (inl refl), imports_named parts (λ p i. among p (inr i)))

  compile_items : (items : List Item) → IsKept m CompileUnit below next imports [] items → KeptNames m CompileUnit below next imports items
  compile_items items is =
      let v : View = view_by m in
      let row : Row = numbered_row stored_space m next below in
      let shown = numbered_shown stored_space m below next in
      let numbers = numbers_within stored_space m next tops spaces below next (record { top = omega arith; tops_end = omega arith; space = omega arith; spaces_end = omega arith }) in
      let stays : RowHas TopThere SpaceThere (row_staying v.gone row) =
      staying_has (IsNumberedTop stored_space m next.top tops) (IsNumberedSpace stored_space m next.space spaces) v.gone row numbers in
      let first : RowHas TopThere SpaceThere (pinned_first v.pinned (row_staying v.gone row)) = first_has TopThere SpaceThere v.pinned (row_staying v.gone row) stays in
      let one : List (Line EntryName) = row_lines v.image 2 (pinned_first v.pinned (row_staying v.gone row)) in
      let two : List (Line EntryName) = import_lines telling imports in
      root_then KeptName (IsOfKept m below next imports) (λ h. h) to_item items (one ++ two) (from_none items _ (is v row shown.row))
      (each_append (OfLine KeptName) one two
      (lines_have TopThere SpaceThere KeptName v.image top_named space_named 2 (pinned_first v.pinned (row_staying v.gone row)) first)
      (imports_named imports (λ p i. i)))

  whole_items : (items : List Item) → IsWhole [] items → items ≡ item 1 Whole ∷ []
  unfolding lines
  whole_items items is = whole_alone items (from_none items _ (is telling))

pub kept_items : (m : Marks) (kind : RawKind) (below : Forest RawEntry) (next : Next) (imports : List ℕ) (items : List Item) → IsKept m kind below next imports [] items
    → KeptNames m kind below next imports items
kept_items m CompileUnit below next imports items is = compile_items m below next imports items is
kept_items m (TypeUnit signature type_offset) below next imports items is = whole_items m below next imports items is
kept_items m PartialUnit below next imports items is = whole_items m below next imports items is
