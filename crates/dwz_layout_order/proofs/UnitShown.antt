-- What is written of an old unit shows the unit after.
use Rattle.std.proofs.Common.{◌≡◌, ℕ, suc, true, false, List, [], ◌∷◌, ◌++◌, length, sym, ap, subst, ◌∙◌}
use Rattle.dwz_def_reading.specs.Entries.{RawEntry}
use Rattle.dwz_def_reading.specs.Trees.{Forest}
use Rattle.dwz_def_reading.specs.Units.{CompileUnit}
use Rattle.dwz_def_reading.specs.Documents.{Compile, Kind, language}
use Rattle.dwz_def_reading.specs.Lists.{Each}
use Rattle.dwz_def_tops.specs.Spots.{EntryName, FileUnit, Row, row_below, row_in, row_tops, rows_of_root, tops_of}
use Rattle.dwz_graph.specs.Spaces.{stored_space}
use Rattle.dwz_graph.specs.Steps.{is_space}
use Rattle.dwz_layout_items.specs.declared.order.Item.{Item}
use Rattle.dwz_layout_items.specs.Lines.{Line}
use Rattle.dwz_layout_items.specs.Order.{Names, ShowsUnit, order_lines}
use Rattle.dwz_layout_items.specs.Outline.{ShowsRow, View}
use Rattle.dwz_layout_items.specs.Shows.{NamesKept, view_of}
use Rattle.dwz_layout_items.proofs.KeptLemmas.{kept_lines, whole_lines}
use Rattle.dwz_def_images.specs.Moves.{Move, image_in}
use Rattle.dwz_def_images.specs.Plan.{imports, pinned_of}
use Rattle.dwz_plan.specs.Shows.{import_row}
use Rattle.dwz_def_images.specs.Units.{changes, kept_unit}
use Rattle.dwz_layout_order.specs.declared.marks.Marks.{Marks}
use Rattle.dwz_layout_order.specs.declared.outline.Next.{Next}
use Rattle.dwz_layout_order.specs.Kept.{IsKept, IsWhole}
use Rattle.dwz_layout_order.specs.Named.{IsSpace, IsTop, MarksAll, MarksSpace, MarksTop, NamesAll, NamesSpace, NamesTop}
use Rattle.dwz_layout_order.specs.Outline.{outers_in}
use Rattle.dwz_layout_order.specs.Shown.{IsNext, tops_in}
use Rattle.dwz_layout_order.specs.Spaces.{Numbered, spaces_below, spaces_of, spaces_under}
use Rattle.dwz_layout_order.proofs.MeanLemmas.{Agree, outers_agree}
use Rattle.dwz_layout_order.proofs.RowLemmas.{IsShown, row_shown}
use Rattle.dwz_layout_order.proofs.UnitRows.{row_at, spaces_there, tops_there}

-- ---- two facts of each element

pub both_each : {X : Type 0} (P Q R : X → Type 0) → ((x : X) → P x → Q x → R x) → (xs : List X) → Each P xs → Each Q xs → Each R xs
both_each P Q R f [] h k = tt
both_each P Q R f (x ∷ xs) h k = (f x h.0 k.0, both_each P Q R f xs h.1 k.1)

pub both_numbered : {X : Type 0} (P Q R : ℕ → X → Type 0) → ((n : ℕ) (x : X) → P n x → Q n x → R n x) → (n : ℕ) (xs : List X) → Numbered P n xs → Numbered Q n xs → Numbered R n xs
both_numbered P Q R f n [] h k = tt
both_numbered P Q R f n (x ∷ xs) h k = (f n x h.0 k.0, both_numbered P Q R f (suc n) xs h.1 k.1)

-- ---- a unit, with those before it and behind it

module _ (m : Move) (before : List (FileUnit EntryName)) (f : FileUnit EntryName) (after : List (FileUnit EntryName)) (marks : Marks) (n : Names EntryName) where
  abbrev units : List (FileUnit EntryName)
  units = before ++ f ∷ after

  abbrev i : ℕ
  i = length before

  abbrev v : View
  v = view_of m units n

  each_top : NamesAll (image_in m) units n → MarksAll m units marks → Each (IsTop v marks) (tops_of units)
  each_top names known =
      both_each (NamesTop (image_in m) n) (MarksTop m.gone (pinned_of units) marks) (IsTop v marks) (λ t a b. record { names = a; marks = b }) (tops_of units) names.tops known.tops

  each_space : NamesAll (image_in m) units n → MarksAll m units marks → Numbered (IsSpace v marks) 0 (spaces_of units)
  each_space names known =
      both_numbered (NamesSpace (image_in m) n) (MarksSpace (pinned_of units) marks) (IsSpace v marks) (λ k e a b. record { names = a; marks = b }) 0 (spaces_of units) names.spaces known.spaces

  shows : (next : Next) (below : Forest RawEntry) → IsNext before next → Agree stored_space is_space below f.unit.below → f.unit.kind ≡ Compile → NamesAll (image_in m) units n → MarksAll m units marks
      → ShowsRow v (rows_of_root units i) (outers_in stored_space marks next below)
  shows next below is agree kind names known =
      let from : Next = record { top = tops_in before; space = length (spaces_of before) } in
      let same : next ≡ from = (λ j. record { top = is.top j; space = is.space j }) in
      let tops : Each (IsTop v marks) (row_tops (row_below f.file i (tops_in before) f.unit Compile)) =
      subst (λ (k : Kind EntryName). Each (IsTop v marks) (row_tops (row_below f.file i (tops_in before) f.unit k))) kind (tops_there (IsTop v marks) before f after (each_top names known)) in
      let spaces : Numbered (IsSpace v marks) (length (spaces_of before)) (spaces_under f.unit.below) =
      subst (λ (k : Kind EntryName). Numbered (IsSpace v marks) (length (spaces_of before)) (spaces_below k f.unit.below)) kind (spaces_there (IsSpace v marks) before f after (each_space names
      known)) in
      let shown : IsShown f.file i (language f.unit) v marks [] from f.unit.below = row_shown f.file i (language f.unit) v marks f.unit.below [] from tops spaces in
      let row : rows_of_root units i ≡ row_in f.file i (language f.unit) [] (tops_in before) f.unit.below = row_at before f after ∙ ap (row_below f.file i (tops_in before) f.unit) kind in
      let outers : outers_in stored_space marks next below ≡ outers_in is_space marks from f.unit.below =
      outers_agree stored_space is_space marks below f.unit.below next agree ∙ ap (λ (w : Next). outers_in is_space marks w f.unit.below) same in
      subst (λ (r : Row). ShowsRow v r (outers_in stored_space marks next below)) (sym row)
      (subst (ShowsRow v (row_in f.file i (language f.unit) [] (tops_in before) f.unit.below)) (sym outers) shown.row)

  from_nothing : (items : List Item) (xs : List (Line EntryName)) → order_lines n items ≡ order_lines n [] ++ xs → order_lines n items ≡ xs
  unfolding order_lines
  from_nothing items xs e = e

  pub compile_shown : (next : Next) (below : Forest RawEntry) (parts : List ℕ) (items : List Item) → IsNext before next → Agree stored_space is_space below f.unit.below → f.unit.kind ≡ Compile
      → changes m units f.file ≡ true
      → imports i 0 m.parts ≡ import_row i parts → IsKept marks CompileUnit below next parts [] items → MarksAll m units marks → NamesAll (image_in m) units n → NamesKept m i f.unit n
      → ShowsUnit n items (kept_unit m units i f)
  compile_shown next below parts items is agree kind moves same kept known names own =
      from_nothing items _ (kept v (rows_of_root units i) (shows next below is agree kind names known)) ∙ kept_lines m units i f n parts own kind moves same

  pub whole_shown : (items : List Item) → IsWhole [] items → (f.unit.kind ≡ Compile → changes m units f.file ≡ false) → NamesKept m i f.unit n → ShowsUnit n items (kept_unit m units i f)
  whole_shown items whole stays own = from_nothing items _ (whole n) ∙ whole_lines m units i f n own stays
