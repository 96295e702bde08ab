-- The parts of rows, pinned or not: what follows them, and what stays.
use Rattle.std.proofs.Common.{◌≡◌, ℕ, suc, ◌||◌, ◌&&◌, not, cond, Bool, true, false, List, [], ◌∷◌, ◌++◌, refl, sym, ap, ◌∙◌, append_assoc}
use Rattle.dwz_def_reading.specs.Documents.{entries_map, node_map}
use Rattle.dwz_def_tops.specs.Deciding.{same_bool}
use Rattle.dwz_def_tops.specs.Spots.{ASpace, ATop, EntryName, Nothing, Row}
use Rattle.dwz_def_images.specs.Plan.{Pinned, pinned_first, row_part, row_pinned, row_staying}
use Rattle.dwz_layout_items.specs.Lines.{Line, line, lines, row_lines}
use Rattle.dwz_layout_items.specs.Outline.{View}
use Rattle.dwz_layout_items.specs.Parts.{part_lines}

module _ (f : EntryName → EntryName) (p : Pinned) where
  -- what follows stands behind
  pub part_last : (depth : ℕ) (want : Bool) (row last : Row) → row_lines f depth (row_part p want row last) ≡ row_lines f depth (row_part p want row Nothing) ++ row_lines f depth last
  unfolding row_lines row_part
  part_last depth want Nothing last = refl
  part_last depth want (ATop t next) last = go (part_last depth want next last) (same_bool (p.top t.number) want) where
    here : List (Line EntryName)
    here = line depth (node_map f t.node) ∷ lines (suc depth) (entries_map f t.below)

    go : row_lines f depth (row_part p want next last) ≡ row_lines f depth (row_part p want next Nothing) ++ row_lines f depth last
        → (b : Bool) → row_lines f depth (elim b as (λ _. Row) [ true ↦ ATop t (row_part p want next last) | false ↦ row_part p want next last ])
        ≡ row_lines f depth (elim b as (λ _. Row) [ true ↦ ATop t (row_part p want next Nothing) | false ↦ row_part p want next Nothing ]) ++ row_lines f depth last
    go more true = ap (λ (w : List (Line EntryName)). here ++ w) more ∙ sym (append_assoc here (row_lines f depth (row_part p want next Nothing)) (row_lines f depth last))
    go more false = more
  part_last depth want (ASpace e inner next) last = go (part_last depth want next last) (same_bool (p.space e.at || row_pinned p inner) want) where
    within : Row
    within = row_part p true inner (row_part p false inner Nothing)

    here : List (Line EntryName)
    here = line depth (node_map f e) ∷ row_lines f (suc depth) within

    go : row_lines f depth (row_part p want next last) ≡ row_lines f depth (row_part p want next Nothing) ++ row_lines f depth last
        → (b : Bool) → row_lines f depth (elim b as (λ _. Row) [
          | true ↦ ASpace e (row_part p true inner (row_part p false inner Nothing)) (row_part p want next last)
          | false ↦ row_part p want next last
        ])
        ≡ row_lines f depth (elim b as (λ _. Row) [ true ↦ ASpace e (row_part p true inner (row_part p false inner Nothing)) (row_part p want next Nothing) | false ↦ row_part p want next Nothing ])
        ++ row_lines f depth last
    go more true = ap (λ (w : List (Line EntryName)). here ++ w) more ∙ sym (append_assoc here (row_lines f depth (row_part p want next Nothing)) (row_lines f depth last))
    go more false = more

  pub first_lines : (depth : ℕ) (row : Row) → row_lines f depth (pinned_first p row) ≡ row_lines f depth (row_part p true row Nothing) ++ row_lines f depth (row_part p false row Nothing)
  first_lines depth row = part_last depth true row (row_part p false row Nothing)

module _ (v : View) where
  abbrev part_of : ℕ → Bool → Row → List (Line EntryName)
  part_of depth want row = row_lines v.image depth (row_part v.pinned want (row_staying v.gone row) Nothing)

  -- what stays of a row
  pub part_is : (depth : ℕ) (want : Bool) (row : Row) → part_lines v depth want row ≡ part_of depth want row
  unfolding part_lines row_lines row_part row_staying
  part_is depth want Nothing = refl
  part_is depth want (ATop t next) = go (part_is depth want next) (v.gone t.number) where
    here : List (Line EntryName)
    here = line depth (node_map v.image t.node) ∷ lines (suc depth) (entries_map v.image t.below)

    by : part_lines v depth want next ≡ part_of depth want next → (b : Bool) → cond b here [] ++ part_lines v depth want next
        ≡ row_lines v.image depth (elim b as (λ _. Row) [ true ↦ ATop t (row_part v.pinned want (row_staying v.gone next) Nothing) | false ↦ row_part v.pinned want (row_staying v.gone next) Nothing ])
    by more true = ap (λ (w : List (Line EntryName)). here ++ w) more
    by more false = more

    go : part_lines v depth want next ≡ part_of depth want next → (g : Bool) → cond (not g && same_bool (v.pinned.top t.number) want) here [] ++ part_lines v depth want next
        ≡ row_lines v.image depth (row_part v.pinned want (elim g as (λ _. Row) [ true ↦ row_staying v.gone next | false ↦ ATop t (row_staying v.gone next) ]) Nothing)
    go more true = more
    go more false = by more (same_bool (v.pinned.top t.number) want)
  part_is depth want (ASpace e inner next) =
      go (part_is depth want next) (part_is (suc depth) true inner) (part_is (suc depth) false inner) (same_bool (v.pinned.space e.at || row_pinned v.pinned (row_staying v.gone inner)) want)
    where
      within : Row
      within = row_staying v.gone inner

      go : part_lines v depth want next ≡ part_of depth want next → part_lines v (suc depth) true inner ≡ part_of (suc depth) true inner
          → part_lines v (suc depth) false inner ≡ part_of (suc depth) false inner
          → (b : Bool) → cond b (line depth (node_map v.image e) ∷ part_lines v (suc depth) true inner ++ part_lines v (suc depth) false inner) [] ++ part_lines v depth want next
          ≡ row_lines v.image depth (elim b as (λ _. Row) [
            | true ↦ ASpace e (row_part v.pinned true (row_staying v.gone inner) (row_part v.pinned false (row_staying v.gone inner) Nothing))
                (row_part v.pinned want (row_staying v.gone next) Nothing)
            | false ↦ row_part v.pinned want (row_staying v.gone next) Nothing
          ])
      go more first second true =
          let join : part_lines v (suc depth) true inner ++ part_lines v (suc depth) false inner ≡ row_lines v.image (suc depth) (pinned_first v.pinned within) =
          (λ i. first i ++ second i) ∙ sym (first_lines v.image v.pinned (suc depth) within) in
          (λ i. (line depth (node_map v.image e) ∷ join i) ++ more i)
      go more first second false = more
