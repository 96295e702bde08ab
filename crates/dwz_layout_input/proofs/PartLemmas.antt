-- The root of a partial unit: where an entry of its tops has a path it names the line table of the unit that they are all of.
use Rattle.std.proofs.Common.{◌≡◌, ◌⊎◌, ℕ, ◌<◌, ◌||◌, Bool, true, false, List, [], ◌∷◌, length, map, pos, Option, Some, None, slice_get, refl, sym, ap, subst, ◌∙◌, inl, inr, arith}
use Rattle.std.specs.List.{list_any}
use Rattle.dwz_def_reading.specs.Lists.{In}
use Rattle.dwz_def_reading.specs.Documents.{Attr, Doc, Sec, first_named}
use Rattle.dwz_def_tops.proofs.Members.{each_of}
use Rattle.dwz_def_tops.specs.Spots.{EntryName, FileUnit, Top, tops_of, units_of}
use Rattle.dwz_def_tops.proofs.TopNumbers.{top_there}
use Rattle.dwz_def_images.specs.Homes.{Common, Home, Local}
use Rattle.dwz_def_images.specs.Moves.{first_unit, line_attr, line_attrs, line_in, line_of, names_path, root_of}
use Rattle.dwz_def_images.specs.Plan.{PartialUnit}
use Rattle.dwz_layout.specs.declared.order.Sort.TheVariants.{Partial as PartialSort}
use Rattle.dwz_plan.specs.Planned.{file_of_home}
use Rattle.dwz_layout_order.specs.Orders.{ShowsLine}
use Rattle.dwz_layout_input.specs.Roots.{IsOfOneUnit, path_in, root_line}
use Rattle.dwz_graph.specs.declared.file.File.{File}
use Rattle.dwz_graph.specs.Files.{docs_of}
use Rattle.dwz_groups.specs.declared.tops.Tops.{Tops}
use Rattle.dwz_graph.specs.Index.{Index}
use Rattle.dwz_layout_input.specs.Steps.{AreTops, HaveLine, KnowsTops, SaysLine}
use Rattle.dwz_layout_input.proofs.PlaceLemmas.{no_path}

-- ---- tops by their numbers

are_tops : (units : List (FileUnit EntryName)) (ts : List Top) → ((t : Top) → In t ts → In t (tops_of units)) → AreTops units ts (map (λ t. t.number) ts)
are_tops units [] h = tt
are_tops units (t ∷ ts) h = (top_there units t (h t (inl refl)), are_tops units ts (λ x is. h x (inr is)))

-- ---- what the root names

abbrev LinesOf : List (FileUnit EntryName) → PartialUnit → Bool → List (Attr EntryName)
LinesOf units part b = elim b as (λ _. List (Attr EntryName)) [ true ↦ line_in units part.home part.tops ∷ [] | false ↦ [] ]

lines_are : (units : List (FileUnit EntryName)) (part : PartialUnit) (b : Bool) → names_path part ≡ b → line_attrs units part ≡ LinesOf units part b
unfolding line_attrs
lines_are units part b e = ap (LinesOf units part) e

-- no line table
pub no_line : (units : List (FileUnit EntryName)) (part : PartialUnit) → list_any path_in part.tops ≡ false → ShowsLine (PartialSort None) (line_attrs units part)
no_line units part e = lines_are units part false e

-- that of the tops' unit
own_line : (o : Option (Attr EntryName)) (n : ℕ) → SaysLine o (Some n) → (line_of o).raw ≡ pos n
own_line None n h = absurd cc
own_line (Some a) n h = h.1

line_shown : (units : List (FileUnit EntryName)) (part : PartialUnit) (n : ℕ) (a : Attr EntryName) → list_any path_in part.tops ≡ true → line_in units part.home part.tops ≡ a → a.name ≡ 0x10
    → a.form ≡ 0x17
    → a.raw ≡ pos n
    → ShowsLine (PartialSort (Some n)) (line_attrs units part)
line_shown units part n a e is name form raw = (a, lines_are units part true e ∙ ap (λ (w : Attr EntryName). w ∷ []) is, name, form, raw)

line_names : (o : Option (Attr EntryName)) → ((line_of o).name ≡ 0x10) × ((line_of o).form ≡ 0x17)
line_names None = (refl, refl)
line_names (Some a) = (refl, refl)

pub local_line : (units : List (FileUnit EntryName)) (part : PartialUnit) (file n : ℕ) → part.home ≡ Local file → list_any path_in part.tops ≡ true
    → SaysLine (first_named 0x10 (root_of units (first_unit part.tops))) (Some n)
    → ShowsLine (PartialSort (Some n)) (line_attrs units part)
local_line units part file n home e h =
    let o = first_named 0x10 (root_of units (first_unit part.tops)) in
    line_shown units part n (line_of o) e (ap (λ (w : Home). line_in units w part.tops) home) (line_names o).0 (line_names o).1 (own_line o n h)

pub common_line : (units : List (FileUnit EntryName)) (part : PartialUnit) → part.home ≡ Common → list_any path_in part.tops ≡ true → ShowsLine (PartialSort (Some 0)) (line_attrs units part)
common_line units part home e = line_shown units part 0 (line_attr (pos 0) (Sec 0)) e (ap (λ (w : Home). line_in units w part.tops) home) refl refl refl

-- ---- the partial unit with a number

module _ (docs : List (Doc ℕ)) (part : PartialUnit) (one : IsOfOneUnit (units_of docs) part) where
  abbrev units : List (FileUnit EntryName)
  units = units_of docs

  pub tops_are : AreTops (units_of docs) part.tops (map (λ t. t.number) part.tops)
  tops_are = are_tops units part.tops one.there

  -- all tops have the root of the first
  pub have_line : (line : Option ℕ) → SaysLine (first_named 0x10 (root_of (units_of docs) (first_unit part.tops))) line → HaveLine (units_of docs) part.tops line
  have_line line h =
      each_of (λ t. SaysLine (root_line units t) line) part.tops
      (λ t there. subst (λ (k : ℕ). SaysLine (first_named 0x10 (root_of units k)) line) (sym (one.unit t there)) h)

  -- the first of them
  pub record FirstTop : Type 0 where
    pub top : Top
    pub others : List Top
    pub tops_are : part.tops ≡ top ∷ others
    pub got : slice_get (tops_of (units_of docs)) top.number ≡ Some top
    pub unit : first_unit part.tops ≡ top.unit

  pub first_top : FirstTop
  first_top = by part.tops refl one.some where
    by : (ts : List Top) → part.tops ≡ ts → (some : (t : Top) × In t part.tops) → FirstTop
    by [] e some = absurd (subst (In some.0) e some.1)
    by (t ∷ ts) e some = record {
      top = t;
      others = ts;
      tops_are = e;
      got = top_there units t (one.there t (subst (In t) (sym e) (inl refl)));
      unit = ap first_unit e;
    }

  -- by their numbers
  pub first_got : (list : List ℕ) (k : ℕ) → list ≡ map (λ t. t.number) part.tops → Some k ≡ slice_get list 0 → slice_get (tops_of (units_of docs)) k ≡ Some first_top.top
  first_got list k e h =
      let o = first_top in
      let at : slice_get list 0 ≡ Some o.top.number = ap (λ (w : List ℕ). slice_get w 0) (e ∙ ap (map (λ (t : Top). t.number)) o.tops_are) in
      let same : k ≡ o.top.number = (let both = h ∙ at in cc) in
      ap (slice_get (tops_of units)) same ∙ o.got

  pub some_first : (list : List ℕ) → list ≡ map (λ t. t.number) part.tops → None ≡ slice_get list 0 → ⊥
  some_first list e h =
      let o = first_top in
      let at : slice_get list 0 ≡ Some o.top.number = ap (λ (w : List ℕ). slice_get w 0) (e ∙ ap (map (λ (t : Top). t.number)) o.tops_are) in
      (let both = h ∙ at in cc)

  pub first_says : (line : Option ℕ) → SaysLine (root_line (units_of docs) first_top.top) line → SaysLine (first_named 0x10 (root_of (units_of docs) (first_unit part.tops))) line
  first_says line h = subst (λ (k : ℕ). SaysLine (first_named 0x10 (root_of units k)) line) (sym first_top.unit) h

  -- its home is the common file, or one of the files
  pub home_cases : (count file : ℕ) → count ≡ length docs → file ≡ file_of_home (length docs) part.home
      → (part.home ≡ Common) ⊎ ((f : ℕ) × (f < length docs) × (part.home ≡ Local f))
      → (line : ℕ) → SaysLine (first_named 0x10 (root_of (units_of docs) (first_unit part.tops))) (Some line) → list_any path_in part.tops ≡ true
      → (file ≡ count → ShowsLine (PartialSort (Some 0)) (line_attrs (units_of docs) part)) × ((file ≡ count → ⊥) → ShowsLine (PartialSort (Some line)) (line_attrs (units_of docs) part))
  home_cases count file count_is file_is (inl is) line h e =
      let same : file ≡ length docs = file_is ∙ ap (file_of_home (length docs)) is in
      (λ x. common_line units part is e, λ no. absurd (no (same ∙ sym count_is)))
  home_cases count file count_is file_is (inr o) line h e =
      let same : file ≡ o.0 = file_is ∙ ap (file_of_home (length docs)) o.2 in
      let less = o.1 in
      (λ x. absurd (omega arith), λ no. local_line units part o.0 line o.2 e h)

-- ---- where the unit has no line table

none_in : (contents : List (List ℕ)) (files : List File) (indexes : List Index) (tops : Tops) → KnowsTops contents files indexes tops → (ts : List Top) (numbers : List ℕ)
    → AreTops (units_of (docs_of contents)) ts numbers
    → HaveLine (units_of (docs_of contents)) ts None → list_any path_in ts ≡ false
none_in contents files indexes tops knows [] numbers are have = refl
none_in contents files indexes tops knows (t ∷ ts) [] are have = absurd are
none_in contents files indexes tops knows (t ∷ ts) (n ∷ numbers) are have =
    (λ i. no_path contents files indexes tops n t knows are.0 have.0 i || none_in contents files indexes tops knows ts numbers are.1 have.1 i)

module _ (contents : List (List ℕ)) (files : List File) (indexes : List Index) (tops : Tops) (knows : KnowsTops contents files indexes tops)
    (part : PartialUnit) (one : IsOfOneUnit (units_of (docs_of contents)) part) where
  -- the root names none
  pub without : SaysLine (root_line (units_of (docs_of contents)) (first_top (docs_of contents) part one).top) None
      → ShowsLine (PartialSort None) (line_attrs (units_of (docs_of contents)) part)
  without h =
      let docs = docs_of contents in
      no_line (units_of docs) part
      (none_in contents files indexes tops knows part.tops (map (λ (t : Top). t.number) part.tops) (tops_are docs part one)
      (have_line docs part one None (first_says docs part one None h)))
