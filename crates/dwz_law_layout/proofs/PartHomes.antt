-- Partial units: each is of the units of one file, stands in its home, those of the common file first, and its root has a line table or none.
use Rattle.std.proofs.Common.{◌≡◌, ◌⊎◌, ℕ, zero, suc, ◌+◌, ◌<◌, ◌==◌, ◌&&◌, Bool, true, false, ℤ, List, [], ◌∷◌, length, map, Option, Some, None, slice_get, refl, sym, ap, subst, ◌∙◌, inl, inr, arith}
use Rattle.std.specs.Prelude.{nat_lt, pos, slice_index_or}
use Rattle.std.proofs.lemmas.Bool.{eq-eqb, eqb-true, lt-ltb, ltb-true, ne_eqb}
use Rattle.dwz_def_reading.specs.Lists.{In}
use Rattle.dwz_def_reading.proofs.ListFacts.{get_first, got_below, got_in, got_there, in_left, same_got}
use Rattle.dwz_def_reading.proofs.CaseFacts.{and_left}
use Rattle.dwz_def_reading.specs.Documents.{Attr, Doc, DwUnit, Plain, first_named}
use Rattle.dwz_def_tops.specs.Lists.{Nth}
use Rattle.dwz_def_tops.proofs.Members.{any_from, any_true, nth_one}
use Rattle.dwz_def_tops.specs.Spots.{EntryName, FileUnit, PartialOf, Top, file_numbers, tops_of}
use Rattle.dwz_def_images.specs.Homes.{Common, Home, Local, Stay, is_home, same_home}
use Rattle.dwz_def_images.specs.Moves.{first_unit, line_attr, line_attrs, line_in, line_of, names_path, root_of}
use Rattle.dwz_def_images.specs.Plan.{PartialUnit}
use Rattle.dwz_plan.specs.Planned.{file_of_home}
use Rattle.dwz_def_images.specs.Units.{changes, common_units, kept_units, out_units, partial_unit, partial_units}
use Rattle.dwz_def_images.proofs.FileLemmas.{files_are}
use Rattle.dwz_def_readback.proofs.HomeLemmas.{parts_from}
use Rattle.dwz_def_readback.proofs.WithinLemmas.{parts_to}
use Rattle.dwz_def_readback.proofs.SameLemmas.{numbers_in}
use Rattle.dwz_layout_numbers.specs.Owners.{files_written}
use Rattle.dwz_layout.specs.declared.known.EntryTable.{EntryTable}
use Rattle.dwz_layout.specs.declared.order.Sort.TheVariants.{Partial}
use Rattle.dwz_layout.specs.Attributes.{is_common}
use Rattle.dwz_layout_order.specs.Orders.{ShowsLine as HasLine}
use Rattle.dwz_law_layout.specs.Beside.{Alone, Beside, IsMadeAt, Over}
use Rattle.dwz_law_layout.specs.Knows.{ShowsLine}
use Rattle.dwz_law_layout.specs.Facts.{AreFacts, IsMade, RunFacts, docs, move, units, units_written, written}
use Rattle.dwz_law_layout.specs.Listed.{AreListed, TextsAt}
use Rattle.dwz_law_layout.specs.Moving.{IsMadePart}
use Rattle.dwz_law_layout.proofs.PartUnits.{of_unit}
use Rattle.dwz_law_layout.specs.Trees.{IsReadFile}
use Rattle.dwz_law_layout.proofs.TopTrees.{top_files}

-- ---- files that are written

flag_found : (g : ℕ → Bool) (s : ℕ) (said : List (Doc ℕ)) (n : ℕ) → slice_index_or (map g (file_numbers s said)) n false ≡ true → (g (s + n) ≡ true) × (n < length said)
unfolding file_numbers
flag_found g s [] n e = absurd cc
flag_found g s (d ∷ said) zero e = (ap g (let z : s + 0 ≡ s = omega arith in z) ∙ e, omega arith)
flag_found g s (d ∷ said) (suc n) e = (let r = flag_found g (suc s) said n e in (ap g (let z : s + suc n ≡ suc s + n = omega arith in z) ∙ r.0, let lt = r.1 in omega arith))

pub file_changed : {beside : Beside} (f : RunFacts beside) (n : ℕ) → slice_index_or (written f) n false ≡ true → (changes (move f) (units f) n ≡ true) × (n < length (docs f))
file_changed f n e =
    let r = flag_found (changes (move f) (units f)) 0 (docs f) n e in
    let none : 0 + n ≡ n = omega arith in
    (subst (λ (w : ℕ). changes (move f) (units f) w ≡ true) none r.0, r.1)

pub file_read_there : {beside : Beside} (f : RunFacts beside) → AreFacts f → (n : ℕ) → changes (move f) (units f) n ≡ true → IsReadFile f n
unfolding changes
file_read_there f facts n e =
    let p = any_from _ (tops_of (units f)) e in
    subst (IsReadFile f) (eqb-true p.one.file n (and_left (p.one.file == n) ((move f).gone p.one.number) p.passes)) (top_files _ f facts p.one p.there)

-- ---- the file of a partial unit

-- its tops are all of this unit, whose file was read, and something of that file moves
pub record ComesFrom {beside : Beside} (f : RunFacts beside) (part : PartialUnit) : Type 0 where
  pub unit : FileUnit EntryName
  pub nth : Nth 0 (units f) (first_unit part.tops) unit
  pub read : IsReadFile f unit.file
  pub changed : changes (move f) (units f) unit.file ≡ true
  pub below : unit.file < length (docs f)

pub comes_from : {beside : Beside} (f : RunFacts beside) → AreFacts f → (p : ℕ) (part : PartialUnit) → IsMadePart (move f) (units f) p part → ComesFrom f part
unfolding changes
comes_from f facts p part made =
    let some = made.some in
    let own = made.tops some.0 some.1 in
    let u = of_unit (units f) some.0 own.there in
    let at = subst (λ (i : ℕ). Nth 0 (units f) i u.unit) own.unit u.nth in
    let same = eq-eqb some.0.file u.unit.file u.file in
    record {
      unit = u.unit;
      nth = at;
      read = subst (IsReadFile f) u.file (top_files _ f facts some.0 own.there);
      changed = any_true (λ (t : Top). t.file == u.unit.file && (move f).gone t.number) some.0 (tops_of (units f)) own.there (λ i. same i && own.moves i);
      below = (let lt = numbers_in 0 (docs f) u.unit.file (files_are (docs f) (first_unit part.tops) u.unit at) in omega (arith, lt));
    }

-- ---- homes

-- a partial unit of a file is made
made_local : (b : Beside) (h : Home) (n : ℕ) → h ≡ Local n → IsMadeAt b h
made_local Alone h n e = tt
made_local (Over s) h n e = (n, e)

-- the number that a plan has for a home is that of the file just where the home is the file's
pub home_number : (files n : ℕ) (h : Home) → is_home h ≡ true → n < files → same_home h (Local n) ≡ (file_of_home files h == n)
home_number files n Common moves lt = sym (ne_eqb files n (λ e. omega arith))
home_number files n (Local file) moves lt = refl
home_number files n Stay moves lt = absurd cc

module _ {beside : Beside} (f : RunFacts beside) (facts : AreFacts f) (n : ℕ) (p : ℕ) (part : PartialUnit) (nth : Nth 0 (move f).parts p part) where
  pub home_moves : is_home part.home ≡ true
  home_moves = facts.goes.homes p part nth

  pub tops_there : IsMade f part.home → (t : Top) → In t part.tops → In t (tops_of (units f))
  tops_there is_made t is = ((facts.goes.made p part nth is_made).tops t is).there

  -- the unit that they are of is one of the file, so they are
  pub tops_of_file : IsMade f part.home → ((u : FileUnit EntryName) → Nth 0 (units f) (first_unit part.tops) u → u.file ≡ n) → (t : Top) → In t part.tops → t.file ≡ n
  tops_of_file is_made first t is =
      let own = (facts.goes.made p part nth is_made).tops t is in
      let u = of_unit (units f) t own.there in
      u.file ∙ first u.unit (subst (λ (i : ℕ). Nth 0 (units f) i u.unit) own.unit u.nth)

  module _ (home : part.home ≡ Local n) where
    -- it is made
    pub local_made : IsMade f part.home
    local_made = made_local beside part.home n home

    pub first_file : (u : FileUnit EntryName) → Nth 0 (units f) (first_unit part.tops) u → u.file ≡ n
    first_file u at =
        elim (facts.goes.used p part nth (first_unit part.tops) u at (facts.goes.made p part nth local_made).user) [
          | inl e ↦ absurd (let w : Common ≡ Local n = sym e ∙ home in cc)
          | inr e ↦ (let w : Local u.file ≡ Local n = sym e ∙ home in cc)
        ]

    pub top_file : (t : Top) → In t part.tops → t.file ≡ n
    top_file t is = tops_of_file local_made first_file t is

    -- ---- units

    pub part_there : In (partial_unit (move f) p) (out_units (move f) (units f) n)
    unfolding out_units
    part_there = in_left (partial_unit (move f) p) (partial_units (move f) (Local n) 0 (move f).parts) (kept_units (move f) (units f) n 0 (units f))
        (parts_to (move f) (Local n) 0 (move f).parts p part nth home)

    not_common : In (partial_unit (move f) p) (common_units (move f)) → ⊥
    unfolding common_units
    not_common is =
        let o = parts_from (move f) Common 0 (move f).parts (partial_unit (move f) p) is in
        let names : PartialOf o.number ≡ PartialOf p = ap (λ (u : DwUnit EntryName). u.at) o.is in
        let number : o.number ≡ p = cc in
        let same : o.part ≡ part = nth_one 0 (move f).parts p o.part part (subst (λ (q : ℕ). Nth 0 (move f).parts q o.part) number o.nth) nth in
        let w : Common ≡ Local n = sym o.home_is ∙ ap (λ (q : PartialUnit). q.home) same ∙ home in cc

    pub not_first : (t : TextsAt) (k : EntryTable) → AreListed f t k → (here : ℕ) → slice_get (units_written f) here ≡ Some (partial_unit (move f) p) → is_common k here ≡ false
    not_first t k listed here at = by (nat_lt here k.commons) refl where
      by : (b : Bool) → nat_lt here k.commons ≡ b → b ≡ false
      by false e = refl
      by true e =
          let commons = common_units (move f) in
          let lt = ltb-true here k.commons e in
          let many = listed.commons ∙ facts.numbers.commons_are in
          let v = got_there commons here (omega (arith, lt, many)) in
          let same = same_got (units_written f) here v.0 (partial_unit (move f) p) (get_first commons (files_written (move f) (units f) 0 (written f)) here v.0 v.1) at in
          absurd (not_common (subst (λ (u : DwUnit EntryName). In u commons) same (got_in commons here v.0 v.1)))

-- ---- the common file

-- a partial unit of that home is one of its units
pub common_there : {beside : Beside} (f : RunFacts beside) (p : ℕ) (part : PartialUnit) → Nth 0 (move f).parts p part → part.home ≡ Common → In (partial_unit (move f) p) (common_units (move f))
unfolding common_units
common_there f p part nth home = parts_to (move f) Common 0 (move f).parts p part nth home

-- its number in a plan is that of the files
pub common_number : {beside : Beside} (f : RunFacts beside) → AreFacts f → (p : ℕ) (part : PartialUnit) → Nth 0 (move f).parts p part
    → same_home part.home Common ≡ (file_of_home (length (docs f)) part.home == length (docs f))
common_number f facts p part nth = by part.home refl (home_moves f facts 0 p part nth) where
  by : (h : Home) → part.home ≡ h → is_home h ≡ true → same_home h Common ≡ (file_of_home (length (docs f)) h == length (docs f))
  by Common e moves = sym (eq-eqb (length (docs f)) (length (docs f)) refl)
  by (Local n) e moves =
      let c = comes_from f facts p part (facts.goes.made p part nth (local_made f facts n p part nth e)) in
      let same = first_file f facts n p part nth e c.unit c.nth in
      let lt = c.below in
      sym (ne_eqb n (length (docs f)) (λ q. omega (arith, q, lt, same)))
  by Stay e moves = absurd cc

-- its units are the first of all that are written
pub is_first : {beside : Beside} (f : RunFacts beside) → AreFacts f → (t : TextsAt) (k : EntryTable) → AreListed f t k → (here : ℕ) (u : DwUnit EntryName) → slice_get (common_units (move f)) here ≡ Some u
    → is_common k here ≡ true
is_first f facts t k listed here u at =
    let lt = got_below (common_units (move f)) here u at in
    let many = listed.commons ∙ facts.numbers.commons_are in
    lt-ltb here k.commons (omega (arith, lt, many))

-- ---- line tables

record HasLineOf (attrs : List (Attr EntryName)) : Type 0 where
  pub raw : ℤ
  pub plain : Plain
  pub is : attrs ≡ line_attr raw plain ∷ []

line_shape : (o : Option (Attr EntryName)) → HasLineOf (line_of o ∷ [])
line_shape None = record { raw = pos 0; plain = _; is = refl }
line_shape (Some a) = record { raw = a.raw; plain = a.value.plain; is = refl }

home_shape : (units : List (FileUnit EntryName)) (h : Home) (tops : List Top) → HasLineOf (line_in units h tops ∷ [])
home_shape units Common tops = record { raw = pos 0; plain = _; is = refl }
home_shape units (Local file) tops = line_shape (first_named 0x10 (root_of units (first_unit tops)))
home_shape units Stay tops = record { raw = pos 0; plain = _; is = refl }

part_shape : (units : List (FileUnit EntryName)) (part : PartialUnit) → (line_attrs units part ≡ []) ⊎ HasLineOf (line_attrs units part)
unfolding line_attrs
part_shape units part = go (names_path part) where
  go : (b : Bool) → (elim b as (λ _. List (Attr EntryName)) [ true ↦ line_in units part.home part.tops ∷ [] | false ↦ [] ] ≡ [])
      ⊎ HasLineOf (elim b as (λ _. List (Attr EntryName)) [ true ↦ line_in units part.home part.tops ∷ [] | false ↦ [] ])
  go true = inr (home_shape units part.home part.tops)
  go false = inl refl

line_from : (place : Option ℕ) (attrs : List (Attr EntryName)) → (attrs ≡ []) ⊎ HasLineOf attrs → HasLine (Partial place) attrs → ShowsLine place attrs
line_from None attrs shape h = h
line_from (Some place) attrs (inl none) h = absurd (let w : [] ≡ h.0 ∷ [] = sym none ∙ h.1 in cc)
line_from (Some place) attrs (inr s) h =
    let w : line_attr s.raw s.plain ∷ [] ≡ h.0 ∷ [] = sym s.is ∙ h.1 in
    let one : line_attr s.raw s.plain ≡ h.0 = cc in
    let raw : s.raw ≡ pos place = ap (λ (a : Attr EntryName). a.raw) one ∙ h.4 in
    (s.plain, s.is ∙ ap (λ (r : ℤ). line_attr r s.plain ∷ []) raw)

pub line_known : {beside : Beside} (f : RunFacts beside) (p : ℕ) (part : PartialUnit) → IsMadePart (move f) (units f) p part → (place : Option ℕ) → HasLine (Partial place) ((move f).roots p) → ShowsLine place ((move f).roots p)
line_known f p part made place h =
    let is : (move f).roots p ≡ line_attrs (units f) part = made.root in
    line_from place ((move f).roots p) (subst (λ (w : List (Attr EntryName)). (w ≡ []) ⊎ HasLineOf w) (sym is) (part_shape (units f) part)) h
