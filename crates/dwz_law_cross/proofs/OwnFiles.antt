-- What stands after in place of a file that imports nothing from the common file: the file's own units.
use Rattle.std.proofs.Common.{refl, ◌≡◌, ℕ, ◌&&◌, ◌==◌, Bool, true, false, List, ◌++◌, sym, ap, subst, ◌∙◌, arith, inl, inr, eq-eqb, eqb-true}
use Rattle.std.specs.List.{list_any}
use Rattle.std.proofs.lemmas.Bool.{and_parts}
use Rattle.dwz_def_reading.specs.Lists.{Each, In, Nth}
use Rattle.dwz_def_reading.proofs.ListFacts.{in_cases, in_left, in_map, in_right}
use Rattle.dwz_def_reading.proofs.Members.{any_false, any_from, any_true, in_nth, nth_in, nth_one}
use Rattle.dwz_def_reading.specs.Documents.{Doc, DwUnit}
use Rattle.dwz_def_tops.specs.Alike.{IsAlike, TopScope}
use Rattle.dwz_def_tops.specs.Seen.{Closed, Seen, seen_map}
use Rattle.dwz_def_tops.specs.Spots.{EntryName, FileUnit, PartialOf, Top, Within, file_numbers, name_list, tops_of, units_of}
use Rattle.dwz_def_images.specs.Homes.{Common, Home, IsChoice, Local, Rule, file_of, is_home, moves, same_home}
use Rattle.dwz_def_images.specs.IsPlan.{Has, OfTop}
use Rattle.dwz_def_images.specs.Moves.{Move, image_in, plan}
use Rattle.dwz_def_images.specs.Plan.{PartialUnit, stand_in}
use Rattle.dwz_def_images.proofs.HomeLemmas.{file_at, file_of_top}
use Rattle.dwz_def_images.proofs.PartRows.{part_is as part_row_is}
use Rattle.dwz_def_images.proofs.UserLemmas.{move_stand, stay_fixed}
use Rattle.dwz_def_images.proofs.PlanLemmas.{home_own}
use Rattle.dwz_def_images.specs.After.{AreAfterOf, AreOld, ArePlaced, IsOfFile}
use Rattle.dwz_def_images.specs.Held.{IsHeld}
use Rattle.dwz_def_images.specs.Units.{changes, common_units, kept_unit, kept_units, out_units, partial_unit, partial_units, units_of_file}
use Rattle.dwz_def_images.proofs.FileLemmas.{replaced}
use Rattle.dwz_def_images.proofs.FileOuts.{file_outs}
use Rattle.dwz_def_images.proofs.HeldLemmas.{row_found}
use Rattle.dwz_def_images.proofs.OldRows.{raw_top}
use Rattle.dwz_def_images.proofs.TreeLemmas.{seen_top_map, tree_seen}
use Rattle.dwz_def_tops.proofs.SeenLemmas.{entry_seen}
use Rattle.dwz_def_tops.proofs.Tops.{unit_of}
use Rattle.dwz_def_reading.specs.Trees.{End}
use Rattle.dwz_def_readback.specs.Files.{imports_common}
use Rattle.dwz_def_readback.proofs.HomeLemmas.{part_is, parts_from, top_file}
use Rattle.dwz_def_readback.proofs.WithinLemmas.{closed_at, kept_to}
use Rattle.dwz_law_cross.proofs.OwnRefs.{HoldsOwn, StandsAt, refs_there}

-- none of its units is a user of what is in the common file
pub no_user : (m : Move) (units : List (FileUnit EntryName)) (file : ℕ) → imports_common m units file ≡ false → (n : ℕ) (part : PartialUnit) → Nth 0 m.parts n part → part.home ≡ Common
    → (i : ℕ) → In i part.users → file_of units i ≡ file → ⊥
unfolding imports_common
no_user m units file imports n part nth home i user of_file =
    let none = any_false (λ (p : PartialUnit). same_home p.home Common && list_any (λ j. file_of units j == file) p.users) part m.parts (nth_in 0 m.parts n part nth) imports in
    let at : same_home part.home Common ≡ true = ap (λ (h : Home). same_home h Common) home ∙ home_own Common in
    let one : list_any (λ j. file_of units j == file) part.users ≡ true = any_true (λ j. file_of units j == file) i part.users user (eq-eqb (file_of units i) file of_file) in
    absurd (let z : true ≡ false = sym (ap (λ (b : Bool). b && list_any (λ j. file_of units j == file) part.users) at ∙ ap (λ (b : Bool). true && b) one) ∙ none in cc)

-- a file that imports nothing, by whatever move; all that stands after in its place stands there or in the common file
module _ (units : List (FileUnit EntryName)) (m : Move) (file : ℕ) (imports : imports_common m units file ≡ false)
    (all : AreAfterOf (IsOfFile units file) m units (out_units m units file ++ common_units m)) where
  not_shared : (n : ℕ) (part : PartialUnit) → Nth 0 m.parts n part → (i : ℕ) → In i part.users → IsOfFile units file i → In (partial_unit m n) (common_units m) → ⊥
  unfolding common_units
  not_shared n part nth i user mine there =
      let o = parts_from m Common 0 m.parts (partial_unit m n) there in
      let at : PartialOf o.number ≡ PartialOf n = ap (λ (u : DwUnit EntryName). u.at) o.is in
      let number : o.number ≡ n = cc in
      let same : o.part ≡ part = nth_one 0 m.parts n o.part part (subst (λ (k : ℕ). Nth 0 m.parts k o.part) number o.nth) nth in
      no_user m units file imports n part nth (sym (ap (λ (p : PartialUnit). p.home) same) ∙ o.home_is) i user (file_at units 0 i i mine.0 mine.1 (omega arith) ∙ mine.2)

  kept_in : (i : ℕ) (u : FileUnit EntryName) → Nth 0 units i u → u.file ≡ file → In (kept_unit m units i u) (out_units m units file)
  unfolding out_units
  kept_in i u nth e = in_right (kept_unit m units i u) (partial_units m (Local file) 0 m.parts) (kept_units m units file 0 units) (kept_to m units file 0 units i u nth e)

  -- so these are all that stand in its place
  pub all_own : AreAfterOf (IsOfFile units file) m units (out_units m units file)
  all_own = record {
    new = λ n part nth i user mine. elim (in_cases (partial_unit m n) (out_units m units file) (common_units m) (all.new n part nth i user mine)) [
      | inl a ↦ a
      | inr b ↦ absurd (not_shared n part nth i user mine b)
    ];
    kept = λ i u nth mine. kept_in i u nth (sym (file_at units 0 i i u nth (omega arith)) ∙ (file_at units 0 i i mine.0 mine.1 (omega arith) ∙ mine.2));
    from = λ v there. all.from v (in_left v (out_units m units file) (common_units m) there);
  }

  -- and their references name entries of them, where all that is gone of the file stands there
  pub all_closed : AreOld units → Closed (units_of_file file units)
      → ((t : Top) → In t (tops_of units) → t.file ≡ file → m.gone t.number ≡ true → (d : Seen EntryName) → In d (raw_top t) → StandsAt m (out_units m units file) d.at)
      → ((n : ℕ) (part : PartialUnit) → Nth 0 m.parts n part → part.home ≡ Local file → HoldsOwn units m file n) → Closed (out_units m units file)
  all_closed old closed gone own e a k there attr ref = refs_there units m old file (out_units m units file) kept_in all_own.new gone own closed e a k there attr ref

-- ---- of a plan

pub own_after : (units : List (FileUnit EntryName)) (rule : Rule) (files : List ℕ) (file : ℕ) → imports_common (plan rule units files) units file ≡ false
    → AreAfterOf (IsOfFile units file) (plan rule units files) units (out_units (plan rule units files) units file)
own_after units rule files file imports = all_own units (plan rule units files) file imports (file_outs units rule files file)

module _ (scope : TopScope) (units : List (FileUnit EntryName)) (rule : Rule) (is : IsAlike scope units rule.alike) (choice : IsChoice units rule) (files : List ℕ)
    (held : IsHeld units (plan rule units files)) (file : ℕ) where
  abbrev m : Move
  m = plan rule units files

  gone_there : (outs : List (DwUnit EntryName)) → AreAfterOf (IsOfFile units file) m units outs → (t : Top) → In t (tops_of units) → t.file ≡ file → m.gone t.number ≡ true → (d : Seen EntryName)
      → In d (raw_top t)
      → StandsAt m outs d.at
  gone_there outs after t there of_file mv d is =
      let f : EntryName → EntryName = image_in m in
      let o = held.held t there mv in
      let u = unit_of units t there in
      let new = after.new o.number o.part o.nth t.unit o.user (u.unit, u.nth, sym u.file_is ∙ of_file) in
      let mapped = subst (λ (w : List (Seen EntryName)). In (seen_map f d) w) (sym (seen_top_map f t)) (in_map (seen_map f) d (raw_top t) is) in
      let e = tree_seen f (m.rows o.number) End (name_list t) o.top o.has (seen_map f d) (subst (λ (w : List (Seen EntryName)). In (seen_map f d) w) o.same mapped) in
      (seen_map f d, entry_seen outs (partial_unit m o.number) (seen_map f d) new e, refl)

  holds_own : (n : ℕ) (part : PartialUnit) → Nth 0 m.parts n part → part.home ≡ Local file → HoldsOwn units m file n
  holds_own n part nth home = record {
    kinds = held.kinds n part nth;
    tops = λ names t has.
        (let in_part = ((part_row_is n part).tops_are names t).0 (subst (Has names (OfTop t)) (row_found rule units files n part nth) has) in
        (held.tops n part nth names t has, top_file scope units rule is choice files file n part nth home t in_part.0));
    plain = held.plain n part nth;
    root = held.roots n;
  }

-- and their references name entries of them
pub own_closed : (scope : TopScope) (docs : List (Doc ℕ)) (rule : Rule) → Each (λ doc. ArePlaced doc.units) docs → IsAlike scope (units_of docs) rule.alike → IsChoice (units_of docs) rule
    → (file : ℕ) → imports_common (plan rule (units_of docs) (file_numbers 0 docs)) (units_of docs) file ≡ false
    → Closed (out_units (plan rule (units_of docs) (file_numbers 0 docs)) (units_of docs) file)
own_closed scope docs rule placed is choice file imports =
    let units = units_of docs in
    let files = file_numbers 0 docs in
    let m = plan rule units files in
    let whole = replaced scope docs rule placed is choice in
    all_closed units m file imports (file_outs units rule files file) whole.old (closed_at file 0 0 0 docs placed)
    (gone_there scope units rule is choice files whole.held file (out_units m units file) (own_after units rule files file imports)) (holds_own scope units rule is choice files whole.held file)

-- ---- a file of which nothing moves imports nothing

abbrev number_of : EntryName → ℕ
number_of (Within t path) = t
number_of _ = 0

-- a unit that uses a partial unit has a top that moves
used_moves : (scope : TopScope) (units : List (FileUnit EntryName)) (rule : Rule) → IsAlike scope units rule.alike → IsChoice units rule → (files : List ℕ) → AreOld units
    → IsHeld units (plan rule units files)
    → (n : ℕ) (part : PartialUnit) → Nth 0 (plan rule units files).parts n part → (i : ℕ) → In i part.users → (t : Top) × In t (tops_of units) × (t.unit ≡ i) × (moves rule units t.number ≡ true)
used_moves scope units rule is choice files old held n part nth i user =
    let p = part_is scope units rule is choice files n part nth in
    let s = p.some.0 in
    let b = (p.tops s).0 p.some.1 in
    let has = subst (Has (name_list s) (OfTop s)) (sym (row_found rule units files n part nth)) (((part_row_is n part).tops_are (name_list s) s).1 (p.some.1, refl)) in
    let like = held.used n part nth i user (name_list s) s has in
    let t = like.top in
    let moved : moves rule units s.number ≡ true = ap is_home b.home ∙ p.moves in
    let f = image_in (plan rule units files) in
    let images : stand_in rule units t.number ≡ stand_in rule units s.number =
    ap number_of (sym (ap f (old.tops_named t like.there).0) ∙ like.at ∙ ap f (old.tops_named s b.there).0) in
    let stands : stand_in rule units s.number ≡ s.number = move_stand units rule s.number moved ∙ b.rep in
    (t, like.there, like.unit_is, by t.number s.number images stands moved (moves rule units t.number) refl)
  where
    by : (x y : ℕ) → stand_in rule units x ≡ stand_in rule units y → stand_in rule units y ≡ y → moves rule units y ≡ true → (q : Bool) → moves rule units x ≡ q → moves rule units x ≡ true
    by x y images stands moved true e = e
    by x y images stands moved false e =
        (let same : x ≡ y = sym (stay_fixed units rule x e) ∙ images ∙ stands in absurd (let z : false ≡ true = sym e ∙ ap (moves rule units) same ∙ moved in cc))

pub stays_alone : (scope : TopScope) (units : List (FileUnit EntryName)) (rule : Rule) → IsAlike scope units rule.alike → IsChoice units rule → (files : List ℕ) → AreOld units
    → IsHeld units (plan rule units files) → (file : ℕ) → changes (plan rule units files) units file ≡ false → imports_common (plan rule units files) units file ≡ false
unfolding imports_common changes
stays_alone scope units rule is choice files old held file still = by (imports_common m units file) refl where
  m : Move
  m = plan rule units files

  by : (b : Bool) → imports_common m units file ≡ b → b ≡ false
  by false e = refl
  by true e =
      let o = any_from (λ (p : PartialUnit). same_home p.home Common && list_any (λ j. file_of units j == file) p.users) m.parts e in
      let users = (and_parts (same_home o.one.home Common) (list_any (λ j. file_of units j == file) o.one.users) o.passes).1 in
      let u = any_from (λ j. file_of units j == file) o.one.users users in
      let of_file : file_of units u.one ≡ file = eqb-true (file_of units u.one) file u.passes in
      let n = in_nth 0 m.parts o.one o.there in
      let t = used_moves scope units rule is choice files old held n.number o.one n.nth u.one u.there in
      let own : t.0.file ≡ file = sym (file_of_top units t.0 t.1) ∙ ap (file_of units) t.2 ∙ of_file in
      let one : (t.0.file == file && m.gone t.0.number) ≡ true = ap (λ (b : Bool). b && m.gone t.0.number) (eq-eqb t.0.file file own) ∙ ap (λ (b : Bool). true && b) t.3 in
      absurd (let z : true ≡ false = sym (any_true (λ (w : Top). w.file == file && m.gone w.number) t.0 (tops_of units) t.1 one) ∙ still in cc)
