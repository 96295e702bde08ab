-- How deep entries stand after: no deeper than before.
use Rattle.std.proofs.Common.{◌≡◌, ℕ, ℤ, suc, ◌+◌, ◌-◌, ◌≤◌, Bool, true, false, List, [], ◌∷◌, ◌++◌, length, map, Option, refl, sym, ap, subst, ◌∙◌, arith, inl, inr, length-append}
use Rattle.std.specs.Prelude.{max}
use Rattle.std.proofs.lemmas.List.{length-map}
use Rattle.dwz_def_reading.specs.Lists.{Each, In, Nth}
use Rattle.dwz_def_reading.proofs.ListFacts.{in_cases}
use Rattle.dwz_def_reading.proofs.Members.{each_in, nth_in}
use Rattle.dwz_def_reading.specs.Documents.{Compile, Doc, DwUnit, Entries, Kind, Node, OfType, Partial, entries_map, language, unit_map}
use Rattle.dwz_def_reading.specs.Entries.{RawEntry, SpellsFront, UnitContext, root_position, Mode}
use Rattle.dwz_def_reading.specs.Meanings.{Around, MeanEntries, MeaningContext, MeanUnits, scope_of}
use Rattle.dwz_def_reading.specs.Trees.{End, Entry, Forest, IfChildren, Position, SpellsForest, behind, first_below}
use Rattle.dwz_def_reading.specs.Units.{RawUnit, SpellsUnit, SpellsUnits, entry_count}
use Rattle.dwz_def_tops.specs.Spaces.{IsUnder, tops_under}
use Rattle.dwz_def_tops.specs.Spots.{ASpace, ATop, EntryName, FileUnit, Nothing, Row, SpaceName, Top, in_file, name_list, name_of, named, named_files, row_tops, rows_of_root, spot_in}
use Rattle.dwz_def_tops.specs.Spots.{spots_from, tops_of}
use Rattle.dwz_def_tops.proofs.RowLemmas.{RowIs, unit_row}
use Rattle.dwz_def_tops.proofs.Tops.{unit_of}
use Rattle.dwz_def_images.specs.IsPlan.{Has, IsPart, OfSpace, OfTop, row}
use Rattle.dwz_def_images.specs.Moves.{Move, image_in, plan}
use Rattle.dwz_def_images.specs.Homes.{Rule}
use Rattle.dwz_def_images.specs.Plan.{PartialUnit, import_of, imports, kept_row, part_row, partials}
use Rattle.dwz_def_images.proofs.KeptLemmas.{are_imports}
use Rattle.dwz_def_images.proofs.PartRows.{part_is}
use Rattle.dwz_def_images.proofs.PlanLemmas.{are_parts}
use Rattle.dwz_def_images.proofs.RowParts.{kept_is}
use Rattle.dwz_def_images.specs.Held.{IsHeld, Kinded}
use Rattle.dwz_def_images.specs.Units.{changes, kept_below, kept_unit, partial_unit, tree}
use Rattle.dwz_def_images.proofs.HeldLemmas.{row_found}
use Rattle.dwz_def_images.proofs.KindLemmas.{kept_kinded}
use Rattle.dwz_def_images.proofs.OldRows.{item_under, row_kinded, top_names, tops_among}
use Rattle.dwz_def_encoding.specs.Fitting.{depth}

-- ---- trees

-- entries with other places are as deep
pub depth_map : {A B : Type 0} (f : A → B) (g : Entries A) → depth (entries_map f g) ≡ depth g
unfolding depth entries_map
depth_map f End = refl
depth_map f (Entry e c n) = ap (λ (w : ℕ). max (suc w) (depth (entries_map f n))) (depth_map f c) ∙ ap (λ (w : ℕ). max (suc (depth c)) w) (depth_map f n)

-- what a row holds is as deep as its tops and spaces stand
module _ (f : EntryName → EntryName) where
  tree_deep : (items : Row) (last : Entries EntryName) (n : ℕ) → Kinded items
      → ((names : List (List ℕ)) (t : Top) → Has names (OfTop t) items → length names + suc (depth t.below) ≤ n)
      → ((names : List (List ℕ)) (e : Node EntryName) → Has names (OfSpace e) items → suc (length names) ≤ n)
      → depth last ≤ n → depth (tree f items last) ≤ n
  unfolding tree depth
  tree_deep Nothing last n kinds tops spaces low = low
  tree_deep (ATop t next) last n kinds tops spaces low =
      let here = tops [] t (inl (refl, refl)) in
      let same = depth_map f t.below in
      let rest = tree_deep next last n kinds.1 (λ names u h. tops names u (inr h)) (λ names e h. spaces names e (inr h)) low in
      omega (arith, here, same, rest)
  tree_deep (ASpace e inner next) last n kinds tops spaces low =
      let here = spaces [] e (inl (refl, refl)) in
      let own = tree_deep inner End (n - 1) kinds.1
      (λ names u h. (let at = tops (kinds.0.0 ∷ names) u (inr (inl (kinds.0.0, names, kinds.0.1, refl, h))) in omega (arith, at)))
      (λ names d h. (let at = spaces (kinds.0.0 ∷ names) d (inr (inl (kinds.0.0, names, kinds.0.1, refl, h))) in omega (arith, at))) (omega arith) in
      let rest = tree_deep next last n kinds.2 (λ names u h. tops names u (inr (inr h))) (λ names d h. spaces names d (inr (inr h))) low in
      omega (arith, here, own, rest)

row_deep : (nodes : List (Node EntryName)) → depth (row nodes) ≤ 1
unfolding depth
row_deep [] = omega arith
row_deep (e ∷ nodes) = (let rest = row_deep nodes in omega (arith, rest))

imports_deep : (i : ℕ) (parts : List PartialUnit) → depth (imports i 0 parts) ≤ 1
imports_deep i parts = (let a = are_imports i parts in subst (λ (g : Entries EntryName). depth g ≤ 1) (sym a.entries_are) (row_deep (map (import_of i) a.parts_imported)))

under_deep : (names : List (List ℕ)) (e : Node EntryName) (g : Entries EntryName) → IsUnder names e g → suc (length names) ≤ depth g
unfolding depth
under_deep names e End h = absurd h
under_deep names e (Entry d f g) (inl x) = (let none = ap length x.0 in omega (arith, none))
under_deep names e (Entry d f g) (inr (inl i)) = (let more = ap length i.3 in let inner = under_deep i.1 e f i.4 in omega (arith, more, inner))
under_deep names e (Entry d f g) (inr (inr r)) = (let rest = under_deep names e g r in omega (arith, rest))

module _ (file unit : ℕ) (tongue : Option ℤ) where
  top_deep : (spaces : List SpaceName) (n : ℕ) (items : Row) (g : Entries EntryName) → RowIs file unit tongue spaces n items g → (t : Top) → In t (row_tops items)
      → length (name_list t) + suc (depth t.below) ≤ length spaces + depth g
  unfolding row_tops depth
  top_deep spaces n Nothing g h t is = absurd is
  top_deep spaces n (ATop u next) (Entry e f g) h t (inl x) =
      subst (λ (w : Top). length (name_list w) + suc (depth w.below) ≤ length spaces + max (suc (depth f)) (depth g)) (h.1 ∙ x)
      (let len = length-map spaces (λ (s : SpaceName). s.text) in omega (arith, len))
  top_deep spaces n (ATop u next) (Entry e f g) h t (inr r) = (let rest = top_deep spaces (suc n) next g h.2 t r in omega (arith, rest))
  top_deep spaces n (ASpace d inner next) (Entry e f g) h t is = elim (in_cases t (row_tops inner) (row_tops next) is) [
    | inl a ↦
        let own = top_deep (spaces ++ name_of h.0 e ∷ []) n inner f h.3 t a in
        let len = length-append spaces (name_of h.0 e ∷ []) in omega (arith, own, len)
    | inr b ↦ (let rest = top_deep spaces (n + tops_under f) next g h.4 t b in omega (arith, rest))
  ]
  top_deep spaces n (ATop u next) End h t is = absurd h
  top_deep spaces n (ASpace d inner next) End h t is = absurd h

none_deep : (n : ℕ) → depth {K = EntryName} End ≤ n
unfolding depth
none_deep n = omega arith

-- ---- units after

module _ (units : List (FileUnit EntryName)) (m : Move) (most : ℕ) (low : (i : ℕ) (u : FileUnit EntryName) → Nth 0 units i u → suc (depth u.unit.below) ≤ most) (some : 2 ≤ most) where
  abbrev g : EntryName → EntryName
  g = image_in m

  -- a top in its unit
  own_deep : (t : Top) → In t (tops_of units) → suc (length (name_list t) + suc (depth t.below)) ≤ most
  own_deep t there =
      let o = unit_of units t there in
      let r = unit_row units t.unit o.unit o.nth o.compile in
      let deep = top_deep o.unit.file t.unit (language o.unit.unit) [] r.first (rows_of_root units t.unit) o.unit.unit.below r.is t o.in_row in
      let bound = low t.unit o.unit o.nth in
      omega (arith, deep, bound)

  changed_deep : (i : ℕ) (u : FileUnit EntryName) → Nth 0 units i u → u.unit.kind ≡ Compile → suc (depth (tree g (kept_row m.gone units i) (imports i 0 m.parts))) ≤ most
  changed_deep i u nth kind =
      let r = unit_row units i u nth kind in
      let bound = low i u nth in
      let imported = imports_deep i m.parts in
      let all = tree_deep g (kept_row m.gone units i) (imports i 0 m.parts) (most - 1)
      (kept_kinded m.gone units i (row_kinded u.file i (language u.unit) [] r.first (rows_of_root units i) u.unit.below r.is))
      (λ names t h.
      let has = ((kept_is m.gone units i names (OfTop t)).0 h).0 in
      let in_row = tops_among (rows_of_root units i) names t has in
      let same = ap length (top_names u.file i (language u.unit) [] r.first (rows_of_root units i) u.unit.below r.is names t has) in
      let deep = top_deep u.file i (language u.unit) [] r.first (rows_of_root units i) u.unit.below r.is t in_row in
      omega (arith, same, deep, bound))
      (λ names d h.
      let under = item_under u.file i (language u.unit) [] r.first (rows_of_root units i) u.unit.below r.is names (OfSpace d) ((kept_is m.gone units i names (OfSpace d)).0 h).0 in
      let deep = under_deep names d u.unit.below under in
      omega (arith, deep, bound)) (omega (arith, imported, some)) in
      omega (arith, all, some)

  still_deep : (i : ℕ) (u : FileUnit EntryName) → Nth 0 units i u → suc (depth (entries_map g u.unit.below)) ≤ most
  still_deep i u nth = (let same = depth_map g u.unit.below in let bound = low i u nth in omega (arith, same, bound))

  below_deep : (i : ℕ) (u : FileUnit EntryName) → Nth 0 units i u → (k : Kind EntryName) → u.unit.kind ≡ k → (b : Bool) → suc (depth (kept_below m units b i k u.unit.below)) ≤ most
  below_deep i u nth Compile e true = changed_deep i u nth e
  below_deep i u nth Compile e false = still_deep i u nth
  below_deep i u nth (OfType signature main) e true = still_deep i u nth
  below_deep i u nth (OfType signature main) e false = still_deep i u nth
  below_deep i u nth Partial e true = still_deep i u nth
  below_deep i u nth Partial e false = still_deep i u nth

  -- a unit that is kept
  pub kept_deep : (i : ℕ) (u : FileUnit EntryName) → Nth 0 units i u → suc (depth (kept_unit m units i u).below) ≤ most
  kept_deep i u nth = below_deep i u nth u.unit.kind refl (changes m units u.file)

  -- a partial unit that holds some of the tops
  pub held_deep : (n : ℕ) (part : PartialUnit) → Kinded (m.rows n) → m.rows n ≡ part_row n part → ((t : Top) → In t part.tops → In t (tops_of units)) → suc (depth (partial_unit m n).below) ≤ most
  held_deep n part kinds rows there =
      let all = tree_deep g (m.rows n) End (most - 1) kinds
      (λ names t h.
      let in_part = ((part_is n part).tops_are names t).0 (subst (Has names (OfTop t)) rows h) in
      let deep = own_deep t (there t in_part.0) in
      let same = ap length in_part.1 in
      omega (arith, deep, same))
      (λ names d h.
      let o = (part_is n part).spaces_are names d (subst (Has names (OfSpace d)) rows h) in
      let deep = own_deep o.top (there o.top o.there) in
      let same = ap length o.names_are ∙ length-append names (o.name.text ∷ o.others) in
      omega (arith, deep, same)) (none_deep (most - 1)) in
      omega (arith, all, some)

-- a partial unit of a plan
pub part_deep : (units : List (FileUnit EntryName)) (rule : Rule) (files : List ℕ) (most : ℕ) → ((i : ℕ) (u : FileUnit EntryName) → Nth 0 units i u → suc (depth u.unit.below) ≤ most) → 2 ≤ most
    → IsHeld units (plan rule units files) → (n : ℕ) (part : PartialUnit) → Nth 0 (plan rule units files).parts n part → suc (depth (partial_unit (plan rule units files) n).below) ≤ most
part_deep units rule files most low some held n part nth =
    let p = each_in (IsPart rule units) part (partials rule units files) (are_parts rule units files) (nth_in 0 (partials rule units files) n part nth) in
    held_deep units (plan rule units files) most low some n part (held.kinds n part nth) (row_found rule units files n part nth) (λ t in_tops. ((p.tops t).0 in_tops).there)

-- ---- units before

named_deep : (file : ℕ) (f : ℕ → EntryName) (most : ℕ) (some : List (DwUnit ℕ)) → Each (λ v. suc (depth v.below) ≤ most) some → (u : FileUnit EntryName)
    → In u (map (in_file file) (map (unit_map f) some))
    → suc (depth u.unit.below) ≤ most
named_deep file f most [] low u there = absurd there
named_deep file f most (v ∷ some) low u (inl e) =
    subst (λ (w : FileUnit EntryName). suc (depth w.unit.below) ≤ most) e (let same = depth_map f v.below in let own = low.0 in omega (arith, same, own))
named_deep file f most (v ∷ some) low u (inr r) = named_deep file f most some low.1 u r

pub units_deep : (most own unit top : ℕ) (docs : List (Doc ℕ)) → ((file : ℕ) (doc : Doc ℕ) → Nth own docs file doc → Each (λ v. suc (depth v.below) ≤ most) doc.units)
    → (u : FileUnit EntryName) → In u (named_files own unit top docs) → suc (depth u.unit.below) ≤ most
unfolding named_files
units_deep most own unit top [] low u there = absurd there
units_deep most own unit top (doc ∷ docs) low u there = elim (in_cases u (map (in_file own) (named unit top doc.units)) _ there) [
  | inl a ↦ named_deep own (spot_in (spots_from unit top doc.units)) most doc.units (low own doc (inl (refl, refl))) u a
  | inr b ↦ units_deep most (suc own) _ _ docs (λ file d nth. low file d (inr nth)) u b
]

-- ---- what is read is no deeper than its mode lets it be

module _ {P : Type 0} (c : UnitContext) (s : MeaningContext P) where
  if_deep : (flag : Bool) (f : Forest RawEntry) (g : Entries P) (at : ℕ) (bytes : List ℕ) (Spelled : Type 0) → (Spelled → MeanEntries s f g → at + depth g ≤ suc c.mode.depth) → at ≤ suc c.mode.depth
      → IfChildren flag f Spelled bytes → MeanEntries s f g → at + depth g ≤ suc c.mode.depth
  unfolding depth
  if_deep true f g at bytes Spelled deep low is means = deep is means
  if_deep false f End at bytes Spelled deep low is means = omega (arith, low)
  if_deep false f (Entry d k l) at bytes Spelled deep low is means = absurd (subst (λ (h : Forest RawEntry). MeanEntries s h (Entry d k l)) is.0 means)

  forest_deep : (f : Forest RawEntry) (g : Entries P) (p : Position) (start : ℕ) (bytes : List ℕ) → SpellsForest (λ e. e.children) (SpellsFront c) f p start bytes → MeanEntries s f g
      → p.depth ≤ suc c.mode.depth
      → p.depth + depth g ≤ suc c.mode.depth
  unfolding depth
  forest_deep End End p start bytes is means low = omega (arith, low)
  forest_deep End (Entry d k l) p start bytes is means low = absurd means
  forest_deep (Entry e f h) End p start bytes is means low = absurd means
  forest_deep (Entry e f h) (Entry d k l) p start bytes is means low =
      let stands = is.first.stands.depth in
      let own = if_deep e.children f k (p.depth + 1) is.second_bytes _ (λ q m. forest_deep f k (first_below p) _ is.second_bytes q m (omega (arith, stands)))
      (omega (arith, stands)) is.second means.1 in
      let rest = forest_deep h l (behind p f) _ is.third_bytes is.third means.2 low in
      omega (arith, own, rest)

unit_read : {P : Type 0} (abbrevs : List ℕ) (m : Mode) (around : Around P) (before : ℕ) (u : RawUnit) (v : DwUnit P) (start : ℕ) (bytes : List ℕ) → SpellsUnit abbrevs m before u start bytes
    → MeanEntries (scope_of around u) u.below v.below → suc (depth v.below) ≤ m.depth
unit_read abbrevs m around before u v start bytes is means =
    let c = is.context in
    let t = is.is_tree in
    let root = t.first.stands.depth in
    let all = if_deep c (scope_of around u) u.root.children u.below v.below 2 t.second_bytes _
    (λ q h. forest_deep c (scope_of around u) u.below v.below (first_below (root_position before)) _ t.second_bytes q h (omega (arith, root))) (omega (arith, root)) t.second means in
    subst (λ (n : Mode). suc (depth v.below) ≤ n.depth) is.is_context.same_mode (omega (arith, all))

pub units_read : {P : Type 0} (abbrevs : List ℕ) (m : Mode) (around : Around P) (raw : List RawUnit) (units : List (DwUnit P)) (before start : ℕ) (bytes : List ℕ)
    → SpellsUnits abbrevs m before raw start bytes
    → MeanUnits around raw units → Each (λ v. suc (depth v.below) ≤ m.depth) units
units_read abbrevs m around [] [] before start bytes is means = tt
units_read abbrevs m around [] (v ∷ units) before start bytes is means = absurd means
units_read abbrevs m around (u ∷ raw) [] before start bytes is means = absurd means
units_read abbrevs m around (u ∷ raw) (v ∷ units) before start bytes is means = (
  unit_read abbrevs m around before u v start is.first_bytes is.first means.0.below,
  units_read abbrevs m around raw units (before + entry_count u) _ is.second_bytes is.second means.1,
)
