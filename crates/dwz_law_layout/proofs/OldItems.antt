-- The old units of a file, one by one: the numbers of their items are those of their tops, of their spaces, and of the partial units they use.
use Rattle.std.proofs.Common.{◌≡◌, ℕ, suc, ◌+◌, ◌<◌, Bool, true, false, List, [], ◌∷◌, ◌++◌, ◌==◌, length, not, inl, inr, refl, sym, ap, subst, ◌∙◌, arith}
use Rattle.std.proofs.lemmas.Bool.{eq-eqb, eqb-true}
use Rattle.std.proofs.lemmas.List.{append-nil, append_assoc, length-append}
use Rattle.dwz_def_reading.specs.Entries.{RawEntry}
use Rattle.dwz_def_reading.specs.Lists.{Each, In}
use Rattle.dwz_def_reading.specs.Rows.{has}
use Rattle.dwz_def_reading.specs.Trees.{End, Entry, Forest}
use Rattle.dwz_def_reading.specs.Units.{CompileUnit, PartialUnit as APartialUnit, RawKind, RawUnit, TypeUnit}
use Rattle.dwz_def_reading.specs.Documents.{Compile, DwUnit, Entries, Kind, Node, OfType, Partial, entries_map, kind_map, unit_map}
use Rattle.dwz_def_reading.specs.Meanings.{Around, IfSo, MeanUnits, MeansKind, MeansUnit, scope_of}
use Rattle.dwz_def_reading.proofs.MeaningLemmas.{has_in}
use Rattle.dwz_def_tops.specs.Lists.{Nth}
use Rattle.dwz_def_tops.proofs.Members.{each_in, each_more}
use Rattle.dwz_def_tops.specs.Spots.{EntryName, FileUnit, Row, Top, in_file, row_below, row_tops, top_count, tops_from, tops_of}
use Rattle.dwz_def_tops.proofs.TopNumbers.{Numbered, below_length, from_numbered, top_at}
use Rattle.dwz_def_tops.proofs.Tops.{row_top}
use Rattle.dwz_graph.specs.Spaces.{stored_space}
use Rattle.dwz_graph.specs.Steps.{is_space, spaces_by, tops_by}
use Rattle.dwz_layout_items.specs.declared.order.Item.{Item}
use Rattle.dwz_layout_items.specs.declared.order.ItemKind.{ItemKind}
use Rattle.dwz_layout_items.specs.declared.order.ItemKind.TheVariants.{Import as Imported, InChain as Chained, Root, Space as ASpaceOf, Top as ATopOf, Whole}
use Rattle.dwz_def_images.specs.Moves.{Move}
use Rattle.dwz_def_images.specs.Plan.{PartialUnit, import_of, imports, pinned_of}
use Rattle.dwz_layout.specs.declared.order.UnitItems.{UnitItems}
use Rattle.dwz_plan.specs.Shows.{import_row}
use Rattle.dwz_layout_order.specs.declared.marks.Marks.{Marks}
use Rattle.dwz_layout_order.specs.declared.outline.Next.{Next}
use Rattle.dwz_layout_order.specs.Kept.{AreKept, From, IsKept, behind_from, behind_unit}
use Rattle.dwz_layout_order.specs.Marks.{mark_at}
use Rattle.dwz_layout_order.specs.Named.{MarksAll, MarksTop}
use Rattle.dwz_layout_order.specs.Orders.{First}
use Rattle.dwz_layout_order.specs.Shown.{IsNext, IsOther, ShowsImports, named_units, tops_in}
use Rattle.dwz_layout_order.specs.Spaces.{spaces_below}
use Rattle.dwz_layout_order.proofs.MeanLemmas.{Agree, means_agree, spaces_agree, tops_agree}
use Rattle.dwz_layout_order.proofs.RowLemmas.{spaces_counted, tops_counted}
use Rattle.dwz_layout_order.proofs.UnitRows.{row_at}
use Rattle.dwz_layout_order.proofs.FileShown.{next_behind}
use Rattle.dwz_law_layout.specs.Items.{IsOfKept, IsOneOf, RootThen}
use Rattle.dwz_law_layout.specs.Old.{EachOld, IsOfOld, OldItemsLaw, OldNames, StaysHere}
use Rattle.dwz_law_layout.proofs.KeptItems.{kept_items}

-- ---- imports

used : (unit n : ℕ) (parts : List PartialUnit) (ns : List ℕ) → imports unit n parts ≡ import_row unit ns → (k : ℕ) → In k ns → (part : PartialUnit) × Nth n parts k part × In unit part.users
unfolding imports import_row
used unit n [] [] e k is = absurd is
used unit n [] (j ∷ js) e k is = absurd cc
used unit n (part ∷ parts) ns e k is = by (λ ms q i. used unit (suc n) parts ms q k i) (has unit part.users) refl e where
  Used : Type 0
  Used = (p : PartialUnit) × Nth n (part ∷ parts) k p × In unit p.users

  first : ((ms : List ℕ) → imports unit (suc n) parts ≡ import_row unit ms → In k ms → (p : PartialUnit) × Nth (suc n) parts k p × In unit p.users) → has unit part.users ≡ true
      → (ms : List ℕ) → Entry (import_of unit n) End (imports unit (suc n) parts) ≡ import_row unit ms → In k ms → (p : PartialUnit) × Nth n (part ∷ parts) k p × In unit p.users
  first on here [] q i = absurd i
  first on here (j ∷ ms) q (inl same) =
      let entry : import_of unit n ≡ import_of unit j = cc in
      let place = ap (λ (w : Node EntryName). w.at) entry in
      let number : n ≡ j = cc in
      (part, inl (number ∙ same, refl), has_in unit part.users here)
  first on here (j ∷ ms) q (inr i) =
      let rest : imports unit (suc n) parts ≡ import_row unit ms = cc in
      let r = on ms rest i in
      (r.0, inr r.1, r.2)

  by : ((ms : List ℕ) → imports unit (suc n) parts ≡ import_row unit ms → In k ms → (p : PartialUnit) × Nth (suc n) parts k p × In unit p.users) → (b : Bool) → has unit part.users ≡ b
      → (elim b as (λ _. Entries EntryName) [ true ↦ Entry (import_of unit n) End (imports unit (suc n) parts) | false ↦ imports unit (suc n) parts ]) ≡ import_row unit ns
      → (p : PartialUnit) × Nth n (part ∷ parts) k p × In unit p.users
  by on true here q = first on here ns q is
  by on false here q = (let r = on ns q is in (r.0, inr r.1, r.2))

-- ---- one unit

not_gone : (a b : Bool) → a ≡ true → a ≡ not b → b ≡ false
not_gone a true e f = absurd (let g : true ≡ false = sym e ∙ f in cc)
not_gone a false e f = refl

module _ (m : Move) (before : List (FileUnit EntryName)) (f : FileUnit EntryName) (after : List (FileUnit EntryName)) (marks : Marks) where
  abbrev units : List (FileUnit EntryName)
  units = before ++ f ∷ after

  abbrev i : ℕ
  i = length before

  abbrev own : List Top
  own = row_tops (row_below f.file i (tops_in before) f.unit f.unit.kind)

  own_numbered : Numbered (tops_in before) own
  unfolding tops_from
  own_numbered = subst (Numbered (tops_in before)) (append-nil own) (from_numbered i (tops_in before) (f ∷ []))

  counted : (k : Kind EntryName) (below : Entries EntryName) → k ≡ Compile → tops_by is_space below ≡ top_count k below
  counted Compile below e = tops_counted below
  counted (OfType signature main) below e = absurd cc
  counted Partial below e = absurd cc

  spaced : (k : Kind EntryName) (below : Entries EntryName) → k ≡ Compile → spaces_by is_space below ≡ length (spaces_below k below)
  spaced Compile below e = spaces_counted below
  spaced (OfType signature main) below e = absurd cc
  spaced Partial below e = absurd cc

  module _ (below : Forest RawEntry) (next : Next) (is : IsNext before next) (agree : Agree stored_space is_space below f.unit.below) (kind : f.unit.kind ≡ Compile) where
    top_stays : MarksAll m units marks → (t : ℕ) → IsOneOf next.top (tops_by stored_space below) t → (mark_at marks.tops.now t).stays ≡ true → StaysHere m units i t
    top_stays known t one stays =
        let many = tops_agree stored_space is_space below f.unit.below agree ∙ counted f.unit.kind f.unit.below kind in
        let long = below_length f.file i (tops_in before) f.unit f.unit.kind in
        let first = is.top in
        let low = one.low in
        let high = one.high in
        let x = top_at (tops_in before) own t own_numbered (omega arith) (omega arith) in
        let there = row_top units i x.0 (subst (λ (w : Row). In x.0 (row_tops w)) (sym (row_at before f after)) x.1) in
        let marked = each_in (MarksTop m.gone (pinned_of units) marks) x.0 (tops_of units) known.tops there.0 in
        let same : (mark_at marks.tops.now t).stays ≡ not (m.gone t) = subst (λ (n : ℕ). (mark_at marks.tops.now n).stays ≡ not (m.gone n)) x.2 marked.stays in
        record { top = x.0; there = there.0; number = x.2; unit = there.1; stays = not_gone (mark_at marks.tops.now t).stays (m.gone t) stays same }

    of_old : MarksAll m units marks → (imported : List ℕ) → imports i 0 m.parts ≡ import_row i imported → (what : ItemKind) → IsOfKept marks below next imported what → IsOfOld m units i what
    of_old known imported same Root h = h
    of_old known imported same Whole h = h
    of_old known imported same (ATopOf t) h = top_stays known t h.0 h.1
    of_old known imported same (ASpaceOf s) h =
        let many = spaces_agree stored_space is_space below f.unit.below agree ∙ spaced f.unit.kind f.unit.below kind in
        let first = is.space in
        let low = h.low in
        let high = h.high in
        record { before = before; unit = f; after = after; units_are = refl; number = refl; space = record { low = omega arith; high = omega arith } }
    of_old known imported same (Chained chain s) h = h
    of_old known imported same (Imported part) h = (let r = used i 0 m.parts imported same part h in record { part = r.0; nth = r.1; user = r.2 })

    pub compile_names : MarksAll m units marks → (imported : List ℕ) → imports i 0 m.parts ≡ import_row i imported → (items : List Item) → IsKept marks CompileUnit below next imported [] items
        → RootThen (IsOfOld m units i) items
    compile_names known imported same items kept =
        let r = kept_items marks CompileUnit below next imported items kept in
        record {
          others = r.others;
          items_are = r.items_are;
          each = each_more (λ x. IsOfKept marks below next imported x.what) (λ x. IsOfOld m units i x.what) r.others (λ x h. of_old known imported same x.what h) r.each;
        }

-- ---- unit by unit

abbrev EachHere : (ℕ → FileUnit EntryName → UnitItems → Type 0) → ℕ → List (FileUnit EntryName) → List UnitItems → Type 0
EachHere P i [] [] = Unit {0}
EachHere P i (f ∷ units) (o ∷ order) = P i f o × EachHere P (suc i) units order
EachHere P i _ _ = ⊥

module _ (around : Around ℕ) (m : Move) (raw : List RawUnit) (name : ℕ → EntryName) (file : ℕ) (units : List (FileUnit EntryName)) (marks : Marks) (known : MarksAll m units marks) (parts : ℕ → List ℕ)
    (imported : ShowsImports m units parts) where
  abbrev Names : ℕ → FileUnit EntryName → UnitItems → Type 0
  Names i f o = OldNames m units i f.unit.kind o.items

  one_old : (from : From) (next : Next) (before after : List (FileUnit EntryName)) (u : RawUnit) (v : DwUnit ℕ) (items : List Item) → from.unit ≡ length before
      → units ≡ before ++ in_file file (unit_map name v) ∷ after
      → IsNext before next → MeansUnit around u v → IsKept marks u.kind u.below next (parts from.unit) [] items → OldNames m units (length before) (kind_map name v.kind) items
  one_old from next before after u v items number is next_is means kept = by u.kind means.kind kept where
    f : FileUnit EntryName
    f = in_file file (unit_map name v)

    there : length before < length units
    there = (let long = ap (λ (w : List (FileUnit EntryName)). length w) is in omega (arith, long, length-append before (f ∷ after)))

    agree : Agree stored_space is_space u.below (entries_map name v.below)
    agree = means_agree (scope_of around u) name u.below v.below means.below

    same : imports (length before) 0 m.parts ≡ import_row (length before) (parts from.unit)
    same = imported (length before) there ∙ ap (λ (j : ℕ). import_row (length before) (parts j)) (sym number)

    compile : v.kind ≡ Compile → IsKept marks CompileUnit u.below next (parts from.unit) [] items → RootThen (IsOfOld m units (length before)) items
    compile kind kept =
        let all : MarksAll m (before ++ f ∷ after) marks → RootThen (IsOfOld m (before ++ f ∷ after) (length before)) items =
        λ k. compile_names m before f after marks u.below next next_is agree (ap (kind_map name) kind) k (parts from.unit) same items kept in
        subst (λ (w : List (FileUnit EntryName)). MarksAll m w marks → RootThen (IsOfOld m w (length before)) items) (sym is) all known

    by : (k : RawKind) → MeansKind (scope_of around u) k v.kind → IsKept marks k u.below next (parts from.unit) [] items → OldNames m units (length before) (kind_map name v.kind) items
    by CompileUnit e kept = subst (λ (w : Kind ℕ). OldNames m units (length before) (kind_map name w) items) (sym e) (compile e kept)
    by (TypeUnit signature type_offset) e kept =
        subst (λ (w : Kind ℕ). OldNames m units (length before) (kind_map name w) items) (sym e.1) (kept_items marks (TypeUnit signature type_offset) u.below next (parts from.unit) items kept)
    by APartialUnit e kept =
        subst (λ (w : Kind ℕ). OldNames m units (length before) (kind_map name w) items) (sym e) (kept_items marks APartialUnit u.below next (parts from.unit) items kept)

  each_old : (from : From) (next : Next) (before after : List (FileUnit EntryName)) (us : List RawUnit) (said : List (DwUnit ℕ)) (order : List UnitItems) → from.unit ≡ length before
      → units ≡ before ++ (named_units file name said ++ after) → IsNext before next → MeanUnits around us said → AreKept raw marks parts from next us order
      → EachHere Names (length before) (named_units file name said) order
  each_old from next before after [] [] [] number is next_is means kept = tt
  each_old from next before after [] [] (o ∷ order) number is next_is means kept = absurd kept
  each_old from next before after [] (v ∷ said) order number is next_is means kept = absurd means
  each_old from next before after (u ∷ us) [] order number is next_is means kept = absurd means
  each_old from next before after (u ∷ us) (v ∷ said) [] number is next_is means kept = absurd kept
  each_old from next before after (u ∷ us) (v ∷ said) (o ∷ order) number is next_is means kept =
      let f : FileUnit EntryName = in_file file (unit_map name v) in
      let long : length (before ++ f ∷ []) ≡ suc (length before) = omega (arith, length-append before (f ∷ [])) in
      let parted : units ≡ (before ++ f ∷ []) ++ (named_units file name said ++ after) = is ∙ sym (append_assoc before (f ∷ []) (named_units file name said ++ after)) in
      let rest = each_old (behind_from from u) (behind_unit u next) (before ++ f ∷ []) after us said order (ap suc number ∙ sym long) parted
      (next_behind around name before file u v next means.0 next_is) means.1 kept.1 in (
        one_old from next before (named_units file name said ++ after) u v o.items number is next_is means.0 kept.0.items,
        subst (λ (k : ℕ). EachHere Names k (named_units file name said) order) long rest,
      )

-- ---- among the units of all files

module _ (P : ℕ → FileUnit EntryName → UnitItems → Type 0) (file : ℕ) where
  skip_one : (f : FileUnit EntryName) (A B : Type 0) → IsOther file f → B → IfSo (f.file == file) A B
  skip_one f A B other b = by (f.file == file) refl where
    by : (t : Bool) → (f.file == file) ≡ t → IfSo t A B
    by false is = b
    by true is = absurd (other (eqb-true f.file file is))

  take_one : (f : FileUnit EntryName) (A B : Type 0) → f.file ≡ file → A → IfSo (f.file == file) A B
  take_one f A B own a = subst (λ (t : Bool). IfSo t A B) (sym (eq-eqb f.file file own)) a

  skip : (i : ℕ) (before rest : List (FileUnit EntryName)) (order : List UnitItems) → Each (IsOther file) before → EachOld P file (i + length before) rest order → EachOld P file i (before
      ++ rest) order
  skip i [] rest order others h = (let none : i + 0 ≡ i = omega arith in subst (λ (k : ℕ). EachOld P file k rest order) none h)
  skip i (f ∷ before) rest order others h =
      let next : i + suc (length before) ≡ suc i + length before = omega arith in
      skip_one f (First (P i f) (EachOld P file (suc i) (before ++ rest)) order) (EachOld P file (suc i) (before ++ rest) order) others.0
      (skip (suc i) before rest order others.1 (subst (λ (k : ℕ). EachOld P file k rest order) next h))

  none_left : (i : ℕ) (after : List (FileUnit EntryName)) → Each (IsOther file) after → EachOld P file i after []
  none_left i [] others = refl
  none_left i (f ∷ after) others = skip_one f (First (P i f) (EachOld P file (suc i) after) []) (EachOld P file (suc i) after []) others.0 (none_left (suc i) after others.1)

  mine : (i : ℕ) (name : ℕ → EntryName) (said : List (DwUnit ℕ)) (after : List (FileUnit EntryName)) (order : List UnitItems) → EachHere P i (named_units file name said) order
      → Each (IsOther file) after
      → EachOld P file i (named_units file name said ++ after) order
  mine i name [] after [] h others = none_left i after others
  mine i name [] after (o ∷ order) h others = absurd h
  mine i name (v ∷ said) after [] h others = absurd h
  mine i name (v ∷ said) after (o ∷ order) h others =
      let f : FileUnit EntryName = in_file file (unit_map name v) in
      let rest = named_units file name said ++ after in
      take_one f (P i f o × EachOld P file (suc i) rest order) (EachOld P file (suc i) rest (o ∷ order)) refl (h.0, mine (suc i) name said after order h.1 others)

pub old_items : OldItemsLaw
old_items e m units marks parts raw from next order is known imported kept =
    let P : ℕ → FileUnit EntryName → UnitItems → Type 0 = λ i f o. OldNames m units i f.unit.kind o.items in
    let each : EachHere P (length is.before) (named_units from.file is.name is.said) order =
    each_old is.around m raw is.name from.file units marks known parts imported from next is.before is.after raw is.said order is.number is.units_are is.next_is is.means kept in
    let none : length is.before ≡ 0 + length is.before = omega arith in
    subst (λ (w : List (FileUnit EntryName)). EachOld P from.file 0 w order) (sym is.units_are)
    (skip P from.file 0 is.before (named_units from.file is.name is.said ++ is.after) order is.others.0
    (subst (λ (k : ℕ). EachOld P from.file k (named_units from.file is.name is.said ++ is.after) order) none (mine P from.file (length is.before) is.name is.said is.after order each is.others.1)))
