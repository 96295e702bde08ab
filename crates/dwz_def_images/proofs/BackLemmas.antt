-- The places of a file of which nothing moves are given back by the names after.
use Rattle.std.proofs.Common.{◌≡◌, ℕ, suc, ◌+◌, ◌<◌, ◌==◌, Bool, true, false, List, [], ◌∷◌, ◌++◌, length, map, refl, sym, ap, subst, ◌∙◌, arith, inl, inr, ◌&&◌}
use Rattle.std.proofs.lemmas.Bool.{and_parts, ne_eqb}
use Rattle.std.proofs.lemmas.List.{map-append}
use Rattle.dwz_def_reading.specs.Documents.{Attr, Compile, Doc, DwUnit, Entries, Kind, Node, OfType, Partial, attr_map, entries_map, kind_map, node_map, unit_map}
use Rattle.dwz_def_reading.specs.Lists.{Each, In}
use Rattle.dwz_def_reading.specs.Trees.{End, Entry}
use Rattle.dwz_def_reading.proofs.ListFacts.{in_left, in_map, in_right}
use Rattle.dwz_def_tops.specs.Lists.{NoneTwice, Nth, Rising}
use Rattle.dwz_def_tops.specs.Seen.{Closed, IsShown, Named, Seen, all_seen, named_map, named_value, see, seen, seen_below, seen_roots}
use Rattle.dwz_def_tops.specs.Shown.{AreShown, HaveMains, UnitsShown, keys, unit_keys, units_keys}
use Rattle.dwz_def_tops.proofs.MainLemmas.{keys_map}
use Rattle.dwz_def_tops.proofs.Members.{any_from, each_in, in_map_from, nth_from, nth_in}
use Rattle.dwz_def_tops.proofs.SeenLemmas.{root_in, seen_in}
use Rattle.dwz_def_tops.proofs.ShownLemmas.{entry_key, unit_key}
use Rattle.dwz_def_tops.specs.Alike.{IsAlike, TopScope}
use Rattle.dwz_def_tops.specs.Spots.{EntryName, FileUnit, in_file, named_files, named_in, same_spot, spot_in, spots_from, tops_among, tops_of, units_of}
use Rattle.dwz_def_plan.specs.Homes.{IsChoice, Rule, home, moves}
use Rattle.dwz_def_plan.specs.Moves.{plan}
use Rattle.dwz_def_tops.proofs.SpotLemmas.{same_spot-same, same_spot-true}
use Rattle.dwz_def_images.specs.After.{ArePlaced, StandAsNamed}
use Rattle.dwz_def_images.specs.Units.{changes, out_units, units_of_file}
use Rattle.dwz_def_images.proofs.ApartUnits.{out_apart}
use Rattle.dwz_def_images.proofs.OldFiles.{files_old}
use Rattle.dwz_def_images.proofs.StillLemmas.{at_append, at_other, at_own, still}

-- ---- the place of a name

module _ (f : ℕ → EntryName) where
  look : List ℕ → EntryName → ℕ
  look [] s = 0
  look (x ∷ xs) s = elim (same_spot (f x) s) as (λ _. ℕ) [ true ↦ x | false ↦ look xs s ]

  look_is : (xs : List ℕ) → ((x y : ℕ) → In x xs → In y xs → f x ≡ f y → x ≡ y) → (x : ℕ) → In x xs → look xs (f x) ≡ x
  unfolding look
  look_is [] one x h = absurd h
  look_is (y ∷ xs) one x h = go (same_spot (f y) (f x)) refl h (λ r. look_is xs (λ a b p q e. one a b (inr p) (inr q) e) x r) where
    go : (b : Bool) → same_spot (f y) (f x) ≡ b → In x (y ∷ xs) → (In x xs → look xs (f x) ≡ x) → (elim b as (λ _. ℕ) [ true ↦ y | false ↦ look xs (f x) ]) ≡ x
    go true q is more = one y x (inl refl) is (same_spot-true (f y) (f x) q)
    go false q (inl e) more = absurd (let z : same_spot (f y) (f x) ≡ true = ap (λ (w : ℕ). same_spot (f w) (f x)) e ∙ same_spot-same (f x) in cc)
    go false q (inr r) more = more r

  one_name : (xs : List ℕ) → NoneTwice (map f xs) → (x y : ℕ) → In x xs → In y xs → f x ≡ f y → x ≡ y
  one_name [] h x y p q e = absurd p
  one_name (z ∷ xs) h x y (inl p) (inl q) e = sym p ∙ q
  one_name (z ∷ xs) h x y (inl p) (inr q) e = absurd (h.0 (subst (λ (w : EntryName). In w (map f xs)) (sym e ∙ ap f (sym p)) (in_map f y xs q)))
  one_name (z ∷ xs) h x y (inr p) (inl q) e = absurd (h.0 (subst (λ (w : EntryName). In w (map f xs)) (e ∙ ap f (sym q)) (in_map f x xs p)))
  one_name (z ∷ xs) h x y (inr p) (inr q) e = one_name xs h.1 x y p q e

  units_keys_map : (us : List (DwUnit ℕ)) → units_keys (map (unit_map f) us) ≡ map f (units_keys us)
  unfolding units_keys unit_keys
  units_keys_map [] = refl
  units_keys_map (u ∷ us) =
      ap (λ (w : List EntryName). f u.at ∷ f u.root.at ∷ w)
      (ap (λ (w : List EntryName). w ++ units_keys (map (unit_map f) us)) (keys_map f u.below) ∙ ap (λ (w : List EntryName). map f (keys u.below) ++ w) (units_keys_map us)
      ∙ sym (map-append f (keys u.below) (units_keys us)))

-- ---- units with names are shown at their places

module _ (f : ℕ → EntryName) (g : EntryName → ℕ) (us : List (DwUnit ℕ)) (back : (x : ℕ) → In x (units_keys us) → g (f x) ≡ x) (closed : Closed us) (mains : HaveMains us) where
  -- each of these attributes names entries
  abbrev Names : List (Named ℕ) → Type 0
  Names attrs = (a : Named ℕ) (p : ℕ) → In a attrs → In p a.value.refs → In p (units_keys us)

  refs_back : (xs : List ℕ) → ((x : ℕ) → In x xs → In x (units_keys us)) → xs ≡ map g (map f xs)
  refs_back [] h = refl
  refs_back (x ∷ xs) h = ap (λ (w : ℕ). w ∷ xs) (sym (back x (h x (inl refl)))) ∙ ap (λ (w : List ℕ). g (f x) ∷ w) (refs_back xs (λ y is. h y (inr is)))

  attrs_back : (attrs : List (Attr ℕ)) → Names (map named_value attrs) → map named_value attrs ≡ map (named_map g) (map named_value (map (attr_map f) attrs))
  attrs_back [] h = refl
  attrs_back (a ∷ attrs) h =
      ap (λ (w : List ℕ). record { name = a.name; value = record { plain = a.value.plain; refs = w; address = a.value.address } } ∷ map named_value attrs) (refs_back a.value.refs (λ p is. h (named_value a) p (inl refl) is))
      ∙ ap (λ (w : List (Named ℕ)). named_map g (named_map f (named_value a)) ∷ w) (attrs_back attrs (λ b p is ref. h b p (inr is) ref))

  -- an entry stands at a known place, and names known places
  abbrev Good : Seen ℕ → Type 0
  Good e = In e.at (units_keys us) × Names e.attrs

  good : (e : Seen ℕ) → In e (all_seen us) → Good e
  good e is = (entry_key us e is, λ a p there ref. (let d = closed e a p is there ref in subst (λ (w : ℕ). In w (units_keys us)) d.2 (entry_key us d.0 d.1)))

  node_back : (e : Node ℕ) → In e.at (units_keys us) → Names (map named_value e.attrs) → IsShown g (node_map f e) e
  node_back e at names = record { at = sym (back e.at at); tag = refl; attrs = attrs_back e.attrs names }

  entries_back : (k : Entries ℕ) → ((e : Seen ℕ) → In e (seen k) → Good e) → AreShown g (entries_map f k) k
  unfolding entries_map seen
  entries_back End h = tt
  entries_back (Entry e k n) h =
      let o = h (see e k) (inl refl) in
      (node_back e o.0 o.1, entries_back k (λ d is. h d (inr (in_left d (seen k) (seen n) is))), entries_back n (λ d is. h d (inr (in_right d (seen k) (seen n) is))))

  kind_back : (u : DwUnit ℕ) → In u us → (k : Kind ℕ) → u.kind ≡ k → k ≡ kind_map g (kind_map f k)
  unfolding unit_keys
  kind_back u is Compile e = refl
  kind_back u is (OfType s t) e = ap (OfType s) (sym (back t (unit_key us u t is (inr (mains u is s t e)))))
  kind_back u is Partial e = refl

  some_back : (some : List (DwUnit ℕ)) → ((u : DwUnit ℕ) → In u some → In u us) → UnitsShown g (map (unit_map f) some) some
  some_back [] h = tt
  some_back (u ∷ some) h =
      let is = h u (inl refl) in
      let root = good (see u.root u.below) (in_left (see u.root u.below) (seen_roots us) (seen_below us) (root_in us u is)) in (
        record {
          kind = kind_back u is u.kind refl;
          root = node_back u.root root.0 root.1;
          below =
              entries_back u.below (λ e there. good e (in_right e (seen_roots us) (seen_below us) (seen_in us u e is there)));
        },
        some_back some (λ v there. h v (inr there)),
      )

-- ---- the units of one file

-- those of a document are named by one function
abbrev pub IsNamed : List (DwUnit EntryName) → Doc ℕ → Type 0
IsNamed units doc = (f : ℕ → EntryName) × (units ≡ map (unit_map f) doc.units)

pub at_none : (file first unit n : ℕ) (docs : List (Doc ℕ)) → file < first → units_of_file file (named_files first unit n docs) ≡ []
unfolding named_files units_of_file
at_none file first unit n [] h = refl
at_none file first unit n (doc ∷ docs) h =
    let own = map (in_file first) (named_in (spots_from unit n doc.units) doc.units) in
    let rest = named_files (suc first) (unit + length doc.units) (n + tops_among doc.units) docs in
    let ne : first ≡ file → ⊥ = λ e. omega (arith, e, h) in
    at_append file own rest ∙ ap (λ (w : List (DwUnit EntryName)). w ++ units_of_file file rest) (at_other file first (named_in (spots_from unit n doc.units) doc.units) (ne_eqb first file ne))
    ∙ at_none file (suc first) (unit + length doc.units) (n + tops_among doc.units) docs (omega (arith, h))

pub append_none : (xs : List (DwUnit EntryName)) → xs ++ [] ≡ xs
append_none [] = refl
append_none (x ∷ xs) = ap (λ (w : List (DwUnit EntryName)). x ∷ w) (append_none xs)

pub at_doc : (file first unit n : ℕ) (docs : List (Doc ℕ)) (doc : Doc ℕ) → Nth first docs file doc → IsNamed (units_of_file file (named_files first unit n docs)) doc
unfolding named_files
at_doc file first unit n [] doc h = absurd h
at_doc file first unit n (d ∷ docs) doc (inl x) =
    let spots = spots_from unit n d.units in
    let own = map (in_file first) (named_in spots d.units) in
    let rest = named_files (suc first) (unit + length d.units) (n + tops_among d.units) docs in
    let mine : units_of_file file own ≡ named_in spots d.units = subst (λ (w : ℕ). units_of_file w own ≡ named_in spots d.units) x.0 (at_own first (named_in spots d.units)) in
    let none : units_of_file file rest ≡ [] = at_none file (suc first) (unit + length d.units) (n + tops_among d.units) docs (omega (arith, x.0)) in (
      spot_in spots,
      at_append file own rest ∙ ap (λ (w : List (DwUnit EntryName)). w ++ units_of_file file rest) mine ∙ ap (λ (w : List (DwUnit EntryName)). named_in spots d.units ++ w) none
          ∙ append_none (named_in spots d.units) ∙ ap (λ (w : Doc ℕ). named_in spots w.units) x.1,
    )
at_doc file first unit n (d ∷ docs) doc (inr r) =
    let spots = spots_from unit n d.units in
    let own = map (in_file first) (named_in spots d.units) in
    let rest = named_files (suc first) (unit + length d.units) (n + tops_among d.units) docs in
    let ne : first ≡ file → ⊥ = λ e. omega (arith, e, nth_from (suc first) docs file doc r) in
    let o = at_doc file (suc first) (unit + length d.units) (n + tops_among d.units) docs doc r in
    (o.0, at_append file own rest ∙ ap (λ (w : List (DwUnit EntryName)). w ++ units_of_file file rest) (at_other file first (named_in spots d.units) (ne_eqb first file ne)) ∙ o.1)

-- ---- where nothing moves at all

abbrev none_rule : Rule → Rule
none_rule rule = record { alike = rule.alike; chosen = λ n. false }

none_moves : (rule : Rule) (units : List (FileUnit EntryName)) (n : ℕ) → moves (none_rule rule) units n ≡ false
unfolding home
none_moves rule units n = refl

none_choice : (rule : Rule) (units : List (FileUnit EntryName)) → IsChoice units (none_rule rule)
none_choice rule units = record { together = λ m n e. refl; targets = λ t is mv m refers. absurd (let z = none_moves rule units t.number in cc) }

none_changes : (rule : Rule) (units : List (FileUnit EntryName)) (files : List ℕ) (file : ℕ) → changes (plan (none_rule rule) units files) units file ≡ false
unfolding changes
none_changes rule units files file = go (changes (plan (none_rule rule) units files) units file) refl where
  go : (b : Bool) → changes (plan (none_rule rule) units files) units file ≡ b → b ≡ false
  go false e = refl
  go true e =
      let o = any_from (λ t. t.file == file && moves (none_rule rule) units t.number) (tops_of units) e in
      absurd (let z = (and_parts (o.one.file == file) (moves (none_rule rule) units o.one.number) o.passes).1 in let y = none_moves rule units o.one.number in cc)

module _ (scope : TopScope) (docs : List (Doc ℕ)) (rule : Rule) (placed : Each (λ doc. ArePlaced doc.units) docs) (is : IsAlike scope (units_of docs) rule.alike) where
  names_apart : (files : List ℕ) → Rising files → (file : ℕ) → NoneTwice (units_keys (units_of_file file (units_of docs)))
  names_apart files rises file =
      subst (λ (w : List (DwUnit EntryName)). NoneTwice (units_keys w)) (still scope docs (none_rule rule) is (none_choice rule (units_of docs)) files file (none_changes rule (units_of docs) files
      file))
      (out_apart (units_of docs) (none_rule rule) (files_old docs placed) files rises file)

  doc_back : (files : List ℕ) → Rising files → (file : ℕ) (doc : Doc ℕ) → Nth 0 docs file doc → StandAsNamed (units_of_file file (units_of docs)) doc.units
  doc_back files rises file doc nth =
      let n = at_doc file 0 0 0 docs doc nth in
      let at = each_in (λ (d : Doc ℕ). ArePlaced d.units) doc docs placed (nth_in 0 docs file doc nth) in
      let apart = subst NoneTwice (units_keys_map n.0 doc.units) (subst (λ (w : List (DwUnit EntryName)). NoneTwice (units_keys w)) n.1 (names_apart files rises file)) in
      subst (λ (w : List (DwUnit EntryName)). StandAsNamed w doc.units) (sym n.1) (found_at n.0 doc.units (one_name n.0 (units_keys doc.units) apart) at.closed at.mains)
    where
      found_at : (f : ℕ → EntryName) (us : List (DwUnit ℕ)) → ((x y : ℕ) → In x (units_keys us) → In y (units_keys us) → f x ≡ f y → x ≡ y) → Closed us → HaveMains us
          → StandAsNamed (map (unit_map f) us) us
      found_at f us one closed mains =
          let g = look f (units_keys us) in
          let back : (x : ℕ) → In x (units_keys us) → g (f x) ≡ x = λ x there. look_is f (units_keys us) one x there in
          record {
            place = g;
            shown = some_back f g us back closed mains us (λ u there. there);
            one = λ x y p q e. (
                let a = in_map_from f x (units_keys us) (subst (In x) (units_keys_map f us) p) in
                let b = in_map_from f y (units_keys us) (subst (In y) (units_keys_map f us) q) in
                sym a.is ∙ ap f (sym (back a.source a.there) ∙ ap g a.is ∙ e ∙ sym (ap g b.is) ∙ back b.source b.there) ∙ b.is);
          }

-- a file of which nothing moves stands at its old places
pub stands_back : (scope : TopScope) (docs : List (Doc ℕ)) (rule : Rule) → Each (λ doc. ArePlaced doc.units) docs → IsAlike scope (units_of docs) rule.alike → IsChoice (units_of docs) rule
    → (files : List ℕ) → Rising files → (file : ℕ) (doc : Doc ℕ) → Nth 0 docs file doc → changes (plan rule (units_of docs) files) (units_of docs) file ≡ false
    → StandAsNamed (out_units (plan rule (units_of docs) files) (units_of docs) file) doc.units
stands_back scope docs rule placed is choice files rises file doc nth c =
    subst (λ (w : List (DwUnit EntryName)). StandAsNamed w doc.units) (sym (still scope docs rule is choice files file c)) (doc_back scope docs rule placed is files rises file doc nth)
