-- Over a finished common file there are places for all names: those where names are written, and in a file of which nothing moves the old ones.
use Rattle.std.proofs.Common.{◌≡◌, ℕ, suc, Bool, true, false, List, [], ◌∷◌, ◌==◌, ◌||◌, map, refl, sym, ap, subst, ◌∙◌, arith, inl, inr, ◌&&◌, ◌++◌}
use Rattle.std.proofs.lemmas.Bool.{eq-eqb, ne_eqb, or_left, or_right, and_parts}
use Rattle.dwz_def_reading.specs.Lists.{In}
use Rattle.dwz_def_reading.specs.Trees.{End, Entry}
use Rattle.dwz_def_reading.proofs.ListFacts.{in_left, in_right, in_map}
use Rattle.dwz_def_reading.specs.Documents.{Compile, Doc, DwUnit, Entries, Kind, Node, OfType, Partial, kind_map, unit_map}
use Rattle.dwz_def_tops.specs.Lists.{Nth, NoneTwice}
use Rattle.dwz_def_tops.specs.Seen.{Closed, IsShown, Named, Seen, all_seen, named_map, named_value, see, seen, seen_below, seen_roots}
use Rattle.dwz_def_tops.specs.Shown.{AreShown, HaveMains, OnePlace, UnitsShown, unit_keys, units_keys}
use Rattle.dwz_def_tops.proofs.Members.{nth_from, any_from}
use Rattle.dwz_def_tops.proofs.SeenLemmas.{root_in, seen_in}
use Rattle.dwz_def_tops.proofs.ShownLemmas.{entry_key, map_shown, shown_then, unit_key}
use Rattle.dwz_def_tops.specs.Spots.{EntryName, file_numbers, units_of, Top, same_spot, tops_of}
use Rattle.dwz_def_images.specs.Homes.{IsChoice, Rule, home, moves}
use Rattle.dwz_def_images.specs.After.{StandAsNamed}
use Rattle.dwz_def_reading.specs.Places.{Place, at_file}
use Rattle.dwz_def_images.specs.Units.{changes, common_units, file_units, out_units, all_units}
use Rattle.dwz_def_readback.specs.Back.{AreAtOld, CanWriteBy, IsPlacingBy, run_by}
use Rattle.dwz_def_readback.specs.Files.{Run, Stored, Finished, Stands, common_out_by, file_of_name_by, file_out_by, files_out_by, fitted_by, place_of_by}
use Rattle.dwz_def_readback.proofs.SameLemmas.{numbers_in}
use Rattle.dwz_def_readback.proofs.WithinLemmas.{closed_at}
use Rattle.dwz_def_images.proofs.BackLemmas.{stands_back}
use Rattle.dwz_def_images.proofs.StillLemmas.{still}
use Rattle.dwz_def_images.proofs.FileLemmas.{numbers_rise}
use Rattle.dwz_def_tops.proofs.UnitKeys.{keys_joined}
use Rattle.dwz_def_tops.proofs.AlikeLaws.{alike_decides}
use Rattle.dwz_def_tops.specs.Deciding.{alike_test}
use Rattle.dwz_def_tops.specs.Alike.{Apart}
use Rattle.dwz_def_images.specs.Moves.{plan}
use Rattle.dwz_def_encoding.specs.Placing.{files_keys}
use Rattle.dwz_def_encoding.proofs.SameLemmas.{spots_same}
use Rattle.dwz_def_readback.proofs.NameLemmas.{file_is, file_names_by, fitted_names_by}
use Rattle.dwz_def_taken.proofs.FilesOver.{files_over}
use Rattle.dwz_def_taken.specs.Laws.{ArePlacedOver}
use Rattle.dwz_def_taken.specs.declared.fixed.Fixed.{Fixed}
use Rattle.dwz_def_taken.specs.Takes.{IsFixed}
use Rattle.dwz_def_taken.specs.Over.{move_over}
use Rattle.dwz_def_readback.proofs.StillPlaces.{nth_number, number_nth}
use Rattle.dwz_def_taken.proofs.KeptOwn.{over_apart}
use Rattle.dwz_def_taken.specs.Beside.{reused_of}
use Rattle.dwz_def_over.proofs.StillOver.{still_over}

-- ---- where two maps agree on all names, units are shown by both

module _ {P Q : Type 0} (f g : P → Q) (us : List (DwUnit P)) (same : (k : P) → In k (units_keys us) → f k ≡ g k) (closed : Closed us) (mains : HaveMains us) where
  abbrev Names : List (Named P) → Type 0
  Names attrs = (a : Named P) (p : P) → In a attrs → In p a.value.refs → In p (units_keys us)

  refs_as : (xs : List P) → ((x : P) → In x xs → In x (units_keys us)) → map f xs ≡ map g xs
  refs_as [] h = refl
  refs_as (x ∷ xs) h = ap (λ (q : Q). q ∷ map f xs) (same x (h x (inl refl))) ∙ ap (λ (w : List Q). g x ∷ w) (refs_as xs (λ y is. h y (inr is)))

  attrs_as : (attrs : List (Named P)) → Names attrs → map (named_map f) attrs ≡ map (named_map g) attrs
  attrs_as [] h = refl
  attrs_as (a ∷ attrs) h =
      ap (λ (w : List Q). record { name = a.name; value = record { plain = a.value.plain; refs = w; address = a.value.address } } ∷ map (named_map f) attrs) (refs_as a.value.refs (λ p is. h a p (inl refl) is))
      ∙ ap (λ (w : List (Named Q)). named_map g a ∷ w) (attrs_as attrs (λ b p is ref. h b p (inr is) ref))

  abbrev Good : Seen P → Type 0
  Good e = In e.at (units_keys us) × Names e.attrs

  good : (e : Seen P) → In e (all_seen us) → Good e
  good e is = (entry_key us e is, λ a p there ref. (let d = closed e a p is there ref in subst (λ (w : P). In w (units_keys us)) d.2 (entry_key us d.0 d.1)))

  node_as : (e : Node P) (d : Node Q) → In e.at (units_keys us) → Names (map named_value e.attrs) → IsShown f e d → IsShown g e d
  node_as e d at names h = record { at = h.at ∙ same e.at at; tag = h.tag; attrs = h.attrs ∙ attrs_as (map named_value e.attrs) names }

  entries_as : (k : Entries P) (l : Entries Q) → ((e : Seen P) → In e (seen k) → Good e) → AreShown f k l → AreShown g k l
  unfolding seen
  entries_as End End h s = tt
  entries_as (Entry e k n) (Entry d l m) h s =
      let o = h (see e k) (inl refl) in (
        node_as e d o.0 o.1 s.0,
        entries_as k l (λ x is. h x (inr (in_left x (seen k) (seen n) is))) s.1,
        entries_as n m (λ x is. h x (inr (in_right x (seen k) (seen n) is))) s.2,
      )
  entries_as End (Entry d l m) h s = absurd s
  entries_as (Entry e k n) End h s = absurd s

  kind_as : (u : DwUnit P) → In u us → (k : Kind P) → u.kind ≡ k → kind_map f k ≡ kind_map g k
  unfolding unit_keys
  kind_as u is Compile e = refl
  kind_as u is (OfType s t) e = ap (OfType s) (same t (unit_key us u t is (inr (mains u is s t e))))
  kind_as u is Partial e = refl

  pub some_as : (some : List (DwUnit P)) (others : List (DwUnit Q)) → ((u : DwUnit P) → In u some → In u us) → UnitsShown f some others → UnitsShown g some others
  some_as [] [] h s = tt
  some_as (u ∷ some) (v ∷ others) h s =
      let is = h u (inl refl) in
      let root = good (see u.root u.below) (in_left (see u.root u.below) (seen_roots us) (seen_below us) (root_in us u is)) in (
        record {
          kind = s.0.kind ∙ kind_as u is u.kind refl;
          root = node_as u.root v.root root.0 root.1 s.0.root;
          below = entries_as u.below v.below (λ e there. good e (in_right e (seen_roots us) (seen_below us) (seen_in us u e is there))) s.0.below;
        },
        some_as some others (λ w there. h w (inr there)) s.1,
      )
  some_as [] (v ∷ others) h s = absurd s
  some_as (u ∷ some) [] h s = absurd s

-- ---- the old places of all files of which nothing moves

module _ (out : ℕ → List (DwUnit EntryName)) (moves : ℕ → Bool) where
  record Old (own : ℕ) (docs : List (Doc ℕ)) : Type 0 where
    place : ℕ → EntryName → ℕ
    are : (file : ℕ) (doc : Doc ℕ) → Nth own docs file doc → moves file ≡ false → UnitsShown (place file) (out file) doc.units × OnePlace (place file) (out file)

  abbrev Stand : ℕ → List (Doc ℕ) → Type 0
  Stand own docs = (file : ℕ) (doc : Doc ℕ) → Nth own docs file doc → moves file ≡ false → StandAsNamed (out file) doc.units

  abbrev choose : {X : Type 0} → Bool → X → X → X
  choose true x y = x
  choose false x y = y

  old_places : (own : ℕ) (docs : List (Doc ℕ)) → Stand own docs → Old own docs
  old_places own [] stand = record { place = λ file k. 0; are = λ file doc nth still. absurd nth }
  old_places own (d ∷ docs) stand = by (old_places (suc own) docs (λ file doc nth still. stand file doc (inr nth) still)) (moves own) refl where
    by : Old (suc own) docs → (b : Bool) → moves own ≡ b → Old own (d ∷ docs)
    by rest true e = record {
      place = rest.place;
      are = λ file doc nth still. elim nth [
        | inl x ↦ absurd (let z : moves file ≡ true = subst (λ (n : ℕ). moves n ≡ true) x.0 e in cc)
        | inr r ↦ rest.are file doc r still
      ];
    }
    by rest false e =
        let s = stand own d (inl (refl, refl)) e in
        record {
          place = λ file. choose (own == file) s.place (rest.place file);
          are = λ file doc nth still. elim nth [
            | inl x ↦
                (let here : (own == file) ≡ true = eq-eqb own file x.0 in
                subst (λ (b : Bool). UnitsShown (choose b s.place (rest.place file)) (out file) doc.units × OnePlace (choose b s.place (rest.place file)) (out file)) (sym here)
                (subst (λ (w : Doc ℕ). UnitsShown s.place (out file) w.units × OnePlace s.place (out file)) x.1
                (subst (λ (n : ℕ). UnitsShown s.place (out n) d.units × OnePlace s.place (out n)) x.0 (s.shown, s.one))))
            | inr r ↦
                (let ne : own ≡ file → ⊥ = λ q. omega (arith, q, nth_from (suc own) docs file doc r) in
                let later : (own == file) ≡ false = ne_eqb own file ne in
                subst (λ (b : Bool). UnitsShown (choose b s.place (rest.place file)) (out file) doc.units × OnePlace (choose b s.place (rest.place file)) (out file)) (sym later)
                (rest.are file doc r still))
          ];
        }

-- ---- where nothing moves

abbrev none_rule : List (Doc ℕ) → Rule
none_rule docs = record { alike = alike_test Apart (units_of docs); chosen = λ n. false }

none_moves : (docs : List (Doc ℕ)) (n : ℕ) → moves (none_rule docs) (units_of docs) n ≡ false
unfolding home
none_moves docs n = refl

none_choice : (docs : List (Doc ℕ)) → IsChoice (units_of docs) (none_rule docs)
none_choice docs = record { together = λ m n e. refl; targets = λ t is mv m refers. absurd (let z = none_moves docs t.number in cc) }

none_changes : (docs : List (Doc ℕ)) (file : ℕ) → changes (plan (none_rule docs) (units_of docs) (file_numbers 0 docs)) (units_of docs) file ≡ false
unfolding changes
none_changes docs file = go (changes (plan (none_rule docs) (units_of docs) (file_numbers 0 docs)) (units_of docs) file) refl where
  go : (b : Bool) → changes (plan (none_rule docs) (units_of docs) (file_numbers 0 docs)) (units_of docs) file ≡ b → b ≡ false
  go false e = refl
  go true e =
      let o = any_from (λ (t : Top). t.file == file && moves (none_rule docs) (units_of docs) t.number) (tops_of (units_of docs)) e in
      absurd (let z = (and_parts (o.one.file == file) (moves (none_rule docs) (units_of docs) o.one.number) o.passes).1 in let y = none_moves docs o.one.number in cc)

-- ---- the places

module _ (docs : List (Doc ℕ)) (common : Doc ℕ) (fixed : Fixed) (p : ArePlacedOver docs common) (fx : IsFixed (reused_of docs common) fixed) (input : Stored) (c : Finished)
    (can : CanWriteBy (Stands c) (run_by (move_over (reused_of docs common) fixed (file_numbers 0 docs)) docs input)) where
  abbrev r : Run
  r = run_by (move_over (reused_of docs common) fixed (file_numbers 0 docs)) docs input

  apart : NoneTwice (units_keys (all_units r.move r.units r.files))
  apart = over_apart docs common fixed p fx

  all_once : NoneTwice (files_keys (files_out_by (Stands c) r))
  unfolding files_keys
  all_once =
      subst NoneTwice
      (keys_joined (common_units r.move) (file_units r.move r.units r.files)
      ∙ ap (λ (w : List EntryName). w ++ units_keys (file_units r.move r.units r.files)) (sym can.common.names)
      ∙ ap (λ (w : List EntryName). units_keys c.units ++ w) (sym (file_names_by (Stands c) r r.files))) can.apart

  in_common : (k : EntryName) → In k (units_keys c.units) → file_of_name_by (Stands c) r k ≡ r.common
  in_common k there = file_is same_spot spots_same (files_out_by (Stands c) r) all_once (common_out_by (Stands c) r) k (inl refl) there

  in_own : (file : ℕ) → In file r.files → (k : EntryName) → In k (units_keys (fitted_by (Stands c) r file)) → file_of_name_by (Stands c) r k ≡ file
  in_own file there k key = file_is same_spot spots_same (files_out_by (Stands c) r) all_once (file_out_by (Stands c) r file) k (inr (in_map (file_out_by (Stands c) r) file r.files there)) key

  stands_old : (file : ℕ) (doc : Doc ℕ) → Nth 0 docs file doc → changes r.move r.units file ≡ false → StandAsNamed (out_units r.move r.units file) doc.units
  stands_old file doc nth rests =
      let alike = alike_decides Apart (units_of docs) in
      let before = stands_back Apart docs (none_rule docs) p.each alike (none_choice docs) (file_numbers 0 docs) (numbers_rise 0 docs) file doc nth (none_changes docs file) in
      let same = still Apart docs (none_rule docs) alike (none_choice docs) (file_numbers 0 docs) file (none_changes docs file) in
      subst (λ (w : List (DwUnit EntryName)). StandAsNamed w doc.units) (same ∙ sym (still_over docs common fixed p fx file rests)) before

  old : Old (out_units r.move r.units) (changes r.move r.units) 0 docs
  old = old_places (out_units r.move r.units) (changes r.move r.units) 0 docs stands_old

  abbrev writes : ℕ → Bool
  writes file = changes r.move r.units file || (file == r.common)

  pub over_place : EntryName → Place
  over_place s = choose (out_units r.move r.units) (changes r.move r.units) (writes (file_of_name_by (Stands c) r s)) (place_of_by (Stands c) r s) (at_file (file_of_name_by (Stands c) r s) (old.place (file_of_name_by (Stands c) r s) s))

  at_written : (s : EntryName) (file : ℕ) → file_of_name_by (Stands c) r s ≡ file → writes file ≡ true → over_place s ≡ place_of_by (Stands c) r s
  unfolding over_place
  at_written s file e t =
      ap (λ (b : Bool). choose (out_units r.move r.units) (changes r.move r.units) b (place_of_by (Stands c) r s) (at_file (file_of_name_by (Stands c) r s) (old.place (file_of_name_by (Stands c) r s) s))) (ap writes e ∙ t)

  at_still : (s : EntryName) (file : ℕ) → file_of_name_by (Stands c) r s ≡ file → writes file ≡ false → over_place s ≡ at_file file (old.place file s)
  unfolding over_place
  at_still s file e t =
      ap (λ (b : Bool). choose (out_units r.move r.units) (changes r.move r.units) b (place_of_by (Stands c) r s) (at_file (file_of_name_by (Stands c) r s) (old.place (file_of_name_by (Stands c) r s) s))) (ap writes e ∙ t)
      ∙ ap (λ (n : ℕ). at_file n (old.place n s)) e

  pub over_placing : IsPlacingBy (Stands c) r over_place
  over_placing = record {
    common = λ k there.
        (let file = in_common k there in
        ap (λ (n : ℕ). at_file n ((places_of k))) (sym file) ∙ sym (at_written k r.common file (or_right (changes r.move r.units r.common) (r.common == r.common) (eq-eqb r.common r.common refl))));
    written = λ file in_files changed k there.
        (let of = in_own file in_files k there in
        ap (λ (n : ℕ). at_file n (places_of k)) (sym of) ∙ sym (at_written k file of (or_left (changes r.move r.units file) (file == r.common) changed)));
  }
    where
      places_of : EntryName → ℕ
      places_of k = (place_of_by (Stands c) r k).at

  -- a file of which nothing moves isn't written
  not_written : (file : ℕ) → In file r.files → changes r.move r.units file ≡ false → writes file ≡ false
  not_written file there still =
      let less = numbers_in 0 docs file there in
      let other : (file == r.common) ≡ false = ne_eqb file r.common (λ e. omega (arith, less, e)) in
      ap (λ (b : Bool). b || (file == r.common)) still ∙ other

  still_at : (file : ℕ) → In file r.files → changes r.move r.units file ≡ false → (k : EntryName) → In k (units_keys (out_units r.move r.units file)) → over_place k ≡ at_file file (old.place file k)
  still_at file there still k key = at_still k file (in_own file there k (subst (In k) (sym (fitted_names_by (Stands c) r file)) key)) (not_written file there still)

  in_files : (files : List ℕ) (file : ℕ) (u : DwUnit EntryName) → In file files → In u (out_units r.move r.units file) → In u (file_units r.move r.units files)
  unfolding file_units
  in_files [] file u there h = absurd there
  in_files (n ∷ files) file u (inl e) h = in_left u (out_units r.move r.units n) (file_units r.move r.units files) (subst (λ (m : ℕ). In u (out_units r.move r.units m)) (sym e) h)
  in_files (n ∷ files) file u (inr later) h = in_right u (out_units r.move r.units n) (file_units r.move r.units files) (in_files files file u later h)

  mains_over : HaveMains (all_units r.move r.units r.files)
  mains_over = (files_over docs common fixed p fx).mains

  pub over_old : AreAtOld r over_place docs
  over_old = record {
    shown = λ file doc nth still.
        (let there = nth_number 0 docs file doc nth in
        let outs = out_units r.move r.units file in
        let closed : Closed outs = subst (λ (w : List (DwUnit EntryName)). Closed w) (sym (still_over docs common fixed p fx file still)) (closed_at file 0 0 0 docs p.each) in
        let mains : HaveMains outs = λ u h. mains_over u (in_right u (common_units r.move) (file_units r.move r.units r.files) (in_files r.files file u there h)) in
        some_as (λ k. at_file file (old.place file k)) over_place outs (λ k key. sym (still_at file there still k key)) closed mains outs (map (unit_map (at_file file)) doc.units) (λ u h. h)
        (shown_then (old.place file) (at_file file) outs doc.units (map (unit_map (at_file file)) doc.units) (old.are file doc nth still).0 (map_shown (at_file file) doc.units)));
    file = λ file there still k key. ap (λ (q : Place). q.file) (still_at file there still k key);
    one = λ file there still x y a b e.
        (let doc = number_nth 0 docs file there in
        (old.are file doc.0 doc.1 still).1 x y a b (ap (λ (q : Place). q.at) (sym (still_at file there still x a) ∙ e ∙ still_at file there still y b)));
  }
