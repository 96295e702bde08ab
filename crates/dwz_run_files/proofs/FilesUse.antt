-- The uses that are counted in the order of a file are those of its units after, since the order shows these while no text is taken out.
use Rattle.std.proofs.Common.{◌≡◌, ℕ, zero, suc, ◌+◌, All, IsSome, List, [], ◌∷◌, length, Some, None, slice_get, take, sym, ap, subst}
use Rattle.std.proofs.Common.{◌∙◌, arith}
use Rattle.dwz_def_reading.specs.Lists.{In}
use Rattle.dwz_def_reading.specs.Texts.{text_at}
use Rattle.dwz_def_reading.proofs.ListFacts.{got_in, got_map}
use Rattle.dwz_def_tops.specs.Shown.{units_keys}
use Rattle.dwz_def_tops.proofs.Members.{in_filter_from}
use Rattle.dwz_def_tops.specs.Spots.{EntryName, file_numbers}
use Rattle.dwz_def_images.specs.Units.{changes, common_units, out_units}
use Rattle.dwz_def_encoding.specs.Placing.{with_keys}
use Rattle.dwz_def_encoding.specs.Pruned.{units_uses}
use Rattle.dwz_def_readback.specs.Files.{formed_by, sources, tells_by}
use Rattle.dwz_layout.specs.declared.known.EntryTable.{EntryTable}
use Rattle.dwz_layout.specs.declared.order.UnitItems.{UnitItems}
use Rattle.dwz_encode.specs.Shown.{Keys, ShowUnits, unit_count}
use Rattle.dwz_law_layout.specs.Fitted.{KnowFiles, KnowUnits, Unfitted}
use Rattle.dwz_law_layout.proofs.FileFits.{files_fit}
use Rattle.dwz_layout_order.specs.declared.orders.Settled.{Settled}
use Rattle.dwz_law_layout.specs.Beside.{Alone, Beside, Over}
use Rattle.dwz_law_layout.specs.Facts.{RunFacts, common, docs, files_written, move, run, units}
use Rattle.dwz_law_layout.specs.Laid.{AreFew}
use Rattle.dwz_law_layout.specs.Listed.{TextsAt}
use Rattle.dwz_law_layout.specs.Named.{keys}
use Rattle.dwz_law_layout.specs.Unfitted.{before_files, before_forms, file_keyed_forms, unfitted_file}
use Rattle.dwz_law_layout.proofs.FilesKnown.{all_files_known, run_known}
use Rattle.dwz_law_layout.specs.Either.{first_unit_by}
use Rattle.dwz_law_layout.proofs.Either.{units_beside}
use Rattle.dwz_encode_texts.specs.Used.{order_uses}
use Rattle.dwz_encode_texts.proofs.NamedUses.{named_uses}
use Rattle.dwz_encode_texts.proofs.ShownUses.{shown_uses}
use Rattle.dwz_run_files.specs.Prepared.{ArePrepared, IsOrdered}
use Rattle.dwz_run_files.specs.Whole.{StandWhole, TextsKnownBy}
use Rattle.dwz_run_files.specs.MovedLaws.{UsesLaw}

-- what is known of the units of a file, the first of which has that number
abbrev Know : Keys EntryName → EntryTable → ℕ → List UnitItems → Unfitted → Type 0
Know names k here order x = KnowUnits names k (with_keys x.forms (units_keys x.units)) x.texts here order x.units

-- so of the file with a number among those that are written
know_at : (names : Keys EntryName) (k : EntryTable) (here : ℕ) (orders : List (List UnitItems)) (files : List Unfitted)
    → KnowFiles names k here orders files
    → (i : ℕ) (order : List UnitItems) (x : Unfitted) → slice_get orders i ≡ Some order → slice_get files i ≡ Some x
    → Know names k (here + unit_count (take i orders)) order x
unfolding unit_count
know_at names k here [] files known i order x e g = absurd cc
know_at names k here (a ∷ orders) [] known i order x e g = absurd known
know_at names k here (a ∷ orders) (y ∷ files) known zero order x e g =
    let none : here ≡ here + 0 = omega arith in
    let order_is : a ≡ order = cc in
    let file_is : y ≡ x = cc in
    subst (λ (n : ℕ). Know names k n order x) none
    (subst (λ (w : List UnitItems). Know names k here w x) order_is (subst (Know names k here a) file_is known.0))
know_at names k here (a ∷ orders) (y ∷ files) known (suc i) order x e g =
    let far : here + length a + unit_count (take i orders) ≡ here + (length a + unit_count (take i orders)) = omega arith in
    subst (λ (n : ℕ). Know names k n order x) far (know_at names k (here + length a) orders files known.1 i order x e g)

-- the units of a file that is written are known, the first of which has its number
pub units_known : (beside : Beside) (f : RunFacts beside) (s : Settled) (t : TextsAt) (k : EntryTable) (orders : List (List UnitItems))
    → ArePrepared f s t k orders → StandWhole f k orders → (n rank first : ℕ) (order : List UnitItems) → IsOrdered f orders n rank first order
    → KnowUnits (keys f) k (file_keyed_forms f n) None first order (out_units (move f) (units f) n)
unfolding unit_count
units_known Alone f s t k orders p stand n rank first order is =
    let known = run_known f t k s p.facts p.listed p.settled orders p.ordered (λ n. None) stand.known in
    let x = unfitted_file f (λ n. None) n in
    let there : slice_get (before_forms f (λ n. None)) (suc rank) ≡ Some x =
    got_map (unfitted_file f (λ n. None)) (files_written f) rank n is.file in
    let own = know_at (keys f) k 0 orders (before_forms f (λ n. None)) known (suc rank) order x is.order_is there in
    subst (λ (n : ℕ). Know (keys f) k n order x) (sym is.first_is) own
units_known (Over c) f s t k orders p stand n rank first order is =
    let o = p.ordered in
    let texts : TextsKnownBy (Over c) f k (λ n. None) ([] ∷ o.others) =
    subst (λ (w : List (List UnitItems)). TextsKnownBy (Over c) f k (λ n. None) w) o.orders_are stand.known in
    let known = all_files_known _ f t k s p.facts p.listed p.settled o.files o.kept o.others o.files_put (λ n. None) texts.1 in
    let x = unfitted_file f (λ n. None) n in
    let there : slice_get (before_files f (λ n. None)) rank ≡ Some x =
    got_map (unfitted_file f (λ n. None)) (files_written f) rank n is.file in
    let order_there : slice_get o.others rank ≡ Some order =
    ap (λ (w : List (List UnitItems)). slice_get w (suc rank)) (sym o.orders_are) ∙ is.order_is in
    let own = know_at (keys f) k (length (common_units (move f))) o.others (before_files f (λ n. None)) known rank order x order_there there in
    let behind : first ≡ first_unit_by (Over c) + (0 + unit_count (take rank o.others)) =
    is.first_is ∙ ap (λ (w : List (List UnitItems)). first_unit_by (Over c) + unit_count (take (suc rank) w)) o.orders_are in
    let counted = units_beside c f p.beside_are in
    let begins : length (common_units (move f)) + unit_count (take rank o.others) ≡ first = omega (arith, behind, counted) in
    subst (λ (n : ℕ). Know (keys f) k n order x) begins own

module _ {beside : Beside} (f : RunFacts beside) (s : Settled) (t : TextsAt) (k : EntryTable) (orders : List (List UnitItems))
    (p : ArePrepared f s t k orders) (stand : StandWhole f k orders) where
  units_shown : (n rank first : ℕ) (order : List UnitItems) → IsOrdered f orders n rank first order
      → ShowUnits (keys f) k first order (formed_by (common f) (run f) n)
  unfolding formed_by
  units_shown n rank first order is =
      (files_fit (keys f) k first (order ∷ []) (unfitted_file f (λ n. None) n ∷ [])
      (units_known _ f s t k orders p stand n rank first order is, tt)).0

  pub uses_are : (n rank first : ℕ) (order : List UnitItems) → IsOrdered f orders n rank first order
      → order_uses k first order ≡ units_uses (formed_by (common f) (run f) n)
  uses_are n rank first order is =
      shown_uses (keys f) k first order (formed_by (common f) (run f) n) (units_shown n rank first order is)

  uses_named : AreFew f → (n rank first : ℕ) (order : List UnitItems) → IsOrdered f orders n rank first order
      → All (λ used. IsSome (text_at (sources (run f) n).strs used)) (order_uses k first order)
  uses_named few n rank first order is =
      let there : In n (file_numbers 0 (docs f)) =
      (in_filter_from (changes (move f) (units f)) n (file_numbers 0 (docs f)) (got_in (files_written f) rank n is.file)).0 in
      let say = p.facts.whole.say p.read few n there in
      subst (λ (w : List ℕ). All (λ used. IsSome (text_at (sources (run f) n).strs used)) w) (sym (uses_are n rank first order is))
      (named_uses (tells_by (common f) (run f) n) (formed_by (common f) (run f) n) say)

pub order_uses_are : UsesLaw
order_uses_are = λ beside f s t k orders p stand few n rank first order is.
    (uses_are f s t k orders p stand n rank first order is, uses_named f s t k orders p stand few n rank first order is)
