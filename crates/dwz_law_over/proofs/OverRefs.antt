-- Over a finished common file that was read, each reference in a file after, and in the common file, names an entry of the two.
use Rattle.std.proofs.Common.{◌≡◌, ℕ, List, [], ◌∷◌, ◌++◌, length, map, refl, sym, subst, ◌∙◌, inl, inr}
use Rattle.dwz_def_reading.specs.Documents.{Doc, DwUnit, unit_map}
use Rattle.dwz_def_reading.specs.Lists.{Each, In}
use Rattle.dwz_def_reading.specs.Files.{no_files_before}
use Rattle.dwz_def_reading.specs.Values.{AreBytes}
use Rattle.dwz_def_reading.proofs.ListFacts.{in_cases, in_left, in_right}
use Rattle.dwz_def_tops.specs.Seen.{Closed, Seen, all_seen, see, seen_below, seen_roots}
use Rattle.dwz_def_tops.specs.Shown.{keys}
use Rattle.dwz_def_tops.specs.Spots.{EntryName, spot_in, units_of}
use Rattle.dwz_def_tops.proofs.SeenLemmas.{entry_seen, root_from, root_seen, seen_from}
use Rattle.dwz_def_tops.proofs.ShownLemmas.{closed_shown, map_shown}
use Rattle.dwz_def_images.specs.Moves.{Move}
use Rattle.dwz_def_images.specs.Units.{common_units, out_units}
use Rattle.dwz_def_encoding.specs.Meant.{all_entry_keys}
use Rattle.dwz_def_readback.proofs.WithinLemmas.{closed_at}
use Rattle.dwz_def_taken.specs.Beside.{offsets_doc}
use Rattle.dwz_def_taken.specs.Laws.{ArePlacedOver}
use Rattle.dwz_def_taken.specs.Over.{as_part}
use Rattle.dwz_def_taken.proofs.NamesOver.{common_spots}
use Rattle.dwz_def_over.specs.Over.{AreOverFiles, OverFiles, run_over}
use Rattle.dwz_def_over.proofs.CommonOver.{common_is, standing_is}
use Rattle.dwz_def_over.proofs.PlacedOver.{common_closed, placed_over}
use Rattle.dwz_def_over.proofs.WithinOver.{refs_within_over}
use Rattle.dwz_law_over.proofs.CopyTops.{key_seen}
use Rattle.dwz_law_over.proofs.OwnOver.{either_seen}

-- ---- what is seen of some units

seen_among : {K : Type 0} (us vs : List (DwUnit K)) → ((u : DwUnit K) → In u us → In u vs) → (d : Seen K) → In d (all_seen us) → In d (all_seen vs)
seen_among {K} us vs more d is = elim (in_cases d (seen_roots us) (seen_below us) is) [
  | inl a ↦ (let o = root_from us d a in subst (λ (w : Seen K). In w (all_seen vs)) o.is (root_seen vs o.unit (more o.unit o.there)))
  | inr b ↦ (let o = seen_from us d b in entry_seen vs o.unit d (more o.unit o.there) o.is)
]

key_known : {K : Type 0} (units : List (DwUnit K)) (k : K) → In k (all_entry_keys units) → (d : Seen K) × In d (all_seen units) × (d.at ≡ k)
unfolding all_entry_keys
key_known [] k h = absurd h
key_known (u ∷ units) k h = elim (in_cases k (u.root.at ∷ keys u.below) (all_entry_keys units) h) [
  | inl a ↦ elim a [
    | inl r ↦ (see u.root u.below, root_seen (u ∷ units) u (inl refl), r)
    | inr b ↦ (let o = key_seen u.below k b in (o.0, entry_seen (u ∷ units) u o.0 (inl refl) o.1, o.2))
  ]
  | inr b ↦ (let o = key_known units k b in (o.0, seen_among units (u ∷ units) (λ x is. inr is) o.0 o.1, o.2))
]

module _ (o : OverFiles) (are : Each AreBytes o.contents) (is : AreOverFiles o) (file : ℕ) where
  abbrev docs : List (Doc ℕ)
  docs = o.said.docs

  abbrev commons : Doc ℕ
  commons = offsets_doc o.said.common

  abbrev m : Move
  m = (run_over o).move

  p : ArePlacedOver docs commons
  p = placed_over o are is

  shared_closed : Closed (common_units m)
  shared_closed =
      let offs = (offsets_doc o.said.common).units in
      let names : ℕ → EntryName = λ n. as_part (length (units_of docs)) (spot_in (common_spots docs commons) n) in
      subst Closed (sym (common_is o are is ∙ standing_is o are is))
      (closed_shown names offs (map (unit_map names) offs) (map_shown names offs) (common_closed (length o.contents) no_files_before o.common o.raw o.said.common is.common))

  pub over_refs : Closed (out_units (run_over o).move (units_of o.said.docs) file ++ common_units (run_over o).move)
  over_refs = λ e a q there attr ref.
      let outs = out_units m (units_of docs) file in
      let shared = common_units m in
      elim (either_seen outs shared e there) [
        | inl x ↦
            let key = refs_within_over docs commons o.fixed p is.taken.lists file (closed_at file 0 0 0 docs p.each) e a q x attr ref in
            let d = key_known (shared ++ outs) q key in (
              d.0,
              seen_among (shared ++ outs) (outs ++ shared)
                  (λ u i. elim (in_cases u shared outs i) [ inl y ↦ in_right u outs shared y | inr z ↦ in_left u outs shared z ]) d.0 d.1,
              d.2,
            )
        | inr y ↦
            let d = shared_closed e a q y attr ref in
            (d.0, seen_among shared (outs ++ shared) (λ u i. in_right u outs shared i) d.0 d.1, d.2)
      ]
