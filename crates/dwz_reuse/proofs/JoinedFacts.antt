-- Labels and targets behind each other show the tops that looks go over.
use Rattle.std.proofs.Common.{◌≡◌, ℕ, ◌+◌, ◌-◌, ◌<◌, Bool, List, [], ◌∷◌, ◌++◌, length, map, get_or, sym, ap, ◌∙◌, arith}
use Rattle.std.proofs.Math.ListN.{get_or-append}
use Rattle.std.proofs.Math.Seq.{get_or-append_right}
use Rattle.std.proofs.lemmas.List.{length-append, length-map}
use Rattle.dwz_model.proofs.ListFacts.{got_below, got_index_or, got_map}
use Rattle.dwz_def_reading.specs.Documents.{Doc}
use Rattle.dwz_def_reading.specs.Lists.{In}
use Rattle.dwz_def_tops.specs.Spots.{EntryName, Top, tops_of, units_of}
use Rattle.dwz_def_tops.proofs.TopNumbers.{number_below, tops_numbers}
use Rattle.dwz_def_cross.specs.Tops.{CrossTop}
use Rattle.dwz_def_check.specs.CrossLabels.{cross_label, cross_targets, cross_top_map}
use Rattle.dwz_def_check.specs.CrossNames.{CrossName, cross_tops}
use Rattle.dwz_def_taken.specs.Beside.{Reused, look_units, own_tops, reused_of}
use Rattle.dwz_def_taken.specs.Laws.{ArePlacedOver, IsReused}
use Rattle.dwz_def_taken.proofs.NamesOver.{named_over}
use Rattle.dwz_def_taken.proofs.PlaceLemmas.{whole}
use Rattle.dwz_label.specs.Labels.{label_of}
use Rattle.dwz_label.specs.Shown.{AreShown, nth_label}
use Rattle.dwz_match.specs.Bare.{ShowBare, bare_label}
use Rattle.dwz_match.specs.Partial.{ArePartial}
use Rattle.dwz_match.proofs.BareTops.{cross_of, units_cross}
use Rattle.dwz_match.proofs.CommonTops.{all_tops, common_tops, spot_of}
use Rattle.dwz_match.proofs.LookCount.{look_many}
use Rattle.dwz_reuse.specs.Joined.{AreCommonLists}

module _ (docs : List (Doc ℕ)) (common : Doc ℕ) (placed : ArePlacedOver docs common) (partial : ArePartial common.units) where
  abbrev r : Reused
  r = reused_of docs common

  re : IsReused r
  re = named_over docs common placed

  common_many : length (common_tops docs common) ≡ length (cross_tops common.units)
  common_many =
      sym (length-map (common_tops docs common) cross_of)
      ∙ ap (λ (w : List (CrossTop EntryName)). length w) (units_cross (spot_of docs common) (length docs) (length r.units) (own_tops r) common.units partial)
      ∙ length-map (cross_tops common.units) (cross_top_map (spot_of docs common))

  pub look_count : length (tops_of (look_units r)) ≡ own_tops r + length (cross_tops common.units)
  look_count =
      look_many r (whole r re) ∙ ap (λ (w : List Top). length w) (all_tops docs common) ∙ length-append (tops_of r.units) (common_tops docs common)
      ∙ ap (λ (n : ℕ). own_tops r + n) common_many

  module _ (name : ℕ → CrossName) (movable : List Bool) (labels targets : List (List ℕ)) (own : AreShown (units_of docs) labels movable targets) (others into : List (List ℕ))
      (lists : AreCommonLists common name others into) (all reach : List (List ℕ)) (len : length all ≡ length labels + length others)
      (own_is : (n : ℕ) (t : Top) → n < length labels → nth_label labels n ≡ label_of t → nth_label all n ≡ 0 ∷ bare_label t)
      (common_is : (k : ℕ) → k < length others → nth_label all (length labels + k) ≡ 0 ∷ nth_label others k) (reach_is : reach ≡ targets ++ into) where
    abbrev label_in : CrossTop ℕ → List ℕ
    label_in t = cross_label (cross_top_map name t)

    abbrev into_of : CrossTop ℕ → List ℕ
    into_of t = cross_targets (cross_top_map name t)

    many_others : length others ≡ length (cross_tops common.units)
    many_others = ap (λ (w : List (List ℕ)). length w) lists.0 ∙ length-map (cross_tops common.units) label_in

    many_into : length into ≡ length (cross_tops common.units)
    many_into = ap (λ (w : List (List ℕ)). length w) lists.1 ∙ length-map (cross_tops common.units) into_of

    low : (t : Top) → In t (tops_of (units_of docs)) → t.number < length labels
    low t i = let l = number_below 0 (tops_of (units_of docs)) t (tops_numbers (units_of docs)) i in let m = own.labels_len in omega (arith, l, m)

    pub shows : ShowBare docs common name all reach
    shows = record {
      labels_len = len ∙ (λ i. own.labels_len i + many_others i) ∙ sym look_count;
      targets_len = ap (λ (w : List (List ℕ)). length w) reach_is ∙ length-append targets into ∙ (λ i. own.targets_len i + many_into i) ∙ sym look_count;
      own_labels = λ t i moves. own_is t.number t (low t i) (own.labels_are t i moves);
      own_targets = λ t i moves.
          ap (λ (w : List (List ℕ)). get_or w t.number []) reach_is
          ∙ get_or-append targets into [] t.number (let l = low t i in let a = own.labels_len in let b = own.targets_len in omega (arith, l, a, b)) ∙ own.targets_are t i moves;
      common_labels = λ k x got.
          ap (λ (n : ℕ). nth_label all (n + k)) (sym own.labels_len)
          ∙ common_is k (let l = got_below (cross_tops common.units) k x got in let m = many_others in omega (arith, l, m))
          ∙ ap (λ (w : List (List ℕ)). 0 ∷ nth_label w k) lists.0 ∙ ap (λ (w : List ℕ). 0 ∷ w) (got_index_or (map label_in (cross_tops common.units)) k (label_in x) [] (got_map label_in (cross_tops common.units) k x got));
      common_targets = λ k x got.
          ap (λ (w : List (List ℕ)). get_or w (own_tops r + k) []) reach_is
          ∙ get_or-append_right targets into (own_tops r + k) [] (let b = own.targets_len in omega (arith, b))
          ∙ (let b = own.targets_len in let e : own_tops r + k - length targets ≡ k = omega (arith, b) in ap (λ (n : ℕ). get_or into n []) e)
          ∙ ap (λ (w : List (List ℕ)). get_or w k []) lists.1 ∙ got_index_or (map into_of (cross_tops common.units)) k (into_of x) [] (got_map into_of (cross_tops common.units) k x got);
    }
