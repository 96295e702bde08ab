-- Two neighbouring stretches of units are one.
use Rattle.std.proofs.Common.{◌≡◌, ℕ, ◌+◌, ◌-◌, ◌<◌, ◌≤◌, ◌^◌, drop, take, List, ◌∷◌, ◌++◌, [], length, map, Option, Ok, sym, ap, subst, ◌∙◌, arith}
use Rattle.std.specs.Prelude.{slice_range}
use Rattle.std.specs.Option.{option_map}
use Rattle.std.proofs.lemmas.List.{map-append, take_all}
use Rattle.dwz_def_reading.specs.Lists.{Each}
use Rattle.dwz_def_reading.specs.LineTables.{FileTable}
use Rattle.dwz_def_reading.specs.Units.{RawUnit, entries_in}
use Rattle.dwz_graph_resolve.specs.declared.stretches.Stretch.{Stretch}
use Rattle.dwz_graph_resolve.specs.declared.surroundings.Surroundings.{Surroundings}
use Rattle.dwz_graph_resolve.specs.Named.{collect, found, joined, unit_named, units_named}
use Rattle.dwz_graph_resolve.specs.Parts.{AreParted, GoesOn, HaveLines}
use Rattle.dwz_graph_resolve.specs.Stretches.{IsStretch, IsWhole, JoinsLists}
use Rattle.dwz_graph_resolve.specs.Surroundings.{around_in, common_view, entries_among, place_among}
use Rattle.dwz_graph_resolve.proofs.JoinLemmas.{goes_on_both, lines_both, range_both, shows_both}
use Rattle.dwz_graph_resolve.proofs.NamedLemmas.{collect_append}
use Rattle.dwz_model.proofs.Members.{each_append}
use Rattle.dwz_graph_resolve.proofs.PartSteps.{all_parted}

-- references were put together
pub record JoinsRefs (refs starts more next refs' starts' : List ℕ) : Type 0 where
  pub ends : List ℕ
  pub last : starts ≡ ends ++ length refs ∷ []
  pub all : refs' ≡ refs ++ more
  pub begin : starts' ≡ ends ++ map (λ k. length refs + k) next

pub stretches_both : (s : Surroundings) (raw : List RawUnit) (file : ℕ) (front next both : Stretch) → front.end ≡ next.first → both.first ≡ front.first → both.end ≡ next.end
    → JoinsRefs front.refs.items front.starts.items next.refs.items next.starts.items both.refs.items both.starts.items
    → both.tables.items ≡ front.tables.items ++ next.tables.items
    → both.lines.items ≡ front.lines.items ++ map (option_map (λ k. length front.tables.items + k)) next.lines.items
    → JoinsLists front.lists next.lists both.lists → IsStretch s raw file front → IsStretch s raw file next → IsStretch s raw file both
stretches_both s raw file front next both meet first end refs tables lines lists f g =
    let a = around_in s raw in
    let co = common_view s.common in
    let low : front.first ≤ front.end = f.order in
    let high : front.end ≤ next.end = (let o = g.order in omega (arith, o, meet)) in
    let units : slice_range raw both.first both.end ≡ slice_range raw front.first front.end ++ slice_range raw next.first next.end =
    (λ i. slice_range raw (first i) (end i)) ∙ range_both raw front.first front.end next.end low high
    ∙ ap (λ k. slice_range raw front.first front.end ++ slice_range raw k next.end) meet in
    record {
      order = omega (arith, low, high, first, end);
      within = (let w = g.within in omega (arith, w, end));
      lists = f.lists ++ g.lists;
      named = ap (collect (unit_named a)) units ∙ collect_append (unit_named a) (slice_range raw front.first front.end) (slice_range raw next.first next.end)
          ∙ (λ i. joined (f.named i) (g.named i))
          ∙ ap (λ (w : List ℕ). Ok (found w (f.lists ++ g.lists))) (sym (map-append (place_among co raw) front.refs.items next.refs.items) ∙ ap (map (place_among co raw)) (sym refs.all));
      among = subst (λ (w : List ℕ). Each (λ i. i < entries_among co raw) w) (sym refs.all) (each_append (λ i. i < entries_among co raw) front.refs.items next.refs.items f.among g.among);
      starts = (
          let from : ℕ → ℕ = λ n. entries_in (take n raw) in
          let g' = subst (λ (n : ℕ). GoesOn a raw (from n) (from next.end) next.refs.items next.starts.items) (sym meet) g.starts in
          let p = goes_on_both a raw (from front.first) (from front.end) (from next.end) front.refs.items front.starts.items next.refs.items next.starts.items refs.ends refs.last f.starts g' in
          subst (λ (n : ℕ). GoesOn a raw (from n) (from both.end) both.refs.items both.starts.items) (sym first)
          (subst (λ (n : ℕ). GoesOn a raw (from front.first) (from n) both.refs.items both.starts.items) (sym end)
          (subst (λ (w : List ℕ). GoesOn a raw (from front.first) (from next.end) w both.starts.items) (sym refs.all)
          (subst (λ (w : List ℕ). GoesOn a raw (from front.first) (from next.end) (front.refs.items ++ next.refs.items) w) (sym refs.begin) p))));
      lines = (
          let g' = subst (λ (n : ℕ). HaveLines a (drop n raw) (next.end - n) next.tables.items next.lines.items) (sym meet) g.lines in
          let p = lines_both a raw front.first front.end next.end front.tables.items next.tables.items front.lines.items next.lines.items low high f.lines g' in
          subst (λ (n : ℕ). HaveLines a (drop n raw) (both.end - n) both.tables.items both.lines.items) (sym first)
          (subst (λ (n : ℕ). HaveLines a (drop front.first raw) (n - front.first) both.tables.items both.lines.items) (sym end)
          (subst (λ (w : List FileTable). HaveLines a (drop front.first raw) (next.end - front.first) w both.lines.items) (sym tables)
          (subst (λ (w : List (Option ℕ)). HaveLines a (drop front.first raw) (next.end - front.first) (front.tables.items ++ next.tables.items) w) (sym lines) p))));
      shows = shows_both raw file f.lists g.lists front.lists next.lists both.lists lists f.shows g.shows;
    }

-- ---- all units

whole_range : (raw : List RawUnit) (m n : ℕ) → m ≡ 0 → n ≡ length raw → slice_range raw m n ≡ raw
whole_range raw m n first end = (λ i. slice_range raw (first i) (end i)) ∙ take_all (length raw - 0) raw (omega arith)

module _ (s : Surroundings) (raw : List RawUnit) (file : ℕ) (x : Stretch) (w : IsWhole s raw file x) where
  pub whole_named : units_named (around_in s raw) raw ≡ Ok (found (map (place_among (common_view s.common) raw) x.refs.items) w.stretch.lists)
  whole_named = ap (units_named (around_in s raw)) (sym (whole_range raw x.first x.end w.first w.end)) ∙ w.stretch.named

  pub whole_parted : length x.refs.items < 2 ^ 32 → AreParted (around_in s raw) raw (entries_in raw) x.refs.items x.starts.items
  unfolding entries_in
  whole_parted small =
      let a = around_in s raw in
      let from : ℕ → ℕ = λ n. entries_in (take n raw) in
      let all : take x.end raw ≡ raw = ap (λ n. take n raw) w.end ∙ take_all (length raw) raw (omega arith) in
      all_parted a raw x.refs.items x.starts.items small
      (subst (λ (us : List RawUnit). GoesOn a raw 0 (entries_in us) x.refs.items x.starts.items) all
      (subst (λ (n : ℕ). GoesOn a raw (from n) (from x.end) x.refs.items x.starts.items) w.first w.stretch.starts))

  pub whole_lines : HaveLines (around_in s raw) raw (length raw) x.tables.items x.lines.items
  whole_lines =
      let a = around_in s raw in
      let none : length raw - 0 ≡ length raw = omega arith in
      subst (λ (n : ℕ). HaveLines a raw n x.tables.items x.lines.items) none
      (subst (λ (n : ℕ). HaveLines a (drop 0 raw) (n - 0) x.tables.items x.lines.items) w.end
      (subst (λ (n : ℕ). HaveLines a (drop n raw) (x.end - n) x.tables.items x.lines.items) w.first w.stretch.lines))
