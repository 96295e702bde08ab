-- Entries whose depths are those of a unit's entries: they show the unit.
use Rattle.std.proofs.Common.{◌≡◌, ℕ, zero, suc, ◌-◌, List, [], ◌∷◌, ◌++◌, map, replicate, refl, sym, ap, ◌∙◌}
use Rattle.std.specs.Prelude.{nat_lt}
use Rattle.std.proofs.lemmas.List.{map-append}
use Rattle.dwz_def_reading.specs.Documents.{DwUnit}
use Rattle.dwz_layout_items.proofs.LineLemmas.{unit_steps_are}
use Rattle.dwz_layout_items.specs.Lines.{Enter, Leave, Line, Step, depth_of as line_depth, steps_of, unit_lines}
use Rattle.dwz_expand_layout.specs.Depths.{DeepLine, ShowLines, depth_of, with_ends}
use Rattle.dwz_expand_layout.specs.Entries.{UnitLines}
use Rattle.dwz_expand_layout.specs.Shown.{Begins, Ends, KindShows, ShowsUnit, ShownStep, line_steps, shown_step}

ends_left : {K : Type 0} (count : ℕ) → map (shown_step {K = K}) (replicate count Leave) ≡ replicate count Ends
ends_left zero = refl
ends_left {K} (suc count) = ap (λ (ss : List (ShownStep K)). Ends ∷ ss) (ends_left count)

module _ {K : Type 0} (key : ℕ → K) where
  same_depth : (number : ℕ) (deep : List DeepLine) (lines : List (Line K)) → ShowLines key number deep lines → depth_of deep ≡ line_depth lines
  same_depth number [] [] show = refl
  same_depth number [] (l ∷ lines) show = absurd show
  same_depth number (d ∷ deep) [] show = absurd show
  same_depth number (d ∷ deep) (l ∷ lines) show = show.0.depth

  pub steps_by_depth : (number : ℕ) (deep : List DeepLine) (lines : List (Line K)) → ShowLines key number deep lines → line_steps key number (with_ends deep) ≡ map shown_step (steps_of lines)
  unfolding with_ends line_steps steps_of
  steps_by_depth number [] [] show = refl
  steps_by_depth number [] (l ∷ lines) show = absurd show
  steps_by_depth number (d ∷ deep) [] show = absurd show
  steps_by_depth number (d ∷ deep) (l ∷ lines) show =
      let s = show.0 in
      let next = same_depth (suc number) deep lines show.1 in
      let rest = steps_by_depth (suc number) deep lines show.1 in
      let leave : List (Step K) = replicate (l.depth - line_depth lines) Leave in
      (λ i. Begins (s.place i) (s.tag i) (nat_lt (s.depth i) (next i)) (s.attrs i) ∷ (replicate (s.depth i - next i) Ends ++ rest i))
      ∙ ap (λ (ss : List (ShownStep K)). shown_step (Enter l.node (nat_lt l.depth (line_depth lines))) ∷ ss)
      (sym (map-append shown_step leave (steps_of lines) ∙ ap (λ (ss : List (ShownStep K)). ss ++ map shown_step (steps_of lines)) (ends_left (l.depth - line_depth lines))))

  -- a unit of these entries shows that one
  pub shown_by_depth : (number : ℕ) (o : UnitLines) (u : DwUnit K) (deep : List DeepLine) → KindShows key o.kind u.kind → o.lines ≡ with_ends deep → ShowLines key number deep (unit_lines u)
      → ShowsUnit key number o u
  shown_by_depth number o u deep kind lines show = record {
    kind = kind;
    steps = ap (line_steps key number) lines ∙ steps_by_depth number deep (unit_lines u) show ∙ ap (map shown_step) (unit_steps_are u);
  }
