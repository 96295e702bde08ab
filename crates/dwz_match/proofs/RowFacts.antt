-- Rows with the tops of units and of partial units, and with classes, show files and a common file.
use Rattle.std.proofs.Common.{◌≡◌, ◌↔◌, ℕ, Bool, true, false, List, length, map, get_or, sym, ap, subst, ◌∙◌, arith}
use Rattle.std.proofs.lemmas.List.{length-map}
use Rattle.dwz_def_reading.specs.Documents.{Doc}
use Rattle.dwz_def_reading.specs.Lists.{In}
use Rattle.dwz_model.proofs.ListFacts.{got_index_or, got_map}
use Rattle.dwz_def_tops.specs.Alike.{Movable}
use Rattle.dwz_def_tops.specs.Deciding.{is_movable}
use Rattle.dwz_def_tops.specs.Spots.{Top, tops_of, units_of}
use Rattle.dwz_def_tops.proofs.AlikeBound.{movable_decides}
use Rattle.dwz_def_tops.proofs.TopNumbers.{number_below, top_at, top_there, tops_numbers}
use Rattle.dwz_def_taken.specs.Beside.{CommonAlike, Reused, reused_of, together}
use Rattle.dwz_def_taken.specs.Laws.{ArePlacedOver, IsReused}
use Rattle.dwz_def_taken.proofs.LookTops.{own_unit}
use Rattle.dwz_def_taken.proofs.MovableAcross.{across_law}
use Rattle.dwz_def_taken.proofs.NamesOver.{named_over}
use Rattle.dwz_def_taken.proofs.PlaceLemmas.{whole}
use Rattle.dwz_law_taken.specs.Shown.{ShowReused}
use Rattle.dwz_takes.specs.declared.rows.Rows.{Rows}
use Rattle.dwz_takes.specs.Images.{AreApart}
use Rattle.dwz_takes.specs.Takes.{list_at}
use Rattle.dwz_match.specs.RowLaws.{HaveTops, MatchLaw, RowsLaw, ShowSpaces}
use Rattle.dwz_match.proofs.ClassFacts.{class_law}
use Rattle.dwz_match.proofs.LookCount.{look_many}

module _ (docs : List (Doc ℕ)) (common : Doc ℕ) (movable : List Bool) (rows : Rows) (placed : ArePlacedOver docs common) (h : HaveTops docs common movable rows) where
  abbrev r : Reused
  r = reused_of docs common

  re : IsReused r
  re = named_over docs common placed

  abbrev tops : List Top
  tops = tops_of (units_of docs)

  abbrev of_units : List ℕ
  of_units = map (λ t. t.unit) tops

  unit_at : (t : Top) → In t tops → get_or of_units t.number 0 ≡ t.unit
  unit_at t i = got_index_or of_units t.number t.unit 0 (got_map (λ (w : Top). w.unit) tops t.number t (top_there (units_of docs) t i))

  record IsListed (u t : ℕ) : Type 0 where
    top : Top
    there : In top tops
    unit : top.unit ≡ u
    number : top.number ≡ t
    moves : Movable (units_of docs) top.number

  listed : (u t : ℕ) → In t (list_at rows.unit_tops u) → IsListed u t
  listed u t i =
      let m = (h.unit_tops u t).0 i in
      let low = m.there in
      let many = length-map tops (λ w. w.unit) in
      let o = top_at 0 tops t (tops_numbers (units_of docs)) (omega arith) (omega (arith, low, many)) in
      let flag : is_movable (units_of docs) o.0 ≡ true = sym (h.flags.each o.0 o.1) ∙ ap (λ (k : ℕ). get_or movable k false) o.2 ∙ m.moves in
      record {
        top = o.0;
        there = o.1;
        unit = sym (unit_at o.0 o.1) ∙ ap (λ (k : ℕ). get_or of_units k 0) o.2 ∙ m.unit;
        number = o.2;
        moves = (movable_decides (units_of docs) o.0 o.1).0 flag;
      }

  moving : (t : Top) → In t tops → Movable (units_of docs) t.number → In t.number (list_at rows.unit_tops t.unit)
  moving t i m =
      let low = number_below 0 tops t (tops_numbers (units_of docs)) i in
      let many = length-map tops (λ w. w.unit) in
      (h.unit_tops t.unit t.number).1 (record {
        there = omega (arith, low, many);
        unit = unit_at t i;
        moves = h.flags.each t i ∙ (movable_decides (units_of docs) t i).1 m;
      })

  abbrev SameClass : ℕ → ℕ → Type 0
  SameClass m n = (get_or rows.classes m 0 ≡ get_or rows.classes n 0) ↔ CommonAlike r m n

  same_class : (u t p c : ℕ) → In t (list_at rows.unit_tops u) → In c (list_at rows.part_tops p) → SameClass t c
  same_class u t p c i j =
      let x = listed u t i in
      let y = (h.part_tops.each p c).0 j in
      let law : SameClass x.top.number y.0.number = class_law docs common rows.classes placed h.classes x.top y.0 p x.there x.moves y.1 in
      subst (λ (m : ℕ). SameClass m c) x.number (subst (λ (n : ℕ). SameClass x.top.number n) y.2 law)

  pub rows_shown : (name : ℕ → List (List ℕ)) → ShowSpaces r name rows → ShowReused r name rows
  rows_shown name s = record {
    parts = h.part_tops.len;
    unit_tops = λ u t i. (let x = listed u t i in (x.top, (x.there, x.unit, x.number)));
    alike_tops = λ top there c alike. moving top there ((across_law docs common placed top there).0 alike.alike.first);
    units = λ top there. own_unit r (whole r re) top there;
    part_tops = h.part_tops.each;
    classes = same_class;
    unit_names = s.unit_names;
    part_names = s.part_names;
    named = s.named;
    part_targets = s.part_targets;
  }

  pub rows_apart : AreApart rows
  rows_apart u v t i j = sym ((h.unit_tops u t).0 i).unit ∙ ((h.unit_tops v t).0 j).unit

  pub classes_many : length rows.classes ≡ length (tops_of (together r))
  classes_many = h.classes.len ∙ look_many r (whole r re)

pub rows_law : RowsLaw
rows_law docs common movable name rows placed h s = (rows_shown docs common movable rows placed h name s, rows_apart docs common movable rows placed h)

pub match_law : MatchLaw
match_law docs common movable name rows kin targets placed h s units kin_is refers = record {
  shown = rows_shown docs common movable rows placed h name s;
  units = units;
  tops = classes_many docs common movable rows placed h;
  same = kin_is;
  refers = refers;
}
