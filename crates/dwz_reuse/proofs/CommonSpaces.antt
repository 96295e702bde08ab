-- The spaces of the partial units of a finished common file.
use Rattle.std.proofs.Common.{Bor, ◌≡◌, ℕ, ◌+◌, ◌*◌, ◌<◌, ◌≤◌, ◌^◌, All, List, [], ◌∷◌, ◌++◌, length, map, Option, None, refl, sym, ap, subst, ◌∙◌, inl, inr, ⊎_elim, arith}
use Rattle.std.specs.Prelude.{reverse}
use Rattle.std.specs.Option.{option_map}
use Rattle.std.proofs.lemmas.List.{length-append, length-map}
use Rattle.dwz_model.proofs.ListFacts.{got_below, got_in, got_map, got_there, in_cases, in_left, in_right, same_got}
use Rattle.dwz_model.proofs.Members.{nth_below, nth_get}
use Rattle.dwz_def_reading.specs.Documents.{Compile, Doc, DwUnit, Kind, OfType, Partial, unit_map}
use Rattle.dwz_def_reading.specs.Lists.{In}
use Rattle.dwz_def_reading.specs.Units.{entries_in}
use Rattle.dwz_def_taken.specs.Beside.{Reused, as_compile, reused_of}
use Rattle.dwz_def_tops.specs.Lists.{Nth}
use Rattle.dwz_def_tops.specs.Seen.{IsPartial}
use Rattle.dwz_def_tops.specs.Spots.{EntryName, FileUnit, in_file, named_files, spot_in, spots_from, tops_of, units_of}
use Rattle.dwz_check_index.specs.Both.{from_top}
use Rattle.dwz_check_index.specs.Index.{CrossIndex, IsCrossIndex}
use Rattle.dwz_check_labels.specs.FilesSaid.{IsFileSaid, around_given}
use Rattle.dwz_check_sides.specs.Names.{AreApart, IsListNumber, IsNumberFrom, Keeps}
use Rattle.dwz_check_sides.specs.Says.{FileSays, IsSide, common_of}
use Rattle.dwz_check_sides.specs.SideLaws.{KeptNumberLaw, ListNumberLaw}
use Rattle.dwz_check_sides.specs.declared.lists.NameLists.{NameLists}
use Rattle.dwz_check_sides.specs.declared.side.Side.{Side}
use Rattle.dwz_graph.specs.declared.file.File.{File}
use Rattle.dwz_groups.specs.declared.groups.Edge.{Edge}
use Rattle.dwz_groups.specs.Groups.{grouped}
use Rattle.dwz_groups.proofs.MarkLemmas.{each_pair, grouped_edge}
use Rattle.dwz_graph.proofs.IndexRoom.{units_same}
use Rattle.dwz_def_reading.proofs.MeaningUnits.{units_agree}
use Rattle.dwz_graph.proofs.ListGets.{part_get}
use Rattle.dwz_graph.specs.Across.{IsPart}
use Rattle.dwz_match.specs.Partial.{ArePartial}
use Rattle.dwz_takes.specs.Takes.{AreBelow, list_at}
use Rattle.dwz_unit.specs.Rows.{units_of as raw_units}
use Rattle.dwz_reuse.specs.FileSpaces.{AreUnitSpaces}
use Rattle.dwz_reuse.specs.SpaceNames.{ShowNames}
use Rattle.dwz_reuse.specs.Spaces.{HasNamed, IsNoType, IsSpaceEdge, PutsSpaces, space_edge}
use Rattle.dwz_reuse.proofs.NameNumbers.{AllTell, each_named, lists_shown, name}
use Rattle.dwz_reuse.proofs.SpaceFiles.{none_yet, spaces_next}

pub common_side : (f : File) (said : List (DwUnit ℕ)) → IsFileSaid f None said → (index : CrossIndex) → IsCrossIndex (from_top 0) said index → (s : Side) → s.file.now ≡ f → s.common ≡ None → s.index.now ≡ index
    → IsSide s said (from_top 0)
common_side f said is index names s file_is none index_is =
    let common : common_of s ≡ None = ap (λ (o : Option (Bor File)). option_map {T = Bor File} {U = File} (λ w. w.now) o) none in
    let says : FileSays f None said = record { around = around_given f None; sources = refl; all = refl; place = refl; common_is = tt; means = is.means } in
    record {
      says = subst (λ (w : File). FileSays w (common_of s) said) (sym file_is) (subst (λ (o : Option File). FileSays f o said) (sym common) says);
      index_is = subst (λ (w : CrossIndex). IsCrossIndex (from_top 0) said w) (sym index_is) names;
      few = subst (λ (w : File). entries_in (raw_units w.units) ≤ 2 ^ 28) (sym file_is) is.few;
    }

plain_partial : (k : Kind ℕ) → IsPartial k → IsNoType k
plain_partial Compile h = tt
plain_partial (OfType signature main) h = h
plain_partial Partial h = tt

keep_same : (known : NameLists) → Keeps known known
keep_same known = record { names = λ name n e. e; lists = λ key n e. e }

pub spaces_keep : KeptNumberLaw → (before now : NameLists) → Keeps before now → (units : List (FileUnit EntryName)) (high : ℕ) (edges : List Edge) → AreUnitSpaces before units high edges → AreUnitSpaces now units high edges
spaces_keep law before now keeps units high edges h = record {
  from = λ e i. (let s = h.from e i in record { names = s.names; space = s.space; number = law.numbers before now keeps s.names e.value s.number });
  found = λ u f names low nth plain space. (let o = h.found u f names low nth plain space in (o.0, law.numbers before now keeps names o.0 o.1, o.2));
}

module _ (docs : List (Doc ℕ)) (common : Doc ℕ) (partial : ArePartial common.units) where
  abbrev r : Reused
  r = reused_of docs common

  abbrev pub said : List (DwUnit ℕ)
  said = map as_compile common.units

  abbrev g : ℕ → EntryName
  g = spot_in (spots_from (length (units_of docs)) (length (tops_of (units_of docs))) said)

  commons_are : r.commons ≡ map (in_file (length docs)) (map (unit_map g) said) ++ []
  unfolding named_files
  commons_are = refl

  part : IsPart r.commons 0 (map (in_file (length docs)) (map (unit_map g) said))
  unfolding named_files
  part = record { front = []; back = []; all_are = refl; many = refl }

  puts_compile : (known : NameLists) (new : List Edge) → PutsSpaces known 0 common.units [] new → PutsSpaces known 0 said [] new
  puts_compile known new p = record {
    from = λ e i. ⊎_elim (λ (a : In e []). inl a) (λ (s : IsSpaceEdge known 0 common.units e).
        inr (record { n = s.n; unit = as_compile s.unit; got = got_map as_compile common.units s.n s.unit s.got; key = s.key; names = s.names; space = s.space; number = s.number })) (p.from e i);
    kept = p.kept;
    found = λ n u names got plain named. (
        let long = length-map common.units as_compile in
        let low = got_below said n u got in
        let o = got_there common.units n (omega (arith, long, low)) in
        let same : u ≡ as_compile o.0 = same_got said n u (as_compile o.0) got (got_map as_compile common.units n o.0 o.1) in
        let there = partial o.0 (got_in common.units n o.0 o.1) in
        p.found n o.0 names o.1 (plain_partial o.0.kind there) (subst (λ (w : DwUnit ℕ). HasNamed w names) same named));
  }

  commons_long : length r.commons ≡ length common.units
  commons_long =
      ap (λ (w : List (FileUnit EntryName)). length w) commons_are
      ∙ length-append (map (in_file (length docs)) (map (unit_map g) said)) []
      ∙ ap (λ (n : ℕ). n + 0) (length-map (map (unit_map g) said) (in_file (length docs)) ∙ length-map said (unit_map g) ∙ length-map common.units as_compile)
      ∙ (let zero_more : length common.units + 0 ≡ length common.units = omega arith in zero_more)

  pub common_spaces : KeptNumberLaw → (known : NameLists) (new : List Edge) → PutsSpaces known 0 common.units [] new → AreUnitSpaces known r.commons (length r.commons) new
  common_spaces law known new p =
      let long = commons_long in
      let same = length-map common.units as_compile in
      spaces_next law r.commons (length docs) g said 0 part known known (keep_same known) (length r.commons) (omega (arith, long, same)) [] new (none_yet known r.commons 0 [] refl refl) (puts_compile known new p)

  plain_common : (p : ℕ) (f : FileUnit EntryName) → Nth 0 r.commons p f → IsNoType f.unit.kind
  plain_common p f nth =
      let low = nth_below 0 r.commons p f nth in
      let long = commons_long in
      let o = got_there common.units p (omega (arith, low, long)) in
      let at = part_get r.commons (map (in_file (length docs)) (map (unit_map g) said)) 0 p (in_file (length docs) (unit_map g (as_compile o.0))) part
      (got_map (in_file (length docs)) (map (unit_map g) said) p (unit_map g (as_compile o.0)) (got_map (unit_map g) said p (as_compile o.0) (got_map as_compile common.units p o.0 o.1))) in
      let same : f ≡ in_file (length docs) (unit_map g (as_compile o.0)) = same_got r.commons (0 + p) f (in_file (length docs) (unit_map g (as_compile o.0))) (nth_get 0 r.commons p (0 + p) f nth (omega arith)) at in
      subst (λ (w : FileUnit EntryName). IsNoType w.unit.kind) (sym same) tt

  pub names_shown : ListNumberLaw → (known : NameLists) (bound : ℕ) → bound ≤ 2 ^ 32 → AreApart known bound → (edges more : List Edge) → AreUnitSpaces known r.units (length r.units) edges
      → AreUnitSpaces known r.commons (length r.commons) more → (count parts : ℕ) → length r.units ≤ count → length common.units ≤ parts → (units others : List (List ℕ)) → units ≡ grouped count edges
      → others ≡ grouped parts more → ShowNames r units others
  names_shown law known bound low apart edges more a b count parts fits room units others e f =
      let tell : AllTell known (edges ++ more) = λ d i. ⊎_elim
      (λ (x : In d edges). (let s = a.from d x in record { names = s.names; number = s.number }))
      (λ (y : In d more). (let s = b.from d y in record { names = s.names; number = s.number }))
      (in_cases d edges more i) in
      let long = commons_long in
      let all = edges ++ more in
      let fits_parts : length r.commons ≤ parts = omega (arith, long, room) in
      record {
        name = name known law bound low apart all tell;
        unit_names = lists_shown known law bound low apart all tell r.units edges (λ d i. in_left d edges more i) a count fits units e;
        part_names = lists_shown known law bound low apart all tell r.commons more (λ d i. in_right d edges more i) b parts fits_parts others f;
        named = λ p names space. each_named known law bound low apart all tell r.commons more (λ d i. in_right d edges more i) b parts fits_parts p space.0 names space.2 (plain_common p space.0 space.2) space;
      }

-- ---- keys are numbers of units

pub file_keys : (known : NameLists) (units : List (FileUnit EntryName)) (high : ℕ) (edges : List Edge) → AreUnitSpaces known units high edges → (count : ℕ) → length units ≤ count → All (λ e. e.key < count) edges
file_keys known units high edges h count room = each_pair (λ e. e.key < count) edges (λ e i. (
    let s = h.from e i in
    let below = nth_below 0 units e.key s.space.0 s.space.2 in
    omega (arith, below, room)))

pub part_keys : (known : NameLists) (said : List (DwUnit ℕ)) (edges : List Edge) → PutsSpaces known 0 said [] edges → (count : ℕ) → length said ≤ count → All (λ e. e.key < count) edges
part_keys known said edges h count room = each_pair (λ e. e.key < count) edges (λ e i. ⊎_elim
    (λ (a : In e []). absurd a)
    (λ (s : IsSpaceEdge known 0 said e). (
    let below = got_below said s.n s.unit s.got in
    let key = s.key in
    omega (arith, below, key, room)))
    (h.from e i))

pub raw_long : (f : File) (said : List (DwUnit ℕ)) → IsFileSaid f None said → length (raw_units f.units) ≡ length said
raw_long f said h = units_same (around_given f None) (raw_units f.units) said (((units_agree (around_given f None) (raw_units f.units)).ok said).0 h.means)

-- ---- numbers of lists

from_low : (known : NameLists) (bound : ℕ) → 0 < bound → AreApart known bound → (ns : List (List ℕ)) (n : ℕ) → IsNumberFrom known ns n → n < bound
from_low known bound some apart [] n h = omega (arith, some, h)
from_low known bound some apart (last ∷ outer) n h = (apart.lists_low (h.0 * 2 ^ 32 + h.1) n h.4).1

pub lists_low : (known : NameLists) (bound : ℕ) → 0 < bound → AreApart known bound → (edges : List Edge) → ((e : Edge) → In e edges → (names : List (List ℕ)) × IsListNumber known names e.value) → (count : ℕ)
    (lists : List (List ℕ)) → lists ≡ grouped count edges → AreBelow bound lists
lists_low known bound some apart edges tell count lists is u n i =
    let o = tell (space_edge u n) (grouped_edge count u n edges (subst (λ (w : List (List ℕ)). In n (list_at w u)) is i)) in
    from_low known bound some apart (reverse o.0) n o.1

pub file_tells : (known : NameLists) (units : List (FileUnit EntryName)) (high : ℕ) (edges : List Edge) → AreUnitSpaces known units high edges → (e : Edge) → In e edges
    → (names : List (List ℕ)) × IsListNumber known names e.value
file_tells known units high edges h e i = (let s = h.from e i in (s.names, s.number))

pub part_tells : (known : NameLists) (said : List (DwUnit ℕ)) (edges : List Edge) → PutsSpaces known 0 said [] edges → (e : Edge) → In e edges → (names : List (List ℕ)) × IsListNumber known names e.value
part_tells known said edges h e i = ⊎_elim (λ (a : In e []). absurd a) (λ (s : IsSpaceEdge known 0 said e). (s.names, s.number)) (h.from e i)
