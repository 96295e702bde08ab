-- After, operands name entries of their unit, or of their file: what an operand names stays where it is.
use Rattle.std.proofs.Common.{◌≡◌, ◌⊎◌, ◌&&◌, ◌==◌, ℕ, Bool, true, List, [], ◌∷◌, refl, sym, ap, subst, ◌∙◌, inl, inr, eq-eqb, eqb-true}
use Rattle.std.specs.List.{filter, list_any}
use Rattle.dwz_def_reading.specs.Base.{Base}
use Rattle.dwz_def_reading.specs.Base.TheVariants.{Unit as FromUnit, Info as FromInfo}
use Rattle.dwz_def_reading.specs.Lists.{Each, In}
use Rattle.dwz_def_reading.proofs.ListFacts.{in_cases, in_left, in_right}
use Rattle.dwz_def_reading.specs.Documents.{Attr, DwUnit, Node, attr_map}
use Rattle.dwz_def_reading.specs.Classes.{Class}
use Rattle.dwz_def_tops.specs.Lists.{Nth}
use Rattle.dwz_def_tops.specs.Seen.{Seen, see, seen}
use Rattle.dwz_def_tops.proofs.Members.{any_true, each_append, each_in, each_more, each_of, each_split, in_filter_from, in_map_from, in_nth, nth_in}
use Rattle.dwz_def_tops.specs.Alike.{IsAlike, TopScope, any_attr, any_entry, has_operand, is_in, names_in_unit, operand_names}
use Rattle.dwz_def_tops.specs.Spots.{EntryName, FileUnit}
use Rattle.dwz_def_tops.proofs.Targets.{entry_true, or_first, or_second}
use Rattle.dwz_def_images.specs.Homes.{IsChoice, Local, Rule}
use Rattle.dwz_def_images.specs.Moves.{Move, image_in, plan}
use Rattle.dwz_def_images.specs.Plan.{import_attr}
use Rattle.dwz_def_images.specs.After.{AreOld, IsEntryOf}
use Rattle.dwz_def_images.specs.Held.{IsHeld}
use Rattle.dwz_def_images.specs.Units.{kept_unit, kept_units, out_units, partial_units, units_of_file}
use Rattle.dwz_def_encoding.specs.Bases.{Bases}
use Rattle.dwz_def_encoding.specs.Carried.{AttrOperands, CarriedUnit, From, OperandsStand, OperandsStandAs}
use Rattle.dwz_def_encoding.specs.Meant.{OperandIn, Own, Tells, all_entry_keys, entry_keys, own_of}
use Rattle.dwz_def_encoding.proofs.FormsKnown.{import_class}
use Rattle.dwz_def_readback.specs.Files.{origin_in}
use Rattle.dwz_def_readback.proofs.AttrLemmas.{attrs_in, attrs_mapped, kept_attrs}
use Rattle.dwz_def_readback.proofs.FreeOperands.{UnitAsksNone, asks_operands, home_asks, named_stays}
use Rattle.dwz_def_readback.proofs.HomeLemmas.{kept_from}
use Rattle.dwz_def_readback.proofs.KeptLemmas.{Stays, entry_stays}
use Rattle.dwz_def_readback.proofs.OperandLemmas.{Follows, attr_to}
use Rattle.dwz_def_readback.proofs.OriginLemmas.{bases_mapped}
use Rattle.dwz_def_readback.proofs.ReadOperands.{reading}
use Rattle.dwz_def_readback.proofs.ReadPlaces.{key_seen}
use Rattle.dwz_def_readback.proofs.WithinLemmas.{kept_to}

-- ---- entries of units

unit_seen : (u : DwUnit EntryName) (k : EntryName) → In k (entry_keys u) → (d : Seen EntryName) × ((see u.root u.below ≡ d) ⊎ In d (seen u.below)) × (d.at ≡ k)
unit_seen u k (inl e) = (see u.root u.below, inl refl, e)
unit_seen u k (inr r) = (let o = key_seen u.below k r in (o.0, inr o.1, o.2))

pub unit_with : (units : List (DwUnit EntryName)) (k : EntryName) → In k (all_entry_keys units) → (u : DwUnit EntryName) × In u units × In k (entry_keys u)
unfolding all_entry_keys
unit_with [] k h = absurd h
unit_with (u ∷ units) k h = elim (in_cases k (entry_keys u) (all_entry_keys units) h) [
  | inl a ↦ (u, inl refl, a)
  | inr b ↦ (let o = unit_with units k b in (o.0, inr o.1, o.2))
]

pub all_with : (units : List (DwUnit EntryName)) (u : DwUnit EntryName) (k : EntryName) → In u units → In k (entry_keys u) → In k (all_entry_keys units)
unfolding all_entry_keys
all_with [] u k there h = absurd there
all_with (v ∷ units) u k (inl e) h = in_left k (entry_keys v) (all_entry_keys units) (subst (λ (w : DwUnit EntryName). In k (entry_keys w)) (sym e) h)
all_with (v ∷ units) u k (inr r) h = in_right k (entry_keys v) (all_entry_keys units) (all_with units u k r h)

module _ (scope : TopScope) (units : List (FileUnit EntryName)) (rule : Rule) (is : IsAlike scope units rule.alike) (choice : IsChoice units rule) (files : List ℕ) (old : AreOld units)
    (held : IsHeld units (plan rule units files)) (file : ℕ) where
  abbrev m : Move
  m = plan rule units files

  abbrev f : EntryName → EntryName
  f = image_in m

  -- an old unit of the file
  record UnitAt (v : DwUnit EntryName) : Type 0 where
    number : ℕ
    unit : FileUnit EntryName
    nth : Nth 0 units number unit
    of_file : unit.file ≡ file
    is_unit : unit.unit ≡ v

  unit_at : (v : DwUnit EntryName) → In v (units_of_file file units) → UnitAt v
  unfolding units_of_file
  unit_at v there =
      let o = in_map_from (λ (u : FileUnit EntryName). u.unit) v (filter (λ (u : FileUnit EntryName). u.file == file) units) there in
      let p = in_filter_from (λ (u : FileUnit EntryName). u.file == file) o.source units o.there in
      let n = in_nth 0 units o.source p.0 in
      record { number = n.number; unit = o.source; nth = n.nth; of_file = eqb-true o.source.file file p.1; is_unit = o.is }

  -- what an operand names is in no top that goes
  operand_stays : (i : ℕ) (u : FileUnit EntryName) → Nth 0 units i u → (e : Node EntryName) → IsEntryOf e u.unit → (a : Attr EntryName) → In a e.attrs → (k : EntryName) → In k a.value.refs
      → has_operand a.value.plain ≡ true → Stays m k
  operand_stays i u nth e entry a a_in k there names n path same =
      let one : list_any (is_in n) a.value.refs ≡ true = any_true (is_in n) k a.value.refs there (ap (is_in n) same ∙ eq-eqb n n refl) in
      let attr : operand_names n a ≡ true = ap (λ (b : Bool). b && list_any (is_in n) a.value.refs) names ∙ one in
      let node : any_attr (operand_names n) e ≡ true = any_true (operand_names n) a e.attrs a_in attr in
      let unit : names_in_unit n u ≡ true = elim entry [
        | inl x ↦ or_first (any_attr (operand_names n) u.unit.root) (any_entry (any_attr (operand_names n)) u.unit.below) (ap (any_attr (operand_names n)) x ∙ node)
        | inr h ↦ or_second (any_attr (operand_names n) u.unit.root) (any_entry (any_attr (operand_names n)) u.unit.below) (entry_true (any_attr (operand_names n)) e u.unit.below h node)
      ] in
      named_stays scope units rule is choice n (any_true (names_in_unit n) u units (nth_in 0 units i u nth) unit)

  -- so it is an entry of its unit after
  stays_there : (i : ℕ) (u : FileUnit EntryName) → Nth 0 units i u → (k : EntryName) → In k (entry_keys u.unit) → Stays m k → In (f k) (entry_keys (kept_unit m units i u))
  stays_there i u nth k there stays =
      let o = unit_seen u.unit k there in
      subst (λ (s : EntryName). In (f s) (entry_keys (kept_unit m units i u))) o.2 (entry_stays units m old i u nth o.0 o.1 (subst (Stays m) (sym o.2) stays))

  -- the location lists and the names of places of the file are told, and its entries
  module _ (t : Tells EntryName) (name : ℕ → EntryName) (told : (place n : ℕ) → t.name place n ≡ f (name n)) (into : (k : EntryName) → In k (all_entry_keys (out_units m units file)) → In k t.all) where
    abbrev pub before : Tells EntryName
    before = reading t.lists t.named name (all_entry_keys (units_of_file file units))

    in_file : (i : ℕ) (u : FileUnit EntryName) → Nth 0 units i u → u.file ≡ file → In (kept_unit m units i u) (out_units m units file)
    unfolding out_units
    in_file i u nth e = in_right (kept_unit m units i u) (partial_units m (Local file) 0 m.parts) (kept_units m units file 0 units) (kept_to m units file 0 units i u nth e)

    operand_there : (i : ℕ) (u : FileUnit EntryName) → Nth 0 units i u → (base : Base) (k : EntryName) → Stays m k → OperandIn before (own_of u.unit) base k
        → OperandIn t (own_of (kept_unit m units i u)) base (f k)
    operand_there i u nth FromUnit k stays there = stays_there i u nth k there stays
    operand_there i u nth FromInfo k stays there =
        let o = unit_with (units_of_file file units) k there in
        let a = unit_at o.0 o.1 in
        let own = subst (λ (v : DwUnit EntryName). In k (entry_keys v)) (sym a.is_unit) o.2 in
        into (f k) (all_with (out_units m units file) (kept_unit m units a.number a.unit) (f k) (in_file a.number a.unit a.nth a.of_file) (stays_there a.number a.unit a.nth k own stays))

    module _ (i : ℕ) (u : FileUnit EntryName) (nth : Nth 0 units i u) (read : OperandsStand before u.unit) where
      abbrev own : Own EntryName
      own = own_of (kept_unit m units i u)

      follows : Follows f before (own_of u.unit) t own
      follows = record {
        lists = refl;
        named = refl;
        name = told;
        at = (old.units_named i u nth).unit ∙ ap f (sym (old.units_named i u nth).unit);
        base = ap (λ (b : Bases). b.lists) (bases_mapped f u.unit);
      }

      attr_there : (e : Node EntryName) → IsEntryOf e u.unit → (a : Attr EntryName) → In a e.attrs → AttrOperands before (own_of u.unit) a → AttrOperands t own (attr_map f a)
      attr_there e entry a a_in h = attr_to f before (own_of u.unit) t own follows a (λ base k k_in names. operand_there i u nth base k (operand_stays i u nth e entry a a_in k k_in names)) h

      kept_operands : OperandsStand t (kept_unit m units i u)
      kept_operands = (
        attrs_mapped (AttrOperands t own) f u.unit.root.attrs (λ a a_in. attr_there u.unit.root (inl refl) a a_in (each_in (AttrOperands before (own_of u.unit)) a u.unit.root.attrs read.0 a_in)),
        kept_attrs (AttrOperands t own) units m i u nth
            (λ d there a a_in. attr_there d (inr there) a a_in (each_in (AttrOperands before (own_of u.unit)) a d.attrs (attrs_in (AttrOperands before (own_of u.unit)) u.unit.below read.1 d there)
            a_in))
            (λ n. subst (λ (c : Class). OperandsStandAs c t own (import_attr n)) (sym import_class) tt),
      )

    -- the operands of a file name its entries
    pub out_operands : (from : From) → Each (λ v. CarriedUnit from (origin_in m units v.at) v) (out_units m units file)
        → ((i : ℕ) (u : FileUnit EntryName) → Nth 0 units i u → u.file ≡ file → OperandsStand before u.unit) → Each (OperandsStand t) (out_units m units file)
    unfolding out_units
    out_operands from carried read =
        let new = partial_units m (Local file) 0 m.parts in
        let olds = kept_units m units file 0 units in
        let each = each_split (λ v. CarriedUnit from (origin_in m units v.at) v) new olds carried in
        each_append (OperandsStand t) new olds (each_more UnitAsksNone (OperandsStand t) new (asks_operands t) (home_asks scope units rule is choice files held (Local file) from each.0))
        (each_of (OperandsStand t) olds (λ v there. (let o = kept_from m units file 0 units v there in subst (OperandsStand t) o.is
        (kept_operands o.number o.unit o.nth (read o.number o.unit o.nth o.file_is)))))
