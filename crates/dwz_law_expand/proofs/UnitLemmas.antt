-- The units that are written are sound, say what their forms say, and have room for their operands.
use Rattle.std.proofs.Common.{◌≡◌, ℕ, suc, ◌<◌, ◌≤◌, List, [], ◌∷◌, map, refl, sym, ap, subst, ◌∙◌, inl, inr}
use Rattle.dwz_def_reading.specs.Lists.{Each, In, Nth}
use Rattle.dwz_def_reading.proofs.ListFacts.{in_left, in_right}
use Rattle.dwz_def_reading.specs.Documents.{Attr, Compile, DwUnit, Entries, Kind, Node, OfType, Partial, attr_map, entries_map, kind_map}
use Rattle.dwz_def_reading.specs.Meanings.{MeaningContext, scope_of}
use Rattle.dwz_def_reading.specs.Places.{Place}
use Rattle.dwz_def_reading.specs.Trees.{End, Entry}
use Rattle.dwz_def_tops.specs.Shown.{keys}
use Rattle.dwz_def_encoding.specs.Bases.{no_bases}
use Rattle.dwz_def_encoding.specs.Carried.{OfAny}
use Rattle.dwz_def_encoding.specs.Fitting.{EachAttr, HasRoom, UnitHasRoom}
use Rattle.dwz_def_encoding.specs.Meant.{AttrSays, EntriesSay, KindSays, Own, UnitSays, entry_keys, own_of}
use Rattle.dwz_def_encoding.specs.Sound.{SoundAttr, SoundEntries, SoundKind, SoundNode, SoundUnit}
use Rattle.dwz_def_encoding.proofs.CarriedMaps.{kind_carried}
use Rattle.dwz_def_encoding.proofs.ReadAgain.{keys_read, kind_says, kind_sound}
use Rattle.dwz_def_expand.specs.Chosen.{chosen_attr, chosen_entries}
use Rattle.dwz_def_expand.specs.OneFile.{OneFile, ReadsOne, around, said_by_file, same_place}
use Rattle.dwz_def_expand.specs.Output.{forms, new_places}
use Rattle.dwz_def_expand.specs.Refusals.{AllCopied, nodes}
use Rattle.dwz_def_expand.specs.Source.{Copy, copy, copy_for, source_unit, source_units, sources_below}
use Rattle.dwz_def_expand.proofs.FileLemmas.{test}
use Rattle.dwz_law_expand.specs.Told.{IsOfBytes, told}
use Rattle.dwz_law_expand.proofs.CopyLemmas.{in_unit, own_copied}
use Rattle.dwz_law_expand.proofs.FitLemmas.{NoneNarrow, attr_room}
use Rattle.dwz_law_expand.proofs.FoundLemmas.{Said, own_said}
use Rattle.dwz_law_expand.proofs.OriginLemmas.{Origin, SourceAt, all, apart, new, node_origin, places, root_origin, source_at, w}
use Rattle.dwz_law_expand.proofs.SaysLemmas.{attr_good}
use Rattle.dwz_law_expand.proofs.SiteLemmas.{node_key}

module _ (f : OneFile) (reads : ReadsOne f) (bytes : IsOfBytes f) (copied : AllCopied same_place (forms f) (said_by_file f)) (none : NoneNarrow f) (n : ℕ) (su : DwUnit Place)
    (nth : Nth 0 (source_units same_place (said_by_file f)) n su) where
  abbrev own : Own (Copy Place)
  own = own_of (new f reads bytes n su)

  abbrev unit : ℕ
  unit = (new_places f).place (new f reads bytes n su).at

  abbrev g : Place → Copy Place
  g = copy_for same_place (places f reads bytes) n

  -- ---- attributes

  pub record NewAttrs (attrs : List (Attr (Copy Place))) : Type 0 where
    pub sound : Each SoundAttr attrs
    pub says : Each (AttrSays (told f) own) attrs
    pub room : Each (HasRoom (new_places f) unit) attrs

  module _ (d : Node Place) (is_source : In d (su.root ∷ nodes su.below)) (origin : Origin f reads bytes n su d) where
    attrs_from : (s : ℕ) (rest : List (Attr Place)) → ((i : ℕ) (a : Attr Place) → Nth s rest i a → Nth 0 d.attrs i a) → NewAttrs (map (chosen_attr (forms f) (copy n d.at)) (map (attr_map g) rest))
    attrs_from s [] into = record { sound = tt; says = tt; room = tt }
    attrs_from s (a ∷ rest) into =
        let here = into s a (inl (refl, refl)) in
        let good = attr_good f reads bytes copied n su nth d is_source origin s a here in
        let room = attr_room f reads bytes copied none n su nth d is_source origin s a here in
        let more = attrs_from (suc s) rest (λ i b h. into i b (inr h)) in
        record { sound = (good.sound, more.sound); says = (good.says, more.says); room = (room, more.room) }

    own_key : In d.at (entry_keys su)
    own_key = by is_source where
      by : In d (su.root ∷ nodes su.below) → In d.at (entry_keys su)
      by (inl e) = inl (ap (λ (x : Node Place). x.at) e)
      by (inr r) = inr (node_key su.below d r)

    copy_is : g d.at ≡ copy n d.at
    copy_is = own_copied same_place test (w f reads bytes) (apart f reads bytes) (forms f) n su nth d.at own_key

    pub node_attrs : NewAttrs (map (chosen_attr (forms f) (g d.at)) (map (attr_map g) d.attrs))
    node_attrs = subst (λ (k : Copy Place). NewAttrs (map (chosen_attr (forms f) k) (map (attr_map g) d.attrs))) (sym copy_is) (attrs_from 0 d.attrs (λ i a h. h))

    abbrev chosen_here : Node (Copy Place)
    chosen_here = record { at = g d.at; tag = d.tag; attrs = map (chosen_attr (forms f) (g d.at)) (map (attr_map g) d.attrs) }

    pub node_sound : SoundNode chosen_here
    node_sound = record {
      some_tag = subst (λ (t : ℕ). 0 < t) (sym origin.node.means.tag) origin.node.holds.some_tag;
      tag_fits = subst (λ (t : ℕ). t ≤ 0xffff) (sym origin.node.means.tag) origin.node.holds.tag_fits;
      attrs = node_attrs.sound;
    }

  -- ---- entries

  pub record NewEntries (h : Entries (Copy Place)) : Type 0 where
    pub sound : SoundEntries h
    pub says : EntriesSay (told f) own h
    pub room : EachAttr (HasRoom (new_places f) unit) h

  entries_from : (h : Entries Place) → ((d : Node Place) → In d (nodes h) → In d (nodes su.below)) → NewEntries (chosen_entries (forms f) (entries_map g h))
  unfolding nodes chosen_entries entries_map
  entries_from End into = record { sound = tt; says = tt; room = tt }
  entries_from (Entry d children next) into =
      let here = into d (inl refl) in
      let origin = node_origin f reads bytes n su nth d here in
      let attrs = node_attrs d (inr here) origin in
      let below = entries_from children (λ e is. into e (inr (in_left e (nodes children) (nodes next) is))) in
      let behind = entries_from next (λ e is. into e (inr (in_right e (nodes children) (nodes next) is))) in
      record { sound = (node_sound d (inr here) origin, below.sound, behind.sound); says = (attrs.says, below.says, behind.says); room = (attrs.room, below.room, behind.room) }

  -- ---- the kind

  abbrev at : SourceAt f reads bytes n su
  at = source_at f reads bytes n su nth

  said : Said f 0 at.unit
  said = own_said f.common f.file reads bytes.0 at.unit at.own

  abbrev scope : MeaningContext Place
  scope = scope_of (around f 0) said.0

  kind_is : su.kind ≡ at.unit.kind
  kind_is = ap (λ (x : DwUnit Place). x.kind) (sym at.is)

  old_sound : SoundKind at.unit.kind at.unit.root.tag
  old_sound = kind_sound scope said.0.kind at.unit.kind at.unit.root.tag said.1.means.kind (said.1.means.root.tag ∙ said.1.holds.tag) said.1.holds.signature

  new_sound : SoundKind (kind_map g su.kind) su.root.tag
  new_sound =
      kind_carried OfAny no_bases g su.kind su.root.tag
      (subst (λ (k : Kind Place). SoundKind k su.root.tag) (sym kind_is) (subst (λ (x : DwUnit Place). SoundKind at.unit.kind x.root.tag) at.is old_sound))

  old_keys : entry_keys at.unit ≡ map scope.around.place scope.own
  old_keys =
      ap (λ (p : Place). p ∷ keys at.unit.below) said.1.means.root.place ∙ ap (λ (ks : List Place). scope.around.place said.0.root.at ∷ ks) (keys_read scope said.0.below at.unit.below said.1.means.below)

  old_main : KindSays (entry_keys at.unit) at.unit.kind
  old_main = subst (λ (ks : List Place). KindSays ks at.unit.kind) (sym old_keys) (kind_says scope said.0.kind at.unit.kind said.1.means.kind)

  -- a type unit imports nothing
  main_in : (k : Kind Place) → at.unit.kind ≡ k → KindSays (entry_keys at.unit) k → KindSays (entry_keys (new f reads bytes n su)) (kind_map g k)
  main_in Compile e h = tt
  main_in Partial e h = tt
  main_in (OfType signature main) e h =
      let all_units = all f reads bytes in
      let same : entry_keys (source_unit same_place all_units at.unit) ≡ entry_keys at.unit = ap (λ (k : Kind Place). at.unit.root.at ∷ keys (sources_below same_place all_units k at.unit.below)) e in
      let there : In main (entry_keys su) = subst (λ (x : DwUnit Place). In main (entry_keys x)) at.is (subst (λ (ks : List Place). In main ks) (sym same) h) in
      in_unit same_place test (w f reads bytes) (apart f reads bytes) (forms f) n su nth main there

  new_main : KindSays (entry_keys (new f reads bytes n su)) (kind_map g su.kind)
  new_main = subst (λ (k : Kind Place). KindSays (entry_keys (new f reads bytes n su)) (kind_map g k)) (sym kind_is) (main_in at.unit.kind refl old_main)

  -- ---- the unit

  pub record NewUnit : Type 0 where
    pub sound : SoundUnit (new f reads bytes n su)
    pub says : UnitSays (told f) (new f reads bytes n su)
    pub room : UnitHasRoom (new_places f) (new f reads bytes n su)

  pub unit_good : NewUnit
  unit_good =
      let origin = root_origin f reads bytes n su nth in
      let root = node_attrs su.root (inl refl) origin in
      let below = entries_from su.below (λ d is. is) in
      record {
        sound = record { kind = new_sound; root = node_sound su.root (inl refl) origin; below = below.sound };
        says = record { kind = new_main; root = root.says; below = below.says };
        room = (root.room, below.room);
      }
