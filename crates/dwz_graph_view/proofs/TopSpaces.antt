-- The names of the spaces around the top with a number, among the tops of all files.
use Rattle.std.proofs.Common.{◌≡◌, ℕ, ◌+◌, ◌-◌, ◌<◌, ◌^◌, List, [], ◌∷◌, ◌++◌, length, map, reverse, Some, None, slice_get, refl, sym, ap, subst, ◌∙◌, inl, inr, arith}
use Rattle.std.specs.Option.{option_map}
use Rattle.std.proofs.lemmas.Bool.{cases_lt}
use Rattle.std.proofs.lemmas.List.{map-append, reverse-append, reverse-reverse}
use Rattle.std.proofs.lemmas.Option.{slice_get_past}
use Rattle.dwz_def_reading.proofs.ListFacts.{got_below, same_got}
use Rattle.dwz_def_tops.specs.Spots.{SpaceName, Top, name_list, tops_of, units_of}
use Rattle.dwz_graph.specs.declared.file.File.{File}
use Rattle.dwz_graph.specs.declared.index.SpaceEntry.{SpaceEntry}
use Rattle.dwz_graph.specs.declared.index.TopEntry.{TopEntry}
use Rattle.dwz_graph.specs.Chains.{LeadsOut}
use Rattle.dwz_graph.specs.Files.{AreKept, IsRead, docs_of}
use Rattle.dwz_graph.specs.Index.{Index}
use Rattle.dwz_graph.specs.Indexed.{AreIndexes}
use Rattle.dwz_graph.proofs.ChainLemmas.{leads_out}
use Rattle.dwz_def_reading.specs.Files.{Limits, around_of}
use Rattle.dwz_graph.specs.Across.{name_at}
use Rattle.dwz_graph.specs.AcrossLaws.{GivesTop, IsAmong}
use Rattle.dwz_graph.proofs.FileCounts.{are_many, found}
use Rattle.dwz_graph.proofs.FileEntries.{gives_top}
use Rattle.dwz_graph.proofs.FileWalk.{is_among}
use Rattle.dwz_unit.specs.Rows.{units_of as raw_units}
use Rattle.dwz_graph_view.specs.declared.spaces.TopSpot.{TopSpot}
use Rattle.dwz_graph_view.specs.SpaceRows.{HasTopAt, IsWayOut, own_top}
use Rattle.dwz_graph_view.proofs.FileDocs.{files_small}
use Rattle.dwz_graph_view.proofs.SpaceSteps.{IsThere, item_there, there_is}

map-reverse : {X Y : Type 0} (f : X → Y) (xs : List X) → map f (reverse xs) ≡ reverse (map f xs)
map-reverse f [] = refl
map-reverse {X} {Y} f (x ∷ xs) =
    ap (map f) (reverse-append (x ∷ []) xs) ∙ map-append f (reverse xs) (x ∷ []) ∙ ap (λ (w : List Y). w ++ f x ∷ []) (map-reverse f xs) ∙ sym (reverse-append (f x ∷ []) (map f xs))

abbrev text_of : SpaceName → List ℕ
text_of name = name.text

-- names from the innermost one outward, the other way round
turned : {X : Type 0} (view : X → List ℕ) (out new : List X) (spaces : List SpaceName) → map view out ≡ map (λ name. name.text) (reverse spaces) → new ≡ reverse out
    → map view new ≡ map (λ name. name.text) spaces
turned view out new spaces are is =
    ap (map view) is ∙ map-reverse view out ∙ ap reverse (are ∙ map-reverse text_of spaces) ∙ reverse-reverse (map text_of spaces)

module _ (contents : List (List ℕ)) (files : List File) (indexes : List Index) (kept : AreKept contents files) (indexed : AreIndexes (docs_of contents) indexes) (number : ℕ) where
  abbrev tops : List Top
  tops = tops_of (units_of (docs_of contents))

  none_there : ((file : ℕ) (x : Index) → slice_get indexes file ≡ Some x → own_top x number ≡ None) → slice_get tops number ≡ None
  none_there none = elim (cases_lt number (length tops)) [
    | inl lt ↦ (
        let h = found contents files indexes number kept indexed lt in
        let own : own_top h.x number ≡ Some h.e = item_there h.x.starts.top h.x.tops number h.k h.number ∙ h.top_is in
        let both : None ≡ Some h.e = sym (none h.file h.x h.index_is) ∙ own in
        absurd cc)
    | inr le ↦ slice_get_past tops number le
  ]

  pub no_top : ((file : ℕ) (x : Index) → slice_get indexes file ≡ Some x → own_top x number ≡ None) → None ≡ option_map name_list (slice_get tops number)
  no_top none = sym (ap (option_map name_list) (none_there none))

  module _ (spot : TopSpot) (at : HasTopAt indexes number spot) where
    pub index_within : spot.file < length indexes
    index_within = got_below indexes spot.file at.x at.there

    pub file_within : spot.file < length files
    file_within = (let low = index_within in let many = are_many contents files indexes kept indexed in let a = many.0 in let b = many.1 in omega (arith, low, a, b))

    pub file_small : spot.file < 2 ^ 32
    file_small = (let low = file_within in let few = files_small contents files kept in omega (arith, low, few))

    module _ (f : File) (got : slice_get files spot.file ≡ Some f) where
      among : IsAmong contents spot.file f at.x
      among = is_among contents files indexes spot.file f at.x kept indexed got at.there

      abbrev own : IsThere at.x.starts.top at.x.tops number spot.top
      own = there_is at.x.starts.top at.x.tops number spot.top at.own

      abbrev gives : GivesTop contents spot.file among.bytes f at.x among.is (number - at.x.starts.top) spot.top
      gives = gives_top contents spot.file among.bytes f at.x among.is (number - at.x.starts.top) spot.top own.item

      is_top : slice_get tops number ≡ Some gives.top
      is_top =
          let from = own.from in
          let place : number ≡ at.x.starts.top + (number - at.x.starts.top) = omega (arith, from) in
          ap (slice_get tops) place ∙ gives.top_is.there

      leads : LeadsOut (raw_units f.units) (around_of among.bytes (raw_units f.units)) at.x.starts at.x.spaces spot.top gives.top
      leads =
          subst (λ (w : List SpaceEntry). LeadsOut (raw_units f.units) (around_of among.bytes (raw_units f.units)) at.x.starts w spot.top gives.top) (sym among.is.index.tops.spaces_are)
          (leads_out among.is.kept.limits among.bytes (raw_units f.units) among.is.kept.read.doc at.x.starts spot.file (name_at at.x.starts among.is.kept.read.doc) (number - at.x.starts.top) spot.top gives.top
          among.is.kept.read.means (ap (λ (w : List TopEntry). slice_get w (number - at.x.starts.top)) (sym among.is.index.tops.tops_are) ∙ own.item) gives.top_is.of_file)

      way : IsWayOut among.bytes f at.x spot.top.inner (reverse gives.top.spaces)
      way = record { unit = leads.n; entries = leads.entries; out = leads.out; named = leads.named }

      -- what is put outward, the other way round
      pub names_are : {X : Type 0} (view : X → List ℕ) (x : Index) (first out new : List X) → slice_get indexes spot.file ≡ Some x → first ≡ []
          → ((l : Limits) (n : ℕ) (bytes : List ℕ) (said : List SpaceName) → IsRead l n bytes f → IsWayOut bytes f x spot.top.inner said → map view out ≡ map view first ++ map (λ name. name.text) said)
          → new ≡ reverse out → Some (map view new) ≡ option_map name_list (slice_get tops number)
      names_are {X} view x first out new is_index none put is =
          let same : at.x ≡ x = same_got indexes spot.file at.x x at.there is_index in
          let spaces = gives.top.spaces in
          let outward = put among.is.kept.limits spot.file among.bytes (reverse spaces) among.is.kept.read (subst (λ (w : Index). IsWayOut among.bytes f w spot.top.inner (reverse spaces)) same way) in
          let are = outward ∙ ap (λ (w : List X). map view w ++ map text_of (reverse spaces)) none in
          ap Some (turned view out new spaces are is) ∙ ap (option_map name_list) (sym is_top)
