-- What the units of a file and of its common file say, entry by entry, is stored in them.
use Rattle.std.proofs.Common.{◌≡◌, ◌≢◌, ℕ, suc, Bool, true, false, List, [], ◌∷◌, cond, eqb, Option, Some, None, refl, ap, subst, ◌∙◌, arith, inl, inr}
use Rattle.std.specs.Prelude.{slice_get}
use Rattle.std.proofs.lemmas.Bool.{eqb-false}
use Rattle.dwz_def_reading.specs.Lists.{Each, In, Nth}
use Rattle.dwz_def_reading.proofs.ListFacts.{in_cases}
use Rattle.dwz_def_reading.proofs.Members.{each_in, nth_get, nth_in}
use Rattle.dwz_def_reading.specs.Documents.{Attr, DwUnit, Entries, Node}
use Rattle.dwz_def_reading.specs.Entries.{RawAttr, RawEntry, of_common}
use Rattle.dwz_def_reading.specs.Files.{debug_abbrev, debug_info, no_files_before, sources_of}
use Rattle.dwz_def_reading.specs.Meanings.{Around, MeanAttrs, MeanEntries, MeanUnits, MeaningContext, MeansAttr, MeansNode, MeansUnit, scope_of, without_siblings}
use Rattle.dwz_def_reading.specs.Modes.{of_back}
use Rattle.dwz_def_reading.specs.Places.{Place, at_file}
use Rattle.dwz_def_reading.specs.Trees.{End, Entry, Forest}
use Rattle.dwz_def_reading.specs.Units.{RawUnit, root_tag}
use Rattle.dwz_def_reading.specs.Values.{AreBytes}
use Rattle.dwz_def_encoding.proofs.ReadAgain.{section_bytes}
use Rattle.dwz_def_expand.specs.OneFile.{CommonReads, FileRead, IsStoredAmong, IsStoredIn, OneFile, ReadsOne, around, limits_behind, part, stored_attr, units_read}
use Rattle.dwz_def_expand.specs.Refusals.{nodes}
use Rattle.dwz_def_expand.proofs.StoredLemmas.{attr_stored}
use Rattle.dwz_law_expand.specs.Told.{CommonIsBytes}
use Rattle.dwz_law_expand.proofs.HeldLemmas.{HoldsAll, IsFree, IsHeld, UnitHolds, back_suits, common_suits, units_held}

-- ---- units

-- a unit that is said is one that is stored
pub record SaidIn (f : OneFile) (number : ℕ) (u : RawUnit) (v : DwUnit Place) : Type 0 where
  pub there : In u (part f number).raw
  pub place : (around f number).place ≡ at_file number
  pub sources : (around f number).sources ≡ sources_of (part f number).bytes
  pub means : MeansUnit (around f number) u v
  pub holds : UnitHolds IsFree u

means_one : {P : Type 0} (a : Around P) (raw : List RawUnit) (units : List (DwUnit P)) → MeanUnits a raw units → (v : DwUnit P) → In v units → (u : RawUnit) × In u raw × MeansUnit a u v
means_one a [] [] h v there = absurd there
means_one a [] (x ∷ units) h v there = absurd h
means_one a (u ∷ raw) [] h v there = absurd h
means_one {P} a (u ∷ raw) (x ∷ units) h v (inl e) = (u, inl refl, subst (λ (w : DwUnit P). MeansUnit a u w) e h.0)
means_one a (u ∷ raw) (x ∷ units) h v (inr r) = let o = means_one a raw units h.1 v r in (o.0, inr o.1, o.2)

abbrev pub Said : OneFile → ℕ → DwUnit Place → Type 0
Said f number v = (u : RawUnit) × SaidIn f number u v

pub own_said : (common : Option FileRead) (file : FileRead) → ReadsOne (record { file = file; common = common }) → AreBytes file.bytes → (v : DwUnit Place) → In v file.doc.units
    → Said (record { file = file; common = common }) 0 v
own_said None file reads are v there =
    let o = means_one (around (record { file = file; common = None }) 0) file.raw file.doc.units reads.file.means v there in (
      o.0,
      record {
        there = o.1;
        place = refl;
        sources = refl;
        means = o.2;
        holds = units_held (of_back false _) IsFree (back_suits false (limits_behind None).entries) (debug_abbrev file.bytes) file.raw 0 0 (debug_info file.bytes) reads.file.spelled (section_bytes file.bytes 1 are) o.0 o.1;
      },
    )
own_said (Some c) file reads are v there =
    let o = means_one (around (record { file = file; common = Some c }) 0) file.raw file.doc.units reads.file.means v there in (
      o.0,
      record {
        there = o.1;
        place = refl;
        sources = refl;
        means = o.2;
        holds = units_held (of_back true _) IsFree (back_suits true (limits_behind (Some c)).entries) (debug_abbrev file.bytes) file.raw 0 0 (debug_info file.bytes) reads.file.spelled (section_bytes file.bytes 1 are) o.0 o.1;
      },
    )

pub common_said : (common : Option FileRead) (file : FileRead) → CommonReads common → CommonIsBytes common → (v : DwUnit Place) → In v (units_read common)
    → Said (record { file = file; common = common }) 1 v
common_said None file reads are v there = absurd there
common_said (Some c) file reads are v there =
    let o = means_one (around (record { file = file; common = Some c }) 1) c.raw c.doc.units reads.means v there in (
      o.0,
      record {
        there = o.1;
        place = refl;
        sources = refl;
        means = o.2;
        holds = units_held (of_common _) IsFree (common_suits no_files_before.entries) (debug_abbrev c.bytes) c.raw 0 0 (debug_info c.bytes) reads.spelled (section_bytes c.bytes 1 are) o.0 o.1;
      },
    )

-- ---- entries

pub record NodeSaid (s : MeaningContext Place) (May : ℕ → Type 0) (u : RawUnit) (d : Node Place) : Type 0 where
  pub raw : RawEntry
  pub stored : IsStoredIn raw u
  pub means : MeansNode s raw d
  pub holds : HoldsAll May raw

below_said : (s : MeaningContext Place) (g : Forest RawEntry) (e : Entries Place) → MeanEntries s g e → (d : Node Place) → In d (nodes e) → (raw : RawEntry) × IsStoredAmong raw g × MeansNode s raw d
unfolding nodes
below_said s End End h d there = absurd there
below_said s End (Entry x c n) h d there = absurd h
below_said s (Entry r f g) End h d there = absurd h
below_said s (Entry r f g) (Entry x c n) h d (inl e) = (r, inl refl, subst (λ (w : Node Place). MeansNode s r w) e h.0)
below_said s (Entry r f g) (Entry x c n) h d (inr k) = elim (in_cases d (nodes c) (nodes n) k) [
  | inl a ↦ (let o = below_said s f c h.1 d a in (o.0, inr (inl o.1), o.2))
  | inr b ↦ (let o = below_said s g n h.2 d b in (o.0, inr (inr o.1), o.2))
]

module _ (f : OneFile) (number : ℕ) (u : RawUnit) (v : DwUnit Place) (said : SaidIn f number u v) where
  abbrev pub scope : MeaningContext Place
  scope = scope_of (around f number) u

  pub root_said : NodeSaid scope (IsFree (root_tag u.kind) true) u v.root
  root_said = record { raw = u.root; stored = inl refl; means = said.means.root; holds = said.holds.root }

  pub node_said : (d : Node Place) → In d (nodes v.below) → NodeSaid scope (IsFree (root_tag u.kind) false) u d
  node_said d there = (let o = below_said scope u.below v.below said.means.below d there in record { raw = o.0; stored = inr o.1; means = o.2; holds = said.holds.below o.0 o.1 })

-- ---- attributes

pub record AttrSaid (s : MeaningContext Place) (May : ℕ → Type 0) (e : RawEntry) (i : ℕ) (a : Attr Place) : Type 0 where
  pub old : RawAttr
  pub got : slice_get (without_siblings e.attrs) i ≡ Some old
  pub means : MeansAttr s old a
  pub held : IsHeld May old
  pub no_sibling : old.pair.name ≢ 0x01

abbrev IsOther : (ℕ → Type 0) → RawAttr → Type 0
IsOther May x = IsHeld May x × (x.pair.name ≢ 0x01)

others : (May : ℕ → Type 0) (attrs : List RawAttr) → Each (IsHeld May) attrs → Each (IsOther May) (without_siblings attrs)
unfolding without_siblings
others May [] held = tt
others May (a ∷ attrs) held = go (others May attrs held.1) (eqb a.pair.name 0x01) refl where
  go : Each (IsOther May) (without_siblings attrs) → (t : Bool) → eqb a.pair.name 0x01 ≡ t → Each (IsOther May) (cond t (without_siblings attrs) (a ∷ without_siblings attrs))
  go rest true e = rest
  go rest false e = ((held.0, eqb-false a.pair.name 0x01 e), rest)

attr_means : (s : MeaningContext Place) (n : ℕ) (raw : List RawAttr) (attrs : List (Attr Place)) → MeanAttrs s raw attrs → (i : ℕ) (a : Attr Place) → Nth n attrs i a
    → (old : RawAttr) × Nth n raw i old × MeansAttr s old a
attr_means s n [] [] h i a nth = absurd nth
attr_means s n [] (b ∷ attrs) h i a nth = absurd h
attr_means s n (r ∷ raw) [] h i a nth = absurd h
attr_means s n (r ∷ raw) (b ∷ attrs) h i a (inl e) = (r, inl (e.0, refl), subst (λ (w : Attr Place). MeansAttr s r w) e.1 h.0)
attr_means s n (r ∷ raw) (b ∷ attrs) h i a (inr k) = let o = attr_means s (suc n) raw attrs h.1 i a k in (o.0, inr o.1, o.2)

pub attr_said : (s : MeaningContext Place) (May : ℕ → Type 0) (u : RawUnit) (d : Node Place) → (n : NodeSaid s May u d) → (i : ℕ) (a : Attr Place) → Nth 0 d.attrs i a → AttrSaid s May n.raw i a
attr_said s May u d n i a nth =
    let o = attr_means s 0 (without_siblings n.raw.attrs) d.attrs n.means.attrs i a nth in
    let held = each_in (IsOther May) o.0 (without_siblings n.raw.attrs) (others May n.raw.attrs n.holds.attrs) (nth_in 0 (without_siblings n.raw.attrs) i o.0 o.1) in
    record { old = o.0; got = nth_get 0 (without_siblings n.raw.attrs) i i o.0 o.1 (omega arith); means = o.2; held = held.0; no_sibling = held.1 }

-- it is found by the place of its entry, and its number there
pub found_attr : (f : OneFile) → ReadsOne f → (number : ℕ) (u : RawUnit) (v : DwUnit Place) (said : SaidIn f number u v) (May : ℕ → Type 0) (d : Node Place)
    → (n : NodeSaid (scope_of (around f number) u) May u d) → (i : ℕ) (a : Attr Place) → (x : AttrSaid (scope_of (around f number) u) May n.raw i a)
    → stored_attr f d.at i ≡ Some (record { scope = scope_of (around f number) u; attr = x.old })
found_attr f reads number u v said May d n i a x =
    let s = scope_of (around f number) u in
    let at : d.at ≡ at_file number n.raw.at = n.means.place ∙ ap (λ (g : ℕ → Place). g n.raw.at) said.place in
    ap (λ (p : Place). stored_attr f p i) at ∙ attr_stored f reads number u n.raw said.there n.stored i ∙ rw x.got refl
