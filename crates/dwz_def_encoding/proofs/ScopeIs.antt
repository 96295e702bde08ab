-- What a scope has, where a unit that was written is read.
use Rattle.std.proofs.Common.{◌≡◌, ℕ, List, map, Some, Ok}
use Rattle.dwz_def_reading.specs.Lists.{In}
use Rattle.dwz_def_reading.specs.Texts.{IsTextAt}
use Rattle.dwz_def_reading.specs.Units.{RawUnit}
use Rattle.dwz_def_reading.specs.Meanings.{Around, Common, MeaningContext, loclists_base, scope_of, stmt_list, str_offsets_base}
use Rattle.dwz_def_reading.specs.Meant.{unit_meaning}
use Rattle.dwz_def_encoding.specs.Meant.{AreRenumbered, Own, Tells}
use Rattle.dwz_def_reading.specs.Shared.{NoneShared}
use Rattle.dwz_def_reading.specs.Documents.{DwUnit}
use Rattle.dwz_def_reading.proofs.MeaningUnits.{unit_agrees}
use Rattle.dwz_def_encoding.specs.Writing.{Numbering}
use Rattle.dwz_def_encoding.specs.Bases.{bases_in, bases_of}
use Rattle.dwz_def_encoding.proofs.ReadAgain.{bases_read}

-- the scope of a unit that was written, where its keys have these places
pub record IsScope {K P : Type 0} (n : Numbering K) (g : K → P) (at : ℕ) (t : Tells K) (own : Own K) (s : MeaningContext P) : Type 0 where
  pub strs : s.around.sources.strs ≡ t.strs
  pub line_strs : s.around.sources.line_strs ≡ t.line_strs
  pub offsets : s.around.sources.offsets ≡ t.offsets
  pub line : s.around.sources.line ≡ t.line
  pub common_strs : (at : ℕ) (text : List ℕ) → IsTextAt t.common_strs at text → (c : Common P) × (s.around.common ≡ Some c) × IsTextAt c.strs at text
  pub slots : str_offsets_base s ≡ own.bases.slots
  pub table : stmt_list s ≡ own.bases.line
  pub lists_base : loclists_base s ≡ own.bases.lists
  pub own_at : n.place own.at ≡ at
  pub none_shared : NoneShared t.named
  pub lists : AreRenumbered n t s.around.sources.lists
  pub unit : s.unit ≡ at
  pub own_are : s.own ≡ map n.place own.keys
  pub all_are : s.around.all ≡ map n.place t.all
  pub place_own : (k : K) → In k own.keys → s.around.place (n.place k) ≡ g k
  pub place_all : (k : K) → In k t.all → s.around.place (n.place k) ≡ g k
  pub common : (k : K) → In k t.common → (c : Common P) × (s.around.common ≡ Some c) × In (n.place k) c.entries × (c.place (n.place k) ≡ g k)

-- its root says the same of slots, of a line table and of lists
pub own_bases : (around : Around ℕ) (u : RawUnit) (v : DwUnit ℕ) → unit_meaning around u ≡ Ok v → bases_of (scope_of around u) ≡ bases_in v
own_bases around u v e = bases_read (scope_of around u) v.root.attrs (((unit_agrees around u).ok v).0 e).root.attrs
