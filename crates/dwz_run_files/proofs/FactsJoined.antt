-- What was settled, ordered and listed of the files of a run makes facts, and what is written of them is prepared: with the texts of the
-- common file it can be pruned, and laid.
use Rattle.std.proofs.Common.{◌≡◌, ℕ, Bool, List, map, refl, sym, subst, ◌∙◌}
use Rattle.dwz_def_reading.specs.Values.{AreBytes}
use Rattle.dwz_def_reading.specs.Lists.{Each}
use Rattle.dwz_def_tops.specs.Spots.{file_numbers}
use Rattle.dwz_def_readback.specs.Files.{imports_common}
use Rattle.dwz_def_output.specs.Written.{ArePrunable, stored_of}
use Rattle.dwz_graph.specs.declared.file.File.{File}
use Rattle.dwz_graph.specs.Files.{AreKept, docs_of}
use Rattle.dwz_layout.specs.declared.known.EntryTable.{EntryTable}
use Rattle.dwz_layout.specs.declared.order.UnitItems.{UnitItems}
use Rattle.dwz_layout_input.specs.Rules.{rule_by}
use Rattle.dwz_layout_order.specs.declared.orders.Settled.{Settled}
use Rattle.dwz_law_layout.specs.Beside.{Alone}
use Rattle.dwz_law_layout.specs.Facts.{AreFacts, RunFacts, docs, move, run, units}
use Rattle.dwz_law_layout.specs.Listed.{TextsAt}
use Rattle.dwz_layout_input.specs.Settled.{AreStored}
use Rattle.dwz_layout_input.proofs.Fits.{made}
use Rattle.dwz_encode_texts.specs.TextLaws.{StandAsRead}
use Rattle.dwz_encode_texts.proofs.LawLemmas.{stand_law}
use Rattle.dwz_run_files.specs.Prepared.{ArePrepared, AreRanks}
use Rattle.dwz_run_files.proofs.FilesStored.{are_stored, read_so}
use Rattle.dwz_run_files.proofs.FactsNumbered.{planned_facts}
use Rattle.dwz_run_files.specs.declared.common.WholeLists.{WholeLists}
use Rattle.dwz_run_files.specs.Common.{AreWhole, StandBefore}
use Rattle.dwz_run_files.specs.declared.settled.SettledRun.{SettledRun}
use Rattle.dwz_run_files.specs.declared.ordered.OrderedFiles.{OrderedFiles}
use Rattle.dwz_run_files.specs.SettledRun.{IsSettledRun, AreListedAsRead, AreOrdered, AreTheirs}
use Rattle.dwz_run_files.proofs.FilesTold.{AreTold}
use Rattle.dwz_run_files.proofs.RunSettled.{docs_many}

-- the files were read from these contents, and were settled, ordered, and listed as they were read; and the flags say which are prunable
pub record AreJoined (contents : List (List ℕ)) (files : List File) (prunes : List Bool) (a : SettledRun) (o : OrderedFiles)
    (k : EntryTable) : Type 0 where
  pub bytes : Each AreBytes contents
  pub kept : AreKept contents files
  pub prunable : ArePrunable contents (docs_of contents) prunes
  pub settled : IsSettledRun contents a
  pub ordered : AreOrdered contents a o
  pub listed : AreListedAsRead contents files a k

module _ (contents : List (List ℕ)) (files : List File) (prunes : List Bool) (a : SettledRun) (o : OrderedFiles) (k : EntryTable)
    (j : AreJoined contents files prunes a o k) where
  abbrev pub joined : RunFacts Alone
  joined = record {
    contents = contents;
    files = files;
    indexes = a.indexes.now;
    rule = rule_by a.settled.scope (docs_of contents);
    input = stored_of contents prunes;
    planned = a.settled.planned.plan;
    commons = j.listed.numbers.commons;
    parts = j.listed.numbers.parts.items;
    olds = j.listed.numbers.olds.items;
  }

  theirs : AreTheirs contents a joined
  theirs = record { contents_are = refl; indexes_are = refl; rule_is = refl; plan_is = refl }

  stored : AreStored joined
  stored = record { bytes = j.bytes; kept = j.kept; indexed = j.settled.indexed; stored = are_stored Alone joined prunes j.kept refl }

  pub facts : AreFacts joined
  facts =
      planned_facts contents a.indexes.now a.settled.scope a.settled.planned joined j.settled.planned theirs stored a.settled.written.items
      j.listed.numbers
      (j.settled.flags.are joined theirs) j.listed.numbered (record { commons = refl; parts = refl; olds = refl })

  abbrev orders : List (List UnitItems)
  orders = o.orders.items

  abbrev lent : Settled
  lent = j.ordered.order.lent

  prepared : ArePrepared joined lent j.listed.texts k orders
  prepared = record {
    facts = facts;
    beside_are = tt;
    read = (read_so contents files prunes j.bytes j.kept j.prunable).1;
    settled = j.settled.settled joined lent theirs j.ordered.order.lends;
    ordered = j.ordered.order.are;
    listed = j.listed.listed joined (made Alone joined j.listed.numbers facts refl refl refl);
  }

  as_read : StandAsRead joined j.listed.texts
  as_read = stand_law joined j.listed.texts j.listed.texts_are j.listed.names

  pub importing : a.settled.importing.items ≡ map (imports_common (move joined) (units joined)) (file_numbers 0 (docs joined))
  importing = j.settled.importing joined theirs

  -- so it stands before the common file has its texts, with the flags and the orders that are lent
  module _ (flags : List Bool) (flags_are : flags ≡ a.settled.importing.items) (lends : List (List UnitItems))
      (lends_are : lends ≡ o.orders.items) where
    pub before : StandBefore contents files flags k lends joined j.ordered.order.lent j.listed.texts
    before = record {
      contents_are = refl;
      files_are = refl;
      importing_are = flags_are ∙ importing;
      prepared = subst (λ (w : List (List UnitItems)). ArePrepared joined j.ordered.order.lent j.listed.texts k w) (sym lends_are) prepared;
      as_read = as_read;
    }

    -- and what has the texts of the common file then has them by the orders themselves
    pub whole_so : (w : WholeLists)
        → ((f : RunFacts Alone) (s : Settled) (t : TextsAt) → StandBefore contents files flags k lends f s t → AreWhole f s lends w)
        → AreWhole joined j.ordered.order.lent o.orders.items w
    whole_so w gives =
        subst (λ (orders : List (List UnitItems)). AreWhole joined j.ordered.order.lent orders w) lends_are
        (gives joined j.ordered.order.lent j.listed.texts before)

  pub ranks : AreRanks joined o.ranks.items
  ranks = j.ordered.ranks joined (j.settled.flags.are joined theirs)

  -- what is known then with the texts of the common file is known of these files by the ranks and the first units that they have
  pub told : (w : WholeLists) → AreWhole joined j.ordered.order.lent o.orders.items w
      → AreTold joined contents prunes j.ordered.order.lent o w.known
  told w whole = record {
    contents_are = refl;
    prunes_are = λ n. refl;
    bytes_are = λ n. refl;
    known = whole.known;
    ranks = ranks;
    firsts = j.ordered.firsts;
    long = docs_many contents a j.settled;
  }
