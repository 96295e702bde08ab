use Rattle.std.proofs.Common.{[]}
use Rattle.dwz_check_columns.proofs.NonePut.{file_behind, index_behind, no_file, no_index, nodes_none, shared_file, units_none}
use Rattle.dwz_check_columns.proofs.files.put_common.Goals as goal

pub put_file-requires : goal.put_file-requires
put_file-requires c =
    let r = c.requires.said in
    record {
      said = (r.0, [], r.1, r.2, shared_file c.args.common c.args.index c.in-Some.file c.in-Some-index.index r.0 r.1 c.in-Some.is c.in-Some-index.is r.3 c.requires.few);
      some = c.requires.some;
      next = c.requires.next;
      unit = c.requires.unit;
      lone = c.requires.lone;
      common = c.requires.common;
    }

pub returns-in-None-clause-nodes : goal.returns-in-None-clause-nodes
returns-in-None-clause-nodes c = λ said top h. nodes_none said c.args.nodes.now (no_file c.args.common (index_behind c.args.index) said top c.in-None.is h)

pub returns-in-None-clause-units : goal.returns-in-None-clause-units
returns-in-None-clause-units c = λ said top h.
    units_none said top c.args.first.unit c.args.first.lone c.args.first.common c.args.units.now (no_file c.args.common (index_behind c.args.index) said top c.in-None.is h)

pub returns-in-None-index-clause-nodes : goal.returns-in-None-index-clause-nodes
returns-in-None-index-clause-nodes c = λ said top h. nodes_none said c.args.nodes.now (no_index (file_behind c.args.common) c.args.index said top c.in-None-index.is h)

pub returns-in-None-index-clause-units : goal.returns-in-None-index-clause-units
returns-in-None-index-clause-units c = λ said top h.
    units_none said top c.args.first.unit c.args.first.lone c.args.first.common c.args.units.now (no_index (file_behind c.args.common) c.args.index said top c.in-None-index.is h)

pub returns-in-Some-index-clause-nodes : goal.returns-in-Some-index-clause-nodes
returns-in-Some-index-clause-nodes c = λ said top h.
    c.put_file.ensures.nodes said [] top
    (shared_file c.args.common c.args.index c.in-Some.file c.in-Some-index.index said top c.in-Some.is c.in-Some-index.is h c.requires.few)

pub returns-in-Some-index-clause-units : goal.returns-in-Some-index-clause-units
returns-in-Some-index-clause-units c = λ said top h.
    c.put_file.ensures.units said [] top
    (shared_file c.args.common c.args.index c.in-Some.file c.in-Some-index.index said top c.in-Some.is c.in-Some-index.is h c.requires.few)
