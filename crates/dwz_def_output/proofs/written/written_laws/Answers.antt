use Rattle.dwz_def_output.specs.FilesAfter.{order_of}
use Rattle.dwz_def_output.proofs.AllMade.{are_made, common_tied, file_tied, read_back}
use Rattle.dwz_def_output.proofs.EitherOne.{either}
use Rattle.dwz_def_output.proofs.OfSections.{of_section}
use Rattle.dwz_def_output.proofs.OneRefusal.{one_refusal}
use Rattle.dwz_def_output.proofs.Orders.{is_order, same_order}
use Rattle.dwz_def_output.proofs.SectionsMade.{lists_made, lists_one, ranges_made, ranges_one}
use Rattle.dwz_def_output.proofs.written.written_laws.Goals as goal

pub returns-clause-order : goal.returns-clause-order
returns-clause-order c e = (is_order e, λ order is. same_order e order (order_of e) is (is_order e))

pub returns-clause-lists : goal.returns-clause-lists
returns-clause-lists c r file doc read = (lists_made r file doc read, lists_one r file doc read)

pub returns-clause-ranges : goal.returns-clause-ranges
returns-clause-ranges c r file doc read = (ranges_made r file read.reads.ranges, ranges_one r file read.reads.ranges)

pub returns-clause-refusal : goal.returns-clause-refusal
returns-clause-refusal c = one_refusal

pub returns-clause-either : goal.returns-clause-either
returns-clause-either c = either

pub returns-clause-section : goal.returns-clause-section
returns-clause-section c = of_section

pub returns-clause-made : goal.returns-clause-made
returns-clause-made c = are_made

pub returns-clause-back : goal.returns-clause-back
returns-clause-back c = read_back

pub returns-clause-tied : goal.returns-clause-tied
returns-clause-tied c scope name contents docs prunes bytes written no_zero = record {
  common = common_tied scope name contents docs prunes bytes written;
  file = λ file there moves imports. file_tied scope name contents docs prunes bytes written file there moves imports no_zero;
}
